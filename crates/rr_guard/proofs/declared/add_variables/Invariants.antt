use Rattle.std.proofs.Common.{◌≡◌, ◌++◌, map, drop}
use Rattle.std.specs.Prelude.{flat_map}
use Rattle.rr_syntax.specs.View.{plain_identifier}
use Rattle.rr_syntax.specs.View.{plain_declarator}
use Rattle.rr_guard.specs.Names.{wordless_name}
use Rattle.rr_guard.proofs.declared.add_variables.Given as goal

abbrev pub invariant-loop-name : goal.invariant-loop-name
invariant-loop-name l = map plain_identifier l.list.items ++ flat_map (λ x. wordless_name (plain_declarator x)) (drop l.name-index l.names) ≡ map plain_identifier l.fn.list.items ++ flat_map (λ x. wordless_name (plain_declarator x)) l.names
