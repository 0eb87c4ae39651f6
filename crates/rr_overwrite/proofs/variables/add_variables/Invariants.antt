use Rattle.std.proofs.Common.{◌≡◌, ◌||◌, map, drop}
use Rattle.std.specs.List.{list_any}
use Rattle.rr_syntax.specs.View.{plain_declarator}
use Rattle.rr_flat.specs.Signals.{Text}
use Rattle.rr_guard.specs.Candidates.{is_among}
use Rattle.rr_guard.specs.Names.{wordless_name}
use Rattle.rr_overwrite.specs.Overwrites.{is_in}
use Rattle.rr_overwrite.proofs.variables.add_variables.Given as goal

abbrev pub invariant-loop-declared : goal.invariant-loop-declared
invariant-loop-declared l =
    (name : Text) → (is_among name l.set || list_any (λ n. is_in name (wordless_name n)) (map plain_declarator (drop l.declared-index l.names))) ≡ (is_among name l.fn.set || list_any (λ n. is_in name (wordless_name n)) (map plain_declarator l.names))
