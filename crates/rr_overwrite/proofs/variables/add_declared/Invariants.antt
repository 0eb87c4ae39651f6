use Rattle.std.proofs.Common.{◌≡◌, ◌||◌, map, drop}
use Rattle.rr_syntax.specs.View.{plain_declarator}
use Rattle.rr_flat.specs.Signals.{Text}
use Rattle.rr_guard.specs.Candidates.{is_among}
use Rattle.rr_guard.specs.Names.{net_name}
use Rattle.rr_overwrite.specs.Overwrites.{is_in}
use Rattle.rr_overwrite.proofs.variables.add_declared.Given as goal

abbrev pub invariant-loop-declared : goal.invariant-loop-declared
invariant-loop-declared l =
    (name : Text) → (is_among name l.set || is_in name (map (λ n. net_name (plain_declarator n)) (drop l.declared-index l.names))) ≡ (is_among name l.fn.set || is_in name (map (λ n. net_name (plain_declarator n)) l.names))
