use Rattle.std.proofs.Common.{◌≡◌, [], drop}
use Rattle.rr_syntax.specs.View.{plain_statements}
use Rattle.rr_flat.specs.Sound.{names_at}
use Rattle.rr_starts.specs.Starts.{all_initial_faults, all_started}
use Rattle.rr_starts.proofs.initials.+setting.Given as goal

abbrev pub invariant-set_all-loop-stmt : goal.invariant-set_all-loop-stmt
invariant-set_all-loop-stmt l =
    (l.flat ≡ record l.fn.flat { starts = l.flat.starts })
    × (all_initial_faults (names_at l.fn.flat.scopes l.scope) (plain_statements (drop l.stmt-index l.body)) ≡ [])
    × (all_started (names_at l.fn.flat.scopes l.scope) (plain_statements (drop l.stmt-index l.body)) l.flat.starts ≡ all_started (names_at l.fn.flat.scopes l.scope) (plain_statements l.body) l.fn.flat.starts)
