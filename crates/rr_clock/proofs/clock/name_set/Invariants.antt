use Rattle.std.proofs.Common.{◌≡◌, ◌||◌, List, ℕ, map, drop, is_some}
use Rattle.rr_syntax.specs.View.{plain_identifier}
use Rattle.rr_expr.specs.Scopes.{lookup}
use Rattle.rr_flat.specs.Clocks.{is_among}
use Rattle.rr_clock.proofs.clock.name_set.Given as goal

abbrev pub invariant-loop-named : goal.invariant-loop-named
invariant-loop-named l =
    (name : List ℕ) → (is_some (lookup name l.set) || is_among name (map plain_identifier (drop l.named-index l.list))) ≡ is_among name (map plain_identifier l.list)
