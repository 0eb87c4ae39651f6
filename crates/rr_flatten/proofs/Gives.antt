-- What an item with a statement adds to a walk, where it has no fault.
use Rattle.std.proofs.Common.{◌≡◌, ℕ, [], Ok}
use Rattle.rr_syntax.specs.Tree.{Statement, EventControl}
use Rattle.rr_unfold.specs.Unfold.{Count, counted, unfold_statement}
use Rattle.rr_flatten.specs.Walk.{Walked, scope_at, loops_at, with_block, always, with_initial, initial}
use Rattle.rr_flatten.proofs.HeadOf.{first_ok, settled_is}

pub always_gives : (i : ℕ) (events : EventControl) (s : Statement) (at : ℕ) (w t : Walked) → always i events s at w ≡ Ok t
    → (c : Count) × ((counted w.limit (loops_at w i) (scope_at w i) [] s w.count ≡ Ok c) × (with_block i events (unfold_statement (scope_at w i) [] s) at (record w { count = c }) ≡ t))
unfolding always
always_gives i events s at w t e =
    let r = first_ok (counted w.limit (loops_at w i) (scope_at w i) [] s w.count) _ t e in
    (r.0, (r.1.0, settled_is _ (with_block i events (unfold_statement (scope_at w i) [] s) at (record w { count = r.0 })) t r.1.1))

pub initial_gives : (i : ℕ) (s : Statement) (at : ℕ) (w t : Walked) → initial i s at w ≡ Ok t
    → (c : Count) × ((counted w.limit (loops_at w i) (scope_at w i) [] s w.count ≡ Ok c) × (with_initial i (unfold_statement (scope_at w i) [] s) at (record w { count = c }) ≡ t))
unfolding initial
initial_gives i s at w t e =
    let r = first_ok (counted w.limit (loops_at w i) (scope_at w i) [] s w.count) _ t e in
    (r.0, (r.1.0, settled_is _ (with_initial i (unfold_statement (scope_at w i) [] s) at (record w { count = r.0 })) t r.1.1))
