use Rattle.std.proofs.Common.{◌≡◌, ◌⊎◌, ◌++◌, ◌∷◌, [], sym, subst, length}
use Rattle.rr_watch_lists.specs.Holdings.{Held, coming, held_at}
use Rattle.rr_watch.specs.Lists.{IsLong, IsPropagator, IsShort}
use Rattle.rr_watch.proofs.StateSteps.{State-short, seen_short}
use Rattle.rr_watch.proofs.propagator.Propagator.hold_short.Goals as goal

pub returns-clause-whole : goal.returns-clause-whole
returns-clause-whole c =
    let o = c.args.self.now in
    let h : Held = coming o.hand c.args.source c.args.clause.now (record { first = 0; second = 0 }) in
    let n : length o.hand.held ≡ c.len-index.result = sym c.len-index.ensures in
    let w = State-short o.trail o.hand.held o.lists o.short.items o.settled o.head o.late c.requires.whole h c.requires.new.few c.requires.new.id c.requires.new.within c.requires.alike c.requires.lists in
    rw (c.in_ok-push.ensures.ok, c.push_reserved.ensures.items) (subst (λ i. IsPropagator o.trail (o.hand.held ++ h ∷ []) o.lists (o.short.items ++ i ∷ []) o.settled o.head o.late) n w)

pub returns-clause-seen : goal.returns-clause-seen
returns-clause-seen c =
    let o = c.args.self.now in
    let h : Held = coming o.hand c.args.source c.args.clause.now (record { first = 0; second = 0 }) in
    let n : length o.hand.held ≡ c.len-index.result = sym c.len-index.ensures in
    rw (c.in_ok-push.ensures.ok, c.push_reserved.ensures.items) (λ head k b x. subst (λ i. IsLong o.trail.entries o.lists head o.late k (held_at (o.hand.held ++ h ∷ []) k) ⊎ IsShort (o.short.items ++ i ∷ []) k (held_at (o.hand.held ++ h ∷ []) k).clause) n
    (seen_short o.trail o.hand.held o.lists o.short.items o.settled o.head o.late c.requires.whole h c.requires.new.few c.requires.new.id c.requires.new.within o.late head k b x))
