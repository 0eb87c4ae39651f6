use Rattle.std.proofs.Common.{◌≡◌, ◌∙◌, ap, sym, subst, arith}
use Rattle.std.specs.Prelude.{Contains, Some}
use Rattle.std.proofs.lemmas.List.{map_push}
use Rattle.std.proofs.lemmas.List.Elements.{Contains-push}
use Rattle.rr_trail.specs.Trails.{Entry, lits}
use Rattle.rr_watch_lists.specs.Holdings.{all_numbered, held_at}
use Rattle.rr_watch.specs.Watches.{Named}
use Rattle.rr_watch.proofs.WantLaws.{named_at}
use Rattle.rr_watch.proofs.StateLaws.{State-push, all_false, open_within}
use Rattle.rr_watch.proofs.propagator.Propagator.enforce.Goals as goal

pub returns-then-is_false-clause-conflict : goal.returns-then-is_false-clause-conflict
returns-then-is_false-clause-conflict c =
    let o = c.args.self.now in
    let i = c.args.index in
    let id : (held_at o.hand.held i).id ≡ c.id-id.result = sym c.id-id.ensures in
    ((held_at o.hand.held i).clause, (subst (λ n. Named (all_numbered o.hand.held) n (held_at o.hand.held i).clause) id (named_at o.hand.held i c.requires.index), all_false (lits o.trail.entries) (held_at o.hand.held i).clause c.args.lit c.requires.forces (c.is_false.ensures.0 c.if-is_false.true)))

pub returns-clause-whole : goal.returns-clause-whole
returns-clause-whole c =
    let o = c.args.self.now in
    let i = c.args.index in
    let e = c.force.ensures.state in
    let p = c.requires.whole in
    let id : (held_at o.hand.held i).id ≡ c.id-id.result = sym c.id-id.ensures in
    State-push o.trail o.hand.held o.lists o.short.items o.settled o.head o.late p c.force.new.self _ o.late (ap (λ s. s.vars) e) (ap (λ s. s.entries) e) c.force.ensures.lawful c.force.ensures.room (open_within o.trail.vars (held_at o.hand.held i).clause c.args.lit (p.within i c.requires.index) c.requires.forces.member) (sym (ap (λ s. s.depth) e))
    (omega arith) (λ k a b x. p.pending k a b x ∙ sym (ap (λ s. s.depth) e))
    (λ n r. ((held_at o.hand.held i).clause, (subst (λ m. Named (all_numbered o.hand.held) m (held_at o.hand.held i).clause) (id ∙ (let z : Some c.id-id.result ≡ Some n = r in cc)) (named_at o.hand.held i c.requires.index), c.requires.forces)))

pub returns-clause-forced : goal.returns-clause-forced
returns-clause-forced c =
    let o = c.args.self.now in
    let e = ap (λ s. lits s.entries) c.force.ensures.state ∙ map_push (λ (x : Entry). x.lit) o.trail.entries _ in
    subst (λ t. Contains t c.args.lit) (sym e) (Contains-push (lits o.trail.entries) c.args.lit)
