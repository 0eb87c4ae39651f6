use Rattle.std.proofs.Common.{◌≡◌, ◌<◌, ℕ, ap, sym, subst, arith, refl}
use Rattle.std.specs.Prelude.{Contains, None, Some}
use Rattle.rr_cnf.specs.Clauses.{negated}
use Rattle.rr_trail.specs.Trails.{entry, lits}
use Rattle.rr_watch.specs.Lists.{IsBest, Serves, literal_at}
use Rattle.rr_watch.proofs.PlaceLaws.{alike_none, alike_one, serves_first, serves_second}
use Rattle.rr_watch.proofs.StateSteps.{literal_is}
use Rattle.rr_watch.proofs.AheadLaws.{ahead_held}
use Rattle.rr_watch.proofs.propagator.Propagator.place.Goals as goal

pub hold_short-requires-clause-alike : goal.hold_short-requires-clause-alike
hold_short-requires-clause-alike c = alike_none c.args.self.now.trail.entries c.args.clause.now c.in_default.ensures

pub hold_short-requires-in_default-best-clause-alike : goal.hold_short-requires-in_default-best-clause-alike
hold_short-requires-in_default-best-clause-alike c = alike_one c.args.self.now.trail.entries c.args.clause.now c.index-clause-first.result c.in_default-best.ensures

pub hold-requires-clause-first : goal.hold-requires-clause-first
hold-requires-clause-first c =
    let o = c.args.self.now in
    let p = c.requires.whole in
    let n = c.rewind.new.self in
    let t : n.trail ≡ o.trail = ap (λ x. x.trail) c.rewind.ensures.state in
    let late : n.late ≡ o.late = ap (λ x. x.late) c.rewind.ensures.state in
    let bf : IsBest o.trail.entries c.args.clause.now None c.in-Some.first = c.in-Some.ensures in
    let one : c.index-clause-first.result ≡ literal_at c.args.clause.now c.in-Some.first = literal_is c.args.clause.now c.args.clause.now c.in-Some.first c.index-clause-first.result refl bf.inside c.index-clause-first.is in
    let bs : IsBest o.trail.entries c.args.clause.now (Some (literal_at c.args.clause.now c.in-Some.first)) c.in-Some-best.second = subst (λ x. IsBest o.trail.entries c.args.clause.now (Some x) c.in-Some-best.second) one c.in-Some-best.ensures in
    let two : c.index-clause-second.result ≡ literal_at c.args.clause.now c.in-Some-best.second = literal_is c.args.clause.now c.args.clause.now c.in-Some-best.second c.index-clause-second.result refl bs.inside c.index-clause-second.is in
    let seen = subst (λ x. Contains (lits o.trail.entries) (negated x) → (k : ℕ) → k < n.head → (entry o.trail.entries k).level < o.trail.depth) two c.rewind.ensures.seen in
    let s = serves_first o.trail p.lawful (omega (arith, p.fits, p.most)) n.head o.late (omega (arith, p.seen, c.rewind.ensures.low)) c.args.clause.now c.requires.may c.in-Some.first c.in-Some-best.second bf bs seen in
    subst (λ x. Serves x.entries n.head n.late (literal_at c.args.clause.now c.in-Some.first) c.args.clause.now) (sym t) (subst (λ x. Serves o.trail.entries n.head x (literal_at c.args.clause.now c.in-Some.first) c.args.clause.now) (sym late) s)

pub hold-requires-clause-second : goal.hold-requires-clause-second
hold-requires-clause-second c =
    let o = c.args.self.now in
    let p = c.requires.whole in
    let n = c.rewind.new.self in
    let t : n.trail ≡ o.trail = ap (λ x. x.trail) c.rewind.ensures.state in
    let late : n.late ≡ o.late = ap (λ x. x.late) c.rewind.ensures.state in
    let bf : IsBest o.trail.entries c.args.clause.now None c.in-Some.first = c.in-Some.ensures in
    let one : c.index-clause-first.result ≡ literal_at c.args.clause.now c.in-Some.first = literal_is c.args.clause.now c.args.clause.now c.in-Some.first c.index-clause-first.result refl bf.inside c.index-clause-first.is in
    let bs : IsBest o.trail.entries c.args.clause.now (Some (literal_at c.args.clause.now c.in-Some.first)) c.in-Some-best.second = subst (λ x. IsBest o.trail.entries c.args.clause.now (Some x) c.in-Some-best.second) one c.in-Some-best.ensures in
    let two : c.index-clause-second.result ≡ literal_at c.args.clause.now c.in-Some-best.second = literal_is c.args.clause.now c.args.clause.now c.in-Some-best.second c.index-clause-second.result refl bs.inside c.index-clause-second.is in
    let seen = subst (λ x. Contains (lits o.trail.entries) (negated x) → (k : ℕ) → k < n.head → (entry o.trail.entries k).level < o.trail.depth) two c.rewind.ensures.seen in
    let s = serves_second o.trail p.lawful (omega (arith, p.fits, p.most)) n.head o.late (omega (arith, p.seen, c.rewind.ensures.low)) c.args.clause.now c.requires.may c.in-Some.first c.in-Some-best.second bf bs seen in
    subst (λ x. Serves x.entries n.head n.late (literal_at c.args.clause.now c.in-Some-best.second) c.args.clause.now) (sym t) (subst (λ x. Serves o.trail.entries n.head x (literal_at c.args.clause.now c.in-Some-best.second) c.args.clause.now) (sym late) s)

pub returns-clause-ahead : goal.returns-clause-ahead
returns-clause-ahead c = ahead_held c.args.self.now c.rewind.new.self c.hold.new.self c.args.source c.args.clause.now c.hold.result c.requires.whole c.rewind.ensures.state c.rewind.ensures.low c.hold.ensures.head c.hold.ensures.trail c.hold.ensures.ok c.hold.ensures.seen
