use Rattle.std.proofs.Common.{◌≡◌, ◌∙◌, ◌<◌, ◌≤◌, ◌++◌, ◌∷◌, [], length, sym, ap, subst, arith}
use Rattle.std.specs.Prelude.{All}
use Rattle.std.proofs.lemmas.List.Elements.{All-get_or}
use Rattle.rr_cnf.specs.Clauses.{IsWithin, negated}
use Rattle.rr_trail.specs.Trails.{entry}
use Rattle.rr_trail.proofs.EntryLaws.{length_lits}
use Rattle.rr_analysis.specs.Workspaces.{IsBegun}
use Rattle.rr_analysis.proofs.Walk.{StaysAt, Greatest-none, Learns-walk, Greatest-same, Greatest-new, lit_here}
use Rattle.rr_analysis.proofs.WalkSteps.{Stand-keep, Stand-resolve, Stand-start, Walk-end, inside, lower}
use Rattle.rr_analysis.proofs.analysis.analyze.Goals.{else-at-depth-via-then-at-depth+else-level-at, else-at-depth-via-else-at-depth}
use Rattle.rr_analysis.proofs.analysis.analyze.Goals as goal

pub loop-place-init : goal.loop-place-init
loop-place-init c =
    let s = c.args.watch.now in
    let k = c.requires.conflict in
    let e = c.in_ok-meet_named.ensures in
    let begun = subst (λ ls. IsBegun (length ls) c.args.work.now c.begin.new.self) c.trail-trail.ensures.trail c.begin.ensures in
    let hints : c.push.new.self.items ≡ c.args.id ∷ [] = c.in_ok-push.ensures.items ∙ ap (λ x. x ++ c.args.id ∷ []) c.new-hints.ensures.items in
    rw (hints, c.new-clause.ensures.items) (record { greatest = Greatest-none s.trail s.depth; stand = Stand-start s (StaysAt s.depth) c.trail-trail.ensures.lawful c.args.id k.0 k.1.0 k.1.1 c.args.work.now c.begin.new.self c.meet_named.new.work c.requires.ready begun e.keeps (e.met k.0 k.1.0) })

pub bounds-trail-place : goal.bounds-trail-place
bounds-trail-place c =
    let s = c.args.watch.now in
    let t = s.trail in
    let tr = c.trail-trail.ensures.lawful in
    let a = c.loop-place.invariant.stand in
    let p = c.in-Some.place in
    let w = c.loop-place.work in
    let pops = c.in-Some.ensures.some in
    let at : p < length t = inside s (StaysAt s.depth) tr c.loop-place.clause.items c.loop-place.hints.items w a p c.pop.new.self pops in
    let size : length c.trail-trail.result.now ≡ length t = ap length c.trail-trail.ensures.trail ∙ length_lits t in
    omega (arith, at, size)

pub offset_bounds-trail-place : goal.offset_bounds-trail-place
offset_bounds-trail-place c =
    let s = c.args.watch.now in
    let t = s.trail in
    let tr = c.trail-trail.ensures.lawful in
    let a = c.loop-place.invariant.stand in
    let p = c.in-Some.place in
    let w = c.loop-place.work in
    let pops = c.in-Some.ensures.some in
    let at : p < length t = inside s (StaysAt s.depth) tr c.loop-place.clause.items c.loop-place.hints.items w a p c.pop.new.self pops in
    omega (arith, at, c.trail-trail.ensures.room, c.requires.room)

pub resolved_by-requires-clause-lit : goal.resolved_by-requires-clause-lit
resolved_by-requires-clause-lit c =
    let s = c.args.watch.now in
    let t = s.trail in
    let tr = c.trail-trail.ensures.lawful in
    let a = c.loop-place.invariant.stand in
    let p = c.in-Some.place in
    let w = c.loop-place.work in
    let pops = c.in-Some.ensures.some in
    let at : p < length t = inside s (StaysAt s.depth) tr c.loop-place.clause.items c.loop-place.hints.items w a p c.pop.new.self pops in
    let size : length c.trail-trail.result.now ≡ length t = ap length c.trail-trail.ensures.trail ∙ length_lits t in
    let bound : p < length c.trail-trail.result.now = omega (arith, at, size) in
    subst (IsWithin s.vars) (sym c.index-trail-place.is) (All-get_or (IsWithin s.vars) c.trail-trail.result.now p _ bound c.trail-trail.ensures.within)

pub level-at-requires : goal.level-at-requires
level-at-requires c =
    let s = c.args.watch.now in
    let t = s.trail in
    let tr = c.trail-trail.ensures.lawful in
    let a = c.loop-place.invariant.stand in
    let p = c.in-Some.place in
    let w = c.loop-place.work in
    let pops = c.in-Some.ensures.some in
    let at : p < length t = inside s (StaysAt s.depth) tr c.loop-place.clause.items c.loop-place.hints.items w a p c.pop.new.self pops in
    let size : length c.trail-trail.result.now ≡ length t = ap length c.trail-trail.ensures.trail ∙ length_lits t in
    let bound : p < length c.trail-trail.result.now = omega (arith, at, size) in
    subst (IsWithin s.vars) (sym c.index-trail-place.is) (All-get_or (IsWithin s.vars) c.trail-trail.result.now p _ bound c.trail-trail.ensures.within)

pub meet_named-requires-in-Some-2-clause-named : goal.meet_named-requires-in-Some-2-clause-named
meet_named-requires-in-Some-2-clause-named c =
    let s = c.args.watch.now in
    let t = s.trail in
    let tr = c.trail-trail.ensures.lawful in
    let a = c.loop-place.invariant.stand in
    let p = c.in-Some.place in
    let w = c.loop-place.work in
    let pops = c.in-Some.ensures.some in
    let at : p < length t = inside s (StaysAt s.depth) tr c.loop-place.clause.items c.loop-place.hints.items w a p c.pop.new.self pops in
    let lit : c.index-trail-place.result ≡ (entry t p).lit = lit_here t c.trail-trail.result.now p c.index-trail-place.result c.trail-trail.ensures.trail at c.index-trail-place.is in
    let var : (entry t p).lit.var ≡ c.index-trail-place.result.var = ap (λ x. x.var) (sym lit) in
    let r = c.trail-trail.ensures.forced p c.in-Some-2.reason at (c.in_ok-reason.ensures.some c.in-Some-2.reason c.in-Some-2.is p at var) in
    (r.clause, r.name)

pub loop-place-smaller-in_ok-meet_named-in-Some-2 : goal.loop-place-smaller-in_ok-meet_named-in-Some-2
loop-place-smaller-in_ok-meet_named-in-Some-2 c =
    let s = c.args.watch.now in
    let t = s.trail in
    let tr = c.trail-trail.ensures.lawful in
    let a = c.loop-place.invariant.stand in
    let p = c.in-Some.place in
    let w = c.loop-place.work in
    let pops = c.in-Some.ensures.some in
    let at : p < length t = inside s (StaysAt s.depth) tr c.loop-place.clause.items c.loop-place.hints.items w a p c.pop.new.self pops in
    subst (λ n. n < w.top) (sym c.in_ok-meet_named-in-Some-2.ensures.keeps.top) (lower s (StaysAt s.depth) tr c.loop-place.clause.items c.loop-place.hints.items w a p c.pop.new.self pops)

pub loop-place-smaller-then-level-at : goal.loop-place-smaller-then-level-at
loop-place-smaller-then-level-at c =
    let s = c.args.watch.now in
    let t = s.trail in
    let tr = c.trail-trail.ensures.lawful in
    let a = c.loop-place.invariant.stand in
    let p = c.in-Some.place in
    let w = c.loop-place.work in
    let pops = c.in-Some.ensures.some in
    let at : p < length t = inside s (StaysAt s.depth) tr c.loop-place.clause.items c.loop-place.hints.items w a p c.pop.new.self pops in
    lower s (StaysAt s.depth) tr c.loop-place.clause.items c.loop-place.hints.items w a p c.pop.new.self pops

pub loop-place-smaller : goal.loop-place-smaller
loop-place-smaller c =
    let s = c.args.watch.now in
    let t = s.trail in
    let tr = c.trail-trail.ensures.lawful in
    let a = c.loop-place.invariant.stand in
    let p = c.in-Some.place in
    let w = c.loop-place.work in
    let pops = c.in-Some.ensures.some in
    let at : p < length t = inside s (StaysAt s.depth) tr c.loop-place.clause.items c.loop-place.hints.items w a p c.pop.new.self pops in
    lower s (StaysAt s.depth) tr c.loop-place.clause.items c.loop-place.hints.items w a p c.pop.new.self pops

pub loop-place-preserved-in_ok-meet_named-in-Some-2 : goal.loop-place-preserved-in_ok-meet_named-in-Some-2
loop-place-preserved-in_ok-meet_named-in-Some-2 c =
    let s = c.args.watch.now in
    let t = s.trail in
    let tr = c.trail-trail.ensures.lawful in
    let a = c.loop-place.invariant.stand in
    let p = c.in-Some.place in
    let w = c.loop-place.work in
    let pops = c.in-Some.ensures.some in
    let at : p < length t = inside s (StaysAt s.depth) tr c.loop-place.clause.items c.loop-place.hints.items w a p c.pop.new.self pops in
    let lit : c.index-trail-place.result ≡ (entry t p).lit = lit_here t c.trail-trail.result.now p c.index-trail-place.result c.trail-trail.ensures.trail at c.index-trail-place.is in
    let var : (entry t p).lit.var ≡ c.index-trail-place.result.var = ap (λ x. x.var) (sym lit) in
    let id = c.in-Some-2.reason in
    let r = c.trail-trail.ensures.forced p id at (c.in_ok-reason.ensures.some id c.in-Some-2.is p at var) in
    let e = c.in_ok-meet_named-in-Some-2.ensures in
    rw c.in_ok-push-in-Some-2.ensures.items (record { greatest = c.loop-place.invariant.greatest; stand = Stand-resolve s (StaysAt s.depth) tr c.loop-place.clause.items c.loop-place.hints.items w a p c.pop.new.self pops id r c.meet_named-in-Some-2.new.work e.keeps (e.met r.clause r.name) })

pub loop-place-preserved-then-level-at : goal.loop-place-preserved-then-level-at
loop-place-preserved-then-level-at c =
    let s = c.args.watch.now in
    let t = s.trail in
    let tr = c.trail-trail.ensures.lawful in
    let a = c.loop-place.invariant.stand in
    let p = c.in-Some.place in
    let w = c.loop-place.work in
    let pops = c.in-Some.ensures.some in
    let at : p < length t = inside s (StaysAt s.depth) tr c.loop-place.clause.items c.loop-place.hints.items w a p c.pop.new.self pops in
    let lit : c.index-trail-place.result ≡ (entry t p).lit = lit_here t c.trail-trail.result.now p c.index-trail-place.result c.trail-trail.ensures.trail at c.index-trail-place.is in
    let var : (entry t p).lit.var ≡ c.index-trail-place.result.var = ap (λ x. x.var) (sym lit) in
    let why = c.in_ok-reason.ensures.none c.in-None.is p at var in
    let level = c.level-at.ensures.level p at var in
    let items : c.push-in-None.new.self.items ≡ c.loop-place.clause.items ++ negated (entry t p).lit ∷ [] = c.in_ok-push-in-None.ensures.items ∙ ap (λ x. c.loop-place.clause.items ++ x ∷ []) (c.negated.ensures ∙ ap negated lit) in
    let g = Greatest-new t s.depth tr c.loop-place.clause.items c.loop-place.level c.loop-place.invariant.greatest p at c.level-at.result (sym level) (omega (arith, c.if-at-depth.true, c.depth-depth.ensures.depth)) (omega (arith, c.if-level-at.true)) in
    rw items (record { greatest = g; stand = Stand-keep s (StaysAt s.depth) tr c.loop-place.clause.items c.loop-place.hints.items w a p c.pop.new.self pops why })

pub loop-place-preserved : goal.loop-place-preserved
loop-place-preserved c =
    let s = c.args.watch.now in
    let t = s.trail in
    let tr = c.trail-trail.ensures.lawful in
    let a = c.loop-place.invariant.stand in
    let p = c.in-Some.place in
    let w = c.loop-place.work in
    let pops = c.in-Some.ensures.some in
    let at : p < length t = inside s (StaysAt s.depth) tr c.loop-place.clause.items c.loop-place.hints.items w a p c.pop.new.self pops in
    let lit : c.index-trail-place.result ≡ (entry t p).lit = lit_here t c.trail-trail.result.now p c.index-trail-place.result c.trail-trail.ensures.trail at c.index-trail-place.is in
    let var : (entry t p).lit.var ≡ c.index-trail-place.result.var = ap (λ x. x.var) (sym lit) in
    let why = c.in_ok-reason.ensures.none c.in-None.is p at var in
    let level = c.level-at.ensures.level p at var in
    let items : c.push-in-None.new.self.items ≡ c.loop-place.clause.items ++ negated (entry t p).lit ∷ [] = c.in_ok-push-in-None.ensures.items ∙ ap (λ x. c.loop-place.clause.items ++ x ∷ []) (c.negated.ensures ∙ ap negated lit) in
    let low : (entry t p).level < s.depth → (entry t p).level ≤ c.loop-place.level = λ lt. elim c.else-at-depth.branch [
      | else-at-depth-via-then-at-depth+else-level-at b ↦ omega (arith, level, b.if-level-at.false)
      | else-at-depth-via-else-at-depth b ↦ absurd (omega (arith, level, lt, b.if-at-depth.false, c.depth-depth.ensures.depth))
    ] in
    let g = Greatest-same t s.depth tr c.loop-place.clause.items c.loop-place.level c.loop-place.invariant.greatest p at low in
    rw items (record { greatest = g; stand = Stand-keep s (StaysAt s.depth) tr c.loop-place.clause.items c.loop-place.hints.items w a p c.pop.new.self pops why })

pub returns-clause-learns : goal.returns-clause-learns
returns-clause-learns c =
    let s = c.args.watch.now in
    let tr = c.trail-trail.ensures.lawful in
    let w = c.loop-place.work in
    let within = subst (All (IsWithin s.vars)) c.trail-trail.ensures.trail c.trail-trail.ensures.within in
    let clause : c.in_ok-from_lits.field-0 ≡ c.loop-place.clause.items = c.in_ok-from_lits.ensures ∙ c.as_slice.ensures.value in
    let end = Walk-end s (StaysAt s.depth) tr c.loop-place.clause.items c.loop-place.hints.items w c.loop-place.invariant.stand c.in_default.ensures.none.1 in
    rw (clause, c.shrink_to_fit.ensures.items ∙ c.reverse.ensures.items) (Learns-walk s c.loop-place.clause.items w.seen c.loop-place.hints.items c.loop-place.level tr within end c.loop-place.invariant.greatest)
