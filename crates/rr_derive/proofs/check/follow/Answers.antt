use Rattle.std.proofs.Common.{◌+◌, ◌*◌, ◌<◌, arith, subst, length, get_or}
use Rattle.std.specs.Prelude.{Some, None}
use Rattle.std.proofs.lemmas.List.{drop_more}
use Rattle.std.proofs.lemmas.List.Elements.{All-set, All-contains}
use Rattle.rr_derive.specs.Derive.{Names}
use Rattle.rr_derive.specs.declared.check.Seen.TheVariants.{Other}
use Rattle.rr_derive.specs.Marks.{OpenIn, SeenIs}
use Rattle.rr_derive.proofs.MarkLaws.{mark_below, Represents-assume}
use Rattle.rr_derive.proofs.DeriveLaws.{within_marks, Led, Led-fails, Led-closes, Led-next, Leads-none, Leads-conflict, Leads-other, Leads-unit_to, Leads-unit_from}
use Rattle.rr_derive.proofs.check.follow.Goals as goal

pub loop-hint-preserved : goal.loop-hint-preserved
loop-hint-preserved c =
    let hints = c.args.hints.now in
    let i = c.loop-hint.hint-index in
    let s = c.args.stamp in
    let m = c.loop-hint.marks in
    let k = Names c.args.formula.now.clauses c.args.earlier.now in
    let e = drop_more hints i 0 c.loop-hint-test.true in
    let led = subst (Led k s c.args.marks.now m hints) e c.loop-hint.invariant.led in
    let clause = c.in-Some.clause.now in
    let l = c.in-Unit.lit in
    let within = within_marks clause c.args.formula.now.vars (length m) c.in-Some.ensures.within (omega (arith, c.loop-hint.auto.marks)) in
    let seen = subst (λ ys. OpenIn m s ys (Some l)) c.lits.ensures c.in-Unit.ensures in
    let inside : l.var < length m = All-contains (λ n. n.var < length m) clause l within seen.0 in
    record {
      below = rw c.assume.ensures (All-set (λ n. n < 2 * s + 2) m l.var _ (mark_below s l) c.loop-hint.invariant.below);
      led = rw c.assume.ensures (Led-next k s c.args.marks.now m hints _ led l _ _ (λ x r. (Represents-assume m s x l r inside seen.1, (Leads-unit_from m s x r clause within k (get_or hints i 0) _ c.in-Some.ensures.found l seen, Leads-unit_to m s x r clause within k (get_or hints i 0) _ c.in-Some.ensures.one l seen.0 seen.1))));
    }

pub returns-in-None-clause-result : goal.returns-in-None-clause-result
returns-in-None-clause-result c =
    let hints = c.args.hints.now in
    let i = c.loop-hint.hint-index in
    let k = Names c.args.formula.now.clauses c.args.earlier.now in
    let e = drop_more hints i 0 c.loop-hint-test.true in
    let led = subst (Led k c.args.stamp c.args.marks.now c.loop-hint.marks hints) e c.loop-hint.invariant.led in
    Led-fails k c.args.stamp c.args.marks.now c.loop-hint.marks hints _ led (λ x r. Leads-none k _ _ x c.in-None.ensures.none)

pub returns-in-Conflict-clause-result : goal.returns-in-Conflict-clause-result
returns-in-Conflict-clause-result c =
    let hints = c.args.hints.now in
    let i = c.loop-hint.hint-index in
    let s = c.args.stamp in
    let m = c.loop-hint.marks in
    let k = Names c.args.formula.now.clauses c.args.earlier.now in
    let e = drop_more hints i 0 c.loop-hint-test.true in
    let led = subst (Led k s c.args.marks.now m hints) e c.loop-hint.invariant.led in
    let clause = c.in-Some.clause.now in
    let within = within_marks clause c.args.formula.now.vars (length m) c.in-Some.ensures.within (omega (arith, c.loop-hint.auto.marks)) in
    let seen = subst (λ ys. OpenIn m s ys None) c.lits.ensures c.in-Conflict.ensures in
    Led-closes k s c.args.marks.now m hints _ led (λ x r. Leads-conflict m s x r clause within k (get_or hints i 0) _ c.in-Some.ensures.found seen)

pub returns-in-Other-clause-result : goal.returns-in-Other-clause-result
returns-in-Other-clause-result c =
    let hints = c.args.hints.now in
    let i = c.loop-hint.hint-index in
    let s = c.args.stamp in
    let m = c.loop-hint.marks in
    let k = Names c.args.formula.now.clauses c.args.earlier.now in
    let e = drop_more hints i 0 c.loop-hint-test.true in
    let led = subst (Led k s c.args.marks.now m hints) e c.loop-hint.invariant.led in
    let clause = c.in-Some.clause.now in
    let within = within_marks clause c.args.formula.now.vars (length m) c.in-Some.ensures.within (omega (arith, c.loop-hint.auto.marks)) in
    let seen = subst (λ ys. SeenIs m s ys Other) c.lits.ensures c.in-Other.ensures in
    Led-fails k s c.args.marks.now m hints _ led (λ x r. Leads-other m s x r clause within k (get_or hints i 0) _ c.in-Some.ensures.one seen)
