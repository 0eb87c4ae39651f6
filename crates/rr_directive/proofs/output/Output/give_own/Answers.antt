use Rattle.std.proofs.Common.{arith, refl, rules, subst, sym, Err, ◌≡◌, ◌-◌}
use Rattle.rr_directive.specs.View.{Overflows}
use Rattle.rr_directive.proofs.Outputs.{own_none, own_more, overflow_more}
use Rattle.rr_directive.proofs.output.Output.give_own.Goals as goal

pub loop-at-init : goal.loop-at-init
loop-at-init c = record {
  after = omega arith;
  shows = λ events h. own_none c.args.self.now events c.args.file.now c.args.exact c.args.from h;
  left = omega arith;
}

pub loop-at-preserved : goal.loop-at-preserved
loop-at-preserved c = record {
  after = omega arith;
  shows = λ events h. own_more c.loop-at.self _ events c.args.file.now c.args.exact c.args.from c.loop-at.at _ c.loop-at.invariant.after (omega (arith, c.requires.within)) refl (c.in_ok-give.ensures.given _ (c.loop-at.invariant.shows events h));
  left = omega (arith, c.in_ok-give.ensures.left, c.loop-at.invariant.left);
}

pub returns-in_err-give-clause-full : goal.returns-in_err-give-clause-full
returns-in_err-give-clause-full c =
    let q : c.from_residual.result ≡ Err c.in_err-give.field-0.0 = search rules in
    subst (λ r. Overflows c.args.self.now.left (c.args.to - c.args.from) r) (sym q)
    (overflow_more (Unit {0}) c.loop-at.self.left c.args.self.now.left (c.loop-at.at - c.args.from) (c.args.to - c.args.from) c.in_err-give.field-0.0 c.loop-at.invariant.left (omega arith) c.in_err-give.ensures.full)
