use Rattle.std.proofs.Common.{refl}
use Rattle.rr_derive.proofs.LratLines.{addition_is, no_hints_line, no_literals_line, rat_is}
use Rattle.rr_derive.proofs.read.addition_then.Goals as goal

pub returns-in_default : goal.returns-in_default
returns-in_default c = no_literals_line _ c.args.id c.args.text.now c.requires.id refl c.requires.literals _ _ c.in_ok-rest.ensures c.in_default.ensures

pub returns-in_default-behind : goal.returns-in_default-behind
returns-in_default-behind c =
    no_hints_line _ c.args.id c.args.text.now c.requires.id refl c.requires.literals _ _ c.in_ok-rest.ensures _ c.in-Some.ensures _ _ _ c.in_ok-negative.ensures c.in_default-behind.ensures

pub returns-then-negative : goal.returns-then-negative
returns-then-negative c =
    rat_is _ c.args.id c.args.text.now c.requires.id refl c.requires.literals _ _ c.in_ok-rest.ensures _ c.in-Some.ensures _ _ _ c.in_ok-negative.ensures _ c.in-Some-behind.ensures c.if-negative.true

pub returns : goal.returns
returns c =
    rw (c.in_ok-clause.ensures, c.deref.ensures.value)
    (addition_is _ c.args.id c.args.text.now c.requires.id refl c.requires.literals _ _ c.in_ok-rest.ensures _ c.in-Some.ensures _ _ _ c.in_ok-negative.ensures _ c.in-Some-behind.ensures c.if-negative.false)
