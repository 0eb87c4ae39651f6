use Rattle.std.proofs.Common.{ap, arith, length}
use Rattle.rr_watch_lists.proofs.HandLaws.{hand_length}
use Rattle.rr_watch_lists.proofs.hand.Hand.len.Goals as goal

pub returns : goal.returns
returns c =
    let h = c.self.inside in
    omega (arith, c.len.ensures, c.len-2.ensures, h.watched.ok.0, h.added.ok.0, hand_length h.formula.now.clauses h.watched.items h.added.items h.lits.items c.self.invariant, ap (λ v. length v.held) c.self.view_is)
