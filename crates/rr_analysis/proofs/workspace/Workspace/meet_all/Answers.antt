use Rattle.std.proofs.Common.{sym, subst, ◌<◌, length, arith}
use Rattle.std.proofs.lemmas.List.Elements.{All-get_or}
use Rattle.rr_cnf.specs.Clauses.{IsWithin}
use Rattle.rr_derive.proofs.MarkLaws.{take_read}
use Rattle.rr_trail.specs.Trails.{lits}
use Rattle.rr_analysis.proofs.Waiting.{Met-push, keeps_more}
use Rattle.rr_analysis.proofs.workspace.Workspace.meet_all.Goals as goal

pub loop-lit-preserved : goal.loop-lit-preserved
loop-lit-preserved c =
    let s = c.args.watch.now in
    let e = take_read c.args.clause.now c.loop-lit.lit-index c.lit-item.result c.loop-lit-test.true c.lit-item.is in
    let within = subst (IsWithin s.vars) (sym c.lit-item.is) (All-get_or (IsWithin s.vars) c.args.clause.now c.loop-lit.lit-index _ c.loop-lit-test.true c.requires.within) in
    let w : c.lit-item.result.var < length c.args.self.now.seen = omega (arith, within.1, c.requires.room) in
    let i = c.loop-lit.invariant in
    record { keeps = keeps_more c.args.self.now c.loop-lit.self c.meet.new.self i.keeps c.in_ok-meet.ensures.keeps; met = rw (← e) (Met-push (lits s.trail) c.args.self.now c.loop-lit.self c.meet.new.self _ c.lit-item.result w i.met c.in_ok-meet.ensures.meets) }
