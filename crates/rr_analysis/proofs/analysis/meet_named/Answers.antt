use Rattle.std.proofs.Common.{sym, subst}
use Rattle.rr_trail.specs.Trails.{lits}
use Rattle.rr_analysis.specs.Workspaces.{Met}
use Rattle.rr_analysis.proofs.analysis.meet_named.Goals as goal

pub returns-in_ok-meet_all-clause-met : goal.returns-in_ok-meet_all-clause-met
returns-in_ok-meet_all-clause-met c = λ d n. subst (λ x. Met (lits c.args.watch.now.trail) c.args.work.now x c.meet_all.new.self) (sym (c.in-Some.ensures.one d n)) c.in_ok-meet_all.ensures.met

pub returns-in_default-clause-met : goal.returns-in_default-clause-met
returns-in_default-clause-met c = λ d n. absurd (c.in_default.ensures.none d n)
