use Rattle.std.proofs.Common.{subst}
use Rattle.rr_run.specs.Refusals.{StopsWhere, plain_refusal}
use Rattle.rr_run.specs.Runs.{RefusesDesign}
use Rattle.rr_run.proofs.FileRuns.{refused_at}
use Rattle.rr_run.proofs.file.fault_placed.Goals as goal

pub returns-in-Refused : goal.returns-in-Refused
returns-in-Refused c = λ file text top word taken e h.
    refused_at file text c.args.expanded.now.origins.items c.args.size top word (plain_refusal c.in-Refused.refusal) (plain_refusal c.placed.result) taken e
    (subst (StopsWhere (RefusesDesign text top word)) c.in-Refused.is h) c.placed.ensures
