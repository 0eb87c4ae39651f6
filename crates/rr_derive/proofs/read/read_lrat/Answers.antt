use Rattle.std.proofs.lemmas.Result.{IfOk-weaker}
use Rattle.rr_derive.proofs.LratLaws.{ids_above, literals_within, reads_back}
use Rattle.rr_derive.proofs.read.read_lrat.Goals as goal

pub returns-clause-ids : goal.returns-clause-ids
returns-clause-ids c = IfOk-weaker c.read_lines.result _ _ (λ j h. ids_above c.args.clauses c.args.vars c.args.bytes.now j.lines h) c.read_lines.ensures.proof

pub returns-clause-within : goal.returns-clause-within
returns-clause-within c = IfOk-weaker c.read_lines.result _ _ (λ j h. literals_within c.args.clauses c.args.vars c.args.bytes.now j.lines h) c.read_lines.ensures.proof

pub returns-clause-back : goal.returns-clause-back
returns-clause-back c = reads_back c.args.clauses c.args.vars c.args.bytes.now c.read_lines.result c.read_lines.ensures.first c.read_lines.ensures.proof c.read_lines.ensures.cause
