use Rattle.rr_plain_files.proofs.Lifting.{plain_tokens_lift}
use Rattle.rr_plain_files.proofs.Without.{plain_without}
use Rattle.rr_plain_files.proofs.laws.plain_files_lift.Goals as goal

pub returns-clause-tokens : goal.returns-clause-tokens
returns-clause-tokens c = plain_tokens_lift

pub returns-clause-plain : goal.returns-clause-plain
returns-clause-plain c = plain_without
