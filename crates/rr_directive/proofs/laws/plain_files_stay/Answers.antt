use Rattle.rr_directive.proofs.Plain.{plain_stays}
use Rattle.rr_directive.proofs.PlainPlaces.{no_backticks, plain_taken}
use Rattle.rr_directive.proofs.laws.plain_files_stay.Goals as goal

pub returns-clause-stays : goal.returns-clause-stays
returns-clause-stays c = plain_stays

pub returns-clause-taken : goal.returns-clause-taken
returns-clause-taken c = plain_taken

pub returns-clause-plain : goal.returns-clause-plain
returns-clause-plain c = no_backticks
