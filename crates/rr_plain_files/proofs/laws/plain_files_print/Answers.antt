use Rattle.rr_plain_files.proofs.Printing.{plain_prints}
use Rattle.rr_plain_files.proofs.laws.plain_files_print.Goals as goal

pub returns : goal.returns
returns c = plain_prints
