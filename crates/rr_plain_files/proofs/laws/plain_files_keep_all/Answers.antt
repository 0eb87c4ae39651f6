use Rattle.rr_plain_files.proofs.Sites.{plain_keeps_all}
use Rattle.rr_plain_files.proofs.laws.plain_files_keep_all.Goals as goal

pub returns : goal.returns
returns c = plain_keeps_all
