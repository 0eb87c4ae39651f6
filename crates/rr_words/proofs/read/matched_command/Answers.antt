use Rattle.std.proofs.Common.{map, string_bytes}
use Rattle.rr_words.proofs.Entered.{refused}
use Rattle.rr_words.proofs.read.matched_command.Goals as goal

pub returns-in-Err : goal.returns-in-Err
returns-in-Err c = refused (map string_bytes c.args.words.now) c.in-Err.error c.in-Err.ensures.err
