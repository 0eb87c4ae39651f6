use Rattle.std.proofs.Common.{map, string_bytes}
use Rattle.rr_words.proofs.PlainCommands.{plain_result}
use Rattle.rr_words.proofs.read.read_words.Goals as goal

pub returns-clause-plain : goal.returns-clause-plain
returns-clause-plain c = plain_result (map string_bytes c.args.words.now) c.matched_command.result c.matched_command.ensures
