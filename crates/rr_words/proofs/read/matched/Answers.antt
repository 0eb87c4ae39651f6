use Rattle.std.proofs.Common.{◌∙◌, inl, inr, map, string_bytes}
use Rattle.clap.specs.Words.{app_of}
use Rattle.rr_words.proofs.Entered.{refuses}
use Rattle.rr_words.proofs.read.matched.Goals as goal

pub returns-in-Err-clause-err : goal.returns-in-Err-clause-err
returns-in-Err-clause-err c =
    elim (refuses (app_of c.in_ok-line.line) (map string_bytes c.args.words.now) c.in-Err.error c.in_ok-line.ensures c.in-Err.ensures.kinds) [
      | inl memory ↦ inl (c.fault.ensures.memory (c.kind.ensures ∙ memory))
      | inr some ↦ inr some
    ]
