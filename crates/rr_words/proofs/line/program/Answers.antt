use Rattle.std.proofs.Common.{◌∙◌, ap, ap₂}
use Rattle.std.proofs.lemmas.Result.{IfOk-weaker}
use Rattle.clap.specs.Words.{App, with_subcommand}
use Rattle.rr_words.proofs.line.program.Goals as goal

pub returns : goal.returns
returns c =
    let top : App → _ = λ a. a.top in
    let one = c.in_ok-line.ensures ∙ ap₂ with_subcommand c.root-line.ensures (ap top c.in_ok-repair.ensures.app) in
    let two = c.in_ok-line-2.ensures ∙ ap₂ with_subcommand one (ap top c.in_ok-run.ensures.app) in
    let three = c.in_ok-line-3.ensures ∙ ap₂ with_subcommand two (ap top c.in_ok-sites.ensures.app) in
    let four = c.in_ok-line-4.ensures ∙ ap₂ with_subcommand three (ap top c.in_ok-check.ensures.app) in
    let five = c.in_ok-line-5.ensures ∙ ap₂ with_subcommand four (ap top c.in_ok-make.ensures.app) in
    IfOk-weaker c.below-6.result _ _ (λ x h. h ∙ ap₂ with_subcommand five (ap top c.in_ok-lint.ensures.app)) c.below-6.ensures
