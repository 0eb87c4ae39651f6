use Rattle.std.proofs.Common.{rules, ◌≡◌, ◌≢◌, ◌∙◌, slice_index, ap, Some}
use Rattle.std.specs.Str.Parse.{digits_value, without_leading_plus}
use Rattle.rr_words.proofs.Numbers.{number-none, number-read}
use Rattle.rr_words.proofs.read.number.Goals as goal

pub returns-then-value-most-clause-read : goal.returns-then-value-most-clause-read
returns-then-value-most-clause-read c =
    let other : slice_index c.args.text.now 0 ≢ 43 = search rules in
    let is : c.in-Ok.value ≡ digits_value 10 (without_leading_plus c.args.text.now) = search rules in
    ap Some is ∙ number-read c.args.least c.args.most c.args.text.now other (search rules) (rw (← is) (search rules)) (rw (← is) (search rules))

pub returns-in-Err-clause-read : goal.returns-in-Err-clause-read
returns-in-Err-clause-read c =
    let other : slice_index c.args.text.now 0 ≢ 43 = search rules in
    number-none c.args.least c.args.most c.args.text.now other (search rules) (search rules)
