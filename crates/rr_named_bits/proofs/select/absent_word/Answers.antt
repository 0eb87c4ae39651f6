use Rattle.std.proofs.Common.{◌∙◌}
use Rattle.rr_named_bits.proofs.Runs.{no_word}
use Rattle.rr_named_bits.proofs.select.absent_word.Goals as goal

pub returns : goal.returns
returns c = rw c.absent.ensures (no_word c.args.range c.range_width.result (c.range_width.ensures ∙ c.bounds_of-bounds.ensures.width))
