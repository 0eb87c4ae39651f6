use Rattle.std.proofs.Common.{◌≡◌, true}
use Rattle.rr_flat.specs.View.{plain_flat}
use Rattle.rr_named_bits.specs.Lists.{reaches}
use Rattle.rr_writers.proofs.Reaching.{first_words}
use Rattle.rr_order.specs.Nodes.{Added, Foreign, widths}
use Rattle.rr_order.proofs.nodes.add_words.Given as goal

abbrev pub invariant-loop-word : goal.invariant-loop-word
invariant-loop-word l = Added (widths (plain_flat l.flat)) l.fn.nodes.items l.nodes.items (λ b. (reaches (first_words l.reach l.word) b ≡ true) × Foreign (widths (plain_flat l.flat)) l.own.items l.stamp b)
