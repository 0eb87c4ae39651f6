use Rattle.rr_syntax.specs.View.{plain}
use Rattle.rr_flat.specs.Sound.{names_at}
use Rattle.rr_starts.proofs.Shaped.{index_none}
use Rattle.rr_starts.proofs.initials.set_one.Goals as goal

pub set_word-requires-clause-index : goal.set_word-requires-clause-index
unfolding plain
set_word-requires-clause-index c = index_none (names_at c.args.flat.now.scopes c.args.scope) c.in-Bit.token c.in-Bit.name.now (plain c.in-Bit.index.now) (rw c.in-Bit.is at c.requires.target)
