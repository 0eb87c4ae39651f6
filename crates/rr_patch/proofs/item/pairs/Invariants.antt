use Rattle.rr_syntax.specs.Items.{spell_pair}
use Rattle.rr_syntax.specs.View.{plain_pair}
use Rattle.rr_respell.specs.Printing.{pair_pieces}
use Rattle.rr_patch.specs.Changes.{plain_changes}
use Rattle.rr_patch.specs.Walks.{PairAt}
use Rattle.rr_patch.proofs.ListWalks.{EachTo}
use Rattle.rr_patch.proofs.Sizes.{pair_size}
use Rattle.rr_patch.proofs.item.pairs.Given as goal

abbrev pub invariant-loop-one : goal.invariant-loop-one
invariant-loop-one l = record {
  done : EachTo (pair_pieces l.list l.choice.picks.items) spell_pair plain_pair (pair_size l.list l.choice.picks.items) PairAt (plain_changes l.initial.out.items) (plain_changes l.out.items) l.entries l.one-index;
}
