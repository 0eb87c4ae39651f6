use Rattle.std.proofs.Common.{[], arith}
use Rattle.rr_syntax.specs.declared.tree.Expr as expr
use Rattle.rr_syntax.specs.Items.{spell_pair}
use Rattle.rr_syntax.specs.View.{plain_pair}
use Rattle.rr_respell.specs.Printing.{pair_pieces}
use Rattle.rr_patch.specs.Changes.{plain_changes}
use Rattle.rr_patch.specs.Walks.{PairAt}
use Rattle.rr_patch.proofs.ListWalks.{each_none, each_more, each_full, each_short}
use Rattle.rr_patch.proofs.Sizes.{pair_size}
use Rattle.rr_patch.proofs.item.pairs.Goals as goal

pub loop-one-init : goal.loop-one-init
loop-one-init c = record { done = each_none (pair_pieces c.args.list.now c.args.choice.now.picks.items) spell_pair plain_pair (pair_size c.args.list.now c.args.choice.now.picks.items) PairAt (plain_changes c.args.out.now.items) c.args.entries.now }

pub pair-requires : goal.pair-requires
pair-requires c = let f = c.requires.fits in let w = each_short spell_pair plain_pair c.args.entries.now c.loop-one.one-index (record { target = (record { ref_ptr = (0, 0); now = expr.Name 0 (record { ref_ptr = (0, 0); now = [] }) }); value = (record { ref_ptr = (0, 0); now = expr.Name 0 (record { ref_ptr = (0, 0); now = [] }) }) }) c.loop-one-test.true in record { fits = omega (arith, f, w) }

pub loop-one-preserved : goal.loop-one-preserved
loop-one-preserved c = record {
  done = each_more (pair_pieces c.args.list.now c.args.choice.now.picks.items) spell_pair plain_pair (pair_size c.args.list.now c.args.choice.now.picks.items) PairAt (plain_changes c.args.out.now.items) (plain_changes c.loop-one.out.items) (plain_changes c.pair.new.out.items) c.args.entries.now c.loop-one.one-index (record { target = (record { ref_ptr = (0, 0); now = expr.Name 0 (record { ref_ptr = (0, 0); now = [] }) }); value = (record { ref_ptr = (0, 0); now = expr.Name 0 (record { ref_ptr = (0, 0); now = [] }) }) }) c.loop-one-test.true c.loop-one.invariant.done c.in_ok-pair.ensures;
}

pub returns : goal.returns
returns c = each_full (pair_pieces c.args.list.now c.args.choice.now.picks.items) spell_pair plain_pair (pair_size c.args.list.now c.args.choice.now.picks.items) PairAt (plain_changes c.args.out.now.items) (plain_changes c.loop-one.out.items) c.args.entries.now c.loop-one.one-index c.loop-one-test.false c.loop-one.invariant.done
