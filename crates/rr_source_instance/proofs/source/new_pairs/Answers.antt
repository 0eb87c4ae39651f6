use Rattle.std.proofs.Common.{[], arith}
use Rattle.rr_syntax.specs.declared.tree.Expr as expr
use Rattle.rr_syntax.specs.Items.{spell_pair}
use Rattle.rr_syntax.specs.View.{plain_pair}
use Rattle.rr_instance.specs.Instances.{instance_pair}
use Rattle.rr_source_instance.proofs.Items.{each_at, map_none, map_next_at}
use Rattle.rr_source_instance.proofs.source.new_pairs.Goals as goal

pub loop-one-init : goal.loop-one-init
loop-one-init c = map_none plain_pair (instance_pair c.args.sites.now c.args.choice.now.picks.items) c.new-list.result.items c.new-list.ensures.items

pub new_pair-requires : goal.new_pair-requires
new_pair-requires c =
    let f = c.requires.fits in let w = each_at spell_pair plain_pair c.args.old.now c.loop-one.one-index (record { target = (record { ref_ptr = (0, 0); now = expr.Name 0 (record { ref_ptr = (0, 0); now = [] }) }); value = (record { ref_ptr = (0, 0); now = expr.Name 0 (record { ref_ptr = (0, 0); now = [] }) }) }) c.loop-one-test.true in record { fits = omega (arith, f, w) }

pub loop-one-preserved : goal.loop-one-preserved
loop-one-preserved c =
    map_next_at plain_pair (instance_pair c.args.sites.now c.args.choice.now.picks.items) c.loop-one.list.items c.push.new.self.items c.args.old.now c.loop-one.one-index (record { target = (record { ref_ptr = (0, 0); now = expr.Name 0 (record { ref_ptr = (0, 0); now = [] }) }); value = (record { ref_ptr = (0, 0); now = expr.Name 0 (record { ref_ptr = (0, 0); now = [] }) }) }) c.in_ok-new.new
    c.loop-one-test.true c.loop-one.invariant c.in_ok-new.ensures c.in_ok-push.ensures.items
