use Rattle.std.proofs.Common.{[], None, arith}
use Rattle.rr_syntax.specs.declared.tree.Module.{Module}
use Rattle.rr_syntax.specs.Items.{spell_module}
use Rattle.rr_syntax.specs.View.{plain_module}
use Rattle.rr_patch.specs.Changes.{plain_changes}
use Rattle.rr_patch.proofs.ListWalks.{all_short}
use Rattle.rr_lint_names.specs.Latched.{marks}
use Rattle.rr_lint.proofs.Items.{modules_none, modules_more, modules_full}
use Rattle.rr_lint.proofs.changes.declarations.Goals as goal

abbrev no_module : Module
no_module = record { name = (record { ref_ptr = (0, 0); now = [] }); token = 0; params = (record { ref_ptr = (0, 0); now = [] }); header = None; groups = (record { ref_ptr = (0, 0); now = [] }); items = (record { ref_ptr = (0, 0); now = [] }) }

pub loop-i-init : goal.loop-i-init
loop-i-init c = record { done = λ numbers h. modules_none (marks c.args.noted.now) numbers (plain_changes c.args.out.now.items) c.args.entries.now }

pub numbered-requires : goal.numbered-requires
numbered-requires c = let f = c.requires.fits in let w = all_short spell_module plain_module c.args.entries.now c.loop-i.i no_module c.loop-i-test.true in record { fits = omega (arith, f, w) }

pub loop-i-preserved : goal.loop-i-preserved
loop-i-preserved c = record {
  done = λ numbers h.
      modules_more (marks c.args.noted.now) numbers (plain_changes c.args.out.now.items) (plain_changes c.loop-i.out.items) (plain_changes c.numbered.new.out.items) c.args.entries.now c.loop-i.i _ c.loop-i-test.true (c.loop-i.invariant.done numbers h)
      (c.in_ok-numbered.ensures numbers h);
}

pub returns : goal.returns
returns c = λ numbers h. modules_full (marks c.args.noted.now) numbers (plain_changes c.args.out.now.items) (plain_changes c.loop-i.out.items) c.args.entries.now c.loop-i.i c.loop-i-test.false (c.loop-i.invariant.done numbers h)
