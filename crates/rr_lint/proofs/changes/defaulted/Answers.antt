use Rattle.rr_syntax.specs.View.{plain_statement}
use Rattle.rr_patch.specs.Changes.{plain_changes}
use Rattle.rr_lint.proofs.Items.{defaulted_some}
use Rattle.rr_lint.proofs.changes.defaulted.Goals as goal

pub returns : goal.returns
returns c =
    defaulted_some (plain_changes c.args.out.now.items) (plain_changes c.put_all.new.out.items) (plain_changes c.clear_all.new.out.items) (plain_changes c.statement-2.new.out.items) (plain_changes c.put_all-2.new.out.items) c.args.at c.in_ok-next.next
    c.args.names.now (plain_statement c.args.body.now) c.if-names-eq0.false c.in_ok-put_all.ensures c.in_ok-clear_all.ensures c.in_ok-next.ensures.made c.in_ok-next.ensures.next c.in_ok-put_all-2.ensures
