use Rattle.std.proofs.Common.{ap, ◌∙◌}
use Rattle.rr_choice.specs.View.{plain_sites}
use Rattle.rr_blast_sites.proofs.FindLaws.{empty_list}
use Rattle.rr_blast_expr.proofs.operands.no_sites.Goals as goal

pub new-requires : goal.new-requires
new-requires c = empty_list _ c.new-none.ensures.items

pub returns : goal.returns
returns c = c.new.ensures ∙ ap plain_sites c.new-none.ensures.items
