use Rattle.std.proofs.Common.{◌∙◌, ap, List}
use Rattle.std.specs.List.{slice_get}
use Rattle.rr_syntax.specs.View.{plain_statement}
use Rattle.rr_expr.specs.declared.types.Bit.{Bit}
use Rattle.rr_latch.proofs.Keeping.{first_listed, first_none, none_kept}
use Rattle.rr_latch.proofs.latches.kept_bit.Goals as goal

pub returns-clause-none : goal.returns-clause-none
returns-clause-none c =
    first_none c.copied.result c.list_kept.new.early.bits.items _ (c.copied.ensures ∙ (c.first.ensures.value ∙ ap (λ (z : List Bit). slice_get z 0) c.deref.ensures.value))
    (none_kept c.args.names.now (plain_statement c.args.body.now) c.list_kept.new.early.bits.items c.in_ok-list_kept.ensures.all)

pub returns-clause-some : goal.returns-clause-some
returns-clause-some c =
    first_listed c.copied.result c.list_kept.new.early.bits.items _ (c.copied.ensures ∙ (c.first.ensures.value ∙ ap (λ (z : List Bit). slice_get z 0) c.deref.ensures.value))
    c.in_ok-list_kept.ensures.kept
