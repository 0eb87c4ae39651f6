use Rattle.std.proofs.Common.{◌∙◌, refl}
use Rattle.rr_syntax.specs.View.{plain_statement, plain_source}
use Rattle.rr_text_tests.proofs.WholeSources.{whole_is, lengths_by, levels_by}
use Rattle.rr_text_tests.proofs.statements.source_of.Goals as goal

pub returns-clause-lengths : goal.returns-clause-lengths
returns-clause-lengths c =
    lengths_by (plain_source (record { modules = c.into_bump_slice-4.result })) _ (plain_statement c.args.body.now)
    (whole_is c.into_bump_slice-4.result c.new-modules.result.items _ c.new-items.result.items c.args.body (c.into_bump_slice-4.ensures ∙ c.in_ok-push-2.ensures.items) c.new-modules.ensures.items refl
    (c.into_bump_slice.ensures ∙ c.new.ensures.items) refl (c.into_bump_slice-2.ensures ∙ c.new-2.ensures.items) (c.into_bump_slice-3.ensures ∙ c.in_ok-push.ensures.items) c.new-items.ensures.items)

pub returns-clause-levels : goal.returns-clause-levels
returns-clause-levels c =
    levels_by (plain_source (record { modules = c.into_bump_slice-4.result })) _ (plain_statement c.args.body.now)
    (whole_is c.into_bump_slice-4.result c.new-modules.result.items _ c.new-items.result.items c.args.body (c.into_bump_slice-4.ensures ∙ c.in_ok-push-2.ensures.items) c.new-modules.ensures.items refl
    (c.into_bump_slice.ensures ∙ c.new.ensures.items) refl (c.into_bump_slice-2.ensures ∙ c.new-2.ensures.items) (c.into_bump_slice-3.ensures ∙ c.in_ok-push.ensures.items) c.new-items.ensures.items)
