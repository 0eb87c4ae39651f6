use Rattle.std.proofs.Common.{◌∙◌, sym, ap, ◌||◌}
use Rattle.std.specs.Str.{bytes_eq}
use Rattle.rr_syntax.specs.Tree.{Identifier}
use Rattle.rr_syntax.specs.View.{plain_identifier}
use Rattle.rr_guard.specs.Candidates.{is_among}
use Rattle.rr_guard.proofs.Lists.{any_more, any_end}
use Rattle.rr_overwrite.proofs.Declared.{identifier_text}
use Rattle.rr_overwrite.proofs.variables.add_names.Goals as goal

pub loop-named-preserved : goal.loop-named-preserved
loop-named-preserved c = λ name.
    any_more (λ (x : Identifier). bytes_eq name x.text) plain_identifier _ _ _ c.args.names.now c.loop-named.named-index _ c.loop-named-test.true
    (c.in_ok-add.ensures.among name ∙ ap (λ t. is_among name c.loop-named.set || bytes_eq name t) (sym (identifier_text _))) (c.loop-named.invariant name)

pub returns : goal.returns
returns c = λ name. any_end (λ (x : Identifier). bytes_eq name x.text) plain_identifier _ _ c.args.names.now c.loop-named.named-index c.loop-named-test.false (c.loop-named.invariant name)
