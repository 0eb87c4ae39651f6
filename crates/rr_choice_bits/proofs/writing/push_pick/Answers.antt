use Rattle.std.proofs.Common.{◌∙◌, ◌∷◌, [], ◌++◌, ap, append_assoc}
use Rattle.rr_bits.specs.Words.{word}
use Rattle.rr_choice.specs.View.{plain_kind}
use Rattle.rr_choice.specs.Codes.{code_of, guard_code}
use Rattle.rr_choice_bits.proofs.writing.push_pick.Goals as goal

pub returns : goal.returns
unfolding code_of
returns c =
    let old = c.args.bits.now.items in
    let guard = guard_code (plain_kind c.args.site.now.kind) c.args.pick in
    let value = word c.value_width.result c.args.pick.value in
    c.in_ok-push_guard.ensures
    ∙ ap (λ bs. bs ++ guard) (c.in_ok-push_word.ensures ∙ ap (λ bs. bs ++ value) c.in_ok-push.ensures.items)
    ∙ ap (λ bs. bs ++ guard) (append_assoc old (c.args.pick.on ∷ []) value)
    ∙ append_assoc old (c.args.pick.on ∷ value) guard
    ∙ ap (λ w. old ++ c.args.pick.on ∷ (word w c.args.pick.value ++ guard)) c.value_width.ensures
