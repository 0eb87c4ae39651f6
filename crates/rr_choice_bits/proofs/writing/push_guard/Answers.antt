use Rattle.std.proofs.Common.{◌∙◌, ◌-◌, ◌++◌, length, ap, refl, sym, append-nil, append_assoc}
use Rattle.std.proofs.lemmas.List.{length-map}
use Rattle.rr_bits.specs.Words.{word}
use Rattle.rr_choice.specs.View.{plain_kind, plain_site}
use Rattle.rr_choice_bits.proofs.CodeLaws.{no_guard, some_guard}
use Rattle.rr_choice_bits.proofs.writing.push_guard.Goals as goal

pub returns-then-is_empty : goal.returns-then-is_empty
returns-then-is_empty c =
    let names = c.guard_names.result.now in
    let count = sym (length-map names (λ n. n.now)) ∙ ap length c.guard_names.ensures in
    let none = no_guard (plain_kind c.args.site.now.kind) c.args.pick (length names) count (sym c.if-is_empty.ensures) in
    sym (ap (λ bs. c.args.bits.now.items ++ bs) none ∙ append-nil c.args.bits.now.items)

pub returns : goal.returns
returns c =
    let names = c.guard_names.result.now in
    let count = sym (length-map names (λ n. n.now)) ∙ ap length c.guard_names.ensures in
    let left = c.site_bits.result - 1 - c.value_width.result - c.form_width-forms.result in
    let some =
    some_guard (plain_site c.args.site.now) c.args.pick (length names) c.form_width-forms.result left c.site_bits.result c.value_width.result count (sym c.if-is_empty.ensures)
    c.form_width-forms.ensures.value c.site_bits.ensures.value c.value_width.ensures refl in
    c.in_ok-push_word-2.ensures
    ∙ ap (λ bs. bs ++ word left c.args.pick.name) c.in_ok-push_word.ensures
    ∙ append_assoc c.args.bits.now.items (word c.form_width-forms.result c.args.pick.form) (word left c.args.pick.name)
    ∙ ap (λ bs. c.args.bits.now.items ++ bs) (sym some)
