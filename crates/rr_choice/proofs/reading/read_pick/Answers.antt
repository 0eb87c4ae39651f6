use Rattle.std.proofs.Common.{◌+◌, ◌-◌, length, take, drop, arith}
use Rattle.rr_choice.proofs.BitsRead.{number_taken}
use Rattle.rr_choice.proofs.reading.read_pick.Goals as goal

pub overflow_cast-form : goal.overflow_cast-form
overflow_cast-form c =
    let from = c.args.at + 1 + c.value_width-width.result in
    let k = c.form_width-forms.ensures.small in
    let n = number_taken (take (length c.args.bits.now - from) (drop from c.args.bits.now)) c.form_width-forms.result (omega (arith, k)) in
    let e = c.number_of-form.ensures in
    omega (arith, e, n)

pub overflow_cast-name : goal.overflow_cast-name
overflow_cast-name c =
    let from = c.args.at + 1 + c.value_width-width.result + c.form_width-forms.result in
    let k = c.name_width.ensures.small in
    let n = number_taken (take (length c.args.bits.now - from) (drop from c.args.bits.now)) c.name_width.result (omega (arith, k)) in
    let e = c.number_of-name.ensures in
    omega (arith, e, n)
