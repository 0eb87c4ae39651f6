use Rattle.std.proofs.Common.{◌≡◌, ◌∙◌, sym, refl, false, None, Some}
use Rattle.rr_expr.specs.Faults.{index_fault}
use Rattle.rr_expr.specs.Scopes.{meant}
use Rattle.rr_starts.proofs.Nodes.{zero_select}
use Rattle.rr_starts.proofs.initials.note_word.Goals as goal

pub returns-in-Ok : goal.returns-in-Ok
returns-in-Ok c =
    let e : index_fault false c.args.token (meant c.args.names.now c.args.name.now) ≡ None = sym (zero_select c.args.names.now c.args.token _ _ _ _ _ c.args.name _ refl) ∙ c.in-Ok.ensures.none in
    rw e c.note_value.ensures

pub returns-in-Err : goal.returns-in-Err
returns-in-Err c =
    let e : index_fault false c.args.token (meant c.args.names.now c.args.name.now) ≡ Some c.in-Err.fault = sym (zero_select c.args.names.now c.args.token _ _ _ _ _ c.args.name _ refl) ∙ c.in-Err.ensures.fault in
    rw e (rw c.from.ensures at c.earliest.ensures)
