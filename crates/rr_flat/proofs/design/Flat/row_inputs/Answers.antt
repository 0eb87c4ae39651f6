use Rattle.std.proofs.Common.{◌<◌, ℕ, not, length, All, sym, subst}
use Rattle.std.proofs.lemmas.List.Elements.{All-filter}
use Rattle.std.proofs.lemmas.Result.{IfOk-weaker}
use Rattle.rr_flat.specs.Inputs.{is_clock}
use Rattle.rr_flat.proofs.design.Flat.row_inputs.Goals as goal

pub returns-clause-inside : goal.returns-clause-inside
returns-clause-inside c =
    IfOk-weaker c.all_but.result _ _
    (λ r h. subst (All (λ (id : ℕ). id < length c.args.self.now.signals)) (sym h)
    (All-filter (λ (id : ℕ). not (is_clock c.args.clock id)) (λ (id : ℕ). id < length c.args.self.now.signals) c.input_list.result.now c.input_list.ensures.sound))
    c.all_but.ensures
