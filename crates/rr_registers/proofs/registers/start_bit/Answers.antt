use Rattle.std.proofs.Common.{◌∙◌, sym, ap, List, ℕ, length}
use Rattle.std.proofs.lemmas.Bool.{ltb-false}
use Rattle.rr_expr.specs.Scopes.{env_of}
use Rattle.rr_meaning.proofs.Rows.{past_values}
use Rattle.rr_registers.proofs.registers.start_bit.Goals as goal

pub returns-in-None : goal.returns-in-None
returns-in-None c =
    sym (ap (λ (starts : List ℕ). env_of starts c.args.bit) (sym c.start_list.ensures.value)
    ∙ past_values c.start_list.result.now c.args.bit (ltb-false c.args.bit.signal (length c.start_list.result.now) (sym c.in-None.ensures.lookup.0)))
