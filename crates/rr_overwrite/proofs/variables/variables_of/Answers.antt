use Rattle.std.proofs.Common.{◌∙◌, sym, ap}
use Rattle.rr_guard.specs.Candidates.{is_among}
use Rattle.rr_overwrite.proofs.Declared.{in_two, variable_is, barred_is}
use Rattle.rr_overwrite.proofs.variables.variables_of.Goals as goal

pub returns : goal.returns
returns c = record {
  declared = λ name.
      in_two (is_among name c.new-declared.result) _ _ _ _ (ap (λ xs. is_among name xs) c.new-declared.ensures) (c.in_ok-add_set_by_ports.ensures name) (c.in_ok-add_set_by_items.ensures name)
      ∙ sym (variable_is c.args.«module».now name);
  barred = λ name.
      in_two (is_among name c.new-barred.result) _ _ _ _ (ap (λ xs. is_among name xs) c.new-barred.ensures) (c.in_ok-add_open_by_ports.ensures name) (c.in_ok-add_open_by_items.ensures name)
      ∙ sym (barred_is c.args.«module».now name);
}
