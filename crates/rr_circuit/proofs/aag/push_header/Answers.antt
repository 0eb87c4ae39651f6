use Rattle.std.proofs.Common.{◌∙◌, refl}
use Rattle.std.proofs.lemmas.List.{append_assoc}
use Rattle.rr_circuit.proofs.aag.push_header.Goals as goal

pub returns : goal.returns
returns c = c.in_ok-push_number-5.ensures ∙ rw (c.in_ok-push_number-4.ensures, c.in_ok-push_number-3.ensures, c.in_ok-push_number-2.ensures, c.in_ok-push_number.ensures, c.in_ok-extend_from_slice.ensures.items) (simp append_assoc refl)
