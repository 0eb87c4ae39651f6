use Rattle.std.proofs.Common.{◌∙◌, ap, refl}
use Rattle.rr_circuit.specs.Values.{wire_values}
use Rattle.rr_count.specs.Counts.{true_count}
use Rattle.rr_count.proofs.Adders.{count-false}
use Rattle.rr_count.proofs.binary.odd_wires.Goals.{then-wires-eq0+in_ok-push, else-wires-eq0}
use Rattle.rr_count.proofs.binary.odd_wires.Goals as goal

pub returns-clause-value : goal.returns-clause-value
returns-clause-value c =
    let copied = c.in_ok-extend_from_slice.ensures.items ∙ rw c.in_ok-odd.ensures.items refl in
    elim c.if-wires-eq0.branch [
      | then-wires-eq0+in_ok-push w ↦ λ env. rw (w.odd-is, w.in_ok-push.ensures.items) (count-false _ env _ _ (w.constant.ensures.value env) ∙ ap (λ xs. true_count (wire_values c.args.b.now env xs)) copied)
      | else-wires-eq0 w ↦ λ env. rw (w.odd-is, copied) refl
    ]
