-- A source is mended in one way: which names are marked is told by its flat design alone.
use Rattle.std.proofs.Common.{◌≡◌, ◌∙◌, sym, ap, Bool, true, false, refl}
use Rattle.rr_syntax.specs.Tree.{SourceText}
use Rattle.rr_flat.specs.Plain.{Flat}
use Rattle.rr_body_laws.specs.Bodies.{source_with}
use Rattle.rr_lint_laws.specs.Mended.{IsLint, MarkLatched, Marks, mended_body}

same_answer : (a b : Bool) → (a ≡ true → b ≡ true) → (b ≡ true → a ≡ true) → a ≡ b
same_answer true b h k = sym (h refl)
same_answer false true h k = k refl
same_answer false false h k = refl

same_marks : (flat : Flat) (marks others : Marks) → MarkLatched flat marks → MarkLatched flat others → marks ≡ others
same_marks flat marks others h k =
    λ i token name. same_answer (marks token name) (others token name) (λ e. k.all token name (h.right token name e)) (λ e. h.all token name (k.right token name e)) i

pub one_lint : (source mended other : SourceText) (flat : Flat) → IsLint source flat mended → IsLint source flat other → mended ≡ other
one_lint source mended other flat h k = h.is ∙ (ap (λ (marks : Marks). source_with flat.reached (mended_body marks) source) (same_marks flat h.marks k.marks h.latched k.latched) ∙ sym k.is)
