use Rattle.std.proofs.Common.{◌<◌, ◌^◌, ◌∙◌, ℕ, subst, sym}
use Rattle.rr_syntax.specs.View.{plain}
use Rattle.rr_literal.proofs.NewNumbers.{same_number}
use Rattle.rr_literal.proofs.replacing.replaced.Goals as goal

pub returns-clause-instance : goal.returns-clause-instance
unfolding plain
returns-clause-instance c = λ token n width signed.
    same_number c.value_width.result c.is_signed.result c.args.value n (subst (λ (w : ℕ). c.args.value < 2 ^ w) (sym c.value_width.ensures) c.requires.fits)
    (width ∙ sym c.value_width.ensures) (signed ∙ sym c.is_signed.ensures)
