-- The faults of a form, from those of its operands.
use Rattle.std.specs.Prelude.{ℕ, List, Bool, true, ◌||◌, Option}
use Rattle.rr_syntax.specs.Tree.{Tree}
use Rattle.rr_expr.specs.declared.types.ExprFault.{ExprFault}
use Rattle.rr_expr.specs.declared.types.ExprFault.TheVariants.{BadRange, NotConstant}
use Rattle.rr_expr.specs.declared.operators.Infix.{Infix}
use Rattle.rr_expr.specs.Scopes.{Names, meant, entity_range}
use Rattle.rr_expr.specs.Selects.{is_against, integer_with}
use Rattle.rr_expr.specs.Values.{form, value, nowhere}
use Rattle.rr_expr.specs.Faults.{fault, first, or_else, fault_if, base_fault, width_fault, count_fault, takes_constants, is_bad, constant_count, constant_span}

abbrev pub part_fault : Names → ℕ → List ℕ → Tree → Tree → Bool → Option ExprFault
part_fault s token name l r constant =
    or_else (base_fault constant token (meant s name)) (or_else (fault s l true) (or_else (fault s r true)
    (or_else (fault_if (is_against (entity_range (meant s name)) (integer_with (form s l) (value s l nowhere)) (integer_with (form s r) (value s r nowhere))) (BadRange token))
    (width_fault token (constant_span s l r)))))

abbrev pub indexed_fault : Names → ℕ → List ℕ → Tree → Tree → Bool → Option ExprFault
indexed_fault s token name f n constant =
    or_else (base_fault constant token (meant s name)) (or_else (count_fault (fault s n true) token (constant_count s n)) (or_else (fault s f constant) (fault s n true)))

abbrev pub binary_fault : Names → Infix → Tree → Tree → Bool → Option ExprFault
binary_fault s op l r constant =
    or_else (fault s l (constant || takes_constants op)) (or_else (fault s r (constant || takes_constants op))
    (fault_if (is_bad op (form s l) (form s r) (value s r nowhere)) (NotConstant (first r))))
