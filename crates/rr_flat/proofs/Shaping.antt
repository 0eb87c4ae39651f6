-- An expression without faults has a shape.
use Rattle.std.proofs.Common.{◌≡◌, false, [], Option, Some, None, refl}
use Rattle.rr_syntax.specs.Tree.{Tree}
use Rattle.rr_expr.specs.Scopes.{Names}
use Rattle.rr_expr.specs.Faults.{fault}
use Rattle.rr_expr.specs.Values.{form}
use Rattle.rr_expr.specs.declared.types.ExprFault.{ExprFault}
use Rattle.rr_expr.specs.declared.types.Shape.{Shape}
use Rattle.rr_flat.specs.Faults.{answer_of, faults_in}
use Rattle.rr_flat.specs.Shapes.{shape, shape_faults}

shaped : (o : Option ExprFault) (s : Shape) → faults_in (answer_of o s) ≡ [] → o ≡ None
shaped None s e = refl
shaped (Some f) s e = cc

pub clear : (names : Names) (t : Tree) → shape_faults names t ≡ [] → fault names t false ≡ None
unfolding shape
clear names t e = shaped (fault names t false) (form names t) e
