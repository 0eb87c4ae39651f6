-- An `initial` item without a fault has a shape in each expression.
use Rattle.std.proofs.Common.{◌≡◌, ◌∙◌, ℕ, List, [], ◌∷◌, ◌++◌, Bool, false, true, IsTrue, ◌&&◌, Option, None, Some, refl}
use Rattle.std.proofs.lemmas.Bool.{and_parts}
use Rattle.rr_syntax.specs.Tree.{Tree, Name, Literal, Bit, Part, Indexed, Unary, Binary, Cond, Concat, Repeat, Cast, Paren, Statement, Statements, Null, Block, If, IfElse, Case, Assign, For, Done, Then}
use Rattle.rr_syntax.specs.Statements.{is_initial, are_initial}
use Rattle.rr_expr.specs.Scopes.{Names, meant}
use Rattle.rr_expr.specs.Faults.{fault, or_else, index_fault}
use Rattle.rr_expr.specs.declared.types.ExprFault.{ExprFault}
use Rattle.rr_flat.specs.declared.fault.FlatFault.{FlatFault}
use Rattle.rr_flat.specs.Faults.{answer_of, faults_in}
use Rattle.rr_flat.specs.Shapes.{shape, shape_faults, statement_faults, statements_faults}
use Rattle.rr_flat.proofs.Relaxing.{relax}
use Rattle.rr_starts.specs.Starts.{constant_faults, initial_target_faults, initial_faults, all_initial_faults}

pub none_of_two : {A : Type 0} (xs ys : List A) → xs ++ ys ≡ [] → (xs ≡ []) × (ys ≡ [])
none_of_two [] ys h = (refl, h)
none_of_two (x ∷ xs) ys h = cc

two_of_none : {A : Type 0} (xs ys : List A) → xs ≡ [] → ys ≡ [] → xs ++ ys ≡ []
two_of_none xs ys h k = rw (h, k) refl

fault_none : {A : Type 0} (f : Option ExprFault) (a : A) → faults_in (answer_of f a) ≡ [] → f ≡ None
fault_none None a h = refl
fault_none (Some f) a h = cc

pub constant_none : (s : Names) (t : Tree) → constant_faults s t ≡ [] → fault s t true ≡ None
constant_none s t h = fault_none (fault s t true) t h

pub shape_none : (s : Names) (t : Tree) → shape_faults s t ≡ [] → fault s t false ≡ None
unfolding shape
shape_none s t h = fault_none (fault s t false) _ h

none_shape : (s : Names) (t : Tree) → fault s t false ≡ None → shape_faults s t ≡ []
unfolding shape
none_shape s t h = rw h refl

pub constant_shaped : (s : Names) (t : Tree) → constant_faults s t ≡ [] → shape_faults s t ≡ []
constant_shaped s t h = none_shape s t (relax s t (constant_none s t h))

-- of two faults there is none

first_none : (f g : Option ExprFault) → or_else f g ≡ None → f ≡ None
first_none None g h = refl
first_none (Some x) g h = cc

second_none : (f g : Option ExprFault) → or_else f g ≡ None → g ≡ None
second_none None g h = h
second_none (Some x) g h = cc

none_of_both : (f g : Option ExprFault) → f ≡ None → g ≡ None → or_else f g ≡ None
none_of_both f g h k = rw (h, k) refl

-- of an index that is constant

pub index_none : (s : Names) (token : ℕ) (name : List ℕ) (i : Tree) → initial_target_faults s (Bit token name i) ≡ [] → fault s i true ≡ None
unfolding initial_target_faults
index_none s token name i h = second_none (index_fault false token (meant s name)) (fault s i true) (fault_none (or_else (index_fault false token (meant s name)) (fault s i true)) (Bit token name i) h)

bit_shaped : (s : Names) (token : ℕ) (name : List ℕ) (i : Tree) → initial_target_faults s (Bit token name i) ≡ [] → fault s (Bit token name i) false ≡ None
unfolding initial_target_faults fault
bit_shaped s token name i h =
    let base = first_none (index_fault false token (meant s name)) (fault s i true) (fault_none (or_else (index_fault false token (meant s name)) (fault s i true)) (Bit token name i) h) in
    none_of_both (index_fault false token (meant s name)) (fault s i false) base (relax s i (index_none s token name i h))

target_shaped : (s : Names) (t : Tree) → initial_target_faults s t ≡ [] → shape_faults s t ≡ []
unfolding initial_target_faults
target_shaped s (Name token name) h = h
target_shaped s (Literal token n) h = h
target_shaped s (Bit token name i) h = none_shape s (Bit token name i) (bit_shaped s token name i h)
target_shaped s (Part token name l r) h = h
target_shaped s (Indexed token name f n up) h = h
target_shaped s (Unary op a) h = h
target_shaped s (Binary op a b) h = h
target_shaped s (Cond a b c) h = h
target_shaped s (Concat ts) h = h
target_shaped s (Repeat n ts) h = h
target_shaped s (Cast signed a) h = h
target_shaped s (Paren a) h = h

mutual
  unfolding is_initial initial_faults statement_faults

  pub initial_shaped : (s : Names) (a : Statement) → IsTrue (is_initial a) → initial_faults s a ≡ [] → statement_faults s a ≡ []
  initial_shaped s Null i h = refl
  initial_shaped s (Block label ss) i h = all_shaped s ss i h
  initial_shaped s (If t a) i h = cc
  initial_shaped s (IfElse t a b) i h = cc
  initial_shaped s (Case kind t arms) i h = cc
  initial_shaped s (Assign target now t) i h =
      let p = none_of_two (initial_target_faults s target) (constant_faults s t) h in
      two_of_none (shape_faults s target) (shape_faults s t) (target_shaped s target p.0) (constant_shaped s t p.1)
  initial_shaped s (For head a) i h = refl

  all_shaped : (s : Names) (ss : Statements) → IsTrue (are_initial ss) → all_initial_faults s ss ≡ [] → statements_faults s ss ≡ []
  all_shaped s Done i h = refl
  all_shaped s (Then a rest) i h =
      let p = none_of_two (initial_faults s a) (all_initial_faults s rest) h in
      let q = and_parts (is_initial a) (are_initial rest) i in
      two_of_none (statement_faults s a) (statements_faults s rest) (initial_shaped s a q.0 p.0) (all_shaped s rest q.1 p.1)
