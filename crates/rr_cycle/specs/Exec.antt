-- What statements do: the environment after their blocking assignments, and the updates that their nonblocking ones leave
-- for later (IEEE 1364-2005 sections 9.2, 9.4, 9.5 and 9.8.1). An environment gives each bit its value.
use Rattle.std.specs.Prelude.{ℕ, ◌==◌, max, List, [], ◌∷◌, ◌++◌, Bool, true, false, cond, not, ◌||◌, Option, Some, None}
use Rattle.rr_bits.specs.Words.{word, extend, both, either, one_of, inverted, is_zero}
use Rattle.rr_syntax.specs.declared.token.Number.{Number}
use Rattle.rr_syntax.specs.Tree.{Tree, Trees, Name, Literal, Bit as BitSelect, Part, Indexed, Unary, Binary, Cond, Concat, Repeat, Cast, Paren, End, More, Statement, Statements, Arm, Arms, Null, Block as Sequence, If, IfElse, Case, Assign, For, Done, Then, CaseItem, NoArms, MoreArms}
use Rattle.rr_syntax.specs.Words.{keyword_case, keyword_casez}
use Rattle.rr_expr.specs.declared.types.Bit.{Bit}
use Rattle.rr_expr.specs.declared.types.Shape.{Shape}
use Rattle.rr_expr.specs.Operators.{joined}
use Rattle.rr_expr.specs.Scopes.{Names}
use Rattle.rr_expr.specs.Values.{form, value, own}
use Rattle.rr_flat.specs.Latches.{is_default}
use Rattle.rr_flat.specs.Targets.{same_bit, target_bits}

abbrev pub Environment : Type 0
Environment = Bit → Bool

-- Assignments

abbrev pub put : Bit → Bool → Environment → Environment
put b v env c = cond (same_bit b c) v (env c)

abbrev pub first : List Bool → Bool
first [] = false
first (v ∷ vs) = v

abbrev pub rest : List Bool → List Bool
rest [] = []
rest (v ∷ vs) = vs

-- the bits of a target take those of a value, lowest first; a bit that is not there takes none, so that a word that a memory
-- does not have takes nothing (section 5.2.2)
unfoldable pub write : List (Option Bit) → List Bool → Environment → Environment
write [] vs env = env
write (None ∷ bs) vs env = write bs (rest vs) env
write (Some b ∷ bs) vs env = write bs (rest vs) (put b (first vs) env)

-- the right side of an assignment: in the greater of the widths of both sides, with its own sign (section 5.4); the bits
-- above the target's width are not kept
abbrev pub assigned : Names → Tree → Tree → Environment → List Bool
assigned s t e env = value s e env (max (form s t).width (form s e).width) (form s e).signed

-- Conditions

-- a condition is true where some bit of it is one (section 9.4)
abbrev pub is_true : Names → Tree → Environment → Bool
is_true s c env = not (is_zero (own s c env))

-- the selector and all labels are compared in the greatest of their widths, signed where all are (section 9.5)
unfoldable pub joined_all : Names → Shape → Trees → Shape
joined_all s a End = a
joined_all s a (More t ts) = joined_all s (joined a (form s t)) ts

abbrev pub labels_of : Arm → Trees
labels_of (CaseItem labels colon body) = labels

unfoldable pub joined_labels : Names → Shape → Arms → Shape
joined_labels s a NoArms = a
joined_labels s a (MoreArms arm rest) = joined_labels s (joined_all s a (labels_of arm)) rest

abbrev pub case_shape : Names → Tree → Arms → Shape
case_shape s on arms = joined_labels s (form s on) arms

-- the places of a literal that match anything: in `casez` those of z digits, in `casex` those of x digits too (section 9.5.1)
abbrev pub wild_digits : ℕ → Number → List Bool
wild_digits kind n =
    cond (kind == keyword_case) (word n.width 0) (cond (kind == keyword_casez) (word n.width n.any) (either (word n.width n.any) (word n.width n.unknown)))

-- those of a label, up to a width: the places above the literal's width do not
unfoldable pub wild : ℕ → Tree → ℕ → List Bool
wild kind (Name token name) w = word w 0
wild kind (Literal token n) w = extend w false (wild_digits kind n)
wild kind (BitSelect token name i) w = word w 0
wild kind (Part token name l r) w = word w 0
wild kind (Indexed token name f n up) w = word w 0
wild kind (Unary op t) w = word w 0
wild kind (Binary op l r) w = word w 0
wild kind (Cond a b c) w = word w 0
wild kind (Concat ts) w = word w 0
wild kind (Repeat n ts) w = word w 0
wild kind (Cast signed t) w = word w 0
wild kind (Paren t) w = wild kind t w

-- two words are equal but for wild places
abbrev pub is_equal : List Bool → List Bool → List Bool → Bool
is_equal wilds xs ys = is_zero (both (one_of xs ys) (inverted wilds))

-- one of the labels is equal to the selector's value
unfoldable pub is_matched : Names → ℕ → Shape → List Bool → Trees → Environment → Bool
is_matched s kind a x End env = false
is_matched s kind a x (More t ts) env = is_equal (wild kind t a.width) x (value s t env a.width a.signed) || is_matched s kind a x ts env

-- Statements

-- the environment after the `=` of a statement; a `case` takes the first arm that has an equal label, else its `default`,
-- else nothing. Loops have been unfolded before (section 9.6)
unfoldable mutual
  pub executed : Names → Statement → Environment → Environment
  executed s Null env = env
  executed s (Sequence label ss) env = executed_all s ss env
  executed s (If c t) env = cond (is_true s c env) (executed s t env) env
  executed s (IfElse c t u) env = cond (is_true s c env) (executed s t env) (executed s u env)
  executed s (Case kind on arms) env =
      executed_case s kind (case_shape s on arms) (value s on env (case_shape s on arms).width (case_shape s on arms).signed) arms (executed_default s arms env) env
  executed s (Assign t true e) env = write (target_bits s env t) (assigned s t e env) env
  executed s (Assign t false e) env = env
  executed s (For h t) env = env

  pub executed_all : Names → Statements → Environment → Environment
  executed_all s Done env = env
  executed_all s (Then t ts) env = executed_all s ts (executed s t env)

  pub executed_arm : Names → Arm → Environment → Environment
  executed_arm s (CaseItem labels colon body) env = executed s body env

  pub executed_case : Names → ℕ → Shape → List Bool → Arms → Environment → Environment → Environment
  executed_case s kind a x NoArms other env = other
  executed_case s kind a x (MoreArms arm rest) other env =
      cond (is_matched s kind a x (labels_of arm) env) (executed_arm s arm env) (executed_case s kind a x rest other env)

  pub executed_default : Names → Arms → Environment → Environment
  executed_default s NoArms env = env
  executed_default s (MoreArms arm rest) env = cond (is_default arm) (executed_arm s arm env) (executed_default s rest env)

-- the bits that a nonblocking assignment named when it ran, and the value that they take later (section 9.2.2)
pub record Update : Type 0 where
  pub bits : List (Option Bit)
  pub value : List Bool

-- the updates of a statement's `<=`, in the order in which they ran
unfoldable mutual
  pub updates : Names → Statement → Environment → List Update
  updates s Null env = []
  updates s (Sequence label ss) env = updates_of_all s ss env
  updates s (If c t) env = cond (is_true s c env) (updates s t env) []
  updates s (IfElse c t u) env = cond (is_true s c env) (updates s t env) (updates s u env)
  updates s (Case kind on arms) env =
      updates_of_case s kind (case_shape s on arms) (value s on env (case_shape s on arms).width (case_shape s on arms).signed) arms (updates_of_default s arms env) env
  updates s (Assign t true e) env = []
  updates s (Assign t false e) env = record { bits = target_bits s env t; value = assigned s t e env } ∷ []
  updates s (For h t) env = []

  pub updates_of_all : Names → Statements → Environment → List Update
  updates_of_all s Done env = []
  updates_of_all s (Then t ts) env = updates s t env ++ updates_of_all s ts (executed s t env)

  pub updates_of_arm : Names → Arm → Environment → List Update
  updates_of_arm s (CaseItem labels colon body) env = updates s body env

  pub updates_of_case : Names → ℕ → Shape → List Bool → Arms → List Update → Environment → List Update
  updates_of_case s kind a x NoArms other env = other
  updates_of_case s kind a x (MoreArms arm rest) other env =
      cond (is_matched s kind a x (labels_of arm) env) (updates_of_arm s arm env) (updates_of_case s kind a x rest other env)

  pub updates_of_default : Names → Arms → Environment → List Update
  updates_of_default s NoArms env = []
  updates_of_default s (MoreArms arm rest) env = cond (is_default arm) (updates_of_arm s arm env) (updates_of_default s rest env)

unfoldable pub applied : List Update → Environment → Environment
applied [] env = env
applied (u ∷ us) env = applied us (write u.bits u.value env)
