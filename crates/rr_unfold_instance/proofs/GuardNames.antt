-- What guards may bring into an unfolded statement they may bring into the statement.
use Rattle.std.proofs.Common.{◌≡◌, ◌⊎◌, inl, inr, ℕ, Bool, true, false, List, [], ◌∷◌, get_or, Option, Some, None, ap₂, subst}
use Rattle.std.proofs.Math.Logic.{⊎_elim}
use Rattle.rr_syntax.specs.Tree.{Tree, Trees, Name, Literal, Bit, Part, Indexed, Unary, Binary, Cond, Concat, Repeat, Cast, Paren, End, More, Statement, Statements, Arm, Arms, Null, Block, If, IfElse, Case, Assign, For, Done, Then, CaseItem, NoArms, MoreArms}
use Rattle.rr_expr.specs.declared.operators.Infix.TheVariants.{Either}
use Rattle.rr_expr.specs.Faults.{takes_constants}
use Rattle.rr_expr.specs.Operators.{infixes}
use Rattle.rr_expr.specs.Scopes.{Names}
use Rattle.rr_choice.specs.Sites.{Site}
use Rattle.rr_choice.specs.Places.{is_guard_at}
use Rattle.rr_instance.specs.Instances.{is_guard_of}
use Rattle.rr_instance_laws.specs.Tests.{IsNameAt, Unless, IsGuardName, IsGuardNameIn, IsTestName, IsGuardNameOf, IsGuardNameOfAll, IsGuardNameOfArm, IsGuardNameOfArms}
use Rattle.rr_loop_names.specs.Turns.{Turn, turned, put_name, put_tree, put_parts}
use Rattle.rr_loop_names.proofs.Keeping.{first_put, size_put}
use Rattle.rr_unfold.specs.Unfold.{inside, values_of, each_turn, unfold_statement, unfold_statements, unfold_arm, unfold_arms}

pub in_either : {A B C D : Type 0} → (A → C) → (B → D) → A ⊎ B → C ⊎ D
in_either f g (inl a) = inl (f a)
in_either f g (inr b) = inr (g b)

unless_still : (c : Bool) (A B : Type 0) → (A → B) → Unless c A → Unless c B
unless_still true A B f a = a
unless_still false A B f a = f a

no_guards : (ss : List Site) (token : ℕ) (x : List ℕ) (o : Option ℕ) (name : List ℕ) → IsGuardName ss (put_name token x o) name → IsGuardName ss (Name token x) name
unfolding IsGuardName
no_guards ss token x None name k = k
no_guards ss token x (Some v) name k = k

-- a condition begins at the same token and has as many, so that it has the same guards
guards_here : (ss : List Site) (turn : Turn) (t : Tree) (name : List ℕ) → IsNameAt ss (is_guard_of (put_tree turn t)) name → IsNameAt ss (is_guard_of t) name
guards_here ss turn t name k =
    let guard : ℕ → ℕ → Site → Bool = λ n m s. is_guard_at n m s in
    let same : is_guard_of (put_tree turn t) ≡ is_guard_of t = ap₂ guard (first_put turn t) (size_put turn t) in
    subst (λ (test : Site → Bool). IsNameAt ss test name) same k

module _ (ss : List Site) (turn : Turn) (name : List ℕ) where
  mutual
    unfolding put_tree IsGuardName

    guards_put : (t : Tree) → IsGuardName ss (put_tree turn t) name → IsGuardName ss t name
    guards_put (Name token x) k = no_guards ss token x (turned x turn) name k
    guards_put (Literal token d) k = k
    guards_put (Bit token x i) k = k
    guards_put (Part token x l r) k = k
    guards_put (Indexed token x f n up) k = k
    guards_put (Unary op t) k = guards_put t k
    guards_put (Binary op l r) k =
        unless_still (takes_constants (get_or infixes op Either)) (IsGuardName ss (put_tree turn l) name ⊎ IsGuardName ss (put_tree turn r) name) (IsGuardName ss l name ⊎ IsGuardName ss r name)
        (in_either (guards_put l) (guards_put r)) k
    guards_put (Cond a b c) k = in_either (in_either (guards_here ss turn a name) (guards_put a)) (in_either (guards_put b) (guards_put c)) k
    guards_put (Concat ts) k = guards_put_in ts k
    guards_put (Repeat n ts) k = guards_put_in ts k
    guards_put (Cast signed t) k = guards_put t k
    guards_put (Paren t) k = guards_put t k

    guards_put_in : (ts : Trees) → IsGuardNameIn ss (put_parts turn ts) name → IsGuardNameIn ss ts name
    guards_put_in End k = k
    guards_put_in (More t ts) k = in_either (guards_put t) (guards_put_in ts) k

  guards_put_test : (t : Tree) → IsTestName ss (put_tree turn t) name → IsTestName ss t name
  guards_put_test t k = in_either (guards_here ss turn t name) (guards_put t) k

-- of each turn, and so of a loop
of_turns : (ss : List Site) (name : List ℕ) (P : Type 0) (body : ℕ → Statement) → ((v : ℕ) → IsGuardNameOf ss (body v) name → P) → (vs : List ℕ) → IsGuardNameOfAll ss (each_turn body vs) name → P
unfolding each_turn IsGuardNameOf
of_turns ss name P body h [] k = absurd k
of_turns ss name P body h (v ∷ vs) k = ⊎_elim (h v) (of_turns ss name P body h vs) k

module _ (ss : List Site) (s : Names) (name : List ℕ) where
  mutual
    unfolding unfold_statement IsGuardNameOf

    pub statement_guards : (t : Statement) (turn : Turn) → IsGuardNameOf ss (unfold_statement s turn t) name → IsGuardNameOf ss t name
    statement_guards Null turn k = k
    statement_guards (Block label ts) turn k = statements_guards ts turn k
    statement_guards (If c t) turn k = in_either (guards_put_test ss turn name c) (statement_guards t turn) k
    statement_guards (IfElse c t u) turn k = in_either (guards_put_test ss turn name c) (in_either (statement_guards t turn) (statement_guards u turn)) k
    statement_guards (Case kind on arms) turn k = in_either (guards_put ss turn name on) (arms_guards arms turn) k
    statement_guards (Assign t now e) turn k = guards_put ss turn name e k
    statement_guards (For h t) turn k =
        of_turns ss name (IsGuardNameOf ss t name) (λ v. unfold_statement s (inside h turn v) t) (λ v q. statement_guards t (inside h turn v) q) (values_of s turn h) k

    statements_guards : (ts : Statements) (turn : Turn) → IsGuardNameOfAll ss (unfold_statements s turn ts) name → IsGuardNameOfAll ss ts name
    statements_guards Done turn k = k
    statements_guards (Then t ts) turn k = in_either (statement_guards t turn) (statements_guards ts turn) k

    arm_guards : (a : Arm) (turn : Turn) → IsGuardNameOfArm ss (unfold_arm s turn a) name → IsGuardNameOfArm ss a name
    arm_guards (CaseItem labels colon t) turn k = in_either (guards_put_in ss turn name labels) (statement_guards t turn) k

    arms_guards : (arms : Arms) (turn : Turn) → IsGuardNameOfArms ss (unfold_arms s turn arms) name → IsGuardNameOfArms ss arms name
    arms_guards NoArms turn k = k
    arms_guards (MoreArms a rest) turn k = in_either (arm_guards a turn) (arms_guards rest turn) k
