-- No name of a loop comes into an expression by a choice.
use Rattle.std.proofs.Common.{◌≡◌, ◌⊎◌, inl, inr, ℕ, Bool, true, false, not, ◌&&◌, List, [], ◌++◌, get_or, refl, ap}
use Rattle.rr_syntax.specs.Tree.{Tree, Trees, Name, Literal, Bit, Part, Indexed, Unary, Binary, Cond, Concat, Repeat, Cast, Paren, End, More}
use Rattle.rr_expr.specs.declared.operators.Infix.TheVariants.{Either}
use Rattle.rr_expr.specs.Faults.{takes_constants}
use Rattle.rr_expr.specs.Operators.{infixes}
use Rattle.rr_choice.specs.declared.pick.Pick.{Pick}
use Rattle.rr_choice.specs.Sites.{Site}
use Rattle.rr_choice.specs.Places.{find_pick, is_literal_at}
use Rattle.rr_instance.specs.Instances.{fresh, is_guard_of, named, instance_tree, instance_parts, instance_test}
use Rattle.rr_instance_laws.specs.Tests.{IsGuardName, IsGuardNameIn, IsTestName}
use Rattle.rr_instance_laws.proofs.Rounds.{literal_has, branch_has, unless_false, found_names, Rounds, guard_term, test_has}
use Rattle.rr_flat.specs.declared.fault.FlatFault.TheVariants.{BadLoop}
use Rattle.rr_flat.specs.Faults.{fault_if}
use Rattle.rr_loop_rules.specs.Rules.{LoopNames, contains, strays, part_strays}
use Rattle.rr_unfold_instance.proofs.Empty.{nil_left, nil_right, nil_both}

module _ (names outer : LoopNames) where
  abbrev NoStrays : Tree → Type 0
  NoStrays t = strays names outer t ≡ []

  abbrev IsFree : List ℕ → Type 0
  IsFree name = contains names name ≡ false

  pub free_none : (name : List ℕ) → contains names name ≡ false → strays names outer (named name) ≡ []
  unfolding strays
  free_none name e = ap (λ (b : Bool). fault_if (b && not (contains outer name)) (BadLoop fresh)) e

  term_none : (name : List ℕ) → IsFree name → (plain : Bool) → NoStrays (guard_term plain name)
  unfolding strays
  term_none name e true = free_none name e
  term_none name e false = free_none name e

  round_none : (t : Tree) → NoStrays t → Rounds NoStrays IsFree t
  unfolding strays
  round_none t h = record {
    same = h;
    denied = h;
    joined = λ name p both plain. nil_both (strays names outer t) (strays names outer (guard_term plain name)) h (term_none name p plain);
  }

module _ (ss : List Site) (ps : List Pick) (names outer : LoopNames) where
  test_none : (t : Tree) → ((name : List ℕ) → IsTestName ss t name → contains names name ≡ false) → strays names outer (instance_tree ss ps t) ≡ [] → strays names outer (instance_test ss ps t) ≡ []
  test_none t n h =
      test_has (NoStrays names outer) (IsFree names outer) (find_pick (is_guard_of t) ss ps) (instance_tree ss ps t)
      (found_names (IsFree names outer) (is_guard_of t) ss ps (λ x k. n x (inl k))) (round_none names outer (instance_tree ss ps t) h)

  mutual
    unfolding strays instance_tree IsGuardName

    pub strays_stay : (t : Tree) → ((name : List ℕ) → IsGuardName ss t name → contains names name ≡ false) → strays names outer t ≡ [] → strays names outer (instance_tree ss ps t) ≡ []
    strays_stay (Name token x) n h = h
    strays_stay (Literal token d) n h = literal_has (NoStrays names outer) (find_pick (is_literal_at token) ss ps) token d h (λ v. refl)
    strays_stay (Bit token x i) n h = h
    strays_stay (Part token x l r) n h = h
    strays_stay (Indexed token x f k up) n h = h
    strays_stay (Unary op t) n h = strays_stay t n h
    strays_stay (Binary op l r) n h =
        branch_has (NoStrays names outer) (takes_constants (get_or infixes op Either)) (Binary op l r) (Binary op (instance_tree ss ps l) (instance_tree ss ps r))
        (λ e. h)
        (λ e. nil_both (strays names outer (instance_tree ss ps l)) (strays names outer (instance_tree ss ps r))
        (strays_stay l (λ x k. n x (unless_false (takes_constants (get_or infixes op Either)) (IsGuardName ss l x ⊎ IsGuardName ss r x) e (inl k))) (nil_left (strays names outer l) (strays names outer r) h))
        (strays_stay r (λ x k. n x (unless_false (takes_constants (get_or infixes op Either)) (IsGuardName ss l x ⊎ IsGuardName ss r x) e (inr k))) (nil_right (strays names outer l) (strays names outer r) h)))
    strays_stay (Cond a b c) n h =
        let rest = nil_right (strays names outer a) (strays names outer b ++ strays names outer c) h in
        nil_both (strays names outer (instance_test ss ps a)) (strays names outer (instance_tree ss ps b) ++ strays names outer (instance_tree ss ps c))
        (test_none a (λ x k. n x (inl k)) (strays_stay a (λ x k. n x (inl (inr k))) (nil_left (strays names outer a) (strays names outer b ++ strays names outer c) h)))
        (nil_both (strays names outer (instance_tree ss ps b)) (strays names outer (instance_tree ss ps c))
        (strays_stay b (λ x k. n x (inr (inl k))) (nil_left (strays names outer b) (strays names outer c) rest))
        (strays_stay c (λ x k. n x (inr (inr k))) (nil_right (strays names outer b) (strays names outer c) rest)))
    strays_stay (Concat ts) n h = part_strays_stay ts n h
    strays_stay (Repeat k ts) n h =
        nil_both (strays names outer k) (part_strays names outer (instance_parts ss ps ts)) (nil_left (strays names outer k) (part_strays names outer ts) h)
        (part_strays_stay ts n (nil_right (strays names outer k) (part_strays names outer ts) h))
    strays_stay (Cast signed t) n h = strays_stay t n h
    strays_stay (Paren t) n h = strays_stay t n h

    pub part_strays_stay : (ts : Trees) → ((name : List ℕ) → IsGuardNameIn ss ts name → contains names name ≡ false) → part_strays names outer ts ≡ [] → part_strays names outer (instance_parts ss ps ts) ≡ []
    part_strays_stay End n h = h
    part_strays_stay (More t ts) n h =
        nil_both (strays names outer (instance_tree ss ps t)) (part_strays names outer (instance_parts ss ps ts))
        (strays_stay t (λ x k. n x (inl k)) (nil_left (strays names outer t) (part_strays names outer ts) h))
        (part_strays_stay ts (λ x k. n x (inr k)) (nil_right (strays names outer t) (part_strays names outer ts) h))

  pub test_strays_stay : (t : Tree) → ((name : List ℕ) → IsTestName ss t name → contains names name ≡ false) → strays names outer t ≡ [] → strays names outer (instance_test ss ps t) ≡ []
  test_strays_stay t n h = test_none t n (strays_stay t (λ x k. n x (inr k)) h)
