-- The values of a turn are put into an instance of an expression as into the expression.
use Rattle.std.proofs.Common.{◌≡◌, ◌⊎◌, inl, inr, ℕ, ◌==◌, Bool, true, false, cond, if◌then◌else◌, List, [], ◌∷◌, get_or, Option, Some, None, refl, sym, ◌∙◌, ap, ap₂}
use Rattle.std.specs.List.{AllByRecursion}
use Rattle.std.specs.Str.{bytes_eq}
use Rattle.std.proofs.lemmas.Slice.Eq.{bytes_eq-Decides}
use Rattle.rr_syntax.specs.declared.token.Number.{Number}
use Rattle.rr_syntax.specs.Words.{mark_not, mark_logical_and, mark_logical_or}
use Rattle.rr_syntax.specs.Tree.{Tree, Trees, Name, Literal, Bit, Part, Indexed, Unary, Binary, Cond, Concat, Repeat, Cast, Paren, End, More}
use Rattle.rr_expr.specs.declared.operators.Infix.TheVariants.{Either}
use Rattle.rr_expr.specs.Faults.{takes_constants}
use Rattle.rr_expr.specs.Operators.{infixes}
use Rattle.rr_choice.specs.declared.pick.Pick.{Pick}
use Rattle.rr_choice.specs.Sites.{Site, guard_names}
use Rattle.rr_choice.specs.Choices.{picked_form, picked_name}
use Rattle.rr_choice.specs.Places.{find_pick, is_guard_at, is_literal_at}
use Rattle.rr_instance.specs.Instances.{fresh, is_guard_of, new_literal, named, negated, guarded, new_test, instance_tree, instance_parts, instance_test}
use Rattle.rr_instance_laws.specs.Tests.{IsGuardName, IsGuardNameIn, IsTestName}
use Rattle.rr_instance_laws.proofs.Rounds.{literal_has, unless_false, Found, found_names, picked_is_one}
use Rattle.rr_loop_names.specs.Turns.{Turn, turned, literal_of, put_name, put_tree, put_parts}
use Rattle.rr_loop_names.proofs.Keeping.{first_put, size_put}
use Rattle.rr_loop_rules.specs.Rules.{LoopNames, contains}
use Rattle.rr_unfold_instance.specs.Apart.{NoLiteralAt, NamesStay, NamesStayIn}

-- Names of turns

-- each name of a turn is that of a loop
abbrev pub AreNames : LoopNames → Turn → Type 0
AreNames names turn = AllByRecursion (λ (e : List ℕ × ℕ). contains names e.0 ≡ true) turn

other_name : (names : LoopNames) (x y : List ℕ) → contains names x ≡ false → contains names y ≡ true → bytes_eq x y ≡ false
other_name names x y h k = by_equal (bytes_eq x y) refl
  where
    by_equal : (b : Bool) → bytes_eq x y ≡ b → b ≡ false
    by_equal true e = let bad : true ≡ false = sym k ∙ (ap (λ (z : List ℕ). contains names z) (sym ((bytes_eq-Decides x y).0 e)) ∙ h) in absurd (cc)
    by_equal false e = refl

-- a name that is no loop's has no value in a turn
pub free_of_turn : (names : LoopNames) (turn : Turn) (x : List ℕ) → AreNames names turn → contains names x ≡ false → turned x turn ≡ None
unfolding turned
free_of_turn names [] x a h = refl
free_of_turn names (e ∷ es) x a h = by_name (bytes_eq x e.0) (other_name names x e.0 h a.0) (free_of_turn names es x a.1 h)
  where
    by_name : (b : Bool) → b ≡ false → turned x es ≡ None → cond b (Some e.1) (turned x es) ≡ None
    by_name true q r = let bad : true ≡ false = q in absurd (cc)
    by_name false q r = r

-- Leaves

none_found : (token : ℕ) (ss : List Site) (ps : List Pick) → NoLiteralAt ss token → find_pick (is_literal_at token) ss ps ≡ None
unfolding find_pick
none_found token [] ps h = refl
none_found token (s ∷ ss) [] h = refl
none_found token (s ∷ ss) (p ∷ ps) h = by_test (is_literal_at token s) h.0 (none_found token ss ps h.1)
  where
    by_test : (b : Bool) → b ≡ false → find_pick (is_literal_at token) ss ps ≡ None → (if b then Some (s, p) else find_pick (is_literal_at token) ss ps) ≡ None
    by_test true e r = let bad : true ≡ false = e in absurd (cc)
    by_test false e r = r

-- the value at a name's token is no literal of a site
name_instance : (ss : List Site) (ps : List Pick) (token : ℕ) (x : List ℕ) (o : Option ℕ) → NoLiteralAt ss token → put_name token x o ≡ instance_tree ss ps (put_name token x o)
unfolding instance_tree
name_instance ss ps token x None h = refl
name_instance ss ps token x (Some v) h = sym (ap (λ (f : Option (Site × Pick)). new_literal f token (literal_of v)) (none_found token ss ps h))

literal_put : (turn : Turn) (found : Option (Site × Pick)) (token : ℕ) (n : Number) → put_tree turn (new_literal found token n) ≡ new_literal found token n
unfolding put_tree
literal_put turn found token n = literal_has (λ u. put_tree turn u ≡ u) found token n refl (λ v. refl)

-- Conditions

-- a guard whose name has no value in a turn stays
guarded_put : (turn : Turn) (k : ℕ) (name : List ℕ) (t : Tree) → ((k == 0) ≡ false → turned name turn ≡ None) → put_tree turn (guarded k name t) ≡ guarded k name (put_tree turn t)
unfolding put_tree
guarded_put turn k name t h = by_form (k == 0) (k == 1) (k == 2) (k == 3) h
  where
    by_form : (a b c d : Bool) → (a ≡ false → turned name turn ≡ None) →
        put_tree turn (if a then negated (Paren t) else if b then Binary mark_logical_and (Paren t) (named name) else if c then Binary mark_logical_and (Paren t) (negated (named name)) else if d then Binary mark_logical_or (Paren t) (named name) else Binary mark_logical_or (Paren t) (negated (named name)))
        ≡ (if a then negated (Paren (put_tree turn t)) else if b then Binary mark_logical_and (Paren (put_tree turn t)) (named name) else if c then Binary mark_logical_and (Paren (put_tree turn t)) (negated (named name)) else if d then Binary mark_logical_or (Paren (put_tree turn t)) (named name) else Binary mark_logical_or (Paren (put_tree turn t)) (negated (named name)))
    by_form true b c d p = refl
    by_form false true c d p = ap (λ (o : Option ℕ). Binary mark_logical_and (Paren (put_tree turn t)) (put_name fresh name o)) (p refl)
    by_form false false true d p = ap (λ (o : Option ℕ). Binary mark_logical_and (Paren (put_tree turn t)) (Unary mark_not (put_name fresh name o))) (p refl)
    by_form false false false true p = ap (λ (o : Option ℕ). Binary mark_logical_or (Paren (put_tree turn t)) (put_name fresh name o)) (p refl)
    by_form false false false false p = ap (λ (o : Option ℕ). Binary mark_logical_or (Paren (put_tree turn t)) (Unary mark_not (put_name fresh name o))) (p refl)

new_test_put : (turn : Turn) (found : Option (Site × Pick)) (t : Tree) → Found (λ (name : List ℕ). turned name turn ≡ None) found → put_tree turn (new_test found t) ≡ new_test found (put_tree turn t)
new_test_put turn None t h = refl
new_test_put turn (Some (s, p)) t h = by_switch p.on
  where
    by_switch : (on : Bool) → put_tree turn (if on then guarded (picked_form (guard_names s.kind) p.form) (picked_name (guard_names s.kind) p.name) t else t)
        ≡ (if on then guarded (picked_form (guard_names s.kind) p.form) (picked_name (guard_names s.kind) p.name) (put_tree turn t) else put_tree turn t)
    by_switch true = guarded_put turn (picked_form (guard_names s.kind) p.form) (picked_name (guard_names s.kind) p.name) t (λ e. h (picked_name (guard_names s.kind) p.name) (picked_is_one (guard_names s.kind) p.form p.name e))
    by_switch false = refl

-- a condition begins at the same token and has as many, so that it has the same guards
same_guards : (ss : List Site) (ps : List Pick) (turn : Turn) (t : Tree) → find_pick (is_guard_of (put_tree turn t)) ss ps ≡ find_pick (is_guard_of t) ss ps
same_guards ss ps turn t = ap₂ (λ (k n : ℕ). find_pick (λ s. is_guard_at k n s) ss ps) (first_put turn t) (size_put turn t)

test_put : (ss : List Site) (ps : List Pick) (turn : Turn) (t : Tree) → Found (λ (name : List ℕ). turned name turn ≡ None) (find_pick (is_guard_of t) ss ps) →
    put_tree turn (instance_tree ss ps t) ≡ instance_tree ss ps (put_tree turn t) → put_tree turn (instance_test ss ps t) ≡ instance_test ss ps (put_tree turn t)
test_put ss ps turn t h e =
    new_test_put turn (find_pick (is_guard_of t) ss ps) (instance_tree ss ps t) h ∙ ap₂ (λ (f : Option (Site × Pick)) (u : Tree). new_test f u) (sym (same_guards ss ps turn t)) e

-- Expressions

branch_put : (turn : Turn) (c : Bool) (x y z w : Tree) → (c ≡ true → put_tree turn x ≡ z) → (c ≡ false → put_tree turn y ≡ w) → put_tree turn (if c then x else y) ≡ (if c then z else w)
branch_put turn true x y z w f g = f refl
branch_put turn false x y z w f g = g refl

-- three equations of parts give one of the whole
pub three : {A B C D : Type 0} (f : A → B → C → D) {a b : A} {c d : B} {x y : C} → a ≡ b → c ≡ d → x ≡ y → f a c x ≡ f b d y
three f h k l i = f (h i) (k i) (l i)

module _ (ss : List Site) (ps : List Pick) (turn : Turn) where
  mutual
    unfolding instance_tree put_tree NamesStay IsGuardName

    pub put_instance : (t : Tree) → NamesStay ss t → ((name : List ℕ) → IsGuardName ss t name → turned name turn ≡ None) → put_tree turn (instance_tree ss ps t) ≡ instance_tree ss ps (put_tree turn t)
    put_instance (Name token x) h n = name_instance ss ps token x (turned x turn) h
    put_instance (Literal token d) h n = literal_put turn (find_pick (is_literal_at token) ss ps) token d
    put_instance (Bit token x i) h n = refl
    put_instance (Part token x l r) h n = refl
    put_instance (Indexed token x f k up) h n = refl
    put_instance (Unary op t) h n = ap (Unary op) (put_instance t h n)
    put_instance (Binary op l r) h n =
        branch_put turn (takes_constants (get_or infixes op Either)) (Binary op l r) (Binary op (instance_tree ss ps l) (instance_tree ss ps r))
        (Binary op (put_tree turn l) (put_tree turn r)) (Binary op (instance_tree ss ps (put_tree turn l)) (instance_tree ss ps (put_tree turn r)))
        (λ e. refl)
        (λ e. ap₂ (Binary op)
        (put_instance l h.0 (λ x k. n x (unless_false (takes_constants (get_or infixes op Either)) (IsGuardName ss l x ⊎ IsGuardName ss r x) e (inl k))))
        (put_instance r h.1 (λ x k. n x (unless_false (takes_constants (get_or infixes op Either)) (IsGuardName ss l x ⊎ IsGuardName ss r x) e (inr k)))))
    put_instance (Cond a b c) h n =
        three Cond
        (test_put ss ps turn a (found_names (λ (name : List ℕ). turned name turn ≡ None) (is_guard_of a) ss ps (λ x k. n x (inl (inl k)))) (put_instance a h.0 (λ x k. n x (inl (inr k)))))
        (put_instance b h.1 (λ x k. n x (inr (inl k)))) (put_instance c h.2 (λ x k. n x (inr (inr k))))
    put_instance (Concat ts) h n = ap Concat (put_instance_parts ts h n)
    put_instance (Repeat k ts) h n = ap (Repeat (put_tree turn k)) (put_instance_parts ts h n)
    put_instance (Cast signed t) h n = ap (Cast signed) (put_instance t h n)
    put_instance (Paren t) h n = ap Paren (put_instance t h n)

    pub put_instance_parts : (ts : Trees) → NamesStayIn ss ts → ((name : List ℕ) → IsGuardNameIn ss ts name → turned name turn ≡ None) → put_parts turn (instance_parts ss ps ts) ≡ instance_parts ss ps (put_parts turn ts)
    put_instance_parts End h n = refl
    put_instance_parts (More t ts) h n = ap₂ More (put_instance t h.0 (λ x k. n x (inl k))) (put_instance_parts ts h.1 (λ x k. n x (inr k)))

  pub put_instance_test : (t : Tree) → NamesStay ss t → ((name : List ℕ) → IsTestName ss t name → turned name turn ≡ None) → put_tree turn (instance_test ss ps t) ≡ instance_test ss ps (put_tree turn t)
  put_instance_test t h n =
      test_put ss ps turn t (found_names (λ (name : List ℕ). turned name turn ≡ None) (is_guard_of t) ss ps (λ x k. n x (inl k))) (put_instance t h (λ x k. n x (inr k)))
