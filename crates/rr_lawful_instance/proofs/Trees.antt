-- What instances of expressions keep, as the laws of flat designs read them: the names that stand in them, their literals,
-- and the bits that they take where they only take bits.
use Rattle.std.proofs.Common.{◌≡◌, inl, inr, ℕ, ◌==◌, Bool, true, false, not, ◌&&◌, cond, List, [], ◌∷◌, ◌++◌, get_or, refl, subst}
use Rattle.std.specs.List.{AllByRecursion}
use Rattle.std.proofs.Math.Logic.{⊎_elim}
use Rattle.std.proofs.lemmas.Bool.{and_parts, and_from}
use Rattle.rr_syntax.specs.declared.token.Number.{Number}
use Rattle.rr_syntax.specs.Tree.{Tree, Trees, Name, Literal, Bit as BitSelect, Part, Indexed, Unary, Binary, Cond, Concat, Repeat, Cast, Paren, End, More, Identifier}
use Rattle.rr_syntax.specs.Words.{keyword_case, keyword_casez}
use Rattle.rr_expr.specs.declared.operators.Infix.TheVariants.{Either}
use Rattle.rr_expr.specs.Faults.{takes_constants}
use Rattle.rr_expr.specs.Operators.{infixes}
use Rattle.rr_expr.specs.Reading.{Occurs, OccursIn}
use Rattle.rr_expr.specs.Scopes.{Names}
use Rattle.rr_flat.specs.Signals.{Text}
use Rattle.rr_flat.specs.Clocks.{IsBareName}
use Rattle.rr_flat.specs.Lawful.{has_wild, no_wild, label_fits, all_labels_fit}
use Rattle.rr_flat.specs.Plain.{Written, Flat}
use Rattle.rr_flat.specs.Reads.{LiteralToken, literals_in, literals_in_parts, names_in, names_in_parts}
use Rattle.rr_flat.specs.Writers.{is_wiring, are_wiring, taken, all_taken, nothing}
use Rattle.rr_choice.specs.declared.pick.Pick.{Pick}
use Rattle.rr_choice.specs.Places.{find_pick, is_literal_at}
use Rattle.rr_instance.specs.Instances.{is_guard_of, number_with, instance_tree, instance_parts, instance_test, fresh}
use Rattle.rr_choice.specs.Sites.{Site}
use Rattle.rr_instance_laws.specs.Tests.{IsGuardName, IsGuardNameIn, IsTestName}
use Rattle.rr_instance_laws.proofs.NameLaws.{has_names, test_has_names}
use Rattle.rr_instance_laws.proofs.Rounds.{literal_has, branch_has, found_names, Rounds, guard_term, test_has}
use Rattle.rr_lawful_instance.proofs.Lists.{both, parts}

-- Names

module _ (P : Text → Type 0) where
  abbrev pub OfText : Identifier → Type 0
  OfText n = P n.text

  mutual
    unfolding names_in Occurs

    pub by_occurrence : (t : Tree) → ((name : Text) → Occurs t name → P name) → AllByRecursion OfText (names_in t)
    by_occurrence (Name token x) h = (h x refl, tt)
    by_occurrence (Literal token n) h = tt
    by_occurrence (BitSelect token x i) h = (h x (inl refl), by_occurrence i (λ n o. h n (inr o)))
    by_occurrence (Part token x l r) h =
        (h x (inl refl), both OfText (names_in l) (names_in r) (by_occurrence l (λ n o. h n (inr (inl o)))) (by_occurrence r (λ n o. h n (inr (inr o)))))
    by_occurrence (Indexed token x f n up) h =
        (h x (inl refl), both OfText (names_in f) (names_in n) (by_occurrence f (λ n o. h n (inr (inl o)))) (by_occurrence n (λ n o. h n (inr (inr o)))))
    by_occurrence (Unary op t) h = by_occurrence t h
    by_occurrence (Binary op l r) h = both OfText (names_in l) (names_in r) (by_occurrence l (λ n o. h n (inl o))) (by_occurrence r (λ n o. h n (inr o)))
    by_occurrence (Cond a b c) h =
        both OfText (names_in a) (names_in b ++ names_in c) (by_occurrence a (λ n o. h n (inl o)))
        (both OfText (names_in b) (names_in c) (by_occurrence b (λ n o. h n (inr (inl o)))) (by_occurrence c (λ n o. h n (inr (inr o)))))
    by_occurrence (Concat ts) h = by_occurrences ts h
    by_occurrence (Repeat k ts) h = both OfText (names_in k) (names_in_parts ts) (by_occurrence k (λ n o. h n (inl o))) (by_occurrences ts (λ n o. h n (inr o)))
    by_occurrence (Cast signed t) h = by_occurrence t h
    by_occurrence (Paren t) h = by_occurrence t h

    pub by_occurrences : (ts : Trees) → ((name : Text) → OccursIn ts name → P name) → AllByRecursion OfText (names_in_parts ts)
    by_occurrences End h = tt
    by_occurrences (More t ts) h = both OfText (names_in t) (names_in_parts ts) (by_occurrence t (λ n o. h n (inl o))) (by_occurrences ts (λ n o. h n (inr o)))

  mutual
    unfolding names_in Occurs

    pub at_occurrence : (t : Tree) → AllByRecursion OfText (names_in t) → (name : Text) → Occurs t name → P name
    at_occurrence (Name token x) h name o = subst P o h.0
    at_occurrence (Literal token n) h name o = absurd o
    at_occurrence (BitSelect token x i) h name o = ⊎_elim (λ e. subst P e h.0) (at_occurrence i h.1 name) o
    at_occurrence (Part token x l r) h name o =
        let p = parts OfText (names_in l) (names_in r) h.1 in
        ⊎_elim (λ e. subst P e h.0) (λ q. ⊎_elim (at_occurrence l p.0 name) (at_occurrence r p.1 name) q) o
    at_occurrence (Indexed token x f n up) h name o =
        let p = parts OfText (names_in f) (names_in n) h.1 in
        ⊎_elim (λ e. subst P e h.0) (λ q. ⊎_elim (at_occurrence f p.0 name) (at_occurrence n p.1 name) q) o
    at_occurrence (Unary op t) h name o = at_occurrence t h name o
    at_occurrence (Binary op l r) h name o =
        let p = parts OfText (names_in l) (names_in r) h in
        ⊎_elim (at_occurrence l p.0 name) (at_occurrence r p.1 name) o
    at_occurrence (Cond a b c) h name o =
        let p = parts OfText (names_in a) (names_in b ++ names_in c) h in
        let q = parts OfText (names_in b) (names_in c) p.1 in
        ⊎_elim (at_occurrence a p.0 name) (λ u. ⊎_elim (at_occurrence b q.0 name) (at_occurrence c q.1 name) u) o
    at_occurrence (Concat ts) h name o = at_occurrences ts h name o
    at_occurrence (Repeat k ts) h name o =
        let p = parts OfText (names_in k) (names_in_parts ts) h in
        ⊎_elim (at_occurrence k p.0 name) (at_occurrences ts p.1 name) o
    at_occurrence (Cast signed t) h name o = at_occurrence t h name o
    at_occurrence (Paren t) h name o = at_occurrence t h name o

    pub at_occurrences : (ts : Trees) → AllByRecursion OfText (names_in_parts ts) → (name : Text) → OccursIn ts name → P name
    at_occurrences End h name o = absurd o
    at_occurrences (More t ts) h name o =
        let p = parts OfText (names_in t) (names_in_parts ts) h in
        ⊎_elim (at_occurrence t p.0 name) (at_occurrences ts p.1 name) o

  module _ (ss : List Site) (ps : List Pick) where
    pub names_in_instance : (t : Tree) → ((name : Text) → IsGuardName ss t name → P name) → AllByRecursion OfText (names_in t) → AllByRecursion OfText (names_in (instance_tree ss ps t))
    names_in_instance t n h = by_occurrence (instance_tree ss ps t) (has_names P ss ps t n (at_occurrence t h))

    pub names_in_parts_instance : (ts : Trees) → ((name : Text) → IsGuardNameIn ss ts name → P name) → AllByRecursion OfText (names_in_parts ts) →
        AllByRecursion OfText (names_in_parts (instance_parts ss ps ts))
    unfolding names_in instance_tree IsGuardName
    names_in_parts_instance End n h = tt
    names_in_parts_instance (More t ts) n h =
        let p = parts OfText (names_in t) (names_in_parts ts) h in
        both OfText (names_in (instance_tree ss ps t)) (names_in_parts (instance_parts ss ps ts)) (names_in_instance t (λ x k. n x (inl k)) p.0) (names_in_parts_instance ts (λ x k. n x (inr k)) p.1)

    pub names_in_test_instance : (t : Tree) → ((name : Text) → IsTestName ss t name → P name) → AllByRecursion OfText (names_in t) → AllByRecursion OfText (names_in (instance_test ss ps t))
    names_in_test_instance t n h = by_occurrence (instance_test ss ps t) (test_has_names P ss ps t n (at_occurrence t h))

-- Literals

wild_both : (xs ys : List LiteralToken) → no_wild xs ≡ true → no_wild ys ≡ true → no_wild (xs ++ ys) ≡ true
unfolding no_wild
wild_both [] ys h k = k
wild_both (x ∷ xs) ys h k =
    let p = and_parts (not (has_wild x.number)) (no_wild xs) h in
    and_from (not (has_wild x.number)) (no_wild (xs ++ ys)) p.0 (wild_both xs ys p.1 k)

wild_parts : (xs ys : List LiteralToken) → no_wild (xs ++ ys) ≡ true → (no_wild xs ≡ true) × (no_wild ys ≡ true)
unfolding no_wild
wild_parts [] ys h = (refl, h)
wild_parts (x ∷ xs) ys h =
    let p = and_parts (not (has_wild x.number)) (no_wild (xs ++ ys)) h in
    let q = wild_parts xs ys p.1 in
    (and_from (not (has_wild x.number)) (no_wild xs) p.0 q.0, q.1)

abbrev pub IsTame : Tree → Type 0
IsTame t = no_wild (literals_in t) ≡ true

abbrev pub AreTame : Trees → Type 0
AreTame ts = no_wild (literals_in_parts ts) ≡ true

abbrev Any : Text → Type 0
Any name = Unit {0}

round_tame : (t : Tree) → IsTame t → Rounds IsTame Any t
unfolding literals_in no_wild
round_tame t h = record { same = h; denied = h; joined = λ name p both plain. wild_both (literals_in t) (literals_in (guard_term plain name)) h (term plain name) }
  where
    term : (plain : Bool) (name : Text) → IsTame (guard_term plain name)
    term true name = refl
    term false name = refl

module _ (ss : List Site) (ps : List Pick) where
  mutual
    unfolding literals_in no_wild instance_tree

    pub tame_stays : (t : Tree) → IsTame t → IsTame (instance_tree ss ps t)
    tame_stays (Name token x) h = h
    tame_stays (Literal token n) h = literal_has IsTame (find_pick (is_literal_at token) ss ps) token n h (λ v. refl)
    tame_stays (BitSelect token x i) h = h
    tame_stays (Part token x l r) h = h
    tame_stays (Indexed token x f n up) h = h
    tame_stays (Unary op t) h = tame_stays t h
    tame_stays (Binary op l r) h =
        let p = wild_parts (literals_in l) (literals_in r) h in
        branch_has IsTame (takes_constants (get_or infixes op Either)) (Binary op l r) (Binary op (instance_tree ss ps l) (instance_tree ss ps r))
        (λ e. h)
        (λ e. wild_both (literals_in (instance_tree ss ps l)) (literals_in (instance_tree ss ps r)) (tame_stays l p.0) (tame_stays r p.1))
    tame_stays (Cond a b c) h =
        let p = wild_parts (literals_in a) (literals_in b ++ literals_in c) h in
        let q = wild_parts (literals_in b) (literals_in c) p.1 in
        wild_both (literals_in (instance_test ss ps a)) (literals_in (instance_tree ss ps b) ++ literals_in (instance_tree ss ps c))
        (test_has IsTame Any (find_pick (is_guard_of a) ss ps) (instance_tree ss ps a) (found_names Any (is_guard_of a) ss ps (λ x k. tt)) (round_tame (instance_tree ss ps a) (tame_stays a p.0)))
        (wild_both (literals_in (instance_tree ss ps b)) (literals_in (instance_tree ss ps c)) (tame_stays b q.0) (tame_stays c q.1))
    tame_stays (Concat ts) h = parts_stay_tame ts h
    tame_stays (Repeat k ts) h =
        let p = wild_parts (literals_in k) (literals_in_parts ts) h in
        wild_both (literals_in k) (literals_in_parts (instance_parts ss ps ts)) p.0 (parts_stay_tame ts p.1)
    tame_stays (Cast signed t) h = tame_stays t h
    tame_stays (Paren t) h = tame_stays t h

    parts_stay_tame : (ts : Trees) → AreTame ts → AreTame (instance_parts ss ps ts)
    parts_stay_tame End h = h
    parts_stay_tame (More t ts) h =
        let p = wild_parts (literals_in t) (literals_in_parts ts) h in
        wild_both (literals_in (instance_tree ss ps t)) (literals_in_parts (instance_parts ss ps ts)) (tame_stays t p.0) (parts_stay_tame ts p.1)

-- a new literal fits any kind of `case`
new_fits : (kind token : ℕ) (n : Number) (v : ℕ) → label_fits kind (Literal token (number_with n v)) ≡ true
unfolding label_fits
new_fits kind token n v = by_kind (kind == keyword_case) (kind == keyword_casez)
  where
    by_kind : (a b : Bool) → cond a true (cond b true true) ≡ true
    by_kind true b = refl
    by_kind false true = refl
    by_kind false false = refl

module _ (ss : List Site) (ps : List Pick) (kind : ℕ) where
  abbrev Fits : Tree → Type 0
  Fits t = label_fits kind t ≡ true

  operands_tame : (op : ℕ) (l r : Tree) → IsTame (Binary op l r) → IsTame (Binary op (instance_tree ss ps l) (instance_tree ss ps r))
  unfolding literals_in
  operands_tame op l r h =
      let p = wild_parts (literals_in l) (literals_in r) h in
      wild_both (literals_in (instance_tree ss ps l)) (literals_in (instance_tree ss ps r)) (tame_stays ss ps l p.0) (tame_stays ss ps r p.1)

  pub label_stays : (t : Tree) → Fits t → Fits (instance_tree ss ps t)
  unfolding label_fits instance_tree literals_in
  label_stays (Name token x) h = h
  label_stays (Literal token n) h = literal_has Fits (find_pick (is_literal_at token) ss ps) token n h (λ v. new_fits kind fresh n v)
  label_stays (BitSelect token x i) h = h
  label_stays (Part token x l r) h = h
  label_stays (Indexed token x f n up) h = h
  label_stays (Unary op t) h = tame_stays ss ps (Unary op t) h
  label_stays (Binary op l r) h =
      branch_has Fits (takes_constants (get_or infixes op Either)) (Binary op l r) (Binary op (instance_tree ss ps l) (instance_tree ss ps r)) (λ e. h) (λ e. operands_tame op l r h)
  label_stays (Cond a b c) h = tame_stays ss ps (Cond a b c) h
  label_stays (Concat ts) h = tame_stays ss ps (Concat ts) h
  label_stays (Repeat k ts) h = tame_stays ss ps (Repeat k ts) h
  label_stays (Cast signed t) h = tame_stays ss ps (Cast signed t) h
  label_stays (Paren t) h = label_stays t h

  pub labels_stay : (ts : Trees) → all_labels_fit kind ts ≡ true → all_labels_fit kind (instance_parts ss ps ts) ≡ true
  unfolding all_labels_fit instance_parts
  labels_stay End h = h
  labels_stay (More t ts) h =
      let p = and_parts (label_fits kind t) (all_labels_fit kind ts) h in
      and_from (label_fits kind (instance_tree ss ps t)) (all_labels_fit kind (instance_parts ss ps ts)) (label_stays t p.0) (labels_stay ts p.1)

-- Sides that only take bits

module _ (ss : List Site) (ps : List Pick) (s : Names) where
  mutual
    unfolding is_wiring instance_tree

    pub wiring_same : (t : Tree) → is_wiring s (instance_tree ss ps t) ≡ is_wiring s t
    wiring_same (Name token x) = refl
    wiring_same (Literal token n) = literal_has (λ u. is_wiring s u ≡ true) (find_pick (is_literal_at token) ss ps) token n refl (λ v. refl)
    wiring_same (BitSelect token x i) = refl
    wiring_same (Part token x l r) = refl
    wiring_same (Indexed token x f n up) = refl
    wiring_same (Unary op t) = refl
    wiring_same (Binary op l r) = branch_has (λ u. is_wiring s u ≡ false) (takes_constants (get_or infixes op Either)) (Binary op l r) (Binary op (instance_tree ss ps l) (instance_tree ss ps r)) (λ e. refl) (λ e. refl)
    wiring_same (Cond a b c) = refl
    wiring_same (Concat ts) = all_wiring_same ts
    wiring_same (Repeat k ts) = refl
    wiring_same (Cast signed t) = refl
    wiring_same (Paren t) = refl

    all_wiring_same : (ts : Trees) → are_wiring s (instance_parts ss ps ts) ≡ are_wiring s ts
    all_wiring_same End = refl
    all_wiring_same (More t ts) = λ i. wiring_same t i && all_wiring_same ts i

  mutual
    unfolding taken instance_tree

    pub taken_same : (t : Tree) → taken s (instance_tree ss ps t) ≡ taken s t
    taken_same (Name token x) = refl
    taken_same (Literal token n) = literal_has (λ u. taken s u ≡ nothing n.width) (find_pick (is_literal_at token) ss ps) token n refl (λ v. refl)
    taken_same (BitSelect token x i) = refl
    taken_same (Part token x l r) = refl
    taken_same (Indexed token x f n up) = refl
    taken_same (Unary op t) = refl
    taken_same (Binary op l r) = branch_has (λ u. taken s u ≡ []) (takes_constants (get_or infixes op Either)) (Binary op l r) (Binary op (instance_tree ss ps l) (instance_tree ss ps r)) (λ e. refl) (λ e. refl)
    taken_same (Cond a b c) = refl
    taken_same (Concat ts) = all_taken_same ts
    taken_same (Repeat k ts) = refl
    taken_same (Cast signed t) = refl
    taken_same (Paren t) = refl

    all_taken_same : (ts : Trees) → all_taken s (instance_parts ss ps ts) ≡ all_taken s ts
    all_taken_same End = refl
    all_taken_same (More t ts) = λ i. all_taken_same ts i ++ taken_same t i

-- Bare names

module _ (ss : List Site) (ps : List Pick) (flat : Flat) (i id : ℕ) where
  abbrev IsBare : Tree → Type 0
  IsBare t = IsBareName flat (Written t i) id

  pub bare_stays : (t : Tree) → IsBare t → IsBare (instance_tree ss ps t)
  unfolding instance_tree
  bare_stays (Name token x) h = h
  bare_stays (Literal token n) h = absurd h
  bare_stays (BitSelect token x t) h = absurd h
  bare_stays (Part token x l r) h = absurd h
  bare_stays (Indexed token x f n up) h = absurd h
  bare_stays (Unary op t) h = absurd h
  bare_stays (Binary op l r) h = absurd h
  bare_stays (Cond a b c) h = absurd h
  bare_stays (Concat ts) h = absurd h
  bare_stays (Repeat k ts) h = absurd h
  bare_stays (Cast signed t) h = absurd h
  bare_stays (Paren t) h = absurd h

  pub bare_before : (t : Tree) → IsBare (instance_tree ss ps t) → IsBare t
  unfolding instance_tree
  bare_before (Name token x) h = h
  bare_before (Literal token n) h = literal_has (λ u. IsBare u → ⊥) (find_pick (is_literal_at token) ss ps) token n (λ k. k) (λ v k. k) h
  bare_before (BitSelect token x t) h = h
  bare_before (Part token x l r) h = h
  bare_before (Indexed token x f n up) h = h
  bare_before (Unary op t) h = h
  bare_before (Binary op l r) h = branch_has (λ u. IsBare u → ⊥) (takes_constants (get_or infixes op Either)) (Binary op l r) (Binary op (instance_tree ss ps l) (instance_tree ss ps r)) (λ e k. k) (λ e k. k) h
  bare_before (Cond a b c) h = h
  bare_before (Concat ts) h = h
  bare_before (Repeat k ts) h = h
  bare_before (Cast signed t) h = h
  bare_before (Paren t) h = h
