-- The signals of a head: those of each declaration one after the other, and its name stands for them.
use Rattle.std.proofs.Common.{◌≡◌, ◌∙◌, sym, ap, ◌⊎◌, inl, inr, ℕ, zero, suc, ◌+◌, ◌-◌, ◌<◌, ◌≤◌, List, [], ◌∷◌, ◌++◌, length, map, Option, Some, None, refl, arith, subst, length-append}
use Rattle.std.specs.List.{Contains, AllByRecursion}
use Rattle.std.proofs.lemmas.Bool.{cases_lt}
use Rattle.std.proofs.lemmas.List.{get_or_append_left, get_or-append_right}
use Rattle.std.proofs.lemmas.List.FromFn.{get_or-map-range_with_len}
use Rattle.rr_expr.specs.Scopes.{Names, lookup}
use Rattle.rr_expr.specs.declared.types.Entity.{Entity}
use Rattle.rr_flat.specs.Signals.{Text, Signal, signal_at, no_signal, with_name}
use Rattle.rr_memory_words.specs.Words.{word_count, indexed_word, words_signals}
use Rattle.rr_memory_words.proofs.Named.{words_long}
use Rattle.rr_declarations.specs.Declarations.{Declared}
use Rattle.rr_declarations.specs.Heads.{signals_of, entity_of, joined, with_signals}
use Rattle.rr_flatten.proofs.HeadOf.{all_weaker}
use Rattle.rr_flat_laws.proofs.Texts.{none_some, here, later, Distinct, with_stays, with_new, with_cases}

abbrev pub name_of : Declared → Text
name_of x = x.signal.name

-- one of the signals of a declaration
abbrev pub placed_word : Signal → Option (ℕ × ℕ) → ℕ → Signal
placed_word s None t = s
placed_word s (Some w) t = indexed_word s w.0 t

pub words_at : (s : Signal) (words : Option (ℕ × ℕ)) (t : ℕ) → t < word_count words → signal_at (words_signals s words) t ≡ placed_word s words t
words_at s None zero l = refl
words_at s None (suc t) l = absurd (omega (arith, l))
words_at s (Some w) t l = get_or-map-range_with_len (indexed_word s w.0) 0 w.1 t t no_signal l (omega arith)

-- from a place on these signals are those of a declaration, and its name stands for them, where the first signal has number base
pub record Window (ss : List Signal) (scope : Names) (base start : ℕ) (x : Declared) : Type 0 where
  pub room : start + word_count x.words ≤ length ss
  pub are : (t : ℕ) → t < word_count x.words → signal_at ss (start + t) ≡ placed_word x.signal x.words t
  pub found : lookup x.signal.name scope ≡ Some (entity_of (base + start) x)

abbrev pub HasWindow : List Signal → Names → ℕ → Declared → Type 0
HasWindow ss scope base x = (start : ℕ) × Window ss scope base start x

first_window : (x : Declared) (ss : List Signal) (scope : Names) (k : ℕ) → lookup x.signal.name scope ≡ Some (entity_of k x) → Window (signals_of x ++ ss) scope k 0 x
first_window x ss scope k f =
    let long = words_long x.signal x.words in
    let both = length-append (signals_of x) ss in
    let z : k ≡ k + 0 = omega arith in
    record {
      room = omega (arith, long, both);
      are = λ t l.
          let e : 0 + t ≡ t = omega arith in
          ap (λ (n : ℕ). signal_at (signals_of x ++ ss) n) e ∙ (get_or_append_left (signals_of x) ss no_signal t (omega (arith, l, long)) ∙ words_at x.signal x.words t l);
      found = subst (λ (n : ℕ). lookup x.signal.name scope ≡ Some (entity_of n x)) z f;
    }

later_window : (x y : Declared) (ss : List Signal) (scope : Names) (k start : ℕ) → Window ss scope (k + word_count x.words) start y → Window (signals_of x ++ ss) scope k (word_count x.words + start) y
later_window x y ss scope k start w =
    let long = words_long x.signal x.words in
    let both = length-append (signals_of x) ss in
    let room = w.room in
    let z : k + word_count x.words + start ≡ k + (word_count x.words + start) = omega arith in
    record {
      room = omega (arith, room, long, both);
      are = λ t l.
          let n : word_count x.words + start + t - length (signals_of x) ≡ start + t = omega (arith, long) in
          get_or-append_right (signals_of x) ss (length (signals_of x)) (word_count x.words + start + t) no_signal refl (omega (arith, long)) ∙ (ap (λ (i : ℕ). signal_at ss i) n ∙ w.are t l);
      found = subst (λ (n : ℕ). lookup y.signal.name scope ≡ Some (entity_of n y)) z w.found;
    }

-- names

pub stays : (k : ℕ) (xs : List Declared) (names : Names) (n : Text) (e : Entity) → lookup n names ≡ Some e → lookup n (with_signals k xs names) ≡ Some e
unfolding with_signals
stays k [] names n e h = h
stays k (x ∷ xs) names n e h = stays (k + word_count x.words) xs (with_name names x.signal.name (entity_of k x)) n e (with_stays names x.signal.name n e (entity_of k x) h)

still : (names : Names) (m n : Text) (e : Entity) (o : Option Entity) → lookup n (with_name names m e) ≡ o → (n ≡ m → ⊥) → lookup n names ≡ None → o ≡ None
still names m n e None q differs h = refl
still names m n e (Some x) q differs h = elim (with_cases names n m x e q) [ inl a ↦ absurd (none_some x (sym h ∙ a)) | inr b ↦ absurd (differs b.0) ]

-- none of these names stands twice, and none is there
pub record AreNew (xs : List Declared) (names : Names) : Type 0 where
  pub apart : Distinct (map name_of xs)
  pub new : (n : Text) → Contains (map name_of xs) n → lookup n names ≡ None

new_later : (x : Declared) (xs : List Declared) (names : Names) (e : Entity) → AreNew (x ∷ xs) names → AreNew xs (with_name names x.signal.name e)
new_later x xs names e h = record {
  apart = h.apart.1;
  new = λ n c. still names x.signal.name n e (lookup n (with_name names x.signal.name e)) refl (λ q. h.apart.0 (subst (Contains (map name_of xs)) q c)) (h.new n (later x.signal.name (map name_of xs) n c));
}

name_found : (k : ℕ) (x : Declared) (xs : List Declared) (names : Names) → AreNew (x ∷ xs) names → lookup x.signal.name (with_signals (k + word_count x.words) xs (with_name names x.signal.name (entity_of k x))) ≡ Some (entity_of k x)
name_found k x xs names h =
    stays (k + word_count x.words) xs (with_name names x.signal.name (entity_of k x)) x.signal.name (entity_of k x) (with_new names x.signal.name (entity_of k x) (h.new x.signal.name (here x.signal.name (map name_of xs))))

-- each declaration has its signals
pub all_windows : (k : ℕ) (xs : List Declared) (names : Names) → AreNew xs names → AllByRecursion (HasWindow (joined xs) (with_signals k xs names) k) xs
unfolding with_signals joined
all_windows k [] names h = tt
all_windows k (x ∷ xs) names h =
    let scope : Names = with_signals (k + word_count x.words) xs (with_name names x.signal.name (entity_of k x)) in (
      (0, first_window x (joined xs) scope k (name_found k x xs names h)),
      all_weaker (HasWindow (joined xs) scope (k + word_count x.words)) (HasWindow (signals_of x ++ joined xs) scope k) xs (λ y w. (word_count x.words + w.0, later_window x y (joined xs) scope k w.0 w.1))
          (all_windows (k + word_count x.words) xs (with_name names x.signal.name (entity_of k x)) (new_later x xs names (entity_of k x) h)),
    )

-- and each signal is one of a declaration
pub record Covered (Q : Declared → Type 0) (ss : List Signal) (scope : Names) (base j : ℕ) : Type 0 where
  pub item : Declared
  pub has : Q item
  pub start : ℕ
  pub window : Window ss scope base start item
  pub place : ℕ
  pub inside : place < word_count item.words
  pub is : j ≡ start + place

pub all_covered : (Q : Declared → Type 0) (k : ℕ) (xs : List Declared) (names : Names) → AreNew xs names → AllByRecursion Q xs → (j : ℕ) → j < length (joined xs) → Covered Q (joined xs) (with_signals k xs names) k j
unfolding with_signals joined
all_covered Q k [] names h q j l = absurd (omega (arith, l))
all_covered Q k (x ∷ xs) names h q j l =
    by (cases_lt j (word_count x.words)) (λ i m. all_covered Q (k + word_count x.words) xs (with_name names x.signal.name (entity_of k x)) (new_later x xs names (entity_of k x) h) q.1 i m)
  where
    scope : Names
    scope = with_signals (k + word_count x.words) xs (with_name names x.signal.name (entity_of k x))

    by : (j < word_count x.words) ⊎ (word_count x.words ≤ j) → ((i : ℕ) → i < length (joined xs) → Covered Q (joined xs) scope (k + word_count x.words) i) → Covered Q (signals_of x ++ joined xs) scope k j
    by (inl m) more = record { item = x; has = q.0; start = 0; window = first_window x (joined xs) scope k (name_found k x xs names h); place = j; inside = m; is = omega arith }
    by (inr m) more =
        let long = words_long x.signal x.words in
        let both = length-append (signals_of x) (joined xs) in
        let r = more (j - word_count x.words) (omega (arith, l, m, long, both)) in
        let e = r.is in
        record { item = r.item; has = r.has; start = word_count x.words + r.start; window = later_window x r.item (joined xs) scope k r.start r.window; place = r.place; inside = r.inside; is = omega (arith, e, m) }
