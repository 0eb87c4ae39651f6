-- Bits noted one after the other.
use Rattle.std.proofs.Common.{◌≡◌, ◌∙◌, sym, ap, subst, ℕ, ◌+◌, ◌<◌, ◌≤◌, ◌⊎◌, inl, inr, Bool, true, false, cond, ◌||◌, List, [], ◌∷◌, ◌++◌, refl}
use Rattle.std.proofs.lemmas.Bool.{or_cases, both_ways, eq-eqb}
use Rattle.rr_expr.specs.declared.types.Bit.{Bit}
use Rattle.rr_flat.specs.Targets.{same_bit}
use Rattle.rr_named_bits.specs.declared.piece.Piece.{Piece}
use Rattle.rr_named_bits.specs.declared.piece.Reach.{Reach}
use Rattle.rr_named_bits.specs.Lists.{covered, reaches}
use Rattle.rr_named_bits.specs.Pieces.{covers}
use Rattle.rr_named_bits.proofs.Growing.{covered-push}
use Rattle.rr_latch.specs.declared.early.Early.{Early}
use Rattle.rr_latch.specs.Notes.{is_shut, Noted, Unassigned}
use Rattle.rr_latch.specs.Paths.{assigned, Logged}
use Rattle.rr_latch.proofs.Logs.{assigned_put, logged_none, logged_both, logged_one, or_true}
use Rattle.rr_writers.specs.Tables.{entry}
use Rattle.rr_writers.proofs.Entries.{same_is}
use Rattle.rr_writers.proofs.Marking.{below, below_none, below_next, below_all, Ranged}
use Rattle.rr_writers.proofs.Reaching.{word_piece, first_words, no_words, next_word, covers_signal}

pub noted_none : (P : Bit → Type 0) (e : Early) → ((b : Bit) → P b → ⊥) → Noted P e e
noted_none P e h = record { keeps = λ b k. k; all = λ b p. absurd (h b p); only = λ b k. inl k; log = logged_none e.bits.items (is_shut e) (is_shut e) (λ b. refl) }

pub noted_as : (P Q : Bit → Type 0) (a b : Early) → ((x : Bit) → P x → Q x) → ((x : Bit) → Q x → P x) → Noted P a b → Noted Q a b
noted_as P Q a b f g n = record { keeps = n.keeps; all = λ x q. n.all x (g x q); only = λ x k. elim (n.only x k) [ inl h ↦ inl h | inr p ↦ inr (f x p) ]; log = n.log }

pub noted_both : (P Q R : Bit → Type 0) (a b c : Early) → ((x : Bit) → R x → P x ⊎ Q x) → ((x : Bit) → P x → R x) → ((x : Bit) → Q x → R x) → Noted P a b → Noted Q b c → Noted R a c
noted_both P Q R a b c s f g m n = record {
  keeps = λ x k. n.keeps x (m.keeps x k);
  all = λ x r. elim (s x r) [ inl p ↦ n.keeps x (m.all x p) | inr q ↦ n.all x q ];
  only = λ x k. elim (n.only x k) [ inl h ↦ elim (m.only x h) [ inl i ↦ inl i | inr p ↦ inr (f x p) ] | inr q ↦ inr (g x q) ];
  log = logged_both a.bits.items b.bits.items c.bits.items (is_shut a) (is_shut b) (is_shut c) m.log n.log m.keeps n.keeps;
}

-- of the bits with a property only those with another one may still be without a note
pub record NotedBut (All Rest : Bit → Type 0) (old new : Early) : Type 0 where
  pub keeps : (b : Bit) → is_shut old b ≡ true → is_shut new b ≡ true
  pub all : (b : Bit) → All b → (is_shut new b ≡ true) ⊎ Rest b
  pub only : (b : Bit) → is_shut new b ≡ true → (is_shut old b ≡ true) ⊎ All b
  pub rest : (b : Bit) → Rest b → All b
  pub log : Logged old.bits.items new.bits.items (is_shut old) (is_shut new)

pub but_start : (P : Bit → Type 0) (e : Early) → NotedBut P P e e
but_start P e = record { keeps = λ b k. k; all = λ b p. inr p; only = λ b k. inl k; rest = λ b p. p; log = logged_none e.bits.items (is_shut e) (is_shut e) (λ b. refl) }

pub but_next : (All Rest P Next : Bit → Type 0) (a b c : Early) → ((x : Bit) → Rest x → P x ⊎ Next x) → ((x : Bit) → P x → Rest x) → ((x : Bit) → Next x → Rest x) → NotedBut All Rest a b → Noted P b c → NotedBut All Next a c
but_next All Rest P Next a b c s f g m n = record {
  keeps = λ x k. n.keeps x (m.keeps x k);
  all = λ x r. elim (m.all x r) [ inl k ↦ inl (n.keeps x k) | inr q ↦ elim (s x q) [ inl p ↦ inl (n.all x p) | inr l ↦ inr l ] ];
  only = λ x k. elim (n.only x k) [ inl h ↦ m.only x h | inr p ↦ inr (m.rest x (f x p)) ];
  rest = λ x l. m.rest x (g x l);
  log = logged_both a.bits.items b.bits.items c.bits.items (is_shut a) (is_shut b) (is_shut c) m.log n.log m.keeps n.keeps;
}

pub but_done : (All Rest : Bit → Type 0) (a b : Early) → ((x : Bit) → Rest x → ⊥) → NotedBut All Rest a b → Noted All a b
but_done All Rest a b h m = record { keeps = m.keeps; all = λ x r. elim (m.all x r) [ inl k ↦ k | inr q ↦ absurd (h x q) ]; only = m.only; log = m.log }

-- bits that are noted already
pub noted_before : (P : Bit → Type 0) (e : Early) → ((b : Bit) → P b → is_shut e b ≡ true) → Noted P e e
noted_before P e h = record { keeps = λ b k. k; all = h; only = λ b k. inl k; log = logged_none e.bits.items (is_shut e) (is_shut e) (λ b. refl) }

-- one bit

pub note_one : (old new : Early) (bit : Bit) (rows : List (List ℕ)) → assigned rows bit ≡ false → assigned old.unnoted bit ≡ false → ((b : Bit) → entry new.unnoted b ≡ cond (same_bit bit b) 0 (entry old.unnoted b))
    → new.bits.items ≡ old.bits.items ++ bit ∷ [] → Noted (Unassigned rows (λ b. same_bit bit b ≡ true)) old new
note_one old new bit rows u o e l =
    let set : (b : Bit) → is_shut new b ≡ cond (same_bit bit b) true (is_shut old b) = assigned_put old.unnoted new.unnoted bit 0 e in
    record {
      keeps = λ b k. set b ∙ (ap (λ z. cond (same_bit bit b) true z) k ∙ both (same_bit bit b));
      all = λ b p. set b ∙ ap (λ z. cond z true (is_shut old b)) p.0;
      only = λ b k. go b (same_bit bit b) refl (sym (set b) ∙ k);
      log = let P : List Bit → Type 0 = λ z. Logged old.bits.items z (is_shut old) (is_shut new) in subst P (sym l) (logged_one old.bits.items bit (is_shut old) (is_shut new) o set);
    }
  where
    both : (t : Bool) → cond t true true ≡ true
    both true = refl
    both false = refl

    go : (b : Bit) (t : Bool) → same_bit bit b ≡ t → cond t true (is_shut old b) ≡ true → (is_shut old b ≡ true) ⊎ ((same_bit bit b ≡ true) × (assigned rows b ≡ false))
    go b true s k = inr (s, ap (assigned rows) (sym (same_is bit b s)) ∙ u)
    go b false s k = inl k

pub note_assigned : (e : Early) (bit : Bit) (rows : List (List ℕ)) → assigned rows bit ≡ true → Noted (Unassigned rows (λ b. same_bit bit b ≡ true)) e e
note_assigned e bit rows h = noted_none (Unassigned rows (λ b. same_bit bit b ≡ true)) e (λ b p. both_ways (assigned rows b) p.1 (ap (assigned rows) (sym (same_is bit b p.0)) ∙ h))

pub note_again : (e : Early) (bit : Bit) (rows : List (List ℕ)) → assigned e.unnoted bit ≡ true → Noted (Unassigned rows (λ b. same_bit bit b ≡ true)) e e
note_again e bit rows h = noted_before (Unassigned rows (λ b. same_bit bit b ≡ true)) e (λ b p. ap (is_shut e) (sym (same_is bit b p.0)) ∙ h)

-- signals without a number: each bit is assigned, or none is open

pub piece_assigned : (e : Early) (p : Piece) (rows : List (List ℕ)) → ((b : Bit) → b.signal ≡ p.signal → entry rows b ≡ 0) → Noted (Unassigned rows (λ b. covers p b ≡ true)) e e
piece_assigned e p rows h = noted_none (Unassigned rows (λ b. covers p b ≡ true)) e (λ b k. both_ways (assigned rows b) k.1 (eq-eqb (entry rows b) 0 (h b (covers_signal p b k.0))))

pub piece_shut : (e : Early) (p : Piece) (rows : List (List ℕ)) → ((b : Bit) → b.signal ≡ p.signal → entry e.unnoted b ≡ 0) → Noted (Unassigned rows (λ b. covers p b ≡ true)) e e
piece_shut e p rows h = noted_before (Unassigned rows (λ b. covers p b ≡ true)) e (λ b k. eq-eqb (entry e.unnoted b) 0 (h b (covers_signal p b k.0)))

-- the places of a piece, the words of a reach and the reaches of a list

pub piece_start : (rows : List (List ℕ)) (p : Piece) (low high : ℕ) (e : Early) → Ranged p low high → Noted (Unassigned rows (λ b. below p low b ≡ true)) e e
piece_start rows p low high e r = noted_none (Unassigned rows (λ b. below p low b ≡ true)) e (λ b k. both_ways (below p low b) (below_none p low high r b) k.0)

-- what holds of a bit by the first or the second of two tests
or_noted : (rows : List (List ℕ)) (f g h : Bit → Bool) (a b c : Early) → ((x : Bit) → h x ≡ (f x || g x)) → Noted (Unassigned rows (λ x. f x ≡ true)) a b → Noted (Unassigned rows (λ x. g x ≡ true)) b c → Noted (Unassigned rows (λ x. h x ≡ true)) a c
or_noted rows f g h a b c e m n =
    noted_both (Unassigned rows (λ x. f x ≡ true)) (Unassigned rows (λ x. g x ≡ true)) (Unassigned rows (λ x. h x ≡ true)) a b c
    (λ x r. elim (or_cases (f x) (g x) (sym (e x) ∙ r.0)) [ inl k ↦ inl (k, r.1) | inr k ↦ inr (k, r.1) ])
    (λ x p. (e x ∙ ap (λ z. z || g x) p.0, p.1)) (λ x p. (e x ∙ (ap (λ z. f x || z) p.0 ∙ or_true (f x)), p.1)) m n

or_swap : (a b : Bool) → (a || b) ≡ (b || a)
or_swap true true = refl
or_swap true false = refl
or_swap false true = refl
or_swap false false = refl

pub piece_next : (rows : List (List ℕ)) (p : Piece) (low high place : ℕ) (a b c : Early) → Ranged p low high → low ≤ place → place < high → Noted (Unassigned rows (λ x. below p place x ≡ true)) a b
    → Noted (Unassigned rows (λ x. same_bit (record { signal = p.signal; place = place }) x ≡ true)) b c → Noted (Unassigned rows (λ x. below p (place + 1) x ≡ true)) a c
piece_next rows p low high place a b c r l h m n =
    let here : Bit = record { signal = p.signal; place = place } in
    or_noted rows (below p place) (same_bit here) (below p (place + 1)) a b c (λ x. below_next p low high place r l h x ∙ or_swap (same_bit here x) (below p place x)) m n

-- equal tests
test_noted : (rows : List (List ℕ)) (f g : Bit → Bool) (a b : Early) → ((x : Bit) → g x ≡ f x) → Noted (Unassigned rows (λ x. f x ≡ true)) a b → Noted (Unassigned rows (λ x. g x ≡ true)) a b
test_noted rows f g a b e n = noted_as (Unassigned rows (λ x. f x ≡ true)) (Unassigned rows (λ x. g x ≡ true)) a b (λ x p. (e x ∙ p.0, p.1)) (λ x p. (sym (e x) ∙ p.0, p.1)) n

pub piece_done : (rows : List (List ℕ)) (p : Piece) (low high place : ℕ) (a b : Early) → Ranged p low high → high ≤ place → Noted (Unassigned rows (λ x. below p place x ≡ true)) a b
    → Noted (Unassigned rows (λ x. covers p x ≡ true)) a b
piece_done rows p low high place a b r h n = test_noted rows (below p place) (covers p) a b (λ x. sym (below_all p low high place r h x)) n

pub words_start : (rows : List (List ℕ)) (r : Reach) (e : Early) → Noted (Unassigned rows (λ b. reaches (first_words r 0) b ≡ true)) e e
words_start rows r e = noted_none (Unassigned rows (λ b. reaches (first_words r 0) b ≡ true)) e (λ b k. both_ways (reaches (first_words r 0) b) (no_words r b) k.0)

pub words_next : (rows : List (List ℕ)) (r : Reach) (k : ℕ) (p : Piece) (a b c : Early) → p ≡ word_piece r k → Noted (Unassigned rows (λ x. reaches (first_words r k) x ≡ true)) a b
    → Noted (Unassigned rows (λ x. covers p x ≡ true)) b c → Noted (Unassigned rows (λ x. reaches (first_words r (k + 1)) x ≡ true)) a c
words_next rows r k p a b c e m n =
    or_noted rows (reaches (first_words r k)) (covers p) (reaches (first_words r (k + 1))) a b c (λ x. next_word r k x ∙ ap (λ z. reaches (first_words r k) x || covers z x) (sym e)) m n

pub words_done : (rows : List (List ℕ)) (r : Reach) (k : ℕ) (a b : Early) → k ≡ r.words → Noted (Unassigned rows (λ x. reaches (first_words r k) x ≡ true)) a b → Noted (Unassigned rows (λ x. reaches r x ≡ true)) a b
words_done rows r k a b e n =
    let F : ℕ → Type 0 = λ z. Noted (Unassigned rows (λ x. reaches (first_words r z) x ≡ true)) a b in
    subst F e n

pub reaches_next : (rows : List (List ℕ)) (rs : List Reach) (r : Reach) (a b c : Early) → Noted (Unassigned rows (λ x. covered rs x ≡ true)) a b → Noted (Unassigned rows (λ x. reaches r x ≡ true)) b c
    → Noted (Unassigned rows (λ x. covered (rs ++ r ∷ []) x ≡ true)) a c
reaches_next rows rs r a b c m n = or_noted rows (covered rs) (reaches r) (covered (rs ++ r ∷ [])) a b c (covered-push rs r) m n
