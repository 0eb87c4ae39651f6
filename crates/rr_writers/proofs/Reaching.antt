-- The words of a reach in turn, and lists of reaches.
use Rattle.std.proofs.Common.{◌≡◌, ◌∙◌, sym, ap, ℕ, zero, suc, ◌+◌, ◌<◌, ◌≤◌, inl, inr, Bool, true, false, not, ◌&&◌, ◌||◌, List, [], ◌∷◌, ◌++◌, length, get_or, take, nat_eq, nat_lt, refl, arith, pos, ◌+ℤ◌, int_lt}
use Rattle.std.proofs.lemmas.Bool.{and_from, and_parts, eqb-true, eq-eqb, ne_eqb, cases_lt, cases_order, lt-ltb, le-ltb, ltb-true, or_cases}
use Rattle.rr_expr.specs.declared.types.Bit.{Bit}
use Rattle.rr_named_bits.specs.declared.piece.Piece.{Piece}
use Rattle.rr_named_bits.specs.declared.piece.Reach.{Reach}
use Rattle.rr_named_bits.specs.declared.writes.Write.{Write}
use Rattle.rr_named_bits.specs.Lists.{covered, may, reaches}
use Rattle.rr_named_bits.specs.Pieces.{covers}
use Rattle.rr_named_bits.proofs.Growing.{covered-push, may-push}
use Rattle.rr_writers.proofs.Entries.{or_false}
use Rattle.rr_writers.proofs.Elements.{taken_next, take_all, element}

pub or_true : (x : Bool) → (x || true) ≡ true
or_true true = refl
or_true false = refl

-- the places of one word, and the first words
abbrev pub word_piece : Reach → ℕ → Piece
word_piece r k = record r.piece { signal = r.piece.signal + k }

abbrev pub first_words : Reach → ℕ → Reach
first_words r k = record { piece = r.piece; words = k }

-- the places of a piece that a bit may have, whatever its signal
abbrev has_place : Piece → Bit → Bool
has_place p b = nat_lt b.place p.width && (not (int_lt (pos b.place) p.from) && int_lt (pos b.place) (p.from +ℤ pos p.count))

pub no_words : (r : Reach) (b : Bit) → reaches (first_words r 0) b ≡ false
no_words r b = elim (cases_lt b.signal r.piece.signal) [
  | inl l ↦ below (nat_lt b.signal r.piece.signal) (nat_lt b.signal (r.piece.signal + 0)) (covers (record r.piece { signal = b.signal }) b) (lt-ltb b.signal r.piece.signal l)
  | inr l ↦ above (nat_lt b.signal r.piece.signal) (nat_lt b.signal (r.piece.signal + 0)) (covers (record r.piece { signal = b.signal }) b) (le-ltb b.signal (r.piece.signal + 0) (omega arith))
]
  where
    below : (l u c : Bool) → l ≡ true → ((not l && u) && c) ≡ false
    below true u c e = refl
    below false u c e = cc

    above : (l u c : Bool) → u ≡ false → ((not l && u) && c) ≡ false
    above l true c e = cc
    above true false c e = refl
    above false false c e = refl

pub next_word : (r : Reach) (k : ℕ) (b : Bit) → reaches (first_words r (k + 1)) b ≡ (reaches (first_words r k) b || covers (word_piece r k) b)
next_word r k b =
    let l = nat_lt b.signal r.piece.signal in
    let u = nat_lt b.signal (r.piece.signal + (k + 1)) in
    let v = nat_lt b.signal (r.piece.signal + k) in
    let w = nat_eq (r.piece.signal + k) b.signal in
    let c = has_place r.piece b in
    elim (cases_order b.signal (r.piece.signal + k)) [
      | inl e ↦
          here l u v w (nat_eq b.signal b.signal) c (le-ltb b.signal r.piece.signal (omega (arith, e))) (lt-ltb b.signal (r.piece.signal + (k + 1)) (omega (arith, e))) (le-ltb b.signal (r.piece.signal + k) (omega (arith, e)))
          (eq-eqb (r.piece.signal + k) b.signal (sym e)) (eq-eqb b.signal b.signal refl)
      | inr n ↦ elim n [
        | inl m ↦
            both l u v w (nat_eq b.signal b.signal && c) c (lt-ltb b.signal (r.piece.signal + (k + 1)) (omega (arith, m))) (lt-ltb b.signal (r.piece.signal + k) m) (ne_eqb (r.piece.signal + k) b.signal (λ e. omega (arith, e, m)))
        | inr m ↦
            neither l u v w (nat_eq b.signal b.signal && c) c (le-ltb b.signal (r.piece.signal + (k + 1)) (omega (arith, m))) (le-ltb b.signal (r.piece.signal + k) (omega (arith, m))) (ne_eqb (r.piece.signal + k) b.signal (λ e. omega (arith, e, m)))
      ]
    ]
  where
    here : (l u v w e c : Bool) → l ≡ false → u ≡ true → v ≡ false → w ≡ true → e ≡ true → ((not l && u) && (e && c)) ≡ (((not l && v) && (e && c)) || (w && c))
    here l u v w e c p q r s t = rw (p, q, r, s, t) refl

    both : (l u v w d c : Bool) → u ≡ true → v ≡ true → w ≡ false → ((not l && u) && d) ≡ (((not l && v) && d) || (w && c))
    both l u v w d c p q r = rw (p, q, r) (sym (or_false ((not l && true) && d)))

    neither : (l u v w d c : Bool) → u ≡ false → v ≡ false → w ≡ false → ((not l && u) && d) ≡ (((not l && v) && d) || (w && c))
    neither l u v w d c p q r = rw (p, q, r) (sym (or_false ((not l && false) && d)))

pub more_words : (r : Reach) (k n : ℕ) (b : Bit) → k ≤ n → reaches (first_words r k) b ≡ true → reaches (first_words r n) b ≡ true
more_words r k n b l h =
    let own = covers (record r.piece { signal = b.signal }) b in
    let low = not (nat_lt b.signal r.piece.signal) in
    let p = and_parts (low && nat_lt b.signal (r.piece.signal + k)) own h in
    let q = and_parts low (nat_lt b.signal (r.piece.signal + k)) p.0 in
    let m = ltb-true b.signal (r.piece.signal + k) q.1 in
    and_from (low && nat_lt b.signal (r.piece.signal + n)) own (and_from low (nat_lt b.signal (r.piece.signal + n)) q.0 (lt-ltb b.signal (r.piece.signal + n) (omega (arith, m, l)))) p.1

-- a word is within its reach
pub within_words : (r : Reach) (k : ℕ) (b : Bit) → k < r.words → covers (word_piece r k) b ≡ true → reaches r b ≡ true
within_words r k b l h = more_words r (k + 1) r.words b (omega arith) (next_word r k b ∙ (ap (λ z. reaches (first_words r k) b || z) h ∙ or_true (reaches (first_words r k) b)))

pub covers_signal : (p : Piece) (b : Bit) → covers p b ≡ true → b.signal ≡ p.signal
covers_signal p b h = sym (eqb-true p.signal b.signal (and_parts (nat_eq p.signal b.signal) (has_place p b) h).0)

-- lists

pub covered_more : (rs qs : List Reach) (b : Bit) → covered rs b ≡ true → covered (rs ++ qs) b ≡ true
unfolding covered
covered_more [] qs b h = cc
covered_more (r ∷ rs) qs b h = elim (or_cases (reaches r b) (covered rs b) h) [
  | inl k ↦ rw k refl
  | inr k ↦ ap (λ z. reaches r b || z) (covered_more rs qs b k) ∙ or_true (reaches r b)
]

pub covered_at : (rs : List Reach) (k : ℕ) (d : Reach) (b : Bit) → k < length rs → reaches (get_or rs k d) b ≡ true → covered rs b ≡ true
unfolding covered
covered_at [] k d b l h = absurd (omega arith)
covered_at (q ∷ rs) zero d b l h = ap (λ z. z || covered rs b) h
covered_at (q ∷ rs) (suc k) d b l h = ap (λ z. reaches q b || z) (covered_at rs k d b (omega arith) h) ∙ or_true (reaches q b)

-- one that stands there adds no bit
pub stands_there : (rs : List Reach) (r : Reach) (b : Bit) → (reaches r b ≡ true → covered rs b ≡ true) → covered rs b ≡ (covered rs b || reaches r b)
stands_there rs r b f = go (reaches r b) refl
  where
    go : (x : Bool) → reaches r b ≡ x → covered rs b ≡ (covered rs b || x)
    go true e = f e ∙ sym (or_true (covered rs b))
    go false e = sym (or_false (covered rs b))

pub pushed_reach : (old new : List Reach) (r : Reach) (b : Bit) → new ≡ old ++ r ∷ [] → covered new b ≡ (covered old b || reaches r b)
pushed_reach old new r b e = ap (λ z. covered z b) e ∙ covered-push old r b

pub distinct_next : (rs : List Reach) (i : ℕ) (d : Reach) (old new : List Reach) → i < length rs → ((b : Bit) → covered old b ≡ covered (take i rs) b)
    → ((b : Bit) → covered new b ≡ (covered old b || reaches (get_or rs i d) b)) → (b : Bit) → covered new b ≡ covered (take (i + 1) rs) b
distinct_next rs i d old new l e f b =
    let r = get_or rs i d in
    f b ∙ (ap (λ z. z || reaches r b) (e b) ∙ (sym (covered-push (take i rs) r b) ∙ sym (ap (λ z. covered z b) (taken_next rs i r l (element rs i d l)))))

pub distinct_done : (rs : List Reach) (i : ℕ) (list : List Reach) → length rs ≤ i → ((b : Bit) → covered list b ≡ covered (take i rs) b) → (b : Bit) → covered list b ≡ covered rs b
distinct_done rs i list l e b = e b ∙ ap (λ z. covered z b) (take_all i rs l)

pub writes_next : (ws : List Write) (i : ℕ) (d : Write) (old new : List Reach) → i < length ws → ((b : Bit) → covered old b ≡ may (take i ws) b)
    → ((b : Bit) → covered new b ≡ (covered old b || reaches (get_or ws i d).reach b)) → (b : Bit) → covered new b ≡ may (take (i + 1) ws) b
writes_next ws i d old new l e f b =
    let w = get_or ws i d in
    f b ∙ (ap (λ z. z || reaches w.reach b) (e b) ∙ (sym (may-push (take i ws) w b) ∙ sym (ap (λ z. may z b) (taken_next ws i w l (element ws i d l)))))

pub writes_done : (ws : List Write) (i : ℕ) (list : List Reach) → length ws ≤ i → ((b : Bit) → covered list b ≡ may (take i ws) b) → (b : Bit) → covered list b ≡ may ws b
writes_done ws i list l e b = e b ∙ ap (λ z. may z b) (take_all i ws l)
