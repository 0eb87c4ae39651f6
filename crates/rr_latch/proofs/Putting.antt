-- One number put at the bits of pieces, words and reaches in turn.
use Rattle.std.proofs.Common.{◌≡◌, ◌∙◌, sym, ap, subst, ℕ, ◌+◌, ◌<◌, ◌≤◌, Bool, true, false, cond, not, ◌&&◌, ◌||◌, List, [], length, get_or, take, nat_eq, refl}
use Rattle.rr_expr.specs.declared.types.Bit.{Bit}
use Rattle.rr_flat.specs.Targets.{same_bit}
use Rattle.rr_named_bits.specs.declared.piece.Piece.{Piece}
use Rattle.rr_named_bits.specs.declared.piece.Reach.{Reach}
use Rattle.rr_named_bits.specs.Lists.{covered, reaches}
use Rattle.rr_named_bits.specs.Pieces.{covers}
use Rattle.rr_named_bits.proofs.Growing.{covered-push}
use Rattle.rr_writers.proofs.Elements.{taken_next, take_all, element}
use Rattle.rr_writers.proofs.Marking.{below, below_none, below_next, below_all, Ranged}
use Rattle.rr_writers.proofs.Reaching.{word_piece, first_words, no_words, next_word}

-- a number stands at the bits of a set, and elsewhere what stood there
abbrev pub Put : ℕ → (Bit → Bool) → (Bit → ℕ) → (Bit → ℕ) → Type 0
Put number P old new = (b : Bit) → new b ≡ cond (P b) number (old b)

put_none : (number : ℕ) (P : Bit → Bool) (old : Bit → ℕ) → ((b : Bit) → P b ≡ false) → Put number P old old
put_none number P old e b = sym (ap (λ z. cond z number (old b)) (e b))

put_both : (number : ℕ) (P Q R : Bit → Bool) (old mid new : Bit → ℕ) → ((b : Bit) → R b ≡ (P b || Q b)) → Put number P old mid → Put number Q mid new → Put number R old new
put_both number P Q R old mid new e m s b = s b ∙ (ap (λ z. cond (Q b) number z) (m b) ∙ (merged (P b) (Q b) ∙ sym (ap (λ z. cond z number (old b)) (e b))))
  where
    merged : (p q : Bool) → cond q number (cond p number (old b)) ≡ cond (p || q) number (old b)
    merged true true = refl
    merged true false = refl
    merged false true = refl
    merged false false = refl

put_same : (number : ℕ) (P Q : Bit → Bool) (old new : Bit → ℕ) → ((b : Bit) → Q b ≡ P b) → Put number P old new → Put number Q old new
put_same number P Q old new e m b = m b ∙ sym (ap (λ z. cond z number (old b)) (e b))

or_swap : (a b : Bool) → (a || b) ≡ (b || a)
or_swap true true = refl
or_swap true false = refl
or_swap false true = refl
or_swap false false = refl

-- the places of a piece

pub places_none : (number : ℕ) (p : Piece) (low high : ℕ) (old : Bit → ℕ) → Ranged p low high → Put number (below p low) old old
places_none number p low high old r = put_none number (below p low) old (below_none p low high r)

pub places_next : (number : ℕ) (p : Piece) (low high place : ℕ) (old mid new : Bit → ℕ) → Ranged p low high → low ≤ place → place < high → Put number (below p place) old mid
    → Put number (same_bit (record { signal = p.signal; place = place })) mid new → Put number (below p (place + 1)) old new
places_next number p low high place old mid new r l h m s =
    let here : Bit = record { signal = p.signal; place = place } in
    put_both number (below p place) (same_bit here) (below p (place + 1)) old mid new (λ b. below_next p low high place r l h b ∙ or_swap (same_bit here b) (below p place b)) m s

pub places_done : (number : ℕ) (p : Piece) (low high place : ℕ) (old new : Bit → ℕ) → Ranged p low high → high ≤ place → Put number (below p place) old new → Put number (covers p) old new
places_done number p low high place old new r l m = put_same number (below p place) (covers p) old new (λ b. sym (below_all p low high place r l b)) m

-- the words of a reach

pub words_none : (number : ℕ) (r : Reach) (old : Bit → ℕ) → Put number (reaches (first_words r 0)) old old
words_none number r old = put_none number (reaches (first_words r 0)) old (no_words r)

pub words_next : (number : ℕ) (r : Reach) (k : ℕ) (p : Piece) (old mid new : Bit → ℕ) → p ≡ word_piece r k → Put number (reaches (first_words r k)) old mid → Put number (covers p) mid new → Put number (reaches (first_words r (k + 1))) old new
words_next number r k p old mid new e m s =
    put_both number (reaches (first_words r k)) (covers p) (reaches (first_words r (k + 1))) old mid new (λ b. next_word r k b ∙ ap (λ z. reaches (first_words r k) b || covers z b) (sym e)) m s

pub words_done : (number : ℕ) (r : Reach) (k : ℕ) (old new : Bit → ℕ) → k ≡ r.words → Put number (reaches (first_words r k)) old new → Put number (reaches r) old new
words_done number r k old new e m =
    let F : ℕ → Type 0 = λ z. Put number (reaches (first_words r z)) old new in
    subst F e m

-- some reaches

pub list_none : (number : ℕ) (old : Bit → ℕ) → Put number (covered []) old old
unfolding covered
list_none number old b = refl

pub list_next : (number : ℕ) (rs : List Reach) (i : ℕ) (d : Reach) (old mid new : Bit → ℕ) → i < length rs → Put number (covered (take i rs)) old mid → Put number (reaches (get_or rs i d)) mid new → Put number (covered (take (i + 1) rs)) old new
list_next number rs i d old mid new l m s =
    let r = get_or rs i d in
    put_both number (covered (take i rs)) (reaches r) (covered (take (i + 1) rs)) old mid new (λ b. ap (λ z. covered z b) (taken_next rs i r l (element rs i d l)) ∙ covered-push (take i rs) r b) m s

pub list_done : (number : ℕ) (rs : List Reach) (i : ℕ) (old new : Bit → ℕ) → length rs ≤ i → Put number (covered (take i rs)) old new → Put number (covered rs) old new
list_done number rs i old new l m = put_same number (covered (take i rs)) (covered rs) old new (λ b. sym (ap (λ z. covered z b) (take_all i rs l))) m

-- which bits have none then

pub put_one : (P : Bit → Bool) (old new : Bit → ℕ) → Put 1 P old new → (b : Bit) → nat_eq (new b) 0 ≡ (nat_eq (old b) 0 && not (P b))
put_one P old new m b = ap (λ z. nat_eq z 0) (m b) ∙ go (P b) (old b)
  where
    and_false : (x : Bool) → false ≡ (x && false)
    and_false true = refl
    and_false false = refl

    and_true : (x : Bool) → x ≡ (x && true)
    and_true true = refl
    and_true false = refl

    go : (t : Bool) (n : ℕ) → nat_eq (cond t 1 n) 0 ≡ (nat_eq n 0 && not t)
    go true n = and_false (nat_eq n 0)
    go false n = and_true (nat_eq n 0)

pub put_zero : (P : Bit → Bool) (old new : Bit → ℕ) → Put 0 P old new → (b : Bit) → nat_eq (new b) 0 ≡ (nat_eq (old b) 0 || P b)
put_zero P old new m b = ap (λ z. nat_eq z 0) (m b) ∙ go (P b) (old b)
  where
    or_true : (x : Bool) → true ≡ (x || true)
    or_true true = refl
    or_true false = refl

    or_false : (x : Bool) → x ≡ (x || false)
    or_false true = refl
    or_false false = refl

    go : (t : Bool) (n : ℕ) → nat_eq (cond t 0 n) 0 ≡ (nat_eq n 0 || t)
    go true n = or_true (nat_eq n 0)
    go false n = or_false (nat_eq n 0)
