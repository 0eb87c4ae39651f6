-- The bits at places of several pieces, counted from the last one's lowest up.
use Rattle.std.proofs.Common.{◌≡◌, ◌∙◌, sym, ap, ℕ, zero, suc, ◌+◌, ◌-◌, ◌<◌, ◌≤◌, List, [], ◌∷◌, ◌++◌, length, drop, drop-cons, get_or, length-append, Option, None, refl, arith, ℤ, pos, ◌+ℤ◌}
use Rattle.std.proofs.Math.IntN.{+ℤ_assoc}
use Rattle.std.proofs.lemmas.Int.{ints}
use Rattle.std.proofs.lemmas.List.{get_or_append_left, get_or-append_right}
use Rattle.rr_expr.specs.declared.types.Bit.{Bit}
use Rattle.rr_named_bits.specs.declared.piece.Piece.{Piece}
use Rattle.rr_named_bits.specs.Pieces.{all_bits, bit_in, bits_in, bits_of}

pub at_run : (p : Piece) (at : ℤ) (n j : ℕ) → j < n → get_or (bits_in p at n) j None ≡ bit_in p (at +ℤ pos j)
unfolding bits_in
at_run p at zero j l = absurd (omega arith)
at_run p at (suc n) zero l = ap (bit_in p) (zero_right at)
  where
    zero_right : (z : ℤ) → z ≡ z +ℤ pos 0
    zero_right z = omega (arith, ints)
at_run p at (suc n) (suc j) l = at_run p (at +ℤ pos 1) n j (omega arith) ∙ ap (bit_in p) (+ℤ_assoc at (pos 1) (pos j) ∙ ap (λ (k : ℕ). at +ℤ pos k) (omega arith))

run_length : (p : Piece) (at : ℤ) (n : ℕ) → length (bits_in p at n) ≡ n
unfolding bits_in
run_length p at zero = refl
run_length p at (suc n) = ap suc (run_length p (at +ℤ pos 1) n)

pub piece_length : (p : Piece) → length (bits_of p) ≡ p.count
piece_length p = run_length p p.from p.count

-- what stands past the last of a list
abbrev pub no_piece : Piece
no_piece = record { signal = 0; width = 0; from = pos 0; count = 0 }

pub all_bits_at : (ps : List Piece) (i j : ℕ) (p d : Piece) → i < length ps → p ≡ get_or ps i d → j ≡ i + 1 → all_bits (drop i ps) ≡ all_bits (drop j ps) ++ bits_of p
unfolding all_bits
all_bits_at ps i j p d l q r =
    let s : suc i ≡ j = omega arith in
    ap all_bits (drop-cons ps i d l ∙ ap (λ (x : Piece). x ∷ drop (suc i) ps) (sym q)) ∙ ap (λ (k : ℕ). all_bits (drop k ps) ++ bits_of p) s

pub bits_left : (ps : List Piece) (i : ℕ) → length (all_bits (drop i ps)) ≤ length (all_bits ps)
unfolding all_bits
bits_left ps zero = omega arith
bits_left [] (suc i) = omega arith
bits_left (p ∷ ps) (suc i) = omega (arith, bits_left ps i, length-append (all_bits ps) (bits_of p))

-- the number of bits so far, with one run more
pub count_more : (ps : List Piece) (i j from : ℕ) (p d : Piece) → i < length ps → p ≡ get_or ps i d → j ≡ i + 1 → from ≡ length (all_bits (drop j ps)) → from + p.count ≡ length (all_bits (drop i ps))
count_more ps i j from p d l q r f = omega (arith, ap length (all_bits_at ps i j p d l q r), length-append (all_bits (drop j ps)) (bits_of p), piece_length p, f)

pub count_none : (ps : List Piece) → 0 ≡ length (all_bits (drop (length ps) ps))
unfolding all_bits
count_none [] = refl
count_none (p ∷ ps) = count_none ps

prefix_at : (ps : List Piece) (i n : ℕ) → n < length (all_bits (drop i ps)) → get_or (all_bits ps) n None ≡ get_or (all_bits (drop i ps)) n None
unfolding all_bits
prefix_at ps zero n l = refl
prefix_at [] (suc i) n l = refl
prefix_at (p ∷ ps) (suc i) n l = get_or_append_left (all_bits ps) (bits_of p) None n (omega (arith, bits_left ps i)) ∙ prefix_at ps i n l

-- the piece that has the bit at a place
pub piece_hit : (ps : List Piece) (i j from n : ℕ) (p d : Piece) → i < length ps → p ≡ get_or ps i d → j ≡ i + 1 → from ≡ length (all_bits (drop j ps)) → from ≤ n → n < from + p.count →
    bit_in p (p.from +ℤ pos (n - from)) ≡ get_or (all_bits ps) n None
piece_hit ps i j from n p d l q r f u v =
    let e : all_bits (drop i ps) ≡ all_bits (drop j ps) ++ bits_of p = all_bits_at ps i j p d l q r in
    let k : n - from < p.count = omega arith in
    sym
    (prefix_at ps i n (omega (arith, count_more ps i j from p d l q r f))
    ∙ ap (λ (bs : List (Option Bit)). get_or bs n None) e
    ∙ get_or-append_right (all_bits (drop j ps)) (bits_of p) from n None (sym f) u
    ∙ at_run p p.from p.count (n - from) k)
