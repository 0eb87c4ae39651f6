-- Pieces and reaches of lists as nodes.
use Rattle.std.proofs.Common.{◌≡◌, ℕ, ◌+◌, ◌≤◌, ◌<◌, ◌⊎◌, inl, inr, List, [], length, get_or, take, Bool, true, false, not, ◌&&◌, ◌||◌, nat_eq, nat_lt, refl, ap, sym, ◌∙◌, subst, arith}
use Rattle.std.proofs.lemmas.Bool.{and_parts, and_from, eqb-true, eq-eqb, both_ways, or_cases, ltb-true}
use Rattle.rr_expr.specs.declared.types.Bit.{Bit}
use Rattle.rr_named_bits.specs.declared.piece.Piece.{Piece}
use Rattle.rr_named_bits.specs.declared.piece.Reach.{Reach}
use Rattle.rr_named_bits.specs.Lists.{covered, reaches}
use Rattle.rr_named_bits.specs.Pieces.{covers}
use Rattle.rr_named_bits.proofs.Growing.{covered-push}
use Rattle.rr_writers.proofs.Elements.{taken_next, take_all, element}
use Rattle.rr_writers.proofs.Reaching.{word_piece, first_words, no_words, next_word}
use Rattle.rr_order.specs.Nodes.{bit_node, IsRow, IsWritten, Added, Covered, Foreign}
use Rattle.rr_flat.proofs.Bits.{or_left, or_right}
use Rattle.rr_order.proofs.Lists.{added_none, added_both, covered_none, covered_both, row_none, row_more, written_none, written_more}

abbrev pub Run : ℕ → ℕ → ℕ → (Bit → Type 0) → Bit → Type 0
Run signal low high F b = (b.signal ≡ signal) × ((low ≤ b.place) × ((b.place < high) × F b))

abbrev pub InRun : ℕ → ℕ → ℕ → Bit → Bool
InRun signal low high b = nat_eq signal b.signal && (not (nat_lt b.place low) && nat_lt b.place high)

not_true : (x : Bool) → not x ≡ true → x ≡ false
not_true true h = cc
not_true false h = refl

false_lt : (a b : ℕ) → nat_lt a b ≡ false → b ≤ a
false_lt a b h = grind arith

lt_false : (a b : ℕ) → b ≤ a → nat_lt a b ≡ false
lt_false a b l = grind arith

lt_true : (a b : ℕ) → a < b → nat_lt a b ≡ true
lt_true a b l = grind arith

pub run_true : (signal low high : ℕ) (b : Bit) → InRun signal low high b ≡ true → (b.signal ≡ signal) × ((low ≤ b.place) × (b.place < high))
run_true signal low high b h =
    let p = and_parts (nat_eq signal b.signal) (not (nat_lt b.place low) && nat_lt b.place high) h in
    let q = and_parts (not (nat_lt b.place low)) (nat_lt b.place high) p.1 in
    (sym (eqb-true signal b.signal p.0), (false_lt b.place low (not_true (nat_lt b.place low) q.0), ltb-true b.place high q.1))

pub true_run : (signal low high : ℕ) (b : Bit) → b.signal ≡ signal → low ≤ b.place → b.place < high → InRun signal low high b ≡ true
true_run signal low high b e l m =
    and_from (nat_eq signal b.signal) (not (nat_lt b.place low) && nat_lt b.place high) (eq-eqb signal b.signal (sym e))
    (and_from (not (nat_lt b.place low)) (nat_lt b.place high) (ap not (lt_false b.place low l)) (lt_true b.place high m))

pub run_covers : (p : Piece) (low high : ℕ) (F : Bit → Type 0) → ((b : Bit) → covers p b ≡ InRun p.signal low high b) → (b : Bit) → Run p.signal low high F b → (covers p b ≡ true) × F b
run_covers p low high F h b (e, (l, (m, f))) = (h b ∙ true_run p.signal low high b e l m, f)

pub covers_run : (p : Piece) (low high : ℕ) (F : Bit → Type 0) → ((b : Bit) → covers p b ≡ InRun p.signal low high b) → (b : Bit) → (covers p b ≡ true) × F b → Run p.signal low high F b
covers_run p low high F h b (c, f) = let r = run_true p.signal low high b (sym (h b) ∙ c) in (r.0, (r.1.0, (r.1.1, f)))

-- the first reaches of a list

covered_more : (ps : List Reach) (k : ℕ) (z : Reach) (b : Bit) → k < length ps → covered (take (k + 1) ps) b ≡ (covered (take k ps) b || reaches (get_or ps k z) b)
covered_more ps k z b l = ap (λ qs. covered qs b) (taken_next ps k (get_or ps k z) l (element ps k z l)) ∙ covered-push (take k ps) (get_or ps k z) b

pub row_start : (ws : List ℕ) (ps : List Reach) (F : Bit → Type 0) → IsRow ws (λ b. (covered (take 0 ps) b ≡ true) × F b) []
unfolding covered
row_start ws ps F = row_none ws (λ b. (covered (take 0 ps) b ≡ true) × F b) (λ b p. both_ways false refl p.0)

pub row_step : (ws : List ℕ) (ps : List Reach) (k : ℕ) (z : Reach) (row new : List ℕ) (F : Bit → Type 0) → k < length ps → IsRow ws (λ b. (covered (take k ps) b ≡ true) × F b) row
    → Covered ws row new (λ b. (reaches (get_or ps k z) b ≡ true) × F b) → IsRow ws (λ b. (covered (take (k + 1) ps) b ≡ true) × F b) new
row_step ws ps k z row new F l r c = row_more ws row new (λ b. (covered (take k ps) b ≡ true) × F b) (λ b. (reaches (get_or ps k z) b ≡ true) × F b) (λ b. (covered (take (k + 1) ps) b ≡ true) × F b) r c
    (λ b p. (covered_more ps k z b l ∙ or_left (covered (take k ps) b) (reaches (get_or ps k z) b) p.0, p.1))
    (λ b p. (covered_more ps k z b l ∙ or_right (covered (take k ps) b) (reaches (get_or ps k z) b) p.0, p.1))
    (λ b p. elim (or_cases (covered (take k ps) b) (reaches (get_or ps k z) b) (sym (covered_more ps k z b l) ∙ p.0)) [ inl x ↦ inl (x, p.1) | inr x ↦ inr (x, p.1) ])

pub row_done : (ws : List ℕ) (ps : List Reach) (k : ℕ) (row : List ℕ) (F : Bit → Type 0) → length ps ≤ k → IsRow ws (λ b. (covered (take k ps) b ≡ true) × F b) row → IsRow ws (λ b. (covered ps b ≡ true) × F b) row
row_done ws ps k row F l r = subst (λ (qs : List Reach). IsRow ws (λ b. (covered qs b ≡ true) × F b) row) (take_all k ps l) r

pub written_start : (ws : List ℕ) (ps : List Reach) → IsWritten ws (λ b. covered (take 0 ps) b ≡ true) []
unfolding covered
written_start ws ps = written_none ws (λ b. covered (take 0 ps) b ≡ true) (λ b p. both_ways false refl p)

pub written_step : (ws own : List ℕ) (stamp : ℕ) (ps : List Reach) (k : ℕ) (z : Reach) (row new : List ℕ) → k < length ps → ((v : ℕ) → get_or own v 0 < stamp) → IsWritten ws (λ b. covered (take k ps) b ≡ true) row
    → Added ws row new (λ b. (reaches (get_or ps k z) b ≡ true) × Foreign ws own stamp b) → IsWritten ws (λ b. covered (take (k + 1) ps) b ≡ true) new
written_step ws own stamp ps k z row new l f r c =
    written_more ws row new (λ b. covered (take k ps) b ≡ true) (λ b. (reaches (get_or ps k z) b ≡ true) × Foreign ws own stamp b) (λ b. covered (take (k + 1) ps) b ≡ true) r c
    (λ b p. covered_more ps k z b l ∙ or_left (covered (take k ps) b) (reaches (get_or ps k z) b) p)
    (λ b p. covered_more ps k z b l ∙ or_right (covered (take k ps) b) (reaches (get_or ps k z) b) p.0)
    (λ b p. elim (or_cases (covered (take k ps) b) (reaches (get_or ps k z) b) (sym (covered_more ps k z b l) ∙ p)) [
      | inl x ↦ inl x
      | inr x ↦ inr (x, λ q. let m = f (bit_node ws b) in omega (arith, m, q))
    ])

pub written_done : (ws : List ℕ) (ps : List Reach) (k : ℕ) (row : List ℕ) → length ps ≤ k → IsWritten ws (λ b. covered (take k ps) b ≡ true) row → IsWritten ws (λ b. covered ps b ≡ true) row
written_done ws ps k row l r = subst (λ (qs : List Reach). IsWritten ws (λ b. covered qs b ≡ true) row) (take_all k ps l) r

-- the words of a reach in turn

-- what a set of bits has and what is asked of each
abbrev Among : Reach → ℕ → (Bit → Type 0) → Bit → Type 0
Among r k F b = (reaches (first_words r k) b ≡ true) × F b

words_split : (r : Reach) (k : ℕ) (p : Piece) (F : Bit → Type 0) (b : Bit) → p ≡ word_piece r k → Among r (k + 1) F b → Among r k F b ⊎ ((covers p b ≡ true) × F b)
words_split r k p F b e (h, f) = elim (or_cases (reaches (first_words r k) b) (covers (word_piece r k) b) (sym (next_word r k b) ∙ h)) [ inl x ↦ inl (x, f) | inr x ↦ inr (ap (λ z. covers z b) e ∙ x, f) ]

words_before : (r : Reach) (k : ℕ) (F : Bit → Type 0) (b : Bit) → Among r k F b → Among r (k + 1) F b
words_before r k F b (h, f) = (next_word r k b ∙ or_left (reaches (first_words r k) b) (covers (word_piece r k) b) h, f)

words_here : (r : Reach) (k : ℕ) (p : Piece) (F : Bit → Type 0) (b : Bit) → p ≡ word_piece r k → (covers p b ≡ true) × F b → Among r (k + 1) F b
words_here r k p F b e (h, f) = (next_word r k b ∙ or_right (reaches (first_words r k) b) (covers (word_piece r k) b) (sym (ap (λ z. covers z b) e) ∙ h), f)

pub words_added_none : (ws old : List ℕ) (r : Reach) (F : Bit → Type 0) → Added ws old old (Among r 0 F)
words_added_none ws old r F = added_none ws old (Among r 0 F) (λ b p. both_ways (reaches (first_words r 0) b) (no_words r b) p.0)

pub words_added : (ws a b c : List ℕ) (r : Reach) (k : ℕ) (p : Piece) (low high : ℕ) (F : Bit → Type 0) → p ≡ word_piece r k → ((x : Bit) → covers p x ≡ InRun p.signal low high x) → Added ws a b (Among r k F) → Added ws b c (Run p.signal low high F)
    → Added ws a c (Among r (k + 1) F)
words_added ws a b c r k p low high F e h m n = added_both ws a b c (Among r k F) (Run p.signal low high F) (Among r (k + 1) F) m n
    (λ x q. words_before r k F x q)
    (λ x q. words_here r k p F x e (run_covers p low high F h x q))
    (λ x q. elim (words_split r k p F x e q) [ inl y ↦ inl y | inr y ↦ inr (covers_run p low high F h x y) ])

pub words_added_all : (ws a b : List ℕ) (r : Reach) (k : ℕ) (F : Bit → Type 0) → k ≡ r.words → Added ws a b (Among r k F) → Added ws a b (λ x. (reaches r x ≡ true) × F x)
words_added_all ws a b r k F e m = subst (λ (n : ℕ). Added ws a b (Among r n F)) e m

pub words_covered_none : (ws old : List ℕ) (r : Reach) (F : Bit → Type 0) → Covered ws old old (Among r 0 F)
words_covered_none ws old r F = covered_none ws old (Among r 0 F) (λ b p. both_ways (reaches (first_words r 0) b) (no_words r b) p.0)

pub words_covered : (ws a b c : List ℕ) (r : Reach) (k : ℕ) (p : Piece) (F : Bit → Type 0) → p ≡ word_piece r k → Covered ws a b (Among r k F) → Covered ws b c (λ x. (covers p x ≡ true) × F x) → Covered ws a c (Among r (k + 1) F)
words_covered ws a b c r k p F e m n = covered_both ws a b c (Among r k F) (λ x. (covers p x ≡ true) × F x) (Among r (k + 1) F) m n (words_before r k F) (λ x q. words_here r k p F x e q) (λ x q. words_split r k p F x e q)

pub words_covered_all : (ws a b : List ℕ) (r : Reach) (k : ℕ) (F : Bit → Type 0) → k ≡ r.words → Covered ws a b (Among r k F) → Covered ws a b (λ x. (reaches r x ≡ true) × F x)
words_covered_all ws a b r k F e m = subst (λ (n : ℕ). Covered ws a b (Among r n F)) e m
