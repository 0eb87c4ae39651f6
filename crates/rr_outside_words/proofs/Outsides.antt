-- The words at a token, and those of the tokens that were seen.
use Rattle.std.proofs.Common.{◌≡◌, ℕ, zero, suc, ◌+◌, ◌⊎◌, inl, inr, ◌≤◌, ◌<◌, lit<, List, [], ◌∷◌, length, drop, get_or, nat_eq, refl, ap, sym, ◌∙◌, not, arith, Bool, false, IsTrue, Some}
use Rattle.std.specs.Prelude.{◌↔◌}
use Rattle.rr_syntax.specs.declared.token.Token.{Token}
use Rattle.rr_syntax.specs.declared.token.Kind.{Kind}
use Rattle.rr_syntax.specs.Words.{Word, Named, System, Digits, Reserved, Marked, word, words, mark_hash, mark_open_parenthesis}
use Rattle.rr_parse_expr.specs.Fronts.{front_mark}
use Rattle.rr_parse_expr.specs.Reading.{mark}
use Rattle.rr_parse_expr.proofs.Answered.{not_equal}
use Rattle.rr_parse_expr.proofs.FrontMarks.{mark_equals}
use Rattle.rr_parse_expr.proofs.TokenWords.{words_at, words_past}
use Rattle.rr_outside_words.specs.Profile.{is_outside, has_no_rule, opens, IsOutside, NoneOutside}

pub outside_at : (T : List Token) (i : ℕ) (t : Token) → i < length T → t ≡ get_or T i t → is_outside (drop i (words T)) ≡ has_no_rule (word t.kind) (drop (i + 1) (words T))
unfolding is_outside
outside_at T i t h e = rw (words_at T i t h e) refl

pub outside_kind : (T : List Token) (i : ℕ) (t : Token) (k : Kind) → i < length T → t ≡ get_or T i t → t.kind ≡ k → is_outside (drop i (words T)) ≡ has_no_rule (word k) (drop (i + 1) (words T))
outside_kind T i t k h e f = outside_at T i t h e ∙ ap (λ (x : Kind). has_no_rule (word x) (drop (i + 1) (words T))) f

pub hash_before : (m : ℕ) (ws : List Word) → m ≡ mark_hash → has_no_rule (Marked m) ws ≡ not (opens ws)
hash_before m ws e = rw e refl

pub no_hash : (m : ℕ) (ws : List Word) → (m ≡ mark_hash → ⊥) → has_no_rule (Marked m) ws ≡ false
no_hash m ws h = let e = not_equal m mark_hash h in rw e refl

opens_mark : (ws : List Word) → opens ws ≡ nat_eq (mark ws) mark_open_parenthesis
unfolding opens mark
opens_mark [] = refl
opens_mark (Marked m ∷ ws) = refl
opens_mark (Named s ∷ ws) = refl
opens_mark (System s ∷ ws) = refl
opens_mark (Digits n ∷ ws) = refl
opens_mark (Reserved k ∷ ws) = refl

-- whether the mark stands there tells whether a bracket does
pub opens_is : (ws : List Word) {b : Bool} → (IsTrue b ↔ (front_mark ws ≡ Some (record { 0 = mark_open_parenthesis }))) → b ≡ opens ws
opens_is ws h = mark_equals ws h (lit< tt) ∙ sym (opens_mark ws)

no_words : is_outside [] ≡ false
unfolding is_outside
no_words = refl

not_true : (b : Bool) → b ≡ false → IsTrue b → ⊥
not_true b e h = cc (e, h)

none_past : (T : List Token) (i : ℕ) → length T ≤ i → IsOutside T i → ⊥
none_past T i h o = not_true (is_outside (drop i (words T))) (ap is_outside (words_past T i h) ∙ no_words) o

-- no token before `at` is outside
abbrev pub NoneBefore : List Token → ℕ → Type 0
NoneBefore T at = (i : ℕ) → i < at → IsOutside T i → ⊥

pub none_yet : (T : List Token) → NoneBefore T 0
none_yet T i h o = absurd (omega arith)

-- a place below a bound, or at it
before : (i at : ℕ) → i < at + 1 → (i < at) ⊎ (i ≡ at)
before zero zero h = inr refl
before zero (suc at) h = inl (omega arith)
before (suc i) zero h = absurd (omega arith)
before (suc i) (suc at) h = elim (before i at (omega arith)) [ inl k ↦ inl (omega arith) | inr k ↦ inr (omega (arith, k)) ]

below_or_past : (i n : ℕ) → (i < n) ⊎ (n ≤ i)
below_or_past i zero = inr (omega arith)
below_or_past zero (suc n) = inl (omega arith)
below_or_past (suc i) (suc n) = elim (below_or_past i n) [ inl k ↦ inl (omega arith) | inr k ↦ inr (omega arith) ]

pub none_more : (T : List Token) (at : ℕ) → NoneBefore T at → is_outside (drop at (words T)) ≡ false → NoneBefore T (at + 1)
none_more T at n e i h o = elim (before i at h) [ inl k ↦ n i k o | inr k ↦ not_true (is_outside (drop at (words T))) e (rw k at o) ]

pub none_at_all : (T : List Token) (at : ℕ) → NoneBefore T at → length T ≤ at → NoneOutside T
none_at_all T at n h i o = elim (below_or_past i (length T)) [ inl k ↦ n i (omega arith) o | inr k ↦ none_past T i (omega arith) o ]
