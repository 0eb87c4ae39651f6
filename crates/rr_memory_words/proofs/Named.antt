-- What names of declarations stand for.
use Rattle.std.proofs.Common.{◌≡◌, ◌∙◌, sym, ap, ℕ, Bool, ◌+◌, ◌-◌, ◌<◌, ◌≤◌, List, [], ◌∷◌, ◌++◌, length, map, Option, Some, None, refl, arith, length-append}
use Rattle.std.proofs.lemmas.List.{append_assoc, get_or_append_left, get_or-append_right, map_push}
use Rattle.std.proofs.lemmas.List.FromFn.{get_or-map-range_with_len, length-map-range_with_len, map-range_with_len_more}
use Rattle.rr_flat.specs.declared.signal.Port.{Port}
use Rattle.rr_flat.specs.declared.signal.Signal as declared_signal
use Rattle.rr_flat.specs.Signals.{Signal, signal_at, no_signal}
use Rattle.rr_flat.specs.Sound.{IsNamed}
use Rattle.rr_flat.specs.View.{plain_signal}
use Rattle.rr_memory_words.specs.Words.{AreWords, all_words, indexed_word, word_count, words_entity, words_signals}

pub words_long : (s : Signal) (words : Option (ℕ × ℕ)) → length (words_signals s words) ≡ word_count words
words_long s None = refl
words_long s (Some w) = length-map-range_with_len (indexed_word s w.0) 0 w.1

-- there are a few

pub words_some : (variable : Bool) (port : Port) (words : Option (ℕ × ℕ)) → AreWords variable port words → 1 ≤ word_count words
words_some variable port None h = omega arith
words_some variable port (Some w) h = h.0

pub words_few : (variable : Bool) (port : Port) (words : Option (ℕ × ℕ)) → AreWords variable port words → word_count words ≤ 65536
words_few variable port None h = omega arith
words_few variable port (Some w) h = let l = h.1 in omega (arith, l)

-- one more word goes last
pub words_more : (s : Signal) (low k : ℕ) (first old new : List declared_signal.Signal) (x : declared_signal.Signal) → new ≡ old ++ x ∷ [] → map plain_signal old ≡ map plain_signal first ++ all_words s low k
    → plain_signal x ≡ record s { word = Some (low + k) } → map plain_signal new ≡ map plain_signal first ++ all_words s low (k + 1)
words_more s low k first old new x pushed was is =
    ap (map plain_signal) pushed
    ∙ (map_push plain_signal old x
    ∙ (ap (λ (xs : List Signal). xs ++ plain_signal x ∷ []) was
    ∙ (ap (λ (y : Signal). (map plain_signal first ++ all_words s low k) ++ y ∷ []) is
    ∙ (append_assoc (map plain_signal first) (all_words s low k) (indexed_word s low k ∷ []) ∙ ap (λ (xs : List Signal). map plain_signal first ++ xs) (sym (map-range_with_len_more (indexed_word s low) 0 k k (omega arith)))))))

-- word k of those that stand after others
word_there : (before after : List Signal) (s : Signal) (low count k n : ℕ) → k < count → n ≡ length before + k → signal_at (before ++ (all_words s low count ++ after)) n ≡ indexed_word s low k
word_there before after s low count k n lt e =
    let at : n - length before ≡ k = omega arith in
    let here : k < length (all_words s low count) = omega (arith, lt, length-map-range_with_len (indexed_word s low) 0 count) in
    get_or-append_right before (all_words s low count ++ after) (length before) n no_signal refl (omega (arith, e))
    ∙ (ap (λ (j : ℕ). signal_at (all_words s low count ++ after) j) at
    ∙ (get_or_append_left (all_words s low count) after no_signal k here ∙ get_or-map-range_with_len (indexed_word s low) 0 count k k no_signal lt (omega arith)))

one_there : (before after : List Signal) (s : Signal) (n : ℕ) → n ≡ length before → signal_at (before ++ ((s ∷ []) ++ after)) n ≡ s
one_there before after s n e =
    let at : n - length before ≡ 0 = omega arith in
    get_or-append_right before ((s ∷ []) ++ after) (length before) n no_signal refl (omega (arith, e)) ∙ ap (λ (j : ℕ). signal_at ((s ∷ []) ++ after) j) at

-- among the signals that stand before and after those of a declaration its name stands for these
pub named_words : (base k : ℕ) (before after : List Signal) (s : declared_signal.Signal) (words : Option (ℕ × ℕ)) → AreWords s.variable s.port words → k ≡ base + length before
    → IsNamed base (before ++ (words_signals (plain_signal s) words ++ after)) (words_entity k (plain_signal s) words)
named_words base k before after s None w e =
    let long = length-append before (((plain_signal s) ∷ []) ++ after) in
    let at : signal_at (before ++ (((plain_signal s) ∷ []) ++ after)) (k - base) ≡ plain_signal s = one_there before after (plain_signal s) (k - base) (omega (arith, e)) in
    (omega (arith, e), omega (arith, e, long), ap (λ (x : Signal). x.range) at, ap (λ (x : Signal). x.signed) at)
named_words base k before after s (Some w) h e =
    let all = all_words (plain_signal s) w.0 w.1 in
    let long = length-append before (all ++ after) in
    let more = length-append all after in
    let count = words_long (plain_signal s) (Some w) in
    let at : (j : ℕ) → j < w.1 → signal_at (before ++ (all ++ after)) ((k + j) - base) ≡ indexed_word (plain_signal s) w.0 j =
    λ j lt. word_there before after (plain_signal s) w.0 w.1 j ((k + j) - base) lt (omega (arith, e)) in (
      omega (arith, e),
      omega (arith, e, long, more, count),
      h.0,
      λ j lt. record {
        range = ap (λ (x : Signal). x.range) (at j lt);
        signed = ap (λ (x : Signal). x.signed) (at j lt);
        word = ap (λ (x : Signal). x.word) (at j lt);
        variable = ap (λ (x : Signal). x.variable) (at j lt) ∙ h.2;
        port = ap (λ (x : Signal). x.port) (at j lt) ∙ h.3;
      },
    )
