-- the words of numbers, one after the other
use Rattle.std.proofs.Common.{◌≡◌, ℕ, ◌+◌, ◌<◌, ◌≤◌, Bool, false, List, [], ◌∷◌, ◌++◌, length, get_or, take, drop, sym, ◌∙◌, ap, ap₂, arith, append_assoc, append-nil}
use Rattle.std.proofs.lemmas.List.{take_more, drop_more, drop_all, take_all, get_or-drop, drop-drop}
use Rattle.rr_bits.specs.Words.{word}
use Rattle.rr_bits.specs.Fields.{length_word}
use Rattle.rr_transition.specs.Transitions.{words}

-- the head and the rest of what is left of a list
pub drop_head : {A : Type 0} (xs : List A) (k : ℕ) (d : A) → get_or (drop k xs) 0 d ≡ get_or xs k d
drop_head xs k d = get_or-drop k xs 0 d ∙ ap (λ n. get_or xs n d) (omega arith)

pub drop_rest : {A : Type 0} (xs : List A) (k : ℕ) → drop 1 (drop k xs) ≡ drop (k + 1) xs
drop_rest xs k = drop-drop 1 k xs

-- one bit more of a word
pub word_more : (out old : List Bool) (w n place : ℕ) (b : Bool) → place < w → out ≡ old ++ take place (word w n) → b ≡ get_or (word w n) place false → out ++ b ∷ [] ≡ old ++ take (place + 1) (word w n)
word_more out old w n place b l h e =
    let len : place < length (word w n) = rw (length_word w n) l in
    ap₂ (λ xs x. xs ++ x ∷ []) h e ∙ append_assoc old (take place (word w n)) (get_or (word w n) place false ∷ []) ∙ ap (λ xs. old ++ xs) (sym (take_more (word w n) place false len))

pub word_all : (old : List Bool) (w n place : ℕ) → w ≤ place → old ++ take place (word w n) ≡ old ++ word w n
word_all old w n place l = let e = length_word w n in ap (λ xs. old ++ xs) (take_all place (word w n) (omega arith))

-- one word more
pub words_step : (ws ns : List ℕ) (k : ℕ) → k < length ws → words (drop k ws) (drop k ns) ≡ word (get_or ws k 0) (get_or ns k 0) ++ words (drop (k + 1) ws) (drop (k + 1) ns)
unfolding words
words_step ws ns k l =
    ap (λ xs. words xs (drop k ns)) (drop_more ws k 0 l)
    ∙ ap₂ (λ n xs. word (get_or ws k 0) n ++ words (drop (k + 1) ws) xs) (drop_head ns k 0) (drop_rest ns k)

pub words_more : (out old : List Bool) (ws ns : List ℕ) (k : ℕ) → k < length ws → out ++ words (drop k ws) (drop k ns) ≡ old →
    (out ++ word (get_or ws k 0) (get_or ns k 0)) ++ words (drop (k + 1) ws) (drop (k + 1) ns) ≡ old
words_more out old ws ns k l h =
    append_assoc out (word (get_or ws k 0) (get_or ns k 0)) (words (drop (k + 1) ws) (drop (k + 1) ns)) ∙ ap (λ xs. out ++ xs) (sym (words_step ws ns k l)) ∙ h

pub words_all : (out old : List Bool) (ws ns : List ℕ) (k : ℕ) → length ws ≤ k → out ++ words (drop k ws) (drop k ns) ≡ old → out ≡ old
unfolding words
words_all out old ws ns k l h =
    sym (append-nil out) ∙ ap (λ xs. out ++ words xs (drop k ns)) (sym (drop_all k ws (omega arith))) ∙ h
