-- the words of numbers, one after the other
use Rattle.std.proofs.Common.{◌≡◌, ℕ, ◌+◌, List, [], ◌∷◌, length, get_or, drop, refl, sym, ◌∙◌, ap₂}
use Rattle.std.proofs.lemmas.List.{length-append}
use Rattle.std.proofs.lemmas.List.Sums.{sum_by-cons}
use Rattle.std.specs.List.{sum}
use Rattle.rr_bits.specs.Words.{word}
use Rattle.rr_bits.specs.Fields.{length_word}
use Rattle.rr_transition.specs.Transitions.{words}

pub length_words : (ws ns : List ℕ) → length (words ws ns) ≡ sum ws
unfolding words
length_words [] ns = refl
length_words (w ∷ ws) ns = length-append (word w (get_or ns 0 0)) (words ws (drop 1 ns)) ∙ ap₂ (λ x y. x + y) (length_word w (get_or ns 0 0)) (length_words ws (drop 1 ns)) ∙ sym (sum_by-cons (λ x. x) w ws)
