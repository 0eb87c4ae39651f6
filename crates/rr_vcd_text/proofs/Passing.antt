-- Words that were passed on the way to `$end`.
use Rattle.std.proofs.Common.{◌≡◌, ℕ, ◌+◌, ◌≤◌, true, false, List, [], ◌∷◌, length, Option, Some, None, refl, sym, ◌∙◌, ap, arith, if◌then◌else◌, cond}
use Rattle.rr_vcd_text.specs.Words as text
use Rattle.rr_vcd_text.specs.Words.{is_end, last_line, words_from}
use Rattle.rr_vcd_text.specs.Steps.{past_end}
use Rattle.rr_vcd_text.specs.View.{left, final}
use Rattle.rr_vcd_text.specs.declared.words.Words.{Words}

pub record Passed (old new : Words) : Type 0 where
  pub same : past_end (left old) ≡ past_end (left new)
  pub last : final new ≡ final old
  pub fewer : length new.rest.now ≤ length old.rest.now

pub past_here : (ws rest : List text.Word) (w : text.Word) → ws ≡ w ∷ rest → is_end w ≡ true → past_end ws ≡ Some rest
unfolding past_end
past_here ws rest w e h = ap past_end e ∙ rw h refl

pub past_next : (ws rest : List text.Word) (w : text.Word) → ws ≡ w ∷ rest → is_end w ≡ false → past_end ws ≡ past_end rest
unfolding past_end
past_next ws rest w e h = ap past_end e ∙ rw h refl

pub past_none : (ws : List text.Word) → ws ≡ [] → past_end ws ≡ None
unfolding past_end
past_none ws e = ap past_end e

-- the last line stays behind a word
pub last_stays : (line : ℕ) (ws rest : List text.Word) (w : text.Word) → ws ≡ w ∷ rest → last_line w.line rest ≡ last_line line ws
unfolding last_line
last_stays line ws rest w e = sym (ap (last_line line) e)
