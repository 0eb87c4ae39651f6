-- words of memories, a piece for each
use Rattle.std.proofs.Common.{◌≡◌, ◌∙◌, sym, ap, ℕ, ◌+◌, ◌⊎◌, inl, inr, Bool, true, false, cond, List, Option, Some, None, ℤ, pos}
use Rattle.std.specs.Ordering.{int_eq}
use Rattle.rr_expr.specs.declared.types.Bit.{Bit}
use Rattle.rr_expr.specs.declared.types.Entity.TheVariants.{Signal}
use Rattle.rr_expr.specs.Memories.{word_at, word_bits, word_signal}
use Rattle.rr_expr.specs.Scopes.{range_width}
use Rattle.rr_expr.specs.Selects.{place}
use Rattle.rr_flat.specs.Targets.{bits_there}
use Rattle.rr_flat.proofs.Bits.{no_word_run, word_run}
use Rattle.rr_named_bits.specs.declared.piece.Piece.{Piece}
use Rattle.rr_named_bits.specs.Pieces.{bits_of}
use Rattle.rr_cycle.specs.Exec.{Environment, write}
use Rattle.rr_word_gates.proofs.MemoryLaws.{IsNext, next_word, no_word}
use Rattle.rr_signal_wires.proofs.GuardedPieceLaws.{none_of_instance, signal_piece}

-- all places of a word

abbrev pub word_piece : ℕ → ℕ → Piece
word_piece id width = record { signal = id; width = width; from = pos 0; count = width }

pub word_is : (id width : ℕ) (range : Option (ℕ × ℕ)) → width ≡ range_width range → bits_of (word_piece id width) ≡ word_bits range (Some id)
word_is id width range e = signal_piece id range false width (pos 0) width e ∙ ap (bits_there (Signal id range false) (pos 0)) e ∙ sym (word_run range id false)

-- where there is no word nothing is written
no_word_written : (range : Option (ℕ × ℕ)) (vs : List Bool) (e : Environment) → write (word_bits range None) vs e ≡ e
no_word_written range vs e = ap (λ (bs : List (Option Bit)). write bs vs e) (no_word_run range (pos 0)) ∙ none_of_instance (pos 0) (range_width range) vs e

-- what the first words of a memory leave

abbrev pub written : Option (ℕ × ℕ) → ℕ → ℕ → ℕ → ℤ → List Bool → Environment → Environment
written range first low k i vs e = write (word_bits range (word_signal first (word_at low k i))) vs e

pub written_none : (range : Option (ℕ × ℕ)) (first low : ℕ) (i : ℤ) (vs : List Bool) (e : Environment) → e ≡ written range first low 0 i vs e
written_none range first low i vs e = sym (ap (λ (o : Option ℕ). write (word_bits range (word_signal first o)) vs e) (no_word low i) ∙ no_word_written range vs e)

pub written_more : (range : Option (ℕ × ℕ)) (first low k : ℕ) (i at : ℤ) (vs : List Bool) (d e : Environment) → at ≡ pos k → d ≡ written range first low k i vs e →
    cond (int_eq (place (low, low) i) at) (write (word_bits range (Some (first + k))) vs d) d ≡ written range first low (k + 1) i vs e
written_more range first low k i at vs d e q h = by_cases (next_word low k i at q)
  where
    by_cases : ((int_eq (place (low, low) i) at ≡ true) × IsNext low k i) ⊎ ((int_eq (place (low, low) i) at ≡ false) × (word_at low (k + 1) i ≡ word_at low k i)) →
        cond (int_eq (place (low, low) i) at) (write (word_bits range (Some (first + k))) vs d) d ≡ written range first low (k + 1) i vs e
    by_cases (inl (t, n)) =
        ap (λ (b : Bool). cond b (write (word_bits range (Some (first + k))) vs d) d) t
        ∙ ap (write (word_bits range (Some (first + k))) vs) (h ∙ ap (λ (o : Option ℕ). write (word_bits range (word_signal first o)) vs e) n.before ∙ no_word_written range vs e)
        ∙ sym (ap (λ (o : Option ℕ). write (word_bits range (word_signal first o)) vs e) n.new)
    by_cases (inr (f, s)) =
        ap (λ (b : Bool). cond b (write (word_bits range (Some (first + k))) vs d) d) f ∙ h
        ∙ sym (ap (λ (o : Option ℕ). write (word_bits range (word_signal first o)) vs e) s)

pub written_all : (range : Option (ℕ × ℕ)) (first low k words : ℕ) (i : ℤ) (vs : List Bool) (e : Environment) → k ≡ words → written range first low k i vs e ≡ written range first low words i vs e
written_all range first low k words i vs e q = ap (λ (n : ℕ). written range first low n i vs e) q
