-- The words of memories (IEEE 1364-2005 section 4.9.3).
use Rattle.std.specs.Prelude.{◌≡◌, ℕ, ◌+◌, ◌≤◌, Bool, true, min, List, [], ◌∷◌, map, Option, Some, None}
use Rattle.std.specs.List.{range_with_len}
use Rattle.rr_expr.specs.Scopes.{range_width}
use Rattle.rr_expr.specs.declared.types.Entity.{Entity}
use Rattle.rr_expr.specs.declared.types.Entity.TheVariants as entity
use Rattle.rr_flat.specs.declared.signal.Port.{Port}
use Rattle.rr_flat.specs.declared.signal.Port.TheVariants.{Inner}
use Rattle.rr_flat.specs.Signals.{Signal}

-- the lowest index and the number of words, by the bounds of the indices
abbrev pub words_of : Option (ℕ × ℕ) → Option (ℕ × ℕ)
words_of None = None
words_of (Some r) = Some (min r.0 r.1, range_width (Some r))

-- the number of signals of a declaration
abbrev pub word_count : Option (ℕ × ℕ) → ℕ
word_count None = 1
word_count (Some w) = w.1

-- the word at an index
abbrev pub indexed_word : Signal → ℕ → ℕ → Signal
indexed_word s low k = record s { word = Some (low + k) }

-- so many words from an index on
abbrev pub all_words : Signal → ℕ → ℕ → List Signal
all_words s low count = map (indexed_word s low) (range_with_len 0 count)

-- the signals of a declaration: its one signal, or its words in the order of their indices
abbrev pub words_signals : Signal → Option (ℕ × ℕ) → List Signal
words_signals s None = s ∷ []
words_signals s (Some w) = all_words s w.0 w.1

-- what its name stands for, where its first signal has number k
abbrev pub words_entity : ℕ → Signal → Option (ℕ × ℕ) → Entity
words_entity k s None = entity.Signal k s.range s.signed
words_entity k s (Some w) = entity.Memory k w.0 w.1 s.range s.signed

-- one word or more, with no index above 65,535, of a variable that is no port
abbrev pub AreWords : Bool → Port → Option (ℕ × ℕ) → Type 0
AreWords variable port None = Unit {0}
AreWords variable port (Some w) = (1 ≤ w.1) × (w.0 + w.1 ≤ 65536) × (variable ≡ true) × (port ≡ Inner)
