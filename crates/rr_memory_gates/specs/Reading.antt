-- Words of memories (IEEE 1364-2005 section 5.2.2).
use Rattle.std.specs.Prelude.{ℕ, List, Bool, false, Option, Some, None, ℤ}
use Rattle.rr_bits.specs.Words.{tabulate}
use Rattle.rr_expr.specs.declared.types.Bit.{Bit}
use Rattle.rr_expr.specs.Memories.{word_at, word_signal}
use Rattle.rr_memory_gates.specs.declared.Memory.{Memory}

-- so many bits of a signal, all false where there is none
abbrev pub word_value : (Bit → Bool) → ℕ → Option ℕ → List Bool
word_value env width None = tabulate width (λ i. false)
word_value env width (Some id) = tabulate width (λ i. env (record { signal = id; place = i }))

-- the word at an index, 0 where the memory has none
abbrev pub word_read : (Bit → Bool) → Memory → ℤ → List Bool
word_read env m i = word_value env m.width (word_signal m.first (word_at m.low m.words i))

-- the memory of its first words
abbrev pub first_words : ℕ → Memory → Memory
first_words n m = record m { words = n }
