-- What the shelf and the sink in memory hold, and which of their calls fail.
use Rattle.std.specs.Prelude.{◌≡◌, ◌<◌, ℕ, ◌+◌, ◌-◌, ◌^◌, min, length, List, Some, Contains, vec_len, Option}
use Rattle.std.specs.Option.{option_map}
use Rattle.std.specs.BTreeMap.{get_by_text}
use Rattle.rr_edge.specs.Held.{Held}
use Rattle.rr_edge.specs.declared.memory.MemoryShelf.{MemoryShelf}
use Rattle.rr_edge.specs.declared.memory.MemorySink.{MemorySink}

-- the bytes under each name
abbrev pub held_of : MemoryShelf → Held
held_of shelf name = option_map (λ bytes. bytes.items) (get_by_text shelf.held name)

-- the numbers of the calls that fail
abbrev pub fails_of : MemoryShelf → List ℕ
fails_of shelf = shelf.fails.items

-- how many calls there were, up to the count's end: the number of the next one
abbrev pub call_count : MemoryShelf → ℕ
call_count shelf = shelf.calls

-- how often the shelf has failed
abbrev pub fault_count : MemoryShelf → ℕ
fault_count shelf = shelf.faults

-- the next call of the shelf fails
abbrev pub FailsNext : MemoryShelf → Type 0
FailsNext shelf = Contains (fails_of shelf) (call_count shelf)

-- one call more, by the same list; past the count's end calls keep that number
pub record CallsOnce (old new : MemoryShelf) : Type 0 where
  pub list : fails_of new ≡ fails_of old
  pub calls : call_count new ≡ min (call_count old + 1) (2 ^ 64 - 1)

-- no call and no fault more, by the same list
pub record CallsNot (old new : MemoryShelf) : Type 0 where
  pub list : fails_of new ≡ fails_of old
  pub calls : call_count new ≡ call_count old
  pub faults : fault_count new ≡ fault_count old

-- the bytes are told, n of them, and more than the limit
abbrev pub IsLonger : Option (List ℕ) → ℕ → ℕ → Type 0
IsLonger told limit n = (limit < n) × ((bytes : List ℕ) × (told ≡ Some bytes) × (length bytes ≡ n))

-- the bytes that the sink has taken
abbrev pub text_of : MemorySink → List ℕ
text_of sink = sink.written.items

-- how many bytes the sink still takes
abbrev pub left_of : MemorySink → ℕ
left_of sink = sink.room - vec_len sink.written

-- the numbers of the puts that fail
abbrev pub put_fails_of : MemorySink → List ℕ
put_fails_of sink = sink.fails.items

-- how many puts there were, up to the count's end: the number of the next one
abbrev pub put_count : MemorySink → ℕ
put_count sink = sink.calls

-- how often the sink has failed
abbrev pub put_fault_count : MemorySink → ℕ
put_fault_count sink = sink.faults

-- the next put of the sink fails
abbrev pub PutFailsNext : MemorySink → Type 0
PutFailsNext sink = Contains (put_fails_of sink) (put_count sink)

-- one put more, by the same list, in the same room; past the count's end puts keep that number
pub record PutsOnce (old new : MemorySink) : Type 0 where
  pub list : put_fails_of new ≡ put_fails_of old
  pub calls : put_count new ≡ min (put_count old + 1) (2 ^ 64 - 1)
  pub room : left_of new + length (text_of new) ≡ left_of old + length (text_of old)
