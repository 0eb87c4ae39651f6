-- The moments of a dump (IEEE 1364-2005 section 18.2.2), counted from 0: each begins with its time, and changes before the
-- first time belong to the first moment.
use Rattle.std.specs.Prelude.{ℕ, zero, suc, ◌-◌, List, [], ◌∷◌, length, fold, Bool, true, false, Option, Some, None, if◌then◌else◌}
use Rattle.std.specs.List.{filter, list_any}
use Rattle.std.specs.Str.{bytes_eq}
use Rattle.rr_vcd_text.specs.Dump.{Told, Nothing, Moment, Change, Off}

abbrev pub is_moment : Told → Bool
is_moment (Moment n) = true
is_moment Nothing = false
is_moment (Change id digits) = false
is_moment Off = false

abbrev pub is_off : Told → Bool
is_off Off = true
is_off Nothing = false
is_off (Moment n) = false
is_off (Change id digits) = false

-- how many moments begin
abbrev pub moments : List Told → ℕ
moments told = length (filter is_moment told)

-- what is told before the time that follows so many times
unfoldable pub before : ℕ → List Told → List Told
before k [] = []
before zero (t ∷ ts) = if is_moment t then [] else t ∷ before zero ts
before (suc k) (t ∷ ts) = t ∷ before (if is_moment t then k else suc k) ts

-- what is told up to the end of a moment
abbrev pub up_to : ℕ → List Told → List Told
up_to i told = before (suc i) told

-- the digits of an identifier behind a construct
abbrev pub changed : List ℕ → Option (List ℕ) → Told → Option (List ℕ)
changed id found (Change other digits) = if bytes_eq other id then Some digits else found
changed id found Nothing = found
changed id found (Moment n) = found
changed id found Off = found

-- the digits of the last change of an identifier, where there is one
abbrev pub last_change : List ℕ → List Told → Option (List ℕ)
last_change id told = fold (changed id) None told

-- what is told before values are first no longer dumped
unfoldable pub before_off : List Told → List Told
before_off [] = []
before_off (t ∷ ts) = if is_off t then [] else t ∷ before_off ts

-- how many moments have values: all, or those before the one in which the first `$dumpoff` stands (section 18.2.3.9)
abbrev pub valued : List Told → ℕ
valued told = if list_any is_off told then moments (before_off told) - 1 else moments told
