-- How many digits a change of an identifier may have: the least size of its variables.
use Rattle.std.specs.Prelude.{ℕ, min, List, [], ◌∷◌, Bool, false, Option, Some, None, nat_le, if◌then◌else◌}
use Rattle.std.specs.List.{list_any}
use Rattle.std.specs.Str.{bytes_eq}
use Rattle.rr_vcd_text.specs.Dump.{Variable, has_room}

abbrev pub narrowed : Option ℕ → ℕ → Option ℕ
narrowed None size = Some size
narrowed (Some room) size = Some (min room size)

-- the room of an identifier behind a first room, where there is one
unfoldable pub room_from : Option ℕ → List ℕ → List Variable → Option ℕ
room_from room id [] = room
room_from room id (v ∷ vs) = room_from (if bytes_eq id v.id then narrowed room v.size else room) id vs

abbrev pub room_of : List Variable → List ℕ → Option ℕ
room_of vs id = room_from None id vs

-- so many digits have room
abbrev pub is_within : Option ℕ → ℕ → Bool
is_within None digits = false
is_within (Some room) digits = nat_le digits room

-- some identifier has room for so many digits
abbrev pub some_room : List Variable → ℕ → Bool
some_room vs digits = list_any (λ v. is_within (room_of vs v.id) digits) vs

-- the number of a name in a list of names with numbers
unfoldable pub number_at : List ℕ → List (List ℕ × ℕ) → Option ℕ
number_at name [] = None
number_at name (e ∷ es) = if bytes_eq name e.0 then Some e.1 else number_at name es
