-- A file with edits of its expansion made in the file itself.
use Rattle.std.specs.Prelude.{ℕ, ◌+◌, ◌-◌, ◌==◌, ◌&&◌, nat_lt, Bool, true, List, [], ◌∷◌, ◌++◌, take, drop, get_or, if◌then◌else◌}
use Rattle.std.specs.List.{list_any}
use Rattle.rr_directive.specs.declared.origin.Origin.{Origin}
use Rattle.rr_directive.specs.Places.{no_origin, offset_at}
use Rattle.rr_edit.specs.Edits.{Edit}

abbrev pub exact_at : List Origin → ℕ → Bool
exact_at origins k = (get_or origins k no_origin).exact

-- the origins of the bytes that an edit replaces
abbrev pub replaced : List Origin → Edit → List Origin
replaced origins e = take (e.to - e.from) (drop e.from origins)

-- whether an origin, if there is another behind it, is that of the byte before its byte in the file
abbrev pub is_next : Origin → List Origin → Bool
is_next o [] = true
is_next o (p ∷ os) = p.offset == o.offset + 1

-- exact bytes that stand in the file as in the text, one directly behind the other
unfoldable pub adjoin : List Origin → Bool
adjoin [] = true
adjoin (o ∷ os) = o.exact && (is_next o os && adjoin os)

-- An edit lifts where all bytes that it replaces are exact and stand in the file without others between them, and, where it
-- replaces none, the byte before it is exact.
abbrev pub lifts : List Origin → Edit → Bool
lifts origins e = nat_lt 0 e.to && (exact_at origins (e.to - 1) && adjoin (replaced origins e))

-- the byte at this place of the file is replaced by an edit
abbrev pub replaces : List Origin → ℕ → Edit → Bool
replaces origins at e = list_any (λ o. o.offset == at) (replaced origins e)

-- at this place of the file stands the last byte that an edit replaces, or, where it replaces none, the byte before it
abbrev pub is_anchor : List Origin → ℕ → Edit → Bool
is_anchor origins at e = offset_at origins (e.to - 1) == at

-- the texts of the edits that are put there
unfoldable pub texts_at : List Origin → ℕ → List Edit → List ℕ
texts_at origins at [] = []
texts_at origins at (e ∷ es) = (if is_anchor origins at e then e.text else []) ++ texts_at origins at es

-- The bytes of the file from a place on, without those that edits replace, and with the text of each edit at the place of the last
-- byte that it replaces, or directly behind the byte before it.
unfoldable pub lifted : List Origin → List Edit → ℕ → List ℕ → List ℕ
lifted origins es at [] = []
lifted origins es at (b ∷ bs) = (if list_any (replaces origins at) es then [] else b ∷ []) ++ (texts_at origins at es ++ lifted origins es (at + 1) bs)
