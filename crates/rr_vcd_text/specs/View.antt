-- What the reader's values stand for as plain data.
use Rattle.std.specs.Prelude.{ℕ, ◌+◌, ◌≡◌, ◌≤◌, ◌⊎◌, ◌++◌, ◌∷◌, List, [], length, map, Bool, Option, Some, None}
use Rattle.rr_vcd_text.specs.declared.fault.DumpFault.{DumpFault}
use Rattle.rr_vcd_text.specs.declared.fault.DumpFault.TheVariants as fault
use Rattle.rr_vcd_text.specs.declared.words.Word.{Word}
use Rattle.rr_vcd_text.specs.declared.words.Words.{Words}
use Rattle.rr_vcd_text.specs.declared.declared.Variable.{Variable}
use Rattle.rr_vcd_text.specs.declared.declared.Declared.{Declared}
use Rattle.rr_vcd_text.specs.declared.head.Head.{Head}
use Rattle.rr_vcd_text.specs.declared.body.Told.{Told}
use Rattle.rr_vcd_text.specs.declared.body.Told.TheVariants as tells
use Rattle.rr_vcd_text.specs.declared.body.Begin.{Begin}
use Rattle.rr_vcd_text.specs.declared.body.Begin.TheVariants as begins
use Rattle.rr_vcd_text.specs.declared.body.Changes.{Changes}
use Rattle.rr_vcd_text.specs.Words as text
use Rattle.rr_vcd_text.specs.Dump as dump
use Rattle.rr_vcd_text.specs.Rooms.{number_at, room_of, is_within, some_room}
use Rattle.rr_vcd_text.specs.Steps as step
use Rattle.rr_vcd_text.specs.Breaks.{IsBadAt, IsBody, IsRest, AreWhole, IsBrokenAt}

abbrev pub plain_word : Word → text.Word
plain_word w = record { text = w.text.now; line = w.line }

-- the words that are left
abbrev pub left : Words → List text.Word
left w = text.words_from (w.above + 1) [] w.rest.now

-- the line of the last word of all, those that were read among them
abbrev pub final : Words → ℕ
final w = text.last_line w.last (left w)

abbrev pub plain_variable : Variable → dump.Variable
plain_variable v = record { id = v.id.now; size = v.size; scope = v.scope; name = v.name.now }

abbrev pub plain_declared : Declared → dump.Declared
plain_declared d = record { scopes = d.scopes; opened = d.opened.items; variables = map plain_variable d.variables.items }

abbrev pub plain_told : Told → dump.Told
plain_told tells.Nothing = dump.Nothing
plain_told (tells.Moment n) = dump.Moment n
plain_told (tells.Change id digits) = dump.Change id.now digits.now
plain_told tells.Off = dump.Off

abbrev pub plain_begin : Begin → step.Begin
plain_begin (begins.Whole t) = step.Whole (plain_told t)
plain_begin begins.Remark = step.Remark
plain_begin (begins.Vector digits) = step.Vector digits.now
plain_begin begins.Other = step.Other
plain_begin begins.Bad = step.Bad

-- a step does not succeed; want of memory may come in place of any answer
abbrev pub Fails : step.Step → DumpFault → Type 0
Fails s e = (e ≡ fault.Memory) ⊎ ((line : ℕ) × ((e ≡ fault.BadVcd line) × ((s ≡ step.Broken line) ⊎ (s ≡ step.Unended line))))

-- the text breaks the form there, or memory is wanting
abbrev pub Refuses : List ℕ → DumpFault → Type 0
Refuses bytes e = (e ≡ fault.Memory) ⊎ ((line : ℕ) × ((e ≡ fault.BadVcd line) × IsBadAt bytes line))

-- a reader of the head of a text: each dump that the words left make behind what was declared, each break of the form in
-- them, and an end without the head's, is one of the text
pub record IsHeading (bytes : List ℕ) (h : Head) : Type 0 where
  pub final : final h.words ≡ text.last_line 1 (text.words bytes)
  pub good : (e : dump.Declared) (ts : List dump.Told) → dump.IsDumpFrom (plain_declared h.declared) (left h.words) e ts → dump.IsDump bytes e ts
  pub bad : (line : ℕ) → IsBrokenAt (AreWhole (plain_declared h.declared)) (IsRest (plain_declared h.declared)) (left h.words) line → IsBadAt bytes line
  pub bare : (e : dump.Declared) → dump.Head (plain_declared h.declared) (left h.words) e → (line : ℕ) → line ≡ text.last_line 1 (text.words bytes) → IsBadAt bytes line

-- behind the head: each body that the words left make, and each break of the form in them, is one of the text
pub record IsHeaded (bytes : List ℕ) (h : Head) : Type 0 where
  pub good : (ts : List dump.Told) → dump.Body (plain_declared h.declared) None (left h.words) ts → dump.IsDump bytes (plain_declared h.declared) ts
  pub bad : (line : ℕ) → IsBrokenAt (IsBody (plain_declared h.declared) None) (IsBody (plain_declared h.declared) None) (left h.words) line → IsBadAt bytes line

-- the rooms of a reader are those of the variables
pub record AreRooms (vs : List dump.Variable) (c : Changes) : Type 0 where
  pub rooms : (id : List ℕ) → number_at id c.rooms ≡ room_of vs id
  pub most : (digits : ℕ) → is_within c.most digits ≡ some_room vs digits

-- only the words have changed, of which there are no more than before
pub record SameReader (old new : Changes) : Type 0 where
  pub last : new.last ≡ old.last
  pub rooms : new.rooms ≡ old.rooms
  pub most : new.most ≡ old.most
  pub fewer : length new.words.rest.now ≤ length old.words.rest.now

-- how many bytes are left: each construct takes some
abbrev pub bytes_left : Changes → ℕ
bytes_left c = length c.words.rest.now

-- a reader of the body of a text whose head declares this: so much was told, and each dump that the words left make, and
-- each break of the form in them, is one of the text
pub record IsReading (bytes : List ℕ) (d : dump.Declared) (told : List dump.Told) (c : Changes) : Type 0 where
  pub rooms : AreRooms d.variables c
  pub good : (ts : List dump.Told) → dump.Body d c.last (left c.words) ts → dump.IsDump bytes d (told ++ ts)
  pub bad : (line : ℕ) → IsBrokenAt (IsBody d c.last) (IsBody d c.last) (left c.words) line → IsBadAt bytes line
