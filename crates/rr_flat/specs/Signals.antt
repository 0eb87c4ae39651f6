-- Signals and names as plain data (IEEE 1364-2005 sections 3.2, 3.3 and 12.3.3).
use Rattle.std.specs.Prelude.{ℕ, Bool, false, List, [], ◌∷◌, ◌++◌, Option, None, is_some, if◌then◌else◌, slice_index_or}
use Rattle.rr_expr.specs.Scopes.{Names, lookup}
use Rattle.rr_expr.specs.declared.types.Entity.{Entity}
use Rattle.rr_flat.specs.declared.signal.Port.{Port}
use Rattle.rr_flat.specs.declared.signal.Port.TheVariants.{Inner}

abbrev pub Text : Type 0
Text = List ℕ

-- `start` is the starting value of the declaration, 0 where it has none (section 6.2.1); `word` is the declared index of a word
-- of a memory (section 4.9.3), of any other signal none
pub record Signal : Type 0 where
  pub instance : ℕ
  pub name : Text
  pub variable : Bool
  pub port : Port
  pub range : Option (ℕ × ℕ)
  pub signed : Bool
  pub width : ℕ
  pub token : ℕ
  pub start : ℕ
  pub word : Option ℕ

-- what stands where there is none
abbrev pub no_signal : Signal
no_signal = record { instance = 0; name = []; variable = false; port = Inner; range = None; signed = false; width = 1; token = 0; start = 0; word = None }

abbrev pub signal_at : List Signal → ℕ → Signal
signal_at signals id = slice_index_or signals id no_signal

-- a name goes last, if it is new
abbrev pub with_name : Names → Text → Entity → Names
with_name names name entity = if is_some (lookup name names) then names else names ++ (name, entity) ∷ []
