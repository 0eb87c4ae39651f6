-- The records that a reader has yet to give.
use Rattle.std.specs.Prelude.{ℕ, ◌+◌, ◌≡◌, List, [], ◌∷◌, Bool, true, false, length, Some, Option}
use denote.Ref.{Bor}
use Rattle.csv.specs.Reading.{Ready, default_config, records_from, source_of}
use Rattle.csv.specs.declared.reader.Reader.{Reader}
use Rattle.csv.specs.declared.reader.Trim.TheVariants as trim
use Rattle.rr_trace.specs.Names.{Text}

abbrev pub ByteReader : Type 0
ByteReader = Reader (Bor (List ℕ))

pub record IsComing (r : ByteReader) (coming : List (List Text)) : Type 0 where
  pub plain : r.trim ≡ trim.None
  pub ready : Ready r
  pub config : r.config ≡ default_config
  pub left : List ℕ
  pub source : source_of (λ s. Some s.now) r ≡ Some left
  pub records : coming ≡ records_from default_config (length left + 1) r.state left

-- the next record is the first of them, where there is one
unfoldable pub Follows : Bool → List Text → ByteReader → List (List Text) → Type 0
Follows false fields r coming = coming ≡ []
Follows true fields r coming = (rest : List (List Text)) × ((coming ≡ fields ∷ rest) × IsComing r rest)
