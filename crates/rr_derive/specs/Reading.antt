-- parts of the reader: what stands at the head of a text, and what follows
use Rattle.std.specs.Prelude.{◌≡◌, ◌<◌, ◌≤◌, ⊤, All, ℕ, Bool, List, [], ◌∷◌, ◌++◌, Option, None, Some, codes, decimal, map, Result, MatchResult}
use Rattle.std.specs.List.{flat_map, list_any}
use Rattle.rr_cnf.specs.Clauses.{Literal}
use Rattle.rr_cnf.specs.Dimacs.{literal_text}
use Rattle.rr_derive.specs.Derive.{Proof, Step}
use Rattle.rr_derive.specs.Lrat.{AreNumbers, AreSigned, IsAddition, IsBad, IsDeletion, IsNoLine, IsNumber, IsRat, Keeps, positive}
use Rattle.rr_derive.specs.declared.read.Entry.{Entry}
use Rattle.rr_derive.specs.declared.read.Entry.TheVariants.{Addition, Deletion, Rat, Bad}
use Rattle.rr_derive.specs.declared.read.LineFault.{LineFault}
use Rattle.rr_derive.specs.declared.read.LineFault.TheVariants.{Bad as BadLine, Rat as RatAt, Memory as NoMemory}
use Rattle.rr_derive.specs.declared.read.ProofFault.{ProofFault}
use Rattle.rr_derive.specs.declared.read.ProofFault.TheVariants.{Memory}

-- no number, and no number with a sign, with a blank behind it
abbrev pub IsNumberless : List ℕ → Type 0
IsNumberless text = (n : ℕ) (rest : List ℕ) → IsNumber n → text ≡ literal_text (positive n) ++ rest → ⊥

abbrev pub IsEnd : List ℕ → Type 0
IsEnd text = (l : Literal) (rest : List ℕ) → IsNumber l.var → text ≡ literal_text l ++ rest → ⊥

abbrev pub id_texts : List ℕ → List ℕ
id_texts ids = flat_map (λ n. literal_text (positive n)) ids

abbrev pub id_text : ℕ → List ℕ
id_text id = decimal id ++ codes " "

-- all literals at the head
pub record LiteralsAre (text : List ℕ) (lits : List Literal) (rest : List ℕ) : Type 0 where
  pub fit : AreSigned lits
  pub text_is : text ≡ flat_map literal_text lits ++ rest
  pub end : IsEnd rest

-- all hints at the head, without their signs
pub record HintsAre (text : List ℕ) (vars : List ℕ) (negative : Bool) (rest : List ℕ) : Type 0 where
  pub hints : List Literal
  pub fit : AreSigned hints
  pub vars_are : map (λ l. l.var) hints ≡ vars
  pub sign : list_any (λ l. l.negative) hints ≡ negative
  pub text_is : text ≡ flat_map literal_text hints ++ rest
  pub end : IsEnd rest

-- all numbers at the head
pub record NumbersEnd (text : List ℕ) (rest : List ℕ) : Type 0 where
  pub ids : List ℕ
  pub fit : AreNumbers ids
  pub text_is : text ≡ id_texts ids ++ rest
  pub end : IsNumberless rest

-- the ids of a deletion, and the line's end
pub record AreIds (text : List ℕ) (rest : List ℕ) : Type 0 where
  pub ids : List ℕ
  pub fit : AreNumbers ids
  pub text_is : text ≡ id_texts ids ++ (codes "0\n" ++ rest)

abbrev pub NoIds : List ℕ → Type 0
NoIds text = (rest : List ℕ) → AreIds text rest → ⊥

abbrev pub IsNoDeletion : List ℕ → Type 0
IsNoDeletion text = (rest : List ℕ) → text ≡ codes "d " ++ rest → ⊥

-- what a text begins with
abbrev pub EntryIs : List ℕ → Entry → Type 0
EntryIs text (Addition line rest) = IsAddition text line rest.now
EntryIs text (Deletion rest) = IsDeletion text rest.now
EntryIs text Rat = IsRat text
EntryIs text Bad = IsNoLine text

-- the text begins with a line that is taken
abbrev pub GoesOn : ℕ → ℕ → List ℕ → Option Step → List ℕ → Type 0
GoesOn last vars text None rest = IsDeletion text rest
GoesOn last vars text (Some s) rest = IsAddition text s rest × Keeps last vars s

-- .. with one that is not
abbrev pub StopsAt : ℕ → ℕ → List ℕ → LineFault → Type 0
StopsAt last vars text BadLine = IsBad vars last text
StopsAt last vars text RatAt = IsRat text
StopsAt last vars text NoMemory = ⊤

-- the step may stand behind the lines
abbrev pub MayKeep : Proof → Option Step → Type 0
MayKeep p None = ⊤
MayKeep p (Some s) = (p.first ≤ s.id) × All (λ t. t.id < s.id) p.lines

-- the lines with the step, and the greatest id then
abbrev pub KeptBy : Proof → Proof → ℕ → Option Step → ℕ → Type 0
KeptBy old new last None now = (new ≡ old) × (now ≡ last)
KeptBy old new last (Some s) now = (new ≡ record { first = old.first; lines = old.lines ++ s ∷ [] }) × (now ≡ s.id)

-- a text is read as this proof, but for want of memory
abbrev pub ReadsAs : Result Proof ProofFault → Proof → Type 0
ReadsAs r p = MatchResult r (λ q. q ≡ p) (λ e. e ≡ Memory)
