-- the text of a proof, and the grammar of such texts line by line (LRAT: L. Cruz-Filipe,
-- M. J. H. Heule, W. A. Hunt, M. Kaufmann, P. Schneider-Kamp, "Efficient certified RAT
-- verification", 2017), where RAT lines are told and not taken
use Rattle.std.specs.Prelude.{◌≡◌, ◌≢◌, ◌⊎◌, ⊤, ℕ, ◌+◌, ◌^◌, ◌<◌, ◌≤◌, true, false, All, List, [], ◌∷◌, ◌++◌, Contains, codes, decimal, length, map, slice_index_or, take}
use Rattle.std.specs.List.{AllByRecursion, flat_map}
use Rattle.rr_cnf.specs.Clauses.{Clauses, IsWithin, Literal, negated}
use Rattle.rr_cnf.specs.Dimacs.{literal_text}
use Rattle.rr_derive.specs.Derive.{Derives, IsNoTautology, IsRising, Names, Proof, Step}
use Rattle.rr_derive.specs.declared.read.ProofFault.{ProofFault}
use Rattle.rr_derive.specs.declared.read.ProofFault.TheVariants.{BadProof, RatLine, Memory}

-- ---- lines, without their ends

-- a number of a proof: not 0, and below 2^62
abbrev pub IsNumber : ℕ → Type 0
IsNumber n = (1 ≤ n) × (n < 2 ^ 62)

abbrev pub AreNumbers : List ℕ → Type 0
AreNumbers ns = AllByRecursion IsNumber ns

-- numbers with signs
abbrev pub AreSigned : List Literal → Type 0
AreSigned ls = AllByRecursion (λ l. IsNumber l.var) ls

abbrev pub positive : ℕ → Literal
positive n = record { var = n; negative = false }

-- `id literals 0 hints 0`, with single blanks
abbrev pub addition_line : ℕ → List Literal → List Literal → List ℕ
addition_line id c hints = decimal id ++ (codes " " ++ (flat_map literal_text c ++ (codes "0 " ++ (flat_map literal_text hints ++ codes "0"))))

-- `id d ids 0`
abbrev pub deletion_line : ℕ → List ℕ → List ℕ
deletion_line id ids = decimal id ++ (codes " " ++ (codes "d " ++ (flat_map (λ n. literal_text (positive n)) ids ++ codes "0")))

-- the line with its end, and what follows
abbrev pub Starts : List ℕ → List ℕ → List ℕ → Type 0
Starts text line rest = text ≡ line ++ (10 ∷ rest)

-- ---- the text of a proof

abbrev pub step_line : Step → List ℕ
step_line s = addition_line s.id s.clause (map positive s.hints)

abbrev pub lrat : Proof → List ℕ
lrat p = flat_map (λ s. step_line s ++ codes "\n") p.lines

-- ---- the grammar

-- the text begins with an addition without a negative hint
pub record IsAddition (text : List ℕ) (s : Step) (rest : List ℕ) : Type 0 where
  pub id : IsNumber s.id
  pub literals : AreSigned s.clause
  pub hints : AreNumbers s.hints
  pub starts : Starts text (step_line s) rest

pub record IsDeletion (text : List ℕ) (rest : List ℕ) : Type 0 where
  pub id : ℕ
  pub ids : List ℕ
  pub id_fits : IsNumber id
  pub ids_fit : AreNumbers ids
  pub starts : Starts text (deletion_line id ids) rest

-- the text begins with an addition that has a negative hint
pub record IsRat (text : List ℕ) : Type 0 where
  pub id : ℕ
  pub clause : List Literal
  pub hints : List Literal
  pub rest : List ℕ
  pub id_fits : IsNumber id
  pub literals : AreSigned clause
  pub signed : AreSigned hints
  pub negative : (l : Literal) × (Contains hints l × (l.negative ≡ true))
  pub starts : Starts text (addition_line id clause hints) rest

-- the text begins with no line of the grammar
pub record IsNoLine (text : List ℕ) : Type 0 where
  pub no_addition : (s : Step) (rest : List ℕ) → IsAddition text s rest → ⊥
  pub no_deletion : (rest : List ℕ) → IsDeletion text rest → ⊥
  pub no_rat : IsRat text → ⊥

abbrev pub HasVariableAbove : ℕ → List Literal → Type 0
HasVariableAbove vars c = (l : Literal) × (Contains c l × (vars < l.var))

abbrev pub HasBothSigns : List Literal → Type 0
HasBothSigns c = (l : Literal) × (Contains c l × Contains c (negated l))

-- what an addition may not be: one whose id is not above all ids before it, those of the formula
-- too, whose variables exceed the formula's, or whose clause has a literal and its negation
abbrev pub BreaksRule : ℕ → ℕ → Step → Type 0
BreaksRule last vars s =
    (s.id ≤ last) ⊎ (HasVariableAbove vars s.clause ⊎ HasBothSigns s.clause)

-- an addition that breaks none of these rules
pub record Keeps (last vars : ℕ) (s : Step) : Type 0 where
  pub above : last < s.id
  pub within : AllByRecursion (λ l. l.var ≤ vars) s.clause
  pub no_tautology : IsNoTautology s.clause

-- the text's first lines are these additions, and deletions; before the rest the greatest id is end
-- and so many lines stand
pub data Read (vars end count : ℕ) (rest : List ℕ) : ℕ → ℕ → List ℕ → List Step → Type 0 where
  here : (last : ℕ) (n : ℕ) (text : List ℕ) → last ≡ end → n ≡ count → text ≡ rest → Read vars end count rest last n text []
  deleted : (last : ℕ) (n : ℕ) (text after : List ℕ) (steps : List Step) → IsDeletion text after
      → Read vars end count rest last (n + 1) after steps → Read vars end count rest last n text steps
  added : (last : ℕ) (n : ℕ) (text after : List ℕ) (s : Step) (steps : List Step) → IsAddition text s after → Keeps last vars s
      → Read vars end count rest s.id (n + 1) after steps → Read vars end count rest last n text (s ∷ steps)

-- the bytes are lines of the grammar alone, with these additions
pub record IsProofText (clauses vars : ℕ) (bytes : List ℕ) (steps : List Step) : Type 0 where
  pub last : ℕ
  pub count : ℕ
  pub read : Read vars last count [] clauses 0 bytes steps

-- the first bad line is the n-th, counted from 1, and these bytes begin with it
pub record IsFirstBad (clauses vars : ℕ) (bytes : List ℕ) (n : ℕ) (bad : ℕ → List ℕ → Type 0) : Type 0 where
  pub last : ℕ
  pub count : ℕ
  pub rest : List ℕ
  pub steps : List Step
  pub read : Read vars last count rest clauses 0 bytes steps
  pub place : n ≡ count + 1
  pub more : rest ≢ []
  pub bad_line : bad last rest

-- no line of the grammar, or an addition that breaks a rule
abbrev pub IsBad : ℕ → ℕ → List ℕ → Type 0
IsBad vars last text = IsNoLine text ⊎ ((s : Step) × ((rest : List ℕ) × (IsAddition text s rest × BreaksRule last vars s)))

-- why no journal was read
abbrev pub IsCause : ℕ → ℕ → List ℕ → ProofFault → Type 0
IsCause clauses vars bytes (BadProof n) = IsFirstBad clauses vars bytes n (IsBad vars)
IsCause clauses vars bytes (RatLine n) = IsFirstBad clauses vars bytes n (λ last. IsRat)
IsCause clauses vars bytes Memory = ⊤

-- ---- reading back

-- steps that a text can hold, with ids that rise from above last
abbrev pub AreKept : ℕ → ℕ → List Step → Type 0
AreKept last vars [] = ⊤
AreKept last vars (s ∷ ss) = IsNumber s.id × (AreSigned s.clause × (AreNumbers s.hints × (Keeps last vars s × AreKept s.id vars ss)))

-- a proof over a formula with so many clauses and variables whose text is a proof text
pub record IsReadable (clauses vars : ℕ) (p : Proof) : Type 0 where
  pub first : p.first ≡ clauses + 1
  pub kept : AreKept clauses vars p.lines

-- each hint of each line names a clause of the formula or of a line before
abbrev pub AreHinted : List (List Literal) → List Step → Type 0
AreHinted formula lines = (k : ℕ) (d : Step) → k < length lines → All (λ h. (c : List Literal) × Names formula (take k lines) h c) (slice_index_or lines k d).hints

-- lines over a formula that have a text: their ids rise above the formula's and are numbers of a proof, their literals are
-- the formula's, and their hints name clauses before them
pub record AreWritable (f : Clauses) (lines : List Step) : Type 0 where
  pub rising : IsRising lines
  pub above : All (λ s. length f.clauses < s.id) lines
  pub numbers : All (λ s. s.id < 2 ^ 62) lines
  pub within : All (λ s. All (IsWithin f.vars) s.clause) lines
  pub hinted : AreHinted f.clauses lines

-- ---- laws

-- the text of such lines, where each passes the hint check, is a proof text of them
abbrev pub WrittenIsRead : Type 0
WrittenIsRead = (f : Clauses) (p : Proof) → f.vars < 2 ^ 62 → Derives f.clauses p.lines → AreWritable f p.lines → IsProofText (length f.clauses) f.vars (lrat p) p.lines

-- no bytes have two proofs
abbrev pub OneProof : Type 0
OneProof = (clauses vars : ℕ) (bytes : List ℕ) (a b : List Step) → IsProofText clauses vars bytes a → IsProofText clauses vars bytes b → a ≡ b

-- no bytes have both a proof and a first bad line
abbrev pub ProofOrFault : Type 0
ProofOrFault = (clauses vars : ℕ) (bytes : List ℕ) (steps : List Step) (f : ProofFault) → IsProofText clauses vars bytes steps → IsCause clauses vars bytes f → f ≡ Memory

-- no bytes have two first bad lines
abbrev pub OneFault : Type 0
OneFault = (clauses vars : ℕ) (bytes : List ℕ) (f g : ProofFault) → IsCause clauses vars bytes f → IsCause clauses vars bytes g → (f ≡ g) ⊎ ((f ≡ Memory) ⊎ (g ≡ Memory))
