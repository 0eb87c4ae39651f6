-- A source in which two faults of combinational blocks are mended: each `<=` that assigns becomes `=`, and a block clears the
-- variables that it would keep (IEEE 1364-2005 sections 9.2.1, 9.2.2 and 9.9.2). A source of which a block would keep a memory is not
-- mended: no assignment clears one (section 4.9.3).
use Rattle.std.specs.Prelude.{◌≡◌, ◌<◌, ℕ, Bool, true, not, List, [], ◌∷◌, length, map, None}
use Rattle.std.specs.List.{filter, list_any}
use Rattle.std.specs.Str.{bytes_eq}
use Rattle.rr_syntax.specs.Tree.{Name, Literal, Statement, Statements, Block, Assign, Done, Then, SourceText}
use Rattle.rr_lex.specs.Numbers.{plain_literal}
use Rattle.rr_expr.specs.declared.types.Bit.{Bit}
use Rattle.rr_expr.specs.Scopes.{meant}
use Rattle.rr_flat.specs.Plain.{Flat}
use Rattle.rr_flat.specs.Reads.{assigned_by}
use Rattle.rr_flat.specs.Targets.{is_bit_of, is_memory, part_name}
use Rattle.rr_flat.specs.Writers.{block_at, scope_at}
use Rattle.rr_instance.specs.Instances.{fresh}
use Rattle.rr_latch.specs.Immediate.{immediate}
use Rattle.rr_latch.specs.Unassigned.{KeepsBit}
use Rattle.rr_body_laws.specs.Bodies.{source_with}
use Rattle.rr_lint_laws.specs.Ever.{ever_names}

-- the names that a body of a flat design assigns, whole or in part, in the order of the text
abbrev pub target_names : Statement → List (List ℕ)
target_names body = map (λ a. part_name a.part) (assigned_by body)

-- each name once, at its first place
unfoldable pub each_once : List (List ℕ) → List (List ℕ)
each_once [] = []
each_once (name ∷ names) = name ∷ filter (λ other. not (bytes_eq other name)) (each_once names)

-- `v = 0;`, with a plain decimal (section 3.5.1)
abbrev pub cleared : List ℕ → Statement
cleared name = Assign (Name fresh name) true (Literal fresh (plain_literal (48 ∷ [])))

unfoldable pub all_cleared : List (List ℕ) → Statement → Statements
all_cleared [] body = Then body Done
all_cleared (name ∷ names) body = Then (cleared name) (all_cleared names body)

-- `begin v = 0; .. S end`, where there are names
abbrev pub with_defaults : List (List ℕ) → Statement → Statement
with_defaults [] body = body
with_defaults (name ∷ names) body = Block None (all_cleared (name ∷ names) body)

-- which names the `always` with a token is to clear
abbrev pub Marks : Type 0
Marks = ℕ → List ℕ → Bool

-- those of its targets, in loops or not, in the order of the text
abbrev pub cleared_by : Marks → ℕ → Statement → List (List ℕ)
cleared_by marks token body = filter (marks token) (each_once (ever_names body))

abbrev pub mended_body : Marks → ℕ → Statement → Statement
mended_body marks token body = with_defaults (cleared_by marks token body) (immediate body)

-- in the block of some instance, which has this token, a bit of a variable that it assigns is kept where it assigns by `=` alone; its
-- loops are unfolded there (section 9.6), so that a loop that has no turn in that instance assigns nothing
pub record IsLatched (flat : Flat) (token : ℕ) (name : List ℕ) : Type 0 where
  pub block : ℕ
  pub inside : block < length flat.combinational
  pub is : (block_at flat.combinational block).token ≡ token
  pub target : list_any (bytes_eq name) (target_names (block_at flat.combinational block).body) ≡ true
  pub bit : Bit
  pub named : is_bit_of (meant (scope_at flat (block_at flat.combinational block).scope) name) bit ≡ true
  pub keeps : KeepsBit (scope_at flat (block_at flat.combinational block).scope) (immediate (block_at flat.combinational block).body) bit

-- these names, and no others
pub record MarkLatched (flat : Flat) (marks : Marks) : Type 0 where
  pub right : (token : ℕ) (name : List ℕ) → marks token name ≡ true → IsLatched flat token name
  pub all : (token : ℕ) (name : List ℕ) → IsLatched flat token name → marks token name ≡ true

-- a memory that a combinational block assigns keeps this bit where the block assigns by `=` alone: no assignment to a whole variable
-- clears it (section 4.9.3)
pub record IsWordLatch (flat : Flat) (block : ℕ) (bit : Bit) : Type 0 where
  pub name : List ℕ
  pub target : list_any (bytes_eq name) (target_names (block_at flat.combinational block).body) ≡ true
  pub memory : is_memory (meant (scope_at flat (block_at flat.combinational block).scope) name) ≡ true
  pub named : is_bit_of (meant (scope_at flat (block_at flat.combinational block).scope) name) bit ≡ true
  pub keeps : KeepsBit (scope_at flat (block_at flat.combinational block).scope) (immediate (block_at flat.combinational block).body) bit

abbrev pub KeepsNoWord : Flat → ℕ → Type 0
KeepsNoWord flat block = (bit : Bit) → IsWordLatch flat block bit → ⊥

-- no block keeps a bit of a memory
abbrev pub NoWordLatches : Flat → Type 0
NoWordLatches flat = (k : ℕ) → k < length flat.combinational → KeepsNoWord flat k

-- the first block that keeps a bit of a memory, given by the token of its `always`
pub record IsFirstWordLatch (flat : Flat) (bit : Bit) (token : ℕ) : Type 0 where
  pub block : ℕ
  pub inside : block < length flat.combinational
  pub is : token ≡ (block_at flat.combinational block).token
  pub latch : IsWordLatch flat block bit
  pub before : (k : ℕ) → k < block → KeepsNoWord flat k

-- the source, of which this is the flat design, with both faults mended in the modules that have instances
pub record IsLint (source : SourceText) (flat : Flat) (mended : SourceText) : Type 0 where
  pub marks : Marks
  pub latched : MarkLatched flat marks
  pub words : NoWordLatches flat
  pub is : mended ≡ source_with flat.reached (mended_body marks) source
