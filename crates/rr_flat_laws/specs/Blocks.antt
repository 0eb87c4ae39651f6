-- The blocks of an instance (IEEE 1364-2005 sections 9.6, 9.7 and 9.9.2).
use Rattle.std.specs.Prelude.{◌≡◌, ℕ, ◌<◌, Bool, List, [], ◌∷◌, length, nat_eq, All}
use Rattle.std.specs.List.{filter, flat_map}
use Rattle.rr_syntax.specs.Tree.{Statement, EventControl, Star, Edges, Levels, ModuleItem, Ports, Nets, Variables, Integers, Parameters, Assigns, Always, Initial, Instances, SourceText}
use Rattle.rr_flat.specs.Plain.{Block, Flat}
use Rattle.rr_flat.specs.Writers.{scope_at}
use Rattle.rr_unfold.specs.Unfold.{unfold_statement}
use Rattle.rr_flat_laws.specs.Names.{module_of}

-- a statement as it stands in instance i: each of its loops is the block of its turns (section 9.6)
abbrev pub unfolded_at : Flat → ℕ → Statement → Statement
unfolded_at flat i body = unfold_statement (scope_at flat i) [] body

-- an `always` of instance i that runs at edges
abbrev pub at_edges : ℕ → EventControl → Statement → ℕ → List Block
at_edges i (Star brackets) s at = []
at_edges i (Edges list commas) s at = record { body = s; edges = list; scope = i; token = at } ∷ []
at_edges i (Levels list commas) s at = []

-- one that runs where a value changes
abbrev pub at_changes : ℕ → EventControl → Statement → ℕ → List Block
at_changes i (Star brackets) s at = record { body = s; edges = []; scope = i; token = at } ∷ []
at_changes i (Edges list commas) s at = []
at_changes i (Levels list commas) s at = record { body = s; edges = []; scope = i; token = at } ∷ []

-- the clocked blocks of an item of instance i, and the combinational ones
abbrev pub clocked_by : Flat → ℕ → ModuleItem → List Block
clocked_by flat i (Ports p) = []
clocked_by flat i (Nets signed range list) = []
clocked_by flat i (Variables signed range list) = []
clocked_by flat i (Integers list) = []
clocked_by flat i (Parameters p) = []
clocked_by flat i (Assigns pairs) = []
clocked_by flat i (Always events body token) = at_edges i events (unfolded_at flat i body) token
clocked_by flat i (Initial body token) = []
clocked_by flat i (Instances m token overrides list) = []

abbrev pub combinational_by : Flat → ℕ → ModuleItem → List Block
combinational_by flat i (Ports p) = []
combinational_by flat i (Nets signed range list) = []
combinational_by flat i (Variables signed range list) = []
combinational_by flat i (Integers list) = []
combinational_by flat i (Parameters p) = []
combinational_by flat i (Assigns pairs) = []
combinational_by flat i (Always events body token) = at_changes i events (unfolded_at flat i body) token
combinational_by flat i (Initial body token) = []
combinational_by flat i (Instances m token overrides list) = []

abbrev pub is_block_of : ℕ → Block → Bool
is_block_of i b = nat_eq b.scope i

-- each `always` of each instance is one block, in the order of the text, and there are no others
pub record AreBlocks (source : SourceText) (flat : Flat) : Type 0 where
  pub clocked : (i : ℕ) → i < length flat.owners → filter (is_block_of i) flat.clocked ≡ flat_map (clocked_by flat i) (module_of source flat i).items
  pub combinational : (i : ℕ) → i < length flat.owners → filter (is_block_of i) flat.combinational ≡ flat_map (combinational_by flat i) (module_of source flat i).items
  pub clocked_in : All (λ b. b.scope < length flat.owners) flat.clocked
  pub combinational_in : All (λ b. b.scope < length flat.owners) flat.combinational
