-- Variables that one clocked block writes at once and another reads (IEEE 1364-2005 sections 9.2.1 and 11.4).
use Rattle.std.specs.Prelude.{◌≡◌, ℕ, ◌+◌, List, [], ◌∷◌, ◌++◌, Bool, true, false, not, cond, ◌&&◌, Option, Some, None, nat_eq, get_or, map, flat_map}
use Rattle.std.specs.List.{list_any}
use Rattle.rr_syntax.specs.Tree.{Identifier}
use Rattle.rr_flat.specs.Plain.{Block, Flat}
use Rattle.rr_flat.specs.Reads.{Assigned, assigned_by, names_read}
use Rattle.rr_flat.specs.Targets.{part_name}
use Rattle.rr_text_names.specs.Names.{is_the, variable_named}
use Rattle.rr_assign.specs.declared.races.Writers.{Writers}
use Rattle.rr_assign.specs.declared.races.Writers.TheVariants.{Nobody, One, Several}

-- the targets of the clocked blocks: the number of the block, and the variable where it is assigned by `=`
abbrev pub written_by : Flat → ℕ → Assigned → Option ℕ
written_by flat i a = cond a.now (variable_named flat i (part_name a.part)) None

abbrev pub writer_of : Flat → ℕ → ℕ → Assigned → ℕ × Option ℕ
writer_of flat i k a = (k, written_by flat i a)

abbrev pub writers_of : Flat → ℕ → Block → List (ℕ × Option ℕ)
writers_of flat k b = map (writer_of flat b.scope k) (assigned_by b.body)

unfoldable pub writers_from : Flat → ℕ → List Block → List (ℕ × Option ℕ)
writers_from flat k [] = []
writers_from flat k (b ∷ bs) = writers_of flat k b ++ writers_from flat (k + 1) bs

-- a variable that a block other than this one writes so
abbrev pub is_other : ℕ → ℕ → ℕ × Option ℕ → Bool
is_other k id w = not (nat_eq w.0 k) && is_the id w.1

abbrev pub raced : List (ℕ × Option ℕ) → ℕ → Option ℕ → Bool
raced writers k None = false
raced writers k (Some id) = list_any (is_other k id) writers

-- the names that a clocked block reads of such variables, by their tokens
abbrev pub race_of : Flat → List (ℕ × Option ℕ) → ℕ → ℕ → Identifier → List ℕ
race_of flat writers k i n = cond (raced writers k (variable_named flat i n.text)) (n.token ∷ []) []

unfoldable pub races_from : Flat → List (ℕ × Option ℕ) → ℕ → List Block → List ℕ
races_from flat writers k [] = []
races_from flat writers k (b ∷ bs) = flat_map (race_of flat writers k b.scope) (names_read b.body) ++ races_from flat writers (k + 1) bs

abbrev pub races : Flat → List ℕ
races flat = races_from flat (writers_from flat 0 flat.clocked) 0 flat.clocked

-- what a table by signal says of it
abbrev pub raced_by : Writers → ℕ → Bool
raced_by Nobody k = false
raced_by (One j) k = not (nat_eq j k)
raced_by Several k = true

abbrev pub writer_table : List Writers → ℕ → Writers
writer_table table id = get_or table id Nobody

pub record HoldsWriters (writers : List (ℕ × Option ℕ)) (table : ℕ → Writers) : Type 0 where
  pub raced : (k id : ℕ) → raced_by (table id) k ≡ raced writers k (Some id)

-- the token of a name, where what the table says of its signal is a race
abbrev pub race_by : (ℕ → Writers) → ℕ → Option ℕ → ℕ → List ℕ
race_by table k None token = []
race_by table k (Some id) token = cond (raced_by (table id) k) (token ∷ []) []
