-- The targets that may not be assigned as they are (IEEE 1364-2005 sections 6.1, 9.2 and 12.3.9.2), by the tokens of
-- their names, in the order of the text.
use Rattle.std.specs.Prelude.{ℕ, List, [], ◌∷◌, ◌++◌, Bool, true, false, not, cond, ◌&&◌, Option, Some, None, nat_eq, flat_map}
use Rattle.std.specs.List.{list_all, range_with_len}
use Rattle.rr_syntax.specs.Expressions.{is_target}
use Rattle.rr_syntax.specs.Tree.{Tree, Statement}
use Rattle.rr_expr.specs.declared.types.Entity.{Entity}
use Rattle.rr_expr.specs.declared.types.Entity.TheVariants.{Constant, Signal as SignalEntity, Memory, Instance}
use Rattle.rr_expr.specs.Scopes.{meant}
use Rattle.rr_flat.specs.Signals.{signal_at}
use Rattle.rr_flat.specs.declared.design.Part as design
use Rattle.rr_flat.specs.Plain.{Side, Written, Whole, Driver, Block, Initial, Flat}
use Rattle.rr_flat.specs.Reads.{Assigned, assigned_by}
use Rattle.rr_flat.specs.Targets.{is_memory, target_parts, part_name, is_indexed, is_fixed}
use Rattle.rr_flat.specs.Writers.{scope_at}
use Rattle.rr_text_names.specs.Firsts.{walked}
use Rattle.rr_flat.specs.Parts.{driver_of, block_of, initial_of}
use Rattle.rr_text_names.specs.Names.{signal_named, part_token, is_input}

-- a continuous assignment drives a net that is no input, by constant indices
abbrev pub may_drive : Flat → Option ℕ → Bool → Bool
may_drive flat None fixed = false
may_drive flat (Some id) fixed = not (signal_at flat.signals id).variable && (not (is_input (signal_at flat.signals id).port) && fixed)

-- a variable that is no input
abbrev pub is_free : Flat → ℕ → Bool
is_free flat id = (signal_at flat.signals id).variable && not (is_input (signal_at flat.signals id).port)

-- a procedural one and an `initial` item assign such a variable, or a memory whose words all are such (section 4.9.3)
abbrev pub may_assign : Flat → Entity → Bool
may_assign flat (Constant bits signed) = false
may_assign flat (SignalEntity id range signed) = is_free flat id
may_assign flat (Memory first low words range signed) = list_all (is_free flat) (range_with_len first words)
may_assign flat Instance = false

-- an `initial` item assigns a memory by an index, and anything else without one
abbrev pub is_started : Entity → Bool → Bool
is_started e indexed = cond (is_memory e) indexed (not indexed)

-- the same, of an `initial` item where that is true
abbrev pub may_set : Bool → Flat → Entity → Bool → Bool
may_set false flat e indexed = may_assign flat e
may_set true flat e indexed = may_assign flat e && is_started e indexed

abbrev pub unless : Bool → ℕ → List ℕ
unless ok token = cond ok [] (token ∷ [])

-- of a name or select in the instance with this number
abbrev pub bad_driven : Flat → ℕ → Tree → List ℕ
bad_driven flat i p = unless (may_drive flat (signal_named flat i (part_name p)) (is_fixed (scope_at flat i) p)) (part_token p)

abbrev pub bad_assigned : Bool → Flat → ℕ → Assigned → List ℕ
bad_assigned starting flat i a = unless (may_set starting flat (meant (scope_at flat i) (part_name a.part)) (is_indexed a.part)) (part_token a.part)

-- a whole signal is the net of a declaration with a value, where that is written in the net's own instance, else an
-- input port that is connected
abbrev pub bad_declared : Flat → ℕ → Side → ℕ → List ℕ
bad_declared flat id (Whole x) token = []
bad_declared flat id (Written t i) token = cond (nat_eq (signal_at flat.signals id).instance i) (unless (may_drive flat (Some id) true) token) []

-- a connection of an output port that is no target is at fault at its first token
abbrev pub bad_side : Flat → Side → Side → ℕ → List ℕ
bad_side flat (Whole id) value token = bad_declared flat id value token
bad_side flat (Written t i) value token = cond (is_target t) (flat_map (bad_driven flat i) (target_parts t)) (token ∷ [])

abbrev pub bad_of_driver : Flat → Driver → List ℕ
bad_of_driver flat d = bad_side flat d.target d.value d.token

abbrev pub bad_of_statement : Bool → Flat → ℕ → Statement → List ℕ
bad_of_statement starting flat i s = flat_map (bad_assigned starting flat i) (assigned_by s)

abbrev pub bad_of_block : Flat → Block → List ℕ
bad_of_block flat b = bad_of_statement false flat b.scope b.body

abbrev pub bad_of_initial : Flat → Initial → List ℕ
bad_of_initial flat x = bad_of_statement true flat x.scope x.body

abbrev pub bad_of_part : Flat → design.Part → List ℕ
bad_of_part flat p = bad_of_driver flat (driver_of flat p) ++ (bad_of_block flat (block_of flat p) ++ bad_of_initial flat (initial_of flat p))

-- of a design
abbrev pub bad_targets : Flat → List ℕ
bad_targets flat = walked (bad_of_part flat) flat
