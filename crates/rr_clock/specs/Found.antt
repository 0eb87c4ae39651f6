-- How the one clock is found, by a table of the top inputs to which signals lead.
use Rattle.std.specs.Prelude.{ℕ, List, [], ◌∷◌, Bool, true, false, not, cond, ◌&&◌, ◌||◌, Option, Some, None, is_some, flat_map}
use Rattle.rr_syntax.specs.Tree.{EdgeEvent}
use Rattle.rr_expr.specs.Scopes.{Names, lookup}
use Rattle.rr_flat.specs.Signals.{Text}
use Rattle.rr_flat.specs.Clocks.{deciding_edge}
use Rattle.rr_flat.specs.Plain.{Block, Flat}
use Rattle.rr_clock.specs.Clock.{source_named}
use Rattle.rr_text_names.specs.Names.{is_the}
use Rattle.rr_text_names.specs.Firsts.{earliest}
use Rattle.rr_clock.specs.declared.clock.Found.{Found}
use Rattle.rr_clock.specs.declared.clock.Found.TheVariants.{Clock, Nowhere}

abbrev pub leads_by : Flat → (ℕ → Option ℕ) → ℕ → ℕ → Text → Bool
leads_by flat table clock i name = is_the clock (source_named flat table i name)

-- the first edge whose name is none of a set, or else another one
unfoldable pub free_among : Names → List EdgeEvent → Option EdgeEvent
free_among s [] = None
free_among s (e ∷ es) = cond (is_some (lookup e.text s)) (free_among s es) (Some e)

abbrev pub or_free : EdgeEvent → Option EdgeEvent → EdgeEvent
or_free e None = e
or_free e (Some f) = f

-- the direction of the first edge that leads to the clock
unfoldable pub first_rising : Flat → (ℕ → Option ℕ) → ℕ → ℕ → List EdgeEvent → Option Bool
first_rising flat table clock i [] = None
first_rising flat table clock i (e ∷ es) = cond (leads_by flat table clock i e.text) (Some e.rising) (first_rising flat table clock i es)

abbrev pub same_direction : Bool → Bool → Bool
same_direction a b = cond a b (not b)

-- whether an edge leads to the clock in this direction
abbrev pub runs_by : Flat → (ℕ → Option ℕ) → ℕ → Bool → ℕ → EdgeEvent → Bool
runs_by flat table clock rising i e = same_direction e.rising rising && leads_by flat table clock i e.text

unfoldable pub any_runs : Flat → (ℕ → Option ℕ) → ℕ → Bool → ℕ → List EdgeEvent → Bool
any_runs flat table clock rising i [] = false
any_runs flat table clock rising i (e ∷ es) = runs_by flat table clock rising i e || any_runs flat table clock rising i es

-- the blocks without such an edge
abbrev pub unclocked_block : Flat → (ℕ → Option ℕ) → ℕ → Bool → Block → List ℕ
unclocked_block flat table clock rising b = cond (any_runs flat table clock rising b.scope b.edges) [] (b.token ∷ [])

abbrev pub by_all : ℕ → Bool → Option ℕ → Found
by_all clock rising None = Clock (Some clock) rising
by_all clock rising (Some at) = Nowhere at

abbrev pub by_direction : Flat → (ℕ → Option ℕ) → List Block → ℕ → ℕ → Option Bool → Found
by_direction flat table blocks at clock None = Nowhere at
by_direction flat table blocks at clock (Some rising) = by_all clock rising (earliest (flat_map (unclocked_block flat table clock rising) blocks))

abbrev pub by_clock : Flat → (ℕ → Option ℕ) → Block → List Block → Option ℕ → Found
by_clock flat table b blocks None = Nowhere b.token
by_clock flat table b blocks (Some clock) = by_direction flat table blocks b.token clock (first_rising flat table clock b.scope b.edges)

abbrev pub deciding_source : Flat → (ℕ → Option ℕ) → Block → List EdgeEvent → Option ℕ
deciding_source flat table b [] = None
deciding_source flat table b (e ∷ es) = source_named flat table b.scope (deciding_edge b).text

abbrev pub or_deciding : Flat → (ℕ → Option ℕ) → Block → Option ℕ → Option ℕ
or_deciding flat table b None = deciding_source flat table b b.edges
or_deciding flat table b (Some id) = Some id

-- with the input that a word named, if any
abbrev pub found : Flat → (ℕ → Option ℕ) → Option ℕ → List Block → Found
found flat table named [] = Clock named true
found flat table named (b ∷ bs) = by_clock flat table b (b ∷ bs) (or_deciding flat table b named)
