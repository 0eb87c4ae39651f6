-- A table that is sampled from a dump is one for the outputs.
use Rattle.std.proofs.Common.{ℕ, List, [], ◌∷◌, Bool, Option}
use Rattle.rr_flat.specs.Plain.{Flat}
use Rattle.rr_trace.specs.declared.cell.Cell.{Cell}
use Rattle.rr_trace.specs.Tables.{Table}
use Rattle.rr_vcd.specs.Fits.{AreCells}
use Rattle.rr_vcd.specs.Sampled.{IsSampled}
use Rattle.rr_vcd.proofs.Fitting.{tables_fit}
use Rattle.rr_transition.specs.Cycles.{widths_of}
use Rattle.rr_unroll.specs.Matches.{AreFit, FitsOutputs}

cells_fit : (ws : List ℕ) (cs : List Cell) → AreCells ws cs → AreFit ws cs
unfolding AreCells
cells_fit [] [] h = tt
cells_fit [] (c ∷ cs) h = absurd h
cells_fit (w ∷ ws) [] h = absurd h
cells_fit (w ∷ ws) (c ∷ cs) h = (h.1.0, cells_fit ws cs h.1.1)

pub samples_fit : (flat : Flat) (clock : Option ℕ) (rising : Bool) (bytes : List ℕ) (table : Table) → IsSampled flat clock rising bytes table → FitsOutputs (widths_of flat flat.outputs) table
samples_fit flat clock rising bytes table s =
    let fits = tables_fit flat clock rising bytes table s in
    record { rows = fits.rows; cells = λ k d l. cells_fit (widths_of flat flat.outputs) _ (fits.expected k d l) }
