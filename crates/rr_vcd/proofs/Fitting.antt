-- A sampled table fits its ports.
use Rattle.std.proofs.Common.{ℕ, ◌<◌, ◌^◌, Bool, List, [], ◌∷◌, length, map, Option, Some, None, sym, ◌∙◌, ap, subst}
use Rattle.std.specs.List.{All}
use Rattle.std.proofs.lemmas.List.{length-map}
use Rattle.std.proofs.lemmas.List.Elements.{All-nil, All-cons}
use Rattle.std.proofs.lemmas.Nat.{pow_pos}
use Rattle.rr_flat.specs.Plain.{Flat}
use Rattle.rr_flat.specs.Inputs.{row_inputs}
use Rattle.rr_vcd_text.specs.Dump.{Declared, Told}
use Rattle.rr_trace.specs.declared.cell.Cell.{Cell}
use Rattle.rr_trace.specs.Tables.{Table, table_of_rows}
use Rattle.rr_vcd.specs.Tops.{port_of, top_of}
use Rattle.rr_vcd.specs.Values.{cell_of, binary, extended, is_one, is_known}
use Rattle.rr_vcd.specs.Moments.{last_change, up_to, valued}
use Rattle.rr_vcd.specs.Scopes.{id_in}
use Rattle.rr_vcd.specs.Sampled.{cell_by, cell_in, row_after, sampled, IsSampled}
use Rattle.rr_vcd.specs.Fits.{widths, AreValues, AreCells, FitsPorts}
use Rattle.rr_vcd.proofs.Binary.{binary_bound}
use Rattle.rr_vcd.proofs.Extending.{length_extended}

abbrev IsSmall : ℕ → Cell → Type 0
IsSmall w c = (c.value < 2 ^ w) × (c.known < 2 ^ w)

small_part : (f : ℕ → Bool) (w : ℕ) (digits : List ℕ) → binary (map f (extended w digits)) < 2 ^ w
small_part f w digits = subst (λ n. binary (map f (extended w digits)) < 2 ^ n) (length-map (extended w digits) f ∙ length_extended w digits) (binary_bound (map f (extended w digits)))

small : (w : ℕ) (change : Option (List ℕ)) → IsSmall w (cell_of w change)
small w None = (pow_pos w, pow_pos w)
small w (Some digits) = (small_part is_one w digits, small_part is_known w digits)

small_by : (w : ℕ) (id : Option (List ℕ)) (told : List Told) → IsSmall w (cell_by w id told)
small_by w None told = (pow_pos w, pow_pos w)
small_by w (Some id) told = small w (last_change id told)

module _ (flat : Flat) (d : Declared) (s : ℕ) (told : List Told) where
  values_fit : (ids : List ℕ) → AreValues (widths flat ids) (map (λ p. (cell_in d s told p).value) (map (port_of flat) ids))
  unfolding AreValues
  values_fit [] = tt
  values_fit (id ∷ ids) = ((small_by (port_of flat id).width (id_in s (port_of flat id) d.variables) told).0, values_fit ids)

  cells_fit : (ids : List ℕ) → AreCells (widths flat ids) (map (cell_in d s told) (map (port_of flat) ids))
  unfolding AreCells
  cells_fit [] = tt
  cells_fit (id ∷ ids) =
      let h = small_by (port_of flat id).width (id_in s (port_of flat id) d.variables) told in
      (h.0, (h.1, cells_fit ids))

module _ (flat : Flat) (clock : Option ℕ) (rising : Bool) (d : Declared) (s : ℕ) (told : List Told) where
  all_inputs : (at : List ℕ) → All (AreValues (widths flat (row_inputs clock flat.inputs))) (map (λ x. x.inputs) (map (row_after (top_of flat clock rising) d s told) at))
  all_inputs [] = All-nil (AreValues (widths flat (row_inputs clock flat.inputs)))
  all_inputs (i ∷ is) = All-cons (AreValues (widths flat (row_inputs clock flat.inputs))) _ _ (values_fit flat d s (up_to i told) (row_inputs clock flat.inputs)) (all_inputs is)

  all_expected : (at : List ℕ) → All (AreCells (widths flat flat.outputs)) (map (λ x. x.expected) (map (row_after (top_of flat clock rising) d s told) at))
  all_expected [] = All-nil (AreCells (widths flat flat.outputs))
  all_expected (i ∷ is) = All-cons (AreCells (widths flat flat.outputs)) _ _ (cells_fit flat d s (up_to i told) flat.outputs) (all_expected is)

pub tables_fit : (flat : Flat) (clock : Option ℕ) (rising : Bool) (bytes : List ℕ) (table : Table) → IsSampled flat clock rising bytes table → FitsPorts flat clock table
tables_fit flat clock rising bytes table x =
    let r = x.is ∙ ap table_of_rows x.samples.are in
    let at = sampled (top_of flat clock rising).clock x.samples.declared x.samples.scope x.samples.told (valued x.samples.told) in
    record {
      rows = ap (λ t. length t.expected) x.is ∙ (length-map x.rows (λ y. y.expected) ∙ (sym (length-map x.rows (λ y. y.inputs)) ∙ sym (ap (λ t. length t.inputs) x.is)));
      inputs = subst (λ t. All (AreValues (widths flat (row_inputs clock flat.inputs))) t.inputs) (sym r) (all_inputs flat clock rising x.samples.declared x.samples.scope x.samples.told at);
      expected = subst (λ t. All (AreCells (widths flat flat.outputs)) t.expected) (sym r) (all_expected flat clock rising x.samples.declared x.samples.scope x.samples.told at);
    }
