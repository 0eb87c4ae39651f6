-- A table that was read for the ports of a flat design's top is one for its outputs.
use Rattle.std.proofs.Common.{◌≡◌, ◌∙◌, ℕ, zero, suc, ◌+◌, ◌^◌, ◌<◌, Bool, true, false, cond, List, [], ◌∷◌, ◌++◌, length, get_or, map, Option, Some, None, Result, Ok, Err, refl, sym, subst, ap, arith}
use Rattle.std.specs.Prelude.{All}
use Rattle.std.specs.List.{list_any}
use Rattle.std.specs.Str.{bytes_eq, is_utf8}
use Rattle.std.proofs.lemmas.List.{length-map, map-append}
use Rattle.std.proofs.lemmas.List.Elements.{All-nil, All-cons, All-head, All-tail, All-map}
use Rattle.std.proofs.lemmas.Simd.{map-map}
use Rattle.std.proofs.lemmas.Nat.{pow_pos}
use Rattle.std.proofs.lemmas.Slice.Eq.{bytes_eq-Decides}
use Rattle.rr_syntax.specs.Tree.{SourceText}
use Rattle.rr_flat.specs.Inputs.{row_inputs}
use Rattle.rr_flat.specs.Plain.{Flat}
use Rattle.rr_flat.specs.Signals.{signal_at}
use Rattle.rr_flatten.specs.Walk.{flat_of}
use Rattle.rr_trace.specs.declared.cell.Cell.{Cell}
use Rattle.rr_trace.specs.declared.fault.TableFault.{TableFault}
use Rattle.rr_trace.specs.declared.fault.TableFault.TheVariants.{NotUtf8}
use Rattle.rr_trace.specs.Cells.{unknown_cell}
use Rattle.rr_trace.specs.Columns.{Header, Port, Ports, and_then, column, columns, header, input_places, is_unread, only_once, place, trimmed, widths_of, width_in}
use Rattle.rr_trace.specs.Names.{Text, number_of, numbered}
use Rattle.rr_trace.specs.Rows.{Row, cell_in, rows}
use Rattle.rr_trace.specs.Tables.{Table, records_of, table_of, table_of_records, table_of_rows}
use Rattle.rr_trace.specs.Tops.{name_of, port_of, ports_of}
use Rattle.rr_transition.specs.Cycles as cycles
use Rattle.rr_unroll.specs.Matches.{AreFit, FitsOutputs}
use Rattle.rr_table_fits.proofs.Cells.{IsNarrow, IsOfCells, rows_cells}
use Rattle.rr_table_fits.proofs.TopPorts.{IsOfTop, of_top, one_name, outputs_of_top}

abbrev width_of : Flat → ℕ → ℕ
width_of flat id = (signal_at flat.signals id).width

same_name : (a b : Text) → bytes_eq a b ≡ true → a ≡ b
same_name a b e = (bytes_eq-Decides a b).0 e

-- the first width that a name has is that of its port
found_width : (flat : Flat) (id w : ℕ) (ids : List ℕ) → All (λ x. name_of flat x ≡ name_of flat id → x ≡ id) ids → number_of (name_of flat id) (map (λ x. (name_of flat x, width_of flat x)) ids) ≡ Some w → w ≡ width_of flat id
unfolding number_of
found_width flat id w [] only e = cc
found_width flat id w (x ∷ xs) only e =
    go (bytes_eq (name_of flat id) (name_of flat x)) refl e (found_width flat id w xs (All-tail (λ x. name_of flat x ≡ name_of flat id → x ≡ id) x xs only))
  where
    go : (b : Bool) → bytes_eq (name_of flat id) (name_of flat x) ≡ b → cond b (Some (width_of flat x)) (number_of (name_of flat id) (map (λ x. (name_of flat x, width_of flat x)) xs)) ≡ Some w →
        (number_of (name_of flat id) (map (λ x. (name_of flat x, width_of flat x)) xs) ≡ Some w → w ≡ width_of flat id) → w ≡ width_of flat id
    go true h d rec =
        let same : width_of flat x ≡ w = cc in
        sym same ∙ ap (width_of flat) (All-head (λ x. name_of flat x ≡ name_of flat id → x ≡ id) x xs only (sym (same_name (name_of flat id) (name_of flat x) h)))
    go false h d rec = rec d

-- the name of a column that a name stands for
record Stands (names : List Text) (t : Text) (base j : ℕ) : Type 0 where
  pub place : ℕ
  pub number : j ≡ base + place
  pub inside : place < length names
  pub named : get_or names place [] ≡ t

numbered_stands : (t : Text) (base : ℕ) (names : List Text) (j : ℕ) → number_of t (numbered base names) ≡ Some j → Stands names t base j
unfolding number_of numbered
numbered_stands t base [] j e = cc
numbered_stands t base (n ∷ ns) j e = go (bytes_eq t n) refl e (numbered_stands t (base + 1) ns j)
  where
    go : (b : Bool) → bytes_eq t n ≡ b → cond b (Some base) (number_of t (numbered (base + 1) ns)) ≡ Some j → (number_of t (numbered (base + 1) ns) ≡ Some j → Stands ns t (base + 1) j) → Stands (n ∷ ns) t base j
    go true h d rec = let same : base ≡ j = cc in record { place = 0; number = omega arith; inside = omega arith; named = sym (same_name t n h) }
    go false h d rec =
        let s = rec d in
        let number = s.number in
        let inside = s.inside in
        record { place = suc s.place; number = omega arith; inside = omega arith; named = s.named }

-- each column has the width of its name
once_is : (k : ℕ) (again : Bool) (c : Option (Option ℕ)) (w : Option ℕ) → only_once k again c ≡ Ok w → c ≡ Some w
once_is k again None w e = cc
once_is k true (Some v) w e = cc
once_is k false (Some v) w e = let same : v ≡ w = cc in ap Some same

columns_at : (p : Ports) (earlier names : List Text) (ws : List (Option ℕ)) → columns p earlier names ≡ Ok ws → (i : ℕ) → i < length names → column p (get_or names i []) ≡ Some (get_or ws i None)
unfolding columns
columns_at p earlier [] ws e i l = absurd (omega arith)
columns_at p earlier (t ∷ ts) ws e i l =
    go (only_once (length earlier) (list_any (bytes_eq t) earlier) (column p t)) refl (columns p (earlier ++ t ∷ []) ts) (λ vs d j m. columns_at p (earlier ++ t ∷ []) ts vs d j m) e i l
  where
    at : (w : Option ℕ) (vs : List (Option ℕ)) (i : ℕ) → i < length (t ∷ ts) → column p t ≡ Some w → ((j : ℕ) → j < length ts → column p (get_or ts j []) ≡ Some (get_or vs j None)) →
        column p (get_or (t ∷ ts) i []) ≡ Some (get_or (w ∷ vs) i None)
    at w vs zero l here more = here
    at w vs (suc i) l here more = more i (omega arith)

    go : (r : Result (Option ℕ) TableFault) → only_once (length earlier) (list_any (bytes_eq t) earlier) (column p t) ≡ r → (s : Result (List (Option ℕ)) TableFault) →
        ((vs : List (Option ℕ)) → s ≡ Ok vs → (j : ℕ) → j < length ts → column p (get_or ts j []) ≡ Some (get_or vs j None)) →
        and_then r (λ x. and_then s (λ xs. Ok (x ∷ xs))) ≡ Ok ws → (i : ℕ) → i < length (t ∷ ts) → column p (get_or (t ∷ ts) i []) ≡ Some (get_or ws i None)
    go (Err f) h s rec d i l = cc
    go (Ok w) h (Err f) rec d i l = cc
    go (Ok w) h (Ok vs) rec d i l =
        let same : w ∷ vs ≡ ws = cc in
        subst (λ (xs : List (Option ℕ)). column p (get_or (t ∷ ts) i []) ≡ Some (get_or xs i None)) same
        (at w vs i l (once_is (length earlier) (list_any (bytes_eq t) earlier) (column p t) w h) (λ j m. rec vs refl j m))

-- the cell of an output
unread_or : (b : Bool) (o : Option ℕ) (w : ℕ) → width_in b o ≡ Some (Some w) → o ≡ Some w
unread_or true o w e = cc
unread_or false None w e = cc
unread_or false (Some v) w e = let same : v ≡ w = cc in ap Some same

narrow_for : (o : Option ℕ) (c : Cell) (w : ℕ) → IsNarrow o c → ((v : ℕ) → o ≡ Some v → v ≡ w) → c.known < 2 ^ w
narrow_for None c w n h = subst (λ k. k < 2 ^ w) (sym n) (pow_pos w)
narrow_for (Some v) c w n h = subst (λ k. c.known < 2 ^ k) (h v refl) n

module _ (flat : Flat) (clock : Option ℕ) (names : List Text) (ws : List (Option ℕ)) (made : columns (ports_of flat clock) [] names ≡ Ok ws) where
  abbrev ids : List ℕ
  ids = row_inputs clock flat.inputs ++ flat.outputs

  all_widths : widths_of (ports_of flat clock) ≡ map (λ x. (name_of flat x, width_of flat x)) ids
  all_widths =
      ap (map (λ (x : Port). (x.name, x.width))) (sym (map-append (port_of flat) (row_inputs clock flat.inputs) flat.outputs))
      ∙ map-map (λ (x : Port). (x.name, x.width)) (port_of flat) ids

  output_narrow : (cs : List Cell) → ((i : ℕ) → IsNarrow (get_or ws i None) (get_or cs i unknown_cell)) → (id : ℕ) → All (λ x. name_of flat x ≡ name_of flat id → x ≡ id) ids →
      (cell_in cs (place (ports_of flat clock) names (port_of flat id))).known < 2 ^ width_of flat id
  output_narrow cs narrow id only = go (is_unread (ports_of flat clock) (name_of flat id))
    where
      at : (o : Option ℕ) → number_of (name_of flat id) (numbered 0 names) ≡ o → (cell_in cs o).known < 2 ^ width_of flat id
      at None e = pow_pos (width_of flat id)
      at (Some k) e =
          let s = numbered_stands (name_of flat id) 0 names k e in
          let number = s.number in
          let inside = s.inside in
          let same : s.place ≡ k = omega arith in
          let column_is = subst (λ i. column (ports_of flat clock) (name_of flat id) ≡ Some (get_or ws i None)) same
          (subst (λ t. column (ports_of flat clock) t ≡ Some (get_or ws s.place None)) s.named (columns_at (ports_of flat clock) [] names ws made s.place inside)) in
          narrow_for (get_or ws k None) (get_or cs k unknown_cell) (width_of flat id) (narrow k)
          (λ v h. found_width flat id v ids only
          (subst (λ es. number_of (name_of flat id) es ≡ Some v) all_widths
          (unread_or (is_unread (ports_of flat clock) (name_of flat id)) (number_of (name_of flat id) (widths_of (ports_of flat clock))) v (column_is ∙ ap Some h))))

      go : (b : Bool) → (cell_in cs (cond b None (number_of (name_of flat id) (numbered 0 names)))).known < 2 ^ width_of flat id
      go true = pow_pos (width_of flat id)
      go false = at (number_of (name_of flat id) (numbered 0 names)) refl

  outputs_narrow : (cs : List Cell) → ((i : ℕ) → IsNarrow (get_or ws i None) (get_or cs i unknown_cell)) → (outs : List ℕ) → All (λ id. All (λ x. name_of flat x ≡ name_of flat id → x ≡ id) ids) outs →
      AreFit (cycles.widths_of flat outs) (map (cell_in cs) (map (place (ports_of flat clock) names) (map (port_of flat) outs)))
  outputs_narrow cs narrow [] only = tt
  outputs_narrow cs narrow (id ∷ outs) only = (
    output_narrow cs narrow id (All-head (λ id. All (λ x. name_of flat x ≡ name_of flat id → x ≡ id) ids) id outs only),
    outputs_narrow cs narrow outs (All-tail (λ id. All (λ x. name_of flat x ≡ name_of flat id → x ≡ id) ids) id outs only),
  )

  module _ (only : All (λ id. All (λ x. name_of flat x ≡ name_of flat id → x ≡ id) ids) flat.outputs) (h : Header) (widths : h.widths ≡ ws)
      (outputs : h.outputs ≡ map (place (ports_of flat clock) names) (map (port_of flat) flat.outputs)) where
    row_fit : (x : Row) → IsOfCells h x → AreFit (cycles.widths_of flat flat.outputs) x.expected
    row_fit x (cs, (same, narrow)) =
        subst (λ (y : Row). AreFit (cycles.widths_of flat flat.outputs) y.expected) (sym same)
        (subst (λ os. AreFit (cycles.widths_of flat flat.outputs) (map (cell_in cs) os)) (sym outputs)
        (outputs_narrow cs (subst (λ vs. (i : ℕ) → IsNarrow (get_or vs i None) (get_or cs i unknown_cell)) widths narrow) flat.outputs only))

    rows_fit : (xs : List Row) → All (IsOfCells h) xs → All (λ (x : Row). AreFit (cycles.widths_of flat flat.outputs) x.expected) xs
    rows_fit [] all = All-nil (λ (x : Row). AreFit (cycles.widths_of flat flat.outputs) x.expected)
    rows_fit (x ∷ xs) all =
        All-cons (λ (x : Row). AreFit (cycles.widths_of flat flat.outputs) x.expected) x xs (row_fit x (All-head (IsOfCells h) x xs all)) (rows_fit xs (All-tail (IsOfCells h) x xs all))

    table_fits : (xs : List Row) → All (IsOfCells h) xs → FitsOutputs (cycles.widths_of flat flat.outputs) (table_of_rows xs)
    table_fits xs all = record {
      rows = length-map xs (λ (x : Row). x.expected) ∙ sym (length-map xs (λ (x : Row). x.inputs));
      cells = All-map (AreFit (cycles.widths_of flat flat.outputs)) (λ (x : Row). x.expected) xs (rows_fit xs all);
    }

-- from the rows and the header to the text

module _ (flat : Flat) (clock : Option ℕ) (only : All (λ id. All (λ x. name_of flat x ≡ name_of flat id → x ≡ id) (row_inputs clock flat.inputs ++ flat.outputs)) flat.outputs) (table : Table) where
  abbrev p : Ports
  p = ports_of flat clock

  abbrev Fits : Table → Type 0
  Fits t = FitsOutputs (cycles.widths_of flat flat.outputs) t

  from_rows : (h : Header) (names : List Text) → columns p [] names ≡ Ok h.widths → h.outputs ≡ map (place p names) p.outputs → (rs : List (List Text)) (r : Result (List Row) TableFault) → rows h 1 rs ≡ r →
      and_then r (λ xs. Ok (table_of_rows xs)) ≡ Ok table → Fits table
  from_rows h names made outputs rs (Err f) e d = cc
  from_rows h names made outputs rs (Ok xs) e d =
      let same : table_of_rows xs ≡ table = cc in
      subst Fits same (table_fits flat clock names h.widths made only h refl outputs xs (rows_cells h 1 rs xs e))

  -- a header keeps its columns and the places of the outputs
  record IsOfNames (names : List Text) (h : Header) : Type 0 where
    pub made : columns p [] names ≡ Ok h.widths
    pub outputs : h.outputs ≡ map (place p names) p.outputs

  header_is : (names : List Text) (h : Header) (r : Result (List (Option ℕ)) TableFault) (s : Result (List ℕ) TableFault) → columns p [] names ≡ r →
      and_then r (λ widths. and_then s (λ inputs. Ok (record { widths = widths; inputs = inputs; outputs = map (place p names) p.outputs }))) ≡ Ok h → IsOfNames names h
  header_is names h (Err f) s e d = cc
  header_is names h (Ok widths) (Err f) e d = cc
  header_is names h (Ok widths) (Ok inputs) e d =
      let made : Header = record { widths = widths; inputs = inputs; outputs = map (place p names) p.outputs } in
      let same : made ≡ h = cc in
      subst (IsOfNames names) same (record { made = e; outputs = refl })

  from_header : (fields : List Text) (rs : List (List Text)) (r : Result Header TableFault) → header p fields ≡ r → and_then r (λ h. and_then (rows h 1 rs) (λ xs. Ok (table_of_rows xs))) ≡ Ok table → Fits table
  from_header fields rs (Err f) e d = cc
  from_header fields rs (Ok h) e d =
      let names : List Text = map trimmed fields in
      let is = header_is names h (columns p [] names) (input_places p names p.inputs) refl e in
      from_rows h names is.made is.outputs rs (rows h 1 rs) refl d

  from_records : (rs : List (List Text)) → table_of_records p rs ≡ Ok table → Fits table
  from_records [] e = cc
  from_records (fields ∷ rs) e = from_header fields rs (header p fields) refl e

  from_bytes : (bytes : List ℕ) (b : Bool) → cond b (table_of_records p (records_of bytes)) (Err NotUtf8) ≡ Ok table → Fits table
  from_bytes bytes true e = from_records (records_of bytes) e
  from_bytes bytes false e = cc

-- no two ports of the top have one name
alone : (source : SourceText) (top : Option Text) (flat : Flat) → flat_of source top ≡ Ok flat → (id : ℕ) → IsOfTop flat.signals id → (ids : List ℕ) → All (IsOfTop flat.signals) ids → All (λ x. name_of flat x ≡ name_of flat id → x ≡ id) ids
alone source top flat e id k [] all = All-nil (λ x. name_of flat x ≡ name_of flat id → x ≡ id)
alone source top flat e id k (x ∷ xs) all =
    All-cons (λ x. name_of flat x ≡ name_of flat id → x ≡ id) x xs (one_name source top flat e x id (All-head (IsOfTop flat.signals) x xs all) k)
    (alone source top flat e id k xs (All-tail (IsOfTop flat.signals) x xs all))

all_alone : (source : SourceText) (top : Option Text) (flat : Flat) → flat_of source top ≡ Ok flat → (ids outs : List ℕ) → All (IsOfTop flat.signals) ids → All (IsOfTop flat.signals) outs →
    All (λ id. All (λ x. name_of flat x ≡ name_of flat id → x ≡ id) ids) outs
all_alone source top flat e ids [] all k = All-nil (λ id. All (λ x. name_of flat x ≡ name_of flat id → x ≡ id) ids)
all_alone source top flat e ids (id ∷ outs) all k =
    All-cons (λ id. All (λ x. name_of flat x ≡ name_of flat id → x ≡ id) ids) id outs (alone source top flat e id (All-head (IsOfTop flat.signals) id outs k) ids all)
    (all_alone source top flat e ids outs all (All-tail (IsOfTop flat.signals) id outs k))

pub tables_fit : (source : SourceText) (top : Option Text) (flat : Flat) → flat_of source top ≡ Ok flat → (clock : Option ℕ) (bytes : List ℕ) (table : Table) →
    table_of (ports_of flat clock) bytes ≡ Ok table → FitsOutputs (cycles.widths_of flat flat.outputs) table
tables_fit source top flat e clock bytes table d =
    from_bytes flat clock (all_alone source top flat e (row_inputs clock flat.inputs ++ flat.outputs) flat.outputs (of_top source top flat e clock) (outputs_of_top source top flat e)) table bytes (is_utf8 bytes) d
