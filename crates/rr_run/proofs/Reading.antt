-- The rows of a table are one, or it is refused for one reason.
use Rattle.std.proofs.Common.{◌≡◌, ℕ, suc, List, [], ◌∷◌, length, map, Bool, Option, Ok, Err, Vec, Global, refl, ap, sym, subst, ◌∙◌}
use Rattle.std.specs.List.{All}
use Rattle.std.proofs.lemmas.List.{get_or-map, length-map}
use Rattle.rr_flat.specs.Inputs.{row_inputs}
use Rattle.rr_flat.specs.Plain.{Flat}
use Rattle.rr_trace.specs.Tables.{Table, table_of}
use Rattle.rr_trace.specs.Tops.{name_of, ports_of}
use Rattle.rr_trace.specs.declared.fault.TableFault.{TableFault}
use Rattle.rr_trace.specs.declared.fault.TableFault.TheVariants as table
use Rattle.rr_vcd.specs.Faults.{RefusesVcd}
use Rattle.rr_vcd.specs.Fits.{AreValues, widths}
use Rattle.rr_vcd.specs.declared.fault.VcdFault.{VcdFault}
use Rattle.rr_vcd.specs.declared.fault.VcdFault.TheVariants as vcd
use Rattle.rr_vcd.proofs.Fitting.{tables_fit}
use Rattle.rr_vcd.proofs.Unique.{one_fault, one_table, table_or_fault}
use Rattle.rr_meaning.proofs.Tabled.{table_rows}
use Rattle.rr_run.specs.declared.rows.TableKind.{TableKind}
use Rattle.rr_run.specs.declared.rows.TableKind.TheVariants as kind
use Rattle.rr_run.specs.Refusals.{Refusal, At, TooMany, Expanded, NoHeader, UnknownColumn, ColumnTwice, MissingInput, RowLength, BadCell, CellTooLarge, NotUtf8, BadVcd, NoScope}
use Rattle.rr_run.specs.Rows.{FitsInputs, ReadsTable, RefusesCsv, RefusesDump, RefusesTable}

-- ---- comma-separated values
-- the refusal by which a fault of a table is told; want of memory is told by none, so that its line has no meaning
abbrev of_table : Flat → TableFault → Refusal
of_table flat table.NoHeader = NoHeader
of_table flat (table.UnknownColumn column) = UnknownColumn column
of_table flat (table.ColumnTwice column) = ColumnTwice column
of_table flat (table.MissingInput id) = MissingInput (name_of flat id)
of_table flat (table.RowLength row) = RowLength row
of_table flat (table.BadCell row column) = BadCell row column
of_table flat (table.CellTooLarge row column) = CellTooLarge row column
of_table flat table.NotUtf8 = NotUtf8
of_table flat (table.TooMany limit count) = TooMany limit count
of_table flat table.Memory = NotUtf8

abbrev IsTableCause : Flat → Option ℕ → List ℕ → Refusal → Type 0
IsTableCause flat clock bytes refusal = (f : TableFault) × ((table_of (ports_of flat clock) bytes ≡ Err f) × (refusal ≡ of_table flat f))

table_cause : (flat : Flat) (clock : Option ℕ) (bytes : List ℕ) (refusal : Refusal) → RefusesCsv flat clock bytes refusal → IsTableCause flat clock bytes refusal
table_cause flat clock bytes (At what at) r = absurd r
table_cause flat clock bytes (TooMany limit count) r = (table.TooMany limit count, (r, refl))
table_cause flat clock bytes (Expanded count) r = absurd r
table_cause flat clock bytes NoHeader r = (table.NoHeader, (r, refl))
table_cause flat clock bytes (UnknownColumn column) r = (table.UnknownColumn column, (r, refl))
table_cause flat clock bytes (ColumnTwice column) r = (table.ColumnTwice column, (r, refl))
table_cause flat clock bytes (MissingInput name) r = (table.MissingInput r.0, (r.1.0, ap MissingInput r.1.1))
table_cause flat clock bytes (RowLength row) r = (table.RowLength row, (r, refl))
table_cause flat clock bytes (BadCell row column) r = (table.BadCell row column, (r, refl))
table_cause flat clock bytes (CellTooLarge row column) r = (table.CellTooLarge row column, (r, refl))
table_cause flat clock bytes NotUtf8 r = (table.NotUtf8, (r, refl))
table_cause flat clock bytes (BadVcd line) r = absurd r
table_cause flat clock bytes NoScope r = absurd r

-- ---- value change dumps
abbrev of_dump : VcdFault → Refusal
of_dump (vcd.BadVcd line) = BadVcd line
of_dump vcd.NoScope = NoScope
of_dump (vcd.TooMany limit count) = TooMany limit count
of_dump vcd.Memory = NotUtf8

record IsDumpCause (flat : Flat) (clock : Option ℕ) (rising : Bool) (bytes : List ℕ) (refusal : Refusal) : Type 0 where
  fault : VcdFault
  some : fault ≡ vcd.Memory → ⊥
  refuses : RefusesVcd flat clock rising bytes fault
  told : refusal ≡ of_dump fault

dump_cause : (flat : Flat) (clock : Option ℕ) (rising : Bool) (bytes : List ℕ) (refusal : Refusal) → RefusesDump flat clock rising bytes refusal → IsDumpCause flat clock rising bytes refusal
dump_cause flat clock rising bytes (At what at) r = absurd r
dump_cause flat clock rising bytes (TooMany limit count) r = record { fault = vcd.TooMany limit count; some = λ e. cc; refuses = r; told = refl }
dump_cause flat clock rising bytes (Expanded count) r = absurd r
dump_cause flat clock rising bytes NoHeader r = absurd r
dump_cause flat clock rising bytes (UnknownColumn column) r = absurd r
dump_cause flat clock rising bytes (ColumnTwice column) r = absurd r
dump_cause flat clock rising bytes (MissingInput name) r = absurd r
dump_cause flat clock rising bytes (RowLength row) r = absurd r
dump_cause flat clock rising bytes (BadCell row column) r = absurd r
dump_cause flat clock rising bytes (CellTooLarge row column) r = absurd r
dump_cause flat clock rising bytes NotUtf8 r = absurd r
dump_cause flat clock rising bytes (BadVcd line) r = record { fault = vcd.BadVcd line; some = λ e. cc; refuses = r; told = refl }
dump_cause flat clock rising bytes NoScope r = record { fault = vcd.NoScope; some = λ e. cc; refuses = r; told = refl }

-- ---- a table of either kind
pub one_reading : (kind : TableKind) (flat : Flat) (clock : Option ℕ) (rising : Bool) (bytes : List ℕ) (x y : Table) →
    ReadsTable kind flat clock rising bytes x → ReadsTable kind flat clock rising bytes y → x ≡ y
one_reading kind.Csv flat clock rising bytes x y p q = let both : Ok x ≡ Ok y = sym p ∙ q in cc
one_reading kind.Vcd flat clock rising bytes x y p q = one_table flat clock rising bytes x y p q

pub read_or_refused : (kind : TableKind) (flat : Flat) (clock : Option ℕ) (rising : Bool) (bytes : List ℕ) (x : Table) (a : Refusal) →
    ReadsTable kind flat clock rising bytes x → RefusesTable kind flat clock rising bytes a → ⊥
read_or_refused kind.Csv flat clock rising bytes x a p q =
    let cause = table_cause flat clock bytes a q in
    let both : Ok x ≡ Err cause.0 = sym p ∙ cause.1.0 in
    cc
read_or_refused kind.Vcd flat clock rising bytes x a p q =
    let cause = dump_cause flat clock rising bytes a q in
    cause.some (table_or_fault flat clock rising bytes x cause.fault p cause.refuses)

pub one_table_refusal : (kind : TableKind) (flat : Flat) (clock : Option ℕ) (rising : Bool) (bytes : List ℕ) (a b : Refusal) →
    RefusesTable kind flat clock rising bytes a → RefusesTable kind flat clock rising bytes b → a ≡ b
one_table_refusal kind.Csv flat clock rising bytes a b p q =
    let x = table_cause flat clock bytes a p in
    let y = table_cause flat clock bytes b q in
    let both : Err x.0 ≡ Err y.0 = sym x.1.0 ∙ y.1.0 in
    let same : x.0 ≡ y.0 = cc in
    x.1.1 ∙ (ap (of_table flat) same ∙ sym y.1.1)
one_table_refusal kind.Vcd flat clock rising bytes a b p q =
    let x = dump_cause flat clock rising bytes a p in
    let y = dump_cause flat clock rising bytes b q in
    x.told ∙ (ap of_dump (one_fault flat clock rising bytes x.fault y.fault x.refuses y.refuses x.some y.some) ∙ sym y.told)

-- .. for a design, and for one that is the same
pub moved_reading : (kind : TableKind) (bytes : List ℕ) (x : Table) {f g : Flat} {c d : Option ℕ} {r s : Bool} → f ≡ g → c ≡ d → r ≡ s → ReadsTable kind f c r bytes x → ReadsTable kind g d s bytes x
moved_reading kind bytes x {f} {g} {c} {d} {r} {s} p q e h =
    subst (λ (b : Bool). ReadsTable kind g d b bytes x) e (subst (λ (o : Option ℕ). ReadsTable kind g o r bytes x) q (subst (λ (w : Flat). ReadsTable kind w c r bytes x) p h))

pub moved_refusal : (kind : TableKind) (bytes : List ℕ) (a : Refusal) {f g : Flat} {c d : Option ℕ} {r s : Bool} → f ≡ g → c ≡ d → r ≡ s → RefusesTable kind f c r bytes a → RefusesTable kind g d s bytes a
moved_refusal kind bytes a {f} {g} {c} {d} {r} {s} p q e h =
    subst (λ (b : Bool). RefusesTable kind g d b bytes a) e (subst (λ (o : Option ℕ). RefusesTable kind g o r bytes a) q (subst (λ (w : Flat). RefusesTable kind w c r bytes a) p h))

-- ---- a value for each input
values_length : (flat : Flat) (ids vs : List ℕ) → AreValues (widths flat ids) vs → length vs ≡ length ids
unfolding AreValues
values_length flat [] [] h = refl
values_length flat [] (v ∷ vs) h = absurd h
values_length flat (id ∷ ids) [] h = absurd h
values_length flat (id ∷ ids) (v ∷ vs) h = ap suc (values_length flat ids vs h.1)

pub reading_fits : (kind : TableKind) (flat : Flat) (clock : Option ℕ) (rising : Bool) (bytes : List ℕ) (x : Table) → ReadsTable kind flat clock rising bytes x → FitsInputs flat clock x
reading_fits kind.Csv flat clock rising bytes x p = table_rows flat clock bytes x p
reading_fits kind.Vcd flat clock rising bytes x p =
    let fits = tables_fit flat clock rising bytes x p in
    λ k d l. values_length flat (row_inputs clock flat.inputs) _ (fits.inputs k d l)

-- what holds of the lists of vectors
pub of_vectors : (P : List ℕ → Type 0) (rows : List (Vec ℕ Global)) → All P (map (λ v. v.items) rows) → All (λ v. P v.items) rows
of_vectors P rows h k d l = subst P (get_or-map (λ (v : Vec ℕ Global). v.items) rows k d [] l) (h k [] (rw (length-map rows (λ (v : Vec ℕ Global). v.items)) l))
