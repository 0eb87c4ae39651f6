-- the rows of a table for the ports of a design
use Rattle.std.proofs.Common.{◌≡◌, ◌∙◌, sym, ap, subst, ℕ, suc, ◌+◌, Bool, true, false, cond, not, List, [], ◌∷◌, length, map, nat_eq, nat_lt, Option, Result, Ok, Err, Vec, Global, refl}
use Rattle.std.specs.List.{All, AllByRecursion}
use Rattle.std.specs.Str.{is_utf8}
use Rattle.std.proofs.lemmas.List.Elements.{All-from_recursion, All-map}
use Rattle.std.proofs.lemmas.List.{get_or-map, length-map}
use Rattle.rr_flat.specs.Plain.{Flat}
use Rattle.rr_trace.specs.declared.fault.TableFault.{TableFault}
use Rattle.rr_trace.specs.declared.fault.TableFault.TheVariants.{NoHeader, NotUtf8, RowLength, TooMany}
use Rattle.rr_flat.specs.declared.fault.Limit.TheVariants as limit
use Rattle.rr_trace.specs.Columns.{Header, Port, Ports, and_then, columns, given, header, input_places, place, trimmed}
use Rattle.rr_trace.specs.Names.{Text}
use Rattle.rr_trace.specs.Rows.{Row, cells, row, row_of_cells, rows, value_in}
use Rattle.rr_trace.specs.Tables.{Table, records_of, table_of, table_of_records, table_of_rows}
use Rattle.rr_trace.specs.Tops.{port_of, ports_of}
use Rattle.rr_trace.specs.View.{plain_table}
use Rattle.rr_trace.specs.declared.table.Table.{Table as Own}
use Rattle.rr_flat.specs.Inputs.{row_inputs}
use Rattle.rr_meaning.specs.Calls.{IsRow}

-- what comes before an answer

same : {A : Type 0} (a b : A) → ◌≡◌ {A = Result A TableFault} (Ok a) (Ok b) → a ≡ b
same a b h = cc

never : {A : Type 0} (e : TableFault) (a : A) → ◌≡◌ {A = Result A TableFault} (Err e) (Ok a) → ⊥
never e a h = cc

record Before {A B : Type 0} (r : Result A TableFault) (f : A → Result B TableFault) (b : B) : Type 0 where
  found : A
  was : r ≡ Ok found
  after : f found ≡ Ok b

before : {A B : Type 0} (r : Result A TableFault) (f : A → Result B TableFault) (b : B) → and_then r f ≡ Ok b → Before r f b
before (Ok a) f b h = record { found = a; was = refl; after = h }
before (Err e) f b h = absurd (never e b h)

unless : {A : Type 0} (x : Bool) (e : TableFault) (r : Result A TableFault) (a : A) → cond x (Err e) r ≡ Ok a → r ≡ Ok a
unless true e r a h = absurd (never e a h)
unless false e r a h = h

only_if : {A : Type 0} (x : Bool) (e : TableFault) (r : Result A TableFault) (a : A) → cond x r (Err e) ≡ Ok a → r ≡ Ok a
only_if true e r a h = h
only_if false e r a h = absurd (never e a h)

-- a column for each input

placed : (p : Ports) (names : List Text) (xs : List Port) (ks : List ℕ) → input_places p names xs ≡ Ok ks → length ks ≡ length xs
unfolding input_places
placed p names [] ks h = ap length (sym (same [] ks h))
placed p names (x ∷ xs) ks h =
    let a = before (given x.id (place p names x)) (λ k. and_then (input_places p names xs) (λ ms. Ok (k ∷ ms))) ks h in
    let b = before (input_places p names xs) (λ ms. Ok (a.found ∷ ms)) ks a.after in
    ap length (sym (same (a.found ∷ b.found) ks b.after)) ∙ ap (λ (n : ℕ). suc n) (placed p names xs b.found b.was)

header_inputs : (p : Ports) (fields : List Text) (h : Header) → header p fields ≡ Ok h → length h.inputs ≡ length p.inputs
header_inputs p fields h e =
    let a = before (columns p [] (map trimmed fields)) (λ ws. and_then (input_places p (map trimmed fields) p.inputs) (λ ks. Ok (record { widths = ws; inputs = ks; outputs = map (place p (map trimmed fields)) p.outputs }))) h e in
    let b = before (input_places p (map trimmed fields) p.inputs) (λ ks. Ok (record { widths = a.found; inputs = ks; outputs = map (place p (map trimmed fields)) p.outputs })) h a.after in
    ap (λ (x : Header). length x.inputs) (sym (same (record { widths = a.found; inputs = b.found; outputs = map (place p (map trimmed fields)) p.outputs }) h b.after))
    ∙ placed p (map trimmed fields) p.inputs b.found b.was

-- a number for each of them in each row

row_inputs_of : (h : Header) (n : ℕ) (fields : List Text) (x : Row) → row h n fields ≡ Ok x → length x.inputs ≡ length h.inputs
row_inputs_of h n fields x e =
    let a = unless (nat_lt 65536 n) (TooMany limit.Rows n) _ x e in
    let b = unless (not (nat_eq (length fields) (length h.widths))) (RowLength n) _ x a in
    let c = before (cells n 0 h.widths fields) (λ cs. Ok (row_of_cells h cs)) x b in
    ap (λ (y : Row). length y.inputs) (sym (same (row_of_cells h c.found) x c.after)) ∙ length-map h.inputs (value_in c.found)

rows_inputs : (h : Header) (n : ℕ) (rs : List (List Text)) (xs : List Row) → rows h n rs ≡ Ok xs → AllByRecursion (λ x. length x.inputs ≡ length h.inputs) xs
unfolding rows
rows_inputs h n [] xs e = subst (AllByRecursion (λ x. length x.inputs ≡ length h.inputs)) (same [] xs e) tt
rows_inputs h n (r ∷ rs) xs e =
    let a = before (row h n r) (λ x. and_then (rows h (n + 1) rs) (λ ys. Ok (x ∷ ys))) xs e in
    let b = before (rows h (n + 1) rs) (λ ys. Ok (a.found ∷ ys)) xs a.after in
    subst (AllByRecursion (λ x. length x.inputs ≡ length h.inputs)) (same (a.found ∷ b.found) xs b.after)
    (row_inputs_of h n r a.found a.was, rows_inputs h (n + 1) rs b.found b.was)

records_inputs : (p : Ports) (rs : List (List Text)) (t : Table) → table_of_records p rs ≡ Ok t → All (λ (ns : List ℕ). length ns ≡ length p.inputs) t.inputs
records_inputs p [] t e = absurd (never NoHeader t e)
records_inputs p (names ∷ rs) t e =
    let a = before (header p names) (λ h. and_then (rows h 1 rs) (λ xs. Ok (table_of_rows xs))) t e in
    let b = before (rows a.found 1 rs) (λ xs. Ok (table_of_rows xs)) t a.after in
    let l : length a.found.inputs ≡ length p.inputs = header_inputs p names a.found a.was in
    let s : table_of_rows b.found ≡ t = same (table_of_rows b.found) t b.after in
    subst (λ (u : Table). All (λ (ns : List ℕ). length ns ≡ length p.inputs) u.inputs) s
    (All-map (λ (ns : List ℕ). length ns ≡ length p.inputs) (λ (x : Row). x.inputs) b.found
    (subst (λ (n : ℕ). All (λ (x : Row). length x.inputs ≡ n) b.found) l
    (All-from_recursion (λ (x : Row). length x.inputs ≡ length a.found.inputs) b.found (rows_inputs a.found 1 rs b.found b.was))))

-- the ports but the clock are the inputs of a row

pub table_rows : (flat : Flat) (clock : Option ℕ) (bytes : List ℕ) (table : Table) → table_of (ports_of flat clock) bytes ≡ Ok table → All (IsRow flat clock) table.inputs
table_rows flat clock bytes table e =
    let p : Ports = ports_of flat clock in
    let a = records_inputs p (records_of bytes) table (only_if (is_utf8 bytes) NotUtf8 (table_of_records p (records_of bytes)) table e) in
    let l : length p.inputs ≡ length (row_inputs clock flat.inputs) = length-map (row_inputs clock flat.inputs) (port_of flat) in
    subst (λ (n : ℕ). All (λ (ns : List ℕ). length ns ≡ n) table.inputs) l a

-- what holds of the lists of vectors
of_vectors : (P : List ℕ → Type 0) (rows : List (Vec ℕ Global)) → All P (map (λ v. v.items) rows) → All (λ v. P v.items) rows
of_vectors P rows h k d l = subst P (get_or-map (λ (v : Vec ℕ Global). v.items) rows k d [] l) (h k [] (rw (length-map rows (λ (v : Vec ℕ Global). v.items)) l))

-- the same of a table as it is read
pub read_rows : (flat : Flat) (clock : Option ℕ) (bytes : List ℕ) (table : Own) → table_of (ports_of flat clock) bytes ≡ Ok (plain_table table) → All (λ v. IsRow flat clock v.items) table.inputs.items
read_rows flat clock bytes table e = of_vectors (IsRow flat clock) table.inputs.items (table_rows flat clock bytes (plain_table table) e)
