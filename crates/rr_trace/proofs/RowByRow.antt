-- The rows of a table, one after another.
use Rattle.std.proofs.Common.{◌≡◌, ◌∙◌, ℕ, ◌+◌, ◌<◌, ◌≤◌, Bool, true, false, List, [], ◌∷◌, ◌++◌, length, map, Result, Ok, Err, refl, sym, ap, arith, inl, inr, nat_lt, nat_eq, not}
use Rattle.std.proofs.lemmas.Bool.{lt-ltb, le-ltb, eq-eqb}
use Rattle.std.proofs.lemmas.List.{append_assoc, append-nil, map-append}
use Rattle.rr_trace.specs.declared.cell.Cell.{Cell}
use Rattle.rr_trace.specs.declared.fault.TableFault.{TableFault}
use Rattle.rr_flat.specs.declared.fault.Limit.TheVariants.{Rows}
use Rattle.rr_trace.specs.declared.fault.TableFault.TheVariants.{RowLength, TooMany}
use Rattle.rr_trace.specs.Coming.{ByteReader, IsComing, Follows}
use Rattle.rr_trace.specs.Columns.{Header, and_then}
use Rattle.rr_trace.specs.Names.{Text}
use Rattle.rr_trace.specs.Rows.{Row, row, rows, cells, row_of_cells}
use Rattle.rr_trace.specs.Tables.{Table, table_of_rows}
use Rattle.rr_trace.specs.View.{Refuses, with_row}

-- a row
pub row_ok : (h : Header) (n : ℕ) (fields : List Text) (cs : List Cell) → n ≤ 65536 → length fields ≡ length h.widths → cells n 0 h.widths fields ≡ Ok cs → row h n fields ≡ Ok (row_of_cells h cs)
row_ok h n fields cs l same e = rw (le-ltb 65536 n l, eq-eqb (length fields) (length h.widths) same, e) refl

pub row_err : (h : Header) (n : ℕ) (fields : List Text) (f : TableFault) → n ≤ 65536 → length fields ≡ length h.widths → Refuses (cells n 0 h.widths fields) f → Refuses (row h n fields) f
row_err h n fields f l same (inl m) = inl m
row_err h n fields f l same (inr e) = inr (rw (le-ltb 65536 n l, eq-eqb (length fields) (length h.widths) same, e) refl)

pub pushed : {V X : Type 0} (f : V → X) (xs ys : List V) (v : V) → ys ≡ xs ++ v ∷ [] → map f ys ≡ map f xs ++ f v ∷ []
pushed f xs ys v e = ap (map f) e ∙ map-append f xs (v ∷ [])

-- one more row, by its lists
pub rows_pushed : {V W : Type 0} (f : V → List ℕ) (g : W → List Cell) (xs ys : List V) (us vs : List W) (v : V) (w : W) (x : List ℕ) (u : List Cell) → ys ≡ xs ++ v ∷ [] → vs ≡ us ++ w ∷ [] → f v ≡ x → g w ≡ u
    → record { inputs = map f ys; expected = map g vs } ≡ with_row (record { inputs = map f xs; expected = map g us }) (record { inputs = x; expected = u })
rows_pushed f g xs ys us vs v w x u e d i o = rw (pushed f xs ys v e, pushed g us vs w d, i, o) refl

-- the rows so far
pub record Going (h : Header) (all : List (List Text)) (n : ℕ) (reader : ByteReader) (t : Table) : Type 0 where
  pub have : List Row
  pub rest : List (List Text)
  pub coming : IsComing reader rest
  pub gives : rows h 1 all ≡ and_then (rows h n rest) (λ xs. Ok (have ++ xs))
  pub same : t ≡ table_of_rows have

same_result : (r : Result (List Row) TableFault) → r ≡ and_then r (λ xs. Ok ([] ++ xs))
same_result (Ok xs) = refl
same_result (Err e) = refl

pub going_none : (h : Header) (all : List (List Text)) (reader : ByteReader) → IsComing reader all → Going h all 1 reader (record { inputs = []; expected = [] })
going_none h all reader c = record { have = []; rest = all; coming = c; gives = same_result (rows h 1 all); same = refl }

step : (h : Header) (n : ℕ) (r : List Text) (rs : List (List Text)) → rows h n (r ∷ rs) ≡ and_then (row h n r) (λ x. and_then (rows h (n + 1) rs) (λ xs. Ok (x ∷ xs)))
unfolding rows
step h n r rs = refl

none_left : (h : Header) (n : ℕ) → rows h n [] ≡ Ok []
unfolding rows
none_left h n = refl

regroup : (r : Result (List Row) TableFault) (x : Row) (have : List Row)
    → and_then (and_then r (λ xs. Ok (x ∷ xs))) (λ xs. Ok (have ++ xs)) ≡ and_then r (λ xs. Ok ((have ++ x ∷ []) ++ xs))
regroup (Ok xs) x have = ap Ok (sym (append_assoc have (x ∷ []) xs))
regroup (Err e) x have = refl

with_last : (have : List Row) (x : Row) → with_row (table_of_rows have) x ≡ table_of_rows (have ++ x ∷ [])
with_last have x = rw (map-append (λ (y : Row). y.inputs) have (x ∷ []), map-append (λ (y : Row). y.expected) have (x ∷ [])) refl

-- a row that was read
pub going_more : (h : Header) (all : List (List Text)) (n : ℕ) (old new : ByteReader) (t u : Table) (fields : List Text) (x : Row) → (g : Going h all n old t) → Follows true fields new g.rest
    → row h n fields ≡ Ok x → u ≡ with_row t x → Going h all (n + 1) new u
unfolding Follows
going_more h all n old new t u fields x g f e p = record {
  have = g.have ++ x ∷ [];
  rest = f.0;
  coming = f.1.1;
  gives = g.gives ∙ (ap (λ rs. and_then (rows h n rs) (λ xs. Ok (g.have ++ xs))) f.1.0 ∙ (ap (λ r. and_then r (λ xs. Ok (g.have ++ xs))) (step h n fields f.0 ∙ ap (λ r. and_then r (λ x. and_then (rows h (n + 1) f.0) (λ xs. Ok (x ∷ xs)))) e)
      ∙ regroup (rows h (n + 1) f.0) x g.have));
  same = p ∙ (ap (λ y. with_row y x) g.same ∙ with_last g.have x);
}

pub going_err : (h : Header) (all : List (List Text)) (n : ℕ) (old new : ByteReader) (t : Table) (fields : List Text) (f : TableFault) → (g : Going h all n old t) → Follows true fields new g.rest
    → Refuses (row h n fields) f → Refuses (rows h 1 all) f
unfolding Follows
going_err h all n old new t fields f g w (inl m) = inl m
going_err h all n old new t fields f g w (inr e) =
    inr (g.gives ∙ (ap (λ rs. and_then (rows h n rs) (λ xs. Ok (g.have ++ xs))) w.1.0 ∙ ap (λ r. and_then r (λ xs. Ok (g.have ++ xs))) (step h n fields w.0 ∙ ap (λ r. and_then r (λ x. and_then (rows h (n + 1) w.0) (λ xs. Ok (x ∷ xs)))) e)))

pub too_many : (h : Header) (fields : List Text) → row h 65537 fields ≡ Err (TooMany Rows 65537)
too_many h fields = refl

-- no row is left
pub going_all : (h : Header) (all : List (List Text)) (n : ℕ) (old new : ByteReader) (t : Table) (fields : List Text) → (g : Going h all n old t) → Follows false fields new g.rest
    → rows h 1 all ≡ Ok g.have
unfolding Follows
going_all h all n old new t fields g f =
    g.gives ∙ (ap (λ rs. and_then (rows h n rs) (λ xs. Ok (g.have ++ xs))) f ∙ (ap (λ r. and_then r (λ xs. Ok (g.have ++ xs))) (none_left h n) ∙ ap Ok (append-nil g.have)))
