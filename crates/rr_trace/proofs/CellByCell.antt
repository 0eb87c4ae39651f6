-- A row of a table, cell by cell.
use Rattle.std.proofs.Common.{◌≡◌, ◌∙◌, ℕ, ◌+◌, ◌<◌, ◌≤◌, List, [], ◌∷◌, ◌++◌, length, get_or, drop, Option, Some, None, Result, Ok, Err, refl, sym, ap, arith, inl, inr}
use Rattle.std.proofs.lemmas.List.{append_assoc, append-nil, drop_more, length-append}
use Rattle.std.proofs.Math.ListN.{drop_of_length-le}
use Rattle.rr_trace.specs.declared.cell.Cell.{Cell}
use Rattle.rr_trace.specs.declared.fault.TableFault.{TableFault}
use Rattle.rr_trace.specs.Columns.{and_then}
use Rattle.rr_trace.specs.Names.{Text}
use Rattle.rr_trace.specs.Rows.{cell_at, cells}
use Rattle.rr_trace.specs.View.{Refuses}

-- the cells so far
pub record Taken (row : ℕ) (widths : List (Option ℕ)) (fields : List Text) (at : ℕ) (have : List Cell) : Type 0 where
  pub rest : cells row 0 widths fields ≡ and_then (cells row at (drop at widths) (drop at fields)) (λ cs. Ok (have ++ cs))
  pub count : length have ≡ at

same_result : (r : Result (List Cell) TableFault) → r ≡ and_then r (λ cs. Ok ([] ++ cs))
same_result (Ok cs) = refl
same_result (Err e) = refl

pub taken_none : (row : ℕ) (widths : List (Option ℕ)) (fields : List Text) → Taken row widths fields 0 []
taken_none row widths fields = record { rest = same_result (cells row 0 widths fields); count = refl }

step : (row k : ℕ) (w : Option ℕ) (ws : List (Option ℕ)) (f : Text) (fs : List Text)
    → cells row k (w ∷ ws) (f ∷ fs) ≡ and_then (cell_at row k w f) (λ c. and_then (cells row (k + 1) ws fs) (λ cs. Ok (c ∷ cs)))
unfolding cells
step row k w ws f fs = refl

regroup : (r : Result (List Cell) TableFault) (c : Cell) (have : List Cell)
    → and_then (and_then r (λ cs. Ok (c ∷ cs))) (λ cs. Ok (have ++ cs)) ≡ and_then r (λ cs. Ok ((have ++ c ∷ []) ++ cs))
regroup (Ok cs) c have = ap Ok (sym (append_assoc have (c ∷ []) cs))
regroup (Err e) c have = refl

-- the cell at a place, and what is behind it
opened : (row at : ℕ) (widths : List (Option ℕ)) (fields : List Text) → at < length widths → at < length fields
    → cells row at (drop at widths) (drop at fields)
    ≡ and_then (cell_at row at (get_or widths at None) (get_or fields at [])) (λ c. and_then (cells row (at + 1) (drop (at + 1) widths) (drop (at + 1) fields)) (λ cs. Ok (c ∷ cs)))
opened row at widths fields l m = rw (drop_more widths at None l, drop_more fields at [] m) (step row at _ _ _ _)

pub taken_more : (row : ℕ) (widths : List (Option ℕ)) (fields : List Text) (at : ℕ) (have : List Cell) (c : Cell) → at < length widths → at < length fields → Taken row widths fields at have
    → cell_at row at (get_or widths at None) (get_or fields at []) ≡ Ok c → Taken row widths fields (at + 1) (have ++ c ∷ [])
taken_more row widths fields at have c l m h e = record {
  rest = h.rest ∙ (ap (λ r. and_then r (λ cs. Ok (have ++ cs))) (opened row at widths fields l m ∙ ap (λ r. and_then r (λ c. and_then (cells row (at + 1) (drop (at + 1) widths) (drop (at + 1) fields)) (λ cs. Ok (c ∷ cs)))) e)
      ∙ regroup (cells row (at + 1) (drop (at + 1) widths) (drop (at + 1) fields)) c have);
  count = length-append have (c ∷ []) ∙ ap (λ n. n + 1) h.count;
}

pub taken_err : (row : ℕ) (widths : List (Option ℕ)) (fields : List Text) (at : ℕ) (have : List Cell) (f : TableFault) → at < length widths → at < length fields → Taken row widths fields at have
    → cell_at row at (get_or widths at None) (get_or fields at []) ≡ Err f → Refuses (cells row 0 widths fields) f
taken_err row widths fields at have f l m h e =
    inr (h.rest ∙ ap (λ r. and_then r (λ cs. Ok (have ++ cs))) (opened row at widths fields l m ∙ ap (λ r. and_then r (λ c. and_then (cells row (at + 1) (drop (at + 1) widths) (drop (at + 1) fields)) (λ cs. Ok (c ∷ cs)))) e))

none_left : (row k : ℕ) (ws : List (Option ℕ)) (fs : List Text) → ws ≡ [] → cells row k ws fs ≡ Ok []
unfolding cells
none_left row k ws fs e = rw e refl

pub taken_all : (row : ℕ) (widths : List (Option ℕ)) (fields : List Text) (at : ℕ) (have : List Cell) → length widths ≤ at → Taken row widths fields at have → cells row 0 widths fields ≡ Ok have
taken_all row widths fields at have l h =
    h.rest ∙ (ap (λ r. and_then r (λ cs. Ok (have ++ cs))) (none_left row at (drop at widths) (drop at fields) (drop_of_length-le widths l)) ∙ ap Ok (append-nil have))
