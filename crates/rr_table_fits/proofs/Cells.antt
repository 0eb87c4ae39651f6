-- The cells of a row that was read: no bit past the width of its column is known.
use Rattle.std.proofs.Common.{◌≡◌, ℕ, zero, suc, ◌+◌, ◌^◌, ◌<◌, Bool, true, false, not, cond, List, [], ◌∷◌, length, get_or, Option, Some, None, Result, Ok, Err, refl, sym, subst, arith}
use Rattle.std.specs.Prelude.{All, nat_eq, nat_lt}
use Rattle.std.proofs.lemmas.List.Elements.{All-nil, All-cons}
use Rattle.std.proofs.lemmas.Nat.{pow_pos}
use Rattle.rr_trace.specs.declared.cell.Cell.{Cell}
use Rattle.rr_trace.specs.declared.fault.TableFault.{TableFault}
use Rattle.rr_trace.specs.declared.fault.TableFault.TheVariants.{RowLength, TooMany}
use Rattle.rr_flat.specs.declared.fault.Limit.TheVariants.{Rows}
use Rattle.rr_trace.specs.Cells.{Written, Unknown, Number, Numeral, cell_of_numeral, fitted, unknown_cell, written}
use Rattle.rr_trace.specs.Columns.{Header, and_then, trimmed}
use Rattle.rr_trace.specs.Names.{Text}
use Rattle.rr_trace.specs.Rows.{Row, cell_at, cell_or_fault, cells, row, row_of_cells, rows}

-- nothing is known in a column that is not read
abbrev pub IsNarrow : Option ℕ → Cell → Type 0
IsNarrow None c = c.known ≡ 0
IsNarrow (Some w) c = c.known < 2 ^ w

unknown_narrow : (o : Option ℕ) → IsNarrow o unknown_cell
unknown_narrow None = refl
unknown_narrow (Some w) = pow_pos w

numeral_narrow : (w : ℕ) (n : Numeral) (c : Cell) → cell_of_numeral w n ≡ c → c.known < 2 ^ w
numeral_narrow w n c same =
    let p = pow_pos w in
    subst (λ (x : Cell). x.known < 2 ^ w) same (omega arith)

told_narrow : (row k w : ℕ) (o : Option Written) (c : Cell) → cell_or_fault row k (fitted w o) ≡ Ok c → c.known < 2 ^ w
told_narrow row k w None c e = cc
told_narrow row k w (Some Unknown) c e = let same : unknown_cell ≡ c = cc in subst (λ (x : Cell). x.known < 2 ^ w) same (pow_pos w)
told_narrow row k w (Some (Number n)) c e = go (nat_lt n.0 (2 ^ w)) refl
  where
    go : (b : Bool) → nat_lt n.0 (2 ^ w) ≡ b → c.known < 2 ^ w
    go true h = let d = rw h at e in numeral_narrow w n c (let same : cell_of_numeral w n ≡ c = cc in same)
    go false h = let d = rw h at e in cc

cell_narrow : (row k : ℕ) (o : Option ℕ) (field : Text) (c : Cell) → cell_at row k o field ≡ Ok c → IsNarrow o c
cell_narrow row k None field c e = let same : unknown_cell ≡ c = cc in subst (λ (x : Cell). x.known ≡ 0) same refl
cell_narrow row k (Some w) field c e = told_narrow row k w (written (trimmed field)) c e

nothing_at : (i : ℕ) → get_or [] i unknown_cell ≡ unknown_cell
nothing_at i = refl

pub cells_narrow : (row k : ℕ) (ws : List (Option ℕ)) (fs : List Text) (cs : List Cell) → cells row k ws fs ≡ Ok cs → (i : ℕ) → IsNarrow (get_or ws i None) (get_or cs i unknown_cell)
unfolding cells
cells_narrow row k [] fs cs e i = let same : [] ≡ cs = cc in subst (λ (xs : List Cell). (get_or xs i unknown_cell).known ≡ 0) same refl
cells_narrow row k (w ∷ ws) [] cs e i = let same : [] ≡ cs = cc in subst (λ (xs : List Cell). IsNarrow (get_or (w ∷ ws) i None) (get_or xs i unknown_cell)) same (unknown_narrow (get_or (w ∷ ws) i None))
cells_narrow row k (w ∷ ws) (f ∷ fs) cs e i = go (cell_at row k w f) refl (cells row (k + 1) ws fs) (λ ds d j. cells_narrow row (k + 1) ws fs ds d j) e i
  where
    at : (c : Cell) (ds : List Cell) (i : ℕ) → IsNarrow w c → ((j : ℕ) → IsNarrow (get_or ws j None) (get_or ds j unknown_cell)) → IsNarrow (get_or (w ∷ ws) i None) (get_or (c ∷ ds) i unknown_cell)
    at c ds zero here more = here
    at c ds (suc i) here more = more i

    go : (r : Result Cell TableFault) → cell_at row k w f ≡ r → (s : Result (List Cell) TableFault) → ((ds : List Cell) → s ≡ Ok ds → (j : ℕ) → IsNarrow (get_or ws j None) (get_or ds j unknown_cell)) →
        and_then r (λ c. and_then s (λ xs. Ok (c ∷ xs))) ≡ Ok cs → (i : ℕ) → IsNarrow (get_or (w ∷ ws) i None) (get_or cs i unknown_cell)
    go (Err x) h s rec d i = cc
    go (Ok c) h (Err x) rec d i = cc
    go (Ok c) h (Ok ds) rec d i =
        let same : c ∷ ds ≡ cs = cc in
        subst (λ (xs : List Cell). IsNarrow (get_or (w ∷ ws) i None) (get_or xs i unknown_cell)) same (at c ds i (cell_narrow row k w f c h) (λ j. rec ds refl j))

-- a row is made of its cells
abbrev pub IsOfCells : Header → Row → Type 0
IsOfCells h x = (cs : List Cell) × ((x ≡ row_of_cells h cs) × ((i : ℕ) → IsNarrow (get_or h.widths i None) (get_or cs i unknown_cell)))

row_cells : (h : Header) (n : ℕ) (fields : List Text) (x : Row) → row h n fields ≡ Ok x → IsOfCells h x
row_cells h n fields x e = many (nat_lt 65536 n) e
  where
    read : (r : Result (List Cell) TableFault) → cells n 0 h.widths fields ≡ r → and_then r (λ cs. Ok (row_of_cells h cs)) ≡ Ok x → IsOfCells h x
    read (Err f) s d = cc
    read (Ok cs) s d = let same : row_of_cells h cs ≡ x = cc in (cs, (sym same, cells_narrow n 0 h.widths fields cs s))

    long : (b : Bool) → cond b (Err (RowLength n)) (and_then (cells n 0 h.widths fields) (λ cs. Ok (row_of_cells h cs))) ≡ Ok x → IsOfCells h x
    long true d = cc
    long false d = read (cells n 0 h.widths fields) refl d

    many : (b : Bool) → cond b (Err (TooMany Rows n)) (cond (not (nat_eq (length fields) (length h.widths))) (Err (RowLength n)) (and_then (cells n 0 h.widths fields) (λ cs. Ok (row_of_cells h cs)))) ≡ Ok x → IsOfCells h x
    many true d = cc
    many false d = long (not (nat_eq (length fields) (length h.widths))) d

pub rows_cells : (h : Header) (n : ℕ) (rs : List (List Text)) (xs : List Row) → rows h n rs ≡ Ok xs → All (IsOfCells h) xs
unfolding rows
rows_cells h n [] xs e = let same : [] ≡ xs = cc in subst (All (IsOfCells h)) same (All-nil (IsOfCells h))
rows_cells h n (r ∷ rs) xs e = go (row h n r) refl (rows h (n + 1) rs) (λ ys d. rows_cells h (n + 1) rs ys d) e
  where
    go : (o : Result Row TableFault) → row h n r ≡ o → (s : Result (List Row) TableFault) → ((ys : List Row) → s ≡ Ok ys → All (IsOfCells h) ys) →
        and_then o (λ x. and_then s (λ ys. Ok (x ∷ ys))) ≡ Ok xs → All (IsOfCells h) xs
    go (Err f) d s rec q = cc
    go (Ok x) d (Err f) rec q = cc
    go (Ok x) d (Ok ys) rec q = let same : x ∷ ys ≡ xs = cc in subst (All (IsOfCells h)) same (All-cons (IsOfCells h) x ys (row_cells h n r x d) (rec ys refl))
