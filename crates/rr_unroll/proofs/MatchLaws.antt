-- a question's outputs, and whether the known bits of a table agree
use Rattle.std.proofs.Common.{◌≡◌, ℕ, zero, suc, ◌^◌, ◌<◌, Bool, true, false, ◌&&◌, List, [], ◌∷◌, ◌++◌, length, get_or, drop, map, refl, sym, subst, ◌∙◌, ap, ap₂, arith}
use Rattle.std.specs.Prelude.{All, Option, Some, None, Ok, bit_and}
use Rattle.std.proofs.lemmas.List.{same_lists}
use Rattle.std.proofs.lemmas.List.Elements.{All-nil, All-cons, All-head, All-tail, All-append}
use Rattle.std.proofs.lemmas.Nat.{and_le_l}
use Rattle.rr_bits.specs.Fields.{length_word}
use Rattle.rr_bits.specs.Words.{number, word}
use Rattle.rr_bits.proofs.Numbers.{number_small}
use Rattle.rr_bits.proofs.Places.{has, has_and, get_word}
use Rattle.rr_flat.specs.Clocks.{IsChosen, IsDecided}
use Rattle.rr_flat.specs.Plain.{Block, Flat}
use Rattle.rr_flat.specs.Signals.{Text}
use Rattle.rr_cycle.specs.Cycles.{Run, Runs, ended, cycle}
use Rattle.rr_cycle.specs.Exec.{Environment, first, rest}
use Rattle.rr_cycle.proofs.Settled.{run_only}
use Rattle.rr_clock.proofs.Clocking.{chosen_same}
use Rattle.rr_trace.specs.declared.cell.Cell.{Cell}
use Rattle.rr_trace.specs.Cells.{unknown_cell}
use Rattle.rr_trace.specs.Misses.{Agree, Agrees, AgreeRows}
use Rattle.rr_trace.specs.Tables.{Table}
use Rattle.rr_transition.specs.Cycles.{Design, IsLawfulFlat, widths_of}
use Rattle.rr_unroll.specs.Faithful.{IsJudged}
use Rattle.rr_unroll.specs.Matches.{AreFit, FitsOutputs, Matches}
use Rattle.rr_unroll.specs.Questions.{is_same, agree, agree_row, agreed}
use Rattle.rr_transition.specs.Transitions.{words}
use Rattle.rr_unroll.proofs.AskedLaws.{first_head}

abbrev pub AllTrue : List Bool → Type 0
AllTrue bits = All (λ (b : Bool). b ≡ true) bits

pub split : (xs ys : List Bool) → AllTrue (xs ++ ys) → AllTrue xs × AllTrue ys
split [] ys h = (All-nil (λ (b : Bool). b ≡ true), h)
split (x ∷ xs) ys h =
    let r = split xs ys (All-tail (λ (b : Bool). b ≡ true) x (xs ++ ys) h) in
    (All-cons (λ (b : Bool). b ≡ true) x xs (All-head (λ (b : Bool). b ≡ true) x (xs ++ ys) h) r.0, r.1)

same_is : (x y : Bool) → is_same x y ≡ true → x ≡ y
same_is true true h = refl
same_is true false h = cc
same_is false true h = cc
same_is false false h = refl

is_same_self : (x : Bool) → is_same x x ≡ true
is_same_self true = refl
is_same_self false = refl

next_bit : (xs : List Bool) (i : ℕ) → get_or (rest xs) i false ≡ get_or xs (suc i) false
next_bit [] i = refl
next_bit (x ∷ xs) i = refl

pub next_at : {A : Type 0} (xs : List A) (i : ℕ) (d : A) → get_or (drop 1 xs) i d ≡ get_or xs (suc i) d
next_at [] i d = refl
next_at (x ∷ xs) i d = refl

-- ---- bit by bit

agree_there : (ks es bs : List Bool) → AllTrue (agree ks es bs) → (i : ℕ) → i < length ks → get_or ks i false ≡ true → get_or es i false ≡ get_or bs i false
unfolding agree
agree_there [] es bs h i l e = absurd (omega arith)
agree_there (true ∷ ks) es bs h zero l e =
    sym (first_head es) ∙ same_is (first es) (first bs) (All-head (λ (b : Bool). b ≡ true) _ (agree ks (rest es) (rest bs)) h) ∙ first_head bs
agree_there (false ∷ ks) es bs h zero l e = cc
agree_there (true ∷ ks) es bs h (suc i) l e =
    sym (next_bit es i) ∙ agree_there ks (rest es) (rest bs) (All-tail (λ (b : Bool). b ≡ true) _ (agree ks (rest es) (rest bs)) h) i (omega arith) e ∙ next_bit bs i
agree_there (false ∷ ks) es bs h (suc i) l e = sym (next_bit es i) ∙ agree_there ks (rest es) (rest bs) h i (omega arith) e ∙ next_bit bs i

agree_back : (ks es bs : List Bool) → ((i : ℕ) → i < length ks → get_or ks i false ≡ true → get_or es i false ≡ get_or bs i false) → AllTrue (agree ks es bs)
unfolding agree
agree_back [] es bs h = All-nil (λ (b : Bool). b ≡ true)
agree_back (true ∷ ks) es bs h =
    let here : first es ≡ first bs = first_head es ∙ h 0 (omega arith) refl ∙ sym (first_head bs) in
    All-cons (λ (b : Bool). b ≡ true) _ (agree ks (rest es) (rest bs)) (ap (λ x. is_same x (first bs)) here ∙ is_same_self (first bs))
    (agree_back ks (rest es) (rest bs) (λ i l e. next_bit es i ∙ h (suc i) (omega arith) e ∙ sym (next_bit bs i)))
agree_back (false ∷ ks) es bs h = agree_back ks (rest es) (rest bs) (λ i l e. next_bit es i ∙ h (suc i) (omega arith) e ∙ sym (next_bit bs i))

agree-append : (ks es bs ks' es' bs' : List Bool) → length es ≡ length ks → length bs ≡ length ks → agree (ks ++ ks') (es ++ es') (bs ++ bs') ≡ agree ks es bs ++ agree ks' es' bs'
unfolding agree
agree-append [] [] [] ks' es' bs' p q = refl
agree-append [] (e ∷ es) bs ks' es' bs' p q = absurd (omega arith)
agree-append [] [] (b ∷ bs) ks' es' bs' p q = absurd (omega arith)
agree-append (k ∷ ks) [] bs ks' es' bs' p q = absurd (omega arith)
agree-append (k ∷ ks) (e ∷ es) [] ks' es' bs' p q = absurd (omega arith)
agree-append (true ∷ ks) (e ∷ es) (b ∷ bs) ks' es' bs' p q = ap (λ xs. is_same e b ∷ xs) (agree-append ks es bs ks' es' bs' (omega arith) (omega arith))
agree-append (false ∷ ks) (e ∷ es) (b ∷ bs) ks' es' bs' p q = agree-append ks es bs ks' es' bs' (omega arith) (omega arith)

-- ---- cell by cell

module _ (w k v n : ℕ) where
  cell_there : k < 2 ^ w → AllTrue (agree (word w k) (word w v) (word w n)) → bit_and k v ≡ bit_and k n
  cell_there small h =
      let le = and_le_l k v in
      let le' = and_le_l k n in
      sym (number_small w (bit_and k v) (omega arith))
      ∙ ap number (same_lists (word w (bit_and k v)) (word w (bit_and k n)) (length_word w (bit_and k v) ∙ sym (length_word w (bit_and k n))) at_place)
      ∙ number_small w (bit_and k n) (omega arith)
    where
      with_known : (i : ℕ) (b : Bool) → i < w → has k i ≡ b → (has k i && has v i) ≡ (has k i && has n i)
      with_known i true l e =
          let lw : i < length (word w k) = rw length_word l in
          let there = agree_there (word w k) (word w v) (word w n) h i lw (get_word w k i false l ∙ e) in
          ap (λ x. has k i && x) (sym (get_word w v i false l) ∙ there ∙ get_word w n i false l)
      with_known i false l e = rw e

      at_place : (i : ℕ) (d : Bool) → i < length (word w (bit_and k v)) → get_or (word w (bit_and k v)) i d ≡ get_or (word w (bit_and k n)) i d
      at_place i d l =
          let here : i < w = rw length_word at l in
          get_word w (bit_and k v) i d here ∙ has_and k v i ∙ with_known i (has k i) here refl ∙ sym (has_and k n i) ∙ sym (get_word w (bit_and k n) i d here)

  cell_back : bit_and k v ≡ bit_and k n → AllTrue (agree (word w k) (word w v) (word w n))
  cell_back e = agree_back (word w k) (word w v) (word w n) (λ i l known.
      let here : i < w = rw length_word at l in
      let on : has k i ≡ true = sym (get_word w k i false here) ∙ known in
      let both : (has k i && has v i) ≡ (has k i && has n i) = sym (has_and k v i) ∙ ap (λ x. has x i) e ∙ has_and k n i in
      let bits : has v i ≡ has n i = rw on at both in
      get_word w v i false here ∙ bits ∙ sym (get_word w n i false here))

  cell-append : (ks es bs : List Bool) → agree (word w k ++ ks) (word w v ++ es) (word w n ++ bs) ≡ agree (word w k) (word w v) (word w n) ++ agree ks es bs
  cell-append ks es bs = agree-append (word w k) (word w v) (word w n) ks es bs (length_word w v ∙ sym (length_word w k)) (length_word w n ∙ sym (length_word w k))

agree_next : (c : Cell) (cells : List Cell) (outs : List ℕ) → Agrees c (get_or outs 0 0) → Agree cells (drop 1 outs) (length cells) → Agree (c ∷ cells) outs (suc (length cells))
agree_next c cells outs a more zero l = a
agree_next c cells outs a more (suc o) l = subst (Agrees (get_or cells o unknown_cell)) (next_at outs o 0) (more o (omega arith))

row_there : (ws : List ℕ) (cells : List Cell) (outs : List ℕ) → AreFit ws cells → AllTrue (agree_row ws cells (words ws outs)) → Agree cells outs (length cells)
unfolding words
row_there [] [] outs f h = λ o l. absurd (omega arith)
row_there [] (c ∷ cells) outs f h = absurd f
row_there (w ∷ ws) [] outs f h = absurd f
row_there (w ∷ ws) (c ∷ cells) outs f h =
    let later : List Bool = agree_row ws cells (words ws (drop 1 outs)) in
    let parts = split _ later (subst AllTrue (cell-append w c.known c.value (get_or outs 0 0) (words ws (map (λ (x : Cell). x.known) cells)) (words ws (map (λ (x : Cell). x.value) cells)) (words ws (drop 1 outs))) h) in
    agree_next c cells outs (cell_there w c.known c.value (get_or outs 0 0) f.0 parts.0) (row_there ws cells (drop 1 outs) f.1 parts.1)

row_back : (ws : List ℕ) (cells : List Cell) (outs : List ℕ) → AreFit ws cells → Agree cells outs (length cells) → AllTrue (agree_row ws cells (words ws outs))
unfolding words agree
row_back [] [] outs f h = All-nil (λ (b : Bool). b ≡ true)
row_back [] (c ∷ cells) outs f h = absurd f
row_back (w ∷ ws) [] outs f h = absurd f
row_back (w ∷ ws) (c ∷ cells) outs f h =
    subst AllTrue (sym (cell-append w c.known c.value (get_or outs 0 0) (words ws (map (λ (x : Cell). x.known) cells)) (words ws (map (λ (x : Cell). x.value) cells)) (words ws (drop 1 outs))))
    (All-append (λ (b : Bool). b ≡ true) _ (agree_row ws cells (words ws (drop 1 outs)))
    (cell_back w c.known c.value (get_or outs 0 0) (h 0 (omega arith)))
    (row_back ws cells (drop 1 outs) f.1 (λ o l. subst (Agrees (get_or cells o unknown_cell)) (sym (next_at outs o 0)) (h (suc o) (omega arith)))))

-- ---- row by row

rows_next : (cells : List Cell) (more : List (List Cell)) (o : List ℕ) (os : List (List ℕ)) → Agree cells o (length cells) → AgreeRows more os (length more) → AgreeRows (cells ∷ more) (o ∷ os) (suc (length more))
rows_next cells more o os a h zero l = a
rows_next cells more o os a h (suc r) l = h r (omega arith)

pub rows_there : (ws : List ℕ) (expected : List (List Cell)) (outputs : List (List ℕ)) → length expected ≡ length outputs → All (AreFit ws) expected → AllTrue (agreed ws expected outputs) → AgreeRows expected outputs (length expected)
unfolding agreed
rows_there ws [] [] e f h = λ r l. absurd (omega arith)
rows_there ws [] (o ∷ os) e f h = absurd (omega arith)
rows_there ws (cells ∷ more) [] e f h = absurd (omega arith)
rows_there ws (cells ∷ more) (o ∷ os) e f h =
    let parts = split (agree_row ws cells (words ws o)) (agreed ws more os) h in
    rows_next cells more o os (row_there ws cells o (All-head (AreFit ws) cells more f) parts.0)
    (rows_there ws more os (omega arith) (All-tail (AreFit ws) cells more f) parts.1)

pub rows_back : (ws : List ℕ) (expected : List (List Cell)) (outputs : List (List ℕ)) → length expected ≡ length outputs → All (AreFit ws) expected → AgreeRows expected outputs (length expected) → AllTrue (agreed ws expected outputs)
unfolding agreed
rows_back ws [] [] e f h = All-nil (λ (b : Bool). b ≡ true)
rows_back ws [] (o ∷ os) e f h = absurd (omega arith)
rows_back ws (cells ∷ more) [] e f h = absurd (omega arith)
rows_back ws (cells ∷ more) (o ∷ os) e f h =
    All-append (λ (b : Bool). b ≡ true) (agree_row ws cells (words ws o)) (agreed ws more os)
    (row_back ws cells o (All-head (AreFit ws) cells more f) (h 0 (omega arith)))
    (rows_back ws more os (omega arith) (All-tail (AreFit ws) cells more f) (λ r l. h (suc r) (omega arith)))

-- ---- runs

length_runs : {flat : Flat} {clock : Option ℕ} {state last : Environment} {rows outputs : List (List ℕ)} → Runs flat clock state rows outputs last → length outputs ≡ length rows
length_runs ended = refl
length_runs (cycle env next settled edge more) = ap suc (length_runs more)

-- a design has one flat design, one clock and one run
pub same_flat : (j : Design) (f g : Flat) (c d : Option ℕ) → IsLawfulFlat j f c → IsLawfulFlat j g d → f ≡ g
same_flat j f g c d a b = let both : Ok f ≡ Ok g = sym a.design ∙ b.design in cc

no_other : (flat : Flat) (word : Option Text) (c : ℕ) → IsChosen flat word (Some c) → IsChosen flat word None → ⊥
no_other flat None c h k = go flat.clocked h k
  where
    go : (bs : List Block) → IsDecided flat bs (Some c) → IsDecided flat bs None → ⊥
    go [] p q = cc
    go (b ∷ bs) p q = q
no_other flat (Some name) c h k = k

clock_same : (flat : Flat) (word : Option Text) (c d : Option ℕ) → IsChosen flat word c → IsChosen flat word d → c ≡ d
clock_same flat word None None h k = refl
clock_same flat word None (Some d) h k = absurd (no_other flat word d k h)
clock_same flat word (Some c) None h k = absurd (no_other flat word c h k)
clock_same flat word (Some c) (Some d) h k = ap Some (chosen_same flat word c d h k)

same_clock : (j : Design) (f : Flat) (c d : Option ℕ) → IsLawfulFlat j f c → IsLawfulFlat j f d → c ≡ d
same_clock j f c d a b = clock_same f j.word c d a.one_clock.chosen b.one_clock.chosen

same_runs : (j : Design) (f g : Flat) (c d : Option ℕ) (rows x y : List (List ℕ)) → f ≡ g → IsLawfulFlat j f c → IsLawfulFlat j g d → Run f c rows x → Run g d rows y → x ≡ y
same_runs j f g c d rows x y e a b p q =
    let b' : IsLawfulFlat j f d = subst (λ z. IsLawfulFlat j z d) (sym e) b in
    let q' : Run f d rows y = subst (λ z. Run z d rows y) (sym e) q in
    run_only f (j.word, a.lawful) c rows x y p (subst (λ z. Run f z rows y) (sym (same_clock j f c d a b')) q')

pub judged_once : (j : Design) (table : Table) (xs ys : List Bool) → IsJudged j table xs → IsJudged j table ys → xs ≡ ys
judged_once j table xs ys a b =
    let e = same_flat j a.flat b.flat a.clock b.clock a.design b.design in
    let o = same_runs j a.flat b.flat a.clock b.clock table.inputs a.outputs b.outputs e a.design b.design a.run b.run in
    a.verdicts ∙ ap₂ (λ f os. agreed (widths_of f f.outputs) table.expected os) e o ∙ sym b.verdicts

pub matches_there : (j : Design) (table : Table) (xs : List Bool) (a : IsJudged j table xs) → FitsOutputs (widths_of a.flat a.flat.outputs) table → AllTrue xs → Matches j table
matches_there j table xs a f h = record {
  flat = a.flat;
  clock = a.clock;
  design = a.design;
  outputs = a.outputs;
  run = a.run;
  agree = rows_there (widths_of a.flat a.flat.outputs) table.expected a.outputs (f.rows ∙ sym (length_runs a.run.1)) f.cells (subst AllTrue a.verdicts h);
}

pub matches_back : (j : Design) (table : Table) (xs : List Bool) (a : IsJudged j table xs) → FitsOutputs (widths_of a.flat a.flat.outputs) table → Matches j table → AllTrue xs
matches_back j table xs a f m =
    let e = same_flat j m.flat a.flat m.clock a.clock m.design a.design in
    let o = same_runs j m.flat a.flat m.clock a.clock table.inputs m.outputs a.outputs e m.design a.design m.run a.run in
    subst AllTrue (sym a.verdicts)
    (rows_back (widths_of a.flat a.flat.outputs) table.expected a.outputs (f.rows ∙ sym (length_runs a.run.1)) f.cells
    (subst (λ os. AgreeRows table.expected os (length table.expected)) o m.agree))
