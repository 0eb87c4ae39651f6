-- the states of a run, and the first row that it misses
use Rattle.std.proofs.Common.{◌≡◌, ◌↔◌, ℕ, zero, suc, ◌+◌, ◌<◌, min, Bool, true, false, not, List, [], ◌∷◌, ◌++◌, length, get_or, take, drop, Option, Some, None, is_some, is_none, refl, sym, subst, ◌∙◌, ap, arith}
use Rattle.std.proofs.lemmas.Bool.{false≢true}
use Rattle.std.proofs.lemmas.List.{take_more, take_min}
use Rattle.std.proofs.lemmas.List.Elements.{All-nil, All-append}
use Rattle.rr_trace.specs.declared.cell.Cell.{Cell}
use Rattle.rr_trace.specs.Tables.{Table}
use Rattle.rr_transition.specs.Transitions.{Transition, cycle_bits}
use Rattle.rr_unroll.specs.Questions.{agree_row, judged}
use Rattle.rr_unroll.specs.Walking.{state_after, IsFirstMiss, IsFirstMissed, RowAgrees}
use Rattle.rr_unroll.proofs.JudgedLaws.{all_true, all_are_true}
use Rattle.rr_unroll.proofs.MatchLaws.{AllTrue, next_at, split}

-- ---- the states

pub state_after-none : (t : Transition) (choice state : List Bool) → state_after t choice state [] ≡ state
unfolding state_after
state_after-none t choice state = refl

state_after-append : (t : Transition) (choice state : List Bool) (rows more : List (List ℕ)) → state_after t choice state (rows ++ more) ≡ state_after t choice (state_after t choice state rows) more
unfolding state_after
state_after-append t choice state [] more = refl
state_after-append t choice state (row ∷ rows) more = state_after-append t choice (take t.state_bits (cycle_bits t choice state row)) rows more

state_after-one : (t : Transition) (choice state : List Bool) (row : List ℕ) → state_after t choice state (row ∷ []) ≡ take t.state_bits (cycle_bits t choice state row)
unfolding state_after
state_after-one t choice state row = refl

-- one row more
pub state_after-more : (t : Transition) (choice state next : List Bool) (rows : List (List ℕ)) (r : ℕ) → r < length rows →
    state ≡ state_after t choice t.start (take r rows) → next ≡ take t.state_bits (cycle_bits t choice state (get_or rows r [])) →
    next ≡ state_after t choice t.start (take (r + 1) rows)
state_after-more t choice state next rows r l before e =
    let row : List ℕ = get_or rows r [] in
    e
    ∙ ap (λ xs. take t.state_bits (cycle_bits t choice xs row)) before
    ∙ sym (state_after-one t choice (state_after t choice t.start (take r rows)) row)
    ∙ sym (state_after-append t choice t.start (take r rows) (row ∷ []))
    ∙ ap (λ xs. state_after t choice t.start xs) (sym (take_more rows r [] l))

-- as many rows as there are
pub take_there : (rows : List (List ℕ)) (row r : ℕ) → r ≡ min row (length rows) → take r rows ≡ take row rows
take_there rows row r e = ap (λ n. take n rows) e ∙ take_min row rows

-- ---- a row that agrees or not

module _ (t : Transition) (choice : List Bool) (table : Table) (r : ℕ) (agrees : Bool) where
  pub row_decided : (state : List Bool) (row : List ℕ) (cells : List Cell) →
      state ≡ state_after t choice t.start (take r table.inputs) → row ≡ get_or table.inputs r [] → cells ≡ get_or table.expected r [] →
      agrees ≡ all_true (agree_row t.output_widths cells (drop t.state_bits (cycle_bits t choice state row))) →
      (agrees ≡ true) ↔ RowAgrees t choice table r
  row_decided state row cells s n c e =
      let there : List Bool = state_after t choice t.start (take r table.inputs) in
      all_are_true (agree_row t.output_widths (get_or table.expected r []) (drop t.state_bits (cycle_bits t choice there (get_or table.inputs r [])))) agrees
      (e
      ∙ ap (λ xs. all_true (agree_row t.output_widths cells (drop t.state_bits (cycle_bits t choice xs row)))) s
      ∙ ap (λ xs. all_true (agree_row t.output_widths cells (drop t.state_bits (cycle_bits t choice there xs)))) n
      ∙ ap (λ cs. all_true (agree_row t.output_widths cs (drop t.state_bits (cycle_bits t choice there (get_or table.inputs r []))))) c)

  pub first_missed : r < length table.inputs → ((k : ℕ) → k < r → RowAgrees t choice table k) → ((agrees ≡ true) ↔ RowAgrees t choice table r) → agrees ≡ false → IsFirstMiss t choice table r
  first_missed l before decided off = record {
    here = l;
    before = before;
    missed = λ h. false≢true (sym off ∙ decided.1 h);
  }

-- ---- each row agrees exactly where each verdict is true

module _ (t : Transition) (choice : List Bool) where
  -- a row of the run from a state
  abbrev Agreed : List Bool → List (List ℕ) → List (List Cell) → ℕ → Type 0
  Agreed state rows expected k = AllTrue (agree_row t.output_widths (get_or expected k []) (drop t.state_bits (cycle_bits t choice (state_after t choice state (take k rows)) (get_or rows k []))))

  all_judged : (state : List Bool) (rows : List (List ℕ)) (expected : List (List Cell)) → ((k : ℕ) → k < length rows → Agreed state rows expected k) → AllTrue (judged t choice state rows expected)
  unfolding judged state_after
  all_judged state [] expected h = All-nil (λ (b : Bool). b ≡ true)
  all_judged state (row ∷ rows) expected h =
      let next : List Bool = take t.state_bits (cycle_bits t choice state row) in
      All-append (λ (b : Bool). b ≡ true) (agree_row t.output_widths (get_or expected 0 []) (drop t.state_bits (cycle_bits t choice state row))) (judged t choice next rows (drop 1 expected))
      (h 0 (omega arith))
      (all_judged next rows (drop 1 expected) (λ k l.
      subst (λ cells. AllTrue (agree_row t.output_widths cells (drop t.state_bits (cycle_bits t choice (state_after t choice next (take k rows)) (get_or rows k []))))) (sym (next_at expected k []))
      (h (suc k) (omega arith))))

  all_agreed : (state : List Bool) (rows : List (List ℕ)) (expected : List (List Cell)) → AllTrue (judged t choice state rows expected) → (k : ℕ) → k < length rows → Agreed state rows expected k
  unfolding judged state_after
  all_agreed state [] expected h k l = absurd (omega arith)
  all_agreed state (row ∷ rows) expected h zero l =
      (split (agree_row t.output_widths (get_or expected 0 []) (drop t.state_bits (cycle_bits t choice state row))) (judged t choice (take t.state_bits (cycle_bits t choice state row)) rows (drop 1 expected)) h).0
  all_agreed state (row ∷ rows) expected h (suc k) l =
      let next : List Bool = take t.state_bits (cycle_bits t choice state row) in
      let later = (split (agree_row t.output_widths (get_or expected 0 []) (drop t.state_bits (cycle_bits t choice state row))) (judged t choice next rows (drop 1 expected)) h).1 in
      subst (λ cells. AllTrue (agree_row t.output_widths cells (drop t.state_bits (cycle_bits t choice (state_after t choice next (take k rows)) (get_or rows k []))))) (next_at expected k [])
      (all_agreed next rows (drop 1 expected) later k (omega arith))

pub none_is_missed : (t : Transition) (choice : List Bool) (table : Table) (missed : Option ℕ) → IsFirstMissed t choice table missed →
    (is_none missed ≡ true) ↔ AllTrue (judged t choice t.start table.inputs table.expected)
none_is_missed t choice table None h = (λ e. all_judged t choice t.start table.inputs table.expected h, λ all. refl)
none_is_missed t choice table (Some row) h =
    (λ e. absurd (false≢true e), λ all. absurd (h.missed (all_agreed t choice t.start table.inputs table.expected all row h.here)))

no_value : (missed : Option ℕ) (r : Bool) → is_some missed ≡ not r → is_none missed ≡ r
no_value None true e = refl
no_value None false e = cc
no_value (Some row) true e = cc
no_value (Some row) false e = refl

pub judged_by_miss : (t : Transition) (choice : List Bool) (table : Table) (missed : Option ℕ) (r : Bool) → IsFirstMissed t choice table missed → is_some missed ≡ not r →
    (r ≡ true) ↔ AllTrue (judged t choice t.start table.inputs table.expected)
judged_by_miss t choice table missed r h e =
    subst (λ b. (b ≡ true) ↔ AllTrue (judged t choice t.start table.inputs table.expected)) (no_value missed r e) (none_is_missed t choice table missed h)

-- a row is missed or none is
pub missed_once : (t : Transition) (choice : List Bool) (table : Table) (row : ℕ) → IsFirstMissed t choice table (Some row) → IsFirstMissed t choice table None → ⊥
missed_once t choice table row h none = h.missed (none row h.here)
