-- The steps of the walks over edits and over the bytes that one replaces.
use Rattle.std.proofs.Common.{◌≡◌, ℕ, ◌+◌, ◌-◌, ◌<◌, ◌≤◌, ◌&&◌, Bool, true, false, List, [], ◌∷◌, ◌++◌, take, drop, length, get_or, refl, sym, ◌∙◌, ap, ap₂, subst, arith}
use Rattle.std.specs.List.{All, list_all}
use Rattle.std.proofs.lemmas.Bool.{and_parts, false≢true}
use Rattle.std.proofs.lemmas.List.{append_assoc, drop_more, drop_all, drop-drop, take_rest}
use Rattle.std.proofs.lemmas.List.Elements.{All-nil, All-cons, All-head, All-tail}
use Rattle.rr_directive.specs.declared.origin.Origin.{Origin}
use Rattle.rr_directive.specs.Places.{offset_at}
use Rattle.rr_edit.specs.declared.edit.Edit.{Edit as Made}
use Rattle.rr_edit.specs.Edits.{Edit, InOrder, edited}
use Rattle.rr_edit.specs.Lifted.{exact_at, lifts, lifted}
use Rattle.rr_edit.specs.View.{plain_edit, plain_edits}
use Rattle.rr_map.specs.Moves.{moved, all_moved}
use Rattle.rr_map.proofs.Spread.{order_within}
use Rattle.rr_map.proofs.Adjoining.{stands}
use Rattle.rr_map.proofs.Rising.{moved_order}
use Rattle.rr_map.proofs.Placed.{lifted_is}

-- the edits from one on
pub here : (edits : List Made) (i : ℕ) (e : Made) → i < length edits → e ≡ get_or edits i e → plain_edits (drop i edits) ≡ plain_edit e ∷ plain_edits (drop (i + 1) edits)
here edits i e l is = ap plain_edits (drop_more edits i e l) ∙ ap (λ (x : Made). plain_edit x ∷ plain_edits (drop (i + 1) edits)) (sym is)

past : (edits : List Made) (i : ℕ) → length edits ≤ i → plain_edits (drop i edits) ≡ []
past edits i l = ap plain_edits (drop_all i edits l)

-- what the order says of the first of some edits
pub record First (n : ℕ) (e : Edit) (rest : List Edit) : Type 0 where
  pub order : e.from ≤ e.to
  pub within : e.to ≤ n
  pub rest_order : InOrder e.to n rest

pub first : (place n : ℕ) (es : List Edit) (e : Edit) (rest : List Edit) → es ≡ e ∷ rest → InOrder place n es → First n e rest
unfolding InOrder
first place n es e rest q o =
    let h = subst (InOrder place n) q o in
    record { order = h.1.0; within = order_within e.to n rest h.1.1; rest_order = h.1.1 }

-- and a test of all
pub rest_test : (p : Edit → Bool) (es : List Edit) (e : Edit) (rest : List Edit) (all : Bool) → es ≡ e ∷ rest → p e ≡ true → list_all p es ≡ all → list_all p rest ≡ all
rest_test p es e rest all q t h = ap (λ (c : Bool). c && list_all p rest) (sym t) ∙ sym (ap (list_all p) q) ∙ h

all_true : (p : Edit → Bool) (es : List Edit) → All (λ e. p e ≡ true) es → list_all p es ≡ true
all_true p [] h = refl
all_true p (e ∷ es) h = ap (λ (c : Bool). c && list_all p es) (All-head (λ e. p e ≡ true) e es h) ∙ all_true p es (All-tail (λ e. p e ≡ true) e es h)

pub true_all : (p : Edit → Bool) (es : List Edit) → list_all p es ≡ true → All (λ e. p e ≡ true) es
true_all p [] h = All-nil (λ e. p e ≡ true)
true_all p (e ∷ es) h = let x = and_parts (p e) (list_all p es) h in All-cons (λ e. p e ≡ true) e es x.0 (true_all p es x.1)

pub not_all : (p : Edit → Bool) (es : List Edit) → false ≡ list_all p es → All (λ e. p e ≡ true) es → ⊥
not_all p es f h = false≢true (f ∙ all_true p es h)

-- one edit is made
module _ (file : List ℕ) (origins : List Origin) (edits : List Made) (at i place : ℕ) (moves : InOrder at (length file) (all_moved origins (plain_edits (drop i edits)))) where
  module _ (e : Made) (l : i < length edits) (is : e ≡ get_or edits i e) (order : InOrder place (length origins) (plain_edits (drop i edits))) (lift : list_all (lifts origins) (plain_edits (drop i edits)) ≡ true) where
    abbrev M : Edit
    M = moved origins (plain_edit e)

    abbrev Rest : List Edit
    Rest = plain_edits (drop (i + 1) edits)

    pub record Step : Type 0 where
      pub forth : e.from ≤ e.to
      pub within : e.to ≤ length origins
      pub rest_order : InOrder e.to (length origins) Rest
      pub rest_lift : list_all (lifts origins) Rest ≡ true
      pub room : e.to - e.from ≤ M.to
      pub behind : at ≤ M.from
      pub inside : M.to ≤ length file
      pub moved_forth : M.from ≤ M.to
      pub rest_moves : InOrder M.to (length file) (all_moved origins Rest)

    pub step : Step
    unfolding InOrder
    step =
        let q = here edits i e l is in
        let f = first place (length origins) (plain_edits (drop i edits)) (plain_edit e) Rest q order in
        let x = and_parts (lifts origins (plain_edit e)) (list_all (lifts origins) Rest) (sym (ap (list_all (lifts origins)) q) ∙ lift) in
        let s = stands origins (plain_edit e) f.order f.within x.0 in
        let m = subst (λ (es : List Edit). InOrder at (length file) (all_moved origins es)) q moves in
        record {
          forth = f.order;
          within = f.within;
          rest_order = f.rest_order;
          rest_lift = x.1;
          room = s.room;
          behind = m.0;
          inside = order_within M.to (length file) (all_moved origins Rest) m.1.1;
          moved_forth = m.1.0;
          rest_moves = m.1.1;
        }

    pub made_next : (o next all : List ℕ) (k : ℕ) → next ≡ o ++ (take (M.from - at) (drop at file) ++ e.text.items) → k ≡ M.to →
        o ++ edited at (drop at file) (all_moved origins (plain_edits (drop i edits))) ≡ all → next ++ edited k (drop k file) (all_moved origins Rest) ≡ all
    unfolding edited
    made_next o next all k a b h =
        let s = step in
        let x = s.behind in
        let y = s.moved_forth in
        ap₂ (λ (n : List ℕ) (j : ℕ). n ++ edited j (drop j file) (all_moved origins Rest)) a b
        ∙ append_assoc o (take (M.from - at) (drop at file) ++ e.text.items) (edited M.to (drop M.to file) (all_moved origins Rest))
        ∙ ap (λ (r : List ℕ). o ++ r)
        (append_assoc (take (M.from - at) (drop at file)) e.text.items (edited M.to (drop M.to file) (all_moved origins Rest))
        ∙ ap (λ (r : List ℕ). take (M.from - at) (drop at file) ++ (e.text.items ++ edited M.to r (all_moved origins Rest)))
        (sym (drop-drop (M.to - at) at file ∙ ap (λ (j : ℕ). drop j file) (let z : at + (M.to - at) ≡ M.to = omega (arith, x, y) in z))))
        ∙ ap (λ (es : List Edit). o ++ edited at (drop at file) (all_moved origins es)) (sym (here edits i e l is)) ∙ h

    pub moves_next : (k : ℕ) → k ≡ M.to → InOrder k (length file) (all_moved origins Rest)
    moves_next k b = subst (λ (j : ℕ). InOrder j (length file) (all_moved origins Rest)) (sym b) step.rest_moves

  module _ (l : length edits ≤ i) where
    pub end_within : at ≤ length file
    unfolding InOrder
    end_within = subst (λ (es : List Edit). InOrder at (length file) (all_moved origins es)) (past edits i l) moves

    pub made_end : (o next all : List ℕ) → next ≡ o ++ take (length file - at) (drop at file) → o ++ edited at (drop at file) (all_moved origins (plain_edits (drop i edits))) ≡ all → next ≡ all
    unfolding edited
    made_end o next all a h =
        a ∙ ap (λ (r : List ℕ). o ++ r) (take_rest file at) ∙ ap (λ (es : List Edit). o ++ edited at (drop at file) (all_moved origins es)) (sym (past edits i l)) ∙ h

-- all edits lift
module _ (file text : List ℕ) (origins given : List Origin) (es : List Edit) (same : given ≡ origins) (length_is : length text ≡ length origins) (order : InOrder 0 (length text) es)
    (rise : (j k : ℕ) → j < k → exact_at origins j ≡ true → exact_at origins k ≡ true → offset_at origins j < offset_at origins k)
    (are : (k : ℕ) → exact_at origins k ≡ true → (offset_at origins k < length file) × (get_or file (offset_at origins k) 0 ≡ get_or text k 0))
    (lift : true ≡ list_all (lifts given) es) where
  in_origins : InOrder 0 (length origins) es
  in_origins = subst (λ (n : ℕ). InOrder 0 n es) length_is order

  pub all_lift : All (λ e. lifts origins e ≡ true) es
  all_lift = true_all (lifts origins) es (ap (λ (os : List Origin). list_all (lifts os) es) (sym same) ∙ sym lift)

  in_file : InOrder 0 (length file) (all_moved origins es)
  in_file = moved_order origins (length file) es (record { rise = rise; within = λ k e. (are k e).0 }) in_origins all_lift

  pub moved_in_file : (made : List Origin) → made ≡ origins → InOrder 0 (length file) (all_moved made es)
  moved_in_file made q = subst (λ (os : List Origin). InOrder 0 (length file) (all_moved os es)) (sym q) in_file

  pub is_lifted : (made : List Origin) (out : List ℕ) → made ≡ origins → out ≡ edited 0 file (all_moved made es) → out ≡ lifted origins es 0 file
  is_lifted made out q h = h ∙ ap (λ (os : List Origin). edited 0 file (all_moved os es)) q ∙ sym (lifted_is file origins es in_origins all_lift in_file)
