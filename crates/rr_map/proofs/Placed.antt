-- The lifted file is the file with the moved edits made.
use Rattle.std.proofs.Common.{◌≡◌, ◌⊎◌, inl, inr, ℕ, ◌+◌, ◌-◌, ◌==◌, ◌||◌, Bool, true, if◌then◌else◌, List, [], ◌∷◌, ◌++◌, length, refl, sym, ◌∙◌, ap, ap₂, arith}
use Rattle.std.specs.List.{All, list_any}
use Rattle.std.proofs.lemmas.Bool.{cases_eq, eq-eqb, ne_eqb}
use Rattle.std.proofs.lemmas.List.Elements.{All-head, All-tail}
use Rattle.rr_directive.specs.declared.origin.Origin.{Origin}
use Rattle.rr_directive.specs.Places.{offset_at}
use Rattle.rr_edit.specs.Edits.{Edit, InOrder, edited}
use Rattle.rr_edit.specs.Lifted.{lifts, replaces, texts_at, lifted}
use Rattle.rr_map.specs.Moves.{all_moved}
use Rattle.rr_map.proofs.Spread.{spread, takes, texts_to, NoneFirst, none_first, order_within, Does, spread_is}
use Rattle.rr_map.proofs.Adjoining.{stands}

lifted_spread : (origins : List Origin) (es : List Edit) (at : ℕ) (bs : List ℕ) → lifted origins es at bs ≡ spread (λ k. list_any (replaces origins k) es) (λ k. texts_at origins k es) at bs
unfolding lifted spread
lifted_spread origins es at [] = refl
lifted_spread origins es at (b ∷ bs) =
    ap (λ (l : List ℕ). (if list_any (replaces origins at) es then [] else b ∷ []) ++ (texts_at origins at es ++ l)) (lifted_spread origins es (at + 1) bs)

-- the bytes that are taken out
all_taken : (origins : List Origin) (k place : ℕ) (es : List Edit) → InOrder place (length origins) es → All (λ e. lifts origins e ≡ true) es → list_any (replaces origins k) es ≡ list_any (takes k) (all_moved origins es)
unfolding InOrder
all_taken origins k place [] o h = refl
all_taken origins k place (e ∷ es) o h =
    let s = stands origins e o.1.0 (order_within e.to (length origins) es o.1.1) (All-head (λ e. lifts origins e ≡ true) e es h) in
    ap₂ (λ (x y : Bool). x || y) (s.taken k) (all_taken origins k e.to es o.1.1 (All-tail (λ e. lifts origins e ≡ true) e es h))

-- the texts that are put
same_next : (j k : ℕ) → (j == k) ≡ (j + 1 == k + 1)
same_next j k = by_eq (cases_eq j k)
  where
    by_eq : (j ≡ k) ⊎ (j ≡ k → ⊥) → (j == k) ≡ (j + 1 == k + 1)
    by_eq (inl e) = eq-eqb j k e ∙ sym (eq-eqb (j + 1) (k + 1) (omega (arith, e)))
    by_eq (inr e) = ne_eqb j k e ∙ sym (ne_eqb (j + 1) (k + 1) (λ q. e (omega (arith, q))))

all_texts : (origins : List Origin) (k : ℕ) (es : List Edit) → texts_at origins k es ≡ texts_to (k + 1) (all_moved origins es)
unfolding texts_at texts_to
all_texts origins k [] = refl
all_texts origins k (e ∷ es) = ap₂ (λ (c : Bool) (l : List ℕ). (if c then e.text else []) ++ l) (same_next (offset_at origins (e.to - 1)) k) (all_texts origins k es)

none_moved_first : (origins : List Origin) (es : List Edit) → NoneFirst (all_moved origins es)
unfolding NoneFirst
none_moved_first origins [] = tt
none_moved_first origins (e ∷ es) = (omega arith, none_moved_first origins es)

pub lifted_is : (file : List ℕ) (origins : List Origin) (es : List Edit) → InOrder 0 (length origins) es → All (λ e. lifts origins e ≡ true) es → InOrder 0 (length file) (all_moved origins es) →
    lifted origins es 0 file ≡ edited 0 file (all_moved origins es)
lifted_is file origins es o h m =
    let fs = all_moved origins es in
    let drops = λ (k : ℕ). list_any (replaces origins k) es in
    let texts = λ (k : ℕ). texts_at origins k es in
    let does : Does drops texts file 0 fs = record { dropped = λ k l. all_taken origins k 0 es o h; put = λ k l. all_texts origins k es } in
    let s = none_moved_first origins es in
    lifted_spread origins es 0 file ∙ sym (ap (λ (l : List ℕ). l ++ spread drops texts 0 file) (none_first fs s)) ∙ spread_is drops texts file 0 fs does m s
