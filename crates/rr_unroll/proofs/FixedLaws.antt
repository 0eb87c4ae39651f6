-- the circuits of rows, part by part
use Rattle.std.proofs.Common.{◌≡◌, ℕ, zero, suc, ◌+◌, ◌*◌, ◌<◌, ◌≤◌, List, [], ◌∷◌, ◌++◌, length, get_or, take, drop, take-append-drop, refl, sym, ◌∙◌, ap, subst, arith, add-zero}
use Rattle.std.specs.Prelude.{Vec, flat_map}
use Rattle.std.specs.Global.{Global}
use Rattle.std.proofs.Math.ListN.{drop_of_length-le}
use Rattle.std.proofs.lemmas.List.{drop-drop}
use Rattle.rr_circuit.specs.Values.{OutputNetlist}
use Rattle.rr_transition.specs.Transitions.{Transition, words}
use Rattle.rr_unroll.specs.Fixed.{IsFixed, AreFixed}

pub fixed_length : (t : Transition) (rows : List (List ℕ)) (cs : List OutputNetlist) → AreFixed t rows cs → length cs ≡ length rows
fixed_length t [] [] h = refl
fixed_length t [] (c ∷ cs) h = absurd h
fixed_length t (r ∷ rs) [] h = absurd h
fixed_length t (r ∷ rs) (c ∷ cs) h = let e = fixed_length t rs cs h.1 in omega arith

pub fixed_at : (t : Transition) (rows : List (List ℕ)) (cs : List OutputNetlist) (k : ℕ) (d : OutputNetlist) → AreFixed t rows cs → k < length cs → IsFixed t (words t.input_widths (get_or rows k [])) (get_or cs k d)
fixed_at t [] [] k d h l = absurd (omega arith)
fixed_at t [] (c ∷ cs) k d h l = absurd h
fixed_at t (r ∷ rs) [] k d h l = absurd h
fixed_at t (r ∷ rs) (c ∷ cs) zero d h l = h.0
fixed_at t (r ∷ rs) (c ∷ cs) (suc k) d h l = fixed_at t rs cs k d h.1 (omega arith)

pub fixed_append : (t : Transition) (xs ys : List (List ℕ)) (cs ds : List OutputNetlist) → AreFixed t xs cs → AreFixed t ys ds → AreFixed t (xs ++ ys) (cs ++ ds)
fixed_append t [] ys [] ds h g = g
fixed_append t [] ys (c ∷ cs) ds h g = absurd h
fixed_append t (x ∷ xs) ys [] ds h g = absurd h
fixed_append t (x ∷ xs) ys (c ∷ cs) ds h g = (h.0, fixed_append t xs ys cs ds h.1 g)

pub fixed_push : (t : Transition) (rows : List (List ℕ)) (cs : List OutputNetlist) (row : List ℕ) (c : OutputNetlist) → AreFixed t rows cs → IsFixed t (words t.input_widths row) c → AreFixed t (rows ++ row ∷ []) (cs ++ c ∷ [])
fixed_push t rows cs row c h i = fixed_append t rows (row ∷ []) cs (c ∷ []) h (i, tt)

-- the parts from the k-th on, each of so many rows, are the circuits of the rows that are left
pub in_parts : (t : Transition) (size k : ℕ) (rows : List (List ℕ)) (parts : List (Vec OutputNetlist Global)) → length rows ≤ (k + length parts) * size →
    ((n : ℕ) (d : Vec OutputNetlist Global) → n < length parts → AreFixed t (take size (drop ((k + n) * size) rows)) (get_or parts n d).items) →
    AreFixed t (drop (k * size) rows) (flat_map (λ p. p.items) parts)
in_parts t size k rows [] len each = let end : length rows ≤ k * size = omega arith in rw (drop_of_length-le rows end) tt
in_parts t size k rows (p ∷ ps) len each =
    let first : AreFixed t (take size (drop (k * size) rows)) p.items = let here = each 0 p (omega arith) in rw add-zero at here in
    let rest : AreFixed t (drop ((k + 1) * size) rows) (flat_map (λ q. q.items) ps) = in_parts t size (k + 1) rows ps (omega arith) (λ n d lt.
    let same : (k + 1) + n ≡ k + (n + 1) = omega arith in let one : suc n ≡ n + 1 = omega arith in let more : AreFixed t (take size (drop ((k + suc n) * size) rows)) (get_or ps n d).items = each (suc n) d (omega arith) in rw same (rw one at more)) in
    let place : (k + 1) * size ≡ k * size + size = omega arith in
    let later : drop ((k + 1) * size) rows ≡ drop size (drop (k * size) rows) = ap (λ n. drop n rows) place ∙ sym (drop-drop size (k * size) rows) in
    subst (λ xs. AreFixed t xs (p.items ++ flat_map (λ q. q.items) ps)) (take-append-drop size (drop (k * size) rows))
    (fixed_append t _ _ p.items _ first (subst (λ xs. AreFixed t xs (flat_map (λ q. q.items) ps)) later rest))
