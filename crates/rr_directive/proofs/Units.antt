-- The units of bytes from a place on.
use Rattle.std.proofs.Common.{ℕ, zero, suc, ◌≡◌, ◌+◌, ◌-◌, ◌≤◌, ◌<◌, List, [], ◌∷◌, length, drop, take, get_or, refl, ap, ◌∙◌, sym, arith}
use Rattle.std.proofs.lemmas.List.{drop-drop, drop_more, drop_all}
use Rattle.rr_directive.specs.declared.piece.Piece.{Piece as CodePiece}
use Rattle.rr_directive.specs.Pieces.{Piece, TextUnit, piece, units}
use Rattle.rr_directive.specs.View.{plain_piece, unit_at, IsIn}

units_skip : (at k : ℕ) (bs : List ℕ) → units at k bs ≡ units (at + k) 0 (drop k bs)
unfolding units
units_skip at zero bs = let e : at ≡ at + 0 = omega arith in ap (λ (n : ℕ). units n 0 bs) e
units_skip at (suc k) [] = refl
units_skip at (suc k) (b ∷ bs) = let e : at + 1 + k ≡ at + suc k = omega arith in units_skip (at + 1) k bs ∙ ap (λ (n : ℕ). units n 0 (drop k bs)) e

abbrev with_piece : ℕ → List ℕ → Piece → TextUnit
with_piece at bs p = record { at = at; piece = p; bytes = take p.size bs }

units_first : (at b : ℕ) (bs : List ℕ) (p : Piece) → piece (b ∷ bs) ≡ p → units at 0 (b ∷ bs) ≡ with_piece at (b ∷ bs) p ∷ units (at + 1) (p.size - 1) bs
unfolding units
units_first at b bs p e = ap (λ (q : Piece). with_piece at (b ∷ bs) q ∷ units (at + 1) (q.size - 1) bs) e

pub unit_here : (bs : List ℕ) (at : ℕ) (p : CodePiece) → at < length bs → IsIn bs at p → plain_piece bs at p ≡ piece (drop at bs) →
    units at 0 (drop at bs) ≡ unit_at bs at p ∷ units p.end 0 (drop p.end bs)
unit_here bs at p l k e =
    let d : drop at bs ≡ get_or bs at 0 ∷ drop (at + 1) bs = drop_more bs at 0 l in
    let q : piece (get_or bs at 0 ∷ drop (at + 1) bs) ≡ plain_piece bs at p = ap piece (sym d) ∙ sym e in
    let f = units_first at (get_or bs at 0) (drop (at + 1) bs) (plain_piece bs at p) q in
    let n : at + 1 + (p.end - at - 1) ≡ p.end = omega (arith, k.some) in
    let t : units (at + 1) (p.end - at - 1) (drop (at + 1) bs) ≡ units p.end 0 (drop p.end bs) =
    units_skip (at + 1) (p.end - at - 1) (drop (at + 1) bs) ∙ (ap (λ (m : ℕ). units m 0 (drop (p.end - at - 1) (drop (at + 1) bs))) n ∙
    ap (units p.end 0) (drop-drop (p.end - at - 1) (at + 1) bs ∙ ap (λ (m : ℕ). drop m bs) n)) in
    let u : with_piece at (get_or bs at 0 ∷ drop (at + 1) bs) (plain_piece bs at p) ≡ unit_at bs at p = ap (λ (xs : List ℕ). with_piece at xs (plain_piece bs at p)) (sym d) in
    ap (units at 0) d ∙ (f ∙ (ap (λ (us : List TextUnit). with_piece at (get_or bs at 0 ∷ drop (at + 1) bs) (plain_piece bs at p) ∷ us) t ∙ ap (λ (v : TextUnit). v ∷ units p.end 0 (drop p.end bs)) u))

pub units_end : (bs : List ℕ) (at : ℕ) → length bs ≤ at → units at 0 (drop at bs) ≡ []
unfolding units
units_end bs at l = ap (units at 0) (drop_all at bs l)
