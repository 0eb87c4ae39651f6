-- targets on wires
use Rattle.std.proofs.Common.{◌≡◌, ◌∙◌, sym, ap, refl, ℕ, zero, suc, ◌+◌, ◌<◌, ◌≤◌, Bool, true, false, cond, not, ◌&&◌, List, [], ◌∷◌, ◌++◌, Option, length, get_or, drop, drop-cons, arith, inl, inr, ℤ, pos, ◌+ℤ◌, ◌-ℤ◌, int_lt}
use mathlib.Core.Path.{fun_ext}
use Rattle.std.proofs.lemmas.Bool.{both_ways, cases_Bool}
use Rattle.std.proofs.lemmas.Bool.Decides.{Decides-int_eq}
use Rattle.std.specs.Ordering.{int_eq}
use Rattle.std.proofs.lemmas.Int.{ints}
use Rattle.std.proofs.lemmas.List.{drop_all}
use Rattle.std.proofs.lemmas.List.Elements.{All-head, All-tail}
use Rattle.rr_circuit.specs.Values.{Netlist, Extends, wire_value}
use Rattle.rr_expr.specs.declared.types.Bit.{Bit}
use Rattle.rr_expr.specs.declared.types.Entity.TheVariants.{Constant, Signal, Memory, Instance}
use Rattle.rr_expr.specs.Reading.{IsWithin}
use Rattle.rr_expr.specs.Scopes.{range_width}
use Rattle.rr_flat.specs.Targets.{bits_there, has_bit}
use Rattle.rr_flat.proofs.Bits.{missed}
use Rattle.rr_named_bits.specs.declared.piece.Piece.{Piece}
use Rattle.rr_named_bits.specs.Pieces.{bits_of}
use Rattle.rr_named_bits.proofs.Runs.{covers_in, has_in, has_there, signal_run}
use Rattle.rr_cycle.specs.Exec.{Environment, rest, write}
use Rattle.rr_cycle.proofs.Writes.{write_outside}
use Rattle.rr_signal_wires.proofs.RunLaws.{same_if}
use Rattle.rr_signal_wires.specs.declared.guarded_pieces.GuardedPiece.{GuardedPiece}
use Rattle.rr_signal_wires.specs.GuardedPieces.{AreGuardedPieces, IsGuardedPiece, put_guarded_piece, put_guarded_pieces}
use Rattle.rr_signal_wires.specs.Words.{Fits}

pub AreGuardedPieces-extends : (old new : Netlist) (widths : List ℕ) (ps : List GuardedPiece) → Extends old new → AreGuardedPieces old widths ps → AreGuardedPieces new widths ps
AreGuardedPieces-extends old new widths ps e h k d l = let s = h k d l in record { piece = s.piece; when = e.wires _ s.when; from = s.from }

pub put_guarded_pieces-extends : (old new : Netlist) (env : ℕ → Bool) (widths : List ℕ) (ps : List GuardedPiece) (vs : List Bool) (e : Environment) → Extends old new → AreGuardedPieces old widths ps → put_guarded_pieces new env ps vs e ≡ put_guarded_pieces old env ps vs e
unfolding put_guarded_pieces
put_guarded_pieces-extends old new env widths [] vs e x h = refl
put_guarded_pieces-extends old new env widths (p ∷ ps) vs e x h =
    ap (λ (t : Bool). put_guarded_pieces new env ps vs (cond t (write (bits_of p.piece) (drop p.from vs) e) e)) (x.values env p.when (All-head (IsGuardedPiece old widths) p ps h).when)
    ∙ put_guarded_pieces-extends old new env widths ps vs (put_guarded_piece old env p vs e) x (All-tail (IsGuardedPiece old widths) p ps h)

pub put_guarded_pieces-append : (n : Netlist) (env : ℕ → Bool) (ps qs : List GuardedPiece) (vs : List Bool) (e : Environment) → put_guarded_pieces n env (ps ++ qs) vs e ≡ put_guarded_pieces n env qs vs (put_guarded_pieces n env ps vs e)
unfolding put_guarded_pieces
put_guarded_pieces-append n env [] qs vs e = refl
put_guarded_pieces-append n env (p ∷ ps) qs vs e = put_guarded_pieces-append n env ps qs vs (put_guarded_piece n env p vs e)

pub put_guarded_pieces-push : (n : Netlist) (env : ℕ → Bool) (ps : List GuardedPiece) (p : GuardedPiece) (vs : List Bool) (e : Environment) → put_guarded_pieces n env (ps ++ p ∷ []) vs e ≡ put_guarded_piece n env p vs (put_guarded_pieces n env ps vs e)
unfolding put_guarded_pieces
put_guarded_pieces-push n env ps p vs e = put_guarded_pieces-append n env ps (p ∷ []) vs e

-- the lowest place is one of the first that are tried
abbrev pub window : ℤ → ℕ → ℕ → Bool
window at count k = not (int_lt at (pos 1 -ℤ pos count)) && int_lt at (pos k -ℤ pos count)

pub window_none : (at : ℤ) (count : ℕ) → window at count 1 ≡ false
window_none at count = grind (arith, ints)

window_hit : (at : ℤ) (count k : ℕ) → at ≡ pos k -ℤ pos count → window at count k ≡ false
window_hit at count k e = grind (arith, ints, e)

window_new : (at : ℤ) (count k : ℕ) → 1 ≤ k → at ≡ pos k -ℤ pos count → window at count (k + 1) ≡ true
window_new at count k l e = grind (arith, ints, l, e)

window_same : (at : ℤ) (count k : ℕ) → (at ≡ pos k -ℤ pos count → ⊥) → window at count (k + 1) ≡ window at count k
window_same at count k e = grind (arith, ints, e)

-- the place of an index, so many places above the lowest
pub same_place : (p at low q : ℤ) (below : ℕ) → p -ℤ pos below ≡ at → q ≡ low +ℤ pos below → int_eq p q ≡ int_eq at low
same_place p at low q below e f = elim (cases_Bool (int_eq p q)) [
  | inl t ↦
      let r : p ≡ q = (Decides-int_eq p q).0 t in
      t ∙ sym ((Decides-int_eq at low).1 (omega (arith, ints, r, e, f)))
  | inr t ↦ t ∙ sym (elim (cases_Bool (int_eq at low)) [
    | inl s ↦
        let r : at ≡ low = (Decides-int_eq at low).0 s in
        absurd (both_ways (int_eq p q) t ((Decides-int_eq p q).1 (omega (arith, ints, r, e, f))))
    | inr s ↦ s
  ])
]

-- one place more is tried: what is written there, if it is the one
pub window_more : (at low : ℤ) (count k : ℕ) (x : Environment → Environment) (y : Environment → Environment) (d e : Environment) → 1 ≤ k → low ≡ pos k -ℤ pos count → (at ≡ low → (f : Environment) → y f ≡ x f) →
    d ≡ cond (window at count k) (x e) e → cond (int_eq at low) (y d) d ≡ cond (window at count (k + 1)) (x e) e
window_more at low count k x y d e l q same h = elim (cases_Bool (int_eq at low)) [
  | inl t ↦
      let r : at ≡ low = (Decides-int_eq at low).0 t in
      rw (t, window_new at count k l (r ∙ q)) (same r d ∙ ap x (h ∙ rw (window_hit at count k (r ∙ q)) refl))
  | inr t ↦ rw (t, window_same at count k (λ z. both_ways (int_eq at low) t ((Decides-int_eq at low).1 (z ∙ sym q)))) h
]

-- where none of the places that are tried is the lowest, no bit is there
pub window_all : (id : ℕ) (range : Option (ℕ × ℕ)) (signed : Bool) (at : ℤ) (count k : ℕ) (vs : List Bool) (e : Environment) → range_width range + count ≤ k →
    cond (window at count k) (write (bits_there (Signal id range signed) at count) vs e) e ≡ write (bits_there (Signal id range signed) at count) vs e
window_all id range signed at count k vs e l = elim (cases_Bool (window at count k)) [
  | inl t ↦ rw t refl
  | inr t ↦ rw t (sym (fun_ext (λ (b : Bit). write_outside (bits_there (Signal id range signed) at count) vs e b (missed (has_bit (bits_there (Signal id range signed) at count) b) (λ h. none b t (has_there (Signal id range signed) at count b h))))))
]
  where
    none : (b : Bit) → window at count k ≡ false → ((b.signal ≡ id) × (b.place < range_width range)) × IsWithin at count b.place → ⊥
    none b t (i, (j, m, q)) = both_ways (window at count k) t (inside b.place j q m i.1)
      where
        inside : (p j : ℕ) → at +ℤ pos j ≡ pos p → j < count → p < range_width range → window at count k ≡ true
        inside p j q m i = grind (arith, ints, q, m, i, l)

-- the runs that are left, with one of them put

put_cons : (n : Netlist) (env : ℕ → Bool) (ps : List GuardedPiece) (i : ℕ) (p d : GuardedPiece) (vs : List Bool) (e : Environment) → i < length ps → p ≡ get_or ps i d → put_guarded_pieces n env (drop i ps) vs e ≡ put_guarded_pieces n env (drop (i + 1) ps) vs (put_guarded_piece n env p vs e)
unfolding put_guarded_pieces
put_cons n env ps i p d vs e l q =
    let s : suc i ≡ i + 1 = omega arith in
    ap (λ (xs : List GuardedPiece). put_guarded_pieces n env xs vs e) (drop-cons ps i d l ∙ ap (λ (y : GuardedPiece). y ∷ drop (suc i) ps) (sym q)) ∙ ap (λ (k : ℕ). put_guarded_pieces n env (drop k ps) vs (put_guarded_piece n env p vs e)) s

pub put_left : (n : Netlist) (env : ℕ → Bool) (g w : Bool) (ps : List GuardedPiece) (i : ℕ) (p d : GuardedPiece) (vs : List Bool) (e f : Environment) (r : Environment) → i < length ps → p ≡ get_or ps i d → w ≡ wire_value n env p.when →
    f ≡ cond (g && w) (write (bits_of p.piece) (drop p.from vs) e) e → cond g (put_guarded_pieces n env (drop i ps) vs e) e ≡ r → cond g (put_guarded_pieces n env (drop (i + 1) ps) vs f) f ≡ r
put_left n env true w ps i p d vs e f r l q h k z =
    ap (λ (x : Environment). put_guarded_pieces n env (drop (i + 1) ps) vs x) (k ∙ ap (λ (t : Bool). cond t (write (bits_of p.piece) (drop p.from vs) e) e) h) ∙ sym (put_cons n env ps i p d vs e l q) ∙ z
put_left n env false w ps i p d vs e f r l q h k z = k ∙ z

pub put_done : (n : Netlist) (env : ℕ → Bool) (g : Bool) (ps : List GuardedPiece) (i : ℕ) (vs : List Bool) (e r : Environment) → length ps ≤ i → cond g (put_guarded_pieces n env (drop i ps) vs e) e ≡ r → e ≡ r
unfolding put_guarded_pieces
put_done n env g ps i vs e r l z = same_if g e (put_guarded_pieces n env (drop i ps) vs e) (ap (λ (xs : List GuardedPiece). put_guarded_pieces n env xs vs e) (sym (drop_all i ps l))) ∙ z

abbrev pub no_guarded_piece : GuardedPiece
no_guarded_piece = record { piece = record { signal = 0; width = 0; from = pos 0; count = 0 }; when = record { 0 = 0 }; from = 0 }

-- the run of a signal at a place

pub signal_piece : (id : ℕ) (range : Option (ℕ × ℕ)) (signed : Bool) (width : ℕ) (low : ℤ) (count : ℕ) → width ≡ range_width range → bits_of (record { signal = id; width = width; from = low; count = count }) ≡ bits_there (Signal id range signed) low count
signal_piece id range signed width low count e =
    ap (λ (w : ℕ). bits_of (record { signal = id; width = w; from = low; count = count })) e ∙ signal_run id range signed low low count count

pub signal_fits : (widths : List ℕ) (p : Piece) → p.signal < length widths → get_or widths p.signal 0 ≡ p.width → Fits widths p
signal_fits widths p l q b h =
    let i = has_in p p.from p.count b (sym (covers_in p b) ∙ h) in
    (omega (arith, i.signal, l), omega (arith, i.there, ap (λ (s : ℕ). get_or widths s 0) i.signal, q))

-- what stands for no signal has no bits

pub none_of_constant : (bits : List Bool) (signed : Bool) (at : ℤ) (n : ℕ) (vs : List Bool) (e : Environment) → write (bits_there (Constant bits signed) at n) vs e ≡ e
unfolding bits_there write
none_of_constant bits signed at zero vs e = refl
none_of_constant bits signed at (suc n) vs e = none_of_constant bits signed (at +ℤ pos 1) n (rest vs) e

pub none_of_memory : (first low words : ℕ) (range : Option (ℕ × ℕ)) (signed : Bool) (at : ℤ) (n : ℕ) (vs : List Bool) (e : Environment) → write (bits_there (Memory first low words range signed) at n) vs e ≡ e
unfolding bits_there write
none_of_memory first low words range signed at zero vs e = refl
none_of_memory first low words range signed at (suc n) vs e = none_of_memory first low words range signed (at +ℤ pos 1) n (rest vs) e

pub none_of_instance : (at : ℤ) (n : ℕ) (vs : List Bool) (e : Environment) → write (bits_there Instance at n) vs e ≡ e
unfolding bits_there write
none_of_instance at zero vs e = refl
none_of_instance at (suc n) vs e = none_of_instance (at +ℤ pos 1) n (rest vs) e

pub no_guarded_pieces : (n : Netlist) (env : ℕ → Bool) (ps : List GuardedPiece) (vs : List Bool) (e : Environment) → ps ≡ [] → put_guarded_pieces n env ps vs e ≡ e
unfolding put_guarded_pieces
no_guarded_pieces n env ps vs e h = ap (λ (qs : List GuardedPiece). put_guarded_pieces n env qs vs e) h
