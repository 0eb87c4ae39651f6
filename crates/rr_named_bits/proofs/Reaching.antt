-- The bits of reaches.
use Rattle.std.proofs.Common.{◌≡◌, ◌∙◌, ap, ℕ, ◌+◌, ◌≤◌, Bool, true, false, not, ◌&&◌, Option, nat_eq, nat_lt, refl, arith, pos}
use Rattle.std.proofs.lemmas.Bool.{ltb-false, lt-ltb, le-ltb, eqb-true, eqb-false, eq-eqb}
use Rattle.rr_expr.specs.declared.types.Bit.{Bit}
use Rattle.rr_expr.specs.declared.types.Entity.TheVariants.{Signal, Memory}
use Rattle.rr_expr.specs.Scopes.{range_width}
use Rattle.rr_flat.specs.Targets.{has_bit, is_bit_of}
use Rattle.rr_named_bits.specs.declared.piece.Piece.{Piece}
use Rattle.rr_named_bits.specs.Lists.{reaches}
use Rattle.rr_named_bits.specs.Pieces.{covers}
use Rattle.rr_named_bits.proofs.Runs.{run_of, signal_run, covers_in, whole_has}

pub reach_one : (p : Piece) (b : Bit) → reaches (record { piece = p; words = 1 }) b ≡ covers p b
reach_one p b = go (nat_eq p.signal b.signal) refl
  where
    apart : nat_eq p.signal b.signal ≡ false → (t : Bool) → nat_lt b.signal p.signal ≡ t → reaches (record { piece = p; words = 1 }) b ≡ covers p b
    apart h true k = rw (k, h) refl
    apart h false k =
        let ne = eqb-false p.signal b.signal h in
        let le : p.signal ≤ b.signal = ltb-false b.signal p.signal k in
        let above : p.signal + 1 ≤ b.signal = omega (arith, ne, le) in
        rw (k, le-ltb b.signal (p.signal + 1) above, h) refl

    go : (t : Bool) → nat_eq p.signal b.signal ≡ t → reaches (record { piece = p; words = 1 }) b ≡ covers p b
    go true h =
        let e : p.signal ≡ b.signal = eqb-true p.signal b.signal h in
        rw (le-ltb b.signal p.signal (omega (arith, e)), lt-ltb b.signal (p.signal + 1) (omega (arith, e)), eq-eqb b.signal b.signal refl, h) refl
    go false h = apart h (nat_lt b.signal p.signal) refl

and_assoc : (x y z : Bool) → ((x && y) && z) ≡ (x && (y && z))
and_assoc true y z = refl
and_assoc false y z = refl

-- all words of a memory
pub reach_all : (first low words : ℕ) (range : Option (ℕ × ℕ)) (signed : Bool) (b : Bit)
    → reaches (record { piece = run_of first (range_width range) (pos 0) (range_width range); words = words }) b ≡ is_bit_of (Memory first low words range signed) b
reach_all first low words range signed b =
    ap (λ z. (not (nat_lt b.signal first) && nat_lt b.signal (first + words)) && z) there
    ∙ and_assoc (not (nat_lt b.signal first)) (nat_lt b.signal (first + words)) (nat_lt b.place (range_width range))
  where
    there : covers (run_of b.signal (range_width range) (pos 0) (range_width range)) b ≡ nat_lt b.place (range_width range)
    there =
        covers_in (run_of b.signal (range_width range) (pos 0) (range_width range)) b
        ∙ (ap (λ z. has_bit z b) (signal_run b.signal range signed (pos 0) (pos 0) (range_width range) (range_width range))
        ∙ (whole_has (Signal b.signal range signed) b refl ∙ ap (λ z. z && nat_lt b.place (range_width range)) (eq-eqb b.signal b.signal refl)))
