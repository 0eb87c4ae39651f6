use Rattle.std.proofs.Common.{◌≡◌, ◌∙◌, ◌<◌, ap, pos, ◌-ℤ◌, ℤ, arith}
use lib.IntN.{nat_abs}
use Rattle.rr_expr.specs.declared.types.Entity.TheVariants as entity
use Rattle.rr_expr.specs.Indices.{integer_of}
use Rattle.rr_expr.specs.Scopes.{range_width, entity_range}
use Rattle.rr_expr.specs.Selects.{place}
use Rattle.rr_expr.proofs.Indices.{place_far}
use Rattle.rr_named_bits.specs.Pieces.{bits_in}
use Rattle.rr_named_bits.proofs.Runs.{run_of, signal_run, far_run, cast_away}
use Rattle.rr_named_bits.proofs.select.near.Goals as goal

pub returns-in-Some : goal.returns-in-Some
returns-in-Some c = λ signed.
    let at : ℤ = place (entity_range (entity.Signal c.args.signal c.args.range signed)) (integer_of c.args.index) -ℤ pos c.args.below in
    let w : c.range_width.result ≡ range_width c.args.range = c.range_width.ensures ∙ c.bounds_of-bounds.ensures.width in
    let z = cast_away c.in-Some.place c.args.below c.in-Some.ensures.close c.requires.below
    ∙ ap (λ (p : ℤ). p -ℤ pos c.args.below) (c.in-Some.ensures.some ∙ ap (λ r. place r (integer_of c.args.index)) (c.bounds_of-bounds.ensures.value c.args.signal signed)) in
    ap (λ (f : ℤ). bits_in (run_of c.args.signal c.range_width.result f c.args.count) f c.args.count) z
    ∙ (ap (λ v. bits_in (run_of c.args.signal v at c.args.count) at c.args.count) w ∙ signal_run c.args.signal c.args.range signed at at c.args.count c.args.count)

pub returns-in-None : goal.returns-in-None
returns-in-None c = λ signed.
    let q : c.bounds_of-bounds.result.1 < 4294967296 = omega arith in
    let h = place_far c.bounds_of-bounds.result (integer_of c.args.index) c.args.below q c.requires.below c.in-None.ensures.none in
    let e = ap (λ r. nat_abs (place r (integer_of c.args.index) -ℤ pos c.args.below)) (c.bounds_of-bounds.ensures.value c.args.signal signed) in
    rw c.absent.ensures (far_run c.args.signal c.args.range signed c.args.count c.args.count (pos 0) (pos 0) _ c.requires.width (omega (arith, h, e, c.requires.count)))
