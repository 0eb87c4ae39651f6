use Rattle.std.proofs.Common.{arith, List, ◌≡◌, ◌≤◌, ◌<◌, ◌+◌, inl, inr, refl, ap, ℕ}
use Rattle.std.proofs.lemmas.Bool.{cases_eq}
use Rattle.rr_expr.specs.declared.types.Bit.{Bit}
use Rattle.rr_flat.specs.View.{plain_flat}
use Rattle.rr_order.specs.Nodes.{Added, Foreign, widths}
use Rattle.rr_flat.proofs.Bits.{bit_eq}
use Rattle.rr_order.proofs.Lists.{added_none, added_both, added_same}
use Rattle.rr_order.proofs.nodes.add_places.Goals as goal

abbrev Run : ℕ → ℕ → ℕ → (Bit → Type 0) → Bit → Type 0
Run signal low high F b = (b.signal ≡ signal) × ((low ≤ b.place) × ((b.place < high) × F b))

more : (ws a b c : List ℕ) (signal low k : ℕ) (F : Bit → Type 0) → low ≤ k → Added ws a b (Run signal low k F) → Added ws b c (λ x. (x ≡ record { signal = signal; place = k }) × F x) → Added ws a c (Run signal low (k + 1) F)
more ws a b c signal low k F l h n = added_both ws a b c (Run signal low k F) (λ x. (x ≡ record { signal = signal; place = k }) × F x) (Run signal low (k + 1) F) h n
    (λ x p. (p.0, (p.1.0, (omega (arith, p.1.1.0), p.1.1.1))))
    (λ x q. (ap (λ (b : Bit). b.signal) q.0, (omega (arith, l, ap (λ (b : Bit). b.place) q.0), (omega (arith, ap (λ (b : Bit). b.place) q.0), q.1))))
    (λ x r. elim (cases_eq x.place k) [
      | inl e ↦ inr (bit_eq x (record { signal = signal; place = k }) r.0 e, r.1.1.1)
      | inr e ↦ inl (r.0, (r.1.0, (omega (arith, r.1.1.0, e), r.1.1.1)))
    ])

pub loop-place-init : goal.loop-place-init
loop-place-init c = (added_none (widths (plain_flat c.args.flat.now)) c.args.nodes.now.items (Run c.args.signal c.args.places.0 c.args.places.0 (Foreign (widths (plain_flat c.args.flat.now)) c.args.own.now.items c.args.stamp)) (λ b p. omega (arith, p.1.0, p.1.1.0)), inl refl)

pub loop-place-preserved : goal.loop-place-preserved
loop-place-preserved c = (
  more (widths (plain_flat c.args.flat.now)) c.args.nodes.now.items c.loop-place.nodes.items c.add_node.new.nodes.items c.args.signal c.args.places.0 c.loop-place.place (Foreign (widths (plain_flat c.args.flat.now)) c.args.own.now.items c.args.stamp)
      c.loop-place.auto.place c.loop-place.invariant.0 c.in_ok-add_node.ensures,
  inr (omega (arith, c.loop-place-test.true)),
)

pub returns : goal.returns
returns c = added_same (widths (plain_flat c.args.flat.now)) c.args.nodes.now.items c.loop-place.nodes.items (Run c.args.signal c.args.places.0 c.loop-place.place (Foreign (widths (plain_flat c.args.flat.now)) c.args.own.now.items c.args.stamp))
    (Run c.args.signal c.args.places.0 c.args.places.1 (Foreign (widths (plain_flat c.args.flat.now)) c.args.own.now.items c.args.stamp)) c.loop-place.invariant.0
    (λ b p. (p.0, (p.1.0, (elim c.loop-place.invariant.1 [ inl e ↦ absurd (omega (arith, e, p.1.0, p.1.1.0)) | inr e ↦ omega (arith, e, p.1.1.0) ], p.1.1.1))))
    (λ b p. (p.0, (p.1.0, (omega (arith, c.loop-place-test.false, p.1.1.0), p.1.1.1))))
