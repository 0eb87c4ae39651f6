use Rattle.std.proofs.Common.{◌≡◌, ◌∙◌, sym, ap, ap₂, refl, arith, ℕ, Bool, List, cond, get_or, false, ◌+◌, ◌-◌, ◌<◌, drop}
use Rattle.std.specs.Prelude.{Vec}
use Rattle.std.specs.Global.{Global}
use Rattle.rr_circuit.specs.declared.Wire.{Wire}
use Rattle.rr_circuit.specs.Values.{wire_value, wire_values}
use Rattle.rr_circuit.proofs.Netlists.{AreWires-extends, Extends-refl, Extends-trans, wire_values-extends}
use Rattle.rr_expr.specs.declared.types.Bit.{Bit}
use Rattle.rr_cycle.specs.Exec.{Environment, put, write}
use Rattle.rr_named_bits.specs.Pieces.{bits_of}
use Rattle.rr_signal_wires.specs.Words.{carried, widths_of}
use Rattle.rr_signal_wires.proofs.RunLaws.{cast_from, first_in, part, part_all, part_empty, part_more, part_none, same_if, there_in}
use Rattle.rr_signal_wires.proofs.WordLaws.{AreWords-extends, carried-extends, put_guarded}
use Rattle.rr_signal_wires.proofs.guarded_pieces.put_run.Goals as goal

pub returns-then-low-high-clause-value : goal.returns-then-low-high-clause-value
returns-then-low-high-clause-value c = λ env.
    let e : Environment = carried c.args.b.now env c.args.words.now.items in
    same_if (wire_value c.args.b.now env c.args.guard) e
    (write (bits_of c.args.guarded_piece.now.piece) (drop c.args.guarded_piece.now.from (wire_values c.args.b.now env c.args.bits.now)) e)
    (part_empty c.args.guarded_piece.now.piece c.range-low.result.0 c.range-low.result.1 (drop c.args.guarded_piece.now.from (wire_values c.args.b.now env c.args.bits.now)) e c.range-low.ensures.covered c.if-low-high.true)

pub source-first-requires-clause-reach : goal.source-first-requires-clause-reach
source-first-requires-clause-reach c =
    let k : c.args.guarded_piece.now.piece.count < 4294967296 = omega arith in
    let m : c.range-low.result.0 < 4294967296 = omega (arith, c.range-low.ensures.within) in
    let r = first_in c.args.guarded_piece.now.piece c.range-low.result.0 c.range-low.result.1 c.range-low.ensures.covered c.if-low-high.false k in
    (r.0, (r.1.0, cast_from c.args.guarded_piece.now.piece.from r.0 c.range-low.result.0 r.1.0 m r.1.1))

pub loop-place-init : goal.loop-place-init
loop-place-init c = record {
  extends = Extends-refl c.args.b.now;
  low = omega arith;
  words = c.requires.words;
  widths = refl;
  value = λ env.
      let e : Environment = carried c.args.b.now env c.args.words.now.items in
      same_if (wire_value c.args.b.now env c.args.guard) e _ (sym (part_none c.args.guarded_piece.now.piece.signal c.range-low.result.0 c.source-first.result (wire_values c.args.b.now env c.args.bits.now) e));
}

pub overflow_add-first : goal.overflow_add-first
overflow_add-first c =
    let k : c.args.guarded_piece.now.piece.count < 4294967296 = omega arith in
    let m : c.range-low.result.0 < 4294967296 = omega (arith, c.range-low.ensures.within) in
    let r = first_in c.args.guarded_piece.now.piece c.range-low.result.0 c.range-low.result.1 c.range-low.ensures.covered c.if-low-high.false k in
    let f = c.source-first.ensures r.0 (cast_from c.args.guarded_piece.now.piece.from r.0 c.range-low.result.0 r.1.0 m r.1.1) in
    omega (arith, f, r.1.0, c.requires.from)

pub bit_at-new-requires : goal.bit_at-new-requires
bit_at-new-requires c = AreWires-extends c.args.b.now c.loop-place.b c.args.bits.now c.loop-place.invariant.extends c.requires.bits

pub wire_at-old-requires : goal.wire_at-old-requires
wire_at-old-requires c =
    rw (c.as_slice.ensures.value, c.loop-place.invariant.widths)
    (there_in (widths_of c.args.words.now.items) c.args.guarded_piece.now.piece c.range-low.result.0 c.range-low.result.1 c.loop-place.place c.range-low.ensures.covered c.requires.fits c.loop-place.invariant.low c.loop-place-test.true)

pub set_wire-requires : goal.set_wire-requires
set_wire-requires c =
    rw (c.loop-place.invariant.widths)
    (there_in (widths_of c.args.words.now.items) c.args.guarded_piece.now.piece c.range-low.result.0 c.range-low.result.1 c.loop-place.place c.range-low.ensures.covered c.requires.fits c.loop-place.invariant.low c.loop-place-test.true)

pub mux-requires-clause-no : goal.mux-requires-clause-no
mux-requires-clause-no c = c.wire_at-old.ensures.wire c.loop-place.b (rw c.as_slice.ensures.value c.loop-place.invariant.words)

pub mux-requires-clause-test : goal.mux-requires-clause-test
mux-requires-clause-test c = c.loop-place.invariant.extends.wires c.args.guard c.requires.guard

pub loop-place-preserved : goal.loop-place-preserved
loop-place-preserved c =
    let h = c.loop-place.invariant in
    let x = c.in_ok-wire.ensures in
    record {
      extends = Extends-trans _ _ _ h.extends x.extends;
      low = omega (arith, h.low);
      words = c.set_wire.ensures.wires c.mux.new.self (AreWords-extends c.loop-place.b c.mux.new.self c.loop-place.words.items x.extends h.words) x.wire;
      widths = c.set_wire.ensures.widths ∙ h.widths;
      value = λ env.
          let g : Bool = wire_value c.args.b.now env c.args.guard in
          let p : Environment = part c.args.guarded_piece.now.piece.signal c.range-low.result.0 c.loop-place.place c.source-first.result (wire_values c.args.b.now env c.args.bits.now) (carried c.args.b.now env c.args.words.now.items) in
          let e : Environment = carried c.args.b.now env c.args.words.now.items in
          let bit : Bit = record { signal = c.args.guarded_piece.now.piece.signal; place = c.loop-place.place } in
          let v : Bool = get_or (wire_values c.args.b.now env c.args.bits.now) (c.source-first.result + (c.loop-place.place - c.range-low.result.0)) false in
          let w : wire_value c.mux.new.self env c.in_ok-wire.wire ≡ cond g v ((cond g p e) bit) =
          x.value env
          ∙ ap (λ (t : Bool). cond t (wire_value c.loop-place.b env c.bit_at-new.result) (wire_value c.loop-place.b env c.wire_at-old.result)) (h.extends.values env c.args.guard c.requires.guard)
          ∙ ap₂ (λ (y n : Bool). cond g y n)
          (c.bit_at-new.ensures.value env ∙ ap (λ (vs : List Bool). get_or vs (c.source-first.result + (c.loop-place.place - c.range-low.result.0)) false) (wire_values-extends c.args.b.now c.loop-place.b c.args.bits.now env h.extends c.requires.bits))
          (c.wire_at-old.ensures.value c.loop-place.b env ∙ ap (λ (ws : List (Vec Wire Global)). carried c.loop-place.b env ws bit) c.as_slice.ensures.value ∙ ap (λ (f : Environment). f bit) (h.value env)) in
          c.set_wire.ensures.value c.mux.new.self env
          ∙ ap₂ (λ (b : Bool) (f : Environment). put bit b f) w (carried-extends c.loop-place.b c.mux.new.self env c.loop-place.words.items x.extends h.words ∙ h.value env)
          ∙ put_guarded g bit v p e
          ∙ ap (λ (f : Environment). cond g f e) (part_more c.args.guarded_piece.now.piece.signal c.range-low.result.0 c.loop-place.place c.source-first.result (wire_values c.args.b.now env c.args.bits.now) e h.low);
    }

pub returns-clause-value : goal.returns-clause-value
returns-clause-value c = λ env.
    let k : c.args.guarded_piece.now.piece.count < 4294967296 = omega arith in
    let m : c.range-low.result.0 < 4294967296 = omega (arith, c.range-low.ensures.within) in
    let r = first_in c.args.guarded_piece.now.piece c.range-low.result.0 c.range-low.result.1 c.range-low.ensures.covered c.if-low-high.false k in
    let f = c.source-first.ensures r.0 (cast_from c.args.guarded_piece.now.piece.from r.0 c.range-low.result.0 r.1.0 m r.1.1) in
    let e : Environment = carried c.args.b.now env c.args.words.now.items in
    let z : c.loop-place.place ≡ c.range-low.result.1 = omega (arith, c.loop-place-test.false, c.loop-place.auto.place-end) in
    c.loop-place.invariant.value env
    ∙ ap (λ (f : Environment). cond (wire_value c.args.b.now env c.args.guard) f e)
    (ap (λ (q : ℕ). part c.args.guarded_piece.now.piece.signal c.range-low.result.0 q c.source-first.result (wire_values c.args.b.now env c.args.bits.now) e) z
    ∙ part_all c.args.guarded_piece.now.piece c.range-low.result.0 c.range-low.result.1 c.source-first.result c.args.guarded_piece.now.from (wire_values c.args.b.now env c.args.bits.now) e c.range-low.ensures.covered c.if-low-high.false r.0 r.1.1 f)
