use Rattle.std.proofs.Common.{arith, ap, length, sym, ◌∙◌, ◌+◌}
use Rattle.rr_bits.specs.Words.{reading}
use Rattle.rr_circuit.specs.Values.{wire_values}
use Rattle.rr_circuit.proofs.Netlists.{AreWires-extends, Extends-refl, Extends-trans}
use Rattle.rr_expr.specs.Scopes.{env_of_lists}
use Rattle.rr_word_gates.proofs.Carrying.{Carries-at, Carries-same}
use Rattle.rr_blast_sites.specs.Signals.{signal_values}
use Rattle.rr_blast_sites.proofs.SignalLaws.{AreSignals-extends}
use Rattle.rr_memory_gates.specs.Reading.{first_words}
use Rattle.rr_memory_gates.proofs.WordReads.{read_all, read_none, read-extends}
use Rattle.rr_memory_gates.proofs.moving_word.Goals as goal

pub loop-word-init : goal.loop-word-init
loop-word-init c = record {
  extends = Extends-refl _;
  width = c.in_ok-out.ensures.width;
  value = Carries-same _ _ _ _ c.in_ok-out.ensures.value (λ input. read_none (env_of_lists (signal_values c.args.b.now input c.args.signals.now)) c.args.memory (reading c.args.signed (wire_values c.args.b.now input c.args.ys.now)));
}

pub with_word-requires-clause-before : goal.with_word-requires-clause-before
with_word-requires-clause-before c = (Carries-at _ _ _ _ c.as_slice.ensures.value c.loop-word.invariant.value).wires

pub with_word-requires-clause-width : goal.with_word-requires-clause-width
with_word-requires-clause-width c = ap length c.as_slice.ensures.value ∙ c.loop-word.invariant.width

pub with_word-requires-clause-signals : goal.with_word-requires-clause-signals
with_word-requires-clause-signals c = AreSignals-extends _ _ _ c.loop-word.invariant.extends c.requires.signals

pub with_word-requires-clause-y : goal.with_word-requires-clause-y
with_word-requires-clause-y c = AreWires-extends _ _ _ c.loop-word.invariant.extends c.requires.y

pub loop-word-preserved : goal.loop-word-preserved
loop-word-preserved c =
    let h = c.loop-word.invariant in
    let e = c.in_ok-out-2.ensures in
    record {
      extends = Extends-trans _ _ _ h.extends e.extends;
      width = e.width;
      value = Carries-same _ _ _ _
          (e.value (Carries-same _ _ _ _ (Carries-at _ _ _ _ c.as_slice.ensures.value h.value) (λ input. sym (read-extends _ _ c.args.signals.now c.args.ys.now c.args.signed (first_words c.loop-word.word c.args.memory) h.extends c.requires.signals c.requires.y input))))
          (λ input. read-extends _ _ c.args.signals.now c.args.ys.now c.args.signed (first_words (c.loop-word.word + 1) c.args.memory) h.extends c.requires.signals c.requires.y input);
    }

pub returns-clause-value : goal.returns-clause-value
returns-clause-value c = Carries-same _ _ _ _ c.loop-word.invariant.value
    (λ input. read_all (env_of_lists (signal_values c.args.b.now input c.args.signals.now)) c.args.memory c.loop-word.word (reading c.args.signed (wire_values c.args.b.now input c.args.ys.now)) (omega (arith, c.loop-word-test.false, c.loop-word.auto.word-end)))

pub returns-clause-width : goal.returns-clause-width
returns-clause-width c = c.loop-word.invariant.width

pub returns-clause-extends : goal.returns-clause-extends
returns-clause-extends c = c.loop-word.invariant.extends
