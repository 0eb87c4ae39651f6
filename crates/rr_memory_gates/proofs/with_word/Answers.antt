use Rattle.std.proofs.Common.{arith, ap, length, sym, ◌∙◌}
use Rattle.std.proofs.lemmas.Int.{ints}
use Rattle.rr_bits.specs.Fields.{length_word}
use Rattle.rr_circuit.proofs.Netlists.{AreWires-extends, Extends-trans}
use Rattle.rr_blast_sites.proofs.SignalLaws.{AreSignals-extends}
use Rattle.rr_memory_gates.proofs.WordReads.{with-carried}
use Rattle.rr_memory_gates.proofs.with_word.Goals as goal

pub word_wires-requires : goal.word_wires-requires
word_wires-requires c = AreSignals-extends _ _ _ c.in_ok-here.ensures.extends c.requires.signals

pub chosen_or-requires-clause-widths : goal.chosen_or-requires-clause-widths
chosen_or-requires-clause-widths c = ap length c.as_slice.ensures.value ∙ c.in_ok-wires.ensures.width ∙ sym (ap length c.from_u128-none.ensures ∙ length_word c.args.memory.width 0)

pub bitwise-requires-clause-x : goal.bitwise-requires-clause-x
bitwise-requires-clause-x c = AreWires-extends _ _ _ (Extends-trans _ _ _ c.in_ok-here.ensures.extends c.in_ok-part.ensures.extends) c.requires.before

pub bitwise-requires-clause-widths : goal.bitwise-requires-clause-widths
bitwise-requires-clause-widths c = c.requires.width ∙ sym (ap length c.as_slice-2.ensures.value ∙ c.in_ok-part.ensures.width ∙ ap length c.as_slice.ensures.value ∙ c.in_ok-wires.ensures.width)

pub returns-clause-width : goal.returns-clause-width
returns-clause-width c = c.in_ok-out.ensures.width ∙ c.requires.width

pub returns-clause-value : goal.returns-clause-value
returns-clause-value c = λ before.
    with-carried _ _ _ _ c.args.signals.now c.args.ys.now c.args.before.now _ _ _ _ _ c.args.signed c.args.memory c.args.word _ _ _ c.in_ok-here.ensures.extends c.in_ok-part.ensures.extends c.requires.signals c.requires.before (omega (arith, ints)) c.from_u128-none.ensures c.as_slice.ensures.value c.as_slice-2.ensures.value
    c.in_ok-here.ensures.value c.in_ok-wires.ensures.value c.in_ok-part.ensures.value c.in_ok-out.ensures.value before
