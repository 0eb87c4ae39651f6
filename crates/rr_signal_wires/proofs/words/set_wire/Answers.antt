use Rattle.std.proofs.Common.{◌∙◌, ap, arith, set, length}
use Rattle.std.specs.Prelude.{Vec}
use Rattle.std.specs.Global.{Global}
use Rattle.rr_circuit.specs.declared.Wire.{Wire}
use Rattle.rr_signal_wires.proofs.WordLaws.{carried_put, there_place, there_signal, widths_put, wires_put}
use Rattle.rr_signal_wires.proofs.words.set_wire.Goals as goal

pub index_mut-requires : goal.index_mut-requires
index_mut-requires c = omega (arith, there_signal c.args.words.now.items c.args.bit c.requires, c.args.words.now.ok.0)

pub set_in-requires : goal.set_in-requires
set_in-requires c =
    omega (arith, ap (λ (v : Vec Wire Global). length v.items) c.index_mut.ensures.value, there_place c.args.words.now.items c.args.bit c.index_mut.result.now c.requires)

pub returns-clause-value : goal.returns-clause-value
returns-clause-value c = λ n env.
    carried_put n env c.args.words.now.items c.args.bit c.args.wire c.set_in.new.word c.index_mut.result.now c.requires
    (c.set_in.ensures ∙ ap (λ (v : Vec Wire Global). set v.items c.args.bit.place c.args.wire) c.index_mut.ensures.value)

pub returns-clause-widths : goal.returns-clause-widths
returns-clause-widths c =
    widths_put c.args.words.now.items c.args.bit c.args.wire c.set_in.new.word c.index_mut.result.now c.requires
    (c.set_in.ensures ∙ ap (λ (v : Vec Wire Global). set v.items c.args.bit.place c.args.wire) c.index_mut.ensures.value)

pub returns-clause-wires : goal.returns-clause-wires
returns-clause-wires c = λ n ws i.
    wires_put n c.args.words.now.items c.args.bit c.args.wire c.set_in.new.word c.index_mut.result.now c.requires
    (c.set_in.ensures ∙ ap (λ (v : Vec Wire Global). set v.items c.args.bit.place c.args.wire) c.index_mut.ensures.value) ws i
