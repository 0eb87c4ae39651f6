use Rattle.std.proofs.Common.{◌∙◌, ap, arith, get_or, length}
use Rattle.std.specs.Prelude.{Vec}
use Rattle.std.specs.Global.{Global}
use Rattle.rr_circuit.specs.declared.Wire.{Wire}
use Rattle.rr_circuit.specs.Values.{wire_value}
use Rattle.rr_signal_wires.proofs.WordLaws.{there_place, there_signal, value_there, wire_there}
use Rattle.rr_signal_wires.proofs.words.wire_at.Goals as goal

pub bounds-words-bit : goal.bounds-words-bit
bounds-words-bit c = there_signal c.args.words.now c.args.bit c.requires

pub index-requires : goal.index-requires
index-requires c =
    omega (arith, ap (λ (v : Vec Wire Global). length v.items) c.index-words-bit.is, there_place c.args.words.now c.args.bit c.index-words-bit.result c.requires, c.index-words-bit.result.ok.0)

pub returns-clause-wire : goal.returns-clause-wire
returns-clause-wire c = λ n ws.
    rw (c.index.ensures ∙ ap (λ (v : Vec Wire Global). get_or v.items c.args.bit.place c.index.result.now) c.index-words-bit.is)
    (wire_there n c.args.words.now c.args.bit c.index-words-bit.result c.index.result.now c.requires ws)

pub returns-clause-value : goal.returns-clause-value
returns-clause-value c = λ n env.
    ap (wire_value n env) (c.index.ensures ∙ ap (λ (v : Vec Wire Global). get_or v.items c.args.bit.place c.index.result.now) c.index-words-bit.is)
    ∙ value_there n env c.args.words.now c.args.bit c.index-words-bit.result c.index.result.now c.requires
