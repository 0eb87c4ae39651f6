use Rattle.std.proofs.Common.{◌∙◌, ap, List, Bool, false, get_or}
use Rattle.rr_circuit.specs.Values.{wire_values}
use Rattle.rr_syntax.specs.View.{plain}
use Rattle.rr_blast_terms.specs.Choosing.{picks_of}
use Rattle.rr_signal_wires.specs.Words.{carried}
use Rattle.rr_blast_steps.proofs.PartLaws.{no_bit, part_bit}
use Rattle.rr_blast_steps.proofs.wiring.own_wire.Goals as goal

pub returns-in_ok-bits-in-Some-clause-value : goal.returns-in_ok-bits-in-Some-clause-value
returns-in_ok-bits-in-Some-clause-value c = λ env.
    c.bit_at-wire.ensures.value env
    ∙ ap (λ (bs : List Bool). get_or bs c.in-Some.part.place false) (ap (wire_values c.wires.new.b env) c.as_slice.ensures.value ∙ c.in_ok-bits-in-Some.ensures.value env)
    ∙ part_bit c.args.choice.now.sites.now (picks_of c.args.b.now env c.args.choice.now) c.args.scope.now (plain c.in-Some.part.expr.now) c.in-Some.part.place (plain c.args.expr.now) c.args.place
    (carried c.args.b.now env c.args.words.now) c.shape_of-shape.result c.in-Some.ensures.part c.shape_of-shape.ensures.value

pub returns-in-None-clause-value : goal.returns-in-None-clause-value
returns-in-None-clause-value c = λ env.
    c.constant.ensures.value env
    ∙ no_bit c.args.choice.now.sites.now (picks_of c.args.b.now env c.args.choice.now) c.args.scope.now (plain c.args.expr.now) c.args.place (carried c.args.b.now env c.args.words.now) c.in-None.ensures.past
