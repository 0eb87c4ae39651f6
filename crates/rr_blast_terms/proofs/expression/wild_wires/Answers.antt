use Rattle.std.proofs.Common.{◌≡◌, ◌∙◌, ap, ap₂, sym, Bool, List, length, if◌then◌else◌}
use Rattle.rr_bits.specs.Fields.{length_word}
use Rattle.rr_bits.specs.Words.{word}
use Rattle.rr_circuit.specs.Values.{wire_values}
use Rattle.rr_syntax.specs.View.{plain}
use Rattle.rr_exec.proofs.Labels.{length_wild}
use Rattle.rr_cycle.specs.Exec.{wild}
use Rattle.rr_blast_terms.specs.Wild.{changes}
use Rattle.rr_blast_terms.specs.Choosing.{picks_of}
use Rattle.rr_blast_terms.proofs.WildLaws.{wild_instance}
use Rattle.rr_blast_terms.proofs.expression.wild_wires.Goals as goal

pub chosen-requires-clause-widths : goal.chosen-requires-clause-widths
chosen-requires-clause-widths c =
    ap length c.as_slice.ensures.value ∙ c.in_ok-none.ensures.width ∙ ap length c.from_u128.ensures ∙ length_word c.args.width 0
    ∙ sym (ap length c.as_slice-2.ensures.value ∙ c.in_ok-own.ensures.width ∙ ap length c.wild.ensures ∙ length_wild c.args.kind.0 (plain c.args.label.now) c.args.width)

pub returns-clause-value : goal.returns-clause-value
returns-clause-value c = λ env.
    let ss = c.args.choice.now.sites.now in
    let t = plain c.args.label.now in
    let none : wire_values c.args.b.now env c.as_slice.result.now ≡ word c.args.width 0 = ap (wire_values c.args.b.now env) c.as_slice.ensures.value ∙ c.in_ok-none.ensures.value.value env ∙ c.from_u128.ensures in
    let own : wire_values c.args.b.now env c.as_slice-2.result.now ≡ wild c.args.kind.0 t c.args.width = ap (wire_values c.args.b.now env) c.as_slice-2.ensures.value ∙ c.in_ok-own.ensures.value.value env ∙ c.wild.ensures in
    c.in_ok-out.ensures.value.value env
    ∙ ap (λ (d : Bool). if d then wire_values c.args.b.now env c.as_slice.result.now else wire_values c.args.b.now env c.as_slice-2.result.now) (c.changes-switch.ensures.value env)
    ∙ ap₂ (λ (xs ys : List Bool). if changes ss (picks_of c.args.b.now env c.args.choice.now) t then xs else ys) none own
    ∙ sym (wild_instance c.requires.shaped.0 ss (picks_of c.args.b.now env c.args.choice.now) c.args.kind.0 c.args.width t c.requires.shaped.1)
