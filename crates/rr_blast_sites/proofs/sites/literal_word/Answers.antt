use Rattle.std.proofs.Common.{ap, length, refl, ◌∙◌, arith}
use Rattle.rr_bits.specs.Fields.{length_word}
use Rattle.rr_word_gates.proofs.Carrying.{Carries-same}
use Rattle.rr_blast_sites.proofs.SiteLaws.{literal_here, literal_nowhere, literal_room, rest_wires}
use Rattle.rr_blast_sites.proofs.sites.literal_word.Goals as goal

pub returns-in_ok-out-in-None-clause-width : goal.returns-in_ok-out-in-None-clause-width
returns-in_ok-out-in-None-clause-width c = c.in_ok-out-in-None.ensures.width ∙ ap length c.from_u128.ensures ∙ length_word c.args.number.width c.args.number.value

pub returns-in_ok-out-in-None-clause-value : goal.returns-in_ok-out-in-None-clause-value
returns-in_ok-out-in-None-clause-value c = λ W h. literal_nowhere _ c.args.inputs.now W c.args.token c.args.number _ c.in-None.ensures (Carries-same _ _ _ _ c.in_ok-out-in-None.ensures.value (λ input. c.from_u128.ensures))

pub literal_site-requires : goal.literal_site-requires
literal_site-requires c = let r = c.requires.wires.room in omega (arith, r)

pub literal_by-requires-clause-bits : goal.literal_by-requires-clause-bits
literal_by-requires-clause-bits c = rest_wires c.args.b.now c.args.inputs.now c.in-Some.found.at c.requires.wires

pub literal_by-requires-clause-room : goal.literal_by-requires-clause-room
literal_by-requires-clause-room c = literal_room c.args.b.now c.args.inputs.now _ _ c.in-Some.found.at _ c.requires.wires c.in-Some.ensures c.value_width-own.ensures

pub returns-in_ok-out-in-Some-clause-value : goal.returns-in_ok-out-in-Some-clause-value
returns-in_ok-out-in-Some-clause-value c = λ W h. literal_here _ _ c.args.inputs.now W c.args.token c.args.number c.in-Some.found.site _ c.in-Some.found.at _ _ refl c.value_width-own.ensures c.in-Some.ensures h c.in_ok-out-in-Some.ensures.value
