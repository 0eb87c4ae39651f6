use Rattle.std.proofs.Common.{◌≡◌, ◌<◌, ◌∙◌, ap, arith, get_or, length, is_some, None}
use Rattle.std.proofs.lemmas.List.{get_or_read}
use Rattle.std.proofs.lemmas.Option.{slice_get_within}
use Rattle.rr_directive.specs.View.{names_of}
use Rattle.rr_directive.proofs.Names.{defined}
use Rattle.rr_directive.proofs.definitions.Definitions.is_defined.Goals as goal

pub index-requires : goal.index-requires
index-requires c =
    let k = c.in_ok-number.ensures.knows c.requires.0 c.requires.1 in
    let s = c.number_of.new.self.texts.ok in
    let w : c.in_ok-number.number < length (names_of c.number_of.new.self) = slice_get_within (names_of c.number_of.new.self) c.in_ok-number.number c.args.name.now c.in_ok-number.ensures.number in
    omega (arith, k.has.same, s)

pub returns-clause-answer : goal.returns-clause-answer
returns-clause-answer c = λ ds k.
    let n = c.in_ok-number.ensures.knows ds k in
    let w : c.in_ok-number.number < length (names_of c.number_of.new.self) = slice_get_within (names_of c.number_of.new.self) c.in_ok-number.number c.args.name.now c.in_ok-number.ensures.number in
    let l : c.in_ok-number.number < length c.number_of.new.self.texts.items = omega (arith, n.has.same) in
    let r : c.index.result.now ≡ get_or c.number_of.new.self.texts.items c.in_ok-number.number None = get_or_read c.number_of.new.self.texts.items c.in_ok-number.number c.index.result.now l c.index.ensures None in
    c.is_some.ensures ∙ (ap is_some r ∙ defined (names_of c.number_of.new.self) _ _ (n.has.each c.in_ok-number.number c.args.name.now c.in_ok-number.ensures.number))
