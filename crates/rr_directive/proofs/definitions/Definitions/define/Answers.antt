use Rattle.std.proofs.Common.{◌<◌, arith, length}
use Rattle.std.proofs.lemmas.Option.{slice_get_within}
use Rattle.rr_directive.specs.View.{names_of}
use Rattle.rr_directive.proofs.Names.{extended, texts_set}
use Rattle.rr_directive.proofs.definitions.Definitions.define.Goals as goal

pub index_mut-requires : goal.index_mut-requires
index_mut-requires c =
    let k = c.in_ok-number.ensures.knows c.requires.0 c.requires.1 in
    let s = c.number_of.new.self.texts.ok in
    let w : c.in_ok-number.number < length (names_of c.number_of.new.self) = slice_get_within (names_of c.number_of.new.self) c.in_ok-number.number c.args.name.now c.in_ok-number.ensures.number in
    omega (arith, k.has.same, s)

pub returns : goal.returns
returns c = λ ds items k t.
    let n = c.in_ok-number.ensures.knows ds k in
    record {
      has = texts_set (names_of c.number_of.new.self) c.number_of.new.self.texts.items ds c.in_ok-number.number c.args.name.now c.args.text items n.has c.in_ok-number.ensures.number
          (extended (names_of c.args.self.now) (names_of c.number_of.new.self) c.args.text items c.in_ok-number.ensures.extends t);
      closed = n.closed;
    }
