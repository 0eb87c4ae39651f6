use Rattle.std.proofs.Common.{◌∙◌, sym}
use Rattle.rr_expr.specs.Indices.{integer_of}
use Rattle.rr_expr.proofs.Indices.{unmoved}
use Rattle.rr_named_bits.proofs.Nodes.{shaped-Name, shaped-Bit, shaped-Part, shaped-Indexed, bits-Name, bits-Bit, bits-Part, bits-Indexed, bits-Literal, bits-Unary, bits-Binary, bits-Cond, bits-Concat, bits-Repeat, bits-Cast, bits-Paren}
use Rattle.rr_named_bits.proofs.Runs.{no_run, same_bits}
use Rattle.rr_named_bits.proofs.select.piece_of.Goals as goal

pub whole-requires : goal.whole-requires
whole-requires c = rw c.meaning.ensures (shaped-Name _ _ _ (rw c.in-Name.is at c.requires))

pub index_in-requires : goal.index_in-requires
index_in-requires c = (shaped-Bit _ _ _ _ (rw c.in-Bit.is at c.requires)).1

pub at_index-requires : goal.at_index-requires
at_index-requires c = rw c.meaning-in-Bit.ensures (shaped-Bit _ _ _ _ (rw c.in-Bit.is at c.requires)).0

pub constant_index-requires : goal.constant_index-requires
constant_index-requires c = (shaped-Part _ _ _ _ _ (rw c.in-Part.is at c.requires)).1

pub run-requires-clause-width : goal.run-requires-clause-width
run-requires-clause-width c = rw c.meaning-in-Part.ensures (shaped-Part _ _ _ _ _ (rw c.in-Part.is at c.requires)).0

pub index_in-requires-in-Indexed : goal.index_in-requires-in-Indexed
index_in-requires-in-Indexed c = (shaped-Indexed _ _ _ _ _ _ (rw c.in-Indexed.is at c.requires)).1

pub run-requires-in-Indexed-clause-width : goal.run-requires-in-Indexed-clause-width
run-requires-in-Indexed-clause-width c = rw c.meaning-entity.ensures (shaped-Indexed _ _ _ _ _ _ (rw c.in-Indexed.is at c.requires)).0

pub returns-in-Name : goal.returns-in-Name
returns-in-Name c = rw c.in-Name.is ((rw c.meaning.ensures at c.whole.ensures) ∙ sym (bits-Name _ _ _ _))

pub returns-in-Bit : goal.returns-in-Bit
returns-in-Bit c = rw c.in-Bit.is (same_bits c.at_index.result _ _ (sym (bits-Bit _ _ _ _ _)) (rw (c.meaning-in-Bit.ensures, c.index_in.ensures) at c.at_index.ensures))

pub returns-in-Part : goal.returns-in-Part
returns-in-Part c =
    let n = rw c.in-Part.is at c.width_of-count.ensures.value in
    rw c.in-Part.is ((rw (c.meaning-in-Part.ensures, c.constant_index.ensures, unmoved, n) at c.run.ensures) ∙ sym (bits-Part _ _ _ _ _ _))

pub returns-in-Indexed : goal.returns-in-Indexed
returns-in-Indexed c =
    let n = rw c.in-Indexed.is at c.width_of-count-in-Indexed.ensures.value in
    let p = rw (c.range_of.ensures, c.meaning-entity.ensures) at (c.below_index-below.ensures.place (integer_of c.index_in-in-Indexed.result)) in
    rw c.in-Indexed.is ((rw (c.meaning-entity.ensures, p, c.index_in-in-Indexed.ensures, n) at c.run-in-Indexed.ensures) ∙ sym (bits-Indexed _ _ _ _ _ _ _))

pub returns-in-Literal : goal.returns-in-Literal
returns-in-Literal c = rw (c.in-Literal.is, c.absent.ensures) (no_run ∙ sym (bits-Literal _ _ _ _))

pub returns-in-Unary : goal.returns-in-Unary
returns-in-Unary c = rw (c.in-Unary.is, c.absent-in-Unary.ensures) (no_run ∙ sym (bits-Unary _ _ _ _))

pub returns-in-Binary : goal.returns-in-Binary
returns-in-Binary c = rw (c.in-Binary.is, c.absent-in-Binary.ensures) (no_run ∙ sym (bits-Binary _ _ _ _ _))

pub returns-in-Cond : goal.returns-in-Cond
returns-in-Cond c = rw (c.in-Cond.is, c.absent-in-Cond.ensures) (no_run ∙ sym (bits-Cond _ _ _ _ _))

pub returns-in-Concat : goal.returns-in-Concat
returns-in-Concat c = rw (c.in-Concat.is, c.absent-in-Concat.ensures) (no_run ∙ sym (bits-Concat _ _ _))

pub returns-in-Repeat : goal.returns-in-Repeat
returns-in-Repeat c = rw (c.in-Repeat.is, c.absent-in-Repeat.ensures) (no_run ∙ sym (bits-Repeat _ _ _ _))

pub returns-in-Cast : goal.returns-in-Cast
returns-in-Cast c = rw (c.in-Cast.is, c.absent-in-Cast.ensures) (no_run ∙ sym (bits-Cast _ _ _ _))

pub returns-in-Paren : goal.returns-in-Paren
returns-in-Paren c = rw (c.in-Paren.is, c.absent-in-Paren.ensures) (no_run ∙ sym (bits-Paren _ _ _))
