use Rattle.rr_directive.specs.View.{names_of, unit_at}
use Rattle.rr_directive.proofs.Texts.{unit_used, unit_given}
use Rattle.rr_directive.proofs.text.add_unit.Goals as goal

pub returns-in_ok-push-in-Use-clause-items : goal.returns-in_ok-push-in-Use-clause-items
returns-in_ok-push-in-Use-clause-items c = λ items h.
    unit_used (names_of c.args.definitions.now) (names_of c.number_of.new.self) c.args.parts.now.items _ items c.args.piece.kind (unit_at c.args.text.now c.args.at c.args.piece) c.in_ok-number-in-Use.number
    c.in_ok-number-in-Use.ensures.extends c.in-Use.is c.in_ok-number-in-Use.ensures.number c.in_ok-push-in-Use.ensures.items h

pub returns-in_ok-add_bytes-in_default-clause-items : goal.returns-in_ok-add_bytes-in_default-clause-items
returns-in_ok-add_bytes-in_default-clause-items c = λ items h.
    unit_given (names_of c.args.definitions.now) c.args.parts.now.items _ items c.args.piece.kind (unit_at c.args.text.now c.args.at c.args.piece) c.in_default.not-Use c.in_ok-add_bytes-in_default.ensures h
