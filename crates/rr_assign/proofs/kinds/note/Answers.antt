use Rattle.std.proofs.Common.{◌∙◌, sym, ap, arith}
use Rattle.rr_syntax.specs.View.{plain}
use Rattle.rr_expr.specs.Scopes.{meant}
use Rattle.rr_flat.specs.View.{plain_flat}
use Rattle.rr_flat.specs.Writers.{scope_at}
use Rattle.rr_flat.specs.Targets.{variable_of}
use Rattle.rr_text_names.specs.Names.{entry}
use Rattle.rr_text_names.proofs.NamesOfParts.{named_text, named_token}
use Rattle.rr_assign.specs.Kinds.{kind_fault}
use Rattle.rr_assign.specs.View.{plain_aim}
use Rattle.rr_assign.proofs.Kinding.{noted_late, noted_none, noted_signal, kinds_size}
use Rattle.rr_assign.proofs.kinds.note.Goals as goal

pub returns-then-is_late-clause-noted : goal.returns-then-is_late-clause-noted
returns-then-is_late-clause-noted c before h =
    noted_late before (plain_aim (plain_flat c.args.flat.now) c.args.assignment.now) (entry c.args.kinds.now.items) c.identifier_of-named.result.token (sym c.is_late.ensures ∙ c.if-is_late.true)
    (named_token c.identifier_of-named.result (plain c.args.assignment.now.target.part.now) c.identifier_of-named.ensures)

pub returns-in-None-clause-noted : goal.returns-in-None-clause-noted
returns-in-None-clause-noted c before h =
    noted_none before (plain_aim (plain_flat c.args.flat.now) c.args.assignment.now) (entry c.args.kinds.now.items) h (sym c.is_late.ensures ∙ c.if-is_late.false)
    (ap (λ n. variable_of (meant (scope_at (plain_flat c.args.flat.now) c.args.assignment.now.scope) n)) (sym (named_text c.identifier_of-named.result (plain c.args.assignment.now.target.part.now) c.identifier_of-named.ensures))
    ∙ (sym c.variable_named.ensures.value ∙ c.in-None.is))

pub returns-in-Some-clause-size : goal.returns-in-Some-clause-size
returns-in-Some-clause-size c = kinds_size c.args.kinds.now.items c.note_kind.new.kinds.items c.in-Some.id _ _ c.note_kind.ensures.kinds

pub returns-in-Some-clause-noted : goal.returns-in-Some-clause-noted
returns-in-Some-clause-noted c before h =
    noted_signal before (plain_aim (plain_flat c.args.flat.now) c.args.assignment.now) c.args.kinds.now.items c.note_kind.new.kinds.items c.in-Some.id c.note_kind.result h (sym c.is_late.ensures ∙ c.if-is_late.false)
    (ap (λ n. variable_of (meant (scope_at (plain_flat c.args.flat.now) c.args.assignment.now.scope) n)) (sym (named_text c.identifier_of-named.result (plain c.args.assignment.now.target.part.now) c.identifier_of-named.ensures))
    ∙ (sym c.variable_named.ensures.value ∙ c.in-Some.is))
    (omega (arith, c.in-Some.ensures.inside, c.requires.size)) c.note_kind.ensures.kinds
    (c.note_kind.ensures.fault ∙ ap (λ z. kind_fault (entry c.args.kinds.now.items c.in-Some.id) c.args.assignment.now.target.blocking z) (named_token c.identifier_of-named.result (plain c.args.assignment.now.target.part.now) c.identifier_of-named.ensures))
