use Rattle.std.proofs.Common.{◌≡◌, ◌∙◌, ap}
use Rattle.rr_syntax.specs.View.{plain}
use Rattle.rr_expr.specs.Notes.{HasRight, IsRight, integer_in}
use Rattle.rr_expr.proofs.Kept.{kept_right}
use Rattle.rr_expr.proofs.notes.Table.find.Goals as goal

pub returns-then-same : goal.returns-then-same
unfolding HasRight
returns-then-same c s h =
    let right : IsRight s c.in-Some.known = kept_right s c.args.self.now.kept c.loop-note.note-index c.note-item.result c.in-Some.known c.loop-note-test.true h c.note-item.is c.in-Some.is in
    let same : plain c.in-Some.known.expr.now ≡ plain c.args.expr.now = c.if-same.ensures in
    right ∙ ap (integer_in s) same
