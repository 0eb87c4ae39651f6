use Rattle.std.proofs.Common.{◌∙◌, sym, true, false, None}
use Rattle.rr_directive.specs.Expand.{bad, with_definition}
use Rattle.rr_directive.specs.View.{unit_at}
use Rattle.rr_directive.proofs.Acts.{act_undef, is_on_by, off, no_name_undef, named_undef, silent, shown_answers}
use Rattle.rr_directive.proofs.reading.Reader.undef.Goals as goal

pub returns-then-not-is_on : goal.returns-then-not-is_on
returns-then-not-is_on c = λ s events h.
    let u = unit_at c.args.bytes.now c.args.at c.args.piece in
    silent s u events c.args.self.now (act_undef s u c.requires.kind ∙ off s _ (is_on_by s c.is_on.result false c.args.self.now.branches.items c.is_on.ensures h.branches c.if-not-is_on.true)) h

pub returns-then-not-has_name : goal.returns-then-not-has_name
returns-then-not-has_name c = λ s events h.
    let u = unit_at c.args.bytes.now c.args.at c.args.piece in
    bad (no_name_undef s u c.requires.kind (is_on_by s c.is_on.result true c.args.self.now.branches.items c.is_on.ensures h.branches c.if-not-is_on.false) (c.requires.within.letter ∙ (sym c.has_name.ensures ∙ c.if-not-has_name.true)))

pub define-requires : goal.define-requires
define-requires c = (c.requires.stands.0.definitions, c.requires.stands.1.1.knows)

pub returns : goal.returns
returns c = λ s events h.
    let u = unit_at c.args.bytes.now c.args.at c.args.piece in
    let t = with_definition s u.piece.name None in
    shown_answers (Unit {0}) c.blank.result c.args.bytes.now s t u events true c.blank.new.self
    (named_undef s u c.requires.kind (is_on_by s c.is_on.result true c.args.self.now.branches.items c.is_on.ensures h.branches c.if-not-is_on.false) (c.requires.within.letter ∙ (sym c.has_name.ensures ∙ c.if-not-has_name.false)))
    (c.blank.ensures t events (record { knows = c.in_ok-define.ensures s.definitions None h.knows tt; branches = h.branches; shows = h.shows }))
