use Rattle.std.proofs.Common.{◌≡◌, ◌∙◌, ◌&&◌, ap, sym, subst, not, true, false, is_some, Some}
use Rattle.rr_directive.specs.Pieces.{directive_of, has_name}
use Rattle.rr_directive.specs.Expand.{bad, has_directive, text_items, with_definition}
use Rattle.rr_directive.specs.View.{AreItems, names_of, unit_at}
use Rattle.rr_directive.proofs.Acts.{act_define, fit, fit_define, is_on_by, off, unfit_define, unfit_name, unfit_text, silent, shown_answers}
use Rattle.rr_directive.proofs.reading.Reader.define.Goals as goal

pub returns-then-not-is_on : goal.returns-then-not-is_on
returns-then-not-is_on c = λ s events h.
    let u = unit_at c.args.bytes.now c.args.at c.args.piece in
    silent s u events c.args.self.now (act_define s u c.requires.kind ∙ off s _ (is_on_by s c.is_on.result false c.args.self.now.branches.items c.is_on.ensures h.branches c.if-not-is_on.true)) h

pub takes_text-requires : goal.takes_text-requires
takes_text-requires c = (c.args.at, c.requires.within)

pub returns-then-not-takes_text : goal.returns-then-not-takes_text
returns-then-not-takes_text c = λ s events h.
    let u = unit_at c.args.bytes.now c.args.at c.args.piece in
    let n : (has_name u.piece && (not u.piece.bracket && not (is_some (directive_of u.piece.name)))) ≡ false =
    ap (λ b. b && (not u.piece.bracket && not (is_some (directive_of u.piece.name)))) c.requires.within.letter ∙ (sym (c.takes_text.ensures c.args.at) ∙ c.if-not-takes_text.true) in
    bad (unfit_define s u c.requires.kind (is_on_by s c.is_on.result true c.args.self.now.branches.items c.is_on.ensures h.branches c.if-not-is_on.false)
    (unfit_name (has_name u.piece) (not u.piece.bracket) (not (is_some (directive_of u.piece.name))) (not (has_directive u.piece.text)) n))

pub returns-in-None : goal.returns-in-None
returns-in-None c = λ s events h.
    let u = unit_at c.args.bytes.now c.args.at c.args.piece in
    let p = rw c.in-None.is at c.in_ok-parts.ensures.parts in
    let d : has_directive u.piece.text ≡ true = subst (λ t. has_directive t ≡ true) c.in_ok-text.ensures p in
    bad (unfit_define s u c.requires.kind (is_on_by s c.is_on.result true c.args.self.now.branches.items c.is_on.ensures h.branches c.if-not-is_on.false)
    (unfit_text (has_name u.piece) (not u.piece.bracket) (not (is_some (directive_of u.piece.name))) (not (has_directive u.piece.text)) (ap not d)))

pub define-requires : goal.define-requires
define-requires c = (c.requires.stands.0.definitions, c.in_ok-parts.ensures.knows c.requires.stands.0.definitions c.requires.stands.1.1.knows)

pub returns : goal.returns
returns c = λ s events h.
    let u = unit_at c.args.bytes.now c.args.at c.args.piece in
    let p = rw c.in-Some.is at c.in_ok-parts.ensures.parts in
    let d : has_directive u.piece.text ≡ false = subst (λ t. has_directive t ≡ false) c.in_ok-text.ensures p.0 in
    let a : AreItems (names_of c.parts_of.new.definitions) c.in-Some.parts.now (text_items u.piece.text) =
    subst (λ t. AreItems (names_of c.parts_of.new.definitions) c.in-Some.parts.now (text_items t)) c.in_ok-text.ensures p.1 in
    let n : (has_name u.piece && (not u.piece.bracket && not (is_some (directive_of u.piece.name)))) ≡ true =
    ap (λ b. b && (not u.piece.bracket && not (is_some (directive_of u.piece.name)))) c.requires.within.letter ∙ (sym (c.takes_text.ensures c.args.at) ∙ c.if-not-takes_text.false) in
    let t = with_definition s u.piece.name (Some (text_items u.piece.text)) in
    shown_answers (Unit {0}) c.blank.result c.args.bytes.now s t u events true c.blank.new.self
    (fit_define s u c.requires.kind (is_on_by s c.is_on.result true c.args.self.now.branches.items c.is_on.ensures h.branches c.if-not-is_on.false)
    (fit (has_name u.piece) (not u.piece.bracket) (not (is_some (directive_of u.piece.name))) (not (has_directive u.piece.text)) n (ap not d)))
    (c.blank.ensures t events (record { knows = c.in_ok-define.ensures s.definitions (Some (text_items u.piece.text)) (c.in_ok-parts.ensures.knows s.definitions h.knows) a; branches = h.branches; shows = h.shows }))
