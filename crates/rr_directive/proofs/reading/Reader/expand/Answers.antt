use Rattle.std.proofs.Common.{◌≡◌, ◌∙◌, [], ap, arith, sym, subst, true, false}
use Rattle.std.proofs.lemmas.List.{with_items_is}
use Rattle.rr_directive.specs.Expand.{Expands}
use Rattle.rr_directive.specs.View.{HasTexts, names_of, Opens, unit_at, UseAnswers}
use Rattle.rr_directive.proofs.Acts.{act_use, is_on_by, off, on, silent, use_answers}
use Rattle.rr_directive.proofs.reading.Reader.expand.Goals as goal

pub returns-then-not-is_on : goal.returns-then-not-is_on
returns-then-not-is_on c = λ s events h.
    let u = unit_at c.args.bytes.now c.args.at c.args.piece in
    silent s u events c.args.self.now (act_use s u c.requires.kind ∙ off s _ (is_on_by s c.is_on.result false c.args.self.now.branches.items c.is_on.ensures h.branches c.if-not-is_on.true)) h

pub returns : goal.returns
returns c = λ s events h.
    let u = unit_at c.args.bytes.now c.args.at c.args.piece in
    let names = names_of c.number_of.new.self in
    let k = c.in_ok-number.ensures.knows s.definitions h.knows in
    let f : c.deref_mut.result.now ≡ c.number_of.new.self.flags.items = c.deref_mut.ensures.value ∙ ap (λ v. v.items) c.replace-flags.ensures.value in
    let a = c.give_use-given.ensures names s.definitions u.piece.name events
    (subst (λ ts. HasTexts names ts s.definitions) (sym c.deref.ensures.value) k.has) (subst (λ fs. Opens names fs []) (sym f) k.closed) h.shows c.in_ok-number.ensures.number in
    let w = with_items_is c.replace-flags.result c.give_use-given.new.flags (omega (arith, c.give_use-given.auto.flags, c.deref_mut.ensures.len)) in
    use_answers (Unit {0}) c.give_use-given.result c.args.bytes.now s u events _
    (act_use s u c.requires.kind ∙ on s Expands (is_on_by s c.is_on.result true c.args.self.now.branches.items c.is_on.ensures h.branches c.if-not-is_on.false))
    k.has h.branches (subst (λ fs. UseAnswers names s.definitions u.piece.name events c.args.at fs c.give_use-given.new.out c.give_use-given.result) (sym w) a)
