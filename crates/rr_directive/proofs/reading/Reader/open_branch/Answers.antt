use Rattle.std.proofs.Common.{◌≡◌, ◌∙◌, ◌∷◌, ◌&&◌, ap, sym, false, not, if◌then◌else◌}
use Rattle.rr_directive.specs.Expand.{bad, is_defined, opened, shown, with_branches, is_on}
use Rattle.rr_directive.specs.View.{plain_branches, unit_at}
use Rattle.rr_directive.proofs.Acts.{branches_push, named_opening, no_name_opening, shown_answers}
use Rattle.rr_directive.proofs.reading.Reader.open_branch.Goals as goal

pub returns-then-not-has_name : goal.returns-then-not-has_name
returns-then-not-has_name c = λ s events e h.
    let u = unit_at c.args.bytes.now c.args.at c.args.piece in
    bad (e ∙ no_name_opening s u.piece _ (c.requires.within.letter ∙ (sym c.has_name.ensures ∙ c.if-not-has_name.true)))

pub is_defined-requires : goal.is_defined-requires
is_defined-requires c = (c.requires.stands.0.definitions, c.requires.stands.1.1.knows)

pub returns : goal.returns
returns c = λ s events e h.
    let u = unit_at c.args.bytes.now c.args.at c.args.piece in
    let f : c.in_ok-found.found ≡ is_defined u.piece.name s.definitions = c.in_ok-found.ensures.answer s.definitions h.knows in
    let o : c.is_on-on.result ≡ is_on s.branches = c.is_on-on.ensures ∙ ap is_on h.branches in
    let g : c.agrees-holds.result ≡ (if c.args.defined then is_defined u.piece.name s.definitions else not (is_defined u.piece.name s.definitions)) =
    c.agrees-holds.ensures ∙ ap (λ x. if c.args.defined then x else not x) f in
    let t = with_branches s (opened c.agrees-holds.result s.branches) in
    let b = branches_push c.args.self.now.branches.items _ _ c.in_ok-push.ensures.items in
    shown_answers (Unit {0}) c.blank.result c.args.bytes.now s t u events c.is_on-on.result c.blank.new.self
    (e ∙ (named_opening s u.piece _ (c.requires.within.letter ∙ (sym c.has_name.ensures ∙ c.if-not-has_name.false)) ∙
    (ap (λ x. shown (is_on s.branches) (with_branches s (opened x s.branches))) (sym g) ∙ ap (λ x. shown x t) (sym o))))
    (c.blank.ensures t events (record {
      knows = c.in_ok-found.ensures.knows s.definitions h.knows;
      branches = b ∙ (ap (λ x. x ∷ plain_branches c.args.self.now.branches.items) c.opened.ensures ∙
          (ap (λ x. record { on = x && c.agrees-holds.result; other = x && not c.agrees-holds.result; last = false } ∷ plain_branches c.args.self.now.branches.items) o ∙
          ap (λ bs. record { on = is_on s.branches && c.agrees-holds.result; other = is_on s.branches && not c.agrees-holds.result; last = false } ∷ bs) h.branches));
      shows = h.shows;
    }))
