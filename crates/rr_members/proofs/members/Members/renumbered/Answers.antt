use Rattle.std.proofs.Common.{◌≡◌, ◌∙◌, ◌==◌, length, ap, sym, subst, arith}
use Rattle.std.specs.Prelude.{Some}
use Rattle.std.specs.List.{find}
use Rattle.std.specs.Option.{option_map}
use Rattle.rr_rounds.specs.States.{member}
use Rattle.rr_rounds.specs.Joined.{IsLine, names_of}
use Rattle.rr_rounds.specs.Rounds.{AreApart}
use Rattle.rr_members.proofs.Numbering.{apart_at, meant_line, reached_of, renumbered_some, same_member}
use Rattle.rr_members.proofs.members.Members.renumbered.Goals.{In-Some}
use Rattle.rr_members.proofs.members.Members.renumbered.Goals as goal

pub meant-requires : goal.meant-requires
meant-requires c =
    let v = c.args.self.now in
    let i = c.self.inside in
    let going = ap (λ x. x.failed) c.self.view_is ∙ c.requires.going in
    subst AreApart (same_member v i.round i.seats.items i.failed c.self.view_is c.args.place c.requires.place c.index.result.now c.index.ensures)
    (apart_at v.formula v.inputs (length i.seats.items) v.state (reached_of v i.round i.seats.items i.failed c.self.view_is i.count (c.self.invariant going)) c.args.place c.requires.place)

-- the line that the hint names
meant : (c : In-Some) → Some c.in-Some.named ≡ option_map (λ n. n.line) (find (λ n. n.id == c.args.hint) (names_of c.args.place (member c.args.self.now.state c.args.place)))
meant c =
    let i = c.self.inside in
    subst (λ m. Some c.in-Some.named ≡ option_map (λ n. n.line) (find (λ n. n.id == c.args.hint) (names_of c.args.place m)))
    (sym (same_member c.args.self.now i.round i.seats.items i.failed c.self.view_is c.args.place c.requires.place c.index.result.now c.index.ensures)) c.in-Some.ensures

line : (c : In-Some) → IsLine c.args.self.now.state c.in-Some.named
line c =
    let v = c.args.self.now in
    let i = c.self.inside in
    let going = ap (λ x. x.failed) c.self.view_is ∙ c.requires.going in
    (meant_line v.formula v.inputs (length i.seats.items) v.state (reached_of v i.round i.seats.items i.failed c.self.view_is i.count (c.self.invariant going)) c.args.place c.requires.place c.args.hint c.in-Some.named (meant c)).0

pub get_id-requires-clause-member : goal.get_id-requires-clause-member
get_id-requires-clause-member c =
    let l = line (goal.at.get_id-requires-clause-member c).In-Some in
    let a = l.low in
    let n = c.requires.ids.count in
    omega (arith, a, n)

pub get_id-requires-clause-line : goal.get_id-requires-clause-line
get_id-requires-clause-line c =
    let l = line (goal.at.get_id-requires-clause-line c).In-Some in
    let a = l.inside in
    let n = c.requires.ids.long c.in-Some.named.member l.low in
    omega (arith, a, n)

pub returns-in-Some : goal.returns-in-Some
returns-in-Some c =
    let v = c.args.self.now in
    let i = c.self.inside in
    let going = ap (λ x. x.failed) c.self.view_is ∙ c.requires.going in
    c.get_id.ensures
    ∙ renumbered_some v.formula v.inputs (length i.seats.items) v.state (reached_of v i.round i.seats.items i.failed c.self.view_is i.count (c.self.invariant going)) c.args.place c.requires.place c.args.hint c.in-Some.named c.args.ids.now c.requires.ids (meant (goal.at.returns-in-Some c).In-Some)
