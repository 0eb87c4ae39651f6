use Rattle.std.proofs.Common.{rules, ◌≡◌, ◌+◌, ◌<◌, ◌∙◌, ◌++◌, ◌∷◌, [], length, map, ap, sym, subst}
use Rattle.std.specs.Prelude.{All}
use Rattle.rr_derive.specs.Derive.{Step}
use Rattle.rr_rounds.specs.Joined.{in_order, joined, renumbered}
use Rattle.rr_member.specs.Sharing.{state_of}
use Rattle.rr_members.proofs.Numbering.{all_below, counted_of, emptied_by, same_member, same_step}
use Rattle.rr_members.proofs.members.Members.joined_with.Goals as goal

pub push_at-requires-clause-last : goal.push_at-requires-clause-last
push_at-requires-clause-last c =
    let v = c.args.self.now in
    let i = c.self.inside in
    let order = c.in_ok-order.order.items in
    let going = ap (λ x. x.failed) c.self.view_is ∙ c.requires.going in
    let is : order ≡ in_order v.state = c.in_ok-order.ensures ∙ ap (λ s. in_order (state_of i.round s)) c.as_slice.ensures.value ∙ ap (λ x. in_order x.state) c.self.view_is in
    let size : c.len.result ≡ length order = search rules in
    let count = counted_of v i.round i.seats.items i.failed c.self.view_is i.count (c.self.invariant going) in
    let id : c.in_ok-id.id ≡ length v.formula.clauses + 1 + length order = c.in_ok-id.ensures.value ∙ ap (λ n. n + 1 + c.len.result) count ∙ ap (λ n. length v.formula.clauses + 1 + n) size in
    subst (All (λ (x : Step). x.id < c.in_ok-id.id)) (sym c.in_ok-journal.ensures.lines) (all_below v.formula v.state order is c.in_ok-id.id id)

pub returns-clause-lines : goal.returns-clause-lines
returns-clause-lines c =
    let v = c.args.self.now in
    let i = c.self.inside in
    let order = c.in_ok-order.order.items in
    let going = ap (λ x. x.failed) c.self.view_is ∙ c.requires.going in
    let is : order ≡ in_order v.state = c.in_ok-order.ensures ∙ ap (λ s. in_order (state_of i.round s)) c.as_slice.ensures.value ∙ ap (λ x. in_order x.state) c.self.view_is in
    let size : c.len.result ≡ length order = search rules in
    let count = counted_of v i.round i.seats.items i.failed c.self.view_is i.count (c.self.invariant going) in
    let x = c.index-seat.result.now in
    let e = c.requires.refuted.0 in
    let same = same_member v i.round i.seats.items i.failed c.self.view_is c.args.place c.requires.place x c.index-seat.ensures in
    let p = emptied_by x.search.status x.search.bits x.search.lines e (ap (λ m. m.ending) (sym same) ∙ c.requires.refuted.1) in
    let id : c.in_ok-id.id ≡ length v.formula.clauses + 1 + length (in_order v.state) = c.in_ok-id.ensures.value ∙ ap (λ n. n + 1 + c.len.result) count ∙ ap (λ n. length v.formula.clauses + 1 + n) (size ∙ ap length is) in
    let clause : c.in_ok-clause.clause ≡ e.clause = c.in_ok-clause.ensures ∙ c.lits.ensures ∙ c.last_clause.ensures ∙ ap (λ s. s.clause) p.1 in
    let hints : c.in_ok-hints.hints.items ≡ map (renumbered v.formula v.state c.args.place) e.hints = c.in_ok-hints.ensures ∙ ap (map (renumbered v.formula v.state c.args.place)) (c.last_hints.ensures ∙ ap (λ s. s.hints) p.1) in (
      e,
      (
        c.requires.refuted.1,
        ap (λ j. j.lines) c.in_ok-push_at.ensures.ok
            ∙ ap (λ ls. ls ++ record { id = c.in_ok-id.id; clause = c.in_ok-clause.clause; hints = c.in_ok-hints.hints.items } ∷ []) c.in_ok-journal.ensures.lines
            ∙ ap (λ s. joined v.formula v.state ++ s ∷ []) (same_step id clause hints),
      ),
    )
