use Rattle.std.proofs.Common.{◌≡◌, ◌+◌, ◌<◌, ◌∙◌, length, ap, sym, subst, arith}
use Rattle.std.specs.Prelude.{All}
use Rattle.rr_derive.specs.Derive.{Step}
use Rattle.rr_members.proofs.Numbering.{joined_below}
use Rattle.rr_rounds.proofs.Ordered.{no_place, numbered}
use Rattle.rr_members.proofs.members.Members.joined_by.Goals as goal

pub push-requires-clause-line : goal.push-requires-clause-line
push-requires-clause-line c =
    let v = c.args.self.now in
    let lt : c.loop-index.index < length c.args.order.now = omega arith in
    (numbered v.formula v.state c.args.order.now c.requires.order c.loop-index.index no_place lt).line

pub push-requires-clause-id : goal.push-requires-clause-id
push-requires-clause-id c =
    let v = c.args.self.now in
    let lt : c.loop-index.index < length c.args.order.now = omega arith in
    let going = ap (λ x. x.failed) c.self.view_is ∙ c.requires.going in
    let count : c.self.inside.count ≡ length v.formula.clauses = (c.self.invariant going).counted ∙ ap (λ x. length x.formula.clauses) c.self.view_is in
    c.in_ok-id.ensures.value ∙ ap (λ n. n + 1 + c.loop-index.index) count ∙ sym (numbered v.formula v.state c.args.order.now c.requires.order c.loop-index.index no_place lt).id

pub push-requires-clause-last : goal.push-requires-clause-last
push-requires-clause-last c =
    let v = c.args.self.now in
    let lt : c.loop-index.index < length c.args.order.now = omega arith in
    let going = ap (λ x. x.failed) c.self.view_is ∙ c.requires.going in
    let count : c.self.inside.count ≡ length v.formula.clauses = (c.self.invariant going).counted ∙ ap (λ x. length x.formula.clauses) c.self.view_is in
    subst (All (λ (x : Step). x.id < c.in_ok-id.id)) (sym c.loop-index.invariant.lines)
    (joined_below v.formula v.state c.args.order.now c.requires.order c.loop-index.index (omega arith) c.in_ok-id.id (c.in_ok-id.ensures.value ∙ ap (λ n. n + 1 + c.loop-index.index) count))
