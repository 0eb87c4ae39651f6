use Rattle.std.proofs.Common.{◌≡◌, ◌+◌, ◌<◌, ◌∙◌, length, ap, get_or, subst, arith}
use Rattle.std.proofs.lemmas.List.{get_or_default}
use Rattle.rr_members.specs.Groups.{AreLong, formula_of}
use Rattle.rr_members.proofs.Numbering.{Put, Put-all, Put-more, Put-none, put_inside, put_low}
use Rattle.rr_rounds.proofs.Ordered.{no_place}
use Rattle.rr_members.proofs.members.Members.all_ids.Goals as goal

pub loop-index-init : goal.loop-index-init
loop-index-init c =
    let i = c.self.inside in
    subst (λ v. Put v.formula v.state c.args.order.now c.in_ok-ids.ids.items 0) c.self.view_is
    (Put-none (formula_of i.seats.items) i.round i.seats.items c.args.order.now c.in_ok-ids.ids.items (subst (λ seats. AreLong seats c.in_ok-ids.ids.items) c.as_slice.ensures.value c.in_ok-ids.ensures))

pub put_id-requires-clause-member : goal.put_id-requires-clause-member
put_id-requires-clause-member c =
    let v = c.args.self.now in
    let lt : c.loop-index.index < length c.args.order.now = omega arith in
    put_low v.formula v.state c.args.order.now c.requires.order c.loop-index.ids.items c.loop-index.index c.loop-index.invariant no_place lt

pub put_id-requires-clause-line : goal.put_id-requires-clause-line
put_id-requires-clause-line c =
    let v = c.args.self.now in
    let lt : c.loop-index.index < length c.args.order.now = omega arith in
    put_inside v.formula v.state c.args.order.now c.requires.order c.loop-index.ids.items c.loop-index.index c.loop-index.invariant no_place lt

pub loop-index-preserved : goal.loop-index-preserved
loop-index-preserved c =
    let i = c.self.inside in
    let v = c.args.self.now in
    let lt : c.loop-index.index < length c.args.order.now = omega arith in
    let going = ap (λ x. x.failed) c.self.view_is ∙ c.requires.going in
    let count : i.count ≡ length v.formula.clauses = (c.self.invariant going).counted ∙ ap (λ x. length x.formula.clauses) c.self.view_is in
    let id : c.in_ok-id.id ≡ length v.formula.clauses + 1 + c.loop-index.index = c.in_ok-id.ensures.value ∙ ap (λ n. n + 1 + c.loop-index.index) count in
    Put-more v.formula v.state c.args.order.now c.requires.order c.loop-index.ids.items c.loop-index.index c.loop-index.invariant (get_or c.args.order.now c.loop-index.index no_place) c.in_ok-id.id c.put_id.new.ids.items lt
    (get_or_default c.args.order.now c.loop-index.index no_place _ lt) id c.put_id.ensures

pub returns : goal.returns
returns c =
    let v = c.args.self.now in
    let all : c.loop-index.index ≡ length c.args.order.now = omega (arith, c.loop-index-test.false, c.loop-index.auto.index-end) in
    Put-all v.formula v.state c.args.order.now c.requires.order c.loop-index.ids.items c.loop-index.index c.loop-index.invariant all
