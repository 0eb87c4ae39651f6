use Rattle.std.proofs.Common.{All, subst, arith}
use Rattle.rr_declarations.specs.View.{Listing}
use Rattle.rr_declarations.specs.Sound.{IsDeclared}
use Rattle.rr_declarations.proofs.head.in_order.Goals as goal

pub returns-clause-sound : goal.returns-clause-sound
returns-clause-sound c =
    let none : All (IsDeclared c.args.declared.now.instance) c.new-order.result.items = rw c.new-order.ensures.items (λ k d lt. absurd (omega arith)) in
    let here : All (IsDeclared c.declared.inside.instance) c.as_slice.result.now = rw c.as_slice.ensures.value c.declared.invariant.signals_in in
    let P : Listing → Type 0 = λ v. All (IsDeclared v.instance) c.as_slice.result.now in
    c.in_ok-add_inners.ensures.sound c.args.declared.now.instance (subst P c.declared.view_is here) (c.in_ok-add_groups.ensures.sound (c.in_ok-add_identifiers.ensures.sound none))
