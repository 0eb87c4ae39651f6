use Rattle.std.proofs.Common.{ℕ, Bool, ◌∙◌, sym, ap, is_some}
use Rattle.rr_flat.specs.View.{plain_flat, plain_driver, plain_side}
use Rattle.rr_text_names.specs.Names.{entry, is_the}
use Rattle.rr_text_names.proofs.Walks.{earliest_hit}
use Rattle.rr_clock.specs.Clock.{side_uses, value_uses}
use Rattle.rr_clock.proofs.uses.use_in_driver.Goals as goal

pub returns-then-is_some : goal.returns-then-is_some
returns-then-is_some c =
    let F = plain_flat c.args.flat.now in
    let set : ℕ → Bool = λ x. is_the c.args.clock (entry c.args.table.now x) in
    c.in_ok-found.ensures
    ∙ sym (earliest_hit (side_uses F set (plain_side c.args.driver.now.target)) (value_uses F set (plain_driver c.args.driver.now)) (ap is_some (sym c.in_ok-found.ensures) ∙ (sym c.is_some.ensures ∙ c.if-is_some.true)))
