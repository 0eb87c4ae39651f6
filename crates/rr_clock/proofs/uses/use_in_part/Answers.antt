use Rattle.std.proofs.Common.{ℕ, Bool, ◌∙◌, sym, ap, is_some}
use Rattle.rr_flat.specs.View.{plain_flat}
use Rattle.rr_flat.specs.Parts.{driver_of, block_of}
use Rattle.rr_text_names.specs.Names.{entry, is_the}
use Rattle.rr_text_names.proofs.Walks.{earliest_hit}
use Rattle.rr_clock.specs.Clock.{uses_of_driver, uses_of_block}
use Rattle.rr_clock.proofs.uses.use_in_part.Goals as goal

pub returns-then-is_some : goal.returns-then-is_some
returns-then-is_some c =
    let F = plain_flat c.args.flat.now in
    let set : ℕ → Bool = λ x. is_the c.args.clock (entry c.args.table.now x) in
    c.in_ok-found.ensures
    ∙ sym (earliest_hit (uses_of_driver F set (driver_of F c.args.part)) (uses_of_block F set (block_of F c.args.part)) (ap is_some (sym c.in_ok-found.ensures) ∙ (sym c.is_some.ensures ∙ c.if-is_some.true)))
