use Rattle.std.proofs.Common.{◌∙◌, ◌++◌, sym, ap, is_some}
use Rattle.rr_flat.specs.View.{plain_flat}
use Rattle.rr_assign.specs.Aims.{bad_of_driver, bad_of_block, bad_of_initial}
use Rattle.rr_flat.specs.Parts.{driver_of, block_of, initial_of}
use Rattle.rr_text_names.proofs.Walks.{earliest_hit}
use Rattle.rr_assign.proofs.aims.bad_of_part.Goals as goal

pub returns-then-is_some : goal.returns-then-is_some
returns-then-is_some c =
    let F = plain_flat c.args.flat.now in
    c.in_ok-found.ensures
    ∙ sym (earliest_hit (bad_of_driver F (driver_of F c.args.part)) (bad_of_block F (block_of F c.args.part) ++ bad_of_initial F (initial_of F c.args.part)) (ap is_some (sym c.in_ok-found.ensures) ∙ (sym c.is_some.ensures ∙ c.if-is_some.true)))
