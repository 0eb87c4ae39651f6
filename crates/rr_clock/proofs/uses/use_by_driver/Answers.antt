use Rattle.std.proofs.Common.{◌∙◌, sym, ap}
use Rattle.rr_flat.specs.View.{plain_flat}
use Rattle.rr_text_names.specs.Firsts.{earliest}
use Rattle.rr_text_names.specs.Names.{entry, is_the}
use Rattle.rr_clock.specs.Clock.{uses_of_driver}
use Rattle.rr_clock.proofs.UseLaw.{no_driver_uses}
use Rattle.rr_clock.proofs.uses.use_by_driver.Goals as goal

pub returns-in-None : goal.returns-in-None
returns-in-None c =
    sym (ap (λ d. earliest (uses_of_driver (plain_flat c.args.flat.now) (λ x. is_the c.args.clock (entry c.args.table.now x)) d)) c.in-None.ensures.none
    ∙ no_driver_uses (plain_flat c.args.flat.now) (λ x. is_the c.args.clock (entry c.args.table.now x)))
