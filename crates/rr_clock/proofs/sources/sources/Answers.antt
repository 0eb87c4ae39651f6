use Rattle.std.proofs.Common.{sym, subst}
use Rattle.rr_flat.specs.View.{plain_flat}
use Rattle.rr_text_names.specs.Names.{entry}
use Rattle.rr_clock.specs.Spread.{AreFirstDrivers}
use Rattle.rr_clock.proofs.Spreading.{IsFilling, filled}
use Rattle.rr_clock.proofs.sources.sources.Goals as goal

pub returns : goal.returns
returns c =
    filled (plain_flat c.args.flat.now) (entry c.as_slice-first.result.now) c.loop-growing.table.items
    (subst (λ z. AreFirstDrivers (plain_flat c.args.flat.now) (entry z)) (sym c.as_slice-first.ensures.value) c.in_ok-drivers.ensures)
    (subst (λ z. IsFilling (plain_flat c.args.flat.now) (entry c.as_slice-first.result.now) c.loop-growing.table.items z) c.loop-growing-test.false c.loop-growing.invariant)
