use Rattle.rr_vcd.proofs.Slotting.{watches_one, watches_bare, on_ok}
use Rattle.rr_vcd.proofs.sampler.watch.Goals as goal

pub returns-in-Some : goal.returns-in-Some
returns-in-Some c = on_ok _ _ c.watch.result (watches_one c.args.slots.now c.watch.new.self c.args.probe c.in-Some.id c.in-Some.is) c.watch.ensures

pub returns-in-None : goal.returns-in-None
returns-in-None c = watches_bare c.args.slots.now c.args.probe c.in-None.is
