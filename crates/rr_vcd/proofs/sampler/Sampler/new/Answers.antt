use Rattle.std.proofs.Common.{refl}
use Rattle.rr_vcd.proofs.Slotting.{new_watched, new_slots}
use Rattle.rr_vcd.proofs.Keeping.{told_none}
use Rattle.rr_vcd.proofs.sampler.Sampler.new.Goals as goal

pub returns : goal.returns
returns c = λ top d s probes.
    told_none top d s _ probes
    (new_watched c.args.probes _ _ _ _ _ _ c.in_ok-watch_clock.ensures c.in_ok-watch_all.ensures c.in_ok-watch_all-2.ensures c.as_slice.ensures.value c.as_slice-2.ensures.value c.requires)
    refl
    (new_slots c.args.probes _ _ _ _ _ _ c.in_ok-watch_clock.ensures c.in_ok-watch_all.ensures c.in_ok-watch_all-2.ensures c.as_slice.ensures.value c.as_slice-2.ensures.value c.new-slots.ensures)
    refl refl refl c.new.ensures.items c.new-2.ensures.items
