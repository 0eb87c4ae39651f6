use Rattle.std.proofs.Common.{◌∙◌, sym, ap}
use Rattle.std.proofs.lemmas.Result.{on_ok_weaker}
use Rattle.rr_named_bits.specs.Lists.{covered}
use Rattle.rr_latch.proofs.Noting.{noted_as}
use Rattle.rr_latch.proofs.Scanning.{only_grown}
use Rattle.rr_latch.proofs.early.read_target.Goals as goal

pub returns : goal.returns
returns c = on_ok_weaker c.note_reaches.result (λ h. noted_as _ _ c.args.early.now c.note_reaches.new.early
    (λ b p. (only_grown c.new-reaches.result.items c.add_target_reads.new.list.items _ c.new-reaches.ensures.items c.in_ok-add_target_reads.ensures b (ap (λ z. covered z b) (sym c.as_slice.ensures.value) ∙ p.0), p.1))
    (λ b p. (ap (λ z. covered z b) c.as_slice.ensures.value ∙ c.in_ok-add_target_reads.ensures.added b p.0, p.1)) h) c.note_reaches.ensures
