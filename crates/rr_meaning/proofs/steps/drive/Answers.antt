use Rattle.rr_meaning.proofs.steps.drive.Goals as goal

pub write_pieces-requires-clause-few : goal.write_pieces-requires-clause-few
write_pieces-requires-clause-few c = rw c.as_slice.ensures.value c.in_ok-driven_pieces.ensures.few
