use Rattle.std.proofs.Common.{◌≡◌, sym, subst, true, List, take, get_or, pos}
use Rattle.std.proofs.lemmas.List.{take_more}
use Rattle.rr_named_bits.specs.declared.piece.Reach.{Reach}
use Rattle.rr_named_bits.specs.Lists.{covered}
use Rattle.rr_latch.specs.Notes.{Noted, Unassigned}
use Rattle.rr_latch.proofs.Noting.{noted_none, reaches_next}
use Rattle.rr_latch.proofs.early.note_reaches.Goals as goal

pub loop-reach-init : goal.loop-reach-init
unfolding covered
loop-reach-init c = noted_none _ _ (λ b p. cc)

pub loop-reach-preserved : goal.loop-reach-preserved
loop-reach-preserved c =
    let rs = c.args.reaches.now in
    let i = c.loop-reach.reach-index in
    let d : Reach = record { piece = record { signal = 0; width = 0; from = pos 0; count = 0 }; words = 0 } in
    let P : List Reach → Type 0 = λ z. Noted (Unassigned c.args.table.now (λ b. covered z b ≡ true)) c.args.early.now c.note_reach.new.early in
    subst P (sym (take_more rs i d c.loop-reach-test.true))
    (reaches_next c.args.table.now (take i rs) (get_or rs i d) c.args.early.now c.loop-reach.early c.note_reach.new.early c.loop-reach.invariant c.in_ok-note_reach.ensures)
