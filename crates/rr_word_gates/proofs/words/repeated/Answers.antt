use Rattle.std.proofs.Common.{◌∙◌, ◌≡◌, ap, arith}
use Rattle.rr_word_gates.proofs.Copying.{copied, copied_none, copied_next, copied_carries}
use Rattle.rr_word_gates.proofs.words.repeated.Goals as goal

pub loop-done-init : goal.loop-done-init
loop-done-init c = (c.new-out.ensures.items ∙ copied_none c.args.word.now, omega arith)

pub loop-done-preserved : goal.loop-done-preserved
loop-done-preserved c = (copied_next _ _ _ _ c.loop-done.invariant.0 c.in_ok-extend_from_slice.ensures.items, omega arith)

pub returns : goal.returns
returns c = let e : c.loop-done.done ≡ c.args.copies = omega (arith, c.loop-done.invariant.1) in λ n h. copied_carries n c.args.copies c.args.word.now _ (c.loop-done.invariant.0 ∙ ap (λ k. copied k c.args.word.now) e) h
