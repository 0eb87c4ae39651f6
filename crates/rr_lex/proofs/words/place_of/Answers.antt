use Rattle.std.proofs.Common.{ℕ, List, [], ◌∙◌, sym, arith}
use denote.Ref.{Bor}
use Rattle.std.proofs.lemmas.List.{get_or-map}
use Rattle.rr_lex.proofs.Facts.{more_zero, place-yes, place-no, place-end}
use Rattle.rr_lex.proofs.words.place_of.Goals as goal

pub loop-at-init : goal.loop-at-init
loop-at-init c = sym (more_zero _)

pub returns-then-eq-clause-place : goal.returns-then-eq-clause-place
returns-then-eq-clause-place c = sym (c.loop-at.invariant ∙ place-yes c.args.text.now c.args.texts.now c.loop-at.at (omega arith) (rw (get_or-map (λ (t : Bor (List ℕ)). t.now) c.args.texts.now c.loop-at.at (record { ref_ptr = (0, 0); now = [] }) [] (omega arith), ← c.as_bytes.ensures.value) (sym c.eq.ensures ∙ c.if-eq.true)))

pub loop-at-preserved : goal.loop-at-preserved
loop-at-preserved c = c.loop-at.invariant ∙ place-no c.args.text.now c.args.texts.now c.loop-at.at (omega arith) (rw (get_or-map (λ (t : Bor (List ℕ)). t.now) c.args.texts.now c.loop-at.at (record { ref_ptr = (0, 0); now = [] }) [] (omega arith), ← c.as_bytes.ensures.value) (sym c.eq.ensures ∙ c.if-eq.false))

pub returns-clause-place : goal.returns-clause-place
returns-clause-place c = sym (c.loop-at.invariant ∙ place-end c.args.text.now c.args.texts.now c.loop-at.at (omega arith))
