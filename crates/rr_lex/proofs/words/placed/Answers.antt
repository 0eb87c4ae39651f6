use Rattle.std.proofs.Common.{ℕ, List, [], ◌∙◌, sym, arith}
use denote.Ref.{Bor}
use Rattle.std.proofs.lemmas.List.{get_or-map}
use Rattle.rr_lex.proofs.Places.{placed_yes, placed_no}
use Rattle.rr_lex.proofs.words.placed.Goals as goal

pub returns-then-eq-clause-place : goal.returns-then-eq-clause-place
returns-then-eq-clause-place c = placed_yes c.args.slot c.args.text.now c.args.texts.now (omega arith)
    (rw (get_or-map (λ (t : Bor (List ℕ)). t.now) c.args.texts.now c.args.slot (record { ref_ptr = (0, 0); now = [] }) [] (omega arith), ← c.as_bytes.ensures.value) (sym c.eq.ensures ∙ c.if-eq.true))

pub returns-else-eq-clause-place : goal.returns-else-eq-clause-place
returns-else-eq-clause-place c = placed_no c.args.slot c.args.text.now c.args.texts.now (omega arith)
    (rw (get_or-map (λ (t : Bor (List ℕ)). t.now) c.args.texts.now c.args.slot (record { ref_ptr = (0, 0); now = [] }) [] (omega arith), ← c.as_bytes.ensures.value) (sym c.eq.ensures ∙ c.if-eq.false))
