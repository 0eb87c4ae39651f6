use Rattle.std.proofs.Common.{◌∙◌, [], ◌∷◌, ◌++◌, sym, ap, ℕ, List, codes, decimal}
use Rattle.std.proofs.lemmas.List.{append_assoc}
use Rattle.rr_repair_output.proofs.leaving.open_notes.Goals as goal

-- the text is made from the left, its definition ends it with a line feed
pub returns : goal.returns
returns c =
    c.in_ok-text.ensures.ok ∙ ap (λ (xs : List ℕ). codes "budget spent " ++ xs) (sym (append_assoc (decimal c.args.budget) (codes " bound " ++ decimal c.args.bound) (10 ∷ [])))
