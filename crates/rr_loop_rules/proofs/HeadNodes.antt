-- The names of loops in a head of the arena.
use Rattle.std.proofs.Common.{◌≡◌, ◌∙◌, ◌++◌, Bool, not, fold, Option, refl}
use Rattle.std.specs.Str.{bytes_eq}
use Rattle.std.proofs.lemmas.List.Sums.{fold-append}
use Rattle.rr_syntax.specs.declared.tree.Head.{Head}
use Rattle.rr_syntax.specs.View.{plain, plain_loop}
use Rattle.rr_flat.specs.declared.fault.FlatFault.{FlatFault}
use Rattle.rr_flat.specs.declared.fault.FlatFault.TheVariants.{BadLoop}
use Rattle.rr_flat.specs.Faults.{sooner, fault_if}
use Rattle.rr_loop_rules.specs.Rules.{LoopNames, contains, strays, head_faults, inner_faults}

pub head_noted : (found : Option FlatFault) (names around : LoopNames) (h : Head) → fold sooner found (head_faults names around (plain_loop h))
    ≡ fold sooner (fold sooner (fold sooner found (fault_if (not (contains names h.name.now)) (BadLoop h.token))) (fault_if (contains around h.name.now) (BadLoop h.token))) (strays names around (plain h.start.now))
unfolding head_faults plain_loop
head_noted found names around h =
    fold-append sooner found (fault_if (not (contains names h.name.now)) (BadLoop h.token)) (fault_if (contains around h.name.now) (BadLoop h.token) ++ strays names around (plain h.start.now))
    ∙ fold-append sooner (fold sooner found (fault_if (not (contains names h.name.now)) (BadLoop h.token))) (fault_if (contains around h.name.now) (BadLoop h.token)) (strays names around (plain h.start.now))

pub inner_noted : (found : Option FlatFault) (names around : LoopNames) (h : Head) → fold sooner found (inner_faults names around (plain_loop h))
    ≡ fold sooner (fold sooner (fold sooner found (strays names around (plain h.test.now))) (fault_if (not (bytes_eq h.name.now h.step_name.now)) (BadLoop h.step_token))) (strays names around (plain h.step.now))
unfolding inner_faults plain_loop
inner_noted found names around h =
    fold-append sooner found (strays names around (plain h.test.now)) (fault_if (not (bytes_eq h.name.now h.step_name.now)) (BadLoop h.step_token) ++ strays names around (plain h.step.now))
    ∙ fold-append sooner (fold sooner found (strays names around (plain h.test.now))) (fault_if (not (bytes_eq h.name.now h.step_name.now)) (BadLoop h.step_token)) (strays names around (plain h.step.now))

pub ruleset head_nodes = (head_noted)

pub ruleset inner_nodes = (inner_noted)
