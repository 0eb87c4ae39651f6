use Rattle.std.proofs.Common.{◌≡◌, drop, fold}
use Rattle.std.specs.Prelude.{flat_map}
use Rattle.rr_syntax.specs.View.{plain}
use Rattle.rr_flat.specs.Faults.{sooner}
use Rattle.rr_loop_rules.specs.Rules.{strays}
use Rattle.rr_loop_rules.specs.View.{plain_around}
use Rattle.rr_loop_rules.proofs.strays.+straying.Given as goal

abbrev pub invariant-note_parts_inside-loop-expr : goal.invariant-note_parts_inside-loop-expr
invariant-note_parts_inside-loop-expr l =
    fold sooner l.found (flat_map (λ x. strays l.names (plain_around l.around) (plain x)) (drop l.expr-index l.list))
    ≡ fold sooner l.fn.found (flat_map (λ x. strays l.names (plain_around l.around) (plain x)) l.list)
