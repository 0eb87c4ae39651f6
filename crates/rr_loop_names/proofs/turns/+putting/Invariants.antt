use Rattle.std.proofs.Common.{◌≡◌, take}
use Rattle.rr_syntax.specs.View.{plain_list}
use Rattle.rr_loop_names.specs.Turns.{put_parts}
use Rattle.rr_loop_names.specs.View.{plain_turn}
use Rattle.rr_loop_names.proofs.turns.+putting.Given as goal

abbrev pub invariant-put_all-loop-expr : goal.invariant-put_all-loop-expr
invariant-put_all-loop-expr l = plain_list l.parts.items ≡ put_parts (plain_turn l.turn) (plain_list (take l.expr-index l.list))
