use Rattle.std.proofs.Common.{◌≡◌, take}
use Rattle.rr_syntax.specs.View.{plain_list}
use Rattle.rr_expr.proofs.notes.+sames.Given as goal

abbrev pub invariant-same_parts-loop-place : goal.invariant-same_parts-loop-place
invariant-same_parts-loop-place l = plain_list (take l.place l.a) ≡ plain_list (take l.place l.b)
