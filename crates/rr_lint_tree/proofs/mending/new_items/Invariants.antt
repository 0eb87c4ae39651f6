use Rattle.std.proofs.Common.{◌≡◌, map, take}
use Rattle.rr_syntax.specs.View.{plain_item}
use Rattle.rr_body_laws.specs.Bodies.{item_with}
use Rattle.rr_lint_laws.specs.Mended.{mended_body}
use Rattle.rr_lint_names.specs.Latched.{marks}
use Rattle.rr_lint_tree.proofs.mending.new_items.Given as goal

abbrev pub invariant-loop-one : goal.invariant-loop-one
invariant-loop-one l = record { done : map plain_item l.list.items ≡ map (item_with (mended_body (marks l.noted))) (map plain_item (take l.one-index l.old)) }
