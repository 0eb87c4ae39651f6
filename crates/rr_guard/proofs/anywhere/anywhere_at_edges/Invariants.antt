use Rattle.std.proofs.Common.{◌≡◌, ◌++◌, map, drop}
use Rattle.std.specs.Prelude.{flat_map}
use Rattle.rr_text_names.specs.View.{plain_target}
use Rattle.rr_syntax.specs.View.{plain_item}
use Rattle.rr_guard.specs.Anywhere.{anywhere_at_edges}
use Rattle.rr_guard.proofs.anywhere.anywhere_at_edges.Given as goal

abbrev pub invariant-loop-item : goal.invariant-loop-item
invariant-loop-item l = map plain_target l.list.items ++ flat_map (λ x. anywhere_at_edges (plain_item x)) (drop l.item-index l.module.items.now) ≡ flat_map (λ x. anywhere_at_edges (plain_item x)) l.module.items.now
