use Rattle.std.proofs.Common.{◌≡◌, ◌||◌, map, drop}
use Rattle.std.specs.List.{list_any}
use Rattle.std.specs.Str.{bytes_eq}
use Rattle.rr_flat.specs.Signals.{Text}
use Rattle.rr_text_names.specs.View.{plain_target}
use Rattle.rr_guard.specs.Names.{is_later}
use Rattle.rr_guard.proofs.assigned.written_later.Given as goal

abbrev pub invariant-loop-target : goal.invariant-loop-target
invariant-loop-target l = (name : Text) → (list_any (bytes_eq name) l.set || list_any (is_later name) (map plain_target (drop l.target-index l.targets))) ≡ list_any (is_later name) (map plain_target l.targets)
