use Rattle.std.proofs.Common.{◌≡◌, ◌||◌, drop}
use Rattle.std.specs.List.{list_any}
use Rattle.std.specs.Str.{bytes_eq}
use Rattle.rr_syntax.specs.View.{texts}
use Rattle.rr_flat.specs.Signals.{Text}
use Rattle.rr_guard.proofs.candidates.set_of.Given as goal

abbrev pub invariant-loop-text : goal.invariant-loop-text
invariant-loop-text l = (name : Text) → (list_any (bytes_eq name) l.set || list_any (bytes_eq name) (texts (drop l.text-index l.list))) ≡ list_any (bytes_eq name) (texts l.list)
