use Rattle.std.proofs.Common.{◌≡◌, ◌||◌, map, drop}
use Rattle.rr_syntax.specs.View.{plain_identifier}
use Rattle.rr_flat.specs.Signals.{Text}
use Rattle.rr_guard.specs.Candidates.{is_among}
use Rattle.rr_overwrite.specs.Overwrites.{is_in}
use Rattle.rr_overwrite.proofs.variables.add_names.Given as goal

abbrev pub invariant-loop-named : goal.invariant-loop-named
invariant-loop-named l =
    (name : Text) → (is_among name l.set || is_in name (map plain_identifier (drop l.named-index l.names))) ≡ (is_among name l.fn.set || is_in name (map plain_identifier l.names))
