use Rattle.std.proofs.Common.{◌≡◌, ◌+◌, ◌*◌, ℕ, List, [], Some, length}
use Rattle.std.specs.List.{slice_get}
use Rattle.rr_directive.specs.Expand.{Definition, Event}
use Rattle.rr_directive.specs.View.{HasTexts, Opens, Shows}
use Rattle.rr_directive.proofs.Running.{Running}
use Rattle.rr_directive.proofs.using.give_use.Given as goal

abbrev pub invariant-loop-frame : goal.invariant-loop-frame
invariant-loop-frame l = (names : List (List ℕ)) (ds : List Definition) (name : List ℕ) (events : List Event) → HasTexts names l.texts ds → Opens names l.fn.flags []
    → Shows l.fn.out events → slice_get names l.number ≡ Some name → Running names ds name events l.offset l.flags l.frames.items l.out

abbrev pub decreases-loop-frame : goal.decreases-loop-frame
decreases-loop-frame l = 2 * l.out.left + length l.frames.items
