use Rattle.std.proofs.Common.{◌≡◌, ◌++◌, map, take}
use Rattle.rr_respell.specs.Pieces.{puts}
use Rattle.rr_patch.specs.Changes.{changes, plain_added, plain_changes}
use Rattle.rr_patch.proofs.forms.put_all.Given as goal

abbrev pub invariant-loop-new : goal.invariant-loop-new
invariant-loop-new l = plain_changes l.out.items ≡ plain_changes l.initial.out.items ++ changes l.place (puts (map plain_added (take l.new-index l.list)))
