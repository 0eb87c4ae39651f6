use Rattle.std.proofs.Common.{◌≡◌, map, take}
use Rattle.rr_endings.specs.Views.{file_of}
use Rattle.rr_effects.specs.Delivery.{with_files}
use Rattle.rr_effects.proofs.delivery.write_files.Given as goal

-- the files so far are whole, and no count rose
abbrev pub invariant-loop-number : goal.invariant-loop-number
invariant-loop-number g l = (g.H.Shelf.told l.shelf ≡ with_files (g.H.Shelf.told l.initial.shelf) (take l.number (map file_of l.files))) × (g.H.Shelf.faults l.shelf ≡ g.H.Shelf.faults l.initial.shelf)
