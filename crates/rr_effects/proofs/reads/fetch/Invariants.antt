use Rattle.std.proofs.Common.{◌≡◌, map, take}
use Rattle.rr_effects.specs.Reads.{Given}
use Rattle.rr_effects.specs.Views.{contents, read_of}
use Rattle.rr_effects.proofs.reads.fetch.Given as goal

-- the reads so far gave the files, and no count rose
abbrev pub invariant-loop-number : goal.invariant-loop-number
invariant-loop-number g l = Given (g.H.Shelf.told l.initial.shelf) (take l.number (map read_of l.reads)) (contents l.files.items) × (g.H.Shelf.told l.shelf ≡ g.H.Shelf.told l.initial.shelf) × (g.H.Shelf.faults l.shelf ≡ g.H.Shelf.faults l.initial.shelf)
