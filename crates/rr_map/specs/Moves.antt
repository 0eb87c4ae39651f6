-- Edits of a text as edits of the file that it is the expansion of.
use Rattle.std.specs.Prelude.{◌+◌, ◌-◌, List, map}
use Rattle.rr_directive.specs.declared.origin.Origin.{Origin}
use Rattle.rr_directive.specs.Places.{offset_at}
use Rattle.rr_edit.specs.Edits.{Edit}

-- Where an edit lifts, it replaces as many bytes of the file, which stand side by side up to the last one that it replaces or up to
-- the byte before it.
abbrev pub moved : List Origin → Edit → Edit
moved origins e = record { from = (offset_at origins (e.to - 1) + 1) - (e.to - e.from); to = offset_at origins (e.to - 1) + 1; text = e.text }

abbrev pub all_moved : List Origin → List Edit → List Edit
all_moved origins es = map (moved origins) es
