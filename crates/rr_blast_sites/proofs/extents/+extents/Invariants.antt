use Rattle.std.proofs.Common.{◌≡◌, ◌+◌, min, take}
use Rattle.rr_syntax.proofs.Lengths.{more_len}
use Rattle.rr_blast_sites.proofs.extents.+extents.Given as goal

abbrev pub invariant-left_after_parts-loop-place : goal.invariant-left_after_parts-loop-place
invariant-left_after_parts-loop-place l = more_len (take l.place l.parts) + l.rest ≡ l.fn.count + min l.place 1
