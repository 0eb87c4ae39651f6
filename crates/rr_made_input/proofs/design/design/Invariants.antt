use Rattle.std.proofs.Common.{◌≡◌, ◌++◌, string_bytes}
use Rattle.std.specs.Prelude.{flat_map}
use Rattle.std.specs.List.{range_with_len}
use Rattle.rr_made_input.specs.Made.{register_text, written}
use Rattle.rr_made_input.proofs.design.design.Given as goal

abbrev pub invariant-loop-i : goal.invariant-loop-i
invariant-loop-i l = string_bytes l.text ≡ string_bytes l.initial.text ++ flat_map (λ i. register_text i (written l.seed i)) (range_with_len 0 l.i)
