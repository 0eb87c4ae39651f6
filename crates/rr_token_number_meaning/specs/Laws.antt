-- The meaning of flat designs and token numbers.
use Rattle.std.specs.Prelude.{ℕ, Bool, List, Option}
use Rattle.rr_flat.specs.Signals.{Text}
use Rattle.rr_flat.specs.declared.design.Step.{Step}
use Rattle.rr_flat.specs.Lawful.{Lawful}
use Rattle.rr_flat.specs.Ordered.{Ordered}
use Rattle.rr_flat.specs.Plain.{Flat}
use Rattle.rr_cycle.specs.Cycles.{Run}
use Rattle.rr_token_numbers.specs.Bare.{IsSameFlat}

-- designs that are equal without token numbers are lawful both or neither
abbrev pub SameLaws : Type 0
SameLaws = (f g : Flat) (word : Option Text) → IsSameFlat f g → Lawful f word → Lawful g word

-- they have the same clock, and the same orders of their steps
abbrev pub SameOrders : Type 0
SameOrders = (f g : Flat) (word : Option Text) (clock : Option ℕ) (rising : Bool) (steps : List Step) → IsSameFlat f g → Ordered f word clock rising steps → Ordered g word clock rising steps

-- and the same runs
abbrev pub SameRuns : Type 0
SameRuns = (f g : Flat) (clock : Option ℕ) (rows outputs : List (List ℕ)) → IsSameFlat f g → Run f clock rows outputs → Run g clock rows outputs
