-- What a cycle stands on: a flat design that is lawful, with an order of its steps.
use Rattle.std.specs.Prelude.{ℕ, List, Bool, Option}
use Rattle.rr_flat.specs.Signals.{Text}
use Rattle.rr_flat.specs.declared.design.Step.{Step}
use Rattle.rr_flat.specs.Lawful.{Lawful}
use Rattle.rr_flat.specs.Ordered.{Ordered}
use Rattle.rr_flat.specs.Plain.{Flat}

-- lawful with some word for the clock
abbrev pub IsLawful : Flat → Type 0
IsLawful flat = (word : Option Text) × Lawful flat word

-- and in order with it
abbrev pub IsInOrder : Flat → Option ℕ → Bool → List Step → Type 0
IsInOrder flat clock rising steps = (word : Option Text) × (Lawful flat word × Ordered flat word clock rising steps)
