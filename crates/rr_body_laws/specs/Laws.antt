-- Elaboration commutes with a change of the bodies of combinational blocks.
use Rattle.std.specs.Prelude.{◌≡◌, ℕ, Option, Ok}
use Rattle.rr_syntax.specs.Tree.{SourceText}
use Rattle.rr_flat.specs.Plain.{Flat}
use Rattle.rr_flat.specs.Signals.{Text}
use Rattle.rr_flatten.specs.Walk.{flat_by}
use Rattle.rr_body_laws.specs.Bodies.{Bodies, KeepsBodies, IsFlatWith, source_with}

-- the source with new bodies in the modules that have instances has a flat design too, which is that design with these bodies
abbrev pub BodiesElaborate : Type 0
BodiesElaborate =
    (limit : Option ℕ) (f : Bodies) (source : SourceText) (top : Option Text) (flat : Flat) → flat_by limit source top ≡ Ok flat → KeepsBodies f source flat →
    (new : Flat) × ((flat_by limit (source_with flat.reached f source) top ≡ Ok new) × IsFlatWith f source flat new)
