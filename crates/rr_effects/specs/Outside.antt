-- The shelf and the standard output, before and after.
use Rattle.std.specs.Prelude.{◌≡◌, ℕ, List, Option}
use Rattle.rr_edge.specs.Held.{Held}

-- the shelf and the output at one moment
pub record Outside : Type 0 where
  pub held : Option Held
  pub faults : ℕ
  pub out : Option (List ℕ)
  pub out_faults : ℕ

abbrev pub outside : Option Held → ℕ → Option (List ℕ) → ℕ → Outside
outside held faults out out_faults = record { held = held; faults = faults; out = out; out_faults = out_faults }

pub record KeepsShelf (before after : Outside) : Type 0 where
  pub held : after.held ≡ before.held
  pub faults : after.faults ≡ before.faults

pub record KeepsOut (before after : Outside) : Type 0 where
  pub out : after.out ≡ before.out
  pub faults : after.out_faults ≡ before.out_faults
