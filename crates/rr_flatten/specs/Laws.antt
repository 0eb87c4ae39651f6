-- What the limit on the tokens of loops is for the flat design of a source.
use Rattle.std.specs.Prelude.{◌≡◌, ◌⊎◌, ℕ, Option, Some, Ok, Err}
use Rattle.rr_syntax.specs.Tree.{SourceText}
use Rattle.rr_flat.specs.declared.fault.Limit.TheVariants.{Unfolded}
use Rattle.rr_flat.specs.declared.fault.FlatFault.{FlatFault}
use Rattle.rr_flat.specs.declared.fault.FlatFault.TheVariants.{TooMany}
use Rattle.rr_flat.specs.Plain.{Flat}
use Rattle.rr_flat.specs.Signals.{Text}
use Rattle.rr_flatten.specs.Walk.{flat_by, flat_of}

-- the limit refuses what passes it, and changes nothing else
pub record LimitsAgree : Type 0 where
  pub design : (n : ℕ) (source : SourceText) (top : Option Text) (flat : Flat) → flat_by (Some n) source top ≡ Ok flat → flat_of source top ≡ Ok flat
  pub refusal : (n : ℕ) (source : SourceText) (top : Option Text) (f : FlatFault) → flat_by (Some n) source top ≡ Err f → ((count : ℕ) → f ≡ TooMany Unfolded count → ⊥) → flat_of source top ≡ Err f
  pub within : (n : ℕ) (source : SourceText) (top : Option Text) (flat : Flat) → flat_of source top ≡ Ok flat
      → (flat_by (Some n) source top ≡ Ok flat) ⊎ ((count : ℕ) × (flat_by (Some n) source top ≡ Err (TooMany Unfolded count)))
