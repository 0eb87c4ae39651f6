-- What holds of expansions and of first faults.
use Rattle.std.specs.Prelude.{ℕ, ◌≡◌, ◌≢◌, ◌<◌, ◌≤◌, List, Bool, true, false, length}
use Rattle.std.specs.List.{All}
use Rattle.rr_directive.specs.declared.piece.Directive.TheVariants as directive
use Rattle.rr_directive.specs.declared.piece.Kind.{Kind}
use Rattle.rr_directive.specs.declared.piece.Kind.TheVariants as kind
use Rattle.rr_directive.specs.declared.fault.DirectiveFault.{DirectiveFault}
use Rattle.rr_directive.specs.declared.fault.DirectiveFault.TheVariants as fault
use Rattle.rr_directive.specs.declared.origin.Origin.{Origin}
use Rattle.rr_directive.specs.Pieces.{units_of}
use Rattle.rr_directive.specs.Expand.{Faults, IsExpansion, IsTaken}
use Rattle.rr_directive.specs.Places.{offset_at}

-- a file has one expansion at most
abbrev pub OneExpansion : Type 0
OneExpansion = (bytes text other : List ℕ) (origins others : List Origin) → IsExpansion bytes text origins → IsExpansion bytes other others → (text ≡ other) × (origins ≡ others)

-- and one first fault at most; want of memory is none
abbrev pub OneFault : Type 0
OneFault = (bytes : List ℕ) (e f : DirectiveFault) → Faults bytes e → Faults bytes f → e ≢ fault.Memory → f ≢ fault.Memory → e ≡ f

-- and not both
abbrev pub NotBoth : Type 0
NotBoth = (bytes text : List ℕ) (origins : List Origin) (e : DirectiveFault) → IsTaken bytes text origins → Faults bytes e → e ≡ fault.Memory

-- a unit that gives itself wherever it stands
unfoldable pub is_kept : Kind → Bool
is_kept kind.Comment = true
is_kept kind.Escaped = true
is_kept kind.Plain = true
is_kept kind.Use = false
is_kept (kind.Named directive.Stays) = true
is_kept (kind.Named directive.Define) = false
is_kept (kind.Named directive.Undef) = false
is_kept (kind.Named directive.Ifdef) = false
is_kept (kind.Named directive.Ifndef) = false
is_kept (kind.Named directive.Else) = false
is_kept (kind.Named directive.Endif) = false
is_kept (kind.Named directive.Elsif) = false

-- a file without uses and without directives but those that stay is its own expansion
abbrev pub PlainStays : Type 0
PlainStays = (bytes : List ℕ) → All (λ u. is_kept u.piece.kind ≡ true) (units_of bytes) → (origins : List Origin) × IsExpansion bytes bytes origins

-- each byte of the text stands at its own place
abbrev pub AreOwn : List Origin → Type 0
AreOwn origins = (k : ℕ) → k < length origins → offset_at origins k ≡ k

-- within the limit such a file is read, and each of its bytes has its own place
abbrev pub PlainTaken : Type 0
PlainTaken = (bytes : List ℕ) → All (λ u. is_kept u.piece.kind ≡ true) (units_of bytes) → length bytes ≤ 1048576 → (origins : List Origin) × (IsTaken bytes bytes origins × AreOwn origins)

-- a file without a backtick is such
abbrev pub NoBackticks : Type 0
NoBackticks = (bytes : List ℕ) → All (λ b. b ≢ 96) bytes → All (λ u. is_kept u.piece.kind ≡ true) (units_of bytes)
