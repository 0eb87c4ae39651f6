-- The first law that a flat design breaks, in the order in which they are checked.
use Rattle.std.specs.Prelude.{ℕ, ◌≡◌, ◌⊎◌, Bool, Option, Some, None}
use Rattle.rr_flat.specs.Signals.{Text}
use Rattle.rr_flat.specs.Clocks.{OneClock}
use Rattle.rr_flat.specs.Lawful.{ClockNamed, NoClockRead, NoLatches, NoRace, OneWriter, RightKinds, RightLabels, RightTargets}
use Rattle.rr_flat.specs.Plain.{Flat}
use Rattle.rr_text_names.specs.Firsts.{earliest}
use Rattle.rr_assign.specs.Aims.{bad_targets}
use Rattle.rr_assign.specs.Kinds.{wrong_kinds}
use Rattle.rr_assign.specs.Labels.{all_wild}
use Rattle.rr_assign.specs.Races.{races}
use Rattle.rr_clock.specs.Clock.{ClockFails, IsFirstUse}
use Rattle.rr_writers.specs.Doubles.{IsDouble}
use Rattle.rr_latch.specs.Unassigned.{IsLatch}
use Rattle.rr_order.specs.Loops.{IsLoop}
use Rattle.rr_lawful.specs.declared.laws.LawFault.{LawFault}
use Rattle.rr_lawful.specs.declared.laws.LawFault.TheVariants.{TwoDrivers, WrongAssign, Race, Latch, Loop, ClockUse, TwoClocks, BadTarget, WildLabel, UnknownName, Memory}

-- the laws of names, targets and labels
pub record HasRightTexts (flat : Flat) (word : Option Text) : Type 0 where
  pub named : ClockNamed flat word
  pub targets : RightTargets flat
  pub labels : RightLabels flat

-- and those of the clock, which is this one in this direction
pub record HasClock (flat : Flat) (word : Option Text) (clock : Option ℕ) (rising : Bool) : Type 0 where
  pub texts : HasRightTexts flat word
  pub one_clock : OneClock flat word clock rising
  pub unread : NoClockRead flat clock

-- and those of writers, kinds of assignment, races and latches
pub record HasRightWrites (flat : Flat) : Type 0 where
  pub one_writer : OneWriter flat
  pub kinds : RightKinds flat
  pub no_race : NoRace flat
  pub no_latches : NoLatches flat

-- the first of these four that fails
abbrev pub FailsWrites : Flat → LawFault → Type 0
FailsWrites flat (UnknownName at) = ⊥
FailsWrites flat (BadTarget at) = ⊥
FailsWrites flat (WildLabel at) = ⊥
FailsWrites flat (TwoClocks at) = ⊥
FailsWrites flat (ClockUse at) = ⊥
FailsWrites flat (TwoDrivers bit first second) = IsDouble flat (record { bit = bit; first = first; second = second })
FailsWrites flat (WrongAssign at) = OneWriter flat × (earliest (wrong_kinds flat) ≡ Some at)
FailsWrites flat (Race at) = OneWriter flat × RightKinds flat × (earliest (races flat) ≡ Some at)
FailsWrites flat (Latch bit block) = OneWriter flat × RightKinds flat × NoRace flat × IsLatch flat (record { bit = bit; block = block })
FailsWrites flat (Loop cycle token) = ⊥
FailsWrites flat Memory = Unit {0}

-- a name that leads to the one clock is used as data, first at this token
pub record IsUsed (flat : Flat) (word : Option Text) (at : ℕ) : Type 0 where
  pub clock : Option ℕ
  pub rising : Bool
  pub one_clock : OneClock flat word clock rising
  pub first : IsFirstUse flat clock (Some at)

abbrev pub IsClocked : Flat → Option Text → Type 0
IsClocked flat word = (clock : Option ℕ) × ((rising : Bool) × HasClock flat word clock rising)

-- the laws before it hold, and this one fails, first at this place; want of memory is free
abbrev pub FailsFirst : Flat → Option Text → LawFault → Type 0
FailsFirst flat word (UnknownName at) = (at ≡ flat.top) × (ClockNamed flat word → ⊥)
FailsFirst flat word (BadTarget at) = ClockNamed flat word × (earliest (bad_targets flat) ≡ Some at)
FailsFirst flat word (WildLabel at) = ClockNamed flat word × RightTargets flat × (earliest (all_wild flat) ≡ Some at)
FailsFirst flat word (TwoClocks at) = HasRightTexts flat word × ClockFails flat word at
FailsFirst flat word (ClockUse at) = HasRightTexts flat word × IsUsed flat word at
FailsFirst flat word (TwoDrivers bit first second) = IsClocked flat word × FailsWrites flat (TwoDrivers bit first second)
FailsFirst flat word (WrongAssign at) = IsClocked flat word × FailsWrites flat (WrongAssign at)
FailsFirst flat word (Race at) = IsClocked flat word × FailsWrites flat (Race at)
FailsFirst flat word (Latch bit block) = IsClocked flat word × FailsWrites flat (Latch bit block)
FailsFirst flat word (Loop cycle token) = IsClocked flat word × HasRightWrites flat × IsLoop flat cycle.items token
FailsFirst flat word Memory = Unit {0}

-- where it is no want of memory, this does not hold
abbrev pub Denies : Type 0 → LawFault → Type 0
Denies P (UnknownName at) = P → ⊥
Denies P (BadTarget at) = P → ⊥
Denies P (WildLabel at) = P → ⊥
Denies P (TwoClocks at) = P → ⊥
Denies P (ClockUse at) = P → ⊥
Denies P (TwoDrivers bit first second) = P → ⊥
Denies P (WrongAssign at) = P → ⊥
Denies P (Race at) = P → ⊥
Denies P (Latch bit block) = P → ⊥
Denies P (Loop cycle token) = P → ⊥
Denies P Memory = Unit {0}

-- what is told of a fault: the number of the law and the token at which it is broken; of want of memory nothing
abbrev pub told : LawFault → Option (ℕ × ℕ)
told (UnknownName at) = Some (11, at)
told (BadTarget at) = Some (24, at)
told (WildLabel at) = Some (25, at)
told (TwoClocks at) = Some (23, at)
told (ClockUse at) = Some (22, at)
told (TwoDrivers bit first second) = Some (17, second)
told (WrongAssign at) = Some (18, at)
told (Race at) = Some (19, at)
told (Latch bit block) = Some (20, block)
told (Loop cycle token) = Some (21, token)
told Memory = None

-- but for want of memory, the same law at the same token
abbrev pub IsSameFault : LawFault → LawFault → Type 0
IsSameFault f g = (told f ≡ None) ⊎ ((told g ≡ None) ⊎ (told f ≡ told g))
