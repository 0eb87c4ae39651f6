-- What a lawful design keeps of its clock.
use Rattle.std.proofs.Common.{subst, ℕ, List, [], ◌∷◌, Bool, Option, Some, None, Result, Ok, Err}
use Rattle.std.specs.Prelude.{IfErr}
use Rattle.rr_flat.specs.Signals.{Text}
use Rattle.rr_flat.specs.Clocks.{IsChosen, IsDecided, IsScalarInput, OneClock}
use Rattle.rr_flat.specs.Lawful.{Lawful, NoClockRead}
use Rattle.rr_flat.specs.Plain.{Block, Flat}
use Rattle.rr_clock.proofs.Clocking.{chosen_same}
use Rattle.rr_clock.specs.Clock.{IsClockInput}
use Rattle.rr_lawful.specs.Checked.{Denies, HasClock}
use Rattle.rr_lawful.specs.declared.laws.LawFault.{LawFault}
use Rattle.rr_lawful.specs.declared.laws.LawFault.TheVariants.{TwoDrivers, WrongAssign, Race, Latch, Loop, ClockUse, TwoClocks, BadTarget, WildLabel, UnknownName, Memory}

pub no_other : (flat : Flat) (word : Option Text) (c : ℕ) → IsChosen flat word (Some c) → IsChosen flat word None → ⊥
no_other flat None c h k = go flat.clocked h k
  where
    go : (bs : List Block) → IsDecided flat bs (Some c) → IsDecided flat bs None → ⊥
    go [] p q = cc
    go (b ∷ bs) p q = q
no_other flat (Some name) c h k = k

read_by : (flat : Flat) (word : Option Text) (c : ℕ) (clock : Option ℕ) → IsChosen flat word (Some c) → IsChosen flat word clock → NoClockRead flat clock → NoClockRead flat (Some c)
read_by flat word c None h k unread = absurd (no_other flat word c h k)
read_by flat word c (Some d) h k unread = subst (λ z. NoClockRead flat (Some z)) (chosen_same flat word d c k h) unread

unread_by : (flat : Flat) (word : Option Text) (clock : Option ℕ) → IsChosen flat word clock → Lawful flat word → NoClockRead flat clock
unread_by flat word None h l = tt
unread_by flat word (Some c) h l = read_by flat word c l.clock h l.one_clock.chosen l.unread

has_clock : (flat : Flat) (word : Option Text) (clock : Option ℕ) (rising : Bool) → OneClock flat word clock rising → Lawful flat word → HasClock flat word clock rising
has_clock flat word clock rising one l =
    record { texts = record { named = l.named; targets = l.targets; labels = l.labels }; one_clock = one; unread = unread_by flat word clock one.chosen l }

denies : (P Q : Type 0) → (Q → P) → (f : LawFault) → Denies P f → Denies Q f
denies P Q to (TwoDrivers bit first second) nay = λ q. nay (to q)
denies P Q to (WrongAssign at) nay = λ q. nay (to q)
denies P Q to (Race at) nay = λ q. nay (to q)
denies P Q to (Latch bit block) nay = λ q. nay (to q)
denies P Q to (Loop cycle token) nay = λ q. nay (to q)
denies P Q to (ClockUse at) nay = λ q. nay (to q)
denies P Q to (TwoClocks at) nay = λ q. nay (to q)
denies P Q to (BadTarget at) nay = λ q. nay (to q)
denies P Q to (WildLabel at) nay = λ q. nay (to q)
denies P Q to (UnknownName at) nay = λ q. nay (to q)
denies P Q to Memory nay = tt

-- a fault that the law of uses denies, a lawful design denies
pub clock_denies : {A : Type 0} (flat : Flat) (word : Option Text) (clock : Option ℕ) (rising : Bool) (r : Result A LawFault) → OneClock flat word clock rising
    → IfErr r (Denies (HasClock flat word clock rising)) → IfErr r (Denies (Lawful flat word))
clock_denies flat word clock rising (Ok a) one h = tt
clock_denies flat word clock rising (Err f) one h = denies (HasClock flat word clock rising) (Lawful flat word) (has_clock flat word clock rising one) f h

-- the one clock is a scalar input of the top
pub input_of : (flat : Flat) (word : Option Text) (clock : Option ℕ) (rising : Bool) → OneClock flat word clock rising → IsClockInput flat clock
input_of flat word None rising o = tt
input_of flat None (Some c) rising o = go flat.clocked o.chosen
  where
    go : (bs : List Block) → IsDecided flat bs (Some c) → IsScalarInput flat c
    go [] p = cc
    go (b ∷ bs) p = p.0
input_of flat (Some name) (Some c) rising o = o.chosen.0
