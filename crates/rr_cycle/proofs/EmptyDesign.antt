-- a design without a part: one scope, no signal, nothing that writes a bit
use Rattle.std.proofs.Common.{ℕ, zero, suc, [], ◌∷◌, Bool, true, None, refl, arith, inl, inr}
use Rattle.rr_expr.specs.declared.types.Bit.{Bit}
use Rattle.rr_expr.specs.Reading.{IsBitOf}
use Rattle.rr_expr.specs.Scopes.{lookup, meant}
use Rattle.rr_flat.specs.declared.design.Step.{Step}
use Rattle.rr_flat.specs.declared.design.Step.TheVariants.{Driver, Wire, Block}
use Rattle.rr_flat.specs.Clocks.{OneClock}
use Rattle.rr_flat.specs.Elaborated.{IsSound}
use Rattle.rr_flat.specs.Lawful.{Lawful, AssignedSomewhere}
use Rattle.rr_flat.specs.Ordered.{Ordered, IsStep}
use Rattle.rr_flat.specs.Plain.{Flat}
use Rattle.rr_flat.specs.Signals.{Text}
use Rattle.rr_flat.specs.Writers.{scope_at, Writer, Driven, Clocked, Combinational, Writes, BitNames}

abbrev pub empty : Flat
empty = record { top = 0; signals = []; starts = []; scopes = [] ∷ []; drivers = []; clocked = []; combinational = []; initials = []; walk = []; inputs = []; outputs = []; owners = 0 ∷ []; reached = 0 ∷ [] }

nothing_stands : (i : ℕ) (x : Text) (b : Bit) → IsBitOf (meant (scope_at empty i) x) b → ⊥
unfolding meant lookup
nothing_stands zero x b h = h
nothing_stands (suc i) x b h = h

pub sound : IsSound empty
sound = record { drivers = tt; inputs = tt; variables = λ i j x y b h k. absurd (nothing_stands i x b h) }

pub one_clock : OneClock empty None None true
one_clock = record { chosen = refl; direction = refl; all = tt }

pub nothing_written : (x : Writer) (b : Bit) → Writes empty x b → ⊥
unfolding Writes
nothing_written (Driven k i) b w = absurd (omega (arith, w.0))
nothing_written (Clocked k) b w = absurd (omega (arith, w.0))
nothing_written (Combinational k) b w = absurd (omega (arith, w.0))

pub nothing_named : (b c : Bit) → BitNames empty b c → ⊥
nothing_named b c (inl n) = nothing_written (Driven n.0 n.1.0) b n.1.1.0
nothing_named b c (inr n) = nothing_written (Combinational n.0) b n.1.0

pub nothing_assigned : (id : ℕ) (now : Bool) → AssignedSomewhere empty id now → ⊥
nothing_assigned id now (inl a) = absurd (omega (arith, a.1.0))
nothing_assigned id now (inr a) = absurd (omega (arith, a.1.0))

pub lawful : Lawful empty None
lawful = record {
  named = tt;
  targets = record { drivers = λ k l. absurd (omega (arith, l)); clocked = λ k l. absurd (omega (arith, l)); combinational = λ k l. absurd (omega (arith, l)); initials = λ k l. absurd (omega (arith, l)) };
  labels = record { clocked = λ k l. absurd (omega (arith, l)); combinational = λ k l. absurd (omega (arith, l)) };
  clock = None;
  rising = true;
  one_clock = one_clock;
  unread = tt;
  one_writer = λ x y b w v. absurd (nothing_written x b w);
  kinds = record { combinational = λ k l. absurd (omega (arith, l)); one = λ id a b. nothing_assigned id true a };
  no_race = λ j k l m id a i n h e f. absurd (omega (arith, l));
  no_latches = λ k l. absurd (omega (arith, l));
  ranks = (λ b. 0, λ b c n. absurd (nothing_named b c n));
}

pub no_step : (s : Step) → IsStep empty s → ⊥
unfolding IsStep
no_step (Driver k) h = absurd (omega (arith, h.0))
no_step (Wire k i) h = absurd (omega (arith, h.0))
no_step (Block k) h = absurd (omega (arith, h))

pub ordered : Ordered empty None None true []
ordered = record {
  one_clock = one_clock;
  each = λ i l. absurd (omega (arith, l));
  all = λ s h. absurd (no_step s h);
  once = λ i j l m e. absurd (omega (arith, l));
  after = λ i j l m b w n. absurd (omega (arith, l));
}
