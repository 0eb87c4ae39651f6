-- what an order of steps means
use Rattle.std.proofs.Common.{ℕ, ◌<◌, inl, inr, List, [], length, Bool, true, Option, None, refl, arith}
use Rattle.rr_expr.specs.declared.types.Bit.{Bit}
use Rattle.rr_flat.specs.Signals.{Text}
use Rattle.rr_flat.specs.declared.design.Step.{Step}
use Rattle.rr_flat.specs.declared.design.Step.TheVariants as step
use Rattle.rr_flat.specs.Clocks.{OneClock}
use Rattle.rr_flat.specs.Lawful.{Lawful, AssignedSomewhere}
use Rattle.rr_flat.specs.Ordered.{Ordered, IsStep, StepNames, StepWrites, step_at}
use Rattle.rr_flat.specs.Plain.{Flat}
use Rattle.rr_flat.specs.Writers.{Writer, Driven, Clocked, Combinational, Writes, BitNames}

pub forwards : (flat : Flat) (word : Option Text) (clock : Option ℕ) (rising : Bool) (steps : List Step) → Ordered flat word clock rising steps
    → (i : ℕ) (b : Bit) → i < length steps → StepWrites flat (step_at steps i) b → StepNames flat (step_at steps i) b → ⊥
forwards flat word clock rising steps o i b l w n = let h = o.after i i l l b w n in absurd (omega (arith, h))

-- a design without a part
abbrev empty : Flat
empty = record { top = 0; signals = []; starts = []; scopes = []; drivers = []; clocked = []; combinational = []; initials = []; walk = []; inputs = []; outputs = []; owners = []; reached = [] }

one_clock : OneClock empty None None true
one_clock = record { chosen = refl; direction = refl; all = tt }

nothing_written : (x : Writer) (b : Bit) → Writes empty x b → ⊥
unfolding Writes
nothing_written (Driven k i) b w = absurd (omega (arith, w.0))
nothing_written (Clocked k) b w = absurd (omega (arith, w.0))
nothing_written (Combinational k) b w = absurd (omega (arith, w.0))

nothing_named : (b c : Bit) → BitNames empty b c → ⊥
nothing_named b c (inl n) = nothing_written (Driven n.0 n.1.0) b n.1.1.0
nothing_named b c (inr n) = nothing_written (Combinational n.0) b n.1.0

nothing_assigned : (id : ℕ) (now : Bool) → AssignedSomewhere empty id now → ⊥
nothing_assigned id now (inl a) = absurd (omega (arith, a.1.0))
nothing_assigned id now (inr a) = absurd (omega (arith, a.1.0))

lawful : Lawful empty None
lawful = record {
  named = tt;
  targets = record { drivers = λ k l. absurd (omega (arith, l)); clocked = λ k l. absurd (omega (arith, l)); combinational = λ k l. absurd (omega (arith, l)); initials = λ k l. absurd (omega (arith, l)) };
  labels = record { clocked = λ k l. absurd (omega (arith, l)); combinational = λ k l. absurd (omega (arith, l)) };
  clock = None;
  rising = true;
  one_clock = one_clock;
  unread = tt;
  one_writer = λ x y b w v. absurd (nothing_written x b w);
  kinds = record { combinational = λ k l. absurd (omega (arith, l)); one = λ id a b. nothing_assigned id true a };
  no_race = λ j k l m id a i n h e f. absurd (omega (arith, l));
  no_latches = λ k l. absurd (omega (arith, l));
  ranks = (λ b. 0, λ b c n. absurd (nothing_named b c n));
}

no_step : (s : Step) → IsStep empty s → ⊥
unfolding IsStep
no_step (step.Driver k) h = absurd (omega (arith, h.0))
no_step (step.Wire k i) h = absurd (omega (arith, h.0))
no_step (step.Block k) h = absurd (omega (arith, h))

ordered : Ordered empty None None true []
ordered = record {
  one_clock = one_clock;
  each = λ i l. absurd (omega (arith, l));
  all = λ s h. absurd (no_step s h);
  once = λ i j l m e. absurd (omega (arith, l));
  after = λ i j l m b w n. absurd (omega (arith, l));
}

pub met : (flat : Flat) × ((word : Option Text) × ((clock : Option ℕ) × ((rising : Bool) × ((steps : List Step) × (Lawful flat word × Ordered flat word clock rising steps)))))
met = (empty, (None, (None, (true, ([], (lawful, ordered))))))

pub ruleset orders = (forwards, met)
