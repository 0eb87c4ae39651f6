-- What bits name, by the steps of a design.
use Rattle.std.proofs.Common.{◌≡◌, ℕ, zero, suc, ◌+◌, ◌-◌, ◌<◌, ◌≤◌, List, [], ◌∷◌, length, get_or, max, Bool, true, false, cond, nat_lt, Option, Some, None, sym, arith, inl, inr}
use Rattle.std.proofs.lemmas.Bool.{cases_Bool, or_cases}
use Rattle.rr_expr.specs.declared.types.Bit.{Bit}
use Rattle.rr_flat.specs.declared.design.Step.{Step}
use Rattle.rr_flat.specs.declared.design.Step.TheVariants as step
use Rattle.rr_flat.specs.Lawful.{HasRanks}
use Rattle.rr_flat.specs.Ordered.{IsStep, StepWrites, StepNames, step_at}
use Rattle.rr_flat.specs.Plain.{Flat, Side, Written, Whole}
use Rattle.rr_flat.specs.Targets.{has_bit}
use Rattle.rr_flat.specs.Writers.{scope_at, driver_at, block_at, driven, driven_by, SideReads, side_taken, side_signed, taken_at, NamesIf, BitNames, wires, Writes, writes_at_all, writes_now, writes_later}
use Rattle.rr_order.specs.Loops.{AreOrdered, BitChain}
use Rattle.rr_order.specs.Nodes.{IsBit, IsClosed, IsThere, widths, IsWrittenBy, IsNamedBy}
use Rattle.rr_expr.specs.Values.{nowhere}
use Rattle.rr_flat.proofs.Bits.{has_place, place_has, place_inside, one_bit}
use Rattle.rr_order.proofs.Inside.{of_there, target_of, taken_of, named_of, read_of, write_of, signal_there, signal_bit}

names_any : (v : Bool) (flat : Flat) (k i j : ℕ) (c : Bit) → v ≡ false → NamesIf v flat k i c → NamesIf v flat k j c
names_any true flat k i j c e n = cc
names_any false flat k i j c e n = n

pub step_between : (flat : Flat) (b c : Bit) → BitNames flat b c → (s : Step) × (IsStep flat s × (StepWrites flat s b × StepNames flat s c))
unfolding IsStep StepWrites StepNames Writes
step_between flat b c (inl (k, (i, (w, n)))) = elim (cases_Bool (wires flat k)) [
  | inl t ↦ (step.Wire k i, ((w.0, t, place_inside (driven flat k) b i w.1), (w, n)))
  | inr f ↦ (step.Driver k, ((w.0, f), ((i, w), names_any (wires flat k) flat k i 0 c f n)))
]
step_between flat b c (inr (k, (w, n))) = (step.Block k, (w.0, (w, n)))

pub names_by : (flat : Flat) (s : Step) (b c : Bit) → IsStep flat s → StepWrites flat s b → StepNames flat s c → BitNames flat b c
unfolding IsStep StepWrites StepNames Writes
names_by flat (step.Driver k) b c h (i, w) n = inl (k, (i, (w, names_any (wires flat k) flat k 0 i c h.1 n)))
names_by flat (step.Wire k i) b c h w n = inl (k, (i, (w, n)))
names_by flat (step.Block k) b c h w n = inr (k, (w, n))

-- ranks

writes_step : Flat → Step → Bit → Bool
writes_step flat (step.Driver k) b = has_bit (driven flat k) b
writes_step flat (step.Wire k i) b = has_bit (get_or (driven flat k) i None ∷ []) b
writes_step flat (step.Block k) b = writes_at_all flat (block_at flat.combinational k) b

has_this : (o : Option Bit) (b : Bit) → o ≡ Some b → has_bit (o ∷ []) b ≡ true
has_this o b e = place_has (o ∷ []) b 0 e

writes_yes : (flat : Flat) (s : Step) (b : Bit) → StepWrites flat s b → writes_step flat s b ≡ true
unfolding StepWrites Writes writes_step
writes_yes flat (step.Driver k) b (i, w) = place_has (driven flat k) b i w.1
writes_yes flat (step.Wire k i) b w = has_this (get_or (driven flat k) i None) b w.1
writes_yes flat (step.Block k) b w = w.1

yes_writes : (flat : Flat) (s : Step) (b : Bit) → IsStep flat s → writes_step flat s b ≡ true → StepWrites flat s b
unfolding IsStep StepWrites Writes writes_step
yes_writes flat (step.Driver k) b h e = let r = has_place (driven flat k) b e in (r.0, (h.0, r.1))
yes_writes flat (step.Wire k i) b h e = (h.0, one_bit (get_or (driven flat k) i None) b e)
yes_writes flat (step.Block k) b h e = (h, e)

rank_from : Flat → ℕ → List Step → Bit → ℕ
rank_from flat n [] b = 0
rank_from flat n (s ∷ ss) b = max (cond (writes_step flat s b) (suc n) 0) (rank_from flat (suc n) ss b)

rank_above : (flat : Flat) (n : ℕ) (ss : List Step) (b : Bit) (i : ℕ) → i < length ss → writes_step flat (step_at ss i) b ≡ true → suc (n + i) ≤ rank_from flat n ss b
unfolding rank_from
rank_above flat n [] b i l w = absurd (omega arith)
rank_above flat n (s ∷ ss) b zero l w = rw w (omega arith)
rank_above flat n (s ∷ ss) b (suc i) l w = let r = rank_above flat (suc n) ss b i (omega arith) w in omega (arith, r)

rank_below : (flat : Flat) (n : ℕ) (ss : List Step) (c : Bit) (m : ℕ) → ((i : ℕ) → i < length ss → writes_step flat (step_at ss i) c ≡ true → n + i < m) → rank_from flat n ss c ≤ m
unfolding rank_from
rank_below flat n [] c m h = omega arith
rank_below flat n (s ∷ ss) c m h =
    let r = rank_below flat (suc n) ss c m (λ i l w. let z = h (suc i) (omega arith) w in omega (arith, z)) in
    elim (cases_Bool (writes_step flat s c)) [
      | inl t ↦ let z = h 0 (omega arith) t in rw t (omega (arith, r, z))
      | inr f ↦ rw f (omega (arith, r))
    ]

pub ordered_ranks : (flat : Flat) (steps : List Step) → AreOrdered flat steps → HasRanks flat
ordered_ranks flat steps a = (
  rank_from flat 0 steps,
  λ b c n.
      let t = step_between flat b c n in
      let j = a.all t.0 t.1.0 in
      let w : StepWrites flat (step_at steps j.0) b = rw j.1.1 t.1.1.0 in
      let r : StepNames flat (step_at steps j.0) c = rw j.1.1 t.1.1.1 in
      let x = rank_above flat 0 steps b j.0 j.1.0 (writes_yes flat (step_at steps j.0) b w) in
      let y = rank_below flat 0 steps c j.0 (λ i l e. let z = a.after i j.0 l j.1.0 c (yes_writes flat (step_at steps i) c (a.each i l) e) r in omega (arith, z)) in
      omega (arith, x, y),
)

falls : (flat : Flat) (rank : Bit → ℕ) → ((b c : Bit) → BitNames flat b c → rank c < rank b) → (b : Bit) (cs : List Bit) (t : Bit) → BitChain flat b cs t → rank t < rank b
falls flat rank f b [] t h = f b t h
falls flat rank f b (c ∷ cs) t h = omega (arith, f b c h.0, falls flat rank f c cs t h.1)

pub unranked : (flat : Flat) (b : Bit) (cs : List Bit) → BitChain flat b cs b → HasRanks flat → ⊥
unranked flat b cs h (rank, f) = omega (arith, falls flat rank f b cs b h)

-- the bits that steps write and name are there

side_there : (flat : Flat) (x : Side) (b : Bit) → IsClosed flat → IsThere flat x → has_bit (driven_by flat x) b ≡ true → IsBit (widths flat) b
unfolding driven_by
side_there flat (Written t i) b s l h = of_there flat i b s (target_of (scope_at flat i) nowhere t b h)
side_there flat (Whole id) b s l h = signal_bit flat id b s l h

taken_there : (flat : Flat) (x : Side) (b : Bit) → IsClosed flat → IsThere flat x → has_bit (side_taken flat x) b ≡ true → IsBit (widths flat) b
unfolding side_taken
taken_there flat (Written t i) b s l h = of_there flat i b s (taken_of (scope_at flat i) t b h)
taken_there flat (Whole id) b s l h = signal_bit flat id b s l h

read_there : (flat : Flat) (x : Side) (b : Bit) → IsClosed flat → IsThere flat x → SideReads flat x b → IsBit (widths flat) b
unfolding SideReads
read_there flat (Written t i) b s l h = of_there flat i b s (named_of (scope_at flat i) t b h)
read_there flat (Whole id) b s l h = signal_there flat id b s l (sym h.0) h.1

at_there : (signed : Bool) (bits : List (Option Bit)) (i : ℕ) (b : Bit) → taken_at signed bits i ≡ Some b → has_bit bits b ≡ true
at_there signed bits i b h = elim (cases_Bool (nat_lt i (length bits))) [
  | inl t ↦ place_has bits b i (rw t at h)
  | inr t ↦ top signed (rw t at h)
]
  where
    top : (v : Bool) → cond v (get_or bits (length bits - 1) None) None ≡ Some b → has_bit bits b ≡ true
    top true e = place_has bits b (length bits - 1) e
    top false e = cc

if_there : (v : Bool) (flat : Flat) (k i : ℕ) (b : Bit) → IsClosed flat → k < length flat.drivers → NamesIf v flat k i b → IsBit (widths flat) b
if_there true flat k i b s l n = taken_there flat (driver_at flat k).value b s (s.values k l) (at_there (side_signed flat (driver_at flat k).value) (side_taken flat (driver_at flat k).value) i b n)
if_there false flat k i b s l n = read_there flat (driver_at flat k).value b s (s.values k l) n

pub written_there : (flat : Flat) → IsClosed flat → (s : Step) (b : Bit) → IsWrittenBy flat s b → IsBit (widths flat) b
unfolding IsStep StepWrites Writes
written_there flat s (step.Driver k) b (h, (i, w)) = side_there flat (driver_at flat k).target b s (s.targets k h.0) (place_has (driven flat k) b i w.1)
written_there flat s (step.Wire k i) b (h, w) = side_there flat (driver_at flat k).target b s (s.targets k h.0) (place_has (driven flat k) b i w.1)
written_there flat s (step.Block k) b (h, w) = elim (or_cases (writes_now flat (block_at flat.combinational k) b) (writes_later flat (block_at flat.combinational k) b) w.1) [
  | inl x ↦ of_there flat (block_at flat.combinational k).scope b s (write_of true (scope_at flat (block_at flat.combinational k).scope) (block_at flat.combinational k).body b x)
  | inr x ↦ of_there flat (block_at flat.combinational k).scope b s (write_of false (scope_at flat (block_at flat.combinational k).scope) (block_at flat.combinational k).body b x)
]

pub named_there : (flat : Flat) → IsClosed flat → (s : Step) (b : Bit) → IsNamedBy flat s b → IsBit (widths flat) b
unfolding IsStep StepNames
named_there flat s (step.Driver k) b (h, n) = if_there (wires flat k) flat k 0 b s h.0 n
named_there flat s (step.Wire k i) b (h, n) = if_there (wires flat k) flat k i b s h.0 n
named_there flat s (step.Block k) b (h, n) = of_there flat (block_at flat.combinational k).scope b s (read_of (scope_at flat (block_at flat.combinational k).scope) (block_at flat.combinational k).body b n.0)
