-- In an instance of a lawful flat design the combinational bits have ranks, and the order of the steps stays one: the names
-- that guards bring are those of registers, which no combinational step writes.
use Rattle.std.proofs.Common.{◌≡◌, ◌⊎◌, inl, inr, ℕ, zero, suc, ◌<◌, Bool, true, false, cond, ◌||◌, List, [], ◌∷◌, length, Option, Some, refl, sym, subst, ap, ◌∙◌, arith}
use Rattle.std.proofs.Math.Logic.{⊎_elim}
use Rattle.std.proofs.lemmas.Bool.{cases_Bool, both_ways, or_cases}
use Rattle.rr_expr.specs.declared.types.Bit.{Bit}
use Rattle.rr_expr.specs.Reading.{NamesBit}
use Rattle.rr_expr.specs.declared.types.Shape.{Shape}
use Rattle.rr_flat.specs.Signals.{Text}
use Rattle.rr_flat.specs.declared.design.Step.{Step}
use Rattle.rr_flat.specs.declared.design.Step.TheVariants as step
use Rattle.rr_flat.specs.Lawful.{OneWriter, HasRanks}
use Rattle.rr_flat.specs.Ordered.{IsStep, StepWrites, StepNames, step_at, Ordered}
use Rattle.rr_flat.specs.Plain.{Side, Written, Whole, Driver, Block, Flat}
use Rattle.rr_flat.specs.Reads.{StatementReads}
use Rattle.rr_flat.specs.Writers.{scope_at, driver_at, block_at, writes_at_all, SideReads, Driven, Clocked, Combinational, Writes, side_is_wiring, side_taken, side_signed, taken_at, wires, NamesIf, DriverNames, BlockNames, BitNames}
use Rattle.rr_flat.proofs.Bits.{or_left, or_right}
use Rattle.rr_choice.specs.declared.pick.Pick.{Pick}
use Rattle.rr_choice.specs.Sites.{Site}
use Rattle.rr_instance_laws.proofs.FormLaws.{form_instance}
use Rattle.rr_instance_laws.proofs.NameLaws.{has_bits}
use Rattle.rr_lawful_instance.specs.AreSites.{MayGuardElsewhere, SideFits, AreSitesOf}
use Rattle.rr_flat_instance.specs.Flats.{instance_side}
use Rattle.rr_instance.specs.Firsts.{first_token}
use Rattle.rr_lawful_instance.proofs.Made.{made}
use Rattle.rr_lawful_instance.proofs.Bodies.{body_reads}
use Rattle.rr_lawful_instance.proofs.Clocks.{clock_stays}
use Rattle.rr_lawful_instance.proofs.Designs.{driver_is, drivers_long, drivers_as_long, block_is, blocks_long, blocks_as_long, driven_same, combinational_writes, writer_before}
use Rattle.rr_lawful_instance.proofs.Trees.{wiring_same, taken_same}
use Rattle.rr_lawful_instance.proofs.Writing.{register_bit}
use Rattle.std.proofs.lemmas.List.Elements.{recursion_from_All}

-- a bit that one of these blocks writes
unfoldable written_by : Flat → List Block → Bit → Bool
written_by flat [] b = false
written_by flat (block ∷ blocks) b = writes_at_all flat block b || written_by flat blocks b

written_at : (flat : Flat) (blocks : List Block) (b : Bit) (k : ℕ) → k < length blocks → writes_at_all flat (block_at blocks k) b ≡ true → written_by flat blocks b ≡ true
unfolding written_by
written_at flat [] b k l w = absurd (omega (arith, l))
written_at flat (block ∷ blocks) b zero l w = or_left (writes_at_all flat block b) (written_by flat blocks b) w
written_at flat (block ∷ blocks) b (suc k) l w = or_right (writes_at_all flat block b) (written_by flat blocks b) (written_at flat blocks b k (omega (arith, l)) w)

writer_of : (flat : Flat) (blocks : List Block) (b : Bit) → written_by flat blocks b ≡ true → (k : ℕ) × ((k < length blocks) × (writes_at_all flat (block_at blocks k) b ≡ true))
unfolding written_by
writer_of flat [] b h = absurd (both_ways false refl h)
writer_of flat (block ∷ blocks) b h = elim (or_cases (writes_at_all flat block b) (written_by flat blocks b) h) [
  | inl w ↦ (0, (omega arith, w))
  | inr w ↦ let r = writer_of flat blocks b w in (suc r.0, (omega (arith, r.1.0), r.1.1))
]

-- What an instance keeps of its design whatever its sites are

module _ (ss : List Site) (ps : List Pick) (flat : Flat) where
  abbrev alike : Flat
  alike = made ss ps flat

  wiring_side : (side : Side) → side_is_wiring alike (instance_side ss ps side) ≡ side_is_wiring flat side
  unfolding side_is_wiring
  wiring_side (Written t i) = wiring_same ss ps (scope_at flat i) t
  wiring_side (Whole id) = refl

  pub wires_same : (k : ℕ) → wires alike k ≡ wires flat k
  wires_same k = ap (λ (d : Driver). side_is_wiring alike d.value) (driver_is ss ps flat k) ∙ wiring_side (driver_at flat k).value

  pub step_before : (s : Step) → IsStep alike s → IsStep flat s
  unfolding IsStep
  step_before (step.Driver k) (l, w) = (drivers_long ss ps flat k l, sym (wires_same k) ∙ w)
  step_before (step.Wire k i) (l, w, m) = (drivers_long ss ps flat k l, sym (wires_same k) ∙ w, subst (λ bits. i < length bits) (driven_same ss ps flat k) m)
  step_before (step.Block k) l = blocks_long ss ps flat.combinational k l

  pub step_after : (s : Step) → IsStep flat s → IsStep alike s
  unfolding IsStep
  step_after (step.Driver k) (l, w) = (drivers_as_long ss ps flat k l, wires_same k ∙ w)
  step_after (step.Wire k i) (l, w, m) = (drivers_as_long ss ps flat k l, wires_same k ∙ w, subst (λ bits. i < length bits) (sym (driven_same ss ps flat k)) m)
  step_after (step.Block k) l = blocks_as_long ss ps flat.combinational k l

module _ (ss : List Site) (ps : List Pick) (flat : Flat) (word : Option Text) (sites : AreSitesOf flat word ss) where
  abbrev other : Flat
  other = made ss ps flat

  -- a clocked block writes the bit
  abbrev IsHeld : Bit → Type 0
  IsHeld b = (k : ℕ) × Writes flat (Clocked k) b

  -- Drivers

  taken_side : (side : Side) → side_taken other (instance_side ss ps side) ≡ side_taken flat side
  unfolding side_taken
  taken_side (Written t i) = taken_same ss ps (scope_at flat i) t
  taken_side (Whole id) = refl

  signed_side : (side : Side) → side_signed other (instance_side ss ps side) ≡ side_signed flat side
  unfolding side_signed
  signed_side (Written t i) = ap (λ (a : Shape). a.signed) (form_instance ss ps (scope_at flat i) t)
  signed_side (Whole id) = refl

  side_reads : (side : Side) → SideFits flat word ss side → (c : Bit) → SideReads other (instance_side ss ps side) c → SideReads flat side c ⊎ IsHeld c
  unfolding SideReads
  side_reads (Written t i) f =
      has_bits (scope_at flat i) (λ c. NamesBit (scope_at flat i) t c ⊎ IsHeld c) ss ps t (λ name k c o. inr (register_bit flat word i name (f name k) c o)) (λ c r. inl r)
  side_reads (Whole id) f = λ c r. inl r

  driver_names : (k i : ℕ) (c : Bit) → k < length flat.drivers → DriverNames other k i c → DriverNames flat k i c ⊎ IsHeld c
  driver_names k i c l n = by_wires (wires flat k) (subst (λ w. NamesIf w other k i c) (wires_same ss ps flat k) n)
    where
      side : Side
      side = (driver_at flat k).value

      by_wires : (w : Bool) → NamesIf w other k i c → NamesIf w flat k i c ⊎ IsHeld c
      by_wires true n =
          let m : taken_at (side_signed other (instance_side ss ps side)) (side_taken other (instance_side ss ps side)) i ≡ Some c =
          subst (λ (d : Driver). taken_at (side_signed other d.value) (side_taken other d.value) i ≡ Some c) (driver_is ss ps flat k) n in
          inl ((λ j. taken_at (sym (signed_side side) j) (sym (taken_side side) j) i) ∙ m)
      by_wires false n = side_reads side (sites.drivers k l) c (subst (λ (d : Driver). SideReads other d.value c) (driver_is ss ps flat k) n)

  -- Blocks

  block_names : (k : ℕ) (c : Bit) → k < length flat.combinational → BlockNames other k c → BlockNames flat k c ⊎ IsHeld c
  block_names k c l n =
      let block = block_at flat.combinational k in
      let f = sites.combinational k l in
      let unwritten : writes_at_all flat block c ≡ false = sym (combinational_writes ss ps flat word sites k c l) ∙ n.1 in
      let read = body_reads (MayGuardElsewhere flat word block.scope) ss ps (first_token block.body) block.body f.names (recursion_from_All _ ss f.targets) (scope_at flat block.scope)
      (λ d. StatementReads (scope_at flat block.scope) block.body d ⊎ IsHeld d) (λ name m d o. inr (register_bit flat word block.scope name m d o)) (λ d r. inl r) c
      (subst (λ (b : Block). StatementReads (scope_at flat b.scope) b.body c) (block_is ss ps flat.combinational k l) n.0) in
      ⊎_elim (λ r. inl (r, unwritten)) (λ h. inr h) read

  -- Ranks

  held : (b : Bit) → written_by flat flat.clocked b ≡ true → IsHeld b
  unfolding Writes
  held b h = writer_of flat flat.clocked b h

  not_held : (b : Bit) → (IsHeld b → ⊥) → written_by flat flat.clocked b ≡ false
  not_held b h = elim (cases_Bool (written_by flat flat.clocked b)) [ inl t ↦ absurd (h (held b t)) | inr t ↦ t ]

  is_held : (b : Bit) → IsHeld b → written_by flat flat.clocked b ≡ true
  unfolding Writes
  is_held b (k, (l, w)) = written_at flat flat.clocked b k l w

  module _ (one : OneWriter flat) where
    driven_not_held : (k i : ℕ) (b : Bit) → Writes flat (Driven k i) b → IsHeld b → ⊥
    driven_not_held k i b w h = let e : Driven k i ≡ Clocked h.0 = one (Driven k i) (Clocked h.0) b w h.1 in cc

    block_not_held : (k : ℕ) (b : Bit) → Writes flat (Combinational k) b → IsHeld b → ⊥
    block_not_held k b w h = let e : Combinational k ≡ Clocked h.0 = one (Combinational k) (Clocked h.0) b w h.1 in cc

    -- what a combinational bit of the instance names it named before, or is held by a register
    bit_names : (b c : Bit) → BitNames other b c → (IsHeld b → ⊥) × (BitNames flat b c ⊎ IsHeld c)
    unfolding Writes
    bit_names b c (inl (k, (i, (w, n)))) =
        let v = writer_before ss ps flat word sites (Driven k i) b w in
        (driven_not_held k i b v, ⊎_elim (λ m. inl (inl (k, (i, (v, m))))) (λ h. inr h) (driver_names k i c v.0 n))
    bit_names b c (inr (k, (w, n))) =
        let v = writer_before ss ps flat word sites (Combinational k) b w in
        (block_not_held k b v, ⊎_elim (λ m. inl (inr (k, (v, m)))) (λ h. inr h) (block_names k c v.0 n))

    -- registers below all others
    pub ranks_stay : HasRanks flat → HasRanks other
    ranks_stay (rank, h) = (new, λ b c n. below b c (bit_names b c n))
      where
        new : Bit → ℕ
        new b = cond (written_by flat flat.clocked b) 0 (suc (rank b))

        new_low : (b : Bit) → written_by flat flat.clocked b ≡ true → new b ≡ 0
        new_low b e = rw e refl

        new_high : (b : Bit) → written_by flat flat.clocked b ≡ false → new b ≡ suc (rank b)
        new_high b e = rw e refl

        below : (b c : Bit) → (IsHeld b → ⊥) × (BitNames flat b c ⊎ IsHeld c) → new c < new b
        below b c (f, m) =
            let high : new b ≡ suc (rank b) = new_high b (not_held b f) in
            elim (cases_Bool (written_by flat flat.clocked c)) [
              | inl t ↦ let low : new c ≡ 0 = new_low c t in omega (arith, high, low)
              | inr t ↦
                  let lower : rank c < rank b = ⊎_elim (λ n. h b c n) (λ k. absurd (both_ways (written_by flat flat.clocked c) t (is_held c k))) m in
                  let next : new c ≡ suc (rank c) = new_high c t in
                  omega (arith, high, next, lower)
            ]

    -- Steps

    step_names : (s : Step) (b : Bit) → IsStep flat s → StepNames other s b → StepNames flat s b ⊎ IsHeld b
    unfolding IsStep StepNames
    step_names (step.Driver k) b s n = driver_names k 0 b s.0 n
    step_names (step.Wire k i) b s n = driver_names k i b s.0 n
    step_names (step.Block k) b s n = block_names k b s n

    step_writes : (s : Step) (b : Bit) → StepWrites other s b → StepWrites flat s b
    unfolding StepWrites
    step_writes (step.Driver k) b (i, w) = (i, writer_before ss ps flat word sites (Driven k i) b w)
    step_writes (step.Wire k i) b w = writer_before ss ps flat word sites (Driven k i) b w
    step_writes (step.Block k) b w = writer_before ss ps flat word sites (Combinational k) b w

    step_not_held : (s : Step) (b : Bit) → StepWrites flat s b → IsHeld b → ⊥
    unfolding StepWrites
    step_not_held (step.Driver k) b (i, w) h = driven_not_held k i b w h
    step_not_held (step.Wire k i) b w h = driven_not_held k i b w h
    step_not_held (step.Block k) b w h = block_not_held k b w h

    pub order_stays : (clock : Option ℕ) (rising : Bool) (steps : List Step) → Ordered flat word clock rising steps → Ordered other word clock rising steps
    order_stays clock rising steps o = record {
      one_clock = clock_stays ss ps flat word sites clock rising o.one_clock;
      each = λ i l. step_after ss ps flat (step_at steps i) (o.each i l);
      all = λ s k. o.all s (step_before ss ps flat s k);
      once = o.once;
      after = λ i j l m b w n.
          let v = step_writes (step_at steps i) b w in
          ⊎_elim (λ k. o.after i j l m b v k) (λ h. absurd (step_not_held (step_at steps i) b v h)) (step_names (step_at steps j) b (o.each j m) n);
    }
