-- an instance of a design keeps its signals, clock, registers and order
use Rattle.std.proofs.Common.{◌≡◌, refl, sym, ap, ℕ, suc, ◌<◌, inl, inr, Bool, true, false, List, [], ◌∷◌, length, Option, arith}
use Rattle.std.specs.Prelude.{flat_map}
use Rattle.std.specs.List.{filter, range_with_len}
use Rattle.std.proofs.lemmas.Bool.{both_ways, or_cases}
use mathlib.Core.Path.{fun_ext}
use Rattle.rr_expr.specs.declared.types.Bit.{Bit}
use Rattle.rr_flat.specs.declared.design.Step.{Step}
use Rattle.rr_flat.specs.Plain.{Block, Flat}
use Rattle.rr_flat.specs.Writers.{Clocked, Writes, block_at, writes_at_all}
use Rattle.rr_flat_instance.specs.Flats.{instance_flat}
use Rattle.rr_cycle.specs.Performing.{any_writes}
use Rattle.rr_choice.specs.declared.pick.Pick.{Pick}
use Rattle.rr_choice.specs.Sites.{Site}
use Rattle.rr_lawful_instance.proofs.Cycles.{stays_lawful}
use Rattle.rr_lawful_instance.proofs.Listing.{listed}
use Rattle.rr_lawful_instance.proofs.Whole.{writers}
use Rattle.rr_transition.specs.Cycles.{Design}
use Rattle.rr_registers.specs.Registers.{bits_of_signal, registers_of}
use Rattle.rr_blast.specs.Circuits.{FitsArguments, StaysLawful}
use Rattle.rr_blast.proofs.FitLaws.{any_from}

-- which of some blocks writes a bit
some_writes : (F : Flat) (blocks : List Block) (b : Bit) → any_writes F blocks b ≡ true → (k : ℕ) × ((k < length blocks) × (writes_at_all F (block_at blocks k) b ≡ true))
unfolding any_writes
some_writes F [] b h = absurd (both_ways false refl h)
some_writes F (x ∷ xs) b h = elim (or_cases (writes_at_all F x b) (any_writes F xs b) h) [
  | inl a ↦ (0, (omega arith, a))
  | inr a ↦ let r = some_writes F xs b a in (suc r.0, (let l = r.1.0 in omega (arith, l), r.1.1))
]

-- by either the other is true
same_truth : (x y : Bool) → (x ≡ true → y ≡ true) → (y ≡ true → x ≡ true) → x ≡ y
same_truth true y f g = sym (f refl)
same_truth false true f g = g refl
same_truth false false f g = refl

module _ (j : Design) (flat : Flat) (clock : Option ℕ) (rising : Bool) (steps : List Step) (ss : List Site) (ps : List Pick) (fits : FitsArguments j flat clock rising steps ss) where
  new : Flat
  new = instance_flat ss ps flat

  same_writers : (k : ℕ) (b : Bit) → (Writes flat (Clocked k) b → Writes new (Clocked k) b) × (Writes new (Clocked k) b → Writes flat (Clocked k) b)
  unfolding new
  same_writers k b = writers flat j.word ss ps (listed j.source j.top flat j.word ss fits.design fits.right) (Clocked k) b

  same_registers : (b : Bit) → any_writes new new.clocked b ≡ any_writes flat flat.clocked b
  unfolding Writes
  same_registers b = same_truth (any_writes new new.clocked b) (any_writes flat flat.clocked b)
      (λ h. let r = some_writes new new.clocked b h in let w = (same_writers r.0 b).1 r.1 in any_from flat flat.clocked r.0 b w.0 w.1)
      (λ h. let r = some_writes flat flat.clocked b h in let w = (same_writers r.0 b).0 r.1 in any_from new new.clocked r.0 b w.0 w.1)

  registers_stay : registers_of new ≡ registers_of flat
  unfolding registers_of new instance_flat
  registers_stay = ap (λ (f : Bit → Bool). flat_map (λ (id : ℕ). filter f (bits_of_signal flat.signals id)) (range_with_len 0 (length flat.signals))) (fun_ext same_registers)

  pub stays : StaysLawful j flat clock rising steps ss ps
  unfolding new instance_flat
  stays =
      let law = stays_lawful j.source j.top flat j.word clock rising steps ss ps fits.design fits.lawful fits.ordered fits.right in
      record {
        instance = instance_flat ss ps flat;
        elaborated = law.0;
        lawful = law.1;
        signals = refl;
        one_clock = law.2.one_clock;
        registers = registers_stay;
        ordered = law.2;
      }
