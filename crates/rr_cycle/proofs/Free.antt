-- nothing writes an input of the top
use Rattle.std.proofs.Common.{◌≡◌, ◌∙◌, ap, ℕ, ◌+◌, ◌-◌, get_or, Bool, true, false, Some, None, sym, arith, inl, inr, pos, subst}
use Rattle.std.proofs.lemmas.Bool.{or_cases, and_parts, eqb-true}
use Rattle.std.proofs.lemmas.List.Elements.{All-get_or}
use Rattle.rr_syntax.specs.Tree.{Tree}
use Rattle.rr_expr.specs.declared.types.Bit.{Bit}
use Rattle.rr_expr.specs.declared.types.Entity.{Entity}
use Rattle.rr_expr.specs.declared.types.Entity.TheVariants.{Constant, Signal, Memory, Instance}
use Rattle.rr_expr.specs.Reading.{IsBitOf}
use Rattle.rr_expr.specs.Scopes.{meant}
use Rattle.rr_expr.specs.Values.{nowhere}
use Rattle.rr_flat.specs.declared.signal.Port.TheVariants.{Input}
use Rattle.rr_flat.specs.Signals.{signal_at}
use Rattle.rr_flat.specs.Lawful.{RightTargets, MayDrive, MayAssign, DeclaredTarget, DriverTarget, BlockTargets}
use Rattle.rr_flat.specs.Plain.{Side, Written, Whole, Block, Flat}
use Rattle.rr_flat.specs.Reads.{assigned_by}
use Rattle.rr_flat.specs.Targets.{is_fixed, part_name, target_parts}
use Rattle.rr_flat.specs.Elaborated.{DrivesOwn, IsTopInput, IsSound}
use Rattle.rr_flat.specs.Writers.{scope_at, driver_at, no_driver, block_at, driven_by, signal_bits, entity_of_signal, Writer, Driven, Clocked, Combinational, Writes, writes_now, writes_later, writes_at_all}
use Rattle.rr_cycle.specs.Cycles.{IsInputBit}
use Rattle.rr_cycle.specs.Designs.{IsLawful}
use Rattle.rr_cycle.proofs.Sequence.{Among, OfKind, target_named, write_named}
use Rattle.rr_cycle.proofs.TargetBits.{target_written}
use Rattle.rr_flat.proofs.Lists.{all_index}
use Rattle.rr_flat.proofs.Bits.{place_has, bits_of_name}

-- a name that may be driven or assigned is no input
same_port : (flat : Flat) (m n : ℕ) → m ≡ n → (signal_at flat.signals n).port ≡ Input → (signal_at flat.signals m).port ≡ Input
same_port flat m n q p = ap (λ (k : ℕ). (signal_at flat.signals k).port) q ∙ p

no_drive : (flat : Flat) (e : Entity) (fixed : Bool) (b : Bit) → MayDrive flat e fixed → IsBitOf e b → (signal_at flat.signals b.signal).port ≡ Input → ⊥
no_drive flat (Constant bits signed) fixed b h i p = h
no_drive flat (Signal id range signed) fixed b h i p = h.1 (same_port flat id b.signal (sym i.0) p)
no_drive flat (Memory first low words range signed) fixed b h i p = h
no_drive flat Instance fixed b h i p = h

no_assign : (flat : Flat) (e : Entity) (b : Bit) → MayAssign flat e → IsBitOf e b → (signal_at flat.signals b.signal).port ≡ Input → ⊥
no_assign flat (Constant bits signed) b h i p = h
no_assign flat (Signal id range signed) b h i p = h.1 (same_port flat id b.signal (sym i.0) p)
no_assign flat (Memory first low words range signed) b h i p =
    (h (b.signal - first) (omega (arith, i.0, i.1))).1 (same_port flat (first + (b.signal - first)) b.signal (omega (arith, i.0)) p)
no_assign flat Instance b h i p = h

whole_signal : (flat : Flat) (id i : ℕ) (b : Bit) → get_or (signal_bits flat id) i None ≡ Some b → b.signal ≡ id
whole_signal flat id i b h =
    sym (eqb-true id b.signal (and_parts _ _ (bits_of_name (entity_of_signal flat id) (pos 0) (signal_at flat.signals id).width b (place_has (signal_bits flat id) b i h))).0)

no_declared : (flat : Flat) (id i : ℕ) (t : Tree) → DeclaredTarget flat id (Written t i) → DrivesOwn flat.signals (Whole id) (Written t i) → IsTopInput (signal_at flat.signals id) → ⊥
no_declared flat id i t r a h = elim a.1 [
  | inl q ↦ (r q).1 h.1
  | inr q ↦ absurd (omega (arith, q, h.0))
]

no_driver_of : (flat : Flat) (target value : Side) (i : ℕ) (b : Bit) → DriverTarget flat target value → DrivesOwn flat.signals target value → get_or (driven_by flat target) i None ≡ Some b → IsTopInput (signal_at flat.signals b.signal) → ⊥
unfolding driven_by
no_driver_of flat (Whole id) (Whole x) i b r a w h = a
no_driver_of flat (Whole id) (Written t j) i b r a w h = no_declared flat id j t r a (subst (λ n. IsTopInput (signal_at flat.signals n)) (whole_signal flat id i b w) h)
no_driver_of flat (Written t j) value i b r a w h =
    let s = scope_at flat j in
    let p = target_named s t b (target_written s nowhere t b (place_has _ b i w)) in
    let may = All-get_or (λ p. MayDrive flat (meant s (part_name p)) (is_fixed s p)) (target_parts t) p.0 p.1.0 p.1.1.0 r.1 in
    no_drive flat (meant s (part_name p.1.0)) (is_fixed s p.1.0) b (subst (λ x. MayDrive flat (meant s (part_name x)) (is_fixed s x)) p.1.1.1 may) p.1.1.2 h.1

no_block_of : (flat : Flat) (block : Block) (b : Bit) → BlockTargets flat block → writes_at_all flat block b ≡ true → IsTopInput (signal_at flat.signals b.signal) → ⊥
no_block_of flat block b r w h = elim (or_cases (writes_now flat block b) (writes_later flat block b) w) [
  | inl v ↦ by true (write_named true (scope_at flat block.scope) block.body b v)
  | inr v ↦ by false (write_named false (scope_at flat block.scope) block.body b v)
]
  where
    by : (now : Bool) → Among (OfKind (scope_at flat block.scope) b now) (assigned_by block.body) → ⊥
    by now a =
        let s = scope_at flat block.scope in
        let may = All-get_or (λ a. MayAssign flat (meant s (part_name a.part))) (assigned_by block.body) a.0 a.1.0 a.1.1.0 r in
        no_assign flat (meant s (part_name a.1.0.part)) b (subst (λ x. MayAssign flat (meant s (part_name x.part))) a.1.1.1 may) a.1.1.2.1 h.1

pub inputs_free : (flat : Flat) → IsSound flat → RightTargets flat → (b : Bit) → IsInputBit flat b → (x : Writer) → Writes flat x b → ⊥
unfolding Writes
inputs_free flat f r b i x w =
    let h : IsTopInput (signal_at flat.signals b.signal) = subst (λ n. IsTopInput (signal_at flat.signals n)) i.0.1.1 (all_index (λ id. IsTopInput (signal_at flat.signals id)) flat.inputs i.0.0 0 f.inputs i.0.1.0) in
    by f h x w
  where
    by : IsSound flat → IsTopInput (signal_at flat.signals b.signal) → (x : Writer) → Writes flat x b → ⊥
    by f h (Driven k j) w = no_driver_of flat (driver_at flat k).target (driver_at flat k).value j b (r.drivers k w.0) (all_index (λ d. DrivesOwn flat.signals d.target d.value) flat.drivers k no_driver f.drivers w.0) w.1 h
    by f h (Clocked k) w = no_block_of flat (block_at flat.clocked k) b (r.clocked k w.0) w.1 h
    by f h (Combinational k) w = no_block_of flat (block_at flat.combinational k) b (r.combinational k w.0) w.1 h

pub free_inputs : (flat : Flat) → IsSound flat → IsLawful flat → (b : Bit) → IsInputBit flat b → (x : Writer) → Writes flat x b → ⊥
free_inputs flat f l b i x w = inputs_free flat f l.1.targets b i x w

pub ruleset inputs_of_the_top = (free_inputs)
