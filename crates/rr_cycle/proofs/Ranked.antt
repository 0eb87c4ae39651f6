-- A lawful design has at most one run on the rows of a table: its combinational bits have ranks, and by induction on
-- them two settled environments of one state and one row are the same. No order of the steps is needed.
use Rattle.std.proofs.Common.{◌≡◌, ℕ, zero, suc, ◌<◌, max, List, [], ◌∷◌, length, get_or, refl, ap, ◌∙◌, sym, subst, arith, Bool, true, false, ◌||◌, Option, Some, None, inl, inr}
use mathlib.Core.Path.{fun_ext}
use Rattle.std.proofs.lemmas.Bool.{both_ways, cases_Bool}
use Rattle.std.proofs.lemmas.List.Elements.{recursion_from_All}
use Rattle.rr_expr.specs.declared.types.Bit.{Bit}
use Rattle.rr_flat.specs.Lawful.{Lawful}
use Rattle.rr_flat.specs.Plain.{Flat}
use Rattle.rr_flat.specs.Reads.{assigned_by}
use Rattle.rr_flat.specs.Writers.{scope_at, driver_at, block_at, driven, Writer, Driven, Clocked, Combinational, Writes, writes_now, writes_later, writes_at_all, wires, DriverNames, BitNames}
use Rattle.rr_cycle.specs.Cycles.{driver_value, side_shape, IsInputBit, Settled, IsNext, Runs, ended, cycle, Run, beginning, outputs_of}
use Rattle.rr_cycle.specs.Exec.{Environment}
use Rattle.rr_cycle.proofs.Local.{statement_local}
use Rattle.rr_cycle.proofs.Sequence.{only_next}
use Rattle.rr_cycle.proofs.TargetBits.{Agree}
use Rattle.rr_cycle.proofs.Wiring.{side_bit}
use Rattle.rr_flat.proofs.Bits.{place_inside}
use Rattle.rr_cycle.proofs.Settling.{driven_size, none_later, names_false, names_true, sign_same, side_local}

in_width : (flat : Flat) (k i : ℕ) (b : Bit) → get_or (driven flat k) i None ≡ Some b → i < max (side_shape flat (driver_at flat k).target).width (side_shape flat (driver_at flat k).value).width
in_width flat k i b h = omega (arith, place_inside (driven flat k) b i h, driven_size flat (driver_at flat k).target)

-- a bit of a driver stands on the bits that it names
driver_local : (flat : Flat) (k i : ℕ) (b : Bit) (e f : Environment) → get_or (driven flat k) i None ≡ Some b → Agree e f (DriverNames flat k i) → get_or (driver_value flat k e) i false ≡ get_or (driver_value flat k f) i false
driver_local flat k i b e f w h = elim (cases_Bool (wires flat k)) [
  | inl t ↦
      side_bit flat (driver_at flat k).value e f (max (side_shape flat (driver_at flat k).target).width (side_shape flat (driver_at flat k).value).width) i (side_shape flat (driver_at flat k).value).signed t
      (in_width flat k i b w)
      (λ c r. h c (names_true (wires flat k) flat k i c t (rw (sign_same flat (driver_at flat k).value) r)))
  | inr t ↦
      ap (λ (vs : List Bool). get_or vs i false)
      (side_local flat (driver_at flat k).value e f (max (side_shape flat (driver_at flat k).target).width (side_shape flat (driver_at flat k).value).width) (side_shape flat (driver_at flat k).value).signed t
      (λ c r. h c (names_false (wires flat k) flat k i c t r)))
]

-- two truth values that cannot differ are the same
settled_either_way : (x y : Bool) → ((x ≡ y → ⊥) → ⊥) → x ≡ y
settled_either_way true true h = refl
settled_either_way true false h = absurd (h (λ e. both_ways true e refl))
settled_either_way false true h = absurd (h (λ e. both_ways false refl e))
settled_either_way false false h = refl

or_false : (x : Bool) → (x || false) ≡ x
or_false true = refl
or_false false = refl

module _ (flat : Flat) (word : Option (List ℕ)) (lawful : Lawful flat word) where
  now_or_not : (k : ℕ) (b : Bit) → k < length flat.combinational → writes_at_all flat (block_at flat.combinational k) b ≡ writes_now flat (block_at flat.combinational k) b
  now_or_not k b l =
      let later : writes_later flat (block_at flat.combinational k) b ≡ false =
      none_later (scope_at flat (block_at flat.combinational k).scope) (block_at flat.combinational k).body b
      (recursion_from_All (λ a. a.now ≡ true) (assigned_by (block_at flat.combinational k).body) (lawful.kinds.combinational k l)) in
      rw later (or_false (writes_now flat (block_at flat.combinational k) b))

  module _ (clock : Option ℕ) (state : Environment) (row : List ℕ) (e f : Environment) (settled : Settled flat clock state row e) (other : Settled flat clock state row f) where
    -- they are the same at a bit that something writes, where they are on the bits that it names
    at_writer : (x : Writer) (b : Bit) → Writes flat x b → Agree e f (BitNames flat b) → e b ≡ f b
    unfolding Writes
    at_writer (Driven k i) b w h =
        settled.drivers k i b w ∙ (driver_local flat k i b e f w.1 (λ c n. h c (inl (k, (i, (w, n))))) ∙ sym (other.drivers k i b w))
    at_writer (Clocked k) b w h = settled.registers k b w ∙ sym (other.registers k b w)
    at_writer (Combinational k) b w h =
        ap (λ (g : Environment). g b) (sym (settled.blocks k w.0))
        ∙ (statement_local (scope_at flat (block_at flat.combinational k).scope) (block_at flat.combinational k).body (lawful.no_latches k w.0) e f b (sym (now_or_not k b w.0) ∙ w.1)
        (λ c r. h c (inr (k, (w, (r.0, now_or_not k c w.0 ∙ r.1)))))
        ∙ ap (λ (g : Environment). g b) (other.blocks k w.0))

    at_rank : (n : ℕ) (b : Bit) → lawful.ranks.0 b < n → e b ≡ f b
    at_rank zero b l = absurd (omega (arith, l))
    at_rank (suc n) b l =
        settled_either_way (e b) (f b) (λ no.
        let named : Agree e f (BitNames flat b) = λ c m. let lower : lawful.ranks.0 c < lawful.ranks.0 b = lawful.ranks.1 b c m in at_rank n c (omega (arith, lower, l)) in
        let input : IsInputBit flat b → ⊥ = λ i. no (settled.inputs b i ∙ sym (other.inputs b i)) in
        let written : (x : Writer) → Writes flat x b → ⊥ = λ x w. no (at_writer x b w named) in
        no (settled.others b input written ∙ sym (other.others b input written)))

    pub one_settled : e ≡ f
    one_settled = fun_ext (λ b. at_rank (suc (lawful.ranks.0 b)) b (omega arith))

module _ (flat : Flat) (word : Option (List ℕ)) (lawful : Lawful flat word) (clock : Option ℕ) where
  runs_same : (rows a b : List (List ℕ)) (s t x y : Environment) → s ≡ t → Runs flat clock s rows a x → Runs flat clock t rows b y → a ≡ b
  runs_same [] a b s t x y q ended ended = refl
  runs_same (row ∷ rows) a b s t x y q (cycle {more = m} e f h k r) (cycle {more = n} g i u v w) =
      let same : e ≡ g = one_settled flat word lawful clock t row e g (subst (λ z. Settled flat clock z row e) q h) u in
      let next : f ≡ i = only_next flat g f i (subst (λ z. IsNext flat z f) same k) v in
      rw (ap (outputs_of flat) same, runs_same rows m n f i x y next r w) refl

  pub run_once : (rows a b : List (List ℕ)) → Run flat clock rows a → Run flat clock rows b → a ≡ b
  run_once rows a b h k = runs_same rows a b (beginning flat) (beginning flat) h.0 k.0 refl h.1 k.1
