-- Two texts have one outcome.
use Rattle.std.proofs.Common.{◌≡◌, ℕ, List, Bool, Option, Some, None, ap, sym, subst, ◌∙◌, inl, inr}
use Rattle.rr_lex.specs.Tokens.{Lexeme}
use Rattle.rr_flat.specs.Signals.{Text}
use Rattle.rr_flat.specs.Lawful.{Lawful}
use Rattle.rr_flat.specs.Plain.{Flat}
use Rattle.rr_elaborate.specs.Designs.{IsSameRefusal as IsSameCause, same, first_memory, second_memory, both_unparsed, start_of}
use Rattle.rr_elaborate.proofs.Once.{one_design, no_refusal, one_refusal}
use Rattle.rr_elaborate.specs.declared.design.DesignFault.{DesignFault}
use Rattle.rr_elaborate.specs.declared.design.DesignFault.TheVariants as design
use Rattle.rr_lawful.specs.Checked.{FailsFirst, IsSameFault, told}
use Rattle.rr_lawful.proofs.ClockOnce.{one_clock}
use Rattle.rr_lawful.proofs.OneFault.{same_fault, unlawful}
use Rattle.rr_lawful.specs.declared.laws.LawFault.{LawFault}
use Rattle.rr_trace.specs.Tables.{Table}
use Rattle.rr_trace.specs.Tops.{ports_of}
use Rattle.rr_trace.specs.Written.{table_text}
use Rattle.rr_run.specs.declared.fault.Fault.{Fault}
use Rattle.rr_run.specs.declared.rows.TableKind.{TableKind}
use Rattle.rr_run.specs.Refusals.{Refusal, At}
use Rattle.rr_run.specs.Runs.{GivesText, HasNoTable, IsBroken, IsLawfulDesign, IsRun, IsSameRefusal, Refuses, RefusesDesign, Told}
use Rattle.rr_run.proofs.Causes.{Cause, early, late, cause, denied, law_numbered, number_told, of_design}
use Rattle.rr_run.proofs.Reading.{moved_reading, moved_refusal, one_reading, one_table_refusal, read_or_refused}
use Rattle.rr_cycle.proofs.Ranked.{run_once}

pub one_lawful : (bytes : List ℕ) (top word : Option Text) (ts us : List Lexeme) (f g : Flat) (c d : Option ℕ) (r s : Bool) →
    IsLawfulDesign bytes top word ts f c r → IsLawfulDesign bytes top word us g d s → (ts ≡ us) × ((f ≡ g) × ((c ≡ d) × (r ≡ s)))
one_lawful bytes top word ts us f g c d r s a b =
    let both = one_design bytes top ts us f g a.design b.design in
    let clocks = one_clock f word c d r s a.one_clock (rw both.1 b.one_clock) in
    (both.0, (both.1, clocks))

lawful_unbroken : (bytes : List ℕ) (top word : Option Text) (ts : List Lexeme) (f : Flat) (c : Option ℕ) (r : Bool) (what : Fault) (at : ℕ) →
    IsLawfulDesign bytes top word ts f c r → IsBroken bytes top word what at → ⊥
lawful_unbroken bytes top word ts f c r what at a b =
    let both = one_design bytes top ts b.tokens f b.flat a.design b.design in
    denied (Lawful b.flat word) b.found what b.token b.told (unlawful b.flat word b.found b.first) (subst (λ (g : Flat). Lawful g word) both.1 a.lawful)

pub lawful_or_refusal : (bytes : List ℕ) (top word : Option Text) (ts : List Lexeme) (f : Flat) (c : Option ℕ) (r : Bool) (refusal : Refusal) →
    IsLawfulDesign bytes top word ts f c r → RefusesDesign bytes top word refusal → ⊥
lawful_or_refusal bytes top word ts f c r refusal a b = elim (cause bytes top word refusal b) [
  | early e n q h ↦ n (no_refusal bytes top ts f e a.design q)
  | late what at q h ↦ lawful_unbroken bytes top word ts f c r what at a q
]

same_pair : (p q : ℕ × ℕ) → Some p ≡ Some q → (p.0 ≡ q.0) × (p.1 ≡ q.1)
same_pair p q e = let h : p ≡ q = cc in (ap (λ (x : ℕ × ℕ). x.0) h, ap (λ (x : ℕ × ℕ). x.1) h)

some_told : (p : ℕ × ℕ) (o : Option (ℕ × ℕ)) → o ≡ Some p → o ≡ None → ⊥
some_told p o e n = cc

-- one law is told of a design, at one token
one_told : (flat : Flat) (word : Option Text) (f g : LawFault) (a b : Fault) (i j : ℕ) → FailsFirst flat word f → FailsFirst flat word g → Told f a i → Told g b j → (a ≡ b) × (i ≡ j)
one_told flat word f g a b i j p q s t = go (same_fault flat word f g p q)
  where
    go : IsSameFault f g → (a ≡ b) × (i ≡ j)
    go (inl n) = let x = number_told f a i s in absurd (some_told (x.0, i) (told f) x.1.0 n)
    go (inr (inl n)) = let y = number_told g b j t in absurd (some_told (y.0, j) (told g) y.1.0 n)
    go (inr (inr n)) =
        let x = number_told f a i s in
        let y = number_told g b j t in
        let both = same_pair (x.0, i) (y.0, j) (sym x.1.0 ∙ (n ∙ y.1.0)) in
        (x.1.1 ∙ (ap law_numbered both.0 ∙ sym y.1.1), both.1)

one_broken : (bytes : List ℕ) (top word : Option Text) (x y : Fault) (i j : ℕ) → IsBroken bytes top word x i → IsBroken bytes top word y j → At x i ≡ At y j
one_broken bytes top word x y i j a b =
    let both = one_design bytes top a.tokens b.tokens a.flat b.flat a.design b.design in
    let tokens : a.tokens ≡ b.tokens = both.0 in
    let first : FailsFirst b.flat word a.found = subst (λ (g : Flat). FailsFirst g word a.found) both.1 a.first in
    let told_same = one_told b.flat word a.found b.found x y a.token b.token first b.first a.told b.told in
    let law_same : x ≡ y = told_same.0 in
    let token : a.token ≡ b.token = told_same.1 in
    let place : i ≡ j = a.place ∙ (ap (start_of a.tokens) token ∙ (ap (λ (ts : List Lexeme). start_of ts b.token) tokens ∙ sym b.place)) in
    cc

one_early : (a b : Refusal) (f g : DesignFault) → (f ≡ design.Memory → ⊥) → (g ≡ design.Memory → ⊥) → a ≡ of_design f → b ≡ of_design g → IsSameCause f g → IsSameRefusal a b
one_early a b f g m n p q (same e) = inl (p ∙ (ap of_design e ∙ sym q))
one_early a b f g m n p q (first_memory e) = absurd (m e)
one_early a b f g m n p q (second_memory e) = absurd (n e)
one_early a b f g m n p q (both_unparsed i j e h) = inr (i, (j, (p ∙ ap of_design e, q ∙ ap of_design h)))

one_design_refusal : (bytes : List ℕ) (top word : Option Text) (a b : Refusal) → Cause bytes top word a → Cause bytes top word b → IsSameRefusal a b
one_design_refusal bytes top word a b (early f m p h) (early g n q k) = one_early a b f g m n h k (one_refusal bytes top f g p q)
one_design_refusal bytes top word a b (early f m p h) (late y j q k) = absurd (m (no_refusal bytes top q.tokens q.flat f q.design p))
one_design_refusal bytes top word a b (late x i p h) (early g n q k) = absurd (n (no_refusal bytes top p.tokens p.flat g p.design q))
one_design_refusal bytes top word a b (late x i p h) (late y j q k) = inl (h ∙ (one_broken bytes top word x y i j p q ∙ sym k))

-- the bytes of a design with those of a table
module _ (kind : TableKind) (bytes table : List ℕ) (top word : Option Text) where
  one_no_table : (a b : Refusal) → HasNoTable kind bytes table top word a → HasNoTable kind bytes table top word b → a ≡ b
  one_no_table a b p q =
      let both = one_lawful bytes top word p.tokens q.tokens p.flat q.flat p.clock q.clock p.rising q.rising p.design q.design in
      one_table_refusal kind q.flat q.clock q.rising table a b (moved_refusal kind table a both.1.0 both.1.1.0 both.1.1.1 p.refused) q.refused

  no_table : (x : List ℕ) (a : Refusal) → IsRun kind bytes table top word x → HasNoTable kind bytes table top word a → ⊥
  no_table x a p q =
      let both = one_lawful bytes top word p.tokens q.tokens p.flat q.flat p.clock q.clock p.rising q.rising p.design q.design in
      read_or_refused kind q.flat q.clock q.rising table p.rows a (moved_reading kind table p.rows both.1.0 both.1.1.0 both.1.1.1 p.read) q.refused

  pub run_or_refusal : (x : List ℕ) (a : Refusal) → IsRun kind bytes table top word x → Refuses kind bytes table top word a → ⊥
  run_or_refusal x a p (inl r) = lawful_or_refusal bytes top word p.tokens p.flat p.clock p.rising a p.design r
  run_or_refusal x a p (inr r) = no_table x a p r

  pub one_refused : (a b : Refusal) → Refuses kind bytes table top word a → Refuses kind bytes table top word b → IsSameRefusal a b
  one_refused a b (inl p) (inl q) = one_design_refusal bytes top word a b (cause bytes top word a p) (cause bytes top word b q)
  one_refused a b (inl p) (inr q) = absurd (lawful_or_refusal bytes top word q.tokens q.flat q.clock q.rising a q.design p)
  one_refused a b (inr p) (inl q) = absurd (lawful_or_refusal bytes top word p.tokens p.flat p.clock p.rising b p.design q)
  one_refused a b (inr p) (inr q) = inl (one_no_table a b p q)

  same_text : (flat : Flat) (clock : Option ℕ) (rows : Table) (x y : List ℕ) → Lawful flat word → GivesText flat clock rows x → GivesText flat clock rows y → x ≡ y
  same_text flat clock rows x y l p q =
      p.printed ∙ (ap (table_text (ports_of flat clock) rows.inputs) (run_once flat word l clock rows.inputs p.outputs q.outputs p.run q.run) ∙ sym q.printed)

  pub one_run : (x y : List ℕ) → IsRun kind bytes table top word x → IsRun kind bytes table top word y → x ≡ y
  one_run x y p q =
      let both = one_lawful bytes top word p.tokens q.tokens p.flat q.flat p.clock q.clock p.rising q.rising p.design q.design in
      let flats : p.flat ≡ q.flat = both.1.0 in
      let clocks : p.clock ≡ q.clock = both.1.1.0 in
      let tables : p.rows ≡ q.rows = one_reading kind q.flat q.clock q.rising table p.rows q.rows (moved_reading kind table p.rows flats clocks both.1.1.1 p.read) q.read in
      let gives : GivesText q.flat q.clock q.rows x =
      subst (λ (t : Table). GivesText q.flat q.clock t x) tables (subst (λ (c : Option ℕ). GivesText q.flat c p.rows x) clocks (subst (λ (f : Flat). GivesText f p.clock p.rows x) flats p.gives)) in
      same_text q.flat q.clock q.rows x y q.design.lawful gives q.gives
