-- The one cause of a refusal: what elaboration tells, or a law that is broken.
use Rattle.std.proofs.Common.{◌≡◌, ℕ, List, Option, Some, refl, ap, sym, inl, inr, cond, nat_eq}
use Rattle.rr_lex.specs.declared.piece.Wrong.{Wrong}
use Rattle.rr_lex.specs.declared.piece.Wrong.TheVariants as wrong
use Rattle.rr_flat.specs.Signals.{Text}
use Rattle.rr_flat.specs.declared.fault.FlatFault.{FlatFault}
use Rattle.rr_flat.specs.declared.fault.FlatFault.TheVariants as flat
use Rattle.rr_elaborate.specs.Designs.{Refuses as RefusesText}
use Rattle.rr_elaborate.specs.declared.design.DesignFault.{DesignFault}
use Rattle.rr_elaborate.specs.declared.design.DesignFault.TheVariants as design
use Rattle.rr_lawful.specs.Checked.{Denies, told}
use Rattle.rr_lawful.specs.declared.laws.LawFault.{LawFault}
use Rattle.rr_lawful.specs.declared.laws.LawFault.TheVariants as law
use Rattle.rr_run.specs.declared.fault.Fault.{Fault}
use Rattle.rr_run.specs.declared.fault.Fault.TheVariants as fault
use Rattle.rr_run.specs.Refusals.{Refusal, At, TooMany, Expanded, NoHeader, UnknownColumn, ColumnTwice, MissingInput, RowLength, BadCell, CellTooLarge, NotUtf8, BadVcd, NoScope}
use Rattle.rr_run.specs.Runs.{IsBroken, RefusesDesign, Told}

-- the refusal by which a fault of elaboration is told; want of memory is told by none, so that its line has no meaning
abbrev pub of_wrong : Wrong → ℕ → Refusal
of_wrong wrong.Byte at = At fault.BadByte at
of_wrong wrong.Number at = At fault.BadNumber at
of_wrong wrong.Comment at = At fault.OpenComment at
of_wrong wrong.Directive at = At fault.Directive at

abbrev pub of_flat : FlatFault → Refusal
of_flat flat.NoTop = At fault.NoTop 0
of_flat (flat.UnknownModule at) = At fault.UnknownModule at
of_flat (flat.SelfInstance at) = At fault.SelfInstance at
of_flat (flat.NameTwice at) = At fault.NameTwice at
of_flat (flat.UnknownName at) = At fault.UnknownName at
of_flat (flat.BadRange at) = At fault.BadRange at
of_flat (flat.NotConstant at) = At fault.NotConstant at
of_flat (flat.PortMismatch at) = At fault.PortMismatch at
of_flat (flat.TooWide at width) = At fault.TooWide at
of_flat (flat.TooMany limit count) = TooMany limit count
of_flat (flat.BadLoop at) = At fault.BadLoop at
of_flat flat.Memory = NotUtf8

abbrev pub of_design : DesignFault → Refusal
of_design (design.Text what at) = of_wrong what at
of_design (design.Unsupported at) = At fault.Unsupported at
of_design (design.Syntax at) = At fault.Syntax at
of_design (design.Flaw f) = of_flat f
of_design design.Memory = NotUtf8

pub data Cause (bytes : List ℕ) (top word : Option Text) (refusal : Refusal) : Type 0 where
  early : (f : DesignFault) → (f ≡ design.Memory → ⊥) → RefusesText bytes top f → refusal ≡ of_design f → Cause bytes top word refusal
  late : (what : Fault) (at : ℕ) → IsBroken bytes top word what at → refusal ≡ At what at → Cause bytes top word refusal

module _ (bytes : List ℕ) (top word : Option Text) where
  pub cause : (refusal : Refusal) → RefusesDesign bytes top word refusal → Cause bytes top word refusal
  cause (At fault.BadByte at) r = early (design.Text wrong.Byte at) (λ e. cc) r refl
  cause (At fault.BadNumber at) r = early (design.Text wrong.Number at) (λ e. cc) r refl
  cause (At fault.OpenComment at) r = early (design.Text wrong.Comment at) (λ e. cc) r refl
  cause (At fault.Directive at) r = early (design.Text wrong.Directive at) (λ e. cc) r refl
  cause (At fault.Unsupported at) r = early (design.Unsupported at) (λ e. cc) r refl
  cause (At fault.Syntax at) r = early (design.Syntax at) (λ e. cc) r refl
  cause (At fault.NoTop at) r = early (design.Flaw flat.NoTop) (λ e. cc) r.0 (ap (λ (n : ℕ). At fault.NoTop n) r.1)
  cause (At fault.UnknownModule at) r = early (design.Flaw (flat.UnknownModule at)) (λ e. cc) r refl
  cause (At fault.SelfInstance at) r = early (design.Flaw (flat.SelfInstance at)) (λ e. cc) r refl
  cause (At fault.NameTwice at) r = early (design.Flaw (flat.NameTwice at)) (λ e. cc) r refl
  cause (At fault.UnknownName at) (inl r) = early (design.Flaw (flat.UnknownName at)) (λ e. cc) r refl
  cause (At fault.UnknownName at) (inr r) = late fault.UnknownName at r refl
  cause (At fault.BadRange at) r = early (design.Flaw (flat.BadRange at)) (λ e. cc) r refl
  cause (At fault.NotConstant at) r = early (design.Flaw (flat.NotConstant at)) (λ e. cc) r refl
  cause (At fault.PortMismatch at) r = early (design.Flaw (flat.PortMismatch at)) (λ e. cc) r refl
  cause (At fault.TooWide at) r = early (design.Flaw (flat.TooWide at r.0)) (λ e. cc) r.1 refl
  cause (At fault.TwoDrivers at) r = late fault.TwoDrivers at r refl
  cause (At fault.WrongAssign at) r = late fault.WrongAssign at r refl
  cause (At fault.Race at) r = late fault.Race at r refl
  cause (At fault.Latch at) r = late fault.Latch at r refl
  cause (At fault.Loop at) r = late fault.Loop at r refl
  cause (At fault.ClockUse at) r = late fault.ClockUse at r refl
  cause (At fault.TwoClocks at) r = late fault.TwoClocks at r refl
  cause (At fault.BadTarget at) r = late fault.BadTarget at r refl
  cause (At fault.WildLabel at) r = late fault.WildLabel at r refl
  cause (At fault.BadLoop at) r = early (design.Flaw (flat.BadLoop at)) (λ e. cc) r refl
  cause (At fault.UnknownMacro at) r = absurd r
  cause (At fault.BadDirective at) r = absurd r
  cause (At fault.MacroLoop at) r = absurd r
  cause (At fault.FromMacro at) r = absurd r
  cause (TooMany limit count) r = early (design.Flaw (flat.TooMany limit count)) (λ e. cc) r refl
  cause (Expanded count) r = absurd r
  cause NoHeader r = absurd r
  cause (UnknownColumn column) r = absurd r
  cause (ColumnTwice column) r = absurd r
  cause (MissingInput name) r = absurd r
  cause (RowLength row) r = absurd r
  cause (BadCell row column) r = absurd r
  cause (CellTooLarge row column) r = absurd r
  cause NotUtf8 r = absurd r
  cause (BadVcd line) r = absurd r
  cause NoScope r = absurd r

-- the law of a number
abbrev pub law_numbered : ℕ → Fault
law_numbered n =
    cond (nat_eq n 11) fault.UnknownName (cond (nat_eq n 17) fault.TwoDrivers (cond (nat_eq n 18) fault.WrongAssign (cond (nat_eq n 19) fault.Race
    (cond (nat_eq n 20) fault.Latch (cond (nat_eq n 21) fault.Loop (cond (nat_eq n 22) fault.ClockUse (cond (nat_eq n 23) fault.TwoClocks
    (cond (nat_eq n 24) fault.BadTarget fault.WildLabel))))))))

-- the number and the token by which a broken law is told
abbrev pub IsTold : LawFault → Fault → ℕ → Type 0
IsTold f what at = (number : ℕ) × ((told f ≡ Some (number, at)) × (what ≡ law_numbered number))

pub number_told : (f : LawFault) (what : Fault) (at : ℕ) → Told f what at → IsTold f what at
number_told (law.UnknownName t) what at r = (11, (ap (λ (n : ℕ). Some (11, n)) (sym r.1), r.0))
number_told (law.TwoDrivers bit first second) what at r = (17, (ap (λ (n : ℕ). Some (17, n)) (sym r.1), r.0))
number_told (law.WrongAssign t) what at r = (18, (ap (λ (n : ℕ). Some (18, n)) (sym r.1), r.0))
number_told (law.Race t) what at r = (19, (ap (λ (n : ℕ). Some (19, n)) (sym r.1), r.0))
number_told (law.Latch bit block) what at r = (20, (ap (λ (n : ℕ). Some (20, n)) (sym r.1), r.0))
number_told (law.Loop cycle token) what at r = (21, (ap (λ (n : ℕ). Some (21, n)) (sym r.1), r.0))
number_told (law.ClockUse t) what at r = (22, (ap (λ (n : ℕ). Some (22, n)) (sym r.1), r.0))
number_told (law.TwoClocks t) what at r = (23, (ap (λ (n : ℕ). Some (23, n)) (sym r.1), r.0))
number_told (law.BadTarget t) what at r = (24, (ap (λ (n : ℕ). Some (24, n)) (sym r.1), r.0))
number_told (law.WildLabel t) what at r = (25, (ap (λ (n : ℕ). Some (25, n)) (sym r.1), r.0))
number_told law.Memory what at r = absurd r

-- a law that is told is not want of memory
pub denied : (P : Type 0) (f : LawFault) (what : Fault) (at : ℕ) → Told f what at → Denies P f → P → ⊥
denied P (law.UnknownName t) what at r d = d
denied P (law.TwoDrivers bit first second) what at r d = d
denied P (law.WrongAssign t) what at r d = d
denied P (law.Race t) what at r d = d
denied P (law.Latch bit block) what at r d = d
denied P (law.Loop cycle token) what at r d = d
denied P (law.ClockUse t) what at r d = d
denied P (law.TwoClocks t) what at r d = d
denied P (law.BadTarget t) what at r d = d
denied P (law.WildLabel t) what at r d = d
denied P law.Memory what at r d = absurd r
