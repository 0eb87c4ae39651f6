-- What unfolding keeps and stands on (IEEE 1364-2005 section 9.6).
use Rattle.std.specs.Prelude.{◌≡◌, ℕ, true, false, List, [], Option, Some, None, Ok, Err}
use Rattle.rr_syntax.specs.Tree.{Statement}
use Rattle.rr_syntax.specs.Statements.{WellFormedStatement, FitLiteralsStatement, is_open, is_initial}
use Rattle.rr_expr.specs.Scopes.{Names, meant}
use Rattle.rr_flat.specs.declared.fault.Limit.TheVariants.{Unfolded}
use Rattle.rr_flat.specs.declared.fault.FlatFault.{FlatFault}
use Rattle.rr_flat.specs.declared.fault.FlatFault.TheVariants.{TooMany}
use Rattle.rr_flat.specs.Loops.{is_loop_free}
use Rattle.rr_loop_rules.specs.Rules.{LoopNames}
use Rattle.rr_unfold.specs.Unfold.{Count, counted, unfold_statement}

-- What unfolding makes of a statement

abbrev pub LoopsGone : Type 0
LoopsGone = (s : Names) (t : Statement) → is_loop_free (unfold_statement s [] t) ≡ true

abbrev pub FormKept : Type 0
FormKept = (s : Names) (t : Statement) → WellFormedStatement t → WellFormedStatement (unfold_statement s [] t)

abbrev pub LiteralsKept : Type 0
LiteralsKept = (s : Names) (t : Statement) → FitLiteralsStatement t → FitLiteralsStatement (unfold_statement s [] t)

abbrev pub ClosedKept : Type 0
ClosedKept = (s : Names) (t : Statement) → is_open t ≡ false → is_open (unfold_statement s [] t) ≡ false

abbrev pub InitialKept : Type 0
InitialKept = (s : Names) (t : Statement) → is_initial t ≡ true → is_initial (unfold_statement s [] t) ≡ true

-- Statements without loops

abbrev pub LoopFreeStays : Type 0
LoopFreeStays = (s : Names) (t : Statement) → is_loop_free t ≡ true → unfold_statement s [] t ≡ t

abbrev pub LoopFreeUncounted : Type 0
LoopFreeUncounted = (limit : Option ℕ) (L : LoopNames) (s : Names) (t : Statement) (c : Count) → is_loop_free t ≡ true → counted limit L s [] t c ≡ Ok c

-- The limit on tokens: it refuses, and changes nothing else

-- no tokens are counted
abbrev pub uncounted : Count → Count
uncounted c = record c { tokens = 0 }

abbrev pub CountedUnlimited : Type 0
CountedUnlimited = (limit : Option ℕ) (L : LoopNames) (s : Names) (t : Statement) (c d : Count) → counted limit L s [] t c ≡ Ok d → counted None L s [] t (uncounted c) ≡ Ok (uncounted d)

abbrev pub FaultUnlimited : Type 0
FaultUnlimited = (limit : Option ℕ) (L : LoopNames) (s : Names) (t : Statement) (c : Count) (f : FlatFault) → ((k : ℕ) → f ≡ TooMany Unfolded k → ⊥) → counted limit L s [] t c ≡ Err f → counted None L s [] t (uncounted c) ≡ Err f

-- Scopes in which each name means the same

abbrev pub UnfoldByMeanings : Type 0
UnfoldByMeanings = (r s : Names) (t : Statement) → ((name : List ℕ) → meant r name ≡ meant s name) → unfold_statement r [] t ≡ unfold_statement s [] t

abbrev pub CountedByMeanings : Type 0
CountedByMeanings = (limit : Option ℕ) (L : LoopNames) (r s : Names) (t : Statement) (c : Count) → ((name : List ℕ) → meant r name ≡ meant s name) → counted limit L r [] t c ≡ counted limit L s [] t c
