-- Elaboration and token numbers.
use Rattle.std.specs.Prelude.{◌≡◌, ℕ, [], Option, Ok}
use Rattle.rr_syntax.specs.Tree.{Statement, IsSameStatement, SourceText, IsSameSource}
use Rattle.rr_expr.specs.Scopes.{Names}
use Rattle.rr_flat.specs.Signals.{Text}
use Rattle.rr_flat.specs.Plain.{Flat}
use Rattle.rr_loop_rules.specs.Rules.{LoopNames}
use Rattle.rr_unfold.specs.Unfold.{Count, counted, unfold_statement}
use Rattle.rr_flatten.specs.Walk.{flat_of}
use Rattle.rr_token_numbers.specs.Bare.{HasSameFlat}

-- sources that are equal without token numbers have flat designs that are, or none
abbrev pub NumbersStayApart : Type 0
NumbersStayApart = (source tree : SourceText) (top : Option Text) (flat : Flat) → IsSameSource source tree → flat_of source top ≡ Ok flat → HasSameFlat tree top flat

-- statements that are equal without token numbers are unfolded to ones that are
abbrev pub UnfoldByForm : Type 0
UnfoldByForm = (s : Names) (t u : Statement) → IsSameStatement t u → IsSameStatement (unfold_statement s [] t) (unfold_statement s [] u)

-- with the same count
abbrev pub CountedByForm : Type 0
CountedByForm = (limit : Option ℕ) (L : LoopNames) (s : Names) (t u : Statement) (c d : Count) → IsSameStatement t u → counted limit L s [] t c ≡ Ok d → counted limit L s [] u c ≡ Ok d
