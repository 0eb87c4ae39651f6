-- The design of an expansion, as it is handed on.
use Rattle.std.proofs.Common.{◌≡◌, List, ℕ, Option, Result, Ok, Err}
use Rattle.std.specs.Prelude.{IfOk, MatchResult}
use Rattle.rr_directive.specs.declared.expanded.Expanded.{Expanded}
use Rattle.rr_syntax.specs.View.{plain_source}
use Rattle.rr_lex.specs.Tokens.{lexemes}
use Rattle.rr_flat.specs.View.{plain_flat}
use Rattle.rr_elaborate.specs.Designs.{IsDesignOf}
use Rattle.rr_elaborate.specs.declared.design.Design.{Design}
use Rattle.rr_run.specs.declared.fault.RunFault.{RunFault}
use Rattle.rr_run.specs.Refusals.{Refusal, StopsWhere}
use Rattle.rr_run.proofs.FileRuns.{stops_on}
use Rattle.rr_lint_file.specs.declared.read.FileText.{FileText}

pub same_design : (r : Result FileText RunFault) (e : Expanded) (d : Design) (top : Option (List ℕ)) → IfOk r (λ x. x.expanded ≡ e)
    → IfOk r (λ x. (x.design.tokens ≡ d.tokens) × ((x.design.source ≡ d.source) × (plain_flat x.design.flat ≡ plain_flat d.flat)))
    → IsDesignOf e.text.items (lexemes d.tokens.now) (plain_source d.source.now) top (plain_flat d.flat)
    → IfOk r (λ x. IsDesignOf x.expanded.text.items (lexemes x.design.tokens.now) (plain_source x.design.source.now) top (plain_flat x.design.flat))
same_design (Ok x) e d top expanded same design = rw (expanded, same.0, same.1.0, same.1.1) design
same_design (Err f) e d top expanded same design = tt

-- what follows of an answer, by its bytes, and of a refusal
pub on_result : {V : Type 0} (P Q : List ℕ → Type 0) (R S : Refusal → Type 0) (items : V → List ℕ) (r : Result V RunFault) → ((out : List ℕ) → P out → Q out) → ((refusal : Refusal) → R refusal → S refusal)
    → MatchResult r (λ v. P (items v)) (StopsWhere R) → MatchResult r (λ v. Q (items v)) (StopsWhere S)
on_result P Q R S items (Ok v) f g h = f (items v) h
on_result P Q R S items (Err e) f g h = stops_on R S e g h

pub ok_on : {V : Type 0} (P Q : List ℕ → Type 0) (F : RunFault → Type 0) (items : V → List ℕ) (r : Result V RunFault) → ((out : List ℕ) → P out → Q out) → MatchResult r (λ v. P (items v)) F → IfOk r (λ v. Q (items v))
ok_on P Q F items (Ok v) f h = f (items v) h
ok_on P Q F items (Err e) f h = tt
