-- A file and a table have one outcome.
use Rattle.std.proofs.Common.{◌≡◌, ◌≢◌, ℕ, List, length, Bool, Option, refl, ap, sym, subst, ◌∙◌, inl, inr}
use Rattle.rr_directive.specs.declared.fault.DirectiveFault.{DirectiveFault}
use Rattle.rr_directive.specs.declared.fault.DirectiveFault.TheVariants as directive
use Rattle.rr_directive.specs.declared.origin.Origin.{Origin}
use Rattle.rr_directive.specs.Expand.{Faults, IsTaken}
use Rattle.rr_directive.proofs.Faults.{not_both, one_expansion, one_fault}
use Rattle.rr_lex.specs.Tokens.{Lexeme}
use Rattle.rr_flat.specs.Signals.{Text}
use Rattle.rr_flat.specs.Plain.{Flat}
use Rattle.rr_run.specs.declared.fault.Fault.TheVariants as fault
use Rattle.rr_run.specs.declared.rows.TableKind.{TableKind}
use Rattle.rr_run.specs.Refusals.{Refusal, At, Expanded, NotUtf8}
use Rattle.rr_run.specs.Runs.{IsLawfulDesign, IsRun, IsSameRefusal, Refuses}
use Rattle.rr_run.specs.Files.{HasNoDesign, HasNoFileTable, IsFileDesign, IsFileRun, RefusesExpansion, RefusesFile, RefusesFileDesign, place, placed}
use Rattle.rr_run.proofs.Once.{lawful_or_refusal, one_lawful, one_refused, one_run, run_or_refusal}

-- ---- the expansion

-- the refusal by which a fault of directives is told; want of memory is told by none, so that its line has no meaning
abbrev of_directives : DirectiveFault → Refusal
of_directives (directive.UnknownMacro at) = At fault.UnknownMacro at
of_directives (directive.BadDirective at) = At fault.BadDirective at
of_directives (directive.MacroLoop at) = At fault.MacroLoop at
of_directives (directive.TooMany count) = Expanded count
of_directives directive.Memory = NotUtf8

record Unexpanded (file : List ℕ) (refusal : Refusal) : Type 0 where
  cause : DirectiveFault
  some : cause ≢ directive.Memory
  faults : Faults file cause
  told : refusal ≡ of_directives cause

unexpanded : (file : List ℕ) (refusal : Refusal) → RefusesExpansion file refusal → Unexpanded file refusal
unexpanded file (At fault.UnknownMacro at) r = record { cause = directive.UnknownMacro at; some = λ e. cc; faults = r; told = refl }
unexpanded file (At fault.BadDirective at) r = record { cause = directive.BadDirective at; some = λ e. cc; faults = r; told = refl }
unexpanded file (At fault.MacroLoop at) r = record { cause = directive.MacroLoop at; some = λ e. cc; faults = r; told = refl }
unexpanded file (Expanded count) r = record { cause = directive.TooMany count; some = λ e. cc; faults = r; told = refl }
unexpanded file refusal r = absurd r

one_unexpanded : (file : List ℕ) (a b : Refusal) → RefusesExpansion file a → RefusesExpansion file b → a ≡ b
one_unexpanded file a b p q =
    let x = unexpanded file a p in
    let y = unexpanded file b q in
    x.told ∙ (ap of_directives (one_fault file x.cause y.cause x.faults y.faults x.some y.some) ∙ sym y.told)

pub expanded_or_not : (file text : List ℕ) (origins : List Origin) (a : Refusal) → IsTaken file text origins → RefusesExpansion file a → ⊥
expanded_or_not file text origins a t r = let x = unexpanded file a r in x.some (not_both file text origins x.cause t x.faults)

pub one_text : (file text other : List ℕ) (origins others : List Origin) → IsTaken file text origins → IsTaken file other others → (text ≡ other) × (origins ≡ others)
one_text file text other origins others a b = one_expansion file text other origins others a.expansion b.expansion

-- ---- places
pub same_placed : (origins : List Origin) (size : ℕ) (a b : Refusal) → IsSameRefusal a b → IsSameRefusal (placed origins size a) (placed origins size b)
same_placed origins size a b (inl e) = inl (ap (placed origins size) e)
same_placed origins size a b (inr (i, (j, both))) = let p = ap (placed origins size) both.0 in let q = ap (placed origins size) both.1 in inr (place origins size i, (place origins size j, (p, q)))

-- ---- a file with a table
module _ (file : List ℕ) (top word : Option Text) where
  pub one_file_design : (ts us : List Lexeme) (f g : Flat) (c d : Option ℕ) (r s : Bool) → IsFileDesign file top word ts f c r → IsFileDesign file top word us g d s → (ts ≡ us) × ((f ≡ g) × ((c ≡ d) × (r ≡ s)))
  one_file_design ts us f g c d r s a b =
      let same = one_text file a.text b.text a.origins b.origins a.expansion b.expansion in
      one_lawful b.text top word ts us f g c d r s (subst (λ (t : List ℕ). IsLawfulDesign t top word ts f c r) same.0 a.design) b.design

  pub file_design_or_refusal : (ts : List Lexeme) (f : Flat) (c : Option ℕ) (r : Bool) (refusal : Refusal) → IsFileDesign file top word ts f c r → RefusesFileDesign file top word refusal → ⊥
  file_design_or_refusal ts f c r refusal a (inl e) = expanded_or_not file a.text a.origins refusal a.expansion e
  file_design_or_refusal ts f c r refusal a (inr n) =
      let same = one_text file a.text n.text a.origins n.origins a.expansion n.expansion in
      lawful_or_refusal n.text top word ts f c r n.found (subst (λ (t : List ℕ). IsLawfulDesign t top word ts f c r) same.0 a.design) n.refused

  module _ (kind : TableKind) (table : List ℕ) where
    pub one_file_run : (x y : List ℕ) → IsFileRun kind file table top word x → IsFileRun kind file table top word y → x ≡ y
    one_file_run x y a b =
        let same = one_text file a.text b.text a.origins b.origins a.expansion b.expansion in
        one_run kind b.text table top word x y (subst (λ (t : List ℕ). IsRun kind t table top word x) same.0 a.run) b.run

    -- a run, and a refusal of its text
    not_both_of : (x text : List ℕ) (origins : List Origin) (refusal : Refusal) → IsFileRun kind file table top word x → IsTaken file text origins → Refuses kind text table top word refusal → ⊥
    not_both_of x text origins refusal a t r =
        let same = one_text file a.text text a.origins origins a.expansion t in
        run_or_refusal kind text table top word x refusal (subst (λ (t : List ℕ). IsRun kind t table top word x) same.0 a.run) r

    pub file_run_or_refusal : (x : List ℕ) (refusal : Refusal) → IsFileRun kind file table top word x → RefusesFile kind file table top word refusal → ⊥
    file_run_or_refusal x refusal a (inl (inl e)) = expanded_or_not file a.text a.origins refusal a.expansion e
    file_run_or_refusal x refusal a (inl (inr n)) = not_both_of x n.text n.origins n.found a n.expansion (inl n.refused)
    file_run_or_refusal x refusal a (inr n) = not_both_of x n.text n.origins refusal a n.expansion (inr n.refused)

    -- two refusals of the text
    one_text_refusal : (text other : List ℕ) (origins others : List Origin) (a b : Refusal) → IsTaken file text origins → IsTaken file other others → Refuses kind text table top word a → Refuses kind other table top word b → IsSameRefusal a b
    one_text_refusal text other origins others a b t u p q =
        let same = one_text file text other origins others t u in
        one_refused kind other table top word a b (subst (λ (t : List ℕ). Refuses kind t table top word a) same.0 p) q

    -- and not of the design and of the table
    design_or_table : (a b : Refusal) → HasNoDesign file top word a → HasNoFileTable kind file table top word b → ⊥
    design_or_table a b n m =
        let same = one_text file m.text n.text m.origins n.origins m.expansion n.expansion in
        lawful_or_refusal n.text top word m.refused.tokens m.refused.flat m.refused.clock m.refused.rising n.found
        (subst (λ (t : List ℕ). IsLawfulDesign t top word m.refused.tokens m.refused.flat m.refused.clock m.refused.rising) same.0 m.refused.design) n.refused

    one_no_design : (a b : Refusal) → HasNoDesign file top word a → HasNoDesign file top word b → IsSameRefusal a b
    one_no_design a b n m =
        let same = one_text file n.text m.text n.origins m.origins n.expansion m.expansion in
        let found : IsSameRefusal n.found m.found = one_text_refusal n.text m.text n.origins m.origins n.found m.found n.expansion m.expansion (inl n.refused) (inl m.refused) in
        let both = same_placed m.origins (length file) n.found m.found found in
        let first : a ≡ placed m.origins (length file) n.found = n.told ∙ ap (λ (os : List Origin). placed os (length file) n.found) same.1 in
        subst (λ (r : Refusal). IsSameRefusal r b) (sym first) (subst (λ (r : Refusal). IsSameRefusal (placed m.origins (length file) n.found) r) (sym m.told) both)

    pub one_file_refused : (a b : Refusal) → RefusesFile kind file table top word a → RefusesFile kind file table top word b → IsSameRefusal a b
    one_file_refused a b (inl (inl e)) (inl (inl f)) = inl (one_unexpanded file a b e f)
    one_file_refused a b (inl (inl e)) (inl (inr n)) = absurd (expanded_or_not file n.text n.origins a n.expansion e)
    one_file_refused a b (inl (inl e)) (inr n) = absurd (expanded_or_not file n.text n.origins a n.expansion e)
    one_file_refused a b (inl (inr n)) (inl (inl f)) = absurd (expanded_or_not file n.text n.origins b n.expansion f)
    one_file_refused a b (inr n) (inl (inl f)) = absurd (expanded_or_not file n.text n.origins b n.expansion f)
    one_file_refused a b (inl (inr n)) (inl (inr m)) = one_no_design a b n m
    one_file_refused a b (inl (inr n)) (inr m) = absurd (design_or_table a b n m)
    one_file_refused a b (inr m) (inl (inr n)) = absurd (design_or_table b a n m)
    one_file_refused a b (inr n) (inr m) = one_text_refusal n.text m.text n.origins m.origins a b n.expansion m.expansion (inr n.refused) (inr m.refused)
