-- What is answered of an expansion is an answer of the file.
use Rattle.std.proofs.Common.{◌≡◌, ◌∙◌, ℕ, List, length, Bool, Option, Result, Vec, Global, ap, sym, inl, inr}
use Rattle.std.specs.Result.{MatchResult}
use Rattle.std.proofs.lemmas.Result.{MatchResult-weaker}
use Rattle.rr_directive.specs.declared.origin.Origin.{Origin}
use Rattle.rr_directive.specs.Expand.{IsTaken}
use Rattle.rr_lex.specs.Tokens.{Lexeme}
use Rattle.rr_flat.specs.Signals.{Text}
use Rattle.rr_flat.specs.Plain.{Flat}
use Rattle.rr_run.specs.declared.fault.RunFault.{RunFault}
use Rattle.rr_run.specs.declared.fault.RunFault.TheVariants as run_fault
use Rattle.rr_run.specs.declared.rows.TableKind.{TableKind}
use Rattle.rr_run.specs.Refusals.{Refusal, StopsWhere, plain_refusal}
use Rattle.rr_run.specs.Runs.{IsRun, Refuses, RefusesDesign}
use Rattle.rr_run.specs.Files.{IsFileDesign, IsFileRun, RefusesFile, RefusesFileDesign, placed}
use Rattle.rr_run.proofs.Once.{lawful_or_refusal}

pub stops_on : (P Q : Refusal → Type 0) (f : RunFault) → ((r : Refusal) → P r → Q r) → StopsWhere P f → StopsWhere Q f
stops_on P Q (run_fault.Refused r) k h = k (plain_refusal r) h
stops_on P Q run_fault.Memory k h = tt

-- a refusal of the expansion, told at its place
pub refused_at : (file text : List ℕ) (origins : List Origin) (size : ℕ) (top word : Option Text) (found told : Refusal) → IsTaken file text origins → length file ≡ size → RefusesDesign text top word found →
    told ≡ placed origins size found → RefusesFileDesign file top word told
refused_at file text origins size top word found told taken e h is =
    inr (record { text = text; origins = origins; expansion = taken; found = found; refused = h; told = is ∙ ap (λ (n : ℕ). placed origins n found) (sym e) })

-- the run of the expansion on a table, where its design is lawful
module _ (kind : TableKind) (file table : List ℕ) (top word : Option Text) (ts : List Lexeme) (flat : Flat) (clock : Option ℕ) (rising : Bool) (d : IsFileDesign file top word ts flat clock rising) where
  no_table : (r : Refusal) → Refuses kind d.text table top word r → RefusesFile kind file table top word r
  no_table r (inl h) = absurd (lawful_or_refusal d.text top word ts flat clock rising r d.design h)
  no_table r (inr h) = inr (record { text = d.text; origins = d.origins; expansion = d.expansion; refused = h })

  pub file_run : (result : Result (Vec ℕ Global) RunFault) → MatchResult result (λ x. IsRun kind d.text table top word x.items) (StopsWhere (Refuses kind d.text table top word)) →
      MatchResult result (λ x. IsFileRun kind file table top word x.items) (StopsWhere (RefusesFile kind file table top word))
  file_run result m =
      MatchResult-weaker result m (λ x h. record { text = d.text; origins = d.origins; expansion = d.expansion; run = h })
      (λ f h. stops_on (Refuses kind d.text table top word) (RefusesFile kind file table top word) f no_table h)
