-- A file that is its own expansion runs as the text that it is.
use Rattle.std.proofs.Common.{◌≡◌, ◌∙◌, ◌≤◌, ℕ, List, length, Option, refl, ap, sym, subst, arith, inl, inr}
use Rattle.std.proofs.lemmas.Bool.{cases_lt, le-ltb, lt-ltb}
use Rattle.rr_directive.specs.declared.origin.Origin.{Origin}
use Rattle.rr_directive.specs.Expand.{IsTaken}
use Rattle.rr_directive.specs.Laws.{AreOwn}
use Rattle.rr_directive.proofs.Outputs.{same_length}
use Rattle.rr_directive.proofs.PlainPlaces.{no_backticks, plain_taken}
use Rattle.rr_flat.specs.Signals.{Text}
use Rattle.rr_flat.specs.declared.fault.FlatFault.TheVariants as flat
use Rattle.rr_lex.specs.declared.piece.Wrong.TheVariants as wrong
use Rattle.rr_run.specs.declared.fault.Fault.{Fault}
use Rattle.rr_run.specs.declared.fault.Fault.TheVariants as fault
use Rattle.rr_run.specs.declared.rows.TableKind.{TableKind}
use Rattle.rr_run.specs.Refusals.{Refusal, At}
use Rattle.rr_run.specs.Runs.{HasNoTable, IsAt, IsRun, IsSameRefusal, Refuses, RefusesDesign}
use Rattle.rr_run.specs.Files.{RefusesFile, place, placed, told_at}
use Rattle.rr_run.specs.Laws.{OwnRefusal, OwnRun, PlainRun}
use Rattle.rr_run.proofs.Bounds.{broken_within, fault_within, flaw_within, outside_within}
use Rattle.rr_run.proofs.FileOnce.{expanded_or_not, one_text}

same_turned : (a b : Refusal) → IsSameRefusal a b → IsSameRefusal b a
same_turned a b (inl e) = inl (sym e)
same_turned a b (inr (i, (j, both))) = inr (j, (i, (both.1, both.0)))

pub own_run : OwnRun
own_run file origins taken kind table top word printed = (
  λ r. record { text = file; origins = origins; expansion = taken; run = r },
  λ f. subst (λ (t : List ℕ). IsRun kind t table top word printed) (one_text file f.text file f.origins origins f.expansion taken).0 f.run,
)

-- a byte for each origin
one_each : (file text : List ℕ) (origins : List Origin) → IsTaken file text origins → length text ≡ length origins
one_each file text origins t = ap length t.expansion.text_is ∙ (same_length t.expansion.events ∙ sym (ap length t.expansion.origins_are))

module _ (file : List ℕ) (origins : List Origin) (taken : IsTaken file file origins) (own : AreOwn origins) where
  -- a place within the file, or its end, is told as it is
  own_place : (at : ℕ) → at ≤ length file → place origins (length file) at ≡ at
  own_place at l = elim (cases_lt at (length origins)) [
    | inl h ↦ let e = lt-ltb at (length origins) h in rw e (own at h)
    | inr h ↦ let e = le-ltb at (length origins) h in rw e (omega (arith, h, l, one_each file file origins taken))
  ]

  kept : (what : Fault) (at : ℕ) → at ≤ length file → IsSameRefusal (At what at) (At what (place origins (length file) at))
  kept what at l = inl (ap (At what) (sym (own_place at l)))

  module _ (top word : Option Text) where
    at_own : (what : Fault) (at : ℕ) → IsAt file top word what at → IsSameRefusal (At what at) (At what (told_at what origins (length file) at))
    at_own fault.BadByte at r = kept fault.BadByte at (fault_within file wrong.Byte at r)
    at_own fault.BadNumber at r = kept fault.BadNumber at (fault_within file wrong.Number at r)
    at_own fault.OpenComment at r = kept fault.OpenComment at (fault_within file wrong.Comment at r)
    at_own fault.Directive at r = kept fault.Directive at (fault_within file wrong.Directive at r)
    at_own fault.Unsupported at r = kept fault.Unsupported at (outside_within file at r)
    at_own fault.Syntax at r = inr (at, (place origins (length file) at, (refl, refl)))
    at_own fault.NoTop at r = inl refl
    at_own fault.UnknownModule at r = kept fault.UnknownModule at (flaw_within file top (flat.UnknownModule at) r)
    at_own fault.SelfInstance at r = kept fault.SelfInstance at (flaw_within file top (flat.SelfInstance at) r)
    at_own fault.NameTwice at r = kept fault.NameTwice at (flaw_within file top (flat.NameTwice at) r)
    at_own fault.UnknownName at (inl r) = kept fault.UnknownName at (flaw_within file top (flat.UnknownName at) r)
    at_own fault.UnknownName at (inr r) = kept fault.UnknownName at (broken_within file top word fault.UnknownName at r)
    at_own fault.BadRange at r = kept fault.BadRange at (flaw_within file top (flat.BadRange at) r)
    at_own fault.NotConstant at r = kept fault.NotConstant at (flaw_within file top (flat.NotConstant at) r)
    at_own fault.PortMismatch at r = kept fault.PortMismatch at (flaw_within file top (flat.PortMismatch at) r)
    at_own fault.TooWide at r = kept fault.TooWide at (flaw_within file top (flat.TooWide at r.0) r.1)
    at_own fault.TwoDrivers at r = kept fault.TwoDrivers at (broken_within file top word fault.TwoDrivers at r)
    at_own fault.WrongAssign at r = kept fault.WrongAssign at (broken_within file top word fault.WrongAssign at r)
    at_own fault.Race at r = kept fault.Race at (broken_within file top word fault.Race at r)
    at_own fault.Latch at r = kept fault.Latch at (broken_within file top word fault.Latch at r)
    at_own fault.Loop at r = kept fault.Loop at (broken_within file top word fault.Loop at r)
    at_own fault.ClockUse at r = kept fault.ClockUse at (broken_within file top word fault.ClockUse at r)
    at_own fault.TwoClocks at r = kept fault.TwoClocks at (broken_within file top word fault.TwoClocks at r)
    at_own fault.BadTarget at r = kept fault.BadTarget at (broken_within file top word fault.BadTarget at r)
    at_own fault.WildLabel at r = kept fault.WildLabel at (broken_within file top word fault.WildLabel at r)
    at_own fault.BadLoop at r = kept fault.BadLoop at (flaw_within file top (flat.BadLoop at) r)
    at_own fault.UnknownMacro at r = absurd r
    at_own fault.BadDirective at r = absurd r
    at_own fault.MacroLoop at r = absurd r
    at_own fault.FromMacro at r = absurd r

    same_own : (r : Refusal) → RefusesDesign file top word r → IsSameRefusal r (placed origins (length file) r)
    same_own (At what at) r = at_own what at r
    same_own other r = inl refl

    module _ (kind : TableKind) (table : List ℕ) where
      as_file : (refusal : Refusal) → Refuses kind file table top word refusal → (other : Refusal) × (RefusesFile kind file table top word other × IsSameRefusal refusal other)
      as_file refusal (inl r) = (
        placed origins (length file) refusal,
        (inl (inr (record { text = file; origins = origins; expansion = taken; found = refusal; refused = r; told = refl })), same_own refusal r),
      )
      as_file refusal (inr r) = (refusal, (inr (record { text = file; origins = origins; expansion = taken; refused = r }), inl refl))

      as_text : (refusal : Refusal) → RefusesFile kind file table top word refusal → (other : Refusal) × (Refuses kind file table top word other × IsSameRefusal refusal other)
      as_text refusal (inl (inl e)) = absurd (expanded_or_not file file origins refusal taken e)
      as_text refusal (inl (inr n)) =
          let same = one_text file n.text file n.origins origins n.expansion taken in
          let found : RefusesDesign file top word n.found = subst (λ (t : List ℕ). RefusesDesign t top word n.found) same.0 n.refused in
          let told : refusal ≡ placed origins (length file) n.found = n.told ∙ ap (λ (os : List Origin). placed os (length file) n.found) same.1 in
          (n.found, (inl found, subst (λ (r : Refusal). IsSameRefusal r n.found) (sym told) (same_turned n.found (placed origins (length file) n.found) (same_own n.found found))))
      as_text refusal (inr n) =
          let same = one_text file n.text file n.origins origins n.expansion taken in
          (refusal, (inr (subst (λ (t : List ℕ). HasNoTable kind t table top word refusal) same.0 n.refused), inl refl))

pub own_refusal : OwnRefusal
own_refusal file origins taken own kind table top word refusal = (as_file file origins taken own top word kind table refusal, as_text file origins taken own top word kind table refusal)

pub plain_run : PlainRun
plain_run file plain few = let t = plain_taken file (no_backticks file plain) few in (own_run file t.0 t.1.0, own_refusal file t.0 t.1.0 t.1.1)
