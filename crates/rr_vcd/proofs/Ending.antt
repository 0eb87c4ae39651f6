-- What a dump gives: its table, or why there is none.
use Rattle.std.proofs.Common.{◌≡◌, inl, inr, sym, ℕ, Bool, List, [], ◌∷◌, ◌++◌, Option, Some, None, Result, Ok, Err, refl, ap, subst}
use Rattle.std.specs.Prelude.{MatchResult, MatchOption, IsErrAnd}
use Rattle.rr_flat.specs.Plain.{Flat}
use Rattle.rr_vcd_text.specs.Dump.{Declared, Told, IsDump}
use Rattle.rr_vcd_text.specs.Breaks.{IsBadAt}
use Rattle.rr_vcd_text.specs.View.{Refuses, IsReading, plain_told}
use Rattle.rr_vcd_text.specs.declared.body.Told.{Told as Own}
use Rattle.rr_vcd_text.specs.declared.body.Changes.{Changes}
use Rattle.rr_vcd_text.specs.declared.fault.DumpFault.{DumpFault}
use Rattle.rr_vcd_text.specs.declared.fault.DumpFault.TheVariants as dump
use Rattle.rr_trace.specs.declared.table.Table.{Table}
use Rattle.rr_trace.specs.View.{plain_table}
use Rattle.rr_vcd.specs.declared.fault.VcdFault.{VcdFault}
use Rattle.rr_vcd.specs.Tops.{Top, top_of}
use Rattle.rr_vcd.specs.Moments.{valued}
use Rattle.rr_vcd.specs.Scopes.{IsScope, HasNone, has_inputs}
use Rattle.rr_vcd.specs.Sampled.{IsSampled, Samples, rows_of}
use Rattle.rr_vcd.specs.Faults.{RefusesVcd, LacksScope, of_dump}
use Rattle.rr_vcd.specs.View.{HasRows, Exceeds, IsTable, StopsTable, memory, bad, many}

pub refused : (flat : Flat) (clock : Option ℕ) (rising : Bool) (bytes : List ℕ) (f : DumpFault) → Refuses bytes f → RefusesVcd flat clock rising bytes (of_dump f)
refused flat clock rising bytes (dump.BadVcd line) (inl e) = cc
refused flat clock rising bytes (dump.BadVcd line) (inr (at, (e, b))) = let same : at ≡ line = cc in subst (IsBadAt bytes) same b
refused flat clock rising bytes dump.Memory r = tt

-- what a reader of constructs gives
pub read_some : (bytes : List ℕ) (d : Declared) (told : List Told) (c : Changes) (o : Option Own) (x : Own) → o ≡ Some x → MatchOption o (IsDump bytes d told) (λ t. IsReading bytes d (told ++ plain_told t ∷ []) c)
    → IsReading bytes d (told ++ plain_told x ∷ []) c
read_some bytes d told c None x e h = cc
read_some bytes d told c (Some y) x e h = let same : y ≡ x = cc in subst (λ t. IsReading bytes d (told ++ plain_told t ∷ []) c) same h

pub read_none : (bytes : List ℕ) (d : Declared) (told : List Told) (c : Changes) (o : Option Own) → o ≡ None → MatchOption o (IsDump bytes d told) (λ t. IsReading bytes d (told ++ plain_told t ∷ []) c) → IsDump bytes d told
read_none bytes d told c None e h = h
read_none bytes d told c (Some y) e h = cc

pub fails : (P : Table → Type 0) (Q : VcdFault → Type 0) (r : Result Table VcdFault) (v : VcdFault) → IsErrAnd r (λ e. e ≡ v) → Q v → MatchResult r P Q
fails P Q (Ok t) v h q = absurd h
fails P Q (Err e) v h q = subst Q (sym h) q

module _ (bytes : List ℕ) (top : Top) (d : Declared) (s : ℕ) where
  pub stops_text : (f : DumpFault) → Refuses bytes f → StopsTable bytes top d s (of_dump f)
  stops_text f (inl e) = memory (ap of_dump e)
  stops_text f (inr (at, (e, b))) = bad at (ap of_dump e) b

  pub finish_is : (told : List Told) → IsDump bytes d told → (r : Result Table VcdFault) → MatchResult r (HasRows (rows_of top d s told (valued told))) (Exceeds (rows_of top d s told (valued told)))
      → MatchResult r (IsTable bytes top d s) (StopsTable bytes top d s)
  finish_is told x (Ok t) h = record { told = told; dump = x; rows = h }
  finish_is told x (Err e) (inl m) = memory m
  finish_is told x (Err e) (inr (q, l)) = many told x q l

  module _ (flat : Flat) (clock : Option ℕ) (rising : Bool) (is : top ≡ top_of flat clock rising) (chosen : IsScope top d s) where
    samples : (told : List Told) → IsDump bytes d told → Samples (top_of flat clock rising) bytes (rows_of top d s told (valued told))
    samples told x = subst (λ t. Samples t bytes (rows_of top d s told (valued told))) is (record { declared = d; told = told; scope = s; dump = x; chosen = chosen; are = refl })

    pub outcome : (r : Result Table VcdFault) → MatchResult r (IsTable bytes top d s) (StopsTable bytes top d s)
        → MatchResult r (λ t. IsSampled flat clock rising bytes (plain_table t)) (RefusesVcd flat clock rising bytes)
    outcome (Ok t) h = record { rows = rows_of top d s h.told (valued h.told); samples = samples h.told h.dump; few = h.rows.0; is = h.rows.1 }
    outcome (Err e) (memory m) = subst (RefusesVcd flat clock rising bytes) (sym m) tt
    outcome (Err e) (bad line q b) = subst (RefusesVcd flat clock rising bytes) (sym q) b
    outcome (Err e) (many told x q l) = subst (RefusesVcd flat clock rising bytes) (sym q) (refl, (refl, record { rows = rows_of top d s told (valued told); samples = samples told x; many = l }))

pub no_scope : (flat : Flat) (clock : Option ℕ) (rising : Bool) (bytes : List ℕ) (top : Top) (d : Declared) → top ≡ top_of flat clock rising → HasNone (has_inputs top d) d.scopes → (told : List Told) → IsDump bytes d told
    → LacksScope (top_of flat clock rising) bytes
no_scope flat clock rising bytes top d is none told x = subst (λ t. LacksScope t bytes) is (record { declared = d; told = told; dump = x; none = none })

pub chosen_some : (top : Top) (d : Declared) (n s : ℕ) (o : Option ℕ) → o ≡ Some s → MatchOption o (HasNone (has_inputs top d) n) (IsScope top d) → IsScope top d s
chosen_some top d n s None e h = cc
chosen_some top d n s (Some t) e h = let same : t ≡ s = cc in subst (IsScope top d) same h

pub chosen_none : (top : Top) (d : Declared) (n : ℕ) (o : Option ℕ) → o ≡ None → MatchOption o (HasNone (has_inputs top d) n) (IsScope top d) → HasNone (has_inputs top d) n
chosen_none top d n None e h = h
chosen_none top d n (Some t) e h = cc
