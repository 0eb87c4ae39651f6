-- A dump gives one table, or one refusal.
use Rattle.std.proofs.Common.{◌≡◌, ◌⊎◌, inl, inr, ℕ, ◌<◌, ◌≤◌, Bool, true, false, ◌&&◌, List, length, Option, refl, sym, ◌∙◌, ap, subst, arith}
use Rattle.std.proofs.lemmas.Bool.{cases_order}
use Rattle.rr_flat.specs.Plain.{Flat}
use Rattle.rr_vcd_text.specs.Dump.{Declared}
use Rattle.rr_vcd_text.proofs.Once.{one_dump, dump_or_line, one_line}
use Rattle.rr_trace.specs.Rows.{Row}
use Rattle.rr_trace.specs.Tables.{Table, table_of_rows}
use Rattle.rr_vcd.specs.declared.fault.VcdFault.{VcdFault}
use Rattle.rr_vcd.specs.declared.fault.VcdFault.TheVariants.{BadVcd, NoScope, TooMany, Memory}
use Rattle.rr_vcd.specs.Tops.{Top, top_of}
use Rattle.rr_vcd.specs.Moments.{valued}
use Rattle.rr_vcd.specs.Scopes.{IsFirst, HasNone, IsScope, whole, inputs_alone, has_ports, has_inputs}
use Rattle.rr_vcd.specs.Sampled.{Samples, IsSampled, rows_of}
use Rattle.rr_vcd.specs.Faults.{LacksScope, RefusesVcd}

clash : {b : Bool} → b ≡ true → b ≡ false → ⊥
clash p q = cc

one_first : (test : ℕ → Bool) (count s t : ℕ) → IsFirst test count s → IsFirst test count t → s ≡ t
one_first test count s t x y = go (cases_order s t)
  where
    go : (s ≡ t) ⊎ ((s < t) ⊎ (t < s)) → s ≡ t
    go (inl e) = e
    go (inr (inl l)) = absurd (clash x.passes (y.earlier s l))
    go (inr (inr l)) = absurd (clash y.passes (x.earlier t l))

one_scope : (top : Top) (d : Declared) (s t : ℕ) → IsScope top d s → IsScope top d t → s ≡ t
one_scope top d s t (whole x) (whole y) = one_first (has_ports top d) d.scopes s t x y
one_scope top d s t (whole x) (inputs_alone none y) = absurd (clash x.passes (none s x.inside))
one_scope top d s t (inputs_alone none x) (whole y) = absurd (clash y.passes (none t y.inside))
one_scope top d s t (inputs_alone none x) (inputs_alone also y) = one_first (has_inputs top d) d.scopes s t x y

and_left : (a b : Bool) → (a && b) ≡ true → a ≡ true
and_left true b e = refl
and_left false b e = e

scope_there : (top : Top) (d : Declared) (s : ℕ) → IsScope top d s → HasNone (has_inputs top d) d.scopes → ⊥
scope_there top d s (whole x) none = clash (and_left (has_inputs top d s) _ x.passes) (none s x.inside)
scope_there top d s (inputs_alone others x) none = clash x.passes (none s x.inside)

one_rows : (top : Top) (bytes : List ℕ) (rows other : List Row) → Samples top bytes rows → Samples top bytes other → rows ≡ other
one_rows top bytes rows other x y =
    let same = one_dump bytes x.declared y.declared x.told y.told x.dump y.dump in
    let chosen : IsScope top x.declared y.scope = subst (λ d. IsScope top d y.scope) (sym same.declared) y.chosen in
    let scope = one_scope top x.declared x.scope y.scope x.chosen chosen in
    x.are ∙ (ap (λ d. rows_of top d x.scope x.told (valued x.told)) same.declared
    ∙ (ap (λ s. rows_of top y.declared s x.told (valued x.told)) scope ∙ (ap (λ t. rows_of top y.declared y.scope t (valued t)) same.tells ∙ sym y.are)))

rows_or_none : (top : Top) (bytes : List ℕ) (rows : List Row) → Samples top bytes rows → LacksScope top bytes → ⊥
rows_or_none top bytes rows x y =
    let same = one_dump bytes x.declared y.declared x.told y.told x.dump y.dump in
    scope_there top x.declared x.scope x.chosen (subst (λ d. HasNone (has_inputs top d) d.scopes) (sym same.declared) y.none)

pub one_table : (flat : Flat) (clock : Option ℕ) (rising : Bool) (bytes : List ℕ) (table other : Table) → IsSampled flat clock rising bytes table → IsSampled flat clock rising bytes other → table ≡ other
one_table flat clock rising bytes table other x y = x.is ∙ (ap table_of_rows (one_rows (top_of flat clock rising) bytes x.rows y.rows x.samples y.samples) ∙ sym y.is)

pub table_or_fault : (flat : Flat) (clock : Option ℕ) (rising : Bool) (bytes : List ℕ) (table : Table) (fault : VcdFault) → IsSampled flat clock rising bytes table → RefusesVcd flat clock rising bytes fault → fault ≡ Memory
table_or_fault flat clock rising bytes table (BadVcd line) x r = absurd (dump_or_line bytes x.samples.declared x.samples.told line x.samples.dump r)
table_or_fault flat clock rising bytes table NoScope x r = absurd (rows_or_none (top_of flat clock rising) bytes x.rows x.samples r)
table_or_fault flat clock rising bytes table (TooMany limit count) x r =
    let e : x.rows ≡ r.1.1.rows = one_rows (top_of flat clock rising) bytes x.rows r.1.1.rows x.samples r.1.1.samples in
    let few : length r.1.1.rows ≤ 65536 = subst (λ rows. length rows ≤ 65536) e x.few in
    let many = r.1.1.many in
    absurd (omega arith)
table_or_fault flat clock rising bytes table Memory x r = refl

pub one_fault : (flat : Flat) (clock : Option ℕ) (rising : Bool) (bytes : List ℕ) (fault other : VcdFault) → RefusesVcd flat clock rising bytes fault → RefusesVcd flat clock rising bytes other
    → (fault ≡ Memory → ⊥) → (other ≡ Memory → ⊥) → fault ≡ other
one_fault flat clock rising bytes (BadVcd line) (BadVcd other) x y p q = ap BadVcd (one_line bytes line other x y)
one_fault flat clock rising bytes (BadVcd line) NoScope x y p q = absurd (dump_or_line bytes y.declared y.told line y.dump x)
one_fault flat clock rising bytes (BadVcd line) (TooMany limit count) x y p q = absurd (dump_or_line bytes y.1.1.samples.declared y.1.1.samples.told line y.1.1.samples.dump x)
one_fault flat clock rising bytes (BadVcd line) Memory x y p q = absurd (q refl)
one_fault flat clock rising bytes NoScope (BadVcd other) x y p q = absurd (dump_or_line bytes x.declared x.told other x.dump y)
one_fault flat clock rising bytes NoScope NoScope x y p q = refl
one_fault flat clock rising bytes NoScope (TooMany limit count) x y p q = absurd (rows_or_none (top_of flat clock rising) bytes y.1.1.rows y.1.1.samples x)
one_fault flat clock rising bytes NoScope Memory x y p q = absurd (q refl)
one_fault flat clock rising bytes (TooMany limit count) (BadVcd other) x y p q = absurd (dump_or_line bytes x.1.1.samples.declared x.1.1.samples.told other x.1.1.samples.dump y)
one_fault flat clock rising bytes (TooMany limit count) NoScope x y p q = absurd (rows_or_none (top_of flat clock rising) bytes x.1.1.rows x.1.1.samples y)
one_fault flat clock rising bytes (TooMany limit count) (TooMany other more) x y p q = rw (x.0, x.1.0, y.0, y.1.0) refl
one_fault flat clock rising bytes (TooMany limit count) Memory x y p q = absurd (q refl)
one_fault flat clock rising bytes Memory other x y p q = absurd (p refl)
