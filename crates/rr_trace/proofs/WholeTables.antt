-- The table of a text, from its header and its rows.
use Rattle.std.proofs.Common.{◌≡◌, ◌∙◌, ℕ, Bool, true, false, List, [], ◌∷◌, map, Result, Ok, Err, MatchResult, refl, sym, ap, inl, inr}
use Rattle.std.specs.Result.{is_err}
use Rattle.std.specs.Str.{IsUtf8, is_utf8}
use Rattle.std.proofs.lemmas.Str.{IsUtf8-from_is_utf8, is_utf8-from_IsUtf8}
use Rattle.rr_trace.specs.declared.fault.TableFault.{TableFault}
use Rattle.rr_trace.specs.declared.fault.TableFault.TheVariants.{NoHeader, NotUtf8}
use Rattle.rr_trace.specs.declared.table.Table.{Table as Own}
use Rattle.rr_trace.specs.Columns.{Ports, Header, and_then, header}
use Rattle.rr_trace.specs.Names.{Text}
use Rattle.rr_trace.specs.Rows.{Row, rows}
use Rattle.rr_trace.specs.Tables.{table_of, table_of_records, table_of_rows, records_of}
use Rattle.rr_trace.specs.View.{Refuses, plain_table}

-- what a test of the text says
pub no_text : {A B : Type 0} (r : Result A B) (P : A → Type 0) (N : Type 0) (M : B → Type 0) → MatchResult r P (λ e. N × M e) → is_err r ≡ true → N
no_text (Ok a) P N M m e = cc
no_text (Err b) P N M m e = m.0

pub a_text : {A B : Type 0} (r : Result A B) (L : A → Type 0) (U : Type 0) (Q : B → Type 0) → MatchResult r (λ a. L a × U) Q → is_err r ≡ false → U
a_text (Ok a) L U Q m e = m.1
a_text (Err b) L U Q m e = cc

pub of_no_text : (p : Ports) (bytes : List ℕ) → (IsUtf8 bytes → ⊥) → table_of p bytes ≡ Err NotUtf8
of_no_text p bytes h = go (is_utf8 bytes) refl
  where
    go : (b : Bool) → is_utf8 bytes ≡ b → table_of p bytes ≡ Err NotUtf8
    go true e = absurd (h (IsUtf8-from_is_utf8 bytes e))
    go false e = rw e refl

of_text : (p : Ports) (bytes : List ℕ) → IsUtf8 bytes → table_of p bytes ≡ table_of_records p (records_of bytes)
of_text p bytes h = rw (is_utf8-from_IsUtf8 bytes h) refl

pub no_header : (p : Ports) (bytes : List ℕ) → IsUtf8 bytes → records_of bytes ≡ [] → table_of p bytes ≡ Err NoHeader
no_header p bytes h e = of_text p bytes h ∙ ap (table_of_records p) e

pub bad_header : (p : Ports) (bytes : List ℕ) (fields : (List Text)) (rest : List (List Text)) (f : TableFault) → IsUtf8 bytes → records_of bytes ≡ fields ∷ rest → Refuses (header p fields) f → Refuses (table_of p bytes) f
bad_header p bytes fields rest f h e (inl m) = inl m
bad_header p bytes fields rest f h e (inr d) = inr (of_text p bytes h ∙ (ap (table_of_records p) e ∙ ap (λ r. and_then r (λ x. and_then (rows x 1 rest) (λ xs. Ok (table_of_rows xs)))) d))

pub whole : (p : Ports) (bytes : List ℕ) (fields : (List Text)) (rest : List (List Text)) (x : Header) (r : Result Own TableFault) → IsUtf8 bytes → records_of bytes ≡ fields ∷ rest → header p fields ≡ Ok x
    → MatchResult r (λ t. (xs : List Row) × (rows x 1 rest ≡ Ok xs) × (plain_table t ≡ table_of_rows xs)) (Refuses (rows x 1 rest))
    → MatchResult r (λ t. table_of p bytes ≡ Ok (plain_table t)) (Refuses (table_of p bytes))
whole p bytes fields rest x (Ok t) h e d m =
    of_text p bytes h ∙ (ap (table_of_records p) e ∙ (ap (λ r. and_then r (λ x. and_then (rows x 1 rest) (λ xs. Ok (table_of_rows xs)))) d ∙ (ap (λ r. and_then r (λ xs. Ok (table_of_rows xs))) m.1 ∙ ap Ok (sym m.2))))
whole p bytes fields rest x (Err f) h e d (inl m) = inl m
whole p bytes fields rest x (Err f) h e d (inr m) =
    inr (of_text p bytes h ∙ (ap (table_of_records p) e ∙ (ap (λ r. and_then r (λ x. and_then (rows x 1 rest) (λ xs. Ok (table_of_rows xs)))) d ∙ ap (λ r. and_then r (λ xs. Ok (table_of_rows xs))) m)))
