-- What the search answered, as what is to be done.
use Rattle.std.proofs.Common.{◌≡◌, ◌⊎◌, inl, inr, ℕ, suc, ◌+◌, ◌-◌, ◌<◌, ◌≤◌, ◌^◌, min, List, [], ◌∷◌, length, refl, sym, ◌∙◌, ap, subst, arith, Bool, Option, Some, None, Ok}
use Rattle.std.specs.List.{sum}
use Rattle.std.proofs.lemmas.List.{length-map}
use Rattle.rr_syntax.specs.Tree.{SourceText}
use Rattle.rr_syntax.specs.declared.site.Site.{Site as ArenaSite}
use Rattle.rr_lex.specs.Tokens.{Lexeme}
use Rattle.rr_circuit.specs.Aag.{aag}
use Rattle.rr_circuit.specs.Values.{OutputNetlist}
use Rattle.rr_tseitin.specs.Tseitin.{formula_of}
use Rattle.rr_derive.specs.Derive.{Proof, Refutes}
use Rattle.rr_derive.specs.Lrat.{AreWritable, lrat}
use Rattle.rr_check.specs.declared.verdict.Verdict.TheVariants.{Accepted}
use Rattle.rr_check_certificate.specs.Certificates.{IsJudged}
use Rattle.rr_flat.specs.Inputs.{row_inputs}
use Rattle.rr_flat.specs.Plain.{Flat}
use Rattle.rr_flat.specs.declared.fault.Limit.TheVariants as limit
use Rattle.rr_trace.specs.Tables.{Table}
use Rattle.rr_run.specs.declared.fault.RunFault.{RunFault}
use Rattle.rr_run.specs.declared.fault.RunFault.TheVariants as run_fault
use Rattle.rr_run.specs.Refusals.{TooMany, StopsWhere as RunStops}
use Rattle.rr_run.specs.Files.{RefusesFileDesign}
use Rattle.rr_run.specs.Rows.{ReadsTable, RefusesTable}
use Rattle.rr_run.specs.declared.rows.TableKind.{TableKind}
use Rattle.rr_run.specs.declared.rows.TableKind.TheVariants as kind
use Rattle.rr_choice.specs.declared.pick.Choice.{Choice}
use Rattle.rr_choice.specs.declared.pick.Pick.{Pick}
use Rattle.rr_choice.specs.Choices.{total_bits, IsChoice}
use Rattle.rr_instance.specs.Instances.{instance_source}
use Rattle.rr_choice.specs.Sites.{Site, IsSiteList}
use Rattle.rr_choice.specs.View.{plain_site, plain_sites}
use Rattle.rr_instance_laws.proofs.Few.{bits_are_few}
use Rattle.rr_registers.specs.Registers.{registers_of}
use Rattle.rr_blast.specs.Circuits.{bit_count}
use Rattle.rr_blast.specs.Rows.{bits_of_row}
use Rattle.rr_blast.proofs.FitLaws.{row_length}
use Rattle.rr_transition.specs.Cycles.{Cycle, Design, widths_of}
use Rattle.rr_transition.specs.Transitions.{Transition}
use Rattle.rr_unroll.specs.Matches.{FitsOutputs}
use Rattle.rr_table_fits.proofs.Standing.{samples_stand, tables_stand}
use Rattle.rr_sites_written.proofs.Written.{names_are_written}
use Rattle.rr_respell.specs.Laws.{AreNamed}
use Rattle.rr_elaborate.specs.Designs.{IsText}
use Rattle.rr_flatten.specs.Walk.{flat_of}
use Rattle.rr_sites_command.specs.Lists.{AreSites, HasFileSites}
use Rattle.rr_directive.specs.Expand.{IsExpansion}
use Rattle.rr_kept.specs.Kept.{AreKept}
use Rattle.rr_kept.specs.Read.{IsRead, SourceFile}
use Rattle.rr_kept.proofs.Together.{kept_are_named}
use Rattle.rr_map.specs.Printed.{printed_file, printed_text, ExpandsTo}
use Rattle.rr_run.specs.Files.{placed_tokens}
use Rattle.rr_repair_report.specs.Texts.{report}
use Rattle.rr_endings.specs.Found.{Answer}
use Rattle.rr_endings.specs.Views.{stop_from, StopsWhere}
use Rattle.rr_search.specs.declared.answer.Answer.{Answer as SearchAnswer}
use Rattle.rr_search.specs.declared.answer.Answer.TheVariants as found
use Rattle.rr_search.specs.Answers as search
use Rattle.rr_search.specs.Answers.{Task, IsOf}
use Rattle.rr_search.specs.Least.{Least}
use Rattle.rr_members.specs.Searched.{IsSpent}
use Rattle.rr_unroll.specs.Faithful.{Faithful}
use Rattle.rr_repair_output.specs.Certified.{certificate}
use Rattle.rr_repair_output.specs.Texts.{beyond_text, found_text, open_text}
use Rattle.rr_repair.specs.Repairs.{PlainRequest, AnswersRepair, Counts, CountsRepair, IsAnswer, IsCounted, IsFound, IsNothingFound, IsOpen, IsSited, Refuses, RefusesRepair, design_of, work_of}
use Rattle.rr_repair.specs.Views.{answer_status, changes_of}

pub choice_length : (ss : List Site) (ps : List Pick) → IsChoice ss ps → length ps ≡ length ss
unfolding IsChoice
choice_length [] [] h = refl
choice_length [] (p ∷ ps) h = absurd h
choice_length (s ∷ ss) [] h = absurd h
choice_length (s ∷ ss) (p ∷ ps) h = ap suc (choice_length ss ps h.1)

-- answers

-- a check accepts the texts where the lines refute the circuit's formula
abbrev pub IsAcceptedWhere : OutputNetlist → Proof → Type 0
IsAcceptedWhere circuit p = Refutes (formula_of circuit).clauses p.lines → AreWritable (formula_of circuit) p.lines → IsJudged (aag circuit) (lrat p) Accepted

module _ (w : PlainRequest) (design : List ℕ) (file : SourceFile) (t : Task) (answer : Answer) where
  pub repair_told : (proposals : ℕ) (c : List Pick) (k : ℕ) (circuit : OutputNetlist) (p : Proof) → search.IsRepair (design_of w file.source) t c k circuit p.lines → answer.files ≡ certificate w.cert circuit p → IsAcceptedWhere circuit p
      → answer.out ≡ printed_file design file t.sites c → ExpandsTo answer.out (printed_text file t.sites c) (instance_source t.sites c file.source) → answer.notes ≡ report (placed_tokens file.origins (length design) file.tokens) t.sites c proposals → answer.status ≡ 0
      → IsAnswer w design file t.sites t.table answer
  repair_told proposals c k circuit p r files accepted out tree notes status = inr (inl (record {
    faulty = r.faulty;
    choice = c;
    chosen = r.choice;
    some = subst (λ (n : ℕ). 1 ≤ n) (sym r.costs) r.some;
    matches = r.mends;
    least = subst (λ (n : ℕ). Least (design_of w file.source) t.sites t.table n) (sym r.costs) r.least;
    printed = out;
    tree = tree;
    circuit = circuit;
    proof = p;
    fewer = record { faithful = subst (λ (n : ℕ). Faithful circuit (design_of w file.source) t.sites t.table (n - 1)) (sym r.costs) r.fewer.faithful; refutes = r.fewer.refuted; accepted = accepted r.fewer.refuted r.fewer.lawful };
    files = files;
    proposals = proposals;
    notes = notes;
    status = status;
  }))

  pub beyond_told : (n : ℕ) (circuit : OutputNetlist) (p : Proof) → search.IsBeyondRepair (design_of w file.source) t circuit p.lines → length t.sites ≡ n → answer.files ≡ certificate w.cert circuit p → IsAcceptedWhere circuit p
      → answer.out ≡ [] → answer.notes ≡ beyond_text n → answer.status ≡ 1 → IsAnswer w design file t.sites t.table answer
  beyond_told n circuit p r e files accepted out notes status = inr (inr (inl (record {
    faulty = r.faulty;
    none = r.none;
    circuit = circuit;
    proof = p;
    all = record { faithful = r.all.faithful; refutes = r.all.refuted; accepted = accepted r.all.refuted r.all.lawful };
    files = files;
    printed = out;
    notes = notes ∙ ap beyond_text (sym e);
    status = status;
  })))

-- a question that is left open, by the members and the lines that were asked for
module _ (w : PlainRequest) (design : List ℕ) (file : SourceFile) (t : Task) (answer : Answer) (members : t.members ≡ w.members) (budget : t.budget ≡ w.budget)
    (bound : ℕ) (circuit : OutputNetlist) (p : Proof) (files : answer.files ≡ certificate w.cert circuit p) (status : answer.status ≡ 2) where
  left_told : (choice : Option Choice) → search.IsLeftOpen (design_of w file.source) t bound circuit p.lines choice → IsNothingFound w t.sites bound answer ⊎ IsFound w design file t.sites t.table bound answer
      → IsOpen w design file t.sites t.table answer
  left_told choice l what = record {
    faulty = l.faulty;
    bound = bound;
    few = l.few;
    circuit = circuit;
    proof = p;
    faithful = l.faithful;
    spent =
        subst (λ (n : ℕ). IsSpent (formula_of circuit) circuit.netlist.inputs w.members n p.lines) budget
        (subst (λ (n : ℕ). IsSpent (formula_of circuit) circuit.netlist.inputs n t.budget p.lines) members l.spent);
    files = files;
    found = what;
    status = status;
  }

  pub nothing_told : search.IsLeftOpen (design_of w file.source) t bound circuit p.lines None → answer.out ≡ [] → answer.notes ≡ open_text w.budget bound → IsOpen w design file t.sites t.table answer
  nothing_told l out notes = left_told None l (inl (record { all = l.found; printed = out; notes = notes }))

  pub found_told : (c : Choice) → search.IsLeftOpen (design_of w file.source) t bound circuit p.lines (Some c) → answer.out ≡ printed_file design file t.sites c.picks.items
      → ExpandsTo answer.out (printed_text file t.sites c.picks.items) (instance_source t.sites c.picks.items file.source)
      → answer.notes ≡ found_text w.budget bound (placed_tokens file.origins (length design) file.tokens) t.sites c.picks.items → IsOpen w design file t.sites t.table answer
  found_told c l out tree notes = left_told (Some c) l (inr (record {
    below = l.found.below;
    choice = c.picks.items;
    chosen = l.found.choice;
    costs = l.found.costs;
    matches = l.found.mends;
    printed = out;
    tree = tree;
    notes = notes;
  }))

-- the number of changes
module _ (w : PlainRequest) (design : List ℕ) (file : SourceFile) (t : Task) (told : Answer) where
  least_told : (answer : SearchAnswer) → search.AnswerIs t (design_of w file.source) answer → told.status ≡ answer_status answer
      → told.status ≡ 0 → Least (design_of w file.source) t.sites t.table (changes_of answer)
  least_told found.Unchanged r e zero = r.least
  least_told (found.Repair choice k circuit journal) r e zero = r.least
  least_told (found.NoRepair circuit journal) r e zero = absurd (omega (arith, e, zero))
  least_told (found.Spent bound circuit journal choice) r e zero = absurd (omega (arith, e, zero))

  -- .. beside those of the rows and of the sites
  pub counted_told : (answer : SearchAnswer) (counts : Counts) → search.AnswerIs t (design_of w file.source) answer → IsAnswer w design file t.sites t.table told → told.status ≡ answer_status answer
      → counts.rows ≡ length t.table.inputs → counts.sites ≡ length t.sites → counts.changes ≡ changes_of answer → IsCounted w design file t.sites t.table told counts
  counted_told answer counts r is e rows sites changes = record {
    is = is;
    all_rows = rows;
    all_sites = sites;
    least = λ zero. subst (λ (n : ℕ). Least (design_of w file.source) t.sites t.table n) (sym changes) (least_told answer r e zero);
  }

pub plain_count : (sites : List ArenaSite) (ss : List Site) → plain_sites sites ≡ ss → length ss ≡ length sites
plain_count sites ss e = sym (ap (λ (x : List Site). length x) e) ∙ length-map sites plain_site

-- bits of a cycle

pub few_bits : (ss : List Site) → IsSiteList ss → length ss ≤ 1024 → total_bits ss < 4294967296
few_bits ss h l = let b = bits_are_few ss h in omega (arith, b, l)

capped : (t s r x y n : ℕ) → x ≡ min (t + s) 18446744073709551615 → y ≡ min (x + min r 18446744073709551615) 18446744073709551615 → y < 4294967296 → n ≡ r → t + s + n < 4294967296
capped t s r x y n e f l g = omega (arith, e, f, l, g)

pub few_cycle : (flat : Flat) (clock : Option ℕ) (ss : List Site) (s row x y : ℕ) → s ≡ length (registers_of flat) → row ≡ min (sum (widths_of flat (row_inputs clock flat.inputs))) 18446744073709551615
    → x ≡ min (total_bits ss + s) 18446744073709551615 → y ≡ min (x + row) 18446744073709551615 → y < 4294967296 → bit_count flat clock ss < 4294967296
few_cycle flat clock ss s row x y es er ex ey l =
    capped (total_bits ss) (length (registers_of flat)) (sum (widths_of flat (row_inputs clock flat.inputs))) x y (length (bits_of_row flat.signals (row_inputs clock flat.inputs)))
    (ex ∙ ap (λ (n : ℕ). min (total_bits ss + n) 18446744073709551615) es)
    (ey ∙ ap (λ (n : ℕ). min (x + n) 18446744073709551615) er)
    l
    (row_length flat.signals (row_inputs clock flat.inputs))

-- refusals

module _ (w : PlainRequest) (design table : List ℕ) (file : SourceFile) (flat : Flat) (clock : Option ℕ) (rising : Bool) (sites : List Site) (sited : IsSited w design file flat clock rising sites) where
  pub stops_table : (f : RunFault) → RunStops (RefusesTable w.kind flat clock rising table) f → StopsWhere (RefusesRepair w design table) (stop_from f)
  stops_table (run_fault.Refused r) h = inr (inl (record { file = file; flat = flat; clock = clock; rising = rising; sites = sites; sited = sited; refused = h }))
  stops_table run_fault.Memory h = tt

  module _ (rows : Table) (read : ReadsTable w.kind flat clock rising table rows) (work : ℕ) (e : work ≡ work_of flat rows) where
    pub much_work : 262144 < work → Refuses w design table (TooMany limit.Work work)
    much_work l = inr (inr (record {
      file = file;
      flat = flat;
      clock = clock;
      rising = rising;
      sites = sites;
      sited = sited;
      rows = rows;
      read = read;
      much = subst (λ (n : ℕ). 262144 < n) e l;
      told = ap (λ (n : ℕ). TooMany limit.Work n) e;
    }))

    answered : (answer : Answer) → work ≤ 262144 → IsAnswer w design file sites rows answer → AnswersRepair w design table answer
    answered answer l is = record {
      file = file;
      sites = sites;
      rows = rows;
      taken = record { flat = flat; clock = clock; rising = rising; sited = sited; read = read; small = subst (λ (n : ℕ). n ≤ 262144) e l };
      is = is;
    }

    pub counted : (answer : Answer) (counts : Counts) → work ≤ 262144 → IsCounted w design file sites rows answer counts → CountsRepair w design table answer counts
    counted answer counts l c = record {
      answers = answered answer l c.is;
      are = λ zero. record {
        file = file;
        sites = sites;
        rows = rows;
        taken = record { flat = flat; clock = clock; rising = rising; sited = sited; read = read; small = subst (λ (n : ℕ). n ≤ 262144) e l };
        all_rows = c.all_rows;
        all_sites = c.all_sites;
        least = c.least zero;
      };
    }

-- what is asked of the search

rows_stand : (kind : TableKind) (j : Design) (sites : List Site) (t : Transition) → Cycle j sites t → (flat : Flat) → flat_of j.source j.top ≡ Ok flat → (clock : Option ℕ) (rising : Bool) (bytes : List ℕ) (rows : Table) →
    ReadsTable kind flat clock rising bytes rows → FitsOutputs t.output_widths rows
rows_stand kind.Csv j sites t y flat e clock rising bytes rows r = tables_stand j sites t y flat e clock bytes rows r
rows_stand kind.Vcd j sites t y flat e clock rising bytes rows r = samples_stand j sites t y flat e clock rising bytes rows r

pub task_of_design : (kind : TableKind) (t : Task) (j : Design) → Cycle j t.sites t.transition → (flat : Flat) → flat_of j.source j.top ≡ Ok flat → (clock : Option ℕ) (rising : Bool) (bytes : List ℕ) → ReadsTable kind flat clock rising bytes t.table → IsOf t j
task_of_design kind t j y flat e clock rising bytes r = record { stands = y; fits = rows_stand kind j t.sites t.transition y flat e clock rising bytes t.table r }

sites_named : (bytes : List ℕ) (ts : List Lexeme) (source : SourceText) (flat : Flat) (clock : Option ℕ) (ss : List Site) → IsText bytes ts source → AreSites source flat clock ss → AreNamed ss
sites_named bytes ts source flat clock ss text are =
    subst AreNamed (sym are.2) (names_are_written bytes ts source text.lexed text.spells.tree.spells flat.scopes flat.owners are.0)

-- a file that is read, with kept sites of its text
pub read_with : (bytes : List ℕ) (file : SourceFile) (flat : Flat) (clock : Option ℕ) (ss : List Site) → length bytes < 2 ^ 32 → length file.text < 2 ^ 32 → IsExpansion bytes file.text file.origins →
    IsText file.text file.tokens file.source → (listed : List Site) → AreSites file.source flat clock listed → AreKept file.origins file.tokens file.source listed ss → IsRead bytes file ss
read_with bytes file flat clock ss size small e text listed are kept = record {
  size = size;
  small = small;
  expansion = e;
  tokens = text.lexed;
  spells = text.spells.tree.spells;
  numbered = text.spells.numbered;
  listed = listed;
  kept = kept;
  named = kept_are_named file.origins file.tokens file.source listed ss kept (sites_named file.text file.tokens file.source flat clock listed text are);
}

-- a file without a design
pub stops_design : (w : PlainRequest) (design table : List ℕ) (f : RunFault) → RunStops (RefusesFileDesign design w.top w.clock) f → StopsWhere (RefusesRepair w design table) (stop_from f)
stops_design w design table (run_fault.Refused r) h = inl (inl h)
stops_design w design table run_fault.Memory h = tt

-- more sites than a repair takes
pub many_sites : (w : PlainRequest) (design table : List ℕ) (file : SourceFile) (ss : List Site) → HasFileSites design w.top w.clock file ss → (count : ℕ) → length ss ≡ count → 1024 < count → Refuses w design table (TooMany limit.Sites count)
many_sites w design table file ss has count e l =
    inl (inr (record { read = file; sites = ss; has = has; told = (subst (λ (n : ℕ). 1024 < n) (sym e) l, ap (λ (n : ℕ). TooMany limit.Sites n) (sym e)) }))
