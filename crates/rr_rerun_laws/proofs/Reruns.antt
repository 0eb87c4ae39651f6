-- What a repair prints is run again as the table expects.
use Rattle.std.proofs.Common.{◌≡◌, ◌≢◌, ◌∙◌, ◌⊎◌, inl, inr, ℕ, List, [], length, sym, ap, subst, refl, Bool, Option, Some, Ok, Err}
use Rattle.rr_syntax.specs.Tree.{SourceText, IsSameSource}
use Rattle.rr_directive.specs.declared.origin.Origin.{Origin}
use Rattle.rr_directive.specs.Expand.{IsExpansion, IsTaken as IsExpanded}
use Rattle.rr_directive.proofs.Faults.{one_expansion}
use Rattle.rr_lex.specs.Tokens.{Lexeme}
use Rattle.rr_grammar.specs.Trees.{IsTree}
use Rattle.rr_grammar.proofs.OneSource.{unique_tree}
use Rattle.rr_flat.specs.Clocks.{OneClock}
use Rattle.rr_flat.specs.Lawful.{Lawful}
use Rattle.rr_flat.specs.declared.fault.FlatFault.TheVariants.{TooMany}
use Rattle.rr_flat.specs.declared.fault.Limit.TheVariants.{Unfolded}
use Rattle.rr_flat.specs.Plain.{Flat}
use Rattle.rr_flat.specs.Signals.{Text}
use Rattle.rr_token_numbers.specs.Bare.{HasSameFlat, IsSameFlat}
use Rattle.rr_token_number_meaning.proofs.Clocking.{one_clock as same_clock}
use Rattle.rr_token_number_meaning.proofs.Lawfulness.{same_laws}
use Rattle.rr_token_number_meaning.proofs.Runs.{same_run}
use Rattle.rr_flatten.specs.Walk.{flat_by, flat_of}
use Rattle.rr_flatten.proofs.Limits.{design_stays, limits_agree}
use Rattle.rr_elaborate.specs.Designs.{IsText}
use Rattle.rr_elaborate.proofs.Once.{one_text}
use Rattle.rr_lawful.proofs.ClockOnce.{one_clock}
use Rattle.rr_instance.specs.Instances.{instance_source}
use Rattle.rr_choice.specs.declared.pick.Pick.{Pick}
use Rattle.rr_choice.specs.Sites.{Site}
use Rattle.rr_flat_instance.specs.Flats.{instance_flat}
use Rattle.rr_flat_instance.specs.Places.{SitesFit}
use Rattle.rr_flat_instance.proofs.Trees.{instances_of_trees}
use Rattle.rr_flat_instance.proofs.Whole.{instances_flatten}
use Rattle.rr_lawful_instance.specs.AreSites.{AreSitesOf}
use Rattle.rr_lawful_instance.specs.Listed.{AreRight}
use Rattle.rr_lawful_instance.proofs.Cycles.{listed_are_sites}
use Rattle.rr_lawful_instance.proofs.Whole.{clock as clock_stays}
use Rattle.rr_trace.specs.Misses.{AgreeRows}
use Rattle.rr_trace.specs.Tables.{Table}
use Rattle.rr_trace.specs.Tops.{ports_of}
use Rattle.rr_trace.specs.Written.{table_text}
use Rattle.rr_cycle.specs.Cycles.{Run}
use Rattle.rr_unroll.specs.Matches.{Matches}
use Rattle.rr_sites_command.proofs.Given.{formed, kept_right, numbered, right}
use Rattle.rr_run.specs.declared.rows.TableKind.{TableKind}
use Rattle.rr_run.specs.Rows.{ReadsTable}
use Rattle.rr_run.specs.Runs.{IsRun}
use Rattle.rr_run.proofs.Once.{one_run}
use Rattle.rr_run.specs.Files.{IsFileRun}
use Rattle.rr_kept.specs.Read.{SourceFile}
use Rattle.rr_map.specs.Printed.{printed_text, ExpandsTo}
use Rattle.rr_endings.specs.Found.{Answer}
use Rattle.rr_repair.specs.Repairs.{IsFound, IsNothingFound, IsRepaired, IsTaken, IsUnchanged, PlainRequest, design_of}
use Rattle.rr_rerun_laws.specs.Reruns.{FileRunAgrees, FileRunsAgain, FoundFileRunAgrees, FoundFileRunsAgain, FoundRunAgrees, FoundRunsAgain, RunsRight, RunsAgain, RunAgrees, UnfoldsWithin}
use Rattle.rr_rerun_laws.proofs.Ports.{instance_reading, same_reading}

-- the limit on the tokens of loops

-- a tree that it does not refuse has its design within it
within : (tree : SourceText) (top : Option Text) (flat : Flat) → flat_of tree top ≡ Ok flat → UnfoldsWithin tree top → flat_by (Some 1048576) tree top ≡ Ok flat
within tree top flat e fits = by (limits_agree.within 1048576 tree top flat e)
  where
    by : (flat_by (Some 1048576) tree top ≡ Ok flat) ⊎ ((count : ℕ) × (flat_by (Some 1048576) tree top ≡ Err (TooMany Unfolded count))) → flat_by (Some 1048576) tree top ≡ Ok flat
    by (inl is) = is
    by (inr past) = absurd (fits past.0 past.1)

-- and a tree with a design within it is not refused
fits_of : (tree : SourceText) (top : Option Text) (flat : Flat) → flat_by (Some 1048576) tree top ≡ Ok flat → UnfoldsWithin tree top
fits_of tree top flat e count past = let k : Ok flat ≡ Err (TooMany Unfolded count) = sym e ∙ past in absurd (cc)

-- a flat design of the text, with the clock, whose run agrees
record IsRight (w : PlainRequest) (flat : Flat) (clock : Option ℕ) (rising : Bool) (rows : Table) : Type 0 where
  lawful : Lawful flat w.clock
  one : OneClock flat w.clock clock rising
  outputs : List (List ℕ)
  run : Run flat clock rows.inputs outputs
  agree : AgreeRows rows.expected outputs (length rows.expected)

-- a design that matches is right with its one flat design and its one clock
right_by : (w : PlainRequest) (source : SourceText) (rows : Table) (flat : Flat) (clock : Option ℕ) (rising : Bool) → flat_of source w.top ≡ Ok flat → OneClock flat w.clock clock rising →
    Matches (design_of w source) rows → IsRight w flat clock rising rows
right_by w source rows flat clock rising e one m =
    let oks : Ok m.flat ≡ Ok flat = sym m.design.design ∙ e in
    let flats : m.flat ≡ flat = cc in
    let its : OneClock flat w.clock m.clock m.design.rising = subst (λ (f : Flat). OneClock f w.clock m.clock m.design.rising) flats m.design.one_clock in
    let clocks : m.clock ≡ clock = (one_clock flat w.clock m.clock clock m.design.rising rising its one).0 in
    let run : Run flat m.clock rows.inputs m.outputs = subst (λ (f : Flat). Run f m.clock rows.inputs m.outputs) flats m.run in
    record {
      lawful = subst (λ (f : Flat). Lawful f w.clock) flats m.design.lawful;
      one = one;
      outputs = m.outputs;
      run = subst (λ (c : Option ℕ). Run flat c rows.inputs m.outputs) clocks run;
      agree = m.agree;
    }

-- the same of a flat design that is equal without token numbers
right_same : (w : PlainRequest) (f g : Flat) (clock : Option ℕ) (rising : Bool) (rows : Table) → IsSameFlat f g → IsRight w f clock rising rows → IsRight w g clock rising rows
right_same w f g clock rising rows same r = record {
  lawful = same_laws f g w.clock same r.lawful;
  one = same_clock f g same w.clock clock rising r.one;
  outputs = r.outputs;
  run = same_run f g clock rows.inputs r.outputs same r.run;
  agree = r.agree;
}

-- the run of a text with such a flat design
told : (w : PlainRequest) (bytes table : List ℕ) (ts : List Lexeme) (tree : SourceText) (flat : Flat) (clock : Option ℕ) (rising : Bool) (rows : Table) → IsText bytes ts tree → UnfoldsWithin tree w.top → flat_of tree w.top ≡ Ok flat →
    ReadsTable w.kind flat clock rising table rows → IsRight w flat clock rising rows → (text : List ℕ) × RunsRight w.kind bytes table w.top w.clock text
told w bytes table ts tree flat clock rising rows x fits e read r = (
  table_text (ports_of flat clock) rows.inputs r.outputs,
  record {
    tokens = ts;
    flat = flat;
    clock = clock;
    rising = rising;
    design = record { design = record { tree = tree; text = x; flat = within tree w.top flat e fits }; lawful = r.lawful; one_clock = r.one };
    rows = rows;
    read = read;
    outputs = r.outputs;
    run = r.run;
    printed = refl;
    agree = r.agree;
  },
)

tree_of : (bytes : List ℕ) (ts : List Lexeme) (tree : SourceText) → IsText bytes ts tree → IsTree bytes tree
tree_of bytes ts tree x = record { tokens = ts; are = x.lexed; spells = x.spells.tree.spells }

module _ (w : PlainRequest) (design table : List ℕ) (file : SourceFile) (sites : List Site) (rows : Table) (taken : IsTaken w design table file sites rows) where
  its_flat : flat_of file.source w.top ≡ Ok taken.flat
  its_flat = design_stays 1048576 file.source w.top taken.flat taken.sited.tree.flat

  its_right : AreRight file.source taken.flat w.clock sites
  its_right =
      let d = taken.sited.tree in
      kept_right file.origins file.tokens file.source taken.flat w.clock taken.sited.listed sites taken.sited.kept
      (right file.source w.top taken.flat (formed file.text file.tokens file.source w.top taken.flat d) (numbered file.text file.tokens file.source w.top taken.flat d) its_flat w.clock taken.clock taken.rising taken.sited.are.0 taken.sited.lawful taken.sited.one_clock taken.sited.are.1 taken.sited.listed taken.sited.are.2)

  fit : AreSitesOf taken.flat w.clock sites × SitesFit sites file.source taken.flat
  fit = listed_are_sites file.source w.top taken.flat w.clock sites its_flat taken.sited.lawful.targets its_right

  -- printed as it is
  unchanged : (answer : Answer) → IsUnchanged w design file.source rows answer → (again : List ℕ) (origins : List Origin) → IsExpansion answer.out again origins → (us : List Lexeme) (tree : SourceText) → IsText again us tree → UnfoldsWithin tree w.top →
      (text : List ℕ) × RunsRight w.kind again table w.top w.clock text
  unchanged answer u again origins e us tree x fits =
      let its : IsExpansion design again origins = subst (λ (b : List ℕ). IsExpansion b again origins) u.printed e in
      let texts : again ≡ file.text = (one_expansion design again file.text origins file.origins its taken.sited.expansion.expansion).0 in
      let same = one_text file.text us file.tokens tree file.source (subst (λ (b : List ℕ). IsText b us tree) texts x) taken.sited.tree.text in
      let flat : flat_of tree w.top ≡ Ok taken.flat = ap (λ (t : SourceText). flat_of t w.top) same.1 ∙ its_flat in
      told w again table us tree taken.flat taken.clock taken.rising rows x fits flat taken.read (right_by w file.source rows taken.flat taken.clock taken.rising its_flat taken.sited.one_clock u.matches)

  -- printed with a choice whose instance matches
  with_choice : (out printed : List ℕ) (choice : List Pick) → Matches (design_of w (instance_source sites choice file.source)) rows → ExpandsTo out printed (instance_source sites choice file.source) →
      (again : List ℕ) (origins : List Origin) → IsExpansion out again origins → (us : List Lexeme) (tree : SourceText) → IsText again us tree → UnfoldsWithin tree w.top → (text : List ℕ) × RunsRight w.kind again table w.top w.clock text
  with_choice out printed choice matches its again origins e us tree x fits =
      let texts : printed ≡ again = (one_expansion out printed again its.origins origins its.expansion e).0 in
      let same : IsSameSource (instance_source sites choice file.source) tree = unique_tree again (instance_source sites choice file.source) tree (subst (λ (b : List ℕ). IsTree b (instance_source sites choice file.source)) texts its.tree) (tree_of again us tree x) in
      let G : Flat = instance_flat sites choice taken.flat in
      let has : HasSameFlat tree w.top G = instances_of_trees sites choice file.source tree w.top taken.flat its_flat fit.1 same in
      let is : flat_of (instance_source sites choice file.source) w.top ≡ Ok G = instances_flatten sites choice file.source w.top taken.flat its_flat fit.1 in
      let clock : OneClock G w.clock taken.clock taken.rising = clock_stays taken.clock taken.rising taken.flat w.clock sites choice fit.0 taken.sited.one_clock in
      let good : IsRight w G taken.clock taken.rising rows = right_by w (instance_source sites choice file.source) rows G taken.clock taken.rising is clock matches in
      let read = same_reading w.kind G has.flat taken.clock taken.rising table rows has.same (instance_reading w.kind taken.flat sites choice taken.clock taken.rising table rows taken.read) in
      told w again table us tree has.flat taken.clock taken.rising rows x fits has.is read (right_same w G has.flat taken.clock taken.rising rows has.same good)

  repaired : (answer : Answer) → IsRepaired w design file sites rows answer → (again : List ℕ) (origins : List Origin) → IsExpansion answer.out again origins → (us : List Lexeme) (tree : SourceText) → IsText again us tree → UnfoldsWithin tree w.top →
      (text : List ℕ) × RunsRight w.kind again table w.top w.clock text
  repaired answer r = with_choice answer.out (printed_text file sites r.choice) r.choice r.matches r.tree

  found : (answer : Answer) (bound : ℕ) → answer.out ≢ [] → IsNothingFound w sites bound answer ⊎ IsFound w design file sites rows bound answer →
      (again : List ℕ) (origins : List Origin) → IsExpansion answer.out again origins → (us : List Lexeme) (tree : SourceText) → IsText again us tree → UnfoldsWithin tree w.top → (text : List ℕ) × RunsRight w.kind again table w.top w.clock text
  found answer bound some (inl n) again origins e us tree x fits = absurd (some n.printed)
  found answer bound some (inr f) again origins e us tree x fits = with_choice answer.out (printed_text file sites f.choice) f.choice f.matches f.tree again origins e us tree x fits

pub runs_again : RunsAgain
runs_again w design table answer m again origins e us tree x fits = go m.is
  where
    go : IsUnchanged w design m.file.source m.rows answer ⊎ IsRepaired w design m.file m.sites m.rows answer → (text : List ℕ) × RunsRight w.kind again table w.top w.clock text
    go (inl u) = unchanged w design table m.file m.sites m.rows m.taken answer u again origins e us tree x fits
    go (inr r) = repaired w design table m.file m.sites m.rows m.taken answer r again origins e us tree x fits

is_run : (kind : TableKind) (bytes table : List ℕ) (top word : Option (List ℕ)) (text : List ℕ) → RunsRight kind bytes table top word text → IsRun kind bytes table top word text
is_run kind bytes table top word text r = record {
  tokens = r.tokens;
  flat = r.flat;
  clock = r.clock;
  rising = r.rising;
  design = r.design;
  rows = r.rows;
  read = r.read;
  gives = record { outputs = r.outputs; run = r.run; printed = r.printed };
}

-- the text of each run is the one that agrees
agrees_by : (kind : TableKind) (bytes table : List ℕ) (top word : Option (List ℕ)) (text : List ℕ) → (again : (other : List ℕ) × RunsRight kind bytes table top word other) → IsRun kind bytes table top word text →
    RunsRight kind bytes table top word text
agrees_by kind bytes table top word text again r =
    let same : again.0 ≡ text = one_run kind bytes table top word again.0 text (is_run kind bytes table top word again.0 again.1) r in
    subst (λ (t : List ℕ). RunsRight kind bytes table top word t) same again.1

pub run_agrees : RunAgrees
run_agrees w design table answer m again origins e text r =
    agrees_by w.kind again table w.top w.clock text (runs_again w design table answer m again origins e r.tokens r.design.design.tree r.design.design.text (fits_of r.design.design.tree w.top r.flat r.design.design.flat)) r

pub found_runs_again : FoundRunsAgain
found_runs_again w design table answer o some again origins e us tree x fits = found w design table o.file o.sites o.rows o.taken answer o.is.bound some o.is.found again origins e us tree x fits

pub found_run_agrees : FoundRunAgrees
found_run_agrees w design table answer o some again origins e text r =
    agrees_by w.kind again table w.top w.clock text (found_runs_again w design table answer o some again origins e r.tokens r.design.design.tree r.design.design.text (fits_of r.design.design.tree w.top r.flat r.design.design.flat)) r

-- the same of the printed bytes as a file
file_run : (kind : TableKind) (bytes again table : List ℕ) (origins : List Origin) (top word : Option (List ℕ)) (text : List ℕ) → IsExpanded bytes again origins → RunsRight kind again table top word text → IsFileRun kind bytes table top word text
file_run kind bytes again table origins top word text taken r = record { text = again; origins = origins; expansion = taken; run = is_run kind again table top word text r }

pub file_runs_again : FileRunsAgain
file_runs_again w design table answer m again origins taken us tree x fits =
    let r = runs_again w design table answer m again origins taken.expansion us tree x fits in
    (r.0, (file_run w.kind answer.out again table origins w.top w.clock r.0 taken r.1, r.1))

pub file_run_agrees : FileRunAgrees
file_run_agrees w design table answer m text f = run_agrees w design table answer m f.text f.origins f.expansion.expansion text f.run

pub found_file_runs_again : FoundFileRunsAgain
found_file_runs_again w design table answer o some again origins taken us tree x fits =
    let r = found_runs_again w design table answer o some again origins taken.expansion us tree x fits in
    (r.0, (file_run w.kind answer.out again table origins w.top w.clock r.0 taken r.1, r.1))

pub found_file_run_agrees : FoundFileRunAgrees
found_file_run_agrees w design table answer o some text f = found_run_agrees w design table answer o some f.text f.origins f.expansion.expansion text f.run
