-- Requests that read two files in one way come to one number of changes.
use Rattle.std.proofs.Common.{◌≡◌, ◌∙◌, ℕ, ◌≤◌, List, length, Bool, Option, inl, inr, ap, sym, subst, arith}
use Rattle.rr_syntax.specs.Tree.{SourceText}
use Rattle.rr_flat.specs.Clocks.{OneClock}
use Rattle.rr_flat.specs.Lawful.{Lawful}
use Rattle.rr_flat.specs.Plain.{Flat}
use Rattle.rr_flat.specs.Signals.{Text}
use Rattle.rr_elaborate.specs.Designs.{IsDesignOf}
use Rattle.rr_choice.specs.Sites.{Site}
use Rattle.rr_trace.specs.Tables.{Table}
use Rattle.rr_transition.specs.Cycles.{Design, instance_design}
use Rattle.rr_unroll.specs.Matches.{Matches}
use Rattle.rr_search.specs.Least.{Least}
use Rattle.rr_kept.specs.Read.{SourceFile}
use Rattle.rr_run.specs.declared.rows.TableKind.{TableKind}
use Rattle.rr_run.specs.Rows.{ReadsTable}
use Rattle.rr_endings.specs.Found.{Answer}
use Rattle.rr_repair.specs.Repairs.{AreCounts, Counts, IsLeastCount, IsSited, IsTaken, PlainRequest, design_of}
use Rattle.rr_outcomes.specs.Laws.{AreAlike, CountsAgree, IsOneTaking, OneCount, OneVerdict, TellsOutcome}
use Rattle.rr_outcomes.specs.Outcomes.{IsMendable, IsUnmendable}
use Rattle.rr_outcomes.proofs.Once.{mendable_or_not, moved_choice, one_taking}
use Rattle.rr_outcomes.proofs.Told.{each_answer}

-- ---- one request
module _ (w : PlainRequest) (design table : List ℕ) where
  -- a least count is no more than the cost of a choice that mends the other way to take the files
  below : {a b : SourceFile} {ss rs : List Site} {x y : Table} (k n : ℕ) → IsOneTaking a b ss rs x y → Least (design_of w a.source) ss x k → Least (design_of w b.source) rs y n → n ≤ k
  below k n one p q =
      let moved = moved_choice w p.reached.0 one p.reached.1.0 p.reached.1.1.1 in
      subst (λ (m : ℕ). n ≤ m) p.reached.1.1.0 (q.least p.reached.0 moved.0 moved.1)

  pub one_least : (k n : ℕ) → IsLeastCount w design table k → IsLeastCount w design table n → k ≡ n
  one_least k n p q =
      let one = one_taking w design table p.file q.file p.sites q.sites p.rows q.rows p.taken q.taken in
      let other = one_taking w design table q.file p.file q.sites p.sites q.rows p.rows q.taken p.taken in
      let low = below k n one p.least q.least in
      let high = below n k other q.least p.least in
      omega (arith, low, high)

  pub count_mends : (k : ℕ) → IsLeastCount w design table k → IsMendable w design table
  count_mends k p = record {
    file = p.file;
    sites = p.sites;
    rows = p.rows;
    taken = p.taken;
    choice = p.least.reached.0;
    chosen = p.least.reached.1.0;
    matches = p.least.reached.1.1.1;
  }

  -- the least of the counts
  pub least_of : (k : Counts) → AreCounts w design table k → IsLeastCount w design table k.changes
  least_of k p = record { file = p.file; sites = p.sites; rows = p.rows; taken = p.taken; least = p.least }

  pub counts_mend : (k : Counts) → AreCounts w design table k → IsMendable w design table
  counts_mend k p = count_mends k.changes (least_of k p)

  same_counts : (k n : Counts) → k.rows ≡ n.rows → k.sites ≡ n.sites → k.changes ≡ n.changes → k ≡ n
  same_counts k n rows sites changes = λ i. record { rows = rows i; sites = sites i; changes = changes i }

  pub one_counts : (k n : Counts) → AreCounts w design table k → AreCounts w design table n → k ≡ n
  one_counts k n p q =
      let one = one_taking w design table p.file q.file p.sites q.sites p.rows q.rows p.taken q.taken in
      same_counts k n (p.all_rows ∙ ap (λ (t : Table). length t.inputs) one.rows ∙ sym q.all_rows)
      (p.all_sites ∙ ap (λ (ss : List Site). length ss) one.sites ∙ sym q.all_sites)
      (one_least k.changes n.changes (least_of k p) (least_of n q))

-- ---- two requests
module _ (v w : PlainRequest) (design table : List ℕ) (same : AreAlike v w) where
  moved_sited : {f : SourceFile} {flat : Flat} {clock : Option ℕ} {rising : Bool} {ss : List Site} → IsSited v design f flat clock rising ss → IsSited w design f flat clock rising ss
  moved_sited {f} {flat} {clock} {rising} {ss} s = record {
    expansion = s.expansion;
    tree = subst (λ (top : Option Text). IsDesignOf f.text f.tokens f.source top flat) same.top s.tree;
    lawful = subst (λ (word : Option Text). Lawful flat word) same.clock s.lawful;
    one_clock = subst (λ (word : Option Text). OneClock flat word clock rising) same.clock s.one_clock;
    listed = s.listed;
    are = s.are;
    kept = s.kept;
    few = s.few;
  }

  moved_taken : {f : SourceFile} {ss : List Site} {x : Table} → IsTaken v design table f ss x → IsTaken w design table f ss x
  moved_taken {f} {ss} {x} t = record {
    flat = t.flat;
    clock = t.clock;
    rising = t.rising;
    sited = moved_sited t.sited;
    read = subst (λ (kind : TableKind). ReadsTable kind t.flat t.clock t.rising table x) same.kind t.read;
    small = t.small;
  }

  one_design : (source : SourceText) → design_of v source ≡ design_of w source
  one_design source = λ i. record { source = source; top = same.top i; word = same.clock i }

  moved_count : (k : ℕ) → IsLeastCount v design table k → IsLeastCount w design table k
  moved_count k p = record { file = p.file; sites = p.sites; rows = p.rows; taken = moved_taken p.taken; least = subst (λ (j : Design). Least j p.sites p.rows k) (one_design p.file.source) p.least }

  pub moved_counts : (k : Counts) → AreCounts v design table k → AreCounts w design table k
  moved_counts k p = record {
    file = p.file;
    sites = p.sites;
    rows = p.rows;
    taken = moved_taken p.taken;
    all_rows = p.all_rows;
    all_sites = p.all_sites;
    least = subst (λ (j : Design). Least j p.sites p.rows k.changes) (one_design p.file.source) p.least;
  }

  moved_mendable : IsMendable v design table → IsMendable w design table
  moved_mendable m = record {
    file = m.file;
    sites = m.sites;
    rows = m.rows;
    taken = moved_taken m.taken;
    choice = m.choice;
    chosen = m.chosen;
    matches = subst (λ (j : Design). Matches (instance_design m.sites m.choice j) m.rows) (one_design m.file.source) m.matches;
  }

pub one_count : OneCount
one_count v w design table k n same p q = one_least w design table k n (moved_count v w design table same k p) q

pub one_verdict : OneVerdict
one_verdict v w design table same m n = mendable_or_not w design table (moved_mendable v w design table same m) n

-- an answer of status 1 tells that no changes match
none_told : (w : PlainRequest) (design table : List ℕ) (b : Answer) → TellsOutcome w design table b → b.status ≡ 1 → IsUnmendable w design table
none_told w design table b (inl t) e = let zero = t.1.1 in absurd (omega (arith, e, zero))
none_told w design table b (inr (inl t)) e = t.1.0
none_told w design table b (inr (inr t)) e = let two = t.1 in absurd (omega (arith, e, two))

pub counts_agree : CountsAgree
counts_agree v w design table a b k n same p q zero = (
  λ other. one_counts w design table k n (moved_counts v w design table same k (p.are zero)) (q.are other),
  λ other. one_verdict v w design table same (counts_mend v design table k (p.are zero)) (none_told w design table b (each_answer w design table b q.answers) other),
)
