-- What two files decide for a repair, they decide once.
use Rattle.std.proofs.Common.{◌≡◌, ◌∙◌, inl, inr, ℕ, ◌<◌, ◌^◌, ◌+◌, List, [], ◌∷◌, length, Bool, false, cond, refl, sym, ap, subst, arith, Option}
use Rattle.std.proofs.lemmas.List.Sums.{sum_by-cons}
use Rattle.std.proofs.Math.Pow.{ones_lt}
use Rattle.rr_syntax.specs.Tree.{SourceText}
use Rattle.rr_flat.specs.Plain.{Flat}
use Rattle.rr_flat.specs.declared.fault.Limit.TheVariants as limit
use Rattle.rr_choice.specs.declared.pick.Pick.{Pick}
use Rattle.rr_choice.specs.Choices.{cost, IsChoice}
use Rattle.rr_choice.specs.Sites.{Site, value_width}
use Rattle.rr_instance_laws.proofs.OffLaws.{keeps_at_no_cost}
use Rattle.rr_trace.specs.Tables.{Table}
use Rattle.rr_transition.specs.Cycles.{Design, instance_design}
use Rattle.rr_unroll.specs.Matches.{Matches}
use Rattle.rr_run.specs.Refusals.{Refusal as RunRefusal, TooMany}
use Rattle.rr_run.specs.Rows.{ReadsTable, RefusesTable}
use Rattle.rr_run.specs.Runs.{IsSameRefusal}
use Rattle.rr_run.specs.Files.{HasNoFileTable, IsFileDesign, placed_tokens}
use Rattle.rr_kept.specs.Read.{SourceFile}
use Rattle.rr_run.proofs.Reading.{moved_reading, one_reading, read_or_refused}
use Rattle.rr_run.proofs.FileOnce.{one_file_design, one_file_refused}
use Rattle.rr_sites_command.specs.Lines.{site_lines}
use Rattle.rr_sites_command.specs.Lists.{HasFileSites, RefusesSites}
use Rattle.rr_sites_command.proofs.Once.{lawful_of as file_of, one_file, text_or_refusal, one_refusal as one_site_refusal}
use Rattle.rr_repair.specs.Repairs.{HasMuchWork, HasNoTable, IsSited, IsTaken, Refuses, PlainRequest, design_of, work_of}
use Rattle.rr_outcomes.specs.Laws.{IsOneTaking, OneTaking, OneRefusal, TakenOrRefused, MendableOrNot, MatchingIsMendable}

module _ (w : PlainRequest) (design : List ℕ) where
  -- ---- a design with its sites
  sites_of_it : {a : SourceFile} {flat : Flat} {clock : Option ℕ} {rising : Bool} {ss : List Site} → IsSited w design a flat clock rising ss → HasFileSites design w.top w.clock a ss
  sites_of_it {a} {flat} {clock} {rising} {ss} s =
      record { expansion = s.expansion; flat = flat; clock = clock; rising = rising; design = s.tree; lawful = s.lawful; one_clock = s.one_clock; listed = s.listed; are = s.are; kept = s.kept }

  -- the lawful design of its expansion
  lawful_of : {a : SourceFile} {flat : Flat} {clock : Option ℕ} {rising : Bool} {ss : List Site} → IsSited w design a flat clock rising ss → IsFileDesign design w.top w.clock a.tokens flat clock rising
  unfolding sites_of_it
  lawful_of {a} {flat} {clock} {rising} {ss} s = file_of design w.top w.clock a ss (sites_of_it s)

  record IsOneSited (a b : SourceFile) (f g : Flat) (c d : Option ℕ) (r s : Bool) (ss rs : List Site) : Type 0 where
    file : a ≡ b
    flat : f ≡ g
    clock : c ≡ d
    rising : r ≡ s
    sites : ss ≡ rs

  one_sited : {a b : SourceFile} {f g : Flat} {c d : Option ℕ} {r s : Bool} {ss rs : List Site} → IsSited w design a f c r ss → IsSited w design b g d s rs → IsOneSited a b f g c d r s ss rs
  one_sited {a} {b} {f} {g} {c} {d} {r} {s} {ss} {rs} p q =
      let lists = one_file design w.top w.clock a b ss rs (sites_of_it p) (sites_of_it q) in
      let lawful = one_file_design design w.top w.clock a.tokens b.tokens f g c d r s (lawful_of p) (lawful_of q) in
      record { file = lists.0; flat = lawful.1.0; clock = lawful.1.1.0; rising = lawful.1.1.1; sites = lists.1 }

  not_refused : {a : SourceFile} {flat : Flat} {clock : Option ℕ} {rising : Bool} {ss : List Site} (r : RunRefusal) → IsSited w design a flat clock rising ss → RefusesSites design w.top w.clock r → ⊥
  not_refused {a} {flat} {clock} {rising} {ss} r s refuses =
      text_or_refusal design w.top w.clock (site_lines (placed_tokens a.origins (length design) a.tokens) 0 ss) r (record { read = a; sites = ss; has = sites_of_it s; told = (s.few, refl) }) refuses

  -- ---- its table
  module _ (table : List ℕ) where
    one_rows : {f g : Flat} {c d : Option ℕ} {r s : Bool} {x y : Table} → f ≡ g → c ≡ d → r ≡ s → ReadsTable w.kind f c r table x → ReadsTable w.kind g d s table y → x ≡ y
    one_rows {f} {g} {c} {d} {r} {s} {x} {y} p q e a b = one_reading w.kind g d s table x y (moved_reading w.kind table x p q e a) b

    no_rows : {f g : Flat} {c d : Option ℕ} {r s : Bool} {X : Type 0} (x : Table) (refusal : RunRefusal) → f ≡ g → c ≡ d → r ≡ s → ReadsTable w.kind f c r table x → RefusesTable w.kind g d s table refusal → X
    no_rows {f} {g} {c} {d} {r} {s} x refusal p q e a refuses = absurd (read_or_refused w.kind g d s table x refusal (moved_reading w.kind table x p q e a) refuses)

    same_work : {f g : Flat} {x y : Table} → f ≡ g → x ≡ y → work_of f x ≡ work_of g y
    same_work {f} {g} {x} {y} p q = ap (λ (h : Flat). work_of h x) p ∙ ap (λ (t : Table). work_of g t) q

    no_table_of : (r : RunRefusal) → HasNoTable w design table r → HasNoFileTable w.kind design table w.top w.clock r
    no_table_of r n =
        let d = lawful_of n.sited in
        record { text = d.text; origins = d.origins; expansion = d.expansion; refused = record { tokens = n.file.tokens; flat = n.flat; clock = n.clock; rising = n.rising; design = d.design; refused = n.refused } }

    -- ---- refusals
    rows_or_none : {X : Type 0} (r s : RunRefusal) → HasMuchWork w design table r → HasNoTable w design table s → X
    rows_or_none r s m n = let one = one_sited m.sited n.sited in no_rows m.rows s one.flat one.clock one.rising m.read n.refused

    one_work : (r s : RunRefusal) → HasMuchWork w design table r → HasMuchWork w design table s → r ≡ s
    one_work r s p q =
        let one = one_sited p.sited q.sited in
        let rows = one_rows one.flat one.clock one.rising p.read q.read in
        p.told ∙ (ap (λ (n : ℕ). TooMany limit.Work n) (same_work one.flat rows) ∙ sym q.told)

    one_refused_pair : (r s : RunRefusal) → Refuses w design table r → Refuses w design table s → IsSameRefusal r s
    one_refused_pair r s (inl p) (inl q) = one_site_refusal design w.top w.clock r s p q
    one_refused_pair r s (inl p) (inr (inl q)) = absurd (not_refused r q.sited p)
    one_refused_pair r s (inl p) (inr (inr q)) = absurd (not_refused r q.sited p)
    one_refused_pair r s (inr (inl p)) (inl q) = absurd (not_refused s p.sited q)
    one_refused_pair r s (inr (inl p)) (inr (inl q)) = one_file_refused design w.top w.clock w.kind table r s (inr (no_table_of r p)) (inr (no_table_of s q))
    one_refused_pair r s (inr (inl p)) (inr (inr q)) = rows_or_none s r q p
    one_refused_pair r s (inr (inr p)) (inl q) = absurd (not_refused s p.sited q)
    one_refused_pair r s (inr (inr p)) (inr (inl q)) = rows_or_none r s p q
    one_refused_pair r s (inr (inr p)) (inr (inr q)) = inl (one_work r s p q)

    -- ---- files that are taken
    one_pair : {a b : SourceFile} {ss rs : List Site} {x y : Table} → IsTaken w design table a ss x → IsTaken w design table b rs y → IsOneTaking a b ss rs x y
    one_pair {a} {b} {ss} {rs} {x} {y} p q =
        let one = one_sited p.sited q.sited in
        record { file = one.file; sites = one.sites; rows = one_rows one.flat one.clock one.rising p.read q.read }

    much_or_little : {X : Type 0} {a : SourceFile} {ss : List Site} {x : Table} (r : RunRefusal) → IsTaken w design table a ss x → HasMuchWork w design table r → X
    much_or_little {a = a} {ss = ss} {x = x} r t m =
        let one = one_sited t.sited m.sited in
        let works : work_of t.flat x ≡ work_of m.flat m.rows = same_work one.flat (one_rows one.flat one.clock one.rising t.read m.read) in
        let small = t.small in
        let much = m.much in
        absurd (omega (arith, works, small, much))

    not_both : {a : SourceFile} {ss : List Site} {x : Table} (r : RunRefusal) → IsTaken w design table a ss x → Refuses w design table r → ⊥
    not_both {x = x} r t (inl p) = not_refused r t.sited p
    not_both {x = x} r t (inr (inl n)) = let one = one_sited t.sited n.sited in no_rows x r one.flat one.clock one.rising t.read n.refused
    not_both {x = x} r t (inr (inr m)) = much_or_little r t m

pub one_taking : OneTaking
one_taking w design table a b ss rs x y p q = one_pair w design table p q

pub one_refusal : OneRefusal
one_refusal w design table r s p q = one_refused_pair w design table r s p q

pub taken_or_refused : TakenOrRefused
taken_or_refused w design table a ss x r t p = not_both w design table r t p

-- ---- outcomes
-- what matches of one way to take the files, matches of another
pub moved_choice : (w : PlainRequest) {a b : SourceFile} {ss rs : List Site} {x y : Table} (choice : List Pick) → IsOneTaking a b ss rs x y → IsChoice ss choice →
    Matches (instance_design ss choice (design_of w a.source)) x → IsChoice rs choice × Matches (instance_design rs choice (design_of w b.source)) y
moved_choice w {a} {b} {ss} {rs} {x} {y} choice one chosen matches =
    let sites = one.sites in
    let first : Matches (instance_design rs choice (design_of w a.source)) x = subst (λ (l : List Site). Matches (instance_design l choice (design_of w a.source)) x) sites matches in
    let second : Matches (instance_design rs choice (design_of w b.source)) x = subst (λ (t : SourceFile). Matches (instance_design rs choice (design_of w t.source)) x) one.file first in
    (subst (λ (l : List Site). IsChoice l choice) sites chosen, subst (λ (t : Table). Matches (instance_design rs choice (design_of w b.source)) t) one.rows second)

pub moved_matches : (w : PlainRequest) {a b : SourceFile} {ss rs : List Site} {x y : Table} → IsOneTaking a b ss rs x y → Matches (design_of w a.source) x → Matches (design_of w b.source) y
moved_matches w {a = a} {b = b} {x = x} {y = y} one matches =
    let first : Matches (design_of w b.source) x = subst (λ (t : SourceFile). Matches (design_of w t.source) x) one.file matches in
    subst (λ (t : Table). Matches (design_of w b.source) t) one.rows first

pub mendable_or_not : MendableOrNot
mendable_or_not w design table m n =
    let both = moved_choice w m.choice (one_pair w design table m.taken n.taken) m.chosen m.matches in
    n.none m.choice both.0 both.1

-- the choice that changes nothing
abbrev off_pick : Pick
off_pick = record { on = false; value = 0; form = 0; name = 0 }

off_choice : List Site → List Pick
off_choice [] = []
off_choice (s ∷ ss) = off_pick ∷ off_choice ss

power_above : (n : ℕ) → 0 < 2 ^ n
power_above n = let below = ones_lt n in omega (arith, below)

off_chosen : (ss : List Site) → IsChoice ss (off_choice ss)
unfolding IsChoice off_choice
off_chosen [] = tt
off_chosen (s ∷ ss) = (record { value = power_above (value_width s.kind); form = omega arith; name = omega arith }, off_chosen ss)

off_free : (ss : List Site) → cost (off_choice ss) ≡ 0
unfolding off_choice
off_free [] = refl
off_free (s ∷ ss) =
    let rest : cost (off_choice ss) ≡ 0 = off_free ss in
    let none : 0 + cost (off_choice ss) ≡ 0 = omega (arith, rest) in
    sum_by-cons (λ (q : Pick). cond q.on 1 0) off_pick (off_choice ss) ∙ none

off_stays : (j : Design) (ss : List Site) → instance_design ss (off_choice ss) j ≡ j
off_stays j ss = ap (λ (t : SourceText). record { source = t; top = j.top; word = j.word }) (keeps_at_no_cost.source ss (off_choice ss) j.source (off_free ss))

pub mends_as_it_is : (j : Design) (ss : List Site) (x : Table) → Matches j x → (choice : List Pick) × (IsChoice ss choice × Matches (instance_design ss choice j) x)
mends_as_it_is j ss x matches = (off_choice ss, (off_chosen ss, subst (λ (d : Design). Matches d x) (sym (off_stays j ss)) matches))

pub matching_mends : MatchingIsMendable
matching_mends w design table m =
    let some = mends_as_it_is (design_of w m.file.source) m.sites m.rows m.matches in
    record { file = m.file; sites = m.sites; rows = m.rows; taken = m.taken; choice = some.0; chosen = some.1.0; matches = some.1.1 }
