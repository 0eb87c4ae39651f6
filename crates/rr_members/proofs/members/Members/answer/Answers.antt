use Rattle.std.proofs.Common.{◌≡◌, ◌∙◌, ℕ, ◌<◌, ◌-◌, length, ap, subst, sym}
use Rattle.std.specs.Prelude.{None}
use Rattle.std.proofs.lemmas.List.{get_or_read}
use Rattle.rr_derive.specs.Derive.{Refutes}
use Rattle.rr_derive.specs.Lrat.{AreWritable}
use Rattle.rr_solver.specs.Searches.{IsModel, line}
use Rattle.rr_rounds.specs.States.{emptied, solved}
use Rattle.rr_member.specs.Seats.{Seated, member_of}
use Rattle.rr_member.specs.Sharing.{nobody, seat}
use Rattle.rr_members.specs.Groups.{IsFirstEnded}
use Rattle.rr_rounds.proofs.Joining.{joined_refutes}
use Rattle.rr_members.proofs.Numbering.{derived_of, reached_of}
use Rattle.rr_members.proofs.Rounding.{all_lines, emptied_ending, first_as, is_first, model_of, none_ended, solved_ending}
use Rattle.rr_members.proofs.members.Members.answer.Goals.{In-Some}
use Rattle.rr_members.proofs.members.Members.answer.Goals as goal

pub returns-in-None-clause-answer : goal.returns-in-None-clause-answer
returns-in-None-clause-answer c =
    let i = c.self.inside in
    none_ended c.args.self.now i.round i.seats.items i.failed c.self.view_is (subst (λ xs. (k : ℕ) → k < length xs → (member_of (seat xs k)).ending ≡ None) c.as_slice.ensures.value c.in-None.ensures)

pub joined_with-requires-clause-refuted : goal.joined_with-requires-clause-refuted
joined_with-requires-clause-refuted c =
    let i = c.self.inside in
    let first = subst (λ xs. IsFirstEnded xs c.in-Some.place) c.as_slice.ensures.value c.in-Some.ensures in
    let x : c.index-seat.result.now ≡ seat i.seats.items c.in-Some.place = get_or_read i.seats.items c.in-Some.place c.index-seat.result.now first.low c.index-seat.ensures nobody in
    let s = (seat i.seats.items c.in-Some.place).search in
    let status = ap (λ (y : Seated). y.search.status) (sym x) ∙ c.has_solved.ensures.refuted c.if-has_solved.false in
    let e = line s.lines (length s.lines - 1) in
    (e, (is_first c.args.self.now i.round i.seats.items i.failed c.self.view_is c.in-Some.place (emptied e) first (emptied_ending s status)).ended)

pub returns-in_ok-bits-in-Some-clause-answer : goal.returns-in_ok-bits-in-Some-clause-answer
returns-in_ok-bits-in-Some-clause-answer c =
    let i = c.self.inside in
    let going = ap (λ v. v.failed) c.self.view_is ∙ c.requires in
    let first = subst (λ xs. IsFirstEnded xs c.in-Some.place) c.as_slice.ensures.value c.in-Some.ensures in
    let x : c.index-seat.result.now ≡ seat i.seats.items c.in-Some.place = get_or_read i.seats.items c.in-Some.place c.index-seat.result.now first.low c.index-seat.ensures nobody in
    let s = (seat i.seats.items c.in-Some.place).search in
    let bits = c.in_ok-bits-in-Some.bits.items in
    let status = ap (λ (y : Seated). y.search.status) (sym x) ∙ c.has_solved.ensures.solved c.if-has_solved.true in
    let same = c.in_ok-bits-in-Some.ensures.bits ∙ ap (λ (y : Seated). y.search.bits) x in (
      c.in-Some.place,
      (
        is_first c.args.self.now i.round i.seats.items i.failed c.self.view_is c.in-Some.place (solved bits) first (solved_ending s bits status same),
        model_of c.args.self.now i.round i.seats.items i.failed c.self.view_is i.count c.in-Some.place bits (c.self.invariant going) first.low (subst (λ (y : Seated). IsModel y.search.formula bits) x c.in_ok-bits-in-Some.ensures.model),
      ),
    )

pub returns-in_ok-journal-in-Some-clause-answer : goal.returns-in_ok-journal-in-Some-clause-answer
returns-in_ok-journal-in-Some-clause-answer c =
    let v = c.args.self.now in
    let i = c.self.inside in
    let going = ap (λ x. x.failed) c.self.view_is ∙ c.requires in
    let first = subst (λ xs. IsFirstEnded xs c.in-Some.place) c.as_slice.ensures.value c.in-Some.ensures in
    let r = reached_of v i.round i.seats.items i.failed c.self.view_is i.count (c.self.invariant going) in
    let j = c.in_ok-journal-in-Some.ensures.lines in
    let lines = c.in_ok-journal-in-Some.journal.lines in (
      c.in-Some.place,
      (
        j.0,
        (
          first_as v i.round i.seats.items i.failed c.self.view_is c.in-Some.place (emptied j.0) first j.1.0,
          (
            j.1.1,
            (
              subst (Refutes v.formula.clauses) (sym j.1.1) (joined_refutes v.formula v.inputs (length i.seats.items) v.state r c.in-Some.place j.0 j.1.0),
              subst (AreWritable v.formula) (sym j.1.1) (all_lines v.formula v.inputs (length i.seats.items) v.state r c.in_ok-journal-in-Some.ensures.small c.in-Some.place j.0 j.1.0),
            ),
          ),
        ),
      ),
    )

pub returns-in-None-clause-derives : goal.returns-in-None-clause-derives
returns-in-None-clause-derives c =
    let i = c.self.inside in
    derived_of c.args.self.now i.round i.seats.items i.failed c.self.view_is i.count (c.self.invariant (ap (λ v. v.failed) c.self.view_is ∙ c.requires))

pub returns-in_ok-bits-in-Some-clause-derives : goal.returns-in_ok-bits-in-Some-clause-derives
returns-in_ok-bits-in-Some-clause-derives c =
    let i = c.self.inside in
    derived_of c.args.self.now i.round i.seats.items i.failed c.self.view_is i.count (c.self.invariant (ap (λ v. v.failed) c.self.view_is ∙ c.requires))

pub returns-in_ok-journal-in-Some-clause-derives : goal.returns-in_ok-journal-in-Some-clause-derives
returns-in_ok-journal-in-Some-clause-derives c =
    let i = c.self.inside in
    derived_of c.args.self.now i.round i.seats.items i.failed c.self.view_is i.count (c.self.invariant (ap (λ v. v.failed) c.self.view_is ∙ c.requires))
