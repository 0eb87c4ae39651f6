use Rattle.std.proofs.Common.{rules, ◌≡◌, ◌<◌, ◌≤◌, ◌∙◌, ap, get_or, length, sym, subst}
use Rattle.std.specs.Prelude.{ℕ}
use Rattle.rr_derive.specs.Derive.{IsRising}
use Rattle.rr_rounds.specs.States.{learned}
use Rattle.rr_member.specs.Seats.{member_of, with_rounds}
use Rattle.rr_member.proofs.Sitting.{own_found, own_none, own_past}
use Rattle.rr_member.proofs.seat.Seat.own_line.Goals as goal

pub returns-in-None-clause-none : goal.returns-in-None-clause-none
returns-in-None-clause-none c =
    let i = c.self.inside in
    let is = c.lines.ensures.lines ∙ c.journal.ensures.lines in
    subst (λ v. (k : ℕ) → k < length (with_rounds v.rounds v.search.lines) → (learned (member_of v) k).step.id ≡ c.args.id → ⊥) c.self.view_is
    (own_none i.solver i.rounds.items i.origins.items i.stepped c.self.invariant c.args.id (λ k d h e. c.in-None.ensures.none k d (subst (λ ls. k < length ls) (sym is) h) (ap (λ ls. (get_or ls k d).id) is ∙ e)))

pub returns-then-line-len-clause-found : goal.returns-then-line-len-clause-found
returns-then-line-len-clause-found c =
    let i = c.self.inside in
    let line = c.in-Some.line in
    let is = c.lines.ensures.lines ∙ c.journal.ensures.lines in
    let l : line < length i.rounds.items = search rules in
    subst (λ v. (line < length (with_rounds v.rounds v.search.lines)) × ((learned (member_of v) line).step.id ≡ c.args.id)) c.self.view_is
    (own_found i.solver i.rounds.items i.origins.items i.stepped c.self.invariant line c.args.id l (λ d. ap (λ ls. (get_or ls line d).id) (sym is) ∙ c.in-Some.ensures.found.1 d))

pub returns-else-line-len-clause-none : goal.returns-else-line-len-clause-none
returns-else-line-len-clause-none c =
    let i = c.self.inside in
    let line = c.in-Some.line in
    let is = c.lines.ensures.lines ∙ c.journal.ensures.lines in
    let l : length i.rounds.items ≤ line = search rules in
    subst (λ v. (k : ℕ) → k < length (with_rounds v.rounds v.search.lines) → (learned (member_of v) k).step.id ≡ c.args.id → ⊥) c.self.view_is
    (own_past i.solver i.rounds.items i.origins.items i.stepped c.self.invariant (subst IsRising c.journal.ensures.lines c.lines.ensures.rising) line c.args.id l
    (subst (λ ls. line < length ls) is c.in-Some.ensures.found.0) (λ d. ap (λ ls. (get_or ls line d).id) (sym is) ∙ c.in-Some.ensures.found.1 d))
