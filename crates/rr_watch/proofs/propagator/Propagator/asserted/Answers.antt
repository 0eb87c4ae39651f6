use Rattle.std.proofs.Common.{◌≡◌, ◌∙◌, ◌⊎◌, ◌-◌, ◌<◌, ◌≤◌, ap, sym, subst, arith, length}
use Rattle.std.specs.Prelude.{All, Contains}
use Rattle.std.proofs.lemmas.List.Elements.{Contains-get_or}
use Rattle.std.proofs.lemmas.Bool.{eqb-false}
use Rattle.rr_cnf.specs.Clauses.{Literal, negated}
use Rattle.rr_cnf.specs.Codes.{code_of}
use Rattle.rr_trail.specs.Trails.{lits}
use Rattle.rr_watch_lists.specs.Holdings.{held_at}
use Rattle.rr_watch.specs.Lists.{AreAlike, first_of, literal_at, second_of}
use Rattle.rr_watch.proofs.StateSteps.{literal_is}
use Rattle.rr_watch.proofs.AheadLaws.{apart_few, asserted_at, no_other}
use Rattle.rr_watch.proofs.propagator.Propagator.asserted.Goals as goal

pub replacement-requires-clause-few : goal.replacement-requires-clause-few
replacement-requires-clause-few c =
    let o = c.args.self.now in
    let k = c.in_ok-newest.newest in
    let e : length o.hand.held - 1 ≡ c.in_ok-newest.newest = omega (arith, c.len.ensures, c.in_ok-newest.ensures) in
    let b : c.in_ok-newest.newest < length o.hand.held = omega (arith, c.len.ensures, c.in_ok-newest.ensures) in
    let h = held_at o.hand.held c.in_ok-newest.newest in
    let same : c.clause-clause.result.now ≡ h.clause = c.clause-clause.ensures in
    let l = c.in_ok-first.field-0.now in
    let m = c.in_ok-second.field-0.now in
    let first_in : Contains h.clause c.in_ok-first.field-0.now = subst (λ x. Contains x l) same (subst (Contains c.clause-clause.result.now) (sym c.in_ok-first.ensures.lookup.1) (Contains-get_or c.clause-clause.result.now c.watched-watched.result.first l c.in_ok-first.ensures.lookup.3.0)) in
    let second_in : Contains h.clause c.in_ok-second.field-0.now = subst (λ x. Contains x m) same (subst (Contains c.clause-clause.result.now) (sym c.in_ok-second.ensures.lookup.1) (Contains-get_or c.clause-clause.result.now c.watched-watched.result.second m c.in_ok-second.ensures.lookup.3.0)) in
    let apart : AreAlike h.clause → ⊥ = λ a. eqb-false (code_of l) (code_of m) (sym c.eq.ensures ∙ c.if-eq.false) (ap code_of (a l m first_in second_in)) in
    subst (λ x. length x ≤ 4294967295) (sym same) (apart_few o k c.requires b apart)

pub returns : goal.returns
returns c =
    let o = c.args.self.now in
    let k = c.in_ok-newest.newest in
    let e : length o.hand.held - 1 ≡ c.in_ok-newest.newest = omega (arith, c.len.ensures, c.in_ok-newest.ensures) in
    let b : c.in_ok-newest.newest < length o.hand.held = omega (arith, c.len.ensures, c.in_ok-newest.ensures) in
    let h = held_at o.hand.held c.in_ok-newest.newest in
    let same : c.clause-clause.result.now ≡ h.clause = c.clause-clause.ensures in
    let l = c.in_ok-first.field-0.now in
    let m = c.in_ok-second.field-0.now in
    let first_in : Contains h.clause c.in_ok-first.field-0.now = subst (λ x. Contains x l) same (subst (Contains c.clause-clause.result.now) (sym c.in_ok-first.ensures.lookup.1) (Contains-get_or c.clause-clause.result.now c.watched-watched.result.first l c.in_ok-first.ensures.lookup.3.0)) in
    let second_in : Contains h.clause c.in_ok-second.field-0.now = subst (λ x. Contains x m) same (subst (Contains c.clause-clause.result.now) (sym c.in_ok-second.ensures.lookup.1) (Contains-get_or c.clause-clause.result.now c.watched-watched.result.second m c.in_ok-second.ensures.lookup.3.0)) in
    let apart : AreAlike h.clause → ⊥ = λ a. eqb-false (code_of l) (code_of m) (sym c.eq.ensures ∙ c.if-eq.false) (ap code_of (a l m first_in second_in)) in
    let one : l ≡ first_of h = literal_is c.clause-clause.result.now h.clause c.watched-watched.result.first l same (omega (arith, c.in_ok-first.ensures.lookup.3.0, ap length same)) c.in_ok-first.ensures.lookup.1 ∙ ap (literal_at h.clause) c.watched-watched.ensures.first in
    let two : m ≡ second_of h = literal_is c.clause-clause.result.now h.clause c.watched-watched.result.second m same (omega (arith, c.in_ok-second.ensures.lookup.3.0, ap length same)) c.in_ok-second.ensures.lookup.1 ∙ ap (literal_at h.clause) c.watched-watched.ensures.second in
    let rest = subst (λ x. All (λ (n : Literal). (n ≡ l) ⊎ Contains (lits o.trail.entries) (negated n)) x) same (no_other o.trail.entries c.clause-clause.result.now l c.replacement.result (sym c.is_some.ensures ∙ c.if-is_some.false) c.replacement.ensures) in
    asserted_at o k l m c.level.result e b one two apart (record { member = first_in; others = rest }) c.level.ensures (c.if-level-depth.false ∙ c.depth.ensures)
