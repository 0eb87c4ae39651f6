use Rattle.std.proofs.Common.{◌≡◌, refl, arith, length}
use Rattle.std.specs.Prelude.{vec_capacity}
use Rattle.std.proofs.lemmas.List.{length-set, length_push}
use Rattle.rr_cnf.specs.Clauses.{negated}
use Rattle.rr_trail.specs.declared.assignment.Variable.{Variable}
use Rattle.rr_trail.proofs.TableLaws.{IsTables-push, length_entries, open_in, pushed, pushed_room, within_in}
use Rattle.rr_trail.proofs.assignment.Assignment.push.Goals as goal

pub overflow_cast-place : goal.overflow_cast-place
overflow_cast-place c =
    let o = c.self.inside in
    let l = c.args.lit in
    let at = open_in o.variables.items o.lits.items _ c.self.view_is in
    let r = pushed_room o.truths.items o.variables.items o.lits.items (vec_capacity o.lits) l c.self.invariant (within_in o.variables.items o.lits.items _ c.self.view_is l c.requires.within) (at l c.requires.not_true) (at (negated l) c.requires.not_false) in
    omega (arith, r, c.self.invariant.most, o.lits.ok.0)

pub push_reserved-requires : goal.push_reserved-requires
push_reserved-requires c =
    let o = c.self.inside in
    let l = c.args.lit in
    let at = open_in o.variables.items o.lits.items _ c.self.view_is in
    let r = pushed_room o.truths.items o.variables.items o.lits.items (vec_capacity o.lits) l c.self.invariant (within_in o.variables.items o.lits.items _ c.self.view_is l c.requires.within) (at l c.requires.not_true) (at (negated l) c.requires.not_false) in
    omega (arith, r, c.self.invariant.room, o.lits.ok.0)

pub invariant_of-self : goal.invariant_of-self
invariant_of-self c =
    let o = c.self.inside in
    let l = c.args.lit in
    let at = open_in o.variables.items o.lits.items _ c.self.view_is in
    let x : Variable = record { level = c.args.level; place = c.len-place.result; reason = c.args.reason } in
    let place : c.len-place.result ≡ length o.lits.items = omega (arith, o.lits.ok.0, c.len-place.ensures) in
    let w = IsTables-push o.truths.items o.variables.items o.lits.items (vec_capacity o.lits) l c.self.invariant (within_in o.variables.items o.lits.items _ c.self.view_is l c.requires.within) (at l c.requires.not_true) (at (negated l) c.requires.not_false) x (vec_capacity c.push_reserved.new.self) place (omega (arith, c.push_reserved.ensures.capacity)) in
    rw (c.var.ensures.value, c.code.ensures, c.push_reserved.ensures.items) w

pub returns-clause-state : goal.returns-clause-state
returns-clause-state c =
    let o = c.self.inside in
    let l = c.args.lit in
    let at = open_in o.variables.items o.lits.items _ c.self.view_is in
    let x : Variable = record { level = c.args.level; place = c.len-place.result; reason = c.args.reason } in
    let e = pushed o.truths.items o.variables.items o.lits.items (vec_capacity o.lits) l c.self.invariant (within_in o.variables.items o.lits.items _ c.self.view_is l c.requires.within) (at l c.requires.not_true) (at (negated l) c.requires.not_false) x in
    rw (← c.self.view_is) (rw (c.var.ensures.value, c.push_reserved.ensures.items, e, length-set) refl)

pub returns-clause-room : goal.returns-clause-room
returns-clause-room c =
    let o = c.self.inside in
    let l = c.args.lit in
    let at = open_in o.variables.items o.lits.items _ c.self.view_is in
    let r = pushed_room o.truths.items o.variables.items o.lits.items (vec_capacity o.lits) l c.self.invariant (within_in o.variables.items o.lits.items _ c.self.view_is l c.requires.within) (at l c.requires.not_true) (at (negated l) c.requires.not_false) in
    rw (c.var.ensures.value, c.push_reserved.ensures.items, length_entries, length-set, length_push) r
