use Rattle.std.proofs.Common.{inr}
use Rattle.rr_syntax.specs.View.{plain_declarator}
use Rattle.rr_declarations.proofs.Steps.{refused}
use Rattle.rr_declarations.proofs.Listings.{again_refused, again_fits}
use Rattle.rr_declarations.proofs.declare.Declarations.declare_again.Goals as goal

pub returns-in_err-start-clause-value : goal.returns-in_err-start-clause-value
unfolding plain_declarator
returns-in_err-start-clause-value c =
    let there = rw (← c.self.view_is) at c.requires in
    let first = rw (c.note_if-found.ensures, c.starting-value.ensures) at c.in_err-start.ensures.fault in
    refused c.from_residual.result _ _ c.in_err-start.field-0.0 c.from_residual.ensures.1
    (inr (rw (← c.self.view_is) (again_refused c.args.known.now c.args.one.now (plain_declarator c.args.name.now) c.args.place (record { instance = c.self.inside.instance; names = c.self.inside.names; list = c.self.inside.list.items; bits = c.self.inside.bits }) c.index.result.now c.is_same_range-differs.result c.in_err-start.field-0.0 there c.index.ensures c.is_same_range-differs.ensures first)))

pub returns-clause-value : goal.returns-clause-value
unfolding plain_declarator
returns-clause-value c =
    let there = rw (← c.self.view_is) at c.requires in
    let none = rw (c.note_if-found.ensures, c.starting-value.ensures) at c.in_ok-start.ensures.none in
    let start = rw c.starting-value.ensures at c.in_ok-start.ensures.value in
    rw (← c.self.view_is) (again_fits c.args.known.now c.args.one.now (plain_declarator c.args.name.now) c.args.place (record { instance = c.self.inside.instance; names = c.self.inside.names; list = c.self.inside.list.items; bits = c.self.inside.bits }) c.index.result.now c.is_same_range-differs.result c.is_signed.result c.in_ok-start.start there c.index.ensures c.is_same_range-differs.ensures none c.is_signed.ensures start)
