use Rattle.std.proofs.Common.{◌≡◌, ◌∙◌, sym, fold, None, inr}
use Rattle.rr_expr.specs.Scopes.{range_width}
use Rattle.rr_flat.specs.Faults.{sooner}
use Rattle.rr_syntax.specs.View.{plain_declarator}
use Rattle.rr_declarations.specs.Declarations.{new_faults}
use Rattle.rr_declarations.specs.View.{Listing, plain_declarations}
use Rattle.rr_declarations.proofs.Steps.{refused}
use Rattle.rr_declarations.proofs.Listings.{new_found, new_refused, new_many, new_counted}
use Rattle.rr_declarations.proofs.declare.Declarations.declare_new.Goals as goal

pub returns-in_err-start-clause-value : goal.returns-in_err-start-clause-value
unfolding plain_declarator
returns-in_err-start-clause-value c =
    let n = plain_declarator c.args.name.now in
    let d : Listing = record { instance = c.self.inside.instance; names = c.self.inside.names; list = c.self.inside.list.items; bits = c.self.inside.bits } in
    let first = rw (c.note_new-found.ensures.all, c.bounds_of-bounds.ensures.value, c.starting.ensures) at c.in_err-start.ensures.fault in
    refused c.from_residual.result _ _ c.in_err-start.field-0.0 c.from_residual.ensures.1
    (inr (rw (← c.self.view_is) (new_refused c.args.brackets.now c.args.known.now c.args.one.now n (plain_declarations d) c.in_err-start.field-0.0 (sym (new_found c.args.brackets.now c.args.known.now c.args.one.now n (plain_declarations d)) ∙ first))))

pub returns-in_err-words-clause-value : goal.returns-in_err-words-clause-value
unfolding plain_declarator
returns-in_err-words-clause-value c =
    let n = plain_declarator c.args.name.now in
    let d : Listing = record { instance = c.self.inside.instance; names = c.self.inside.names; list = c.self.inside.list.items; bits = c.self.inside.bits } in
    let none = rw (c.note_new-found.ensures.all, c.bounds_of-bounds.ensures.value, c.starting.ensures) at c.in_ok-start.ensures.none in
    let many = rw c.bounds_of-bounds.ensures.value at c.in_err-words.ensures.fault in
    refused c.from_residual-in_err-words.result _ _ c.in_err-words.field-0.0 c.from_residual-in_err-words.ensures.1
    (inr (rw (← c.self.view_is) (new_many c.args.brackets.now c.args.known.now c.args.one.now n (plain_declarations d) c.in_err-words.field-0.0 (sym (new_found c.args.brackets.now c.args.known.now c.args.one.now n (plain_declarations d)) ∙ none) many)))

pub returns-clause-value : goal.returns-clause-value
unfolding plain_declarator
returns-clause-value c =
    let n = plain_declarator c.args.name.now in
    let d : Listing = record { instance = c.self.inside.instance; names = c.self.inside.names; list = c.self.inside.list.items; bits = c.self.inside.bits } in
    let none = rw (c.note_new-found.ensures.all, c.bounds_of-bounds.ensures.value, c.starting.ensures) at c.in_ok-start.ensures.none in
    let few = rw c.bounds_of-bounds.ensures.value at c.in_ok-words.ensures.none in
    let words = rw c.bounds_of-bounds.ensures.value at c.in_ok-words.ensures.value in
    let start = rw (c.range_width-width.ensures.value, c.starting.ensures) at c.in_ok-start.ensures.value in
    let is = new_counted c.args.brackets.now c.args.known.now c.args.one.now n (plain_declarations d) (sym (new_found c.args.brackets.now c.args.known.now c.args.one.now n (plain_declarations d)) ∙ none) few in
    rw (← c.self.view_is, is, ← words, ← start) (rw (← c.self.view_is) at c.append.ensures.value)
