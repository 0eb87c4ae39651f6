use Rattle.std.proofs.Common.{◌∙◌, sym, refl}
use Rattle.rr_syntax.specs.View.{plain, plain_value}
use Rattle.rr_starts.specs.Starts.{constant_faults}
use Rattle.rr_declarations.proofs.Firsts.{none_before, none_here, constant_clear}
use Rattle.rr_declarations.proofs.starts.start_or.Goals as goal

pub start_value-requires-clause-high : goal.start_value-requires-clause-high
start_value-requires-clause-high c = c.requires.high (none_before c.args.found (constant_faults c.args.known.now (plain c.in-Some.expr.now)) (sym c.note_constant.ensures ∙ c.in-None-note_constant.is))

pub returns-in-None-note_constant-clause-narrow : goal.returns-in-None-note_constant-clause-narrow
returns-in-None-note_constant-clause-narrow c =
    let e = sym c.note_constant.ensures ∙ c.in-None-note_constant.is in
    let is = c.start_value.ensures.value ∙ constant_clear c.args.known.now c.args.width (plain c.in-Some.expr.now) (none_here c.args.found (constant_faults c.args.known.now (plain c.in-Some.expr.now)) e) in
    rw is (c.requires.high (none_before c.args.found (constant_faults c.args.known.now (plain c.in-Some.expr.now)) e))

pub returns-in-None-note_constant-clause-value : goal.returns-in-None-note_constant-clause-value
unfolding plain_value
returns-in-None-note_constant-clause-value c =
    let e = sym c.note_constant.ensures ∙ c.in-None-note_constant.is in
    let is = c.start_value.ensures.value ∙ constant_clear c.args.known.now c.args.width (plain c.in-Some.expr.now) (none_here c.args.found (constant_faults c.args.known.now (plain c.in-Some.expr.now)) e) in
    rw (is, c.in-Some.is) refl

pub returns-in-None-note_constant-clause-fault : goal.returns-in-None-note_constant-clause-fault
returns-in-None-note_constant-clause-fault c =
    let e = sym c.note_constant.ensures ∙ c.in-None-note_constant.is in
    let is = c.start_value.ensures.value ∙ constant_clear c.args.known.now c.args.width (plain c.in-Some.expr.now) (none_here c.args.found (constant_faults c.args.known.now (plain c.in-Some.expr.now)) e) in
    rw is tt
