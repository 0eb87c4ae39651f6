use Rattle.std.proofs.Common.{inr}
use Rattle.rr_syntax.specs.View.{plain_events, plain_statement}
use Rattle.rr_declarations.proofs.Steps.{refused}
use Rattle.rr_unfold.specs.View.{plain_counts}
use Rattle.rr_flatten.specs.Kept.{plain_walked}
use Rattle.rr_flatten.proofs.Blocks.{BlockNotes, always_uncounted, always_refused, always_made, block_stands}
use Rattle.rr_flatten.proofs.Grown.{same_loops, same_twice}
use Rattle.rr_flatten.proofs.items.always.Goals as goal

pub names_of-names-requires : goal.names_of-names-requires
names_of-names-requires c = rw c.in_ok-made.ensures.same.scopes c.requires.there

pub loops_of-loops-requires-clause-there : goal.loops_of-loops-requires-clause-there
loops_of-loops-requires-clause-there c = rw c.in_ok-made.ensures.same.scopes c.requires.there

pub loops_of-loops-requires-clause-loops : goal.loops_of-loops-requires-clause-loops
loops_of-loops-requires-clause-loops c = same_loops _ _ c.requires.loops c.in_ok-made.ensures.same

pub add_block-requires-clause-there : goal.add_block-requires-clause-there
add_block-requires-clause-there c = rw c.in_ok-made.ensures.same.scopes c.requires.there

pub add_block-requires-clause-body : goal.add_block-requires-clause-body
add_block-requires-clause-body c =
    let made = rw (← c.in_ok-made.ensures.same.scopes) at c.in_ok-made.ensures.made in
    let notes : BlockNotes c.loops_of-loops.result.now c.names_of-names.result.now (plain_events c.args.events.now) (plain_statement c.args.body.now) (plain_statement c.in_ok-made.made.now) c.note_found-found.result =
    record { x = _; y = _; k = _; text = c.in_ok-found.ensures; listed = c.note_events-found.ensures; turns = c.note_statement.ensures; all = c.note_found-found.ensures } in
    block_stands _ _ _ _ _ _ _ c.names_of-names.ensures.value c.requires.formed c.requires.fit made notes c.in_default.is

pub returns-in_err-made-clause-value : goal.returns-in_err-made-clause-value
returns-in_err-made-clause-value c =
    refused c.from_residual.result _ _ c.in_err-made.field-0.0 c.from_residual.ensures.1
    (always_uncounted c.args.number (plain_events c.args.events.now) (plain_statement c.args.body.now) c.args.token (plain_walked c.args.walked.now) c.in_err-made.field-0.0 c.in_err-made.ensures.value)

pub returns-in-Some-clause-value : goal.returns-in-Some-clause-value
returns-in-Some-clause-value c =
    let w = plain_walked c.args.walked.now in
    let i = c.args.number in
    let loops = rw c.in_ok-made.ensures.same.loops at c.loops_of-loops.ensures in
    let names = rw c.in_ok-made.ensures.same.scopes at c.names_of-names.ensures.value in
    let notes : BlockNotes c.loops_of-loops.result.now c.names_of-names.result.now (plain_events c.args.events.now) (plain_statement c.args.body.now) (plain_statement c.in_ok-made.made.now) c.note_found-found.result =
    record { x = _; y = _; k = _; text = c.in_ok-found.ensures; listed = c.note_events-found.ensures; turns = c.note_statement.ensures; all = c.note_found-found.ensures } in
    inr (always_refused i (plain_events c.args.events.now) (plain_statement c.args.body.now) (plain_statement c.in_ok-made.made.now) c.args.token w (plain_counts c.without_loops.new.walked.counts)
    c.loops_of-loops.result.now c.names_of-names.result.now c.note_found-found.result c.in-Some.fault loops names c.in_ok-made.ensures.value c.in_ok-made.ensures.made notes c.in-Some.is)

pub returns-clause-value : goal.returns-clause-value
returns-clause-value c =
    let w = plain_walked c.args.walked.now in
    let i = c.args.number in
    let loops = rw c.in_ok-made.ensures.same.loops at c.loops_of-loops.ensures in
    let names = rw c.in_ok-made.ensures.same.scopes at c.names_of-names.ensures.value in
    let notes : BlockNotes c.loops_of-loops.result.now c.names_of-names.result.now (plain_events c.args.events.now) (plain_statement c.args.body.now) (plain_statement c.in_ok-made.made.now) c.note_found-found.result =
    record { x = _; y = _; k = _; text = c.in_ok-found.ensures; listed = c.note_events-found.ensures; turns = c.note_statement.ensures; all = c.note_found-found.ensures } in
    always_made i (plain_events c.args.events.now) (plain_statement c.args.body.now) (plain_statement c.in_ok-made.made.now) c.args.token w (plain_walked c.without_loops.new.walked) (plain_walked c.add_block.new.walked)
    (plain_counts c.without_loops.new.walked.counts) c.loops_of-loops.result.now c.names_of-names.result.now c.note_found-found.result loops names c.in_ok-made.ensures.value c.in_ok-made.ensures.made notes c.in_default.is
    c.in_ok-made.ensures.rest c.in_ok-add_block.ensures.value

pub returns-clause-same : goal.returns-clause-same
returns-clause-same c = same_twice _ _ _ c.in_ok-made.ensures.same c.in_ok-add_block.ensures.same
