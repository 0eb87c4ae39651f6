use Rattle.std.proofs.Common.{◌∙◌, sym, refl, arith}
use Rattle.rr_declarations.proofs.HeadLemmas.{named_next}
use Rattle.rr_declarations.proofs.JoinedSignals.{named_more, named_done, before_none, next_id, id_room}
use Rattle.rr_declarations.proofs.head.name_signals.Goals as goal

pub loop-declared-init : goal.loop-declared-init
loop-declared-init c = record { place = omega (arith, before_none c.args.list.now); value = refl; sound = λ h. h }

pub loop-declared-preserved : goal.loop-declared-preserved
loop-declared-preserved c = record {
  place = next_id c.args.base c.loop-declared.id c.word_count-id.result c.loop-declared.declared-index c.args.list.now _ c.loop-declared-test.true c.loop-declared.invariant.place c.word_count-id.ensures;
  value = rw (c.in_ok-put.ensures.added, c.words_entity-entity.ensures, c.word_count-id.ensures) (named_more c.args.list.now c.loop-declared.declared-index _ c.loop-declared.id c.loop-declared.names c.loop-declared-test.true) ∙ c.loop-declared.invariant.value;
  sound = λ h. rw (c.in_ok-put.ensures.added, c.words_entity-entity.ensures) (named_next c.args.base c.args.list.now c.loop-declared.declared-index _ c.loop-declared.id c.loop-declared.names c.loop-declared-test.true (c.requires.words c.loop-declared.declared-index _ c.loop-declared-test.true) c.loop-declared.invariant.place (c.loop-declared.invariant.sound h));
}

pub overflow_add-id : goal.overflow_add-id
overflow_add-id c =
    let room = id_room c.args.base c.loop-declared.id c.word_count-id.result c.loop-declared.declared-index c.args.list.now _ c.loop-declared-test.true c.loop-declared.invariant.place c.word_count-id.ensures in
    omega (arith, room, c.requires.few)

pub returns-clause-value : goal.returns-clause-value
returns-clause-value c = sym (named_done c.args.list.now c.loop-declared.declared-index c.loop-declared.id c.loop-declared.names c.loop-declared-test.false) ∙ c.loop-declared.invariant.value
