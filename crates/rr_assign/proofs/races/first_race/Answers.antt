use Rattle.std.proofs.Common.{◌∙◌, sym, ap, subst, map, None}
use Rattle.rr_flat.specs.Lawful.{NoRace}
use Rattle.rr_flat.specs.View.{plain_block, plain_flat}
use Rattle.rr_text_names.specs.Firsts.{earliest}
use Rattle.rr_text_names.proofs.Walks.{first_none, first_some}
use Rattle.rr_assign.specs.Races.{HoldsWriters, races, races_from, writer_table, writers_from}
use Rattle.rr_assign.proofs.RaceLaw.{no_race, race_none}
use Rattle.rr_assign.proofs.Racing.{races_skip, races_hit, races_done}
use Rattle.rr_assign.proofs.races.first_race.Goals as goal

pub loop-number-init : goal.loop-number-init
loop-number-init c = ap (λ z. earliest (races_from (plain_flat c.args.flat.now) (writers_from (plain_flat c.args.flat.now) 0 (plain_flat c.args.flat.now).clocked) 0 (map plain_block z))) c.clocked_blocks-blocks.ensures.value

pub loop-number-preserved : goal.loop-number-preserved
loop-number-preserved c =
    races_skip (plain_flat c.args.flat.now) (writers_from (plain_flat c.args.flat.now) 0 (plain_flat c.args.flat.now).clocked) c.clocked_blocks-blocks.result.now c.loop-number.number _ c.in_ok-found.found c.loop-number-test.true
    (c.in_ok-found.ensures (writers_from (plain_flat c.args.flat.now) 0 (plain_flat c.args.flat.now).clocked) (subst (λ z. HoldsWriters (writers_from (plain_flat c.args.flat.now) 0 (plain_flat c.args.flat.now).clocked) (writer_table z)) (sym c.as_slice.ensures.value) c.in_ok-writers.ensures.held)) (sym c.is_some.ensures ∙ c.if-is_some.false) ∙ c.loop-number.invariant

pub returns-then-is_some-clause-first : goal.returns-then-is_some-clause-first
returns-then-is_some-clause-first c = races_hit (plain_flat c.args.flat.now) (writers_from (plain_flat c.args.flat.now) 0 (plain_flat c.args.flat.now).clocked) c.clocked_blocks-blocks.result.now c.loop-number.number _ c.in_ok-found.found c.loop-number-test.true
    (c.in_ok-found.ensures (writers_from (plain_flat c.args.flat.now) 0 (plain_flat c.args.flat.now).clocked) (subst (λ z. HoldsWriters (writers_from (plain_flat c.args.flat.now) 0 (plain_flat c.args.flat.now).clocked) (writer_table z)) (sym c.as_slice.ensures.value) c.in_ok-writers.ensures.held)) (sym c.is_some.ensures ∙ c.if-is_some.true) ∙ c.loop-number.invariant

pub returns-then-is_some-clause-none : goal.returns-then-is_some-clause-none
returns-then-is_some-clause-none c =
    first_none (NoRace (plain_flat c.args.flat.now)) (races (plain_flat c.args.flat.now)) c.in_ok-found.found (no_race (plain_flat c.args.flat.now)) (races_hit (plain_flat c.args.flat.now) (writers_from (plain_flat c.args.flat.now) 0 (plain_flat c.args.flat.now).clocked) c.clocked_blocks-blocks.result.now c.loop-number.number _ c.in_ok-found.found c.loop-number-test.true
    (c.in_ok-found.ensures (writers_from (plain_flat c.args.flat.now) 0 (plain_flat c.args.flat.now).clocked) (subst (λ z. HoldsWriters (writers_from (plain_flat c.args.flat.now) 0 (plain_flat c.args.flat.now).clocked) (writer_table z)) (sym c.as_slice.ensures.value) c.in_ok-writers.ensures.held)) (sym c.is_some.ensures ∙ c.if-is_some.true) ∙ c.loop-number.invariant)

pub returns-then-is_some-clause-some : goal.returns-then-is_some-clause-some
returns-then-is_some-clause-some c =
    first_some (NoRace (plain_flat c.args.flat.now)) (races (plain_flat c.args.flat.now)) c.in_ok-found.found (race_none (plain_flat c.args.flat.now)) (races_hit (plain_flat c.args.flat.now) (writers_from (plain_flat c.args.flat.now) 0 (plain_flat c.args.flat.now).clocked) c.clocked_blocks-blocks.result.now c.loop-number.number _ c.in_ok-found.found c.loop-number-test.true
    (c.in_ok-found.ensures (writers_from (plain_flat c.args.flat.now) 0 (plain_flat c.args.flat.now).clocked) (subst (λ z. HoldsWriters (writers_from (plain_flat c.args.flat.now) 0 (plain_flat c.args.flat.now).clocked) (writer_table z)) (sym c.as_slice.ensures.value) c.in_ok-writers.ensures.held)) (sym c.is_some.ensures ∙ c.if-is_some.true) ∙ c.loop-number.invariant)

pub returns-clause-first : goal.returns-clause-first
returns-clause-first c = races_done (plain_flat c.args.flat.now) (writers_from (plain_flat c.args.flat.now) 0 (plain_flat c.args.flat.now).clocked) c.clocked_blocks-blocks.result.now c.loop-number.number c.loop-number-test.false ∙ c.loop-number.invariant

pub returns-clause-none : goal.returns-clause-none
returns-clause-none c = first_none (NoRace (plain_flat c.args.flat.now)) (races (plain_flat c.args.flat.now)) None (no_race (plain_flat c.args.flat.now)) (races_done (plain_flat c.args.flat.now) (writers_from (plain_flat c.args.flat.now) 0 (plain_flat c.args.flat.now).clocked) c.clocked_blocks-blocks.result.now c.loop-number.number c.loop-number-test.false ∙ c.loop-number.invariant)
