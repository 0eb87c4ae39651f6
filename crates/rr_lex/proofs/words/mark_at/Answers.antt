use Rattle.std.proofs.Common.{get_or, refl}
use Rattle.rr_lex.specs.Table.{mark_slots}
use Rattle.rr_lex.proofs.Places.{mark_place}
use Rattle.rr_lex.proofs.words.mark_at.Goals as goal

pub returns-else-is_empty-clause-place : goal.returns-else-is_empty-clause-place
returns-else-is_empty-clause-place c = mark_place c.args.text.now c.mark_hash.result (get_or mark_slots c.mark_hash.result 0) c.placed.result c.mark_hash.ensures.hash refl c.placed.ensures.place
