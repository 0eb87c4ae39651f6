use Rattle.std.proofs.Common.{get_or, refl}
use Rattle.rr_lex.specs.Table.{keyword_slots}
use Rattle.rr_lex.proofs.Places.{keyword_place}
use Rattle.rr_lex.proofs.words.keyword_at.Goals as goal

pub returns-else-is_empty-clause-place : goal.returns-else-is_empty-clause-place
returns-else-is_empty-clause-place c = keyword_place c.args.text.now c.keyword_hash.result (get_or keyword_slots c.keyword_hash.result 0) c.placed.result c.keyword_hash.ensures.hash refl c.placed.ensures.place
