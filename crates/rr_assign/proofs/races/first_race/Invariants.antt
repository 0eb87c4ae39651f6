use Rattle.std.proofs.Common.{◌≡◌, map, drop}
use Rattle.rr_flat.specs.View.{plain_block, plain_flat}
use Rattle.rr_text_names.specs.Firsts.{earliest}
use Rattle.rr_assign.specs.Races.{races, races_from, writers_from}
use Rattle.rr_assign.proofs.races.first_race.Given as goal

abbrev pub invariant-loop-number : goal.invariant-loop-number
invariant-loop-number l =
    earliest (races_from (plain_flat l.flat) (writers_from (plain_flat l.flat) 0 (plain_flat l.flat).clocked) l.number (map plain_block (drop l.number l.blocks))) ≡ earliest (races (plain_flat l.flat))
