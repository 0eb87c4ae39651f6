use Rattle.std.proofs.Common.{◌≡◌, ℕ, List, Option, drop}
use Rattle.std.specs.Prelude.{flat_map}
use Rattle.rr_syntax.specs.View.{plain_identifier}
use Rattle.rr_flat.specs.View.{plain_flat}
use Rattle.rr_text_names.specs.Firsts.{earliest}
use Rattle.rr_assign.specs.Races.{HoldsWriters, race_of, writer_table}
use Rattle.rr_assign.proofs.races.first_race_of.Given as goal

abbrev pub invariant-loop-named : goal.invariant-loop-named
invariant-loop-named l =
    (ws : List (ℕ × Option ℕ)) → HoldsWriters ws (writer_table l.writers)
    → earliest (flat_map (λ n. race_of (plain_flat l.flat) ws l.block l.scope (plain_identifier n)) (drop l.named-index l.names)) ≡ earliest (flat_map (λ n. race_of (plain_flat l.flat) ws l.block l.scope (plain_identifier n)) l.names)
