use Rattle.std.proofs.Common.{◌∙◌, sym, arith}
use Rattle.rr_flat.specs.View.{plain_flat}
use Rattle.rr_assign.specs.Races.{writer_table}
use Rattle.rr_assign.proofs.Racing.{race_none, race_hit, race_miss}
use Rattle.rr_assign.proofs.races.race_of.Goals as goal

pub returns-in-None : goal.returns-in-None
returns-in-None c ws h = race_none (plain_flat c.args.flat.now) ws (writer_table c.args.writers.now) c.args.block c.args.scope c.args.named.now h (sym c.in-None.is ∙ c.variable_named.ensures.value)

pub returns-then-is_raced : goal.returns-then-is_raced
returns-then-is_raced c ws h =
    race_hit (plain_flat c.args.flat.now) ws c.args.writers.now c.args.block c.args.scope c.in-Some.id _ c.args.named.now h (sym c.in-Some.is ∙ c.variable_named.ensures.value) (omega (arith, c.in-Some.ensures.inside, c.requires.size)) (sym c.is_raced.ensures ∙ c.if-is_raced.true)

pub returns-else-is_raced : goal.returns-else-is_raced
returns-else-is_raced c ws h =
    race_miss (plain_flat c.args.flat.now) ws c.args.writers.now c.args.block c.args.scope c.in-Some.id _ c.args.named.now h (sym c.in-Some.is ∙ c.variable_named.ensures.value) (omega (arith, c.in-Some.ensures.inside, c.requires.size)) (sym c.is_raced.ensures ∙ c.if-is_raced.false)
