use Rattle.std.proofs.Common.{ap, nat_eq}
use Rattle.indexmap.specs.IndexMap.{get}
use Rattle.rr_flat.specs.Targets.{is_memory}
use Rattle.rr_lint_names.proofs.KeptWords.{no_memory, none_word, some_word}
use Rattle.rr_lint_names.proofs.words.low_word.Goals as goal

pub returns-in-Memory-clause-some : goal.returns-in-Memory-clause-some
returns-in-Memory-clause-some c =
    some_word (get nat_eq c.args.lows.now) c.args.entity.now c.in-Memory.first c.in-Memory.low c.in-Memory.words c.range_width.result c.in-Memory.range c.in-Memory.signed c.low_from.result c.in-Memory.is c.range_width.ensures c.low_from.ensures.some

pub returns-in-Memory-clause-none : goal.returns-in-Memory-clause-none
returns-in-Memory-clause-none c =
    none_word (get nat_eq c.args.lows.now) c.args.entity.now c.in-Memory.first c.in-Memory.low c.in-Memory.words c.range_width.result c.in-Memory.range c.in-Memory.signed c.low_from.result c.in-Memory.is c.range_width.ensures c.low_from.ensures.none

pub returns-in-Signal-clause-none : goal.returns-in-Signal-clause-none
returns-in-Signal-clause-none c = no_memory (get nat_eq c.args.lows.now) c.args.entity.now (ap is_memory c.in-Signal.is)

pub returns-in-Constant-clause-none : goal.returns-in-Constant-clause-none
returns-in-Constant-clause-none c = no_memory (get nat_eq c.args.lows.now) c.args.entity.now (ap is_memory c.in-Constant.is)

pub returns-in-Instance-clause-none : goal.returns-in-Instance-clause-none
returns-in-Instance-clause-none c = no_memory (get nat_eq c.args.lows.now) c.args.entity.now (ap is_memory c.in-Instance.is)
