use Rattle.std.proofs.Common.{◌∙◌, sym, ap, ◌+◌, map, None}
use Rattle.rr_syntax.specs.View.{plain_module}
use Rattle.rr_flatten.specs.Tables.{last_free}
use Rattle.rr_flatten.proofs.TableLemmas.{free_more, free_done, free_within}
use Rattle.rr_flatten.proofs.tables.last_free.Goals as goal

pub loop-own-preserved : goal.loop-own-preserved
loop-own-preserved c = record {
  walked = free_more c.in_ok-names.names c.loop-own.place c.args.modules.now c.loop-own.own-index _ c.loop-own.found c.later_free-found.result c.loop-own-test.true c.later_free-found.ensures ∙ c.loop-own.invariant.walked;
  place = ap (λ k. k + 1) c.loop-own.invariant.place;
  within = free_within _ c.loop-own.found c.later_free-found.result c.loop-own.place c.loop-own.own-index c.later_free-found.ensures c.loop-own.invariant.place c.loop-own.invariant.within;
}

pub returns-clause-value : goal.returns-clause-value
returns-clause-value c = sym (free_done c.in_ok-names.names c.loop-own.place c.args.modules.now c.loop-own.own-index c.loop-own.found c.loop-own-test.false) ∙ (c.loop-own.invariant.walked ∙ ap (λ n. last_free n 0 (map plain_module c.args.modules.now) None) c.in_ok-names.ensures)
