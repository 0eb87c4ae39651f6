use Rattle.std.proofs.Common.{◌∙◌, sym, ap, ◌+◌, subst, ℕ}
use Rattle.rr_syntax.specs.View.{plain_module}
use Rattle.rr_declarations.specs.Sound.{ArePlaces}
use Rattle.rr_declarations.proofs.Steps.{each_more, each_stops, each_done, refused}
use Rattle.rr_flatten.specs.Tables.{add_module}
use Rattle.rr_flatten.proofs.tables.module_table.Goals as goal

pub loop-own-preserved : goal.loop-own-preserved
loop-own-preserved c = record {
  walked = each_more plain_module add_module c.args.modules.now c.loop-own.own-index _ c.loop-own.table c.add_module.new.table c.loop-own-test.true c.in_ok-add_module.ensures.value ∙ c.loop-own.invariant.walked;
  place = ap (λ k. k + 1) c.loop-own.invariant.place;
  grown = c.in_ok-add_module.ensures.grown ∙ ap (λ k. k + 1) c.loop-own.invariant.grown;
  places =
      let at = c.loop-own.invariant.place in
      let P : ℕ → Type 0 = λ k. ArePlaces (k + 1) c.add_module.new.table in
      let Q : ℕ → Type 0 = λ k. ArePlaces k c.loop-own.table in
      subst P at (c.in_ok-add_module.ensures.places (subst Q (sym at) c.loop-own.invariant.places));
}

pub returns-in_err-add_module-clause-value : goal.returns-in_err-add_module-clause-value
returns-in_err-add_module-clause-value c =
    let h = each_stops plain_module add_module c.args.modules.now c.loop-own.own-index _ c.loop-own.table c.in_err-add_module.field-0.0 c.loop-own-test.true c.in_err-add_module.ensures.value in
    refused c.from_residual.result _ _ c.in_err-add_module.field-0.0 c.from_residual.ensures.1 (rw c.loop-own.invariant.walked at h)

pub returns-clause-value : goal.returns-clause-value
returns-clause-value c = sym c.loop-own.invariant.walked ∙ each_done _ _ _ _ _ c.loop-own-test.false
