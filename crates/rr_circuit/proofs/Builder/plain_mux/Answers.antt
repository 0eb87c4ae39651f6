use Rattle.std.proofs.Common.{sym, ◌∙◌, ap}
use Rattle.std.proofs.lemmas.Result.{IfOk-weaker}
use Rattle.rr_circuit.specs.Values.{wire_value}
use Rattle.rr_circuit.proofs.Netlists.{wire_value-flip}
use Rattle.rr_circuit.proofs.Folds.{implied, chosen-or, chosen-and, other-or, other-and, chosen-xor}
use Rattle.rr_circuit.proofs.Builder.plain_mux.Goals as goal

pub returns-then-yes-no-2-clause-value : goal.returns-then-yes-no-2-clause-value
returns-then-yes-no-2-clause-value c = IfOk-weaker c.xor.result _ _ (λ w v env.
    v env ∙ chosen-xor _ _ _ _ (c.not-not_test.ensures.value env) (ap (λ k. wire_value c.args.self.now env (record { 0 = k })) c.if-yes-no-2.true ∙ wire_value-flip _ env c.args.no)) c.xor.ensures.value

pub returns-then-is_implied-clause-value : goal.returns-then-is_implied-clause-value
returns-then-is_implied-clause-value c = IfOk-weaker c.or.result _ _ (λ w v env.
    v env ∙ chosen-or _ _ _ (implied _ env _ _ (sym c.is_implied.ensures ∙ c.if-is_implied.true))) c.or.ensures.value

pub returns-then-is_implied-2-clause-value : goal.returns-then-is_implied-2-clause-value
returns-then-is_implied-2-clause-value c = IfOk-weaker c.and.result _ _ (λ w v env.
    v env ∙ chosen-and _ _ _ _ _ (c.not.ensures.value env) (c.not-not_test.ensures.value env) (implied _ env _ _ (sym c.is_implied-2.ensures ∙ c.if-is_implied-2.true))) c.and.ensures.value

pub returns-then-is_implied-3-clause-value : goal.returns-then-is_implied-3-clause-value
returns-then-is_implied-3-clause-value c = IfOk-weaker c.or-then-is_implied-3.result _ _ (λ w v env.
    v env ∙ other-or _ _ _ _ (c.not-not_test.ensures.value env) (implied _ env _ _ (sym c.is_implied-3.ensures ∙ c.if-is_implied-3.true))) c.or-then-is_implied-3.ensures.value

pub returns-then-is_implied-4-clause-value : goal.returns-then-is_implied-4-clause-value
returns-then-is_implied-4-clause-value c = IfOk-weaker c.and-then-is_implied-4.result _ _ (λ w v env.
    v env ∙ other-and _ _ _ _ _ (c.not-2.ensures.value env) (c.not-not_test.ensures.value env) (implied _ env _ _ (sym c.is_implied-4.ensures ∙ c.if-is_implied-4.true))) c.and-then-is_implied-4.ensures.value
