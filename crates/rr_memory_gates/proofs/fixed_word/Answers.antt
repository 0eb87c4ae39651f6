use Rattle.std.proofs.Common.{ap, ℕ, Option}
use Rattle.rr_expr.specs.Memories.{word_signal}
use Rattle.rr_expr.specs.Scopes.{env_of_lists}
use Rattle.rr_word_gates.proofs.Carrying.{Carries-same}
use Rattle.rr_blast_sites.specs.Signals.{signal_values}
use Rattle.rr_memory_gates.specs.Reading.{word_value}
use Rattle.rr_memory_gates.proofs.fixed_word.Goals as goal

pub returns-in_ok-out-in-Some-clause-value : goal.returns-in_ok-out-in-Some-clause-value
returns-in_ok-out-in-Some-clause-value c = Carries-same _ _ _ _ c.in_ok-out-in-Some.ensures.value
    (λ input. ap (λ (o : Option ℕ). word_value (env_of_lists (signal_values c.args.b.now input c.args.signals.now)) c.args.memory.width (word_signal c.args.memory.first o)) c.in-Some.ensures)

pub returns-in_ok-out-in-None-clause-value : goal.returns-in_ok-out-in-None-clause-value
returns-in_ok-out-in-None-clause-value c = Carries-same _ _ _ _ c.in_ok-out-in-None.ensures.value
    (λ input. ap (λ (o : Option ℕ). word_value (env_of_lists (signal_values c.args.b.now input c.args.signals.now)) c.args.memory.width (word_signal c.args.memory.first o)) c.in-None.ensures)
