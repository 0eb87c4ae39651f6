use Rattle.std.proofs.Common.{◌≡◌, ◌∙◌, ℕ, sym, ap, None}
use Rattle.rr_elaborate.proofs.Once.{no_refusal}
use Rattle.rr_elaborate.specs.declared.design.DesignFault.TheVariants.{Memory}
use Rattle.rr_run.specs.Files.{placed}
use Rattle.rr_run.specs.Refusals.{plain_refusal}
use Rattle.rr_lint_file.proofs.read.without_design.Goals as goal

pub returns-in-Refused : goal.returns-in-Refused
returns-in-Refused c = λ file text top size taken refuses.
    let some : c.args.fault ≡ Memory → ⊥ = c.is_memory.ensures c.if-is_memory.false in
    let told : plain_refusal c.placed.result ≡ placed c.args.expanded.now.origins.items c.args.size (plain_refusal c.in-Refused.refusal) = c.placed.ensures in
    record {
      text = text;
      origins = c.args.expanded.now.origins.items;
      expansion = taken;
      none = λ tokens flat d. some (no_refusal text top tokens flat c.args.fault d refuses);
      found = plain_refusal c.in-Refused.refusal;
      refused = rw c.in-Refused.is at c.of_design.ensures text top None refuses;
      told = told ∙ ap (λ (n : ℕ). placed c.args.expanded.now.origins.items n (plain_refusal c.in-Refused.refusal)) (sym size);
    }
