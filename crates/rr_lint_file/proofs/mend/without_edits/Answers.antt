use Rattle.std.proofs.Common.{◌≡◌, ◌∙◌, ℕ, sym, ap}
use Rattle.rr_elaborate.specs.Designs.{start_of}
use Rattle.rr_flat.specs.View.{plain_flat}
use Rattle.rr_lex.specs.Tokens.{lexemes}
use Rattle.rr_run.specs.declared.fault.Fault.TheVariants as fault
use Rattle.rr_run.specs.Files.{placed}
use Rattle.rr_run.specs.Refusals.{At}
use Rattle.rr_lint_laws.specs.Mended.{IsFirstWordLatch}
use Rattle.rr_lint_file.specs.View.{source_file}
use Rattle.rr_lint_file.proofs.mend.without_edits.Goals as goal

pub returns-in-Latch : goal.returns-in-Latch
returns-in-Latch c = λ file top size taken design targets labels h.
    let latch : IsFirstWordLatch (plain_flat c.args.read.now.design.flat) c.in-Latch.bit c.in-Latch.block = rw c.in-Latch.is at h in
    let origins = c.args.read.now.expanded.origins.items in
    let at : ℕ = start_of (lexemes c.args.read.now.design.tokens.now) c.in-Latch.block in
    record {
      read = source_file c.args.read.now;
      expansion = taken;
      flat = _;
      design = design;
      targets = targets;
      labels = labels;
      bit = c.in-Latch.bit;
      block = c.in-Latch.block;
      latch = latch;
      told = c.placed-refusal.ensures ∙ (ap (λ (n : ℕ). placed origins c.args.size (At fault.Latch n)) c.start_of-at.ensures ∙ ap (λ (n : ℕ). placed origins n (At fault.Latch at)) (sym size));
    }
