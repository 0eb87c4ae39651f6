use Rattle.std.proofs.Common.{◌+◌, ◌*◌, ◌<◌, drop}
use Rattle.std.specs.Prelude.{All}
use Rattle.rr_derive.specs.Derive.{Names}
use Rattle.rr_derive.proofs.DeriveLaws.{Led}
use Rattle.rr_derive.proofs.check.follow.Given as goal

abbrev pub invariant-loop-hint : goal.invariant-loop-hint
invariant-loop-hint l = record {
  below : All (λ m. m < 2 * l.stamp + 2) l.marks;
  led : Led (Names l.formula.clauses l.earlier) l.stamp l.fn.marks l.marks l.hints (drop l.hint-index l.hints);
}
