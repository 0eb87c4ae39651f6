use Rattle.std.proofs.Common.{◌≡◌, length}
use Rattle.rr_expr.specs.Scopes.{env_of}
use Rattle.rr_meaning.proofs.Rows.{Masked}
use Rattle.rr_meaning.proofs.cycle.mask.Given as goal

abbrev pub invariant-loop-place : goal.invariant-loop-place
invariant-loop-place l = record {
  env : Masked l.masks l.others (env_of l.fn.values.items) l.place (env_of l.values.items);
  count : length l.values.items ≡ length l.fn.values.items;
}
