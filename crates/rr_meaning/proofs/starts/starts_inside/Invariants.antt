use Rattle.std.proofs.Common.{◌≡◌, length, take}
use Rattle.rr_expr.specs.Scopes.{env_of}
use Rattle.rr_flat.specs.View.{plain_flat}
use Rattle.rr_cycle.specs.Cycles.{beginning}
use Rattle.rr_meaning.proofs.Rows.{Inside}
use Rattle.rr_meaning.proofs.starts.starts_inside.Given as goal

abbrev pub invariant-loop-id : goal.invariant-loop-id
invariant-loop-id l = record {
  env : Inside (take l.id-index l.id-items) (beginning (plain_flat l.fn.flat)) (env_of l.starts.items);
  count : length l.starts.items ≡ length l.fn.flat.signals;
}
