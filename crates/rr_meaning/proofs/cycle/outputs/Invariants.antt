use Rattle.std.proofs.Common.{◌≡◌, map, take}
use Rattle.rr_bits.specs.Words.{number}
use Rattle.rr_expr.specs.Scopes.{env_of}
use Rattle.rr_flat.specs.View.{plain_flat}
use Rattle.rr_cycle.specs.Cycles.{signal_value}
use Rattle.rr_meaning.proofs.cycle.outputs.Given as goal

abbrev pub invariant-loop-id : goal.invariant-loop-id
invariant-loop-id l = l.row.items ≡ map (λ id. number (signal_value (plain_flat l.fn.flat) id (env_of l.env.values.items))) (take l.id-index l.id-items)
