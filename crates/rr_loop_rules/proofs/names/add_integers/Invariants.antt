use Rattle.std.proofs.Common.{◌≡◌, drop, fold, map}
use Rattle.rr_loop_rules.specs.Rules.{with_integer}
use Rattle.rr_loop_rules.proofs.names.add_integers.Given as goal

abbrev pub invariant-loop-integer : goal.invariant-loop-integer
invariant-loop-integer l = fold (with_integer l.loops) l.names (map (λ n. n.name.now) (drop l.integer-index l.list)) ≡ fold (with_integer l.loops) l.fn.names (map (λ n. n.name.now) l.list)
