use Rattle.std.proofs.Common.{◌<◌, ◌+◌, sym, subst, arith, length}
use Rattle.std.specs.Prelude.{All}
use Rattle.rr_watch.specs.Watches.{State}
use Rattle.rr_watch_lists.proofs.NumberLaws.{numbered_below}
use Rattle.rr_proof_tests.proofs.watch.begin.Goals as goal

pub returns : goal.returns
returns c = subst (λ (s : State). All (λ n. n.id < length c.args.formula.now.clauses + 1) s.clauses) (sym c.in_ok-new.ensures) (numbered_below 1 (length c.args.formula.now.clauses + 1) c.args.formula.now.clauses (omega arith))
