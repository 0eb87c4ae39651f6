use Rattle.std.proofs.Common.{◌≡◌, ◌+◌, drop}
use Rattle.rr_declarations.specs.Heads.{joined, with_signals}
use Rattle.rr_flat.specs.Sound.{AreNamed}
use Rattle.rr_declarations.specs.View.{plain_list}
use Rattle.rr_declarations.proofs.JoinedSignals.{before}
use Rattle.rr_declarations.proofs.head.name_signals.Given as goal

abbrev pub invariant-loop-declared : goal.invariant-loop-declared
invariant-loop-declared l = record {
  place : l.id ≡ l.base + before l.list l.declared-index;
  value : with_signals l.id (plain_list (drop l.declared-index l.list)) l.names ≡ with_signals l.base (plain_list l.list) l.fn.names;
  sound : AreNamed l.base (joined (plain_list l.list)) l.fn.names → AreNamed l.base (joined (plain_list l.list)) l.names;
}
