use Rattle.std.proofs.Common.{◌≡◌, ◌++◌, ◌-◌, ◌≤◌, length, map, drop}
use Rattle.rr_syntax.specs.View.{plain_identifier, texts}
use Rattle.rr_guard.specs.Names.{first_names}
use Rattle.rr_guard.proofs.Before.{left}
use Rattle.rr_guard.proofs.candidates.first_before.Given as goal

abbrev pub invariant-loop-name : goal.invariant-loop-name
invariant-loop-name l = record {
  few : length (texts l.list.items) ≤ 64;
  told : texts l.list.items ++ left (64 - length (texts l.list.items)) l.token (map plain_identifier (drop l.name-index l.names)) ≡ first_names (map plain_identifier l.names) l.token;
}
