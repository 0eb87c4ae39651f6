use Rattle.std.proofs.Common.{◌≡◌, ◌<◌, map, drop, None}
use Rattle.std.specs.Prelude.{IfSome}
use Rattle.rr_syntax.specs.View.{plain_module}
use Rattle.rr_flatten.specs.Tables.{last_free}
use Rattle.rr_flatten.proofs.tables.last_free.Given as goal

abbrev pub invariant-loop-own : goal.invariant-loop-own
invariant-loop-own l = record {
  walked : last_free l.names l.place (map plain_module (drop l.own-index l.modules)) l.found ≡ last_free l.names 0 (map plain_module l.modules) None;
  place : l.place ≡ l.own-index;
  within : IfSome l.found (λ k. k < l.own-index);
}
