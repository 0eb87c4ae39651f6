use Rattle.std.proofs.Common.{◌∙◌, arith}
use Rattle.rr_bits.proofs.Operators.{held, append_is}
use Rattle.rr_bits.proofs.Bits.append.Goals as goal

pub overflow_shl-high-inside : goal.overflow_shl-high-inside
overflow_shl-high-inside c =
    let s = held _ _ _ c.self.invariant c.self.view_is in
    let o = held _ _ _ c.high.invariant c.high.view_is in
    omega arith

pub from_u128-requires-clause-high : goal.from_u128-requires-clause-high
from_u128-requires-clause-high c =
    let s = held _ _ _ c.self.invariant c.self.view_is in
    let o = held _ _ _ c.high.invariant c.high.view_is in
    omega arith

pub returns : goal.returns
returns c =
    let s = held _ _ _ c.self.invariant c.self.view_is in
    let o = held _ _ _ c.high.invariant c.high.view_is in
    c.from_u128.ensures ∙ append_is _ _ _ _ _ _ s o (omega arith)
