use Rattle.std.proofs.Common.{◌≡◌, sym, ◌∙◌, ap, true, false}
use Rattle.rr_bits.proofs.Operators.{held, alike, quotient_zero, quotient_is}
use Rattle.std.proofs.Common.{◌==◌, ◌&&◌, not}
use Rattle.std.proofs.lemmas.Bool.{cond-true, cond-false, ne_eqb}
use mathlib.Core.Bool.{beq}
use Rattle.rr_bits.specs.Words.{top}
use Rattle.rr_bits.proofs.Bits.div.Goals as goal

pub returns-then-divisor-eq0 : goal.returns-then-divisor-eq0
returns-then-divisor-eq0 c =
    let s = held _ _ _ c.self.invariant c.self.view_is in
    c.from_u128.ensures ∙ quotient_zero _ _ _ _ _ s.width (alike _ _ _ _ s c.requires) (sym c.magnitude-divisor.ensures ∙ c.if-divisor-eq0.true)

pub returns-then-is_negative : goal.returns-then-is_negative
returns-then-is_negative c =
    let s = held _ _ _ c.self-2.invariant c.self-2.view_is in
    let z = ap (λ n. n == 0) (sym c.magnitude-divisor.ensures) ∙ ne_eqb _ 0 c.if-divisor-eq0.false in
    let t : not (beq (c.args.signed && top c.args.self) (c.args.signed && top c.args.other)) ≡ true = rw (c.is_negative.ensures, c.is_negative-2.ensures) at c.if-is_negative.true in
    c.negated.ensures ∙ rw (c.from_u128-whole.ensures, c.magnitude.ensures, c.magnitude-divisor.ensures) (sym (quotient_is _ _ _ _ _ _ s (alike _ _ _ _ s c.requires) z ∙ cond-true _ _ _ t))

pub returns-else-is_negative : goal.returns-else-is_negative
returns-else-is_negative c =
    let s = held _ _ _ c.self-2.invariant c.self-2.view_is in
    let z = ap (λ n. n == 0) (sym c.magnitude-divisor.ensures) ∙ ne_eqb _ 0 c.if-divisor-eq0.false in
    let t : not (beq (c.args.signed && top c.args.self) (c.args.signed && top c.args.other)) ≡ false = rw (c.is_negative.ensures, c.is_negative-2.ensures) at c.if-is_negative.false in
    rw (c.from_u128-whole.ensures, c.magnitude.ensures, c.magnitude-divisor.ensures) (sym (quotient_is _ _ _ _ _ _ s (alike _ _ _ _ s c.requires) z ∙ cond-false _ _ _ t))
