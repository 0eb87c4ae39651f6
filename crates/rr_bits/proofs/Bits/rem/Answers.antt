use Rattle.std.proofs.Common.{◌≡◌, sym, ◌∙◌, ap, true, false}
use Rattle.rr_bits.proofs.Operators.{held, alike, remainder_zero, remainder_is}
use Rattle.std.proofs.Common.{◌==◌, ◌&&◌}
use Rattle.std.proofs.lemmas.Bool.{cond-true, cond-false, ne_eqb}
use Rattle.rr_bits.specs.Words.{top}
use Rattle.rr_bits.proofs.Bits.rem.Goals as goal

pub returns-then-divisor-eq0 : goal.returns-then-divisor-eq0
returns-then-divisor-eq0 c =
    let s = held _ _ _ c.self.invariant c.self.view_is in
    c.from_u128.ensures ∙ remainder_zero _ _ _ _ _ s.width (alike _ _ _ _ s c.requires) (sym c.magnitude-divisor.ensures ∙ c.if-divisor-eq0.true)

pub returns-then-is_negative : goal.returns-then-is_negative
returns-then-is_negative c =
    let s = held _ _ _ c.self-2.invariant c.self-2.view_is in
    let z = ap (λ n. n == 0) (sym c.magnitude-divisor.ensures) ∙ ne_eqb _ 0 c.if-divisor-eq0.false in
    let t : (c.args.signed && top c.args.self) ≡ true = sym c.is_negative.ensures ∙ c.if-is_negative.true in
    c.negated.ensures ∙ rw (c.from_u128-rest.ensures, c.magnitude.ensures, c.magnitude-divisor.ensures) (sym (remainder_is _ _ _ _ _ _ s (alike _ _ _ _ s c.requires) z ∙ cond-true _ _ _ t))

pub returns-else-is_negative : goal.returns-else-is_negative
returns-else-is_negative c =
    let s = held _ _ _ c.self-2.invariant c.self-2.view_is in
    let z = ap (λ n. n == 0) (sym c.magnitude-divisor.ensures) ∙ ne_eqb _ 0 c.if-divisor-eq0.false in
    let t : (c.args.signed && top c.args.self) ≡ false = sym c.is_negative.ensures ∙ c.if-is_negative.false in
    rw (c.from_u128-rest.ensures, c.magnitude.ensures, c.magnitude-divisor.ensures) (sym (remainder_is _ _ _ _ _ _ s (alike _ _ _ _ s c.requires) z ∙ cond-false _ _ _ t))
