use Rattle.std.proofs.Common.{◌≡◌, sym, ◌∙◌, true}
use Rattle.rr_bits.proofs.Operators.{held, less_is, same_test}
use Rattle.std.proofs.lemmas.Bool.{true≢false}
use Rattle.rr_bits.specs.Words.{top}
use Rattle.rr_bits.proofs.Bits.less.Goals as goal
use Rattle.rr_bits.proofs.Bits.less.Goals.{else-signed-via-then-signed+else-negative-top, else-signed-via-else-signed}

pub returns-else-signed : goal.returns-else-signed
returns-else-signed c =
    let s = held _ _ _ c.self.invariant c.self.view_is in
    let o = held _ _ _ c.other.invariant c.other.view_is in
    let e = sym o.width ∙ sym c.requires ∙ s.width in
    let tops : c.args.signed ≡ true → top c.args.self ≡ top c.args.other = elim c.else-signed.branch [ else-signed-via-then-signed+else-negative-top w ↦ λ h. sym c.top-negative.ensures ∙ same_test _ _ w.if-negative-top.false ∙ w.top.ensures | else-signed-via-else-signed w ↦ λ h. absurd (true≢false (sym h ∙ w.if-signed.false)) ] in
    less_is _ _ _ _ _ _ s (rw e at o) tops
