use Rattle.std.proofs.Common.{refl, ◌∙◌, sym, rules}
use Rattle.rr_trace.proofs.Numerals.{separator_step, digit_step, refused_step}
use Rattle.rr_trace.proofs.cell.read_numeral.Goals as goal
use Rattle.rr_trace.proofs.cell.read_numeral.Goals.{then-not-is_separator+in_ok-digit, else-not-is_separator}

pub loop-byte-init : goal.loop-byte-init
loop-byte-init c = ((0, 0), (refl, record { value = refl; unknown = refl }))

pub returns-in_err-digit : goal.returns-in_err-digit
returns-in_err-digit c =
    let inv = c.loop-byte.invariant in
    rw c.from_residual.ensures (refused_step c.args.base c.args.text.now c.loop-byte.byte-index inv.0 c.loop-byte-test.true (search (rules, c.if-not-is_framed.false, c.is_framed.ensures)) inv.1.0
    (search (rules, c.is_separator.ensures, c.if-not-is_separator.true)) (sym c.digit.ensures ∙ c.in_err-digit.was))

pub loop-byte-preserved : goal.loop-byte-preserved
loop-byte-preserved c =
    let inv = c.loop-byte.invariant in
    elim c.if-not-is_separator.branch [
      | then-not-is_separator+in_ok-digit w ↦ (
        _,
        (
          digit_step c.args.base c.args.text.now c.loop-byte.byte-index inv.0 w.in_ok-digit.field-0 c.loop-byte-test.true inv.1.0 (search (rules, c.is_separator.ensures, w.if-not-is_separator.true)) (sym w.digit.ensures ∙ w.in_ok-digit.was),
          rw (w.number-is, ← w.radix.ensures) (w.then-number.ensures inv.0 inv.1.1),
        ),
      )
      | else-not-is_separator w ↦ (
        inv.0,
        (
          separator_step c.args.base c.args.text.now c.loop-byte.byte-index inv.0 c.loop-byte-test.true inv.1.0 (search (rules, c.is_separator.ensures, w.if-not-is_separator.false)),
          rw w.number-is inv.1.1,
        ),
      )
    ]
