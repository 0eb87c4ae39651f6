use Rattle.rr_blast_steps.proofs.CopyLaws.{copied_values, copied_widths, copied_wires, whole}
use Rattle.rr_blast_steps.proofs.clocking.copied.Goals as goal

pub returns-clause-wires : goal.returns-clause-wires
returns-clause-wires c = λ n. copied_wires n c.loop-word.copies.items c.args.words.now (whole _ c.args.words.now c.loop-word.word-index c.loop-word-test.false c.loop-word.invariant)

pub returns-clause-value : goal.returns-clause-value
returns-clause-value c = λ n env. copied_values n env c.loop-word.copies.items c.args.words.now (whole _ c.args.words.now c.loop-word.word-index c.loop-word-test.false c.loop-word.invariant)

pub returns-clause-widths : goal.returns-clause-widths
returns-clause-widths c = copied_widths c.loop-word.copies.items c.args.words.now (whole _ c.args.words.now c.loop-word.word-index c.loop-word-test.false c.loop-word.invariant)
