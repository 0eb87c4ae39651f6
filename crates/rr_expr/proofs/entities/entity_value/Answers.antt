use Rattle.std.proofs.Common.{◌≡◌, ◌∙◌, rules, arith, get_or}
use Rattle.rr_expr.specs.Scopes.{range_width}
use Rattle.rr_expr.proofs.Widths.{width_bounds, signal_word, min_small}
use Rattle.rr_expr.proofs.MemoryWords.{zero_word}
use Rattle.rr_expr.proofs.entities.entity_value.Goals as goal

pub returns-in-Signal-clause-value : goal.returns-in-Signal-clause-value
returns-in-Signal-clause-value c =
    let h = rw c.in-Signal.is at c.requires in
    let p = width_bounds (range_width c.in-Signal.range) h in
    let w : c.range_width.result ≡ range_width c.in-Signal.range = c.range_width.ensures ∙ min_small (range_width c.in-Signal.range) h in
    let v : c.unwrap_or.result ≡ get_or c.args.env.now c.in-Signal.id 0 = search rules in
    rw c.in-Signal.is (c.from_u128.ensures ∙ rw (w, v) (signal_word (range_width c.in-Signal.range) c.in-Signal.id c.args.env.now (omega (arith, p.1))))

pub returns-in-Memory-clause-value : goal.returns-in-Memory-clause-value
returns-in-Memory-clause-value c =
    let h = rw c.in-Memory.is at c.requires in
    let w : c.range_width-in-Memory.result ≡ range_width c.in-Memory.range = c.range_width-in-Memory.ensures ∙ min_small (range_width c.in-Memory.range) h in
    rw c.in-Memory.is (c.from_u128-in-Memory.ensures ∙ rw w (zero_word (range_width c.in-Memory.range)))
