use Rattle.std.proofs.Common.{◌≡◌, ◌+◌, ◌∙◌, sym, rules, arith, get_or}
use Rattle.rr_expr.specs.Scopes.{range_width, env_of}
use Rattle.rr_expr.proofs.Widths.{width_bounds, signal_word, min_small}
use Rattle.rr_expr.proofs.MemoryWords.{zero_word, no_word_value, some_word_value}
use Rattle.rr_expr.proofs.memories.word_value.Goals as goal

pub returns-in-None : goal.returns-in-None
returns-in-None c =
    let w : c.range_width.result ≡ range_width c.args.range.now = c.range_width.ensures ∙ min_small (range_width c.args.range.now) c.requires in
    rw c.in-None.is (c.from_u128.ensures ∙ (rw w (zero_word (range_width c.args.range.now)) ∙ sym (no_word_value (env_of c.args.env.now) c.args.range.now)))

pub returns-in-Some : goal.returns-in-Some
returns-in-Some c =
    let p = width_bounds (range_width c.args.range.now) c.requires in
    let w : c.range_width-in-Some.result ≡ range_width c.args.range.now = c.range_width-in-Some.ensures ∙ min_small (range_width c.args.range.now) c.requires in
    let v : c.unwrap_or.result ≡ get_or c.args.env.now (c.args.first + c.in-Some.word) 0 = search rules in
    rw c.in-Some.is (c.from_u128-in-Some.ensures
    ∙ (rw (w, v) (signal_word (range_width c.args.range.now) (c.args.first + c.in-Some.word) c.args.env.now (omega (arith, p.1)))
    ∙ sym (some_word_value (env_of c.args.env.now) c.args.range.now (c.args.first + c.in-Some.word))))
