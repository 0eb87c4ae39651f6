use Rattle.std.proofs.Common.{◌<◌, ◌-◌, drop, arith}
use Rattle.rr_syntax.specs.Words.{words}
use Rattle.rr_parse_expr.specs.Reading.{below}
use Rattle.rr_parse_expr.proofs.Exactly.{below_zero, below_is}
use Rattle.rr_parse_expr.proofs.Steps.{closed-none}
use Rattle.rr_parse_stmt.proofs.Closed.{closed_by, no_closed_by, fails_closed}
use Rattle.rr_parse_stmt.proofs.FromExpressions.{syntax_memory}
use Rattle.rr_parse_stmt.proofs.expressions.closed.Goals as goal

pub returns-then-room-eq0 : goal.returns-then-room-eq0
returns-then-room-eq0 c = closed-none (below c.args.room) c.args.mark.0 (drop c.args.from (words c.args.tokens.now)) (below_zero c.args.room 1 (drop c.args.from (words c.args.tokens.now)) c.if-room-eq0.true)

pub returns-in-Ok : goal.returns-in-Ok
returns-in-Ok c =
    let p : 0 < c.args.room = omega arith in
    record {
      found_is = closed_by (below c.args.room) (c.args.room - 1) c.args.tokens.now c.args.from c.args.mark c.in-Ok.expr.now c.in-Ok.next (below_is c.args.room 1 (drop c.args.from (words c.args.tokens.now)) p) c.in-Ok.ensures;
      within = c.in-Ok.ensures.within;
      taken = omega (arith, c.in-Ok.ensures.behind, c.in-Ok.ensures.expression.taken);
      numbered = c.in-Ok.ensures.expression.numbered;
    }

pub returns-in-Err-Syntax : goal.returns-in-Err-Syntax
returns-in-Err-Syntax c =
    let p : 0 < c.args.room = omega arith in
    no_closed_by (below c.args.room) (c.args.room - 1) c.args.tokens.now c.args.from c.args.mark c.requires.is_mark (below_is c.args.room 1 (drop c.args.from (words c.args.tokens.now)) p) (fails_closed c.args.mark (c.args.room - 1) c.args.tokens.now c.args.from c.in-Err-Syntax.field-0 (λ e. syntax_memory c.in-Err-Syntax.field-0 c.in-Err-Syntax.field-0-0 c.in-Err-Syntax.field-0-is e) c.in-Err-Syntax.ensures)
