use Rattle.std.proofs.Common.{string_bytes}
use Rattle.rr_lex.specs.Tokens.{lexemes}
use Rattle.rr_repair_report.proofs.TextLaws.{Written}
use Rattle.rr_repair_report.proofs.lines.push_site_lines.Given as goal

abbrev pub invariant-loop-i : goal.invariant-loop-i
invariant-loop-i l = Written (lexemes l.fn.tokens) l.fn.list l.fn.picks (string_bytes l.initial.out) (string_bytes l.out) l.i
