use Rattle.std.proofs.Common.{◌≡◌, take}
use Rattle.rr_lex.specs.Tokens.{lexemes}
use Rattle.rr_choice.specs.View.{plain_sites}
use Rattle.rr_sites_command.specs.Lines.{site_lines}
use Rattle.rr_sites_command.proofs.lines.lines_of.Given as goal

abbrev pub invariant-loop-number : goal.invariant-loop-number
invariant-loop-number l = l.out.items ≡ site_lines (lexemes l.tokens) 0 (plain_sites (take l.number l.sites))
