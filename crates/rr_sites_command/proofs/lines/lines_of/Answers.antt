use Rattle.std.proofs.Common.{◌∙◌, List, false, ap, sym}
use Rattle.std.proofs.lemmas.List.{take_all}
use Rattle.rr_syntax.specs.declared.site.Site.{Site as ArenaSite}
use Rattle.rr_syntax.specs.declared.site.SiteKind.TheVariants as kind
use Rattle.rr_lex.specs.Tokens.{lexemes}
use Rattle.rr_choice.specs.View.{plain_sites}
use Rattle.rr_sites_command.specs.Lines.{site_lines}
use Rattle.rr_sites_command.proofs.Telling.{line_more, no_lines}
use Rattle.rr_sites_command.proofs.lines.lines_of.Goals as goal

pub loop-number-init : goal.loop-number-init
loop-number-init c = c.new-out.ensures.items ∙ sym (no_lines (lexemes c.args.tokens.now))

pub loop-number-preserved : goal.loop-number-preserved
loop-number-preserved c =
    line_more (lexemes c.args.tokens.now) _ _ c.args.sites.now c.loop-number.number (record { kind = kind.Literal 0 false; token = 0 }) c.loop-number-test.true c.in_ok-add_line.ensures c.loop-number.invariant

pub returns : goal.returns
returns c =
    c.loop-number.invariant ∙ ap (λ (ss : List ArenaSite). site_lines (lexemes c.args.tokens.now) 0 (plain_sites ss)) (take_all c.loop-number.number c.args.sites.now c.loop-number-test.false)
