use Rattle.std.proofs.Common.{false, List, sym, ◌∙◌, ap, subst, arith}
use Rattle.std.specs.List.{All}
use Rattle.rr_syntax.specs.declared.site.SiteKind.TheVariants as kind
use Rattle.rr_syntax.specs.declared.site.Site.{Site as ArenaSite}
use Rattle.rr_choice.specs.Choices.{total_bits}
use Rattle.rr_choice.specs.Sites.{Site, IsSite}
use Rattle.rr_blast_sites.specs.Finding.{extent_of}
use Rattle.rr_blast_sites.proofs.FindLaws.{Missed-none, Missed-more, Missed-all, Missed-past, Missed-here}
use Rattle.rr_blast_sites.proofs.finding.site_at.Goals as goal

abbrev none : ArenaSite
none = record { kind = kind.Literal 0 false; token = 0 }

pub loop-i-init : goal.loop-i-init
loop-i-init c = Missed-none _ _ _ _ _ c.sites-sites.ensures.same c.sites-sites.ensures.kept c.first_at-i.ensures

pub loop-i-preserved : goal.loop-i-preserved
loop-i-preserved c = Missed-more _ _ _ _ _ none c.loop-i.invariant c.loop-i-test.true (sym c.is_sought.ensures ∙ c.if-is_sought.false)

pub bits_before-at-requires-clause-each : goal.bits_before-at-requires-clause-each
bits_before-at-requires-clause-each c = subst (λ (ss : List Site). All IsSite ss) (sym c.sites-sites.ensures.same) c.sites-sites.ensures.kept.each

pub bits_before-at-requires-clause-room : goal.bits_before-at-requires-clause-room
bits_before-at-requires-clause-room c = let e = ap total_bits c.sites-sites.ensures.same in omega (arith, e, c.requires)

pub returns : goal.returns
returns c = Missed-all _ _ _ _ _ _ c.sites-sites.ensures.same c.loop-i.invariant (omega arith)

pub returns-then-is_sought : goal.returns-then-is_sought
returns-then-is_sought c = Missed-here _ _ _ _ _ _ _ none c.sites-sites.ensures.same c.loop-i.invariant c.loop-i-test.true (sym c.is_sought.ensures ∙ c.if-is_sought.true) c.bits_before-at.ensures

pub returns-then-site-token : goal.returns-then-site-token
returns-then-site-token c = Missed-past _ _ _ _ _ _ none c.sites-sites.ensures.same c.loop-i.invariant c.loop-i-test.true c.if-site-token.true
