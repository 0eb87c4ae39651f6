use Rattle.std.proofs.Common.{false, arith, refl}
use Rattle.std.proofs.lemmas.Bool.{both_ways}
use Rattle.rr_syntax.specs.declared.site.SiteKind.TheVariants as kind
use Rattle.rr_choice.specs.View.{plain_sites}
use Rattle.rr_choice.proofs.Listed.{listed_of, of_listed, rising_here, rising_on, rising_end}
use Rattle.rr_choice.proofs.list.are_listed.Goals as goal

pub loop-site-init : goal.loop-site-init
loop-site-init c = record { there = λ h. h; back = λ h. h }

pub returns-then-token-last-clause-no : goal.returns-then-token-last-clause-no
returns-then-token-last-clause-no c = λ g.
    let at = rising_here c.args.sites.now c.loop-site.site-index (record { kind = kind.Literal 0 false; token = 0 }) c.loop-site-test.true c.loop-site.last (c.loop-site.invariant.there (of_listed (plain_sites c.args.sites.now) g)) in
    let b = at.0 in
    let t = c.if-token-last.true in
    absurd (omega (arith, b, t))

pub returns-then-not-is_site-clause-no : goal.returns-then-not-is_site-clause-no
returns-then-not-is_site-clause-no c = λ g.
    let at = rising_here c.args.sites.now c.loop-site.site-index (record { kind = kind.Literal 0 false; token = 0 }) c.loop-site-test.true c.loop-site.last (c.loop-site.invariant.there (of_listed (plain_sites c.args.sites.now) g)) in
    absurd (both_ways c.is_site.result c.if-not-is_site.true (c.is_site.ensures.no at.1.0))

pub loop-site-preserved : goal.loop-site-preserved
loop-site-preserved c =
    record {
      there = λ h. (rising_here c.args.sites.now c.loop-site.site-index (record { kind = kind.Literal 0 false; token = 0 }) c.loop-site-test.true c.loop-site.last (c.loop-site.invariant.there h)).1.1;
      back = λ h. c.loop-site.invariant.back (rising_on c.args.sites.now c.loop-site.site-index (record { kind = kind.Literal 0 false; token = 0 }) c.loop-site-test.true c.loop-site.last (c.if-token-last.false) (c.is_site.ensures.yes c.if-not-is_site.false) h);
    }

pub returns : goal.returns
returns c = record {
  yes = λ _. listed_of (plain_sites c.args.sites.now) (c.loop-site.invariant.back (rising_end c.args.sites.now c.loop-site.site-index c.loop-site.last c.loop-site-test.false));
  no = λ _. refl;
}
