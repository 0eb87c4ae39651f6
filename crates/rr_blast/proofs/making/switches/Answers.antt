use Rattle.std.proofs.Common.{◌++◌, ◌+◌, sym, ap, ap₂, refl, subst, arith, ℕ, false, List, get_or}
use Rattle.std.specs.List.{All}
use Rattle.rr_syntax.specs.declared.site.Site.{Site as ArenaSite}
use Rattle.rr_syntax.specs.declared.site.SiteKind.TheVariants as kind
use Rattle.rr_choice.specs.Choices.{total_bits}
use Rattle.rr_choice.specs.Sites.{IsSite, Site}
use Rattle.rr_transition.specs.Cycles.{switch_places}
use Rattle.rr_blast_sites.proofs.FindLaws.{site_at}
use Rattle.rr_blast.proofs.FitLaws.{bits_left, switches_done, switches_more}
use Rattle.rr_blast.proofs.making.switches.Goals as goal

abbrev none : ArenaSite
none = record { kind = kind.Literal 0 false; token = 0 }

pub loop-site-init : goal.loop-site-init
loop-site-init c =
    let e = c.sites-sites.ensures.same in
    record {
      count = omega (arith, ap total_bits e);
      places = ap₂ (λ (xs : List ℕ) (ss : List Site). xs ++ switch_places 0 ss) c.new-places.ensures.items e;
    }

pub site_bits-at-requires : goal.site_bits-at-requires
site_bits-at-requires c = site_at c.sites-sites.result.now c.loop-site.site-index none (subst (All IsSite) (sym c.sites-sites.ensures.same) c.sites-sites.ensures.kept.each) c.loop-site-test.true

pub overflow_add-at : goal.overflow_add-at
overflow_add-at c =
    let m = bits_left c.sites-sites.result.now c.loop-site.site-index (get_or c.sites-sites.result.now c.loop-site.site-index none) none c.loop-site-test.true refl in
    omega (arith, m, c.loop-site.invariant.count, c.requires, c.site_bits-at.ensures.value)

pub loop-site-preserved : goal.loop-site-preserved
loop-site-preserved c =
    let x : ArenaSite = get_or c.sites-sites.result.now c.loop-site.site-index none in
    let m = bits_left c.sites-sites.result.now c.loop-site.site-index x none c.loop-site-test.true refl in
    record {
      count = omega (arith, m, c.loop-site.invariant.count, c.site_bits-at.ensures.value);
      places = switches_more c.sites-sites.result.now c.loop-site.site-index c.loop-site.at _ x none c.loop-site.places.items c.push_number.new.list.items _ c.loop-site-test.true refl
          (ap (λ (n : ℕ). c.loop-site.at + n) c.site_bits-at.ensures.value) c.loop-site.invariant.places c.in_ok-push_number.ensures;
    }

pub returns : goal.returns
returns c = switches_done c.sites-sites.result.now c.loop-site.site-index c.loop-site.at c.loop-site.places.items _ c.loop-site-test.false c.loop-site.invariant.places
