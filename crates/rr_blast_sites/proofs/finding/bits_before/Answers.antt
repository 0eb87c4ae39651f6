use Rattle.std.proofs.Common.{◌≡◌, ◌<◌, false, ap, ◌∙◌, sym, take, get_or, arith, length}
use Rattle.rr_syntax.specs.declared.site.SiteKind.TheVariants as kind
use Rattle.rr_syntax.specs.declared.site.Site.{Site as ArenaSite}
use Rattle.rr_choice.specs.Choices.{total_bits, site_bits}
use Rattle.rr_choice.specs.View.{plain_site, plain_sites}
use Rattle.rr_blast_sites.proofs.FindLaws.{total_none, total_more, total_room, plain_at, plain_count, site_at}
use Rattle.rr_blast_sites.proofs.finding.bits_before.Goals as goal

abbrev none : ArenaSite
none = record { kind = kind.Literal 0 false; token = 0 }

pub loop-i-init : goal.loop-i-init
loop-i-init c = total_none (plain_sites c.args.sites.now)

pub site_bits-requires : goal.site_bits-requires
site_bits-requires c = site_at _ _ _ c.requires.each (omega (arith, c.loop-i-test.true, c.requires.within))

pub overflow_add-total : goal.overflow_add-total
overflow_add-total c =
    let l = c.loop-i-test.true in
    let w = c.requires.within in
    let k : c.loop-i.i < length c.args.sites.now = omega (arith, l, w) in
    let n = plain_count c.args.sites.now in
    let here = plain_at c.args.sites.now c.loop-i.i none k in
    let r = total_room (plain_sites c.args.sites.now) c.loop-i.i (plain_site none) (omega (arith, n, k)) in
    let s : site_bits (get_or (plain_sites c.args.sites.now) c.loop-i.i (plain_site none)) ≡ c.site_bits.result = ap site_bits here ∙ sym c.site_bits.ensures.value in
    omega (arith, r, s, c.loop-i.invariant, c.requires.room)

pub loop-i-preserved : goal.loop-i-preserved
loop-i-preserved c =
    let l = c.loop-i-test.true in
    let w = c.requires.within in
    let k : c.loop-i.i < length c.args.sites.now = omega (arith, l, w) in
    let n = plain_count c.args.sites.now in
    let here = plain_at c.args.sites.now c.loop-i.i none k in
    let m = total_more (plain_sites c.args.sites.now) c.loop-i.i (plain_site none) (omega (arith, n, k)) in
    let s : site_bits (get_or (plain_sites c.args.sites.now) c.loop-i.i (plain_site none)) ≡ c.site_bits.result = ap site_bits here ∙ sym c.site_bits.ensures.value in
    omega (arith, m, s, c.loop-i.invariant)

pub returns : goal.returns
returns c = let e : c.loop-i.i ≡ c.args.count = omega arith in c.loop-i.invariant ∙ ap (λ k. total_bits (take k (plain_sites c.args.sites.now))) e
