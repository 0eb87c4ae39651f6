use Rattle.std.proofs.Common.{ap, false, arith}
use Rattle.rr_syntax.specs.declared.site.SiteKind.TheVariants as kind
use Rattle.rr_choice.specs.Choices.{total_bits}
use Rattle.rr_choice.proofs.BitsRead.{site_fits, total_here, total_end}
use Rattle.rr_choice.proofs.list.SiteList.bits.Goals as goal

pub site_bits-total-requires : goal.site_bits-total-requires
site_bits-total-requires c = site_fits c.sites-list.result.now c.args.self.now c.loop-site.site-index (record { kind = kind.Literal 0 false; token = 0 }) c.sites-list.ensures.same c.sites-list.ensures.kept c.loop-site-test.true

pub overflow_add-total : goal.overflow_add-total
overflow_add-total c =
    let t = total_here c.sites-list.result.now c.loop-site.site-index (record { kind = kind.Literal 0 false; token = 0 }) c.loop-site-test.true in
    let s = ap total_bits c.sites-list.ensures.same in
    let i = c.loop-site.invariant in
    let e = c.site_bits-total.ensures.value in
    let r = c.requires in
    omega (arith, t, s, i, e, r)

pub loop-site-preserved : goal.loop-site-preserved
loop-site-preserved c =
    let t = total_here c.sites-list.result.now c.loop-site.site-index (record { kind = kind.Literal 0 false; token = 0 }) c.loop-site-test.true in
    let i = c.loop-site.invariant in
    let e = c.site_bits-total.ensures.value in
    omega (arith, t, i, e)

pub returns : goal.returns
returns c =
    let t = total_end c.sites-list.result.now c.loop-site.site-index c.loop-site-test.false in
    let s = ap total_bits c.sites-list.ensures.same in
    let i = c.loop-site.invariant in
    omega (arith, t, s, i)
