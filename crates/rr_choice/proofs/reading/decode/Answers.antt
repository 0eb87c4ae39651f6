use Rattle.std.proofs.Common.{◌+◌, drop, false, arith, ◌∙◌, ap, sym, List, ◌++◌, ◌∷◌, []}
use Rattle.rr_syntax.specs.declared.site.SiteKind.TheVariants as kind
use Rattle.rr_choice.specs.declared.pick.Pick.{Pick}
use Rattle.rr_choice.specs.Choices.{decode, total_bits}
use Rattle.rr_choice.specs.Sites.{Site}
use Rattle.rr_choice.specs.View.{plain_sites}
use Rattle.rr_choice.proofs.BitsRead.{site_fits, total_here, decoded_more, decoded_all}
use Rattle.rr_choice.proofs.reading.decode.Goals as goal

pub read_pick-requires-clause-site : goal.read_pick-requires-clause-site
read_pick-requires-clause-site c = site_fits c.sites-list.result.now c.args.sites.now c.loop-site.site-index (record { kind = kind.Literal 0 false; token = 0 }) c.sites-list.ensures.same c.sites-list.ensures.kept c.loop-site-test.true

pub read_pick-requires-clause-room : goal.read_pick-requires-clause-room
read_pick-requires-clause-room c =
    let t = total_here c.sites-list.result.now c.loop-site.site-index (record { kind = kind.Literal 0 false; token = 0 }) c.loop-site-test.true in
    let s = ap total_bits c.sites-list.ensures.same in
    let h = c.loop-site.invariant.0 in
    let b = c.requires.bits in
    omega (arith, t, s, h, b)

pub site_bits-requires : goal.site_bits-requires
site_bits-requires c = site_fits c.sites-list.result.now c.args.sites.now c.loop-site.site-index (record { kind = kind.Literal 0 false; token = 0 }) c.sites-list.ensures.same c.sites-list.ensures.kept c.loop-site-test.true

pub overflow_add-at : goal.overflow_add-at
overflow_add-at c =
    let t = total_here c.sites-list.result.now c.loop-site.site-index (record { kind = kind.Literal 0 false; token = 0 }) c.loop-site-test.true in
    let s = ap total_bits c.sites-list.ensures.same in
    let h = c.loop-site.invariant.0 in
    let e = c.site_bits.ensures.value in
    let b = c.requires.bits in
    omega (arith, t, s, h, e, b)

pub loop-site-preserved : goal.loop-site-preserved
loop-site-preserved c =
    let t = total_here c.sites-list.result.now c.loop-site.site-index (record { kind = kind.Literal 0 false; token = 0 }) c.loop-site-test.true in
    let h = c.loop-site.invariant.0 in
    let e = c.site_bits.ensures.value in (
      omega (arith, t, h, e),
      decoded_more c.sites-list.result.now c.loop-site.site-index (record { kind = kind.Literal 0 false; token = 0 }) c.loop-site-test.true c.loop-site.picks.items c.loop-site.at c.site_bits.result c.args.bits.now e c.loop-site.invariant.1
          ∙ ap (λ (p : Pick). (c.loop-site.picks.items ++ p ∷ []) ++ decode (plain_sites (drop (c.loop-site.site-index + 1) c.sites-list.result.now)) (drop (c.loop-site.at + c.site_bits.result) c.args.bits.now)) (sym c.read_pick.ensures)
          ∙ ap (λ (ps : List Pick). ps ++ decode (plain_sites (drop (c.loop-site.site-index + 1) c.sites-list.result.now)) (drop (c.loop-site.at + c.site_bits.result) c.args.bits.now)) (sym c.in_ok-push.ensures.items),
    )

pub returns : goal.returns
returns c =
    decoded_all c.sites-list.result.now c.loop-site.picks.items c.loop-site.site-index c.loop-site.at c.args.bits.now c.loop-site-test.false c.loop-site.invariant.1
    ∙ ap (λ (ss : List Site). decode ss c.args.bits.now) c.sites-list.ensures.same
