use Rattle.std.proofs.Common.{string_bytes, arith}
use Rattle.rr_lex.specs.Tokens.{lexemes}
use Rattle.rr_repair_report.proofs.TextLaws.{Written-more, Written-all, got_again, plain_count, plain_here, site_here}
use Rattle.rr_repair_report.proofs.lines.push_site_lines.Goals as goal

-- src/lines.rt
pub push_if_on-requires : goal.push_if_on-requires
push_if_on-requires c =
    let l = c.loop-i-test.true in
    let m = c.min-count.ensures in
    site_here c.sites-sites.result.now c.args.list.now c.loop-i.i _ c.sites-sites.ensures.same c.sites-sites.ensures.kept (omega (arith, l, m))

pub loop-i-preserved : goal.loop-i-preserved
loop-i-preserved c =
    let n = plain_count c.sites-sites.result.now c.args.list.now c.sites-sites.ensures.same in
    let l = c.loop-i-test.true in
    let m = c.min-count.ensures in
    Written-more (lexemes c.args.tokens.now) c.args.list.now c.args.picks.now (string_bytes c.args.out.now) (string_bytes c.loop-i.out) _ c.loop-i.i _ _ c.loop-i.invariant
    (omega (arith, n, l, m))
    (omega (arith, l, m))
    (plain_here c.sites-sites.result.now c.args.list.now c.loop-i.i _ c.sites-sites.ensures.same (omega (arith, l, m)))
    (got_again c.loop-i.i c.args.picks.now _ (omega (arith, l, m)))
    c.in_ok-push_if_on.ensures

pub returns : goal.returns
returns c =
    let n = plain_count c.sites-sites.result.now c.args.list.now c.sites-sites.ensures.same in
    let e = c.loop-i.auto.i-end in
    let f = c.loop-i-test.false in
    let m = c.min-count.ensures in
    Written-all (lexemes c.args.tokens.now) c.args.list.now c.args.picks.now (string_bytes c.args.out.now) (string_bytes c.loop-i.out) c.loop-i.i c.loop-i.invariant (omega (arith, n, e, f, m))
