use Rattle.std.proofs.Common.{false, List, sym, ◌∙◌, ap₂, subst, arith}
use Rattle.std.proofs.lemmas.Grind.{common_steps}
use Rattle.rr_syntax.specs.declared.site.SiteKind.TheVariants as kind
use Rattle.rr_choice.specs.declared.pick.Pick.{Pick}
use Rattle.rr_choice.specs.Sites.{Site, IsSiteList, IsFirstAt}
use Rattle.rr_choice.specs.Places.{find_pick}
use Rattle.rr_choice.specs.View.{is_at}
use Rattle.rr_choice.proofs.Finds.{find_from, found_there, found_after, found_never, found_past}
use Rattle.rr_choice.proofs.finding.find.Goals as goal

pub loop-i-init : goal.loop-i-init
loop-i-init c = record {
  count = grind (arith, common_steps);
  first = omega arith;
  same = find_from c.args.extent c.args.token c.sites-list.result.now c.as_slice-picks.result.now c.first_at-i.result (subst (λ (ss : List Site). IsFirstAt ss c.args.token c.first_at-i.result) (sym c.sites-list.ensures.same) c.first_at-i.ensures);
}

pub loop-i-preserved : goal.loop-i-preserved
loop-i-preserved c =
    let n = c.loop-i.invariant.count in
    let l = c.loop-i-test.true in
    let f = c.loop-i.invariant.first in
    record {
      count = n;
      first = omega (arith, f);
      same = c.loop-i.invariant.same
          ∙ found_after (is_at c.args.extent c.args.token) c.sites-list.result.now c.as_slice-picks.result.now c.loop-i.i (record { kind = kind.Literal 0 false; token = 0 }) (record { on = false; value = 0; form = 0; name = 0 })
          (omega (arith, n, l)) (omega (arith, n, l)) (sym c.is_at.ensures ∙ c.if-is_at.false);
    }

pub returns : goal.returns
returns c =
    let n = c.loop-i.invariant.count in
    let l = c.loop-i-test.false in
    let e = ap₂ (λ (ss : List Site) (ps : List Pick). find_pick (is_at c.args.extent c.args.token) ss ps) (sym c.sites-list.ensures.same) (sym c.as_slice-picks.ensures.value) in
    sym (e ∙ c.loop-i.invariant.same ∙ found_never (is_at c.args.extent c.args.token) c.sites-list.result.now c.as_slice-picks.result.now c.loop-i.i (omega (arith, n, l)))

pub returns-then-is_at : goal.returns-then-is_at
returns-then-is_at c =
    let n = c.loop-i.invariant.count in
    let l = c.loop-i-test.true in
    let e = ap₂ (λ (ss : List Site) (ps : List Pick). find_pick (is_at c.args.extent c.args.token) ss ps) (sym c.sites-list.ensures.same) (sym c.as_slice-picks.ensures.value) in
    sym (e ∙ c.loop-i.invariant.same
    ∙ found_there (is_at c.args.extent c.args.token) c.sites-list.result.now c.as_slice-picks.result.now c.loop-i.i (record { kind = kind.Literal 0 false; token = 0 }) (record { on = false; value = 0; form = 0; name = 0 })
    (omega (arith, n, l)) (omega (arith, n, l)) (sym c.is_at.ensures ∙ c.if-is_at.true))

pub returns-then-site-token : goal.returns-then-site-token
returns-then-site-token c =
    let n = c.loop-i.invariant.count in
    let l = c.loop-i-test.true in
    let e = ap₂ (λ (ss : List Site) (ps : List Pick). find_pick (is_at c.args.extent c.args.token) ss ps) (sym c.sites-list.ensures.same) (sym c.as_slice-picks.ensures.value) in
    sym (e ∙ c.loop-i.invariant.same
    ∙ found_past c.args.extent c.args.token c.sites-list.result.now c.as_slice-picks.result.now c.first_at-i.result c.loop-i.i (record { kind = kind.Literal 0 false; token = 0 })
    (subst IsSiteList (sym c.sites-list.ensures.same) c.sites-list.ensures.kept) (subst (λ (ss : List Site). IsFirstAt ss c.args.token c.first_at-i.result) (sym c.sites-list.ensures.same) c.first_at-i.ensures)
    c.loop-i.invariant.first (omega (arith, n, l)) c.if-site-token.true)
