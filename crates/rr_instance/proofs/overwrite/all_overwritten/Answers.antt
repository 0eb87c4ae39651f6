use Rattle.std.proofs.Common.{◌+◌, false, List, drop, sym, ap, ap₂, ◌∙◌, subst, arith}
use Rattle.std.proofs.lemmas.Grind.{common_steps}
use Rattle.rr_syntax.specs.Tree.{Statement}
use Rattle.rr_syntax.specs.View.{plain_statement}
use Rattle.rr_syntax.specs.declared.site.SiteKind.TheVariants as kind
use Rattle.rr_choice.specs.declared.pick.Pick.{Pick}
use Rattle.rr_choice.specs.Sites.{Site, IsSiteList, IsFirstAt}
use Rattle.rr_instance.specs.Instances.{all_overwritten}
use Rattle.rr_choice.specs.View.{plain_sites}
use Rattle.rr_instance.proofs.Overwrites.{overwritten_first, overwritten_after, overwritten_over, overwritten_end}
use Rattle.rr_instance.proofs.overwrite.all_overwritten.Goals as goal

pub loop-i-init : goal.loop-i-init
loop-i-init c = record {
  count = grind (arith, common_steps);
  first = omega arith;
  same = overwritten_first c.args.token c.sites-list.result.now c.as_slice-picks.result.now c.first_at-i.result (plain_statement c.args.body) (subst (λ (ss : List Site). IsFirstAt ss c.args.token c.first_at-i.result) (sym c.sites-list.ensures.same) c.first_at-i.ensures);
}

pub loop-i-preserved : goal.loop-i-preserved
loop-i-preserved c =
    let n = c.loop-i.invariant.count in
    let l = c.loop-i-test.true in
    let f = c.loop-i.invariant.first in
    record {
      count = n;
      first = omega (arith, f);
      same = c.loop-i.invariant.same
          ∙ overwritten_after c.args.token c.sites-list.result.now c.as_slice-picks.result.now c.loop-i.i (record { kind = kind.Literal 0 false; token = 0 }) (record { on = false; value = 0; form = 0; name = 0 }) (plain_statement c.loop-i.whole)
          (omega (arith, n, l)) (omega (arith, n, l))
          ∙ ap (λ (t : Statement). all_overwritten c.args.token (plain_sites (drop (c.loop-i.i + 1) c.sites-list.result.now)) (drop (c.loop-i.i + 1) c.as_slice-picks.result.now) t) (sym c.in_ok-whole.ensures);
    }

pub returns : goal.returns
returns c =
    let n = c.loop-i.invariant.count in
    let l = c.loop-i-test.false in
    let e = ap₂ (λ (ss : List Site) (ps : List Pick). all_overwritten c.args.token ss ps (plain_statement c.args.body)) (sym c.sites-list.ensures.same) (sym c.as_slice-picks.ensures.value) in
    sym (e ∙ c.loop-i.invariant.same ∙ overwritten_end c.args.token c.sites-list.result.now c.as_slice-picks.result.now c.loop-i.i (plain_statement c.loop-i.whole) (omega (arith, n, l)))

pub returns-then-site-token : goal.returns-then-site-token
returns-then-site-token c =
    let n = c.loop-i.invariant.count in
    let l = c.loop-i-test.true in
    let e = ap₂ (λ (ss : List Site) (ps : List Pick). all_overwritten c.args.token ss ps (plain_statement c.args.body)) (sym c.sites-list.ensures.same) (sym c.as_slice-picks.ensures.value) in
    sym (e ∙ c.loop-i.invariant.same
    ∙ overwritten_over c.args.token c.sites-list.result.now c.as_slice-picks.result.now c.first_at-i.result c.loop-i.i (record { kind = kind.Literal 0 false; token = 0 }) (plain_statement c.loop-i.whole)
    (subst IsSiteList (sym c.sites-list.ensures.same) c.sites-list.ensures.kept) (subst (λ (ss : List Site). IsFirstAt ss c.args.token c.first_at-i.result) (sym c.sites-list.ensures.same) c.first_at-i.ensures)
    c.loop-i.invariant.first (omega (arith, n, l)) c.if-site-token.true)
