use Rattle.std.proofs.Common.{rules, ltb, sym, subst}
use Rattle.std.proofs.lemmas.List.Sorted.{IsPartitionPoint-from_clause, IsPartitionedBy-ltb}
use Rattle.rr_syntax.specs.declared.site.Site.{Site as ArenaSite}
use Rattle.rr_choice.specs.Sites.{Site, IsSiteList, IsFirstAt}
use Rattle.std.specs.Prelude.{List}
use Rattle.rr_choice.proofs.Finds.{tokens_rise, first_of_point}
use Rattle.rr_choice.proofs.list.SiteList.first_at.Goals as goal

pub returns : goal.returns
returns c =
    let list = c.sites-list.result.now in
    let g = subst IsSiteList (sym c.sites-list.ensures.same) c.sites-list.ensures.kept in
    let parted = IsPartitionedBy-ltb (λ (s : ArenaSite). s.token) list c.args.token (tokens_rise list c.args.token g) in
    let point = IsPartitionPoint-from_clause (λ (s : ArenaSite). ltb s.token c.args.token) list c.partition_point.result c.partition_point.ensures.partitioned parted (λ a r q k. search rules) in
    subst (λ (ss : List Site). IsFirstAt ss c.args.token c.partition_point.result) c.sites-list.ensures.same (first_of_point list c.args.token c.partition_point.result c.partition_point.ensures.bound point)
