use Rattle.std.proofs.Common.{◌≡◌, ℕ, ◌≤◌, List, length, ap, arith}
use Rattle.std.proofs.lemmas.List.{length-map}
use Rattle.rr_syntax.specs.declared.site.Site.{Site as ArenaSite}
use Rattle.rr_choice.specs.Choices.{total_bits}
use Rattle.rr_choice.specs.Sites.{Site}
use Rattle.rr_choice.specs.View.{plain_site, plain_sites}
use Rattle.rr_search.proofs.Answering.{few_sites}
use Rattle.rr_search.proofs.judging.site_count.Goals as goal

-- no more sites than bits
within : (found : List ArenaSite) (sites : List Site) (bits : ℕ) → plain_sites found ≡ sites → bits ≡ total_bits sites → (length found ≡ length sites) × (length sites ≤ bits)
within found sites bits same e =
    let n = length-map found plain_site in
    let m = ap length same in
    let f = few_sites sites in
    (omega (arith, n, m), omega (arith, f, e))

pub returns-clause-value : goal.returns-clause-value
returns-clause-value c =
    let bits = ap (λ x. x.choice_bits) c.transition.view_is in
    let w = within c.sites-sites.result.now c.args.job.now.list.now c.args.job.now.transition.now.choice_bits c.sites-sites.ensures.same c.requires.bits in
    omega (arith, bits, w.0, w.1, c.min.ensures)

pub returns-clause-few : goal.returns-clause-few
returns-clause-few c =
    let bits = ap (λ x. x.choice_bits) c.transition.view_is in
    let w = within c.sites-sites.result.now c.args.job.now.list.now c.args.job.now.transition.now.choice_bits c.sites-sites.ensures.same c.requires.bits in
    omega (arith, bits, w.1, c.transition.invariant.few)
