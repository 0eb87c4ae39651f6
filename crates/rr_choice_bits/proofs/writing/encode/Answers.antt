use Rattle.std.proofs.Common.{◌≡◌, ◌∙◌, ◌++◌, ◌+◌, ◌<◌, ℕ, List, false, length, drop, ap, ap₂, arith}
use Rattle.std.proofs.lemmas.List.{length-map}
use Rattle.rr_syntax.specs.declared.site.Site.{Site as ArenaSite}
use Rattle.rr_syntax.specs.declared.site.SiteKind.TheVariants as kind
use Rattle.rr_choice.specs.declared.pick.Pick.{Pick}
use Rattle.rr_choice.specs.Choices.{decode, IsChoice}
use Rattle.rr_choice.specs.Sites.{Site}
use Rattle.rr_choice.specs.View.{plain_site, plain_sites}
use Rattle.rr_choice.proofs.BitsRead.{site_fits}
use Rattle.rr_choice.specs.Codes.{code}
use Rattle.rr_choice.proofs.CodeLaws.{decode_code, length_code}
use Rattle.rr_choice_bits.proofs.CodeLaws.{code_more, code_all, few_names, length_choice}
use Rattle.rr_choice_bits.proofs.writing.encode.Goals as goal

pub loop-k-init : goal.loop-k-init
loop-k-init c = ap (λ bs. bs ++ code (plain_sites c.sites-list.result.now) c.as_slice-picks.result.now) c.new-bits.ensures.items

inside : (list : List ArenaSite) (sites : List Site) (picks choice : List Pick) (k : ℕ) → plain_sites list ≡ sites → picks ≡ choice → IsChoice sites choice → k < length list → k < length picks
inside list sites picks choice k same value is l =
    let a = length_choice sites choice is in
    let b = ap length same in
    let d = length-map list plain_site in
    let e = ap length value in
    omega (arith, a, b, d, e, l)

pub bounds-picks-k : goal.bounds-picks-k
bounds-picks-k c = inside c.sites-list.result.now c.args.sites.now c.as_slice-picks.result.now c.args.choice.now.picks.items c.loop-k.k c.sites-list.ensures.same c.as_slice-picks.ensures.value c.requires c.loop-k-test.true

pub push_pick-requires : goal.push_pick-requires
push_pick-requires c = site_fits c.sites-list.result.now c.args.sites.now c.loop-k.k (record { kind = kind.Literal 0 false; token = 0 }) c.sites-list.ensures.same c.sites-list.ensures.kept c.loop-k-test.true

pub loop-k-preserved : goal.loop-k-preserved
loop-k-preserved c =
    let sites = c.sites-list.result.now in
    let picks = c.as_slice-picks.result.now in
    let k = c.loop-k.k in
    ap (λ bs. bs ++ code (plain_sites (drop (k + 1) sites)) (drop (k + 1) picks)) c.in_ok-push_pick.ensures
    ∙ code_more sites picks k (record { kind = kind.Literal 0 false; token = 0 }) (record { on = false; value = 0; form = 0; name = 0 }) c.loop-k-test.true (inside sites c.args.sites.now picks c.args.choice.now.picks.items k c.sites-list.ensures.same c.as_slice-picks.ensures.value c.requires c.loop-k-test.true) c.loop-k.bits.items (code (plain_sites sites) picks) c.loop-k.invariant

pub returns-clause-count : goal.returns-clause-count
returns-clause-count c =
    ap length (code_all c.sites-list.result.now c.as_slice-picks.result.now c.loop-k.k c.loop-k.bits.items (code (plain_sites c.sites-list.result.now) c.as_slice-picks.result.now) c.loop-k-test.false c.loop-k.invariant
    ∙ ap₂ (λ (ss : List Site) (ps : List Pick). code ss ps) c.sites-list.ensures.same c.as_slice-picks.ensures.value)
    ∙ length_code c.args.sites.now c.args.choice.now.picks.items (few_names c.args.sites.now c.sites-list.ensures.kept) c.requires

pub returns-clause-read : goal.returns-clause-read
returns-clause-read c =
    ap (decode c.args.sites.now) (code_all c.sites-list.result.now c.as_slice-picks.result.now c.loop-k.k c.loop-k.bits.items (code (plain_sites c.sites-list.result.now) c.as_slice-picks.result.now) c.loop-k-test.false c.loop-k.invariant
    ∙ ap₂ (λ (ss : List Site) (ps : List Pick). code ss ps) c.sites-list.ensures.same c.as_slice-picks.ensures.value)
    ∙ decode_code c.args.sites.now c.args.choice.now.picks.items (few_names c.args.sites.now c.sites-list.ensures.kept) c.requires
