use Rattle.std.proofs.Common.{◌≡◌, ◌∙◌, sym, ap, ap₂, refl, subst, arith, ℕ, Bool, false, List, ◌+◌, ◌<◌, ◌≤◌, drop, take, get_or, length, length-drop}
use Rattle.std.specs.List.{All}
use Rattle.std.proofs.lemmas.List.{drop-map}
use Rattle.std.proofs.lemmas.List.Elements.{All-drop}
use Rattle.rr_circuit.specs.Values.{IsWire, wire_value, wire_values}
use Rattle.rr_circuit.proofs.Netlists.{AreWires-extends, Extends-refl, Extends-trans, wire_values-extends}
use Rattle.rr_syntax.specs.declared.site.Site.{Site as ArenaSite}
use Rattle.rr_syntax.specs.declared.site.SiteKind.TheVariants as kind
use Rattle.rr_syntax.specs.View.{plain_statement}
use Rattle.rr_choice.specs.Choices.{decode, read_pick, site_bits, total_bits}
use Rattle.rr_instance.specs.Firsts.{first_token}
use Rattle.rr_choice.specs.Sites.{IsSite, Site}
use Rattle.rr_choice.specs.View.{plain_site, plain_sites}
use Rattle.rr_blast_sites.proofs.FindLaws.{plain_at, plain_count, site_at, total_more, total_none, total_room}
use Rattle.rr_blast_stmt.specs.Running.{Values, held}
use Rattle.rr_blast_body.specs.Overwrites.{site_ran, sites_ran}
use Rattle.rr_blast_body.proofs.LastLaws.{sites_done, sites_more}
use Rattle.rr_blast_body.proofs.bodies.run_sites.Goals as goal

abbrev none : ArenaSite
none = record { kind = kind.Literal 0 false; token = 0 }

-- so many bits come before a site, and its own fit
room_at : (list : List ArenaSite) (ss : List Site) (i at count : ℕ) → plain_sites list ≡ ss → count ≡ total_bits ss → i < length list → at ≡ total_bits (take i (plain_sites list)) → at + site_bits (plain_site (get_or list i none)) ≤ count
room_at list ss i at count e n l a =
    let k : i < length (plain_sites list) = omega (arith, plain_count list, l) in
    omega (arith, total_room (plain_sites list) i (plain_site none) k, ap site_bits (plain_at list i none l), a, n, ap total_bits e)

pub loop-site-init : goal.loop-site-init
loop-site-init c = record {
  extends = Extends-refl c.args.b.now;
  machine = c.requires.machine;
  at = total_none (plain_sites c.sites-list.result.now);
  ran = λ env. ap (λ (ss : List Site). sites_ran c.args.scope.now (first_token (plain_statement c.args.stmt.now)) ss (decode ss (wire_values c.args.b.now env c.args.choice.now.wires.now)) (held c.args.b.now env c.args.machine.now)) c.sites-list.ensures.same;
}

pub from_place-bits-requires : goal.from_place-bits-requires
from_place-bits-requires c =
    let r = room_at c.sites-list.result.now c.args.choice.now.sites.now c.loop-site.site-index c.loop-site.at (length c.args.choice.now.wires.now) c.sites-list.ensures.same c.requires.choice.1 c.loop-site-test.true c.loop-site.invariant.at in
    omega (arith, r)

pub run_site-requires-clause-site : goal.run_site-requires-clause-site
run_site-requires-clause-site c = site_at c.sites-list.result.now c.loop-site.site-index none (subst (All IsSite) (sym c.sites-list.ensures.same) c.sites-list.ensures.kept.each) c.loop-site-test.true

pub run_site-requires-clause-room : goal.run_site-requires-clause-room
run_site-requires-clause-room c =
    let r = room_at c.sites-list.result.now c.args.choice.now.sites.now c.loop-site.site-index c.loop-site.at (length c.args.choice.now.wires.now) c.sites-list.ensures.same c.requires.choice.1 c.loop-site-test.true c.loop-site.invariant.at in
    omega (arith, r, ap length c.from_place-bits.ensures, length-drop c.loop-site.at c.args.choice.now.wires.now)

pub run_site-requires-clause-bits : goal.run_site-requires-clause-bits
run_site-requires-clause-bits c =
    rw c.from_place-bits.ensures (AreWires-extends c.args.b.now c.loop-site.b (drop c.loop-site.at c.args.choice.now.wires.now) c.loop-site.invariant.extends (All-drop (IsWire c.args.b.now) c.loop-site.at c.args.choice.now.wires.now c.requires.choice.0))

pub behind-at-requires-clause-site : goal.behind-at-requires-clause-site
behind-at-requires-clause-site c = site_at c.sites-list.result.now c.loop-site.site-index none (subst (All IsSite) (sym c.sites-list.ensures.same) c.sites-list.ensures.kept.each) c.loop-site-test.true

pub behind-at-requires-clause-room : goal.behind-at-requires-clause-room
behind-at-requires-clause-room c =
    let r = room_at c.sites-list.result.now c.args.choice.now.sites.now c.loop-site.site-index c.loop-site.at (length c.args.choice.now.wires.now) c.sites-list.ensures.same c.requires.choice.1 c.loop-site-test.true c.loop-site.invariant.at in
    omega (arith, r)

pub loop-site-preserved : goal.loop-site-preserved
loop-site-preserved c =
    let h = c.loop-site.invariant in
    let x = c.in_ok-run_site.ensures in
    let list : List ArenaSite = c.sites-list.result.now in
    let i : ℕ = c.loop-site.site-index in
    let at : ℕ = c.loop-site.at in
    let wires = c.args.choice.now.wires.now in
    let k : i < length (plain_sites list) = omega (arith, plain_count list, c.loop-site-test.true) in
    let item : ArenaSite = get_or list i none in
    record {
      extends = Extends-trans _ _ _ h.extends x.extends;
      machine = rw (sym h.machine.now_widths) x.machine;
      at = c.behind-at.ensures ∙ ap₂ (λ (m n : ℕ). m + n) h.at (ap site_bits (sym (plain_at list i none c.loop-site-test.true))) ∙ sym (total_more (plain_sites list) i (plain_site none) k);
      ran = λ env.
          let v : Values = held c.loop-site.b env c.loop-site.machine in
          let vs : List Bool = wire_values c.args.b.now env wires in
          let here : wire_values c.loop-site.b env c.from_place-bits.result.now ≡ drop at vs =
          ap (wire_values c.loop-site.b env) c.from_place-bits.ensures
          ∙ wire_values-extends c.args.b.now c.loop-site.b (drop at wires) env h.extends (All-drop (IsWire c.args.b.now) at wires c.requires.choice.0)
          ∙ sym (drop-map (wire_value c.args.b.now env) at wires) in
          sites_more c.args.scope.now (first_token (plain_statement c.args.stmt.now)) list i (i + 1) at c.behind-at.result item none vs v _ _ c.loop-site-test.true refl refl c.behind-at.ensures
          (x.ran env ∙ ap₂ (λ (token : ℕ) (us : List Bool). site_ran c.args.scope.now token (plain_site item) (read_pick (plain_site item) us) v) c.first_token-token.ensures here)
          (h.ran env);
    }

pub returns-clause-ran : goal.returns-clause-ran
returns-clause-ran c = λ env.
    sites_done c.args.scope.now (first_token (plain_statement c.args.stmt.now)) c.sites-list.result.now c.loop-site.site-index (drop c.loop-site.at (wire_values c.args.b.now env c.args.choice.now.wires.now)) _ _ c.loop-site-test.false (c.loop-site.invariant.ran env)
