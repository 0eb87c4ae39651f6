-- The list of sites that a text has is the list of its source.
use Rattle.std.proofs.Common.{◌≡◌, ℕ, ◌<◌, List, length, get_or, Contains, sym, subst}
use Rattle.rr_syntax.specs.Words.{Word}
use Rattle.rr_flatten.proofs.Limits.{design_stays}
use Rattle.rr_choice.specs.Sites.{Site}
use Rattle.rr_sites_complete.specs.Laws.{IsGiven}
use Rattle.rr_sites_complete.specs.Order.{ComesBefore, Ordered}
use Rattle.rr_sites_complete.specs.Spelled.{IsSpelled}
use Rattle.rr_sites_complete.proofs.Members.{listed_are_sites, sites_are_listed}
use Rattle.rr_sites_complete.proofs.Orders.{sites_rise, sites_stand_once}
use Rattle.rr_sites_complete.proofs.ToldSites.{sites_spelled}
use Rattle.rr_sites_fit.proofs.Fit.{places_rise}
use Rattle.rr_sites_command.proofs.Given.{formed, numbered}
use Rattle.rr_sites_exact.specs.Exact.{FileListsAreExact, ListsAreExact}

pub lists_are_exact : ListsAreExact
lists_are_exact bytes top word tokens ss h =
    let source = h.source in
    let scopes = h.flat.scopes in
    let owners = h.flat.owners in
    let places = h.are.0 in
    let e = h.are.2 in
    let g : IsGiven source places = record {
      formed = formed bytes tokens source top h.flat h.design;
      numbered = numbered bytes tokens source top h.flat h.design;
      rising = places_rise source top h.flat h.clock places (design_stays 1048576 source top h.flat h.design.flat) h.are.1;
    } in
    record {
      places = places;
      are_places = h.are.1;
      each = λ s. (
        λ c. listed_are_sites source scopes owners places g s (subst (λ (l : List Site). Contains l s) e c),
        λ k. subst (λ (l : List Site). Contains l s) (sym e) (sites_are_listed source scopes owners places g s k),
      );
      order = subst (Ordered (ComesBefore source)) (sym e) (sites_rise source scopes owners places g);
      once = subst (λ (l : List Site). (j k : ℕ) (d : Site) → j < k → k < length l → get_or l j d ≡ get_or l k d → ⊥) (sym e) (sites_stand_once source scopes owners places g);
      spelled = λ s k. subst (λ (ws : List Word). IsSpelled ws k.is) h.design.text.spells.tree.spells.spelled (sites_spelled source scopes owners places g s k);
    }

pub file_lists_are_exact : FileListsAreExact
file_lists_are_exact file top word read ss h =
    lists_are_exact read.text top word read.tokens h.listed
    (record { source = read.source; flat = h.flat; clock = h.clock; rising = h.rising; design = h.design; lawful = h.lawful; one_clock = h.one_clock; are = h.are })
