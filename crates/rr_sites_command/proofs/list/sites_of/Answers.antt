use Rattle.std.proofs.Common.{◌≡◌, ◌∙◌, ap, List, map}
use Rattle.rr_flat.specs.View.{Design}
use Rattle.rr_syntax.specs.View.{plain_source}
use Rattle.rr_flat.specs.View.{plain_flat}
use Rattle.rr_clock.specs.View.{plain_place}
use Rattle.rr_choice.specs.Sites.{Site}
use Rattle.rr_lawful_instance.specs.Listed.{AreRight}
use Rattle.rr_sites_listed.specs.Listing.{sites_of as sites_in}
use Rattle.rr_sites_fit.proofs.Fit.{places_rise, scopes_fit}
use Rattle.rr_sites_command.specs.Lists.{AreSites}
use Rattle.rr_sites_command.proofs.Given.{fit_on, list_on, if_ok, right}
use Rattle.rr_sites_command.proofs.list.sites_of.Goals as goal

pub list_of-requires-clause-rising : goal.list_of-requires-clause-rising
list_of-requires-clause-rising c =
    places_rise (plain_source c.args.source.now) c.requires.design.0 (plain_flat c.args.flat.now) c.args.clock (map plain_place c.in_ok-places.places.now) c.requires.design.1 c.in_ok-places.ensures

pub list_of-requires-clause-fit : goal.list_of-requires-clause-fit
list_of-requires-clause-fit c =
    fit_on (plain_source c.args.source.now) (map plain_place c.in_ok-places.places.now) (plain_flat c.args.flat.now).scopes c.as_slice.result.now (plain_flat c.args.flat.now).owners c.as_slice-2.result.now
    (c.as_slice.ensures.value ∙ ap (λ (d : Design). d.scopes) c.flat.view_is) (c.as_slice-2.ensures.value ∙ ap (λ (d : Design). d.owners) c.flat.view_is)
    (scopes_fit (plain_source c.args.source.now) c.requires.design.0 (plain_flat c.args.flat.now) c.args.clock (map plain_place c.in_ok-places.places.now) c.requires.design.1 c.in_ok-places.ensures)

pub returns-clause-list : goal.returns-clause-list
returns-clause-list c =
    if_ok (λ (list : List Site). list ≡ sites_in (plain_source c.args.source.now) c.as_slice.result.now c.as_slice-2.result.now (map plain_place c.in_ok-places.places.now))
    (λ (list : List Site). AreSites (plain_source c.args.source.now) (plain_flat c.args.flat.now) c.args.clock list) c.list_of.result
    (λ list e. (
      map plain_place c.in_ok-places.places.now,
      c.in_ok-places.ensures,
      list_on (plain_source c.args.source.now) (map plain_place c.in_ok-places.places.now) (plain_flat c.args.flat.now).scopes c.as_slice.result.now (plain_flat c.args.flat.now).owners c.as_slice-2.result.now
          (c.as_slice.ensures.value ∙ ap (λ (d : Design). d.scopes) c.flat.view_is) (c.as_slice-2.ensures.value ∙ ap (λ (d : Design). d.owners) c.flat.view_is) list e,
    )) c.list_of.ensures

pub returns-clause-right : goal.returns-clause-right
returns-clause-right c = λ word rising l o.
    if_ok (λ (list : List Site). list ≡ sites_in (plain_source c.args.source.now) c.as_slice.result.now c.as_slice-2.result.now (map plain_place c.in_ok-places.places.now))
    (λ (list : List Site). AreRight (plain_source c.args.source.now) (plain_flat c.args.flat.now) word list) c.list_of.result
    (λ list e. right (plain_source c.args.source.now) c.requires.design.0 (plain_flat c.args.flat.now) c.requires.formed c.requires.numbered c.requires.design.1 word c.args.clock rising (map plain_place c.in_ok-places.places.now) l o c.in_ok-places.ensures list
    (list_on (plain_source c.args.source.now) (map plain_place c.in_ok-places.places.now) (plain_flat c.args.flat.now).scopes c.as_slice.result.now (plain_flat c.args.flat.now).owners c.as_slice-2.result.now (c.as_slice.ensures.value ∙ ap (λ (d : Design). d.scopes) c.flat.view_is) (c.as_slice-2.ensures.value ∙ ap (λ (d : Design). d.owners) c.flat.view_is) list e)) c.list_of.ensures
