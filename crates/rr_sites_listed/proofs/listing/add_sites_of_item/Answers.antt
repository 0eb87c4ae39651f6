use Rattle.std.proofs.Common.{◌∙◌, ap, ◌++◌, map}
use Rattle.std.specs.Prelude.{flat_map}
use Rattle.rr_syntax.specs.View.{plain_identifier, plain_item}
use Rattle.rr_choice.specs.View.{plain_sites}
use Rattle.rr_change_places.specs.Spots.{is_clocked, spots_of_item}
use Rattle.rr_change_places.specs.View.{plain_spots}
use Rattle.rr_guard.specs.Names.{first_names, names_at}
use Rattle.rr_guard.proofs.GuardLists.{flat_map_same}
use Rattle.rr_sites_listed.specs.Listing.{sites_by}
use Rattle.rr_sites_listed.proofs.Places.{sites_same}
use Rattle.rr_sites_listed.proofs.listing.add_sites_of_item.Goals as goal

pub returns : goal.returns
returns c = λ m clocks hv hg.
    c.in_ok-add_sites_at.ensures m hv
    ∙ ap (λ z. plain_sites c.args.list.now.items ++ z)
    (ap (λ xs. flat_map (sites_by m c.args.«module» c.args.scope.now (first_names (map plain_identifier c.of_item.result.now))) (plain_spots xs)) c.as_slice.ensures.value
    ∙ (ap (λ ss. flat_map (sites_by m c.args.«module» c.args.scope.now (first_names (map plain_identifier c.of_item.result.now))) ss) c.in_ok-spots.ensures
    ∙ flat_map_same (sites_by m c.args.«module» c.args.scope.now (first_names (map plain_identifier c.of_item.result.now))) (sites_by m c.args.«module» c.args.scope.now (names_at m clocks (is_clocked (plain_item c.args.item.now))))
    (sites_same m c.args.«module» c.args.scope.now (first_names (map plain_identifier c.of_item.result.now)) (names_at m clocks (is_clocked (plain_item c.args.item.now)))
    (λ token. c.of_item.ensures m clocks hg token ∙ ap (λ b. names_at m clocks b token) c.is_clocked.ensures)) (spots_of_item (plain_item c.args.item.now))))
