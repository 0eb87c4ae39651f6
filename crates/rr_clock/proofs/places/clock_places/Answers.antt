use Rattle.std.proofs.Common.{◌∙◌, ap, sym, subst, map}
use Rattle.rr_flat.specs.View.{Design, plain_flat}
use Rattle.rr_clock.specs.Places.{AreNames}
use Rattle.rr_clock.specs.View.{plain_name}
use Rattle.rr_clock.proofs.Naming.{places_right}
use Rattle.rr_clock.proofs.places.clock_places.Goals as goal

pub returns : goal.returns
returns c =
    places_right (plain_flat c.args.flat.now) c.args.clock (map plain_name c.as_slice.result.now) c.as_slice-2.result.now c.places_of.result
    (subst (λ z. AreNames (plain_flat c.args.flat.now) c.args.clock (map plain_name z)) (sym c.as_slice.ensures.value) c.in_ok-names.ensures) (c.as_slice-2.ensures.value ∙ ap (λ (d : Design). d.reached) c.flat.view_is) c.places_of.ensures
