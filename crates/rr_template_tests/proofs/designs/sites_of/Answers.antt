use Rattle.std.proofs.Common.{◌∙◌, ap}
use Rattle.rr_syntax.specs.View.{plain_source}
use Rattle.rr_flat.specs.View.{Design, plain_flat}
use Rattle.rr_clock.specs.View.{plain_place}
use Rattle.rr_template_tests.proofs.Given.{fit_on}
use Rattle.rr_template_tests.proofs.designs.sites_of.Goals as goal

pub overwrites_of-requires : goal.overwrites_of-requires
overwrites_of-requires c =
    let flat = plain_flat c.args.flat.now in
    fit_on (plain_source c.args.source.now) (plain_place c.args.place.now) flat.scopes c.as_slice.result.now flat.owners c.as_slice-in-Overwrites.result.now
    (c.as_slice.ensures.value ∙ ap (λ (d : Design). d.scopes) c.flat.view_is) (c.as_slice-in-Overwrites.ensures.value ∙ ap (λ (d : Design). d.owners) c.flat.view_is) c.requires.fit
