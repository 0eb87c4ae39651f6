use Rattle.std.proofs.Common.{◌∙◌, ◌++◌, sym, ap, subst, map, Some}
use Rattle.rr_flat.specs.View.{plain_flat}
use Rattle.rr_text_names.specs.Names.{entry, is_the}
use Rattle.rr_clock.specs.Clock.{AreSources, IsClockInput}
use Rattle.rr_clock.specs.Places.{AreNames, clock_names}
use Rattle.rr_clock.specs.View.{plain_name}
use Rattle.rr_clock.proofs.Clocking.{tells}
use Rattle.rr_clock.proofs.Naming.{are_names}
use Rattle.rr_clock.proofs.places.names_of_clock.Goals as goal

pub returns-in_ok-add_names-in-Some : goal.returns-in_ok-add_names-in-Some
returns-in_ok-add_names-in-Some c =
    subst (λ z. AreNames (plain_flat c.args.flat.now) z (map plain_name c.add_names.new.names.items)) (sym c.in-Some.is)
    (are_names (plain_flat c.args.flat.now) c.in-Some.clock (λ x. is_the c.in-Some.clock (entry c.as_slice.result.now x)) (map plain_name c.add_names.new.names.items)
    (tells (plain_flat c.args.flat.now) (entry c.as_slice.result.now) c.in-Some.clock (subst (λ z. AreSources (plain_flat c.args.flat.now) (entry z)) (sym c.as_slice.ensures.value) c.in_ok-table-in-Some.ensures) (subst (IsClockInput (plain_flat c.args.flat.now)) c.in-Some.is c.requires))
    (c.in_ok-add_names-in-Some.ensures
    ∙ ap (λ z. map plain_name z ++ clock_names (plain_flat c.args.flat.now) (λ x. is_the c.in-Some.clock (entry c.as_slice.result.now x))) c.new-names.ensures.items))
