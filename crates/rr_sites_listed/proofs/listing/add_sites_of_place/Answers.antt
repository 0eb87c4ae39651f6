use Rattle.std.proofs.Common.{◌∙◌, sym, ap, subst, ◌++◌, append-nil}
use Rattle.std.specs.List.{AllByRecursion}
use Rattle.rr_syntax.specs.View.{plain_module}
use Rattle.rr_choice.specs.View.{plain_sites}
use Rattle.rr_change_places.specs.Spots.{IsCountable}
use Rattle.rr_guard.proofs.Lists.{all_item}
use Rattle.rr_clock.specs.View.{plain_place}
use Rattle.rr_sites_listed.proofs.Places.{none_there, found_there, place_is, put_behind, fit_there, modules_are}
use Rattle.rr_sites_listed.proofs.listing.add_sites_of_place.Goals as goal

pub add_sites_of_module-requires-clause-few : goal.add_sites_of_module-requires-clause-few
add_sites_of_module-requires-clause-few c =
    all_item IsCountable plain_module c.args.source.now.modules.now c.args.place.now.«module» c.in-Some.module.now c.in-Some.ensures.lookup.3.0 c.in-Some.ensures.lookup.1
    (subst (AllByRecursion IsCountable) (modules_are c.args.source.now) c.requires.few)

pub add_sites_of_module-requires-clause-fit : goal.add_sites_of_module-requires-clause-fit
add_sites_of_module-requires-clause-fit c =
    fit_there c.args.source.now c.args.scopes.now c.args.owners.now (plain_place c.args.place.now) c.in-Some.module.now c.in-Some-scope_of.scope.now
    (found_there c.args.source.now (plain_place c.args.place.now) c.in-Some.module.now c.in-Some.ensures.lookup.3.0 c.in-Some.ensures.lookup.1) c.in-Some-scope_of.ensures c.requires.fit

pub add_sites_of_module-requires-in-None-scope_of-clause-few :
    goal.add_sites_of_module-requires-in-None-scope_of-clause-few
add_sites_of_module-requires-in-None-scope_of-clause-few c =
    all_item IsCountable plain_module c.args.source.now.modules.now c.args.place.now.«module» c.in-Some.module.now c.in-Some.ensures.lookup.3.0 c.in-Some.ensures.lookup.1
    (subst (AllByRecursion IsCountable) (modules_are c.args.source.now) c.requires.few)

pub add_sites_of_module-requires-in-None-scope_of-clause-fit :
    goal.add_sites_of_module-requires-in-None-scope_of-clause-fit
add_sites_of_module-requires-in-None-scope_of-clause-fit c =
    fit_there c.args.source.now c.args.scopes.now c.args.owners.now (plain_place c.args.place.now) c.in-Some.module.now c.new-none.result
    (found_there c.args.source.now (plain_place c.args.place.now) c.in-Some.module.now c.in-Some.ensures.lookup.3.0 c.in-Some.ensures.lookup.1) (c.new-none.ensures ∙ sym c.in-None-scope_of.ensures) c.requires.fit

pub returns-in-None : goal.returns-in-None
returns-in-None c =
    sym (ap (λ z. plain_sites c.args.list.now.items ++ z) (none_there c.args.source.now c.args.scopes.now c.args.owners.now (plain_place c.args.place.now) c.in-None.ensures.lookup.3) ∙ append-nil (plain_sites c.args.list.now.items))

pub returns-in-Some-scope_of : goal.returns-in-Some-scope_of
returns-in-Some-scope_of c =
    put_behind c.add_sites_of_module.result (plain_sites c.add_sites_of_module.new.list.items) (plain_sites c.args.list.now.items) _ _
    (place_is c.args.source.now c.args.scopes.now c.args.owners.now (plain_place c.args.place.now) c.in-Some.module.now c.in-Some-scope_of.scope.now
    (found_there c.args.source.now (plain_place c.args.place.now) c.in-Some.module.now c.in-Some.ensures.lookup.3.0 c.in-Some.ensures.lookup.1) c.in-Some-scope_of.ensures)
    c.add_sites_of_module.ensures

pub returns-in-None-scope_of : goal.returns-in-None-scope_of
returns-in-None-scope_of c =
    put_behind c.add_sites_of_module-in-None-scope_of.result (plain_sites c.add_sites_of_module-in-None-scope_of.new.list.items) (plain_sites c.args.list.now.items) _ _
    (place_is c.args.source.now c.args.scopes.now c.args.owners.now (plain_place c.args.place.now) c.in-Some.module.now c.new-none.result
    (found_there c.args.source.now (plain_place c.args.place.now) c.in-Some.module.now c.in-Some.ensures.lookup.3.0 c.in-Some.ensures.lookup.1) (c.new-none.ensures ∙ sym c.in-None-scope_of.ensures))
    c.add_sites_of_module-in-None-scope_of.ensures
