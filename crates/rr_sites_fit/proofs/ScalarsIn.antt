-- In each instance the names that its module declares as scalars are scalars.
use Rattle.std.proofs.Common.{◌≡◌, ℕ, List, get_or, map, flat_map, Option, Some, None, Ok, refl, sym, subst}
use Rattle.std.specs.List.{AllByRecursion}
use Rattle.rr_syntax.specs.Tree.{Identifier, Range, ModuleItem, Ports, Nets, Variables, Integers, Parameters, Assigns, Always, Initial, Instances, ModuleDeclaration}
use Rattle.rr_expr.specs.Scopes.{Names}
use Rattle.rr_flat.specs.Signals.{Text}
use Rattle.rr_flat.specs.Plain.{Flat}
use Rattle.rr_flat.specs.Writers.{scope_at}
use Rattle.rr_declarations.specs.Values.{range_in}
use Rattle.rr_flatten.specs.Walk.{module_at}
use Rattle.rr_flatten.proofs.HeadOf.{ok_is, all_append as both}
use Rattle.rr_guard.specs.Names.{scalars_if, net_name, wordless_name, port_scalars, item_scalars, scalars}
use Rattle.rr_declared_ranges.specs.Ranges.{IsMade, IsBy, AreBy, ItemBy, AllBy}
use Rattle.rr_declared_ranges.proofs.Scalars.{scope_by}
use Rattle.rr_declared_ranges.proofs.Tops.{Headed}
use Rattle.rr_sites_ordered.proofs.Members.{all_flat, all_weaken}
use Rattle.rr_sites_fit.proofs.Known.{HasScalars}
use Rattle.rr_sites_fit.proofs.Wordless.{wordless_by}

-- a name that is declared without a range has none
range_none : (seen : Names) (o : Option Range) (r : Option (ℕ × ℕ)) → range_in seen o ≡ Ok r → o ≡ None → r ≡ None
unfolding range_in
range_none seen None r e q = sym (ok_is None r e)
range_none seen (Some x) r e q = absurd (cc)

module _ (P : Text → Option (ℕ × ℕ) → Option (ℕ × ℕ) → Type 0) (seen : Names) where
  abbrev Q : Identifier → Type 0
  Q y = P y.text None None

  scalars_hold : (o : Option Range) (list : List Identifier) → AreBy P seen o list → AllByRecursion Q (scalars_if o list)
  scalars_hold None list h = all_weaken (λ (y : Identifier). IsBy P seen None y.text) list (λ y p. subst (λ (r : Option (ℕ × ℕ)). P y.text r None) (range_none seen None p.0 p.1.0 refl) p.1.1) h
  scalars_hold (Some r) list h = tt

  item_hold : (x : ModuleItem) → ItemBy P seen x → AllByRecursion Q (item_scalars x)
  unfolding item_scalars
  item_hold (Ports p) h = scalars_hold p.range (map net_name p.names) h
  item_hold (Nets signed range list) h = scalars_hold range (map net_name list) h
  item_hold (Variables signed range list) h = scalars_hold range (flat_map wordless_name list) (wordless_by P seen range list h)
  item_hold (Integers list) h = tt
  item_hold (Parameters p) h = tt
  item_hold (Assigns pairs) h = tt
  item_hold (Always events body token) h = tt
  item_hold (Initial body token) h = tt
  item_hold (Instances m token overrides list) h = tt

  -- and so the scalars have none
  pub all_scalars : (m : ModuleDeclaration) → AllBy P seen m → AllByRecursion (λ y. P y.text None None) (scalars m)
  unfolding scalars
  all_scalars m h =
      both Q (flat_map port_scalars m.groups) (flat_map item_scalars m.items)
      (all_flat Q port_scalars m.groups (all_weaken (λ p. AreBy P seen p.range (map net_name p.names)) m.groups (λ p g. scalars_hold p.range (map net_name p.names) g) h.groups))
      (all_flat Q item_scalars m.items (all_weaken (ItemBy P seen) m.items item_hold h.items))

pub has_scalars : (ms : List ModuleDeclaration) (flat : Flat) → Headed ms flat.scopes flat.owners flat.signals → HasScalars ms flat
has_scalars ms flat h i l =
    let b = scope_by ms flat h i l in
    let m = module_at ms (get_or flat.owners i 0) in
    all_weaken (λ (y : Identifier). IsMade (scope_at flat i) y.text None None) (scalars m) (λ y s. (s.id, (s.signed, s.means))) (all_scalars (IsMade (scope_at flat i)) b.0 m b.1)
