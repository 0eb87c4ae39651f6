-- The places of a lawful design have each name that leads to its clock.
use Rattle.std.proofs.Common.{◌≡◌, ◌∙◌, ℕ, ◌<◌, Bool, List, [], ◌∷◌, length, get_or, Option, Some, None, sym, subst, ap, suc, arith}
use Rattle.std.specs.List.{AllByRecursion, Contains}
use Rattle.rr_syntax.specs.Tree.{SourceText}
use Rattle.rr_flat.specs.Clocks.{NameLeads}
use Rattle.rr_flat.specs.Plain.{Flat}
use Rattle.rr_flat.specs.Signals.{Text}
use Rattle.rr_clock.specs.Places.{Place, IsClock, IsPlace, owner_at}
use Rattle.rr_lawful.proofs.ClockOnce.{one_clock}
use Rattle.rr_declared_ranges.proofs.Once.{located}
use Rattle.rr_declared_ranges.proofs.Tops.{heads}
use Rattle.rr_sites_fit.specs.Laws.{HasClocks, IsGiven}

all_at : {X : Type 0} (P : X → Type 0) (xs : List X) → ((k : ℕ) (d : X) → k < length xs → P (get_or xs k d)) → AllByRecursion P xs
all_at P [] h = tt
all_at P (x ∷ xs) h = (h 0 x (omega arith), all_at P xs (λ k d l. h (suc k) d (omega (arith, l))))

module _ (source : SourceText) (top : Option Text) (flat : Flat) (word : Option Text) (clock : Option ℕ) (rising : Bool) (places : List Place) (g : IsGiven source top flat word clock rising places) where
  -- a name that leads there in an instance of the module is one that the place tells
  name_is : (p : Place) → IsPlace flat clock p → (i : ℕ) → i < length flat.scopes → owner_at flat i ≡ p.owner → (c : ℕ) → clock ≡ Some c → (name : Text) → NameLeads flat c i name → Contains p.clocks name
  name_is p is i l o c e name leads =
      let f = located source.modules flat (heads source top flat g.design) i l name leads.0 None leads.1.0 leads.1.1.0 in
      is.all name (record {
        signal = leads.0;
        inside = f.there;
        is = ap (owner_at flat) f.instance ∙ o;
        named = f.named;
        leads = subst (λ (j : ℕ). IsClock flat clock j name) (sym f.instance) (subst (λ (w : Option ℕ). IsClock flat w i name) (sym e) leads);
      })

  has : (p : Place) → IsPlace flat clock p → HasClocks flat word p
  has p is i l o c (direction, one) name leads = name_is p is i l o c (one_clock flat word clock (Some c) rising direction g.one_clock one).0 name leads

  pub has_clocks : AllByRecursion (HasClocks flat word) places
  has_clocks = all_at (HasClocks flat word) places (λ k d l. has (get_or places k d) (g.told.right k d l))
