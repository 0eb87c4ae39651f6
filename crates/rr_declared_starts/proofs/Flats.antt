-- The signals of a flat design begin with what the declarations of their modules give them.
use Rattle.std.proofs.Common.{◌≡◌, ◌∙◌, sym, ap, ℕ, ◌+◌, ◌-◌, ◌<◌, ◌≤◌, List, length, Some, refl, subst, arith}
use Rattle.std.specs.List.{AllByRecursion, Contains, IsDistinct}
use Rattle.std.specs.Str.{bytes_eq}
use Rattle.std.proofs.lemmas.List.Elements.{All-from_recursion, recursion_from_All}
use Rattle.rr_syntax.specs.Tree.{SourceText}
use Rattle.rr_expr.specs.Scopes.{Names, lookup, meant, or_instance}
use Rattle.rr_expr.specs.declared.types.Entity.{Entity}
use Rattle.rr_expr.specs.declared.types.Entity.TheVariants as entity
use Rattle.rr_flat.specs.Plain.{Flat}
use Rattle.rr_flat.specs.Signals.{Text, Signal, signal_at, no_signal}
use Rattle.rr_flat.specs.Writers.{scope_at, entity_of_signal}
use Rattle.rr_flat.proofs.Lists.{all_index}
use Rattle.rr_flatten.proofs.HeadOf.{all_weaker}
use Rattle.rr_flat_laws.specs.Names.{module_of, IsSignalOf, NamesAre}
use Rattle.rr_flat_laws.proofs.Naming.{Is, StandsFor, Fine, named_as, fine_design, names_of_design}
use Rattle.rr_flat_laws.proofs.Texts.{all_in, in_all}
use Rattle.rr_declared_ranges.proofs.Once.{found, IsItsName, head_names, entity_found}
use Rattle.rr_declared_ranges.proofs.Tops.{Headed, heads}
use Rattle.rr_declared_starts.specs.Starts.{Valued, names_in, values_at, BeginsAs, IsGiven}
use Rattle.rr_declared_starts.specs.Laws.{DeclaredValuesAreStarts}
use Rattle.rr_declared_starts.proofs.Constants.{Carries, begins_too}
use Rattle.rr_declared_starts.proofs.Stepping.{Right}
use Rattle.rr_declared_starts.proofs.Heads.{founded}

-- Signals

right_too : (a b : Names) (vs : List Valued) (s : Signal) → Carries a b → Right a vs s → Right b vs s
right_too a b vs s h r = record {
  given = all_weaker (λ v. v.name ≡ s.name → BeginsAs a v s) (λ v. v.name ≡ s.name → BeginsAs b v s) vs (λ v g e. begins_too a b h v s (g e)) r.given;
  none = r.none;
}

found_meant : (names : Names) (name : Text) (e : Entity) → lookup name names ≡ Some e → meant names name ≡ e
unfolding meant
found_meant names name e h = ap or_instance h

-- a signal for which a name of a head stands is one of its signals
in_head : (ss : List Signal) (i base : ℕ) (all : List Signal) (name : Text) (e : Entity) (id : ℕ) → StandsFor ss i name e id → IsItsName base all name e → (base ≤ id) × (id < base + length all)
in_head ss i base all name (entity.Constant bits signed) id s n = absurd s
in_head ss i base all name (entity.Signal k range signed) id s n =
    let e = s.0 in
    let low = n.0 in
    let high = n.1 in
    (omega (arith, e, low), omega (arith, e, high))
in_head ss i base all name (entity.Memory first low words range signed) id s n =
    let a = s.0 in
    let b = s.1 in
    let begins = n.0 in
    let ends = n.1 in
    (omega (arith, a, begins), omega (arith, b, ends))
in_head ss i base all name entity.Instance id s n = absurd s

no_instance : (ss : List Signal) (i : ℕ) (name : Text) (e : Entity) (id : ℕ) → StandsFor ss i name e id → e ≡ entity.Instance → ⊥
no_instance ss i name e id s q = subst (λ (x : Entity). StandsFor ss i name x id) q s

-- a signal of an instance is one of the head of its module
module _ (source : SourceText) (flat : Flat) (names : NamesAre source flat) (fine : Fine source.modules flat.signals flat.scopes flat.owners) (h : Headed source.modules flat.scopes flat.owners flat.signals) where
  right_at : (i id : ℕ) (name : Text) → i < length flat.owners → Is flat.signals i name id → Right (scope_at flat i) (values_at source flat i) (signal_at flat.signals id)
  right_at i id name l is =
      let even = h.even in
      let f = h.each i (omega (arith, l, even)) in
      let s : Signal = signal_at flat.signals id in
      let x = founded i f.base f.bits f.given (module_of source flat i) f.top f.is in
      let q = named_as source.modules flat.signals flat.scopes flat.owners i name id fine is in
      let means : meant f.top.scope name ≡ q.meaning = f.alike name ∙ found_meant (scope_at flat i) name q.meaning q.found in
      let n = found (IsItsName f.base f.top.signals) f.top.scope name q.meaning (head_names i f.base f.bits f.given (module_of source flat i) f.top f.is)
      (entity_found f.top.scope name q.meaning means (no_instance flat.signals i name q.meaning id q.stands)) in
      let w = in_head flat.signals i f.base f.top.signals name q.meaning id q.stands n in
      let low = w.0 in
      let high = w.1 in
      let inside : id - f.base < length f.top.signals = omega (arith, low, high) in
      let y : f.base + (id - f.base) ≡ id = omega (arith, low) in
      let same : s ≡ signal_at f.top.signals (id - f.base) = ap (λ (k : ℕ). signal_at flat.signals k) (sym y) ∙ f.same (id - f.base) inside in
      subst (Right (scope_at flat i) (values_at source flat i)) (sym same)
      (right_too x.seen (scope_at flat i) (values_at source flat i) (signal_at f.top.signals (id - f.base)) (λ t c. x.carries t c ∙ f.alike t)
      (all_index (Right x.seen (values_at source flat i)) f.top.signals (id - f.base) no_signal x.begin inside))

  begins_at : (i id : ℕ) → i < length flat.owners → (v : Valued) → Contains (values_at source flat i) v → IsSignalOf flat i v.name id → BeginsAs (scope_at flat i) v (signal_at flat.signals id)
  begins_at i id l v c s =
      let r = right_at i id v.name l (s.there, (s.instance, s.named)) in
      in_all (λ (v : Valued). v.name ≡ (signal_at flat.signals id).name → BeginsAs (scope_at flat i) v (signal_at flat.signals id)) (values_at source flat i) v r.given c (sym s.named)

  given_at : (i : ℕ) → i < length flat.owners → (v : Valued) → Contains (values_at source flat i) v → IsGiven (module_of source flat i) flat i v
  given_at i l v c = record {
    one = λ k.
        let o = names.one i v.name l k in
        record { id = o.id; is = o.is; means = found_meant (scope_at flat i) v.name (entity_of_signal flat o.id) o.found; begins = begins_at i o.id l v c o.is };
    each = λ id s. begins_at i id l v c s;
  }

  once_at : (i : ℕ) → i < length flat.owners → IsDistinct bytes_eq (names_in (values_at source flat i))
  once_at i l =
      let even = h.even in
      let f = h.each i (omega (arith, l, even)) in
      (founded i f.base f.bits f.given (module_of source flat i) f.top f.is).once

  none_at : (id : ℕ) → id < length flat.signals → AllByRecursion (λ (v : Valued). v.name ≡ (signal_at flat.signals id).name → ⊥) (values_at source flat (signal_at flat.signals id).instance) → (signal_at flat.signals id).start ≡ 0
  none_at id l w =
      let s : Signal = signal_at flat.signals id in
      (right_at s.instance id s.name (names.named id l).there (l, (refl, refl))).none w

pub starts_of_design : DeclaredValuesAreStarts
starts_of_design source top flat e =
    let names = names_of_design source top flat e in
    let fine = fine_design source top flat e in
    let h = heads source top flat e in
    record {
      given = λ i l. All-from_recursion (IsGiven (module_of source flat i) flat i) (values_at source flat i) (all_in (IsGiven (module_of source flat i) flat i) (values_at source flat i) (given_at source flat names fine h i l));
      once = once_at source flat names fine h;
      none = λ id l w.
          none_at source flat names fine h id l
          (recursion_from_All (λ (v : Valued). v.name ≡ (signal_at flat.signals id).name → ⊥) (values_at source flat (signal_at flat.signals id).instance) w);
    }
