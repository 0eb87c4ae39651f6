-- The names that are listed may be guards.
use Rattle.std.proofs.Common.{◌≡◌, ℕ, ◌<◌, Bool, true, false, not, ◌&&◌, ◌||◌, if◌then◌else◌, List, [], ◌∷◌, length, map, filter, flat_map, Option, None, refl, sym, subst, ap, ◌∙◌, arith, nat_eq, pos}
use Rattle.std.specs.List.{AllByRecursion, Contains, list_any}
use Rattle.std.specs.Str.{bytes_eq}
use Rattle.std.proofs.lemmas.Bool.{and_parts, both_ways, not-true, and_from, eq-eqb, true≢false}
use Rattle.std.proofs.lemmas.Slice.Eq.{bytes_eq-Decides}
use Rattle.rr_syntax.specs.Tree.{Tree, Name, Literal, Bit as BitSelect, Part, Indexed, Unary, Binary, Cond, Concat, Repeat, Cast, Paren, Identifier, Statement, EventControl, ModuleItem, Ports, Nets, Variables, Integers, Parameters, Assigns, Always, Initial, Instances, ModuleDeclaration}
use Rattle.rr_expr.specs.declared.types.Bit.{Bit}
use Rattle.rr_expr.specs.declared.types.Entity.TheVariants.{Signal as SignalEntity}
use Rattle.rr_expr.specs.Scopes.{Names, meant, entity_shape}
use Rattle.rr_flat.specs.Signals.{Text}
use Rattle.rr_flat.specs.Lawful.{AssignedIn}
use Rattle.rr_flat.specs.Plain.{Flat}
use Rattle.rr_flat.specs.Reads.{Assigned, assigned_by, writes}
use Rattle.rr_flat_laws.specs.Blocks.{unfolded_at}
use Rattle.rr_flat.specs.Targets.{variable_of, target_bits, bits_there, has_bit, may_write, part_name}
use Rattle.rr_unfold.specs.Unfold.{unfold_statement}
use Rattle.rr_flatten.specs.Walk.{module_at}
use Rattle.rr_flat.specs.Writers.{scope_at, block_at, no_block}
use Rattle.rr_flat.proofs.Lists.{all_index}
use Rattle.rr_flat_instance.specs.Places.{owner_at}
use Rattle.rr_instance_laws.specs.Truth.{IsScalar}
use Rattle.rr_lawful_instance.specs.AreSites.{IsRegister, MayGuard}
use Rattle.rr_lawful_instance.specs.Listed.{items_of, MayGuardIf}
use Rattle.rr_lawful_instance.proofs.Lists.{by_element, holds_of}
use Rattle.rr_lawful_instance.proofs.Origins.{BlockFrom, From}
use Rattle.rr_lawful_instance.proofs.Unfolded.{outside}
use Rattle.rr_sites_fit.specs.Laws.{HasClocks}
use Rattle.rr_clock.specs.Places.{Place}
use Rattle.rr_change_places.specs.Spots.{has_edges}
use Rattle.rr_guard.specs.Anywhere.{assigned_anywhere, anywhere_at_edges}
use Rattle.rr_guard.specs.Names.{scalars, firsts, assigned_at_edges, whole_name, is_text, is_now, is_later, writes_now, writes_later, may_guard, guard_names, is_before, first_names, names_at}
use Rattle.rr_sites_fit.proofs.Known.{Known}
use Rattle.rr_sites_ordered.proofs.Members.{all_filter, all_weaken, all_take, all_map, all_flat, all_firsts}
use Rattle.rr_sites_fit.proofs.Tests.{none_in, some_in, parts_of_flat}
use Rattle.rr_sites_fit.proofs.Unfolded.{unfolded_named}
use Rattle.rr_lawful_instance.proofs.Written.{targets_write}

-- a scalar as a whole is written
whole_writes : (s : Names) (t : Tree) (name : Text) (id : ℕ) (signed : Bool) → is_text name (whole_name t) ≡ true → meant s name ≡ SignalEntity id None signed → may_write s (t ∷ []) (record { signal = id; place = 0 }) ≡ true
unfolding may_write target_bits bits_there has_bit
whole_writes s (Name token x) name id signed h e =
    let is : x ≡ name = (bytes_eq-Decides x name).0 h in
    let b : Bit = record { signal = id; place = 0 } in
    let q : nat_eq id id ≡ true = eq-eqb id id refl in
    ap (λ x. has_bit (bits_there x (pos 0) (entity_shape x).width) b || false) (ap (meant s) is ∙ e) ∙ ap (λ z. ((z && true) || false) || false) q
whole_writes s (Literal token n) name id signed h e = absurd (both_ways false refl h)
whole_writes s (BitSelect token x i) name id signed h e = absurd (both_ways false refl h)
whole_writes s (Part token x l r) name id signed h e = absurd (both_ways false refl h)
whole_writes s (Indexed token x f n up) name id signed h e = absurd (both_ways false refl h)
whole_writes s (Unary op t) name id signed h e = absurd (both_ways false refl h)
whole_writes s (Binary op l r) name id signed h e = absurd (both_ways false refl h)
whole_writes s (Cond a b c) name id signed h e = absurd (both_ways false refl h)
whole_writes s (Concat ts) name id signed h e = absurd (both_ways false refl h)
whole_writes s (Repeat n ts) name id signed h e = absurd (both_ways false refl h)
whole_writes s (Cast sg t) name id signed h e = absurd (both_ways false refl h)
whole_writes s (Paren t) name id signed h e = absurd (both_ways false refl h)

-- an element of a list that holds by recursion
abbrev later_at : Names → Bit → Type 0 → Assigned → Type 0
later_at s b W a = a.now ≡ false → may_write s (a.part ∷ []) b ≡ true → W

module _ (ms : List ModuleDeclaration) (flat : Flat) (known : Known ms flat) (from : From ms [] flat) (word : Option Text) (p : Place) (hc : HasClocks flat word p) (i : ℕ) (there : i < length flat.scopes) (o : owner_at flat i ≡ p.owner) where
  abbrev m : ModuleDeclaration
  m = module_at ms p.owner

  -- in the module of an instance
  here : (x : ModuleItem) → Contains m.items x → Contains (items_of ms (owner_at flat i)) x
  here x c = subst (λ k. Contains (items_of ms k) x) (sym o) c

  there_in : (j : ℕ) → i ≡ j → (x : ModuleItem) → Contains (items_of ms (owner_at flat j)) x → Contains m.items x
  there_in j e x c = subst (λ k. Contains (items_of ms k) x) (ap (owner_at flat) (sym e) ∙ o) c

  module _ (name : Text) (id : ℕ) (signed : Bool) (is : meant (scope_at flat i) name ≡ SignalEntity id None signed) where
    -- no block writes it by `=` where the module has none that does, in its loops or outside
    item_now : (x : ModuleItem) (events : EventControl) (body : Statement) (at : ℕ) → x ≡ Always events body at → has_edges events ≡ true → AllByRecursion (λ a. is_now name a ≡ false) (anywhere_at_edges x) →
        AllByRecursion (λ a. is_now name a ≡ false) (assigned_anywhere body)
    unfolding anywhere_at_edges
    item_now x events body at e h k =
        let f : AllByRecursion (λ a. is_now name a ≡ false) (if has_edges events then assigned_anywhere body else []) = subst (λ y. AllByRecursion (λ a. is_now name a ≡ false) (anywhere_at_edges y)) e k in
        subst (λ b. AllByRecursion (λ a. is_now name a ≡ false) (if b then assigned_anywhere body else [])) h f

    not_now : writes_now m name ≡ false → (k : ℕ) → k < length flat.clocked → AssignedIn flat (block_at flat.clocked k) id true → ⊥
    not_now w k l (n, (a, (inside, at, now, means))) =
        let b = all_index (BlockFrom ms [] true flat.owners) flat.clocked k no_block from.clocked l in
        let even = from.even in
        let scope : (block_at flat.clocked k).scope < length flat.scopes = omega (arith, b.0, even) in
        let q = known.once i (block_at flat.clocked k).scope there scope name (part_name a.part) id (ap variable_of is) means in
        let events = b.1.0 in
        let token = b.1.1.0 in
        let source = b.1.1.1.0 in
        let origin = b.1.1.1.1 in
        let x : ModuleItem = Always events source token in
        let c : Contains m.items x = there_in (block_at flat.clocked k).scope q.0 x origin.0 in
        let each = parts_of_flat (λ a. is_now name a ≡ false) anywhere_at_edges m.items (none_in (is_now name) (flat_map anywhere_at_edges m.items) w) in
        let anywhere = item_now x events source token refl origin.1 (holds_of (λ x. AllByRecursion (λ a. is_now name a ≡ false) (anywhere_at_edges x)) m.items x each c) in
        let unfolded : AllByRecursion (λ a. is_now name a ≡ false) (assigned_by (unfold_statement origin.2.0 [] source)) =
        unfolded_named (λ (text : Text) (kind : Bool). (kind && bytes_eq text name) ≡ false) origin.2.0 [] source anywhere in
        let body = subst (λ t. AllByRecursion (λ a. is_now name a ≡ false) (assigned_by t)) (sym origin.2.1) unfolded in
        let missed : is_now name a ≡ false = holds_of (λ a. is_now name a ≡ false) (assigned_by (block_at flat.clocked k).body) a body (n, inside, at) in
        let met : is_now name a ≡ true = and_from a.now (bytes_eq (part_name a.part) name) now ((bytes_eq-Decides (part_name a.part) name).1 (sym q.1)) in
        true≢false (sym met ∙ missed)

    -- a block writes it by `<=` where the module has one that does
    abbrev bit : Bit
    bit = record { signal = id; place = 0 }

    later_of : (a : Assigned) → later_at (scope_at flat i) bit (IsRegister flat id) a → is_later name a ≡ true → IsRegister flat id
    later_of a h e = let q = and_parts (not a.now) (is_text name (whole_name a.part)) e in h (not-true a.now q.0) (whole_writes (scope_at flat i) a.part name id signed q.1 is)

    block_later : (body : Statement) → (k : ℕ) → k < length flat.clocked → (block_at flat.clocked k).scope ≡ i → (block_at flat.clocked k).body ≡ body → writes false (scope_at flat i) body bit ≡ true → IsRegister flat id
    block_later body k l s e w = (k, (l, ap (λ j. writes false (scope_at flat j) (block_at flat.clocked k).body bit) s ∙ (ap (λ t. writes false (scope_at flat i) t bit) e ∙ w)))

    item_later : (x : ModuleItem) → Contains m.items x → AllByRecursion (λ a. is_later name a ≡ true → IsRegister flat id) (assigned_at_edges x)
    unfolding assigned_at_edges
    item_later (Ports q) c = tt
    item_later (Nets sg range list) c = tt
    item_later (Variables sg range list) c = tt
    item_later (Integers list) c = tt
    item_later (Parameters q) c = tt
    item_later (Assigns pairs) c = tt
    item_later (Always events body at) c = by (has_edges events) refl
      where
        by : (b : Bool) → has_edges events ≡ b → AllByRecursion (λ a. is_later name a ≡ true → IsRegister flat id) (if b then assigned_by body else [])
        by false e = tt
        by true e =
            let k = known.blocks i there events body at (here (Always events body at) c) e in
            let unfolded = unfolded_at flat i body in
            all_weaken (later_at (scope_at flat i) bit (IsRegister flat id)) (assigned_by body) later_of
            (outside (scope_at flat i) (later_at (scope_at flat i) bit (IsRegister flat id)) body
            (targets_write false (scope_at flat i) bit (IsRegister flat id) unfolded (block_later unfolded k.0 k.1.0 k.1.1.0 k.1.1.1)))
    item_later (Initial body token) c = tt
    item_later (Instances q at over list) c = tt

    register : writes_later m name ≡ true → IsRegister flat id
    register w =
        some_in (IsRegister flat id) (is_later name) (flat_map assigned_at_edges m.items) w
        (all_flat (λ a. is_later name a ≡ true → IsRegister flat id) assigned_at_edges m.items (by_element (λ x. AllByRecursion (λ a. is_later name a ≡ true → IsRegister flat id) (assigned_at_edges x)) m.items item_later))

  guard : (name : Text) → IsScalar (scope_at flat i) name → list_any (bytes_eq name) p.clocks ≡ false → writes_now m name ≡ false → MayGuard flat word i name
  guard name (id, (signed, is)) c w = record {
    signal = id;
    signed = signed;
    scalar = is;
    no_clock = λ clock ic leads.
        let missed = holds_of (λ y. bytes_eq name y ≡ false) p.clocks name (none_in (bytes_eq name) p.clocks c) (hc i there o clock ic name leads) in
        true≢false (sym ((bytes_eq-Decides name name).1 refl) ∙ missed);
    not_now = not_now name id signed is w;
  }

  allowed : (b : Bool) (name : Text) → IsScalar (scope_at flat i) name → may_guard m p.clocks b name ≡ true → MayGuardIf b flat word i name
  unfolding guard
  allowed b name s h =
      let f = and_parts (not (list_any (bytes_eq name) p.clocks)) (not (writes_now m name) && (b || writes_later m name)) h in
      let g = and_parts (not (writes_now m name)) (b || writes_later m name) f.1 in
      by b s g.1 (not-true (list_any (bytes_eq name) p.clocks) f.0) (not-true (writes_now m name) g.0)
    where
      by : (b : Bool) → IsScalar (scope_at flat i) name → (b || writes_later m name) ≡ true → list_any (bytes_eq name) p.clocks ≡ false → writes_now m name ≡ false → MayGuardIf b flat word i name
      by true s l c w = guard name s c w
      by false s l c w = record { guard = guard name s c w; register = register name s.0 s.1.0 s.1.1 l }

  -- each that is listed
  pub names_may : (b : Bool) (token : ℕ) → AllByRecursion (MayGuardIf b flat word i) (names_at m p.clocks b token)
  unfolding first_names guard_names
  names_may b token =
      let declared : AllByRecursion (λ y. IsScalar (scope_at flat i) y.text) (scalars m) = subst (λ k. AllByRecursion (λ y. IsScalar (scope_at flat i) y.text) (scalars (module_at ms k))) o (known.scalars_in i there) in
      let names : List Identifier = filter (λ (y : Identifier). may_guard m p.clocks b y.text) (firsts (scalars m)) in
      let chosen = all_filter (λ y. IsScalar (scope_at flat i) y.text) (λ y. may_guard m p.clocks b y.text) (firsts (scalars m)) (all_firsts (λ y. IsScalar (scope_at flat i) y.text) (scalars m) declared) in
      let may : AllByRecursion (λ (y : Identifier). MayGuardIf b flat word i y.text) names = all_weaken (λ (y : Identifier). IsScalar (scope_at flat i) y.text × (may_guard m p.clocks b y.text ≡ true)) names
      (λ y h. allowed b y.text h.0 h.1) chosen in
      let before = all_weaken (λ (y : Identifier). MayGuardIf b flat word i y.text × (is_before token y ≡ true)) (filter (is_before token) names) (λ y h. h.0)
      (all_filter (λ (y : Identifier). MayGuardIf b flat word i y.text) (is_before token) names may) in
      all_take (MayGuardIf b flat word i) 64 (map (λ (y : Identifier). y.text) (filter (is_before token) names))
      (all_map (MayGuardIf b flat word i) (λ (y : Identifier). y.text) (filter (is_before token) names) before)
