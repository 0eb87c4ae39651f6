-- The names of the loops of each instance of a walk, and the rules that they keep.
use Rattle.std.proofs.Common.{◌≡◌, ◌∙◌, sym, ap, ℕ, zero, suc, ◌+◌, ◌<◌, List, [], ◌∷◌, ◌++◌, length, map, get_or, Option, Some, None, Result, Ok, refl, subst, arith, length-append}
use Rattle.std.specs.List.{AllByRecursion}
use Rattle.std.proofs.lemmas.List.{append-nil, append_assoc, map-append, get_or-map, get_or_append_left, length-set}
use Rattle.rr_syntax.specs.Tree.{Connections, ModuleInstance, ModuleItem, Ports, Nets, Variables, Integers, Parameters, Assigns, Always, Initial, Instances, ModuleDeclaration, SourceText}
use Rattle.rr_expr.specs.Scopes.{Names, lookup}
use Rattle.rr_expr.specs.declared.types.Entity.TheVariants as entity
use Rattle.rr_flat.specs.declared.fault.FlatFault.{FlatFault}
use Rattle.rr_flat.specs.Faults.{each}
use Rattle.rr_flat.specs.Plain.{Flat}
use Rattle.rr_flat.specs.Signals.{Text, with_name}
use Rattle.rr_flat.proofs.Lists.{all_index}
use Rattle.rr_loop_rules.specs.Rules.{LoopNames, loop_names, loop_faults}
use Rattle.rr_declarations.specs.Heads.{Head}
use Rattle.rr_flatten.specs.Tables.{place_of}
use Rattle.rr_flatten.specs.Walk.{Walked, Enter, scope_at, loops_at, module_at, assign, net, with_instance, joined, instance_of, item, opened, enter_by, enter, nothing, top_place, enter_top, flat_of}
use Rattle.rr_flatten.proofs.HeadOf.{ok_is, not_ok, first_ok, all_append}
use Rattle.rr_flat_laws.specs.Names.{module_of}
use Rattle.rr_flat_laws.specs.Rules.{KeepsRules, KeepRules}
use Rattle.rr_flat_laws.proofs.Growing.{Same, same_here, each_same, assign_same, net_same, always_step, always_same, initial_step, initial_same, joined_same, began, inside, entered, unknown}
use Rattle.rr_flat_laws.proofs.Naming.{last_entry, walking}

module _ (ms : List ModuleDeclaration) where
  abbrev names_at : ℕ → LoopNames
  names_at k = loop_names (module_at ms k)

  abbrev pub Rules : ℕ → Type 0
  Rules k = KeepRules (module_at ms k)

  -- each instance has the names of the loops of its module
  record Named (w : Walked) : Type 0 where
    loops : w.loops ≡ map (λ (k : ℕ). names_at k) w.flat.owners
    even : length w.flat.owners ≡ length w.flat.scopes

  -- instances were added, of modules that keep the rules
  record Ruled (w t : Walked) : Type 0 where
    named : Named t
    more : List ℕ
    owners : t.flat.owners ≡ w.flat.owners ++ more
    each : AllByRecursion Rules more

  ruled_same : (w t : Walked) → Same w t → Named w → Ruled w t
  ruled_same w t s n = record {
    named = record {
      loops = sym s.loops ∙ (n.loops ∙ ap (λ (os : List ℕ). map (λ (k : ℕ). names_at k) os) s.owners);
      even = ap (λ (os : List ℕ). length os) (sym s.owners) ∙ (n.even ∙ ap (λ (ns : List Names). length ns) s.scopes);
    };
    more = [];
    owners = sym s.owners ∙ sym (append-nil w.flat.owners);
    each = tt;
  }

  ruled_here : (w t : Walked) → w ≡ t → Named w → Ruled w t
  ruled_here w t e n = subst (Ruled w) e (ruled_same w w (same_here w) n)

  ruled_twice : (w u t : Walked) → Ruled w u → Ruled u t → Ruled w t
  ruled_twice w u t a b = record {
    named = b.named;
    more = a.more ++ b.more;
    owners = b.owners ∙ (ap (λ (z : List ℕ). z ++ b.more) a.owners ∙ append_assoc w.flat.owners a.more b.more);
    each = all_append Rules a.more b.more a.each b.each;
  }

  -- in an instance of module k
  record Within (i k : ℕ) (w : Walked) : Type 0 where
    named : Named w
    there : i < length w.flat.owners
    owner : get_or w.flat.owners i 0 ≡ k

  in_later : (i k : ℕ) (w t : Walked) → Within i k w → Ruled w t → Within i k t
  in_later i k w t h r =
      let l = h.there in
      let long : length t.flat.owners ≡ length w.flat.owners + length r.more = ap (λ (os : List ℕ). length os) r.owners ∙ length-append w.flat.owners r.more in
      record {
        named = r.named;
        there = omega (arith, l, long);
        owner = ap (λ (os : List ℕ). get_or os i 0) r.owners ∙ (get_or_append_left w.flat.owners r.more 0 i h.there ∙ h.owner);
      }

  loops_are : (i k : ℕ) (w : Walked) → Within i k w → loops_at w i ≡ names_at k
  loops_are i k w h =
      ap (λ (z : List LoopNames). get_or z i []) h.named.loops
      ∙ (get_or-map (λ (k : ℕ). names_at k) w.flat.owners i 0 [] h.there ∙ ap (λ (k : ℕ). names_at k) h.owner)

  -- Steps

  abbrev Enters : Enter → Type 0
  Enters sub = (k : ℕ) (given : Names) (w t : Walked) → Named w → sub k given w ≡ Ok t → Ruled w t

  after_instance : (above : List ℕ) (i : ℕ) (sub : Enter) → Enters sub → (at : ℕ) (over : Option Connections) (o : Option ℕ) (x : ModuleInstance) (w t : Walked) → Named w → instance_of ms above i sub at over o x w ≡ Ok t → Ruled w t
  after_instance above i sub s at over None x w t n e = absurd (unknown ms above i sub at over x w t e)
  after_instance above i sub s at over (Some k) x w t n e =
      let r = inside ms above i sub at over k x w t e in
      let v = with_instance i x.text w in
      let u = joined i (length w.flat.scopes) (module_at ms k) x.connections r.mid in
      let named : Named v = record { loops = n.loops; even = n.even ∙ sym (length-set w.flat.scopes i (with_name (scope_at w i) x.text entity.Instance)) } in
      let q : Ruled v r.mid = s k r.given v r.mid named r.walked in
      let a : Ruled w r.mid = record { named = q.named; more = q.more; owners = q.owners; each = q.each } in
      subst (Ruled w) r.is (ruled_twice w r.mid u a (ruled_same r.mid u (joined_same i (length w.flat.scopes) (module_at ms k) x.connections r.mid) q.named))

  each_ruled : {X : Type 0} (step : X → Walked → Result Walked FlatFault) → ((x : X) (w t : Walked) → Named w → step x w ≡ Ok t → Ruled w t) → (xs : List X) (w t : Walked) → Named w → each step xs w ≡ Ok t → Ruled w t
  unfolding each
  each_ruled step one [] w t n e = ruled_here w t (ok_is w t e) n
  each_ruled step one (x ∷ xs) w t n e =
      let r = first_ok (step x w) (each step xs) t e in
      let a = one x w r.0 n r.1.0 in
      ruled_twice w r.0 t a (each_ruled step one xs r.0 t a.named r.1.1)

  after_item : (table : Names) (above : List ℕ) (i k : ℕ) (sub : Enter) → Enters sub → (x : ModuleItem) (w t : Walked) → Within i k w → item ms table above i sub x w ≡ Ok t → Ruled w t × KeepsRules (names_at k) x
  unfolding item
  after_item table above i k sub s (Ports p) w t h e = (ruled_here w t (ok_is w t e) h.named, tt)
  after_item table above i k sub s (Nets signed range list) w t h e = (ruled_same w t (each_same (net i) (net_same i) list w t e) h.named, tt)
  after_item table above i k sub s (Variables signed range list) w t h e = (ruled_here w t (ok_is w t e) h.named, tt)
  after_item table above i k sub s (Integers list) w t h e = (ruled_here w t (ok_is w t e) h.named, tt)
  after_item table above i k sub s (Parameters p) w t h e = (ruled_here w t (ok_is w t e) h.named, tt)
  after_item table above i k sub s (Assigns pairs) w t h e = (ruled_same w t (each_same (assign i) (assign_same i) pairs w t e) h.named, tt)
  after_item table above i k sub s (Always events body at) w t h e = (
    ruled_same w t (always_same i events body at w t e) h.named,
    subst (λ (names : LoopNames). loop_faults names [] body ≡ []) (loops_are i k w h) (always_step i events body at w t e).rules,
  )
  after_item table above i k sub s (Initial body at) w t h e = (
    ruled_same w t (initial_same i body at w t e) h.named,
    subst (λ (names : LoopNames). loop_faults names [] body ≡ []) (loops_are i k w h) (initial_step i body at w t e).rules,
  )
  after_item table above i k sub s (Instances m at over list) w t h e = (
    each_ruled (instance_of ms above i sub at over (place_of (lookup m table))) (λ x a b n q. after_instance above i sub s at over (place_of (lookup m table)) x a b n q) list w t h.named e,
    tt,
  )

  after_items : (table : Names) (above : List ℕ) (i k : ℕ) (sub : Enter) → Enters sub → (xs : List ModuleItem) (w t : Walked) → Within i k w → each (item ms table above i sub) xs w ≡ Ok t → Ruled w t × AllByRecursion (KeepsRules (names_at k)) xs
  unfolding each
  after_items table above i k sub s [] w t h e = (ruled_here w t (ok_is w t e) h.named, tt)
  after_items table above i k sub s (x ∷ xs) w t h e =
      let r = first_ok (item ms table above i sub x w) (each (item ms table above i sub) xs) t e in
      let a = after_item table above i k sub s x w r.0 h r.1.0 in
      let b = after_items table above i k sub s xs r.0 t (in_later i k w r.0 h a.0) r.1.1 in
      (ruled_twice w r.0 t a.0 b.0, (a.1, b.1))

  -- Modules

  opened_in : (k : ℕ) (h : Head) (w : Walked) → Named w → Within (length w.flat.scopes) k (opened k h (loop_names (module_at ms k)) w)
  opened_in k h w n =
      let even = n.even in
      let long = length-append w.flat.owners (k ∷ []) in
      record {
        named = record {
          loops = ap (λ (z : List LoopNames). z ++ names_at k ∷ []) n.loops ∙ sym (map-append (λ (j : ℕ). names_at j) w.flat.owners (k ∷ []));
          even = long ∙ (ap (λ (m : ℕ). m + 1) n.even ∙ sym (length-append w.flat.scopes (h.scope ∷ [])));
        };
        there = omega (arith, even, long);
        owner = last_entry ms w.flat.owners k 0 (length w.flat.scopes) (sym n.even);
      }

  after_enter_by : (table : Names) (sub : List ℕ → Enter) → ((above : List ℕ) → Enters (sub above)) → (above : List ℕ) → Enters (enter_by ms table sub above)
  after_enter_by table sub s above k given w t n e =
      let r = entered ms table sub above k given w t e in
      let b = began ms k given w r.mid r.began in
      let inner = above ++ k ∷ [] in
      let h : Within (length w.flat.scopes) k r.mid = subst (Within (length w.flat.scopes) k) b.is (opened_in k b.top w n) in
      let q = after_items table inner (length w.flat.scopes) k (sub inner) (s inner) (module_at ms k).items r.mid t h r.walked in
      let first : r.mid.flat.owners ≡ w.flat.owners ++ k ∷ [] = ap (λ (u : Walked). u.flat.owners) (sym b.is) in
      record {
        named = q.0.named;
        more = k ∷ q.0.more;
        owners = q.0.owners ∙ (ap (λ (z : List ℕ). z ++ q.0.more) first ∙ append_assoc w.flat.owners (k ∷ []) q.0.more);
        each = (q.1, q.0.each);
      }

  after_enter : (table : Names) (levels : ℕ) (above : List ℕ) → Enters (enter ms table levels above)
  unfolding enter
  after_enter table zero above k given w t n e = absurd (not_ok _ t e)
  after_enter table (suc levels) above k given w t n e = after_enter_by table (enter ms table levels) (after_enter table levels) above k given w t n e

  pub after_top : (table : Names) (o : Option ℕ) (w : Walked) → enter_top None ms table o ≡ Ok w → AllByRecursion Rules w.flat.owners
  after_top table None w e = absurd (not_ok _ w e)
  after_top table (Some k) w e =
      let r = after_enter table 16 [] k [] (nothing None (module_at ms k).token) w (record { loops = refl; even = refl }) e in
      subst (λ (os : List ℕ). AllByRecursion Rules os) (sym r.owners) r.each

pub rules_of_design : (source : SourceText) (top : Option Text) (flat : Flat) → flat_of source top ≡ Ok flat → (i : ℕ) → i < length flat.owners → KeepRules (module_of source flat i)
rules_of_design source top flat e i l =
    let w = walking source top flat e in
    all_index (Rules source.modules) flat.owners i 0
    (subst (λ (f : Flat). AllByRecursion (Rules source.modules) f.owners) w.is (after_top source.modules w.table (top_place source.modules w.table top) w.end w.walked)) l
