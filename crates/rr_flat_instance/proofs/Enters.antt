-- The walk of a module and that of its instance.
use Rattle.std.proofs.Common.{◌≡◌, ◌∙◌, sym, ap, inl, inr, false, ℕ, zero, suc, ◌<◌, List, [], ◌∷◌, ◌++◌, length, map, get_or, not, nat_lt, subst, Option, Some, None, Result, Ok, arith, append_assoc, length-append}
use Rattle.std.specs.List.{AllByRecursion}
use Rattle.std.proofs.lemmas.List.{get_or_at}
use Rattle.rr_syntax.specs.Tree.{ModuleInstance, Connections, ModuleItem, Ports, Nets, Variables, Integers, Parameters, Assigns, Always, Initial, Instances, ModuleDeclaration}
use Rattle.rr_expr.specs.Scopes.{Names, lookup}
use Rattle.rr_flat.specs.declared.fault.FlatFault.{FlatFault}
use Rattle.rr_flat.specs.declared.fault.FlatFault.TheVariants.{TooMany}
use Rattle.rr_flat.specs.declared.fault.Limit.TheVariants.{Instances as InstanceCount}
use Rattle.rr_flat.specs.Faults.{and_then, each, first_fault_or, fault_if}
use Rattle.rr_declarations.specs.Heads.{Head, head}
use Rattle.rr_flatten.specs.Tables.{place_of}
use Rattle.rr_flatten.specs.Walk.{Walked, Enter, scope_at, loops_at, module_at, assign, net, checked, with_instance, joined, instance_of, item, opened, begin, enter_by, enter}
use Rattle.rr_flat.specs.Writers.{no_driver}
use Rattle.rr_choice.specs.declared.pick.Pick.{Pick}
use Rattle.rr_choice.specs.Sites.{Site}
use Rattle.rr_instance.specs.Instances.{instance_net, instance_pair, instance_connections, instance_child, instance_item, instance_module}
use Rattle.rr_instance_laws.specs.Truth.{IsScalar}
use Rattle.rr_loop_rules.specs.Rules.{LoopNames, contains, loop_names}
use Rattle.rr_unfold_instance.proofs.Rules.{instance_loops}
use Rattle.rr_flat_instance.specs.Flats.{instance_flat}
use Rattle.rr_flat_instance.specs.Places.{Somewhere, IsNameOfNet, IsNameOfPair, IsNameOfInstance, IsNameOfItem, IsAimOfItem, NamesStayOfItem, FitsItem, FitsModule, IsApart, NetsApartIn, NetsApart, MayBeDriven}
use Rattle.rr_flat_instance.proofs.Lists.{Begins, and_then_ok}
use Rattle.rr_flat_instance.proofs.Heads.{head_instance}
use Rattle.rr_flat_instance.proofs.Tables.{module_instance}
use Rattle.rr_flat_instance.proofs.Shapes.{settle_none}
use Rattle.rr_flat_instance.proofs.Grown.{Grows, grows-trans, each_grows, assign_grows, net_grows, always_grows, with_instance_grows, joined_grows, began, begin_grows, EnterGrows, inside, instance_grows, item_grows, entered, enter_grows}
use Rattle.rr_flat_instance.proofs.Commutes.{instance_walked, Ready, scalar_alike, width_alike, each_instance, assign_instance, net_instance, always_instance, initial_instance}
use Rattle.rr_flat_instance.proofs.Connected.{checked_stays, joined_instance}

-- what holds of each name of some element holds of each name of each
each_place : {X : Type 0} (P : List ℕ → X → Type 0) (Q : List ℕ → Type 0) (xs : List X) → ((name : List ℕ) → Somewhere (P name) xs → Q name) → AllByRecursion (λ x. (name : List ℕ) → P name x → Q name) xs
unfolding Somewhere
each_place P Q [] h = tt
each_place P Q (x ∷ xs) h = ((λ name p. h name (inl p)), each_place P Q xs (λ name p. h name (inr p)))

both_hold : {X : Type 0} (P Q : X → Type 0) (xs : List X) → AllByRecursion P xs → AllByRecursion Q xs → AllByRecursion (λ x. P x × Q x) xs
both_hold P Q [] p q = tt
both_hold P Q (x ∷ xs) p q = ((p.0, q.0), both_hold P Q xs p.1 q.1)

-- of two properties of names
both_places : {X : Type 0} (P : List ℕ → X → Type 0) (Q R : List ℕ → Type 0) (xs : List X) → ((name : List ℕ) → Somewhere (P name) xs → Q name) → ((name : List ℕ) → Somewhere (P name) xs → R name)
    → AllByRecursion (λ x. ((name : List ℕ) → P name x → Q name) × ((name : List ℕ) → P name x → R name)) xs
both_places P Q R xs h k = both_hold (λ x. (name : List ℕ) → P name x → Q name) (λ x. (name : List ℕ) → P name x → R name) xs (each_place P Q xs h) (each_place P R xs k)

module _ (ss : List Site) (ps : List Pick) (source : List ModuleDeclaration) (final : Walked)
    (targets : (k : ℕ) → k < length final.flat.drivers → MayBeDriven (get_or final.flat.drivers k no_driver).target)
    (scopes : (i : ℕ) → i < length final.flat.scopes → FitsModule ss (scope_at final i) (module_at source (get_or final.flat.owners i 0)))
    (nets : AllByRecursion NetsApart source) where
  -- what an inner walk keeps to
  abbrev pub EnterCommutes : Enter → Enter → Type 0
  EnterCommutes sub other =
      (k : ℕ) (given : Names) (w v : Walked) → length w.flat.owners ≡ length w.flat.scopes → length w.loops ≡ length w.flat.scopes → w.limit ≡ None → Grows v final → sub k given w ≡ Ok v
      → other k given (instance_walked ss ps w) ≡ Ok (instance_walked ss ps v)

  -- what is free of the names of a module's loops, in an instance of it
  free_in : (names : LoopNames) (i : ℕ) (w : Walked) (name : List ℕ) → Ready i names w → contains names name ≡ false → contains (loops_at w i) name ≡ false
  free_in names i w name r h = subst (λ (l : LoopNames). contains l name ≡ false) (sym r.loops) h

  -- an instance in instance i
  child_instance : (names : LoopNames) (above : List ℕ) (i : ℕ) (sub other : Enter) → EnterGrows sub → EnterCommutes sub other → (at : ℕ) (over : Option Connections) (o : Option ℕ) (x : ModuleInstance) (w v : Walked)
      → ((name : List ℕ) → IsNameOfInstance ss name x → IsScalar (scope_at final i) name) × ((name : List ℕ) → IsNameOfInstance ss name x → contains names name ≡ false) → Ready i names w → Grows v final → instance_of source above i sub at over o x w ≡ Ok v
      → instance_of (map (instance_module ss ps) source) above i other at over o (instance_child ss ps x) (instance_walked ss ps w) ≡ Ok (instance_walked ss ps v)
  unfolding instance_of instance_child instance_flat
  child_instance names above i sub other grows commutes at over None x w v n r g e = absurd (cc)
  child_instance names above i sub other grows commutes at over (Some k) x w v n r g e =
      let h = inside source above i sub at over k x w v e in
      let inner = joined_grows i (length w.flat.scopes) (module_at source k) x.connections h.mid in
      let last : Grows (joined i (length w.flat.scopes) (module_at source k) x.connections h.mid) final = rw h.is g in
      let mid : Grows h.mid final = grows-trans h.mid _ final inner last in
      let named : Grows (with_instance i x.text w) final = grows-trans (with_instance i x.text w) h.mid final (grows k h.given (with_instance i x.text w) h.mid h.walked) mid in
      let now : Grows w final = grows-trans w (with_instance i x.text w) final (with_instance_grows i x.text w) named in
      let c = checked_stays ss ps (loops_at w i) above (scope_at w i) (module_at source k) k at over x h.given (λ name p. scalar_alike (scope_at w i) (scope_at final i) name (now.alike i r.there) (n.0 name p))
      (λ name p. free_in names i w name r (n.1 name p)) h.settings in
      let s = commutes k h.given (with_instance i x.text w) h.mid ((with_instance_grows i x.text w).even r.even) ((with_instance_grows i x.text w).lined r.lined) ((with_instance_grows i x.text w).limit ∙ r.limit) mid h.walked in
      let j = joined_instance ss ps final targets i (length w.flat.scopes) (module_at source k) x.connections h.mid last in
      let walk : Names → ModuleDeclaration → Result Walked FlatFault =
      λ given m. and_then (other k given (with_instance i x.text (instance_walked ss ps w))) (λ (u : Walked). Ok (joined i (length w.flat.scopes) m (instance_connections ss ps x.connections) u)) in
      ap (λ (m : ModuleDeclaration). and_then (checked (loops_at w i) above (scope_at w i) m k at over (instance_child ss ps x)) (λ (given : Names). walk given m)) (module_instance ss ps source k)
      ∙ (and_then_ok (checked (loops_at w i) above (scope_at w i) (instance_module ss ps (module_at source k)) k at over (instance_child ss ps x)) (λ (given : Names). walk given (instance_module ss ps (module_at source k))) h.given c
      ∙ (and_then_ok (other k h.given (with_instance i x.text (instance_walked ss ps w)))
      (λ (u : Walked). Ok (joined i (length w.flat.scopes) (instance_module ss ps (module_at source k)) (instance_connections ss ps x.connections) u)) (instance_walked ss ps h.mid) s
      ∙ ap (λ (u : Walked). Ok u) (j ∙ ap (instance_walked ss ps) h.is)))

  pub item_instance : (names : LoopNames) (above : List ℕ) (i : ℕ) (sub other : Enter) → EnterGrows sub → EnterCommutes sub other → (table : Names) (x : ModuleItem) (w v : Walked)
      → FitsItem ss names (scope_at final i) x × NetsApartIn x → Ready i names w → Grows v final → item source table above i sub x w ≡ Ok v
      → item (map (instance_module ss ps) source) table above i other (instance_item ss ps x) (instance_walked ss ps w) ≡ Ok (instance_walked ss ps v)
  unfolding item instance_item IsNameOfItem IsAimOfItem NetsApartIn NamesStayOfItem
  item_instance names above i sub other grows commutes table (Ports p) w v f r g e = let q : w ≡ v = cc in ap (λ (x : Walked). Ok (instance_walked ss ps x)) q
  item_instance names above i sub other grows commutes table (Nets signed range list) w v f r g e =
      each_instance ss ps final (instance_net ss ps) (net i) (net i) (λ x. IsApart x × (((name : List ℕ) → IsNameOfNet ss name x → IsScalar (scope_at final i) name) × ((name : List ℕ) → IsNameOfNet ss name x → contains names name ≡ false))) i names (net_grows i)
      (λ x w v f r g e.
      let now : Grows w final = grows-trans w v final (net_grows i x w v e) g in
      net_instance ss ps final i x w v f.0 (λ name p. scalar_alike (scope_at w i) (scope_at final i) name (now.alike i r.there) (f.1.0 name p)) (λ name p. free_in names i w name r (f.1.1 name p)) e)
      list w v (both_hold IsApart (λ x. ((name : List ℕ) → IsNameOfNet ss name x → IsScalar (scope_at final i) name) × ((name : List ℕ) → IsNameOfNet ss name x → contains names name ≡ false)) list f.1
      (both_places (IsNameOfNet ss) (IsScalar (scope_at final i)) (λ name. contains names name ≡ false) list f.0.guards f.0.free_guards)) r g e
  item_instance names above i sub other grows commutes table (Variables signed range list) w v f r g e = let q : w ≡ v = cc in ap (λ (x : Walked). Ok (instance_walked ss ps x)) q
  item_instance names above i sub other grows commutes table (Integers list) w v f r g e = let q : w ≡ v = cc in ap (λ (x : Walked). Ok (instance_walked ss ps x)) q
  item_instance names above i sub other grows commutes table (Parameters p) w v f r g e = let q : w ≡ v = cc in ap (λ (x : Walked). Ok (instance_walked ss ps x)) q
  item_instance names above i sub other grows commutes table (Assigns pairs) w v f r g e =
      each_instance ss ps final (instance_pair ss ps) (assign i) (assign i) (λ x. ((name : List ℕ) → IsNameOfPair ss name x → IsScalar (scope_at final i) name) × ((name : List ℕ) → IsNameOfPair ss name x → contains names name ≡ false)) i names (assign_grows i)
      (λ x w v f r g e.
      let now : Grows w final = grows-trans w v final (assign_grows i x w v e) g in
      assign_instance ss ps final i x w v (λ name p. scalar_alike (scope_at w i) (scope_at final i) name (now.alike i r.there) (f.0 name p)) (λ name p. free_in names i w name r (f.1 name p)) e)
      pairs w v (both_places (IsNameOfPair ss) (IsScalar (scope_at final i)) (λ name. contains names name ≡ false) pairs f.0.guards f.0.free_guards) r g e
  item_instance names above i sub other grows commutes table (Always events s at) w v f r g e =
      let now : Grows w final = grows-trans w v final (always_grows i events s at w v e) g in
      always_instance ss ps final i events s at w v r.limit f.0.stays
      (λ name p. scalar_alike (scope_at w i) (scope_at final i) name (now.alike i r.there) (f.0.guards name p))
      (λ target k p. width_alike (scope_at w i) (scope_at final i) target k (now.alike i r.there) (f.0.aims target k p))
      (λ name p. free_in names i w name r (f.0.free_guards name p)) (λ target k p. free_in names i w target r (f.0.free_aims target k p)) e
  item_instance names above i sub other grows commutes table (Initial s at) w v f r g e = initial_instance ss ps final i s at w v e
  item_instance names above i sub other grows commutes table (Instances m at over list) w v f r g e =
      each_instance ss ps final (instance_child ss ps) (instance_of source above i sub at over (place_of (lookup m table)))
      (instance_of (map (instance_module ss ps) source) above i other at over (place_of (lookup m table)))
      (λ x. ((name : List ℕ) → IsNameOfInstance ss name x → IsScalar (scope_at final i) name) × ((name : List ℕ) → IsNameOfInstance ss name x → contains names name ≡ false)) i names
      (instance_grows source above i sub at over (place_of (lookup m table)) grows)
      (child_instance names above i sub other grows commutes at over (place_of (lookup m table)))
      list w v (both_places (IsNameOfInstance ss) (IsScalar (scope_at final i)) (λ name. contains names name ≡ false) list f.0.guards f.0.free_guards) r g e

  -- one more instance
  begin_instance : (k : ℕ) (given : Names) (w v : Walked) → begin source k given w ≡ Ok v → begin (map (instance_module ss ps) source) k given (instance_walked ss ps w) ≡ Ok (instance_walked ss ps v)
  unfolding begin instance_flat
  begin_instance k given w v e =
      let b = began source k given w v e in
      let start : LoopNames → Result Head FlatFault → Result Walked FlatFault = λ names r. and_then r (λ (h : Head). Ok (opened k h names (instance_walked ss ps w))) in
      let names : LoopNames = loop_names (module_at source k) in
      and_then_ok (first_fault_or (fault_if (not (nat_lt (length w.flat.scopes) 256)) (TooMany InstanceCount 257)) (instance_walked ss ps w)) _ (instance_walked ss ps w) (settle_none _ _ b.room)
      ∙ (ap (λ (m : ModuleDeclaration). start (loop_names m) (head (length w.flat.scopes) (length w.flat.signals) w.bits given m)) (module_instance ss ps source k)
      ∙ (ap (λ (l : LoopNames). start l (head (length w.flat.scopes) (length w.flat.signals) w.bits given (instance_module ss ps (module_at source k)))) (instance_loops ss ps (module_at source k))
      ∙ (ap (start names) (head_instance ss ps (length w.flat.scopes) (length w.flat.signals) w.bits given (module_at source k))
      ∙ (ap (start names) b.found ∙ ap (λ (x : Walked). Ok (instance_walked ss ps x)) b.is))))

  nets_at : (ms : List ModuleDeclaration) (k : ℕ) → AllByRecursion NetsApart ms → NetsApart (module_at ms k)
  nets_at [] k h = tt
  nets_at (m ∷ ms) zero h = h.0
  nets_at (m ∷ ms) (suc k) h = nets_at ms k h.1

  -- the new instance is there, its owner is the module, and its names of loops are the module's
  new_ready : (k : ℕ) (given : Names) (w v : Walked) → length w.flat.owners ≡ length w.flat.scopes → length w.loops ≡ length w.flat.scopes → w.limit ≡ None → begin source k given w ≡ Ok v
      → Ready (length w.flat.scopes) (loop_names (module_at source k)) v
  new_ready k given w v even lined limit e =
      let b = began source k given w v e in
      let names : LoopNames = loop_names (module_at source k) in
      let l = length-append w.flat.scopes (b.top.scope ∷ []) in
      let lt : length w.flat.scopes < length (opened k b.top names w).flat.scopes = omega (arith, l) in
      let own : loops_at (opened k b.top names w) (length w.flat.scopes) ≡ names = get_or_at w.loops names [] [] (length w.flat.scopes) lined in
      let grown = begin_grows source k given w v e in
      record {
        there = rw (← b.is) lt;
        even = grown.even even;
        lined = grown.lined lined;
        loops = subst (λ (u : Walked). loops_at u (length w.flat.scopes) ≡ names) b.is own;
        limit = grown.limit ∙ limit;
      }

  new_owner : (k : ℕ) (given : Names) (w v : Walked) → length w.flat.owners ≡ length w.flat.scopes → begin source k given w ≡ Ok v → Grows v final → get_or final.flat.owners (length w.flat.scopes) 0 ≡ k
  new_owner k given w v even e g =
      let b = began source k given w v e in
      let o : Begins (w.flat.owners ++ k ∷ []) final.flat.owners = subst (λ (u : Walked). Begins u.flat.owners final.flat.owners) (sym b.is) g.owners in
      rw (o.1, append_assoc w.flat.owners (k ∷ []) o.0) (get_or_at w.flat.owners k o.0 0 (length w.flat.scopes) even)

  pub enter_instance : (table : Names) (levels : ℕ) (above : List ℕ) → EnterCommutes (enter source table levels above) (enter (map (instance_module ss ps) source) table levels above)
  unfolding enter enter_by instance_flat instance_module
  enter_instance table zero above k given w v even lined limit g e = absurd (cc)
  enter_instance table (suc n) above k given w v even lined limit g e =
      let r = entered source table (enter source table n) above k given w v e in
      let deeper : List ℕ = above ++ k ∷ [] in
      let i : ℕ = length w.flat.scopes in
      let step = item_grows source table deeper i (enter source table n deeper) (enter_grows source table n deeper) in
      let mid : Grows r.mid final = grows-trans r.mid v final (each_grows (item source table deeper i (enter source table n deeper)) step (module_at source k).items r.mid v r.walked) g in
      let names : LoopNames = loop_names (module_at source k) in
      let ready = new_ready k given w r.mid even lined limit r.began in
      let there : i < length final.flat.scopes = let a = ready.there in let b = mid.more in omega arith in
      let fits : FitsModule ss (scope_at final i) (module_at source k) = rw (new_owner k given w r.mid even r.began mid) at (scopes i there) in
      let items = each_instance ss ps final (instance_item ss ps) (item source table deeper i (enter source table n deeper))
      (item (map (instance_module ss ps) source) table deeper i (enter (map (instance_module ss ps) source) table n deeper))
      (λ x. FitsItem ss names (scope_at final i) x × NetsApartIn x) i names step
      (item_instance names deeper i (enter source table n deeper) (enter (map (instance_module ss ps) source) table n deeper) (enter_grows source table n deeper) (enter_instance table n deeper) table)
      (module_at source k).items r.mid v (both_hold (FitsItem ss names (scope_at final i)) NetsApartIn (module_at source k).items fits (nets_at source k nets)) ready g r.walked in
      let walk : ModuleDeclaration → Walked → Result Walked FlatFault =
      λ m u. each (item (map (instance_module ss ps) source) table deeper i (enter (map (instance_module ss ps) source) table n deeper)) m.items u in
      and_then_ok (begin (map (instance_module ss ps) source) k given (instance_walked ss ps w)) (walk (module_at (map (instance_module ss ps) source) k)) (instance_walked ss ps r.mid)
      (begin_instance k given w r.mid r.began)
      ∙ (ap (λ (m : ModuleDeclaration). walk m (instance_walked ss ps r.mid)) (module_instance ss ps source k) ∙ items)
