-- A step of the walk and the same step of an instance's walk.
use Rattle.std.proofs.Common.{◌≡◌, ◌∙◌, sym, ap, ap₂, ℕ, ◌<◌, ◌==◌, if◌then◌else◌, List, [], ◌∷◌, ◌++◌, length, map, unwrap_or, Option, Some, None, Result, Ok, refl, arith}
use Rattle.std.specs.Prelude.{false, slice_index_or, option_to_list}
use Rattle.std.specs.List.{AllByRecursion}
use Rattle.std.proofs.lemmas.Bool.{ne_eqb}
use Rattle.std.proofs.lemmas.List.{map-append, length-map, get_or_append_left}
use Rattle.rr_syntax.specs.Tree.{Tree, Statement, EventControl, Star, Edges, Levels, DeclaredName, NetAssignment}
use Rattle.rr_expr.specs.Faults.{first}
use Rattle.rr_expr.specs.Scopes.{Names, lookup}
use Rattle.rr_flat.specs.declared.fault.FlatFault.{FlatFault}
use Rattle.rr_flat.specs.Faults.{each, first_fault_or, earliest_of}
use Rattle.rr_flat.specs.Signals.{Text}
use Rattle.rr_flat.specs.declared.design.Part.TheVariants as part
use Rattle.rr_flat.specs.Plain.{Side, Written, Whole, Driver, Flat}
use Rattle.rr_flat.specs.Plain as plain_design
use Rattle.rr_flatten.specs.Tables.{place_of}
use Rattle.rr_flatten.specs.Walk.{Walked, scope_at, loops_at, expression_faults, with_driver, with_block, combined, clocked, assign, net_driver, net_value, net_with, net, event_faults, always, with_initial, initial}
use Rattle.rr_flatten.proofs.Unfolded.{none_earliest, none_listed}
use Rattle.rr_flat.specs.Shapes.{statement_faults}
use Rattle.rr_starts.specs.Starts.{initial_faults}
use Rattle.rr_flat.proofs.Alike.{Alike}
use Rattle.rr_choice.specs.declared.pick.Pick.{Pick}
use Rattle.rr_instance.specs.Firsts.{first_token}
use Rattle.rr_choice.specs.Sites.{Site}
use Rattle.rr_instance.specs.Instances.{instance_tree, instance_body, instance_value, instance_net, instance_pair}
use Rattle.rr_instance_laws.specs.Tests.{IsGuardName, IsBodyName}
use Rattle.rr_instance_laws.specs.Truth.{IsScalar}
use Rattle.rr_loop_rules.specs.Rules.{LoopNames, contains, loop_faults}
use Rattle.rr_unfold.specs.Unfold.{Count, counted, unfold_statement}
use Rattle.rr_unfold_instance.specs.Apart.{NamesStayOf}
use Rattle.rr_unfold_instance.proofs.Bodies.{body_unfolds, body_turns, body_names, body_begins}
use Rattle.rr_unfold_instance.proofs.Rules.{instance_rules}
use Rattle.rr_flat_instance.specs.Flats.{instance_side, instance_at, instance_driver, instance_block, instance_flat}
use Rattle.rr_flat_instance.specs.Places.{IsApart, HasWidth, IsAimAt, IsNameOfValue}
use Rattle.rr_flat_instance.proofs.Lists.{Begins, stepped, and_then_ok}
use Rattle.rr_flat_instance.proofs.Shapes.{settled, settle_none, nil_left, nil_right, nil_both, expression_stays, aims_free, body_stays}
use Rattle.rr_flat_instance.proofs.Grown.{Grows, grows-trans, each_grows}

abbrev pub instance_walked : List Site → List Pick → Walked → Walked
instance_walked ss ps w = record w { flat = instance_flat ss ps w.flat }

-- the names of loops of an instance that is there
loops_kept : (n : ℕ) (w v : Walked) → Begins w.loops v.loops → n < length w.loops → loops_at v n ≡ loops_at w n
loops_kept n w v b l = ap (λ (xs : List LoopNames). slice_index_or xs n []) b.1 ∙ get_or_append_left w.loops b.0 [] n l

-- instance n is there, with these names of loops; each instance has an owner and such names; and tokens have no limit
pub record Ready (n : ℕ) (names : LoopNames) (w : Walked) : Type 0 where
  pub there : n < length w.flat.scopes
  pub even : length w.flat.owners ≡ length w.flat.scopes
  pub lined : length w.loops ≡ length w.flat.scopes
  pub loops : loops_at w n ≡ names
  pub limit : w.limit ≡ None

pub ready_later : (n : ℕ) (names : LoopNames) (w v : Walked) → Ready n names w → Grows w v → Ready n names v
ready_later n names w v r g = record {
  there = let a = r.there in let b = g.more in omega arith;
  even = g.even r.even;
  lined = g.lined r.lined;
  loops = loops_kept n w v g.loops (let a = r.there in let e = r.lined in omega (arith, a, e)) ∙ r.loops;
  limit = g.limit ∙ r.limit;
}

-- names that mean the same

pub scalar_alike : (a b : Names) (name : List ℕ) → Alike a b → IsScalar b name → IsScalar a name
scalar_alike a b name h s = (s.0, (s.1.0, h name ∙ s.1.1))

pub width_alike : (a b : Names) (name : List ℕ) (w : ℕ) → Alike a b → HasWidth b name w → HasWidth a name w
width_alike a b name w h s = record { shape = rw (h name) s.shape; width = s.width; single = rw (h name) s.single }

module _ (ss : List Site) (ps : List Pick) where
  -- one driver or block more

  pub driver_instance : (target value : Side) (at : ℕ) (w : Walked)
      → with_driver target (instance_side ss ps value) (instance_at ss ps target value at) (instance_walked ss ps w) ≡ instance_walked ss ps (with_driver target value at w)
  unfolding instance_flat
  driver_instance target value at w =
      ap₂ (λ (n : ℕ) (ds : List Driver). record w {
        flat = record w.flat {
          drivers = ds;
          clocked = map (instance_block ss ps) w.flat.clocked;
          combinational = map (instance_block ss ps) w.flat.combinational;
          walk = w.flat.walk ++ part.Driver n ∷ [];
        };
      })
      (length-map w.flat.drivers (instance_driver ss ps)) (sym (map-append (instance_driver ss ps) w.flat.drivers (record { target = target; value = value; token = at } ∷ [])))

  combined_instance : (b : plain_design.Block) (w : Walked) → combined (instance_block ss ps b) (instance_walked ss ps w) ≡ instance_walked ss ps (combined b w)
  unfolding instance_flat
  combined_instance b w =
      ap₂ (λ (n : ℕ) (bs : List plain_design.Block). record w {
        flat = record w.flat {
          drivers = map (instance_driver ss ps) w.flat.drivers;
          clocked = map (instance_block ss ps) w.flat.clocked;
          combinational = bs;
          walk = w.flat.walk ++ part.Combinational n ∷ [];
        };
      })
      (length-map w.flat.combinational (instance_block ss ps)) (sym (map-append (instance_block ss ps) w.flat.combinational (b ∷ [])))

  clocked_instance : (b : plain_design.Block) (w : Walked) → clocked (instance_block ss ps b) (instance_walked ss ps w) ≡ instance_walked ss ps (clocked b w)
  unfolding instance_flat
  clocked_instance b w =
      ap₂ (λ (n : ℕ) (bs : List plain_design.Block). record w {
        flat = record w.flat {
          drivers = map (instance_driver ss ps) w.flat.drivers;
          clocked = bs;
          combinational = map (instance_block ss ps) w.flat.combinational;
          walk = w.flat.walk ++ part.Clocked n ∷ [];
        };
      })
      (length-map w.flat.clocked (instance_block ss ps)) (sym (map-append (instance_block ss ps) w.flat.clocked (b ∷ [])))

  block_instance : (i : ℕ) (events : EventControl) (s : Statement) (at : ℕ) (w : Walked)
      → with_block i events (instance_body ss ps (first_token s) s) at (instance_walked ss ps w) ≡ instance_walked ss ps (with_block i events s at w)
  block_instance i (Star brackets) s at w = combined_instance (record { body = s; edges = []; scope = i; token = at }) w
  block_instance i (Edges list commas) s at w = clocked_instance (record { body = s; edges = list; scope = i; token = at }) w
  block_instance i (Levels list commas) s at w = combined_instance (record { body = s; edges = []; scope = i; token = at }) w

  -- names stand for what they stood for
  pub scope_instance : (w : Walked) (i : ℕ) → scope_at (instance_walked ss ps w) i ≡ scope_at w i
  unfolding instance_flat
  scope_instance w i = refl

  module _ (final : Walked) where
    -- steps of a list
    pub each_instance : {X : Type 0} (f : X → X) (step other : X → Walked → Result Walked FlatFault) (Fits : X → Type 0) (n : ℕ) (names : LoopNames)
        → ((x : X) (w v : Walked) → step x w ≡ Ok v → Grows w v)
        → ((x : X) (w v : Walked) → Fits x → Ready n names w → Grows v final → step x w ≡ Ok v → other (f x) (instance_walked ss ps w) ≡ Ok (instance_walked ss ps v))
        → (xs : List X) (w v : Walked) → AllByRecursion Fits xs → Ready n names w → Grows v final → each step xs w ≡ Ok v
        → each other (map f xs) (instance_walked ss ps w) ≡ Ok (instance_walked ss ps v)
    unfolding each
    each_instance f step other Fits n names grows one [] w v h r g e = let q : w ≡ v = cc in ap (λ (x : Walked). Ok (instance_walked ss ps x)) q
    each_instance f step other Fits n names grows one (x ∷ xs) w v h r g e =
        let s = stepped (step x w) (each step xs) v e in
        let k : Grows s.mid final = grows-trans s.mid v final (each_grows step grows xs s.mid v s.next) g in
        and_then_ok (other (f x) (instance_walked ss ps w)) (each other (map f xs)) (instance_walked ss ps s.mid) (one x w s.mid h.0 r k s.first)
        ∙ each_instance f step other Fits n names grows one xs s.mid v h.1 (ready_later n names w s.mid r (grows x w s.mid s.first)) g s.next

    -- a continuous assignment
    pub assign_instance : (i : ℕ) (p : NetAssignment) (w v : Walked) → ((name : List ℕ) → IsGuardName ss p.value name → IsScalar (scope_at w i) name)
        → ((name : List ℕ) → IsGuardName ss p.value name → contains (loops_at w i) name ≡ false) → assign i p w ≡ Ok v
        → assign i (instance_pair ss ps p) (instance_walked ss ps w) ≡ Ok (instance_walked ss ps v)
    unfolding assign instance_pair instance_flat
    assign_instance i p w v n free e =
        let s = settled (expression_faults (loops_at w i) (scope_at w i) p.target ++ expression_faults (loops_at w i) (scope_at w i) p.value) (with_driver (Written p.target i) (Written p.value i) (first p.target) w) v e in
        settle_none (expression_faults (loops_at w i) (scope_at w i) p.target ++ expression_faults (loops_at w i) (scope_at w i) (instance_tree ss ps p.value)) _
        (nil_both _ _ (nil_left (expression_faults (loops_at w i) (scope_at w i) p.target) (expression_faults (loops_at w i) (scope_at w i) p.value) s.none)
        (expression_stays ss ps (scope_at w i) (loops_at w i) p.value n free (nil_right (expression_faults (loops_at w i) (scope_at w i) p.target) (expression_faults (loops_at w i) (scope_at w i) p.value) s.none)))
        ∙ ap (λ (x : Walked). Ok x) (driver_instance (Written p.target i) (Written p.value i) (first p.target) w ∙ ap (instance_walked ss ps) s.is)

    -- a net with its value; its name is another token than the first of the value
    apart : (at : ℕ) (t : Tree) (new : ℕ) → (at ≡ first t → ⊥) → (if at == first t then new else at) ≡ at
    apart at t new h = rw (ne_eqb at (first t) h) refl

    net_driver_instance : (i at : ℕ) (t : Tree) (o : Option ℕ) (w : Walked) → (at ≡ first t → ⊥)
        → net_driver i at (instance_tree ss ps t) o (instance_walked ss ps w) ≡ instance_walked ss ps (net_driver i at t o w)
    net_driver_instance i at t None w h = refl
    net_driver_instance i at t (Some id) w h =
        ap (λ (n : ℕ). with_driver (Whole id) (Written (instance_tree ss ps t) i) n (instance_walked ss ps w)) (sym (apart at t (first (instance_tree ss ps t)) h))
        ∙ driver_instance (Whole id) (Written t i) at w

    net_value_instance : (i at : ℕ) (name : Text) (t : Tree) (w v : Walked) → (at ≡ first t → ⊥) → ((x : List ℕ) → IsGuardName ss t x → IsScalar (scope_at w i) x)
        → ((x : List ℕ) → IsGuardName ss t x → contains (loops_at w i) x ≡ false) → net_value i at name t w ≡ Ok v → net_value i at name (instance_tree ss ps t) (instance_walked ss ps w) ≡ Ok (instance_walked ss ps v)
    unfolding net_value instance_flat
    net_value_instance i at name t w v h n free e =
        let s = settled (expression_faults (loops_at w i) (scope_at w i) t) (net_driver i at t (place_of (lookup name (scope_at w i))) w) v e in
        settle_none (expression_faults (loops_at w i) (scope_at w i) (instance_tree ss ps t)) _ (expression_stays ss ps (scope_at w i) (loops_at w i) t n free s.none)
        ∙ ap (λ (x : Walked). Ok x) (net_driver_instance i at t (place_of (lookup name (scope_at w i))) w h ∙ ap (instance_walked ss ps) s.is)

    net_with_instance : (i at : ℕ) (name : Text) (o : Option Tree) (w v : Walked) → ((t : Tree) → o ≡ Some t → at ≡ first t → ⊥) → ((x : List ℕ) → IsNameOfValue ss o x → IsScalar (scope_at w i) x)
        → ((x : List ℕ) → IsNameOfValue ss o x → contains (loops_at w i) x ≡ false) → net_with i at name o w ≡ Ok v → net_with i at name (instance_value ss ps o) (instance_walked ss ps w) ≡ Ok (instance_walked ss ps v)
    unfolding instance_value
    net_with_instance i at name None w v h n free e = let q : w ≡ v = cc in ap (λ (x : Walked). Ok (instance_walked ss ps x)) q
    net_with_instance i at name (Some t) w v h n free e = net_value_instance i at name t w v (h t refl) n free e

    pub net_instance : (i : ℕ) (x : DeclaredName) (w v : Walked) → IsApart x → ((name : List ℕ) → IsNameOfValue ss x.value name → IsScalar (scope_at w i) name)
        → ((name : List ℕ) → IsNameOfValue ss x.value name → contains (loops_at w i) name ≡ false) → net i x w ≡ Ok v → net i (instance_net ss ps x) (instance_walked ss ps w) ≡ Ok (instance_walked ss ps v)
    unfolding net instance_net
    net_instance i x w v h n free e = net_with_instance i x.token x.text x.value w v h n free e

    -- an `always`, whose turns are the same ones, and whose unfolded body is the instance of the unfolded body
    pub always_instance : (i : ℕ) (events : EventControl) (s : Statement) (at : ℕ) (w v : Walked) → w.limit ≡ None → NamesStayOf ss s → ((name : List ℕ) → IsBodyName ss (first_token s) s name → IsScalar (scope_at w i) name)
        → ((target : List ℕ) (k : ℕ) → IsAimAt ss (first_token s) target k → HasWidth (scope_at w i) target k)
        → ((name : List ℕ) → IsBodyName ss (first_token s) s name → contains (loops_at w i) name ≡ false)
        → ((target : List ℕ) (k : ℕ) → IsAimAt ss (first_token s) target k → contains (loops_at w i) target ≡ false)
        → always i events s at w ≡ Ok v → always i events (instance_body ss ps (first_token s) s) at (instance_walked ss ps w) ≡ Ok (instance_walked ss ps v)
    unfolding always instance_flat
    always_instance i events s at w v none stays n a free aims e =
        let loops : LoopNames = loops_at w i in
        let scope : Names = scope_at w i in
        let token : ℕ = first_token s in
        let body : Statement = unfold_statement scope [] s in
        let new : Statement = instance_body ss ps token s in
        let told : List FlatFault = event_faults loops scope events in
        let c = stepped (counted w.limit loops scope [] s w.count) _ v e in
        let r = settled (loop_faults loops [] s ++ (told ++ option_to_list (earliest_of (statement_faults scope body)))) (with_block i events body at (record w { count = c.mid })) v c.next in
        let rules = nil_left (loop_faults loops [] s) (told ++ option_to_list (earliest_of (statement_faults scope body))) r.none in
        let rest = nil_right (loop_faults loops [] s) (told ++ option_to_list (earliest_of (statement_faults scope body))) r.none in
        let shaped : statement_faults scope body ≡ [] =
        none_earliest (statement_faults scope body) (none_listed (earliest_of (statement_faults scope body)) (nil_right told (option_to_list (earliest_of (statement_faults scope body))) rest)) in
        let same : unfold_statement scope [] new ≡ instance_body ss ps token body = body_unfolds ss ps loops scope token s stays free rules in
        let begins : first_token body ≡ token = ap (λ (o : Option ℕ). unwrap_or o 0) (body_begins scope s) in
        let kept : statement_faults scope (instance_body ss ps token body) ≡ [] = body_stays ss ps scope token body (λ x k. n x (body_names ss scope token s x k)) a shaped in
        let count : counted w.limit loops scope [] new w.count ≡ Ok c.mid =
        ap (λ (l : Option ℕ). counted l loops scope [] new w.count) none ∙ (body_turns ss ps loops scope token s w.count ∙ (sym (ap (λ (l : Option ℕ). counted l loops scope [] s w.count) none) ∙ c.first)) in
        let rest_none : told ++ option_to_list (earliest_of (statement_faults scope (unfold_statement scope [] new))) ≡ [] =
        nil_both told (option_to_list (earliest_of (statement_faults scope (unfold_statement scope [] new)))) (nil_left told (option_to_list (earliest_of (statement_faults scope body))) rest)
        (ap (λ (fs : List FlatFault). option_to_list (earliest_of fs)) (ap (statement_faults scope) same ∙ kept)) in
        let step : Count → Result Walked FlatFault =
        λ k. first_fault_or (loop_faults loops [] new ++ (told ++ option_to_list (earliest_of (statement_faults scope (unfold_statement scope [] new)))))
        (with_block i events (unfold_statement scope [] new) at (record (instance_walked ss ps w) { count = k })) in
        and_then_ok (counted w.limit loops scope [] new w.count) step c.mid count
        ∙ (settle_none (loop_faults loops [] new ++ (told ++ option_to_list (earliest_of (statement_faults scope (unfold_statement scope [] new)))))
        (with_block i events (unfold_statement scope [] new) at (record (instance_walked ss ps w) { count = c.mid }))
        (nil_both (loop_faults loops [] new) (told ++ option_to_list (earliest_of (statement_faults scope (unfold_statement scope [] new))))
        (instance_rules ss ps loops token s free (aims_free loops token ss aims) rules) rest_none)
        ∙ ap (λ (x : Walked). Ok x)
        (ap (λ (b : Statement). with_block i events b at (instance_walked ss ps (record w { count = c.mid }))) (same ∙ sym (ap (λ (k : ℕ). instance_body ss ps k body) begins))
        ∙ (block_instance i events body at (record w { count = c.mid }) ∙ ap (instance_walked ss ps) r.is)))

    -- an `initial` item, which stays as it is
    pub initial_instance : (i : ℕ) (s : Statement) (at : ℕ) (w v : Walked) → initial i s at w ≡ Ok v → initial i s at (instance_walked ss ps w) ≡ Ok (instance_walked ss ps v)
    unfolding initial instance_flat
    initial_instance i s at w v e =
        let body : Statement = unfold_statement (scope_at w i) [] s in
        let faults : List FlatFault = loop_faults (loops_at w i) [] s ++ option_to_list (earliest_of (initial_faults (scope_at w i) body)) in
        let c = stepped (counted w.limit (loops_at w i) (scope_at w i) [] s w.count) _ v e in
        let r = settled faults (with_initial i body at (record w { count = c.mid })) v c.next in
        let step : Count → Result Walked FlatFault = λ k. first_fault_or faults (with_initial i body at (record (instance_walked ss ps w) { count = k })) in
        and_then_ok (counted w.limit (loops_at w i) (scope_at w i) [] s w.count) step c.mid c.first
        ∙ (settle_none faults (with_initial i body at (record (instance_walked ss ps w) { count = c.mid })) r.none ∙ ap (λ (x : Walked). Ok (instance_walked ss ps x)) r.is)
