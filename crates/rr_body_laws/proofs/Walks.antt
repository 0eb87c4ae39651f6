-- The items of a module but its instances: with other bodies, each block is the one with its new body, and all else goes on alike.
use Rattle.std.proofs.Common.{◌≡◌, ◌∙◌, sym, ap, subst, ℕ, ◌<◌, Bool, List, [], ◌∷◌, ◌++◌, length, map, Option, Some, None, Result, Ok, refl, fold, option_to_list}
use Rattle.rr_syntax.specs.Tree.{Tree, Trees, End, More, Statement, EventControl, Star, Edges, Levels, DeclaredName, NetAssignment, NamedConnection, Connections, Positions, ModuleItem, Always, ModuleDeclaration, SourceText}
use Rattle.rr_syntax.specs.Tree.{Names as Named}
use Rattle.rr_expr.specs.Faults.{first}
use Rattle.rr_expr.specs.Scopes.{Names, lookup, meant}
use Rattle.rr_flat.specs.declared.design.Part.TheVariants as part
use Rattle.rr_flat.specs.declared.fault.FlatFault.{FlatFault}
use Rattle.rr_flat.specs.declared.signal.Port.{Port}
use Rattle.rr_flat.specs.declared.signal.Port.TheVariants.{Inner, Input, Output}
use Rattle.rr_flat.specs.Faults.{and_then, each, earliest_of, first_fault_or}
use Rattle.rr_flat.specs.Plain.{Written, Whole}
use Rattle.rr_flat.specs.Plain as plain_design
use Rattle.rr_flat.specs.Shapes.{statement_faults}
use Rattle.rr_flat.specs.Signals.{Text, signal_at}
use Rattle.rr_flat.specs.Writers.{scope_at as final_scope}
use Rattle.rr_starts.specs.Starts.{initial_faults}
use Rattle.rr_loop_rules.specs.Rules.{LoopNames, loop_faults}
use Rattle.rr_unfold.specs.Unfold.{Count, counted, unfold_statement}
use Rattle.rr_flatten.specs.Tables.{place_of, port_names}
use Rattle.rr_flatten.specs.Walk.{Walked, scope_at, loops_at, expression_faults, with_driver, with_block, combined, assign, net_driver, net_value, net_with, net, event_faults, always, with_initial, initial, join_port, join_at, join, join_value, join_named, join_positions, joined}
use Rattle.rr_flat_laws.specs.Names.{module_of}
use Rattle.rr_flat_instance.proofs.Lists.{stepped, and_then_ok, and_then_same}
use Rattle.rr_flat_instance.proofs.Shapes.{settled, settle_none, nil_left, nil_right, nil_both}
use Rattle.rr_body_laws.specs.Bodies.{Bodies, AllChanged, IsAmong, IsChanged, KeepsBody, KeepsBodies, body_with}
use Rattle.rr_body_laws.proofs.Blocks.{put_blocks, changed_length, changed_more, Follows, unfound_earliest, earliest_none}
use Rattle.rr_body_laws.proofs.Tables.{either_with, port_names_with}

-- steps over a list whose elements change
pub each_of_map : {X S : Type 0} (g : X → X) (step : X → S → Result S FlatFault) (xs : List X) (s : S) → each step (map g xs) s ≡ each (λ x. step (g x)) xs s
unfolding each
each_of_map g step [] s = refl
each_of_map g step (x ∷ xs) s = and_then_same (step (g x) s) (step (g x) s) (each step (map g xs)) (each (λ x. step (g x)) xs) refl (each_of_map g step xs)

-- a block that runs where a value changes
abbrev block_of : ℕ → ℕ → Statement → plain_design.Block
block_of i at s = record { body = s; edges = []; scope = i; token = at }

-- the faults of an `always`
abbrev always_faults : LoopNames → Names → EventControl → Statement → List FlatFault
always_faults L names events s = loop_faults L [] s ++ (event_faults L names events ++ option_to_list (earliest_of (statement_faults names (unfold_statement names [] s))))

-- a new body has none where the old one has none
new_faults : (L : LoopNames) (names : Names) (events : EventControl) (s t : Statement) → KeepsBody L names s t → always_faults L names events s ≡ [] → always_faults L names events t ≡ []
new_faults L names events s t k h =
    let rest = nil_right (loop_faults L [] s) (event_faults L names events ++ option_to_list (earliest_of (statement_faults names (unfold_statement names [] s)))) h in
    nil_both (loop_faults L [] t) (event_faults L names events ++ option_to_list (earliest_of (statement_faults names (unfold_statement names [] t))))
    (k.loops (nil_left (loop_faults L [] s) (event_faults L names events ++ option_to_list (earliest_of (statement_faults names (unfold_statement names [] s)))) h))
    (nil_both (event_faults L names events) (option_to_list (earliest_of (statement_faults names (unfold_statement names [] t))))
    (nil_left (event_faults L names events) (option_to_list (earliest_of (statement_faults names (unfold_statement names [] s)))) rest)
    (earliest_none (statement_faults names (unfold_statement names [] t))
    (k.shapes (unfound_earliest (statement_faults names (unfold_statement names [] s)) (nil_right (event_faults L names events) (option_to_list (earliest_of (statement_faults names (unfold_statement names [] s)))) rest)))))

-- what is answered where the turns are counted and there are no faults
answers : (limit : Option ℕ) (L : LoopNames) (names : Names) (events : EventControl) (t : Statement) (start c : Count) (next : Count → Walked) → counted limit L names [] t start ≡ Ok c → always_faults L names events t ≡ []
    → and_then (counted limit L names [] t start) (λ d. first_fault_or (always_faults L names events t) (next d)) ≡ Ok (next c)
answers limit L names events t start c next counts none =
    and_then_ok (counted limit L names [] t start) (λ d. first_fault_or (always_faults L names events t) (next d)) c counts ∙ settle_none (always_faults L names events t) (next c) none

-- an `always`

module _ (f : Bodies) (source : SourceText) (final : plain_design.Flat) (keeps : KeepsBodies f source final) where
  -- one block more
  changed_block : (i at : ℕ) (old new : Statement) (w : Walked) (c : Count) (bs : List plain_design.Block) (r : Result Walked FlatFault) → AllChanged f source final w.flat.combinational bs → IsChanged f source final (block_of i at old) (block_of i at new)
      → r ≡ Ok (combined (block_of i at new) (record (put_blocks bs w) { count = c })) → Follows f source final r (combined (block_of i at old) (record w { count = c }))
  changed_block i at old new w c bs r h b e = record {
    blocks = bs ++ block_of i at new ∷ [];
    is = e ∙ ap (λ (x : Walked). Ok x) (ap (λ (n : ℕ). record w { flat = record w.flat { combinational = bs ++ block_of i at new ∷ []; walk = w.flat.walk ++ part.Combinational n ∷ [] }; count = c }) (changed_length f source final w.flat.combinational bs h));
    changed = changed_more f source final w.flat.combinational bs (block_of i at old) (block_of i at new) h b;
  }

  by_events : (i : ℕ) (events : EventControl) (s : Statement) (at : ℕ) (w : Walked) (bs : List plain_design.Block) (c : Count) → i < length final.owners → IsAmong (Always events s at) (module_of source final i).items
      → ((name : Text) → meant (scope_at w i) name ≡ meant (final_scope final i) name) → AllChanged f source final w.flat.combinational bs → counted w.limit (loops_at w i) (scope_at w i) [] s w.count ≡ Ok c
      → always_faults (loops_at w i) (scope_at w i) events s ≡ []
      → Follows f source final (always i events (body_with f events s at) at (put_blocks bs w)) (with_block i events (unfold_statement (scope_at w i) [] s) at (record w { count = c }))
  unfolding always
  by_events i (Star brackets) s at w bs c there among alike h counts none =
      let names : Names = scope_at w i in
      let k = keeps.bodies i names (Star brackets) s at there among alike (loops_at w i) in
      changed_block i at (unfold_statement names [] s) (unfold_statement names [] (f at s)) w c bs _ h
      (record { there = there; events = Star brackets; body = s; among = among; names = names; alike = alike; was = refl; is = refl })
      (answers w.limit (loops_at w i) names (Star brackets) (f at s) w.count c (λ d. combined (block_of i at (unfold_statement names [] (f at s))) (record (put_blocks bs w) { count = d })) (k.counts w.limit w.count c counts)
      (new_faults (loops_at w i) names (Star brackets) s (f at s) k none))
  by_events i (Edges list commas) s at w bs c there among alike h counts none =
      let names : Names = scope_at w i in
      record {
        blocks = bs;
        is = answers w.limit (loops_at w i) names (Edges list commas) s w.count c (λ d. with_block i (Edges list commas) (unfold_statement names [] s) at (record (put_blocks bs w) { count = d })) counts none;
        changed = h;
      }
  by_events i (Levels list commas) s at w bs c there among alike h counts none =
      let names : Names = scope_at w i in
      let k = keeps.bodies i names (Levels list commas) s at there among alike (loops_at w i) in
      changed_block i at (unfold_statement names [] s) (unfold_statement names [] (f at s)) w c bs _ h
      (record { there = there; events = Levels list commas; body = s; among = among; names = names; alike = alike; was = refl; is = refl })
      (answers w.limit (loops_at w i) names (Levels list commas) (f at s) w.count c (λ d. combined (block_of i at (unfold_statement names [] (f at s))) (record (put_blocks bs w) { count = d })) (k.counts w.limit w.count c counts)
      (new_faults (loops_at w i) names (Levels list commas) s (f at s) k none))

  pub always_follows : (i : ℕ) (events : EventControl) (s : Statement) (at : ℕ) (w v : Walked) (bs : List plain_design.Block) → i < length final.owners → IsAmong (Always events s at) (module_of source final i).items
      → ((name : Text) → meant (scope_at w i) name ≡ meant (final_scope final i) name) → AllChanged f source final w.flat.combinational bs → always i events s at w ≡ Ok v
      → Follows f source final (always i events (body_with f events s at) at (put_blocks bs w)) v
  unfolding always
  always_follows i events s at w v bs there among alike h e =
      let names : Names = scope_at w i in
      let body : Statement = unfold_statement names [] s in
      let r = stepped (counted w.limit (loops_at w i) names [] s w.count) (λ c. first_fault_or (always_faults (loops_at w i) names events s) (with_block i events body at (record w { count = c }))) v e in
      let q = settled (always_faults (loops_at w i) names events s) (with_block i events body at (record w { count = r.mid })) v r.next in
      subst (λ (x : Walked). Follows f source final (always i events (body_with f events s at) at (put_blocks bs w)) x) q.is (by_events i events s at w bs r.mid there among alike h r.first q.none)

module _ (bs : List plain_design.Block) where
  -- an `initial` item, which stays as it is
  pub initial_with : (i : ℕ) (s : Statement) (at : ℕ) (w v : Walked) → initial i s at w ≡ Ok v → initial i s at (put_blocks bs w) ≡ Ok (put_blocks bs v)
  unfolding initial
  initial_with i s at w v e =
      let names : Names = scope_at w i in
      let body : Statement = unfold_statement names [] s in
      let faults : List FlatFault = loop_faults (loops_at w i) [] s ++ option_to_list (earliest_of (initial_faults names body)) in
      let r = stepped (counted w.limit (loops_at w i) names [] s w.count) (λ c. first_fault_or faults (with_initial i body at (record w { count = c }))) v e in
      let q = settled faults (with_initial i body at (record w { count = r.mid })) v r.next in
      and_then_ok (counted w.limit (loops_at w i) names [] s w.count) (λ c. first_fault_or faults (with_initial i body at (record (put_blocks bs w) { count = c }))) r.mid r.first
      ∙ (settle_none faults (with_initial i body at (record (put_blocks bs w) { count = r.mid })) q.none ∙ ap (λ (x : Walked). Ok (put_blocks bs x)) q.is)

  -- assignments and nets

  pub assign_with : (i : ℕ) (p : NetAssignment) (w v : Walked) → assign i p w ≡ Ok v → assign i p (put_blocks bs w) ≡ Ok (put_blocks bs v)
  unfolding assign
  assign_with i p w v e =
      let faults : List FlatFault = expression_faults (loops_at w i) (scope_at w i) p.target ++ expression_faults (loops_at w i) (scope_at w i) p.value in
      let s = settled faults (with_driver (Written p.target i) (Written p.value i) (first p.target) w) v e in
      settle_none faults _ s.none ∙ ap (λ (x : Walked). Ok (put_blocks bs x)) s.is

  net_driver_with : (i at : ℕ) (t : Tree) (o : Option ℕ) (w : Walked) → net_driver i at t o (put_blocks bs w) ≡ put_blocks bs (net_driver i at t o w)
  net_driver_with i at t None w = refl
  net_driver_with i at t (Some id) w = refl

  net_value_with : (i at : ℕ) (name : Text) (t : Tree) (w v : Walked) → net_value i at name t w ≡ Ok v → net_value i at name t (put_blocks bs w) ≡ Ok (put_blocks bs v)
  unfolding net_value
  net_value_with i at name t w v e =
      let faults : List FlatFault = expression_faults (loops_at w i) (scope_at w i) t in
      let s = settled faults (net_driver i at t (place_of (lookup name (scope_at w i))) w) v e in
      settle_none faults _ s.none ∙ ap (λ (x : Walked). Ok x) (net_driver_with i at t (place_of (lookup name (scope_at w i))) w ∙ ap (put_blocks bs) s.is)

  net_option_with : (i at : ℕ) (name : Text) (o : Option Tree) (w v : Walked) → net_with i at name o w ≡ Ok v → net_with i at name o (put_blocks bs w) ≡ Ok (put_blocks bs v)
  net_option_with i at name None w v e = let q : w ≡ v = cc in ap (λ (x : Walked). Ok (put_blocks bs x)) q
  net_option_with i at name (Some t) w v e = net_value_with i at name t w v e

  pub net_step_with : (i : ℕ) (x : DeclaredName) (w v : Walked) → net i x w ≡ Ok v → net i x (put_blocks bs w) ≡ Ok (put_blocks bs v)
  unfolding net
  net_step_with i x w v e = net_option_with i x.token x.text x.value w v e

  -- the drivers of connections

  port_with : (p : Port) (i id : ℕ) (t : Tree) (w : Walked) → join_port p i id t (put_blocks bs w) ≡ put_blocks bs (join_port p i id t w)
  port_with Inner i id t w = refl
  port_with Input i id t w = refl
  port_with Output i id t w = refl

  at_with : (o : Option ℕ) (i : ℕ) (t : Tree) (w : Walked) → join_at o i t (put_blocks bs w) ≡ put_blocks bs (join_at o i t w)
  at_with None i t w = refl
  at_with (Some id) i t w = port_with (signal_at w.flat.signals id).port i id t w

  join_with : (i k : ℕ) (name : Text) (t : Tree) (w : Walked) → join i k name t (put_blocks bs w) ≡ put_blocks bs (join i k name t w)
  unfolding join
  join_with i k name t w = at_with (place_of (lookup name (scope_at w k))) i t w

  value_with : (i k : ℕ) (name : Text) (o : Option Tree) (w : Walked) → join_value i k name o (put_blocks bs w) ≡ put_blocks bs (join_value i k name o w)
  value_with i k name None w = refl
  value_with i k name (Some t) w = join_with i k name t w

  named_with : (i k : ℕ) (list : List NamedConnection) (w : Walked) → fold (join_named i k) (put_blocks bs w) list ≡ put_blocks bs (fold (join_named i k) w list)
  named_with i k [] w = refl
  named_with i k (x ∷ xs) w = ap (λ (v : Walked). fold (join_named i k) v xs) (value_with i k x.text x.value w) ∙ named_with i k xs (join_named i k w x)

  positions_with : (i k : ℕ) (left : List Text) (ts : Trees) (w : Walked) → join_positions i k left ts (put_blocks bs w) ≡ put_blocks bs (join_positions i k left ts w)
  unfolding join_positions
  positions_with i k left End w = refl
  positions_with i k [] (More t ts) w = refl
  positions_with i k (p ∷ rest) (More t ts) w = ap (λ (v : Walked). join_positions i k rest ts v) (join_with i k p t w) ∙ positions_with i k rest ts (join i k p t w)

  pub joined_with : (f : Bodies) (b : Bool) (i k : ℕ) (m : ModuleDeclaration) (c : Connections) (w : Walked) → joined i k (either_with b f m) c (put_blocks bs w) ≡ put_blocks bs (joined i k m c w)
  unfolding joined
  joined_with f b i k m (Positions ts) w =
      ap (λ (left : List Text). join_positions i k left ts (put_blocks bs w)) (port_names_with f b m) ∙ positions_with i k (port_names m) ts w
  joined_with f b i k m (Named list) w = named_with i k list w
