-- The blocks of a walk: each `always`, once.
use Rattle.std.proofs.Common.{◌≡◌, ◌∙◌, sym, ap, inl, inr, ℕ, zero, suc, ◌+◌, ◌<◌, ◌≤◌, true, false, List, [], ◌∷◌, ◌++◌, length, get_or, fold, Option, Some, None, Result, Ok, refl, subst, arith, length-append}
use Rattle.std.specs.List.{All, AllByRecursion, filter, flat_map}
use Rattle.std.proofs.lemmas.Bool.{cases_lt, cases_eq}
use Rattle.std.proofs.lemmas.List.{append-nil, append_assoc, length-set}
use Rattle.std.proofs.lemmas.List.Elements.{All-from_recursion}
use Rattle.rr_syntax.specs.Tree.{Tree, Trees, End, More, Statement, EventControl, Star, Edges, Levels, DeclaredName, NetAssignment, NamedConnection, Connections, Positions, ModuleInstance, ModuleItem, Ports, Nets, Variables, Integers, Parameters, Assigns, Always, Initial, Instances, ModuleDeclaration, SourceText}
use Rattle.rr_syntax.specs.Tree.{Names as Named}
use Rattle.rr_expr.specs.Faults.{first}
use Rattle.rr_expr.specs.Scopes.{Names, lookup}
use Rattle.rr_expr.specs.declared.types.Entity.TheVariants as entity
use Rattle.rr_flat.specs.declared.fault.FlatFault.{FlatFault}
use Rattle.rr_flat.specs.declared.signal.Port.{Port}
use Rattle.rr_flat.specs.declared.signal.Port.TheVariants.{Inner, Input, Output}
use Rattle.rr_flat.specs.Faults.{each}
use Rattle.rr_flat.specs.Plain.{Written, Block, Flat}
use Rattle.rr_flat.specs.Writers.{scope_at as scope_in}
use Rattle.rr_flat.specs.Signals.{Text, signal_at, with_name}
use Rattle.rr_flatten.specs.Tables.{place_of, port_names}
use Rattle.rr_loop_rules.specs.Rules.{loop_names}
use Rattle.rr_unfold.specs.Unfold.{Count, unfold_statement}
use Rattle.rr_unfold.proofs.Meanings.{unfold_by_meanings}
use Rattle.rr_flatten.specs.Walk.{Walked, Enter, scope_at, loops_at, module_at, with_driver, with_block, expression_faults, assign, net_driver, net_value, net_with, net, always, with_initial, initial, with_instance, join_port, join_at, join, join_value, join_named, join_positions, joined, instance_of, item, opened, enter_by, enter, nothing, finished, top_place, enter_top, flat_of}
use Rattle.rr_flatten.proofs.HeadOf.{ok_is, not_ok, first_ok, all_append, all_weaker}
use Rattle.rr_flat_laws.specs.Blocks.{unfolded_at, at_edges, at_changes, clocked_by, combinational_by, is_block_of, AreBlocks}
use Rattle.rr_flat_laws.specs.Names.{module_of}
use Rattle.rr_flat_laws.proofs.Answers.{settled}
use Rattle.rr_flat_laws.proofs.Driving as driving
use Rattle.rr_flat_laws.proofs.Driving.{same_numbers, other_numbers, grows_back}
use Rattle.rr_flat_laws.proofs.Growing.{Same, each_same, assign_same, net_same, always_step, always_same, initial_step, initial_same, joined_same, began, inside, entered, unknown, Grows, EnterGrows, grows_twice, enter_grows, end_grows}
use Rattle.rr_flat_laws.proofs.Naming as naming
use Rattle.rr_flat_laws.proofs.Naming.{Fine, FineWalk, walking, after_top, fine_nothing}
use Rattle.rr_flat_laws.proofs.Opening.{opened_head}
use Rattle.rr_flat_laws.proofs.Shares.{filter_all, filter_nothing, Share, share_none, share_twice}
use Rattle.rr_flat_laws.proofs.Tabling.{Table, table_of}
use Rattle.rr_flat_laws.proofs.Texts.{flat_none, none_of}

-- Steps that add no block

record Still (w v : Walked) : Type 0 where
  clocked : v.flat.clocked ≡ w.flat.clocked
  combinational : v.flat.combinational ≡ w.flat.combinational

still_here : (w : Walked) → Still w w
still_here w = record { clocked = refl; combinational = refl }

still_twice : (w v u : Walked) → Still w v → Still v u → Still w u
still_twice w v u a b = record { clocked = b.clocked ∙ a.clocked; combinational = b.combinational ∙ a.combinational }

still_to : (w v u : Walked) → Still w v → v ≡ u → Still w u
still_to w v u s e = subst (Still w) e s

each_still : {X : Type 0} (step : X → Walked → Result Walked FlatFault) → ((x : X) (w v : Walked) → step x w ≡ Ok v → Still w v) → (xs : List X) (w v : Walked) → each step xs w ≡ Ok v → Still w v
unfolding each
each_still step h [] w v e = still_to w w v (still_here w) (ok_is w v e)
each_still step h (x ∷ xs) w v e =
    let r = first_ok (step x w) (each step xs) v e in
    still_twice w r.0 v (h x w r.0 r.1.0) (each_still step h xs r.0 v r.1.1)

assign_still : (i : ℕ) (p : NetAssignment) (w v : Walked) → assign i p w ≡ Ok v → Still w v
unfolding assign
assign_still i p w v e =
    still_to w (with_driver (Written p.target i) (Written p.value i) (first p.target) w) v (record { clocked = refl; combinational = refl })
    (settled (expression_faults (loops_at w i) (scope_at w i) p.target ++ expression_faults (loops_at w i) (scope_at w i) p.value) (with_driver (Written p.target i) (Written p.value i) (first p.target) w) v e).1

initial_still : (i : ℕ) (s : Statement) (at : ℕ) (w v : Walked) → initial i s at w ≡ Ok v → Still w v
initial_still i s at w v e =
    let x = initial_step i s at w v e in
    still_to w (with_initial i (unfold_statement (scope_at w i) [] s) at (record w { count = x.count })) v (record { clocked = refl; combinational = refl }) x.is

net_driver_still : (i at : ℕ) (t : Tree) (o : Option ℕ) (w : Walked) → Still w (net_driver i at t o w)
net_driver_still i at t None w = still_here w
net_driver_still i at t (Some id) w = record { clocked = refl; combinational = refl }

net_with_still : (i at : ℕ) (name : Text) (o : Option Tree) (w v : Walked) → net_with i at name o w ≡ Ok v → Still w v
unfolding net_value
net_with_still i at name None w v e = still_to w w v (still_here w) (ok_is w v e)
net_with_still i at name (Some t) w v e =
    still_to w (net_driver i at t (place_of (lookup name (scope_at w i))) w) v (net_driver_still i at t (place_of (lookup name (scope_at w i))) w)
    (settled (expression_faults (loops_at w i) (scope_at w i) t) (net_driver i at t (place_of (lookup name (scope_at w i))) w) v e).1

net_still : (i : ℕ) (n : DeclaredName) (w v : Walked) → net i n w ≡ Ok v → Still w v
unfolding net
net_still i n w v e = net_with_still i n.token n.text n.value w v e

port_still : (p : Port) (i id : ℕ) (t : Tree) (w : Walked) → Still w (join_port p i id t w)
port_still Inner i id t w = still_here w
port_still Input i id t w = record { clocked = refl; combinational = refl }
port_still Output i id t w = record { clocked = refl; combinational = refl }

at_still : (o : Option ℕ) (i : ℕ) (t : Tree) (w : Walked) → Still w (join_at o i t w)
at_still None i t w = still_here w
at_still (Some id) i t w = port_still (signal_at w.flat.signals id).port i id t w

join_still : (i k : ℕ) (name : Text) (t : Tree) (w : Walked) → Still w (join i k name t w)
unfolding join
join_still i k name t w = at_still (place_of (lookup name (scope_at w k))) i t w

value_still : (i k : ℕ) (name : Text) (o : Option Tree) (w : Walked) → Still w (join_value i k name o w)
value_still i k name None w = still_here w
value_still i k name (Some t) w = join_still i k name t w

named_still : (i k : ℕ) (list : List NamedConnection) (w : Walked) → Still w (fold (join_named i k) w list)
named_still i k [] w = still_here w
named_still i k (n ∷ ns) w = still_twice w (join_named i k w n) (fold (join_named i k) (join_named i k w n) ns) (value_still i k n.text n.value w) (named_still i k ns (join_named i k w n))

positions_still : (i k : ℕ) (left : List Text) (ts : Trees) (w : Walked) → Still w (join_positions i k left ts w)
unfolding join_positions
positions_still i k left End w = still_here w
positions_still i k [] (More t ts) w = still_here w
positions_still i k (p ∷ ps) (More t ts) w = still_twice w (join i k p t w) (join_positions i k ps ts (join i k p t w)) (join_still i k p t w) (positions_still i k ps ts (join i k p t w))

joined_still : (i k : ℕ) (m : ModuleDeclaration) (c : Connections) (w : Walked) → Still w (joined i k m c w)
unfolding joined
joined_still i k m (Positions ts) w = positions_still i k (port_names m) ts w
joined_still i k m (Named list) w = named_still i k list w

-- one `always`
record Added (w v : Walked) (ticked changed : List Block) : Type 0 where
  clocked : v.flat.clocked ≡ w.flat.clocked ++ ticked
  combinational : v.flat.combinational ≡ w.flat.combinational ++ changed

block_added : (i : ℕ) (events : EventControl) (s : Statement) (at : ℕ) (c : Count) (w : Walked) → Added w (with_block i events s at (record w { count = c })) (at_edges i events s at) (at_changes i events s at)
block_added i (Star brackets) s at c w = record { clocked = sym (append-nil w.flat.clocked); combinational = refl }
block_added i (Edges list commas) s at c w = record { clocked = refl; combinational = sym (append-nil w.flat.combinational) }
block_added i (Levels list commas) s at c w = record { clocked = sym (append-nil w.flat.clocked); combinational = refl }

always_added : (i : ℕ) (events : EventControl) (s body : Statement) (at : ℕ) (w v : Walked) → unfold_statement (scope_at w i) [] s ≡ body → always i events s at w ≡ Ok v → Added w v (at_edges i events body at) (at_changes i events body at)
always_added i events s body at w v same e =
    let x = always_step i events s at w v e in
    subst (λ (b : Statement). Added w v (at_edges i events b at) (at_changes i events b at)) same
    (subst (λ (u : Walked). Added w u (at_edges i events (unfold_statement (scope_at w i) [] s) at) (at_changes i events (unfold_statement (scope_at w i) [] s) at)) x.is (block_added i events (unfold_statement (scope_at w i) [] s) at x.count w))

-- all of them are of the instance
edges_own : (i : ℕ) (events : EventControl) (s : Statement) (at : ℕ) → AllByRecursion (λ (b : Block). b.scope ≡ i) (at_edges i events s at)
edges_own i (Star brackets) s at = tt
edges_own i (Edges list commas) s at = (refl, tt)
edges_own i (Levels list commas) s at = tt

changes_own : (i : ℕ) (events : EventControl) (s : Statement) (at : ℕ) → AllByRecursion (λ (b : Block). b.scope ≡ i) (at_changes i events s at)
changes_own i (Star brackets) s at = (refl, tt)
changes_own i (Edges list commas) s at = tt
changes_own i (Levels list commas) s at = (refl, tt)

share_own : (full : ℕ → List Block) (i low high : ℕ) (xs : List Block) → i < low → high ≡ low → AllByRecursion (λ (b : Block). b.scope ≡ i) xs → Share is_block_of full i low high xs xs
share_own full i low high xs l e h = record {
  here = filter_all (is_block_of i) xs (all_weaker (λ b. b.scope ≡ i) (λ b. is_block_of i b ≡ true) xs (λ b q. rw q (same_numbers i)) h);
  before = λ j m d. filter_nothing (is_block_of j) xs (all_weaker (λ b. b.scope ≡ i) (λ b. is_block_of j b ≡ false) xs (λ b q. other_numbers b.scope j (λ f. d (sym f ∙ q))) h);
  new = λ j m n. absurd (omega (arith, m, n, e));
  later = λ j m. filter_nothing (is_block_of j) xs (all_weaker (λ b. b.scope ≡ i) (λ b. is_block_of j b ≡ false) xs (λ b q. other_numbers b.scope j (λ f. omega (arith, f, q, m, l, e))) h);
}

module _ (source : SourceText) (F : Flat) (whole : Fine source.modules F.signals F.scopes F.owners) (table : Names) (tabled : Table source.modules table) where
  abbrev Here : ℕ → ℕ → Walked → Type 0
  Here i k w = driving.Here source F whole table tabled i k w

  abbrev items_of : ℕ → List ModuleItem
  items_of k = (module_at source.modules k).items

  -- the blocks that a step in instance i makes, and those of the instances that are new
  record Made (i : ℕ) (w t : Walked) (ticked changed : List Block) : Type 0 where
    clocked : List Block
    combinational : List Block
    clocked_is : t.flat.clocked ≡ w.flat.clocked ++ clocked
    combinational_is : t.flat.combinational ≡ w.flat.combinational ++ combinational
    more : length w.flat.scopes ≤ length t.flat.scopes
    ticks : Share is_block_of (λ j. flat_map (clocked_by F j) (module_of source F j).items) i (length w.flat.scopes) (length t.flat.scopes) clocked ticked
    changes : Share is_block_of (λ j. flat_map (combinational_by F j) (module_of source F j).items) i (length w.flat.scopes) (length t.flat.scopes) combinational changed
    clocked_in : AllByRecursion (λ b. b.scope < length F.owners) clocked
    combinational_in : AllByRecursion (λ b. b.scope < length F.owners) combinational

  abbrev all_clocked : ℕ → List Block
  all_clocked j = flat_map (clocked_by F j) (module_of source F j).items

  abbrev all_combinational : ℕ → List Block
  all_combinational j = flat_map (combinational_by F j) (module_of source F j).items

  made_none : (i : ℕ) (w t : Walked) → Still w t → length t.flat.scopes ≡ length w.flat.scopes → Made i w t [] []
  made_none i w t s n = record {
    clocked = [];
    combinational = [];
    clocked_is = s.clocked ∙ sym (append-nil w.flat.clocked);
    combinational_is = s.combinational ∙ sym (append-nil w.flat.combinational);
    more = omega (arith, n);
    ticks = share_none is_block_of all_clocked i (length w.flat.scopes) (length t.flat.scopes) n;
    changes = share_none is_block_of all_combinational i (length w.flat.scopes) (length t.flat.scopes) n;
    clocked_in = tt;
    combinational_in = tt;
  }

  made_twice : (i : ℕ) (w u t : Walked) (a b c d : List Block) → i < length w.flat.scopes → Made i w u a c → Made i u t b d → Made i w t (a ++ b) (c ++ d)
  made_twice i w u t a b c d il x y = record {
    clocked = x.clocked ++ y.clocked;
    combinational = x.combinational ++ y.combinational;
    clocked_is = y.clocked_is ∙ (ap (λ (z : List Block). z ++ y.clocked) x.clocked_is ∙ append_assoc w.flat.clocked x.clocked y.clocked);
    combinational_is = y.combinational_is ∙ (ap (λ (z : List Block). z ++ y.combinational) x.combinational_is ∙ append_assoc w.flat.combinational x.combinational y.combinational);
    more = omega (arith, x.more, y.more);
    ticks = share_twice is_block_of all_clocked i (length w.flat.scopes) (length u.flat.scopes) (length t.flat.scopes) x.clocked y.clocked a b il x.more y.more x.ticks y.ticks;
    changes = share_twice is_block_of all_combinational i (length w.flat.scopes) (length u.flat.scopes) (length t.flat.scopes) x.combinational y.combinational c d il x.more y.more x.changes y.changes;
    clocked_in = all_append (λ b. b.scope < length F.owners) x.clocked y.clocked x.clocked_in y.clocked_in;
    combinational_in = all_append (λ b. b.scope < length F.owners) x.combinational y.combinational x.combinational_in y.combinational_in;
  }

  -- the names of an instance mean in its walk what they mean at the end
  made_always : (i k : ℕ) (events : EventControl) (s : Statement) (at : ℕ) (w t : Walked) → Here i k w → Grows t.flat F → always i events s at w ≡ Ok t → Made i w t (at_edges i events (unfolded_at F i s) at) (at_changes i events (unfolded_at F i s) at)
  made_always i k events s at w t h g e =
      let body : Statement = unfolded_at F i s in
      let z = always_same i events s at w t e in
      let gw = grows_back w t F z g in
      let a = always_added i events s body at w t (unfold_by_meanings (scope_at w i) (scope_in F i) s (gw.scopes.1 i h.there)) e in
      let n : length t.flat.scopes ≡ length w.flat.scopes = ap (λ (ns : List Names). length ns) (sym z.scopes) in
      let there = (driving.at_end source F whole table tabled i k w h gw).0 in
      record {
        clocked = at_edges i events body at;
        combinational = at_changes i events body at;
        clocked_is = a.clocked;
        combinational_is = a.combinational;
        more = omega (arith, n);
        ticks = share_own all_clocked i (length w.flat.scopes) (length t.flat.scopes) (at_edges i events body at) h.there n (edges_own i events body at);
        changes = share_own all_combinational i (length w.flat.scopes) (length t.flat.scopes) (at_changes i events body at) h.there n (changes_own i events body at);
        clocked_in = all_weaker (λ b. b.scope ≡ i) (λ b. b.scope < length F.owners) (at_edges i events body at) (λ b q. omega (arith, q, there)) (edges_own i events body at);
        combinational_in = all_weaker (λ b. b.scope ≡ i) (λ b. b.scope < length F.owners) (at_changes i events body at) (λ b q. omega (arith, q, there)) (changes_own i events body at);
      }

  -- a module was walked: its instance is the first that is new
  record Entering (k n : ℕ) (w t : Walked) : Type 0 where
    mid : Walked
    same : Still w mid
    one : length mid.flat.scopes ≡ n + 1
    fine : Fine source.modules t.flat.signals t.flat.scopes t.flat.owners
    owner : get_or t.flat.owners n 0 ≡ k
    made : Made n mid t (flat_map (clocked_by F n) (module_at source.modules k).items) (flat_map (combinational_by F n) (module_at source.modules k).items)

  abbrev Enters : Enter → Type 0
  Enters sub = (k : ℕ) (given : Names) (w t : Walked) → FineWalk source.modules w → Grows t.flat F → sub k given w ≡ Ok t → Entering k (length w.flat.scopes) w t

  -- the blocks of an instance are those of its own walk, seen from its parent
  share_child : (full : ℕ → List Block) (i n low mid high last : ℕ) (xs part : List Block) → i < low → low ≡ n → mid ≡ n + 1 → high ≡ last → part ≡ full n → Share is_block_of full n mid last xs part → Share is_block_of full i low high xs []
  share_child full i n low mid high last xs part il nl one e p s = record {
    here = s.before i (omega (arith, il, nl, one)) (λ q. omega (arith, q, il, nl));
    before = λ j l d. s.before j (omega (arith, l, nl, one)) (λ q. omega (arith, q, l, nl));
    new = λ j l m. elim (cases_eq j n) [
      | inl q ↦ subst (λ (z : ℕ). filter (is_block_of z) xs ≡ full z) (sym q) (s.here ∙ p)
      | inr d ↦ s.new j (above j d (omega (arith, l, nl))) (omega (arith, m, e))
    ];
    later = λ j l. s.later j (omega (arith, l, e));
  }
    where
      above : (j : ℕ) → (j ≡ n → ⊥) → n ≤ j → mid ≤ j
      above j d l = elim (cases_lt n j) [ inl a ↦ omega (arith, a, one) | inr b ↦ absurd (d (omega (arith, b, l))) ]

  made_instance : (above : List ℕ) (i k : ℕ) (sub : Enter) → Enters sub → (at : ℕ) (over : Option Connections) (x : ModuleInstance) (w t : Walked) (o : Option ℕ) → Here i k w → Grows t.flat F → instance_of source.modules above i sub at over o x w ≡ Ok t →
      Made i w t [] []
  made_instance above i k sub s at over x w t None h g e = absurd (unknown source.modules above i sub at over x w t e)
  made_instance above i k sub s at over x w t (Some kk) h g e =
      let m = module_at source.modules kk in
      let r = inside source.modules above i sub at over kk x w t e in
      let n = length w.flat.scopes in
      let v = with_instance i x.text w in
      let u = joined i n m x.connections r.mid in
      let js = joined_same i n m x.connections r.mid in
      let st = joined_still i n m x.connections r.mid in
      let gu : Grows u.flat F = subst (λ (z : Walked). Grows z.flat F) (sym r.is) g in
      let gm : Grows r.mid.flat F = grows_back r.mid u F js gu in
      let en : Entering kk n v r.mid = subst (λ (z : ℕ). Entering kk z v r.mid) (length-set w.flat.scopes i (with_name (scope_at w i) x.text entity.Instance)) (s kk r.given v r.mid (naming.fine_named source.modules i x.text w h.fine) gm r.walked) in
      let one = en.one in
      let mm = en.made.more in
      let hn : Here n kk r.mid = record { fine = en.fine; there = omega (arith, mm, one); owner = en.owner } in
      let me = driving.module_is source F whole table tabled n kk r.mid hn gm in
      let high : length u.flat.scopes ≡ length r.mid.flat.scopes = ap (λ (ns : List Names). length ns) (sym js.scopes) in
      subst (λ (z : Walked). Made i w z [] []) r.is (record {
        clocked = en.made.clocked;
        combinational = en.made.combinational;
        clocked_is = st.clocked ∙ (en.made.clocked_is ∙ ap (λ (z : List Block). z ++ en.made.clocked) en.same.clocked);
        combinational_is = st.combinational ∙ (en.made.combinational_is ∙ ap (λ (z : List Block). z ++ en.made.combinational) en.same.combinational);
        more = omega (arith, high, mm, one);
        ticks = share_child all_clocked i n n (length en.mid.flat.scopes) (length u.flat.scopes) (length r.mid.flat.scopes) en.made.clocked (flat_map (clocked_by F n) (items_of kk)) h.there refl one high
            (ap (λ (z : ModuleDeclaration). flat_map (clocked_by F n) z.items) (sym me)) en.made.ticks;
        changes = share_child all_combinational i n n (length en.mid.flat.scopes) (length u.flat.scopes) (length r.mid.flat.scopes) en.made.combinational (flat_map (combinational_by F n) (items_of kk)) h.there refl one high
            (ap (λ (z : ModuleDeclaration). flat_map (combinational_by F n) z.items) (sym me)) en.made.changes;
        clocked_in = en.made.clocked_in;
        combinational_in = en.made.combinational_in;
      })

  -- over a list
  made_each : {X : Type 0} (ticked changed : X → List Block) (i k : ℕ) (step : X → Walked → Result Walked FlatFault) →
      ((x : X) (w t : Walked) → Here i k w → step x w ≡ Ok t → Here i k t × Grows w.flat t.flat) →
      ((x : X) (w t : Walked) → Here i k w → Grows t.flat F → step x w ≡ Ok t → Made i w t (ticked x) (changed x)) →
      (xs : List X) (w t : Walked) → Here i k w → Grows t.flat F → each step xs w ≡ Ok t → Made i w t (flat_map ticked xs) (flat_map changed xs)
  unfolding each
  made_each ticked changed i k step keeps one [] w t h g e = made_none i w t (still_to w w t (still_here w) (ok_is w t e)) (ap (λ (u : Walked). length u.flat.scopes) (sym (ok_is w t e)))
  made_each ticked changed i k step keeps one (x ∷ xs) w t h g e =
      let r = first_ok (step x w) (each step xs) t e in
      let n = keeps x w r.0 h r.1.0 in
      let l = driving.each_later source F whole table tabled i k step keeps xs r.0 t n.0 r.1.1 in
      made_twice i w r.0 t (ticked x) (flat_map ticked xs) (changed x) (flat_map changed xs) h.there (one x w r.0 h (grows_twice r.0.flat t.flat F l.1 g) r.1.0) (made_each ticked changed i k step keeps one xs r.0 t n.0 g r.1.1)

  -- Items

  nothing_made : (i : ℕ) (w t : Walked) → w ≡ t → Made i w t [] []
  nothing_made i w t e = made_none i w t (still_to w w t (still_here w) e) (ap (λ (u : Walked). length u.flat.scopes) (sym e))

  same_made : (i : ℕ) (w t : Walked) → Still w t → Same w t → Made i w t [] []
  same_made i w t s z = made_none i w t s (ap (λ (ns : List Names). length ns) (sym z.scopes))

  made_item : (above : List ℕ) (i k : ℕ) (sub : Enter) → naming.Enters source.modules sub → EnterGrows sub → Enters sub → (x : ModuleItem) (w t : Walked) → Here i k w → Grows t.flat F → item source.modules table above i sub x w ≡ Ok t →
      Made i w t (clocked_by F i x) (combinational_by F i x)
  unfolding item
  made_item above i k sub fs gs s (Ports p) w t h g e = nothing_made i w t (ok_is w t e)
  made_item above i k sub fs gs s (Nets signed range list) w t h g e = same_made i w t (each_still (net i) (net_still i) list w t e) (each_same (net i) (net_same i) list w t e)
  made_item above i k sub fs gs s (Variables signed range list) w t h g e = nothing_made i w t (ok_is w t e)
  made_item above i k sub fs gs s (Integers list) w t h g e = nothing_made i w t (ok_is w t e)
  made_item above i k sub fs gs s (Parameters p) w t h g e = nothing_made i w t (ok_is w t e)
  made_item above i k sub fs gs s (Assigns pairs) w t h g e = same_made i w t (each_still (assign i) (assign_still i) pairs w t e) (each_same (assign i) (assign_same i) pairs w t e)
  made_item above i k sub fs gs s (Always events body at) w t h g e = made_always i k events body at w t h g e
  made_item above i k sub fs gs s (Initial body at) w t h g e = same_made i w t (initial_still i body at w t e) (initial_same i body at w t e)
  made_item above i k sub fs gs s (Instances m at over list) w t h g e =
      subst (λ bs. Made i w t bs []) (flat_none list)
      (subst (λ bs. Made i w t (flat_map (λ (x : ModuleInstance). none_of Block) list) bs) (flat_none list)
      (made_each (λ (x : ModuleInstance). none_of Block) (λ (x : ModuleInstance). none_of Block) i k (instance_of source.modules above i sub at over (place_of (lookup m table)))
      (λ x a b p q. driving.instance_keeps source F whole table tabled above i k sub fs gs at over (place_of (lookup m table)) x a b p q)
      (λ x a b p u q. made_instance above i k sub s at over x a b (place_of (lookup m table)) p u q) list w t h g e))

  -- Modules

  made_enter_by : (sub : List ℕ → Enter) → ((above : List ℕ) → naming.Enters source.modules (sub above)) → ((above : List ℕ) → EnterGrows (sub above)) → ((above : List ℕ) → Enters (sub above)) → (above : List ℕ) → Enters (enter_by source.modules table sub above)
  made_enter_by sub fs gs s above k given w t f g e =
      let r = entered source.modules table sub above k given w t e in
      let b = began source.modules k given w r.mid r.began in
      let n = length w.flat.scopes in
      let inner = above ++ k ∷ [] in
      let o = opened_head n (length w.flat.signals) w.bits given (module_at source.modules k) b.top b.found in
      let one : length r.mid.flat.scopes ≡ n + 1 = ap (λ (u : Walked). length u.flat.scopes) (sym b.is) ∙ length-append w.flat.scopes (b.top.scope ∷ []) in
      let h : Here n k r.mid = record {
        fine = subst (FineWalk source.modules) b.is (naming.fine_opened source.modules k b.top w f o);
        there = omega (arith, one);
        owner = ap (λ (u : Walked). get_or u.flat.owners n 0) (sym b.is) ∙ naming.last_entry source.modules w.flat.owners k 0 n (sym f.even);
      } in
      let step = item source.modules table inner n (sub inner) in
      let keeps : (x : ModuleItem) (a c : Walked) → Here n k a → step x a ≡ Ok c → Here n k c × Grows a.flat c.flat = λ x a c p q. driving.item_keeps source F whole table tabled inner n k (sub inner) (fs inner) (gs inner) x a c p q in
      let l = driving.each_later source F whole table tabled n k step keeps (items_of k) r.mid t h r.walked in
      record {
        mid = r.mid;
        same = still_to w (opened k b.top (loop_names (module_at source.modules k)) w) r.mid (record { clocked = refl; combinational = refl }) b.is;
        one = one;
        fine = l.0.fine;
        owner = l.0.owner;
        made = made_each (clocked_by F n) (combinational_by F n) n k step keeps (λ x a c p u q. made_item inner n k (sub inner) (fs inner) (gs inner) (s inner) x a c p u q) (items_of k) r.mid t h g r.walked;
      }

  made_enter : (levels : ℕ) (above : List ℕ) → Enters (enter source.modules table levels above)
  unfolding enter
  made_enter zero above k given w t f g e = absurd (not_ok _ t e)
  made_enter (suc levels) above k given w t f g e =
      made_enter_by (enter source.modules table levels) (naming.after_enter source.modules table levels) (enter_grows source.modules table levels) (made_enter levels) above k given w t f g e

  -- of the top
  module _ (k : ℕ) (w end : Walked) (no_clocked : w.flat.clocked ≡ []) (no_combinational : w.flat.combinational ≡ []) (clocked : F.clocked ≡ end.flat.clocked) (combinational : F.combinational ≡ end.flat.combinational)
      (scopes : F.scopes ≡ end.flat.scopes) (owners : F.owners ≡ end.flat.owners) (h : Entering k 0 w end) where
    clocked_are : F.clocked ≡ h.made.clocked
    clocked_are = clocked ∙ (h.made.clocked_is ∙ ap (λ (bs : List Block). bs ++ h.made.clocked) (h.same.clocked ∙ no_clocked))

    combinational_are : F.combinational ≡ h.made.combinational
    combinational_are = combinational ∙ (h.made.combinational_is ∙ ap (λ (bs : List Block). bs ++ h.made.combinational) (h.same.combinational ∙ no_combinational))

    top_module : module_of source F 0 ≡ module_at source.modules k
    top_module = ap (λ (z : ℕ). module_at source.modules z) (ap (λ (os : List ℕ). get_or os 0 0) owners ∙ h.owner)

    high : (i : ℕ) → i < length F.owners → i < length end.flat.scopes
    high i l = let e = whole.even in let s = ap length scopes in omega (arith, l, e, s)

    clocked_at : (i : ℕ) → i < length F.owners → filter (is_block_of i) h.made.clocked ≡ flat_map (clocked_by F i) (module_of source F i).items
    clocked_at zero l = h.made.ticks.here ∙ ap (λ (m : ModuleDeclaration). flat_map (clocked_by F 0) m.items) (sym top_module)
    clocked_at (suc i) l = let o = h.one in h.made.ticks.new (suc i) (omega (arith, o)) (high (suc i) l)

    combinational_at : (i : ℕ) → i < length F.owners → filter (is_block_of i) h.made.combinational ≡ flat_map (combinational_by F i) (module_of source F i).items
    combinational_at zero l = h.made.changes.here ∙ ap (λ (m : ModuleDeclaration). flat_map (combinational_by F 0) m.items) (sym top_module)
    combinational_at (suc i) l = let o = h.one in h.made.changes.new (suc i) (omega (arith, o)) (high (suc i) l)

    blocks : AreBlocks source F
    blocks = record {
      clocked = λ i l. ap (λ (bs : List Block). filter (is_block_of i) bs) clocked_are ∙ clocked_at i l;
      combinational = λ i l. ap (λ (bs : List Block). filter (is_block_of i) bs) combinational_are ∙ combinational_at i l;
      clocked_in = subst (λ (bs : List Block). All (λ b. b.scope < length F.owners) bs) (sym clocked_are) (All-from_recursion (λ b. b.scope < length F.owners) h.made.clocked h.made.clocked_in);
      combinational_in = subst (λ (bs : List Block). All (λ b. b.scope < length F.owners) bs) (sym combinational_are) (All-from_recursion (λ b. b.scope < length F.owners) h.made.combinational h.made.combinational_in);
    }

blocks_of_top : (source : SourceText) (table : Names) → Table source.modules table → (o : Option ℕ) (end : Walked) → enter_top None source.modules table o ≡ Ok end → AreBlocks source (finished source.modules end.flat)
blocks_of_top source table t None end e = absurd (not_ok _ end e)
blocks_of_top source table t (Some k) end e =
    let F = finished source.modules end.flat in
    let whole : Fine source.modules F.signals F.scopes F.owners = after_top source.modules table (Some k) end e in
    let w = nothing None (module_at source.modules k).token in
    blocks source F whole table t k w end refl refl refl refl refl refl (made_enter source F whole table t 16 [] k [] w end (fine_nothing source.modules (module_at source.modules k).token) (end_grows source.modules end) e)

pub blocks_of_design : (source : SourceText) (top : Option Text) (flat : Flat) → flat_of source top ≡ Ok flat → AreBlocks source flat
blocks_of_design source top flat e =
    let w = walking source top flat e in
    subst (AreBlocks source) w.is (blocks_of_top source w.table (table_of source.modules w.table w.tabled) (top_place source.modules w.table top) w.end w.walked)
