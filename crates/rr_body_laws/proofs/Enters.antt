-- The walk of a module and that of the module with other bodies.
use Rattle.std.proofs.Common.{◌≡◌, ◌∙◌, sym, ap, subst, ℕ, zero, suc, ◌+◌, ◌<◌, Bool, true, false, not, nat_lt, nat_eq, is_some, List, [], ◌∷◌, ◌++◌, length, length-append, get_or, Option, Some, None, Result, Ok, refl, fold, arith}
use Rattle.std.specs.List.{AllByRecursion, list_any}
use Rattle.rr_syntax.specs.Tree.{DeclaredName, NetAssignment, ModuleInstance, Connections, Positions, ModuleItem, Ports, Nets, Variables, Integers, Parameters, Assigns, Always, Initial, Instances, ModuleDeclaration, SourceText}
use Rattle.rr_syntax.specs.Tree.{Names as Named}
use Rattle.rr_expr.specs.Scopes.{Names, lookup}
use Rattle.rr_flat.specs.declared.fault.FlatFault.{FlatFault}
use Rattle.rr_flat.specs.declared.fault.FlatFault.TheVariants.{NameTwice, SelfInstance, TooMany}
use Rattle.rr_flat.specs.declared.fault.Limit.TheVariants.{Instances as InstanceCount}
use Rattle.rr_flat.specs.Faults.{and_then, each, first_fault_or, fault_if, fault_or}
use Rattle.rr_flat.specs.Plain.{Block}
use Rattle.rr_flat.specs.Signals.{Text}
use Rattle.rr_loop_rules.specs.Rules.{LoopNames, loop_names}
use Rattle.rr_declarations.specs.Heads.{Head, head}
use Rattle.rr_flatten.specs.Tables.{place_of, name_set}
use Rattle.rr_flatten.specs.Walk.{Walked, Enter, Checked, scope_at, loops_at, module_at, noted, nothing_checked, fold_trees, check_override, check_position, check_connection, check_port, overrides, connections, assign, net, initial, checked, with_instance, joined, instance_of, item, opened, begin, enter_by, enter}
use Rattle.rr_flat_laws.specs.Names.{module_of}
use Rattle.rr_flat_instance.proofs.Lists.{Begins, and_then_ok}
use Rattle.rr_flat_instance.proofs.Shapes.{settle_none}
use Rattle.rr_flat_instance.proofs.Grown.{Grows, grows-trans, each_grows, assign_grows, net_grows, always_grows, joined_grows, with_instance_grows, began, begin_grows, EnterGrows, inside, instance_grows, item_grows, entered, enter_grows}
use Rattle.rr_body_laws.specs.Bodies.{Bodies, AllChanged, IsAmong, KeepsBodies, item_with, module_with, modules_with}
use Rattle.rr_body_laws.proofs.Blocks.{put_blocks, same_blocks, Follows, follows_same, IsIn, in_later, each_follows, all_among}
use Rattle.rr_body_laws.proofs.Heads.{head_with}
use Rattle.rr_body_laws.proofs.Tables.{either_with, loop_names_with, open_names_with, parameter_table_with, port_names_with, module_either, module_changed, stands_among}
use Rattle.rr_body_laws.proofs.Walks.{each_of_map, always_follows, initial_with, assign_with, net_step_with, joined_with}

-- settings and connections see nothing of a body

overrides_with : (f : Bodies) (b : Bool) (m : ModuleDeclaration) (names : Names) (found : Option FlatFault) (over : Option Connections) → overrides (either_with b f m) names found over ≡ overrides m names found over
unfolding overrides
overrides_with f b m names found None = refl
overrides_with f b m names found (Some (Positions ts)) =
    ap (λ (left : List Text). (fold_trees (check_position names) (record { left = left; over = false; checked = nothing_checked found }) ts).checked) (open_names_with f b m)
overrides_with f b m names found (Some (Named list)) =
    ap (λ (table : Names). fold (check_override table names) (nothing_checked found) list) (parameter_table_with f b m)

connections_with : (loops : LoopNames) (f : Bodies) (b : Bool) (m : ModuleDeclaration) (names : Names) (found : Option FlatFault) (c : Connections) → connections loops (either_with b f m) names found c ≡ connections loops m names found c
unfolding connections
connections_with loops f b m names found (Positions ts) =
    ap (λ (left : List Text). (fold_trees (check_port loops names) (record { left = left; over = false; found = found }) ts).found) (port_names_with f b m)
connections_with loops f b m names found (Named list) =
    ap (λ (left : List Text). (fold (check_connection loops (name_set left) names) (record { found = found; seen = [] }) list).found) (port_names_with f b m)

checked_with : (loops : LoopNames) (f : Bodies) (b : Bool) (above : List ℕ) (names : Names) (m : ModuleDeclaration) (k at : ℕ) (over : Option Connections) (x : ModuleInstance)
    → checked loops above names (either_with b f m) k at over x ≡ checked loops above names m k at over x
unfolding checked
checked_with loops f b above names m k at over x =
    let begun : Option FlatFault = noted None (fault_if (list_any (nat_eq k) above) (SelfInstance at)) in
    let after : Checked → Option FlatFault = λ o. noted o.found (fault_if (is_some (lookup x.text names)) (NameTwice x.token)) in
    ap (λ (o : Checked). fault_or (connections loops (either_with b f m) names (after o) x.connections) o.given) (overrides_with f b m names begun over)
    ∙ (let o : Checked = overrides m names begun over in ap (λ (r : Option FlatFault). fault_or r o.given) (connections_with loops f b m names (after o) x.connections))

-- the owner behind others
owner_there : (xs zs : List ℕ) (k : ℕ) → get_or ((xs ++ k ∷ []) ++ zs) (length xs) 0 ≡ k
owner_there [] zs k = refl
owner_there (x ∷ xs) zs k = owner_there xs zs k

all_units : {X : Type 0} (xs : List X) → AllByRecursion (λ (x : X). Unit {0}) xs
all_units [] = tt
all_units (x ∷ xs) = (tt, all_units xs)

module _ (f : Bodies) (numbers : List ℕ) (source : SourceText) (final : Walked) (keeps : KeepsBodies f source final.flat)
    (reached : (k : ℕ) → k < length source.modules → list_any (nat_eq k) final.flat.owners ≡ true → list_any (nat_eq k) numbers ≡ true) where
  abbrev old_modules : List ModuleDeclaration
  old_modules = source.modules

  -- the source with other bodies
  abbrev new_modules : List ModuleDeclaration
  new_modules = modules_with numbers f 0 source.modules

  abbrev Follow : Result Walked FlatFault → Walked → Type 0
  Follow r v = Follows f source final.flat r v

  abbrev Changed : Walked → List Block → Type 0
  Changed w bs = AllChanged f source final.flat w.flat.combinational bs

  -- what an inner walk keeps to
  abbrev EnterFollows : Enter → Enter → Type 0
  EnterFollows sub other =
      (k : ℕ) (given : Names) (w v : Walked) (bs : List Block) → length w.flat.owners ≡ length w.flat.scopes → Grows v final → Changed w bs → sub k given w ≡ Ok v → Follow (other k given (put_blocks bs w)) v

  -- an instance in instance i
  child_follows : (above : List ℕ) (i : ℕ) (sub other : Enter) → EnterGrows sub → EnterFollows sub other → (at : ℕ) (over : Option Connections) (o : Option ℕ) (x : ModuleInstance) (w v : Walked) (bs : List Block)
      → IsIn i w → Grows v final → Changed w bs → instance_of old_modules above i sub at over o x w ≡ Ok v → Follow (instance_of new_modules above i other at over o x (put_blocks bs w)) v
  unfolding instance_of
  child_follows above i sub other grows follows at over None x w v bs l g c e = absurd (cc)
  child_follows above i sub other grows follows at over (Some k) x w v bs l g c e =
      let h = inside old_modules above i sub at over k x w v e in
      let m : ModuleDeclaration = module_at old_modules k in
      let place : ℕ = length w.flat.scopes in
      let last : Grows (joined i place m x.connections h.mid) final = rw h.is g in
      let mid : Grows h.mid final = grows-trans h.mid _ final (joined_grows i place m x.connections h.mid) last in
      let b : Bool = list_any (nat_eq (0 + k)) numbers in
      let r = follows k h.given (with_instance i x.text w) h.mid bs ((with_instance_grows i x.text w).even l.even) mid c h.walked in
      let own : joined i place m x.connections h.mid ≡ put_blocks h.mid.flat.combinational (joined i place m x.connections h.mid) = joined_with h.mid.flat.combinational f false i place m x.connections h.mid in
      let same : v.flat.combinational ≡ h.mid.flat.combinational = sym (ap (λ (u : Walked). u.flat.combinational) h.is) ∙ ap (λ (u : Walked). u.flat.combinational) own in
      let walk : ModuleDeclaration → Names → Result Walked FlatFault =
      λ n given. and_then (other k given (with_instance i x.text (put_blocks bs w))) (λ (u : Walked). Ok (joined i place n x.connections u)) in
      record {
        blocks = r.blocks;
        is = ap (λ (n : ModuleDeclaration). and_then (checked (loops_at w i) above (scope_at w i) n k at over x) (walk n)) (module_either f numbers 0 old_modules k)
            ∙ (and_then_ok (checked (loops_at w i) above (scope_at w i) (either_with b f m) k at over x) (walk (either_with b f m)) h.given
            (checked_with (loops_at w i) f b above (scope_at w i) m k at over x ∙ h.settings)
            ∙ (and_then_ok (other k h.given (with_instance i x.text (put_blocks bs w))) (λ (u : Walked). Ok (joined i place (either_with b f m) x.connections u)) (put_blocks r.blocks h.mid) r.is
            ∙ ap (λ (u : Walked). Ok u) (joined_with r.blocks f b i place m x.connections h.mid ∙ ap (put_blocks r.blocks) h.is)));
        changed = subst (λ (xs : List Block). AllChanged f source final.flat xs r.blocks) (sym same) r.changed;
      }

  -- what a step answers without a fault
  abbrev ok : Walked → Result Walked FlatFault
  ok w = Ok w

  same_walked : (w v : Walked) (bs : List Block) → Changed w bs → ok w ≡ ok v → Follow (ok (put_blocks bs w)) v
  same_walked w v bs c e = let q : w ≡ v = cc in record { blocks = bs; is = ap (λ (x : Walked). Ok (put_blocks bs x)) q; changed = subst (λ (x : Walked). Changed x bs) q c }

  step_follows : (above : List ℕ) (i : ℕ) (sub other : Enter) → EnterGrows sub → EnterFollows sub other → (table : Names) (x : ModuleItem) (w v : Walked) (bs : List Block)
      → IsAmong x (module_of source final.flat i).items → IsIn i w → Grows v final → Changed w bs → item old_modules table above i sub x w ≡ Ok v → Follow (item new_modules table above i other (item_with f x) (put_blocks bs w)) v
  unfolding item item_with
  step_follows above i sub other grows follows table (Ports p) w v bs a l g c e = same_walked w v bs c e
  step_follows above i sub other grows follows table (Nets signed range list) w v bs a l g c e =
      each_follows f source final i (λ (x : DeclaredName). Unit {0}) (net i) (net i) (net_grows i)
      (λ x w v bs b l g c e. follows_same f source final.flat (net i x (put_blocks bs w)) w v bs c (net_step_with bs i x w v e) (same_blocks (net i x) w v e (λ cs. net_step_with cs i x w v e)))
      list w v bs (all_units list) l g c e
  step_follows above i sub other grows follows table (Variables signed range list) w v bs a l g c e = same_walked w v bs c e
  step_follows above i sub other grows follows table (Integers list) w v bs a l g c e = same_walked w v bs c e
  step_follows above i sub other grows follows table (Parameters p) w v bs a l g c e = same_walked w v bs c e
  step_follows above i sub other grows follows table (Assigns pairs) w v bs a l g c e =
      each_follows f source final i (λ (x : NetAssignment). Unit {0}) (assign i) (assign i) (assign_grows i)
      (λ x w v bs b l g c e. follows_same f source final.flat (assign i x (put_blocks bs w)) w v bs c (assign_with bs i x w v e) (same_blocks (assign i x) w v e (λ cs. assign_with cs i x w v e)))
      pairs w v bs (all_units pairs) l g c e
  step_follows above i sub other grows follows table (Always events s at) w v bs a l g c e =
      let later : Grows w final = grows-trans w v final (always_grows i events s at w v e) g in
      let there = in_later i w final later l in
      let inside = there.there in
      let even = there.even in
      always_follows f source final.flat keeps i events s at w v bs (omega (arith, inside, even)) a (later.alike i l.there) c e
  step_follows above i sub other grows follows table (Initial s at) w v bs a l g c e =
      follows_same f source final.flat (initial i s at (put_blocks bs w)) w v bs c (initial_with bs i s at w v e) (same_blocks (initial i s at) w v e (λ cs. initial_with cs i s at w v e))
  step_follows above i sub other grows follows table (Instances m at over list) w v bs a l g c e =
      each_follows f source final i (λ (x : ModuleInstance). Unit {0}) (instance_of old_modules above i sub at over (place_of (lookup m table))) (instance_of new_modules above i other at over (place_of (lookup m table)))
      (instance_grows old_modules above i sub at over (place_of (lookup m table)) grows)
      (λ x w v bs b l g c e. child_follows above i sub other grows follows at over (place_of (lookup m table)) x w v bs l g c e) list w v bs (all_units list) l g c e

  -- the owners of the walk that began with a module
  begun_owners : (k : ℕ) (given : Names) (w v : Walked) → begin old_modules k given w ≡ Ok v → Grows v final → Begins (w.flat.owners ++ k ∷ []) final.flat.owners
  begun_owners k given w v e g = let b = began old_modules k given w v e in subst (λ (u : Walked). Begins u.flat.owners final.flat.owners) (sym b.is) g.owners

  -- its instance is one of the module
  begun_owner : (k : ℕ) (given : Names) (w v : Walked) → length w.flat.owners ≡ length w.flat.scopes → begin old_modules k given w ≡ Ok v → Grows v final → get_or final.flat.owners (length w.flat.scopes) 0 ≡ k
  begun_owner k given w v even e g =
      let o = begun_owners k given w v e g in
      ap (λ (xs : List ℕ). get_or xs (length w.flat.scopes) 0) o.1 ∙ (ap (λ (n : ℕ). get_or ((w.flat.owners ++ k ∷ []) ++ o.0) n 0) (sym even) ∙ owner_there w.flat.owners o.0 k)

  -- a module that is walked is one of those that change
  entered_changes : (k : ℕ) (given : Names) (w v : Walked) → begin old_modules k given w ≡ Ok v → Grows v final → module_at new_modules k ≡ module_with f (module_at old_modules k)
  entered_changes k given w v e g =
      let o = begun_owners k given w v e g in
      let owned : list_any (nat_eq k) final.flat.owners ≡ true = subst (λ (xs : List ℕ). list_any (nat_eq k) xs ≡ true) (sym o.1) (stands_among w.flat.owners o.0 k) in
      let n : 0 + k ≡ k = omega arith in
      module_changed f numbers 0 old_modules k (λ l. subst (λ (j : ℕ). list_any (nat_eq j) numbers ≡ true) (sym n) (reached k l owned))

  -- one more instance
  begin_with : (k : ℕ) (given : Names) (w v : Walked) (bs : List Block) → module_at new_modules k ≡ module_with f (module_at old_modules k) → begin old_modules k given w ≡ Ok v → begin new_modules k given (put_blocks bs w) ≡ Ok (put_blocks bs v)
  unfolding begin
  begin_with k given w v bs is e =
      let b = began old_modules k given w v e in
      let m : ModuleDeclaration = module_at old_modules k in
      let head_of : ModuleDeclaration → Result Head FlatFault = λ n. head (length w.flat.scopes) (length w.flat.signals) w.bits given n in
      let start : LoopNames → Result Head FlatFault → Result Walked FlatFault = λ names r. and_then r (λ (h : Head). Ok (opened k h names (put_blocks bs w))) in
      and_then_ok (first_fault_or (fault_if (not (nat_lt (length w.flat.scopes) 256)) (TooMany InstanceCount 257)) (put_blocks bs w)) _ (put_blocks bs w) (settle_none _ _ b.room)
      ∙ (ap (λ (n : ModuleDeclaration). start (loop_names n) (head_of n)) is
      ∙ (ap (λ (names : LoopNames). start names (head_of (module_with f m))) (loop_names_with f keeps.loops m)
      ∙ (ap (start (loop_names m)) (head_with f (length w.flat.scopes) (length w.flat.signals) w.bits given m)
      ∙ (ap (start (loop_names m)) b.found ∙ ap (λ (x : Walked). Ok (put_blocks bs x)) b.is))))

  -- and it has its number
  begun_in : (k : ℕ) (given : Names) (w v : Walked) → length w.flat.owners ≡ length w.flat.scopes → begin old_modules k given w ≡ Ok v → IsIn (length w.flat.scopes) v
  begun_in k given w v even e =
      let b = began old_modules k given w v e in
      let l = length-append w.flat.scopes (b.top.scope ∷ []) in
      record { there = subst (λ (u : Walked). length w.flat.scopes < length u.flat.scopes) b.is (omega (arith, l)); even = (begin_grows old_modules k given w v e).even even }

  pub enter_follows : (table : Names) (levels : ℕ) (above : List ℕ) → EnterFollows (enter old_modules table levels above) (enter new_modules table levels above)
  unfolding enter enter_by module_with
  enter_follows table zero above k given w v bs even g c e = absurd (cc)
  enter_follows table (suc n) above k given w v bs even g c e =
      let r = entered old_modules table (enter old_modules table n) above k given w v e in
      let deeper : List ℕ = above ++ k ∷ [] in
      let i : ℕ = length w.flat.scopes in
      let m : ModuleDeclaration = module_at old_modules k in
      let old = item old_modules table deeper i (enter old_modules table n deeper) in
      let new = item new_modules table deeper i (enter new_modules table n deeper) in
      let step = item_grows old_modules table deeper i (enter old_modules table n deeper) (enter_grows old_modules table n deeper) in
      let mid : Grows r.mid final = grows-trans r.mid v final (each_grows old step m.items r.mid v r.walked) g in
      let is = entered_changes k given w r.mid r.began mid in
      let among : AllByRecursion (λ (x : ModuleItem). IsAmong x (module_of source final.flat i).items) m.items =
      subst (λ (j : ℕ). AllByRecursion (λ (x : ModuleItem). IsAmong x (module_at old_modules j).items) m.items) (sym (begun_owner k given w r.mid even r.began mid)) (all_among m.items) in
      let b = began old_modules k given w r.mid r.began in
      let begun : Changed r.mid bs = subst (λ (u : Walked). Changed u bs) b.is c in
      let items = each_follows f source final i (λ (x : ModuleItem). IsAmong x (module_of source final.flat i).items) old (λ x. new (item_with f x)) step
      (step_follows deeper i (enter old_modules table n deeper) (enter new_modules table n deeper) (enter_grows old_modules table n deeper) (enter_follows table n deeper) table)
      m.items r.mid v bs among (begun_in k given w r.mid even r.began) g begun r.walked in
      record {
        blocks = items.blocks;
        is = and_then_ok (begin new_modules k given (put_blocks bs w)) (λ (u : Walked). each new (module_at new_modules k).items u) (put_blocks bs r.mid) (begin_with k given w r.mid bs is r.began)
            ∙ (ap (λ (z : ModuleDeclaration). each new z.items (put_blocks bs r.mid)) is ∙ (each_of_map (item_with f) new m.items (put_blocks bs r.mid) ∙ items.is));
        changed = items.changed;
      }
