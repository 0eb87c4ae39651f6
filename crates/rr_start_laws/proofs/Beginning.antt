-- The starting values of a walk: those of the declarations, and then the assignments of its `initial` items.
use Rattle.std.proofs.Common.{◌≡◌, ◌∙◌, sym, ap, inl, inr, ℕ, zero, suc, ◌+◌, ◌<◌, ◌≤◌, List, [], ◌∷◌, ◌++◌, length, map, get_or, fold, Option, Some, None, Ok, refl, subst, arith, length-append}
use Rattle.std.specs.List.{AllByRecursion}
use Rattle.std.proofs.lemmas.List.{append-nil, map-append, get_or-map, length-map, length-set, get_or_append_left}
use Rattle.std.proofs.lemmas.List.Concat.{flat_map-append}
use Rattle.std.proofs.lemmas.List.Sums.{fold-append}
use Rattle.rr_syntax.specs.Tree.{Statement, Connections, ModuleInstance, ModuleItem, Ports, Nets, Variables, Integers, Parameters, Assigns, Always, Initial as InitialItem, Instances, ModuleDeclaration}
use Rattle.rr_expr.specs.declared.types.Entity.{Entity}
use Rattle.rr_expr.specs.declared.types.Entity.TheVariants as entity
use Rattle.rr_expr.specs.Scopes.{Names, lookup, meant}
use Rattle.rr_flat.specs.Plain.{Initial, Flat}
use Rattle.rr_flat.specs.Signals.{Text, Signal, no_signal, with_name}
use Rattle.rr_flat.proofs.Alike.{Alike}
use Rattle.rr_flat.proofs.Lists.{all_index}
use Rattle.rr_loop_rules.specs.Rules.{LoopNames, loop_names}
use Rattle.rr_unfold.specs.Unfold.{unfold_statement}
use Rattle.rr_declarations.specs.Heads.{Head}
use Rattle.rr_flatten.specs.Tables.{place_of}
use Rattle.rr_flatten.specs.Walk.{Walked, Enter, scope_at, module_at, assign, net, with_initial, initial, with_instance, joined, instance_of, item, opened, enter_by, enter, nothing, top_place, enter_top}
use Rattle.rr_flatten.proofs.HeadOf.{ok_is, not_ok, each_keeps, all_append, all_weaker, all_set, Entries, entries_with, Between, HeadOf, head_of}
use Rattle.rr_flat_laws.proofs.Growing.{Same, each_same, assign_same, net_same, always_same, initial_step, joined_same, began, inside, entered, named_alike}
use Rattle.rr_flat_laws.proofs.Naming.{walking}
use Rattle.rr_flat_laws.proofs.Shares.{all_flat}
use Rattle.rr_start_laws.specs.Starting.{Setting, settings_of, BeginsWith}
use Rattle.rr_start_laws.specs.Laws.{LastSettingCounts}
use Rattle.rr_start_laws.proofs.Settings.{set_one, started_is, settings_in, alike_in, Below, settings_below, fold_before, last_counts}
use Rattle.rr_start_laws.proofs.Steps.{Still, each_still, assign_still, net_still, always_still, joined_still}

-- what the declarations of these signals give
abbrev declared_starts : List Signal → List ℕ
declared_starts signals = map (λ s. s.start) signals

-- names stand for signals that are there, `initial` items are of instances that are there, and their assignments make the
-- starting values of those of the declarations
record Begun (signals : List Signal) (scopes : List Names) (initials : List Initial) (starts : List ℕ) : Type 0 where
  names : AllByRecursion (Entries (Between 0 (length signals))) scopes
  there : AllByRecursion (λ (x : Initial). x.scope < length scopes) initials
  is : starts ≡ fold set_one (declared_starts signals) (settings_in scopes initials)

abbrev BegunWalk : Walked → Type 0
BegunWalk w = Begun w.flat.signals w.flat.scopes w.flat.initials w.flat.starts

still_begun : (w v : Walked) → Same w v → Still w v → BegunWalk w → BegunWalk v
still_begun w v s t b =
    subst (Begun v.flat.signals v.flat.scopes v.flat.initials) (sym t.starts)
    (subst (λ (xs : List Initial). Begun v.flat.signals v.flat.scopes xs w.flat.starts) (sym t.initials)
    (subst (λ (ns : List Names). Begun v.flat.signals ns w.flat.initials w.flat.starts) s.scopes (subst (λ (ss : List Signal). Begun ss w.flat.scopes w.flat.initials w.flat.starts) s.signals b)))

-- the assignments set signals that are there
all_below : (signals : List Signal) (scopes : List Names) (initials : List Initial) (starts : List ℕ) → Begun signals scopes initials starts → AllByRecursion (Below (length signals)) (settings_in scopes initials)
all_below signals scopes initials starts b =
    all_flat (Below (length signals)) (λ x. settings_of (get_or scopes x.scope []) x.body) initials
    (all_weaker (λ x. x.scope < length scopes) (λ x. AllByRecursion (Below (length signals)) (settings_of (get_or scopes x.scope []) x.body)) initials
    (λ x l. settings_below (length signals) (get_or scopes x.scope []) x.body (all_index (Entries (Between 0 (length signals))) scopes x.scope [] b.names l)) b.there)

-- one more instance

between_more : (base n m : ℕ) (e : Entity) → n ≤ m → Between base n e → Between 0 m e
between_more base n m (entity.Constant bits signed) l h = tt
between_more base n m (entity.Signal id range signed) l h = let a = h.0 in let b = h.1 in (omega (arith, a), omega (arith, b, l))
between_more base n m (entity.Memory first low words range signed) l h = let a = h.0 in let b = h.1 in (omega (arith, a), omega (arith, b, l))
between_more base n m entity.Instance l h = tt

entries_more : (base n m : ℕ) (names : Names) → n ≤ m → Entries (Between base n) names → Entries (Between 0 m) names
entries_more base n m names l h = all_weaker (λ e. Between base n e.1) (λ e. Between 0 m e.1) names (λ e k. between_more base n m e.1 l k) h

opened_begun : (k : ℕ) (h : Head) (names : LoopNames) (w : Walked) → HeadOf (length w.flat.scopes) (length w.flat.signals) h → BegunWalk w → BegunWalk (opened k h names w)
opened_begun k h names w o b =
    let ss = w.flat.signals in
    let ns = w.flat.scopes in
    let xs = w.flat.initials in
    let n = length-append ss h.signals in
    let m = length-append ns (h.scope ∷ []) in
    let long = length-map ss (λ (s : Signal). s.start) in
    let old : AllByRecursion (Below (length (declared_starts ss))) (settings_in ns xs) =
    all_weaker (Below (length ss)) (Below (length (declared_starts ss))) (settings_in ns xs) (λ t l. omega (arith, l, long)) (all_below ss ns xs w.flat.starts b) in
    record {
      names = all_append (Entries (Between 0 (length (ss ++ h.signals)))) ns (h.scope ∷ [])
          (all_weaker (Entries (Between 0 (length ss))) (Entries (Between 0 (length (ss ++ h.signals)))) ns (λ s e. entries_more 0 (length ss) (length (ss ++ h.signals)) s (omega (arith, n)) e) b.names)
          (entries_more (length ss) (length ss + length h.signals) (length (ss ++ h.signals)) h.scope (omega (arith, n)) o.scope, tt);
      there = all_weaker (λ x. x.scope < length ns) (λ x. x.scope < length (ns ++ h.scope ∷ [])) xs (λ x l. omega (arith, l, m)) b.there;
      is = ap (λ (z : List ℕ). z ++ declared_starts h.signals) b.is
          ∙ (sym (fold_before (declared_starts ss) (declared_starts h.signals) (settings_in ns xs) old)
          ∙ (ap (λ (z : List ℕ). fold set_one z (settings_in ns xs)) (sym (map-append (λ (s : Signal). s.start) ss h.signals))
          ∙ ap (λ (z : List Setting). fold set_one (declared_starts (ss ++ h.signals)) z)
          (alike_in ns (ns ++ h.scope ∷ []) xs (all_weaker (λ x. x.scope < length ns) (λ x. Alike (get_or ns x.scope []) (get_or (ns ++ h.scope ∷ []) x.scope [])) xs
          (λ x l name. ap (λ (s : Names). meant s name) (sym (get_or_append_left ns (h.scope ∷ []) [] x.scope l))) b.there))));
    }

-- the name of an instance

named_begun : (i : ℕ) (name : Text) (w : Walked) → BegunWalk w → BegunWalk (with_instance i name w)
named_begun i name w b =
    let ns = w.flat.scopes in
    let n = length w.flat.signals in
    let m = length-set ns i (with_name (scope_at w i) name entity.Instance) in
    record {
      names = all_set (Entries (Between 0 n)) ns i (with_name (scope_at w i) name entity.Instance) b.names
          (λ l. entries_with (Between 0 n) (scope_at w i) name entity.Instance (all_index (Entries (Between 0 n)) ns i [] b.names l) tt);
      there = all_weaker (λ x. x.scope < length ns) (λ x. x.scope < length (with_instance i name w).flat.scopes) w.flat.initials (λ x l. omega (arith, l, m)) b.there;
      is = b.is ∙ ap (λ (z : List Setting). fold set_one (declared_starts w.flat.signals) z)
          (alike_in ns (with_instance i name w).flat.scopes w.flat.initials (all_weaker (λ x. x.scope < length ns) (λ x. Alike (get_or ns x.scope []) (get_or (with_instance i name w).flat.scopes x.scope [])) w.flat.initials
          (λ x l. named_alike i name w x.scope l) b.there));
    }

-- one more `initial` item

with_begun : (i : ℕ) (s : Statement) (at : ℕ) (w : Walked) → i < length w.flat.scopes → BegunWalk w → BegunWalk (with_initial i s at w)
with_begun i s at w l b =
    let x : Initial = record { body = s; scope = i; token = at } in
    let ns = w.flat.scopes in
    let xs = w.flat.initials in
    let base = declared_starts w.flat.signals in
    let own = settings_of (scope_at w i) s in
    record {
      names = b.names;
      there = all_append (λ (x : Initial). x.scope < length ns) xs (x ∷ []) b.there (l, tt);
      is = started_is (scope_at w i) s w.flat.starts
          ∙ (ap (λ (z : List ℕ). fold set_one z own) b.is
          ∙ (sym (fold-append set_one base (settings_in ns xs) own)
          ∙ ap (λ (z : List Setting). fold set_one base z) (sym (flat_map-append (λ (x : Initial). settings_of (get_or ns x.scope []) x.body) xs (x ∷ []) ∙ ap (λ (z : List Setting). settings_in ns xs ++ z) (append-nil own)))));
    }

-- The walk

-- in an instance that is there
abbrev Going : ℕ → Walked → Type 0
Going i w = BegunWalk w × (i < length w.flat.scopes)

abbrev Enters : Enter → Type 0
Enters sub = (k : ℕ) (given : Names) (w t : Walked) → BegunWalk w → sub k given w ≡ Ok t → BegunWalk t × (length w.flat.scopes ≤ length t.flat.scopes)

still_going : (i : ℕ) (w v : Walked) → Same w v → Still w v → Going i w → Going i v
still_going i w v s t g = (still_begun w v s t g.0, subst (λ (ns : List Names). i < length ns) s.scopes g.1)

after_initial : (i : ℕ) (s : Statement) (at : ℕ) (w v : Walked) → Going i w → initial i s at w ≡ Ok v → Going i v
after_initial i s at w v g e =
    let x = initial_step i s at w v e in
    subst (Going i) x.is (with_begun i (unfold_statement (scope_at w i) [] s) at (record w { count = x.count }) g.1 g.0, g.1)

module _ (ms : List ModuleDeclaration) where
  after_instance : (above : List ℕ) (i : ℕ) (sub : Enter) → Enters sub → (at : ℕ) (over : Option Connections) (o : Option ℕ) (x : ModuleInstance) (w t : Walked) → Going i w → instance_of ms above i sub at over o x w ≡ Ok t → Going i t
  unfolding instance_of
  after_instance above i sub s at over None x w t g e = absurd (not_ok _ t e)
  after_instance above i sub s at over (Some k) x w t g e =
      let r = inside ms above i sub at over k x w t e in
      let n = length w.flat.scopes in
      let m = length-set w.flat.scopes i (with_name (scope_at w i) x.text entity.Instance) in
      let q = s k r.given (with_instance i x.text w) r.mid (named_begun i x.text w g.0) r.walked in
      let l = g.1 in
      let more = q.1 in
      subst (Going i) r.is
      (still_going i r.mid (joined i n (module_at ms k) x.connections r.mid) (joined_same i n (module_at ms k) x.connections r.mid) (joined_still i n (module_at ms k) x.connections r.mid) (q.0, omega (arith, l, m, more)))

  after_item : (table : Names) (above : List ℕ) (i : ℕ) (sub : Enter) → Enters sub → (x : ModuleItem) (w t : Walked) → Going i w → item ms table above i sub x w ≡ Ok t → Going i t
  unfolding item
  after_item table above i sub s (Ports p) w t g e = subst (Going i) (ok_is w t e) g
  after_item table above i sub s (Nets signed range list) w t g e = still_going i w t (each_same (net i) (net_same i) list w t e) (each_still (net i) (net_still i) list w t e) g
  after_item table above i sub s (Variables signed range list) w t g e = subst (Going i) (ok_is w t e) g
  after_item table above i sub s (Integers list) w t g e = subst (Going i) (ok_is w t e) g
  after_item table above i sub s (Parameters p) w t g e = subst (Going i) (ok_is w t e) g
  after_item table above i sub s (Assigns pairs) w t g e = still_going i w t (each_same (assign i) (assign_same i) pairs w t e) (each_still (assign i) (assign_still i) pairs w t e) g
  after_item table above i sub s (Always events body at) w t g e = still_going i w t (always_same i events body at w t e) (always_still i events body at w t e) g
  after_item table above i sub s (InitialItem body at) w t g e = after_initial i body at w t g e
  after_item table above i sub s (Instances m at over list) w t g e =
      each_keeps (Going i) (instance_of ms above i sub at over (place_of (lookup m table))) (λ x a b h q. after_instance above i sub s at over (place_of (lookup m table)) x a b h q) list w t g e

  after_enter_by : (table : Names) (sub : List ℕ → Enter) → ((above : List ℕ) → Enters (sub above)) → (above : List ℕ) → Enters (enter_by ms table sub above)
  after_enter_by table sub s above k given w t f e =
      let r = entered ms table sub above k given w t e in
      let b = began ms k given w r.mid r.began in
      let n = length w.flat.scopes in
      let inner = above ++ k ∷ [] in
      let o = head_of n (length w.flat.signals) w.bits given (module_at ms k) b.top b.found in
      let one = length-append w.flat.scopes (b.top.scope ∷ []) in
      let g : Going n r.mid = subst (Going n) b.is (opened_begun k b.top (loop_names (module_at ms k)) w o f, omega (arith, one)) in
      let h = each_keeps (Going n) (item ms table inner n (sub inner)) (λ x a c h q. after_item table inner n (sub inner) (s inner) x a c h q) (module_at ms k).items r.mid t g r.walked in
      let l = h.1 in
      (h.0, omega (arith, l))

  after_enter : (table : Names) (levels : ℕ) (above : List ℕ) → Enters (enter ms table levels above)
  unfolding enter
  after_enter table zero above k given w t f e = absurd (not_ok _ t e)
  after_enter table (suc levels) above k given w t f e = after_enter_by table (enter ms table levels) (after_enter table levels) above k given w t f e

  begun_nothing : (at : ℕ) → BegunWalk (nothing None at)
  begun_nothing at = record { names = tt; there = tt; is = refl }

  after_top : (table : Names) (o : Option ℕ) (w : Walked) → enter_top None ms table o ≡ Ok w → BegunWalk w
  after_top table None w e = absurd (not_ok _ w e)
  after_top table (Some k) w e = (after_enter table 16 [] k [] (nothing None (module_at ms k).token) w (begun_nothing (module_at ms k).token) e).0

begins_with : (flat : Flat) → Begun flat.signals flat.scopes flat.initials flat.starts → (id : ℕ) → id < length flat.signals → BeginsWith flat id (get_or flat.starts id 0)
begins_with flat b id l =
    let base = declared_starts flat.signals in
    let long = length-map flat.signals (λ (s : Signal). s.start) in
    let e : get_or flat.starts id 0 ≡ get_or (fold set_one base (settings_in flat.scopes flat.initials)) id 0 = ap (λ (z : List ℕ). get_or z id 0) b.is in
    elim (last_counts id base (settings_in flat.scopes flat.initials) (omega (arith, l, long))) [
      | inl p ↦ inl (p.0, (p.1.0, e ∙ p.1.1))
      | inr p ↦ inr (p.0, e ∙ (p.1 ∙ get_or-map (λ (s : Signal). s.start) flat.signals id no_signal 0 l))
    ]

pub last_of_design : LastSettingCounts
last_of_design source top flat e =
    let w = walking source top flat e in
    let b = after_top source.modules w.table (top_place source.modules w.table top) w.end w.walked in
    begins_with flat (subst (λ (f : Flat). Begun f.signals f.scopes f.initials f.starts) w.is b)
