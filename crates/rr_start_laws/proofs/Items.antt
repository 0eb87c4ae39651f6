-- The `initial` items of a walk: each of each instance, once.
use Rattle.std.proofs.Common.{◌≡◌, ◌∙◌, sym, ap, inl, inr, ℕ, zero, suc, ◌+◌, ◌<◌, ◌≤◌, List, [], ◌∷◌, ◌++◌, length, get_or, Option, Some, None, Result, Ok, refl, subst, arith, length-append}
use Rattle.std.specs.List.{All, AllByRecursion, filter, flat_map}
use Rattle.std.proofs.lemmas.Bool.{cases_lt, cases_eq}
use Rattle.std.proofs.lemmas.List.{append-nil, append_assoc, length-set}
use Rattle.std.proofs.lemmas.List.Elements.{All-from_recursion}
use Rattle.rr_syntax.specs.Tree.{Statement, Connections, ModuleInstance, ModuleItem, Ports, Nets, Variables, Integers, Parameters, Assigns, Always, Initial as InitialItem, Instances, ModuleDeclaration, SourceText}
use Rattle.rr_expr.specs.declared.types.Entity.TheVariants as entity
use Rattle.rr_expr.specs.Scopes.{Names, lookup}
use Rattle.rr_flat.specs.declared.fault.FlatFault.{FlatFault}
use Rattle.rr_flat.specs.Faults.{each}
use Rattle.rr_flat.specs.Plain.{Initial, Flat}
use Rattle.rr_flat.specs.Signals.{with_name}
use Rattle.rr_flat.specs.Writers.{scope_at as scope_in}
use Rattle.rr_unfold.specs.Unfold.{unfold_statement}
use Rattle.rr_unfold.proofs.Meanings.{unfold_by_meanings}
use Rattle.rr_flatten.specs.Tables.{place_of}
use Rattle.rr_flatten.specs.Walk.{Walked, Enter, scope_at, module_at, assign, net, initial, with_instance, joined, instance_of, item, enter_by, enter, nothing, finished, top_place, enter_top}
use Rattle.rr_flatten.proofs.HeadOf.{ok_is, not_ok, first_ok, all_append}
use Rattle.rr_flat_laws.specs.Blocks.{unfolded_at}
use Rattle.rr_flat_laws.specs.Names.{module_of}
use Rattle.rr_flat_laws.proofs.Driving as driving
use Rattle.rr_flat_laws.proofs.Driving.{same_numbers, other_numbers, grows_back}
use Rattle.rr_flat_laws.proofs.Growing.{Same, each_same, assign_same, net_same, always_same, initial_step, initial_same, unknown, joined_same, began, inside, entered, Grows, grows_twice, EnterGrows, enter_grows, end_grows}
use Rattle.rr_flat_laws.proofs.Naming as naming
use Rattle.rr_flat_laws.proofs.Naming.{Fine, FineWalk, walking, after_top, fine_nothing}
use Rattle.rr_flat_laws.proofs.Opening.{opened_head}
use Rattle.rr_flat_laws.proofs.Shares.{Share, share_none, share_twice}
use Rattle.rr_flat_laws.proofs.Tabling.{Table, table_of}
use Rattle.rr_flat_laws.proofs.Texts.{flat_none, none_of}
use Rattle.rr_start_laws.specs.Starting.{initials_by, is_initial_of, AreInitials}
use Rattle.rr_start_laws.specs.Laws.{InitialsAreItems}
use Rattle.rr_start_laws.proofs.Steps.{Still, still_here, each_still, assign_still, net_still, always_still, joined_still}

abbrev initial_of : Statement → ℕ → ℕ → Initial
initial_of s i at = record { body = s; scope = i; token = at }

-- the item of one instance
share_own : (full : ℕ → List Initial) (i low high : ℕ) (x : Initial) → i < low → high ≡ low → x.scope ≡ i → Share is_initial_of full i low high (x ∷ []) (x ∷ [])
share_own full i low high x l e q = record {
  here = rw (q, same_numbers i) refl;
  before = λ j m d. rw (other_numbers x.scope j (λ f. d (sym f ∙ q))) refl;
  new = λ j m n. absurd (omega (arith, m, n, e));
  later = λ j m. rw (other_numbers x.scope j (λ f. omega (arith, f, q, m, l, e))) refl;
}

module _ (source : SourceText) (F : Flat) (whole : Fine source.modules F.signals F.scopes F.owners) (table : Names) (tabled : Table source.modules table) where
  abbrev Here : ℕ → ℕ → Walked → Type 0
  Here i k w = driving.Here source F whole table tabled i k w

  abbrev items_of : ℕ → List ModuleItem
  items_of k = (module_at source.modules k).items

  abbrev all_initials : ℕ → List Initial
  all_initials j = flat_map (initials_by F j) (module_of source F j).items

  -- the `initial` items that a step in instance i makes, and those of the instances that are new
  record Made (i : ℕ) (w t : Walked) (part : List Initial) : Type 0 where
    initials : List Initial
    is : t.flat.initials ≡ w.flat.initials ++ initials
    more : length w.flat.scopes ≤ length t.flat.scopes
    share : Share is_initial_of (λ j. flat_map (initials_by F j) (module_of source F j).items) i (length w.flat.scopes) (length t.flat.scopes) initials part
    inside : AllByRecursion (λ x. x.scope < length F.owners) initials

  made_none : (i : ℕ) (w t : Walked) → Still w t → length t.flat.scopes ≡ length w.flat.scopes → Made i w t []
  made_none i w t s n = record {
    initials = [];
    is = s.initials ∙ sym (append-nil w.flat.initials);
    more = omega (arith, n);
    share = share_none is_initial_of all_initials i (length w.flat.scopes) (length t.flat.scopes) n;
    inside = tt;
  }

  nothing_made : (i : ℕ) (w t : Walked) → w ≡ t → Made i w t []
  nothing_made i w t e = made_none i w t (subst (Still w) e (still_here w)) (ap (λ (u : Walked). length u.flat.scopes) (sym e))

  made_twice : (i : ℕ) (w u t : Walked) (a b : List Initial) → i < length w.flat.scopes → Made i w u a → Made i u t b → Made i w t (a ++ b)
  made_twice i w u t a b il x y = record {
    initials = x.initials ++ y.initials;
    is = y.is ∙ (ap (λ (z : List Initial). z ++ y.initials) x.is ∙ append_assoc w.flat.initials x.initials y.initials);
    more = omega (arith, x.more, y.more);
    share = share_twice is_initial_of all_initials i (length w.flat.scopes) (length u.flat.scopes) (length t.flat.scopes) x.initials y.initials a b il x.more y.more x.share y.share;
    inside = all_append (λ x. x.scope < length F.owners) x.initials y.initials x.inside y.inside;
  }

  -- the names of an instance mean in its walk what they mean at the end
  made_initial : (i k : ℕ) (s : Statement) (at : ℕ) (w t : Walked) → Here i k w → Grows t.flat F → initial i s at w ≡ Ok t → Made i w t (initial_of (unfolded_at F i s) i at ∷ [])
  made_initial i k s at w t h g e =
      let z = initial_same i s at w t e in
      let gw = grows_back w t F z g in
      let own : unfold_statement (scope_at w i) [] s ≡ unfolded_at F i s = unfold_by_meanings (scope_at w i) (scope_in F i) s (gw.scopes.1 i h.there) in
      let n : length t.flat.scopes ≡ length w.flat.scopes = ap (λ (ns : List Names). length ns) (sym z.scopes) in
      let x : Initial = initial_of (unfolded_at F i s) i at in
      record {
        initials = x ∷ [];
        is = ap (λ (u : Walked). u.flat.initials) (sym (initial_step i s at w t e).is) ∙ ap (λ (b : Statement). w.flat.initials ++ initial_of b i at ∷ []) own;
        more = omega (arith, n);
        share = share_own all_initials i (length w.flat.scopes) (length t.flat.scopes) x h.there n refl;
        inside = ((driving.at_end source F whole table tabled i k w h gw).0, tt);
      }

  -- a module was walked: its instance is the first that is new
  record Entering (k n : ℕ) (w t : Walked) : Type 0 where
    mid : Walked
    same : mid.flat.initials ≡ w.flat.initials
    one : length mid.flat.scopes ≡ n + 1
    fine : Fine source.modules t.flat.signals t.flat.scopes t.flat.owners
    owner : get_or t.flat.owners n 0 ≡ k
    made : Made n mid t (flat_map (initials_by F n) (module_at source.modules k).items)

  abbrev Enters : Enter → Type 0
  Enters sub = (k : ℕ) (given : Names) (w t : Walked) → FineWalk source.modules w → Grows t.flat F → sub k given w ≡ Ok t → Entering k (length w.flat.scopes) w t

  -- those of an instance are those of its own walk, seen from its parent
  share_child : (full : ℕ → List Initial) (i n low mid high last : ℕ) (xs part : List Initial) → i < low → low ≡ n → mid ≡ n + 1 → high ≡ last → part ≡ full n → Share is_initial_of full n mid last xs part → Share is_initial_of full i low high xs []
  share_child full i n low mid high last xs part il nl one e p s = record {
    here = s.before i (omega (arith, il, nl, one)) (λ q. omega (arith, q, il, nl));
    before = λ j l d. s.before j (omega (arith, l, nl, one)) (λ q. omega (arith, q, l, nl));
    new = λ j l m. elim (cases_eq j n) [
      | inl q ↦ subst (λ (z : ℕ). filter (is_initial_of z) xs ≡ full z) (sym q) (s.here ∙ p)
      | inr d ↦ s.new j (above j d (omega (arith, l, nl))) (omega (arith, m, e))
    ];
    later = λ j l. s.later j (omega (arith, l, e));
  }
    where
      above : (j : ℕ) → (j ≡ n → ⊥) → n ≤ j → mid ≤ j
      above j d l = elim (cases_lt n j) [ inl a ↦ omega (arith, a, one) | inr b ↦ absurd (d (omega (arith, b, l))) ]

  made_instance : (above : List ℕ) (i k : ℕ) (sub : Enter) → Enters sub → (at : ℕ) (over : Option Connections) (x : ModuleInstance) (w t : Walked) (o : Option ℕ) → Here i k w → Grows t.flat F → instance_of source.modules above i sub at over o x w ≡ Ok t → Made i w t []
  made_instance above i k sub s at over x w t None h g e = absurd (unknown source.modules above i sub at over x w t e)
  made_instance above i k sub s at over x w t (Some kk) h g e =
      let m = module_at source.modules kk in
      let r = inside source.modules above i sub at over kk x w t e in
      let n = length w.flat.scopes in
      let v = with_instance i x.text w in
      let u = joined i n m x.connections r.mid in
      let js = joined_same i n m x.connections r.mid in
      let st = joined_still i n m x.connections r.mid in
      let gu : Grows u.flat F = subst (λ (z : Walked). Grows z.flat F) (sym r.is) g in
      let gm : Grows r.mid.flat F = grows_back r.mid u F js gu in
      let en : Entering kk n v r.mid = subst (λ (z : ℕ). Entering kk z v r.mid) (length-set w.flat.scopes i (with_name (scope_at w i) x.text entity.Instance)) (s kk r.given v r.mid (naming.fine_named source.modules i x.text w h.fine) gm r.walked) in
      let one = en.one in
      let mm = en.made.more in
      let hn : Here n kk r.mid = record { fine = en.fine; there = omega (arith, mm, one); owner = en.owner } in
      let me = driving.module_is source F whole table tabled n kk r.mid hn gm in
      let high : length u.flat.scopes ≡ length r.mid.flat.scopes = ap (λ (ns : List Names). length ns) (sym js.scopes) in
      subst (λ (z : Walked). Made i w z []) r.is (record {
        initials = en.made.initials;
        is = st.initials ∙ ◌∙◌ {b = en.mid.flat.initials ++ en.made.initials} en.made.is (ap (λ (z : List Initial). z ++ en.made.initials) en.same);
        more = omega (arith, high, mm, one);
        share = share_child all_initials i n n (length en.mid.flat.scopes) (length u.flat.scopes) (length r.mid.flat.scopes) en.made.initials (flat_map (initials_by F n) (items_of kk)) h.there refl one high
            (ap (λ (z : ModuleDeclaration). flat_map (initials_by F n) z.items) (sym me)) en.made.share;
        inside = en.made.inside;
      })

  -- over a list
  made_each : {X : Type 0} (made : X → List Initial) (i k : ℕ) (step : X → Walked → Result Walked FlatFault) →
      ((x : X) (w t : Walked) → Here i k w → step x w ≡ Ok t → Here i k t × Grows w.flat t.flat) →
      ((x : X) (w t : Walked) → Here i k w → Grows t.flat F → step x w ≡ Ok t → Made i w t (made x)) →
      (xs : List X) (w t : Walked) → Here i k w → Grows t.flat F → each step xs w ≡ Ok t → Made i w t (flat_map made xs)
  unfolding each
  made_each made i k step keeps one [] w t h g e = nothing_made i w t (ok_is w t e)
  made_each made i k step keeps one (x ∷ xs) w t h g e =
      let r = first_ok (step x w) (each step xs) t e in
      let n = keeps x w r.0 h r.1.0 in
      let l = driving.each_later source F whole table tabled i k step keeps xs r.0 t n.0 r.1.1 in
      made_twice i w r.0 t (made x) (flat_map made xs) h.there (one x w r.0 h (grows_twice r.0.flat t.flat F l.1 g) r.1.0) (made_each made i k step keeps one xs r.0 t n.0 g r.1.1)

  -- Items

  same_made : (i : ℕ) (w t : Walked) → Still w t → Same w t → Made i w t []
  same_made i w t s z = made_none i w t s (ap (λ (ns : List Names). length ns) (sym z.scopes))

  made_item : (above : List ℕ) (i k : ℕ) (sub : Enter) → naming.Enters source.modules sub → EnterGrows sub → Enters sub → (x : ModuleItem) (w t : Walked) → Here i k w → Grows t.flat F → item source.modules table above i sub x w ≡ Ok t → Made i w t (initials_by F i x)
  unfolding item
  made_item above i k sub fs gs s (Ports p) w t h g e = nothing_made i w t (ok_is w t e)
  made_item above i k sub fs gs s (Nets signed range list) w t h g e = same_made i w t (each_still (net i) (net_still i) list w t e) (each_same (net i) (net_same i) list w t e)
  made_item above i k sub fs gs s (Variables signed range list) w t h g e = nothing_made i w t (ok_is w t e)
  made_item above i k sub fs gs s (Integers list) w t h g e = nothing_made i w t (ok_is w t e)
  made_item above i k sub fs gs s (Parameters p) w t h g e = nothing_made i w t (ok_is w t e)
  made_item above i k sub fs gs s (Assigns pairs) w t h g e = same_made i w t (each_still (assign i) (assign_still i) pairs w t e) (each_same (assign i) (assign_same i) pairs w t e)
  made_item above i k sub fs gs s (Always events body at) w t h g e = same_made i w t (always_still i events body at w t e) (always_same i events body at w t e)
  made_item above i k sub fs gs s (InitialItem body at) w t h g e = made_initial i k body at w t h g e
  made_item above i k sub fs gs s (Instances m at over list) w t h g e =
      subst (λ xs. Made i w t xs) (flat_none list)
      (made_each (λ (x : ModuleInstance). none_of Initial) i k (instance_of source.modules above i sub at over (place_of (lookup m table)))
      (λ x a b p q. driving.instance_keeps source F whole table tabled above i k sub fs gs at over (place_of (lookup m table)) x a b p q)
      (λ x a b p u q. made_instance above i k sub s at over x a b (place_of (lookup m table)) p u q) list w t h g e)

  -- Modules

  made_enter_by : (sub : List ℕ → Enter) → ((above : List ℕ) → naming.Enters source.modules (sub above)) → ((above : List ℕ) → EnterGrows (sub above)) → ((above : List ℕ) → Enters (sub above)) → (above : List ℕ) → Enters (enter_by source.modules table sub above)
  made_enter_by sub fs gs s above k given w t f g e =
      let r = entered source.modules table sub above k given w t e in
      let b = began source.modules k given w r.mid r.began in
      let n = length w.flat.scopes in
      let inner = above ++ k ∷ [] in
      let o = opened_head n (length w.flat.signals) w.bits given (module_at source.modules k) b.top b.found in
      let one : length r.mid.flat.scopes ≡ n + 1 = ap (λ (u : Walked). length u.flat.scopes) (sym b.is) ∙ length-append w.flat.scopes (b.top.scope ∷ []) in
      let h : Here n k r.mid = record {
        fine = subst (FineWalk source.modules) b.is (naming.fine_opened source.modules k b.top w f o);
        there = omega (arith, one);
        owner = ap (λ (u : Walked). get_or u.flat.owners n 0) (sym b.is) ∙ naming.last_entry source.modules w.flat.owners k 0 n (sym f.even);
      } in
      let step = item source.modules table inner n (sub inner) in
      let keeps : (x : ModuleItem) (a c : Walked) → Here n k a → step x a ≡ Ok c → Here n k c × Grows a.flat c.flat = λ x a c p q. driving.item_keeps source F whole table tabled inner n k (sub inner) (fs inner) (gs inner) x a c p q in
      let l = driving.each_later source F whole table tabled n k step keeps (items_of k) r.mid t h r.walked in
      record {
        mid = r.mid;
        same = ap (λ (u : Walked). u.flat.initials) (sym b.is);
        one = one;
        fine = l.0.fine;
        owner = l.0.owner;
        made = made_each (initials_by F n) n k step keeps (λ x a c p u q. made_item inner n k (sub inner) (fs inner) (gs inner) (s inner) x a c p u q) (items_of k) r.mid t h g r.walked;
      }

  made_enter : (levels : ℕ) (above : List ℕ) → Enters (enter source.modules table levels above)
  unfolding enter
  made_enter zero above k given w t f g e = absurd (not_ok _ t e)
  made_enter (suc levels) above k given w t f g e =
      made_enter_by (enter source.modules table levels) (naming.after_enter source.modules table levels) (enter_grows source.modules table levels) (made_enter levels) above k given w t f g e

  -- of the top
  module _ (k : ℕ) (w end : Walked) (none : w.flat.initials ≡ []) (initials : F.initials ≡ end.flat.initials) (scopes : F.scopes ≡ end.flat.scopes) (owners : F.owners ≡ end.flat.owners) (h : Entering k 0 w end) where
    initials_are : F.initials ≡ h.made.initials
    initials_are = initials ∙ (h.made.is ∙ ap (λ (xs : List Initial). xs ++ h.made.initials) (h.same ∙ none))

    top_module : module_of source F 0 ≡ module_at source.modules k
    top_module = ap (λ (z : ℕ). module_at source.modules z) (ap (λ (os : List ℕ). get_or os 0 0) owners ∙ h.owner)

    high : (i : ℕ) → i < length F.owners → i < length end.flat.scopes
    high i l = let e = whole.even in let s = ap length scopes in omega (arith, l, e, s)

    initials_at : (i : ℕ) → i < length F.owners → filter (is_initial_of i) h.made.initials ≡ flat_map (initials_by F i) (module_of source F i).items
    initials_at zero l = h.made.share.here ∙ ap (λ (m : ModuleDeclaration). flat_map (initials_by F 0) m.items) (sym top_module)
    initials_at (suc i) l = let o = h.one in h.made.share.new (suc i) (omega (arith, o)) (high (suc i) l)

    items : AreInitials source F
    items = record {
      items = λ i l. ap (λ (xs : List Initial). filter (is_initial_of i) xs) initials_are ∙ initials_at i l;
      inside = subst (λ (xs : List Initial). All (λ x. x.scope < length F.owners) xs) (sym initials_are) (All-from_recursion (λ x. x.scope < length F.owners) h.made.initials h.made.inside);
    }

items_of_top : (source : SourceText) (table : Names) → Table source.modules table → (o : Option ℕ) (end : Walked) → enter_top None source.modules table o ≡ Ok end → AreInitials source (finished source.modules end.flat)
items_of_top source table t None end e = absurd (not_ok _ end e)
items_of_top source table t (Some k) end e =
    let F = finished source.modules end.flat in
    let whole : Fine source.modules F.signals F.scopes F.owners = after_top source.modules table (Some k) end e in
    let w = nothing None (module_at source.modules k).token in
    items source F whole table t k w end refl refl refl refl (made_enter source F whole table t 16 [] k [] w end (fine_nothing source.modules (module_at source.modules k).token) (end_grows source.modules end) e)

pub items_of_design : InitialsAreItems
items_of_design source top flat e =
    let w = walking source top flat e in
    subst (AreInitials source) w.is (items_of_top source w.table (table_of source.modules w.table w.tabled) (top_place source.modules w.table top) w.end w.walked)
