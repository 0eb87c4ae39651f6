-- The table of a source's modules: a name stands for the place of its module.
use Rattle.std.proofs.Common.{◌≡◌, ◌∙◌, sym, ap, inl, inr, ℕ, ◌+◌, ◌-◌, ◌<◌, Bool, true, false, fold, if◌then◌else◌, List, [], ◌∷◌, ◌++◌, length, map, get_or, Option, Some, None, Ok, refl, subst, arith, length-append, is_some}
use Rattle.std.specs.List.{Contains}
use Rattle.std.proofs.lemmas.Bool.{both_ways}
use Rattle.std.proofs.lemmas.List.{get_or_append_left, get_or-append_right, append-nil, append_assoc}
use Rattle.rr_syntax.specs.Tree.{ModuleInstance, ModuleItem, Ports, Nets, Variables, Integers, Parameters, Assigns, Always, Initial, Instances, ModuleDeclaration, SourceText}
use Rattle.rr_expr.specs.Scopes.{Names, lookup}
use Rattle.rr_expr.specs.declared.types.Entity.{Entity}
use Rattle.rr_expr.specs.declared.types.Entity.TheVariants as entity
use Rattle.rr_flat.specs.declared.fault.FlatFault.TheVariants.{NameTwice}
use Rattle.rr_flat.specs.Faults.{fault_if, each}
use Rattle.rr_flat.specs.Signals.{Text, with_name}
use Rattle.rr_flatten.specs.Tables.{place_of, at_place, add_module, instantiated_by_item, instantiated_by, last_free}
use Rattle.rr_flatten.specs.Walk.{module_at, no_module, top_place}
use Rattle.rr_flatten.proofs.HeadOf.{ok_is, first_ok}
use Rattle.rr_flatten.proofs.TableLemmas.{grown_by_one}
use Rattle.rr_flat_laws.proofs.Answers.{not_if, settled}
use Rattle.rr_flat_laws.specs.Drivers.{Child, children_by}
use Rattle.rr_flat_laws.specs.Hierarchy.{IsTop}
use Rattle.rr_flat_laws.proofs.Texts.{some_is, none_some, nowhere, there_cases, with_stays, with_new, with_cases, found_of, found_some}

pub record Table (done : List ModuleDeclaration) (t : Names) : Type 0 where
  pub long : length t ≡ length done
  pub named : (n : Text) (k : ℕ) (range : Option (ℕ × ℕ)) (signed : Bool) → lookup n t ≡ Some (entity.Signal k range signed) → (k < length done) × ((module_at done k).text ≡ n)

same_number : (k l : ℕ) (range other : Option (ℕ × ℕ)) (signed sign : Bool) → entity.Signal k range signed ≡ entity.Signal l other sign → k ≡ l
same_number k l range other signed sign e = cc

table_more : (done : List ModuleDeclaration) (m : ModuleDeclaration) (t u : Names) → Table done t → add_module m t ≡ Ok u → Table (done ++ m ∷ []) u
unfolding add_module
table_more done m t u h e =
    let s = settled (fault_if (is_some (lookup m.text t)) (NameTwice m.token)) (at_place t m.text (length t)) u e in
    let free = not_if (is_some (lookup m.text t)) (NameTwice m.token) s.0 in
    let long = h.long in
    subst (Table (done ++ m ∷ [])) s.1 (record {
      long = grown_by_one t m.text (entity.Signal (length t) None false) free ∙ (ap (λ (n : ℕ). n + 1) long ∙ sym (length-append done (m ∷ [])));
      named = λ n k range signed f. elim (with_cases t n m.text (entity.Signal k range signed) (entity.Signal (length t) None false) f) [
        | inl a ↦
            let q = h.named n k range signed a in
            (omega (arith, q.0, length-append done (m ∷ [])), ap (λ (z : ModuleDeclaration). z.text) (get_or_append_left done (m ∷ []) no_module k q.0) ∙ q.1)
        | inr b ↦
            let z : k ≡ length done = same_number k (length t) range None signed false b.1 ∙ long in
            let d : k - length done ≡ 0 = omega (arith, z) in (
              omega (arith, z, length-append done (m ∷ [])),
              ap (λ (y : ModuleDeclaration). y.text) (get_or-append_right done (m ∷ []) (length done) k no_module refl (omega (arith, z)) ∙ ap (λ (i : ℕ). get_or (m ∷ []) i no_module) d) ∙ sym b.0,
            )
      ];
    })

tabled_on : (rest done : List ModuleDeclaration) (t u : Names) → Table done t → each add_module rest t ≡ Ok u → Table (done ++ rest) u
unfolding each
tabled_on [] done t u h e = subst (λ ms. Table ms u) (sym (append-nil done)) (subst (Table done) (ok_is t u e) h)
tabled_on (m ∷ ms) done t u h e =
    let r = first_ok (add_module m t) (each add_module ms) u e in
    subst (λ ns. Table ns u) (append_assoc done (m ∷ []) ms) (tabled_on ms (done ++ m ∷ []) r.0 u (table_more done m t r.0 h r.1.0) r.1.1)

no_table : Table [] []
unfolding lookup
no_table = record { long = refl; named = λ n k range signed e. absurd (none_some _ e) }

pub table_of : (ms : List ModuleDeclaration) (t : Names) → each add_module ms [] ≡ Ok t → Table ms t
table_of ms t e = tabled_on ms [] [] t no_table e

-- the module of a name
pub placed : (ms : List ModuleDeclaration) (t : Names) (n : Text) (k : ℕ) → Table ms t → place_of (lookup n t) ≡ Some k → (k < length ms) × ((module_at ms k).text ≡ n)
placed ms t n k h e = by (lookup n t) refl e
  where
    by : (o : Option Entity) → lookup n t ≡ o → place_of o ≡ Some k → (k < length ms) × ((module_at ms k).text ≡ n)
    by None q f = absurd (none_some k f)
    by (Some (entity.Constant bits signed)) q f = absurd (none_some k f)
    by (Some (entity.Signal id range signed)) q f = subst (λ (z : ℕ). (z < length ms) × ((module_at ms z).text ≡ n)) (some_is id k f) (h.named n id range signed q)
    by (Some (entity.Memory first low words range signed)) q f = absurd (none_some k f)
    by (Some entity.Instance) q f = absurd (none_some k f)

-- the last module that is free is one of the source
free_there : (names : Names) (at : ℕ) (rest : List ModuleDeclaration) (found : Option ℕ) (k : ℕ) → ((j : ℕ) → found ≡ Some j → j < at) → last_free names at rest found ≡ Some k → k < at + length rest
unfolding last_free
free_there names at [] found k h e = let l = h k e in omega (arith, l)
free_there names at (m ∷ ms) found k h e =
    let l = free_there names (at + 1) ms (if is_some (lookup m.text names) then found else Some at) k (λ j q. by (is_some (lookup m.text names)) j q) e in
    omega (arith, l)
  where
    by : (b : Bool) (j : ℕ) → (if b then found else Some at) ≡ Some j → j < at + 1
    by true j q = let l = h j q in omega (arith, l)
    by false j q = let s : at ≡ j = some_is at j q in omega (arith, s)

-- the top is a module of the source
pub top_there : (ms : List ModuleDeclaration) (t : Names) (top : Option Text) (k : ℕ) → Table ms t → top_place ms t top ≡ Some k → k < length ms
top_there ms t None k h e = let l = free_there (fold instantiated_by [] ms) 0 ms None k (λ j q. absurd (none_some j q)) e in omega (arith, l)
top_there ms t (Some name) k h e = (placed ms t name k h e).0

-- Names of modules that are instantiated

abbrev child_of : Text → ModuleInstance → Child
child_of m x = record { parent = 0; module_name = m; text = x }

-- a name that was added is found, and stays found
added_found : (names : Names) (n : Text) (e : Entity) → is_some (lookup n (with_name names n e)) ≡ true
added_found names n e = by (lookup n names) refl
  where
    by : (o : Option Entity) → lookup n names ≡ o → is_some (lookup n (with_name names n e)) ≡ true
    by None q = found_some (lookup n (with_name names n e)) e (with_new names n e q)
    by (Some x) q = found_some (lookup n (with_name names n e)) x (with_stays names n n x e q)

still_some : (names : Names) (m n : Text) (e : Entity) → is_some (lookup n names) ≡ true → is_some (lookup n (with_name names m e)) ≡ true
still_some names m n e h = let f = found_of (lookup n names) h in found_some (lookup n (with_name names m e)) f.0 (with_stays names m n f.0 e f.1)

module _ {X : Type 0} (step : Names → X → Names) (n : Text) (keeps : (names : Names) (x : X) → is_some (lookup n names) ≡ true → is_some (lookup n (step names x)) ≡ true) where
  known_stays : (xs : List X) (names : Names) → is_some (lookup n names) ≡ true → is_some (lookup n (fold step names xs)) ≡ true
  known_stays [] names h = h
  known_stays (x ∷ xs) names h = known_stays xs (step names x) (keeps names x h)

  known_in : (xs : List X) (x : X) (names : Names) → ((ns : Names) → is_some (lookup n (step ns x)) ≡ true) → Contains xs x → is_some (lookup n (fold step names xs)) ≡ true
  known_in [] x names h c = absurd (nowhere x c)
  known_in (y ∷ ys) x names h c = elim (there_cases y ys x c) [
    | inl e ↦ known_stays ys (step names y) (subst (λ z. is_some (lookup n (step names z)) ≡ true) (sym e) (h names))
    | inr k ↦ known_in ys x (step names y) h k
  ]

item_keeps : (n : Text) (names : Names) (x : ModuleItem) → is_some (lookup n names) ≡ true → is_some (lookup n (instantiated_by_item names x)) ≡ true
unfolding instantiated_by_item
item_keeps n names (Ports p) h = h
item_keeps n names (Nets signed range list) h = h
item_keeps n names (Variables signed range list) h = h
item_keeps n names (Integers list) h = h
item_keeps n names (Parameters p) h = h
item_keeps n names (Assigns pairs) h = h
item_keeps n names (Always events body token) h = h
item_keeps n names (Initial body token) h = h
item_keeps n names (Instances m token overrides list) h = still_some names m n (entity.Signal 0 None false) h

module_keeps : (n : Text) (names : Names) (m : ModuleDeclaration) → is_some (lookup n names) ≡ true → is_some (lookup n (instantiated_by names m)) ≡ true
unfolding instantiated_by
module_keeps n names m h = known_stays instantiated_by_item n (item_keeps n) m.items names h

child_name : (m : Text) (list : List ModuleInstance) (c : Child) → Contains (map (λ (x : ModuleInstance). child_of m x) list) c → c.module_name ≡ m
child_name m [] c h = absurd (nowhere c h)
child_name m (x ∷ xs) c h = elim (there_cases (child_of m x) (map (λ (y : ModuleInstance). child_of m y) xs) c h) [ inl e ↦ ap (λ (z : Child). z.module_name) (sym e) | inr k ↦ child_name m xs c k ]

-- an item that makes a child has the name of its module among those that are instantiated
item_has : (x : ModuleItem) (c : Child) (names : Names) → Contains (children_by 0 x) c → is_some (lookup c.module_name (instantiated_by_item names x)) ≡ true
unfolding instantiated_by_item
item_has (Ports p) c names h = absurd (nowhere c h)
item_has (Nets signed range list) c names h = absurd (nowhere c h)
item_has (Variables signed range list) c names h = absurd (nowhere c h)
item_has (Integers list) c names h = absurd (nowhere c h)
item_has (Parameters p) c names h = absurd (nowhere c h)
item_has (Assigns pairs) c names h = absurd (nowhere c h)
item_has (Always events body token) c names h = absurd (nowhere c h)
item_has (Initial body token) c names h = absurd (nowhere c h)
item_has (Instances m token overrides list) c names h =
    subst (λ (z : Text). is_some (lookup z (with_name names m (entity.Signal 0 None false))) ≡ true) (sym (child_name m list c h)) (added_found names m (entity.Signal 0 None false))

instantiated : (ms : List ModuleDeclaration) (n : ModuleDeclaration) (x : ModuleItem) (c : Child) → Contains ms n → Contains n.items x → Contains (children_by 0 x) c → is_some (lookup c.module_name (fold instantiated_by [] ms)) ≡ true
unfolding instantiated_by
instantiated ms n x c a b h =
    known_in instantiated_by c.module_name (module_keeps c.module_name) ms n [] (λ ns. known_in instantiated_by_item c.module_name (item_keeps c.module_name) n.items x ns (λ ks. item_has x c ks h) b) a

-- the last module that is free is not among them
free_is : (names : Names) (done rest : List ModuleDeclaration) (found : Option ℕ) (k : ℕ) → ((j : ℕ) → found ≡ Some j → is_some (lookup (module_at (done ++ rest) j).text names) ≡ false) → last_free names (length done) rest found ≡ Some k →
    is_some (lookup (module_at (done ++ rest) k).text names) ≡ false
unfolding last_free
free_is names done [] found k h e = h k e
free_is names done (m ∷ ms) found k h e =
    let r = append_assoc done (m ∷ []) ms in
    let n : length (done ++ m ∷ []) ≡ length done + 1 = length-append done (m ∷ []) in
    subst (λ (all : List ModuleDeclaration). is_some (lookup (module_at all k).text names) ≡ false) r
    (free_is names (done ++ m ∷ []) ms (if is_some (lookup m.text names) then found else Some (length done)) k
    (λ j q. subst (λ (all : List ModuleDeclaration). is_some (lookup (module_at all j).text names) ≡ false) (sym r) (by (is_some (lookup m.text names)) refl j q))
    (subst (λ (z : ℕ). last_free names z ms (if is_some (lookup m.text names) then found else Some (length done)) ≡ Some k) (sym n) e))
  where
    by : (b : Bool) → is_some (lookup m.text names) ≡ b → (j : ℕ) → (if b then found else Some (length done)) ≡ Some j → is_some (lookup (module_at (done ++ m ∷ ms) j).text names) ≡ false
    by true q j f = h j f
    by false q j f =
        let s : length done ≡ j = some_is (length done) j f in
        let z : length done - length done ≡ 0 = omega arith in
        let got : module_at (done ++ m ∷ ms) (length done) ≡ m = get_or-append_right done (m ∷ ms) (length done) (length done) no_module refl (omega arith) ∙ ap (λ (i : ℕ). get_or (m ∷ ms) i no_module) z in
        subst (λ (i : ℕ). is_some (lookup (module_at (done ++ m ∷ ms) i).text names) ≡ false) s (ap (λ (y : ModuleDeclaration). is_some (lookup y.text names)) got ∙ q)

-- what the top is
pub top_is : (source : SourceText) (t : Names) (top : Option Text) (k : ℕ) → Table source.modules t → top_place source.modules t top ≡ Some k → IsTop source top (module_at source.modules k)
top_is source t None k h e = λ n x c a b d q.
    both_ways (is_some (lookup c.module_name (fold instantiated_by [] source.modules)))
    (ap (λ (z : Text). is_some (lookup z (fold instantiated_by [] source.modules))) q ∙ free_is (fold instantiated_by [] source.modules) [] source.modules None k (λ j f. absurd (none_some j f)) e)
    (instantiated source.modules n x c a b d)
top_is source t (Some name) k h e = (placed source.modules t name k h e).1
