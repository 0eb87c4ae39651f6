-- The names that are listed for guards are those that may be one.
use Rattle.std.proofs.Common.{◌≡◌, inl, inr, ℕ, ◌<◌, ◌≤◌, Bool, true, false, not, ◌&&◌, ◌||◌, if◌then◌else◌, List, [], map, take, filter, flat_map, Contains, refl, sym, subst, ap, ◌∙◌}
use Rattle.std.specs.List.{list_any}
use Rattle.std.specs.Str.{bytes_eq}
use Rattle.std.proofs.lemmas.Bool.{and_parts, and_from, or_cases, or_left, or_right, both_ways, not-true, not_from_false, false_from_ne_true, ltb-true, lt-ltb, cases_Bool}
use Rattle.std.proofs.lemmas.Slice.Eq.{bytes_eq-Decides}
use Rattle.rr_syntax.specs.Items.{WellFormedModule, NumberedModule}
use Rattle.rr_syntax.specs.Tree.{Tree, Name, Literal, Bit, Part, Indexed, Unary, Binary, Cond, Concat, Repeat, Cast, Paren, Identifier, Statement, EventControl, ModuleItem, Ports, Nets, Variables, Integers, Parameters, Assigns, Always, Initial, Instances, ModuleDeclaration}
use Rattle.rr_flat.specs.Reads.{Assigned, assigned_by}
use Rattle.rr_flat.specs.Signals.{Text}
use Rattle.rr_flat.specs.Targets.{part_name}
use Rattle.rr_change_places.specs.Spots.{has_edges}
use Rattle.rr_guard.specs.Anywhere.{assigned_anywhere, anywhere_at_edges}
use Rattle.rr_guard.specs.Names.{scalars, firsts, assigned_at_edges, whole_name, is_text, is_now, is_later, writes_now, writes_later, may_guard, guard_names, is_before, first_names, names_at}
use Rattle.rr_sites_complete.specs.Declarations.{IsScalar}
use Rattle.rr_sites_complete.specs.GuardNames.{MayGuard, Rising, AreNamesAt}
use Rattle.rr_sites_complete.specs.Laws.{NamesAreThese}
use Rattle.rr_sites_complete.specs.Targets.{IsAssigned, IsAssignedAnywhere, IsOf, IsClockedBlock, IsWrittenNow, IsRegister}
use Rattle.rr_sites_complete.proofs.Anywhere.{anywhere_from, anywhere_in}
use Rattle.rr_sites_complete.proofs.Assigned.{IsLeaf, assigned_from, assigned_in}
use Rattle.rr_sites_complete.proofs.Declared.{any_from, any_in, scalars_from, scalars_in}
use Rattle.rr_sites_complete.proofs.FirstNames.{token_of, firsts_from, firsts_in, firsts_rise}
use Rattle.rr_sites_complete.proofs.Lists.{none_in, flat_in, flat_from, filter_in, filter_from}
use Rattle.rr_sites_complete.proofs.Rises.{rising_filter, same_rising}
use Rattle.rr_sites_complete.proofs.Scalars.{scalars_rise}

-- What clocked blocks write

-- one of those that a list has of a body
record AtEdges (list : Statement → List Assigned) (i : ModuleItem) (a : Assigned) : Type 0 where
  events : EventControl
  body : Statement
  token : ℕ
  is : i ≡ Always events body token
  edges : has_edges events ≡ true
  there : Contains (list body) a

at_edges : (list : Statement → List Assigned) (events : EventControl) (body : Statement) (token : ℕ) (a : Assigned) → Contains (if has_edges events then list body else []) a → AtEdges list (Always events body token) a
at_edges list events body token a c = by (has_edges events) refl c
  where
    by : (b : Bool) → has_edges events ≡ b → Contains (if b then list body else []) a → AtEdges list (Always events body token) a
    by true e c = record { events = events; body = body; token = token; is = refl; edges = e; there = c }
    by false e c = absurd (none_in a c)

edges_from : (i : ModuleItem) (a : Assigned) → Contains (assigned_at_edges i) a → AtEdges assigned_by i a
unfolding assigned_at_edges
edges_from (Ports p) a c = absurd (none_in a c)
edges_from (Nets signed range list) a c = absurd (none_in a c)
edges_from (Variables signed range list) a c = absurd (none_in a c)
edges_from (Integers list) a c = absurd (none_in a c)
edges_from (Parameters p) a c = absurd (none_in a c)
edges_from (Assigns pairs) a c = absurd (none_in a c)
edges_from (Always events body token) a c = at_edges assigned_by events body token a c
edges_from (Initial body token) a c = absurd (none_in a c)
edges_from (Instances m token over list) a c = absurd (none_in a c)

any_edges_from : (i : ModuleItem) (a : Assigned) → Contains (anywhere_at_edges i) a → AtEdges assigned_anywhere i a
unfolding anywhere_at_edges
any_edges_from (Ports p) a c = absurd (none_in a c)
any_edges_from (Nets signed range list) a c = absurd (none_in a c)
any_edges_from (Variables signed range list) a c = absurd (none_in a c)
any_edges_from (Integers list) a c = absurd (none_in a c)
any_edges_from (Parameters p) a c = absurd (none_in a c)
any_edges_from (Assigns pairs) a c = absurd (none_in a c)
any_edges_from (Always events body token) a c = at_edges assigned_anywhere events body token a c
any_edges_from (Initial body token) a c = absurd (none_in a c)
any_edges_from (Instances m token over list) a c = absurd (none_in a c)

block_of : (list : Statement → List Assigned) (m : ModuleDeclaration) (i : ModuleItem) (a : Assigned) → Contains m.items i → (h : AtEdges list i a) → IsClockedBlock m h.body
block_of list m i a c h = record { events = h.events; token = h.token; there = subst (Contains m.items) h.is c; edges = h.edges }

edges_in : (m : ModuleDeclaration) (body : Statement) (a : Assigned) → IsClockedBlock m body → Contains (assigned_by body) a → Contains (flat_map assigned_at_edges m.items) a
unfolding assigned_at_edges
edges_in m body a b c = flat_in assigned_at_edges m.items (Always b.events body b.token) a b.there (subst (λ t. Contains (if t then assigned_by body else []) a) (sym b.edges) c)

any_edges_in : (m : ModuleDeclaration) (body : Statement) (a : Assigned) → IsClockedBlock m body → Contains (assigned_anywhere body) a → Contains (flat_map anywhere_at_edges m.items) a
unfolding anywhere_at_edges
any_edges_in m body a b c = flat_in anywhere_at_edges m.items (Always b.events body b.token) a b.there (subst (λ t. Contains (if t then assigned_anywhere body else []) a) (sym b.edges) c)

of_leaf : (p : Tree) (name : Text) → IsLeaf p → part_name p ≡ name → IsOf p name
of_leaf (Name token x) name l e = e
of_leaf (Literal token n) name l e = absurd l
of_leaf (Bit token x i) name l e = e
of_leaf (Part token x a b) name l e = e
of_leaf (Indexed token x f n up) name l e = e
of_leaf (Unary op t) name l e = absurd l
of_leaf (Binary op t u) name l e = absurd l
of_leaf (Cond a b c) name l e = absurd l
of_leaf (Concat ts) name l e = absurd l
of_leaf (Repeat n ts) name l e = absurd l
of_leaf (Cast signed t) name l e = absurd l
of_leaf (Paren t) name l e = absurd l

leaf_of : (p : Tree) (name : Text) → IsOf p name → IsLeaf p × (part_name p ≡ name)
leaf_of (Name token x) name e = (tt, e)
leaf_of (Literal token n) name e = absurd e
leaf_of (Bit token x i) name e = (tt, e)
leaf_of (Part token x a b) name e = (tt, e)
leaf_of (Indexed token x f n up) name e = (tt, e)
leaf_of (Unary op t) name e = absurd e
leaf_of (Binary op t u) name e = absurd e
leaf_of (Cond a b c) name e = absurd e
leaf_of (Concat ts) name e = absurd e
leaf_of (Repeat n ts) name e = absurd e
leaf_of (Cast signed t) name e = absurd e
leaf_of (Paren t) name e = absurd e

pub whole_from : (p : Tree) (name : Text) → is_text name (whole_name p) ≡ true → (token : ℕ) × (p ≡ Name token name)
whole_from (Name token x) name e = (token, ap (Name token) ((bytes_eq-Decides x name).0 e))
whole_from (Literal token n) name e = absurd (both_ways false refl e)
whole_from (Bit token x i) name e = absurd (both_ways false refl e)
whole_from (Part token x a b) name e = absurd (both_ways false refl e)
whole_from (Indexed token x f n up) name e = absurd (both_ways false refl e)
whole_from (Unary op t) name e = absurd (both_ways false refl e)
whole_from (Binary op t u) name e = absurd (both_ways false refl e)
whole_from (Cond a b c) name e = absurd (both_ways false refl e)
whole_from (Concat ts) name e = absurd (both_ways false refl e)
whole_from (Repeat n ts) name e = absurd (both_ways false refl e)
whole_from (Cast signed t) name e = absurd (both_ways false refl e)
whole_from (Paren t) name e = absurd (both_ways false refl e)

pub now_from : (m : ModuleDeclaration) (name : Text) → writes_now m name ≡ true → IsWrittenNow m name
now_from m name e =
    let r = any_from (is_now name) (flat_map anywhere_at_edges m.items) e in
    let a = r.0 in
    let q = flat_from anywhere_at_edges m.items a r.1 in
    let h = any_edges_from q.0 a q.2 in
    let s = anywhere_from h.body a h.there in
    let k = and_parts a.now (bytes_eq (part_name a.part) name) r.2 in
    record {
      body = h.body;
      block = block_of assigned_anywhere m q.0 a q.1 h;
      part = a.part;
      assigned = subst (IsAssignedAnywhere h.body a.part) k.0 s.0;
      named = of_leaf a.part name s.1 ((bytes_eq-Decides (part_name a.part) name).0 k.1);
    }

pub now_in : (m : ModuleDeclaration) (name : Text) → IsWrittenNow m name → writes_now m name ≡ true
now_in m name w =
    let l = leaf_of w.part name w.named in
    any_in (is_now name) (flat_map anywhere_at_edges m.items) (record { part = w.part; now = true }) (any_edges_in m w.body (record { part = w.part; now = true }) w.block (anywhere_in w.body w.part true w.assigned l.0))
    ((bytes_eq-Decides (part_name w.part) name).1 l.1)

pub later_from : (m : ModuleDeclaration) (name : Text) → writes_later m name ≡ true → IsRegister m name
later_from m name e =
    let r = any_from (is_later name) (flat_map assigned_at_edges m.items) e in
    let a = r.0 in
    let q = flat_from assigned_at_edges m.items a r.1 in
    let h = edges_from q.0 a q.2 in
    let s = assigned_from h.body a h.there in
    let k = and_parts (not a.now) (is_text name (whole_name a.part)) r.2 in
    let w = whole_from a.part name k.1 in
    record {
      body = h.body;
      block = block_of assigned_by m q.0 a q.1 h;
      token = w.0;
      assigned = subst (λ p. IsAssigned h.body p false) w.1 (subst (IsAssigned h.body a.part) (not-true a.now k.0) s.0);
    }

pub later_in : (m : ModuleDeclaration) (name : Text) → IsRegister m name → writes_later m name ≡ true
later_in m name w =
    any_in (is_later name) (flat_map assigned_at_edges m.items) (record { part = Name w.token name; now = false })
    (edges_in m w.body (record { part = Name w.token name; now = false }) w.block (assigned_in w.body (Name w.token name) false w.assigned tt)) ((bytes_eq-Decides name name).1 refl)

-- Which names may be guards

module _ (m : ModuleDeclaration) (clocks : List Text) (clocked : Bool) where
  clock_from : (name : Text) → list_any (bytes_eq name) clocks ≡ false → Contains clocks name → ⊥
  clock_from name e c = both_ways (list_any (bytes_eq name) clocks) e (any_in (bytes_eq name) clocks name c ((bytes_eq-Decides name name).1 refl))

  clock_in : (name : Text) → (Contains clocks name → ⊥) → list_any (bytes_eq name) clocks ≡ false
  clock_in name n = false_from_ne_true (list_any (bytes_eq name) clocks) (λ e. let r = any_from (bytes_eq name) clocks e in n (subst (Contains clocks) (sym ((bytes_eq-Decides name r.0).0 r.2)) r.1))

  register_from : (name : Text) → (clocked || writes_later m name) ≡ true → clocked ≡ false → IsRegister m name
  register_from name e k = elim (or_cases clocked (writes_later m name) e) [
    | inl t ↦ absurd (both_ways clocked k t)
    | inr t ↦ later_from m name t
  ]

  register_in : (name : Text) → (clocked ≡ false → IsRegister m name) → (clocked || writes_later m name) ≡ true
  register_in name h = elim (cases_Bool clocked) [
    | inl t ↦ or_left clocked (writes_later m name) t
    | inr t ↦ or_right clocked (writes_later m name) (later_in m name (h t))
  ]

  may_from : (x : Identifier) → may_guard m clocks clocked x.text ≡ true → IsScalar m x → ((y : Identifier) → IsScalar m y → y.text ≡ x.text → x.token ≤ y.token) → MayGuard m clocks clocked x
  may_from x e s l =
      let a = and_parts (not (list_any (bytes_eq x.text) clocks)) (not (writes_now m x.text) && (clocked || writes_later m x.text)) e in
      let b = and_parts (not (writes_now m x.text)) (clocked || writes_later m x.text) a.1 in
      record {
        scalar = s;
        first = l;
        no_clock = clock_from x.text (not-true (list_any (bytes_eq x.text) clocks) a.0);
        not_now = λ w. both_ways (writes_now m x.text) (not-true (writes_now m x.text) b.0) (now_in m x.text w);
        register = register_from x.text b.1;
      }

  may_in : (x : Identifier) → MayGuard m clocks clocked x → may_guard m clocks clocked x.text ≡ true
  may_in x g =
      and_from (not (list_any (bytes_eq x.text) clocks)) (not (writes_now m x.text) && (clocked || writes_later m x.text)) (not_from_false (list_any (bytes_eq x.text) clocks) (clock_in x.text g.no_clock))
      (and_from (not (writes_now m x.text)) (clocked || writes_later m x.text) (not_from_false (writes_now m x.text) (false_from_ne_true (writes_now m x.text) (λ e. g.not_now (now_from m x.text e)))) (register_in x.text g.register))

  abbrev listed : ℕ → List Identifier
  listed token = filter (is_before token) (guard_names m clocks clocked)

  module _ (rise : Rising token_of (scalars m)) where
    listed_from : (token : ℕ) (x : Identifier) → Contains (listed token) x → MayGuard m clocks clocked x × (x.token < token)
    unfolding guard_names
    listed_from token x c =
        let a = filter_from (is_before token) (guard_names m clocks clocked) x c in
        let b = filter_from (λ (y : Identifier). may_guard m clocks clocked y.text) (firsts (scalars m)) x a.0 in
        let d = firsts_from (scalars m) x rise b.0 in
        (may_from x b.1 (scalars_from m x d.0) (λ y s e. d.1 y (scalars_in m y s) e), ltb-true x.token token a.1)

    listed_in : (token : ℕ) (x : Identifier) → MayGuard m clocks clocked x → x.token < token → Contains (listed token) x
    unfolding guard_names
    listed_in token x g l =
        filter_in (is_before token) (guard_names m clocks clocked) x
        (filter_in (λ (y : Identifier). may_guard m clocks clocked y.text) (firsts (scalars m)) x (firsts_in (scalars m) x rise (scalars_in m x g.scalar) (λ z c e. g.first z (scalars_from m z c) e)) (may_in x g)) (lt-ltb x.token token l)

    listed_rise : (token : ℕ) → Rising token_of (listed token)
    unfolding guard_names
    listed_rise token = rising_filter token_of (is_before token) (guard_names m clocks clocked) (rising_filter token_of (λ (y : Identifier). may_guard m clocks clocked y.text) (firsts (scalars m)) (firsts_rise (scalars m) rise))

    names_by : (token : ℕ) → AreNamesAt m clocks clocked token (names_at m clocks clocked token)
    unfolding first_names
    names_by token = record { all = listed token; each = listed_from token; every = listed_in token; rising = listed_rise token; are = refl }

  pub one_list : (token : ℕ) (xs ys : List Text) → AreNamesAt m clocks clocked token xs → AreNamesAt m clocks clocked token ys → xs ≡ ys
  one_list token xs ys a b =
      let e = same_rising token_of a.all b.all a.rising b.rising (λ x c. let r = a.each x c in b.every x r.0 r.1) (λ x c. let r = b.each x c in a.every x r.0 r.1) in
      a.are ∙ (ap (λ (l : List Identifier). take 64 (map (λ (x : Identifier). x.text) l)) e ∙ sym b.are)

pub names_are : (m : ModuleDeclaration) (at : ℕ) → WellFormedModule m → NumberedModule m at → (clocks : List Text) (clocked : Bool) (token : ℕ) → AreNamesAt m clocks clocked token (names_at m clocks clocked token)
names_are m at w n clocks clocked token = names_by m clocks clocked (scalars_rise m at w n) token

pub names_are_these : NamesAreThese
names_are_these m at w n clocks clocked token names =
    let r = names_are m at w n clocks clocked token in (r, λ h. one_list m clocks clocked token names (names_at m clocks clocked token) h r)
