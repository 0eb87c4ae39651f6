-- The drivers of the flat design of a source.
use Rattle.std.proofs.Common.{◌≡◌, ◌∙◌, sym, ap, ℕ, zero, suc, ◌+◌, ◌<◌, List, [], ◌++◌, length, get_or, Option, Some, None, Ok, refl, subst, arith}
use Rattle.std.specs.List.{All, AllByRecursion, Contains, filter, flat_map}
use Rattle.std.proofs.lemmas.List.Elements.{All-from_recursion}
use Rattle.rr_syntax.specs.Tree.{Tree, ModuleDeclaration, SourceText}
use Rattle.rr_syntax.specs.Tree.{Names as Named}
use Rattle.rr_expr.specs.Scopes.{Names, lookup}
use Rattle.rr_flat.specs.Plain.{Driver, Flat}
use Rattle.rr_flat.specs.Signals.{Text, signal_at}
use Rattle.rr_flat.specs.Writers.{scope_at}
use Rattle.rr_flatten.specs.Walk.{Walked, module_at, nothing, finished, top_place, enter_top, flat_of}
use Rattle.rr_flatten.proofs.HeadOf.{not_ok}
use Rattle.rr_flat_laws.specs.Declared.{ports_of}
use Rattle.rr_flat_laws.specs.Drivers.{signal_instance, signal_number, Child, children_by, is_child_of, assigned_by, is_assignment, connected, driver_of_connection, is_connection}
use Rattle.rr_flat_laws.specs.Hierarchy.{IsTop, AreAssignments, AreConnections, IsChild, IsDue}
use Rattle.rr_flat_laws.specs.Names.{module_of, IsPort}
use Rattle.rr_flat_laws.proofs.Driving.{number_is, ChildIn, Made, Entering, made_enter}
use Rattle.rr_flat_laws.proofs.Growing.{end_grows}
use Rattle.rr_flat_laws.proofs.Naming.{Fine, fine_nothing, named_found, after_top, walking, way_is}
use Rattle.rr_flat_laws.proofs.Porting.{IsOwn, port_drivers}
use Rattle.rr_flat_laws.proofs.Shares.{numbers_at}
use Rattle.rr_flat_laws.proofs.Tabling.{Table, table_of, top_there, top_is}
use Rattle.rr_flat_laws.proofs.Texts.{in_map}

-- all that is known of the drivers
pub record Driven (source : SourceText) (top : Option Text) (flat : Flat) : Type 0 where
  pub first : IsTop source top (module_of source flat 0)
  pub assigned : (i : ℕ) → i < length flat.owners → AreAssignments source flat i
  pub connections : AreConnections source flat
  pub due : AllByRecursion (IsDue flat) flat.drivers

-- from the walk of the top
module _ (source : SourceText) (F : Flat) (whole : Fine source.modules F.signals F.scopes F.owners) (table : Names) (tabled : Table source.modules table) (k : ℕ) (w end : Walked) (begins : w.flat.drivers ≡ [])
    (ends : F.drivers ≡ end.flat.drivers) (scopes : F.scopes ≡ end.flat.scopes) (owners : F.owners ≡ end.flat.owners) (there : k < length source.modules) (top : Option Text) (is_top : IsTop source top (module_at source.modules k)) (h : Entering source F whole table tabled k 0 w end) where
  abbrev made : Made source F whole table tabled 0 h.mid end (flat_map (assigned_by F 0) (module_at source.modules k).items) (flat_map (children_by 0) (module_at source.modules k).items)
  made = h.made

  drivers_are : F.drivers ≡ h.made.drivers
  drivers_are = ends ∙ (h.made.is ∙ ap (λ (ds : List Driver). ds ++ h.made.drivers) (h.same ∙ begins))

  total : length F.owners ≡ length h.made.children + 1
  total = let e = whole.even in let s = ap length scopes in let c = h.made.count in let o = h.one in omega (arith, e, s, c, o)

  top_module : module_of source F 0 ≡ module_at source.modules k
  top_module = ap (λ (z : ℕ). module_at source.modules z) (ap (λ (os : List ℕ). get_or os 0 0) owners ∙ h.owner)

  high : (i : ℕ) → i < length F.owners → i < length end.flat.scopes
  high i l = let e = whole.even in let s = ap length scopes in omega (arith, l, e, s)

  assigned_in : (i : ℕ) → i < length F.owners → filter (is_assignment F i) h.made.drivers ≡ flat_map (assigned_by F i) (module_of source F i).items
  assigned_in zero l = h.made.own.here ∙ ap (λ (m : ModuleDeclaration). flat_map (assigned_by F 0) m.items) (sym top_module)
  assigned_in (suc i) l = let o = h.one in h.made.own.new (suc i) (omega (arith, o)) (high (suc i) l)

  children_in : (i : ℕ) → i < length F.owners → filter (is_child_of i) h.made.children ≡ flat_map (children_by i) (module_of source F i).items
  children_in zero l = h.made.kin.here ∙ ap (λ (m : ModuleDeclaration). flat_map (children_by 0) m.items) (sym top_module)
  children_in (suc i) l = let o = h.one in h.made.kin.new (suc i) (omega (arith, o)) (high (suc i) l)

  own_port : (i n : ℕ) → n < length F.owners → (p : Text) → Contains (ports_of (module_of source F n)) p → (d : i ≡ n → ⊥) → IsOwn F i n d p
  own_port i n l p c d =
      let e = whole.even in
      let q = (whole.filled n (omega (arith, l, e))).port p c in
      let f = named_found source.modules F.signals F.scopes F.owners n p q.0 whole q.1.0 ((whole.one q.0 q.1.0.0).whole q.1.1) in
      let s : signal_number F n p ≡ q.0 = number_is (lookup p (scope_at F n)) q.0 (signal_at F.signals q.0).range (signal_at F.signals q.0).signed f in
      record { instance = ap (λ (z : ℕ). signal_instance F z) s ∙ q.1.0.1.0; named = ap (λ (z : ℕ). (signal_at F.signals z).name) s ∙ q.1.0.1.1 }

  way_in : (i n : ℕ) → n < length F.owners → (p : Text) → Contains (ports_of (module_of source F n)) p → IsPort (signal_at F.signals (signal_number F n p))
  way_in i n l p c =
      let e = whole.even in
      let q = (whole.filled n (omega (arith, l, e))).port p c in
      let f = named_found source.modules F.signals F.scopes F.owners n p q.0 whole q.1.0 ((whole.one q.0 q.1.0.0).whole q.1.1) in
      let s : signal_number F n p ≡ q.0 = number_is (lookup p (scope_at F n)) q.0 (signal_at F.signals q.0).range (signal_at F.signals q.0).signed f in
      subst (λ (z : ℕ). IsPort (signal_at F.signals z)) (sym s) (way_is (signal_at F.signals q.0).port q.1.1)

  child_is : (n : ℕ) (c : Child) → n < length F.owners → ChildIn source F whole table tabled h.made.drivers n c → IsChild (module_of source F n) F n c
  child_is n c l p =
      let lt = p.later in
      let d : c.parent ≡ n → ⊥ = λ e. omega (arith, e, lt) in
      let all : filter (is_connection F n) F.drivers ≡ flat_map (driver_of_connection F c.parent n) (connected (module_of source F n) c.text.connections) = ap (λ (ds : List Driver). filter (is_connection F n) ds) drivers_are ∙ p.ports in
      let cs : List (Text × Tree) = connected (module_of source F n) c.text.connections in
      record {
        later = lt;
        named = p.named;
        fits = p.connects.fits;
        ways = λ t q. way_in c.parent n l t q;
        only = λ x q. p.connects.known x.0 (in_map (λ (y : Text × Tree). y.0) cs x q);
        all = all;
        port = λ t q. port_drivers F c.parent n d t cs (own_port c.parent n l t q d) (λ z m. own_port c.parent n l z (p.connects.known z m) d) p.connects.apart all;
      }

  owned_in : (i : ℕ) → i < length F.owners → get_or F.owners i 0 < length source.modules
  owned_in zero l = subst (λ (z : ℕ). z < length source.modules) (sym (ap (λ (os : List ℕ). get_or os 0 0) owners ∙ h.owner)) there
  owned_in (suc j) l =
      let o = h.one in
      let t = total in
      let n : length h.mid.flat.scopes + j ≡ suc j = omega (arith, o) in
      subst (λ (z : ℕ). get_or F.owners z 0 < length source.modules) n
      (numbers_at (ChildIn source F whole table tabled h.made.drivers) (length h.mid.flat.scopes) h.made.children (record { parent = 0; module_name = []; text = record { token = 0; text = []; connections = Named [] } }) h.made.child j (omega (arith, l, t))).owned

  child_at : (j : ℕ) (d : Child) → j < length h.made.children → IsChild (module_of source F (j + 1)) F (j + 1) (get_or h.made.children j d)
  child_at j d l =
      let o = h.one in
      let n : length h.mid.flat.scopes + j ≡ j + 1 = omega (arith, o) in
      let t = total in
      child_is (j + 1) (get_or h.made.children j d) (omega (arith, l, t))
      (subst (λ (z : ℕ). ChildIn source F whole table tabled h.made.drivers z (get_or h.made.children j d)) n (numbers_at (ChildIn source F whole table tabled h.made.drivers) (length h.mid.flat.scopes) h.made.children d h.made.child j l))

  driven : Driven source top F
  driven = record {
    first = subst (IsTop source top) (sym top_module) is_top;
    assigned = λ i l. ap (λ (ds : List Driver). filter (is_assignment F i) ds) drivers_are ∙ assigned_in i l;
    connections = record {
      owned = owned_in;
      children = h.made.children;
      count = total;
      each = children_in;
      child = child_at;
      top = ap (λ (ds : List Driver). filter (is_connection F 0) ds) drivers_are ∙ h.made.before 0 (let o = h.one in omega (arith, o));
    };
    due = subst (λ (ds : List Driver). AllByRecursion (IsDue F) ds) (sym drivers_are) h.made.due;
  }

driven_top : (source : SourceText) (top : Option Text) (table : Names) → Table source.modules table → (o : Option ℕ) → ((k : ℕ) → o ≡ Some k → (k < length source.modules) × IsTop source top (module_at source.modules k)) → (end : Walked) →
    enter_top None source.modules table o ≡ Ok end → Driven source top (finished source.modules end.flat)
driven_top source top table t None l end e = absurd (not_ok _ end e)
driven_top source top table t (Some k) l end e =
    let F = finished source.modules end.flat in
    let whole : Fine source.modules F.signals F.scopes F.owners = after_top source.modules table (Some k) end e in
    let w = nothing None (module_at source.modules k).token in
    driven source F whole table t k w end refl refl refl refl (l k refl).0 top (l k refl).1 (made_enter source F whole table t 16 [] k [] w end (fine_nothing source.modules (module_at source.modules k).token) (end_grows source.modules end) e)

driven_design : (source : SourceText) (top : Option Text) (flat : Flat) → flat_of source top ≡ Ok flat → Driven source top flat
driven_design source top flat e =
    let w = walking source top flat e in
    let t = table_of source.modules w.table w.tabled in
    subst (Driven source top) w.is
    (driven_top source top w.table t (top_place source.modules w.table top) (λ k q. (top_there source.modules w.table top k t q, top_is source w.table top k t q)) w.end w.walked)

pub assignments_of_design : (source : SourceText) (top : Option Text) (flat : Flat) → flat_of source top ≡ Ok flat → (i : ℕ) → i < length flat.owners → AreAssignments source flat i
assignments_of_design source top flat e = (driven_design source top flat e).assigned

pub connections_of_design : (source : SourceText) (top : Option Text) (flat : Flat) → flat_of source top ≡ Ok flat → AreConnections source flat
connections_of_design source top flat e = (driven_design source top flat e).connections

pub top_of_design : (source : SourceText) (top : Option Text) (flat : Flat) → flat_of source top ≡ Ok flat → IsTop source top (module_of source flat 0)
top_of_design source top flat e = (driven_design source top flat e).first

pub no_other_drivers_of_design : (source : SourceText) (top : Option Text) (flat : Flat) → flat_of source top ≡ Ok flat → All (IsDue flat) flat.drivers
no_other_drivers_of_design source top flat e = All-from_recursion (IsDue flat) flat.drivers (driven_design source top flat e).due
