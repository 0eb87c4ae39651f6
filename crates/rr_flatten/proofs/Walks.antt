-- The walk, one step at a time.
use Rattle.std.proofs.Common.{◌≡◌, ap, ℕ, zero, suc, ◌-◌, ◌≤◌, Bool, true, not, nat_lt, List, [], ◌∷◌, ◌++◌, length, map, Option, Some, None, Ok, Err, refl, arith, inl, inr}
use Rattle.std.proofs.lemmas.Bool.Decides.{nat_tests}
use Rattle.std.proofs.lemmas.List.{map-append}
use Rattle.std.specs.List.{AllByRecursion}
use Rattle.rr_syntax.specs.Tree.{Statement, Identifier, EventControl, DeclaredName, NetAssignment, ParameterDeclaration, PortDeclaration, Range, Connections, ModuleInstance, Ports, Nets, Variables, Integers, Parameters, Assigns, Always, Initial, Instances, ModuleDeclaration}
use Rattle.rr_syntax.specs.Items.{WellFormedItem, WellFormedModule, FitLiteralsItem, FitLiteralsModule}
use Rattle.rr_expr.specs.Scopes.{Names, lookup}
use Rattle.rr_flat.specs.Faults.{sooner, Refuses, each}
use Rattle.rr_flat.specs.Signals as plain
use Rattle.rr_flat.specs.Signals.{Text}
use Rattle.rr_flat.specs.declared.signal.Signal.{Signal}
use Rattle.rr_declarations.specs.View.{Opening, plain_head}
use Rattle.rr_flat.specs.View.{plain_signal}
use Rattle.rr_flat.specs.declared.fault.Limit.TheVariants.{Instances as InstanceCount, Depth}
use Rattle.rr_flat.specs.declared.fault.FlatFault.{FlatFault}
use Rattle.rr_flat.specs.declared.fault.FlatFault.TheVariants.{UnknownModule, TooMany}
use Rattle.rr_flatten.specs.Tables.{place_of}
use Rattle.rr_flat.specs.View.{Design, plain_flat}
use Rattle.rr_loop_rules.specs.Rules.{LoopNames}
use Rattle.rr_unfold.specs.Unfold.{Count, no_turns}
use Rattle.rr_flatten.specs.Walk.{Walked, Enter, scope_at, loops_at, module_at, assign, net, always, initial, checked, with_instance, joined, instance_of, item, begin, enter, enter_by, opened, nothing}

-- the count of instances

no_room : (n : ℕ) → 256 ≤ n → not (nat_lt n 256) ≡ true
no_room n le = grind (arith, nat_tests)

pub begin_full : (source : List ModuleDeclaration) (k : ℕ) (given : Names) (w : Walked) → 256 ≤ length w.flat.scopes → begin source k given w ≡ Err (TooMany InstanceCount 257)
unfolding begin sooner
begin_full source k given w le = rw (no_room (length w.flat.scopes) le) refl

-- the starting values of declarations
starts_plain : (ss : List Signal) → map (λ (s : plain.Signal). s.start) (map plain_signal ss) ≡ map (λ s. s.start) ss
starts_plain [] = refl
starts_plain (s ∷ ss) = ap (λ (ns : List ℕ). s.start ∷ ns) (starts_plain ss)

pub opened_is : (d : Design) (h : Opening) (old owner : ℕ) (limit : Option ℕ) (count : Count) (loops : List LoopNames) (names : LoopNames)
    → record { flat = plain_flat (record d { signals = d.signals ++ h.signals; starts = d.starts ++ map (λ s. s.start) h.signals; scopes = d.scopes ++ h.scope ∷ []; owners = d.owners ++ owner ∷ [] }); bits = h.bits; limit = limit; count = count; loops = loops ++ names ∷ [] }
    ≡ opened owner (plain_head h) names (record { flat = plain_flat d; bits = old; limit = limit; count = count; loops = loops })
opened_is d h old owner limit count loops names = rw (map-append plain_signal d.signals h.signals, starts_plain h.signals) refl

pub start_is : (d : Design) (limit : Option ℕ) (top at : ℕ) (count : Count) (loops : List LoopNames) → plain_flat d ≡ (nothing limit top).flat → top ≡ at → count ≡ no_turns → loops ≡ []
    → record { flat = plain_flat d; bits = 0; limit = limit; count = count; loops = loops } ≡ nothing limit at
start_is d limit top at count loops e t n l = rw (e, t, n, l) refl

-- levels

pub enter_none : (source : List ModuleDeclaration) (table : Names) (levels : ℕ) (above : List ℕ) (k : ℕ) (given : Names) (w : Walked) → levels ≡ 0 → enter source table levels above k given w ≡ Err (TooMany Depth 17)
unfolding enter
enter_none source table zero above k given w e = refl
enter_none source table (suc n) above k given w e = absurd (omega arith)

enter_more : (source : List ModuleDeclaration) (table : Names) (levels : ℕ) (above : List ℕ) (k : ℕ) (given : Names) (w : Walked) → 1 ≤ levels
    → enter source table levels above k given w ≡ enter_by source table (enter source table (levels - 1)) above k given w
unfolding enter
enter_more source table zero above k given w le = absurd (omega arith)
enter_more source table (suc n) above k given w le = let e : suc n - 1 ≡ n = omega arith in rw e refl

pub enter_refuses : (source : List ModuleDeclaration) (table : Names) (levels : ℕ) (above : List ℕ) (k : ℕ) (given : Names) (w : Walked) (fault : FlatFault) → 1 ≤ levels
    → Refuses (begin source k given w) fault → Refuses (enter source table levels above k given w) fault
unfolding enter_by
enter_refuses source table levels above k given w fault le (inl memory) = inl memory
enter_refuses source table levels above k given w fault le (inr e) = inr (rw (enter_more source table levels above k given w le, e) refl)

pub enter_walks : (source : List ModuleDeclaration) (table : Names) (levels : ℕ) (above inside : List ℕ) (k : ℕ) (given : Names) (w next : Walked) (i : ℕ) (own : ModuleDeclaration) → 1 ≤ levels
    → begin source k given w ≡ Ok next → inside ≡ above ++ k ∷ [] → i ≡ length w.flat.scopes → own ≡ module_at source k
    → enter source table levels above k given w ≡ each (item source table inside i (enter source table (levels - 1) inside)) own.items next
unfolding enter_by
enter_walks source table levels above inside k given w next i own le e here there is = rw (enter_more source table levels above k given w le, e, here, there, is) refl

-- items

pub item_ports : (source : List ModuleDeclaration) (table : Names) (above : List ℕ) (i : ℕ) (sub : Enter) (p : PortDeclaration) (w : Walked) → item source table above i sub (Ports p) w ≡ Ok w
unfolding item
item_ports source table above i sub p w = refl

pub item_nets : (source : List ModuleDeclaration) (table : Names) (above : List ℕ) (i : ℕ) (sub : Enter) (signed : Bool) (range : Option Range) (list : List DeclaredName) (w : Walked) → item source table above i sub (Nets signed range list) w ≡ each (net i) list w
unfolding item
item_nets source table above i sub signed range list w = refl

pub item_variables : (source : List ModuleDeclaration) (table : Names) (above : List ℕ) (i : ℕ) (sub : Enter) (signed : Bool) (range : Option Range) (list : List DeclaredName) (w : Walked) → item source table above i sub (Variables signed range list) w ≡ Ok w
unfolding item
item_variables source table above i sub signed range list w = refl

pub item_integers : (source : List ModuleDeclaration) (table : Names) (above : List ℕ) (i : ℕ) (sub : Enter) (list : List Identifier) (w : Walked) → item source table above i sub (Integers list) w ≡ Ok w
unfolding item
item_integers source table above i sub list w = refl

pub item_parameters : (source : List ModuleDeclaration) (table : Names) (above : List ℕ) (i : ℕ) (sub : Enter) (p : ParameterDeclaration) (w : Walked) → item source table above i sub (Parameters p) w ≡ Ok w
unfolding item
item_parameters source table above i sub p w = refl

pub item_assigns : (source : List ModuleDeclaration) (table : Names) (above : List ℕ) (i : ℕ) (sub : Enter) (pairs : List NetAssignment) (w : Walked) → item source table above i sub (Assigns pairs) w ≡ each (assign i) pairs w
unfolding item
item_assigns source table above i sub pairs w = refl

pub item_always : (source : List ModuleDeclaration) (table : Names) (above : List ℕ) (i : ℕ) (sub : Enter) (events : EventControl) (s : Statement) (at : ℕ) (w : Walked) → item source table above i sub (Always events s at) w ≡ always i events s at w
unfolding item
item_always source table above i sub events s at w = refl

pub item_initial : (source : List ModuleDeclaration) (table : Names) (above : List ℕ) (i : ℕ) (sub : Enter) (s : Statement) (at : ℕ) (w : Walked) → item source table above i sub (Initial s at) w ≡ initial i s at w
unfolding item
item_initial source table above i sub s at w = refl

pub item_instances : (source : List ModuleDeclaration) (table : Names) (above : List ℕ) (i : ℕ) (sub : Enter) (m : Text) (at : ℕ) (over : Option Connections) (list : List ModuleInstance) (w : Walked)
    → item source table above i sub (Instances m at over list) w ≡ each (instance_of source above i sub at over (place_of (lookup m table))) list w
unfolding item
item_instances source table above i sub m at over list w = refl

pub ruleset items = (item_ports, item_nets, item_variables, item_integers, item_parameters, item_assigns, item_always, item_initial, item_instances)

-- instances

pub instance_unknown : (source : List ModuleDeclaration) (above : List ℕ) (i : ℕ) (sub : Enter) (at : ℕ) (over : Option Connections) (x : ModuleInstance) (w : Walked) (o : Option ℕ) → o ≡ None
    → instance_of source above i sub at over o x w ≡ Err (UnknownModule at)
unfolding instance_of
instance_unknown source above i sub at over x w o e = rw e refl

pub inside_refuses : (source : List ModuleDeclaration) (above : List ℕ) (i : ℕ) (sub : Enter) (at : ℕ) (over : Option Connections) (x : ModuleInstance) (w : Walked) (k : ℕ) (own : ModuleDeclaration) (fault : FlatFault) → own ≡ module_at source k
    → Refuses (checked (loops_at w i) above (scope_at w i) own k at over x) fault → Refuses (instance_of source above i sub at over (Some k) x w) fault
unfolding instance_of
inside_refuses source above i sub at over x w k own fault is (inl memory) = inl memory
inside_refuses source above i sub at over x w k own fault is (inr e) = inr (rw (← is, e) refl)

pub inside_sub_refuses : (source : List ModuleDeclaration) (above : List ℕ) (i : ℕ) (sub : Enter) (at : ℕ) (over : Option Connections) (x : ModuleInstance) (w named : Walked) (k : ℕ) (own : ModuleDeclaration) (given : Names) (fault : FlatFault) → own ≡ module_at source k
    → checked (loops_at w i) above (scope_at w i) own k at over x ≡ Ok given → named ≡ with_instance i x.text w → Refuses (sub k given named) fault → Refuses (instance_of source above i sub at over (Some k) x w) fault
unfolding instance_of
inside_sub_refuses source above i sub at over x w named k own given fault is c n (inl memory) = inl memory
inside_sub_refuses source above i sub at over x w named k own given fault is c n (inr e) = inr (rw (← is, c, ← n, e) refl)

pub inside_walks : (source : List ModuleDeclaration) (above : List ℕ) (i : ℕ) (sub : Enter) (at : ℕ) (over : Option Connections) (x : ModuleInstance) (w named next last : Walked) (k inner : ℕ) (own : ModuleDeclaration) (given : Names) → own ≡ module_at source k
    → checked (loops_at w i) above (scope_at w i) own k at over x ≡ Ok given → named ≡ with_instance i x.text w → sub k given named ≡ Ok next → inner ≡ length w.flat.scopes → last ≡ joined i inner own x.connections next
    → instance_of source above i sub at over (Some k) x w ≡ Ok last
unfolding instance_of
inside_walks source above i sub at over x w named next last k inner own given is c n e there j = rw (← is, c, ← n, e, ← there, j) refl

-- the items of a well-formed module

pub module_formed : (m : ModuleDeclaration) → WellFormedModule m → AllByRecursion WellFormedItem m.items
unfolding WellFormedModule
module_formed m h = h.3

pub module_fit : (m : ModuleDeclaration) → FitLiteralsModule m → AllByRecursion FitLiteralsItem m.items
unfolding FitLiteralsModule
module_fit m h = h.2
