-- The walk with a limit on the tokens of loops, and without one.
use Rattle.std.proofs.Common.{◌≡◌, ◌∙◌, sym, ap, subst, ℕ, zero, suc, ◌⊎◌, inl, inr, List, [], ◌∷◌, ◌++◌, length, fold, not, nat_lt, Option, Some, None, Result, Ok, Err, refl}
use Rattle.std.specs.Prelude.{option_to_list}
use Rattle.rr_syntax.specs.Tree.{Tree, Trees, End, More, Statement, DeclaredName, NetAssignment, EventControl, Star, Edges, Levels, NamedConnection, Connections, Positions, ModuleInstance, ModuleItem, Ports, Nets, Variables, Integers, Parameters, Assigns, Always, Initial, Instances, ModuleDeclaration, SourceText}
use Rattle.rr_syntax.specs.Tree.{Names as Named}
use Rattle.rr_expr.specs.Scopes.{Names, lookup}
use Rattle.rr_expr.specs.Faults.{first}
use Rattle.rr_flat.specs.declared.signal.Port.{Port}
use Rattle.rr_flat.specs.declared.signal.Port.TheVariants.{Inner, Input, Output}
use Rattle.rr_flat.specs.declared.fault.Limit as declared_limit
use Rattle.rr_flat.specs.declared.fault.Limit.TheVariants as kind
use Rattle.rr_flat.specs.declared.fault.FlatFault.{FlatFault}
use Rattle.rr_flat.specs.declared.fault.FlatFault.TheVariants as fault
use Rattle.rr_flat.specs.declared.fault.FlatFault.TheVariants.{TooMany}
use Rattle.rr_flat.specs.Faults.{fault_if, fault_or, first_of, first_fault_or, earliest_of, and_then, each}
use Rattle.rr_flat.specs.Shapes.{statement_faults}
use Rattle.rr_flat.specs.Signals.{Text, signal_at}
use Rattle.rr_flat.specs.Plain.{Written, Flat}
use Rattle.rr_starts.specs.Starts.{initial_faults}
use Rattle.rr_declarations.specs.Heads.{Head, head}
use Rattle.rr_loop_rules.specs.Rules.{LoopNames, loop_names, loop_faults}
use Rattle.rr_unfold.specs.Unfold.{Count, counted, unfold_statement}
use Rattle.rr_unfold.specs.Laws.{uncounted}
use Rattle.rr_unfold.proofs.Limits.{counted_unlimited, fault_unlimited}
use Rattle.rr_flatten.specs.Laws.{LimitsAgree}
use Rattle.rr_flatten.specs.Tables.{place_of, add_module, port_names}
use Rattle.rr_flatten.specs.Walk.{Walked, scope_at, loops_at, event_faults, expression_faults, with_driver, assign, net_driver, net_value, net_with, net, with_block, always, with_initial, initial, join_port, join_at, join, join_value, join_named, join_positions, joined, Enter, module_at, checked, with_instance, instance_of, item, opened, begin, enter_by, enter, nothing, finished, top_place, enter_top, flat_by, flat_of}
use Rattle.rr_flatten.proofs.HeadOf.{not_ok}

-- Answers

-- an answer stays, but for the limit in it, and so does a fault that does not tell of the tokens
abbrev pub Agrees : {A : Type 0} → (A → A) → Result A FlatFault → Result A FlatFault → Type 0
Agrees free (Ok a) q = q ≡ Ok (free a)
Agrees free (Err f) q = ((count : ℕ) → f ≡ TooMany kind.Unfolded count → ⊥) → q ≡ Err f

itself : {A : Type 0} (r : Result A FlatFault) → Agrees (λ (a : A). a) r r
itself (Ok a) = refl
itself (Err f) = λ n. refl

or_agrees : {A : Type 0} (free : A → A) (o : Option FlatFault) (a c : A) → c ≡ free a → Agrees free (fault_or o a) (fault_or o c)
or_agrees free None a c e = ap (λ x. Ok x) e
or_agrees free (Some f) a c e = λ n. refl

settles : {A : Type 0} (free : A → A) (fs : List FlatFault) (a c : A) → c ≡ free a → Agrees free (first_fault_or fs a) (first_fault_or fs c)
settles free fs a c e = or_agrees free (first_of fs) a c e

then_agrees : {A B : Type 0} (a : A → A) (b : B → B) (r q : Result A FlatFault) (f g : A → Result B FlatFault) → Agrees a r q → ((x : A) → Agrees b (f x) (g (a x))) → Agrees b (and_then r f) (and_then q g)
then_agrees a b (Ok x) q f g h k = rw h (k x)
then_agrees a b (Err e) q f g h k = λ n. rw (h n) refl

each_agrees : {X S : Type 0} (free : S → S) (step : X → S → Result S FlatFault) → ((x : X) (s : S) → Agrees free (step x s) (step x (free s))) → (xs : List X) (s : S) → Agrees free (each step xs s) (each step xs (free s))
unfolding each
each_agrees free step one [] s = refl
each_agrees free step one (x ∷ xs) s = then_agrees free free (step x s) (step x (free s)) (each step xs) (each step xs) (one x s) (each_agrees free step one xs)

-- Items

counts_agree : (most : Option ℕ) (l : LoopNames) (s : Names) (t : Statement) (c : Count) → Agrees uncounted (counted most l s [] t c) (counted None l s [] t (uncounted c))
counts_agree most l s t c = by (counted most l s [] t c) refl
  where
    by : (r : Result Count FlatFault) → counted most l s [] t c ≡ r → Agrees uncounted r (counted None l s [] t (uncounted c))
    by (Ok d) e = counted_unlimited most l s t c d e
    by (Err f) e = λ k. fault_unlimited most l s t c f k e

abbrev pub unlimited : Walked → Walked
unlimited w = record w { limit = None; count = uncounted w.count }

assign_agrees : (i : ℕ) (p : NetAssignment) (w : Walked) → Agrees unlimited (assign i p w) (assign i p (unlimited w))
unfolding assign
assign_agrees i p w =
    settles unlimited (expression_faults (loops_at w i) (scope_at w i) p.target ++ expression_faults (loops_at w i) (scope_at w i) p.value)
    (with_driver (Written p.target i) (Written p.value i) (first p.target) w) (with_driver (Written p.target i) (Written p.value i) (first p.target) (unlimited w)) refl

net_driver_agrees : (i at : ℕ) (t : Tree) (o : Option ℕ) (w : Walked) → net_driver i at t o (unlimited w) ≡ unlimited (net_driver i at t o w)
net_driver_agrees i at t None w = refl
net_driver_agrees i at t (Some id) w = refl

net_with_agrees : (i at : ℕ) (name : Text) (o : Option Tree) (w : Walked) → Agrees unlimited (net_with i at name o w) (net_with i at name o (unlimited w))
unfolding net_value
net_with_agrees i at name None w = refl
net_with_agrees i at name (Some t) w =
    settles unlimited (expression_faults (loops_at w i) (scope_at w i) t) (net_driver i at t (place_of (lookup name (scope_at w i))) w) (net_driver i at t (place_of (lookup name (scope_at w i))) (unlimited w))
    (net_driver_agrees i at t (place_of (lookup name (scope_at w i))) w)

net_agrees : (i : ℕ) (n : DeclaredName) (w : Walked) → Agrees unlimited (net i n w) (net i n (unlimited w))
unfolding net
net_agrees i n w = net_with_agrees i n.token n.text n.value w

block_agrees : (i : ℕ) (events : EventControl) (s : Statement) (at : ℕ) (w : Walked) → with_block i events s at (unlimited w) ≡ unlimited (with_block i events s at w)
block_agrees i (Star brackets) s at w = refl
block_agrees i (Edges list commas) s at w = refl
block_agrees i (Levels list commas) s at w = refl

always_agrees : (i : ℕ) (events : EventControl) (s : Statement) (at : ℕ) (w : Walked) → Agrees unlimited (always i events s at w) (always i events s at (unlimited w))
unfolding always
always_agrees i events s at w =
    let u : Statement = unfold_statement (scope_at w i) [] s in
    let fs : List FlatFault = loop_faults (loops_at w i) [] s ++ (event_faults (loops_at w i) (scope_at w i) events ++ option_to_list (earliest_of (statement_faults (scope_at w i) u))) in
    then_agrees uncounted unlimited (counted w.limit (loops_at w i) (scope_at w i) [] s w.count) (counted None (loops_at w i) (scope_at w i) [] s (uncounted w.count))
    (λ c. first_fault_or fs (with_block i events u at (record w { count = c }))) (λ c. first_fault_or fs (with_block i events u at (record w { limit = None; count = c })))
    (counts_agree w.limit (loops_at w i) (scope_at w i) s w.count)
    (λ c. settles unlimited fs (with_block i events u at (record w { count = c })) (with_block i events u at (unlimited (record w { count = c }))) (block_agrees i events u at (record w { count = c })))

initial_agrees : (i : ℕ) (s : Statement) (at : ℕ) (w : Walked) → Agrees unlimited (initial i s at w) (initial i s at (unlimited w))
unfolding initial
initial_agrees i s at w =
    let u : Statement = unfold_statement (scope_at w i) [] s in
    let fs : List FlatFault = loop_faults (loops_at w i) [] s ++ option_to_list (earliest_of (initial_faults (scope_at w i) u)) in
    then_agrees uncounted unlimited (counted w.limit (loops_at w i) (scope_at w i) [] s w.count) (counted None (loops_at w i) (scope_at w i) [] s (uncounted w.count))
    (λ c. first_fault_or fs (with_initial i u at (record w { count = c }))) (λ c. first_fault_or fs (with_initial i u at (record w { limit = None; count = c })))
    (counts_agree w.limit (loops_at w i) (scope_at w i) s w.count)
    (λ c. settles unlimited fs (with_initial i u at (record w { count = c })) (with_initial i u at (unlimited (record w { count = c }))) refl)

-- Connections

port_agrees : (p : Port) (i id : ℕ) (t : Tree) (w : Walked) → join_port p i id t (unlimited w) ≡ unlimited (join_port p i id t w)
port_agrees Inner i id t w = refl
port_agrees Input i id t w = refl
port_agrees Output i id t w = refl

at_agrees : (o : Option ℕ) (i : ℕ) (t : Tree) (w : Walked) → join_at o i t (unlimited w) ≡ unlimited (join_at o i t w)
at_agrees None i t w = refl
at_agrees (Some id) i t w = port_agrees (signal_at w.flat.signals id).port i id t w

join_agrees : (i k : ℕ) (name : Text) (t : Tree) (w : Walked) → join i k name t (unlimited w) ≡ unlimited (join i k name t w)
unfolding join
join_agrees i k name t w = at_agrees (place_of (lookup name (scope_at w k))) i t w

value_agrees : (i k : ℕ) (name : Text) (o : Option Tree) (w : Walked) → join_value i k name o (unlimited w) ≡ unlimited (join_value i k name o w)
value_agrees i k name None w = refl
value_agrees i k name (Some t) w = join_agrees i k name t w

named_agrees : (i k : ℕ) (list : List NamedConnection) (w : Walked) → fold (join_named i k) (unlimited w) list ≡ unlimited (fold (join_named i k) w list)
named_agrees i k [] w = refl
named_agrees i k (x ∷ xs) w = ap (λ (v : Walked). fold (join_named i k) v xs) (value_agrees i k x.text x.value w) ∙ named_agrees i k xs (join_named i k w x)

positions_agree : (i k : ℕ) (left : List Text) (ts : Trees) (w : Walked) → join_positions i k left ts (unlimited w) ≡ unlimited (join_positions i k left ts w)
unfolding join_positions
positions_agree i k left End w = refl
positions_agree i k [] (More t ts) w = refl
positions_agree i k (p ∷ ps) (More t ts) w = ap (λ (v : Walked). join_positions i k ps ts v) (join_agrees i k p t w) ∙ positions_agree i k ps ts (join i k p t w)

joined_agrees : (i k : ℕ) (m : ModuleDeclaration) (c : Connections) (w : Walked) → joined i k m c (unlimited w) ≡ unlimited (joined i k m c w)
unfolding joined
joined_agrees i k m (Positions ts) w = positions_agree i k (port_names m) ts w
joined_agrees i k m (Named list) w = named_agrees i k list w

-- Instances

abbrev AgreesEnter : Enter → Type 0
AgreesEnter sub = (k : ℕ) (given : Names) (w : Walked) → Agrees unlimited (sub k given w) (sub k given (unlimited w))

module _ (source : List ModuleDeclaration) where
  instance_agrees : (above : List ℕ) (i : ℕ) (sub : Enter) → AgreesEnter sub → (at : ℕ) (over : Option Connections) (o : Option ℕ) (x : ModuleInstance) (w : Walked)
      → Agrees unlimited (instance_of source above i sub at over o x w) (instance_of source above i sub at over o x (unlimited w))
  unfolding instance_of
  instance_agrees above i sub h at over None x w = λ n. refl
  instance_agrees above i sub h at over (Some k) x w =
      let values : Result Names FlatFault = checked (loops_at w i) above (scope_at w i) (module_at source k) k at over x in
      let inner : ℕ = length w.flat.scopes in
      let own : ModuleDeclaration = module_at source k in
      then_agrees (λ (g : Names). g) unlimited values values
      (λ given. and_then (sub k given (with_instance i x.text w)) (λ (u : Walked). Ok (joined i inner own x.connections u)))
      (λ given. and_then (sub k given (with_instance i x.text (unlimited w))) (λ (u : Walked). Ok (joined i inner own x.connections u)))
      (itself values)
      (λ given. then_agrees unlimited unlimited (sub k given (with_instance i x.text w)) (sub k given (with_instance i x.text (unlimited w)))
      (λ (u : Walked). Ok (joined i inner own x.connections u)) (λ (u : Walked). Ok (joined i inner own x.connections u))
      (h k given (with_instance i x.text w)) (λ u. ap (λ (v : Walked). Ok v) (joined_agrees i inner own x.connections u)))

  item_agrees : (table : Names) (above : List ℕ) (i : ℕ) (sub : Enter) → AgreesEnter sub → (x : ModuleItem) (w : Walked)
      → Agrees unlimited (item source table above i sub x w) (item source table above i sub x (unlimited w))
  unfolding item
  item_agrees table above i sub h (Ports p) w = refl
  item_agrees table above i sub h (Nets signed range list) w = each_agrees unlimited (net i) (net_agrees i) list w
  item_agrees table above i sub h (Variables signed range list) w = refl
  item_agrees table above i sub h (Integers list) w = refl
  item_agrees table above i sub h (Parameters p) w = refl
  item_agrees table above i sub h (Assigns pairs) w = each_agrees unlimited (assign i) (assign_agrees i) pairs w
  item_agrees table above i sub h (Always events s at) w = always_agrees i events s at w
  item_agrees table above i sub h (Initial s at) w = initial_agrees i s at w
  item_agrees table above i sub h (Instances m at over list) w =
      each_agrees unlimited (instance_of source above i sub at over (place_of (lookup m table))) (instance_agrees above i sub h at over (place_of (lookup m table))) list w

  begin_agrees : AgreesEnter (begin source)
  unfolding begin
  begin_agrees k given w =
      let room : List FlatFault = fault_if (not (nat_lt (length w.flat.scopes) 256)) (TooMany kind.Instances 257) in
      let names : LoopNames = loop_names (module_at source k) in
      then_agrees unlimited unlimited (first_fault_or room w) (first_fault_or room (unlimited w))
      (λ (u : Walked). and_then (head (length u.flat.scopes) (length u.flat.signals) u.bits given (module_at source k)) (λ (h : Head). Ok (opened k h names u)))
      (λ (u : Walked). and_then (head (length u.flat.scopes) (length u.flat.signals) u.bits given (module_at source k)) (λ (h : Head). Ok (opened k h names u)))
      (settles unlimited room w (unlimited w) refl)
      (λ u. then_agrees (λ (h : Head). h) unlimited (head (length u.flat.scopes) (length u.flat.signals) u.bits given (module_at source k)) (head (length u.flat.scopes) (length u.flat.signals) u.bits given (module_at source k))
      (λ (h : Head). Ok (opened k h names u)) (λ (h : Head). Ok (opened k h names (unlimited u)))
      (itself (head (length u.flat.scopes) (length u.flat.signals) u.bits given (module_at source k))) (λ h. refl))

  enter_agrees : (table : Names) (levels : ℕ) (above : List ℕ) → AgreesEnter (enter source table levels above)
  unfolding enter enter_by
  enter_agrees table zero above k given w = λ n. refl
  enter_agrees table (suc levels) above k given w =
      let deeper : List ℕ = above ++ k ∷ [] in
      let step : ModuleItem → Walked → Result Walked FlatFault = item source table deeper (length w.flat.scopes) (enter source table levels deeper) in
      then_agrees unlimited unlimited (begin source k given w) (begin source k given (unlimited w)) (each step (module_at source k).items) (each step (module_at source k).items)
      (begin_agrees k given w)
      (λ u. each_agrees unlimited step (item_agrees table deeper (length w.flat.scopes) (enter source table levels deeper) (enter_agrees table levels deeper)) (module_at source k).items u)

  top_agrees : (most : Option ℕ) (table : Names) (o : Option ℕ) → Agrees unlimited (enter_top most source table o) (enter_top None source table o)
  top_agrees most table None = λ n. refl
  top_agrees most table (Some k) = enter_agrees table 16 [] k [] (nothing most (module_at source k).token)

flats_agree : (most : Option ℕ) (source : SourceText) (top : Option Text) → Agrees (λ (f : Flat). f) (flat_by most source top) (flat_by None source top)
unfolding flat_by
flats_agree most source top =
    let tables : Result Names FlatFault = each add_module source.modules [] in
    then_agrees (λ (n : Names). n) (λ (f : Flat). f) tables tables
    (λ table. and_then (enter_top most source.modules table (top_place source.modules table top)) (λ w. Ok (finished source.modules w.flat)))
    (λ table. and_then (enter_top None source.modules table (top_place source.modules table top)) (λ w. Ok (finished source.modules w.flat)))
    (itself tables)
    (λ table. then_agrees unlimited (λ (f : Flat). f) (enter_top most source.modules table (top_place source.modules table top)) (enter_top None source.modules table (top_place source.modules table top))
    (λ w. Ok (finished source.modules w.flat)) (λ w. Ok (finished source.modules w.flat))
    (top_agrees source.modules most table (top_place source.modules table top)) (λ w. refl))

-- Where the limit is not passed

pub design_stays : (n : ℕ) (source : SourceText) (top : Option Text) (flat : Flat) → flat_by (Some n) source top ≡ Ok flat → flat_of source top ≡ Ok flat
design_stays n source top flat e = subst (λ r. Agrees (λ (f : Flat). f) r (flat_of source top)) e (flats_agree (Some n) source top)

pub refusal_stays : (n : ℕ) (source : SourceText) (top : Option Text) (f : FlatFault) → flat_by (Some n) source top ≡ Err f → ((count : ℕ) → f ≡ TooMany kind.Unfolded count → ⊥) → flat_of source top ≡ Err f
refusal_stays n source top f e = subst (λ r. Agrees (λ (g : Flat). g) r (flat_of source top)) e (flats_agree (Some n) source top)

-- a fault tells of the tokens of loops, or of something else
abbrev TellsOfTokens : FlatFault → Type 0
TellsOfTokens f = (count : ℕ) × (f ≡ TooMany kind.Unfolded count)

abbrev TellsOfElse : FlatFault → Type 0
TellsOfElse f = (count : ℕ) → f ≡ TooMany kind.Unfolded count → ⊥

of_count : (l : declared_limit.Limit) (count : ℕ) → TellsOfTokens (TooMany l count) ⊎ TellsOfElse (TooMany l count)
of_count kind.Bytes count = inr (λ k e. cc)
of_count kind.Rows count = inr (λ k e. cc)
of_count kind.Sites count = inr (λ k e. cc)
of_count kind.Instances count = inr (λ k e. cc)
of_count kind.Depth count = inr (λ k e. cc)
of_count kind.FlatBits count = inr (λ k e. cc)
of_count kind.Work count = inr (λ k e. cc)
of_count kind.Turns count = inr (λ k e. cc)
of_count kind.Unfolded count = inl (count, refl)
of_count kind.Words count = inr (λ k e. cc)

of_fault : (f : FlatFault) → TellsOfTokens f ⊎ TellsOfElse f
of_fault fault.NoTop = inr (λ k e. cc)
of_fault (fault.UnknownModule at) = inr (λ k e. cc)
of_fault (fault.SelfInstance at) = inr (λ k e. cc)
of_fault (fault.NameTwice at) = inr (λ k e. cc)
of_fault (fault.UnknownName at) = inr (λ k e. cc)
of_fault (fault.BadRange at) = inr (λ k e. cc)
of_fault (fault.NotConstant at) = inr (λ k e. cc)
of_fault (fault.PortMismatch at) = inr (λ k e. cc)
of_fault (fault.TooWide at width) = inr (λ k e. cc)
of_fault (fault.TooMany l count) = of_count l count
of_fault (fault.BadLoop at) = inr (λ k e. cc)
of_fault fault.Memory = inr (λ k e. cc)

abbrev IsWithin : ℕ → SourceText → Option Text → Flat → Type 0
IsWithin n source top flat = (flat_by (Some n) source top ≡ Ok flat) ⊎ ((count : ℕ) × (flat_by (Some n) source top ≡ Err (TooMany kind.Unfolded count)))

pub design_within : (n : ℕ) (source : SourceText) (top : Option Text) (flat : Flat) → flat_of source top ≡ Ok flat → IsWithin n source top flat
design_within n source top flat e = by (flat_by (Some n) source top) refl
  where
    by : (r : Result Flat FlatFault) → flat_by (Some n) source top ≡ r → IsWithin n source top flat
    by (Ok g) q = inl (q ∙ (sym (design_stays n source top g q) ∙ e))
    by (Err f) q = elim (of_fault f) [
      | inl t ↦ inr (t.0, q ∙ ap (λ x. Err x) t.1)
      | inr t ↦ absurd (not_ok f flat (sym (refusal_stays n source top f q t) ∙ e))
    ]

pub limits_agree : LimitsAgree
limits_agree = record { design = design_stays; refusal = refusal_stays; within = design_within }

pub ruleset limit_laws = (limits_agree)
