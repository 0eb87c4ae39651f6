-- The walk without token numbers.
use Rattle.std.proofs.Common.{◌≡◌, ◌∙◌, sym, ap, ap₂, subst, ℕ, zero, suc, Bool, true, false, not, nat_eq, nat_lt, ◌&&◌, List, [], ◌∷◌, ◌++◌, length, map, Option, Some, None, Result, Ok, Err, refl, fold, is_some, is_none}
use Rattle.std.specs.List.{list_any}
use Rattle.std.specs.Option.{option_to_list}
use Rattle.std.proofs.lemmas.List.{map-append, length-map}
use Rattle.rr_syntax.specs.Tree.{Tree, Trees, Name, Literal, Bit as BitSelect, Part, Indexed, Unary, Binary, Cond, Concat, Repeat, Cast, Paren, End, More, Statement, Statements, Arm, Arms, Null, Block, If, IfElse, Case, Assign, For, Done, Then, CaseItem, NoArms, MoreArms, DeclaredName, NetAssignment, EdgeEvent, EventControl, Star, Edges, Levels, NamedConnection, Connections, Positions, Names as Named, ModuleInstance, ModuleItem, Ports, Nets, Variables, Integers, Parameters, Assigns, Always, Initial, Instances, ModuleDeclaration, SourceText, bare, bare_parts, bare_statement, bare_statements, bare_arm, bare_arms, bare_value, bare_declarator, bare_pair, bare_edge, bare_events, bare_connection, bare_connections, bare_overrides, bare_instance, bare_item, bare_module, bare_source}
use Rattle.rr_expr.specs.Faults.{fault, first, index_fault, or_else}
use Rattle.rr_expr.specs.Scopes.{Names, lookup, meant}
use Rattle.rr_expr.specs.Values.{form}
use Rattle.rr_expr.specs.declared.types.Entity.{Entity}
use Rattle.rr_expr.specs.declared.types.Entity.TheVariants as entity
use Rattle.rr_flat.specs.declared.fault.FlatFault.{FlatFault}
use Rattle.rr_flat.specs.declared.fault.FlatFault.TheVariants.{UnknownModule, SelfInstance, NameTwice, UnknownName, PortMismatch, TooMany, BadLoop, NoTop}
use Rattle.rr_flat.specs.declared.fault.Limit.TheVariants.{Instances as InstanceCount, Depth}
use Rattle.rr_flat.specs.declared.signal.Port.{Port}
use Rattle.rr_flat.specs.declared.signal.Port.TheVariants.{Inner, Input, Output}
use Rattle.rr_flat.specs.Faults.{earliest_of, fault_if, faults_in, first_fault_or, and_then, each}
use Rattle.rr_loop_rules.specs.Rules.{LoopNames, contains, loop_names, stray, strays, part_strays, loop_faults}
use Rattle.rr_unfold.specs.Unfold.{Count, counted, unfold_statement}
use Rattle.rr_starts.specs.Starts.{constant_faults, initial_target_faults, initial_faults, all_initial_faults, started}
use Rattle.rr_declarations.specs.Heads.{Head, head}
use Rattle.rr_flat.specs.Signals.{Text, Signal, signal_at}
use Rattle.rr_declarations.specs.Values.{constant}
use Rattle.rr_flat.specs.declared.design.Part.TheVariants as part
use Rattle.rr_flat.specs.Plain.{Side, Written, Whole, Driver, Flat}
use Rattle.rr_flat.specs.Plain as plain_design
use Rattle.rr_flatten.specs.Tables.{at_place, place_of, add_module, parameter_table, open_names, port_names, name_set}
use Rattle.rr_flatten.specs.Walk.{Walked, Enter, scope_at, loops_at, module_at, is_useless, edge_faults, edges_faults, event_faults, with_driver, expression_faults, assign, net_driver, net_value, net_with, net, combined, clocked, with_block, always, with_initial, initial, noted, Checked, with_value, parameter_faults, twice_faults, with_override, check_override, Placed, place_override, check_position, nothing_checked, overrides, value_faults, Connected, check_connection, Joining, place_port, check_port, connections, join_port, join_at, join, join_value, join_named, join_positions, joined, checked, with_instance, instance_of, item, opened, begin, enter_by, enter, nothing, finished, top_place, enter_top, flat_by, top_ports, reached_from}
use Rattle.rr_flat.specs.Shapes.{shape, shape_faults, list_faults, statement_faults, statements_faults, arms_faults, arm_faults}
use Rattle.rr_token_numbers.specs.Bare.{bare_signal, bare_side, bare_driver, bare_block, bare_initial, bare_flat}
use Rattle.rr_token_numbers.proofs.Results.{Barely, Both, BothNil, nil_append, nil_if, nil_in, nil_answer, nil_earliest, both_noted, or_bare, settle_bare, then_bare, each_bare, fold_both, fold_trees_both}
use Rattle.rr_token_numbers.proofs.Shapes.{first-bare, both_or, both_index, fault_both}
use Rattle.rr_token_numbers.proofs.Starts.{constant_nil, started-bare}
use Rattle.rr_token_numbers.proofs.Heads.{constant_bare, bare_head, head_bare}
use Rattle.rr_token_numbers.proofs.Strays.{strays_nil, part_strays_nil, loop_nil, loop_names-bare}
use Rattle.rr_token_numbers.proofs.Turns.{counted_bare, unfold-bare}
use Rattle.rr_token_numbers.proofs.Tables.{table_bare, module_at-bare, top_place-bare, reached-bare, top_ports-bare, signal_at-bare, parameter_table-bare, open_names-bare, port_names-bare}

-- faults of expressions and statements

shape_nil : (names : Names) (t : Tree) → BothNil (shape_faults names t) (shape_faults names (bare t))
unfolding shape
shape_nil names t = nil_answer (fault names t false) (fault names (bare t) false) (form names t) (form names (bare t)) (fault_both names t false)

expression_nil : (L : LoopNames) (names : Names) (t : Tree) → BothNil (expression_faults L names t) (expression_faults L names (bare t))
expression_nil L names t = nil_append (strays L [] t) (shape_faults names t) (strays L [] (bare t)) (shape_faults names (bare t)) (strays_nil L [] t) (shape_nil names t)

list_nil : (names : Names) (ts : Trees) → BothNil (list_faults names ts) (list_faults names (bare_parts ts))
unfolding list_faults bare
list_nil names End = tt
list_nil names (More t ts) = nil_append (shape_faults names t) (list_faults names ts) (shape_faults names (bare t)) (list_faults names (bare_parts ts)) (shape_nil names t) (list_nil names ts)

mutual
  unfolding statement_faults bare_statement

  statement_nil : (names : Names) (t : Statement) → BothNil (statement_faults names t) (statement_faults names (bare_statement t))
  statement_nil names Null = tt
  statement_nil names (Block label ts) = statements_nil names ts
  statement_nil names (If c t) = nil_append (shape_faults names c) (statement_faults names t) (shape_faults names (bare c)) (statement_faults names (bare_statement t)) (shape_nil names c) (statement_nil names t)
  statement_nil names (IfElse c t u) =
      nil_append (shape_faults names c) (statement_faults names t ++ statement_faults names u) (shape_faults names (bare c)) (statement_faults names (bare_statement t) ++ statement_faults names (bare_statement u)) (shape_nil names c)
      (nil_append (statement_faults names t) (statement_faults names u) (statement_faults names (bare_statement t)) (statement_faults names (bare_statement u)) (statement_nil names t) (statement_nil names u))
  statement_nil names (Case kind on arms) = nil_append (shape_faults names on) (arms_faults names arms) (shape_faults names (bare on)) (arms_faults names (bare_arms arms)) (shape_nil names on) (arms_nil names arms)
  statement_nil names (Assign t now e) = nil_append (shape_faults names t) (shape_faults names e) (shape_faults names (bare t)) (shape_faults names (bare e)) (shape_nil names t) (shape_nil names e)
  statement_nil names (For h t) = tt

  statements_nil : (names : Names) (ts : Statements) → BothNil (statements_faults names ts) (statements_faults names (bare_statements ts))
  statements_nil names Done = tt
  statements_nil names (Then t ts) =
      nil_append (statement_faults names t) (statements_faults names ts) (statement_faults names (bare_statement t)) (statements_faults names (bare_statements ts)) (statement_nil names t) (statements_nil names ts)

  arm_nil : (names : Names) (a : Arm) → BothNil (arm_faults names a) (arm_faults names (bare_arm a))
  arm_nil names (CaseItem labels colon t) =
      nil_append (list_faults names labels) (statement_faults names t) (list_faults names (bare_parts labels)) (statement_faults names (bare_statement t)) (list_nil names labels) (statement_nil names t)

  arms_nil : (names : Names) (arms : Arms) → BothNil (arms_faults names arms) (arms_faults names (bare_arms arms))
  arms_nil names NoArms = tt
  arms_nil names (MoreArms a rest) = nil_append (arm_faults names a) (arms_faults names rest) (arm_faults names (bare_arm a)) (arms_faults names (bare_arms rest)) (arm_nil names a) (arms_nil names rest)

target_nil : (names : Names) (t : Tree) → BothNil (initial_target_faults names t) (initial_target_faults names (bare t))
unfolding initial_target_faults bare
target_nil names (Name token x) = shape_nil names (Name token x)
target_nil names (Literal token n) = shape_nil names (Literal token n)
target_nil names (BitSelect token x i) =
    nil_answer (or_else (index_fault false token (meant names x)) (fault names i true)) (or_else (index_fault false 0 (meant names x)) (fault names (bare i) true)) (BitSelect token x i) (BitSelect 0 x (bare i))
    (both_or (index_fault false token (meant names x)) (index_fault false 0 (meant names x)) (fault names i true) (fault names (bare i) true) (both_index false token 0 (meant names x)) (fault_both names i true))
target_nil names (Part token x l r) = shape_nil names (Part token x l r)
target_nil names (Indexed token x f n up) = shape_nil names (Indexed token x f n up)
target_nil names (Unary op a) = shape_nil names (Unary op a)
target_nil names (Binary op a b) = shape_nil names (Binary op a b)
target_nil names (Cond a b c) = shape_nil names (Cond a b c)
target_nil names (Concat ts) = shape_nil names (Concat ts)
target_nil names (Repeat n ts) = shape_nil names (Repeat n ts)
target_nil names (Cast signed a) = shape_nil names (Cast signed a)
target_nil names (Paren a) = shape_nil names (Paren a)

mutual
  unfolding initial_faults bare_statement

  initial_nil : (names : Names) (t : Statement) → BothNil (initial_faults names t) (initial_faults names (bare_statement t))
  initial_nil names Null = tt
  initial_nil names (Block label ts) = initials_nil names ts
  initial_nil names (If c t) = tt
  initial_nil names (IfElse c t u) = tt
  initial_nil names (Case kind on arms) = tt
  initial_nil names (Assign t now e) =
      nil_append (initial_target_faults names t) (constant_faults names e) (initial_target_faults names (bare t)) (constant_faults names (bare e)) (target_nil names t) (constant_nil names e)
  initial_nil names (For h t) = tt

  initials_nil : (names : Names) (ts : Statements) → BothNil (all_initial_faults names ts) (all_initial_faults names (bare_statements ts))
  initials_nil names Done = tt
  initials_nil names (Then t ts) =
      nil_append (initial_faults names t) (all_initial_faults names ts) (initial_faults names (bare_statement t)) (all_initial_faults names (bare_statements ts)) (initial_nil names t) (initials_nil names ts)

edges_nil : (L : LoopNames) (names : Names) (list : List EdgeEvent) → BothNil (edges_faults L names list) (edges_faults L names (map bare_edge list))
unfolding edges_faults bare_edge
edges_nil L names [] = tt
edges_nil L names (e ∷ es) =
    nil_append (edge_faults L names e) (edges_faults L names es) (edge_faults L names (bare_edge e)) (edges_faults L names (map bare_edge es))
    (nil_append (stray L [] e.token e.text) (fault_if (is_useless (meant names e.text)) (UnknownName e.token)) (stray L [] 0 e.text) (fault_if (is_useless (meant names e.text)) (UnknownName 0))
    (nil_if (contains L e.text && not (contains [] e.text)) (BadLoop e.token) (BadLoop 0)) (nil_if (is_useless (meant names e.text)) (UnknownName e.token) (UnknownName 0)))
    (edges_nil L names es)

events_nil : (L : LoopNames) (names : Names) (events : EventControl) → BothNil (event_faults L names events) (event_faults L names (bare_events events))
unfolding event_faults bare_events
events_nil L names (Star brackets) = tt
events_nil L names (Edges list commas) = edges_nil L names list
events_nil L names (Levels list commas) = nil_append (part_strays L [] list) (list_faults names list) (part_strays L [] (bare_parts list)) (list_faults names (bare_parts list)) (part_strays_nil L [] list) (list_nil names list)

-- of the faults of an unfolded statement the earliest counts

unfolded_nil : (names : Names) (t : Statement) → BothNil (statement_faults names (unfold_statement names [] t)) (statement_faults names (unfold_statement names [] (bare_statement t)))
unfolded_nil names t =
    subst (λ (x : Statement). BothNil (statement_faults names (unfold_statement names [] t)) (statement_faults names x)) (sym (unfold-bare names [] t)) (statement_nil names (unfold_statement names [] t))

unfolded_initial_nil : (names : Names) (t : Statement) → BothNil (initial_faults names (unfold_statement names [] t)) (initial_faults names (unfold_statement names [] (bare_statement t)))
unfolded_initial_nil names t =
    subst (λ (x : Statement). BothNil (initial_faults names (unfold_statement names [] t)) (initial_faults names x)) (sym (unfold-bare names [] t)) (initial_nil names (unfold_statement names [] t))

abbrev always_faults : LoopNames → Names → EventControl → Statement → List FlatFault
always_faults L names events t = loop_faults L [] t ++ (event_faults L names events ++ option_to_list (earliest_of (statement_faults names (unfold_statement names [] t))))

always_nil : (L : LoopNames) (names : Names) (events : EventControl) (t : Statement) → BothNil (always_faults L names events t) (always_faults L names (bare_events events) (bare_statement t))
always_nil L names events t =
    let faults : List FlatFault = statement_faults names (unfold_statement names [] t) in
    let others : List FlatFault = statement_faults names (unfold_statement names [] (bare_statement t)) in
    nil_append (loop_faults L [] t) (event_faults L names events ++ option_to_list (earliest_of faults))
    (loop_faults L [] (bare_statement t)) (event_faults L names (bare_events events) ++ option_to_list (earliest_of others)) (loop_nil L [] t)
    (nil_append (event_faults L names events) (option_to_list (earliest_of faults)) (event_faults L names (bare_events events)) (option_to_list (earliest_of others))
    (events_nil L names events) (nil_earliest faults others (unfolded_nil names t)))

abbrev starting_faults : LoopNames → Names → Statement → List FlatFault
starting_faults L names t = loop_faults L [] t ++ option_to_list (earliest_of (initial_faults names (unfold_statement names [] t)))

starting_nil : (L : LoopNames) (names : Names) (t : Statement) → BothNil (starting_faults L names t) (starting_faults L names (bare_statement t))
starting_nil L names t =
    let faults : List FlatFault = initial_faults names (unfold_statement names [] t) in
    let others : List FlatFault = initial_faults names (unfold_statement names [] (bare_statement t)) in
    nil_append (loop_faults L [] t) (option_to_list (earliest_of faults)) (loop_faults L [] (bare_statement t)) (option_to_list (earliest_of others))
    (loop_nil L [] t) (nil_earliest faults others (unfolded_initial_nil names t))

-- one driver or block more

abbrev pub bare_walked : Walked → Walked
bare_walked w = record w { flat = bare_flat w.flat }

driver-bare : (target value : Side) (at : ℕ) (w : Walked) → with_driver (bare_side target) (bare_side value) 0 (bare_walked w) ≡ bare_walked (with_driver target value at w)
unfolding bare_flat
driver-bare target value at w =
    ap₂ (λ (n : ℕ) (ds : List Driver). record w { flat = record (bare_flat w.flat) { drivers = ds; walk = w.flat.walk ++ part.Driver n ∷ [] } })
    (length-map w.flat.drivers bare_driver) (sym (map-append bare_driver w.flat.drivers (record { target = target; value = value; token = at } ∷ [])))

combined-bare : (b : plain_design.Block) (w : Walked) → combined (bare_block b) (bare_walked w) ≡ bare_walked (combined b w)
unfolding bare_flat
combined-bare b w =
    ap₂ (λ (n : ℕ) (bs : List plain_design.Block). record w { flat = record (bare_flat w.flat) { combinational = bs; walk = w.flat.walk ++ part.Combinational n ∷ [] } })
    (length-map w.flat.combinational bare_block) (sym (map-append bare_block w.flat.combinational (b ∷ [])))

clocked-bare : (b : plain_design.Block) (w : Walked) → clocked (bare_block b) (bare_walked w) ≡ bare_walked (clocked b w)
unfolding bare_flat
clocked-bare b w =
    ap₂ (λ (n : ℕ) (bs : List plain_design.Block). record w { flat = record (bare_flat w.flat) { clocked = bs; walk = w.flat.walk ++ part.Clocked n ∷ [] } })
    (length-map w.flat.clocked bare_block) (sym (map-append bare_block w.flat.clocked (b ∷ [])))

block-bare : (i : ℕ) (events : EventControl) (t : Statement) (at : ℕ) (w : Walked) → with_block i (bare_events events) (bare_statement t) 0 (bare_walked w) ≡ bare_walked (with_block i events t at w)
unfolding bare_events
block-bare i (Star brackets) t at w = combined-bare (record { body = t; edges = []; scope = i; token = at }) w
block-bare i (Edges list commas) t at w = clocked-bare (record { body = t; edges = list; scope = i; token = at }) w
block-bare i (Levels list commas) t at w = combined-bare (record { body = t; edges = []; scope = i; token = at }) w

-- items

assign_bare : (i : ℕ) (p : NetAssignment) (w : Walked) → Barely bare_walked (assign i p w) (assign i (bare_pair p) (bare_walked w))
unfolding assign bare_pair bare_flat
assign_bare i p w =
    let L : LoopNames = loops_at w i in
    let names : Names = scope_at w i in
    settle_bare bare_walked (expression_faults L names p.target ++ expression_faults L names p.value) (expression_faults L names (bare p.target) ++ expression_faults L names (bare p.value))
    (with_driver (Written p.target i) (Written p.value i) (first p.target) w) (with_driver (Written (bare p.target) i) (Written (bare p.value) i) (first (bare p.target)) (bare_walked w))
    (nil_append (expression_faults L names p.target) (expression_faults L names p.value) (expression_faults L names (bare p.target)) (expression_faults L names (bare p.value))
    (expression_nil L names p.target) (expression_nil L names p.value))
    (ap (λ (n : ℕ). with_driver (Written (bare p.target) i) (Written (bare p.value) i) n (bare_walked w)) (first-bare p.target) ∙ driver-bare (Written p.target i) (Written p.value i) (first p.target) w)

net_driver-bare : (i at : ℕ) (t : Tree) (o : Option ℕ) (w : Walked) → net_driver i 0 (bare t) o (bare_walked w) ≡ bare_walked (net_driver i at t o w)
net_driver-bare i at t None w = refl
net_driver-bare i at t (Some id) w = driver-bare (Whole id) (Written t i) at w

net_value_bare : (i at : ℕ) (name : Text) (t : Tree) (w : Walked) → Barely bare_walked (net_value i at name t w) (net_value i 0 name (bare t) (bare_walked w))
unfolding net_value bare_flat
net_value_bare i at name t w =
    settle_bare bare_walked (expression_faults (loops_at w i) (scope_at w i) t) (expression_faults (loops_at w i) (scope_at w i) (bare t)) (net_driver i at t (place_of (lookup name (scope_at w i))) w)
    (net_driver i 0 (bare t) (place_of (lookup name (scope_at w i))) (bare_walked w)) (expression_nil (loops_at w i) (scope_at w i) t) (net_driver-bare i at t (place_of (lookup name (scope_at w i))) w)

net_with_bare : (i at : ℕ) (name : Text) (o : Option Tree) (w : Walked) → Barely bare_walked (net_with i at name o w) (net_with i 0 name (bare_value o) (bare_walked w))
unfolding bare_value
net_with_bare i at name None w = refl
net_with_bare i at name (Some t) w = net_value_bare i at name t w

net_bare : (i : ℕ) (n : DeclaredName) (w : Walked) → Barely bare_walked (net i n w) (net i (bare_declarator n) (bare_walked w))
unfolding net bare_declarator
net_bare i n w = net_with_bare i n.token n.text n.value w

always_bare : (i : ℕ) (events : EventControl) (t : Statement) (at : ℕ) (w : Walked) → Barely bare_walked (always i events t at w) (always i (bare_events events) (bare_statement t) 0 (bare_walked w))
unfolding always bare_flat
always_bare i events t at w =
    let L : LoopNames = loops_at w i in
    let names : Names = scope_at w i in
    let u : Statement = unfold_statement names [] t in
    let v : Statement = unfold_statement names [] (bare_statement t) in
    then_bare (λ (c : Count). c) bare_walked (counted w.limit L names [] t w.count) (counted w.limit L names [] (bare_statement t) w.count)
    (λ (c : Count). first_fault_or (always_faults L names events t) (with_block i events u at (record w { count = c })))
    (λ (c : Count). first_fault_or (always_faults L names (bare_events events) (bare_statement t)) (with_block i (bare_events events) v 0 (record (bare_walked w) { count = c })))
    (counted_bare w.limit L names [] t w.count)
    (λ c. settle_bare bare_walked (always_faults L names events t) (always_faults L names (bare_events events) (bare_statement t))
    (with_block i events u at (record w { count = c })) (with_block i (bare_events events) v 0 (record (bare_walked w) { count = c })) (always_nil L names events t)
    (ap (λ (x : Statement). with_block i (bare_events events) x 0 (record (bare_walked w) { count = c })) (unfold-bare names [] t) ∙ block-bare i events u at (record w { count = c })))

initial-bare : (i : ℕ) (t : Statement) (at : ℕ) (w : Walked) → with_initial i (bare_statement t) 0 (bare_walked w) ≡ bare_walked (with_initial i t at w)
unfolding bare_flat
initial-bare i t at w =
    ap (λ (starts : List ℕ). record w { flat = record (with_initial i (bare_statement t) 0 (bare_walked w)).flat { starts = starts } }) (started-bare (scope_at w i) t w.flat.starts)
    ∙ ap₂ (λ (n : ℕ) (xs : List plain_design.Initial). record w { flat = record (bare_flat w.flat) { starts = started (scope_at w i) t w.flat.starts; initials = xs; walk = w.flat.walk ++ part.Initial n ∷ [] } })
    (length-map w.flat.initials bare_initial) (sym (map-append bare_initial w.flat.initials (record { body = t; scope = i; token = at } ∷ [])))

initial_bare : (i : ℕ) (t : Statement) (at : ℕ) (w : Walked) → Barely bare_walked (initial i t at w) (initial i (bare_statement t) 0 (bare_walked w))
unfolding initial bare_flat
initial_bare i t at w =
    let L : LoopNames = loops_at w i in
    let names : Names = scope_at w i in
    let u : Statement = unfold_statement names [] t in
    let v : Statement = unfold_statement names [] (bare_statement t) in
    then_bare (λ (c : Count). c) bare_walked (counted w.limit L names [] t w.count) (counted w.limit L names [] (bare_statement t) w.count)
    (λ (c : Count). first_fault_or (starting_faults L names t) (with_initial i u at (record w { count = c })))
    (λ (c : Count). first_fault_or (starting_faults L names (bare_statement t)) (with_initial i v 0 (record (bare_walked w) { count = c })))
    (counted_bare w.limit L names [] t w.count)
    (λ c. settle_bare bare_walked (starting_faults L names t) (starting_faults L names (bare_statement t))
    (with_initial i u at (record w { count = c })) (with_initial i v 0 (record (bare_walked w) { count = c })) (starting_nil L names t)
    (ap (λ (x : Statement). with_initial i x 0 (record (bare_walked w) { count = c })) (unfold-bare names [] t) ∙ initial-bare i u at (record w { count = c })))

-- overrides

record SameChecked (c d : Checked) : Type 0 where
  found : Both c.found d.found
  seen : d.seen ≡ c.seen
  given : d.given ≡ c.given

value_given : (given : Names) (name : Text) (r q : Result (List Bool × Bool) FlatFault) → Barely (λ (v : List Bool × Bool). v) r q → with_value given name q ≡ with_value given name r
value_given given name (Ok v) q h = rw h refl
value_given given name (Err f) q h = rw h.1 refl

set_same : (names : Names) (name : Text) (c d : Checked) (t : Tree) → SameChecked c d → SameChecked (with_override names name c (Some t)) (with_override names name d (Some (bare t)))
set_same names name c d t h = record {
  found = both_noted c.found d.found (faults_in (constant names t)) (faults_in (constant names (bare t))) h.found (nil_in (λ (v : List Bool × Bool). v) (constant names t) (constant names (bare t)) (constant_bare names t));
  seen = h.seen;
  given = value_given d.given name (constant names t) (constant names (bare t)) (constant_bare names t) ∙ ap (λ (g : Names). with_value g name (constant names t)) h.given;
}

override_same : (names : Names) (name : Text) (c d : Checked) (o : Option Tree) → SameChecked c d → SameChecked (with_override names name c o) (with_override names name d (bare_value o))
unfolding bare_value
override_same names name c d None h = h
override_same names name c d (Some t) h = set_same names name c d t h

parameter_nil : (at to : ℕ) (o : Option Entity) → BothNil (parameter_faults at o) (parameter_faults to o)
parameter_nil at to None = tt
parameter_nil at to (Some (entity.Constant bits signed)) = tt
parameter_nil at to (Some (entity.Signal id range signed)) = nil_if signed (PortMismatch at) (PortMismatch to)
parameter_nil at to (Some (entity.Memory first low words range signed)) = tt
parameter_nil at to (Some entity.Instance) = tt

check_override_same : (table names : Names) (c d : Checked) (n : NamedConnection) → SameChecked c d → SameChecked (check_override table names c n) (check_override table names d (bare_connection n))
unfolding check_override bare_connection
check_override_same table names c d n h =
    override_same names n.text
    (record c { found = noted (noted c.found (parameter_faults n.token (lookup n.text table))) (twice_faults n.token n.text c.seen); seen = at_place c.seen n.text 0 })
    (record d { found = noted (noted d.found (parameter_faults 0 (lookup n.text table))) (twice_faults 0 n.text d.seen); seen = at_place d.seen n.text 0 }) n.value
    (record {
      found = both_noted (noted c.found (parameter_faults n.token (lookup n.text table))) (noted d.found (parameter_faults 0 (lookup n.text table))) (twice_faults n.token n.text c.seen) (twice_faults 0 n.text d.seen)
          (both_noted c.found d.found (parameter_faults n.token (lookup n.text table)) (parameter_faults 0 (lookup n.text table)) h.found (parameter_nil n.token 0 (lookup n.text table)))
          (rw h.seen (nil_if (is_some (lookup n.text c.seen)) (PortMismatch n.token) (PortMismatch 0)));
      seen = ap (λ (s : Names). at_place s n.text 0) h.seen;
      given = h.given;
    })

record SamePlaced (p q : Placed) : Type 0 where
  left : q.left ≡ p.left
  over : q.over ≡ p.over
  checked : SameChecked p.checked q.checked

place_same : (names : Names) (left : List Text) (p q : Placed) (t : Tree) → SamePlaced p q → SamePlaced (place_override names left p t) (place_override names left q (bare t))
place_same names [] p q t h = record {
  left = h.left;
  over = refl;
  checked = record {
    found = both_noted (noted p.checked.found (faults_in (constant names t))) (noted q.checked.found (faults_in (constant names (bare t)))) (fault_if (not p.over) (PortMismatch (first t))) (fault_if (not q.over) (PortMismatch (first (bare t))))
        (both_noted p.checked.found q.checked.found (faults_in (constant names t)) (faults_in (constant names (bare t))) h.checked.found
        (nil_in (λ (v : List Bool × Bool). v) (constant names t) (constant names (bare t)) (constant_bare names t)))
        (rw h.over (nil_if (not p.over) (PortMismatch (first t)) (PortMismatch (first (bare t)))));
    seen = h.checked.seen;
    given = h.checked.given;
  };
}
place_same names (n ∷ ns) p q t h = record { left = refl; over = h.over; checked = set_same names n p.checked q.checked t h.checked }

position_same : (names : Names) (p q : Placed) (t : Tree) → SamePlaced p q → SamePlaced (check_position names p t) (check_position names q (bare t))
unfolding check_position
position_same names p q t h = subst (λ (left : List Text). SamePlaced (place_override names p.left p t) (place_override names left q (bare t))) (sym h.left) (place_same names p.left p q t h)

overrides_same : (m : ModuleDeclaration) (names : Names) (found due : Option FlatFault) (over : Option Connections) → Both found due → SameChecked (overrides m names found over) (overrides (bare_module m) names due (bare_overrides over))
unfolding overrides bare_overrides bare_connections
overrides_same m names found due None h = record { found = h; seen = refl; given = refl }
overrides_same m names found due (Some (Positions ts)) h =
    (fold_trees_both SamePlaced (check_position names) (check_position names) (position_same names) ts (record { left = open_names m; over = false; checked = nothing_checked found })
    (record { left = open_names (bare_module m); over = false; checked = nothing_checked due })
    (record { left = open_names-bare m; over = refl; checked = record { found = h; seen = refl; given = refl } })).checked
overrides_same m names found due (Some (Named list)) h =
    rw (parameter_table-bare m)
    (fold_both SameChecked bare_connection (check_override (parameter_table m) names) (check_override (parameter_table m) names) (check_override_same (parameter_table m) names) list (nothing_checked found) (nothing_checked due)
    (record { found = h; seen = refl; given = refl }))

-- connections

value_nil : (L : LoopNames) (names : Names) (o : Option Tree) → BothNil (value_faults L names o) (value_faults L names (bare_value o))
unfolding bare_value
value_nil L names None = tt
value_nil L names (Some t) = expression_nil L names t

record SameConnected (c d : Connected) : Type 0 where
  found : Both c.found d.found
  seen : d.seen ≡ c.seen

connection_same : (L : LoopNames) (ports names : Names) (c d : Connected) (n : NamedConnection) → SameConnected c d → SameConnected (check_connection L ports names c n) (check_connection L ports names d (bare_connection n))
unfolding check_connection bare_connection
connection_same L ports names c d n h = record {
  found = both_noted (noted (noted c.found (fault_if (is_none (lookup n.text ports)) (PortMismatch n.token))) (twice_faults n.token n.text c.seen))
      (noted (noted d.found (fault_if (is_none (lookup n.text ports)) (PortMismatch 0))) (twice_faults 0 n.text d.seen)) (value_faults L names n.value) (value_faults L names (bare_value n.value))
      (both_noted (noted c.found (fault_if (is_none (lookup n.text ports)) (PortMismatch n.token))) (noted d.found (fault_if (is_none (lookup n.text ports)) (PortMismatch 0))) (twice_faults n.token n.text c.seen) (twice_faults 0 n.text d.seen)
      (both_noted c.found d.found (fault_if (is_none (lookup n.text ports)) (PortMismatch n.token)) (fault_if (is_none (lookup n.text ports)) (PortMismatch 0)) h.found (nil_if (is_none (lookup n.text ports)) (PortMismatch n.token) (PortMismatch 0)))
      (rw h.seen (nil_if (is_some (lookup n.text c.seen)) (PortMismatch n.token) (PortMismatch 0))))
      (value_nil L names n.value);
  seen = ap (λ (s : Names). at_place s n.text 0) h.seen;
}

record SameJoining (j k : Joining) : Type 0 where
  left : k.left ≡ j.left
  over : k.over ≡ j.over
  found : Both j.found k.found

port_same : (L : LoopNames) (names : Names) (left : List Text) (j k : Joining) (t : Tree) → SameJoining j k → SameJoining (place_port L names left j t) (place_port L names left k (bare t))
port_same L names [] j k t h = record {
  left = h.left;
  over = refl;
  found = both_noted (noted j.found (expression_faults L names t)) (noted k.found (expression_faults L names (bare t))) (fault_if (not j.over) (PortMismatch (first t))) (fault_if (not k.over) (PortMismatch (first (bare t))))
      (both_noted j.found k.found (expression_faults L names t) (expression_faults L names (bare t)) h.found (expression_nil L names t)) (rw h.over (nil_if (not j.over) (PortMismatch (first t)) (PortMismatch (first (bare t)))));
}
port_same L names (n ∷ ns) j k t h = record { left = refl; over = h.over; found = both_noted j.found k.found (expression_faults L names t) (expression_faults L names (bare t)) h.found (expression_nil L names t) }

check_port_same : (L : LoopNames) (names : Names) (j k : Joining) (t : Tree) → SameJoining j k → SameJoining (check_port L names j t) (check_port L names k (bare t))
unfolding check_port
check_port_same L names j k t h = subst (λ (left : List Text). SameJoining (place_port L names j.left j t) (place_port L names left k (bare t))) (sym h.left) (port_same L names j.left j k t h)

connections_same : (L : LoopNames) (m : ModuleDeclaration) (names : Names) (found due : Option FlatFault) (c : Connections) → Both found due → Both (connections L m names found c) (connections L (bare_module m) names due (bare_connections c))
unfolding connections bare_connections
connections_same L m names found due (Positions ts) h =
    (fold_trees_both SameJoining (check_port L names) (check_port L names) (check_port_same L names) ts (record { left = port_names m; over = false; found = found }) (record { left = port_names (bare_module m); over = false; found = due })
    (record { left = port_names-bare m; over = refl; found = h })).found
connections_same L m names found due (Named list) h =
    let start : Connected = record { found = found; seen = [] } in
    let begun : Connected = record { found = due; seen = [] } in
    subst (λ (ports : List Text). Both (fold (check_connection L (name_set (port_names m)) names) start list).found (fold (check_connection L (name_set ports) names) begun (map bare_connection list)).found) (sym (port_names-bare m))
    (fold_both SameConnected bare_connection (check_connection L (name_set (port_names m)) names) (check_connection L (name_set (port_names m)) names) (connection_same L (name_set (port_names m)) names) list
    start begun (record { found = h; seen = refl })).found

checked_bare : (L : LoopNames) (above : List ℕ) (names : Names) (m : ModuleDeclaration) (k at : ℕ) (over : Option Connections) (x : ModuleInstance)
    → Barely (λ (n : Names). n) (checked L above names m k at over x) (checked L above names (bare_module m) k 0 (bare_overrides over) (bare_instance x))
unfolding checked bare_instance
checked_bare L above names m k at over x =
    let begun : Option FlatFault = noted None (fault_if (list_any (nat_eq k) above) (SelfInstance at)) in
    let begun' : Option FlatFault = noted None (fault_if (list_any (nat_eq k) above) (SelfInstance 0)) in
    let o : Checked = overrides m names begun over in
    let o' : Checked = overrides (bare_module m) names begun' (bare_overrides over) in
    let h : SameChecked o o' = overrides_same m names begun begun' over (both_noted None None (fault_if (list_any (nat_eq k) above) (SelfInstance at)) (fault_if (list_any (nat_eq k) above) (SelfInstance 0)) tt
    (nil_if (list_any (nat_eq k) above) (SelfInstance at) (SelfInstance 0))) in
    or_bare (λ (n : Names). n) (connections L m names (noted o.found (fault_if (is_some (lookup x.text names)) (NameTwice x.token))) x.connections)
    (connections L (bare_module m) names (noted o'.found (fault_if (is_some (lookup x.text names)) (NameTwice 0))) (bare_connections x.connections)) o.given o'.given
    (connections_same L m names (noted o.found (fault_if (is_some (lookup x.text names)) (NameTwice x.token))) (noted o'.found (fault_if (is_some (lookup x.text names)) (NameTwice 0))) x.connections
    (both_noted o.found o'.found (fault_if (is_some (lookup x.text names)) (NameTwice x.token)) (fault_if (is_some (lookup x.text names)) (NameTwice 0)) h.found (nil_if (is_some (lookup x.text names)) (NameTwice x.token) (NameTwice 0))))
    h.given

-- the drivers of connections

port-bare : (p : Port) (i id : ℕ) (t : Tree) (w : Walked) → join_port p i id (bare t) (bare_walked w) ≡ bare_walked (join_port p i id t w)
port-bare Inner i id t w = refl
port-bare Input i id t w = ap (λ (n : ℕ). with_driver (Whole id) (Written (bare t) i) n (bare_walked w)) (first-bare t) ∙ driver-bare (Whole id) (Written t i) (first t) w
port-bare Output i id t w = ap (λ (n : ℕ). with_driver (Written (bare t) i) (Whole id) n (bare_walked w)) (first-bare t) ∙ driver-bare (Written t i) (Whole id) (first t) w

at-bare : (o : Option ℕ) (i : ℕ) (t : Tree) (w : Walked) → join_at o i (bare t) (bare_walked w) ≡ bare_walked (join_at o i t w)
unfolding bare_flat
at-bare None i t w = refl
at-bare (Some id) i t w = ap (λ (s : Signal). join_port s.port i id (bare t) (bare_walked w)) (signal_at-bare w.flat.signals id) ∙ port-bare (signal_at w.flat.signals id).port i id t w

join-bare : (i k : ℕ) (name : Text) (t : Tree) (w : Walked) → join i k name (bare t) (bare_walked w) ≡ bare_walked (join i k name t w)
unfolding join bare_flat
join-bare i k name t w = at-bare (place_of (lookup name (scope_at w k))) i t w

join_value-bare : (i k : ℕ) (name : Text) (o : Option Tree) (w : Walked) → join_value i k name (bare_value o) (bare_walked w) ≡ bare_walked (join_value i k name o w)
unfolding bare_value
join_value-bare i k name None w = refl
join_value-bare i k name (Some t) w = join-bare i k name t w

named-bare : (i k : ℕ) (list : List NamedConnection) (w : Walked) → fold (join_named i k) (bare_walked w) (map bare_connection list) ≡ bare_walked (fold (join_named i k) w list)
unfolding bare_connection
named-bare i k [] w = refl
named-bare i k (x ∷ xs) w = ap (λ (v : Walked). fold (join_named i k) v (map bare_connection xs)) (join_value-bare i k x.text x.value w) ∙ named-bare i k xs (join_named i k w x)

positions-bare : (i k : ℕ) (left : List Text) (ts : Trees) (w : Walked) → join_positions i k left (bare_parts ts) (bare_walked w) ≡ bare_walked (join_positions i k left ts w)
unfolding join_positions bare
positions-bare i k left End w = refl
positions-bare i k [] (More t ts) w = refl
positions-bare i k (p ∷ ps) (More t ts) w = ap (λ (v : Walked). join_positions i k ps (bare_parts ts) v) (join-bare i k p t w) ∙ positions-bare i k ps ts (join i k p t w)

joined-bare : (i k : ℕ) (m : ModuleDeclaration) (c : Connections) (w : Walked) → joined i k (bare_module m) (bare_connections c) (bare_walked w) ≡ bare_walked (joined i k m c w)
unfolding joined bare_connections
joined-bare i k m (Positions ts) w = ap (λ (left : List Text). join_positions i k left (bare_parts ts) (bare_walked w)) (port_names-bare m) ∙ positions-bare i k (port_names m) ts w
joined-bare i k m (Named list) w = named-bare i k list w

-- instances

starts-bare : (ss : List Signal) → map (λ (s : Signal). s.start) (map bare_signal ss) ≡ map (λ s. s.start) ss
starts-bare [] = refl
starts-bare (s ∷ ss) = ap (λ (ns : List ℕ). s.start ∷ ns) (starts-bare ss)

abbrev pub EnterBare : Enter → Enter → Type 0
EnterBare sub other = (k : ℕ) (given : Names) (w : Walked) → Barely bare_walked (sub k given w) (other k given (bare_walked w))

module _ (source : List ModuleDeclaration) where
  instance_bare : (above : List ℕ) (i : ℕ) (sub other : Enter) → EnterBare sub other → (at : ℕ) (over : Option Connections) (o : Option ℕ) (x : ModuleInstance) (w : Walked)
      → Barely bare_walked (instance_of source above i sub at over o x w) (instance_of (map bare_module source) above i other 0 (bare_overrides over) o (bare_instance x) (bare_walked w))
  unfolding instance_of bare_instance bare_flat
  instance_bare above i sub other h at over None x w = (UnknownModule 0, refl)
  instance_bare above i sub other h at over (Some k) x w =
      rw (module_at-bare source k)
      (then_bare (λ (n : Names). n) bare_walked (checked (loops_at w i) above (scope_at w i) (module_at source k) k at over x) (checked (loops_at w i) above (scope_at w i) (bare_module (module_at source k)) k 0 (bare_overrides over) (bare_instance x))
      (λ given. and_then (sub k given (with_instance i x.text w)) (λ (u : Walked). Ok (joined i (length w.flat.scopes) (module_at source k) x.connections u)))
      (λ given. and_then (other k given (with_instance i x.text (bare_walked w))) (λ (u : Walked). Ok (joined i (length w.flat.scopes) (bare_module (module_at source k)) (bare_connections x.connections) u)))
      (checked_bare (loops_at w i) above (scope_at w i) (module_at source k) k at over x)
      (λ given. then_bare bare_walked bare_walked (sub k given (with_instance i x.text w)) (other k given (with_instance i x.text (bare_walked w)))
      (λ (u : Walked). Ok (joined i (length w.flat.scopes) (module_at source k) x.connections u))
      (λ (u : Walked). Ok (joined i (length w.flat.scopes) (bare_module (module_at source k)) (bare_connections x.connections) u))
      (h k given (with_instance i x.text w)) (λ u. ap (λ (v : Walked). Ok v) (joined-bare i (length w.flat.scopes) (module_at source k) x.connections u))))

  item_bare : (table : Names) (above : List ℕ) (i : ℕ) (sub other : Enter) → EnterBare sub other → (x : ModuleItem) (w : Walked)
      → Barely bare_walked (item source table above i sub x w) (item (map bare_module source) table above i other (bare_item x) (bare_walked w))
  unfolding item bare_item
  item_bare table above i sub other h (Ports p) w = refl
  item_bare table above i sub other h (Nets signed range list) w = each_bare bare_declarator bare_walked (net i) (net i) (net_bare i) list w
  item_bare table above i sub other h (Variables signed range list) w = refl
  item_bare table above i sub other h (Integers list) w = refl
  item_bare table above i sub other h (Parameters p) w = refl
  item_bare table above i sub other h (Assigns pairs) w = each_bare bare_pair bare_walked (assign i) (assign i) (assign_bare i) pairs w
  item_bare table above i sub other h (Always events t at) w = always_bare i events t at w
  item_bare table above i sub other h (Initial t at) w = initial_bare i t at w
  item_bare table above i sub other h (Instances m at over list) w =
      each_bare bare_instance bare_walked (instance_of source above i sub at over (place_of (lookup m table))) (instance_of (map bare_module source) above i other 0 (bare_overrides over) (place_of (lookup m table)))
      (instance_bare above i sub other h at over (place_of (lookup m table))) list w

  opened-bare : (k : ℕ) (h : Head) (names : LoopNames) (w : Walked) → opened k (bare_head h) names (bare_walked w) ≡ bare_walked (opened k h names w)
  unfolding bare_flat
  opened-bare k h names w =
      ap₂ (λ (ss : List Signal) (ns : List ℕ). record w {
        flat = record (bare_flat w.flat) { signals = ss; starts = w.flat.starts ++ ns; scopes = w.flat.scopes ++ h.scope ∷ []; owners = w.flat.owners ++ k ∷ [] };
        bits = h.bits;
        loops = w.loops ++ names ∷ [];
      })
      (sym (map-append bare_signal w.flat.signals h.signals)) (starts-bare h.signals)

  begin_bare : EnterBare (begin source) (begin (map bare_module source))
  unfolding begin bare_flat
  begin_bare k given w =
      let m : ModuleDeclaration = module_at source k in
      let room : List FlatFault = fault_if (not (nat_lt (length w.flat.scopes) 256)) (TooMany InstanceCount 257) in
      rw (module_at-bare source k)
      (then_bare bare_walked bare_walked (first_fault_or room w) (first_fault_or room (bare_walked w))
      (λ (u : Walked). and_then (head (length u.flat.scopes) (length u.flat.signals) u.bits given (module_at source k)) (λ (h : Head). Ok (opened k h (loop_names m) u)))
      (λ (u : Walked). and_then (head (length u.flat.scopes) (length u.flat.signals) u.bits given (bare_module (module_at source k))) (λ (h : Head). Ok (opened k h (loop_names (bare_module m)) u)))
      (settle_bare bare_walked room room w (bare_walked w) (nil_if (not (nat_lt (length w.flat.scopes) 256)) (TooMany InstanceCount 257) (TooMany InstanceCount 257)) refl)
      (λ u. rw (length-map u.flat.signals bare_signal)
      (then_bare bare_head bare_walked (head (length u.flat.scopes) (length u.flat.signals) u.bits given (module_at source k)) (head (length u.flat.scopes) (length u.flat.signals) u.bits given (bare_module (module_at source k)))
      (λ (h : Head). Ok (opened k h (loop_names m) u)) (λ (h : Head). Ok (opened k h (loop_names (bare_module m)) (bare_walked u)))
      (head_bare (length u.flat.scopes) (length u.flat.signals) u.bits given (module_at source k)) (λ h. ap (λ (v : Walked). Ok v)
      (ap (λ (names : LoopNames). opened k (bare_head h) names (bare_walked u)) (loop_names-bare m) ∙ opened-bare k h (loop_names m) u)))))

  enter_bare : (table : Names) (levels : ℕ) (above : List ℕ) → EnterBare (enter source table levels above) (enter (map bare_module source) table levels above)
  unfolding enter enter_by bare_flat bare_module
  enter_bare table zero above k given w = (TooMany Depth 17, refl)
  enter_bare table (suc n) above k given w =
      let deeper : List ℕ = above ++ k ∷ [] in
      let step : ModuleItem → Walked → Result Walked FlatFault = item source table deeper (length w.flat.scopes) (enter source table n deeper) in
      let other : ModuleItem → Walked → Result Walked FlatFault = item (map bare_module source) table deeper (length w.flat.scopes) (enter (map bare_module source) table n deeper) in
      then_bare bare_walked bare_walked (begin source k given w) (begin (map bare_module source) k given (bare_walked w)) (each step (module_at source k).items) (each other (module_at (map bare_module source) k).items)
      (begin_bare k given w)
      (λ u. rw (module_at-bare source k)
      (each_bare bare_item bare_walked step other (item_bare table deeper (length w.flat.scopes) (enter source table n deeper) (enter (map bare_module source) table n deeper) (enter_bare table n deeper)) (module_at source k).items u))

  top_bare : (limit : Option ℕ) (table : Names) (o : Option ℕ) → Barely bare_walked (enter_top limit source table o) (enter_top limit (map bare_module source) table o)
  unfolding bare_flat bare_module
  top_bare limit table None = (NoTop, refl)
  top_bare limit table (Some k) = rw (module_at-bare source k) (enter_bare table 16 [] k [] (nothing limit (module_at source k).token))

  finished-bare : (f : Flat) → finished (map bare_module source) (bare_flat f) ≡ bare_flat (finished source f)
  unfolding bare_flat
  finished-bare f =
      ap₂ (λ (inputs outputs : List ℕ). record (bare_flat f) { inputs = inputs; outputs = outputs; reached = reached_from f.owners 0 (map bare_module source) }) (top_ports-bare true 0 f.signals) (top_ports-bare false 0 f.signals)
      ∙ ap (λ (reached : List ℕ). record (bare_flat f) { inputs = top_ports true 0 f.signals; outputs = top_ports false 0 f.signals; reached = reached }) (reached-bare f.owners 0 source)

pub design_bare : (limit : Option ℕ) (source : SourceText) (top : Option Text) → Barely bare_flat (flat_by limit source top) (flat_by limit (bare_source source) top)
unfolding flat_by bare_source
design_bare limit source top =
    let new : List ModuleDeclaration = map bare_module source.modules in
    then_bare (λ (n : Names). n) bare_flat (each add_module source.modules []) (each add_module new [])
    (λ table. and_then (enter_top limit source.modules table (top_place source.modules table top)) (λ w. Ok (finished source.modules w.flat)))
    (λ table. and_then (enter_top limit new table (top_place new table top)) (λ w. Ok (finished new w.flat)))
    (table_bare source.modules [])
    (λ table. rw (top_place-bare source.modules table top)
    (then_bare bare_walked bare_flat (enter_top limit source.modules table (top_place source.modules table top)) (enter_top limit new table (top_place source.modules table top))
    (λ w. Ok (finished source.modules w.flat)) (λ w. Ok (finished new w.flat))
    (top_bare source.modules limit table (top_place source.modules table top)) (λ w. ap (λ (f : Flat). Ok f) (finished-bare source.modules w.flat))))
