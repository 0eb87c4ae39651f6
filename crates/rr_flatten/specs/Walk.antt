-- The flat design of a source, or its first fault (IEEE 1364-2005 section 12).
use Rattle.std.specs.Prelude.{ℕ, zero, suc, ◌+◌, Bool, true, false, not, List, [], ◌∷◌, ◌++◌, length, map, fold, Option, Some, None, Result, Ok, Err, option_to_list, is_some, is_none, nat_eq, nat_lt, ◌&&◌, if◌then◌else◌, slice_index_or, slice_set}
use Rattle.std.specs.List.{list_any}
use Rattle.rr_syntax.specs.Tree.{Tree, Trees, End, More, Statement, DeclaredName, NetAssignment, EdgeEvent, EventControl, Star, Edges, Levels, NamedConnection, Connections, Positions, ModuleInstance, ModuleItem, Ports, Nets, Variables, Integers, Parameters, Assigns, Always, Initial, Instances, ModuleDeclaration, SourceText}
use Rattle.rr_syntax.specs.Tree.{Names as Named}
use Rattle.rr_expr.specs.Scopes.{Names, lookup, meant}
use Rattle.rr_expr.specs.Faults.{first}
use Rattle.rr_expr.specs.declared.types.Entity.{Entity}
use Rattle.rr_expr.specs.declared.types.Entity.TheVariants as entity
use Rattle.rr_flat.specs.declared.signal.Port.{Port}
use Rattle.rr_flat.specs.declared.signal.Port.TheVariants.{Inner, Input, Output}
use Rattle.rr_flat.specs.declared.fault.Limit.TheVariants.{Instances as InstanceCount, Depth}
use Rattle.rr_flat.specs.declared.fault.FlatFault.{FlatFault}
use Rattle.rr_flat.specs.declared.fault.FlatFault.TheVariants.{NoTop, UnknownModule, SelfInstance, NameTwice, UnknownName, PortMismatch, TooMany}
use Rattle.rr_flat.specs.Faults.{sooner, earliest_of, faults_in, fault_if, fault_or, first_fault_or, and_then, each}
use Rattle.rr_loop_rules.specs.Rules.{LoopNames, loop_names, stray, strays, part_strays, loop_faults}
use Rattle.rr_unfold.specs.Unfold.{Count, no_turns, counted, unfold_statement}
use Rattle.rr_starts.specs.Starts.{initial_faults, started}
use Rattle.rr_declarations.specs.Values.{constant}
use Rattle.rr_flat.specs.Signals.{with_name}
use Rattle.rr_flat.specs.Shapes.{shape_faults, list_faults, statement_faults}
use Rattle.rr_declarations.specs.Heads.{Head, head}
use Rattle.rr_flat.specs.Signals.{Text, Signal, signal_at}
use Rattle.rr_flat.specs.Plain as plain_design
use Rattle.rr_flat.specs.Plain.{Side, Written, Whole, Flat, no_design}
use Rattle.rr_flat.specs.declared.design.Part.TheVariants as part
use Rattle.rr_flatten.specs.Tables.{place_of, add_module, instantiated_by, last_free, parameter_table, open_names, port_names, name_set, at_place}

-- the design so far, and its flat bits; how many tokens the bodies of loops may have in all their turns, if there is such a
-- limit, and the turns and tokens so far; and the names of the loops of each instance
pub record Walked : Type 0 where
  pub flat : Flat
  pub bits : ℕ
  pub limit : Option ℕ
  pub count : Count
  pub loops : List LoopNames

abbrev pub scope_at : Walked → ℕ → Names
scope_at w i = slice_index_or w.flat.scopes i []

abbrev pub loops_at : Walked → ℕ → LoopNames
loops_at w i = slice_index_or w.loops i []

-- Event controls

-- a name that is declared, and is no instance
abbrev pub is_useless : Entity → Bool
is_useless (entity.Constant bits signed) = false
is_useless (entity.Signal id range signed) = false
is_useless (entity.Memory first low words range signed) = false
is_useless entity.Instance = true

-- the name of a loop stands in loops only
abbrev pub edge_faults : LoopNames → Names → EdgeEvent → List FlatFault
edge_faults loops names e = stray loops [] e.token e.text ++ fault_if (is_useless (meant names e.text)) (UnknownName e.token)

unfoldable pub edges_faults : LoopNames → Names → List EdgeEvent → List FlatFault
edges_faults loops names [] = []
edges_faults loops names (e ∷ es) = edge_faults loops names e ++ edges_faults loops names es

unfoldable pub event_faults : LoopNames → Names → EventControl → List FlatFault
event_faults loops names (Star brackets) = []
event_faults loops names (Edges list commas) = edges_faults loops names list
event_faults loops names (Levels list commas) = part_strays loops [] list ++ list_faults names list

-- Drivers and blocks

abbrev pub with_driver : Side → Side → ℕ → Walked → Walked
with_driver target value at w = record w {
  flat = record w.flat {
    drivers = w.flat.drivers ++ (record { target = target; value = value; token = at }) ∷ [];
    walk = w.flat.walk ++ part.Driver (length w.flat.drivers) ∷ [];
  };
}

-- the faults of an expression that stands in no loop
abbrev pub expression_faults : LoopNames → Names → Tree → List FlatFault
expression_faults loops names t = strays loops [] t ++ shape_faults names t

-- a continuous assignment
unfoldable pub assign : ℕ → NetAssignment → Walked → Result Walked FlatFault
assign i p w =
    first_fault_or (expression_faults (loops_at w i) (scope_at w i) p.target ++ expression_faults (loops_at w i) (scope_at w i) p.value)
    (with_driver (Written p.target i) (Written p.value i) (first p.target) w)

-- to the net of that number
abbrev pub net_driver : ℕ → ℕ → Tree → Option ℕ → Walked → Walked
net_driver i at t None w = w
net_driver i at t (Some id) w = with_driver (Whole id) (Written t i) at w

unfoldable pub net_value : ℕ → ℕ → Text → Tree → Walked → Result Walked FlatFault
net_value i at name t w = first_fault_or (expression_faults (loops_at w i) (scope_at w i) t) (net_driver i at t (place_of (lookup name (scope_at w i))) w)

abbrev pub net_with : ℕ → ℕ → Text → Option Tree → Walked → Result Walked FlatFault
net_with i at name None w = Ok w
net_with i at name (Some t) w = net_value i at name t w

-- a net declaration with a value
unfoldable pub net : ℕ → DeclaredName → Walked → Result Walked FlatFault
net i n w = net_with i n.token n.text n.value w

-- a block that runs where a value changes (section 9.9.2), or at an edge
abbrev pub combined : plain_design.Block → Walked → Walked
combined b w = record w {
  flat = record w.flat {
    combinational = w.flat.combinational ++ b ∷ [];
    walk = w.flat.walk ++ part.Combinational (length w.flat.combinational) ∷ [];
  };
}

abbrev pub clocked : plain_design.Block → Walked → Walked
clocked b w = record w {
  flat = record w.flat {
    clocked = w.flat.clocked ++ b ∷ [];
    walk = w.flat.walk ++ part.Clocked (length w.flat.clocked) ∷ [];
  };
}

abbrev pub with_block : ℕ → EventControl → Statement → ℕ → Walked → Walked
with_block i (Star brackets) s at w = combined (record { body = s; edges = []; scope = i; token = at }) w
with_block i (Edges list commas) s at w = clocked (record { body = s; edges = list; scope = i; token = at }) w
with_block i (Levels list commas) s at w = combined (record { body = s; edges = []; scope = i; token = at }) w

-- loops are unfolded first (section 9.6): their turns are counted, and the body of the block is the unfolded statement; of two of
-- its faults at one token the one of the earlier turn counts
unfoldable pub always : ℕ → EventControl → Statement → ℕ → Walked → Result Walked FlatFault
always i events s at w =
    and_then (counted w.limit (loops_at w i) (scope_at w i) [] s w.count) (λ c.
    first_fault_or (loop_faults (loops_at w i) [] s ++ (event_faults (loops_at w i) (scope_at w i) events ++ option_to_list (earliest_of (statement_faults (scope_at w i) (unfold_statement (scope_at w i) [] s)))))
    (with_block i events (unfold_statement (scope_at w i) [] s) at (record w { count = c })))

-- an `initial` item, which sets starting values (section 9.9.1)
abbrev pub with_initial : ℕ → Statement → ℕ → Walked → Walked
with_initial i s at w = record w {
  flat = record w.flat {
    starts = started (scope_at w i) s w.flat.starts;
    initials = w.flat.initials ++ (record { body = s; scope = i; token = at }) ∷ [];
    walk = w.flat.walk ++ part.Initial (length w.flat.initials) ∷ [];
  };
}

unfoldable pub initial : ℕ → Statement → ℕ → Walked → Result Walked FlatFault
initial i s at w =
    and_then (counted w.limit (loops_at w i) (scope_at w i) [] s w.count) (λ c.
    first_fault_or (loop_faults (loops_at w i) [] s ++ option_to_list (earliest_of (initial_faults (scope_at w i) (unfold_statement (scope_at w i) [] s))))
    (with_initial i (unfold_statement (scope_at w i) [] s) at (record w { count = c })))

-- Overrides

-- the first of a fault that was found, if any, and more
abbrev pub noted : Option FlatFault → List FlatFault → Option FlatFault
noted found faults = fold sooner found faults

-- what was found of a list of settings so far: the first fault, the names that were set, and the values that were given
pub record Checked : Type 0 where
  pub found : Option FlatFault
  pub seen : Names
  pub given : Names

abbrev pub with_value : Names → Text → Result (List Bool × Bool) FlatFault → Names
with_value given name (Ok v) = with_name given name (entity.Constant v.0 v.1)
with_value given name (Err f) = given

-- a name that is no parameter is 11, and a `localparam` 14
abbrev pub parameter_faults : ℕ → Option Entity → List FlatFault
parameter_faults at None = UnknownName at ∷ []
parameter_faults at (Some (entity.Constant bits signed)) = []
parameter_faults at (Some (entity.Signal id range signed)) = fault_if signed (PortMismatch at)
parameter_faults at (Some (entity.Memory first low words range signed)) = []
parameter_faults at (Some entity.Instance) = []

abbrev pub twice_faults : ℕ → Text → Names → List FlatFault
twice_faults at name seen = fault_if (is_some (lookup name seen)) (PortMismatch at)

abbrev pub with_override : Names → Text → Checked → Option Tree → Checked
with_override names name c None = c
with_override names name c (Some t) = record c { found = noted c.found (faults_in (constant names t)); given = with_value c.given name (constant names t) }

-- an override by name, in the parent's scope; without a value the parameter keeps its own
unfoldable pub check_override : Names → Names → Checked → NamedConnection → Checked
check_override table names c n =
    with_override names n.text
    (record c { found = noted (noted c.found (parameter_faults n.token (lookup n.text table))) (twice_faults n.token n.text c.seen); seen = at_place c.seen n.text 0 })
    n.value

-- one step for each of a list of trees
unfoldable pub fold_trees : {S : Type 0} → (S → Tree → S) → S → Trees → S
fold_trees step s End = s
fold_trees step s (More t ts) = fold_trees step (step s t) ts

-- overrides by position: the parameters that are left, whether there was one too many, and what was found
pub record Placed : Type 0 where
  pub left : List Text
  pub over : Bool
  pub checked : Checked

-- the first one too many is 14
abbrev pub place_override : Names → List Text → Placed → Tree → Placed
place_override names [] p t =
    record p { over = true; checked = record p.checked { found = noted (noted p.checked.found (faults_in (constant names t))) (fault_if (not p.over) (PortMismatch (first t))) } }
place_override names (n ∷ ns) p t = record p { left = ns; checked = with_override names n p.checked (Some t) }

unfoldable pub check_position : Names → Placed → Tree → Placed
check_position names p t = place_override names p.left p t

abbrev pub nothing_checked : Option FlatFault → Checked
nothing_checked found = record { found = found; seen = []; given = [] }

-- where a fault was found already, if any
unfoldable pub overrides : ModuleDeclaration → Names → Option FlatFault → Option Connections → Checked
overrides m names found None = nothing_checked found
overrides m names found (Some (Positions ts)) = (fold_trees (check_position names) (record { left = open_names m; over = false; checked = nothing_checked found }) ts).checked
overrides m names found (Some (Named list)) = fold (check_override (parameter_table m) names) (nothing_checked found) list

-- Connections

abbrev pub value_faults : LoopNames → Names → Option Tree → List FlatFault
value_faults loops names None = []
value_faults loops names (Some t) = expression_faults loops names t

-- what was found of connections so far: the first fault, and the names that were connected
pub record Connected : Type 0 where
  pub found : Option FlatFault
  pub seen : Names

-- a connection by name: 14 is a name that is no port, or is connected twice
unfoldable pub check_connection : LoopNames → Names → Names → Connected → NamedConnection → Connected
check_connection loops ports names c n = record {
  found = noted (noted (noted c.found (fault_if (is_none (lookup n.text ports)) (PortMismatch n.token))) (twice_faults n.token n.text c.seen)) (value_faults loops names n.value);
  seen = at_place c.seen n.text 0;
}

-- connections by position: the ports that are left, whether there was one too many, and the first fault
pub record Joining : Type 0 where
  pub left : List Text
  pub over : Bool
  pub found : Option FlatFault

-- the first one too many is 14
abbrev pub place_port : LoopNames → Names → List Text → Joining → Tree → Joining
place_port loops names [] j t = record j { over = true; found = noted (noted j.found (expression_faults loops names t)) (fault_if (not j.over) (PortMismatch (first t))) }
place_port loops names (n ∷ ns) j t = record j { left = ns; found = noted j.found (expression_faults loops names t) }

unfoldable pub check_port : LoopNames → Names → Joining → Tree → Joining
check_port loops names j t = place_port loops names j.left j t

-- the names of loops are those of the module around
unfoldable pub connections : LoopNames → ModuleDeclaration → Names → Option FlatFault → Connections → Option FlatFault
connections loops m names found (Positions ts) = (fold_trees (check_port loops names) (record { left = port_names m; over = false; found = found }) ts).found
connections loops m names found (Named list) = (fold (check_connection loops (name_set (port_names m)) names) (record { found = found; seen = [] }) list).found

-- from the expression to an input port, from an output port to the expression
abbrev pub join_port : Port → ℕ → ℕ → Tree → Walked → Walked
join_port Inner i id t w = w
join_port Input i id t w = with_driver (Whole id) (Written t i) (first t) w
join_port Output i id t w = with_driver (Written t i) (Whole id) (first t) w

abbrev pub join_at : Option ℕ → ℕ → Tree → Walked → Walked
join_at None i t w = w
join_at (Some id) i t w = join_port (signal_at w.flat.signals id).port i id t w

-- the driver of a connection of instance k, written in instance i
unfoldable pub join : ℕ → ℕ → Text → Tree → Walked → Walked
join i k name t w = join_at (place_of (lookup name (scope_at w k))) i t w

abbrev pub join_value : ℕ → ℕ → Text → Option Tree → Walked → Walked
join_value i k name None w = w
join_value i k name (Some t) w = join i k name t w

abbrev pub join_named : ℕ → ℕ → Walked → NamedConnection → Walked
join_named i k w n = join_value i k n.text n.value w

unfoldable pub join_positions : ℕ → ℕ → List Text → Trees → Walked → Walked
join_positions i k left End w = w
join_positions i k [] (More t ts) w = w
join_positions i k (p ∷ ps) (More t ts) w = join_positions i k ps ts (join i k p t w)

unfoldable pub joined : ℕ → ℕ → ModuleDeclaration → Connections → Walked → Walked
joined i k m (Positions ts) w = join_positions i k (port_names m) ts w
joined i k m (Named list) w = fold (join_named i k) w list

-- Instances

-- the walk of the module with this number, with values for its parameters
abbrev pub Enter : Type 0
Enter = ℕ → Names → Walked → Result Walked FlatFault

abbrev pub no_module : ModuleDeclaration
no_module = record { text = []; token = 0; params = []; header = None; groups = []; items = [] }

abbrev pub module_at : List ModuleDeclaration → ℕ → ModuleDeclaration
module_at source k = slice_index_or source k no_module

-- the values that an instance gives to the parameters of its module, or its first fault; loops are the names of the loops of the
-- module around, above the modules that are being walked, at is the token of the module's name
unfoldable pub checked : LoopNames → List ℕ → Names → ModuleDeclaration → ℕ → ℕ → Option Connections → ModuleInstance → Result Names FlatFault
checked loops above names m k at over x =
    let o = overrides m names (noted None (fault_if (list_any (nat_eq k) above) (SelfInstance at))) over in
    fault_or (connections loops m names (noted o.found (fault_if (is_some (lookup x.text names)) (NameTwice x.token))) x.connections) o.given

-- the name of an instance is in the one name space
abbrev pub with_instance : ℕ → Text → Walked → Walked
with_instance i name w = record w { flat = record w.flat { scopes = slice_set w.flat.scopes i (with_name (scope_at w i) name entity.Instance) } }

unfoldable pub instance_of : List ModuleDeclaration → List ℕ → ℕ → Enter → ℕ → Option Connections → Option ℕ → ModuleInstance → Walked → Result Walked FlatFault
instance_of source above i sub at over None x w = Err (UnknownModule at)
instance_of source above i sub at over (Some k) x w =
    and_then (checked (loops_at w i) above (scope_at w i) (module_at source k) k at over x) (λ given.
    and_then (sub k given (with_instance i x.text w)) (λ inside.
    Ok (joined i (length w.flat.scopes) (module_at source k) x.connections inside)))

-- the items of a module but its declarations, in order
unfoldable pub item : List ModuleDeclaration → Names → List ℕ → ℕ → Enter → ModuleItem → Walked → Result Walked FlatFault
item source table above i sub (Ports p) w = Ok w
item source table above i sub (Nets signed range list) w = each (net i) list w
item source table above i sub (Variables signed range list) w = Ok w
item source table above i sub (Integers list) w = Ok w
item source table above i sub (Parameters p) w = Ok w
item source table above i sub (Assigns pairs) w = each (assign i) pairs w
item source table above i sub (Always events s at) w = always i events s at w
item source table above i sub (Initial s at) w = initial i s at w
item source table above i sub (Instances m at over list) w = each (instance_of source above i sub at over (place_of (lookup m table))) list w

-- the head of an instance of module k, and the names of the loops of the module
abbrev pub opened : ℕ → Head → LoopNames → Walked → Walked
opened k h names w = record w {
  flat = record w.flat {
    signals = w.flat.signals ++ h.signals;
    starts = w.flat.starts ++ map (λ s. s.start) h.signals;
    scopes = w.flat.scopes ++ h.scope ∷ [];
    owners = w.flat.owners ++ k ∷ [];
  };
  bits = h.bits;
  loops = w.loops ++ names ∷ [];
}

-- one more instance: its head
unfoldable pub begin : List ModuleDeclaration → Enter
begin source k given w =
    and_then (first_fault_or (fault_if (not (nat_lt (length w.flat.scopes) 256)) (TooMany InstanceCount 257)) w) (λ w.
    and_then (head (length w.flat.scopes) (length w.flat.signals) w.bits given (module_at source k)) (λ h.
    Ok (opened k h (loop_names (module_at source k)) w)))

-- one more instance, and then the items of its module
unfoldable pub enter_by : List ModuleDeclaration → Names → (List ℕ → Enter) → List ℕ → Enter
enter_by source table sub above k given w =
    and_then (begin source k given w) (λ inside.
    each (item source table (above ++ k ∷ []) (length w.flat.scopes) (sub (above ++ k ∷ []))) (module_at source k).items inside)

-- with so many levels left
unfoldable pub enter : List ModuleDeclaration → Names → ℕ → List ℕ → Enter
enter source table zero above k given w = Err (TooMany Depth 17)
enter source table (suc levels) above k given w = enter_by source table (enter source table levels) above k given w

-- The design

-- no instances, where the name of the top has this token
abbrev pub nothing : Option ℕ → ℕ → Walked
nothing limit at = record { flat = no_design at; bits = 0; limit = limit; count = no_turns; loops = [] }

-- an input or an output of the top
abbrev pub is_way : Bool → Port → Bool
is_way input Inner = false
is_way input Input = input
is_way input Output = not input

abbrev pub is_top_port : Bool → Signal → Bool
is_top_port input s = nat_eq s.instance 0 && is_way input s.port

-- its inputs or outputs by their numbers, where the next signal has number k
unfoldable pub top_ports : Bool → ℕ → List Signal → List ℕ
top_ports input k [] = []
top_ports input k (s ∷ ss) = if is_top_port input s then k ∷ top_ports input (k + 1) ss else top_ports input (k + 1) ss

-- the modules that have an instance, where the next module has number k
unfoldable pub reached_from : List ℕ → ℕ → List ModuleDeclaration → List ℕ
reached_from owners k [] = []
reached_from owners k (m ∷ ms) = if list_any (nat_eq k) owners then k ∷ reached_from owners (k + 1) ms else reached_from owners (k + 1) ms

abbrev pub finished : List ModuleDeclaration → Flat → Flat
finished source f = record f { inputs = top_ports true 0 f.signals; outputs = top_ports false 0 f.signals; reached = reached_from f.owners 0 source }

abbrev pub top_place : List ModuleDeclaration → Names → Option Text → Option ℕ
top_place source table None = last_free (fold instantiated_by [] source) 0 source None
top_place source table (Some name) = place_of (lookup name table)

abbrev pub enter_top : Option ℕ → List ModuleDeclaration → Names → Option ℕ → Result Walked FlatFault
enter_top limit source table None = Err NoTop
enter_top limit source table (Some k) = enter source table 16 [] k [] (nothing limit (module_at source k).token)

-- where the bodies of loops have at most so many tokens in all their turns, if there is such a limit
unfoldable pub flat_by : Option ℕ → SourceText → Option Text → Result Flat FlatFault
flat_by limit source top =
    and_then (each add_module source.modules []) (λ table.
    and_then (enter_top limit source.modules table (top_place source.modules table top)) (λ w.
    Ok (finished source.modules w.flat)))

-- the flat design of a source, whatever its loops unfold to
abbrev pub flat_of : SourceText → Option Text → Result Flat FlatFault
flat_of source top = flat_by None source top
