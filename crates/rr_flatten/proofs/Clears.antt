-- Where no fault was found, none is there.
use Rattle.std.proofs.Common.{◌≡◌, ◌∙◌, sym, List, [], ◌∷◌, Option, Some, None, fold, subst, is_none, not}
use Rattle.std.specs.List.{AllByRecursion}
use Rattle.rr_syntax.specs.Expressions.{WellFormed, WellFormedMore, FitLiterals, FitLiteralsParts}
use Rattle.rr_syntax.specs.Items.{WellFormedValue, FitLiteralsValue, WellFormedConnection, FitLiteralsConnection, WellFormedConnections, FitLiteralsConnections}
use Rattle.rr_syntax.specs.Tree.{Tree, Trees, End, More, NamedConnection, Connections, Positions, ModuleDeclaration}
use Rattle.rr_syntax.specs.Tree.{Names as Named}
use Rattle.rr_expr.specs.Scopes.{Names, lookup}
use Rattle.rr_expr.specs.Faults.{first}
use Rattle.rr_flat.specs.Faults.{fault_if}
use Rattle.rr_flat.specs.Signals.{Text}
use Rattle.rr_flat.specs.declared.fault.FlatFault.{FlatFault}
use Rattle.rr_flat.specs.declared.fault.FlatFault.TheVariants.{PortMismatch}
use Rattle.rr_flat.specs.Sound.{IsExpression, AreExpressions, IsValue, IsConnection, AreConnected}
use Rattle.rr_flat.proofs.Shaping.{clear}
use Rattle.rr_loop_rules.specs.Rules.{LoopNames, strays}
use Rattle.rr_starts.proofs.Shaped.{none_of_two}
use Rattle.rr_declarations.proofs.Firsts.{none_before, none_here}
use Rattle.rr_flatten.specs.Tables.{port_names, name_set}
use Rattle.rr_flat.specs.Shapes.{shape_faults}
use Rattle.rr_flatten.specs.Walk.{expression_faults, value_faults, noted, twice_faults, fold_trees, Joining, place_port, check_port, Connected, check_connection, connections}

-- an expression without faults has a shape

pub expression_clear : (names : Names) (t : Tree) → WellFormed t → FitLiterals t → shape_faults names t ≡ [] → IsExpression names t
expression_clear names t w f e = record { formed = w; fit = f; shaped = clear names t e }

shape_here : (loops : LoopNames) (names : Names) (t : Tree) → expression_faults loops names t ≡ [] → shape_faults names t ≡ []
shape_here loops names t e = (none_of_two (strays loops [] t) (shape_faults names t) e).1

text_clear : (loops : LoopNames) (names : Names) (t : Tree) → WellFormed t → FitLiterals t → expression_faults loops names t ≡ [] → IsExpression names t
text_clear loops names t w f e = expression_clear names t w f (shape_here loops names t e)

-- and so have all that are connected, where the connections have no fault

value_clear : (loops : LoopNames) (names : Names) (v : Option Tree) → WellFormedValue v → FitLiteralsValue v → value_faults loops names v ≡ [] → IsValue names v
unfolding WellFormedValue FitLiteralsValue
value_clear loops names None w f e = tt
value_clear loops names (Some t) w f e = text_clear loops names t w f e

named_before : (loops : LoopNames) (ports names : Names) (cs : List NamedConnection) (c : Connected) → (fold (check_connection loops ports names) c cs).found ≡ None → c.found ≡ None
unfolding check_connection
named_before loops ports names [] c e = e
named_before loops ports names (x ∷ cs) c e =
    let h = named_before loops ports names cs (check_connection loops ports names c x) e in
    let i = none_before (noted (noted c.found (fault_if (is_none (lookup x.text ports)) (PortMismatch x.token))) (twice_faults x.token x.text c.seen)) (value_faults loops names x.value) h in
    let j = none_before (noted c.found (fault_if (is_none (lookup x.text ports)) (PortMismatch x.token))) (twice_faults x.token x.text c.seen) i in
    none_before c.found (fault_if (is_none (lookup x.text ports)) (PortMismatch x.token)) j

named_clear : (loops : LoopNames) (ports names : Names) (cs : List NamedConnection) (c : Connected) → AllByRecursion WellFormedConnection cs → AllByRecursion FitLiteralsConnection cs
    → (fold (check_connection loops ports names) c cs).found ≡ None → AllByRecursion (IsConnection names) cs
unfolding check_connection WellFormedConnection FitLiteralsConnection
named_clear loops ports names [] c w f e = tt
named_clear loops ports names (x ∷ cs) c w f e =
    let h = named_before loops ports names cs (check_connection loops ports names c x) e in
    let i = none_here (noted (noted c.found (fault_if (is_none (lookup x.text ports)) (PortMismatch x.token))) (twice_faults x.token x.text c.seen)) (value_faults loops names x.value) h in
    (value_clear loops names x.value w.0 f.0 i, named_clear loops ports names cs (check_connection loops ports names c x) w.1 f.1 e)

port_before : (loops : LoopNames) (names : Names) (j : Joining) (t : Tree) → (check_port loops names j t).found ≡ None → (j.found ≡ None) × (expression_faults loops names t ≡ [])
unfolding check_port
port_before loops names j t e = go j.left e
  where
    go : (left : List Text) → (place_port loops names left j t).found ≡ None → (j.found ≡ None) × (expression_faults loops names t ≡ [])
    go [] h =
        let i = none_before (noted j.found (expression_faults loops names t)) (fault_if (not j.over) (PortMismatch (first t))) h in
        (none_before j.found (expression_faults loops names t) i, none_here j.found (expression_faults loops names t) i)
    go (n ∷ ns) h = (none_before j.found (expression_faults loops names t) h, none_here j.found (expression_faults loops names t) h)

ports_before : (loops : LoopNames) (names : Names) (ts : Trees) (j : Joining) → (fold_trees (check_port loops names) j ts).found ≡ None → j.found ≡ None
unfolding fold_trees
ports_before loops names End j e = e
ports_before loops names (More t ts) j e = (port_before loops names j t (ports_before loops names ts (check_port loops names j t) e)).0

ports_clear : (loops : LoopNames) (names : Names) (ts : Trees) (j : Joining) → WellFormedMore ts → FitLiteralsParts ts → (fold_trees (check_port loops names) j ts).found ≡ None → AreExpressions names ts
unfolding fold_trees AreExpressions WellFormedMore FitLiteralsParts
ports_clear loops names End j w f e = tt
ports_clear loops names (More t ts) j w f e =
    let h = port_before loops names j t (ports_before loops names ts (check_port loops names j t) e) in
    (text_clear loops names t w.0 f.0 h.1, ports_clear loops names ts (check_port loops names j t) w.1 f.1 e)

pub connections_clear : (loops : LoopNames) (m : ModuleDeclaration) (names : Names) (found : Option FlatFault) (c : Connections) → WellFormedConnections c → FitLiteralsConnections c → connections loops m names found c ≡ None → AreConnected names c
unfolding connections AreConnected WellFormedConnections FitLiteralsConnections
connections_clear loops m names found (Positions ts) w f e = ports_clear loops names ts _ w f e
connections_clear loops m names found (Named cs) w f e = named_clear loops (name_set (port_names m)) names cs _ w.1 f e

-- what was noted of an expression, and of two

pub one_clear : (loops : LoopNames) (names at : Names) (t : Tree) (found : Option FlatFault) → names ≡ at → WellFormed t → FitLiterals t → found ≡ noted None (expression_faults loops names t) → found ≡ None → IsExpression at t
one_clear loops names at t found n w f a e = subst (λ s. IsExpression s t) n (text_clear loops names t w f (none_here None (expression_faults loops names t) (sym a ∙ e)))

pub two_clear : (loops : LoopNames) (names at : Names) (t v : Tree) (found next : Option FlatFault) → names ≡ at → WellFormed t → FitLiterals t → WellFormed v → FitLiterals v
    → found ≡ noted None (expression_faults loops names t) → next ≡ noted found (expression_faults loops names v) → next ≡ None → IsExpression at t × IsExpression at v
two_clear loops names at t v found next n wt ft wv fv a b e =
    let h : noted found (expression_faults loops names v) ≡ None = sym b ∙ e in (
      one_clear loops names at t found n wt ft a (none_before found (expression_faults loops names v) h),
      subst (λ s. IsExpression s v) n (text_clear loops names v wv fv (none_here found (expression_faults loops names v) h)),
    )
