-- Overrides and connections by position.
use Rattle.std.proofs.Common.{◌≡◌, ◌∙◌, ap, ℕ, ◌+◌, ◌<◌, ◌≤◌, Bool, true, not, List, [], ◌∷◌, length, drop, get_or, Option, Some, refl, arith}
use Rattle.std.proofs.lemmas.List.{drop_all, get_or-map, length-map}
use Rattle.rr_syntax.specs.Tree.{Tree}
use Rattle.rr_syntax.specs.View.{plain, plain_list, texts}
use Rattle.rr_syntax.specs.declared.tree.Expr.{Expr}
use Rattle.rr_expr.specs.Scopes.{Names}
use Rattle.rr_expr.specs.Faults.{first}
use Rattle.rr_flat.specs.Faults.{faults_in, fault_if}
use Rattle.rr_declarations.specs.Values.{constant}
use Rattle.rr_flat.specs.declared.fault.FlatFault.{FlatFault}
use Rattle.rr_flat.specs.declared.fault.FlatFault.TheVariants.{PortMismatch}
use Rattle.rr_flat.proofs.Lists.{rest}
use Rattle.rr_loop_rules.specs.Rules.{LoopNames}
use Rattle.rr_flatten.specs.Walk.{fold_trees, noted, expression_faults, with_override, Checked, check_position, check_port}
use denote.Ref.{Bor}

pub trees_more : {S : Type 0} (step : S → Tree → S) (s : S) (xs : List Expr) (i : ℕ) (x : Expr) → i < length xs → x ≡ get_or xs i x
    → fold_trees step (step s (plain x)) (plain_list (drop (i + 1) xs)) ≡ fold_trees step s (plain_list (drop i xs))
unfolding fold_trees plain_list
trees_more step s xs i x lt is = rw (rest xs i x lt, ← is) refl

pub trees_done : {S : Type 0} (step : S → Tree → S) (s : S) (xs : List Expr) (i : ℕ) → length xs ≤ i → fold_trees step s (plain_list (drop i xs)) ≡ s
unfolding fold_trees plain_list
trees_done step s xs i le = rw (drop_all i xs le) refl

pub texts_here : (ys : List (Bor (List ℕ))) (i : ℕ) (d : Bor (List ℕ)) → i < length ys → drop i (texts ys) ≡ (get_or ys i d).now ∷ drop (i + 1) (texts ys)
texts_here ys i d lt =
    let n : i < length (texts ys) = simp length-map lt in
    rest (texts ys) i [] n ∙ ap (λ t. t ∷ drop (i + 1) (texts ys)) (get_or-map (λ n. n.now) ys i d [] lt)

pub texts_past : (ys : List (Bor (List ℕ))) (i : ℕ) → length ys ≤ i → drop i (texts ys) ≡ []
texts_past ys i le = let n : length (texts ys) ≤ i = simp length-map le in drop_all i (texts ys) n

pub position_there : (names : Names) (free : List (Bor (List ℕ))) (place : ℕ) (d : Bor (List ℕ)) (over : Bool) (c next : Checked) (t : Tree) → place < length free
    → next ≡ with_override names (get_or free place d).now c (Some t)
    → record { left = drop (place + 1) (texts free); over = over; checked = next } ≡ check_position names (record { left = drop place (texts free); over = over; checked = c }) t
unfolding check_position
position_there names free place d over c next t lt e = rw (texts_here free place d lt, e) refl

pub position_past : (names : Names) (free : List (Bor (List ℕ))) (place : ℕ) (over : Bool) (c next : Checked) (t : Tree) → length free ≤ place
    → next ≡ record c { found = noted (noted c.found (faults_in (constant names t))) (fault_if (not over) (PortMismatch (first t))) }
    → record { left = drop (place + 1) (texts free); over = true; checked = next } ≡ check_position names (record { left = drop place (texts free); over = over; checked = c }) t
unfolding check_position
position_past names free place over c next t le e = rw (texts_past free place le, texts_past free (place + 1) (omega arith), e) refl

pub port_there : (loops : LoopNames) (names : Names) (ports : List (Bor (List ℕ))) (place : ℕ) (over : Bool) (found next : Option FlatFault) (t : Tree) → place < length ports
    → next ≡ noted found (expression_faults loops names t)
    → record { left = drop (place + 1) (texts ports); over = over; found = next } ≡ check_port loops names (record { left = drop place (texts ports); over = over; found = found }) t
unfolding check_port
port_there loops names ports place over found next t lt e =
    let n : place < length (texts ports) = simp length-map lt in
    rw (rest (texts ports) place [] n, e) refl

pub port_past : (loops : LoopNames) (names : Names) (ports : List (Bor (List ℕ))) (place : ℕ) (over : Bool) (found next : Option FlatFault) (t : Tree) → length ports ≤ place
    → next ≡ noted (noted found (expression_faults loops names t)) (fault_if (not over) (PortMismatch (first t)))
    → record { left = drop (place + 1) (texts ports); over = true; found = next } ≡ check_port loops names (record { left = drop place (texts ports); over = over; found = found }) t
unfolding check_port
port_past loops names ports place over found next t le e = rw (texts_past ports place le, texts_past ports (place + 1) (omega arith), e) refl
