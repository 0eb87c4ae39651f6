-- labels on wires
use Rattle.std.proofs.Common.{◌≡◌, ◌∙◌, sym, ap, refl, ℕ, suc, ◌+◌, ◌<◌, ◌≤◌, Bool, true, false, cond, not, ◌||◌, List, ◌∷◌, length, drop, drop-cons, get_or, arith}
use mathlib.Core.Path.{fun_ext}
use Rattle.std.proofs.lemmas.List.{drop_all}
use Rattle.rr_circuit.specs.Values.{xor}
use Rattle.rr_bits.specs.Words.{both, one_of, inverted, is_zero, tabulate}
use Rattle.rr_word_gates.specs.declared.words.Connective.TheVariants.{And, Or, Xor}
use Rattle.rr_word_gates.specs.Gates.{bitwise, of_all}
use Rattle.rr_syntax.specs.declared.tree.Expr.{Expr}
use Rattle.rr_syntax.specs.Tree.{Trees, More}
use Rattle.rr_syntax.specs.View.{plain, plain_list}
use Rattle.rr_expr.specs.declared.types.Shape.{Shape}
use Rattle.rr_expr.specs.Scopes.{Names}
use Rattle.rr_expr.specs.Values.{value}
use Rattle.rr_choice.specs.declared.pick.Pick.{Pick}
use Rattle.rr_instance.specs.Instances.{instance_parts, instance_tree}
use Rattle.rr_choice.specs.Sites.{Site}
use Rattle.rr_cycle.specs.Exec.{Environment, is_equal, is_matched, wild}

twice : (x : Bool) → not (not x) ≡ x
twice true = refl
twice false = refl

-- where two words are apart
apart_is : (xs ys : List Bool) → bitwise Xor xs ys ≡ one_of xs ys
apart_is xs ys = ap (tabulate (length xs)) (fun_ext (λ (i : ℕ). turned (get_or xs i false) (get_or ys i false)))
  where
    turned : (x y : Bool) → xor x y ≡ cond y (not x) x
    turned true true = refl
    turned true false = refl
    turned false true = refl
    turned false false = refl

-- no place that is not wild is among them
pub equal_is : (wilds xs ys : List Bool) → not (of_all Or (bitwise And (bitwise Xor xs ys) (inverted wilds))) ≡ is_equal wilds xs ys
equal_is wilds xs ys = twice (is_zero (bitwise And (bitwise Xor xs ys) (inverted wilds))) ∙ ap (λ (zs : List Bool). is_zero (both zs (inverted wilds))) (apart_is xs ys)

-- the labels that are left

or_false : (x : Bool) → (x || false) ≡ x
or_false true = refl
or_false false = refl

labels_cons : (ss : List Site) (ps : List Pick) (xs : List Expr) (i : ℕ) (x : Expr) → i < length xs → x ≡ get_or xs i x →
    instance_parts ss ps (plain_list (drop i xs)) ≡ More (instance_tree ss ps (plain x)) (instance_parts ss ps (plain_list (drop (i + 1) xs)))
unfolding plain_list instance_tree
labels_cons ss ps xs i x l q =
    let s : suc i ≡ i + 1 = omega arith in
    ap (λ (ys : List Expr). instance_parts ss ps (plain_list ys)) (drop-cons xs i x l ∙ ap (λ (y : Expr). y ∷ drop (suc i) xs) (sym q))
    ∙ ap (λ (k : ℕ). More (instance_tree ss ps (plain x)) (instance_parts ss ps (plain_list (drop k xs)))) s

pub match_more : (s : Names) (kind : ℕ) (a : Shape) (v : List Bool) (ss : List Site) (ps : List Pick) (xs : List Expr) (i : ℕ) (x : Expr) (e : Environment) (old here new f : Bool) → i < length xs → x ≡ get_or xs i x →
    here ≡ is_equal (wild kind (instance_tree ss ps (plain x)) a.width) v (value s (instance_tree ss ps (plain x)) e a.width a.signed) → new ≡ (old || here) →
    (old || is_matched s kind a v (instance_parts ss ps (plain_list (drop i xs))) e) ≡ f → (new || is_matched s kind a v (instance_parts ss ps (plain_list (drop (i + 1) xs))) e) ≡ f
unfolding is_matched
match_more s kind a v ss ps xs i x e old here new f l q h z g =
    ap (λ (b : Bool). b || is_matched s kind a v (instance_parts ss ps (plain_list (drop (i + 1) xs))) e) z
    ∙ or_assoc old here (is_matched s kind a v (instance_parts ss ps (plain_list (drop (i + 1) xs))) e)
    ∙ ap (λ (b : Bool). old || (b || is_matched s kind a v (instance_parts ss ps (plain_list (drop (i + 1) xs))) e)) h
    ∙ ap (λ (ts : Trees). old || is_matched s kind a v ts e) (sym (labels_cons ss ps xs i x l q)) ∙ g
  where
    or_assoc : (x y z : Bool) → ((x || y) || z) ≡ (x || (y || z))
    or_assoc true y z = refl
    or_assoc false y z = refl

pub match_done : (s : Names) (kind : ℕ) (a : Shape) (v : List Bool) (ss : List Site) (ps : List Pick) (xs : List Expr) (i : ℕ) (e : Environment) (old f : Bool) → length xs ≤ i →
    (old || is_matched s kind a v (instance_parts ss ps (plain_list (drop i xs))) e) ≡ f → old ≡ f
unfolding plain_list instance_tree is_matched
match_done s kind a v ss ps xs i e old f l g = sym (or_false old) ∙ ap (λ (ys : List Expr). old || is_matched s kind a v (instance_parts ss ps (plain_list ys)) e) (sym (drop_all i xs l)) ∙ g
