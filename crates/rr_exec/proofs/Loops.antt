-- loops over statements, arms and labels
use Rattle.std.proofs.Common.{◌≡◌, ◌∙◌, sym, ap, ℕ, zero, suc, ◌+◌, ◌<◌, ◌≤◌, Bool, true, false, List, [], ◌∷◌, ◌++◌, length, drop, drop-cons, get_or, refl, arith, ◌==◌}
use Rattle.std.proofs.lemmas.Bool.{both_ways, eq-eqb, eqb-true}
use Rattle.rr_syntax.specs.declared.tree.Arm.{Arm as Branch}
use Rattle.rr_syntax.specs.declared.tree.Expr.{Expr}
use Rattle.rr_syntax.specs.declared.tree.Stmt.{Stmt}
use Rattle.rr_syntax.specs.Tree.{Tree, Trees, End, More, Arms, NoArms, MoreArms, Case}
use Rattle.rr_syntax.specs.View.{plain, plain_list, plain_statement, plain_statements, plain_arm, plain_arms}
use Rattle.rr_expr.specs.declared.types.Shape.{Shape}
use Rattle.rr_expr.specs.Operators.{joined}
use Rattle.rr_expr.specs.Scopes.{Names}
use Rattle.rr_expr.specs.Values.{form, value}
use Rattle.rr_flat.specs.Latches.{has_labels}
use Rattle.rr_flat.specs.Shapes.{shape_faults, list_faults, statement_faults, statements_faults, arms_faults}
use Rattle.rr_cycle.proofs.Applied.{applied_append}
use Rattle.rr_cycle.specs.Exec.{Environment, Update, applied, case_shape, executed, executed_all, executed_case, executed_default, is_equal, is_matched, joined_all, joined_labels, labels_of, updates, updates_of_all, updates_of_case, updates_of_default, wild}
use Rattle.rr_exec.specs.Work.{AreNarrow, ArmsNarrow}

rest_is : {X : Type 0} (xs : List X) (i : ℕ) (x : X) → i < length xs → x ≡ get_or xs i x → drop i xs ≡ x ∷ drop (i + 1) xs
rest_is xs i x l h =
    let q : suc i ≡ i + 1 = omega arith in
    drop-cons xs i x l ∙ ap (λ y. y ∷ drop (suc i) xs) (sym h) ∙ ap (λ k. x ∷ drop k xs) q

none_left : {X : Type 0} (xs : List X) (i : ℕ) → length xs ≤ i → drop i xs ≡ []
none_left [] zero l = refl
none_left [] (suc i) l = refl
none_left (x ∷ xs) zero l = absurd (omega arith)
none_left (x ∷ xs) (suc i) l = none_left xs i (omega arith)

left_none : {X : Type 0} (xs ys : List X) → xs ++ ys ≡ [] → xs ≡ []
left_none [] ys h = refl
left_none (x ∷ xs) ys h = cc

right_none : {X : Type 0} (xs ys : List X) → xs ++ ys ≡ [] → ys ≡ []
right_none [] ys h = h
right_none (x ∷ xs) ys h = cc

-- Statements

pub run_more : (s : Names) (xs : List Stmt) (i : ℕ) (x : Stmt) (e f : Environment) → i < length xs → x ≡ get_or xs i x → executed_all s (plain_statements (drop i xs)) e ≡ f →
    executed_all s (plain_statements (drop (i + 1) xs)) (executed s (plain_statement x) e) ≡ f
unfolding plain_statements executed
run_more s xs i x e f l q h = rw (rest_is xs i x l q) at h

pub run_done : (s : Names) (xs : List Stmt) (i : ℕ) (e f : Environment) → length xs ≤ i → executed_all s (plain_statements (drop i xs)) e ≡ f → e ≡ f
unfolding plain_statements executed
run_done s xs i e f l h = rw (none_left xs i l) at h

pub left_more : (s : Names) (xs : List Stmt) (i : ℕ) (x : Stmt) (e a b f : Environment) → i < length xs → x ≡ get_or xs i x → applied (updates_of_all s (plain_statements (drop i xs)) e) a ≡ f →
    b ≡ applied (updates s (plain_statement x) e) a → applied (updates_of_all s (plain_statements (drop (i + 1) xs)) (executed s (plain_statement x) e)) b ≡ f
unfolding plain_statements updates
left_more s xs i x e a b f l q h k =
    let n = drop (i + 1) xs in
    let g : applied (updates s (plain_statement x) e ++ updates_of_all s (plain_statements n) (executed s (plain_statement x) e)) a ≡ f = rw (rest_is xs i x l q) at h in
    rw k (sym (applied_append (updates s (plain_statement x) e) (updates_of_all s (plain_statements n) (executed s (plain_statement x) e)) a) ∙ g)

pub left_done : (s : Names) (xs : List Stmt) (i : ℕ) (e a f : Environment) → length xs ≤ i → applied (updates_of_all s (plain_statements (drop i xs)) e) a ≡ f → a ≡ f
unfolding plain_statements updates applied
left_done s xs i e a f l h = rw (none_left xs i l) at h

pub shaped_at : (s : Names) (xs : List Stmt) (i : ℕ) (x : Stmt) → i < length xs → x ≡ get_or xs i x → statements_faults s (plain_statements xs) ≡ [] → statement_faults s (plain_statement x) ≡ []
unfolding plain_statements statement_faults
shaped_at s [] i x l q h = absurd (omega arith)
shaped_at s (y ∷ ys) zero x l q h = ap (λ z. statement_faults s (plain_statement z)) q ∙ left_none (statement_faults s (plain_statement y)) (statements_faults s (plain_statements ys)) h
shaped_at s (y ∷ ys) (suc i) x l q h = shaped_at s ys i x (omega arith) q (right_none (statement_faults s (plain_statement y)) (statements_faults s (plain_statements ys)) h)

-- Labels

pub label_shaped : (s : Names) (xs : List Expr) (i : ℕ) (x : Expr) → i < length xs → x ≡ get_or xs i x → list_faults s (plain_list xs) ≡ [] → shape_faults s (plain x) ≡ []
unfolding plain_list list_faults
label_shaped s [] i x l q h = absurd (omega arith)
label_shaped s (y ∷ ys) zero x l q h = ap (λ z. shape_faults s (plain z)) q ∙ left_none (shape_faults s (plain y)) (list_faults s (plain_list ys)) h
label_shaped s (y ∷ ys) (suc i) x l q h = label_shaped s ys i x (omega arith) q (right_none (shape_faults s (plain y)) (list_faults s (plain_list ys)) h)

pub join_more : (s : Names) (xs : List Expr) (i : ℕ) (x : Expr) (a b : Shape) → i < length xs → x ≡ get_or xs i x → joined_all s a (plain_list (drop i xs)) ≡ b → joined_all s (joined a (form s (plain x))) (plain_list (drop (i + 1) xs)) ≡ b
unfolding plain_list joined_all
join_more s xs i x a b l q h = rw (rest_is xs i x l q) at h

pub join_done : (s : Names) (xs : List Expr) (i : ℕ) (a b : Shape) → length xs ≤ i → joined_all s a (plain_list (drop i xs)) ≡ b → a ≡ b
unfolding plain_list joined_all
join_done s xs i a b l h = rw (none_left xs i l) at h

pub narrow_at : (s : Names) (w : ℕ) (xs : List Expr) (i : ℕ) (x : Expr) → i < length xs → x ≡ get_or xs i x → AreNarrow s w (plain_list xs) → (form s (plain x)).width ≤ w
unfolding plain_list AreNarrow
narrow_at s w [] i x l q h = absurd (omega arith)
narrow_at s w (y ∷ ys) zero x l q h = rw q h.0
narrow_at s w (y ∷ ys) (suc i) x l q h = narrow_at s w ys i x (omega arith) q h.1

pub match_more : (s : Names) (kind : ℕ) (a : Shape) (v : List Bool) (xs : List Expr) (i : ℕ) (x : Expr) (e : Environment) (f : Bool) → i < length xs → x ≡ get_or xs i x →
    is_equal (wild kind (plain x) a.width) v (value s (plain x) e a.width a.signed) ≡ false → is_matched s kind a v (plain_list (drop i xs)) e ≡ f → is_matched s kind a v (plain_list (drop (i + 1) xs)) e ≡ f
unfolding plain_list is_matched
match_more s kind a v xs i x e f l q n h = let g = rw (rest_is xs i x l q) at h in rw n at g

pub match_hit : (s : Names) (kind : ℕ) (a : Shape) (v : List Bool) (xs : List Expr) (i : ℕ) (x : Expr) (e : Environment) (f : Bool) → i < length xs → x ≡ get_or xs i x →
    is_equal (wild kind (plain x) a.width) v (value s (plain x) e a.width a.signed) ≡ true → is_matched s kind a v (plain_list (drop i xs)) e ≡ f → true ≡ f
unfolding plain_list is_matched
match_hit s kind a v xs i x e f l q n h = let g = rw (rest_is xs i x l q) at h in rw n at g

pub match_done : (s : Names) (kind : ℕ) (a : Shape) (v : List Bool) (xs : List Expr) (i : ℕ) (e : Environment) (f : Bool) → length xs ≤ i → is_matched s kind a v (plain_list (drop i xs)) e ≡ f → false ≡ f
unfolding plain_list is_matched
match_done s kind a v xs i e f l h = rw (none_left xs i l) at h

-- Arms

pub arm_body_shaped : (s : Names) (xs : List Branch) (i : ℕ) (x : Branch) → i < length xs → x ≡ get_or xs i x → arms_faults s (plain_arms xs) ≡ [] → statement_faults s (plain_statement x.body.now) ≡ []
unfolding plain_arms plain_arm statement_faults
arm_body_shaped s [] i x l q h = absurd (omega arith)
arm_body_shaped s (y ∷ ys) zero x l q h =
    ap (λ (z : Branch). statement_faults s (plain_statement z.body.now)) q
    ∙ right_none (list_faults s (plain_list y.labels.now)) (statement_faults s (plain_statement y.body.now)) (left_none (list_faults s (plain_list y.labels.now) ++ statement_faults s (plain_statement y.body.now)) (arms_faults s (plain_arms ys)) h)
arm_body_shaped s (y ∷ ys) (suc i) x l q h = arm_body_shaped s ys i x (omega arith) q (right_none (list_faults s (plain_list y.labels.now) ++ statement_faults s (plain_statement y.body.now)) (arms_faults s (plain_arms ys)) h)

pub arm_labels_shaped : (s : Names) (xs : List Branch) (i : ℕ) (x : Branch) → i < length xs → x ≡ get_or xs i x → arms_faults s (plain_arms xs) ≡ [] → list_faults s (plain_list x.labels.now) ≡ []
unfolding plain_arms plain_arm statement_faults
arm_labels_shaped s [] i x l q h = absurd (omega arith)
arm_labels_shaped s (y ∷ ys) zero x l q h =
    ap (λ (z : Branch). list_faults s (plain_list z.labels.now)) q
    ∙ left_none (list_faults s (plain_list y.labels.now)) (statement_faults s (plain_statement y.body.now)) (left_none (list_faults s (plain_list y.labels.now) ++ statement_faults s (plain_statement y.body.now)) (arms_faults s (plain_arms ys)) h)
arm_labels_shaped s (y ∷ ys) (suc i) x l q h = arm_labels_shaped s ys i x (omega arith) q (right_none (list_faults s (plain_list y.labels.now) ++ statement_faults s (plain_statement y.body.now)) (arms_faults s (plain_arms ys)) h)

-- the first arm that has an equal label

pub case_more : (s : Names) (kind : ℕ) (a : Shape) (v : List Bool) (xs : List Branch) (i : ℕ) (x : Branch) (o e f : Environment) → i < length xs → x ≡ get_or xs i x →
    is_matched s kind a v (plain_list x.labels.now) e ≡ false → executed_case s kind a v (plain_arms (drop i xs)) o e ≡ f → executed_case s kind a v (plain_arms (drop (i + 1) xs)) o e ≡ f
unfolding plain_arms plain_arm executed
case_more s kind a v xs i x o e f l q n h = let g = rw (rest_is xs i x l q) at h in rw n at g

pub case_hit : (s : Names) (kind : ℕ) (a : Shape) (v : List Bool) (xs : List Branch) (i : ℕ) (x : Branch) (o e f : Environment) → i < length xs → x ≡ get_or xs i x →
    is_matched s kind a v (plain_list x.labels.now) e ≡ true → executed_case s kind a v (plain_arms (drop i xs)) o e ≡ f → executed s (plain_statement x.body.now) e ≡ f
unfolding plain_arms plain_arm executed
case_hit s kind a v xs i x o e f l q n h = let g = rw (rest_is xs i x l q) at h in rw n at g

pub case_done : (s : Names) (kind : ℕ) (a : Shape) (v : List Bool) (xs : List Branch) (i : ℕ) (o e f : Environment) → length xs ≤ i → executed_case s kind a v (plain_arms (drop i xs)) o e ≡ f → o ≡ f
unfolding plain_arms executed
case_done s kind a v xs i o e f l h = rw (none_left xs i l) at h

pub left_case_more : (s : Names) (kind : ℕ) (a : Shape) (v : List Bool) (xs : List Branch) (i : ℕ) (x : Branch) (o f : List Update) (e : Environment) → i < length xs → x ≡ get_or xs i x →
    is_matched s kind a v (plain_list x.labels.now) e ≡ false → updates_of_case s kind a v (plain_arms (drop i xs)) o e ≡ f → updates_of_case s kind a v (plain_arms (drop (i + 1) xs)) o e ≡ f
unfolding plain_arms plain_arm updates
left_case_more s kind a v xs i x o f e l q n h = let g = rw (rest_is xs i x l q) at h in rw n at g

pub left_case_hit : (s : Names) (kind : ℕ) (a : Shape) (v : List Bool) (xs : List Branch) (i : ℕ) (x : Branch) (o f : List Update) (e : Environment) → i < length xs → x ≡ get_or xs i x →
    is_matched s kind a v (plain_list x.labels.now) e ≡ true → updates_of_case s kind a v (plain_arms (drop i xs)) o e ≡ f → updates s (plain_statement x.body.now) e ≡ f
unfolding plain_arms plain_arm updates
left_case_hit s kind a v xs i x o f e l q n h = let g = rw (rest_is xs i x l q) at h in rw n at g

pub left_case_done : (s : Names) (kind : ℕ) (a : Shape) (v : List Bool) (xs : List Branch) (i : ℕ) (o f : List Update) (e : Environment) → length xs ≤ i → updates_of_case s kind a v (plain_arms (drop i xs)) o e ≡ f → o ≡ f
unfolding plain_arms updates
left_case_done s kind a v xs i o f e l h = rw (none_left xs i l) at h

-- a `case` compares in its shape, with the value of its selector there

pub case_is : (s : Names) (kind : ℕ) (on : Tree) (arms : Arms) (e : Environment) (a : Shape) (v : List Bool) → a ≡ case_shape s on arms → v ≡ value s on e a.width a.signed →
    executed_case s kind a v arms (executed_default s arms e) e ≡ executed s (Case kind on arms) e
unfolding executed
case_is s kind on arms e a v p q =
    ap (λ (x : List Bool). executed_case s kind a x arms (executed_default s arms e) e) q
    ∙ ap (λ (b : Shape). executed_case s kind b (value s on e b.width b.signed) arms (executed_default s arms e) e) p

pub case_left : (s : Names) (kind : ℕ) (on : Tree) (arms : Arms) (e : Environment) (a : Shape) (v : List Bool) → a ≡ case_shape s on arms → v ≡ value s on e a.width a.signed →
    updates_of_case s kind a v arms (updates_of_default s arms e) e ≡ updates s (Case kind on arms) e
unfolding updates
case_left s kind on arms e a v p q =
    ap (λ (x : List Bool). updates_of_case s kind a x arms (updates_of_default s arms e) e) q
    ∙ ap (λ (b : Shape). updates_of_case s kind b (value s on e b.width b.signed) arms (updates_of_default s arms e) e) p

-- the default

has_none : (xs : List Expr) → length xs ≡ 0 → has_labels (plain_list xs) ≡ false
unfolding plain_list
has_none [] h = refl
has_none (x ∷ xs) h = absurd (omega (arith, h))

pub no_labels : (xs : List Expr) (b : Bool) → b ≡ (length xs == 0) → b ≡ true → has_labels (plain_list xs) ≡ false
no_labels xs b e h = has_none xs (eqb-true (length xs) 0 (sym e ∙ h))

pub some_labels : (xs : List Expr) (b : Bool) → b ≡ (length xs == 0) → b ≡ false → has_labels (plain_list xs) ≡ true
unfolding plain_list
some_labels [] b e h = absurd (both_ways b h (e ∙ eq-eqb 0 0 refl))
some_labels (x ∷ xs) b e h = refl

pub default_more : (s : Names) (xs : List Branch) (i : ℕ) (x : Branch) (e f : Environment) → i < length xs → x ≡ get_or xs i x → has_labels (plain_list x.labels.now) ≡ true →
    executed_default s (plain_arms (drop i xs)) e ≡ f → executed_default s (plain_arms (drop (i + 1) xs)) e ≡ f
unfolding plain_arms plain_arm executed
default_more s xs i x e f l q n h = let g = rw (rest_is xs i x l q) at h in rw n at g

pub default_hit : (s : Names) (xs : List Branch) (i : ℕ) (x : Branch) (e f : Environment) → i < length xs → x ≡ get_or xs i x → has_labels (plain_list x.labels.now) ≡ false →
    executed_default s (plain_arms (drop i xs)) e ≡ f → executed s (plain_statement x.body.now) e ≡ f
unfolding plain_arms plain_arm executed
default_hit s xs i x e f l q n h = let g = rw (rest_is xs i x l q) at h in rw n at g

pub default_done : (s : Names) (xs : List Branch) (i : ℕ) (e f : Environment) → length xs ≤ i → executed_default s (plain_arms (drop i xs)) e ≡ f → e ≡ f
unfolding plain_arms executed
default_done s xs i e f l h = rw (none_left xs i l) at h

pub left_default_more : (s : Names) (xs : List Branch) (i : ℕ) (x : Branch) (f : List Update) (e : Environment) → i < length xs → x ≡ get_or xs i x → has_labels (plain_list x.labels.now) ≡ true →
    updates_of_default s (plain_arms (drop i xs)) e ≡ f → updates_of_default s (plain_arms (drop (i + 1) xs)) e ≡ f
unfolding plain_arms plain_arm updates
left_default_more s xs i x f e l q n h = let g = rw (rest_is xs i x l q) at h in rw n at g

pub left_default_hit : (s : Names) (xs : List Branch) (i : ℕ) (x : Branch) (f : List Update) (e : Environment) → i < length xs → x ≡ get_or xs i x → has_labels (plain_list x.labels.now) ≡ false →
    updates_of_default s (plain_arms (drop i xs)) e ≡ f → updates s (plain_statement x.body.now) e ≡ f
unfolding plain_arms plain_arm updates
left_default_hit s xs i x f e l q n h = let g = rw (rest_is xs i x l q) at h in rw n at g

pub left_default_done : (s : Names) (xs : List Branch) (i : ℕ) (f : List Update) (e : Environment) → length xs ≤ i → updates_of_default s (plain_arms (drop i xs)) e ≡ f → [] ≡ f
unfolding plain_arms updates
left_default_done s xs i f e l h = rw (none_left xs i l) at h

-- The shape of a `case`

pub joined_low : (s : Names) (a : Shape) (ts : Trees) → a.width ≤ (joined_all s a ts).width
unfolding joined_all
joined_low s a End = omega arith
joined_low s a (More t ts) = omega (arith, joined_low s (joined a (form s t)) ts)

pub joined_high : (s : Names) (a : Shape) (ts : Trees) (w : ℕ) → (joined_all s a ts).width ≤ w → AreNarrow s w ts
unfolding joined_all AreNarrow
joined_high s a End w h = tt
joined_high s a (More t ts) w h = (omega (arith, joined_low s (joined a (form s t)) ts, h), joined_high s (joined a (form s t)) ts w h)

pub labels_low : (s : Names) (a : Shape) (arms : Arms) → a.width ≤ (joined_labels s a arms).width
unfolding joined_labels
labels_low s a NoArms = omega arith
labels_low s a (MoreArms arm rest) = omega (arith, joined_low s a (labels_of arm), labels_low s (joined_all s a (labels_of arm)) rest)

pub labels_high : (s : Names) (a : Shape) (arms : Arms) (w : ℕ) → (joined_labels s a arms).width ≤ w → ArmsNarrow s w arms
unfolding joined_labels ArmsNarrow
labels_high s a NoArms w h = tt
labels_high s a (MoreArms arm rest) w h =
    (joined_high s a (labels_of arm) w (omega (arith, labels_low s (joined_all s a (labels_of arm)) rest, h)), labels_high s (joined_all s a (labels_of arm)) rest w h)

pub arms_high : (s : Names) (a b : Shape) (arms : Arms) → b ≡ joined_labels s a arms → ArmsNarrow s b.width arms
arms_high s a b arms h = labels_high s a arms b.width (omega (arith, ap (λ (x : Shape). x.width) h))

pub arms_more : (s : Names) (xs : List Branch) (i : ℕ) (x : Branch) (a b : Shape) → i < length xs → x ≡ get_or xs i x → joined_labels s a (plain_arms (drop i xs)) ≡ b →
    joined_labels s (joined_all s a (plain_list x.labels.now)) (plain_arms (drop (i + 1) xs)) ≡ b
unfolding plain_arms plain_arm joined_labels
arms_more s xs i x a b l q h = rw (rest_is xs i x l q) at h

pub arms_done : (s : Names) (xs : List Branch) (i : ℕ) (a b : Shape) → length xs ≤ i → joined_labels s a (plain_arms (drop i xs)) ≡ b → a ≡ b
unfolding plain_arms joined_labels
arms_done s xs i a b l h = rw (none_left xs i l) at h

pub narrow_labels_at : (s : Names) (w : ℕ) (xs : List Branch) (i : ℕ) (x : Branch) → i < length xs → x ≡ get_or xs i x → ArmsNarrow s w (plain_arms xs) → AreNarrow s w (plain_list x.labels.now)
unfolding plain_arms plain_arm ArmsNarrow
narrow_labels_at s w [] i x l q h = absurd (omega arith)
narrow_labels_at s w (y ∷ ys) zero x l q h = rw q h.0
narrow_labels_at s w (y ∷ ys) (suc i) x l q h = narrow_labels_at s w ys i x (omega arith) q h.1
