-- statements run where a guard is true
use Rattle.std.proofs.Common.{◌≡◌, ◌∙◌, sym, ap, refl, ℕ, suc, ◌+◌, ◌<◌, ◌≤◌, Bool, true, false, cond, not, ◌&&◌, List, [], ◌∷◌, Option, length, drop, drop-cons, get_or, arith, ◌==◌}
use Rattle.std.proofs.lemmas.Bool.{both_ways, eq-eqb, ne_eqb}
use Rattle.std.proofs.lemmas.List.{drop_all}
use Rattle.rr_syntax.specs.declared.tree.Arm.{Arm as Branch}
use Rattle.rr_syntax.specs.declared.tree.Expr.{Expr}
use Rattle.rr_syntax.specs.declared.tree.Stmt.{Stmt}
use Rattle.rr_syntax.specs.Tree.{Tree, Trees, Statement, Statements, Arms, If, IfElse, Assign, Then, CaseItem, MoreArms}
use Rattle.rr_syntax.specs.View.{plain_list, plain_statement, plain_statements, plain_arm, plain_arms}
use Rattle.rr_expr.specs.declared.types.Bit.{Bit}
use Rattle.rr_expr.specs.declared.types.Shape.{Shape}
use Rattle.rr_expr.specs.Scopes.{Names}
use Rattle.rr_flat.specs.Latches.{has_labels}
use Rattle.rr_flat.specs.Targets.{target_bits}
use Rattle.rr_choice.specs.declared.pick.Pick.{Pick}
use Rattle.rr_instance.specs.Instances.{instance_arms, instance_parts, instance_statement, instance_statements, instance_tree}
use Rattle.rr_choice.specs.Sites.{Site}
use Rattle.rr_cycle.specs.Exec.{Environment, Update, applied, assigned, executed, executed_all, executed_case, executed_default, is_matched, is_true, updates, updates_of_all, updates_of_case, updates_of_default, write}
use Rattle.rr_cycle.proofs.Applied.{applied_append}
use Rattle.rr_blast_stmt.specs.Running.{Values, ran, ran_all, ran_arms, ran_default, stored}

-- one statement

pub ran_assign : (s : Names) (t e : Tree) (now : Bool) (v : Values) → ran s (Assign t now e) v ≡ stored now (target_bits s v.now t) (assigned s t e v.now) v
unfolding ran executed updates applied
ran_assign s t e true v = refl
ran_assign s t e false v = refl

abbrev pub made : Environment → Environment → Values
made n l = record { now = n; later = l }

pub stored_now : (g : Bool) (bits : List (Option Bit)) (word : List Bool) (now : Bool) (v : Values) → now ≡ true → made (cond g (write bits word v.now) v.now) v.later ≡ cond g (stored now bits word v) v
stored_now true bits word now v h = sym (ap (λ (b : Bool). stored b bits word v) h)
stored_now false bits word now v h = refl

pub stored_later : (g : Bool) (bits : List (Option Bit)) (word : List Bool) (now : Bool) (v : Values) → now ≡ false → made v.now (cond g (write bits word v.later) v.later) ≡ cond g (stored now bits word v) v
stored_later true bits word now v h = sym (ap (λ (b : Bool). stored b bits word v) h)
stored_later false bits word now v h = refl

both_if : (b : Bool) (x y l : Environment) (us vs : List Update) → ◌≡◌ {A = Values} (record { now = cond b x y; later = applied (cond b us vs) l }) (cond b (record { now = x; later = applied us l }) (record { now = y; later = applied vs l }))
both_if true x y l us vs = refl
both_if false x y l us vs = refl

pub ran_if : (s : Names) (c : Tree) (t : Statement) (v : Values) → ran s (If c t) v ≡ cond (is_true s c v.now) (ran s t v) v
unfolding ran executed updates applied
ran_if s c t v = both_if (is_true s c v.now) (executed s t v.now) v.now v.later (updates s t v.now) []

pub ran_if_else : (s : Names) (c : Tree) (t u : Statement) (v : Values) → ran s (IfElse c t u) v ≡ cond (is_true s c v.now) (ran s t v) (ran s u v)
unfolding ran executed updates
ran_if_else s c t u v = both_if (is_true s c v.now) (executed s t v.now) (executed s u v.now) v.later (updates s t v.now) (updates s u v.now)

pub same_case : (g : Bool) (v w : Values) → v ≡ w → v ≡ cond g w v
same_case true v w h = h
same_case false v w h = refl

-- branches under guards

pub guard_then : (g t : Bool) (a v x : Values) → x ≡ cond (g && t) a v → x ≡ cond g (cond t a v) v
guard_then true t a v x h = h
guard_then false t a v x h = h

pub guard_else : (g t : Bool) (F G : Values → Values) (v m x : Values) → m ≡ cond (g && t) (F v) v → x ≡ cond (g && not t) (G m) m → x ≡ cond g (cond t (F v) (G v)) v
guard_else true true F G v m x h k = k ∙ h
guard_else true false F G v m x h k = k ∙ ap G h
guard_else false t F G v m x h k = k ∙ h

-- several statements

pub ran_then : (s : Names) (t : Statement) (ts : Statements) (v : Values) → ran_all s (Then t ts) v ≡ ran_all s ts (ran s t v)
unfolding ran ran_all executed updates
ran_then s t ts v = ap (λ (l : Environment). record { now = executed_all s ts (executed s t v.now); later = l }) (applied_append (updates s t v.now) (updates_of_all s ts (executed s t v.now)) v.later)

statements_cons : (ss : List Site) (ps : List Pick) (xs : List Stmt) (i : ℕ) (x : Stmt) → i < length xs → x ≡ get_or xs i x →
    instance_statements ss ps (plain_statements (drop i xs)) ≡ Then (instance_statement ss ps (plain_statement x)) (instance_statements ss ps (plain_statements (drop (i + 1) xs)))
unfolding plain_statements instance_statement
statements_cons ss ps xs i x l q =
    let s : suc i ≡ i + 1 = omega arith in
    ap (λ (ys : List Stmt). instance_statements ss ps (plain_statements ys)) (drop-cons xs i x l ∙ ap (λ (y : Stmt). y ∷ drop (suc i) xs) (sym q))
    ∙ ap (λ (k : ℕ). Then (instance_statement ss ps (plain_statement x)) (instance_statements ss ps (plain_statements (drop k xs)))) s

pub ran_more : (s : Names) (ss : List Site) (ps : List Pick) (xs : List Stmt) (i : ℕ) (x : Stmt) (g : Bool) (e f r : Values) → i < length xs → x ≡ get_or xs i x →
    f ≡ cond g (ran s (instance_statement ss ps (plain_statement x)) e) e → cond g (ran_all s (instance_statements ss ps (plain_statements (drop i xs))) e) e ≡ r →
    cond g (ran_all s (instance_statements ss ps (plain_statements (drop (i + 1) xs))) f) f ≡ r
ran_more s ss ps xs i x true e f r l q h k =
    ap (ran_all s (instance_statements ss ps (plain_statements (drop (i + 1) xs)))) h
    ∙ sym (ran_then s (instance_statement ss ps (plain_statement x)) (instance_statements ss ps (plain_statements (drop (i + 1) xs))) e)
    ∙ ap (λ (ts : Statements). ran_all s ts e) (sym (statements_cons ss ps xs i x l q)) ∙ k
ran_more s ss ps xs i x false e f r l q h k = h ∙ k

pub ran_done : (s : Names) (ss : List Site) (ps : List Pick) (xs : List Stmt) (i : ℕ) (g : Bool) (e r : Values) → length xs ≤ i →
    cond g (ran_all s (instance_statements ss ps (plain_statements (drop i xs))) e) e ≡ r → e ≡ r
unfolding plain_statements instance_statement ran_all executed updates applied
ran_done s ss ps xs i true e r l k = ap (λ (ys : List Stmt). ran_all s (instance_statements ss ps (plain_statements ys)) e) (sym (drop_all i xs l)) ∙ k
ran_done s ss ps xs i false e r l k = k

-- arms

-- the first of these arms that has an equal label, else the `default` of all
unfoldable pub ran_rest : Names → ℕ → Shape → List Bool → Arms → Arms → Values → Values
ran_rest s kind a x all arms v = record {
  now = executed_case s kind a x arms (executed_default s all v.now) v.now;
  later = applied (updates_of_case s kind a x arms (updates_of_default s all v.now) v.now) v.later;
}

pub rest_all : (s : Names) (kind : ℕ) (a : Shape) (x : List Bool) (arms : Arms) (v : Values) → ran_rest s kind a x arms arms v ≡ ran_arms s kind a x arms v
unfolding ran_rest ran_arms
rest_all s kind a x arms v = refl

arms_cons : (ss : List Site) (ps : List Pick) (xs : List Branch) (i : ℕ) (x : Branch) → i < length xs → x ≡ get_or xs i x →
    instance_arms ss ps (plain_arms (drop i xs)) ≡ MoreArms (CaseItem (instance_parts ss ps (plain_list x.labels.now)) x.colon (instance_statement ss ps (plain_statement x.body.now))) (instance_arms ss ps (plain_arms (drop (i + 1) xs)))
unfolding plain_arms plain_arm instance_statement
arms_cons ss ps xs i x l q =
    let s : suc i ≡ i + 1 = omega arith in
    ap (λ (ys : List Branch). instance_arms ss ps (plain_arms ys)) (drop-cons xs i x l ∙ ap (λ (y : Branch). y ∷ drop (suc i) xs) (sym q))
    ∙ ap (λ (k : ℕ). MoreArms (CaseItem (instance_parts ss ps (plain_list x.labels.now)) x.colon (instance_statement ss ps (plain_statement x.body.now))) (instance_arms ss ps (plain_arms (drop k xs)))) s

rest_cons : (s : Names) (kind : ℕ) (a : Shape) (x : List Bool) (all : Arms) (ls : Trees) (colon : Bool) (body : Statement) (arms : Arms) (v : Values) →
    ran_rest s kind a x all (MoreArms (CaseItem ls colon body) arms) v ≡ cond (is_matched s kind a x ls v.now) (ran s body v) (ran_rest s kind a x all arms v)
unfolding ran_rest ran executed updates
rest_cons s kind a x all ls colon body arms v =
    both_if (is_matched s kind a x ls v.now) (executed s body v.now) (executed_case s kind a x arms (executed_default s all v.now) v.now) v.later (updates s body v.now) (updates_of_case s kind a x arms (updates_of_default s all v.now) v.now)

pub rest_at : (s : Names) (kind : ℕ) (a : Shape) (w : List Bool) (ss : List Site) (ps : List Pick) (all : Arms) (xs : List Branch) (i : ℕ) (x : Branch) (v : Values) → i < length xs → x ≡ get_or xs i x →
    ran_rest s kind a w all (instance_arms ss ps (plain_arms (drop i xs))) v
    ≡ cond (is_matched s kind a w (instance_parts ss ps (plain_list x.labels.now)) v.now) (ran s (instance_statement ss ps (plain_statement x.body.now)) v) (ran_rest s kind a w all (instance_arms ss ps (plain_arms (drop (i + 1) xs))) v)
rest_at s kind a w ss ps all xs i x v l q =
    ap (λ (arms : Arms). ran_rest s kind a w all arms v) (arms_cons ss ps xs i x l q)
    ∙ rest_cons s kind a w all (instance_parts ss ps (plain_list x.labels.now)) x.colon (instance_statement ss ps (plain_statement x.body.now)) (instance_arms ss ps (plain_arms (drop (i + 1) xs))) v

pub rest_none : (s : Names) (kind : ℕ) (a : Shape) (w : List Bool) (ss : List Site) (ps : List Pick) (all : Arms) (xs : List Branch) (i : ℕ) (v : Values) → length xs ≤ i → ran_rest s kind a w all (instance_arms ss ps (plain_arms (drop i xs))) v ≡ ran_default s all v
unfolding ran_rest ran_default plain_arms instance_statement executed updates
rest_none s kind a w ss ps all xs i v l = ap (λ (ys : List Branch). ran_rest s kind a w all (instance_arms ss ps (plain_arms ys)) v) (drop_all i xs l)

-- where the guard is left the wires are as before, and what is left to do is all; elsewhere all is done
pub record Left (g r : Bool) (v m : Values) (these all : Values) : Type 0 where
  pub held : m ≡ cond r v (cond g all v)
  pub left : r ≡ true → (g ≡ true) × (these ≡ all)

pub left_start : (g : Bool) (v all left : Values) → left ≡ all → Left g g v v left all
left_start true v all left h = record { held = refl; left = λ q. (refl, h) }
left_start false v all left h = record { held = refl; left = λ q. (q, h) }

-- one arm more: F is what it does, and q whether a label is equal
pub left_more : (g r r' : Bool) (v m m' : Values) (left left' all : Values) (q : Values → Bool) (F : Values → Values) → Left g r v m left all → left ≡ cond (q v) (F v) left' →
    r' ≡ (r && not (q m)) → m' ≡ cond (r && q m) (F m) m → Left g r' v m' left' all
left_more g false r' v m m' left left' all q F h k e f = record { held = f ∙ h.held ∙ ap (λ (b : Bool). cond b v (cond g all v)) (sym e); left = λ z. absurd (both_ways false refl (sym e ∙ z)) }
left_more g true r' v m m' left left' all q F h k e f = by (q v) refl
  where
    same : q m ≡ q v
    same = ap q h.held

    by : (b : Bool) → q v ≡ b → Left g r' v m' left' all
    by true z = record {
      held = f ∙ ap (λ (b : Bool). cond b (F m) m) (same ∙ z) ∙ ap F h.held ∙ sym (ap (λ (b : Bool). cond b (F v) left') z) ∙ sym k ∙ (h.left refl).1
          ∙ ap (λ (b : Bool). cond b all v) (sym (h.left refl).0) ∙ ap (λ (b : Bool). cond b v (cond g all v)) (sym (e ∙ ap not (same ∙ z)));
      left = λ y. absurd (both_ways false refl (sym (e ∙ ap not (same ∙ z)) ∙ y));
    }
    by false z = record {
      held = f ∙ ap (λ (b : Bool). cond b (F m) m) (same ∙ z) ∙ h.held ∙ ap (λ (b : Bool). cond b v (cond g all v)) (sym (e ∙ ap not (same ∙ z)));
      left = λ y. ((h.left refl).0, sym (ap (λ (b : Bool). cond b (F v) left') z) ∙ sym k ∙ (h.left refl).1);
    }

-- an arm without labels is passed over
pub left_over : (g r : Bool) (v m left left' all : Values) → Left g r v m left all → left ≡ left' → Left g r v m left' all
left_over g r v m left left' all h k = record { held = h.held; left = λ z. ((h.left z).0, sym k ∙ (h.left z).1) }

-- at last the default is done
pub left_done : (g r : Bool) (v m left all x : Values) (D : Values → Values) → Left g r v m left all → left ≡ D v → x ≡ cond r (D m) m → x ≡ cond g all v
left_done g true v m left all x D h k e = e ∙ ap D h.held ∙ sym k ∙ (h.left refl).1 ∙ ap (λ (b : Bool). cond b all v) (sym (h.left refl).0)
left_done g false v m left all x D h k e = e ∙ h.held

pub no_match : (s : Names) (kind : ℕ) (a : Shape) (w : List Bool) (ss : List Site) (ps : List Pick) (xs : List Expr) (e : Environment) → (length xs == 0) ≡ true → is_matched s kind a w (instance_parts ss ps (plain_list xs)) e ≡ false
unfolding plain_list instance_tree is_matched
no_match s kind a w ss ps [] e h = refl
no_match s kind a w ss ps (x ∷ xs) e h = absurd (both_ways (length (x ∷ xs) == 0) (ne_eqb (length (x ∷ xs)) 0 (λ q. omega arith)) h)

-- the default

default_cons : (s : Names) (ls : Trees) (colon : Bool) (body : Statement) (arms : Arms) (v : Values) → ran_default s (MoreArms (CaseItem ls colon body) arms) v ≡ cond (not (has_labels ls)) (ran s body v) (ran_default s arms v)
unfolding ran_default ran executed updates
default_cons s ls colon body arms v = both_if (not (has_labels ls)) (executed s body v.now) (executed_default s arms v.now) v.later (updates s body v.now) (updates_of_default s arms v.now)

labelled : (ss : List Site) (ps : List Pick) (xs : List Expr) (b : Bool) → b ≡ (length xs == 0) → has_labels (instance_parts ss ps (plain_list xs)) ≡ not b
unfolding plain_list instance_tree
labelled ss ps [] b h = sym (ap not (h ∙ eq-eqb 0 0 refl))
labelled ss ps (x ∷ xs) b h = sym (ap not (h ∙ ne_eqb (length (x ∷ xs)) 0 (λ e. omega arith)))

pub default_at : (s : Names) (ss : List Site) (ps : List Pick) (xs : List Branch) (i : ℕ) (x : Branch) (v : Values) (b : Bool) → i < length xs → x ≡ get_or xs i x → b ≡ (length x.labels.now == 0) →
    ran_default s (instance_arms ss ps (plain_arms (drop i xs))) v ≡ cond b (ran s (instance_statement ss ps (plain_statement x.body.now)) v) (ran_default s (instance_arms ss ps (plain_arms (drop (i + 1) xs))) v)
default_at s ss ps xs i x v b l q h =
    ap (λ (arms : Arms). ran_default s arms v) (arms_cons ss ps xs i x l q)
    ∙ default_cons s (instance_parts ss ps (plain_list x.labels.now)) x.colon (instance_statement ss ps (plain_statement x.body.now)) (instance_arms ss ps (plain_arms (drop (i + 1) xs))) v
    ∙ ap (λ (k : Bool). cond k (ran s (instance_statement ss ps (plain_statement x.body.now)) v) (ran_default s (instance_arms ss ps (plain_arms (drop (i + 1) xs))) v)) (ap not (labelled ss ps x.labels.now b h) ∙ twice b)
  where
    twice : (k : Bool) → not (not k) ≡ k
    twice true = refl
    twice false = refl

pub default_none : (s : Names) (ss : List Site) (ps : List Pick) (xs : List Branch) (i : ℕ) (v : Values) → length xs ≤ i → ran_default s (instance_arms ss ps (plain_arms (drop i xs))) v ≡ v
unfolding ran_default plain_arms instance_statement executed updates applied
default_none s ss ps xs i v l = ap (λ (ys : List Branch). ran_default s (instance_arms ss ps (plain_arms ys)) v) (drop_all i xs l)

pub and_true : (b : Bool) → (b && not false) ≡ b
and_true true = refl
and_true false = refl

pub and_false : (b : Bool) → (b && false) ≡ false
and_false true = refl
and_false false = refl
