-- Statements at nodes of the arena: the shapes of their expressions, and the bits that they assign.
use Rattle.std.proofs.Common.{◌≡◌, ◌∙◌, sym, ap, ℕ, ◌+◌, ◌<◌, ◌≤◌, Bool, true, false, ◌&&◌, ◌||◌, List, [], ◌∷◌, ◌++◌, length, drop, get_or, Option, None, Some, refl}
use Rattle.std.proofs.lemmas.List.{drop_all}
use Rattle.rr_syntax.specs.declared.token.Keyword.{Keyword}
use Rattle.rr_syntax.specs.declared.tree.Arm.{Arm as Branch}
use Rattle.rr_syntax.specs.declared.tree.Expr.{Expr}
use Rattle.rr_syntax.specs.declared.tree.Named.{Named}
use Rattle.rr_syntax.specs.declared.tree.Head.{Head}
use Rattle.rr_syntax.specs.declared.tree.Stmt.{Stmt}
use Rattle.rr_syntax.specs.declared.tree.Stmt.TheVariants as stmt
use Rattle.rr_syntax.specs.Tree.{Tree}
use Rattle.rr_syntax.specs.View.{plain, plain_list, plain_statement, plain_statements, plain_arm, plain_arms}
use Rattle.rr_syntax.proofs.Rows.{plain_block, plain_case}
use Rattle.rr_expr.specs.declared.types.Bit.{Bit}
use Rattle.rr_expr.specs.declared.types.ExprFault.{ExprFault}
use Rattle.rr_expr.specs.Faults.{fault}
use Rattle.rr_expr.specs.Scopes.{Names}
use Rattle.rr_expr.specs.Values.{form}
use Rattle.rr_flat.specs.Faults.{answer_of, faults_in}
use Rattle.rr_flat.specs.Reads.{writes, write_any, arms_write}
use Rattle.rr_flat.specs.Targets.{writes_target}
use Rattle.rr_flat.specs.Shapes.{shape, shape_faults, list_faults, statement_faults, statements_faults, arms_faults}
use Rattle.rr_named_bits.specs.declared.writes.Write.{Write}
use Rattle.rr_named_bits.specs.Lists.{may}
use Rattle.rr_named_bits.proofs.Growing.{rest_is}
use Rattle.rr_writers.specs.Assigned.{assigns, assign_any, arms_assign}
use Rattle.rr_writers.proofs.Entries.{or_assoc, or_false}
use denote.Ref.{Bor}

pub left_empty : {A : Type 0} (xs ys : List A) → xs ++ ys ≡ [] → xs ≡ []
left_empty [] ys e = refl
left_empty (x ∷ xs) ys e = cc

pub right_empty : {A : Type 0} (xs ys : List A) → xs ++ ys ≡ [] → ys ≡ []
right_empty [] ys e = e
right_empty (x ∷ xs) ys e = cc

pub shaped : (s : Names) (t : Tree) → shape_faults s t ≡ [] → fault s t false ≡ None
unfolding shape
shaped s t h = go (fault s t false) h
  where
    go : (o : Option ExprFault) → faults_in (answer_of o (form s t)) ≡ [] → o ≡ None
    go None e = refl
    go (Some f) e = cc

pub labels_shaped : (s : Names) (x : Expr) (xs : List Expr) → list_faults s (plain_list (x ∷ xs)) ≡ [] → (fault s (plain x) false ≡ None) × (list_faults s (plain_list xs) ≡ [])
unfolding plain_list list_faults
labels_shaped s x xs h = (shaped s (plain x) (left_empty (shape_faults s (plain x)) (list_faults s (plain_list xs)) h), right_empty (shape_faults s (plain x)) (list_faults s (plain_list xs)) h)

-- the parts of a statement whose expressions have shapes

pub shaped-Block : (s : Names) (label : Option Named) (body : Bor (List Stmt)) → statement_faults s (plain_statement (stmt.Block label body)) ≡ [] → statements_faults s (plain_statements body.now) ≡ []
unfolding statement_faults
shaped-Block s label body h = sym (ap (statement_faults s) (plain_block label body)) ∙ h

pub shaped-If : (s : Names) (t : Bor Expr) (y : Bor Stmt) → statement_faults s (plain_statement (stmt.If t y None)) ≡ []
    → (fault s (plain t.now) false ≡ None) × (statement_faults s (plain_statement y.now) ≡ [])
unfolding plain_statement statement_faults
shaped-If s t y h =
    let a = shape_faults s (plain t.now) in
    let b = statement_faults s (plain_statement y.now) in
    (shaped s (plain t.now) (left_empty a b h), right_empty a b h)

pub shaped-IfElse : (s : Names) (t : Bor Expr) (y n : Bor Stmt) → statement_faults s (plain_statement (stmt.If t y (Some n))) ≡ []
    → (fault s (plain t.now) false ≡ None) × (statement_faults s (plain_statement y.now) ≡ []) × (statement_faults s (plain_statement n.now) ≡ [])
unfolding plain_statement statement_faults
shaped-IfElse s t y n h =
    let a = shape_faults s (plain t.now) in
    let b = statement_faults s (plain_statement y.now) in
    let c = statement_faults s (plain_statement n.now) in
    let r = right_empty a (b ++ c) h in
    (shaped s (plain t.now) (left_empty a (b ++ c) h), left_empty b c r, right_empty b c r)

-- of an `if`, whose `else` may be there
pub shaped-Yes : (s : Names) (t : Bor Expr) (y : Bor Stmt) (n : Option (Bor Stmt)) → statement_faults s (plain_statement (stmt.If t y n)) ≡ [] → statement_faults s (plain_statement y.now) ≡ []
shaped-Yes s t y None h = (shaped-If s t y h).1
shaped-Yes s t y (Some n) h = (shaped-IfElse s t y n h).1

pub shaped-No : (s : Names) (t : Bor Expr) (y n : Bor Stmt) (other : Option (Bor Stmt)) → other ≡ Some n → statement_faults s (plain_statement (stmt.If t y other)) ≡ [] → statement_faults s (plain_statement n.now) ≡ []
shaped-No s t y n other e h = (shaped-IfElse s t y n (sym (ap (λ z. statement_faults s (plain_statement (stmt.If t y z))) e) ∙ h)).2

pub shaped-Case : (s : Names) (kind : Keyword) (t : Bor Expr) (arms : Bor (List Branch)) → statement_faults s (plain_statement (stmt.Case kind t arms)) ≡ []
    → (fault s (plain t.now) false ≡ None) × (arms_faults s (plain_arms arms.now) ≡ [])
unfolding statement_faults
shaped-Case s kind t arms h =
    let a = shape_faults s (plain t.now) in
    let b = arms_faults s (plain_arms arms.now) in
    let k : a ++ b ≡ [] = sym (ap (statement_faults s) (plain_case kind t arms)) ∙ h in
    (shaped s (plain t.now) (left_empty a b k), right_empty a b k)

pub shaped-Assign : (s : Names) (t : Bor Expr) (now : Bool) (v : Bor Expr) → statement_faults s (plain_statement (stmt.Assign t now v)) ≡ []
    → (fault s (plain t.now) false ≡ None) × (fault s (plain v.now) false ≡ None)
unfolding plain_statement statement_faults
shaped-Assign s t now v h =
    let a = shape_faults s (plain t.now) in
    let b = shape_faults s (plain v.now) in
    (shaped s (plain t.now) (left_empty a b h), shaped s (plain v.now) (right_empty a b h))

pub statements_shaped : (s : Names) (x : Stmt) (xs : List Stmt) → statements_faults s (plain_statements (x ∷ xs)) ≡ [] → (statement_faults s (plain_statement x) ≡ []) × (statements_faults s (plain_statements xs) ≡ [])
unfolding plain_statements statement_faults
statements_shaped s x xs h =
    let a = statement_faults s (plain_statement x) in
    let b = statements_faults s (plain_statements xs) in
    (left_empty a b h, right_empty a b h)

pub arms_shaped : (s : Names) (x : Branch) (xs : List Branch) → arms_faults s (plain_arms (x ∷ xs)) ≡ []
    → (list_faults s (plain_list x.labels.now) ≡ []) × (statement_faults s (plain_statement x.body.now) ≡ []) × (arms_faults s (plain_arms xs) ≡ [])
unfolding plain_arms plain_arm statement_faults
arms_shaped s x xs h =
    let a = list_faults s (plain_list x.labels.now) in
    let b = statement_faults s (plain_statement x.body.now) in
    let c = arms_faults s (plain_arms xs) in
    let l = left_empty (a ++ b) c h in
    (left_empty a b l, right_empty a b l, right_empty (a ++ b) c h)

-- what a statement assigns

swap4 : (l a b c d : Bool) → ((a || b) || (l && (c || d))) ≡ ((a || (l && c)) || (b || (l && d)))
swap4 false true b c d = refl
swap4 false false true c d = refl
swap4 false false false c d = refl
swap4 true true b c d = refl
swap4 true false true true d = refl
swap4 true false true false d = refl
swap4 true false false true d = refl
swap4 true false false false d = refl

none4 : (old l : Bool) → old ≡ (old || (false || (l && false)))
none4 true l = refl
none4 false true = refl
none4 false false = refl

abbrev Adds : Bool → Bool → Names → Stmt → Bit → Bool
Adds old later s x b = old || assigns later s (plain_statement x) b

pub adds-Null : (old later : Bool) (s : Names) (b : Bit) → old ≡ Adds old later s stmt.Null b
unfolding plain_statement writes
adds-Null old later s b = none4 old later

pub adds-For : (old later : Bool) (s : Names) (head : Head) (body : Bor Stmt) (b : Bit) → old ≡ Adds old later s (stmt.For head body) b
unfolding plain_statement writes
adds-For old later s head body b = none4 old later

pub adds-Block : (old later : Bool) (s : Names) (label : Option Named) (body : Bor (List Stmt)) (b : Bit) → (old || assign_any later s (plain_statements body.now) b) ≡ Adds old later s (stmt.Block label body) b
unfolding writes
adds-Block old later s label body b = ap (λ p. old || assigns later s p b) (sym (plain_block label body))

pub adds-If : (old later : Bool) (s : Names) (t : Bor Expr) (y : Bor Stmt) (b : Bit) → Adds old later s y.now b ≡ Adds old later s (stmt.If t y None) b
unfolding plain_statement writes
adds-If old later s t y b = refl

pub adds-IfElse : (old mid new later : Bool) (s : Names) (t : Bor Expr) (y n : Bor Stmt) (b : Bit) → mid ≡ Adds old later s y.now b → new ≡ Adds mid later s n.now b → new ≡ Adds old later s (stmt.If t y (Some n)) b
unfolding plain_statement writes
adds-IfElse old mid new later s t y n b e f =
    let p = writes true s (plain_statement y.now) b in
    let q = writes true s (plain_statement n.now) b in
    let u = writes false s (plain_statement y.now) b in
    let v = writes false s (plain_statement n.now) b in
    f ∙ (ap (λ z. z || assigns later s (plain_statement n.now) b) e
    ∙ (or_assoc old (assigns later s (plain_statement y.now) b) (assigns later s (plain_statement n.now) b) ∙ ap (λ z. old || z) (sym (swap4 later p q u v))))

pub adds-Alone : (old later : Bool) (s : Names) (t : Bor Expr) (y : Bor Stmt) (other : Option (Bor Stmt)) (b : Bit) → other ≡ None → Adds old later s y.now b ≡ Adds old later s (stmt.If t y other) b
adds-Alone old later s t y other b e = adds-If old later s t y b ∙ sym (ap (λ z. Adds old later s (stmt.If t y z) b) e)

pub adds-Both : (old mid new later : Bool) (s : Names) (t : Bor Expr) (y n : Bor Stmt) (other : Option (Bor Stmt)) (b : Bit) → other ≡ Some n → mid ≡ Adds old later s y.now b → new ≡ Adds mid later s n.now b
    → new ≡ Adds old later s (stmt.If t y other) b
adds-Both old mid new later s t y n other b e f g = adds-IfElse old mid new later s t y n b f g ∙ sym (ap (λ z. Adds old later s (stmt.If t y z) b) e)

pub adds-Case : (old later : Bool) (s : Names) (kind : Keyword) (t : Bor Expr) (arms : Bor (List Branch)) (b : Bit) → (old || arms_assign later s (plain_arms arms.now) b) ≡ Adds old later s (stmt.Case kind t arms) b
unfolding writes
adds-Case old later s kind t arms b = ap (λ p. old || assigns later s p b) (sym (plain_case kind t arms))

pub adds-Assign : (old later : Bool) (s : Names) (t : Bor Expr) (now : Bool) (v : Bor Expr) (b : Bit) → (now || later) ≡ true → (old || writes_target s (plain t.now) b) ≡ Adds old later s (stmt.Assign t now v) b
unfolding plain_statement writes
adds-Assign old true s t true v b h = ap (λ z. old || z) (sym (or_false (writes_target s (plain t.now) b)))
adds-Assign old false s t true v b h = ap (λ z. old || z) (sym (or_false (writes_target s (plain t.now) b)))
adds-Assign old true s t false v b h = refl
adds-Assign old false s t false v b h = cc

pub skips-Assign : (old later : Bool) (s : Names) (t : Bor Expr) (now : Bool) (v : Bor Expr) (b : Bit) → (now || later) ≡ false → old ≡ Adds old later s (stmt.Assign t now v) b
unfolding plain_statement writes
skips-Assign old true s t true v b h = cc
skips-Assign old false s t true v b h = cc
skips-Assign old true s t false v b h = cc
skips-Assign old false s t false v b h = sym (or_false old)

pub record AssignsLeft (later : Bool) (s : Names) (xs : List Stmt) (i : ℕ) (start now : List Write) : Type 0 where
  pub shaped : statements_faults s (plain_statements (drop i xs)) ≡ []
  pub left : (b : Bit) → (may now b || assign_any later s (plain_statements (drop i xs)) b) ≡ (may start b || assign_any later s (plain_statements xs) b)

pub assigns_start : (later : Bool) (s : Names) (xs : List Stmt) (start : List Write) → statements_faults s (plain_statements xs) ≡ [] → AssignsLeft later s xs 0 start start
assigns_start later s xs start h = record { shaped = h; left = λ b. refl }

pub assigns_here : (later : Bool) (s : Names) (xs : List Stmt) (i : ℕ) (x : Stmt) (start now : List Write) → i < length xs → x ≡ get_or xs i x → AssignsLeft later s xs i start now → statement_faults s (plain_statement x) ≡ []
assigns_here later s xs i x start now l e n = (statements_shaped s x (drop (i + 1) xs) (sym (ap (λ z. statements_faults s (plain_statements z)) (rest_is xs i x l e)) ∙ n.shaped)).0

pub assigns_more : (later : Bool) (s : Names) (xs : List Stmt) (i : ℕ) (x : Stmt) (start now next : List Write) → i < length xs → x ≡ get_or xs i x → AssignsLeft later s xs i start now
    → ((b : Bit) → may next b ≡ (may now b || assigns later s (plain_statement x) b)) → AssignsLeft later s xs (i + 1) start next
unfolding plain_statements writes
assigns_more later s xs i x start now next l e n f =
    let rest = plain_statements (drop (i + 1) xs) in
    record {
      shaped = (statements_shaped s x (drop (i + 1) xs) (sym (ap (λ z. statements_faults s (plain_statements z)) (rest_is xs i x l e)) ∙ n.shaped)).1;
      left = λ b.
          ap (λ z. z || assign_any later s rest b) (f b)
          ∙ (or_assoc (may now b) (assigns later s (plain_statement x) b) (assign_any later s rest b)
          ∙ (ap (λ z. may now b || z) (sym (swap4 later (writes true s (plain_statement x) b) (write_any true s rest b) (writes false s (plain_statement x) b) (write_any false s rest b)))
          ∙ (sym (ap (λ z. may now b || assign_any later s (plain_statements z) b) (rest_is xs i x l e)) ∙ n.left b)));
    }

pub assigns_done : (later : Bool) (s : Names) (xs : List Stmt) (i : ℕ) (start now : List Write) → length xs ≤ i → AssignsLeft later s xs i start now
    → (b : Bit) → may now b ≡ (may start b || assign_any later s (plain_statements xs) b)
unfolding plain_statements writes
assigns_done later s xs i start now l n b = none4 (may now b) later ∙ (sym (ap (λ z. may now b || assign_any later s (plain_statements z) b) (drop_all i xs l)) ∙ n.left b)

pub record ArmsLeft (later : Bool) (s : Names) (xs : List Branch) (i : ℕ) (start now : List Write) : Type 0 where
  pub shaped : arms_faults s (plain_arms (drop i xs)) ≡ []
  pub left : (b : Bit) → (may now b || arms_assign later s (plain_arms (drop i xs)) b) ≡ (may start b || arms_assign later s (plain_arms xs) b)

pub arms_start : (later : Bool) (s : Names) (xs : List Branch) (start : List Write) → arms_faults s (plain_arms xs) ≡ [] → ArmsLeft later s xs 0 start start
arms_start later s xs start h = record { shaped = h; left = λ b. refl }

pub arms_here : (later : Bool) (s : Names) (xs : List Branch) (i : ℕ) (x : Branch) (start now : List Write) → i < length xs → x ≡ get_or xs i x → ArmsLeft later s xs i start now → statement_faults s (plain_statement x.body.now) ≡ []
arms_here later s xs i x start now l e n = (arms_shaped s x (drop (i + 1) xs) (sym (ap (λ z. arms_faults s (plain_arms z)) (rest_is xs i x l e)) ∙ n.shaped)).1

pub arms_more : (later : Bool) (s : Names) (xs : List Branch) (i : ℕ) (x : Branch) (start now next : List Write) → i < length xs → x ≡ get_or xs i x → ArmsLeft later s xs i start now
    → ((b : Bit) → may next b ≡ (may now b || assigns later s (plain_statement x.body.now) b)) → ArmsLeft later s xs (i + 1) start next
unfolding plain_arms plain_arm writes
arms_more later s xs i x start now next l e n f =
    let rest = plain_arms (drop (i + 1) xs) in
    let t = plain_statement x.body.now in
    record {
      shaped = (arms_shaped s x (drop (i + 1) xs) (sym (ap (λ z. arms_faults s (plain_arms z)) (rest_is xs i x l e)) ∙ n.shaped)).2;
      left = λ b.
          ap (λ z. z || arms_assign later s rest b) (f b)
          ∙ (or_assoc (may now b) (assigns later s t b) (arms_assign later s rest b)
          ∙ (ap (λ z. may now b || z) (sym (swap4 later (writes true s t b) (arms_write true s rest b) (writes false s t b) (arms_write false s rest b)))
          ∙ (sym (ap (λ z. may now b || arms_assign later s (plain_arms z) b) (rest_is xs i x l e)) ∙ n.left b)));
    }

pub arms_done : (later : Bool) (s : Names) (xs : List Branch) (i : ℕ) (start now : List Write) → length xs ≤ i → ArmsLeft later s xs i start now
    → (b : Bit) → may now b ≡ (may start b || arms_assign later s (plain_arms xs) b)
unfolding plain_arms writes
arms_done later s xs i start now l n b = none4 (may now b) later ∙ (sym (ap (λ z. may now b || arms_assign later s (plain_arms z) b) (drop_all i xs l)) ∙ n.left b)
