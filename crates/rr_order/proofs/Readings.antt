-- The bits that statements read at nodes of the arena, and lists that grow by them.
use Rattle.std.proofs.Common.{◌≡◌, ◌∙◌, sym, ap, subst, ℕ, ◌+◌, ◌<◌, ◌≤◌, ◌⊎◌, inl, inr, Bool, false, List, [], ◌∷◌, length, drop, get_or, Option, None, Some}
use Rattle.std.proofs.lemmas.List.{drop_all}
use Rattle.rr_syntax.specs.declared.token.Keyword.{Keyword}
use Rattle.rr_syntax.specs.declared.tree.Arm.{Arm as Branch}
use Rattle.rr_syntax.specs.declared.tree.Expr.{Expr}
use Rattle.rr_syntax.specs.declared.tree.Named.{Named}
use Rattle.rr_syntax.specs.declared.tree.Head.{Head}
use Rattle.rr_syntax.specs.declared.tree.Stmt.{Stmt}
use Rattle.rr_syntax.specs.declared.tree.Stmt.TheVariants as stmt
use Rattle.rr_syntax.specs.Tree.{Statement}
use Rattle.rr_syntax.specs.View.{plain, plain_list, plain_statement, plain_statements, plain_arm, plain_arms}
use Rattle.rr_syntax.proofs.Rows.{plain_block, plain_case}
use Rattle.rr_expr.specs.Faults.{fault}
use Rattle.rr_expr.specs.Reading.{NamesBit, NamesBits}
use Rattle.rr_expr.specs.Scopes.{Names}
use Rattle.rr_flat.specs.Reads.{StatementReads, StatementsRead, ArmsRead, TargetReads}
use Rattle.rr_flat.specs.Shapes.{list_faults, statement_faults, statements_faults, arms_faults}
use Rattle.rr_named_bits.specs.declared.piece.Reach.{Reach}
use Rattle.rr_named_bits.specs.Lists.{Grown}
use Rattle.rr_named_bits.proofs.Growing.{grown_none, grown_both, grown_same, rest_is}
use Rattle.rr_writers.proofs.Statements.{shaped-If, shaped-IfElse, labels_shaped, statements_shaped, arms_shaped}
use denote.Ref.{Bor}

pub shaped-Test : (s : Names) (t : Bor Expr) (y : Bor Stmt) (n : Option (Bor Stmt)) → statement_faults s (plain_statement (stmt.If t y n)) ≡ [] → fault s (plain t.now) false ≡ None
shaped-Test s t y None h = (shaped-If s t y h).0
shaped-Test s t y (Some n) h = (shaped-IfElse s t y n h).0

pub reads-Null : (s : Names) (ps : List Reach) → Grown ps ps (StatementReads s (plain_statement stmt.Null))
unfolding plain_statement StatementReads
reads-Null s ps = grown_none ps (StatementReads s (plain_statement stmt.Null)) (λ b r. r)

pub reads-For : (s : Names) (head : Head) (body : Bor Stmt) (ps : List Reach) → Grown ps ps (StatementReads s (plain_statement (stmt.For head body)))
unfolding plain_statement StatementReads
reads-For s head body ps = grown_none ps (StatementReads s (plain_statement (stmt.For head body))) (λ b r. r)

pub reads-Block : (s : Names) (label : Option Named) (body : Bor (List Stmt)) (ps qs : List Reach) → Grown ps qs (StatementsRead s (plain_statements body.now)) → Grown ps qs (StatementReads s (plain_statement (stmt.Block label body)))
unfolding StatementReads
reads-Block s label body ps qs g =
    let P : Statement → Type 0 = λ z. Grown ps qs (StatementReads s z) in
    subst P (sym (plain_block label body)) (grown_same ps qs (StatementsRead s (plain_statements body.now)) _ g (λ b r. r) (λ b r. r))

reads-If : (s : Names) (t : Bor Expr) (y : Bor Stmt) (ps qs rs : List Reach) → Grown ps qs (NamesBit s (plain t.now)) → Grown qs rs (StatementReads s (plain_statement y.now)) → Grown ps rs (StatementReads s (plain_statement (stmt.If t y None)))
unfolding plain_statement StatementReads
reads-If s t y ps qs rs g h =
    grown_both ps qs rs (NamesBit s (plain t.now)) (StatementReads s (plain_statement y.now)) (StatementReads s (plain_statement (stmt.If t y None))) g h (λ b r. inl r) (λ b r. inr r) (λ b r. r)

reads-IfElse : (s : Names) (t : Bor Expr) (y n : Bor Stmt) (ps qs rs ts : List Reach) → Grown ps qs (NamesBit s (plain t.now)) → Grown qs rs (StatementReads s (plain_statement y.now)) → Grown rs ts (StatementReads s (plain_statement n.now))
    → Grown ps ts (StatementReads s (plain_statement (stmt.If t y (Some n))))
unfolding plain_statement StatementReads
reads-IfElse s t y n ps qs rs ts g h k =
    grown_both ps qs ts (NamesBit s (plain t.now)) (λ b. StatementReads s (plain_statement y.now) b ⊎ StatementReads s (plain_statement n.now) b) (StatementReads s (plain_statement (stmt.If t y (Some n)))) g
    (grown_both qs rs ts (StatementReads s (plain_statement y.now)) (StatementReads s (plain_statement n.now)) (λ b. StatementReads s (plain_statement y.now) b ⊎ StatementReads s (plain_statement n.now) b) h k (λ b r. inl r) (λ b r. inr r) (λ b r. r))
    (λ b r. inl r) (λ b r. inr r) (λ b r. r)

pub reads-Alone : (s : Names) (t : Bor Expr) (y : Bor Stmt) (other : Option (Bor Stmt)) (ps qs rs : List Reach) → other ≡ None → Grown ps qs (NamesBit s (plain t.now)) → Grown qs rs (StatementReads s (plain_statement y.now))
    → Grown ps rs (StatementReads s (plain_statement (stmt.If t y other)))
reads-Alone s t y other ps qs rs e g h =
    let P : Option (Bor Stmt) → Type 0 = λ z. Grown ps rs (StatementReads s (plain_statement (stmt.If t y z))) in
    subst P (sym e) (reads-If s t y ps qs rs g h)

pub reads-Both : (s : Names) (t : Bor Expr) (y n : Bor Stmt) (other : Option (Bor Stmt)) (ps qs rs ts : List Reach) → other ≡ Some n → Grown ps qs (NamesBit s (plain t.now)) → Grown qs rs (StatementReads s (plain_statement y.now))
    → Grown rs ts (StatementReads s (plain_statement n.now)) → Grown ps ts (StatementReads s (plain_statement (stmt.If t y other)))
reads-Both s t y n other ps qs rs ts e g h k =
    let P : Option (Bor Stmt) → Type 0 = λ z. Grown ps ts (StatementReads s (plain_statement (stmt.If t y z))) in
    subst P (sym e) (reads-IfElse s t y n ps qs rs ts g h k)

pub reads-Case : (s : Names) (kind : Keyword) (t : Bor Expr) (arms : Bor (List Branch)) (ps qs rs : List Reach) → Grown ps qs (NamesBit s (plain t.now)) → Grown qs rs (ArmsRead s (plain_arms arms.now))
    → Grown ps rs (StatementReads s (plain_statement (stmt.Case kind t arms)))
unfolding StatementReads
reads-Case s kind t arms ps qs rs g h =
    let P : Statement → Type 0 = λ z. Grown ps rs (StatementReads s z) in
    subst P (sym (plain_case kind t arms)) (grown_both ps qs rs (NamesBit s (plain t.now)) (ArmsRead s (plain_arms arms.now)) _ g h (λ b r. inl r) (λ b r. inr r) (λ b r. r))

pub reads-Assign : (s : Names) (t : Bor Expr) (now : Bool) (v : Bor Expr) (ps qs rs : List Reach) → Grown ps qs (TargetReads s (plain t.now)) → Grown qs rs (NamesBit s (plain v.now)) → Grown ps rs (StatementReads s (plain_statement (stmt.Assign t now v)))
unfolding plain_statement StatementReads
reads-Assign s t now v ps qs rs g h =
    grown_both ps qs rs (TargetReads s (plain t.now)) (NamesBit s (plain v.now)) (StatementReads s (plain_statement (stmt.Assign t now v))) g h (λ b r. inl r) (λ b r. inr r) (λ b r. r)

-- lists

pub record BodyLeft (s : Names) (xs : List Stmt) (i : ℕ) (start now : List Reach) : Type 0 where
  pub shaped : statements_faults s (plain_statements (drop i xs)) ≡ []
  pub left : (end : List Reach) → Grown now end (StatementsRead s (plain_statements (drop i xs))) → Grown start end (StatementsRead s (plain_statements xs))

pub body_here : (s : Names) (xs : List Stmt) (i : ℕ) (x : Stmt) (start now : List Reach) → i < length xs → x ≡ get_or xs i x → BodyLeft s xs i start now → statement_faults s (plain_statement x) ≡ []
body_here s xs i x start now l e n = (statements_shaped s x (drop (i + 1) xs) (sym (ap (λ z. statements_faults s (plain_statements z)) (rest_is xs i x l e)) ∙ n.shaped)).0

pub body_start : (s : Names) (xs : List Stmt) (start : List Reach) → statements_faults s (plain_statements xs) ≡ [] → BodyLeft s xs 0 start start
body_start s xs start h = record { shaped = h; left = λ end g. g }

pub body_more : (s : Names) (xs : List Stmt) (i : ℕ) (x : Stmt) (start now next : List Reach) → i < length xs → x ≡ get_or xs i x → BodyLeft s xs i start now → Grown now next (StatementReads s (plain_statement x)) → BodyLeft s xs (i + 1) start next
unfolding plain_statements StatementReads
body_more s xs i x start now next l e n g = record {
  shaped = (statements_shaped s x (drop (i + 1) xs) (sym (ap (λ z. statements_faults s (plain_statements z)) (rest_is xs i x l e)) ∙ n.shaped)).1;
  left = λ end h.
      let P : List Stmt → Type 0 = λ z. Grown now end (StatementsRead s (plain_statements z)) in
      n.left end (subst P (sym (rest_is xs i x l e))
      (grown_both now next end (StatementReads s (plain_statement x)) (StatementsRead s (plain_statements (drop (i + 1) xs))) (StatementsRead s (plain_statements (x ∷ drop (i + 1) xs))) g h (λ b r. inl r) (λ b r. inr r) (λ b r. r)));
}

pub body_done : (s : Names) (xs : List Stmt) (i : ℕ) (start now : List Reach) → length xs ≤ i → BodyLeft s xs i start now → Grown start now (StatementsRead s (plain_statements xs))
unfolding plain_statements StatementReads
body_done s xs i start now l n =
    let P : List Stmt → Type 0 = λ z. Grown now now (StatementsRead s (plain_statements z)) in
    n.left now (subst P (sym (drop_all i xs l)) (grown_none now (StatementsRead s (plain_statements [])) (λ b r. r)))

pub record ArmsLeft (s : Names) (xs : List Branch) (i : ℕ) (start now : List Reach) : Type 0 where
  pub shaped : arms_faults s (plain_arms (drop i xs)) ≡ []
  pub left : (end : List Reach) → Grown now end (ArmsRead s (plain_arms (drop i xs))) → Grown start end (ArmsRead s (plain_arms xs))

pub arms_start : (s : Names) (xs : List Branch) (start : List Reach) → arms_faults s (plain_arms xs) ≡ [] → ArmsLeft s xs 0 start start
arms_start s xs start h = record { shaped = h; left = λ end g. g }

pub arms_here : (s : Names) (xs : List Branch) (i : ℕ) (x : Branch) (start now : List Reach) → i < length xs → x ≡ get_or xs i x → ArmsLeft s xs i start now
    → (list_faults s (plain_list x.labels.now) ≡ []) × (statement_faults s (plain_statement x.body.now) ≡ [])
arms_here s xs i x start now l e n = let r = arms_shaped s x (drop (i + 1) xs) (sym (ap (λ z. arms_faults s (plain_arms z)) (rest_is xs i x l e)) ∙ n.shaped) in (r.0, r.1)

pub arms_more : (s : Names) (xs : List Branch) (i : ℕ) (x : Branch) (start now mid next : List Reach) → i < length xs → x ≡ get_or xs i x → ArmsLeft s xs i start now → Grown now mid (NamesBits s (plain_list x.labels.now))
    → Grown mid next (StatementReads s (plain_statement x.body.now)) → ArmsLeft s xs (i + 1) start next
unfolding plain_arms plain_arm StatementReads
arms_more s xs i x start now mid next l e n f g = record {
  shaped = (arms_shaped s x (drop (i + 1) xs) (sym (ap (λ z. arms_faults s (plain_arms z)) (rest_is xs i x l e)) ∙ n.shaped)).2;
  left = λ end h.
      let P : List Branch → Type 0 = λ z. Grown now end (ArmsRead s (plain_arms z)) in
      let k : Grown now next (λ b. NamesBits s (plain_list x.labels.now) b ⊎ StatementReads s (plain_statement x.body.now) b) =
      grown_both now mid next (NamesBits s (plain_list x.labels.now)) (StatementReads s (plain_statement x.body.now)) (λ b. NamesBits s (plain_list x.labels.now) b ⊎ StatementReads s (plain_statement x.body.now) b) f g (λ b r. inl r) (λ b r. inr r) (λ b r. r) in
      n.left end (subst P (sym (rest_is xs i x l e))
      (grown_both now next end (λ b. NamesBits s (plain_list x.labels.now) b ⊎ StatementReads s (plain_statement x.body.now) b) (ArmsRead s (plain_arms (drop (i + 1) xs))) (ArmsRead s (plain_arms (x ∷ drop (i + 1) xs))) k h (λ b r. inl r) (λ b r. inr r) (λ b r. r)));
}

pub arms_done : (s : Names) (xs : List Branch) (i : ℕ) (start now : List Reach) → length xs ≤ i → ArmsLeft s xs i start now → Grown start now (ArmsRead s (plain_arms xs))
unfolding plain_arms StatementReads
arms_done s xs i start now l n =
    let P : List Branch → Type 0 = λ z. Grown now now (ArmsRead s (plain_arms z)) in
    n.left now (subst P (sym (drop_all i xs l)) (grown_none now (ArmsRead s (plain_arms [])) (λ b r. r)))

pub record LabelsLeft (s : Names) (xs : List Expr) (i : ℕ) (start now : List Reach) : Type 0 where
  pub shaped : list_faults s (plain_list (drop i xs)) ≡ []
  pub left : (end : List Reach) → Grown now end (NamesBits s (plain_list (drop i xs))) → Grown start end (NamesBits s (plain_list xs))

pub labels_start : (s : Names) (xs : List Expr) (start : List Reach) → list_faults s (plain_list xs) ≡ [] → LabelsLeft s xs 0 start start
labels_start s xs start h = record { shaped = h; left = λ end g. g }

pub labels_here : (s : Names) (xs : List Expr) (i : ℕ) (x : Expr) (start now : List Reach) → i < length xs → x ≡ get_or xs i x → LabelsLeft s xs i start now → fault s (plain x) false ≡ None
labels_here s xs i x start now l e n = (labels_shaped s x (drop (i + 1) xs) (sym (ap (λ z. list_faults s (plain_list z)) (rest_is xs i x l e)) ∙ n.shaped)).0

pub labels_more : (s : Names) (xs : List Expr) (i : ℕ) (x : Expr) (start now next : List Reach) → i < length xs → x ≡ get_or xs i x → LabelsLeft s xs i start now → Grown now next (NamesBit s (plain x)) → LabelsLeft s xs (i + 1) start next
unfolding plain_list NamesBit
labels_more s xs i x start now next l e n g = record {
  shaped = (labels_shaped s x (drop (i + 1) xs) (sym (ap (λ z. list_faults s (plain_list z)) (rest_is xs i x l e)) ∙ n.shaped)).1;
  left = λ end h.
      let P : List Expr → Type 0 = λ z. Grown now end (NamesBits s (plain_list z)) in
      n.left end (subst P (sym (rest_is xs i x l e))
      (grown_both now next end (NamesBit s (plain x)) (NamesBits s (plain_list (drop (i + 1) xs))) (NamesBits s (plain_list (x ∷ drop (i + 1) xs))) g h (λ b r. inl r) (λ b r. inr r) (λ b r. r)));
}

pub labels_done : (s : Names) (xs : List Expr) (i : ℕ) (start now : List Reach) → length xs ≤ i → LabelsLeft s xs i start now → Grown start now (NamesBits s (plain_list xs))
unfolding plain_list NamesBit
labels_done s xs i start now l n =
    let P : List Expr → Type 0 = λ z. Grown now now (NamesBits s (plain_list z)) in
    n.left now (subst P (sym (drop_all i xs l)) (grown_none now (NamesBits s (plain_list [])) (λ b r. r)))
