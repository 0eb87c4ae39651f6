-- The names of nodes of the arena, one equation for each form.
use Rattle.std.proofs.Common.{◌≡◌, ◌∙◌, sym, ap, ℕ, Bool, List, [], ◌∷◌, ◌++◌, Option, None, Some, refl, append_assoc, append-nil}
use Rattle.std.specs.Prelude.{flat_map}
use Rattle.rr_syntax.specs.declared.token.Keyword.{Keyword}
use Rattle.rr_syntax.specs.declared.token.Mark.{Mark}
use Rattle.rr_syntax.specs.declared.token.Number.{Number}
use Rattle.rr_syntax.specs.declared.tree.Arm.{Arm as Branch}
use Rattle.rr_syntax.specs.declared.tree.Expr.{Expr, the_lemmas as expr_lemmas}
use Rattle.rr_syntax.specs.declared.tree.Expr.TheVariants as expr
use Rattle.rr_syntax.specs.declared.tree.Named.{Named as Name}
use Rattle.rr_syntax.specs.declared.tree.Head.{Head}
use Rattle.rr_syntax.specs.declared.tree.Stmt.{Stmt, the_lemmas as stmt_lemmas}
use Rattle.rr_syntax.specs.declared.tree.Stmt.TheVariants as stmt
use Rattle.rr_syntax.specs.Tree.{Identifier}
use Rattle.rr_syntax.specs.View.{plain, plain_list, plain_statement, plain_statements, plain_arm, plain_arms}
use Rattle.rr_syntax.proofs.Rows.{plain_concat, plain_repeat, plain_block, plain_case}
use Rattle.rr_flat.specs.Reads.{index_names, index_names_in, names_in, names_in_parts, names_of, names_of_all, names_of_arms, names_read, names_read_by, names_read_by_arms}
use denote.Ref.{Bor}

three : (acc xs ys zs : List Identifier) → acc ++ (xs ++ (ys ++ zs)) ≡ ((acc ++ xs) ++ ys) ++ zs
three acc xs ys zs = sym (append_assoc acc xs (ys ++ zs)) ∙ sym (append_assoc (acc ++ xs) ys zs)

-- of an expression

pub names-Name : (acc : List Identifier) (token : ℕ) (name : Bor (List ℕ)) → acc ++ names_in (plain (expr.Name token name)) ≡ acc ++ record { token = token; text = name.now } ∷ []
unfolding plain names_in
names-Name acc token name = refl

pub names-Literal : (acc : List Identifier) (token : ℕ) (n : Number) → acc ++ names_in (plain (expr.Literal token n)) ≡ acc
unfolding plain names_in
names-Literal acc token n = append-nil acc

pub names-Bit : (acc : List Identifier) (token : ℕ) (name : Bor (List ℕ)) (i : Bor Expr) → acc ++ names_in (plain (expr.Bit token name i)) ≡ (acc ++ record { token = token; text = name.now } ∷ []) ++ names_in (plain i.now)
unfolding plain names_in
names-Bit acc token name i = sym (append_assoc acc (record { token = token; text = name.now } ∷ []) (names_in (plain i.now)))

pub names-Part : (acc : List Identifier) (token : ℕ) (name : Bor (List ℕ)) (l r : Bor Expr) → acc ++ names_in (plain (expr.Part token name l r)) ≡ ((acc ++ record { token = token; text = name.now } ∷ []) ++ names_in (plain l.now)) ++ names_in (plain r.now)
unfolding plain names_in
names-Part acc token name l r = three acc (record { token = token; text = name.now } ∷ []) (names_in (plain l.now)) (names_in (plain r.now))

pub names-Indexed : (acc : List Identifier) (token : ℕ) (name : Bor (List ℕ)) (f n : Bor Expr) (up : Bool) → acc ++ names_in (plain (expr.Indexed token name f n up)) ≡ ((acc ++ record { token = token; text = name.now } ∷ []) ++ names_in (plain f.now)) ++ names_in (plain n.now)
unfolding plain names_in
names-Indexed acc token name f n up = three acc (record { token = token; text = name.now } ∷ []) (names_in (plain f.now)) (names_in (plain n.now))

pub names-Unary : (acc : List Identifier) (op : Mark) (t : Bor Expr) → acc ++ names_in (plain (expr.Unary op t)) ≡ acc ++ names_in (plain t.now)
unfolding plain names_in
names-Unary acc op t = refl

pub names-Binary : (acc : List Identifier) (op : Mark) (l r : Bor Expr) → acc ++ names_in (plain (expr.Binary op l r)) ≡ (acc ++ names_in (plain l.now)) ++ names_in (plain r.now)
unfolding plain names_in
names-Binary acc op l r = sym (append_assoc acc (names_in (plain l.now)) (names_in (plain r.now)))

pub names-Cond : (acc : List Identifier) (a b c : Bor Expr) → acc ++ names_in (plain (expr.Cond a b c)) ≡ ((acc ++ names_in (plain a.now)) ++ names_in (plain b.now)) ++ names_in (plain c.now)
unfolding plain names_in
names-Cond acc a b c = three acc (names_in (plain a.now)) (names_in (plain b.now)) (names_in (plain c.now))

pub names-Concat : (acc : List Identifier) (ts : Bor (List Expr)) → acc ++ names_in (plain (expr.Concat ts)) ≡ acc ++ names_in_parts (plain_list ts.now)
unfolding names_in
names-Concat acc ts = ap (λ t. acc ++ names_in t) (plain_concat ts)

pub names-Repeat : (acc : List Identifier) (n : Bor Expr) (ts : Bor (List Expr)) → acc ++ names_in (plain (expr.Repeat n ts)) ≡ (acc ++ names_in (plain n.now)) ++ names_in_parts (plain_list ts.now)
unfolding names_in
names-Repeat acc n ts = ap (λ t. acc ++ names_in t) (plain_repeat n ts) ∙ sym (append_assoc acc (names_in (plain n.now)) (names_in_parts (plain_list ts.now)))

pub names-Cast : (acc : List Identifier) (signed : Bool) (t : Bor Expr) → acc ++ names_in (plain (expr.Cast signed t)) ≡ acc ++ names_in (plain t.now)
unfolding plain names_in
names-Cast acc signed t = refl

pub names-Paren : (acc : List Identifier) (t : Bor Expr) → acc ++ names_in (plain (expr.Paren t)) ≡ acc ++ names_in (plain t.now)
unfolding plain names_in
names-Paren acc t = refl

pub ruleset name_nodes = (expr_lemmas, names-Name, names-Literal, names-Bit, names-Part, names-Indexed, names-Unary, names-Binary, names-Cond, names-Concat, names-Repeat, names-Cast, names-Paren)

pub names_list : (xs : List Expr) → names_in_parts (plain_list xs) ≡ flat_map (λ x. names_in (plain x)) xs
unfolding names_in plain_list
names_list [] = refl
names_list (x ∷ xs) = ap (λ z. names_in (plain x) ++ z) (names_list xs)

-- of a statement

pub named-Null : (acc : List Identifier) → acc ++ names_of (plain_statement stmt.Null) ≡ acc
unfolding plain_statement names_of
named-Null acc = append-nil acc

pub named-Block : (acc : List Identifier) (label : Option Name) (body : Bor (List Stmt)) → acc ++ names_of (plain_statement (stmt.Block label body)) ≡ acc ++ names_of_all (plain_statements body.now)
unfolding names_of
named-Block acc label body = ap (λ p. acc ++ names_of p) (plain_block label body)

pub named-If : (acc : List Identifier) (t : Bor Expr) (y : Bor Stmt) → acc ++ names_of (plain_statement (stmt.If t y None)) ≡ (acc ++ names_in (plain t.now)) ++ names_of (plain_statement y.now)
unfolding plain_statement names_of
named-If acc t y = sym (append_assoc acc (names_in (plain t.now)) (names_of (plain_statement y.now)))

pub named-IfElse : (acc : List Identifier) (t : Bor Expr) (y n : Bor Stmt) → acc ++ names_of (plain_statement (stmt.If t y (Some n))) ≡ ((acc ++ names_in (plain t.now)) ++ names_of (plain_statement y.now)) ++ names_of (plain_statement n.now)
unfolding plain_statement names_of
named-IfElse acc t y n = three acc (names_in (plain t.now)) (names_of (plain_statement y.now)) (names_of (plain_statement n.now))

pub named-Case : (acc : List Identifier) (kind : Keyword) (t : Bor Expr) (arms : Bor (List Branch)) → acc ++ names_of (plain_statement (stmt.Case kind t arms)) ≡ (acc ++ names_in (plain t.now)) ++ names_of_arms (plain_arms arms.now)
unfolding names_of
named-Case acc kind t arms = ap (λ p. acc ++ names_of p) (plain_case kind t arms) ∙ sym (append_assoc acc (names_in (plain t.now)) (names_of_arms (plain_arms arms.now)))

pub named-Assign : (acc : List Identifier) (t : Bor Expr) (now : Bool) (v : Bor Expr) → acc ++ names_of (plain_statement (stmt.Assign t now v)) ≡ (acc ++ names_in (plain t.now)) ++ names_in (plain v.now)
unfolding plain_statement names_of
named-Assign acc t now v = sym (append_assoc acc (names_in (plain t.now)) (names_in (plain v.now)))

pub named-For : (acc : List Identifier) (h : Head) (b : Bor Stmt) → acc ++ names_of (plain_statement (stmt.For h b)) ≡ acc
unfolding plain_statement names_of
named-For acc h b = append-nil acc

pub ruleset named_nodes = (stmt_lemmas, named-Null, named-Block, named-If, named-IfElse, named-Case, named-Assign, named-For)

pub named_list : (xs : List Stmt) → names_of_all (plain_statements xs) ≡ flat_map (λ x. names_of (plain_statement x)) xs
unfolding names_of plain_statements
named_list [] = refl
named_list (x ∷ xs) = ap (λ z. names_of (plain_statement x) ++ z) (named_list xs)

-- of an arm: its labels, then its statement
abbrev pub arm_names : Branch → List Identifier
arm_names x = names_in_parts (plain_list x.labels.now) ++ names_of (plain_statement x.body.now)

pub named_arms : (xs : List Branch) → names_of_arms (plain_arms xs) ≡ flat_map arm_names xs
unfolding names_of plain_arms plain_arm
named_arms [] = refl
named_arms (x ∷ xs) = ap (λ z. arm_names x ++ z) (named_arms xs)

-- of the indices of a target

pub index-Name : (acc : List Identifier) (token : ℕ) (name : Bor (List ℕ)) → acc ++ index_names (plain (expr.Name token name)) ≡ acc
unfolding plain index_names
index-Name acc token name = append-nil acc

pub index-Literal : (acc : List Identifier) (token : ℕ) (n : Number) → acc ++ index_names (plain (expr.Literal token n)) ≡ acc
unfolding plain index_names
index-Literal acc token n = append-nil acc

pub index-Bit : (acc : List Identifier) (token : ℕ) (name : Bor (List ℕ)) (i : Bor Expr) → acc ++ index_names (plain (expr.Bit token name i)) ≡ acc ++ names_in (plain i.now)
unfolding plain index_names
index-Bit acc token name i = refl

pub index-Part : (acc : List Identifier) (token : ℕ) (name : Bor (List ℕ)) (l r : Bor Expr) → acc ++ index_names (plain (expr.Part token name l r)) ≡ (acc ++ names_in (plain l.now)) ++ names_in (plain r.now)
unfolding plain index_names
index-Part acc token name l r = sym (append_assoc acc (names_in (plain l.now)) (names_in (plain r.now)))

pub index-Indexed : (acc : List Identifier) (token : ℕ) (name : Bor (List ℕ)) (f n : Bor Expr) (up : Bool) → acc ++ index_names (plain (expr.Indexed token name f n up)) ≡ (acc ++ names_in (plain f.now)) ++ names_in (plain n.now)
unfolding plain index_names
index-Indexed acc token name f n up = sym (append_assoc acc (names_in (plain f.now)) (names_in (plain n.now)))

pub index-Unary : (acc : List Identifier) (op : Mark) (t : Bor Expr) → acc ++ index_names (plain (expr.Unary op t)) ≡ acc
unfolding plain index_names
index-Unary acc op t = append-nil acc

pub index-Binary : (acc : List Identifier) (op : Mark) (l r : Bor Expr) → acc ++ index_names (plain (expr.Binary op l r)) ≡ acc
unfolding plain index_names
index-Binary acc op l r = append-nil acc

pub index-Cond : (acc : List Identifier) (a b c : Bor Expr) → acc ++ index_names (plain (expr.Cond a b c)) ≡ acc
unfolding plain index_names
index-Cond acc a b c = append-nil acc

pub index-Concat : (acc : List Identifier) (ts : Bor (List Expr)) → acc ++ index_names (plain (expr.Concat ts)) ≡ acc ++ index_names_in (plain_list ts.now)
unfolding index_names
index-Concat acc ts = ap (λ t. acc ++ index_names t) (plain_concat ts)

pub index-Repeat : (acc : List Identifier) (n : Bor Expr) (ts : Bor (List Expr)) → acc ++ index_names (plain (expr.Repeat n ts)) ≡ acc
unfolding index_names
index-Repeat acc n ts = ap (λ t. acc ++ index_names t) (plain_repeat n ts) ∙ append-nil acc

pub index-Cast : (acc : List Identifier) (signed : Bool) (t : Bor Expr) → acc ++ index_names (plain (expr.Cast signed t)) ≡ acc
unfolding plain index_names
index-Cast acc signed t = append-nil acc

pub index-Paren : (acc : List Identifier) (t : Bor Expr) → acc ++ index_names (plain (expr.Paren t)) ≡ acc
unfolding plain index_names
index-Paren acc t = append-nil acc

pub ruleset index_nodes = (expr_lemmas, index-Name, index-Literal, index-Bit, index-Part, index-Indexed, index-Unary, index-Binary, index-Cond, index-Concat, index-Repeat, index-Cast, index-Paren)

pub index_list : (xs : List Expr) → index_names_in (plain_list xs) ≡ flat_map (λ x. index_names (plain x)) xs
unfolding index_names plain_list
index_list [] = refl
index_list (x ∷ xs) = ap (λ z. index_names (plain x) ++ z) (index_list xs)

-- of what a statement reads

pub read-Null : (acc : List Identifier) → acc ++ names_read (plain_statement stmt.Null) ≡ acc
unfolding plain_statement names_read
read-Null acc = append-nil acc

pub read-Block : (acc : List Identifier) (label : Option Name) (body : Bor (List Stmt)) → acc ++ names_read (plain_statement (stmt.Block label body)) ≡ acc ++ names_read_by (plain_statements body.now)
unfolding names_read
read-Block acc label body = ap (λ p. acc ++ names_read p) (plain_block label body)

pub read-If : (acc : List Identifier) (t : Bor Expr) (y : Bor Stmt) → acc ++ names_read (plain_statement (stmt.If t y None)) ≡ (acc ++ names_in (plain t.now)) ++ names_read (plain_statement y.now)
unfolding plain_statement names_read
read-If acc t y = sym (append_assoc acc (names_in (plain t.now)) (names_read (plain_statement y.now)))

pub read-IfElse : (acc : List Identifier) (t : Bor Expr) (y n : Bor Stmt) → acc ++ names_read (plain_statement (stmt.If t y (Some n))) ≡ ((acc ++ names_in (plain t.now)) ++ names_read (plain_statement y.now)) ++ names_read (plain_statement n.now)
unfolding plain_statement names_read
read-IfElse acc t y n = three acc (names_in (plain t.now)) (names_read (plain_statement y.now)) (names_read (plain_statement n.now))

pub read-Case : (acc : List Identifier) (kind : Keyword) (t : Bor Expr) (arms : Bor (List Branch)) → acc ++ names_read (plain_statement (stmt.Case kind t arms)) ≡ (acc ++ names_in (plain t.now)) ++ names_read_by_arms (plain_arms arms.now)
unfolding names_read
read-Case acc kind t arms = ap (λ p. acc ++ names_read p) (plain_case kind t arms) ∙ sym (append_assoc acc (names_in (plain t.now)) (names_read_by_arms (plain_arms arms.now)))

pub read-Assign : (acc : List Identifier) (t : Bor Expr) (now : Bool) (v : Bor Expr) → acc ++ names_read (plain_statement (stmt.Assign t now v)) ≡ (acc ++ index_names (plain t.now)) ++ names_in (plain v.now)
unfolding plain_statement names_read
read-Assign acc t now v = sym (append_assoc acc (index_names (plain t.now)) (names_in (plain v.now)))

pub read-For : (acc : List Identifier) (h : Head) (b : Bor Stmt) → acc ++ names_read (plain_statement (stmt.For h b)) ≡ acc
unfolding plain_statement names_read
read-For acc h b = append-nil acc

pub ruleset read_nodes = (stmt_lemmas, read-Null, read-Block, read-If, read-IfElse, read-Case, read-Assign, read-For)

pub read_list : (xs : List Stmt) → names_read_by (plain_statements xs) ≡ flat_map (λ x. names_read (plain_statement x)) xs
unfolding names_read plain_statements
read_list [] = refl
read_list (x ∷ xs) = ap (λ z. names_read (plain_statement x) ++ z) (read_list xs)

-- of an arm: its labels, then its statement
abbrev pub arm_reads : Branch → List Identifier
arm_reads x = names_in_parts (plain_list x.labels.now) ++ names_read (plain_statement x.body.now)

pub read_arms : (xs : List Branch) → names_read_by_arms (plain_arms xs) ≡ flat_map arm_reads xs
unfolding names_read plain_arms plain_arm
read_arms [] = refl
read_arms (x ∷ xs) = ap (λ z. arm_reads x ++ z) (read_arms xs)
