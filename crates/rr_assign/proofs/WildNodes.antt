-- The wild literals of nodes of the arena, one equation for each form.
use Rattle.std.proofs.Common.{◌≡◌, ◌∙◌, sym, ap, ℕ, Bool, true, false, List, [], ◌∷◌, ◌++◌, Option, None, Some, refl, append_assoc}
use Rattle.std.specs.Prelude.{flat_map}
use Rattle.std.specs.Option.{option_or}
use Rattle.rr_syntax.specs.declared.token.Keyword.{Keyword}
use Rattle.rr_syntax.specs.declared.token.Mark.{Mark}
use Rattle.rr_syntax.specs.declared.token.Number.{Number}
use Rattle.rr_syntax.specs.declared.tree.Arm.{Arm as Branch}
use Rattle.rr_syntax.specs.declared.tree.Expr.{Expr, the_lemmas as expr_lemmas}
use Rattle.rr_syntax.specs.declared.tree.Expr.TheVariants as expr
use Rattle.rr_syntax.specs.declared.tree.Named.{Named as Name}
use Rattle.rr_syntax.specs.declared.tree.Head.{Head}
use Rattle.rr_syntax.specs.declared.tree.Stmt.{Stmt, the_lemmas as stmt_lemmas}
use Rattle.rr_syntax.specs.declared.tree.Stmt.TheVariants as stmt
use Rattle.rr_syntax.specs.View.{plain, plain_list, plain_statement, plain_statements, plain_arm, plain_arms}
use Rattle.rr_syntax.proofs.Rows.{plain_concat, plain_repeat, plain_block, plain_case}
use Rattle.rr_flat.specs.Lawful.{has_wild}
use Rattle.rr_flat.specs.Reads.{LiteralToken, literals_in, literals_in_parts}
use Rattle.rr_text_names.specs.Firsts.{earliest}
use Rattle.rr_assign.specs.Labels.{wild, wild_literal, wild_label, wild_labels, wild_in, wild_in_all, wild_in_arms}
use Rattle.rr_text_names.proofs.Walks.{earliest_append}
use denote.Ref.{Bor}

wild_cons : (l : LiteralToken) (xs ys : List LiteralToken) → wild (xs ++ ys) ≡ wild xs ++ wild ys → (b : Bool) → has_wild l.number ≡ b
    → wild (l ∷ (xs ++ ys)) ≡ wild (l ∷ xs) ++ wild ys
unfolding wild
wild_cons l xs ys h true e = rw (e, h) refl
wild_cons l xs ys h false e = rw (e, h) refl

no_literals : wild [] ≡ []
unfolding wild
no_literals = refl

pub wild_append : (xs ys : List LiteralToken) → wild (xs ++ ys) ≡ wild xs ++ wild ys
wild_append [] ys = rw no_literals refl
wild_append (x ∷ xs) ys = wild_cons x xs ys (wild_append xs ys) (has_wild x.number) refl

-- of an expression

abbrev Found : Expr → Option ℕ
Found e = earliest (wild (literals_in (plain e)))

pub found_two : (xs ys : List LiteralToken) → earliest (wild (xs ++ ys)) ≡ option_or (earliest (wild xs)) (earliest (wild ys))
found_two xs ys = ap earliest (wild_append xs ys) ∙ earliest_append (wild xs) (wild ys)

pub found-Name : (token : ℕ) (name : Bor (List ℕ)) → Found (expr.Name token name) ≡ None
unfolding plain literals_in wild earliest
found-Name token name = refl

pub found-Literal-wild : (token : ℕ) (n : Number) → has_wild n ≡ true → Found (expr.Literal token n) ≡ Some token
unfolding plain literals_in wild earliest
found-Literal-wild token n e = rw e refl

pub found-Literal-tame : (token : ℕ) (n : Number) → has_wild n ≡ false → Found (expr.Literal token n) ≡ None
unfolding plain literals_in wild earliest
found-Literal-tame token n e = rw e refl

pub found-Bit : (token : ℕ) (name : Bor (List ℕ)) (i : Bor Expr) → Found (expr.Bit token name i) ≡ Found i.now
unfolding plain literals_in
found-Bit token name i = refl

pub found-Part : (token : ℕ) (name : Bor (List ℕ)) (l r : Bor Expr) → Found (expr.Part token name l r) ≡ option_or (Found l.now) (Found r.now)
unfolding plain literals_in
found-Part token name l r = found_two (literals_in (plain l.now)) (literals_in (plain r.now))

pub found-Indexed : (token : ℕ) (name : Bor (List ℕ)) (f n : Bor Expr) (up : Bool) → Found (expr.Indexed token name f n up) ≡ option_or (Found f.now) (Found n.now)
unfolding plain literals_in
found-Indexed token name f n up = found_two (literals_in (plain f.now)) (literals_in (plain n.now))

pub found-Unary : (op : Mark) (t : Bor Expr) → Found (expr.Unary op t) ≡ Found t.now
unfolding plain literals_in
found-Unary op t = refl

pub found-Binary : (op : Mark) (l r : Bor Expr) → Found (expr.Binary op l r) ≡ option_or (Found l.now) (Found r.now)
unfolding plain literals_in
found-Binary op l r = found_two (literals_in (plain l.now)) (literals_in (plain r.now))

pub found-Cond : (a b c : Bor Expr) → Found (expr.Cond a b c) ≡ option_or (option_or (Found a.now) (Found b.now)) (Found c.now)
unfolding plain literals_in
found-Cond a b c =
    ap (λ z. earliest (wild z)) (sym (append_assoc (literals_in (plain a.now)) (literals_in (plain b.now)) (literals_in (plain c.now))))
    ∙ (found_two (literals_in (plain a.now) ++ literals_in (plain b.now)) (literals_in (plain c.now))
    ∙ ap (λ z. option_or z (earliest (wild (literals_in (plain c.now))))) (found_two (literals_in (plain a.now)) (literals_in (plain b.now))))

pub found-Concat : (ts : Bor (List Expr)) → Found (expr.Concat ts) ≡ earliest (wild (literals_in_parts (plain_list ts.now)))
unfolding literals_in
found-Concat ts = ap (λ t. earliest (wild (literals_in t))) (plain_concat ts)

pub found-Repeat : (n : Bor Expr) (ts : Bor (List Expr)) → Found (expr.Repeat n ts) ≡ option_or (Found n.now) (earliest (wild (literals_in_parts (plain_list ts.now))))
unfolding literals_in
found-Repeat n ts = ap (λ t. earliest (wild (literals_in t))) (plain_repeat n ts) ∙ found_two (literals_in (plain n.now)) (literals_in_parts (plain_list ts.now))

pub found-Cast : (signed : Bool) (t : Bor Expr) → Found (expr.Cast signed t) ≡ Found t.now
unfolding plain literals_in
found-Cast signed t = refl

pub found-Paren : (t : Bor Expr) → Found (expr.Paren t) ≡ Found t.now
unfolding plain literals_in
found-Paren t = refl

pub ruleset wild_nodes = (expr_lemmas, found-Name, found-Literal-wild, found-Literal-tame, found-Bit, found-Part, found-Indexed, found-Unary, found-Binary, found-Cond, found-Concat, found-Repeat, found-Cast, found-Paren)

pub found_list : (xs : List Expr) → wild (literals_in_parts (plain_list xs)) ≡ flat_map (λ x. wild (literals_in (plain x))) xs
unfolding literals_in plain_list
found_list [] = no_literals
found_list (x ∷ xs) = wild_append (literals_in (plain x)) (literals_in_parts (plain_list xs)) ∙ ap (λ z. wild (literals_in (plain x)) ++ z) (found_list xs)

-- of a label

pub label-Paren : (kind : ℕ) (t : Bor Expr) → wild_label kind (plain (expr.Paren t)) ≡ wild_label kind (plain t.now)
unfolding plain wild_label
label-Paren kind t = refl

pub label-Literal : (kind token : ℕ) (n : Number) → wild_label kind (plain (expr.Literal token n)) ≡ wild_literal kind token n
unfolding plain wild_label
label-Literal kind token n = refl

pub label-Name : (kind token : ℕ) (name : Bor (List ℕ)) → earliest (wild_label kind (plain (expr.Name token name))) ≡ None
unfolding plain wild_label earliest
label-Name kind token name = refl

pub label-Bit : (kind token : ℕ) (name : Bor (List ℕ)) (i : Bor Expr) → wild_label kind (plain (expr.Bit token name i)) ≡ wild (literals_in (plain (expr.Bit token name i)))
unfolding plain wild_label
label-Bit kind token name i = refl

pub label-Part : (kind token : ℕ) (name : Bor (List ℕ)) (l r : Bor Expr) → wild_label kind (plain (expr.Part token name l r)) ≡ wild (literals_in (plain (expr.Part token name l r)))
unfolding plain wild_label
label-Part kind token name l r = refl

pub label-Indexed : (kind token : ℕ) (name : Bor (List ℕ)) (f n : Bor Expr) (up : Bool) → wild_label kind (plain (expr.Indexed token name f n up)) ≡ wild (literals_in (plain (expr.Indexed token name f n up)))
unfolding plain wild_label
label-Indexed kind token name f n up = refl

pub label-Unary : (kind : ℕ) (op : Mark) (t : Bor Expr) → wild_label kind (plain (expr.Unary op t)) ≡ wild (literals_in (plain (expr.Unary op t)))
unfolding plain wild_label
label-Unary kind op t = refl

pub label-Binary : (kind : ℕ) (op : Mark) (l r : Bor Expr) → wild_label kind (plain (expr.Binary op l r)) ≡ wild (literals_in (plain (expr.Binary op l r)))
unfolding plain wild_label
label-Binary kind op l r = refl

pub label-Cond : (kind : ℕ) (a b c : Bor Expr) → wild_label kind (plain (expr.Cond a b c)) ≡ wild (literals_in (plain (expr.Cond a b c)))
unfolding plain wild_label
label-Cond kind a b c = refl

pub label-Concat : (kind : ℕ) (ts : Bor (List Expr)) → wild_label kind (plain (expr.Concat ts)) ≡ wild (literals_in (plain (expr.Concat ts)))
unfolding wild_label
label-Concat kind ts = rw (plain_concat ts) refl

pub label-Repeat : (kind : ℕ) (n : Bor Expr) (ts : Bor (List Expr)) → wild_label kind (plain (expr.Repeat n ts)) ≡ wild (literals_in (plain (expr.Repeat n ts)))
unfolding wild_label
label-Repeat kind n ts = rw (plain_repeat n ts) refl

pub label-Cast : (kind : ℕ) (signed : Bool) (t : Bor Expr) → wild_label kind (plain (expr.Cast signed t)) ≡ wild (literals_in (plain (expr.Cast signed t)))
unfolding plain wild_label
label-Cast kind signed t = refl

pub ruleset label_nodes = (expr_lemmas, label-Paren, label-Literal, label-Name, label-Bit, label-Part, label-Indexed, label-Unary, label-Binary, label-Cond, label-Concat, label-Repeat, label-Cast)

pub labels_list : (kind : ℕ) (xs : List Expr) → wild_labels kind (plain_list xs) ≡ flat_map (λ x. wild_label kind (plain x)) xs
unfolding wild_labels plain_list
labels_list kind [] = refl
labels_list kind (x ∷ xs) = ap (λ z. wild_label kind (plain x) ++ z) (labels_list kind xs)

-- of a statement

pub in-Null : earliest (wild_in (plain_statement stmt.Null)) ≡ None
unfolding plain_statement wild_in earliest
in-Null = refl

pub in-Assign : (t : Bor Expr) (now : Bool) (v : Bor Expr) → earliest (wild_in (plain_statement (stmt.Assign t now v))) ≡ None
unfolding plain_statement wild_in earliest
in-Assign t now v = refl

pub in-Block : (label : Option Name) (body : Bor (List Stmt)) → wild_in (plain_statement (stmt.Block label body)) ≡ wild_in_all (plain_statements body.now)
unfolding wild_in
in-Block label body = ap wild_in (plain_block label body)

pub in-If : (t : Bor Expr) (y : Bor Stmt) → wild_in (plain_statement (stmt.If t y None)) ≡ wild_in (plain_statement y.now)
unfolding plain_statement wild_in
in-If t y = refl

pub in-IfElse : (t : Bor Expr) (y n : Bor Stmt) → earliest (wild_in (plain_statement (stmt.If t y (Some n)))) ≡ option_or (earliest (wild_in (plain_statement y.now))) (earliest (wild_in (plain_statement n.now)))
unfolding plain_statement wild_in
in-IfElse t y n = earliest_append (wild_in (plain_statement y.now)) (wild_in (plain_statement n.now))

pub in-Case : (kind : Keyword) (t : Bor Expr) (arms : Bor (List Branch)) → wild_in (plain_statement (stmt.Case kind t arms)) ≡ wild_in_arms kind.0 (plain_arms arms.now)
unfolding wild_in
in-Case kind t arms = ap wild_in (plain_case kind t arms)

pub in-For : (h : Head) (b : Bor Stmt) → earliest (wild_in (plain_statement (stmt.For h b))) ≡ None
unfolding plain_statement wild_in earliest
in-For h b = refl

pub ruleset statement_nodes = (stmt_lemmas, in-Null, in-Assign, in-Block, in-If, in-IfElse, in-Case, in-For)

pub in_list : (xs : List Stmt) → wild_in_all (plain_statements xs) ≡ flat_map (λ x. wild_in (plain_statement x)) xs
unfolding wild_in plain_statements
in_list [] = refl
in_list (x ∷ xs) = ap (λ z. wild_in (plain_statement x) ++ z) (in_list xs)

-- of an arm: its labels, then its statement
abbrev pub arm_wild : ℕ → Branch → List ℕ
arm_wild kind x = wild_labels kind (plain_list x.labels.now) ++ wild_in (plain_statement x.body.now)

pub in_arms : (kind : ℕ) (xs : List Branch) → wild_in_arms kind (plain_arms xs) ≡ flat_map (arm_wild kind) xs
unfolding wild_in plain_arms plain_arm
in_arms kind [] = refl
in_arms kind (x ∷ xs) = ap (λ z. arm_wild kind x ++ z) (in_arms kind xs)
