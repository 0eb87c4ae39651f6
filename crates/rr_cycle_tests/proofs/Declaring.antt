-- names that are added to a scope, and statements whose expressions have shapes
use Rattle.std.proofs.Common.{◌≡◌, ◌∙◌, sym, ap, append_assoc, ℕ, ◌+◌, ◌<◌, ◌≤◌, get_or, length, take, Bool, true, false, cond, List, [], ◌∷◌, ◌++◌, Option, None, Some, refl, arith, subst, inl, inr}
use Rattle.std.specs.Prelude.{if◌then◌else◌}
use Rattle.std.specs.Str.{bytes_eq}
use Rattle.std.proofs.lemmas.Bool.{and_parts, cases_Bool}
use Rattle.std.proofs.lemmas.List.{take_more}
use Rattle.rr_syntax.specs.declared.token.Keyword.{Keyword}
use Rattle.rr_syntax.specs.declared.tree.Arm.{Arm as Branch}
use Rattle.rr_syntax.specs.declared.tree.Expr.{Expr}
use Rattle.rr_syntax.specs.declared.tree.Named.{Named as Name}
use Rattle.rr_syntax.specs.declared.tree.Head.{Head}
use Rattle.rr_syntax.specs.declared.tree.Stmt.{Stmt, the_lemmas as stmt_lemmas}
use Rattle.rr_syntax.specs.declared.tree.Stmt.TheVariants as stmt
use Rattle.rr_syntax.specs.Tree.{Tree}
use Rattle.rr_syntax.specs.View.{plain, plain_arm, plain_arms, plain_list, plain_statement, plain_statements}
use Rattle.rr_syntax.proofs.Rows.{plain_block, plain_case}
use Rattle.rr_expr.specs.declared.types.Entity.{Entity}
use Rattle.rr_expr.specs.declared.types.Bit.{Bit}
use Rattle.rr_expr.specs.declared.types.Entity.TheVariants.{Signal, Memory}
use Rattle.rr_expr.specs.Reading.{IsBitOf}
use Rattle.rr_expr.specs.Scopes.{Names, lookup, meant, or_instance, range_width}
use Rattle.rr_expr.specs.Faults.{fault}
use Rattle.rr_flat.specs.declared.fault.FlatFault.{FlatFault}
use Rattle.rr_flat.specs.Shapes.{arms_faults, list_faults, shape, shape_faults, statement_faults, statements_faults}
use Rattle.rr_exec.specs.Work.{Holds}
use denote.Ref.{Bor}

abbrev or_last : Option Entity → Option Entity → Option Entity
or_last None x = x
or_last (Some e) x = Some e

lookup_last : (s : Names) (name at : List ℕ) (e : Entity) → lookup at (s ++ (name, e) ∷ []) ≡ or_last (lookup at s) (cond (bytes_eq at name) (Some e) None)
unfolding lookup
lookup_last [] name at e = refl
lookup_last (x ∷ xs) name at e = elim (cases_Bool (bytes_eq at x.0)) [
  | inl t ↦ rw t refl
  | inr t ↦ rw t (lookup_last xs name at e)
]

pub holds_none : (n : ℕ) → Holds [] n
unfolding meant lookup
holds_none n name b i = absurd i

-- each bit of what a name stands for is one of a signal that has a value
abbrev pub IsInside : ℕ → Entity → Type 0
IsInside n e = (b : Bit) → IsBitOf e b → (b.signal < n) × (b.place < 128)

pub signal_inside : (id : ℕ) (range : Option (ℕ × ℕ)) (signed : Bool) (n : ℕ) → range_width range ≤ 128 → id < n → IsInside n (Signal id range signed)
signal_inside id range signed n w l b i = (omega (arith, i.0, l), omega (arith, i.1, w))

pub memory_inside : (first low words : ℕ) (range : Option (ℕ × ℕ)) (signed : Bool) (n : ℕ) → range_width range ≤ 128 → first + words ≤ n → IsInside n (Memory first low words range signed)
memory_inside first low words range signed n w l b i = (omega (arith, i.1, l), omega (arith, i.2, w))

holds_more : (s : Names) (name : List ℕ) (e : Entity) (n : ℕ) → IsInside n e → Holds s n → Holds (s ++ (name, e) ∷ []) n
unfolding meant
holds_more s name e n w h at b i = go (lookup at s) refl (subst (λ (x : Entity). IsBitOf x b) (ap or_instance (lookup_last s name at e)) i)
  where
    new : (t : Bool) → IsBitOf (or_instance (cond t (Some e) None)) b → (b.signal < n) × (b.place < 128)
    new true i = w b i
    new false i = absurd i

    go : (o : Option Entity) → lookup at s ≡ o → IsBitOf (or_instance (or_last o (cond (bytes_eq at name) (Some e) None))) b → (b.signal < n) × (b.place < 128)
    go None q i = new (bytes_eq at name) i
    go (Some x) q i = h at b (subst (λ (y : Entity). IsBitOf y b) (sym (ap or_instance q)) i)

-- expressions and statements without faults, one after the other

none_more : (s : Names) (xs ys : List FlatFault) → xs ≡ [] → ys ≡ [] → xs ++ ys ≡ []
none_more s xs ys h k = rw (h, k) refl

pub no_fault : (s : Names) (t : Tree) → fault s t false ≡ None → shape_faults s t ≡ []
unfolding shape
no_fault s t h = rw h refl

list_append : (s : Names) (xs ys : List Expr) → list_faults s (plain_list (xs ++ ys)) ≡ list_faults s (plain_list xs) ++ list_faults s (plain_list ys)
unfolding plain_list list_faults
list_append s [] ys = refl
list_append s (x ∷ xs) ys = ap (λ (fs : List FlatFault). shape_faults s (plain x) ++ fs) (list_append s xs ys) ∙ sym (append_assoc (shape_faults s (plain x)) (list_faults s (plain_list xs)) (list_faults s (plain_list ys)))

pub labels_more : (s : Names) (xs : List Expr) (i : ℕ) (x : Expr) → i < length xs → x ≡ get_or xs i x → list_faults s (plain_list (take i xs)) ≡ [] → shape_faults s (plain x) ≡ [] → list_faults s (plain_list (take (i + 1) xs)) ≡ []
unfolding plain_list list_faults
labels_more s xs i x l q h k =
    ap (λ (ys : List Expr). list_faults s (plain_list ys)) (take_more xs i x l ∙ ap (λ (y : Expr). take i xs ++ y ∷ []) (sym q))
    ∙ list_append s (take i xs) (x ∷ []) ∙ none_more s (list_faults s (plain_list (take i xs))) (shape_faults s (plain x) ++ []) h (none_more s (shape_faults s (plain x)) [] k refl)

statements_append : (s : Names) (xs ys : List Stmt) → statements_faults s (plain_statements (xs ++ ys)) ≡ statements_faults s (plain_statements xs) ++ statements_faults s (plain_statements ys)
unfolding plain_statements statement_faults
statements_append s [] ys = refl
statements_append s (x ∷ xs) ys =
    ap (λ (fs : List FlatFault). statement_faults s (plain_statement x) ++ fs) (statements_append s xs ys)
    ∙ sym (append_assoc (statement_faults s (plain_statement x)) (statements_faults s (plain_statements xs)) (statements_faults s (plain_statements ys)))

pub statements_more : (s : Names) (xs : List Stmt) (i : ℕ) (x : Stmt) → i < length xs → x ≡ get_or xs i x → statements_faults s (plain_statements (take i xs)) ≡ [] → statement_faults s (plain_statement x) ≡ [] →
    statements_faults s (plain_statements (take (i + 1) xs)) ≡ []
unfolding plain_statements statement_faults
statements_more s xs i x l q h k =
    ap (λ (ys : List Stmt). statements_faults s (plain_statements ys)) (take_more xs i x l ∙ ap (λ (y : Stmt). take i xs ++ y ∷ []) (sym q))
    ∙ statements_append s (take i xs) (x ∷ []) ∙ none_more s (statements_faults s (plain_statements (take i xs))) (statement_faults s (plain_statement x) ++ []) h (none_more s (statement_faults s (plain_statement x)) [] k refl)

arms_append : (s : Names) (xs ys : List Branch) → arms_faults s (plain_arms (xs ++ ys)) ≡ arms_faults s (plain_arms xs) ++ arms_faults s (plain_arms ys)
unfolding plain_arms plain_arm statement_faults
arms_append s [] ys = refl
arms_append s (x ∷ xs) ys =
    ap (λ (fs : List FlatFault). (list_faults s (plain_list x.labels.now) ++ statement_faults s (plain_statement x.body.now)) ++ fs) (arms_append s xs ys)
    ∙ sym (append_assoc (list_faults s (plain_list x.labels.now) ++ statement_faults s (plain_statement x.body.now)) (arms_faults s (plain_arms xs)) (arms_faults s (plain_arms ys)))

pub arms_more : (s : Names) (xs : List Branch) (i : ℕ) (x : Branch) → i < length xs → x ≡ get_or xs i x → arms_faults s (plain_arms (take i xs)) ≡ [] → list_faults s (plain_list x.labels.now) ≡ [] →
    statement_faults s (plain_statement x.body.now) ≡ [] → arms_faults s (plain_arms (take (i + 1) xs)) ≡ []
unfolding plain_arms plain_arm statement_faults
arms_more s xs i x l q h k m =
    ap (λ (ys : List Branch). arms_faults s (plain_arms ys)) (take_more xs i x l ∙ ap (λ (y : Branch). take i xs ++ y ∷ []) (sym q))
    ∙ arms_append s (take i xs) (x ∷ [])
    ∙ none_more s (arms_faults s (plain_arms (take i xs))) ((list_faults s (plain_list x.labels.now) ++ statement_faults s (plain_statement x.body.now)) ++ []) h
    (none_more s (list_faults s (plain_list x.labels.now) ++ statement_faults s (plain_statement x.body.now)) [] (none_more s (list_faults s (plain_list x.labels.now)) (statement_faults s (plain_statement x.body.now)) k m) refl)

-- the statements of each form

pub whole-Null : (s : Names) → statement_faults s (plain_statement stmt.Null) ≡ []
unfolding plain_statement statement_faults
whole-Null s = refl

pub whole-Block : (s : Names) (label : Option Name) (body : Bor (List Stmt)) → statements_faults s (plain_statements body.now) ≡ [] → statement_faults s (plain_statement (stmt.Block label body)) ≡ []
unfolding statement_faults
whole-Block s label body h = ap (statement_faults s) (plain_block label body) ∙ h

pub whole-If : (s : Names) (t : Bor Expr) (y : Bor Stmt) → shape_faults s (plain t.now) ≡ [] → statement_faults s (plain_statement y.now) ≡ [] → statement_faults s (plain_statement (stmt.If t y None)) ≡ []
unfolding plain_statement statement_faults
whole-If s t y h k = none_more s (shape_faults s (plain t.now)) (statement_faults s (plain_statement y.now)) h k

pub whole-IfElse : (s : Names) (t : Bor Expr) (y n : Bor Stmt) → shape_faults s (plain t.now) ≡ [] → statement_faults s (plain_statement y.now) ≡ [] → statement_faults s (plain_statement n.now) ≡ [] →
    statement_faults s (plain_statement (stmt.If t y (Some n))) ≡ []
unfolding plain_statement statement_faults
whole-IfElse s t y n h k m = none_more s (shape_faults s (plain t.now)) (statement_faults s (plain_statement y.now) ++ statement_faults s (plain_statement n.now)) h (none_more s (statement_faults s (plain_statement y.now)) (statement_faults s (plain_statement n.now)) k m)

pub whole-Case : (s : Names) (kind : Keyword) (t : Bor Expr) (arms : Bor (List Branch)) → shape_faults s (plain t.now) ≡ [] → arms_faults s (plain_arms arms.now) ≡ [] → statement_faults s (plain_statement (stmt.Case kind t arms)) ≡ []
unfolding statement_faults
whole-Case s kind t arms h k = ap (statement_faults s) (plain_case kind t arms) ∙ none_more s (shape_faults s (plain t.now)) (arms_faults s (plain_arms arms.now)) h k

pub whole-Assign : (s : Names) (t : Bor Expr) (now : Bool) (v : Bor Expr) → shape_faults s (plain t.now) ≡ [] → shape_faults s (plain v.now) ≡ [] → statement_faults s (plain_statement (stmt.Assign t now v)) ≡ []
unfolding plain_statement statement_faults
whole-Assign s t now v h k = none_more s (shape_faults s (plain t.now)) (shape_faults s (plain v.now)) h k

pub whole-For : (s : Names) (h : Head) (b : Bor Stmt) → statement_faults s (plain_statement (stmt.For h b)) ≡ []
unfolding plain_statement statement_faults
whole-For s h b = refl

pub ruleset whole_nodes = (stmt_lemmas, and_parts, whole-Null, whole-For, whole-Block, whole-If, whole-IfElse, whole-Case, whole-Assign)

pub declared : (r : Bool) (old new : Names) (name : List ℕ) (e : Entity) (n : ℕ) → new ≡ (if r then old ++ (name, e) ∷ [] else old) → IsInside n e → Holds old n → Holds new n
declared true old new name e n q w h = subst (λ (s : Names). Holds s n) (sym q) (holds_more old name e n w h)
declared false old new name e n q w h = subst (λ (s : Names). Holds s n) (sym q) h
