-- What clocked blocks of the arena assign, one equation for each form.
use Rattle.std.proofs.Common.{◌≡◌, ◌∙◌, ap, sym, ℕ, Bool, true, false, not, ◌&&◌, ◌||◌, List, ◌++◌, Option, Some, None, refl, append-nil}
use Rattle.std.specs.Str.{bytes_eq}
use Rattle.rr_syntax.specs.declared.tree.Bounds.{Bounds}
use Rattle.rr_syntax.specs.declared.tree.Conns.{Conns}
use Rattle.rr_syntax.specs.declared.tree.Event.{Event}
use Rattle.rr_syntax.specs.declared.tree.Events.TheVariants as events
use Rattle.rr_syntax.specs.declared.token.Mark.{Mark}
use Rattle.rr_syntax.specs.declared.token.Number.{Number}
use Rattle.rr_syntax.specs.declared.tree.Expr.{Expr}
use Rattle.rr_syntax.specs.declared.tree.Expr.TheVariants as expr
use Rattle.rr_syntax.specs.declared.tree.Group.{Group}
use Rattle.rr_syntax.specs.declared.tree.Instance.{Instance}
use Rattle.rr_syntax.specs.declared.tree.Item.TheVariants as item
use Rattle.rr_syntax.specs.declared.tree.Named.{Named}
use Rattle.rr_syntax.specs.declared.tree.Declarator.{Declarator}
use Rattle.rr_syntax.specs.declared.tree.Pair.{Pair}
use Rattle.rr_syntax.specs.declared.tree.Params.{Params}
use Rattle.rr_syntax.specs.declared.tree.Stmt.{Stmt}
use Rattle.rr_syntax.specs.Tree.{Identifier, Tree, Name, Literal, Bit, Part, Indexed, Unary, Binary, Cond, Concat, Repeat, Cast, Paren}
use Rattle.rr_syntax.specs.View.{plain, plain_identifier, plain_events, plain_statement, plain_item}
use Rattle.rr_syntax.proofs.Rows.{plain_concat, plain_repeat}
use Rattle.rr_flat.specs.Reads.{Assigned, assigned_by}
use Rattle.rr_flat.specs.Signals.{Text}
use Rattle.rr_flat.specs.Targets.{part_name}
use Rattle.rr_text_names.specs.Names.{part_identifier}
use Rattle.rr_text_names.specs.View.{plain_target}
use Rattle.rr_text_names.specs.declared.lists.Target.{Target}
use Rattle.rr_guard.specs.Names.{assigned_at_edges, is_now, is_later, is_text, whole_name}
use Rattle.rr_guard.proofs.Sets.{eq_comm}
use denote.Ref.{Bor}

pub at-Edges : (acc : List Assigned) (list : Bor (List Event)) (commas : Bor (List Bool)) (body : Bor Stmt) (token : ℕ) → acc ++ assigned_at_edges (plain_item (item.Always (events.Edges list commas) body token)) ≡ acc ++ assigned_by (plain_statement body.now)
unfolding plain_item plain_events assigned_at_edges
at-Edges acc list commas body token = refl

pub at-Star : (acc : List Assigned) (brackets : Bool) (body : Bor Stmt) (token : ℕ) → acc ++ assigned_at_edges (plain_item (item.Always (events.Star brackets) body token)) ≡ acc
unfolding plain_item plain_events assigned_at_edges
at-Star acc brackets body token = append-nil acc

pub at-Levels : (acc : List Assigned) (list : Bor (List Expr)) (commas : Bor (List Bool)) (body : Bor Stmt) (token : ℕ) → acc ++ assigned_at_edges (plain_item (item.Always (events.Levels list commas) body token)) ≡ acc
unfolding plain_item plain_events assigned_at_edges
at-Levels acc list commas body token = append-nil acc

pub at-Ports : (acc : List Assigned) (g : Group) → acc ++ assigned_at_edges (plain_item (item.Ports g)) ≡ acc
unfolding plain_item assigned_at_edges
at-Ports acc g = append-nil acc

pub at-Nets : (acc : List Assigned) (signed : Bool) (range : Option Bounds) (names : Bor (List Declarator)) → acc ++ assigned_at_edges (plain_item (item.Nets signed range names)) ≡ acc
unfolding plain_item assigned_at_edges
at-Nets acc signed range names = append-nil acc

pub at-Variables : (acc : List Assigned) (signed : Bool) (range : Option Bounds) (names : Bor (List Declarator)) → acc ++ assigned_at_edges (plain_item (item.Variables signed range names)) ≡ acc
unfolding plain_item assigned_at_edges
at-Variables acc signed range names = append-nil acc

pub at-Integers : (acc : List Assigned) (names : Bor (List Named)) → acc ++ assigned_at_edges (plain_item (item.Integers names)) ≡ acc
unfolding plain_item assigned_at_edges
at-Integers acc names = append-nil acc

pub at-Parameters : (acc : List Assigned) (p : Params) → acc ++ assigned_at_edges (plain_item (item.Parameters p)) ≡ acc
unfolding plain_item assigned_at_edges
at-Parameters acc p = append-nil acc

pub at-Assigns : (acc : List Assigned) (pairs : Bor (List Pair)) → acc ++ assigned_at_edges (plain_item (item.Assigns pairs)) ≡ acc
unfolding plain_item assigned_at_edges
at-Assigns acc pairs = append-nil acc

pub at-Initial : (acc : List Assigned) (s : Bor Stmt) (token : ℕ) → acc ++ assigned_at_edges (plain_item (item.Initial s token)) ≡ acc
unfolding plain_item assigned_at_edges
at-Initial acc s token = append-nil acc

pub at-Instances : (acc : List Assigned) (m : Bor (List ℕ)) (token : ℕ) (overrides : Option Conns) (list : Bor (List Instance)) → acc ++ assigned_at_edges (plain_item (item.Instances m token overrides list)) ≡ acc
unfolding plain_item assigned_at_edges
at-Instances acc m token overrides list = append-nil acc

pub ruleset assigned_nodes = (at-Edges, at-Star, at-Levels, at-Ports, at-Nets, at-Variables, at-Integers, at-Parameters, at-Assigns, at-Initial, at-Instances)

-- the name of a target as a whole

pub whole-Name : (token : ℕ) (name : Bor (List ℕ)) → whole_name (plain (expr.Name token name)) ≡ Some name.now
unfolding plain
whole-Name token name = refl

pub whole-Literal : (token : ℕ) (n : Number) → whole_name (plain (expr.Literal token n)) ≡ None
unfolding plain
whole-Literal token n = refl

pub whole-Bit : (token : ℕ) (name : Bor (List ℕ)) (i : Bor Expr) → whole_name (plain (expr.Bit token name i)) ≡ None
unfolding plain
whole-Bit token name i = refl

pub whole-Part : (token : ℕ) (name : Bor (List ℕ)) (l r : Bor Expr) → whole_name (plain (expr.Part token name l r)) ≡ None
unfolding plain
whole-Part token name l r = refl

pub whole-Indexed : (token : ℕ) (name : Bor (List ℕ)) (f n : Bor Expr) (up : Bool) → whole_name (plain (expr.Indexed token name f n up)) ≡ None
unfolding plain
whole-Indexed token name f n up = refl

pub whole-Unary : (op : Mark) (t : Bor Expr) → whole_name (plain (expr.Unary op t)) ≡ None
unfolding plain
whole-Unary op t = refl

pub whole-Binary : (op : Mark) (l r : Bor Expr) → whole_name (plain (expr.Binary op l r)) ≡ None
unfolding plain
whole-Binary op l r = refl

pub whole-Cond : (a b c : Bor Expr) → whole_name (plain (expr.Cond a b c)) ≡ None
unfolding plain
whole-Cond a b c = refl

pub whole-Concat : (ts : Bor (List Expr)) → whole_name (plain (expr.Concat ts)) ≡ None
whole-Concat ts = ap whole_name (plain_concat ts)

pub whole-Repeat : (n : Bor Expr) (ts : Bor (List Expr)) → whole_name (plain (expr.Repeat n ts)) ≡ None
whole-Repeat n ts = ap whole_name (plain_repeat n ts)

pub whole-Cast : (signed : Bool) (t : Bor Expr) → whole_name (plain (expr.Cast signed t)) ≡ None
unfolding plain
whole-Cast signed t = refl

pub whole-Paren : (t : Bor Expr) → whole_name (plain (expr.Paren t)) ≡ None
unfolding plain
whole-Paren t = refl

pub ruleset whole_nodes =
    (whole-Name, whole-Literal, whole-Bit, whole-Part, whole-Indexed, whole-Unary, whole-Binary, whole-Cond, whole-Concat, whole-Repeat, whole-Cast, whole-Paren)

-- which name an assignment writes, and how

name_of : (t : Tree) → (part_identifier t).text ≡ part_name t
name_of (Name token name) = refl
name_of (Literal token n) = refl
name_of (Bit token name i) = refl
name_of (Part token name l r) = refl
name_of (Indexed token name f n up) = refl
name_of (Unary op t) = refl
name_of (Binary op l r) = refl
name_of (Cond a b c) = refl
name_of (Concat ts) = refl
name_of (Repeat n ts) = refl
name_of (Cast signed t) = refl
name_of (Paren t) = refl

or_none : (b : Bool) → (b || false) ≡ b
or_none true = refl
or_none false = refl

-- by `=`: the name is that of the target
pub now_is : (t : Target) (text name : Text) (was : Bool) → t.blocking ≡ true → text ≡ (part_identifier (plain t.part.now)).text → (was || bytes_eq name text) ≡ (was || is_now name (plain_target t))
now_is t text name was b e =
    ap (λ z. was || bytes_eq name z) (e ∙ name_of (plain t.part.now))
    ∙ ap (λ z. was || z) (eq_comm name (part_name (plain t.part.now)) ∙ sym (ap (λ z. z && bytes_eq (part_name (plain t.part.now)) name) b))

pub not_now : (t : Target) (name : Text) (was : Bool) → t.blocking ≡ false → was ≡ (was || is_now name (plain_target t))
not_now t name was b = sym (ap (λ z. was || (z && bytes_eq (part_name (plain t.part.now)) name)) b ∙ or_none was)

-- by `<=`
pub later_is : (t : Target) (text name : Text) (was : Bool) → t.blocking ≡ false → Some text ≡ whole_name (plain t.part.now) → (was || bytes_eq name text) ≡ (was || is_later name (plain_target t))
later_is t text name was b e =
    ap (λ z. was || z) (eq_comm name text)
    ∙ (ap (λ z. was || is_text name z) e
    ∙ sym (ap (λ z. was || (not z && is_text name (whole_name (plain t.part.now)))) b))

pub not_whole : (t : Target) (name : Text) (was : Bool) → t.blocking ≡ false → None ≡ whole_name (plain t.part.now) → was ≡ (was || is_later name (plain_target t))
not_whole t name was b e = sym (ap (λ z. was || (not z && is_text name (whole_name (plain t.part.now)))) b ∙ (ap (λ z. was || is_text name z) (sym e) ∙ or_none was))

pub not_later : (t : Target) (name : Text) (was : Bool) → t.blocking ≡ true → was ≡ (was || is_later name (plain_target t))
not_later t name was b = sym (ap (λ z. was || (not z && is_text name (whole_name (plain t.part.now)))) b ∙ or_none was)

pub name_by : (n : Named) (i : Identifier) → plain_identifier n ≡ i → n.name.now ≡ i.text
unfolding plain_identifier
name_by n i e = ap (λ (z : Identifier). z.text) e
