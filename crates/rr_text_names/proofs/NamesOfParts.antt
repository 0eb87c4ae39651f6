-- The names and indices of targets at nodes of the arena, one equation for each form.
use Rattle.std.proofs.Common.{◌≡◌, ap, ℕ, suc, ◌<◌, Bool, true, false, cond, List, [], ◌∷◌, length, Option, Some, refl, arith}
use Rattle.std.specs.Prelude.{IfSome}
use Rattle.std.specs.Str.{bytes_eq}
use Rattle.rr_syntax.specs.declared.token.Mark.{Mark}
use Rattle.rr_syntax.specs.declared.token.Number.{Number}
use Rattle.rr_syntax.specs.declared.tree.Expr.{Expr}
use Rattle.rr_syntax.specs.declared.tree.Expr.TheVariants as expr
use Rattle.rr_syntax.specs.declared.tree.Named.{Named}
use Rattle.rr_syntax.specs.Tree.{Tree}
use Rattle.rr_syntax.specs.View.{plain, plain_identifier}
use Rattle.rr_syntax.proofs.Rows.{plain_concat, plain_repeat}
use Rattle.rr_expr.specs.declared.types.Entity.{Entity}
use Rattle.rr_expr.specs.declared.types.Entity.TheVariants.{Constant, Signal as SignalEntity, Memory, Instance}
use Rattle.rr_expr.specs.Scopes.{Names, lookup, or_instance}
use Rattle.rr_flat.specs.Signals.{Text, Signal}
use Rattle.rr_flat.specs.Sound.{AreNamed, IsNamed}
use Rattle.rr_flat.specs.Targets.{variable_of, is_constant, is_fixed, is_indexed, part_name}
use Rattle.rr_text_names.specs.Names.{part_identifier, part_token}
use denote.Ref.{Bor}

pub identifier-Name : (token : ℕ) (name : Bor (List ℕ)) → part_identifier (plain (expr.Name token name)) ≡ record { token = token; text = name.now }
unfolding plain
identifier-Name token name = refl

pub identifier-Literal : (token : ℕ) (n : Number) → part_identifier (plain (expr.Literal token n)) ≡ record { token = 0; text = [] }
unfolding plain
identifier-Literal token n = refl

pub identifier-Bit : (token : ℕ) (name : Bor (List ℕ)) (i : Bor Expr) → part_identifier (plain (expr.Bit token name i)) ≡ record { token = token; text = name.now }
unfolding plain
identifier-Bit token name i = refl

pub identifier-Part : (token : ℕ) (name : Bor (List ℕ)) (l r : Bor Expr) → part_identifier (plain (expr.Part token name l r)) ≡ record { token = token; text = name.now }
unfolding plain
identifier-Part token name l r = refl

pub identifier-Indexed : (token : ℕ) (name : Bor (List ℕ)) (f n : Bor Expr) (up : Bool) → part_identifier (plain (expr.Indexed token name f n up)) ≡ record { token = token; text = name.now }
unfolding plain
identifier-Indexed token name f n up = refl

pub identifier-Unary : (op : Mark) (t : Bor Expr) → part_identifier (plain (expr.Unary op t)) ≡ record { token = 0; text = [] }
unfolding plain
identifier-Unary op t = refl

pub identifier-Binary : (op : Mark) (l r : Bor Expr) → part_identifier (plain (expr.Binary op l r)) ≡ record { token = 0; text = [] }
unfolding plain
identifier-Binary op l r = refl

pub identifier-Cond : (a b c : Bor Expr) → part_identifier (plain (expr.Cond a b c)) ≡ record { token = 0; text = [] }
unfolding plain
identifier-Cond a b c = refl

pub identifier-Concat : (ts : Bor (List Expr)) → part_identifier (plain (expr.Concat ts)) ≡ record { token = 0; text = [] }
identifier-Concat ts = ap part_identifier (plain_concat ts)

pub identifier-Repeat : (n : Bor Expr) (ts : Bor (List Expr)) → part_identifier (plain (expr.Repeat n ts)) ≡ record { token = 0; text = [] }
identifier-Repeat n ts = ap part_identifier (plain_repeat n ts)

pub identifier-Cast : (signed : Bool) (t : Bor Expr) → part_identifier (plain (expr.Cast signed t)) ≡ record { token = 0; text = [] }
unfolding plain
identifier-Cast signed t = refl

pub identifier-Paren : (t : Bor Expr) → part_identifier (plain (expr.Paren t)) ≡ record { token = 0; text = [] }
unfolding plain
identifier-Paren t = refl

pub ruleset identifier_nodes = (identifier-Name, identifier-Literal, identifier-Bit, identifier-Part, identifier-Indexed, identifier-Unary, identifier-Binary, identifier-Cond, identifier-Concat, identifier-Repeat, identifier-Cast, identifier-Paren)

pub fixed-Name : (s : Names) (token : ℕ) (name : Bor (List ℕ)) → is_fixed s (plain (expr.Name token name)) ≡ true
unfolding plain
fixed-Name s token name = refl

pub fixed-Literal : (s : Names) (token : ℕ) (n : Number) → is_fixed s (plain (expr.Literal token n)) ≡ true
unfolding plain
fixed-Literal s token n = refl

pub fixed-Bit : (s : Names) (token : ℕ) (name : Bor (List ℕ)) (i : Bor Expr) → is_fixed s (plain (expr.Bit token name i)) ≡ is_constant s (plain i.now)
unfolding plain
fixed-Bit s token name i = refl

pub fixed-Part : (s : Names) (token : ℕ) (name : Bor (List ℕ)) (l r : Bor Expr) → is_fixed s (plain (expr.Part token name l r)) ≡ true
unfolding plain
fixed-Part s token name l r = refl

pub fixed-Indexed : (s : Names) (token : ℕ) (name : Bor (List ℕ)) (f n : Bor Expr) (up : Bool) → is_fixed s (plain (expr.Indexed token name f n up)) ≡ is_constant s (plain f.now)
unfolding plain
fixed-Indexed s token name f n up = refl

pub fixed-Unary : (s : Names) (op : Mark) (t : Bor Expr) → is_fixed s (plain (expr.Unary op t)) ≡ true
unfolding plain
fixed-Unary s op t = refl

pub fixed-Binary : (s : Names) (op : Mark) (l r : Bor Expr) → is_fixed s (plain (expr.Binary op l r)) ≡ true
unfolding plain
fixed-Binary s op l r = refl

pub fixed-Cond : (s : Names) (a b c : Bor Expr) → is_fixed s (plain (expr.Cond a b c)) ≡ true
unfolding plain
fixed-Cond s a b c = refl

pub fixed-Concat : (s : Names) (ts : Bor (List Expr)) → is_fixed s (plain (expr.Concat ts)) ≡ true
fixed-Concat s ts = ap (is_fixed s) (plain_concat ts)

pub fixed-Repeat : (s : Names) (n : Bor Expr) (ts : Bor (List Expr)) → is_fixed s (plain (expr.Repeat n ts)) ≡ true
fixed-Repeat s n ts = ap (is_fixed s) (plain_repeat n ts)

pub fixed-Cast : (s : Names) (signed : Bool) (t : Bor Expr) → is_fixed s (plain (expr.Cast signed t)) ≡ true
unfolding plain
fixed-Cast s signed t = refl

pub fixed-Paren : (s : Names) (t : Bor Expr) → is_fixed s (plain (expr.Paren t)) ≡ true
unfolding plain
fixed-Paren s t = refl

pub ruleset fixed_nodes = (fixed-Name, fixed-Literal, fixed-Bit, fixed-Part, fixed-Indexed, fixed-Unary, fixed-Binary, fixed-Cond, fixed-Concat, fixed-Repeat, fixed-Cast, fixed-Paren)

pub indexed-Name : (token : ℕ) (name : Bor (List ℕ)) → is_indexed (plain (expr.Name token name)) ≡ false
unfolding plain
indexed-Name token name = refl

pub indexed-Literal : (token : ℕ) (n : Number) → is_indexed (plain (expr.Literal token n)) ≡ false
unfolding plain
indexed-Literal token n = refl

pub indexed-Bit : (token : ℕ) (name : Bor (List ℕ)) (i : Bor Expr) → is_indexed (plain (expr.Bit token name i)) ≡ true
unfolding plain
indexed-Bit token name i = refl

pub indexed-Part : (token : ℕ) (name : Bor (List ℕ)) (l r : Bor Expr) → is_indexed (plain (expr.Part token name l r)) ≡ false
unfolding plain
indexed-Part token name l r = refl

pub indexed-Indexed : (token : ℕ) (name : Bor (List ℕ)) (f n : Bor Expr) (up : Bool) → is_indexed (plain (expr.Indexed token name f n up)) ≡ false
unfolding plain
indexed-Indexed token name f n up = refl

pub indexed-Unary : (op : Mark) (t : Bor Expr) → is_indexed (plain (expr.Unary op t)) ≡ false
unfolding plain
indexed-Unary op t = refl

pub indexed-Binary : (op : Mark) (l r : Bor Expr) → is_indexed (plain (expr.Binary op l r)) ≡ false
unfolding plain
indexed-Binary op l r = refl

pub indexed-Cond : (a b c : Bor Expr) → is_indexed (plain (expr.Cond a b c)) ≡ false
unfolding plain
indexed-Cond a b c = refl

pub indexed-Concat : (ts : Bor (List Expr)) → is_indexed (plain (expr.Concat ts)) ≡ false
indexed-Concat ts = ap is_indexed (plain_concat ts)

pub indexed-Repeat : (n : Bor Expr) (ts : Bor (List Expr)) → is_indexed (plain (expr.Repeat n ts)) ≡ false
indexed-Repeat n ts = ap is_indexed (plain_repeat n ts)

pub indexed-Cast : (signed : Bool) (t : Bor Expr) → is_indexed (plain (expr.Cast signed t)) ≡ false
unfolding plain
indexed-Cast signed t = refl

pub indexed-Paren : (t : Bor Expr) → is_indexed (plain (expr.Paren t)) ≡ false
unfolding plain
indexed-Paren t = refl

pub ruleset indexed_nodes = (indexed-Name, indexed-Literal, indexed-Bit, indexed-Part, indexed-Indexed, indexed-Unary, indexed-Binary, indexed-Cond, indexed-Concat, indexed-Repeat, indexed-Cast, indexed-Paren)

-- the name of a part by its node

pub named_text : (n : Named) (t : Tree) → plain_identifier n ≡ part_identifier t → n.name.now ≡ part_name t
unfolding plain_identifier
named_text n t h = ap (λ i. i.text) h

pub named_token : (n : Named) (t : Tree) → plain_identifier n ≡ part_identifier t → n.token ≡ part_token t
unfolding plain_identifier
named_token n t h = ap (λ i. i.token) h

-- what a name stands for is of the design

pub named_sound : (signals : List Signal) (names : Names) (name : Text) (r : Entity) → AreNamed 0 signals names → r ≡ or_instance (lookup name names) → IsNamed 0 signals r
unfolding lookup
named_sound signals [] name r a h = rw h tt
named_sound signals (e ∷ es) name r a h = go (bytes_eq name e.0) h (λ q. named_sound signals es name r (λ k d m. a (suc k) d (omega (arith, m))) q)
  where
    go : (b : Bool) → r ≡ or_instance (cond b (Some e.1) (lookup name es)) → (r ≡ or_instance (lookup name es) → IsNamed 0 signals r) → IsNamed 0 signals r
    go true q rec = rw q (a 0 e (omega arith))
    go false q rec = rec q

abbrev Below : ℕ → Option ℕ → Type 0
Below n r = IfSome r (λ id. id < n)

entity_below : (signals : List Signal) (n : ℕ) (e : Entity) → length signals ≡ n → IsNamed 0 signals e → Below n (variable_of e)
entity_below signals n (Constant bits signed) l h = tt
entity_below signals n (SignalEntity id range signed) l h = let k = h.1 in omega (arith, k, l)
entity_below signals n (Memory first low words range signed) l h =
    let k = h.1 in
    let p = h.2 in
    omega (arith, k, p, l)
entity_below signals n Instance l h = tt

pub variable_below : (signals : List Signal) (n : ℕ) (e : Entity) (r : Option ℕ) → length signals ≡ n → IsNamed 0 signals e → r ≡ variable_of e → Below n r
variable_below signals n e r l h q = rw q (entity_below signals n e l h)
