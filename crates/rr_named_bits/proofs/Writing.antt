-- Targets at nodes of the arena: the bits that they name, and those that they write.
use Rattle.std.proofs.Common.{◌≡◌, ◌∙◌, sym, ap, ℕ, ◌+◌, ◌<◌, ◌≤◌, Bool, true, false, cond, ◌&&◌, ◌||◌, List, [], ◌∷◌, ◌++◌, length, drop, get_or, Option, None, refl, append_assoc}
use Rattle.std.proofs.lemmas.List.{drop_all}
use Rattle.rr_syntax.specs.declared.token.Mark.{Mark}
use Rattle.rr_syntax.specs.declared.token.Number.{Number}
use Rattle.rr_syntax.specs.declared.tree.Expr.{Expr, the_lemmas as expr_lemmas}
use Rattle.rr_syntax.specs.declared.tree.Expr.TheVariants as expr
use Rattle.rr_syntax.specs.Tree.{Tree}
use Rattle.rr_syntax.specs.View.{plain, plain_list}
use Rattle.rr_syntax.proofs.Rows.{plain_concat, plain_repeat}
use Rattle.rr_expr.specs.declared.types.Bit.{Bit}
use Rattle.rr_expr.specs.Faults.{fault, faults}
use Rattle.rr_expr.specs.Scopes.{Names, meant}
use Rattle.rr_expr.specs.Values.{nowhere}
use Rattle.rr_flat.specs.Targets.{has_bit, is_bit_of, is_constant, is_fixed, part_name, target_bits, targets_bits, target_parts, targets_parts, may_write, must_write}
use Rattle.rr_named_bits.specs.declared.writes.Write.{Write}
use Rattle.rr_named_bits.specs.Lists.{may, must}
use Rattle.rr_named_bits.specs.Pieces.{part_bits}
use Rattle.rr_named_bits.proofs.Growing.{rest_is}
use Rattle.rr_flat.proofs.Relaxing.{none_parts}
use Rattle.rr_named_bits.proofs.Nodes.{shaped-Concat}
use denote.Ref.{Bor}

or_assoc : (a b c : Bool) → ((a || b) || c) ≡ (a || (b || c))
or_assoc true b c = refl
or_assoc false b c = refl

or_false : (a : Bool) → (a || false) ≡ a
or_false true = refl
or_false false = refl

-- the bits of targets in an environment

abbrev Has : Names → (Bit → Bool) → Expr → List (Option Bit) → List (Option Bit)
Has s env e old = target_bits s env (plain e) ++ old

pub has-Name : (s : Names) (env : Bit → Bool) (token : ℕ) (name : Bor (List ℕ)) (old : List (Option Bit)) → Has s env (expr.Name token name) old ≡ part_bits s env (plain (expr.Name token name)) ++ old
unfolding plain
has-Name s env token name old = refl

pub has-Bit : (s : Names) (env : Bit → Bool) (token : ℕ) (name : Bor (List ℕ)) (i : Bor Expr) (old : List (Option Bit)) → Has s env (expr.Bit token name i) old ≡ part_bits s env (plain (expr.Bit token name i)) ++ old
unfolding plain
has-Bit s env token name i old = refl

pub has-Part : (s : Names) (env : Bit → Bool) (token : ℕ) (name : Bor (List ℕ)) (l r : Bor Expr) (old : List (Option Bit)) → Has s env (expr.Part token name l r) old ≡ part_bits s env (plain (expr.Part token name l r)) ++ old
unfolding plain
has-Part s env token name l r old = refl

pub has-Indexed : (s : Names) (env : Bit → Bool) (token : ℕ) (name : Bor (List ℕ)) (f n : Bor Expr) (up : Bool) (old : List (Option Bit)) → Has s env (expr.Indexed token name f n up) old ≡ part_bits s env (plain (expr.Indexed token name f n up)) ++ old
unfolding plain
has-Indexed s env token name f n up old = refl

pub has-Concat : (s : Names) (env : Bit → Bool) (ts : Bor (List Expr)) (old : List (Option Bit)) → Has s env (expr.Concat ts) old ≡ targets_bits s env (plain_list ts.now) ++ old
unfolding target_bits
has-Concat s env ts old = ap (λ t. target_bits s env t ++ old) (plain_concat ts)

pub has-Literal : (s : Names) (env : Bit → Bool) (token : ℕ) (n : Number) (old : List (Option Bit)) → Has s env (expr.Literal token n) old ≡ old
unfolding plain target_bits
has-Literal s env token n old = refl

pub has-Unary : (s : Names) (env : Bit → Bool) (op : Mark) (t : Bor Expr) (old : List (Option Bit)) → Has s env (expr.Unary op t) old ≡ old
unfolding plain target_bits
has-Unary s env op t old = refl

pub has-Binary : (s : Names) (env : Bit → Bool) (op : Mark) (l r : Bor Expr) (old : List (Option Bit)) → Has s env (expr.Binary op l r) old ≡ old
unfolding plain target_bits
has-Binary s env op l r old = refl

pub has-Cond : (s : Names) (env : Bit → Bool) (a b c : Bor Expr) (old : List (Option Bit)) → Has s env (expr.Cond a b c) old ≡ old
unfolding plain target_bits
has-Cond s env a b c old = refl

pub has-Repeat : (s : Names) (env : Bit → Bool) (n : Bor Expr) (ts : Bor (List Expr)) (old : List (Option Bit)) → Has s env (expr.Repeat n ts) old ≡ old
unfolding target_bits
has-Repeat s env n ts old = ap (λ t. target_bits s env t ++ old) (plain_repeat n ts)

pub has-Cast : (s : Names) (env : Bit → Bool) (signed : Bool) (t : Bor Expr) (old : List (Option Bit)) → Has s env (expr.Cast signed t) old ≡ old
unfolding plain target_bits
has-Cast s env signed t old = refl

pub has-Paren : (s : Names) (env : Bit → Bool) (t : Bor Expr) (old : List (Option Bit)) → Has s env (expr.Paren t) old ≡ old
unfolding plain target_bits
has-Paren s env t old = refl

pub ruleset piece_nodes = (expr_lemmas, has-Name, has-Bit, has-Part, has-Indexed, has-Concat, has-Literal, has-Unary, has-Binary, has-Cond, has-Repeat, has-Cast, has-Paren, shaped-Concat)

pub record BitsLeft (s : Names) (env : Bit → Bool) (ts : List Expr) (i : ℕ) (start now : List (Option Bit)) : Type 0 where
  pub shaped : faults s (plain_list (drop i ts)) false ≡ None
  pub left : targets_bits s env (plain_list (drop i ts)) ++ now ≡ targets_bits s env (plain_list ts) ++ start

pub bits_start : (s : Names) (env : Bit → Bool) (ts : List Expr) (start : List (Option Bit)) → faults s (plain_list ts) false ≡ None → BitsLeft s env ts 0 start start
bits_start s env ts start h = record { shaped = h; left = refl }

pub bits_here : (s : Names) (env : Bit → Bool) (ts : List Expr) (i : ℕ) (x : Expr) (start now : List (Option Bit)) → i < length ts → x ≡ get_or ts i x → BitsLeft s env ts i start now → fault s (plain x) false ≡ None
unfolding plain_list fault
bits_here s env ts i x start now l e n =
    (none_parts (fault s (plain x) false) (faults s (plain_list (drop (i + 1) ts)) false) (sym (ap (λ z. faults s (plain_list z) false) (rest_is ts i x l e)) ∙ n.shaped)).0

pub bits_more : (s : Names) (env : Bit → Bool) (ts : List Expr) (i : ℕ) (x : Expr) (start now next : List (Option Bit)) → i < length ts → x ≡ get_or ts i x → BitsLeft s env ts i start now
    → next ≡ target_bits s env (plain x) ++ now → BitsLeft s env ts (i + 1) start next
unfolding plain_list fault target_bits
bits_more s env ts i x start now next l e n h = record {
  shaped = (none_parts (fault s (plain x) false) (faults s (plain_list (drop (i + 1) ts)) false) (sym (ap (λ z. faults s (plain_list z) false) (rest_is ts i x l e)) ∙ n.shaped)).1;
  left =
      ap (λ z. targets_bits s env (plain_list (drop (i + 1) ts)) ++ z) h
      ∙ (sym (append_assoc (targets_bits s env (plain_list (drop (i + 1) ts))) (target_bits s env (plain x)) now)
      ∙ (sym (ap (λ z. targets_bits s env (plain_list z) ++ now) (rest_is ts i x l e)) ∙ n.left));
}

pub bits_done : (s : Names) (env : Bit → Bool) (ts : List Expr) (i : ℕ) (start now : List (Option Bit)) → length ts ≤ i → BitsLeft s env ts i start now → now ≡ targets_bits s env (plain_list ts) ++ start
unfolding plain_list target_bits
bits_done s env ts i start now l n = sym (ap (λ z. targets_bits s env (plain_list z) ++ now) (drop_all i ts l)) ∙ n.left

-- the bits that names and selects write

pub writes-Name : (s : Names) (token : ℕ) (name : Bor (List ℕ)) (b : Bit) → may_write s (target_parts (plain (expr.Name token name))) b ≡ has_bit (part_bits s nowhere (plain (expr.Name token name))) b
unfolding plain target_parts may_write
writes-Name s token name b = or_false (has_bit (part_bits s nowhere (plain (expr.Name token name))) b)

pub assigns-Name : (s : Names) (token : ℕ) (name : Bor (List ℕ)) (b : Bit) → must_write s (target_parts (plain (expr.Name token name))) b ≡ has_bit (part_bits s nowhere (plain (expr.Name token name))) b
unfolding plain target_parts must_write
assigns-Name s token name b = or_false (has_bit (part_bits s nowhere (plain (expr.Name token name))) b)

pub writes-Part : (s : Names) (token : ℕ) (name : Bor (List ℕ)) (l r : Bor Expr) (b : Bit) → may_write s (target_parts (plain (expr.Part token name l r))) b ≡ has_bit (part_bits s nowhere (plain (expr.Part token name l r))) b
unfolding plain target_parts may_write
writes-Part s token name l r b = or_false (has_bit (part_bits s nowhere (plain (expr.Part token name l r))) b)

pub assigns-Part : (s : Names) (token : ℕ) (name : Bor (List ℕ)) (l r : Bor Expr) (b : Bit) → must_write s (target_parts (plain (expr.Part token name l r))) b ≡ has_bit (part_bits s nowhere (plain (expr.Part token name l r))) b
unfolding plain target_parts must_write
assigns-Part s token name l r b = or_false (has_bit (part_bits s nowhere (plain (expr.Part token name l r))) b)

pub writes-Bit : (s : Names) (token : ℕ) (name : Bor (List ℕ)) (i : Bor Expr) (b : Bit) → may_write s (target_parts (plain (expr.Bit token name i))) b
    ≡ cond (is_constant s (plain i.now)) (has_bit (part_bits s nowhere (plain (expr.Bit token name i))) b) (is_bit_of (meant s name.now) b)
unfolding plain target_parts may_write
writes-Bit s token name i b = or_false (cond (is_constant s (plain i.now)) (has_bit (part_bits s nowhere (plain (expr.Bit token name i))) b) (is_bit_of (meant s name.now) b))

pub assigns-Bit : (s : Names) (token : ℕ) (name : Bor (List ℕ)) (i : Bor Expr) (b : Bit) → must_write s (target_parts (plain (expr.Bit token name i))) b
    ≡ (is_constant s (plain i.now) && has_bit (part_bits s nowhere (plain (expr.Bit token name i))) b)
unfolding plain target_parts must_write
assigns-Bit s token name i b = or_false (is_constant s (plain i.now) && has_bit (part_bits s nowhere (plain (expr.Bit token name i))) b)

pub writes-Indexed : (s : Names) (token : ℕ) (name : Bor (List ℕ)) (f n : Bor Expr) (up : Bool) (b : Bit) → may_write s (target_parts (plain (expr.Indexed token name f n up))) b
    ≡ cond (is_constant s (plain f.now)) (has_bit (part_bits s nowhere (plain (expr.Indexed token name f n up))) b) (is_bit_of (meant s name.now) b)
unfolding plain target_parts may_write
writes-Indexed s token name f n up b = or_false (cond (is_constant s (plain f.now)) (has_bit (part_bits s nowhere (plain (expr.Indexed token name f n up))) b) (is_bit_of (meant s name.now) b))

pub assigns-Indexed : (s : Names) (token : ℕ) (name : Bor (List ℕ)) (f n : Bor Expr) (up : Bool) (b : Bit) → must_write s (target_parts (plain (expr.Indexed token name f n up))) b
    ≡ (is_constant s (plain f.now) && has_bit (part_bits s nowhere (plain (expr.Indexed token name f n up))) b)
unfolding plain target_parts must_write
assigns-Indexed s token name f n up b = or_false (is_constant s (plain f.now) && has_bit (part_bits s nowhere (plain (expr.Indexed token name f n up))) b)

-- the other forms write nothing of their own

abbrev Writes : Names → Expr → Bit → Bool
Writes s e b = may_write s (target_parts (plain e)) b

abbrev Assigns : Names → Expr → Bit → Bool
Assigns s e b = must_write s (target_parts (plain e)) b

pub writes-Concat : (s : Names) (ts : Bor (List Expr)) (b : Bit) → Writes s (expr.Concat ts) b ≡ may_write s (targets_parts (plain_list ts.now)) b
unfolding target_parts
writes-Concat s ts b = ap (λ t. may_write s (target_parts t) b) (plain_concat ts)

pub assigns-Concat : (s : Names) (ts : Bor (List Expr)) (b : Bit) → Assigns s (expr.Concat ts) b ≡ must_write s (targets_parts (plain_list ts.now)) b
unfolding target_parts
assigns-Concat s ts b = ap (λ t. must_write s (target_parts t) b) (plain_concat ts)

pub parts-Literal : (token : ℕ) (n : Number) → target_parts (plain (expr.Literal token n)) ≡ []
unfolding plain target_parts
parts-Literal token n = refl

pub parts-Unary : (op : Mark) (t : Bor Expr) → target_parts (plain (expr.Unary op t)) ≡ []
unfolding plain target_parts
parts-Unary op t = refl

pub parts-Binary : (op : Mark) (l r : Bor Expr) → target_parts (plain (expr.Binary op l r)) ≡ []
unfolding plain target_parts
parts-Binary op l r = refl

pub parts-Cond : (a b c : Bor Expr) → target_parts (plain (expr.Cond a b c)) ≡ []
unfolding plain target_parts
parts-Cond a b c = refl

pub parts-Repeat : (n : Bor Expr) (ts : Bor (List Expr)) → target_parts (plain (expr.Repeat n ts)) ≡ []
unfolding target_parts
parts-Repeat n ts = ap target_parts (plain_repeat n ts)

pub parts-Cast : (signed : Bool) (t : Bor Expr) → target_parts (plain (expr.Cast signed t)) ≡ []
unfolding plain target_parts
parts-Cast signed t = refl

pub parts-Paren : (t : Bor Expr) → target_parts (plain (expr.Paren t)) ≡ []
unfolding plain target_parts
parts-Paren t = refl

pub may_nothing : (s : Names) (old : Bool) (ts : List Tree) (b : Bit) → ts ≡ [] → old ≡ (old || may_write s ts b)
unfolding may_write
may_nothing s old ts b h = rw h (sym (or_false old))

pub must_nothing : (s : Names) (old : Bool) (ts : List Tree) (b : Bit) → ts ≡ [] → old ≡ (old || must_write s ts b)
unfolding must_write
must_nothing s old ts b h = rw h (sym (or_false old))

may_write-append : (s : Names) (xs ys : List Tree) (b : Bit) → may_write s (xs ++ ys) b ≡ (may_write s xs b || may_write s ys b)
unfolding may_write
may_write-append s [] ys b = refl
may_write-append s (x ∷ xs) ys b =
    let w = cond (is_fixed s x) (has_bit (target_bits s nowhere x) b) (is_bit_of (meant s (part_name x)) b) in
    ap (λ z. w || z) (may_write-append s xs ys b) ∙ sym (or_assoc w (may_write s xs b) (may_write s ys b))

must_write-append : (s : Names) (xs ys : List Tree) (b : Bit) → must_write s (xs ++ ys) b ≡ (must_write s xs b || must_write s ys b)
unfolding must_write
must_write-append s [] ys b = refl
must_write-append s (x ∷ xs) ys b =
    let w = is_fixed s x && has_bit (target_bits s nowhere x) b in
    ap (λ z. w || z) (must_write-append s xs ys b) ∙ sym (or_assoc w (must_write s xs b) (must_write s ys b))

pub record WritesLeft (s : Names) (ts : List Expr) (i : ℕ) (start now : List Write) : Type 0 where
  pub shaped : faults s (plain_list (drop i ts)) false ≡ None
  pub may_left : (b : Bit) → (may now b || may_write s (targets_parts (plain_list (drop i ts))) b) ≡ (may start b || may_write s (targets_parts (plain_list ts)) b)
  pub must_left : (b : Bit) → (must now b || must_write s (targets_parts (plain_list (drop i ts))) b) ≡ (must start b || must_write s (targets_parts (plain_list ts)) b)

pub writes_start : (s : Names) (ts : List Expr) (start : List Write) → faults s (plain_list ts) false ≡ None → WritesLeft s ts 0 start start
writes_start s ts start h = record { shaped = h; may_left = λ b. refl; must_left = λ b. refl }

pub writes_here : (s : Names) (ts : List Expr) (i : ℕ) (x : Expr) (start now : List Write) → i < length ts → x ≡ get_or ts i x → WritesLeft s ts i start now → fault s (plain x) false ≡ None
unfolding plain_list fault
writes_here s ts i x start now l e n =
    (none_parts (fault s (plain x) false) (faults s (plain_list (drop (i + 1) ts)) false) (sym (ap (λ z. faults s (plain_list z) false) (rest_is ts i x l e)) ∙ n.shaped)).0

pub writes_more : (s : Names) (ts : List Expr) (i : ℕ) (x : Expr) (start now next : List Write) → i < length ts → x ≡ get_or ts i x → WritesLeft s ts i start now
    → ((b : Bit) → may next b ≡ (may now b || may_write s (target_parts (plain x)) b)) → ((b : Bit) → must next b ≡ (must now b || must_write s (target_parts (plain x)) b))
    → WritesLeft s ts (i + 1) start next
unfolding plain_list fault target_parts
writes_more s ts i x start now next l e n f g =
    let rest = drop (i + 1) ts in
    record {
      shaped = (none_parts (fault s (plain x) false) (faults s (plain_list rest) false) (sym (ap (λ z. faults s (plain_list z) false) (rest_is ts i x l e)) ∙ n.shaped)).1;
      may_left = λ b.
          ap (λ z. z || may_write s (targets_parts (plain_list rest)) b) (f b)
          ∙ (or_assoc (may now b) (may_write s (target_parts (plain x)) b) (may_write s (targets_parts (plain_list rest)) b)
          ∙ (ap (λ z. may now b || z) (sym (may_write-append s (target_parts (plain x)) (targets_parts (plain_list rest)) b))
          ∙ (sym (ap (λ z. may now b || may_write s (targets_parts (plain_list z)) b) (rest_is ts i x l e)) ∙ n.may_left b)));
      must_left = λ b.
          ap (λ z. z || must_write s (targets_parts (plain_list rest)) b) (g b)
          ∙ (or_assoc (must now b) (must_write s (target_parts (plain x)) b) (must_write s (targets_parts (plain_list rest)) b)
          ∙ (ap (λ z. must now b || z) (sym (must_write-append s (target_parts (plain x)) (targets_parts (plain_list rest)) b))
          ∙ (sym (ap (λ z. must now b || must_write s (targets_parts (plain_list z)) b) (rest_is ts i x l e)) ∙ n.must_left b)));
    }

pub writes_done : (s : Names) (ts : List Expr) (i : ℕ) (start now : List Write) → length ts ≤ i → WritesLeft s ts i start now → (b : Bit) → may now b ≡ (may start b || may_write s (targets_parts (plain_list ts)) b)
unfolding plain_list target_parts may_write
writes_done s ts i start now l n b = sym (or_false (may now b)) ∙ (sym (ap (λ z. may now b || may_write s (targets_parts (plain_list z)) b) (drop_all i ts l)) ∙ n.may_left b)

pub assigns_done : (s : Names) (ts : List Expr) (i : ℕ) (start now : List Write) → length ts ≤ i → WritesLeft s ts i start now → (b : Bit) → must now b ≡ (must start b || must_write s (targets_parts (plain_list ts)) b)
unfolding plain_list target_parts must_write
assigns_done s ts i start now l n b = sym (or_false (must now b)) ∙ (sym (ap (λ z. must now b || must_write s (targets_parts (plain_list z)) b) (drop_all i ts l)) ∙ n.must_left b)
