-- targets at nodes of the arena
use Rattle.std.proofs.Common.{◌≡◌, ◌∙◌, sym, ap, refl, ℕ, zero, suc, ◌+◌, ◌<◌, ◌≤◌, Bool, true, false, cond, List, [], ◌∷◌, ◌++◌, length, get_or, drop, drop-cons, Option, None, nat_lt, arith, ℤ, pos, ◌+ℤ◌, ◌-ℤ◌, length-append}
use Rattle.std.proofs.lemmas.Int.{ints}
use Rattle.rr_syntax.specs.declared.token.Mark.{Mark}
use Rattle.rr_syntax.specs.declared.token.Number.{Number}
use Rattle.rr_syntax.specs.declared.tree.Expr.{Expr}
use Rattle.rr_syntax.specs.declared.tree.Expr.TheVariants as expr
use Rattle.rr_syntax.specs.View.{plain, plain_list}
use Rattle.rr_syntax.proofs.Rows.{plain_concat, plain_repeat}
use Rattle.rr_expr.specs.declared.types.Bit.{Bit}
use Rattle.rr_expr.specs.declared.types.Entity.{Entity}
use Rattle.rr_expr.specs.declared.types.Entity.TheVariants.{Constant, Signal, Memory, Instance}
use Rattle.rr_expr.specs.Faults.{constant_count, fault, faults}
use Rattle.rr_expr.specs.Memories.{index_shape}
use Rattle.rr_expr.specs.Scopes.{Names, meant, entity_range}
use Rattle.rr_expr.specs.Selects.{place, lowest_place, integer_with}
use Rattle.rr_expr.specs.Values.{form, value, nowhere}
use Rattle.rr_flat.specs.Targets.{bit_there, bits_there, index_bits, is_constant, target_bits, targets_bits}
use Rattle.rr_flat.proofs.Bits.{index_length}
use Rattle.rr_flat.proofs.Relaxing.{none_parts}
use Rattle.rr_cycle.specs.Exec.{Environment, write}
use Rattle.rr_cycle.proofs.TargetBits.{index_fixed}
use Rattle.rr_cycle.proofs.Wiring.{length_there}
use Rattle.rr_exec.proofs.Pieces.{write_append}
use Rattle.rr_signal_wires.proofs.NameLaws.{drop_drop, same_sizes}
use denote.Ref.{Bor}

-- the bits that they name

pub none-Literal : (s : Names) (token : ℕ) (n : Number) (e : Environment) → target_bits s e (plain (expr.Literal token n)) ≡ []
unfolding plain target_bits
none-Literal s token n e = refl

pub none-Unary : (s : Names) (op : Mark) (t : Bor Expr) (e : Environment) → target_bits s e (plain (expr.Unary op t)) ≡ []
unfolding plain target_bits
none-Unary s op t e = refl

pub none-Binary : (s : Names) (op : Mark) (l r : Bor Expr) (e : Environment) → target_bits s e (plain (expr.Binary op l r)) ≡ []
unfolding plain target_bits
none-Binary s op l r e = refl

pub none-Cond : (s : Names) (x y z : Bor Expr) (e : Environment) → target_bits s e (plain (expr.Cond x y z)) ≡ []
unfolding plain target_bits
none-Cond s x y z e = refl

pub none-Repeat : (s : Names) (n : Bor Expr) (ts : Bor (List Expr)) (e : Environment) → target_bits s e (plain (expr.Repeat n ts)) ≡ []
unfolding target_bits
none-Repeat s n ts e = ap (target_bits s e) (plain_repeat n ts)

pub none-Cast : (s : Names) (signed : Bool) (t : Bor Expr) (e : Environment) → target_bits s e (plain (expr.Cast signed t)) ≡ []
unfolding plain target_bits
none-Cast s signed t e = refl

pub none-Paren : (s : Names) (t : Bor Expr) (e : Environment) → target_bits s e (plain (expr.Paren t)) ≡ []
unfolding plain target_bits
none-Paren s t e = refl

pub fixed-Name : (s : Names) (token : ℕ) (name : Bor (List ℕ)) (e : Environment) → target_bits s e (plain (expr.Name token name)) ≡ target_bits s nowhere (plain (expr.Name token name))
unfolding plain target_bits
fixed-Name s token name e = refl

pub fixed-Part : (s : Names) (token : ℕ) (name : Bor (List ℕ)) (l r : Bor Expr) (e : Environment) → target_bits s e (plain (expr.Part token name l r)) ≡ target_bits s nowhere (plain (expr.Part token name l r))
unfolding plain target_bits
fixed-Part s token name l r e = refl

pub fixed-Bit : (s : Names) (token : ℕ) (name : Bor (List ℕ)) (i : Bor Expr) (e : Environment) → is_constant s (plain i.now) ≡ true → target_bits s e (plain (expr.Bit token name i)) ≡ target_bits s nowhere (plain (expr.Bit token name i))
unfolding plain target_bits
fixed-Bit s token name i e h = ap (λ (z : ℤ). index_bits (meant s name.now) z) (index_fixed s (plain i.now) e h)

pub fixed-Indexed : (s : Names) (token : ℕ) (name : Bor (List ℕ)) (f n : Bor Expr) (up : Bool) (e : Environment) → is_constant s (plain f.now) ≡ true →
    target_bits s e (plain (expr.Indexed token name f n up)) ≡ target_bits s nowhere (plain (expr.Indexed token name f n up))
unfolding plain target_bits
fixed-Indexed s token name f n up e h =
    ap (λ (z : ℤ). bits_there (meant s name.now) (lowest_place (entity_range (meant s name.now)) up z (constant_count s (plain n.now))) (constant_count s (plain n.now))) (index_fixed s (plain f.now) e h)

-- one bit is the lowest of one
lowest_one : (r : ℕ × ℕ) (z : ℤ) → place r z ≡ lowest_place r true z 1
lowest_one r z = by (nat_lt r.0 r.1) refl
  where
    same : (z : ℤ) → z ≡ (z +ℤ pos 1) -ℤ pos 1
    same z = omega (arith, ints)

    by : (b : Bool) → nat_lt r.0 r.1 ≡ b → place r z ≡ place r (cond b ((z +ℤ pos 1) -ℤ pos 1) z)
    by true q = ap (place r) (same z)
    by false q = refl

pub bits-Bit : (s : Names) (token : ℕ) (name : Bor (List ℕ)) (i : Bor Expr) (e : Environment) →
    target_bits s e (plain (expr.Bit token name i)) ≡ index_bits (meant s name.now) (integer_with (form s (plain i.now)) (value s (plain i.now) e))
unfolding plain target_bits
bits-Bit s token name i e = refl

-- but of a memory an index names a bit
abbrev pub IsNoMemory : Entity → Type 0
IsNoMemory e = (first low words : ℕ) (range : Option (ℕ × ℕ)) (signed : Bool) → e ≡ Memory first low words range signed → ⊥

pub one_bit_of : (e : Entity) → IsNoMemory e → (index_shape e).width ≡ 1
one_bit_of (Constant bits signed) none = refl
one_bit_of (Signal id range signed) none = refl
one_bit_of (Memory first low words range signed) none = absurd (none first low words range signed refl)
one_bit_of Instance none = refl

pub bit_of_index : (e : Entity) (z : ℤ) → IsNoMemory e → bits_there e (lowest_place (entity_range e) true z 1) 1 ≡ index_bits e z
unfolding bits_there
bit_of_index (Constant bits signed) z none = ap (λ (p : ℤ). bit_there (Constant bits signed) p ∷ []) (sym (lowest_one (entity_range (Constant bits signed)) z))
bit_of_index (Signal id range signed) z none = ap (λ (p : ℤ). bit_there (Signal id range signed) p ∷ []) (sym (lowest_one (entity_range (Signal id range signed)) z))
bit_of_index (Memory first low words range signed) z none = absurd (none first low words range signed refl)
bit_of_index Instance z none = ap (λ (p : ℤ). bit_there Instance p ∷ []) (sym (lowest_one (entity_range Instance) z))

pub bits-Indexed : (s : Names) (token : ℕ) (name : Bor (List ℕ)) (f n : Bor Expr) (up : Bool) (e : Environment) (w : ℕ) → w ≡ (form s (plain (expr.Indexed token name f n up))).width →
    target_bits s e (plain (expr.Indexed token name f n up)) ≡ bits_there (meant s name.now) (lowest_place (entity_range (meant s name.now)) up (integer_with (form s (plain f.now)) (value s (plain f.now) e)) w) w
unfolding plain target_bits form
bits-Indexed s token name f n up e w q = rw q refl

pub size-Bit : (s : Names) (token : ℕ) (name : Bor (List ℕ)) (i : Bor Expr) (e : Environment) → length (target_bits s e (plain (expr.Bit token name i))) ≡ (index_shape (meant s name.now)).width
size-Bit s token name i e = ap length (bits-Bit s token name i e) ∙ index_length (meant s name.now) (integer_with (form s (plain i.now)) (value s (plain i.now) e))

pub size-Indexed : (s : Names) (token : ℕ) (name : Bor (List ℕ)) (f n : Bor Expr) (up : Bool) (e : Environment) (w : ℕ) → w ≡ (form s (plain (expr.Indexed token name f n up))).width →
    length (target_bits s e (plain (expr.Indexed token name f n up))) ≡ w
size-Indexed s token name f n up e w q = ap length (bits-Indexed s token name f n up e w q) ∙ length_there (meant s name.now) (lowest_place (entity_range (meant s name.now)) up (integer_with (form s (plain f.now)) (value s (plain f.now) e)) w) w

pub bits-Concat : (s : Names) (ts : Bor (List Expr)) (e : Environment) → target_bits s e (plain (expr.Concat ts)) ≡ targets_bits s e (plain_list ts.now)
unfolding target_bits
bits-Concat s ts e = ap (target_bits s e) (plain_concat ts)

-- what no bit leaves
pub no_bits_next : (bits : List (Option Bit)) (from : ℕ) → bits ≡ [] → from ≡ from + length bits
no_bits_next bits from h = omega (arith, ap length h)

pub no_bits_value : (bits : List (Option Bit)) (vs : List Bool) (e : Environment) → bits ≡ [] → e ≡ write bits vs e
unfolding write
no_bits_value bits vs e h = sym (ap (λ (bs : List (Option Bit)). write bs vs e) h)

-- the parts from one on, and those behind it

parts_cons : (s : Names) (xs : List Expr) (i j : ℕ) (x : Expr) (e : Environment) → i < length xs → x ≡ get_or xs i x → j ≡ i + 1 →
    targets_bits s e (plain_list (drop i xs)) ≡ targets_bits s e (plain_list (drop j xs)) ++ target_bits s e (plain x)
unfolding plain_list target_bits
parts_cons s xs i j x e l q r =
    let k : suc i ≡ j = omega arith in
    ap (λ (ys : List Expr). targets_bits s e (plain_list ys)) (drop-cons xs i x l ∙ ap (λ (y : Expr). y ∷ drop (suc i) xs) (sym q))
    ∙ ap (λ (m : ℕ). targets_bits s e (plain_list (drop m xs)) ++ target_bits s e (plain x)) k

pub parts_size : (s : Names) (xs : List Expr) (i j : ℕ) (x : Expr) (e : Environment) → i < length xs → x ≡ get_or xs i x → j ≡ i + 1 →
    length (targets_bits s e (plain_list (drop i xs))) ≡ length (targets_bits s e (plain_list (drop j xs))) + length (target_bits s e (plain x))
parts_size s xs i j x e l q r = ap length (parts_cons s xs i j x e l q r) ∙ length-append (targets_bits s e (plain_list (drop j xs))) (target_bits s e (plain x))

pub parts_none : (s : Names) (xs : List Expr) (e : Environment) → targets_bits s e (plain_list (drop (length xs) xs)) ≡ []
unfolding plain_list target_bits
parts_none s [] e = refl
parts_none s (x ∷ xs) e = parts_none s xs e

pub parts_left : (s : Names) (xs : List Expr) (i : ℕ) (e : Environment) → length (targets_bits s e (plain_list (drop i xs))) ≤ length (targets_bits s e (plain_list xs))
unfolding plain_list target_bits
parts_left s xs zero e = omega arith
parts_left s [] (suc i) e = omega arith
parts_left s (x ∷ xs) (suc i) e = omega (arith, parts_left s xs i e, length-append (targets_bits s e (plain_list xs)) (target_bits s e (plain x)))

pub parts_shaped : (s : Names) (xs : List Expr) (i : ℕ) (x : Expr) → i < length xs → x ≡ get_or xs i x → faults s (plain_list xs) false ≡ None → fault s (plain x) false ≡ None
unfolding plain_list fault
parts_shaped s [] i x l q h = absurd (omega arith)
parts_shaped s (y ∷ ys) zero x l q h = ap (λ (z : Expr). fault s (plain z) false) q ∙ (none_parts (fault s (plain y) false) (faults s (plain_list ys) false) h).0
parts_shaped s (y ∷ ys) (suc i) x l q h = parts_shaped s ys i x (omega arith) q (none_parts (fault s (plain y) false) (faults s (plain_list ys) false) h).1

pub parts_more : (s : Names) (xs : List Expr) (i j : ℕ) (x : Expr) (m e f g : Environment) (from next : ℕ) (vs : List Bool) → i < length xs → x ≡ get_or xs i x → j ≡ i + 1 → next ≡ from + length (targets_bits s nowhere (plain_list (drop j xs))) →
    f ≡ write (targets_bits s m (plain_list (drop j xs))) (drop from vs) e → g ≡ write (target_bits s m (plain x)) (drop next vs) f → g ≡ write (targets_bits s m (plain_list (drop i xs))) (drop from vs) e
parts_more s xs i j x m e f g from next vs l q r n h k =
    k ∙ ap (write (target_bits s m (plain x)) (drop next vs)) h
    ∙ ap (λ (us : List Bool). write (target_bits s m (plain x)) us (write (targets_bits s m (plain_list (drop j xs))) (drop from vs) e))
    (ap (λ (p : ℕ). drop p vs) (n ∙ ap (λ (p : ℕ). from + p) (same_sizes s nowhere m (plain_list (drop j xs)))) ∙ drop_drop from (length (targets_bits s m (plain_list (drop j xs)))) vs)
    ∙ sym (write_append (targets_bits s m (plain_list (drop j xs))) (target_bits s m (plain x)) (drop from vs) e)
    ∙ ap (λ (bs : List (Option Bit)). write bs (drop from vs) e) (sym (parts_cons s xs i j x m l q r))
