-- Sides that only take bits, at nodes of the arena.
use Rattle.std.proofs.Common.{◌≡◌, ◌∙◌, sym, ap, ℕ, zero, suc, ◌+◌, ◌-◌, ◌<◌, ◌≤◌, Bool, true, false, List, [], ◌∷◌, ◌++◌, length, drop, get_or, map, Option, None, refl, append_assoc, append-nil, arith, ℤ, pos, ◌+ℤ◌, drop-cons}
use Rattle.std.proofs.lemmas.Int.{ints}
use Rattle.std.proofs.lemmas.List.{drop_all}
use Rattle.rr_syntax.specs.declared.token.Mark.{Mark}
use Rattle.rr_syntax.specs.declared.token.Number.{Number}
use Rattle.rr_syntax.specs.declared.tree.Expr.{Expr, the_lemmas as expr_lemmas}
use Rattle.rr_syntax.specs.declared.tree.Expr.TheVariants as expr
use Rattle.rr_syntax.specs.View.{plain, plain_list}
use Rattle.rr_syntax.proofs.Rows.{plain_concat, plain_repeat}
use Rattle.rr_expr.specs.declared.types.Bit.{Bit}
use Rattle.rr_expr.specs.declared.types.Entity.TheVariants.{Instance}
use Rattle.rr_expr.specs.Faults.{fault, faults}
use Rattle.rr_expr.specs.Scopes.{Names, env_of}
use Rattle.rr_flat.specs.Targets.{is_constant, target_bits, bits_there}
use Rattle.rr_flat.specs.Writers.{is_wiring, are_wiring, taken, all_taken, nothing}
use Rattle.rr_named_bits.specs.declared.piece.Piece.{Piece}
use Rattle.rr_named_bits.specs.Pieces.{bits_of, bits_in, bit_in, all_bits}
use Rattle.rr_named_bits.proofs.Growing.{rest_is}
use Rattle.rr_flat.proofs.Relaxing.{none_parts}
use Rattle.rr_named_bits.proofs.Runs.{run_of, instance_run}
use denote.Ref.{Bor}

pub wiring-Name : (s : Names) (token : ℕ) (name : Bor (List ℕ)) → is_wiring s (plain (expr.Name token name)) ≡ true
unfolding plain is_wiring
wiring-Name s token name = refl

pub wiring-Literal : (s : Names) (token : ℕ) (n : Number) → is_wiring s (plain (expr.Literal token n)) ≡ true
unfolding plain is_wiring
wiring-Literal s token n = refl

pub wiring-Bit : (s : Names) (token : ℕ) (name : Bor (List ℕ)) (i : Bor Expr) → is_wiring s (plain (expr.Bit token name i)) ≡ is_constant s (plain i.now)
unfolding plain is_wiring
wiring-Bit s token name i = refl

pub wiring-Part : (s : Names) (token : ℕ) (name : Bor (List ℕ)) (l r : Bor Expr) → is_wiring s (plain (expr.Part token name l r)) ≡ true
unfolding plain is_wiring
wiring-Part s token name l r = refl

pub wiring-Indexed : (s : Names) (token : ℕ) (name : Bor (List ℕ)) (f n : Bor Expr) (up : Bool) → is_wiring s (plain (expr.Indexed token name f n up)) ≡ is_constant s (plain f.now)
unfolding plain is_wiring
wiring-Indexed s token name f n up = refl

pub wiring-Unary : (s : Names) (op : Mark) (t : Bor Expr) → is_wiring s (plain (expr.Unary op t)) ≡ false
unfolding plain is_wiring
wiring-Unary s op t = refl

pub wiring-Binary : (s : Names) (op : Mark) (l r : Bor Expr) → is_wiring s (plain (expr.Binary op l r)) ≡ false
unfolding plain is_wiring
wiring-Binary s op l r = refl

pub wiring-Cond : (s : Names) (a b c : Bor Expr) → is_wiring s (plain (expr.Cond a b c)) ≡ false
unfolding plain is_wiring
wiring-Cond s a b c = refl

pub wiring-Concat : (s : Names) (ts : Bor (List Expr)) → is_wiring s (plain (expr.Concat ts)) ≡ are_wiring s (plain_list ts.now)
unfolding is_wiring
wiring-Concat s ts = ap (is_wiring s) (plain_concat ts)

pub wiring-Repeat : (s : Names) (n : Bor Expr) (ts : Bor (List Expr)) → is_wiring s (plain (expr.Repeat n ts)) ≡ false
unfolding is_wiring
wiring-Repeat s n ts = ap (is_wiring s) (plain_repeat n ts)

pub wiring-Cast : (s : Names) (signed : Bool) (t : Bor Expr) → is_wiring s (plain (expr.Cast signed t)) ≡ false
unfolding plain is_wiring
wiring-Cast s signed t = refl

pub wiring-Paren : (s : Names) (t : Bor Expr) → is_wiring s (plain (expr.Paren t)) ≡ false
unfolding plain is_wiring
wiring-Paren s t = refl

pub ruleset wiring_nodes = (expr_lemmas, wiring-Name, wiring-Literal, wiring-Bit, wiring-Part, wiring-Indexed, wiring-Unary, wiring-Binary, wiring-Cond, wiring-Concat, wiring-Repeat, wiring-Cast, wiring-Paren)

pub wiring_more : (s : Names) (xs : List Expr) (i : ℕ) (x : Expr) → i < length xs → x ≡ get_or xs i x → is_wiring s (plain x) ≡ true → are_wiring s (plain_list (drop (i + 1) xs)) ≡ are_wiring s (plain_list (drop i xs))
unfolding is_wiring plain_list
wiring_more s xs i x lt is h = rw (rest_is xs i x lt is, h) refl

pub wiring_stop : (s : Names) (xs : List Expr) (i : ℕ) (x : Expr) → i < length xs → x ≡ get_or xs i x → is_wiring s (plain x) ≡ false → false ≡ are_wiring s (plain_list (drop i xs))
unfolding is_wiring plain_list
wiring_stop s xs i x lt is h = rw (rest_is xs i x lt is, h) refl

pub wiring_done : (s : Names) (xs : List Expr) (i : ℕ) → length xs ≤ i → true ≡ are_wiring s (plain_list (drop i xs))
unfolding is_wiring plain_list
wiring_done s xs i le = rw (drop_all i xs le) refl

-- the bits that are taken

pub takes-Name : (s : Names) (values : List ℕ) (token : ℕ) (name : Bor (List ℕ)) (old : List (Option Bit)) → values ≡ [] → target_bits s (env_of values) (plain (expr.Name token name)) ++ old ≡ taken s (plain (expr.Name token name)) ++ old
unfolding plain taken
takes-Name s values token name old e = ap (λ z. target_bits s (env_of z) (plain (expr.Name token name)) ++ old) e

none_map : (p : ℤ) (n : ℕ) → bits_there Instance p n ≡ map (λ i. None) (bits_there Instance p n)
unfolding bits_there
none_map p zero = refl
none_map p (suc n) = ap (λ (xs : List (Option Bit)). None ∷ xs) (none_map (p +ℤ pos 1) n)

pub takes-Literal : (s : Names) (token : ℕ) (n : Number) (p : Piece) (old : List (Option Bit)) → p ≡ run_of 0 0 (pos 0) n.width → bits_of p ++ old ≡ taken s (plain (expr.Literal token n)) ++ old
unfolding plain taken nothing
takes-Literal s token n p old e =
    ap (λ (q : Piece). bits_of q ++ old) e ∙ ap (λ (xs : List (Option Bit)). xs ++ old) (instance_run n.width n.width (pos 0) (pos 0) (pos 0) ∙ none_map (pos 0) n.width)

pub takes-Bit : (s : Names) (values : List ℕ) (token : ℕ) (name : Bor (List ℕ)) (i : Bor Expr) (old : List (Option Bit)) → values ≡ [] → target_bits s (env_of values) (plain (expr.Bit token name i)) ++ old ≡ taken s (plain (expr.Bit token name i)) ++ old
unfolding plain taken
takes-Bit s values token name i old e = ap (λ z. target_bits s (env_of z) (plain (expr.Bit token name i)) ++ old) e

pub takes-Part : (s : Names) (values : List ℕ) (token : ℕ) (name : Bor (List ℕ)) (l r : Bor Expr) (old : List (Option Bit)) → values ≡ [] → target_bits s (env_of values) (plain (expr.Part token name l r)) ++ old ≡ taken s (plain (expr.Part token name l r)) ++ old
unfolding plain taken
takes-Part s values token name l r old e = ap (λ z. target_bits s (env_of z) (plain (expr.Part token name l r)) ++ old) e

pub takes-Indexed : (s : Names) (values : List ℕ) (token : ℕ) (name : Bor (List ℕ)) (f n : Bor Expr) (up : Bool) (old : List (Option Bit)) → values ≡ [] → target_bits s (env_of values) (plain (expr.Indexed token name f n up)) ++ old ≡ taken s (plain (expr.Indexed token name f n up)) ++ old
unfolding plain taken
takes-Indexed s values token name f n up old e = ap (λ z. target_bits s (env_of z) (plain (expr.Indexed token name f n up)) ++ old) e

pub takes-Unary : (s : Names) (op : Mark) (t : Bor Expr) (old : List (Option Bit)) → old ≡ taken s (plain (expr.Unary op t)) ++ old
unfolding plain taken
takes-Unary s op t old = refl

pub takes-Binary : (s : Names) (op : Mark) (l r : Bor Expr) (old : List (Option Bit)) → old ≡ taken s (plain (expr.Binary op l r)) ++ old
unfolding plain taken
takes-Binary s op l r old = refl

pub takes-Cond : (s : Names) (a b c : Bor Expr) (old : List (Option Bit)) → old ≡ taken s (plain (expr.Cond a b c)) ++ old
unfolding plain taken
takes-Cond s a b c old = refl

pub takes-Concat : (s : Names) (ts : Bor (List Expr)) (old : List (Option Bit)) → all_taken s (plain_list ts.now) ++ old ≡ taken s (plain (expr.Concat ts)) ++ old
unfolding taken
takes-Concat s ts old = ap (λ t. taken s t ++ old) (sym (plain_concat ts))

pub takes-Repeat : (s : Names) (n : Bor Expr) (ts : Bor (List Expr)) (old : List (Option Bit)) → old ≡ taken s (plain (expr.Repeat n ts)) ++ old
unfolding taken
takes-Repeat s n ts old = ap (λ t. taken s t ++ old) (sym (plain_repeat n ts))

pub takes-Cast : (s : Names) (signed : Bool) (t : Bor Expr) (old : List (Option Bit)) → old ≡ taken s (plain (expr.Cast signed t)) ++ old
unfolding plain taken
takes-Cast s signed t old = refl

pub takes-Paren : (s : Names) (t : Bor Expr) (old : List (Option Bit)) → old ≡ taken s (plain (expr.Paren t)) ++ old
unfolding plain taken
takes-Paren s t old = refl

pub record TakenLeft (s : Names) (ts : List Expr) (i : ℕ) (start now : List (Option Bit)) : Type 0 where
  pub shaped : faults s (plain_list (drop i ts)) false ≡ None
  pub left : all_taken s (plain_list (drop i ts)) ++ now ≡ all_taken s (plain_list ts) ++ start

pub taken_start : (s : Names) (ts : List Expr) (start : List (Option Bit)) → faults s (plain_list ts) false ≡ None → TakenLeft s ts 0 start start
taken_start s ts start h = record { shaped = h; left = refl }

pub taken_here : (s : Names) (ts : List Expr) (i : ℕ) (x : Expr) (start now : List (Option Bit)) → i < length ts → x ≡ get_or ts i x → TakenLeft s ts i start now → fault s (plain x) false ≡ None
unfolding plain_list fault
taken_here s ts i x start now l e n =
    (none_parts (fault s (plain x) false) (faults s (plain_list (drop (i + 1) ts)) false) (sym (ap (λ z. faults s (plain_list z) false) (rest_is ts i x l e)) ∙ n.shaped)).0

pub taken_more : (s : Names) (ts : List Expr) (i : ℕ) (x : Expr) (start now next : List (Option Bit)) → i < length ts → x ≡ get_or ts i x → TakenLeft s ts i start now → next ≡ taken s (plain x) ++ now → TakenLeft s ts (i + 1) start next
unfolding plain_list fault taken
taken_more s ts i x start now next l e n h = record {
  shaped = (none_parts (fault s (plain x) false) (faults s (plain_list (drop (i + 1) ts)) false) (sym (ap (λ z. faults s (plain_list z) false) (rest_is ts i x l e)) ∙ n.shaped)).1;
  left =
      ap (λ z. all_taken s (plain_list (drop (i + 1) ts)) ++ z) h
      ∙ (sym (append_assoc (all_taken s (plain_list (drop (i + 1) ts))) (taken s (plain x)) now)
      ∙ (sym (ap (λ z. all_taken s (plain_list z) ++ now) (rest_is ts i x l e)) ∙ n.left));
}

pub taken_done : (s : Names) (ts : List Expr) (i : ℕ) (start now : List (Option Bit)) → length ts ≤ i → TakenLeft s ts i start now → now ≡ all_taken s (plain_list ts) ++ start
unfolding plain_list taken
taken_done s ts i start now l n = sym (ap (λ z. all_taken s (plain_list z) ++ now) (drop_all i ts l)) ∙ n.left

-- pieces as bits

pub bits_start : (ps : List Piece) → [] ≡ all_bits (drop (length ps - 0) ps)
unfolding all_bits
bits_start ps = sym (ap all_bits (drop_all (length ps - 0) ps (omega arith)))

pub bits_step : (ps : List Piece) (k i : ℕ) (z : Piece) (old new : List (Option Bit)) → k < length ps → i ≡ length ps - 1 - k → old ≡ all_bits (drop (length ps - k) ps) → new ≡ old ++ bits_of (get_or ps i z) → new ≡ all_bits (drop (length ps - (k + 1)) ps)
unfolding all_bits
bits_step ps k i z old new l q e h =
    let a : length ps - (k + 1) ≡ i = omega arith in
    let b : suc i ≡ length ps - k = omega arith in
    h ∙ (ap (λ (xs : List (Option Bit)). xs ++ bits_of (get_or ps i z)) e ∙ (ap (λ (n : ℕ). all_bits (drop n ps) ++ bits_of (get_or ps i z)) (sym b) ∙ (sym (ap all_bits (drop-cons ps i z (omega arith))) ∙ ap (λ (n : ℕ). all_bits (drop n ps)) (sym a))))

pub bits_done : (ps : List Piece) (k : ℕ) (old : List (Option Bit)) → length ps ≤ k → old ≡ all_bits (drop (length ps - k) ps) → old ≡ all_bits ps
bits_done ps k old l e = let z : length ps - k ≡ 0 = omega arith in e ∙ ap (λ (n : ℕ). all_bits (drop n ps)) z

stays : (z : ℤ) → z +ℤ pos 0 ≡ z
stays z = grind (arith, ints)

further : (z : ℤ) (k : ℕ) → (z +ℤ pos k) +ℤ pos 1 ≡ z +ℤ pos (k + 1)
further z k = grind (arith, ints)

pub run_start : (p : Piece) (old : List (Option Bit)) → old ++ bits_in p (p.from +ℤ pos 0) (p.count - 0) ≡ old ++ bits_of p
run_start p old = let n : p.count - 0 ≡ p.count = omega arith in ap (λ (z : ℤ). old ++ bits_in p z (p.count - 0)) (stays p.from) ∙ ap (λ (m : ℕ). old ++ bits_in p p.from m) n

pub run_step : (p : Piece) (k : ℕ) (old now : List (Option Bit)) (b : Option Bit) → k < p.count → b ≡ bit_in p (p.from +ℤ pos k) → now ++ bits_in p (p.from +ℤ pos k) (p.count - k) ≡ old ++ bits_of p
    → (now ++ b ∷ []) ++ bits_in p (p.from +ℤ pos (k + 1)) (p.count - (k + 1)) ≡ old ++ bits_of p
unfolding bits_in
run_step p k old now b l e h =
    let n : p.count - k ≡ suc (p.count - (k + 1)) = omega arith in
    append_assoc now (b ∷ []) (bits_in p (p.from +ℤ pos (k + 1)) (p.count - (k + 1)))
    ∙ (ap (λ (z : ℤ). now ++ b ∷ bits_in p z (p.count - (k + 1))) (sym (further p.from k))
    ∙ (ap (λ (o : Option Bit). now ++ o ∷ bits_in p ((p.from +ℤ pos k) +ℤ pos 1) (p.count - (k + 1))) e
    ∙ (ap (λ (m : ℕ). now ++ bits_in p (p.from +ℤ pos k) m) (sym n) ∙ h)))

pub run_done : (p : Piece) (k : ℕ) (old now : List (Option Bit)) → p.count ≤ k → now ++ bits_in p (p.from +ℤ pos k) (p.count - k) ≡ old ++ bits_of p → now ≡ old ++ bits_of p
unfolding bits_in
run_done p k old now l h =
    let z : p.count - k ≡ 0 = omega arith in
    sym (append-nil now) ∙ (ap (λ (m : ℕ). now ++ bits_in p (p.from +ℤ pos k) m) (sym z) ∙ h)
