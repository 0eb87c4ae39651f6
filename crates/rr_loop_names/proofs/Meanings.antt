-- Trees with the values of a turn mean what the trees mean in the scope of the turn.
use Rattle.std.proofs.Common.{◌≡◌, ℕ, ◌+◌, ◌-◌, ◌*◌, ◌==◌, Bool, true, false, cond, List, [], ◌∷◌, ◌++◌, length, Option, None, Some, refl, sym, ◌∙◌, ap, ◌||◌, ◌&&◌, get_or}
use Rattle.std.specs.Str.{bytes_eq}
use Rattle.rr_syntax.specs.Tree.{Tree, Trees, Name, Literal, Bit as BitSelect, Part, Indexed, Unary, Binary, Cond, Concat, Repeat, Cast, Paren, End, More}
use Rattle.rr_bits.specs.Words.{word, extend, select, is_zero}
use Rattle.rr_bits.specs.Fields.{length_word}
use Rattle.rr_expr.specs.declared.types.Bit.{Bit}
use Rattle.rr_expr.specs.declared.types.Entity.{Entity}
use Rattle.rr_expr.specs.declared.types.Entity.TheVariants.{Constant}
use Rattle.rr_expr.specs.declared.types.Shape.{Shape}
use Rattle.rr_expr.specs.declared.types.ExprFault.TheVariants.{BadRange, NotConstant}
use Rattle.rr_expr.specs.declared.operators.Infix.TheVariants.{Either}
use Rattle.rr_expr.specs.declared.operators.Prefix.TheVariants.{Plus}
use Rattle.rr_expr.specs.Operators.{infixes, prefixes, joined, prefix_shape, infix_shape, own_with, prefix_value, infix_value}
use Rattle.rr_expr.specs.Scopes.{Names, lookup, or_instance, meant, entity_shape, entity_range, entity_value}
use Rattle.rr_expr.specs.Selects.{place, span, count, is_against, lowest_place, integer_with, repeated}
use Rattle.rr_expr.specs.Memories.{index_shape, index_value}
use Rattle.rr_expr.specs.Values.{form, widths, value, values, nowhere, unsigned_of}
use Rattle.rr_expr.specs.Faults.{fault, faults, fits, fit, first, first_part, is_width, or_else, fault_if, width_fault, name_fault, base_fault, index_fault, count_fault, takes_constants, is_bad}
use Rattle.rr_loop_names.specs.Turns.{Turn, turned, literal_of, put_name, put_tree, put_parts, in_turn, HasNoBase, HaveNoBase}
use Rattle.rr_loop_names.specs.Laws.{PutMeans}
use Rattle.rr_loop_names.proofs.Keeping.{first_put, first_part_put}

-- what a name stands for by its value in a turn, or outside
abbrev with_value : Option ℕ → Entity → Entity
with_value None e = e
with_value (Some v) e = Constant (word 32 v) true

meant_in : (turn : Turn) (s : Names) (x : List ℕ) → meant (in_turn turn s) x ≡ with_value (turned x turn) (meant s x)
unfolding meant lookup in_turn turned
meant_in [] s x = refl
meant_in (e ∷ es) s x = go (bytes_eq x e.0) (meant_in es s x)
  where
    go : (b : Bool) → or_instance (lookup x (in_turn es s)) ≡ with_value (turned x es) (or_instance (lookup x s))
        → or_instance (cond b (Some (Constant (word 32 e.1) true)) (lookup x (in_turn es s))) ≡ with_value (cond b (Some e.1) (turned x es)) (or_instance (lookup x s))
    go true h = refl
    go false h = h

-- a name that is no loop's stands for the same
outer : (turn : Turn) (s : Names) (x : List ℕ) → turned x turn ≡ None → meant s x ≡ meant (in_turn turn s) x
outer turn s x h = sym (meant_in turn s x ∙ ap (λ o. with_value o (meant s x)) h)

abbrev signed_of : ℕ → Shape
signed_of w = record { width = w; signed = true }

named_shape : (s u : Names) (token : ℕ) (x : List ℕ) (o : Option ℕ) → meant u x ≡ with_value o (meant s x) → form s (put_name token x o) ≡ form u (Name token x)
unfolding form
named_shape s u token x None m = sym (ap entity_shape m)
named_shape s u token x (Some v) m = sym (ap entity_shape m ∙ ap signed_of (length_word 32 v))

named_value : (s u : Names) (token : ℕ) (x : List ℕ) (o : Option ℕ) → meant u x ≡ with_value o (meant s x) → value s (put_name token x o) ≡ value u (Name token x)
unfolding value
named_value s u token x None m = let n = sym m in λ k env w signed. extend w signed (entity_value env (n k))
named_value s u token x (Some v) m = let n = sym m in λ k env w signed. extend w signed (entity_value env (n k))

literal_fault : (s : Names) (token v : ℕ) → fault s (Literal token (literal_of v)) ≡ (λ (constant : Bool). name_fault constant token (Constant (word 32 v) true))
unfolding fault
literal_fault s token v = let n = sym (length_word 32 v) in λ k constant. width_fault token (n k)

constant_fault : (u : Names) (token : ℕ) (x : List ℕ) (v : ℕ) → meant u x ≡ Constant (word 32 v) true → (λ (constant : Bool). name_fault constant token (Constant (word 32 v) true)) ≡ fault u (Name token x)
unfolding fault
constant_fault u token x v m = let n = sym m in λ k constant. name_fault constant token (n k)

named_fault : (s u : Names) (token : ℕ) (x : List ℕ) (o : Option ℕ) → meant u x ≡ with_value o (meant s x) → fault s (put_name token x o) ≡ fault u (Name token x)
unfolding fault
named_fault s u token x None m = let n = sym m in λ k constant. name_fault constant token (n k)
named_fault s u token x (Some v) m = literal_fault s token v ∙ constant_fault u token x v m

named_fits : (s u : Names) (token : ℕ) (x : List ℕ) (o : Option ℕ) → meant u x ≡ with_value o (meant s x) → fits s (put_name token x o) ≡ fits u (Name token x)
unfolding fits
named_fits s u token x None m = sym (ap (λ e. is_width (entity_shape e).width) m)
named_fits s u token x (Some v) m = sym (ap (λ e. is_width (entity_shape e).width) m ∙ ap is_width (length_word 32 v))

module _ (turn : Turn) (s : Names) where
  mutual
    unfolding form value put_tree HasNoBase

    same : (t : Tree) → HasNoBase turn t → (form s (put_tree turn t) ≡ form (in_turn turn s) t) × (value s (put_tree turn t) ≡ value (in_turn turn s) t)
    same (Name token x) h = (named_shape s (in_turn turn s) token x (turned x turn) (meant_in turn s x), named_value s (in_turn turn s) token x (turned x turn) (meant_in turn s x))
    same (Literal token n) h = (refl, refl)
    same (BitSelect token x i) h =
        let m = outer turn s x h.0 in
        let p = same i h.1 in
        (λ k. index_shape (m k), λ k env w signed. extend w signed (index_value env (m k) (integer_with (p.0 k) (p.1 k env))))
    same (Part token x l r) h =
        let m = outer turn s x h.0 in
        let p = same l h.1 in
        let q = same r h.2 in (
          λ k. unsigned_of (span (integer_with (p.0 k) (p.1 k nowhere)) (integer_with (q.0 k) (q.1 k nowhere))),
          λ k env w signed. extend w signed (select (entity_value env (m k)) (place (entity_range (m k)) (integer_with (q.0 k) (q.1 k nowhere))) (span (integer_with (p.0 k) (p.1 k nowhere)) (integer_with (q.0 k) (q.1 k nowhere)))),
        )
    same (Indexed token x f n up) h =
        let m = outer turn s x h.0 in
        let p = same f h.1 in
        let q = same n h.2 in (
          λ k. unsigned_of (count (integer_with (q.0 k) (q.1 k nowhere))),
          λ k env w signed. extend w signed (select (entity_value env (m k)) (lowest_place (entity_range (m k)) up (integer_with (p.0 k) (p.1 k env)) (count (integer_with (q.0 k) (q.1 k nowhere)))) (count (integer_with (q.0 k) (q.1 k nowhere)))),
        )
    same (Unary op t) h =
        let p = same t h in
        (λ k. prefix_shape (get_or prefixes op Plus) (p.0 k), λ k env. prefix_value (get_or prefixes op Plus) (p.0 k) (p.1 k env))
    same (Binary op l r) h =
        let p = same l h.0 in
        let q = same r h.1 in
        (λ k. infix_shape (get_or infixes op Either) (p.0 k) (q.0 k), λ k env. infix_value (get_or infixes op Either) (p.0 k) (q.0 k) (p.1 k env) (q.1 k env))
    same (Cond a b c) h =
        let p = same a h.0 in
        let q = same b h.1 in
        let r = same c h.2 in
        (λ k. joined (q.0 k) (r.0 k), λ k env w signed. cond (is_zero (own_with (p.0 k) (p.1 k env))) (r.1 k env w signed) (q.1 k env w signed))
    same (Concat ts) h =
        let p = sames ts h in
        (λ k. unsigned_of (p.0 k), λ k env w signed. extend w signed (p.1 k env))
    same (Repeat n ts) h =
        let p = same n h.0 in
        let q = sames ts h.1 in
        (λ k. unsigned_of (count (integer_with (p.0 k) (p.1 k nowhere)) * q.0 k), λ k env w signed. extend w signed (repeated (count (integer_with (p.0 k) (p.1 k nowhere))) (q.1 k env)))
    same (Cast to t) h =
        let p = same t h in
        (λ k. record { width = (p.0 k).width; signed = to }, λ k env w signed. extend w signed (own_with (p.0 k) (p.1 k env)))
    same (Paren t) h = same t h

    sames : (ts : Trees) → HaveNoBase turn ts → (widths s (put_parts turn ts) ≡ widths (in_turn turn s) ts) × (values s (put_parts turn ts) ≡ values (in_turn turn s) ts)
    sames End h = (refl, refl)
    sames (More t ts) h =
        let p = same t h.0 in
        let q = sames ts h.1 in
        (λ k. (p.0 k).width + q.0 k, λ k env. q.1 k env ++ own_with (p.0 k) (p.1 k env))

  mutual
    unfolding fault put_tree HasNoBase

    same_fault : (t : Tree) → HasNoBase turn t → fault s (put_tree turn t) ≡ fault (in_turn turn s) t
    same_fault (Name token x) h = named_fault s (in_turn turn s) token x (turned x turn) (meant_in turn s x)
    same_fault (Literal token n) h = refl
    same_fault (BitSelect token x i) h =
        let m = outer turn s x h.0 in
        let p = same_fault i h.1 in
        λ k constant. or_else (index_fault constant token (m k)) (p k constant)
    same_fault (Part token x l r) h =
        let m = outer turn s x h.0 in
        let p = same l h.1 in
        let q = same r h.2 in
        let v = same_fault l h.1 in
        let w = same_fault r h.2 in
        λ k constant. or_else (base_fault constant token (m k)) (or_else (v k true) (or_else (w k true)
        (or_else (fault_if (is_against (entity_range (m k)) (integer_with (p.0 k) (p.1 k nowhere)) (integer_with (q.0 k) (q.1 k nowhere))) (BadRange token))
        (width_fault token (span (integer_with (p.0 k) (p.1 k nowhere)) (integer_with (q.0 k) (q.1 k nowhere)))))))
    same_fault (Indexed token x f n up) h =
        let m = outer turn s x h.0 in
        let q = same n h.2 in
        let v = same_fault f h.1 in
        let w = same_fault n h.2 in
        λ k constant. or_else (base_fault constant token (m k)) (or_else (count_fault (w k true) token (count (integer_with (q.0 k) (q.1 k nowhere)))) (or_else (v k constant) (w k true)))
    same_fault (Unary op t) h = same_fault t h
    same_fault (Binary op l r) h =
        let p = same l h.0 in
        let q = same r h.1 in
        let v = same_fault l h.0 in
        let w = same_fault r h.1 in
        let f = first_put turn r in
        λ k constant. or_else (v k (constant || takes_constants (get_or infixes op Either))) (or_else (w k (constant || takes_constants (get_or infixes op Either)))
        (fault_if (is_bad (get_or infixes op Either) (p.0 k) (q.0 k) (q.1 k nowhere)) (NotConstant (f k))))
    same_fault (Cond a b c) h =
        let p = same_fault a h.0 in
        let q = same_fault b h.1 in
        let r = same_fault c h.2 in
        λ k constant. or_else (p k constant) (or_else (q k constant) (r k constant))
    same_fault (Concat ts) h =
        let p = sames ts h in
        let v = same_faults ts h in
        let f = first_part_put turn ts in
        λ k constant. or_else (v k constant) (width_fault (f k - 1) (p.0 k))
    same_fault (Repeat n ts) h =
        let p = same n h.0 in
        let q = sames ts h.1 in
        let v = same_fault n h.0 in
        let w = same_faults ts h.1 in
        let f = first_put turn n in
        λ k constant. or_else (v k true) (or_else (fault_if (count (integer_with (p.0 k) (p.1 k nowhere)) == 0) (BadRange (f k)))
        (or_else (w k constant) (width_fault (f k - 1) (count (integer_with (p.0 k) (p.1 k nowhere)) * q.0 k))))
    same_fault (Cast signed t) h = same_fault t h
    same_fault (Paren t) h = same_fault t h

    same_faults : (ts : Trees) → HaveNoBase turn ts → faults s (put_parts turn ts) ≡ faults (in_turn turn s) ts
    same_faults End h = refl
    same_faults (More t ts) h =
        let p = same_fault t h.0 in
        let q = same_faults ts h.1 in
        λ k constant. or_else (p k constant) (q k constant)

  mutual
    unfolding fits put_tree HasNoBase

    same_fits : (t : Tree) → HasNoBase turn t → fits s (put_tree turn t) ≡ fits (in_turn turn s) t
    same_fits (Name token x) h = named_fits s (in_turn turn s) token x (turned x turn) (meant_in turn s x)
    same_fits (Literal token n) h = refl
    same_fits (BitSelect token x i) h =
        let m = outer turn s x h.0 in
        let p = same_fits i h.1 in
        λ k. is_width (entity_shape (m k)).width && p k
    same_fits (Part token x l r) h =
        let m = outer turn s x h.0 in
        let p = same l h.1 in
        let q = same r h.2 in
        let v = same_fits l h.1 in
        let w = same_fits r h.2 in
        λ k. is_width (entity_shape (m k)).width && (v k && (w k && is_width (span (integer_with (p.0 k) (p.1 k nowhere)) (integer_with (q.0 k) (q.1 k nowhere)))))
    same_fits (Indexed token x f n up) h =
        let m = outer turn s x h.0 in
        let q = same n h.2 in
        let v = same_fits f h.1 in
        let w = same_fits n h.2 in
        λ k. is_width (entity_shape (m k)).width && (v k && (w k && is_width (count (integer_with (q.0 k) (q.1 k nowhere)))))
    same_fits (Unary op t) h = same_fits t h
    same_fits (Binary op l r) h =
        let v = same_fits l h.0 in
        let w = same_fits r h.1 in
        λ k. v k && w k
    same_fits (Cond a b c) h =
        let p = same_fits a h.0 in
        let q = same_fits b h.1 in
        let r = same_fits c h.2 in
        λ k. p k && (q k && r k)
    same_fits (Concat ts) h =
        let p = sames ts h in
        let v = same_fit ts h in
        λ k. v k && is_width (p.0 k)
    same_fits (Repeat n ts) h =
        let p = same n h.0 in
        let q = sames ts h.1 in
        let v = same_fits n h.0 in
        let w = same_fit ts h.1 in
        λ k. v k && (w k && is_width (count (integer_with (p.0 k) (p.1 k nowhere)) * q.0 k))
    same_fits (Cast signed t) h = same_fits t h
    same_fits (Paren t) h = same_fits t h

    same_fit : (ts : Trees) → HaveNoBase turn ts → fit s (put_parts turn ts) ≡ fit (in_turn turn s) ts
    same_fit End h = refl
    same_fit (More t ts) h =
        let p = same_fits t h.0 in
        let q = same_fit ts h.1 in
        λ k. p k && q k

pub put_means : PutMeans
put_means = record {
  shape = λ turn s t h. (same turn s t h).0;
  meaning = λ turn s t h env w signed k. (same turn s t h).1 k env w signed;
  refusal = λ turn s t h constant k. same_fault turn s t h k constant;
  fitting = λ turn s t h. same_fits turn s t h;
  part_widths = λ turn s ts h. (sames turn s ts h).0;
  part_meanings = λ turn s ts h env k. (sames turn s ts h).1 k env;
  part_refusals = λ turn s ts h constant k. same_faults turn s ts h k constant;
}
