-- what stands by itself with the width of its own word
use Rattle.std.proofs.Common.{◌≡◌, ℕ, ◌*◌, ◌<◌, List, Bool, ◌&&◌, length, get_or, sym, ◌∙◌, ap, arith}
use Rattle.std.proofs.lemmas.List.{same_lists, get_or_default}
use denote.Ref.{Bor}
use Rattle.rr_syntax.specs.declared.tree.Expr.{Expr}
use Rattle.rr_syntax.specs.declared.tree.Expr.TheVariants as expr
use Rattle.rr_syntax.specs.View.{plain, plain_list}
use Rattle.rr_bits.specs.Words.{extend, top}
use Rattle.rr_bits.proofs.Places.{length_tabulate, get_tabulate}
use Rattle.rr_expr.specs.declared.types.Bit.{Bit}
use Rattle.rr_expr.specs.declared.types.Shape.{Shape}
use Rattle.rr_expr.specs.Faults.{constant_count}
use Rattle.rr_expr.specs.Operators.{own_with}
use Rattle.rr_expr.specs.Scopes.{Names}
use Rattle.rr_expr.specs.Selects.{repeated}
use Rattle.rr_expr.specs.Values.{own, form, value, widths, values}
use Rattle.rr_expr.proofs.Equations.{form-Concat, form-Repeat, form-Cast, value-Concat, value-Repeat, value-Cast}

extend_same : (w : ℕ) (signed : Bool) (xs : List Bool) → length xs ≡ w → xs ≡ extend w signed xs
extend_same w signed xs e =
    let f = λ (i : ℕ). get_or xs i (signed && top xs) in
    sym (same_lists (extend w signed xs) xs (length_tabulate w f ∙ sym e) (λ k d l. let b : k < w = rw (length_tabulate w f) at l in get_tabulate w k f d b ∙ get_or_default xs k (signed && top xs) d (omega (arith, b, e))))

-- a word of that width, extended to it
shaped : (a : Shape) (x : ℕ → Bool → List Bool) (word : List Bool) → x a.width a.signed ≡ extend a.width a.signed word → length word ≡ a.width → word ≡ own_with a x
shaped a x word e l = extend_same a.width a.signed word l ∙ sym e

pub own_concat : (s : Names) (t : Expr) (ts : Bor (List Expr)) (env : Bit → Bool) (word : List Bool) → t ≡ expr.Concat ts → word ≡ values s (plain_list ts.now) env → length word ≡ widths s (plain_list ts.now) → word ≡ own s (plain t) env
own_concat s t ts env word e v l =
    let f : (form s (plain t)).width ≡ widths s (plain_list ts.now) = rw e (ap (λ (a : Shape). a.width) (form-Concat s ts)) in
    let x : value s (plain t) env (form s (plain t)).width (form s (plain t)).signed ≡ extend (form s (plain t)).width (form s (plain t)).signed (values s (plain_list ts.now) env) = rw e (value-Concat s ts env _ _) in
    shaped (form s (plain t)) (value s (plain t) env) word (x ∙ ap (λ ys. extend (form s (plain t)).width (form s (plain t)).signed ys) (sym v)) (l ∙ sym f)

pub own_repeat : (s : Names) (t : Expr) (n : Bor Expr) (ts : Bor (List Expr)) (env : Bit → Bool) (word : List Bool) → t ≡ expr.Repeat n ts → word ≡ repeated (constant_count s (plain n.now)) (values s (plain_list ts.now) env) → length word ≡ constant_count s (plain n.now) * widths s (plain_list ts.now) → word ≡ own s (plain t) env
own_repeat s t n ts env word e v l =
    let f : (form s (plain t)).width ≡ constant_count s (plain n.now) * widths s (plain_list ts.now) = rw e (ap (λ (a : Shape). a.width) (form-Repeat s n ts)) in
    let x : value s (plain t) env (form s (plain t)).width (form s (plain t)).signed ≡ extend (form s (plain t)).width (form s (plain t)).signed (repeated (constant_count s (plain n.now)) (values s (plain_list ts.now) env)) = rw e (value-Repeat s n ts env _ _) in
    shaped (form s (plain t)) (value s (plain t) env) word (x ∙ ap (λ ys. extend (form s (plain t)).width (form s (plain t)).signed ys) (sym v)) (l ∙ sym f)

pub own_cast : (s : Names) (t : Expr) (to : Bool) (of : Bor Expr) (env : Bit → Bool) (word : List Bool) → t ≡ expr.Cast to of → word ≡ own s (plain of.now) env → length word ≡ (form s (plain of.now)).width → word ≡ own s (plain t) env
own_cast s t to of env word e v l =
    let f : (form s (plain t)).width ≡ (form s (plain of.now)).width = rw e (ap (λ (a : Shape). a.width) (form-Cast s to of)) in
    let x : value s (plain t) env (form s (plain t)).width (form s (plain t)).signed ≡ extend (form s (plain t)).width (form s (plain t)).signed (own s (plain of.now) env) = rw e (value-Cast s to of env _ _) in
    shaped (form s (plain t)) (value s (plain t) env) word (x ∙ ap (λ ys. extend (form s (plain t)).width (form s (plain t)).signed ys) (sym v)) (l ∙ sym f)
