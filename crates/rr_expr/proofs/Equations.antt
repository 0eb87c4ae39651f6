-- The definitions at each form of the arena tree.
use Rattle.std.proofs.Common.{◌≡◌, ℕ, ◌-◌, ◌*◌, ◌==◌, List, Bool, true, cond, refl, ap, ◌&&◌, ◌||◌, get_or}
use Rattle.std.proofs.lemmas.Bool.{and_parts, ltb-true}
use denote.Ref.{Bor}
use Rattle.rr_syntax.specs.declared.tree.Expr.{Expr, the_lemmas}
use Rattle.rr_syntax.specs.declared.tree.Expr.TheVariants as expr
use Rattle.rr_syntax.specs.declared.token.Number.{Number}
use Rattle.rr_syntax.specs.declared.token.Mark.{Mark}
use Rattle.rr_syntax.specs.View.{plain, plain_list}
use Rattle.rr_syntax.proofs.Rows.{plain_concat, plain_repeat}
use Rattle.rr_bits.specs.Words.{word, extend, select, is_zero}
use Rattle.rr_bits.specs.Fields.{length_word}
use Rattle.rr_bits.proofs.Places.{length_tabulate}
use Rattle.rr_expr.specs.declared.types.Bit.{Bit}
use Rattle.rr_expr.specs.declared.types.ExprFault.TheVariants.{BadRange, NotConstant}
use Rattle.rr_expr.specs.declared.operators.Infix.TheVariants.{Either}
use Rattle.rr_expr.specs.declared.operators.Prefix.TheVariants.{Plus}
use Rattle.rr_expr.specs.Operators.{infixes, prefixes, joined, prefix_shape, infix_shape, own_with, prefix_value, infix_value}
use Rattle.rr_expr.specs.Scopes.{Names, meant, entity_shape, entity_range, entity_value}
use Rattle.rr_expr.specs.Selects.{place, span, is_against, count, lowest_place, integer_with, repeated}
use Rattle.rr_expr.specs.Memories.{index_shape, index_value}
use Rattle.rr_expr.specs.Values.{form, widths, value, values, nowhere, unsigned_of}
use Rattle.rr_expr.specs.Faults.{first, first_part, fits, fit, fault, faults, is_width, or_else, fault_if, name_fault, base_fault, index_fault, width_fault, count_fault, takes_constants, is_bad}

pub first-Name : (token : ℕ) (name : Bor (List ℕ)) → first (plain (expr.Name token name)) ≡ token
unfolding plain first
first-Name token name = refl

pub first-Literal : (token : ℕ) (n : Number) → first (plain (expr.Literal token n)) ≡ token
unfolding plain first
first-Literal token n = refl

pub first-Bit : (token : ℕ) (name : Bor (List ℕ)) (i : Bor Expr) → first (plain (expr.Bit token name i)) ≡ token
unfolding plain first
first-Bit token name i = refl

pub first-Part : (token : ℕ) (name : Bor (List ℕ)) (l r : Bor Expr) → first (plain (expr.Part token name l r)) ≡ token
unfolding plain first
first-Part token name l r = refl

pub first-Indexed : (token : ℕ) (name : Bor (List ℕ)) (f n : Bor Expr) (up : Bool) → first (plain (expr.Indexed token name f n up)) ≡ token
unfolding plain first
first-Indexed token name f n up = refl

pub first-Unary : (op : Mark) (t : Bor Expr) → first (plain (expr.Unary op t)) ≡ first (plain t.now) - 1
unfolding plain first
first-Unary op t = refl

pub first-Binary : (op : Mark) (l r : Bor Expr) → first (plain (expr.Binary op l r)) ≡ first (plain l.now)
unfolding plain first
first-Binary op l r = refl

pub first-Cond : (a b c : Bor Expr) → first (plain (expr.Cond a b c)) ≡ first (plain a.now)
unfolding plain first
first-Cond a b c = refl

pub first-Cast : (to : Bool) (t : Bor Expr) → first (plain (expr.Cast to t)) ≡ first (plain t.now) - 2
unfolding plain first
first-Cast to t = refl

pub first-Paren : (t : Bor Expr) → first (plain (expr.Paren t)) ≡ first (plain t.now) - 1
unfolding plain first
first-Paren t = refl

pub first-Concat : (ts : Bor (List Expr)) → first (plain (expr.Concat ts)) ≡ first_part (plain_list ts.now) - 1
unfolding first
first-Concat ts = ap (λ t. first t) (plain_concat ts)

pub first-Repeat : (n : Bor Expr) (ts : Bor (List Expr)) → first (plain (expr.Repeat n ts)) ≡ first (plain n.now) - 1
unfolding first
first-Repeat n ts = ap (λ t. first t) (plain_repeat n ts)

pub form-Name : (s : Names) (token : ℕ) (name : Bor (List ℕ)) → form s (plain (expr.Name token name)) ≡ entity_shape (meant s name.now)
unfolding plain form
form-Name s token name = refl

pub form-Literal : (s : Names) (token : ℕ) (n : Number) → form s (plain (expr.Literal token n)) ≡ record { width = n.width; signed = n.signed }
unfolding plain form
form-Literal s token n = refl

pub form-Bit : (s : Names) (token : ℕ) (name : Bor (List ℕ)) (i : Bor Expr) → form s (plain (expr.Bit token name i)) ≡ index_shape (meant s name.now)
unfolding plain form
form-Bit s token name i = refl

pub form-Part : (s : Names) (token : ℕ) (name : Bor (List ℕ)) (l r : Bor Expr) → form s (plain (expr.Part token name l r)) ≡ unsigned_of (span (integer_with (form s (plain l.now)) (value s (plain l.now) nowhere)) (integer_with (form s (plain r.now)) (value s (plain r.now) nowhere)))
unfolding plain form
form-Part s token name l r = refl

pub form-Indexed : (s : Names) (token : ℕ) (name : Bor (List ℕ)) (f n : Bor Expr) (up : Bool) → form s (plain (expr.Indexed token name f n up)) ≡ unsigned_of (count (integer_with (form s (plain n.now)) (value s (plain n.now) nowhere)))
unfolding plain form
form-Indexed s token name f n up = refl

pub form-Unary : (s : Names) (op : Mark) (t : Bor Expr) → form s (plain (expr.Unary op t)) ≡ prefix_shape (get_or prefixes op.0 Plus) (form s (plain t.now))
unfolding plain form
form-Unary s op t = refl

pub form-Binary : (s : Names) (op : Mark) (l r : Bor Expr) → form s (plain (expr.Binary op l r)) ≡ infix_shape (get_or infixes op.0 Either) (form s (plain l.now)) (form s (plain r.now))
unfolding plain form
form-Binary s op l r = refl

pub form-Cond : (s : Names) (a b c : Bor Expr) → form s (plain (expr.Cond a b c)) ≡ joined (form s (plain b.now)) (form s (plain c.now))
unfolding plain form
form-Cond s a b c = refl

pub form-Cast : (s : Names) (to : Bool) (t : Bor Expr) → form s (plain (expr.Cast to t)) ≡ record { width = (form s (plain t.now)).width; signed = to }
unfolding plain form
form-Cast s to t = refl

pub form-Paren : (s : Names) (t : Bor Expr) → form s (plain (expr.Paren t)) ≡ (form s (plain t.now))
unfolding plain form
form-Paren s t = refl

pub form-Concat : (s : Names) (ts : Bor (List Expr)) → form s (plain (expr.Concat ts)) ≡ unsigned_of (widths s (plain_list ts.now))
unfolding form
form-Concat s ts = ap (λ t. form s t) (plain_concat ts)

pub form-Repeat : (s : Names) (n : Bor Expr) (ts : Bor (List Expr)) → form s (plain (expr.Repeat n ts)) ≡ unsigned_of ((count (integer_with (form s (plain n.now)) (value s (plain n.now) nowhere))) * (widths s (plain_list ts.now)))
unfolding form
form-Repeat s n ts = ap (λ t. form s t) (plain_repeat n ts)

pub fits-Name : (s : Names) (token : ℕ) (name : Bor (List ℕ)) → fits s (plain (expr.Name token name)) ≡ (is_width (entity_shape (meant s name.now)).width)
unfolding plain fits
fits-Name s token name = refl

pub fits-Literal : (s : Names) (token : ℕ) (n : Number) → fits s (plain (expr.Literal token n)) ≡ is_width n.width
unfolding plain fits
fits-Literal s token n = refl

pub fits-Bit : (s : Names) (token : ℕ) (name : Bor (List ℕ)) (i : Bor Expr) → fits s (plain (expr.Bit token name i)) ≡ ((is_width (entity_shape (meant s name.now)).width) && fits s (plain i.now))
unfolding plain fits
fits-Bit s token name i = refl

pub fits-Part : (s : Names) (token : ℕ) (name : Bor (List ℕ)) (l r : Bor Expr) → fits s (plain (expr.Part token name l r)) ≡ ((is_width (entity_shape (meant s name.now)).width) && (fits s (plain l.now) && (fits s (plain r.now) && is_width (span (integer_with (form s (plain l.now)) (value s (plain l.now) nowhere)) (integer_with (form s (plain r.now)) (value s (plain r.now) nowhere))))))
unfolding plain fits
fits-Part s token name l r = refl

pub fits-Indexed : (s : Names) (token : ℕ) (name : Bor (List ℕ)) (f n : Bor Expr) (up : Bool) → fits s (plain (expr.Indexed token name f n up)) ≡ ((is_width (entity_shape (meant s name.now)).width) && (fits s (plain f.now) && (fits s (plain n.now) && is_width (count (integer_with (form s (plain n.now)) (value s (plain n.now) nowhere))))))
unfolding plain fits
fits-Indexed s token name f n up = refl

pub fits-Unary : (s : Names) (op : Mark) (t : Bor Expr) → fits s (plain (expr.Unary op t)) ≡ fits s (plain t.now)
unfolding plain fits
fits-Unary s op t = refl

pub fits-Binary : (s : Names) (op : Mark) (l r : Bor Expr) → fits s (plain (expr.Binary op l r)) ≡ (fits s (plain l.now) && fits s (plain r.now))
unfolding plain fits
fits-Binary s op l r = refl

pub fits-Cond : (s : Names) (a b c : Bor Expr) → fits s (plain (expr.Cond a b c)) ≡ (fits s (plain a.now) && (fits s (plain b.now) && fits s (plain c.now)))
unfolding plain fits
fits-Cond s a b c = refl

pub fits-Cast : (s : Names) (to : Bool) (t : Bor Expr) → fits s (plain (expr.Cast to t)) ≡ fits s (plain t.now)
unfolding plain fits
fits-Cast s to t = refl

pub fits-Paren : (s : Names) (t : Bor Expr) → fits s (plain (expr.Paren t)) ≡ fits s (plain t.now)
unfolding plain fits
fits-Paren s t = refl

pub fits-Concat : (s : Names) (ts : Bor (List Expr)) → fits s (plain (expr.Concat ts)) ≡ (fit s (plain_list ts.now) && is_width (widths s (plain_list ts.now)))
unfolding fits
fits-Concat s ts = ap (λ t. fits s t) (plain_concat ts)

pub fits-Repeat : (s : Names) (n : Bor Expr) (ts : Bor (List Expr)) → fits s (plain (expr.Repeat n ts)) ≡ (fits s (plain n.now) && (fit s (plain_list ts.now) && is_width ((count (integer_with (form s (plain n.now)) (value s (plain n.now) nowhere))) * (widths s (plain_list ts.now)))))
unfolding fits
fits-Repeat s n ts = ap (λ t. fits s t) (plain_repeat n ts)

pub value-Name : (s : Names) (token : ℕ) (name : Bor (List ℕ)) (env : Bit → Bool) (w : ℕ) (signed : Bool) → value s (plain (expr.Name token name)) env w signed ≡ extend w signed (entity_value env (meant s name.now))
unfolding plain value
value-Name s token name env w signed = refl

pub value-Literal : (s : Names) (token : ℕ) (n : Number) (env : Bit → Bool) (w : ℕ) (signed : Bool) → value s (plain (expr.Literal token n)) env w signed ≡ extend w signed (word n.width n.value)
unfolding plain value
value-Literal s token n env w signed = refl

pub value-Bit : (s : Names) (token : ℕ) (name : Bor (List ℕ)) (i : Bor Expr) (env : Bit → Bool) (w : ℕ) (signed : Bool) → value s (plain (expr.Bit token name i)) env w signed ≡ extend w signed (index_value env (meant s name.now) (integer_with (form s (plain i.now)) (value s (plain i.now) env)))
unfolding plain value
value-Bit s token name i env w signed = refl

pub value-Part : (s : Names) (token : ℕ) (name : Bor (List ℕ)) (l r : Bor Expr) (env : Bit → Bool) (w : ℕ) (signed : Bool) → value s (plain (expr.Part token name l r)) env w signed ≡ extend w signed (select (entity_value env (meant s name.now)) (place (entity_range (meant s name.now)) (integer_with (form s (plain r.now)) (value s (plain r.now) nowhere))) (span (integer_with (form s (plain l.now)) (value s (plain l.now) nowhere)) (integer_with (form s (plain r.now)) (value s (plain r.now) nowhere))))
unfolding plain value
value-Part s token name l r env w signed = refl

pub value-Indexed : (s : Names) (token : ℕ) (name : Bor (List ℕ)) (f n : Bor Expr) (up : Bool) (env : Bit → Bool) (w : ℕ) (signed : Bool) → value s (plain (expr.Indexed token name f n up)) env w signed ≡ extend w signed (select (entity_value env (meant s name.now)) (lowest_place (entity_range (meant s name.now)) up (integer_with (form s (plain f.now)) (value s (plain f.now) env)) (count (integer_with (form s (plain n.now)) (value s (plain n.now) nowhere)))) (count (integer_with (form s (plain n.now)) (value s (plain n.now) nowhere))))
unfolding plain value
value-Indexed s token name f n up env w signed = refl

pub value-Unary : (s : Names) (op : Mark) (t : Bor Expr) (env : Bit → Bool) (w : ℕ) (signed : Bool) → value s (plain (expr.Unary op t)) env w signed ≡ prefix_value (get_or prefixes op.0 Plus) (form s (plain t.now)) (value s (plain t.now) env) w signed
unfolding plain value
value-Unary s op t env w signed = refl

pub value-Binary : (s : Names) (op : Mark) (l r : Bor Expr) (env : Bit → Bool) (w : ℕ) (signed : Bool) → value s (plain (expr.Binary op l r)) env w signed ≡ infix_value (get_or infixes op.0 Either) (form s (plain l.now)) (form s (plain r.now)) (value s (plain l.now) env) (value s (plain r.now) env) w signed
unfolding plain value
value-Binary s op l r env w signed = refl

pub value-Cond : (s : Names) (a b c : Bor Expr) (env : Bit → Bool) (w : ℕ) (signed : Bool) → value s (plain (expr.Cond a b c)) env w signed ≡ cond (is_zero (own_with (form s (plain a.now)) (value s (plain a.now) env))) (value s (plain c.now) env w signed) (value s (plain b.now) env w signed)
unfolding plain value
value-Cond s a b c env w signed = refl

pub value-Cast : (s : Names) (to : Bool) (t : Bor Expr) (env : Bit → Bool) (w : ℕ) (signed : Bool) → value s (plain (expr.Cast to t)) env w signed ≡ extend w signed (own_with (form s (plain t.now)) (value s (plain t.now) env))
unfolding plain value
value-Cast s to t env w signed = refl

pub value-Paren : (s : Names) (t : Bor Expr) (env : Bit → Bool) (w : ℕ) (signed : Bool) → value s (plain (expr.Paren t)) env w signed ≡ value s (plain t.now) env w signed
unfolding plain value
value-Paren s t env w signed = refl

pub value-Concat : (s : Names) (ts : Bor (List Expr)) (env : Bit → Bool) (w : ℕ) (signed : Bool) → value s (plain (expr.Concat ts)) env w signed ≡ extend w signed (values s (plain_list ts.now) env)
unfolding value
value-Concat s ts env w signed = ap (λ t. value s t env w signed) (plain_concat ts)

pub value-Repeat : (s : Names) (n : Bor Expr) (ts : Bor (List Expr)) (env : Bit → Bool) (w : ℕ) (signed : Bool) → value s (plain (expr.Repeat n ts)) env w signed ≡ extend w signed (repeated (count (integer_with (form s (plain n.now)) (value s (plain n.now) nowhere))) (values s (plain_list ts.now) env))
unfolding value
value-Repeat s n ts env w signed = ap (λ t. value s t env w signed) (plain_repeat n ts)

pub fault-Name : (s : Names) (token : ℕ) (name : Bor (List ℕ)) (constant : Bool) → fault s (plain (expr.Name token name)) constant ≡ name_fault constant token (meant s name.now)
unfolding plain fault
fault-Name s token name constant = refl

pub fault-Literal : (s : Names) (token : ℕ) (n : Number) (constant : Bool) → fault s (plain (expr.Literal token n)) constant ≡ width_fault token n.width
unfolding plain fault
fault-Literal s token n constant = refl

pub fault-Bit : (s : Names) (token : ℕ) (name : Bor (List ℕ)) (i : Bor Expr) (constant : Bool) → fault s (plain (expr.Bit token name i)) constant ≡ or_else (index_fault constant token (meant s name.now)) (fault s (plain i.now) constant)
unfolding plain fault
fault-Bit s token name i constant = refl

pub fault-Part : (s : Names) (token : ℕ) (name : Bor (List ℕ)) (l r : Bor Expr) (constant : Bool) → fault s (plain (expr.Part token name l r)) constant ≡ or_else (base_fault constant token (meant s name.now)) (or_else (fault s (plain l.now) true) (or_else (fault s (plain r.now) true) (or_else (fault_if (is_against (entity_range (meant s name.now)) (integer_with (form s (plain l.now)) (value s (plain l.now) nowhere)) (integer_with (form s (plain r.now)) (value s (plain r.now) nowhere))) (BadRange token)) (width_fault token (span (integer_with (form s (plain l.now)) (value s (plain l.now) nowhere)) (integer_with (form s (plain r.now)) (value s (plain r.now) nowhere)))))))
unfolding plain fault
fault-Part s token name l r constant = refl

pub fault-Indexed : (s : Names) (token : ℕ) (name : Bor (List ℕ)) (f n : Bor Expr) (up : Bool) (constant : Bool) → fault s (plain (expr.Indexed token name f n up)) constant ≡ or_else (base_fault constant token (meant s name.now)) (or_else (count_fault (fault s (plain n.now) true) token (count (integer_with (form s (plain n.now)) (value s (plain n.now) nowhere)))) (or_else (fault s (plain f.now) constant) (fault s (plain n.now) true)))
unfolding plain fault
fault-Indexed s token name f n up constant = refl

pub fault-Unary : (s : Names) (op : Mark) (t : Bor Expr) (constant : Bool) → fault s (plain (expr.Unary op t)) constant ≡ fault s (plain t.now) constant
unfolding plain fault
fault-Unary s op t constant = refl

pub fault-Binary : (s : Names) (op : Mark) (l r : Bor Expr) (constant : Bool) → fault s (plain (expr.Binary op l r)) constant ≡ or_else (fault s (plain l.now) (constant || takes_constants (get_or infixes op.0 Either))) (or_else (fault s (plain r.now) (constant || takes_constants (get_or infixes op.0 Either))) (fault_if (is_bad (get_or infixes op.0 Either) (form s (plain l.now)) (form s (plain r.now)) (value s (plain r.now) nowhere)) (NotConstant (first (plain r.now)))))
unfolding plain fault
fault-Binary s op l r constant = refl

pub fault-Cond : (s : Names) (a b c : Bor Expr) (constant : Bool) → fault s (plain (expr.Cond a b c)) constant ≡ or_else (fault s (plain a.now) constant) (or_else (fault s (plain b.now) constant) (fault s (plain c.now) constant))
unfolding plain fault
fault-Cond s a b c constant = refl

pub fault-Cast : (s : Names) (to : Bool) (t : Bor Expr) (constant : Bool) → fault s (plain (expr.Cast to t)) constant ≡ fault s (plain t.now) constant
unfolding plain fault
fault-Cast s to t constant = refl

pub fault-Paren : (s : Names) (t : Bor Expr) (constant : Bool) → fault s (plain (expr.Paren t)) constant ≡ fault s (plain t.now) constant
unfolding plain fault
fault-Paren s t constant = refl

pub fault-Concat : (s : Names) (ts : Bor (List Expr)) (constant : Bool) → fault s (plain (expr.Concat ts)) constant ≡ or_else (faults s (plain_list ts.now) constant) (width_fault (first_part (plain_list ts.now) - 1) (widths s (plain_list ts.now)))
unfolding fault
fault-Concat s ts constant = ap (λ t. fault s t constant) (plain_concat ts)

pub fault-Repeat : (s : Names) (n : Bor Expr) (ts : Bor (List Expr)) (constant : Bool) → fault s (plain (expr.Repeat n ts)) constant ≡ or_else (fault s (plain n.now) true) (or_else (fault_if ((count (integer_with (form s (plain n.now)) (value s (plain n.now) nowhere))) == 0) (BadRange (first (plain n.now)))) (or_else (faults s (plain_list ts.now) constant) (width_fault (first (plain n.now) - 1) ((count (integer_with (form s (plain n.now)) (value s (plain n.now) nowhere))) * (widths s (plain_list ts.now))))))
unfolding fault
fault-Repeat s n ts constant = ap (λ t. fault s t constant) (plain_repeat n ts)

pub ruleset firsts = (the_lemmas, first-Name, first-Literal, first-Bit, first-Part, first-Indexed, first-Unary, first-Binary, first-Cond, first-Cast, first-Paren, first-Concat, first-Repeat)

pub ruleset forms = (the_lemmas, and_parts, ltb-true, form-Name, form-Literal, form-Bit, form-Part, form-Indexed, form-Unary, form-Binary, form-Cond, form-Cast, form-Paren, form-Concat, form-Repeat, fits-Name, fits-Literal, fits-Bit, fits-Part, fits-Indexed, fits-Unary, fits-Binary, fits-Cond, fits-Cast, fits-Paren, fits-Concat, fits-Repeat)

pub ruleset shapes = (the_lemmas, and_parts, ltb-true, first-Name, first-Literal, first-Bit, first-Part, first-Indexed, first-Unary, first-Binary, first-Cond, first-Cast, first-Paren, first-Concat, first-Repeat, form-Name, form-Literal, form-Bit, form-Part, form-Indexed, form-Unary, form-Binary, form-Cond, form-Cast, form-Paren, form-Concat, form-Repeat, fits-Name, fits-Literal, fits-Bit, fits-Part, fits-Indexed, fits-Unary, fits-Binary, fits-Cond, fits-Cast, fits-Paren, fits-Concat, fits-Repeat, fault-Name, fault-Literal, fault-Bit, fault-Part, fault-Indexed, fault-Unary, fault-Binary, fault-Cond, fault-Cast, fault-Paren, fault-Concat, fault-Repeat)

pub ruleset values_of = (the_lemmas, and_parts, ltb-true, length_word, length_tabulate, form-Name, form-Literal, form-Bit, form-Part, form-Indexed, form-Unary, form-Binary, form-Cond, form-Cast, form-Paren, form-Concat, form-Repeat, fits-Name, fits-Literal, fits-Bit, fits-Part, fits-Indexed, fits-Unary, fits-Binary, fits-Cond, fits-Cast, fits-Paren, fits-Concat, fits-Repeat, value-Name, value-Literal, value-Bit, value-Part, value-Indexed, value-Unary, value-Binary, value-Cond, value-Cast, value-Paren, value-Concat, value-Repeat)
