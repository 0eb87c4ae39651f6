-- What may follow an operand, and the test of whether an operator goes on.
use Rattle.std.proofs.Common.{◌≡◌, ℕ, suc, ◌≤◌, ◌<◌, refl, ap, ◌∙◌, arith, Bool, true, false, nat_eq, if◌then◌else◌}
use Rattle.std.proofs.lemmas.Bool.Decides.{nat_tests, Decides-eqb}
use Rattle.rr_syntax.specs.Words.{mark_close_parenthesis, mark_open_bracket, mark_close_bracket, mark_open_brace, mark_close_brace, mark_comma, mark_colon, mark_question, mark_part_up, mark_part_down}
use Rattle.rr_syntax.specs.Tree.{Tree, Name, Literal, Bit, Part, Indexed, Unary, Binary, Cond, Concat, Repeat, Cast, Paren, bare}
use Rattle.rr_syntax.specs.Expressions.{level, depth, WellFormed, infix_level, unary_level, primary_level}
use Rattle.rr_syntax.proofs.BareExpressions.{level-bare, depth-bare}
use Rattle.rr_parse_expr.specs.Reading.{no_mark, goes_on, left_level}
use Rattle.rr_parse_expr.proofs.Tables.{infix_below}

-- how tightly what begins with this mark binds to the operand before it: a select as tightly as a primary
unfoldable pub follow_level : ℕ → ℕ
follow_level m = if nat_eq m mark_open_bracket then primary_level else infix_level m

follow_by : (m : ℕ) (b : Bool) → nat_eq m mark_open_bracket ≡ b → (infix_level m ≤ follow_level m) × (follow_level m ≤ primary_level)
unfolding follow_level
follow_by m true e = rw e (omega (arith, infix_below m), omega arith)
follow_by m false e = rw e (omega arith, omega (arith, infix_below m))

pub infix_follow : (m : ℕ) → infix_level m ≤ follow_level m
infix_follow m = (follow_by m (nat_eq m mark_open_bracket) refl).0

pub follow_primary : (m : ℕ) → follow_level m ≤ primary_level
follow_primary m = (follow_by m (nat_eq m mark_open_bracket) refl).1

pub follow_bracket : (m : ℕ) → m ≡ mark_open_bracket → follow_level m ≡ primary_level
unfolding follow_level
follow_bracket m e = rw e refl

pub follow_other : (m : ℕ) → nat_eq m mark_open_bracket ≡ false → follow_level m ≡ infix_level m
unfolding follow_level
follow_other m e = rw e refl

pub infix-open_bracket : infix_level mark_open_bracket ≡ 0
unfolding infix_level
infix-open_bracket = refl

-- an operator is no opening bracket
pub operator_other : (m : ℕ) → 1 < infix_level m → nat_eq m mark_open_bracket ≡ false
operator_other m h =
    elim (nat_eq m mark_open_bracket) as (λ b. nat_eq m mark_open_bracket ≡ b → nat_eq m mark_open_bracket ≡ false) [ true ↦ λ e. absurd (omega (arith, ap infix_level ((Decides-eqb m mark_open_bracket).0 e) ∙ infix-open_bracket)) | false ↦ λ e. e ] refl

pub infix-question : infix_level mark_question ≡ 1
unfolding infix_level
infix-question = refl

pub follow-question : follow_level mark_question ≡ 1
unfolding follow_level infix_level
follow-question = refl

pub follow-colon : follow_level mark_colon ≡ 0
unfolding follow_level infix_level
follow-colon = refl

pub follow-comma : follow_level mark_comma ≡ 0
unfolding follow_level infix_level
follow-comma = refl

pub follow-open_brace : follow_level mark_open_brace ≡ 0
unfolding follow_level infix_level
follow-open_brace = refl

pub follow-close_brace : follow_level mark_close_brace ≡ 0
unfolding follow_level infix_level
follow-close_brace = refl

pub follow-close_bracket : follow_level mark_close_bracket ≡ 0
unfolding follow_level infix_level
follow-close_bracket = refl

pub follow-close_parenthesis : follow_level mark_close_parenthesis ≡ 0
unfolding follow_level infix_level
follow-close_parenthesis = refl

pub follow-part_up : follow_level mark_part_up ≡ 0
unfolding follow_level infix_level
follow-part_up = refl

pub follow-part_down : follow_level mark_part_down ≡ 0
unfolding follow_level infix_level
follow-part_down = refl

pub follow-no_mark : follow_level no_mark ≡ 0
unfolding follow_level infix_level
follow-no_mark = refl

pub infix-no_mark : infix_level no_mark ≡ 0
unfolding infix_level
infix-no_mark = refl

-- the level from which what follows is taken into the last operand
unfoldable pub tail_level : Tree → ℕ
tail_level (Name n s) = primary_level
tail_level (Literal n d) = suc primary_level
tail_level (Bit n s i) = suc primary_level
tail_level (Part n s l r) = suc primary_level
tail_level (Indexed n s f w up) = suc primary_level
tail_level (Unary m t) = unary_level
tail_level (Binary m l r) = suc (infix_level m)
tail_level (Cond a b c) = 1
tail_level (Concat ts) = suc primary_level
tail_level (Repeat t ts) = suc primary_level
tail_level (Cast signed t) = suc primary_level
tail_level (Paren t) = suc primary_level

pub level_tail : (t : Tree) → level t ≤ tail_level t
unfolding level tail_level
level_tail (Name n s) = omega arith
level_tail (Literal n d) = omega arith
level_tail (Bit n s i) = omega arith
level_tail (Part n s l r) = omega arith
level_tail (Indexed n s f w up) = omega arith
level_tail (Unary m t) = omega arith
level_tail (Binary m l r) = omega arith
level_tail (Cond a b c) = omega arith
level_tail (Concat ts) = omega arith
level_tail (Repeat t ts) = omega arith
level_tail (Cast signed t) = omega arith
level_tail (Paren t) = omega arith

pub below_tail : (t : Tree) (v : ℕ) → 1 < v → v < unary_level → v ≤ level t → v < tail_level t
unfolding level tail_level
below_tail (Name n s) v a b c = omega arith
below_tail (Literal n d) v a b c = omega arith
below_tail (Bit n s i) v a b c = omega arith
below_tail (Part n s l r) v a b c = omega arith
below_tail (Indexed n s f w up) v a b c = omega arith
below_tail (Unary m t) v a b c = omega arith
below_tail (Binary m l r) v a b c = omega arith
below_tail (Cond x y z) v a b c = absurd (omega arith)
below_tail (Concat ts) v a b c = omega arith
below_tail (Repeat t ts) v a b c = omega arith
below_tail (Cast signed t) v a b c = omega arith
below_tail (Paren t) v a b c = omega arith

pub level_pos : (t : Tree) → WellFormed t → 1 ≤ level t
unfolding level WellFormed
level_pos (Name n s) w = omega arith
level_pos (Literal n d) w = omega arith
level_pos (Bit n s i) w = omega arith
level_pos (Part n s l r) w = omega arith
level_pos (Indexed n s f w up) v = omega arith
level_pos (Unary m t) w = omega arith
level_pos (Binary m l r) w = omega (arith, w.0)
level_pos (Cond a b c) w = omega arith
level_pos (Concat ts) w = omega arith
level_pos (Repeat t ts) w = omega arith
level_pos (Cast signed t) w = omega arith
level_pos (Paren t) w = omega arith

pub goes_true : (limit low : ℕ) (t : Tree) (m : ℕ) → low ≤ infix_level m → left_level m ≤ level t → depth t < limit → goes_on limit low t m ≡ true
unfolding goes_on
goes_true limit low t m a b c = grind (arith, nat_tests)

pub goes_false : (limit low : ℕ) (t : Tree) (m : ℕ) → infix_level m < low → goes_on limit low t m ≡ false
unfolding goes_on
goes_false limit low t m a = grind (arith, nat_tests)

pub goes_deep : (limit low : ℕ) (t : Tree) (m : ℕ) → limit ≤ depth t → goes_on limit low t m ≡ false
unfolding goes_on
goes_deep limit low t m a = grind (arith, nat_tests)

pub goes_tells : (limit low : ℕ) (t : Tree) (m : ℕ) → goes_on limit low t m ≡ true → (low ≤ infix_level m) × (left_level m ≤ level t) × (depth t < limit)
unfolding goes_on
goes_tells limit low t m e = grind (arith, nat_tests)

pub goes_bare : (limit low : ℕ) (t : Tree) (m : ℕ) → goes_on limit low (bare t) m ≡ goes_on limit low t m
unfolding goes_on
goes_bare limit low t m = rw (level-bare t, depth-bare t) refl

pub left-question : left_level mark_question ≡ 2
unfolding left_level
left-question = refl

-- a binary operator is not the mark of the conditional
pub binary-other : (m : ℕ) → 1 < infix_level m → nat_eq m mark_question ≡ false
binary-other m h =
    elim (nat_eq m mark_question) as (λ b. nat_eq m mark_question ≡ b → nat_eq m mark_question ≡ false) [ true ↦ λ e. absurd (omega (arith, ap infix_level ((Decides-eqb m mark_question).0 e) ∙ infix-question)) | false ↦ λ e. e ] refl

pub left-binary : (m : ℕ) → 1 < infix_level m → left_level m ≡ infix_level m
unfolding left_level
left-binary m h = rw (binary-other m h) refl
