-- Expressions before the marks that stand behind them in statements.
use Rattle.std.proofs.Common.{◌≡◌, ℕ, ◌≤◌, ◌<◌, List, ◌∷◌, ◌++◌, refl, ap, ◌∙◌, arith, true, false, nat_eq, Some, append_assoc}
use Rattle.rr_syntax.specs.Words.{Word, Marked, mark_open_parenthesis, mark_close_parenthesis, mark_semicolon, mark_colon, mark_equals, mark_less_or_equal}
use Rattle.rr_syntax.specs.Tree.{Tree, Name, Literal, Bit, Part, Indexed, Unary, Binary, Cond, Concat, Repeat, Cast, Paren, bare}
use Rattle.rr_syntax.specs.Expressions.{level, depth, WellFormed, spell, infix_level, is_target, unary_level, primary_level}
use Rattle.rr_parse_expr.specs.Reading.{mark, rest, closed, expect, reads}
use Rattle.rr_parse_expr.proofs.Facts.{follow_level, infix_follow, level_tail, level_pos}
use Rattle.rr_parse_expr.proofs.Steps.{closed-some}
use Rattle.rr_parse_expr.proofs.Complete.{passes, stopped, ends, before}
use Rattle.rr_parse_stmt.specs.Reading.{keyword, no_word, tested}

pub follow-semicolon : follow_level mark_semicolon ≡ 0
unfolding follow_level infix_level
follow-semicolon = refl

pub follow-equals : follow_level mark_equals ≡ 0
unfolding follow_level infix_level
follow-equals = refl

pub follow-less_or_equal : follow_level mark_less_or_equal ≡ 8
unfolding follow_level infix_level
follow-less_or_equal = refl

-- an expression before a mark that nothing takes
pub before_mark : (t : Tree) → WellFormed t → (limit : ℕ) → depth t ≤ limit → (last : List Word) → follow_level (mark last) ≡ 0 → reads limit 1 (spell t ++ last) ≡ Some (bare t, last)
before_mark t w limit d last e =
    ends t w limit last e (passes t w limit 1 (omega arith) (level_pos t w) (omega arith) d limit (omega arith) last (before t w last e))

pub closed_before : (t : Tree) → WellFormed t → (limit : ℕ) → depth t ≤ limit → (m : ℕ) → follow_level m ≡ 0 → (left : List Word) → closed (reads limit) m (spell t ++ (Marked m ∷ left)) ≡ Some (bare t, left)
unfolding mark rest
closed_before t w limit d m e left = closed-some (reads limit) m (spell t ++ (Marked m ∷ left)) (bare t, Marked m ∷ left) (before_mark t w limit d (Marked m ∷ left) e) refl

pub follow-close : follow_level mark_close_parenthesis ≡ 0
unfolding follow_level infix_level
follow-close = refl

pub tested_before : (t : Tree) → WellFormed t → (limit : ℕ) → depth t ≤ limit → (left : List Word) → tested (reads limit) (Marked mark_open_parenthesis ∷ (spell t ++ (Marked mark_close_parenthesis ∷ left))) ≡ Some (bare t, left)
unfolding tested expect mark rest
tested_before t w limit d left = closed_before t w limit d mark_close_parenthesis follow-close left

pub target_level : (t : Tree) → is_target t ≡ true → level t ≡ primary_level
unfolding is_target level
target_level (Name n s) h = refl
target_level (Literal n d) h = absurd cc
target_level (Bit n s i) h = refl
target_level (Part n s l r) h = refl
target_level (Indexed n s f w up) h = refl
target_level (Unary m t) h = absurd cc
target_level (Binary m l r) h = absurd cc
target_level (Cond a b c) h = absurd cc
target_level (Concat ts) h = refl
target_level (Repeat t ts) h = absurd cc
target_level (Cast signed t) h = absurd cc
target_level (Paren t) h = absurd cc

-- a target before the mark of its assignment
pub target_before : (t : Tree) → WellFormed t → is_target t ≡ true → (limit : ℕ) → depth t ≤ limit → (last : List Word) → follow_level (mark last) < unary_level → reads limit unary_level (spell t ++ last) ≡ Some (bare t, last)
target_before t w h limit d last e =
    let l = target_level t h in
    stopped limit unary_level t last (spell t ++ last) (omega (arith, infix_follow (mark last), e)) (passes t w limit unary_level (omega arith) (omega (arith, l)) (omega arith) d limit (omega arith) last (omega (arith, e, l, level_tail t)))

-- an expression begins with no reserved word
pub keyword_spell : (t : Tree) (left : List Word) → keyword (spell t ++ left) ≡ no_word
unfolding keyword spell
keyword_spell (Name n s) left = refl
keyword_spell (Literal n d) left = refl
keyword_spell (Bit n s i) left = refl
keyword_spell (Part n s l r) left = refl
keyword_spell (Indexed n s f w up) left = refl
keyword_spell (Unary m t) left = refl
keyword_spell (Binary m l r) left = ap keyword (append_assoc (spell l) (Marked m ∷ spell r) left) ∙ keyword_spell l ((Marked m ∷ spell r) ++ left)
keyword_spell (Cond a b c) left = ap keyword (append_assoc (spell a) _ left) ∙ keyword_spell a _
keyword_spell (Concat ts) left = refl
keyword_spell (Repeat t ts) left = refl
keyword_spell (Cast signed t) left = refl
keyword_spell (Paren t) left = refl

-- a target begins with no semicolon and no colon
pub target_mark : (t : Tree) → is_target t ≡ true → (left : List Word) → (nat_eq (mark (spell t ++ left)) mark_semicolon ≡ false) × (nat_eq (mark (spell t ++ left)) mark_colon ≡ false)
unfolding is_target mark spell
target_mark (Name n s) h left = (refl, refl)
target_mark (Literal n d) h left = absurd cc
target_mark (Bit n s i) h left = (refl, refl)
target_mark (Part n s l r) h left = (refl, refl)
target_mark (Indexed n s f w up) h left = (refl, refl)
target_mark (Unary m t) h left = absurd cc
target_mark (Binary m l r) h left = absurd cc
target_mark (Cond a b c) h left = absurd cc
target_mark (Concat ts) h left = (refl, refl)
target_mark (Repeat t ts) h left = absurd cc
target_mark (Cast signed t) h left = absurd cc
target_mark (Paren t) h left = absurd cc
