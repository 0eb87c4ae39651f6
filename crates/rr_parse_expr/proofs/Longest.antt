-- What is read is the longest, and no words have two trees.
use Rattle.std.proofs.Common.{◌≡◌, ℕ, zero, suc, ◌≤◌, ◌<◌, max, List, [], ◌∷◌, ◌++◌, length, refl, ap, ◌∙◌, sym, arith, Some, None, length-append}
use Rattle.rr_syntax.specs.Words.{Word, Named, Marked, mark_colon, mark_question}
use Rattle.rr_syntax.specs.Tree.{Tree, Name, Literal, Bit, Part, Indexed, Unary, Binary, Cond, Concat, Repeat, Cast, Paren, bare}
use Rattle.rr_syntax.specs.Expressions.{level, depth, WellFormed, spell, infix_level, unary_level}
use Rattle.rr_syntax.proofs.BareExpressions.{level-bare, depth-bare, spell-bare}
use Rattle.rr_syntax.proofs.Equations.{spellings, spell-Name, spell-Unary}
use Rattle.rr_syntax.proofs.Nonempty.{spell-some}
use Rattle.rr_parse_expr.specs.Reading.{Reader, mark, rest, named, select, operand, left_level, climb, reads, below}
use Rattle.rr_parse_expr.proofs.Tables.{infix_below}
use Rattle.rr_parse_expr.proofs.Facts.{follow_level, follow_primary, follow-question, follow-colon, follow-no_mark, infix-question, tail_level, level_tail, level_pos, goes_true, left-question, left-binary}
use Rattle.rr_parse_expr.proofs.Steps.{reads-below, reads_by-operand, climb-turn, closed-some, turn-binary, turn-cond, named-select, named-alone, operand-named, operand-unary}
use Rattle.rr_parse_expr.proofs.Climbs.{climb_any}
use Rattle.rr_parse_expr.proofs.Complete.{passes, ends, before, operator_below, words-Binary, words-Cond}

-- something at least as long is read
abbrev pub Reaches : ℕ → ℕ → List Word → Tree → Type 0
Reaches limit low ws u = (p : Tree × List Word) × (reads limit low ws ≡ Some p) × (length (spell u) ≤ length (spell p.0))

reached : (limit low n : ℕ) (u v : Tree) (left ws : List Word) → length (spell u) ≤ length (spell v) → reads limit low ws ≡ climb (below limit) limit low n v left → Reaches limit low ws u
reached limit low n u v left ws h e =
    let a = climb_any (below limit) limit low n v left in
    (a.0, e ∙ a.1, omega (arith, a.2))

-- where whatever follows leaves the last operand alone
plainly : (u : Tree) → WellFormed u → (limit low : ℕ) → 1 ≤ low → low ≤ level u → low ≤ unary_level → depth u ≤ limit → (left : List Word) → follow_level (mark left) < tail_level u → Reaches limit low (spell u ++ left) u
plainly u w limit low a b c d left g = reached limit low limit u (bare u) left (spell u ++ left) (omega (arith, ap length (spell-bare u))) (passes u w limit low a b c d limit (omega arith) left g)

-- a name is read, or a select of it
named_any : (sub : Reader) (s : List ℕ) (left : List Word) → (p : Tree × List Word) × (named sub s left ≡ Some p)
named_any sub s left = elim (select sub s left) as (λ o. select sub s left ≡ o → (p : Tree × List Word) × (named sub s left ≡ Some p)) [
  | None ↦ λ e. ((Name 0 s, left), named-alone sub s left e)
  | Some p ↦ λ e. (p, named-select sub s left p e)
] refl

after_operand : (limit low : ℕ) (u : Tree) (ws : List Word) (p : Tree × List Word) → operand (below limit) ws ≡ Some p → length (spell u) ≤ length (spell p.0) → Reaches limit low ws u
after_operand limit low u ws p e h = reached limit low limit u p.0 p.1 ws h (reads-below limit low ws ∙ reads_by-operand (below limit) limit low ws p e)

pub reaches : (u : Tree) → WellFormed u → (limit low : ℕ) → 1 ≤ low → low ≤ level u → low ≤ unary_level → depth u ≤ limit → (left : List Word) → Reaches limit low (spell u ++ left) u
unfolding WellFormed level depth tail_level mark rest below bare
reaches (Name i s) w limit low a b c d left =
    let h = named_any (below limit) s left in
    let q : spell (Name i s) ++ left ≡ Named s ∷ left = rw spell-Name refl in
    after_operand limit low (Name i s) (spell (Name i s) ++ left) h.0 (ap (operand (below limit)) q ∙ operand-named (below limit) s left ∙ h.1) (omega (arith, ap length (spell-Name i s), spell-some h.0.0))
reaches (Literal i s) w limit low a b c d left = plainly (Literal i s) w limit low a b c d left (omega (arith, follow_primary (mark left)))
reaches (Bit i s t) w limit low a b c d left = plainly (Bit i s t) w limit low a b c d left (omega (arith, follow_primary (mark left)))
reaches (Part i s t u) w limit low a b c d left = plainly (Part i s t u) w limit low a b c d left (omega (arith, follow_primary (mark left)))
reaches (Indexed i s t u up) w limit low a b c d left = plainly (Indexed i s t u up) w limit low a b c d left (omega (arith, follow_primary (mark left)))
reaches (Unary m t) w zero low a b c d left = absurd (omega (arith, d))
reaches (Unary m t) w (suc k) low a b c d left =
    let e = reaches t w.1 k unary_level (omega arith) w.2 (omega arith) (omega arith) left in
    let q : spell (Unary m t) ++ left ≡ Marked m ∷ (spell t ++ left) = rw spell-Unary refl in
    after_operand (suc k) low (Unary m t) (spell (Unary m t) ++ left) (Unary m e.0.0, e.0.1) (ap (operand (reads k)) q ∙ operand-unary (reads k) m (spell t ++ left) e.0 w.0 e.1) (simp spellings (omega (arith, e.2)))
reaches (Binary m l r) w zero low a b c d left = absurd (omega (arith, d))
reaches (Binary m l r) w (suc k) low a b c d left =
    let after : List Word = Marked m ∷ (spell r ++ left) in
    let one = passes l w.1 (suc k) low a (omega (arith, b, w.3)) c (omega (arith, d)) (suc (suc k)) (omega arith) after (operator_below m l w.0 w.3) in
    let e = reaches r w.2 k (suc (infix_level m)) (omega arith) w.4 (omega (arith, infix_below m)) (omega (arith, d)) left in
    let left_fits : left_level m ≤ level (bare l) = rw (level-bare l, left-binary m w.0) w.3 in
    let two = climb-turn (reads k) (suc k) low (suc k) (bare l) after (Binary m (bare l) e.0.0, e.0.1) (goes_true (suc k) low (bare l) m b left_fits (omega (arith, d, depth-bare l))) (turn-binary (reads k) (bare l) m (spell r ++ left) e.0 w.0 e.1) in
    let longer : length (spell (Binary m l r)) ≤ length (spell (Binary m (bare l) e.0.0)) = simp (spellings, length-append, spell-bare) (omega (arith, e.2)) in
    rw words-Binary (reached (suc k) low (suc k) (Binary m l r) (Binary m (bare l) e.0.0) e.0.1 (spell l ++ after) longer (one ∙ two))
reaches (Cond x y z) w zero low a b c d left = absurd (omega (arith, d))
reaches (Cond x y z) w (suc k) low a b c d left =
    let last : List Word = Marked mark_colon ∷ (spell z ++ left) in
    let after : List Word = Marked mark_question ∷ (spell y ++ last) in
    let one = passes x w.0 (suc k) low a (omega (arith, b, w.3)) c (omega (arith, d)) (suc (suc k)) (omega arith) after (omega (arith, follow-question, w.3, level_tail x)) in
    let ey = closed-some (reads k) mark_colon (spell y ++ last) (bare y, last) (ends y w.1 k last follow-colon (passes y w.1 k 1 (omega arith) (level_pos y w.1) (omega arith) (omega (arith, d)) k (omega arith) last (before y w.1 last follow-colon))) refl in
    let e = reaches z w.2 k 1 (omega arith) (level_pos z w.2) (omega arith) (omega (arith, d)) left in
    let two = climb-turn (reads k) (suc k) low (suc k) (bare x) after (Cond (bare x) (bare y) e.0.0, e.0.1) (goes_true (suc k) low (bare x) mark_question (omega (arith, b, infix-question)) (omega (arith, left-question, w.3, level-bare x)) (omega (arith, d, depth-bare x))) (turn-cond (reads k) (bare x) (spell y ++ last) (bare y, spell z ++ left) e.0 ey e.1) in
    let longer : length (spell (Cond x y z)) ≤ length (spell (Cond (bare x) (bare y) e.0.0)) = simp (spellings, length-append, spell-bare) (omega (arith, e.2)) in
    rw words-Cond (reached (suc k) low (suc k) (Cond x y z) (Cond (bare x) (bare y) e.0.0) e.0.1 (spell x ++ after) longer (one ∙ two))
reaches (Concat ts) w limit low a b c d left = plainly (Concat ts) w limit low a b c d left (omega (arith, follow_primary (mark left)))
reaches (Repeat t ts) w limit low a b c d left = plainly (Repeat t ts) w limit low a b c d left (omega (arith, follow_primary (mark left)))
reaches (Cast signed t) w limit low a b c d left = plainly (Cast signed t) w limit low a b c d left (omega (arith, follow_primary (mark left)))
reaches (Paren t) w limit low a b c d left = plainly (Paren t) w limit low a b c d left (omega (arith, follow_primary (mark left)))

-- a tree's own spelling is read as that tree
pub reads_back : (u : Tree) → WellFormed u → (limit : ℕ) → depth u ≤ limit → reads limit 1 (spell u ++ []) ≡ Some (bare u, [])
unfolding mark
reads_back u w limit d = ends u w limit [] follow-no_mark (passes u w limit 1 (omega arith) (level_pos u w) (omega arith) d limit (omega arith) [] (before u w [] follow-no_mark))

first_same : (p q : Tree × List Word) → Some p ≡ Some q → p.0 ≡ q.0
first_same p q e = let h : p ≡ q = cc in ap (λ (x : Tree × List Word). x.0) h

-- no words have two trees
pub unique : (u v : Tree) → WellFormed u → WellFormed v → spell u ≡ spell v → bare u ≡ bare v
unique u v a b e =
    let p = reads_back u a (max (depth u) (depth v)) (omega arith) in
    let q = reads_back v b (max (depth u) (depth v)) (omega arith) in
    let same : reads (max (depth u) (depth v)) 1 (spell u ++ []) ≡ reads (max (depth u) (depth v)) 1 (spell v ++ []) = rw e refl in
    first_same (bare u, []) (bare v, []) (sym p ∙ same ∙ q)
