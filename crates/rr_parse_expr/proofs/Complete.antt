-- Whatever is well-formed is read: the reading function comes to each tree within the depth.
use Rattle.std.proofs.Common.{◌≡◌, ℕ, zero, suc, ◌+◌, ◌≤◌, ◌<◌, List, ◌∷◌, ◌++◌, length, codes, refl, ap, ◌∙◌, sym, arith, Bool, true, false, cond, nat_eq, Some, length-append, append_assoc}
use Rattle.std.proofs.lemmas.Bool.Decides.{nat_tests}
use Rattle.rr_syntax.specs.Words.{Word, Named, System, Digits, Marked, mark_open_parenthesis, mark_close_parenthesis, mark_open_bracket, mark_close_bracket, mark_open_brace, mark_close_brace, mark_comma, mark_colon, mark_question, mark_part_up, mark_part_down}
use Rattle.rr_syntax.specs.Tree.{Tree, Trees, Name, Literal, Bit, Part, Indexed, Unary, Binary, Cond, Concat, Repeat, Cast, Paren, End, More, bare, bare_parts}
use Rattle.rr_syntax.specs.Expressions.{level, depth, height, WellFormed, WellFormedMore, spell, spell_more, infix_level, unary_level, primary_level}
use Rattle.rr_syntax.proofs.BareExpressions.{level-bare, depth-bare}
use Rattle.rr_syntax.proofs.Equations.{spellings, spell-Name, spell-Literal, spell-Unary, more-End, more-More}
use Rattle.rr_parse_expr.specs.Made.{select_of}
use Rattle.rr_parse_expr.specs.Reading.{mark, rest, is_between, snoc, parts, parts_from, operand, left_level, climb, reads, below}
use Rattle.rr_parse_expr.proofs.Tables.{infix_below}
use Rattle.rr_parse_expr.proofs.Facts.{follow_level, infix_follow, follow_bracket, follow_other, operator_other, infix-question, follow-question, follow-colon, follow-comma, follow-open_brace, follow-close_brace, follow-close_bracket, follow-close_parenthesis, tail_level, level_tail, below_tail, level_pos, goes_true, goes_false, left-question, left-binary}
use Rattle.rr_parse_expr.proofs.Selects.{IsSelect, is_select, part_is, indexed_is, between-colon, between-indexed}
use Rattle.rr_parse_expr.proofs.Steps.{reads-below, climb-stop, climb-turn, reads_by-operand, closed-some, turn-binary, turn-cond, named-select, named-alone, select-other, select-index, index-bit, index-part, cast-some, sign-of, parts-close, parts-comma, braces-first, first-concat, first-repeat, repeated-some, operand-unary, operand-paren, operand-braces, operand-named, operand-system, operand-literal}
use Rattle.rr_parse_expr.proofs.Climbs.{same_climb}

-- after an operand
finish : (limit low n : ℕ) (t : Tree) (left ws : List Word) → operand (below limit) ws ≡ Some (bare t, left) → limit ≤ n + depth t → reads limit low ws ≡ climb (below limit) limit low n (bare t) left
finish limit low n t left ws e h =
    reads-below limit low ws ∙ reads_by-operand (below limit) limit low ws (bare t, left) e ∙ same_climb (below limit) limit low limit n (bare t) left (omega arith) (omega (arith, depth-bare t))

-- where no operator can follow
pub stopped : (limit low : ℕ) (u : Tree) (left ws : List Word) → infix_level (mark left) < low → reads limit low ws ≡ climb (below limit) limit low limit (bare u) left → reads limit low ws ≡ Some (bare u, left)
stopped limit low u left ws h e = e ∙ climb-stop (below limit) limit low limit (bare u) left (goes_false limit low (bare u) (mark left) h)

joined : Trees → Trees → Trees
joined have End = have
joined have (More t ts) = joined (snoc have (bare t)) ts

unfoldable pub appended : Trees → Trees → Trees
appended End ts = ts
appended (More u us) ts = More u (appended us ts)

pub appended-snoc : (us : Trees) (t : Tree) (ts : Trees) → appended (snoc us t) ts ≡ appended us (More t ts)
unfolding appended snoc
appended-snoc End t ts = refl
appended-snoc (More u us) t ts = ap (More u) (appended-snoc us t ts)

pub appended-End : (us : Trees) → appended us End ≡ us
unfolding appended
appended-End End = refl
appended-End (More u us) = ap (More u) (appended-End us)

joined_is : (ts have : Trees) → joined have ts ≡ appended have (bare_parts ts)
unfolding joined bare
joined_is End have = sym (appended-End have)
joined_is (More t ts) have = joined_is ts (snoc have (bare t)) ∙ appended-snoc have (bare t) (bare_parts ts)

joined_one : (t : Tree) (ts : Trees) → joined (More (bare t) End) ts ≡ bare_parts (More t ts)
unfolding appended bare
joined_one t ts = joined_is ts (More (bare t) End)

count : Trees → ℕ
count End = 0
count (More t ts) = suc (count ts)

count_less : (ts : Trees) (left : List Word) → count ts < suc (length (spell_more ts ++ left))
unfolding count
count_less End left = omega arith
count_less (More t ts) left = simp (spellings, length-append) (omega (arith, simp length-append at (count_less ts left)))

more_mark : (ts : Trees) (left : List Word) → follow_level (mark (spell_more ts ++ (Marked mark_close_brace ∷ left))) ≡ 0
unfolding mark
more_mark End left = rw more-End follow-close_brace
more_mark (More t ts) left = rw more-More follow-comma

-- no ends brace begins where parts of (passes brace begins where 1 (omega arith) (level_pos brace begins) (omega arith) the where (omega arith) parts (before brace begins parts of)) a concatenation go on or end
more_other : (ts : Trees) (left : List Word) → nat_eq (mark (spell_more ts ++ (Marked mark_close_brace ∷ left))) mark_open_brace ≡ false
unfolding mark
more_other End left = rw more-End refl
more_other (More t ts) left = rw more-More refl

pub words-Cond : (x y z : Tree) (left : List Word) → spell (Cond x y z) ++ left ≡ spell x ++ (Marked mark_question ∷ (spell y ++ (Marked mark_colon ∷ (spell z ++ left))))
words-Cond x y z left = simp (spellings, append_assoc)

pub words-Binary : (m : ℕ) (l r : Tree) (left : List Word) → spell (Binary m l r) ++ left ≡ spell l ++ (Marked m ∷ (spell r ++ left))
words-Binary m l r left = simp (spellings, append_assoc)

pub words-Paren : (t : Tree) (left : List Word) → spell (Paren t) ++ left ≡ Marked mark_open_parenthesis ∷ (spell t ++ (Marked mark_close_parenthesis ∷ left))
words-Paren t left = simp (spellings, append_assoc)

pub words-Cast : (signed : Bool) (t : Tree) (left : List Word) → spell (Cast signed t) ++ left ≡ System (cond signed (codes "signed") (codes "unsigned")) ∷ (Marked mark_open_parenthesis ∷ (spell t ++ (Marked mark_close_parenthesis ∷ left)))
words-Cast signed t left = simp (spellings, append_assoc)

pub words-Bit : (n : ℕ) (s : List ℕ) (t : Tree) (left : List Word) → spell (Bit n s t) ++ left ≡ Named s ∷ (Marked mark_open_bracket ∷ (spell t ++ (Marked mark_close_bracket ∷ left)))
words-Bit n s t left = simp (spellings, append_assoc)

pub words-Select : (n : ℕ) (s : List ℕ) (m : ℕ) (t u v : Tree) (left : List Word) → IsSelect n s m t u v → spell v ++ left ≡ Named s ∷ (Marked mark_open_bracket ∷ (spell t ++ (Marked m ∷ (spell u ++ (Marked mark_close_bracket ∷ left)))))
words-Select n s m t u v left h = ap (λ (x : List Word). x ++ left) h.spelled ∙ simp append_assoc

pub words-Concat : (t : Tree) (ts : Trees) (left : List Word) → spell (Concat (More t ts)) ++ left ≡ Marked mark_open_brace ∷ (spell t ++ (spell_more ts ++ (Marked mark_close_brace ∷ left)))
words-Concat t ts left = simp (spellings, append_assoc)

pub words-Repeat : (c t : Tree) (ts : Trees) (left : List Word) → spell (Repeat c (More t ts)) ++ left ≡ Marked mark_open_brace ∷ (spell c ++ (Marked mark_open_brace ∷ (spell t ++ (spell_more ts ++ (Marked mark_close_brace ∷ (Marked mark_close_brace ∷ left))))))
words-Repeat c t ts left = simp (spellings, append_assoc)

pub words-More : (t : Tree) (ts : Trees) (left : List Word) → spell_more (More t ts) ++ left ≡ Marked mark_comma ∷ (spell t ++ (spell_more ts ++ left))
words-More t ts left = simp (spellings, append_assoc)

-- an operator is not taken into an operand that binds at least as tightly
pub operator_below : (m : ℕ) (l : Tree) → 1 < infix_level m → infix_level m ≤ level l → follow_level m < tail_level l
operator_below m l p h = rw (follow_other m (operator_other m p)) (below_tail l (infix_level m) p (infix_below m) h)

no_bracket : (m : ℕ) → follow_level m < primary_level → nat_eq m mark_open_bracket ≡ false
no_bracket m h = elim (nat_eq m mark_open_bracket) as (λ b. nat_eq m mark_open_bracket ≡ b → nat_eq m mark_open_bracket ≡ false) [
  | true ↦ λ e. absurd (let f : m ≡ mark_open_bracket = grind (arith, nat_tests) in omega (arith, follow_bracket m f))
  | false ↦ λ e. e
] refl

-- a mark that nothing takes leaves the last operand alone
pub before : (t : Tree) → WellFormed t → (last : List Word) → follow_level (mark last) ≡ 0 → follow_level (mark last) < tail_level t
before t w last e = omega (arith, e, level_pos t w, level_tail t)

-- an expression before a mark that nothing takes
pub ends : (t : Tree) → WellFormed t → (limit : ℕ) → (last : List Word) → follow_level (mark last) ≡ 0 → reads limit 1 (spell t ++ last) ≡ climb (below limit) limit 1 limit (bare t) last →
    reads limit 1 (spell t ++ last) ≡ Some (bare t, last)
ends t w limit last e h = stopped limit 1 t last (spell t ++ last) (omega (arith, infix_follow (mark last), e)) h

select_pass : (t u : Tree) (k : ℕ) (s : List ℕ) (m : ℕ) → is_between m ≡ true → (left : List Word) →
    reads k 1 (spell t ++ (Marked m ∷ (spell u ++ (Marked mark_close_bracket ∷ left)))) ≡ Some (bare t, Marked m ∷ (spell u ++ (Marked mark_close_bracket ∷ left))) →
    reads k 1 (spell u ++ (Marked mark_close_bracket ∷ left)) ≡ Some (bare u, Marked mark_close_bracket ∷ left) →
    operand (reads k) (Named s ∷ (Marked mark_open_bracket ∷ (spell t ++ (Marked m ∷ (spell u ++ (Marked mark_close_bracket ∷ left)))))) ≡ Some (select_of 0 s m (bare t) (bare u), left)
unfolding mark rest
select_pass t u k s m b left et eu =
    let last : List Word = Marked mark_close_bracket ∷ left in
    let after : List Word = Marked m ∷ (spell u ++ last) in
    let all : List Word = Marked mark_open_bracket ∷ (spell t ++ after) in
    let ec = closed-some (reads k) mark_close_bracket (spell u ++ last) (bare u, last) eu refl in
    operand-named (reads k) s all ∙ named-select (reads k) s all (select_of 0 s m (bare t) (bare u), left) (select-index (reads k) s all (bare t, after) refl et ∙ index-part (reads k) s (bare t) m (spell u ++ last) (bare u, left) b ec)

mutual
  unfolding WellFormed level depth joined count tail_level mark rest below bare parts_from

  pub passes : (u : Tree) → WellFormed u → (limit low : ℕ) → 1 ≤ low → low ≤ level u → low ≤ unary_level → depth u ≤ limit → (n : ℕ) → limit ≤ n + depth u →
      (left : List Word) → follow_level (mark left) < tail_level u → reads limit low (spell u ++ left) ≡ climb (below limit) limit low n (bare u) left
  passes (Name i s) w limit low a b c d n f left g =
      let o = named-alone (below limit) s left (select-other (below limit) s left (no_bracket (mark left) g)) in
      rw spell-Name (finish limit low n (Name i s) left (Named s ∷ left) (operand-named (below limit) s left ∙ o) f)
  passes (Literal i s) w limit low a b c d n f left g = rw spell-Literal (finish limit low n (Literal i s) left (Digits s ∷ left) (operand-literal (below limit) s left) f)
  passes (Bit i s t) w zero low a b c d n f left g = absurd (omega (arith, d))
  passes (Bit i s t) w (suc k) low a b c d n f left g =
      let last : List Word = Marked mark_close_bracket ∷ left in
      let all : List Word = Marked mark_open_bracket ∷ (spell t ++ last) in
      let et = ends t w k last follow-close_bracket (passes t w k 1 (omega arith) (level_pos t w) (omega arith) (omega arith) k (omega arith) last (before t w last follow-close_bracket)) in
      let o = select-index (reads k) s all (bare t, last) refl et ∙ index-bit (reads k) s (bare t) mark_close_bracket left refl in
      rw words-Bit (finish (suc k) low n (Bit i s t) left (Named s ∷ all) (operand-named (reads k) s all ∙ named-select (reads k) s all (Bit 0 s (bare t), left) o) f)
  passes (Part i s t u) w zero low a b c d n f left g = absurd (omega (arith, d))
  passes (Part i s t u) w (suc k) low a b c d n f left g =
      let h : IsSelect i s mark_colon t u (Part i s t u) = rw (part_is i s t u) (is_select i s mark_colon t u between-colon) in
      rw (words-Select i s mark_colon t u (Part i s t u) left h) (finish (suc k) low n (Part i s t u) left (Named s ∷ (Marked mark_open_bracket ∷ (spell t ++ (Marked mark_colon ∷ (spell u ++ (Marked mark_close_bracket ∷ left))))))
      (select_pass t u k s mark_colon between-colon left (ends t w.0 k (Marked mark_colon ∷ (spell u ++ (Marked mark_close_bracket ∷ left))) h.follows (passes t w.0 k 1 (omega arith) (level_pos t w.0) (omega arith) (omega (arith, d)) k (omega arith) (Marked mark_colon ∷ (spell u ++ (Marked mark_close_bracket ∷ left))) (before t w.0 (Marked mark_colon ∷ (spell u ++ (Marked mark_close_bracket ∷ left))) h.follows))) (ends u w.1 k (Marked mark_close_bracket ∷ left) follow-close_bracket (passes u w.1 k 1 (omega arith) (level_pos u w.1) (omega arith) (omega (arith, d)) k (omega arith) (Marked mark_close_bracket ∷ left) (before u w.1 (Marked mark_close_bracket ∷ left) follow-close_bracket))) ∙ ap (λ (x : Tree). Some (x, left)) (sym (part_is 0 s (bare t) (bare u)))) f)
  passes (Indexed i s t u up) w zero low a b c d n f left g = absurd (omega (arith, d))
  passes (Indexed i s t u up) w (suc k) low a b c d n f left g =
      let h : IsSelect i s (cond up mark_part_up mark_part_down) t u (Indexed i s t u up) = rw (indexed_is i s t u up) (is_select i s (cond up mark_part_up mark_part_down) t u (between-indexed up)) in
      rw (words-Select i s (cond up mark_part_up mark_part_down) t u (Indexed i s t u up) left h) (finish (suc k) low n (Indexed i s t u up) left (Named s ∷ (Marked mark_open_bracket ∷ (spell t ++ (Marked (cond up mark_part_up mark_part_down) ∷ (spell u ++ (Marked mark_close_bracket ∷ left))))))
      (select_pass t u k s (cond up mark_part_up mark_part_down) (between-indexed up) left (ends t w.0 k (Marked (cond up mark_part_up mark_part_down) ∷ (spell u ++ (Marked mark_close_bracket ∷ left))) h.follows (passes t w.0 k 1 (omega arith) (level_pos t w.0) (omega arith) (omega (arith, d)) k (omega arith) (Marked (cond up mark_part_up mark_part_down) ∷ (spell u ++ (Marked mark_close_bracket ∷ left))) (before t w.0 (Marked (cond up mark_part_up mark_part_down) ∷ (spell u ++ (Marked mark_close_bracket ∷ left))) h.follows))) (ends u w.1 k (Marked mark_close_bracket ∷ left) follow-close_bracket (passes u w.1 k 1 (omega arith) (level_pos u w.1) (omega arith) (omega (arith, d)) k (omega arith) (Marked mark_close_bracket ∷ left) (before u w.1 (Marked mark_close_bracket ∷ left) follow-close_bracket))) ∙ ap (λ (x : Tree). Some (x, left)) (sym (indexed_is 0 s (bare t) (bare u) up))) f)
  passes (Unary m t) w zero low a b c d n f left g = absurd (omega (arith, d))
  passes (Unary m t) w (suc k) low a b c d n f left g =
      let e = stopped k unary_level t left (spell t ++ left) (infix_below (mark left)) (passes t w.1 k unary_level (omega arith) w.2 (omega arith) (omega arith) k (omega arith) left (omega (arith, g, w.2, level_tail t))) in
      rw spell-Unary (finish (suc k) low n (Unary m t) left (Marked m ∷ (spell t ++ left)) (operand-unary (reads k) m (spell t ++ left) (bare t, left) w.0 e) f)
  passes (Binary m l r) w zero low a b c d n f left g = absurd (omega (arith, d))
  passes (Binary m l r) w (suc k) low a b c d n f left g =
      let after : List Word = Marked m ∷ (spell r ++ left) in
      let over : follow_level m < tail_level l = operator_below m l w.0 w.3 in
      let one = passes l w.1 (suc k) low a (omega (arith, b, w.3)) c (omega (arith, d)) (suc (suc k)) (omega arith) after over in
      let e = stopped k (suc (infix_level m)) r left (spell r ++ left) (omega (arith, infix_follow (mark left), g)) (passes r w.2 k (suc (infix_level m)) (omega arith) w.4 (omega (arith, infix_below m)) (omega (arith, d)) k (omega arith) left (omega (arith, g, w.4, level_tail r))) in
      let left_fits : left_level m ≤ level (bare l) = rw (level-bare l, left-binary m w.0) w.3 in
      let two = climb-turn (reads k) (suc k) low (suc k) (bare l) after (Binary m (bare l) (bare r), left) (goes_true (suc k) low (bare l) m b left_fits (omega (arith, d, depth-bare l))) (turn-binary (reads k) (bare l) m (spell r ++ left) (bare r, left) w.0 e) in
      rw words-Binary (one ∙ two ∙ same_climb (reads k) (suc k) low (suc k) n (Binary m (bare l) (bare r)) left (omega arith) (omega (arith, f, depth-bare l, depth-bare r)))
  passes (Cond x y z) w zero low a b c d n f left g = absurd (omega (arith, d))
  passes (Cond x y z) w (suc k) low a b c d n f left g =
      let last : List Word = Marked mark_colon ∷ (spell z ++ left) in
      let after : List Word = Marked mark_question ∷ (spell y ++ last) in
      let one = passes x w.0 (suc k) low a (omega (arith, b, w.3)) c (omega (arith, d)) (suc (suc k)) (omega arith) after (omega (arith, follow-question, w.3, level_tail x)) in
      let ey = closed-some (reads k) mark_colon (spell y ++ last) (bare y, last) (ends y w.1 k last follow-colon (passes y w.1 k 1 (omega arith) (level_pos y w.1) (omega arith) (omega (arith, d)) k (omega arith) last (before y w.1 last follow-colon))) refl in
      let ez = stopped k 1 z left (spell z ++ left) (omega (arith, infix_follow (mark left), g)) (passes z w.2 k 1 (omega arith) (level_pos z w.2) (omega arith) (omega (arith, d)) k (omega arith) left (omega (arith, g, level_pos z w.2, level_tail z))) in
      let two = climb-turn (reads k) (suc k) low (suc k) (bare x) after (Cond (bare x) (bare y) (bare z), left) (goes_true (suc k) low (bare x) mark_question (omega (arith, b, infix-question)) (omega (arith, left-question, w.3, level-bare x)) (omega (arith, d, depth-bare x))) (turn-cond (reads k) (bare x) (spell y ++ last) (bare y, spell z ++ left) (bare z, left) ey ez) in
      rw words-Cond (one ∙ two ∙ same_climb (reads k) (suc k) low (suc k) n (Cond (bare x) (bare y) (bare z)) left (omega arith) (omega (arith, f, depth-bare x, depth-bare y, depth-bare z)))
  passes (Concat End) w limit low a b c d n f left g = absurd w
  passes (Concat (More t ts)) w zero low a b c d n f left g = absurd (omega (arith, d))
  passes (Concat (More t ts)) w (suc k) low a b c d n f left g =
      let last : List Word = spell_more ts ++ (Marked mark_close_brace ∷ left) in
      let et = ends t w.0 k last (more_mark ts left) (passes t w.0 k 1 (omega arith) (level_pos t w.0) (omega arith) (omega (arith, d)) k (omega arith) last (before t w.0 last (more_mark ts left))) in
      let es = parts_pass ts w.1 k (omega (arith, d)) (suc (length last)) (count_less ts (Marked mark_close_brace ∷ left)) (More (bare t) End) left ∙ ap (λ (us : Trees). Some (us, left)) (joined_one t ts) in
      let o = operand-braces (reads k) (spell t ++ last) ∙ braces-first (reads k) (spell t ++ last) (bare t, last) et ∙ first-concat (reads k) (bare t) last (bare_parts (More t ts), left) (more_other ts left) es in
      rw words-Concat (finish (suc k) low n (Concat (More t ts)) left (Marked mark_open_brace ∷ (spell t ++ last)) o f)
  passes (Repeat t End) w limit low a b c d n f left g = absurd w.1
  passes (Repeat t (More u us)) w zero low a b c d n f left g = absurd (omega (arith, d))
  passes (Repeat t (More u us)) w (suc k) low a b c d n f left g =
      let outer : List Word = Marked mark_close_brace ∷ left in
      let last : List Word = spell_more us ++ (Marked mark_close_brace ∷ outer) in
      let after : List Word = Marked mark_open_brace ∷ (spell u ++ last) in
      let et = ends t w.0 k after follow-open_brace (passes t w.0 k 1 (omega arith) (level_pos t w.0) (omega arith) (omega (arith, d)) k (omega arith) after (before t w.0 after follow-open_brace)) in
      let eu = ends u w.1.0 k last (more_mark us outer) (passes u w.1.0 k 1 (omega arith) (level_pos u w.1.0) (omega arith) (omega (arith, d)) k (omega arith) last (before u w.1.0 last (more_mark us outer))) in
      let es = parts_pass us w.1.1 k (omega (arith, d)) (suc (length last)) (count_less us (Marked mark_close_brace ∷ outer)) (More (bare u) End) outer ∙ ap (λ (vs : Trees). Some (vs, outer)) (joined_one u us) in
      let r = repeated-some (reads k) (bare t) (spell u ++ last) (bare u, last) (bare_parts (More u us), outer) eu es refl in
      let o = operand-braces (reads k) (spell t ++ after) ∙ braces-first (reads k) (spell t ++ after) (bare t, after) et ∙ first-repeat (reads k) (bare t) after refl ∙ r in
      rw words-Repeat (finish (suc k) low n (Repeat t (More u us)) left (Marked mark_open_brace ∷ (spell t ++ after)) o f)
  passes (Cast signed t) w zero low a b c d n f left g = absurd (omega (arith, d))
  passes (Cast signed t) w (suc k) low a b c d n f left g =
      let name : List ℕ = cond signed (codes "signed") (codes "unsigned") in
      let last : List Word = Marked mark_close_parenthesis ∷ left in
      let all : List Word = Marked mark_open_parenthesis ∷ (spell t ++ last) in
      let et = closed-some (reads k) mark_close_parenthesis (spell t ++ last) (bare t, last) (ends t w k last follow-close_parenthesis (passes t w k 1 (omega arith) (level_pos t w) (omega arith) (omega arith) k (omega arith) last (before t w last follow-close_parenthesis))) refl in
      let o = operand-system (reads k) name all ∙ cast-some (reads k) name signed all (bare t, left) (sign-of signed) refl et in
      rw words-Cast (finish (suc k) low n (Cast signed t) left (System name ∷ all) o f)
  passes (Paren t) w zero low a b c d n f left g = absurd (omega (arith, d))
  passes (Paren t) w (suc k) low a b c d n f left g =
      let last : List Word = Marked mark_close_parenthesis ∷ left in
      let et = closed-some (reads k) mark_close_parenthesis (spell t ++ last) (bare t, last) (ends t w k last follow-close_parenthesis (passes t w k 1 (omega arith) (level_pos t w) (omega arith) (omega arith) k (omega arith) last (before t w last follow-close_parenthesis))) refl in
      rw words-Paren (finish (suc k) low n (Paren t) left (Marked mark_open_parenthesis ∷ (spell t ++ last)) (operand-paren (reads k) (spell t ++ last) (bare t, left) et) f)

  parts_pass : (ts : Trees) → WellFormedMore ts → (limit : ℕ) → height ts ≤ suc limit → (fuel : ℕ) → count ts < fuel → (have : Trees) (left : List Word) →
      parts (reads limit) fuel have (spell_more ts ++ (Marked mark_close_brace ∷ left)) ≡ Some (joined have ts, left)
  parts_pass End w limit a zero b have left = absurd (omega (arith, b))
  parts_pass End w limit a (suc n) b have left = rw more-End (parts-close (reads limit) n have (Marked mark_close_brace ∷ left) refl)
  parts_pass (More t ts) w limit a zero b have left = absurd (omega (arith, b))
  parts_pass (More t ts) w limit a (suc n) b have left =
      let last : List Word = spell_more ts ++ (Marked mark_close_brace ∷ left) in
      let et = ends t w.0 limit last (more_mark ts left) (passes t w.0 limit 1 (omega arith) (level_pos t w.0) (omega arith) (omega (arith, a)) limit (omega arith) last (before t w.0 last (more_mark ts left))) in
      rw words-More (parts-comma (reads limit) n have (Marked mark_comma ∷ (spell t ++ last)) (bare t, last) refl et ∙ parts_pass ts w.1 limit (omega (arith, a)) n (omega (arith, b)) (snoc have (bare t)) left)
