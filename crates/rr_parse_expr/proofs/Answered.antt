-- What the functions of the reader answer, over plain values.
use Rattle.std.proofs.Common.{◌≡◌, ℕ, zero, suc, ◌+◌, ◌-◌, ◌≤◌, ◌<◌, max, List, [], ◌∷◌, ◌++◌, length, drop, get_or, refl, ap, ◌∙◌, sym, arith, Bool, true, false, nat_eq, Option, Some, None, IfOk, Result, Ok, Err, length-append, length-drop, subst}
use Rattle.std.proofs.lemmas.Bool.Decides.{nat_tests}
use Rattle.std.proofs.Math.Seq.{drop-nil}
use Rattle.rr_syntax.specs.declared.token.Token.{Token}
use Rattle.rr_syntax.specs.declared.token.Number.{Number}
use Rattle.rr_syntax.specs.declared.token.Keyword.{Keyword}
use Rattle.rr_syntax.specs.declared.token.Mark.{Mark}
use Rattle.rr_syntax.specs.declared.token.Kind.TheVariants as kind
use Rattle.rr_syntax.specs.declared.tree.Expr.{Expr}
use Rattle.rr_syntax.specs.declared.tree.Expr.TheVariants as expr
use Rattle.rr_syntax.specs.Words.{Word, words, mark_open_parenthesis, mark_close_parenthesis, mark_open_bracket, mark_close_bracket, mark_open_brace, mark_close_brace, mark_comma, mark_colon, mark_question}
use Rattle.rr_syntax.specs.Tree.{Tree, Trees, Bit, Unary, Binary, Cond, Concat, Repeat, Cast, Paren, End, More, bare, bare_parts}
use Rattle.rr_syntax.specs.Expressions.{depth, height, spell, spell_more, Numbered, NumberedMore, infix_level, is_prefix, unary_level}
use Rattle.rr_syntax.specs.View.{plain, plain_list}
use Rattle.rr_syntax.proofs.BareExpressions.{depth-bare}
use Rattle.rr_syntax.proofs.Equations.{spellings, spell-Name, spell-Literal, more-End}
use Rattle.rr_parse_expr.specs.declared.nodes.Read.{Read}
use Rattle.rr_parse_expr.specs.declared.nodes.End as ending
use Rattle.rr_parse_expr.specs.Made.{select_of}
use Rattle.rr_parse_expr.specs.Reading.{Found, Reader, mapped, chain, mark, rest, no_mark, closed, is_between, after_index, select, named, cast_sign, system, snoc, parts, parts_from, repeated, after_first, braces, after_mark, operand, goes_on, turn, climb, reads, below}
use Rattle.rr_parse_expr.specs.Answer.{form, forms, ReadAs, Finds, Answers, IsBelow, FindsBelow, AnswersBelow, FindsClosed, AnswersClosed, IsNode, Moves, Steps, Gathered, Gathers}
use Rattle.rr_parse_expr.specs.Loops.{Climbing, Collecting}
use Rattle.rr_parse_expr.proofs.TokenWords.{words_at, words_past, length_words}
use Rattle.rr_parse_expr.proofs.Facts.{infix-no_mark, goes_tells, goes_bare}
use Rattle.rr_parse_expr.proofs.Selects.{IsSelect, is_select}
use Rattle.rr_parse_expr.proofs.Steps.{reads-below, climb-stop, climb-none, climb-turn, reads_by-operand, reads_by-none, closed-some, closed-other, turn-cond, named-select, named-alone, select-other, select-none, select-index, index-bit, index-part, index-open, index-other, cast-other, cast-open, cast-some, parts-close, parts-comma, braces-first, first-concat, first-open, first-repeat, repeated-none, repeated-open, repeated-other, repeated-some}
use Rattle.rr_parse_expr.proofs.Climbs.{turn_deeper}
use Rattle.rr_parse_expr.proofs.Exactly.{below_is}
use denote.Ref.{Bor}

-- ---- what an answer says of an option

pub picks : (T : List Token) (from limit : ℕ) (found : Found Tree) (o : Option Read) (r : Read) → o ≡ Some r → Answers T from limit found o → Finds T from limit found r
picks T from limit found o r e h = rw e at h

pub none_of : (T : List Token) (from limit : ℕ) (found : Found Tree) (o : Option Read) → o ≡ None → Answers T from limit found o → found ≡ None
none_of T from limit found o e h = rw e at h

pub picks_below : (T : List Token) (from limit low : ℕ) (o : Option Read) (r : Read) → o ≡ Some r → AnswersBelow T from limit (below limit low (drop from (words T))) o → FindsBelow T from limit (below limit low (drop from (words T))) r
picks_below T from limit low o r e h = rw e at h

pub none_below : (T : List Token) (from limit low : ℕ) (o : Option Read) → o ≡ None → AnswersBelow T from limit (below limit low (drop from (words T))) o → below limit low (drop from (words T)) ≡ None
none_below T from limit low o e h = rw e at h

pub picks_closed : (T : List Token) (from limit m : ℕ) (o : Option Read) (r : Read) → o ≡ Some r → AnswersClosed T from limit (closed (below limit) m (drop from (words T))) o → FindsClosed T from limit (closed (below limit) m (drop from (words T))) r
picks_closed T from limit m o r e h = rw e at h

pub none_closed : (T : List Token) (from limit m : ℕ) (o : Option Read) → o ≡ None → AnswersClosed T from limit (closed (below limit) m (drop from (words T))) o → closed (below limit) m (drop from (words T)) ≡ None
none_closed T from limit m o e h = rw e at h

pub gathers_none : (T : List Token) (from limit : ℕ) (found : Found Trees) (items : List Expr) (o : Option ending.End) → o ≡ None → Gathers T from limit found items o → found ≡ None
gathers_none T from limit found items o e h = rw e at h

pub gathers_some : (T : List Token) (from limit : ℕ) (found : Found Trees) (items : List Expr) (o : Option ending.End) (end : ending.End) → o ≡ Some end → Gathers T from limit found items o → Gathered T from limit found items end
gathers_some T from limit found items o end e h = rw e at h

pub if_ok_map : {A E : Type 0} (P Q : A → Type 0) → (x : Result A E) → ((a : A) → P a → Q a) → IfOk x P → IfOk x Q
if_ok_map P Q (Ok a) f h = f a h
if_ok_map P Q (Err e) f h = tt

pub not_equal : (a b : ℕ) → (a ≡ b → ⊥) → nat_eq a b ≡ false
not_equal a b h = grind (arith, nat_tests)

pub equal_true : (a b : ℕ) → nat_eq a b ≡ true → a ≡ b
equal_true a b h = grind (arith, nat_tests)

pub equal_false : (a b : ℕ) → nat_eq a b ≡ false → a ≡ b → ⊥
equal_false a b h e = grind (arith, nat_tests)

pub by_number : (b : Bool) (n m : ℕ) → (b ≡ true → n ≡ m) → (b ≡ false → n ≡ m → ⊥) → b ≡ nat_eq n m
by_number true n m f g = let e : n ≡ m = f refl in grind (arith, nat_tests)
by_number false n m f g = sym (not_equal n m (g refl))

-- ---- marks among the tokens

pub mark_inside : (T : List Token) (i m : ℕ) → mark (drop i (words T)) ≡ m → m < no_mark → i < length T
unfolding mark words
mark_inside [] i m e h = absurd (omega (arith, ap mark (sym (drop-nil {A = Word} i)) ∙ e))
mark_inside (t ∷ ts) zero m e h = omega arith
mark_inside (t ∷ ts) (suc i) m e h = omega (arith, mark_inside ts i m e h)

operator_inside : (T : List Token) (i : ℕ) → 1 ≤ infix_level (mark (drop i (words T))) → i < length T
unfolding mark words
operator_inside [] i h = absurd (omega (arith, ap (λ (x : List Word). infix_level (mark x)) (drop-nil {A = Word} i), infix-no_mark, h))
operator_inside (t ∷ ts) zero h = omega arith
operator_inside (t ∷ ts) (suc i) h = omega (arith, operator_inside ts i h)

pub rest_drop : (ws : List Word) (i : ℕ) → rest (drop i ws) ≡ drop (i + 1) ws
unfolding rest
rest_drop [] i = rw (drop-nil i, drop-nil (i + 1)) refl
rest_drop (w ∷ ws) zero = refl
rest_drop (w ∷ ws) (suc i) = let e : suc i + 1 ≡ suc (i + 1) = omega arith in rw e (rest_drop ws i)

pub rest_next : (ws : List Word) (i : ℕ) → rest (drop (i + 1) ws) ≡ drop (i + 2) ws
rest_next ws i = let e : i + 1 + 1 ≡ i + 2 = omega arith in rest_drop ws (i + 1) ∙ ap (λ (k : ℕ). drop k ws) e

-- ---- nodes

made : (T : List Token) (from limit : ℕ) (found : Found Tree) (t : Tree) (next deep : ℕ) (q : Read) → IsNode t next deep q → found ≡ Some (bare t, drop next (words T)) → deep ≡ depth t → deep ≤ limit → next ≤ length T →
    next ≡ from + length (spell t) → Numbered t from → Finds T from limit found q
made T from limit found t next deep q n e d l i s m =
    let P : Tree → Type 0 = λ (x : Tree). Numbered x from in
    record {
      found_is = e ∙ ap (λ (x : Tree). Some (bare x, drop next (words T))) (sym n.tree) ∙ ap (λ (k : ℕ). Some (form q.expr, drop k (words T))) (sym n.next_is);
      read = record {
        deep = n.depth_is ∙ d ∙ ap depth (sym n.tree);
        low = omega (arith, n.depth_is);
        within = omega (arith, n.next_is);
        taken = omega (arith, n.next_is, ap (λ (x : Tree). length (spell x)) n.tree);
        numbered = subst P (sym n.tree) m;
      };
    }

len-Unary : (m : ℕ) (t : Tree) → length (spell (Unary m t)) ≡ 1 + length (spell t)
len-Unary m t = simp spellings (omega arith)

len-Paren : (t : Tree) → length (spell (Paren t)) ≡ 2 + length (spell t)
len-Paren t = simp (spellings, length-append) (omega arith)

len-Cast : (signed : Bool) (t : Tree) → length (spell (Cast signed t)) ≡ 3 + length (spell t)
len-Cast signed t = simp (spellings, length-append) (omega arith)

len-Bit : (n : ℕ) (s : List ℕ) (t : Tree) → length (spell (Bit n s t)) ≡ 3 + length (spell t)
len-Bit n s t = simp (spellings, length-append) (omega arith)

len-Binary : (m : ℕ) (l r : Tree) → length (spell (Binary m l r)) ≡ length (spell l) + 1 + length (spell r)
len-Binary m l r = simp (spellings, length-append) (omega arith)

len-Cond : (a b c : Tree) → length (spell (Cond a b c)) ≡ length (spell a) + 1 + length (spell b) + 1 + length (spell c)
len-Cond a b c = simp (spellings, length-append) (omega arith)

len-Concat : (ts : Trees) (t : Tree) (us : Trees) → ts ≡ More t us → length (spell (Concat ts)) ≡ 1 + length (spell_more ts)
len-Concat ts t us e = rw e (simp (spellings, length-append) (omega arith))

len-Repeat : (c : Tree) (ts : Trees) (t : Tree) (us : Trees) → ts ≡ More t us → length (spell (Repeat c ts)) ≡ 3 + length (spell c) + length (spell_more ts)
len-Repeat c ts t us e = rw e (simp (spellings, length-append) (omega arith))

len-select : (n : ℕ) (s : List ℕ) (m : ℕ) (t u v : Tree) → IsSelect n s m t u v → length (spell v) ≡ 4 + length (spell t) + length (spell u)
len-select n s m t u v h = ap length h.spelled ∙ simp length-append (omega arith)

-- ---- after a mark

prefix_some : (sub : Reader) (m : ℕ) (ws : List Word) (p : Tree × List Word) → is_prefix m ≡ true → sub unary_level ws ≡ Some p → after_mark sub m ws ≡ Some (Unary m p.0, p.1)
unfolding after_mark mapped
prefix_some sub m ws p e f = rw (e, f) refl

pub prefix_none : (sub : Reader) (m : ℕ) (ws : List Word) → is_prefix m ≡ true → sub unary_level ws ≡ None → after_mark sub m ws ≡ None
unfolding after_mark mapped
prefix_none sub m ws e f = rw (e, f) refl

paren_some : (sub : Reader) (m : ℕ) (ws : List Word) (p : Tree × List Word) → is_prefix m ≡ false → m ≡ mark_open_parenthesis → closed sub mark_close_parenthesis ws ≡ Some p → after_mark sub m ws ≡ Some (Paren p.0, p.1)
unfolding after_mark mapped
paren_some sub m ws p e f g = rw e (rw (f, g) refl)

pub paren_none : (sub : Reader) (m : ℕ) (ws : List Word) → is_prefix m ≡ false → m ≡ mark_open_parenthesis → closed sub mark_close_parenthesis ws ≡ None → after_mark sub m ws ≡ None
unfolding after_mark mapped
paren_none sub m ws e f g = rw e (rw (f, g) refl)

pub mark_braces : (sub : Reader) (m : ℕ) (ws : List Word) → is_prefix m ≡ false → m ≡ mark_open_brace → after_mark sub m ws ≡ braces sub ws
unfolding after_mark
mark_braces sub m ws e f = rw e (rw f refl)

pub mark_other : (sub : Reader) (m : ℕ) (ws : List Word) → is_prefix m ≡ false → (m ≡ mark_open_parenthesis → ⊥) → (m ≡ mark_open_brace → ⊥) → after_mark sub m ws ≡ None
unfolding after_mark
mark_other sub m ws e f g = let a = not_equal m mark_open_parenthesis f in let b = not_equal m mark_open_brace g in rw (e, a, b) refl

pub made_unary : (T : List Token) (from limit m : ℕ) (r q : Read) → is_prefix m ≡ true → FindsBelow T (from + 1) limit (below limit unary_level (drop (from + 1) (words T))) r → IsNode (Unary m (plain r.expr)) r.next (r.depth + 1) q →
    Finds T from limit (after_mark (below limit) m (drop (from + 1) (words T))) q
unfolding depth Numbered bare
made_unary T from limit m r q p f n =
    made T from limit (after_mark (below limit) m (drop (from + 1) (words T))) (Unary m (plain r.expr)) r.next (r.depth + 1) q n
    (prefix_some (below limit) m (drop (from + 1) (words T)) (form r.expr, drop r.next (words T)) p f.found_is)
    (omega (arith, f.read.deep)) (omega (arith, f.read.deeper)) f.read.within (omega (arith, f.read.taken, len-Unary m (plain r.expr))) f.read.numbered

pub made_paren : (T : List Token) (from limit m : ℕ) (r q : Read) → is_prefix m ≡ false → m ≡ mark_open_parenthesis → FindsClosed T (from + 1) limit (closed (below limit) mark_close_parenthesis (drop (from + 1) (words T))) r → IsNode (Paren (plain r.expr)) r.next (r.depth + 1) q →
    Finds T from limit (after_mark (below limit) m (drop (from + 1) (words T))) q
unfolding depth Numbered bare
made_paren T from limit m r q p h f n =
    made T from limit (after_mark (below limit) m (drop (from + 1) (words T))) (Paren (plain r.expr)) r.next (r.depth + 1) q n
    (paren_some (below limit) m (drop (from + 1) (words T)) (form r.expr, drop r.next (words T)) p h f.found_is)
    (omega (arith, f.deep)) (omega (arith, f.deeper)) f.within (omega (arith, f.taken, len-Paren (plain r.expr))) f.numbered

-- ---- an expression and the mark behind it

pub made_closed : (T : List Token) (from limit m : ℕ) (r : Read) → m < no_mark → mark (drop r.next (words T)) ≡ m → FindsBelow T from limit (below limit 1 (drop from (words T))) r →
    FindsClosed T from limit (closed (below limit) m (drop from (words T))) (record { expr = r.expr; next = r.next + 1; depth = r.depth })
made_closed T from limit m r h e f = record {
  found_is = closed-some (below limit) m (drop from (words T)) (form r.expr, drop r.next (words T)) f.found_is e ∙ ap (λ (x : List Word). Some (form r.expr, x)) (rest_drop (words T) r.next);
  deeper = f.read.deeper;
  deep = f.read.deep;
  within = omega (arith, mark_inside T r.next m e h);
  taken = omega (arith, f.read.taken);
  numbered = f.read.numbered;
}

pub closed_other : (T : List Token) (from limit m : ℕ) (r : Read) → (mark (drop r.next (words T)) ≡ m → ⊥) → FindsBelow T from limit (below limit 1 (drop from (words T))) r → closed (below limit) m (drop from (words T)) ≡ None
closed_other T from limit m r h f = closed-other (below limit) m (drop from (words T)) (form r.expr, drop r.next (words T)) f.found_is (not_equal (mark (drop r.next (words T))) m h)

-- ---- operators

binary_some : (sub : Reader) (t : Tree) (m : ℕ) (ws : List Word) (p : Tree × List Word) → (m ≡ mark_question → ⊥) → sub (suc (infix_level m)) ws ≡ Some p → turn sub t m ws ≡ Some (Binary m t p.0, p.1)
unfolding turn mapped
binary_some sub t m ws p h e = let n = not_equal m mark_question h in rw (n, e) refl

pub binary_none : (sub : Reader) (t : Tree) (m low : ℕ) (ws : List Word) → (m ≡ mark_question → ⊥) → low ≡ suc (infix_level m) → sub low ws ≡ None → turn sub t m ws ≡ None
unfolding turn mapped
binary_none sub t m low ws h l e = let n = not_equal m mark_question h in let f : sub (suc (infix_level m)) ws ≡ None = rw (← l) e in rw (n, f) refl

pub made_binary : (T : List Token) (from limit op low : ℕ) (left right q : Read) → ReadAs T from limit left → left.depth < limit → (op ≡ mark_question → ⊥) → low ≡ suc (infix_level op) →
    FindsBelow T (left.next + 1) limit (below limit low (drop (left.next + 1) (words T))) right → IsNode (Binary op (plain left.expr) (plain right.expr)) right.next (max left.depth right.depth + 1) q →
    Finds T from limit (turn (below limit) (form left.expr) op (drop (left.next + 1) (words T))) q
unfolding depth Numbered bare
made_binary T from limit op low left right q a d o lv f n =
    let found : below limit (suc (infix_level op)) (drop (left.next + 1) (words T)) ≡ Some (form right.expr, drop right.next (words T)) = rw (← lv) f.found_is in
    let P : ℕ → Type 0 = λ (k : ℕ). Numbered (plain right.expr) k in
    let e : left.next + 1 ≡ from + length (spell (plain left.expr)) + 1 = omega (arith, a.taken) in
    made T from limit (turn (below limit) (form left.expr) op (drop (left.next + 1) (words T))) (Binary op (plain left.expr) (plain right.expr)) right.next (max left.depth right.depth + 1) q n
    (binary_some (below limit) (form left.expr) op (drop (left.next + 1) (words T)) (form right.expr, drop right.next (words T)) o found)
    (omega (arith, a.deep, f.read.deep)) (omega (arith, d, f.read.deeper)) f.read.within (omega (arith, a.taken, f.read.taken, len-Binary op (plain left.expr) (plain right.expr)))
    (a.numbered, subst P e f.read.numbered)

pub cond_none : (sub : Reader) (t : Tree) (ws : List Word) → closed sub mark_colon ws ≡ None → turn sub t mark_question ws ≡ None
unfolding turn chain
cond_none sub t ws e = rw e refl

pub cond_half : (sub : Reader) (t : Tree) (ws : List Word) (p : Tree × List Word) → closed sub mark_colon ws ≡ Some p → sub 1 p.1 ≡ None → turn sub t mark_question ws ≡ None
unfolding turn chain mapped
cond_half sub t ws p e f = rw (e, f) refl

pub made_cond : (T : List Token) (from limit : ℕ) (left middle last q : Read) → ReadAs T from limit left → left.depth < limit →
    FindsClosed T (left.next + 1) limit (closed (below limit) mark_colon (drop (left.next + 1) (words T))) middle →
    FindsBelow T middle.next limit (below limit 1 (drop middle.next (words T))) last →
    IsNode (Cond (plain left.expr) (plain middle.expr) (plain last.expr)) last.next (max left.depth (max middle.depth last.depth) + 1) q →
    Finds T from limit (turn (below limit) (form left.expr) mark_question (drop (left.next + 1) (words T))) q
unfolding depth Numbered bare
made_cond T from limit left middle last q a d f g n =
    let P : ℕ → Type 0 = λ (k : ℕ). Numbered (plain middle.expr) k in
    let Q : ℕ → Type 0 = λ (k : ℕ). Numbered (plain last.expr) k in
    let e : left.next + 1 ≡ from + length (spell (plain left.expr)) + 1 = omega (arith, a.taken) in
    let h : middle.next ≡ from + length (spell (plain left.expr)) + 1 + length (spell (plain middle.expr)) + 1 = omega (arith, a.taken, f.taken) in
    made T from limit (turn (below limit) (form left.expr) mark_question (drop (left.next + 1) (words T))) (Cond (plain left.expr) (plain middle.expr) (plain last.expr)) last.next (max left.depth (max middle.depth last.depth) + 1) q n
    (turn-cond (below limit) (form left.expr) (drop (left.next + 1) (words T)) (form middle.expr, drop middle.next (words T)) (form last.expr, drop last.next (words T)) f.found_is g.found_is)
    (omega (arith, a.deep, f.deep, g.read.deep)) (omega (arith, d, f.deeper, g.read.deeper)) g.read.within (omega (arith, a.taken, f.taken, g.read.taken, len-Cond (plain left.expr) (plain middle.expr) (plain last.expr)))
    (a.numbered, subst P e f.numbered, subst Q h g.read.numbered)

-- ---- an operator goes on, or none does

pub step_none : (T : List Token) (from limit low : ℕ) (left : Read) → goes_on limit low (plain left.expr) (mark (drop left.next (words T))) ≡ false → Steps T from (below limit) limit low left None
step_none T from limit low left e n = climb-stop (below limit) limit low n (form left.expr) (drop left.next (words T)) (goes_bare limit low (plain left.expr) (mark (drop left.next (words T))) ∙ e)

pub step_of : (T : List Token) (from limit low : ℕ) (left : Read) (m : ℕ) (o : Option Read) → ReadAs T from limit left → m ≡ mark (drop left.next (words T)) → goes_on limit low (plain left.expr) m ≡ true →
    Answers T from limit (turn (below limit) (form left.expr) m (drop (left.next + 1) (words T))) o → Steps T from (below limit) limit low left o
step_of T from limit low left m None a e g h =
    let k : goes_on limit low (form left.expr) m ≡ true = goes_bare limit low (plain left.expr) m ∙ g in
    λ n. climb-none (below limit) limit low n (form left.expr) (drop left.next (words T)) (rw (← e) k) (rw (← e, rest_drop) h)
step_of T from limit low left m (Some more) a e g h =
    let k : goes_on limit low (form left.expr) m ≡ true = goes_bare limit low (plain left.expr) m ∙ g in
    let f : turn (below limit) (form left.expr) (mark (drop left.next (words T))) (rest (drop left.next (words T))) ≡ Some (form more.expr, drop more.next (words T)) = rw (← e, rest_drop) h.found_is in
    record {
      goes = λ n. climb-turn (below limit) limit low n (form left.expr) (drop left.next (words T)) (form more.expr, drop more.next (words T)) (rw (← e) k) f;
      deeper = omega (arith, a.deep, h.read.deep, depth-bare (plain left.expr), depth-bare (plain more.expr), turn_deeper (below limit) (form left.expr) (mark (drop left.next (words T))) (rest (drop left.next (words T))) (form more.expr, drop more.next (words T)) f);
      read = h.read;
    }

-- an operator that goes on stands within the tokens
pub goes_inside : (T : List Token) (limit low : ℕ) (left : Read) (m : ℕ) → 1 ≤ low → left.depth ≡ depth (plain left.expr) → m ≡ mark (drop left.next (words T)) → goes_on limit low (plain left.expr) m ≡ true →
    (left.next < length T) × (left.depth < limit) × (1 ≤ infix_level m)
goes_inside T limit low left m a d e g =
    let told = goes_tells limit low (plain left.expr) m g in
    let there : 1 ≤ infix_level (mark (drop left.next (words T))) = omega (arith, told.0, a, ap infix_level e) in
    (operator_inside T left.next there, omega (arith, told.2, d), omega (arith, told.0, a))

-- ---- an operand

pub operand_past : (sub : Reader) (T : List Token) (from : ℕ) → length T ≤ from → operand sub (drop from (words T)) ≡ None
unfolding operand
operand_past sub T from h = rw (words_past T from h) refl

pub operand_name : (sub : Reader) (T : List Token) (from : ℕ) (t : Token) (s : Bor (List ℕ)) → from < length T → t ≡ get_or T from t → t.kind ≡ kind.Name s → operand sub (drop from (words T)) ≡ named sub s.now (drop (from + 1) (words T))
unfolding operand
operand_name sub T from t s h g k = rw (words_at T from t h g, k) refl

pub operand_system : (sub : Reader) (T : List Token) (from : ℕ) (t : Token) (s : Bor (List ℕ)) → from < length T → t ≡ get_or T from t → t.kind ≡ kind.System s → operand sub (drop from (words T)) ≡ system sub s.now (drop (from + 1) (words T))
unfolding operand
operand_system sub T from t s h g k = rw (words_at T from t h g, k) refl

pub operand_keyword : (sub : Reader) (T : List Token) (from : ℕ) (t : Token) (w : Keyword) → from < length T → t ≡ get_or T from t → t.kind ≡ kind.Keyword w → operand sub (drop from (words T)) ≡ None
unfolding operand
operand_keyword sub T from t w h g k = rw (words_at T from t h g, k) refl

pub operand_mark : (sub : Reader) (T : List Token) (from : ℕ) (t : Token) (m : Mark) → from < length T → t ≡ get_or T from t → t.kind ≡ kind.Mark m → operand sub (drop from (words T)) ≡ after_mark sub m.0 (drop (from + 1) (words T))
unfolding operand
operand_mark sub T from t m h g k = rw (words_at T from t h g, k) refl

pub made_literal : (T : List Token) (from limit : ℕ) (t : Token) (d : Number) → from < length T → t ≡ get_or T from t → t.kind ≡ kind.Number d →
    Finds T from limit (operand (below limit) (drop from (words T))) (record { expr = expr.Literal from d; next = from + 1; depth = 0 })
unfolding operand plain depth Numbered bare
made_literal T from limit t d h g k = record {
  found_is = rw (words_at T from t h g, k) refl;
  read = record { deep = refl; low = omega arith; within = omega arith; taken = omega (arith, ap length (spell-Literal from d)); numbered = refl };
}

-- ---- names and selects

pub made_name : (T : List Token) (from limit : ℕ) (s : Bor (List ℕ)) → from < length T → select (below limit) s.now (drop (from + 1) (words T)) ≡ None →
    Finds T from limit (named (below limit) s.now (drop (from + 1) (words T))) (record { expr = expr.Name from s; next = from + 1; depth = 0 })
unfolding plain depth Numbered bare
made_name T from limit s h e = record {
  found_is = named-alone (below limit) s.now (drop (from + 1) (words T)) e;
  read = record { deep = refl; low = omega arith; within = omega arith; taken = omega (arith, ap length (spell-Name from s.now)); numbered = refl };
}

pub made_named : (T : List Token) (from limit : ℕ) (s : List ℕ) (r : Read) → Finds T from limit (select (below limit) s (drop (from + 1) (words T))) r → Finds T from limit (named (below limit) s (drop (from + 1) (words T))) r
made_named T from limit s r f = record { found_is = named-select (below limit) s (drop (from + 1) (words T)) (form r.expr, drop r.next (words T)) f.found_is; read = f.read }

pub select_other : (T : List Token) (from limit : ℕ) (s : List ℕ) → (mark (drop (from + 1) (words T)) ≡ mark_open_bracket → ⊥) → select (below limit) s (drop (from + 1) (words T)) ≡ None
select_other T from limit s h = select-other (below limit) s (drop (from + 1) (words T)) (not_equal (mark (drop (from + 1) (words T))) mark_open_bracket h)

pub select_none : (T : List Token) (from limit : ℕ) (s : List ℕ) → mark (drop (from + 1) (words T)) ≡ mark_open_bracket → below limit 1 (drop (from + 2) (words T)) ≡ None → select (below limit) s (drop (from + 1) (words T)) ≡ None
select_none T from limit s m e = select-none (below limit) s (drop (from + 1) (words T)) m (rw (rest_next (words T) from) e)

pub select_first : (T : List Token) (from limit : ℕ) (s : List ℕ) (r : Read) → mark (drop (from + 1) (words T)) ≡ mark_open_bracket → FindsBelow T (from + 2) limit (below limit 1 (drop (from + 2) (words T))) r →
    select (below limit) s (drop (from + 1) (words T)) ≡ after_index (below limit) s (form r.expr) (mark (drop r.next (words T))) (drop (r.next + 1) (words T))
select_first T from limit s r m f =
    let e : below limit 1 (rest (drop (from + 1) (words T))) ≡ Some (form r.expr, drop r.next (words T)) = rw (rest_next (words T) from) f.found_is in
    select-index (below limit) s (drop (from + 1) (words T)) (form r.expr, drop r.next (words T)) m e ∙ ap (after_index (below limit) s (form r.expr) (mark (drop r.next (words T)))) (rest_drop (words T) r.next)

pub made_bit : (T : List Token) (from limit : ℕ) (s : List ℕ) (r q : Read) → IsBelow T (from + 2) limit r → mark (drop r.next (words T)) ≡ mark_close_bracket → IsNode (Bit from s (plain r.expr)) (r.next + 1) (r.depth + 1) q →
    Finds T from limit (after_index (below limit) s (form r.expr) (mark (drop r.next (words T))) (drop (r.next + 1) (words T))) q
unfolding depth Numbered bare
made_bit T from limit s r q f m n =
    made T from limit (after_index (below limit) s (form r.expr) (mark (drop r.next (words T))) (drop (r.next + 1) (words T))) (Bit from s (plain r.expr)) (r.next + 1) (r.depth + 1) q n
    (index-bit (below limit) s (form r.expr) (mark (drop r.next (words T))) (drop (r.next + 1) (words T)) m)
    (omega (arith, f.deep)) (omega (arith, f.deeper)) (omega (arith, mark_inside T r.next mark_close_bracket m (omega arith))) (omega (arith, f.taken, len-Bit from s (plain r.expr))) (refl, f.numbered)

pub between_inside : (T : List Token) (i m : ℕ) → m ≡ mark (drop i (words T)) → is_between m ≡ true → i < length T
unfolding is_between
between_inside T i m e h = mark_inside T i m (sym e) (grind (arith, nat_tests))

pub index_open : (T : List Token) (limit : ℕ) (s : List ℕ) (t : Tree) (m i : ℕ) → is_between m ≡ true → closed (below limit) mark_close_bracket (drop i (words T)) ≡ None → after_index (below limit) s t m (drop i (words T)) ≡ None
index_open T limit s t m i b e = index-open (below limit) s t m (drop i (words T)) b e

pub index_other : (T : List Token) (limit : ℕ) (s : List ℕ) (t : Tree) (m i : ℕ) → (m ≡ mark_close_bracket → ⊥) → is_between m ≡ false → after_index (below limit) s t m (drop i (words T)) ≡ None
index_other T limit s t m i h b = index-other (below limit) s t m (drop i (words T)) (not_equal m mark_close_bracket h) b

pub made_part : (T : List Token) (from limit : ℕ) (s : List ℕ) (m : ℕ) (r u q : Read) → IsBelow T (from + 2) limit r → is_between m ≡ true → FindsClosed T (r.next + 1) limit (closed (below limit) mark_close_bracket (drop (r.next + 1) (words T))) u →
    IsNode (select_of from s m (plain r.expr) (plain u.expr)) u.next (max r.depth u.depth + 1) q →
    Finds T from limit (after_index (below limit) s (form r.expr) m (drop (r.next + 1) (words T))) q
made_part T from limit s m r u q f b g n =
    let k = is_select from s m (plain r.expr) (plain u.expr) b in
    let P : ℕ → Type 0 = λ (j : ℕ). Numbered (plain u.expr) j in
    let e : r.next + 1 ≡ from + 2 + length (spell (plain r.expr)) + 1 = omega (arith, f.taken) in
    made T from limit (after_index (below limit) s (form r.expr) m (drop (r.next + 1) (words T))) (select_of from s m (plain r.expr) (plain u.expr)) u.next (max r.depth u.depth + 1) q n
    (index-part (below limit) s (form r.expr) m (drop (r.next + 1) (words T)) (form u.expr, drop u.next (words T)) b g.found_is ∙ ap (λ (x : Tree). Some (x, drop u.next (words T))) (sym k.bared))
    (omega (arith, f.deep, g.deep, k.deep)) (omega (arith, f.deeper, g.deeper)) g.within (omega (arith, f.taken, g.taken, len-select from s m (plain r.expr) (plain u.expr) (select_of from s m (plain r.expr) (plain u.expr)) k))
    (k.numbered from refl f.numbered (subst P e g.numbered))

-- ---- casts

pub cast_other : (T : List Token) (from limit : ℕ) (s : List ℕ) (signed : Bool) → cast_sign s ≡ Some signed → (mark (drop (from + 1) (words T)) ≡ mark_open_parenthesis → ⊥) → system (below limit) s (drop (from + 1) (words T)) ≡ None
cast_other T from limit s signed e h = cast-other (below limit) s signed (drop (from + 1) (words T)) e (not_equal (mark (drop (from + 1) (words T))) mark_open_parenthesis h)

pub cast_open : (T : List Token) (from limit : ℕ) (s : List ℕ) (signed : Bool) → cast_sign s ≡ Some signed → mark (drop (from + 1) (words T)) ≡ mark_open_parenthesis → closed (below limit) mark_close_parenthesis (drop (from + 2) (words T)) ≡ None →
    system (below limit) s (drop (from + 1) (words T)) ≡ None
cast_open T from limit s signed e m f = cast-open (below limit) s signed (drop (from + 1) (words T)) e m (rw (rest_next (words T) from) f)

pub made_cast : (T : List Token) (from limit : ℕ) (s : List ℕ) (signed : Bool) (r q : Read) → cast_sign s ≡ Some signed → mark (drop (from + 1) (words T)) ≡ mark_open_parenthesis →
    FindsClosed T (from + 2) limit (closed (below limit) mark_close_parenthesis (drop (from + 2) (words T))) r → IsNode (Cast signed (plain r.expr)) r.next (r.depth + 1) q →
    Finds T from limit (system (below limit) s (drop (from + 1) (words T))) q
unfolding depth Numbered bare
made_cast T from limit s signed r q e m f n =
    let g : closed (below limit) mark_close_parenthesis (rest (drop (from + 1) (words T))) ≡ Some (form r.expr, drop r.next (words T)) = rw (rest_next (words T) from) f.found_is in
    made T from limit (system (below limit) s (drop (from + 1) (words T))) (Cast signed (plain r.expr)) r.next (r.depth + 1) q n
    (cast-some (below limit) s signed (drop (from + 1) (words T)) (form r.expr, drop r.next (words T)) e m g)
    (omega (arith, f.deep)) (omega (arith, f.deeper)) f.within (omega (arith, f.taken, len-Cast signed (plain r.expr))) f.numbered

-- ---- the loop over operators

pub climb_start : (T : List Token) (from low limit : ℕ) (first : Read) → Finds T from limit (operand (below limit) (drop from (words T))) first → Climbing T from low limit first
climb_start T from low limit first h = record {
  fuel = limit;
  enough = omega arith;
  whole = reads-below limit low (drop from (words T)) ∙ reads_by-operand (below limit) limit low (drop from (words T)) (form first.expr, drop first.next (words T)) h.found_is;
  read = h.read;
}

climb_next : (T : List Token) (from low limit : ℕ) (left more : Read) (fuel : ℕ) → limit ≤ fuel + left.depth → reads limit low (drop from (words T)) ≡ climb (below limit) limit low fuel (form left.expr) (drop left.next (words T)) →
    Moves T from (below limit) limit low left more → Climbing T from low limit more
climb_next T from low limit left more zero a e h = absurd (omega (arith, h.deeper, h.read.low))
climb_next T from low limit left more (suc n) a e h = record { fuel = n; enough = omega (arith, h.deeper); whole = e ∙ h.goes n; read = h.read }

pub climb_more : (T : List Token) (from low limit : ℕ) (left : Read) (o : Option Read) (more : Read) → o ≡ Some more → Climbing T from low limit left → Steps T from (below limit) limit low left o → Climbing T from low limit more
climb_more T from low limit left o more e c h = climb_next T from low limit left more c.fuel c.enough c.whole (rw e at h)

pub moves_deeper : (T : List Token) (from low limit : ℕ) (left : Read) (o : Option Read) (more : Read) → o ≡ Some more → Steps T from (below limit) limit low left o → (left.depth < more.depth) × (more.depth ≤ limit)
moves_deeper T from low limit left o more e h = let g = rw e at h in (g.deeper, g.read.low)

pub climb_end : (T : List Token) (from low room : ℕ) (left : Read) (o : Option Read) → 0 < room → o ≡ None → Climbing T from low (room - 1) left → Steps T from (below (room - 1)) (room - 1) low left o → FindsBelow T from room (below room low (drop from (words T))) left
climb_end T from low room left o p e c h = let g = rw e at h in record {
  found_is = below_is room low (drop from (words T)) p ∙ c.whole ∙ g c.fuel;
  read = record { deeper = omega (arith, c.read.low, p); deep = c.read.deep; within = c.read.within; taken = c.read.taken; numbered = c.read.numbered };
}

pub below_none : (T : List Token) (from low room : ℕ) → 0 < room → operand (below (room - 1)) (drop from (words T)) ≡ None → below room low (drop from (words T)) ≡ None
below_none T from low room p e = below_is room low (drop from (words T)) p ∙ reads-below (room - 1) low (drop from (words T)) ∙ reads_by-none (below (room - 1)) (room - 1) low (drop from (words T)) e

-- ---- lists in braces

pub collect_start : (T : List Token) (from limit : ℕ) (first : Read) (old items : List Expr) → old ≡ [] → items ≡ old ++ (first.expr ∷ []) → IsBelow T (from + 1) limit first →
    Collecting T from limit (parts_from (below limit) (form first.expr) (drop first.next (words T))) items first.next (first.depth + 1)
unfolding plain_list height NumberedMore bare parts_from
collect_start T from limit first old items z e f = rw (e, z) (record {
  fuel = suc (length (drop first.next (words T)));
  enough = omega (arith, length-drop first.next (words T), length_words T, f.within);
  whole = refl;
  read = record {
    first = plain first.expr;
    others = End;
    some = refl;
    deep = omega (arith, f.deep);
    low = omega (arith, f.deeper);
    within = f.within;
    taken = simp (spellings, length-append) (omega (arith, f.taken));
    numbered = (f.numbered, tt);
  };
})

plain_snoc : (es : List Expr) (e : Expr) → plain_list (es ++ (e ∷ [])) ≡ snoc (plain_list es) (plain e)
unfolding plain_list snoc
plain_snoc [] e = refl
plain_snoc (x ∷ es) e = ap (More (plain x)) (plain_snoc es e)

bare_snoc : (ts : Trees) (t : Tree) → bare_parts (snoc ts t) ≡ snoc (bare_parts ts) (bare t)
unfolding bare snoc
bare_snoc End t = refl
bare_snoc (More u us) t = ap (More (bare u)) (bare_snoc us t)

forms_snoc : (es : List Expr) (e : Expr) → forms (es ++ (e ∷ [])) ≡ snoc (forms es) (form e)
forms_snoc es e = ap bare_parts (plain_snoc es e) ∙ bare_snoc (plain_list es) (plain e)

height_snoc : (ts : Trees) (t : Tree) → height (snoc ts t) ≡ max (height ts) (suc (depth t))
unfolding height snoc
height_snoc End t = omega arith
height_snoc (More u us) t = omega (arith, height_snoc us t)

more_snoc : (ts : Trees) (t : Tree) → length (spell_more (snoc ts t)) ≡ length (spell_more ts) + 1 + length (spell t)
unfolding snoc
more_snoc End t = simp (spellings, length-append) (omega arith)
more_snoc (More u us) t = simp (spellings, length-append) (omega (arith, more_snoc us t))

more_len : (t : Tree) (ts : Trees) → length (spell_more (More t ts)) ≡ 1 + length (spell t) + length (spell_more ts)
more_len t ts = simp (spellings, length-append) (omega arith)

numbered_snoc : (ts : Trees) (t : Tree) (at n : ℕ) → n ≡ at + length (spell_more ts) + 1 → NumberedMore ts at → Numbered t n → NumberedMore (snoc ts t) at
unfolding NumberedMore snoc
numbered_snoc End t at n h a b = (let P : ℕ → Type 0 = λ (k : ℕ). Numbered t k in let q : n ≡ at + 1 = omega (arith, ap length more-End, h) in subst P q b, tt)
numbered_snoc (More u us) t at n h a b = (a.0, numbered_snoc us t (at + 1 + length (spell u)) n (omega (arith, h, more_len u us)) a.1 b)

parts_turn : (T : List Token) (from limit : ℕ) (found : Found Trees) (items : List Expr) (next deepest : ℕ) (part : Read) (fuel : ℕ) (c : Collecting T from limit found items next deepest) → c.fuel ≡ fuel → mark (drop next (words T)) ≡ mark_comma →
    FindsBelow T (next + 1) limit (below limit 1 (drop (next + 1) (words T))) part → Collecting T from limit found (items ++ (part.expr ∷ [])) part.next (max deepest (part.depth + 1))
unfolding snoc
parts_turn T from limit found items next deepest part zero c e m h = absurd (omega (arith, c.enough, c.read.within))
parts_turn T from limit found items next deepest part (suc n) c e m h =
    let f : below limit 1 (rest (drop next (words T))) ≡ Some (form part.expr, drop part.next (words T)) = rw rest_drop h.found_is in
    let P : Trees → Type 0 = λ (x : Trees). NumberedMore x from in
    record {
      fuel = n;
      enough = omega (arith, c.enough, h.read.taken);
      whole = c.whole ∙ ap (λ (k : ℕ). parts (below limit) k (forms items) (drop next (words T))) e ∙
          parts-comma (below limit) n (forms items) (drop next (words T)) (form part.expr, drop part.next (words T)) m f ∙
          ap (λ (us : Trees). parts (below limit) n us (drop part.next (words T))) (sym (forms_snoc items part.expr));
      read = record {
        first = c.read.first;
        others = snoc c.read.others (plain part.expr);
        some = plain_snoc items part.expr ∙ ap (λ (us : Trees). snoc us (plain part.expr)) c.read.some;
        deep = omega (arith, c.read.deep, h.read.deep, ap height (plain_snoc items part.expr), height_snoc (plain_list items) (plain part.expr));
        low = omega (arith, c.read.low, h.read.deeper);
        within = h.read.within;
        taken = omega (arith, c.read.taken, h.read.taken, ap (λ (us : Trees). length (spell_more us)) (plain_snoc items part.expr), more_snoc (plain_list items) (plain part.expr));
        numbered = subst P (sym (plain_snoc items part.expr)) (numbered_snoc (plain_list items) (plain part.expr) from (next + 1) (omega (arith, c.read.taken)) c.read.numbered h.read.numbered);
      };
    }

pub collect_more : (T : List Token) (from limit : ℕ) (found : Found Trees) (items new : List Expr) (next deepest deeper : ℕ) (part : Read) → Collecting T from limit found items next deepest → mark (drop next (words T)) ≡ mark_comma →
    FindsBelow T (next + 1) limit (below limit 1 (drop (next + 1) (words T))) part → new ≡ items ++ (part.expr ∷ []) → deeper ≡ max deepest (part.depth + 1) → Collecting T from limit found new part.next deeper
collect_more T from limit found items new next deepest deeper part c m h e f = rw (e, f) (parts_turn T from limit found items next deepest part c.fuel c refl m h)

parts_fail : (sub : Reader) (fuel : ℕ) (have : Trees) (ws : List Word) → mark ws ≡ mark_comma → sub 1 (rest ws) ≡ None → parts sub fuel have ws ≡ None
unfolding parts chain
parts_fail sub zero have ws e f = refl
parts_fail sub (suc n) have ws e f = rw (e, f) refl

pub collect_fail : (T : List Token) (from limit : ℕ) (found : Found Trees) (items : List Expr) (next deepest : ℕ) → Collecting T from limit found items next deepest → mark (drop next (words T)) ≡ mark_comma → below limit 1 (drop (next + 1) (words T)) ≡ None → found ≡ None
collect_fail T from limit found items next deepest c m e = c.whole ∙ parts_fail (below limit) c.fuel (forms items) (drop next (words T)) m (rw rest_drop e)

parts_other : (sub : Reader) (fuel : ℕ) (have : Trees) (ws : List Word) → (mark ws ≡ mark_comma → ⊥) → (mark ws ≡ mark_close_brace → ⊥) → parts sub fuel have ws ≡ None
unfolding parts
parts_other sub zero have ws e f = refl
parts_other sub (suc n) have ws e f = let a = not_equal (mark ws) mark_comma e in let b = not_equal (mark ws) mark_close_brace f in rw (b, a) refl

pub collect_other : (T : List Token) (from limit : ℕ) (found : Found Trees) (items : List Expr) (next deepest : ℕ) → Collecting T from limit found items next deepest → (mark (drop next (words T)) ≡ mark_comma → ⊥) → (mark (drop next (words T)) ≡ mark_close_brace → ⊥) → found ≡ None
collect_other T from limit found items next deepest c a b = c.whole ∙ parts_other (below limit) c.fuel (forms items) (drop next (words T)) a b

close_by : (T : List Token) (limit : ℕ) (us : Trees) (next fuel : ℕ) → 0 < fuel → mark (drop next (words T)) ≡ mark_close_brace → parts (below limit) fuel us (drop next (words T)) ≡ Some (us, drop (next + 1) (words T))
close_by T limit us next zero h m = absurd (omega arith)
close_by T limit us next (suc n) h m = parts-close (below limit) n us (drop next (words T)) m ∙ ap (λ (x : List Word). Some (us, x)) (rest_drop (words T) next)

pub collect_end : (T : List Token) (from limit : ℕ) (found : Found Trees) (items : List Expr) (next deepest : ℕ) → Collecting T from limit found items next deepest → mark (drop next (words T)) ≡ mark_close_brace →
    Gathered T from limit found items (record { next = next + 1; depth = deepest })
collect_end T from limit found items next deepest c m = record {
  found_is = c.whole ∙ close_by T limit (forms items) next c.fuel (omega (arith, c.enough, c.read.within)) m;
  first = c.read.first;
  others = c.read.others;
  some = c.read.some;
  deep = c.read.deep;
  low = c.read.low;
  within = omega (arith, mark_inside T next mark_close_brace m (omega arith));
  taken = omega (arith, c.read.taken);
  numbered = c.read.numbered;
}

pub braces_first : (T : List Token) (from limit : ℕ) (r : Read) → FindsBelow T (from + 1) limit (below limit 1 (drop (from + 1) (words T))) r → braces (below limit) (drop (from + 1) (words T)) ≡ after_first (below limit) (form r.expr) (drop r.next (words T))
braces_first T from limit r f = braces-first (below limit) (drop (from + 1) (words T)) (form r.expr, drop r.next (words T)) f.found_is

pub braces_repeat : (T : List Token) (from limit : ℕ) (r : Read) → FindsBelow T (from + 1) limit (below limit 1 (drop (from + 1) (words T))) r → mark (drop r.next (words T)) ≡ mark_open_brace →
    braces (below limit) (drop (from + 1) (words T)) ≡ repeated (below limit) (form r.expr) (drop (r.next + 1) (words T))
braces_repeat T from limit r f m = braces_first T from limit r f ∙ first-repeat (below limit) (form r.expr) (drop r.next (words T)) m ∙ ap (repeated (below limit) (form r.expr)) (rest_drop (words T) r.next)

pub braces_open : (T : List Token) (from limit : ℕ) (r : Read) → FindsBelow T (from + 1) limit (below limit 1 (drop (from + 1) (words T))) r → (mark (drop r.next (words T)) ≡ mark_open_brace → ⊥) →
    parts_from (below limit) (form r.expr) (drop r.next (words T)) ≡ None → braces (below limit) (drop (from + 1) (words T)) ≡ None
braces_open T from limit r f m e = braces_first T from limit r f ∙ first-open (below limit) (form r.expr) (drop r.next (words T)) (not_equal (mark (drop r.next (words T))) mark_open_brace m) e

pub made_concat : (T : List Token) (from limit : ℕ) (r : Read) (ps items : List Expr) (end : ending.End) (q : Read) → FindsBelow T (from + 1) limit (below limit 1 (drop (from + 1) (words T))) r → (mark (drop r.next (words T)) ≡ mark_open_brace → ⊥) →
    ps ≡ items → Gathered T from limit (parts_from (below limit) (form r.expr) (drop r.next (words T))) items end → IsNode (Concat (plain_list ps)) end.next end.depth q →
    Finds T from limit (braces (below limit) (drop (from + 1) (words T))) q
unfolding depth Numbered bare
made_concat T from limit r ps items end q f m e g n =
    let k : IsNode (Concat (plain_list items)) end.next end.depth q = rw e at n in
    made T from limit (braces (below limit) (drop (from + 1) (words T))) (Concat (plain_list items)) end.next end.depth q k
    (braces_first T from limit r f ∙ first-concat (below limit) (form r.expr) (drop r.next (words T)) (forms items, drop end.next (words T)) (not_equal (mark (drop r.next (words T))) mark_open_brace m) g.found_is)
    g.deep g.low g.within (omega (arith, g.taken, len-Concat (plain_list items) g.first g.others g.some)) g.numbered

pub repeated_none : (T : List Token) (limit : ℕ) (t : Tree) (i : ℕ) → below limit 1 (drop i (words T)) ≡ None → repeated (below limit) t (drop i (words T)) ≡ None
repeated_none T limit t i e = repeated-none (below limit) t (drop i (words T)) e

pub repeated_open : (T : List Token) (limit : ℕ) (t : Tree) (i : ℕ) (r : Read) → FindsBelow T i limit (below limit 1 (drop i (words T))) r → parts_from (below limit) (form r.expr) (drop r.next (words T)) ≡ None → repeated (below limit) t (drop i (words T)) ≡ None
repeated_open T limit t i r f e = repeated-open (below limit) t (drop i (words T)) (form r.expr, drop r.next (words T)) f.found_is e

pub repeated_other : (T : List Token) (limit : ℕ) (t : Tree) (i : ℕ) (r : Read) (items : List Expr) (end : ending.End) → FindsBelow T i limit (below limit 1 (drop i (words T))) r → parts_from (below limit) (form r.expr) (drop r.next (words T)) ≡ Some (forms items, drop end.next (words T)) →
    (mark (drop end.next (words T)) ≡ mark_close_brace → ⊥) → repeated (below limit) t (drop i (words T)) ≡ None
repeated_other T limit t i r items end f e m = repeated-other (below limit) t (drop i (words T)) (form r.expr, drop r.next (words T)) (forms items, drop end.next (words T)) f.found_is e (not_equal (mark (drop end.next (words T))) mark_close_brace m)

pub made_repeat : (T : List Token) (from limit : ℕ) (count r : Read) (ps items : List Expr) (end : ending.End) (q : Read) → IsBelow T (from + 1) limit count → FindsBelow T (count.next + 1) limit (below limit 1 (drop (count.next + 1) (words T))) r →
    ps ≡ items → Gathered T count.next limit (parts_from (below limit) (form r.expr) (drop r.next (words T))) items end → mark (drop end.next (words T)) ≡ mark_close_brace →
    IsNode (Repeat (plain count.expr) (plain_list ps)) (end.next + 1) (max (count.depth + 1) end.depth) q →
    Finds T from limit (repeated (below limit) (form count.expr) (drop (count.next + 1) (words T))) q
unfolding depth Numbered bare
made_repeat T from limit count r ps items end q c f e g m n =
    let k : IsNode (Repeat (plain count.expr) (plain_list items)) (end.next + 1) (max (count.depth + 1) end.depth) q = rw e at n in
    let P : ℕ → Type 0 = λ (j : ℕ). NumberedMore (plain_list items) j in
    let h : count.next ≡ from + 1 + length (spell (plain count.expr)) = omega (arith, c.taken) in
    made T from limit (repeated (below limit) (form count.expr) (drop (count.next + 1) (words T))) (Repeat (plain count.expr) (plain_list items)) (end.next + 1) (max (count.depth + 1) end.depth) q k
    (repeated-some (below limit) (form count.expr) (drop (count.next + 1) (words T)) (form r.expr, drop r.next (words T)) (forms items, drop end.next (words T)) f.found_is g.found_is m ∙ ap (λ (x : List Word). Some (Repeat (form count.expr) (forms items), x)) (rest_drop (words T) end.next))
    (omega (arith, c.deep, g.deep)) (omega (arith, c.deeper, g.low)) (omega (arith, mark_inside T end.next mark_close_brace m (omega arith))) (omega (arith, c.taken, g.taken, len-Repeat (plain count.expr) (plain_list items) g.first g.others g.some))
    (c.numbered, subst P h g.numbered)
