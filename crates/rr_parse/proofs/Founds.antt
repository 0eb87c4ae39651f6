-- What stands at a token, part by part: from what was read of the parts to what was read of the whole.
use Rattle.std.proofs.Common.{◌≡◌, ℕ, ◌+◌, ◌≤◌, ◌<◌, List, [], ◌∷◌, length, drop, Bool, true, false, cond, nat_eq, refl, ap, ◌∙◌, sym, arith, Some, None, Result, Ok, Err, length-append, subst}
use Rattle.std.proofs.lemmas.Bool.Decides.{Decides-eqb}
use Rattle.rr_syntax.specs.declared.token.Token.{Token}
use Rattle.rr_syntax.specs.Words.{Word, words, Marked, Reserved}
use Rattle.rr_parse_expr.specs.Reading.{Found, mapped, chain, mark, rest, no_mark, expect}
use Rattle.rr_parse_expr.specs.declared.expression.ParseFault.{ParseFault}
use Rattle.rr_parse_expr.specs.declared.expression.ParseFault.TheVariants.{Unsupported, Syntax, Memory}
use Rattle.rr_parse_expr.proofs.Answered.{mark_inside, not_equal, rest_drop}
use Rattle.rr_parse_stmt.specs.Reading.{keyword, no_word}
use Rattle.rr_parse_stmt.proofs.Answered.{keyword_inside}
use Rattle.rr_grammar.specs.Formats.{Format, both, after_mark, before_mark, after_word, before_word, position, shaped, respelled, narrowed, guarded, imaged, choose, nothing_of, Finds, FindsNone}
use Rattle.rr_grammar.specs.Leaves.{where_mark, there}
use Rattle.rr_grammar.proofs.Exacts.{chain_mapped, mapped_some}
use Rattle.rr_parse_expr.specs.declared.lists.Piece.{Piece}
use Rattle.rr_parse.specs.Answer.{Misses, Answers, MarkAt, WordAt, AnswersMark, AnswersWord}

-- ---- single steps

pub expect_here : {A : Type 0} (m : ℕ) (k : List Word → Found A) (ws : List Word) (o : Found A) → mark ws ≡ m → k (rest ws) ≡ o → expect m k ws ≡ o
unfolding expect
expect_here m k ws o e f = let s : nat_eq (mark ws) m ≡ true = (Decides-eqb (mark ws) m).1 e in rw s f

pub chain_here : {A B : Type 0} (x : Found A) (k : A → List Word → Found B) (p : A × List Word) → x ≡ Some p → chain x k ≡ k p.0 p.1
unfolding chain
chain_here x k p e = rw e refl

pub chain_none : {A B : Type 0} {x : Found A} (k : A → List Word → Found B) → x ≡ None → chain x k ≡ None
unfolding chain
chain_none k e = rw e refl

pub chain_then : {A B : Type 0} {x : Found A} (k : A → List Word → Found B) {p : A × List Word} → x ≡ Some p → k p.0 p.1 ≡ None → chain x k ≡ None
unfolding chain
chain_then k e f = rw e f

pub mapped_none : {A B : Type 0} (f : A → B) {x : Found A} → x ≡ None → mapped f x ≡ None
unfolding mapped
mapped_none f e = rw e refl

pub other_mark : {A : Type 0} (m : ℕ) (k : List Word → Found A) (ws : List Word) → (mark ws ≡ m → ⊥) → expect m k ws ≡ None
unfolding expect
other_mark m k ws h = let e = not_equal (mark ws) m h in rw e refl

pub cond_first : {A : Type 0} {b : Bool} {x : Found A} (y : Found A) → b ≡ true → x ≡ None → cond b x y ≡ None
cond_first y e f = rw e f

pub cond_second : {A : Type 0} {b : Bool} (x : Found A) {y : Found A} → b ≡ false → y ≡ None → cond b x y ≡ None
cond_second x e f = rw e f

pub if_true : {A : Type 0} (b : Bool) (x y o : A) → b ≡ true → x ≡ o → cond b x y ≡ o
if_true b x y o e f = rw e f

pub if_false : {A : Type 0} (b : Bool) (x y o : A) → b ≡ false → y ≡ o → cond b x y ≡ o
if_false b x y o e f = rw e f

pub same : (a b : ℕ) → a ≡ b → nat_eq a b ≡ true
same a b e = (Decides-eqb a b).1 e

-- ---- faults

-- where a part is missing, the whole is
pub passes : {A B : Type 0} (F : Format A) (G : Format B) (T : List Token) (from at : ℕ) (e : ParseFault) → (FindsNone G T at → FindsNone F T from) → Misses G T at e → Misses F T from e
passes F G T from at (Syntax place) f m = f m
passes F G T from at (Unsupported place) f m = m
passes F G T from at Memory f m = m

-- where a mark is missing, the whole is
pub lacks : {A : Type 0} (F : Format A) (T : List Token) (from at m : ℕ) (e : ParseFault) → ((mark (drop at (words T)) ≡ m → ⊥) → FindsNone F T from) → AnswersMark T at m (Err e) → Misses F T from e
lacks F T from at m (Syntax place) f h = f h
lacks F T from at m (Unsupported place) f h = h
lacks F T from at m Memory f h = absurd h

pub lacks_word : {A : Type 0} (F : Format A) (T : List Token) (from at k : ℕ) (e : ParseFault) → ((keyword (drop at (words T)) ≡ k → ⊥) → FindsNone F T from) → AnswersWord T at k (Err e) → Misses F T from e
lacks_word F T from at k (Syntax place) f h = f h
lacks_word F T from at k (Unsupported place) f h = h
lacks_word F T from at k Memory f h = absurd h

-- ---- one part and then another

pub finds_both : {A B : Type 0} {F : Format A} {G : Format B} {T : List Token} {begin : ℕ} {a : A} {middle : ℕ} {b : B} {next : ℕ} → Finds F T begin a middle → Finds G T middle b next → Finds (both F G) T begin (a, b) next
finds_both {F = F} {G = G} {T = T} {begin = begin} {a = a} {middle = middle} {b = b} {next = next} f g = record {
  found_is = chain_mapped (F.read (drop begin (words T))) G.read (λ x y. (x, y)) (F.bare a, drop middle (words T)) (G.bare b, drop next (words T)) f.found_is g.found_is;
  within = g.within;
  taken = omega (arith, f.taken, g.taken, length-append (F.spell a) (G.spell b));
  numbered = (f.numbered, subst (G.Numbered b) f.taken g.numbered);
}

-- ---- marks

pub behind : (T : List Token) (at next : ℕ) → next ≡ at + 1 → rest (drop at (words T)) ≡ drop next (words T)
behind T at next e = rest_drop (words T) at ∙ ap (λ (i : ℕ). drop i (words T)) (sym e)

-- the mark of a test of the code
pub mark_here : (T : List Token) (at m : ℕ) → mark (drop at (words T)) ≡ m → m < no_mark → MarkAt T at m (at + 1)
mark_here T at m e h = (refl, e, mark_inside T at m e h)

pub word_here : (T : List Token) (at k : ℕ) → keyword (drop at (words T)) ≡ k → k < no_word → WordAt T at k (at + 1)
word_here T at k e h = (refl, e, keyword_inside T at k e h)

-- nothing is read behind a mark or a word that is there
pub behind_mark_none : {A : Type 0} {F : Format A} {T : List Token} {m : ℕ} (at : ℕ) {next : ℕ} → MarkAt T at m next → FindsNone F T next → expect m F.read (drop at (words T)) ≡ None
behind_mark_none {F = F} {T = T} {m = m} at {next = next} e n = expect_here m F.read (drop at (words T)) None e.1 (ap F.read (behind T at next e.0) ∙ n.none_is)

pub read_behind : {A : Type 0} {F : Format A} (T : List Token) (at next : ℕ) → next ≡ at + 1 → FindsNone F T next → F.read (rest (drop at (words T))) ≡ None
read_behind {F = F} T at next e n = ap F.read (behind T at next e) ∙ n.none_is

pub finds_after_mark : {A : Type 0} {F : Format A} {m : ℕ} {T : List Token} {begin middle : ℕ} {a : A} {next : ℕ} → MarkAt T begin m middle → Finds F T middle a next → Finds (after_mark m F) T begin a next
finds_after_mark {F = F} {m = m} {T = T} {begin = begin} {a = a} {next = next} e f = record {
  found_is = expect_here m F.read (drop begin (words T)) (Some (F.bare a, drop next (words T))) e.1 (ap F.read (behind T _ _ e.0) ∙ f.found_is);
  within = f.within;
  taken = omega (arith, e.0, f.taken);
  numbered = subst (F.Numbered a) e.0 f.numbered;
}

pub finds_before_mark : {A : Type 0} {F : Format A} {m : ℕ} {T : List Token} {begin : ℕ} {a : A} {next after : ℕ} → Finds F T begin a next → MarkAt T next m after → Finds (before_mark F m) T begin a after
finds_before_mark {F = F} {m = m} {T = T} {begin = begin} {a = a} {next = next} {after = after} f e = record {
  found_is = chain_here (F.read (drop begin (words T))) (λ x left. expect m (λ after. Some (x, after)) left) (F.bare a, drop next (words T)) f.found_is ∙
      expect_here m (λ after. Some (F.bare a, after)) (drop next (words T)) (Some (F.bare a, drop after (words T))) e.1 (ap (λ (us : List Word). Some (F.bare a, us)) (behind T _ _ e.0));
  within = omega (arith, e.0, e.2);
  taken = omega (arith, e.0, f.taken, length-append (F.spell a) (Marked m ∷ []));
  numbered = f.numbered;
}

-- ---- reserved words

pub finds_after_word : {A : Type 0} {F : Format A} {k : ℕ} {T : List Token} {begin middle : ℕ} {a : A} {next : ℕ} → WordAt T begin k middle → Finds F T middle a next → Finds (after_word k F) T begin a next
finds_after_word {F = F} {k = k} {T = T} {begin = begin} {a = a} {next = next} e f = record {
  found_is = if_true (nat_eq (keyword (drop begin (words T))) k) (F.read (rest (drop begin (words T)))) None (Some (F.bare a, drop next (words T))) (same (keyword (drop begin (words T))) k e.1) (ap F.read (behind T _ _ e.0) ∙ f.found_is);
  within = f.within;
  taken = omega (arith, e.0, f.taken);
  numbered = subst (F.Numbered a) e.0 f.numbered;
}

pub finds_before_word : {A : Type 0} {F : Format A} {k : ℕ} {T : List Token} {begin : ℕ} {a : A} {next after : ℕ} → Finds F T begin a next → WordAt T next k after → Finds (before_word F k) T begin a after
finds_before_word {F = F} {k = k} {T = T} {begin = begin} {a = a} {next = next} {after = after} f e = record {
  found_is = chain_here (F.read (drop begin (words T))) (λ x left. cond (nat_eq (keyword left) k) (Some (x, rest left)) None) (F.bare a, drop next (words T)) f.found_is ∙
      if_true (nat_eq (keyword (drop next (words T))) k) (Some (F.bare a, rest (drop next (words T)))) None (Some (F.bare a, drop after (words T))) (same (keyword (drop next (words T))) k e.1) (ap (λ (us : List Word). Some (F.bare a, us)) (behind T _ _ e.0));
  within = omega (arith, e.0, e.2);
  taken = omega (arith, e.0, f.taken, length-append (F.spell a) (Reserved k ∷ []));
  numbered = f.numbered;
}

-- ---- no token at all

pub finds_position : {T : List Token} {at : ℕ} → at ≤ length T → Finds position T at at at
finds_position i = record { found_is = refl; within = i; taken = omega arith; numbered = refl }

pub finds_nothing : {A : Type 0} (a : A) {T : List Token} {at : ℕ} → at ≤ length T → Finds (nothing_of a) T at a at
finds_nothing a i = record { found_is = refl; within = i; taken = omega arith; numbered = tt }

-- ---- the same parts in another shape, with other words, or some of them

pub finds_shaped : {A B : Type 0} {F : Format A} (g : A → B) (h : B → A) {T : List Token} {begin : ℕ} (b : B) {next : ℕ} → Finds F T begin (h b) next → Finds (shaped F g h) T begin b next
finds_shaped {F = F} g h {T = T} {begin = begin} b {next = next} f = record {
  found_is = mapped_some g (F.read (drop begin (words T))) (F.bare (h b), drop next (words T)) f.found_is;
  within = f.within;
  taken = f.taken;
  numbered = f.numbered;
}

pub finds_respelled : {A : Type 0} {F : Format A} (spell : A → List Word) (bare : A → A) (N : A → ℕ → Type 0) {T : List Token} {begin : ℕ} {a : A} {next : ℕ} → spell a ≡ F.spell a → bare a ≡ F.bare a → N a begin → Finds F T begin a next →
    Finds (respelled F spell bare N) T begin a next
finds_respelled {F = F} spell bare N {T = T} {begin = begin} {a = a} {next = next} s b n f = record {
  found_is = f.found_is ∙ ap (λ x. Some (x, drop next (words T))) (sym b);
  within = f.within;
  taken = f.taken ∙ ap (λ (us : List Word). begin + length us) (sym s);
  numbered = n;
}

pub finds_narrowed : {A : Type 0} {F : Format A} {Before : List Word → Type 0} {T : List Token} {begin : ℕ} {a : A} {next : ℕ} → Finds F T begin a next → Finds (narrowed F Before) T begin a next
finds_narrowed f = record { found_is = f.found_is; within = f.within; taken = f.taken; numbered = f.numbered }

pub finds_guarded : {A : Type 0} {F : Format A} (t : A → Bool) {T : List Token} {begin : ℕ} {a : A} {next : ℕ} → t (F.bare a) ≡ true → Finds F T begin a next → Finds (guarded F t) T begin a next
finds_guarded {F = F} t {T = T} {begin = begin} {a = a} {next = next} e f = record {
  found_is = chain_here (F.read (drop begin (words T))) (λ x left. cond (t x) (Some (x, left)) None) (F.bare a, drop next (words T)) f.found_is ∙
      if_true (t (F.bare a)) (Some (F.bare a, drop next (words T))) None (Some (F.bare a, drop next (words T))) e refl;
  within = f.within;
  taken = f.taken;
  numbered = f.numbered;
}

-- ---- parts of another type

pub finds_imaged : {A B : Type 0} {F : Format A} (g : A → B) (spell : B → List Word) (bare : B → B) (Good : B → Type 0) (N : B → ℕ → Type 0) {T : List Token} {begin : ℕ} {a : A} (b : B) {next : ℕ} →
    b ≡ g a → spell (g a) ≡ F.spell a → bare (g a) ≡ g (F.bare a) → N (g a) begin → Finds F T begin a next → Finds (imaged F g spell bare Good N) T begin b next
finds_imaged {F = F} g spell bare Good N {T = T} {begin = begin} {a = a} b {next = next} e s r n f = rw e (record {
  found_is = mapped_some g (F.read (drop begin (words T))) (F.bare a, drop next (words T)) f.found_is ∙ ap (λ x. Some (x, drop next (words T))) (sym r);
  within = f.within;
  taken = f.taken ∙ ap (λ (us : List Word). begin + length us) (sym s);
  numbered = n;
})

-- ---- one of two forms

pub finds_left : {A : Type 0} (t : List Word → Bool) {F : Format A} (G : Format A) {T : List Token} {begin : ℕ} {a : A} {next : ℕ} → t (drop begin (words T)) ≡ true → Finds F T begin a next → Finds (choose t F G) T begin a next
finds_left t {F = F} G {T = T} {begin = begin} {a = a} {next = next} e f = record {
  found_is = if_true (t (drop begin (words T))) (F.read (drop begin (words T))) (G.read (drop begin (words T))) (Some (F.bare a, drop next (words T))) e f.found_is;
  within = f.within;
  taken = f.taken;
  numbered = f.numbered;
}

-- the second form, whose words, form without numbers and numbers are those of the first
pub finds_right : {A : Type 0} (t : List Word → Bool) (F : Format A) {G : Format A} {T : List Token} {begin : ℕ} {a : A} {next : ℕ} → t (drop begin (words T)) ≡ false → G.spell a ≡ F.spell a → G.bare a ≡ F.bare a → (G.Numbered a begin → F.Numbered a begin) →
    Finds G T begin a next → Finds (choose t F G) T begin a next
finds_right t F {G = G} {T = T} {begin = begin} {a = a} {next = next} e s b n g = record {
  found_is = if_false (t (drop begin (words T))) (F.read (drop begin (words T))) (G.read (drop begin (words T))) (Some (F.bare a, drop next (words T))) e (g.found_is ∙ ap (λ x. Some (x, drop next (words T))) b);
  within = g.within;
  taken = g.taken ∙ ap (λ (us : List Word). begin + length us) s;
  numbered = n g.numbered;
}

-- ---- a part that may stand

pub finds_absent : {A : Type 0} (F : Format A) {m : ℕ} {T : List Token} {begin : ℕ} → (mark (drop begin (words T)) ≡ m → ⊥) → begin ≤ length T → Finds (where_mark m F) T begin None begin
finds_absent F {m = m} {T = T} {begin = begin} h i = record {
  found_is = if_false (nat_eq (mark (drop begin (words T))) m) (mapped there (F.read (rest (drop begin (words T))))) (Some (None, drop begin (words T))) (Some (None, drop begin (words T))) (not_equal (mark (drop begin (words T))) m h) refl;
  within = i;
  taken = omega arith;
  numbered = tt;
}

pub finds_there : {A : Type 0} {F : Format A} {m : ℕ} {T : List Token} {begin middle : ℕ} {a : A} {next : ℕ} → MarkAt T begin m middle → Finds F T middle a next → Finds (where_mark m F) T begin (Some a) next
finds_there {F = F} {m = m} {T = T} {begin = begin} {a = a} {next = next} e f = record {
  found_is = if_true (nat_eq (mark (drop begin (words T))) m) (mapped there (F.read (rest (drop begin (words T))))) (Some (None, drop begin (words T))) (Some (Some (F.bare a), drop next (words T))) (same (mark (drop begin (words T))) m e.1)
      (mapped_some there (F.read (rest (drop begin (words T)))) (F.bare a, drop next (words T)) (ap F.read (behind T _ _ e.0) ∙ f.found_is));
  within = f.within;
  taken = omega (arith, e.0, f.taken);
  numbered = subst (F.Numbered a) e.0 f.numbered;
}

-- ---- answers to a choice

pub answers_left : {A B : Type 0} (t : List Word → Bool) (F G : Format B) (plain : A → B) (T : List Token) (from : ℕ) → t (drop from (words T)) ≡ true → (r : Result (Piece A) ParseFault) → Answers F plain T from r → Answers (choose t F G) plain T from r
answers_left t F G plain T from e (Ok p) f = finds_left t G e f
answers_left t F G plain T from e (Err x) m = passes (choose t F G) F T from from x (λ n. record { none_is = cond_first _ e n.none_is }) m

pub answers_right : {A B : Type 0} (t : List Word → Bool) (F G : Format B) (plain : A → B) (T : List Token) (from : ℕ) → t (drop from (words T)) ≡ false → ((b : B) → G.spell b ≡ F.spell b) → ((b : B) → G.bare b ≡ F.bare b) → ((b : B) (at : ℕ) → G.Numbered b at → F.Numbered b at) →
    (r : Result (Piece A) ParseFault) → Answers G plain T from r → Answers (choose t F G) plain T from r
answers_right t F G plain T from e s b n (Ok p) f = finds_right t F e (s (plain p.value)) (b (plain p.value)) (n (plain p.value) from) f
answers_right t F G plain T from e s b n (Err x) m = passes (choose t F G) G T from from x (λ n. record { none_is = cond_second _ e n.none_is }) m

-- ---- nothing is read behind a mark or a word that is there

pub expect_then : {A : Type 0} (k : List Word → Found A) (T : List Token) (at m next : ℕ) → MarkAt T at m next → k (drop next (words T)) ≡ None → expect m k (drop at (words T)) ≡ None
expect_then k T at m next e n = expect_here m k (drop at (words T)) None e.1 (ap k (behind T at next e.0) ∙ n)

pub word_then : {A : Type 0} (r : List Word → Found A) (T : List Token) (at k next : ℕ) → WordAt T at k next → r (drop next (words T)) ≡ None → cond (nat_eq (keyword (drop at (words T))) k) (r (rest (drop at (words T)))) None ≡ None
word_then r T at k next e n = cond_first None (same (keyword (drop at (words T))) k e.1) (ap r (behind T at next e.0) ∙ n)
