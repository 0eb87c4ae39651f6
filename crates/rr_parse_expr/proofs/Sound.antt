-- What is read is well-formed, within the depth, without token numbers, and spelled by the words that were taken.
use Rattle.std.proofs.Common.{◌≡◌, ℕ, zero, suc, ◌≤◌, ◌<◌, List, [], ◌∷◌, ◌++◌, length, codes, refl, ap, ◌∙◌, sym, arith, Bool, true, false, cond, nat_eq, Some, None, inl, inr, subst}
use Rattle.std.specs.Str.{bytes_eq}
use Rattle.std.proofs.lemmas.Slice.Eq.{bytes_eq-Decides}
use Rattle.std.proofs.lemmas.Bool.Decides.{Decides-eqb, nat_tests}
use Rattle.rr_syntax.specs.Words.{Word, Named, System, Digits, Marked, Reserved, mark_open_parenthesis, mark_close_parenthesis, mark_open_bracket, mark_close_bracket, mark_open_brace, mark_close_brace, mark_comma, mark_colon, mark_question}
use Rattle.rr_syntax.specs.Tree.{Tree, Trees, Name, Literal, Bit, Unary, Binary, Cond, Concat, Repeat, Cast, Paren, End, More, bare, bare_parts}
use Rattle.rr_syntax.specs.Expressions.{level, depth, height, WellFormed, WellFormedMore, spell, spell_more, infix_level, is_prefix, unary_level}
use Rattle.rr_syntax.proofs.Equations.{spell-Name, spell-Literal, spell-Unary, more-End}
use Rattle.rr_parse_expr.specs.Made.{select_of}
use Rattle.rr_parse_expr.specs.Reading.{Reader, mapped, chain, or_keep, mark, rest, no_mark, expect, closed, is_between, after_index, select, named, cast_sign, cast_by, system, snoc, parts, parts_from, repeated, after_first, braces, after_mark, operand, left_level, turn, climb, reads_by, reads, nothing}
use Rattle.rr_parse_expr.proofs.Tables.{infix_below, level_one}
use Rattle.rr_parse_expr.proofs.Facts.{infix-no_mark, infix-question, goes_tells, left-binary, left-question}
use Rattle.rr_parse_expr.proofs.Selects.{is_select}
use Rattle.rr_parse_expr.proofs.Steps.{climb-stop, climb-none, climb-turn}
use Rattle.rr_parse_expr.proofs.Climbs.{mapped_tells, chain_tells, expect_tells, if_tells, if_splits, closed_tells, turn_tells, stops, fails, turns, look}
use Rattle.rr_parse_expr.proofs.Complete.{words-Binary, words-Cond, words-Paren, words-Cast, words-Bit, words-Select, words-Concat, words-Repeat, words-More, appended, appended-snoc, appended-End}

-- the tree t stands before the words left, at this level and within this depth
pub record Fits (limit low : ℕ) (ws : List Word) (t : Tree) (left : List Word) : Type 0 where
  pub well : WellFormed t
  pub high : low ≤ level t
  pub deep : depth t ≤ limit
  pub bared : bare t ≡ t
  pub spelled : ws ≡ spell t ++ left

-- what the readers of operands keep
abbrev Sound : Reader → ℕ → Type 0
Sound sub limit = (low : ℕ) (ws : List Word) (p : Tree × List Word) → 1 ≤ low → low ≤ unary_level → sub low ws ≡ Some p → (depth p.0 < limit) × Fits limit low ws p.0 p.1

-- a mark at the front
marked : (m : ℕ) (ws : List Word) → mark ws ≡ m → m < no_mark → ws ≡ Marked m ∷ rest ws
unfolding mark rest
marked m [] e h = absurd (omega arith)
marked m (Named s ∷ ws) e h = absurd (omega arith)
marked m (System s ∷ ws) e h = absurd (omega arith)
marked m (Digits s ∷ ws) e h = absurd (omega arith)
marked m (Reserved s ∷ ws) e h = absurd (omega arith)
marked m (Marked k ∷ ws) e h = ap (λ (x : ℕ). Marked x ∷ ws) e

-- an expression with a mark behind it
record ClosedFits (limit m : ℕ) (ws : List Word) (t : Tree) (left : List Word) : Type 0 where
  well : WellFormed t
  deeper : depth t < limit
  bared : bare t ≡ t
  spelled : ws ≡ spell t ++ (Marked m ∷ left)

closed_sound : (sub : Reader) (limit : ℕ) → Sound sub limit → (m : ℕ) → m < no_mark → (ws : List Word) (p : Tree × List Word) → closed sub m ws ≡ Some p → ClosedFits limit m ws p.0 p.1
closed_sound sub limit s m h ws p e =
    let b = closed_tells sub m ws p e in
    let f = s 1 ws b.inner (omega arith) (omega arith) b.read in
    record {
      well = let P : Tree → Type 0 = λ (x : Tree). WellFormed x in subst P b.tree f.1.well;
      deeper = omega (arith, f.0, ap depth b.tree);
      bared = ap bare (sym b.tree) ∙ f.1.bared ∙ b.tree;
      spelled = f.1.spelled ∙ ap (λ (x : List Word). spell b.inner.0 ++ x) (marked m b.inner.1 b.marked h) ∙ ap (λ (x : Tree). spell x ++ (Marked m ∷ rest b.inner.1)) b.tree ∙ ap (λ (x : List Word). spell p.0 ++ (Marked m ∷ x)) b.left;
    }

record PartsFit (limit : ℕ) (have : Trees) (ws : List Word) (p : Trees × List Word) : Type 0 where
  new : Trees
  all : p.0 ≡ appended have new
  well : WellFormedMore new
  low : height new ≤ limit
  bared : bare_parts new ≡ new
  spelled : ws ≡ spell_more new ++ (Marked mark_close_brace ∷ p.1)

parts_sound : (sub : Reader) (limit : ℕ) → Sound sub limit → (fuel : ℕ) (have : Trees) (ws : List Word) (p : Trees × List Word) → parts sub fuel have ws ≡ Some p → PartsFit limit have ws p
unfolding parts WellFormed height bare
parts_sound sub limit s zero have ws p e = absurd cc
parts_sound sub limit s (suc n) have ws p e = elim (if_splits (nat_eq (mark ws) mark_close_brace) (Some (have, rest ws)) (cond (nat_eq (mark ws) mark_comma) (chain (sub 1 (rest ws)) (λ t left. parts sub n (snoc have t) left)) None) p e) [
  | inl h ↦
      let q : (have, rest ws) ≡ p = cc (h.1) in
      record {
        new = End;
        all = ap (λ (x : Trees × List Word). x.0) (sym q) ∙ sym (appended-End have);
        well = tt;
        low = omega arith;
        bared = refl;
        spelled = marked mark_close_brace ws ((Decides-eqb (mark ws) mark_close_brace).0 h.0) (omega arith) ∙ ap (λ (x : Trees × List Word). Marked mark_close_brace ∷ x.1) q ∙ rw more-End refl;
      }
  | inr h ↦
      let g = if_tells (nat_eq (mark ws) mark_comma) (chain (sub 1 (rest ws)) (λ t left. parts sub n (snoc have t) left)) p h.1 in
      let a = chain_tells (sub 1 (rest ws)) (λ t left. parts sub n (snoc have t) left) p g.1 in
      let f = s 1 (rest ws) a.0 (omega arith) (omega arith) a.1 in
      let r = parts_sound sub limit s n (snoc have a.0.0) a.0.1 p a.2 in
      record {
        new = More a.0.0 r.new;
        all = r.all ∙ appended-snoc have a.0.0 r.new;
        well = (f.1.well, r.well);
        low = omega (arith, f.0, r.low);
        bared = ap (λ (x : Tree). More x (bare_parts r.new)) f.1.bared ∙ ap (More a.0.0) r.bared;
        spelled = marked mark_comma ws ((Decides-eqb (mark ws) mark_comma).0 g.0) (omega arith) ∙ ap (λ (x : List Word). Marked mark_comma ∷ x) (f.1.spelled ∙ ap (λ (x : List Word). spell a.0.0 ++ x) r.spelled) ∙ sym (words-More a.0.0 r.new (Marked mark_close_brace ∷ p.1));
      }
]

moved : (limit low : ℕ) (ws : List Word) (t : Tree) (left : List Word) (p : Tree × List Word) → t ≡ p.0 → left ≡ p.1 → Fits limit low ws t left → Fits limit low ws p.0 p.1
moved limit low ws t left p e f h = record {
  well = let P : Tree → Type 0 = λ (x : Tree). WellFormed x in subst P e h.well;
  high = omega (arith, ap level e, h.high);
  deep = omega (arith, ap depth e, h.deep);
  bared = ap bare (sym e) ∙ h.bared ∙ e;
  spelled = h.spelled ∙ ap (λ (x : Tree). spell x ++ left) e ∙ ap (λ (x : List Word). spell p.0 ++ x) f;
}

at_pair : (limit low : ℕ) (ws : List Word) (t : Tree) (left : List Word) (p : Tree × List Word) → Some (t, left) ≡ Some p → Fits limit low ws t left → Fits limit low ws p.0 p.1
at_pair limit low ws t left p e h =
    let q : (t, left) ≡ p = cc in
    moved limit low ws t left p (ap (λ (x : Tree × List Word). x.0) q) (ap (λ (x : Tree × List Word). x.1) q) h

-- ---- selects and names

index_sound : (sub : Reader) (limit : ℕ) → Sound sub limit → (s : List ℕ) (t : Tree) (m : ℕ) (ws : List Word) (p : Tree × List Word) → m < no_mark → WellFormed t → depth t < limit → bare t ≡ t → after_index sub s t m ws ≡ Some p →
    Fits limit unary_level (Named s ∷ (Marked mark_open_bracket ∷ (spell t ++ (Marked m ∷ ws)))) p.0 p.1
unfolding after_index WellFormed level depth bare
index_sound sub limit s n t m ws p r w d b e = elim (if_splits (nat_eq m mark_close_bracket) (Some (Bit 0 n t, ws)) (cond (is_between m) (mapped (select_of 0 n m t) (closed sub mark_close_bracket ws)) None) p e) [
  | inl h ↦
      let f : m ≡ mark_close_bracket = (Decides-eqb m mark_close_bracket).0 h.0 in
      at_pair limit unary_level (Named n ∷ (Marked mark_open_bracket ∷ (spell t ++ (Marked m ∷ ws)))) (Bit 0 n t) ws p h.1 (record {
        well = w;
        high = omega arith;
        deep = omega arith;
        bared = ap (Bit 0 n) b;
        spelled = ap (λ (x : ℕ). Named n ∷ (Marked mark_open_bracket ∷ (spell t ++ (Marked x ∷ ws)))) f ∙ sym (words-Bit 0 n t ws);
      })
  | inr h ↦
      let g = if_tells (is_between m) (mapped (select_of 0 n m t) (closed sub mark_close_bracket ws)) p h.1 in
      let c = mapped_tells (select_of 0 n m t) (closed sub mark_close_bracket ws) p g.1 in
      let f = closed_sound sub limit s mark_close_bracket (omega arith) ws c.0 c.1 in
      let k = is_select 0 n m t c.0.0 g.0 in
      moved limit unary_level (Named n ∷ (Marked mark_open_bracket ∷ (spell t ++ (Marked m ∷ ws)))) (select_of 0 n m t c.0.0) c.0.1 p c.2 c.3 (record {
        well = k.well w f.well;
        high = omega (arith, k.high);
        deep = omega (arith, k.deep, f.deeper);
        bared = k.bared ∙ ap (λ (x : Tree). select_of 0 n m x (bare c.0.0)) b ∙ ap (select_of 0 n m t) f.bared;
        spelled = ap (λ (x : List Word). Named n ∷ (Marked mark_open_bracket ∷ (spell t ++ (Marked m ∷ x)))) f.spelled ∙ sym (words-Select 0 n m t c.0.0 (select_of 0 n m t c.0.0) c.0.1 k);
      })
]

between_less : (m : ℕ) → is_between m ≡ true → m < no_mark
unfolding is_between
between_less m e = grind (arith, nat_tests)

-- a select goes on only at a mark
index_mark : (sub : Reader) (s : List ℕ) (t : Tree) (ws us : List Word) (p : Tree × List Word) → after_index sub s t (mark ws) us ≡ Some p → mark ws < no_mark
unfolding after_index is_between mark
index_mark sub s t [] us p e = absurd cc
index_mark sub s t (Named n ∷ ws) us p e = absurd cc
index_mark sub s t (System n ∷ ws) us p e = absurd cc
index_mark sub s t (Digits n ∷ ws) us p e = absurd cc
index_mark sub s t (Reserved n ∷ ws) us p e = absurd cc
index_mark sub s t (Marked m ∷ ws) us p e = elim (nat_eq m mark_close_bracket) as (λ b. nat_eq m mark_close_bracket ≡ b → cond b (Some (Bit 0 s t, us)) (cond (is_between m) (mapped (select_of 0 s m t) (closed sub mark_close_bracket us)) None) ≡ Some p → m < no_mark) [
  | true ↦ λ f g. grind (arith, nat_tests)
  | false ↦ λ f g. let h = if_tells (is_between m) (mapped (select_of 0 s m t) (closed sub mark_close_bracket us)) p g in between_less m h.0
] refl e

select_sound : (sub : Reader) (limit : ℕ) → Sound sub limit → (s : List ℕ) (ws : List Word) (p : Tree × List Word) → select sub s ws ≡ Some p → Fits limit unary_level (Named s ∷ ws) p.0 p.1
unfolding select
select_sound sub limit s n ws p e =
    let a = expect_tells mark_open_bracket (λ us. chain (sub 1 us) (λ t left. after_index sub n t (mark left) (rest left))) ws p e in
    let b = chain_tells (sub 1 (rest ws)) (λ t left. after_index sub n t (mark left) (rest left)) p a.1 in
    let f = s 1 (rest ws) b.0 (omega arith) (omega arith) b.1 in
    let l = index_mark sub n b.0.0 b.0.1 (rest b.0.1) p b.2 in
    let g = index_sound sub limit s n b.0.0 (mark b.0.1) (rest b.0.1) p l f.1.well f.0 f.1.bared b.2 in
    record {
      well = g.well;
      high = g.high;
      deep = g.deep;
      bared = g.bared;
      spelled = ap (λ (x : List Word). Named n ∷ x) (marked mark_open_bracket ws a.0 (omega arith) ∙ ap (λ (x : List Word). Marked mark_open_bracket ∷ x) (f.1.spelled ∙ ap (λ (x : List Word). spell b.0.0 ++ x) (marked (mark b.0.1) b.0.1 refl l))) ∙ g.spelled;
    }

named_sound : (sub : Reader) (limit : ℕ) → Sound sub limit → (s : List ℕ) (ws : List Word) (p : Tree × List Word) → named sub s ws ≡ Some p → Fits limit unary_level (Named s ∷ ws) p.0 p.1
unfolding named or_keep WellFormed level depth bare
named_sound sub limit s n ws p e = elim (select sub n ws) as (λ o. select sub n ws ≡ o → or_keep o (Some (Name 0 n, ws)) (λ t left. Some (t, left)) ≡ Some p → Fits limit unary_level (Named n ∷ ws) p.0 p.1) [
  | None ↦ λ f g. at_pair limit unary_level (Named n ∷ ws) (Name 0 n) ws p g (record { well = tt; high = omega arith; deep = omega arith; bared = refl; spelled = rw spell-Name refl })
  | Some q ↦ λ f g. at_pair limit unary_level (Named n ∷ ws) q.0 q.1 p g (select_sound sub limit s n ws q f)
] refl e

-- ---- casts

sign_tells : (s : List ℕ) (signed : Bool) → cast_sign s ≡ Some signed → s ≡ cond signed (codes "signed") (codes "unsigned")
unfolding cast_sign
sign_tells s signed e = elim (bytes_eq s (codes "signed")) as (λ b. bytes_eq s (codes "signed") ≡ b → cond b (Some true) (cond (bytes_eq s (codes "unsigned")) (Some false) None) ≡ Some signed → s ≡ cond signed (codes "signed") (codes "unsigned")) [
  | true ↦ λ f g. let h : true ≡ signed = cc (g) in (bytes_eq-Decides s (codes "signed")).0 f ∙ ap (λ (b : Bool). cond b (codes "signed") (codes "unsigned")) h
  | false ↦ λ f g. elim (bytes_eq s (codes "unsigned")) as (λ b. bytes_eq s (codes "unsigned") ≡ b → cond b (Some false) None ≡ Some signed → s ≡ cond signed (codes "signed") (codes "unsigned")) [
    | true ↦ λ k l. let h : false ≡ signed = cc (l) in (bytes_eq-Decides s (codes "unsigned")).0 k ∙ ap (λ (b : Bool). cond b (codes "signed") (codes "unsigned")) h
    | false ↦ λ k l. absurd (cc (l))
  ] refl g
] refl e

cast_sound : (sub : Reader) (limit : ℕ) → Sound sub limit → (s : List ℕ) (signed : Bool) (ws : List Word) (p : Tree × List Word) → s ≡ cond signed (codes "signed") (codes "unsigned") → cast_by sub (Some signed) ws ≡ Some p → Fits limit unary_level (System s ∷ ws) p.0 p.1
unfolding cast_by WellFormed level depth bare
cast_sound sub limit s n signed ws p h e =
    let a = expect_tells mark_open_parenthesis (λ us. mapped (Cast signed) (closed sub mark_close_parenthesis us)) ws p e in
    let c = mapped_tells (Cast signed) (closed sub mark_close_parenthesis (rest ws)) p a.1 in
    let f = closed_sound sub limit s mark_close_parenthesis (omega arith) (rest ws) c.0 c.1 in
    moved limit unary_level (System n ∷ ws) (Cast signed c.0.0) c.0.1 p c.2 c.3 (record {
      well = f.well;
      high = omega arith;
      deep = omega (arith, f.deeper);
      bared = ap (Cast signed) f.bared;
      spelled = ap (λ (x : List ℕ). System x ∷ ws) h ∙ ap (λ (x : List Word). System (cond signed (codes "signed") (codes "unsigned")) ∷ x) (marked mark_open_parenthesis ws a.0 (omega arith) ∙ ap (λ (x : List Word). Marked mark_open_parenthesis ∷ x) f.spelled) ∙ sym (words-Cast signed c.0.0 c.0.1);
    })

no_cast : (sub : Reader) (ws : List Word) (p : Tree × List Word) → cast_by sub None ws ≡ Some p → ⊥
unfolding cast_by
no_cast sub ws p e = cc

system_sound : (sub : Reader) (limit : ℕ) → Sound sub limit → (s : List ℕ) (ws : List Word) (p : Tree × List Word) → system sub s ws ≡ Some p → Fits limit unary_level (System s ∷ ws) p.0 p.1
unfolding system
system_sound sub limit s n ws p e = elim (cast_sign n) as (λ o. cast_sign n ≡ o → cast_by sub o ws ≡ Some p → Fits limit unary_level (System n ∷ ws) p.0 p.1) [
  | None ↦ λ f g. absurd (no_cast sub ws p g)
  | Some signed ↦ λ f g. cast_sound sub limit s n signed ws p (sign_tells n signed f) g
] refl e

-- ---- braces

concat_sound : (sub : Reader) (limit : ℕ) → Sound sub limit → (t : Tree) (ws : List Word) (p : Tree × List Word) → WellFormed t → depth t < limit → bare t ≡ t → mapped Concat (parts_from sub t ws) ≡ Some p →
    Fits limit unary_level (Marked mark_open_brace ∷ (spell t ++ ws)) p.0 p.1
unfolding WellFormed level depth parts_from appended bare
concat_sound sub limit s t ws p w d b e =
    let c = mapped_tells Concat (parts sub (suc (length ws)) (More t End) ws) p e in
    let r = parts_sound sub limit s (suc (length ws)) (More t End) ws c.0 c.1 in
    moved limit unary_level (Marked mark_open_brace ∷ (spell t ++ ws)) (Concat (More t r.new)) c.0.1 p (ap Concat (sym r.all) ∙ c.2) c.3 (record {
      well = (w, r.well);
      high = omega arith;
      deep = omega (arith, r.low);
      bared = ap (λ (x : Tree). Concat (More x (bare_parts r.new))) b ∙ ap (λ (x : Trees). Concat (More t x)) r.bared;
      spelled = ap (λ (x : List Word). Marked mark_open_brace ∷ (spell t ++ x)) r.spelled ∙ sym (words-Concat t r.new c.0.1);
    })

repeat_sound : (sub : Reader) (limit : ℕ) → Sound sub limit → (t : Tree) (ws : List Word) (p : Tree × List Word) → WellFormed t → depth t < limit → bare t ≡ t → repeated sub t ws ≡ Some p →
    Fits limit unary_level (Marked mark_open_brace ∷ (spell t ++ (Marked mark_open_brace ∷ ws))) p.0 p.1
unfolding repeated WellFormed level depth parts_from appended bare
repeat_sound sub limit s t ws p w d b e =
    let a = chain_tells (sub 1 ws) (λ u left. chain (parts_from sub u left) (λ us after. expect mark_close_brace (λ more. Some (Repeat t us, more)) after)) p e in
    let f = s 1 ws a.0 (omega arith) (omega arith) a.1 in
    let c = chain_tells (parts sub (suc (length a.0.1)) (More a.0.0 End) a.0.1) (λ us after. expect mark_close_brace (λ more. Some (Repeat t us, more)) after) p a.2 in
    let r = parts_sound sub limit s (suc (length a.0.1)) (More a.0.0 End) a.0.1 c.0 c.1 in
    let k = expect_tells mark_close_brace (λ more. Some (Repeat t c.0.0, more)) c.0.1 p c.2 in
    let same : Repeat t (More a.0.0 r.new) ≡ Repeat t c.0.0 = ap (Repeat t) (sym r.all) in
    at_pair limit unary_level (Marked mark_open_brace ∷ (spell t ++ (Marked mark_open_brace ∷ ws))) (Repeat t (More a.0.0 r.new)) (rest c.0.1) p (ap (λ (x : Tree). Some (x, rest c.0.1)) same ∙ k.1) (record {
      well = (w, (f.1.well, r.well));
      high = omega arith;
      deep = omega (arith, f.0, r.low);
      bared = ap (λ (x : Tree). Repeat x (More (bare a.0.0) (bare_parts r.new))) b ∙ ap (λ (x : Tree). Repeat t (More x (bare_parts r.new))) f.1.bared ∙ ap (λ (x : Trees). Repeat t (More a.0.0 x)) r.bared;
      spelled = ap (λ (x : List Word). Marked mark_open_brace ∷ (spell t ++ (Marked mark_open_brace ∷ x))) (f.1.spelled ∙ ap (λ (x : List Word). spell a.0.0 ++ x) (r.spelled ∙ ap (λ (x : List Word). spell_more r.new ++ (Marked mark_close_brace ∷ x)) (marked mark_close_brace c.0.1 k.0 (omega arith)))) ∙ sym (words-Repeat t a.0.0 r.new (rest c.0.1));
    })

braces_sound : (sub : Reader) (limit : ℕ) → Sound sub limit → (ws : List Word) (p : Tree × List Word) → braces sub ws ≡ Some p → Fits limit unary_level (Marked mark_open_brace ∷ ws) p.0 p.1
unfolding braces after_first
braces_sound sub limit s ws p e =
    let a = chain_tells (sub 1 ws) (λ t left. after_first sub t left) p e in
    let f = s 1 ws a.0 (omega arith) (omega arith) a.1 in
    elim (if_splits (nat_eq (mark a.0.1) mark_open_brace) (repeated sub a.0.0 (rest a.0.1)) (mapped Concat (parts_from sub a.0.0 a.0.1)) p a.2) [
      | inl h ↦
          let g = repeat_sound sub limit s a.0.0 (rest a.0.1) p f.1.well f.0 f.1.bared h.1 in
          record {
            well = g.well;
            high = g.high;
            deep = g.deep;
            bared = g.bared;
            spelled = ap (λ (x : List Word). Marked mark_open_brace ∷ x) (f.1.spelled ∙ ap (λ (x : List Word). spell a.0.0 ++ x) (marked mark_open_brace a.0.1 ((Decides-eqb (mark a.0.1) mark_open_brace).0 h.0) (omega arith))) ∙ g.spelled;
          }
      | inr h ↦
          let g = concat_sound sub limit s a.0.0 a.0.1 p f.1.well f.0 f.1.bared h.1 in
          record {
            well = g.well;
            high = g.high;
            deep = g.deep;
            bared = g.bared;
            spelled = ap (λ (x : List Word). Marked mark_open_brace ∷ x) f.1.spelled ∙ g.spelled;
          }
    ]

after_mark_sound : (sub : Reader) (limit : ℕ) → Sound sub limit → (m : ℕ) (ws : List Word) (p : Tree × List Word) → after_mark sub m ws ≡ Some p → Fits limit unary_level (Marked m ∷ ws) p.0 p.1
unfolding after_mark WellFormed level depth bare
after_mark_sound sub limit s m ws p e = elim (if_splits (is_prefix m) (mapped (Unary m) (sub unary_level ws)) (cond (nat_eq m mark_open_parenthesis) (mapped Paren (closed sub mark_close_parenthesis ws)) (cond (nat_eq m mark_open_brace) (braces sub ws) None)) p e) [
  | inl h ↦
      let c = mapped_tells (Unary m) (sub unary_level ws) p h.1 in
      let f = s unary_level ws c.0 (omega arith) (omega arith) c.1 in
      moved limit unary_level (Marked m ∷ ws) (Unary m c.0.0) c.0.1 p c.2 c.3 (record {
        well = (h.0, f.1.well, f.1.high);
        high = omega arith;
        deep = omega (arith, f.0);
        bared = ap (Unary m) f.1.bared;
        spelled = ap (λ (x : List Word). Marked m ∷ x) f.1.spelled ∙ rw spell-Unary refl;
      })
  | inr h ↦ elim (if_splits (nat_eq m mark_open_parenthesis) (mapped Paren (closed sub mark_close_parenthesis ws)) (cond (nat_eq m mark_open_brace) (braces sub ws) None) p h.1) [
    | inl g ↦
        let c = mapped_tells Paren (closed sub mark_close_parenthesis ws) p g.1 in
        let f = closed_sound sub limit s mark_close_parenthesis (omega arith) ws c.0 c.1 in
        moved limit unary_level (Marked m ∷ ws) (Paren c.0.0) c.0.1 p c.2 c.3 (record {
          well = f.well;
          high = omega arith;
          deep = omega (arith, f.deeper);
          bared = ap Paren f.bared;
          spelled = ap (λ (x : ℕ). Marked x ∷ ws) ((Decides-eqb m mark_open_parenthesis).0 g.0) ∙ ap (λ (x : List Word). Marked mark_open_parenthesis ∷ x) f.spelled ∙ sym (words-Paren c.0.0 c.0.1);
        })
    | inr g ↦
        let k = if_tells (nat_eq m mark_open_brace) (braces sub ws) p g.1 in
        let f = braces_sound sub limit s ws p k.1 in
        record {
          well = f.well;
          high = f.high;
          deep = f.deep;
          bared = f.bared;
          spelled = ap (λ (x : ℕ). Marked x ∷ ws) ((Decides-eqb m mark_open_brace).0 k.0) ∙ f.spelled;
        }
  ]
]

operand_sound : (sub : Reader) (limit : ℕ) → Sound sub limit → (ws : List Word) (p : Tree × List Word) → operand sub ws ≡ Some p → Fits limit unary_level ws p.0 p.1
unfolding operand WellFormed level depth bare
operand_sound sub limit s [] p e = absurd cc
operand_sound sub limit s (Named n ∷ ws) p e = named_sound sub limit s n ws p e
operand_sound sub limit s (System n ∷ ws) p e = system_sound sub limit s n ws p e
operand_sound sub limit s (Digits n ∷ ws) p e = at_pair limit unary_level (Digits n ∷ ws) (Literal 0 n) ws p e (record { well = tt; high = omega arith; deep = omega arith; bared = refl; spelled = rw spell-Literal refl })
operand_sound sub limit s (Reserved n ∷ ws) p e = absurd cc
operand_sound sub limit s (Marked m ∷ ws) p e = after_mark_sound sub limit s m ws p e

-- ---- operators

other : (m : ℕ) → nat_eq m mark_question ≡ false → m ≡ mark_question → ⊥
other m e h = grind (arith, nat_tests)

apart : (n : ℕ) → nat_eq n 1 ≡ false → 1 ≤ n → 1 < n
apart n e h = grind (arith, nat_tests)

-- an operator that goes on is a mark of the words
operator : (low : ℕ) (ws : List Word) → 1 ≤ low → low ≤ infix_level (mark ws) → ws ≡ Marked (mark ws) ∷ rest ws
unfolding mark rest
operator low [] a b = absurd (omega (arith, infix-no_mark))
operator low (Named s ∷ ws) a b = absurd (omega (arith, infix-no_mark))
operator low (System s ∷ ws) a b = absurd (omega (arith, infix-no_mark))
operator low (Digits s ∷ ws) a b = absurd (omega (arith, infix-no_mark))
operator low (Reserved s ∷ ws) a b = absurd (omega (arith, infix-no_mark))
operator low (Marked m ∷ ws) a b = refl

above_one : (m : ℕ) → nat_eq m mark_question ≡ false → 1 ≤ infix_level m → 1 < infix_level m
above_one m e h = elim (nat_eq (infix_level m) 1) as (λ b. nat_eq (infix_level m) 1 ≡ b → 1 < infix_level m) [
  | true ↦ λ f. absurd (other m e (level_one m ((Decides-eqb (infix_level m) 1).0 f)))
  | false ↦ λ f. apart (infix_level m) f h
] refl

turn_sound : (sub : Reader) (limit low : ℕ) → Sound sub limit → 1 ≤ low → (t : Tree) (m : ℕ) (ws : List Word) (p : Tree × List Word) → WellFormed t → bare t ≡ t → low ≤ infix_level m → left_level m ≤ level t → depth t < limit →
    turn sub t m ws ≡ Some p → Fits limit low (spell t ++ (Marked m ∷ ws)) p.0 p.1
unfolding WellFormed level depth bare
turn_sound sub limit low s a t m ws p w v h l d e = elim (turn_tells sub t m ws p e) [
  | inl b ↦
      let pos : 1 < infix_level m = above_one m b.other (omega (arith, h)) in
      let f = s (suc (infix_level m)) ws b.right (omega arith) (omega (arith, infix_below m)) b.read in
      moved limit low (spell t ++ (Marked m ∷ ws)) (Binary m t b.right.0) b.right.1 p b.tree b.left (record {
        well = (pos, w, f.1.well, omega (arith, left-binary m pos, l), f.1.high);
        high = h;
        deep = omega (arith, f.0, d);
        bared = ap (λ (x : Tree). Binary m x (bare b.right.0)) v ∙ ap (Binary m t) f.1.bared;
        spelled = ap (λ (x : List Word). spell t ++ (Marked m ∷ x)) f.1.spelled ∙ sym (words-Binary m t b.right.0 b.right.1);
      })
  | inr b ↦
      let f = closed_sound sub limit s mark_colon (omega arith) ws b.middle b.read in
      let g = s 1 b.middle.1 b.last (omega arith) (omega arith) b.more in
      moved limit low (spell t ++ (Marked m ∷ ws)) (Cond t b.middle.0 b.last.0) b.last.1 p b.tree b.left (record {
        well = (w, f.well, g.1.well, omega (arith, ap left_level b.is_question, left-question, l));
        high = omega (arith, ap infix_level b.is_question, infix-question, h);
        deep = omega (arith, f.deeper, g.0, d);
        bared = ap (λ (x : Tree). Cond x (bare b.middle.0) (bare b.last.0)) v ∙ ap (λ (x : Tree). Cond t x (bare b.last.0)) f.bared ∙ ap (Cond t b.middle.0) g.1.bared;
        spelled = ap (λ (x : ℕ). spell t ++ (Marked x ∷ ws)) b.is_question ∙ ap (λ (x : List Word). spell t ++ (Marked mark_question ∷ x)) (f.spelled ∙ ap (λ (x : List Word). spell b.middle.0 ++ (Marked mark_colon ∷ x)) g.1.spelled) ∙ sym (words-Cond t b.middle.0 b.last.0 b.last.1);
      })
]

climb_sound : (sub : Reader) (limit low : ℕ) → Sound sub limit → 1 ≤ low → (n : ℕ) (t : Tree) (ws : List Word) (p : Tree × List Word) → WellFormed t → bare t ≡ t → low ≤ level t → depth t ≤ limit →
    climb sub limit low n t ws ≡ Some p → Fits limit low (spell t ++ ws) p.0 p.1
unfolding climb
climb_sound sub limit low s a zero t ws p w v h d e = at_pair limit low (spell t ++ ws) t ws p e (record { well = w; high = h; deep = d; bared = v; spelled = refl })
climb_sound sub limit low s a (suc n) t ws p w v h d e = elim (look sub limit low t ws) [
  | stops g ↦ at_pair limit low (spell t ++ ws) t ws p (sym (climb-stop sub limit low (suc n) t ws g) ∙ e) (record { well = w; high = h; deep = d; bared = v; spelled = refl })
  | fails g f ↦ at_pair limit low (spell t ++ ws) t ws p (sym (climb-none sub limit low (suc n) t ws g f) ∙ e) (record { well = w; high = h; deep = d; bared = v; spelled = refl })
  | turns q g f ↦
      let told = goes_tells limit low t (mark ws) g in
      let r = turn_sound sub limit low s a t (mark ws) (rest ws) q w v told.0 told.1 told.2 f in
      let k = climb_sound sub limit low s a n q.0 q.1 p r.well r.bared r.high r.deep (sym (climb-turn sub limit low n t ws q g f) ∙ e) in
      record {
        well = k.well;
        high = k.high;
        deep = k.deep;
        bared = k.bared;
        spelled = ap (λ (x : List Word). spell t ++ x) (operator low ws a told.0) ∙ r.spelled ∙ k.spelled;
      }
]

reads_by_sound : (sub : Reader) (limit low : ℕ) → Sound sub limit → 1 ≤ low → low ≤ unary_level → (ws : List Word) (p : Tree × List Word) → reads_by sub limit low ws ≡ Some p → Fits limit low ws p.0 p.1
unfolding reads_by
reads_by_sound sub limit low s a b ws p e =
    let c = chain_tells (operand sub ws) (λ t left. climb sub limit low limit t left) p e in
    let f = operand_sound sub limit s ws c.0 c.1 in
    let g = climb_sound sub limit low s a limit c.0.0 c.0.1 p f.well f.bared (omega (arith, f.high)) f.deep c.2 in
    record { well = g.well; high = g.high; deep = g.deep; bared = g.bared; spelled = f.spelled ∙ g.spelled }

deeper : (k low : ℕ) (ws : List Word) (q : Tree × List Word) → Fits k low ws q.0 q.1 → (depth q.0 < suc k) × Fits (suc k) low ws q.0 q.1
deeper k low ws q h = (omega (arith, h.deep), record { well = h.well; high = h.high; deep = omega (arith, h.deep); bared = h.bared; spelled = h.spelled })

pub reads_sound : (limit low : ℕ) → 1 ≤ low → low ≤ unary_level → (ws : List Word) (p : Tree × List Word) → reads limit low ws ≡ Some p → Fits limit low ws p.0 p.1
unfolding reads
reads_sound zero low a b ws p e = reads_by_sound nothing zero low (λ l us q c d f. absurd cc) a b ws p e
reads_sound (suc k) low a b ws p e = reads_by_sound (reads k) (suc k) low (λ l us q c d f. deeper k l us q (reads_sound k l c d us q f)) a b ws p e
