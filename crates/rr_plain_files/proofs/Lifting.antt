-- The tokens of a file without macros can be changed in it.
use Rattle.std.proofs.Common.{ℕ, zero, suc, ◌≡◌, ◌+◌, ◌-◌, ◌≤◌, ◌<◌, nat_lt, List, [], ◌∷◌, ◌++◌, length, take, drop, get_or, true, false, refl, ap, ◌∙◌, sym, subst, arith}
use Rattle.std.proofs.lemmas.Bool.{lt-ltb}
use Rattle.std.proofs.lemmas.List.{get_or-drop}
use Rattle.rr_syntax.specs.declared.token.Number.{Number}
use Rattle.rr_syntax.specs.Words.{Word, Digits}
use Rattle.rr_directive.specs.declared.origin.Origin.{Origin}
use Rattle.rr_directive.specs.Expand.{Exact, Each}
use Rattle.rr_directive.specs.Places.{no_origin}
use Rattle.rr_lex.specs.Tokens.{IsClosedBy, Lexeme, Read, Stands, here as stays_here, is_closed_next, token, white}
use Rattle.rr_lex.proofs.Steps.{token_length}
use Rattle.rr_edit.specs.Lifted.{adjoin, exact_at, lifts}
use Rattle.rr_kept.specs.Kept.{place_lifts, token_at, token_lifts}
use Rattle.rr_plain_files.specs.Laws.{AreCalm, PlainTokensLift, is_calm}
use Rattle.rr_plain_files.proofs.Origins.{Gives, front_adjoins, here, last_exact, origins_are_own, past_text}
use Rattle.rr_plain_files.proofs.Tokens.{TokenGives, token_gives}
use Rattle.rr_plain_files.proofs.White.{white_gives}

-- ---- one token

record Fine (os : List Origin) (t : Lexeme) : Type 0 where
  some : 1 ≤ t.end
  last : exact_at os (t.end - 1) ≡ true
  number : (n : Number) → t.word ≡ Digits n → adjoin (take (t.end - t.start) (drop t.start os)) ≡ true

abbrev AllFine : List Origin → List Lexeme → Type 0
AllFine os [] = Unit {0}
AllFine os (t ∷ ts) = Fine os t × AllFine os ts

fine_at : (os : List Origin) (ts : List Lexeme) (k : ℕ) → AllFine os ts → k < length ts → Fine os (token_at ts k)
fine_at os [] k a l = absurd (omega arith)
fine_at os (t ∷ ts) zero a l = a.0
fine_at os (t ∷ ts) (suc k) a l = fine_at os ts k a.1 (omega arith)

last_at : (os : List Origin) (w : Word) (at b : ℕ) (text after : List ℕ) (g : TokenGives w (b ∷ text) after) → drop at os ≡ here at ((b ∷ text) ++ after) → exact_at os (at + length (b ∷ text) - 1) ≡ true
last_at os w at b text after g h =
    let n : at + length (b ∷ text) - 1 ≡ at + length text = omega arith in
    ap (exact_at os) n ∙ ap (λ (o : Origin). o.exact) (sym (get_or-drop at os (length text) no_origin))
    ∙ ap (λ (l : List Origin). (get_or l (length text) no_origin).exact) (h ∙ g.gives at)
    ∙ last_exact g.exact at b text (here (at + length (b ∷ text)) after) g.ends

adjoins_at : (os : List Origin) (at : ℕ) (text after : List ℕ) → Gives Each text after → drop at os ≡ here at (text ++ after) → adjoin (take (at + length text - at) (drop at os)) ≡ true
adjoins_at os at text after g h =
    let n : at + length text - at ≡ length text = omega arith in
    ap (λ (m : ℕ). adjoin (take m (drop at os))) n ∙ ap (λ (l : List Origin). adjoin (take (length text) l)) (h ∙ g at)
    ∙ front_adjoins at text (here (at + length text) after)

fine_token : (os : List Origin) (w : Word) (at : ℕ) (text after : List ℕ) → Stands w text after → drop at os ≡ here at (text ++ after) → Fine os (record { word = w; start = at; end = at + length text })
fine_token os w at [] after t h = absurd (omega (arith, token_length w [] after t.token))
fine_token os w at (b ∷ text) after t h =
    let g = token_gives w (b ∷ text) after t in
    record {
      some = omega arith;
      last = last_at os w at b text after g h;
      number = λ n e. adjoins_at os at (b ∷ text) after (subst (λ (x : Exact). Gives x (b ∷ text) after) (g.number n e) g.gives) h;
    }

-- ---- one behind the other

read_on : (end : ℕ) (rest : List ℕ) (at : ℕ) (bs : List ℕ) (ts : List Lexeme) → Read end rest at bs ts →
    (last : ℕ) (left : List ℕ) (us : List Lexeme) → Read last left end rest us → Read last left at bs (ts ++ us)
read_on end rest a b c (stays_here at bs e w) last left us r = subst (λ (l : List ℕ). Read last left at l us) (sym w) (subst (λ (n : ℕ). Read last left n rest us) (sym e) r)
read_on end rest a b c (white at bs text after ts w k r) last left us s = white at bs text after (ts ++ us) w k (read_on end rest (at + length text) after ts r last left us s)
read_on end rest a b c (token at bs text after w ts q k r) last left us s = token at bs text after w (ts ++ us) q k (read_on end rest (at + length text) after ts r last left us s)

module _ (file : List ℕ) (os : List Origin) (calm : AreCalm file) where
  -- an attribute that stands behind what was read
  calm_here : (at : ℕ) (seen : List Lexeme) (bs text after : List ℕ) → Read at bs 0 file seen → bs ≡ text ++ after →
      (body : List ℕ) → text ≡ 40 ∷ (42 ∷ body) → IsClosedBy 42 41 body → is_closed_next body ≡ false → is_calm body ≡ true
  calm_here at seen bs text after r w body e c n =
      let q : bs ≡ 40 ∷ (42 ∷ (body ++ after)) = w ∙ ap (λ (l : List ℕ). l ++ after) e in
      calm at seen body after (subst (λ (l : List ℕ). Read at l 0 file seen) q r) c n

  all_fine : (end : ℕ) (rest : List ℕ) (seen : List Lexeme) (at : ℕ) (bs : List ℕ) (ts : List Lexeme) → Read at bs 0 file seen → drop at os ≡ here at bs → Read end rest at bs ts → AllFine os ts
  all_fine end rest seen a b c s h (stays_here at bs e w) = tt
  all_fine end rest seen a b c s h (white at bs text after ts w k r) =
      let g = white_gives text after k (calm_here at seen bs text after s w) in
      let h2 : drop at os ≡ here at (text ++ after) = h ∙ ap (here at) w in
      let one : Read (at + length text) after at bs [] = white at bs text after [] w k (stays_here (at + length text) after refl refl) in
      all_fine end rest (seen ++ []) (at + length text) after ts (read_on at bs 0 file seen s (at + length text) after [] one) (past_text g.0 os at text after h2 g.1) r
  all_fine end rest seen a b c s h (token at bs text after w ts q k r) =
      let g = token_gives w text after k in
      let h2 : drop at os ≡ here at (text ++ after) = h ∙ ap (here at) q in
      let t : Lexeme = record { word = w; start = at; end = at + length text } in
      let one : Read (at + length text) after at bs (t ∷ []) = token at bs text after w [] q k (stays_here (at + length text) after refl refl) in
      (fine_token os w at text after k h2, all_fine end rest (seen ++ (t ∷ [])) (at + length text) after ts (read_on at bs 0 file seen s (at + length text) after (t ∷ []) one) (past_text g.exact os at text after h2 g.gives) r)

-- ---- the law

lifts_behind : (os : List Origin) (n : ℕ) → 1 ≤ n → exact_at os (n - 1) ≡ true → lifts os (record { from = n; to = n; text = [] }) ≡ true
unfolding adjoin
lifts_behind os n l h = let z : n - n ≡ 0 = omega arith in let p : nat_lt 0 n ≡ true = lt-ltb 0 n (omega (arith, l)) in rw (p, h, z) refl

lifts_whole : (os : List Origin) (from to : ℕ) → 1 ≤ to → exact_at os (to - 1) ≡ true → adjoin (take (to - from) (drop from os)) ≡ true → lifts os (record { from = from; to = to; text = [] }) ≡ true
lifts_whole os from to l h a = let p : nat_lt 0 to ≡ true = lt-ltb 0 to (omega (arith, l)) in rw (p, h, a) refl

place_behind : (os : List Origin) (ts : List Lexeme) (k : ℕ) → Fine os (token_at ts k) → place_lifts os ts (k + 1) ≡ true
place_behind os ts k f =
    let p : nat_lt 0 (k + 1) ≡ true = lt-ltb 0 (k + 1) (omega arith) in
    let n : k + 1 - 1 ≡ k = omega arith in
    let b : lifts os (record { from = (token_at ts (k + 1 - 1)).end; to = (token_at ts (k + 1 - 1)).end; text = [] }) ≡ true =
    ap (λ (j : ℕ). lifts os (record { from = (token_at ts j).end; to = (token_at ts j).end; text = [] })) n ∙ lifts_behind os (token_at ts k).end f.some f.last in
    rw (p, b) refl

number_lifts : (os : List Origin) (ts : List Lexeme) (k : ℕ) → Fine os (token_at ts k) → (n : Number) → (token_at ts k).word ≡ Digits n → token_lifts os ts k ≡ true
number_lifts os ts k f n e = lifts_whole os (token_at ts k).start (token_at ts k).end f.some f.last (f.number n e)

pub plain_tokens_lift : PlainTokensLift
plain_tokens_lift file ts origins p r e k l =
    let o = origins_are_own file origins p.units e in
    let a : AllFine origins ts = all_fine file origins p.attributes (length file) [] [] 0 file ts (stays_here 0 file refl refl) o r in
    let f = fine_at origins ts k a l in
    (place_behind origins ts k f, number_lifts origins ts k f)
