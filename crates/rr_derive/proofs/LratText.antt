-- the lines of a proof text, one after another
use Rattle.std.proofs.Common.{ℕ, suc, ◌≡◌, ◌≢◌, ◌∙◌, inr, ◌+◌, ◌<◌, ◌≤◌, ◌==◌, Bool, true, false, not, List, [], ◌∷◌, ◌++◌, length, refl, sym, ap, subst, arith, length-append}
use Rattle.std.specs.Prelude.{All, MatchBool, None, Option, Some}
use Rattle.std.specs.List.{AllByRecursion}
use Rattle.std.proofs.lemmas.Bool.{eqb-true}
use Rattle.std.proofs.lemmas.List.{append_assoc}
use Rattle.std.proofs.lemmas.List.Elements.{All-nil, All-push, All-weaker}
use Rattle.rr_derive.specs.Derive.{IsNoTautology, Proof, Step}
use Rattle.rr_derive.specs.Lrat.{BreaksRule, HasBothSigns, IsFirstBad, IsProofText, Keeps, Read, added, deleted, here}
use Rattle.rr_derive.specs.Reading.{GoesOn, KeptBy, MayKeep}

-- what the tests of an addition say
pub kept_of : (last vars : ℕ) (s : Step) (b : Bool) → last < s.id → AllByRecursion (λ l. l.var ≤ vars) s.clause → MatchBool b (HasBothSigns s.clause) (IsNoTautology s.clause) → MatchBool (not b) (Keeps last vars s) (BreaksRule last vars s)
kept_of last vars s true above within both = inr (inr both)
kept_of last vars s false above within none = record { above = above; within = within; no_tautology = none }

-- the lines up to the rest of a text
pub record Reached (clauses vars : ℕ) (bytes : List ℕ) (p : Proof) (last count : ℕ) (text : List ℕ) : Type 0 where
  pub first : p.first ≡ clauses + 1
  pub least : clauses ≤ last
  pub below : All (λ s. s.id ≤ last) p.lines
  pub short : count + length text ≤ length bytes
  pub goes_on : (end n : ℕ) (rest : List ℕ) (steps : List Step) → Read vars end n rest last count text steps → Read vars end n rest clauses 0 bytes (p.lines ++ steps)

pub Reached-none : (clauses vars : ℕ) (bytes : List ℕ) → Reached clauses vars bytes (record { first = clauses + 1; lines = [] }) clauses 0 bytes
Reached-none clauses vars bytes = record {
  first = refl;
  least = omega arith;
  below = All-nil (λ s. s.id ≤ clauses);
  short = omega arith;
  goes_on = λ end n rest steps r. r;
}

pub line_short : (text line rest : List ℕ) → text ≡ line ++ (10 ∷ rest) → length rest < length text
line_short text line rest e =
    let size : length (line ++ (10 ∷ rest)) ≡ length line + suc (length rest) = simp length-append refl in
    let same = ap length e in
    omega arith

module _ (clauses vars : ℕ) (bytes : List ℕ) (p q : Proof) (last now count : ℕ) (text rest : List ℕ) (h : Reached clauses vars bytes p last count text) where
  pub rest_short : (step : Option Step) → GoesOn last vars text step rest → length rest < length text
  rest_short None d = line_short text _ rest d.starts
  rest_short (Some s) a = line_short text _ rest a.0.starts

  pub may_keep : (step : Option Step) → GoesOn last vars text step rest → MayKeep p step
  may_keep None d = tt
  may_keep (Some s) a = (omega (arith, h.first, h.least, a.1.above), All-weaker (λ t. t.id ≤ last) (λ t. t.id < s.id) (λ t k. omega (arith, k, a.1.above)) p.lines h.below)

  pub Reached-more : (step : Option Step) → GoesOn last vars text step rest → KeptBy p q last step now → Reached clauses vars bytes q now (count + 1) rest
  Reached-more None d k =
      let short = line_short text _ rest d.starts in
      let same : Reached clauses vars bytes p last (count + 1) rest = record {
        first = h.first;
        least = h.least;
        below = h.below;
        short = omega (arith, short, h.short);
        goes_on = λ end n r steps t. h.goes_on end n r steps (deleted last count text rest steps d t);
      } in
      subst (λ x. Reached clauses vars bytes x now (count + 1) rest) (sym k.0) (subst (λ x. Reached clauses vars bytes p x (count + 1) rest) (sym k.1) same)
  Reached-more (Some s) a k =
      let short = line_short text _ rest a.0.starts in
      let same : Reached clauses vars bytes (record { first = p.first; lines = p.lines ++ s ∷ [] }) s.id (count + 1) rest = record {
        first = h.first;
        least = omega (arith, h.least, a.1.above);
        below = All-push (λ t. t.id ≤ s.id) p.lines s (All-weaker (λ t. t.id ≤ last) (λ t. t.id ≤ s.id) (λ t k. omega (arith, k, a.1.above)) p.lines h.below) (omega arith);
        short = omega (arith, short, h.short);
        goes_on = λ end n r steps t. subst (Read vars end n r clauses 0 bytes) (sym (append_assoc p.lines (s ∷ []) steps)) (h.goes_on end n r (s ∷ steps) (added last count text rest s steps a.0 a.1 t));
      } in
      subst (λ x. Reached clauses vars bytes x now (count + 1) rest) (sym k.0) (subst (λ x. Reached clauses vars bytes (record { first = p.first; lines = p.lines ++ s ∷ [] }) x (count + 1) rest) (sym k.1) same)

append_none : (xs : List Step) → xs ++ [] ≡ xs
append_none [] = refl
append_none (x ∷ xs) = ap (λ t. x ∷ t) (append_none xs)

module _ (clauses vars : ℕ) (bytes : List ℕ) (p : Proof) (last count : ℕ) (text : List ℕ) (h : Reached clauses vars bytes p last count text) where
  pub Reached-all : text ≡ [] → IsProofText clauses vars bytes p.lines
  Reached-all e = record {
    last = last;
    count = count;
    read = subst (Read vars last count [] clauses 0 bytes) (append_none p.lines) (h.goes_on last count [] [] (here last count text refl refl e));
  }

  pub Reached-bad : (bad : ℕ → List ℕ → Type 0) → text ≢ [] → bad last text → IsFirstBad clauses vars bytes (count + 1) bad
  Reached-bad bad more b = record {
    last = last;
    count = count;
    rest = text;
    steps = p.lines;
    read = subst (Read vars last count text clauses 0 bytes) (append_none p.lines) (h.goes_on last count text [] (here last count text refl refl refl));
    place = refl;
    more = more;
    bad_line = b;
  }

pub empty_of : (text : List ℕ) (b : Bool) → b ≡ (length text == 0) → b ≡ true → text ≡ []
empty_of text b is e = by_length text (eqb-true (length text) 0 (sym is ∙ e))
  where
    by_length : (text : List ℕ) → length text ≡ 0 → text ≡ []
    by_length [] z = refl
    by_length (b ∷ bs) z = absurd (omega (arith, z))

pub some_of : (text : List ℕ) (b : Bool) → b ≡ (length text == 0) → b ≡ false → text ≢ []
some_of text b is e none = let bad : true ≡ false = ap (λ t. length t == 0) (sym none) ∙ sym is ∙ e in cc
