-- What a climb keeps: it always finds something at least as long, and its fuel does not matter.
use Rattle.std.proofs.Common.{◌≡◌, ℕ, zero, suc, ◌+◌, ◌≤◌, ◌<◌, List, length, refl, ap, ◌∙◌, sym, arith, Bool, true, false, cond, nat_eq, Some, None, ◌⊎◌, inl, inr, length-append}
use Rattle.std.proofs.lemmas.Bool.Decides.{Decides-eqb}
use Rattle.rr_syntax.specs.Words.{Word, mark_question, mark_colon}
use Rattle.rr_syntax.specs.Tree.{Tree, Binary, Cond}
use Rattle.rr_syntax.specs.Expressions.{depth, spell, infix_level}
use Rattle.rr_syntax.proofs.Equations.{spellings}
use Rattle.rr_parse_expr.specs.Reading.{Found, Reader, mapped, chain, mark, rest, expect, closed, goes_on, turn, climb}
use Rattle.rr_parse_expr.proofs.Facts.{goes_deep}
use Rattle.rr_parse_expr.proofs.Steps.{climb-stop, climb-turn, climb-none}

-- ---- what a result tells of the parts

pub mapped_tells : {A B : Type 0} (f : A → B) → (x : Found A) (p : B × List Word) → mapped f x ≡ Some p → (a : A × List Word) × (x ≡ Some a) × (f a.0 ≡ p.0) × (a.1 ≡ p.1)
unfolding mapped
mapped_tells f None p e = absurd cc
mapped_tells f (Some a) p e = (a, refl, cc, cc)

pub chain_tells : {A B : Type 0} → (x : Found A) (k : A → List Word → Found B) (p : B × List Word) → chain x k ≡ Some p → (a : A × List Word) × (x ≡ Some a) × (k a.0 a.1 ≡ Some p)
unfolding chain
chain_tells None k p e = absurd cc
chain_tells (Some a) k p e = (a, refl, e)

pub if_tells : {A : Type 0} → (b : Bool) (x : Found A) (p : A × List Word) → cond b x None ≡ Some p → (b ≡ true) × (x ≡ Some p)
if_tells true x p e = (refl, e)
if_tells false x p e = absurd cc

pub if_splits : {A : Type 0} → (b : Bool) (x y : Found A) (p : A × List Word) → cond b x y ≡ Some p → ((b ≡ true) × (x ≡ Some p)) ⊎ ((b ≡ false) × (y ≡ Some p))
if_splits true x y p e = inl (refl, e)
if_splits false x y p e = inr (refl, e)

pub expect_tells : {A : Type 0} (m : ℕ) (k : List Word → Found A) (ws : List Word) (p : A × List Word) → expect m k ws ≡ Some p → (mark ws ≡ m) × (k (rest ws) ≡ Some p)
unfolding expect
expect_tells m k ws p e = let h = if_tells (nat_eq (mark ws) m) (k (rest ws)) p e in ((Decides-eqb (mark ws) m).0 h.0, h.1)

-- an expression and the mark behind it
pub record ByClosed (sub : Reader) (m : ℕ) (ws : List Word) (p : Tree × List Word) : Type 0 where
  pub inner : Tree × List Word
  pub read : sub 1 ws ≡ Some inner
  pub marked : mark inner.1 ≡ m
  pub tree : inner.0 ≡ p.0
  pub left : rest inner.1 ≡ p.1

pub closed_tells : (sub : Reader) (m : ℕ) (ws : List Word) (p : Tree × List Word) → closed sub m ws ≡ Some p → ByClosed sub m ws p
unfolding closed
closed_tells sub m ws p e =
    let a = chain_tells (sub 1 ws) (λ t left. expect m (λ after. Some (t, after)) left) p e in
    let b = expect_tells m (λ after. Some (a.0.0, after)) a.0.1 p a.2 in
    record { inner = a.0; read = a.1; marked = b.0; tree = cc (b.1); left = cc (b.1) }

-- a binary operator, or the two parts of a conditional
pub record ByBinary (sub : Reader) (t : Tree) (m : ℕ) (ws : List Word) (p : Tree × List Word) : Type 0 where
  pub right : Tree × List Word
  pub other : nat_eq m mark_question ≡ false
  pub read : sub (suc (infix_level m)) ws ≡ Some right
  pub tree : Binary m t right.0 ≡ p.0
  pub left : right.1 ≡ p.1

pub record ByCond (sub : Reader) (t : Tree) (m : ℕ) (ws : List Word) (p : Tree × List Word) : Type 0 where
  pub middle : Tree × List Word
  pub last : Tree × List Word
  pub is_question : m ≡ mark_question
  pub read : closed sub mark_colon ws ≡ Some middle
  pub more : sub 1 middle.1 ≡ Some last
  pub tree : Cond t middle.0 last.0 ≡ p.0
  pub left : last.1 ≡ p.1

turn_split : (sub : Reader) (t : Tree) (m : ℕ) (ws : List Word) (p : Tree × List Word) (b : Bool) → nat_eq m mark_question ≡ b →
    cond b (chain (closed sub mark_colon ws) (λ u more. mapped (Cond t u) (sub 1 more))) (mapped (Binary m t) (sub (suc (infix_level m)) ws)) ≡ Some p →
    ByBinary sub t m ws p ⊎ ByCond sub t m ws p
turn_split sub t m ws p true q f =
    let a = chain_tells (closed sub mark_colon ws) (λ u more. mapped (Cond t u) (sub 1 more)) p f in
    let c = mapped_tells (Cond t a.0.0) (sub 1 a.0.1) p a.2 in
    inr (record { middle = a.0; last = c.0; is_question = (Decides-eqb m mark_question).0 q; read = a.1; more = c.1; tree = c.2; left = c.3 })
turn_split sub t m ws p false q f =
    let c = mapped_tells (Binary m t) (sub (suc (infix_level m)) ws) p f in
    inl (record { right = c.0; other = q; read = c.1; tree = c.2; left = c.3 })

pub turn_tells : (sub : Reader) (t : Tree) (m : ℕ) (ws : List Word) (p : Tree × List Word) → turn sub t m ws ≡ Some p → ByBinary sub t m ws p ⊎ ByCond sub t m ws p
unfolding turn
turn_tells sub t m ws p e = turn_split sub t m ws p (nat_eq m mark_question) refl e

-- a turn makes a deeper and longer tree
pub turn_deeper : (sub : Reader) (t : Tree) (m : ℕ) (ws : List Word) (p : Tree × List Word) → turn sub t m ws ≡ Some p → depth t < depth p.0
unfolding depth
turn_deeper sub t m ws p e = elim (turn_tells sub t m ws p e) [ inl b ↦ omega (arith, ap depth b.tree) | inr b ↦ omega (arith, ap depth b.tree) ]

pub turn_longer : (sub : Reader) (t : Tree) (m : ℕ) (ws : List Word) (p : Tree × List Word) → turn sub t m ws ≡ Some p → length (spell t) ≤ length (spell p.0)
turn_longer sub t m ws p e = elim (turn_tells sub t m ws p e) [
  | inl b ↦ rw (← b.tree) (simp (spellings, length-append) (omega arith))
  | inr b ↦ rw (← b.tree) (simp (spellings, length-append) (omega arith))
]

-- ---- a climb, a turn at a time

pub data Looks (sub : Reader) (limit low : ℕ) (t : Tree) (ws : List Word) : Type 0 where
  stops : goes_on limit low t (mark ws) ≡ false → Looks sub limit low t ws
  fails : goes_on limit low t (mark ws) ≡ true → turn sub t (mark ws) (rest ws) ≡ None → Looks sub limit low t ws
  turns : (p : Tree × List Word) → goes_on limit low t (mark ws) ≡ true → turn sub t (mark ws) (rest ws) ≡ Some p → Looks sub limit low t ws

look_by : (sub : Reader) (limit low : ℕ) (t : Tree) (ws : List Word) (b : Bool) (o : Found Tree) → goes_on limit low t (mark ws) ≡ b → turn sub t (mark ws) (rest ws) ≡ o → Looks sub limit low t ws
look_by sub limit low t ws false o e f = stops e
look_by sub limit low t ws true None e f = fails e f
look_by sub limit low t ws true (Some p) e f = turns p e f

pub look : (sub : Reader) (limit low : ℕ) (t : Tree) (ws : List Word) → Looks sub limit low t ws
look sub limit low t ws = look_by sub limit low t ws (goes_on limit low t (mark ws)) (turn sub t (mark ws) (rest ws)) refl refl

pub climb_any : (sub : Reader) (limit low n : ℕ) (t : Tree) (ws : List Word) → (p : Tree × List Word) × (climb sub limit low n t ws ≡ Some p) × (length (spell t) ≤ length (spell p.0))
unfolding climb
climb_any sub limit low zero t ws = ((t, ws), refl, omega arith)
climb_any sub limit low (suc n) t ws = elim (look sub limit low t ws) [
  | stops e ↦ ((t, ws), climb-stop sub limit low (suc n) t ws e, omega arith)
  | fails e f ↦ ((t, ws), climb-none sub limit low (suc n) t ws e f, omega arith)
  | turns p e f ↦
      let a = climb_any sub limit low n p.0 p.1 in
      (a.0, climb-turn sub limit low n t ws p e f ∙ a.1, omega (arith, turn_longer sub t (mark ws) (rest ws) p f, a.2))
]

-- with fuel for the depth that is left, the fuel does not matter
pub same_climb : (sub : Reader) (limit low n k : ℕ) (t : Tree) (ws : List Word) → limit ≤ n + depth t → limit ≤ k + depth t → climb sub limit low n t ws ≡ climb sub limit low k t ws
same_climb sub limit low zero k t ws a b =
    let e = goes_deep limit low t (mark ws) (omega arith) in
    climb-stop sub limit low zero t ws e ∙ sym (climb-stop sub limit low k t ws e)
same_climb sub limit low (suc n) zero t ws a b =
    let e = goes_deep limit low t (mark ws) (omega arith) in
    climb-stop sub limit low (suc n) t ws e ∙ sym (climb-stop sub limit low zero t ws e)
same_climb sub limit low (suc n) (suc k) t ws a b = elim (look sub limit low t ws) [
  | stops e ↦ climb-stop sub limit low (suc n) t ws e ∙ sym (climb-stop sub limit low (suc k) t ws e)
  | fails e f ↦ climb-none sub limit low (suc n) t ws e f ∙ sym (climb-none sub limit low (suc k) t ws e f)
  | turns p e f ↦
      let d = turn_deeper sub t (mark ws) (rest ws) p f in
      climb-turn sub limit low n t ws p e f ∙ same_climb sub limit low n k p.0 p.1 (omega arith) (omega arith) ∙ sym (climb-turn sub limit low k t ws p e f)
]
