-- Lists of newly assigned bits.
use Rattle.std.proofs.Common.{◌≡◌, ◌∙◌, sym, ap, ℕ, ◌≤◌, Bool, true, false, cond, not, ◌&&◌, ◌||◌, List, [], ◌∷◌, ◌++◌, length, take, drop, nat_eq, refl, arith, append_assoc, append-nil, length-append}
use Rattle.std.proofs.lemmas.List.{drop_at}
use Rattle.rr_expr.specs.declared.types.Bit.{Bit}
use Rattle.rr_flat.specs.Targets.{same_bit}
use Rattle.rr_latch.specs.Paths.{assigned, listed, Logged}
use Rattle.rr_writers.specs.Tables.{entry}
use Rattle.rr_writers.proofs.Entries.{or_assoc, same_is}

pub or_true : (a : Bool) → (a || true) ≡ true
or_true true = refl
or_true false = refl

pub and_true : (a : Bool) → (a && true) ≡ a
and_true true = refl
and_true false = refl

pub and_false : (a : Bool) → (a && false) ≡ false
and_false true = refl
and_false false = refl

pub listed-append : (xs ys : List Bit) (b : Bit) → listed (xs ++ ys) b ≡ (listed xs b || listed ys b)
unfolding listed
listed-append [] ys b = refl
listed-append (x ∷ xs) ys b = ap (λ z. same_bit x b || z) (listed-append xs ys b) ∙ sym (or_assoc (same_bit x b) (listed xs b) (listed ys b))

-- a table after one number

pub assigned_put : (rows new : List (List ℕ)) (bit : Bit) (number : ℕ) → ((b : Bit) → entry new b ≡ cond (same_bit bit b) number (entry rows b)) → (b : Bit)
    → assigned new b ≡ cond (same_bit bit b) (nat_eq number 0) (assigned rows b)
assigned_put rows new bit number h b = ap (λ z. nat_eq z 0) (h b) ∙ go (same_bit bit b)
  where
    go : (t : Bool) → nat_eq (cond t number (entry rows b)) 0 ≡ cond t (nat_eq number 0) (nat_eq (entry rows b) 0)
    go true = refl
    go false = refl

-- what is assigned stays assigned
pub record Kept (before after : Bit → Bool) : Type 0 where
  pub keeps : (b : Bit) → before b ≡ true → after b ≡ true

pub logged_none : (log : List Bit) (f g : Bit → Bool) → ((b : Bit) → g b ≡ f b) → Logged log log f g
unfolding listed
logged_none log f g h = record { more = []; grown = sym (append-nil log); only = λ b. rw (h b) (never (f b)) }
  where
    never : (t : Bool) → false ≡ (not t && t)
    never true = refl
    never false = refl

pub logged_both : (a b c : List Bit) (f g h : Bit → Bool) → Logged a b f g → Logged b c g h → ((x : Bit) → f x ≡ true → g x ≡ true) → ((x : Bit) → g x ≡ true → h x ≡ true) → Logged a c f h
logged_both a b c f g h p q u v = record {
  more = p.more ++ q.more;
  grown = q.grown ∙ (ap (λ z. z ++ q.more) p.grown ∙ append_assoc a p.more q.more);
  only = λ x. listed-append p.more q.more x ∙ rw (p.only x, q.only x) (joined (f x) (g x) (h x) (u x) (v x));
}
  where
    joined : (s t w : Bool) → (s ≡ true → t ≡ true) → (t ≡ true → w ≡ true) → ((not s && t) || (not t && w)) ≡ (not s && w)
    joined true true true i j = refl
    joined true true false i j = refl
    joined true false w i j = let bad : false ≡ true = i refl in cc
    joined false true true i j = refl
    joined false true false i j = let bad : false ≡ true = j refl in cc
    joined false false w i j = refl

-- the same with the states exchanged for equal ones
pub logged_same : (a b : List Bit) (f g h : Bit → Bool) → Logged a b f g → ((x : Bit) → h x ≡ g x) → Logged a b f h
logged_same a b f g h p e = record { more = p.more; grown = p.grown; only = λ x. p.only x ∙ ap (λ z. not (f x) && z) (sym (e x)) }

-- one bit is assigned
pub logged_one : (log : List Bit) (bit : Bit) (f g : Bit → Bool) → f bit ≡ false → ((b : Bit) → g b ≡ cond (same_bit bit b) true (f b)) → Logged log (log ++ bit ∷ []) f g
unfolding listed
logged_one log bit f g e h = record {
  more = bit ∷ [];
  grown = refl;
  only = λ b. rw (h b) (go b (same_bit bit b) refl);
}
  where
    go : (b : Bit) (t : Bool) → same_bit bit b ≡ t → (t || false) ≡ (not (f b) && cond t true (f b))
    go b true s = let q : f b ≡ false = ap f (sym (same_is bit b s)) ∙ e in rw q refl
    go b false s = never (f b)
      where
        never : (t : Bool) → false ≡ (not t && t)
        never true = refl
        never false = refl

-- taking back what was logged
pub undone : (a b : List Bit) (f g : Bit → Bool) → Logged a b f g → ((x : Bit) → f x ≡ true → g x ≡ true) → (x : Bit) → (g x && not (listed (drop (length a) b) x)) ≡ f x
undone a b f g p u x =
    let d : drop (length a) b ≡ p.more = ap (drop (length a)) p.grown ∙ drop_at a p.more (length a) refl in
    ap (λ z. g x && not (listed z x)) d ∙ (ap (λ z. g x && not z) (p.only x) ∙ go (f x) (g x) (u x))
  where
    go : (s t : Bool) → (s ≡ true → t ≡ true) → (t && not (not s && t)) ≡ s
    go true true i = refl
    go true false i = let bad : false ≡ true = i refl in cc
    go false true i = refl
    go false false i = refl

pub taken_back : (a b : List Bit) (f g : Bit → Bool) → Logged a b f g → take (length a) b ≡ a
taken_back a b f g p = ap (take (length a)) p.grown ∙ take_front a p.more
  where
    take_front : (xs ys : List Bit) → take (length xs) (xs ++ ys) ≡ xs
    take_front [] ys = none ys
      where
        none : (zs : List Bit) → take 0 zs ≡ []
        none [] = refl
        none (z ∷ zs) = refl
    take_front (x ∷ xs) ys = ap (λ z. x ∷ z) (take_front xs ys)

pub newly : (a b : List Bit) (f g : Bit → Bool) → Logged a b f g → (x : Bit) → listed (drop (length a) b) x ≡ (not (f x) && g x)
newly a b f g p x = ap (λ z. listed z x) (ap (drop (length a)) p.grown ∙ drop_at a p.more (length a) refl) ∙ p.only x

pub log_long : (a b : List Bit) (f g : Bit → Bool) → Logged a b f g → length a ≤ length b
log_long a b f g p = let e = ap length p.grown ∙ length-append a p.more in omega (arith, e)
