-- a formula is read back from its text: a number ends where no digit follows
use Rattle.std.proofs.Common.{ℕ, ◌≡◌, ◌≢◌, ◌∙◌, ◌+◌, ◌<◌, ◌≤◌, ◌^◌, ◌%◌, ◌&&◌, Bool, true, false, cond, List, [], ◌∷◌, ◌++◌, length, codes, refl, sym, ap, ap₂, arith, nat_le, All}
use Rattle.std.specs.Fmt.{decimal}
use Rattle.std.specs.List.{flat_map, list_all, AllByRecursion}
use Rattle.std.proofs.lemmas.Bool.{le-leb}
use Rattle.std.proofs.lemmas.Fmt.{decimal_by_steps, decimal_injective}
use Rattle.std.proofs.lemmas.List.{append_assoc}
use Rattle.std.proofs.lemmas.List.Elements.{recursion_from_All}
use Rattle.std.proofs.lemmas.List.Folds.{list_all-append}
use Rattle.rr_cnf.specs.Clauses.{Clauses, IsWithin, Literal}
use Rattle.rr_cnf.specs.Dimacs.{IsCounted, clause_text, dimacs, header, literal_text}

abbrev digit : ℕ → Bool
digit b = nat_le 48 b && nat_le b 57

record Same {A : Type 0} (p q : A) (x y : ℕ) (xs ys : List ℕ) : Type 0 where
  pub front : p ≡ q
  pub edge : x ≡ y
  pub back : xs ≡ ys

both : (a b : Bool) → (a && b) ≡ true → (a ≡ true) × (b ≡ true)
both true true e = (refl, refl)
both true false e = absurd (cc)
both false b e = absurd (cc)

cons : (a b : ℕ) (p q : List ℕ) → a ∷ p ≡ b ∷ q → (a ≡ b) × (p ≡ q)
cons a b p q e = (cc, cc)

apart : (a b : ℕ) → digit a ≡ true → digit b ≡ false → a ≡ b → ⊥
apart a b ha hb e = let no : true ≡ false = sym ha ∙ ap digit e ∙ hb in cc

cut : (p q : List ℕ) (x y : ℕ) (xs ys : List ℕ) → list_all digit p ≡ true → list_all digit q ≡ true → digit x ≡ false → digit y ≡ false → p ++ x ∷ xs ≡ q ++ y ∷ ys → Same p q x y xs ys
cut [] [] x y xs ys hp hq hx hy e = record { front = refl; edge = (cons x y xs ys e).0; back = (cons x y xs ys e).1 }
cut [] (b ∷ q) x y xs ys hp hq hx hy e = absurd (apart b x (both (digit b) (list_all digit q) hq).0 hx (sym (cons x b xs (q ++ y ∷ ys) e).0))
cut (a ∷ p) [] x y xs ys hp hq hx hy e = absurd (apart a y (both (digit a) (list_all digit p) hp).0 hy (cons a y (p ++ x ∷ xs) ys e).0)
cut (a ∷ p) (b ∷ q) x y xs ys hp hq hx hy e =
    let d = cons a b (p ++ x ∷ xs) (q ++ y ∷ ys) e in
    let r = cut p q x y xs ys (both (digit a) (list_all digit p) hp).1 (both (digit b) (list_all digit q) hq).1 hx hy d.1 in
    record { front = ap₂ (λ c s. c ∷ s) d.0 r.front; edge = r.edge; back = r.back }

digit_of : (n : ℕ) → n < 10 → digit (48 + n) ≡ true
digit_of n h = let low : 48 ≤ 48 + n = omega arith in let high : 48 + n ≤ 57 = omega arith in ap₂ (λ a b. a && b) (le-leb 48 (48 + n) low) (le-leb (48 + n) 57 high)

decimal_digits : (n : ℕ) → n < 2 ^ 64 → list_all digit (decimal n) ≡ true
decimal_digits n h = decimal_by_steps (λ m ds. list_all digit ds ≡ true)
    (λ m l. ap (λ b. b && true) (digit_of m l))
    (λ m ds l r. list_all-append digit ds ((48 + m % 10) ∷ []) ∙ ap₂ (λ a b. a && (b && true)) r (digit_of (m % 10) (omega arith))) n h

number : (m n : ℕ) (x y : ℕ) (xs ys : List ℕ) → m < 2 ^ 64 → n < 2 ^ 64 → digit x ≡ false → digit y ≡ false → decimal m ++ x ∷ xs ≡ decimal n ++ y ∷ ys → Same m n x y xs ys
number m n x y xs ys hm hn hx hy e =
    let s = cut (decimal m) (decimal n) x y xs ys (decimal_digits m hm) (decimal_digits n hn) hx hy e in
    record { front = decimal_injective m n hm hn s.front; edge = s.edge; back = s.back }

-- a number does not begin with `-`
unsigned : (ds : List ℕ) (x : ℕ) (xs ys : List ℕ) → list_all digit ds ≡ true → digit x ≡ false → x ≢ 45 → ds ++ x ∷ xs ≡ 45 ∷ ys → ⊥
unsigned [] x xs ys h hx other e = other (cons x 45 xs ys e).0
unsigned (d ∷ ds) x xs ys h hx other e = apart d 45 (both (digit d) (list_all digit ds) h).0 refl (cons d 45 (ds ++ x ∷ xs) ys e).0

abbrev IsSmall : Literal → Type 0
IsSmall l = l.var < 2 ^ 64

tail_of : (n : ℕ) (s xs : List ℕ) → (decimal n ++ s) ++ xs ≡ decimal n ++ (s ++ xs)
tail_of n s xs = append_assoc (decimal n) s xs

pub literal : (l k : Literal) (xs ys : List ℕ) → IsSmall l → IsSmall k → literal_text l ++ xs ≡ literal_text k ++ ys → (l ≡ k) × (xs ≡ ys)
literal l k xs ys hl hk e = by_signs l.var k.var l.negative k.negative hl hk e
  where
    by_signs : (v w : ℕ) (a b : Bool) → v < 2 ^ 64 → w < 2 ^ 64 → (cond a (codes "-") [] ++ (decimal v ++ codes " ")) ++ xs ≡ (cond b (codes "-") [] ++ (decimal w ++ codes " ")) ++ ys
        → (◌≡◌ {A = Literal} (record { var = v; negative = a }) (record { var = w; negative = b })) × (xs ≡ ys)
    by_signs v w true true hv hw f =
        let s = number v w 32 32 xs ys hv hw refl refl (sym (tail_of v (codes " ") xs) ∙ (cons 45 45 _ _ f).1 ∙ tail_of w (codes " ") ys) in
        (ap (λ n. record { var = n; negative = true }) s.front, s.back)
    by_signs v w false false hv hw f =
        let s = number v w 32 32 xs ys hv hw refl refl (sym (tail_of v (codes " ") xs) ∙ f ∙ tail_of w (codes " ") ys) in
        (ap (λ n. record { var = n; negative = false }) s.front, s.back)
    by_signs v w true false hv hw f = absurd (unsigned (decimal w) 32 ys _ (decimal_digits w hw) refl (λ e. omega (arith, e)) (sym (tail_of w (codes " ") ys) ∙ sym f))
    by_signs v w false true hv hw f = absurd (unsigned (decimal v) 32 xs _ (decimal_digits v hv) refl (λ e. omega (arith, e)) (sym (tail_of v (codes " ") xs) ∙ f))

-- the end of a clause is no literal
end : (k : Literal) (xs ys : List ℕ) → IsSmall k → codes "0\n" ++ xs ≡ literal_text k ++ ys → ⊥
end k xs ys hk e = by_sign k.var k.negative hk e
  where
    by_sign : (w : ℕ) (b : Bool) → w < 2 ^ 64 → codes "0\n" ++ xs ≡ (cond b (codes "-") [] ++ (decimal w ++ codes " ")) ++ ys → ⊥
    by_sign w true hw f = let no : 48 ≡ 45 = (cons 48 45 _ _ f).0 in omega (arith, no)
    by_sign w false hw f =
        let s = cut (48 ∷ []) (decimal w) 10 32 xs ys refl (decimal_digits w hw) refl refl (f ∙ tail_of w (codes " ") ys) in
        let no : 10 ≡ 32 = s.edge in omega (arith, no)

more : (l : Literal) (c : List Literal) (xs : List ℕ) → clause_text (l ∷ c) ++ xs ≡ literal_text l ++ (clause_text c ++ xs)
more l c xs = ap (λ t. t ++ xs) (append_assoc (literal_text l) (flat_map literal_text c) (codes "0\n")) ∙ append_assoc (literal_text l) (clause_text c) xs

clause : (c d : List Literal) (xs ys : List ℕ) → AllByRecursion IsSmall c → AllByRecursion IsSmall d → clause_text c ++ xs ≡ clause_text d ++ ys → (c ≡ d) × (xs ≡ ys)
clause [] [] xs ys hc hd e = (refl, (cons 10 10 xs ys (cons 48 48 _ _ e).1).1)
clause [] (k ∷ d) xs ys hc hd e = absurd (end k xs _ hd.0 (e ∙ more k d ys))
clause (l ∷ c) [] xs ys hc hd e = absurd (end l ys _ hc.0 (sym e ∙ more l c xs))
clause (l ∷ c) (k ∷ d) xs ys hc hd e =
    let s = literal l k (clause_text c ++ xs) (clause_text d ++ ys) hc.0 hd.0 (sym (more l c xs) ∙ e ∙ more k d ys) in
    let r = clause c d xs ys hc.1 hd.1 s.1 in
    (ap₂ (λ a b. a ∷ b) s.0 r.0, r.1)

filled : (p : List ℕ) (x : ℕ) (xs ys : List ℕ) → [] ≡ (p ++ x ∷ xs) ++ ys → ⊥
filled [] x xs ys e = cc
filled (a ∷ p) x xs ys e = cc

clauses : (cs ds : List (List Literal)) → AllByRecursion (AllByRecursion IsSmall) cs → AllByRecursion (AllByRecursion IsSmall) ds → flat_map clause_text cs ≡ flat_map clause_text ds → cs ≡ ds
clauses [] [] hc hd e = refl
clauses [] (d ∷ ds) hc hd e = absurd (filled (flat_map literal_text d) 48 (codes "\n") (flat_map clause_text ds) e)
clauses (c ∷ cs) [] hc hd e = absurd (filled (flat_map literal_text c) 48 (codes "\n") (flat_map clause_text cs) (sym e))
clauses (c ∷ cs) (d ∷ ds) hc hd e =
    let s = clause c d (flat_map clause_text cs) (flat_map clause_text ds) hc.0 hd.0 e in
    ap₂ (λ a b. a ∷ b) s.0 (clauses cs ds hc.1 hd.1 s.1)

small : (n : ℕ) → n < 2 ^ 64 → (cs : List (List Literal)) → AllByRecursion (λ c. All (IsWithin n) c) cs → AllByRecursion (AllByRecursion IsSmall) cs
small n h [] w = tt
small n h (c ∷ cs) w = (small_clause c (recursion_from_All (IsWithin n) c w.0), small n h cs w.1)
  where
    small_clause : (c : List Literal) → AllByRecursion (IsWithin n) c → AllByRecursion IsSmall c
    small_clause [] v = tt
    small_clause (l ∷ c) v = (omega (arith, v.0), small_clause c v.1)

header_is : (f : Clauses) (xs : List ℕ) → header f ++ xs ≡ codes "p cnf " ++ (decimal f.vars ++ (codes " " ++ (decimal (length f.clauses) ++ (codes "\n" ++ xs))))
header_is f xs = ap (λ t. codes "p cnf " ++ t)
    (append_assoc (decimal f.vars) (codes " " ++ (decimal (length f.clauses) ++ codes "\n")) xs
    ∙ ap (λ t. decimal f.vars ++ (codes " " ++ t)) (append_assoc (decimal (length f.clauses)) (codes "\n") xs))

drop_front : (p xs ys : List ℕ) → p ++ xs ≡ p ++ ys → xs ≡ ys
drop_front [] xs ys e = e
drop_front (a ∷ p) xs ys e = drop_front p xs ys (cons a a (p ++ xs) (p ++ ys) e).1

pub one_formula : (f g : Clauses) → IsCounted f → IsCounted g → dimacs f ≡ dimacs g → f ≡ g
one_formula f g hf hg e =
    let xs = flat_map clause_text f.clauses in
    let ys = flat_map clause_text g.clauses in
    let front = drop_front (codes "p cnf ") _ _ (sym (header_is f xs) ∙ e ∙ header_is g ys) in
    let v = number f.vars g.vars 32 32 _ _ hf.vars_fit hg.vars_fit refl refl front in
    let n = number (length f.clauses) (length g.clauses) 10 10 _ _ hf.clauses_fit hg.clauses_fit refl refl v.back in
    let cs = clauses f.clauses g.clauses (small f.vars hf.vars_fit f.clauses (recursion_from_All (λ c. All (IsWithin f.vars) c) f.clauses hf.within))
    (small g.vars hg.vars_fit g.clauses (recursion_from_All (λ c. All (IsWithin g.vars) c) g.clauses hg.within)) n.back in
    let made : ℕ → List (List Literal) → Clauses = λ a b. record { vars = a; clauses = b } in
    ap₂ made v.front cs
