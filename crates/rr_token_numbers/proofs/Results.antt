-- Answers that are the same without token numbers, and faults in both or in neither.
use Rattle.std.proofs.Common.{◌≡◌, ap, Bool, true, false, List, [], ◌∷◌, ◌++◌, map, Option, Some, None, Result, Ok, Err, refl, fold}
use Rattle.std.specs.Option.{option_to_list}
use Rattle.rr_syntax.specs.Tree.{Tree, Trees, End, More, bare, bare_parts}
use Rattle.rr_expr.specs.declared.types.ExprFault.{ExprFault}
use Rattle.rr_flat.specs.declared.fault.FlatFault.{FlatFault}
use Rattle.rr_flat.specs.Faults.{sooner, earlier, first_of, earliest_of, fault_or, first_fault_or, fault_if, faults_in, either, among, answer_of, of_expression, and_then, each}
use Rattle.rr_flatten.specs.Walk.{fold_trees}
use Rattle.rr_token_numbers.proofs.Folds.{some_stays, earliest_stays}

-- both have an answer, and the second is the first by b, or none has
abbrev pub Barely : {A B : Type 0} → (A → B) → Result A FlatFault → Result B FlatFault → Type 0
Barely b (Ok a) q = q ≡ Ok (b a)
Barely b (Err f) q = (g : FlatFault) × (q ≡ Err g)

-- both are there, or none is
abbrev pub Both : {A B : Type 0} → Option A → Option B → Type 0
Both None None = Unit {0}
Both None (Some y) = ⊥
Both (Some x) None = ⊥
Both (Some x) (Some y) = Unit {0}

abbrev pub BothNil : {A B : Type 0} → List A → List B → Type 0
BothNil [] [] = Unit {0}
BothNil [] (y ∷ ys) = ⊥
BothNil (x ∷ xs) [] = ⊥
BothNil (x ∷ xs) (y ∷ ys) = Unit {0}

pub nil_append : {A B : Type 0} (xs xs' : List A) (ys ys' : List B) → BothNil xs ys → BothNil xs' ys' → BothNil (xs ++ xs') (ys ++ ys')
nil_append [] xs' [] ys' h k = k
nil_append [] xs' (y ∷ ys) ys' h k = absurd h
nil_append (x ∷ xs) xs' [] ys' h k = absurd h
nil_append (x ∷ xs) xs' (y ∷ ys) ys' h k = tt

pub nil_if : (b : Bool) (f g : FlatFault) → BothNil (fault_if b f) (fault_if b g)
nil_if true f g = tt
nil_if false f g = tt

pub nil_in : {A B : Type 0} (b : A → B) (r : Result A FlatFault) (q : Result B FlatFault) → Barely b r q → BothNil (faults_in r) (faults_in q)
nil_in b (Ok a) q h = rw h tt
nil_in b (Err f) q h = rw h.1 tt

pub nil_answer : {A B : Type 0} (o p : Option ExprFault) (x : A) (y : B) → Both o p → BothNil (faults_in (answer_of o x)) (faults_in (answer_of p y))
nil_answer None None x y h = tt
nil_answer None (Some f) x y h = absurd h
nil_answer (Some f) None x y h = absurd h
nil_answer (Some f) (Some g) x y h = tt

pub both_noted : (o p : Option FlatFault) (fs gs : List FlatFault) → Both o p → BothNil fs gs → Both (fold sooner o fs) (fold sooner p gs)
unfolding sooner
both_noted None None [] [] h k = tt
both_noted None None [] (g ∷ gs) h k = absurd k
both_noted None None (f ∷ fs) [] h k = absurd k
both_noted None None (f ∷ fs) (g ∷ gs) h k = let a = (some_stays f fs).1 in let b = (some_stays g gs).1 in rw (a, b) tt
both_noted None (Some g) fs gs h k = absurd h
both_noted (Some f) None fs gs h k = absurd h
both_noted (Some f) (Some g) fs gs h k = let a = (some_stays f fs).1 in let b = (some_stays g gs).1 in rw (a, b) tt

both_earliest : (fs gs : List FlatFault) → BothNil fs gs → Both (earliest_of fs) (earliest_of gs)
unfolding earlier
both_earliest [] [] h = tt
both_earliest [] (g ∷ gs) h = absurd h
both_earliest (f ∷ fs) [] h = absurd h
both_earliest (f ∷ fs) (g ∷ gs) h = let a = (earliest_stays f fs).1 in let b = (earliest_stays g gs).1 in rw (a, b) tt

both_listed : (o p : Option FlatFault) → Both o p → BothNil (option_to_list o) (option_to_list p)
both_listed None None h = tt
both_listed None (Some g) h = absurd h
both_listed (Some f) None h = absurd h
both_listed (Some f) (Some g) h = tt

pub nil_earliest : (fs gs : List FlatFault) → BothNil fs gs → BothNil (option_to_list (earliest_of fs)) (option_to_list (earliest_of gs))
nil_earliest fs gs h = both_listed (earliest_of fs) (earliest_of gs) (both_earliest fs gs h)

pub or_bare : {A B : Type 0} (b : A → B) (o p : Option FlatFault) (a : A) (c : B) → Both o p → c ≡ b a → Barely b (fault_or o a) (fault_or p c)
or_bare b None None a c h e = rw e refl
or_bare b None (Some g) a c h e = absurd h
or_bare b (Some f) None a c h e = absurd h
or_bare b (Some f) (Some g) a c h e = (g, refl)

pub settle_bare : {A B : Type 0} (b : A → B) (fs gs : List FlatFault) (a : A) (c : B) → BothNil fs gs → c ≡ b a → Barely b (first_fault_or fs a) (first_fault_or gs c)
settle_bare b fs gs a c h e = or_bare b (first_of fs) (first_of gs) a c (both_noted None None fs gs tt h) e

pub answer_bare : {A B : Type 0} (b : A → B) (o p : Option ExprFault) (a : A) (c : B) → Both o p → c ≡ b a → Barely b (answer_of o a) (answer_of p c)
answer_bare b None None a c h e = rw e refl
answer_bare b None (Some g) a c h e = absurd h
answer_bare b (Some f) None a c h e = absurd h
answer_bare b (Some f) (Some g) a c h e = (of_expression g, refl)

either_bare : {A B : Type 0} (b : A → B) (o p : Option FlatFault) (r : Result A FlatFault) (q : Result B FlatFault) → Both o p → Barely b r q → Barely b (either o r) (either p q)
either_bare b None None r q h k = k
either_bare b None (Some g) r q h k = absurd h
either_bare b (Some f) None r q h k = absurd h
either_bare b (Some f) (Some g) r q h k = (g, refl)

pub among_bare : {A B : Type 0} (b : A → B) (fs gs : List FlatFault) (r : Result A FlatFault) (q : Result B FlatFault) → BothNil fs gs → Barely b r q → Barely b (among fs r) (among gs q)
among_bare b fs gs r q h k =
    either_bare b (first_of (fs ++ faults_in r)) (first_of (gs ++ faults_in q)) r q
    (both_noted None None (fs ++ faults_in r) (gs ++ faults_in q) tt (nil_append fs (faults_in r) gs (faults_in q) h (nil_in b r q k))) k

-- steps

pub then_bare : {A B C D : Type 0} (b : A → B) (c : C → D) (r : Result A FlatFault) (q : Result B FlatFault) (f : A → Result C FlatFault) (g : B → Result D FlatFault)
    → Barely b r q → ((a : A) → Barely c (f a) (g (b a))) → Barely c (and_then r f) (and_then q g)
then_bare b c (Ok a) q f g h k = rw h (k a)
then_bare b c (Err x) q f g h k = rw h.1 (h.0, refl)

pub ok_bare : {A B : Type 0} (b : A → B) (a : A) (c : B) → c ≡ b a → Barely b (Ok a) (Ok c)
ok_bare b a c e = ap (λ x. Ok x) e

pub each_bare : {X S : Type 0} (h : X → X) (b : S → S) (step other : X → S → Result S FlatFault) → ((x : X) (s : S) → Barely b (step x s) (other (h x) (b s)))
    → (xs : List X) (s : S) → Barely b (each step xs s) (each other (map h xs) (b s))
unfolding each
each_bare h b step other one [] s = refl
each_bare h b step other one (x ∷ xs) s = then_bare b b (step x s) (other (h x) (b s)) (each step xs) (each other (map h xs)) (one x s) (each_bare h b step other one xs)

-- folds

pub fold_both : {X S T : Type 0} (R : S → T → Type 0) (h : X → X) (step : S → X → S) (other : T → X → T) → ((s : S) (t : T) (x : X) → R s t → R (step s x) (other t (h x)))
    → (xs : List X) (s : S) (t : T) → R s t → R (fold step s xs) (fold other t (map h xs))
fold_both R h step other one [] s t r = r
fold_both R h step other one (x ∷ xs) s t r = fold_both R h step other one xs (step s x) (other t (h x)) (one s t x r)

pub fold_trees_both : {S T : Type 0} (R : S → T → Type 0) (step : S → Tree → S) (other : T → Tree → T) → ((s : S) (t : T) (x : Tree) → R s t → R (step s x) (other t (bare x)))
    → (ts : Trees) (s : S) (t : T) → R s t → R (fold_trees step s ts) (fold_trees other t (bare_parts ts))
unfolding fold_trees bare
fold_trees_both R step other one End s t r = r
fold_trees_both R step other one (More x xs) s t r = fold_trees_both R step other one xs (step s x) (other t (bare x)) (one s t x r)
