-- The head of a loop, one step at a time.
use Rattle.std.proofs.Common.{◌≡◌, ◌∙◌, sym, ap, ℕ, List, [], ◌++◌, fold, Option, None, Some, Result, Ok, Err, ◌⊎◌, inl, inr, refl}
use Rattle.std.proofs.lemmas.List.Sums.{fold-append}
use Rattle.rr_syntax.specs.Tree.{LoopHead}
use Rattle.rr_expr.specs.Scopes.{Names}
use Rattle.rr_flat.specs.declared.fault.FlatFault.{FlatFault}
use Rattle.rr_flat.specs.declared.fault.FlatFault.TheVariants.{Memory}
use Rattle.rr_flat.specs.Faults.{sooner, first_of, fault_or, first_fault_or, faults_in, either, among, and_then, Refuses}
use Rattle.rr_loop_names.specs.Turns.{Turn}
use Rattle.rr_loop_rules.specs.Rules.{LoopNames, head_faults}
use Rattle.rr_unfold.specs.Unfold.{around, inside, ok_or, first_value, opening, opening_faults, values_of, values_from}

-- the first of three groups of faults, noted one behind the other
pub first_of_three : (xs ys zs : List FlatFault) → first_of (xs ++ (ys ++ zs)) ≡ fold sooner (fold sooner (fold sooner None xs) ys) zs
first_of_three xs ys zs = fold-append sooner None xs (ys ++ zs) ∙ fold-append sooner (fold sooner None xs) ys zs

pub first_of_two : (xs ys : List FlatFault) → first_of (xs ++ ys) ≡ fold sooner (fold sooner None xs) ys
first_of_two xs ys = fold-append sooner None xs ys

pub ruleset checkings = first_of_three

-- an answer among faults that were noted
pub among_noted : (faults : List FlatFault) (r : Result ℕ FlatFault) → among faults r ≡ either (fold sooner (fold sooner None faults) (faults_in r)) r
among_noted faults r = ap (λ o. either o r) (first_of_two faults (faults_in r))

pub ruleset beginnings = (among_noted, first_of_two)

-- what a step refuses the whole refuses
pub refuses_then : {A B : Type 0} (r : Result A FlatFault) (k : A → Result B FlatFault) (f : FlatFault) → Refuses r f → Refuses (and_then r k) f
refuses_then r k f (inl memory) = inl memory
refuses_then r k f (inr e) = inr (ap (λ q. and_then q k) e)

pub then_is : {A B : Type 0} (r : Result A FlatFault) (k : A → Result B FlatFault) (a : A) → r ≡ Ok a → and_then r k ≡ k a
then_is r k a e = ap (λ q. and_then q k) e

pub refuses_next : {A B : Type 0} (r : Result A FlatFault) (k : A → Result B FlatFault) (a : A) (f : FlatFault) → r ≡ Ok a → Refuses (k a) f → Refuses (and_then r k) f
refuses_next r k a f e (inl memory) = inl memory
refuses_next r k a f e (inr h) = inr (then_is r k a e ∙ h)

module _ (L : LoopNames) (s : Names) (turn : Turn) (h : LoopHead) where
  pub opening_refuses : (f : FlatFault) → Refuses (among (head_faults L (around turn) h) (first_value s turn h)) f → Refuses (opening L s turn h) f
  unfolding opening
  opening_refuses f r = refuses_then (among (head_faults L (around turn) h) (first_value s turn h)) (λ v. first_fault_or (opening_faults L s (inside h turn v) h) v) f r

  pub opening_then : (v : ℕ) → among (head_faults L (around turn) h) (first_value s turn h) ≡ Ok v → opening L s turn h ≡ first_fault_or (opening_faults L s (inside h turn v) h) v
  unfolding opening
  opening_then v e = ap (λ q. and_then q (λ w. first_fault_or (opening_faults L s (inside h turn w) h) w)) e

  pub opening_clear : (v : ℕ) → among (head_faults L (around turn) h) (first_value s turn h) ≡ Ok v → first_of (opening_faults L s (inside h turn v) h) ≡ None → opening L s turn h ≡ Ok v
  opening_clear v e n = opening_then v e ∙ ap (λ o. fault_or o v) n

  pub opening_faulty : (v : ℕ) (f : FlatFault) → among (head_faults L (around turn) h) (first_value s turn h) ≡ Ok v → (f ≡ Memory) ⊎ (first_of (opening_faults L s (inside h turn v) h) ≡ Some f)
      → Refuses (opening L s turn h) f
  opening_faulty v f e (inl memory) = inl memory
  opening_faulty v f e (inr n) = inr (opening_then v e ∙ ap (λ o. fault_or o v) n)

pub ruleset openings = (opening_refuses, opening_clear, opening_faulty)

-- the first value of a loop that opens

settled : (o : Option FlatFault) (a v : ℕ) → fault_or o a ≡ Ok v → a ≡ v
settled None a v e = cc
settled (Some f) a v e = absurd (cc)

chosen : (o : Option FlatFault) (r : Result ℕ FlatFault) (k : ℕ → Option FlatFault) (v : ℕ) → and_then (either o r) (λ w. fault_or (k w) w) ≡ Ok v → ok_or r 0 ≡ v
chosen None (Ok a) k v e = settled (k a) a v e
chosen None (Err f) k v e = absurd (cc)
chosen (Some g) r k v e = absurd (cc)

pub opening_first : (L : LoopNames) (s : Names) (turn : Turn) (h : LoopHead) (v : ℕ) → opening L s turn h ≡ Ok v → ok_or (first_value s turn h) 0 ≡ v
unfolding opening
opening_first L s turn h v e =
    chosen (first_of (head_faults L (around turn) h ++ faults_in (first_value s turn h))) (first_value s turn h) (λ w. first_of (opening_faults L s (inside h turn w) h)) v e

pub values_begin : (L : LoopNames) (s : Names) (turn : Turn) (h : LoopHead) (v : ℕ) → opening L s turn h ≡ Ok v → values_of s turn h ≡ values_from 65537 s turn h v
unfolding values_of
values_begin L s turn h v e = ap (values_from 65537 s turn h) (opening_first L s turn h v e)
