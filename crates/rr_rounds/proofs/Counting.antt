-- the number of lines of the joined journal
use Rattle.std.proofs.Common.{◌≡◌, ◌⊎◌, inl, inr, ℕ, suc, zero, ◌+◌, ◌*◌, ◌<◌, ◌≤◌, ◌==◌, cond, List, [], ◌∷◌, length, refl, sym, ◌∙◌, ap, arith}
use Rattle.std.proofs.lemmas.Bool.{cases_eq, eq-eqb, ne_eqb}
use Rattle.std.proofs.lemmas.List.{length-append, length-map}
use Rattle.rr_cnf.specs.Clauses.{Clauses}
use Rattle.rr_rounds.specs.States.{State, learned, member}
use Rattle.rr_rounds.specs.Joined.{flat, here, in_order, joined, joined_step, of_member, of_round}
use Rattle.rr_rounds.specs.Rounds.{Reached}
use Rattle.rr_rounds.proofs.Reaching.{lawful}

-- g 0, g 1 and so on up to g (n - 1), added up
total : ℕ → (ℕ → ℕ) → ℕ
total zero g = 0
total (suc n) g = total n g + g n

flat_length : {X : Type 0} (n : ℕ) (f : ℕ → List X) → length (flat n f) ≡ total n (λ i. length (f i))
unfolding total
flat_length zero f = refl
flat_length (suc n) f = length-append (flat n f) (f n) ∙ ap (λ k. k + length (f n)) (flat_length n f)

total_same : (n : ℕ) (g h : ℕ → ℕ) → ((i : ℕ) → i < n → g i ≡ h i) → total n g ≡ total n h
unfolding total
total_same zero g h e = refl
total_same (suc n) g h e = let a = total_same n g h (λ i l. e i (omega arith)) in let b = e n (omega arith) in omega (arith, a, b)

total_zero : (n : ℕ) → total n (λ i. 0) ≡ 0
unfolding total
total_zero zero = refl
total_zero (suc n) = let a = total_zero n in omega (arith, a)

total_add : (n : ℕ) (g h : ℕ → ℕ) → total n (λ i. g i + h i) ≡ total n g + total n h
unfolding total
total_add zero g h = omega arith
total_add (suc n) g h = let a = total_add n g h in omega (arith, a)

total_swap : (n m : ℕ) (h : ℕ → ℕ → ℕ) → total n (λ i. total m (h i)) ≡ total m (λ j. total n (λ i. h i j))
unfolding total
total_swap zero m h = sym (total_zero m)
total_swap (suc n) m h = ap (λ k. k + total m (h n)) (total_swap n m h) ∙ sym (total_add m (λ j. total n (λ i. h i j)) (h n))

total_const : (n c : ℕ) (g : ℕ → ℕ) → ((i : ℕ) → i < n → g i ≡ c) → total n g ≡ n * c
unfolding total
total_const zero c g e = omega arith
total_const (suc n) c g e = let a = total_const n c g (λ i l. e i (omega arith)) in let b = e n (omega arith) in let m : suc n * c ≡ n * c + c = omega arith in omega (arith, a, b, m)

-- a number is met once
module _ {X : Type 0} (p : X) (x : ℕ) where
  met : ℕ → ℕ
  met i = length (cond (x == i) (p ∷ []) [])

  met_not : (i : ℕ) → (x ≡ i → ⊥) → met i ≡ 0
  unfolding met
  met_not i ne = ap (λ b. length (cond b (p ∷ []) [])) (ne_eqb x i ne)

  met_here : (i : ℕ) → x ≡ i → met i ≡ 1
  unfolding met
  met_here i e = ap (λ b. length (cond b (p ∷ []) [])) (eq-eqb x i e)

  met_none : (n : ℕ) → n ≤ x → total n met ≡ 0
  unfolding total
  met_none zero h = refl
  met_none (suc n) h = let a = met_none n (omega arith) in let b = met_not n (omega arith) in omega (arith, a, b)

  met_once : (n : ℕ) → x < n → total n met ≡ 1
  unfolding total
  met_once zero h = absurd (omega arith)
  met_once (suc n) h = by_cases (met_once n) (cases_eq x n)
    where
      by_cases : (x < n → total n met ≡ 1) → ((x ≡ n) ⊎ (x ≡ n → ⊥)) → total n met + met n ≡ 1
      by_cases rest (inl e) = let a = met_none n (omega (arith, e)) in let b = met_here n e in omega (arith, a, b)
      by_cases rest (inr ne) = let a = rest (omega (arith, ne)) in let b = met_not n ne in omega (arith, a, b)

module _ (f : Clauses) (inputs count : ℕ) (s : State) (r : Reached f inputs count s) where
  -- the lines of a member, round by round, are all its lines
  of_one : (m : ℕ) → total (suc s.round) (λ round. length (of_member s round m)) ≡ length (member s m).lines
  unfolding met
  of_one m =
      let n = length (member s m).lines in
      total_same (suc s.round) (λ round. length (of_member s round m)) (λ round. total n (λ k. length (here round m (member s m) k))) (λ round h. flat_length n (here round m (member s m)))
      ∙ total_swap (suc s.round) n (λ round k. length (here round m (member s m) k))
      ∙ total_const n 1 (λ k. total (suc s.round) (λ round. length (here round m (member s m) k))) (λ k h. met_once (record { member = m; line = k }) (learned (member s m) k).round (suc s.round) (let a = (lawful f inputs count s r m).upto k h in omega (arith, a)))
      ∙ omega arith

  -- where each member has as many lines, the journal has as many times the number of members
  pub joined_length : (budget : ℕ) → ((m : ℕ) → m < length s.members → length (member s m).lines ≡ budget) → length (joined f s) ≡ length s.members * budget
  joined_length budget each =
      length-map (in_order s) (joined_step f s)
      ∙ flat_length (suc s.round) (of_round s)
      ∙ total_same (suc s.round) (λ round. length (of_round s round)) (λ round. total (length s.members) (λ m. length (of_member s round m))) (λ round h. flat_length (length s.members) (of_member s round))
      ∙ total_swap (suc s.round) (length s.members) (λ round m. length (of_member s round m))
      ∙ total_const (length s.members) budget (λ m. total (suc s.round) (λ round. length (of_member s round m))) (λ m h. of_one m ∙ each m h)
