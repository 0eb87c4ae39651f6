-- the cheapest of the first proposals
use Rattle.std.proofs.Common.{◌≡◌, ◌⊎◌, inl, inr, ℕ, ◌+◌, ◌<◌, ◌≤◌, List, [], length, get_or, All, sym, subst, ◌∙◌, ap, arith}
use Rattle.std.specs.Prelude.{Option, Some, None}
use Rattle.std.proofs.lemmas.Bool.{cases_lt}
use Rattle.std.proofs.lemmas.List.{get_or-map, length-map}
use Rattle.rr_choice.specs.declared.pick.Choice.{Choice}
use Rattle.rr_choice.specs.declared.pick.Pick.{Pick}
use Rattle.rr_choice.specs.Choices.{cost, IsChoice}
use Rattle.rr_choice.specs.Sites.{Site}
use Rattle.rr_transition.specs.Cycles.{Design}
use Rattle.rr_search.specs.Answers.{Task, IsOf, Mends, plain_choices}
use Rattle.rr_search.specs.Replies.{IsCheapest, IsMending, choice_at}

pub at_choice : (xs : List Choice) (k : ℕ) (x : Choice) → x ≡ get_or xs k x → k < length xs → choice_at (plain_choices xs) k ≡ x.picks.items
at_choice xs k x e l = get_or-map (λ c. c.picks.items) xs k x [] l ∙ ap (λ c. c.picks.items) (sym e)

pub choice_here : (sites : List Site) (xs : List Choice) (k : ℕ) (x : Choice) → All (IsChoice sites) (plain_choices xs) → x ≡ get_or xs k x → k < length xs → IsChoice sites x.picks.items
choice_here sites xs k x all e l = subst (IsChoice sites) (at_choice xs k x e l) (all k [] (let n = length-map xs (λ c. c.picks.items) in omega (arith, n, l)))

pub inside_plain : (xs : List Choice) (k : ℕ) → k < length xs → k < length (plain_choices xs)
inside_plain xs k l = let n = length-map xs (λ c. c.picks.items) in omega (arith, n, l)

pub inside_proposals : (xs : List Choice) (k : ℕ) → k < length (plain_choices xs) → k < length xs
inside_proposals xs k l = let n = length-map xs (λ c. c.picks.items) in omega (arith, n, l)

-- below k + 1 is below k or k
one_more : (P : ℕ → Type 0) (k : ℕ) → ((i : ℕ) → i < k → P i) → P k → (i : ℕ) → i < k + 1 → P i
one_more P k before here i l = by_cases (cases_lt i k)
  where
    by_cases : ((i < k) ⊎ (k ≤ i)) → P i
    by_cases (inl a) = before i a
    by_cases (inr b) = let e : k ≡ i = omega (arith, l, b) in subst P e here

-- no design of the task is mended
abbrev Idle : Task → List (List Pick) → ℕ → Type 0
Idle t choices i = (j : Design) → IsOf t j → Mends j t (choice_at choices i) → ⊥

abbrev Dearer : Task → List (List Pick) → ℕ → ℕ → Type 0
Dearer t choices n i = (j : Design) → IsOf t j → Mends j t (choice_at choices i) → n ≤ cost (choice_at choices i)

pub none_yet : (t : Task) (choices : List (List Pick)) → IsCheapest t choices 0 None
none_yet t choices = λ i l j of m. omega (arith, l)

-- where the next one does not mend, the cheapest stays
pub stays : (t : Task) (choices : List (List Pick)) (k : ℕ) (best : Option ℕ) → ((j : Design) → IsOf t j → Mends j t (choice_at choices k) → ⊥) → IsCheapest t choices k best → IsCheapest t choices (k + 1) best
stays t choices k None idle h = one_more (Idle t choices) k h idle
stays t choices k (Some b) idle h = (h.0, h.1, one_more (Dearer t choices (cost (choice_at choices b))) k h.2 (λ j of m. absurd (idle j of m)))

pub first_one : (t : Task) (choices : List (List Pick)) (k : ℕ) → k < length choices → IsMending t (choice_at choices k) → IsCheapest t choices k None → IsCheapest t choices (k + 1) (Some k)
first_one t choices k l m h = (l, m, one_more (Dearer t choices (cost (choice_at choices k))) k (λ i a j of n. absurd (h i a j of n)) (λ j of n. omega arith))

pub kept : (t : Task) (choices : List (List Pick)) (k b : ℕ) → cost (choice_at choices b) ≤ cost (choice_at choices k) → IsCheapest t choices k (Some b) → IsCheapest t choices (k + 1) (Some b)
kept t choices k b l h = (h.0, h.1, one_more (Dearer t choices (cost (choice_at choices b))) k h.2 (λ j of n. l))

pub replaced : (t : Task) (choices : List (List Pick)) (k b : ℕ) → k < length choices → IsMending t (choice_at choices k) → cost (choice_at choices k) < cost (choice_at choices b) → IsCheapest t choices k (Some b) → IsCheapest t choices (k + 1) (Some k)
replaced t choices k b i m l h = (i, m, one_more (Dearer t choices (cost (choice_at choices k))) k (λ a q j of n. let d = h.2 a q j of n in omega (arith, d, l)) (λ j of n. omega arith))

-- a place in range, where one was found
pub place_of : (t : Task) (choices : List (List Pick)) (k b : ℕ) (best : Option ℕ) → best ≡ Some b → IsCheapest t choices k best → IsCheapest t choices k (Some b)
place_of t choices k b best e h = subst (IsCheapest t choices k) e h
