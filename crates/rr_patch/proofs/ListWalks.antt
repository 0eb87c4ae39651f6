-- The changes of lists of parts, part by part.
use Rattle.std.proofs.Common.{◌≡◌, ℕ, zero, suc, ◌+◌, ◌<◌, ◌≤◌, List, [], ◌∷◌, ◌++◌, map, take, get_or, length, refl, sym, ◌∙◌, ap, subst, arith, append-nil}
use Rattle.std.specs.List.{AllByRecursion}
use Rattle.std.proofs.lemmas.List.{append_assoc, get_or_default, length-append, take_all, take_more}
use Rattle.rr_syntax.specs.Words.{Word, Marked, mark_comma}
use Rattle.rr_syntax.specs.Items.{spell_each, spell_all, NumberedEach, NumberedSeparated, NumberedAll}
use Rattle.rr_syntax.proofs.ItemLengths.{each_len, comma_len, each_sum, all_len, own_len, all_sum}
use Rattle.rr_syntax.proofs.Sums.{sum_within_at}
use Rattle.rr_respell.specs.Pieces.{Piece, Kept, source_words}
use Rattle.rr_respell.specs.Printing.{each_pieces, separated_pieces, all_pieces}
use Rattle.rr_respell.proofs.Makes.{source_join}
use Rattle.rr_patch.specs.Changes.{Change, changes}
use Rattle.rr_patch.specs.Walks.{Adds}
use Rattle.rr_patch.proofs.StatementWalks.{two}
use Rattle.rr_patch.proofs.TreeWalks.{around}
use Rattle.rr_patch.proofs.Walks.{changes_join}

-- where the parts of a list stand with commas between, and with a mark before the first
pub separated_are : {A : Type 0} (f : A → List Piece) (k : ℕ) (xs : List A) → changes (k + 1) (separated_pieces f xs) ≡ changes k (each_pieces f xs)
unfolding separated_pieces each_pieces changes
separated_are f k [] = refl
separated_are f k (x ∷ xs) = refl

-- pieces with as many tokens of the source as the words of their part
module _ {R A : Type 0} (f : A → List Piece) (s : A → List Word) (g : R → A) (h : (x : A) → length (source_words (f x)) ≡ length (s x)) where
  each_words : (xs : List A) → length (source_words (each_pieces f xs)) ≡ length (spell_each s xs)
  unfolding each_pieces spell_each source_words
  each_words [] = refl
  each_words (x ∷ xs) =
      let j = ap length (source_join (f x) (each_pieces f xs)) in
      let a = length-append (source_words (f x)) (source_words (each_pieces f xs)) in
      let b = length-append (s x) (spell_each s xs) in
      let r = each_words xs in
      let e = h x in
      omega (arith, j, a, b, r, e)

  all_words : (xs : List A) → length (source_words (all_pieces f xs)) ≡ length (spell_all s xs)
  unfolding all_pieces spell_all source_words
  all_words [] = refl
  all_words (x ∷ xs) =
      let j = ap length (source_join (f x) (all_pieces f xs)) in
      let a = length-append (source_words (f x)) (source_words (all_pieces f xs)) in
      let b = length-append (s x) (spell_all s xs) in
      let r = all_words xs in
      let e = h x in
      omega (arith, j, a, b, r, e)

  each_snoc : (xs : List R) (x : R) → each_pieces f (map g (xs ++ x ∷ [])) ≡ each_pieces f (map g xs) ++ (Kept (Marked mark_comma) ∷ (f (g x) ++ []))
  unfolding each_pieces
  each_snoc [] x = refl
  each_snoc (y ∷ xs) x =
      ap (λ (l : List Piece). Kept (Marked mark_comma) ∷ l)
      (ap (λ (l : List Piece). f (g y) ++ l) (each_snoc xs x) ∙ sym (append_assoc (f (g y)) (each_pieces f (map g xs)) (Kept (Marked mark_comma) ∷ (f (g x) ++ []))))

  all_snoc : (xs : List R) (x : R) → all_pieces f (map g (xs ++ x ∷ [])) ≡ all_pieces f (map g xs) ++ f (g x)
  unfolding all_pieces
  all_snoc [] x = append-nil (f (g x))
  all_snoc (y ∷ xs) x = ap (λ (l : List Piece). f (g y) ++ l) (all_snoc xs x) ∙ sym (append_assoc (f (g y)) (all_pieces f (map g xs)) (f (g x)))

  up_to : (xs : List R) (i : ℕ) (d : R) → i < length xs → take (i + 1) xs ≡ take i xs ++ get_or xs i d ∷ []
  up_to xs i d l = take_more xs i (get_or xs i d) l ∙ ap (λ (y : R). take i xs ++ y ∷ []) (sym (get_or_default xs i d (get_or xs i d) l))

  -- a list with a comma before each part
  each_start : (o : List Change) (k : ℕ) → o ≡ o ++ changes k (each_pieces f (map g []))
  unfolding each_pieces changes
  each_start o k = sym (append-nil o)

  each_next : (o o1 o2 : List Change) (xs : List R) (i : ℕ) (d : R) (k next : ℕ) → i < length xs → next ≡ k + each_len s g (take i xs) →
      o1 ≡ o ++ changes k (each_pieces f (map g (take i xs))) → o2 ≡ o1 ++ changes (next + 1) (f (g (get_or xs i d))) → o2 ≡ o ++ changes k (each_pieces f (map g (take (i + 1) xs)))
  each_next o o1 o2 xs i d k next l n a b =
      let M : List Piece = each_pieces f (map g (take i xs)) in
      let X : List Piece = f (g (get_or xs i d)) in
      two o o1 o2 (changes k M) (changes (next + 1) X) _ a b
      (ap (λ (ys : List R). changes k (each_pieces f (map g ys))) (up_to xs i d l) ∙ ap (changes k) (each_snoc (take i xs) (get_or xs i d))
      ∙ around k M (X ++ []) (Marked mark_comma) (each_len s g (take i xs)) (each_words (map g (take i xs)))
      ∙ ap (λ (y : List Piece). changes k M ++ changes (k + each_len s g (take i xs) + 1) y) (append-nil X) ∙ ap (λ (j : ℕ). changes k M ++ changes (j + 1) X) (sym n))

  -- a list with nothing between its parts
  all_start : (o : List Change) (k : ℕ) → o ≡ o ++ changes k (all_pieces f (map g []))
  unfolding all_pieces changes
  all_start o k = sym (append-nil o)

  all_next : (o o1 o2 : List Change) (xs : List R) (i : ℕ) (d : R) (k next : ℕ) → i < length xs → next ≡ k + all_len s g (take i xs) →
      o1 ≡ o ++ changes k (all_pieces f (map g (take i xs))) → o2 ≡ o1 ++ changes next (f (g (get_or xs i d))) → o2 ≡ o ++ changes k (all_pieces f (map g (take (i + 1) xs)))
  all_next o o1 o2 xs i d k next l n a b =
      let M : List Piece = all_pieces f (map g (take i xs)) in
      let X : List Piece = f (g (get_or xs i d)) in
      two o o1 o2 (changes k M) (changes next X) _ a b
      (ap (λ (ys : List R). changes k (all_pieces f (map g ys))) (up_to xs i d l) ∙ ap (changes k) (all_snoc (take i xs) (get_or xs i d)) ∙ changes_join k M X
      ∙ ap (λ (j : ℕ). changes k M ++ changes j X) (ap (λ (j : ℕ). k + j) (all_words (map g (take i xs))) ∙ sym n))

  -- the same where the numbers of their tokens tell where the parts stand
  module _ (N : A → ℕ → Type 0) where
    each_at : (xs : List R) (i : ℕ) (d : R) (at : ℕ) → i < length xs → NumberedEach s N (map g xs) at → N (g (get_or xs i d)) (at + each_len s g (take i xs) + 1)
    unfolding NumberedEach spell_each
    each_at [] i d at l n = absurd (omega (arith, l))
    each_at (x ∷ xs) zero d at l n = subst (N (g x)) (omega arith) n.0
    each_at (x ∷ xs) (suc i) d at l n =
        let a = length-append (s (g x)) (spell_each s (map g (take i xs))) in
        subst (N (g (get_or xs i d))) (omega (arith, a)) (each_at xs i d (at + 1 + length (s (g x))) (omega (arith, l)) n.1)

    all_at : (xs : List R) (i : ℕ) (d : R) (at : ℕ) → i < length xs → NumberedAll s N (map g xs) at → N (g (get_or xs i d)) (at + all_len s g (take i xs))
    unfolding NumberedAll spell_all
    all_at [] i d at l n = absurd (omega (arith, l))
    all_at (x ∷ xs) zero d at l n = subst (N (g x)) (omega arith) n.0
    all_at (x ∷ xs) (suc i) d at l n =
        let a = length-append (s (g x)) (spell_all s (map g (take i xs))) in
        subst (N (g (get_or xs i d))) (omega (arith, a)) (all_at xs i d (at + length (s (g x))) (omega (arith, l)) n.1)

    -- the first parts of a list
    abbrev pub EachTo : List Change → List Change → List R → ℕ → Type 0
    EachTo o o' xs i = Adds o o' (NumberedEach s N (map g xs)) (each_pieces f (map g (take i xs)))

    abbrev pub AllTo : List Change → List Change → List R → ℕ → Type 0
    AllTo o o' xs i = Adds o o' (NumberedAll s N (map g xs)) (all_pieces f (map g (take i xs)))

    pub each_none : (o : List Change) (xs : List R) → EachTo o o xs 0
    each_none o [] at n = each_start o at
    each_none o (x ∷ xs) at n = each_start o at

    pub each_more : (o o1 o2 : List Change) (xs : List R) (i : ℕ) (d : R) → i < length xs → EachTo o o1 xs i → Adds o1 o2 (N (g (get_or xs i d))) (f (g (get_or xs i d))) → EachTo o o2 xs (i + 1)
    each_more o o1 o2 xs i d l a b at n = each_next o o1 o2 xs i d at (at + each_len s g (take i xs)) l refl (a at n) (b (at + each_len s g (take i xs) + 1) (each_at xs i d at l n))

    pub each_full : (o o' : List Change) (xs : List R) (i : ℕ) → length xs ≤ i → EachTo o o' xs i → Adds o o' (NumberedEach s N (map g xs)) (each_pieces f (map g xs))
    each_full o o' xs i l a at n = a at n ∙ ap (λ (ys : List R). o ++ changes at (each_pieces f (map g ys))) (take_all i xs l)

    pub all_none : (o : List Change) (xs : List R) → AllTo o o xs 0
    all_none o [] at n = all_start o at
    all_none o (x ∷ xs) at n = all_start o at

    pub all_more : (o o1 o2 : List Change) (xs : List R) (i : ℕ) (d : R) → i < length xs → AllTo o o1 xs i → Adds o1 o2 (N (g (get_or xs i d))) (f (g (get_or xs i d))) → AllTo o o2 xs (i + 1)
    all_more o o1 o2 xs i d l a b at n = all_next o o1 o2 xs i d at (at + all_len s g (take i xs)) l refl (a at n) (b (at + all_len s g (take i xs)) (all_at xs i d at l n))

    pub all_full : (o o' : List Change) (xs : List R) (i : ℕ) → length xs ≤ i → AllTo o o' xs i → Adds o o' (NumberedAll s N (map g xs)) (all_pieces f (map g xs))
    all_full o o' xs i l a at n = a at n ∙ ap (λ (ys : List R). o ++ changes at (all_pieces f (map g ys))) (take_all i xs l)

-- each part of a list is shorter than the list with its marks
pub each_short : {R A : Type 0} (s : A → List Word) (g : R → A) (xs : List R) (i : ℕ) (d : R) → i < length xs → length (s (g (get_or xs i d))) ≤ length (spell_each s (map g xs))
each_short s g xs i d l = let w = sum_within_at (each_len s g) (comma_len s g) (each_sum s g) xs i l d in omega (arith, w)

pub all_short : {R A : Type 0} (s : A → List Word) (g : R → A) (xs : List R) (i : ℕ) (d : R) → i < length xs → length (s (g (get_or xs i d))) ≤ length (spell_all s (map g xs))
all_short s g xs i d l = let w = sum_within_at (all_len s g) (own_len s g) (all_sum s g) xs i l d in omega (arith, w)

-- parts with commas between, and with a mark before the first
pub separated_each : {A : Type 0} (s : A → List Word) (N : A → ℕ → Type 0) (xs : List A) (at : ℕ) → NumberedSeparated s N xs (at + 1) → NumberedEach s N xs at
unfolding NumberedSeparated NumberedEach
separated_each s N [] at n = tt
separated_each s N (x ∷ xs) at n = n

-- numbered parts that keep a rule each
pub each_both : {A : Type 0} (s : A → List Word) (W : A → Type 0) (N : A → ℕ → Type 0) (xs : List A) (at : ℕ) → AllByRecursion W xs → NumberedEach s N xs at → NumberedEach s (λ x n. W x × N x n) xs at
unfolding NumberedEach
each_both s W N [] at w n = tt
each_both s W N (x ∷ xs) at w n = ((w.0, n.0), each_both s W N xs (at + 1 + length (s x)) w.1 n.1)

pub all_both : {A : Type 0} (s : A → List Word) (W : A → Type 0) (N : A → ℕ → Type 0) (xs : List A) (at : ℕ) → AllByRecursion W xs → NumberedAll s N xs at → NumberedAll s (λ x n. W x × N x n) xs at
unfolding NumberedAll
all_both s W N [] at w n = tt
all_both s W N (x ∷ xs) at w n = ((w.0, n.0), all_both s W N xs (at + length (s x)) w.1 n.1)
