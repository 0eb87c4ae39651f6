-- the clauses at hand, as they are read in the formula and among those that were added
use Rattle.std.proofs.Common.{◌≡◌, ℕ, suc, zero, ◌+◌, ◌-◌, ◌<◌, ◌≤◌, List, [], ◌∷◌, ◌++◌, length, get_or, set, take, drop, map, refl, sym, ◌∙◌, ap, arith}
use Rattle.std.specs.Prelude.{All}
use Rattle.std.proofs.lemmas.List.{take_more, take_all, take-append-le, drop-append-le, drop_at, length-drop, length-set, length-take-le, length-map, length-append, get_or-map, get_or-take, get_or_append_left, get_or-append_right, map-set, map_push, append_assoc, append-nil, set-append_left, set-append_right, nil_from_length}
use Rattle.std.proofs.lemmas.List.Elements.{All-get_or, All-head, All-tail}
use Rattle.rr_cnf.specs.Clauses.{Literal}
use Rattle.rr_watch_lists.specs.Numbers.{Numbered, numbered_from}
use Rattle.rr_watch_lists.specs.Holdings.{Held, IsHand, IsInside, held_at, holds, of_added, of_formula, watching}
use Rattle.rr_watch_lists.specs.declared.hand.Added.{Added}
use Rattle.rr_watch_lists.specs.declared.hand.Watched.{Watched}

pub watching_length : (ns : List Numbered) (ws : List Watched) → length ws ≡ length ns → length (watching ns ws) ≡ length ws
watching_length [] [] h = refl
watching_length [] (w ∷ ws) h = absurd (omega (arith, h))
watching_length (n ∷ ns) [] h = refl
watching_length (n ∷ ns) (w ∷ ws) h = ap suc (watching_length ns ws (omega (arith, h)))

abbrev pub watcher : Numbered → Watched → Held
watcher n w = record { id = n.id; clause = n.clause; first = w.first; second = w.second }

pub watching_at : (ns : List Numbered) (ws : List Watched) (k : ℕ) (n : Numbered) (w : Watched) → length ws ≡ length ns → k < length ws → held_at (watching ns ws) k ≡ watcher (get_or ns k n) (get_or ws k w)
watching_at [] ws k n w h b = absurd (omega (arith, h, b))
watching_at (m ∷ ns) [] k n w h b = absurd (omega (arith, h, b))
watching_at (m ∷ ns) (v ∷ ws) zero n w h b = refl
watching_at (m ∷ ns) (v ∷ ws) (suc k) n w h b = watching_at ns ws k n w (omega (arith, h)) (omega (arith, b))

pub watching_set : (ns : List Numbered) (ws : List Watched) (k : ℕ) (w : Watched) → length ws ≡ length ns → k < length ws → watching ns (set ws k w) ≡ set (watching ns ws) k (record (held_at (watching ns ws) k) { first = w.first; second = w.second })
watching_set [] ws k w h b = absurd (omega (arith, h, b))
watching_set (m ∷ ns) [] k w h b = absurd (omega (arith, h, b))
watching_set (m ∷ ns) (v ∷ ws) zero w h b = refl
watching_set (m ∷ ns) (v ∷ ws) (suc k) w h b = ap (λ x. watcher m v ∷ x) (watching_set ns ws k w (omega (arith, h)) (omega (arith, b)))

pub watching_push : (ns : List Numbered) (ws : List Watched) (n : Numbered) (w : Watched) → length ws ≡ length ns → watching (ns ++ n ∷ []) (ws ++ w ∷ []) ≡ watching ns ws ++ watcher n w ∷ []
watching_push [] [] n w h = refl
watching_push [] (v ∷ ws) n w h = absurd (omega (arith, h))
watching_push (m ∷ ns) [] n w h = absurd (omega (arith, h))
watching_push (m ∷ ns) (v ∷ ws) n w h = ap (λ x. watcher m v ∷ x) (watching_push ns ws n w (omega (arith, h)))

-- the formula's clauses with their numbers
pub numbered_length : (n : ℕ) (cs : List (List Literal)) → length (numbered_from n cs) ≡ length cs
numbered_length n [] = refl
numbered_length n (c ∷ cs) = ap suc (numbered_length (n + 1) cs)

pub numbered_at : (n : ℕ) (cs : List (List Literal)) (k : ℕ) (d : Numbered) (e : List Literal) → k < length cs → get_or (numbered_from n cs) k d ≡ record { id = n + k; clause = get_or cs k e }
numbered_at n [] k d e b = absurd (omega arith)
numbered_at n (c ∷ cs) zero d e b = (let s : n ≡ n + 0 = omega arith in ap (λ i. record { id = i; clause = c }) s)
numbered_at n (c ∷ cs) (suc k) d e b = (let s : n + 1 + k ≡ n + suc k = omega arith in numbered_at (n + 1) cs k d e (omega arith) ∙ ap (λ i. record { id = i; clause = get_or cs k e }) s)

pub numbered_push : (n : ℕ) (cs : List (List Literal)) (c : List Literal) → numbered_from n (cs ++ c ∷ []) ≡ numbered_from n cs ++ record { id = n + length cs; clause = c } ∷ []
numbered_push n [] c = ap (λ k. record { id = k; clause = c } ∷ []) (omega arith)
numbered_push n (x ∷ xs) c =
    let e : n + 1 + length xs ≡ n + length (x ∷ xs) = omega arith in
    ap (λ t. record { id = n; clause = x } ∷ t) (numbered_push (n + 1) xs c ∙ ap (λ k. numbered_from (n + 1) xs ++ record { id = k; clause = c } ∷ []) e)

-- the literals of one clause among those of all
pub inside_more : (lits c : List Literal) (a : Added) → IsInside lits a → of_added (lits ++ c) a ≡ of_added lits a
inside_more lits c a i =
    let e : take (a.end - a.start) (drop a.start (lits ++ c)) ≡ take (a.end - a.start) (drop a.start lits) =
    ap (take (a.end - a.start)) (drop-append-le a.start lits c (omega (arith, i.order, i.end)))
    ∙ take-append-le (a.end - a.start) (drop a.start lits) c (omega (arith, i.order, i.end, length-drop a.start lits)) in
    ap (λ x. record { id = a.id; clause = x; first = a.watched.first; second = a.watched.second }) e

pub inside_all : (lits c : List Literal) (added : List Added) → All (IsInside lits) added → map (of_added (lits ++ c)) added ≡ map (of_added lits) added
inside_all lits c [] h = refl
inside_all lits c (a ∷ added) h = ap (λ x. x ∷ map (of_added (lits ++ c)) added) (inside_more lits c a (All-head (IsInside lits) a added h)) ∙ ap (λ x. of_added lits a ∷ x) (inside_all lits c added (All-tail (IsInside lits) a added h))

pub inside_new : (lits c : List Literal) (n m : ℕ) → n ≡ length lits → m ≡ length lits + length c → take (m - n) (drop n (lits ++ c)) ≡ c
inside_new lits c n m start end = ap (take (m - n)) (drop_at lits c n (sym start)) ∙ take_all (m - n) c (omega (arith, start, end))

-- what is read at a place
module _ (fs : List (List Literal)) (ws : List Watched) (added : List Added) (lits : List Literal) (h : IsHand fs ws added lits) where
  abbrev numbers : List Numbered
  numbers = numbered_from 1 (take (length ws) fs)

  same : length ws ≡ length numbers
  same = sym (numbered_length 1 (take (length ws) fs) ∙ length-take-le (length ws) fs h.few)

  front_length : length (of_formula fs ws) ≡ length ws
  front_length = watching_length numbers ws same

  pub hand_length : length (holds fs ws added lits) ≡ length ws + length added
  hand_length = omega (arith, length-append (of_formula fs ws) (map (of_added lits) added), front_length, length-map added (of_added lits))

  pub hand_front : (k : ℕ) (e : List Literal) (w : Watched) → k < length ws → held_at (holds fs ws added lits) k ≡ record { id = k + 1; clause = get_or fs k e; first = (get_or ws k w).first; second = (get_or ws k w).second }
  hand_front k e w b =
      let n : Numbered = record { id = 0; clause = [] } in
      let s : 1 + k ≡ k + 1 = omega arith in
      get_or_append_left (of_formula fs ws) (map (of_added lits) added) _ k (omega (arith, b, front_length))
      ∙ watching_at numbers ws k n w same b
      ∙ ap (λ x. watcher x (get_or ws k w)) (numbered_at 1 (take (length ws) fs) k n e (omega (arith, b, length-take-le (length ws) fs h.few)))
      ∙ ap (λ c. watcher (record { id = 1 + k; clause = c }) (get_or ws k w)) (get_or-take (length ws) fs k e b)
      ∙ ap (λ i. watcher (record { id = i; clause = get_or fs k e }) (get_or ws k w)) s

  pub hand_behind : (k : ℕ) → length ws ≤ k → k < length (holds fs ws added lits) → k - length ws < length added
  hand_behind k low b = omega (arith, low, b, hand_length)

  pub hand_back : (k : ℕ) (a : Added) → length ws ≤ k → k < length (holds fs ws added lits) → held_at (holds fs ws added lits) k ≡ of_added lits (get_or added (k - length ws) a)
  hand_back k a low b =
      get_or-append_right (of_formula fs ws) (map (of_added lits) added) (length ws) k _ front_length low
      ∙ get_or-map (of_added lits) added (k - length ws) a _ (hand_behind k low b)

  pub hand_inside : (k : ℕ) (a : Added) → length ws ≤ k → k < length (holds fs ws added lits) → IsInside lits (get_or added (k - length ws) a)
  hand_inside k a low b = All-get_or (IsInside lits) added (k - length ws) a (hand_behind k low b) h.inside

  pub hand_set_front : (k : ℕ) (w : Watched) → k < length ws → holds fs (set ws k w) added lits ≡ set (holds fs ws added lits) k (record (held_at (holds fs ws added lits) k) { first = w.first; second = w.second })
  hand_set_front k w b =
      let fl : k < length (of_formula fs ws) = omega (arith, b, front_length) in
      let here = get_or_append_left (of_formula fs ws) (map (of_added lits) added) (record { id = 0; clause = []; first = 0; second = 0 }) k fl in
      ap (λ n. watching (numbered_from 1 (take n fs)) (set ws k w) ++ map (of_added lits) added) (length-set ws k w)
      ∙ ap (λ x. x ++ map (of_added lits) added) (watching_set numbers ws k w same b)
      ∙ ap (λ (x : Held). set (of_formula fs ws) k (record x { first = w.first; second = w.second }) ++ map (of_added lits) added) (sym here)
      ∙ sym (set-append_left (of_formula fs ws) (map (of_added lits) added) k _ fl)

  pub hand_set_back : (k : ℕ) (a : Added) (w : Watched) → length ws ≤ k → k < length (holds fs ws added lits) → holds fs ws (set added (k - length ws) (record (get_or added (k - length ws) a) { watched = w })) lits ≡ set (holds fs ws added lits) k (record (held_at (holds fs ws added lits) k) { first = w.first; second = w.second })
  hand_set_back k a w low b =
      ap (λ x. of_formula fs ws ++ x) (map-set (of_added lits) added (k - length ws) (record (get_or added (k - length ws) a) { watched = w }))
      ∙ ap (λ (x : Held). of_formula fs ws ++ set (map (of_added lits) added) (k - length ws) (record x { first = w.first; second = w.second })) (sym (hand_back k a low b))
      ∙ sym (set-append_right (of_formula fs ws) (map (of_added lits) added) (length ws) k _ front_length low)

  pub hand_more : (c : List Literal) (a : Added) (w : Watched) → a.start ≡ length lits → a.end ≡ length lits + length c → a.watched ≡ w → holds fs ws (added ++ a ∷ []) (lits ++ c) ≡ holds fs ws added lits ++ record { id = a.id; clause = c; first = w.first; second = w.second } ∷ []
  hand_more c a w start end on =
      let e : of_added (lits ++ c) a ≡ record { id = a.id; clause = c; first = w.first; second = w.second } =
      ap (λ x. record { id = a.id; clause = x; first = a.watched.first; second = a.watched.second }) (inside_new lits c a.start a.end start end)
      ∙ ap (λ (x : Watched). record { id = a.id; clause = c; first = x.first; second = x.second }) on in
      ap (λ x. of_formula fs ws ++ x) (map_push (of_added (lits ++ c)) added a)
      ∙ ap (λ x. of_formula fs ws ++ (x ++ of_added (lits ++ c) a ∷ [])) (inside_all lits c added h.inside)
      ∙ ap (λ x. of_formula fs ws ++ (map (of_added lits) added ++ x ∷ [])) e
      ∙ sym (append_assoc (of_formula fs ws) (map (of_added lits) added) (record { id = a.id; clause = c; first = w.first; second = w.second } ∷ []))

  pub hand_next : (w : Watched) → length ws < length fs → length (holds fs ws added lits) ≡ length ws → holds fs (ws ++ w ∷ []) added lits ≡ holds fs ws added lits ++ record { id = length ws + 1; clause = get_or fs (length ws) []; first = w.first; second = w.second } ∷ []
  hand_next w b all =
      let none : added ≡ [] = nil_from_length added (omega (arith, all, hand_length)) in
      let c = get_or fs (length ws) [] in
      let long : length (ws ++ w ∷ []) ≡ length ws + 1 = omega (arith, length-append ws (w ∷ [])) in
      let id : 1 + length (take (length ws) fs) ≡ length ws + 1 = omega (arith, length-take-le (length ws) fs h.few) in
      let more : of_formula fs (ws ++ w ∷ []) ≡ of_formula fs ws ++ record { id = length ws + 1; clause = c; first = w.first; second = w.second } ∷ [] =
      ap (λ n. watching (numbered_from 1 (take n fs)) (ws ++ w ∷ [])) long
      ∙ ap (λ x. watching (numbered_from 1 x) (ws ++ w ∷ [])) (take_more fs (length ws) [] b)
      ∙ ap (λ x. watching x (ws ++ w ∷ [])) (numbered_push 1 (take (length ws) fs) c ∙ ap (λ i. numbers ++ record { id = i; clause = c } ∷ []) id)
      ∙ watching_push numbers ws (record { id = length ws + 1; clause = c }) w same in
      ap (λ x. of_formula fs (ws ++ w ∷ []) ++ map (of_added lits) x) none
      ∙ append-nil (of_formula fs (ws ++ w ∷ []))
      ∙ more
      ∙ ap (λ x. x ++ record { id = length ws + 1; clause = c; first = w.first; second = w.second } ∷ []) (sym (append-nil (of_formula fs ws)))
      ∙ ap (λ x. (of_formula fs ws ++ map (of_added lits) x) ++ record { id = length ws + 1; clause = c; first = w.first; second = w.second } ∷ []) (sym none)
