-- The lines of the order, each with its joined id.
use Rattle.std.proofs.Common.{◌≡◌, ℕ, ◌+◌, ◌<◌, ◌≤◌, List, length, get_or, take, refl, sym, ◌∙◌, ap, subst, arith}
use Rattle.std.specs.Prelude.{Contains}
use Rattle.std.proofs.lemmas.List.{get_or-map, length-take-le}
use Rattle.rr_cnf.specs.Clauses.{Clauses}
use Rattle.rr_derive.specs.Derive.{Step}
use Rattle.rr_rounds.specs.declared.place.Place.{Place}
use Rattle.rr_rounds.specs.States.{State, line_of}
use Rattle.rr_rounds.specs.Joined.{IsLine, in_order, joined, joined_id, joined_step}
use Rattle.rr_rounds.specs.Rounds.{Reached}
use Rattle.rr_rounds.proofs.Standing.{listed, standing}
use Rattle.rr_rounds.proofs.Reaching.{lawful}

abbrev pub no_place : Place
no_place = record { member = 0; line = 0 }

-- a line of the order, and its joined id
pub record Numbered (f : Clauses) (s : State) (i : ℕ) (p : Place) : Type 0 where
  pub line : IsLine s p
  pub round : (line_of s p).round ≤ s.round
  pub id : joined_id f s p ≡ length f.clauses + 1 + i

pub numbered : (f : Clauses) (s : State) (order : List Place) → order ≡ in_order s → (i : ℕ) (d : Place) → i < length order → Numbered f s i (get_or order i d)
numbered f s order is i d h =
    let inside : i < length (in_order s) = subst (λ xs. i < length xs) is h in
    let a = standing s i inside in
    let at : get_or order i d ≡ a.place = ap (λ xs. get_or xs i d) is ∙ a.is d in
    let size : length (take i (in_order s)) ≡ i = length-take-le i (in_order s) (omega arith) in
    subst (Numbered f s i) (sym at) (record { line = a.at; round = a.round; id = ap (λ xs. length f.clauses + 1 + length xs) (sym a.earlier) ∙ ap (λ n. length f.clauses + 1 + n) size })

-- each line is listed once, and numbered by its place
pub lists_all : (f : Clauses) (inputs count : ℕ) (s : State) → Reached f inputs count s
    → ((p : Place) → IsLine s p → Contains (in_order s) p)
    × ((j k : ℕ) (d e : Place) → j < k → k < length (in_order s) → get_or (in_order s) j d ≡ get_or (in_order s) k e → ⊥)
    × ((k : ℕ) (d : Step) → k < length (in_order s) → (get_or (joined f s) k d).id ≡ length f.clauses + 1 + k)
lists_all f inputs count s r = (
  λ p l. listed s p l ((lawful f inputs count s r p.member).upto p.line l.inside),
  λ j k d e a h q.
      let m = numbered f s (in_order s) refl j d (omega arith) in
      let n = numbered f s (in_order s) refl k e h in
      (let x = m.id in let y = n.id in let z = ap (joined_id f s) q in omega (arith, x, y, z, a)),
  λ k d h. ap (λ (x : Step). x.id) (get_or-map (joined_step f s) (in_order s) k no_place d h) ∙ (numbered f s (in_order s) refl k no_place h).id,
)
