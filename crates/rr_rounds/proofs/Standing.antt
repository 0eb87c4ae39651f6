-- where a line stands among all lines
use Rattle.std.proofs.Common.{◌≡◌, ℕ, suc, ◌<◌, ◌≤◌, Bool, true, false, cond, List, [], ◌∷◌, ◌++◌, length, get_or, take, refl, sym, ◌∙◌, ap, subst, arith}
use Rattle.std.specs.Prelude.{Contains, ◌==◌}
use Rattle.std.proofs.lemmas.Bool.{eqb-true, eq-eqb, cond-true}
use Rattle.std.proofs.lemmas.List.{append-nil}
use Rattle.std.proofs.lemmas.List.Elements.{Contains-append_left, Contains-append_right}
use Rattle.rr_rounds.specs.States.{State, learned, line_of, member}
use Rattle.rr_rounds.specs.declared.place.Place.{Place}
use Rattle.rr_rounds.specs.Joined.{IsLine, flat, here, in_order, of_member, of_round, standing_before}
use Rattle.rr_rounds.proofs.Flat.{found, get_or-flat, take-flat, Contains-flat}

-- a list of one, or none
one_inside : {X : Type 0} (b : Bool) (x : X) (q : ℕ) → q < length (cond b (x ∷ []) []) → (b ≡ true) × (q ≡ 0)
one_inside true x q h = (refl, omega arith)
one_inside false x q h = absurd (omega arith)

one_Contains : {X : Type 0} (b : Bool) (x : X) → b ≡ true → Contains (cond b (x ∷ []) []) x
one_Contains b x e = subst (λ (xs : List _). Contains xs x) (sym (cond-true b (x ∷ []) [] e)) (0, omega arith, refl)

-- the line at this place of the order, and the lines before it
pub record Standing (s : State) (p : ℕ) : Type 0 where
  pub place : Place
  pub at : IsLine s place
  pub round : (line_of s place).round ≤ s.round
  pub is : (d : Place) → get_or (in_order s) p d ≡ place
  pub earlier : take p (in_order s) ≡ standing_before s place

module _ (s : State) where
  here_holds : (p : Place) → Contains (here (line_of s p).round p.member (member s p.member) p.line) p
  here_holds p = one_Contains ((line_of s p).round == (line_of s p).round) p (eq-eqb (line_of s p).round (line_of s p).round refl)

  in_member : (p : Place) → IsLine s p → Contains (of_member s (line_of s p).round p.member) p
  in_member p h = Contains-flat (here (line_of s p).round p.member (member s p.member)) (length (member s p.member).lines) p.line h.inside p (here_holds p)

  in_round : (p : Place) → IsLine s p → Contains (of_round s (line_of s p).round) p
  in_round p h = Contains-flat (of_member s (line_of s p).round) (length s.members) p.member h.low p (in_member p h)

  -- each line of the rounds so far is listed
  pub listed : (p : Place) → IsLine s p → (line_of s p).round ≤ s.round → Contains (in_order s) p
  listed p h r = Contains-flat (of_round s) (suc s.round) (line_of s p).round (omega arith) p (in_round p h)

  -- lines of earlier rounds stand before
  pub earlier_round : (p q : Place) → IsLine s q → (line_of s q).round < (line_of s p).round → Contains (standing_before s p) q
  earlier_round p q h r =
      Contains-append_left (flat (line_of s p).round (of_round s)) _ q
      (Contains-flat (of_round s) (line_of s p).round (line_of s q).round r q (in_round q h))

  -- earlier lines of the same member and round stand before
  pub earlier_line : (p : Place) (j : ℕ) → j < p.line → (learned (member s p.member) j).round ≡ (line_of s p).round → Contains (standing_before s p) (record { member = p.member; line = j })
  earlier_line p j l e =
      let q : Place = record { member = p.member; line = j } in
      Contains-append_right (flat (line_of s p).round (of_round s)) _ q
      (Contains-append_right (flat p.member (of_member s (line_of s p).round)) _ q
      (Contains-flat (here (line_of s p).round p.member (member s p.member)) p.line j l q
      (subst (λ r. Contains (here r p.member (member s p.member) j) q) e (here_holds q))))

  pub standing : (p : ℕ) → p < length (in_order s) → Standing s p
  standing p h =
      let a = found (of_round s) (suc s.round) p h in
      let b = found (of_member s a.index) (length s.members) a.offset a.inside in
      let c = found (here a.index b.index (member s b.index)) (length (member s b.index).lines) b.offset b.inside in
      let x : Place = record { member = b.index; line = c.index } in
      let w = one_inside ((learned (member s b.index) c.index).round == a.index) x c.offset c.inside in
      let e : (line_of s x).round ≡ a.index = eqb-true (line_of s x).round a.index w.0 in
      record {
        place = x;
        at = record { low = b.low; inside = c.low };
        round = omega (arith, a.low, e);
        is = λ d.
            ap (λ n. get_or (in_order s) n d) a.is
            ∙ get_or-flat (of_round s) (suc s.round) a.index a.low a.offset d a.inside
            ∙ ap (λ n. get_or (of_round s a.index) n d) b.is
            ∙ get_or-flat (of_member s a.index) (length s.members) b.index b.low b.offset d b.inside
            ∙ ap (λ n. get_or (of_member s a.index b.index) n d) c.is
            ∙ get_or-flat (here a.index b.index (member s b.index)) (length (member s b.index).lines) c.index c.low c.offset d c.inside
            ∙ ap (λ n. get_or (here a.index b.index (member s b.index) c.index) n d) w.1
            ∙ ap (λ (xs : List Place). get_or xs 0 d) (cond-true _ (x ∷ []) [] w.0);
        earlier = subst (λ r. take p (in_order s) ≡ flat r (of_round s) ++ (flat b.index (of_member s r) ++ flat c.index (here r b.index (member s b.index)))) (sym e)
            (ap (λ n. take n (in_order s)) a.is
            ∙ take-flat (of_round s) (suc s.round) a.index a.low a.offset (omega (arith, a.inside))
            ∙ ap (λ y. flat a.index (of_round s) ++ y)
            (ap (λ n. take n (of_round s a.index)) b.is
            ∙ take-flat (of_member s a.index) (length s.members) b.index b.low b.offset (omega (arith, b.inside))
            ∙ ap (λ y. flat b.index (of_member s a.index) ++ y)
            (ap (λ n. take n (of_member s a.index b.index)) c.is
            ∙ take-flat (here a.index b.index (member s b.index)) (length (member s b.index).lines) c.index c.low c.offset (omega (arith, c.inside))
            ∙ ap (λ n. flat c.index (here a.index b.index (member s b.index)) ++ take n (here a.index b.index (member s b.index) c.index)) w.1
            ∙ append-nil (flat c.index (here a.index b.index (member s b.index))))));
      }
