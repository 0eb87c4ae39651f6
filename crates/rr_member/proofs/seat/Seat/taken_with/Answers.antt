use Rattle.std.proofs.Common.{◌≡◌, ◌<◌, get_or, length, sym, subst}
use Rattle.std.specs.Prelude.{ℕ, IfNone, IfSome, Option, Some, None}
use Rattle.rr_rounds.specs.States.{taken}
use Rattle.rr_member.specs.Seats.{member_of, with_origins}
use Rattle.rr_rounds.specs.Rounds.{AreApart}
use Rattle.rr_member.specs.declared.seat.Origin.{Origin}
use Rattle.rr_member.proofs.Sitting.{origins_rise, taken_found, taken_none}
use Rattle.rr_member.proofs.seat.Seat.taken_with.Goals as goal

pub origin_position-requires : goal.origin_position-requires
origin_position-requires c =
    let i = c.self.inside in
    let apart = subst (λ v. AreApart (member_of v)) (sym c.self.view_is) c.requires in
    subst (λ os. (j k : ℕ) (d e : Origin) → j < k → k < length os → (get_or os j d).id < (get_or os k e).id) (sym c.as_slice.ensures.value)
    (origins_rise i.solver i.rounds.items i.origins.items i.stepped c.self.invariant apart.clauses)

some_by : (r : Option ℕ) (P Q : ℕ → Type 0) → ((k : ℕ) → P k → Q k) → IfSome r P → IfSome r Q
some_by None P Q f p = p
some_by (Some k) P Q f p = f k p

none_by : (r : Option ℕ) (P Q : Type 0) → (P → Q) → IfNone r P → IfNone r Q
none_by None P Q f p = f p
none_by (Some k) P Q f p = p

pub returns : goal.returns
returns c =
    let i = c.self.inside in
    let e = c.origin_position.ensures in
    let r = c.origin_position.result in
    record {
      found = subst (λ v. IfSome r (λ k. (k < length (with_origins v.origins v.search.handed)) × ((taken (member_of v) k).handed.id ≡ c.args.id))) c.self.view_is
          (some_by r (λ k. (k < length c.as_slice.result.now) × ((d : Origin) → (get_or c.as_slice.result.now k d).id ≡ c.args.id)) _
          (λ k w. taken_found i.solver i.rounds.items i.origins.items i.stepped c.self.invariant k c.args.id (subst (λ os. (k < length os) × ((d : Origin) → (get_or os k d).id ≡ c.args.id)) c.as_slice.ensures.value w)) e.found);
      none = subst (λ v. IfNone r ((k : ℕ) → k < length (with_origins v.origins v.search.handed) → (taken (member_of v) k).handed.id ≡ c.args.id → ⊥)) c.self.view_is
          (none_by r ((k : ℕ) (d : Origin) → k < length c.as_slice.result.now → (get_or c.as_slice.result.now k d).id ≡ c.args.id → ⊥) _
          (λ w. taken_none i.solver i.rounds.items i.origins.items i.stepped c.self.invariant c.args.id (subst (λ os. (k : ℕ) (d : Origin) → k < length os → (get_or os k d).id ≡ c.args.id → ⊥) c.as_slice.ensures.value w)) e.none);
    }
