-- moves of different members may be exchanged
use Rattle.std.proofs.Common.{◌≡◌, ℕ, ◌<◌, length, set, sym, ◌∙◌, ap, subst, arith}
use Rattle.std.proofs.lemmas.List.{length-set, set_comm}
use Rattle.rr_cnf.specs.Clauses.{Clauses}
use Rattle.rr_rounds.specs.States.{State, member}
use Rattle.rr_rounds.specs.Joined.{joined}
use Rattle.rr_rounds.specs.Rounds.{IsMove, May, Move, after, moved}
use Rattle.rr_rounds.proofs.Reaching.{member_other}

-- a state with both moves made
both : State → Move → Move → State
both s u v = record s { members = set (set s.members u.member (after s.round (member s u.member) u.event)) v.member (after s.round (member s v.member) v.event) }

one_and_other : (s : State) (u v : Move) → u.member < length s.members → (u.member ≡ v.member → ⊥) → moved (moved s u) v ≡ both s u v
unfolding both
one_and_other s u v h ne = ap (λ m. record s { members = set (set s.members u.member (after s.round (member s u.member) u.event)) v.member (after s.round m v.event) }) (member_other s u h v.member (λ e. ne (sym e)))

exchanged : (s : State) (u v : Move) → (u.member ≡ v.member → ⊥) → both s v u ≡ both s u v
unfolding both
exchanged s u v ne = ap (λ ms. record s { members = ms }) (set_comm s.members v.member u.member (after s.round (member s v.member) v.event) (after s.round (member s u.member) u.event) (λ e. ne (sym e)))

pub events_commute : (f : Clauses) (inputs : ℕ) (s : State) (u v : Move) → (u.member ≡ v.member → ⊥)
    → IsMove f inputs s u × IsMove f inputs (moved s u) v
    → (IsMove f inputs s v × IsMove f inputs (moved s v) u)
    × (moved (moved s v) u ≡ moved (moved s u) v)
    × (joined f (moved (moved s v) u) ≡ joined f (moved (moved s u) v))
events_commute f inputs s u v ne w =
    let u_low = w.0.0 in
    let v_low : v.member < length s.members = omega (arith, w.1.0, length-set s.members u.member (after s.round (member s u.member) u.event)) in
    let may_v : May f inputs (member s v.member) v.event = subst (λ m. May f inputs m v.event) (member_other s u u_low v.member (λ e. ne (sym e))) w.1.1 in
    let may_u : May f inputs (member (moved s v) u.member) u.event = subst (λ m. May f inputs m u.event) (sym (member_other s v v_low u.member ne)) w.0.1 in
    let u_inside : u.member < length (moved s v).members = omega (arith, u_low, length-set s.members v.member (after s.round (member s v.member) v.event)) in
    let same : moved (moved s v) u ≡ moved (moved s u) v = one_and_other s v u v_low (λ e. ne (sym e)) ∙ exchanged s u v ne ∙ sym (one_and_other s u v u_low ne) in
    (((v_low, may_v), (u_inside, may_u)), same, ap (joined f) same)
