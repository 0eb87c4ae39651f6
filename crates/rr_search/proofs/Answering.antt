-- from the outcomes of questions to the answers
use Rattle.std.proofs.Common.{◌≡◌, ℕ, ◌-◌, ◌<◌, ◌≤◌, ◌↔◌, Bool, true, false, List, [], ◌∷◌, length, replicate, All, sym, subst, ◌∙◌, ap, arith}
use Rattle.std.specs.Prelude.{Option}
use Rattle.std.proofs.lemmas.List.{get_or_default}
use Rattle.std.proofs.lemmas.List.Sums.{count_by-le-length}
use Rattle.rr_circuit.specs.Values.{OutputNetlist}
use Rattle.rr_derive.specs.Derive.{Step}
use Rattle.rr_choice_bits.proofs.CodeLaws.{free_zeros, length_choice}
use Rattle.rr_choice.specs.declared.pick.Choice.{Choice}
use Rattle.rr_choice.specs.declared.pick.Pick.{Pick}
use Rattle.rr_choice.specs.Choices.{cost, decode, total_bits, IsChoice}
use Rattle.rr_choice.specs.Sites.{Site}
use Rattle.rr_instance_laws.proofs.DecodeLaws.{decoded_choice}
use Rattle.rr_transition.specs.Cycles.{Design, instance_design}
use Rattle.rr_unroll.specs.Matches.{Matches}
use Rattle.rr_search.specs.declared.answer.Answer.{Answer}
use Rattle.rr_search.specs.declared.answer.Answer.TheVariants.{Unchanged, Repair, NoRepair, Spent}
use Rattle.rr_search.specs.Answers.{Task, AnswerIs, IsOf, IsOpenBelow, IsUnchanged, IsFine, IsRefuted, IsRepair, IsBeyondRepair, IsFound, IsLeftOpen, FoundIs, Mends}
use Rattle.rr_search.specs.Replies.{AreFaulty, IsClosed, IsMending, IsOpen, choice_at}
use Rattle.rr_search.proofs.Chain.{same_design}

-- a choice has no more switches on than there are sites
pub cost_within : (t : Task) (c : List Pick) → IsChoice t.sites c → cost c ≤ length t.sites
cost_within t c is = let l = length_choice t.sites c is in let k = count_by-le-length (λ (p : Pick). p.on) c in omega (arith, l, k)

-- each site has a switch
pub few_sites : (sites : List Site) → length sites ≤ total_bits sites
unfolding total_bits
few_sites [] = omega arith
few_sites (s ∷ ss) = let h = few_sites ss in omega (arith, h)

-- a design that matches as it is has the least cost 0
pub fine : (t : Task) (j : Design) → Matches j t.table → IsFine j t
fine t j m =
    let bits : List Bool = replicate (total_bits t.sites) false in
    let free = free_zeros t.sites (total_bits t.sites) in
    record {
      matches = m;
      least = record {
        reached = (decode t.sites bits, (decoded_choice t.sites bits, (free, subst (λ d. Matches d t.table) (sym (same_design j t.sites (decode t.sites bits) free)) m)));
        least = λ c is there. omega arith;
      };
    }

-- what costs nothing and mends shows that the design matches as it is
pub fine_by : (t : Task) (c : List Pick) → IsMending t c → cost c ≡ 0 → (j : Design) → IsOf t j → IsFine j t
fine_by t c m e j of = fine t j (subst (λ d. Matches d t.table) (same_design j t.sites c e) (m.mends j of))

pub repaired : (t : Task) → AreFaulty t → (c : List Pick) → IsMending t c → (k : ℕ) → 1 ≤ k → k ≡ cost c → (circuit : OutputNetlist) (lines : List Step) → IsClosed t (k - 1) circuit lines →
    (j : Design) → IsOf t j → IsRepair j t c k circuit lines
repaired t faulty c m k some e circuit lines closed j of = record {
  faulty = faulty j of;
  choice = m.choice;
  costs = sym e;
  some = some;
  mends = m.mends j of;
  least = record {
    reached = (c, (m.choice, (sym e, m.mends j of)));
    least = λ d is there. let l = closed.dearer j of d is there in omega (arith, l, some);
  };
  fewer = closed.refuted j of;
}

pub beyond : (t : Task) → AreFaulty t → (bound : ℕ) → bound ≡ length t.sites → (circuit : OutputNetlist) (lines : List Step) → IsClosed t bound circuit lines →
    (j : Design) → IsOf t j → IsBeyondRepair j t circuit lines
beyond t faulty bound e circuit lines closed j of = record {
  faulty = faulty j of;
  none = λ c is there. let l = closed.dearer j of c is there in let k = cost_within t c is in absurd (omega (arith, l, k, e));
  all = subst (λ n. IsRefuted j t n circuit lines) e (closed.refuted j of);
}

-- a choice that mends, of which fewer changes are asked
pub found_by : (t : Task) (c : List Pick) → IsMending t c → (k : ℕ) → 1 ≤ k → k ≤ length t.sites → k ≡ cost c → (j : Design) → IsOf t j → IsFound j t (k - 1) c
found_by t c m k some few e j of = record {
  below = omega (arith, some, few);
  choice = m.choice;
  costs = omega (arith, e, some);
  mends = m.mends j of;
}

pub left_open : (t : Task) → AreFaulty t → (bound : ℕ) → bound ≤ length t.sites → (circuit : OutputNetlist) (lines : List Step) → IsOpen t bound circuit lines →
    (found : Option Choice) → ((j : Design) → IsOf t j → FoundIs j t bound found) → (j : Design) → IsOf t j → IsLeftOpen j t bound circuit lines found
left_open t faulty bound few circuit lines left found is j of = record { faulty = faulty j of; few = few; faithful = left.faithful j of; spent = left.spent; found = is j of }

-- as many switches are off as there are bits
pub judged_free : (t : Task) (j : Design) (bits : List Bool) (n : ℕ) (r : Bool) → bits ≡ replicate n false → ((r ≡ true) ↔ Matches (instance_design t.sites (decode t.sites bits) j) t.table) → ((r ≡ true) ↔ Matches j t.table)
judged_free t j bits n r e h =
    let free : cost (decode t.sites bits) ≡ 0 = ap (λ bs. cost (decode t.sites bs)) e ∙ free_zeros t.sites n in
    subst (λ d. (r ≡ true) ↔ Matches d t.table) (same_design j t.sites (decode t.sites bits) free) h

-- an answer says that nothing changes exactly where the design matches as it is
pub unchanged_iff : (t : Task) (j : Design) (a : Answer) → AnswerIs t j a → (IsUnchanged a ↔ Matches j t.table)
unchanged_iff t j Unchanged h = (λ u. h.matches, λ m. tt)
unchanged_iff t j (Repair choice k circuit journal) h = (λ u. absurd u, λ m. h.faulty m)
unchanged_iff t j (NoRepair circuit journal) h = (λ u. absurd u, λ m. h.faulty m)
unchanged_iff t j (Spent bound circuit journal found) h = (λ u. absurd u, λ m. h.faulty m)

-- what is left open below a number is left open below a greater one
pub open_above : (a : Answer) (k n : ℕ) → k ≤ n → IsOpenBelow k a → IsOpenBelow n a
open_above Unchanged k n l h = tt
open_above (Repair choice cost circuit journal) k n l h = tt
open_above (NoRepair circuit journal) k n l h = tt
open_above (Spent bound circuit journal found) k n l h = omega (arith, l, h)

-- what holds of the choice at each place holds of each choice
each_choice : (P : List Pick → Type 0) (xs : List (List Pick)) → ((i : ℕ) → i < length xs → P (choice_at xs i)) → All P xs
each_choice P xs h = λ i d l. subst P (sym (get_or_default xs i d [] l)) (h i l)

pub open_below_each : (t : Task) (j : Design) → IsOf t j → (xs : List (List Pick)) (a : Answer) (k : ℕ) → ((i : ℕ) → i < length xs → Mends j t (choice_at xs i) → k ≤ cost (choice_at xs i)) → IsOpenBelow k a →
    All (λ (c : List Pick). Mends j t c → IsOpenBelow (cost c) a) xs
open_below_each t j of xs a k dear h = each_choice (λ (c : List Pick). Mends j t c → IsOpenBelow (cost c) a) xs (λ i l m. open_above a k (cost (choice_at xs i)) (dear i l m) h)

pub open_below_none : (t : Task) (j : Design) → IsOf t j → (xs : List (List Pick)) (a : Answer) → ((i : ℕ) → i < length xs → Mends j t (choice_at xs i) → ⊥) →
    All (λ (c : List Pick). Mends j t c → IsOpenBelow (cost c) a) xs
open_below_none t j of xs a none = each_choice (λ (c : List Pick). Mends j t c → IsOpenBelow (cost c) a) xs (λ i l m. absurd (none i l m))
