-- what a search for two or three literals of one bit asks
use Rattle.std.proofs.Common.{◌≡◌, ◌≤◌, [], ◌∷◌, refl, sym, ◌∙◌, ap}
use Rattle.rr_choice.specs.Choices.{total_bits}
use Rattle.rr_search.specs.Answers.{Task, IsTask}
use Rattle.rr_transition.specs.Cycles.{switch_places}
use Rattle.rr_search_tests.specs.Literals.{bit_at}

two_bits : total_bits (bit_at 0 ∷ bit_at 1 ∷ []) ≡ 4
unfolding total_bits
two_bits = refl

two_places : switch_places 0 (bit_at 0 ∷ bit_at 1 ∷ []) ≡ 0 ∷ 2 ∷ []
unfolding switch_places
two_places = refl

three_bits : total_bits (bit_at 0 ∷ bit_at 1 ∷ bit_at 2 ∷ []) ≡ 6
unfolding total_bits
three_bits = refl

three_places : switch_places 0 (bit_at 0 ∷ bit_at 1 ∷ bit_at 2 ∷ []) ≡ 0 ∷ 2 ∷ 4 ∷ []
unfolding switch_places
three_places = refl

pub two_task : (t : Task) → t.sites ≡ bit_at 0 ∷ bit_at 1 ∷ [] → t.transition.choice_bits ≡ 4 → t.transition.switches ≡ 0 ∷ 2 ∷ [] → 1 ≤ t.members → t.members ≤ 8 → 1 ≤ t.budget → IsTask t
two_task t sites bits switches some most budget = record {
  bits = bits ∙ sym (ap total_bits sites ∙ two_bits);
  switches = switches ∙ sym (ap (switch_places 0) sites ∙ two_places);
  some = some;
  most = most;
  budget = budget;
}

pub three_task : (t : Task) → t.sites ≡ bit_at 0 ∷ bit_at 1 ∷ bit_at 2 ∷ [] → t.transition.choice_bits ≡ 6 → t.transition.switches ≡ 0 ∷ 2 ∷ 4 ∷ [] → 1 ≤ t.members → t.members ≤ 8 → 1 ≤ t.budget → IsTask t
three_task t sites bits switches some most budget = record {
  bits = bits ∙ sym (ap total_bits sites ∙ three_bits);
  switches = switches ∙ sym (ap (switch_places 0) sites ∙ three_places);
  some = some;
  most = most;
  budget = budget;
}
