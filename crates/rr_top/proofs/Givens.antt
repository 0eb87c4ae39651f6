-- What the files hold that a command was given, by its answer.
use Rattle.std.proofs.Common.{◌≡◌, ◌∙◌, ap, ◌<◌, ℕ, List, [], ◌∷◌, length, arith}
use Rattle.std.specs.Prelude.{Option}
use Rattle.rr_edge.specs.Held.{Held}
use Rattle.rr_words.specs.Plan.{Plan}
use Rattle.rr_endings.specs.Found.{Answer, File}
use Rattle.rr_effects.specs.Reads.{Gave, Given}
use Rattle.rr_effects.specs.Delivery.{with_files}
use Rattle.rr_repair.specs.Repairs.{AnswersRepair, PlainRequest}
use Rattle.rr_top.specs.Kinds.{kind_of}
use Rattle.rr_top.specs.Commands.{AnswersRun, AnswersSites, AnswersCheck, AnswersLint, AsksRepair, Due, WhereOne, WhereTwo, check_command, command_of_plan, repair_command, run_command, sites_command, lint_command}
use Rattle.rr_top.proofs.Table.{writes_nothing}

-- what holds of two files holds of what was read
pub record TwoGiven (told : Option Held) (one other : List ℕ × ℕ) (P : List ℕ → List ℕ → Type 0) : Type 0 where
  pub first : List ℕ
  pub second : List ℕ
  pub first_given : Gave told one.0 one.1 first
  pub second_given : Gave told other.0 other.1 second
  pub holds : P first second

pub two_given : (told : Option Held) (one other : List ℕ × ℕ) (files : List (List ℕ)) (P : List ℕ → List ℕ → Type 0) → Given told (one ∷ (other ∷ [])) files → WhereTwo files P → TwoGiven told one other P
two_given told one other [] P g p = absurd p
two_given told one other (a ∷ []) P g p = absurd p
two_given told one other (a ∷ (b ∷ [])) P g p = record { first = a; second = b; first_given = g.0; second_given = g.1.0; holds = p }
two_given told one other (a ∷ (b ∷ (c ∷ files))) P g p = absurd p

-- .. and of one
pub record OneGiven (told : Option Held) (one : List ℕ × ℕ) (P : List ℕ → Type 0) : Type 0 where
  pub only : List ℕ
  pub only_given : Gave told one.0 one.1 only
  pub holds : P only

pub one_given : (told : Option Held) (one : List ℕ × ℕ) (files : List (List ℕ)) (P : List ℕ → Type 0) → Given told (one ∷ []) files → WhereOne files P → OneGiven told one P
one_given told one [] P g p = absurd p
one_given told one (a ∷ []) P g p = record { only = a; only_given = g.0; holds = p }
one_given told one (a ∷ (b ∷ files)) P g p = absurd p

abbrev pub GivenRepair : Option Held → List ℕ → List ℕ → PlainRequest → Answer → Type 0
GivenRepair told d t w answer = TwoGiven told (d, 1048576) (t, 16777216) (λ x y. AnswersRepair w x y answer)

abbrev pub GivenRun : Option Held → List ℕ → List ℕ → Option (List ℕ) → Option (List ℕ) → Answer → Type 0
GivenRun told d t top clock answer = TwoGiven told (d, 1048576) (t, 16777216) (λ x y. AnswersRun (kind_of t) top clock x y answer)

abbrev pub GivenSites : Option Held → List ℕ → Option (List ℕ) → Option (List ℕ) → Answer → Type 0
GivenSites told d top clock answer = OneGiven told (d, 1048576) (λ x. AnswersSites top clock x answer)

abbrev pub GivenLint : Option Held → List ℕ → Option (List ℕ) → Answer → Type 0
GivenLint told d top answer = OneGiven told (d, 1048576) (λ x. AnswersLint top x answer)

abbrev pub GivenCheck : Option Held → List ℕ → List ℕ → Answer → Type 0
GivenCheck told c p answer = TwoGiven told (c, 268435456) (p, 1073741824) (λ x y. AnswersCheck x y answer)

module _ (told : Option Held) (answer : Answer) where
  pub repair_given : (d t : List ℕ) (w : PlainRequest) → Due (repair_command d t w) told answer → GivenRepair told d t w answer
  repair_given d t w due = two_given told (d, 1048576) (t, 16777216) due.files (λ x y. AnswersRepair w x y answer) due.given due.answers

  pub run_given : (d t : List ℕ) (top clock : Option (List ℕ)) → Due (run_command d t top clock) told answer → GivenRun told d t top clock answer
  run_given d t top clock due = two_given told (d, 1048576) (t, 16777216) due.files (λ x y. AnswersRun (kind_of t) top clock x y answer) due.given due.answers

  pub sites_given : (d : List ℕ) (top clock : Option (List ℕ)) → Due (sites_command d top clock) told answer → GivenSites told d top clock answer
  sites_given d top clock due = one_given told (d, 1048576) due.files (λ x. AnswersSites top clock x answer) due.given due.answers

  pub lint_given : (d : List ℕ) (top : Option (List ℕ)) → Due (lint_command d top) told answer → GivenLint told d top answer
  lint_given d top due = one_given told (d, 1048576) due.files (λ x. AnswersLint top x answer) due.given due.answers

  pub check_given : (c p : List ℕ) → Due (check_command c p) told answer → GivenCheck told c p answer
  check_given c p due = two_given told (c, 268435456) (p, 1073741824) due.files (λ x y. AnswersCheck x y answer) due.given due.answers

  -- no command but `repair` and `make` writes a file
  pub no_files : (plan : Plan) → (AsksRepair plan → ⊥) → Due (command_of_plan plan) told answer → answer.files ≡ []
  no_files plan none due = (writes_nothing plan none).files due.files answer due.answers

  pub held_without : (new : Option Held) → answer.files ≡ [] → new ≡ with_files told answer.files → new ≡ told
  held_without new none is = is ∙ ap (λ (fs : List File). with_files told fs) none

  pub held_with : (plan : Plan) (new : Option Held) → (AsksRepair plan → ⊥) → Due (command_of_plan plan) told answer → new ≡ with_files told answer.files → new ≡ told
  held_with plan new none due is = held_without new (no_files plan none due) is

  pub none_below : {X : Type 0} (plan : Plan) (k : ℕ) → (AsksRepair plan → ⊥) → Due (command_of_plan plan) told answer → k < length answer.files → X
  none_below plan k none due less = let empty : length answer.files ≡ 0 = ap length (no_files plan none due) in absurd (omega (arith, less, empty))
