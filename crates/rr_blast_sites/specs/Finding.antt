-- Sites that are found in a list, and what a choice says of them by bits.
use Rattle.std.specs.Prelude.{◌≡◌, ℕ, ◌+◌, ◌-◌, ◌≤◌, ◌==◌, min, Bool, true, false, not, if◌then◌else◌, List, [], length, get_or, take, drop, Option, Some, None}
use Rattle.rr_bits.specs.Words.{number}
use Rattle.rr_choice.specs.declared.pick.Pick.{Pick}
use Rattle.rr_choice.specs.Sites.{Site, IsSite}
use Rattle.rr_choice.specs.Choices.{decode, read_pick, site_bits, total_bits, name_width}
use Rattle.rr_choice.specs.Places.{find_pick}
use Rattle.rr_instance_laws.specs.Truth.{guard_truth}
use Rattle.rr_choice.specs.View.{plain_site}
use Rattle.rr_syntax.specs.Expressions.{spell}
use Rattle.rr_syntax.specs.View.{plain}
use Rattle.rr_blast_sites.specs.declared.finding.Found.{Found}
use Rattle.rr_blast_sites.specs.declared.finding.Sought.{Sought}
use Rattle.rr_blast_sites.specs.declared.finding.Sought.TheVariants.{Literal, Condition}

-- the number of tokens of a condition that is sought
abbrev pub extent_of : Sought → Option ℕ
extent_of Literal = None
extent_of (Condition test) = Some (length (spell (plain test.now)))

-- of each choice: its pick is written by the bits from a place up
pub record Picks (test : Site → Bool) (ss : List Site) (s : Site) (at : ℕ) : Type 0 where
  pub passes : test s ≡ true
  pub fit : IsSite s
  pub room : at + site_bits s ≤ total_bits ss
  pub pick : (bits : List Bool) → find_pick test ss (decode ss bits) ≡ Some (s, read_pick s (drop at bits))

-- the first site that passes a test, or that there is none
abbrev pub IsFound : (Site → Bool) → List Site → Option Found → Type 0
IsFound test ss None = (bits : List Bool) → find_pick test ss (decode ss bits) ≡ None
IsFound test ss (Some f) = Picks test ss (plain_site f.site) f.at

-- whether a site was found, and its pick is switched on
abbrev pub is_on : Option (Site × Pick) → Bool
is_on None = false
is_on (Some (s, p)) = p.on

-- the place of the name that bits write
abbrev pub name_place : ℕ → List Bool → ℕ
name_place count bits = min (number bits) (count - 1)

-- a condition in the form and with the name that the bits after a guard's switch write
abbrev pub changed : List (List ℕ) → List Bool → Bool → (List ℕ → Bool) → Bool
changed names bits test name_truth =
    if length names == 0 then not test
    else guard_truth (min (number (take 3 bits)) 4) test (name_truth (get_or names (name_place (length names) (take (name_width (length names)) (drop 3 bits))) []))

-- and where the switch, the first bit, is on
abbrev pub guarded_by : List (List ℕ) → List Bool → Bool → (List ℕ → Bool) → Bool
guarded_by names bits test name_truth = if get_or bits 0 false then changed names (drop 1 bits) test name_truth else test
