-- A last assignment by the bits that write it: a switch, a value, and then the form and the name of its condition.
use Rattle.std.specs.Prelude.{ℕ, ◌+◌, ◌-◌, ◌≡◌, ◌≤◌, ◌==◌, min, Bool, true, if◌then◌else◌, List, [], length, get_or, take, drop}
use Rattle.rr_bits.specs.Words.{number}
use Rattle.rr_syntax.specs.View.{texts}
use Rattle.rr_choice.specs.declared.pick.Pick.{Pick}
use Rattle.rr_choice.specs.Choices.{name_width, read_pick}
use Rattle.rr_choice.specs.Sites.{SiteKind, Overwrite}
use Rattle.rr_instance_laws.specs.Truth.{gate_truth}
use Rattle.rr_blast_body.specs.declared.lasts.Last.{Last}

-- whether its condition is true, by the bits after the value: two write the form, the fewest that can the name
abbrev pub gated : List (List ℕ) → List Bool → (List ℕ → Bool) → Bool
gated names bits name_truth =
    if length names == 0 then true
    else gate_truth (min (number (take 2 bits)) 2) (name_truth (get_or names (min (number (take (name_width (length names)) (drop 2 bits))) (length names - 1)) []))

-- what it is for a choice; its module is nothing to it
abbrev pub last_kind : Last → SiteKind
last_kind l = Overwrite 0 l.target.now l.width l.at_once (texts l.names.now)

-- the pick that bits write
abbrev pub last_pick : Last → List Bool → Pick
last_pick l bits = read_pick (record { kind = last_kind l; token = 0 }) bits

-- its variable has at most 128 bits, and there are so many bits that write it
pub record IsLast (l : Last) (count : ℕ) : Type 0 where
  pub high : l.width ≤ 128
  pub places : l.places ≡ name_width (length l.names.now)
  pub room : 1 + l.width + (if length l.names.now == 0 then 0 else (2 + name_width (length l.names.now))) ≤ count
