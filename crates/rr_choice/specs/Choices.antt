-- Choices among the changes of sites, their cost, and the bits that write them.
use Rattle.std.specs.Prelude.{ℕ, ◌+◌, ◌-◌, ◌^◌, ◌<◌, ◌≤◌, ◌==◌, nat_lt, min, Bool, false, if◌then◌else◌, List, [], ◌∷◌, length, take, drop, get_or, count_by}
use Rattle.rr_bits.specs.Words.{number}
use Rattle.rr_choice.specs.declared.pick.Pick.{Pick}
use Rattle.rr_choice.specs.Sites.{SiteKind, Site, guard_names, value_width, last_form, form_width}

-- the greatest form of a site: without names its form is 0
abbrev pub greatest_form : SiteKind → ℕ
greatest_form k = if length (guard_names k) == 0 then 0 else last_form k

-- a pick of a site has a value of the site's width, and a form and the place of a name that the site has; each of them is 0
-- where the site has none
pub record IsPickOf (s : Site) (p : Pick) : Type 0 where
  pub value : p.value < 2 ^ value_width s.kind
  pub form : p.form ≤ greatest_form s.kind
  pub name : p.name ≤ length (guard_names s.kind) - 1

-- a choice has one pick for each site, in their order
unfoldable pub IsChoice : List Site → List Pick → Type 0
IsChoice [] [] = Unit {0}
IsChoice [] (p ∷ ps) = ⊥
IsChoice (s ∷ ss) [] = ⊥
IsChoice (s ∷ ss) (p ∷ ps) = IsPickOf s p × IsChoice ss ps

-- the number of switches that are on
abbrev pub cost : List Pick → ℕ
cost picks = count_by (λ (p : Pick). p.on) picks

-- the fewest bits that write each number below n, for at most 64 numbers
abbrev pub name_width : ℕ → ℕ
name_width n = if nat_lt n 2 then 0 else if nat_lt n 3 then 1 else if nat_lt n 5 then 2 else if nat_lt n 9 then 3 else if nat_lt n 17 then 4 else if nat_lt n 33 then 5 else 6

-- the bits of a form and a name: none where there are no names
abbrev pub guard_width : SiteKind → ℕ
guard_width k = if length (guard_names k) == 0 then 0 else form_width k + name_width (length (guard_names k))

-- a switch, a value, and a form and a name
abbrev pub site_bits : Site → ℕ
site_bits s = 1 + value_width s.kind + guard_width s.kind

unfoldable pub total_bits : List Site → ℕ
total_bits [] = 0
total_bits (s ∷ ss) = site_bits s + total_bits ss

-- the form and the name that bits write, lowest first; one past the last counts as the last
abbrev pub read_form : SiteKind → List Bool → ℕ
read_form k bits = if length (guard_names k) == 0 then 0 else min (number (take (form_width k) bits)) (last_form k)

abbrev pub read_name : SiteKind → List Bool → ℕ
read_name k bits = if length (guard_names k) == 0 then 0 else min (number (take (name_width (length (guard_names k))) (drop (form_width k) bits))) (length (guard_names k) - 1)

-- the pick that the first bits of a list write
abbrev pub read_pick : Site → List Bool → Pick
read_pick s bits = record {
  on = get_or bits 0 false;
  value = number (take (value_width s.kind) (drop 1 bits));
  form = read_form s.kind (drop (1 + value_width s.kind) bits);
  name = read_name s.kind (drop (1 + value_width s.kind) bits);
}

-- site after site; every list of bits is one of a choice
unfoldable pub decode : List Site → List Bool → List Pick
decode [] bits = []
decode (s ∷ ss) bits = read_pick s bits ∷ decode ss (drop (site_bits s) bits)

-- the form that a number means: without names the form is 0
abbrev pub picked_form : List (List ℕ) → ℕ → ℕ
picked_form names form = if length names == 0 then 0 else form

-- the name that a number means: past the last it is the last
abbrev pub picked_name : List (List ℕ) → ℕ → List ℕ
picked_name names n = get_or names (min n (length names - 1)) []
