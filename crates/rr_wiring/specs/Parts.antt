-- Which part of a concatenation has a bit (IEEE 1364-2005 section 5.1.14).
use Rattle.std.specs.Prelude.{◌≡◌, ℕ, ◌+◌, ◌<◌, ◌≤◌, Bool, true, false, get_or}
use Rattle.rr_syntax.specs.Tree.{Tree, Trees, Concat, More}
use Rattle.rr_expr.specs.declared.types.Bit.{Bit}
use Rattle.rr_expr.specs.Scopes.{Names}
use Rattle.rr_expr.specs.Values.{form, widths, value, own}

-- a part, and the place of its lowest bit among the bits of all parts; the first part has the top bits
pub data BeginsAt (s : Names) (t : Tree) : Trees → ℕ → Type 0 where
  first_part : {ts : Trees} {low : ℕ} → low ≡ widths s ts → BeginsAt s t (More t ts) low
  later_part : {v : Tree} {ts : Trees} {low : ℕ} → BeginsAt s t ts low → BeginsAt s t (More v ts) low

-- the bit at a place of an expression is that at a place of a part: of the expression itself, or of the part of a
-- concatenation that has it
pub data PartAt (s : Names) (u : Tree) (at : ℕ) : Tree → ℕ → Type 0 where
  itself : PartAt s u at u at
  inside : {t : Tree} {ts : Trees} {low rest place : ℕ} → BeginsAt s t ts low → rest < (form s t).width → place ≡ low + rest → PartAt s u at t rest → PartAt s u at (Concat ts) place

-- a concatenation
unfoldable pub is_joined : Tree → Bool
is_joined (Concat ts) = true
is_joined t = false

-- in every environment the bit of the part is that of the expression
abbrev pub BitsOfParts : Type 0
BitsOfParts =
    (s : Names) (u : Tree) (at : ℕ) (t : Tree) (place : ℕ) (env : Bit → Bool) → PartAt s u at t place → get_or (own s u env) at false ≡ get_or (own s t env) place false

-- a wider context, which is unsigned as a concatenation is, adds bits that are 0 alone (section 5.4.1)
abbrev pub BitsInContext : Type 0
BitsInContext =
    (s : Names) (ts : Trees) (env : Bit → Bool) (w place : ℕ) → widths s ts ≤ w → get_or (value s (Concat ts) env w false) place false ≡ get_or (own s (Concat ts) env) place false
