-- The literal sites of a module.
use Rattle.std.specs.Prelude.{ℕ, ◌==◌, Bool, false, ◌&&◌, List, [], ◌∷◌, flat_map, if◌then◌else◌}
use Rattle.rr_syntax.specs.declared.token.Number.{Number}
use Rattle.rr_syntax.specs.Tree.{ModuleDeclaration}
use Rattle.rr_choice.specs.Sites as sites
use Rattle.rr_choice.specs.Sites.{Site, SiteKind, value_width}
use Rattle.rr_change_places.specs.Spots.{Spot, Body, Test, Value, spots_of_item}

-- a literal without x or z digits
abbrev pub is_known : Number → Bool
is_known n = (n.any == 0) && (n.unknown == 0)

-- the literal site at a spot, where it is one: width and sign stay
abbrev pub literal_at : Spot → List Site
literal_at (Body s) = []
literal_at (Test t) = []
literal_at (Value token n) = if is_known n then (record { kind = sites.Literal n.width n.signed; token = token }) ∷ [] else []

-- in the order of the text
unfoldable pub literal_sites : ModuleDeclaration → List Site
literal_sites m = flat_map (λ x. flat_map literal_at (spots_of_item x)) m.items

-- the sign of a literal site
abbrev pub is_signed : SiteKind → Bool
is_signed (sites.Literal width signed) = signed
is_signed (sites.Guard owner extent names) = false
is_signed (sites.Overwrite owner target width now names) = false

-- the number that a value makes of a literal site: width and sign stay, and each digit is known
abbrev pub new_number : SiteKind → ℕ → Number
new_number k value = record { width = value_width k; signed = is_signed k; value = value; any = 0; unknown = 0 }
