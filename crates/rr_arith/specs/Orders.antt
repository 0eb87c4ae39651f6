-- the order of words by their bits
use Rattle.std.specs.Prelude.{Bool, cond, ◌&&◌, ◌||◌}

-- x before y, where `below` says so of the lower bits, and these are the bits above
abbrev pub less_next : Bool → Bool → Bool → Bool
less_next below x y = cond x (y && below) (y || below)
