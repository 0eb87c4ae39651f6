-- Runs of places of a signal, which are what a name or select names (IEEE 1364-2005 sections 5.2.1 and 5.2.2).
use Rattle.std.specs.Prelude.{ℕ, zero, suc, List, [], ◌∷◌, ◌++◌, Bool, cond, not, ◌&&◌, Option, Some, None, nat_eq, nat_lt, ℤ, pos, ◌+ℤ◌, int_lt, unsigned_abs}
use Rattle.rr_syntax.specs.Tree.{Tree, Name, Literal, Bit as BitSelect, Part, Indexed, Unary, Binary, Cond, Concat, Repeat, Cast, Paren}
use Rattle.rr_expr.specs.declared.types.Bit.{Bit}
use Rattle.rr_expr.specs.Scopes.{Names}
use Rattle.rr_flat.specs.Targets.{target_bits}
use Rattle.rr_named_bits.specs.declared.piece.Piece.{Piece}

-- the bit at a place, where there is one
abbrev pub bit_in : Piece → ℤ → Option Bit
bit_in p at = cond (int_lt at (pos 0)) None (cond (nat_lt (unsigned_abs at) p.width) (Some (record { signal = p.signal; place = unsigned_abs at })) None)

-- the bits at n places from one up
unfoldable pub bits_in : Piece → ℤ → ℕ → List (Option Bit)
bits_in p at zero = []
bits_in p at (suc n) = bit_in p at ∷ bits_in p (at +ℤ pos 1) n

-- those of a piece, lowest first
abbrev pub bits_of : Piece → List (Option Bit)
bits_of p = bits_in p p.from p.count

-- those of several, where the first has the top bits
unfoldable pub all_bits : List Piece → List (Option Bit)
all_bits [] = []
all_bits (p ∷ ps) = all_bits ps ++ bits_of p

-- whether a bit is one of a piece
abbrev pub covers : Piece → Bit → Bool
covers p b = nat_eq p.signal b.signal && (nat_lt b.place p.width && (not (int_lt (pos b.place) p.from) && int_lt (pos b.place) (p.from +ℤ pos p.count)))

-- the bits of a name or select; a concatenation has those of its parts
abbrev pub part_bits : Names → (Bit → Bool) → Tree → List (Option Bit)
part_bits s env (Name token name) = target_bits s env (Name token name)
part_bits s env (Literal token n) = []
part_bits s env (BitSelect token name i) = target_bits s env (BitSelect token name i)
part_bits s env (Part token name l r) = target_bits s env (Part token name l r)
part_bits s env (Indexed token name f n up) = target_bits s env (Indexed token name f n up)
part_bits s env (Unary op t) = []
part_bits s env (Binary op l r) = []
part_bits s env (Cond a b c) = []
part_bits s env (Concat ts) = []
part_bits s env (Repeat n ts) = []
part_bits s env (Cast signed t) = []
part_bits s env (Paren t) = []
