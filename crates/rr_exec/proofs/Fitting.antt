-- targets whose bits have values
use Rattle.std.proofs.Common.{◌≡◌, ◌∙◌, sym, ap, ℕ, ◌<◌, ◌≤◌, true, false, List, [], ◌∷◌, ◌++◌, length, Option, refl, arith, pos, inl, inr, append-nil}
use Rattle.std.specs.List.{All, AllByRecursion}
use Rattle.std.proofs.lemmas.Bool.{both_ways, or_cases}
use Rattle.std.proofs.lemmas.List.Elements.{All-from_recursion}
use Rattle.rr_syntax.specs.Tree.{Tree, Trees, Name, Literal, Bit as BitSelect, Part, Indexed, Unary, Binary, Cond, Concat, Repeat, Cast, Paren, End, More}
use Rattle.rr_expr.specs.declared.types.Bit.{Bit}
use Rattle.rr_expr.specs.Faults.{constant_count, constant_span}
use Rattle.rr_expr.specs.Scopes.{Names, meant, entity_range, entity_shape}
use Rattle.rr_expr.specs.Selects.{place, lowest_place, integer_with}
use Rattle.rr_expr.specs.Values.{form, value, nowhere}
use Rattle.rr_flat.specs.Targets.{has_bit, is_bit_of, target_bits, targets_bits}
use Rattle.rr_flat.specs.Shapes.{shape_faults}
use Rattle.rr_flat.proofs.Shaping.{clear}
use Rattle.rr_named_bits.specs.declared.piece.Piece.{Piece}
use Rattle.rr_named_bits.specs.Pieces.{all_bits, bits_of}
use Rattle.rr_named_bits.proofs.Nodes.{shaped_small}
use Rattle.rr_named_bits.proofs.Runs.{bit_of, covers_in}
use Rattle.rr_cycle.specs.Exec.{Environment}
use Rattle.rr_flat.proofs.Bits.{has_append, or_left, or_right, index_of_name, bits_of_name}
use Rattle.rr_exec.specs.Work.{Fits, Holds}
use Rattle.rr_cycle.proofs.Settling.{target_size}

abbrev IsThere : ℕ → Bit → Type 0
IsThere n b = (b.signal < n) × (b.place < 128)

name_there : (s : Names) (n : ℕ) (name : List ℕ) (b : Bit) → Holds s n → is_bit_of (meant s name) b ≡ true → IsThere n b
name_there s n name b h i = h name b (bit_of (meant s name) b i)

-- a bit of a target is one of a name
abbrev pub Named : Names → Bit → Type 0
Named s b = (name : List ℕ) × (is_bit_of (meant s name) b ≡ true)

mutual
  unfolding target_bits has_bit

  pub target_named : (s : Names) (e : Environment) (t : Tree) (b : Bit) → has_bit (target_bits s e t) b ≡ true → Named s b
  target_named s e (Name token name) b i = (name, bits_of_name (meant s name) (pos 0) (entity_shape (meant s name)).width b i)
  target_named s e (Literal token m) b i = absurd (both_ways false refl i)
  target_named s e (BitSelect token name x) b i = (name, index_of_name (meant s name) (integer_with (form s x) (value s x e)) b i)
  target_named s e (Part token name l r) b i = (name, bits_of_name (meant s name) (place (entity_range (meant s name)) (integer_with (form s r) (value s r nowhere))) (constant_span s l r) b i)
  target_named s e (Indexed token name f m up) b i =
      (name, bits_of_name (meant s name) (lowest_place (entity_range (meant s name)) up (integer_with (form s f) (value s f e)) (constant_count s m)) (constant_count s m) b i)
  target_named s e (Unary op t) b i = absurd (both_ways false refl i)
  target_named s e (Binary op l r) b i = absurd (both_ways false refl i)
  target_named s e (Cond x y z) b i = absurd (both_ways false refl i)
  target_named s e (Concat ts) b i = targets_named s e ts b i
  target_named s e (Repeat m ts) b i = absurd (both_ways false refl i)
  target_named s e (Cast signed t) b i = absurd (both_ways false refl i)
  target_named s e (Paren t) b i = absurd (both_ways false refl i)

  pub targets_named : (s : Names) (e : Environment) (ts : Trees) (b : Bit) → has_bit (targets_bits s e ts) b ≡ true → Named s b
  targets_named s e End b i = absurd (both_ways false refl i)
  targets_named s e (More t ts) b i =
      elim (or_cases (has_bit (targets_bits s e ts) b) (has_bit (target_bits s e t) b) (sym (has_append (targets_bits s e ts) (target_bits s e t) b) ∙ i)) [
        | inl j ↦ targets_named s e ts b j
        | inr j ↦ target_named s e t b j
      ]

-- runs whose bits are there
pieces_there : (n : ℕ) (ps : List Piece) → ((b : Bit) → has_bit (all_bits ps) b ≡ true → IsThere n b) → AllByRecursion (Fits n) ps
unfolding all_bits
pieces_there n [] h = tt
pieces_there n (p ∷ ps) h = (
  (λ b c. h b (has_append (all_bits ps) (bits_of p) b ∙ or_right (has_bit (all_bits ps) b) (has_bit (bits_of p) b) (sym (covers_in p b) ∙ c))),
  pieces_there n ps (λ b c. h b (has_append (all_bits ps) (bits_of p) b ∙ or_left (has_bit (all_bits ps) b) (has_bit (bits_of p) b) c)),
)

pub target_fits : (s : Names) (n : ℕ) (e : Environment) (t : Tree) (ps : List Piece) → Holds s n → all_bits ps ≡ target_bits s e t → All (Fits n) ps
target_fits s n e t ps h q = All-from_recursion (Fits n) ps (pieces_there n ps (λ b i. let r = target_named s e t b (ap (λ (bs : List (Option Bit)). has_bit bs b) (sym q) ∙ i) in name_there s n r.0 b h r.1))

-- and that are no more than the target's width
pub target_few : (s : Names) (e : Environment) (t : Tree) (ps : List Piece) → shape_faults s t ≡ [] → all_bits ps ≡ target_bits s e t → length (all_bits ps) ≤ 128
target_few s e t ps h q = omega (arith, ap length q, target_size s e t, shaped_small s t (clear s t h))

-- the bits of no run, before those of a target
pub no_pieces : (bs : List (Option Bit)) (ps : List Piece) → ps ≡ [] → bs ++ all_bits ps ≡ bs
unfolding all_bits
no_pieces bs ps h = rw h (append-nil bs)
