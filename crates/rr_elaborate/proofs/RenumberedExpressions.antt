-- An expression has its token numbers from its bare tree and the number of its first token.
use Rattle.std.proofs.Common.{ℕ, ◌≡◌, ◌+◌, length, refl}
use Rattle.rr_syntax.specs.Tree.{Tree, Trees, Name, Literal, Bit, Part, Indexed, Unary, Binary, Cond, Concat, Repeat, Cast, Paren, End, More, bare, bare_parts}
use Rattle.rr_syntax.specs.Expressions.{spell, Numbered, NumberedMore}
use Rattle.rr_syntax.proofs.BareExpressions.{spell-bare}

-- the same tree with the numbers that it has where its first token is number `at`
unfoldable mutual
  pub renumbered : Tree → ℕ → Tree
  renumbered (Name n s) at = Name at s
  renumbered (Literal n d) at = Literal at d
  renumbered (Bit n s i) at = Bit at s (renumbered i (at + 2))
  renumbered (Part n s l r) at = Part at s (renumbered l (at + 2)) (renumbered r (at + 2 + length (spell l) + 1))
  renumbered (Indexed n s f w up) at = Indexed at s (renumbered f (at + 2)) (renumbered w (at + 2 + length (spell f) + 1)) up
  renumbered (Unary m t) at = Unary m (renumbered t (at + 1))
  renumbered (Binary m l r) at = Binary m (renumbered l at) (renumbered r (at + length (spell l) + 1))
  renumbered (Cond a b c) at =
      Cond (renumbered a at) (renumbered b (at + length (spell a) + 1)) (renumbered c (at + length (spell a) + 1 + length (spell b) + 1))
  renumbered (Concat ts) at = Concat (renumbered_more ts at)
  renumbered (Repeat t ts) at = Repeat (renumbered t (at + 1)) (renumbered_more ts (at + 1 + length (spell t)))
  renumbered (Cast signed t) at = Cast signed (renumbered t (at + 2))
  renumbered (Paren t) at = Paren (renumbered t (at + 1))

  -- `at` is the number of the mark before the first part
  pub renumbered_more : Trees → ℕ → Trees
  renumbered_more End at = End
  renumbered_more (More t ts) at = More (renumbered t (at + 1)) (renumbered_more ts (at + 1 + length (spell t)))

mutual
  unfolding renumbered bare Numbered

  pub renumbered-bare : (t : Tree) (at : ℕ) → Numbered t at → renumbered (bare t) at ≡ t
  renumbered-bare (Name n s) at h = rw h refl
  renumbered-bare (Literal n d) at h = rw h refl
  renumbered-bare (Bit n s i) at h = rw (h.0, renumbered-bare i (at + 2) h.1) refl
  renumbered-bare (Part n s l r) at h =
      rw (h.0, spell-bare l, renumbered-bare l (at + 2) h.1, renumbered-bare r (at + 2 + length (spell l) + 1) h.2) refl
  renumbered-bare (Indexed n s f w up) at h =
      rw (h.0, spell-bare f, renumbered-bare f (at + 2) h.1, renumbered-bare w (at + 2 + length (spell f) + 1) h.2) refl
  renumbered-bare (Unary m t) at h = rw (renumbered-bare t (at + 1) h) refl
  renumbered-bare (Binary m l r) at h = rw (spell-bare l, renumbered-bare l at h.0, renumbered-bare r (at + length (spell l) + 1) h.1) refl
  renumbered-bare (Cond a b c) at h =
      rw (
        spell-bare a,
        spell-bare b,
        renumbered-bare a at h.0,
        renumbered-bare b (at + length (spell a) + 1) h.1,
        renumbered-bare c (at + length (spell a) + 1 + length (spell b) + 1) h.2,
      ) refl
  renumbered-bare (Concat ts) at h = rw (renumbered_more-bare ts at h) refl
  renumbered-bare (Repeat t ts) at h = rw (spell-bare t, renumbered-bare t (at + 1) h.0, renumbered_more-bare ts (at + 1 + length (spell t)) h.1) refl
  renumbered-bare (Cast signed t) at h = rw (renumbered-bare t (at + 2) h) refl
  renumbered-bare (Paren t) at h = rw (renumbered-bare t (at + 1) h) refl

  pub renumbered_more-bare : (ts : Trees) (at : ℕ) → NumberedMore ts at → renumbered_more (bare_parts ts) at ≡ ts
  renumbered_more-bare End at h = refl
  renumbered_more-bare (More t ts) at h = rw (spell-bare t, renumbered-bare t (at + 1) h.0, renumbered_more-bare ts (at + 1 + length (spell t)) h.1) refl
