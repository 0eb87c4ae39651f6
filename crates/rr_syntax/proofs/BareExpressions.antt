-- An expression with every token number 0 keeps its spelling, its rules and its measures.
use Rattle.std.proofs.Common.{◌≡◌, refl, ap}
use Rattle.rr_syntax.specs.Tree.{Tree, Trees, Name, Literal, Bit, Part, Indexed, Unary, Binary, Cond, Concat, Repeat, Cast, Paren, End, More, bare, bare_parts}
use Rattle.rr_syntax.specs.Expressions.{level, spell, spell_parts, spell_more, WellFormed, WellFormedParts, WellFormedMore, is_target, are_targets, depth, height, FitLiterals, FitLiteralsParts}

pub level-bare : (t : Tree) → level (bare t) ≡ level t
unfolding level bare
level-bare (Name n s) = refl
level-bare (Literal n d) = refl
level-bare (Bit n s i) = refl
level-bare (Part n s l r) = refl
level-bare (Indexed n s f w up) = refl
level-bare (Unary m t) = refl
level-bare (Binary m l r) = refl
level-bare (Cond a b c) = refl
level-bare (Concat ts) = refl
level-bare (Repeat t ts) = refl
level-bare (Cast signed t) = refl
level-bare (Paren t) = refl

mutual
  unfolding spell bare

  pub spell-bare : (t : Tree) → spell (bare t) ≡ spell t
  spell-bare (Name n s) = refl
  spell-bare (Literal n d) = refl
  spell-bare (Bit n s i) = rw (spell-bare i) refl
  spell-bare (Part n s l r) = rw (spell-bare l, spell-bare r) refl
  spell-bare (Indexed n s f w up) = rw (spell-bare f, spell-bare w) refl
  spell-bare (Unary m t) = rw (spell-bare t) refl
  spell-bare (Binary m l r) = rw (spell-bare l, spell-bare r) refl
  spell-bare (Cond a b c) = rw (spell-bare a, spell-bare b, spell-bare c) refl
  spell-bare (Concat ts) = rw (spell_parts-bare ts) refl
  spell-bare (Repeat t ts) = rw (spell-bare t, spell_parts-bare ts) refl
  spell-bare (Cast signed t) = rw (spell-bare t) refl
  spell-bare (Paren t) = rw (spell-bare t) refl

  pub spell_parts-bare : (ts : Trees) → spell_parts (bare_parts ts) ≡ spell_parts ts
  spell_parts-bare End = refl
  spell_parts-bare (More t ts) = rw (spell-bare t, spell_more-bare ts) refl

  pub spell_more-bare : (ts : Trees) → spell_more (bare_parts ts) ≡ spell_more ts
  spell_more-bare End = refl
  spell_more-bare (More t ts) = rw (spell-bare t, spell_more-bare ts) refl

mutual
  unfolding WellFormed bare

  pub WellFormed-bare : (t : Tree) → WellFormed (bare t) ≡ WellFormed t
  WellFormed-bare (Name n s) = refl
  WellFormed-bare (Literal n d) = refl
  WellFormed-bare (Bit n s i) = WellFormed-bare i
  WellFormed-bare (Part n s l r) = rw (WellFormed-bare l, WellFormed-bare r) refl
  WellFormed-bare (Indexed n s f w up) = rw (WellFormed-bare f, WellFormed-bare w) refl
  WellFormed-bare (Unary m t) = rw (WellFormed-bare t, level-bare t) refl
  WellFormed-bare (Binary m l r) = rw (WellFormed-bare l, WellFormed-bare r, level-bare l, level-bare r) refl
  WellFormed-bare (Cond a b c) = rw (WellFormed-bare a, WellFormed-bare b, WellFormed-bare c, level-bare a) refl
  WellFormed-bare (Concat ts) = WellFormedParts-bare ts
  WellFormed-bare (Repeat t ts) = rw (WellFormed-bare t, WellFormedParts-bare ts) refl
  WellFormed-bare (Cast signed t) = WellFormed-bare t
  WellFormed-bare (Paren t) = WellFormed-bare t

  pub WellFormedParts-bare : (ts : Trees) → WellFormedParts (bare_parts ts) ≡ WellFormedParts ts
  WellFormedParts-bare End = refl
  WellFormedParts-bare (More t ts) = rw (WellFormed-bare t, WellFormedMore-bare ts) refl

  pub WellFormedMore-bare : (ts : Trees) → WellFormedMore (bare_parts ts) ≡ WellFormedMore ts
  WellFormedMore-bare End = refl
  WellFormedMore-bare (More t ts) = rw (WellFormed-bare t, WellFormedMore-bare ts) refl

mutual
  unfolding is_target bare

  pub is_target-bare : (t : Tree) → is_target (bare t) ≡ is_target t
  is_target-bare (Name n s) = refl
  is_target-bare (Literal n d) = refl
  is_target-bare (Bit n s i) = refl
  is_target-bare (Part n s l r) = refl
  is_target-bare (Indexed n s f w up) = refl
  is_target-bare (Unary m t) = refl
  is_target-bare (Binary m l r) = refl
  is_target-bare (Cond a b c) = refl
  is_target-bare (Concat ts) = are_targets-bare ts
  is_target-bare (Repeat t ts) = refl
  is_target-bare (Cast signed t) = refl
  is_target-bare (Paren t) = refl

  pub are_targets-bare : (ts : Trees) → are_targets (bare_parts ts) ≡ are_targets ts
  are_targets-bare End = refl
  are_targets-bare (More t ts) = rw (is_target-bare t, are_targets-bare ts) refl

mutual
  unfolding depth bare

  pub depth-bare : (t : Tree) → depth (bare t) ≡ depth t
  depth-bare (Name n s) = refl
  depth-bare (Literal n d) = refl
  depth-bare (Bit n s i) = rw (depth-bare i) refl
  depth-bare (Part n s l r) = rw (depth-bare l, depth-bare r) refl
  depth-bare (Indexed n s f w up) = rw (depth-bare f, depth-bare w) refl
  depth-bare (Unary m t) = rw (depth-bare t) refl
  depth-bare (Binary m l r) = rw (depth-bare l, depth-bare r) refl
  depth-bare (Cond a b c) = rw (depth-bare a, depth-bare b, depth-bare c) refl
  depth-bare (Concat ts) = height-bare ts
  depth-bare (Repeat t ts) = rw (depth-bare t, height-bare ts) refl
  depth-bare (Cast signed t) = rw (depth-bare t) refl
  depth-bare (Paren t) = rw (depth-bare t) refl

  pub height-bare : (ts : Trees) → height (bare_parts ts) ≡ height ts
  height-bare End = refl
  height-bare (More t ts) = rw (depth-bare t, height-bare ts) refl

mutual
  unfolding FitLiterals bare

  pub FitLiterals-bare : (t : Tree) → FitLiterals (bare t) ≡ FitLiterals t
  FitLiterals-bare (Name n s) = refl
  FitLiterals-bare (Literal n d) = refl
  FitLiterals-bare (Bit n s i) = FitLiterals-bare i
  FitLiterals-bare (Part n s l r) = rw (FitLiterals-bare l, FitLiterals-bare r) refl
  FitLiterals-bare (Indexed n s f w up) = rw (FitLiterals-bare f, FitLiterals-bare w) refl
  FitLiterals-bare (Unary m t) = FitLiterals-bare t
  FitLiterals-bare (Binary m l r) = rw (FitLiterals-bare l, FitLiterals-bare r) refl
  FitLiterals-bare (Cond a b c) = rw (FitLiterals-bare a, FitLiterals-bare b, FitLiterals-bare c) refl
  FitLiterals-bare (Concat ts) = FitLiteralsParts-bare ts
  FitLiterals-bare (Repeat t ts) = rw (FitLiterals-bare t, FitLiteralsParts-bare ts) refl
  FitLiterals-bare (Cast signed t) = FitLiterals-bare t
  FitLiterals-bare (Paren t) = FitLiterals-bare t

  pub FitLiteralsParts-bare : (ts : Trees) → FitLiteralsParts (bare_parts ts) ≡ FitLiteralsParts ts
  FitLiteralsParts-bare End = refl
  FitLiteralsParts-bare (More t ts) = rw (FitLiterals-bare t, FitLiteralsParts-bare ts) refl

mutual
  unfolding bare

  pub bare-bare : (t : Tree) → bare (bare t) ≡ bare t
  bare-bare (Name n s) = refl
  bare-bare (Literal n d) = refl
  bare-bare (Bit n s i) = ap (Bit 0 s) (bare-bare i)
  bare-bare (Part n s l r) = rw (bare-bare l, bare-bare r) refl
  bare-bare (Indexed n s f w up) = rw (bare-bare f, bare-bare w) refl
  bare-bare (Unary m t) = ap (Unary m) (bare-bare t)
  bare-bare (Binary m l r) = rw (bare-bare l, bare-bare r) refl
  bare-bare (Cond a b c) = rw (bare-bare a, bare-bare b, bare-bare c) refl
  bare-bare (Concat ts) = ap Concat (bare_parts-bare ts)
  bare-bare (Repeat t ts) = rw (bare-bare t, bare_parts-bare ts) refl
  bare-bare (Cast signed t) = ap (Cast signed) (bare-bare t)
  bare-bare (Paren t) = ap Paren (bare-bare t)

  pub bare_parts-bare : (ts : Trees) → bare_parts (bare_parts ts) ≡ bare_parts ts
  bare_parts-bare End = refl
  bare_parts-bare (More t ts) = rw (bare-bare t, bare_parts-bare ts) refl
