-- Expressions (IEEE 1364-2005 section 5, annex A.8): their spelling, the rules that well-formed ones keep,
-- their depth, and the numbers of their tokens.
use Rattle.std.specs.Prelude.{ℕ, suc, ◌+◌, ◌^◌, ◌<◌, ◌≤◌, ◌≡◌, max, List, [], ◌∷◌, ◌++◌, length, get_or, codes, IsTrue, ◌==◌, ◌&&◌, Bool, true, false, cond}
use Rattle.rr_syntax.specs.declared.token.Number.{Number}
use Rattle.rr_syntax.specs.Words.{Word, Named, System, Digits, Marked, mark_open_parenthesis, mark_close_parenthesis, mark_open_bracket, mark_close_bracket, mark_open_brace, mark_close_brace, mark_comma, mark_colon, mark_question, mark_part_up, mark_part_down}
use Rattle.rr_syntax.specs.Tree.{Tree, Trees, Name, Literal, Bit, Part, Indexed, Unary, Binary, Cond, Concat, Repeat, Cast, Paren, End, More}

-- the level of each mark between operands (section 5.1.2, table 5-4), in the order of the marks: 0 where it is no operator
abbrev pub levels : List ℕ
levels =
    -- ( ) [ ] { } , ; : . # @ ? =
    0 ∷ 0 ∷ 0 ∷ 0 ∷ 0 ∷ 0 ∷ 0 ∷ 0 ∷ 0 ∷ 0 ∷ 0 ∷ 0 ∷ 1 ∷ 0 ∷
    -- + - * / % ! ~ & | ^ < > **
    10 ∷ 10 ∷ 11 ∷ 11 ∷ 11 ∷ 0 ∷ 0 ∷ 6 ∷ 4 ∷ 5 ∷ 8 ∷ 8 ∷ 12 ∷
    -- == != === !== <= >= << >> <<< >>>
    7 ∷ 7 ∷ 7 ∷ 7 ∷ 8 ∷ 8 ∷ 9 ∷ 9 ∷ 9 ∷ 9 ∷
    -- && || ~& ~| ~^ ^~ +: -:
    3 ∷ 2 ∷ 0 ∷ 0 ∷ 5 ∷ 5 ∷ 0 ∷ 0 ∷ []

-- 1 for each mark that stands before an operand (section 5.1, annex A.8.6)
abbrev pub prefixes : List ℕ
prefixes =
    -- ( ) [ ] { } , ; : . # @ ? =
    0 ∷ 0 ∷ 0 ∷ 0 ∷ 0 ∷ 0 ∷ 0 ∷ 0 ∷ 0 ∷ 0 ∷ 0 ∷ 0 ∷ 0 ∷ 0 ∷
    -- + - * / % ! ~ & | ^ < > **
    1 ∷ 1 ∷ 0 ∷ 0 ∷ 0 ∷ 1 ∷ 1 ∷ 1 ∷ 1 ∷ 1 ∷ 0 ∷ 0 ∷ 0 ∷
    -- == != === !== <= >= << >> <<< >>>
    0 ∷ 0 ∷ 0 ∷ 0 ∷ 0 ∷ 0 ∷ 0 ∷ 0 ∷ 0 ∷ 0 ∷
    -- && || ~& ~| ~^ ^~ +: -:
    0 ∷ 0 ∷ 1 ∷ 1 ∷ 1 ∷ 1 ∷ 0 ∷ 0 ∷ []

unfoldable pub infix_level : ℕ → ℕ
infix_level m = get_or levels m 0

unfoldable pub is_prefix : ℕ → Bool
is_prefix m = get_or prefixes m 0 == 1

abbrev pub conditional_level : ℕ
conditional_level = 1

abbrev pub unary_level : ℕ
unary_level = 13

abbrev pub primary_level : ℕ
primary_level = 14

-- the level of a tree: how tightly its outermost node binds
unfoldable pub level : Tree → ℕ
level (Name n s) = primary_level
level (Literal n d) = primary_level
level (Bit n s i) = primary_level
level (Part n s l r) = primary_level
level (Indexed n s f w up) = primary_level
level (Unary m t) = unary_level
level (Binary m l r) = infix_level m
level (Cond a b c) = conditional_level
level (Concat ts) = primary_level
level (Repeat t ts) = primary_level
level (Cast signed t) = primary_level
level (Paren t) = primary_level

-- the tokens that spell a tree
unfoldable mutual
  pub spell : Tree → List Word
  spell (Name n s) = Named s ∷ []
  spell (Literal n d) = Digits d ∷ []
  spell (Bit n s i) = Named s ∷ (Marked mark_open_bracket ∷ (spell i ++ (Marked mark_close_bracket ∷ [])))
  spell (Part n s l r) = Named s ∷ (Marked mark_open_bracket ∷ (spell l ++ (Marked mark_colon ∷ (spell r ++ (Marked mark_close_bracket ∷ [])))))
  spell (Indexed n s f w up) = Named s ∷ (Marked mark_open_bracket ∷ (spell f ++ (Marked (cond up mark_part_up mark_part_down) ∷ (spell w ++ (Marked mark_close_bracket ∷ [])))))
  spell (Unary m t) = Marked m ∷ spell t
  spell (Binary m l r) = spell l ++ (Marked m ∷ spell r)
  spell (Cond a b c) = spell a ++ (Marked mark_question ∷ (spell b ++ (Marked mark_colon ∷ spell c)))
  spell (Concat ts) = Marked mark_open_brace ∷ (spell_parts ts ++ (Marked mark_close_brace ∷ []))
  spell (Repeat t ts) = Marked mark_open_brace ∷ (spell t ++ (Marked mark_open_brace ∷ (spell_parts ts ++ (Marked mark_close_brace ∷ (Marked mark_close_brace ∷ [])))))
  spell (Cast signed t) = System (cond signed (codes "signed") (codes "unsigned")) ∷ (Marked mark_open_parenthesis ∷ (spell t ++ (Marked mark_close_parenthesis ∷ [])))
  spell (Paren t) = Marked mark_open_parenthesis ∷ (spell t ++ (Marked mark_close_parenthesis ∷ []))

  -- a list, with commas between
  pub spell_parts : Trees → List Word
  spell_parts End = []
  spell_parts (More t ts) = spell t ++ spell_more ts

  -- a list, with a comma before each
  pub spell_more : Trees → List Word
  spell_more End = []
  spell_more (More t ts) = Marked mark_comma ∷ (spell t ++ spell_more ts)

-- each operator is one, each operand has the level that its place asks, and no list of parts is empty
unfoldable mutual
  pub WellFormed : Tree → Type 0
  WellFormed (Name n s) = Unit {0}
  WellFormed (Literal n d) = Unit {0}
  WellFormed (Bit n s i) = WellFormed i
  WellFormed (Part n s l r) = WellFormed l × WellFormed r
  WellFormed (Indexed n s f w up) = WellFormed f × WellFormed w
  WellFormed (Unary m t) = IsTrue (is_prefix m) × WellFormed t × (unary_level ≤ level t)
  WellFormed (Binary m l r) = (conditional_level < infix_level m) × WellFormed l × WellFormed r × (infix_level m ≤ level l) × (infix_level m < level r)
  WellFormed (Cond a b c) = WellFormed a × WellFormed b × WellFormed c × (conditional_level < level a)
  WellFormed (Concat ts) = WellFormedParts ts
  WellFormed (Repeat t ts) = WellFormed t × WellFormedParts ts
  WellFormed (Cast signed t) = WellFormed t
  WellFormed (Paren t) = WellFormed t

  -- one or more
  pub WellFormedParts : Trees → Type 0
  WellFormedParts End = ⊥
  WellFormedParts (More t ts) = WellFormed t × WellFormedMore ts

  -- any number
  pub WellFormedMore : Trees → Type 0
  WellFormedMore End = Unit {0}
  WellFormedMore (More t ts) = WellFormed t × WellFormedMore ts

-- a name, a select of one, or targets in braces (annex A.8.5)
unfoldable mutual
  pub is_target : Tree → Bool
  is_target (Name n s) = true
  is_target (Literal n d) = false
  is_target (Bit n s i) = true
  is_target (Part n s l r) = true
  is_target (Indexed n s f w up) = true
  is_target (Unary m t) = false
  is_target (Binary m l r) = false
  is_target (Cond a b c) = false
  is_target (Concat ts) = are_targets ts
  is_target (Repeat t ts) = false
  is_target (Cast signed t) = false
  is_target (Paren t) = false

  pub are_targets : Trees → Bool
  are_targets End = true
  are_targets (More t ts) = is_target t && are_targets ts

-- the levels of nodes below the root
unfoldable mutual
  pub depth : Tree → ℕ
  depth (Name n s) = 0
  depth (Literal n d) = 0
  depth (Bit n s i) = suc (depth i)
  depth (Part n s l r) = suc (max (depth l) (depth r))
  depth (Indexed n s f w up) = suc (max (depth f) (depth w))
  depth (Unary m t) = suc (depth t)
  depth (Binary m l r) = suc (max (depth l) (depth r))
  depth (Cond a b c) = suc (max (depth a) (max (depth b) (depth c)))
  depth (Concat ts) = height ts
  depth (Repeat t ts) = max (suc (depth t)) (height ts)
  depth (Cast signed t) = suc (depth t)
  depth (Paren t) = suc (depth t)

  -- the levels of nodes below the node that holds the list
  pub height : Trees → ℕ
  height End = 0
  height (More t ts) = max (suc (depth t)) (height ts)

-- each leaf has the number of its token, where the first token of the tree is number `at`
unfoldable mutual
  pub Numbered : Tree → ℕ → Type 0
  Numbered (Name n s) at = n ≡ at
  Numbered (Literal n d) at = n ≡ at
  Numbered (Bit n s i) at = (n ≡ at) × Numbered i (at + 2)
  Numbered (Part n s l r) at = (n ≡ at) × Numbered l (at + 2) × Numbered r (at + 2 + length (spell l) + 1)
  Numbered (Indexed n s f w up) at = (n ≡ at) × Numbered f (at + 2) × Numbered w (at + 2 + length (spell f) + 1)
  Numbered (Unary m t) at = Numbered t (at + 1)
  Numbered (Binary m l r) at = Numbered l at × Numbered r (at + length (spell l) + 1)
  Numbered (Cond a b c) at = Numbered a at × Numbered b (at + length (spell a) + 1) × Numbered c (at + length (spell a) + 1 + length (spell b) + 1)
  Numbered (Concat ts) at = NumberedMore ts at
  Numbered (Repeat t ts) at = Numbered t (at + 1) × NumberedMore ts (at + 1 + length (spell t))
  Numbered (Cast signed t) at = Numbered t (at + 2)
  Numbered (Paren t) at = Numbered t (at + 1)

  -- `at` is the number of the mark before the first part
  pub NumberedMore : Trees → ℕ → Type 0
  NumberedMore End at = Unit {0}
  NumberedMore (More t ts) at = Numbered t (at + 1) × NumberedMore ts (at + 1 + length (spell t))

-- a literal of 1 to 128 bits whose masks fit its width (section 3.5)
pub record IsFit (n : Number) : Type 0 where
  pub some : 0 < n.width
  pub wide : n.width ≤ 128
  pub value : n.value < 2 ^ n.width
  pub any : n.any < 2 ^ n.width
  pub unknown : n.unknown < 2 ^ n.width

-- each literal of a tree is fit
unfoldable mutual
  pub FitLiterals : Tree → Type 0
  FitLiterals (Name n s) = Unit {0}
  FitLiterals (Literal n d) = IsFit d
  FitLiterals (Bit n s i) = FitLiterals i
  FitLiterals (Part n s l r) = FitLiterals l × FitLiterals r
  FitLiterals (Indexed n s f w up) = FitLiterals f × FitLiterals w
  FitLiterals (Unary m t) = FitLiterals t
  FitLiterals (Binary m l r) = FitLiterals l × FitLiterals r
  FitLiterals (Cond a b c) = FitLiterals a × FitLiterals b × FitLiterals c
  FitLiterals (Concat ts) = FitLiteralsParts ts
  FitLiterals (Repeat t ts) = FitLiterals t × FitLiteralsParts ts
  FitLiterals (Cast signed t) = FitLiterals t
  FitLiterals (Paren t) = FitLiterals t

  pub FitLiteralsParts : Trees → Type 0
  FitLiteralsParts End = Unit {0}
  FitLiteralsParts (More t ts) = FitLiterals t × FitLiteralsParts ts
