-- The select with a mark between its two expressions.
use Rattle.std.proofs.Common.{◌≡◌, ℕ, suc, ◌+◌, max, List, [], ◌∷◌, ◌++◌, length, refl, arith, Bool, true, false, cond, nat_eq}
use Rattle.std.proofs.lemmas.Bool.Decides.{nat_tests, Decides-eqb}
use Rattle.rr_syntax.specs.Words.{Named, Marked, mark_open_bracket, mark_close_bracket, mark_colon, mark_part_up, mark_part_down}
use Rattle.rr_syntax.specs.Tree.{Tree, Part, Indexed, bare}
use Rattle.rr_syntax.specs.Expressions.{level, depth, spell, WellFormed, Numbered, primary_level}
use Rattle.rr_parse_expr.specs.Made.{select_of}
use Rattle.rr_parse_expr.specs.Reading.{is_between}
use Rattle.rr_parse_expr.proofs.Facts.{follow_level, follow-colon, follow-part_up, follow-part_down}

data Between (m : ℕ) : Type 0 where
  is_colon : m ≡ mark_colon → Between m
  is_up : m ≡ mark_part_up → Between m
  is_down : m ≡ mark_part_down → Between m

between : (m : ℕ) → is_between m ≡ true → Between m
unfolding is_between
between m e = elim (nat_eq m mark_colon) as (λ b. nat_eq m mark_colon ≡ b → Between m) [
  | true ↦ λ f. is_colon ((Decides-eqb m mark_colon).0 f)
  | false ↦ λ f. elim (nat_eq m mark_part_up) as (λ b. nat_eq m mark_part_up ≡ b → Between m) [
    | true ↦ λ g. is_up ((Decides-eqb m mark_part_up).0 g)
    | false ↦ λ g. is_down (grind (arith, nat_tests))
  ] refl
] refl

-- what holds of both kinds of select
pub record IsSelect (n : ℕ) (s : List ℕ) (m : ℕ) (t u v : Tree) : Type 0 where
  pub spelled : spell v ≡ Named s ∷ (Marked mark_open_bracket ∷ (spell t ++ (Marked m ∷ (spell u ++ (Marked mark_close_bracket ∷ [])))))
  pub deep : depth v ≡ suc (max (depth t) (depth u))
  pub high : level v ≡ primary_level
  pub well : WellFormed t → WellFormed u → WellFormed v
  pub bared : bare v ≡ select_of 0 s m (bare t) (bare u)
  pub numbered : (at : ℕ) → n ≡ at → Numbered t (at + 2) → Numbered u (at + 2 + length (spell t) + 1) → Numbered v at
  pub follows : follow_level m ≡ 0

by_colon : (n : ℕ) (s : List ℕ) (t u : Tree) → IsSelect n s mark_colon t u (select_of n s mark_colon t u)
unfolding select_of spell depth level WellFormed bare Numbered
by_colon n s t u = record {
  spelled = refl;
  deep = refl;
  high = refl;
  well = λ a b. (a, b);
  bared = refl;
  numbered = λ at e a b. (e, a, b);
  follows = follow-colon;
}

by_up : (n : ℕ) (s : List ℕ) (t u : Tree) → IsSelect n s mark_part_up t u (select_of n s mark_part_up t u)
unfolding select_of spell depth level WellFormed bare Numbered
by_up n s t u = record {
  spelled = refl;
  deep = refl;
  high = refl;
  well = λ a b. (a, b);
  bared = refl;
  numbered = λ at e a b. (e, a, b);
  follows = follow-part_up;
}

by_down : (n : ℕ) (s : List ℕ) (t u : Tree) → IsSelect n s mark_part_down t u (select_of n s mark_part_down t u)
unfolding select_of spell depth level WellFormed bare Numbered
by_down n s t u = record {
  spelled = refl;
  deep = refl;
  high = refl;
  well = λ a b. (a, b);
  bared = refl;
  numbered = λ at e a b. (e, a, b);
  follows = follow-part_down;
}

pub is_select : (n : ℕ) (s : List ℕ) (m : ℕ) (t u : Tree) → is_between m ≡ true → IsSelect n s m t u (select_of n s m t u)
is_select n s m t u e = elim (between m e) [
  | is_colon h ↦ rw h (by_colon n s t u)
  | is_up h ↦ rw h (by_up n s t u)
  | is_down h ↦ rw h (by_down n s t u)
]

-- the two kinds are selects of these marks
pub part_is : (n : ℕ) (s : List ℕ) (t u : Tree) → Part n s t u ≡ select_of n s mark_colon t u
unfolding select_of
part_is n s t u = refl

pub indexed_mark : Bool → ℕ
indexed_mark up = cond up mark_part_up mark_part_down

pub indexed_is : (n : ℕ) (s : List ℕ) (t u : Tree) (up : Bool) → Indexed n s t u up ≡ select_of n s (cond up mark_part_up mark_part_down) t u
unfolding select_of
indexed_is n s t u true = refl
indexed_is n s t u false = refl

pub between-colon : is_between mark_colon ≡ true
unfolding is_between
between-colon = refl

pub between-indexed : (up : Bool) → is_between (cond up mark_part_up mark_part_down) ≡ true
unfolding is_between
between-indexed true = refl
between-indexed false = refl
