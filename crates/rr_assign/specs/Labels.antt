-- The labels of `case`, `casez` and `casex` that hold digits which match anything (IEEE 1364-2005 section 9.5.1), by
-- the tokens of the literals, in the order of the text.
use Rattle.std.specs.Prelude.{ℕ, List, [], ◌∷◌, ◌++◌, cond, ◌==◌}
use Rattle.rr_syntax.specs.declared.token.Number.{Number}
use Rattle.rr_syntax.specs.Tree.{Tree, Trees, Name, Literal, Bit as BitSelect, Part, Indexed, Unary, Binary, Cond, Concat, Repeat, Cast, Paren, End, More, Statement, Statements, Arm, Arms, Null, Block as Sequence, If, IfElse, Case, Assign, For, Done, Then, CaseItem, NoArms, MoreArms}
use Rattle.rr_syntax.specs.Words.{keyword_case, keyword_casez}
use Rattle.rr_flat.specs.declared.design.Part as design
use Rattle.rr_flat.specs.Lawful.{has_wild}
use Rattle.rr_flat.specs.Plain.{Flat}
use Rattle.rr_flat.specs.Reads.{LiteralToken, literals_in}
use Rattle.rr_text_names.specs.Firsts.{walked}
use Rattle.rr_flat.specs.Parts.{block_of}

-- of literals that are no label of their own: all with such digits
unfoldable pub wild : List LiteralToken → List ℕ
wild [] = []
wild (l ∷ ls) = cond (has_wild l.number) (l.token ∷ wild ls) (wild ls)

-- of a literal that is a label: none of them in `case`, and no x digit in `casez`
abbrev pub wild_literal : ℕ → ℕ → Number → List ℕ
wild_literal kind token n =
    cond (kind == keyword_case) (cond (has_wild n) (token ∷ []) [])
    (cond (kind == keyword_casez) (cond (n.unknown == 0) [] (token ∷ [])) [])

unfoldable pub wild_label : ℕ → Tree → List ℕ
wild_label kind (Paren t) = wild_label kind t
wild_label kind (Literal token n) = wild_literal kind token n
wild_label kind (Name token name) = []
wild_label kind (BitSelect token name i) = wild (literals_in (BitSelect token name i))
wild_label kind (Part token name l r) = wild (literals_in (Part token name l r))
wild_label kind (Indexed token name f n up) = wild (literals_in (Indexed token name f n up))
wild_label kind (Unary op t) = wild (literals_in (Unary op t))
wild_label kind (Binary op l r) = wild (literals_in (Binary op l r))
wild_label kind (Cond a b c) = wild (literals_in (Cond a b c))
wild_label kind (Concat ts) = wild (literals_in (Concat ts))
wild_label kind (Repeat n ts) = wild (literals_in (Repeat n ts))
wild_label kind (Cast signed t) = wild (literals_in (Cast signed t))

unfoldable pub wild_labels : ℕ → Trees → List ℕ
wild_labels kind End = []
wild_labels kind (More t ts) = wild_label kind t ++ wild_labels kind ts

unfoldable mutual
  pub wild_in : Statement → List ℕ
  wild_in Null = []
  wild_in (Sequence label ss) = wild_in_all ss
  wild_in (If c t) = wild_in t
  wild_in (IfElse c t u) = wild_in t ++ wild_in u
  wild_in (Case kind on arms) = wild_in_arms kind arms
  wild_in (Assign t now e) = []
  wild_in (For h t) = []

  pub wild_in_all : Statements → List ℕ
  wild_in_all Done = []
  wild_in_all (Then t ts) = wild_in t ++ wild_in_all ts

  pub wild_in_arm : ℕ → Arm → List ℕ
  wild_in_arm kind (CaseItem labels colon body) = wild_labels kind labels ++ wild_in body

  pub wild_in_arms : ℕ → Arms → List ℕ
  wild_in_arms kind NoArms = []
  wild_in_arms kind (MoreArms a rest) = wild_in_arm kind a ++ wild_in_arms kind rest

-- of a design
abbrev pub wild_of_part : Flat → design.Part → List ℕ
wild_of_part flat p = wild_in (block_of flat p).body

abbrev pub all_wild : Flat → List ℕ
all_wild flat = walked (wild_of_part flat) flat
