-- Names at whose tokens no literal is changed: a token is that of a name or that of a number.
use Rattle.std.specs.Prelude.{◌≡◌, ℕ, false, List}
use Rattle.std.specs.List.{AllByRecursion}
use Rattle.rr_syntax.specs.Tree.{Tree, Trees, Name, Literal, Bit, Part, Indexed, Unary, Binary, Cond, Concat, Repeat, Cast, Paren, End, More, Statement, Statements, Arm, Arms, Null, Block, If, IfElse, Case, Assign, For, Done, Then, CaseItem, NoArms, MoreArms}
use Rattle.rr_choice.specs.Places.{is_literal_at}
use Rattle.rr_choice.specs.Sites.{Site}

-- no site is a literal at this token
abbrev pub NoLiteralAt : List Site → ℕ → Type 0
NoLiteralAt ss token = AllByRecursion (λ s. is_literal_at token s ≡ false) ss

-- at the names of an expression, outside the places that stay in an instance
unfoldable mutual
  pub NamesStay : List Site → Tree → Type 0
  NamesStay ss (Name token x) = NoLiteralAt ss token
  NamesStay ss (Literal token n) = Unit {0}
  NamesStay ss (Bit token x i) = Unit {0}
  NamesStay ss (Part token x l r) = Unit {0}
  NamesStay ss (Indexed token x f n up) = Unit {0}
  NamesStay ss (Unary op t) = NamesStay ss t
  NamesStay ss (Binary op l r) = NamesStay ss l × NamesStay ss r
  NamesStay ss (Cond a b c) = NamesStay ss a × NamesStay ss b × NamesStay ss c
  NamesStay ss (Concat ts) = NamesStayIn ss ts
  NamesStay ss (Repeat n ts) = NamesStayIn ss ts
  NamesStay ss (Cast signed t) = NamesStay ss t
  NamesStay ss (Paren t) = NamesStay ss t

  pub NamesStayIn : List Site → Trees → Type 0
  NamesStayIn ss End = Unit {0}
  NamesStayIn ss (More t ts) = NamesStay ss t × NamesStayIn ss ts

-- at those of a statement; targets and heads of loops stay
unfoldable mutual
  pub NamesStayOf : List Site → Statement → Type 0
  NamesStayOf ss Null = Unit {0}
  NamesStayOf ss (Block label ts) = NamesStayOfAll ss ts
  NamesStayOf ss (If c t) = NamesStay ss c × NamesStayOf ss t
  NamesStayOf ss (IfElse c t u) = NamesStay ss c × NamesStayOf ss t × NamesStayOf ss u
  NamesStayOf ss (Case kind on arms) = NamesStay ss on × NamesStayOfArms ss arms
  NamesStayOf ss (Assign t now e) = NamesStay ss e
  NamesStayOf ss (For h t) = NamesStayOf ss t

  pub NamesStayOfAll : List Site → Statements → Type 0
  NamesStayOfAll ss Done = Unit {0}
  NamesStayOfAll ss (Then t ts) = NamesStayOf ss t × NamesStayOfAll ss ts

  pub NamesStayOfArm : List Site → Arm → Type 0
  NamesStayOfArm ss (CaseItem labels colon t) = NamesStayIn ss labels × NamesStayOf ss t

  pub NamesStayOfArms : List Site → Arms → Type 0
  NamesStayOfArms ss NoArms = Unit {0}
  NamesStayOfArms ss (MoreArms a rest) = NamesStayOfArm ss a × NamesStayOfArms ss rest
