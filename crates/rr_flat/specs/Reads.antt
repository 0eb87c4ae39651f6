-- What expressions, drivers and statements read and write, and which names stand in them
-- (IEEE 1364-2005 sections 5, 6.1 and 9). Statements of a flat design hold no loop (section 9.6): elaboration unfolds them.
use Rattle.std.specs.Prelude.{ℕ, List, [], ◌∷◌, ◌++◌, Bool, true, false, ◌||◌, ◌⊎◌}
use Rattle.rr_syntax.specs.declared.token.Number.{Number}
use Rattle.rr_syntax.specs.Tree.{Tree, Trees, Name, Literal, Bit as BitSelect, Part, Indexed, Unary, Binary, Cond, Concat, Repeat, Cast, Paren, End, More, Identifier, Statement, Statements, Arm, Arms, Null, Block as Sequence, If, IfElse, Case, Assign, For, Done, Then, CaseItem, NoArms, MoreArms}
use Rattle.rr_expr.specs.declared.types.Bit.{Bit}
use Rattle.rr_expr.specs.Scopes.{Names}
use Rattle.rr_expr.specs.Reading.{NamesBit, NamesBits}
use Rattle.rr_flat.specs.Targets.{target_parts, writes_target}

-- the names of an expression, in the order of the text
unfoldable mutual
  pub names_in : Tree → List Identifier
  names_in (Name token name) = record { token = token; text = name } ∷ []
  names_in (Literal token n) = []
  names_in (BitSelect token name i) = record { token = token; text = name } ∷ names_in i
  names_in (Part token name l r) = record { token = token; text = name } ∷ (names_in l ++ names_in r)
  names_in (Indexed token name f n up) = record { token = token; text = name } ∷ (names_in f ++ names_in n)
  names_in (Unary op t) = names_in t
  names_in (Binary op l r) = names_in l ++ names_in r
  names_in (Cond a b c) = names_in a ++ (names_in b ++ names_in c)
  names_in (Concat ts) = names_in_parts ts
  names_in (Repeat n ts) = names_in n ++ names_in_parts ts
  names_in (Cast signed t) = names_in t
  names_in (Paren t) = names_in t

  pub names_in_parts : Trees → List Identifier
  names_in_parts End = []
  names_in_parts (More t ts) = names_in t ++ names_in_parts ts

-- a literal and the number of its token
pub record LiteralToken : Type 0 where
  pub token : ℕ
  pub number : Number

-- the literals of an expression, in the order of the text
unfoldable mutual
  pub literals_in : Tree → List LiteralToken
  literals_in (Name token name) = []
  literals_in (Literal token n) = record { token = token; number = n } ∷ []
  literals_in (BitSelect token name i) = literals_in i
  literals_in (Part token name l r) = literals_in l ++ literals_in r
  literals_in (Indexed token name f n up) = literals_in f ++ literals_in n
  literals_in (Unary op t) = literals_in t
  literals_in (Binary op l r) = literals_in l ++ literals_in r
  literals_in (Cond a b c) = literals_in a ++ (literals_in b ++ literals_in c)
  literals_in (Concat ts) = literals_in_parts ts
  literals_in (Repeat n ts) = literals_in n ++ literals_in_parts ts
  literals_in (Cast signed t) = literals_in t
  literals_in (Paren t) = literals_in t

  pub literals_in_parts : Trees → List LiteralToken
  literals_in_parts End = []
  literals_in_parts (More t ts) = literals_in t ++ literals_in_parts ts

-- the indices of a target: the names that stand in them, and the bits that they read
unfoldable mutual
  pub index_names : Tree → List Identifier
  index_names (Name token name) = []
  index_names (Literal token n) = []
  index_names (BitSelect token name i) = names_in i
  index_names (Part token name l r) = names_in l ++ names_in r
  index_names (Indexed token name f n up) = names_in f ++ names_in n
  index_names (Unary op t) = []
  index_names (Binary op l r) = []
  index_names (Cond a b c) = []
  index_names (Concat ts) = index_names_in ts
  index_names (Repeat n ts) = []
  index_names (Cast signed t) = []
  index_names (Paren t) = []

  pub index_names_in : Trees → List Identifier
  index_names_in End = []
  index_names_in (More t ts) = index_names t ++ index_names_in ts

unfoldable mutual
  pub TargetReads : Names → Tree → Bit → Type 0
  TargetReads s (Name token name) b = ⊥
  TargetReads s (Literal token n) b = ⊥
  TargetReads s (BitSelect token name i) b = NamesBit s i b
  TargetReads s (Part token name l r) b = ⊥
  TargetReads s (Indexed token name f n up) b = NamesBit s f b
  TargetReads s (Unary op t) b = ⊥
  TargetReads s (Binary op l r) b = ⊥
  TargetReads s (Cond a c d) b = ⊥
  TargetReads s (Concat ts) b = TargetsRead s ts b
  TargetReads s (Repeat n ts) b = ⊥
  TargetReads s (Cast signed t) b = ⊥
  TargetReads s (Paren t) b = ⊥

  pub TargetsRead : Names → Trees → Bit → Type 0
  TargetsRead s End b = ⊥
  TargetsRead s (More t ts) b = TargetReads s t b ⊎ TargetsRead s ts b

-- the bits that a statement reads on some path (section 9)
unfoldable mutual
  pub StatementReads : Names → Statement → Bit → Type 0
  StatementReads s Null b = ⊥
  StatementReads s (Sequence label ss) b = StatementsRead s ss b
  StatementReads s (If c t) b = NamesBit s c b ⊎ StatementReads s t b
  StatementReads s (IfElse c t u) b = NamesBit s c b ⊎ (StatementReads s t b ⊎ StatementReads s u b)
  StatementReads s (Case kind on arms) b = NamesBit s on b ⊎ ArmsRead s arms b
  StatementReads s (Assign t now e) b = TargetReads s t b ⊎ NamesBit s e b
  StatementReads s (For h t) b = ⊥

  pub StatementsRead : Names → Statements → Bit → Type 0
  StatementsRead s Done b = ⊥
  StatementsRead s (Then t ts) b = StatementReads s t b ⊎ StatementsRead s ts b

  pub ArmReads : Names → Arm → Bit → Type 0
  ArmReads s (CaseItem labels colon body) b = NamesBits s labels b ⊎ StatementReads s body b

  pub ArmsRead : Names → Arms → Bit → Type 0
  ArmsRead s NoArms b = ⊥
  ArmsRead s (MoreArms a rest) b = ArmReads s a b ⊎ ArmsRead s rest b

-- the names of a statement, in the order of the text: all of them, and those that it reads
unfoldable mutual
  pub names_of : Statement → List Identifier
  names_of Null = []
  names_of (Sequence label ss) = names_of_all ss
  names_of (If c t) = names_in c ++ names_of t
  names_of (IfElse c t u) = names_in c ++ (names_of t ++ names_of u)
  names_of (Case kind on arms) = names_in on ++ names_of_arms arms
  names_of (Assign t now e) = names_in t ++ names_in e
  names_of (For h t) = []

  pub names_of_all : Statements → List Identifier
  names_of_all Done = []
  names_of_all (Then t ts) = names_of t ++ names_of_all ts

  pub names_of_arm : Arm → List Identifier
  names_of_arm (CaseItem labels colon body) = names_in_parts labels ++ names_of body

  pub names_of_arms : Arms → List Identifier
  names_of_arms NoArms = []
  names_of_arms (MoreArms a rest) = names_of_arm a ++ names_of_arms rest

unfoldable mutual
  pub names_read : Statement → List Identifier
  names_read Null = []
  names_read (Sequence label ss) = names_read_by ss
  names_read (If c t) = names_in c ++ names_read t
  names_read (IfElse c t u) = names_in c ++ (names_read t ++ names_read u)
  names_read (Case kind on arms) = names_in on ++ names_read_by_arms arms
  names_read (Assign t now e) = index_names t ++ names_in e
  names_read (For h t) = []

  pub names_read_by : Statements → List Identifier
  names_read_by Done = []
  names_read_by (Then t ts) = names_read t ++ names_read_by ts

  pub names_read_by_arm : Arm → List Identifier
  names_read_by_arm (CaseItem labels colon body) = names_in_parts labels ++ names_read body

  pub names_read_by_arms : Arms → List Identifier
  names_read_by_arms NoArms = []
  names_read_by_arms (MoreArms a rest) = names_read_by_arm a ++ names_read_by_arms rest

-- a name or select that a statement assigns, by `=` where `now`
pub record Assigned : Type 0 where
  pub part : Tree
  pub now : Bool

unfoldable pub assigned_parts : Bool → List Tree → List Assigned
assigned_parts now [] = []
assigned_parts now (t ∷ ts) = record { part = t; now = now } ∷ assigned_parts now ts

-- all of them, in the order of the text
unfoldable mutual
  pub assigned_by : Statement → List Assigned
  assigned_by Null = []
  assigned_by (Sequence label ss) = assigned_by_all ss
  assigned_by (If c t) = assigned_by t
  assigned_by (IfElse c t u) = assigned_by t ++ assigned_by u
  assigned_by (Case kind on arms) = assigned_by_arms arms
  assigned_by (Assign t now e) = assigned_parts now (target_parts t)
  assigned_by (For h t) = []

  pub assigned_by_all : Statements → List Assigned
  assigned_by_all Done = []
  assigned_by_all (Then t ts) = assigned_by t ++ assigned_by_all ts

  pub assigned_by_arm : Arm → List Assigned
  assigned_by_arm (CaseItem labels colon body) = assigned_by body

  pub assigned_by_arms : Arms → List Assigned
  assigned_by_arms NoArms = []
  assigned_by_arms (MoreArms a rest) = assigned_by_arm a ++ assigned_by_arms rest

-- the bits that a statement may write: by `=` where `now`, else by `<=` (sections 9.2.1 and 9.2.2)
unfoldable mutual
  pub writes : Bool → Names → Statement → Bit → Bool
  writes now s Null b = false
  writes now s (Sequence label ss) b = write_any now s ss b
  writes now s (If c t) b = writes now s t b
  writes now s (IfElse c t u) b = writes now s t b || writes now s u b
  writes now s (Case kind on arms) b = arms_write now s arms b
  writes now s (For h t) b = false
  writes true s (Assign t true e) b = writes_target s t b
  writes true s (Assign t false e) b = false
  writes false s (Assign t true e) b = false
  writes false s (Assign t false e) b = writes_target s t b

  pub write_any : Bool → Names → Statements → Bit → Bool
  write_any now s Done b = false
  write_any now s (Then t ts) b = writes now s t b || write_any now s ts b

  pub arm_writes : Bool → Names → Arm → Bit → Bool
  arm_writes now s (CaseItem labels colon body) b = writes now s body b

  pub arms_write : Bool → Names → Arms → Bit → Bool
  arms_write now s NoArms b = false
  arms_write now s (MoreArms a rest) b = arm_writes now s a b || arms_write now s rest b
