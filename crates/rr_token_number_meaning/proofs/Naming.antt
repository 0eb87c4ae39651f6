-- What expressions and statements name and read, without token numbers.
use Rattle.std.proofs.Common.{◌≡◌, ◌∙◌, sym, ap, ap₂, ◌⊎◌, ℕ, Bool, true, false, not, ◌&&◌, ◌||◌, ◌==◌, List, [], ◌∷◌, ◌++◌, map, refl}
use Rattle.std.proofs.lemmas.List.{map-append}
use Rattle.rr_syntax.specs.Tree.{Tree, Trees, Name, Literal, Bit as BitSelect, Part, Indexed, Unary, Binary, Cond, Concat, Repeat, Cast, Paren, End, More, Identifier, Statement, Statements, Arm, Arms, Null, Block as Sequence, If, IfElse, Case, Assign, For, Done, Then, CaseItem, NoArms, MoreArms, bare, bare_parts, bare_identifier, bare_statement, bare_statements, bare_arm, bare_arms}
use Rattle.rr_expr.specs.declared.types.Bit.{Bit}
use Rattle.rr_expr.specs.Reading.{IsBitOf, IsWithin, NamesAt, NamesIndex, NamesBit, NamesBits}
use Rattle.rr_expr.specs.Scopes.{Names, meant, entity_range}
use Rattle.rr_expr.specs.Selects.{place, lowest_place, integer_with}
use Rattle.rr_expr.specs.Values.{nowhere}
use Rattle.rr_flat.specs.Latches.{has_default, known, known_all, known_arm, known_arms, ReadsKnown, AllReadKnown, ArmReadsKnown, ArmsReadKnown, kept}
use Rattle.rr_flat.specs.Lawful.{no_wild, label_fits, all_labels_fit, labels_fit, all_fit, arm_fits, arms_fit}
use Rattle.rr_flat.specs.Reads.{names_in, names_in_parts, LiteralToken, literals_in, literals_in_parts, index_names, index_names_in, TargetReads, TargetsRead, StatementReads, StatementsRead, ArmReads, ArmsRead, names_of, names_of_all, names_of_arm, names_of_arms, names_read, names_read_by, names_read_by_arm, names_read_by_arms, Assigned, assigned_parts, assigned_by, assigned_by_all, assigned_by_arm, assigned_by_arms, writes}
use Rattle.rr_flat.specs.Targets.{target_parts}
use Rattle.rr_token_numbers.proofs.Shapes.{form-bare, value_path, span-bare, count-bare}
use Rattle.rr_token_number_meaning.proofs.Targets.{constant-bare, parts-bare, assigns_target-bare}
use Rattle.rr_token_number_meaning.proofs.Statements.{writes-bare, default-bare}

joined : {X : Type 0} (h : X → X) (a b c d : List X) → a ≡ map h c → b ≡ map h d → a ++ b ≡ map h (c ++ d)
joined {X} h a b c d e f = ap₂ (λ (x y : List X). x ++ y) e f ∙ sym (map-append h c d)

-- names

mutual
  unfolding names_in bare bare_identifier

  pub names_in-bare : (t : Tree) → names_in (bare t) ≡ map bare_identifier (names_in t)
  names_in-bare (Name token x) = refl
  names_in-bare (Literal token n) = refl
  names_in-bare (BitSelect token x i) = ap (λ (l : List Identifier). record { token = 0; text = x } ∷ l) (names_in-bare i)
  names_in-bare (Part token x l r) = ap (λ (z : List Identifier). record { token = 0; text = x } ∷ z) (joined bare_identifier _ _ (names_in l) (names_in r) (names_in-bare l) (names_in-bare r))
  names_in-bare (Indexed token x f n up) = ap (λ (z : List Identifier). record { token = 0; text = x } ∷ z) (joined bare_identifier _ _ (names_in f) (names_in n) (names_in-bare f) (names_in-bare n))
  names_in-bare (Unary op t) = names_in-bare t
  names_in-bare (Binary op l r) = joined bare_identifier _ _ (names_in l) (names_in r) (names_in-bare l) (names_in-bare r)
  names_in-bare (Cond a b c) =
      joined bare_identifier _ _ (names_in a) (names_in b ++ names_in c) (names_in-bare a) (joined bare_identifier _ _ (names_in b) (names_in c) (names_in-bare b) (names_in-bare c))
  names_in-bare (Concat ts) = names_in_parts-bare ts
  names_in-bare (Repeat n ts) = joined bare_identifier _ _ (names_in n) (names_in_parts ts) (names_in-bare n) (names_in_parts-bare ts)
  names_in-bare (Cast signed t) = names_in-bare t
  names_in-bare (Paren t) = names_in-bare t

  names_in_parts-bare : (ts : Trees) → names_in_parts (bare_parts ts) ≡ map bare_identifier (names_in_parts ts)
  names_in_parts-bare End = refl
  names_in_parts-bare (More t ts) = joined bare_identifier _ _ (names_in t) (names_in_parts ts) (names_in-bare t) (names_in_parts-bare ts)

mutual
  unfolding index_names bare

  index_names-bare : (t : Tree) → index_names (bare t) ≡ map bare_identifier (index_names t)
  index_names-bare (Name token x) = refl
  index_names-bare (Literal token n) = refl
  index_names-bare (BitSelect token x i) = names_in-bare i
  index_names-bare (Part token x l r) = joined bare_identifier _ _ (names_in l) (names_in r) (names_in-bare l) (names_in-bare r)
  index_names-bare (Indexed token x f n up) = joined bare_identifier _ _ (names_in f) (names_in n) (names_in-bare f) (names_in-bare n)
  index_names-bare (Unary op t) = refl
  index_names-bare (Binary op l r) = refl
  index_names-bare (Cond a b c) = refl
  index_names-bare (Concat ts) = index_names_in-bare ts
  index_names-bare (Repeat n ts) = refl
  index_names-bare (Cast signed t) = refl
  index_names-bare (Paren t) = refl

  index_names_in-bare : (ts : Trees) → index_names_in (bare_parts ts) ≡ map bare_identifier (index_names_in ts)
  index_names_in-bare End = refl
  index_names_in-bare (More t ts) = joined bare_identifier _ _ (index_names t) (index_names_in ts) (index_names-bare t) (index_names_in-bare ts)

mutual
  unfolding names_of bare_statement

  pub names_of-bare : (t : Statement) → names_of (bare_statement t) ≡ map bare_identifier (names_of t)
  names_of-bare Null = refl
  names_of-bare (Sequence label ts) = names_of_all-bare ts
  names_of-bare (If c t) = joined bare_identifier _ _ (names_in c) (names_of t) (names_in-bare c) (names_of-bare t)
  names_of-bare (IfElse c t u) =
      joined bare_identifier _ _ (names_in c) (names_of t ++ names_of u) (names_in-bare c) (joined bare_identifier _ _ (names_of t) (names_of u) (names_of-bare t) (names_of-bare u))
  names_of-bare (Case kind on arms) = joined bare_identifier _ _ (names_in on) (names_of_arms arms) (names_in-bare on) (names_of_arms-bare arms)
  names_of-bare (Assign t now e) = joined bare_identifier _ _ (names_in t) (names_in e) (names_in-bare t) (names_in-bare e)
  names_of-bare (For h a) = refl

  names_of_all-bare : (ts : Statements) → names_of_all (bare_statements ts) ≡ map bare_identifier (names_of_all ts)
  names_of_all-bare Done = refl
  names_of_all-bare (Then t ts) = joined bare_identifier _ _ (names_of t) (names_of_all ts) (names_of-bare t) (names_of_all-bare ts)

  names_of_arm-bare : (a : Arm) → names_of_arm (bare_arm a) ≡ map bare_identifier (names_of_arm a)
  names_of_arm-bare (CaseItem labels colon t) = joined bare_identifier _ _ (names_in_parts labels) (names_of t) (names_in_parts-bare labels) (names_of-bare t)

  names_of_arms-bare : (arms : Arms) → names_of_arms (bare_arms arms) ≡ map bare_identifier (names_of_arms arms)
  names_of_arms-bare NoArms = refl
  names_of_arms-bare (MoreArms a rest) = joined bare_identifier _ _ (names_of_arm a) (names_of_arms rest) (names_of_arm-bare a) (names_of_arms-bare rest)

mutual
  unfolding names_read bare_statement

  pub names_read-bare : (t : Statement) → names_read (bare_statement t) ≡ map bare_identifier (names_read t)
  names_read-bare Null = refl
  names_read-bare (Sequence label ts) = names_read_by-bare ts
  names_read-bare (If c t) = joined bare_identifier _ _ (names_in c) (names_read t) (names_in-bare c) (names_read-bare t)
  names_read-bare (IfElse c t u) =
      joined bare_identifier _ _ (names_in c) (names_read t ++ names_read u) (names_in-bare c) (joined bare_identifier _ _ (names_read t) (names_read u) (names_read-bare t) (names_read-bare u))
  names_read-bare (Case kind on arms) = joined bare_identifier _ _ (names_in on) (names_read_by_arms arms) (names_in-bare on) (names_read_by_arms-bare arms)
  names_read-bare (Assign t now e) = joined bare_identifier _ _ (index_names t) (names_in e) (index_names-bare t) (names_in-bare e)
  names_read-bare (For h a) = refl

  names_read_by-bare : (ts : Statements) → names_read_by (bare_statements ts) ≡ map bare_identifier (names_read_by ts)
  names_read_by-bare Done = refl
  names_read_by-bare (Then t ts) = joined bare_identifier _ _ (names_read t) (names_read_by ts) (names_read-bare t) (names_read_by-bare ts)

  names_read_by_arm-bare : (a : Arm) → names_read_by_arm (bare_arm a) ≡ map bare_identifier (names_read_by_arm a)
  names_read_by_arm-bare (CaseItem labels colon t) = joined bare_identifier _ _ (names_in_parts labels) (names_read t) (names_in_parts-bare labels) (names_read-bare t)

  names_read_by_arms-bare : (arms : Arms) → names_read_by_arms (bare_arms arms) ≡ map bare_identifier (names_read_by_arms arms)
  names_read_by_arms-bare NoArms = refl
  names_read_by_arms-bare (MoreArms a rest) = joined bare_identifier _ _ (names_read_by_arm a) (names_read_by_arms rest) (names_read_by_arm-bare a) (names_read_by_arms-bare rest)

-- labels

abbrev bare_literal : LiteralToken → LiteralToken
bare_literal l = record { token = 0; number = l.number }

mutual
  unfolding literals_in bare

  literals_in-bare : (t : Tree) → literals_in (bare t) ≡ map bare_literal (literals_in t)
  literals_in-bare (Name token x) = refl
  literals_in-bare (Literal token n) = refl
  literals_in-bare (BitSelect token x i) = literals_in-bare i
  literals_in-bare (Part token x l r) = joined bare_literal _ _ (literals_in l) (literals_in r) (literals_in-bare l) (literals_in-bare r)
  literals_in-bare (Indexed token x f n up) = joined bare_literal _ _ (literals_in f) (literals_in n) (literals_in-bare f) (literals_in-bare n)
  literals_in-bare (Unary op t) = literals_in-bare t
  literals_in-bare (Binary op l r) = joined bare_literal _ _ (literals_in l) (literals_in r) (literals_in-bare l) (literals_in-bare r)
  literals_in-bare (Cond a b c) =
      joined bare_literal _ _ (literals_in a) (literals_in b ++ literals_in c) (literals_in-bare a) (joined bare_literal _ _ (literals_in b) (literals_in c) (literals_in-bare b) (literals_in-bare c))
  literals_in-bare (Concat ts) = literals_in_parts-bare ts
  literals_in-bare (Repeat n ts) = joined bare_literal _ _ (literals_in n) (literals_in_parts ts) (literals_in-bare n) (literals_in_parts-bare ts)
  literals_in-bare (Cast signed t) = literals_in-bare t
  literals_in-bare (Paren t) = literals_in-bare t

  literals_in_parts-bare : (ts : Trees) → literals_in_parts (bare_parts ts) ≡ map bare_literal (literals_in_parts ts)
  literals_in_parts-bare End = refl
  literals_in_parts-bare (More t ts) = joined bare_literal _ _ (literals_in t) (literals_in_parts ts) (literals_in-bare t) (literals_in_parts-bare ts)

no_wild-mapped : (ls : List LiteralToken) → no_wild (map bare_literal ls) ≡ no_wild ls
unfolding no_wild
no_wild-mapped [] = refl
no_wild-mapped (l ∷ ls) = ap (λ (b : Bool). not (not ((l.number.any == 0) && (l.number.unknown == 0))) && b) (no_wild-mapped ls)

no_wild-bare : (t : Tree) → no_wild (literals_in (bare t)) ≡ no_wild (literals_in t)
no_wild-bare t = ap no_wild (literals_in-bare t) ∙ no_wild-mapped (literals_in t)

label_fits-bare : (kind : ℕ) (t : Tree) → label_fits kind (bare t) ≡ label_fits kind t
unfolding label_fits bare
label_fits-bare kind (Paren t) = label_fits-bare kind t
label_fits-bare kind (Literal token n) = refl
label_fits-bare kind (Name token x) = refl
label_fits-bare kind (BitSelect token x i) = no_wild-bare i
label_fits-bare kind (Part token x l r) = no_wild-bare (Part token x l r)
label_fits-bare kind (Indexed token x f n up) = no_wild-bare (Indexed token x f n up)
label_fits-bare kind (Unary op t) = no_wild-bare t
label_fits-bare kind (Binary op l r) = no_wild-bare (Binary op l r)
label_fits-bare kind (Cond a b c) = no_wild-bare (Cond a b c)
label_fits-bare kind (Concat ts) = no_wild-bare (Concat ts)
label_fits-bare kind (Repeat n ts) = no_wild-bare (Repeat n ts)
label_fits-bare kind (Cast signed t) = no_wild-bare t

all_labels_fit-bare : (kind : ℕ) (ts : Trees) → all_labels_fit kind (bare_parts ts) ≡ all_labels_fit kind ts
unfolding all_labels_fit bare
all_labels_fit-bare kind End = refl
all_labels_fit-bare kind (More t ts) = λ k. label_fits-bare kind t k && all_labels_fit-bare kind ts k

mutual
  unfolding labels_fit bare_statement

  pub labels_fit-bare : (t : Statement) → labels_fit (bare_statement t) ≡ labels_fit t
  labels_fit-bare Null = refl
  labels_fit-bare (Sequence label ts) = all_fit-bare ts
  labels_fit-bare (If c t) = labels_fit-bare t
  labels_fit-bare (IfElse c t u) = λ k. labels_fit-bare t k && labels_fit-bare u k
  labels_fit-bare (Case kind on arms) = arms_fit-bare kind arms
  labels_fit-bare (Assign t now e) = refl
  labels_fit-bare (For h a) = refl

  all_fit-bare : (ts : Statements) → all_fit (bare_statements ts) ≡ all_fit ts
  all_fit-bare Done = refl
  all_fit-bare (Then t ts) = λ k. labels_fit-bare t k && all_fit-bare ts k

  arm_fits-bare : (kind : ℕ) (a : Arm) → arm_fits kind (bare_arm a) ≡ arm_fits kind a
  arm_fits-bare kind (CaseItem labels colon t) = λ k. all_labels_fit-bare kind labels k && labels_fit-bare t k

  arms_fit-bare : (kind : ℕ) (arms : Arms) → arms_fit kind (bare_arms arms) ≡ arms_fit kind arms
  arms_fit-bare kind NoArms = refl
  arms_fit-bare kind (MoreArms a rest) = λ k. arm_fits-bare kind a k && arms_fit-bare kind rest k

-- what is assigned

abbrev pub bare_assigned : Assigned → Assigned
bare_assigned a = record { part = bare a.part; now = a.now }

assigned_parts-mapped : (now : Bool) (ts : List Tree) → assigned_parts now (map bare ts) ≡ map bare_assigned (assigned_parts now ts)
unfolding assigned_parts
assigned_parts-mapped now [] = refl
assigned_parts-mapped now (t ∷ ts) = ap (λ (l : List Assigned). record { part = bare t; now = now } ∷ l) (assigned_parts-mapped now ts)

mutual
  unfolding assigned_by bare_statement

  pub assigned_by-bare : (t : Statement) → assigned_by (bare_statement t) ≡ map bare_assigned (assigned_by t)
  assigned_by-bare Null = refl
  assigned_by-bare (Sequence label ts) = assigned_by_all-bare ts
  assigned_by-bare (If c t) = assigned_by-bare t
  assigned_by-bare (IfElse c t u) = joined bare_assigned _ _ (assigned_by t) (assigned_by u) (assigned_by-bare t) (assigned_by-bare u)
  assigned_by-bare (Case kind on arms) = assigned_by_arms-bare arms
  assigned_by-bare (Assign t now e) = ap (assigned_parts now) (parts-bare t) ∙ assigned_parts-mapped now (target_parts t)
  assigned_by-bare (For h a) = refl

  assigned_by_all-bare : (ts : Statements) → assigned_by_all (bare_statements ts) ≡ map bare_assigned (assigned_by_all ts)
  assigned_by_all-bare Done = refl
  assigned_by_all-bare (Then t ts) = joined bare_assigned _ _ (assigned_by t) (assigned_by_all ts) (assigned_by-bare t) (assigned_by_all-bare ts)

  assigned_by_arm-bare : (a : Arm) → assigned_by_arm (bare_arm a) ≡ map bare_assigned (assigned_by_arm a)
  assigned_by_arm-bare (CaseItem labels colon t) = assigned_by-bare t

  assigned_by_arms-bare : (arms : Arms) → assigned_by_arms (bare_arms arms) ≡ map bare_assigned (assigned_by_arms arms)
  assigned_by_arms-bare NoArms = refl
  assigned_by_arms-bare (MoreArms a rest) = joined bare_assigned _ _ (assigned_by_arm a) (assigned_by_arms rest) (assigned_by_arm-bare a) (assigned_by_arms-bare rest)

-- the bits that are named and read

mutual
  unfolding NamesBit bare

  pub NamesBit-bare : (s : Names) (t : Tree) → NamesBit s (bare t) ≡ NamesBit s t
  NamesBit-bare s (Name token x) = refl
  NamesBit-bare s (Literal token n) = refl
  NamesBit-bare s (BitSelect token x i) =
      λ k b. NamesIndex (constant-bare s i k) (meant s x) (integer_with (form-bare s i k) (value_path s i k nowhere)) (NamesBit-bare s i k b) b
  NamesBit-bare s (Part token x l r) =
      λ k b. IsBitOf (meant s x) b × IsWithin (place (entity_range (meant s x)) (integer_with (form-bare s r k) (value_path s r k nowhere))) (span-bare s l r k) b.place
  NamesBit-bare s (Indexed token x f n up) =
      λ k b. NamesAt (constant-bare s f k) (meant s x) (lowest_place (entity_range (meant s x)) up (integer_with (form-bare s f k) (value_path s f k nowhere)) (count-bare s n k)) (count-bare s n k) (NamesBit-bare s f k b) b
  NamesBit-bare s (Unary op t) = NamesBit-bare s t
  NamesBit-bare s (Binary op l r) = λ k b. NamesBit-bare s l k b ⊎ NamesBit-bare s r k b
  NamesBit-bare s (Cond a c d) = λ k b. NamesBit-bare s a k b ⊎ (NamesBit-bare s c k b ⊎ NamesBit-bare s d k b)
  NamesBit-bare s (Concat ts) = NamesBits-bare s ts
  NamesBit-bare s (Repeat n ts) = NamesBits-bare s ts
  NamesBit-bare s (Cast signed t) = NamesBit-bare s t
  NamesBit-bare s (Paren t) = NamesBit-bare s t

  NamesBits-bare : (s : Names) (ts : Trees) → NamesBits s (bare_parts ts) ≡ NamesBits s ts
  NamesBits-bare s End = refl
  NamesBits-bare s (More t ts) = λ k b. NamesBit-bare s t k b ⊎ NamesBits-bare s ts k b

mutual
  unfolding TargetReads bare

  TargetReads-bare : (s : Names) (t : Tree) → TargetReads s (bare t) ≡ TargetReads s t
  TargetReads-bare s (Name token x) = refl
  TargetReads-bare s (Literal token n) = refl
  TargetReads-bare s (BitSelect token x i) = NamesBit-bare s i
  TargetReads-bare s (Part token x l r) = refl
  TargetReads-bare s (Indexed token x f n up) = NamesBit-bare s f
  TargetReads-bare s (Unary op t) = refl
  TargetReads-bare s (Binary op l r) = refl
  TargetReads-bare s (Cond a c d) = refl
  TargetReads-bare s (Concat ts) = TargetsRead-bare s ts
  TargetReads-bare s (Repeat n ts) = refl
  TargetReads-bare s (Cast signed t) = refl
  TargetReads-bare s (Paren t) = refl

  TargetsRead-bare : (s : Names) (ts : Trees) → TargetsRead s (bare_parts ts) ≡ TargetsRead s ts
  TargetsRead-bare s End = refl
  TargetsRead-bare s (More t ts) = λ k b. TargetReads-bare s t k b ⊎ TargetsRead-bare s ts k b

mutual
  unfolding StatementReads bare_statement

  pub StatementReads-bare : (s : Names) (t : Statement) → StatementReads s (bare_statement t) ≡ StatementReads s t
  StatementReads-bare s Null = refl
  StatementReads-bare s (Sequence label ts) = StatementsRead-bare s ts
  StatementReads-bare s (If c t) = λ k b. NamesBit-bare s c k b ⊎ StatementReads-bare s t k b
  StatementReads-bare s (IfElse c t u) = λ k b. NamesBit-bare s c k b ⊎ (StatementReads-bare s t k b ⊎ StatementReads-bare s u k b)
  StatementReads-bare s (Case kind on arms) = λ k b. NamesBit-bare s on k b ⊎ ArmsRead-bare s arms k b
  StatementReads-bare s (Assign t now e) = λ k b. TargetReads-bare s t k b ⊎ NamesBit-bare s e k b
  StatementReads-bare s (For h a) = refl

  StatementsRead-bare : (s : Names) (ts : Statements) → StatementsRead s (bare_statements ts) ≡ StatementsRead s ts
  StatementsRead-bare s Done = refl
  StatementsRead-bare s (Then t ts) = λ k b. StatementReads-bare s t k b ⊎ StatementsRead-bare s ts k b

  ArmReads-bare : (s : Names) (a : Arm) → ArmReads s (bare_arm a) ≡ ArmReads s a
  ArmReads-bare s (CaseItem labels colon t) = λ k b. NamesBits-bare s labels k b ⊎ StatementReads-bare s t k b

  ArmsRead-bare : (s : Names) (arms : Arms) → ArmsRead s (bare_arms arms) ≡ ArmsRead s arms
  ArmsRead-bare s NoArms = refl
  ArmsRead-bare s (MoreArms a rest) = λ k b. ArmReads-bare s a k b ⊎ ArmsRead-bare s rest k b

-- latches

has_default-bare : (arms : Arms) → has_default (bare_arms arms) ≡ has_default arms
unfolding has_default bare_statement
has_default-bare NoArms = refl
has_default-bare (MoreArms a rest) = λ k. default-bare a k || has_default-bare rest k

mutual
  unfolding known bare_statement

  known-bare : (s : Names) (before : Bit → Bool) (t : Statement) → known s before (bare_statement t) ≡ known s before t
  known-bare s before Null = refl
  known-bare s before (Sequence label ts) = known_all-bare s before ts
  known-bare s before (If c t) = λ k b. known-bare s before t k b && before b
  known-bare s before (IfElse c t u) = λ k b. known-bare s before t k b && known-bare s before u k b
  known-bare s before (Case kind on arms) = λ k b. known_arms-bare s before arms k b && (has_default-bare arms k || before b)
  known-bare s before (Assign t true e) = λ k b. before b || assigns_target-bare s t k b
  known-bare s before (Assign t false e) = refl
  known-bare s before (For h a) = refl

  known_all-bare : (s : Names) (before : Bit → Bool) (ts : Statements) → known_all s before (bare_statements ts) ≡ known_all s before ts
  known_all-bare s before Done = refl
  known_all-bare s before (Then t ts) = λ k. known_all-bare s (known-bare s before t k) ts k

  known_arm-bare : (s : Names) (before : Bit → Bool) (a : Arm) → known_arm s before (bare_arm a) ≡ known_arm s before a
  known_arm-bare s before (CaseItem labels colon t) = known-bare s before t

  known_arms-bare : (s : Names) (before : Bit → Bool) (arms : Arms) → known_arms s before (bare_arms arms) ≡ known_arms s before arms
  known_arms-bare s before NoArms = refl
  known_arms-bare s before (MoreArms a rest) = λ k b. known_arm-bare s before a k b && known_arms-bare s before rest k b

mutual
  unfolding ReadsKnown bare_statement

  ReadsKnown-bare : (s : Names) (before : Bit → Bool) (t : Statement) → ReadsKnown s before (bare_statement t) ≡ ReadsKnown s before t
  ReadsKnown-bare s before Null = refl
  ReadsKnown-bare s before (Sequence label ts) = AllReadKnown-bare s before ts
  ReadsKnown-bare s before (If c t) = λ k. ((b : Bit) → NamesBit-bare s c k b → before b ≡ true) × ReadsKnown-bare s before t k
  ReadsKnown-bare s before (IfElse c t u) = λ k. ((b : Bit) → NamesBit-bare s c k b → before b ≡ true) × (ReadsKnown-bare s before t k × ReadsKnown-bare s before u k)
  ReadsKnown-bare s before (Case kind on arms) = λ k. ((b : Bit) → NamesBit-bare s on k b → before b ≡ true) × ArmsReadKnown-bare s before arms k
  ReadsKnown-bare s before (Assign t now e) = λ k. ((b : Bit) → TargetReads-bare s t k b → before b ≡ true) × ((b : Bit) → NamesBit-bare s e k b → before b ≡ true)
  ReadsKnown-bare s before (For h a) = refl

  AllReadKnown-bare : (s : Names) (before : Bit → Bool) (ts : Statements) → AllReadKnown s before (bare_statements ts) ≡ AllReadKnown s before ts
  AllReadKnown-bare s before Done = refl
  AllReadKnown-bare s before (Then t ts) = λ k. ReadsKnown-bare s before t k × AllReadKnown-bare s (known-bare s before t k) ts k

  ArmReadsKnown-bare : (s : Names) (before : Bit → Bool) (a : Arm) → ArmReadsKnown s before (bare_arm a) ≡ ArmReadsKnown s before a
  ArmReadsKnown-bare s before (CaseItem labels colon t) = λ k. ((b : Bit) → NamesBits-bare s labels k b → before b ≡ true) × ReadsKnown-bare s before t k

  ArmsReadKnown-bare : (s : Names) (before : Bit → Bool) (arms : Arms) → ArmsReadKnown s before (bare_arms arms) ≡ ArmsReadKnown s before arms
  ArmsReadKnown-bare s before NoArms = refl
  ArmsReadKnown-bare s before (MoreArms a rest) = λ k. ArmReadsKnown-bare s before a k × ArmsReadKnown-bare s before rest k

kept-bare : (s : Names) (t : Statement) → kept s (bare_statement t) ≡ kept s t
kept-bare s t = λ k b. not (writes-bare true s t k b)

pub latch_reads : (s : Names) (t : Statement) → ReadsKnown s (kept s (bare_statement t)) (bare_statement t) ≡ ReadsKnown s (kept s t) t
latch_reads s t = λ k. ReadsKnown-bare s (kept-bare s t k) t k

pub latch_ends : (s : Names) (t : Statement) → ((b : Bit) → writes true s (bare_statement t) b ≡ true → known s (kept s (bare_statement t)) (bare_statement t) b ≡ true)
    ≡ ((b : Bit) → writes true s t b ≡ true → known s (kept s t) t b ≡ true)
latch_ends s t = λ k. (b : Bit) → writes-bare true s t k b ≡ true → known-bare s (kept-bare s t k) t k b ≡ true
