-- The names of targets in a text can be written as names.
use Rattle.std.proofs.Common.{ℕ, not, Bool, List, [], ◌∷◌, ◌++◌}
use Rattle.std.specs.List.{All, AllByRecursion, filter}
use Rattle.std.specs.Str.{bytes_eq}
use Rattle.std.proofs.lemmas.List.Elements.{All-nil, All-cons, All-head, All-tail, All-filter, All-map, All-from_recursion, recursion_from_All}
use Rattle.rr_syntax.specs.Words.{Word, Reserved, Marked, keyword_else, keyword_endcase, keyword_end, mark_close_parenthesis, mark_close_brace}
use Rattle.rr_syntax.specs.Tree.{Tree, Trees, Name, Literal, Bit, Part, Indexed, Unary, Binary, Cond, Concat, Repeat, Cast, Paren, End, More, Statement, Statements, Arm, Arms, Null, Block, If, IfElse, Case, Assign, For, Done, Then, CaseItem, NoArms, MoreArms}
use Rattle.rr_syntax.specs.Expressions.{spell, spell_parts, spell_more}
use Rattle.rr_syntax.specs.Statements.{spell_label, spell_labels, spell_loop, spell_statement, spell_statements, spell_arm, spell_arms}
use Rattle.rr_lex.specs.Patch.{IsNameText}
use Rattle.rr_lex.specs.Tokens.{IsSound}
use Rattle.rr_flat.specs.Reads.{Assigned, assigned_parts}
use Rattle.rr_flat.specs.Targets.{part_name, target_parts, targets_parts}
use Rattle.rr_lint_laws.specs.Ever.{ever_assigned, ever_assigned_all, ever_assigned_arm, ever_assigned_arms, ever_names}
use Rattle.rr_lint_laws.specs.Mended.{Marks, cleared_by, each_once}

-- what each token of a text is
abbrev pub Each : List Word → Type 0
Each ws = AllByRecursion IsSound ws

pub front : (a b : List Word) → Each (a ++ b) → Each a
front [] b h = tt
front (w ∷ a) b h = (h.0, front a b h.1)

pub back : (a b : List Word) → Each (a ++ b) → Each b
back [] b h = h
back (w ∷ a) b h = back a b h.1

append : {A : Type 0} (P : A → Type 0) (xs ys : List A) → AllByRecursion P xs → AllByRecursion P ys → AllByRecursion P (xs ++ ys)
append P [] ys a b = b
append P (x ∷ xs) ys a b = (a.0, append P xs ys a.1 b)

-- the name of a part of a target can be written
abbrev PartNamed : Tree → Type 0
PartNamed t = IsNameText (part_name t)

mutual
  unfolding spell target_parts

  target_named : (t : Tree) → Each (spell t) → AllByRecursion PartNamed (target_parts t)
  target_named (Name token x) h = (h.0, tt)
  target_named (Literal token n) h = tt
  target_named (Bit token x i) h = (h.0, tt)
  target_named (Part token x l r) h = (h.0, tt)
  target_named (Indexed token x f n up) h = (h.0, tt)
  target_named (Unary op t) h = tt
  target_named (Binary op l r) h = tt
  target_named (Cond a b c) h = tt
  target_named (Concat ts) h = targets_named ts (front (spell_parts ts) (Marked mark_close_brace ∷ []) h.1)
  target_named (Repeat n ts) h = tt
  target_named (Cast signed t) h = tt
  target_named (Paren t) h = tt

  targets_named : (ts : Trees) → Each (spell_parts ts) → AllByRecursion PartNamed (targets_parts ts)
  targets_named End h = tt
  targets_named (More t ts) h = append PartNamed (target_parts t) (targets_parts ts) (target_named t (front (spell t) (spell_more ts) h)) (more_named ts (back (spell t) (spell_more ts) h))

  more_named : (ts : Trees) → Each (spell_more ts) → AllByRecursion PartNamed (targets_parts ts)
  more_named End h = tt
  more_named (More t ts) h = append PartNamed (target_parts t) (targets_parts ts) (target_named t (front (spell t) (spell_more ts) h.1)) (more_named ts (back (spell t) (spell_more ts) h.1))

-- so can that of an assignment
abbrev AssignedNamed : Assigned → Type 0
AssignedNamed a = PartNamed a.part

assigned_named : (now : Bool) (ts : List Tree) → AllByRecursion PartNamed ts → AllByRecursion AssignedNamed (assigned_parts now ts)
unfolding assigned_parts
assigned_named now [] h = tt
assigned_named now (t ∷ ts) h = (h.0, assigned_named now ts h.1)

-- past the keyword and the expression in brackets
past : (c : Tree) (rest : List Word) → Each (spell c ++ (Marked mark_close_parenthesis ∷ rest)) → Each rest
past c rest h = (back (spell c) (Marked mark_close_parenthesis ∷ rest) h).1

mutual
  unfolding spell_statement ever_assigned

  statement_named : (s : Statement) → Each (spell_statement s) → AllByRecursion AssignedNamed (ever_assigned s)
  statement_named Null h = tt
  statement_named (Block label ss) h = statements_named ss (front (spell_statements ss) (Reserved keyword_end ∷ []) (back (spell_label label) (spell_statements ss ++ (Reserved keyword_end ∷ [])) h.1))
  statement_named (If c t) h = statement_named t (past c (spell_statement t) h.1.1)
  statement_named (IfElse c t u) h =
      let r = past c (spell_statement t ++ (Reserved keyword_else ∷ spell_statement u)) h.1.1 in
      append AssignedNamed (ever_assigned t) (ever_assigned u) (statement_named t (front (spell_statement t) (Reserved keyword_else ∷ spell_statement u) r))
      (statement_named u (back (spell_statement t) (Reserved keyword_else ∷ spell_statement u) r).1)
  statement_named (Case kind on arms) h = arms_named arms (front (spell_arms arms) (Reserved keyword_endcase ∷ []) (past on (spell_arms arms ++ (Reserved keyword_endcase ∷ [])) h.1.1))
  statement_named (Assign t now e) h = assigned_named now (target_parts t) (target_named t (front (spell t) _ h))
  statement_named (For head t) h = statement_named t (back (spell_loop head) (spell_statement t) h.1)

  statements_named : (ss : Statements) → Each (spell_statements ss) → AllByRecursion AssignedNamed (ever_assigned_all ss)
  statements_named Done h = tt
  statements_named (Then s ss) h =
      append AssignedNamed (ever_assigned s) (ever_assigned_all ss) (statement_named s (front (spell_statement s) (spell_statements ss) h)) (statements_named ss (back (spell_statement s) (spell_statements ss) h))

  arm_named : (a : Arm) → Each (spell_arm a) → AllByRecursion AssignedNamed (ever_assigned_arm a)
  arm_named (CaseItem labels colon s) h = statement_named s (back (spell_labels labels colon) (spell_statement s) h)

  arms_named : (arms : Arms) → Each (spell_arms arms) → AllByRecursion AssignedNamed (ever_assigned_arms arms)
  arms_named NoArms h = tt
  arms_named (MoreArms a rest) h =
      append AssignedNamed (ever_assigned_arm a) (ever_assigned_arms rest) (arm_named a (front (spell_arm a) (spell_arms rest) h)) (arms_named rest (back (spell_arm a) (spell_arms rest) h))

once_named : (names : List (List ℕ)) → All IsNameText names → All IsNameText (each_once names)
unfolding each_once
once_named [] h = All-nil IsNameText
once_named (name ∷ names) h =
    All-cons IsNameText name (filter (λ other. not (bytes_eq other name)) (each_once names)) (All-head IsNameText name names h)
    (All-filter (λ other. not (bytes_eq other name)) IsNameText (each_once names) (once_named names (All-tail IsNameText name names h)))

-- the names that a body is to clear first
pub cleared_named : (marks : Marks) (token : ℕ) (body : Statement) → Each (spell_statement body) → AllByRecursion IsNameText (cleared_by marks token body)
cleared_named marks token body h =
    let named : All AssignedNamed (ever_assigned body) = All-from_recursion AssignedNamed (ever_assigned body) (statement_named body h) in
    let targets : All IsNameText (ever_names body) = All-map IsNameText (λ (a : Assigned). part_name a.part) (ever_assigned body) named in
    recursion_from_All IsNameText (cleared_by marks token body) (All-filter (marks token) IsNameText (each_once (ever_names body)) (once_named (ever_names body) targets))
