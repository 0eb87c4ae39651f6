-- Loops in statements, turn by turn (IEEE 1364-2005 sections 3.9, 9.6 and 12.2).
use Rattle.std.specs.Prelude.{ℕ, zero, suc, ◌+◌, Bool, true, false, not, List, [], ◌∷◌, ◌++◌, length, map, min, Option, Some, None, Result, Ok, Err, nat_lt, if◌then◌else◌}
use Rattle.rr_bits.specs.Words.{number, extend, is_zero}
use Rattle.rr_syntax.specs.Tree.{Tree, Trees, Identifier, LoopHead, Statement, Statements, Arm, Arms, Null, Block, If, IfElse, Case, Assign, For, Done, Then, CaseItem, NoArms, MoreArms}
use Rattle.rr_syntax.specs.Statements.{spell_statement}
use Rattle.rr_expr.specs.Scopes.{Names}
use Rattle.rr_flat.specs.declared.fault.Limit.TheVariants.{Turns, Unfolded}
use Rattle.rr_flat.specs.declared.fault.FlatFault.{FlatFault}
use Rattle.rr_flat.specs.declared.fault.FlatFault.TheVariants.{TooMany}
use Rattle.rr_flat.specs.Faults.{among, and_then, faults_in, first_fault_or}
use Rattle.rr_flat.specs.Signals.{Text}
use Rattle.rr_loop_names.specs.Turns.{Turn, put_tree, put_parts, put_target}
use Rattle.rr_loop_rules.specs.Rules.{LoopNames, head_faults, inner_faults}
use Rattle.rr_declarations.specs.Values.{constant}

-- Values of a loop's name

-- a constant as the 32 bits of an integer: its own width, then extended by its own sign
abbrev pub loop_value : List Bool × Bool → ℕ
loop_value v = number (extend 32 v.1 v.0)

-- a value that is not zero is true (section 5.1.9)
abbrev pub loop_truth : List Bool × Bool → Bool
loop_truth v = not (is_zero v.0)

abbrev pub map_ok : {A B : Type 0} → (A → B) → Result A FlatFault → Result B FlatFault
map_ok f (Ok a) = Ok (f a)
map_ok f (Err e) = Err e

-- what stands for an answer that is a fault
abbrev pub ok_or : {A : Type 0} → Result A FlatFault → A → A
ok_or (Ok a) other = a
ok_or (Err f) other = other

-- the texts of the names of the loops around, the innermost first
abbrev pub around : Turn → List Text
around turn = map (λ e. e.0) turn

-- one loop more around
abbrev pub inside : LoopHead → Turn → ℕ → Turn
inside h turn v = (h.text, v) ∷ turn

-- a constant expression in a turn
unfoldable pub value_in : Names → Turn → Tree → Result (List Bool × Bool) FlatFault
value_in s turn t = constant s (put_tree turn t)

unfoldable pub first_value : Names → Turn → LoopHead → Result ℕ FlatFault
first_value s turn h = map_ok loop_value (value_in s turn h.start)

-- whether there is a turn, which is given with the name's own value
unfoldable pub goes_on : Names → Turn → LoopHead → Result Bool FlatFault
goes_on s inner h = map_ok loop_truth (value_in s inner h.test)

-- the value of the name behind a turn
unfoldable pub next_value : Names → Turn → LoopHead → Result ℕ FlatFault
next_value s inner h = map_ok loop_value (value_in s inner h.step)

-- the value that comes next, and none where there is no such turn
unfoldable pub following : Names → Turn → LoopHead → Result (Option ℕ) FlatFault
following s inner h = and_then (goes_on s inner h) (λ more. if more then map_ok (λ next. Some next) (next_value s inner h) else Ok None)

-- Turns

-- the turns of all loops so far, and the tokens of the bodies of these turns, which are counted where they have a limit
pub record Count : Type 0 where
  pub turns : ℕ
  pub tokens : ℕ

abbrev pub no_turns : Count
no_turns = record { turns = 0; tokens = 0 }

-- a turn more
abbrev pub with_turn : ℕ → Count → Count
with_turn tokens c = record { turns = c.turns + 1; tokens = tokens }

-- tokens and more of them, whole where they are below 2^64
abbrev pub with_tokens : ℕ → ℕ → ℕ
with_tokens tokens more = min (tokens + more) 18446744073709551615

-- with a body of n tokens, where all bodies may have at most so many
abbrev pub within : ℕ → ℕ → Count → Result Count FlatFault
within limit n c = if nat_lt limit (with_tokens c.tokens n) then Err (TooMany Unfolded (with_tokens c.tokens n)) else Ok (with_turn (with_tokens c.tokens n) c)

abbrev pub within_limit : Option ℕ → ℕ → Count → Result Count FlatFault
within_limit None n c = Ok (with_turn c.tokens c)
within_limit (Some limit) n c = within limit n c

-- one turn more: at most 65,536 turns, and tokens within the limit where there is one
abbrev pub one_more : Option ℕ → ℕ → Count → Result Count FlatFault
one_more limit n c = if nat_lt 65535 c.turns then Err (TooMany Turns 65537) else within_limit limit n c

-- the faults of the test and the step of a head in a turn, which is given with the name's own value
unfoldable pub opening_faults : LoopNames → Names → Turn → LoopHead → List FlatFault
opening_faults L s inner h = inner_faults L (around inner) h ++ (faults_in (goes_on s inner h) ++ faults_in (next_value s inner h))

-- the first value, or the first fault of a head; test and step are read once with the first value, even where there is no turn
unfoldable pub opening : LoopNames → Names → Turn → LoopHead → Result ℕ FlatFault
opening L s turn h =
    and_then (among (head_faults L (around turn) h) (first_value s turn h)) (λ v. first_fault_or (opening_faults L s (inside h turn v) h) v)

-- the tokens that spell a statement, whole where they are below 2^64
abbrev pub tokens_of : Statement → ℕ
tokens_of t = min (length (spell_statement t)) 18446744073709551615

-- the count behind a turn, where there is one, and behind those that follow
abbrev pub turn_then : Option ℕ → ℕ → (Count → Result Count FlatFault) → (ℕ → Count → Result Count FlatFault) → Count → Option ℕ → Result Count FlatFault
turn_then limit n body more c None = Ok c
turn_then limit n body more c (Some next) = and_then (and_then (one_more limit n c) body) (more next)

-- the count behind the turns from a value on, in each of which the body, of n tokens, is counted; 65,537 are never passed
unfoldable pub turns_from : ℕ → Option ℕ → Names → Turn → LoopHead → ℕ → (Turn → Count → Result Count FlatFault) → ℕ → Count → Result Count FlatFault
turns_from zero limit s turn h n body v c = Err (TooMany Turns 65537)
turns_from (suc left) limit s turn h n body v c =
    and_then (following s (inside h turn v) h) (turn_then limit n (body (inside h turn v)) (turns_from left limit s turn h n body) c)

-- the count behind a statement, or its first fault: left to right, loops turn by turn
unfoldable mutual
  pub counted : Option ℕ → LoopNames → Names → Turn → Statement → Count → Result Count FlatFault
  counted limit L s turn Null c = Ok c
  counted limit L s turn (Block label ts) c = counted_all limit L s turn ts c
  counted limit L s turn (If test t) c = counted limit L s turn t c
  counted limit L s turn (IfElse test t u) c = and_then (counted limit L s turn t c) (counted limit L s turn u)
  counted limit L s turn (Case kind on arms) c = counted_arms limit L s turn arms c
  counted limit L s turn (Assign t now e) c = Ok c
  counted limit L s turn (For h t) c =
      and_then (opening L s turn h) (λ v. turns_from 65537 limit s turn h (tokens_of t) (λ inner d. counted limit L s inner t d) v c)

  pub counted_all : Option ℕ → LoopNames → Names → Turn → Statements → Count → Result Count FlatFault
  counted_all limit L s turn Done c = Ok c
  counted_all limit L s turn (Then t ts) c = and_then (counted limit L s turn t c) (counted_all limit L s turn ts)

  pub counted_arm : Option ℕ → LoopNames → Names → Turn → Arm → Count → Result Count FlatFault
  counted_arm limit L s turn (CaseItem labels colon t) c = counted limit L s turn t c

  pub counted_arms : Option ℕ → LoopNames → Names → Turn → Arms → Count → Result Count FlatFault
  counted_arms limit L s turn NoArms c = Ok c
  counted_arms limit L s turn (MoreArms a rest) c = and_then (counted_arm limit L s turn a c) (counted_arms limit L s turn rest)

abbrev pub values_then : ℕ → (ℕ → List ℕ) → Option ℕ → List ℕ
values_then v more None = []
values_then v more (Some next) = v ∷ more next

-- the values of the name in the turns from a value on, as far as there is no fault
unfoldable pub values_from : ℕ → Names → Turn → LoopHead → ℕ → List ℕ
values_from zero s turn h v = []
values_from (suc left) s turn h v = values_then v (values_from left s turn h) (ok_or (following s (inside h turn v) h) None)

unfoldable pub values_of : Names → Turn → LoopHead → List ℕ
values_of s turn h = values_from 65537 s turn h (ok_or (first_value s turn h) 0)

-- Statements without loops

-- a statement for each value
unfoldable pub each_turn : (ℕ → Statement) → List ℕ → Statements
each_turn body [] = Done
each_turn body (v ∷ vs) = Then (body v) (each_turn body vs)

-- the label of the block of a loop's turns: its name
abbrev pub loop_label : LoopHead → Option Identifier
loop_label h = Some (record { token = h.token; text = h.text })

-- a statement in which each loop is the block of its turns; the block has the loop's name as its label, which means nothing, and
-- whose token tells where the statement begins
unfoldable mutual
  pub unfold_statement : Names → Turn → Statement → Statement
  unfold_statement s turn Null = Null
  unfold_statement s turn (Block label ts) = Block label (unfold_statements s turn ts)
  unfold_statement s turn (If test t) = If (put_tree turn test) (unfold_statement s turn t)
  unfold_statement s turn (IfElse test t u) = IfElse (put_tree turn test) (unfold_statement s turn t) (unfold_statement s turn u)
  unfold_statement s turn (Case kind on arms) = Case kind (put_tree turn on) (unfold_arms s turn arms)
  unfold_statement s turn (Assign t now e) = Assign (put_target turn t) now (put_tree turn e)
  unfold_statement s turn (For h t) = Block (loop_label h) (each_turn (λ v. unfold_statement s (inside h turn v) t) (values_of s turn h))

  pub unfold_statements : Names → Turn → Statements → Statements
  unfold_statements s turn Done = Done
  unfold_statements s turn (Then t ts) = Then (unfold_statement s turn t) (unfold_statements s turn ts)

  pub unfold_arm : Names → Turn → Arm → Arm
  unfold_arm s turn (CaseItem labels colon t) = CaseItem (put_parts turn labels) colon (unfold_statement s turn t)

  pub unfold_arms : Names → Turn → Arms → Arms
  unfold_arms s turn NoArms = NoArms
  unfold_arms s turn (MoreArms a rest) = MoreArms (unfold_arm s turn a) (unfold_arms s turn rest)
