-- The rules of statements in what unfolding makes.
use Rattle.std.proofs.Common.{◌≡◌, ◌∙◌, sym, ap, subst, ℕ, zero, suc, ◌<◌, ◌≤◌, Bool, true, false, ◌&&◌, IsTrue, List, [], ◌∷◌, Option, None, Some, Result, Ok, Err, refl, arith}
use Rattle.rr_syntax.specs.Tree.{Tree, Trees, Name, Literal, Bit, Part, Indexed, Unary, Binary, Cond, Concat, Repeat, Cast, Paren, End, More, LoopHead, Statement, Statements, Arm, Arms, Null, Block, If, IfElse, Case, Assign, For, Done, Then, CaseItem, NoArms, MoreArms}
use Rattle.rr_syntax.specs.Expressions.{WellFormed, WellFormedMore}
use Rattle.rr_syntax.specs.Statements.{is_open, is_cell, is_initial, are_initial, HasColon, defaults, HasArms, WellFormedStatement, WellFormedStatements, WellFormedArm, WellFormedArms, FitLiteralsStatement, FitLiteralsStatements, FitLiteralsArm, FitLiteralsArms}
use Rattle.rr_expr.specs.Scopes.{Names}
use Rattle.rr_flat.specs.Loops.{is_loop_free, all_loop_free, arm_loop_free, arms_loop_free}
use Rattle.rr_loop_names.specs.Turns.{Turn, IsTurn, put_tree, put_parts, put_target}
use Rattle.rr_loop_names.proofs.Keeping.{put_keeps}
use Rattle.rr_loop_names.proofs.KeepingTargets.{put_keeps_targets}
use Rattle.rr_unfold.specs.Laws.{LoopsGone, FormKept, LiteralsKept, ClosedKept, InitialKept}
use Rattle.rr_unfold.specs.Unfold.{inside, following, first_value, ok_or, values_of, values_then, values_from, each_turn, unfold_statement, unfold_statements, unfold_arm, unfold_arms}
use Rattle.rr_unfold.proofs.Worth.{small_first, small_follower}

-- no loop stands in it

each_free : (f : ℕ → Statement) (vs : List ℕ) → ((v : ℕ) → is_loop_free (f v) ≡ true) → all_loop_free (each_turn f vs) ≡ true
unfolding is_loop_free each_turn
each_free f [] h = refl
each_free f (v ∷ vs) h = rw (h v, each_free f vs h) refl

mutual
  unfolding is_loop_free unfold_statement

  free : (s : Names) (turn : Turn) (t : Statement) → is_loop_free (unfold_statement s turn t) ≡ true
  free s turn Null = refl
  free s turn (Block label ts) = all_free s turn ts
  free s turn (If test t) = free s turn t
  free s turn (IfElse test t u) = rw (free s turn t, free s turn u) refl
  free s turn (Case kind on arms) = arms_free s turn arms
  free s turn (Assign t now e) = refl
  free s turn (For h t) = each_free (λ v. unfold_statement s (inside h turn v) t) (values_of s turn h) (λ v. free s (inside h turn v) t)

  all_free : (s : Names) (turn : Turn) (ts : Statements) → all_loop_free (unfold_statements s turn ts) ≡ true
  all_free s turn Done = refl
  all_free s turn (Then t ts) = rw (free s turn t, all_free s turn ts) refl

  arm_free : (s : Names) (turn : Turn) (a : Arm) → arm_loop_free (unfold_arm s turn a) ≡ true
  arm_free s turn (CaseItem labels colon t) = free s turn t

  arms_free : (s : Names) (turn : Turn) (arms : Arms) → arms_loop_free (unfold_arms s turn arms) ≡ true
  arms_free s turn NoArms = refl
  arms_free s turn (MoreArms a rest) = rw (arm_free s turn a, arms_free s turn rest) refl

pub loops_gone : LoopsGone
loops_gone s t = free s [] t

-- no `else` belongs to it

closed : (s : Names) (turn : Turn) (t : Statement) → is_open t ≡ false → is_open (unfold_statement s turn t) ≡ false
unfolding is_open unfold_statement
closed s turn Null e = refl
closed s turn (Block label ts) e = refl
closed s turn (If test t) e = e
closed s turn (IfElse test t u) e = closed s turn u e
closed s turn (Case kind on arms) e = refl
closed s turn (Assign t now v) e = refl
closed s turn (For h t) e = refl

pub closed_kept : ClosedKept
closed_kept s t e = closed s [] t e

-- an `initial` item may hold it

both : (a b : Bool) → (a && b) ≡ true → (a ≡ true) × (b ≡ true)
both true b e = (refl, e)
both false b e = absurd (cc)

cell : (turn : Turn) (t : Tree) → is_cell (put_target turn t) ≡ is_cell t
unfolding put_target
cell turn (Name token x) = refl
cell turn (Literal token n) = refl
cell turn (Bit token x i) = refl
cell turn (Part token x l r) = refl
cell turn (Indexed token x f n up) = refl
cell turn (Unary op t) = refl
cell turn (Binary op l r) = refl
cell turn (Cond a b c) = refl
cell turn (Concat ts) = refl
cell turn (Repeat n ts) = refl
cell turn (Cast signed t) = refl
cell turn (Paren t) = refl

each_initial : (f : ℕ → Statement) (vs : List ℕ) → ((v : ℕ) → is_initial (f v) ≡ true) → are_initial (each_turn f vs) ≡ true
unfolding is_initial each_turn
each_initial f [] h = refl
each_initial f (v ∷ vs) h = rw (h v, each_initial f vs h) refl

mutual
  unfolding is_initial unfold_statement

  initial : (s : Names) (turn : Turn) (t : Statement) → is_initial t ≡ true → is_initial (unfold_statement s turn t) ≡ true
  initial s turn Null e = refl
  initial s turn (Block label ts) e = all_initial s turn ts e
  initial s turn (If test t) e = e
  initial s turn (IfElse test t u) e = e
  initial s turn (Case kind on arms) e = e
  initial s turn (Assign t now v) e = ap (λ b. now && b) (cell turn t) ∙ e
  initial s turn (For h t) e = each_initial (λ v. unfold_statement s (inside h turn v) t) (values_of s turn h) (λ v. initial s (inside h turn v) t e)

  all_initial : (s : Names) (turn : Turn) (ts : Statements) → are_initial ts ≡ true → are_initial (unfold_statements s turn ts) ≡ true
  all_initial s turn Done e = refl
  all_initial s turn (Then t ts) e = let p = both (is_initial t) (are_initial ts) e in rw (initial s turn t p.0, all_initial s turn ts p.1) refl

pub initial_kept : InitialKept
initial_kept s t e = initial s [] t e

-- it is well-formed

more_formed : (turn : Turn) (ts : Trees) → WellFormedMore ts → WellFormedMore (put_parts turn ts)
unfolding put_tree WellFormed
more_formed turn End w = tt
more_formed turn (More t ts) w = put_keeps.part_rules turn (More t ts) w

colon_kept : (turn : Turn) (labels : Trees) (colon : Bool) → HasColon labels colon → HasColon (put_parts turn labels) colon
unfolding put_tree
colon_kept turn End colon h = tt
colon_kept turn (More t ts) colon h = h

defaults_kept : (s : Names) (turn : Turn) (arms : Arms) → defaults (unfold_arms s turn arms) ≡ defaults arms
unfolding defaults unfold_statement put_tree
defaults_kept s turn NoArms = refl
defaults_kept s turn (MoreArms (CaseItem End colon t) rest) = ap suc (defaults_kept s turn rest)
defaults_kept s turn (MoreArms (CaseItem (More l ls) colon t) rest) = defaults_kept s turn rest

arms_kept : (s : Names) (turn : Turn) (arms : Arms) → HasArms arms → HasArms (unfold_arms s turn arms)
unfolding unfold_statement
arms_kept s turn NoArms h = h
arms_kept s turn (MoreArms a rest) h = subst (λ n. n ≤ 1) (sym (defaults_kept s turn (MoreArms a rest))) h

each_formed : (f : ℕ → Statement) (vs : List ℕ) → ((v : ℕ) → WellFormedStatement (f v)) → WellFormedStatements (each_turn f vs)
unfolding WellFormedStatement each_turn
each_formed f [] h = tt
each_formed f (v ∷ vs) h = (h v, each_formed f vs h)

mutual
  unfolding WellFormedStatement unfold_statement

  formed : (s : Names) (turn : Turn) (t : Statement) → WellFormedStatement t → WellFormedStatement (unfold_statement s turn t)
  formed s turn Null w = tt
  formed s turn (Block label ts) w = all_formed s turn ts w
  formed s turn (If test t) w = (put_keeps.rules turn test w.0, formed s turn t w.1)
  formed s turn (IfElse test t u) w = (put_keeps.rules turn test w.0, formed s turn t w.1, closed s turn t w.2, formed s turn u w.3)
  formed s turn (Case kind on arms) w = (w.0, put_keeps.rules turn on w.1, arms_kept s turn arms w.2, arms_formed s turn arms w.3)
  formed s turn (Assign t now e) w = (subst (λ b. IsTrue b) (sym (put_keeps_targets.targets turn t)) w.0, put_keeps_targets.rules turn t w.1, put_keeps.rules turn e w.2)
  formed s turn (For h t) w = each_formed (λ v. unfold_statement s (inside h turn v) t) (values_of s turn h) (λ v. formed s (inside h turn v) t w.1)

  all_formed : (s : Names) (turn : Turn) (ts : Statements) → WellFormedStatements ts → WellFormedStatements (unfold_statements s turn ts)
  all_formed s turn Done w = tt
  all_formed s turn (Then t ts) w = (formed s turn t w.0, all_formed s turn ts w.1)

  arm_formed : (s : Names) (turn : Turn) (a : Arm) → WellFormedArm a → WellFormedArm (unfold_arm s turn a)
  arm_formed s turn (CaseItem labels colon t) w = (more_formed turn labels w.0, colon_kept turn labels colon w.1, formed s turn t w.2)

  arms_formed : (s : Names) (turn : Turn) (arms : Arms) → WellFormedArms arms → WellFormedArms (unfold_arms s turn arms)
  arms_formed s turn NoArms w = tt
  arms_formed s turn (MoreArms a rest) w = (arm_formed s turn a w.0, arms_formed s turn rest w.1)

pub form_kept : FormKept
form_kept s t w = formed s [] t w

-- its literals are fit: the values of a loop's name have 32 bits

then_fit : (f : ℕ → Statement) (v : ℕ) (more : ℕ → List ℕ) (o : Option ℕ) → FitLiteralsStatement (f v) → ((next : ℕ) → next < 4294967296 → FitLiteralsStatements (each_turn f (more next))) → ((next : ℕ) → o ≡ Some next → next < 4294967296)
    → FitLiteralsStatements (each_turn f (values_then v more o))
unfolding FitLiteralsStatement each_turn
then_fit f v more None here others small = tt
then_fit f v more (Some next) here others small = (here, others next (small next refl))

each_fit : (f : ℕ → Statement) (left : ℕ) (s : Names) (turn : Turn) (h : LoopHead) (v : ℕ) → v < 4294967296 → ((w : ℕ) → w < 4294967296 → FitLiteralsStatement (f w)) → FitLiteralsStatements (each_turn f (values_from left s turn h v))
unfolding FitLiteralsStatement each_turn values_from
each_fit f zero s turn h v l k = tt
each_fit f (suc left) s turn h v l k =
    then_fit f v (values_from left s turn h) (ok_or (following s (inside h turn v) h) None) (k v l) (λ next small. each_fit f left s turn h next small k) (small_follower s (inside h turn v) h)

loop_fit : (s : Names) (turn : Turn) (h : LoopHead) (f : ℕ → Statement) → ((v : ℕ) → v < 4294967296 → FitLiteralsStatement (f v)) → FitLiteralsStatements (each_turn f (values_of s turn h))
unfolding values_of
loop_fit s turn h f k = each_fit f 65537 s turn h (ok_or (first_value s turn h) 0) (small_first s turn h) k

entered_fit : (turn : Turn) (h : LoopHead) (v : ℕ) → IsTurn turn → v < 4294967296 → IsTurn (inside h turn v)
unfolding IsTurn
entered_fit turn h v i l = (l, i)

mutual
  unfolding FitLiteralsStatement unfold_statement

  fit : (s : Names) (turn : Turn) (t : Statement) → IsTurn turn → FitLiteralsStatement t → FitLiteralsStatement (unfold_statement s turn t)
  fit s turn Null i w = tt
  fit s turn (Block label ts) i w = all_fit s turn ts i w
  fit s turn (If test t) i w = (put_keeps.literals turn test i w.0, fit s turn t i w.1)
  fit s turn (IfElse test t u) i w = (put_keeps.literals turn test i w.0, fit s turn t i w.1, fit s turn u i w.2)
  fit s turn (Case kind on arms) i w = (put_keeps.literals turn on i w.0, arms_fit s turn arms i w.1)
  fit s turn (Assign t now e) i w = (put_keeps_targets.literals turn t i w.0, put_keeps.literals turn e i w.1)
  fit s turn (For h t) i w = loop_fit s turn h (λ v. unfold_statement s (inside h turn v) t) (λ v l. fit s (inside h turn v) t (entered_fit turn h v i l) w.1)

  all_fit : (s : Names) (turn : Turn) (ts : Statements) → IsTurn turn → FitLiteralsStatements ts → FitLiteralsStatements (unfold_statements s turn ts)
  all_fit s turn Done i w = tt
  all_fit s turn (Then t ts) i w = (fit s turn t i w.0, all_fit s turn ts i w.1)

  arm_fit : (s : Names) (turn : Turn) (a : Arm) → IsTurn turn → FitLiteralsArm a → FitLiteralsArm (unfold_arm s turn a)
  arm_fit s turn (CaseItem labels colon t) i w = (put_keeps.part_literals turn labels i w.0, fit s turn t i w.1)

  arms_fit : (s : Names) (turn : Turn) (arms : Arms) → IsTurn turn → FitLiteralsArms arms → FitLiteralsArms (unfold_arms s turn arms)
  arms_fit s turn NoArms i w = tt
  arms_fit s turn (MoreArms a rest) i w = (arm_fit s turn a i w.0, arms_fit s turn rest i w.1)

alone : IsTurn []
unfolding IsTurn
alone = tt

pub literals_kept : LiteralsKept
literals_kept s t w = fit s [] t alone w

pub ruleset rules_kept = (loops_gone, form_kept, literals_kept, closed_kept, initial_kept)
