-- What an unfolded statement assigns: names that the statement assigns, in its loops or outside, and by the same kind.
use Rattle.std.proofs.Common.{ℕ, Bool, List, [], ◌∷◌}
use Rattle.std.specs.List.{AllByRecursion}
use Rattle.rr_syntax.specs.Tree.{Tree, Trees, Name, Literal, Bit, Part, Indexed, Unary, Binary, Cond, Concat, Repeat, Cast, Paren, End, More, Statement, Statements, Arm, Arms, Null, Block, If, IfElse, Case, Assign, For, Done, Then, CaseItem, NoArms, MoreArms}
use Rattle.rr_expr.specs.Scopes.{Names}
use Rattle.rr_flat.specs.Reads.{Assigned, assigned_parts, assigned_by, assigned_by_all, assigned_by_arm, assigned_by_arms}
use Rattle.rr_flat.specs.Signals.{Text}
use Rattle.rr_flat.specs.Targets.{target_parts, targets_parts, part_name}
use Rattle.rr_loop_names.specs.Turns.{Turn, put_target, put_targets}
use Rattle.rr_unfold.specs.Unfold.{inside, values_of, each_turn, unfold_statement, unfold_statements, unfold_arm, unfold_arms}
use Rattle.rr_guard.specs.Anywhere.{assigned_anywhere, assigned_anywhere_by_all, assigned_anywhere_by_arm, assigned_anywhere_by_arms}
use Rattle.rr_lawful_instance.proofs.Lists.{both, parts}

-- Q holds of the name that is assigned, and of its kind
module _ (Q : Text → Bool → Type 0) where
  abbrev IsNamed : Assigned → Type 0
  IsNamed a = Q (part_name a.part) a.now

  abbrev IsNamedPart : Bool → Tree → Type 0
  IsNamedPart now p = Q (part_name p) now

  named_parts : (now : Bool) (ps : List Tree) → AllByRecursion IsNamed (assigned_parts now ps) → AllByRecursion (IsNamedPart now) ps
  unfolding assigned_parts
  named_parts now [] h = tt
  named_parts now (p ∷ ps) h = (h.0, named_parts now ps h.1)

  parts_named : (now : Bool) (ps : List Tree) → AllByRecursion (IsNamedPart now) ps → AllByRecursion IsNamed (assigned_parts now ps)
  unfolding assigned_parts
  parts_named now [] h = tt
  parts_named now (p ∷ ps) h = (h.0, parts_named now ps h.1)

  -- a target keeps its names
  mutual
    unfolding target_parts put_target

    put_named : (now : Bool) (turn : Turn) (t : Tree) → AllByRecursion (IsNamedPart now) (target_parts t) → AllByRecursion (IsNamedPart now) (target_parts (put_target turn t))
    put_named now turn (Name token name) h = h
    put_named now turn (Literal token n) h = tt
    put_named now turn (Bit token name i) h = h
    put_named now turn (Part token name l r) h = h
    put_named now turn (Indexed token name f n up) h = h
    put_named now turn (Unary op t) h = tt
    put_named now turn (Binary op l r) h = tt
    put_named now turn (Cond a b c) h = tt
    put_named now turn (Concat ts) h = puts_named now turn ts h
    put_named now turn (Repeat n ts) h = tt
    put_named now turn (Cast signed t) h = tt
    put_named now turn (Paren t) h = tt

    puts_named : (now : Bool) (turn : Turn) (ts : Trees) → AllByRecursion (IsNamedPart now) (targets_parts ts) → AllByRecursion (IsNamedPart now) (targets_parts (put_targets turn ts))
    puts_named now turn End h = tt
    puts_named now turn (More t ts) h =
        let e = parts (IsNamedPart now) (target_parts t) (targets_parts ts) h in
        both (IsNamedPart now) (target_parts (put_target turn t)) (targets_parts (put_targets turn ts)) (put_named now turn t e.0) (puts_named now turn ts e.1)

  each_named : (f : ℕ → Statement) (vs : List ℕ) → ((v : ℕ) → AllByRecursion IsNamed (assigned_by (f v))) → AllByRecursion IsNamed (assigned_by_all (each_turn f vs))
  unfolding assigned_by each_turn
  each_named f [] h = tt
  each_named f (v ∷ vs) h = both IsNamed (assigned_by (f v)) (assigned_by_all (each_turn f vs)) (h v) (each_named f vs h)

  mutual
    unfolding assigned_by assigned_anywhere unfold_statement

    pub unfolded_named : (s : Names) (turn : Turn) (t : Statement) → AllByRecursion IsNamed (assigned_anywhere t) → AllByRecursion IsNamed (assigned_by (unfold_statement s turn t))
    unfolded_named s turn Null h = tt
    unfolded_named s turn (Block label ts) h = all_named s turn ts h
    unfolded_named s turn (If c t) h = unfolded_named s turn t h
    unfolded_named s turn (IfElse c t u) h =
        let e = parts IsNamed (assigned_anywhere t) (assigned_anywhere u) h in
        both IsNamed (assigned_by (unfold_statement s turn t)) (assigned_by (unfold_statement s turn u)) (unfolded_named s turn t e.0) (unfolded_named s turn u e.1)
    unfolded_named s turn (Case kind on arms) h = arms_named s turn arms h
    unfolded_named s turn (Assign t now v) h = parts_named now (target_parts (put_target turn t)) (put_named now turn t (named_parts now (target_parts t) h))
    unfolded_named s turn (For head t) h = each_named (λ v. unfold_statement s (inside head turn v) t) (values_of s turn head) (λ v. unfolded_named s (inside head turn v) t h)

    all_named : (s : Names) (turn : Turn) (ts : Statements) → AllByRecursion IsNamed (assigned_anywhere_by_all ts) → AllByRecursion IsNamed (assigned_by_all (unfold_statements s turn ts))
    all_named s turn Done h = tt
    all_named s turn (Then t ts) h =
        let e = parts IsNamed (assigned_anywhere t) (assigned_anywhere_by_all ts) h in
        both IsNamed (assigned_by (unfold_statement s turn t)) (assigned_by_all (unfold_statements s turn ts)) (unfolded_named s turn t e.0) (all_named s turn ts e.1)

    arm_named : (s : Names) (turn : Turn) (a : Arm) → AllByRecursion IsNamed (assigned_anywhere_by_arm a) → AllByRecursion IsNamed (assigned_by_arm (unfold_arm s turn a))
    arm_named s turn (CaseItem labels colon t) h = unfolded_named s turn t h

    arms_named : (s : Names) (turn : Turn) (arms : Arms) → AllByRecursion IsNamed (assigned_anywhere_by_arms arms) → AllByRecursion IsNamed (assigned_by_arms (unfold_arms s turn arms))
    arms_named s turn NoArms h = tt
    arms_named s turn (MoreArms a rest) h =
        let e = parts IsNamed (assigned_anywhere_by_arm a) (assigned_anywhere_by_arms rest) h in
        both IsNamed (assigned_by_arm (unfold_arm s turn a)) (assigned_by_arms (unfold_arms s turn rest)) (arm_named s turn a e.0) (arms_named s turn rest e.1)
