-- the bits that blocks write are there
use Rattle.std.proofs.Common.{◌≡◌, Bool, true, false, cond, ◌||◌, List, [], ◌∷◌, map, refl, inl, inr}
use Rattle.std.specs.List.{AllByRecursion}
use Rattle.std.proofs.lemmas.Bool.{both_ways, or_cases}
use Rattle.std.proofs.lemmas.List.Elements.{recursion_from_All}
use Rattle.rr_syntax.specs.Tree.{Tree, Statement, Statements, Arm, Arms, Null, Block as Sequence, If, IfElse, Case, Assign, For, Done, Then, CaseItem, NoArms, MoreArms}
use Rattle.rr_syntax.specs.View.{plain_statement}
use Rattle.rr_expr.specs.declared.types.Bit.{Bit}
use Rattle.rr_expr.specs.Scopes.{Names, meant}
use Rattle.rr_expr.specs.Values.{nowhere}
use Rattle.rr_flat.specs.declared.design.Block.{Block}
use Rattle.rr_flat.specs.Reads.{writes, write_any, arm_writes, arms_write}
use Rattle.rr_flat.specs.Sound.{IsBlock}
use Rattle.rr_flat.specs.Targets.{has_bit, is_bit_of, is_fixed, may_write, part_name, target_bits, target_parts}
use Rattle.rr_flat.specs.View.{Design, plain_block, plain_flat}
use Rattle.rr_flat.specs.Writers.{scope_at, writes_at_all}
use Rattle.rr_cycle.specs.Performing.{any_writes}
use Rattle.rr_exec.proofs.Fitting.{Named, target_named}
use Rattle.rr_meaning.proofs.Scoping.{IsSound, IsThere, named_there}

may_named : (s : Names) (ts : List Tree) (b : Bit) → may_write s ts b ≡ true → Named s b
unfolding may_write
may_named s [] b h = absurd (both_ways false refl h)
may_named s (t ∷ ts) b h = elim (or_cases (cond (is_fixed s t) (has_bit (target_bits s nowhere t) b) (is_bit_of (meant s (part_name t)) b)) (may_write s ts b) h) [
  | inl i ↦ by (is_fixed s t) i
  | inr i ↦ may_named s ts b i
]
  where
    by : (fixed : Bool) → cond fixed (has_bit (target_bits s nowhere t) b) (is_bit_of (meant s (part_name t)) b) ≡ true → Named s b
    by true i = target_named s nowhere t b i
    by false i = (part_name t, i)

mutual
  unfolding writes

  pub writes_named : (now : Bool) (s : Names) (t : Statement) (b : Bit) → writes now s t b ≡ true → Named s b
  writes_named now s Null b h = absurd (both_ways false refl h)
  writes_named now s (Sequence label ss) b h = all_named now s ss b h
  writes_named now s (If c t) b h = writes_named now s t b h
  writes_named now s (IfElse c t u) b h = elim (or_cases (writes now s t b) (writes now s u b) h) [ inl i ↦ writes_named now s t b i | inr i ↦ writes_named now s u b i ]
  writes_named now s (Case kind on arms) b h = arms_named now s arms b h
  writes_named now s (For head t) b h = absurd (both_ways false refl h)
  writes_named true s (Assign t true e) b h = may_named s (target_parts t) b h
  writes_named true s (Assign t false e) b h = absurd (both_ways false refl h)
  writes_named false s (Assign t true e) b h = absurd (both_ways false refl h)
  writes_named false s (Assign t false e) b h = may_named s (target_parts t) b h

  all_named : (now : Bool) (s : Names) (ss : Statements) (b : Bit) → write_any now s ss b ≡ true → Named s b
  all_named now s Done b h = absurd (both_ways false refl h)
  all_named now s (Then t ts) b h = elim (or_cases (writes now s t b) (write_any now s ts b) h) [ inl i ↦ writes_named now s t b i | inr i ↦ all_named now s ts b i ]

  arm_named : (now : Bool) (s : Names) (arm : Arm) (b : Bit) → arm_writes now s arm b ≡ true → Named s b
  arm_named now s (CaseItem labels colon body) b h = writes_named now s body b h

  arms_named : (now : Bool) (s : Names) (arms : Arms) (b : Bit) → arms_write now s arms b ≡ true → Named s b
  arms_named now s NoArms b h = absurd (both_ways false refl h)
  arms_named now s (MoreArms arm rest) b h = elim (or_cases (arm_writes now s arm b) (arms_write now s rest b) h) [ inl i ↦ arm_named now s arm b i | inr i ↦ arms_named now s rest b i ]

at_all_named : (s : Names) (t : Statement) (b : Bit) → (writes true s t b || writes false s t b) ≡ true → Named s b
at_all_named s t b h = elim (or_cases (writes true s t b) (writes false s t b) h) [ inl i ↦ writes_named true s t b i | inr i ↦ writes_named false s t b i ]

blocks_there : (d : Design) (blocks : List Block) (b : Bit) → IsSound d → AllByRecursion (IsBlock d.scopes) blocks → any_writes (plain_flat d) (map plain_block blocks) b ≡ true → IsThere d b
unfolding any_writes
blocks_there d [] b f a h = absurd (both_ways false refl h)
blocks_there d (x ∷ xs) b f a h = elim (or_cases (writes_at_all (plain_flat d) (plain_block x) b) (any_writes (plain_flat d) (map plain_block xs) b) h) [
  | inl i ↦ named_there d (scope_at (plain_flat d) x.scope) b f (f.scopes_in x.scope [] a.0.there) (at_all_named (scope_at (plain_flat d) x.scope) (plain_statement x.body.now) b i)
  | inr i ↦ blocks_there d xs b f a.1 i
]

-- a bit that clocked blocks write is one of a signal
pub registers_there : (d : Design) (b : Bit) → IsSound d → any_writes (plain_flat d) (plain_flat d).clocked b ≡ true → IsThere d b
registers_there d b f h = blocks_there d d.clocked b f (recursion_from_All (IsBlock d.scopes) d.clocked f.clocked_in) h
