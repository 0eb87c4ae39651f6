-- What stands as a target in a statement is written by it.
use Rattle.std.proofs.Common.{◌≡◌, Bool, true, false, ◌||◌, cond, List, [], ◌∷◌, refl, sym}
use Rattle.std.specs.List.{AllByRecursion}
use Rattle.std.proofs.lemmas.Bool.{both_ways}
use Rattle.rr_syntax.specs.Tree.{Tree, Statement, Statements, Arm, Arms, Null, Block as Sequence, If, IfElse, Case, Assign, For, Done, Then, CaseItem, NoArms, MoreArms}
use Rattle.rr_expr.specs.declared.types.Bit.{Bit}
use Rattle.rr_expr.specs.Scopes.{Names, meant}
use Rattle.rr_expr.specs.Values.{nowhere}
use Rattle.rr_flat.specs.Reads.{assigned_parts, assigned_by, assigned_by_all, assigned_by_arm, assigned_by_arms, writes, write_any, arm_writes, arms_write}
use Rattle.rr_flat.specs.Targets.{target_bits, target_parts, part_name, is_fixed, has_bit, is_bit_of, may_write}
use Rattle.rr_flat.proofs.Bits.{or_left, or_right}
use Rattle.rr_lawful_instance.proofs.Lists.{both}

wider : (x y : Bool) → (x || false) ≡ true → (x || y) ≡ true
wider true y h = refl
wider false y h = absurd (both_ways false refl h)

parts_write : (now : Bool) (s : Names) (b : Bit) (W : Type 0) (k : Bool) (ts : List Tree) → (k ≡ now → may_write s ts b ≡ true → W) →
    AllByRecursion (λ a. a.now ≡ now → may_write s (a.part ∷ []) b ≡ true → W) (assigned_parts k ts)
unfolding assigned_parts may_write
parts_write now s b W k [] h = tt
parts_write now s b W k (t ∷ ts) h =
    let here = cond (is_fixed s t) (has_bit (target_bits s nowhere t) b) (is_bit_of (meant s (part_name t)) b) in
    (λ e w. h e (wider here (may_write s ts b) w), parts_write now s b W k ts (λ e w. h e (or_right here (may_write s ts b) w)))

mutual
  unfolding assigned_by writes

  pub targets_write : (now : Bool) (s : Names) (b : Bit) (W : Type 0) (t : Statement) → (writes now s t b ≡ true → W) → AllByRecursion (λ a. a.now ≡ now → may_write s (a.part ∷ []) b ≡ true → W) (assigned_by t)
  targets_write now s b W Null h = tt
  targets_write now s b W (Sequence label ts) h = targets_write_all now s b W ts h
  targets_write now s b W (If c t) h = targets_write now s b W t h
  targets_write now s b W (IfElse c t u) h =
      both (λ a. a.now ≡ now → may_write s (a.part ∷ []) b ≡ true → W) (assigned_by t) (assigned_by u)
      (targets_write now s b W t (λ w. h (or_left (writes now s t b) (writes now s u b) w))) (targets_write now s b W u (λ w. h (or_right (writes now s t b) (writes now s u b) w)))
  targets_write now s b W (Case kind on arms) h = targets_write_arms now s b W arms h
  targets_write true s b W (Assign t true e) h = parts_write true s b W true (target_parts t) (λ q w. h w)
  targets_write true s b W (Assign t false e) h = parts_write true s b W false (target_parts t) (λ q w. absurd (both_ways true (sym q) refl))
  targets_write false s b W (Assign t true e) h = parts_write false s b W true (target_parts t) (λ q w. absurd (both_ways true q refl))
  targets_write false s b W (Assign t false e) h = parts_write false s b W false (target_parts t) (λ q w. h w)
  targets_write now s b W (For head t) h = tt

  targets_write_all : (now : Bool) (s : Names) (b : Bit) (W : Type 0) (ts : Statements) → (write_any now s ts b ≡ true → W) → AllByRecursion (λ a. a.now ≡ now → may_write s (a.part ∷ []) b ≡ true → W) (assigned_by_all ts)
  targets_write_all now s b W Done h = tt
  targets_write_all now s b W (Then t ts) h =
      both (λ a. a.now ≡ now → may_write s (a.part ∷ []) b ≡ true → W) (assigned_by t) (assigned_by_all ts)
      (targets_write now s b W t (λ w. h (or_left (writes now s t b) (write_any now s ts b) w))) (targets_write_all now s b W ts (λ w. h (or_right (writes now s t b) (write_any now s ts b) w)))

  targets_write_arm : (now : Bool) (s : Names) (b : Bit) (W : Type 0) (a : Arm) → (arm_writes now s a b ≡ true → W) → AllByRecursion (λ a. a.now ≡ now → may_write s (a.part ∷ []) b ≡ true → W) (assigned_by_arm a)
  targets_write_arm now s b W (CaseItem labels colon t) h = targets_write now s b W t h

  targets_write_arms : (now : Bool) (s : Names) (b : Bit) (W : Type 0) (arms : Arms) → (arms_write now s arms b ≡ true → W) → AllByRecursion (λ a. a.now ≡ now → may_write s (a.part ∷ []) b ≡ true → W) (assigned_by_arms arms)
  targets_write_arms now s b W NoArms h = tt
  targets_write_arms now s b W (MoreArms a rest) h =
      both (λ a. a.now ≡ now → may_write s (a.part ∷ []) b ≡ true → W) (assigned_by_arm a) (assigned_by_arms rest)
      (targets_write_arm now s b W a (λ w. h (or_left (arm_writes now s a b) (arms_write now s rest b) w))) (targets_write_arms now s b W rest (λ w. h (or_right (arm_writes now s a b) (arms_write now s rest b) w)))
