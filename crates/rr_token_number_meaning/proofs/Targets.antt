-- The bits that targets name, without token numbers.
use Rattle.std.proofs.Common.{◌≡◌, ◌∙◌, sym, ap, ap₂, Bool, true, cond, ◌&&◌, ◌||◌, List, [], ◌∷◌, ◌++◌, map, Option, Some, None, refl, is_none}
use Rattle.std.proofs.lemmas.List.{map-append}
use Rattle.rr_syntax.specs.Tree.{Tree, Trees, Name, Literal, Bit as BitSelect, Part, Indexed, Unary, Binary, Cond, Concat, Repeat, Cast, Paren, End, More, bare, bare_parts}
use Rattle.rr_expr.specs.declared.types.Bit.{Bit}
use Rattle.rr_expr.specs.declared.types.ExprFault.{ExprFault}
use Rattle.rr_expr.specs.Faults.{fault}
use Rattle.rr_expr.specs.Scopes.{Names, meant, entity_range}
use Rattle.rr_expr.specs.Selects.{place, lowest_place, integer_with}
use Rattle.rr_expr.specs.Values.{nowhere}
use Rattle.rr_flat.specs.Targets.{is_bit_of, bits_there, index_bits, target_bits, targets_bits, has_bit, is_constant, target_parts, targets_parts, part_name, is_indexed, is_fixed, may_write, must_write}
use Rattle.rr_token_numbers.proofs.Results.{Both}
use Rattle.rr_token_numbers.proofs.Shapes.{form-bare, value_path, span-bare, count-bare, fault_both}

mutual
  unfolding target_bits bare

  pub target_bits-bare : (s : Names) (env : Bit → Bool) (t : Tree) → target_bits s env (bare t) ≡ target_bits s env t
  target_bits-bare s env (Name token x) = refl
  target_bits-bare s env (Literal token n) = refl
  target_bits-bare s env (BitSelect token x i) = λ k. index_bits (meant s x) (integer_with (form-bare s i k) (value_path s i k env))
  target_bits-bare s env (Part token x l r) = λ k. bits_there (meant s x) (place (entity_range (meant s x)) (integer_with (form-bare s r k) (value_path s r k nowhere))) (span-bare s l r k)
  target_bits-bare s env (Indexed token x f n up) =
      λ k. bits_there (meant s x) (lowest_place (entity_range (meant s x)) up (integer_with (form-bare s f k) (value_path s f k env)) (count-bare s n k)) (count-bare s n k)
  target_bits-bare s env (Unary op t) = refl
  target_bits-bare s env (Binary op l r) = refl
  target_bits-bare s env (Cond a b c) = refl
  target_bits-bare s env (Concat ts) = targets_bits-bare s env ts
  target_bits-bare s env (Repeat n ts) = refl
  target_bits-bare s env (Cast signed t) = refl
  target_bits-bare s env (Paren t) = refl

  targets_bits-bare : (s : Names) (env : Bit → Bool) (ts : Trees) → targets_bits s env (bare_parts ts) ≡ targets_bits s env ts
  targets_bits-bare s env End = refl
  targets_bits-bare s env (More t ts) = λ k. targets_bits-bare s env ts k ++ target_bits-bare s env t k

both_none : (o p : Option ExprFault) → Both o p → is_none p ≡ is_none o
both_none None None h = refl
both_none None (Some f) h = absurd h
both_none (Some f) None h = absurd h
both_none (Some f) (Some g) h = refl

pub constant-bare : (s : Names) (t : Tree) → is_constant s (bare t) ≡ is_constant s t
constant-bare s t = both_none (fault s t true) (fault s (bare t) true) (fault_both s t true)

-- the parts of a target

mutual
  unfolding target_parts bare

  pub parts-bare : (t : Tree) → target_parts (bare t) ≡ map bare (target_parts t)
  parts-bare (Name token x) = refl
  parts-bare (Literal token n) = refl
  parts-bare (BitSelect token x i) = refl
  parts-bare (Part token x l r) = refl
  parts-bare (Indexed token x f n up) = refl
  parts-bare (Unary op t) = refl
  parts-bare (Binary op l r) = refl
  parts-bare (Cond a b c) = refl
  parts-bare (Concat ts) = all_parts-bare ts
  parts-bare (Repeat n ts) = refl
  parts-bare (Cast signed t) = refl
  parts-bare (Paren t) = refl

  all_parts-bare : (ts : Trees) → targets_parts (bare_parts ts) ≡ map bare (targets_parts ts)
  all_parts-bare End = refl
  all_parts-bare (More t ts) = ap₂ (λ (a b : List Tree). a ++ b) (parts-bare t) (all_parts-bare ts) ∙ sym (map-append bare (target_parts t) (targets_parts ts))

pub part_name-bare : (t : Tree) → part_name (bare t) ≡ part_name t
unfolding bare
part_name-bare (Name token x) = refl
part_name-bare (Literal token n) = refl
part_name-bare (BitSelect token x i) = refl
part_name-bare (Part token x l r) = refl
part_name-bare (Indexed token x f n up) = refl
part_name-bare (Unary op t) = refl
part_name-bare (Binary op l r) = refl
part_name-bare (Cond a b c) = refl
part_name-bare (Concat ts) = refl
part_name-bare (Repeat n ts) = refl
part_name-bare (Cast signed t) = refl
part_name-bare (Paren t) = refl

pub is_indexed-bare : (t : Tree) → is_indexed (bare t) ≡ is_indexed t
unfolding bare
is_indexed-bare (Name token x) = refl
is_indexed-bare (Literal token n) = refl
is_indexed-bare (BitSelect token x i) = refl
is_indexed-bare (Part token x l r) = refl
is_indexed-bare (Indexed token x f n up) = refl
is_indexed-bare (Unary op t) = refl
is_indexed-bare (Binary op l r) = refl
is_indexed-bare (Cond a b c) = refl
is_indexed-bare (Concat ts) = refl
is_indexed-bare (Repeat n ts) = refl
is_indexed-bare (Cast signed t) = refl
is_indexed-bare (Paren t) = refl

pub is_fixed-bare : (s : Names) (t : Tree) → is_fixed s (bare t) ≡ is_fixed s t
unfolding bare
is_fixed-bare s (Name token x) = refl
is_fixed-bare s (Literal token n) = refl
is_fixed-bare s (BitSelect token x i) = constant-bare s i
is_fixed-bare s (Part token x l r) = refl
is_fixed-bare s (Indexed token x f n up) = constant-bare s f
is_fixed-bare s (Unary op t) = refl
is_fixed-bare s (Binary op l r) = refl
is_fixed-bare s (Cond a b c) = refl
is_fixed-bare s (Concat ts) = refl
is_fixed-bare s (Repeat n ts) = refl
is_fixed-bare s (Cast signed t) = refl
is_fixed-bare s (Paren t) = refl

may_write-bare : (s : Names) (ts : List Tree) → may_write s (map bare ts) ≡ may_write s ts
unfolding may_write
may_write-bare s [] = refl
may_write-bare s (t ∷ ts) =
    λ k b. cond (is_fixed-bare s t k) (has_bit (target_bits-bare s nowhere t k) b) (is_bit_of (meant s (part_name-bare t k)) b) || may_write-bare s ts k b

must_write-bare : (s : Names) (ts : List Tree) → must_write s (map bare ts) ≡ must_write s ts
unfolding must_write
must_write-bare s [] = refl
must_write-bare s (t ∷ ts) = λ k b. (is_fixed-bare s t k && has_bit (target_bits-bare s nowhere t k) b) || must_write-bare s ts k b

pub writes_target-bare : (s : Names) (t : Tree) → may_write s (target_parts (bare t)) ≡ may_write s (target_parts t)
writes_target-bare s t = ap (may_write s) (parts-bare t) ∙ may_write-bare s (target_parts t)

pub assigns_target-bare : (s : Names) (t : Tree) → must_write s (target_parts (bare t)) ≡ must_write s (target_parts t)
assigns_target-bare s t = ap (must_write s) (parts-bare t) ∙ must_write-bare s (target_parts t)
