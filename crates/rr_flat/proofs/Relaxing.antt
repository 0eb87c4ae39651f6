-- A constant expression has a shape where signals may stand too.
use Rattle.std.proofs.Common.{◌≡◌, ℕ, ◌-◌, ◌*◌, ◌==◌, Bool, true, false, Option, None, Some, refl}
use Rattle.rr_syntax.specs.Tree.{Tree, Trees, Name, Literal, Bit as BitSelect, Part, Indexed, Unary, Binary, Cond, Concat, Repeat, Cast, Paren, End, More}
use Rattle.rr_expr.specs.declared.types.Entity.{Entity}
use Rattle.rr_expr.specs.declared.types.Entity.TheVariants.{Constant, Signal, Memory, Instance}
use Rattle.rr_expr.specs.declared.types.ExprFault.{ExprFault}
use Rattle.rr_expr.specs.declared.types.ExprFault.TheVariants.{BadRange}
use Rattle.rr_expr.specs.Scopes.{Names, meant, is_scalar}
use Rattle.rr_expr.specs.Values.{widths}
use Rattle.rr_expr.specs.Faults.{fault, faults, or_else, fault_if, width_fault, name_fault, base_fault, index_fault, count_fault, constant_count, first, first_part}

pub none_parts : (f g : Option ExprFault) → or_else f g ≡ None → (f ≡ None) × (g ≡ None)
none_parts None g h = (refl, h)
none_parts (Some f) g h = cc

pub both_none : (f g : Option ExprFault) → f ≡ None → g ≡ None → or_else f g ≡ None
both_none f g h k = rw (h, k) refl

name_relaxed : (token : ℕ) (e : Entity) → name_fault true token e ≡ None → name_fault false token e ≡ None
name_relaxed token (Constant bits signed) h = h
name_relaxed token (Signal id range signed) h = cc
name_relaxed token (Memory first low words range signed) h = cc
name_relaxed token Instance h = cc

base_relaxed : (token : ℕ) (e : Entity) → base_fault true token e ≡ None → base_fault false token e ≡ None
base_relaxed token e h =
    let p = none_parts (name_fault true token e) (fault_if (is_scalar e) (BadRange token)) h in
    both_none (name_fault false token e) (fault_if (is_scalar e) (BadRange token)) (name_relaxed token e p.0) p.1

index_relaxed : (token : ℕ) (e : Entity) → index_fault true token e ≡ None → index_fault false token e ≡ None
index_relaxed token (Constant bits signed) h = base_relaxed token (Constant bits signed) h
index_relaxed token (Signal id range signed) h = base_relaxed token (Signal id range signed) h
index_relaxed token (Memory first low words range signed) h = cc
index_relaxed token Instance h = base_relaxed token Instance h

by_bool : (s : Names) (t : Tree) → (fault s t true ≡ None → fault s t false ≡ None) → (k : Bool) → fault s t true ≡ None → fault s t k ≡ None
by_bool s t f true h = h
by_bool s t f false h = f h

mutual
  unfolding fault

  pub relax : (s : Names) (t : Tree) → fault s t true ≡ None → fault s t false ≡ None
  relax s (Name token name) h = name_relaxed token (meant s name) h
  relax s (Literal token n) h = h
  relax s (BitSelect token name i) h =
      let p = none_parts (index_fault true token (meant s name)) (fault s i true) h in
      both_none (index_fault false token (meant s name)) (fault s i false) (index_relaxed token (meant s name) p.0) (relax s i p.1)
  relax s (Part token name l r) h =
      let p = none_parts (base_fault true token (meant s name)) _ h in
      both_none (base_fault false token (meant s name)) _ (base_relaxed token (meant s name) p.0) p.1
  relax s (Indexed token name f n up) h =
      let c = count_fault (fault s n true) token (constant_count s n) in
      let p = none_parts (base_fault true token (meant s name)) (or_else c (or_else (fault s f true) (fault s n true))) h in
      let q = none_parts c (or_else (fault s f true) (fault s n true)) p.1 in
      let u = none_parts (fault s f true) (fault s n true) q.1 in
      both_none (base_fault false token (meant s name)) (or_else c (or_else (fault s f false) (fault s n true))) (base_relaxed token (meant s name) p.0)
      (both_none c (or_else (fault s f false) (fault s n true)) q.0 (both_none (fault s f false) (fault s n true) (relax s f u.0) u.1))
  relax s (Unary op t) h = relax s t h
  relax s (Binary op l r) h =
      let p = none_parts (fault s l true) _ h in
      let q = none_parts (fault s r true) _ p.1 in
      both_none _ _ (by_bool s l (relax s l) _ p.0) (both_none _ _ (by_bool s r (relax s r) _ q.0) q.1)
  relax s (Cond a b c) h =
      let p = none_parts (fault s a true) (or_else (fault s b true) (fault s c true)) h in
      let q = none_parts (fault s b true) (fault s c true) p.1 in
      both_none (fault s a false) (or_else (fault s b false) (fault s c false)) (relax s a p.0) (both_none (fault s b false) (fault s c false) (relax s b q.0) (relax s c q.1))
  relax s (Concat ts) h =
      let w = width_fault (first_part ts - 1) (widths s ts) in
      let p = none_parts (faults s ts true) w h in
      both_none (faults s ts false) w (relax_all s ts p.0) p.1
  relax s (Repeat n ts) h =
      let w = width_fault (first n - 1) (constant_count s n * widths s ts) in
      let none = fault_if (constant_count s n == 0) (BadRange (first n)) in
      let p = none_parts (fault s n true) (or_else none (or_else (faults s ts true) w)) h in
      let q = none_parts none (or_else (faults s ts true) w) p.1 in
      let u = none_parts (faults s ts true) w q.1 in
      both_none (fault s n true) (or_else none (or_else (faults s ts false) w)) p.0 (both_none none (or_else (faults s ts false) w) q.0 (both_none (faults s ts false) w (relax_all s ts u.0) u.1))
  relax s (Cast signed t) h = relax s t h
  relax s (Paren t) h = relax s t h

  pub relax_all : (s : Names) (ts : Trees) → faults s ts true ≡ None → faults s ts false ≡ None
  relax_all s End h = refl
  relax_all s (More t ts) h =
      let p = none_parts (fault s t true) (faults s ts true) h in
      both_none (fault s t false) (faults s ts false) (relax s t p.0) (relax_all s ts p.1)
