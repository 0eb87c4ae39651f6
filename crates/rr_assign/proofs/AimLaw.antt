-- The targets are right exactly where none is at fault.
use Rattle.std.proofs.Common.{◌≡◌, ◌∙◌, sym, ap, subst, ℕ, zero, suc, ◌+◌, ◌-◌, ◌<◌, Bool, true, false, not, cond, ◌&&◌, [], ◌∷◌, ◌++◌, Option, Some, refl, arith}
use Rattle.std.specs.Prelude.{flat_map, nat_eq}
use Rattle.std.specs.List.{list_all, range_with_len}
use Rattle.std.proofs.lemmas.Bool.{eqb-true, eq-eqb, and_parts, and_from}
use Rattle.rr_syntax.specs.Expressions.{is_target}
use Rattle.rr_expr.specs.declared.types.Entity.{Entity}
use Rattle.rr_expr.specs.declared.types.Entity.TheVariants.{Constant, Signal as SignalEntity, Memory, Instance}
use Rattle.rr_expr.specs.Scopes.{meant}
use Rattle.rr_flat.specs.declared.signal.Port.{Port}
use Rattle.rr_flat.specs.declared.signal.Port.TheVariants.{Inner, Input, Output}
use Rattle.rr_flat.specs.Signals.{Signal, signal_at}
use Rattle.rr_flat.specs.Lawful.{MayDrive, MayAssign, MayStart, DeclaredTarget, DriverTarget, MayAssignAll, InitialTargets, RightTargets}
use Rattle.rr_flat.specs.Plain.{Side, Written, Whole, Block, Initial, Flat}
use Rattle.rr_syntax.specs.Tree.{Statement}
use Rattle.rr_flat.specs.Reads.{assigned_by}
use Rattle.rr_flat.specs.Sound.{IsWord, IsNamed}
use Rattle.rr_flat.specs.Targets.{is_memory, target_parts, part_name, is_indexed, is_fixed}
use Rattle.rr_flat.specs.Writers.{scope_at, driver_at, block_at, initial_at, entity_of_signal, no_block, no_initial}
use Rattle.rr_assign.specs.Aims.{may_drive, is_free, may_assign, is_started, may_set, unless, bad_driven, bad_assigned, bad_declared, bad_side, bad_of_driver, bad_of_statement, bad_of_block, bad_of_initial, bad_of_part, bad_targets}
use Rattle.rr_text_names.specs.Names.{signal_of, signal_named, part_token, is_input}
use Rattle.rr_text_names.proofs.Covering.{HasWalk, none_at, at_none, all_of_empty, empty_of_all}
use Rattle.rr_text_names.proofs.Walks.{left_empty, right_empty}

unless_yes : (ok : Bool) (token : ℕ) → unless ok token ≡ [] → ok ≡ true
unless_yes true token h = refl
unless_yes false token h = cc

yes_unless : (ok : Bool) (token : ℕ) → ok ≡ true → unless ok token ≡ []
yes_unless ok token h = rw h refl

not_true : (b : Bool) → not b ≡ true → b ≡ false
not_true true h = cc
not_true false h = refl

no_input : (p : Port) → (p ≡ Input → ⊥) → not (is_input p) ≡ true
no_input Inner h = refl
no_input Input h = absurd (h refl)
no_input Output h = refl

input_no : (p : Port) → not (is_input p) ≡ true → p ≡ Input → ⊥
input_no p h e = let bad : false ≡ true = sym (ap (λ z. not (is_input z)) e) ∙ h in cc

drives : (flat : Flat) (e : Entity) (fixed : Bool) → may_drive flat (signal_of e) fixed ≡ true → MayDrive flat e fixed
drives flat (Constant bits signed) fixed h = cc
drives flat (SignalEntity id range signed) fixed h =
    let s : Signal = signal_at flat.signals id in
    let p = and_parts (not s.variable) (not (is_input s.port) && fixed) h in
    let q = and_parts (not (is_input s.port)) fixed p.1 in
    (not_true s.variable p.0, input_no s.port q.0, q.1)
drives flat (Memory first low words range signed) fixed h = cc
drives flat Instance fixed h = cc

driven : (flat : Flat) (e : Entity) (fixed : Bool) → MayDrive flat e fixed → may_drive flat (signal_of e) fixed ≡ true
driven flat (Constant bits signed) fixed h = absurd h
driven flat (SignalEntity id range signed) fixed h = rw (h.0, no_input (signal_at flat.signals id).port h.1, h.2) refl
driven flat (Memory first low words range signed) fixed h = absurd h
driven flat Instance fixed h = absurd h

abbrev IsFree : Flat → ℕ → Type 0
IsFree flat id = ((signal_at flat.signals id).variable ≡ true) × ((signal_at flat.signals id).port ≡ Input → ⊥)

free_is : (flat : Flat) (id : ℕ) → is_free flat id ≡ true → IsFree flat id
free_is flat id h =
    let s : Signal = signal_at flat.signals id in
    let p = and_parts s.variable (not (is_input s.port)) h in
    (p.0, input_no s.port p.1)

is_free_of : (flat : Flat) (id : ℕ) → IsFree flat id → is_free flat id ≡ true
is_free_of flat id h = rw (h.0, no_input (signal_at flat.signals id).port h.1) refl

-- the words of a memory

all_free : (flat : Flat) (first words k : ℕ) → list_all (is_free flat) (range_with_len first words) ≡ true → k < words → IsFree flat (first + k)
all_free flat first zero k h lt = absurd (omega (arith, lt))
all_free flat first (suc words) zero h lt =
    let p = and_parts (is_free flat first) (list_all (is_free flat) (range_with_len (first + 1) words)) h in
    let at : first ≡ first + 0 = omega arith in
    subst (λ id. IsFree flat id) at (free_is flat first p.0)
all_free flat first (suc words) (suc k) h lt =
    let p = and_parts (is_free flat first) (list_all (is_free flat) (range_with_len (first + 1) words)) h in
    let at : first + 1 + k ≡ first + suc k = omega arith in
    subst (λ id. IsFree flat id) at (all_free flat (first + 1) words k p.1 (omega (arith, lt)))

free_all : (flat : Flat) (first words : ℕ) → ((k : ℕ) → k < words → IsFree flat (first + k)) → list_all (is_free flat) (range_with_len first words) ≡ true
free_all flat first zero h = refl
free_all flat first (suc words) h =
    let at : first + 0 ≡ first = omega arith in
    and_from (is_free flat first) (list_all (is_free flat) (range_with_len (first + 1) words)) (is_free_of flat first (subst (λ id. IsFree flat id) at (h 0 (omega arith))))
    (free_all flat (first + 1) words (λ k lt.
    let next : first + suc k ≡ first + 1 + k = omega arith in
    subst (λ id. IsFree flat id) next (h (suc k) (omega (arith, lt)))))

-- in a flat design all of them are
pub words_free : (flat : Flat) (first low words : ℕ) (range : Option (ℕ × ℕ)) (signed : Bool) → IsNamed 0 flat.signals (Memory first low words range signed) → list_all (is_free flat) (range_with_len first words) ≡ true
words_free flat first low words range signed h = free_all flat first words (λ k lt. at k (h.3 k lt))
  where
    inner : (p : Port) → p ≡ Inner → p ≡ Input → ⊥
    inner p e i = let bad : Inner ≡ Input = sym e ∙ i in cc

    at : (k : ℕ) → IsWord low range signed k (signal_at flat.signals (first + k - 0)) → IsFree flat (first + k)
    at k w =
        let same : first + k - 0 ≡ first + k = omega arith in
        subst (λ id. IsFree flat id) same (w.variable, inner (signal_at flat.signals (first + k - 0)).port w.port)

assigns : (flat : Flat) (e : Entity) → may_assign flat e ≡ true → MayAssign flat e
assigns flat (Constant bits signed) h = cc
assigns flat (SignalEntity id range signed) h = free_is flat id h
assigns flat (Memory first low words range signed) h = λ k lt. all_free flat first words k h lt
assigns flat Instance h = cc

assigned : (flat : Flat) (e : Entity) → MayAssign flat e → may_assign flat e ≡ true
assigned flat (Constant bits signed) h = absurd h
assigned flat (SignalEntity id range signed) h = is_free_of flat id h
assigned flat (Memory first low words range signed) h = free_all flat first words h
assigned flat Instance h = absurd h

-- an `initial` item

started_is : (m indexed : Bool) → cond m indexed (not indexed) ≡ true → indexed ≡ m
started_is true indexed h = h
started_is false indexed h = not_true indexed h

is_started_of : (m indexed : Bool) → indexed ≡ m → cond m indexed (not indexed) ≡ true
is_started_of true indexed h = h
is_started_of false indexed h = rw h refl

starts : (flat : Flat) (e : Entity) (indexed : Bool) → may_set true flat e indexed ≡ true → MayStart flat e indexed
starts flat e indexed h =
    let p = and_parts (may_assign flat e) (is_started e indexed) h in
    (assigns flat e p.0, started_is (is_memory e) indexed p.1)

started : (flat : Flat) (e : Entity) (indexed : Bool) → MayStart flat e indexed → may_set true flat e indexed ≡ true
started flat e indexed h = and_from (may_assign flat e) (is_started e indexed) (assigned flat e h.0) (is_started_of (is_memory e) indexed h.1)

-- of a driver

declared_right : (flat : Flat) (id : ℕ) (value : Side) (token : ℕ) → bad_declared flat id value token ≡ [] → DeclaredTarget flat id value
declared_right flat id (Whole x) token h = tt
declared_right flat id (Written t i) token h = λ same. drives flat (entity_of_signal flat id) true (unless_yes (may_drive flat (Some id) true) token (rw (eq-eqb (signal_at flat.signals id).instance i same) at h))

right_declared : (flat : Flat) (id : ℕ) (value : Side) (token : ℕ) → DeclaredTarget flat id value → bad_declared flat id value token ≡ []
right_declared flat id (Whole x) token d = refl
right_declared flat id (Written t i) token d = go (nat_eq (signal_at flat.signals id).instance i) refl
  where
    go : (b : Bool) → nat_eq (signal_at flat.signals id).instance i ≡ b → cond b (unless (may_drive flat (Some id) true) token) [] ≡ []
    go false e = refl
    go true e = yes_unless (may_drive flat (Some id) true) token (driven flat (entity_of_signal flat id) true (d (eqb-true (signal_at flat.signals id).instance i e)))

side_right : (flat : Flat) (target value : Side) (token : ℕ) → bad_side flat target value token ≡ [] → DriverTarget flat target value
side_right flat (Whole id) value token h = declared_right flat id value token h
side_right flat (Written t i) value token h = go (is_target t) refl h
  where
    go : (b : Bool) → is_target t ≡ b → cond b (flat_map (bad_driven flat i) (target_parts t)) (token ∷ []) ≡ [] → DriverTarget flat (Written t i) value
    go true e k = (
      e,
      all_of_empty (λ p. MayDrive flat (meant (scope_at flat i) (part_name p)) (is_fixed (scope_at flat i) p)) (bad_driven flat i)
          (λ p q. drives flat (meant (scope_at flat i) (part_name p)) (is_fixed (scope_at flat i) p) (unless_yes (may_drive flat (signal_named flat i (part_name p)) (is_fixed (scope_at flat i) p)) (part_token p) q))
          (target_parts t) k,
    )
    go false e k = cc

right_side : (flat : Flat) (target value : Side) (token : ℕ) → DriverTarget flat target value → bad_side flat target value token ≡ []
right_side flat (Whole id) value token d = right_declared flat id value token d
right_side flat (Written t i) value token d =
    rw d.0
    (empty_of_all (λ p. MayDrive flat (meant (scope_at flat i) (part_name p)) (is_fixed (scope_at flat i) p)) (bad_driven flat i)
    (λ p q. yes_unless (may_drive flat (signal_named flat i (part_name p)) (is_fixed (scope_at flat i) p)) (part_token p) (driven flat (meant (scope_at flat i) (part_name p)) (is_fixed (scope_at flat i) p) q))
    (target_parts t) d.1)

-- of a block

statement_right : (flat : Flat) (i : ℕ) (s : Statement) → bad_of_statement false flat i s ≡ [] → MayAssignAll flat i s
statement_right flat i s h =
    all_of_empty (λ a. MayAssign flat (meant (scope_at flat i) (part_name a.part))) (bad_assigned false flat i)
    (λ a q. assigns flat (meant (scope_at flat i) (part_name a.part)) (unless_yes (may_assign flat (meant (scope_at flat i) (part_name a.part))) (part_token a.part) q))
    (assigned_by s) h

right_statement : (flat : Flat) (i : ℕ) (s : Statement) → MayAssignAll flat i s → bad_of_statement false flat i s ≡ []
right_statement flat i s h =
    empty_of_all (λ a. MayAssign flat (meant (scope_at flat i) (part_name a.part))) (bad_assigned false flat i)
    (λ a q. yes_unless (may_assign flat (meant (scope_at flat i) (part_name a.part))) (part_token a.part) (assigned flat (meant (scope_at flat i) (part_name a.part)) q))
    (assigned_by s) h

-- of an `initial` item

initial_right : (flat : Flat) (x : Initial) → bad_of_initial flat x ≡ [] → InitialTargets flat x
initial_right flat x h =
    all_of_empty (λ a. MayStart flat (meant (scope_at flat x.scope) (part_name a.part)) (is_indexed a.part)) (bad_assigned true flat x.scope)
    (λ a q. starts flat (meant (scope_at flat x.scope) (part_name a.part)) (is_indexed a.part) (unless_yes (may_set true flat (meant (scope_at flat x.scope) (part_name a.part)) (is_indexed a.part)) (part_token a.part) q))
    (assigned_by x.body) h

right_initial : (flat : Flat) (x : Initial) → InitialTargets flat x → bad_of_initial flat x ≡ []
right_initial flat x h =
    empty_of_all (λ a. MayStart flat (meant (scope_at flat x.scope) (part_name a.part)) (is_indexed a.part)) (bad_assigned true flat x.scope)
    (λ a q. yes_unless (may_set true flat (meant (scope_at flat x.scope) (part_name a.part)) (is_indexed a.part)) (part_token a.part) (started flat (meant (scope_at flat x.scope) (part_name a.part)) (is_indexed a.part) q))
    (assigned_by x.body) h

no_text : (flat : Flat) → bad_of_block flat no_block ≡ []
unfolding assigned_by
no_text flat = refl

no_start : (flat : Flat) → bad_of_initial flat no_initial ≡ []
unfolding assigned_by
no_start flat = refl

block_alone : (flat : Flat) (b : Block) → bad_of_block flat b ++ bad_of_initial flat no_initial ≡ [] → bad_of_block flat b ≡ []
block_alone flat b h = left_empty (bad_of_block flat b) (bad_of_initial flat no_initial) h

alone_block : (flat : Flat) (b : Block) → bad_of_block flat b ≡ [] → bad_of_block flat b ++ bad_of_initial flat no_initial ≡ []
alone_block flat b h = rw h (no_start flat)

-- of a design

pub right_targets : (flat : Flat) → HasWalk flat → bad_targets flat ≡ [] → RightTargets flat
right_targets flat w h =
    let n = none_at flat (bad_of_part flat) w h in
    record {
      drivers = λ k l. side_right flat (driver_at flat k).target (driver_at flat k).value (driver_at flat k).token (left_empty (bad_of_driver flat (driver_at flat k)) (bad_of_block flat no_block ++ bad_of_initial flat no_initial) (n.drivers k l));
      clocked = λ k l. statement_right flat (block_at flat.clocked k).scope (block_at flat.clocked k).body (block_alone flat (block_at flat.clocked k) (n.clocked k l));
      combinational = λ k l. statement_right flat (block_at flat.combinational k).scope (block_at flat.combinational k).body (block_alone flat (block_at flat.combinational k) (n.combinational k l));
      initials = λ k l. initial_right flat (initial_at flat.initials k) (right_empty (bad_of_block flat no_block) (bad_of_initial flat (initial_at flat.initials k)) (n.initials k l));
    }

pub no_bad_targets : (flat : Flat) → HasWalk flat → RightTargets flat → bad_targets flat ≡ []
no_bad_targets flat w r = at_none flat (bad_of_part flat) w (record {
  drivers = λ k l. rw (right_side flat (driver_at flat k).target (driver_at flat k).value (driver_at flat k).token (r.drivers k l)) (alone_block flat no_block (no_text flat));
  clocked = λ k l. alone_block flat (block_at flat.clocked k) (right_statement flat (block_at flat.clocked k).scope (block_at flat.clocked k).body (r.clocked k l));
  combinational = λ k l. alone_block flat (block_at flat.combinational k) (right_statement flat (block_at flat.combinational k).scope (block_at flat.combinational k).body (r.combinational k l));
  initials = λ k l. rw (no_text flat) (right_initial flat (initial_at flat.initials k) (r.initials k l));
})
