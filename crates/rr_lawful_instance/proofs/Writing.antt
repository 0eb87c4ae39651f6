-- An instance of a lawful flat design has right targets and labels, one writer a bit, right kinds, no race and no latch.
use Rattle.std.proofs.Common.{◌≡◌, ℕ, ◌<◌, Bool, true, false, not, List, length, Option, Some, None, refl, sym, subst, ap, ◌∙◌, arith}
use Rattle.std.specs.List.{All, AllByRecursion}
use Rattle.std.proofs.lemmas.List.Elements.{All-from_recursion, recursion_from_All}
use Rattle.rr_syntax.specs.Tree.{Statement}
use Rattle.rr_expr.specs.declared.types.Bit.{Bit}
use Rattle.rr_expr.specs.declared.types.Entity.{Entity}
use Rattle.rr_expr.specs.declared.types.Entity.TheVariants.{Constant, Signal as SignalEntity, Memory, Instance}
use Rattle.rr_expr.specs.Reading.{IsBitOf}
use Rattle.rr_expr.specs.Scopes.{meant}
use Rattle.rr_flat.specs.Signals.{Text}
use Rattle.rr_flat.specs.Lawful.{MayDrive, MayAssign, DeclaredTarget, DriverTarget, BlockTargets, RightTargets, RightLabels, labels_fit, OneWriter, AssignedIn, RightKinds, NoRace, NoLatches}
use Rattle.rr_flat.specs.Latches.{NoLatch}
use Rattle.rr_flat.specs.Plain.{Side, Written, Whole, Block, Flat}
use Rattle.rr_flat.specs.Reads.{names_read, assigned_by, writes}
use Rattle.rr_flat.specs.Targets.{variable_of, part_name}
use Rattle.rr_flat.specs.Writers.{scope_at, driver_at, block_at, writes_now, writes_later, Clocked, Combinational, Writes}
use Rattle.rr_flat.proofs.Bits.{missed, or_left, or_right, bit_at, bit_eq}
use Rattle.rr_choice.specs.declared.pick.Pick.{Pick}
use Rattle.rr_choice.specs.Sites.{Site}
use Rattle.rr_lawful_instance.specs.AreSites.{MayGuard, MayGuardElsewhere, BlockFits, AreSitesOf}
use Rattle.rr_flat_instance.specs.Flats.{instance_side, instance_block}
use Rattle.rr_instance.specs.Firsts.{first_token}
use Rattle.rr_lawful_instance.proofs.Made.{made}
use Rattle.rr_lawful_instance.proofs.Bodies.{body_labels, body_names_read, body_latches}
use Rattle.rr_lawful_instance.proofs.Designs.{block_is, blocks_long, each_block, each_driver, block_assigned, clocked_assigns, somewhere, writer_before}
use Rattle.rr_lawful_instance.proofs.Lists.{by_element, holds_of}
use Rattle.rr_lawful_instance.proofs.Trees.{OfText}

-- a name of a scalar register stands for one bit, which a clocked block writes
pub register_bit : (flat : Flat) (word : Option Text) (scope : ℕ) (name : Text) → MayGuardElsewhere flat word scope name → (b : Bit) → IsBitOf (meant (scope_at flat scope) name) b → (k : ℕ) × Writes flat (Clocked k) b
unfolding Writes
register_bit flat word scope name m b o =
    let r = m.register in
    let q : (b.signal ≡ m.guard.signal) × (b.place < 1) = subst (λ e. IsBitOf e b) m.guard.scalar o in
    let same : b ≡ bit_at m.guard.signal 0 = bit_eq b (bit_at m.guard.signal 0) q.0 (omega (arith, q.1)) in
    (r.0, (r.1.0, or_right (writes_now flat (block_at flat.clocked r.0) b) (writes_later flat (block_at flat.clocked r.0) b) (subst (λ c. writes_later flat (block_at flat.clocked r.0) c ≡ true) (sym same) r.1.1)))

module _ (ss : List Site) (ps : List Pick) (flat : Flat) (word : Option Text) (sites : AreSitesOf flat word ss) where
  abbrev other : Flat
  other = made ss ps flat

  -- Targets

  may_drive : (e : Entity) (fixed : Bool) → MayDrive flat e fixed → MayDrive other e fixed
  may_drive (Constant bits signed) fixed h = h
  may_drive (SignalEntity id range signed) fixed h = h
  may_drive (Memory first low words range signed) fixed h = h
  may_drive Instance fixed h = h

  declared : (id : ℕ) (side : Side) → DeclaredTarget flat id side → DeclaredTarget other id (instance_side ss ps side)
  declared id (Whole x) h = h
  declared id (Written t i) h = h

  driver_target : (target value : Side) → DriverTarget flat target value → DriverTarget other target (instance_side ss ps value)
  driver_target (Whole id) value h = declared id value h
  driver_target (Written t i) value h = h

  block_targets : (P : Text → Type 0) (block : Block) → BlockFits P ss block → BlockTargets flat block → BlockTargets other (instance_block ss ps block)
  block_targets P block f h =
      All-from_recursion (λ a. MayAssign flat (meant (scope_at flat block.scope) (part_name a.part))) (assigned_by (instance_block ss ps block).body)
      (block_assigned ss ps flat P block f (λ name now. MayAssign flat (meant (scope_at flat block.scope) name))
      (recursion_from_All (λ a. MayAssign flat (meant (scope_at flat block.scope) (part_name a.part))) (assigned_by block.body) h))

  pub targets_stay : RightTargets flat → RightTargets other
  targets_stay r = record {
    drivers = each_driver ss ps flat (λ d. DriverTarget other d.target d.value) (λ k l. driver_target (driver_at flat k).target (driver_at flat k).value (r.drivers k l));
    clocked = each_block ss ps flat.clocked (BlockTargets other)
        (λ k l. block_targets (MayGuard flat word (block_at flat.clocked k).scope) (block_at flat.clocked k) (sites.clocked k l) (r.clocked k l));
    combinational = each_block ss ps flat.combinational (BlockTargets other)
        (λ k l. block_targets (MayGuardElsewhere flat word (block_at flat.combinational k).scope) (block_at flat.combinational k) (sites.combinational k l) (r.combinational k l));
    initials = λ k l. r.initials k l;
  }

  -- Labels

  block_labels : (P : Text → Type 0) (block : Block) → BlockFits P ss block → labels_fit block.body ≡ true → labels_fit (instance_block ss ps block).body ≡ true
  block_labels P block f h = body_labels P ss ps (first_token block.body) block.body f.names (recursion_from_All _ ss f.targets) h

  pub labels_stay : RightLabels flat → RightLabels other
  labels_stay r = record {
    clocked = each_block ss ps flat.clocked (λ b. labels_fit b.body ≡ true)
        (λ k l. block_labels (MayGuard flat word (block_at flat.clocked k).scope) (block_at flat.clocked k) (sites.clocked k l) (r.clocked k l));
    combinational = each_block ss ps flat.combinational (λ b. labels_fit b.body ≡ true)
        (λ k l. block_labels (MayGuardElsewhere flat word (block_at flat.combinational k).scope) (block_at flat.combinational k) (sites.combinational k l) (r.combinational k l));
  }

  -- Writers

  pub writers_stay : OneWriter flat → OneWriter other
  writers_stay o x y b p q = o x y b (writer_before ss ps flat word sites x b p) (writer_before ss ps flat word sites y b q)

  -- Kinds

  pub kinds_stay : RightKinds flat → RightKinds other
  kinds_stay r = record {
    combinational = each_block ss ps flat.combinational (λ b. All (λ a. a.now ≡ true) (assigned_by b.body))
        (λ k l. All-from_recursion (λ a. a.now ≡ true) (assigned_by (instance_block ss ps (block_at flat.combinational k)).body)
        (block_assigned ss ps flat (MayGuardElsewhere flat word (block_at flat.combinational k).scope) (block_at flat.combinational k) (sites.combinational k l) (λ name now. now ≡ true)
        (recursion_from_All (λ a. a.now ≡ true) (assigned_by (block_at flat.combinational k).body) (r.combinational k l))));
    one = λ id p q. r.one id (somewhere ss ps flat word sites id true p) (somewhere ss ps flat word sites id false q);
  }

  -- Races

  same_signal : (id other : ℕ) → Some other ≡ Some id → other ≡ id
  same_signal id other h = cc

  pub races_stay : NoRace flat → NoRace other
  races_stay r j k lj lk id a i n l is m = at (blocks_long ss ps flat.clocked j lj) (blocks_long ss ps flat.clocked k lk)
    where
      body : Statement
      body = (block_at flat.clocked k).body

      scope : ℕ
      scope = (block_at flat.clocked k).scope

      -- a name of another signal, or of the same block
      IsApart : Text → Type 0
      IsApart name = variable_of (meant (scope_at flat scope) name) ≡ Some id → j ≡ k

      at : j < length flat.clocked → k < length flat.clocked → j ≡ k
      at lj lk =
          let f = sites.clocked k lk in
          let wrote : AssignedIn flat (block_at flat.clocked j) id true = clocked_assigns ss ps flat word sites j id true lj a in
          let old : AllByRecursion (OfText IsApart) (names_read body) = by_element (OfText IsApart) (names_read body) (λ x c e. r j k lj lk id wrote c.0 x c.1 c.2 e) in
          let new : AllByRecursion (OfText IsApart) (names_read (instance_block ss ps (block_at flat.clocked k)).body) =
          body_names_read IsApart ss ps (first_token (block_at flat.clocked k).body) body
          (λ x g e. let w = f.names x g in absurd (w.not_now j lj (subst (λ z. AssignedIn flat (block_at flat.clocked j) z true) (sym (same_signal id w.signal (sym (ap variable_of w.scalar) ∙ e))) wrote)))
          (recursion_from_All _ ss f.targets) old in
          let there = subst (λ b. AllByRecursion (OfText IsApart) (names_read b.body)) (sym (block_is ss ps flat.clocked k lk)) new in
          holds_of (OfText IsApart) (names_read (block_at other.clocked k).body) n there (i, l, is) (subst (λ (b : Block). variable_of (meant (scope_at flat b.scope) n.text) ≡ Some id) (block_is ss ps flat.clocked k lk) m)

  -- Latches

  not_false : (x : Bool) → x ≡ false → not x ≡ true
  not_false x h = rw h refl

  block_latch : OneWriter flat → (k : ℕ) → k < length flat.combinational → NoLatch (scope_at flat (block_at flat.combinational k).scope) (block_at flat.combinational k).body →
      NoLatch (scope_at flat (block_at flat.combinational k).scope) (instance_block ss ps (block_at flat.combinational k)).body
  unfolding Writes
  block_latch o k l h =
      let block = block_at flat.combinational k in
      let f = sites.combinational k l in
      body_latches (MayGuardElsewhere flat word block.scope) ss ps (first_token block.body) block.body f.names (recursion_from_All _ ss f.targets) (scope_at flat block.scope) h
      (λ name m b i. not_false (writes true (scope_at flat block.scope) block.body b)
      (missed (writes true (scope_at flat block.scope) block.body b) (λ w.
      let r = register_bit flat word block.scope name m b i in
      let e : Clocked r.0 ≡ Combinational k = o (Clocked r.0) (Combinational k) b r.1 (l, or_left (writes_now flat block b) (writes_later flat block b) w) in cc)))

  pub latches_stay : OneWriter flat → NoLatches flat → NoLatches other
  latches_stay o h = each_block ss ps flat.combinational (λ b. NoLatch (scope_at flat b.scope) b.body) (λ k l. block_latch o k l (h k l))
