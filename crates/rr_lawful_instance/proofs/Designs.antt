-- The parts of the instance of a flat design, by those of the design.
use Rattle.std.proofs.Common.{◌≡◌, inl, inr, ℕ, ◌<◌, Bool, true, false, ◌||◌, List, length, map, get_or, Option, Some, None, refl, sym, subst, ap, ◌∙◌}
use Rattle.std.specs.List.{AllByRecursion}
use Rattle.std.proofs.Math.ListN as by_default
use Rattle.std.proofs.lemmas.List.{get_or-map, length-map}
use Rattle.std.proofs.lemmas.List.Elements.{recursion_from_All}
use Rattle.rr_expr.specs.declared.types.Bit.{Bit}
use Rattle.rr_expr.specs.Scopes.{meant}
use Rattle.rr_flat.specs.Signals.{Text}
use Rattle.rr_flat.specs.Lawful.{AssignedIn, AssignedSomewhere}
use Rattle.rr_flat.specs.Plain.{Side, Written, Whole, Driver, Block, Flat}
use Rattle.rr_flat.specs.Reads.{Assigned, writes, assigned_by}
use Rattle.rr_flat.specs.Targets.{variable_of, part_name}
use Rattle.rr_flat.specs.Writers.{scope_at, driver_at, block_at, no_driver, no_block, driven_by, driven, writes_at_all, Writer, Driven, Clocked, Combinational, Writes}
use Rattle.rr_choice.specs.declared.pick.Pick.{Pick}
use Rattle.rr_choice.specs.Sites.{Site}
use Rattle.rr_lawful_instance.specs.AreSites.{MayGuard, MayGuardElsewhere, BlockFits, AreSitesOf}
use Rattle.rr_flat_instance.specs.Flats.{instance_driver, instance_block}
use Rattle.rr_instance.specs.Firsts.{first_token}
use Rattle.rr_lawful_instance.proofs.Made.{made}
use Rattle.rr_lawful_instance.proofs.Bodies.{body_assigned, body_writes}
use Rattle.rr_lawful_instance.proofs.Lists.{by_element, holds_of}

module _ (ss : List Site) (ps : List Pick) where
  -- Drivers and blocks

  pub driver_is : (flat : Flat) (k : ℕ) → driver_at (made ss ps flat) k ≡ instance_driver ss ps (driver_at flat k)
  driver_is flat k = by_default.get_or-map (instance_driver ss ps) flat.drivers k no_driver

  pub drivers_long : (flat : Flat) (k : ℕ) → k < length (made ss ps flat).drivers → k < length flat.drivers
  drivers_long flat k l = subst (λ n. k < n) (length-map flat.drivers (instance_driver ss ps)) l

  pub drivers_as_long : (flat : Flat) (k : ℕ) → k < length flat.drivers → k < length (made ss ps flat).drivers
  drivers_as_long flat k l = subst (λ n. k < n) (sym (length-map flat.drivers (instance_driver ss ps))) l

  pub block_is : (blocks : List Block) (k : ℕ) → k < length blocks → block_at (map (instance_block ss ps) blocks) k ≡ instance_block ss ps (block_at blocks k)
  block_is blocks k l = get_or-map (instance_block ss ps) blocks k no_block no_block l

  pub blocks_long : (blocks : List Block) (k : ℕ) → k < length (map (instance_block ss ps) blocks) → k < length blocks
  blocks_long blocks k l = subst (λ n. k < n) (length-map blocks (instance_block ss ps)) l

  pub blocks_as_long : (blocks : List Block) (k : ℕ) → k < length blocks → k < length (map (instance_block ss ps) blocks)
  blocks_as_long blocks k l = subst (λ n. k < n) (sym (length-map blocks (instance_block ss ps))) l

  -- what holds of each instance of a block holds of each block of the instance
  pub each_block : (blocks : List Block) (R : Block → Type 0) → ((k : ℕ) → k < length blocks → R (instance_block ss ps (block_at blocks k))) →
      (k : ℕ) → k < length (map (instance_block ss ps) blocks) → R (block_at (map (instance_block ss ps) blocks) k)
  each_block blocks R h k l = let m = blocks_long blocks k l in subst R (sym (block_is blocks k m)) (h k m)

  pub each_driver : (flat : Flat) (R : Driver → Type 0) → ((k : ℕ) → k < length flat.drivers → R (instance_driver ss ps (driver_at flat k))) →
      (k : ℕ) → k < length (made ss ps flat).drivers → R (driver_at (made ss ps flat) k)
  each_driver flat R h k l = subst R (sym (driver_is flat k)) (h k (drivers_long flat k l))

  -- Targets

  driven_by_same : (flat : Flat) (side : Side) → driven_by (made ss ps flat) side ≡ driven_by flat side
  unfolding driven_by
  driven_by_same flat (Written t i) = refl
  driven_by_same flat (Whole id) = refl

  pub driven_same : (flat : Flat) (k : ℕ) → driven (made ss ps flat) k ≡ driven flat k
  driven_same flat k = ap (λ (d : Driver). driven_by (made ss ps flat) d.target) (driver_is flat k) ∙ driven_by_same flat (driver_at flat k).target

  -- Blocks whose sites fit

  module _ (flat : Flat) (P : Text → Type 0) (block : Block) (fits : BlockFits P ss block) where
    abbrev new : Block
    new = instance_block ss ps block

    pub targets_fit : (Q : Text → Type 0) → ((name : Text) → P name → Q name) → BlockFits Q ss block
    targets_fit Q h = record { names = λ name k. h name (fits.names name k); targets = fits.targets }

    pub block_writes : (now : Bool) (b : Bit) → writes now (scope_at flat block.scope) new.body b ≡ writes now (scope_at flat block.scope) block.body b
    block_writes now b = body_writes P ss ps (first_token block.body) block.body fits.names (recursion_from_All _ ss fits.targets) now (scope_at flat block.scope) b

    pub block_assigned : (R : Text → Bool → Type 0) → AllByRecursion (λ a. R (part_name a.part) a.now) (assigned_by block.body) → AllByRecursion (λ a. R (part_name a.part) a.now) (assigned_by new.body)
    block_assigned R h = body_assigned P ss ps (first_token block.body) block.body fits.names (recursion_from_All _ ss fits.targets) R h

    -- what the instance assigns, the block assigns
    pub assigned_before : (id : ℕ) (now : Bool) → AssignedIn (made ss ps flat) new id now → AssignedIn flat block id now
    assigned_before id now (i, (a, c)) =
        let each : AllByRecursion (λ (b : Assigned). b.now ≡ now → variable_of (meant (scope_at flat block.scope) (part_name b.part)) ≡ Some id → AssignedIn flat block id now) (assigned_by block.body) =
        by_element (λ (b : Assigned). b.now ≡ now → variable_of (meant (scope_at flat block.scope) (part_name b.part)) ≡ Some id → AssignedIn flat block id now) (assigned_by block.body)
        (λ b k e m. (k.0, (b, (k.1, k.2, e, m)))) in
        holds_of (λ (b : Assigned). b.now ≡ now → variable_of (meant (scope_at flat block.scope) (part_name b.part)) ≡ Some id → AssignedIn flat block id now) (assigned_by new.body) a
        (block_assigned (λ name k. k ≡ now → variable_of (meant (scope_at flat block.scope) name) ≡ Some id → AssignedIn flat block id now) each)
        (i, c.0, c.1) c.2 c.3

  -- The whole design

  module _ (flat : Flat) (word : Option Text) (sites : AreSitesOf flat word ss) where
    abbrev other : Flat
    other = made ss ps flat

    pub clocked_assigns : (k : ℕ) (id : ℕ) (now : Bool) → k < length flat.clocked → AssignedIn other (block_at other.clocked k) id now → AssignedIn flat (block_at flat.clocked k) id now
    clocked_assigns k id now l a =
        assigned_before flat (MayGuard flat word (block_at flat.clocked k).scope) (block_at flat.clocked k) (sites.clocked k l) id now (subst (λ b. AssignedIn other b id now) (block_is flat.clocked k l) a)

    pub combinational_assigns : (k : ℕ) (id : ℕ) (now : Bool) → k < length flat.combinational → AssignedIn other (block_at other.combinational k) id now → AssignedIn flat (block_at flat.combinational k) id now
    combinational_assigns k id now l a =
        assigned_before flat (MayGuardElsewhere flat word (block_at flat.combinational k).scope) (block_at flat.combinational k) (sites.combinational k l) id now
        (subst (λ b. AssignedIn other b id now) (block_is flat.combinational k l) a)

    pub somewhere : (id : ℕ) (now : Bool) → AssignedSomewhere other id now → AssignedSomewhere flat id now
    somewhere id now (inl (k, (l, a))) = let m = blocks_long flat.clocked k l in inl (k, (m, clocked_assigns k id now m a))
    somewhere id now (inr (k, (l, a))) = let m = blocks_long flat.combinational k l in inr (k, (m, combinational_assigns k id now m a))

    pub clocked_writes : (k : ℕ) (b : Bit) → k < length flat.clocked → writes_at_all other (block_at other.clocked k) b ≡ writes_at_all flat (block_at flat.clocked k) b
    clocked_writes k b l =
        ap (λ c. writes_at_all other c b) (block_is flat.clocked k l)
        ∙ (λ i. block_writes flat (MayGuard flat word (block_at flat.clocked k).scope) (block_at flat.clocked k) (sites.clocked k l) true b i
        || block_writes flat (MayGuard flat word (block_at flat.clocked k).scope) (block_at flat.clocked k) (sites.clocked k l) false b i)

    pub combinational_writes : (k : ℕ) (b : Bit) → k < length flat.combinational → writes_at_all other (block_at other.combinational k) b ≡ writes_at_all flat (block_at flat.combinational k) b
    combinational_writes k b l =
        ap (λ c. writes_at_all other c b) (block_is flat.combinational k l)
        ∙ (λ i. block_writes flat (MayGuardElsewhere flat word (block_at flat.combinational k).scope) (block_at flat.combinational k) (sites.combinational k l) true b i
        || block_writes flat (MayGuardElsewhere flat word (block_at flat.combinational k).scope) (block_at flat.combinational k) (sites.combinational k l) false b i)

    -- each bit is written as before
    pub writer_before : (x : Writer) (b : Bit) → Writes other x b → Writes flat x b
    unfolding Writes
    writer_before (Driven k i) b (l, w) = (drivers_long flat k l, subst (λ bits. get_or bits i None ≡ Some b) (driven_same flat k) w)
    writer_before (Clocked k) b (l, w) = let m = blocks_long flat.clocked k l in (m, sym (clocked_writes k b m) ∙ w)
    writer_before (Combinational k) b (l, w) = let m = blocks_long flat.combinational k l in (m, sym (combinational_writes k b m) ∙ w)

    pub writer_after : (x : Writer) (b : Bit) → Writes flat x b → Writes other x b
    unfolding Writes
    writer_after (Driven k i) b (l, w) = (drivers_as_long flat k l, subst (λ bits. get_or bits i None ≡ Some b) (sym (driven_same flat k)) w)
    writer_after (Clocked k) b (l, w) = (blocks_as_long flat.clocked k l, clocked_writes k b l ∙ w)
    writer_after (Combinational k) b (l, w) = (blocks_as_long flat.combinational k l, combinational_writes k b l ∙ w)
