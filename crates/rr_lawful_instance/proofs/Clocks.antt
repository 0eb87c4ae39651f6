-- An instance of a flat design has the design's clock, and reads it nowhere.
use Rattle.std.proofs.Common.{◌≡◌, inl, inr, ℕ, ◌<◌, Bool, true, false, cond, List, [], ◌∷◌, length, map, get_or, Option, Some, None, refl, sym, subst, ap, ◌∙◌, arith}
use Rattle.std.specs.List.{AllByRecursion}
use Rattle.std.specs.Str.{bytes_eq}
use Rattle.std.proofs.lemmas.List.Elements.{All-from_recursion, recursion_from_All}
use Rattle.std.proofs.lemmas.Slice.Eq.{bytes_eq-Decides}
use Rattle.rr_syntax.specs.Tree.{Tree, Identifier, Statement, EdgeEvent}
use Rattle.rr_flat.specs.Signals.{Text}
use Rattle.rr_flat.specs.Clocks.{IsBareName, Connects, Leads, itself, through, NameLeads, EdgeLeads, is_among, no_edge, free_edge, or_first, deciding_edge, IsDecided, IsChosen, FirstEdge, IsDirection, RunsOn, OneClock}
use Rattle.rr_flat.specs.Lawful.{NoClockIn, SideWithout, HandsOn, DriverWithout, ClockUnread, NoClockRead}
use Rattle.rr_flat.specs.Plain.{Side, Written, Whole, Driver, Block, Flat}
use Rattle.rr_flat.specs.Reads.{names_in, names_of}
use Rattle.rr_flat.specs.Writers.{driver_at, block_at}
use Rattle.rr_flat.proofs.Bits.{missed, or_none}
use Rattle.rr_choice.specs.declared.pick.Pick.{Pick}
use Rattle.rr_instance.specs.Instances.{instance_tree, instance_body}
use Rattle.rr_choice.specs.Sites.{Site}
use Rattle.rr_lawful_instance.specs.AreSites.{MayGuard, MayGuardElsewhere, BlockFits, SideFits, AreSitesOf}
use Rattle.rr_flat_instance.specs.Flats.{instance_side, instance_driver, instance_block}
use Rattle.rr_instance.specs.Firsts.{first_token}
use Rattle.rr_lawful_instance.proofs.Made.{made}
use Rattle.rr_lawful_instance.proofs.Bodies.{body_names}
use Rattle.rr_lawful_instance.proofs.Designs.{driver_is, drivers_long, drivers_as_long, each_block, each_driver}
use Rattle.rr_lawful_instance.proofs.NamesStay.{stands_in_body}
use Rattle.rr_lawful_instance.proofs.Trees.{OfText, names_in_instance, bare_stays, bare_before}

module _ (ss : List Site) (ps : List Pick) (flat : Flat) where
  abbrev other : Flat
  other = made ss ps flat

  -- What leads to the clock

  bare_after : (side : Side) (id : ℕ) → IsBareName flat side id → IsBareName other (instance_side ss ps side) id
  bare_after (Written t i) id h = bare_stays ss ps other i id t (same t h)
    where
      same : (t : Tree) → IsBareName flat (Written t i) id → IsBareName other (Written t i) id
      same t h = h
  bare_after (Whole x) id h = h

  bare_back : (side : Side) (id : ℕ) → IsBareName other (instance_side ss ps side) id → IsBareName flat side id
  bare_back (Written t i) id h = bare_before ss ps other i id t h
  bare_back (Whole x) id h = h

  target_is : (k : ℕ) → (driver_at other k).target ≡ (driver_at flat k).target
  target_is k = ap (λ (d : Driver). d.target) (driver_is ss ps flat k)

  connects_after : (k port id : ℕ) → Connects flat k port id → Connects other k port id
  connects_after k port id c = record {
    inside = drivers_as_long ss ps flat k c.inside;
    target = target_is k ∙ c.target;
    first = λ j l t. c.first j l (sym (target_is j) ∙ t);
    input = c.input;
    scalar = c.scalar;
    bare = subst (λ d. IsBareName other d.value id) (sym (driver_is ss ps flat k)) (bare_after (driver_at flat k).value id c.bare);
  }

  connects_back : (k port id : ℕ) → Connects other k port id → Connects flat k port id
  connects_back k port id c = record {
    inside = drivers_long ss ps flat k c.inside;
    target = sym (target_is k) ∙ c.target;
    first = λ j l t. c.first j l (target_is j ∙ t);
    input = c.input;
    scalar = c.scalar;
    bare = bare_back (driver_at flat k).value id (subst (λ d. IsBareName other d.value id) (driver_is ss ps flat k) c.bare);
  }

  leads_after : (clock id : ℕ) → Leads flat clock id → Leads other clock id
  leads_after clock id itself = itself
  leads_after clock id (through {port = p} {id = i} k n c l) = through k n (connects_after k p i c) (leads_after clock i l)

  leads_back : (clock id : ℕ) → Leads other clock id → Leads flat clock id
  leads_back clock id itself = itself
  leads_back clock id (through {port = p} {id = i} k n c l) = through k n (connects_back k p i c) (leads_back clock i l)

  name_after : (clock i : ℕ) (name : Text) → NameLeads flat clock i name → NameLeads other clock i name
  name_after clock i name (id, (signed, (m, l))) = (id, (signed, (m, leads_after clock id l)))

  name_back : (clock i : ℕ) (name : Text) → NameLeads other clock i name → NameLeads flat clock i name
  name_back clock i name (id, (signed, (m, l))) = (id, (signed, (m, leads_back clock id l)))

  -- The deciding edge

  abbrev IfEdge : (EdgeEvent → Type 0) → Option EdgeEvent → Type 0
  IfEdge C None = Unit {0}
  IfEdge C (Some e) = C e

  -- where an edge of a kind whose names stand in one body where they stand in the other comes first
  free_same : (C : EdgeEvent → Type 0) (t u : Statement) → ((name : Text) → is_among name (names_of t) ≡ true → is_among name (names_of u) ≡ true) →
      ((e : EdgeEvent) → C e → is_among e.text (names_of t) ≡ false → is_among e.text (names_of u) ≡ false) →
      (es : List EdgeEvent) → IfEdge C (free_edge t es) → free_edge u es ≡ free_edge t es
  unfolding free_edge
  free_same C t u g n [] c = refl
  free_same C t u g n (e ∷ es) c = by_test (is_among e.text (names_of t)) refl (free_same C t u g n es) c
    where
      by_test : (b : Bool) → is_among e.text (names_of t) ≡ b → (IfEdge C (free_edge t es) → free_edge u es ≡ free_edge t es) → IfEdge C (cond b (free_edge t es) (Some e)) →
          cond (is_among e.text (names_of u)) (free_edge u es) (Some e) ≡ cond b (free_edge t es) (Some e)
      by_test true q r c = rw (g e.text q) (r c)
      by_test false q r c = rw (n e c q) refl

  from_first : (C : EdgeEvent → Type 0) (o : Option EdgeEvent) (es : List EdgeEvent) → C (or_first o es) → IfEdge C o
  from_first C None es c = tt
  from_first C (Some e) es c = c

  module _ (word : Option Text) (sites : AreSitesOf flat word ss) where
    not_among : (name : Text) (xs : List Identifier) → is_among name xs ≡ false → AllByRecursion (OfText (λ x. bytes_eq name x ≡ false)) xs
    unfolding is_among
    not_among name [] h = tt
    not_among name (x ∷ xs) h = let p = or_none (bytes_eq name x.text) (is_among name xs) h in (p.0, not_among name xs p.1)

    among_none : (name : Text) (xs : List Identifier) → AllByRecursion (OfText (λ x. bytes_eq name x ≡ false)) xs → is_among name xs ≡ false
    unfolding is_among
    among_none name [] h = refl
    among_none name (x ∷ xs) h = rw (h.0) (among_none name xs h.1)

    module _ (clock : ℕ) (rising : Bool) (one : OneClock flat word (Some clock) rising) where
      abbrev IsNotClock : ℕ → Text → Type 0
      IsNotClock i name = NameLeads flat clock i name → ⊥

      guard_not_clock : (i : ℕ) (name : Text) → MayGuard flat word i name → IsNotClock i name
      guard_not_clock i name m = m.no_clock clock (rising, one)

      guard_name : (i : ℕ) (name x : Text) → NameLeads flat clock i name → MayGuard flat word i x → bytes_eq name x ≡ false
      guard_name i name x l m = missed (bytes_eq name x) (λ q. guard_not_clock i x m (subst (NameLeads flat clock i) ((bytes_eq-Decides name x).0 q) l))

      -- the deciding edge of a clocked block is that of its instance, where it leads to the clock
      deciding_same : (block : Block) → BlockFits (MayGuard flat word block.scope) ss block → EdgeLeads flat clock block (deciding_edge block) → deciding_edge (instance_block ss ps block) ≡ deciding_edge block
      deciding_same block fits l =
          ap (λ o. or_first o block.edges)
          (free_same (EdgeLeads flat clock block) block.body (instance_body ss ps (first_token block.body) block.body)
          (λ name h. stands_in_body name ss ps (first_token block.body) block.body h)
          (λ e c h. among_none e.text (names_of (instance_body ss ps (first_token block.body) block.body))
          (body_names (λ x. bytes_eq e.text x ≡ false) ss ps (first_token block.body) block.body (λ x k. guard_name block.scope e.text x c (fits.names x k)) (recursion_from_All _ ss fits.targets)
          (not_among e.text (names_of block.body) h)))
          block.edges (from_first (EdgeLeads flat clock block) (free_edge block.body block.edges) block.edges l))

      -- The clock of the instance

      decided : (blocks : List Block) → ((k : ℕ) → k < length blocks → BlockFits (MayGuard flat word (block_at blocks k).scope) ss (block_at blocks k)) →
          IsDecided flat blocks (Some clock) → IsDecided other (map (instance_block ss ps) blocks) (Some clock)
      decided [] f d = let e : Some clock ≡ None = d in cc
      decided (block ∷ blocks) f d = (
        d.0,
        subst (λ e. NameLeads other clock block.scope e.text) (sym (deciding_same block (f 0 (omega arith)) d.1)) (name_after clock block.scope (deciding_edge block).text d.1),
      )

      chosen : (w : Option Text) → IsChosen flat w (Some clock) → IsChosen other w (Some clock)
      chosen None c = decided flat.clocked (λ k l. sites.clocked k l) c
      chosen (Some name) c = c

      first_edge : (block : Block) → FirstEdge flat clock block rising → FirstEdge other clock (instance_block ss ps block) rising
      first_edge block e = record {
        place = e.place;
        inside = e.inside;
        leads = name_after clock block.scope (get_or block.edges e.place no_edge).text e.leads;
        direction = e.direction;
        first = λ j l k. e.first j l (name_back clock block.scope (get_or block.edges j no_edge).text k);
      }

      direction : (blocks : List Block) → IsDirection flat blocks (Some clock) rising → IsDirection other (map (instance_block ss ps) blocks) (Some clock) rising
      direction [] d = d
      direction (block ∷ blocks) d = first_edge block d

      runs_on : (block : Block) → RunsOn flat clock rising block → RunsOn other clock rising (instance_block ss ps block)
      runs_on block (j, (l, d, e)) = (j, (l, d, name_after clock block.scope (get_or block.edges j no_edge).text e))

      some_clock : OneClock other word (Some clock) rising
      some_clock = record {
        chosen = chosen word one.chosen;
        direction = direction flat.clocked one.direction;
        all = each_block ss ps flat.clocked (RunsOn other clock rising) (λ k l. runs_on (block_at flat.clocked k) (one.all k l));
      }

      -- Expressions without it

      not_clock : (i : ℕ) (names : List Identifier) → NoClockIn flat clock i names → NoClockIn other clock i names
      not_clock i names h = λ k d l n. h k d l (name_back clock i (get_or names k d).text n)

      side_without : (side : Side) → SideWithout flat clock side → SideWithout other clock side
      side_without (Written t i) h = not_clock i (names_in t) h
      side_without (Whole id) h = h

      value_without : (side : Side) → SideFits flat word ss side → SideWithout flat clock side → SideWithout other clock (instance_side ss ps side)
      value_without (Written t i) f h =
          not_clock i (names_in (instance_tree ss ps t))
          (All-from_recursion (OfText (IsNotClock i)) (names_in (instance_tree ss ps t))
          (names_in_instance (IsNotClock i) ss ps t (λ x k. guard_not_clock i x (f x k).guard) (recursion_from_All (OfText (IsNotClock i)) (names_in t) h)))
      value_without (Whole id) f h = h

      hands_on : (d : Driver) → HandsOn flat d → HandsOn other (instance_driver ss ps d)
      hands_on d (port, id, (t, i, r, b)) = (port, id, (t, i, r, bare_after d.value id b))

      driver_without : (d : Driver) → SideFits flat word ss d.value → DriverWithout flat clock d → DriverWithout other clock (instance_driver ss ps d)
      driver_without d f (t, inl h) = (side_without d.target t, inl (hands_on d h))
      driver_without d f (t, inr v) = (side_without d.target t, inr (value_without d.value f v))

      block_without : (P : Text → Type 0) (block : Block) → BlockFits P ss block → ((x : Text) → P x → MayGuard flat word block.scope x) → NoClockIn flat clock block.scope (names_of block.body) →
          NoClockIn other clock block.scope (names_of (instance_block ss ps block).body)
      block_without P block f g h =
          not_clock block.scope (names_of (instance_block ss ps block).body)
          (All-from_recursion (OfText (IsNotClock block.scope)) (names_of (instance_block ss ps block).body)
          (body_names (IsNotClock block.scope) ss ps (first_token block.body) block.body (λ x k. guard_not_clock block.scope x (g x (f.names x k))) (recursion_from_All _ ss f.targets)
          (recursion_from_All (OfText (IsNotClock block.scope)) (names_of block.body) h)))

      some_unread : ClockUnread flat clock → ClockUnread other clock
      some_unread u = record {
        drivers = each_driver ss ps flat (DriverWithout other clock) (λ k l. driver_without (driver_at flat k) (sites.drivers k l) (u.drivers k l));
        clocked = each_block ss ps flat.clocked (λ b. NoClockIn other clock b.scope (names_of b.body))
            (λ k l. block_without (MayGuard flat word (block_at flat.clocked k).scope) (block_at flat.clocked k) (sites.clocked k l) (λ x m. m) (u.clocked k l));
        combinational = each_block ss ps flat.combinational (λ b. NoClockIn other clock b.scope (names_of b.body))
            (λ k l. block_without (MayGuardElsewhere flat word (block_at flat.combinational k).scope) (block_at flat.combinational k) (sites.combinational k l) (λ x m. m.guard) (u.combinational k l));
      }

    -- a design without a clock has no clocked blocks
    none_decided : (blocks : List Block) → IsDecided flat blocks None → IsDecided other (map (instance_block ss ps) blocks) None
    none_decided [] d = d
    none_decided (block ∷ blocks) d = d

    none_chosen : (w : Option Text) → IsChosen flat w None → IsChosen other w None
    none_chosen None c = none_decided flat.clocked c
    none_chosen (Some name) c = c

    none_direction : (blocks : List Block) (rising : Bool) → IsDirection flat blocks None rising → IsDirection other (map (instance_block ss ps) blocks) None rising
    none_direction [] rising d = d
    none_direction (block ∷ blocks) rising d = d

    pub clock_stays : (clock : Option ℕ) (rising : Bool) → OneClock flat word clock rising → OneClock other word clock rising
    clock_stays None rising o = record { chosen = none_chosen word o.chosen; direction = none_direction flat.clocked rising o.direction; all = tt }
    clock_stays (Some clock) rising o = some_clock clock rising o

    pub unread_stays : (clock : Option ℕ) (rising : Bool) → OneClock flat word clock rising → NoClockRead flat clock → NoClockRead other clock
    unread_stays None rising o u = tt
    unread_stays (Some clock) rising o u = some_unread clock rising o u
