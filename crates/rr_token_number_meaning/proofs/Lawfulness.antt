-- Designs that are equal without token numbers keep the same laws, and have the same orders.
use Rattle.std.proofs.Common.{◌≡◌, ◌∙◌, sym, ap, subst, inl, inr, ℕ, ◌<◌, Bool, true, false, List, [], ◌∷◌, length, map, get_or, Option, refl, zero, suc, arith}
use Rattle.std.specs.List.{All}
use Rattle.std.proofs.lemmas.List.{length-map, get_or_default}
use Rattle.rr_syntax.specs.Tree.{Identifier, Statement, bare_identifier, bare_statement}
use Rattle.rr_expr.specs.Scopes.{Names, meant}
use Rattle.rr_flat.specs.Signals.{Text}
use Rattle.rr_flat.specs.declared.design.Step.{Step}
use Rattle.rr_flat.specs.Latches.{NoLatch}
use Rattle.rr_flat.specs.Lawful.{ClockNamed, DriverTarget, BlockTargets, InitialTargets, RightTargets, labels_fit, RightLabels, OneWriter, AssignedIn, AssignedSomewhere, RightKinds, NoRace, NoLatches, HasRanks, Lawful}
use Rattle.rr_flat.specs.Ordered.{IsStep, StepWrites, StepNames, step_at, Ordered}
use Rattle.rr_flat.specs.Plain.{Block, Flat}
use Rattle.rr_flat.specs.Reads.{Assigned, assigned_by, names_read}
use Rattle.rr_flat.specs.Targets.{variable_of, part_name}
use Rattle.rr_flat.specs.Writers.{scope_at, driver_at, block_at, initial_at}
use Rattle.rr_token_numbers.specs.Bare.{bare_block, IsSameFlat}
use Rattle.rr_token_number_meaning.proofs.Targets.{part_name-bare}
use Rattle.rr_token_number_meaning.proofs.Designs.{moved}
use Rattle.rr_token_number_meaning.proofs.Naming.{names_read-bare, bare_assigned, assigned_by-bare, latch_reads, latch_ends}
use Rattle.rr_token_number_meaning.proofs.Checks.{agree, ClockNamed-bare, drivers_path, clocked_targets, combinational_targets, initial_targets, clocked_labels, combinational_labels, OneWriter-bare, blocking_path, HasRanks-bare, IsStep-bare, StepWrites-bare, StepNames-bare}
use Rattle.rr_token_number_meaning.proofs.Clocking.{text_at, scope_same, clocked_same, combinational_same, block_same, many_same, one_clock, no_clock_read}

-- targets and labels

right_targets : (f g : Flat) → IsSameFlat f g → RightTargets f → RightTargets g
right_targets f g same h = record {
  drivers = moved (agree (λ (x : Flat). (k : ℕ) → k < length x.drivers → DriverTarget x (driver_at x k).target (driver_at x k).value) drivers_path f g same) h.drivers;
  clocked = moved (agree (λ (x : Flat). (k : ℕ) → k < length x.clocked → BlockTargets x (block_at x.clocked k)) clocked_targets f g same) h.clocked;
  combinational = moved (agree (λ (x : Flat). (k : ℕ) → k < length x.combinational → BlockTargets x (block_at x.combinational k)) combinational_targets f g same) h.combinational;
  initials = moved (agree (λ (x : Flat). (k : ℕ) → k < length x.initials → InitialTargets x (initial_at x.initials k)) initial_targets f g same) h.initials;
}

right_labels : (f g : Flat) → IsSameFlat f g → RightLabels f → RightLabels g
right_labels f g same h = record {
  clocked = moved (agree (λ (x : Flat). (k : ℕ) → k < length x.clocked → labels_fit (block_at x.clocked k).body ≡ true) clocked_labels f g same) h.clocked;
  combinational = moved (agree (λ (x : Flat). (k : ℕ) → k < length x.combinational → labels_fit (block_at x.combinational k).body ≡ true) combinational_labels f g same) h.combinational;
}

-- kinds of assignments

assigned_at : (xs : List Assigned) (i : ℕ) (d : Assigned) → i < length xs → bare_assigned (get_or xs i d) ≡ get_or (map bare_assigned xs) i (bare_assigned d)
assigned_at [] i d l = refl
assigned_at (x ∷ xs) zero d l = refl
assigned_at (x ∷ xs) (suc i) d l = assigned_at xs i d (omega arith)

part_same : (a b : Assigned) → bare_assigned a ≡ bare_assigned b → part_name a.part ≡ part_name b.part
part_same a b e = sym (part_name-bare a.part) ∙ (ap (λ (x : Assigned). part_name x.part) e ∙ part_name-bare b.part)

assigned_in : (f g : Flat) → IsSameFlat f g → (b c : Block) (id : ℕ) (now : Bool) → bare_block b ≡ bare_block c → AssignedIn f b id now → AssignedIn g c id now
assigned_in f g same b c id now e h =
    let i : ℕ = h.0 in
    let a : Assigned = h.1.0 in
    let lists : map bare_assigned (assigned_by b.body) ≡ map bare_assigned (assigned_by c.body) =
    sym (assigned_by-bare b.body) ∙ (ap (λ (x : Block). assigned_by x.body) e ∙ assigned_by-bare c.body) in
    let many : length (assigned_by b.body) ≡ length (assigned_by c.body) = sym (length-map (assigned_by b.body) bare_assigned) ∙ (ap length lists ∙ length-map (assigned_by c.body) bare_assigned) in
    let lb : i < length (assigned_by b.body) = h.1.1.0 in
    let lc : i < length (assigned_by c.body) = rw many at lb in
    let d : Assigned = get_or (assigned_by c.body) i a in
    let alike : bare_assigned a ≡ bare_assigned d =
    ap bare_assigned (sym h.1.1.1) ∙ (assigned_at (assigned_by b.body) i a lb ∙ (ap (λ (l : List Assigned). get_or l i (bare_assigned a)) lists ∙ sym (assigned_at (assigned_by c.body) i a lc))) in
    let place : scope_at f b.scope ≡ scope_at g c.scope = ap (λ (x : Block). scope_at f x.scope) e ∙ scope_same f g same c.scope in (
      i,
      (
        d,
        (
          lc,
          get_or_default (assigned_by c.body) i d a lc,
          sym (ap (λ (x : Assigned). x.now) alike) ∙ h.1.1.2,
          sym (λ k. variable_of (meant (place k) (part_same a d alike k))) ∙ h.1.1.3,
        ),
      ),
    )

assigned_somewhere : (f g : Flat) → IsSameFlat f g → (id : ℕ) (now : Bool) → AssignedSomewhere f id now → AssignedSomewhere g id now
assigned_somewhere f g same id now (inl h) =
    inl (
      h.0,
      (
        rw (many_same f g same f.clocked g.clocked (clocked_same f g same)) at h.1.0,
        assigned_in f g same (block_at f.clocked h.0) (block_at g.clocked h.0) id now (block_same f g same f.clocked g.clocked h.0 (clocked_same f g same)) h.1.1,
      ),
    )
assigned_somewhere f g same id now (inr h) =
    inr (
      h.0,
      (
        rw (many_same f g same f.combinational g.combinational (combinational_same f g same)) at h.1.0,
        assigned_in f g same (block_at f.combinational h.0) (block_at g.combinational h.0) id now (block_same f g same f.combinational g.combinational h.0 (combinational_same f g same)) h.1.1,
      ),
    )

right_kinds : (f g : Flat) → IsSameFlat f g → RightKinds f → RightKinds g
right_kinds f g same h = record {
  combinational = moved (agree (λ (x : Flat). (k : ℕ) → k < length x.combinational → All (λ (a : Assigned). a.now ≡ true) (assigned_by (block_at x.combinational k).body)) blocking_path f g same) h.combinational;
  one = λ id a b. h.one id (assigned_somewhere g f (sym same) id true a) (assigned_somewhere g f (sym same) id false b);
}

-- races

no_race : (f g : Flat) → IsSameFlat f g → NoRace f → NoRace g
no_race f g same h =
    λ j k lj lk id a i n li at m.
    let back : IsSameFlat g f = sym same in
    let bj : bare_block (block_at g.clocked j) ≡ bare_block (block_at f.clocked j) = block_same g f back g.clocked f.clocked j (clocked_same g f back) in
    let bk : bare_block (block_at g.clocked k) ≡ bare_block (block_at f.clocked k) = block_same g f back g.clocked f.clocked k (clocked_same g f back) in
    let many : length g.clocked ≡ length f.clocked = many_same g f back g.clocked f.clocked (clocked_same g f back) in
    let xs : List Identifier = names_read (block_at g.clocked k).body in
    let ys : List Identifier = names_read (block_at f.clocked k).body in
    let lists : map bare_identifier xs ≡ map bare_identifier ys = sym (names_read-bare (block_at g.clocked k).body) ∙ (ap (λ (x : Block). names_read x.body) bk ∙ names_read-bare (block_at f.clocked k).body) in
    let longs : length xs ≡ length ys = sym (length-map xs bare_identifier) ∙ (ap length lists ∙ length-map ys bare_identifier) in
    let l : i < length ys = rw longs at li in
    let d : Identifier = get_or ys i n in
    let text : n.text ≡ d.text = ap (λ (x : Identifier). x.text) (sym at) ∙ (sym (text_at xs i n) ∙ (ap (λ (z : List Identifier). (get_or z i n).text) lists ∙ text_at ys i n)) in
    let place : scope_at g (block_at g.clocked k).scope ≡ scope_at f (block_at f.clocked k).scope = ap (λ (x : Block). scope_at g x.scope) bk ∙ scope_same g f back (block_at f.clocked k).scope in
    h j k (rw many at lj) (rw many at lk) id (assigned_in g f back (block_at g.clocked j) (block_at f.clocked j) id true bj a) i d l (get_or_default ys i d n l)
    (sym (λ q. variable_of (meant (place q) (text q))) ∙ m)

-- latches

latch_bare : (s : Names) (t : Statement) → NoLatch s t → NoLatch s (bare_statement t)
latch_bare s t h = record { reads = moved (sym (latch_reads s t)) h.reads; ends = moved (sym (latch_ends s t)) h.ends }

latch_plain : (s : Names) (t : Statement) → NoLatch s (bare_statement t) → NoLatch s t
latch_plain s t h = record { reads = moved (latch_reads s t) h.reads; ends = moved (latch_ends s t) h.ends }

no_latch : (f g : Flat) → IsSameFlat f g → (b c : Block) → bare_block b ≡ bare_block c → NoLatch (scope_at f b.scope) b.body → NoLatch (scope_at g c.scope) c.body
no_latch f g same b c e h =
    let place : scope_at f b.scope ≡ scope_at g c.scope = ap (λ (x : Block). scope_at f x.scope) e ∙ scope_same f g same c.scope in
    let body : bare_statement b.body ≡ bare_statement c.body = ap (λ (x : Block). x.body) e in
    latch_plain (scope_at g c.scope) c.body (subst (λ (s : Names). NoLatch s (bare_statement c.body)) place (subst (λ (t : Statement). NoLatch (scope_at f b.scope) t) body (latch_bare (scope_at f b.scope) b.body h)))

no_latches : (f g : Flat) → IsSameFlat f g → NoLatches f → NoLatches g
no_latches f g same h =
    λ k l. no_latch f g same (block_at f.combinational k) (block_at g.combinational k) (block_same f g same f.combinational g.combinational k (combinational_same f g same))
    (h k (rw (sym (many_same f g same f.combinational g.combinational (combinational_same f g same))) at l))

-- all of them

pub same_laws : (f g : Flat) (word : Option Text) → IsSameFlat f g → Lawful f word → Lawful g word
same_laws f g word same h = record {
  named = moved (agree (λ (x : Flat). ClockNamed x word) (λ x. ClockNamed-bare x word) f g same) h.named;
  targets = right_targets f g same h.targets;
  labels = right_labels f g same h.labels;
  clock = h.clock;
  rising = h.rising;
  one_clock = one_clock f g same word h.clock h.rising h.one_clock;
  unread = no_clock_read f g same h.clock h.unread;
  one_writer = moved (agree (λ (x : Flat). OneWriter x) OneWriter-bare f g same) h.one_writer;
  kinds = right_kinds f g same h.kinds;
  no_race = no_race f g same h.no_race;
  no_latches = no_latches f g same h.no_latches;
  ranks = moved (agree (λ (x : Flat). HasRanks x) HasRanks-bare f g same) h.ranks;
}

pub same_order : (f g : Flat) (word : Option Text) (clock : Option ℕ) (rising : Bool) (steps : List Step) → IsSameFlat f g → Ordered f word clock rising steps → Ordered g word clock rising steps
same_order f g word clock rising steps same h = record {
  one_clock = one_clock f g same word clock rising h.one_clock;
  each = λ i l. moved (agree (λ (x : Flat). IsStep x (step_at steps i)) (λ x. IsStep-bare x (step_at steps i)) f g same) (h.each i l);
  all = λ s k. h.all s (moved (sym (agree (λ (x : Flat). IsStep x s) (λ x. IsStep-bare x s) f g same)) k);
  once = h.once;
  after = λ i j l m b w n.
      h.after i j l m b (moved (sym (λ k. agree (λ (x : Flat). StepWrites x (step_at steps i)) (λ x. StepWrites-bare x (step_at steps i)) f g same k b)) w)
      (moved (sym (λ k. agree (λ (x : Flat). StepNames x (step_at steps j)) (λ x. StepNames-bare x (step_at steps j)) f g same k b)) n);
}
