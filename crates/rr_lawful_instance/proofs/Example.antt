-- A design with a guard, an overwrite and a literal, so that what the laws ask is met with sites of each kind:
--     module m(input c, input a, output reg q, output y);
--       assign y = q ? a : q;
--       always @(posedge c) if (a) q <= 1'b1;
--     endmodule
use Rattle.std.proofs.Common.{◌≡◌, ◌⊎◌, inl, inr, ℕ, zero, suc, ◌<◌, ◌≤◌, Bool, true, false, List, [], ◌∷◌, length, Some, None, Ok, refl, sym, subst, ap, ◌∙◌, arith, ◌||◌, get_or}
use Rattle.std.specs.List.{All, AllByRecursion}
use Rattle.std.proofs.lemmas.Bool.{both_ways}
use Rattle.std.proofs.lemmas.List.Elements.{All-from_recursion}
use Rattle.rr_syntax.specs.Expressions.{is_target}
use Rattle.rr_expr.specs.declared.types.Bit.{Bit}
use Rattle.rr_flat.specs.Clocks.{Leads, itself, through, NameLeads, is_among, free_edge, RunsOn, OneClock}
use Rattle.rr_flat.specs.Lawful.{NoClockIn, DriverWithout, ClockUnread, MayDrive, MayAssign, DriverTarget, BlockTargets, RightTargets, RightLabels, labels_fit, OneWriter, AssignedIn, AssignedSomewhere, RightKinds, Lawful}
use Rattle.rr_flat.specs.Reads.{Assigned, names_in, names_of, assigned_by, assigned_parts, writes}
use Rattle.rr_flat.specs.Targets.{same_bit, has_bit, bits_there, target_bits, target_parts, part_name, is_fixed, may_write}
use Rattle.rr_flat.proofs.Bits.{same_is}
use Rattle.rr_flat.specs.Writers.{scope_at, driver_at, block_at, driven_by, driven, writes_at_all, SideReads, side_is_wiring, is_wiring, DriverNames, BitNames, Writer, Driven, Clocked, Combinational, Writes}
use Rattle.rr_syntax.specs.declared.tree.Dir.{Dir}
use Rattle.rr_syntax.specs.declared.tree.Dir.TheVariants as dir
use Rattle.rr_syntax.specs.declared.token.Number.{Number}
use Rattle.rr_syntax.specs.Tree.{Tree, Name, Literal, Cond, Statement, If, Assign, PortDeclaration, EdgeEvent, Edges, Assigns, Always, ModuleDeclaration, SourceText}
use Rattle.rr_expr.specs.Scopes.{Names, meant, lookup}
use Rattle.rr_expr.specs.declared.types.Entity.TheVariants as entity
use Rattle.rr_flat.specs.declared.signal.Port.{Port}
use Rattle.rr_flat.specs.declared.signal.Port.TheVariants.{Input, Output}
use Rattle.rr_flat.specs.Signals.{Text, Signal}
use Rattle.rr_declarations.specs.Declarations.{brackets, declarations}
use Rattle.rr_flat.specs.Faults.{each}
use Rattle.rr_declarations.specs.Heads.{declared, declared_in_order, head, joined, numbered, with_signals}
use Rattle.rr_declarations.specs.Parameters.{parameters}
use Rattle.rr_expr.specs.Reading.{NamesBit}
use Rattle.rr_flat.specs.declared.design.Step.{Step}
use Rattle.rr_flat.specs.declared.design.Step.TheVariants as step
use Rattle.rr_flat.specs.Ordered.{IsStep, StepWrites, StepNames, step_at, Ordered}
use Rattle.rr_choice.specs.Sites as sites
use Rattle.rr_choice.specs.Sites.{Site}
use Rattle.rr_lawful_instance.specs.AreSites.{MayGuard, MayGuardElsewhere, IsClock, IsTargetOf}
use Rattle.rr_lawful_instance.specs.Listed.{IsRight, AreRight, StandsIn, item_at, item_start, items_before}
use Rattle.rr_flat_instance.specs.Owned.{start_of, InEach, IsFree, IsNumberAt}
use Rattle.rr_flat_instance.specs.Places.{HasWidth}
use Rattle.rr_syntax.specs.Items as S
use Rattle.rr_syntax.specs.Expressions as E
use Rattle.rr_syntax.specs.Statements as St
use Rattle.rr_syntax.specs.Items.{spell_item, spell_parameters, spell_ports, WellFormedSource, NumberedSource}
use Rattle.rr_lawful_instance.specs.Laws.{LawsAreMet}
use Rattle.rr_lawful_instance.proofs.Lists.{holds_of}
use Rattle.rr_flat.specs.declared.design.Part.TheVariants as part
use Rattle.rr_flat.specs.Plain.{Written, Whole, Flat}
use Rattle.rr_flatten.specs.Tables.{add_module, instantiated_by, last_free}
use Rattle.rr_flatten.specs.Tables as T
use Rattle.rr_flat.specs.Shapes as Sh
use Rattle.rr_flatten.specs.Walk as W
use Rattle.rr_loop_rules.specs.Rules as R
use Rattle.rr_loop_names.specs.Turns as L
use Rattle.rr_unfold.specs.Unfold as U
use Rattle.rr_declarations.specs.Parameters as P
use Rattle.rr_declarations.specs.Declarations as D
use Rattle.rr_declarations.specs.Values as V
use Rattle.rr_declarations.specs.Heads as H
use Rattle.rr_expr.specs.Faults as F
use Rattle.rr_expr.specs.Values as X
use Rattle.rr_bits.specs.Words.{number, tabulate, word}
use Rattle.rr_flatten.specs.Walk.{begin, enter, enter_by, flat_by, flat_of, reached_from, top_ports}

abbrev c : Text
c = 99 ∷ []

abbrev a : Text
a = 97 ∷ []

abbrev q : Text
q = 113 ∷ []

abbrev y : Text
y = 121 ∷ []

abbrev one : Number
one = record { width = 1; signed = false; value = 1; any = 0; unknown = 0 }

abbrev port : Dir → ℕ → Text → PortDeclaration
port d token name = record { dir = d; signed = false; range = None; names = record { token = token; text = name; words = None; value = None } ∷ [] }

abbrev value : Tree
value = Cond (Name 20 q) (Name 22 a) (Name 24 q)

abbrev body : Statement
body = If (Name 34 a) (Assign (Name 36 q) false (Literal 38 one))

abbrev edge : EdgeEvent
edge = record { rising = true; text = c; token = 30 }

abbrev the_module : ModuleDeclaration
the_module = record {
  text = 109 ∷ [];
  token = 1;
  params = [];
  header = Some [];
  groups = port dir.Input 4 c ∷ port dir.Input 7 a ∷ port dir.OutputReg 11 q ∷ port dir.Output 14 y ∷ [];
  items = Assigns (record { target = Name 18 y; value = value } ∷ []) ∷ Always (Edges (edge ∷ []) []) body 26 ∷ [];
}

abbrev source : SourceText
source = record { modules = the_module ∷ [] }

abbrev signal : Text → Bool → Port → ℕ → Signal
signal name variable p token = record { instance = 0; name = name; variable = variable; port = p; range = None; signed = false; width = 1; token = token; start = 0; word = None }

abbrev scope : Names
scope = (c, entity.Signal 0 None false) ∷ (a, entity.Signal 1 None false) ∷ (q, entity.Signal 2 None false) ∷ (y, entity.Signal 3 None false) ∷ []

abbrev flat : Flat
flat = record {
  top = 1;
  signals = signal c false Input 4 ∷ signal a false Input 7 ∷ signal q true Output 11 ∷ signal y false Output 14 ∷ [];
  starts = 0 ∷ 0 ∷ 0 ∷ 0 ∷ [];
  scopes = scope ∷ [];
  drivers = record { target = Written (Name 18 y) 0; value = Written value 0; token = 18 } ∷ [];
  clocked = record { body = body; edges = edge ∷ []; scope = 0; token = 26 } ∷ [];
  combinational = [];
  initials = [];
  walk = part.Driver 0 ∷ part.Clocked 0 ∷ [];
  inputs = 0 ∷ 1 ∷ [];
  outputs = 2 ∷ 3 ∷ [];
  owners = 0 ∷ [];
  reached = 0 ∷ [];
}

elaborated : flat_of source None ≡ Ok flat
unfolding flat_by each add_module lookup last_free instantiated_by enter enter_by begin head parameters declared brackets declarations numbered joined declared_in_order with_signals top_ports reached_from T.instantiated_by_item P.add_item_parameters D.declare_ports V.range_in D.declare D.declare_new D.know_ports D.declare_item D.know_item D.known D.know_port_item H.with_inner H.with_ports H.with_port W.item W.assign Sh.shape F.fault meant W.always W.event_faults W.edges_faults Sh.statement_faults number tabulate word X.form X.value X.widths F.first R.loop_names R.loops_of_item R.loops_in R.integers_of_item R.strays R.target_strays R.loop_faults L.turned L.put_tree L.put_target U.counted U.unfold_statement
elaborated = refl

-- The design is lawful

at_first : (P : ℕ → Type 0) → P 0 → (k : ℕ) → k < 1 → P k
at_first P p zero l = p
at_first P p (suc k) l = absurd (omega (arith, l))

name_c : meant scope c ≡ entity.Signal 0 None false
unfolding meant lookup
name_c = refl

name_a : meant scope a ≡ entity.Signal 1 None false
unfolding meant lookup
name_a = refl

name_q : meant scope q ≡ entity.Signal 2 None false
unfolding meant lookup
name_q = refl

name_y : meant scope y ≡ entity.Signal 3 None false
unfolding meant lookup
name_y = refl

leads_itself : (clock id : ℕ) → Leads flat clock id → id ≡ clock
leads_itself clock id itself = refl
leads_itself clock id (through k n d h) = absurd (no_port k d.inside id d.target)
  where
    no_port : (k : ℕ) → k < 1 → (id : ℕ) → (driver_at flat k).target ≡ Whole id → ⊥
    no_port zero l id t = cc
    no_port (suc k) l id t = absurd (omega (arith, l))

clock_is : (clock : ℕ) → NameLeads flat clock 0 c → clock ≡ 0
clock_is clock (n, (signed, (h, l))) =
    let e : n ≡ clock = leads_itself clock n l in
    let p : entity.Signal 0 None false ≡ entity.Signal n None signed = sym name_c ∙ h in
    let z : 0 ≡ n = cc in
    omega (arith, e, z)

no_clock : (name : Text) (id clock : ℕ) → meant scope name ≡ entity.Signal (suc id) None false → NameLeads flat clock 0 c → NameLeads flat clock 0 name → ⊥
no_clock name id clock m k (n, (signed, (h, l))) =
    let z : clock ≡ 0 = clock_is clock k in
    let e : n ≡ clock = leads_itself clock n l in
    let p : entity.Signal (suc id) None false ≡ entity.Signal n None signed = sym m ∙ h in
    let s : suc id ≡ n = cc in
    absurd (omega (arith, z, e, s))

c_leads : NameLeads flat 0 0 c
c_leads = (0, (false, (name_c, itself)))

no_clock_a : NameLeads flat 0 0 a → ⊥
no_clock_a = no_clock a 0 0 name_a c_leads

no_clock_q : NameLeads flat 0 0 q → ⊥
no_clock_q = no_clock q 1 0 name_q c_leads

no_clock_y : NameLeads flat 0 0 y → ⊥
no_clock_y = no_clock y 2 0 name_y c_leads

one_clock : OneClock flat None (Some 0) true
unfolding free_edge is_among names_of names_in
one_clock = record {
  chosen = (((0, (omega arith, refl)), refl), (0, (false, (name_c, itself))));
  direction = record { place = 0; inside = omega arith; leads = (0, (false, (name_c, itself))); direction = refl; first = λ j l k. absurd (omega (arith, l)) };
  all = at_first (λ k. RunsOn flat 0 true (block_at flat.clocked k)) (0, (omega arith, refl, (0, (false, (name_c, itself)))));
}

unread : ClockUnread flat 0
unfolding names_of names_in
unread = record {
  drivers = at_first (λ k. DriverWithout flat 0 (driver_at flat k)) (each_y, inr each_value);
  clocked = at_first (λ k. NoClockIn flat 0 (block_at flat.clocked k).scope (names_of (block_at flat.clocked k).body)) each_body;
  combinational = λ k l. absurd (omega (arith, l));
}
  where
    each_y : NoClockIn flat 0 0 (record { token = 18; text = y } ∷ [])
    each_y = All-from_recursion (λ n. NameLeads flat 0 0 n.text → ⊥) (record { token = 18; text = y } ∷ []) (no_clock_y, tt)

    each_value : NoClockIn flat 0 0 (record { token = 20; text = q } ∷ record { token = 22; text = a } ∷ record { token = 24; text = q } ∷ [])
    each_value = All-from_recursion (λ n. NameLeads flat 0 0 n.text → ⊥) (record { token = 20; text = q } ∷ record { token = 22; text = a } ∷ record { token = 24; text = q } ∷ []) (no_clock_q, (no_clock_a, (no_clock_q, tt)))

    each_body : NoClockIn flat 0 0 (record { token = 34; text = a } ∷ record { token = 36; text = q } ∷ [])
    each_body = All-from_recursion (λ n. NameLeads flat 0 0 n.text → ⊥) (record { token = 34; text = a } ∷ record { token = 36; text = q } ∷ []) (no_clock_a, (no_clock_q, tt))

targets : RightTargets flat
unfolding is_target target_parts assigned_by assigned_parts
targets = record {
  drivers = at_first (λ k. DriverTarget flat (driver_at flat k).target (driver_at flat k).value)
      (refl, All-from_recursion (λ p. MayDrive flat (meant scope (part_name p)) (is_fixed scope p)) (Name 18 y ∷ []) (rw name_y (refl, (λ e. cc), refl), tt));
  clocked = at_first (λ k. BlockTargets flat (block_at flat.clocked k))
      (All-from_recursion (λ p. MayAssign flat (meant scope (part_name p.part))) (record { part = Name 36 q; now = false } ∷ []) (rw name_q (refl, (λ e. cc)), tt));
  combinational = λ k l. absurd (omega (arith, l));
  initials = λ k l. absurd (omega (arith, l));
}

labels : RightLabels flat
unfolding labels_fit
labels = record { clocked = at_first (λ k. labels_fit (block_at flat.clocked k).body ≡ true) refl; combinational = λ k l. absurd (omega (arith, l)) }

-- the driver writes y, the block q

abbrev bit : ℕ → Bit
bit s = record { signal = s; place = 0 }

driven_is : driven flat 0 ≡ Some (bit 3) ∷ []
unfolding driven_by target_bits bits_there meant lookup
driven_is = refl

block_writes : (b : Bit) → writes_at_all flat (block_at flat.clocked 0) b ≡ (same_bit (bit 2) b || false)
unfolding writes target_bits target_parts may_write bits_there has_bit meant lookup
block_writes b = or_nothing (same_bit (bit 2) b || false)
  where
    or_nothing : (x : Bool) → (x || false) ≡ x
    or_nothing true = refl
    or_nothing false = refl

abbrev Wrote : Writer → Bit → Type 0
Wrote x b = ((x ≡ Driven 0 0) × (b ≡ bit 3)) ⊎ ((x ≡ Clocked 0) × (b ≡ bit 2))

same_bits : (b d : Bit) → Some b ≡ Some d → d ≡ b
same_bits b d e = cc

only_place : (i : ℕ) (b d : Bit) → get_or (Some b ∷ []) i None ≡ Some d → (i ≡ 0) × (d ≡ b)
only_place zero b d e = (refl, same_bits b d e)
only_place (suc i) b d e = absurd (let bad : None ≡ Some d = e in cc)

wrote : (x : Writer) (b : Bit) → Writes flat x b → Wrote x b
unfolding Writes
wrote (Driven zero i) b (l, w) = let p = only_place i (bit 3) b (subst (λ bits. get_or bits i None ≡ Some b) driven_is w) in inl (ap (Driven 0) p.0, p.1)
wrote (Driven (suc k) i) b (l, w) = absurd (omega (arith, l))
wrote (Clocked zero) b (l, w) = inr (refl, sym (same_is (bit 2) b (of_two (same_bit (bit 2) b) (sym (block_writes b) ∙ w))))
  where
    of_two : (x : Bool) → (x || false) ≡ true → x ≡ true
    of_two true e = refl
    of_two false e = e
wrote (Clocked (suc k)) b (l, w) = absurd (omega (arith, l))
wrote (Combinational k) b (l, w) = absurd (omega (arith, l))

apart : (b : Bit) → b ≡ bit 3 → b ≡ bit 2 → ⊥
apart b e f = let s : 3 ≡ 2 = ap (λ (d : Bit). d.signal) (sym e ∙ f) in omega (arith, s)

one_writer : OneWriter flat
one_writer x z b w v = by (wrote x b w) (wrote z b v)
  where
    by : Wrote x b → Wrote z b → x ≡ z
    by (inl p) (inl r) = p.0 ∙ sym r.0
    by (inl p) (inr r) = absurd (apart b p.1 r.1)
    by (inr p) (inl r) = absurd (apart b r.1 p.1)
    by (inr p) (inr r) = p.0 ∙ sym r.0

-- nothing is assigned at once
assigns_later : AllByRecursion (λ (d : Assigned). d.now ≡ false) (assigned_by body)
unfolding assigned_by target_parts assigned_parts
assigns_later = (refl, tt)

not_now : (id k : ℕ) → k < 1 → AssignedIn flat (block_at flat.clocked k) id true → ⊥
not_now id zero l (i, (d, (h, e, n, m))) = both_ways d.now (holds_of (λ (d : Assigned). d.now ≡ false) (assigned_by body) d assigns_later (i, h, e)) n
not_now id (suc k) l s = absurd (omega (arith, l))

kinds : RightKinds flat
kinds = record {
  combinational = λ k l. absurd (omega (arith, l));
  one = λ id p r. by id p;
}
  where
    by : (id : ℕ) → AssignedSomewhere flat id true → ⊥
    by id (inl (k, (l, s))) = not_now id k l s
    by id (inr (k, (l, s))) = omega (arith, l)

-- y stands on q and a
value_names : (d : Bit) → NamesBit scope value d → d.signal < 3
unfolding NamesBit
value_names d (inl n) = let m = rw name_q at n in let e : d.signal ≡ 2 = m.0 in omega (arith, e)
value_names d (inr (inl n)) = let m = rw name_a at n in let e : d.signal ≡ 1 = m.0 in omega (arith, e)
value_names d (inr (inr n)) = let m = rw name_q at n in let e : d.signal ≡ 2 = m.0 in omega (arith, e)

driver_below : (k i : ℕ) (b d : Bit) → Writes flat (Driven k i) b → DriverNames flat k i d → d.signal < b.signal
unfolding Writes side_is_wiring is_wiring SideReads
driver_below zero i b d w n =
    let p = only_place i (bit 3) b (subst (λ bits. get_or bits i None ≡ Some b) driven_is w.1) in
    let e : b.signal ≡ 3 = ap (λ (u : Bit). u.signal) p.1 in
    let l = value_names d n in
    omega (arith, e, l)
driver_below (suc k) i b d w n = absurd (omega (arith, w.0))

names_below : (b d : Bit) → BitNames flat b d → d.signal < b.signal
unfolding Writes
names_below b d (inl (k, (i, (w, n)))) = driver_below k i b d w n
names_below b d (inr (k, (w, n))) = absurd (omega (arith, w.0))

lawful : Lawful flat None
lawful = record {
  named = tt;
  targets = targets;
  labels = labels;
  clock = Some 0;
  rising = true;
  one_clock = one_clock;
  unread = unread;
  one_writer = one_writer;
  kinds = kinds;
  no_race = λ j k lj lk id s i n l e m. absurd (not_now id j lj s);
  no_latches = λ k l. absurd (omega (arith, l));
  ranks = (λ b. b.signal, names_below);
}

-- its only step is the driver

only_step : (s : Step) → IsStep flat s → s ≡ step.Driver 0
unfolding IsStep side_is_wiring is_wiring
only_step (step.Driver zero) h = refl
only_step (step.Driver (suc k)) h = absurd (omega (arith, h.0))
only_step (step.Wire zero i) h = absurd (both_ways false refl h.1)
only_step (step.Wire (suc k) i) h = absurd (omega (arith, h.0))
only_step (step.Block k) h = absurd (omega (arith, h))

first_step : IsStep flat (step.Driver 0)
unfolding IsStep side_is_wiring is_wiring
first_step = (omega arith, refl)

not_itself : (b : Bit) → StepWrites flat (step.Driver 0) b → StepNames flat (step.Driver 0) b → ⊥
unfolding StepWrites StepNames Writes side_is_wiring is_wiring SideReads
not_itself b (i, w) n =
    let p = only_place i (bit 3) b (subst (λ bits. get_or bits i None ≡ Some b) driven_is w.1) in
    let e : b.signal ≡ 3 = ap (λ (u : Bit). u.signal) p.1 in
    let l = value_names b n in
    omega (arith, e, l)

ordered : Ordered flat None (Some 0) true (step.Driver 0 ∷ [])
ordered = record {
  one_clock = one_clock;
  each = at_first (λ i. IsStep flat (step_at (step.Driver 0 ∷ []) i)) first_step;
  all = λ s h. (0, (omega arith, sym (only_step s h)));
  once = λ i j l m e. let a = one_place i l in let b = one_place j m in omega (arith, a, b);
  after = λ i j l m b w n. absurd (at_first (λ i. StepWrites flat (step_at (step.Driver 0 ∷ []) i) b → ⊥)
      (λ w. at_first (λ j. StepNames flat (step_at (step.Driver 0 ∷ []) j) b → ⊥) (λ n. not_itself b w n) j m n) i l w);
}
  where
    one_place : (i : ℕ) → i < 1 → i ≡ 0
    one_place i l = omega (arith, l)

-- Its sites

abbrev the_sites : List Site
the_sites =
    record { kind = sites.Guard 0 1 (q ∷ []); token = 20 }
    ∷ record { kind = sites.Overwrite 0 q 1 false (a ∷ q ∷ []); token = 32 }
    ∷ record { kind = sites.Guard 0 1 (a ∷ q ∷ []); token = 34 }
    ∷ record { kind = sites.Literal 1 false; token = 38 }
    ∷ []

-- the clock is that of the edge
decided : (clock : ℕ) → IsClock flat None clock → NameLeads flat clock 0 c
unfolding free_edge is_among names_of names_in
decided clock (rising, o) = o.chosen.1

a_may : MayGuard flat None 0 a
a_may = record { signal = 1; signed = false; scalar = name_a; no_clock = λ id h l. no_clock a 0 id name_a (decided id h) l; not_now = not_now 1 }

q_may : MayGuard flat None 0 q
q_may = record { signal = 2; signed = false; scalar = name_q; no_clock = λ id h l. no_clock q 1 id name_q (decided id h) l; not_now = not_now 2 }

q_is_register : MayGuardElsewhere flat None 0 q
unfolding writes target_bits target_parts may_write bits_there has_bit meant lookup q_may
q_is_register = record { guard = q_may; register = (0, (omega arith, refl)) }

-- where the items stand
start_0 : item_start source.modules 0 0 ≡ 17
unfolding start_of items_before spell_ports spell_parameters spell_item S.spell_separated S.spell_each S.spell_value S.spell_declarator S.spell_pair S.spell_port S.spell_dir S.spell_type S.spell_where S.spell_range S.spell_identifier S.spell_events S.spell_edges S.spell_edge S.spell_more_edges E.spell St.spell_statement
start_0 = refl

start_1 : item_start source.modules 0 1 ≡ 26
unfolding start_of items_before spell_ports spell_parameters spell_item S.spell_separated S.spell_each S.spell_value S.spell_declarator S.spell_pair S.spell_port S.spell_dir S.spell_type S.spell_where S.spell_range S.spell_identifier S.spell_events S.spell_edges S.spell_edge S.spell_more_edges E.spell St.spell_statement
start_1 = refl

long_0 : length (spell_item (item_at source.modules 0 0)) ≡ 9
unfolding spell_ports spell_parameters spell_item S.spell_separated S.spell_each S.spell_value S.spell_declarator S.spell_pair S.spell_port S.spell_dir S.spell_type S.spell_where S.spell_range S.spell_identifier S.spell_events S.spell_edges S.spell_edge S.spell_more_edges E.spell St.spell_statement
long_0 = refl

long_1 : length (spell_item (item_at source.modules 0 1)) ≡ 14
unfolding spell_ports spell_parameters spell_item S.spell_separated S.spell_each S.spell_value S.spell_declarator S.spell_pair S.spell_port S.spell_dir S.spell_type S.spell_where S.spell_range S.spell_identifier S.spell_events S.spell_edges S.spell_edge S.spell_more_edges E.spell St.spell_statement
long_1 = refl

in_assign : (token : ℕ) → 17 ≤ token → token < 26 → StandsIn source.modules 0 0 token
in_assign token l h = record { there = omega arith; after = omega (arith, start_0, l); before = omega (arith, start_0, long_0, h) }

in_always : (token : ℕ) → 26 ≤ token → token < 40 → StandsIn source.modules 0 1 token
in_always token l h = record { there = omega arith; after = omega (arith, start_1, l); before = omega (arith, start_1, long_1, h) }

q_stands : IsTargetOf body q false
unfolding assigned_by target_parts assigned_parts
q_stands = (36, (0, omega arith, refl))

formed : WellFormedSource source
unfolding WellFormedSource S.WellFormedModule S.WellFormedPort S.WellFormedRange S.WellFormedValue S.WellFormedDeclarator S.MayStart S.WellFormedItem S.WellFormedPair S.WellFormedEvents E.WellFormed is_target E.level E.infix_level E.is_prefix St.WellFormedStatement
formed = (
  (
    tt,
    inl refl,
    (
      (tt, omega arith, ((tt, tt), tt), (refl, tt), (refl, tt)),
      ((tt, omega arith, ((tt, tt), tt), (refl, tt), (refl, tt)), ((tt, omega arith, ((tt, tt), tt), (tt, tt), (refl, tt)), ((tt, omega arith, ((tt, tt), tt), (refl, tt), (refl, tt)), tt))),
    ),
    ((omega arith, ((refl, tt, (tt, tt, tt, omega arith)), tt)), ((refl, (tt, (refl, tt, tt))), tt)),
  ),
  tt,
)

tokens : NumberedSource source
unfolding NumberedSource S.NumberedAll S.NumberedModule S.NumberedParameters S.NumberedPorts S.NumberedPort S.NumberedType S.NumberedRange S.NumberedSeparated S.NumberedEach S.NumberedValue S.NumberedDeclarator S.NumberedIdentifier S.NumberedItem S.NumberedPair S.NumberedEvents S.NumberedEdge E.Numbered St.NumberedStatement spell_ports spell_parameters spell_item S.spell_separated S.spell_each S.spell_value S.spell_declarator S.spell_pair S.spell_port S.spell_dir S.spell_type S.spell_where S.spell_range S.spell_identifier S.spell_events S.spell_edges S.spell_edge S.spell_more_edges E.spell St.spell_statement
tokens = (
  (
    refl,
    tt,
    (tt, ((tt, ((refl, tt, tt), tt)), ((tt, ((refl, tt, tt), tt)), ((tt, ((refl, tt, tt), tt)), ((tt, ((refl, tt, tt), tt)), tt))))),
    (((refl, (refl, refl, refl)), tt), ((refl, (refl, tt), (refl, (refl, refl))), tt)),
  ),
  tt,
)

-- its literal is the number at its token
number_there : IsNumberAt (S.spell_source source) 38 1 false
unfolding S.spell_source S.spell_all S.spell_module spell_ports spell_parameters spell_item S.spell_separated S.spell_each S.spell_value S.spell_declarator S.spell_pair S.spell_port S.spell_dir S.spell_type S.spell_where S.spell_range S.spell_identifier S.spell_events S.spell_edges S.spell_edge S.spell_more_edges E.spell St.spell_statement
number_there = record { number = one; there = refl; width = refl; signed = refl; known = refl }

-- it has no loops
free_q : IsFree source.modules 0 q
unfolding R.loop_names R.integers_of_item
free_q = refl

right : AreRight source flat None the_sites
right = record {
  formed = formed;
  numbered = tokens;
  each = (first_guard, ((overwrite, width), (second_guard, (number_there, tt))));
}
  where
    first_guard : IsRight source flat None 0 20 (sites.Guard 0 1 (q ∷ []))
    first_guard = record {
      item = 0;
      stands = in_assign 20 (omega arith) (omega arith);
      names = λ i l o. at_first (λ i. All (MayGuardElsewhere flat None i) (q ∷ [])) (All-from_recursion (MayGuardElsewhere flat None 0) (q ∷ []) (q_is_register, tt)) i l;
      target = tt;
    }

    overwrite : IsRight source flat None 0 32 (sites.Overwrite 0 q 1 false (a ∷ q ∷ []))
    overwrite = record {
      item = 1;
      stands = in_always 32 (omega arith) (omega arith);
      names = λ i l o. at_first (λ i. All (MayGuard flat None i) (a ∷ q ∷ [])) (All-from_recursion (MayGuard flat None 0) (a ∷ q ∷ []) (a_may, (q_may, tt))) i l;
      target = q_stands;
    }

    second_guard : IsRight source flat None 0 34 (sites.Guard 0 1 (a ∷ q ∷ []))
    second_guard = record {
      item = 1;
      stands = in_always 34 (omega arith) (omega arith);
      names = λ i l o. at_first (λ i. All (MayGuard flat None i) (a ∷ q ∷ [])) (All-from_recursion (MayGuard flat None 0) (a ∷ q ∷ []) (a_may, (q_may, tt))) i l;
      target = tt;
    }

    width : InEach flat 0 (λ names. HasWidth names q 1 × IsFree source.modules 0 q)
    width = λ i l o. at_first (λ i. HasWidth (scope_at flat i) q 1 × IsFree source.modules 0 q) (record { shape = rw name_q refl; width = refl; single = rw name_q refl }, free_q) i l

pub met : LawsAreMet
met = (source, (None, (flat, (None, (Some 0, (true, (step.Driver 0 ∷ [], (the_sites, (elaborated, lawful, ordered, right, (refl, refl, refl))))))))))
