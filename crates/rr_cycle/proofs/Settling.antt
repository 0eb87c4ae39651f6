-- performing the steps of a lawful design in their order settles an environment
use Rattle.std.proofs.Common.{◌≡◌, ℕ, zero, suc, ◌≤◌, ◌<◌, max, List, [], ◌∷◌, ◌++◌, length, get_or, drop, drop-cons, refl, ap, ◌∙◌, sym, arith, Bool, true, false, ◌&&◌, ◌||◌, nat_eq, nat_lt, Option, Some, None, ◌⊎◌, inl, inr, length-append, subst, pos}
use mathlib.Core.Path.{fun_ext}
use Rattle.std.proofs.lemmas.Bool.{and_parts, both_ways, cases_eq, cases_Bool, or_cases, eqb-true, eq-eqb, and_from, lt-ltb, ltb-true}
use Rattle.std.specs.List.{AllByRecursion}
use Rattle.std.proofs.lemmas.List.Elements.{recursion_from_All}
use Rattle.rr_syntax.specs.Tree.{Tree, Trees, Name, Literal, Bit as BitSelect, Part, Indexed, Unary, Binary, Cond, Concat, Repeat, Cast, Paren, End, More, Statement, Statements, Arm, Arms, Null, Block as Sequence, If, IfElse, Case, Assign, For, Done, Then, CaseItem, NoArms, MoreArms}
use Rattle.rr_expr.specs.declared.types.Bit.{Bit}
use Rattle.rr_expr.specs.Faults.{constant_count, constant_span}
use Rattle.rr_expr.specs.Scopes.{Names, meant, entity_shape, entity_range}
use Rattle.rr_expr.specs.Selects.{place, lowest_place, integer_with}
use Rattle.rr_expr.specs.Values.{form, widths, value, nowhere}
use Rattle.rr_expr.proofs.NamedBits.{value_by_named_bits}
use Rattle.rr_flat.specs.Signals.{signal_at}
use Rattle.rr_flat.specs.declared.design.Step.{Step}
use Rattle.rr_flat.specs.declared.design.Step.TheVariants.{Driver, Wire, Block}
use Rattle.rr_flat.specs.Lawful.{Lawful}
use Rattle.rr_flat.specs.Ordered.{Ordered, IsStep, StepWrites, StepNames, step_at}
use Rattle.rr_flat.specs.Plain.{Side, Written, Whole, Flat}
use Rattle.rr_flat.specs.Plain as plain
use Rattle.rr_flat.specs.Reads.{Assigned, writes, write_any, arm_writes, arms_write, assigned_by, assigned_by_all, assigned_by_arm, assigned_by_arms, assigned_parts}
use Rattle.rr_flat.specs.Targets.{has_bit, target_bits, targets_bits, target_parts, may_write}
use Rattle.rr_flat.specs.Writers.{scope_at, driver_at, block_at, driven, driven_by, entity_of_signal, SideReads, Writer, Driven, Clocked, Combinational, Writes, writes_now, writes_later, writes_at_all, wires, side_is_wiring, side_taken, side_signed, taken_at, NamesIf}
use Rattle.rr_cycle.specs.Cycles.{driver_value, side_shape, side_value, given, beginning, IsInputBit, Settled}
use Rattle.rr_flat.specs.Inputs.{row_inputs}
use Rattle.rr_cycle.specs.Exec.{Environment, write}
use Rattle.rr_cycle.specs.Performing.{act, performed, any_writes, any_is, base}
use Rattle.rr_cycle.proofs.Local.{outside, statement_local}
use Rattle.rr_cycle.proofs.Orders.{Steps, performed as steps_done, untouched, settles}
use Rattle.rr_cycle.proofs.TargetBits.{Agree}
use Rattle.rr_cycle.proofs.Wiring.{side_bit}
use Rattle.rr_cycle.proofs.Writes.{write_agree, write_outside, write_there}
use Rattle.rr_flat.proofs.Bits.{cases_place, missed, or_left, or_right, has_place, place_has, index_length, there_length}

-- a number below n with a property, or none
pub search_below : (P : ℕ → Type 0) → ((k : ℕ) → P k ⊎ (P k → ⊥)) → (n : ℕ) → ((k : ℕ) × ((k < n) × P k)) ⊎ ((k : ℕ) → k < n → P k → ⊥)
search_below P d zero = inr (λ k l p. omega arith)
search_below P d (suc n) = elim (d n) [
  | inl p ↦ inl (n, (omega arith, p))
  | inr p ↦ elim (search_below P d n) [
    | inl q ↦ inl (q.0, (omega (arith, q.1.0), q.1.1))
    | inr q ↦ inr (λ k l r. elim (cases_eq k n) [ inl e ↦ p (rw e at r) | inr e ↦ q k (omega arith) r ])
  ]
]

pub true_or_not : (x : Bool) → (x ≡ true) ⊎ (x ≡ true → ⊥)
true_or_not true = inl refl
true_or_not false = inr (λ h. both_ways false refl h)

-- a target has no more bits than its width
mutual
  unfolding target_bits form

  pub target_size : (s : Names) (e : Environment) (t : Tree) → length (target_bits s e t) ≤ (form s t).width
  target_size s e (Name token name) = omega (arith, there_length (meant s name) (pos 0) (entity_shape (meant s name)).width)
  target_size s e (Literal token n) = omega arith
  target_size s e (BitSelect token name i) = omega (arith, index_length (meant s name) (integer_with (form s i) (value s i e)))
  target_size s e (Part token name l r) = omega (arith, there_length (meant s name) (place (entity_range (meant s name)) (integer_with (form s r) (value s r nowhere))) (constant_span s l r))
  target_size s e (Indexed token name x n up) = omega (arith, there_length (meant s name) (lowest_place (entity_range (meant s name)) up (integer_with (form s x) (value s x e)) (constant_count s n)) (constant_count s n))
  target_size s e (Unary op t) = omega arith
  target_size s e (Binary op l r) = omega arith
  target_size s e (Cond a b c) = omega arith
  target_size s e (Concat ts) = targets_size s e ts
  target_size s e (Repeat n ts) = omega arith
  target_size s e (Cast signed t) = omega arith
  target_size s e (Paren t) = omega arith

  pub targets_size : (s : Names) (e : Environment) (ts : Trees) → length (targets_bits s e ts) ≤ widths s ts
  targets_size s e End = omega arith
  targets_size s e (More t ts) = omega (arith, length-append (targets_bits s e ts) (target_bits s e t), target_size s e t, targets_size s e ts)

pub driven_size : (flat : Flat) (side : Side) → length (driven_by flat side) ≤ (side_shape flat side).width
unfolding driven_by side_shape
driven_size flat (Written t i) = target_size (scope_at flat i) nowhere t
driven_size flat (Whole id) = omega (arith, there_length (entity_of_signal flat id) (pos 0) (signal_at flat.signals id).width)

place_below : {X : Type 0} → (xs : List (Option X)) (i : ℕ) (x : X) → get_or xs i None ≡ Some x → i < length xs
place_below [] i x h = cc
place_below (y ∷ ys) zero x h = omega arith
place_below (y ∷ ys) (suc i) x h = let l = place_below ys i x h in omega arith

pub split : (xs ys : List Assigned) → AllByRecursion (λ a. a.now ≡ true) (xs ++ ys) → AllByRecursion (λ a. a.now ≡ true) xs × AllByRecursion (λ a. a.now ≡ true) ys
split [] ys h = (tt, h)
split (x ∷ xs) ys h = let p = split xs ys h.1 in ((h.0, p.0), p.1)

pub no_parts : (s : Names) (ts : List Tree) (b : Bit) → AllByRecursion (λ a. a.now ≡ true) (assigned_parts false ts) → may_write s ts b ≡ false
unfolding assigned_parts may_write
no_parts s [] b h = refl
no_parts s (t ∷ ts) b h = absurd (both_ways false refl h.0)

-- where all is assigned at once, nothing is left for later
mutual
  unfolding assigned_by writes

  pub none_later : (s : Names) (t : Statement) (b : Bit) → AllByRecursion (λ a. a.now ≡ true) (assigned_by t) → writes false s t b ≡ false
  none_later s Null b h = refl
  none_later s (Sequence label ss) b h = none_later_all s ss b h
  none_later s (If c t) b h = none_later s t b h
  none_later s (IfElse c t u) b h = let p = split (assigned_by t) (assigned_by u) h in rw (none_later s t b p.0, none_later s u b p.1) refl
  none_later s (Case kind on arms) b h = none_later_arms s arms b h
  none_later s (Assign t true e) b h = refl
  none_later s (Assign t false e) b h = no_parts s (target_parts t) b h
  none_later s (For head t) b h = refl

  none_later_all : (s : Names) (ss : Statements) (b : Bit) → AllByRecursion (λ a. a.now ≡ true) (assigned_by_all ss) → write_any false s ss b ≡ false
  none_later_all s Done b h = refl
  none_later_all s (Then t ts) b h = let p = split (assigned_by t) (assigned_by_all ts) h in rw (none_later s t b p.0, none_later_all s ts b p.1) refl

  none_later_arm : (s : Names) (arm : Arm) (b : Bit) → AllByRecursion (λ a. a.now ≡ true) (assigned_by_arm arm) → arm_writes false s arm b ≡ false
  none_later_arm s (CaseItem labels colon body) b h = none_later s body b h

  none_later_arms : (s : Names) (arms : Arms) (b : Bit) → AllByRecursion (λ a. a.now ≡ true) (assigned_by_arms arms) → arms_write false s arms b ≡ false
  none_later_arms s NoArms b h = refl
  none_later_arms s (MoreArms arm rest) b h = let p = split (assigned_by_arm arm) (assigned_by_arms rest) h in rw (none_later_arm s arm b p.0, none_later_arms s rest b p.1) refl

pub names_false : (x : Bool) (flat : Flat) (k i : ℕ) (c : Bit) → x ≡ false → SideReads flat (driver_at flat k).value c → NamesIf x flat k i c
names_false true flat k i c h r = absurd (both_ways true h refl)
names_false false flat k i c h r = r

pub names_true : (x : Bool) (flat : Flat) (k i : ℕ) (c : Bit) → x ≡ true → taken_at (side_signed flat (driver_at flat k).value) (side_taken flat (driver_at flat k).value) i ≡ Some c → NamesIf x flat k i c
names_true true flat k i c h r = r
names_true false flat k i c h r = absurd (both_ways false refl h)

pub sign_same : (flat : Flat) (side : Side) → side_signed flat side ≡ (side_shape flat side).signed
unfolding side_signed side_shape
sign_same flat (Written t i) = refl
sign_same flat (Whole id) = refl

-- a side that does not wire stands on what it reads
pub side_local : (flat : Flat) (side : Side) (e f : Environment) (w : ℕ) (signed : Bool) → side_is_wiring flat side ≡ false → Agree e f (SideReads flat side) → side_value flat side e w signed ≡ side_value flat side f w signed
unfolding side_is_wiring side_value SideReads
side_local flat (Written t i) e f w signed h a = value_by_named_bits (scope_at flat i) t e f a w signed
side_local flat (Whole id) e f w signed h a = absurd (both_ways true h refl)

abbrev driver_of : Writer → ℕ
driver_of (Driven k i) = k
driver_of (Clocked k) = 0
driver_of (Combinational k) = k

abbrev place_of : Writer → ℕ
place_of (Driven k i) = i
place_of (Clocked k) = 0
place_of (Combinational k) = 0

abbrev kind_of : Writer → ℕ
kind_of (Driven k i) = 1
kind_of (Clocked k) = 2
kind_of (Combinational k) = 3

any_at : (flat : Flat) (blocks : List plain.Block) (k : ℕ) (b : Bit) → k < length blocks → writes_at_all flat (block_at blocks k) b ≡ true → any_writes flat blocks b ≡ true
unfolding any_writes
any_at flat [] k b l h = absurd (omega arith)
any_at flat (x ∷ xs) zero b l h = or_left (writes_at_all flat x b) (any_writes flat xs b) h
any_at flat (x ∷ xs) (suc k) b l h = or_right (writes_at_all flat x b) (any_writes flat xs b) (any_at flat xs k b (omega arith) h)

at_any : (flat : Flat) (blocks : List plain.Block) (b : Bit) → any_writes flat blocks b ≡ true → (k : ℕ) × ((k < length blocks) × (writes_at_all flat (block_at blocks k) b ≡ true))
unfolding any_writes
at_any flat [] b h = absurd (both_ways false refl h)
at_any flat (x ∷ xs) b h = elim (or_cases (writes_at_all flat x b) (any_writes flat xs b) h) [
  | inl i ↦ (0, (omega arith, i))
  | inr i ↦ let r = at_any flat xs b i in (suc r.0, (omega (arith, r.1.0), r.1.1))
]

is_at : (ms : List ℕ) (k n : ℕ) → k < length ms → get_or ms k 0 ≡ n → any_is ms n ≡ true
unfolding any_is
is_at [] k n l h = absurd (omega arith)
is_at (m ∷ ms) zero n l h = or_left (nat_eq m n) (any_is ms n) (eq-eqb m n h)
is_at (m ∷ ms) (suc k) n l h = or_right (nat_eq m n) (any_is ms n) (is_at ms k n (omega arith) h)

at_is : (ms : List ℕ) (n : ℕ) → any_is ms n ≡ true → (k : ℕ) × ((k < length ms) × (get_or ms k 0 ≡ n))
unfolding any_is
at_is [] n h = absurd (both_ways false refl h)
at_is (m ∷ ms) n h = elim (or_cases (nat_eq m n) (any_is ms n) h) [
  | inl i ↦ (0, (omega arith, eqb-true m n i))
  | inr i ↦ let r = at_is ms n i in (suc r.0, (omega (arith, r.1.0), r.1.1))
]

abbrev input_test : Flat → Bit → Bool
input_test flat b = any_is flat.inputs b.signal && nat_lt b.place (signal_at flat.signals b.signal).width

tested_input : (flat : Flat) (b : Bit) → input_test flat b ≡ true → IsInputBit flat b
tested_input flat b h =
    let p = and_parts (any_is flat.inputs b.signal) (nat_lt b.place (signal_at flat.signals b.signal).width) h in
    (at_is flat.inputs b.signal p.0, ltb-true b.place (signal_at flat.signals b.signal).width p.1)

input_tested : (flat : Flat) (b : Bit) → IsInputBit flat b → input_test flat b ≡ true
input_tested flat b h = and_from (any_is flat.inputs b.signal) (nat_lt b.place (signal_at flat.signals b.signal).width) (is_at flat.inputs h.0.0 b.signal h.0.1.0 h.0.1.1) (lt-ltb b.place (signal_at flat.signals b.signal).width h.1)

no_writes : (flat : Flat) (b : Bit) → ((k : ℕ) → Writes flat (Clocked k) b → ⊥) → any_writes flat flat.clocked b ≡ false
unfolding Writes
no_writes flat b h = missed (any_writes flat flat.clocked b) (λ t. let r = at_any flat flat.clocked b t in h r.0 r.1)

base_register : (flat : Flat) (clock : Option ℕ) (state : Environment) (row : List ℕ) (k : ℕ) (b : Bit) → Writes flat (Clocked k) b → base flat clock state row b ≡ state b
unfolding Writes base
base_register flat clock state row k b w = rw (any_at flat flat.clocked k b w.0 w.1) refl

base_input : (flat : Flat) (clock : Option ℕ) (state : Environment) (row : List ℕ) (b : Bit) → IsInputBit flat b → ((n : ℕ) → Writes flat (Clocked n) b → ⊥) → base flat clock state row b ≡ given (row_inputs clock flat.inputs) row b
unfolding base
base_input flat clock state row b i n = rw (no_writes flat b n, input_tested flat b i) refl

base_rest : (flat : Flat) (clock : Option ℕ) (state : Environment) (row : List ℕ) (b : Bit) → ((k : ℕ) → Writes flat (Clocked k) b → ⊥) → (IsInputBit flat b → ⊥) → base flat clock state row b ≡ beginning flat b
unfolding base
base_rest flat clock state row b r i = rw (no_writes flat b r, missed (input_test flat b) (λ t. i (tested_input flat b t))) refl

not_written : (flat : Flat) (s : Step) (b : Bit) → ((x : Writer) → Writes flat x b → ⊥) → StepWrites flat s b → ⊥
unfolding StepWrites
not_written flat (Driver k) b h w = h (Driven k w.0) w.1
not_written flat (Wire k i) b h w = h (Driven k i) w
not_written flat (Block k) b h w = h (Combinational k) w

single : (o : Option Bit) (b : Bit) (v : Bool) (e : Environment) → o ≡ Some b → write (o ∷ []) (v ∷ []) e b ≡ v
single o b v e h = write_there (o ∷ []) (v ∷ []) e b 0 h (λ j k. let l = place_below (o ∷ []) j b k in omega arith)

one_place : (o : Option Bit) (b : Bit) → has_bit (o ∷ []) b ≡ true → o ≡ Some b
one_place o b h =
    let r = has_place (o ∷ []) b h in
    let l = place_below (o ∷ []) r.0 b r.1 in
    let z : r.0 ≡ 0 = omega arith in
    rw z at r.1

module _ (flat : Flat) (word : Option (List ℕ)) (clock : Option ℕ) (rising : Bool) (steps : List Step) (lawful : Lawful flat word) (order : Ordered flat word clock rising steps) where
  abbrev step : ℕ → Step
  step i = step_at steps i

  later : (k : ℕ) (b : Bit) → k < length flat.combinational → writes_later flat (block_at flat.combinational k) b ≡ false
  later k b l =
      none_later (scope_at flat (block_at flat.combinational k).scope) (block_at flat.combinational k).body b
      (recursion_from_All (λ a. a.now ≡ true) (assigned_by (block_at flat.combinational k).body) (lawful.kinds.combinational k l))

  now_or_not : (k : ℕ) (b : Bit) → k < length flat.combinational → writes_at_all flat (block_at flat.combinational k) b ≡ writes_now flat (block_at flat.combinational k) b
  now_or_not k b l = rw (later k b l) (or_false (writes_now flat (block_at flat.combinational k) b))
    where
      or_false : (x : Bool) → (x || false) ≡ x
      or_false true = refl
      or_false false = refl

  decided : (s : Step) → IsStep flat s → (b : Bit) → StepWrites flat s b ⊎ (StepWrites flat s b → ⊥)
  unfolding StepWrites IsStep Writes
  decided (Driver k) l b = elim (cases_Bool (has_bit (driven flat k) b)) [
    | inl t ↦ let r = has_place (driven flat k) b t in inl (r.0, (l.0, r.1))
    | inr t ↦ inr (λ w. both_ways (has_bit (driven flat k) b) t (place_has (driven flat k) b w.0 w.1.1))
  ]
  decided (Wire k i) l b = elim (cases_place (get_or (driven flat k) i None) b) [ inl q ↦ inl (l.0, q) | inr q ↦ inr (λ w. q w.1) ]
  decided (Block k) l b = elim (cases_Bool (writes_at_all flat (block_at flat.combinational k) b)) [
    | inl t ↦ inl (l, t)
    | inr t ↦ inr (λ w. both_ways (writes_at_all flat (block_at flat.combinational k) b) t w.1)
  ]

  keeps_rest : (s : Step) → IsStep flat s → (e : Environment) (b : Bit) → (StepWrites flat s b → ⊥) → act flat s e b ≡ e b
  unfolding StepWrites IsStep Writes act
  keeps_rest (Driver k) l e b w =
      write_outside (driven flat k) (driver_value flat k e) e b (missed (has_bit (driven flat k) b) (λ t. let r = has_place (driven flat k) b t in w (r.0, (l.0, r.1))))
  keeps_rest (Wire k i) l e b w =
      write_outside (get_or (driven flat k) i None ∷ []) (get_or (driver_value flat k e) i false ∷ []) e b
      (missed (has_bit (get_or (driven flat k) i None ∷ []) b) (λ t. w (l.0, one_place (get_or (driven flat k) i None) b t)))
  keeps_rest (Block k) l e b w =
      outside (scope_at flat (block_at flat.combinational k).scope) (block_at flat.combinational k).body e b
      (missed (writes_now flat (block_at flat.combinational k) b) (λ t. w (l, or_left (writes_now flat (block_at flat.combinational k) b) (writes_later flat (block_at flat.combinational k) b) t)))

  in_width : (k i : ℕ) (b : Bit) → get_or (driven flat k) i None ≡ Some b → i < max (side_shape flat (driver_at flat k).target).width (side_shape flat (driver_at flat k).value).width
  in_width k i b h = omega (arith, place_below (driven flat k) i b h, driven_size flat (driver_at flat k).target)

  local : (s : Step) → IsStep flat s → (e f : Environment) (b : Bit) → StepWrites flat s b → Agree e f (StepNames flat s) → act flat s e b ≡ act flat s f b
  unfolding StepWrites StepNames IsStep Writes act
  local (Driver k) l e f b w h =
      let v : driver_value flat k e ≡ driver_value flat k f =
      side_local flat (driver_at flat k).value e f (max (side_shape flat (driver_at flat k).target).width (side_shape flat (driver_at flat k).value).width) (side_shape flat (driver_at flat k).value).signed l.1
      (λ c r. h c (names_false (wires flat k) flat k 0 c l.1 r)) in
      write_agree (driven flat k) (driver_value flat k e) e f b (inr (place_has (driven flat k) b w.0 w.1.1)) ∙ ap (λ (vs : List Bool). write (driven flat k) vs f b) v
  local (Wire k i) l e f b w h =
      single (get_or (driven flat k) i None) b (get_or (driver_value flat k e) i false) e w.1
      ∙ side_bit flat (driver_at flat k).value e f (max (side_shape flat (driver_at flat k).target).width (side_shape flat (driver_at flat k).value).width) i (side_shape flat (driver_at flat k).value).signed l.1
      (in_width k i b w.1)
      (λ c r. h c (names_true (wires flat k) flat k i c l.1 (rw (sign_same flat (driver_at flat k).value) r)))
      ∙ sym (single (get_or (driven flat k) i None) b (get_or (driver_value flat k f) i false) f w.1)
  local (Block k) l e f b w h =
      statement_local (scope_at flat (block_at flat.combinational k).scope) (block_at flat.combinational k).body (lawful.no_latches k l) e f b (sym (now_or_not k b l) ∙ w.1)
      (λ c r. h c (r.0, now_or_not k c l ∙ r.1))

  apart : (s t : Step) → IsStep flat s → IsStep flat t → (b : Bit) → StepWrites flat s b → StepWrites flat t b → s ≡ t
  unfolding StepWrites IsStep
  apart (Driver k) (Driver l) x y b v w = ap Driver (ap driver_of (lawful.one_writer (Driven k v.0) (Driven l w.0) b v.1 w.1))
  apart (Driver k) (Wire l j) x y b v w =
      let q : k ≡ l = ap driver_of (lawful.one_writer (Driven k v.0) (Driven l j) b v.1 w) in
      absurd (both_ways (wires flat k) x.1 (rw q y.1))
  apart (Driver k) (Block l) x y b v w = absurd (omega (arith, ap kind_of (lawful.one_writer (Driven k v.0) (Combinational l) b v.1 w)))
  apart (Wire k i) (Driver l) x y b v w =
      let q : k ≡ l = ap driver_of (lawful.one_writer (Driven k i) (Driven l w.0) b v w.1) in
      absurd (both_ways (wires flat l) y.1 (rw (← q) x.1))
  apart (Wire k i) (Wire l j) x y b v w =
      let q = lawful.one_writer (Driven k i) (Driven l j) b v w in
      ap (λ (u : Writer). Wire (driver_of u) (place_of u)) q
  apart (Wire k i) (Block l) x y b v w = absurd (omega (arith, ap kind_of (lawful.one_writer (Driven k i) (Combinational l) b v w)))
  apart (Block k) (Driver l) x y b v w = absurd (omega (arith, ap kind_of (lawful.one_writer (Combinational k) (Driven l w.0) b v w.1)))
  apart (Block k) (Wire l j) x y b v w = absurd (omega (arith, ap kind_of (lawful.one_writer (Combinational k) (Driven l j) b v w)))
  apart (Block k) (Block l) x y b v w = ap Block (ap driver_of (lawful.one_writer (Combinational k) (Combinational l) b v w))

  pub all_steps : Steps (act flat) (StepWrites flat) (StepNames flat) step (length steps)
  all_steps = record {
    decided = λ i l. decided (step i) (order.each i l);
    outside = λ i l. keeps_rest (step i) (order.each i l);
    local = λ i l. local (step i) (order.each i l);
    after = order.after;
    apart = λ i j l m b v w. order.once i j l m (apart (step i) (step j) (order.each i l) (order.each j m) b v w);
  }

  -- a register is written by no step, and an input neither
  by_step : (s : Step) (b : Bit) (l : ℕ) → Writes flat (Clocked l) b → StepWrites flat s b → ⊥
  unfolding StepWrites
  by_step (Driver k) b l w v = omega (arith, ap kind_of (lawful.one_writer (Clocked l) (Driven k v.0) b w v.1))
  by_step (Wire k i) b l w v = omega (arith, ap kind_of (lawful.one_writer (Clocked l) (Driven k i) b w v))
  by_step (Block k) b l w v = omega (arith, ap kind_of (lawful.one_writer (Clocked l) (Combinational k) b w v))

  -- what performing the steps makes
  abbrev made : Environment → List ℕ → Environment
  made state row = steps_done (act flat) (StepWrites flat) (StepNames flat) step (length steps) (length steps) (base flat clock state row)

  as_base : (state : Environment) (row : List ℕ) (b : Bit) → ((j : ℕ) → j < length steps → StepWrites flat (step j) b → ⊥) → made state row b ≡ base flat clock state row b
  as_base state row b w = untouched (act flat) (StepWrites flat) (StepNames flat) step (length steps) all_steps (base flat clock state row) b (length steps) (omega arith) w

  kept : (state : Environment) (row : List ℕ) (s : Step) → IsStep flat s → (b : Bit) → act flat s (made state row) b ≡ made state row b
  kept state row s l b =
      let r = order.all s l in
      rw r.1.1 at (settles (act flat) (StepWrites flat) (StepNames flat) step (length steps) all_steps (base flat clock state row) (length steps) r.0 (omega arith) r.1.0 b)

  -- nothing writes an input of the top
  abbrev InputsFree : Type 0
  InputsFree = (b : Bit) → IsInputBit flat b → (x : Writer) → Writes flat x b → ⊥

  unwritten : InputsFree → (b : Bit) → IsInputBit flat b → (s : Step) → StepWrites flat s b → ⊥
  unfolding StepWrites
  unwritten free b i (Driver k) w = free b i (Driven k w.0) w.1
  unwritten free b i (Wire k j) w = free b i (Driven k j) w
  unwritten free b i (Block k) w = free b i (Combinational k) w

  made_settles : InputsFree → (state : Environment) (row : List ℕ) → Settled flat clock state row (made state row)
  unfolding IsStep Writes act
  made_settles free state row = record {
    registers = λ k b w. as_base state row b (λ j l v. by_step (step j) b k w v) ∙ base_register flat clock state row k b w;
    inputs = λ b i. as_base state row b (λ j l v. unwritten free b i (step j) v) ∙ base_input flat clock state row b i (λ n w. free b i (Clocked n) w);
    drivers = λ k i b w. elim (cases_Bool (wires flat k)) [
      | inl t ↦ sym (kept state row (Wire k i) (w.0, t, place_below (driven flat k) i b w.1) b) ∙ single (get_or (driven flat k) i None) b (get_or (driver_value flat k (made state row)) i false) (made state row) w.1
      | inr t ↦ sym (kept state row (Driver k) (w.0, t) b)
          ∙ write_there (driven flat k) (driver_value flat k (made state row)) (made state row) b i w.1
          (λ j q. ap place_of (lawful.one_writer (Driven k j) (Driven k i) b (w.0, q) w))
    ];
    blocks = λ k l. fun_ext (λ b. kept state row (Block k) l b);
    others = λ b i w. as_base state row b (λ j l v. not_written flat (step j) b w v) ∙ base_rest flat clock state row b (λ k. w (Clocked k)) i;
  }

  stepped : (e : Environment) (i : ℕ) → i ≤ length steps → performed flat (drop i steps) (steps_done (act flat) (StepWrites flat) (StepNames flat) step (length steps) i e) ≡ performed flat steps e
  unfolding steps_done performed
  stepped e zero l = refl
  stepped e (suc i) l = rw (drop-cons steps i (Block 0) l) at (stepped e i (omega arith))

  all_done : (ss : List Step) (i : ℕ) (e : Environment) → length ss ≤ i → performed flat (drop i ss) e ≡ e
  unfolding performed
  all_done [] zero e l = refl
  all_done [] (suc i) e l = refl
  all_done (s ∷ ss) zero e l = absurd (omega arith)
  all_done (s ∷ ss) (suc i) e l = all_done ss i e (omega arith)

  -- performing the steps on the first environment settles it
  pub settled_by_steps : InputsFree → (state : Environment) (row : List ℕ) → Settled flat clock state row (performed flat steps (base flat clock state row))
  settled_by_steps free state row =
      let m : made state row ≡ performed flat steps (base flat clock state row) = sym (all_done steps (length steps) (made state row) (omega arith)) ∙ stepped (base flat clock state row) (length steps) (omega arith) in
      subst (Settled flat clock state row) m (made_settles free state row)
