-- The laws of flat designs that name no clock, without token numbers.
use Rattle.std.proofs.Common.{◌≡◌, ◌∙◌, sym, ap, ◌⊎◌, ℕ, zero, suc, ◌+◌, ◌<◌, Bool, true, false, ◌&&◌, ◌||◌, List, [], ◌∷◌, ◌++◌, length, map, get_or, Option, Some, None, refl}
use Rattle.std.specs.List.{All}
use Rattle.std.proofs.lemmas.List.{length-map}
use Rattle.rr_syntax.specs.Tree.{Tree, Trees, Name, Literal, Bit as BitSelect, Part, Indexed, Unary, Binary, Cond, Concat, Repeat, Cast, Paren, End, More, Statement, bare, bare_parts, bare_statement}
use Rattle.rr_syntax.proofs.BareExpressions.{is_target-bare}
use Rattle.rr_expr.specs.declared.types.Bit.{Bit}
use Rattle.rr_expr.specs.declared.types.Entity.{Entity}
use Rattle.rr_expr.specs.declared.types.Entity.TheVariants as entity
use Rattle.rr_expr.specs.Scopes.{Names, meant}
use Rattle.rr_expr.specs.Values.{nowhere}
use Rattle.rr_flat.specs.declared.signal.Port.TheVariants.{Input}
use Rattle.rr_flat.specs.Signals.{Text}
use Rattle.rr_flat.specs.declared.design.Step.{Step}
use Rattle.rr_flat.specs.declared.design.Step.TheVariants as step
use Rattle.rr_flat.specs.Clocks.{IsScalarInput, IsInputNamed}
use Rattle.rr_flat.specs.Lawful.{ClockNamed, MayDrive, MayAssign, MayAssignAll, MayStart, DriverTarget, BlockTargets, InitialTargets, labels_fit, OneWriter, HasRanks}
use Rattle.rr_flat.specs.Ordered.{IsStep, StepWrites, StepNames}
use Rattle.rr_flat.specs.Plain.{Side, Written, Whole, Driver, Block, Flat}
use Rattle.rr_flat.specs.Reads.{Assigned, StatementReads, assigned_by}
use Rattle.rr_flat.specs.Targets.{is_memory, target_parts, part_name, is_indexed, is_fixed}
use Rattle.rr_flat.specs.Writers.{scope_at, driver_at, block_at, initial_at, SideReads, Writer, Driven, Combinational, is_wiring, are_wiring, taken, all_taken, side_is_wiring, side_taken, side_signed, taken_at, wires, NamesIf, DriverNames, BlockNames, BitNames}
use Rattle.rr_token_numbers.specs.Bare.{bare_side, bare_block, bare_initial, bare_flat, IsSameFlat}
use Rattle.rr_token_numbers.proofs.Shapes.{form-bare}
use Rattle.rr_token_number_meaning.proofs.Targets.{target_bits-bare, constant-bare, parts-bare, part_name-bare, is_indexed-bare, is_fixed-bare}
use Rattle.rr_token_number_meaning.proofs.Designs.{block_at-bare, initial_at-bare, driver_at-bare, drivers_many, clocked_many, combinational_many, initials_many, signal_same, bits-bare, driven-bare, block_writes, Writes-bare}
use Rattle.rr_token_number_meaning.proofs.Naming.{labels_fit-bare, bare_assigned, assigned_by-bare, NamesBit-bare, StatementReads-bare}

-- what is the same of a design and of it without numbers is the same of two designs that are equal without them
pub agree {ℓ} : {A : Type ℓ} (X : Flat → A) → ((h : Flat) → X (bare_flat h) ≡ X h) → (f g : Flat) → IsSameFlat f g → X f ≡ X g
agree X e f g same = sym (e f) ∙ (ap X same ∙ e g)

-- lists

at_mapped : {X : Type 0} (h : X → X) (P : X → Type 0) → ((x : X) → P (h x) ≡ P x) → (xs : List X) (k : ℕ) (d : X) → P (get_or (map h xs) k d) ≡ P (get_or xs k d)
at_mapped h P r [] k d = refl
at_mapped h P r (x ∷ xs) zero d = r x
at_mapped h P r (x ∷ xs) (suc k) d = at_mapped h P r xs k d

pub all_mapped : {X : Type 0} (h : X → X) (P : X → Type 0) → ((x : X) → P (h x) ≡ P x) → (xs : List X) → All P (map h xs) ≡ All P xs
all_mapped {X} h P r xs = λ j. (k : ℕ) (d : X) → k < length-map xs h j → at_mapped h P r xs k d j

module _ (f : Flat) where
  -- the clock by its name

  pub IsScalarInput-bare : IsScalarInput (bare_flat f) ≡ IsScalarInput f
  unfolding bare_flat
  IsScalarInput-bare = λ k id. ((n : ℕ) × ((n < length f.inputs) × (get_or f.inputs n 0 ≡ id))) × ((signal_same f id k).range ≡ None)

  pub IsInputNamed-bare : (name : Text) (id : ℕ) → IsInputNamed (bare_flat f) name id ≡ IsInputNamed f name id
  unfolding bare_flat
  IsInputNamed-bare name id = λ k. IsScalarInput-bare k id × ((signed : Bool) × (meant (scope_at f 0) name ≡ entity.Signal id None signed))

  pub ClockNamed-bare : (word : Option Text) → ClockNamed (bare_flat f) word ≡ ClockNamed f word
  ClockNamed-bare None = refl
  ClockNamed-bare (Some name) = λ k. (id : ℕ) × IsInputNamed-bare name id k

  -- targets

  MayDrive-bare : (e : Entity) (fixed : Bool) → MayDrive (bare_flat f) e fixed ≡ MayDrive f e fixed
  MayDrive-bare (entity.Constant bits signed) fixed = refl
  MayDrive-bare (entity.Signal id range signed) fixed = λ k. ((signal_same f id k).variable ≡ false) × ((signal_same f id k).port ≡ Input → ⊥) × (fixed ≡ true)
  MayDrive-bare (entity.Memory first low words range signed) fixed = refl
  MayDrive-bare entity.Instance fixed = refl

  MayAssign-bare : (e : Entity) → MayAssign (bare_flat f) e ≡ MayAssign f e
  MayAssign-bare (entity.Constant bits signed) = refl
  MayAssign-bare (entity.Signal id range signed) = λ k. ((signal_same f id k).variable ≡ true) × ((signal_same f id k).port ≡ Input → ⊥)
  MayAssign-bare (entity.Memory first low words range signed) =
      λ k. (n : ℕ) → n < words → ((signal_same f (first + n) k).variable ≡ true) × ((signal_same f (first + n) k).port ≡ Input → ⊥)
  MayAssign-bare entity.Instance = refl

  MayStart-bare : (e : Entity) (indexed : Bool) → MayStart (bare_flat f) e indexed ≡ MayStart f e indexed
  MayStart-bare e indexed = λ k. MayAssign-bare e k × (indexed ≡ is_memory e)

  parts_path : (s : Names) (t : Tree) → All (λ p. MayDrive (bare_flat f) (meant s (part_name p)) (is_fixed s p)) (target_parts (bare t)) ≡ All (λ p. MayDrive f (meant s (part_name p)) (is_fixed s p)) (target_parts t)
  parts_path s t =
      let P : Tree → Type 0 = λ p. MayDrive (bare_flat f) (meant s (part_name p)) (is_fixed s p) in
      ap (All P) (parts-bare t)
      ∙ (all_mapped bare P (λ x k. MayDrive (bare_flat f) (meant s (part_name-bare x k)) (is_fixed-bare s x k)) (target_parts t)
      ∙ (λ j. (k : ℕ) (d : Tree) → k < length (target_parts t) → MayDrive-bare (meant s (part_name (get_or (target_parts t) k d))) (is_fixed s (get_or (target_parts t) k d)) j))

  DriverTarget-bare : (t v : Side) → DriverTarget (bare_flat f) (bare_side t) (bare_side v) ≡ DriverTarget f t v
  unfolding bare_flat
  DriverTarget-bare (Whole id) (Whole x) = refl
  DriverTarget-bare (Whole id) (Written t i) = λ k. (signal_same f id k).instance ≡ i → ((signal_same f id k).variable ≡ false) × ((signal_same f id k).port ≡ Input → ⊥) × (true ≡ true)
  DriverTarget-bare (Written t i) v = λ k. (is_target-bare t k ≡ true) × parts_path (scope_at f i) t k

  MayAssignAll-bare : (i : ℕ) (t : Statement) → MayAssignAll (bare_flat f) i (bare_statement t) ≡ MayAssignAll f i t
  unfolding bare_flat
  MayAssignAll-bare i t =
      let P : Assigned → Type 0 = λ a. MayAssign (bare_flat f) (meant (scope_at f i) (part_name a.part)) in
      ap (All P) (assigned_by-bare t)
      ∙ (all_mapped bare_assigned P (λ a k. MayAssign (bare_flat f) (meant (scope_at f i) (part_name-bare a.part k))) (assigned_by t)
      ∙ (λ j. (k : ℕ) (d : Assigned) → k < length (assigned_by t) → MayAssign-bare (meant (scope_at f i) (part_name (get_or (assigned_by t) k d).part)) j))

  -- those of an `initial` item
  abbrev Starts : Flat → ℕ → Statement → Type 0
  Starts g i t = All (λ a. MayStart g (meant (scope_at g i) (part_name a.part)) (is_indexed a.part)) (assigned_by t)

  starts-bare : (i : ℕ) (t : Statement) → Starts (bare_flat f) i (bare_statement t) ≡ Starts f i t
  unfolding bare_flat
  starts-bare i t =
      let P : Assigned → Type 0 = λ a. MayStart (bare_flat f) (meant (scope_at f i) (part_name a.part)) (is_indexed a.part) in
      ap (All P) (assigned_by-bare t)
      ∙ (all_mapped bare_assigned P (λ a k. MayStart (bare_flat f) (meant (scope_at f i) (part_name-bare a.part k)) (is_indexed-bare a.part k)) (assigned_by t)
      ∙ (λ j. (k : ℕ) (d : Assigned) → k < length (assigned_by t) → MayStart-bare (meant (scope_at f i) (part_name (get_or (assigned_by t) k d).part)) (is_indexed (get_or (assigned_by t) k d).part) j))

  pub drivers_path : ((k : ℕ) → k < length (bare_flat f).drivers → DriverTarget (bare_flat f) (driver_at (bare_flat f) k).target (driver_at (bare_flat f) k).value)
      ≡ ((k : ℕ) → k < length f.drivers → DriverTarget f (driver_at f k).target (driver_at f k).value)
  drivers_path = λ j. (k : ℕ) → k < drivers_many f j → one k j
    where
      one : (k : ℕ) → DriverTarget (bare_flat f) (driver_at (bare_flat f) k).target (driver_at (bare_flat f) k).value ≡ DriverTarget f (driver_at f k).target (driver_at f k).value
      one k = (λ j. DriverTarget (bare_flat f) (driver_at-bare f k j).target (driver_at-bare f k j).value) ∙ DriverTarget-bare (driver_at f k).target (driver_at f k).value

  block_targets_at : (bs : List Block) (k : ℕ) → BlockTargets (bare_flat f) (block_at (map bare_block bs) k) ≡ BlockTargets f (block_at bs k)
  block_targets_at bs k = (λ j. BlockTargets (bare_flat f) (block_at-bare bs k j)) ∙ MayAssignAll-bare (block_at bs k).scope (block_at bs k).body

  initial_targets_at : (k : ℕ) → InitialTargets (bare_flat f) (initial_at (map bare_initial f.initials) k) ≡ InitialTargets f (initial_at f.initials k)
  initial_targets_at k = (λ j. InitialTargets (bare_flat f) (initial_at-bare f.initials k j)) ∙ starts-bare (initial_at f.initials k).scope (initial_at f.initials k).body

  pub clocked_targets : ((k : ℕ) → k < length (bare_flat f).clocked → BlockTargets (bare_flat f) (block_at (bare_flat f).clocked k)) ≡ ((k : ℕ) → k < length f.clocked → BlockTargets f (block_at f.clocked k))
  unfolding bare_flat
  clocked_targets = λ j. (k : ℕ) → k < clocked_many f j → block_targets_at f.clocked k j

  pub combinational_targets : ((k : ℕ) → k < length (bare_flat f).combinational → BlockTargets (bare_flat f) (block_at (bare_flat f).combinational k)) ≡ ((k : ℕ) → k < length f.combinational → BlockTargets f (block_at f.combinational k))
  unfolding bare_flat
  combinational_targets = λ j. (k : ℕ) → k < combinational_many f j → block_targets_at f.combinational k j

  pub initial_targets : ((k : ℕ) → k < length (bare_flat f).initials → InitialTargets (bare_flat f) (initial_at (bare_flat f).initials k)) ≡ ((k : ℕ) → k < length f.initials → InitialTargets f (initial_at f.initials k))
  unfolding bare_flat
  initial_targets = λ j. (k : ℕ) → k < initials_many f j → initial_targets_at k j

  -- labels

  labels_at : (bs : List Block) (k : ℕ) → labels_fit (block_at (map bare_block bs) k).body ≡ labels_fit (block_at bs k).body
  labels_at bs k = ap (λ (b : Block). labels_fit b.body) (block_at-bare bs k) ∙ labels_fit-bare (block_at bs k).body

  pub clocked_labels : ((k : ℕ) → k < length (bare_flat f).clocked → labels_fit (block_at (bare_flat f).clocked k).body ≡ true) ≡ ((k : ℕ) → k < length f.clocked → labels_fit (block_at f.clocked k).body ≡ true)
  unfolding bare_flat
  clocked_labels = λ j. (k : ℕ) → k < clocked_many f j → labels_at f.clocked k j ≡ true

  pub combinational_labels : ((k : ℕ) → k < length (bare_flat f).combinational → labels_fit (block_at (bare_flat f).combinational k).body ≡ true)
      ≡ ((k : ℕ) → k < length f.combinational → labels_fit (block_at f.combinational k).body ≡ true)
  unfolding bare_flat
  combinational_labels = λ j. (k : ℕ) → k < combinational_many f j → labels_at f.combinational k j ≡ true

  -- writers and kinds

  pub OneWriter-bare : OneWriter (bare_flat f) ≡ OneWriter f
  OneWriter-bare = λ j. (x y : Writer) (b : Bit) → Writes-bare f x j b → Writes-bare f y j b → x ≡ y

  blocking : (b : Block) → All (λ (a : Assigned). a.now ≡ true) (assigned_by (bare_block b).body) ≡ All (λ (a : Assigned). a.now ≡ true) (assigned_by b.body)
  blocking b = ap (All (λ (a : Assigned). a.now ≡ true)) (assigned_by-bare b.body) ∙ all_mapped bare_assigned (λ (a : Assigned). a.now ≡ true) (λ a. refl) (assigned_by b.body)

  pub blocking_path : ((k : ℕ) → k < length (bare_flat f).combinational → All (λ (a : Assigned). a.now ≡ true) (assigned_by (block_at (bare_flat f).combinational k).body))
      ≡ ((k : ℕ) → k < length f.combinational → All (λ (a : Assigned). a.now ≡ true) (assigned_by (block_at f.combinational k).body))
  unfolding bare_flat
  blocking_path = λ j. (k : ℕ) → k < combinational_many f j → one k j
    where
      one : (k : ℕ) → All (λ (a : Assigned). a.now ≡ true) (assigned_by (block_at (map bare_block f.combinational) k).body) ≡ All (λ (a : Assigned). a.now ≡ true) (assigned_by (block_at f.combinational k).body)
      one k = (λ j. All (λ (a : Assigned). a.now ≡ true) (assigned_by (block_at-bare f.combinational k j).body)) ∙ blocking (block_at f.combinational k)

-- wiring

mutual
  unfolding is_wiring bare

  wiring-bare : (s : Names) (t : Tree) → is_wiring s (bare t) ≡ is_wiring s t
  wiring-bare s (Name token x) = refl
  wiring-bare s (Literal token n) = refl
  wiring-bare s (BitSelect token x i) = constant-bare s i
  wiring-bare s (Part token x l r) = refl
  wiring-bare s (Indexed token x f n up) = constant-bare s f
  wiring-bare s (Unary op t) = refl
  wiring-bare s (Binary op l r) = refl
  wiring-bare s (Cond a b c) = refl
  wiring-bare s (Concat ts) = are_wiring-bare s ts
  wiring-bare s (Repeat n ts) = refl
  wiring-bare s (Cast signed t) = refl
  wiring-bare s (Paren t) = refl

  are_wiring-bare : (s : Names) (ts : Trees) → are_wiring s (bare_parts ts) ≡ are_wiring s ts
  are_wiring-bare s End = refl
  are_wiring-bare s (More t ts) = λ k. wiring-bare s t k && are_wiring-bare s ts k

mutual
  unfolding taken bare

  taken-bare : (s : Names) (t : Tree) → taken s (bare t) ≡ taken s t
  taken-bare s (Name token x) = target_bits-bare s nowhere (Name token x)
  taken-bare s (Literal token n) = refl
  taken-bare s (BitSelect token x i) = target_bits-bare s nowhere (BitSelect token x i)
  taken-bare s (Part token x l r) = target_bits-bare s nowhere (Part token x l r)
  taken-bare s (Indexed token x f n up) = target_bits-bare s nowhere (Indexed token x f n up)
  taken-bare s (Unary op t) = refl
  taken-bare s (Binary op l r) = refl
  taken-bare s (Cond a b c) = refl
  taken-bare s (Concat ts) = all_taken-bare s ts
  taken-bare s (Repeat n ts) = refl
  taken-bare s (Cast signed t) = refl
  taken-bare s (Paren t) = refl

  all_taken-bare : (s : Names) (ts : Trees) → all_taken s (bare_parts ts) ≡ all_taken s ts
  all_taken-bare s End = refl
  all_taken-bare s (More t ts) = λ k. all_taken-bare s ts k ++ taken-bare s t k

module _ (f : Flat) where
  side_wiring-bare : (v : Side) → side_is_wiring (bare_flat f) (bare_side v) ≡ side_is_wiring f v
  unfolding side_is_wiring bare_flat
  side_wiring-bare (Written t i) = wiring-bare (scope_at f i) t
  side_wiring-bare (Whole id) = refl

  side_taken-bare : (v : Side) → side_taken (bare_flat f) (bare_side v) ≡ side_taken f v
  unfolding side_taken bare_flat
  side_taken-bare (Written t i) = taken-bare (scope_at f i) t
  side_taken-bare (Whole id) = bits-bare f id

  side_signed-bare : (v : Side) → side_signed (bare_flat f) (bare_side v) ≡ side_signed f v
  unfolding side_signed bare_flat
  side_signed-bare (Written t i) = λ k. (form-bare (scope_at f i) t k).signed
  side_signed-bare (Whole id) = λ k. (signal_same f id k).signed

  SideReads-bare : (v : Side) → SideReads (bare_flat f) (bare_side v) ≡ SideReads f v
  unfolding SideReads bare_flat
  SideReads-bare (Written t i) = NamesBit-bare (scope_at f i) t
  SideReads-bare (Whole id) = λ k b. (b.signal ≡ id) × (b.place < (signal_same f id k).width)

  pub wires-bare : (k : ℕ) → wires (bare_flat f) k ≡ wires f k
  wires-bare k = ap (λ (d : Driver). side_is_wiring (bare_flat f) d.value) (driver_at-bare f k) ∙ side_wiring-bare (driver_at f k).value

  signed_at : (k : ℕ) → side_signed (bare_flat f) (driver_at (bare_flat f) k).value ≡ side_signed f (driver_at f k).value
  signed_at k = ap (λ (d : Driver). side_signed (bare_flat f) d.value) (driver_at-bare f k) ∙ side_signed-bare (driver_at f k).value

  taken_by : (k : ℕ) → side_taken (bare_flat f) (driver_at (bare_flat f) k).value ≡ side_taken f (driver_at f k).value
  taken_by k = ap (λ (d : Driver). side_taken (bare_flat f) d.value) (driver_at-bare f k) ∙ side_taken-bare (driver_at f k).value

  NamesIf-bare : (w : Bool) (k i : ℕ) → NamesIf w (bare_flat f) k i ≡ NamesIf w f k i
  NamesIf-bare true k i = λ j c. taken_at (signed_at k j) (taken_by k j) i ≡ Some c
  NamesIf-bare false k i = (λ j. SideReads (bare_flat f) (driver_at-bare f k j).value) ∙ SideReads-bare (driver_at f k).value

  pub DriverNames-bare : (k i : ℕ) → DriverNames (bare_flat f) k i ≡ DriverNames f k i
  DriverNames-bare k i = (λ j. NamesIf (wires-bare k j) (bare_flat f) k i) ∙ NamesIf-bare (wires f k) k i

  reads_at : (bs : List Block) (k : ℕ) → StatementReads (scope_at (bare_flat f) (block_at (map bare_block bs) k).scope) (block_at (map bare_block bs) k).body ≡ StatementReads (scope_at f (block_at bs k).scope) (block_at bs k).body
  unfolding bare_flat
  reads_at bs k = (λ j. StatementReads (scope_at f (block_at-bare bs k j).scope) (block_at-bare bs k j).body) ∙ StatementReads-bare (scope_at f (block_at bs k).scope) (block_at bs k).body

  pub BlockNames-bare : (k : ℕ) → BlockNames (bare_flat f) k ≡ BlockNames f k
  unfolding bare_flat
  BlockNames-bare k = λ j c. reads_at f.combinational k j c × ((block_writes f true f.combinational k j c || block_writes f false f.combinational k j c) ≡ false)

  BitNames-bare : BitNames (bare_flat f) ≡ BitNames f
  BitNames-bare = λ j b c.
      ((k : ℕ) × ((i : ℕ) × (Writes-bare f (Driven k i) j b × DriverNames-bare k i j c))) ⊎ ((k : ℕ) × (Writes-bare f (Combinational k) j b × BlockNames-bare k j c))

  pub HasRanks-bare : HasRanks (bare_flat f) ≡ HasRanks f
  HasRanks-bare = λ j. (rank : Bit → ℕ) × ((b c : Bit) → BitNames-bare j b c → rank c < rank b)

  -- steps

  pub IsStep-bare : (s : Step) → IsStep (bare_flat f) s ≡ IsStep f s
  unfolding IsStep
  IsStep-bare (step.Driver k) = λ j. (k < drivers_many f j) × (wires-bare k j ≡ false)
  IsStep-bare (step.Wire k i) = λ j. (k < drivers_many f j) × (wires-bare k j ≡ true) × (i < length (driven-bare f k j))
  IsStep-bare (step.Block k) = λ j. k < combinational_many f j

  pub StepWrites-bare : (s : Step) → StepWrites (bare_flat f) s ≡ StepWrites f s
  unfolding StepWrites
  StepWrites-bare (step.Driver k) = λ j b. (i : ℕ) × Writes-bare f (Driven k i) j b
  StepWrites-bare (step.Wire k i) = Writes-bare f (Driven k i)
  StepWrites-bare (step.Block k) = Writes-bare f (Combinational k)

  pub StepNames-bare : (s : Step) → StepNames (bare_flat f) s ≡ StepNames f s
  unfolding StepNames
  StepNames-bare (step.Driver k) = DriverNames-bare k 0
  StepNames-bare (step.Wire k i) = DriverNames-bare k i
  StepNames-bare (step.Block k) = BlockNames-bare k
