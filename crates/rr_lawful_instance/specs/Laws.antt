-- The instances of a lawful flat design are lawful, law by law and as a whole, and in the same order.
use Rattle.std.specs.Prelude.{ℕ, max, ◌≡◌, List, [], Bool, true, Option, Ok}
use Rattle.std.specs.List.{list_any}
use Rattle.rr_syntax.specs.Tree.{SourceText}
use Rattle.rr_expr.specs.declared.types.Bit.{Bit}
use Rattle.rr_flat.specs.Signals.{Text}
use Rattle.rr_flat.specs.declared.design.Step.{Step}
use Rattle.rr_flat.specs.Clocks.{OneClock}
use Rattle.rr_flat.specs.Lawful.{RightTargets, RightLabels, NoClockRead, OneWriter, RightKinds, NoRace, NoLatches, HasRanks, Lawful}
use Rattle.rr_flat.specs.Ordered.{IsStep, Ordered}
use Rattle.rr_flat.specs.Plain.{Flat}
use Rattle.rr_flatten.specs.Walk.{flat_of}
use Rattle.rr_flat.specs.Writers.{driver_at, driven, wires, Writer, Writes}
use Rattle.rr_cycle.specs.Cycles.{side_shape, side_value, driver_value, outputs_of, Settled, IsNext, Run}
use Rattle.rr_cycle.specs.Exec.{Environment}
use Rattle.rr_cycle.specs.Performing.{base, next_after, settled_by}
use Rattle.rr_flat_instance.specs.Flats.{instance_side, instance_flat}
use Rattle.rr_flat_instance.specs.Places.{SitesFit}
use Rattle.rr_choice.specs.declared.pick.Pick.{Pick}
use Rattle.rr_choice.specs.Choices.{cost}
use Rattle.rr_choice.specs.Places.{is_literal, is_guard, is_overwrite}
use Rattle.rr_instance.specs.Instances.{instance_source}
use Rattle.rr_choice.specs.Sites.{Site}
use Rattle.rr_lawful_instance.specs.AreSites.{AreSitesOf}
use Rattle.rr_lawful_instance.specs.Listed.{AreRight}
use Rattle.rr_lawful_instance.specs.Cycling.{run_by}

-- what holds of a design, where its sites are such, holds of its instances
abbrev pub Stays : (Flat → Option Text → Type 0) → Type 0
Stays L =
    (flat : Flat) (word : Option Text) (ss : List Site) (ps : List Pick) → AreSitesOf flat word ss → L flat word → L (instance_flat ss ps flat) word

-- the same things write each bit
abbrev pub WritersStay : Type 0
WritersStay =
    (flat : Flat) (word : Option Text) (ss : List Site) (ps : List Pick) → AreSitesOf flat word ss → (x : Writer) (b : Bit) →
    (Writes flat x b → Writes (instance_flat ss ps flat) x b) × (Writes (instance_flat ss ps flat) x b → Writes flat x b)

abbrev pub TargetsStay : Type 0
TargetsStay = Stays (λ flat word. RightTargets flat)

abbrev pub LabelsStay : Type 0
LabelsStay = Stays (λ flat word. RightLabels flat)

-- the clock and its direction
abbrev pub ClockStays : Type 0
ClockStays = (clock : Option ℕ) (rising : Bool) → Stays (λ flat word. OneClock flat word clock rising)

abbrev pub ClockStaysUnread : Type 0
ClockStaysUnread = (clock : Option ℕ) (rising : Bool) → Stays (λ flat word. OneClock flat word clock rising × NoClockRead flat clock)

abbrev pub OneWriterStays : Type 0
OneWriterStays = Stays (λ flat word. OneWriter flat)

abbrev pub KindsStay : Type 0
KindsStay = Stays (λ flat word. RightKinds flat)

abbrev pub NoRaceStays : Type 0
NoRaceStays = Stays (λ flat word. NoRace flat)

-- a guard outside clocked blocks names registers, which nothing else writes
abbrev pub NoLatchesStay : Type 0
NoLatchesStay = Stays (λ flat word. OneWriter flat × NoLatches flat)

abbrev pub RanksStay : Type 0
RanksStay = Stays (λ flat word. OneWriter flat × HasRanks flat)

-- all of them
abbrev pub InstancesAreLawful : Type 0
InstancesAreLawful = Stays (λ flat word. Lawful flat word)

-- the steps of a design are those of its instances, in the same order
abbrev pub InstancesAreOrdered : Type 0
InstancesAreOrdered = (clock : Option ℕ) (rising : Bool) (steps : List Step) → Stays (λ flat word. OneWriter flat × Ordered flat word clock rising steps)

-- a choice without a switch that is on makes the design itself
abbrev pub KeepsAtNoCost : Type 0
KeepsAtNoCost = (flat : Flat) (ss : List Site) (ps : List Pick) → cost ps ≡ 0 → instance_flat ss ps flat ≡ flat

-- an instance begins with the values of its design, which the same `initial` items set
abbrev pub StartsStay : Type 0
StartsStay = (flat : Flat) (ss : List Site) (ps : List Pick) → ((instance_flat ss ps flat).starts ≡ flat.starts) × ((instance_flat ss ps flat).initials ≡ flat.initials)

-- no sites are sites of any design
abbrev pub NoSitesFit : Type 0
NoSitesFit = (flat : Flat) (word : Option Text) → AreSitesOf flat word []

-- Sources

-- sites as they are listed are sites of the flat design, and fit its source
abbrev pub ListedAreSites : Type 0
ListedAreSites =
    (source : SourceText) (top : Option Text) (flat : Flat) (word : Option Text) (ss : List Site) → flat_of source top ≡ Ok flat → RightTargets flat → AreRight source flat word ss →
    AreSitesOf flat word ss × SitesFit ss source flat

-- the instance of a source is elaborated to the instance of its flat design, which is lawful and in order
abbrev pub InstancesStayLawful : Type 0
InstancesStayLawful =
    (source : SourceText) (top : Option Text) (flat : Flat) (word : Option Text) (clock : Option ℕ) (rising : Bool) (steps : List Step) (ss : List Site) (ps : List Pick) →
    flat_of source top ≡ Ok flat → Lawful flat word → Ordered flat word clock rising steps → AreRight source flat word ss →
    (flat_of (instance_source ss ps source) top ≡ Ok (instance_flat ss ps flat)) × Lawful (instance_flat ss ps flat) word × Ordered (instance_flat ss ps flat) word clock rising steps

-- sites of each kind
abbrev pub AreOfAllKinds : List Site → Type 0
AreOfAllKinds ss = (list_any (λ s. is_literal s.kind) ss ≡ true) × (list_any (λ s. is_guard 1 s.kind) ss ≡ true) × (list_any (λ s. is_overwrite s.kind) ss ≡ true)

-- there is a source with sites of each kind for which all of this holds
abbrev pub LawsAreMet : Type 0
LawsAreMet =
    (source : SourceText) × ((top : Option Text) × ((flat : Flat) × ((word : Option Text) × ((clock : Option ℕ) × ((rising : Bool) × ((steps : List Step) × ((ss : List Site) ×
    ((flat_of source top ≡ Ok flat) × Lawful flat word × Ordered flat word clock rising steps × AreRight source flat word ss × AreOfAllKinds ss))))))))

-- Cycles

-- the flat design of a source, lawful and in order, with sites as they are listed
pub record IsRepairable (source : SourceText) (top : Option Text) (flat : Flat) (word : Option Text) (clock : Option ℕ) (rising : Bool) (steps : List Step) (ss : List Site) : Type 0 where
  pub elaborated : flat_of source top ≡ Ok flat
  pub lawful : Lawful flat word
  pub ordered : Ordered flat word clock rising steps
  pub right : AreRight source flat word ss

-- it holds of each such design
abbrev pub OfEach : (Flat → Option ℕ → List Step → List Site → Type 0) → Type 0
OfEach L =
    (source : SourceText) (top : Option Text) (flat : Flat) (word : Option Text) (clock : Option ℕ) (rising : Bool) (steps : List Step) (ss : List Site) →
    IsRepairable source top flat word clock rising steps ss → L flat clock steps ss

-- what a circuit of a cycle reads of an instance without its sites: which bits each driver gives their values and whether it
-- only takes bits, its widths and its sign, and the outputs; only the expression that is evaluated is another
pub record PartsStay : Type 0 where
  pub driven : (flat : Flat) (ss : List Site) (ps : List Pick) (k : ℕ) → driven (instance_flat ss ps flat) k ≡ driven flat k
  pub wires : (flat : Flat) (ss : List Site) (ps : List Pick) (k : ℕ) → wires (instance_flat ss ps flat) k ≡ wires flat k
  pub value : (flat : Flat) (ss : List Site) (ps : List Pick) (k : ℕ) (env : Environment) → driver_value (instance_flat ss ps flat) k env
      ≡ side_value flat (instance_side ss ps (driver_at flat k).value) env
      (max (side_shape flat (driver_at flat k).target).width (side_shape flat (driver_at flat k).value).width) (side_shape flat (driver_at flat k).value).signed
  pub outputs : (flat : Flat) (ss : List Site) (ps : List Pick) (env : Environment) → outputs_of (instance_flat ss ps flat) env ≡ outputs_of flat env
  pub steps : (flat : Flat) (ss : List Site) (ps : List Pick) (s : Step) → (IsStep flat s → IsStep (instance_flat ss ps flat) s) × (IsStep (instance_flat ss ps flat) s → IsStep flat s)

-- before the first step an instance has the values of its design
abbrev pub BasesStay : Type 0
BasesStay =
    OfEach (λ flat clock steps ss. (ps : List Pick) (state : Environment) (row : List ℕ) → base (instance_flat ss ps flat) clock state row ≡ base flat clock state row)

-- performing the steps of the design settles each instance, in the one way in which it is settled
abbrev pub InstancesSettle : Type 0
InstancesSettle =
    OfEach (λ flat clock steps ss. (ps : List Pick) (state env : Environment) (row : List ℕ) →
    (Settled (instance_flat ss ps flat) clock state row env → env ≡ settled_by (instance_flat ss ps flat) clock steps state row)
    × Settled (instance_flat ss ps flat) clock state row (settled_by (instance_flat ss ps flat) clock steps state row))

-- running its clocked blocks one after the other gives its one next state
abbrev pub InstancesGoOn : Type 0
InstancesGoOn =
    OfEach (λ flat clock steps ss. (ps : List Pick) (env next : Environment) →
    (IsNext (instance_flat ss ps flat) env next → next ≡ next_after (instance_flat ss ps flat) env) × IsNext (instance_flat ss ps flat) env (next_after (instance_flat ss ps flat) env))

-- and so its outputs
abbrev pub InstancesRun : Type 0
InstancesRun =
    OfEach (λ flat clock steps ss. (ps : List Pick) (rows outputs : List (List ℕ)) →
    (Run (instance_flat ss ps flat) clock rows outputs → outputs ≡ run_by (instance_flat ss ps flat) clock steps rows)
    × Run (instance_flat ss ps flat) clock rows (run_by (instance_flat ss ps flat) clock steps rows))
