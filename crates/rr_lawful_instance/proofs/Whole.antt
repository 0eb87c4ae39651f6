-- An instance of a lawful flat design is lawful.
use Rattle.std.proofs.Common.{◌⊎◌, Bool, true, false, List, [], get_or, Option, Some, None}
use Rattle.std.proofs.Math.Logic.{⊎_elim}
use Rattle.std.proofs.lemmas.List.Elements.{All-nil}
use Rattle.rr_syntax.specs.Tree.{Tree, Trees, Name, Literal, Bit as BitSelect, Part, Indexed, Unary, Binary, Cond, Concat, Repeat, Cast, Paren, End, More, Statement, Statements, Arm, Arms, Null, Block as Sequence, If, IfElse, Case, Assign, For, Done, Then, CaseItem, NoArms, MoreArms}
use Rattle.rr_expr.specs.declared.operators.Infix.TheVariants.{Either}
use Rattle.rr_expr.specs.Faults.{takes_constants}
use Rattle.rr_expr.specs.Operators.{infixes}
use Rattle.rr_flat.specs.Signals.{Text}
use Rattle.rr_flat.specs.Lawful.{ClockNamed}
use Rattle.rr_flat.specs.Plain.{Side, Written, Whole, Flat}
use Rattle.rr_flat.specs.Writers.{driver_at, block_at}
use Rattle.rr_choice.specs.declared.pick.Pick.{Pick}
use Rattle.rr_choice.specs.Sites.{Site}
use Rattle.rr_instance_laws.specs.Tests.{Unless, IsNameAt, IsGuardName, IsGuardNameIn, IsGuardNameOf, IsGuardNameOfAll, IsGuardNameOfArm, IsGuardNameOfArms}
use Rattle.rr_lawful_instance.specs.AreSites.{SideFits}
use Rattle.rr_flat_instance.specs.Flats.{instance_flat}
use Rattle.rr_lawful_instance.proofs.Made.{made}
use Rattle.rr_lawful_instance.specs.Laws.{WritersStay, TargetsStay, LabelsStay, ClockStays, ClockStaysUnread, OneWriterStays, KindsStay, NoRaceStays, NoLatchesStay, RanksStay, InstancesAreLawful, InstancesAreOrdered, NoSitesFit}
use Rattle.rr_lawful_instance.proofs.Clocks.{clock_stays, unread_stays}
use Rattle.rr_lawful_instance.proofs.Designs.{writer_before, writer_after}
use Rattle.rr_lawful_instance.proofs.Ranks.{ranks_stay, order_stays}
use Rattle.rr_lawful_instance.proofs.Writing.{targets_stay, labels_stay, writers_stay, kinds_stay, races_stay, latches_stay}

pub writers : WritersStay
unfolding instance_flat
writers flat word ss ps sites x b = (writer_after ss ps flat word sites x b, writer_before ss ps flat word sites x b)

pub targets : TargetsStay
unfolding instance_flat
targets flat word ss ps sites h = targets_stay ss ps flat word sites h

pub labels : LabelsStay
unfolding instance_flat
labels flat word ss ps sites h = labels_stay ss ps flat word sites h

pub clock : ClockStays
unfolding instance_flat
clock c rising flat word ss ps sites h = clock_stays ss ps flat word sites c rising h

pub unread : ClockStaysUnread
unfolding instance_flat
unread c rising flat word ss ps sites h = (clock_stays ss ps flat word sites c rising h.0, unread_stays ss ps flat word sites c rising h.0 h.1)

pub one_writer : OneWriterStays
unfolding instance_flat
one_writer flat word ss ps sites h = writers_stay ss ps flat word sites h

pub kinds : KindsStay
unfolding instance_flat
kinds flat word ss ps sites h = kinds_stay ss ps flat word sites h

pub no_race : NoRaceStays
unfolding instance_flat
no_race flat word ss ps sites h = races_stay ss ps flat word sites h

pub no_latches : NoLatchesStay
unfolding instance_flat
no_latches flat word ss ps sites h = (writers_stay ss ps flat word sites h.0, latches_stay ss ps flat word sites h.0 h.1)

pub ranks : RanksStay
unfolding instance_flat
ranks flat word ss ps sites h = (writers_stay ss ps flat word sites h.0, ranks_stay ss ps flat word sites h.0 h.1)

-- the word names the same input
named : (flat : Flat) (word : Option Text) (ss : List Site) (ps : List Pick) → ClockNamed flat word → ClockNamed (made ss ps flat) word
named flat None ss ps h = h
named flat (Some name) ss ps h = h

pub lawful : InstancesAreLawful
unfolding instance_flat
lawful flat word ss ps sites l = record {
  named = named flat word ss ps l.named;
  targets = targets_stay ss ps flat word sites l.targets;
  labels = labels_stay ss ps flat word sites l.labels;
  clock = l.clock;
  rising = l.rising;
  one_clock = clock_stays ss ps flat word sites l.clock l.rising l.one_clock;
  unread = unread_stays ss ps flat word sites l.clock l.rising l.one_clock l.unread;
  one_writer = writers_stay ss ps flat word sites l.one_writer;
  kinds = kinds_stay ss ps flat word sites l.kinds;
  no_race = races_stay ss ps flat word sites l.no_race;
  no_latches = latches_stay ss ps flat word sites l.one_writer l.no_latches;
  ranks = ranks_stay ss ps flat word sites l.one_writer l.ranks;
}

pub ordered : InstancesAreOrdered
unfolding instance_flat
ordered c rising steps flat word ss ps sites h = (writers_stay ss ps flat word sites h.0, order_stays ss ps flat word sites h.0 c rising steps h.1)

unless : (c : Bool) (A : Type 0) → Unless c A → (A → ⊥) → ⊥
unless true A h f = h
unless false A h f = f h

-- Without sites nothing stands anywhere

mutual
  unfolding IsGuardName IsNameAt

  no_guard : (t : Tree) (name : Text) → IsGuardName [] t name → ⊥
  no_guard (Name token x) name h = h
  no_guard (Literal token n) name h = h
  no_guard (BitSelect token x i) name h = h
  no_guard (Part token x l r) name h = h
  no_guard (Indexed token x f n up) name h = h
  no_guard (Unary op t) name h = no_guard t name h
  no_guard (Binary op l r) name h = unless (takes_constants (get_or infixes op Either)) (IsGuardName [] l name ⊎ IsGuardName [] r name) h (λ k. ⊎_elim (no_guard l name) (no_guard r name) k)
  no_guard (Cond a b c) name h = ⊎_elim (λ k. ⊎_elim (λ q. q) (no_guard a name) k) (λ k. ⊎_elim (no_guard b name) (no_guard c name) k) h
  no_guard (Concat ts) name h = no_guard_in ts name h
  no_guard (Repeat k ts) name h = no_guard_in ts name h
  no_guard (Cast signed t) name h = no_guard t name h
  no_guard (Paren t) name h = no_guard t name h

  no_guard_in : (ts : Trees) (name : Text) → IsGuardNameIn [] ts name → ⊥
  no_guard_in End name h = h
  no_guard_in (More t ts) name h = ⊎_elim (no_guard t name) (no_guard_in ts name) h

mutual
  unfolding IsGuardNameOf IsNameAt

  no_guard_of : (t : Statement) (name : Text) → IsGuardNameOf [] t name → ⊥
  no_guard_of Null name h = h
  no_guard_of (Sequence label ts) name h = no_guard_of_all ts name h
  no_guard_of (If c t) name h = ⊎_elim (λ k. ⊎_elim (λ q. q) (no_guard c name) k) (no_guard_of t name) h
  no_guard_of (IfElse c t u) name h = ⊎_elim (λ k. ⊎_elim (λ q. q) (no_guard c name) k) (λ k. ⊎_elim (no_guard_of t name) (no_guard_of u name) k) h
  no_guard_of (Case kind on arms) name h = ⊎_elim (no_guard on name) (no_guard_of_arms arms name) h
  no_guard_of (Assign t now e) name h = no_guard e name h
  no_guard_of (For head t) name h = no_guard_of t name h

  no_guard_of_all : (ts : Statements) (name : Text) → IsGuardNameOfAll [] ts name → ⊥
  no_guard_of_all Done name h = h
  no_guard_of_all (Then t ts) name h = ⊎_elim (no_guard_of t name) (no_guard_of_all ts name) h

  no_guard_of_arm : (a : Arm) (name : Text) → IsGuardNameOfArm [] a name → ⊥
  no_guard_of_arm (CaseItem labels colon t) name h = ⊎_elim (no_guard_in labels name) (no_guard_of t name) h

  no_guard_of_arms : (arms : Arms) (name : Text) → IsGuardNameOfArms [] arms name → ⊥
  no_guard_of_arms NoArms name h = h
  no_guard_of_arms (MoreArms a rest) name h = ⊎_elim (no_guard_of_arm a name) (no_guard_of_arms rest name) h

pub no_sites : NoSitesFit
unfolding IsNameAt
no_sites flat word = record {
  drivers = λ k l. by_side (driver_at flat k).value;
  clocked = λ k l. record { names = λ name h. absurd (⊎_elim (λ n. n) (no_guard_of (block_at flat.clocked k).body name) h); targets = All-nil _ };
  combinational = λ k l. record { names = λ name h. absurd (⊎_elim (λ n. n) (no_guard_of (block_at flat.combinational k).body name) h); targets = All-nil _ };
}
  where
    by_side : (side : Side) → SideFits flat word [] side
    by_side (Written t i) = λ name h. absurd (no_guard t name h)
    by_side (Whole id) = tt
