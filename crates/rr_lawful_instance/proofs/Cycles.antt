-- The cycles of the instances of a lawful flat design.
use Rattle.std.proofs.Common.{◌≡◌, ℕ, Bool, true, false, cond, ◌||◌, ◌&&◌, List, [], ◌∷◌, length, map, Option, refl, ap, suc, ◌<◌, nat_lt, arith}
use mathlib.Core.Path.{fun_ext}
use Rattle.rr_syntax.specs.Tree.{SourceText}
use Rattle.rr_expr.specs.declared.types.Bit.{Bit}
use Rattle.rr_flat.specs.Signals.{Text, signal_at}
use Rattle.rr_flat.specs.declared.design.Step.{Step}
use Rattle.rr_flat.specs.Lawful.{Lawful}
use Rattle.rr_flat.specs.Ordered.{Ordered}
use Rattle.rr_flat.specs.Plain.{Block, Flat}
use Rattle.rr_flat.specs.Writers.{block_at, Writer, Writes}
use Rattle.rr_flat_instance.specs.Flats.{instance_block, instance_flat}
use Rattle.rr_flat_instance.proofs.Whole.{instances_flatten}
use Rattle.rr_flatten.proofs.WalkOf.{sound}
use Rattle.rr_cycle.specs.Cycles.{IsInputBit, Settled, IsNext, Runs, ended, cycle, beginning, given}
use Rattle.rr_flat.specs.Inputs.{row_inputs}
use Rattle.rr_cycle.specs.Exec.{Environment}
use Rattle.rr_cycle.specs.Performing.{base, any_writes, any_is, next_after, settled_by}
use Rattle.rr_cycle.proofs.Free.{free_inputs}
use Rattle.rr_cycle.proofs.Ranked.{one_settled, run_once}
use Rattle.rr_cycle.proofs.Sequence.{next_in_order, only_next}
use Rattle.rr_cycle.proofs.Settling.{settled_by_steps}
use Rattle.rr_choice.specs.declared.pick.Pick.{Pick}
use Rattle.rr_choice.specs.Sites.{Site}
use Rattle.rr_lawful_instance.specs.AreSites.{MayGuard, BlockFits, AreSitesOf}
use Rattle.rr_lawful_instance.specs.Cycling.{outputs_by}
use Rattle.rr_lawful_instance.specs.Laws.{IsRepairable, ListedAreSites, InstancesStayLawful, BasesStay, InstancesSettle, InstancesGoOn, InstancesRun}
use Rattle.rr_lawful_instance.proofs.Designs.{block_writes, writer_before}
use Rattle.rr_lawful_instance.proofs.Listing.{listed, listed_fit}
use Rattle.rr_lawful_instance.proofs.Made.{made}
use Rattle.rr_lawful_instance.proofs.Whole.{lawful, ordered}

pub listed_are_sites : ListedAreSites
listed_are_sites source top flat word ss e t r = (listed source top flat word ss e r, listed_fit source top flat word ss e t r)

pub stays_lawful : InstancesStayLawful
stays_lawful source top flat word clock rising steps ss ps e l o r =
    let sites = listed source top flat word ss e r in (
      instances_flatten ss ps source top flat e (listed_fit source top flat word ss e l.targets r),
      lawful flat word ss ps sites l,
      (ordered clock rising steps flat word ss ps sites (l.one_writer, o)).1,
    )

-- Before the first step

module _ (flat : Flat) (word : Option Text) (ss : List Site) (ps : List Pick) where
  same_writes : (blocks : List Block) → ((k : ℕ) → k < length blocks → BlockFits (MayGuard flat word (block_at blocks k).scope) ss (block_at blocks k)) → (b : Bit) →
      any_writes (made ss ps flat) (map (instance_block ss ps) blocks) b ≡ any_writes flat blocks b
  unfolding any_writes
  same_writes [] f b = refl
  same_writes (block ∷ blocks) f b = λ i.
      (block_writes ss ps flat (MayGuard flat word block.scope) block (f 0 (omega arith)) true b i || block_writes ss ps flat (MayGuard flat word block.scope) block (f 0 (omega arith)) false b i)
      || same_writes blocks (λ k l. f (suc k) (omega (arith, l))) b i

-- the sites of a source are those of its flat design
module _ (source : SourceText) (top : Option Text) (flat : Flat) (word : Option Text) (clock : Option ℕ) (rising : Bool) (steps : List Step) (ss : List Site) (r : IsRepairable source top flat word clock rising steps ss) where
  its_sites : AreSitesOf flat word ss
  its_sites = listed source top flat word ss r.elaborated r.right

pub bases_stay : BasesStay
unfolding base instance_flat
bases_stay source top flat word clock rising steps ss r ps state row = fun_ext (λ b.
    ap (λ w. cond w (state b) (cond (any_is flat.inputs b.signal && nat_lt b.place (signal_at flat.signals b.signal).width) (given (row_inputs clock flat.inputs) row b) (beginning flat b)))
    (same_writes flat word ss ps flat.clocked (its_sites source top flat word clock rising steps ss r).clocked b))

-- Settled environments, next states and runs

module _ (source : SourceText) (top : Option Text) (flat : Flat) (word : Option Text) (clock : Option ℕ) (rising : Bool) (steps : List Step) (ss : List Site) (r : IsRepairable source top flat word clock rising steps ss) (ps : List Pick) where
  abbrev new : Flat
  new = instance_flat ss ps flat

  sites : AreSitesOf flat word ss
  sites = its_sites source top flat word clock rising steps ss r

  new_lawful : Lawful new word
  new_lawful = lawful flat word ss ps sites r.lawful

  new_ordered : Ordered new word clock rising steps
  new_ordered = (ordered clock rising steps flat word ss ps sites (r.lawful.one_writer, r.ordered)).1

  inputs_free : (b : Bit) → IsInputBit new b → (x : Writer) → Writes new x b → ⊥
  unfolding instance_flat
  inputs_free b i x w = free_inputs flat (sound source top flat r.elaborated) (word, r.lawful) b i x (writer_before ss ps flat word sites x b w)

  settles : (state : Environment) (row : List ℕ) → Settled new clock state row (settled_by new clock steps state row)
  settles state row = settled_by_steps new word clock rising steps new_lawful new_ordered inputs_free state row

  goes_on : (env : Environment) → IsNext new env (next_after new env)
  unfolding instance_flat
  goes_on env = next_in_order new new_lawful.no_race new_lawful.one_writer (sound source top flat r.elaborated).variables env

  runs : (rows : List (List ℕ)) (state : Environment) → (last : Environment) × Runs new clock state rows (outputs_by new clock steps state rows) last
  unfolding outputs_by
  runs [] state = (state, ended)
  runs (row ∷ rows) state =
      let env = settled_by new clock steps state row in
      let rest = runs rows (next_after new env) in
      (rest.0, cycle env (next_after new env) (settles state row) (goes_on env) rest.1)

pub instances_settle : InstancesSettle
instances_settle source top flat word clock rising steps ss r ps state env row =
    let s = settles source top flat word clock rising steps ss r ps state row in
    (λ h. one_settled (instance_flat ss ps flat) word (new_lawful source top flat word clock rising steps ss r ps) clock state row env (settled_by (instance_flat ss ps flat) clock steps state row) h s, s)

pub instances_go_on : InstancesGoOn
instances_go_on source top flat word clock rising steps ss r ps env next =
    let goes = goes_on source top flat word clock rising steps ss r ps env in
    (λ h. only_next (instance_flat ss ps flat) env next (next_after (instance_flat ss ps flat) env) h goes, goes)

pub instances_run : InstancesRun
instances_run source top flat word clock rising steps ss r ps rows outputs =
    let start : Environment = beginning (instance_flat ss ps flat) in
    let run = runs source top flat word clock rising steps ss r ps rows start in
    (λ h. run_once (instance_flat ss ps flat) word (new_lawful source top flat word clock rising steps ss r ps) clock rows outputs (outputs_by (instance_flat ss ps flat) clock steps start rows) h run, run)
