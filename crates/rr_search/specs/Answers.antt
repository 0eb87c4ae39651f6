-- What a search for a least repair answers, and what each answer says of a design. The circuits are those of AIGER, their
-- formulas those of Tseitin, and the lines those of LRAT.
use Rattle.std.specs.Prelude.{◌≡◌, ℕ, ◌+◌, ◌-◌, ◌<◌, ◌≤◌, List, length, map, Option, None, Some}
use Rattle.rr_circuit.specs.Values.{OutputNetlist}
use Rattle.rr_derive.specs.Derive.{Step, Refutes}
use Rattle.rr_derive.specs.Lrat.{AreWritable}
use Rattle.rr_choice.specs.declared.pick.Choice.{Choice}
use Rattle.rr_choice.specs.declared.pick.Pick.{Pick}
use Rattle.rr_choice.specs.Choices.{cost, total_bits, IsChoice}
use Rattle.rr_choice.specs.Sites.{Site}
use Rattle.rr_members.specs.Searched.{IsSpent}
use Rattle.rr_search.specs.declared.answer.Answer.{Answer}
use Rattle.rr_search.specs.declared.answer.Answer.TheVariants.{Unchanged, Repair, NoRepair, Spent}
use Rattle.rr_search.specs.declared.answer.Job.{Job}
use Rattle.rr_search.specs.Least.{Least, NoneMatches}
use Rattle.rr_trace.specs.Tables.{Table}
use Rattle.rr_trace.specs.View.{plain_table}
use Rattle.rr_transition.specs.Cycles.{Cycle, Design, instance_design, switch_places}
use Rattle.rr_transition.specs.Transitions.{Transition}
use Rattle.rr_tseitin.specs.Tseitin.{formula_of}
use Rattle.rr_unroll.specs.Faithful.{Faithful}
use Rattle.rr_unroll.specs.Matches.{FitsOutputs, Matches}

-- what is asked: sites of a design, what stands for its cycle, a table, and how many members of a search may learn how many
-- lines each for one question
pub record Task : Type 0 where
  pub sites : List Site
  pub transition : Transition
  pub table : Table
  pub members : ℕ
  pub budget : ℕ

abbrev pub task_of : Job → Task
task_of job = record {
  sites = job.list.now;
  transition = job.transition.now;
  table = plain_table job.table.now;
  members = job.members;
  budget = job.budget;
}

-- the design has these sites, its cycle is that of the transition, and the table is one for its outputs
pub record IsOf (t : Task) (j : Design) : Type 0 where
  pub stands : Cycle j t.sites t.transition
  pub fits : FitsOutputs t.transition.output_widths t.table

-- choices without their addresses
abbrev pub plain_choices : List Choice → List (List Pick)
plain_choices choices = map (λ c. c.picks.items) choices

-- the transition has the choice bits and the switches of the sites, and 1 to 8 members may learn a line or more
pub record IsTask (t : Task) : Type 0 where
  pub bits : t.transition.choice_bits ≡ total_bits t.sites
  pub switches : t.transition.switches ≡ switch_places 0 t.sites
  pub some : 1 ≤ t.members
  pub most : t.members ≤ 8
  pub budget : 1 ≤ t.budget

-- the instance of the choice runs as the table expects
abbrev pub Mends : Design → Task → List Pick → Type 0
Mends j t c = Matches (instance_design t.sites c j) t.table

-- the circuit asks whether at most so many changes mend the design, and the lines, which have a text, show that they do not
pub record IsRefuted (j : Design) (t : Task) (bound : ℕ) (circuit : OutputNetlist) (lines : List Step) : Type 0 where
  pub faithful : Faithful circuit j t.sites t.table bound
  pub refuted : Refutes (formula_of circuit).clauses lines
  pub lawful : AreWritable (formula_of circuit) lines

-- a choice of cost k that mends the design, which does not match as it is; k is the least cost, and it is refuted that fewer
-- changes do
pub record IsRepair (j : Design) (t : Task) (c : List Pick) (k : ℕ) (circuit : OutputNetlist) (lines : List Step) : Type 0 where
  pub faulty : Matches j t.table → ⊥
  pub choice : IsChoice t.sites c
  pub costs : cost c ≡ k
  pub some : 1 ≤ k
  pub mends : Mends j t c
  pub least : Least j t.sites t.table k
  pub fewer : IsRefuted j t (k - 1) circuit lines

-- no choice mends the design, which does not match as it is, and it is refuted that changes of all sites do
pub record IsBeyondRepair (j : Design) (t : Task) (circuit : OutputNetlist) (lines : List Step) : Type 0 where
  pub faulty : Matches j t.table → ⊥
  pub none : NoneMatches j t.sites t.table
  pub all : IsRefuted j t (length t.sites) circuit lines

-- fewer changes than there are sites are left open, and this choice of one change more mends the design; nothing says that it
-- is least
pub record IsFound (j : Design) (t : Task) (bound : ℕ) (c : List Pick) : Type 0 where
  pub below : bound < length t.sites
  pub choice : IsChoice t.sites c
  pub costs : cost c ≡ bound + 1
  pub mends : Mends j t c

-- what was found where so many changes are left open: such a choice, or none, where these are changes of all sites
abbrev pub FoundIs : Design → Task → ℕ → Option Choice → Type 0
FoundIs j t bound None = bound ≡ length t.sites
FoundIs j t bound (Some choice) = IsFound j t bound choice.picks.items

-- the design does not match as it is, and the question whether so many changes mend it is open: each member has learned
-- exactly as many fresh lines as it may, which derive from the question's formula
pub record IsLeftOpen (j : Design) (t : Task) (bound : ℕ) (circuit : OutputNetlist) (lines : List Step) (choice : Option Choice) : Type 0 where
  pub faulty : Matches j t.table → ⊥
  pub few : bound ≤ length t.sites
  pub faithful : Faithful circuit j t.sites t.table bound
  pub spent : IsSpent (formula_of circuit) circuit.netlist.inputs t.members t.budget lines
  pub found : FoundIs j t bound choice

-- the design matches as it is, so the least cost is 0
pub record IsFine (j : Design) (t : Task) : Type 0 where
  pub matches : Matches j t.table
  pub least : Least j t.sites t.table 0

-- what an answer says of a design
abbrev pub AnswerIs : Task → Design → Answer → Type 0
AnswerIs t j Unchanged = IsFine j t
AnswerIs t j (Repair choice k circuit journal) = IsRepair j t choice.picks.items k circuit journal.lines
AnswerIs t j (NoRepair circuit journal) = IsBeyondRepair j t circuit journal.lines
AnswerIs t j (Spent bound circuit journal found) = IsLeftOpen j t bound circuit journal.lines found

-- the design is not to be changed
abbrev pub IsUnchanged : Answer → Type 0
IsUnchanged Unchanged = Unit {0}
IsUnchanged (Repair choice k circuit journal) = ⊥
IsUnchanged (NoRepair circuit journal) = ⊥
IsUnchanged (Spent bound circuit journal found) = ⊥

-- what is left open is whether fewer than k changes do
abbrev pub IsOpenBelow : ℕ → Answer → Type 0
IsOpenBelow k Unchanged = Unit {0}
IsOpenBelow k (Repair choice cost circuit journal) = Unit {0}
IsOpenBelow k (NoRepair circuit journal) = Unit {0}
IsOpenBelow k (Spent bound circuit journal found) = bound < k
