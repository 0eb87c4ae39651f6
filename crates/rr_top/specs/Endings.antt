-- How a command ends: what it leaves, and which text reports it.
use Rattle.std.specs.Prelude.{◌≡◌, ◌⊎◌, ℕ, List}
use Rattle.rr_edge.specs.Faults.{Faulted}
use Rattle.rr_endings.specs.declared.ending.Ending.{Ending}
use Rattle.rr_endings.specs.declared.ending.Ending.TheVariants.{Usage, NoMemory, Absent, ReadFault, WriteFault, OutFault, Refused, Done}
use Rattle.rr_endings.specs.Found.{Answer}
use Rattle.rr_endings.specs.Refusals.{plain_refusal}
use Rattle.rr_endings.specs.Texts.{absent_text, read_fault_text, memory_text, refused_text}
use Rattle.rr_effects.specs.Outside.{Outside, KeepsShelf, KeepsOut}
use Rattle.rr_effects.specs.Reads.{AbsentAt, FaultAt}
use Rattle.rr_effects.specs.Delivery.{Delivers}
use Rattle.rr_top.specs.Commands.{Command, Due, Refuses}

-- how the command ends before its answer is known
abbrev pub StopsEarly : Command → Outside → Outside → Ending → List ℕ → Type 0
StopsEarly command before after (Absent name) text = KeepsShelf before after × KeepsOut before after × AbsentAt before.held command.reads name.now × (text ≡ absent_text name.now)
StopsEarly command before after (ReadFault name) text = (after.held ≡ before.held) × Faulted before.faults after.faults × KeepsOut before after
    × FaultAt before.held command.reads name.now × (text ≡ read_fault_text name.now)
StopsEarly command before after (Refused refusal) text = KeepsShelf before after × KeepsOut before after × Refuses command before.held (plain_refusal refusal)
    × (text ≡ refused_text (plain_refusal refusal))
StopsEarly command before after (NoMemory written) text = (written ≡ 0) × KeepsShelf before after × KeepsOut before after × (text ≡ memory_text)
StopsEarly command before after (WriteFault written) text = ⊥
StopsEarly command before after Usage text = ⊥
StopsEarly command before after OutFault text = ⊥
StopsEarly command before after (Done status) text = ⊥

-- how the command ends: before its answer is known, or as the answer is carried out
abbrev pub CommandEnds : Command → Outside → Outside → Ending → List ℕ → Type 0
CommandEnds command before after ending text = StopsEarly command before after ending text ⊎ ((answer : Answer) × Due command before.held answer × Delivers answer before after ending text)
