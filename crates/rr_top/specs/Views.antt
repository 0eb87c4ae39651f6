-- What contracts see of the program's own types, and of answers.
use Rattle.std.specs.Prelude.{◌≡◌, ℕ, List, Result, Ok, Err}
use Rattle.rr_words.specs.Usage.{usage_text}
use Rattle.rr_words.specs.declared.read.WordsFault.{WordsFault}
use Rattle.rr_words.specs.declared.read.WordsFault.TheVariants as words_fault
use Rattle.rr_endings.specs.declared.ending.Ending.{Ending}
use Rattle.rr_endings.specs.declared.ending.Ending.TheVariants.{Usage, NoMemory}
use Rattle.rr_endings.specs.declared.found.Found.{Found}
use Rattle.rr_endings.specs.declared.refusal.Stop.{Stop}
use Rattle.rr_endings.specs.Texts.{memory_text}
use Rattle.rr_endings.specs.Views.{plain_answer, StopsWhere}
use Rattle.rr_top.specs.Commands.{Command}

-- what is said of words that name no command, or for which memory ran out
abbrev pub SaysWhy : WordsFault → Ending → List ℕ → Type 0
SaysWhy words_fault.Usage ending text = (ending ≡ Usage) × (text ≡ usage_text)
SaysWhy words_fault.Memory ending text = (ending ≡ NoMemory 0) × (text ≡ memory_text)

-- the command's answer for these files, or why it has none
abbrev pub Gives : Command → List (List ℕ) → Result Found Stop → Type 0
Gives command files (Ok found) = command.answers files (plain_answer found)
Gives command files (Err stop) = StopsWhere (command.refuses files) stop
