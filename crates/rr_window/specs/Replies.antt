-- What is kept of the outcome of a question over a window.
use Rattle.std.specs.Prelude.{⊤, List}
use Rattle.rr_choice.specs.Choices.{IsChoice}
use Rattle.rr_choice.specs.Sites.{Site}
use Rattle.rr_window.specs.declared.asking.Mended.{Mended as RustMended}
use Rattle.rr_window.specs.declared.asking.Reply.{Reply}
use Rattle.rr_window.specs.declared.asking.Reply.TheVariants.{Mended, Refuted, Open}
use Rattle.rr_window.specs.declared.proposing.Tried.{Tried}
use Rattle.rr_window.specs.declared.proposing.Tried.TheVariants.{Whole, Missed}

-- both choices are of the sites
abbrev pub AreOf : List Site → RustMended → Type 0
AreOf sites m = IsChoice sites m.choice.picks.items × IsChoice sites m.plain.picks.items

-- a choice is one among the sites
abbrev pub IsReply : List Site → Reply → Type 0
IsReply sites (Mended m) = AreOf sites m
IsReply sites Refuted = ⊤
IsReply sites Open = ⊤

-- a choice that mends the whole table is one among the sites
abbrev pub IsTried : List Site → Tried → Type 0
IsTried sites (Whole choice) = IsChoice sites choice.picks.items
IsTried sites (Missed row) = ⊤
