-- The text of a refusal: its number, its name and its place.
use Rattle.std.specs.Prelude.{ℕ, List, ◌++◌, codes, decimal}
use Rattle.rr_flat.specs.declared.fault.Limit.{Limit}
use Rattle.rr_flat.specs.declared.fault.Limit.TheVariants as limit
use Rattle.rr_run.specs.declared.fault.Fault.{Fault}
use Rattle.rr_run.specs.declared.fault.Fault.TheVariants as fault
use Rattle.rr_run.specs.Refusals.{Refusal, At, TooMany, Expanded, NoHeader, UnknownColumn, ColumnTwice, MissingInput, RowLength, BadCell, CellTooLarge, NotUtf8, BadVcd, NoScope}

abbrev pub fault_text : Fault → List ℕ
fault_text fault.BadByte = codes "1 BadByte"
fault_text fault.BadNumber = codes "2 BadNumber"
fault_text fault.OpenComment = codes "3 OpenComment"
fault_text fault.Directive = codes "4 Directive"
fault_text fault.Unsupported = codes "5 Unsupported"
fault_text fault.Syntax = codes "6 Syntax"
fault_text fault.NoTop = codes "7 NoTop"
fault_text fault.UnknownModule = codes "8 UnknownModule"
fault_text fault.SelfInstance = codes "9 SelfInstance"
fault_text fault.NameTwice = codes "10 NameTwice"
fault_text fault.UnknownName = codes "11 UnknownName"
fault_text fault.BadRange = codes "12 BadRange"
fault_text fault.NotConstant = codes "13 NotConstant"
fault_text fault.PortMismatch = codes "14 PortMismatch"
fault_text fault.TooWide = codes "15 TooWide"
fault_text fault.TwoDrivers = codes "17 TwoDrivers"
fault_text fault.WrongAssign = codes "18 WrongAssign"
fault_text fault.Race = codes "19 Race"
fault_text fault.Latch = codes "20 Latch"
fault_text fault.Loop = codes "21 Loop"
fault_text fault.ClockUse = codes "22 ClockUse"
fault_text fault.TwoClocks = codes "23 TwoClocks"
fault_text fault.BadTarget = codes "24 BadTarget"
fault_text fault.WildLabel = codes "25 WildLabel"
fault_text fault.BadLoop = codes "37 BadLoop"
fault_text fault.UnknownMacro = codes "38 UnknownMacro"
fault_text fault.BadDirective = codes "39 BadDirective"
fault_text fault.MacroLoop = codes "40 MacroLoop"
fault_text fault.FromMacro = codes "43 FromMacro"

-- what is counted
abbrev pub limit_text : Limit → List ℕ
limit_text limit.Bytes = codes "bytes"
limit_text limit.Rows = codes "rows"
limit_text limit.Sites = codes "sites"
limit_text limit.Instances = codes "instances"
limit_text limit.Depth = codes "depth"
limit_text limit.FlatBits = codes "flatbits"
limit_text limit.Work = codes "work"
limit_text limit.Turns = codes "turns"
limit_text limit.Unfolded = codes "unfolded"
limit_text limit.Words = codes "words"

abbrev pub place_text : ℕ → ℕ → List ℕ
place_text row column = codes " row " ++ (decimal row ++ (codes " column " ++ decimal column))

-- row 0 is the header, columns count from 0, lines of a dump from 1
abbrev pub refusal_text : Refusal → List ℕ
refusal_text (At what at) = fault_text what ++ (codes " at " ++ decimal at)
refusal_text (TooMany limit count) = codes "16 TooMany " ++ (limit_text limit ++ (codes " " ++ decimal count))
refusal_text (Expanded count) = codes "16 TooMany expanded " ++ decimal count
refusal_text NoHeader = codes "26 NoHeader row 0"
refusal_text (UnknownColumn column) = codes "27 UnknownColumn row 0 column " ++ decimal column
refusal_text (ColumnTwice column) = codes "28 ColumnTwice row 0 column " ++ decimal column
refusal_text (MissingInput name) = codes "29 MissingInput input " ++ name
refusal_text (RowLength row) = codes "30 RowLength row " ++ decimal row
refusal_text (BadCell row column) = codes "31 BadCell" ++ place_text row column
refusal_text (CellTooLarge row column) = codes "32 CellTooLarge" ++ place_text row column
refusal_text NotUtf8 = codes "33 NotUtf8"
refusal_text (BadVcd line) = codes "41 BadVcd line " ++ decimal line
refusal_text NoScope = codes "42 NoScope"
