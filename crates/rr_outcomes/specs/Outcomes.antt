-- What a design and its table come to, apart from any answer; and which of these an answer tells.
use Rattle.std.specs.Prelude.{◌≡◌, ◌⊎◌, ℕ, ◌*◌, ◌^◌, ◌<◌, List, []}
use Rattle.rr_choice.specs.declared.pick.Pick.{Pick}
use Rattle.rr_choice.specs.Choices.{cost, total_bits, IsChoice}
use Rattle.rr_choice.specs.Sites.{Site}
use Rattle.rr_instance.specs.Instances.{instance_source}
use Rattle.rr_map.specs.Printed.{printed_file, printed_text, ExpandsTo}
use Rattle.rr_kept.specs.Read.{SourceFile}
use Rattle.rr_trace.specs.Tables.{Table}
use Rattle.rr_transition.specs.Cycles.{instance_design}
use Rattle.rr_unroll.specs.Matches.{Matches}
use Rattle.rr_search.specs.Least.{NoneMatches}
use Rattle.rr_endings.specs.Found.{Answer}
use Rattle.rr_repair_output.specs.Texts.{unchanged_text}
use Rattle.rr_repair.specs.Repairs.{IsBeyond, IsOpen, IsRepaired, IsTaken, IsUnchanged, PlainRequest, design_of}

-- ---- of two files
-- both are taken, and the design matches as it is
pub record IsMatching (w : PlainRequest) (design table : List ℕ) : Type 0 where
  pub file : SourceFile
  pub sites : List Site
  pub rows : Table
  pub taken : IsTaken w design table file sites rows
  pub matches : Matches (design_of w file.source) rows

-- both are taken, and some choice gives an instance that matches
pub record IsMendable (w : PlainRequest) (design table : List ℕ) : Type 0 where
  pub file : SourceFile
  pub sites : List Site
  pub rows : Table
  pub taken : IsTaken w design table file sites rows
  pub choice : List Pick
  pub chosen : IsChoice sites choice
  pub matches : Matches (instance_design sites choice (design_of w file.source)) rows

-- both are taken, and these bytes are the file with a choice of so many changes printed into it: the tree of their expansion is its
-- instance, which matches
pub record IsMatchingSource (w : PlainRequest) (design table : List ℕ) (changes : ℕ) (bytes : List ℕ) : Type 0 where
  pub file : SourceFile
  pub sites : List Site
  pub rows : Table
  pub taken : IsTaken w design table file sites rows
  pub choice : List Pick
  pub chosen : IsChoice sites choice
  pub costs : cost choice ≡ changes
  pub matches : Matches (instance_design sites choice (design_of w file.source)) rows
  pub printed : bytes ≡ printed_file design file sites choice
  pub tree : ExpandsTo bytes (printed_text file sites choice) (instance_source sites choice file.source)

-- both are taken, and no choice gives an instance that matches
pub record IsUnmendable (w : PlainRequest) (design table : List ℕ) : Type 0 where
  pub file : SourceFile
  pub sites : List Site
  pub rows : Table
  pub taken : IsTaken w design table file sites rows
  pub none : NoneMatches (design_of w file.source) sites rows

-- both are taken, and each member may learn more than c * 3^c lines, for the c bits that write a choice of the sites
pub record IsAmple (w : PlainRequest) (design table : List ℕ) : Type 0 where
  pub file : SourceFile
  pub sites : List Site
  pub rows : Table
  pub taken : IsTaken w design table file sites rows
  pub ample : total_bits sites * 3 ^ total_bits sites < w.budget

-- ---- of an answer
-- both files are taken, and the answer prints the source as it is, or with the fewest changes that match
pub record IsMended (w : PlainRequest) (design table : List ℕ) (answer : Answer) : Type 0 where
  pub file : SourceFile
  pub sites : List Site
  pub rows : Table
  pub taken : IsTaken w design table file sites rows
  pub is : IsUnchanged w design file.source rows answer ⊎ IsRepaired w design file sites rows answer

-- both files are taken, and the answer tells that no changes match
pub record IsDespaired (w : PlainRequest) (design table : List ℕ) (answer : Answer) : Type 0 where
  pub file : SourceFile
  pub sites : List Site
  pub rows : Table
  pub taken : IsTaken w design table file sites rows
  pub is : IsBeyond w file.source sites rows answer

-- both files are taken, and the answer leaves open whether so many changes match, and prints the source with one change more
-- that were found to match, or nothing
pub record IsLeftOpen (w : PlainRequest) (design table : List ℕ) (answer : Answer) : Type 0 where
  pub file : SourceFile
  pub sites : List Site
  pub rows : Table
  pub taken : IsTaken w design table file sites rows
  pub is : IsOpen w design file sites rows answer

-- the design is printed as it is, and no file is written
pub record IsAsItWas (design : List ℕ) (answer : Answer) : Type 0 where
  pub files : answer.files ≡ []
  pub printed : answer.out ≡ design
  pub notes : answer.notes ≡ unchanged_text
  pub status : answer.status ≡ 0
