-- What is to be done once a command has its answer.
use Rattle.std.specs.Prelude.{ℕ, List}

-- a name with the bytes that are to stand under it
abbrev pub File : Type 0
File = List ℕ × List ℕ

-- the files to be written, in order, the piece for standard output, the text for standard error, and the status
pub record Answer : Type 0 where
  pub status : ℕ
  pub files : List File
  pub out : List ℕ
  pub notes : List ℕ
