-- What is said of where a statement begins.
use Rattle.std.specs.Prelude.{◌≡◌, length, min, Some, None}
use Rattle.rr_syntax.specs.Statements.{spell_statement, spell_statements}
use Rattle.rr_syntax.specs.Tree.{Statement, Statements}
use Rattle.rr_instance.specs.declared.firsts.Start.{Start}
use Rattle.rr_instance.specs.declared.firsts.Start.TheVariants.{Told, Silent}
use Rattle.rr_instance.specs.Firsts.{told, told_of}

-- the number that is told or, where none is, the count of the tokens, as far as 64 bits hold it
abbrev pub IsBeginning : Start → Statement → Type 0
IsBeginning (Told at) t = told t ≡ Some at
IsBeginning (Silent count) t = (told t ≡ None) × (count ≡ min (length (spell_statement t)) 18446744073709551615)

abbrev pub AreBeginning : Start → Statements → Type 0
AreBeginning (Told at) ts = told_of ts ≡ Some at
AreBeginning (Silent count) ts = (told_of ts ≡ None) × (count ≡ min (length (spell_statements ts)) 18446744073709551615)
