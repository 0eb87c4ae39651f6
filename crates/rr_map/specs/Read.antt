-- What the code's files that were read stand for.
use Rattle.rr_syntax.specs.View.{plain_source}
use Rattle.rr_lex.specs.Tokens.{lexemes}
use Rattle.rr_kept.specs.Read.{SourceFile}
use Rattle.rr_map.specs.declared.printing.ReadFile.{ReadFile}

abbrev pub source_file : ReadFile → SourceFile
source_file f = record { text = f.expanded.now.text.items; origins = f.expanded.now.origins.items; tokens = lexemes f.tokens.now; source = plain_source f.source.now }
