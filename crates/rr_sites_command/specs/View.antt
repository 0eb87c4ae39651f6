-- What the code's files stand for.
use Rattle.rr_syntax.specs.View.{plain_source}
use Rattle.rr_lex.specs.Tokens.{lexemes}
use Rattle.rr_kept.specs.Read.{SourceFile}
use Rattle.rr_run.specs.declared.file.FileDesign.{FileDesign}

abbrev pub source_file : FileDesign → SourceFile
source_file f = record { text = f.expanded.text.items; origins = f.expanded.origins.items; tokens = lexemes f.design.tokens.now; source = plain_source f.design.source.now }
