-- What the code's files that were read stand for.
use Rattle.rr_syntax.specs.View.{plain_source}
use Rattle.rr_lex.specs.Tokens.{lexemes}
use Rattle.rr_kept.specs.Read.{SourceFile}
use Rattle.rr_lint_file.specs.declared.read.FileText.{FileText}

abbrev pub source_file : FileText → SourceFile
source_file f = record { text = f.expanded.text.items; origins = f.expanded.origins.items; tokens = lexemes f.design.tokens.now; source = plain_source f.design.source.now }
