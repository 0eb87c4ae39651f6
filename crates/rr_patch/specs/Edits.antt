-- The edits of a choice as edits of the bytes of its text.
use Rattle.std.specs.Prelude.{List, [], ◌∷◌, ◌++◌, Option, Some, None}
use Rattle.rr_edit.specs.Edits.{Edit}
use Rattle.rr_lex.specs.Patch as patch
use Rattle.rr_lex.specs.Patch.{New, run_text, token_text}
use Rattle.rr_lex.specs.Tokens.{Lexeme}

-- a token that is replaced: by its new text with a blank on both sides
abbrev pub replaced_edit : Option New → Lexeme → List Edit
replaced_edit None t = []
replaced_edit (Some n) t = record { from = t.start; to = t.end; text = token_text (Some n) [] } ∷ []

-- the run of new tokens behind a token
abbrev pub run_edit : List New → Lexeme → List Edit
run_edit [] t = []
run_edit (n ∷ ns) t = record { from = t.end; to = t.end; text = run_text (n ∷ ns) } ∷ []

-- what is done at each token, as edits of the bytes: for a new text one that replaces the token, and for a run one behind it
unfoldable pub byte_edits : List Lexeme → List patch.Edit → List Edit
byte_edits [] es = []
byte_edits (t ∷ ts) [] = []
byte_edits (t ∷ ts) (e ∷ es) = replaced_edit e.text t ++ (run_edit e.run t ++ byte_edits ts es)
