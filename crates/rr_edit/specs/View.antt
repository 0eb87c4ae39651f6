-- What the code's edits stand for.
use Rattle.std.specs.Prelude.{List, map}
use Rattle.rr_edit.specs.declared.edit.Edit.{Edit as Made}
use Rattle.rr_edit.specs.Edits.{Edit}

abbrev pub plain_edit : Made → Edit
plain_edit e = record { from = e.from; to = e.to; text = e.text.items }

abbrev pub plain_edits : List Made → List Edit
plain_edits es = map plain_edit es
