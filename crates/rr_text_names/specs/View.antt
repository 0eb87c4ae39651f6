-- What the lists of a block's names and targets stand for.
use Rattle.std.specs.Prelude.{ℕ}
use Rattle.rr_syntax.specs.Tree.{Identifier}
use Rattle.rr_syntax.specs.View.{plain}
use Rattle.rr_flat.specs.Signals.{Text}
use Rattle.rr_flat.specs.Reads.{Assigned}
use Rattle.rr_text_names.specs.declared.lists.Target.{Target}

abbrev pub plain_target : Target → Assigned
plain_target t = record { part = plain t.part.now; now = t.blocking }

-- a name with the number of its token
abbrev pub named_by : ℕ → Text → Identifier
named_by token text = record { token = token; text = text }
