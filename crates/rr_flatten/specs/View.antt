-- What the records of a walk stand for as plain data.
use Rattle.rr_flatten.specs.declared.settings.Checked.{Checked as DeclaredChecked}
use Rattle.rr_flatten.specs.declared.settings.Connected.{Connected as DeclaredConnected}
use Rattle.rr_flatten.specs.Walk.{Checked, Connected}

abbrev pub plain_checked : DeclaredChecked → Checked
plain_checked c = record { found = c.found; seen = c.seen; given = c.given }

abbrev pub plain_connected : DeclaredConnected → Connected
plain_connected c = record { found = c.found; seen = c.seen }
