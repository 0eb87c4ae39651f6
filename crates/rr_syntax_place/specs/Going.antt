-- Going on through tokens.
use Rattle.std.specs.Prelude.{◌≤◌, ◌<◌, ◌≡◌}
use Rattle.rr_syntax_place.specs.declared.cursor.Cursor.{Cursor}

-- the same tokens, of which none is given back
abbrev pub Goes : Cursor → Cursor → Type 0
Goes old new = (new.tokens ≡ old.tokens) × (new.end ≡ old.end) × (old.at ≤ new.at)

-- at least one more is taken
abbrev pub Takes : Cursor → Cursor → Type 0
Takes old new = (new.tokens ≡ old.tokens) × (new.end ≡ old.end) × (old.at < old.end) × (old.at < new.at)
