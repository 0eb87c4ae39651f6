use Rattle.std.proofs.Common.{◌≡◌, drop}
use Rattle.rr_lex.specs.Tokens.{more, place_of}
use Rattle.rr_lex.specs.Reading.{texts_of}
use Rattle.rr_lex.proofs.words.place_of.Given as goal

abbrev pub invariant-loop-at : goal.invariant-loop-at
invariant-loop-at l = place_of l.text (texts_of l.texts) ≡ more l.at (place_of l.text (texts_of (drop l.at l.texts)))
