-- The design as it is, of which a window is asked.
use Rattle.std.specs.Prelude.{Bool, false, List, replicate}
use Rattle.rr_transition.specs.Transitions.{Transition}

-- the bits of the choice that changes nothing: all switches are off
abbrev pub off : Transition → List Bool
off t = replicate t.choice_bits false
