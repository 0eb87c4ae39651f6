-- What places and names stand for as plain data.
use Rattle.rr_syntax.specs.declared.site.ModulePlace.{ModulePlace}
use Rattle.rr_syntax.specs.View.{texts}
use Rattle.rr_clock.specs.declared.places.ClockName.{ClockName as DeclaredName}
use Rattle.rr_clock.specs.Places.{Place, ClockName}

abbrev pub plain_place : ModulePlace → Place
plain_place p = record { owner = p.«module»; clocks = texts p.clocks.now }

abbrev pub plain_name : DeclaredName → ClockName
plain_name c = record { owner = c.owner; name = c.name.now }
