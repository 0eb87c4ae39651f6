-- What the parts of a flat design stand for as plain data.
use Rattle.std.specs.Prelude.{ℕ, List, map}
use Rattle.rr_syntax.specs.View.{plain, plain_statement, plain_edge}
use Rattle.rr_expr.specs.Scopes.{Names}
use Rattle.rr_flat.specs.declared.signal.Signal.{Signal}
use Rattle.rr_flat.specs.Signals as signals
use Rattle.rr_flat.specs.declared.design.Side as declared_side
use Rattle.rr_flat.specs.declared.design.Side.TheVariants as side
use Rattle.rr_flat.specs.declared.design.Driver.{Driver}
use Rattle.rr_flat.specs.declared.design.Block.{Block}
use Rattle.rr_flat.specs.declared.design.Initial.{Initial}
use Rattle.rr_flat.specs.declared.design.Part as part
use Rattle.rr_flat.specs.Plain as plain_design
use Rattle.rr_flat.specs.Plain.{Written, Whole}

abbrev pub plain_signal : Signal → signals.Signal
plain_signal s = record { instance = s.instance; name = s.name.now; variable = s.variable; port = s.port; range = s.range; signed = s.signed; width = s.width; token = s.token; start = s.start; word = s.word }

abbrev pub plain_side : declared_side.Side → plain_design.Side
plain_side (side.Text e scope) = Written (plain e.now) scope
plain_side (side.Whole id) = Whole id

abbrev pub plain_driver : Driver → plain_design.Driver
plain_driver d = record { target = plain_side d.target; value = plain_side d.value; token = d.token }

abbrev pub plain_block : Block → plain_design.Block
plain_block b = record { body = plain_statement b.body.now; edges = map plain_edge b.edges.now; scope = b.scope; token = b.token }

abbrev pub plain_initial : Initial → plain_design.Initial
plain_initial i = record { body = plain_statement i.body.now; scope = i.scope; token = i.token }

-- a flat design as its lists, with references to trees
pub record Design : Type 0 where
  pub top : ℕ
  pub signals : List Signal
  pub starts : List ℕ
  pub scopes : List Names
  pub drivers : List Driver
  pub clocked : List Block
  pub combinational : List Block
  pub initials : List Initial
  pub walk : List part.Part
  pub inputs : List ℕ
  pub outputs : List ℕ
  pub owners : List ℕ
  pub reached : List ℕ

abbrev pub plain_flat : Design → plain_design.Flat
plain_flat d = record {
  top = d.top;
  signals = map plain_signal d.signals;
  starts = d.starts;
  scopes = d.scopes;
  drivers = map plain_driver d.drivers;
  clocked = map plain_block d.clocked;
  combinational = map plain_block d.combinational;
  initials = map plain_initial d.initials;
  walk = d.walk;
  inputs = d.inputs;
  outputs = d.outputs;
  owners = d.owners;
  reached = d.reached;
}
