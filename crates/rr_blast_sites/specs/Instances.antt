-- The values of the instance of an expression, from what the wires of the signals and of the choice carry.
use Rattle.std.specs.Prelude.{◌≡◌, ℕ, Bool, not, if◌then◌else◌, Option, Some, None, List, [], length}
use Rattle.rr_circuit.specs.Values.{Netlist, AreWires}
use Rattle.rr_bits.specs.Words.{is_zero, word}
use Rattle.rr_syntax.specs.Tree.{Tree, Trees}
use Rattle.rr_expr.specs.declared.types.Bit.{Bit}
use Rattle.rr_expr.specs.declared.types.Shape.{Shape}
use Rattle.rr_expr.specs.Scopes.{Names, env_of_lists}
use Rattle.rr_expr.specs.Values.{form, value, values}
use Rattle.rr_syntax.specs.declared.token.Number.{Number}
use Rattle.rr_choice.specs.declared.pick.Pick.{Pick}
use Rattle.rr_choice.specs.Sites.{Site}
use Rattle.rr_choice.specs.Choices.{decode, total_bits}
use Rattle.rr_choice.specs.Places.{find_pick, is_literal_at}
use Rattle.rr_instance.specs.Instances.{instance_tree, instance_parts, instance_test}
use Rattle.rr_instance_laws.specs.Truth.{is_true}
use Rattle.rr_blast_sites.specs.declared.inputs.Inputs.{Inputs}
use Rattle.rr_word_gates.specs.Carried.{Carries}
use Rattle.rr_blast_sites.specs.Signals.{AreSignals, signal_values}

-- the sites, none where all stays as it is
abbrev pub listed : Inputs → List Site
listed i = if i.still then [] else i.sites.now

-- the wires of the signals and of the choice are wires of the circuit, and there is one for each bit of the choice
pub record HasWires (n : Netlist) (i : Inputs) : Type 0 where
  pub signals : AreSignals n i.signals.now
  pub choice : AreWires n i.choice.now
  pub room : length i.choice.now ≡ total_bits (listed i)

-- what wires carry for each input: the bits of each signal, and the choice
pub record World : Type 0 where
  pub signals : (ℕ → Bool) → List (List Bool)
  pub choice : (ℕ → Bool) → List Bool

pub record Reads (n : Netlist) (i : Inputs) (W : World) : Type 0 where
  pub wires : HasWires n i
  pub signals : (input : ℕ → Bool) → signal_values n input i.signals.now ≡ W.signals input
  pub choice : Carries n i.choice.now W.choice

-- names, sites and such a world
pub record Place : Type 0 where
  pub names : Names
  pub sites : List Site
  pub world : World

abbrev pub place_of : Inputs → World → Place
place_of i W = record { names = i.scope.now; sites = listed i; world = W }

-- the environment of an input, and the instance of a tree
abbrev pub env_in : Place → (ℕ → Bool) → Bit → Bool
env_in p input = env_of_lists (p.world.signals input)

abbrev pub made_in : Place → (ℕ → Bool) → Tree → Tree
made_in p input t = instance_tree p.sites (decode p.sites (p.world.choice input)) t

-- the value of the instance in a context
unfoldable pub worth : Place → Tree → Shape → (ℕ → Bool) → List Bool
worth p t context input = value p.names (made_in p input t) (env_in p input) context.width context.signed

-- by itself; the instance has the shape of the expression
abbrev pub own_worth : Place → Tree → (ℕ → Bool) → List Bool
own_worth p t input = worth p t (form p.names t) input

-- whether it is true, without and with a guard round it
abbrev pub truth : Place → Tree → (ℕ → Bool) → Bool
truth p t input = not (is_zero (own_worth p t input))

unfoldable pub test_truth : Place → Tree → (ℕ → Bool) → Bool
test_truth p t input = is_true p.names (instance_test p.sites (decode p.sites (p.world.choice input)) t) (env_in p input)

-- the values of the instances of parts, the first with the top bits
unfoldable pub parts_worth : Place → Trees → (ℕ → Bool) → List Bool
parts_worth p ts input = values p.names (instance_parts p.sites (decode p.sites (p.world.choice input)) ts) (env_in p input)

-- the same names and signals without sites: of what stays in every instance
abbrev pub unchanged : Place → Place
unchanged p = record { names = p.names; sites = []; world = record { signals = p.world.signals; choice = λ input. [] } }

-- a literal in the instance, in its own width
abbrev pub new_value : Option (Site × Pick) → ℕ → ℕ
new_value None value = value
new_value (Some (s, p)) value = if p.on then p.value else value

unfoldable pub literal_worth : Place → ℕ → Number → (ℕ → Bool) → List Bool
literal_worth p token n input = word n.width (new_value (find_pick (is_literal_at token) p.sites (decode p.sites (p.world.choice input))) n.value)
