-- a design without a part, and the transition that stands for it: no bit, no input, no output
use Rattle.std.proofs.Common.{◌≡◌, ℕ, List, [], ◌∷◌, Bool, true, None, Ok, refl, sym, subst, arith}
use Rattle.rr_syntax.specs.Tree.{ModuleDeclaration, SourceText}
use Rattle.rr_expr.specs.Scopes.{lookup}
use Rattle.rr_declarations.specs.Declarations.{brackets, declarations}
use Rattle.rr_flat.specs.Faults.{each}
use Rattle.rr_declarations.specs.Heads.{declared, declared_in_order, head, joined, numbered, with_signals}
use Rattle.rr_declarations.specs.Parameters.{parameters}
use Rattle.rr_flatten.specs.Tables.{add_module, instantiated_by, last_free}
use Rattle.rr_flatten.specs.Walk.{begin, enter, enter_by, flat_by, flat_of, reached_from, top_ports}
use Rattle.rr_flat.specs.Writers.{Clocked}
use Rattle.rr_choice.specs.Choices.{decode, total_bits}
use Rattle.rr_instance.specs.Instances.{instance_source, instance_module}
use Rattle.rr_choice.specs.Sites.{Site}
use Rattle.rr_transition.specs.Cycles.{Design, Cycle, HasCycles, instance_design, switch_places}
use Rattle.rr_transition.specs.Placed.{PerformsSteps}
use Rattle.rr_transition.specs.Transitions.{Transition, IsTransition}
use Rattle.rr_cycle.proofs.EmptyDesign.{empty, lawful, nothing_written, ordered}
use Rattle.rr_transition.proofs.PlacedLaws.{cycles_from_steps}

abbrev empty_module : ModuleDeclaration
empty_module = record { text = []; token = 0; params = []; header = None; groups = []; items = [] }

abbrev empty_source : SourceText
empty_source = record { modules = empty_module ∷ [] }

elaborated : flat_of empty_source None ≡ Ok empty
unfolding flat_by each add_module lookup last_free instantiated_by enter enter_by begin head parameters declared brackets declarations numbered joined declared_in_order with_signals top_ports reached_from
elaborated = refl

abbrev nothing : Design
nothing = record { source = empty_source; top = None; word = None }

abbrev no_bits : Transition
no_bits = record {
  circuit = record { netlist = record { inputs = 0; gates = [] }; outputs = [] };
  choice_bits = 0;
  state_bits = 0;
  input_bits = 0;
  start = [];
  switches = [];
  input_widths = [];
  output_widths = [];
}

same : (choice : List Bool) → instance_design [] (decode [] choice) nothing ≡ nothing
unfolding instance_source instance_module decode
same choice = refl

performs : (choice : List Bool) → PerformsSteps nothing None true [] no_bits [] choice
performs choice = record {
  flat = empty;
  design = elaborated;
  lawful = lawful;
  ordered = ordered;
  input_widths = refl;
  output_widths = refl;
  start = refl;
  narrow = λ id. omega arith;
  written = λ k b w. absurd (nothing_written (Clocked k) b w);
  bits = λ state row l m. refl;
}

stands : Cycle nothing [] no_bits
unfolding total_bits switch_places
stands = record {
  choice_bits = refl;
  switches = refl;
  registers = [];
  state_bits = refl;
  instances = λ choice l. subst (λ j. HasCycles j no_bits [] choice) (sym (same choice)) (cycles_from_steps nothing None true [] no_bits [] choice (performs choice));
}

lawful_transition : IsTransition no_bits
lawful_transition = record {
  inputs = refl;
  outputs = refl;
  few = omega arith;
  input_bits = refl;
  start = refl;
  switches = λ k d l. absurd (omega arith);
}

pub cycle_met : (j : Design) × ((sites : List Site) × ((t : Transition) × (Cycle j sites t × IsTransition t)))
cycle_met = (nothing, ([], (no_bits, (stands, lawful_transition))))
