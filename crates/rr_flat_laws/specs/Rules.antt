-- The rules of the names of loops, in the items of a module (IEEE 1364-2005 section 9.6).
use Rattle.std.specs.Prelude.{◌≡◌, []}
use Rattle.std.specs.List.{AllByRecursion}
use Rattle.rr_syntax.specs.Tree.{ModuleItem, Ports, Nets, Variables, Integers, Parameters, Assigns, Always, Initial, Instances, ModuleDeclaration}
use Rattle.rr_loop_rules.specs.Rules.{LoopNames, loop_names, loop_faults}

-- in the body of an item the names of loops stand where they may
abbrev pub KeepsRules : LoopNames → ModuleItem → Type 0
KeepsRules loops (Ports p) = Unit {0}
KeepsRules loops (Nets signed range list) = Unit {0}
KeepsRules loops (Variables signed range list) = Unit {0}
KeepsRules loops (Integers list) = Unit {0}
KeepsRules loops (Parameters p) = Unit {0}
KeepsRules loops (Assigns pairs) = Unit {0}
KeepsRules loops (Always events body token) = loop_faults loops [] body ≡ []
KeepsRules loops (Initial body token) = loop_faults loops [] body ≡ []
KeepsRules loops (Instances m token overrides list) = Unit {0}

-- those of the loops of the module, in each of its items
abbrev pub KeepRules : ModuleDeclaration → Type 0
KeepRules m = AllByRecursion (KeepsRules (loop_names m)) m.items
