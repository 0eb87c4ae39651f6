-- Where the name of a loop may stand (IEEE 1364-2005 section 9.6): inside its loops as a value, and nowhere else.
use Rattle.std.specs.Prelude.{ℕ, List, [], ◌∷◌, ◌++◌, Bool, not, ◌&&◌, if◌then◌else◌, fold, flat_map, map}
use Rattle.std.specs.List.{list_any}
use Rattle.std.specs.Str.{bytes_eq}
use Rattle.rr_syntax.specs.Tree.{Tree, Trees, Name, Literal, Bit as BitSelect, Part, Indexed, Unary, Binary, Cond, Concat, Repeat, Cast, Paren, End, More, Identifier, LoopHead, Statement, Statements, Arm, Arms, Null, Block, If, IfElse, Case, Assign, For, Done, Then, CaseItem, NoArms, MoreArms, ModuleItem, Ports, Nets, Variables, Integers, Parameters, Assigns, Always, Initial, Instances, ModuleDeclaration}
use Rattle.rr_flat.specs.declared.fault.FlatFault.{FlatFault}
use Rattle.rr_flat.specs.declared.fault.FlatFault.TheVariants.{BadLoop}
use Rattle.rr_flat.specs.Faults.{fault_if}
use Rattle.rr_flat.specs.Signals.{Text}

abbrev pub LoopNames : Type 0
LoopNames = List Text

abbrev pub contains : LoopNames → Text → Bool
contains names name = list_any (bytes_eq name) names

-- the names of the loops of a statement, in their order
unfoldable mutual
  pub loops_in : Statement → List Text
  loops_in Null = []
  loops_in (Block label ss) = loops_in_all ss
  loops_in (If t s) = loops_in s
  loops_in (IfElse t s u) = loops_in s ++ loops_in u
  loops_in (Case kind t arms) = loops_in_arms arms
  loops_in (Assign t now v) = []
  loops_in (For h s) = h.text ∷ loops_in s

  pub loops_in_all : Statements → List Text
  loops_in_all Done = []
  loops_in_all (Then s ss) = loops_in s ++ loops_in_all ss

  pub loops_in_arm : Arm → List Text
  loops_in_arm (CaseItem labels colon s) = loops_in s

  pub loops_in_arms : Arms → List Text
  loops_in_arms NoArms = []
  loops_in_arms (MoreArms a rest) = loops_in_arm a ++ loops_in_arms rest

-- the names of the loops of an item
unfoldable pub loops_of_item : ModuleItem → List Text
loops_of_item (Ports p) = []
loops_of_item (Nets signed range names) = []
loops_of_item (Variables signed range names) = []
loops_of_item (Integers names) = []
loops_of_item (Parameters p) = []
loops_of_item (Assigns pairs) = []
loops_of_item (Always events s token) = loops_in s
loops_of_item (Initial s token) = loops_in s
loops_of_item (Instances m token overrides list) = []

-- the integers that an item declares (section 3.9)
unfoldable pub integers_of_item : ModuleItem → List Text
integers_of_item (Ports p) = []
integers_of_item (Nets signed range names) = []
integers_of_item (Variables signed range names) = []
integers_of_item (Integers names) = map (λ (n : Identifier). n.text) names
integers_of_item (Parameters p) = []
integers_of_item (Assigns pairs) = []
integers_of_item (Always events s token) = []
integers_of_item (Initial s token) = []
integers_of_item (Instances m token overrides list) = []

abbrev pub loops_of : List ModuleItem → List Text
loops_of items = flat_map loops_of_item items

abbrev pub integers_of : List ModuleItem → List Text
integers_of items = flat_map integers_of_item items

-- a name behind others, where it is not one of them
abbrev pub with_new : LoopNames → Text → LoopNames
with_new names name = if contains names name then names else names ++ name ∷ []

-- an integer behind others, where it names a loop
abbrev pub with_integer : List Text → LoopNames → Text → LoopNames
with_integer loops names name = if contains loops name then with_new names name else names

-- the integers of a module that name its loops, each once, in the order of their declarations
unfoldable pub loop_names : ModuleDeclaration → LoopNames
loop_names m = fold (with_integer (loops_of m.items)) [] (integers_of m.items)

-- a name that stands by itself, where it is a loop's and no loop around has it
abbrev pub stray : LoopNames → LoopNames → ℕ → Text → List FlatFault
stray names around token name = fault_if (contains names name && not (contains around name)) (BadLoop token)

-- a name that is assigned or selected from, where it is a loop's
abbrev pub misused : LoopNames → ℕ → Text → List FlatFault
misused names token name = fault_if (contains names name) (BadLoop token)

-- of an expression, in the order of its text
unfoldable mutual
  pub strays : LoopNames → LoopNames → Tree → List FlatFault
  strays names around (Name token name) = stray names around token name
  strays names around (Literal token n) = []
  strays names around (BitSelect token name i) = misused names token name ++ strays names around i
  strays names around (Part token name l r) = misused names token name ++ (strays names around l ++ strays names around r)
  strays names around (Indexed token name f n up) = misused names token name ++ (strays names around f ++ strays names around n)
  strays names around (Unary op t) = strays names around t
  strays names around (Binary op l r) = strays names around l ++ strays names around r
  strays names around (Cond a b c) = strays names around a ++ (strays names around b ++ strays names around c)
  strays names around (Concat ts) = part_strays names around ts
  strays names around (Repeat n ts) = strays names around n ++ part_strays names around ts
  strays names around (Cast signed t) = strays names around t
  strays names around (Paren t) = strays names around t

  pub part_strays : LoopNames → LoopNames → Trees → List FlatFault
  part_strays names around End = []
  part_strays names around (More t ts) = strays names around t ++ part_strays names around ts

-- of a target (annex A.8.5); a tree of another form is no target
unfoldable mutual
  pub target_strays : LoopNames → LoopNames → Tree → List FlatFault
  target_strays names around (Name token name) = misused names token name
  target_strays names around (Literal token n) = []
  target_strays names around (BitSelect token name i) = misused names token name ++ strays names around i
  target_strays names around (Part token name l r) = misused names token name ++ (strays names around l ++ strays names around r)
  target_strays names around (Indexed token name f n up) = misused names token name ++ (strays names around f ++ strays names around n)
  target_strays names around (Unary op t) = strays names around t
  target_strays names around (Binary op l r) = strays names around l ++ strays names around r
  target_strays names around (Cond a b c) = strays names around a ++ (strays names around b ++ strays names around c)
  target_strays names around (Concat ts) = targets_strays names around ts
  target_strays names around (Repeat n ts) = strays names around n ++ part_strays names around ts
  target_strays names around (Cast signed t) = strays names around t
  target_strays names around (Paren t) = strays names around t

  pub targets_strays : LoopNames → LoopNames → Trees → List FlatFault
  targets_strays names around End = []
  targets_strays names around (More t ts) = target_strays names around t ++ targets_strays names around ts

-- what the text alone tells of a head before its first value: its name is no integer that only loops set, a loop around has
-- the name too, or its first value names a loop that is not around
unfoldable pub head_faults : LoopNames → LoopNames → LoopHead → List FlatFault
head_faults names around h =
    fault_if (not (contains names h.text)) (BadLoop h.token) ++ (fault_if (contains around h.text) (BadLoop h.token) ++ strays names around h.start)

-- of its test and its step, which stand inside the loop; the step sets the loop's own name
unfoldable pub inner_faults : LoopNames → LoopNames → LoopHead → List FlatFault
inner_faults names around h =
    strays names around h.test ++ (fault_if (not (bytes_eq h.text h.step_text)) (BadLoop h.step_token) ++ strays names around h.step)

abbrev pub turn_faults : LoopNames → LoopNames → LoopHead → List FlatFault
turn_faults names around h = inner_faults names (h.text ∷ around) h

-- of a statement, in the order of its text
unfoldable mutual
  pub loop_faults : LoopNames → LoopNames → Statement → List FlatFault
  loop_faults names around Null = []
  loop_faults names around (Block label ss) = loops_faults names around ss
  loop_faults names around (If t s) = strays names around t ++ loop_faults names around s
  loop_faults names around (IfElse t s u) = strays names around t ++ (loop_faults names around s ++ loop_faults names around u)
  loop_faults names around (Case kind t arms) = strays names around t ++ arms_loop_faults names around arms
  loop_faults names around (Assign t now v) = target_strays names around t ++ strays names around v
  loop_faults names around (For h s) = head_faults names around h ++ (turn_faults names around h ++ loop_faults names (h.text ∷ around) s)

  pub loops_faults : LoopNames → LoopNames → Statements → List FlatFault
  loops_faults names around Done = []
  loops_faults names around (Then s ss) = loop_faults names around s ++ loops_faults names around ss

  pub arm_loop_faults : LoopNames → LoopNames → Arm → List FlatFault
  arm_loop_faults names around (CaseItem labels colon s) = part_strays names around labels ++ loop_faults names around s

  pub arms_loop_faults : LoopNames → LoopNames → Arms → List FlatFault
  arms_loop_faults names around NoArms = []
  arms_loop_faults names around (MoreArms a rest) = arm_loop_faults names around a ++ arms_loop_faults names around rest
