-- The rules of the names of loops without token numbers.
use Rattle.std.proofs.Common.{◌≡◌, ap, ap₂, ℕ, not, ◌&&◌, List, [], ◌∷◌, ◌++◌, map, refl, fold}
use Rattle.std.specs.Prelude.{flat_map}
use Rattle.std.specs.Str.{bytes_eq}
use Rattle.rr_syntax.specs.Tree.{Tree, Trees, Name, Literal, Bit as BitSelect, Part, Indexed, Unary, Binary, Cond, Concat, Repeat, Cast, Paren, End, More, Identifier, LoopHead, Statement, Statements, Arm, Arms, Null, Block, If, IfElse, Case, Assign, For, Done, Then, CaseItem, NoArms, MoreArms, ModuleItem, Ports, Nets, Variables, Integers, Parameters, Assigns, Always, Initial, Instances, ModuleDeclaration, bare, bare_parts, bare_identifier, bare_loop, bare_statement, bare_statements, bare_arm, bare_arms, bare_item, bare_module}
use Rattle.rr_flat.specs.declared.fault.FlatFault.TheVariants.{BadLoop}
use Rattle.rr_flat.specs.Faults.{fault_if}
use Rattle.rr_flat.specs.Signals.{Text}
use Rattle.rr_loop_rules.specs.Rules.{LoopNames, contains, loops_in, loops_in_all, loops_in_arm, loops_in_arms, loops_of_item, integers_of_item, with_integer, loop_names, misused, strays, part_strays, target_strays, targets_strays, head_faults, inner_faults, turn_faults, loop_faults, loops_faults, arm_loop_faults, arms_loop_faults}
use Rattle.rr_token_numbers.proofs.Results.{BothNil, nil_append, nil_if}

-- expressions and targets

misused_nil : (L : LoopNames) (token : ℕ) (x : Text) → BothNil (misused L token x) (misused L 0 x)
misused_nil L token x = nil_if (contains L x) (BadLoop token) (BadLoop 0)

mutual
  unfolding strays bare

  pub strays_nil : (L A : LoopNames) (t : Tree) → BothNil (strays L A t) (strays L A (bare t))
  strays_nil L A (Name token x) = nil_if (contains L x && not (contains A x)) (BadLoop token) (BadLoop 0)
  strays_nil L A (Literal token n) = tt
  strays_nil L A (BitSelect token x i) = nil_append (misused L token x) (strays L A i) (misused L 0 x) (strays L A (bare i)) (misused_nil L token x) (strays_nil L A i)
  strays_nil L A (Part token x l r) =
      nil_append (misused L token x) (strays L A l ++ strays L A r) (misused L 0 x) (strays L A (bare l) ++ strays L A (bare r)) (misused_nil L token x)
      (nil_append (strays L A l) (strays L A r) (strays L A (bare l)) (strays L A (bare r)) (strays_nil L A l) (strays_nil L A r))
  strays_nil L A (Indexed token x f n up) =
      nil_append (misused L token x) (strays L A f ++ strays L A n) (misused L 0 x) (strays L A (bare f) ++ strays L A (bare n)) (misused_nil L token x)
      (nil_append (strays L A f) (strays L A n) (strays L A (bare f)) (strays L A (bare n)) (strays_nil L A f) (strays_nil L A n))
  strays_nil L A (Unary op t) = strays_nil L A t
  strays_nil L A (Binary op l r) = nil_append (strays L A l) (strays L A r) (strays L A (bare l)) (strays L A (bare r)) (strays_nil L A l) (strays_nil L A r)
  strays_nil L A (Cond a b c) =
      nil_append (strays L A a) (strays L A b ++ strays L A c) (strays L A (bare a)) (strays L A (bare b) ++ strays L A (bare c)) (strays_nil L A a)
      (nil_append (strays L A b) (strays L A c) (strays L A (bare b)) (strays L A (bare c)) (strays_nil L A b) (strays_nil L A c))
  strays_nil L A (Concat ts) = part_strays_nil L A ts
  strays_nil L A (Repeat n ts) = nil_append (strays L A n) (part_strays L A ts) (strays L A (bare n)) (part_strays L A (bare_parts ts)) (strays_nil L A n) (part_strays_nil L A ts)
  strays_nil L A (Cast signed t) = strays_nil L A t
  strays_nil L A (Paren t) = strays_nil L A t

  pub part_strays_nil : (L A : LoopNames) (ts : Trees) → BothNil (part_strays L A ts) (part_strays L A (bare_parts ts))
  part_strays_nil L A End = tt
  part_strays_nil L A (More t ts) = nil_append (strays L A t) (part_strays L A ts) (strays L A (bare t)) (part_strays L A (bare_parts ts)) (strays_nil L A t) (part_strays_nil L A ts)

mutual
  unfolding target_strays bare

  target_strays_nil : (L A : LoopNames) (t : Tree) → BothNil (target_strays L A t) (target_strays L A (bare t))
  target_strays_nil L A (Name token x) = misused_nil L token x
  target_strays_nil L A (Literal token n) = tt
  target_strays_nil L A (BitSelect token x i) = nil_append (misused L token x) (strays L A i) (misused L 0 x) (strays L A (bare i)) (misused_nil L token x) (strays_nil L A i)
  target_strays_nil L A (Part token x l r) =
      nil_append (misused L token x) (strays L A l ++ strays L A r) (misused L 0 x) (strays L A (bare l) ++ strays L A (bare r)) (misused_nil L token x)
      (nil_append (strays L A l) (strays L A r) (strays L A (bare l)) (strays L A (bare r)) (strays_nil L A l) (strays_nil L A r))
  target_strays_nil L A (Indexed token x f n up) =
      nil_append (misused L token x) (strays L A f ++ strays L A n) (misused L 0 x) (strays L A (bare f) ++ strays L A (bare n)) (misused_nil L token x)
      (nil_append (strays L A f) (strays L A n) (strays L A (bare f)) (strays L A (bare n)) (strays_nil L A f) (strays_nil L A n))
  target_strays_nil L A (Unary op t) = strays_nil L A t
  target_strays_nil L A (Binary op l r) = nil_append (strays L A l) (strays L A r) (strays L A (bare l)) (strays L A (bare r)) (strays_nil L A l) (strays_nil L A r)
  target_strays_nil L A (Cond a b c) =
      nil_append (strays L A a) (strays L A b ++ strays L A c) (strays L A (bare a)) (strays L A (bare b) ++ strays L A (bare c)) (strays_nil L A a)
      (nil_append (strays L A b) (strays L A c) (strays L A (bare b)) (strays L A (bare c)) (strays_nil L A b) (strays_nil L A c))
  target_strays_nil L A (Concat ts) = targets_strays_nil L A ts
  target_strays_nil L A (Repeat n ts) = nil_append (strays L A n) (part_strays L A ts) (strays L A (bare n)) (part_strays L A (bare_parts ts)) (strays_nil L A n) (part_strays_nil L A ts)
  target_strays_nil L A (Cast signed t) = strays_nil L A t
  target_strays_nil L A (Paren t) = strays_nil L A t

  targets_strays_nil : (L A : LoopNames) (ts : Trees) → BothNil (targets_strays L A ts) (targets_strays L A (bare_parts ts))
  targets_strays_nil L A End = tt
  targets_strays_nil L A (More t ts) =
      nil_append (target_strays L A t) (targets_strays L A ts) (target_strays L A (bare t)) (targets_strays L A (bare_parts ts)) (target_strays_nil L A t) (targets_strays_nil L A ts)

-- heads of loops

pub head_nil : (L A : LoopNames) (h : LoopHead) → BothNil (head_faults L A h) (head_faults L A (bare_loop h))
unfolding head_faults bare_loop
head_nil L A h =
    nil_append (fault_if (not (contains L h.text)) (BadLoop h.token)) (fault_if (contains A h.text) (BadLoop h.token) ++ strays L A h.start)
    (fault_if (not (contains L h.text)) (BadLoop 0)) (fault_if (contains A h.text) (BadLoop 0) ++ strays L A (bare h.start))
    (nil_if (not (contains L h.text)) (BadLoop h.token) (BadLoop 0))
    (nil_append (fault_if (contains A h.text) (BadLoop h.token)) (strays L A h.start) (fault_if (contains A h.text) (BadLoop 0)) (strays L A (bare h.start))
    (nil_if (contains A h.text) (BadLoop h.token) (BadLoop 0)) (strays_nil L A h.start))

pub inner_nil : (L A : LoopNames) (h : LoopHead) → BothNil (inner_faults L A h) (inner_faults L A (bare_loop h))
unfolding inner_faults bare_loop
inner_nil L A h =
    nil_append (strays L A h.test) (fault_if (not (bytes_eq h.text h.step_text)) (BadLoop h.step_token) ++ strays L A h.step)
    (strays L A (bare h.test)) (fault_if (not (bytes_eq h.text h.step_text)) (BadLoop 0) ++ strays L A (bare h.step)) (strays_nil L A h.test)
    (nil_append (fault_if (not (bytes_eq h.text h.step_text)) (BadLoop h.step_token)) (strays L A h.step) (fault_if (not (bytes_eq h.text h.step_text)) (BadLoop 0)) (strays L A (bare h.step))
    (nil_if (not (bytes_eq h.text h.step_text)) (BadLoop h.step_token) (BadLoop 0)) (strays_nil L A h.step))

turn_nil : (L A : LoopNames) (h : LoopHead) → BothNil (turn_faults L A h) (turn_faults L A (bare_loop h))
unfolding bare_loop
turn_nil L A h = inner_nil L (h.text ∷ A) h

-- statements

mutual
  unfolding loop_faults bare_statement bare_loop

  pub loop_nil : (L A : LoopNames) (t : Statement) → BothNil (loop_faults L A t) (loop_faults L A (bare_statement t))
  loop_nil L A Null = tt
  loop_nil L A (Block label ts) = loops_nil L A ts
  loop_nil L A (If c t) = nil_append (strays L A c) (loop_faults L A t) (strays L A (bare c)) (loop_faults L A (bare_statement t)) (strays_nil L A c) (loop_nil L A t)
  loop_nil L A (IfElse c t u) =
      nil_append (strays L A c) (loop_faults L A t ++ loop_faults L A u) (strays L A (bare c)) (loop_faults L A (bare_statement t) ++ loop_faults L A (bare_statement u)) (strays_nil L A c)
      (nil_append (loop_faults L A t) (loop_faults L A u) (loop_faults L A (bare_statement t)) (loop_faults L A (bare_statement u)) (loop_nil L A t) (loop_nil L A u))
  loop_nil L A (Case kind on arms) = nil_append (strays L A on) (arms_loop_faults L A arms) (strays L A (bare on)) (arms_loop_faults L A (bare_arms arms)) (strays_nil L A on) (arms_loop_nil L A arms)
  loop_nil L A (Assign t now e) = nil_append (target_strays L A t) (strays L A e) (target_strays L A (bare t)) (strays L A (bare e)) (target_strays_nil L A t) (strays_nil L A e)
  loop_nil L A (For h t) =
      nil_append (head_faults L A h) (turn_faults L A h ++ loop_faults L (h.text ∷ A) t) (head_faults L A (bare_loop h)) (turn_faults L A (bare_loop h) ++ loop_faults L (h.text ∷ A) (bare_statement t)) (head_nil L A h)
      (nil_append (turn_faults L A h) (loop_faults L (h.text ∷ A) t) (turn_faults L A (bare_loop h)) (loop_faults L (h.text ∷ A) (bare_statement t)) (turn_nil L A h) (loop_nil L (h.text ∷ A) t))

  loops_nil : (L A : LoopNames) (ts : Statements) → BothNil (loops_faults L A ts) (loops_faults L A (bare_statements ts))
  loops_nil L A Done = tt
  loops_nil L A (Then t ts) = nil_append (loop_faults L A t) (loops_faults L A ts) (loop_faults L A (bare_statement t)) (loops_faults L A (bare_statements ts)) (loop_nil L A t) (loops_nil L A ts)

  arm_loop_nil : (L A : LoopNames) (a : Arm) → BothNil (arm_loop_faults L A a) (arm_loop_faults L A (bare_arm a))
  arm_loop_nil L A (CaseItem labels colon t) =
      nil_append (part_strays L A labels) (loop_faults L A t) (part_strays L A (bare_parts labels)) (loop_faults L A (bare_statement t)) (part_strays_nil L A labels) (loop_nil L A t)

  arms_loop_nil : (L A : LoopNames) (arms : Arms) → BothNil (arms_loop_faults L A arms) (arms_loop_faults L A (bare_arms arms))
  arms_loop_nil L A NoArms = tt
  arms_loop_nil L A (MoreArms a rest) =
      nil_append (arm_loop_faults L A a) (arms_loop_faults L A rest) (arm_loop_faults L A (bare_arm a)) (arms_loop_faults L A (bare_arms rest)) (arm_loop_nil L A a) (arms_loop_nil L A rest)

-- the names of the loops of a module

mutual
  unfolding loops_in bare_statement bare_loop

  loops_in-bare : (t : Statement) → loops_in (bare_statement t) ≡ loops_in t
  loops_in-bare Null = refl
  loops_in-bare (Block label ts) = loops_in_all-bare ts
  loops_in-bare (If c t) = loops_in-bare t
  loops_in-bare (IfElse c t u) = ap₂ (λ (a b : List Text). a ++ b) (loops_in-bare t) (loops_in-bare u)
  loops_in-bare (Case kind on arms) = loops_in_arms-bare arms
  loops_in-bare (Assign t now e) = refl
  loops_in-bare (For h t) = ap (λ (names : List Text). h.text ∷ names) (loops_in-bare t)

  loops_in_all-bare : (ts : Statements) → loops_in_all (bare_statements ts) ≡ loops_in_all ts
  loops_in_all-bare Done = refl
  loops_in_all-bare (Then t ts) = ap₂ (λ (a b : List Text). a ++ b) (loops_in-bare t) (loops_in_all-bare ts)

  loops_in_arm-bare : (a : Arm) → loops_in_arm (bare_arm a) ≡ loops_in_arm a
  loops_in_arm-bare (CaseItem labels colon t) = loops_in-bare t

  loops_in_arms-bare : (arms : Arms) → loops_in_arms (bare_arms arms) ≡ loops_in_arms arms
  loops_in_arms-bare NoArms = refl
  loops_in_arms-bare (MoreArms a rest) = ap₂ (λ (x y : List Text). x ++ y) (loops_in_arm-bare a) (loops_in_arms-bare rest)

loops_of_item-bare : (i : ModuleItem) → loops_of_item (bare_item i) ≡ loops_of_item i
unfolding loops_of_item bare_item
loops_of_item-bare (Ports p) = refl
loops_of_item-bare (Nets signed range list) = refl
loops_of_item-bare (Variables signed range list) = refl
loops_of_item-bare (Integers list) = refl
loops_of_item-bare (Parameters p) = refl
loops_of_item-bare (Assigns pairs) = refl
loops_of_item-bare (Always events t token) = loops_in-bare t
loops_of_item-bare (Initial t token) = loops_in-bare t
loops_of_item-bare (Instances m token over list) = refl

texts-bare : (names : List Identifier) → map (λ (n : Identifier). n.text) (map bare_identifier names) ≡ map (λ (n : Identifier). n.text) names
unfolding bare_identifier
texts-bare [] = refl
texts-bare (n ∷ ns) = ap (λ (rest : List Text). n.text ∷ rest) (texts-bare ns)

integers_of_item-bare : (i : ModuleItem) → integers_of_item (bare_item i) ≡ integers_of_item i
unfolding integers_of_item bare_item
integers_of_item-bare (Ports p) = refl
integers_of_item-bare (Nets signed range list) = refl
integers_of_item-bare (Variables signed range list) = refl
integers_of_item-bare (Integers list) = texts-bare list
integers_of_item-bare (Parameters p) = refl
integers_of_item-bare (Assigns pairs) = refl
integers_of_item-bare (Always events t token) = refl
integers_of_item-bare (Initial t token) = refl
integers_of_item-bare (Instances m token over list) = refl

items_mapped : (names : ModuleItem → List Text) → ((i : ModuleItem) → names (bare_item i) ≡ names i) → (is : List ModuleItem) → flat_map names (map bare_item is) ≡ flat_map names is
items_mapped names h [] = refl
items_mapped names h (i ∷ is) = ap₂ (λ (a b : List Text). a ++ b) (h i) (items_mapped names h is)

pub loop_names-bare : (m : ModuleDeclaration) → loop_names (bare_module m) ≡ loop_names m
unfolding loop_names bare_module
loop_names-bare m =
    ap₂ (λ (loops integers : List Text). fold (with_integer loops) [] integers) (items_mapped loops_of_item loops_of_item-bare m.items) (items_mapped integers_of_item integers_of_item-bare m.items)
