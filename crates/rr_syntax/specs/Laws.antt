-- What token numbers, and their absence, leave as it is; and which trees spell at least one token.
use Rattle.std.specs.Prelude.{◌<◌, ◌≡◌, ◌↔◌, length}
use Rattle.rr_syntax.specs.Tree.{Tree, Statement, Arm, ModuleItem, ModuleDeclaration, SourceText, bare, bare_statement, bare_arm, bare_item, bare_module, bare_source}
use Rattle.rr_syntax.specs.Expressions.{level, spell, WellFormed, is_target, depth}
use Rattle.rr_syntax.specs.Statements.{is_open, spell_statement, spell_arm, WellFormedStatement, WellFormedArm, depth_statement, depth_arm}
use Rattle.rr_syntax.specs.Items.{spell_item, spell_module, spell_source, WellFormedItem, WellFormedModule, WellFormedSource, depth_item, depth_module, depth_source}

-- with every token number 0, a tree of each class has the same tokens
pub record KeepsSpelling : Type 0 where
  pub expression : (t : Tree) → spell (bare t) ≡ spell t
  pub statement : (s : Statement) → spell_statement (bare_statement s) ≡ spell_statement s
  pub arm : (a : Arm) → spell_arm (bare_arm a) ≡ spell_arm a
  pub item : (i : ModuleItem) → spell_item (bare_item i) ≡ spell_item i
  pub declaration : (m : ModuleDeclaration) → spell_module (bare_module m) ≡ spell_module m
  pub source : (s : SourceText) → spell_source (bare_source s) ≡ spell_source s

-- it is well-formed exactly where the tree is
pub record KeepsRules : Type 0 where
  pub expression : (t : Tree) → WellFormed (bare t) ↔ WellFormed t
  pub statement : (s : Statement) → WellFormedStatement (bare_statement s) ↔ WellFormedStatement s
  pub arm : (a : Arm) → WellFormedArm (bare_arm a) ↔ WellFormedArm a
  pub item : (i : ModuleItem) → WellFormedItem (bare_item i) ↔ WellFormedItem i
  pub declaration : (m : ModuleDeclaration) → WellFormedModule (bare_module m) ↔ WellFormedModule m
  pub source : (s : SourceText) → WellFormedSource (bare_source s) ↔ WellFormedSource s

-- it has the same depth
pub record KeepsDepth : Type 0 where
  pub expression : (t : Tree) → depth (bare t) ≡ depth t
  pub statement : (s : Statement) → depth_statement (bare_statement s) ≡ depth_statement s
  pub arm : (a : Arm) → depth_arm (bare_arm a) ≡ depth_arm a
  pub item : (i : ModuleItem) → depth_item (bare_item i) ≡ depth_item i
  pub declaration : (m : ModuleDeclaration) → depth_module (bare_module m) ≡ depth_module m
  pub source : (s : SourceText) → depth_source (bare_source s) ≡ depth_source s

-- it binds as tightly, may be assigned where the tree may, and is open at its end where the tree is
pub record KeepsLevel : Type 0 where
  pub expression : (t : Tree) → level (bare t) ≡ level t
  pub target : (t : Tree) → is_target (bare t) ≡ is_target t
  pub statement : (s : Statement) → is_open (bare_statement s) ≡ is_open s

-- it has no token number left to set to 0
pub record IsBare : Type 0 where
  pub expression : (t : Tree) → bare (bare t) ≡ bare t
  pub statement : (s : Statement) → bare_statement (bare_statement s) ≡ bare_statement s
  pub arm : (a : Arm) → bare_arm (bare_arm a) ≡ bare_arm a
  pub item : (i : ModuleItem) → bare_item (bare_item i) ≡ bare_item i
  pub declaration : (m : ModuleDeclaration) → bare_module (bare_module m) ≡ bare_module m
  pub source : (s : SourceText) → bare_source (bare_source s) ≡ bare_source s

-- each tree but a source has a token, also where it is not well-formed; a source has none exactly where it has no module
pub record SpellsSome : Type 0 where
  pub expression : (t : Tree) → 0 < length (spell t)
  pub statement : (s : Statement) → 0 < length (spell_statement s)
  pub arm : (a : Arm) → 0 < length (spell_arm a)
  pub item : (i : ModuleItem) → 0 < length (spell_item i)
  pub declaration : (m : ModuleDeclaration) → 0 < length (spell_module m)
  pub source : (s : SourceText) → (length (spell_source s) ≡ 0) ↔ (length s.modules ≡ 0)
