-- Each tree but a source spells at least one token.
use Rattle.std.proofs.Common.{◌≡◌, ◌<◌, List, [], ◌∷◌, length, refl, arith, length-append}
use Rattle.rr_syntax.specs.declared.tree.Dir.{Dir}
use Rattle.rr_syntax.specs.declared.tree.Dir.TheVariants as dir
use Rattle.rr_syntax.specs.Tree.{Tree, Name, Literal, Bit, Part, Indexed, Unary, Binary, Cond, Concat, Repeat, Cast, Paren, Statement, Arm, Null, Block, If, IfElse, Case, Assign, For, CaseItem, PortDeclaration, ParameterDeclaration, ModuleItem, Ports, Nets, Variables, Integers, Parameters, Assigns, Always, Initial, Instances, ModuleDeclaration, SourceText}
use Rattle.rr_syntax.specs.Expressions.{spell}
use Rattle.rr_syntax.specs.Statements.{spell_statement, spell_arm}
use Rattle.rr_syntax.specs.Items.{spell_all, spell_dir, spell_port, spell_parameter, spell_item, spell_module, spell_source}

pub spell-some : (t : Tree) → 0 < length (spell t)
unfolding spell
spell-some (Name n s) = omega arith
spell-some (Literal n d) = omega arith
spell-some (Bit n s i) = omega arith
spell-some (Part n s l r) = omega arith
spell-some (Indexed n s f w up) = omega arith
spell-some (Unary m t) = omega arith
spell-some (Binary m l r) = rw length-append (omega arith)
spell-some (Cond a b c) = rw length-append (omega arith)
spell-some (Concat ts) = omega arith
spell-some (Repeat t ts) = omega arith
spell-some (Cast signed t) = omega arith
spell-some (Paren t) = omega arith

pub spell_statement-some : (s : Statement) → 0 < length (spell_statement s)
unfolding spell_statement
spell_statement-some Null = omega arith
spell_statement-some (Block label ss) = omega arith
spell_statement-some (If t s) = omega arith
spell_statement-some (IfElse t s u) = omega arith
spell_statement-some (Case kind t arms) = omega arith
spell_statement-some (Assign t now v) = rw length-append (omega arith)
spell_statement-some (For h s) = omega arith

pub spell_arm-some : (a : Arm) → 0 < length (spell_arm a)
unfolding spell_statement
spell_arm-some (CaseItem labels colon s) = rw length-append (omega (arith, spell_statement-some s))

spell_dir-some : (d : Dir) → 0 < length (spell_dir d)
unfolding spell_dir
spell_dir-some dir.Input = omega arith
spell_dir-some dir.InputWire = omega arith
spell_dir-some dir.Output = omega arith
spell_dir-some dir.OutputWire = omega arith
spell_dir-some dir.OutputReg = omega arith

spell_port-some : (p : PortDeclaration) → 0 < length (spell_port p)
unfolding spell_port
spell_port-some p = rw length-append (omega (arith, spell_dir-some p.dir))

spell_parameter-some : (p : ParameterDeclaration) → 0 < length (spell_parameter p)
unfolding spell_parameter
spell_parameter-some p = omega arith

pub spell_item-some : (i : ModuleItem) → 0 < length (spell_item i)
unfolding spell_item
spell_item-some (Ports p) = rw length-append (omega (arith, spell_port-some p))
spell_item-some (Nets signed range names) = omega arith
spell_item-some (Variables signed range names) = omega arith
spell_item-some (Integers names) = omega arith
spell_item-some (Parameters p) = rw length-append (omega (arith, spell_parameter-some p))
spell_item-some (Assigns pairs) = omega arith
spell_item-some (Always events s token) = omega arith
spell_item-some (Initial s token) = omega arith
spell_item-some (Instances m token overrides list) = omega arith

pub spell_module-some : (m : ModuleDeclaration) → 0 < length (spell_module m)
unfolding spell_module
spell_module-some m = omega arith

modules-none : (ms : List ModuleDeclaration) → length (spell_all spell_module ms) ≡ 0 → length ms ≡ 0
unfolding spell_all
modules-none [] h = refl
modules-none (m ∷ ms) h = absurd (omega (arith, length-append (spell_module m) (spell_all spell_module ms), spell_module-some m))

none-modules : (ms : List ModuleDeclaration) → length ms ≡ 0 → length (spell_all spell_module ms) ≡ 0
unfolding spell_all
none-modules [] h = refl
none-modules (m ∷ ms) h = absurd (omega arith)

pub source-none : (s : SourceText) → length (spell_source s) ≡ 0 → length s.modules ≡ 0
unfolding spell_source
source-none s h = modules-none s.modules h

pub none-source : (s : SourceText) → length s.modules ≡ 0 → length (spell_source s) ≡ 0
unfolding spell_source
none-source s h = none-modules s.modules h
