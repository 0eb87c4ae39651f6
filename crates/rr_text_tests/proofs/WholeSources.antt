-- The measures of a source with one module whose one item is `always @*` and a statement.
use Rattle.std.proofs.Common.{◌≡◌, ℕ, ◌+◌, List, [], ◌∷◌, ◌++◌, length, refl, ap, ◌∙◌, arith, false, None, length-append}
use Rattle.rr_syntax.specs.declared.tree.Events.TheVariants as events
use Rattle.rr_syntax.specs.declared.tree.Item.{Item}
use Rattle.rr_syntax.specs.declared.tree.Item.TheVariants as item
use Rattle.rr_syntax.specs.declared.tree.Module.{Module}
use Rattle.rr_syntax.specs.declared.tree.Stmt.{Stmt}
use Rattle.rr_syntax.specs.Tree.{Star, Always, Statement, SourceText}
use Rattle.rr_syntax.specs.Statements.{depth_statement, spell_statement}
use Rattle.rr_syntax.specs.Items.{spell_all, spell_events, spell_item, spell_module, spell_parameters, spell_ports, spell_source, greatest, depth_events, depth_item, height_item, depth_module, height_module, depth_source}
use Rattle.rr_syntax.specs.View.{plain_statement, plain_events, plain_item, plain_header, plain_module, plain_source}
use denote.Ref.{Bor}

-- the plain source
abbrev whole : List ℕ → Statement → SourceText
whole name s = record { modules = record { text = name; token = 0; params = []; header = None; groups = []; items = Always (Star false) s 0 ∷ [] } ∷ [] }

pub whole_is : (ms : Bor (List Module)) (old : List Module) (m : Module) (before : List Item) (body : Bor Stmt) → ms.now ≡ old ++ (m ∷ []) → old ≡ [] → m.token ≡ 0 → m.params.now ≡ [] → m.header ≡ None → m.groups.now ≡ [] →
    m.items.now ≡ before ++ (item.Always (events.Star false) body 0 ∷ []) → before ≡ [] → plain_source (record { modules = ms }) ≡ whole m.name.now (plain_statement body.now)
unfolding plain_source plain_module plain_header plain_item plain_events
whole_is ms old m before body e z n p h g i b = rw (e, z, n, p, h, g, i, b) refl

whole_length : (name : List ℕ) (s : Statement) → length (spell_source (whole name s)) ≡ length (spell_statement s) + 7
unfolding spell_source spell_all spell_module spell_parameters spell_ports spell_item spell_events
whole_length name s = simp length-append (omega arith)

whole_depth : (name : List ℕ) (s : Statement) → depth_source (whole name s) ≡ depth_statement s + 3
unfolding depth_source height_module depth_module height_item depth_item depth_events greatest
whole_depth name s = omega arith

pub lengths_by : (x : SourceText) (name : List ℕ) (s : Statement) → x ≡ whole name s → length (spell_source x) ≡ length (spell_statement s) + 7
lengths_by x name s e = ap (λ (y : SourceText). length (spell_source y)) e ∙ whole_length name s

pub levels_by : (x : SourceText) (name : List ℕ) (s : Statement) → x ≡ whole name s → depth_source x ≡ depth_statement s + 3
levels_by x name s e = ap depth_source e ∙ whole_depth name s
