-- What a module declares but memories, which have words (IEEE 1364-2005 sections 3.2, 3.9, 4.9.3 and 12.3).
use Rattle.std.specs.Prelude.{◌≡◌, ◌⊎◌, [], flat_map, map, Option, Some, None, Contains}
use Rattle.rr_syntax.specs.declared.tree.Dir.{Dir}
use Rattle.rr_syntax.specs.declared.tree.Dir.TheVariants.{OutputReg}
use Rattle.rr_syntax.specs.Tree.{Identifier, Range, PortDeclaration, ModuleItem, Ports, Nets, Variables, Integers, Parameters, Assigns, Always, Initial, Instances, ModuleDeclaration}
use Rattle.rr_flat.specs.Reads.{names_in}
use Rattle.rr_flat.specs.Signals.{Text}
use Rattle.rr_guard.specs.Names.{net_name, wordless_name}

-- as what a name is declared: an input or output, a net, a variable by `reg`, or an `integer`
pub data Sort : Type 0 where
  AsPort : Dir → Sort
  AsNet : Sort
  AsVariable : Sort
  AsInteger : Sort

abbrev pub PortDeclares : PortDeclaration → Identifier → Option Range → Sort → Type 0
PortDeclares p x range sort = Contains (map net_name p.names) x × (range ≡ p.range) × (sort ≡ AsPort p.dir)

abbrev pub ItemDeclares : ModuleItem → Identifier → Option Range → Sort → Type 0
ItemDeclares (Ports p) x range sort = PortDeclares p x range sort
ItemDeclares (Nets signed r list) x range sort = Contains (map net_name list) x × (range ≡ r) × (sort ≡ AsNet)
ItemDeclares (Variables signed r list) x range sort = Contains (flat_map wordless_name list) x × (range ≡ r) × (sort ≡ AsVariable)
ItemDeclares (Integers list) x range sort = Contains list x × (range ≡ None) × (sort ≡ AsInteger)
ItemDeclares (Parameters p) x range sort = ⊥
ItemDeclares (Assigns pairs) x range sort = ⊥
ItemDeclares (Always events body token) x range sort = ⊥
ItemDeclares (Initial body token) x range sort = ⊥
ItemDeclares (Instances m token over list) x range sort = ⊥

-- in the port brackets of a module, or by an item
abbrev pub Declares : ModuleDeclaration → Identifier → Option Range → Sort → Type 0
Declares m x range sort = ((p : PortDeclaration) × Contains m.groups p × PortDeclares p x range sort) ⊎ ((i : ModuleItem) × Contains m.items i × ItemDeclares i x range sort)

-- an input, an output, a net or a variable, without a range or words and not as `integer`
pub record IsScalar (m : ModuleDeclaration) (x : Identifier) : Type 0 where
  pub sort : Sort
  pub declared : Declares m x None sort
  pub no_integer : sort ≡ AsInteger → ⊥

-- a variable: a declaration of the name is one by `reg`, without words
pub record IsVariable (m : ModuleDeclaration) (name : Text) : Type 0 where
  pub declaration : Identifier
  pub range : Option Range
  pub sort : Sort
  pub declared : Declares m declaration range sort
  pub named : declaration.text ≡ name
  pub by_reg : (sort ≡ AsPort OutputReg) ⊎ (sort ≡ AsVariable)

-- a range in which no name stands, and so none of a parameter (section 3.3.1)
abbrev pub HasNoNames : Option Range → Type 0
HasNoNames None = Unit {0}
HasNoNames (Some r) = (names_in r.left ≡ []) × (names_in r.right ≡ [])

-- no declaration of the name is one as `integer`, or has a range that names a parameter
abbrev pub IsPlain : ModuleDeclaration → Text → Type 0
IsPlain m name = (x : Identifier) (range : Option Range) (sort : Sort) → Declares m x range sort → x.text ≡ name → (sort ≡ AsInteger → ⊥) × HasNoNames range
