-- The variables of nodes of the arena, one equation for each form.
use Rattle.std.proofs.Common.{◌≡◌, ◌∙◌, sym, ap, ℕ, ◌+◌, ◌<◌, length, get_or, drop, Bool, true, false, ◌&&◌, ◌||◌, List, [], ◌∷◌, map, flat_map, Option, Some, None, refl}
use Rattle.std.specs.List.{list_any}
use Rattle.std.specs.Str.{bytes_eq}
use Rattle.std.proofs.lemmas.List.Folds.{list_any-append}
use Rattle.rr_syntax.specs.declared.tree.Bounds.{Bounds}
use Rattle.rr_syntax.specs.declared.tree.Conns.{Conns}
use Rattle.rr_syntax.specs.declared.tree.Dir.TheVariants as dir
use Rattle.rr_syntax.specs.declared.tree.Events.{Events}
use Rattle.rr_syntax.specs.declared.tree.Group.{Group}
use Rattle.rr_syntax.specs.declared.tree.Instance.{Instance}
use Rattle.rr_syntax.specs.declared.tree.Item.TheVariants as item
use Rattle.rr_syntax.specs.declared.tree.Module.{Module}
use Rattle.rr_syntax.specs.declared.tree.Named.{Named}
use Rattle.rr_syntax.specs.declared.tree.Declarator.{Declarator}
use Rattle.rr_syntax.specs.declared.tree.Pair.{Pair}
use Rattle.rr_syntax.specs.declared.tree.Params.{Params}
use Rattle.rr_syntax.specs.declared.tree.Stmt.{Stmt}
use Rattle.rr_syntax.specs.View.{plain_identifier, plain_item, plain_module, plain_declarator, plain_port, plain_range}
use Rattle.rr_flat.specs.Signals.{Text}
use Rattle.rr_guard.proofs.Lists.{any_more}
use Rattle.rr_guard.specs.Names.{net_name, unless_words, wordless_name}
use Rattle.rr_overwrite.specs.Overwrites.{is_reg, is_in, is_open, port_sets, item_sets, port_opens, item_opens, is_variable}
use denote.Ref.{Bor}

or_none : (b : Bool) → (b || false) ≡ b
or_none true = refl
or_none false = refl

-- names of the arena

pub identifier_text : (n : Named) → (plain_identifier n).text ≡ n.name.now
unfolding plain_identifier
identifier_text n = refl

pub net_text : (n : Declarator) → (net_name (plain_declarator n)).text ≡ n.name.now
unfolding plain_declarator
net_text n = refl

-- a variable that is no memory

pub one_in : (was : Bool) (name : Text) (n : Declarator) → (was || is_in name (net_name (plain_declarator n) ∷ [])) ≡ (was || bytes_eq name n.name.now)
unfolding plain_declarator
one_in was name n = ap (λ b. was || b) (or_none (bytes_eq name n.name.now))

pub wordless-None : (was : Bool) (name : Text) (n : Declarator) → n.words ≡ None → (was || is_in name (wordless_name (plain_declarator n))) ≡ (was || bytes_eq name n.name.now)
unfolding plain_declarator plain_range
wordless-None was name n e = ap (λ r. was || is_in name (unless_words (plain_range r) (net_name (plain_declarator n)))) e ∙ one_in was name n

pub wordless-Some : (was : Bool) (name : Text) (n : Declarator) (b : Bounds) → n.words ≡ Some b → (was || is_in name (wordless_name (plain_declarator n))) ≡ was
unfolding plain_declarator plain_range
wordless-Some was name n b e = ap (λ r. was || is_in name (unless_words (plain_range r) (net_name (plain_declarator n)))) e ∙ or_none was

pub ruleset wordless_nodes = (wordless-None, wordless-Some)

-- those of a list

-- whether a name is one that each of them gives
pub any_flat : {X Y : Type 0} (p : Y → Bool) (f : X → List Y) (xs : List X) → list_any p (flat_map f xs) ≡ list_any (λ x. list_any p (f x)) xs
any_flat p f [] = refl
any_flat p f (x ∷ xs) = list_any-append p (f x) (flat_map f xs) ∙ ap (λ b. list_any p (f x) || b) (any_flat p f xs)

-- declarations by `reg`

pub sets-OutputReg : (was : Bool) (name : Text) (g : Group) → g.dir ≡ dir.OutputReg → (was || port_sets name (plain_port g)) ≡ (was || is_in name (map net_name (map plain_declarator g.names.now)))
unfolding plain_port
sets-OutputReg was name g e = ap (λ d. was || (is_reg d && is_in name (map net_name (map plain_declarator g.names.now)))) e

pub sets-Input : (was : Bool) (name : Text) (g : Group) → g.dir ≡ dir.Input → (was || port_sets name (plain_port g)) ≡ was
unfolding plain_port
sets-Input was name g e = ap (λ d. was || (is_reg d && is_in name (map net_name (map plain_declarator g.names.now)))) e ∙ or_none was

pub sets-InputWire : (was : Bool) (name : Text) (g : Group) → g.dir ≡ dir.InputWire → (was || port_sets name (plain_port g)) ≡ was
unfolding plain_port
sets-InputWire was name g e = ap (λ d. was || (is_reg d && is_in name (map net_name (map plain_declarator g.names.now)))) e ∙ or_none was

pub sets-Output : (was : Bool) (name : Text) (g : Group) → g.dir ≡ dir.Output → (was || port_sets name (plain_port g)) ≡ was
unfolding plain_port
sets-Output was name g e = ap (λ d. was || (is_reg d && is_in name (map net_name (map plain_declarator g.names.now)))) e ∙ or_none was

pub sets-OutputWire : (was : Bool) (name : Text) (g : Group) → g.dir ≡ dir.OutputWire → (was || port_sets name (plain_port g)) ≡ was
unfolding plain_port
sets-OutputWire was name g e = ap (λ d. was || (is_reg d && is_in name (map net_name (map plain_declarator g.names.now)))) e ∙ or_none was

pub sets-Ports : (was : Bool) (name : Text) (g : Group) → (was || item_sets name (plain_item (item.Ports g))) ≡ (was || port_sets name (plain_port g))
unfolding plain_item item_sets
sets-Ports was name g = refl

pub sets-Nets : (was : Bool) (name : Text) (signed : Bool) (range : Option Bounds) (names : Bor (List Declarator)) → (was || item_sets name (plain_item (item.Nets signed range names))) ≡ was
unfolding plain_item item_sets
sets-Nets was name signed range names = or_none was

pub sets-Variables : (was : Bool) (name : Text) (signed : Bool) (range : Option Bounds) (names : Bor (List Declarator)) → (was || item_sets name (plain_item (item.Variables signed range names))) ≡ (was || is_in name (flat_map wordless_name (map plain_declarator names.now)))
unfolding plain_item item_sets
sets-Variables was name signed range names = refl

pub sets-Integers : (was : Bool) (name : Text) (names : Bor (List Named)) → (was || item_sets name (plain_item (item.Integers names))) ≡ was
unfolding plain_item item_sets
sets-Integers was name names = or_none was

pub sets-Parameters : (was : Bool) (name : Text) (p : Params) → (was || item_sets name (plain_item (item.Parameters p))) ≡ was
unfolding plain_item item_sets
sets-Parameters was name p = or_none was

pub sets-Assigns : (was : Bool) (name : Text) (pairs : Bor (List Pair)) → (was || item_sets name (plain_item (item.Assigns pairs))) ≡ was
unfolding plain_item item_sets
sets-Assigns was name pairs = or_none was

pub sets-Always : (was : Bool) (name : Text) (events : Events) (body : Bor Stmt) (token : ℕ) → (was || item_sets name (plain_item (item.Always events body token))) ≡ was
unfolding plain_item item_sets
sets-Always was name events body token = or_none was

pub sets-Initial : (was : Bool) (name : Text) (s : Bor Stmt) (token : ℕ) → (was || item_sets name (plain_item (item.Initial s token))) ≡ was
unfolding plain_item item_sets
sets-Initial was name s token = or_none was

pub sets-Instances : (was : Bool) (name : Text) (m : Bor (List ℕ)) (token : ℕ) (overrides : Option Conns) (list : Bor (List Instance)) → (was || item_sets name (plain_item (item.Instances m token overrides list))) ≡ was
unfolding plain_item item_sets
sets-Instances was name m token overrides list = or_none was

pub ruleset sets_nodes =
    (sets-OutputReg, sets-Input, sets-InputWire, sets-Output, sets-OutputWire, sets-Ports, sets-Nets, sets-Variables, sets-Integers, sets-Parameters, sets-Assigns, sets-Always, sets-Initial, sets-Instances)

-- declarations as `integer` or with a range in which a name stands

pub opens-some : (was : Bool) (name : Text) (g : Group) → is_open (plain_range g.range) ≡ true → (was || port_opens name (plain_port g)) ≡ (was || is_in name (map net_name (map plain_declarator g.names.now)))
unfolding plain_port
opens-some was name g e = ap (λ b. was || (b && is_in name (map net_name (map plain_declarator g.names.now)))) e

pub opens-none : (was : Bool) (name : Text) (g : Group) → is_open (plain_range g.range) ≡ false → (was || port_opens name (plain_port g)) ≡ was
unfolding plain_port
opens-none was name g e = ap (λ b. was || (b && is_in name (map net_name (map plain_declarator g.names.now)))) e ∙ or_none was

pub and_some : (was b other : Bool) → b ≡ true → (was || (b && other)) ≡ (was || other)
and_some was b other e = ap (λ z. was || (z && other)) e

pub and_none : (was b other : Bool) → b ≡ false → (was || (b && other)) ≡ was
and_none was b other e = ap (λ z. was || (z && other)) e ∙ or_none was

pub opens-Ports : (was : Bool) (name : Text) (g : Group) → (was || item_opens name (plain_item (item.Ports g))) ≡ (was || port_opens name (plain_port g))
unfolding plain_item item_opens
opens-Ports was name g = refl

pub opens-Nets : (was : Bool) (name : Text) (signed : Bool) (range : Option Bounds) (names : Bor (List Declarator)) → (was || item_opens name (plain_item (item.Nets signed range names))) ≡ (was || (is_open (plain_range range) && is_in name (map net_name (map plain_declarator names.now))))
unfolding plain_item item_opens
opens-Nets was name signed range names = refl

pub opens-Variables : (was : Bool) (name : Text) (signed : Bool) (range : Option Bounds) (names : Bor (List Declarator)) → (was || item_opens name (plain_item (item.Variables signed range names))) ≡ (was || (is_open (plain_range range) && is_in name (flat_map wordless_name (map plain_declarator names.now))))
unfolding plain_item item_opens
opens-Variables was name signed range names = refl

pub opens-Integers : (was : Bool) (name : Text) (names : Bor (List Named)) → (was || item_opens name (plain_item (item.Integers names))) ≡ (was || is_in name (map plain_identifier names.now))
unfolding plain_item item_opens
opens-Integers was name names = refl

pub opens-Parameters : (was : Bool) (name : Text) (p : Params) → (was || item_opens name (plain_item (item.Parameters p))) ≡ was
unfolding plain_item item_opens
opens-Parameters was name p = or_none was

pub opens-Assigns : (was : Bool) (name : Text) (pairs : Bor (List Pair)) → (was || item_opens name (plain_item (item.Assigns pairs))) ≡ was
unfolding plain_item item_opens
opens-Assigns was name pairs = or_none was

pub opens-Always : (was : Bool) (name : Text) (events : Events) (body : Bor Stmt) (token : ℕ) → (was || item_opens name (plain_item (item.Always events body token))) ≡ was
unfolding plain_item item_opens
opens-Always was name events body token = or_none was

pub opens-Initial : (was : Bool) (name : Text) (s : Bor Stmt) (token : ℕ) → (was || item_opens name (plain_item (item.Initial s token))) ≡ was
unfolding plain_item item_opens
opens-Initial was name s token = or_none was

pub opens-Instances : (was : Bool) (name : Text) (m : Bor (List ℕ)) (token : ℕ) (overrides : Option Conns) (list : Bor (List Instance)) → (was || item_opens name (plain_item (item.Instances m token overrides list))) ≡ was
unfolding plain_item item_opens
opens-Instances was name m token overrides list = or_none was

pub ruleset opens_nodes = (opens-some, opens-none, opens-Ports, opens-Nets, opens-Variables, opens-Integers, opens-Parameters, opens-Assigns, opens-Always, opens-Initial, opens-Instances)

-- of a module

pub variable_is : (m : Module) (name : Text) → is_variable (plain_module m) name ≡ (list_any (port_sets name) (map plain_port m.groups.now) || list_any (item_sets name) (map plain_item m.items.now))
unfolding plain_module
variable_is m name = refl

pub barred_is : (m : Module) (name : Text) → (list_any (port_opens name) (plain_module m).groups || list_any (item_opens name) (plain_module m).items) ≡ (list_any (port_opens name) (map plain_port m.groups.now) || list_any (item_opens name) (map plain_item m.items.now))
unfolding plain_module
barred_is m name = refl

-- from nothing, in two steps
pub in_two : (none one two a b : Bool) → none ≡ false → one ≡ (none || a) → two ≡ (one || b) → two ≡ (a || b)
in_two none one two a b n o t = t ∙ ap (λ z. z || b) (o ∙ ap (λ z. z || a) n)

-- one more of a loop, by the element
pub any_more_item : {X Y : Type 0} (p : X → Bool) (f : Y → X) (now next all : Bool) (ys : List Y) (i : ℕ) (x : Y) → i < length ys → x ≡ get_or ys i x → next ≡ (now || p (f x))
    → (now || list_any p (map f (drop i ys))) ≡ all → (next || list_any p (map f (drop (i + 1) ys))) ≡ all
any_more_item p f now next all ys i x lt is e inv = any_more p f now next all ys i x lt (e ∙ ap (λ z. now || p (f z)) is) inv
