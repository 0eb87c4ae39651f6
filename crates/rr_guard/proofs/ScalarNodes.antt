-- The scalars of nodes of the arena, one equation for each form.
use Rattle.std.proofs.Common.{◌≡◌, ap, ℕ, Bool, true, false, not, if◌then◌else◌, List, [], ◌∷◌, ◌++◌, map, Option, None, Some, refl, append-nil, sym, ◌∙◌, fold}
use Rattle.std.specs.Prelude.{flat_map}
use Rattle.rr_syntax.specs.declared.tree.Bounds.{Bounds}
use Rattle.rr_syntax.specs.declared.tree.Conns.{Conns}
use Rattle.rr_syntax.specs.declared.tree.Events.{Events}
use Rattle.rr_syntax.specs.declared.tree.Group.{Group}
use Rattle.rr_syntax.specs.declared.tree.Instance.{Instance}
use Rattle.rr_syntax.specs.declared.tree.Item.TheVariants as item
use Rattle.rr_syntax.specs.declared.tree.Module.{Module}
use Rattle.rr_syntax.specs.declared.tree.Named.{Named}
use Rattle.rr_syntax.specs.declared.tree.Declarator.{Declarator}
use Rattle.rr_syntax.specs.declared.tree.Pair.{Pair}
use Rattle.rr_syntax.specs.declared.tree.Params.{Params}
use Rattle.rr_syntax.specs.declared.tree.Stmt.{Stmt}
use Rattle.rr_syntax.specs.Tree.{Identifier}
use Rattle.rr_syntax.specs.View.{plain_range, plain_identifier, plain_port, plain_declarator, plain_item, plain_module}
use Rattle.std.specs.List.{list_any}
use Rattle.std.specs.Str.{bytes_eq}
use Rattle.rr_flat.specs.Signals.{Text}
use Rattle.rr_guard.proofs.Sets.{same_named}
use Rattle.rr_guard.specs.Names.{texts_of, with_first, firsts, scalars_if, net_name, unless_words, wordless_name, port_scalars, item_scalars, scalars}
use denote.Ref.{Bor}

pub port-None : (acc : List Identifier) (g : Group) → g.range ≡ None → acc ++ port_scalars (plain_port g) ≡ acc ++ map net_name (map plain_declarator g.names.now)
unfolding plain_port plain_range
port-None acc g e = ap (λ r. acc ++ scalars_if (plain_range r) (map net_name (map plain_declarator g.names.now))) e

pub port-Some : (acc : List Identifier) (g : Group) (b : Bounds) → g.range ≡ Some b → acc ++ port_scalars (plain_port g) ≡ acc
unfolding plain_port plain_range
port-Some acc g b e = ap (λ r. acc ++ scalars_if (plain_range r) (map net_name (map plain_declarator g.names.now))) e ∙ append-nil acc

pub wordless-None : (acc : List Identifier) (n : Declarator) → n.words ≡ None → acc ++ wordless_name (plain_declarator n) ≡ acc ++ net_name (plain_declarator n) ∷ []
unfolding plain_declarator plain_range
wordless-None acc n e = ap (λ r. acc ++ unless_words (plain_range r) (net_name (plain_declarator n))) e

pub wordless-Some : (acc : List Identifier) (n : Declarator) (b : Bounds) → n.words ≡ Some b → acc ++ wordless_name (plain_declarator n) ≡ acc
unfolding plain_declarator plain_range
wordless-Some acc n b e = ap (λ r. acc ++ unless_words (plain_range r) (net_name (plain_declarator n))) e ∙ append-nil acc

pub ruleset wordless_nodes = (wordless-None, wordless-Some)

pub ruleset port_nodes = (port-None, port-Some)

pub item-Ports : (acc : List Identifier) (g : Group) → acc ++ item_scalars (plain_item (item.Ports g)) ≡ acc ++ port_scalars (plain_port g)
unfolding plain_item item_scalars
item-Ports acc g = refl

pub nets-None : (acc : List Identifier) (signed : Bool) (names : Bor (List Declarator)) → acc ++ item_scalars (plain_item (item.Nets signed None names)) ≡ acc ++ map net_name (map plain_declarator names.now)
unfolding plain_item item_scalars plain_range
nets-None acc signed names = refl

pub nets-Some : (acc : List Identifier) (signed : Bool) (b : Bounds) (names : Bor (List Declarator)) → acc ++ item_scalars (plain_item (item.Nets signed (Some b) names)) ≡ acc
unfolding plain_item item_scalars plain_range
nets-Some acc signed b names = append-nil acc

pub variables-None : (acc : List Identifier) (signed : Bool) (names : Bor (List Declarator)) → acc ++ item_scalars (plain_item (item.Variables signed None names)) ≡ acc ++ flat_map wordless_name (map plain_declarator names.now)
unfolding plain_item item_scalars plain_range
variables-None acc signed names = refl

pub variables-Some : (acc : List Identifier) (signed : Bool) (b : Bounds) (names : Bor (List Declarator)) → acc ++ item_scalars (plain_item (item.Variables signed (Some b) names)) ≡ acc
unfolding plain_item item_scalars plain_range
variables-Some acc signed b names = append-nil acc

pub item-Integers : (acc : List Identifier) (names : Bor (List Named)) → acc ++ item_scalars (plain_item (item.Integers names)) ≡ acc
unfolding plain_item item_scalars
item-Integers acc names = append-nil acc

pub item-Parameters : (acc : List Identifier) (p : Params) → acc ++ item_scalars (plain_item (item.Parameters p)) ≡ acc
unfolding plain_item item_scalars
item-Parameters acc p = append-nil acc

pub item-Assigns : (acc : List Identifier) (pairs : Bor (List Pair)) → acc ++ item_scalars (plain_item (item.Assigns pairs)) ≡ acc
unfolding plain_item item_scalars
item-Assigns acc pairs = append-nil acc

pub item-Always : (acc : List Identifier) (events : Events) (body : Bor Stmt) (token : ℕ) → acc ++ item_scalars (plain_item (item.Always events body token)) ≡ acc
unfolding plain_item item_scalars
item-Always acc events body token = append-nil acc

pub item-Initial : (acc : List Identifier) (s : Bor Stmt) (token : ℕ) → acc ++ item_scalars (plain_item (item.Initial s token)) ≡ acc
unfolding plain_item item_scalars
item-Initial acc s token = append-nil acc

pub item-Instances : (acc : List Identifier) (m : Bor (List ℕ)) (token : ℕ) (overrides : Option Conns) (list : Bor (List Instance)) → acc ++ item_scalars (plain_item (item.Instances m token overrides list)) ≡ acc
unfolding plain_item item_scalars
item-Instances acc m token overrides list = append-nil acc

pub ruleset item_nodes = (item-Ports, nets-None, nets-Some, variables-None, variables-Some, item-Integers, item-Parameters, item-Assigns, item-Always, item-Initial, item-Instances)

pub module_scalars : (m : Module) → scalars (plain_module m) ≡ flat_map port_scalars (map plain_port m.groups.now) ++ flat_map item_scalars (map plain_item m.items.now)
unfolding plain_module scalars
module_scalars m = refl

pub firsts_is : (xs : List Identifier) → firsts xs ≡ fold with_first [] xs
unfolding firsts
firsts_is xs = refl

-- a name that is there, and one that is new
pub first_there : (list : List Identifier) (n : Named) → list_any (bytes_eq n.name.now) (texts_of list) ≡ true → list ≡ with_first list (plain_identifier n)
unfolding plain_identifier
first_there list n e = sym (ap (λ b. if b then list else list ++ plain_identifier n ∷ []) (sym (same_named n.name.now list) ∙ e))

pub first_new : (list : List Identifier) (n : Named) → list_any (bytes_eq n.name.now) (texts_of list) ≡ false → list ++ plain_identifier n ∷ [] ≡ with_first list (plain_identifier n)
unfolding plain_identifier
first_new list n e = sym (ap (λ b. if b then list else list ++ plain_identifier n ∷ []) (sym (same_named n.name.now list) ∙ e))

-- the texts that were seen are those of the list
pub seen_after : (list : List Identifier) (n : Named) (seen : List Text) → seen ≡ texts_of list → (if list_any (bytes_eq n.name.now) seen then seen else seen ++ n.name.now ∷ []) ≡ texts_of (with_first list (plain_identifier n))
unfolding plain_identifier
seen_after list n seen e = ap (λ (ts : List Text). if list_any (bytes_eq n.name.now) ts then ts else ts ++ n.name.now ∷ []) e ∙ go (list_any (bytes_eq n.name.now) (texts_of list)) refl
  where
    last : (xs : List Identifier) → texts_of xs ++ n.name.now ∷ [] ≡ texts_of (xs ++ plain_identifier n ∷ [])
    last [] = refl
    last (x ∷ xs) = ap (λ z. x.text ∷ z) (last xs)

    go : (b : Bool) → list_any (bytes_eq n.name.now) (texts_of list) ≡ b → (if b then texts_of list else texts_of list ++ n.name.now ∷ []) ≡ texts_of (with_first list (plain_identifier n))
    go true h = ap texts_of (first_there list n h)
    go false h = last list ∙ ap texts_of (first_new list n h)

-- what a set answers to a text that is added
pub is_new : (r : Bool) (seen : List Text) (t : Text) (list : List Identifier) → r ≡ not (list_any (bytes_eq t) seen) → r ≡ true → seen ≡ texts_of list → list_any (bytes_eq t) (texts_of list) ≡ false
is_new r seen t list e h same = ap (list_any (bytes_eq t)) (sym same) ∙ go (list_any (bytes_eq t) seen) (sym e ∙ h)
  where
    go : (b : Bool) → not b ≡ true → b ≡ false
    go true q = sym q
    go false q = refl

pub was_there : (r : Bool) (seen : List Text) (t : Text) (list : List Identifier) → r ≡ not (list_any (bytes_eq t) seen) → r ≡ false → seen ≡ texts_of list → list_any (bytes_eq t) (texts_of list) ≡ true
was_there r seen t list e h same = ap (list_any (bytes_eq t)) (sym same) ∙ go (list_any (bytes_eq t) seen) (sym e ∙ h)
  where
    go : (b : Bool) → not b ≡ false → b ≡ true
    go true q = refl
    go false q = sym q
