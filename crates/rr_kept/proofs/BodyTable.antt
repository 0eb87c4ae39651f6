-- The table of bodies has the first of each token.
use Rattle.std.proofs.Common.{◌≡◌, ℕ, ◌+◌, ◌==◌, ◌<◌, ◌≤◌, Bool, true, false, if◌then◌else◌, List, [], ◌∷◌, ◌++◌, length, map, take, get_or, Option, Some, None, unwrap_or, refl, sym, ◌∙◌, ap, subst, arith, append-nil, append_assoc, length-append}
use Rattle.std.specs.List.{flat_map}
use Rattle.std.specs.Option.{option_or}
use Rattle.std.proofs.lemmas.List.{take_all, take_more, map-append}
use denote.Ref.{Bor}
use Rattle.rr_syntax.specs.declared.tree.Bounds.{Bounds}
use Rattle.rr_syntax.specs.declared.tree.Conns.{Conns}
use Rattle.rr_syntax.specs.declared.tree.Events.{Events}
use Rattle.rr_syntax.specs.declared.tree.Group.{Group}
use Rattle.rr_syntax.specs.declared.tree.Instance.{Instance}
use Rattle.rr_syntax.specs.declared.tree.Item.{Item}
use Rattle.rr_syntax.specs.declared.tree.Item.TheVariants as item
use Rattle.rr_syntax.specs.declared.tree.Module.{Module}
use Rattle.rr_syntax.specs.declared.tree.Named.{Named}
use Rattle.rr_syntax.specs.declared.tree.Declarator.{Declarator}
use Rattle.rr_syntax.specs.declared.tree.Pair.{Pair}
use Rattle.rr_syntax.specs.declared.tree.Params.{Params}
use Rattle.rr_syntax.specs.declared.tree.Source.{Source}
use Rattle.rr_syntax.specs.declared.tree.Stmt.{Stmt}
use Rattle.rr_syntax.specs.Tree.{ModuleItem, Ports, Nets, Variables, Integers, Parameters, Assigns, Always, Initial, Instances, ModuleDeclaration, SourceText}
use Rattle.rr_syntax.specs.Words.{Reserved, Marked, keyword_endmodule, mark_semicolon}
use Rattle.rr_syntax.specs.Statements.{spell_statement}
use Rattle.rr_syntax.specs.Items.{spell_all, spell_events, spell_item, spell_module, spell_parameters, spell_ports, spell_source}
use Rattle.rr_syntax.specs.View.{plain_statement, plain_events, plain_item, plain_module, plain_source}
use Rattle.rr_syntax.proofs.ItemLengths.{size-Always}
use Rattle.rr_kept.specs.Bodies.{first_body}
use Rattle.rr_kept.specs.Kept.{body_at, or_next, body_length, body_length_in}

or_none : (o : Option ℕ) → o ≡ option_or o None
or_none None = refl
or_none (Some n) = refl

or_assoc : (a b c : Option ℕ) → option_or (option_or a b) c ≡ option_or a (option_or b c)
or_assoc None b c = refl
or_assoc (Some n) b c = refl

-- the bodies of items have come to a table
abbrev pub Adds : (ℕ → Option ℕ) → (ℕ → Option ℕ) → List ModuleItem → Type 0
Adds old new xs = (k : ℕ) → new k ≡ option_or (old k) (first_body k xs)

pub adds_none : (o : ℕ → Option ℕ) → Adds o o []
unfolding first_body
adds_none o k = or_none (o k)

first_more : (k : ℕ) (xs ys : List ModuleItem) → first_body k (xs ++ ys) ≡ option_or (first_body k xs) (first_body k ys)
unfolding first_body
first_more k [] ys = refl
first_more k (x ∷ xs) ys = ap (option_or (body_at k x)) (first_more k xs ys) ∙ sym (or_assoc (body_at k x) (first_body k xs) (first_body k ys))

adds_more : (o o1 o2 : ℕ → Option ℕ) (xs ys : List ModuleItem) → Adds o o1 xs → Adds o1 o2 ys → Adds o o2 (xs ++ ys)
adds_more o o1 o2 xs ys a b k =
    b k ∙ ap (λ x. option_or x (first_body k ys)) (a k) ∙ or_assoc (o k) (first_body k xs) (first_body k ys) ∙ ap (option_or (o k)) (sym (first_more k xs ys))

-- the body of one item
abbrev pub AddsItem : (ℕ → Option ℕ) → (ℕ → Option ℕ) → Item → Type 0
AddsItem old new i = (k : ℕ) → new k ≡ option_or (old k) (body_at k (plain_item i))

one_adds : (o o1 : ℕ → Option ℕ) (x : ModuleItem) → ((k : ℕ) → o1 k ≡ option_or (o k) (body_at k x)) → Adds o o1 (x ∷ [])
unfolding first_body
one_adds o o1 x h k = h k ∙ ap (option_or (o k)) (or_none (body_at k x))

with_item : (o o1 : ℕ → Option ℕ) (i j : Item) → i ≡ j → AddsItem o o1 j → AddsItem o o1 i
with_item o o1 i j q h = subst (AddsItem o o1) (sym q) h

module _ (o : ℕ → Option ℕ) (i : Item) where
  pub Ports_none : (g : Group) → i ≡ item.Ports g → AddsItem o o i
  unfolding body_at plain_item
  Ports_none g q = with_item o o i (item.Ports g) q (λ k. or_none (o k))

  pub Nets_none : (signed : Bool) (range : Option Bounds) (names : Bor (List Declarator)) → i ≡ item.Nets signed range names → AddsItem o o i
  unfolding body_at plain_item
  Nets_none signed range names q = with_item o o i (item.Nets signed range names) q (λ k. or_none (o k))

  pub Variables_none : (signed : Bool) (range : Option Bounds) (names : Bor (List Declarator)) → i ≡ item.Variables signed range names → AddsItem o o i
  unfolding body_at plain_item
  Variables_none signed range names q = with_item o o i (item.Variables signed range names) q (λ k. or_none (o k))

  pub Integers_none : (names : Bor (List Named)) → i ≡ item.Integers names → AddsItem o o i
  unfolding body_at plain_item
  Integers_none names q = with_item o o i (item.Integers names) q (λ k. or_none (o k))

  pub Parameters_none : (p : Params) → i ≡ item.Parameters p → AddsItem o o i
  unfolding body_at plain_item
  Parameters_none p q = with_item o o i (item.Parameters p) q (λ k. or_none (o k))

  pub Assigns_none : (pairs : Bor (List Pair)) → i ≡ item.Assigns pairs → AddsItem o o i
  unfolding body_at plain_item
  Assigns_none pairs q = with_item o o i (item.Assigns pairs) q (λ k. or_none (o k))

  pub Initial_none : (s : Bor Stmt) (token : ℕ) → i ≡ item.Initial s token → AddsItem o o i
  unfolding body_at plain_item
  Initial_none s token q = with_item o o i (item.Initial s token) q (λ k. or_none (o k))

  pub Instances_none : (m : Bor (List ℕ)) (token : ℕ) (u : Option Conns) (list : Bor (List Instance)) → i ≡ item.Instances m token u list → AddsItem o o i
  unfolding body_at plain_item
  Instances_none m token u list q = with_item o o i (item.Instances m token u list) q (λ k. or_none (o k))

  pub Always_found : (o1 : ℕ → Option ℕ) (events : Events) (s : Bor Stmt) (token start size : ℕ) → i ≡ item.Always events s token →
      start ≡ token + 2 + length (spell_events (plain_events events)) → size ≡ length (spell_statement (plain_statement s.now)) →
      ((k : ℕ) → o1 k ≡ option_or (o k) (if start == k then Some size else None)) → AddsItem o o1 i
  unfolding body_at plain_item
  Always_found o1 events s token start size q a b h =
      with_item o o1 i (item.Always events s token) q
      (λ k. h k ∙ ap (λ n. option_or (o k) (if n == k then Some size else None)) a ∙ ap (λ n. option_or (o k) (if token + 2 + length (spell_events (plain_events events)) == k then Some n else None)) b)

pub ruleset item_steps = (size-Always, Ports_none, Nets_none, Variables_none, Integers_none, Parameters_none, Assigns_none, Initial_none, Instances_none, Always_found)

-- several items, one after the other
pub items_more : (o o1 o2 : ℕ → Option ℕ) (xs : List Item) (n : ℕ) (d : Item) → n < length xs → Adds o o1 (map plain_item (take n xs)) → AddsItem o1 o2 (get_or xs n d) → Adds o o2 (map plain_item (take (n + 1) xs))
items_more o o1 o2 xs n d l a b =
    let x : Item = get_or xs n d in
    let up : map plain_item (take (n + 1) xs) ≡ map plain_item (take n xs) ++ (plain_item x ∷ []) =
    ap (map plain_item) (take_more xs n d l) ∙ map-append plain_item (take n xs) (x ∷ []) in
    subst (Adds o o2) (sym up) (adds_more o o1 o2 (map plain_item (take n xs)) (plain_item x ∷ []) a (one_adds o1 o2 (plain_item x) b))

pub items_full : (o o1 : ℕ → Option ℕ) (xs : List Item) (n : ℕ) → length xs ≤ n → Adds o o1 (map plain_item (take n xs)) → Adds o o1 (map plain_item xs)
items_full o o1 xs n l h = subst (λ (ys : List Item). Adds o o1 (map plain_item ys)) (take_all n xs l) h

-- several modules
abbrev pub items_of : List Module → List ModuleItem
items_of ms = flat_map (λ (m : ModuleDeclaration). m.items) (map plain_module ms)

items_join : (ms : List Module) (m : Module) → items_of (ms ++ (m ∷ [])) ≡ items_of ms ++ map plain_item m.items.now
unfolding plain_module
items_join [] m = append-nil (map plain_item m.items.now)
items_join (x ∷ ms) m = ap (λ (l : List ModuleItem). map plain_item x.items.now ++ l) (items_join ms m) ∙ sym (append_assoc (map plain_item x.items.now) (items_of ms) (map plain_item m.items.now))

pub modules_more : (o o1 o2 : ℕ → Option ℕ) (ms : List Module) (n : ℕ) (d : Module) → n < length ms → Adds o o1 (items_of (take n ms)) → Adds o1 o2 (map plain_item (get_or ms n d).items.now) → Adds o o2 (items_of (take (n + 1) ms))
modules_more o o1 o2 ms n d l a b =
    let m : Module = get_or ms n d in
    let up : items_of (take (n + 1) ms) ≡ items_of (take n ms) ++ map plain_item m.items.now = ap items_of (take_more ms n d l) ∙ items_join (take n ms) m in
    subst (Adds o o2) (sym up) (adds_more o o1 o2 (items_of (take n ms)) (map plain_item m.items.now) a b)

pub modules_full : (o o1 : ℕ → Option ℕ) (ms : List Module) (n : ℕ) → length ms ≤ n → Adds o o1 (items_of (take n ms)) → Adds o o1 (items_of ms)
modules_full o o1 ms n l h = subst (λ (ys : List Module). Adds o o1 (items_of ys)) (take_all n ms l) h

-- what a table made from nothing has is as said
first_is : (k : ℕ) (xs : List ModuleItem) → unwrap_or (first_body k xs) 0 ≡ body_length k xs
unfolding first_body body_length
first_is k [] = refl
first_is k (x ∷ xs) = by_body (body_at k x) (first_is k xs)
  where
    by_body : (b : Option ℕ) → unwrap_or (first_body k xs) 0 ≡ body_length k xs → unwrap_or (option_or b (first_body k xs)) 0 ≡ or_next b (body_length k xs)
    by_body None h = h
    by_body (Some n) h = refl

pub table_is : (o o1 : ℕ → Option ℕ) (s : Source) → ((k : ℕ) → o k ≡ None) → Adds o o1 (items_of s.modules.now) → (k : ℕ) → unwrap_or (o1 k) 0 ≡ body_length_in (plain_source s) k
unfolding plain_source
table_is o o1 s e h k = ap (λ x. unwrap_or x 0) (h k ∙ ap (λ x. option_or x (first_body k (items_of s.modules.now))) (e k)) ∙ first_is k (items_of s.modules.now)

-- a body is no longer than its source
body_short : (k : ℕ) (x : ModuleItem) → unwrap_or (body_at k x) 0 ≤ length (spell_item x)
unfolding body_at spell_item
body_short k (Ports p) = omega arith
body_short k (Nets signed range names) = omega arith
body_short k (Variables signed range names) = omega arith
body_short k (Integers names) = omega arith
body_short k (Parameters p) = omega arith
body_short k (Assigns pairs) = omega arith
body_short k (Always events body token) = by_test (token + 2 + length (spell_events events) == k)
  where
    by_test : (c : Bool) → unwrap_or (if c then Some (length (spell_statement body)) else None) 0 ≤ length (spell_item (Always events body token))
    by_test true = omega (arith, length-append (spell_events events) (spell_statement body))
    by_test false = omega arith
body_short k (Initial s token) = omega arith
body_short k (Instances m token overrides list) = omega arith

length_short : (k : ℕ) (xs : List ModuleItem) → body_length k xs ≤ length (spell_all spell_item xs)
unfolding body_length spell_all
length_short k [] = omega arith
length_short k (x ∷ xs) = by_body (body_at k x) (body_short k x) (length_short k xs)
  where
    by_body : (b : Option ℕ) → unwrap_or b 0 ≤ length (spell_item x) → body_length k xs ≤ length (spell_all spell_item xs) → or_next b (body_length k xs) ≤ length (spell_item x ++ spell_all spell_item xs)
    by_body None h r = omega (arith, r, length-append (spell_item x) (spell_all spell_item xs))
    by_body (Some n) h r = omega (arith, h, length-append (spell_item x) (spell_all spell_item xs))

all_join : (xs ys : List ModuleItem) → spell_all spell_item (xs ++ ys) ≡ spell_all spell_item xs ++ spell_all spell_item ys
unfolding spell_all
all_join [] ys = refl
all_join (x ∷ xs) ys = ap (λ l. spell_item x ++ l) (all_join xs ys) ∙ sym (append_assoc (spell_item x) (spell_all spell_item xs) (spell_all spell_item ys))

module_short : (m : ModuleDeclaration) → length (spell_all spell_item m.items) ≤ length (spell_module m)
unfolding spell_module
module_short m =
    let c = length-append (spell_all spell_item m.items) (Reserved keyword_endmodule ∷ []) in
    let b = length-append (spell_ports m.header m.groups) (Marked mark_semicolon ∷ (spell_all spell_item m.items ++ (Reserved keyword_endmodule ∷ []))) in
    let a = length-append (spell_parameters m.params) (spell_ports m.header m.groups ++ (Marked mark_semicolon ∷ (spell_all spell_item m.items ++ (Reserved keyword_endmodule ∷ [])))) in
    omega (arith, a, b, c)

modules_short : (ms : List ModuleDeclaration) → length (spell_all spell_item (flat_map (λ (m : ModuleDeclaration). m.items) ms)) ≤ length (spell_all spell_module ms)
unfolding spell_all
modules_short [] = omega arith
modules_short (m ∷ ms) =
    let F : List ModuleItem = flat_map (λ (x : ModuleDeclaration). x.items) ms in
    let a = ap length (all_join m.items F) in
    let b = length-append (spell_all spell_item m.items) (spell_all spell_item F) in
    let c = length-append (spell_module m) (spell_all spell_module ms) in
    let d = module_short m in
    let e = modules_short ms in
    omega (arith, a, b, c, d, e)

pub source_short : (k : ℕ) (source : SourceText) → body_length_in source k ≤ length (spell_source source)
unfolding spell_source
source_short k source =
    let a = length_short k (flat_map (λ (m : ModuleDeclaration). m.items) source.modules) in
    let b = modules_short source.modules in
    omega (arith, a, b)

-- the items of a module fit where the module does
pub items_fit : (m : Module) → length (spell_all spell_item (map plain_item m.items.now)) ≤ length (spell_module (plain_module m))
unfolding plain_module
items_fit m = module_short (plain_module m)
