-- The scalars of a module are listed in the order of their tokens.
use Rattle.std.proofs.Common.{◌≡◌, ℕ, ◌+◌, Bool, List, [], ◌∷◌, length, map, flat_map, Option, Some, None, refl, subst, ap, arith, length-append}
use Rattle.rr_syntax.specs.Tree.{Identifier, Range, PortDeclaration, DeclaredName, ModuleItem, Ports, Nets, Variables, Integers, Parameters, Assigns, Always, Initial, Instances, ModuleDeclaration}
use Rattle.rr_syntax.specs.Items.{spell_each, spell_separated, spell_all, spell_identifier, spell_type, spell_dir, spell_port, spell_declarator, spell_item, spell_parameters, spell_ports, IsHeader, WellFormedModule, NumberedEach, NumberedSeparated, NumberedAll, NumberedPort, NumberedDeclarator, NumberedItem, NumberedPorts, NumberedModule}
use Rattle.rr_syntax.specs.Words.{Word}
use Rattle.rr_flat_instance.proofs.Spans as span
use Rattle.rr_guard.specs.Names.{scalars_if, net_name, unless_words, wordless_name, port_scalars, item_scalars, scalars}
use Rattle.rr_sites_complete.specs.GuardNames.{Rising}
use Rattle.rr_sites_complete.proofs.Rises.{Spread, spread_wider, spread_none, spread_one, spread_join}
use Rattle.rr_sites_complete.proofs.FirstNames.{token_of}

abbrev In : ℕ → ℕ → List Identifier → Type 0
In low high xs = Spread token_of low high xs

-- Lists of names and of declarations

module _ {A : Type 0} (f : A → List Word) (N : A → ℕ → Type 0) (g : A → List Identifier) (one : (a : A) (at : ℕ) → N a at → In at (at + length (f a)) (g a)) where
  each_in : (xs : List A) (at : ℕ) → NumberedEach f N xs at → In at (at + length (spell_each f xs)) (flat_map g xs)
  unfolding NumberedEach
  each_in [] at n = spread_none token_of at (at + length (spell_each f []))
  each_in (x ∷ xs) at n =
      let e = span.long-each f x xs in
      let mid = at + 1 + length (f x) in
      spread_join token_of at mid (at + length (spell_each f (x ∷ xs))) (g x) (flat_map g xs) (omega arith) (omega (arith, e))
      (spread_wider token_of (at + 1) mid at mid (g x) (omega arith) (omega arith) (one x (at + 1) n.0))
      (spread_wider token_of mid (mid + length (spell_each f xs)) mid (at + length (spell_each f (x ∷ xs))) (flat_map g xs) (omega arith) (omega (arith, e)) (each_in xs mid n.1))

  separated_in : (xs : List A) (at : ℕ) → NumberedSeparated f N xs at → In at (at + length (spell_separated f xs)) (flat_map g xs)
  unfolding NumberedSeparated
  separated_in [] at n = spread_none token_of at (at + length (spell_separated f []))
  separated_in (x ∷ xs) at n =
      let e = span.long-separated f x xs in
      let mid = at + length (f x) in
      spread_join token_of at mid (at + length (spell_separated f (x ∷ xs))) (g x) (flat_map g xs) (omega arith) (omega (arith, e)) (one x at n.0)
      (spread_wider token_of mid (mid + length (spell_each f xs)) mid (at + length (spell_separated f (x ∷ xs))) (flat_map g xs) (omega arith) (omega (arith, e)) (each_in xs mid n.1))

  all_in_order : (xs : List A) (at : ℕ) → NumberedAll f N xs at → In at (at + length (spell_all f xs)) (flat_map g xs)
  unfolding NumberedAll
  all_in_order [] at n = spread_none token_of at (at + length (spell_all f []))
  all_in_order (x ∷ xs) at n =
      let e = span.long-all f x xs in
      let mid = at + length (f x) in
      spread_join token_of at mid (at + length (spell_all f (x ∷ xs))) (g x) (flat_map g xs) (omega arith) (omega (arith, e)) (one x at n.0)
      (spread_wider token_of mid (mid + length (spell_all f xs)) mid (at + length (spell_all f (x ∷ xs))) (flat_map g xs) (omega arith) (omega (arith, e)) (all_in_order xs mid n.1))

singles : {A : Type 0} (g : A → Identifier) (xs : List A) → flat_map (λ a. g a ∷ []) xs ≡ map g xs
singles g [] = refl
singles g (x ∷ xs) = ap (λ ys. g x ∷ ys) (singles g xs)

net_in : (x : DeclaredName) (at : ℕ) → NumberedDeclarator x at → In at (at + length (spell_declarator x)) (net_name x ∷ [])
unfolding NumberedDeclarator spell_declarator
net_in x at n = let e = n.0 in spread_one token_of at (at + length (spell_declarator x)) (net_name x) (omega (arith, e)) (omega (arith, e))

nets_in_order : (xs : List DeclaredName) (at : ℕ) → NumberedSeparated spell_declarator NumberedDeclarator xs at → In at (at + length (spell_separated spell_declarator xs)) (map net_name xs)
nets_in_order xs at n = subst (In at (at + length (spell_separated spell_declarator xs))) (singles net_name xs) (separated_in spell_declarator NumberedDeclarator (λ a. net_name a ∷ []) net_in xs at n)

wordless_in : (x : DeclaredName) (at : ℕ) → NumberedDeclarator x at → In at (at + length (spell_declarator x)) (wordless_name x)
wordless_in x at n = by x.words
  where
    by : (o : Option Range) → In at (at + length (spell_declarator x)) (unless_words o (net_name x))
    by None = net_in x at n
    by (Some r) = spread_none token_of at (at + length (spell_declarator x))

if_in_order : (r : Option Range) (low high : ℕ) (xs : List Identifier) → In low high xs → In low high (scalars_if r xs)
if_in_order None low high xs h = h
if_in_order (Some r) low high xs h = spread_none token_of low high

-- Declarations and items

long-port : (p : PortDeclaration) → length (spell_port p) ≡ length (spell_dir p.dir) + length (spell_type p.signed p.range) + length (spell_separated spell_declarator p.names)
unfolding spell_port
long-port p = simp length-append (omega arith)

long-Ports : (p : PortDeclaration) → length (spell_item (Ports p)) ≡ length (spell_port p) + 1
unfolding spell_item
long-Ports p = simp length-append (omega arith)

long-Variables : (signed : Bool) (range : Option Range) (list : List DeclaredName) →
    length (spell_item (Variables signed range list)) ≡ 2 + length (spell_type signed range) + length (spell_separated spell_declarator list)
unfolding spell_item
long-Variables signed range list = simp length-append (omega arith)

port_in_order : (p : PortDeclaration) (at : ℕ) → NumberedPort p at → In at (at + length (spell_port p)) (port_scalars p)
unfolding NumberedPort
port_in_order p at n =
    let e = long-port p in
    let mid = at + length (spell_dir p.dir) + length (spell_type p.signed p.range) in
    if_in_order p.range at (at + length (spell_port p)) (map net_name p.names)
    (spread_wider token_of mid (mid + length (spell_separated spell_declarator p.names)) at (at + length (spell_port p)) (map net_name p.names) (omega arith) (omega (arith, e)) (nets_in_order p.names mid n.1))

item_in_order : (x : ModuleItem) (at : ℕ) → NumberedItem x at → In at (at + length (spell_item x)) (item_scalars x)
unfolding NumberedItem item_scalars
item_in_order (Ports p) at n =
    let e = long-Ports p in spread_wider token_of at (at + length (spell_port p)) at (at + length (spell_item (Ports p))) (port_scalars p) (omega arith) (omega (arith, e)) (port_in_order p at n)
item_in_order (Nets signed range list) at n =
    let e = span.long-Nets signed range list in
    let mid = at + 1 + length (spell_type signed range) in
    if_in_order range at (at + length (spell_item (Nets signed range list))) (map net_name list)
    (spread_wider token_of mid (mid + length (spell_separated spell_declarator list)) at (at + length (spell_item (Nets signed range list))) (map net_name list) (omega arith) (omega (arith, e)) (nets_in_order list mid n.1))
item_in_order (Variables signed range list) at n =
    let e = long-Variables signed range list in
    let mid = at + 1 + length (spell_type signed range) in
    if_in_order range at (at + length (spell_item (Variables signed range list))) (flat_map wordless_name list)
    (spread_wider token_of mid (mid + length (spell_separated spell_declarator list)) at (at + length (spell_item (Variables signed range list))) (flat_map wordless_name list) (omega arith) (omega (arith, e)) (separated_in spell_declarator NumberedDeclarator wordless_name wordless_in list mid n.1))
item_in_order (Integers list) at n = spread_none token_of at (at + length (spell_item (Integers list)))
item_in_order (Parameters p) at n = spread_none token_of at (at + length (spell_item (Parameters p)))
item_in_order (Assigns pairs) at n = spread_none token_of at (at + length (spell_item (Assigns pairs)))
item_in_order (Always events body token) at n = spread_none token_of at (at + length (spell_item (Always events body token)))
item_in_order (Initial body token) at n = spread_none token_of at (at + length (spell_item (Initial body token)))
item_in_order (Instances m token over list) at n = spread_none token_of at (at + length (spell_item (Instances m token over list)))

-- Modules

long-ports : (names : List Identifier) (groups : List PortDeclaration) → length (spell_ports (Some names) groups) ≡ 2 + length (spell_separated spell_identifier names) + length (spell_separated spell_port groups)
unfolding spell_ports
long-ports names groups = simp length-append (omega arith)

no_groups : (groups : List PortDeclaration) (low high : ℕ) → length groups ≡ 0 → In low high (flat_map port_scalars groups)
no_groups [] low high h = spread_none token_of low high
no_groups (p ∷ ps) low high h = absurd (omega (arith, h))

groups_in_order : (header : Option (List Identifier)) (groups : List PortDeclaration) (at : ℕ) → IsHeader header groups → NumberedPorts header groups at → In at (at + length (spell_ports header groups)) (flat_map port_scalars groups)
unfolding NumberedPorts
groups_in_order None groups at w n = no_groups groups at (at + length (spell_ports None groups)) w
groups_in_order (Some names) groups at w n =
    let e = long-ports names groups in
    let mid = at + 1 + length (spell_separated spell_identifier names) in
    spread_wider token_of mid (mid + length (spell_separated spell_port groups)) at (at + length (spell_ports (Some names) groups)) (flat_map port_scalars groups) (omega arith) (omega (arith, e))
    (separated_in spell_port NumberedPort port_scalars port_in_order groups mid n.1)

pub scalars_rise : (m : ModuleDeclaration) (at : ℕ) → WellFormedModule m → NumberedModule m at → Rising token_of (scalars m)
unfolding WellFormedModule NumberedModule scalars
scalars_rise m at w n =
    let low = at + 2 + length (spell_parameters m.params) in
    let mid = low + length (spell_ports m.header m.groups) in
    let a = groups_in_order m.header m.groups low w.1 n.2 in
    let b = spread_wider token_of (mid + 1) (mid + 1 + length (spell_all spell_item m.items)) mid (mid + 1 + length (spell_all spell_item m.items)) (flat_map item_scalars m.items) (omega arith) (omega arith) (all_in_order spell_item NumberedItem item_scalars item_in_order m.items (mid + 1) n.3) in
    (spread_join token_of low mid (mid + 1 + length (spell_all spell_item m.items)) (flat_map port_scalars m.groups) (flat_map item_scalars m.items) (omega arith) (omega arith) a b).rising
