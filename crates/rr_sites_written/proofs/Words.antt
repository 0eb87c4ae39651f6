-- The names that a text spells, and those that a module declares.
use Rattle.std.proofs.Common.{◌≡◌, ℕ, ◌+◌, true, List, [], ◌∷◌, ◌++◌, length, map, Option, Some, None, refl, sym, subst, arith}
use Rattle.std.specs.List.{AllByRecursion, list_all}
use Rattle.std.proofs.lemmas.Bool.{and_parts, and_from}
use Rattle.std.proofs.lemmas.Bool.Decides.{nat_tests}
use Rattle.rr_syntax.specs.Words.{Word, Named, System, Digits, Reserved, Marked}
use Rattle.rr_syntax.specs.Tree.{Identifier, PortDeclaration, DeclaredName, ModuleItem, Ports, Nets, Variables, Integers, Parameters, Assigns, Always, Initial, Instances, ModuleDeclaration, SourceText}
use Rattle.rr_syntax.specs.Items.{spell_each, spell_separated, spell_all, spell_identifier, spell_dir, spell_type, spell_declarator, spell_port, spell_item, spell_parameters, spell_ports, spell_module, spell_source, IsHeader, WellFormedModule, WellFormedSource}
use Rattle.rr_lex.specs.Bytes.{begins, is_letter, is_name_byte, is_printable}
use Rattle.rr_lex.specs.Tokens.{Lexeme, IsToken, named, reserved, escaped_name, system_name, numbered, marked, Read, here, white, token, AreTokens, words_of}
use Rattle.rr_lex.specs.Patch.{IsNameText}
use Rattle.rr_guard.specs.Names.{net_name}

-- a name, where the word is one, can be written as one
abbrev pub Allowed : Word → Type 0
Allowed (Named x) = IsNameText x
Allowed (System x) = Unit {0}
Allowed (Digits n) = Unit {0}
Allowed (Reserved k) = Unit {0}
Allowed (Marked m) = Unit {0}

abbrev pub Each : List Word → Type 0
Each ws = AllByRecursion Allowed ws

-- bytes of a name

letter_printable : (b : ℕ) → is_letter b ≡ true → is_printable b ≡ true
unfolding is_letter is_printable
letter_printable b h = grind (arith, nat_tests)

byte_printable : (b : ℕ) → is_name_byte b ≡ true → is_printable b ≡ true
unfolding is_name_byte is_printable
byte_printable b h = grind (arith, nat_tests)

all_printable : (text : List ℕ) → list_all is_name_byte text ≡ true → list_all is_printable text ≡ true
all_printable [] h = refl
all_printable (b ∷ text) h = let k = and_parts (is_name_byte b) (list_all is_name_byte text) h in and_from _ _ (byte_printable b k.0) (all_printable text k.1)

simple_name : (text : List ℕ) → begins is_letter text ≡ true → list_all is_name_byte text ≡ true → IsNameText text
simple_name [] h g = (h, refl)
simple_name (b ∷ text) h g = (letter_printable b h, all_printable (b ∷ text) g)

token_allowed : (w : Word) (text after : List ℕ) → IsToken w text after → Allowed w
token_allowed w text after t = elim t [
  | named n k e ↦ subst Allowed (sym e) (simple_name text n.0 n.1)
  | reserved k n p e ↦ subst Allowed (sym e) tt
  | escaped_name body n e ↦ subst Allowed (sym e) (n.0, n.1)
  | system_name body n e ↦ subst Allowed (sym e) tt
  | numbered n k e ↦ subst Allowed (sym e) tt
  | marked m p e ↦ subst Allowed (sym e) tt
]

tokens_allowed : (end : ℕ) (rest : List ℕ) (at : ℕ) (bs : List ℕ) (ts : List Lexeme) → Read end rest at bs ts → Each (words_of ts)
tokens_allowed end rest at bs ts (here a b e f) = tt
tokens_allowed end rest at bs ts (white a b text after us e w r) = tokens_allowed end rest (at + length text) after ts r
tokens_allowed end rest at bs ts (token a b text after w us e s r) = (token_allowed w text after s.token, tokens_allowed end rest (at + length text) after us r)

pub text_allowed : (bs : List ℕ) (ts : List Lexeme) → AreTokens bs ts → Each (words_of ts)
text_allowed bs ts h = tokens_allowed (length bs) [] 0 bs ts h

-- parts of what is spelled

front : (a b : List Word) → Each (a ++ b) → Each a
front [] b h = tt
front (w ∷ a) b h = (h.0, front a b h.1)

back : (a b : List Word) → Each (a ++ b) → Each b
back [] b h = h
back (w ∷ a) b h = back a b h.1

module _ {A : Type 0} (f : A → List Word) (P : A → Type 0) (g : (x : A) → Each (f x) → P x) where
  each : (xs : List A) → Each (spell_each f xs) → AllByRecursion P xs
  unfolding spell_each
  each [] h = tt
  each (x ∷ xs) h = (g x (front (f x) (spell_each f xs) h.1), each xs (back (f x) (spell_each f xs) h.1))

  separated : (xs : List A) → Each (spell_separated f xs) → AllByRecursion P xs
  unfolding spell_separated
  separated [] h = tt
  separated (x ∷ xs) h = (g x (front (f x) (spell_each f xs) h), each xs (back (f x) (spell_each f xs) h))

  every : (xs : List A) → Each (spell_all f xs) → AllByRecursion P xs
  unfolding spell_all
  every [] h = tt
  every (x ∷ xs) h = (g x (front (f x) (spell_all f xs) h), every xs (back (f x) (spell_all f xs) h))

-- names that are declared

abbrev pub IsWritten : Identifier → Type 0
IsWritten x = IsNameText x.text

net_written : (n : DeclaredName) → Each (spell_declarator n) → IsWritten (net_name n)
unfolding spell_declarator
net_written n h = h.0

abbrev pub PortWritten : PortDeclaration → Type 0
PortWritten p = AllByRecursion IsWritten (map net_name p.names)

mapped : (list : List DeclaredName) → AllByRecursion (λ n. IsWritten (net_name n)) list → AllByRecursion IsWritten (map net_name list)
mapped [] h = tt
mapped (n ∷ list) h = (h.0, mapped list h.1)

-- the names of a declaration
list_written : (list : List DeclaredName) → Each (spell_separated spell_declarator list) → AllByRecursion IsWritten (map net_name list)
list_written list h = mapped list (separated spell_declarator (λ n. IsWritten (net_name n)) net_written list h)

port_written : (p : PortDeclaration) → Each (spell_port p) → PortWritten p
unfolding spell_port
port_written p h = list_written p.names (back (spell_type p.signed p.range) _ (back (spell_dir p.dir) _ h))

-- the names that an item declares
abbrev pub declared : ModuleItem → List Identifier
declared (Ports p) = map net_name p.names
declared (Nets signed range list) = map net_name list
declared (Variables signed range list) = map net_name list
declared (Integers list) = []
declared (Parameters p) = []
declared (Assigns pairs) = []
declared (Always events body at) = []
declared (Initial body at) = []
declared (Instances m at overrides list) = []

abbrev pub ItemWritten : ModuleItem → Type 0
ItemWritten x = AllByRecursion IsWritten (declared x)

item_written : (x : ModuleItem) → Each (spell_item x) → ItemWritten x
unfolding spell_item
item_written (Ports p) h = port_written p (front (spell_port p) _ h)
item_written (Nets signed range list) h = list_written list (front (spell_separated spell_declarator list) _ (back (spell_type signed range) _ h.1))
item_written (Variables signed range list) h = list_written list (front (spell_separated spell_declarator list) _ (back (spell_type signed range) _ h.1))
item_written (Integers list) h = tt
item_written (Parameters p) h = tt
item_written (Assigns pairs) h = tt
item_written (Always events body at) h = tt
item_written (Initial body at) h = tt
item_written (Instances m at overrides list) h = tt

pub record ModuleWritten (m : ModuleDeclaration) : Type 0 where
  pub groups : AllByRecursion PortWritten m.groups
  pub items : AllByRecursion ItemWritten m.items

none_written : (groups : List PortDeclaration) → length groups ≡ 0 → AllByRecursion PortWritten groups
none_written [] e = tt
none_written (p ∷ groups) e = absurd (omega (arith, e))

groups_written : (header : Option (List Identifier)) (groups : List PortDeclaration) → IsHeader header groups → Each (spell_ports header groups) → AllByRecursion PortWritten groups
unfolding spell_ports
groups_written None groups k h = none_written groups k
groups_written (Some names) groups k h = separated spell_port PortWritten port_written groups (front (spell_separated spell_port groups) _ (back (spell_separated spell_identifier names) _ h.1))

module_written : (m : ModuleDeclaration) → WellFormedModule m → Each (spell_module m) → ModuleWritten m
unfolding spell_module WellFormedModule
module_written m k h =
    let a = back (spell_parameters m.params) _ h.1.1 in
    let b = (back (spell_ports m.header m.groups) _ a).1 in
    record { groups = groups_written m.header m.groups k.1 (front (spell_ports m.header m.groups) _ a); items = every spell_item ItemWritten item_written m.items (front (spell_all spell_item m.items) _ b) }

modules_written : (ms : List ModuleDeclaration) → AllByRecursion WellFormedModule ms → Each (spell_all spell_module ms) → AllByRecursion ModuleWritten ms
unfolding spell_all
modules_written [] k h = tt
modules_written (m ∷ ms) k h = (module_written m k.0 (front (spell_module m) _ h), modules_written ms k.1 (back (spell_module m) _ h))

pub source_written : (s : SourceText) → WellFormedSource s → Each (spell_source s) → AllByRecursion ModuleWritten s.modules
unfolding spell_source WellFormedSource
source_written s k h = modules_written s.modules k h
