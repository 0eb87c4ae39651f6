-- The parts of items have their token numbers from the bare parts and the number of their first token.
use Rattle.std.proofs.Common.{ℕ, ◌≡◌, ◌∙◌, ◌+◌, Bool, List, [], ◌∷◌, length, map, Option, None, Some, refl, ap, sym}
use Rattle.rr_syntax.specs.Words.{Word, keyword_signed, keyword_integer}
use Rattle.rr_syntax.specs.Tree.{Tree, Trees, Identifier, Range, PortDeclaration, ParamAssignment, ParameterDeclaration, DeclaredName, NetAssignment, EdgeEvent, EventControl, Star, Edges, Levels, NamedConnection, Connections, Positions, Names, ModuleInstance, bare_identifier, bare_range, bare_port, bare_assignment, bare_parameter, bare_value, bare_declarator, bare_pair, bare_edge, bare_events, bare_connection, bare_connections, bare_overrides, bare_instance}
use Rattle.rr_syntax.specs.Expressions.{spell}
use Rattle.rr_syntax.specs.Items.{spell_where, spell_identifier, spell_range, spell_type, spell_dir, spell_declarator, spell_assignment, spell_edge, spell_connection, NumberedEach, NumberedSeparated, NumberedAll, NumberedIdentifier, NumberedRange, NumberedType, NumberedPort, NumberedAssignment, NumberedParameter, NumberedValue, NumberedDeclarator, NumberedPair, NumberedEdge, NumberedEvents, NumberedConnection, NumberedConnections, NumberedOverrides, NumberedInstance}
use Rattle.rr_syntax.proofs.BareExpressions.{spell-bare}
use Rattle.rr_syntax.proofs.BareItems.{spell_identifier-bare, spell_declarator-bare, spell_type-bare, spell_assignment-bare, spell_edge-bare, spell_connection-bare}
use Rattle.rr_elaborate.proofs.RenumberedExpressions.{renumbered, renumbered_more, renumbered-bare, renumbered_more-bare}

-- lists, of which R numbers each
unfoldable pub renumbered_each : {A : Type 0} → (A → List Word) → (A → ℕ → A) → List A → ℕ → List A
renumbered_each f R [] at = []
renumbered_each f R (x ∷ xs) at = R x (at + 1) ∷ renumbered_each f R xs (at + 1 + length (f x))

unfoldable pub renumbered_separated : {A : Type 0} → (A → List Word) → (A → ℕ → A) → List A → ℕ → List A
renumbered_separated f R [] at = []
renumbered_separated f R (x ∷ xs) at = R x at ∷ renumbered_each f R xs (at + length (f x))

unfoldable pub renumbered_all : {A : Type 0} → (A → List Word) → (A → ℕ → A) → List A → ℕ → List A
renumbered_all f R [] at = []
renumbered_all f R (x ∷ xs) at = R x at ∷ renumbered_all f R xs (at + length (f x))

module _ {A : Type 0} (f : A → List Word) (g : A → A) (R : A → ℕ → A) (N : A → ℕ → Type 0) (same : (x : A) → f (g x) ≡ f x) (one : (x : A) (at : ℕ) → N x at → R (g x) at ≡ x) where
  pub each-bare : (xs : List A) (at : ℕ) → NumberedEach f N xs at → renumbered_each f R (map g xs) at ≡ xs
  unfolding renumbered_each NumberedEach
  each-bare [] at h = refl
  each-bare (x ∷ xs) at h = rw (same x, one x (at + 1) h.0, each-bare xs (at + 1 + length (f x)) h.1) refl

  pub separated-bare : (xs : List A) (at : ℕ) → NumberedSeparated f N xs at → renumbered_separated f R (map g xs) at ≡ xs
  unfolding renumbered_separated NumberedSeparated
  separated-bare [] at h = refl
  separated-bare (x ∷ xs) at h = rw (same x, one x at h.0, each-bare xs (at + length (f x)) h.1) refl

  pub all-bare : (xs : List A) (at : ℕ) → NumberedAll f N xs at → renumbered_all f R (map g xs) at ≡ xs
  unfolding renumbered_all NumberedAll
  all-bare [] at h = refl
  all-bare (x ∷ xs) at h = rw (same x, one x at h.0, all-bare xs (at + length (f x)) h.1) refl

-- names
unfoldable pub renumbered_identifier : Identifier → ℕ → Identifier
renumbered_identifier i at = record { token = at; text = i.text }

pub identifier-bare : (i : Identifier) (at : ℕ) → NumberedIdentifier i at → renumbered_identifier (bare_identifier i) at ≡ i
unfolding renumbered_identifier bare_identifier NumberedIdentifier
identifier-bare i at h = λ k. record { token = sym h k; text = i.text }

abbrev pub renumbered_names : List Identifier → ℕ → List Identifier
renumbered_names names at = renumbered_separated spell_identifier renumbered_identifier names at

pub names-bare : (names : List Identifier) (at : ℕ) → NumberedSeparated spell_identifier NumberedIdentifier names at → renumbered_names (map bare_identifier names) at ≡ names
names-bare names at h = separated-bare spell_identifier bare_identifier renumbered_identifier NumberedIdentifier spell_identifier-bare identifier-bare names at h

-- ranges and types
unfoldable pub renumbered_range : Option Range → ℕ → Option Range
renumbered_range None at = None
renumbered_range (Some r) at = Some (record { left = renumbered r.left (at + 1); right = renumbered r.right (at + 1 + length (spell r.left) + 1) })

unfoldable pub renumbered_type : Bool → Option Range → ℕ → Option Range
renumbered_type signed range at = renumbered_range range (at + length (spell_where signed keyword_signed))

range-bare : (r : Option Range) (at : ℕ) → NumberedRange r at → renumbered_range (bare_range r) at ≡ r
unfolding renumbered_range bare_range NumberedRange
range-bare None at h = refl
range-bare (Some r) at h = rw (spell-bare r.left, renumbered-bare r.left (at + 1) h.0, renumbered-bare r.right (at + 1 + length (spell r.left) + 1) h.1) refl

pub type-bare : (signed : Bool) (r : Option Range) (at : ℕ) → NumberedType signed r at → renumbered_type signed (bare_range r) at ≡ r
unfolding renumbered_type NumberedType
type-bare signed r at h = range-bare r (at + length (spell_where signed keyword_signed)) h

-- declared names; `at` of a value is the number of the mark before it
unfoldable pub renumbered_value : Option Tree → ℕ → Option Tree
renumbered_value None at = None
renumbered_value (Some t) at = Some (renumbered t (at + 1))

value-bare : (v : Option Tree) (at : ℕ) → NumberedValue v at → renumbered_value (bare_value v) at ≡ v
unfolding renumbered_value bare_value NumberedValue
value-bare None at h = refl
value-bare (Some t) at h = rw (renumbered-bare t (at + 1) h) refl

range-spelled : (r : Option Range) → spell_range (bare_range r) ≡ spell_range r
unfolding spell_range bare_range
range-spelled None = refl
range-spelled (Some r) = rw (spell-bare r.left, spell-bare r.right) refl

unfoldable pub renumbered_declarator : DeclaredName → ℕ → DeclaredName
renumbered_declarator n at = record { token = at; text = n.text; words = renumbered_range n.words (at + 1); value = renumbered_value n.value (at + 1 + length (spell_range n.words)) }

pub declarator-bare : (n : DeclaredName) (at : ℕ) → NumberedDeclarator n at → renumbered_declarator (bare_declarator n) at ≡ n
unfolding renumbered_declarator bare_declarator NumberedDeclarator
declarator-bare n at h =
    let value = ap (λ (w : List Word). renumbered_value (bare_value n.value) (at + 1 + length w)) (range-spelled n.words) ∙ value-bare n.value (at + 1 + length (spell_range n.words)) h.2 in
    λ k. record { token = sym h.0 k; text = n.text; words = range-bare n.words (at + 1) h.1 k; value = value k }

-- ports
unfoldable pub renumbered_port : PortDeclaration → ℕ → PortDeclaration
renumbered_port p at = record p {
  range = renumbered_type p.signed p.range (at + length (spell_dir p.dir));
  names = renumbered_separated spell_declarator renumbered_declarator p.names (at + length (spell_dir p.dir) + length (spell_type p.signed p.range));
}

pub port-bare : (p : PortDeclaration) (at : ℕ) → NumberedPort p at → renumbered_port (bare_port p) at ≡ p
unfolding renumbered_port bare_port NumberedPort
port-bare p at h =
    rw (
      spell_type-bare p.signed p.range,
      type-bare p.signed p.range (at + length (spell_dir p.dir)) h.0,
      separated-bare spell_declarator bare_declarator renumbered_declarator NumberedDeclarator spell_declarator-bare declarator-bare p.names (at + length (spell_dir p.dir) + length (spell_type p.signed p.range)) h.1,
    ) refl

-- parameters
unfoldable pub renumbered_assignment : ParamAssignment → ℕ → ParamAssignment
renumbered_assignment a at = record { token = at; text = a.text; value = renumbered a.value (at + 2) }

assignment-bare : (a : ParamAssignment) (at : ℕ) → NumberedAssignment a at → renumbered_assignment (bare_assignment a) at ≡ a
unfolding renumbered_assignment bare_assignment NumberedAssignment
assignment-bare a at h = λ k. record { token = sym h.0 k; text = a.text; value = renumbered-bare a.value (at + 2) h.1 k }

unfoldable pub renumbered_parameter : ParameterDeclaration → ℕ → ParameterDeclaration
renumbered_parameter p at = record p {
  range = renumbered_type p.signed p.range (at + 1 + length (spell_where p.integer keyword_integer));
  sets = renumbered_separated spell_assignment renumbered_assignment p.sets
      (at + 1 + length (spell_where p.integer keyword_integer) + length (spell_type p.signed p.range));
}

pub parameter-bare : (p : ParameterDeclaration) (at : ℕ) → NumberedParameter p at → renumbered_parameter (bare_parameter p) at ≡ p
unfolding renumbered_parameter bare_parameter NumberedParameter
parameter-bare p at h =
    rw (
      spell_type-bare p.signed p.range,
      type-bare p.signed p.range (at + 1 + length (spell_where p.integer keyword_integer)) h.0,
      separated-bare spell_assignment bare_assignment renumbered_assignment NumberedAssignment spell_assignment-bare assignment-bare p.sets
          (at + 1 + length (spell_where p.integer keyword_integer) + length (spell_type p.signed p.range)) h.1,
    ) refl

-- assignments
unfoldable pub renumbered_pair : NetAssignment → ℕ → NetAssignment
renumbered_pair p at = record { target = renumbered p.target at; value = renumbered p.value (at + length (spell p.target) + 1) }

pub pair-bare : (p : NetAssignment) (at : ℕ) → NumberedPair p at → renumbered_pair (bare_pair p) at ≡ p
unfolding renumbered_pair bare_pair NumberedPair
pair-bare p at h = rw (spell-bare p.target, renumbered-bare p.target at h.0, renumbered-bare p.value (at + length (spell p.target) + 1) h.1) refl

-- events
unfoldable pub renumbered_edge : EdgeEvent → ℕ → EdgeEvent
renumbered_edge e at = record { rising = e.rising; text = e.text; token = at + 1 }

edge-bare : (e : EdgeEvent) (at : ℕ) → NumberedEdge e at → renumbered_edge (bare_edge e) at ≡ e
unfolding renumbered_edge bare_edge NumberedEdge
edge-bare e at h = λ k. record { rising = e.rising; text = e.text; token = sym h k }

unfoldable pub renumbered_events : EventControl → ℕ → EventControl
renumbered_events (Star brackets) at = Star brackets
renumbered_events (Edges list commas) at = Edges (renumbered_each spell_edge renumbered_edge list at) commas
renumbered_events (Levels list commas) at = Levels (renumbered_more list at) commas

pub events-bare : (e : EventControl) (at : ℕ) → NumberedEvents e at → renumbered_events (bare_events e) at ≡ e
unfolding renumbered_events bare_events NumberedEvents
events-bare (Star brackets) at h = refl
events-bare (Edges list commas) at h =
    ap (λ (l : List EdgeEvent). Edges l commas) (each-bare spell_edge bare_edge renumbered_edge NumberedEdge spell_edge-bare edge-bare list at h)
events-bare (Levels list commas) at h = ap (λ (l : Trees). Levels l commas) (renumbered_more-bare list at h)

-- connections
unfoldable pub renumbered_connection : NamedConnection → ℕ → NamedConnection
renumbered_connection c at = record { token = at + 1; text = c.text; value = renumbered_value c.value (at + 2) }

connection-bare : (c : NamedConnection) (at : ℕ) → NumberedConnection c at → renumbered_connection (bare_connection c) at ≡ c
unfolding renumbered_connection bare_connection NumberedConnection
connection-bare c at h = λ k. record { token = sym h.0 k; text = c.text; value = value-bare c.value (at + 2) h.1 k }

unfoldable pub renumbered_connections : Connections → ℕ → Connections
renumbered_connections (Positions ts) at = Positions (renumbered_more ts at)
renumbered_connections (Names cs) at = Names (renumbered_each spell_connection renumbered_connection cs at)

connections-bare : (c : Connections) (at : ℕ) → NumberedConnections c at → renumbered_connections (bare_connections c) at ≡ c
unfolding renumbered_connections bare_connections NumberedConnections
connections-bare (Positions ts) at h = ap Positions (renumbered_more-bare ts at h)
connections-bare (Names cs) at h =
    ap Names (each-bare spell_connection bare_connection renumbered_connection NumberedConnection spell_connection-bare connection-bare cs at h)

unfoldable pub renumbered_overrides : Option Connections → ℕ → Option Connections
renumbered_overrides None at = None
renumbered_overrides (Some c) at = Some (renumbered_connections c (at + 1))

pub overrides-bare : (c : Option Connections) (at : ℕ) → NumberedOverrides c at → renumbered_overrides (bare_overrides c) at ≡ c
unfolding renumbered_overrides bare_overrides NumberedOverrides
overrides-bare None at h = refl
overrides-bare (Some c) at h = ap (λ (d : Connections). Some d) (connections-bare c (at + 1) h)

unfoldable pub renumbered_instance : ModuleInstance → ℕ → ModuleInstance
renumbered_instance i at = record { token = at; text = i.text; connections = renumbered_connections i.connections (at + 1) }

pub instance-bare : (i : ModuleInstance) (at : ℕ) → NumberedInstance i at → renumbered_instance (bare_instance i) at ≡ i
unfolding renumbered_instance bare_instance NumberedInstance
instance-bare i at h = λ k. record { token = sym h.0 k; text = i.text; connections = connections-bare i.connections (at + 1) h.1 k }
