-- The head of an instance: its parameters and its signals (IEEE 1364-2005 section 12).
use Rattle.std.specs.Prelude.{ℕ, ◌+◌, List, [], ◌∷◌, ◌++◌, length, fold, Option, Some, None, Result, nat_lt, if◌then◌else◌, slice_get, option_to_list}
use Rattle.rr_syntax.specs.Tree.{Identifier, DeclaredName, PortDeclaration, ModuleDeclaration}
use Rattle.rr_expr.specs.Scopes.{Names, lookup}
use Rattle.rr_expr.specs.declared.types.Entity.{Entity}
use Rattle.rr_expr.specs.declared.types.Entity.TheVariants as entity
use Rattle.rr_flat.specs.declared.fault.Limit.TheVariants.{FlatBits}
use Rattle.rr_flat.specs.declared.fault.FlatFault.{FlatFault}
use Rattle.rr_flat.specs.declared.fault.FlatFault.TheVariants.{TooMany}
use Rattle.rr_flat.specs.Faults.{fault_if, first_fault_or, and_then}
use Rattle.rr_flat.specs.Signals.{with_name}
use Rattle.rr_memory_words.specs.Words.{word_count, words_signals, words_entity}
use Rattle.rr_declarations.specs.Parameters.{parameters}
use Rattle.rr_declarations.specs.Declarations.{Declared, Declarations, is_port, known, brackets, declarations, plain_names}
use Rattle.rr_flat.specs.Signals.{Text, Signal}

-- the number of the instance, the number of its first signal, the bits of the design with its signals, its signals, and
-- its names
pub record Head : Type 0 where
  pub instance : ℕ
  pub base : ℕ
  pub bits : ℕ
  pub signals : List Signal
  pub scope : Names

-- the declaration that a name stands for
abbrev pub named_declared : List Declared → Option Entity → Option Declared
named_declared list None = None
named_declared list (Some (entity.Constant bits signed)) = None
named_declared list (Some (entity.Signal id range signed)) = slice_get list id
named_declared list (Some (entity.Memory first low words range signed)) = None
named_declared list (Some entity.Instance) = None

-- the ports in the order of the brackets
unfoldable pub with_port : Declarations → List Declared → Text → List Declared
with_port d order name = order ++ option_to_list (named_declared d.list (lookup name d.names))

abbrev pub with_identifier : Declarations → List Declared → Identifier → List Declared
with_identifier d order i = with_port d order i.text

abbrev pub with_declarator : Declarations → List Declared → DeclaredName → List Declared
with_declarator d order n = with_port d order n.text

unfoldable pub with_ports : Declarations → List Declared → PortDeclaration → List Declared
with_ports d order p = fold (with_declarator d) order p.names

-- then the others in the order of the text
unfoldable pub with_inner : List Declared → Declared → List Declared
with_inner order x = if is_port x.signal.port then order else order ++ x ∷ []

unfoldable pub declared_in_order : ModuleDeclaration → Declarations → List Declared
declared_in_order m d = fold with_inner (fold (with_ports d) (fold (with_identifier d) [] (plain_names m.header)) m.groups) d.list

-- the one signal of a declaration, or its words in the order of their indices
abbrev pub signals_of : Declared → List Signal
signals_of x = words_signals x.signal x.words

-- what its name stands for, where its first signal has number k
abbrev pub entity_of : ℕ → Declared → Entity
entity_of k x = words_entity k x.signal x.words

-- the signals of all declarations of a list
unfoldable pub joined : List Declared → List Signal
joined [] = []
joined (x ∷ xs) = signals_of x ++ joined xs

unfoldable pub signals_in_order : ModuleDeclaration → Declarations → List Signal
signals_in_order m d = joined (declared_in_order m d)

-- each name by the numbers of its signals, where the next signal has number k
unfoldable pub with_signals : ℕ → List Declared → Names → Names
with_signals k [] names = names
with_signals k (x ∷ xs) names = with_signals (k + word_count x.words) xs (with_name names x.signal.name (entity_of k x))

-- the numbers of signals end at 65,536, since each signal has a bit or more and the bits do: so this count never comes
-- where that of the declarations did not
unfoldable pub numbered : ℕ → ℕ → ℕ → List Declared → Names → Result Head FlatFault
numbered i base bits list names =
    first_fault_or (fault_if (nat_lt 65536 (base + length (joined list))) (TooMany FlatBits (base + length (joined list))))
    (record { instance = i; base = base; bits = bits; signals = joined list; scope = with_signals base list names })

-- the names of the port brackets, then the declarations
unfoldable pub declared : ℕ → ℕ → ModuleDeclaration → Names → Result Declarations FlatFault
declared i bits m names = and_then (brackets m) (λ bracketed. declarations bracketed (known m names) m (record { instance = i; names = names; list = []; bits = bits }))

-- the parameters, then the declarations; of instance i, whose first signal has number base, in a design of that many bits
-- so far, where names are given for parameters
unfoldable pub head : ℕ → ℕ → ℕ → Names → ModuleDeclaration → Result Head FlatFault
head i base bits given m =
    and_then (parameters given m) (λ names.
    and_then (declared i bits m names) (λ d.
    numbered i base d.bits (declared_in_order m d) names))
