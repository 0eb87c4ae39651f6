-- The value of each form of an expression from those of its operands, in an instance.
use Rattle.std.specs.Prelude.{ℕ, ℤ, Bool, ◌∷◌, [], List}
use Rattle.rr_bits.specs.Words.{extend, select, number}
use Rattle.rr_syntax.specs.Tree.{Tree}
use Rattle.rr_expr.specs.declared.types.Shape.{Shape}
use Rattle.rr_expr.specs.declared.operators.Operation.{Operation}
use Rattle.rr_expr.specs.declared.operators.Prefix.{Prefix}
use Rattle.rr_expr.specs.declared.operators.Relation.{Relation}
use Rattle.rr_expr.specs.declared.operators.Shift.{Shift}
use Rattle.rr_expr.specs.Operators.{joined, operation_value, shift_value, relation_holds, prefix_value}
use Rattle.rr_expr.specs.Memories.{index_value}
use Rattle.rr_expr.specs.Scopes.{meant, entity_value, entity_range}
use Rattle.rr_expr.specs.Selects.{place, lowest_place, integer_with}
use Rattle.rr_expr.specs.Values.{form, value, nowhere}
use Rattle.rr_bits.specs.Words.{reading}
use Rattle.rr_word_gates.specs.declared.words.Connective.{Connective}
use Rattle.rr_word_gates.specs.Gates.{connected}
use Rattle.rr_memory_gates.specs.declared.Memory.{Memory}
use Rattle.rr_memory_gates.specs.Reading.{word_read}
use Rattle.rr_blast_sites.specs.Instances.{Place, env_in, worth, own_worth, truth, unchanged}

-- one bit, and a word that stands by itself, in a context
abbrev pub in_context : Shape → Bool → List Bool
in_context context bit = extend context.width context.signed (bit ∷ [])

abbrev pub placed : Shape → ((ℕ → Bool) → List Bool) → (ℕ → Bool) → List Bool
placed context f input = extend context.width context.signed (f input)

-- a name
abbrev pub name_worth : Place → List ℕ → (ℕ → Bool) → List Bool
name_worth p name input = entity_value (env_in p input) (meant p.names name)

-- an index, which is the same in each instance
abbrev pub index_worth : Place → Tree → (ℕ → Bool) → ℤ
index_worth p i input = reading (form p.names i).signed (own_worth (unchanged p) i input)

-- a word of a memory
abbrev pub word_worth : Place → Memory → Tree → (ℕ → Bool) → List Bool
word_worth p m i input = word_read (env_in p input) m (index_worth p i input)

-- what an index reads: a bit, but a word of a memory
abbrev pub bit_worth : Place → List ℕ → Tree → (ℕ → Bool) → List Bool
bit_worth p name i input = index_value (env_in p input) (meant p.names name) (index_worth p i input)

-- selects of a number of bits; the right bound of a part is constant
abbrev pub part_worth : Place → List ℕ → Tree → ℕ → (ℕ → Bool) → List Bool
part_worth p name r count input = select (name_worth p name input) (place (entity_range (meant p.names name)) (integer_with (form p.names r) (value p.names r nowhere))) count

abbrev pub indexed_worth : Place → List ℕ → Tree → ℕ → Bool → (ℕ → Bool) → List Bool
indexed_worth p name f count up input = select (name_worth p name input) (lowest_place (entity_range (meant p.names name)) up (index_worth p f input) count) count

-- an operator before its operand
abbrev pub prefix_worth : Place → Prefix → Tree → Shape → (ℕ → Bool) → List Bool
prefix_worth p op t context input = prefix_value op (form p.names t) (λ w signed. worth p t (record { width = w; signed = signed }) input) context.width context.signed

-- operators between operands, by their class
abbrev pub operation_worth : Place → Operation → Tree → Tree → Shape → (ℕ → Bool) → List Bool
operation_worth p op l r context input = operation_value op (worth p l context input) (worth p r context input)

abbrev pub shift_worth : Place → Shift → Tree → Tree → Shape → (ℕ → Bool) → List Bool
shift_worth p op l r context input = shift_value op context.signed (worth p l context input) (number (own_worth p r input))

abbrev pub relation_worth : Place → Relation → Tree → Tree → (ℕ → Bool) → Bool
relation_worth p op l r input =
    relation_holds op (joined (form p.names l) (form p.names r)).signed (worth p l (joined (form p.names l) (form p.names r)) input) (worth p r (joined (form p.names l) (form p.names r)) input)

abbrev pub logic_worth : Place → Connective → Tree → Tree → (ℕ → Bool) → Bool
logic_worth p op l r input = connected op (truth p l input) (truth p r input)
