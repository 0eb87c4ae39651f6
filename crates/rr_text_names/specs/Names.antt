-- What names stand for in a flat design.
use Rattle.std.specs.Prelude.{ℕ, List, Option, Some, None, Bool, true, false, get_or, nat_eq}
use Rattle.rr_syntax.specs.Tree.{Tree, Name, Literal, Bit as BitSelect, Part, Indexed, Unary, Binary, Cond, Concat, Repeat, Cast, Paren, Identifier}
use Rattle.rr_expr.specs.declared.types.Entity.{Entity}
use Rattle.rr_expr.specs.declared.types.Entity.TheVariants.{Constant, Signal as SignalEntity, Memory, Instance}
use Rattle.rr_expr.specs.Scopes.{meant}
use Rattle.rr_flat.specs.declared.signal.Port.{Port}
use Rattle.rr_flat.specs.declared.signal.Port.TheVariants.{Inner, Input, Output}
use Rattle.rr_flat.specs.Signals.{Text}
use Rattle.rr_flat.specs.Plain.{Flat}
use Rattle.rr_flat.specs.Targets.{variable_of, part_name}
use Rattle.rr_flat.specs.Writers.{scope_at}

abbrev pub is_input : Port → Bool
is_input Inner = false
is_input Input = true
is_input Output = false

-- the signal that a name stands for, and the scalar; a memory is no one signal
abbrev pub signal_of : Entity → Option ℕ
signal_of (Constant bits signed) = None
signal_of (SignalEntity id range signed) = Some id
signal_of (Memory first low words range signed) = None
signal_of Instance = None

abbrev pub scalar_of : Entity → Option ℕ
scalar_of (Constant bits signed) = None
scalar_of (SignalEntity id None signed) = Some id
scalar_of (SignalEntity id (Some r) signed) = None
scalar_of (Memory first low words range signed) = None
scalar_of Instance = None

-- of a name in the instance with this number
abbrev pub signal_named : Flat → ℕ → Text → Option ℕ
signal_named flat i name = signal_of (meant (scope_at flat i) name)

-- a memory as one variable, by the signal of its first word
abbrev pub variable_named : Flat → ℕ → Text → Option ℕ
variable_named flat i name = variable_of (meant (scope_at flat i) name)

abbrev pub scalar_named : Flat → ℕ → Text → Option ℕ
scalar_named flat i name = scalar_of (meant (scope_at flat i) name)

-- the token of the name of a target without braces
abbrev pub part_token : Tree → ℕ
part_token (Name token name) = token
part_token (Literal token n) = 0
part_token (BitSelect token name i) = token
part_token (Part token name l r) = token
part_token (Indexed token name f n up) = token
part_token (Unary op t) = 0
part_token (Binary op l r) = 0
part_token (Cond a b c) = 0
part_token (Concat ts) = 0
part_token (Repeat n ts) = 0
part_token (Cast signed t) = 0
part_token (Paren t) = 0

abbrev pub part_identifier : Tree → Identifier
part_identifier t = record { token = part_token t; text = part_name t }

-- the entry of a table by signal, where there is one
abbrev pub entry : {X : Type 0} → List (Option X) → ℕ → Option X
entry table x = get_or table x None

-- whether a signal is this one
abbrev pub is_the : ℕ → Option ℕ → Bool
is_the id None = false
is_the id (Some x) = nat_eq x id
