-- Starting values (IEEE 1364-2005 sections 6.2.1 and 9.9.1): of declarations, and by `initial` items.
use Rattle.std.specs.Prelude.{ℕ, max, List, [], ◌++◌, Bool, false, true, Option, Some, None, Result, slice_set, ℤ, pos}
use Rattle.rr_bits.specs.Words.{number, select}
use Rattle.rr_syntax.specs.Tree.{Tree, Name, Literal, Bit as BitSelect, Part, Indexed, Unary, Binary, Cond, Concat, Repeat, Cast, Paren, Statement, Statements, Null, Block, If, IfElse, Case, Assign, For, Done, Then}
use Rattle.rr_expr.specs.declared.types.Entity.{Entity}
use Rattle.rr_expr.specs.declared.types.Entity.TheVariants.{Constant, Signal, Memory, Instance}
use Rattle.rr_expr.specs.Scopes.{Names, meant, entity_shape}
use Rattle.rr_expr.specs.Selects.{integer_with}
use Rattle.rr_expr.specs.Memories.{word_at, word_signal, index_shape}
use Rattle.rr_expr.specs.Values.{form, value, nowhere}
use Rattle.rr_expr.specs.Faults.{fault, or_else, index_fault}
use Rattle.rr_flat.specs.declared.fault.FlatFault.{FlatFault}
use Rattle.rr_flat.specs.Faults.{answer_of, faults_in}
use Rattle.rr_flat.specs.Shapes.{shape_faults}

-- the number that a variable of w bits begins with: the lowest bits of the value of an assignment of the constant to it, which
-- is as wide as the wider of the two (section 5.4)
abbrev pub start_of : Names → ℕ → Tree → ℕ
start_of s w t = number (select (value s t nowhere (max w (form s t).width) (form s t).signed) (pos 0) w)

-- that number, or the first fault of the expression, in which no signal may stand
unfoldable pub start : Names → ℕ → Tree → Result ℕ FlatFault
start s w t = answer_of (fault s t true) (start_of s w t)

-- the faults of a constant
abbrev pub constant_faults : Names → Tree → List FlatFault
constant_faults s t = faults_in (answer_of (fault s t true) t)

-- the variable that a name without an index stands for
abbrev pub whole_signal : Entity → Option ℕ
whole_signal (Constant bits signed) = None
whole_signal (Signal id range signed) = Some id
whole_signal (Memory first low words range signed) = None
whole_signal Instance = None

-- the word of a memory at an index, where there is one (section 5.2.2)
abbrev pub started_word : Entity → ℤ → Option ℕ
started_word (Constant bits signed) i = None
started_word (Signal id range signed) i = None
started_word (Memory first low words range signed) i = word_signal first (word_at low words i)
started_word Instance i = None

abbrev pub set_at : Option ℕ → ℕ → List ℕ → List ℕ
set_at None n starts = starts
set_at (Some id) n starts = slice_set starts id n

-- a whole variable is set, or a word of a memory; other targets stand in no `initial` item
unfoldable pub set_target : Names → Tree → Tree → List ℕ → List ℕ
set_target s (Name token name) t starts = set_at (whole_signal (meant s name)) (start_of s (entity_shape (meant s name)).width t) starts
set_target s (Literal token n) t starts = starts
set_target s (BitSelect token name i) t starts =
    set_at (started_word (meant s name) (integer_with (form s i) (value s i nowhere))) (start_of s (index_shape (meant s name)).width t) starts
set_target s (Part token name l r) t starts = starts
set_target s (Indexed token name f n up) t starts = starts
set_target s (Unary op a) t starts = starts
set_target s (Binary op a b) t starts = starts
set_target s (Cond a b c) t starts = starts
set_target s (Concat ts) t starts = starts
set_target s (Repeat n ts) t starts = starts
set_target s (Cast signed a) t starts = starts
set_target s (Paren a) t starts = starts

-- what an `initial` item makes of the starting values of all signals: its assignments one after the other, so that the last one
-- of a variable counts; its loops have been unfolded before (section 9.6)
unfoldable mutual
  pub started : Names → Statement → List ℕ → List ℕ
  started s Null starts = starts
  started s (Block label ss) starts = all_started s ss starts
  started s (If t a) starts = starts
  started s (IfElse t a b) starts = starts
  started s (Case kind t arms) starts = starts
  started s (Assign target now t) starts = set_target s target t starts
  started s (For h a) starts = starts

  pub all_started : Names → Statements → List ℕ → List ℕ
  all_started s Done starts = starts
  all_started s (Then a rest) starts = all_started s rest (started s a starts)

-- the faults of a target, of which an index is constant
unfoldable pub initial_target_faults : Names → Tree → List FlatFault
initial_target_faults s (Name token name) = shape_faults s (Name token name)
initial_target_faults s (Literal token n) = shape_faults s (Literal token n)
initial_target_faults s (BitSelect token name i) = faults_in (answer_of (or_else (index_fault false token (meant s name)) (fault s i true)) (BitSelect token name i))
initial_target_faults s (Part token name l r) = shape_faults s (Part token name l r)
initial_target_faults s (Indexed token name f n up) = shape_faults s (Indexed token name f n up)
initial_target_faults s (Unary op a) = shape_faults s (Unary op a)
initial_target_faults s (Binary op a b) = shape_faults s (Binary op a b)
initial_target_faults s (Cond a b c) = shape_faults s (Cond a b c)
initial_target_faults s (Concat ts) = shape_faults s (Concat ts)
initial_target_faults s (Repeat n ts) = shape_faults s (Repeat n ts)
initial_target_faults s (Cast signed a) = shape_faults s (Cast signed a)
initial_target_faults s (Paren a) = shape_faults s (Paren a)

-- each target gets its shape, and each value is constant
unfoldable mutual
  pub initial_faults : Names → Statement → List FlatFault
  initial_faults s Null = []
  initial_faults s (Block label ss) = all_initial_faults s ss
  initial_faults s (If t a) = []
  initial_faults s (IfElse t a b) = []
  initial_faults s (Case kind t arms) = []
  initial_faults s (Assign target now t) = initial_target_faults s target ++ constant_faults s t
  initial_faults s (For h a) = []

  pub all_initial_faults : Names → Statements → List FlatFault
  all_initial_faults s Done = []
  all_initial_faults s (Then a rest) = initial_faults s a ++ all_initial_faults s rest
