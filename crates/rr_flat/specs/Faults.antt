-- The faults of elaboration, and which of several comes first.
use Rattle.std.specs.Prelude.{◌≡◌, ℕ, Bool, List, [], ◌∷◌, ◌++◌, Option, Some, None, Result, Ok, Err, fold, nat_eq, nat_lt, ◌||◌, ◌&&◌, ◌⊎◌, if◌then◌else◌}
use Rattle.rr_expr.specs.declared.types.ExprFault.{ExprFault}
use Rattle.rr_expr.specs.declared.types.ExprFault.TheVariants as expression
use Rattle.rr_flat.specs.declared.fault.FlatFault.{FlatFault}
use Rattle.rr_flat.specs.declared.fault.FlatFault.TheVariants.{NoTop, UnknownModule, SelfInstance, NameTwice, UnknownName, BadRange, NotConstant, PortMismatch, TooWide, TooMany, BadLoop, Memory}

-- the number of a refusal
unfoldable pub number : FlatFault → ℕ
number NoTop = 7
number (UnknownModule at) = 8
number (SelfInstance at) = 9
number (NameTwice at) = 10
number (UnknownName at) = 11
number (BadRange at) = 12
number (NotConstant at) = 13
number (PortMismatch at) = 14
number (TooWide at width) = 15
number (TooMany limit count) = 16
number (BadLoop at) = 37
number Memory = 0

-- the token at which it stands; a count stands at none
unfoldable pub token : FlatFault → ℕ
token NoTop = 0
token (UnknownModule at) = at
token (SelfInstance at) = at
token (NameTwice at) = at
token (UnknownName at) = at
token (BadRange at) = at
token (NotConstant at) = at
token (PortMismatch at) = at
token (TooWide at width) = at
token (TooMany limit count) = 0
token (BadLoop at) = at
token Memory = 0

-- at an earlier token, or at the same with a lower number
unfoldable pub before : FlatFault → FlatFault → Bool
before f g = nat_lt (token f) (token g) || (nat_eq (token f) (token g) && nat_lt (number f) (number g))

-- the first of a fault that was found, if any, and one more
unfoldable pub sooner : Option FlatFault → FlatFault → Option FlatFault
sooner None f = Some f
sooner (Some g) f = if before f g then Some f else Some g

-- the same among the turns of loops (section 9.6), in which a token has a fault for each turn: of two at one token the one that
-- was found first stays
unfoldable pub earlier : Option FlatFault → FlatFault → Option FlatFault
earlier None f = Some f
earlier (Some g) f = if nat_lt (token f) (token g) then Some f else Some g

-- the first of the faults
abbrev pub first_of : List FlatFault → Option FlatFault
first_of faults = fold sooner None faults

abbrev pub earliest_of : List FlatFault → Option FlatFault
earliest_of faults = fold earlier None faults

abbrev pub fault_or : {A : Type 0} → Option FlatFault → A → Result A FlatFault
fault_or None a = Ok a
fault_or (Some f) a = Err f

-- the first of an item's faults, or what the item gives
abbrev pub first_fault_or : {A : Type 0} → List FlatFault → A → Result A FlatFault
first_fault_or faults a = fault_or (first_of faults) a

abbrev pub fault_if : Bool → FlatFault → List FlatFault
fault_if bad f = if bad then f ∷ [] else []

abbrev pub faults_in : {A : Type 0} → Result A FlatFault → List FlatFault
faults_in (Ok a) = []
faults_in (Err f) = f ∷ []

abbrev pub either : {A : Type 0} → Option FlatFault → Result A FlatFault → Result A FlatFault
either None answer = answer
either (Some f) answer = Err f

-- an answer that may be a fault itself, among further faults: the first of them all, or the answer
abbrev pub among : {A : Type 0} → List FlatFault → Result A FlatFault → Result A FlatFault
among faults answer = either (first_of (faults ++ faults_in answer)) answer

-- the next step, where this one has no fault
abbrev pub and_then : {A B : Type 0} → Result A FlatFault → (A → Result B FlatFault) → Result B FlatFault
and_then (Ok a) next = next a
and_then (Err f) next = Err f

-- one step for each of a list, in order
unfoldable pub each : {X S : Type 0} → (X → S → Result S FlatFault) → List X → S → Result S FlatFault
each step [] s = Ok s
each step (x ∷ xs) s = and_then (step x s) (each step xs)

-- what a call may answer where a fault is due: this one, or that memory ran out
abbrev pub Refuses : {A : Type 0} → Result A FlatFault → FlatFault → Type 0
Refuses due e = (e ≡ Memory) ⊎ (due ≡ Err e)

-- the fault of an expression
abbrev pub of_expression : ExprFault → FlatFault
of_expression (expression.UnknownName at) = UnknownName at
of_expression (expression.BadRange at) = BadRange at
of_expression (expression.NotConstant at) = NotConstant at
of_expression (expression.TooWide at width) = TooWide at width

-- what an expression gives, or its fault
abbrev pub answer_of : {A : Type 0} → Option ExprFault → A → Result A FlatFault
answer_of None a = Ok a
answer_of (Some f) a = Err (of_expression f)
