-- What statements assign, outside their loops and anywhere, and what the clocked blocks of a module do (IEEE 1364-2005
-- sections 9.2, 9.6 and 9.7.2).
use Rattle.std.specs.Prelude.{◌≡◌, ℕ, ◌≤◌, Bool, true, false, Contains}
use Rattle.rr_syntax.specs.Tree.{Tree, Trees, Name, Literal, Bit, Part, Indexed, Unary, Binary, Cond, Concat, Repeat, Cast, Paren, Statement, Assign, EventControl, Always, ModuleDeclaration}
use Rattle.rr_flat.specs.Signals.{Text}
use Rattle.rr_change_places.specs.Spots.{has_edges}
use Rattle.rr_sites_complete.specs.Inside.{IsPart, StandsIn, StandsOutside}

-- a target that is another one, or stands in its braces
pub data IsTarget (p : Tree) : Tree → Type 0 where
  whole_target : IsTarget p p
  in_braces : {t : Tree} {ts : Trees} → IsPart t ts → IsTarget p t → IsTarget p (Concat ts)

-- a target of an assignment that stands in a statement outside its loops: one by `=` where `now`, else by `<=`
pub record IsAssigned (body : Statement) (part : Tree) (now : Bool) : Type 0 where
  pub target : Tree
  pub value : Tree
  pub stands : StandsOutside (Assign target now value) body
  pub is : IsTarget part target

-- one of an assignment that stands in a loop or outside
pub record IsAssignedAnywhere (body : Statement) (part : Tree) (now : Bool) : Type 0 where
  pub target : Tree
  pub value : Tree
  pub stands : StandsIn (Assign target now value) body
  pub is : IsTarget part target

-- a name stands as a whole as a target outside loops, at this token and by this kind, and at no token before it
pub record IsFirstTarget (body : Statement) (name : Text) (token : ℕ) (now : Bool) : Type 0 where
  pub assigned : IsAssigned body (Name token name) now
  pub first : (other : ℕ) (kind : Bool) → IsAssigned body (Name other name) kind → token ≤ other

-- a name, or a bit or part of it
abbrev pub IsOf : Tree → Text → Type 0
IsOf (Name token x) name = x ≡ name
IsOf (Literal token n) name = ⊥
IsOf (Bit token x i) name = x ≡ name
IsOf (Part token x l r) name = x ≡ name
IsOf (Indexed token x f n up) name = x ≡ name
IsOf (Unary op t) name = ⊥
IsOf (Binary op l r) name = ⊥
IsOf (Cond a b c) name = ⊥
IsOf (Concat ts) name = ⊥
IsOf (Repeat n ts) name = ⊥
IsOf (Cast signed t) name = ⊥
IsOf (Paren t) name = ⊥

-- a clocked block of the module
pub record IsClockedBlock (m : ModuleDeclaration) (body : Statement) : Type 0 where
  pub events : EventControl
  pub token : ℕ
  pub there : Contains m.items (Always events body token)
  pub edges : has_edges events ≡ true

-- one writes a name, or a part of it, by `=`, in a loop or outside
pub record IsWrittenNow (m : ModuleDeclaration) (name : Text) : Type 0 where
  pub body : Statement
  pub block : IsClockedBlock m body
  pub part : Tree
  pub assigned : IsAssignedAnywhere body part true
  pub named : IsOf part name

-- one writes a name as a whole by `<=`, outside its loops
pub record IsRegister (m : ModuleDeclaration) (name : Text) : Type 0 where
  pub body : Statement
  pub block : IsClockedBlock m body
  pub token : ℕ
  pub assigned : IsAssigned body (Name token name) false
