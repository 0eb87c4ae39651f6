-- The names that a guard may be at a token of a module.
use Rattle.std.specs.Prelude.{◌≡◌, ℕ, ◌<◌, ◌≤◌, Bool, false, List, [], ◌∷◌, map, take, Contains}
use Rattle.std.specs.List.{AllByRecursion}
use Rattle.rr_syntax.specs.Tree.{Identifier, ModuleDeclaration}
use Rattle.rr_flat.specs.Signals.{Text}
use Rattle.rr_sites_complete.specs.Declarations.{IsScalar}
use Rattle.rr_sites_complete.specs.Targets.{IsWrittenNow, IsRegister}

-- the first declaration of a name as a scalar, which is the clock in no instance (`clocks` has the names that are), which no
-- clocked block writes by `=`, in a loop or outside, and which outside clocked blocks one writes by `<=` outside its loops
pub record MayGuard (m : ModuleDeclaration) (clocks : List Text) (clocked : Bool) (x : Identifier) : Type 0 where
  pub scalar : IsScalar m x
  pub first : (y : Identifier) → IsScalar m y → y.text ≡ x.text → x.token ≤ y.token
  pub no_clock : Contains clocks x.text → ⊥
  pub not_now : IsWrittenNow m x.text → ⊥
  pub register : clocked ≡ false → IsRegister m x.text

-- each number is less than all that follow it
unfoldable pub Rising : {X : Type 0} → (X → ℕ) → List X → Type 0
Rising f [] = Unit {0}
Rising f (x ∷ xs) = AllByRecursion (λ y. f x < f y) xs × Rising f xs

-- the first 64 of those that are declared before the token, in the order of their declarations
pub record AreNamesAt (m : ModuleDeclaration) (clocks : List Text) (clocked : Bool) (token : ℕ) (names : List Text) : Type 0 where
  pub all : List Identifier
  pub each : (x : Identifier) → Contains all x → MayGuard m clocks clocked x × (x.token < token)
  pub every : (x : Identifier) → MayGuard m clocks clocked x → x.token < token → Contains all x
  pub rising : Rising (λ (x : Identifier). x.token) all
  pub are : names ≡ take 64 (map (λ (x : Identifier). x.text) all)
