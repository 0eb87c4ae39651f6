-- `$scope` and `$upscope` up to their last word.
use Rattle.std.proofs.Common.{◌≡◌, ◌∙◌, ℕ, ◌<◌, true, List, [], ◌∷◌, length, ap, refl, nat_lt, arith, if◌then◌else◌, cond}
use Rattle.std.proofs.lemmas.Bool.Decides.{nat_tests}
use Rattle.rr_vcd_text.specs.Words.{Word}
use Rattle.rr_vcd_text.specs.Dump.{Declared, with_scope, without_scope}
use Rattle.rr_vcd_text.specs.Steps.{closed, scope_step, upscope_step, Broken}

pub scope_at : (d : Declared) (line : ℕ) (ws rest left : List Word) (kind name : Word) → ws ≡ kind ∷ rest → rest ≡ name ∷ left → scope_step d line ws ≡ closed (with_scope d) line left
scope_at d line ws rest left kind name e f = ap (scope_step d line) e ∙ ap (λ x. scope_step d line (kind ∷ x)) f

pub upscope_at : (d : Declared) (line : ℕ) (ws : List Word) → 0 < length d.opened → upscope_step d line ws ≡ closed (without_scope d) line ws
upscope_at d line ws h = let t : nat_lt 0 (length d.opened) ≡ true = grind (arith, nat_tests) in ap (λ b. if b then closed (without_scope d) line ws else Broken line) t
