-- Of the names of variables those that are declared without words stand for signals.
use Rattle.std.proofs.Common.{ℕ, List, flat_map, Option, Some, None}
use Rattle.std.specs.List.{AllByRecursion}
use Rattle.rr_syntax.specs.Tree.{Identifier, Range, DeclaredName}
use Rattle.rr_expr.specs.Scopes.{Names}
use Rattle.rr_flat.specs.Signals.{Text}
use Rattle.rr_guard.specs.Names.{net_name, unless_words, wordless_name}
use Rattle.rr_declared_ranges.specs.Ranges.{IsBy, AreBy, IsVariableBy, AreVariablesBy}
use Rattle.rr_sites_ordered.proofs.Members.{all_flat, all_weaken}

module _ (P : Text → Option (ℕ × ℕ) → Option (ℕ × ℕ) → Type 0) (seen : Names) (o : Option Range) where
  one : (n : DeclaredName) → IsVariableBy P seen o n.words n.text → AreBy P seen o (wordless_name n)
  one n h = by n.words h
    where
      by : (w : Option Range) → IsVariableBy P seen o w n.text → AreBy P seen o (unless_words w (net_name n))
      by None h = (h, tt)
      by (Some r) h = tt

  pub wordless_by : (list : List DeclaredName) → AreVariablesBy P seen o list → AreBy P seen o (flat_map wordless_name list)
  wordless_by list h = all_flat (λ (y : Identifier). IsBy P seen o y.text) wordless_name list (all_weaken (λ (n : DeclaredName). IsVariableBy P seen o n.words n.text) list one h)
