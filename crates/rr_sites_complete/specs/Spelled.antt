-- The words at which sites stand.
use Rattle.std.specs.Prelude.{◌≡◌, ℕ, List, [], ◌∷◌, ◌++◌, length}
use Rattle.rr_syntax.specs.Expressions.{spell}
use Rattle.rr_syntax.specs.Statements.{spell_statement}
use Rattle.rr_syntax.specs.Tree.{ModuleDeclaration}
use Rattle.rr_syntax.specs.Words.{Word, Digits}
use Rattle.rr_expr.specs.Scopes.{Names}
use Rattle.rr_flat.specs.Signals.{Text}
use Rattle.rr_choice.specs.Sites.{Site}
use Rattle.rr_sites_complete.specs.Kinds.{IsSiteOf, literal, guard, overwrite}

-- so many words of a list come before these
pub record StandAt (ws : List Word) (at : ℕ) (part : List Word) : Type 0 where
  pub before : List Word
  pub after : List Word
  pub count : length before ≡ at
  pub are : ws ≡ before ++ (part ++ after)

-- from the token of a site on: the literal, the condition, or the body that an overwrite follows
abbrev pub IsSpelled : {m : ModuleDeclaration} {owner : ℕ} {scope : Names} {clocks : List Text} {s : Site} → List Word → IsSiteOf m owner scope clocks s → Type 0
IsSpelled {s} ws (literal h) = StandAt ws s.token (Digits h.number ∷ [])
IsSpelled {s} ws (guard h) = StandAt ws s.token (spell h.test)
IsSpelled {s} ws (overwrite h) = StandAt ws s.token (spell_statement h.body)
