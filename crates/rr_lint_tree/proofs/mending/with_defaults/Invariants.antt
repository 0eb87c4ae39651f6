use Rattle.std.proofs.Common.{◌≡◌, map, take}
use Rattle.rr_syntax.specs.View.{plain_statement, texts}
use Rattle.rr_lint_laws.specs.Mended.{cleared}
use Rattle.rr_lint_tree.proofs.mending.with_defaults.Given as goal

abbrev pub invariant-loop-name : goal.invariant-loop-name
invariant-loop-name l = record { done : map plain_statement l.list.items ≡ map cleared (texts (take l.name-index l.names)) }
