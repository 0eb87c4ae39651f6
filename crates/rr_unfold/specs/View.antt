-- What counts stand for as plain data.
use Rattle.std.specs.Prelude.{ℕ, Option, Result}
use Rattle.rr_syntax.specs.Tree.{LoopHead, Statement}
use Rattle.rr_expr.specs.Scopes.{Names}
use Rattle.rr_flat.specs.declared.fault.FlatFault.{FlatFault}
use Rattle.rr_flat.specs.Faults.{and_then}
use Rattle.rr_loop_names.specs.Turns.{Turn}
use Rattle.rr_loop_rules.specs.Rules.{LoopNames}
use Rattle.rr_unfold.specs.declared.counts.Counts.{Counts}
use Rattle.rr_unfold.specs.Unfold.{Count, opening, turns_from, tokens_of, counted}

abbrev pub plain_counts : Counts → Count
plain_counts c = record { turns = c.turns; tokens = c.tokens }

-- the count behind a loop by its parts
abbrev pub loop_counted : Option ℕ → LoopNames → Names → Turn → LoopHead → Statement → Count → Result Count FlatFault
loop_counted limit L s turn h t c =
    and_then (opening L s turn h) (λ v. turns_from 65537 limit s turn h (tokens_of t) (λ inner d. counted limit L s inner t d) v c)
