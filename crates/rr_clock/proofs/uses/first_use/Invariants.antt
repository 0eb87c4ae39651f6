use Rattle.std.proofs.Common.{◌≡◌, drop}
use Rattle.std.specs.Prelude.{flat_map}
use Rattle.rr_flat.specs.View.{plain_flat}
use Rattle.rr_text_names.specs.Firsts.{earliest}
use Rattle.rr_syntax.specs.View.{plain_identifier}
use Rattle.rr_clock.specs.Clock.{use_of}
use Rattle.rr_text_names.specs.Names.{entry, is_the}
use Rattle.rr_clock.proofs.uses.first_use.Given as goal

abbrev pub invariant-loop-named : goal.invariant-loop-named
invariant-loop-named l = earliest (flat_map (λ n. use_of (plain_flat l.flat) (λ x. is_the l.clock (entry l.table x)) l.scope (plain_identifier n)) (drop l.named-index l.names)) ≡ earliest (flat_map (λ n. use_of (plain_flat l.flat) (λ x. is_the l.clock (entry l.table x)) l.scope (plain_identifier n)) l.names)
