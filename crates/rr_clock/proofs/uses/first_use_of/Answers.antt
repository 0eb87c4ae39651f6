use Rattle.std.proofs.Common.{sym, subst, refl}
use Rattle.rr_flat.specs.View.{plain_flat}
use Rattle.rr_text_names.specs.Names.{entry, is_the}
use Rattle.rr_text_names.proofs.Covering.{has_walk}
use Rattle.rr_clock.specs.Clock.{AreSources}
use Rattle.rr_clock.proofs.Clocking.{tells}
use Rattle.rr_clock.proofs.UseLaw.{use_first, use_none, use_some}
use Rattle.rr_clock.proofs.uses.first_use_of.Goals as goal

pub returns-clause-first : goal.returns-clause-first
returns-clause-first c =
    use_first (plain_flat c.args.flat.now) c.args.clock (λ x. is_the c.args.clock (entry c.as_slice.result.now x)) c.in_ok-found.found
    (tells (plain_flat c.args.flat.now) (entry c.as_slice.result.now) c.args.clock (subst (λ z. AreSources (plain_flat c.args.flat.now) (entry z)) (sym c.as_slice.ensures.value) c.in_ok-table.ensures) c.requires.input) c.in_ok-found.ensures.first

pub returns-clause-none : goal.returns-clause-none
returns-clause-none c =
    use_none (plain_flat c.args.flat.now) c.args.clock (λ x. is_the c.args.clock (entry c.as_slice.result.now x)) c.in_ok-found.found
    (tells (plain_flat c.args.flat.now) (entry c.as_slice.result.now) c.args.clock (subst (λ z. AreSources (plain_flat c.args.flat.now) (entry z)) (sym c.as_slice.ensures.value) c.in_ok-table.ensures) c.requires.input)
    (has_walk c.args.flat.now c.args.flat.now.walk refl c.in_ok-found.ensures.walked) c.in_ok-found.ensures.first

pub returns-clause-some : goal.returns-clause-some
returns-clause-some c =
    use_some (plain_flat c.args.flat.now) c.args.clock (λ x. is_the c.args.clock (entry c.as_slice.result.now x)) c.in_ok-found.found
    (tells (plain_flat c.args.flat.now) (entry c.as_slice.result.now) c.args.clock (subst (λ z. AreSources (plain_flat c.args.flat.now) (entry z)) (sym c.as_slice.ensures.value) c.in_ok-table.ensures) c.requires.input)
    (has_walk c.args.flat.now c.args.flat.now.walk refl c.in_ok-found.ensures.walked) c.in_ok-found.ensures.first
