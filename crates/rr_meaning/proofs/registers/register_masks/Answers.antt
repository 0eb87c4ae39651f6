use Rattle.std.proofs.Common.{◌≡◌, ◌∙◌, sym, ap, subst, arith, refl, length, get_or, List, true}
use Rattle.rr_expr.specs.Scopes.{env_of}
use Rattle.rr_flat.specs.View.{Design, plain_flat}
use Rattle.rr_named_bits.specs.declared.piece.Reach.{Reach}
use Rattle.rr_named_bits.specs.Lists.{covered}
use Rattle.rr_cycle.specs.Performing.{any_writes}
use Rattle.rr_writers.proofs.Reaching.{covered_at}
use Rattle.rr_meaning.proofs.Marks.{marks_done, marks_more, no_marks}
use Rattle.rr_meaning.proofs.Rows.{zeros_made}
use Rattle.rr_meaning.proofs.Scoping.{IsSound, wide}
use Rattle.rr_meaning.proofs.Written.{registers_there}
use Rattle.rr_meaning.proofs.registers.register_masks.Goals as goal

pub mark_all-requires : goal.mark_all-requires
mark_all-requires c =
    let d = c.args.flat.now in
    let f : IsSound d = subst IsSound c.flat.view_is c.flat.invariant in
    λ b h.
    let m = covered_at c.deref-reach-items.result.now c.loop-reach.reach-index _ b c.loop-reach-test.true h in
    let t : any_writes (plain_flat d) (plain_flat d).clocked b ≡ true = sym (c.in_ok-list.ensures b) ∙ (ap (λ (rs : List Reach). covered rs b) (sym c.deref-reach-items.ensures.value) ∙ m) in
    let r = registers_there d b f t in
    let w = wide d b.signal f r.0 in
    (rw c.loop-reach.invariant.count r.0, omega (arith, r.1, w.high))

pub loop-reach-init : goal.loop-reach-init
loop-reach-init c = record {
  env = λ b. no_marks c.deref-reach-items.result.now (env_of c.in_ok-masks.masks.items) b (zeros_made _ _ (c.in_ok-masks.ensures.items_if_clones_equal (λ y h. h)));
  count = omega (arith, c.in_ok-masks.ensures.len, c.len.ensures, c.in_ok-masks.masks.ok.0, c.flat.inside.signals.ok.0, ap (λ (d : Design). length d.signals) c.flat.view_is);
}

pub loop-reach-preserved : goal.loop-reach-preserved
loop-reach-preserved c = record {
  env = marks_more c.deref-reach-items.result.now c.loop-reach.reach-index (get_or c.deref-reach-items.result.now c.loop-reach.reach-index _) _ (env_of c.loop-reach.masks.items) (env_of c.mark_all.new.masks.items) (covered c.deref-reach-items.result.now) c.loop-reach-test.true refl c.loop-reach.invariant.env c.in_ok-mark_all.ensures.env;
  count = c.in_ok-mark_all.ensures.count ∙ c.loop-reach.invariant.count;
}

pub returns-clause-env : goal.returns-clause-env
returns-clause-env c = λ b.
    marks_done c.deref-reach-items.result.now c.loop-reach.reach-index (env_of c.loop-reach.masks.items) (covered c.deref-reach-items.result.now) c.loop-reach-test.false c.loop-reach.invariant.env b
    ∙ ap (λ (rs : List Reach). covered rs b) c.deref-reach-items.ensures.value ∙ c.in_ok-list.ensures b

pub returns-clause-count : goal.returns-clause-count
returns-clause-count c = c.loop-reach.invariant.count

pub returns-clause-there : goal.returns-clause-there
returns-clause-there c =
    let d = c.args.flat.now in
    let f : IsSound d = subst IsSound c.flat.view_is c.flat.invariant in
    λ b h.
    let e : env_of c.loop-reach.masks.items b ≡ any_writes (plain_flat d) (plain_flat d).clocked b =
    marks_done c.deref-reach-items.result.now c.loop-reach.reach-index (env_of c.loop-reach.masks.items) (covered c.deref-reach-items.result.now) c.loop-reach-test.false c.loop-reach.invariant.env b
    ∙ ap (λ (rs : List Reach). covered rs b) c.deref-reach-items.ensures.value ∙ c.in_ok-list.ensures b in
    registers_there d b f (sym e ∙ h)
