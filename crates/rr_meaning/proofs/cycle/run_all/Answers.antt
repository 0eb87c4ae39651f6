use Rattle.std.proofs.Common.{◌≡◌, ◌∙◌, sym, ap, subst, List, map, All}
use Rattle.rr_expr.specs.Scopes.{env_of}
use Rattle.rr_flat.specs.declared.design.Block.{Block}
use Rattle.rr_flat.specs.Sound.{IsBlock}
use Rattle.rr_flat.specs.View.{Design, plain_block, plain_flat}
use Rattle.rr_cycle.specs.Exec.{applied}
use Rattle.rr_cycle.specs.Performing.{run_blocks, updates_of_blocks}
use Rattle.rr_exec.specs.Work.{updates_in}
use Rattle.rr_meaning.proofs.Scoping.{IsSound, block_holds, block_scope}
use Rattle.rr_meaning.proofs.Walking.{blocks_done, blocks_more, updates_done, updates_more}
use Rattle.rr_meaning.proofs.cycle.run_all.Goals as goal

pub execute-requires-clause-holds : goal.execute-requires-clause-holds
execute-requires-clause-holds c =
    let f : IsSound c.args.flat.now = subst IsSound c.flat.view_is c.flat.invariant in
    let e : c.deref-block-items.result.now ≡ c.args.flat.now.clocked = c.deref-block-items.ensures.value ∙ ap (λ (d : Design). d.clocked) c.flat.view_is in
    let a : All (IsBlock c.args.flat.now.scopes) c.deref-block-items.result.now = subst (All (IsBlock c.args.flat.now.scopes)) (sym e) f.clocked_in in
    rw c.loop-block.invariant.count
    (block_holds c.args.flat.now c.deref-block-items.result.now c.loop-block.block-index _ c.index.result.now c.flat.inside.scopes.items f a c.loop-block-test.true c.index.ensures (ap (λ (d : Design). d.scopes) c.flat.view_is))

pub loop-block-preserved : goal.loop-block-preserved
loop-block-preserved c =
    let f : IsSound c.args.flat.now = subst IsSound c.flat.view_is c.flat.invariant in
    let F = plain_flat c.args.flat.now in
    let e : c.deref-block-items.result.now ≡ c.args.flat.now.clocked = c.deref-block-items.ensures.value ∙ ap (λ (d : Design). d.clocked) c.flat.view_is in
    let a : All (IsBlock c.args.flat.now.scopes) c.deref-block-items.result.now = subst (All (IsBlock c.args.flat.now.scopes)) (sym e) f.clocked_in in
    let q = block_scope c.args.flat.now c.deref-block-items.result.now c.loop-block.block-index _ c.index.result.now c.flat.inside.scopes.items a c.loop-block-test.true c.index.ensures (ap (λ (d : Design). d.scopes) c.flat.view_is) in
    record {
      env = blocks_more F c.deref-block-items.result.now c.loop-block.block-index _ c.index.result.now (env_of c.loop-block.machine.env.values.items) _ _ c.loop-block-test.true q c.loop-block.invariant.env c.in_ok-execute.ensures.env;
      later = λ d. updates_more F c.deref-block-items.result.now c.loop-block.block-index _ c.index.result.now (env_of c.loop-block.machine.env.values.items) _ (applied (updates_in c.loop-block.machine.later.items) d) _ _
          c.loop-block-test.true q (c.loop-block.invariant.later d) c.in_ok-execute.ensures.env (c.in_ok-execute.ensures.later d);
      count = c.in_ok-execute.ensures.count ∙ c.loop-block.invariant.count;
      fits = rw (← c.loop-block.invariant.count) c.in_ok-execute.ensures.fits;
      none = c.in_ok-execute.ensures.none ∙ c.loop-block.invariant.none;
    }

pub returns-clause-env : goal.returns-clause-env
returns-clause-env c =
    let F = plain_flat c.args.flat.now in
    let e : c.deref-block-items.result.now ≡ c.args.flat.now.clocked = c.deref-block-items.ensures.value ∙ ap (λ (d : Design). d.clocked) c.flat.view_is in
    blocks_done F c.deref-block-items.result.now c.loop-block.block-index (env_of c.loop-block.machine.env.values.items) _ c.loop-block-test.false c.loop-block.invariant.env
    ∙ ap (λ (bs : List Block). run_blocks F (map plain_block bs) (env_of c.args.machine.now.env.values.items)) e

pub returns-clause-later : goal.returns-clause-later
returns-clause-later c =
    let F = plain_flat c.args.flat.now in
    let e : c.deref-block-items.result.now ≡ c.args.flat.now.clocked = c.deref-block-items.ensures.value ∙ ap (λ (d : Design). d.clocked) c.flat.view_is in
    λ d. updates_done F c.deref-block-items.result.now c.loop-block.block-index (env_of c.loop-block.machine.env.values.items) (applied (updates_in c.loop-block.machine.later.items) d) _ c.loop-block-test.false (c.loop-block.invariant.later d)
    ∙ ap (λ (bs : List Block). applied (updates_of_blocks F (map plain_block bs) (env_of c.args.machine.now.env.values.items)) (applied (updates_in c.args.machine.now.later.items) d)) e
