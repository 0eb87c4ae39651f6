use Rattle.std.proofs.Common.{◌≡◌, ◌∙◌, sym, ap, subst, List, All, map}
use Rattle.rr_circuit.proofs.Netlists.{Extends-trans}
use Rattle.rr_flat.specs.declared.design.Block.{Block}
use Rattle.rr_flat.specs.Sound.{IsBlock}
use Rattle.rr_flat.specs.View.{Design, plain_block, plain_flat}
use Rattle.rr_choice.specs.declared.pick.Pick.{Pick}
use Rattle.rr_blast_steps.specs.Designs.{ran_blocks}
use Rattle.rr_flat_instance.specs.Flats.{instance_block, instance_flat}
use Rattle.rr_blast_stmt.specs.Running.{Values, held}
use Rattle.rr_blast_terms.specs.Choosing.{picks_of}
use Rattle.rr_meaning.proofs.Scoping.{IsSound}
use Rattle.rr_blast_steps.proofs.DesignLaws.{blocks_done, blocks_more, clocked_of}
use Rattle.rr_blast_terms.proofs.ChoiceLaws.{picks-extends}
use Rattle.rr_blast_steps.proofs.steps.run_clocked.Goals as goal

pub run_block-requires-clause-block : goal.run_block-requires-clause-block
run_block-requires-clause-block c =
    let f : IsSound c.args.flat.now = subst IsSound c.flat.view_is c.flat.invariant in
    let e : c.deref-block-items.result.now ≡ c.args.flat.now.clocked = c.deref-block-items.ensures.value ∙ ap (λ (d : Design). d.clocked) c.flat.view_is in
    (subst (All (IsBlock c.args.flat.now.scopes)) (sym e) f.clocked_in) c.loop-block.block-index _ c.loop-block-test.true

pub loop-block-preserved : goal.loop-block-preserved
loop-block-preserved c =
    let h = c.loop-block.invariant in
    let x = c.in_ok-run_block.ensures in
    record {
      extends = Extends-trans _ _ _ h.extends x.extends;
      machine = x.machine;
      ran = λ env.
          let d : Design = c.args.flat.now in
          let ss = c.args.choice.now.sites.now in
          let k : List Pick = picks_of c.args.b.now env c.args.choice.now in
          let m : Values = held c.loop-block.b env c.loop-block.machine in
          blocks_more d ss k (picks_of c.loop-block.b env c.args.choice.now) c.deref-block-items.result.now c.loop-block.block-index _ m _ _ c.loop-block-test.true
          (picks-extends c.args.b.now c.loop-block.b env c.args.choice.now h.extends c.requires.choice) (x.ran env)
          (h.ran env);
    }

pub returns-clause-ran : goal.returns-clause-ran
returns-clause-ran c = λ env.
    let d : Design = c.args.flat.now in
    let ss = c.args.choice.now.sites.now in
    let k : List Pick = picks_of c.args.b.now env c.args.choice.now in
    let e : c.deref-block-items.result.now ≡ d.clocked = c.deref-block-items.ensures.value ∙ ap (λ (z : Design). z.clocked) c.flat.view_is in
    blocks_done (instance_flat ss k (plain_flat d)) ss k c.deref-block-items.result.now c.loop-block.block-index _ _ c.loop-block-test.false (c.loop-block.invariant.ran env)
    ∙ ap (λ (bs : List Block). ran_blocks (instance_flat ss k (plain_flat d)) (map (instance_block ss k) (map plain_block bs)) (held c.args.b.now env c.args.machine.now)) e
    ∙ ap (λ bs. ran_blocks (instance_flat ss k (plain_flat d)) bs (held c.args.b.now env c.args.machine.now)) (sym (clocked_of d ss k))
