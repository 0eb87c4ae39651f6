use Rattle.std.proofs.Common.{◌∙◌, ap, get_or, refl, arith}
use Rattle.rr_latch.specs.Paths.{assigned}
use Rattle.rr_latch.proofs.Logs.{assigned_put}
use Rattle.rr_latch.proofs.Scanning.{undo_none, undo_more}
use Rattle.rr_latch.proofs.paths.undo.Goals as goal

pub loop-at-init : goal.loop-at-init
loop-at-init c = (undo_none c.args.path.now.log.items c.args.length_then (assigned c.args.path.now.unassigned), refl)

pub loop-at-preserved : goal.loop-at-preserved
loop-at-preserved c =
    let x = c.index.result.now in (
      undo_more c.args.path.now.log.items c.args.length_then c.loop-at.at x (assigned c.args.path.now.unassigned) (assigned c.loop-at.path.unassigned) (assigned c.put.new.self) (omega arith) (omega (arith, c.args.path.now.log.ok.0))
          (c.index.ensures ∙ ap (λ z. get_or z c.loop-at.at x) c.loop-at.invariant.1) c.loop-at.invariant.0
          (assigned_put c.loop-at.path.unassigned c.put.new.self x 1 c.in_ok-put.ensures),
      c.loop-at.invariant.1,
    )
