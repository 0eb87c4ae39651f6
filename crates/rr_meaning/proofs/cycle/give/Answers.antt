use Rattle.std.proofs.Common.{◌≡◌, ◌+◌, ◌-◌, ◌<◌, ◌∙◌, refl, arith, length, get_or}
use Rattle.std.proofs.lemmas.List.{length-set}
use Rattle.rr_expr.specs.Scopes.{env_of}
use Rattle.rr_flat.specs.View.{plain_flat}
use Rattle.rr_meaning.proofs.Rows.{give_more, give_none}
use Rattle.rr_meaning.proofs.cycle.give.Goals as goal

pub loop-left-init : goal.loop-left-init
loop-left-init c = record { env = give_none (plain_flat c.args.flat.now).signals c.args.inputs.now c.args.row.now (env_of c.args.values.now.items) c.requires.count; left = omega arith; count = refl }

pub loop-left-preserved : goal.loop-left-preserved
loop-left-preserved c =
    let l : c.loop-left.left - 1 < length c.args.inputs.now = omega arith in
    let m : c.loop-left.left - 1 < length c.args.row.now = omega (arith, c.requires.count) in
    let j : c.loop-left.left ≡ c.loop-left.left - 1 + 1 = omega arith in
    record {
      env = give_more (plain_flat c.args.flat.now).signals c.args.inputs.now c.args.row.now (c.loop-left.left - 1) c.loop-left.left (get_or c.args.inputs.now (c.loop-left.left - 1) 0) (get_or c.args.row.now (c.loop-left.left - 1) 0) c.cut.result c.loop-left.values.items (env_of c.args.values.now.items) l m refl refl c.cut.ensures j
          (rw (c.loop-left.invariant.count, c.requires.signals) (c.requires.inside (c.loop-left.left - 1) 0 l)) c.loop-left.invariant.env;
      left = omega arith;
      count = length-set c.loop-left.values.items _ _ ∙ c.loop-left.invariant.count;
    }
