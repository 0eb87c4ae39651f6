use Rattle.std.proofs.Common.{◌≡◌, ◌<◌, ◌∙◌, arith, length, get_or}
use Rattle.std.proofs.lemmas.List.{get_or_read, length-set}
use Rattle.rr_expr.specs.Scopes.{env_of}
use Rattle.rr_meaning.proofs.Rows.{mask_more}
use Rattle.rr_meaning.proofs.cycle.mask.Goals as goal

pub loop-place-preserved : goal.loop-place-preserved
loop-place-preserved c =
    let l : c.loop-place.place < length c.loop-place.values.items = omega (arith, c.loop-place.invariant.count, c.len-place-end.ensures, c.args.values.now.ok.0) in
    let o : c.index.result.now ≡ get_or c.loop-place.values.items c.loop-place.place 0 = get_or_read c.loop-place.values.items _ _ l c.index.ensures 0 in
    record {
      env = mask_more c.args.masks.now c.args.others.now c.loop-place.values.items (env_of c.args.values.now.items) c.loop-place.place c.mixed.result l (rw o at c.mixed.ensures) c.loop-place.invariant.env;
      count = length-set c.loop-place.values.items _ _ ∙ c.loop-place.invariant.count;
    }
