use Rattle.std.proofs.Common.{◌∙◌, ◌<◌, length, arith}
use Rattle.rr_effects.proofs.Files.{more_written, plain_within, stopped_at}
use Rattle.rr_effects.proofs.delivery.write_files.Goals as goal

-- the files before this one are whole, and its name has what it had or a front of its bytes
pub returns-in-Err-Failed : goal.returns-in-Err-Failed
returns-in-Err-Failed g c =
    let within : c.loop-number.number < length c.args.files.now = omega arith in
    let left = rw c.in-Err-Failed.field-0-is at c.in-Err-Failed.ensures.answer in
    let rose = rw (c.in-Err-Failed.field-0-is, c.loop-number.invariant.1) at c.in-Err-Failed.ensures.count in
    (plain_within _ _ within, stopped_at _ _ _ c.args.files.now c.loop-number.number c.index-files-number.result within c.index-files-number.is c.loop-number.invariant.0 left, rose)

-- .. and this one too
pub loop-number-preserved : goal.loop-number-preserved
loop-number-preserved g c =
    let within : c.loop-number.number < length c.args.files.now = omega arith in
    (more_written _ _ _ c.args.files.now c.loop-number.number c.index-files-number.result within c.index-files-number.is c.loop-number.invariant.0 c.in-Ok.ensures.answer, c.in-Ok.ensures.count ∙ c.loop-number.invariant.1)
