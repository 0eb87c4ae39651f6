use Rattle.std.proofs.Common.{map, string_bytes}
use Rattle.rr_words.specs.Plan.{plan_of}
use Rattle.rr_top.proofs.Ranges.{in_their_ranges}
use Rattle.rr_top.proofs.attempt.Goals as goal

-- src/lib.rt
pub run_command-requires-after_bounds : goal.run_command-requires-after_bounds
run_command-requires-after_bounds g c κs within = in_their_ranges (map string_bytes c.args.arguments.now) (plan_of c.in-Ok.command) c.in-Ok.ensures.command
