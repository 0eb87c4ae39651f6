use Rattle.std.proofs.Common.{option_map, Some}
use Rattle.rr_syntax.specs.View.{plain_source}
use Rattle.rr_flat.specs.View.{plain_flat}
use Rattle.rr_flatten.proofs.WalkOf.{sound_by}
use Rattle.rr_flatten.proofs.source.flatten.Goals as goal

pub returns-in-Ok-clause-sound : goal.returns-in-Ok-clause-sound
returns-in-Ok-clause-sound c = sound_by (Some 1048576) (plain_source c.args.source.now) (option_map (λ n. n.now) c.args.top) (plain_flat c.in-Ok.flat) c.in-Ok.ensures
