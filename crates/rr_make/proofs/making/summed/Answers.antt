use Rattle.std.proofs.Common.{refl}
use Rattle.rr_endings.specs.Views.{plain_answer}
use Rattle.rr_repair.specs.Views.{plain_counts}
use Rattle.rr_make.proofs.Summing.{made_told, other_told}
use Rattle.rr_make.proofs.making.summed.Goals as goal

pub returns-then-status-ne0 : goal.returns-then-status-ne0
returns-then-status-ne0 c = other_told c.args.seed c.args.cert.now (plain_answer c.args.counted.found) (plain_counts c.args.counted) c.requires _ refl refl refl refl c.if-status-ne0.true

pub returns : goal.returns
returns c = made_told c.args.seed c.args.cert.now (plain_answer c.args.counted.found) (plain_counts c.args.counted) c.requires _ refl refl c.in_ok-text.ensures refl c.if-status-ne0.false
