use Rattle.std.proofs.Common.{refl}
use Rattle.rr_syntax.specs.View.{plain_identifier, plain_label, plain_loop}
use Rattle.rr_unfold.proofs.forms.label_of.Goals as goal

pub returns : goal.returns
unfolding plain_identifier plain_label plain_loop
returns c = refl
