use Rattle.std.proofs.Common.{◌∙◌, ap, map}
use Rattle.std.proofs.lemmas.List.{map-append}
use Rattle.rr_flat.specs.Reads.{assigned_parts}
use Rattle.rr_text_names.specs.View.{plain_target}
use Rattle.rr_text_names.proofs.lists.push_target.Goals as goal

pub returns : goal.returns
unfolding assigned_parts
returns c = ap (map plain_target) c.in_ok-push.ensures.items ∙ map-append plain_target c.args.list.now.items _
