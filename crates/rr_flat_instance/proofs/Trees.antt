-- Each tree that is an instance but for token numbers has the flat design of the instance but for token numbers.
use Rattle.std.proofs.Common.{◌≡◌, List, Option, Ok}
use Rattle.rr_syntax.specs.Tree.{SourceText, IsSameSource}
use Rattle.rr_flat.specs.Signals.{Text}
use Rattle.rr_flat.specs.Plain.{Flat}
use Rattle.rr_flatten.specs.Walk.{flat_of}
use Rattle.rr_token_numbers.specs.Bare.{HasSameFlat}
use Rattle.rr_token_numbers.proofs.Designs.{same_flat}
use Rattle.rr_choice.specs.declared.pick.Pick.{Pick}
use Rattle.rr_instance.specs.Instances.{instance_source}
use Rattle.rr_choice.specs.Sites.{Site}
use Rattle.rr_flat_instance.specs.Flats.{instance_flat}
use Rattle.rr_flat_instance.specs.Places.{SitesFit}
use Rattle.rr_flat_instance.proofs.Whole.{instances_flatten}

pub instances_of_trees : (ss : List Site) (ps : List Pick) (source u : SourceText) (top : Option Text) (flat : Flat) → flat_of source top ≡ Ok flat → SitesFit ss source flat
    → IsSameSource (instance_source ss ps source) u → HasSameFlat u top (instance_flat ss ps flat)
instances_of_trees ss ps source u top flat e f same = same_flat (instance_source ss ps source) u top (instance_flat ss ps flat) same (instances_flatten ss ps source top flat e f)

pub ruleset instance_laws = (instances_flatten, instances_of_trees)
