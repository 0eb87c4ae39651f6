-- Elaboration and instances commute.
use Rattle.std.specs.Prelude.{◌≡◌, ℕ, List, [], Option, Ok}
use Rattle.rr_syntax.specs.Statements.{WellFormedStatement, NumberedStatement}
use Rattle.rr_syntax.specs.Tree.{Statement, SourceText, IsSameSource}
use Rattle.rr_flat.specs.Signals.{Text}
use Rattle.rr_flat.specs.Plain.{Flat}
use Rattle.rr_flat.specs.Reads.{assigned_by}
use Rattle.rr_flatten.specs.Walk.{flat_of}
use Rattle.rr_choice.specs.declared.pick.Pick.{Pick}
use Rattle.rr_instance.specs.Firsts.{first_token}
use Rattle.rr_instance.specs.Instances.{instance_source}
use Rattle.rr_choice.specs.Sites.{Site}
use Rattle.rr_token_numbers.specs.Bare.{HasSameFlat}
use Rattle.rr_flat_instance.specs.Counted.{MayCount, counted_source}
use Rattle.rr_flat_instance.specs.Flats.{instance_flat}
use Rattle.rr_flat_instance.specs.Owned.{AreListed}
use Rattle.rr_flat_instance.specs.Places.{SitesFit}

-- the instance of a source whose sites fit its flat design has a flat design too, which is the instance of that one
abbrev pub InstancesFlatten : Type 0
InstancesFlatten =
    (ss : List Site) (ps : List Pick) (source : SourceText) (top : Option Text) (flat : Flat) →
    flat_of source top ≡ Ok flat → SitesFit ss source flat → flat_of (instance_source ss ps source) top ≡ Ok (instance_flat ss ps flat)

-- and so has each tree that is that instance but for token numbers
abbrev pub TreesFlatten : Type 0
TreesFlatten =
    (ss : List Site) (ps : List Pick) (source tree : SourceText) (top : Option Text) (flat : Flat) →
    flat_of source top ≡ Ok flat → SitesFit ss source flat → IsSameSource (instance_source ss ps source) tree → HasSameFlat tree top (instance_flat ss ps flat)

-- sites as they are listed fit
abbrev pub ListedSitesFit : Type 0
ListedSitesFit = (ss : List Site) (source : SourceText) (flat : Flat) → AreListed ss source flat → SitesFit ss source flat

-- a statement that assigns, of which each leaf has the number of its token, has its first token where it begins
abbrev pub FirstTokens : Type 0
FirstTokens = (t : Statement) (at : ℕ) → WellFormedStatement t → NumberedStatement t at → (assigned_by t ≡ [] → ⊥) → first_token t ≡ at

-- where tokens of event controls are counted, the same instance is found
abbrev pub CountingAgrees : Type 0
CountingAgrees = (ss : List Site) (ps : List Pick) (source : SourceText) → MayCount ss source → counted_source ss ps source ≡ instance_source ss ps source
