-- The list of the sites of a text; and of a file, whose directives are expanded, the list of those that can be changed in the file.
-- Why a file has none: the first fault of its design, or more than 1,024 such sites.
use Rattle.std.specs.Prelude.{◌≡◌, ◌⊎◌, ℕ, ◌<◌, ◌≤◌, Bool, List, length, Option}
use Rattle.rr_syntax.specs.Tree.{SourceText}
use Rattle.rr_directive.specs.Expand.{IsTaken}
use Rattle.rr_lex.specs.Tokens.{Lexeme}
use Rattle.rr_flat.specs.Clocks.{OneClock}
use Rattle.rr_flat.specs.Lawful.{Lawful}
use Rattle.rr_flat.specs.Plain.{Flat}
use Rattle.rr_flat.specs.declared.fault.Limit.TheVariants as limit
use Rattle.rr_elaborate.specs.Designs.{IsDesignOf}
use Rattle.rr_clock.specs.Places.{Place, ArePlaces}
use Rattle.rr_choice.specs.Sites.{Site}
use Rattle.rr_sites_listed.specs.Listing.{sites_of}
use Rattle.rr_run.specs.Refusals.{Refusal, TooMany}
use Rattle.rr_run.specs.Files.{RefusesFileDesign, placed_tokens}
use Rattle.rr_kept.specs.Kept.{AreKept}
use Rattle.rr_kept.specs.Read.{SourceFile}
use Rattle.rr_sites_command.specs.Lines.{site_lines}

-- the sites of a source, in the modules that have instances in its flat design, where each such module has the names that lead to
-- the clock in one of its instances
abbrev pub AreSites : SourceText → Flat → Option ℕ → List Site → Type 0
AreSites source flat clock ss = (places : List Place) × ArePlaces flat clock places × (ss ≡ sites_of source flat.scopes flat.owners places)

-- the bytes have these tokens, and these sites: those of their tree, whose flat design is lawful with the word for the clock
pub record HasSites (bytes : List ℕ) (top word : Option (List ℕ)) (tokens : List Lexeme) (ss : List Site) : Type 0 where
  pub source : SourceText
  pub flat : Flat
  pub clock : Option ℕ
  pub rising : Bool
  pub design : IsDesignOf bytes tokens source top flat
  pub lawful : Lawful flat word
  pub one_clock : OneClock flat word clock rising
  pub are : AreSites source flat clock ss

-- the file is read as this: its expansion is the text of a lawful design, and these are the sites of the text that can be changed
-- in the file
pub record HasFileSites (file : List ℕ) (top word : Option (List ℕ)) (read : SourceFile) (ss : List Site) : Type 0 where
  pub expansion : IsTaken file read.text read.origins
  pub flat : Flat
  pub clock : Option ℕ
  pub rising : Bool
  pub design : IsDesignOf read.text read.tokens read.source top flat
  pub lawful : Lawful flat word
  pub one_clock : OneClock flat word clock rising
  pub listed : List Site
  pub are : AreSites read.source flat clock listed
  pub kept : AreKept read.origins read.tokens read.source listed ss

-- the lines of at most 1,024 sites, or the refusal that counts more
abbrev pub IsFewText : List Lexeme → List Site → List ℕ → Type 0
IsFewText ts ss text = (length ss ≤ 1024) × (text ≡ site_lines ts 0 ss)

abbrev pub RefusesMany : List Site → Refusal → Type 0
RefusesMany ss refusal = (1024 < length ss) × (refusal ≡ TooMany limit.Sites (length ss))

-- their lines, where they are at most 1,024, with the places of their tokens in the file
pub record IsSiteText (file : List ℕ) (top word : Option (List ℕ)) (text : List ℕ) : Type 0 where
  pub read : SourceFile
  pub sites : List Site
  pub has : HasFileSites file top word read sites
  pub told : IsFewText (placed_tokens read.origins (length file) read.tokens) sites text

-- there are more, which the refusal counts
pub record HasManySites (file : List ℕ) (top word : Option (List ℕ)) (refusal : Refusal) : Type 0 where
  pub read : SourceFile
  pub sites : List Site
  pub has : HasFileSites file top word read sites
  pub told : RefusesMany sites refusal

-- why a file has no list of sites: first what its design is refused for
abbrev pub RefusesSites : List ℕ → Option (List ℕ) → Option (List ℕ) → Refusal → Type 0
RefusesSites file top word refusal = RefusesFileDesign file top word refusal ⊎ HasManySites file top word refusal
