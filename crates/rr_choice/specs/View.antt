-- What the sites in the arena stand for.
use Rattle.std.specs.Prelude.{ℕ, Bool, List, map, Option, Some, None}
use Rattle.rr_syntax.specs.declared.site.Site.{Site as ArenaSite}
use Rattle.rr_syntax.specs.declared.site.SiteKind.{SiteKind as ArenaKind}
use Rattle.rr_syntax.specs.declared.site.SiteKind.TheVariants as kind
use Rattle.rr_syntax.specs.View.{texts}
use Rattle.rr_choice.specs.declared.finding.Found.{Found}
use Rattle.rr_choice.specs.declared.pick.Pick.{Pick}
use Rattle.rr_choice.specs.Places.{is_literal_at, is_guard_at}
use Rattle.rr_choice.specs.Sites.{SiteKind, Site, Literal, Guard, Overwrite}

abbrev pub plain_kind : ArenaKind → SiteKind
plain_kind (kind.Literal width signed) = Literal width signed
plain_kind (kind.Guard owner extent names) = Guard owner extent (texts names.now)
plain_kind (kind.Overwrite owner target width now names) = Overwrite owner target.now width now (texts names.now)

abbrev pub plain_site : ArenaSite → Site
plain_site s = record { kind = plain_kind s.kind; token = s.token }

abbrev pub plain_sites : List ArenaSite → List Site
plain_sites sites = map plain_site sites

-- what was found in the arena
abbrev pub plain_found : Option Found → Option (Site × Pick)
plain_found None = None
plain_found (Some f) = Some (plain_site f.site, f.pick)

-- a literal at a token, or a condition of a number of tokens that begins there
abbrev pub is_at : Option ℕ → ℕ → Site → Bool
is_at None token s = is_literal_at token s
is_at (Some n) token s = is_guard_at token n s
