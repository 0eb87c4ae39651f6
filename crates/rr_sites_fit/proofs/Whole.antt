-- The laws of the list of sites.
use Rattle.std.proofs.Common.{◌≡◌, ◌∙◌, sym, ℕ, List, [], ◌∷◌, Option, Ok}
use Rattle.std.specs.List.{AllByRecursion}
use Rattle.rr_syntax.specs.Items.{spell_source}
use Rattle.rr_syntax.specs.Tree.{ModuleDeclaration, SourceText}
use Rattle.rr_flat.specs.Signals.{Text}
use Rattle.rr_flat.specs.Plain.{Flat}
use Rattle.rr_flatten.specs.Walk.{flat_of}
use Rattle.rr_choice.specs.Sites as sites
use Rattle.rr_choice.specs.Sites.{SiteKind, Site}
use Rattle.rr_lawful_instance.specs.Listed.{KindIsRight}
use Rattle.rr_lawful_instance.proofs.Listing.{site_fits}
use Rattle.rr_lawful_instance.proofs.Origins.{origins}
use Rattle.rr_sites_fit.specs.Laws.{SitesAreRight, SitesAreListed}
use Rattle.rr_sites_listed.specs.Listing.{sites_of}
use Rattle.rr_sites_fit.proofs.Blocks.{blocks_there}
use Rattle.rr_sites_fit.proofs.Known.{Known, NamesOnce}
use Rattle.rr_sites_fit.proofs.Fit.{places_rise}
use Rattle.rr_sites_fit.proofs.Right.{IsGoodKind, all_good}
use Rattle.rr_sites_fit.proofs.ScalarsIn.{has_scalars}
use Rattle.rr_sites_fit.proofs.Variables.{variable_located}
use Rattle.rr_sites_fit.proofs.Clocks.{has_clocks}
use Rattle.rr_declared_ranges.proofs.Tops.{Headed, heads}
use Rattle.rr_sites_fit.proofs.Widths.{has_widths}
use Rattle.rr_sites_ordered.specs.Order.{IsSpelled}
use Rattle.rr_sites_ordered.proofs.Members.{all_weaken}
use Rattle.rr_sites_ordered.proofs.Spelled.{literals_spelled}

names_once : (ms : List ModuleDeclaration) (flat : Flat) → Headed ms flat.scopes flat.owners flat.signals → NamesOnce flat
names_once ms flat h i j l m x y id e q =
    let u = variable_located ms flat h i l x id e in
    let v = variable_located ms flat h j m y id q in
    (sym u.instance ∙ v.instance, sym u.named ∙ v.named)

known : (source : SourceText) (top : Option Text) (flat : Flat) → flat_of source top ≡ Ok flat → Known source.modules flat
known source top flat e =
    let h = heads source top flat e in
    record { scalars_in = has_scalars source.modules flat h; once = names_once source.modules flat h; blocks = blocks_there source top flat e; widths = has_widths source.modules flat h }

-- what is good where it stands, and spelled there, is right

module _ (source : SourceText) (flat : Flat) (word : Option Text) where
  right_kind : (token : ℕ) (kind : SiteKind) → IsGoodKind source flat word token kind → IsSpelled (spell_source source) token kind → KindIsRight source flat word token kind
  right_kind token (sites.Literal width signed) g s = s
  right_kind token (sites.Guard owner extent names) g s = g
  right_kind token (sites.Overwrite owner target width now names) g s = g

  all_right : (ss : List Site) → AllByRecursion (λ (s : Site). IsGoodKind source flat word s.token s.kind) ss → AllByRecursion (λ (s : Site). IsSpelled (spell_source source) s.token s.kind) ss →
      AllByRecursion (λ (s : Site). KindIsRight source flat word s.token s.kind) ss
  all_right [] g h = tt
  all_right (s ∷ ss) g h = (right_kind s.token s.kind g.0 h.0, all_right ss g.1 h.1)

pub sites_are_right : SitesAreRight
sites_are_right source top flat word clock rising places g = record {
  formed = g.formed;
  numbered = g.numbered;
  each = all_right source flat word (sites_of source flat.scopes flat.owners places)
      (all_good source flat word g.formed g.numbered (known source top flat g.design) (origins [] source top flat g.design) places (has_clocks source top flat word clock rising places g))
      (literals_spelled source flat.scopes flat.owners places g.numbered (places_rise source top flat clock places g.design g.told));
}

-- what is right is listed
pub sites_are_listed : SitesAreListed
sites_are_listed source top flat word clock rising places g =
    let r = sites_are_right source top flat word clock rising places g in
    record { formed = g.formed; numbered = g.numbered; targets = g.targets; each = all_weaken (λ (s : Site). KindIsRight source flat word s.token s.kind) (sites_of source flat.scopes flat.owners places) (λ s f. site_fits source top flat word g.design s.token s.kind f) r.each }
