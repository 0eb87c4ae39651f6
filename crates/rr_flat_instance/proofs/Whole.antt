-- The flat design of an instance of a source.
use Rattle.std.proofs.Common.{◌≡◌, ◌∙◌, ap, ℕ, List, [], map, Option, Some, None, Ok, refl}
use Rattle.rr_syntax.specs.Tree.{ModuleDeclaration, SourceText}
use Rattle.rr_expr.specs.Scopes.{Names}
use Rattle.rr_flat.specs.Faults.{each}
use Rattle.rr_flat.specs.Signals.{Text}
use Rattle.rr_flat.specs.Plain.{Flat}
use Rattle.rr_flatten.specs.Tables.{add_module}
use Rattle.rr_flatten.specs.Walk.{Walked, module_at, nothing, finished, top_place, enter_top, enter, flat_by, flat_of}
use Rattle.rr_choice.specs.declared.pick.Pick.{Pick}
use Rattle.rr_choice.specs.Sites.{Site}
use Rattle.rr_instance.specs.Instances.{instance_module, instance_source}
use Rattle.rr_flat_instance.specs.Flats.{instance_flat}
use Rattle.rr_flat_instance.specs.Places.{SitesFit}
use Rattle.rr_flat_instance.proofs.Lists.{stepped, and_then_ok}
use Rattle.rr_flat_instance.proofs.Tables.{table_instance, module_instance, top_place_instance, reached_instance}
use Rattle.rr_flat_instance.proofs.Grown.{grows_here}
use Rattle.rr_flat_instance.proofs.Commutes.{instance_walked}
use Rattle.rr_flat_instance.proofs.Enters.{enter_instance}

finished_instance : (ss : List Site) (ps : List Pick) (source : List ModuleDeclaration) (flat : Flat) → finished (map (instance_module ss ps) source) (instance_flat ss ps flat) ≡ instance_flat ss ps (finished source flat)
unfolding instance_flat
finished_instance ss ps source flat =
    ap (λ (reached : List ℕ). record (instance_flat ss ps (finished source flat)) { reached = reached }) (reached_instance ss ps flat.owners 0 source)

nothing_instance : (ss : List Site) (ps : List Pick) (source : List ModuleDeclaration) (k : ℕ) → nothing None (module_at (map (instance_module ss ps) source) k).token ≡ instance_walked ss ps (nothing None (module_at source k).token)
unfolding instance_flat instance_module
nothing_instance ss ps source k = ap (λ (m : ModuleDeclaration). nothing None m.token) (module_instance ss ps source k)

top_instance : (ss : List Site) (ps : List Pick) (source : SourceText) (table : Names) (o : Option ℕ) (w : Walked) → SitesFit ss source (finished source.modules w.flat) → enter_top None source.modules table o ≡ Ok w
    → enter_top None (map (instance_module ss ps) source.modules) table o ≡ Ok (instance_walked ss ps w)
top_instance ss ps source table None w f e = absurd (cc)
top_instance ss ps source table (Some k) w f e =
    ap (λ (start : Walked). enter (map (instance_module ss ps) source.modules) table 16 [] k [] start) (nothing_instance ss ps source.modules k)
    ∙ enter_instance ss ps source.modules w f.targets f.scopes f.nets table 16 [] k [] (nothing None (module_at source.modules k).token) w refl refl refl (grows_here w) e

pub instances_flatten : (ss : List Site) (ps : List Pick) (source : SourceText) (top : Option Text) (flat : Flat)
    → flat_of source top ≡ Ok flat → SitesFit ss source flat → flat_of (instance_source ss ps source) top ≡ Ok (instance_flat ss ps flat)
unfolding flat_by instance_source
instances_flatten ss ps source top flat e f =
    let a = stepped (each add_module source.modules []) _ flat e in
    let b = stepped (enter_top None source.modules a.mid (top_place source.modules a.mid top)) (λ (w : Walked). Ok (finished source.modules w.flat)) flat a.next in
    let last : Ok (finished source.modules b.mid.flat) ≡ Ok flat = b.next in
    let is : finished source.modules b.mid.flat ≡ flat = cc in
    let fit : SitesFit ss source (finished source.modules b.mid.flat) = rw is f in
    let new : List ModuleDeclaration = map (instance_module ss ps) source.modules in
    and_then_ok (each add_module new []) _ a.mid (table_instance ss ps source.modules [] ∙ a.first)
    ∙ (and_then_ok (enter_top None new a.mid (top_place new a.mid top)) (λ (w : Walked). Ok (finished new w.flat)) (instance_walked ss ps b.mid)
    (ap (enter_top None new a.mid) (top_place_instance ss ps source.modules a.mid top) ∙ top_instance ss ps source a.mid (top_place source.modules a.mid top) b.mid fit b.first)
    ∙ ap (λ (x : Flat). Ok x) (finished_instance ss ps source.modules b.mid.flat ∙ ap (instance_flat ss ps) is))
