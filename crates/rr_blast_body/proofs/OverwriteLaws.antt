-- bodies with last assignments
use Rattle.std.proofs.Common.{◌≡◌, ◌∙◌, ap, refl, ℕ, Bool, true, false, cond, ◌&&◌, List, [], ◌∷◌}
use Rattle.rr_syntax.specs.declared.token.Number.{Number}
use Rattle.rr_syntax.specs.Tree.{Tree, Literal, Statement, Assign, Done, If, Then}
use Rattle.rr_expr.specs.Scopes.{Names}
use Rattle.rr_choice.specs.declared.pick.Pick.{Pick}
use Rattle.rr_choice.specs.Choices.{picked_form, picked_name}
use Rattle.rr_choice.specs.Places.{is_overwrite_at}
use Rattle.rr_instance.specs.Instances.{all_overwritten, followed, fresh, gate, named, new_body, overwritten, unsigned_number}
use Rattle.rr_choice.specs.Sites as sites
use Rattle.rr_choice.specs.Sites.{Site, SiteKind}
use Rattle.rr_cycle.specs.Exec.{executed, is_true, updates, applied}
use Rattle.rr_blast_body.specs.Overwrites.{BodiesByTheirSites, last_ran, site_ran, sites_ran}
use Rattle.rr_blast_stmt.specs.Running.{Values, ran, ran_all}
use Rattle.rr_blast_stmt.proofs.RanLaws.{ran_if, ran_then}

-- a sequence without a name
ran_sequence : (s : Names) (test : Tree) (target : List ℕ) (now : Bool) (value : Number) (body : Statement) (v : Values) →
    ran s (followed test target now value body) v ≡ ran_all s (Then body (Then (If test (Assign (named target) now (Literal fresh value))) Done)) v
unfolding ran ran_all executed updates
ran_sequence s test target now value body v = refl

ran_none : (s : Names) (v : Values) → ran_all s Done v ≡ v
unfolding ran_all executed updates applied
ran_none s v = refl

ran_followed : (s : Names) (test : Tree) (target : List ℕ) (now : Bool) (value : Number) (body : Statement) (v : Values) →
    ran s (followed test target now value body) v ≡ cond (is_true s test (ran s body v).now) (ran s (Assign (named target) now (Literal fresh value)) (ran s body v)) (ran s body v)
ran_followed s test target now value body v =
    let last : Statement = Assign (named target) now (Literal fresh value) in
    ran_sequence s test target now value body v
    ∙ ran_then s body (Then (If test last) Done) v ∙ ran_then s (If test last) Done (ran s body v)
    ∙ ran_none s (ran s (If test last) (ran s body v)) ∙ ran_if s test last (ran s body v)

ran_over : (s : Names) (kind : SiteKind) (p : Pick) (body : Statement) (v : Values) → ran s (overwritten kind p body) v ≡ last_ran s kind p (ran s body v)
unfolding last_ran
ran_over s (sites.Literal width signed) p body v = refl
ran_over s (sites.Guard owner extent names) p body v = refl
ran_over s (sites.Overwrite owner target width now names) p body v =
    ran_followed s (gate (picked_form names p.form) (picked_name names p.name)) target now (unsigned_number width p.value) body v

ran_new : (s : Names) (token : ℕ) (site : Site) (p : Pick) (body : Statement) (v : Values) → ran s (new_body token site p body) v ≡ site_ran s token site p (ran s body v)
unfolding site_ran
ran_new s token site p body v = by (is_overwrite_at token site && p.on)
  where
    by : (b : Bool) → ran s (cond b (overwritten site.kind p body) body) v ≡ cond b (last_ran s site.kind p (ran s body v)) (ran s body v)
    by true = ran_over s site.kind p body v
    by false = refl

pub ran_bodies : BodiesByTheirSites
unfolding all_overwritten sites_ran
ran_bodies s token [] ps body v = refl
ran_bodies s token (site ∷ ss) [] body v = refl
ran_bodies s token (site ∷ ss) (p ∷ ps) body v = ran_bodies s token ss ps (new_body token site p body) v ∙ ap (sites_ran s token ss ps) (ran_new s token site p body v)
