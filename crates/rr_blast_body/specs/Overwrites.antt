-- What the last assignments that sites add to the body of an `always` do after it: one after the other, each on what those
-- before it left.
use Rattle.std.specs.Prelude.{◌≡◌, ℕ, List, [], ◌∷◌, cond, ◌&&◌}
use Rattle.rr_syntax.specs.Tree.{Literal, Statement, Assign}
use Rattle.rr_expr.specs.Scopes.{Names}
use Rattle.rr_choice.specs.declared.pick.Pick.{Pick}
use Rattle.rr_instance.specs.Firsts.{first_token}
use Rattle.rr_choice.specs.Choices.{picked_form, picked_name}
use Rattle.rr_choice.specs.Places.{is_overwrite_at}
use Rattle.rr_instance.specs.Instances.{all_overwritten, fresh, gate, instance_body, named, unsigned_number}
use Rattle.rr_choice.specs.Sites as sites
use Rattle.rr_choice.specs.Sites.{Site, SiteKind}
use Rattle.rr_cycle.specs.Exec.{is_true}
use Rattle.rr_blast_stmt.specs.Running.{Values, ran}

-- the body of a block with the last assignments of the sites at its first token
abbrev pub body_instance : List Site → List Pick → Statement → Statement
body_instance ss ps body = instance_body ss ps (first_token body) body

-- where its guard is true, the site's variable takes the pick's value, now or later; other kinds of sites do nothing here
unfoldable pub last_ran : Names → SiteKind → Pick → Values → Values
last_ran s (sites.Literal width signed) p v = v
last_ran s (sites.Guard owner extent names) p v = v
last_ran s (sites.Overwrite owner target width now names) p v =
    cond (is_true s (gate (picked_form names p.form) (picked_name names p.name)) v.now) (ran s (Assign (named target) now (Literal fresh (unsigned_number width p.value))) v) v

-- a site at the body's first token that is switched on
unfoldable pub site_ran : Names → ℕ → Site → Pick → Values → Values
site_ran s token site p v = cond (is_overwrite_at token site && p.on) (last_ran s site.kind p v) v

unfoldable pub sites_ran : Names → ℕ → List Site → List Pick → Values → Values
sites_ran s token [] ps v = v
sites_ran s token (site ∷ ss) [] v = v
sites_ran s token (site ∷ ss) (p ∷ ps) v = sites_ran s token ss ps (site_ran s token site p v)

-- the body of an `always` with its last assignments does what the body does, and then these
abbrev pub BodiesByTheirSites : Type 0
BodiesByTheirSites = (s : Names) (token : ℕ) (ss : List Site) (ps : List Pick) (body : Statement) (v : Values) → ran s (all_overwritten token ss ps body) v ≡ sites_ran s token ss ps (ran s body v)
