-- A last assignment stands outside all loops, and unfolds to itself.
use Rattle.std.proofs.Common.{◌≡◌, ℕ, Bool, true, false, ◌&&◌, if◌then◌else◌, List, [], ◌∷◌, refl, ◌∙◌, ap}
use Rattle.rr_syntax.specs.declared.token.Number.{Number}
use Rattle.rr_syntax.specs.Tree.{Tree, Statement}
use Rattle.rr_expr.specs.Scopes.{Names}
use Rattle.rr_choice.specs.declared.pick.Pick.{Pick}
use Rattle.rr_choice.specs.Sites as sites
use Rattle.rr_choice.specs.Sites.{SiteKind, Site}
use Rattle.rr_choice.specs.Choices.{picked_form, picked_name}
use Rattle.rr_choice.specs.Places.{is_overwrite_at}
use Rattle.rr_instance.specs.Instances.{unsigned_number, gate, followed, overwritten, new_body, all_overwritten}
use Rattle.rr_loop_names.specs.Turns.{put_tree, put_target}
use Rattle.rr_loop_names.specs.Laws.{PutStays}
use Rattle.rr_loop_names.proofs.Staying.{put_stays}
use Rattle.rr_unfold.specs.Unfold.{unfold_statement}

-- outside all loops an expression and a target stay
pub alone : PutStays → (t : Tree) → put_tree [] t ≡ t
alone laws t = laws.alone t

pub target_alone : PutStays → (t : Tree) → put_target [] t ≡ t
target_alone laws t = laws.target_alone t

module _ (s : Names) where
  followed_unfolds : (test : Tree) (target : List ℕ) (now : Bool) (n : Number) (body : Statement) → unfold_statement s [] (followed test target now n body) ≡ followed test target now n (unfold_statement s [] body)
  unfolding unfold_statement put_tree put_target
  followed_unfolds test target now n body = ap (λ (t : Tree). followed t target now n (unfold_statement s [] body)) (alone put_stays test)

  overwritten_unfolds : (k : SiteKind) (p : Pick) (body : Statement) → unfold_statement s [] (overwritten k p body) ≡ overwritten k p (unfold_statement s [] body)
  overwritten_unfolds (sites.Literal width signed) p body = refl
  overwritten_unfolds (sites.Guard owner extent list) p body = refl
  overwritten_unfolds (sites.Overwrite owner target width now list) p body =
      followed_unfolds (gate (picked_form list p.form) (picked_name list p.name)) target now (unsigned_number width p.value) body

  new_body_unfolds : (token : ℕ) (x : Site) (p : Pick) (body : Statement) → unfold_statement s [] (new_body token x p body) ≡ new_body token x p (unfold_statement s [] body)
  new_body_unfolds token x p body = by_test (is_overwrite_at token x && p.on)
    where
      by_test : (b : Bool) → unfold_statement s [] (if b then overwritten x.kind p body else body) ≡ (if b then overwritten x.kind p (unfold_statement s [] body) else unfold_statement s [] body)
      by_test true = overwritten_unfolds x.kind p body
      by_test false = refl

  pub all_unfold : (token : ℕ) (ss : List Site) (ps : List Pick) (body : Statement) → unfold_statement s [] (all_overwritten token ss ps body) ≡ all_overwritten token ss ps (unfold_statement s [] body)
  unfolding all_overwritten
  all_unfold token [] ps body = refl
  all_unfold token (x ∷ ss) [] body = refl
  all_unfold token (x ∷ ss) (p ∷ ps) body = all_unfold token ss ps (new_body token x p body) ∙ ap (all_overwritten token ss ps) (new_body_unfolds token x p body)
