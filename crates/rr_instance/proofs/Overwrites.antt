-- Last assignments, site by site.
use Rattle.std.proofs.Common.{◌≡◌, ◌≢◌, ℕ, zero, suc, ◌+◌, ◌<◌, ◌≤◌, min, nat_lt, Bool, true, false, ◌&&◌, if◌then◌else◌, List, [], ◌∷◌, length, take, drop, get_or, refl, sym, ◌∙◌, ap, ap₂, arith, add-one, drop-cons}
use Rattle.std.specs.List.{All}
use Rattle.std.proofs.lemmas.Bool.{ltb-true, ltb-false}
use Rattle.std.proofs.lemmas.List.{drop_all, drop-map}
use Rattle.std.proofs.lemmas.List.Elements.{All-head, All-tail}
use Rattle.rr_syntax.specs.declared.site.Site.{Site as ArenaSite}
use Rattle.rr_syntax.specs.Tree.{Statement}
use Rattle.rr_choice.specs.declared.pick.Pick.{Pick}
use Rattle.rr_choice.specs.Sites.{Site, IsSiteList, IsFirstAt}
use Rattle.rr_choice.specs.View.{plain_site, plain_sites}
use Rattle.rr_choice.proofs.BitsRead.{sites_here}
use Rattle.rr_choice.proofs.Finds.{all_past, not_at}
use Rattle.rr_instance.specs.Instances.{new_body, all_overwritten, overwritten}

overwritten_no_picks : (token : ℕ) (ss : List Site) (body : Statement) → all_overwritten token ss [] body ≡ body
unfolding all_overwritten
overwritten_no_picks token [] body = refl
overwritten_no_picks token (s ∷ ss) body = refl

overwritten_no_sites : (token : ℕ) (ps : List Pick) (body : Statement) → all_overwritten token [] ps body ≡ body
unfolding all_overwritten
overwritten_no_sites token ps body = refl

overwritten_cons : (token : ℕ) (s : Site) (ss : List Site) (p : Pick) (ps : List Pick) (body : Statement) → all_overwritten token (s ∷ ss) (p ∷ ps) body ≡ all_overwritten token ss ps (new_body token s p body)
unfolding all_overwritten
overwritten_cons token s ss p ps body = refl

new_nowhere : (token : ℕ) (s : Site) (p : Pick) (body : Statement) → s.token ≢ token → new_body token s p body ≡ body
new_nowhere token s p body ne = ap (λ b. if b && p.on then overwritten s.kind p body else body) (not_at _ s.token token ne)

pub overwritten_skip : (token k : ℕ) (ss : List Site) (ps : List Pick) (body : Statement) → All (λ (s : Site). s.token < token) (take k ss) → all_overwritten token ss ps body ≡ all_overwritten token (drop k ss) (drop k ps) body
overwritten_skip token zero ss ps body h = refl
overwritten_skip token (suc k) [] ps body h = overwritten_no_sites token ps body ∙ sym (overwritten_no_sites token (drop (suc k) ps) body)
overwritten_skip token (suc k) (s ∷ ss) [] body h = overwritten_no_picks token (s ∷ ss) body ∙ sym (overwritten_no_picks token (drop k ss) body)
overwritten_skip token (suc k) (s ∷ ss) (p ∷ ps) body h =
    overwritten_cons token s ss p ps body
    ∙ ap (all_overwritten token ss ps) (new_nowhere token s p body (let b = All-head (λ (x : Site). x.token < token) s (take k ss) h in λ e. omega (arith, b, e)))
    ∙ overwritten_skip token k ss ps body (All-tail (λ (x : Site). x.token < token) s (take k ss) h)

pub overwritten_past : (token : ℕ) (ss : List Site) (ps : List Pick) (body : Statement) → All (λ (s : Site). token < s.token) ss → all_overwritten token ss ps body ≡ body
overwritten_past token [] ps body h = overwritten_no_sites token ps body
overwritten_past token (s ∷ ss) [] body h = overwritten_no_picks token (s ∷ ss) body
overwritten_past token (s ∷ ss) (p ∷ ps) body h =
    overwritten_cons token s ss p ps body
    ∙ ap (all_overwritten token ss ps) (new_nowhere token s p body (let b = All-head (λ (x : Site). token < x.token) s ss h in λ e. omega (arith, b, e)))
    ∙ overwritten_past token ss ps body (All-tail (λ (x : Site). token < x.token) s ss h)

module _ (token : ℕ) (sites : List ArenaSite) (picks : List Pick) where
  abbrev overwritten_from : ℕ → Statement → Statement
  overwritten_from i body = all_overwritten token (plain_sites (drop i sites)) (drop i picks) body

  pub overwritten_after : (i : ℕ) (d : ArenaSite) (e : Pick) (body : Statement) → i < length sites → i < length picks → overwritten_from i body ≡ overwritten_from (i + 1) (new_body token (plain_site (get_or sites i d)) (get_or picks i e) body)
  overwritten_after i d e body l m =
      ap₂ (λ (ss : List Site) (ps : List Pick). all_overwritten token ss ps body) (sites_here sites i d l) (drop-cons picks i e m ∙ ap (λ k. get_or picks i e ∷ drop k picks) (sym (add-one i)))
      ∙ overwritten_cons token (plain_site (get_or sites i d)) (plain_sites (drop (i + 1) sites)) (get_or picks i e) (drop (i + 1) picks) body

  pub overwritten_end : (i : ℕ) (body : Statement) → min (length sites) (length picks) ≤ i → overwritten_from i body ≡ body
  overwritten_end i body h = by_which (nat_lt i (length sites)) refl
    where
      by_which : (b : Bool) → nat_lt i (length sites) ≡ b → overwritten_from i body ≡ body
      by_which true e =
          let l = ltb-true i (length sites) e in
          ap (λ (ps : List Pick). all_overwritten token (plain_sites (drop i sites)) ps body) (drop_all i picks (omega (arith, h, l))) ∙ overwritten_no_picks token (plain_sites (drop i sites)) body
      by_which false e =
          let l = ltb-false i (length sites) e in
          ap (λ (ss : List ArenaSite). all_overwritten token (plain_sites ss) (drop i picks) body) (drop_all i sites l) ∙ overwritten_no_sites token (drop i picks) body

  pub overwritten_first : (first : ℕ) (body : Statement) → IsFirstAt (plain_sites sites) token first → overwritten_from 0 body ≡ overwritten_from first body
  overwritten_first first body f =
      overwritten_skip token first (plain_sites sites) picks body f.before
      ∙ ap (λ (ss : List Site). all_overwritten token ss (drop first picks) body) (drop-map plain_site first sites)

  pub overwritten_over : (first i : ℕ) (d : ArenaSite) (body : Statement) → IsSiteList (plain_sites sites) → IsFirstAt (plain_sites sites) token first → first ≤ i → i < length sites → (get_or sites i d).token ≢ token → overwritten_from i body ≡ body
  overwritten_over first i d body g f le l ne =
      overwritten_past token (plain_sites (drop i sites)) (drop i picks) body (all_past sites token first i d g f le l ne)
