-- Looking for sites by their tokens.
use Rattle.std.proofs.Common.{◌≡◌, ◌≢◌, ℕ, zero, suc, ◌+◌, ◌-◌, ◌<◌, ◌≤◌, ◌==◌, min, nat_lt, ltb, Bool, true, false, ◌&&◌, if◌then◌else◌, List, [], ◌∷◌, length, take, drop, get_or, Option, Some, None, refl, sym, ◌∙◌, ap, ap₂, arith, add-one, drop-cons, length-take, length-drop}
use Rattle.std.specs.List.{All}
use Rattle.std.specs.List.Sorted.{IsNonDecreasingBy, IsPartitionPoint}
use Rattle.std.proofs.lemmas.Bool.{ltb-true, ltb-false, eqb-true}
use Rattle.std.proofs.lemmas.List.{drop_all, drop-map, get_or-map, get_or-take, get_or-drop, length-map}
use Rattle.std.proofs.lemmas.List.Elements.{All-head, All-tail}
use Rattle.rr_syntax.specs.declared.site.Site.{Site as ArenaSite}
use Rattle.rr_syntax.specs.declared.site.SiteKind.TheVariants as kind
use Rattle.rr_choice.specs.declared.pick.Pick.{Pick}
use Rattle.rr_choice.specs.Sites.{Site, IsSiteList, IsFirstAt}
use Rattle.rr_choice.specs.Places.{find_pick}
use Rattle.rr_choice.specs.View.{is_at, plain_site, plain_sites}
use Rattle.rr_choice.proofs.BitsRead.{sites_here}

-- the first site that begins at a token or behind it
module _ (list : List ArenaSite) (token : ℕ) where
  token_at : (i : ℕ) (d : ArenaSite) (e : Site) → i < length list → (get_or (plain_sites list) i e).token ≡ (get_or list i d).token
  token_at i d e l = ap (λ (s : Site). s.token) (get_or-map plain_site list i d e l)

  pub tokens_rise : IsSiteList (plain_sites list) → IsNonDecreasingBy (λ (s : ArenaSite). s.token) list
  tokens_rise g i j d le lt =
      let n = length-map list plain_site in
      let r = g.rising i j (plain_site d) le (omega (arith, lt, n)) in
      let a = token_at i d (plain_site d) (omega (arith, le, lt)) in
      let b = token_at j d (plain_site d) lt in
      omega (arith, r, a, b)

  pub first_of_point : (k : ℕ) → k ≤ length list → IsPartitionPoint (λ (s : ArenaSite). ltb s.token token ≡ true) (λ (s : ArenaSite). ltb s.token token ≡ false) list k → IsFirstAt (plain_sites list) token k
  first_of_point k w p = record {
    within = let n = length-map list plain_site in omega (arith, w, n);
    before = λ j e l.
        let n = length-take k (plain_sites list) in
        let m = length-map list plain_site in
        let lj : j < k = omega (arith, l, n) in
        let ln : j < length list = omega (arith, lj, w) in
        let d = get_or list j (record { kind = kind.Literal 0 false; token = 0 }) in
        let a = token_at j d e ln in
        let b = ltb-true _ _ (p.0 j d (omega arith) lj) in
        let c = ap (λ (s : Site). s.token) (get_or-take k (plain_sites list) j e lj) in
        omega (arith, a, b, c);
    behind = λ j e l.
        let n = length-drop k (plain_sites list) in
        let m = length-map list plain_site in
        let ln : k + j < length list = omega (arith, l, n, m, w) in
        let d = get_or list j (record { kind = kind.Literal 0 false; token = 0 }) in
        let a = token_at (k + j) d e ln in
        let b = ltb-false _ _ (p.1 (k + j) d (omega arith) ln) in
        let c = ap (λ (s : Site). s.token) (get_or-drop k (plain_sites list) j e) in
        omega (arith, a, b, c);
  }

  -- behind a site that begins behind the token
  pub all_past : (first i : ℕ) (d : ArenaSite) → IsSiteList (plain_sites list) → IsFirstAt (plain_sites list) token first → first ≤ i → i < length list → (get_or list i d).token ≢ token → All (λ (s : Site). token < s.token) (plain_sites (drop i list))
  all_past first i d g f le lt ne = λ j e l.
      let n = length-map (drop i list) plain_site in
      let m = length-drop i list in
      let lj : i + j < length list = omega (arith, l, n, m) in
      let w = length-map list plain_site in
      let z = length-drop first (plain_sites list) in
      let r = tokens_rise g i (i + j) d (omega arith) lj in
      let at : first + (i - first) ≡ i = omega (arith, le) in
      let b = f.behind (i - first) (plain_site d) (omega (arith, le, lt, w, z)) in
      let c = ap (λ (s : Site). s.token) (get_or-drop first (plain_sites list) (i - first) (plain_site d) ∙ ap (λ k. get_or (plain_sites list) k (plain_site d)) at) in
      let t = token_at i d (plain_site d) lt in
      let x = ap (λ (s : Site). s.token) (get_or-map plain_site (drop i list) j d e (omega (arith, l, n))) in
      let y = ap (λ (s : ArenaSite). s.token) (get_or-drop i list j d) in
      omega (arith, r, b, c, t, x, y, ne)

no_picks : (test : Site → Bool) (ss : List Site) → find_pick test ss [] ≡ None
unfolding find_pick
no_picks test [] = refl
no_picks test (s ∷ ss) = refl

no_sites : (test : Site → Bool) (ps : List Pick) → find_pick test [] ps ≡ None
unfolding find_pick
no_sites test ps = refl

find_cons : (test : Site → Bool) (s : Site) (ss : List Site) (p : Pick) (ps : List Pick) → find_pick test (s ∷ ss) (p ∷ ps) ≡ (if test s then Some (s, p) else find_pick test ss ps)
unfolding find_pick
find_cons test s ss p ps = refl

-- sites that do not pass are passed over
pub find_skip : (test : Site → Bool) (k : ℕ) (ss : List Site) (ps : List Pick) → All (λ (s : Site). test s ≡ false) (take k ss) → find_pick test ss ps ≡ find_pick test (drop k ss) (drop k ps)
find_skip test zero ss ps h = refl
find_skip test (suc k) [] ps h = no_sites test ps ∙ sym (no_sites test (drop (suc k) ps))
find_skip test (suc k) (s ∷ ss) [] h = no_picks test (s ∷ ss) ∙ sym (no_picks test (drop k ss))
find_skip test (suc k) (s ∷ ss) (p ∷ ps) h =
    find_cons test s ss p ps
    ∙ ap (λ b. if b then Some (s, p) else find_pick test ss ps) (All-head (λ (x : Site). test x ≡ false) s (take k ss) h)
    ∙ find_skip test k ss ps (All-tail (λ (x : Site). test x ≡ false) s (take k ss) h)

pub find_none : (test : Site → Bool) (ss : List Site) (ps : List Pick) → All (λ (s : Site). test s ≡ false) ss → find_pick test ss ps ≡ None
find_none test [] ps h = no_sites test ps
find_none test (s ∷ ss) [] h = no_picks test (s ∷ ss)
find_none test (s ∷ ss) (p ∷ ps) h =
    find_cons test s ss p ps
    ∙ ap (λ b. if b then Some (s, p) else find_pick test ss ps) (All-head (λ (x : Site). test x ≡ false) s ss h)
    ∙ find_none test ss ps (All-tail (λ (x : Site). test x ≡ false) s ss h)

-- no site passes that begins at another token
never : (b : Bool) → b && false ≡ false
never true = refl
never false = refl

other : (a b : ℕ) → a ≢ b → (a == b) ≡ false
other a b ne = by_which (a == b) refl
  where
    by_which : (x : Bool) → (a == b) ≡ x → (a == b) ≡ false
    by_which true e = absurd (ne (eqb-true a b e))
    by_which false e = e

pub not_at : (b : Bool) (at token : ℕ) → at ≢ token → (b && (at == token)) ≡ false
not_at b at token ne = ap (λ x. b && x) (other at token ne) ∙ never b

pub not_there : (extent : Option ℕ) (token : ℕ) (s : Site) → s.token ≢ token → is_at extent token s ≡ false
not_there None token s ne = not_at _ s.token token ne
not_there (Some n) token s ne = not_at _ s.token token ne

pub none_before : (extent : Option ℕ) (token : ℕ) (ss : List Site) → All (λ (s : Site). s.token < token) ss → All (λ (s : Site). is_at extent token s ≡ false) ss
none_before extent token ss h k d l = let b = h k d l in not_there extent token (get_or ss k d) (λ e. omega (arith, b, e))

pub none_past : (extent : Option ℕ) (token : ℕ) (ss : List Site) → All (λ (s : Site). token < s.token) ss → All (λ (s : Site). is_at extent token s ≡ false) ss
none_past extent token ss h k d l = let b = h k d l in not_there extent token (get_or ss k d) (λ e. omega (arith, b, e))

module _ (test : Site → Bool) (sites : List ArenaSite) (picks : List Pick) where
  abbrev found_from : ℕ → Option (Site × Pick)
  found_from i = find_pick test (plain_sites (drop i sites)) (drop i picks)

  find_down : (i : ℕ) (d : ArenaSite) (e : Pick) → i < length sites → i < length picks → found_from i ≡ (if test (plain_site (get_or sites i d)) then Some (plain_site (get_or sites i d), get_or picks i e) else found_from (i + 1))
  find_down i d e l m =
      ap₂ (λ (ss : List Site) (ps : List Pick). find_pick test ss ps) (sites_here sites i d l) (drop-cons picks i e m ∙ ap (λ k. get_or picks i e ∷ drop k picks) (sym (add-one i)))
      ∙ find_cons test (plain_site (get_or sites i d)) (plain_sites (drop (i + 1) sites)) (get_or picks i e) (drop (i + 1) picks)

  pub found_there : (i : ℕ) (d : ArenaSite) (e : Pick) → i < length sites → i < length picks → test (plain_site (get_or sites i d)) ≡ true → found_from i ≡ Some (plain_site (get_or sites i d), get_or picks i e)
  found_there i d e l m t = find_down i d e l m ∙ ap (λ b. if b then Some (plain_site (get_or sites i d), get_or picks i e) else found_from (i + 1)) t

  pub found_after : (i : ℕ) (d : ArenaSite) (e : Pick) → i < length sites → i < length picks → test (plain_site (get_or sites i d)) ≡ false → found_from i ≡ found_from (i + 1)
  found_after i d e l m t = find_down i d e l m ∙ ap (λ b. if b then Some (plain_site (get_or sites i d), get_or picks i e) else found_from (i + 1)) t

  pub found_never : (i : ℕ) → min (length sites) (length picks) ≤ i → found_from i ≡ None
  found_never i h = by_which (nat_lt i (length sites)) refl
    where
      by_which : (b : Bool) → nat_lt i (length sites) ≡ b → found_from i ≡ None
      by_which true e =
          let l = ltb-true i (length sites) e in
          ap (λ (ps : List Pick). find_pick test (plain_sites (drop i sites)) ps) (drop_all i picks (omega (arith, h, l))) ∙ no_picks test (plain_sites (drop i sites))
      by_which false e =
          let l = ltb-false i (length sites) e in
          ap (λ (ss : List ArenaSite). find_pick test (plain_sites ss) (drop i picks)) (drop_all i sites l) ∙ no_sites test (drop i picks)

-- the search begins at the first site that begins at the token or behind it, and ends at one that begins behind it
module _ (extent : Option ℕ) (token : ℕ) (list : List ArenaSite) (picks : List Pick) where
  pub find_from : (first : ℕ) → IsFirstAt (plain_sites list) token first → found_from (is_at extent token) list picks 0 ≡ found_from (is_at extent token) list picks first
  find_from first f =
      find_skip (is_at extent token) first (plain_sites list) picks (none_before extent token (take first (plain_sites list)) f.before)
      ∙ ap (λ (ss : List Site). find_pick (is_at extent token) ss (drop first picks)) (drop-map plain_site first list)

  pub found_past : (first i : ℕ) (d : ArenaSite) → IsSiteList (plain_sites list) → IsFirstAt (plain_sites list) token first → first ≤ i → i < length list → (get_or list i d).token ≢ token → found_from (is_at extent token) list picks i ≡ None
  found_past first i d g f le l ne =
      find_none (is_at extent token) (plain_sites (drop i list)) (drop i picks) (none_past extent token (plain_sites (drop i list)) (all_past list token first i d g f le l ne))
