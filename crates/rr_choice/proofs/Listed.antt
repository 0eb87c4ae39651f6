-- Whether sites make a list, site after site.
use Rattle.std.proofs.Common.{ℕ, zero, suc, ◌+◌, ◌<◌, ◌≤◌, List, [], ◌∷◌, length, get_or, drop, subst, sym, arith}
use Rattle.std.specs.List.{All}
use Rattle.std.specs.List.Sorted.{IsNonDecreasingBy}
use Rattle.std.proofs.lemmas.List.{drop_all}
use Rattle.std.proofs.lemmas.List.Elements.{All-nil, All-head, All-tail, All-cons}
use Rattle.rr_syntax.specs.declared.site.Site.{Site as ArenaSite}
use Rattle.rr_choice.specs.Sites.{Site, IsSite, IsSiteList}
use Rattle.rr_choice.specs.View.{plain_site, plain_sites}
use Rattle.rr_choice.proofs.BitsRead.{sites_here}

-- none begins before a token, and they rise
unfoldable pub Rising : ℕ → List Site → Type 0
Rising last [] = Unit {0}
Rising last (s ∷ ss) = (last ≤ s.token) × (IsSite s × Rising s.token ss)

low : (last : ℕ) (ss : List Site) → Rising last ss → All (λ (s : Site). last ≤ s.token) ss
unfolding Rising
low last [] h = All-nil _
low last (s ∷ ss) h =
    let l = h.0 in
    All-cons (λ (x : Site). last ≤ x.token) s ss h.0 (λ k d b. let r = low s.token ss h.1.1 k d b in omega (arith, l, r))

each_of : (last : ℕ) (ss : List Site) → Rising last ss → All IsSite ss
unfolding Rising
each_of last [] h = All-nil _
each_of last (s ∷ ss) h = All-cons IsSite s ss h.1.0 (each_of s.token ss h.1.1)

rises : (last : ℕ) (ss : List Site) → Rising last ss → IsNonDecreasingBy (λ (s : Site). s.token) ss
unfolding Rising
rises last [] h i j d le lt = absurd (omega (arith, lt))
rises last (s ∷ ss) h zero zero d le lt = omega arith
rises last (s ∷ ss) h zero (suc j) d le lt = low s.token ss h.1.1 j d (omega (arith, lt))
rises last (s ∷ ss) h (suc i) zero d le lt = absurd (omega (arith, le))
rises last (s ∷ ss) h (suc i) (suc j) d le lt = rises s.token ss h.1.1 i j d (omega (arith, le)) (omega (arith, lt))

pub listed_of : (ss : List Site) → Rising 0 ss → IsSiteList ss
listed_of ss h = record { each = each_of 0 ss h; rising = rises 0 ss h }

rising_of : (last : ℕ) (ss : List Site) → IsSiteList ss → All (λ (s : Site). last ≤ s.token) ss → Rising last ss
unfolding Rising
rising_of last [] g h = tt
rising_of last (s ∷ ss) g h = (
  All-head (λ (x : Site). last ≤ x.token) s ss h,
  (
    All-head IsSite s ss g.each,
    rising_of s.token ss (record { each = All-tail IsSite s ss g.each; rising = λ i j d le lt. g.rising (suc i) (suc j) d (omega (arith, le)) (omega (arith, lt)) })
        (λ k d l. g.rising 0 (suc k) d (omega arith) (omega (arith, l))),
  ),
)

pub of_listed : (ss : List Site) → IsSiteList ss → Rising 0 ss
of_listed ss g = rising_of 0 ss g (λ k d l. omega arith)

-- the sites from one on, in the arena
module _ (sites : List ArenaSite) (i : ℕ) (d : ArenaSite) (l : i < length sites) (last : ℕ) where
  pub rising_here : Rising last (plain_sites (drop i sites)) → (last ≤ (get_or sites i d).token) × (IsSite (plain_site (get_or sites i d)) × Rising (get_or sites i d).token (plain_sites (drop (i + 1) sites)))
  unfolding Rising
  rising_here h = subst (Rising last) (sites_here sites i d l) h

  pub rising_on : last ≤ (get_or sites i d).token → IsSite (plain_site (get_or sites i d)) → Rising (get_or sites i d).token (plain_sites (drop (i + 1) sites)) → Rising last (plain_sites (drop i sites))
  unfolding Rising
  rising_on a b h = subst (Rising last) (sym (sites_here sites i d l)) (a, (b, h))

pub rising_end : (sites : List ArenaSite) (i last : ℕ) → length sites ≤ i → Rising last (plain_sites (drop i sites))
unfolding Rising
rising_end sites i last l = subst (λ (ss : List ArenaSite). Rising last (plain_sites ss)) (sym (drop_all i sites l)) tt
