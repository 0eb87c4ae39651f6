-- sites by the places of their bits
use Rattle.std.proofs.Common.{◌≡◌, ◌≢◌, ℕ, zero, suc, ◌+◌, ◌<◌, ◌≤◌, Bool, true, false, List, [], ◌∷◌, length, get_or, take, drop, Option, Some, None, refl, sym, ◌∙◌, ap, ap₂, subst, arith}
use Rattle.std.specs.List.{All}
use Rattle.std.proofs.lemmas.List.{drop-drop, get_or-map, length-map}
use Rattle.rr_syntax.specs.declared.site.Site.{Site as ArenaSite}
use Rattle.rr_choice.specs.declared.pick.Pick.{Pick}
use Rattle.rr_choice.specs.Sites.{Site, IsSite, IsSiteList, IsFirstAt}
use Rattle.rr_choice.specs.Choices.{decode, read_pick, site_bits, total_bits}
use Rattle.rr_choice.specs.Places.{find_pick, is_literal_at}
use Rattle.rr_choice.specs.View.{is_at, plain_site, plain_sites}
use Rattle.rr_choice.proofs.Finds.{find_from, found_there, found_after, found_never, found_past}
use Rattle.rr_syntax.specs.Tree.{Tree}
use Rattle.rr_syntax.specs.Expressions.{spell}
use Rattle.rr_expr.specs.Faults.{first}
use Rattle.rr_instance.specs.Instances.{is_guard_of}
use Rattle.rr_blast_sites.specs.declared.finding.Found.{Found}
use Rattle.rr_blast_sites.specs.Finding.{Picks, IsFound}

-- the bits of the first sites

pub total_none : (ss : List Site) → 0 ≡ total_bits (take 0 ss)
unfolding total_bits
total_none ss = refl

below : (i n : ℕ) → suc i < suc n → i < n
below i n l = omega arith

plus_none : (a : ℕ) → a + 0 ≡ 0 + a
plus_none a = omega arith

plus_step : (a b c e : ℕ) → e ≡ b + c → a + e ≡ (a + b) + c
plus_step a b c e h = omega (arith, h)

room_none : (a b : ℕ) → 0 + a ≤ a + b
room_none a b = omega arith

room_step : (a b c e : ℕ) → b + c ≤ e → (a + b) + c ≤ a + e
room_step a b c e h = omega (arith, h)

pub total_more : (ss : List Site) (i : ℕ) (d : Site) → i < length ss → total_bits (take (i + 1) ss) ≡ total_bits (take i ss) + site_bits (get_or ss i d)
unfolding total_bits
total_more [] i d l = absurd (omega arith)
total_more (s ∷ ss) zero d l = plus_none (site_bits s)
total_more (s ∷ ss) (suc i) d l =
    let one : suc i + 1 ≡ suc (i + 1) = omega arith in
    ap (λ k. total_bits (take k (s ∷ ss))) one ∙ plus_step (site_bits s) (total_bits (take i ss)) (site_bits (get_or ss i d)) (total_bits (take (i + 1) ss)) (total_more ss i d (below i (length ss) l))

pub total_room : (ss : List Site) (i : ℕ) (d : Site) → i < length ss → total_bits (take i ss) + site_bits (get_or ss i d) ≤ total_bits ss
unfolding total_bits
total_room [] i d l = absurd (omega arith)
total_room (s ∷ ss) zero d l = room_none (site_bits s) (total_bits ss)
total_room (s ∷ ss) (suc i) d l = room_step (site_bits s) (total_bits (take i ss)) (site_bits (get_or ss i d)) (total_bits ss) (total_room ss i d (below i (length ss) l))

-- a site of the arena in its list

pub plain_at : (sites : List ArenaSite) (i : ℕ) (d : ArenaSite) → i < length sites → get_or (plain_sites sites) i (plain_site d) ≡ plain_site (get_or sites i d)
plain_at sites i d l = get_or-map plain_site sites i d (plain_site d) l

pub plain_count : (sites : List ArenaSite) → length (plain_sites sites) ≡ length sites
plain_count sites = length-map sites plain_site

pub site_at : (sites : List ArenaSite) (i : ℕ) (d : ArenaSite) → All IsSite (plain_sites sites) → i < length sites → IsSite (plain_site (get_or sites i d))
site_at sites i d h l = rw (sym (plain_at sites i d l)) (h i (plain_site d) (let n = plain_count sites in omega (arith, n, l)))

-- the pick of a site is written by the bits behind those of the sites before it

length_decode : (ss : List Site) (bits : List Bool) → length (decode ss bits) ≡ length ss
unfolding decode
length_decode [] bits = refl
length_decode (s ∷ ss) bits = ap suc (length_decode ss (drop (site_bits s) bits))

pick_at : (ss : List Site) (i : ℕ) (bits : List Bool) (d : Site) (e : Pick) → i < length ss → get_or (decode ss bits) i e ≡ read_pick (get_or ss i d) (drop (total_bits (take i ss)) bits)
unfolding decode total_bits
pick_at [] i bits d e l = absurd (omega arith)
pick_at (s ∷ ss) zero bits d e l = refl
pick_at (s ∷ ss) (suc i) bits d e l = pick_at ss i (drop (site_bits s) bits) d e (below i (length ss) l) ∙ ap (read_pick (get_or ss i d)) (drop-drop (total_bits (take i ss)) (site_bits s) bits)

no_pick : Pick
no_pick = record { on = false; value = 0; form = 0; name = 0 }

module _ (extent : Option ℕ) (token : ℕ) (sites : List ArenaSite) where
  abbrev test : Site → Bool
  test = is_at extent token

  abbrev picks : List Bool → List Pick
  picks bits = decode (plain_sites sites) bits

  -- no site from the first at the token to a place is what is sought
  pub record Missed (first i : ℕ) : Type 0 where
    pub first_of : IsFirstAt (plain_sites sites) token first
    pub list : IsSiteList (plain_sites sites)
    pub from : first ≤ i
    pub rest : (bits : List Bool) → find_pick test (plain_sites sites) (picks bits) ≡ find_pick test (plain_sites (drop i sites)) (drop i (picks bits))

  count : (bits : List Bool) → length (picks bits) ≡ length sites
  count bits = length_decode (plain_sites sites) bits ∙ plain_count sites

  pub Missed-none : (ss : List Site) (first : ℕ) → plain_sites sites ≡ ss → IsSiteList ss → IsFirstAt ss token first → Missed first first
  Missed-none ss first e g f =
      let f' : IsFirstAt (plain_sites sites) token first = rw e f in
      record { first_of = f'; list = rw e g; from = omega arith; rest = λ bits. find_from extent token sites (picks bits) first f' }

  pub Missed-more : (first i : ℕ) (d : ArenaSite) → Missed first i → i < length sites → test (plain_site (get_or sites i d)) ≡ false → Missed first (i + 1)
  Missed-more first i d h l fails = record {
    first_of = h.first_of;
    list = h.list;
    from = let f = h.from in omega (arith, f);
    rest = λ bits. h.rest bits ∙ found_after test sites (picks bits) i d no_pick l (let n = count bits in omega (arith, n, l)) fails;
  }

  pub Missed-all : (ss : List Site) (first i : ℕ) → plain_sites sites ≡ ss → Missed first i → length sites ≤ i → (bits : List Bool) → find_pick test ss (decode ss bits) ≡ None
  Missed-all ss first i e h l bits = rw (sym e) (h.rest bits ∙ found_never test sites (picks bits) i (let n = count bits in omega (arith, n, l)))

  pub Missed-past : (ss : List Site) (first i : ℕ) (d : ArenaSite) → plain_sites sites ≡ ss → Missed first i → i < length sites → (get_or sites i d).token ≢ token → (bits : List Bool) → find_pick test ss (decode ss bits) ≡ None
  Missed-past ss first i d e h l ne bits = rw (sym e) (h.rest bits ∙ found_past extent token sites (picks bits) first i d h.list h.first_of h.from l ne)

  pub Missed-here : (ss : List Site) (first i at : ℕ) (d : ArenaSite) → plain_sites sites ≡ ss → Missed first i → i < length sites → test (plain_site (get_or sites i d)) ≡ true → at ≡ total_bits (take i (plain_sites sites)) → Picks test ss (plain_site (get_or sites i d)) at
  Missed-here ss first i at d e h l passes is =
      let n = plain_count sites in
      let k : i < length (plain_sites sites) = omega (arith, n, l) in
      let here = plain_at sites i d l in
      rw (sym e) (record {
        passes = passes;
        fit = site_at sites i d h.list.each l;
        room = let r : total_bits (take i (plain_sites sites)) + site_bits (plain_site (get_or sites i d)) ≤ total_bits (plain_sites sites) = subst (λ s. total_bits (take i (plain_sites sites)) + site_bits s ≤ total_bits (plain_sites sites)) here (total_room (plain_sites sites) i (plain_site d) k) in omega (arith, r, is);
        pick = λ bits.
            h.rest bits
            ∙ found_there test sites (picks bits) i d no_pick l (let m = count bits in omega (arith, m, l)) passes
            ∙ ap (λ p. Some (plain_site (get_or sites i d), p)) (pick_at (plain_sites sites) i bits (plain_site d) no_pick k ∙ ap₂ (λ s j. read_pick s (drop j bits)) here (sym is));
      })

-- where there is no site nothing is found
pub found_nowhere : (test : Site → Bool) (ss : List Site) → ss ≡ [] → (bits : List Bool) → find_pick test ss (decode ss bits) ≡ None
unfolding find_pick
found_nowhere test ss e bits = rw e refl

pub found_in : (test : Site → Bool) (ss rs : List Site) (found : Option Found) → rs ≡ ss → IsFound test ss found → IsFound test rs found
found_in test ss rs found e h = rw e h

-- what is sought as a condition is a site of that condition
pub of_condition : (t : Tree) (token : ℕ) (ss : List Site) (found : Option Found) → token ≡ first t → IsFound (is_at (Some (length (spell t))) token) ss found → IsFound (is_guard_of t) ss found
of_condition t token ss found e h = subst (λ k. IsFound (is_at (Some (length (spell t))) k) ss found) e h

pub of_literal : (token : ℕ) (ss : List Site) (found : Option Found) → IsFound (is_at None token) ss found → IsFound (is_literal_at token) ss found
of_literal token ss found h = h

-- a list of no sites
pub empty_list : (sites : List ArenaSite) → sites ≡ [] → IsSiteList (plain_sites sites)
empty_list sites e = rw e (record { each = λ k d l. absurd (omega (arith, l)); rising = λ i j d le lt. absurd (omega (arith, lt)) })
