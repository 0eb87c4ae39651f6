-- The table after the first drivers and blocks of the walk.
use Rattle.std.proofs.Common.{◌≡◌, ◌∙◌, sym, ap, subst, ℕ, suc, ◌+◌, ◌-◌, ◌<◌, ◌≤◌, ◌⊎◌, inl, inr, List, length, get_or, refl, arith}
use Rattle.std.proofs.lemmas.Bool.{cases_lt}
use Rattle.std.proofs.lemmas.List.{get_or_default}
use Rattle.rr_expr.specs.declared.types.Bit.{Bit}
use Rattle.rr_flat.specs.declared.design.Part as design
use Rattle.rr_flat.specs.declared.design.Part.TheVariants as part
use Rattle.rr_flat.specs.Lawful.{OneWriter}
use Rattle.rr_flat.specs.Plain.{Flat}
use Rattle.rr_flat.specs.Writers.{Writer, Driven, Clocked, Combinational, Writes}
use Rattle.rr_writers.specs.declared.doubles.TwoDrivers.{TwoDrivers}
use Rattle.rr_writers.specs.Doubles.{part_of, part_at, token_of, IsAmong, OneAmong, IsDouble}
use Rattle.rr_writers.specs.Marks.{PartMarked, PartTaken}
use Rattle.rr_writers.proofs.Ordering.{HasWalk, part_once, driver_somewhere, clocked_somewhere, combinational_somewhere}

pub record Filled (flat : Flat) (n : ℕ) (table : Bit → ℕ) : Type 0 where
  pub one : OneAmong flat n
  pub put : (x : Writer) (b : Bit) → IsAmong flat n x → Writes flat x b → 0 < table b
  pub back : (b : Bit) (i : ℕ) → table b ≡ suc i → (i < n) × ((x : Writer) × ((part_at flat i ≡ part_of x) × Writes flat x b))
  pub low : (b : Bit) → table b ≤ n

pub filled_none : (flat : Flat) (table : Bit → ℕ) → ((b : Bit) → table b ≡ 0) → Filled flat 0 table
filled_none flat table h = record {
  one = λ x y b p q. absurd (omega (arith, p.1.0));
  put = λ x b p. absurd (omega (arith, p.1.0));
  back = λ b i e. let z = h b in let bad : 0 ≡ suc i = sym z ∙ e in cc;
  low = λ b. let z = h b in omega (arith, z);
}

-- a writer among one more is among those before, or is the last
among_more : (flat : Flat) (n : ℕ) (x : Writer) → IsAmong flat (suc n) x → IsAmong flat n x ⊎ (part_at flat n ≡ part_of x)
among_more flat n x (i, (l, (m, e))) = elim (cases_lt i n) [
  | inl k ↦ inl (i, (k, (m, e)))
  | inr k ↦ let q : i ≡ n = omega arith in inr (ap (part_at flat) (sym q) ∙ e)
]

pub filled_more : (flat : Flat) (n : ℕ) (old new : Bit → ℕ) → n < length flat.walk → Filled flat n old → PartMarked flat (part_at flat n) (suc n) old new → Filled flat (suc n) new
filled_more flat n old new l f m = record {
  one = λ x y b p q u v. one x y b (among_more flat n x p) (among_more flat n y q) u v;
  put = λ x b p u. put x b (among_more flat n x p) u;
  back = back;
  low = low;
}
  where
    apart : (x y : Writer) (b : Bit) → IsAmong flat n x → part_at flat n ≡ part_of y → Writes flat x b → Writes flat y b → ⊥
    apart x y b p q u v = let r = f.put x b p u in let z = m.free y b q v in omega arith

    one : (x y : Writer) (b : Bit) → IsAmong flat n x ⊎ (part_at flat n ≡ part_of x) → IsAmong flat n y ⊎ (part_at flat n ≡ part_of y) → Writes flat x b → Writes flat y b → x ≡ y
    one x y b (inl p) (inl q) u v = f.one x y b p q u v
    one x y b (inl p) (inr q) u v = absurd (apart x y b p q u v)
    one x y b (inr p) (inl q) u v = absurd (apart y x b q p v u)
    one x y b (inr p) (inr q) u v = m.alone x y b p q u v

    put : (x : Writer) (b : Bit) → IsAmong flat n x ⊎ (part_at flat n ≡ part_of x) → Writes flat x b → 0 < new b
    put x b (inl p) u = elim (m.rest b) [
      | inl e ↦ let r = f.put x b p u in omega (arith, e, r)
      | inr e ↦ omega (arith, e.0)
    ]
    put x b (inr p) u = let r = m.put x b p u in omega (arith, r)

    back : (b : Bit) (i : ℕ) → new b ≡ suc i → (i < suc n) × ((x : Writer) × ((part_at flat i ≡ part_of x) × Writes flat x b))
    back b i e = elim (m.rest b) [
      | inl s ↦ let r = f.back b i (sym s ∙ e) in (omega (arith, r.0), r.1)
      | inr s ↦
          let q : n ≡ i = omega (arith, s.0, e) in
          (omega arith, (s.1.0, (ap (part_at flat) (sym q) ∙ s.1.1.0, s.1.1.1)))
    ]

    low : (b : Bit) → new b ≤ suc n
    low b = elim (m.rest b) [
      | inl e ↦ let r = f.low b in omega (arith, e, r)
      | inr e ↦ omega (arith, e.0)
    ]

-- each writer that there is stands somewhere
writer_among : (flat : Flat) → HasWalk flat → (x : Writer) (b : Bit) → Writes flat x b → IsAmong flat (length flat.walk) x
unfolding Writes
writer_among flat w (Driven k i) b u = let r = driver_somewhere flat w k (part.Driver 0) u.0 in (r.0, (r.1.0, (r.1.0, r.1.1)))
writer_among flat w (Clocked k) b u = let r = clocked_somewhere flat w k (part.Driver 0) u.0 in (r.0, (r.1.0, (r.1.0, r.1.1)))
writer_among flat w (Combinational k) b u = let r = combinational_somewhere flat w k (part.Driver 0) u.0 in (r.0, (r.1.0, (r.1.0, r.1.1)))

pub filled_all : (flat : Flat) (n : ℕ) (table : Bit → ℕ) → HasWalk flat → length flat.walk ≤ n → Filled flat n table → OneWriter flat
filled_all flat n table w l f x y b u v = f.one x y b (wide x (writer_among flat w x b u)) (wide y (writer_among flat w y b v)) u v
  where
    wide : (z : Writer) → IsAmong flat (length flat.walk) z → IsAmong flat n z
    wide z (i, (k, r)) = (i, (omega arith, r))

pub record Two (flat : Flat) (n : ℕ) (new : Bit → ℕ) (b : Bit) : Type 0 where
  pub earlier : ℕ
  pub order : earlier ≤ n
  pub entry : new b ≡ suc earlier
  pub first : Writer
  pub second : Writer
  pub first_at : part_at flat earlier ≡ part_of first
  pub second_at : part_at flat n ≡ part_of second
  pub apart : first ≡ second → ⊥
  pub first_writes : Writes flat first b
  pub second_writes : Writes flat second b

pub two_of : (flat : Flat) (n : ℕ) (old new : Bit → ℕ) (b : Bit) → HasWalk flat → n < length flat.walk → Filled flat n old → PartTaken flat (part_at flat n) (suc n) old new b → Two flat n new b
two_of flat n old new b w l f t = go t.taken
  where
    positive : (m : ℕ) → 0 < m → m ≡ suc (m - 1)
    positive m h = omega arith

    go : ((0 < old b) × (new b ≡ old b)) ⊎ ((new b ≡ suc n) × ((x : Writer) × ((part_at flat n ≡ part_of x) × (Writes flat x b × (x ≡ t.writer → ⊥))))) → Two flat n new b
    go (inl (p, e)) =
        let q = positive (old b) p in
        let r = f.back b (old b - 1) q in
        record {
          earlier = old b - 1;
          order = omega (arith, r.0);
          entry = e ∙ q;
          first = r.1.0;
          second = t.writer;
          first_at = r.1.1.0;
          second_at = t.at;
          apart = λ s.
              let same : part_at flat (old b - 1) ≡ part_at flat n = r.1.1.0 ∙ (ap part_of s ∙ sym t.at) in
              let i = part_once flat w (old b - 1) n (part.Driver 0) (omega (arith, r.0)) l same in
              omega (arith, r.0, i);
          first_writes = r.1.1.1;
          second_writes = t.writes;
        }
    go (inr (e, (x, (p, (u, a))))) = record {
      earlier = n;
      order = omega arith;
      entry = e;
      first = x;
      second = t.writer;
      first_at = p;
      second_at = t.at;
      apart = a;
      first_writes = u;
      second_writes = t.writes;
    }

pub double_of : (flat : Flat) (n : ℕ) (old new : Bit → ℕ) (b : Bit) (d : TwoDrivers) → n < length flat.walk → Filled flat n old → (t : Two flat n new b) → d.bit ≡ b
    → d.first ≡ token_of flat (part_at flat t.earlier) → d.second ≡ token_of flat (part_at flat n) → IsDouble flat d
double_of flat n old new b d l f t e g h = record {
  earlier = t.earlier;
  later = n;
  order = t.order;
  inside = l;
  first = t.first;
  second = t.second;
  first_at = t.first_at;
  second_at = t.second_at;
  apart = t.apart;
  first_writes = subst (Writes flat t.first) (sym e) t.first_writes;
  second_writes = subst (Writes flat t.second) (sym e) t.second_writes;
  first_token = g;
  second_token = h;
  before = f.one;
}

pub double_breaks : (flat : Flat) (d : TwoDrivers) → IsDouble flat d → OneWriter flat → ⊥
double_breaks flat d i o = i.apart (o i.first i.second d.bit i.first_writes i.second_writes)

-- the same where a loop over the walk has come to a part

pub filled_step : (flat : Flat) (walk : List design.Part) (n number : ℕ) (d : design.Part) (old new : Bit → ℕ) → walk ≡ flat.walk → n < length walk → number ≡ n + 1
    → Filled flat n old → PartMarked flat (get_or walk n d) number old new → Filled flat (n + 1) new
filled_step flat walk n number d old new e l m f p =
    let k : n < length flat.walk = subst (λ z. n < length z) e l in
    let q : get_or walk n d ≡ part_at flat n = ap (λ z. get_or z n d) e ∙ get_or_default flat.walk n d (part.Driver 0) k in
    let s : n + 1 ≡ suc n = omega arith in
    let P : design.Part → Type 0 = λ z. PartMarked flat z (suc n) old new in
    let N : ℕ → Type 0 = λ z. PartMarked flat (get_or walk n d) z old new in
    let F : ℕ → Type 0 = λ z. Filled flat z new in
    subst F (sym s) (filled_more flat n old new k f (subst P q (subst N (m ∙ s) p)))

pub two_step : (flat : Flat) (walk : List design.Part) (n number : ℕ) (d : design.Part) (old new : Bit → ℕ) (b : Bit) → HasWalk flat → walk ≡ flat.walk → n < length walk → number ≡ n + 1
    → Filled flat n old → PartTaken flat (get_or walk n d) number old new b → Two flat n new b
two_step flat walk n number d old new b w e l m f t =
    let k : n < length flat.walk = subst (λ z. n < length z) e l in
    let q : get_or walk n d ≡ part_at flat n = ap (λ z. get_or z n d) e ∙ get_or_default flat.walk n d (part.Driver 0) k in
    let s : n + 1 ≡ suc n = omega arith in
    let P : design.Part → Type 0 = λ z. PartTaken flat z (suc n) old new b in
    let N : ℕ → Type 0 = λ z. PartTaken flat (get_or walk n d) z old new b in
    two_of flat n old new b w k f (subst P q (subst N (m ∙ s) t))

pub token_step : (flat : Flat) (walk : List design.Part) (i j token : ℕ) (d : design.Part) → walk ≡ flat.walk → j < length walk → j ≡ i → token ≡ token_of flat (get_or walk j d) → token ≡ token_of flat (part_at flat i)
token_step flat walk i j token d e l q t =
    t ∙ ap (token_of flat) (ap (λ z. get_or z j d) e ∙ (get_or_default flat.walk j d (part.Driver 0) (subst (λ z. j < length z) e l) ∙ ap (part_at flat) q))

pub double_step : (flat : Flat) (walk : List design.Part) (n number first : ℕ) (p : design.Part) (old new : Bit → ℕ) (b : Bit) (d : TwoDrivers) → HasWalk flat → walk ≡ flat.walk → n < length walk
    → number ≡ n + 1 → Filled flat n old → PartTaken flat (get_or walk n p) number old new b → first ≡ new b → d.bit ≡ b
    → d.first ≡ token_of flat (get_or walk (first - 1) p) → d.second ≡ token_of flat (get_or walk n p) → IsDouble flat d
double_step flat walk n number first p old new b d w e l m f t g h i j =
    let two = two_step flat walk n number p old new b w e l m f t in
    let k : n < length flat.walk = subst (λ z. n < length z) e l in
    let q : first - 1 ≡ two.earlier = omega (arith, two.entry) in
    let s : first - 1 < length walk = omega (arith, two.order) in
    double_of flat n old new b d k f two h (token_step flat walk two.earlier (first - 1) d.first p e s q i) (token_step flat walk n n d.second p e l refl j)
