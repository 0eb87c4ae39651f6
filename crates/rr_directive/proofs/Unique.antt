-- A text is read in one way, and so is a file.
use Rattle.std.proofs.Common.{ℕ, ◌≡◌, ◌≢◌, ◌+◌, ◌≤◌, List, [], ◌∷◌, ◌++◌, length, Option, Some, refl, ap, ◌∙◌, sym, subst, arith}
use Rattle.std.proofs.lemmas.List.{append_assoc, length-append, length-map}
use Rattle.rr_directive.specs.declared.fault.Wrong.{Wrong}
use Rattle.rr_directive.specs.Pieces.{TextUnit, units_of}
use Rattle.rr_directive.specs.Expand.{Expands, Wrongs, Exact, act, Item, Use, Definition, Event, State, Step, Gives, Uses, Halt, Whole, Failed, Cut, Reads, ended, cut, cut_in_use, byte, unknown, loops, halts, uses, ReadsUse, from_use, stands_for, own, Meets, own_bytes, one_blank, nothing, whole_use, ReadsAll, none, more, start, first_unclosed, IsNot, IsWrong, bad, bad_use, unclosed, IsOver, over, over_in_use, Reaches}

-- ---- texts

pub same_reads : (ds : List Definition) (names : List (List ℕ)) (items : List Item) (s1 s2 : List Step) (h1 h2 : Halt) → Reads ds names items s1 h1 → Reads ds names items s2 h2 → h1 ≢ Cut → h2 ≢ Cut → (s1 ≡ s2) × (h1 ≡ h2)
same_reads ds names items s1 s2 h1 h2 (ended ns) (ended ns2) n m = (refl, refl)
same_reads ds names items s1 s2 h1 h2 (ended ns) (cut ns2 is2) n m = absurd (m refl)
same_reads ds names items s1 s2 h1 h2 (cut ns is) q n m = absurd (n refl)
same_reads ds names items s1 s2 h1 h2 (cut_in_use ns name is) q n m = absurd (n refl)
same_reads ds names items s1 s2 h1 h2 (byte ns b is t1 k1 p) (cut ns2 is2) n m = absurd (m refl)
same_reads ds names items s1 s2 h1 h2 (byte ns b is t1 k1 p) (byte ns2 b2 is2 t2 k2 q) n m = let r = same_reads ds ns is t1 t2 k1 k2 p q n m in (ap (λ (xs : List Step). Gives b ∷ xs) r.0, r.1)
same_reads ds names items s1 s2 h1 h2 (unknown ns name is e) (cut ns2 is2) n m = absurd (m refl)
same_reads ds names items s1 s2 h1 h2 (unknown ns name is e) (cut_in_use ns2 name2 is2) n m = absurd (m refl)
same_reads ds names items s1 s2 h1 h2 (unknown ns name is e) (unknown ns2 name2 is2 f) n m = (refl, refl)
same_reads ds names items s1 s2 h1 h2 (unknown ns name is e) (loops ns2 name2 is2 text2 f g) n m = absurd (cc)
same_reads ds names items s1 s2 h1 h2 (unknown ns name is e) (halts ns2 name2 is2 text2 t2 k2 f g w q) n m = absurd (cc)
same_reads ds names items s1 s2 h1 h2 (unknown ns name is e) (uses ns2 name2 is2 text2 i2 t2 k2 f g q r) n m = absurd (cc)
same_reads ds names items s1 s2 h1 h2 (loops ns name is text e f) (cut ns2 is2) n m = absurd (m refl)
same_reads ds names items s1 s2 h1 h2 (loops ns name is text e f) (cut_in_use ns2 name2 is2) n m = absurd (m refl)
same_reads ds names items s1 s2 h1 h2 (loops ns name is text e f) (unknown ns2 name2 is2 g) n m = absurd (cc)
same_reads ds names items s1 s2 h1 h2 (loops ns name is text e f) (loops ns2 name2 is2 text2 g h) n m = (refl, refl)
same_reads ds names items s1 s2 h1 h2 (loops ns name is text e f) (halts ns2 name2 is2 text2 t2 k2 g h w q) n m = absurd (cc)
same_reads ds names items s1 s2 h1 h2 (loops ns name is text e f) (uses ns2 name2 is2 text2 i2 t2 k2 g h q r) n m = absurd (cc)
same_reads ds names items s1 s2 h1 h2 (halts ns name is text t1 k1 e f w p) (cut ns2 is2) n m = absurd (m refl)
same_reads ds names items s1 s2 h1 h2 (halts ns name is text t1 k1 e f w p) (cut_in_use ns2 name2 is2) n m = absurd (m refl)
same_reads ds names items s1 s2 h1 h2 (halts ns name is text t1 k1 e f w p) (unknown ns2 name2 is2 g) n m = absurd (cc)
same_reads ds names items s1 s2 h1 h2 (halts ns name is text t1 k1 e f w p) (loops ns2 name2 is2 text2 g h) n m = absurd (cc)
same_reads ds names items s1 s2 h1 h2 (halts ns name is text t1 k1 e f w p) (halts ns2 name2 is2 text2 t2 k2 g h v q) n m =
    let x : text2 ≡ text = cc in
    let r = same_reads ds (name ∷ ns) text t1 t2 k1 k2 p (subst (λ (y : List Item). Reads ds (name ∷ ns) y t2 k2) x q) n m in
    (ap (λ (xs : List Step). Uses ∷ xs) r.0, r.1)
same_reads ds names items s1 s2 h1 h2 (halts ns name is text t1 k1 e f w p) (uses ns2 name2 is2 text2 i2 t2 k2 g h q r) n m =
    let x : text2 ≡ text = cc in
    let z = same_reads ds (name ∷ ns) text t1 i2 k1 Whole p (subst (λ (y : List Item). Reads ds (name ∷ ns) y i2 Whole) x q) n (λ y. cc) in
    absurd (w z.1)
same_reads ds names items s1 s2 h1 h2 (uses ns name is text i1 t1 k1 e f p o) (cut ns2 is2) n m = absurd (m refl)
same_reads ds names items s1 s2 h1 h2 (uses ns name is text i1 t1 k1 e f p o) (cut_in_use ns2 name2 is2) n m = absurd (m refl)
same_reads ds names items s1 s2 h1 h2 (uses ns name is text i1 t1 k1 e f p o) (unknown ns2 name2 is2 g) n m = absurd (cc)
same_reads ds names items s1 s2 h1 h2 (uses ns name is text i1 t1 k1 e f p o) (loops ns2 name2 is2 text2 g h) n m = absurd (cc)
same_reads ds names items s1 s2 h1 h2 (uses ns name is text i1 t1 k1 e f p o) (halts ns2 name2 is2 text2 t2 k2 g h v q) n m =
    let x : text2 ≡ text = cc in
    let z = same_reads ds (name ∷ ns) text i1 t2 Whole k2 p (subst (λ (y : List Item). Reads ds (name ∷ ns) y t2 k2) x q) (λ y. cc) m in
    absurd (v (sym z.1))
same_reads ds names items s1 s2 h1 h2 (uses ns name is text i1 t1 k1 e f p o) (uses ns2 name2 is2 text2 i2 t2 k2 g h q r) n m =
    let x : text2 ≡ text = cc in
    let z = same_reads ds (name ∷ ns) text i1 i2 Whole Whole p (subst (λ (y : List Item). Reads ds (name ∷ ns) y i2 Whole) x q) (λ y. cc) (λ y. cc) in
    let y = same_reads ds ns is t1 t2 k1 k2 o r n m in
    (ap (λ (xs : List Step). Uses ∷ (xs ++ t1)) z.0 ∙ ap (λ (xs : List Step). Uses ∷ (i2 ++ xs)) y.0, y.1)

-- a reading that is cut short meets no more steps
pub cut_short : (ds : List Definition) (names : List (List ℕ)) (items : List Item) (s1 s2 : List Step) (h1 : Halt) → Reads ds names items s1 h1 → Reads ds names items s2 Cut → h1 ≢ Cut → length s2 ≤ length s1
cut_short ds names items s1 s2 h1 (ended ns) (cut ns2 is2) n = omega arith
cut_short ds names items s1 s2 h1 (cut ns is) q n = absurd (n refl)
cut_short ds names items s1 s2 h1 (cut_in_use ns name is) q n = absurd (n refl)
cut_short ds names items s1 s2 h1 (byte ns b is t1 k1 p) (cut ns2 is2) n = omega arith
cut_short ds names items s1 s2 h1 (byte ns b is t1 k1 p) (byte ns2 b2 is2 t2 k2 q) n = let r : length t2 ≤ length t1 = cut_short ds ns is t1 t2 k1 p q n in omega arith
cut_short ds names items s1 s2 h1 (unknown ns name is e) (cut ns2 is2) n = omega arith
cut_short ds names items s1 s2 h1 (unknown ns name is e) (cut_in_use ns2 name2 is2) n = omega arith
cut_short ds names items s1 s2 h1 (unknown ns name is e) (halts ns2 name2 is2 text2 t2 k2 f g w q) n = absurd (cc)
cut_short ds names items s1 s2 h1 (unknown ns name is e) (uses ns2 name2 is2 text2 i2 t2 k2 f g q r) n = absurd (cc)
cut_short ds names items s1 s2 h1 (loops ns name is text e f) (cut ns2 is2) n = omega arith
cut_short ds names items s1 s2 h1 (loops ns name is text e f) (cut_in_use ns2 name2 is2) n = omega arith
cut_short ds names items s1 s2 h1 (loops ns name is text e f) (halts ns2 name2 is2 text2 t2 k2 g h w q) n = absurd (cc)
cut_short ds names items s1 s2 h1 (loops ns name is text e f) (uses ns2 name2 is2 text2 i2 t2 k2 g h q r) n = absurd (cc)
cut_short ds names items s1 s2 h1 (halts ns name is text t1 k1 e f w p) (cut ns2 is2) n = omega arith
cut_short ds names items s1 s2 h1 (halts ns name is text t1 k1 e f w p) (cut_in_use ns2 name2 is2) n = omega arith
cut_short ds names items s1 s2 h1 (halts ns name is text t1 k1 e f w p) (halts ns2 name2 is2 text2 t2 k2 g h v q) n =
    let x : text2 ≡ text = cc in
    let r : length t2 ≤ length t1 = cut_short ds (name ∷ ns) text t1 t2 k1 p (subst (λ (y : List Item). Reads ds (name ∷ ns) y t2 Cut) x q) n in omega arith
cut_short ds names items s1 s2 h1 (halts ns name is text t1 k1 e f w p) (uses ns2 name2 is2 text2 i2 t2 k2 g h q r) n =
    let x : text2 ≡ text = cc in
    let z = same_reads ds (name ∷ ns) text t1 i2 k1 Whole p (subst (λ (y : List Item). Reads ds (name ∷ ns) y i2 Whole) x q) n (λ y. cc) in
    absurd (w z.1)
cut_short ds names items s1 s2 h1 (uses ns name is text i1 t1 k1 e f p o) (cut ns2 is2) n = omega arith
cut_short ds names items s1 s2 h1 (uses ns name is text i1 t1 k1 e f p o) (cut_in_use ns2 name2 is2) n = omega arith
cut_short ds names items s1 s2 h1 (uses ns name is text i1 t1 k1 e f p o) (halts ns2 name2 is2 text2 t2 k2 g h v q) n =
    let x : text2 ≡ text = cc in
    let r : length t2 ≤ length i1 = cut_short ds (name ∷ ns) text i1 t2 Whole p (subst (λ (y : List Item). Reads ds (name ∷ ns) y t2 Cut) x q) (λ y. cc) in
    omega (arith, length-append i1 t1)
cut_short ds names items s1 s2 h1 (uses ns name is text i1 t1 k1 e f p o) (uses ns2 name2 is2 text2 i2 t2 k2 g h q r) n =
    let x : text2 ≡ text = cc in
    let z = same_reads ds (name ∷ ns) text i1 i2 Whole Whole p (subst (λ (y : List Item). Reads ds (name ∷ ns) y i2 Whole) x q) (λ y. cc) (λ y. cc) in
    let l : length t2 ≤ length t1 = cut_short ds ns is t1 t2 k1 o r n in
    omega (arith, length-append i1 t1, length-append i2 t2, ap length z.0)

-- ---- units

failed_not_cut : (w : Wrong) → Failed w ≢ Cut
failed_not_cut w e = cc

whole_not_cut : Whole ≢ Cut
whole_not_cut e = cc

pub same_meets : (s t r : State) (u : TextUnit) (es fs : List Event) → Meets s u es t → Meets s u fs r → (es ≡ fs) × (t ≡ r)
same_meets s t r u es fs (own_bytes x e) (own_bytes y f) = let k : x ≡ y = cc in (ap (λ (z : Exact). own z u.at u.bytes) k, refl)
same_meets s t r u es fs (own_bytes x e) (one_blank r2 f) = absurd (cc)
same_meets s t r u es fs (own_bytes x e) (nothing r2 f) = absurd (cc)
same_meets s t r u es fs (own_bytes x e) (whole_use y f g) = absurd (cc)
same_meets s t r u es fs (one_blank t2 e) (own_bytes y f) = absurd (cc)
same_meets s t r u es fs (one_blank t2 e) (one_blank r2 f) = let k : t2 ≡ r2 = cc in (refl, k)
same_meets s t r u es fs (one_blank t2 e) (nothing r2 f) = absurd (cc)
same_meets s t r u es fs (one_blank t2 e) (whole_use y f g) = absurd (cc)
same_meets s t r u es fs (nothing t2 e) (own_bytes y f) = absurd (cc)
same_meets s t r u es fs (nothing t2 e) (one_blank r2 f) = absurd (cc)
same_meets s t r u es fs (nothing t2 e) (nothing r2 f) = let k : t2 ≡ r2 = cc in (refl, k)
same_meets s t r u es fs (nothing t2 e) (whole_use y f g) = absurd (cc)
same_meets s t r u es fs (whole_use x e p) (own_bytes y f) = absurd (cc)
same_meets s t r u es fs (whole_use x e p) (one_blank r2 f) = absurd (cc)
same_meets s t r u es fs (whole_use x e p) (nothing r2 f) = absurd (cc)
same_meets s t r u es fs (whole_use x e p) (whole_use y f q) =
    let z = same_reads s.definitions [] (Use u.piece.name ∷ []) x y Whole Whole p q whole_not_cut whole_not_cut in
    (ap (λ (xs : List Step). from_use u.at xs) z.0, refl)

pub same_all : (s t r : State) (us : List TextUnit) (es fs : List Event) → ReadsAll s us es t → ReadsAll s us fs r → (es ≡ fs) × (t ≡ r)
same_all s t r us es fs (none s1) (none s2) = (refl, refl)
same_all s t r us es fs (more s1 m1 t1 u us1 e1 l1 a b) (more s2 m2 t2 u2 us2 e2 l2 c d) =
    let x = same_meets s1 m1 m2 u e1 e2 a c in
    let y = same_all m1 t1 t2 us1 l1 l2 b (subst (λ (m : State). ReadsAll m us1 l2 t2) (sym x.1) d) in
    (ap (λ (xs : List Event). xs ++ l1) x.0 ∙ ap (λ (xs : List Event). e2 ++ xs) y.0, y.1)

-- reading front and what is behind it
pub record Split (s : State) (front behind : List TextUnit) (es : List Event) (t : State) : Type 0 where
  pub middle : State
  pub before : List Event
  pub after : List Event
  pub first : ReadsAll s front before middle
  pub second : ReadsAll middle behind after t
  pub joined : es ≡ before ++ after

pub split : (s t : State) (front behind : List TextUnit) (es : List Event) → ReadsAll s (front ++ behind) es t → Split s front behind es t
split s t [] behind es r = record { middle = s; before = []; after = es; first = none s; second = r; joined = refl }
split s t (v ∷ front) behind es (more s1 m t1 u us e l a b) =
    let k = split m t1 front behind l b in
    record { middle = k.middle; before = e ++ k.before; after = k.after; first = more s1 m k.middle u front e k.before a k.first; second = k.second; joined = ap (λ (xs : List Event). e ++ xs) k.joined ∙ sym (append_assoc e k.before k.after) }

pub record Read (s : State) (u : TextUnit) (met : ℕ) : Type 0 where
  pub events : List Event
  pub state : State
  pub meets : Meets s u events state
  pub few : met + length events ≤ 1048576

first_read : (m t : State) (u : TextUnit) (us : List TextUnit) (es : List Event) → ReadsAll m (u ∷ us) es t → (e : List Event) × ((r : State) × ((l : List Event) × (Meets m u e r × (es ≡ e ++ l))))
first_read m t u us es (more s1 r t1 u1 us1 e l a b) = (e, (r, (l, (a, refl))))

-- a unit that reading comes to and passes
pub passes : (bytes : List ℕ) (t s : State) (u : TextUnit) (met : ℕ) (es : List Event) (k : Reaches bytes u s met) (us : List TextUnit) → ReadsAll start (k.front ++ (u ∷ us)) es t → length es ≤ 1048576 → Read s u met
passes bytes t s u met es k us r l =
    let p = split start t k.front (u ∷ us) es r in
    let q = same_all start p.middle s k.front p.before k.events p.first k.reads in
    let x = first_read p.middle t u us p.after p.second in
    let n : length p.before ≡ met = ap length q.0 ∙ sym k.counted in
    record {
      events = x.0;
      state = x.1.0;
      meets = subst (λ (m : State). Meets m u x.0 x.1.0) q.1 x.1.1.1.0;
      few = omega (arith, ap length p.joined, length-append p.before p.after, ap length x.1.1.1.1, length-append x.0 x.1.1.0);
    }

use_read : (s t : State) (u : TextUnit) (es : List Event) → Meets s u es t → act s u ≡ Expands → (steps : List Step) × (ReadsUse s u steps Whole × (length es ≡ length steps))
use_read s t u es (own_bytes x e) f = absurd (cc)
use_read s t u es (one_blank r e) f = absurd (cc)
use_read s t u es (nothing r e) f = absurd (cc)
use_read s t u es (whole_use x e p) f = (x, (p, length-map x (stands_for u.at)))

wrongs_read : (s t : State) (u : TextUnit) (es : List Event) → Meets s u es t → act s u ≡ Wrongs → ⊥
wrongs_read s t u es (own_bytes x e) f = cc
wrongs_read s t u es (one_blank r e) f = cc
wrongs_read s t u es (nothing r e) f = cc
wrongs_read s t u es (whole_use x e p) f = cc

failed_read : (s t : State) (u : TextUnit) (es : List Event) (steps : List Step) (w : Wrong) → Meets s u es t → act s u ≡ Expands → ReadsUse s u steps (Failed w) → ⊥
failed_read s t u es steps w m f p =
    let x = use_read s t u es m f in
    let z = same_reads s.definitions [] (Use u.piece.name ∷ []) steps x.0 (Failed w) Whole p x.1.0 (failed_not_cut w) whole_not_cut in cc

cut_read : (s t : State) (u : TextUnit) (es : List Event) (steps : List Step) → Meets s u es t → act s u ≡ Expands → ReadsUse s u steps Cut → length steps ≤ length es
cut_read s t u es steps m f p =
    let x = use_read s t u es m f in
    let l : length steps ≤ length x.0 = cut_short s.definitions [] (Use u.piece.name ∷ []) x.0 steps Whole x.1.0 p whole_not_cut in omega (arith, x.1.1)

pub not_wrong : (bytes : List ℕ) (u : TextUnit) (s : State) (met : ℕ) (w : Wrong) → IsWrong bytes u s met w → Read s u met → IsNot (first_unclosed (units_of bytes)) u → ⊥
not_wrong bytes u s met w (bad e) r n = wrongs_read s r.state u r.events r.meets e
not_wrong bytes u s met w (bad_use steps v e p l) r n = failed_read s r.state u r.events steps v r.meets e p
not_wrong bytes u s met w (unclosed es t e m l) r n = let k : IsNot (Some u.at) u = subst (λ (o : Option ℕ). IsNot o u) e n in k refl

pub not_over : (u : TextUnit) (s : State) (met : ℕ) → IsOver u s met → Read s u met → ⊥
not_over u s met (over es t m l) r = let z = same_meets s t r.state u es r.events m r.meets in omega (arith, ap length z.0, r.few)
not_over u s met (over_in_use steps e p l) r = omega (arith, cut_read s r.state u r.events steps r.meets e p, r.few)

-- ---- one unit

pub one_wrong : (bytes : List ℕ) (u : TextUnit) (s : State) (met : ℕ) (v w : Wrong) → IsWrong bytes u s met v → IsWrong bytes u s met w → v ≡ w
one_wrong bytes u s met v w (bad e) (bad f) = refl
one_wrong bytes u s met v w (bad e) (bad_use steps x f p l) = absurd (cc)
one_wrong bytes u s met v w (bad e) (unclosed es t f m l) = absurd (wrongs_read s t u es m e)
one_wrong bytes u s met v w (bad_use steps x e p l) (bad f) = absurd (cc)
one_wrong bytes u s met v w (bad_use steps x e p l) (bad_use steps2 y f q k) =
    let z = same_reads s.definitions [] (Use u.piece.name ∷ []) steps steps2 (Failed x) (Failed y) p q (failed_not_cut x) (failed_not_cut y) in cc
one_wrong bytes u s met v w (bad_use steps x e p l) (unclosed es t f m k) = absurd (failed_read s t u es steps x m e p)
one_wrong bytes u s met v w (unclosed es t e m l) (bad f) = absurd (wrongs_read s t u es m f)
one_wrong bytes u s met v w (unclosed es t e m l) (bad_use steps x f p k) = absurd (failed_read s t u es steps x m f p)
one_wrong bytes u s met v w (unclosed es t e m l) (unclosed es2 t2 f m2 k) = refl

pub wrong_or_over : (bytes : List ℕ) (u : TextUnit) (s : State) (met : ℕ) (v : Wrong) → IsWrong bytes u s met v → IsOver u s met → ⊥
wrong_or_over bytes u s met v (bad e) (over es t m l) = wrongs_read s t u es m e
wrong_or_over bytes u s met v (bad e) (over_in_use steps f p l) = cc
wrong_or_over bytes u s met v (bad_use steps x e p l) (over es t m k) = failed_read s t u es steps x m e p
wrong_or_over bytes u s met v (bad_use steps x e p l) (over_in_use steps2 f q k) =
    let c : length steps2 ≤ length steps = cut_short s.definitions [] (Use u.piece.name ∷ []) steps steps2 (Failed x) p q (failed_not_cut x) in omega arith
wrong_or_over bytes u s met v (unclosed es t e m l) k = not_over u s met k (record { events = es; state = t; meets = m; few = l })
