-- How the table of sources is filled.
use Rattle.std.proofs.Common.{◌≡◌, ◌≢◌, ◌∙◌, sym, ap, subst, ℕ, zero, suc, ◌+◌, ◌<◌, ◌≤◌, ◌⊎◌, inl, inr, Bool, true, false, cond, ◌&&◌, ◌||◌, List, [], ◌∷◌, length, map, get_or, set, Option, None, Some, is_some, is_none, refl, arith}
use Rattle.std.specs.Prelude.{count_by, nat_lt}
use Rattle.std.proofs.lemmas.Bool.{cases_lt, cases_eq, ltb-true, ltb-false}
use Rattle.std.proofs.lemmas.List.{get_or_default, get_or_past, get_or-map, get_or-set_same, get_or-set_other, length-map, length-set}
use Rattle.rr_flat.specs.Clocks.{IsScalarInput, Connects, Leads, itself, through}
use Rattle.rr_flat.specs.Plain.{Side, Written, Whole, Flat}
use Rattle.rr_flat.specs.Writers.{driver_at, no_driver}
use Rattle.rr_flat.specs.View.{plain_driver, plain_side}
use Rattle.rr_flat.specs.declared.design.Driver.{Driver as DeclaredDriver}
use Rattle.rr_flat.specs.Signals.{signal_at}
use Rattle.rr_clock.specs.Clock.{AreSources, told}
use Rattle.rr_text_names.specs.Names.{entry}
use Rattle.rr_clock.specs.Spread.{AreFirstDrivers, AreSound, IsSpread, feeder, input_noted, next_source, missing, noted}
use Rattle.rr_clock.proofs.Leading.{feeder_connects, connects_feeder, one_source, there, some_same, none_is}

-- entries after a write

pub entry_same : {X : Type 0} (t : List (Option X)) (i : ℕ) (o : Option X) → i < length t → entry (set t i o) i ≡ o
entry_same t i o l = get_or-set_same t i o None l

pub entry_other : {X : Type 0} (t : List (Option X)) (i j : ℕ) (o : Option X) → (j ≡ i → ⊥) → entry (set t i o) j ≡ entry t j
entry_other t i j o n = get_or-set_other t i j o None n

pub fewer_missing : (t : List (Option ℕ)) (i c : ℕ) → i < length t → entry t i ≡ None → missing (set t i (Some c)) < missing t
fewer_missing [] i c l e = absurd (omega (arith, l))
fewer_missing (None ∷ t) zero c l e = let h : missing t < suc (missing t) = omega arith in h
fewer_missing (Some x ∷ t) zero c l e = cc
fewer_missing (None ∷ t) (suc i) c l e =
    let h : missing (set t i (Some c)) < missing t = fewer_missing t i c (omega (arith, l)) e in
    let k : suc (missing (set t i (Some c))) < suc (missing t) = omega (arith, h) in k
fewer_missing (Some x ∷ t) (suc i) c l e = let h : missing (set t i (Some c)) < missing t = fewer_missing t i c (omega (arith, l)) e in h

-- what a next source is

pub record Next (flat : Flat) (first table : ℕ → Option ℕ) (port c : ℕ) : Type 0 where
  pub empty : table port ≡ None
  pub id : ℕ
  pub fed : feeder flat first port ≡ Some id
  pub source : table id ≡ Some c

pub next_is : (flat : Flat) (first table : ℕ → Option ℕ) (port c : ℕ) → next_source flat first table port ≡ Some c → Next flat first table port c
next_is flat first table port c h = go (table port) refl (feeder flat first port) refl h
  where
    go : (o : Option ℕ) → table port ≡ o → (f : Option ℕ) → feeder flat first port ≡ f → cond (is_none o) (told table f) None ≡ Some c → Next flat first table port c
    go (Some x) e f g h = cc
    go None e None g h = cc
    go None e (Some id) g h = record { empty = e; id = id; fed = g; source = h }

pub sound_more : (flat : Flat) (first : ℕ → Option ℕ) (t : List (Option ℕ)) (port c : ℕ) → port < length t → AreFirstDrivers flat first → AreSound flat (entry t)
    → Next flat first (entry t) port c → AreSound flat (entry (set t port (Some c)))
sound_more flat first t port c l f s n = record { input = input; leads = leads; itself = itself }
  where
    hc : IsScalarInput flat c
    hc = s.input n.id c n.source

    inner : IsScalarInput flat port → ⊥
    inner h = let e : Some port ≡ None = sym (s.itself port h) ∙ n.empty in cc

    at : Leads flat c port
    at = let k = feeder_connects flat first port n.id f n.fed in through k.0 inner k.1 (s.leads n.id c n.source)

    set_there : (x d : ℕ) → x ≡ port → entry (set t port (Some c)) x ≡ Some d → c ≡ d
    set_there x d e h = some_same c d (sym (entry_same t port (Some c) l) ∙ (ap (entry (set t port (Some c))) (sym e) ∙ h))

    input : (x d : ℕ) → entry (set t port (Some c)) x ≡ Some d → IsScalarInput flat d
    input x d h = go (cases_eq x port)
      where
        go : (x ≡ port) ⊎ (x ≡ port → ⊥) → IsScalarInput flat d
        go (inl e) = subst (IsScalarInput flat) (set_there x d e h) hc
        go (inr nay) = s.input x d (sym (entry_other t port x (Some c) nay) ∙ h)

    leads : (x d : ℕ) → entry (set t port (Some c)) x ≡ Some d → Leads flat d x
    leads x d h = go (cases_eq x port)
      where
        go : (x ≡ port) ⊎ (x ≡ port → ⊥) → Leads flat d x
        go (inl e) = subst (λ z. Leads flat z x) (set_there x d e h) (subst (Leads flat c) (sym e) at)
        go (inr nay) = s.leads x d (sym (entry_other t port x (Some c) nay) ∙ h)

    itself : (d : ℕ) → IsScalarInput flat d → entry (set t port (Some c)) d ≡ Some d
    itself d hd = go (cases_eq d port)
      where
        go : (d ≡ port) ⊎ (d ≡ port → ⊥) → entry (set t port (Some c)) d ≡ Some d
        go (inl e) = absurd (inner (subst (IsScalarInput flat) e hd))
        go (inr nay) = entry_other t port d (Some c) nay ∙ s.itself d hd

-- a pass

pub spread_start : (flat : Flat) (first : ℕ → Option ℕ) (old : List (Option ℕ)) → AreSound flat (entry old) → IsSpread flat first old 0 old false
spread_start flat first old s = record { size = refl; sound = s; fewer = λ h. cc; same = λ h. refl; quiet = λ h p l. absurd (omega (arith, l)) }

no_fewer : (grown : Bool) (old t : List (Option ℕ)) (n : ℕ) → n < missing t → (grown ≡ true → missing t < missing old) → (grown ≡ false → t ≡ old) → n < missing old
no_fewer true old t n l f s = let h = f refl in omega (arith, l, h)
no_fewer false old t n l f s = subst (λ z. n < missing z) (s refl) l

pub spread_filled : (flat : Flat) (first : ℕ → Option ℕ) (old : List (Option ℕ)) (i : ℕ) (t : List (Option ℕ)) (grown : Bool) (o : Option ℕ) → AreFirstDrivers flat first → i < length t
    → IsSpread flat first old i t grown → o ≡ next_source flat first (entry t) i → is_some o ≡ true → IsSpread flat first old (i + 1) (set t i o) true
spread_filled flat first old i t grown None f l s h e = cc
spread_filled flat first old i t grown (Some c) f l s h e =
    let n = next_is flat first (entry t) i c (sym h) in
    record {
      size = length-set t i (Some c) ∙ s.size;
      sound = sound_more flat first t i c l f s.sound n;
      fewer = λ g. no_fewer grown old t (missing (set t i (Some c))) (fewer_missing t i c l n.empty) s.fewer s.same;
      same = λ g. cc;
      quiet = λ g p k. cc;
    }

pub spread_passed : (flat : Flat) (first : ℕ → Option ℕ) (old : List (Option ℕ)) (i : ℕ) (t : List (Option ℕ)) (grown : Bool) (o : Option ℕ)
    → IsSpread flat first old i t grown → o ≡ next_source flat first (entry t) i → is_some o ≡ false → IsSpread flat first old (i + 1) t grown
spread_passed flat first old i t grown (Some c) s h e = cc
spread_passed flat first old i t grown None s h e = record { size = s.size; sound = s.sound; fewer = s.fewer; same = s.same; quiet = quiet }
  where
    quiet : grown ≡ false → (p : ℕ) → p < i + 1 → next_source flat first (entry old) p ≡ None
    quiet g p l = go (cases_lt p i)
      where
        go : (p < i) ⊎ (i ≤ p) → next_source flat first (entry old) p ≡ None
        go (inl k) = s.quiet g p k
        go (inr k) =
            let at : p ≡ i = omega (arith, k, l) in
            subst (λ z. next_source flat first (entry old) z ≡ None) (sym at) (subst (λ z. next_source flat first (entry z) i ≡ None) (s.same g) (sym h))

-- all passes

pub record IsFilling (flat : Flat) (first : ℕ → Option ℕ) (t : List (Option ℕ)) (growing : Bool) : Type 0 where
  pub size : length t ≡ length flat.signals
  pub sound : AreSound flat (entry t)
  pub quiet : growing ≡ false → (p : ℕ) → p < length flat.signals → next_source flat first (entry t) p ≡ None

pub filling_start : (flat : Flat) (first : ℕ → Option ℕ) (t : List (Option ℕ)) → length t ≡ length flat.signals → AreSound flat (entry t) → IsFilling flat first t true
filling_start flat first t n s = record { size = n; sound = s; quiet = λ h. cc }

pub filling_more : (flat : Flat) (first : ℕ → Option ℕ) (old t : List (Option ℕ)) (growing grown : Bool) → IsFilling flat first old growing
    → IsSpread flat first old (length flat.signals) t grown → IsFilling flat first t grown
filling_more flat first old t growing grown f s = record {
  size = s.size ∙ f.size;
  sound = s.sound;
  quiet = λ h p l. subst (λ z. next_source flat first (entry z) p ≡ None) (sym (s.same h)) (s.quiet h p l);
}

pub filling_less : (flat : Flat) (first : ℕ → Option ℕ) (old t : List (Option ℕ)) (grown : Bool) → IsSpread flat first old (length flat.signals) t grown
    → missing t + cond grown 1 0 < missing old + 1
filling_less flat first old t true s = let h = s.fewer refl in omega (arith, h)
filling_less flat first old t false s = let h = ap missing (s.same refl) in omega (arith, h)

filled_all : (flat : Flat) (first : ℕ → Option ℕ) (t : List (Option ℕ)) → AreFirstDrivers flat first → IsFilling flat first t false → (c : ℕ) → IsScalarInput flat c → {x : ℕ} → Leads flat c x → entry t x ≡ Some c
filled_all flat first t f h c hc itself = h.sound.itself c hc
filled_all flat first t f h c hc (through {port} {id} k nay connects l) = go (entry t port) refl (filled_all flat first t f h c hc l)
  where
    go : (o : Option ℕ) → entry t port ≡ o → entry t id ≡ Some c → entry t port ≡ Some c
    go (Some d) e ih = e ∙ ap Some (one_source flat d c (h.sound.input port d e) hc (h.sound.leads port d e) (through k nay connects l))
    go None e ih =
        let q = h.quiet refl port (there flat.signals port connects.input) in
        let bad : Some c ≡ None = rw (e, connects_feeder flat first k port id f connects, ih) at q in
        cc

pub filled : (flat : Flat) (first : ℕ → Option ℕ) (t : List (Option ℕ)) → AreFirstDrivers flat first → IsFilling flat first t false → AreSources flat (entry t)
filled flat first t f h = record { input = h.sound.input; leads = h.sound.leads; all = λ x c hc l. filled_all flat first t f h c hc l }

-- the first drivers

pub record AreFirst (flat : Flat) (count i : ℕ) (t : List (Option ℕ)) : Type 0 where
  pub size : length t ≡ count
  pub inside : (x k : ℕ) → entry t x ≡ Some k → k < i
  pub target : (x k : ℕ) → entry t x ≡ Some k → (driver_at flat k).target ≡ Whole x
  pub first : (x k : ℕ) → entry t x ≡ Some k → (j : ℕ) → j < k → (driver_at flat j).target ≡ Whole x → ⊥
  pub none : (x : ℕ) → x < count → entry t x ≡ None → (j : ℕ) → j < i → (driver_at flat j).target ≡ Whole x → ⊥

pub first_start : (flat : Flat) (n : ℕ) (t : List (Option ℕ)) → length t ≡ n → ((x : ℕ) → entry t x ≡ None) → AreFirst flat n 0 t
first_start flat n t e h = record {
  size = e;
  inside = λ x k g. absurd (never x k g);
  target = λ x k g. absurd (never x k g);
  first = λ x k g. absurd (never x k g);
  none = λ x l g j m. absurd (omega (arith, m));
}
  where
    never : (x k : ℕ) → entry t x ≡ Some k → ⊥
    never x k g = let bad : None ≡ Some k = sym (h x) ∙ g in cc

whole_same : (a b : ℕ) → Whole a ≡ Whole b → a ≡ b
whole_same a b h = ap number h
  where
    number : Side → ℕ
    number (Whole x) = x
    number (Written t i) = 0

-- the driver at i has another target, or one that has its first driver, or one that is no signal
first_kept : (flat : Flat) (n i : ℕ) (t : List (Option ℕ)) → AreFirst flat n i t
    → ((x : ℕ) → x < n → entry t x ≡ None → (driver_at flat i).target ≡ Whole x → ⊥) → AreFirst flat n (i + 1) t
first_kept flat n i t f nay = record {
  size = f.size;
  inside = λ x k g. let h = f.inside x k g in omega (arith, h);
  target = f.target;
  first = f.first;
  none = none;
}
  where
    none : (x : ℕ) → x < n → entry t x ≡ None → (j : ℕ) → j < i + 1 → (driver_at flat j).target ≡ Whole x → ⊥
    none x l g j m h = go (cases_lt j i)
      where
        go : (j < i) ⊎ (i ≤ j) → ⊥
        go (inl k) = f.none x l g j k h
        go (inr k) = let at : j ≡ i = omega (arith, k, m) in nay x l g (subst (λ z. (driver_at flat z).target ≡ Whole x) at h)

first_added : (flat : Flat) (n i id : ℕ) (t : List (Option ℕ)) → AreFirst flat n i t → (driver_at flat i).target ≡ Whole id → id < length t → entry t id ≡ None
    → AreFirst flat n (i + 1) (set t id (Some i))
first_added flat n i id t f is l e = record { size = length-set t id (Some i) ∙ f.size; inside = inside; target = target; first = first; none = none }
  where
    at : (x k : ℕ) → x ≡ id → entry (set t id (Some i)) x ≡ Some k → i ≡ k
    at x k q h = some_same i k (sym (entry_same t id (Some i) l) ∙ (ap (entry (set t id (Some i))) (sym q) ∙ h))

    off : (x : ℕ) (o : Option ℕ) → (x ≡ id → ⊥) → entry (set t id (Some i)) x ≡ o → entry t x ≡ o
    off x o q h = sym (entry_other t id x (Some i) q) ∙ h

    inside : (x k : ℕ) → entry (set t id (Some i)) x ≡ Some k → k < i + 1
    inside x k h = go (cases_eq x id)
      where
        go : (x ≡ id) ⊎ (x ≡ id → ⊥) → k < i + 1
        go (inl q) = let s = at x k q h in omega (arith, s)
        go (inr q) = let s = f.inside x k (off x (Some k) q h) in omega (arith, s)

    target : (x k : ℕ) → entry (set t id (Some i)) x ≡ Some k → (driver_at flat k).target ≡ Whole x
    target x k h = go (cases_eq x id)
      where
        go : (x ≡ id) ⊎ (x ≡ id → ⊥) → (driver_at flat k).target ≡ Whole x
        go (inl q) = subst (λ z. (driver_at flat z).target ≡ Whole x) (at x k q h) (is ∙ ap Whole (sym q))
        go (inr q) = f.target x k (off x (Some k) q h)

    first : (x k : ℕ) → entry (set t id (Some i)) x ≡ Some k → (j : ℕ) → j < k → (driver_at flat j).target ≡ Whole x → ⊥
    first x k h j m w = go (cases_eq x id)
      where
        go : (x ≡ id) ⊎ (x ≡ id → ⊥) → ⊥
        go (inl q) =
            let s : i ≡ k = at x k q h in
            f.none id (subst (λ z. id < z) f.size l) e j (omega (arith, m, s)) (w ∙ ap Whole q)
        go (inr q) = f.first x k (off x (Some k) q h) j m w

    none : (x : ℕ) → x < n → entry (set t id (Some i)) x ≡ None → (j : ℕ) → j < i + 1 → (driver_at flat j).target ≡ Whole x → ⊥
    none x b g j m w = go (cases_eq x id)
      where
        go : (x ≡ id) ⊎ (x ≡ id → ⊥) → ⊥
        go (inl q) = let bad : Some i ≡ None = sym (entry_same t id (Some i) l) ∙ (ap (entry (set t id (Some i))) (sym q) ∙ g) in cc
        go (inr q) = old (cases_lt j i)
          where
            old : (j < i) ⊎ (i ≤ j) → ⊥
            old (inl k) = f.none x b (off x None q g) j k w
            old (inr k) = let here : j ≡ i = omega (arith, k, m) in q (whole_same x id (sym w ∙ (ap (λ z. (driver_at flat z).target) here ∙ is)))

pub first_more : (flat : Flat) (n i : ℕ) (t : List (Option ℕ)) → AreFirst flat n i t → AreFirst flat n (i + 1) (noted (driver_at flat i).target i t)
first_more flat n i t f = go (driver_at flat i).target refl
  where
    go : (s : Side) → (driver_at flat i).target ≡ s → AreFirst flat n (i + 1) (noted s i t)
    go (Written tree scope) is = first_kept flat n i t f (λ x l g h. let bad : Written tree scope ≡ Whole x = sym is ∙ h in cc)
    go (Whole id) is = by (nat_lt id (length t)) refl (is_none (entry t id)) refl
      where
        by : (a : Bool) → nat_lt id (length t) ≡ a → (b : Bool) → is_none (entry t id) ≡ b → AreFirst flat n (i + 1) (cond (a && b) (set t id (Some i)) t)
        by true p true q = first_added flat n i id t f is (ltb-true id (length t) p) (none_is (entry t id) q)
        by true p false q = first_kept flat n i t f (λ x l g h.
            let bad : true ≡ false = sym (ap is_none (ap (entry t) (whole_same id x (sym is ∙ h)) ∙ g)) ∙ q in cc)
        by false p b q = first_kept flat n i t f (λ x l g h.
            let there = ltb-false id (length t) p in
            let same = whole_same id x (sym is ∙ h) in
            let size = f.size in
            absurd (omega (arith, there, same, l, size)))

pub first_done : (flat : Flat) (t : List (Option ℕ)) → AreFirst flat (length flat.signals) (length flat.drivers) t → AreFirstDrivers flat (entry t)
first_done flat t f = record { inside = f.inside; target = f.target; first = f.first; none = f.none }

-- the inputs

pub record AreInputs (flat : Flat) (i : ℕ) (t : List (Option ℕ)) : Type 0 where
  pub size : length t ≡ length flat.signals
  pub own : (x c : ℕ) → entry t x ≡ Some c → x ≡ c
  pub input : (x c : ℕ) → entry t x ≡ Some c → IsScalarInput flat c
  pub done : (k : ℕ) → k < i → (signal_at flat.signals (get_or flat.inputs k 0)).range ≡ None → entry t (get_or flat.inputs k 0) ≡ Some (get_or flat.inputs k 0)

pub inputs_start : (flat : Flat) (t : List (Option ℕ)) → length t ≡ length flat.signals → ((x : ℕ) → entry t x ≡ None) → AreInputs flat 0 t
inputs_start flat t e h = record {
  size = e;
  own = λ x c g. absurd (never x c g);
  input = λ x c g. absurd (never x c g);
  done = λ k l. absurd (omega (arith, l));
}
  where
    never : (x k : ℕ) → entry t x ≡ Some k → ⊥
    never x k g = let bad : None ≡ Some k = sym (h x) ∙ g in cc

pub inputs_passed : (flat : Flat) (i : ℕ) (t : List (Option ℕ)) → AreInputs flat i t → is_none (signal_at flat.signals (get_or flat.inputs i 0)).range ≡ false → AreInputs flat (i + 1) t
inputs_passed flat i t f nay = record { size = f.size; own = f.own; input = f.input; done = done }
  where
    done : (k : ℕ) → k < i + 1 → (signal_at flat.signals (get_or flat.inputs k 0)).range ≡ None → entry t (get_or flat.inputs k 0) ≡ Some (get_or flat.inputs k 0)
    done k l r = go (cases_lt k i)
      where
        go : (k < i) ⊎ (i ≤ k) → entry t (get_or flat.inputs k 0) ≡ Some (get_or flat.inputs k 0)
        go (inl m) = f.done k m r
        go (inr m) =
            let at : k ≡ i = omega (arith, l, m) in
            let bad : true ≡ false = sym (ap is_none (subst (λ z. (signal_at flat.signals (get_or flat.inputs z 0)).range ≡ None) at r)) ∙ nay in cc

pub inputs_added : (flat : Flat) (i : ℕ) (t : List (Option ℕ)) → AreInputs flat i t → i < length flat.inputs → get_or flat.inputs i 0 < length flat.signals
    → is_none (signal_at flat.signals (get_or flat.inputs i 0)).range ≡ true → AreInputs flat (i + 1) (set t (get_or flat.inputs i 0) (Some (get_or flat.inputs i 0)))
inputs_added flat i t f l b yea = record { size = length-set t id (Some id) ∙ f.size; own = own; input = input; done = done }
  where
    id : ℕ
    id = get_or flat.inputs i 0

    inside : id < length t
    inside = subst (λ z. id < z) (sym f.size) b

    is : IsScalarInput flat id
    is = ((i, (l, refl)), none_is (signal_at flat.signals id).range yea)

    at : (x c : ℕ) → x ≡ id → entry (set t id (Some id)) x ≡ Some c → id ≡ c
    at x c q h = some_same id c (sym (entry_same t id (Some id) inside) ∙ (ap (entry (set t id (Some id))) (sym q) ∙ h))

    off : (x : ℕ) (o : Option ℕ) → (x ≡ id → ⊥) → entry (set t id (Some id)) x ≡ o → entry t x ≡ o
    off x o q h = sym (entry_other t id x (Some id) q) ∙ h

    own : (x c : ℕ) → entry (set t id (Some id)) x ≡ Some c → x ≡ c
    own x c h = go (cases_eq x id)
      where
        go : (x ≡ id) ⊎ (x ≡ id → ⊥) → x ≡ c
        go (inl q) = q ∙ at x c q h
        go (inr q) = f.own x c (off x (Some c) q h)

    input : (x c : ℕ) → entry (set t id (Some id)) x ≡ Some c → IsScalarInput flat c
    input x c h = go (cases_eq x id)
      where
        go : (x ≡ id) ⊎ (x ≡ id → ⊥) → IsScalarInput flat c
        go (inl q) = subst (IsScalarInput flat) (at x c q h) is
        go (inr q) = f.input x c (off x (Some c) q h)

    done : (k : ℕ) → k < i + 1 → (signal_at flat.signals (get_or flat.inputs k 0)).range ≡ None → entry (set t id (Some id)) (get_or flat.inputs k 0) ≡ Some (get_or flat.inputs k 0)
    done k m r = go (cases_eq (get_or flat.inputs k 0) id) (cases_lt k i)
      where
        go : (get_or flat.inputs k 0 ≡ id) ⊎ (get_or flat.inputs k 0 ≡ id → ⊥) → (k < i) ⊎ (i ≤ k) → entry (set t id (Some id)) (get_or flat.inputs k 0) ≡ Some (get_or flat.inputs k 0)
        go (inl q) h = rw q (entry_same t id (Some id) inside)
        go (inr q) (inl h) = entry_other t id (get_or flat.inputs k 0) (Some id) q ∙ f.done k h r
        go (inr q) (inr h) = let here : k ≡ i = omega (arith, m, h) in absurd (q (ap (λ z. get_or flat.inputs z 0) here))

pub inputs_done : (flat : Flat) (t : List (Option ℕ)) → AreInputs flat (length flat.inputs) t → AreSound flat (entry t)
inputs_done flat t f = record {
  input = f.input;
  leads = λ x c h. subst (Leads flat c) (sym (f.own x c h)) itself;
  itself = λ c hc. let e = hc.0.1.1 in
      subst (λ z. entry t z ≡ Some z) e (f.done hc.0.0 hc.0.1.0 (subst (λ z. (signal_at flat.signals z).range ≡ None) (sym e) hc.1));
}

-- step by step, over the arena

pub first_step : (flat : Flat) (ds : List DeclaredDriver) (n i : ℕ) (t next : List (Option ℕ)) (d : DeclaredDriver) → flat.drivers ≡ map plain_driver ds → i < length ds → AreFirst flat n i t
    → next ≡ noted (plain_side (get_or ds i d).target) i t → AreFirst flat n (i + 1) next
first_step flat ds n i t next d e l f h =
    let at : driver_at flat i ≡ plain_driver (get_or ds i d) = ap (λ z. get_or z i no_driver) e ∙ get_or-map plain_driver ds i d no_driver l in
    rw h (subst (λ z. AreFirst flat n (i + 1) (noted z i t)) (ap (λ x. x.target) at) (first_more flat n i t f))

pub first_end : (flat : Flat) (ds : List DeclaredDriver) (n k : ℕ) (t : List (Option ℕ)) → flat.drivers ≡ map plain_driver ds → n ≡ length flat.signals → length ds ≤ k → k ≤ length ds → AreFirst flat n k t
    → AreFirstDrivers flat (entry t)
first_end flat ds n k t e s a b f =
    let size : length flat.drivers ≡ length ds = ap length e ∙ length-map ds plain_driver in
    let at : k ≡ length flat.drivers = omega (arith, a, b, size) in
    first_done flat t (subst (λ z. AreFirst flat z (length flat.drivers) t) s (subst (λ z. AreFirst flat n z t) at f))

pub inputs_step : (flat : Flat) (xs : List ℕ) (n i d : ℕ) (t next : List (Option ℕ)) → xs ≡ flat.inputs → length flat.signals ≡ n → i < length xs → get_or xs i d < n → AreInputs flat i t
    → next ≡ input_noted flat (get_or xs i d) t → AreInputs flat (i + 1) next
inputs_step flat xs n i d t next e s l b f h = rw h (subst (λ z. AreInputs flat (i + 1) (input_noted flat z t)) (sym at) (go (is_none (signal_at flat.signals (get_or flat.inputs i 0)).range) refl))
  where
    at : get_or xs i d ≡ get_or flat.inputs i 0
    at = get_or_default xs i d 0 l ∙ ap (λ z. get_or z i 0) e

    inside : get_or flat.inputs i 0 < length flat.signals
    inside = subst (λ z. get_or flat.inputs i 0 < z) (sym s) (subst (λ z. z < n) at b)

    go : (r : Bool) → is_none (signal_at flat.signals (get_or flat.inputs i 0)).range ≡ r → AreInputs flat (i + 1) (cond r (set t (get_or flat.inputs i 0) (Some (get_or flat.inputs i 0))) t)
    go true q = inputs_added flat i t f (subst (λ z. i < length z) e l) inside q
    go false q = inputs_passed flat i t f q

pub inputs_end : (flat : Flat) (xs : List ℕ) (k : ℕ) (t : List (Option ℕ)) → xs ≡ flat.inputs → length xs ≤ k → k ≤ length xs → AreInputs flat k t → AreSound flat (entry t)
inputs_end flat xs k t e a b f =
    let size : length xs ≡ length flat.inputs = ap length e in
    let at : k ≡ length flat.inputs = omega (arith, a, b, size) in
    inputs_done flat t (subst (λ z. AreInputs flat z t) at f)

pub spread_step : (flat : Flat) (first : ℕ → Option ℕ) (old : List (Option ℕ)) (i : ℕ) (t s next : List (Option ℕ)) (grown more : Bool) (o : Option ℕ) → AreFirstDrivers flat first → i < length t
    → IsSpread flat first old i t grown → s ≡ t → o ≡ next_source flat first (entry s) i → next ≡ cond (is_some o) (set t i o) t → more ≡ (grown || is_some o) → IsSpread flat first old (i + 1) next more
spread_step flat first old i t s next grown more o f l p e h n g = rw (n, g) (go o (h ∙ ap (λ z. next_source flat first (entry z) i) e))
  where
    or_true : (a : Bool) → true ≡ (a || true)
    or_true true = refl
    or_true false = refl

    or_false : (a : Bool) → a ≡ (a || false)
    or_false true = refl
    or_false false = refl

    go : (o : Option ℕ) → o ≡ next_source flat first (entry t) i → IsSpread flat first old (i + 1) (cond (is_some o) (set t i o) t) (grown || is_some o)
    go None q = subst (λ z. IsSpread flat first old (i + 1) t z) (or_false grown) (spread_passed flat first old i t grown None p q refl)
    go (Some c) q = subst (λ z. IsSpread flat first old (i + 1) (set t i (Some c)) z) (or_true grown) (spread_filled flat first old i t grown (Some c) f l p q refl)

pub spread_end : (flat : Flat) (first : ℕ → Option ℕ) (old t : List (Option ℕ)) (n i : ℕ) (grown : Bool) → n ≤ i → i ≤ n → IsSpread flat first old i t grown → IsSpread flat first old n t grown
spread_end flat first old t n i grown a b s = let at : i ≡ n = omega (arith, a, b) in subst (λ z. IsSpread flat first old z t grown) at s
