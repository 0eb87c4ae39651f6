-- The names of a module among names with modules, each once.
use Rattle.std.proofs.Common.{◌≡◌, ◌∙◌, sym, ap, subst, ℕ, zero, suc, ◌+◌, ◌<◌, ◌≤◌, ◌⊎◌, inl, inr, Bool, true, false, cond, ◌&&◌, ◌||◌, List, [], ◌∷◌, ◌++◌, length, map, drop, get_or, Option, None, Some, is_some, refl, arith}
use Rattle.std.specs.Prelude.{fold, flat_map, Contains, nat_eq, Result, Ok, Err, IfOk}
use Rattle.std.specs.List.{list_any}
use Rattle.std.specs.Str.{bytes_eq}
use Rattle.std.proofs.lemmas.Bool.{eqb-true, eq-eqb, or_parts}
use Rattle.std.proofs.lemmas.List.{drop_all, length-map}
use Rattle.std.proofs.lemmas.Slice.Eq.{bytes_eq-Decides}
use Rattle.rr_expr.specs.declared.types.Entity.{Entity}
use Rattle.rr_expr.specs.declared.types.Entity.TheVariants as entity
use Rattle.rr_expr.specs.Scopes.{Names, lookup}
use Rattle.rr_flat.specs.Signals.{with_name}
use Rattle.rr_flat.specs.Signals.{Text, Signal, signal_at}
use Rattle.rr_flat.proofs.Lists.{rest}
use Rattle.rr_flat.specs.Clocks.{NameLeads}
use Rattle.rr_flat.specs.Plain.{Flat}
use Rattle.rr_text_names.specs.Names.{scalar_named}
use Rattle.rr_clock.specs.Clock.{TellsLeads, has}
use Rattle.rr_clock.specs.Places.{IsClockName, Place, IsPlace, ArePlaces, ClockName, AreNames, clock_name, clock_names, owner_at, with_clock, clock_set, names_in, place_of}
use Rattle.rr_clock.specs.View.{plain_name, plain_place}
use Rattle.rr_syntax.specs.declared.site.ModulePlace.{ModulePlace}
use denote.Ref.{Bor}
use Rattle.rr_clock.specs.declared.places.ClockName.{ClockName as DeclaredName}
use Rattle.rr_clock.proofs.UseLaw.{has_leads, leads_has}

-- texts

same_text : (a b : Text) → bytes_eq a b ≡ true → a ≡ b
same_text a b h = (bytes_eq-Decides a b).0 h

text_same : (a b : Text) → a ≡ b → bytes_eq a b ≡ true
text_same a b h = (bytes_eq-Decides a b).1 h

other_way : (a b : Text) → bytes_eq a b ≡ false → bytes_eq b a ≡ false
other_way a b h = go (bytes_eq b a) refl
  where
    go : (r : Bool) → bytes_eq b a ≡ r → r ≡ false
    go false q = refl
    go true q = sym (text_same a b (sym (same_text b a q))) ∙ h

-- a name that was added

abbrev pub is_there : Names → Text → Bool
is_there s n = is_some (lookup n s)

there_last : (s : Names) (m n : Text) (e : Entity) → is_there (s ++ (m, e) ∷ []) n ≡ (is_there s n || bytes_eq n m)
unfolding lookup
there_last [] m n e = go (bytes_eq n m)
  where
    go : (b : Bool) → is_some (cond b (Some e) None) ≡ b
    go true = refl
    go false = refl
there_last (x ∷ xs) m n e = go (bytes_eq n x.0) (there_last xs m n e)
  where
    go : (b : Bool) → is_there (xs ++ (m, e) ∷ []) n ≡ (is_there xs n || bytes_eq n m)
        → is_some (cond b (Some x.1) (lookup n (xs ++ (m, e) ∷ []))) ≡ (is_some (cond b (Some x.1) (lookup n xs)) || bytes_eq n m)
    go true h = refl
    go false h = h

or_same : (a b : Bool) → (b ≡ true → a ≡ true) → a ≡ (a || b)
or_same true b h = refl
or_same false true h = h refl
or_same false false h = refl

pub there_with : (s : Names) (m n : Text) → is_there (with_name s m entity.Instance) n ≡ (is_there s n || bytes_eq n m)
there_with s m n = go (is_there s m) refl
  where
    go : (b : Bool) → is_there s m ≡ b → is_there (cond b s (s ++ (m, entity.Instance) ∷ [])) n ≡ (is_there s n || bytes_eq n m)
    go true h = or_same (is_there s n) (bytes_eq n m) (λ q. subst (λ z. is_there s z ≡ true) (sym (same_text n m q)) h)
    go false h = there_last s m n entity.Instance

-- of one module

abbrev is_of : ℕ → Text → ClockName → Bool
is_of owner n c = nat_eq c.owner owner && bytes_eq n c.name

there_step : (owner : ℕ) (s : Names) (c : ClockName) (n : Text) → is_there (with_clock owner s c) n ≡ (is_there s n || is_of owner n c)
there_step owner s c n = go (nat_eq c.owner owner)
  where
    right : (a : Bool) → a ≡ (a || false)
    right true = refl
    right false = refl

    go : (b : Bool) → is_there (cond b (with_name s c.name entity.Instance) s) n ≡ (is_there s n || (b && bytes_eq n c.name))
    go true = there_with s c.name n
    go false = right (is_there s n)

or_assoc : (a b c : Bool) → ((a || b) || c) ≡ (a || (b || c))
or_assoc true b c = refl
or_assoc false b c = refl

there_all : (owner : ℕ) (cs : List ClockName) (s : Names) (n : Text) → is_there (fold (with_clock owner) s cs) n ≡ (is_there s n || list_any (is_of owner n) cs)
there_all owner [] s n = or_same (is_there s n) false (λ h. cc)
there_all owner (c ∷ cs) s n =
    there_all owner cs (with_clock owner s c) n
    ∙ (ap (λ z. z || list_any (is_of owner n) cs) (there_step owner s c n) ∙ or_assoc (is_there s n) (is_of owner n c) (list_any (is_of owner n) cs))

-- a set of names

pub known : (s : Names) (n : Text) → is_there s n ≡ true → Contains (names_in s) n
unfolding lookup
known [] n h = cc
known (e ∷ es) n h = go (bytes_eq n e.0) refl h (known es n)
  where
    go : (b : Bool) → bytes_eq n e.0 ≡ b → is_some (cond b (Some e.1) (lookup n es)) ≡ true → (is_there es n ≡ true → Contains (names_in es) n) → Contains (names_in (e ∷ es)) n
    go true q k rec = (0, omega arith, sym (same_text n e.0 q))
    go false q k rec = let r = rec k in let l = r.1 in (suc r.0, omega (arith, l), r.2)

held : (s : Names) (n : Text) (k : ℕ) → k < length s → n ≡ get_or (names_in s) k [] → is_there s n ≡ true
unfolding lookup
held [] n k l h = absurd (omega (arith, l))
held (e ∷ es) n zero l h = rw (text_same n e.0 h) refl
held (e ∷ es) n (suc k) l h = go (bytes_eq n e.0) (held es n k (omega (arith, l)) h)
  where
    go : (b : Bool) → is_there es n ≡ true → is_some (cond b (Some e.1) (lookup n es)) ≡ true
    go true r = refl
    go false r = r

-- no name is there twice
abbrev Differ : Names → Type 0
Differ [] = Unit {0}
Differ (e ∷ es) = (is_there es e.0 ≡ false) × Differ es

differ_last : (s : Names) (m : Text) (e : Entity) → Differ s → is_there s m ≡ false → Differ (s ++ (m, e) ∷ [])
unfolding lookup
differ_last [] m e d h = (refl, tt)
differ_last (x ∷ xs) m e d h = go (bytes_eq m x.0) refl h (λ k. differ_last xs m e d.1 k)
  where
    go : (b : Bool) → bytes_eq m x.0 ≡ b → is_some (cond b (Some x.1) (lookup m xs)) ≡ false → (is_there xs m ≡ false → Differ (xs ++ (m, e) ∷ [])) → Differ (x ∷ (xs ++ (m, e) ∷ []))
    go true q k later = cc
    go false q k later = (there_last xs m x.0 e ∙ rw (d.0, other_way m x.0 q) refl, later k)

differ_step : (owner : ℕ) (s : Names) (c : ClockName) → Differ s → Differ (with_clock owner s c)
differ_step owner s c d = go (nat_eq c.owner owner)
  where
    by : (b : Bool) → is_there s c.name ≡ b → Differ (cond b s (s ++ (c.name, entity.Instance) ∷ []))
    by true h = d
    by false h = differ_last s c.name entity.Instance d h

    go : (b : Bool) → Differ (cond b (with_name s c.name entity.Instance) s)
    go true = by (is_there s c.name) refl
    go false = d

differ_all : (owner : ℕ) (cs : List ClockName) (s : Names) → Differ s → Differ (fold (with_clock owner) s cs)
differ_all owner [] s d = d
differ_all owner (c ∷ cs) s d = differ_all owner cs (with_clock owner s c) (differ_step owner s c d)

once : (s : Names) → Differ s → (j k : ℕ) → j < length s → k < length s → get_or (names_in s) j [] ≡ get_or (names_in s) k [] → j ≡ k
once [] d j k l m h = absurd (omega (arith, l))
once (e ∷ es) d zero zero l m h = refl
once (e ∷ es) d zero (suc k) l m h = let bad : true ≡ false = sym (held es e.0 k (omega (arith, m)) h) ∙ d.0 in cc
once (e ∷ es) d (suc j) zero l m h = let bad : true ≡ false = sym (held es e.0 j (omega (arith, l)) (sym h)) ∙ d.0 in cc
once (e ∷ es) d (suc j) (suc k) l m h = ap suc (once es d.1 j k (omega (arith, l)) (omega (arith, m)) h)

-- the names of a module that are the clock

any_at : (test : ClockName → Bool) (cs : List ClockName) (k : ℕ) (d : ClockName) → k < length cs → test (get_or cs k d) ≡ true → list_any test cs ≡ true
any_at test [] k d l h = absurd (omega (arith, l))
any_at test (c ∷ cs) zero d l h = rw h refl
any_at test (c ∷ cs) (suc k) d l h = go (test c) (any_at test cs k d (omega (arith, l)) h)
  where
    go : (b : Bool) → list_any test cs ≡ true → (b || list_any test cs) ≡ true
    go true r = refl
    go false r = r

at_any : (test : ClockName → Bool) (cs : List ClockName) → list_any test cs ≡ true → (k : ℕ) × ((k < length cs) × ((d : ClockName) → test (get_or cs k d) ≡ true))
at_any test [] h = cc
at_any test (c ∷ cs) h = go (test c) refl h (at_any test cs)
  where
    go : (b : Bool) → test c ≡ b → (b || list_any test cs) ≡ true → (list_any test cs ≡ true → (k : ℕ) × ((k < length cs) × ((d : ClockName) → test (get_or cs k d) ≡ true)))
        → (k : ℕ) × ((k < length (c ∷ cs)) × ((d : ClockName) → test (get_or (c ∷ cs) k d) ≡ true))
    go true q r rec = (0, (omega arith, λ d. q))
    go false q r rec = let x = rec r in let l = x.1.0 in (suc x.0, (omega (arith, l), x.1.1))

both : (a b : Bool) → (a && b) ≡ true → (a ≡ true) × (b ≡ true)
both true b h = (refl, h)
both false b h = cc

no_name : ClockName
no_name = record { owner = 0; name = [] }

is_clock : (flat : Flat) (clock : Option ℕ) (cs : List ClockName) (owner : ℕ) (n : Text) → AreNames flat clock cs → is_there (clock_set owner cs) n ≡ true → IsClockName flat clock owner n
unfolding lookup
is_clock flat clock cs owner n a h =
    let x = at_any (is_of owner n) cs (sym (there_all owner cs [] n) ∙ h) in
    let t = both (nat_eq (get_or cs x.0 no_name).owner owner) (bytes_eq n (get_or cs x.0 no_name).name) (x.1.1 no_name) in
    subst (λ z. IsClockName flat clock z n) (eqb-true (get_or cs x.0 no_name).owner owner t.0)
    (subst (IsClockName flat clock (get_or cs x.0 no_name).owner) (sym (same_text n (get_or cs x.0 no_name).name t.1)) (a.each x.0 no_name x.1.0))

clock_is : (flat : Flat) (clock : Option ℕ) (cs : List ClockName) (owner : ℕ) (n : Text) → AreNames flat clock cs → IsClockName flat clock owner n → is_there (clock_set owner cs) n ≡ true
unfolding lookup
clock_is flat clock cs owner n a h =
    let x = a.all owner n h in
    there_all owner cs [] n ∙ any_at (is_of owner n) cs x.0 no_name x.1.0 (rw (x.1.1 no_name, eq-eqb owner owner refl, text_same n n refl) refl)

pub is_place : (flat : Flat) (clock : Option ℕ) (cs : List ClockName) (owner : ℕ) → AreNames flat clock cs → IsPlace flat clock (place_of cs owner)
is_place flat clock cs owner a =
    let s = clock_set owner cs in
    let size : length (names_in s) ≡ length s = length-map s (λ e. e.0) in
    record {
      each = λ k l. is_clock flat clock cs owner (get_or (names_in s) k []) a (held s (get_or (names_in s) k []) k (omega (arith, l, size)) refl);
      all = λ n h. known s n (clock_is flat clock cs owner n a h);
      once = λ j k l m h. once s (differ_all owner cs [] tt) j k (omega (arith, l, size)) (omega (arith, m, size)) h;
    }

modules_same : (cs : List ClockName) (ms : List ℕ) → map (λ (p : Place). p.owner) (map (place_of cs) ms) ≡ ms
modules_same cs [] = refl
modules_same cs (m ∷ ms) = ap (λ z. m ∷ z) (modules_same cs ms)

place_at : (cs : List ClockName) (ms : List ℕ) (k : ℕ) (p : Place) → k < length (map (place_of cs) ms) → get_or (map (place_of cs) ms) k p ≡ place_of cs (get_or ms k 0)
place_at cs [] k p l = absurd (omega (arith, l))
place_at cs (m ∷ ms) zero p l = refl
place_at cs (m ∷ ms) (suc k) p l = place_at cs ms k p (omega (arith, l))

pub are_places : (flat : Flat) (clock : Option ℕ) (cs : List ClockName) (ms : List ℕ) (ps : List Place) → AreNames flat clock cs → ms ≡ flat.reached → ps ≡ map (place_of cs) ms → ArePlaces flat clock ps
are_places flat clock cs ms ps a e h = rw h (record {
  owners = modules_same cs ms ∙ e;
  right = λ k p l. subst (IsPlace flat clock) (sym (place_at cs ms k p l)) (is_place flat clock cs (get_or ms k 0) a);
})

pub places_right : {E : Type 0} (flat : Flat) (clock : Option ℕ) (cs : List ClockName) (ms : List ℕ) (r : Result (Bor (List ModulePlace)) E) → AreNames flat clock cs → ms ≡ flat.reached
    → IfOk r (λ ps. map plain_place ps.now ≡ map (place_of cs) ms) → IfOk r (λ ps. ArePlaces flat clock (map plain_place ps.now))
places_right flat clock cs ms (Ok ps) a e h = are_places flat clock cs ms (map plain_place ps.now) a e h
places_right flat clock cs ms (Err x) a e h = tt

-- the names of signals

abbrev name_of : Flat → Signal → ClockName
name_of flat s = record { owner = owner_at flat s.instance; name = s.name }

abbrev is_clock_of : Flat → (ℕ → Bool) → Signal → Bool
is_clock_of flat set s = has set (scalar_named flat s.instance s.name)

names_each : (flat : Flat) (set : ℕ → Bool) (Q : ClockName → Type 0) (ss : List Signal) → ((j : ℕ) → j < length ss → is_clock_of flat set (signal_at ss j) ≡ true → Q (name_of flat (signal_at ss j)))
    → (k : ℕ) (d : ClockName) → k < length (flat_map (clock_name flat set) ss) → Q (get_or (flat_map (clock_name flat set) ss) k d)
names_each flat set Q [] q k d l = absurd (omega (arith, l))
names_each flat set Q (s ∷ ss) q k d l = go (is_clock_of flat set s) refl k l (λ k l. names_each flat set Q ss (λ j m. q (suc j) (omega (arith, m))) k d l)
  where
    go : (b : Bool) → is_clock_of flat set s ≡ b → (k : ℕ) → k < length (cond b (name_of flat s ∷ []) [] ++ flat_map (clock_name flat set) ss)
        → ((k : ℕ) → k < length (flat_map (clock_name flat set) ss) → Q (get_or (flat_map (clock_name flat set) ss) k d)) → Q (get_or (cond b (name_of flat s ∷ []) [] ++ flat_map (clock_name flat set) ss) k d)
    go true e zero l rec = q 0 (omega arith) e
    go true e (suc k) l rec = rec k (omega (arith, l))
    go false e k l rec = rec k l

names_all : (flat : Flat) (set : ℕ → Bool) (ss : List Signal) (j : ℕ) → j < length ss → is_clock_of flat set (signal_at ss j) ≡ true
    → (k : ℕ) × ((k < length (flat_map (clock_name flat set) ss)) × ((d : ClockName) → get_or (flat_map (clock_name flat set) ss) k d ≡ name_of flat (signal_at ss j)))
names_all flat set [] j l h = absurd (omega (arith, l))
names_all flat set (s ∷ ss) zero l h = rw h (0, (omega arith, λ d. refl))
names_all flat set (s ∷ ss) (suc j) l h = go (is_clock_of flat set s) (names_all flat set ss j (omega (arith, l)) h)
  where
    go : (b : Bool) → (k : ℕ) × ((k < length (flat_map (clock_name flat set) ss)) × ((d : ClockName) → get_or (flat_map (clock_name flat set) ss) k d ≡ name_of flat (signal_at ss j)))
        → (k : ℕ) × ((k < length (cond b (name_of flat s ∷ []) [] ++ flat_map (clock_name flat set) ss)) × ((d : ClockName) → get_or (cond b (name_of flat s ∷ []) [] ++ flat_map (clock_name flat set) ss) k d ≡ name_of flat (signal_at ss j)))
    go true r = let m = r.1.0 in (suc r.0, (omega (arith, m), r.1.1))
    go false r = r

pub are_names : (flat : Flat) (clock : ℕ) (set : ℕ → Bool) (cs : List ClockName) → TellsLeads flat clock set → cs ≡ clock_names flat set → AreNames flat (Some clock) cs
are_names flat clock set cs t e = rw e (record {
  each = names_each flat set (λ c. IsClockName flat (Some clock) c.owner c.name) flat.signals (λ j l h. record {
    signal = j;
    inside = l;
    is = refl;
    named = refl;
    leads = has_leads flat clock set (signal_at flat.signals j).instance (signal_at flat.signals j).name t h;
  });
  all = λ owner name c.
      let s : Signal = signal_at flat.signals c.signal in
      let r = names_all flat set flat.signals c.signal c.inside (leads_has flat clock set s.instance s.name t (subst (NameLeads flat clock s.instance) (sym c.named) c.leads)) in
      (r.0, (r.1.0, λ d. r.1.1 d ∙ (ap (λ z. record { owner = z; name = s.name }) c.is ∙ ap (λ z. record { owner = owner; name = z }) c.named)));
})

pub no_names : (flat : Flat) (cs : List ClockName) → cs ≡ [] → AreNames flat None cs
no_names flat cs e = rw e (record { each = λ k d l. absurd (omega (arith, l)); all = λ owner name c. absurd c.leads })

-- one by one

pub set_more : (owner : ℕ) (xs : List DeclaredName) (i : ℕ) (d : DeclaredName) (s next : Names) → i < length xs → next ≡ with_clock owner s (plain_name (get_or xs i d))
    → fold (with_clock owner) next (map plain_name (drop (i + 1) xs)) ≡ fold (with_clock owner) s (map plain_name (drop i xs))
set_more owner xs i d s next l h = rw (rest xs i d l, h) refl

pub set_done : (owner : ℕ) (xs : List DeclaredName) (i : ℕ) (s : Names) → length xs ≤ i → s ≡ fold (with_clock owner) s (map plain_name (drop i xs))
set_done owner xs i s l = rw (drop_all i xs l) refl
