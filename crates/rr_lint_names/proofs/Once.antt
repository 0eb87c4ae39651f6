-- Names each once, in the order of their first places.
use Rattle.std.proofs.Common.{◌≡◌, ◌∙◌, sym, ap, subst, refl, ℕ, ◌+◌, ◌<◌, ◌≤◌, Bool, true, false, not, ◌||◌, ◌&&◌, List, [], ◌∷◌, ◌++◌, map, take, get_or, length, if◌then◌else◌, append-nil}
use Rattle.std.specs.List.{filter, list_any}
use Rattle.std.specs.Str.{bytes_eq}
use Rattle.std.proofs.lemmas.List.{get_or_default, map-append, take_all, take_more}
use Rattle.std.proofs.lemmas.List.Elements.{filter-append}
use Rattle.std.proofs.lemmas.Slice.Eq.{bytes_eq-Decides}
use Rattle.rr_syntax.specs.declared.tree.Named.{Named}
use Rattle.rr_syntax.specs.View.{plain, plain_identifier}
use Rattle.rr_flat.specs.Reads.{Assigned}
use Rattle.rr_flat.specs.Targets.{part_name}
use Rattle.rr_text_names.specs.declared.lists.Target.{Target}
use Rattle.rr_text_names.specs.Names.{part_identifier}
use Rattle.rr_text_names.specs.View.{plain_target}
use Rattle.rr_lint_laws.specs.Mended.{each_once}
use Rattle.rr_lint_names.proofs.Latching.{name_text}

abbrev Texts : Type 0
Texts = List (List ℕ)

abbrev differs : List ℕ → List ℕ → Bool
differs y other = not (bytes_eq other y)

-- a name is among them exactly where it is among the names
kept_by_filter : (x y : List ℕ) (zs : Texts) → bytes_eq x y ≡ false → list_any (bytes_eq x) (filter (differs y) zs) ≡ list_any (bytes_eq x) zs
kept_by_filter x y [] h = refl
kept_by_filter x y (z ∷ zs) h = go (bytes_eq z y) refl (bytes_eq x z) refl (kept_by_filter x y zs h)
  where
    go : (b : Bool) → bytes_eq z y ≡ b → (c : Bool) → bytes_eq x z ≡ c → list_any (bytes_eq x) (filter (differs y) zs) ≡ list_any (bytes_eq x) zs →
        list_any (bytes_eq x) (if not b then z ∷ filter (differs y) zs else filter (differs y) zs) ≡ (bytes_eq x z || list_any (bytes_eq x) zs)
    go false e c f r = ap (λ t. bytes_eq x z || t) r
    go true e false f r = r ∙ sym (ap (λ t. t || list_any (bytes_eq x) zs) f)
    go true e true f r =
        let same : x ≡ z = (bytes_eq-Decides x z).0 f in
        absurd (let bad : true ≡ false = sym e ∙ subst (λ (t : List ℕ). bytes_eq t y ≡ false) same h in cc)

pub once_any : (x : List ℕ) (xs : Texts) → list_any (bytes_eq x) (each_once xs) ≡ list_any (bytes_eq x) xs
unfolding each_once
once_any x [] = refl
once_any x (y ∷ ys) = go (bytes_eq x y) refl (once_any x ys)
  where
    go : (b : Bool) → bytes_eq x y ≡ b → list_any (bytes_eq x) (each_once ys) ≡ list_any (bytes_eq x) ys → (b || list_any (bytes_eq x) (filter (differs y) (each_once ys))) ≡ (b || list_any (bytes_eq x) ys)
    go true e r = refl
    go false e r = kept_by_filter x y (each_once ys) e ∙ r

-- one name more
filter_last : (f : List ℕ → Bool) (x : List ℕ) → filter f (x ∷ []) ≡ (if f x then x ∷ [] else [])
filter_last f x = refl

pub once_snoc : (xs : Texts) (x : List ℕ) → each_once (xs ++ x ∷ []) ≡ (if list_any (bytes_eq x) xs then each_once xs else each_once xs ++ x ∷ [])
unfolding each_once
once_snoc [] x = refl
once_snoc (y ∷ ys) x = ap (λ (l : Texts). y ∷ filter (differs y) l) (once_snoc ys x) ∙ go (list_any (bytes_eq x) ys) (bytes_eq x y) refl
  where
    go : (b c : Bool) → bytes_eq x y ≡ c → y ∷ filter (differs y) (if b then each_once ys else each_once ys ++ x ∷ []) ≡ (if c || b then y ∷ filter (differs y) (each_once ys) else (y ∷ filter (differs y) (each_once ys)) ++ x ∷ [])
    go true true e = refl
    go true false e = refl
    go false true e =
        ap (λ (l : Texts). y ∷ l)
        (filter-append (differs y) (each_once ys) (x ∷ []) ∙ ap (λ (t : Bool). filter (differs y) (each_once ys) ++ (if not t then x ∷ [] else [])) e ∙ append-nil (filter (differs y) (each_once ys)))
    go false false e =
        ap (λ (l : Texts). y ∷ l) (filter-append (differs y) (each_once ys) (x ∷ []) ∙ ap (λ (t : Bool). filter (differs y) (each_once ys) ++ (if not t then x ∷ [] else [])) e)

-- the names of the first targets
abbrev pub names_to : List Target → ℕ → Texts
names_to xs i = map (λ (a : Assigned). part_name a.part) (map plain_target (take i xs))

names_next : (xs : List Target) (i : ℕ) (d : Target) → i < length xs → names_to xs (i + 1) ≡ names_to xs i ++ part_name (plain_target (get_or xs i d)).part ∷ []
names_next xs i d l =
    let x : Target = get_or xs i d in
    ap (λ (ys : List Target). map (λ (a : Assigned). part_name a.part) (map plain_target ys)) (take_more xs i x l ∙ ap (λ (y : Target). take i xs ++ y ∷ []) (sym (get_or_default xs i d x l)))
    ∙ ap (map (λ (a : Assigned). part_name a.part)) (map-append plain_target (take i xs) (x ∷ [])) ∙ map-append (λ (a : Assigned). part_name a.part) (map plain_target (take i xs)) (plain_target x ∷ [])

-- those that have been seen, and those of them that pass a test
pub record Seen (f : List ℕ → Bool) (xs : List Target) (i : ℕ) (seen names : Texts) : Type 0 where
  pub all : seen ≡ each_once (names_to xs i)
  pub chosen : names ≡ filter f (each_once (names_to xs i))

pub seen_none : (f : List ℕ → Bool) (xs : List Target) (seen names : Texts) → seen ≡ [] → names ≡ [] → Seen f xs 0 seen names
unfolding each_once
seen_none f xs seen names a b = record { all = a; chosen = b }

seen_more : (f : List ℕ → Bool) (xs : List Target) (i : ℕ) (d : Target) (text : List ℕ) (seen names seen' names' : Texts) → i < length xs → Seen f xs i seen names → text ≡ part_name (plain_target (get_or xs i d)).part →
    seen' ≡ (if list_any (bytes_eq text) seen then seen else seen ++ text ∷ []) → names' ≡ names ++ (if not (list_any (bytes_eq text) seen) && f text then text ∷ [] else []) → Seen f xs (i + 1) seen' names'
seen_more f xs i d text seen names seen' names' l s t a b = record { all = a ∙ to; chosen = b ∙ ap (λ (n : Texts). n ++ (if not (list_any (bytes_eq text) seen) && f text then text ∷ [] else [])) chosen ∙ by_case (list_any (bytes_eq text) seen) ∙ ap (filter f) to }
  where
    old : Texts
    old = names_to xs i

    up : names_to xs (i + 1) ≡ old ++ text ∷ []
    up = names_next xs i d l ∙ ap (λ (y : List ℕ). old ++ y ∷ []) (sym t)

    same : list_any (bytes_eq text) seen ≡ list_any (bytes_eq text) old
    same = ap (list_any (bytes_eq text)) s.all ∙ once_any text old

    chosen : names ≡ filter f seen
    chosen = s.chosen ∙ ap (filter f) (sym s.all)

    to : (if list_any (bytes_eq text) seen then seen else seen ++ text ∷ []) ≡ each_once (names_to xs (i + 1))
    to = ap (λ (b : Bool). if b then seen else seen ++ text ∷ []) same ∙ ap (λ (z : Texts). if list_any (bytes_eq text) old then z else z ++ text ∷ []) s.all ∙ sym (once_snoc old text) ∙ ap each_once (sym up)

    by_case : (b : Bool) → filter f seen ++ (if not b && f text then text ∷ [] else []) ≡ filter f (if b then seen else seen ++ text ∷ [])
    by_case true = append-nil (filter f seen)
    by_case false = sym (filter-append f seen (text ∷ []))

-- the same for a name that was read from the target
pub seen_next : (f : List ℕ → Bool) (xs : List Target) (i : ℕ) (d : Target) (n : Named) (seen names seen' names' : Texts) → i < length xs → Seen f xs i seen names → plain_identifier n ≡ part_identifier (plain (get_or xs i d).part.now) →
    seen' ≡ (if list_any (bytes_eq n.name.now) seen then seen else seen ++ n.name.now ∷ []) → names' ≡ names ++ (if not (list_any (bytes_eq n.name.now) seen) && f n.name.now then n.name.now ∷ [] else []) → Seen f xs (i + 1) seen' names'
seen_next f xs i d n seen names seen' names' l s t a b = seen_more f xs i d n.name.now seen names seen' names' l s (name_text n (plain (get_or xs i d).part.now) t) a b

pub seen_all : (f : List ℕ → Bool) (xs : List Target) (i : ℕ) (seen names : Texts) (all : List Assigned) → length xs ≤ i → map plain_target xs ≡ all → Seen f xs i seen names → names ≡ filter f (each_once (map (λ (a : Assigned). part_name a.part) all))
seen_all f xs i seen names all l e s = s.chosen ∙ ap (λ (ys : List Target). filter f (each_once (map (λ (a : Assigned). part_name a.part) (map plain_target ys)))) (take_all i xs l) ∙ ap (λ (zs : List Assigned). filter f (each_once (map (λ (a : Assigned). part_name a.part) zs))) e
