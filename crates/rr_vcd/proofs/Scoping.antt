-- Variables by scope, size and name, and the choice of a scope.
use Rattle.std.proofs.Common.{◌≡◌, ◌⊎◌, inl, inr, ◌∙◌, sym, ℕ, ◌+◌, ◌<◌, Bool, true, false, ◌&&◌, ◌||◌, ◌==◌, cond, if◌then◌else◌, List, [], ◌∷◌, ◌++◌, length, get_or, take, map, Option, Some, None, option_map, is_some, refl, ap, subst, arith}
use Rattle.std.specs.Prelude.{MatchOption}
use Rattle.std.specs.List.{list_all, list_any}
use Rattle.std.proofs.lemmas.Bool.{cases_order}
use Rattle.std.specs.Str.{bytes_eq}
use Rattle.std.specs.Map.{lookup as looked_up}
use Rattle.std.proofs.lemmas.Bool.Decides.{nat_tests}
use Rattle.std.proofs.lemmas.List.{take_more, map-append}
use Rattle.indexmap.specs.IndexMap.{insert_entry}
use denote.Ref.{Bor}
use Rattle.rr_vcd_text.specs.declared.declared.Variable.{Variable as Own}
use Rattle.rr_vcd_text.specs.Dump.{Declared, Variable}
use Rattle.rr_vcd_text.specs.View.{plain_variable}
use Rattle.rr_vcd_text.proofs.Rooming.{same_bytes, bytes_same, and_left, and_right, and_both}
use Rattle.rr_vcd.specs.declared.places.Key.{Key}
use Rattle.rr_vcd.specs.contracts.places.KeyPartialEq.TheImpl.{eq-value}
use Rattle.rr_vcd.specs.Tops.{Port, Top}
use Rattle.rr_vcd.specs.Scopes.{bare_name, stands_for, id_in, has_port, has_inputs, has_ports, IsFirst, HasNone, IsScope, whole, inputs_alone}
use Rattle.rr_vcd.specs.View.{is_key, place_at, ArePlaces}

-- an entry, with its identifier as its bytes
abbrev pub placed : Key × Bor (List ℕ) → Key × List ℕ
placed e = (e.0, e.1.now)

abbrev pub as_port : Key → Port
as_port k = record { name = k.name.now; width = k.size }

abbrev pub Equates : (Key → Key → Bool) → Type 0
Equates eq = (a b : Key) → eq a b ≡ is_key a.scope (as_port a) b

pub same_place : (eq : Key → Key → Bool) → Equates eq → (key : Key) (es : List (Key × Bor (List ℕ)))
    → place_at key.scope (as_port key) (map placed es) ≡ option_map (λ t. t.now) (looked_up (eq key) es)
unfolding place_at
same_place eq h key [] = refl
same_place eq h key (e ∷ es) = rw (h key e.0) (go (is_key key.scope (as_port key) e.0) (same_place eq h key es))
  where
    go : (b : Bool) → place_at key.scope (as_port key) (map placed es) ≡ option_map (λ t. t.now) (looked_up (eq key) es)
        → (if b then Some e.1.now else place_at key.scope (as_port key) (map placed es)) ≡ option_map (λ t. t.now) (cond b (Some e.1) (looked_up (eq key) es))
    go true rec = refl
    go false rec = rec

and_swap : (x y : Bool) → (x && y) ≡ (y && x)
and_swap true true = refl
and_swap true false = refl
and_swap false true = refl
and_swap false false = refl

bytes_sym : (a b : List ℕ) → bytes_eq a b ≡ bytes_eq b a
bytes_sym a b = go (bytes_eq a b) refl (bytes_eq b a) refl
  where
    go : (x : Bool) → bytes_eq a b ≡ x → (y : Bool) → bytes_eq b a ≡ y → x ≡ y
    go true h true g = refl
    go true h false g = let e : bytes_eq b a ≡ true = bytes_same b a (sym (same_bytes a b h)) in cc
    go false h true g = let e : bytes_eq a b ≡ true = bytes_same a b (sym (same_bytes b a g)) in cc
    go false h false g = refl

nat_sym : (m n : ℕ) → (m == n) ≡ (n == m)
nat_sym m n = grind (arith, nat_tests)

-- the test that the table of identifiers makes
pub key_eq : Equates (eq-value).it
key_eq a b = ap (λ z. (a.scope == b.scope) && z) (and_swap (a.size == b.size) (bytes_eq a.name.now b.name.now) ∙ (ap (λ z. z && a.size == b.size) (bytes_sym a.name.now b.name.now) ∙ ap (λ z. bytes_eq b.name.now a.name.now && z) (nat_sym a.size b.size)))

pub some_map : (o : Option (Bor (List ℕ))) → is_some (option_map (λ t. t.now) o) ≡ is_some o
some_map None = refl
some_map (Some x) = refl

pub stands_is : (v : Own) (key : Key) → v.scope ≡ Some key.scope → key.name.now ≡ bare_name v.name.now → key.size ≡ v.size → (s : ℕ) (p : Port) → is_key s p key ≡ stands_for s p (plain_variable v)
stands_is v key scope name size s p = rw (scope, name, size) refl

-- the identifier of a new key
abbrev first_or : Option (List ℕ) → Option (List ℕ) → Option (List ℕ)
first_or found next = if is_some found then found else next

pub put_place : (eq : Key → Key → Bool) (key : Key) (x : Bor (List ℕ)) (es : List (Key × Bor (List ℕ))) (s : ℕ) (p : Port) → looked_up (eq key) es ≡ None
    → place_at s p (map placed (insert_entry eq es key x)) ≡ (if is_some (place_at s p (map placed es)) then place_at s p (map placed es) else if is_key s p key then Some x.now else None)
unfolding place_at
put_place eq key x [] s p none = refl
put_place eq key x (e ∷ es) s p none = go (eq key e.0) refl none (put_place eq key x es s p)
  where
    both : (b : Bool) (r n next : Option (List ℕ)) → r ≡ first_or n next → (if b then Some e.1.now else r) ≡ first_or (if b then Some e.1.now else n) next
    both true r n next h = refl
    both false r n next h = h

    go : (b : Bool) → eq key e.0 ≡ b → cond b (Some e.1) (looked_up (eq key) es) ≡ None
        → (looked_up (eq key) es ≡ None → place_at s p (map placed (insert_entry eq es key x)) ≡ first_or (place_at s p (map placed es)) (if is_key s p key then Some x.now else None))
        → place_at s p (map placed (insert_entry eq (e ∷ es) key x)) ≡ first_or (place_at s p (map placed (e ∷ es))) (if is_key s p key then Some x.now else None)
    go true h bad rec = cc
    go false h same rec = rw h (both (is_key s p e.0) _ (place_at s p (map placed es)) (if is_key s p key then Some x.now else None) (rec same))

none_of : {X : Type 0} (o : Option X) → is_some o ≡ false → o ≡ None
none_of None e = refl
none_of (Some x) e = cc

pub not_some : {X : Type 0} (o : Option X) → is_some o ≡ false → o ≡ None
not_some o e = none_of o e

-- a key that has an identifier keeps it
pub stays_placed : (key : Key) (id : List ℕ) (places : List (Key × List ℕ)) → is_some (place_at key.scope (as_port key) places) ≡ true → (s : ℕ) (p : Port)
    → place_at s p places ≡ (if is_some (place_at s p places) then place_at s p places else if is_key s p key then Some id else None)
stays_placed key id places there s p = go (is_some (place_at s p places)) refl (is_key s p key) refl
  where
    go : (b : Bool) → is_some (place_at s p places) ≡ b → (k : Bool) → is_key s p key ≡ k → place_at s p places ≡ (if b then place_at s p places else if k then Some id else None)
    go true e k h = refl
    go false e true h =
        let one : (s == key.scope) ≡ true = and_left (s == key.scope) (bytes_eq key.name.now p.name && key.size == p.width) h in
        let rest : (bytes_eq key.name.now p.name && key.size == p.width) ≡ true = and_right (s == key.scope) (bytes_eq key.name.now p.name && key.size == p.width) h in
        let scope : s ≡ key.scope = grind (arith, nat_tests) in
        let name : key.name.now ≡ p.name = same_bytes key.name.now p.name (and_left (bytes_eq key.name.now p.name) (key.size == p.width) rest) in
        let two : (key.size == p.width) ≡ true = and_right (bytes_eq key.name.now p.name) (key.size == p.width) rest in
        let width : key.size ≡ p.width = grind (arith, nat_tests) in
        let port : as_port key ≡ p = rw (name, width) refl in
        let same : is_some (place_at s p places) ≡ true = ap (λ x. is_some (place_at x p places)) scope ∙ (sym (ap (λ x. is_some (place_at key.scope x places)) port) ∙ there) in
        cc
    go false e false h = none_of (place_at s p places) e

id_more : (s : ℕ) (p : Port) (vs : List Variable) (v : Variable) → id_in s p (vs ++ v ∷ []) ≡ first_or (id_in s p vs) (if stands_for s p v then Some v.id else None)
unfolding id_in
id_more s p [] v = refl
id_more s p (u ∷ us) v = go (stands_for s p u) (id_more s p us v)
  where
    go : (b : Bool) → id_in s p (us ++ v ∷ []) ≡ first_or (id_in s p us) (if stands_for s p v then Some v.id else None)
        → (if b then Some u.id else id_in s p (us ++ v ∷ [])) ≡ first_or (if b then Some u.id else id_in s p us) (if stands_for s p v then Some v.id else None)
    go true h = refl
    go false h = h

-- the variables up to a place
pub ArePlaces-more : (vs : List Own) (at : ℕ) (d : Own) (old new : List (Key × List ℕ)) → at < length vs → ArePlaces (map plain_variable (take at vs)) old
    → ((s : ℕ) (p : Port) → place_at s p new ≡ (if is_some (place_at s p old) then place_at s p old else if stands_for s p (plain_variable (get_or vs at d)) then Some (get_or vs at d).id.now else None))
    → ArePlaces (map plain_variable (take (at + 1) vs)) new
ArePlaces-more vs at d old new inside h add s p =
    let v = get_or vs at d in
    let t : map plain_variable (take (at + 1) vs) ≡ map plain_variable (take at vs) ++ plain_variable v ∷ [] = ap (map plain_variable) (take_more vs at d inside) ∙ map-append plain_variable (take at vs) (v ∷ []) in
    add s p ∙ (ap (λ o. first_or o (if stands_for s p (plain_variable v) then Some v.id.now else None)) (h s p) ∙ (sym (id_more s p (map plain_variable (take at vs)) (plain_variable v)) ∙ ap (id_in s p) (sym t)))

-- a scope has a port where there is an identifier
has_is : (s : ℕ) (p : Port) (vs : List Variable) → is_some (id_in s p vs) ≡ list_any (stands_for s p) vs
unfolding id_in
has_is s p [] = refl
has_is s p (v ∷ vs) = go (stands_for s p v) (has_is s p vs)
  where
    go : (b : Bool) → is_some (id_in s p vs) ≡ list_any (stands_for s p) vs → is_some (if b then Some v.id else id_in s p vs) ≡ (b || list_any (stands_for s p) vs)
    go true h = refl
    go false h = h

pub has_all_is : {X : Type 0} (plain : X → Port) (d : Declared) (s : ℕ) (places : List (Key × List ℕ)) → ArePlaces d.variables places → (xs : List X)
    → list_all (λ x. is_some (place_at s (plain x) places)) xs ≡ list_all (has_port d s) (map plain xs)
has_all_is plain d s places h [] = refl
has_all_is plain d s places h (x ∷ xs) =
    ap (λ b. b && list_all (λ y. is_some (place_at s (plain y) places)) xs) (ap is_some (h s (plain x)) ∙ has_is s (plain x) d.variables)
    ∙ ap (λ b. has_port d s (plain x) && b) (has_all_is plain d s places h xs)

abbrev Alone : Top → Declared → ℕ → Option ℕ → Type 0
Alone top d count None = HasNone (has_inputs top d) count
Alone top d count (Some s) = IsFirst (has_inputs top d) count s

-- the scopes before a number: none has all ports, and the first that has the inputs is known, where there is one
pub record Sought (top : Top) (d : Declared) (count : ℕ) (alone : Option ℕ) : Type 0 where
  pub none : HasNone (has_ports top d) count
  pub first : Alone top d count alone

pub Sought-none : (top : Top) (d : Declared) → Sought top d 0 None
Sought-none top d = record { none = λ k l. absurd (omega arith); first = λ k l. absurd (omega arith) }

one_more : (test : ℕ → Bool) (count k : ℕ) → HasNone test count → test count ≡ false → k < count + 1 → test k ≡ false
one_more test count k none e l = go (cases_order k count)
  where
    go : (k ≡ count) ⊎ ((k < count) ⊎ (count < k)) → test k ≡ false
    go (inl same) = ap test same ∙ e
    go (inr (inl less)) = none k less
    go (inr (inr more)) = absurd (omega arith)

not_all : (top : Top) (d : Declared) (s : ℕ) → has_inputs top d s ≡ false → has_ports top d s ≡ false
not_all top d s e = ap (λ b. b && list_all (has_port d s) top.outputs) e

-- a scope without some input
pub Sought-neither : (top : Top) (d : Declared) (count : ℕ) (alone : Option ℕ) → Sought top d count alone → has_inputs top d count ≡ false → Sought top d (count + 1) alone
Sought-neither top d count alone s e = record { none = λ k l. one_more (has_ports top d) count k s.none (not_all top d count e) l; first = go alone s.first }
  where
    go : (o : Option ℕ) → Alone top d count o → Alone top d (count + 1) o
    go None h = λ k l. one_more (has_inputs top d) count k h e l
    go (Some t) h = let i = h.inside in record { inside = omega arith; passes = h.passes; earlier = h.earlier }

lacks : (top : Top) (d : Declared) (s : ℕ) → has_inputs top d s ≡ true → list_all (has_port d s) top.outputs ≡ false → has_ports top d s ≡ false
lacks top d s p q = rw (p, q) refl

-- the first scope with every input
pub Sought-first : (top : Top) (d : Declared) (count : ℕ) → Sought top d count None → has_inputs top d count ≡ true → list_all (has_port d count) top.outputs ≡ false → Sought top d (count + 1) (Some count)
Sought-first top d count s p q = record {
  none = λ k l. one_more (has_ports top d) count k s.none (lacks top d count p q) l;
  first = record { inside = omega arith; passes = p; earlier = s.first };
}

-- a later one
pub Sought-later : (top : Top) (d : Declared) (count t : ℕ) → Sought top d count (Some t) → has_inputs top d count ≡ true → list_all (has_port d count) top.outputs ≡ false → Sought top d (count + 1) (Some t)
Sought-later top d count t s p q = let i = s.first.inside in record {
  none = λ k l. one_more (has_ports top d) count k s.none (lacks top d count p q) l;
  first = record { inside = omega arith; passes = s.first.passes; earlier = s.first.earlier };
}

-- the first with every port
pub Sought-whole : (top : Top) (d : Declared) (count : ℕ) (alone : Option ℕ) → Sought top d count alone → has_inputs top d count ≡ true → list_all (has_port d count) top.outputs ≡ true → count < d.scopes → IsScope top d count
Sought-whole top d count alone s p q l = whole (record { inside = l; passes = and_both p q; earlier = s.none })

-- none has every port
pub Sought-all : (top : Top) (d : Declared) (count n : ℕ) (alone : Option ℕ) → Sought top d count alone → count ≡ n → d.scopes ≡ n → MatchOption alone (HasNone (has_inputs top d) n) (IsScope top d)
Sought-all top d count n None s e f = subst (HasNone (has_inputs top d)) e s.first
Sought-all top d count n (Some t) s e f = inputs_alone (subst (HasNone (has_ports top d)) (e ∙ sym f) s.none) (subst (λ m. IsFirst (has_inputs top d) m t) (e ∙ sym f) s.first)

pub ArePlaces-none : (places : List (Key × List ℕ)) → places ≡ [] → ArePlaces [] places
unfolding place_at id_in
ArePlaces-none places e s p = ap (place_at s p) e

pub Sought-new : (top : Top) (d : Declared) (count : ℕ) (alone : Option ℕ) → Sought top d count alone → is_some alone ≡ false → has_inputs top d count ≡ true → list_all (has_port d count) top.outputs ≡ false → Sought top d (count + 1) (Some count)
Sought-new top d count None s e p q = Sought-first top d count s p q
Sought-new top d count (Some t) s e p q = cc

pub Sought-kept : (top : Top) (d : Declared) (count : ℕ) (alone : Option ℕ) → Sought top d count alone → is_some alone ≡ true → has_inputs top d count ≡ true → list_all (has_port d count) top.outputs ≡ false → Sought top d (count + 1) alone
Sought-kept top d count None s e p q = cc
Sought-kept top d count (Some t) s e p q = Sought-later top d count t s p q
