-- A table of borrowed identifiers with sizes, as a list of names with numbers.
use Rattle.std.proofs.Common.{◌≡◌, ◌∙◌, sym, ℕ, zero, suc, ◌+◌, ◌<◌, min, Bool, true, false, ◌||◌, cond, if◌then◌else◌, List, [], ◌∷◌, ◌++◌, length, get_or, drop, map, Option, Some, None, refl, ap, subst, add-one, arith, drop-cons}
use Rattle.std.specs.List.{list_any}
use Rattle.std.specs.Str.{bytes_eq}
use Rattle.std.specs.Map.{lookup as looked_up}
use Rattle.indexmap.specs.IndexMap.{insert_entry}
use denote.Ref.{Bor}
use Rattle.rr_vcd_text.specs.declared.declared.Variable.{Variable}
use Rattle.rr_vcd_text.specs.Dump as dump
use Rattle.rr_vcd_text.specs.Rooms.{number_at, narrowed, room_from, room_of, is_within, some_room}
use Rattle.rr_vcd_text.specs.View.{plain_variable}
use Rattle.rr_vcd_text.proofs.Rooming.{same_bytes}

-- an entry, with its key as its bytes
abbrev pub sized : Bor (List ℕ) × ℕ → List ℕ × ℕ
sized e = (e.0.now, e.1)

pub same_number : (name : List ℕ) (es : List (Bor (List ℕ) × ℕ)) → number_at name (map sized es) ≡ looked_up (λ k. bytes_eq name k.now) es
unfolding number_at
same_number name [] = refl
same_number name (e ∷ es) = ap (λ rest. cond (bytes_eq name e.0.now) (Some e.1) rest) (same_number name es)

-- what is put at a key is found there, and all else as before
pub put_is : (key : Bor (List ℕ)) (x : ℕ) (es : List (Bor (List ℕ) × ℕ)) (t : List ℕ)
    → number_at t (map sized (insert_entry (λ a b. bytes_eq a.now b.now) es key x)) ≡ (if bytes_eq t key.now then Some x else number_at t (map sized es))
unfolding number_at
put_is key x [] t = refl
put_is key x (e ∷ es) t = go (bytes_eq key.now e.0.now) refl (put_is key x es t)
  where
    exchange : (b c : Bool) (r : Option ℕ) → (bytes_eq t e.0.now ≡ b) → (bytes_eq t key.now ≡ c) → bytes_eq key.now e.0.now ≡ false
        → (if b then Some e.1 else if c then Some x else r) ≡ (if c then Some x else if b then Some e.1 else r)
    exchange true true r p q n =
        let one : t ≡ e.0.now = same_bytes t e.0.now p in
        let two : t ≡ key.now = same_bytes t key.now q in
        let other : bytes_eq key.now e.0.now ≡ true = ap (λ z. bytes_eq z e.0.now) (sym two) ∙ p in
        cc
    exchange true false r p q n = refl
    exchange false true r p q n = refl
    exchange false false r p q n = refl

    go : (b : Bool) → bytes_eq key.now e.0.now ≡ b
        → number_at t (map sized (insert_entry (λ a c. bytes_eq a.now c.now) es key x)) ≡ (if bytes_eq t key.now then Some x else number_at t (map sized es))
        → number_at t (map sized (insert_entry (λ a c. bytes_eq a.now c.now) (e ∷ es) key x)) ≡ (if bytes_eq t key.now then Some x else number_at t (map sized (e ∷ es)))
    go true h rec =
        let same : key.now ≡ e.0.now = same_bytes key.now e.0.now h in
        rw h (subst (λ z. (if bytes_eq t e.0.now then Some x else number_at t (map sized es)) ≡ (if bytes_eq t z then Some x else if bytes_eq t e.0.now then Some e.1 else number_at t (map sized es))) (sym same)
        (both (bytes_eq t e.0.now)))
      where
        both : (b : Bool) → (if b then Some x else number_at t (map sized es)) ≡ (if b then Some x else if b then Some e.1 else number_at t (map sized es))
        both true = refl
        both false = refl
    go false h rec =
        rw h (ap (λ r. if bytes_eq t e.0.now then Some e.1 else r) rec
        ∙ exchange (bytes_eq t e.0.now) (bytes_eq t key.now) (number_at t (map sized es)) refl refl h)

abbrev pub plain_from : ℕ → List Variable → List dump.Variable
plain_from k vs = map plain_variable (drop k vs)

plain_cons : (k : ℕ) (vs : List Variable) (v : Variable) → k < length vs → get_or vs k v ≡ v → plain_from k vs ≡ plain_variable v ∷ plain_from (k + 1) vs
plain_cons k vs v h e =
    let d : drop k vs ≡ get_or vs k v ∷ drop (suc k) vs = drop-cons vs k v h in
    ap (map plain_variable) d ∙ (ap (λ x. plain_variable x ∷ map plain_variable (drop (suc k) vs)) e ∙ ap (λ n. plain_variable v ∷ plain_from n vs) (sym (add-one k)))

plain_all : (vs : List Variable) → plain_from (length vs) vs ≡ []
plain_all [] = refl
plain_all (v ∷ vs) = plain_all vs

-- the rooms of the variables up to a place
pub record Sizes (vs : List Variable) (at : ℕ) (sizes : List (List ℕ × ℕ)) : Type 0 where
  pub rooms : (t : List ℕ) → room_from (number_at t sizes) t (plain_from at vs) ≡ room_of (map plain_variable vs) t

pub Sizes-none : (vs : List Variable) → Sizes vs 0 []
unfolding number_at
Sizes-none vs = record { rooms = λ t. refl }

pub Sizes-more : (vs : List Variable) (at : ℕ) (old new : List (List ℕ × ℕ)) (v : Variable) (room : ℕ) → Sizes vs at old → at < length vs → get_or vs at v ≡ v
    → narrowed (number_at v.id.now old) v.size ≡ Some room → ((t : List ℕ) → number_at t new ≡ (if bytes_eq t v.id.now then Some room else number_at t old)) → Sizes vs (at + 1) new
unfolding room_from
Sizes-more vs at old new v room s inside is narrow put = record {
  rooms = λ t. ap (λ r. room_from r t (plain_from (at + 1) vs)) (put t ∙ by_name t (bytes_eq t v.id.now) refl)
      ∙ (sym (ap (room_from (number_at t old) t) (plain_cons at vs v inside is)) ∙ s.rooms t);
}
  where
    by_name : (t : List ℕ) (b : Bool) → bytes_eq t v.id.now ≡ b → (if b then Some room else number_at t old) ≡ (if b then narrowed (number_at t old) v.size else number_at t old)
    by_name t true h = sym narrow ∙ ap (λ z. narrowed (number_at z old) v.size) (sym (same_bytes t v.id.now h))
    by_name t false h = refl

same_item : (vs : List Variable) (at : ℕ) (d : Variable) → at < length vs → get_or vs at (get_or vs at d) ≡ get_or vs at d
same_item [] at d h = absurd (omega arith)
same_item (v ∷ vs) zero d h = refl
same_item (v ∷ vs) (suc n) d h = same_item vs n d (omega arith)

pub Sizes-item : (vs : List Variable) (at : ℕ) (old new : List (List ℕ × ℕ)) (d : Variable) (found : Option ℕ) (room : ℕ) → Sizes vs at old → at < length vs
    → ((t : List ℕ) → number_at t new ≡ (if bytes_eq t (get_or vs at d).id.now then Some room else number_at t old))
    → narrowed found (get_or vs at d).size ≡ Some room → found ≡ number_at (get_or vs at d).id.now old → Sizes vs (at + 1) new
Sizes-item vs at old new d found room s inside put narrow find =
    Sizes-more vs at old new (get_or vs at d) room s inside (same_item vs at d inside) (ap (λ o. narrowed o (get_or vs at d).size) (sym find) ∙ narrow) put

pub Sizes-all : (vs : List Variable) (at : ℕ) (sizes : List (List ℕ × ℕ)) → Sizes vs at sizes → at ≡ length vs → (t : List ℕ) → number_at t sizes ≡ room_of (map plain_variable vs) t
unfolding room_from
Sizes-all vs at sizes s e t = sym (ap (room_from (number_at t sizes) t) (ap (λ k. plain_from k vs) e ∙ plain_all vs)) ∙ s.rooms t

abbrev any_within : List (List ℕ × ℕ) → ℕ → List dump.Variable → Bool
any_within sizes digits vs = list_any (λ v. is_within (number_at v.id sizes) digits) vs

-- the greatest room of the variables up to a place
pub record Most (sizes : List (List ℕ × ℕ)) (vs : List Variable) (at : ℕ) (most : Option ℕ) : Type 0 where
  pub rooms : (digits : ℕ) → (is_within most digits || list_any (λ v. is_within (number_at v.id sizes) digits) (plain_from at vs)) ≡ list_any (λ v. is_within (number_at v.id sizes) digits) (map plain_variable vs)

pub Most-none : (sizes : List (List ℕ × ℕ)) (vs : List Variable) → Most sizes vs 0 None
Most-none sizes vs = record { rooms = λ digits. refl }

pub Most-more : (sizes : List (List ℕ × ℕ)) (vs : List Variable) (at : ℕ) (most next : Option ℕ) (v : Variable) → Most sizes vs at most → at < length vs → get_or vs at v ≡ v
    → ((digits : ℕ) → is_within next digits ≡ (if is_within most digits then true else is_within (number_at v.id.now sizes) digits)) → Most sizes vs (at + 1) next
Most-more sizes vs at most next v s inside is more = record {
  rooms = λ digits. ap (λ b. b || any_within sizes digits (plain_from (at + 1) vs)) (more digits)
      ∙ (assoc (is_within most digits) (is_within (number_at v.id.now sizes) digits) (any_within sizes digits (plain_from (at + 1) vs))
      ∙ (sym (ap (λ x. is_within most digits || any_within sizes digits x) (plain_cons at vs v inside is)) ∙ s.rooms digits));
}
  where
    assoc : (a b r : Bool) → ((if a then true else b) || r) ≡ (a || (b || r))
    assoc true b r = refl
    assoc false b r = refl

same_any : (sizes : List (List ℕ × ℕ)) (all vs : List dump.Variable) (digits : ℕ) → ((t : List ℕ) → number_at t sizes ≡ room_of all t) → any_within sizes digits vs ≡ list_any (λ v. is_within (room_of all v.id) digits) vs
same_any sizes all [] digits h = refl
same_any sizes all (v ∷ vs) digits h = ap (λ o. is_within o digits || any_within sizes digits vs) (h v.id) ∙ ap (λ b. is_within (room_of all v.id) digits || b) (same_any sizes all vs digits h)

pub Most-all : (sizes : List (List ℕ × ℕ)) (vs : List Variable) (at : ℕ) (most : Option ℕ) → Most sizes vs at most → at ≡ length vs → (all : List dump.Variable)
    → ((t : List ℕ) → number_at t sizes ≡ room_of all t) → all ≡ map plain_variable vs → (digits : ℕ) → is_within most digits ≡ some_room all digits
Most-all sizes vs at most s e all h is digits =
    sym (or_none (is_within most digits)) ∙ (sym (ap (λ x. is_within most digits || any_within sizes digits x) (ap (λ k. plain_from k vs) e ∙ plain_all vs))
    ∙ (s.rooms digits ∙ (ap (any_within sizes digits) (sym is) ∙ same_any sizes all all digits h)))
  where
    or_none : (b : Bool) → (b || false) ≡ b
    or_none true = refl
    or_none false = refl
