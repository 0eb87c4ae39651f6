-- The room of an identifier is that of all its variables.
use Rattle.std.proofs.Common.{◌≡◌, ℕ, ◌≤◌, min, Bool, true, false, not, ◌&&◌, ◌||◌, List, [], ◌∷◌, ◌++◌, Option, Some, None, refl, sym, ◌∙◌, ap, subst, arith, nat_le, if◌then◌else◌, cond}
use Rattle.std.specs.List.{list_all, list_any}
use Rattle.std.specs.Str.{bytes_eq}
use Rattle.std.proofs.lemmas.Bool.Decides.{nat_tests}
use Rattle.std.proofs.lemmas.Slice.Eq.{bytes_eq-Decides}
use Rattle.rr_vcd_text.specs.Dump.{Variable, is_declared, has_room}
use Rattle.rr_vcd_text.specs.Rooms.{narrowed, room_from, room_of, is_within, some_room}

pub and_left : (a b : Bool) → (a && b) ≡ true → a ≡ true
and_left true b e = refl
and_left false b e = e

pub and_right : (a b : Bool) → (a && b) ≡ true → b ≡ true
and_right true b e = e
and_right false b e = cc

pub and_both : {a b : Bool} → a ≡ true → b ≡ true → (a && b) ≡ true
and_both p q = rw (p, q) refl

le_min : (n a b : ℕ) → nat_le n (min a b) ≡ (nat_le n a && nat_le n b)
le_min n a b = grind (arith, nat_tests)

narrower : (n a b : ℕ) (r : Bool) → (nat_le n (min a b) && r) ≡ (nat_le n a && (nat_le n b && r))
narrower n a b r = rw le_min (assoc (nat_le n a) (nat_le n b) r)
  where
    assoc : (x y z : Bool) → ((x && y) && z) ≡ (x && (y && z))
    assoc true y z = refl
    assoc false y z = refl

within_some : (id : List ℕ) (n : ℕ) (vs : List Variable) (room : ℕ) → is_within (room_from (Some room) id vs) n ≡ (nat_le n room && has_room vs id n)
unfolding room_from
within_some id n [] room = sym (and_true (nat_le n room))
  where
    and_true : (x : Bool) → (x && true) ≡ x
    and_true true = refl
    and_true false = refl
within_some id n (v ∷ vs) room = go (bytes_eq id v.id) (within_some id n vs (min room v.size)) (within_some id n vs room)
  where
    go : (b : Bool) → is_within (room_from (Some (min room v.size)) id vs) n ≡ (nat_le n (min room v.size) && has_room vs id n)
        → is_within (room_from (Some room) id vs) n ≡ (nat_le n room && has_room vs id n)
        → is_within (room_from (if b then Some (min room v.size) else Some room) id vs) n ≡ (nat_le n room && ((not b || nat_le n v.size) && has_room vs id n))
    go true p q = p ∙ narrower n room v.size (has_room vs id n)
    go false p q = q

-- an identifier has room exactly where it is declared, and each of its variables has
pub within_is : (id : List ℕ) (n : ℕ) (vs : List Variable) → is_within (room_of vs id) n ≡ (is_declared vs id && has_room vs id n)
unfolding room_from
within_is id n [] = refl
within_is id n (v ∷ vs) = go (bytes_eq id v.id) (within_is id n vs)
  where
    go : (b : Bool) → is_within (room_of vs id) n ≡ (is_declared vs id && has_room vs id n) → is_within (room_from (if b then Some v.size else None) id vs) n ≡ ((b || is_declared vs id) && ((not b || nat_le n v.size) && has_room vs id n))
    go true p = within_some id n vs v.size
    go false p = p

pub same_bytes : (a b : List ℕ) → bytes_eq a b ≡ true → a ≡ b
same_bytes a b e = (bytes_eq-Decides a b).0 e

pub bytes_same : (a b : List ℕ) → a ≡ b → bytes_eq a b ≡ true
bytes_same a b e = (bytes_eq-Decides a b).1 e

some_in : (us vs : List Variable) (id : List ℕ) (n : ℕ) → list_any (λ v. bytes_eq id v.id) us ≡ true → is_within (room_of vs id) n ≡ true
    → list_any (λ v. is_within (room_of vs v.id) n) us ≡ true
some_in [] vs id n any fits = any
some_in (u ∷ us) vs id n any fits = go (bytes_eq id u.id) refl any (λ e. some_in us vs id n e fits)
  where
    go : (b : Bool) → bytes_eq id u.id ≡ b → (b || list_any (λ v. bytes_eq id v.id) us) ≡ true
        → (list_any (λ v. bytes_eq id v.id) us ≡ true → list_any (λ v. is_within (room_of vs v.id) n) us ≡ true)
        → (is_within (room_of vs u.id) n || list_any (λ v. is_within (room_of vs v.id) n) us) ≡ true
    go true h e rec = rw (ap (λ x. is_within (room_of vs x) n) (sym (same_bytes id u.id h)) ∙ fits) refl
    go false h e rec = or_right (is_within (room_of vs u.id) n) (rec e)
      where
        or_right : (x : Bool) → list_any (λ v. is_within (room_of vs v.id) n) us ≡ true → (x || list_any (λ v. is_within (room_of vs v.id) n) us) ≡ true
        or_right true q = refl
        or_right false q = q

-- an identifier with room
pub record HasRoom (vs : List Variable) (id : List ℕ) (n : ℕ) : Type 0 where
  pub declared : is_declared vs id ≡ true
  pub room : has_room vs id n ≡ true

pub within_room : (vs : List Variable) (id : List ℕ) (n : ℕ) → is_within (room_of vs id) n ≡ true → HasRoom vs id n
within_room vs id n e = let p : (is_declared vs id && has_room vs id n) ≡ true = sym (within_is id n vs) ∙ e in record {
  declared = and_left (is_declared vs id) (has_room vs id n) p;
  room = and_right (is_declared vs id) (has_room vs id n) p;
}

pub room_within : (vs : List Variable) (id : List ℕ) (n : ℕ) → is_declared vs id ≡ true → has_room vs id n ≡ true → is_within (room_of vs id) n ≡ true
room_within vs id n d r = within_is id n vs ∙ and_both d r

pub some_has : (vs : List Variable) (id : List ℕ) (n : ℕ) → is_declared vs id ≡ true → has_room vs id n ≡ true → some_room vs n ≡ true
some_has vs id n d r = some_in vs vs id n d (room_within vs id n d r)

-- no digits have room in every variable
pub none_fit : (vs : List Variable) (id : List ℕ) → has_room vs id 0 ≡ true
none_fit [] id = refl
none_fit (v ∷ vs) id = go (bytes_eq id v.id) (none_fit vs id)
  where
    go : (b : Bool) → has_room vs id 0 ≡ true → ((not b || nat_le 0 v.size) && has_room vs id 0) ≡ true
    go true e = let z : nat_le 0 v.size ≡ true = grind (arith, nat_tests) in and_both z e
    go false e = e

-- where some identifier has room, here is one
pub record SomeRoom (vs : List Variable) (n : ℕ) : Type 0 where
  pub id : List ℕ
  pub has : HasRoom vs id n

one_in : (us vs : List Variable) (n : ℕ) → list_any (λ v. is_within (room_of vs v.id) n) us ≡ true → SomeRoom vs n
one_in [] vs n e = cc
one_in (u ∷ us) vs n e = go (is_within (room_of vs u.id) n) refl e (one_in us vs n)
  where
    go : (b : Bool) → is_within (room_of vs u.id) n ≡ b → (b || list_any (λ v. is_within (room_of vs v.id) n) us) ≡ true
        → (list_any (λ v. is_within (room_of vs v.id) n) us ≡ true → SomeRoom vs n) → SomeRoom vs n
    go true h q rec = record { id = u.id; has = within_room vs u.id n h }
    go false h q rec = rec q

pub some_one : (vs : List Variable) (n : ℕ) → some_room vs n ≡ true → SomeRoom vs n
some_one vs n e = one_in vs vs n e
