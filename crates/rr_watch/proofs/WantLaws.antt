-- clauses that want a watch, and their places and names
use Rattle.std.proofs.Common.{◌≡◌, ◌⊎◌, inl, inr, ℕ, ◌+◌, ◌<◌, ◌≤◌, ◌||◌, Bool, true, false, cond, eqb, List, [], ◌∷◌, ◌++◌, length, set, refl, sym, ◌∙◌, ap, arith}
use Rattle.std.specs.Prelude.{All, Contains}
use Rattle.std.proofs.lemmas.List.{length-map, get_or-map}
use Rattle.std.proofs.lemmas.List.Elements.{All-contains}
use Rattle.std.proofs.lemmas.List.Sums.{sum_by-set, sum_by_push}
use Rattle.std.proofs.lemmas.Bool.{eq-eqb, ne_eqb}
use Rattle.rr_cnf.specs.Clauses.{Literal}
use Rattle.rr_cnf.specs.Codes.{code_of, same_code}
use Rattle.rr_watch.specs.Watches.{Named, bare}
use Rattle.rr_watch_lists.specs.Numbers.{Numbered}
use Rattle.rr_watch_lists.specs.Holdings.{Held, all_numbered, held_at, numbered}
use Rattle.rr_watch_lists.specs.Lists.{has}
use Rattle.rr_watch_lists.proofs.ListLaws.{bit, bit_le}
use Rattle.rr_watch.specs.Lists.{first_of, second_of, wants, wanted}

-- clauses that want a watch
cond_first : (a b : Bool) (x y : ℕ) → (a ≡ true) ⊎ (b ≡ true) → cond (a || b) x y ≡ x
cond_first true b x y h = refl
cond_first false true x y h = refl
cond_first false false x y (inl h) = (let z : false ≡ true = h in cc)
cond_first false false x y (inr h) = (let z : false ≡ true = h in cc)

cond_second : (a b : Bool) (x y : ℕ) → a ≡ false → b ≡ false → cond (a || b) x y ≡ y
cond_second true b x y h k = (let z : true ≡ false = h in cc)
cond_second false true x y h k = (let z : true ≡ false = k in cc)
cond_second false false x y h k = refl

cond_least : (a : Bool) (y : ℕ) → cond a 0 y ≤ y
cond_least true y = omega arith
cond_least false y = omega arith

module _ (c : ℕ) (h : Held) where
  pub wants_watched : (code_of (first_of h) ≡ c) ⊎ (code_of (second_of h) ≡ c) → wants c h ≡ 0
  wants_watched w = cond_first (eqb (code_of (first_of h)) c) (eqb (code_of (second_of h)) c) 0 (bit (has h.clause c)) (elim w [ inl e ↦ inl (eq-eqb (code_of (first_of h)) c e) | inr e ↦ inr (eq-eqb (code_of (second_of h)) c e) ])

  pub wants_unwatched : (code_of (first_of h) ≡ c → ⊥) → (code_of (second_of h) ≡ c → ⊥) → wants c h ≡ bit (has h.clause c)
  wants_unwatched p q = cond_second (eqb (code_of (first_of h)) c) (eqb (code_of (second_of h)) c) 0 (bit (has h.clause c)) (ne_eqb (code_of (first_of h)) c p) (ne_eqb (code_of (second_of h)) c q)

  pub wants_least : wants c h ≤ bit (has h.clause c)
  wants_least = cond_least (eqb (code_of (first_of h)) c || eqb (code_of (second_of h)) c) (bit (has h.clause c))

  pub wants_few : wants c h ≤ 1
  wants_few = omega (arith, wants_least, bit_le (has h.clause c))

pub wanted_set : (hs : List Held) (i c : ℕ) (h : Held) → i < length hs → wanted (set hs i h) c + wants c (held_at hs i) ≡ wanted hs c + wants c h
wanted_set hs i c h b = sum_by-set (wants c) hs i h _ b

pub wanted_push : (hs : List Held) (c : ℕ) (h : Held) → wanted (hs ++ h ∷ []) c ≡ wanted hs c + wants c h
wanted_push hs c h = sum_by_push (wants c) hs h

-- places and names of clauses
pub named_at : (hs : List Held) (k : ℕ) → k < length hs → Named (all_numbered hs) (held_at hs k).id (held_at hs k).clause
named_at hs k b = (k, omega (arith, length-map hs numbered), get_or-map numbered hs k _ (numbered (held_at hs k)) b)

pub named_place : (hs : List Held) (id : ℕ) (c : List Literal) → Named (all_numbered hs) id c → (k : ℕ) × ((k < length hs) × ((held_at hs k).id ≡ id) × ((held_at hs k).clause ≡ c))
named_place hs id c m =
    let b : m.0 < length hs = omega (arith, length-map hs numbered, m.1) in
    let e : numbered (held_at hs m.0) ≡ record { id = id; clause = c } = sym (get_or-map numbered hs m.0 _ (record { id = id; clause = c }) b) ∙ m.2 in
    (m.0, (b, ap (λ n. n.id) e, ap (λ n. n.clause) e))

pub bare_place : (hs : List Held) (c : List Literal) → Contains (bare (all_numbered hs)) c → (k : ℕ) × ((k < length hs) × ((held_at hs k).clause ≡ c))
bare_place hs c m =
    let b : m.0 < length (all_numbered hs) = omega (arith, length-map (all_numbered hs) (λ (n : Numbered). n.clause), m.1) in
    let b2 : m.0 < length hs = omega (arith, length-map hs numbered) in
    let e : (numbered (held_at hs m.0)).clause ≡ c = sym (ap (λ n. n.clause) (get_or-map numbered hs m.0 _ (record { id = 0; clause = [] }) b2)) ∙ sym (get_or-map (λ (n : Numbered). n.clause) (all_numbered hs) m.0 _ c b) ∙ m.2 in
    (m.0, (b2, e))

pub ids_below : (hs : List Held) (n k : ℕ) → All (λ x. x.id < n) (all_numbered hs) → k < length hs → (held_at hs k).id < n
ids_below hs n k a b = All-contains (λ x. x.id < n) (all_numbered hs) (numbered (held_at hs k)) a (named_at hs k b)

pub code_same : (l m : Literal) → code_of l ≡ code_of m → (l ≡ m → ⊥) → ⊥
code_same l m e n = n (same_code l m e)
