-- A file in which bytes are dropped and texts are put behind bytes.
use Rattle.std.proofs.Common.{ℕ, zero, suc, ◌≡◌, ◌+◌, ◌≤◌, ◌<◌, List, [], ◌∷◌, ◌++◌, length, drop, take, Bool, true, false, ◌&&◌, ◌||◌, ◌==◌, if◌then◌else◌, refl, ap, ◌∙◌, sym, subst, arith, inl, inr, append_assoc, ◌⊎◌}
use Rattle.std.proofs.lemmas.Bool.{cases_Bool, and_parts, or_parts, or_cases, both_ways}
use Rattle.std.proofs.lemmas.Bool.Decides.{nat_tests}
use Rattle.std.proofs.lemmas.List.{length-drop}
use Rattle.rr_directive.specs.Bytes.{begins, is, is_in_line, is_letter, is_name_byte, is_printable}
use Rattle.rr_directive.specs.Pieces.{begins_with, ends_line}
use Rattle.rr_edit.specs.Edits.{IsPut}
use Rattle.rr_lift.proofs.Ahead.{Ahead, Stop, line, return, slashes, stops}

-- which bytes are dropped, and what is put behind each
pub record Marking : Type 0 where
  pub gone : ℕ → Bool
  pub put : ℕ → List ℕ

abbrev pub some : List ℕ → Bool
some [] = false
some (b ∷ bs) = true

abbrev pub is_marked : Marking → ℕ → Bool
is_marked m at = m.gone at || some (m.put at)

abbrev pub marked_byte : Marking → ℕ → ℕ → List ℕ
marked_byte m at b = (if m.gone at then [] else b ∷ []) ++ m.put at

-- the bytes from a place on, marked so
abbrev pub marked : Marking → ℕ → List ℕ → List ℕ
marked m at [] = []
marked m at (b ∷ bs) = marked_byte m at b ++ marked m (at + 1) bs

pub marked_split : (m : Marking) (n at : ℕ) (bs : List ℕ) → marked m at bs ≡ marked m at (take n bs) ++ marked m (at + n) (drop n bs)
marked_split m zero at bs = let e : at ≡ at + 0 = omega arith in ap (λ (i : ℕ). marked m i bs) e
marked_split m (suc n) at [] = refl
marked_split m (suc n) at (b ∷ bs) =
    let e : at + 1 + n ≡ at + suc n = omega arith in
    let i : marked m (at + 1) bs ≡ marked m (at + 1) (take n bs) ++ marked m (at + suc n) (drop n bs) =
    marked_split m n (at + 1) bs ∙ ap (λ (j : ℕ). marked m (at + 1) (take n bs) ++ marked m j (drop n bs)) e in
    ap (λ (xs : List ℕ). marked_byte m at b ++ xs) i ∙ sym (append_assoc (marked_byte m at b) (marked m (at + 1) (take n bs)) (marked m (at + suc n) (drop n bs)))

-- no mark stands from a place up to another
abbrev pub Still : Marking → ℕ → ℕ → Type 0
Still m at end = (o : ℕ) → at ≤ o → o < end → is_marked m o ≡ false

some_not : (xs : List ℕ) → some xs ≡ false → xs ≡ []
some_not [] h = refl
some_not (x ∷ xs) h = absurd (cc)

pub still_byte : (m : Marking) (at b : ℕ) → is_marked m at ≡ false → marked_byte m at b ≡ b ∷ []
still_byte m at b h = let p = or_parts (m.gone at) (some (m.put at)) h in let e = some_not (m.put at) p.1 in rw (p.0, e) refl

pub marked_still : (m : Marking) (at : ℕ) (bs : List ℕ) → Still m at (at + length bs) → marked m at bs ≡ bs
marked_still m at [] h = refl
marked_still m at (b ∷ bs) h =
    let i : marked m (at + 1) bs ≡ bs = marked_still m (at + 1) bs (λ o l k. h o (omega arith) (omega arith)) in
    rw (still_byte m at b (h at (omega arith) (omega arith)), i) refl

-- ---- marks that edits make

-- texts that may be put, one behind the other
pub data Texts : List ℕ → Type 0 where
  no_text : Texts []
  put_text : (t ts : List ℕ) → IsPut t → Texts ts → Texts (t ++ ts)

pub record Marks (file : List ℕ) (m : Marking) : Type 0 where
  pub short : (o : ℕ) → m.gone o ≡ true → o < length file
  pub on : (o : ℕ) → m.gone o ≡ true → m.put o ≡ [] → m.gone (o + 1) ≡ true
  pub first : (o : ℕ) → m.gone o ≡ true → (begins is_printable (drop o file) ≡ true) ⊎ ((p : ℕ) × ((o ≡ p + 1) × (m.gone p ≡ true)))
  pub last : (o : ℕ) → some (m.put o) ≡ true → begins is_printable (drop o file) ≡ true
  pub texts : (o : ℕ) → Texts (m.put o)

pub begins_append : (p : ℕ → Bool) (xs ys : List ℕ) → begins p xs ≡ true → begins p (xs ++ ys) ≡ true
begins_append p [] ys h = absurd (cc)
begins_append p (x ∷ xs) ys h = h

pub texts_begin : (xs : List ℕ) → Texts xs → some xs ≡ true → begins (is 32) xs ≡ true
texts_begin xs no_text h = absurd (cc)
texts_begin xs (put_text t ts p s) h = begins_append (is 32) t ts p.first

-- the bytes after a place of the file
pub drop_next : (file bs : List ℕ) (at b : ℕ) → drop at file ≡ b ∷ bs → drop (at + 1) file ≡ bs
drop_next [] bs at b e = absurd (nothing_there at e)
  where
    nothing_there : (k : ℕ) → drop k [] ≡ b ∷ bs → ⊥
    nothing_there zero e = cc
    nothing_there (suc k) e = cc
drop_next (c ∷ cs) bs zero b e = cc
drop_next (c ∷ cs) bs (suc at) b e = let n : suc at + 1 ≡ suc (at + 1) = omega arith in rw n (drop_next cs bs at b e)

some_there : (file bs : List ℕ) (at : ℕ) → drop at file ≡ bs → at < length file → 1 ≤ length bs
some_there file bs at e l = let k : length (drop at file) ≡ length bs = ap length e in omega (arith, length-drop at file, k)

-- what begins with a dropped byte begins with a blank
pub calm : (file : List ℕ) (m : Marking) (at : ℕ) (bs : List ℕ) → Marks file m → drop at file ≡ bs → m.gone at ≡ true → begins (is 32) (marked m at bs) ≡ true
calm file m at [] k e g = let l : 1 ≤ zero = some_there file [] at e (k.short at g) in absurd (omega (arith, l))
calm file m at (b ∷ bs) k e g = elim (cases_Bool (some (m.put at))) [
  | inl h ↦ rw g (begins_append (is 32) (m.put at) (marked m (at + 1) bs) (texts_begin (m.put at) (k.texts at) h))
  | inr h ↦
      let n : m.put at ≡ [] = some_not (m.put at) h in
      rw (g, n) (calm file m (at + 1) bs k (drop_next file bs at b e) (k.on at g n))
]

-- ---- behind a byte that is not dropped

-- the bytes behind it, and these with marks
pub data Near : List ℕ → List ℕ → Type 0 where
  neither : Near [] []
  same : (c : ℕ) (xs ws : List ℕ) → Near (c ∷ xs) (c ∷ ws)
  blank : (c : ℕ) (xs ws : List ℕ) → is_printable c ≡ true → Near (c ∷ xs) (32 ∷ ws)

-- the byte before a place is not dropped
abbrev pub Kept : Marking → ℕ → Type 0
Kept m at = (p : ℕ) → at ≡ p + 1 → m.gone p ≡ false

blank_near : (c : ℕ) (xs ws : List ℕ) → is_printable c ≡ true → begins (is 32) ws ≡ true → Near (c ∷ xs) ws
blank_near c xs [] p h = absurd (cc)
blank_near c xs (w ∷ ws) p h = let e : w ≡ 32 = grind (arith, nat_tests) in subst (λ (v : ℕ). Near (c ∷ xs) (v ∷ ws)) (sym e) (blank c xs ws p)

-- a dropped byte behind a kept one is printable
first_dropped : (file : List ℕ) (m : Marking) (at : ℕ) (c : ℕ) (bs : List ℕ) → Marks file m → drop at file ≡ c ∷ bs → Kept m at → m.gone at ≡ true → is_printable c ≡ true
first_dropped file m at c bs k e f g = elim (k.first at g) [
  | inl p ↦ let q : begins is_printable (c ∷ bs) ≡ true = rw e at p in q
  | inr p ↦ let x : m.gone p.0 ≡ false = f p.0 p.1.0 in absurd (both_ways (m.gone p.0) x p.1.1)
]

pub near : (file : List ℕ) (m : Marking) (at : ℕ) (bs : List ℕ) → Marks file m → drop at file ≡ bs → Kept m at → Near bs (marked m at bs)
near file m at [] k e f = neither
near file m at (b ∷ bs) k e f = elim (cases_Bool (m.gone at)) [
  | inl g ↦ blank_near b bs (marked m at (b ∷ bs)) (first_dropped file m at b bs k e f g) (calm file m at (b ∷ bs) k e g)
  | inr g ↦ rw g (same b bs (m.put at ++ marked m (at + 1) bs))
]

pub near_keeps : (p : ℕ → Bool) (xs ws : List ℕ) → p 32 ≡ false → Near xs ws → begins p xs ≡ false → begins p ws ≡ false
near_keeps p xs ws h neither b = b
near_keeps p xs ws h (same c ys vs) b = b
near_keeps p xs ws h (blank c ys vs q) b = h

printable_in_line : (c : ℕ) → is_printable c ≡ true → is_in_line c ≡ true
printable_in_line c h = elim (cases_Bool (c == 10)) [
  | inl t ↦
      let e : c ≡ 10 = grind (arith, nat_tests) in
      let k : is_printable 10 ≡ true = subst (λ (d : ℕ). is_printable d ≡ true) e h in absurd (cc)
  | inr f ↦ rw f refl
]

near_line : (xs ws : List ℕ) → Near xs ws → begins is_in_line xs ≡ false → begins is_in_line ws ≡ false
near_line xs ws neither b = b
near_line xs ws (same c ys vs) b = b
near_line xs ws (blank c ys vs q) b = absurd (both_ways (is_in_line c) b (printable_in_line c q))

near_end : (xs ws : List ℕ) → Near xs ws → xs ≡ [] → ws ≡ []
near_end xs ws neither b = refl
near_end xs ws (same c ys vs) b = absurd (cc)
near_end xs ws (blank c ys vs q) b = absurd (cc)

-- where it stops a defined text it does so with its marks too, if no mark stands in a comment
not_printable : (c d : ℕ) → c ≡ d → is_printable d ≡ false → is_printable c ≡ true → ⊥
not_printable c d e h k = both_ways (is_printable c) (ap is_printable e ∙ h) k

equal_bytes : (a b : ℕ) → (a == b) ≡ true → a ≡ b
equal_bytes a b h = grind (arith, nat_tests)

-- a byte that is no printable one, behind one that is kept, has no mark
unprintable : (file : List ℕ) (m : Marking) (at c d : ℕ) (bs : List ℕ) → Marks file m → drop at file ≡ c ∷ bs → Kept m at → c ≡ d → is_printable d ≡ false → is_marked m at ≡ false
unprintable file m at c d bs k e f q h = elim (cases_Bool (m.gone at)) [
  | inl g ↦ absurd (not_printable c d q h (first_dropped file m at c bs k e f g))
  | inr g ↦ elim (cases_Bool (some (m.put at))) [
    | inl s ↦ let p : begins is_printable (c ∷ bs) ≡ true = rw e at (k.last at s) in absurd (not_printable c d q h p)
    | inr s ↦ rw (g, s) refl
  ]
]

still_kept : (m : Marking) (at : ℕ) → is_marked m at ≡ false → Kept m (at + 1)
still_kept m at h p e = let q : p ≡ at = omega (arith, e) in subst (λ (i : ℕ). m.gone i ≡ false) (sym q) (or_parts (m.gone at) (some (m.put at)) h).0

two_still : (m : Marking) (at c d : ℕ) (bs : List ℕ) → is_marked m at ≡ false → is_marked m (at + 1) ≡ false → marked m at (c ∷ (d ∷ bs)) ≡ c ∷ (d ∷ marked m (at + 1 + 1) bs)
two_still m at c d bs h g = rw (still_byte m at c h, still_byte m (at + 1) d g) refl

-- a comment has no mark at its first two bytes
abbrev pub Comments : Marking → ℕ → List ℕ → Type 0
Comments m at bs = begins_with 47 47 bs ≡ true → (is_marked m at ≡ false) × (is_marked m (at + 1) ≡ false)

stop_two : (file : List ℕ) (m : Marking) (at c d : ℕ) (bs : List ℕ) → Marks file m → drop at file ≡ c ∷ (d ∷ bs) → Kept m at → Comments m at (c ∷ (d ∷ bs)) →
    ((c == 10 || (c == 13 && d == 10)) || (c == 47 && d == 47)) ≡ true → Stop (c ∷ (d ∷ bs)) (marked m at (c ∷ (d ∷ bs)))
unfolding begins_with
stop_two file m at c d bs k e f g h = elim (or_cases (c == 10 || (c == 13 && d == 10)) (c == 47 && d == 47) h) [
  | inl a ↦ elim (or_cases (c == 10) (c == 13 && d == 10) a) [
    | inl x ↦
        let q : c ≡ 10 = equal_bytes c 10 x in
        let u = unprintable file m at c 10 (d ∷ bs) k e f q refl in
        rw (still_byte m at c u, q) (line (d ∷ bs) (marked m (at + 1) (d ∷ bs)))
    | inr x ↦
        let z = and_parts (c == 13) (d == 10) x in
        let q : c ≡ 13 = equal_bytes c 13 z.0 in
        let r : d ≡ 10 = equal_bytes d 10 z.1 in
        let u = unprintable file m at c 13 (d ∷ bs) k e f q refl in
        let v = unprintable file m (at + 1) d 10 bs k (drop_next file (d ∷ bs) at c e) (still_kept m at u) r refl in
        rw (two_still m at c d bs u v, q, r) (return bs (marked m (at + 1 + 1) bs))
  ]
  | inr a ↦
      let z = and_parts (c == 47) (d == 47) a in
      let u = g a in
      rw (two_still m at c d bs u.0 u.1, equal_bytes c 47 z.0, equal_bytes d 47 z.1) (slashes bs (marked m (at + 1 + 1) bs))
]

stop_one : (file : List ℕ) (m : Marking) (at c : ℕ) → Marks file m → drop at file ≡ c ∷ [] → Kept m at → (c == 10) ≡ true → Stop (c ∷ []) (marked m at (c ∷ []))
stop_one file m at c k e f x =
    let q : c ≡ 10 = equal_bytes c 10 x in
    let u = unprintable file m at c 10 [] k e f q refl in
    rw (still_byte m at c u, q) (line [] [])

one_stops : (c : ℕ) → stops (c ∷ []) ≡ true → (c == 10) ≡ true
unfolding ends_line begins_with
one_stops c h = elim (cases_Bool (c == 10)) [
  | inl t ↦ t
  | inr f ↦ elim (or_cases (c == 10 || (c == 13 && false)) (c == 47 && false) h) [
    | inl a ↦ elim (or_cases (c == 10) (c == 13 && false) a) [
      | inl x ↦ x
      | inr x ↦ let z = and_parts (c == 13) false x in absurd (cc)
    ]
    | inr a ↦ let z = and_parts (c == 47) false a in absurd (cc)
  ]
]

two_stop : (c d : ℕ) (bs : List ℕ) → stops (c ∷ (d ∷ bs)) ≡ true → ((c == 10 || (c == 13 && d == 10)) || (c == 47 && d == 47)) ≡ true
unfolding ends_line begins_with
two_stop c d bs h = h

none_stop : stops [] ≡ true → ⊥
unfolding ends_line begins_with
none_stop h = cc

near_stop : (file : List ℕ) (m : Marking) (at : ℕ) (bs : List ℕ) → Marks file m → drop at file ≡ bs → Kept m at → Comments m at bs → stops bs ≡ true → Stop bs (marked m at bs)
near_stop file m at [] k e f g h = absurd (none_stop h)
near_stop file m at (c ∷ []) k e f g h = stop_one file m at c k e f (one_stops c h)
near_stop file m at (c ∷ (d ∷ bs)) k e f g h = stop_two file m at c d bs k e f g (two_stop c d bs h)

-- nothing begins behind a kept byte that did not
pub ahead : (file : List ℕ) (m : Marking) (at : ℕ) (bs : List ℕ) → Marks file m → drop at file ≡ bs → Kept m at → Comments m at bs → Ahead bs (marked m at bs)
ahead file m at bs k e f g =
    let ws : List ℕ = marked m at bs in
    let n : Near bs ws = near file m at bs k e f in
    record {
      name = near_keeps is_name_byte bs ws refl n;
      in_line = near_line bs ws n;
      printable = near_keeps is_printable bs ws refl n;
      letter = near_keeps is_letter bs ws refl n;
      slash = near_keeps (is 47) bs ws refl n;
      star = near_keeps (is 42) bs ws refl n;
      end = near_end bs ws n;
      stop = near_stop file m at bs k e f g;
    }
