-- A file with marks at its exact bytes reads as its text with the same marks.
use Rattle.std.proofs.Common.{ℕ, zero, suc, ◌≡◌, ◌+◌, ◌≤◌, ◌<◌, ◌==◌, ◌&&◌, List, [], ◌∷◌, ◌++◌, length, take, drop, get_or, Bool, true, false, refl, ap, ◌∙◌, sym, subst, arith, inl, inr, append_assoc, ◌⊎◌}
use Rattle.std.specs.List.{prefix_len}
use Rattle.std.proofs.lemmas.Bool.{cases_Bool, or_cases, or_parts, and_parts, and_left, both_ways}
use Rattle.std.proofs.lemmas.Bool.Decides.{nat_tests}
use Rattle.std.proofs.lemmas.List.{drop-drop, length-take-le, take_more, append-nil}
use Rattle.std.proofs.lemmas.List.Sums.{prefix_len-le-length}
use Rattle.rr_directive.specs.declared.piece.Kind.TheVariants as kind
use Rattle.rr_directive.specs.Bytes.{begins, is, is_letter, is_printable, is_space, past}
use Rattle.rr_directive.specs.Pieces.{Piece, TextUnit, bare, begins_with, piece}
use Rattle.rr_directive.specs.Expand.{Each, Last, Event, Meets, State, bytes_of, is_exact, is_on, origins_of, own}
use Rattle.rr_directive.proofs.Plain.{some_size}
use Rattle.rr_edit.specs.Edits.{is_single}
use Rattle.rr_lift.proofs.Ahead.{Ahead, Letters, is_nameless}
use Rattle.rr_lift.proofs.Exacts.{closed_has, escaped_meets, is_open, made, made_append, made_own, made_same, nameless_off, plain_meets, plain_off}
use Rattle.rr_lift.proofs.Marks.{Comments, Kept, Marking, Marks, Near, Still, ahead, begins_append, calm, drop_next, is_marked, marked, marked_byte, marked_split, marked_still, near, near_keeps, some, still_byte, texts_begin}
use Rattle.rr_lift.proofs.Onward.{escaped_piece, holds, line_piece, plain_piece}
use Rattle.rr_lift.proofs.Puts.{before_blank, byte, name, one_byte, single, slash_and, texts_go}
use Rattle.rr_lift.proofs.Readings.{ReadsBytes, few_taken, first_unit, has, has_append, over, reads_has, unit, unit_has}
use Rattle.rr_lift.proofs.Runs.{run_ends, some_run}
use Rattle.rr_lift.proofs.Steps.{Follows, follows_none, passed_unit, same_unit}

-- from a place on marks stand at exact bytes alone
abbrev pub Touched : Marking → ℕ → List Event → Type 0
Touched m at events = (o : ℕ) → at ≤ o → is_marked m o ≡ true → has o (origins_of events) ≡ true

touched_later : (m : Marking) (s t : State) (at b : ℕ) (bs : List ℕ) (its later : List Event) → Meets s (first_unit at (b ∷ bs)) its t → Touched m at (its ++ later) → Touched m (at + (piece (b ∷ bs)).size) later
touched_later m s t at b bs its later k h o l g = elim (or_cases (has o (origins_of its)) (has o (origins_of later)) (sym (has_append o its later) ∙ h o (omega (arith, l)) g)) [
  | inl x ↦ let y = unit_has s t at b bs its o k x in absurd (omega (arith, y.1, l))
  | inr x ↦ x
]

-- a mark in a unit stands at one of its exact bytes
touched_here : (m : Marking) (t r : State) (at n : ℕ) (bs : List ℕ) (its later : List Event) → ReadsBytes t (at + n) bs later r → Touched m at (its ++ later) →
    (o : ℕ) → at ≤ o → o < at + n → is_marked m o ≡ true → has o (origins_of its) ≡ true
touched_here m t r at n bs its later k h o l u g = elim (or_cases (has o (origins_of its)) (has o (origins_of later)) (sym (has_append o its later) ∙ h o l g)) [
  | inl x ↦ x
  | inr x ↦ let y : at + n ≤ o = reads_has t r (at + n) bs later o k x in absurd (omega (arith, y, u))
]

closed_still : (m : Marking) (s t r : State) (at b : ℕ) (bs : List ℕ) (its later : List Event) → Meets s (first_unit at (b ∷ bs)) its t → is_open s (first_unit at (b ∷ bs)) ≡ false →
    ReadsBytes t (at + (piece (b ∷ bs)).size) (drop (piece (b ∷ bs)).size (b ∷ bs)) later r → Touched m at (its ++ later) → Still m at (at + (piece (b ∷ bs)).size)
closed_still m s t r at b bs its later k c rest h o l u = elim (cases_Bool (is_marked m o)) [
  | inl g ↦
      let x = touched_here m t r at (piece (b ∷ bs)).size (drop (piece (b ∷ bs)).size (b ∷ bs)) its later rest h o l u g in
      absurd (both_ways (has o (origins_of its)) (closed_has s t (first_unit at (b ∷ bs)) its o k c) x)
  | inr g ↦ g
]

-- ---- what stands behind a unit

no_pair : (b : ℕ) → begins_with 47 47 (b ∷ []) ≡ true → begins_with 47 47 [] ≡ true
unfolding begins_with
no_pair b h = let k = and_parts (b == 47) false h in absurd (cc)

nothing_begins : begins_with 47 47 [] ≡ true → begins_with 47 47 [] ≡ false
unfolding begins_with
nothing_begins h = refl

pair_alone : (b c : ℕ) (bs : List ℕ) → begins_with 47 47 (b ∷ (c ∷ bs)) ≡ true → begins_with 47 47 (b ∷ (c ∷ [])) ≡ true
unfolding begins_with
pair_alone b c bs h = h

comment_closed : (s : State) (at b c : ℕ) (bs : List ℕ) → begins_with 47 47 (b ∷ (c ∷ bs)) ≡ true → is_open s (first_unit at (b ∷ (c ∷ bs))) ≡ false
unfolding is_single
comment_closed s at b c bs h = let p = line_piece b c bs (pair_alone b c bs h) in and_left _ _ (ap (λ (q : Piece). is_single q.kind) p)

comments : (m : Marking) (s r : State) (at : ℕ) (bs : List ℕ) (events : List Event) → ReadsBytes s at bs events r → Touched m at events → Comments m at bs
comments m s r at bs events (over s0 at0) h p = absurd (both_ways (begins_with 47 47 []) (nothing_begins p) p)
comments m s r at bs events (unit s0 t r0 at0 b [] its later k rest) h p = let q = no_pair b p in absurd (both_ways (begins_with 47 47 []) (nothing_begins q) q)
comments m s r at bs events (unit s0 t r0 at0 b (c ∷ cs) its later k rest) h p =
    let still = closed_still m s t r at b (c ∷ cs) its later k (comment_closed s at b c cs p) rest h in
    let size = ap (λ (q : Piece). q.size) (line_piece b c cs (pair_alone b c cs p)) in
    (still at (omega arith) (omega (arith, size)), still (at + 1) (omega arith) (omega (arith, size)))

space_or_not : (b : ℕ) → is_space b ≡ true → (b ≡ 32) ⊎ (b ≡ 9)
space_or_not b h = elim (or_cases (b == 32) (b == 9) h) [
  | inl x ↦ inl (grind (arith, nat_tests))
  | inr x ↦ inr (grind (arith, nat_tests))
]

space_piece : (b : ℕ) (bs : List ℕ) → is_space b ≡ true → piece (b ∷ bs) ≡ bare kind.Plain 1
space_piece b bs h = elim (space_or_not b h) [
  | inl e ↦ subst (λ (c : ℕ). piece (c ∷ bs) ≡ bare kind.Plain 1) (sym e) (plain_piece 32 bs refl refl refl refl)
  | inr e ↦ subst (λ (c : ℕ). piece (c ∷ bs) ≡ bare kind.Plain 1) (sym e) (plain_piece 9 bs refl refl refl refl)
]

past_space : (b : ℕ) (bs : List ℕ) → is_space b ≡ true → past is_space (b ∷ bs) ≡ past is_space bs
past_space b bs h = let e : 1 + prefix_len is_space bs ≡ suc (prefix_len is_space bs) = omega arith in rw (h, e) refl

past_dark : (b : ℕ) (bs : List ℕ) → is_space b ≡ false → past is_space (b ∷ bs) ≡ b ∷ bs
past_dark b bs h = rw h refl

off_closed : (s : State) (u : TextUnit) → is_on s.branches ≡ false → is_open s u ≡ false
off_closed s u h = elim (cases_Bool (is_single u.piece.kind)) [
  | inl t ↦ rw (t, h) refl
  | inr t ↦ rw t refl
]

off_letters : (m : Marking) (s r : State) (at : ℕ) (bs : List ℕ) (events : List Event) → ReadsBytes s at bs events r → is_on s.branches ≡ false → Touched m at events → Letters bs (marked m at bs)
off_letters m s r at bs events (over s0 at0) o h x = x
off_letters m s r at bs events (unit s0 t r0 at0 b cs its later k rest) o h x =
    let still = closed_still m s t r at b cs its later k (off_closed s (first_unit at (b ∷ cs)) o) rest h in
    let here : marked_byte m at b ≡ b ∷ [] = still_byte m at b (still at (omega arith) (omega (arith, some_size (b ∷ cs)))) in
    elim (cases_Bool (is_space b)) [
      | inl y ↦
          let p : piece (b ∷ cs) ≡ bare kind.Plain 1 = space_piece b cs y in
          let e : t ≡ s = plain_off s t (first_unit at (b ∷ cs)) its k (ap (λ (q : Piece). q.kind) p) o in
          let n : (piece (b ∷ cs)).size ≡ 1 = ap (λ (q : Piece). q.size) p in
          let g : Letters (drop (piece (b ∷ cs)).size (b ∷ cs)) (marked m (at + (piece (b ∷ cs)).size) (drop (piece (b ∷ cs)).size (b ∷ cs))) =
          off_letters m t r (at + (piece (b ∷ cs)).size) (drop (piece (b ∷ cs)).size (b ∷ cs)) later rest (ap (λ (v : State). is_on v.branches) e ∙ o) (touched_later m s t at b cs its later k h) in
          let g2 : Letters cs (marked m (at + 1) cs) = subst (λ (i : ℕ). Letters (drop i (b ∷ cs)) (marked m (at + i) (drop i (b ∷ cs)))) n g in
          let x2 : begins is_letter (past is_space cs) ≡ false = ap (begins is_letter) (sym (past_space b cs y)) ∙ x in
          rw here (ap (begins is_letter) (past_space b (marked m (at + 1) cs) y) ∙ g2 x2)
      | inr y ↦
          let x2 : is_letter b ≡ false = ap (begins is_letter) (sym (past_dark b cs y)) ∙ x in
          rw here (ap (begins is_letter) (past_dark b (marked m (at + 1) cs) y) ∙ x2)
    ]

-- ---- a unit without marks

still_front : (m : Marking) (n at : ℕ) (bs : List ℕ) → Still m at (at + n) → marked m at bs ≡ take n bs ++ marked m (at + n) (drop n bs)
still_front m n at bs h =
    marked_split m n at bs ∙ ap (λ (xs : List ℕ). xs ++ marked m (at + n) (drop n bs)) (marked_still m at (take n bs) (λ o l u. h o l (omega (arith, u, few_taken n bs))))

still_last : (m : Marking) (at n : ℕ) → 1 ≤ n → Still m at (at + n) → Kept m (at + n)
still_last m at n l h p e = (or_parts (m.gone p) (some (m.put p)) (h p (omega (arith, l, e)) (omega (arith, e)))).0

dropped : (n at : ℕ) (file bs : List ℕ) → drop at file ≡ bs → drop (at + n) file ≡ drop n bs
dropped n at file bs e = sym (drop-drop n at file) ∙ ap (drop n) e

closed_case : (file : List ℕ) (m : Marking) (s t r : State) (at new b : ℕ) (bs : List ℕ) (its later : List Event) → Marks file m → drop at file ≡ b ∷ bs → Meets s (first_unit at (b ∷ bs)) its t →
    is_open s (first_unit at (b ∷ bs)) ≡ false → ReadsBytes t (at + (piece (b ∷ bs)).size) (drop (piece (b ∷ bs)).size (b ∷ bs)) later r → Touched m at (its ++ later) →
    Follows t r (at + (piece (b ∷ bs)).size) (drop (piece (b ∷ bs)).size (b ∷ bs)) (new + (piece (b ∷ bs)).size) (marked m (at + (piece (b ∷ bs)).size) (drop (piece (b ∷ bs)).size (b ∷ bs))) (made m later) →
    Follows s r at (b ∷ bs) new (marked m at (b ∷ bs)) (made m (its ++ later))
closed_case file m s t r at new b bs its later k e met c rest h f =
    let n : ℕ = (piece (b ∷ bs)).size in
    let xs : List ℕ = drop n (b ∷ bs) in
    let ws : List ℕ = marked m (at + n) xs in
    let still = closed_still m s t r at b bs its later met c rest h in
    let tail = touched_later m s t at b bs its later met h in
    let front : Ahead xs ws = ahead file m (at + n) xs k (dropped n at file (b ∷ bs) e) (still_last m at n (some_size (b ∷ bs)) still) (comments m t r (at + n) xs later rest tail) in
    let letters : is_nameless (piece (b ∷ bs)) ≡ true → Letters xs ws = λ y.
    let z = nameless_off s t (first_unit at (b ∷ bs)) its met y in off_letters m t r (at + n) xs later rest (ap (λ (v : State). is_on v.branches) z.1 ∙ z.0) tail in
    let same = holds b bs ws front letters in
    let g = same_unit s t r at new b bs ws (made m later) its same (some_size (b ∷ bs)) front.end met f in
    let text : bytes_of its ++ made m later ≡ made m (its ++ later) =
    ap (λ (zs : List ℕ). zs ++ made m later) (sym (made_same m its (λ o. closed_has s t (first_unit at (b ∷ bs)) its o met c))) ∙ sym (made_append m its later) in
    subst (λ (zs : List ℕ). Follows s r at (b ∷ bs) new zs (made m (its ++ later))) (sym (still_front m n at (b ∷ bs) still)) (subst (Follows s r at (b ∷ bs) new (take n (b ∷ bs) ++ ws)) text g)

-- ---- a byte that is read

blank_put : (file : List ℕ) (m : Marking) (o : ℕ) (ws : List ℕ) → Marks file m → some (m.put o) ≡ true → begins (is 32) (m.put o ++ ws) ≡ true
blank_put file m o ws k h = begins_append (is 32) (m.put o) ws (texts_begin (m.put o) (k.texts o) h)

no_put : (xs : List ℕ) → some xs ≡ false → xs ≡ []
no_put [] h = refl
no_put (x ∷ xs) h = absurd (cc)

kept_here : (m : Marking) (at : ℕ) → m.gone at ≡ false → Kept m (at + 1)
kept_here m at h p e = let q : p ≡ at = omega (arith, e) in ap m.gone q ∙ h

both_false : (t x y : Bool) → (t && x) ≡ false → (x ≡ false → y ≡ false) → (t && y) ≡ false
both_false true x y h f = f h
both_false false x y h f = refl

plain_stays : (file : List ℕ) (m : Marking) (at b : ℕ) (bs : List ℕ) → Marks file m → drop at file ≡ b ∷ bs → m.gone at ≡ false → (b == 47 && begins (is 47) bs) ≡ false → (b == 47 && begins (is 42) bs) ≡ false →
    (b == 92 && begins is_printable bs) ≡ false → (b == 96 && begins is_letter bs) ≡ false → piece (b ∷ (m.put at ++ marked m (at + 1) bs)) ≡ bare kind.Plain 1
plain_stays file m at b bs k e g x y z t = elim (cases_Bool (some (m.put at))) [
  | inl h ↦ before_blank b (m.put at ++ marked m (at + 1) bs) (blank_put file m at (marked m (at + 1) bs) k h)
  | inr h ↦
      let ws : List ℕ = marked m (at + 1) bs in
      let n : Near bs ws = near file m (at + 1) bs k (drop_next file bs at b e) (kept_here m at g) in
      rw (no_put (m.put at) h)
      (plain_piece b ws (both_false (b == 47) (begins (is 47) bs) (begins (is 47) ws) x (near_keeps (is 47) bs ws refl n)) (both_false (b == 47) (begins (is 42) bs) (begins (is 42) ws) y (near_keeps (is 42) bs ws refl n))
      (both_false (b == 92) (begins is_printable bs) (begins is_printable ws) z (near_keeps is_printable bs ws refl n)) (both_false (b == 96) (begins is_letter bs) (begins is_letter ws) t (near_keeps is_letter bs ws refl n)))
]

plain_case : (file : List ℕ) (m : Marking) (s r : State) (at new b : ℕ) (bs text : List ℕ) → Marks file m → drop at file ≡ b ∷ bs → is_on s.branches ≡ true →
    (b == 47 && begins (is 47) bs) ≡ false → (b == 47 && begins (is 42) bs) ≡ false → (b == 92 && begins is_printable bs) ≡ false → (b == 96 && begins is_letter bs) ≡ false →
    ((i : ℕ) → Follows s r (at + 1) bs i (marked m (at + 1) bs) text) → Follows s r at (b ∷ bs) new (marked m at (b ∷ bs)) (marked_byte m at b ++ text)
unfolding is_single
plain_case file m s r at new b bs text k e o x y z t f =
    let p : piece (b ∷ bs) ≡ bare kind.Plain 1 = plain_piece b bs x y z t in
    let n : (piece (b ∷ bs)).size ≡ 1 = ap (λ (q : Piece). q.size) p in
    let ws : List ℕ = marked m (at + 1) bs in
    let pass : (vs us : List ℕ) → Follows s r (at + 1) bs new vs us → Follows s r at (b ∷ bs) new vs us = λ vs us g.
    passed_unit s r at new b bs vs us (ap (λ (q : Piece). is_single q.kind) p) (subst (λ (i : ℕ). Follows s r (at + i) (drop i (b ∷ bs)) new vs us) (sym n) g) in
    elim (cases_Bool (m.gone at)) [
      | inl g ↦ rw g (pass (m.put at ++ ws) (m.put at ++ text) (texts_go (m.put at) s r (at + 1) new bs ws text (k.texts at) o (f (new + length (m.put at)))))
      | inr g ↦
          let puts = texts_go (m.put at) s r (at + 1) (new + 1) bs ws text (k.texts at) o (f (new + 1 + length (m.put at))) in
          rw g (pass (b ∷ (m.put at ++ ws)) (b ∷ (m.put at ++ text)) (one_byte s r (at + 1) new bs b (m.put at ++ ws) (m.put at ++ text) (plain_stays file m at b bs k e g x y z t) o puts))
    ]

-- ---- an escaped name that is read

marked_push : (m : Marking) (at : ℕ) (bs : List ℕ) (z : ℕ) → marked m at (bs ++ (z ∷ [])) ≡ marked m at bs ++ marked_byte m (at + length bs) z
marked_push m at [] z = let e : at ≡ at + 0 = omega arith in append-nil (marked_byte m at z) ∙ ap (λ (i : ℕ). marked_byte m i z) e
marked_push m at (b ∷ bs) z =
    let e : at + 1 + length bs ≡ at + suc (length bs) = omega arith in
    ap (λ (xs : List ℕ). marked_byte m at b ++ xs) (marked_push m (at + 1) bs z ∙ ap (λ (i : ℕ). marked m (at + 1) bs ++ marked_byte m i z) e) ∙
    sym (append_assoc (marked_byte m at b) (marked m (at + 1) bs) (marked_byte m (at + suc (length bs)) z))

not_blank_begins : (ws : List ℕ) → begins (is 32) ws ≡ true → begins is_printable ws ≡ false
not_blank_begins [] h = absurd (cc)
not_blank_begins (w ∷ ws) h = let e : w ≡ 32 = grind (arith, nat_tests) in ap is_printable e

-- behind the last byte of an escaped name nothing printable stands
name_ends : (file : List ℕ) (m : Marking) (o : ℕ) (xs : List ℕ) → Marks file m → drop (o + 1) file ≡ xs → begins is_printable xs ≡ false → begins is_printable (m.put o ++ marked m (o + 1) xs) ≡ false
name_ends file m o xs k e h = elim (cases_Bool (some (m.put o))) [
  | inl p ↦ not_blank_begins (m.put o ++ marked m (o + 1) xs) (blank_put file m o (marked m (o + 1) xs) k p)
  | inr p ↦ rw (no_put (m.put o) p) (elim (cases_Bool (m.gone o)) [
    | inl g ↦ not_blank_begins (marked m (o + 1) xs) (calm file m (o + 1) xs k e (k.on o g (no_put (m.put o) p)))
    | inr g ↦ near_keeps is_printable xs (marked m (o + 1) xs) refl (near file m (o + 1) xs k e (kept_here m o g)) h
  ])
]

-- the name's bytes but the last, with the last and its marks
name_marked : (m : Marking) (at j : ℕ) (cs : List ℕ) → Still m at (at + suc j) → j < length cs →
    marked m at (92 ∷ take (suc j) cs) ≡ 92 ∷ (take j cs ++ marked_byte m (at + suc j) (get_or cs j 0))
name_marked m at j cs h l =
    let z : ℕ = get_or cs j 0 in
    let n : length (take j cs) ≡ j = length-take-le j cs (omega arith) in
    let e : j + 1 ≡ suc j = omega arith in
    let t : take (suc j) cs ≡ take j cs ++ (z ∷ []) = ap (λ (i : ℕ). take i cs) (sym e) ∙ take_more cs j 0 l in
    let q : at + suc (length (take j cs)) ≡ at + suc j = ap (λ (i : ℕ). at + suc i) n in
    ap (λ (xs : List ℕ). marked m at (92 ∷ xs)) t ∙ (marked_push m at (92 ∷ take j cs) z ∙ (ap (λ (i : ℕ). marked m at (92 ∷ take j cs) ++ marked_byte m i z) q ∙
    ap (λ (xs : List ℕ). xs ++ marked_byte m (at + suc j) z) (marked_still m at (92 ∷ take j cs) (λ o a u. h o a (omega (arith, u, n))))))

escaped_goes : (file : List ℕ) (m : Marking) (s r : State) (at new j : ℕ) (cs text : List ℕ) → Marks file m → drop (at + suc j + 1) file ≡ drop (suc j) cs → is_on s.branches ≡ true →
    prefix_len is_printable cs ≡ suc j → ((i : ℕ) → Follows s r (at + suc j + 1) (drop (suc j) cs) i (marked m (at + suc j + 1) (drop (suc j) cs)) text) →
    Follows s r (at + suc j + 1) (drop (suc j) cs) new (92 ∷ (take j cs ++ (marked_byte m (at + suc j) (get_or cs j 0) ++ marked m (at + suc j + 1) (drop (suc j) cs))))
    (92 ∷ (take j cs ++ (marked_byte m (at + suc j) (get_or cs j 0) ++ text)))
escaped_goes file m s r at new j cs text k e o l f =
    let p : ℕ = at + suc j in
    let z : ℕ = get_or cs j 0 in
    let xs : List ℕ = drop (suc j) cs in
    let ws : List ℕ = marked m (p + 1) xs in
    let behind : begins is_printable xs ≡ false = subst (λ (i : ℕ). begins is_printable (drop i cs) ≡ false) l (run_ends is_printable cs) in
    let ends : begins is_printable (m.put p ++ ws) ≡ false = name_ends file m p xs k e behind in
    let puts : (i : ℕ) → Follows s r (p + 1) xs i (m.put p ++ ws) (m.put p ++ text) = λ i. texts_go (m.put p) s r (p + 1) i xs ws text (k.texts p) o (f (i + length (m.put p))) in
    elim (cases_Bool (m.gone p)) [
      | inl g ↦ rw g (slash_and s r (p + 1) new xs j cs (m.put p ++ ws) (m.put p ++ text) (omega (arith, l)) ends o (puts (new + suc j)))
      | inr g ↦
          let u : j < length cs = omega (arith, l, prefix_len-le-length is_printable cs) in
          let d : j + 1 ≡ suc j = omega arith in
          let t : take (suc j) cs ≡ take j cs ++ (z ∷ []) = ap (λ (i : ℕ). take i cs) (sym d) ∙ take_more cs j 0 u in
          let a : (vs : List ℕ) → take (suc j) cs ++ vs ≡ take j cs ++ (z ∷ vs) = λ vs. ap (λ (ys : List ℕ). ys ++ vs) t ∙ append_assoc (take j cs) (z ∷ []) vs in
          let v = slash_and s r (p + 1) new xs (suc j) cs (m.put p ++ ws) (m.put p ++ text) (omega (arith, l)) ends o (puts (new + suc (suc j))) in
          rw g (rw (a (m.put p ++ ws), a (m.put p ++ text)) at v)
    ]

last_has : (at : ℕ) (bs : List ℕ) (o : ℕ) → has o (origins_of (own Last at bs)) ≡ true → o + 1 ≡ at + length bs
unfolding own origins_of is_exact
last_has at [] o h = absurd (cc)
last_has at (b ∷ []) o h = elim (or_cases (at == o) false h) [
  | inl x ↦ let e : at ≡ o = grind (arith, nat_tests) in omega (arith, e)
  | inr x ↦ absurd (cc)
]
last_has at (b ∷ (c ∷ bs)) o h = let i = last_has (at + 1) (c ∷ bs) o h in omega (arith, i)

escaped_case : (file : List ℕ) (m : Marking) (s r : State) (at new : ℕ) (cs : List ℕ) (later : List Event) → Marks file m → drop at file ≡ 92 ∷ cs → is_on s.branches ≡ true → begins is_printable cs ≡ true →
    ((o : ℕ) → at ≤ o → o < at + (1 + prefix_len is_printable cs) → is_marked m o ≡ true → has o (origins_of (own Last at (take (1 + prefix_len is_printable cs) (92 ∷ cs)))) ≡ true) →
    ((i : ℕ) → Follows s r (at + (1 + prefix_len is_printable cs)) (drop (1 + prefix_len is_printable cs) (92 ∷ cs)) i (marked m (at + (1 + prefix_len is_printable cs)) (drop (1 + prefix_len is_printable cs) (92 ∷ cs))) (made m later)) →
    Follows s r at (92 ∷ cs) new (marked m at (92 ∷ cs)) (made m (own Last at (take (1 + prefix_len is_printable cs) (92 ∷ cs)) ++ later))
unfolding is_single
escaped_case file m s r at new cs later k e o b h f = go (prefix_len is_printable cs) refl (some_run is_printable cs b) h f
  where
    go : (n : ℕ) → prefix_len is_printable cs ≡ n → 1 ≤ n → ((p : ℕ) → at ≤ p → p < at + (1 + n) → is_marked m p ≡ true → has p (origins_of (own Last at (take (1 + n) (92 ∷ cs)))) ≡ true) →
        ((i : ℕ) → Follows s r (at + (1 + n)) (drop (1 + n) (92 ∷ cs)) i (marked m (at + (1 + n)) (drop (1 + n) (92 ∷ cs))) (made m later)) →
        Follows s r at (92 ∷ cs) new (marked m at (92 ∷ cs)) (made m (own Last at (take (1 + n) (92 ∷ cs)) ++ later))
    go zero l some2 h2 g = absurd (omega (arith, some2))
    go (suc j) l some2 h2 g =
        let n : 1 + suc j ≡ suc (suc j) = omega arith in
        let p : ℕ = at + suc j in
        let z : ℕ = get_or cs j 0 in
        let q : at + (1 + suc j) ≡ p + 1 = omega arith in
        let xs : List ℕ = drop (suc j) cs in
        let ws : List ℕ = marked m (p + 1) xs in
        let text : List ℕ = made m later in
        let u : j < length cs = omega (arith, l, prefix_len-le-length is_printable cs) in
        let its : List ℕ = 92 ∷ take (suc j) cs in
        let t : take (1 + suc j) (92 ∷ cs) ≡ its = ap (λ (i : ℕ). take i (92 ∷ cs)) n in
        let d : drop (1 + suc j) (92 ∷ cs) ≡ xs = ap (λ (i : ℕ). drop i (92 ∷ cs)) n in
        let len : length its ≡ suc (suc j) = ap suc (length-take-le (suc j) cs (omega (arith, u))) in
        let h3 : (i : ℕ) → at ≤ i → i < at + length its → is_marked m i ≡ true → has i (origins_of (own Last at its)) ≡ true = λ i a v w. rw t at (h2 i a (omega (arith, v, len)) w) in
        let still : Still m at p = λ i a v. not_marked i a v h3 len in
        let g2 : (i : ℕ) → Follows s r (p + 1) xs i ws text = rw (q, d) at g in
        let there : drop (p + 1) file ≡ xs = ap (λ (i : ℕ). drop i file) (sym q) ∙ (sym (drop-drop (1 + suc j) at file) ∙ (ap (drop (1 + suc j)) e ∙ d)) in
        let body = escaped_goes file m s r at new j cs text k there o l g2 in
        let mine : marked m at its ≡ 92 ∷ (take j cs ++ marked_byte m p z) = name_marked m at j cs still u in
        let whole : marked m at (92 ∷ cs) ≡ 92 ∷ (take j cs ++ (marked_byte m p z ++ ws)) =
        marked_split m (suc (suc j)) at (92 ∷ cs) ∙ (ap (λ (i : ℕ). marked m at its ++ marked m i xs) (omega arith) ∙ (ap (λ (ys : List ℕ). ys ++ ws) mine ∙ ap (λ (ys : List ℕ). 92 ∷ ys) (append_assoc (take j cs) (marked_byte m p z) ws))) in
        let given : made m (own Last at (take (1 + suc j) (92 ∷ cs)) ++ later) ≡ 92 ∷ (take j cs ++ (marked_byte m p z ++ text)) =
        ap (λ (ys : List ℕ). made m (own Last at ys ++ later)) t ∙ (made_append m (own Last at its) later ∙ (ap (λ (ys : List ℕ). ys ++ text) (made_own m Last at its h3 ∙ mine) ∙
        ap (λ (ys : List ℕ). 92 ∷ ys) (append_assoc (take j cs) (marked_byte m p z) text))) in
        let kinds : piece (92 ∷ cs) ≡ bare kind.Escaped (suc (suc j)) = escaped_piece cs b ∙ ap (λ (i : ℕ). bare kind.Escaped i) (omega (arith, l)) in
        let size : (piece (92 ∷ cs)).size ≡ suc (suc j) = ap (λ (y : Piece). y.size) kinds in
        let from : at + suc (suc j) ≡ p + 1 = omega arith in
        let body2 : Follows s r (at + (piece (92 ∷ cs)).size) (drop (piece (92 ∷ cs)).size (92 ∷ cs)) new (92 ∷ (take j cs ++ (marked_byte m p z ++ ws))) (92 ∷ (take j cs ++ (marked_byte m p z ++ text))) =
        rw (size, from) body in
        rw (whole, given) (passed_unit s r at new 92 cs (92 ∷ (take j cs ++ (marked_byte m p z ++ ws))) (92 ∷ (take j cs ++ (marked_byte m p z ++ text))) (ap (λ (y : Piece). is_single y.kind) kinds) body2)
      where
        not_marked : (i : ℕ) → at ≤ i → i < at + suc j → ((i2 : ℕ) → at ≤ i2 → i2 < at + length (92 ∷ take (suc j) cs) → is_marked m i2 ≡ true → has i2 (origins_of (own Last at (92 ∷ take (suc j) cs))) ≡ true) →
            length (92 ∷ take (suc j) cs) ≡ suc (suc j) → is_marked m i ≡ false
        not_marked i a v h3 len = elim (cases_Bool (is_marked m i)) [
          | inl w ↦ let x = last_has at (92 ∷ take (suc j) cs) i (h3 i a (omega (arith, v, len)) w) in absurd (omega (arith, x, v, len))
          | inr w ↦ w
        ]

-- ---- all units

made_none : (m : Marking) → made m [] ≡ []
unfolding made
made_none m = refl

open_parts : (s : State) (at b : ℕ) (bs : List ℕ) → is_open s (first_unit at (b ∷ bs)) ≡ true → (is_single (piece (b ∷ bs)).kind ≡ true) × (is_on s.branches ≡ true)
open_parts s at b bs h = and_parts (is_single (piece (b ∷ bs)).kind) (is_on s.branches) h

own_byte : (m : Marking) (at b : ℕ) (later : List Event) → made m (own Each at (b ∷ []) ++ later) ≡ marked_byte m at b ++ made m later
unfolding made own is_exact
own_byte m at b later = refl

-- an escaped name, of which the first byte is \
abbrev Escapes : (List ℕ) → Marking → State → State → ℕ → ℕ → List ℕ → List Event → ℕ → Type 0
Escapes file m s r at new cs later b =
    drop at file ≡ b ∷ cs →
    ((o : ℕ) → at ≤ o → o < at + (1 + prefix_len is_printable cs) → is_marked m o ≡ true → has o (origins_of (own Last at (take (1 + prefix_len is_printable cs) (b ∷ cs)))) ≡ true) →
    ((i : ℕ) → Follows s r (at + (1 + prefix_len is_printable cs)) (drop (1 + prefix_len is_printable cs) (b ∷ cs)) i (marked m (at + (1 + prefix_len is_printable cs)) (drop (1 + prefix_len is_printable cs) (b ∷ cs))) (made m later)) →
    Follows s r at (b ∷ cs) new (marked m at (b ∷ cs)) (made m (own Last at (take (1 + prefix_len is_printable cs) (b ∷ cs)) ++ later))

name_case : (file : List ℕ) (m : Marking) (s t r : State) (at new b : ℕ) (cs : List ℕ) (its later : List Event) → Marks file m → drop at file ≡ b ∷ cs → Meets s (first_unit at (b ∷ cs)) its t →
    ReadsBytes t (at + (piece (b ∷ cs)).size) (drop (piece (b ∷ cs)).size (b ∷ cs)) later r → Touched m at (its ++ later) → is_on s.branches ≡ true → b ≡ 92 → begins is_printable cs ≡ true →
    ((i : ℕ) → Follows t r (at + (piece (b ∷ cs)).size) (drop (piece (b ∷ cs)).size (b ∷ cs)) i (marked m (at + (piece (b ∷ cs)).size) (drop (piece (b ∷ cs)).size (b ∷ cs))) (made m later)) →
    Follows s r at (b ∷ cs) new (marked m at (b ∷ cs)) (made m (its ++ later))
name_case file m s t r at new b cs its later k e met rest h o x y f =
    let l : ℕ = 1 + prefix_len is_printable cs in
    let z : piece (b ∷ cs) ≡ bare kind.Escaped l = subst (λ (c : ℕ). piece (c ∷ cs) ≡ bare kind.Escaped l) (sym x) (escaped_piece cs y) in
    let n : (piece (b ∷ cs)).size ≡ l = ap (λ (w : Piece). w.size) z in
    let i = escaped_meets s t (first_unit at (b ∷ cs)) its met (ap (λ (w : Piece). w.kind) z) o in
    let a : its ≡ own Last at (take l (b ∷ cs)) = i.0 ∙ ap (λ (w : ℕ). own Last at (take w (b ∷ cs))) n in
    let here : (p : ℕ) → at ≤ p → p < at + (piece (b ∷ cs)).size → is_marked m p ≡ true → has p (origins_of its) ≡ true = touched_here m t r at (piece (b ∷ cs)).size (drop (piece (b ∷ cs)).size (b ∷ cs)) its later rest h in
    let here2 : (p : ℕ) → at ≤ p → p < at + l → is_marked m p ≡ true → has p (origins_of (own Last at (take l (b ∷ cs)))) ≡ true =
    λ p u v w. ap (λ (es : List Event). has p (origins_of es)) (sym a) ∙ here p u (omega (arith, v, n)) w in
    let g : (j : ℕ) → Follows s r (at + l) (drop l (b ∷ cs)) j (marked m (at + l) (drop l (b ∷ cs))) (made m later) = λ j.
    subst (λ (w : State). Follows w r (at + l) (drop l (b ∷ cs)) j (marked m (at + l) (drop l (b ∷ cs))) (made m later)) i.1
    (subst (λ (w : ℕ). Follows t r (at + w) (drop w (b ∷ cs)) j (marked m (at + w) (drop w (b ∷ cs))) (made m later)) n (f j)) in
    let c : Escapes file m s r at new cs later b = subst (Escapes file m s r at new cs later) (sym x) (λ u v w. escaped_case file m s r at new cs later k u o y v w) in
    subst (λ (es : List Event). Follows s r at (b ∷ cs) new (marked m at (b ∷ cs)) (made m (es ++ later))) (sym a) (c e here2 g)

-- marks at exact bytes are read as such
pub lifts_reading : (file : List ℕ) (m : Marking) (s r : State) (at : ℕ) (bs : List ℕ) (events : List Event) → Marks file m → ReadsBytes s at bs events r → drop at file ≡ bs → Touched m at events →
    (new : ℕ) → Follows s r at bs new (marked m at bs) (made m events)
lifts_reading file m s r at bs events k (over s0 at0) e h new = subst (Follows s s at [] new []) (sym (made_none m)) (follows_none s at new)
lifts_reading file m s r at bs events k (unit s0 t r0 at0 b cs its later met rest) e h new =
    let n : ℕ = (piece (b ∷ cs)).size in
    let f : (i : ℕ) → Follows t r (at + n) (drop n (b ∷ cs)) i (marked m (at + n) (drop n (b ∷ cs))) (made m later) =
    lifts_reading file m t r (at + n) (drop n (b ∷ cs)) later k rest (dropped n at file (b ∷ cs) e) (touched_later m s t at b cs its later met h) in
    elim (cases_Bool (is_open s (first_unit at (b ∷ cs)))) [
      | inl o ↦
          let p = open_parts s at b cs o in
          elim (single b cs p.0) [
            | byte x y z v ↦
                let q : piece (b ∷ cs) ≡ bare kind.Plain 1 = plain_piece b cs x y z v in
                let i = plain_meets s t (first_unit at (b ∷ cs)) its met (ap (λ (w : Piece). w.kind) q) p.1 in
                let l : n ≡ 1 = ap (λ (w : Piece). w.size) q in
                let g : (j : ℕ) → Follows s r (at + 1) cs j (marked m (at + 1) cs) (made m later) = λ j.
                subst (λ (w : State). Follows w r (at + 1) cs j (marked m (at + 1) cs) (made m later)) i.1 (subst (λ (w : ℕ). Follows t r (at + w) (drop w (b ∷ cs)) j (marked m (at + w) (drop w (b ∷ cs))) (made m later)) l (f j)) in
                let a : its ≡ own Each at (b ∷ []) = i.0 ∙ ap (λ (w : ℕ). own Each at (take w (b ∷ cs))) l in
                let c : made m (its ++ later) ≡ marked_byte m at b ++ made m later = ap (λ (w : List Event). made m (w ++ later)) a ∙ own_byte m at b later in
                subst (Follows s r at (b ∷ cs) new (marked m at (b ∷ cs))) (sym c) (plain_case file m s r at new b cs (made m later) k e p.1 x y z v g)
            | name x y ↦ name_case file m s t r at new b cs its later k e met rest h p.1 x y f
          ]
      | inr o ↦ closed_case file m s t r at new b cs its later k e met o rest h (f (new + n))
    ]
