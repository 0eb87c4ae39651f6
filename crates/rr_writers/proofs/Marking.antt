-- Numbers put piece by piece.
use Rattle.std.proofs.Common.{◌≡◌, ◌∙◌, sym, ap, subst, ℕ, zero, suc, ◌+◌, ◌<◌, ◌≤◌, ◌⊎◌, inl, inr, Bool, true, false, cond, not, ◌&&◌, ◌||◌, List, [], ◌∷◌, ◌++◌, length, get_or, take, drop, Option, None, Some, nat_eq, nat_lt, refl, arith, ℤ, pos, ◌+ℤ◌, append-nil}
use Rattle.std.proofs.lemmas.Bool.{or_cases, eqb-true, eq-eqb, ne_eqb, cases_eq, cases_lt, lt-ltb, le-ltb}
use Rattle.std.proofs.lemmas.Int.{ints}
use Rattle.rr_expr.specs.declared.types.Bit.{Bit}
use Rattle.rr_flat.specs.Targets.{same_bit, has_bit}
use Rattle.rr_named_bits.specs.declared.piece.Piece.{Piece}
use Rattle.rr_named_bits.specs.declared.piece.Reach.{Reach}
use Rattle.rr_named_bits.specs.declared.writes.Write.{Write}
use Rattle.rr_named_bits.specs.Lists.{covered, may, reaches}
use Rattle.rr_named_bits.specs.Pieces.{bit_in, bits_in, bits_of, all_bits, covers}
use Rattle.rr_named_bits.proofs.Growing.{all_bits-push, covered-push}
use Rattle.rr_named_bits.proofs.Runs.{bit_is, has_in, covers_in}
use Rattle.rr_writers.specs.Marks.{is_free, times, SetMarked, IsTaken, ListMarked, IsTwice}
use Rattle.rr_writers.proofs.Entries.{same_is}
use Rattle.rr_writers.proofs.Counts.{times-append, has_times, no_times}
use Rattle.rr_writers.proofs.Elements.{taken_next, split_at, take_all, element}
use Rattle.rr_writers.proofs.Reaching.{or_true, word_piece, first_words, no_words, next_word, within_words, covered_more}

-- a bit stands once in a run

not_later : (at : ℤ) (n m k : ℕ) → at ≡ pos m → (at +ℤ pos 1) +ℤ pos k ≡ pos m → ⊥
not_later at n m k e h = grind (arith, ints)

once_in : (p : Piece) (at : ℤ) (n : ℕ) (b : Bit) → times (bits_in p at n) b ≤ 1
unfolding bits_in times
once_in p at zero b = omega arith
once_in p at (suc n) b = go (bit_in p at) refl (once_in p (at +ℤ pos 1) n b)
  where
    go : (o : Option Bit) → bit_in p at ≡ o → times (bits_in p (at +ℤ pos 1) n) b ≤ 1 → times (o ∷ bits_in p (at +ℤ pos 1) n) b ≤ 1
    go None e r = r
    go (Some c) e r = same (same_bit c b) refl (has_bit (bits_in p (at +ℤ pos 1) n) b) refl
      where
        same : (t : Bool) → same_bit c b ≡ t → (u : Bool) → has_bit (bits_in p (at +ℤ pos 1) n) b ≡ u → cond t 1 0 + times (bits_in p (at +ℤ pos 1) n) b ≤ 1
        same false s u h = omega (arith, r)
        same true s false h = let z = no_times (bits_in p (at +ℤ pos 1) n) b h in omega (arith, z)
        same true s true h =
            let i = has_in p (at +ℤ pos 1) n b h in
            let q = (bit_is p at c e).2 ∙ ap (λ (x : Bit). pos x.place) (same_is c b s) in
            absurd (not_later at n b.place i.within.0 q i.within.2)

pub times_piece : (p : Piece) (b : Bit) → times (bits_of p) b ≡ cond (covers p b) 1 0
times_piece p b = go (covers p b) (sym (covers_in p b)) (once_in p p.from p.count b)
  where
    go : (t : Bool) → has_bit (bits_of p) b ≡ t → times (bits_of p) b ≤ 1 → times (bits_of p) b ≡ cond t 1 0
    go true h l = let r = has_times (bits_of p) b h in omega (arith, r, l)
    go false h l = no_times (bits_of p) b h

-- one bit of a piece after the other: those below a place are done

abbrev pub below : Piece → ℕ → Bit → Bool
below p place b = covers p b && nat_lt b.place place

-- a loop over the places of a piece: what it did below one
pub record PlacesMarked (again : Bool) (number : ℕ) (p : Piece) (place : ℕ) (old new : Bit → ℕ) : Type 0 where
  pub free : (b : Bit) → below p place b ≡ true → is_free again number (old b) ≡ true
  pub put : (b : Bit) → new b ≡ cond (below p place b) number (old b)

abbrev pub Ranged : Piece → ℕ → ℕ → Type 0
Ranged p low high = (b : Bit) → covers p b ≡ (nat_eq p.signal b.signal && (not (nat_lt b.place low) && nat_lt b.place high))

pub below_none : (p : Piece) (low high : ℕ) → Ranged p low high → (b : Bit) → below p low b ≡ false
below_none p low high r b = go (nat_eq p.signal b.signal) (nat_lt b.place low) (nat_lt b.place high) (r b)
  where
    go : (s l h : Bool) → covers p b ≡ (s && (not l && h)) → (covers p b && l) ≡ false
    go true true h e = rw e refl
    go true false true e = rw e refl
    go true false false e = rw e refl
    go false l h e = rw e refl

pub places_none : (again : Bool) (number : ℕ) (p : Piece) (low high : ℕ) (old : Bit → ℕ) → Ranged p low high → PlacesMarked again number p low old old
places_none again number p low high old r = record {
  free = λ b h. let bad : false ≡ true = sym (below_none p low high r b) ∙ h in cc;
  put = λ b. rw (below_none p low high r b) refl;
}

-- the bit at a place is covered
pub here_covered : (p : Piece) (low high place : ℕ) → Ranged p low high → low ≤ place → place < high → covers p (record { signal = p.signal; place = place }) ≡ true
here_covered p low high place r l h =
    r (record { signal = p.signal; place = place }) ∙ rw (eq-eqb p.signal p.signal refl, le-ltb place low l, lt-ltb place high h) refl

-- below the next place are the bit here and those below
pub below_next : (p : Piece) (low high place : ℕ) → Ranged p low high → low ≤ place → place < high → (b : Bit)
    → below p (place + 1) b ≡ (same_bit (record { signal = p.signal; place = place }) b || below p place b)
below_next p low high place r l h b = elim (cases_eq p.signal b.signal) [
  | inr n ↦ rw (ne_eqb p.signal b.signal n) refl
  | inl s ↦ elim (cases_eq place b.place) [
    | inl e ↦
        let t : nat_lt b.place low ≡ false = le-ltb b.place low (omega arith) in
        let u : nat_lt b.place high ≡ true = lt-ltb b.place high (omega arith) in
        let v : nat_lt b.place (place + 1) ≡ true = lt-ltb b.place (place + 1) (omega arith) in
        rw (r b, eq-eqb p.signal b.signal s, t, u, v, eq-eqb place b.place e) refl
    | inr n ↦ elim (cases_lt b.place place) [
      | inl k ↦
          let v : nat_lt b.place (place + 1) ≡ true = lt-ltb b.place (place + 1) (omega arith) in
          let w : nat_lt b.place place ≡ true = lt-ltb b.place place k in
          rw (v, w, ne_eqb place b.place n) (both (covers p b) (nat_eq p.signal b.signal))
      | inr k ↦
          let v : nat_lt b.place (place + 1) ≡ false = le-ltb b.place (place + 1) (omega arith) in
          let w : nat_lt b.place place ≡ false = le-ltb b.place place k in
          rw (v, w, ne_eqb place b.place n) (neither (covers p b) (nat_eq p.signal b.signal))
    ]
  ]
]
  where
    both : (c s : Bool) → (c && true) ≡ ((s && false) || (c && true))
    both c true = refl
    both c false = refl

    neither : (c s : Bool) → (c && false) ≡ ((s && false) || (c && false))
    neither c true = refl
    neither c false = refl

pub places_next : (again : Bool) (number : ℕ) (p : Piece) (low high place : ℕ) (old mid new : Bit → ℕ) → Ranged p low high → low ≤ place → place < high
    → PlacesMarked again number p place old mid → is_free again number (mid (record { signal = p.signal; place = place })) ≡ true
    → ((b : Bit) → new b ≡ cond (same_bit (record { signal = p.signal; place = place }) b) number (mid b)) → PlacesMarked again number p (place + 1) old new
places_next again number p low high place old mid new r l h m f g =
    let here : Bit = record { signal = p.signal; place = place } in
    record {
      free = λ b k. elim (or_cases (same_bit here b) (below p place b) (sym (below_next p low high place r l h b) ∙ k)) [
        | inl s ↦ free_here b s
        | inr t ↦ m.free b t
      ];
      put = λ b. g b ∙ rw (below_next p low high place r l h b, m.put b) (merged (same_bit here b) (below p place b) (old b));
    }
  where
    not_below : below p place (record { signal = p.signal; place = place }) ≡ false
    not_below = rw (le-ltb place place (omega arith)) (no (covers p (record { signal = p.signal; place = place })))
      where
        no : (c : Bool) → (c && false) ≡ false
        no true = refl
        no false = refl

    free_here : (b : Bit) → same_bit (record { signal = p.signal; place = place }) b ≡ true → is_free again number (old b) ≡ true
    free_here b s =
        let e : record { signal = p.signal; place = place } ≡ b = same_is (record { signal = p.signal; place = place }) b s in
        let q : mid (record { signal = p.signal; place = place }) ≡ old (record { signal = p.signal; place = place }) = m.put (record { signal = p.signal; place = place }) ∙ ap (λ z. cond z number (old (record { signal = p.signal; place = place }))) not_below in
        ap (λ (x : Bit). is_free again number (old x)) (sym e) ∙ (sym (ap (is_free again number) q) ∙ f)

    merged : (s t : Bool) (x : ℕ) → cond s number (cond t number x) ≡ cond (s || t) number x
    merged true t x = refl
    merged false t x = refl

pub below_all : (p : Piece) (low high place : ℕ) → Ranged p low high → high ≤ place → (b : Bit) → below p place b ≡ covers p b
below_all p low high place r l b = elim (cases_lt b.place high) [
  | inl k ↦ rw (lt-ltb b.place place (omega arith)) (and_true (covers p b))
  | inr k ↦ rw (r b, le-ltb b.place high k) (none (nat_eq p.signal b.signal) (nat_lt b.place low) (nat_lt b.place place))
]
  where
    and_true : (c : Bool) → (c && true) ≡ c
    and_true true = refl
    and_true false = refl

    none : (s l q : Bool) → ((s && (not l && false)) && q) ≡ (s && (not l && false))
    none true true q = refl
    none true false q = refl
    none false l q = refl

pub places_done : (again : Bool) (number : ℕ) (p : Piece) (low high place : ℕ) (old new : Bit → ℕ) → Ranged p low high → high ≤ place
    → PlacesMarked again number p place old new → SetMarked again number (covers p) old new
places_done again number p low high place old new r l m = record {
  free = λ b h. m.free b (below_all p low high place r l b ∙ h);
  put = λ b. m.put b ∙ ap (λ z. cond z number (old b)) (below_all p low high place r l b);
}

pub places_taken : (again : Bool) (number : ℕ) (p : Piece) (low high place : ℕ) (old mid : Bit → ℕ) → Ranged p low high → low ≤ place → place < high
    → PlacesMarked again number p place old mid → is_free again number (mid (record { signal = p.signal; place = place })) ≡ false
    → IsTaken again number (covers p) old mid (record { signal = p.signal; place = place })
places_taken again number p low high place old mid r l h m f =
    let here : Bit = record { signal = p.signal; place = place } in
    let z : below p place here ≡ false = rw (le-ltb place place (omega arith)) (no (covers p here)) in
    let q : mid here ≡ old here = m.put here ∙ ap (λ t. cond t number (old here)) z in
    record { has = here_covered p low high place r l h; taken = sym (ap (is_free again number) q) ∙ f; left = q }
  where
    no : (c : Bool) → (c && false) ≡ false
    no true = refl
    no false = refl

-- some pieces after the others

free_zero : (number x : ℕ) → is_free false number x ≡ true → x ≡ 0
free_zero number x h = go (nat_eq x 0) refl h
  where
    go : (t : Bool) → nat_eq x 0 ≡ t → (t || false) ≡ true → x ≡ 0
    go true e h = eqb-true x 0 e
    go false e h = cc

taken_positive : (number x : ℕ) → is_free false number x ≡ false → 0 < x
taken_positive number zero h = cc
taken_positive number (suc x) h = omega arith

times_next : (ps : List Piece) (p : Piece) (b : Bit) → times (all_bits (ps ++ p ∷ [])) b ≡ cond (covers p b) 1 0 + times (all_bits ps) b
times_next ps p b = ap (λ z. times z b) (all_bits-push ps p) ∙ (times-append (bits_of p) (all_bits ps) b ∙ ap (λ z. z + times (all_bits ps) b) (times_piece p b))

pub list_none : (number : ℕ) (old : Bit → ℕ) → ListMarked number (all_bits []) old old
unfolding all_bits times
list_none number old = record { once = λ b. omega arith; free = λ b h. absurd (omega arith); put = λ b h. absurd (omega arith); rest = λ b h. refl }

pub list_next : (number : ℕ) (ps : List Piece) (p : Piece) (old mid new : Bit → ℕ) → 0 < number → ListMarked number (all_bits ps) old mid
    → SetMarked false number (covers p) mid new → ListMarked number (all_bits (ps ++ p ∷ [])) old new
list_next number ps p old mid new above m s = record {
  once = λ b. once b (covers p b) refl;
  free = λ b h. free b (covers p b) refl h;
  put = λ b h. put b (covers p b) refl h;
  rest = λ b h. rest b (covers p b) refl h;
}
  where
    here : (b : Bit) → covers p b ≡ true → times (all_bits ps) b ≡ 0
    here b e = elim (cases_lt 0 (times (all_bits ps) b)) [
      | inl l ↦
          let z : mid b ≡ 0 = free_zero number (mid b) (s.free b e) in
          let n : mid b ≡ number = m.put b (omega arith) in
          absurd (omega arith)
      | inr l ↦ omega arith
    ]

    once : (b : Bit) (t : Bool) → covers p b ≡ t → times (all_bits (ps ++ p ∷ [])) b ≤ 1
    once b true e = rw (times_next ps p b, e) (let z = here b e in omega (arith, z))
    once b false e = rw (times_next ps p b, e) (let z = m.once b in omega (arith, z))

    free : (b : Bit) (t : Bool) → covers p b ≡ t → 1 ≤ times (all_bits (ps ++ p ∷ [])) b → old b ≡ 0
    free b true e h =
        let z : mid b ≡ 0 = free_zero number (mid b) (s.free b e) in
        sym (m.rest b (here b e)) ∙ z
    free b false e h =
        let q : times (all_bits (ps ++ p ∷ [])) b ≡ 0 + times (all_bits ps) b = times_next ps p b ∙ ap (λ z. cond z 1 0 + times (all_bits ps) b) e in
        m.free b (omega arith)

    put : (b : Bit) (t : Bool) → covers p b ≡ t → 1 ≤ times (all_bits (ps ++ p ∷ [])) b → new b ≡ number
    put b true e h = s.put b ∙ ap (λ z. cond z number (mid b)) e
    put b false e h =
        let q : times (all_bits (ps ++ p ∷ [])) b ≡ 0 + times (all_bits ps) b = times_next ps p b ∙ ap (λ z. cond z 1 0 + times (all_bits ps) b) e in
        s.put b ∙ (ap (λ z. cond z number (mid b)) e ∙ m.put b (omega arith))

    rest : (b : Bit) (t : Bool) → covers p b ≡ t → times (all_bits (ps ++ p ∷ [])) b ≡ 0 → new b ≡ old b
    rest b true e h =
        let q : times (all_bits (ps ++ p ∷ [])) b ≡ 1 + times (all_bits ps) b = times_next ps p b ∙ ap (λ z. cond z 1 0 + times (all_bits ps) b) e in
        absurd (omega arith)
    rest b false e h =
        let q : times (all_bits (ps ++ p ∷ [])) b ≡ 0 + times (all_bits ps) b = times_next ps p b ∙ ap (λ z. cond z 1 0 + times (all_bits ps) b) e in
        s.put b ∙ (ap (λ z. cond z number (mid b)) e ∙ m.rest b (omega arith))

more_times : (ps qs : List Piece) (b : Bit) → times (all_bits (ps ++ qs)) b ≡ times (all_bits qs) b + times (all_bits ps) b
unfolding all_bits times
more_times [] qs b = omega arith
more_times (p ∷ ps) qs b =
    let r = more_times ps qs b in
    let u = times-append (all_bits (ps ++ qs)) (bits_of p) b in
    let v = times-append (all_bits ps) (bits_of p) b in
    omega (arith, r, u, v)

pub list_taken : (number : ℕ) (ps : List Piece) (p : Piece) (qs : List Piece) (old mid new : Bit → ℕ) (b : Bit) → 0 < number → ListMarked number (all_bits ps) old mid
    → IsTaken false number (covers p) mid new b → IsTwice number (all_bits ((ps ++ p ∷ []) ++ qs)) old new b
list_taken number ps p qs old mid new b above m t =
    let n = times_next ps p b ∙ ap (λ z. cond z 1 0 + times (all_bits ps) b) t.has in
    let w = more_times (ps ++ p ∷ []) qs b in
    let l : 0 < mid b = taken_positive number (mid b) t.taken in
    record {
      has = omega (arith, n, w);
      taken = elim (cases_lt 0 (times (all_bits ps) b)) as (λ _. ((2 ≤ times (all_bits ((ps ++ p ∷ []) ++ qs)) b) × (new b ≡ number)) ⊎ ((0 < old b) × (new b ≡ old b))) [
        | inl k ↦ inl (omega (arith, n, w, k), t.left ∙ m.put b (omega arith))
        | inr k ↦
            let q : mid b ≡ old b = m.rest b (omega arith) in
            inr (omega arith, t.left ∙ q)
      ];
    }

-- one set after the other, where the number may stand already
pub set_both : (number : ℕ) (P Q R : Bit → Bool) (old mid new : Bit → ℕ) → ((b : Bit) → R b ≡ (P b || Q b)) → SetMarked true number P old mid → SetMarked true number Q mid new → SetMarked true number R old new
set_both number P Q R old mid new e m s = record {
  free = λ b h. elim (or_cases (P b) (Q b) (sym (e b) ∙ h)) [ inl k ↦ m.free b k | inr k ↦ late b k (P b) refl ];
  put = λ b. s.put b ∙ (ap (λ z. cond (Q b) number z) (m.put b) ∙ (merged (Q b) (P b) (old b) ∙ ap (λ z. cond z number (old b)) (sym (e b))));
}
  where
    late : (b : Bit) → Q b ≡ true → (t : Bool) → P b ≡ t → is_free true number (old b) ≡ true
    late b k true h = m.free b h
    late b k false h = ap (is_free true number) (sym (m.put b ∙ ap (λ z. cond z number (old b)) h)) ∙ s.free b k

    merged : (s t : Bool) (x : ℕ) → cond s number (cond t number x) ≡ cond (t || s) number x
    merged true true x = refl
    merged true false x = refl
    merged false true x = refl
    merged false false x = refl

pub set_hit : (number : ℕ) (P Q R : Bit → Bool) (old mid new : Bit → ℕ) (b : Bit) → (Q b ≡ true → R b ≡ true) → SetMarked true number P old mid → IsTaken true number Q mid new b → IsTaken true number R old new b
set_hit number P Q R old mid new b f m t =
    let q = unchanged (P b) refl in
    record { has = f t.has; taken = sym (ap (is_free true number) q) ∙ t.taken; left = t.left ∙ q }
  where
    itself : is_free true number number ≡ true
    itself = rw (eq-eqb number number refl) (or_true (nat_eq number 0))

    unchanged : (u : Bool) → P b ≡ u → mid b ≡ old b
    unchanged true e =
        let n : mid b ≡ number = m.put b ∙ ap (λ z. cond z number (old b)) e in
        let bad : true ≡ false = sym itself ∙ (sym (ap (is_free true number) n) ∙ t.taken) in
        cc
    unchanged false e = m.put b ∙ ap (λ z. cond z number (old b)) e

-- the words of a reach in turn

pub words_none : (number : ℕ) (r : Reach) (old : Bit → ℕ) → SetMarked true number (reaches (first_words r 0)) old old
words_none number r old = record {
  free = λ b h. let bad : false ≡ true = sym (no_words r b) ∙ h in cc;
  put = λ b. sym (ap (λ z. cond z number (old b)) (no_words r b));
}

pub words_next : (number : ℕ) (r : Reach) (k : ℕ) (p : Piece) (old mid new : Bit → ℕ) → p ≡ word_piece r k → SetMarked true number (reaches (first_words r k)) old mid → SetMarked true number (covers p) mid new
    → SetMarked true number (reaches (first_words r (k + 1))) old new
words_next number r k p old mid new e m s =
    let F : Piece → Type 0 = λ z. SetMarked true number (covers z) mid new in
    set_both number (reaches (first_words r k)) (covers (word_piece r k)) (reaches (first_words r (k + 1))) old mid new (next_word r k) m (subst F e s)

pub words_hit : (number : ℕ) (r : Reach) (k : ℕ) (p : Piece) (old mid new : Bit → ℕ) (b : Bit) → p ≡ word_piece r k → k < r.words → SetMarked true number (reaches (first_words r k)) old mid
    → IsTaken true number (covers p) mid new b → IsTaken true number (reaches r) old new b
words_hit number r k p old mid new b e l m t =
    set_hit number (reaches (first_words r k)) (covers p) (reaches r) old mid new b (λ h. within_words r k b l (sym (ap (λ z. covers z b) e) ∙ h)) m t

pub words_all : (number : ℕ) (r : Reach) (k : ℕ) (old new : Bit → ℕ) → k ≡ r.words → SetMarked true number (reaches (first_words r k)) old new → SetMarked true number (reaches r) old new
words_all number r k old new e m =
    let F : ℕ → Type 0 = λ z. SetMarked true number (reaches (first_words r z)) old new in
    subst F e m

-- some reaches in turn

pub set_none : (number : ℕ) (old : Bit → ℕ) → SetMarked true number (covered []) old old
unfolding covered
set_none number old = record { free = λ b h. cc; put = λ b. refl }

pub set_next : (number : ℕ) (rs : List Reach) (r : Reach) (old mid new : Bit → ℕ) → SetMarked true number (covered rs) old mid → SetMarked true number (reaches r) mid new
    → SetMarked true number (covered (rs ++ r ∷ [])) old new
set_next number rs r old mid new m s = set_both number (covered rs) (reaches r) (covered (rs ++ r ∷ [])) old mid new (covered-push rs r) m s

pub set_taken : (number : ℕ) (rs : List Reach) (r : Reach) (qs : List Reach) (old mid new : Bit → ℕ) (b : Bit) → SetMarked true number (covered rs) old mid
    → IsTaken true number (reaches r) mid new b → IsTaken true number (covered ((rs ++ r ∷ []) ++ qs)) old new b
set_taken number rs r qs old mid new b m t =
    set_hit number (covered rs) (reaches r) (covered ((rs ++ r ∷ []) ++ qs)) old mid new b
    (λ h. covered_more (rs ++ r ∷ []) qs b (covered-push rs r b ∙ (ap (λ z. covered rs b || z) h ∙ or_true (covered rs b)))) m t

-- the same where a loop has come to an element of its list

abbrev ListAt : ℕ → List Piece → (Bit → ℕ) → (Bit → ℕ) → Type 0
ListAt number ps old new = ListMarked number (all_bits ps) old new

pub list_step : (number : ℕ) (ps : List Piece) (i : ℕ) (d : Piece) (old mid new : Bit → ℕ) → i < length ps → 0 < number → ListMarked number (all_bits (take i ps)) old mid
    → SetMarked false number (covers (get_or ps i d)) mid new → ListMarked number (all_bits (take (i + 1) ps)) old new
list_step number ps i d old mid new l above m s =
    let P : List Piece → Type 0 = λ z. ListAt number z old new in
    subst P (sym (taken_next ps i (get_or ps i d) l (element ps i d l))) (list_next number (take i ps) (get_or ps i d) old mid new above m s)

pub list_clash : (number : ℕ) (ps : List Piece) (i : ℕ) (d : Piece) (old mid new : Bit → ℕ) (b : Bit) → i < length ps → 0 < number → ListMarked number (all_bits (take i ps)) old mid
    → IsTaken false number (covers (get_or ps i d)) mid new b → IsTwice number (all_bits ps) old new b
list_clash number ps i d old mid new b l above m t =
    let P : List Piece → Type 0 = λ z. IsTwice number (all_bits z) old new b in
    subst P (split_at ps i (get_or ps i d) l (element ps i d l)) (list_taken number (take i ps) (get_or ps i d) (drop (i + 1) ps) old mid new b above m t)

pub list_all : (number : ℕ) (ps : List Piece) (i : ℕ) (old new : Bit → ℕ) → length ps ≤ i → ListMarked number (all_bits (take i ps)) old new → ListMarked number (all_bits ps) old new
list_all number ps i old new l m =
    let P : List Piece → Type 0 = λ z. ListAt number z old new in
    subst P (take_all i ps l) m

pub set_step : (number : ℕ) (rs : List Reach) (i : ℕ) (d : Reach) (old mid new : Bit → ℕ) → i < length rs → SetMarked true number (covered (take i rs)) old mid
    → SetMarked true number (reaches (get_or rs i d)) mid new → SetMarked true number (covered (take (i + 1) rs)) old new
set_step number rs i d old mid new l m s =
    let P : List Reach → Type 0 = λ z. SetMarked true number (covered z) old new in
    subst P (sym (taken_next rs i (get_or rs i d) l (element rs i d l))) (set_next number (take i rs) (get_or rs i d) old mid new m s)

pub set_clash : (number : ℕ) (rs : List Reach) (i : ℕ) (d : Reach) (old mid new : Bit → ℕ) (b : Bit) → i < length rs → SetMarked true number (covered (take i rs)) old mid
    → IsTaken true number (reaches (get_or rs i d)) mid new b → IsTaken true number (covered rs) old new b
set_clash number rs i d old mid new b l m t =
    let P : List Reach → Type 0 = λ z. IsTaken true number (covered z) old new b in
    subst P (split_at rs i (get_or rs i d) l (element rs i d l)) (set_taken number (take i rs) (get_or rs i d) (drop (i + 1) rs) old mid new b m t)

pub set_all : (number : ℕ) (rs : List Reach) (i : ℕ) (old new : Bit → ℕ) → length rs ≤ i → SetMarked true number (covered (take i rs)) old new → SetMarked true number (covered rs) old new
set_all number rs i old new l m =
    let P : List Reach → Type 0 = λ z. SetMarked true number (covered z) old new in
    subst P (take_all i rs l) m

-- the same of other words for the set or the list

pub set_same : (again : Bool) (number : ℕ) (P Q : Bit → Bool) (old new : Bit → ℕ) → ((b : Bit) → P b ≡ Q b) → SetMarked again number P old new → SetMarked again number Q old new
set_same again number P Q old new e m = record { free = λ b h. m.free b (e b ∙ h); put = λ b. m.put b ∙ ap (λ z. cond z number (old b)) (e b) }

pub taken_same : (again : Bool) (number : ℕ) (P Q : Bit → Bool) (old new : Bit → ℕ) (b : Bit) → ((c : Bit) → P c ≡ Q c) → IsTaken again number P old new b → IsTaken again number Q old new b
taken_same again number P Q old new b e t = record { has = sym (e b) ∙ t.has; taken = t.taken; left = t.left }

pub list_same : (number : ℕ) (xs ys : List (Option Bit)) (old new : Bit → ℕ) → xs ≡ ys → ListMarked number xs old new → ListMarked number ys old new
list_same number xs ys old new e m =
    let P : List (Option Bit) → Type 0 = λ z. ListMarked number z old new in
    subst P e m

pub twice_same : (number : ℕ) (xs ys : List (Option Bit)) (old new : Bit → ℕ) (b : Bit) → xs ≡ ys → IsTwice number xs old new b → IsTwice number ys old new b
twice_same number xs ys old new b e t =
    let P : List (Option Bit) → Type 0 = λ z. IsTwice number z old new b in
    subst P e t

-- what a list that was empty got
pub all_new : (bits : List (Option Bit)) (start now : List Piece) → start ≡ [] → all_bits now ≡ bits ++ all_bits start → all_bits now ≡ bits
unfolding all_bits
all_new bits start now e h = h ∙ (ap (λ z. bits ++ all_bits z) e ∙ append-nil bits)

pub may_new : (P : Bit → Bool) (start now : List Write) → start ≡ [] → ((b : Bit) → may now b ≡ (may start b || P b)) → (b : Bit) → may now b ≡ P b
unfolding may
may_new P start now e h b = h b ∙ ap (λ z. may z b || P b) e
