-- A file that is written byte by byte, some bytes dropped and texts put behind some, is the file with edits made.
use Rattle.std.proofs.Common.{◌≡◌, ◌⊎◌, inl, inr, ℕ, zero, suc, ◌+◌, ◌-◌, ◌<◌, ◌≤◌, ◌==◌, ◌&&◌, ◌||◌, nat_lt, nat_le, Bool, true, false, if◌then◌else◌, List, [], ◌∷◌, ◌++◌, take, drop, length, get_or, refl, sym, ◌∙◌, ap, ap₂, arith}
use Rattle.std.specs.List.{list_any}
use Rattle.std.proofs.lemmas.Bool.{cases_lt, eq-eqb, ne_eqb, lt-ltb, le-ltb, le-leb, lt-leb, and_from, and_left, and_right}
use Rattle.std.proofs.lemmas.List.{append_assoc, drop_more, take_more, get_or-drop, length-drop, drop-drop}
use Rattle.rr_edit.specs.Edits.{Edit, InOrder, edited}

unfoldable pub spread : (ℕ → Bool) → (ℕ → List ℕ) → ℕ → List ℕ → List ℕ
spread drops texts at [] = []
spread drops texts at (b ∷ bs) = (if drops at then [] else b ∷ []) ++ (texts at ++ spread drops texts (at + 1) bs)

-- an edit of a file takes out the byte there
abbrev pub takes : ℕ → Edit → Bool
takes k f = nat_le f.from k && nat_lt k f.to

-- the texts of those that end at a place
unfoldable pub texts_to : ℕ → List Edit → List ℕ
texts_to m [] = []
texts_to m (f ∷ fs) = (if f.to == m then f.text else []) ++ texts_to m fs

-- none stands at the beginning of the file
unfoldable pub NoneFirst : List Edit → Type 0
NoneFirst [] = Unit {0}
NoneFirst (f ∷ fs) = (1 ≤ f.to) × NoneFirst fs

differ : (m n : ℕ) → m < n → ((n == m) ≡ false) × ((m == n) ≡ false)
differ m n l = (ne_eqb n m (λ e. omega (arith, l, e)), ne_eqb m n (λ e. omega (arith, l, e)))

not_yet : (k : ℕ) (f : Edit) → k < f.from → takes k f ≡ false
not_yet k f l = and_left (nat_le f.from k) (nat_lt k f.to) (lt-leb f.from k l)

no_more : (k : ℕ) (f : Edit) → f.to ≤ k → takes k f ≡ false
no_more k f l = and_right (nat_le f.from k) (nat_lt k f.to) (le-ltb k f.to l)

within : (k : ℕ) (f : Edit) → f.from ≤ k → k < f.to → takes k f ≡ true
within k f l m = and_from (nat_le f.from k) (nat_lt k f.to) (le-leb f.from k l) (lt-ltb k f.to m)

or_false : (b : Bool) → (b || false) ≡ b
or_false true = refl
or_false false = refl

pub order_within : (at n : ℕ) (es : List Edit) → InOrder at n es → at ≤ n
unfolding InOrder
order_within at n [] h = h
order_within at n (e ∷ es) h = let r = order_within e.to n es h.1.1 in let a = h.0 in let b = h.1.0 in omega (arith, a, b, r)

texts_none : (m p n : ℕ) (fs : List Edit) → InOrder p n fs → m < p → texts_to m fs ≡ []
unfolding InOrder texts_to
texts_none m p n [] h l = refl
texts_none m p n (f ∷ fs) h l =
    let a = h.0 in let b = h.1.0 in
    let d : m < f.to = omega (arith, a, b, l) in
    ap₂ (λ (c : Bool) (r : List ℕ). (if c then f.text else []) ++ r) (differ m f.to d).0 (texts_none m f.to n fs h.1.1 d)

takes_none : (k p n : ℕ) (fs : List Edit) → InOrder p n fs → k < p → list_any (takes k) fs ≡ false
unfolding InOrder
takes_none k p n [] h l = refl
takes_none k p n (f ∷ fs) h l =
    let a = h.0 in let b = h.1.0 in
    let d : k < f.from = omega (arith, a, l) in
    let e : k < f.to = omega (arith, a, b, l) in
    ap₂ (λ (x y : Bool). x || y) (not_yet k f d) (takes_none k f.to n fs h.1.1 e)

pub none_first : (fs : List Edit) → NoneFirst fs → texts_to 0 fs ≡ []
unfolding texts_to NoneFirst
none_first [] s = refl
none_first (f ∷ fs) s = let a = s.0 in ap₂ (λ (c : Bool) (l : List ℕ). (if c then f.text else []) ++ l) (ne_eqb f.to 0 (λ e. omega (arith, a, e))) (none_first fs s.1)

module _ (drops : ℕ → Bool) (texts : ℕ → List ℕ) where
  -- nothing is done from a place on
  plain : (at : ℕ) (bs : List ℕ) → ((k : ℕ) → at ≤ k → (drops k ≡ false) × (texts k ≡ [])) → spread drops texts at bs ≡ bs
  unfolding spread
  plain at [] h = refl
  plain at (b ∷ bs) h =
      let q = h at (omega arith) in
      ap₂ (λ (c : Bool) (t : List ℕ). (if c then [] else b ∷ []) ++ (t ++ spread drops texts (at + 1) bs)) q.0 q.1
      ∙ ap (λ (l : List ℕ). b ∷ l) (plain (at + 1) bs (λ k l. h k (omega (arith, l))))

  -- nothing is done up to a place
  stretch : (n at p : ℕ) (bs : List ℕ) → p ≡ at + n → ((k : ℕ) → at ≤ k → k < p → (drops k ≡ false) × (texts k ≡ [])) →
      spread drops texts at bs ≡ take n bs ++ spread drops texts p (drop n bs)
  unfolding spread
  stretch zero at p bs e h = ap (λ (k : ℕ). spread drops texts k bs) (let q : at ≡ p = omega (arith, e) in q)
  stretch (suc n) at p [] e h = refl
  stretch (suc n) at p (b ∷ bs) e h =
      let q = h at (omega arith) (omega (arith, e)) in
      ap₂ (λ (c : Bool) (t : List ℕ). (if c then [] else b ∷ []) ++ (t ++ spread drops texts (at + 1) bs)) q.0 q.1
      ∙ ap (λ (l : List ℕ). b ∷ l) (stretch n (at + 1) p bs (omega (arith, e)) (λ k l m. h k (omega (arith, l)) m))

  -- all is dropped up to a place
  gap : (n at p : ℕ) (bs : List ℕ) → p ≡ at + n → ((k : ℕ) → at ≤ k → k < p → (drops k ≡ true) × (texts k ≡ [])) →
      spread drops texts at bs ≡ spread drops texts p (drop n bs)
  unfolding spread
  gap zero at p bs e h = ap (λ (k : ℕ). spread drops texts k bs) (let q : at ≡ p = omega (arith, e) in q)
  gap (suc n) at p [] e h = refl
  gap (suc n) at p (b ∷ bs) e h =
      let q = h at (omega arith) (omega (arith, e)) in
      ap₂ (λ (c : Bool) (t : List ℕ). (if c then [] else b ∷ []) ++ (t ++ spread drops texts (at + 1) bs)) q.0 q.1
      ∙ gap n (at + 1) p bs (omega (arith, e)) (λ k l m. h k (omega (arith, l)) m)

  module _ (file : List ℕ) where
    -- from a place on, what is dropped and put is what these edits do
    pub record Does (at : ℕ) (fs : List Edit) : Type 0 where
      pub dropped : (k : ℕ) → at ≤ k → drops k ≡ list_any (takes k) fs
      pub put : (k : ℕ) → at ≤ k → texts k ≡ texts_to (k + 1) fs

    rest_does : (at : ℕ) (f : Edit) (fs : List Edit) → at ≤ f.to → Does at (f ∷ fs) → Does f.to fs
    unfolding texts_to
    rest_does at f fs l d = record {
      dropped = λ k m. d.dropped k (omega (arith, l, m)) ∙ ap (λ (c : Bool). c || list_any (takes k) fs) (no_more k f m);
      put = λ k m. d.put k (omega (arith, l, m)) ∙ ap (λ (c : Bool). (if c then f.text else []) ++ texts_to (k + 1) fs) (differ f.to (k + 1) (omega (arith, m))).1;
    }

    place : (at p : ℕ) → at ≤ p → drop (p - at) (drop at file) ≡ drop p file
    place at p l = drop-drop (p - at) at file ∙ ap (λ (k : ℕ). drop k file) (let m : at + (p - at) ≡ p = omega (arith, l) in m)

    -- an edit, and what is written behind it
    module _ (at : ℕ) (f : Edit) (fs : List Edit) (a : at ≤ f.from) (b : f.from ≤ f.to)
        (next : texts_to f.to fs ++ spread drops texts f.to (drop f.to file) ≡ edited f.to (drop f.to file) fs) where
      Rest : List ℕ
      Rest = (f.text ++ texts_to f.to fs) ++ spread drops texts f.to (drop f.to file)

      made : take (f.from - at) (drop at file) ++ Rest ≡ edited at (drop at file) (f ∷ fs)
      unfolding edited Rest
      made =
          ap (λ (l : List ℕ). take (f.from - at) (drop at file) ++ l)
          (append_assoc f.text (texts_to f.to fs) (spread drops texts f.to (drop f.to file))
          ∙ ap (λ (l : List ℕ). f.text ++ l) (next ∙ ap (λ (l : List ℕ). edited f.to l fs) (sym (place at f.to (omega (arith, a, b))))))

      -- it stands behind what was written last
      same_place : f.to ≡ at → texts_to at (f ∷ fs) ++ spread drops texts at (drop at file) ≡ edited at (drop at file) (f ∷ fs)
      unfolding texts_to Rest
      same_place e =
          let z : f.from - at ≡ 0 = omega (arith, a, b, e) in
          ap (λ (c : Bool). ((if c then f.text else []) ++ texts_to at fs) ++ spread drops texts at (drop at file)) (eq-eqb f.to at e)
          ∙ ap (λ (k : ℕ). (f.text ++ texts_to k fs) ++ spread drops texts k (drop k file)) (sym e)
          ∙ ap (λ (n : ℕ). take n (drop at file) ++ Rest) (sym z) ∙ made

      -- it ends behind a later byte
      module _ (p : ℕ) (end : f.to ≡ p + 1) (l : at ≤ p) (o : InOrder f.to (length file) fs) (d : Does at (f ∷ fs)) where
        none_here : texts_to at (f ∷ fs) ≡ []
        unfolding texts_to
        none_here =
            ap₂ (λ (c : Bool) (r : List ℕ). (if c then f.text else []) ++ r) (differ at f.to (omega (arith, end, l))).0 (texts_none at f.to (length file) fs o (omega (arith, end, l)))

        silent : (k : ℕ) → at ≤ k → k < p → texts k ≡ []
        unfolding texts_to
        silent k m n =
            d.put k m ∙ ap₂ (λ (c : Bool) (r : List ℕ). (if c then f.text else []) ++ r) (differ (k + 1) f.to (omega (arith, end, n))).0 (texts_none (k + 1) f.to (length file) fs o (omega (arith, end, n)))

        dropped_by : (k : ℕ) → at ≤ k → k < f.to → drops k ≡ takes k f
        dropped_by k m n = d.dropped k m ∙ ap (λ (c : Bool). takes k f || c) (takes_none k f.to (length file) fs o n) ∙ or_false (takes k f)

        texts_here : texts p ≡ f.text ++ texts_to f.to fs
        unfolding texts_to
        texts_here = d.put p l ∙ ap (λ (c : Bool). (if c then f.text else []) ++ texts_to (p + 1) fs) (eq-eqb f.to (p + 1) end) ∙ ap (λ (k : ℕ). f.text ++ texts_to k fs) (sym end)

        some : p < length file
        some = let w = order_within f.to (length file) fs o in omega (arith, end, w)

        last : (c : Bool) → drops p ≡ c → spread drops texts p (drop p file) ≡ (if c then [] else get_or file p 0 ∷ []) ++ Rest
        unfolding spread Rest
        last c e =
            ap (spread drops texts p) (drop_more file p 0 some)
            ∙ ap₂ (λ (x : Bool) (t : List ℕ). (if x then [] else get_or file p 0 ∷ []) ++ (t ++ spread drops texts (p + 1) (drop (p + 1) file))) e texts_here
            ∙ ap (λ (k : ℕ). (if c then [] else get_or file p 0 ∷ []) ++ ((f.text ++ texts_to f.to fs) ++ spread drops texts k (drop k file))) (sym end)

        -- where bytes are taken out
        replacing : f.from ≤ p → spread drops texts at (drop at file) ≡ take (f.from - at) (drop at file) ++ Rest
        replacing m =
            stretch (f.from - at) at f.from (drop at file) (omega (arith, a))
            (λ k x y. (dropped_by k x (omega (arith, y, b)) ∙ not_yet k f y, silent k x (omega (arith, m, y))))
            ∙ ap (λ (l : List ℕ). take (f.from - at) (drop at file) ++ l)
            (ap (spread drops texts f.from) (place at f.from a)
            ∙ gap (p - f.from) f.from p (drop f.from file) (omega (arith, m))
            (λ k x y. (dropped_by k (omega (arith, a, x)) (omega (arith, y, end)) ∙ within k f x (omega (arith, y, end)), silent k (omega (arith, a, x)) y))
            ∙ ap (spread drops texts p) (place f.from p m)
            ∙ last true (dropped_by p l (omega (arith, end)) ∙ within p f m (omega (arith, end))))

        -- and where none is
        putting : f.from ≡ p + 1 → spread drops texts at (drop at file) ≡ take (f.from - at) (drop at file) ++ Rest
        putting e =
            let n : p - at < length (drop at file) = let r = length-drop at file in let w = some in omega (arith, r, w, l) in
            let g : get_or (drop at file) (p - at) 0 ≡ get_or file p 0 = get_or-drop at file (p - at) 0 ∙ ap (λ (k : ℕ). get_or file k 0) (let m : at + (p - at) ≡ p = omega (arith, l) in m) in
            let q : (p - at) + 1 ≡ f.from - at = omega (arith, e, l) in
            stretch (p - at) at p (drop at file) (omega (arith, l))
            (λ k x y. (dropped_by k x (omega (arith, y, end)) ∙ not_yet k f (omega (arith, y, e)), silent k x y))
            ∙ ap (λ (l : List ℕ). take (p - at) (drop at file) ++ l)
            (ap (spread drops texts p) (place at p l) ∙ last false (dropped_by p l (omega (arith, end)) ∙ not_yet p f (omega (arith, e))))
            ∙ sym (append_assoc (take (p - at) (drop at file)) (get_or file p 0 ∷ []) Rest)
            ∙ ap (λ (x : ℕ). (take (p - at) (drop at file) ++ (x ∷ [])) ++ Rest) (sym g)
            ∙ ap (λ (l : List ℕ). l ++ Rest) (sym (take_more (drop at file) (p - at) 0 n) ∙ ap (λ (k : ℕ). take k (drop at file)) q)

        later_place : texts_to at (f ∷ fs) ++ spread drops texts at (drop at file) ≡ edited at (drop at file) (f ∷ fs)
        later_place = ap₂ (λ (t r : List ℕ). t ++ r) none_here (by_from (cases_lt p f.from)) ∙ made
          where
            by_from : (p < f.from) ⊎ (f.from ≤ p) → spread drops texts at (drop at file) ≡ take (f.from - at) (drop at file) ++ Rest
            by_from (inl m) = putting (omega (arith, m, end, b))
            by_from (inr m) = replacing m

    pub spread_is : (at : ℕ) (fs : List Edit) → Does at fs → InOrder at (length file) fs → NoneFirst fs → texts_to at fs ++ spread drops texts at (drop at file) ≡ edited at (drop at file) fs
    unfolding texts_to edited InOrder NoneFirst
    spread_is at [] d o s = plain at (drop at file) (λ k l. (d.dropped k l, d.put k l))
    spread_is at (f ∷ fs) d o s =
        let a = o.0 in let b = o.1.0 in
        by_place (spread_is f.to fs (rest_does at f fs (omega (arith, a, b)) d) o.1.1 s.1) (cases_lt at f.to)
      where
        by_place : (texts_to f.to fs ++ spread drops texts f.to (drop f.to file) ≡ edited f.to (drop f.to file) fs) → (at < f.to) ⊎ (f.to ≤ at) →
            texts_to at (f ∷ fs) ++ spread drops texts at (drop at file) ≡ edited at (drop at file) (f ∷ fs)
        by_place next (inl l) = let a = s.0 in later_place at f fs o.0 o.1.0 next (f.to - 1) (omega (arith, a)) (omega (arith, l)) o.1.1 d
        by_place next (inr l) = same_place at f fs o.0 o.1.0 next (let a = o.0 in let b = o.1.0 in omega (arith, a, b, l))
