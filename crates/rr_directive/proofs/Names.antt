-- Names with numbers, and their texts.
use Rattle.std.proofs.Common.{ℕ, zero, suc, ◌≡◌, ◌+◌, ◌<◌, ◌||◌, ◌⊎◌, List, [], ◌∷◌, ◌++◌, length, map, get_or, set, Bool, true, false, not, Option, Some, None, is_some, refl, ap, ◌∙◌, sym, subst, arith, inl, inr}
use Rattle.std.specs.List.{list_any, slice_get}
use Rattle.std.specs.Option.{option_map}
use Rattle.std.specs.Str.{bytes_eq}
use Rattle.std.proofs.lemmas.List.{append_assoc, append-nil, map-append, length_push, length-set, get_or_append_left, get_or_push, get_or-set_same, get_or-set_other}
use Rattle.std.proofs.lemmas.Option.{slice_get-map, slice_get_within}
use Rattle.std.proofs.lemmas.Bool.{cases_Bool, cases_eq}
use Rattle.indexmap.specs.IndexSet.{insert_key}
use Rattle.rr_directive.specs.declared.definitions.Part.{Part}
use Rattle.rr_directive.specs.declared.definitions.Part.TheVariants as part
use Rattle.rr_directive.specs.Expand.{Item, Byte, Use, Definition, text_of}
use Rattle.rr_directive.specs.View.{AreItems, Extends, HasTexts, IsItem, IsText, Opens}
use Rattle.rr_directive.proofs.Frames.{AreDistinct, eq_same, eq_refl, other_name, same_some}
use denote.Ref.{Bor}

-- ---- numbers of names

pub get_kept : (names new : List (List ℕ)) (i : ℕ) (name : List ℕ) → slice_get names i ≡ Some name → slice_get (names ++ new) i ≡ Some name
get_kept [] new i name e = absurd (cc)
get_kept (n ∷ names) new zero name e = e
get_kept (n ∷ names) new (suc i) name e = get_kept names new i name e

get_push : (names : List (List ℕ)) (n : List ℕ) (i : ℕ) (name : List ℕ) → slice_get (names ++ (n ∷ [])) i ≡ Some name → (slice_get names i ≡ Some name) ⊎ ((i ≡ length names) × (n ≡ name))
get_push [] n zero name e = inr (refl, cc)
get_push [] n (suc i) name e = absurd (cc)
get_push (m ∷ names) n zero name e = inl e
get_push (m ∷ names) n (suc i) name e = elim (get_push names n i name e) [
  | inl k ↦ inl k
  | inr k ↦ inr (ap suc k.0, k.1)
]

absent : (names : List (List ℕ)) (name : List ℕ) (i : ℕ) → list_any (bytes_eq name) names ≡ false → slice_get names i ≡ Some name → ⊥
absent [] name i h e = cc
absent (n ∷ names) name zero h e =
    let s : n ≡ name = cc in
    let t : bytes_eq name n ≡ true = subst (λ (x : List ℕ). bytes_eq name x ≡ true) (sym s) (eq_refl name) in
    let k : true ≡ false = sym (ap (λ (b : Bool). b || list_any (bytes_eq name) names) t) ∙ h in cc
absent (n ∷ names) name (suc i) h e = elim (cases_Bool (bytes_eq name n)) [
  | inl t ↦ let k : true ≡ false = sym (ap (λ (b : Bool). b || list_any (bytes_eq name) names) t) ∙ h in absurd (cc)
  | inr t ↦ absent names name i (sym (ap (λ (b : Bool). b || list_any (bytes_eq name) names) t) ∙ h) e
]

same_any : (name : List ℕ) (ks : List (Bor (List ℕ))) → list_any (bytes_eq name) (map (λ k. k.now) ks) ≡ list_any (λ k. bytes_eq name k.now) ks
same_any name [] = refl
same_any name (k ∷ ks) = ap (λ (b : Bool). bytes_eq name k.now || b) (same_any name ks)

-- ---- items

item_more : (names new : List (List ℕ)) (p : Part) (i : Item) → IsItem names p i → IsItem (names ++ new) p i
item_more names new (part.Byte b) (Byte c) h = h
item_more names new (part.Byte b) (Use name) h = h
item_more names new (part.Use number) (Byte c) h = h
item_more names new (part.Use number) (Use name) h = get_kept names new number name h

pub items_more : (names new : List (List ℕ)) (ps : List Part) (is : List Item) → AreItems names ps is → AreItems (names ++ new) ps is
items_more names new [] [] h = h
items_more names new [] (i ∷ is) h = h
items_more names new (p ∷ ps) [] h = h
items_more names new (p ∷ ps) (i ∷ is) h = (item_more names new p i h.0, items_more names new ps is h.1)

pub text_more : (names new : List (List ℕ)) (o : Option (Bor (List Part))) (t : Option (List Item)) → IsText names o t → IsText (names ++ new) o t
text_more names new None None h = h
text_more names new None (Some t) h = h
text_more names new (Some o) None h = h
text_more names new (Some o) (Some t) h = items_more names new o.now t h

none_text : (names : List (List ℕ)) (t : Option (List Item)) → t ≡ None → IsText names None t
none_text names None e = tt
none_text names (Some t) e = absurd (cc)

-- ---- one more name

pub distinct_push : (names : List (List ℕ)) (n : List ℕ) → AreDistinct names → list_any (bytes_eq n) names ≡ false → AreDistinct (names ++ (n ∷ []))
distinct_push names n d h = λ i j name a b. elim (get_push names n i name a) [
  | inl x ↦ elim (get_push names n j name b) [
    | inl y ↦ d i j name x y
    | inr y ↦ absurd (absent names n i h (x ∙ ap Some (sym y.1)))
  ]
  | inr x ↦ elim (get_push names n j name b) [
    | inl y ↦ absurd (absent names n j h (y ∙ ap Some (sym x.1)))
    | inr y ↦ x.0 ∙ sym y.0
  ]
]

new_each : (names : List (List ℕ)) (texts : List (Option (Bor (List Part)))) (ds : List Definition) (n : List ℕ) → HasTexts names texts ds → list_any (bytes_eq n) names ≡ false →
    (i : ℕ) (name : List ℕ) → slice_get (names ++ (n ∷ [])) i ≡ Some name → IsText (names ++ (n ∷ [])) (get_or (texts ++ (None ∷ [])) i None) (text_of name ds)
new_each names texts ds n h a i name e = elim (get_push names n i name e) [
  | inl x ↦
      let l : i < length texts = omega (arith, h.same, slice_get_within names i name x) in
      subst (λ (o : Option (Bor (List Part))). IsText (names ++ (n ∷ [])) o (text_of name ds)) (sym (get_or_append_left texts (None ∷ []) None i l)) (text_more names (n ∷ []) _ _ (h.each i name x))
  | inr x ↦
      let l : length texts ≡ i = h.same ∙ sym x.0 in
      let t : text_of name ds ≡ None = elim (h.others name) [
        | inl z ↦ z
        | inr z ↦ absurd (absent names n z.0 a (z.1 ∙ ap Some (sym x.1)))
      ] in
      subst (λ (o : Option (Bor (List Part))). IsText (names ++ (n ∷ [])) o (text_of name ds)) (sym (get_or_push texts None None i l)) (none_text (names ++ (n ∷ [])) (text_of name ds) t)
]

pub texts_push : (names : List (List ℕ)) (texts : List (Option (Bor (List Part)))) (ds : List Definition) (n : List ℕ) → HasTexts names texts ds → list_any (bytes_eq n) names ≡ false →
    HasTexts (names ++ (n ∷ [])) (texts ++ (None ∷ [])) ds
texts_push names texts ds n h a = record {
  distinct = distinct_push names n h.distinct a;
  same = length_push texts None ∙ (ap (λ (m : ℕ). m + 1) h.same ∙ sym (length_push names n));
  each = new_each names texts ds n h a;
  others = λ name. elim (h.others name) [
    | inl z ↦ inl z
    | inr z ↦ inr (z.0, get_kept names (n ∷ []) z.0 name z.1)
  ];
}

pub opens_push : (names : List (List ℕ)) (flags : List Bool) (n : List ℕ) → Opens names flags [] → Opens (names ++ (n ∷ [])) (flags ++ (false ∷ [])) []
opens_push names flags n o = record {
  same = length_push flags false ∙ (ap (λ (m : ℕ). m + 1) o.same ∙ sym (length_push names n));
  once = tt;
  set = λ i name e. elim (get_push names n i name e) [
    | inl x ↦ let l : i < length flags = omega (arith, o.same, slice_get_within names i name x) in get_or_append_left flags (false ∷ []) false i l ∙ o.set i name x
    | inr x ↦ get_or_push flags false false i (o.same ∙ sym x.0)
  ];
}

-- ---- a new text

text_now : (name : List ℕ) (d : Definition) (ds : List Definition) → bytes_eq d.name name ≡ true → text_of name (d ∷ ds) ≡ d.text
unfolding text_of
text_now name d ds h = rw h refl

text_before : (name : List ℕ) (d : Definition) (ds : List Definition) → bytes_eq d.name name ≡ false → text_of name (d ∷ ds) ≡ text_of name ds
unfolding text_of
text_before name d ds h = rw h refl

abbrev pub given : List ℕ → Option (List Item) → Definition
given name items = record { name = name; text = items }

pub texts_set : (names : List (List ℕ)) (texts : List (Option (Bor (List Part)))) (ds : List Definition) (number : ℕ) (name : List ℕ) (o : Option (Bor (List Part))) (items : Option (List Item)) →
    HasTexts names texts ds → slice_get names number ≡ Some name → IsText names o items → HasTexts names (set texts number o) (given name items ∷ ds)
texts_set names texts ds number name o items h s k = record {
  distinct = h.distinct;
  same = length-set texts number o ∙ h.same;
  each = λ i n e. elim (cases_eq i number) [
    | inl q ↦
        let l : number < length texts = omega (arith, h.same, slice_get_within names number name s) in
        let m : name ≡ n = same_some (slice_get names number) name n s (subst (λ (j : ℕ). slice_get names j ≡ Some n) q e) in
        let t : text_of n (given name items ∷ ds) ≡ items = text_now n (given name items) ds (subst (λ (x : List ℕ). bytes_eq name x ≡ true) m (eq_refl name)) in
        let g : get_or (set texts number o) i None ≡ o = ap (λ (j : ℕ). get_or (set texts number o) j None) q ∙ get_or-set_same texts number o None l in
        subst (λ (x : Option (Bor (List Part))). IsText names x (text_of n (given name items ∷ ds))) (sym g) (subst (IsText names o) (sym t) k)
    | inr q ↦
        let t : text_of n (given name items ∷ ds) ≡ text_of n ds = text_before n (given name items) ds (other_name names i number n name h.distinct e s q) in
        let g : get_or (set texts number o) i None ≡ get_or texts i None = get_or-set_other texts number i o None q in
        subst (λ (x : Option (Bor (List Part))). IsText names x (text_of n (given name items ∷ ds))) (sym g) (subst (IsText names (get_or texts i None)) (sym t) (h.each i n e))
  ];
  others = λ n. elim (cases_Bool (bytes_eq name n)) [
    | inl b ↦ inr (number, s ∙ ap Some (eq_same name n b))
    | inr b ↦ elim (h.others n) [
      | inl z ↦ inl (text_before n (given name items) ds b ∙ z)
      | inr z ↦ inr z
    ]
  ];
}

pub defined : (names : List (List ℕ)) (o : Option (Bor (List Part))) (t : Option (List Item)) → IsText names o t → is_some o ≡ is_some t
defined names None None h = refl
defined names None (Some t) h = absurd h
defined names (Some o) None h = absurd h
defined names (Some o) (Some t) h = refl

-- ---- keys

pub named : (keys : List (Bor (List ℕ))) (i : ℕ) (k : Bor (List ℕ)) (name : List ℕ) → slice_get keys i ≡ Some k → bytes_eq name k.now ≡ true → slice_get (map (λ k. k.now) keys) i ≡ Some name
named keys i k name e h = slice_get-map (λ (b : Bor (List ℕ)). b.now) keys i ∙ (ap (option_map (λ (b : Bor (List ℕ)). b.now)) e ∙ ap Some (sym (eq_same name k.now h)))

pub key_names : (keys : List (Bor (List ℕ))) (k : Bor (List ℕ)) → list_any (λ j. bytes_eq k.now j.now) keys ≡ false →
    map (λ k. k.now) (insert_key (λ a b. bytes_eq a.now b.now) keys k) ≡ map (λ k. k.now) keys ++ (k.now ∷ [])
key_names keys k h = rw h (map-append (λ (b : Bor (List ℕ)). b.now) keys (k ∷ []))

pub key_kept : (keys : List (Bor (List ℕ))) (k : Bor (List ℕ)) → list_any (λ j. bytes_eq k.now j.now) keys ≡ true →
    map (λ k. k.now) (insert_key (λ a b. bytes_eq a.now b.now) keys k) ≡ map (λ k. k.now) keys
key_kept keys k h = rw h refl

pub not_among : (keys : List (Bor (List ℕ))) (k : Bor (List ℕ)) → list_any (λ j. bytes_eq k.now j.now) keys ≡ false → list_any (bytes_eq k.now) (map (λ k. k.now) keys) ≡ false
not_among keys k h = same_any k.now keys ∙ h

pub extends_by : (names more : List (List ℕ)) (n : List ℕ) → more ≡ names ++ (n ∷ []) → Extends names more
extends_by names more n e = record { new = n ∷ []; is = e }

pub extends_same : (names more : List (List ℕ)) → more ≡ names → Extends names more
extends_same names more e = record { new = []; is = e ∙ sym (append-nil names) }

pub known_push : (names more : List (List ℕ)) (n : List ℕ) (texts texts' : List (Option (Bor (List Part)))) (flags flags' : List Bool) (ds : List Definition) →
    more ≡ names ++ (n ∷ []) → texts' ≡ texts ++ (None ∷ []) → flags' ≡ flags ++ (false ∷ []) → list_any (bytes_eq n) names ≡ false → HasTexts names texts ds → Opens names flags [] →
    HasTexts more texts' ds × Opens more flags' []
known_push names more n texts texts' flags flags' ds e t f a h o = (
  subst (λ (ns : List (List ℕ)). HasTexts ns texts' ds) (sym e) (subst (λ (ts : List (Option (Bor (List Part)))). HasTexts (names ++ (n ∷ [])) ts ds) (sym t) (texts_push names texts ds n h a)),
  subst (λ (ns : List (List ℕ)). Opens ns flags' []) (sym e) (subst (λ (fs : List Bool). Opens (names ++ (n ∷ [])) fs []) (sym f) (opens_push names flags n o)),
)

nothing_there : HasTexts [] [] []
unfolding text_of
nothing_there = record { distinct = λ i j n a b. absurd (cc); same = refl; each = λ i n a. absurd (cc); others = λ n. inl refl }

nothing_open : Opens [] [] []
nothing_open = record { same = refl; once = tt; set = λ i n a. absurd (cc) }

pub nothing_known : (names : List (List ℕ)) (texts : List (Option (Bor (List Part)))) (flags : List Bool) → names ≡ [] → texts ≡ [] → flags ≡ [] → HasTexts names texts [] × Opens names flags []
nothing_known names texts flags e t f = (
  subst (λ (ns : List (List ℕ)). HasTexts ns texts []) (sym e) (subst (λ (ts : List (Option (Bor (List Part)))). HasTexts [] ts []) (sym t) nothing_there),
  subst (λ (ns : List (List ℕ)). Opens ns flags []) (sym e) (subst (λ (fs : List Bool). Opens [] fs []) (sym f) nothing_open),
)

pub not_yes : (r b : Bool) → r ≡ not b → r ≡ true → b ≡ false
not_yes r true e h = cc
not_yes r false e h = refl

pub extended : (names more : List (List ℕ)) (o : Option (Bor (List Part))) (t : Option (List Item)) → Extends names more → IsText names o t → IsText more o t
extended names more o t e h = subst (λ (ns : List (List ℕ)). IsText ns o t) (sym e.is) (text_more names e.new o t h)

pub no_text : (names : List (List ℕ)) (o : Option (Bor (List Part))) (t : Option (List Item)) → o ≡ None → IsText names o t → t ≡ None
no_text names None None e h = refl
no_text names None (Some t) e h = absurd h
no_text names (Some o) t e h = absurd (cc)

pub some_text : (names : List (List ℕ)) (parts : Bor (List Part)) (o : Option (Bor (List Part))) (t : Option (List Item)) → o ≡ Some parts → IsText names o t → (items : List Item) × ((t ≡ Some items) × AreItems names parts.now items)
some_text names parts None t e h = absurd (cc)
some_text names parts (Some o) None e h = absurd h
some_text names parts (Some o) (Some items) e h = let q : o ≡ parts = cc in (items, (refl, subst (λ (x : Bor (List Part)). AreItems names x.now items) q h))

-- ---- what is next

pub items_none : (names : List (List ℕ)) (parts : List Part) (items : List Item) → parts ≡ [] → AreItems names parts items → items ≡ []
items_none names [] [] e h = refl
items_none names [] (i ∷ is) e h = absurd h
items_none names (p ∷ ps) items e h = absurd (cc)

pub items_byte : (names : List (List ℕ)) (parts rest : List Part) (items : List Item) (b : ℕ) → parts ≡ part.Byte b ∷ rest → AreItems names parts items → (is : List Item) × ((items ≡ Byte b ∷ is) × AreItems names rest is)
items_byte names parts rest [] b e h = let k : AreItems names (part.Byte b ∷ rest) [] = subst (λ (ps : List Part). AreItems names ps []) e h in absurd k
items_byte names parts rest (Byte c ∷ is) b e h =
    let k : AreItems names (part.Byte b ∷ rest) (Byte c ∷ is) = subst (λ (ps : List Part). AreItems names ps (Byte c ∷ is)) e h in
    (is, (ap (λ (x : ℕ). Byte x ∷ is) (sym k.0), k.1))
items_byte names parts rest (Use n ∷ is) b e h = let k : AreItems names (part.Byte b ∷ rest) (Use n ∷ is) = subst (λ (ps : List Part). AreItems names ps (Use n ∷ is)) e h in absurd k.0

pub items_use : (names : List (List ℕ)) (parts rest : List Part) (items : List Item) (number : ℕ) → parts ≡ part.Use number ∷ rest → AreItems names parts items →
    (name : List ℕ) × ((is : List Item) × ((items ≡ Use name ∷ is) × (slice_get names number ≡ Some name × AreItems names rest is)))
items_use names parts rest [] number e h = let k : AreItems names (part.Use number ∷ rest) [] = subst (λ (ps : List Part). AreItems names ps []) e h in absurd k
items_use names parts rest (Byte c ∷ is) number e h = let k : AreItems names (part.Use number ∷ rest) (Byte c ∷ is) = subst (λ (ps : List Part). AreItems names ps (Byte c ∷ is)) e h in absurd k.0
items_use names parts rest (Use n ∷ is) number e h =
    let k : AreItems names (part.Use number ∷ rest) (Use n ∷ is) = subst (λ (ps : List Part). AreItems names ps (Use n ∷ is)) e h in
    (n, (is, (refl, (k.0, k.1))))

-- ---- items of a text

pub zip_append : (names : List (List ℕ)) (ps qs : List Part) (is js : List Item) → AreItems names ps is → AreItems names qs js → AreItems names (ps ++ qs) (is ++ js)
zip_append names [] qs [] js h k = k
zip_append names [] qs (i ∷ is) js h k = absurd h
zip_append names (p ∷ ps) qs [] js h k = absurd h
zip_append names (p ∷ ps) qs (i ∷ is) js h k = (h.0, zip_append names ps qs is js h.1 k)

pub zip_bytes : (names : List (List ℕ)) (bs : List ℕ) → AreItems names (map part.Byte bs) (map Byte bs)
zip_bytes names [] = tt
zip_bytes names (b ∷ bs) = (refl, zip_bytes names bs)

pub items_extended : (names more : List (List ℕ)) (ps : List Part) (is : List Item) → Extends names more → AreItems names ps is → AreItems more ps is
items_extended names more ps is e h = subst (λ (ns : List (List ℕ)). AreItems ns ps is) (sym e.is) (items_more names e.new ps is h)

pub extends_on : (a b c : List (List ℕ)) → Extends a b → Extends b c → Extends a c
extends_on a b c e f = record { new = e.new ++ f.new; is = f.is ∙ (ap (λ (ns : List (List ℕ)). ns ++ f.new) e.is ∙ append_assoc a e.new f.new) }
