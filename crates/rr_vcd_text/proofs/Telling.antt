-- What a first word begins, in the words of the grammar.
use Rattle.std.proofs.Common.{◌≡◌, ◌⊎◌, inl, inr, ℕ, ◌<◌, Bool, true, false, ◌&&◌, ◌||◌, ◌==◌, nat_eq, List, [], ◌∷◌, ◌++◌, length, Option, Some, None, codes, refl, sym, ◌∙◌, ap, subst, arith, nat_lt, if◌then◌else◌, cond}
use Rattle.std.specs.List.{list_all, list_any}
use Rattle.std.specs.Str.{bytes_eq}
use Rattle.std.proofs.lemmas.Bool.{eqb-true}
use Rattle.rr_vcd_text.specs.Words.{Word, is_word, is_end}
use Rattle.rr_vcd_text.specs.Numbers.{number}
use Rattle.rr_vcd_text.specs.Dump as dump
use Rattle.rr_vcd_text.specs.Dump.{Declared, Told, Nothing, Moment, Change, Off, Tells, is_value, is_later, is_declared, has_room}
use Rattle.rr_vcd_text.specs.Rooms.{is_within, room_of, some_room}
use Rattle.rr_vcd_text.specs.Steps.{Begin, Whole, Remark, Vector, Other, Bad, begin, scalar, vector, moment_at, keyword, other, is_section}
use Rattle.rr_vcd_text.proofs.Rooming.{same_bytes, and_left, and_right, and_both, within_room, room_within, some_has, none_fit}

pub or_cases : (a b : Bool) → (a || b) ≡ true → (a ≡ true) ⊎ (b ≡ true)
or_cases true b e = inl refl
or_cases false b e = inr e

-- digits behind `b` or `B`, for which some identifier has room
pub record IsVector (d : Declared) (text digits : List ℕ) : Type 0 where
  pub first : ℕ
  pub second : ℕ
  pub others : List ℕ
  pub are : digits ≡ second ∷ others
  pub text_is : text ≡ first ∷ (second ∷ others)
  pub letter : (first == 98 || first == 66) ≡ true
  pub values : list_all is_value (second ∷ others) ≡ true
  pub some : some_room d.variables (length (second ∷ others)) ≡ true

pub record IsOther (d : Declared) (text : List ℕ) : Type 0 where
  pub first : ℕ
  pub others : List ℕ
  pub text_is : text ≡ first ∷ others
  pub letter : (first == 114 || (first == 82 || first == 115)) ≡ true
  pub some : some_room d.variables 0 ≡ true

-- what a word begins
abbrev pub Means : Declared → Option ℕ → Word → Begin → Type 0
Means d last w (Whole t) = Tells d last (w ∷ []) t
Means d last w Remark = is_word (codes "$comment") w ≡ true
Means d last w (Vector digits) = IsVector d w.text digits
Means d last w Other = IsOther d w.text
Means d last w Bad = Unit {0}

module _ (d : Declared) (last : Option ℕ) (w : Word) where
  scalar_means : (b : ℕ) (bs : List ℕ) → w.text ≡ b ∷ bs → is_value b ≡ true → Means d last w (scalar d.variables b bs)
  scalar_means b bs e v = go (is_within (room_of d.variables bs) 1) refl
    where
      go : (x : Bool) → is_within (room_of d.variables bs) 1 ≡ x → Means d last w (if x then Whole (Change bs (b ∷ [])) else Bad)
      go true h = let r = within_room d.variables bs 1 h in dump.scalar w b bs e v r.declared r.room
      go false h = tt

  vector_means : (b : ℕ) (bs : List ℕ) → w.text ≡ b ∷ bs → (b == 98 || b == 66) ≡ true → Means d last w (vector d.variables bs)
  vector_means b [] e l = tt
  vector_means b (c ∷ cs) e l = go (list_all is_value (c ∷ cs)) (some_room d.variables (length (c ∷ cs))) refl refl
    where
      go : (x y : Bool) → list_all is_value (c ∷ cs) ≡ x → some_room d.variables (length (c ∷ cs)) ≡ y → Means d last w (if x && y then Vector (c ∷ cs) else Bad)
      go true true p q = record { first = b; second = c; others = cs; are = refl; text_is = e; letter = l; values = p; some = q }
      go true false p q = tt
      go false y p q = tt

  moment_means : (bs : List ℕ) → w.text ≡ 35 ∷ bs → Means d last w (moment_at last (number bs))
  moment_means bs e = go (number bs) refl
    where
      later : (n : ℕ) → number bs ≡ Some n → (x : Bool) → is_later last n ≡ x → Means d last w (if x then Whole (Moment n) else Bad)
      later n h true q = dump.moment w bs n e h q
      later n h false q = tt

      go : (o : Option ℕ) → number bs ≡ o → Means d last w (moment_at last o)
      go None h = tt
      go (Some n) h = later n h (is_later last n) refl

  keyword_means : Means d last w (keyword w.text)
  keyword_means = go (is_section w.text) (bytes_eq w.text (codes "$comment")) (bytes_eq w.text (codes "$dumpoff")) refl refl refl
    where
      go : (x y z : Bool) → is_section w.text ≡ x → bytes_eq w.text (codes "$comment") ≡ y → bytes_eq w.text (codes "$dumpoff") ≡ z
          → Means d last w (if x then Whole Nothing else if y then Remark else if z then Whole Off else Bad)
      go true y z p q r = dump.section w p
      go false true z p q r = q
      go false false true p q r = dump.off w r
      go false false false p q r = tt

  other_means : (b : ℕ) (bs : List ℕ) → w.text ≡ b ∷ bs → (b == 114 || (b == 82 || b == 115)) ≡ true → Means d last w (other d.variables)
  other_means b bs e l = go (some_room d.variables 0) refl
    where
      go : (x : Bool) → some_room d.variables 0 ≡ x → Means d last w (if x then Other else Bad)
      go true h = record { first = b; others = bs; text_is = e; letter = l; some = h }
      go false h = tt

  first_means : (b : ℕ) (bs : List ℕ) → w.text ≡ b ∷ bs → Means d last w (begin d.variables last (b ∷ bs))
  first_means b bs e = go (is_value b) (b == 98 || b == 66) (b == 35) (b == 36) (b == 114 || (b == 82 || b == 115)) refl refl refl refl refl
    where
      go : (v x h k o : Bool) → is_value b ≡ v → (b == 98 || b == 66) ≡ x → (b == 35) ≡ h → (b == 36) ≡ k → (b == 114 || (b == 82 || b == 115)) ≡ o
          → Means d last w (if v then scalar d.variables b bs else if x then vector d.variables bs else if h then moment_at last (number bs) else
          if k then keyword (b ∷ bs) else if o then other d.variables else Bad)
      go true x h k o p q r s t = scalar_means b bs e p
      go false true h k o p q r s t = vector_means b bs e q
      go false false true k o p q r s t = moment_means bs (e ∙ ap (λ n. n ∷ bs) (eqb-true b 35 r))
      go false false false true o p q r s t = subst (λ x. Means d last w (keyword x)) e keyword_means
      go false false false false true p q r s t = other_means b bs e t
      go false false false false false p q r s t = tt

  means_text : (text : List ℕ) → w.text ≡ text → Means d last w (begin d.variables last text)
  means_text [] e = tt
  means_text (b ∷ bs) e = first_means b bs e

  pub means : Means d last w (begin d.variables last w.text)
  means = means_text w.text refl

  -- and back: each construct is begun by its first word
  section_text : (text : List ℕ) → is_section text ≡ true → begin d.variables last text ≡ Whole Nothing
  section_text text e = elim (or_cases (bytes_eq text (codes "$dumpvars")) _ e) [
    | inl a ↦ rw (same_bytes text (codes "$dumpvars") a) refl
    | inr f ↦ elim (or_cases (bytes_eq text (codes "$dumpall")) _ f) [
      | inl a ↦ rw (same_bytes text (codes "$dumpall") a) refl
      | inr g ↦ elim (or_cases (bytes_eq text (codes "$dumpon")) _ g) [
        | inl a ↦ rw (same_bytes text (codes "$dumpon") a) refl
        | inr a ↦ rw (same_bytes text (codes "$end") a) refl
      ]
    ]
  ]

  pub begins_section : is_section w.text ≡ true → begin d.variables last w.text ≡ Whole Nothing
  begins_section e = section_text w.text e

  pub begins_off : is_word (codes "$dumpoff") w ≡ true → begin d.variables last w.text ≡ Whole Off
  begins_off e = rw (same_bytes w.text (codes "$dumpoff") e) refl

  pub begins_remark : is_word (codes "$comment") w ≡ true → begin d.variables last w.text ≡ Remark
  begins_remark e = rw (same_bytes w.text (codes "$comment") e) refl

  pub begins_moment : (digits : List ℕ) (n : ℕ) → w.text ≡ 35 ∷ digits → number digits ≡ Some n → is_later last n ≡ true → begin d.variables last w.text ≡ Whole (Moment n)
  begins_moment digits n e v l = ap (begin d.variables last) e ∙ (ap (moment_at last) v ∙ ap (λ x. if x then Whole (Moment n) else Bad) l)

  pub begins_scalar : (b : ℕ) (id : List ℕ) → w.text ≡ b ∷ id → is_value b ≡ true → is_declared d.variables id ≡ true → has_room d.variables id 1 ≡ true
      → begin d.variables last w.text ≡ Whole (Change id (b ∷ []))
  begins_scalar b id e v p q = ap (begin d.variables last) e ∙ rw (v, room_within d.variables id 1 p q) refl

  vector_from : (b c : ℕ) (digits : List ℕ) → (b == 98) ≡ true ⊎ (b == 66) ≡ true → list_all is_value (c ∷ digits) ≡ true → some_room d.variables (length (c ∷ digits)) ≡ true
      → begin d.variables last (b ∷ (c ∷ digits)) ≡ Vector (c ∷ digits)
  vector_from b c digits l v s = elim l [
    | inl h ↦ rw (eqb-true b 98 h) (ap (λ x. if x then Vector (c ∷ digits) else Bad) (and_both v s))
    | inr h ↦ rw (eqb-true b 66 h) (ap (λ x. if x then Vector (c ∷ digits) else Bad) (and_both v s))
  ]

  pub begins_vector : (b c : ℕ) (digits : List ℕ) (id : List ℕ) → w.text ≡ b ∷ (c ∷ digits) → (b == 98 || b == 66) ≡ true → list_all is_value (c ∷ digits) ≡ true
      → is_declared d.variables id ≡ true → has_room d.variables id (length (c ∷ digits)) ≡ true → begin d.variables last w.text ≡ Vector (c ∷ digits)
  begins_vector b c digits id e l v p q = ap (begin d.variables last) e ∙ vector_from b c digits (or_cases (b == 98) (b == 66) l) v (some_has d.variables id (length (c ∷ digits)) p q)

  other_from : (b : ℕ) (rest : List ℕ) → (b == 114) ≡ true ⊎ ((b == 82) ≡ true ⊎ (b == 115) ≡ true) → some_room d.variables 0 ≡ true → begin d.variables last (b ∷ rest) ≡ Other
  other_from b rest l s = elim l [
    | inl h ↦ rw (eqb-true b 114 h) (ap (λ x. if x then Other else Bad) s)
    | inr m ↦ elim m [
      | inl h ↦ rw (eqb-true b 82 h) (ap (λ x. if x then Other else Bad) s)
      | inr h ↦ rw (eqb-true b 115 h) (ap (λ x. if x then Other else Bad) s)
    ]
  ]

  three_cases : (a b c : Bool) → (a || (b || c)) ≡ true → (a ≡ true) ⊎ ((b ≡ true) ⊎ (c ≡ true))
  three_cases true b c e = inl refl
  three_cases false true c e = inr (inl refl)
  three_cases false false c e = inr (inr e)

  pub begins_other : (b : ℕ) (rest id : List ℕ) → w.text ≡ b ∷ rest → (b == 114 || (b == 82 || b == 115)) ≡ true → is_declared d.variables id ≡ true → begin d.variables last w.text ≡ Other
  begins_other b rest id e l p =
      ap (begin d.variables last) e ∙ other_from b rest (three_cases (b == 114) (b == 82) (b == 115) l) (some_has d.variables id 0 p (none_fit d.variables id))
