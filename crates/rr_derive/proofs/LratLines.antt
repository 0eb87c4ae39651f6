-- what the lines of a proof begin with
use Rattle.std.proofs.Common.{ℕ, zero, suc, ◌≡◌, ◌≢◌, ◌∙◌, inl, inr, ◌+◌, ◌^◌, ◌<◌, ◌≤◌, Bool, true, false, ◌||◌, cond, List, [], ◌∷◌, ◌++◌, length, map, codes, refl, sym, ap, ap₂, subst, arith, length-append}
use Rattle.std.specs.Fmt.{decimal}
use Rattle.std.specs.List.{AllByRecursion, flat_map, list_any}
use Rattle.std.specs.Borrow.{Bor}
use Rattle.std.specs.Prelude.{Contains, MatchOption, None, Option, Some, slice_index_or}
use Rattle.std.proofs.lemmas.Fmt.{decimal_digit, decimal_injective, decimal_nonempty, digits_decimal}
use Rattle.std.proofs.lemmas.List.{append_assoc, flat_map_more, map-append}
use Rattle.rr_decimal.proofs.Numerals.{NoDigit, digit_small, digits_cut, no_digit, number_unique, own, same_head, same_tail}
use Rattle.rr_cnf.specs.Clauses.{Literal}
use Rattle.rr_cnf.specs.Dimacs.{literal_text}
use Rattle.rr_cnf.proofs.Reading.{literal}
use Rattle.rr_derive.specs.Derive.{Step}
use Rattle.rr_derive.specs.Lrat.{AreNumbers, AreSigned, IsAddition, IsDeletion, IsNoLine, IsNumber, IsRat, Starts, addition_line, deletion_line, positive}
use Rattle.rr_derive.specs.Reading.{AreIds, HintsAre, IsEnd, IsNoDeletion, IsNumberless, LiteralsAre, NoIds, NumbersEnd, id_text, id_texts}

fits : (n : ℕ) → IsNumber n → n < 2 ^ 64
fits n h = omega (arith, h.1)

blank : NoDigit 32
blank = no_digit 32 (inl (omega arith))

-- no number begins with such a byte
digits_first : (n b : ℕ) (r s : List ℕ) → n < 2 ^ 64 → NoDigit b → decimal n ++ 32 ∷ r ≡ b ∷ s → ⊥
digits_first n b r s h nd e =
    let q = digits_cut (decimal n) [] 32 b r s (digits_decimal own n h) tt blank nd e in
    let some = decimal_nonempty n h in
    let none : length (decimal n) ≡ 0 = ap length q.0 in
    omega arith

-- no number but 0 begins with a zero that no digit follows
zero_first : (n c : ℕ) (r s : List ℕ) → IsNumber n → NoDigit c → decimal n ++ 32 ∷ r ≡ 48 ∷ c ∷ s → ⊥
zero_first n c r s h nd e =
    let q = digits_cut (decimal n) (48 ∷ []) 32 c r s (digits_decimal own n (fits n h)) (digit_small 48 (omega arith) (omega arith), tt) blank nd e in
    let z : n ≡ 0 = decimal_injective n 0 (fits n h) (omega arith) (q.0 ∙ sym (decimal_digit 0 (omega arith))) in
    omega (arith, h.0)

pub after_sign : (n : ℕ) (xs : List ℕ) → (decimal n ++ codes " ") ++ xs ≡ decimal n ++ 32 ∷ xs
after_sign n xs = append_assoc (decimal n) (codes " ") xs

zero_no_literal : (l : Literal) (c : ℕ) (xs ys : List ℕ) → IsNumber l.var → NoDigit c → 48 ∷ c ∷ ys ≡ literal_text l ++ xs → ⊥
zero_no_literal l c xs ys h nd e = by_sign l.negative e
  where
    by_sign : (b : Bool) → 48 ∷ c ∷ ys ≡ (cond b (codes "-") [] ++ (decimal l.var ++ codes " ")) ++ xs → ⊥
    by_sign true f = let q : 48 ≡ 45 = same_head 48 45 _ _ f in omega (arith, q)
    by_sign false f = zero_first l.var c xs ys h nd (sym (after_sign l.var xs) ∙ sym f)

d_no_literal : (l : Literal) (xs ys : List ℕ) → IsNumber l.var → 100 ∷ ys ≡ literal_text l ++ xs → ⊥
d_no_literal l xs ys h e = by_sign l.negative e
  where
    by_sign : (b : Bool) → 100 ∷ ys ≡ (cond b (codes "-") [] ++ (decimal l.var ++ codes " ")) ++ xs → ⊥
    by_sign true f = let q : 100 ≡ 45 = same_head 100 45 _ _ f in omega (arith, q)
    by_sign false f = digits_first l.var 100 xs ys (fits l.var h) (no_digit 100 (inr (omega arith))) (sym (after_sign l.var xs) ∙ sym f)

literal_back : (l k : Literal) (xs ys : List ℕ) → IsNumber l.var → IsNumber k.var → literal_text l ++ xs ≡ literal_text k ++ ys → (l ≡ k) × (xs ≡ ys)
literal_back l k xs ys hl hk e = literal l k xs ys (fits l.var hl) (fits k.var hk) e

-- literals of a kind, up to where none of the kind stands
module _ (Kind : Literal → Type 0) (counts : (l : Literal) → Kind l → IsNumber l.var) where
  pub all_back : (ms ls : List Literal) (c : ℕ) (xs rest : List ℕ) → AllByRecursion Kind ms → AllByRecursion Kind ls → NoDigit c
      → ((l : Literal) (r : List ℕ) → Kind l → rest ≡ literal_text l ++ r → ⊥)
      → flat_map literal_text ms ++ 48 ∷ c ∷ xs ≡ flat_map literal_text ls ++ rest → (ms ≡ ls) × (48 ∷ c ∷ xs ≡ rest)
  all_back [] [] c xs rest hm hl nd end e = (refl, e)
  all_back [] (l ∷ ls) c xs rest hm hl nd end e = absurd (zero_no_literal l c (flat_map literal_text ls ++ rest) xs (counts l hl.0) nd (e ∙ append_assoc (literal_text l) (flat_map literal_text ls) rest))
  all_back (m ∷ ms) [] c xs rest hm hl nd end e = absurd (end m (flat_map literal_text ms ++ 48 ∷ c ∷ xs) hm.0 (sym e ∙ append_assoc (literal_text m) (flat_map literal_text ms) (48 ∷ c ∷ xs)))
  all_back (m ∷ ms) (l ∷ ls) c xs rest hm hl nd end e =
      let s = literal_back m l (flat_map literal_text ms ++ 48 ∷ c ∷ xs) (flat_map literal_text ls ++ rest) (counts m hm.0) (counts l hl.0)
      (sym (append_assoc (literal_text m) (flat_map literal_text ms) (48 ∷ c ∷ xs)) ∙ e ∙ append_assoc (literal_text l) (flat_map literal_text ls) rest) in
      let r = all_back ms ls c xs rest hm.1 hl.1 nd end s.1 in
      (ap₂ (λ a b. a ∷ b) s.0 r.0, r.1)

pub literals_back : (ms ls : List Literal) (c : ℕ) (xs rest : List ℕ) → AreSigned ms → AreSigned ls → NoDigit c → IsEnd rest → flat_map literal_text ms ++ 48 ∷ c ∷ xs ≡ flat_map literal_text ls ++ rest → (ms ≡ ls) × (48 ∷ c ∷ xs ≡ rest)
literals_back ms ls c xs rest hm hl nd end e = all_back (λ l. IsNumber l.var) (λ l h. h) ms ls c xs rest hm hl nd end e

abbrev IsPlain : Literal → Type 0
IsPlain l = IsNumber l.var × (l.negative ≡ false)

plain_all : (ns : List ℕ) → AreNumbers ns → AllByRecursion IsPlain (map positive ns)
plain_all [] h = tt
plain_all (n ∷ ns) h = ((h.0, refl), plain_all ns h.1)

plain_is : (l : Literal) → IsPlain l → l ≡ positive l.var
plain_is l h = ap (λ b. record { var = l.var; negative = b }) h.1

ids_text : (ns : List ℕ) → id_texts ns ≡ flat_map literal_text (map positive ns)
ids_text [] = refl
ids_text (n ∷ ns) = ap (λ t. literal_text (positive n) ++ t) (ids_text ns)

pub ids_back : (ms ns : List ℕ) (xs rest : List ℕ) → AreNumbers ms → AreNumbers ns → IsNumberless rest → id_texts ms ++ 48 ∷ 10 ∷ xs ≡ id_texts ns ++ rest → 48 ∷ 10 ∷ xs ≡ rest
ids_back ms ns xs rest hm hn end e =
    (all_back IsPlain (λ l h. h.0) (map positive ms) (map positive ns) 10 xs rest (plain_all ms hm) (plain_all ns hn) (no_digit 10 (inl (omega arith)))
    (λ l r h f. end l.var r h.0 (subst (λ k. rest ≡ literal_text k ++ r) (plain_is l h) f))
    (ap (λ t. t ++ 48 ∷ 10 ∷ xs) (sym (ids_text ms)) ∙ e ∙ ap (λ t. t ++ rest) (ids_text ns))).1

-- ---- the id, and what follows it

id_assoc : (id : ℕ) (xs : List ℕ) → id_text id ++ xs ≡ decimal id ++ 32 ∷ xs
id_assoc id xs = append_assoc (decimal id) (codes " ") xs

-- behind the id: literals, hints and the line's end; or `d`, ids and the line's end
abbrev rest_of_addition : List Literal → List Literal → List ℕ → List ℕ
rest_of_addition c hints rest = flat_map literal_text c ++ 48 ∷ 32 ∷ (flat_map literal_text hints ++ 48 ∷ 10 ∷ rest)

abbrev rest_of_deletion : List ℕ → List ℕ → List ℕ
rest_of_deletion ids rest = 100 ∷ 32 ∷ (id_texts ids ++ 48 ∷ 10 ∷ rest)

addition_text : (id : ℕ) (c hints : List Literal) (rest : List ℕ) → addition_line id c hints ++ (10 ∷ rest) ≡ decimal id ++ 32 ∷ rest_of_addition c hints rest
addition_text id c hints rest =
    append_assoc (decimal id) (codes " " ++ (flat_map literal_text c ++ (codes "0 " ++ (flat_map literal_text hints ++ codes "0")))) (10 ∷ rest)
    ∙ ap (λ t. decimal id ++ 32 ∷ t) (append_assoc (flat_map literal_text c) (codes "0 " ++ (flat_map literal_text hints ++ codes "0")) (10 ∷ rest)
    ∙ ap (λ t. flat_map literal_text c ++ 48 ∷ 32 ∷ t) (append_assoc (flat_map literal_text hints) (codes "0") (10 ∷ rest)))

deletion_text : (id : ℕ) (ids rest : List ℕ) → deletion_line id ids ++ (10 ∷ rest) ≡ decimal id ++ 32 ∷ rest_of_deletion ids rest
deletion_text id ids rest =
    append_assoc (decimal id) (codes " " ++ (codes "d " ++ (id_texts ids ++ codes "0"))) (10 ∷ rest)
    ∙ ap (λ t. decimal id ++ 32 ∷ 100 ∷ 32 ∷ t) (append_assoc (id_texts ids) (codes "0") (10 ∷ rest))

module _ (text : List ℕ) (id : ℕ) (after : List ℕ) (h : IsNumber id) (is : text ≡ id_text id ++ after) where
  behind : (other : ℕ) (r : List ℕ) → IsNumber other → text ≡ decimal other ++ 32 ∷ r → (id ≡ other) × (after ≡ r)
  behind other r k e = number_unique id other 32 after r (fits id h) (fits other k) (omega arith) (sym (id_assoc id after) ∙ sym is ∙ e)

  behind_addition : (other : ℕ) (c hints : List Literal) (rest : List ℕ) → IsNumber other → Starts text (addition_line other c hints) rest → (id ≡ other) × (after ≡ rest_of_addition c hints rest)
  behind_addition other c hints rest k e = behind other (rest_of_addition c hints rest) k (e ∙ addition_text other c hints rest)

  behind_deletion : (other : ℕ) (ids rest : List ℕ) → IsNumber other → Starts text (deletion_line other ids) rest → (id ≡ other) × (after ≡ rest_of_deletion ids rest)
  behind_deletion other ids rest k e = behind other (rest_of_deletion ids rest) k (e ∙ deletion_text other ids rest)

  -- a text that is no line behind its id
  none_behind : ((c hints : List Literal) (rest : List ℕ) → AreSigned c → AreSigned hints → after ≡ rest_of_addition c hints rest → ⊥)
      → ((ids rest : List ℕ) → AreNumbers ids → after ≡ rest_of_deletion ids rest → ⊥) → IsNoLine text
  none_behind no_add no_del = record {
    no_addition = λ s rest a. no_add s.clause (map positive s.hints) rest a.literals (signed s.hints a.hints) (behind_addition s.id s.clause (map positive s.hints) rest a.id a.starts).1;
    no_deletion = λ rest d. no_del d.ids rest d.ids_fit (behind_deletion d.id d.ids rest d.id_fits d.starts).1;
    no_rat = λ r. no_add r.clause r.hints r.rest r.literals r.signed (behind_addition r.id r.clause r.hints r.rest r.id_fits r.starts).1;
  }
    where
      signed : (ns : List ℕ) → AreNumbers ns → AreSigned (map positive ns)
      signed [] a = tt
      signed (n ∷ ns) a = (a.0, signed ns a.1)

-- ---- one number

pub numberless_zero : (text rest : List ℕ) (n : ℕ) → n < 2 ^ 64 → text ≡ decimal n ++ 32 ∷ rest → (IsNumber n → ⊥) → IsNumberless text
numberless_zero text rest n h e out k r hk f =
    let q = number_unique n k 32 rest r h (fits k hk) (omega arith) (sym e ∙ f ∙ after_sign k r) in
    out (subst IsNumber (sym q.0) hk)

pub numberless_none : (text : List ℕ) → ((n : ℕ) (rest : List ℕ) → n < 2 ^ 64 → text ≢ decimal n ++ 32 ∷ rest) → IsNumberless text
numberless_none text none k r hk f = none k r (fits k hk) (f ∙ after_sign k r)

-- behind a sign
pub end_signed : (text digits : List ℕ) → text ≡ codes "-" ++ digits → IsNumberless digits → IsEnd text
end_signed text digits e none l r h f = by_sign l.negative (sym e ∙ f)
  where
    by_sign : (b : Bool) → codes "-" ++ digits ≡ (cond b (codes "-") [] ++ (decimal l.var ++ codes " ")) ++ r → ⊥
    by_sign true q = none l.var r h (same_tail 45 45 _ _ q)
    by_sign false q = digits_first l.var 45 r digits (fits l.var h) (no_digit 45 (inl (omega arith))) (sym (after_sign l.var r) ∙ sym q)

-- where there is none
pub end_unsigned : (text : List ℕ) → ((digits : List ℕ) → text ≡ codes "-" ++ digits → ⊥) → IsNumberless text → IsEnd text
end_unsigned text bare none l r h f = by_sign l.negative f
  where
    by_sign : (b : Bool) → text ≡ (cond b (codes "-") [] ++ (decimal l.var ++ codes " ")) ++ r → ⊥
    by_sign true q = bare _ q
    by_sign false q = none l.var r h q

-- ---- lists of numbers, one more at a time

literal_some : (l : Literal) → 1 ≤ length (literal_text l)
literal_some l = by_sign l.negative
  where
    size : length (decimal l.var ++ codes " ") ≡ length (decimal l.var) + 1
    size = simp length-append refl

    by_sign : (b : Bool) → 1 ≤ length (cond b (codes "-") [] ++ (decimal l.var ++ codes " "))
    by_sign true = omega (arith, size)
    by_sign false = omega (arith, size)

pub shorter : (l : Literal) (text rest : List ℕ) → text ≡ literal_text l ++ rest → length rest < length text
shorter l text rest e =
    let some = literal_some l in
    let size : length (literal_text l ++ rest) ≡ length (literal_text l) + length rest = simp length-append refl in
    let same = ap length e in
    omega arith

push_all : {X : Type 0} (P : X → Type 0) (xs : List X) (x : X) → AllByRecursion P xs → P x → AllByRecursion P (xs ++ x ∷ [])
push_all P [] x h k = (k, tt)
push_all P (y ∷ ys) x h k = (h.0, push_all P ys x h.1 k)

push_text : (ls : List Literal) (l : Literal) (text rest after : List ℕ) → text ≡ flat_map literal_text ls ++ rest → rest ≡ literal_text l ++ after → text ≡ flat_map literal_text (ls ++ l ∷ []) ++ after
push_text ls l text rest after e f =
    e ∙ ap (λ r. flat_map literal_text ls ++ r) f ∙ sym (append_assoc (flat_map literal_text ls) (literal_text l) after)
    ∙ ap (λ t. t ++ after) (flat_map_more literal_text [] ls l)

-- the text begins with these literals
pub record Literals (text : List ℕ) (lits : List Literal) (rest : List ℕ) : Type 0 where
  pub fit : AreSigned lits
  pub text_is : text ≡ flat_map literal_text lits ++ rest

pub Literals-none : (text : List ℕ) → Literals text [] text
Literals-none text = record { fit = tt; text_is = refl }

pub Literals-more : (text : List ℕ) (lits : List Literal) (rest : List ℕ) (l : Literal) (after : List ℕ) → Literals text lits rest → IsNumber l.var → rest ≡ literal_text l ++ after → Literals text (lits ++ l ∷ []) after
Literals-more text lits rest l after h k e = record { fit = push_all (λ l. IsNumber l.var) lits l h.fit k; text_is = push_text lits l text rest after h.text_is e }

pub Literals-all : (text : List ℕ) (lits : List Literal) (rest : List ℕ) → Literals text lits rest → IsEnd rest → LiteralsAre text lits rest
Literals-all text lits rest h end = record { fit = h.fit; text_is = h.text_is; end = end }

-- .. without their signs
pub record Hints (text : List ℕ) (vars : List ℕ) (negative : Bool) (rest : List ℕ) : Type 0 where
  pub hints : List Literal
  pub read : Literals text hints rest
  pub vars_are : map (λ l. l.var) hints ≡ vars
  pub sign : list_any (λ l. l.negative) hints ≡ negative

pub Hints-none : (text : List ℕ) → Hints text [] false text
Hints-none text = record { hints = []; read = Literals-none text; vars_are = refl; sign = refl }

pub Hints-more : (text vars : List ℕ) (negative : Bool) (rest : List ℕ) (l : Literal) (after : List ℕ) → Hints text vars negative rest → IsNumber l.var → rest ≡ literal_text l ++ after → Hints text (vars ++ l.var ∷ []) (negative || l.negative) after
Hints-more text vars negative rest l after h k e = record {
  hints = h.hints ++ l ∷ [];
  read = Literals-more text h.hints rest l after h.read k e;
  vars_are = map-append (λ (l : Literal). l.var) h.hints (l ∷ []) ∙ ap (λ v. v ++ l.var ∷ []) h.vars_are;
  sign = any_push h.hints ∙ ap (λ b. b || l.negative) h.sign;
}
  where
    or_assoc : (a b c : Bool) → (a || (b || c)) ≡ ((a || b) || c)
    or_assoc true b c = refl
    or_assoc false b c = refl

    or_false : (a : Bool) → (a || false) ≡ a
    or_false true = refl
    or_false false = refl

    any_push : (ls : List Literal) → list_any (λ l. l.negative) (ls ++ l ∷ []) ≡ (list_any (λ l. l.negative) ls || l.negative)
    any_push [] = or_false l.negative
    any_push (m ∷ ms) = ap (λ b. m.negative || b) (any_push ms) ∙ or_assoc m.negative (list_any (λ l. l.negative) ms) l.negative

pub Hints-all : (text vars : List ℕ) (negative : Bool) (rest : List ℕ) → Hints text vars negative rest → IsEnd rest → HintsAre text vars negative rest
Hints-all text vars negative rest h end = record { hints = h.hints; fit = h.read.fit; vars_are = h.vars_are; sign = h.sign; text_is = h.read.text_is; end = end }

-- .. numbers
pub record Numbers (text : List ℕ) (rest : List ℕ) : Type 0 where
  pub ids : List ℕ
  pub fit : AreNumbers ids
  pub text_is : text ≡ id_texts ids ++ rest

pub Numbers-none : (text : List ℕ) → Numbers text text
Numbers-none text = record { ids = []; fit = tt; text_is = refl }

pub Numbers-more : (text rest : List ℕ) (n : ℕ) (after : List ℕ) → Numbers text rest → IsNumber n → rest ≡ literal_text (positive n) ++ after → Numbers text after
Numbers-more text rest n after h k e = record {
  ids = h.ids ++ n ∷ [];
  fit = push_all IsNumber h.ids n h.fit k;
  text_is = h.text_is ∙ ap (λ r. id_texts h.ids ++ r) e ∙ sym (append_assoc (id_texts h.ids) (literal_text (positive n)) after)
      ∙ ap (λ t. t ++ after) (flat_map_more (λ n. literal_text (positive n)) [] h.ids n);
}

pub Numbers-all : (text rest : List ℕ) → Numbers text rest → IsNumberless rest → NumbersEnd text rest
Numbers-all text rest h end = record { ids = h.ids; fit = h.fit; text_is = h.text_is; end = end }

-- ---- what a line begins with

line_end : NoDigit 10
line_end = no_digit 10 (inl (omega arith))

pub no_ids : (text rest : List ℕ) → NumbersEnd text rest → ((r : List ℕ) → rest ≡ codes "0\n" ++ r → ⊥) → NoIds text
no_ids text rest h bare r a = bare r (sym (ids_back a.ids h.ids r rest a.fit h.fit h.end (sym a.text_is ∙ h.text_is)))

pub are_ids : (text rest r : List ℕ) → NumbersEnd text rest → rest ≡ codes "0\n" ++ r → AreIds text r
are_ids text rest r h e = record { ids = h.ids; fit = h.fit; text_is = h.text_is ∙ ap (λ t. id_texts h.ids ++ t) e }

pub deletion_of : (text rest : List ℕ) → NumbersEnd text rest → (r : Option (Bor (List ℕ))) → MatchOption r ((x : List ℕ) → rest ≢ codes "0\n" ++ x) (λ x. rest ≡ codes "0\n" ++ x.now)
    → MatchOption r (NoIds text) (λ x. AreIds text x.now)
deletion_of text rest h None bare = no_ids text rest h bare
deletion_of text rest h (Some x) e = are_ids text rest x.now h e

module _ (text : List ℕ) (id : ℕ) (after : List ℕ) (h : IsNumber id) (is : text ≡ id_text id ++ after) where
  -- after `d`
  pub no_deletion_line : (ids : List ℕ) → after ≡ codes "d " ++ ids → NoIds ids → IsNoLine text
  no_deletion_line ids e none = none_behind text id after h is
      (λ c hints rest fc fh f. not_literals c hints rest fc (sym e ∙ f))
      (λ ns rest fn f. none rest (record { ids = ns; fit = fn; text_is = same_tail 32 32 _ _ (same_tail 100 100 _ _ (sym e ∙ f)) }))
    where
      not_literals : (c hints : List Literal) (rest : List ℕ) → AreSigned c → codes "d " ++ ids ≡ rest_of_addition c hints rest → ⊥
      not_literals [] hints rest fc f = let q : 100 ≡ 48 = same_head 100 48 _ _ f in omega (arith, q)
      not_literals (l ∷ ls) hints rest fc f =
          d_no_literal l (flat_map literal_text ls ++ 48 ∷ 32 ∷ (flat_map literal_text hints ++ 48 ∷ 10 ∷ rest)) (32 ∷ ids) fc.0
          (f ∙ append_assoc (literal_text l) (flat_map literal_text ls) (48 ∷ 32 ∷ (flat_map literal_text hints ++ 48 ∷ 10 ∷ rest)))

  pub deletion_is : (ids rest : List ℕ) → after ≡ codes "d " ++ ids → AreIds ids rest → IsDeletion text rest
  deletion_is ids rest e a = record {
    id = id;
    ids = a.ids;
    id_fits = h;
    ids_fit = a.fit;
    starts = is ∙ id_assoc id after ∙ ap (λ t. decimal id ++ 32 ∷ t) (e ∙ ap (λ t. codes "d " ++ t) a.text_is) ∙ sym (deletion_text id a.ids rest);
  }

  module _ (bare : IsNoDeletion after) (lits : List Literal) (rest : List ℕ) (ls : LiteralsAre after lits rest) where
    bare_deletion : (ns r : List ℕ) → AreNumbers ns → after ≡ rest_of_deletion ns r → ⊥
    bare_deletion ns r fn f = bare (id_texts ns ++ 48 ∷ 10 ∷ r) f

    -- no `0` behind the literals
    pub no_literals_line : ((r : List ℕ) → rest ≡ codes "0 " ++ r → ⊥) → IsNoLine text
    no_literals_line missing = none_behind text id after h is
        (λ c hints r fc fh f. missing (flat_map literal_text hints ++ 48 ∷ 10 ∷ r) (sym (literals_back c lits 32 _ rest fc ls.fit blank ls.end (sym f ∙ ls.text_is)).1))
        bare_deletion

    module _ (behind_zero : List ℕ) (zero_is : rest ≡ codes "0 " ++ behind_zero) (vars : List ℕ) (negative : Bool) (last : List ℕ) (hs : HintsAre behind_zero vars negative last) where
      -- no `0` and line's end behind the hints
      pub no_hints_line : ((r : List ℕ) → last ≡ codes "0\n" ++ r → ⊥) → IsNoLine text
      no_hints_line missing = none_behind text id after h is
          (λ c hints r fc fh f.
          let q = (literals_back c lits 32 (flat_map literal_text hints ++ 48 ∷ 10 ∷ r) rest fc ls.fit blank ls.end (sym f ∙ ls.text_is)).1 in
          let b : flat_map literal_text hints ++ 48 ∷ 10 ∷ r ≡ behind_zero = same_tail 32 32 _ _ (same_tail 48 48 _ _ (q ∙ zero_is)) in
          missing r (sym (literals_back hints hs.hints 10 r last fh hs.fit line_end hs.end (b ∙ hs.text_is)).1))
          bare_deletion

      whole_text : (r : List ℕ) → last ≡ codes "0\n" ++ r → Starts text (addition_line id lits hs.hints) r
      whole_text r e =
          is ∙ id_assoc id after ∙ ap (λ t. decimal id ++ 32 ∷ t)
          (ls.text_is ∙ ap (λ t. flat_map literal_text lits ++ t) (zero_is ∙ ap (λ t. codes "0 " ++ t) (hs.text_is ∙ ap (λ t. flat_map literal_text hs.hints ++ t) e)))
          ∙ sym (addition_text id lits hs.hints r)

      some_negative : (ms : List Literal) → list_any (λ l. l.negative) ms ≡ true → (l : Literal) × (Contains ms l × (l.negative ≡ true))
      some_negative [] e = absurd (cc)
      some_negative (m ∷ ms) e = by_sign m.negative refl (some_negative ms)
        where
          by_sign : (b : Bool) → m.negative ≡ b → (list_any (λ l. l.negative) ms ≡ true → (l : Literal) × (Contains ms l × (l.negative ≡ true))) → (l : Literal) × (Contains (m ∷ ms) l × (l.negative ≡ true))
          by_sign true q rest = (m, ((0, omega arith, refl), q))
          by_sign false q rest =
              let r = rest (sym (ap (λ b. b || list_any (λ l. l.negative) ms) q) ∙ e) in
              (r.0, ((suc r.1.0.0, omega (arith, r.1.0.1), r.1.0.2), r.1.1))

      pub rat_is : (r : List ℕ) → last ≡ codes "0\n" ++ r → negative ≡ true → IsRat text
      rat_is r e n = record {
        id = id;
        clause = lits;
        hints = hs.hints;
        rest = r;
        id_fits = h;
        literals = ls.fit;
        signed = hs.fit;
        negative = some_negative hs.hints (hs.sign ∙ n);
        starts = whole_text r e;
      }

      all_positive : (ms : List Literal) → list_any (λ l. l.negative) ms ≡ false → map positive (map (λ l. l.var) ms) ≡ ms
      all_positive [] e = refl
      all_positive (m ∷ ms) e = by_sign m.negative refl (all_positive ms)
        where
          by_sign : (b : Bool) → m.negative ≡ b → (list_any (λ l. l.negative) ms ≡ false → map positive (map (λ l. l.var) ms) ≡ ms) → positive m.var ∷ map positive (map (λ l. l.var) ms) ≡ m ∷ ms
          by_sign true q rest = let bad : true ≡ false = sym (ap (λ b. b || list_any (λ l. l.negative) ms) q) ∙ e in cc
          by_sign false q rest = ap₂ (λ a b. a ∷ b) (ap (λ b. record { var = m.var; negative = b }) (sym q)) (rest (sym (ap (λ b. b || list_any (λ l. l.negative) ms) q) ∙ e))

      numbers_of : (ms : List Literal) → AreSigned ms → AreNumbers (map (λ l. l.var) ms)
      numbers_of [] a = tt
      numbers_of (m ∷ ms) a = (a.0, numbers_of ms a.1)

      pub addition_is : (r : List ℕ) → last ≡ codes "0\n" ++ r → negative ≡ false → IsAddition text (record { id = id; clause = lits; hints = vars }) r
      addition_is r e n =
          let back : map positive vars ≡ hs.hints = ap (map positive) (sym hs.vars_are) ∙ all_positive hs.hints (hs.sign ∙ n) in
          record {
            id = h;
            literals = ls.fit;
            hints = subst AreNumbers hs.vars_are (numbers_of hs.hints hs.fit);
            starts = whole_text r e ∙ ap (λ q. addition_line id lits q ++ (10 ∷ r)) (sym back);
          }

-- the id of a line is a number with a blank behind it
pub id_then : (text : List ℕ) (id : ℕ) (after : List ℕ) → text ≡ literal_text (positive id) ++ after → text ≡ id_text id ++ after
id_then text id after e = e

pub no_id_line : (text : List ℕ) → IsNumberless text → IsNoLine text
no_id_line text none = record {
  no_addition = λ s rest a. none s.id _ a.id (a.starts ∙ addition_text s.id s.clause (map positive s.hints) rest ∙ sym (id_assoc s.id _));
  no_deletion = λ rest d. none d.id _ d.id_fits (d.starts ∙ deletion_text d.id d.ids rest ∙ sym (id_assoc d.id _));
  no_rat = λ r. none r.id _ r.id_fits (r.starts ∙ addition_text r.id r.clause r.hints r.rest ∙ sym (id_assoc r.id _));
}

-- ---- one way to read a line

zero_ends : (c : ℕ) (ys : List ℕ) → NoDigit c → IsEnd (48 ∷ c ∷ ys)
zero_ends c ys nd l r h e = zero_no_literal l c r ys h nd e

rests_back : (c d hints others : List Literal) (r q : List ℕ) → AreSigned c → AreSigned d → AreSigned hints → AreSigned others → rest_of_addition c hints r ≡ rest_of_addition d others q
    → (c ≡ d) × ((hints ≡ others) × (r ≡ q))
rests_back c d hints others r q hc hd hh ho e =
    let s = literals_back c d 32 (flat_map literal_text hints ++ 48 ∷ 10 ∷ r) (48 ∷ 32 ∷ (flat_map literal_text others ++ 48 ∷ 10 ∷ q)) hc hd blank (zero_ends 32 _ blank) e in
    let f = same_tail 32 32 _ _ (same_tail 48 48 _ _ s.1) in
    let t = literals_back hints others 10 r (48 ∷ 10 ∷ q) hh ho line_end (zero_ends 10 _ line_end) f in
    (s.0, (t.0, same_tail 10 10 _ _ (same_tail 48 48 _ _ t.1)))

not_both : (c hints : List Literal) (r ids q : List ℕ) → AreSigned c → rest_of_addition c hints r ≡ rest_of_deletion ids q → ⊥
not_both [] hints r ids q hc e = let z : 48 ≡ 100 = same_head 48 100 _ _ e in omega (arith, z)
not_both (l ∷ ls) hints r ids q hc e = d_no_literal l _ _ hc.0 (sym e ∙ append_assoc (literal_text l) (flat_map literal_text ls) (48 ∷ 32 ∷ (flat_map literal_text hints ++ 48 ∷ 10 ∷ r)))

signed_all : (ns : List ℕ) → AreNumbers ns → AreSigned (map positive ns)
signed_all [] a = tt
signed_all (n ∷ ns) a = (a.0, signed_all ns a.1)

vars_back : (ns : List ℕ) → map (λ l. l.var) (map positive ns) ≡ ns
vars_back [] = refl
vars_back (n ∷ ns) = ap (λ t. n ∷ t) (vars_back ns)

-- an addition's id, and what stands behind it
same_behind : (text : List ℕ) (m n : ℕ) (a b : List ℕ) → IsNumber m → IsNumber n → text ≡ decimal m ++ 32 ∷ a → text ≡ decimal n ++ 32 ∷ b → (m ≡ n) × (a ≡ b)
same_behind text m n a b hm hn e f = number_unique m n 32 a b (fits m hm) (fits n hn) (omega arith) (sym e ∙ f)

addition_behind : (text : List ℕ) (s : Step) (r : List ℕ) → IsAddition text s r → text ≡ decimal s.id ++ 32 ∷ rest_of_addition s.clause (map positive s.hints) r
addition_behind text s r a = a.starts ∙ addition_text s.id s.clause (map positive s.hints) r

deletion_behind : (text r : List ℕ) (d : IsDeletion text r) → text ≡ decimal d.id ++ 32 ∷ rest_of_deletion d.ids r
deletion_behind text r d = d.starts ∙ deletion_text d.id d.ids r

rat_behind : (text : List ℕ) (r : IsRat text) → text ≡ decimal r.id ++ 32 ∷ rest_of_addition r.clause r.hints r.rest
rat_behind text r = r.starts ∙ addition_text r.id r.clause r.hints r.rest

pub one_addition : (text : List ℕ) (s t : Step) (r q : List ℕ) → IsAddition text s r → IsAddition text t q → (s ≡ t) × (r ≡ q)
one_addition text s t r q a b =
    let i = same_behind text s.id t.id _ _ a.id b.id (addition_behind text s r a) (addition_behind text t q b) in
    let p = rests_back s.clause t.clause (map positive s.hints) (map positive t.hints) r q a.literals b.literals (signed_all s.hints a.hints) (signed_all t.hints b.hints) i.1 in
    let hints : s.hints ≡ t.hints = sym (vars_back s.hints) ∙ ap (map (λ l. l.var)) p.1.0 ∙ vars_back t.hints in
    let made : ℕ → List Literal → List ℕ → Step = λ i c h. record { id = i; clause = c; hints = h } in
    (ap (λ i. made i s.clause s.hints) i.0 ∙ ap₂ (made t.id) p.0 hints, p.1.1)

pub one_deletion : (text r q : List ℕ) → IsDeletion text r → IsDeletion text q → r ≡ q
one_deletion text r q d e =
    let i = same_behind text d.id e.id _ _ d.id_fits e.id_fits (deletion_behind text r d) (deletion_behind text q e) in
    let f = same_tail 32 32 _ _ (same_tail 100 100 _ _ i.1) in
    same_tail 10 10 _ _ (same_tail 48 48 _ _ (ids_back d.ids e.ids r (48 ∷ 10 ∷ q) d.ids_fit e.ids_fit (λ n x h g. zero_no_literal (positive n) 10 x q h line_end g) f))

pub addition_or_deletion : (text : List ℕ) (s : Step) (r q : List ℕ) → IsAddition text s r → IsDeletion text q → ⊥
addition_or_deletion text s r q a d =
    let i = same_behind text s.id d.id _ _ a.id d.id_fits (addition_behind text s r a) (deletion_behind text q d) in
    not_both s.clause (map positive s.hints) r d.ids q a.literals i.1

all_plain : (ns : List ℕ) (l : Literal) → Contains (map positive ns) l → l.negative ≡ true → ⊥
all_plain ns l c e = go ns c.0 c.1 c.2
  where
    go : (ns : List ℕ) (k : ℕ) → k < length (map positive ns) → slice_index_or (map positive ns) k l ≡ l → ⊥
    go [] k b q = omega arith
    go (n ∷ ns) zero b q = let bad : true ≡ false = sym e ∙ ap (λ x. x.negative) (sym q) in cc
    go (n ∷ ns) (suc k) b q = go ns k (omega (arith, b)) q

pub addition_or_rat : (text : List ℕ) (s : Step) (r : List ℕ) → IsAddition text s r → IsRat text → ⊥
addition_or_rat text s r a t =
    let i = same_behind text s.id t.id _ _ a.id t.id_fits (addition_behind text s r a) (rat_behind text t) in
    let p = rests_back s.clause t.clause (map positive s.hints) t.hints r t.rest a.literals t.literals (signed_all s.hints a.hints) t.signed i.1 in
    all_plain s.hints t.negative.0 (subst (λ hs. Contains hs t.negative.0) (sym p.1.0) t.negative.1.0) t.negative.1.1

pub deletion_or_rat : (text q : List ℕ) → IsDeletion text q → IsRat text → ⊥
deletion_or_rat text q d t =
    let i = same_behind text t.id d.id _ _ t.id_fits d.id_fits (rat_behind text t) (deletion_behind text q d) in
    not_both t.clause t.hints t.rest d.ids q t.literals i.1
