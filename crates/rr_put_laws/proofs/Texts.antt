-- The texts of new tokens are calm.
use Rattle.std.proofs.Common.{◌≡◌, ◌⊎◌, inl, inr, ℕ, zero, suc, ◌+◌, ◌/◌, ◌%◌, ◌<◌, ◌≤◌, ◌==◌, ◌&&◌, ◌||◌, nat_le, not, Bool, true, false, if◌then◌else◌, List, [], ◌∷◌, ◌++◌, get_or, refl, sym, ◌∙◌, ap, subst, is_none, arith}
use Rattle.std.specs.List.{list_all}
use Rattle.std.proofs.lemmas.Bool.{and_parts, and_from, cases_lt, cases_Bool, ne_eqb, le-leb, lt-ltb, le-ltb, false≢true}
use Rattle.std.proofs.lemmas.Bool.Decides.{nat_tests}
use Rattle.std.proofs.lemmas.List.Folds.{list_all-append}
use Rattle.rr_syntax.specs.Words.{keywords, marks}
use Rattle.rr_lex.specs.Bytes.{begins, is_letter, is_name_byte, is_printable}
use Rattle.rr_lex.specs.Numbers.{hex_byte, hex_text, size_text, sign_text}
use Rattle.rr_lex.specs.Patch.{IsNameText, is_plain_name, name_text, new_keyword, new_mark, new_name, new_literal}
use Rattle.rr_lex.specs.Tokens.{place_of}
use Rattle.rr_lex.proofs.Places.{all_below, below_all}
use Rattle.rr_lex.proofs.Written.{size_one, size_two, size_three}
use Rattle.rr_directive.specs.Bytes.{within}
use Rattle.rr_put_laws.proofs.Calm.{quiet, Calm, quiet_calm, byte_calm, escaped_calm, before_digit}

quiet_from : (b : ℕ) → 33 ≤ b → b ≤ 126 → (b ≡ 47 → ⊥) → (b ≡ 92 → ⊥) → (b ≡ 96 → ⊥) → quiet b ≡ true
quiet_from b l m x y z =
    and_from (within 33 126 b) (not (b == 47) && (not (b == 92) && not (b == 96))) (and_from (nat_le 33 b) (nat_le b 126) (le-leb 33 b l) (le-leb b 126 m))
    (and_from (not (b == 47)) (not (b == 92) && not (b == 96)) (ap not (ne_eqb b 47 x)) (and_from (not (b == 92)) (not (b == 96)) (ap not (ne_eqb b 92 y)) (ap not (ne_eqb b 96 z))))

all_quiet : (p : ℕ → Bool) → ((b : ℕ) → p b ≡ true → quiet b ≡ true) → (text : List ℕ) → list_all p text ≡ true → list_all quiet text ≡ true
all_quiet p f [] h = refl
all_quiet p f (b ∷ text) h = let x = and_parts (p b) (list_all p text) h in and_from (quiet b) (list_all quiet text) (f b x.0) (all_quiet p f text x.1)

-- reserved words
keywords_quiet : all_below (λ k. list_all quiet (get_or keywords k [])) 124 ≡ true
unfolding all_below
keywords_quiet = refl

pub keyword_calm : (k : ℕ) → k < 124 → Calm (new_keyword k).text
keyword_calm k l = quiet_calm (get_or keywords k []) (below_all (λ k. list_all quiet (get_or keywords k [])) 124 k keywords_quiet l)

-- marks
is_byte : List ℕ → Bool
is_byte [] = false
is_byte (b ∷ []) = true
is_byte (b ∷ (c ∷ bs)) = false

mark_test : ℕ → Bool
mark_test m = is_byte (get_or marks m []) || list_all quiet (get_or marks m [])

marks_pass : all_below mark_test 45 ≡ true
unfolding all_below mark_test is_byte
marks_pass = refl

test_calm : (text : List ℕ) → (is_byte text || list_all quiet text) ≡ true → Calm text
unfolding is_byte
test_calm [] h = quiet_calm [] refl
test_calm (b ∷ []) h = byte_calm b
test_calm (b ∷ (c ∷ bs)) h = quiet_calm (b ∷ (c ∷ bs)) h

pub mark_calm : (m : ℕ) → m < 45 → Calm (new_mark m).text
unfolding mark_test
mark_calm m l = test_calm (get_or marks m []) (below_all mark_test 45 m marks_pass l)

-- names
name_low : (b : ℕ) → is_name_byte b ≡ true → 33 ≤ b
unfolding is_name_byte
name_low b h = grind (arith, nat_tests)

name_high : (b : ℕ) → is_name_byte b ≡ true → b ≤ 126
unfolding is_name_byte
name_high b h = grind (arith, nat_tests)

name_other : (b c : ℕ) → is_name_byte b ≡ true → is_name_byte c ≡ false → b ≡ c → ⊥
name_other b c h f e = false≢true (sym f ∙ ap is_name_byte (sym e) ∙ h)

no_slash : is_name_byte 47 ≡ false
unfolding is_name_byte
no_slash = refl

no_backslash : is_name_byte 92 ≡ false
unfolding is_name_byte
no_backslash = refl

no_backtick : is_name_byte 96 ≡ false
unfolding is_name_byte
no_backtick = refl

name_quiet : (b : ℕ) → is_name_byte b ≡ true → quiet b ≡ true
name_quiet b h = quiet_from b (name_low b h) (name_high b h) (name_other b 47 h no_slash) (name_other b 92 h no_backslash) (name_other b 96 h no_backtick)

plain_calm : (name : List ℕ) → is_plain_name name ≡ true → Calm name
unfolding is_plain_name
plain_calm name h =
    let x = (and_parts (begins is_letter name) (list_all is_name_byte name && is_none (place_of name keywords)) h).1 in
    quiet_calm name (all_quiet is_name_byte name_quiet name (and_parts (list_all is_name_byte name) (is_none (place_of name keywords)) x).0)

other_calm : (name : List ℕ) → IsNameText name → Calm (92 ∷ name)
unfolding is_printable
other_calm name h = escaped_calm name h.1 h.0

pub name_calm : (name : List ℕ) → IsNameText name → Calm (new_name name).text
name_calm name h = by_kind (cases_Bool (is_plain_name name))
  where
    by_kind : (is_plain_name name ≡ true) ⊎ (is_plain_name name ≡ false) → Calm (name_text name)
    by_kind (inl e) = subst Calm (sym (ap (λ (t : Bool). if t then name else 92 ∷ name) e)) (plain_calm name e)
    by_kind (inr e) = subst Calm (sym (ap (λ (t : Bool). if t then name else 92 ∷ name) e)) (other_calm name h)

-- literals
low_quiet : (d : ℕ) → d < 10 → quiet (48 + d) ≡ true
low_quiet d l = quiet_from (48 + d) (omega arith) (omega (arith, l)) (λ e. omega (arith, e)) (λ e. omega (arith, e, l)) (λ e. omega (arith, e, l))

hex_quiet : (d : ℕ) → d < 16 → quiet (hex_byte d) ≡ true
hex_quiet d l = by_size (cases_lt d 10)
  where
    by_size : (d < 10) ⊎ (10 ≤ d) → quiet (hex_byte d) ≡ true
    by_size (inl m) = ap (λ (t : Bool). quiet (if t then 48 + d else 87 + d)) (lt-ltb d 10 m) ∙ low_quiet d m
    by_size (inr m) =
        ap (λ (t : Bool). quiet (if t then 48 + d else 87 + d)) (le-ltb d 10 m)
        ∙ quiet_from (87 + d) (omega arith) (omega (arith, l)) (λ e. omega (arith, e)) (λ e. omega (arith, e, m)) (λ e. omega (arith, e, m))

joined : (xs ys : List ℕ) → list_all quiet xs ≡ true → list_all quiet ys ≡ true → list_all quiet (xs ++ ys) ≡ true
joined xs ys a b = list_all-append quiet xs ys ∙ and_from (list_all quiet xs) (list_all quiet ys) a b

hex_text_quiet : (n v : ℕ) → list_all quiet (hex_text n v) ≡ true
unfolding hex_text
hex_text_quiet zero v = refl
hex_text_quiet (suc n) v =
    joined (hex_text n (v / 16)) (hex_byte (v % 16) ∷ []) (hex_text_quiet n (v / 16))
    (and_from (quiet (hex_byte (v % 16))) true (hex_quiet (v % 16) (omega arith)) refl)

rest_of : Bool → List ℕ → List ℕ
rest_of signed digits = 39 ∷ (sign_text signed ++ (104 ∷ digits))

rest_quiet : (signed : Bool) (digits : List ℕ) → list_all quiet digits ≡ true → list_all quiet (rest_of signed digits) ≡ true
unfolding rest_of
rest_quiet true digits h = h
rest_quiet false digits h = h

sized_calm : (w : ℕ) (rest : List ℕ) → list_all quiet rest ≡ true → Calm (size_text w ++ rest)
sized_calm w rest h = by_size (cases_lt w 10) (cases_lt w 100)
  where
    by_size : (w < 10) ⊎ (10 ≤ w) → (w < 100) ⊎ (100 ≤ w) → Calm (size_text w ++ rest)
    by_size (inl l) k = subst (λ (s : List ℕ). Calm (s ++ rest)) (size_one w l) (quiet_calm ((48 + w) ∷ rest) (and_from (quiet (48 + w)) (list_all quiet rest) (low_quiet w l) h))
    by_size (inr l) (inl m) =
        subst (λ (s : List ℕ). Calm (s ++ rest)) (size_two w l m)
        (quiet_calm ((48 + w / 10) ∷ ((48 + w % 10) ∷ rest))
        (and_from (quiet (48 + w / 10)) (quiet (48 + w % 10) && list_all quiet rest) (low_quiet (w / 10) (omega (arith, m)))
        (and_from (quiet (48 + w % 10)) (list_all quiet rest) (low_quiet (w % 10) (omega arith)) h)))
    by_size (inr l) (inr m) =
        subst (λ (s : List ℕ). Calm (s ++ rest)) (size_three w m)
        (before_digit (48 + w / 100) (48 + w / 10 % 10) ((48 + w % 10) ∷ rest) (λ e. omega (arith, e)) (omega arith) (omega arith)
        (and_from (quiet (48 + w / 10 % 10)) (quiet (48 + w % 10) && list_all quiet rest) (low_quiet (w / 10 % 10) (omega arith))
        (and_from (quiet (48 + w % 10)) (list_all quiet rest) (low_quiet (w % 10) (omega arith)) h)))

pub literal_calm : (w : ℕ) (signed : Bool) (v : ℕ) → Calm (new_literal w signed v).text
unfolding rest_of
literal_calm w signed v = sized_calm w (rest_of signed (hex_text ((w + 3) / 4) v)) (rest_quiet signed (hex_text ((w + 3) / 4) v) (hex_text_quiet ((w + 3) / 4) v))
