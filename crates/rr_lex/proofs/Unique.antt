-- No bytes have two token lists.
use Rattle.std.proofs.Common.{ℕ, suc, ◌≡◌, ◌+◌, ◌<◌, ◌^◌, List, [], ◌∷◌, ◌++◌, length, drop, true, false, ◌||◌, Some, refl, ap, ◌∙◌, sym, arith, subst}
use Rattle.std.specs.List.{prefix_len}
use Rattle.rr_lex.specs.declared.piece.Shape.{Shape}
use Rattle.rr_lex.specs.declared.piece.Piece.TheVariants as part
use Rattle.rr_lex.specs.declared.number.Base.{Base}
use Rattle.rr_lex.specs.Bytes.{is, begins, starts, is_digit, is_decimal, is_gap}
use Rattle.rr_lex.specs.Reading.{some_piece, word_of, number_len, number_of, in_range, checked}
use Rattle.rr_syntax.specs.Words.{Word, Digits}
use Rattle.rr_lex.specs.Tokens.{Lexeme, begins_with, attribute_begins, HasApostrophe, IsWhite, IsBroken, open_block, open_attribute, directive, no_digits, out_of_range, IsFault, broken, no_token, IsFirstFault, Stands, Read, here, white, token, AreTokens}
use Rattle.rr_lex.specs.Numbers.{Parts, AreParts, IsDecimal, text_of, decimal, based, number, digit, plain_literal, fits, literal, is_signed, radix_of, goes_on, is_wild}
use Rattle.std.proofs.lemmas.Bool.{false≢true, lt-ltb}
use Rattle.std.proofs.lemmas.List.{length-append}
use Rattle.rr_lex.specs.declared.piece.Wrong.{Wrong}
use Rattle.rr_lex.specs.declared.piece.Shape.TheVariants as shape
use Rattle.rr_lex.proofs.Runs.{bare_run}
use Rattle.rr_lex.proofs.NumberText.{based_len, based_of, decimal_len, decimal_of, dark_further, text_length}
use Rattle.rr_lex.proofs.Exact.{white_is, stands_read, read_stands, fronts, text_first, first_byte, found_number, fault_read}
use Rattle.rr_lex.proofs.Steps.{white_length, token_length}

empty_front : (text after : List ℕ) → [] ≡ text ++ after → 0 < length text → ⊥
empty_front [] after e h = omega arith
empty_front (b ∷ text) after e h = let l : 0 ≡ suc (length (text ++ after)) = ap length e in omega arith

stands_length : (w : Word) (text after : List ℕ) → Stands w text after → 0 < length text
stands_length w text after t = token_length w text after t.token

whites : (n m : ℕ) → part.White n ≡ part.White m → n ≡ m
whites n m e = cc

apart : (n m : ℕ) (s : Shape) → part.White n ≡ part.Text s m → ⊥
apart n m s e = absurd (cc)

texts : (n m : ℕ) (s u : Shape) → part.Text s n ≡ part.Text u m → (s ≡ u) × (n ≡ m)
texts n m s u e = (cc, cc)

same_white : (a b x y : List ℕ) → a ++ x ≡ b ++ y → IsWhite a x → IsWhite b y → length a ≡ length b
same_white a b x y e h k = whites _ _ (sym (white_is a x h) ∙ ap some_piece e ∙ white_is b y k)

no_both : (w : Word) (a b x y : List ℕ) → a ++ x ≡ b ++ y → IsWhite a x → Stands w b y → ⊥
no_both w a b x y e h k = let r = stands_read w b y k in apart _ _ r.0 (sym (white_is a x h) ∙ ap some_piece e ∙ r.1)

same_token : (v w : Word) (a b x y : List ℕ) → a ++ x ≡ b ++ y → Stands v a x → Stands w b y → (length a ≡ length b) × (v ≡ w)
same_token v w a b x y e h k =
    let r = stands_read v a x h in
    let s = stands_read w b y k in
    let t = texts _ _ r.0 s.0 (sym r.1 ∙ ap some_piece e ∙ s.1) in
    (t.1, r.2 ∙ ap (λ (u : Shape). word_of u a) t.0 ∙ ap (word_of s.0) (fronts a b x y e t.1).0 ∙ sym s.2)

pub unique : (m n at bt : ℕ) (bs cs : List ℕ) (ts us : List Lexeme) → Read m [] at bs ts → Read n [] bt cs us → at ≡ bt → bs ≡ cs → ts ≡ us
unique m n a b c d ts us (here at bs e w) (here bt cs f v) p q = refl
unique m n a b c d ts us (here at bs e w) (white bt cs y s vs v k r) p q = absurd (empty_front y s (sym w ∙ q ∙ v) (white_length y s k))
unique m n a b c d ts us (here at bs e w) (token bt cs y s x vs v t r) p q = absurd (empty_front y s (sym w ∙ q ∙ v) (stands_length x y s t))
unique m n a b c d ts us (white at bs x r xs w h i) (here bt cs f v) p q = absurd (empty_front x r (sym v ∙ sym q ∙ w) (white_length x r h))
unique m n a b c d ts us (white at bs x r xs w h i) (white bt cs y s vs v k j) p q =
    let l = same_white x y r s (sym w ∙ q ∙ v) h k in
    unique m n (at + length x) (bt + length y) r s xs vs i j (omega arith) (fronts x y r s (sym w ∙ q ∙ v) l).1
unique m n a b c d ts us (white at bs x r xs w h i) (token bt cs y s z vs v t j) p q = absurd (no_both z x y r s (sym w ∙ q ∙ v) h t)
unique m n a b c d ts us (token at bs x r z xs w t i) (here bt cs f v) p q = absurd (empty_front x r (sym v ∙ sym q ∙ w) (stands_length z x r t))
unique m n a b c d ts us (token at bs x r z xs w t i) (white bt cs y s vs v k j) p q = absurd (no_both z y x s r (sym v ∙ sym q ∙ w) k t)
unique m n a b c d ts us (token at bs x r z xs w t i) (token bt cs y s o vs v k j) p q =
    let l = same_token z o x y r s (sym w ∙ q ∙ v) t k in
    let rest : xs ≡ vs = unique m n (at + length x) (bt + length y) r s xs vs i j (omega arith) (fronts x y r s (sym w ∙ q ∙ v) l.0).1 in
    let e : at + length x ≡ bt + length y = omega arith in
    rw (l.1, p, rest) (ap (λ (g : ℕ). record { word = o; start = bt; end = g } ∷ vs) (omega arith))

pub one_list : (bs : List ℕ) (ts us : List Lexeme) → AreTokens bs ts → AreTokens bs us → ts ≡ us
one_list bs ts us r s = unique (length bs) (length bs) 0 0 bs bs ts us r s refl refl

decimal_length : (text : List ℕ) → IsDecimal text → 0 < length text
decimal_length [] d = absurd (false≢true d.0)
decimal_length (b ∷ text) d = omega arith

-- A number with an apostrophe is that token wherever a blank follows.
pub literal_alone : (p : Parts) (c : Base) → AreParts p c → fits p.size (radix_of c p.digits) p.digits ≡ true → (after : List ℕ) → Stands (Digits (literal p.size (is_signed p.sign) (radix_of c p.digits) p.digits)) (text_of p) (32 ∷ after)
unfolding in_range checked word_of
literal_alone p c a f after =
    let n : number_of (text_of p) ≡ Some (literal p.size (is_signed p.sign) (radix_of c p.digits) p.digits) = based_of p c a ∙ rw f refl in
    let l : number_len (text_of p ++ (32 ∷ after)) ≡ Some (length (text_of p)) = based_len p c (32 ∷ after) a ∙ ap Some (rw (bare_run (goes_on c p.digits) (32 ∷ after) (dark_further c (begins is_wild p.digits)).blank) (omega arith)) in
    let e : some_piece (text_of p ++ (32 ∷ after)) ≡ part.Text (shape.Number (literal p.size (is_signed p.sign) (radix_of c p.digits) p.digits)) (length (text_of p)) =
    first_byte (text_of p ++ (32 ∷ after)) (text_first (text_of p) (32 ∷ after) (based p c a refl)) ∙ found_number (text_of p) (32 ∷ after) l ∙ rw n refl in
    read_stands (shape.Number (literal p.size (is_signed p.sign) (radix_of c p.digits) p.digits)) (text_of p) (32 ∷ after) e (omega (arith, text_length p))

past_space : (after : List ℕ) → starts is_gap (32 ∷ after) ≡ starts is_gap after
unfolding is_gap
past_space after = let e : prefix_len is_gap (32 ∷ after) ≡ suc (prefix_len is_gap after) = omega arith in ap (λ (n : ℕ). drop n (32 ∷ after)) e

-- A plain decimal is that token where a blank and then, past blanks, no apostrophe follows.
pub decimal_alone : (text : List ℕ) → IsDecimal text → number 10 digit text < 2 ^ 32 → (after : List ℕ) → begins (is 39) (starts is_gap after) ≡ false → Stands (Digits (plain_literal text)) text (32 ∷ after)
unfolding in_range checked word_of is_decimal is_digit
decimal_alone text d f after q =
    let n : number_of text ≡ Some (plain_literal text) = decimal_of text d.1 ∙ rw (lt-ltb (number 10 digit text) (2 ^ 32) f) refl in
    let l : number_len (text ++ (32 ∷ after)) ≡ Some (length text) = decimal_len text (32 ∷ after) d.1 refl (ap (begins (is 39)) (past_space after) ∙ q) in
    let e : some_piece (text ++ (32 ∷ after)) ≡ part.Text (shape.Number (plain_literal text)) (length text) =
    first_byte (text ++ (32 ∷ after)) (text_first text (32 ∷ after) (decimal d)) ∙ found_number text (32 ∷ after) l ∙ rw n refl in
    read_stands (shape.Number (plain_literal text)) text (32 ∷ after) e (decimal_length text d)

empty_apostrophe : HasApostrophe [] → ⊥
empty_apostrophe t = let l : 0 ≡ length (t.0 ++ (t.1 ++ (39 ∷ t.2))) = ap length t.3 in let k : length (t.0 ++ (t.1 ++ (39 ∷ t.2))) ≡ length t.0 + (length t.1 + suc (length t.2)) = simp length-append in omega arith

empty_broken : (f : Wrong) → IsBroken [] f → ⊥
unfolding begins_with attribute_begins
empty_broken f (open_block h n e) = false≢true h
empty_broken f (open_attribute h n e) = false≢true h
empty_broken f (directive h n e) = false≢true h
empty_broken f (no_digits t n e) = empty_apostrophe t
empty_broken f (out_of_range text after w t l n e) = false≢true (ap (λ (b : List ℕ). begins is_digit b || begins (is 39) b) w ∙ text_first text after t)

empty_fault : (f : Wrong) → IsFault [] f → ⊥
empty_fault f (broken k) = empty_broken f k
empty_fault f (no_token b rest e n t o p) = let l : 0 ≡ suc (length rest) = ap length e in omega arith

white_fault : (f : Wrong) (text after : List ℕ) → IsWhite text after → IsFault (text ++ after) f → ⊥
white_fault f text after w k = let q : part.White (length text) ≡ part.Fault f = sym (white_is text after w) ∙ fault_read (text ++ after) f k in absurd (cc)

-- No bytes have both tokens and a fault.
pub no_fault : (m n at bt : ℕ) (bs cs rest : List ℕ) (ts us : List Lexeme) (f : Wrong) → Read m [] at bs ts → Read n rest bt cs us → IsFault rest f → bs ≡ cs → ⊥
no_fault m n a b c d rest ts us f (here at bs e w) (here bt cs g v) k q = empty_fault f (subst (λ (l : List ℕ). IsFault l f) (sym v ∙ sym q ∙ w) k)
no_fault m n a b c d rest ts us f (here at bs e w) (white bt cs y s vs v h r) k q = empty_front y s (sym w ∙ q ∙ v) (white_length y s h)
no_fault m n a b c d rest ts us f (here at bs e w) (token bt cs y s x vs v t r) k q = empty_front y s (sym w ∙ q ∙ v) (stands_length x y s t)
no_fault m n a b c d rest ts us f (white at bs x r xs w h i) (here bt cs g v) k q = white_fault f x r h (subst (λ (l : List ℕ). IsFault l f) (sym v ∙ sym q ∙ w) k)
no_fault m n a b c d rest ts us f (white at bs x r xs w h i) (white bt cs y s vs v l j) k q =
    no_fault m n (at + length x) (bt + length y) r s rest xs vs f i j k (fronts x y r s (sym w ∙ q ∙ v) (same_white x y r s (sym w ∙ q ∙ v) h l)).1
no_fault m n a b c d rest ts us f (white at bs x r xs w h i) (token bt cs y s z vs v t j) k q = no_both z x y r s (sym w ∙ q ∙ v) h t
no_fault m n a b c d rest ts us f (token at bs x r z xs w t i) (here bt cs g v) k q = t.sound f (subst (λ (l : List ℕ). IsFault l f) (sym v ∙ sym q ∙ w) k)
no_fault m n a b c d rest ts us f (token at bs x r z xs w t i) (white bt cs y s vs v l j) k q = no_both z y x s r (sym v ∙ sym q ∙ w) l t
no_fault m n a b c d rest ts us f (token at bs x r z xs w t i) (token bt cs y s o vs v l j) k q =
    no_fault m n (at + length x) (bt + length y) r s rest xs vs f i j k (fronts x y r s (sym w ∙ q ∙ v) (same_token z o x y r s (sym w ∙ q ∙ v) t l).0).1

pub one_answer : (bs : List ℕ) (ts : List Lexeme) (f : Wrong) (at : ℕ) → AreTokens bs ts → IsFirstFault bs f at → ⊥
one_answer bs ts f at r s = no_fault (length bs) at 0 0 bs bs s.1 ts s.0 f r s.2 s.3 refl

white_fault_at : (f : Wrong) (text after bs : List ℕ) → IsWhite text after → bs ≡ text ++ after → IsFault bs f → ⊥
white_fault_at f text after bs w e k = white_fault f text after w (subst (λ (l : List ℕ). IsFault l f) e k)

sound_at : (w : Word) (f : Wrong) (text after bs : List ℕ) → Stands w text after → bs ≡ text ++ after → IsFault bs f → ⊥
sound_at w f text after bs t e k = t.sound f (subst (λ (l : List ℕ). IsFault l f) e k)

same_wrong : (f g : Wrong) (bs cs : List ℕ) → bs ≡ cs → IsFault bs f → IsFault cs g → f ≡ g
same_wrong f g bs cs e k l = let q : part.Fault f ≡ part.Fault g = sym (fault_read bs f k) ∙ ap some_piece e ∙ fault_read cs g l in cc

-- Two first faults are equal.
pub same_fault : (m n : ℕ) (old rest : List ℕ) (at bt : ℕ) (bs cs : List ℕ) (ts us : List Lexeme) (f g : Wrong) → Read m old at bs ts → IsFault old f → Read n rest bt cs us → IsFault rest g → at ≡ bt → bs ≡ cs → (f ≡ g) × (m ≡ n)
same_fault m n old rest a b c d ts us f g (here at bs e w) k (here bt cs o v) l p q = (same_wrong f g old rest (sym w ∙ q ∙ v) k l, sym e ∙ p ∙ o)
same_fault m n old rest a b c d ts us f g (here at bs e w) k (white bt cs y s vs v h r) l p q = absurd (white_fault_at f y s old h (sym w ∙ q ∙ v) k)
same_fault m n old rest a b c d ts us f g (here at bs e w) k (token bt cs y s x vs v t r) l p q = absurd (sound_at x f y s old t (sym w ∙ q ∙ v) k)
same_fault m n old rest a b c d ts us f g (white at bs x r xs w h i) k (here bt cs o v) l p q = absurd (white_fault_at g x r rest h (sym v ∙ sym q ∙ w) l)
same_fault m n old rest a b c d ts us f g (white at bs x r xs w h i) k (white bt cs y s vs v j z) l p q =
    let u = same_white x y r s (sym w ∙ q ∙ v) h j in
    same_fault m n old rest (at + length x) (bt + length y) r s xs vs f g i k z l (omega arith) (fronts x y r s (sym w ∙ q ∙ v) u).1
same_fault m n old rest a b c d ts us f g (white at bs x r xs w h i) k (token bt cs y s z vs v t j) l p q = absurd (no_both z x y r s (sym w ∙ q ∙ v) h t)
same_fault m n old rest a b c d ts us f g (token at bs x r z xs w t i) k (here bt cs o v) l p q = absurd (sound_at z g x r rest t (sym v ∙ sym q ∙ w) l)
same_fault m n old rest a b c d ts us f g (token at bs x r z xs w t i) k (white bt cs y s vs v h j) l p q = absurd (no_both z y x s r (sym v ∙ sym q ∙ w) h t)
same_fault m n old rest a b c d ts us f g (token at bs x r z xs w t i) k (token bt cs y s o vs v h j) l p q =
    let u = same_token z o x y r s (sym w ∙ q ∙ v) t h in
    same_fault m n old rest (at + length x) (bt + length y) r s xs vs f g i k j l (omega arith) (fronts x y r s (sym w ∙ q ∙ v) u.0).1

pub one_fault : (bs : List ℕ) (f g : Wrong) (at place : ℕ) → IsFirstFault bs f at → IsFirstFault bs g place → (f ≡ g) × (at ≡ place)
one_fault bs f g at place r s = same_fault at place r.1 s.1 0 0 bs bs r.0 s.0 f g r.2 r.3 s.2 s.3 refl refl
