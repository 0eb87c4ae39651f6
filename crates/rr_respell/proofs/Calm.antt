-- No new token stands between `*` and `)`: what pieces keep of this, part by part.
use Rattle.std.proofs.Common.{◌≡◌, ◌==◌, Bool, true, false, List, [], ◌∷◌, ◌++◌, refl, sym, ◌∙◌, ap, subst}
use Rattle.std.specs.List.{AllByRecursion}
use Rattle.std.proofs.lemmas.List.{append_assoc}
use Rattle.rr_syntax.specs.Words.{Word, Named, System, Digits, Reserved, Marked, mark_star, mark_close_parenthesis, mark_comma}
use Rattle.rr_lex.specs.Patch.{New}
use Rattle.rr_respell.specs.Pieces.{Piece, Kept, Replaced, Put, kept, puts, source_words}
use Rattle.rr_respell.specs.Printing.{each_pieces, separated_pieces, all_pieces}
use Rattle.rr_respell.proofs.Makes.{source_join}

abbrev pub is_star : Word → Bool
is_star (Named x) = false
is_star (System x) = false
is_star (Digits n) = false
is_star (Reserved k) = false
is_star (Marked m) = m == mark_star

abbrev pub is_close : Word → Bool
is_close (Named x) = false
is_close (System x) = false
is_close (Digits n) = false
is_close (Reserved k) = false
is_close (Marked m) = m == mark_close_parenthesis

abbrev pub is_literal : Word → Bool
is_literal (Named x) = false
is_literal (System x) = false
is_literal (Digits n) = true
is_literal (Reserved k) = false
is_literal (Marked m) = false

pub literal_open : (w : Word) → is_literal w ≡ true → is_close w ≡ false
literal_open (Named x) h = refl
literal_open (System x) h = refl
literal_open (Digits n) h = refl
literal_open (Reserved k) h = refl
literal_open (Marked m) h = absurd (let bad : false ≡ true = h in cc)

-- they begin with no closing bracket
abbrev pub Opens : List Word → Type 0
Opens [] = Unit {0}
Opens (w ∷ ws) = is_close w ≡ false

-- after a token of the source, which is `*` where `star` holds: no `)` is the next token of the source after a `*` with new
-- tokens after it, and what is replaced is a literal
unfoldable pub Calm : Bool → List Piece → Type 0
Calm star [] = Unit {0}
Calm star (Kept w ∷ xs) = Calm (is_star w) xs
Calm star (Replaced w n ∷ xs) = (is_literal w ≡ true) × Calm (is_star w) xs
Calm star (Put n ∷ xs) = (star ≡ true → Opens (source_words xs)) × Calm star xs

pub star_calm : (star : Bool) (xs : List Piece) → Opens (source_words xs) → Calm false xs → Calm star xs
unfolding Calm source_words
star_calm star [] o h = tt
star_calm star (Kept w ∷ xs) o h = h
star_calm star (Replaced w n ∷ xs) o h = h
star_calm star (Put n ∷ xs) o h = (λ e. o, star_calm star xs o h.1)

-- calm before all that is calm
pub record Quiet (xs : List Piece) : Type 0 where
  pub before : (rest : List Piece) → Calm false rest → Calm false (xs ++ rest)

-- they begin with no closing bracket of the source
abbrev pub Opening : List Piece → Type 0
Opening xs = (rest : List Piece) → Opens (source_words (xs ++ rest))

pub opening : (xs : List Piece) (a : List Word) → source_words xs ≡ a → ((more : List Word) → Opens (a ++ more)) → Opening xs
opening xs a e h rest = subst Opens (sym (source_join xs rest ∙ ap (λ l. l ++ source_words rest) e)) (h (source_words rest))

pub none : Quiet []
none = record { before = λ rest h. h }

pub join : (xs ys : List Piece) → Quiet xs → Quiet ys → Quiet (xs ++ ys)
join xs ys x y = record { before = λ rest h. subst (Calm false) (sym (append_assoc xs ys rest)) (x.before (ys ++ rest) (y.before rest h)) }

pub keep : (w : Word) (xs : List Piece) → is_star w ≡ false → Quiet xs → Quiet (Kept w ∷ xs)
unfolding Calm
keep w xs e x = record { before = λ rest h. subst (λ b. Calm b (xs ++ rest)) (sym e) (x.before rest h) }

pub keep_any : (w : Word) (xs : List Piece) → Opening xs → Quiet xs → Quiet (Kept w ∷ xs)
unfolding Calm
keep_any w xs o x = record { before = λ rest h. star_calm (is_star w) (xs ++ rest) (o rest) (x.before rest h) }

pub put : (n : New) (xs : List Piece) → Quiet xs → Quiet (Put n ∷ xs)
unfolding Calm
put n xs x = record { before = λ rest h. (λ e. absurd (let bad : false ≡ true = e in cc), x.before rest h) }

pub news : (ns : List New) → Quiet (puts ns)
news [] = none
news (n ∷ ns) = put n (puts ns) (news ns)

pub replaced : (w : Word) (n : New) → is_star w ≡ false → is_literal w ≡ true → Quiet (Replaced w n ∷ [])
unfolding Calm
replaced w n s c = record { before = λ rest h. (c, subst (λ b. Calm b rest) (sym s) h) }

kept_calm : (ws : List Word) (star : Bool) (rest : List Piece) → ((b : Bool) → Calm b rest) → Calm star (kept ws ++ rest)
unfolding Calm
kept_calm [] star rest h = h star
kept_calm (w ∷ ws) star rest h = kept_calm ws (is_star w) rest h

-- words that stay, before what opens
pub kept_before : (ws : List Word) (xs : List Piece) → Opening xs → Quiet xs → Quiet (kept ws ++ xs)
kept_before ws xs o x = record { before = λ rest h. subst (Calm false) (sym (append_assoc (kept ws) xs rest)) (kept_calm ws false (xs ++ rest) (λ b. star_calm b (xs ++ rest) (o rest) (x.before rest h))) }

-- words of which the last is no `*`
pub record Ended (ws : List Word) : Type 0 where
  pub front : List Word
  pub last : Word
  pub are : ws ≡ front ++ (last ∷ [])
  pub dark : is_star last ≡ false

pub ended : (w : Word) → is_star w ≡ false → Ended (w ∷ [])
ended w h = record { front = []; last = w; are = refl; dark = h }

pub ended_more : (w : Word) (ws : List Word) → Ended ws → Ended (w ∷ ws)
ended_more w ws h = record { front = w ∷ h.front; last = h.last; are = ap (λ (l : List Word). w ∷ l) h.are; dark = h.dark }

pub ended_join : (vs ws : List Word) → Ended ws → Ended (vs ++ ws)
ended_join vs ws h = record { front = vs ++ h.front; last = h.last; are = ap (λ (l : List Word). vs ++ l) h.are ∙ sym (append_assoc vs h.front (h.last ∷ [])); dark = h.dark }

front_calm : (front : List Word) (w : Word) (star : Bool) (rest : List Piece) → is_star w ≡ false → Calm false rest → Calm star (kept (front ++ (w ∷ [])) ++ rest)
unfolding Calm
front_calm [] w star rest e h = subst (λ b. Calm b rest) (sym e) h
front_calm (v ∷ front) w star rest e h = front_calm front w (is_star v) rest e h

pub words : (ws : List Word) → Ended ws → Quiet (kept ws)
words ws e = record { before = λ rest h. subst (λ (l : List Word). Calm false (kept l ++ rest)) (sym e.are) (front_calm e.front e.last false rest e.dark h) }

-- lists
module _ {A : Type 0} (f : A → List Piece) (W : A → Type 0) (h : (x : A) → W x → Quiet (f x)) where
  pub each_quiet : (xs : List A) → AllByRecursion W xs → Quiet (each_pieces f xs)
  unfolding each_pieces
  each_quiet [] w = none
  each_quiet (x ∷ xs) w = keep (Marked mark_comma) (f x ++ each_pieces f xs) refl (join (f x) (each_pieces f xs) (h x w.0) (each_quiet xs w.1))

  pub separated_quiet : (xs : List A) → AllByRecursion W xs → Quiet (separated_pieces f xs)
  unfolding separated_pieces
  separated_quiet [] w = none
  separated_quiet (x ∷ xs) w = join (f x) (each_pieces f xs) (h x w.0) (each_quiet xs w.1)

  pub all_quiet : (xs : List A) → AllByRecursion W xs → Quiet (all_pieces f xs)
  unfolding all_pieces
  all_quiet [] w = none
  all_quiet (x ∷ xs) w = join (f x) (all_pieces f xs) (h x w.0) (all_quiet xs w.1)
