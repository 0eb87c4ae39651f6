-- What pieces make of words: the words of the source and of the printed text, part by part.
use Rattle.std.proofs.Common.{◌≡◌, ℕ, ◌<◌, ◌≤◌, ◌^◌, ◌%◌, Bool, false, List, [], ◌∷◌, ◌++◌, refl, sym, ◌∙◌, ap, append-nil}
use Rattle.std.specs.List.{Contains}
use Rattle.rr_syntax.specs.Words.{Word}
use Rattle.rr_lex.specs.Tokens.{IsSound}
use Rattle.rr_lex.specs.Patch.{New, new_literal, new_keyword, new_mark, new_name, new_words}
use Rattle.rr_choice.specs.Sites.{SiteKind, Site, Literal, Guard, Overwrite}
use Rattle.rr_respell.specs.Pieces.{Piece, Kept, Replaced, Put, kept, puts, source_words, printed_words}

-- P holds of each new token, of one in the place of a token of a source where that is a token of a text
unfoldable pub Allowed : (New → Type 0) → List Piece → Type 0
Allowed P [] = Unit {0}
Allowed P (Kept w ∷ xs) = Allowed P xs
Allowed P (Replaced w n ∷ xs) = (IsSound w → P n) × Allowed P xs
Allowed P (Put n ∷ xs) = P n × Allowed P xs

abbrev pub AllowedAll : (New → Type 0) → List New → Type 0
AllowedAll P [] = Unit {0}
AllowedAll P (n ∷ ns) = P n × AllowedAll P ns

-- pieces of these words of a source, which print those
pub record Makes (P : New → Type 0) (xs : List Piece) (a b : List Word) : Type 0 where
  pub source : source_words xs ≡ a
  pub printed : printed_words xs ≡ b
  pub allowed : Allowed P xs

pub source_join : (xs ys : List Piece) → source_words (xs ++ ys) ≡ source_words xs ++ source_words ys
unfolding source_words
source_join [] ys = refl
source_join (Kept w ∷ xs) ys = ap (λ (l : List Word). w ∷ l) (source_join xs ys)
source_join (Replaced w n ∷ xs) ys = ap (λ (l : List Word). w ∷ l) (source_join xs ys)
source_join (Put n ∷ xs) ys = source_join xs ys

printed_join : (xs ys : List Piece) → printed_words (xs ++ ys) ≡ printed_words xs ++ printed_words ys
unfolding printed_words
printed_join [] ys = refl
printed_join (Kept w ∷ xs) ys = ap (λ (l : List Word). w ∷ l) (printed_join xs ys)
printed_join (Replaced w n ∷ xs) ys = ap (λ (l : List Word). n.word ∷ l) (printed_join xs ys)
printed_join (Put n ∷ xs) ys = ap (λ (l : List Word). n.word ∷ l) (printed_join xs ys)

allowed_join : (P : New → Type 0) (xs ys : List Piece) → Allowed P xs → Allowed P ys → Allowed P (xs ++ ys)
unfolding Allowed
allowed_join P [] ys a b = b
allowed_join P (Kept w ∷ xs) ys a b = allowed_join P xs ys a b
allowed_join P (Replaced w n ∷ xs) ys a b = (a.0, allowed_join P xs ys a.1 b)
allowed_join P (Put n ∷ xs) ys a b = (a.0, allowed_join P xs ys a.1 b)

pub none : (P : New → Type 0) → Makes P [] [] []
unfolding source_words printed_words Allowed
none P = record { source = refl; printed = refl; allowed = tt }

pub join : {P : New → Type 0} {xs ys : List Piece} {a b c d : List Word} → Makes P xs a b → Makes P ys c d → Makes P (xs ++ ys) (a ++ c) (b ++ d)
join {P = P} {xs = xs} {ys = ys} x y = record {
  source = rw (sym x.source, sym y.source) (source_join xs ys);
  printed = rw (sym x.printed, sym y.printed) (printed_join xs ys);
  allowed = allowed_join P xs ys x.allowed y.allowed;
}

pub keep : {P : New → Type 0} {xs : List Piece} {a b : List Word} (w : Word) → Makes P xs a b → Makes P (Kept w ∷ xs) (w ∷ a) (w ∷ b)
unfolding source_words printed_words Allowed
keep w x = record { source = ap (λ (l : List Word). w ∷ l) x.source; printed = ap (λ (l : List Word). w ∷ l) x.printed; allowed = x.allowed }

pub put : {P : New → Type 0} {xs : List Piece} {a b : List Word} (n : New) → P n → Makes P xs a b → Makes P (Put n ∷ xs) a (n.word ∷ b)
unfolding source_words printed_words Allowed
put n h x = record { source = x.source; printed = ap (λ (l : List Word). n.word ∷ l) x.printed; allowed = (h, x.allowed) }

pub replace : {P : New → Type 0} (w : Word) (n : New) → (IsSound w → P n) → Makes P (Replaced w n ∷ []) (w ∷ []) (n.word ∷ [])
unfolding source_words printed_words Allowed
replace w n h = record { source = refl; printed = refl; allowed = (h, tt) }

-- words that stay
pub words : (P : New → Type 0) (ws : List Word) → Makes P (kept ws) ws ws
words P [] = none P
words P (w ∷ ws) = keep w (words P ws)

news : {P : New → Type 0} (ns : List New) → AllowedAll P ns → Makes P (puts ns) [] (new_words ns)
news {P = P} [] h = none P
news (n ∷ ns) h = put n h.0 (news ns h.1)

-- new tokens after pieces
pub after : {P : New → Type 0} {xs : List Piece} {a b : List Word} (ns : List New) → AllowedAll P ns → Makes P xs a b → Makes P (xs ++ puts ns) a (b ++ new_words ns)
after {P = P} {xs = xs} {a = a} {b = b} ns h x = let j = join x (news ns h) in record { source = j.source ∙ append-nil a; printed = j.printed; allowed = j.allowed }

-- equal words are printed
pub printing : {P : New → Type 0} {xs : List Piece} {a b c : List Word} → b ≡ c → Makes P xs a b → Makes P xs a c
printing e x = record { source = x.source; printed = x.printed ∙ e; allowed = x.allowed }

-- what P holds of: all that the sites of a list may bring
abbrev pub AllowsNames : (New → Type 0) → List (List ℕ) → Type 0
AllowsNames P names = (name : List ℕ) → Contains names name → P (new_name name)

abbrev pub AllowsKind : (New → Type 0) → SiteKind → Type 0
AllowsKind P (Literal width signed) = Unit {0}
AllowsKind P (Guard owner extent names) = AllowsNames P names
AllowsKind P (Overwrite owner target width now names) = AllowsNames P names × P (new_name target) × ((v : ℕ) → P (new_literal width false (v % 2 ^ width)))

unfoldable pub AllowsSites : (New → Type 0) → List Site → Type 0
AllowsSites P [] = Unit {0}
AllowsSites P (s ∷ ss) = AllowsKind P s.kind × AllowsSites P ss

pub record Allows (P : New → Type 0) (ss : List Site) : Type 0 where
  pub marks : (m : ℕ) → m < 45 → P (new_mark m)
  pub keywords : (k : ℕ) → k < 124 → P (new_keyword k)
  pub literals : (w : ℕ) (signed : Bool) (v : ℕ) → 1 ≤ w → w ≤ 128 → v < 2 ^ w → P (new_literal w signed v)
  pub sites : AllowsSites P ss
