-- Units end where a piece of white space does.
use Rattle.std.proofs.Common.{ℕ, ◌≡◌, ◌+◌, List, [], ◌∷◌, ◌++◌, length, take, Bool, true, false, ◌&&◌, ◌==◌, Option, Some, None, refl, ap, ◌∙◌, sym, subst, arith, inl, inr}
use Rattle.std.specs.List.{list_all, prefix_len}
use Rattle.std.proofs.lemmas.Bool.{and_parts, cases_Bool, eqb-true, not-false, not-true}
use Rattle.std.proofs.lemmas.Bool.Decides.{nat_tests}
use Rattle.std.proofs.lemmas.List.{append_assoc, take_at}
use Rattle.rr_directive.specs.declared.piece.Directive.{Directive}
use Rattle.rr_directive.specs.declared.piece.Directive.TheVariants as directive
use Rattle.rr_directive.specs.declared.piece.Kind.TheVariants as kind
use Rattle.rr_directive.specs.Bytes.{begins as unit_begins, is, is_in_line as unit_line, is_letter as unit_letter, is_name_byte as unit_name}
use Rattle.rr_directive.specs.Expand.{Exact, Each, Nowhere}
use Rattle.rr_directive.specs.Pieces.{bare, begins_with, closed, directive_of, is_escaped, named_piece, piece}
use Rattle.rr_lex.specs.Bytes.{begins, is_blank, is_in_line, is_name_byte}
use Rattle.rr_lex.specs.Tokens.{IsClosedBy, IsWhite, attribute, blank, block, directives, is_closed_next, line, more, place_of, skipped}
use Rattle.rr_lex.specs.Reading.{closing}
use Rattle.rr_lex.proofs.Closed.{closing_is}
use Rattle.rr_lex.proofs.Marks.{place_sound}
use Rattle.rr_lex.proofs.Runs.{run_stops}
use Rattle.rr_lex.proofs.Skipped.{begins_over}
use Rattle.rr_plain_files.specs.Laws.{is_calm}
use Rattle.rr_plain_files.proofs.Origins.{ArePlain, Gives, exact_of, plain_gives, unit_gives}
use Rattle.rr_plain_files.proofs.Plain.{all_give, all_plain, is_plain, lone, plain_piece}

pub same_begins : (p : ℕ → Bool) (bs : List ℕ) → begins p bs ≡ unit_begins p bs
same_begins p [] = refl
same_begins p (b ∷ bs) = refl

-- ---- blanks

blank_gives : (b : ℕ) (after : List ℕ) → is_blank b ≡ true → Gives Each (b ∷ []) after
unfolding is_blank
blank_gives b after h = all_give (b ∷ []) after (all_plain is_blank refl refl refl (b ∷ []) (rw h refl))

-- ---- comments

line_piece : (body after : List ℕ) → list_all is_in_line body ≡ true → begins is_in_line after ≡ false → piece (47 ∷ (47 ∷ (body ++ after))) ≡ bare kind.Comment (1 + length (47 ∷ body))
unfolding piece begins_with is_in_line
line_piece body after h s = let e : prefix_len unit_line (body ++ after) ≡ length body = run_stops unit_line body after h s in ap (bare kind.Comment) (omega arith)

line_gives : (body after : List ℕ) → list_all is_in_line body ≡ true → begins is_in_line after ≡ false → Gives Nowhere (47 ∷ (47 ∷ body)) after
unfolding exact_of
line_gives body after h s = unit_gives kind.Comment 47 (47 ∷ body) after (line_piece body after h s)

less_one : (o : Option ℕ) (n : ℕ) → more 1 o ≡ Some n → (m : ℕ) × ((o ≡ Some m) × (n ≡ 1 + m))
unfolding more
less_one None n e = absurd (cc)
less_one (Some m) n e = (m, (refl, cc))

closed_is : (a b : ℕ) (bs : List ℕ) (n : ℕ) → closing a b bs ≡ Some n → closed a b bs ≡ n
unfolding closing closed
closed_is a b [] n e = absurd (cc)
closed_is a b (x ∷ xs) n e = elim (cases_Bool ((x == a) && begins (is b) xs)) [
  | inl h ↦
      let k : ((x == a) && unit_begins (is b) xs) ≡ true = rw (← same_begins (is b) xs) h in
      let q : Some 2 ≡ Some n = rw h at e in
      rw k (cc)
  | inr h ↦
      let k : ((x == a) && unit_begins (is b) xs) ≡ false = rw (← same_begins (is b) xs) h in
      let q : more 1 (closing a b xs) ≡ Some n = rw h at e in
      let f = less_one (closing a b xs) n q in
      rw k (ap (λ (i : ℕ). 1 + i) (closed_is a b xs f.0 f.1.0) ∙ sym f.1.1)
]

block_piece : (body after : List ℕ) → IsClosedBy 42 47 body → piece (47 ∷ (42 ∷ (body ++ after))) ≡ bare kind.Comment (1 + length (42 ∷ body))
unfolding piece begins_with
block_piece body after c = let e : closed 42 47 (body ++ after) ≡ length body = closed_is 42 47 (body ++ after) (length body) (closing_is 42 47 body after c) in ap (bare kind.Comment) (omega arith)

block_gives : (body after : List ℕ) → IsClosedBy 42 47 body → Gives Nowhere (47 ∷ (42 ∷ body)) after
unfolding exact_of
block_gives body after c = unit_gives kind.Comment 47 (42 ∷ body) after (block_piece body after c)

-- ---- attributes

-- two bytes of a text that has another behind them
pair_front : (a c b : ℕ) (text after : List ℕ) → begins_with a c (b ∷ ((text ++ (41 ∷ [])) ++ after)) ≡ begins_with a c (b ∷ (text ++ (41 ∷ [])))
unfolding begins_with
pair_front a c b [] after = refl
pair_front a c b (d ∷ text) after = refl

calm_plain : (text after : List ℕ) → is_calm (text ++ (41 ∷ [])) ≡ true → ArePlain (text ++ (41 ∷ [])) after
unfolding is_calm is_plain
calm_plain [] after h = (plain_piece 41 after refl, tt)
calm_plain (b ∷ text) after h =
    let k = and_parts _ _ h in
    let l = and_parts _ _ k.1 in
    let m = and_parts _ _ l.1 in
    let n = and_parts _ _ m.1 in (
      lone b ((text ++ (41 ∷ [])) ++ after) (pair_front 47 47 b text after ∙ not-true _ k.0) (pair_front 47 42 b text after ∙ not-true _ l.0) (not-true _ m.0) (not-true _ n.0),
      calm_plain text after n.1,
    )

attribute_plain : (body after : List ℕ) → IsClosedBy 42 41 body → is_calm body ≡ true → ArePlain body after
attribute_plain body after c h =
    let e : body ≡ (c.0 ++ (42 ∷ [])) ++ (41 ∷ []) = c.1 ∙ sym (append_assoc c.0 (42 ∷ []) (41 ∷ [])) in
    subst (λ (l : List ℕ). ArePlain l after) (sym e) (calm_plain (c.0 ++ (42 ∷ [])) after (ap is_calm (sym e) ∙ h))

attribute_gives : (body after : List ℕ) → IsClosedBy 42 41 body → is_calm body ≡ true → Gives Each (40 ∷ (42 ∷ body)) after
unfolding is_plain
attribute_gives body after c h =
    plain_gives (40 ∷ (42 ∷ body)) after (plain_piece 40 (42 ∷ (body ++ after)) refl, (plain_piece 42 (body ++ after) refl, attribute_plain body after c h))

-- ---- directives that stay

is_stays : Option Directive → Bool
is_stays None = false
is_stays (Some directive.Stays) = true
is_stays (Some directive.Define) = false
is_stays (Some directive.Undef) = false
is_stays (Some directive.Ifdef) = false
is_stays (Some directive.Ifndef) = false
is_stays (Some directive.Else) = false
is_stays (Some directive.Endif) = false
is_stays (Some directive.Elsif) = false

does_stay : (o : Option Directive) → is_stays o ≡ true → o ≡ Some directive.Stays
unfolding is_stays
does_stay None h = absurd (cc)
does_stay (Some directive.Stays) h = refl
does_stay (Some directive.Define) h = absurd (cc)
does_stay (Some directive.Undef) h = absurd (cc)
does_stay (Some directive.Ifdef) h = absurd (cc)
does_stay (Some directive.Ifndef) h = absurd (cc)
does_stay (Some directive.Else) h = absurd (cc)
does_stay (Some directive.Endif) h = absurd (cc)
does_stay (Some directive.Elsif) h = absurd (cc)

-- a name of a directive that stays
stays : List ℕ → Bool
stays name = list_all unit_name name && (unit_begins unit_letter name && is_stays (directive_of name))

all_stay : list_all stays directives ≡ true
unfolding stays is_stays directive_of
all_stay = refl

begins_front : (p : ℕ → Bool) (xs ys : List ℕ) → unit_begins p xs ≡ true → unit_begins p (xs ++ ys) ≡ true
begins_front p [] ys h = absurd (cc)
begins_front p (x ∷ xs) ys h = h

no_name : (b : ℕ) → is_name_byte b ≡ false → unit_name b ≡ false
unfolding is_name_byte
no_name b h = grind (arith, nat_tests)

name_ends : (rest : List ℕ) → begins is_name_byte rest ≡ false → begins unit_name rest ≡ false
name_ends [] h = refl
name_ends (b ∷ rest) h = no_name b h

line_ends : (after : List ℕ) → begins is_in_line after ≡ false → begins unit_name after ≡ false
unfolding is_in_line
line_ends [] h = refl
line_ends (b ∷ after) h = let q : b ≡ 10 = eqb-true b 10 (not-false (b == 10) h) in rw q refl

stays_piece : (name rest after : List ℕ) → stays name ≡ true → begins is_name_byte rest ≡ false → list_all is_in_line (name ++ rest) ≡ true → begins is_in_line after ≡ false →
    piece (96 ∷ ((name ++ rest) ++ after)) ≡ bare (kind.Named directive.Stays) (1 + length (name ++ rest))
unfolding stays piece begins_with is_escaped named_piece is_in_line
stays_piece name rest after t b h s =
    let k = and_parts _ _ t in
    let l = and_parts _ _ k.1 in
    let a : (name ++ rest) ++ after ≡ name ++ (rest ++ after) = append_assoc name rest after in
    let n : prefix_len unit_name ((name ++ rest) ++ after) ≡ length name =
    ap (prefix_len unit_name) a ∙ run_stops unit_name name (rest ++ after) k.0 (begins_over unit_name rest after (name_ends rest b) (line_ends after s)) in
    let f : take (length name) ((name ++ rest) ++ after) ≡ name = ap (take (length name)) a ∙ take_at name (rest ++ after) (length name) refl in
    let g : unit_begins unit_letter ((name ++ rest) ++ after) ≡ true = ap (unit_begins unit_letter) a ∙ begins_front unit_letter name (rest ++ after) l.0 in
    let d : directive_of name ≡ Some directive.Stays = does_stay (directive_of name) l.1 in
    let e : prefix_len unit_line ((name ++ rest) ++ after) ≡ length (name ++ rest) = run_stops unit_line (name ++ rest) after h s in
    rw (g, n, f, d, e) refl

skip_gives : (k : ℕ) (name rest after : List ℕ) → place_of name directives ≡ Some k → begins is_name_byte rest ≡ false → list_all is_in_line (name ++ rest) ≡ true → begins is_in_line after ≡ false →
    Gives Nowhere (96 ∷ (name ++ rest)) after
unfolding exact_of
skip_gives k name rest after e b h s =
    unit_gives (kind.Named directive.Stays) 96 (name ++ rest) after (stays_piece name rest after (place_sound stays name directives k all_stay e) b h s)

-- ---- all of them

pub white_gives : (text after : List ℕ) → IsWhite text after →
    ((body : List ℕ) → text ≡ 40 ∷ (42 ∷ body) → IsClosedBy 42 41 body → is_closed_next body ≡ false → is_calm body ≡ true) → (exact : Exact) × Gives exact text after
white_gives text after (blank b h e) c = (Each, subst (λ (t : List ℕ). Gives Each t after) (sym e) (blank_gives b after h))
white_gives text after (line body h s e) c = (Nowhere, subst (λ (t : List ℕ). Gives Nowhere t after) (sym e) (line_gives body after h s))
white_gives text after (block body h e) c = (Nowhere, subst (λ (t : List ℕ). Gives Nowhere t after) (sym e) (block_gives body after h))
white_gives text after (attribute body h s e) c = (Each, subst (λ (t : List ℕ). Gives Each t after) (sym e) (attribute_gives body after h (c body e h s)))
white_gives text after (skipped k name rest p b h s e) c = (Nowhere, subst (λ (t : List ℕ). Gives Nowhere t after) (sym e) (skip_gives k name rest after p b h s))
