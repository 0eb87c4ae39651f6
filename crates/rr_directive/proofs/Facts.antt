-- Equations of the definitions on units, at a place of the bytes.
use Rattle.std.proofs.Common.{ℕ, zero, suc, ◌≡◌, ◌+◌, ◌-◌, ◌≤◌, ◌<◌, List, [], ◌∷◌, ◌++◌, length, drop, take, get_or, Bool, true, false, ◌&&◌, ◌||◌, ◌==◌, max, nat_lt, if◌then◌else◌, Option, Some, None, refl, ap, ◌∙◌, sym, arith}
use Rattle.std.specs.List.{prefix_len, list_all}
use Rattle.std.proofs.lemmas.List.{append_assoc, append-nil, length-drop, drop-drop, drop_more, drop_all}
use Rattle.std.proofs.lemmas.Bool.{and_parts, or_left, and_right, lt-ltb, le-ltb}
use Rattle.std.proofs.lemmas.Bool.Decides.{nat_tests}
use Rattle.rr_directive.specs.Bytes.{is, within, begins, past, is_printable, is_letter, is_space, is_name_byte, is_in_line}
use Rattle.rr_directive.specs.declared.piece.Kind.{Kind}
use Rattle.rr_directive.specs.declared.piece.Kind.TheVariants as kind
use Rattle.rr_directive.specs.declared.piece.Directive.{Directive}
use Rattle.rr_directive.specs.declared.piece.Directive.TheVariants as directive
use Rattle.rr_directive.specs.Pieces.{Piece as PlainPiece}
use Rattle.rr_directive.specs.declared.piece.Piece.{Piece}
use Rattle.rr_directive.specs.View.{plain_piece, IsIn}
use Rattle.rr_directive.specs.Pieces.{begins_with, closed, ends_line, join_len, text_len, joined, is_escaped, with_name, with_text, defining, has_name, bare, front, named_piece, directive_of, piece}

pub begins_length : (p : ℕ → Bool) (k : ℕ) (bs : List ℕ) → begins p (drop k bs) ≡ true → k < length bs
begins_length p zero [] h = absurd (cc)
begins_length p (suc k) [] h = absurd (cc)
begins_length p zero (b ∷ bs) h = omega arith
begins_length p (suc k) (b ∷ bs) h = let i : k < length bs = begins_length p k bs h in omega arith

pub pair_at : (a b at : ℕ) (bs : List ℕ) → begins_with a b (drop at bs) ≡ (begins (is a) (drop at bs) && begins (is b) (drop (at + 1) bs))
unfolding begins_with
pair_at a b at bs = rw (drop-drop 1 at bs) refl

pub pair_yes : (a b at : ℕ) (bs : List ℕ) → begins (is a) (drop at bs) ≡ true → begins (is b) (drop (at + 1) bs) ≡ begins_with a b (drop at bs)
pair_yes a b at bs h = sym (pair_at a b at bs ∙ rw h refl)

pub pair_no : (a b at : ℕ) (bs : List ℕ) → begins (is a) (drop at bs) ≡ false → false ≡ begins_with a b (drop at bs)
pair_no a b at bs h = sym (pair_at a b at bs ∙ rw h refl)

pub pair_room : (a b at : ℕ) (bs : List ℕ) → begins_with a b (drop at bs) ≡ true → at + 2 ≤ length bs
pair_room a b at bs h = let e : begins (is b) (drop (at + 1) bs) ≡ true = (and_parts _ _ (sym (pair_at a b at bs) ∙ h)).1 in
    let l : at + 1 < length bs = begins_length (is b) (at + 1) bs e in omega arith

pub closed_yes : (a b x : ℕ) (xs : List ℕ) → ((x == a) && begins (is b) xs) ≡ true → closed a b (x ∷ xs) ≡ 2
unfolding closed
closed_yes a b x xs h = rw h refl

pub closed_no : (a b x : ℕ) (xs : List ℕ) → ((x == a) && begins (is b) xs) ≡ false → closed a b (x ∷ xs) ≡ 1 + closed a b xs
unfolding closed
closed_no a b x xs h = rw h refl

pub closed_stops : (a b at : ℕ) (bs : List ℕ) → at < length bs → begins_with a b (drop at bs) ≡ true → at + closed a b (drop at bs) ≡ at + 2
unfolding begins_with
closed_stops a b at bs l h = ap (λ (n : ℕ). at + n) (ap (closed a b) (drop_more bs at 0 l) ∙ closed_yes a b (get_or bs at 0) (drop (at + 1) bs) (rw (drop_more bs at 0 l) at h))

pub closed_goes : (a b at : ℕ) (bs : List ℕ) → at < length bs → begins_with a b (drop at bs) ≡ false → at + closed a b (drop at bs) ≡ at + 1 + closed a b (drop (at + 1) bs)
unfolding begins_with
closed_goes a b at bs l h = let e : closed a b (drop at bs) ≡ 1 + closed a b (drop (at + 1) bs) = ap (closed a b) (drop_more bs at 0 l) ∙ closed_no a b (get_or bs at 0) (drop (at + 1) bs) (rw (drop_more bs at 0 l) at h) in omega arith

pub closed_ends : (a b at : ℕ) (bs : List ℕ) → length bs ≤ at → closed a b (drop at bs) ≡ 0
unfolding closed
closed_ends a b at bs l = rw (drop_all at bs l) refl

pub escaped_here : (at : ℕ) (bs : List ℕ) → begins (is 92) (drop at bs) ≡ true → begins is_printable (drop (at + 1) bs) ≡ is_escaped (drop at bs)
unfolding is_escaped
escaped_here at bs b = rw (b, drop-drop 1 at bs) refl

pub escaped_none : (at : ℕ) (bs : List ℕ) → begins (is 92) (drop at bs) ≡ false → false ≡ is_escaped (drop at bs)
unfolding is_escaped
escaped_none at bs b = rw b refl

-- ---- defined texts
pub line_ends : (at : ℕ) (bs : List ℕ) → (begins (is 10) (drop at bs) || begins_with 13 10 (drop at bs)) ≡ ends_line (drop at bs)
unfolding ends_line
line_ends at bs = refl

pub text_stops : (at : ℕ) (bs : List ℕ) → at < length bs → (ends_line (drop at bs) || begins_with 47 47 (drop at bs)) ≡ true → text_len 0 (drop at bs) ≡ 0
unfolding text_len
text_stops at bs l h = let d = drop_more bs at 0 l in rw d (rw (rw d at h) refl)

text_skips : (k : ℕ) (bs : List ℕ) → k ≤ length bs → text_len k bs ≡ k + text_len 0 (drop k bs)
unfolding text_len
text_skips zero bs l = omega arith
text_skips (suc k) [] l = absurd (omega arith)
text_skips (suc k) (b ∷ bs) l = let i : text_len k bs ≡ k + text_len 0 (drop k bs) = text_skips k bs (omega arith) in omega arith

text_on : (b : ℕ) (bs : List ℕ) → (ends_line (b ∷ bs) || begins_with 47 47 (b ∷ bs)) ≡ false → text_len 0 (b ∷ bs) ≡ 1 + text_len (join_len (b ∷ bs) - 1) bs
unfolding text_len
text_on b bs h = rw h refl

pub text_ends : (at : ℕ) (bs : List ℕ) → length bs ≤ at → text_len 0 (drop at bs) ≡ 0
unfolding text_len
text_ends at bs l = rw (drop_all at bs l) refl

pub join_two : (at : ℕ) (bs : List ℕ) → begins_with 92 10 (drop at bs) ≡ true → 2 ≡ join_len (drop at bs)
unfolding join_len
join_two at bs h = rw h refl

pub join_three : (at : ℕ) (bs : List ℕ) → begins_with 92 10 (drop at bs) ≡ false → begins_with 92 13 (drop at bs) ≡ true → begins (is 10) (drop (at + 2) bs) ≡ true → 3 ≡ join_len (drop at bs)
unfolding join_len
join_three at bs h k e = rw (h, k, drop-drop 2 at bs, e) refl

pub join_return : (at : ℕ) (bs : List ℕ) → begins_with 92 10 (drop at bs) ≡ false → begins_with 92 13 (drop at bs) ≡ true → begins (is 10) (drop (at + 2) bs) ≡ false → 0 ≡ join_len (drop at bs)
unfolding join_len
join_return at bs h k e = rw (h, k, drop-drop 2 at bs, e) refl

pub join_none : (at : ℕ) (bs : List ℕ) → begins_with 92 10 (drop at bs) ≡ false → begins_with 92 13 (drop at bs) ≡ false → 0 ≡ join_len (drop at bs)
unfolding join_len
join_none at bs h k = rw (h, k) refl

join_fits : (bs : List ℕ) → join_len bs ≤ length bs
unfolding join_len begins_with
join_fits [] = omega arith
join_fits (a ∷ []) = grind arith
join_fits (a ∷ (b ∷ [])) = grind arith
join_fits (a ∷ (b ∷ (c ∷ bs))) = grind arith

pub join_room : (at : ℕ) (bs : List ℕ) → at < length bs → at + max (join_len (drop at bs)) 1 ≤ length bs
join_room at bs l = let j : join_len (drop at bs) ≤ length (drop at bs) = join_fits (drop at bs) in omega (arith, length-drop at bs)

pub text_goes : (at next : ℕ) (bs : List ℕ) → at < length bs → (ends_line (drop at bs) || begins_with 47 47 (drop at bs)) ≡ false → next ≡ at + max (join_len (drop at bs)) 1 →
    at + text_len 0 (drop at bs) ≡ next + text_len 0 (drop next bs)
text_goes at next bs l h n =
    let d : drop at bs ≡ get_or bs at 0 ∷ drop (at + 1) bs = drop_more bs at 0 l in
    let j : join_len (get_or bs at 0 ∷ drop (at + 1) bs) ≡ join_len (drop at bs) = ap join_len (sym d) in
    let r : join_len (drop at bs) ≤ length (drop at bs) = join_fits (drop at bs) in
    let k : join_len (get_or bs at 0 ∷ drop (at + 1) bs) - 1 ≤ length (drop (at + 1) bs) = omega (arith, length-drop at bs, length-drop (at + 1) bs) in
    let t : text_len 0 (drop at bs) ≡ 1 + text_len (join_len (get_or bs at 0 ∷ drop (at + 1) bs) - 1) (drop (at + 1) bs) = ap (text_len 0) d ∙ text_on (get_or bs at 0) (drop (at + 1) bs) (rw d at h) in
    let s = text_skips (join_len (get_or bs at 0 ∷ drop (at + 1) bs) - 1) (drop (at + 1) bs) k in
    let e : at + 1 + (join_len (get_or bs at 0 ∷ drop (at + 1) bs) - 1) ≡ next = omega arith in
    let f : drop (join_len (get_or bs at 0 ∷ drop (at + 1) bs) - 1) (drop (at + 1) bs) ≡ drop next bs = drop-drop _ (at + 1) bs ∙ ap (λ (m : ℕ). drop m bs) e in
    let g : text_len 0 (drop (join_len (get_or bs at 0 ∷ drop (at + 1) bs) - 1) (drop (at + 1) bs)) ≡ text_len 0 (drop next bs) = ap (text_len 0) f in
    omega arith

joined_skips : (k : ℕ) (bs : List ℕ) → joined k bs ≡ joined 0 (drop k bs)
unfolding joined
joined_skips zero bs = refl
joined_skips (suc k) [] = refl
joined_skips (suc k) (b ∷ bs) = joined_skips k bs

joined_on : (b : ℕ) (bs : List ℕ) → joined 0 (b ∷ bs) ≡ (if join_len (b ∷ bs) == 0 then b else 32) ∷ joined (join_len (b ∷ bs) - 1) bs
unfolding joined
joined_on b bs = refl

joined_ends : (at : ℕ) (bs : List ℕ) → length bs ≤ at → joined 0 (drop at bs) ≡ []
unfolding joined
joined_ends at bs l = rw (drop_all at bs l) refl

joined_here : (at next : ℕ) (bs : List ℕ) → at < length bs → next ≡ at + max (join_len (drop at bs)) 1 →
    joined 0 (drop at bs) ≡ (if join_len (drop at bs) == 0 then get_or bs at 0 else 32) ∷ joined 0 (drop next bs)
joined_here at next bs l n =
    let d : drop at bs ≡ get_or bs at 0 ∷ drop (at + 1) bs = drop_more bs at 0 l in
    let j : join_len (get_or bs at 0 ∷ drop (at + 1) bs) ≡ join_len (drop at bs) = ap join_len (sym d) in
    let e : at + 1 + (join_len (get_or bs at 0 ∷ drop (at + 1) bs) - 1) ≡ next = omega arith in
    let f : drop (join_len (get_or bs at 0 ∷ drop (at + 1) bs) - 1) (drop (at + 1) bs) ≡ drop next bs = drop-drop _ (at + 1) bs ∙ ap (λ (m : ℕ). drop m bs) e in
    ap (joined 0) d ∙ (joined_on (get_or bs at 0) (drop (at + 1) bs) ∙ (ap (λ (t : List ℕ). (if join_len (get_or bs at 0 ∷ drop (at + 1) bs) == 0 then get_or bs at 0 else 32) ∷ t) (joined_skips _ (drop (at + 1) bs) ∙ ap (joined 0) f) ∙
    ap (λ (m : ℕ). (if m == 0 then get_or bs at 0 else 32) ∷ joined 0 (drop next bs)) j))

pub joins : (at next b : ℕ) (bs all out new : List ℕ) → at < length bs → next ≡ at + max (join_len (drop at bs)) 1 → b ≡ (if join_len (drop at bs) == 0 then get_or bs at 0 else 32) →
    all ≡ out ++ joined 0 (drop at bs) → new ≡ out ++ (b ∷ []) → all ≡ new ++ joined 0 (drop next bs)
joins at next b bs all out new l n h e w =
    let k : joined 0 (drop at bs) ≡ b ∷ joined 0 (drop next bs) = joined_here at next bs l n ∙ ap (λ (c : ℕ). c ∷ joined 0 (drop next bs)) (sym h) in
    e ∙ (ap (λ (t : List ℕ). out ++ t) k ∙ (sym (append_assoc out (b ∷ []) (joined 0 (drop next bs))) ∙ ap (λ (t : List ℕ). t ++ joined 0 (drop next bs)) (sym w)))

pub joins_all : (at : ℕ) (bs all out : List ℕ) → length bs ≤ at → all ≡ out ++ joined 0 (drop at bs) → out ≡ all
joins_all at bs all out l e = sym (e ∙ (ap (λ (t : List ℕ). out ++ t) (joined_ends at bs l) ∙ append-nil out))

pub nothing_joined : (n : ℕ) (bs : List ℕ) → joined 0 (take (n - n) bs) ≡ []
unfolding joined
nothing_joined n bs = let e : n - n ≡ 0 = omega arith in rw e refl

pub behind : (p : ℕ → Bool) (after name : ℕ) (bs : List ℕ) → name ≡ after + prefix_len p (drop after bs) → past p (drop after bs) ≡ drop name bs
behind p after name bs e = drop-drop (prefix_len p (drop after bs)) after bs ∙ ap (λ (n : ℕ). drop n bs) (sym e)

pub named_there : (k : Kind) (at after name end : ℕ) (bs : List ℕ) → at < after → name ≡ after + prefix_len is_space (drop after bs) → end ≡ name + prefix_len is_name_byte (drop name bs) →
    begins is_letter (drop name bs) ≡ true →
    plain_piece bs at (record { kind = k; name = name; name_end = end; bracket = false; text = end; end = end }) ≡ with_name k (after - at) (drop after bs)
named_there k at after name end bs l n e h =
    let q = behind is_space after name bs n in
    let s : end - name ≡ prefix_len is_name_byte (drop name bs) = omega arith in
    let t : end - at ≡ (after - at) + (prefix_len is_space (drop after bs) + prefix_len is_name_byte (drop name bs)) = omega arith in
    rw (q, h, s, nothing_joined, t) refl

pub named_nowhere : (k : Kind) (at after name : ℕ) (bs : List ℕ) → name ≡ after + prefix_len is_space (drop after bs) → begins is_letter (drop name bs) ≡ false →
    bare k (after - at) ≡ with_name k (after - at) (drop after bs)
named_nowhere k at after name bs n h = rw (behind is_space after name bs n, h) refl

-- ---- names
letter_in_name : (b : ℕ) → is_letter b ≡ true → is_name_byte b ≡ true
letter_in_name b h = or_left (is_letter b) (within 48 57 b || b == 36) h

-- a name has bytes
some_name : (bs : List ℕ) → begins is_letter bs ≡ true → 1 ≤ prefix_len is_name_byte bs
some_name [] h = absurd (cc)
some_name (b ∷ bs) h = let k : is_name_byte b ≡ true = letter_in_name b h in rw k (omega arith)

begins_take : (p : ℕ → Bool) (n : ℕ) (bs : List ℕ) → 1 ≤ n → begins p (take n bs) ≡ begins p bs
begins_take p zero bs l = absurd (omega arith)
begins_take p (suc n) [] l = refl
begins_take p (suc n) (b ∷ bs) l = refl

pub name_letter : (name end : ℕ) (bs : List ℕ) → begins is_letter (drop name bs) ≡ true → end ≡ name + prefix_len is_name_byte (drop name bs) →
    begins is_letter (take (end - name) (drop name bs)) ≡ nat_lt name end
name_letter name end bs h e =
    let s : 1 ≤ prefix_len is_name_byte (drop name bs) = some_name (drop name bs) h in
    let l : 1 ≤ end - name = omega arith in
    let t : nat_lt name end ≡ true = lt-ltb name end (omega arith) in
    begins_take is_letter (end - name) (drop name bs) l ∙ (h ∙ sym t)

pub no_letter : (end : ℕ) (bs : List ℕ) → begins is_letter (take (end - end) bs) ≡ nat_lt end end
no_letter end bs = let e : end - end ≡ 0 = omega arith in let t : nat_lt end end ≡ false = grind (arith, nat_tests) in rw (e, t) refl

pub texted : (p : Piece) (at text end : ℕ) (br : Bool) (bs : List ℕ) → at < p.end → text ≡ p.end + prefix_len is_space (drop p.end bs) → end ≡ text + text_len 0 (drop text bs) →
    br ≡ begins (is 40) (drop p.end bs) →
    plain_piece bs at (record { kind = p.kind; name = p.name; name_end = p.name_end; bracket = br; text = text; end = end }) ≡ with_text (plain_piece bs at p) (drop p.end bs)
texted p at text end br bs l t e b =
    let q = behind is_space p.end text bs t in
    let n : end - text ≡ text_len 0 (drop text bs) = omega arith in
    let s : end - at ≡ (p.end - at) + (prefix_len is_space (drop p.end bs) + text_len 0 (drop text bs)) = omega arith in
    rw (q, n, s, b) refl

-- ---- units
taken : (p : ℕ → Bool) (k end : ℕ) (bs : List ℕ) → end ≡ k + prefix_len p (drop k bs) → take (end - k) (drop k bs) ≡ front p (drop k bs)
taken p k end bs e = let n : end - k ≡ prefix_len p (drop k bs) = omega arith in rw n refl

pub use_there : (at end : ℕ) (bs : List ℕ) → at + 1 < end + 1 → end ≡ at + 1 + prefix_len is_name_byte (drop (at + 1) bs) →
    plain_piece bs at (record { kind = kind.Use; name = at + 1; name_end = end; bracket = false; text = end; end = end }) ≡ named_piece None (end - (at + 1)) (drop at bs)
unfolding named_piece
use_there at end bs l e =
    let s : end - at ≡ 1 + (end - (at + 1)) = omega arith in
    rw (drop-drop 1 at bs, nothing_joined, s) refl

pub stays_there : (at end stop : ℕ) (bs : List ℕ) → at + 1 ≤ stop → stop ≡ at + 1 + prefix_len is_in_line (drop (at + 1) bs) →
    bare (kind.Named directive.Stays) (stop - at) ≡ named_piece (Some directive.Stays) (end - (at + 1)) (drop at bs)
unfolding named_piece
stays_there at end stop bs l e =
    let s : stop - at ≡ 1 + prefix_len is_in_line (drop (at + 1) bs) = omega arith in
    rw (drop-drop 1 at bs, s) refl

pub else_is : (n : ℕ) (bs : List ℕ) → bare (kind.Named directive.Else) (1 + n) ≡ named_piece (Some directive.Else) n bs
unfolding named_piece
else_is n bs = refl

pub endif_is : (n : ℕ) (bs : List ℕ) → bare (kind.Named directive.Endif) (1 + n) ≡ named_piece (Some directive.Endif) n bs
unfolding named_piece
endif_is n bs = refl

pub elsif_is : (n : ℕ) (bs : List ℕ) → bare (kind.Named directive.Elsif) (1 + n) ≡ named_piece (Some directive.Elsif) n bs
unfolding named_piece
elsif_is n bs = refl

pub undef_is : (n : ℕ) (bs : List ℕ) → with_name (kind.Named directive.Undef) (1 + n) (drop (1 + n) bs) ≡ named_piece (Some directive.Undef) n bs
unfolding named_piece
undef_is n bs = refl

pub ifdef_is : (n : ℕ) (bs : List ℕ) → with_name (kind.Named directive.Ifdef) (1 + n) (drop (1 + n) bs) ≡ named_piece (Some directive.Ifdef) n bs
unfolding named_piece
ifdef_is n bs = refl

pub ifndef_is : (n : ℕ) (bs : List ℕ) → with_name (kind.Named directive.Ifndef) (1 + n) (drop (1 + n) bs) ≡ named_piece (Some directive.Ifndef) n bs
unfolding named_piece
ifndef_is n bs = refl

pub define_is : (n : ℕ) (bs : List ℕ) → defining (with_name (kind.Named directive.Define) (1 + n) (drop (1 + n) bs)) bs ≡ named_piece (Some directive.Define) n bs
unfolding named_piece
define_is n bs = refl

-- the size of a name in a directive, and what stands behind it
pub behind_name : (at end : ℕ) (bs : List ℕ) → at + 1 ≤ end → (k : Kind) → with_name k (end - at) (drop end bs) ≡ with_name k (1 + (end - (at + 1))) (drop (1 + (end - (at + 1))) (drop at bs))
behind_name at end bs l k =
    let s : end - at ≡ 1 + (end - (at + 1)) = omega arith in
    let d : drop (1 + (end - (at + 1))) (drop at bs) ≡ drop end bs = drop-drop (1 + (end - (at + 1))) at bs ∙ ap (λ (n : ℕ). drop n bs) (omega arith) in
    rw (d, s) refl

pub bare_size : (at end : ℕ) → at + 1 ≤ end → (k : Kind) → bare k (end - at) ≡ bare k (1 + (end - (at + 1)))
bare_size at end l k = let s : end - at ≡ 1 + (end - (at + 1)) = omega arith in rw s refl

pub with_directive : (o : Option Directive) (x : Option Directive) (n : ℕ) (bs : List ℕ) (p : PlainPiece) → o ≡ x → p ≡ named_piece x n bs → p ≡ named_piece o n bs
with_directive o x n bs p e h = h ∙ ap (λ (y : Option Directive). named_piece y n bs) (sym e)

pub tick_is : (at end : ℕ) (bs : List ℕ) (p : PlainPiece) → end ≡ at + 1 + prefix_len is_name_byte (drop (at + 1) bs) →
    p ≡ named_piece (directive_of (take (end - (at + 1)) (drop (at + 1) bs))) (end - (at + 1)) (drop at bs) →
    p ≡ named_piece (directive_of (front is_name_byte (drop (at + 1) bs))) (end - (at + 1)) (drop at bs)
tick_is at end bs p e h = h ∙ ap (λ (t : List ℕ). named_piece (directive_of t) (end - (at + 1)) (drop at bs)) (taken is_name_byte (at + 1) end bs e)

pub define_yes : (bs : List ℕ) (at : ℕ) (q : Piece) (p r : PlainPiece) → IsIn bs at q → plain_piece bs at q ≡ p → q.name < q.name_end →
    r ≡ with_text (plain_piece bs at q) (drop q.end bs) → r ≡ defining p (drop at bs)
define_yes bs at q p r k e l h =
    let n : has_name (plain_piece bs at q) ≡ true = k.letter ∙ lt-ltb q.name q.name_end l in
    let d : drop (q.end - at) (drop at bs) ≡ drop q.end bs = drop-drop (q.end - at) at bs ∙ ap (λ (n : ℕ). drop n bs) (omega (arith, k.some)) in
    let g : with_text (plain_piece bs at q) (drop q.end bs) ≡ defining (plain_piece bs at q) (drop at bs) = rw (n, d) refl in
    h ∙ (g ∙ ap (λ (x : PlainPiece). defining x (drop at bs)) e)

pub define_no : (bs : List ℕ) (at : ℕ) (q : Piece) (p : PlainPiece) → IsIn bs at q → plain_piece bs at q ≡ p → q.name_end ≤ q.name → plain_piece bs at q ≡ defining p (drop at bs)
define_no bs at q p k e l =
    let n : has_name (plain_piece bs at q) ≡ false = k.letter ∙ le-ltb q.name q.name_end l in
    let g : plain_piece bs at q ≡ defining (plain_piece bs at q) (drop at bs) = rw n refl in
    g ∙ ap (λ (x : PlainPiece). defining x (drop at bs)) e

pub comment_there : (at end : ℕ) (bs : List ℕ) → begins_with 47 47 (drop at bs) ≡ true → end ≡ at + 2 + prefix_len is_in_line (drop (at + 2) bs) → bare kind.Comment (end - at) ≡ piece (drop at bs)
unfolding piece
comment_there at end bs h e = let s : end - at ≡ 2 + prefix_len is_in_line (drop (at + 2) bs) = omega arith in rw (h, drop-drop 2 at bs, s) refl

pub block_there : (at end : ℕ) (bs : List ℕ) → begins_with 47 47 (drop at bs) ≡ false → begins_with 47 42 (drop at bs) ≡ true → end ≡ at + 2 + closed 42 47 (drop (at + 2) bs) → bare kind.Comment (end - at) ≡ piece (drop at bs)
unfolding piece
block_there at end bs l h e = let s : end - at ≡ 2 + closed 42 47 (drop (at + 2) bs) = omega arith in rw (l, h, drop-drop 2 at bs, s) refl

pub escaped_there : (at end : ℕ) (bs : List ℕ) → begins_with 47 47 (drop at bs) ≡ false → begins_with 47 42 (drop at bs) ≡ false → is_escaped (drop at bs) ≡ true → end ≡ at + 1 + prefix_len is_printable (drop (at + 1) bs) →
    bare kind.Escaped (end - at) ≡ piece (drop at bs)
unfolding piece
escaped_there at end bs l m h e = let s : end - at ≡ 1 + prefix_len is_printable (drop (at + 1) bs) = omega arith in rw (l, m, h, drop-drop 1 at bs, s) refl

pub tick_there : (at end : ℕ) (bs : List ℕ) (p : PlainPiece) → begins_with 47 47 (drop at bs) ≡ false → begins_with 47 42 (drop at bs) ≡ false → is_escaped (drop at bs) ≡ false →
    begins (is 96) (drop at bs) ≡ true → begins is_letter (drop (at + 1) bs) ≡ true → end ≡ at + 1 + prefix_len is_name_byte (drop (at + 1) bs) →
    p ≡ named_piece (directive_of (front is_name_byte (drop (at + 1) bs))) (end - (at + 1)) (drop at bs) → p ≡ piece (drop at bs)
unfolding piece
tick_there at end bs p l m h t n e k = let s : end - (at + 1) ≡ prefix_len is_name_byte (drop (at + 1) bs) = omega arith in k ∙ sym (rw (l, m, h, t, drop-drop 1 at bs, n, s) refl)

pub plain_there : (at end : ℕ) (bs : List ℕ) → begins_with 47 47 (drop at bs) ≡ false → begins_with 47 42 (drop at bs) ≡ false → is_escaped (drop at bs) ≡ false →
    (begins (is 96) (drop at bs) && begins is_letter (drop (at + 1) bs)) ≡ false → end ≡ at + 1 → bare kind.Plain (end - at) ≡ piece (drop at bs)
unfolding piece
plain_there at end bs l m h t e = let s : end - at ≡ 1 = omega arith in rw (l, m, h, drop-drop 1 at bs, t, s) refl

pub escaped_room : (at : ℕ) (bs : List ℕ) → is_escaped (drop at bs) ≡ true → at + 1 < length bs
unfolding is_escaped
escaped_room at bs h =
    let k : begins is_printable (drop 1 (drop at bs)) ≡ true = (and_parts (begins (is 92) (drop at bs)) (begins is_printable (drop 1 (drop at bs))) h).1 in
    begins_length is_printable (at + 1) bs (rw (drop-drop 1 at bs) at k)

-- ---- what an edit leaves as it is: a byte before a blank is a unit of its own, and an escaped name ends at a blank
two_no : (a c b : ℕ) (bs : List ℕ) → (32 == c) ≡ false → begins_with a c (b ∷ (32 ∷ bs)) ≡ false
unfolding begins_with
two_no a c b bs h = rw h (and_right (b == a) false refl)

escaped_nowhere : (b : ℕ) (bs : List ℕ) → is_escaped (b ∷ (32 ∷ bs)) ≡ false
unfolding is_escaped
escaped_nowhere b bs = and_right (b == 92) false refl

pub alone : (b : ℕ) (bs : List ℕ) → piece (b ∷ (32 ∷ bs)) ≡ bare kind.Plain 1
unfolding piece
alone b bs = rw (two_no 47 47 b bs refl, two_no 47 42 b bs refl, escaped_nowhere b bs, and_right (b == 96) false refl) refl

-- an escaped name of which a blank follows is one, whatever followed it
printables : (name bs : List ℕ) → list_all is_printable name ≡ true → prefix_len is_printable (name ++ (32 ∷ bs)) ≡ length name
printables [] bs h = refl
printables (b ∷ name) bs h = let k = and_parts (is_printable b) (list_all is_printable name) h in rw k.0 (omega (arith, printables name bs k.1))

printable_there : (name bs : List ℕ) → begins is_printable name ≡ true → begins is_printable (name ++ bs) ≡ true
printable_there [] bs k = absurd (cc)
printable_there (b ∷ name) bs k = k

pub escaped_alone : (name bs : List ℕ) → list_all is_printable name ≡ true → begins is_printable name ≡ true → is_escaped (92 ∷ (name ++ (32 ∷ bs))) ≡ true
unfolding is_escaped
escaped_alone name bs h k = rw (printable_there name (32 ∷ bs) k) refl

slash_no : (c : ℕ) (bs : List ℕ) → begins_with 47 c (92 ∷ bs) ≡ false
unfolding begins_with
slash_no c bs = refl

pub escaped_stays : (name bs : List ℕ) → list_all is_printable name ≡ true → begins is_printable name ≡ true → piece (92 ∷ (name ++ (32 ∷ bs))) ≡ bare kind.Escaped (1 + length name)
unfolding piece
escaped_stays name bs h k = rw (slash_no 47 (name ++ (32 ∷ bs)), slash_no 42 (name ++ (32 ∷ bs)), escaped_alone name bs h k, printables name bs h) refl
