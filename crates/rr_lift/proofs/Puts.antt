-- Single bytes, escaped names and texts that are put are read as themselves.
use Rattle.std.proofs.Common.{ℕ, zero, suc, ◌≡◌, ◌+◌, ◌≤◌, ◌<◌, ◌==◌, ◌&&◌, List, [], ◌∷◌, ◌++◌, length, take, drop, Bool, true, false, Option, Some, None, refl, ap, ◌∙◌, sym, subst, arith, inl, inr, append_assoc}
use Rattle.std.specs.List.{All, prefix_len}
use Rattle.std.proofs.lemmas.Bool.{cases_Bool, and_parts, and_right, both_ways}
use Rattle.std.proofs.lemmas.Bool.Decides.{nat_tests}
use Rattle.std.proofs.lemmas.List.{length-append, length-take-le, length-drop, take-append-drop}
use Rattle.std.proofs.lemmas.List.Elements.{All-head, All-tail}
use Rattle.std.proofs.lemmas.List.Sums.{prefix_len-le-length}
use Rattle.rr_directive.specs.declared.piece.Directive.{Directive}
use Rattle.rr_directive.specs.declared.piece.Directive.TheVariants as directive
use Rattle.rr_directive.specs.declared.piece.Kind.{Kind}
use Rattle.rr_directive.specs.declared.piece.Kind.TheVariants as kind
use Rattle.rr_directive.specs.Bytes.{begins, is, is_letter, is_name_byte, is_printable, is_space, past}
use Rattle.rr_directive.specs.Pieces.{Piece, TextUnit, bare, begins_with, defining, directive_of, front, has_name, is_escaped, named_piece, piece, units, units_of, with_name}
use Rattle.rr_directive.specs.Expand.{State, is_on}
use Rattle.rr_edit.specs.Edits.{IsPut, is_single}
use Rattle.rr_lift.proofs.Marks.{Texts, no_text, put_text}
use Rattle.rr_lift.proofs.Onward.{escaped_piece, plain_piece}
use Rattle.rr_lift.proofs.Readings.{first_unit, head_is, units_one}
use Rattle.rr_lift.proofs.Steps.{Follows, new_unit}

-- ---- what a single byte and an escaped name are

name_single : (k : Kind) (n : ℕ) (bs : List ℕ) → is_single k ≡ false → is_single (with_name k n bs).kind ≡ false
name_single k n bs h = elim (cases_Bool (begins is_letter (past is_space bs))) [
  | inl t ↦ rw t h
  | inr t ↦ rw t h
]

define_single : (p : Piece) (bs : List ℕ) → is_single p.kind ≡ false → is_single (defining p bs).kind ≡ false
define_single p bs h = elim (cases_Bool (has_name p)) [
  | inl t ↦ rw t h
  | inr t ↦ rw t h
]

named_single : (o : Option Directive) (n : ℕ) (bs : List ℕ) → is_single (named_piece o n bs).kind ≡ false
unfolding named_piece is_single
named_single None n bs = refl
named_single (Some directive.Stays) n bs = refl
named_single (Some directive.Define) n bs =
    define_single (with_name (kind.Named directive.Define) (1 + n) (drop (1 + n) bs)) bs (name_single (kind.Named directive.Define) (1 + n) (drop (1 + n) bs) refl)
named_single (Some directive.Undef) n bs = name_single (kind.Named directive.Undef) (1 + n) (drop (1 + n) bs) refl
named_single (Some directive.Ifdef) n bs = name_single (kind.Named directive.Ifdef) (1 + n) (drop (1 + n) bs) refl
named_single (Some directive.Ifndef) n bs = name_single (kind.Named directive.Ifndef) (1 + n) (drop (1 + n) bs) refl
named_single (Some directive.Else) n bs = refl
named_single (Some directive.Endif) n bs = refl
named_single (Some directive.Elsif) n bs = refl

pub data Single (b : ℕ) (bs : List ℕ) : Type 0 where
  byte : (b == 47 && begins (is 47) bs) ≡ false → (b == 47 && begins (is 42) bs) ≡ false → (b == 92 && begins is_printable bs) ≡ false → (b == 96 && begins is_letter bs) ≡ false → Single b bs
  name : b ≡ 92 → begins is_printable bs ≡ true → Single b bs

equal_bytes : (a b : ℕ) → (a == b) ≡ true → a ≡ b
equal_bytes a b h = grind (arith, nat_tests)

pub single : (b : ℕ) (bs : List ℕ) → is_single (piece (b ∷ bs)).kind ≡ true → Single b bs
unfolding piece begins_with is_escaped is_single
single b bs h = elim (cases_Bool (b == 47 && begins (is 47) bs)) [
  | inl e ↦ let x : is_single kind.Comment ≡ true = rw e at h in absurd (cc)
  | inr e ↦ elim (cases_Bool (b == 47 && begins (is 42) bs)) [
    | inl f ↦ let x : is_single kind.Comment ≡ true = rw (e, f) at h in absurd (cc)
    | inr f ↦ elim (cases_Bool (b == 92 && begins is_printable bs)) [
      | inl g ↦ let k = and_parts (b == 92) (begins is_printable bs) g in name (equal_bytes b 92 k.0) k.1
      | inr g ↦ elim (cases_Bool (b == 96 && begins is_letter bs)) [
        | inl t ↦
            let q : Piece = named_piece (directive_of (front is_name_byte bs)) (prefix_len is_name_byte bs) (b ∷ bs) in
            let x : is_single q.kind ≡ true = rw (e, f, g, t) at h in
            absurd (both_ways (is_single q.kind) (named_single (directive_of (front is_name_byte bs)) (prefix_len is_name_byte bs) (b ∷ bs)) x)
        | inr t ↦ byte e f g t
      ]
    ]
  ]
]

-- ---- before a blank

blank_tests : (t : Bool) (p : ℕ → Bool) (ws : List ℕ) → p 32 ≡ false → begins (is 32) ws ≡ true → (t && begins p ws) ≡ false
blank_tests t p [] h b = absurd (cc)
blank_tests t p (w ∷ ws) h b = let e : w ≡ 32 = equal_bytes w 32 b in and_right t (p w) (ap p e ∙ h)

pub before_blank : (b : ℕ) (ws : List ℕ) → begins (is 32) ws ≡ true → piece (b ∷ ws) ≡ bare kind.Plain 1
before_blank b ws h = plain_piece b ws (blank_tests (b == 47) (is 47) ws refl h) (blank_tests (b == 47) (is 42) ws refl h) (blank_tests (b == 92) is_printable ws refl h) (blank_tests (b == 96) is_letter ws refl h)

blank_piece : (ws : List ℕ) → piece (32 ∷ ws) ≡ bare kind.Plain 1
blank_piece ws = plain_piece 32 ws refl refl refl refl

-- ---- a new byte and a new escaped name

pub one_byte : (s r : State) (at new : ℕ) (bs : List ℕ) (b : ℕ) (ws text : List ℕ) → piece (b ∷ ws) ≡ bare kind.Plain 1 → is_on s.branches ≡ true →
    Follows s r at bs (new + 1) ws text → Follows s r at bs new (b ∷ ws) (b ∷ text)
unfolding is_single
one_byte s r at new bs b ws text p o f = new_unit s r at new bs kind.Plain b [] ws text p refl o f

run_short : (p : ℕ → Bool) (j : ℕ) (bs ws : List ℕ) → j ≤ prefix_len p bs → begins p ws ≡ false → prefix_len p (take j bs ++ ws) ≡ j
run_short p zero bs [] l h = refl
run_short p zero bs (w ∷ ws) l h = rw h refl
run_short p (suc j) [] ws l h = absurd (omega arith)
run_short p (suc j) (b ∷ bs) ws l h = elim (cases_Bool (p b)) [
  | inl t ↦
      let m : suc j ≤ 1 + prefix_len p bs = rw t at l in
      let i : prefix_len p (take j bs ++ ws) ≡ j = run_short p j bs ws (omega (arith, m)) h in
      rw t (omega (arith, i))
  | inr t ↦ let m : suc j ≤ 0 = rw t at l in absurd (omega (arith, m))
]

-- \ and j of the printable bytes, before a byte that is not printable
pub slash_and : (s r : State) (at new : ℕ) (bs : List ℕ) (j : ℕ) (cs ws text : List ℕ) → j ≤ prefix_len is_printable cs → begins is_printable ws ≡ false → is_on s.branches ≡ true →
    Follows s r at bs (new + suc j) ws text → Follows s r at bs new (92 ∷ (take j cs ++ ws)) (92 ∷ (take j cs ++ text))
unfolding is_single
slash_and s r at new bs zero cs ws text l h o f =
    let p : piece (92 ∷ ws) ≡ bare kind.Plain 1 = plain_piece 92 ws refl refl h refl in
    one_byte s r at new bs 92 ws text p o f
slash_and s r at new bs (suc j) [] ws text l h o f = absurd (omega arith)
slash_and s r at new bs (suc j) (c ∷ cs) ws text l h o f =
    let k : prefix_len is_printable (take (suc j) (c ∷ cs) ++ ws) ≡ suc j = run_short is_printable (suc j) (c ∷ cs) ws l h in
    let some : is_printable c ≡ true = first_of c cs l in
    let n : length (take (suc j) (c ∷ cs)) ≡ suc j = length-take-le (suc j) (c ∷ cs) (omega (arith, l, prefix_len-le-length is_printable (c ∷ cs))) in
    let e : 1 + prefix_len is_printable (take (suc j) (c ∷ cs) ++ ws) ≡ suc (length (take (suc j) (c ∷ cs))) = omega (arith, k, n) in
    let p : piece (92 ∷ (take (suc j) (c ∷ cs) ++ ws)) ≡ bare kind.Escaped (suc (length (take (suc j) (c ∷ cs)))) =
    escaped_piece (take (suc j) (c ∷ cs) ++ ws) some ∙ ap (bare kind.Escaped) e in
    let g : Follows s r at bs (new + suc (length (take (suc j) (c ∷ cs)))) ws text = subst (λ (i : ℕ). Follows s r at bs (new + suc i) ws text) (sym n) f in
    new_unit s r at new bs kind.Escaped 92 (take (suc j) (c ∷ cs)) ws text p refl o g
  where
    first_of : (d : ℕ) (ds : List ℕ) → suc j ≤ prefix_len is_printable (d ∷ ds) → is_printable d ≡ true
    first_of d ds m = elim (cases_Bool (is_printable d)) [
      | inl t ↦ t
      | inr t ↦ let q : suc j ≤ 0 = rw t at m in absurd (omega (arith, q))
    ]

-- ---- texts

-- bytes that end with a blank, if they are some
abbrev Ends : List ℕ → Type 0
Ends [] = Unit {0}
Ends (b ∷ []) = b ≡ 32
Ends (b ∷ (c ∷ bs)) = Ends (c ∷ bs)

ends_next : (b : ℕ) (bs : List ℕ) → Ends (b ∷ bs) → Ends bs
ends_next b [] e = tt
ends_next b (c ∷ bs) e = e

ends_drop : (n : ℕ) (bs : List ℕ) → Ends bs → Ends (drop n bs)
ends_drop zero bs e = e
ends_drop (suc n) [] e = tt
ends_drop (suc n) (b ∷ bs) e = ends_drop n bs (ends_next b bs e)

ends_front : (xs : List ℕ) → Ends (xs ++ (32 ∷ []))
ends_front [] = refl
ends_front (x ∷ []) = refl
ends_front (x ∷ (y ∷ xs)) = ends_front (y ∷ xs)

-- a run of bytes that are no blanks ends before the end
ends_run : (p : ℕ → Bool) (b : ℕ) (bs : List ℕ) → p 32 ≡ false → Ends (b ∷ bs) → prefix_len p (b ∷ bs) < length (b ∷ bs)
ends_run p b [] h e = let f : p b ≡ false = ap p e ∙ h in rw f (omega arith)
ends_run p b (c ∷ bs) h e = elim (cases_Bool (p b)) [
  | inl t ↦ let i = ends_run p c bs h e in rw t (omega (arith, i))
  | inr t ↦ rw t (omega arith)
]

run_front : (p : ℕ → Bool) (bs ws : List ℕ) → prefix_len p bs < length bs → begins p (drop (prefix_len p bs) bs ++ ws) ≡ false
run_front p [] ws l = absurd (omega arith)
run_front p (b ∷ bs) ws l = elim (cases_Bool (p b)) [
  | inl t ↦
      let m : 1 + prefix_len p bs < suc (length bs) = rw t at l in
      let e : 1 + prefix_len p bs ≡ suc (prefix_len p bs) = omega arith in
      rw (t, e) (run_front p bs ws (omega (arith, m)))
  | inr t ↦ rw t t
]

plain_goes : (b : ℕ) (bs ws : List ℕ) → Ends (b ∷ bs) → (b == 47 && begins (is 47) bs) ≡ false → (b == 47 && begins (is 42) bs) ≡ false → (b == 92 && begins is_printable bs) ≡ false → (b == 96 && begins is_letter bs) ≡ false →
    piece (b ∷ (bs ++ ws)) ≡ bare kind.Plain 1
plain_goes b [] ws e x y z t = subst (λ (c : ℕ). piece (c ∷ ws) ≡ bare kind.Plain 1) (sym e) (blank_piece ws)
plain_goes b (c ∷ bs) ws e x y z t = plain_piece b ((c ∷ bs) ++ ws) x y z t

abbrev AreSingle : List TextUnit → Type 0
AreSingle us = All (λ u. is_single u.piece.kind ≡ true) us

follows_at : (s r : State) (at m n : ℕ) (bs ws text : List ℕ) → m ≡ n → Follows s r at bs m ws text → Follows s r at bs n ws text
follows_at s r at m n bs ws text e f = subst (λ (k : ℕ). Follows s r at bs k ws text) e f

named_goes : (s r : State) (at new : ℕ) (bs cs ws text : List ℕ) → Ends cs → begins is_printable cs ≡ true → is_on s.branches ≡ true →
    Follows s r at bs (new + suc (prefix_len is_printable cs)) (drop (prefix_len is_printable cs) cs ++ ws) (drop (prefix_len is_printable cs) cs ++ text) → Follows s r at bs new (92 ∷ (cs ++ ws)) (92 ∷ (cs ++ text))
named_goes s r at new bs [] ws text e b o f = absurd (cc)
named_goes s r at new bs (c ∷ cs) ws text e b o f =
    let k : ℕ = prefix_len is_printable (c ∷ cs) in
    let xs : List ℕ = c ∷ cs in
    let l : k < length xs = ends_run is_printable c cs refl e in
    let g = slash_and s r at new bs k xs (drop k xs ++ ws) (drop k xs ++ text) (omega arith) (run_front is_printable xs ws l) o f in
    let whole : (vs : List ℕ) → take k xs ++ (drop k xs ++ vs) ≡ xs ++ vs = λ vs. sym (append_assoc (take k xs) (drop k xs) vs) ∙ ap (λ (ys : List ℕ). ys ++ vs) (take-append-drop k xs) in
    subst (λ (ys : List ℕ). Follows s r at bs new (92 ∷ ys) (92 ∷ (xs ++ text))) (whole ws)
    (subst (λ (ys : List ℕ). Follows s r at bs new (92 ∷ (take k xs ++ (drop k xs ++ ws))) (92 ∷ ys)) (whole text) g)

singles_go : (us : List TextUnit) (a : ℕ) (cs : List ℕ) (s r : State) (at new : ℕ) (bs ws text : List ℕ) → units a 0 cs ≡ us → AreSingle us → Ends cs → is_on s.branches ≡ true →
    Follows s r at bs (new + length cs) ws text → Follows s r at bs new (cs ++ ws) (cs ++ text)
singles_go us a [] s r at new bs ws text e h d o f = follows_at s r at (new + 0) new bs ws text (omega arith) f
singles_go [] a (c ∷ cs) s r at new bs ws text e h d o f =
    let x : first_unit a (c ∷ cs) ∷ units (a + (piece (c ∷ cs)).size) 0 (drop (piece (c ∷ cs)).size (c ∷ cs)) ≡ [] = sym (units_one a c cs) ∙ e in absurd (cc)
singles_go (u ∷ us) a (c ∷ cs) s r at new bs ws text e h d o f =
    let n : ℕ = (piece (c ∷ cs)).size in
    let k = head_is (first_unit a (c ∷ cs)) u (units (a + n) 0 (drop n (c ∷ cs))) us (sym (units_one a c cs) ∙ e) in
    let flat : is_single (piece (c ∷ cs)).kind ≡ true = subst (λ (v : TextUnit). is_single v.piece.kind ≡ true) (sym k.0) (All-head (λ (v : TextUnit). is_single v.piece.kind ≡ true) u us h) in
    let later : AreSingle us = All-tail (λ (v : TextUnit). is_single v.piece.kind ≡ true) u us h in
    let next : (m : ℕ) → n ≡ suc m → Follows s r at bs (new + suc m + length (drop m cs)) ws text → Follows s r at bs (new + suc m) (drop m cs ++ ws) (drop m cs ++ text) =
    λ m q g.
    let t : units (a + n) 0 (drop m cs) ≡ us = ap (λ (i : ℕ). units (a + n) 0 (drop i (c ∷ cs))) (sym q) ∙ k.1 in
    singles_go us (a + n) (drop m cs) s r at (new + suc m) bs ws text t later (ends_drop m cs (ends_next c cs d)) o g in
    elim (single c cs flat) [
      | byte x y z t ↦
          let q : n ≡ suc 0 = ap (λ (p : Piece). p.size) (plain_piece c cs x y z t) in
          let g = next 0 q (follows_at s r at (new + length (c ∷ cs)) (new + suc 0 + length cs) bs ws text (omega arith) f) in
          one_byte s r at new bs c (cs ++ ws) (cs ++ text) (plain_goes c cs ws d x y z t) o g
      | name x y ↦
          let m : ℕ = prefix_len is_printable cs in
          let z : piece (c ∷ cs) ≡ bare kind.Escaped (1 + m) = subst (λ (i : ℕ). piece (i ∷ cs) ≡ bare kind.Escaped (1 + m)) (sym x) (escaped_piece cs y) in
          let q : n ≡ suc m = ap (λ (p : Piece). p.size) z ∙ omega arith in
          let len : new + length (c ∷ cs) ≡ new + suc m + length (drop m cs) = omega (arith, length-drop m cs, prefix_len-le-length is_printable cs) in
          let g = next m q (follows_at s r at (new + length (c ∷ cs)) (new + suc m + length (drop m cs)) bs ws text len f) in
          subst (λ (i : ℕ). Follows s r at bs new (i ∷ (cs ++ ws)) (i ∷ (cs ++ text))) (sym x) (named_goes s r at new bs cs ws text (ends_next c cs d) y o g)
    ]

put_goes : (t : List ℕ) (s r : State) (at new : ℕ) (bs ws text : List ℕ) → IsPut t → is_on s.branches ≡ true → Follows s r at bs (new + length t) ws text → Follows s r at bs new (t ++ ws) (t ++ text)
put_goes t s r at new bs ws text p o f = singles_go (units_of t) 0 t s r at new bs ws text refl p.units (subst Ends (sym p.last) (ends_front p.front)) o f

-- texts that are put are read as themselves
pub texts_go : (ts : List ℕ) (s r : State) (at new : ℕ) (bs ws text : List ℕ) → Texts ts → is_on s.branches ≡ true → Follows s r at bs (new + length ts) ws text → Follows s r at bs new (ts ++ ws) (ts ++ text)
texts_go ts s r at new bs ws y no_text o f = follows_at s r at (new + 0) new bs ws y (omega arith) f
texts_go ts s r at new bs ws y (put_text u us p q) o f =
    let g : Follows s r at bs (new + length u + length us) ws y = follows_at s r at (new + length (u ++ us)) (new + length u + length us) bs ws y (omega (arith, length-append u us)) f in
    let i = put_goes u s r at new bs (us ++ ws) (us ++ y) p o (texts_go us s r at (new + length u) bs ws y q o g) in
    subst (λ (xs : List ℕ). Follows s r at bs new xs ((u ++ us) ++ y)) (sym (append_assoc u us ws)) (subst (λ (xs : List ℕ). Follows s r at bs new (u ++ (us ++ ws)) xs) (sym (append_assoc u us y)) i)
