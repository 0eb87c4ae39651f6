-- A unit stays as it is where nothing new begins behind it.
use Rattle.std.proofs.Common.{ℕ, suc, ◌≡◌, ◌+◌, ◌≤◌, List, [], ◌∷◌, ◌++◌, length, drop, take, Bool, true, false, ◌&&◌, ◌==◌, Option, Some, None, refl, ap, ◌∙◌, sym, subst, arith, inl, inr}
use Rattle.std.specs.List.{prefix_len}
use Rattle.std.proofs.lemmas.Bool.{cases_Bool, and_parts}
use Rattle.std.proofs.lemmas.Bool.Decides.{nat_tests}
use Rattle.std.proofs.lemmas.List.{drop-drop, length-drop}
use Rattle.std.proofs.lemmas.List.Sums.{prefix_len-le-length}
use Rattle.rr_directive.specs.declared.piece.Directive.{Directive}
use Rattle.rr_directive.specs.declared.piece.Directive.TheVariants as directive
use Rattle.rr_directive.specs.declared.piece.Kind.{Kind}
use Rattle.rr_directive.specs.declared.piece.Kind.TheVariants as kind
use Rattle.rr_directive.specs.Bytes.{begins, is, is_in_line, is_letter, is_name_byte, is_printable, is_space, past}
use Rattle.rr_directive.specs.Pieces.{Piece, bare, begins_with, closed, defining, directive_of, front, has_name, is_escaped, named_piece, piece, text_len, with_name, with_text}
use Rattle.rr_lift.proofs.Runs.{begins_in, begins_some, closed_on, drop_in, run, some_run, take_in}
use Rattle.rr_lift.proofs.Ahead.{Ahead, Letters, Stop, begins_named, is_nameless, name_len, named_has, named_on, named_size, nameless_has, nameless_on, nameless_size, spaces, takes_name, text_stops, texted_on}

abbrev pub Holds : List ℕ → List ℕ → Piece → Type 0
Holds bs ws q = Ahead (drop q.size bs) ws → (is_nameless q ≡ true → Letters (drop q.size bs) ws) → piece (take q.size bs ++ ws) ≡ q

-- ---- what begins with a backtick and a name

tick_piece : (cs : List ℕ) → begins is_letter cs ≡ true → piece (96 ∷ cs) ≡ named_piece (directive_of (front is_name_byte cs)) (name_len cs) (96 ∷ cs)
unfolding piece is_escaped begins_with
tick_piece cs h = rw h refl

-- its first bytes go up to k, and what its piece is of these and of others alike
tick_by : (o : Option Directive) (k : ℕ) (cs ws : List ℕ) (q : Piece) → begins is_letter cs ≡ true → directive_of (front is_name_byte cs) ≡ o → name_len cs ≤ k →
    (begins is_name_byte (drop k cs) ≡ false → begins is_name_byte ws ≡ false) → q.size ≡ suc k → named_piece o (name_len cs) (96 ∷ (take k cs ++ ws)) ≡ q →
    piece (take q.size (96 ∷ cs) ++ ws) ≡ q
tick_by o k cs ws q h d l f s e =
    let some : 1 ≤ name_len cs = some_run is_name_byte cs (begins_named cs h) in
    let rest : List ℕ = take k cs ++ ws in
    let b : begins is_letter rest ≡ true = begins_in is_letter k cs ws (omega (arith, some)) (begins_some is_letter cs h) ∙ h in
    let r : name_len rest ≡ name_len cs = run is_name_byte k cs ws l f in
    let t : take (name_len cs) rest ≡ front is_name_byte cs = take_in (name_len cs) k cs ws l (prefix_len-le-length is_name_byte cs) in
    let g : front is_name_byte rest ≡ front is_name_byte cs = ap (λ (n : ℕ). take n rest) r ∙ t in
    let p : piece (96 ∷ rest) ≡ named_piece o (name_len cs) (96 ∷ rest) =
    tick_piece rest b ∙ (ap (λ (n : ℕ). named_piece (directive_of (front is_name_byte rest)) n (96 ∷ rest)) r ∙
    ap (λ (x : Option Directive). named_piece x (name_len cs) (96 ∷ rest)) (ap directive_of g ∙ d)) in
    let z : piece (take (suc k) (96 ∷ cs) ++ ws) ≡ q = p ∙ e in
    subst (λ (n : ℕ). piece (take n (96 ∷ cs) ++ ws) ≡ q) (sym s) z

ahead_at : (n k : ℕ) (cs ws : List ℕ) → n ≡ suc k → Ahead (drop n (96 ∷ cs)) ws → Ahead (drop k cs) ws
ahead_at n k cs ws e a = rw e at a

drop_name : (m x : ℕ) (cs : List ℕ) → drop (1 + m) (x ∷ cs) ≡ drop m cs
drop_name m x cs = let e : 1 + m ≡ suc m = omega arith in ap (λ (n : ℕ). drop n (x ∷ cs)) e

-- a backtick and its name alone
use_holds : (cs ws : List ℕ) → begins is_letter cs ≡ true → directive_of (front is_name_byte cs) ≡ None → Holds (96 ∷ cs) ws (named_piece None (name_len cs) (96 ∷ cs))
unfolding named_piece
use_holds cs ws h d a n =
    let m = name_len cs in
    let s : 1 + m ≡ suc m = omega arith in
    let t : take m (take m cs ++ ws) ≡ take m cs = take_in m m cs ws (omega arith) (prefix_len-le-length is_name_byte cs) in
    tick_by None m cs ws (named_piece None m (96 ∷ cs)) h d (omega arith) (ahead_at (1 + m) m cs ws s a).name s (rw t refl)

name_in_line : (b : ℕ) → is_name_byte b ≡ true → is_in_line b ≡ true
name_in_line b h = elim (cases_Bool (b == 10)) [
  | inl t ↦
      let e : b ≡ 10 = grind (arith, nat_tests) in
      let k : is_name_byte 10 ≡ true = subst (λ (c : ℕ). is_name_byte c ≡ true) e h in absurd (cc)
  | inr f ↦ rw f refl
]

names_in_line : (cs : List ℕ) → name_len cs ≤ prefix_len is_in_line cs
names_in_line [] = omega arith
names_in_line (c ∷ cs) = elim (cases_Bool (is_name_byte c)) [
  | inl t ↦ let l = name_in_line c t in rw (t, l) (omega (arith, names_in_line cs))
  | inr f ↦ rw f (omega arith)
]

stays_holds : (cs ws : List ℕ) → begins is_letter cs ≡ true → directive_of (front is_name_byte cs) ≡ Some directive.Stays → Holds (96 ∷ cs) ws (named_piece (Some directive.Stays) (name_len cs) (96 ∷ cs))
unfolding named_piece
stays_holds cs ws h d a n =
    let k = prefix_len is_in_line cs in
    let s : 1 + k ≡ suc k = omega arith in
    let f : Ahead (drop k cs) ws = ahead_at (1 + k) k cs ws s a in
    let r : prefix_len is_in_line (take k cs ++ ws) ≡ k = run is_in_line k cs ws (omega arith) f.in_line in
    tick_by (Some directive.Stays) k cs ws (named_piece (Some directive.Stays) (name_len cs) (96 ∷ cs)) h d (names_in_line cs) f.name s (rw r refl)

else_holds : (cs ws : List ℕ) → begins is_letter cs ≡ true → directive_of (front is_name_byte cs) ≡ Some directive.Else → Holds (96 ∷ cs) ws (named_piece (Some directive.Else) (name_len cs) (96 ∷ cs))
unfolding named_piece
else_holds cs ws h d a n =
    let m = name_len cs in
    let s : 1 + m ≡ suc m = omega arith in
    tick_by (Some directive.Else) m cs ws (named_piece (Some directive.Else) m (96 ∷ cs)) h d (omega arith) (ahead_at (1 + m) m cs ws s a).name s refl

endif_holds : (cs ws : List ℕ) → begins is_letter cs ≡ true → directive_of (front is_name_byte cs) ≡ Some directive.Endif → Holds (96 ∷ cs) ws (named_piece (Some directive.Endif) (name_len cs) (96 ∷ cs))
unfolding named_piece
endif_holds cs ws h d a n =
    let m = name_len cs in
    let s : 1 + m ≡ suc m = omega arith in
    tick_by (Some directive.Endif) m cs ws (named_piece (Some directive.Endif) m (96 ∷ cs)) h d (omega arith) (ahead_at (1 + m) m cs ws s a).name s refl

elsif_holds : (cs ws : List ℕ) → begins is_letter cs ≡ true → directive_of (front is_name_byte cs) ≡ Some directive.Elsif → Holds (96 ∷ cs) ws (named_piece (Some directive.Elsif) (name_len cs) (96 ∷ cs))
unfolding named_piece
elsif_holds cs ws h d a n =
    let m = name_len cs in
    let s : 1 + m ≡ suc m = omega arith in
    tick_by (Some directive.Elsif) m cs ws (named_piece (Some directive.Elsif) m (96 ∷ cs)) h d (omega arith) (ahead_at (1 + m) m cs ws s a).name s refl

-- ---- directives that take a name

-- what such a directive makes of the bytes behind its own name
abbrev takes : Kind → ℕ → List ℕ → Piece
takes k m bs = with_name k (1 + m) (drop (1 + m) bs)

-- the bytes up to k, of which m are its own name, give the same
abbrev Takes : Kind → List ℕ → List ℕ → ℕ → Type 0
Takes k cs ws n = takes k (name_len cs) (96 ∷ (take n cs ++ ws)) ≡ takes k (name_len cs) (96 ∷ cs)

taken_bytes : (m k : ℕ) (cs ws : List ℕ) → m ≤ length cs → drop (1 + m) (96 ∷ (take (m + k) cs ++ ws)) ≡ take k (drop m cs) ++ ws
taken_bytes m k cs ws l = drop_name m 96 (take (m + k) cs ++ ws) ∙ drop_in m k (m + k) cs ws refl l

named_takes : (k : Kind) (n : ℕ) (cs ws : List ℕ) → begins is_letter (past is_space (drop (name_len cs) cs)) ≡ true →
    spaces (drop (name_len cs) cs) + name_len (past is_space (drop (name_len cs) cs)) ≤ n →
    (begins is_name_byte (drop (name_len cs + n) cs) ≡ false → begins is_name_byte ws ≡ false) → Takes k cs ws (name_len cs + n)
named_takes k n cs ws h l f =
    let m = name_len cs in
    let g : drop n (drop m cs) ≡ drop (m + n) cs = drop-drop n m cs in
    let f2 : begins is_name_byte (drop n (drop m cs)) ≡ false → begins is_name_byte ws ≡ false = rw g f in
    ap (with_name k (1 + m)) (taken_bytes m n cs ws (prefix_len-le-length is_name_byte cs)) ∙ (named_on k (1 + m) n (drop m cs) ws h l f2 ∙ ap (with_name k (1 + m)) (sym (drop_name m 96 cs)))

nameless_takes : (k : Kind) (cs ws : List ℕ) → begins is_letter (past is_space (drop (name_len cs) cs)) ≡ false → Letters (drop (name_len cs) cs) ws → Takes k cs ws (name_len cs)
nameless_takes k cs ws h f =
    let m = name_len cs in
    let e : m ≡ m + 0 = omega arith in
    let t : drop (1 + m) (96 ∷ (take m cs ++ ws)) ≡ ws =
    ap (λ (i : ℕ). drop (1 + m) (96 ∷ (take i cs ++ ws))) e ∙ taken_bytes m 0 cs ws (prefix_len-le-length is_name_byte cs) in
    ap (with_name k (1 + m)) t ∙ (nameless_on k (1 + m) (drop m cs) ws h f ∙ ap (with_name k (1 + m)) (sym (drop_name m 96 cs)))

takes_size : (k : Kind) (cs : List ℕ) → begins is_letter (past is_space (drop (name_len cs) cs)) ≡ true →
    (takes k (name_len cs) (96 ∷ cs)).size ≡ suc (name_len cs + (spaces (drop (name_len cs) cs) + name_len (past is_space (drop (name_len cs) cs))))
takes_size k cs h =
    let m = name_len cs in
    let e : takes k m (96 ∷ cs) ≡ with_name k (1 + m) (drop m cs) = ap (with_name k (1 + m)) (drop_name m 96 cs) in
    omega (arith, ap (λ (q : Piece). q.size) e, named_size k (1 + m) (drop m cs) h)

takes_small : (k : Kind) (cs : List ℕ) → begins is_letter (past is_space (drop (name_len cs) cs)) ≡ false → (takes k (name_len cs) (96 ∷ cs)).size ≡ suc (name_len cs)
takes_small k cs h =
    let m = name_len cs in
    let e : takes k m (96 ∷ cs) ≡ with_name k (1 + m) (drop m cs) = ap (with_name k (1 + m)) (drop_name m 96 cs) in
    omega (arith, ap (λ (q : Piece). q.size) e, nameless_size k (1 + m) (drop m cs) h)

takes_has : (k : Kind) (cs : List ℕ) → begins is_letter (past is_space (drop (name_len cs) cs)) ≡ true → has_name (takes k (name_len cs) (96 ∷ cs)) ≡ true
takes_has k cs h = ap (λ (ds : List ℕ). has_name (with_name k (1 + name_len cs) ds)) (drop_name (name_len cs) 96 cs) ∙ named_has k (1 + name_len cs) (drop (name_len cs) cs) h

takes_none : (k : Kind) (cs : List ℕ) → begins is_letter (past is_space (drop (name_len cs) cs)) ≡ false → has_name (takes k (name_len cs) (96 ∷ cs)) ≡ false
takes_none k cs h = ap (λ (ds : List ℕ). has_name (with_name k (1 + name_len cs) ds)) (drop_name (name_len cs) 96 cs) ∙ nameless_has k (1 + name_len cs) (drop (name_len cs) cs) h

takes_bare : (k : Kind) (cs : List ℕ) → begins is_letter (past is_space (drop (name_len cs) cs)) ≡ false → takes k (name_len cs) (96 ∷ cs) ≡ bare k (1 + name_len cs)
takes_bare k cs h = ap (with_name k (1 + name_len cs)) (drop_name (name_len cs) 96 cs) ∙ rw h refl

bare_nameless : (k : Kind) (n : ℕ) → takes_name k ≡ true → is_nameless (bare k n) ≡ true
bare_nameless k n h = rw h refl

-- a piece of which no more is said than that it is such a directive's
name_holds : (o : Option Directive) (k : Kind) (cs ws : List ℕ) → begins is_letter cs ≡ true → directive_of (front is_name_byte cs) ≡ o → takes_name k ≡ true →
    ((bs : List ℕ) → named_piece o (name_len cs) bs ≡ takes k (name_len cs) bs) → Holds (96 ∷ cs) ws (named_piece o (name_len cs) (96 ∷ cs))
name_holds o k cs ws h d t is a n =
    let m : ℕ = name_len cs in
    let q : Piece = named_piece o m (96 ∷ cs) in
    elim (cases_Bool (begins is_letter (past is_space (drop m cs)))) [
      | inl l ↦
          let j : ℕ = spaces (drop m cs) + name_len (past is_space (drop m cs)) in
          let s : q.size ≡ suc (m + j) = ap (λ (p : Piece). p.size) (is (96 ∷ cs)) ∙ takes_size k cs l in
          let f : Ahead (drop (m + j) cs) ws = ahead_at q.size (m + j) cs ws s a in
          tick_by o (m + j) cs ws q h d (omega arith) f.name s (is (96 ∷ (take (m + j) cs ++ ws)) ∙ (named_takes k j cs ws l (omega arith) f.name ∙ sym (is (96 ∷ cs))))
      | inr l ↦
          let s : q.size ≡ suc m = ap (λ (p : Piece). p.size) (is (96 ∷ cs)) ∙ takes_small k cs l in
          let f : Ahead (drop m cs) ws = ahead_at q.size m cs ws s a in
          let b : is_nameless q ≡ true = ap is_nameless (is (96 ∷ cs) ∙ takes_bare k cs l) ∙ bare_nameless k (1 + m) t in
          let g : Letters (drop m cs) ws = subst (λ (i : ℕ). Letters (drop i (96 ∷ cs)) ws) s (n b) in
          tick_by o m cs ws q h d (omega arith) f.name s (is (96 ∷ (take m cs ++ ws)) ∙ (nameless_takes k cs ws l g ∙ sym (is (96 ∷ cs))))
    ]

undef_holds : (cs ws : List ℕ) → begins is_letter cs ≡ true → directive_of (front is_name_byte cs) ≡ Some directive.Undef → Holds (96 ∷ cs) ws (named_piece (Some directive.Undef) (name_len cs) (96 ∷ cs))
unfolding named_piece takes_name
undef_holds cs ws h d = name_holds (Some directive.Undef) (kind.Named directive.Undef) cs ws h d refl (λ bs. refl)

ifdef_holds : (cs ws : List ℕ) → begins is_letter cs ≡ true → directive_of (front is_name_byte cs) ≡ Some directive.Ifdef → Holds (96 ∷ cs) ws (named_piece (Some directive.Ifdef) (name_len cs) (96 ∷ cs))
unfolding named_piece takes_name
ifdef_holds cs ws h d = name_holds (Some directive.Ifdef) (kind.Named directive.Ifdef) cs ws h d refl (λ bs. refl)

ifndef_holds : (cs ws : List ℕ) → begins is_letter cs ≡ true → directive_of (front is_name_byte cs) ≡ Some directive.Ifndef → Holds (96 ∷ cs) ws (named_piece (Some directive.Ifndef) (name_len cs) (96 ∷ cs))
unfolding named_piece takes_name
ifndef_holds cs ws h d = name_holds (Some directive.Ifndef) (kind.Named directive.Ifndef) cs ws h d refl (λ bs. refl)

-- ---- definitions

abbrev define : Kind
define = kind.Named directive.Define

abbrev Defines : List ℕ → List ℕ → ℕ → Type 0
Defines cs ws k = defining (takes define (name_len cs) (96 ∷ (take k cs ++ ws))) (96 ∷ (take k cs ++ ws)) ≡ defining (takes define (name_len cs) (96 ∷ cs)) (96 ∷ cs)

with_its_text : (p : Piece) (bs : List ℕ) → has_name p ≡ true → defining p bs ≡ with_text p (drop p.size bs)
with_its_text p bs h = rw h refl

without_text : (p : Piece) (bs : List ℕ) → has_name p ≡ false → defining p bs ≡ p
without_text p bs h = rw h refl

named_room : (cs : List ℕ) → name_len cs + (spaces (drop (name_len cs) cs) + name_len (past is_space (drop (name_len cs) cs))) ≤ length cs
named_room cs =
    let ds : List ℕ = drop (name_len cs) cs in
    omega (arith, prefix_len-le-length is_name_byte cs, length-drop (name_len cs) cs, prefix_len-le-length is_space ds, length-drop (spaces ds) ds, prefix_len-le-length is_name_byte (past is_space ds))

-- where it has a name, of which n bytes with the blanks before it, and k bytes of blanks and text
texted_defines : (n k : ℕ) (cs ws : List ℕ) → begins is_letter (past is_space (drop (name_len cs) cs)) ≡ true →
    n ≡ spaces (drop (name_len cs) cs) + name_len (past is_space (drop (name_len cs) cs)) → k ≡ spaces (drop (name_len cs + n) cs) + text_len 0 (past is_space (drop (name_len cs + n) cs)) →
    Ahead (drop (name_len cs + (n + k)) cs) ws → Defines cs ws (name_len cs + (n + k))
texted_defines n k cs ws l en ek a =
    let m : ℕ = name_len cs in
    let fs : List ℕ = drop (m + n) cs in
    let gs : List ℕ = past is_space fs in
    let p : Piece = takes define m (96 ∷ cs) in
    let rest : List ℕ = take (m + (n + k)) cs ++ ws in
    let same : takes define m (96 ∷ rest) ≡ p = named_takes define (n + k) cs ws l (omega (arith, en)) a.name in
    let size : p.size ≡ suc (m + n) = takes_size define cs l ∙ ap (λ (i : ℕ). suc (m + i)) (sym en) in
    let has : has_name p ≡ true = takes_has define cs l in
    let x : drop (text_len 0 gs) gs ≡ drop (m + (n + k)) cs =
    drop-drop (text_len 0 gs) (spaces fs) fs ∙ (drop-drop (spaces fs + text_len 0 gs) (m + n) cs ∙ ap (λ (i : ℕ). drop i cs) (omega (arith, ek))) in
    let y : drop k fs ≡ drop (m + (n + k)) cs = drop-drop k (m + n) cs ∙ ap (λ (i : ℕ). drop i cs) (omega arith) in
    let a2 : Ahead (drop (text_len 0 gs) gs) ws = subst (λ (zs : List ℕ). Ahead zs ws) (sym x) a in
    let stop : Stop (drop (text_len 0 gs) gs) ws = text_stops 0 gs ws a2.end a2.stop in
    let stop2 : Stop (drop k fs) ws = subst (λ (zs : List ℕ). Stop zs ws) (x ∙ sym y) stop in
    let behind : drop p.size (96 ∷ rest) ≡ take k fs ++ ws =
    ap (λ (i : ℕ). drop i (96 ∷ rest)) size ∙ drop_in (m + n) k (m + (n + k)) cs ws (omega arith) (omega (arith, named_room cs, en)) in
    let before : drop p.size (96 ∷ cs) ≡ fs = ap (λ (i : ℕ). drop i (96 ∷ cs)) size in
    ap (λ (q : Piece). defining q (96 ∷ rest)) same ∙ (with_its_text p (96 ∷ rest) has ∙ (ap (with_text p) behind ∙
    (texted_on p k fs ws ek stop2 ∙ (ap (with_text p) (sym before) ∙ sym (with_its_text p (96 ∷ cs) has)))))

bare_defines : (cs ws : List ℕ) → begins is_letter (past is_space (drop (name_len cs) cs)) ≡ false → Letters (drop (name_len cs) cs) ws → Defines cs ws (name_len cs)
bare_defines cs ws l f =
    let m : ℕ = name_len cs in
    let rest : List ℕ = take m cs ++ ws in
    let none : has_name (takes define m (96 ∷ cs)) ≡ false = takes_none define cs l in
    let same : takes define m (96 ∷ rest) ≡ takes define m (96 ∷ cs) = nameless_takes define cs ws l f in
    ap (λ (q : Piece). defining q (96 ∷ rest)) same ∙ (without_text (takes define m (96 ∷ cs)) (96 ∷ rest) none ∙ sym (without_text (takes define m (96 ∷ cs)) (96 ∷ cs) none))

define_size : (n : ℕ) (cs : List ℕ) → begins is_letter (past is_space (drop (name_len cs) cs)) ≡ true →
    n ≡ spaces (drop (name_len cs) cs) + name_len (past is_space (drop (name_len cs) cs)) →
    (defining (takes define (name_len cs) (96 ∷ cs)) (96 ∷ cs)).size ≡ suc (name_len cs + (n + (spaces (drop (name_len cs + n) cs) + text_len 0 (past is_space (drop (name_len cs + n) cs)))))
define_size n cs l en =
    let m : ℕ = name_len cs in
    let p : Piece = takes define m (96 ∷ cs) in
    let size : p.size ≡ suc (m + n) = takes_size define cs l ∙ ap (λ (i : ℕ). suc (m + i)) (sym en) in
    let before : drop p.size (96 ∷ cs) ≡ drop (m + n) cs = ap (λ (i : ℕ). drop i (96 ∷ cs)) size in
    let whole : defining p (96 ∷ cs) ≡ with_text p (drop (m + n) cs) = with_its_text p (96 ∷ cs) (takes_has define cs l) ∙ ap (with_text p) before in
    omega (arith, ap (λ (q : Piece). q.size) whole, size)

define_holds : (cs ws : List ℕ) → begins is_letter cs ≡ true → directive_of (front is_name_byte cs) ≡ Some directive.Define → Holds (96 ∷ cs) ws (named_piece (Some directive.Define) (name_len cs) (96 ∷ cs))
unfolding named_piece takes_name
define_holds cs ws h d a n =
    let m : ℕ = name_len cs in
    let q : Piece = defining (takes define m (96 ∷ cs)) (96 ∷ cs) in
    elim (cases_Bool (begins is_letter (past is_space (drop m cs)))) [
      | inl l ↦
          let j : ℕ = spaces (drop m cs) + name_len (past is_space (drop m cs)) in
          let k : ℕ = spaces (drop (m + j) cs) + text_len 0 (past is_space (drop (m + j) cs)) in
          let s : q.size ≡ suc (m + (j + k)) = define_size j cs l refl in
          let f : Ahead (drop (m + (j + k)) cs) ws = ahead_at q.size (m + (j + k)) cs ws s a in
          tick_by (Some directive.Define) (m + (j + k)) cs ws q h d (omega arith) f.name s (texted_defines j k cs ws l refl refl f)
      | inr l ↦
          let w : q ≡ bare define (1 + m) = without_text (takes define m (96 ∷ cs)) (96 ∷ cs) (takes_none define cs l) ∙ takes_bare define cs l in
          let s : q.size ≡ suc m = ap (λ (p : Piece). p.size) w ∙ omega arith in
          let f : Ahead (drop m cs) ws = ahead_at q.size m cs ws s a in
          let b : is_nameless q ≡ true = ap is_nameless w ∙ bare_nameless define (1 + m) refl in
          let g : Letters (drop m cs) ws = subst (λ (i : ℕ). Letters (drop i (96 ∷ cs)) ws) s (n b) in
          tick_by (Some directive.Define) m cs ws q h d (omega arith) f.name s (bare_defines cs ws l g)
    ]

named_holds : (o : Option Directive) (cs ws : List ℕ) → begins is_letter cs ≡ true → directive_of (front is_name_byte cs) ≡ o → Holds (96 ∷ cs) ws (named_piece o (name_len cs) (96 ∷ cs))
named_holds None cs ws h d = use_holds cs ws h d
named_holds (Some directive.Stays) cs ws h d = stays_holds cs ws h d
named_holds (Some directive.Define) cs ws h d = define_holds cs ws h d
named_holds (Some directive.Undef) cs ws h d = undef_holds cs ws h d
named_holds (Some directive.Ifdef) cs ws h d = ifdef_holds cs ws h d
named_holds (Some directive.Ifndef) cs ws h d = ifndef_holds cs ws h d
named_holds (Some directive.Else) cs ws h d = else_holds cs ws h d
named_holds (Some directive.Endif) cs ws h d = endif_holds cs ws h d
named_holds (Some directive.Elsif) cs ws h d = elsif_holds cs ws h d

-- ---- comments, escaped names and single bytes

pub line_piece : (b c : ℕ) (xs : List ℕ) → begins_with 47 47 (b ∷ (c ∷ [])) ≡ true → piece (b ∷ (c ∷ xs)) ≡ bare kind.Comment (2 + prefix_len is_in_line xs)
unfolding piece begins_with
line_piece b c xs h = rw h refl

line_holds : (b : ℕ) (bs ws : List ℕ) → begins_with 47 47 (b ∷ bs) ≡ true → Holds (b ∷ bs) ws (piece (b ∷ bs))
unfolding begins_with
line_holds b [] ws h = let k = and_parts (b == 47) false h in absurd (cc)
line_holds b (c ∷ cs) ws h =
    let k : ℕ = prefix_len is_in_line cs in
    let two : 2 + k ≡ suc (suc k) = omega arith in
    subst (Holds (b ∷ (c ∷ cs)) ws) (sym (line_piece b c cs h))
    (λ a n.
    let f : Ahead (drop k cs) ws = rw two at a in
    let r : prefix_len is_in_line (take k cs ++ ws) ≡ k = run is_in_line k cs ws (omega arith) f.in_line in
    let e : piece (b ∷ (c ∷ (take k cs ++ ws))) ≡ bare kind.Comment (2 + k) = line_piece b c (take k cs ++ ws) h ∙ ap (λ (i : ℕ). bare kind.Comment (2 + i)) r in
    subst (λ (i : ℕ). piece (take i (b ∷ (c ∷ cs)) ++ ws) ≡ bare kind.Comment (2 + k)) (sym two) e)

block_piece : (b c : ℕ) (xs : List ℕ) → begins_with 47 47 (b ∷ (c ∷ [])) ≡ false → begins_with 47 42 (b ∷ (c ∷ [])) ≡ true → piece (b ∷ (c ∷ xs)) ≡ bare kind.Comment (2 + closed 42 47 xs)
unfolding piece begins_with
block_piece b c xs g h = rw (g, h) refl

block_holds : (b : ℕ) (bs ws : List ℕ) → begins_with 47 47 (b ∷ bs) ≡ false → begins_with 47 42 (b ∷ bs) ≡ true → Holds (b ∷ bs) ws (piece (b ∷ bs))
unfolding begins_with
block_holds b [] ws g h = let k = and_parts (b == 47) false h in absurd (cc)
block_holds b (c ∷ cs) ws g h =
    let k : ℕ = closed 42 47 cs in
    let two : 2 + k ≡ suc (suc k) = omega arith in
    subst (Holds (b ∷ (c ∷ cs)) ws) (sym (block_piece b c cs g h))
    (λ a n.
    let f : Ahead (drop k cs) ws = rw two at a in
    let r : closed 42 47 (take k cs ++ ws) ≡ k = closed_on 42 47 cs ws f.end in
    let e : piece (b ∷ (c ∷ (take k cs ++ ws))) ≡ bare kind.Comment (2 + k) = block_piece b c (take k cs ++ ws) g h ∙ ap (λ (i : ℕ). bare kind.Comment (2 + i)) r in
    subst (λ (i : ℕ). piece (take i (b ∷ (c ∷ cs)) ++ ws) ≡ bare kind.Comment (2 + k)) (sym two) e)

pub escaped_piece : (xs : List ℕ) → begins is_printable xs ≡ true → piece (92 ∷ xs) ≡ bare kind.Escaped (1 + prefix_len is_printable xs)
unfolding piece begins_with is_escaped
escaped_piece xs h = rw h refl

equal_bytes : (a b : ℕ) → (a == b) ≡ true → a ≡ b
equal_bytes a b h = grind (arith, nat_tests)

slash_holds : (bs ws : List ℕ) → begins is_printable bs ≡ true → Holds (92 ∷ bs) ws (piece (92 ∷ bs))
slash_holds bs ws h =
    let k : ℕ = prefix_len is_printable bs in
    let one : 1 + k ≡ suc k = omega arith in
    subst (Holds (92 ∷ bs) ws) (sym (escaped_piece bs h))
    (λ a n.
    let f : Ahead (drop k bs) ws = rw one at a in
    let r : prefix_len is_printable (take k bs ++ ws) ≡ k = run is_printable k bs ws (omega arith) f.printable in
    let g : begins is_printable (take k bs ++ ws) ≡ true = begins_in is_printable k bs ws (some_run is_printable bs h) (begins_some is_printable bs h) ∙ h in
    let e : piece (92 ∷ (take k bs ++ ws)) ≡ bare kind.Escaped (1 + k) = escaped_piece (take k bs ++ ws) g ∙ ap (λ (i : ℕ). bare kind.Escaped (1 + i)) r in
    subst (λ (i : ℕ). piece (take i (92 ∷ bs) ++ ws) ≡ bare kind.Escaped (1 + k)) (sym one) e)

escaped_holds : (b : ℕ) (bs ws : List ℕ) → is_escaped (b ∷ bs) ≡ true → Holds (b ∷ bs) ws (piece (b ∷ bs))
unfolding is_escaped
escaped_holds b bs ws h =
    let k = and_parts (b == 92) (begins is_printable bs) h in
    subst (λ (c : ℕ). Holds (c ∷ bs) ws (piece (c ∷ bs))) (sym (equal_bytes b 92 k.0)) (slash_holds bs ws k.1)

tick_holds : (b : ℕ) (bs ws : List ℕ) → (begins (is 96) (b ∷ bs) && begins is_letter bs) ≡ true → Holds (b ∷ bs) ws (piece (b ∷ bs))
tick_holds b bs ws h =
    let k = and_parts (b == 96) (begins is_letter bs) h in
    subst (λ (c : ℕ). Holds (c ∷ bs) ws (piece (c ∷ bs))) (sym (equal_bytes b 96 k.0))
    (subst (Holds (96 ∷ bs) ws) (sym (tick_piece bs k.1)) (named_holds (directive_of (front is_name_byte bs)) bs ws k.1 refl))

both_false : (t x y : Bool) → (t && x) ≡ false → (x ≡ false → y ≡ false) → (t && y) ≡ false
both_false true x y h f = f h
both_false false x y h f = refl

pub plain_piece : (b : ℕ) (bs : List ℕ) → (b == 47 && begins (is 47) bs) ≡ false → (b == 47 && begins (is 42) bs) ≡ false → (b == 92 && begins is_printable bs) ≡ false → (b == 96 && begins is_letter bs) ≡ false →
    piece (b ∷ bs) ≡ bare kind.Plain 1
unfolding piece begins_with is_escaped
plain_piece b bs e f g h = rw (e, f, g, h) refl

plain_holds : (b : ℕ) (bs ws : List ℕ) → begins_with 47 47 (b ∷ bs) ≡ false → begins_with 47 42 (b ∷ bs) ≡ false → is_escaped (b ∷ bs) ≡ false → (begins (is 96) (b ∷ bs) && begins is_letter bs) ≡ false →
    Holds (b ∷ bs) ws (piece (b ∷ bs))
unfolding begins_with is_escaped
plain_holds b bs ws e f g h =
    subst (Holds (b ∷ bs) ws) (sym (plain_piece b bs e f g h))
    (λ a n.
    plain_piece b ws (both_false (b == 47) (begins (is 47) bs) (begins (is 47) ws) e a.slash) (both_false (b == 47) (begins (is 42) bs) (begins (is 42) ws) f a.star)
    (both_false (b == 92) (begins is_printable bs) (begins is_printable ws) g a.printable) (both_false (b == 96) (begins is_letter bs) (begins is_letter ws) h a.letter))

-- a unit stays what it is where nothing begins behind it that did not, and, if it is a directive without its name, no name follows
pub holds : (b : ℕ) (bs ws : List ℕ) → Holds (b ∷ bs) ws (piece (b ∷ bs))
holds b bs ws = elim (cases_Bool (begins_with 47 47 (b ∷ bs))) [
  | inl e ↦ line_holds b bs ws e
  | inr e ↦ elim (cases_Bool (begins_with 47 42 (b ∷ bs))) [
    | inl f ↦ block_holds b bs ws e f
    | inr f ↦ elim (cases_Bool (is_escaped (b ∷ bs))) [
      | inl g ↦ escaped_holds b bs ws g
      | inr g ↦ elim (cases_Bool (begins (is 96) (b ∷ bs) && begins is_letter bs)) [
        | inl h ↦ tick_holds b bs ws h
        | inr h ↦ plain_holds b bs ws e f g h
      ]
    ]
  ]
]
