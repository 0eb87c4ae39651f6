-- A unit is decided by its own bytes and little that stands behind it.
use Rattle.std.proofs.Common.{ℕ, zero, suc, ◌≡◌, ◌+◌, ◌-◌, ◌≤◌, ◌<◌, List, [], ◌∷◌, ◌++◌, length, drop, take, Bool, true, false, not, ◌&&◌, ◌||◌, ◌==◌, if◌then◌else◌, refl, ap, ◌∙◌, sym, arith, inl, inr}
use Rattle.std.specs.List.{prefix_len}
use Rattle.std.proofs.lemmas.Bool.{cases_Bool, or_left}
use Rattle.std.proofs.lemmas.List.{length-drop, drop-drop}
use Rattle.std.proofs.lemmas.List.Sums.{prefix_len-le-length}
use Rattle.rr_directive.specs.declared.piece.Directive.TheVariants as directive
use Rattle.rr_directive.specs.declared.piece.Kind.{Kind}
use Rattle.rr_directive.specs.declared.piece.Kind.TheVariants as kind
use Rattle.rr_directive.specs.Bytes.{begins, is, is_in_line, is_letter, is_name_byte, is_printable, is_space, past, within}
use Rattle.rr_directive.specs.Pieces.{Piece, begins_with, ends_line, has_name, join_len, text_len, with_name, with_text}
use Rattle.rr_lift.proofs.Runs.{begins_in, begins_some, drop_in, run, run_within, some_run, take_in}

-- ---- what is asked of the bytes behind a unit

-- both end a defined text in the same way
pub data Stop : List ℕ → List ℕ → Type 0 where
  nothing : Stop [] []
  line : (xs ws : List ℕ) → Stop (10 ∷ xs) (10 ∷ ws)
  return : (xs ws : List ℕ) → Stop (13 ∷ (10 ∷ xs)) (13 ∷ (10 ∷ ws))
  slashes : (xs ws : List ℕ) → Stop (47 ∷ (47 ∷ xs)) (47 ∷ (47 ∷ ws))

abbrev pub stops : List ℕ → Bool
stops xs = ends_line xs || begins_with 47 47 xs

-- in these bytes nothing begins that does not in those
pub record Ahead (xs ws : List ℕ) : Type 0 where
  pub name : begins is_name_byte xs ≡ false → begins is_name_byte ws ≡ false
  pub in_line : begins is_in_line xs ≡ false → begins is_in_line ws ≡ false
  pub printable : begins is_printable xs ≡ false → begins is_printable ws ≡ false
  pub letter : begins is_letter xs ≡ false → begins is_letter ws ≡ false
  pub slash : begins (is 47) xs ≡ false → begins (is 47) ws ≡ false
  pub star : begins (is 42) xs ≡ false → begins (is 42) ws ≡ false
  pub end : xs ≡ [] → ws ≡ []
  pub stop : stops xs ≡ true → Stop xs ws

unfoldable pub takes_name : Kind → Bool
takes_name kind.Comment = false
takes_name kind.Escaped = false
takes_name kind.Plain = false
takes_name kind.Use = false
takes_name (kind.Named directive.Stays) = false
takes_name (kind.Named directive.Define) = true
takes_name (kind.Named directive.Undef) = true
takes_name (kind.Named directive.Ifdef) = true
takes_name (kind.Named directive.Ifndef) = true
takes_name (kind.Named directive.Else) = false
takes_name (kind.Named directive.Endif) = false
takes_name (kind.Named directive.Elsif) = false

-- a directive without the name that it takes
abbrev pub is_nameless : Piece → Bool
is_nameless p = takes_name p.kind && not (has_name p)

-- no name follows behind blanks
abbrev pub Letters : List ℕ → List ℕ → Type 0
Letters xs ws = begins is_letter (past is_space xs) ≡ false → begins is_letter (past is_space ws) ≡ false

-- ---- defined texts

line_test : (b : ℕ) (xs : List ℕ) → stops (b ∷ xs) ≡ ((b == 10 || (b == 13 && begins (is 10) xs)) || (b == 47 && begins (is 47) xs))
unfolding ends_line begins_with
line_test b xs = refl

and_same : (a b c : Bool) → ((a && b) && c) ≡ (a && (b && c))
and_same true b c = refl
and_same false b c = refl

join_test : (b : ℕ) (xs : List ℕ) → join_len (b ∷ xs) ≡ (if (b == 92 && begins (is 10) xs) then 2 else (if (b == 92 && begins_with 13 10 xs) then 3 else 0))
unfolding join_len begins_with
join_test b xs = ap (λ (c : Bool). if (b == 92 && begins (is 10) xs) then 2 else (if c then 3 else 0)) (and_same (b == 92) (begins (is 13) xs) (begins (is 10) (drop 1 xs)))

-- bytes, and how they are cut and go on, begin alike as far as a text asks
record Alike (xs ws : List ℕ) : Type 0 where
  ten : begins (is 10) ws ≡ begins (is 10) xs
  slash : begins (is 47) ws ≡ begins (is 47) xs
  return : begins_with 13 10 ws ≡ begins_with 13 10 xs

stop_alike : (xs ws : List ℕ) → Stop xs ws → Alike xs ws
unfolding begins_with
stop_alike xs ws nothing = record { ten = refl; slash = refl; return = refl }
stop_alike xs ws (line ys vs) = record { ten = refl; slash = refl; return = refl }
stop_alike xs ws (return ys vs) = record { ten = refl; slash = refl; return = refl }
stop_alike xs ws (slashes ys vs) = record { ten = refl; slash = refl; return = refl }

stop_nothing : (xs ws : List ℕ) → Stop xs ws → xs ≡ [] → ws ≡ []
stop_nothing xs ws nothing e = refl
stop_nothing xs ws (line ys vs) e = absurd (cc)
stop_nothing xs ws (return ys vs) e = absurd (cc)
stop_nothing xs ws (slashes ys vs) e = absurd (cc)

alike : (k : ℕ) (xs ws : List ℕ) → Stop (drop k xs) ws → Alike xs (take k xs ++ ws)
unfolding begins_with
alike zero xs ws s = stop_alike xs ws s
alike (suc k) [] ws s = stop_alike [] ws s
alike (suc zero) (x ∷ xs) ws s = record { ten = refl; slash = refl; return = ap (λ (c : Bool). x == 13 && c) (stop_alike xs ws s).ten }
alike (suc (suc k)) (x ∷ []) ws s = record { ten = refl; slash = refl; return = ap (λ (c : Bool). x == 13 && c) (stop_alike [] ws s).ten }
alike (suc (suc k)) (x ∷ (y ∷ xs)) ws s = record { ten = refl; slash = refl; return = refl }

alike_stops : (b : ℕ) (xs ws : List ℕ) → Alike xs ws → stops (b ∷ ws) ≡ stops (b ∷ xs)
alike_stops b xs ws a = line_test b ws ∙ (rw (a.ten, a.slash) refl ∙ sym (line_test b xs))

alike_joins : (b : ℕ) (xs ws : List ℕ) → Alike xs ws → join_len (b ∷ ws) ≡ join_len (b ∷ xs)
alike_joins b xs ws a = join_test b ws ∙ (rw (a.ten, a.return) refl ∙ sym (join_test b xs))

-- the first bytes of a text, and its end
text_here : (b : ℕ) (bs : List ℕ) → stops (b ∷ bs) ≡ true → text_len 0 (b ∷ bs) ≡ 0
unfolding text_len
text_here b bs h = rw h refl

text_next : (b : ℕ) (bs : List ℕ) → stops (b ∷ bs) ≡ false → text_len 0 (b ∷ bs) ≡ suc (text_len (join_len (b ∷ bs) - 1) bs)
unfolding text_len
text_next b bs h = rw h (omega arith)

text_taken : (n b : ℕ) (bs : List ℕ) → text_len (suc n) (b ∷ bs) ≡ suc (text_len n bs)
unfolding text_len
text_taken n b bs = omega arith

text_nothing : (n : ℕ) → text_len n [] ≡ 0
unfolding text_len
text_nothing n = refl

stop_ends : (xs ws : List ℕ) → Stop xs ws → text_len 0 ws ≡ 0
unfolding ends_line begins_with
stop_ends xs ws nothing = text_nothing 0
stop_ends xs ws (line ys vs) = text_here 10 vs refl
stop_ends xs ws (return ys vs) = text_here 13 (10 ∷ vs) refl
stop_ends xs ws (slashes ys vs) = text_here 47 (47 ∷ vs) refl

pub text_fits : (n : ℕ) (bs : List ℕ) → text_len n bs ≤ length bs
text_fits n [] = omega (arith, text_nothing n)
text_fits (suc n) (b ∷ bs) = omega (arith, text_taken n b bs, text_fits n bs)
text_fits zero (b ∷ bs) = elim (cases_Bool (stops (b ∷ bs))) [
  | inl h ↦ omega (arith, text_here b bs h)
  | inr h ↦ omega (arith, text_next b bs h, text_fits (join_len (b ∷ bs) - 1) bs)
]

pub text_on : (n : ℕ) (bs ws : List ℕ) → Stop (drop (text_len n bs) bs) ws → text_len n (take (text_len n bs) bs ++ ws) ≡ text_len n bs
text_on n [] ws s =
    let e : ws ≡ [] = stop_nothing [] ws (rw (text_nothing n) at s) refl in
    rw (text_nothing n, e) (text_nothing n)
text_on (suc n) (b ∷ bs) ws s =
    let e = text_taken n b bs in
    let s2 : Stop (drop (text_len n bs) bs) ws = rw e at s in
    rw e (text_taken n b (take (text_len n bs) bs ++ ws) ∙ ap (λ (m : ℕ). suc m) (text_on n bs ws s2))
text_on zero (b ∷ bs) ws s = elim (cases_Bool (stops (b ∷ bs))) [
  | inl h ↦ let e = text_here b bs h in let s2 : Stop (b ∷ bs) ws = rw e at s in rw e (stop_ends (b ∷ bs) ws s2)
  | inr h ↦
      let e = text_next b bs h in
      let j = join_len (b ∷ bs) - 1 in
      let s2 : Stop (drop (text_len j bs) bs) ws = rw e at s in
      let a = alike (text_len j bs) bs ws s2 in
      let rest : List ℕ = take (text_len j bs) bs ++ ws in
      let k : stops (b ∷ rest) ≡ false = alike_stops b bs rest a ∙ h in
      let f : text_len (join_len (b ∷ rest) - 1) rest ≡ text_len j rest = ap (λ (m : ℕ). text_len (m - 1) rest) (alike_joins b bs rest a) in
      rw e (text_next b rest k ∙ ap (λ (m : ℕ). suc m) (f ∙ text_on j bs ws s2))
]

-- a text goes up to such an end
pub text_stops : (n : ℕ) (bs ws : List ℕ) → (drop (text_len n bs) bs ≡ [] → ws ≡ []) → (stops (drop (text_len n bs) bs) ≡ true → Stop (drop (text_len n bs) bs) ws) → Stop (drop (text_len n bs) bs) ws
text_stops n [] ws h g =
    let e : ws ≡ [] = h (rw (text_nothing n) refl) in
    rw (text_nothing n, e) nothing
text_stops (suc n) (b ∷ bs) ws h g = let e = text_taken n b bs in rw e (text_stops n bs ws (rw e at h) (rw e at g))
text_stops zero (b ∷ bs) ws h g = elim (cases_Bool (stops (b ∷ bs))) [
  | inl t ↦ let e = text_here b bs t in let g2 : stops (b ∷ bs) ≡ true → Stop (b ∷ bs) ws = rw e at g in rw e (g2 t)
  | inr t ↦ let e = text_next b bs t in rw e (text_stops (join_len (b ∷ bs) - 1) bs ws (rw e at h) (rw e at g))
]

-- ---- names that directives take

pub letter_in_name : (b : ℕ) → is_letter b ≡ true → is_name_byte b ≡ true
letter_in_name b h = or_left (is_letter b) (within 48 57 b || b == 36) h

pub begins_named : (cs : List ℕ) → begins is_letter cs ≡ true → begins is_name_byte cs ≡ true
begins_named [] h = absurd (cc)
begins_named (c ∷ cs) h = letter_in_name c h

begins_taken : (p : ℕ → Bool) (n : ℕ) (bs : List ℕ) → 1 ≤ n → begins p (take n bs) ≡ begins p bs
begins_taken p zero bs l = absurd (omega arith)
begins_taken p (suc n) [] l = refl
begins_taken p (suc n) (b ∷ bs) l = refl

abbrev pub spaces : List ℕ → ℕ
spaces ds = prefix_len is_space ds

abbrev pub name_len : List ℕ → ℕ
name_len ds = prefix_len is_name_byte ds

pub named_on : (k : Kind) (n m : ℕ) (ds ws : List ℕ) → begins is_letter (past is_space ds) ≡ true → spaces ds + name_len (past is_space ds) ≤ m →
    (begins is_name_byte (drop m ds) ≡ false → begins is_name_byte ws ≡ false) → with_name k n (take m ds ++ ws) ≡ with_name k n ds
named_on k n m ds ws h l f =
    let es : List ℕ = past is_space ds in
    let some : 1 ≤ name_len es = some_run is_name_byte es (begins_named es h) in
    let long : 1 ≤ length es = begins_some is_letter es h in
    let room : spaces ds < length ds = omega (arith, length-drop (spaces ds) ds, long) in
    let j : ℕ = m - spaces ds in
    let a : spaces (take m ds ++ ws) ≡ spaces ds = run_within is_space m ds ws (omega (arith, some)) room in
    let d : drop (spaces ds) (take m ds ++ ws) ≡ take j es ++ ws = drop_in (spaces ds) j m ds ws (omega (arith, some)) (omega (arith, room)) in
    let b : begins is_letter (take j es ++ ws) ≡ true = begins_in is_letter j es ws (omega (arith, some)) long ∙ h in
    let g : drop j es ≡ drop m ds = drop-drop j (spaces ds) ds ∙ ap (λ (i : ℕ). drop i ds) (omega (arith, some)) in
    let f2 : begins is_name_byte (drop j es) ≡ false → begins is_name_byte ws ≡ false = rw g f in
    let r : name_len (take j es ++ ws) ≡ name_len es = run is_name_byte j es ws (omega (arith, some)) f2 in
    let t : take (name_len es) (take j es ++ ws) ≡ take (name_len es) es = take_in (name_len es) j es ws (omega (arith, some)) (prefix_len-le-length is_name_byte es) in
    rw (a, d, b, r, t, h) refl

pub nameless_on : (k : Kind) (n : ℕ) (ds ws : List ℕ) → begins is_letter (past is_space ds) ≡ false → Letters ds ws → with_name k n ws ≡ with_name k n ds
nameless_on k n ds ws h f = let g = f h in rw (g, h) refl

pub named_size : (k : Kind) (n : ℕ) (ds : List ℕ) → begins is_letter (past is_space ds) ≡ true → (with_name k n ds).size ≡ n + (spaces ds + name_len (past is_space ds))
named_size k n ds h = rw h refl

pub nameless_size : (k : Kind) (n : ℕ) (ds : List ℕ) → begins is_letter (past is_space ds) ≡ false → (with_name k n ds).size ≡ n
nameless_size k n ds h = rw h refl

pub named_has : (k : Kind) (n : ℕ) (ds : List ℕ) → begins is_letter (past is_space ds) ≡ true → has_name (with_name k n ds) ≡ true
named_has k n ds h =
    let some : 1 ≤ name_len (past is_space ds) = some_run is_name_byte (past is_space ds) (begins_named (past is_space ds) h) in
    rw h (begins_taken is_letter (name_len (past is_space ds)) (past is_space ds) some ∙ h)

pub nameless_has : (k : Kind) (n : ℕ) (ds : List ℕ) → begins is_letter (past is_space ds) ≡ false → has_name (with_name k n ds) ≡ false
nameless_has k n ds h = rw h refl

-- ---- and the texts behind them

no_space : (xs ws : List ℕ) → Stop xs ws → begins is_space ws ≡ false
no_space xs ws nothing = refl
no_space xs ws (line ys vs) = refl
no_space xs ws (return ys vs) = refl
no_space xs ws (slashes ys vs) = refl

no_bracket : (xs ws : List ℕ) → Stop xs ws → begins (is 40) ws ≡ begins (is 40) xs
no_bracket xs ws nothing = refl
no_bracket xs ws (line ys vs) = refl
no_bracket xs ws (return ys vs) = refl
no_bracket xs ws (slashes ys vs) = refl

bracket_on : (k : ℕ) (fs ws : List ℕ) → Stop (drop k fs) ws → begins (is 40) (take k fs ++ ws) ≡ begins (is 40) fs
bracket_on zero fs ws s = no_bracket fs ws s
bracket_on (suc k) [] ws s = no_bracket [] ws s
bracket_on (suc k) (f ∷ fs) ws s = refl

pub texted_on : (q : Piece) (k : ℕ) (fs ws : List ℕ) → k ≡ spaces fs + text_len 0 (past is_space fs) → Stop (drop k fs) ws → with_text q (take k fs ++ ws) ≡ with_text q fs
texted_on q k fs ws e s =
    let gs : List ℕ = past is_space fs in
    let n : ℕ = text_len 0 gs in
    let a : spaces (take k fs ++ ws) ≡ spaces fs = run is_space k fs ws (omega (arith, e)) (λ x. no_space (drop k fs) ws s) in
    let d : drop (spaces fs) (take k fs ++ ws) ≡ take n gs ++ ws = drop_in (spaces fs) n k fs ws e (prefix_len-le-length is_space fs) in
    let g : drop n gs ≡ drop k fs = drop-drop n (spaces fs) fs ∙ ap (λ (i : ℕ). drop i fs) (sym e) in
    let s2 : Stop (drop n gs) ws = rw g s in
    let t : text_len 0 (take n gs ++ ws) ≡ n = text_on 0 gs ws s2 in
    let f : take n (take n gs ++ ws) ≡ take n gs = take_in n n gs ws (omega arith) (text_fits 0 gs) in
    let b = bracket_on k fs ws s in
    rw (b, a, d, t, f) refl
