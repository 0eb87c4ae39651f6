-- Texts of tokens before a blank are read in single bytes and escaped names.
use Rattle.std.proofs.Common.{◌≡◌, ◌⊎◌, inl, inr, ℕ, ◌+◌, ◌-◌, ◌≤◌, ◌==◌, ◌&&◌, nat_le, not, Bool, true, false, List, [], ◌∷◌, ◌++◌, length, refl, sym, ◌∙◌, ap, subst, arith}
use Rattle.std.specs.List.{list_all, AllByRecursion}
use Rattle.std.proofs.lemmas.Bool.{and_parts, and_from, and_right, cases_eq, ne_eqb, le-leb}
use Rattle.std.proofs.lemmas.Bool.Decides.{nat_tests}
use Rattle.rr_directive.specs.Bytes.{within, is, begins, is_letter, is_printable}
use Rattle.rr_directive.specs.declared.piece.Kind.{Kind}
use Rattle.rr_directive.specs.declared.piece.Kind.TheVariants as kind
use Rattle.rr_directive.specs.Pieces.{Piece, TextUnit, bare, begins_with, is_escaped, piece, units}
use Rattle.rr_directive.proofs.Facts.{alone, escaped_stays}
use Rattle.rr_edit.specs.Edits.{is_single}

abbrev pub Singles : List TextUnit → Type 0
Singles us = AllByRecursion (λ u. is_single u.piece.kind ≡ true) us

-- a printable byte with which no comment, escaped name or directive begins
abbrev pub quiet : ℕ → Bool
quiet b = within 33 126 b && (not (b == 47) && (not (b == 92) && not (b == 96)))

-- what is read in single units before a blank behind which all is
pub record Calm (text : List ℕ) : Type 0 where
  pub units : (at : ℕ) (rest : List ℕ) → ((place : ℕ) → Singles (units place 0 (32 ∷ rest))) → Singles (units at 0 (text ++ (32 ∷ rest)))

one_unit : (at b n : ℕ) (bs : List ℕ) (k : Kind) → piece (b ∷ bs) ≡ bare k n → is_single k ≡ true → Singles (units (at + 1) (n - 1) bs) → Singles (units at 0 (b ∷ bs))
unfolding units
one_unit at b n bs k e s h = (ap (λ (p : Piece). is_single p.kind) e ∙ s, subst (λ (p : Piece). Singles (units (at + 1) (p.size - 1) bs)) (sym e) h)

-- a byte by itself
plain : (at b : ℕ) (bs : List ℕ) → piece (b ∷ bs) ≡ bare kind.Plain 1 → Singles (units (at + 1) 0 bs) → Singles (units at 0 (b ∷ bs))
unfolding is_single
plain at b bs e h = one_unit at b 1 bs kind.Plain e refl h

no_slash : (b c : ℕ) (bs : List ℕ) → (b == 47) ≡ false → begins_with 47 c (b ∷ bs) ≡ false
unfolding begins_with
no_slash b c bs h = ap (λ (t : Bool). t && begins (is c) bs) h

no_escape : (b : ℕ) (bs : List ℕ) → (b == 92) ≡ false → is_escaped (b ∷ bs) ≡ false
unfolding is_escaped
no_escape b bs h = ap (λ (t : Bool). t && begins is_printable bs) h

other_piece : (b : ℕ) (bs : List ℕ) → (b == 47) ≡ false → (b == 92) ≡ false → ((b == 96) && begins is_letter bs) ≡ false → piece (b ∷ bs) ≡ bare kind.Plain 1
unfolding piece
other_piece b bs s e t = rw (no_slash b 47 bs s, no_slash b 42 bs s, no_escape b bs e, t) refl

quiet_piece : (b : ℕ) (bs : List ℕ) → quiet b ≡ true → piece (b ∷ bs) ≡ bare kind.Plain 1
quiet_piece b bs h =
    let x = (and_parts (within 33 126 b) (not (b == 47) && (not (b == 92) && not (b == 96))) h).1 in
    let y = and_parts (not (b == 47)) (not (b == 92) && not (b == 96)) x in
    let z = and_parts (not (b == 92)) (not (b == 96)) y.1 in
    other_piece b bs (turned (b == 47) y.0) (turned (b == 92) z.0) (ap (λ (t : Bool). t && begins is_letter bs) (turned (b == 96) z.1))
  where
    turned : (t : Bool) → not t ≡ true → t ≡ false
    turned true e = sym e
    turned false e = refl

pub blank : (at : ℕ) (rest : List ℕ) → Singles (units (at + 1) 0 rest) → Singles (units at 0 (32 ∷ rest))
blank at rest h = plain at 32 rest (other_piece 32 rest refl refl refl) h

pub end : (at : ℕ) → Singles (units at 0 (32 ∷ []))
unfolding units
end at = blank at [] tt

-- quiet bytes
quiet_units : (text : List ℕ) → list_all quiet text ≡ true → (at : ℕ) (rest : List ℕ) → ((place : ℕ) → Singles (units place 0 (32 ∷ rest))) → Singles (units at 0 (text ++ (32 ∷ rest)))
quiet_units [] q at rest h = h at
quiet_units (b ∷ text) q at rest h =
    let x = and_parts (quiet b) (list_all quiet text) q in
    plain at b (text ++ (32 ∷ rest)) (quiet_piece b (text ++ (32 ∷ rest)) x.0) (quiet_units text x.1 (at + 1) rest h)

pub quiet_calm : (text : List ℕ) → list_all quiet text ≡ true → Calm text
quiet_calm text q = record { units = quiet_units text q }

-- a byte alone
pub byte_calm : (b : ℕ) → Calm (b ∷ [])
byte_calm b = record { units = λ at rest h. plain at b (32 ∷ rest) (alone b rest) (h (at + 1)) }

-- an escaped name
skipped : (at : ℕ) (name bs : List ℕ) → Singles (units (at + length name) 0 bs) → Singles (units at (length name) (name ++ bs))
unfolding units
skipped at [] bs h = subst (λ (k : ℕ). Singles (units k 0 bs)) (let e : at + 0 ≡ at = omega arith in e) h
skipped at (b ∷ name) bs h = skipped (at + 1) name bs (subst (λ (k : ℕ). Singles (units k 0 bs)) (let e : at + length (b ∷ name) ≡ at + 1 + length name = omega arith in e) h)

pub escaped_calm : (name : List ℕ) → list_all is_printable name ≡ true → begins is_printable name ≡ true → Calm (92 ∷ name)
unfolding is_single
escaped_calm name p b = record {
  units = λ at rest h.
      one_unit at 92 (1 + length name) (name ++ (32 ∷ rest)) kind.Escaped (escaped_stays name rest p b) refl
      (subst (λ (n : ℕ). Singles (units (at + 1) n (name ++ (32 ∷ rest)))) (let e : length name ≡ 1 + length name - 1 = omega arith in e) (skipped (at + 1) name (32 ∷ rest) (h (at + 1 + length name))));
}

printable : (bs : List ℕ) → list_all quiet bs ≡ true → list_all is_printable bs ≡ true
printable [] h = refl
printable (x ∷ bs) h =
    let y = and_parts (quiet x) (list_all quiet bs) h in
    and_from (is_printable x) (list_all is_printable bs) (and_parts (within 33 126 x) (not (x == 47) && (not (x == 92) && not (x == 96))) y.0).0 (printable bs y.1)

no_letter : (d : ℕ) → 48 ≤ d → d ≤ 57 → is_letter d ≡ false
no_letter d l m = grind (arith, nat_tests)

-- any byte but a slash before a digit and quiet bytes
pub before_digit : (b d : ℕ) (text : List ℕ) → (b ≡ 47 → ⊥) → 48 ≤ d → d ≤ 57 → list_all quiet (d ∷ text) ≡ true → Calm (b ∷ (d ∷ text))
before_digit b d text s l m q = by_byte (cases_eq b 92)
  where
    by_byte : (b ≡ 92) ⊎ (b ≡ 92 → ⊥) → Calm (b ∷ (d ∷ text))
    by_byte (inl e) =
        subst (λ (x : ℕ). Calm (x ∷ (d ∷ text))) (sym e)
        (escaped_calm (d ∷ text) (printable (d ∷ text) q) (and_from (nat_le 33 d) (nat_le d 126) (le-leb 33 d (omega (arith, l))) (le-leb d 126 (omega (arith, m)))))
    by_byte (inr e) = record {
      units = λ at rest h.
          plain at b (d ∷ (text ++ (32 ∷ rest)))
          (other_piece b (d ∷ (text ++ (32 ∷ rest))) (ne_eqb b 47 s) (ne_eqb b 92 e) (and_right (b == 96) (is_letter d) (no_letter d l m)))
          (quiet_units (d ∷ text) q (at + 1) rest h);
    }
