-- Bytes that are units by themselves whatever follows them.
use Rattle.std.proofs.Common.{ℕ, ◌≡◌, List, [], ◌∷◌, ◌++◌, Bool, true, false, not, ◌&&◌, ◌==◌, refl, ap, ◌∙◌, sym, inl, inr}
use Rattle.std.specs.List.{list_all}
use Rattle.std.proofs.lemmas.Bool.{and_from, and_parts, cases_Bool, eqb-true, false≢true, not-true}
use Rattle.rr_directive.specs.declared.piece.Kind.TheVariants as kind
use Rattle.rr_directive.specs.Expand.{Each}
use Rattle.rr_directive.specs.Pieces.{bare, begins_with, is_escaped, piece}
use Rattle.rr_plain_files.proofs.Origins.{ArePlain, Gives, plain_gives}

-- no /, no \ and no backtick
unfoldable pub is_plain : ℕ → Bool
is_plain b = not (b == 47) && (not (b == 92) && not (b == 96))

-- a class without these
pub plain_class : (p : ℕ → Bool) → p 47 ≡ false → p 92 ≡ false → p 96 ≡ false → (b : ℕ) → p b ≡ true → is_plain b ≡ true
unfolding is_plain
plain_class p e f g b h = elim (cases_Bool (b == 47)) [
  | inl k ↦ absurd (false≢true (sym e ∙ ap p (sym (eqb-true b 47 k)) ∙ h))
  | inr k ↦ elim (cases_Bool (b == 92)) [
    | inl l ↦ absurd (false≢true (sym f ∙ ap p (sym (eqb-true b 92 l)) ∙ h))
    | inr l ↦ elim (cases_Bool (b == 96)) [
      | inl m ↦ absurd (false≢true (sym g ∙ ap p (sym (eqb-true b 96 m)) ∙ h))
      | inr m ↦ rw (k, l, m) refl
    ]
  ]
]

pub all_plain : (p : ℕ → Bool) → p 47 ≡ false → p 92 ≡ false → p 96 ≡ false → (text : List ℕ) → list_all p text ≡ true → list_all is_plain text ≡ true
all_plain p e f g [] h = refl
all_plain p e f g (b ∷ text) h =
    let k = and_parts (p b) (list_all p text) h in and_from (is_plain b) (list_all is_plain text) (plain_class p e f g b k.0) (all_plain p e f g text k.1)

-- no comment, escaped name, use or directive begins
pub lone : (b : ℕ) (bs : List ℕ) → begins_with 47 47 (b ∷ bs) ≡ false → begins_with 47 42 (b ∷ bs) ≡ false → (b == 92) ≡ false → (b == 96) ≡ false → piece (b ∷ bs) ≡ bare kind.Plain 1
unfolding piece is_escaped
lone b bs e f g h = rw (e, f, g, h) refl

pub plain_piece : (b : ℕ) (bs : List ℕ) → is_plain b ≡ true → piece (b ∷ bs) ≡ bare kind.Plain 1
unfolding is_plain begins_with
plain_piece b bs h =
    let a = and_parts _ _ h in
    let c = and_parts _ _ a.1 in
    let e = not-true (b == 47) a.0 in
    lone b bs (rw e refl) (rw e refl) (not-true (b == 92) c.0) (not-true (b == 96) c.1)

are_plain : (text after : List ℕ) → list_all is_plain text ≡ true → ArePlain text after
are_plain [] after h = tt
are_plain (b ∷ text) after h = let k = and_parts (is_plain b) (list_all is_plain text) h in (plain_piece b (text ++ after) k.0, are_plain text after k.1)

pub all_give : (text after : List ℕ) → list_all is_plain text ≡ true → Gives Each text after
all_give text after h = plain_gives text after (are_plain text after h)
