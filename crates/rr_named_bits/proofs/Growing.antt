-- Lists of pieces, of reaches and of writes that grow.
use Rattle.std.proofs.Common.{◌≡◌, ◌∙◌, sym, ap, subst, ℕ, ◌+◌, ◌<◌, ◌⊎◌, inl, inr, Bool, true, false, ◌&&◌, ◌||◌, List, [], ◌∷◌, ◌++◌, length, drop, get_or, refl, append_assoc, append-nil}
use Rattle.std.proofs.lemmas.Bool.{or_cases}
use Rattle.std.proofs.lemmas.List.{drop_more}
use Rattle.rr_expr.specs.declared.types.Bit.{Bit}
use Rattle.rr_named_bits.specs.declared.piece.Piece.{Piece}
use Rattle.rr_named_bits.specs.declared.piece.Reach.{Reach}
use Rattle.rr_named_bits.specs.declared.writes.Write.{Write}
use Rattle.rr_named_bits.specs.Lists.{reaches, covered, Grown, may, must}
use Rattle.rr_named_bits.specs.Pieces.{bits_of, all_bits}

or_assoc : (a b c : Bool) → ((a || b) || c) ≡ (a || (b || c))
or_assoc true b c = refl
or_assoc false b c = refl

or_false : (a : Bool) → (a || false) ≡ a
or_false true = refl
or_false false = refl

or_true : (a : Bool) → (a || true) ≡ true
or_true true = refl
or_true false = refl

-- one more

pub all_bits-push : (ps : List Piece) (p : Piece) → all_bits (ps ++ p ∷ []) ≡ bits_of p ++ all_bits ps
unfolding all_bits
all_bits-push [] p = sym (append-nil (bits_of p))
all_bits-push (q ∷ qs) p = ap (λ z. z ++ bits_of q) (all_bits-push qs p) ∙ append_assoc (bits_of p) (all_bits qs) (bits_of q)

pub covered-push : (rs : List Reach) (r : Reach) (b : Bit) → covered (rs ++ r ∷ []) b ≡ (covered rs b || reaches r b)
unfolding covered
covered-push [] r b = or_false (reaches r b)
covered-push (q ∷ qs) r b = ap (λ z. reaches q b || z) (covered-push qs r b) ∙ sym (or_assoc (reaches q b) (covered qs b) (reaches r b))

pub may-push : (ws : List Write) (w : Write) (b : Bit) → may (ws ++ w ∷ []) b ≡ (may ws b || reaches w.reach b)
unfolding may
may-push [] w b = or_false (reaches w.reach b)
may-push (v ∷ vs) w b = ap (λ z. reaches v.reach b || z) (may-push vs w b) ∙ sym (or_assoc (reaches v.reach b) (may vs b) (reaches w.reach b))

pub must-push : (ws : List Write) (w : Write) (b : Bit) → must (ws ++ w ∷ []) b ≡ (must ws b || (w.certain && reaches w.reach b))
unfolding must
must-push [] w b = or_false (w.certain && reaches w.reach b)
must-push (v ∷ vs) w b = ap (λ z. (v.certain && reaches v.reach b) || z) (must-push vs w b) ∙ sym (or_assoc (v.certain && reaches v.reach b) (must vs b) (w.certain && reaches w.reach b))

pub ruleset pushes = (all_bits-push, covered-push, may-push, must-push)

-- lists that grow by the bits of a set

pub grown_push : (ps : List Reach) (p : Reach) (P : Bit → Type 0) → ((b : Bit) → reaches p b ≡ true → P b) → ((b : Bit) → P b → reaches p b ≡ true) → Grown ps (ps ++ p ∷ []) P
grown_push ps p P f g = record {
  kept = λ b h. covered-push ps p b ∙ ap (λ z. z || reaches p b) h;
  added = λ b h. covered-push ps p b ∙ (ap (λ z. covered ps b || z) (g b h) ∙ or_true (covered ps b));
  only = λ b h. elim (or_cases (covered ps b) (reaches p b) (sym (covered-push ps p b) ∙ h)) [ inl k ↦ inl k | inr k ↦ inr (f b k) ];
}

pub grown_at : (ps qs rs : List Reach) (P : Bit → Type 0) → qs ≡ rs → Grown ps rs P → Grown ps qs P
grown_at ps qs rs P e g =
    let F : List Reach → Type 0 = λ z. Grown ps z P in
    subst F (sym e) g

pub grown_none : (ps : List Reach) (P : Bit → Type 0) → ((b : Bit) → P b → ⊥) → Grown ps ps P
grown_none ps P never = record { kept = λ b h. h; added = λ b h. absurd (never b h); only = λ b h. inl h }

pub grown_both : (ps qs rs : List Reach) (P Q R : Bit → Type 0) → Grown ps qs P → Grown qs rs Q → ((b : Bit) → P b → R b) → ((b : Bit) → Q b → R b) → ((b : Bit) → R b → P b ⊎ Q b) → Grown ps rs R
grown_both ps qs rs P Q R g h i j k = record {
  kept = λ b c. h.kept b (g.kept b c);
  added = λ b c. elim (k b c) [ inl p ↦ h.kept b (g.added b p) | inr q ↦ h.added b q ];
  only = λ b c. elim (h.only b c) [
    | inl d ↦ elim (g.only b d) [ inl e ↦ inl e | inr e ↦ inr (i b e) ]
    | inr d ↦ inr (j b d)
  ];
}

pub grown_same : (ps qs : List Reach) (P Q : Bit → Type 0) → Grown ps qs P → ((b : Bit) → P b → Q b) → ((b : Bit) → Q b → P b) → Grown ps qs Q
grown_same ps qs P Q g i j = record {
  kept = g.kept;
  added = λ b c. g.added b (j b c);
  only = λ b c. elim (g.only b c) [ inl d ↦ inl d | inr d ↦ inr (i b d) ];
}

-- the element of a list that a loop has come to
pub rest_is : {X : Type 0} (xs : List X) (i : ℕ) (x : X) → i < length xs → x ≡ get_or xs i x → drop i xs ≡ x ∷ drop (i + 1) xs
rest_is xs i x lt is = drop_more xs i x lt ∙ ap (λ y. y ∷ drop (i + 1) xs) (sym is)
