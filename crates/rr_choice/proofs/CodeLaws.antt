-- The bits of a choice are read to the choice.
use Rattle.std.proofs.Common.{◌≡◌, ◌⊎◌, inl, inr, ℕ, suc, ◌+◌, ◌-◌, ◌^◌, ◌<◌, ◌≤◌, ◌==◌, Bool, true, false, if◌then◌else◌, List, [], ◌∷◌, ◌++◌, length, take, drop, refl, sym, ◌∙◌, ap, ap₂, arith, append_assoc, length-append}
use Rattle.std.proofs.lemmas.Bool.{eq-eqb, ne_eqb, cases_eq}
use Rattle.std.proofs.lemmas.List.Elements.{All-head, All-tail}
use Rattle.std.proofs.Math.Seq.{take-append_seam}
use Rattle.rr_bits.specs.Words.{number, word}
use Rattle.rr_bits.specs.Fields.{length_word}
use Rattle.rr_bits.proofs.Numbers.{number_small}
use Rattle.rr_choice.specs.declared.pick.Pick.{Pick}
use Rattle.rr_choice.specs.Sites.{SiteKind, Site, Literal, Guard, Overwrite, guard_names, value_width, last_form, form_width, FewNames}
use Rattle.rr_choice.specs.Choices.{IsPickOf, IsChoice, name_width, guard_width, site_bits, total_bits, read_form, read_name, read_pick, greatest_form, decode}
use Rattle.rr_choice.specs.Codes.{guard_code, code_of, code}

take_word : (w n : ℕ) (rest : List Bool) → take w (word w n ++ rest) ≡ word w n
take_word w n rest = ap (λ k. take k (word w n ++ rest)) (sym (length_word w n)) ∙ take-append_seam (word w n) rest

drop_seam : (xs ys : List Bool) (k : ℕ) → length xs ≡ k → drop k (xs ++ ys) ≡ ys
drop_seam [] ys k e = rw (← e) refl
drop_seam (x ∷ xs) ys k e = rw (← e) (drop_seam xs ys (length xs) refl)

read_number : (w n : ℕ) (rest : List Bool) → n < 2 ^ w → number (take w (word w n ++ rest)) ≡ n
read_number w n rest l = ap number (take_word w n rest) ∙ number_small w n l

name_room : (n : ℕ) → n ≤ 64 → n - 1 < 2 ^ name_width n
name_room n h = grind arith

form_room : (k : SiteKind) → last_form k < 2 ^ form_width k
form_room (Literal width signed) = omega arith
form_room (Guard owner extent names) = omega arith
form_room (Overwrite owner target width now names) = omega arith

-- form and name are read back
module _ (k : SiteKind) (p : Pick) (rest : List Bool)
    (form : p.form ≤ greatest_form k) (name : p.name ≤ length (guard_names k) - 1) (few : length (guard_names k) ≤ 64) where
  form_back : read_form k (guard_code k p ++ rest) ≡ p.form
  unfolding guard_code
  form_back = by_cases (cases_eq (length (guard_names k)) 0)
    where
      by_cases : ((length (guard_names k) ≡ 0) ⊎ (length (guard_names k) ≡ 0 → ⊥)) → read_form k (guard_code k p ++ rest) ≡ p.form
      by_cases (inl e) = let q = eq-eqb (length (guard_names k)) 0 e in let f = rw q at form in rw q (omega (arith, f))
      by_cases (inr e) =
          let q = ne_eqb (length (guard_names k)) 0 e in
          let f : p.form ≤ last_form k = rw q at form in
          let r : number (take (form_width k) ((word (form_width k) p.form ++ word (name_width (length (guard_names k))) p.name) ++ rest)) ≡ p.form =
          ap (λ bs. number (take (form_width k) bs)) (append_assoc (word (form_width k) p.form) (word (name_width (length (guard_names k))) p.name) rest)
          ∙ read_number (form_width k) p.form (word (name_width (length (guard_names k))) p.name ++ rest) (omega (arith, form_room k, f)) in
          rw (q, r) (omega (arith, f))

  name_back : read_name k (guard_code k p ++ rest) ≡ p.name
  unfolding guard_code
  name_back = by_cases (cases_eq (length (guard_names k)) 0)
    where
      by_cases : ((length (guard_names k) ≡ 0) ⊎ (length (guard_names k) ≡ 0 → ⊥)) → read_name k (guard_code k p ++ rest) ≡ p.name
      by_cases (inl e) = let q = eq-eqb (length (guard_names k)) 0 e in rw q (omega (arith, name, e))
      by_cases (inr e) =
          let q = ne_eqb (length (guard_names k)) 0 e in
          let r : number (take (name_width (length (guard_names k))) (drop (form_width k) ((word (form_width k) p.form ++ word (name_width (length (guard_names k))) p.name) ++ rest))) ≡ p.name =
          ap (λ bs. number (take (name_width (length (guard_names k))) (drop (form_width k) bs))) (append_assoc (word (form_width k) p.form) (word (name_width (length (guard_names k))) p.name) rest)
          ∙ ap (λ bs. number (take (name_width (length (guard_names k))) bs)) (drop_seam (word (form_width k) p.form) (word (name_width (length (guard_names k))) p.name ++ rest) (form_width k) (length_word (form_width k) p.form))
          ∙ read_number (name_width (length (guard_names k))) p.name rest (let m = name_room (length (guard_names k)) few in omega (arith, m, name)) in
          rw (q, r) (omega (arith, name))

  guard_length : length (guard_code k p) ≡ guard_width k
  unfolding guard_code
  guard_length = by_cases (length (guard_names k) == 0)
    where
      by_cases : (b : Bool) → length (if b then [] else word (form_width k) p.form ++ word (name_width (length (guard_names k))) p.name) ≡ (if b then 0 else form_width k + name_width (length (guard_names k)))
      by_cases true = refl
      by_cases false = length-append (word (form_width k) p.form) (word (name_width (length (guard_names k))) p.name) ∙ ap₂ (λ x y. x + y) (length_word (form_width k) p.form) (length_word (name_width (length (guard_names k))) p.name)

length_code_of : (s : Site) (p : Pick) → IsPickOf s p → length (guard_names s.kind) ≤ 64 → length (code_of s p) ≡ site_bits s
unfolding code_of
length_code_of s p h few =
    let a = length-append (word (value_width s.kind) p.value) (guard_code s.kind p) in
    let b = length_word (value_width s.kind) p.value in
    let d = guard_length s.kind p [] h.form h.name few in
    omega (arith, a, b, d)

same_pick : (p q : Pick) → p.on ≡ q.on → p.value ≡ q.value → p.form ≡ q.form → p.name ≡ q.name → p ≡ q
same_pick p q a b d e =
    ap (λ x. record { on = x; value = p.value; form = p.form; name = p.name }) a
    ∙ ap (λ x. record { on = q.on; value = x; form = p.form; name = p.name }) b
    ∙ ap (λ x. record { on = q.on; value = q.value; form = x; name = p.name }) d
    ∙ ap (λ x. record { on = q.on; value = q.value; form = q.form; name = x }) e

pick_back : (s : Site) (p : Pick) (rest : List Bool) → IsPickOf s p → length (guard_names s.kind) ≤ 64 → read_pick s (code_of s p ++ rest) ≡ p
unfolding code_of
pick_back s p rest h few =
    let v : List Bool = word (value_width s.kind) p.value in
    let f : List Bool = guard_code s.kind p in
    let assoc : (v ++ f) ++ rest ≡ v ++ (f ++ rest) = append_assoc v f rest in
    let one : 1 + value_width s.kind ≡ suc (value_width s.kind) = omega arith in
    let tail : drop (1 + value_width s.kind) (p.on ∷ ((v ++ f) ++ rest)) ≡ f ++ rest =
    ap (λ k. drop k (p.on ∷ ((v ++ f) ++ rest))) one ∙ ap (drop (value_width s.kind)) assoc ∙ drop_seam v (f ++ rest) (value_width s.kind) (length_word (value_width s.kind) p.value) in
    same_pick (read_pick s (code_of s p ++ rest)) p refl
    (ap (λ bs. number (take (value_width s.kind) bs)) assoc ∙ read_number (value_width s.kind) p.value (f ++ rest) h.value)
    (ap (read_form s.kind) tail ∙ form_back s.kind p rest h.form h.name few)
    (ap (read_name s.kind) tail ∙ name_back s.kind p rest h.form h.name few)

few_first : (s : Site) (ss : List Site) → FewNames (s ∷ ss) → length (guard_names s.kind) ≤ 64
few_first s ss n = All-head (λ (s : Site). length (guard_names s.kind) ≤ 64) s ss n

few_rest : (s : Site) (ss : List Site) → FewNames (s ∷ ss) → FewNames ss
few_rest s ss n = All-tail (λ (s : Site). length (guard_names s.kind) ≤ 64) s ss n

pub length_code : (ss : List Site) (ps : List Pick) → FewNames ss → IsChoice ss ps → length (code ss ps) ≡ total_bits ss
unfolding code IsChoice total_bits
length_code [] [] n h = refl
length_code [] (p ∷ ps) n h = absurd h
length_code (s ∷ ss) [] n h = absurd h
length_code (s ∷ ss) (p ∷ ps) n h =
    length-append (code_of s p) (code ss ps) ∙ ap₂ (λ x y. x + y) (length_code_of s p h.0 (few_first s ss n)) (length_code ss ps (few_rest s ss n) h.1)

pub decode_code : (ss : List Site) (ps : List Pick) → FewNames ss → IsChoice ss ps → decode ss (code ss ps) ≡ ps
unfolding code IsChoice decode
decode_code [] [] n h = refl
decode_code [] (p ∷ ps) n h = absurd h
decode_code (s ∷ ss) [] n h = absurd h
decode_code (s ∷ ss) (p ∷ ps) n h =
    ap₂ (λ q qs. q ∷ qs) (pick_back s p (code ss ps) h.0 (few_first s ss n))
    (ap (decode ss) (drop_seam (code_of s p) (code ss ps) (site_bits s) (length_code_of s p h.0 (few_first s ss n))) ∙ decode_code ss ps (few_rest s ss n) h.1)
