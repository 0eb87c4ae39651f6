-- Bits that are all 0, and the bits of the sites from one on.
use Rattle.std.proofs.Common.{◌≡◌, ℕ, zero, suc, ◌+◌, ◌-◌, ◌<◌, ◌≤◌, ◌==◌, Bool, true, false, cond, List, [], ◌∷◌, ◌++◌, length, take, drop, get_or, replicate, refl, sym, ◌∙◌, ap, ap₂, arith, append_assoc, append-nil}
use Rattle.std.proofs.lemmas.List.{take_all, take_more, drop_all, drop_more}
use Rattle.std.proofs.lemmas.List.Sums.{sum_by-cons}
use Rattle.rr_bits.specs.Words.{word}
use Rattle.rr_bits.specs.Fields.{length_word}
use Rattle.rr_syntax.specs.declared.site.Site.{Site as ArenaSite}
use Rattle.rr_choice.specs.declared.pick.Pick.{Pick}
use Rattle.rr_choice.specs.Sites.{SiteKind, Site, guard_names, value_width, form_width, FewNames, IsSiteList}
use Rattle.rr_choice.specs.Choices.{IsChoice, name_width, guard_width, site_bits, read_pick, decode, cost}
use Rattle.rr_choice.specs.Codes.{guard_code, code_of, code}
use Rattle.rr_choice.specs.View.{plain_site, plain_sites}

pub few_names : (ss : List Site) → IsSiteList ss → FewNames ss
few_names ss h = λ k d l. (h.each k d l).names

pub length_choice : (sites : List Site) (c : List Pick) → IsChoice sites c → length c ≡ length sites
unfolding IsChoice
length_choice [] [] h = refl
length_choice [] (p ∷ ps) h = absurd h
length_choice (s ∷ ss) [] h = absurd h
length_choice (s ∷ ss) (p ∷ ps) h = ap suc (length_choice ss ps h.1)

-- ---- bits that are all 0

get_zeros : (n i : ℕ) → get_or (replicate n false) i false ≡ false
get_zeros zero i = refl
get_zeros (suc n) zero = refl
get_zeros (suc n) (suc i) = get_zeros n i

drop_zeros : (k n : ℕ) → drop k (replicate n false) ≡ replicate (n - k) false
drop_zeros zero n = ap (λ m. replicate m false) (omega arith)
drop_zeros (suc k) zero = let e : 0 - suc k ≡ 0 = omega arith in ap (λ m. replicate m false) (sym e)
drop_zeros (suc k) (suc n) = drop_zeros k n ∙ ap (λ m. replicate m false) (omega arith)

all_off : (p : Pick) (ps : List Pick) → p.on ≡ false → cost ps ≡ 0 → cost (p ∷ ps) ≡ 0
all_off p ps e h = sum_by-cons (λ (q : Pick). cond q.on 1 0) p ps ∙ ap₂ (λ b n. cond b 1 0 + n) e h

pub free_zeros : (ss : List Site) (n : ℕ) → cost (decode ss (replicate n false)) ≡ 0
unfolding decode
free_zeros [] n = refl
free_zeros (s ∷ ss) n = all_off (read_pick s (replicate n false)) (decode ss (drop (site_bits s) (replicate n false))) (get_zeros n 0) (ap (λ bs. cost (decode ss bs)) (drop_zeros (site_bits s) n) ∙ free_zeros ss (n - site_bits s))

-- ---- the sites from one on, and the bits of their picks

module _ (sites : List ArenaSite) (picks : List Pick) (k : ℕ) (d : ArenaSite) (e : Pick) (inside : k < length sites) (there : k < length picks) where
  code_here : code (plain_sites (drop k sites)) (drop k picks) ≡ code_of (plain_site (get_or sites k d)) (get_or picks k e) ++ code (plain_sites (drop (k + 1) sites)) (drop (k + 1) picks)
  unfolding code
  code_here = ap₂ (λ (ss : List Site) (ps : List Pick). code ss ps) (ap plain_sites (drop_more sites k d inside)) (drop_more picks k e there)

  pub code_more : (out whole : List Bool) → out ++ code (plain_sites (drop k sites)) (drop k picks) ≡ whole →
      (out ++ code_of (plain_site (get_or sites k d)) (get_or picks k e)) ++ code (plain_sites (drop (k + 1) sites)) (drop (k + 1) picks) ≡ whole
  code_more out whole h =
      append_assoc out (code_of (plain_site (get_or sites k d)) (get_or picks k e)) (code (plain_sites (drop (k + 1) sites)) (drop (k + 1) picks))
      ∙ ap (λ xs. out ++ xs) (sym code_here) ∙ h

pub code_all : (sites : List ArenaSite) (picks : List Pick) (k : ℕ) (out whole : List Bool) → length sites ≤ k → out ++ code (plain_sites (drop k sites)) (drop k picks) ≡ whole → out ≡ whole
unfolding code
code_all sites picks k out whole l h =
    sym (append-nil out) ∙ ap (λ (ss : List ArenaSite). out ++ code (plain_sites ss) (drop k picks)) (sym (drop_all k sites l)) ∙ h

-- one bit more of a word
pub word_more : (out old : List Bool) (w n place : ℕ) (b : Bool) → place < w → out ≡ old ++ take place (word w n) → b ≡ get_or (word w n) place false → out ++ b ∷ [] ≡ old ++ take (place + 1) (word w n)
word_more out old w n place b l h e =
    let len : place < length (word w n) = rw (length_word w n) l in
    ap₂ (λ xs x. xs ++ x ∷ []) h e ∙ append_assoc old (take place (word w n)) (get_or (word w n) place false ∷ []) ∙ ap (λ xs. old ++ xs) (sym (take_more (word w n) place false len))

pub word_all : (old : List Bool) (w n place : ℕ) → w ≤ place → old ++ take place (word w n) ≡ old ++ word w n
word_all old w n place l = let e = length_word w n in ap (λ xs. old ++ xs) (take_all place (word w n) (omega arith))

-- the parts of a guard's bits
pub no_guard : (k : SiteKind) (p : Pick) (n : ℕ) → n ≡ length (guard_names k) → (n == 0) ≡ true → guard_code k p ≡ []
unfolding guard_code
no_guard k p n e h = let q : (length (guard_names k) == 0) ≡ true = ap (λ m. m == 0) (sym e) ∙ h in rw q refl

pub some_guard : (s : Site) (p : Pick) (n forms names all value : ℕ) → n ≡ length (guard_names s.kind) → (n == 0) ≡ false → forms ≡ form_width s.kind → all ≡ site_bits s → value ≡ value_width s.kind →
    names ≡ all - 1 - value - forms → guard_code s.kind p ≡ word forms p.form ++ word names p.name
unfolding guard_code
some_guard s p n forms names all value e h a b d f =
    let q : (length (guard_names s.kind) == 0) ≡ false = ap (λ m. m == 0) (sym e) ∙ h in
    let w : guard_width s.kind ≡ form_width s.kind + name_width (length (guard_names s.kind)) = rw q refl in
    let g : name_width (length (guard_names s.kind)) ≡ names = omega (arith, a, b, d, f, w) in
    let r : guard_code s.kind p ≡ word (form_width s.kind) p.form ++ word (name_width (length (guard_names s.kind))) p.name = rw q refl in
    r ∙ ap₂ (λ x y. word x p.form ++ word y p.name) (sym a) g
