-- Texts that are written piece by piece.
use Rattle.std.proofs.Common.{◌≡◌, ℕ, zero, suc, ◌+◌, ◌-◌, ◌<◌, ◌≤◌, ◌⊎◌, inl, inr, min, ◌/◌, ◌%◌, Bool, if◌then◌else◌, List, [], ◌∷◌, ◌++◌, length, drop, get_or, refl, sym, ◌∙◌, ap, ap₂, subst, arith}
use Rattle.std.specs.List.{All}
use Rattle.std.proofs.lemmas.List.{append_assoc, append-nil, drop_all, drop_more, get_or-map, length-map}
use Rattle.rr_syntax.specs.declared.site.Site.{Site as ArenaSite}
use Rattle.rr_lex.specs.Tokens.{Lexeme}
use Rattle.rr_choice.specs.declared.pick.Pick.{Pick}
use Rattle.rr_choice.specs.Sites.{Site, IsSite, IsSiteList}
use Rattle.rr_choice.specs.View.{plain_site, plain_sites}
use Rattle.rr_repair_report.specs.Texts.{site_line, site_lines}
use Rattle.rr_lex.specs.Numbers.{hex_byte, hex_text}

pub hex_none : (n v : ℕ) (xs : List ℕ) → n ≡ 0 → xs ≡ xs ++ hex_text n v
unfolding hex_text
hex_none n v xs e = sym (append-nil xs) ∙ ap (λ k. xs ++ hex_text k v) (sym e)

one_less : (n : ℕ) → suc n - 1 ≡ n
one_less n = omega arith

pub hex_more : (n v : ℕ) (before middle next xs : List ℕ) → (n ≡ 0 → ⊥) → middle ≡ before ++ hex_text (n - 1) (v / 16) → xs ≡ hex_byte (v % 16) ∷ [] → next ≡ middle ++ xs
    → next ≡ before ++ hex_text n v
unfolding hex_text
hex_more zero v before middle next xs e m d p = absurd (e refl)
hex_more (suc n) v before middle next xs e m d p =
    p ∙ ap₂ (λ (a b : List ℕ). a ++ b) (m ∙ ap (λ k. before ++ hex_text k (v / 16)) (one_less n)) d ∙ append_assoc before (hex_text n (v / 16)) (hex_byte (v % 16) ∷ [])

le_or : (a b : ℕ) → (a ≤ b) ⊎ (b ≤ a)
le_or zero b = inl (omega arith)
le_or (suc a) zero = inr (omega arith)
le_or (suc a) (suc b) = more (le_or a b)
  where
    more : (a ≤ b) ⊎ (b ≤ a) → (suc a ≤ suc b) ⊎ (suc b ≤ suc a)
    more (inl l) = inl (omega (arith, l))
    more (inr l) = inr (omega (arith, l))

-- the lines of the sites from a place on

lines_of : (ts : List Lexeme) (n : ℕ) (ss : List Site) (ps : List Pick) (s : Site) (p : Pick) (rest : List Site) (others : List Pick) → ss ≡ s ∷ rest → ps ≡ p ∷ others
    → site_lines ts n ss ps ≡ (if p.on then site_line ts n s p else []) ++ site_lines ts (n + 1) rest others
unfolding site_lines
lines_of ts n ss ps s p rest others e f = ap₂ (site_lines ts n) e f

pub record Written (ts : List Lexeme) (ss : List Site) (ps : List Pick) (before now : List ℕ) (i : ℕ) : Type 0 where
  pub within : i ≤ length ss
  pub text : now ++ site_lines ts i (drop i ss) (drop i ps) ≡ before ++ site_lines ts 0 ss ps

module _ (ts : List Lexeme) (ss : List Site) (ps : List Pick) (before : List ℕ) where
  pub Written-none : Written ts ss ps before before 0
  Written-none = record { within = omega arith; text = refl }

  pub Written-more : (now next : List ℕ) (i : ℕ) (s : Site) (p : Pick) → Written ts ss ps before now i → i < length ss → i < length ps → get_or ss i s ≡ s → get_or ps i p ≡ p
      → next ≡ now ++ (if p.on then site_line ts i s p else []) → Written ts ss ps before next (i + 1)
  Written-more now next i s p h l k es ep e = record {
    within = omega (arith, l);
    text =
        ap (λ (x : List ℕ). x ++ site_lines ts (i + 1) (drop (i + 1) ss) (drop (i + 1) ps)) e
        ∙ append_assoc now (if p.on then site_line ts i s p else []) (site_lines ts (i + 1) (drop (i + 1) ss) (drop (i + 1) ps))
        ∙ ap (λ (x : List ℕ). now ++ x) (sym (lines_of ts i (drop i ss) (drop i ps) s p (drop (i + 1) ss) (drop (i + 1) ps)
        (drop_more ss i s l ∙ ap (λ (x : Site). x ∷ drop (i + 1) ss) es)
        (drop_more ps i p k ∙ ap (λ (x : Pick). x ∷ drop (i + 1) ps) ep)))
        ∙ h.text;
  }

  no_site : (n : ℕ) (others : List Pick) → site_lines ts n [] others ≡ []
  unfolding site_lines
  no_site n others = refl

  no_pick : (n : ℕ) (rest : List Site) → site_lines ts n rest [] ≡ []
  unfolding site_lines
  no_pick n [] = refl
  no_pick n (s ∷ rest) = refl

  at_end : (i : ℕ) → i ≡ min (length ss) (length ps) → site_lines ts i (drop i ss) (drop i ps) ≡ []
  at_end i e = by_cases (le_or (length ss) (length ps))
    where
      by_cases : (length ss ≤ length ps) ⊎ (length ps ≤ length ss) → site_lines ts i (drop i ss) (drop i ps) ≡ []
      by_cases (inl l) = ap (λ (x : List Site). site_lines ts i x (drop i ps)) (drop_all i ss (omega (arith, e, l))) ∙ no_site i (drop i ps)
      by_cases (inr l) = ap (λ (x : List Pick). site_lines ts i (drop i ss) x) (drop_all i ps (omega (arith, e, l))) ∙ no_pick i (drop i ss)

  pub Written-all : (now : List ℕ) (i : ℕ) → Written ts ss ps before now i → i ≡ min (length ss) (length ps) → now ≡ before ++ site_lines ts 0 ss ps
  Written-all now i h e = sym (append-nil now) ∙ ap (λ (x : List ℕ). now ++ x) (sym (at_end i e)) ∙ h.text

pub got_again : {X : Type 0} (i : ℕ) (xs : List X) (d : X) → i < length xs → get_or xs i (get_or xs i d) ≡ get_or xs i d
got_again i [] d l = absurd (omega (arith, l))
got_again zero (x ∷ xs) d l = refl
got_again (suc i) (x ∷ xs) d l = got_again i xs d (omega (arith, l))

pub plain_here : (sites : List ArenaSite) (ss : List Site) (i : ℕ) (d : ArenaSite) → plain_sites sites ≡ ss → i < length sites → get_or ss i (plain_site (get_or sites i d)) ≡ plain_site (get_or sites i d)
plain_here sites ss i d e l =
    ap (λ (x : List Site). get_or x i (plain_site (get_or sites i d))) (sym e)
    ∙ get_or-map plain_site sites i (get_or sites i d) (plain_site (get_or sites i d)) l
    ∙ ap plain_site (got_again i sites d l)

pub plain_count : (sites : List ArenaSite) (ss : List Site) → plain_sites sites ≡ ss → length ss ≡ length sites
plain_count sites ss e = sym (ap (λ (x : List Site). length x) e) ∙ length-map sites plain_site

pub site_here : (sites : List ArenaSite) (ss : List Site) (i : ℕ) (d : ArenaSite) → plain_sites sites ≡ ss → IsSiteList ss → i < length sites → IsSite (plain_site (get_or sites i d))
site_here sites ss i d e h l =
    let m = length-map sites plain_site in
    let k = ap (λ (x : List Site). length x) e in
    subst IsSite (ap (λ (x : List Site). get_or x i (plain_site d)) (sym e) ∙ get_or-map plain_site sites i d (plain_site d) l) (h.each i (plain_site d) (omega (arith, m, k, l)))
