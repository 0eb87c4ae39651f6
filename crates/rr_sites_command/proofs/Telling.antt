-- Lines one after the other.
use Rattle.std.proofs.Common.{◌≡◌, ◌∙◌, ℕ, zero, suc, ◌+◌, ◌<◌, List, [], ◌∷◌, ◌++◌, length, take, get_or, refl, sym, ap, arith, add-one, append_assoc, append-nil}
use Rattle.rr_syntax.specs.declared.site.Site.{Site as ArenaSite}
use Rattle.rr_lex.specs.Tokens.{Lexeme}
use Rattle.rr_choice.specs.View.{plain_site, plain_sites}
use Rattle.rr_sites_command.specs.Lines.{site_line, site_lines}

after_one : (ts : List Lexeme) (n : ℕ) (ss : List ArenaSite) (k : ℕ) (d : ArenaSite) → k < length ss →
    site_lines ts n (plain_sites (take (suc k) ss)) ≡ site_lines ts n (plain_sites (take k ss)) ++ site_line ts (n + k) (plain_site (get_or ss k d))
unfolding site_lines
after_one ts n [] k d l = absurd (omega (arith, l))
after_one ts n (s ∷ ss) zero d l = let z : n ≡ n + 0 = omega arith in append-nil (site_line ts n (plain_site s)) ∙ ap (λ (m : ℕ). site_line ts m (plain_site s)) z
after_one ts n (s ∷ ss) (suc k) d l =
    let z : n + 1 + k ≡ n + suc k = omega arith in
    ap (λ (b : List ℕ). site_line ts n (plain_site s) ++ b) (after_one ts (n + 1) ss k d (omega (arith, l)) ∙ ap (λ (m : ℕ). site_lines ts (n + 1) (plain_sites (take k ss)) ++ site_line ts m (plain_site (get_or ss k d))) z)
    ∙ sym (append_assoc (site_line ts n (plain_site s)) (site_lines ts (n + 1) (plain_sites (take k ss))) (site_line ts (n + suc k) (plain_site (get_or ss k d))))

-- one line more
pub line_more : (ts : List Lexeme) (now next : List ℕ) (ss : List ArenaSite) (k : ℕ) (d : ArenaSite) → k < length ss → next ≡ now ++ site_line ts k (plain_site (get_or ss k d)) → now ≡ site_lines ts 0 (plain_sites (take k ss)) →
    next ≡ site_lines ts 0 (plain_sites (take (k + 1) ss))
line_more ts now next ss k d l e inv =
    let z : 0 + k ≡ k = omega arith in
    e ∙ (ap (λ (b : List ℕ). b ++ site_line ts k (plain_site (get_or ss k d))) inv
    ∙ (ap (λ (m : ℕ). site_lines ts 0 (plain_sites (take k ss)) ++ site_line ts m (plain_site (get_or ss k d))) (sym z) ∙ (sym (after_one ts 0 ss k d l) ∙ ap (λ (m : ℕ). site_lines ts 0 (plain_sites (take m ss))) (sym (add-one k)))))

pub no_lines : (ts : List Lexeme) → site_lines ts 0 [] ≡ []
unfolding site_lines
no_lines ts = refl
