-- A text begins with `module` exactly where that word stands at its front.
use Rattle.std.proofs.Common.{◌≡◌, ℕ, List, [], ◌∷◌, refl, ap, arith, Bool, true, false, IsTrue, Option, Some, None}
use Rattle.std.specs.Prelude.{◌↔◌}
use Rattle.std.proofs.lemmas.Bool.Decides.{nat_tests}
use Rattle.rr_syntax.specs.declared.token.Token.{Token}
use Rattle.rr_syntax.specs.declared.token.Keyword.{Keyword}
use Rattle.rr_syntax.specs.Words.{Word, Named, System, Digits, Reserved, Marked, word, words, keyword_module}
use Rattle.rr_parse_expr.specs.Fronts.{as_keyword, front_keyword}
use Rattle.rr_syntax_place.specs.Beginning.{is_module, begins_module}

abbrev number : Option Keyword → ℕ
number None = 255
number (Some k) = k.0

abbrev the_word : Option Keyword
the_word = Some (record { 0 = keyword_module })

to_front : (w : Word) → is_module w ≡ true → as_keyword w ≡ the_word
to_front (Reserved k) h = let e : k ≡ keyword_module = grind (arith, nat_tests) in rw e refl
to_front (Named s) h = absurd cc
to_front (System s) h = absurd cc
to_front (Digits n) h = absurd cc
to_front (Marked m) h = absurd cc

from_front : (w : Word) → as_keyword w ≡ the_word → is_module w ≡ true
from_front (Reserved k) h = let e : k ≡ keyword_module = ap number h in rw e refl
from_front (Named s) h = absurd cc
from_front (System s) h = absurd cc
from_front (Digits n) h = absurd cc
from_front (Marked m) h = absurd cc

agree : (a b : Bool) → (a ≡ true → b ≡ true) → (b ≡ true → a ≡ true) → a ≡ b
agree true b f g = let e = f refl in cc
agree false true f g = g refl
agree false false f g = refl

pub begins_is : (T : List Token) (b : Bool) → (IsTrue b ↔ (front_keyword (words T) ≡ the_word)) → b ≡ begins_module T
unfolding words front_keyword
begins_is [] b h = agree b false (λ t. absurd (let e : None ≡ the_word = h.0 t in cc)) (λ t. absurd cc)
begins_is (t ∷ ts) b h = agree b (is_module (word t.kind)) (λ e. from_front (word t.kind) (h.0 e)) (λ e. h.1 (to_front (word t.kind) e))
