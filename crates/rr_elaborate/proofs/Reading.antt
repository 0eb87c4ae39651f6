-- What the reader of source texts answers, in terms of the tokens with their places.
use Rattle.std.proofs.Common.{◌≡◌, ◌∙◌, refl, sym, ap, subst, ℕ, ◌<◌, ◌^◌, List, length, drop, arith, IsTrue}
use Rattle.std.proofs.lemmas.List.{length-map}
use Rattle.rr_syntax.specs.declared.token.Token.{Token}
use Rattle.rr_syntax.specs.declared.tree.Source.{Source}
use Rattle.rr_syntax.specs.View.{plain_module, plain_source}
use Rattle.rr_syntax.specs.Items.{FitLiteralsSource}
use Rattle.rr_syntax.specs.Words.{Word, words}
use Rattle.rr_lex.specs.Tokens.{lexeme, lexemes, words_of, AreTokens}
use Rattle.rr_lex.proofs.Sound.{words_sound}
use Rattle.rr_lex.proofs.Steps.{token_words}
use Rattle.rr_outside_words.specs.Profile.{is_outside, NoneOutside, IsFirstOutside}
use Rattle.rr_grammar.specs.Trees.{NoneSpells, IsNumberedTree}
use Rattle.rr_parse.specs.Exact.{IsParsed}
use Rattle.rr_elaborate.proofs.Fitting.{few_modules, fit_source}
use Rattle.rr_elaborate.specs.Designs.{AllHaveRules, IsText, IsUnparsed, IsUnsupported, start_of}

-- the same words
abbrev OutsideOf : List Word → ℕ → Type 0
OutsideOf ws at = IsTrue (is_outside (drop at ws))

rules_of : (tokens : List Token) → NoneOutside tokens → AllHaveRules (lexemes tokens)
rules_of tokens none at outside = none at (subst (λ (ws : List Word). OutsideOf ws at) (token_words tokens) outside)

pub text_of : (bytes : List ℕ) (tokens : List Token) (s : Source) → AreTokens bytes (lexemes tokens) → IsParsed tokens s → IsText bytes (lexemes tokens) (plain_source s)
text_of bytes tokens s lexed p = record {
  lexed = lexed;
  rules = rules_of tokens p.rules;
  spells = subst (λ (ws : List Word). IsNumberedTree ws (plain_source s)) (sym (token_words tokens)) p.spelled;
}

pub unsupported : (bytes : List ℕ) (tokens : List Token) (at : ℕ) → AreTokens bytes (lexemes tokens) → IsFirstOutside tokens at → IsUnsupported bytes (start_of (lexemes tokens) at)
unsupported bytes tokens at lexed p = record {
  tokens = lexemes tokens;
  lexed = lexed;
  at = at;
  within = omega (arith, p.within, length-map tokens lexeme);
  outside = subst (λ (ws : List Word). OutsideOf ws at) (sym (token_words tokens)) p.outside;
  first = λ i below outside. p.first i below (subst (λ (ws : List Word). OutsideOf ws i) (token_words tokens) outside);
  starts = refl;
}

pub unparsed : (bytes : List ℕ) (tokens : List Token) → AreTokens bytes (lexemes tokens) → NoneOutside tokens → NoneSpells (words tokens) → IsUnparsed bytes
unparsed bytes tokens lexed rules none = record {
  tokens = lexemes tokens;
  lexed = lexed;
  rules = rules_of tokens rules;
  none = subst NoneSpells (sym (token_words tokens)) none;
}

words_length : (tokens : List Token) → length (words tokens) ≡ length tokens
words_length tokens = ap length (sym (token_words tokens)) ∙ (length-map (lexemes tokens) (λ t. t.word) ∙ length-map tokens lexeme)

pub few_of : (tokens : List Token) (s : Source) → IsParsed tokens s → length tokens < 2 ^ 32 → length s.modules.now < 2 ^ 32
unfolding plain_source
few_of tokens s p few = omega (arith, few, few_modules (plain_source s) (words tokens) p.spelled.tree.spells.spelled, length-map s.modules.now plain_module, words_length tokens)

pub fit_of : (bytes : List ℕ) (tokens : List Token) (s : Source) → AreTokens bytes (lexemes tokens) → IsParsed tokens s → FitLiteralsSource (plain_source s)
fit_of bytes tokens s lexed p = fit_source (plain_source s) (words_of (lexemes tokens)) p.spelled.tree.spells.well (rw (sym (token_words tokens)) at p.spelled.tree.spells.spelled) (words_sound bytes (lexemes tokens) lexed)
