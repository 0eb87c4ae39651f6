-- In a file without macros each site can be changed.
use Rattle.std.proofs.Common.{ℕ, ◌≡◌, ◌+◌, ◌-◌, ◌≤◌, ◌<◌, Bool, true, List, [], ◌∷◌, ◌++◌, length, Option, refl, sym, ◌∙◌, ap, subst, arith, length-append}
use Rattle.std.specs.List.{AllByRecursion, filter}
use Rattle.std.proofs.lemmas.List.{length-map}
use Rattle.rr_syntax.specs.declared.token.Number.{Number}
use Rattle.rr_syntax.specs.Expressions.{spell}
use Rattle.rr_syntax.specs.Items.{NumberedSource, spell_source}
use Rattle.rr_syntax.specs.Statements.{spell_statement}
use Rattle.rr_syntax.specs.Tree.{ModuleDeclaration, SourceText}
use Rattle.rr_syntax.specs.Words.{Word, Digits}
use Rattle.rr_directive.specs.declared.origin.Origin.{Origin}
use Rattle.rr_directive.specs.Expand.{IsExpansion}
use Rattle.rr_directive.proofs.Faults.{one_expansion}
use Rattle.rr_directive.proofs.Plain.{plain_stays}
use Rattle.rr_lex.specs.Tokens.{AreTokens, Lexeme, words_of}
use Rattle.rr_flat.specs.Plain.{Flat}
use Rattle.rr_flatten.proofs.Limits.{design_stays}
use Rattle.rr_choice.specs.Sites as sites
use Rattle.rr_choice.specs.Sites.{Site, SiteKind}
use Rattle.rr_lawful_instance.specs.Listed.{IsRight, KindIsRight}
use Rattle.rr_kept.specs.Kept.{body_length_in, is_kept, kind_lifts, place_lifts, round_lifts, token_at, token_lifts}
use Rattle.rr_sites_complete.specs.Kinds.{IsSiteOf, guard, literal, overwrite}
use Rattle.rr_sites_complete.specs.Spelled.{IsSpelled, StandAt}
use Rattle.rr_sites_complete.proofs.Lists.{all_in, every_in}
use Rattle.rr_sites_command.proofs.Given.{formed, numbered, right}
use Rattle.rr_sites_exact.proofs.Exactly.{file_lists_are_exact}
use Rattle.rr_plain_files.specs.Laws.{PlainKeepsAll}
use Rattle.rr_plain_files.proofs.Bodies.{source_fits}
use Rattle.rr_plain_files.proofs.Lifting.{plain_tokens_lift}

-- ---- words and tokens

word_at : (ts : List Lexeme) (before after : List Word) (w : Word) → words_of ts ≡ before ++ (w ∷ after) → (length before < length ts) × ((token_at ts (length before)).word ≡ w)
word_at [] [] after w e = absurd (cc)
word_at [] (x ∷ before) after w e = absurd (cc)
word_at (t ∷ ts) [] after w e = (omega arith, cc)
word_at (t ∷ ts) (x ∷ before) after w e =
    let q : words_of ts ≡ before ++ (w ∷ after) = cc in
    let r = word_at ts before after w q in
    let l = r.0 in (omega (arith, l), r.1)

words_end : (ts : List Lexeme) (at : ℕ) (part : List Word) → StandAt (words_of ts) at part → at + length part ≤ length ts
words_end ts at part h =
    let a = ap (λ (ws : List Word). length ws) h.are in
    let b = length-append h.before (part ++ h.after) in
    let c = length-append part h.after in
    let d = length-map ts (λ (t : Lexeme). t.word) in
    omega (arith, a, b, c, d, h.count)

filter_same : (p : Site → Bool) (xs : List Site) → AllByRecursion (λ s. p s ≡ true) xs → filter p xs ≡ xs
filter_same p [] h = refl
filter_same p (x ∷ xs) h = rw (h.0) (ap (λ (l : List Site). x ∷ l) (filter_same p xs h.1))

-- ---- one site

module _ (origins : List Origin) (ts : List Lexeme) (source : SourceText)
    (behind : (j : ℕ) → 1 ≤ j → j ≤ length ts → place_lifts origins ts j ≡ true)
    (numbers : (k : ℕ) (n : Number) → k < length ts → (token_at ts k).word ≡ Digits n → token_lifts origins ts k ≡ true) where
  round : (k count : ℕ) → 1 ≤ k → k + count ≤ length ts → round_lifts origins ts k count ≡ true
  round k count l m = rw (behind k l (omega (arith, m)), behind (k + count) (omega (arith, l)) m) refl

  number_kept : (token : ℕ) (n : Number) → StandAt (words_of ts) token (Digits n ∷ []) → token_lifts origins ts token ≡ true
  number_kept token n h =
      let r = word_at ts h.before h.after (Digits n) h.are in
      ap (token_lifts origins ts) (sym h.count) ∙ numbers (length h.before) n r.0 r.1

  module _ (numbered_source : NumberedSource source) (spelled : spell_source source ≡ words_of ts) (flat : Flat) (word : Option (List ℕ)) where
    within : (token : ℕ) → token ≤ length ts → token + body_length_in source token ≤ length ts
    within token l =
        let e : length (spell_source source) ≡ length ts = ap (λ (ws : List Word). length ws) spelled ∙ length-map ts (λ (t : Lexeme). t.word) in
        let f = source_fits token source numbered_source (omega (arith, l, e)) in
        omega (arith, e, f)

    some_before : (owner token : ℕ) (kind : SiteKind) → IsRight source flat word owner token kind → 1 ≤ token
    some_before owner token kind r = let l = r.stands.after in omega (arith, l)

    site_kept : {m : ModuleDeclaration} {owner : ℕ} {scope : _} {clocks : _} (s : Site) (h : IsSiteOf m owner scope clocks s) → IsSpelled (words_of ts) h → KindIsRight source flat word s.token s.kind →
        is_kept origins ts source s ≡ true
    site_kept s (literal h) w r = ap (kind_lifts origins ts source s.token) h.kind ∙ number_kept s.token h.number w
    site_kept {owner} s (guard h) w r =
        let q = subst (KindIsRight source flat word s.token) h.kind r in
        ap (kind_lifts origins ts source s.token) h.kind
        ∙ round s.token (length (spell h.test)) (some_before owner s.token (sites.Guard owner (length (spell h.test)) h.names) q) (words_end ts s.token (spell h.test) w)
    site_kept {owner} s (overwrite h) w r =
        let q = subst (KindIsRight source flat word s.token) h.kind r in
        let l = words_end ts s.token (spell_statement h.body) w in
        ap (kind_lifts origins ts source s.token) h.kind ∙ round s.token (body_length_in source s.token) (some_before owner s.token _ q.0) (within s.token (omega (arith, l)))

-- ---- all of them

pub plain_keeps_all : PlainKeepsAll
plain_keeps_all file top word read ss p h =
    let stays = plain_stays file p.units in
    let t : read.text ≡ file = (one_expansion file read.text file read.origins stays.0 h.expansion.expansion stays.1).0 in
    let e : IsExpansion file file read.origins = subst (λ (x : List ℕ). IsExpansion file x read.origins) t h.expansion.expansion in
    let r : AreTokens file read.tokens = subst (λ (x : List ℕ). AreTokens x read.tokens) t h.design.text.lexed in
    let lifts = plain_tokens_lift file read.tokens read.origins p r e in
    let behind : (j : ℕ) → 1 ≤ j → j ≤ length read.tokens → place_lifts read.origins read.tokens j ≡ true = λ j l m.
    (let q : j - 1 + 1 ≡ j = omega (arith, l) in ap (place_lifts read.origins read.tokens) (sym q) ∙ (lifts (j - 1) (omega (arith, l, m))).0) in
    let numbers : (k : ℕ) (n : Number) → k < length read.tokens → (token_at read.tokens k).word ≡ Digits n → token_lifts read.origins read.tokens k ≡ true = λ k n l w. (lifts k l).1 n w in
    let n = numbered read.text read.tokens read.source top h.flat h.design in
    let f = formed read.text read.tokens read.source top h.flat h.design in
    let spelled : spell_source read.source ≡ words_of read.tokens = h.design.text.spells.tree.spells.spelled in
    let exact = file_lists_are_exact file top word read ss h in
    let are = right read.source top h.flat f n (design_stays 1048576 read.source top h.flat h.design.flat) word h.clock h.rising h.are.0 h.lawful h.one_clock h.are.1 h.listed h.are.2 in
    let kept : AllByRecursion (λ s. is_kept read.origins read.tokens read.source s ≡ true) h.listed =
    every_in (λ (s : Site). is_kept read.origins read.tokens read.source s ≡ true) h.listed (λ s c.
    (let is = (exact.each s).0 c in
    site_kept read.origins read.tokens read.source behind numbers n spelled h.flat word s is.is (exact.spelled s is)
    (all_in (λ (x : Site). KindIsRight read.source h.flat word x.token x.kind) h.listed s are.each c))) in
    (t, h.kept ∙ filter_same (is_kept read.origins read.tokens read.source) h.listed kept)
