-- What the design of a text gives a lister.
use Rattle.std.proofs.Common.{◌≡◌, ◌∙◌, ℕ, ◌<◌, ◌^◌, Bool, List, [], ◌∷◌, length, Option, Result, Ok, Err, inl, inr, sym, subst, ap, refl, arith}
use Rattle.std.specs.Prelude.{IfOk, MatchResult}
use Rattle.std.proofs.lemmas.List.{length-map}
use Rattle.std.proofs.lemmas.List.Elements.{All-from_recursion, recursion_from_All}
use Rattle.rr_syntax.specs.declared.token.Token.{Token}
use Rattle.rr_syntax.specs.Items.{spell_source, WellFormedSource, NumberedSource}
use Rattle.rr_syntax.specs.Tree.{SourceText}
use Rattle.rr_syntax.specs.Words.{Word}
use Rattle.rr_lex.specs.Tokens.{Lexeme, lexeme, lexemes, words_of}
use Rattle.rr_flat.specs.Clocks.{OneClock}
use Rattle.rr_flat.specs.Lawful.{Lawful}
use Rattle.rr_flat.specs.Plain.{Flat}
use Rattle.rr_flat.specs.Signals.{Text}
use Rattle.rr_flatten.specs.Walk.{flat_of}
use Rattle.rr_elaborate.specs.Designs.{IsDesignOf}
use Rattle.rr_clock.specs.Places.{Place, ArePlaces}
use Rattle.rr_choice.specs.Sites.{Site}
use Rattle.rr_lawful_instance.specs.Listed.{AreRight, KindIsRight}
use Rattle.rr_expr.specs.Scopes.{Names}
use Rattle.rr_sites_listed.specs.Listing.{AreFitScopes, sites_of}
use Rattle.rr_run.specs.declared.fault.RunFault.{RunFault}
use Rattle.rr_run.specs.declared.fault.RunFault.TheVariants as run_fault
use Rattle.rr_run.specs.Refusals.{Refusal, plain_refusal, StopsWhere}
use Rattle.rr_sites_fit.proofs.Whole.{sites_are_right}
use Rattle.rr_directive.specs.declared.origin.Origin.{Origin}
use Rattle.rr_directive.specs.Expand.{IsTaken}
use Rattle.rr_kept.specs.Kept.{AreKept}
use Rattle.rr_kept.proofs.Together.{kept_all}
use Rattle.rr_kept.specs.Read.{SourceFile}
use Rattle.rr_run.specs.Files.{RefusesFileDesign, placed_tokens}
use Rattle.rr_sites_command.specs.Lists.{AreSites, HasFileSites, HasManySites, IsFewText, IsSiteText, RefusesMany, RefusesSites}

-- what follows of an answer
pub if_ok : {A E : Type 0} (P Q : A → Type 0) (r : Result A E) → ((a : A) → P a → Q a) → IfOk r P → IfOk r Q
if_ok P Q (Ok a) f h = f a h
if_ok P Q (Err e) f h = tt

pub matched : {A E : Type 0} (P Q : A → Type 0) (F G : E → Type 0) (r : Result A E) → ((a : A) → P a → Q a) → ((e : E) → F e → G e) → MatchResult r P F → MatchResult r Q G
matched P Q F G (Ok a) f g h = f a h
matched P Q F G (Err e) f g h = g e h

pub stops_on : (P Q : Refusal → Type 0) (f : RunFault) → ((r : Refusal) → P r → Q r) → StopsWhere P f → StopsWhere Q f
stops_on P Q (run_fault.Refused r) k h = k (plain_refusal r) h
stops_on P Q run_fault.Memory k h = tt

-- scopes and owners as they are handed on
pub fit_on : (source : SourceText) (places : List Place) (scopes handed : List Names) (owners given : List ℕ) → handed ≡ scopes → given ≡ owners → AreFitScopes source scopes owners places → AreFitScopes source handed given places
fit_on source places scopes handed owners given e f h =
    subst (λ (s : List Names). AreFitScopes source s given places) (sym e) (subst (λ (o : List ℕ). AreFitScopes source scopes o places) (sym f) h)

pub list_on : (source : SourceText) (places : List Place) (scopes handed : List Names) (owners given : List ℕ) → handed ≡ scopes → given ≡ owners → (list : List Site) → list ≡ sites_of source handed given places → list ≡ sites_of source scopes owners places
list_on source places scopes handed owners given e f list h = h ∙ (ap (λ (s : List Names). sites_of source s given places) e ∙ ap (λ (o : List ℕ). sites_of source scopes o places) f)

-- the sites are right, for each word with which the design is lawful
pub right : (source : SourceText) (top : Option Text) (flat : Flat) → WellFormedSource source → NumberedSource source → flat_of source top ≡ Ok flat → (word : Option Text) (clock : Option ℕ) (rising : Bool) (places : List Place) →
    Lawful flat word → OneClock flat word clock rising → ArePlaces flat clock places → (ss : List Site) → ss ≡ sites_of source flat.scopes flat.owners places → AreRight source flat word ss
right source top flat w n d word clock rising places l o p ss e =
    subst (λ (xs : List Site). AreRight source flat word xs) (sym e)
    (sites_are_right source top flat word clock rising places (record { formed = w; numbered = n; design = d; targets = l.targets; one_clock = o; told = p }))

-- so are those of them that are kept
pub kept_right : (origins : List Origin) (ts : List Lexeme) (source : SourceText) (flat : Flat) (word : Option Text) (listed ss : List Site) → AreKept origins ts source listed ss →
    AreRight source flat word listed → AreRight source flat word ss
kept_right origins ts source flat word listed ss k r = record {
  formed = r.formed;
  numbered = r.numbered;
  each =
      recursion_from_All (λ (s : Site). KindIsRight source flat word s.token s.kind) ss
      (kept_all (λ (s : Site). KindIsRight source flat word s.token s.kind) origins ts source listed ss k (All-from_recursion (λ (s : Site). KindIsRight source flat word s.token s.kind) listed r.each));
}

module _ (bytes : List ℕ) (ts : List Lexeme) (source : SourceText) (top : Option Text) (flat : Flat) (d : IsDesignOf bytes ts source top flat) where
  pub formed : WellFormedSource source
  formed = d.text.spells.tree.spells.well

  pub numbered : NumberedSource source
  numbered = d.text.spells.numbered

  pub as_many : length (spell_source source) ≡ length ts
  as_many = ap (λ (ws : List Word). length ws) d.text.spells.tree.spells.spelled ∙ length-map ts (λ (t : Lexeme). t.word)

  -- .. and of the file that expands to the text
  pub has : (file : List ℕ) (origins : List Origin) (word : Option Text) (clock : Option ℕ) (rising : Bool) → IsTaken file bytes origins → Lawful flat word → OneClock flat word clock rising → (listed ss : List Site) →
      AreSites source flat clock listed → AreKept origins ts source listed ss → HasFileSites file top word (record { text = bytes; origins = origins; tokens = ts; source = source }) ss
  has file origins word clock rising t l o listed ss a k =
      record { expansion = t; flat = flat; clock = clock; rising = rising; design = d; lawful = l; one_clock = o; listed = listed; are = a; kept = k }

pub few_words : (tokens : List Token) (n : ℕ) → n ≡ length (lexemes tokens) → length tokens < 2 ^ 32 → n < 2 ^ 32
few_words tokens n e l = let m = length-map tokens lexeme in omega (arith, e, l, m)

-- the words of tokens that stand in the file
pub placed_words : (origins : List Origin) (size : ℕ) (ts : List Lexeme) → words_of (placed_tokens origins size ts) ≡ words_of ts
placed_words origins size [] = refl
placed_words origins size (t ∷ ts) = ap (λ (ws : List Word). t.word ∷ ws) (placed_words origins size ts)

-- the lines of a file's sites, or that they are too many
module _ (file : List ℕ) (top word : Option Text) (read : SourceFile) (ss : List Site) (h : HasFileSites file top word read ss) where
  pub told : {V : Type 0} (items : V → List ℕ) (r : Result V RunFault) (ts : List Lexeme) → ts ≡ placed_tokens read.origins (length file) read.tokens →
      MatchResult r (λ text. IsFewText ts ss (items text)) (StopsWhere (RefusesMany ss)) →
      MatchResult r (λ text. IsSiteText file top word (items text)) (StopsWhere (HasManySites file top word))
  told items r ts e k =
      matched (λ text. IsFewText ts ss (items text)) (λ text. IsSiteText file top word (items text)) (StopsWhere (RefusesMany ss)) (StopsWhere (HasManySites file top word)) r
      (λ text f. record { read = read; sites = ss; has = h; told = subst (λ (us : List Lexeme). IsFewText us ss (items text)) e f })
      (λ e f. stops_on (RefusesMany ss) (HasManySites file top word) e (λ a m. record { read = read; sites = ss; has = h; told = m }) f) k

pub refuses_design : (file : List ℕ) (top word : Option Text) (f : RunFault) → StopsWhere (RefusesFileDesign file top word) f → StopsWhere (RefusesSites file top word) f
refuses_design file top word f h = stops_on (RefusesFileDesign file top word) (RefusesSites file top word) f (λ a r. inl r) h

pub refuses_many : {V : Type 0} (file : List ℕ) (top word : Option Text) (P : V → Type 0) (r : Result V RunFault) → MatchResult r P (StopsWhere (HasManySites file top word)) → MatchResult r P (StopsWhere (RefusesSites file top word))
refuses_many file top word P r k = matched P P (StopsWhere (HasManySites file top word)) (StopsWhere (RefusesSites file top word)) r (λ text p. p) (λ e f. stops_on (HasManySites file top word) (RefusesSites file top word) e (λ a m. inr m) f) k
