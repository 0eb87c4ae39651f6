-- The tree of the printed bytes.
use Rattle.std.proofs.Common.{◌≡◌, ◌⊎◌, inl, inr, ℕ, ◌%◌, ◌^◌, Bool, false, List, [], ◌∷◌, ◌++◌, refl, sym, ◌∙◌, ap, ap₂, subst, append-nil}
use Rattle.std.specs.List.{All, AllByRecursion}
use Rattle.std.proofs.lemmas.Bool.{false≢true}
use Rattle.std.proofs.lemmas.List.Elements.{All-head, All-tail, All-contains, recursion_from_All}
use Rattle.std.proofs.lemmas.Nat.{mod_below, pow_pos}
use Rattle.rr_syntax.specs.Words.{Word, Marked, mark_star, mark_close_parenthesis}
use Rattle.rr_syntax.specs.Tree.{ModuleDeclaration, SourceText}
use Rattle.rr_syntax.specs.Items.{spell_source}
use Rattle.rr_lex.specs.Tokens.{Lexeme, words_of, AreTokens, IsSound}
use Rattle.rr_lex.specs.Patch.{New, IsNew, IsNewUnquoted, IsNewBefore, AllNew, IsNext, AreEdits, AreWords, IsNameText, new_words, patched_words}
use Rattle.rr_lex.proofs.Fresh.{keyword_new, mark_new, name_new, literal_new}
use Rattle.rr_lex.proofs.Patches.{patch_words}
use Rattle.rr_lex.proofs.Sound.{words_sound}
use Rattle.rr_choice.specs.declared.pick.Pick.{Pick}
use Rattle.rr_choice.specs.Sites as sites
use Rattle.rr_choice.specs.Sites.{SiteKind, Site, HasFitWidth, FitWidths}
use Rattle.rr_instance.specs.Instances.{instance_source}
use Rattle.rr_instance_laws.proofs.RuleLaws.{all_rules_stay}
use Rattle.rr_respell.specs.Pieces.{Piece, Kept, Replaced, Put, source_words, printed_words, run_of, edits}
use Rattle.rr_respell.specs.Printing.{module_pieces, all_pieces, source_pieces, edits_of, printed}
use Rattle.rr_respell.specs.Laws.{IsNamed, AreNamed, PrintsInstance}
use Rattle.rr_respell.proofs.Makes.{Allowed, AllowsNames, AllowsKind, AllowsSites, Allows, Makes}
use Rattle.rr_respell.proofs.SourceParts.{source_makes}
use Rattle.rr_respell.proofs.Calm.{is_star, is_close, literal_open, Opens, Calm, Quiet}
use Rattle.rr_respell.proofs.SourceCalm.{source_quiet}

pub no_words : {A : Type 0} (w : Word) (ws : List Word) → [] ≡ w ∷ ws → A
no_words w ws e = absurd (cc e)

pub same_first : (v w : Word) (vs ws : List Word) → v ∷ vs ≡ w ∷ ws → v ≡ w
same_first v w vs ws e = cc e

pub same_rest : (v w : Word) (vs ws : List Word) → v ∷ vs ≡ w ∷ ws → vs ≡ ws
same_rest v w vs ws e = cc e

-- the patched words are the printed ones
runs_print : (xs : List Piece) (ts : List Lexeme) → words_of ts ≡ source_words xs → printed_words xs ≡ new_words (run_of xs) ++ patched_words ts (edits xs)
unfolding source_words printed_words run_of edits
runs_print [] [] e = refl
runs_print [] (t ∷ ts) e = no_words t.word (words_of ts) (sym e)
runs_print (Kept w ∷ xs) [] e = no_words w (source_words xs) e
runs_print (Kept w ∷ xs) (t ∷ ts) e =
    ap₂ (λ (v : Word) (l : List Word). v ∷ l) (sym (same_first t.word w (words_of ts) (source_words xs) e)) (runs_print xs ts (same_rest t.word w (words_of ts) (source_words xs) e))
runs_print (Replaced w n ∷ xs) [] e = no_words w (source_words xs) e
runs_print (Replaced w n ∷ xs) (t ∷ ts) e = ap (λ (l : List Word). n.word ∷ l) (runs_print xs ts (same_rest t.word w (words_of ts) (source_words xs) e))
runs_print (Put n ∷ xs) ts e = ap (λ (l : List Word). n.word ∷ l) (runs_print xs ts e)

-- no new token is a plain decimal, so it may stand before any other
before_any : (n : New) (ns : List New) → IsNew n → IsNewBefore ns n
before_any n [] h = h
before_any n (m ∷ ns) h = record { alone = λ after _. h.alone after; unquoted = h.unquoted }

run_new : (xs : List Piece) → Allowed IsNew xs → AllNew (run_of xs)
unfolding Allowed run_of
run_new [] h = tt
run_new (Kept w ∷ xs) h = tt
run_new (Replaced w n ∷ xs) h = tt
run_new (Put n ∷ xs) h = (before_any n (run_of xs) h.0, run_new xs h.1)

not_next : (ts : List Lexeme) (ws : List Word) → words_of ts ≡ ws → Opens ws → IsNext (Marked mark_close_parenthesis) ts → ⊥
not_next [] ws e o next = next
not_next (t ∷ ts) ws e o next = let p : is_close t.word ≡ false = subst Opens (sym e) o in false≢true (sym p ∙ ap is_close next)

-- where new tokens are put, a `*` before them has no `)` after it
room : (xs : List Piece) (ts : List Lexeme) (v w : Word) → v ≡ w → words_of ts ≡ source_words xs → Calm (is_star w) xs →
    (run_of xs ≡ []) ⊎ (v ≡ Marked mark_star → IsNext (Marked mark_close_parenthesis) ts → ⊥)
unfolding Calm run_of source_words
room [] ts v w q e h = inl refl
room (Kept x ∷ xs) ts v w q e h = inl refl
room (Replaced x n ∷ xs) ts v w q e h = inl refl
room (Put n ∷ xs) ts v w q e h = inr (λ s. not_next ts (source_words xs) e (h.0 (ap is_star (sym q ∙ s))))

not_closed : (v w : Word) → v ≡ w → is_close w ≡ false → v ≡ Marked mark_close_parenthesis → ⊥
not_closed v w q c e = false≢true (sym c ∙ ap is_close (sym q ∙ e))

sound_first : (v w : Word) → v ≡ w → IsSound v → IsSound w
sound_first v w e = subst IsSound e

are_edits : (xs : List Piece) (ts : List Lexeme) (star : Bool) → words_of ts ≡ source_words xs → AllByRecursion IsSound (words_of ts) → Allowed IsNew xs → Calm star xs → AreEdits ts (edits xs)
unfolding source_words edits Allowed Calm
are_edits [] [] star e s a h = tt
are_edits [] (t ∷ ts) star e s a h = tt
are_edits (Kept w ∷ xs) [] star e s a h = tt
are_edits (Kept w ∷ xs) (t ∷ ts) star e s a h =
    let first = same_first t.word w (words_of ts) (source_words xs) e in
    let next = same_rest t.word w (words_of ts) (source_words xs) e in
    (tt, run_new xs a, room xs ts t.word w first next h, are_edits xs ts (is_star w) next s.1 a h)
are_edits (Replaced w n ∷ xs) [] star e s a h = tt
are_edits (Replaced w n ∷ xs) (t ∷ ts) star e s a h =
    let first = same_first t.word w (words_of ts) (source_words xs) e in
    let next = same_rest t.word w (words_of ts) (source_words xs) e in
    ((a.0 (sound_first t.word w first s.0), not_closed t.word w first (literal_open w h.0)), run_new xs a.1, room xs ts t.word w first next h.1, are_edits xs ts (is_star w) next s.1 a.1 h.1)
are_edits (Put n ∷ xs) ts star e s a h = are_edits xs ts star e s a.1 h.1

-- the first piece is a token of the source
pub no_run : (ss : List Site) (ps : List Pick) (s : SourceText) → run_of (source_pieces ss ps s) ≡ []
unfolding source_pieces all_pieces module_pieces run_of
no_run ss ps s = by_modules s.modules
  where
    by_modules : (ms : List ModuleDeclaration) → run_of (all_pieces (module_pieces ss ps) ms) ≡ []
    by_modules [] = refl
    by_modules (m ∷ ms) = refl

names_new : (names : List (List ℕ)) → All IsNameText names → AllowsNames IsNew names
names_new names h name c = name_new name (All-contains IsNameText names name h c)

kind_new : (k : SiteKind) → HasFitWidth k → IsNamed k → AllowsKind IsNew k
kind_new (sites.Literal width signed) w h = tt
kind_new (sites.Guard owner extent names) w h = names_new names h
kind_new (sites.Overwrite owner target width now names) w h = (
  names_new names h.0,
  name_new target h.1,
  λ v. literal_new width false (v % 2 ^ width) w.0 w.1 (mod_below v (2 ^ width) (pow_pos width)),
)

sites_new : (ss : List Site) → FitWidths ss → AreNamed ss → AllowsSites IsNew ss
unfolding AllowsSites
sites_new [] w h = tt
sites_new (s ∷ ss) w h = (
  kind_new s.kind (All-head (λ (x : Site). HasFitWidth x.kind) s ss w) (All-head (λ (x : Site). IsNamed x.kind) s ss h),
  sites_new ss (All-tail (λ (x : Site). HasFitWidth x.kind) s ss w) (All-tail (λ (x : Site). IsNamed x.kind) s ss h),
)

new_allowed : (ss : List Site) → FitWidths ss → AreNamed ss → Allows IsNew ss
new_allowed ss w h = record { marks = mark_new; keywords = keyword_new; literals = literal_new; sites = sites_new ss w h }

pub edits_are : (bytes : List ℕ) (ts : List Lexeme) (s : SourceText) (ss : List Site) (ps : List Pick) → AreTokens bytes ts → words_of ts ≡ source_words (source_pieces ss ps s) →
    Allowed IsNew (source_pieces ss ps s) → Calm false (source_pieces ss ps s) → AreEdits ts (edits_of ss ps s)
edits_are bytes ts s ss ps are e a c = are_edits (source_pieces ss ps s) ts false e (recursion_from_All IsSound (words_of ts) (words_sound bytes ts are)) a c

pub calm_whole : (xs : List Piece) → Quiet xs → Calm false xs
unfolding Calm
calm_whole xs q = subst (Calm false) (append-nil xs) (q.before [] tt)

pub prints_instance : PrintsInstance
prints_instance bytes s tree ss ps w n =
    let m : Makes IsNew (source_pieces ss ps s) (spell_source s) (spell_source (instance_source ss ps s)) = source_makes IsNew ss (new_allowed ss w n) ps s in
    let e : words_of tree.tokens ≡ source_words (source_pieces ss ps s) = sym tree.spells.spelled ∙ sym m.source in
    let c : Calm false (source_pieces ss ps s) = calm_whole (source_pieces ss ps s) (source_quiet ss ps s tree.spells.well) in
    let k : AreWords (printed bytes tree.tokens ss ps s) (patched_words tree.tokens (edits_of ss ps s)) =
    patch_words bytes tree.tokens (edits_of ss ps s) tree.are (edits_are bytes tree.tokens s ss ps tree.are e m.allowed c) in
    let p : printed_words (source_pieces ss ps s) ≡ patched_words tree.tokens (edits_of ss ps s) =
    runs_print (source_pieces ss ps s) tree.tokens e ∙ ap (λ (r : List New). new_words r ++ patched_words tree.tokens (edits_of ss ps s)) (no_run ss ps s) in
    record { tokens = k.0; are = k.1; spells = record { well = all_rules_stay.source ss ps s tree.spells.well; spelled = sym m.printed ∙ p ∙ sym k.2 } }
