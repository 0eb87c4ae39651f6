-- The tree of the mended text.
use Rattle.std.proofs.Common.{◌≡◌, ◌⊎◌, inl, inr, ℕ, ◌+◌, Bool, true, false, if◌then◌else◌, nat_eq, List, [], ◌∷◌, ◌++◌, refl, sym, ◌∙◌, ap, ap₂, subst, arith}
use Rattle.std.specs.List.{list_any}
use Rattle.std.proofs.lemmas.Bool.{false≢true}
use Rattle.std.proofs.lemmas.List.Elements.{recursion_from_All}
use Rattle.rr_syntax.specs.Words.{Word, Marked, mark_star, mark_close_parenthesis, mark_equals, mark_less_or_equal}
use Rattle.rr_syntax.specs.Tree.{ModuleDeclaration, SourceText}
use Rattle.rr_syntax.specs.Items.{spell_module, spell_source}
use Rattle.rr_grammar.specs.Trees.{IsTree}
use Rattle.rr_lex.specs.Tokens.{Lexeme, words_of, AreTokens, IsSound}
use Rattle.rr_lex.specs.Patch.{New, IsNew, AllNew, IsNext, AreEdits, AreWords, new_mark, new_words, patched_words}
use Rattle.rr_lex.proofs.Fresh.{mark_new}
use Rattle.rr_lex.proofs.Patches.{patch_words}
use Rattle.rr_lex.proofs.Sound.{words_sound}
use Rattle.rr_respell.specs.Pieces.{Piece, Kept, Replaced, Put, kept, source_words, printed_words, run_of, edits}
use Rattle.rr_respell.proofs.Calm.{is_close, Opens}
use Rattle.rr_respell.proofs.PrintedTree.{no_words, same_first, same_rest}
use Rattle.rr_respell.proofs.SourceParts.{Free}
use Rattle.rr_lint_laws.specs.Laws.{LintStaysFormed}
use Rattle.rr_lint_laws.specs.Mended.{Marks}
use Rattle.rr_lint_print.specs.Laws.{PrintsMended}
use Rattle.rr_lint_print.specs.Pieces.{lint_edits, linted, module_pieces, modules_pieces, source_pieces}
use Rattle.rr_lint_print.proofs.Mends.{Swaps, source_mends}
use Rattle.rr_lint_print.proofs.Names.{Each}
use Rattle.rr_lint_print.proofs.Fits.{Fits, source_fits}

-- the patched words are the printed ones
runs_print : (xs : List Piece) (ts : List Lexeme) → words_of ts ≡ source_words xs → printed_words xs ≡ new_words (run_of xs) ++ patched_words ts (edits xs)
unfolding source_words printed_words run_of edits
runs_print [] [] e = refl
runs_print [] (t ∷ ts) e = no_words t.word (words_of ts) (sym e)
runs_print (Kept w ∷ xs) [] e = no_words w (source_words xs) e
runs_print (Kept w ∷ xs) (t ∷ ts) e =
    ap₂ (λ (v : Word) (l : List Word). v ∷ l) (sym (same_first t.word w (words_of ts) (source_words xs) e)) (runs_print xs ts (same_rest t.word w (words_of ts) (source_words xs) e))
runs_print (Replaced w n ∷ xs) [] e = no_words w (source_words xs) e
runs_print (Replaced w n ∷ xs) (t ∷ ts) e = ap (λ (l : List Word). n.word ∷ l) (runs_print xs ts (same_rest t.word w (words_of ts) (source_words xs) e))
runs_print (Put n ∷ xs) ts e = ap (λ (l : List Word). n.word ∷ l) (runs_print xs ts e)

run_new : (xs : List Piece) → Fits xs → AllNew (run_of xs)
unfolding Fits run_of
run_new [] h = tt
run_new (Kept w ∷ xs) h = tt
run_new (Replaced w n ∷ xs) h = tt
run_new (Put n ∷ xs) h = (h.0, run_new xs h.3)

not_next : (ts : List Lexeme) (ws : List Word) → words_of ts ≡ ws → Opens ws → IsNext (Marked mark_close_parenthesis) ts → ⊥
not_next [] ws e o next = next
not_next (t ∷ ts) ws e o next = let p : is_close t.word ≡ false = subst Opens (sym e) o in false≢true (sym p ∙ ap is_close next)

-- where new tokens are put, no `)` is next
room : (xs : List Piece) (ts : List Lexeme) (v : Word) → words_of ts ≡ source_words xs → Fits xs → (run_of xs ≡ []) ⊎ (v ≡ Marked mark_star → IsNext (Marked mark_close_parenthesis) ts → ⊥)
unfolding Fits run_of source_words
room [] ts v e h = inl refl
room (Kept x ∷ xs) ts v e h = inl refl
room (Replaced x n ∷ xs) ts v e h = inl refl
room (Put n ∷ xs) ts v e h = inr (λ s. not_next ts (source_words xs) e h.2)

equals_new : (n : New) → n ≡ new_mark mark_equals → IsNew n
equals_new n e = subst IsNew (sym e) (mark_new mark_equals (omega arith))

not_closed : (v w : Word) → v ≡ w → w ≡ Marked mark_less_or_equal → v ≡ Marked mark_close_parenthesis → ⊥
not_closed v w e s c = let q : Marked mark_less_or_equal ≡ Marked mark_close_parenthesis = sym s ∙ sym e ∙ c in false≢true (ap is_close q)

are_edits : (xs : List Piece) (ts : List Lexeme) → words_of ts ≡ source_words xs → Swaps Free xs → Fits xs → AreEdits ts (edits xs)
unfolding source_words edits Swaps Fits
are_edits [] [] e s h = tt
are_edits [] (t ∷ ts) e s h = tt
are_edits (Kept w ∷ xs) [] e s h = tt
are_edits (Kept w ∷ xs) (t ∷ ts) e s h =
    let next = same_rest t.word w (words_of ts) (source_words xs) e in
    (tt, run_new xs h, room xs ts t.word next h, are_edits xs ts next s h)
are_edits (Replaced w n ∷ xs) [] e s h = tt
are_edits (Replaced w n ∷ xs) (t ∷ ts) e s h =
    let first = same_first t.word w (words_of ts) (source_words xs) e in
    let next = same_rest t.word w (words_of ts) (source_words xs) e in
    ((equals_new n s.1, not_closed t.word w first s.0), run_new xs h, room xs ts t.word next h, are_edits xs ts next s.2 h)
are_edits (Put n ∷ xs) ts e s h = are_edits xs ts e s.1 h.3

-- the first piece is a token of the source
no_run : (numbers : List ℕ) (marks : Marks) (s : SourceText) → run_of (source_pieces numbers marks s) ≡ []
unfolding source_pieces modules_pieces module_pieces spell_module run_of
no_run numbers marks s = by_modules s.modules
  where
    by_number : (b : Bool) (m : ModuleDeclaration) (rest : List Piece) → run_of ((if b then module_pieces marks m else kept (spell_module m)) ++ rest) ≡ []
    by_number true m rest = refl
    by_number false m rest = refl

    by_modules : (ms : List ModuleDeclaration) → run_of (modules_pieces numbers marks 0 ms) ≡ []
    by_modules [] = refl
    by_modules (m ∷ ms) = by_number (list_any (nat_eq 0) numbers) m (modules_pieces numbers marks (0 + 1) ms)

-- what the tokens of a text are
sound_words : (bytes : List ℕ) (ts : List Lexeme) (ws : List Word) → AreTokens bytes ts → ws ≡ words_of ts → Each ws
sound_words bytes ts ws are e = subst Each (sym e) (recursion_from_All IsSound (words_of ts) (words_sound bytes ts are))

pub tree_fits : (bytes : List ℕ) (s : SourceText) (tree : IsTree bytes s) (numbers : List ℕ) (marks : Marks) → Fits (source_pieces numbers marks s)
tree_fits bytes s tree numbers marks = source_fits marks numbers s (sound_words bytes tree.tokens (spell_source s) tree.are tree.spells.spelled) tree.spells.well

pub prints_by : LintStaysFormed → PrintsMended
prints_by formed bytes s tree numbers marks =
    let m = source_mends marks numbers s in
    let xs : List Piece = source_pieces numbers marks s in
    let e : words_of tree.tokens ≡ source_words xs = sym tree.spells.spelled ∙ sym m.makes.source in
    let k : AreWords (linted bytes tree.tokens numbers marks s) (patched_words tree.tokens (lint_edits numbers marks s)) =
    patch_words bytes tree.tokens (lint_edits numbers marks s) tree.are (are_edits xs tree.tokens e m.swaps (tree_fits bytes s tree numbers marks)) in
    let p : printed_words xs ≡ patched_words tree.tokens (lint_edits numbers marks s) =
    runs_print xs tree.tokens e ∙ ap (λ (r : List New). new_words r ++ patched_words tree.tokens (lint_edits numbers marks s)) (no_run numbers marks s) in
    record { tokens = k.0; are = k.1; spells = record { well = formed s numbers marks tree.spells.well; spelled = sym m.makes.printed ∙ p ∙ sym k.2 } }
