-- A source whose mended tree is itself is printed without an edit.
use Rattle.std.proofs.Common.{◌≡◌, ◌≤◌, ◌==◌, suc, Bool, List, [], ◌∷◌, ◌++◌, length, false, refl, sym, ◌∙◌, ap, ap₂, arith}
use Rattle.std.proofs.lemmas.Bool.{false≢true}
use Rattle.rr_syntax.specs.Words.{Word, Named, System, Digits, Reserved, Marked, mark_equals, mark_less_or_equal}
use Rattle.rr_syntax.specs.Items.{spell_source}
use Rattle.rr_lex.specs.Patch.{New, new_mark}
use Rattle.rr_lex.specs.Tokens.{Lexeme}
use Rattle.rr_edit.specs.Edits.{Edit}
use Rattle.rr_patch.specs.Edits.{byte_edits, run_edit}
use Rattle.rr_respell.specs.Pieces.{Piece, Kept, Replaced, Put, source_words, printed_words, run_of, edits}
use Rattle.rr_respell.proofs.PrintedTree.{same_first, same_rest}
use Rattle.rr_respell.proofs.SourceParts.{Free}
use Rattle.rr_lint_print.specs.Laws.{NothingPut}
use Rattle.rr_lint_print.specs.Pieces.{source_pieces}
use Rattle.rr_lint_print.proofs.Mends.{Swaps, source_mends}

-- no token of the source is left out
no_fewer : (xs : List Piece) → length (source_words xs) ≤ length (printed_words xs)
unfolding source_words printed_words
no_fewer [] = omega arith
no_fewer (Kept w ∷ xs) = let i = no_fewer xs in omega (arith, i)
no_fewer (Replaced w n ∷ xs) = let i = no_fewer xs in omega (arith, i)
no_fewer (Put n ∷ xs) = let i = no_fewer xs in omega (arith, i)

-- so where one is put, more are printed
no_put : {A : Type 0} (n : New) (xs : List Piece) → n.word ∷ printed_words xs ≡ source_words xs → A
no_put n xs e = let l : suc (length (printed_words xs)) ≡ length (source_words xs) = ap length e in absurd (omega (arith, l, no_fewer xs))

no_run : (xs : List Piece) → printed_words xs ≡ source_words xs → run_of xs ≡ []
unfolding source_words printed_words run_of
no_run [] e = refl
no_run (Kept w ∷ xs) e = refl
no_run (Replaced w n ∷ xs) e = refl
no_run (Put n ∷ xs) e = no_put n xs e

-- `=` is no `<=`
abbrev is_equals : Word → Bool
is_equals (Named x) = false
is_equals (System x) = false
is_equals (Digits n) = false
is_equals (Reserved k) = false
is_equals (Marked m) = m == mark_equals

no_swap : {A : Type 0} (w : Word) (n : New) → w ≡ Marked mark_less_or_equal → n ≡ new_mark mark_equals → n.word ≡ w → A
no_swap w n a b e = let q : Marked mark_equals ≡ Marked mark_less_or_equal = sym (ap (λ (m : New). m.word) b) ∙ e ∙ a in absurd (false≢true (ap is_equals (sym q)))

no_edits : (ts : List Lexeme) (xs : List Piece) → Swaps Free xs → printed_words xs ≡ source_words xs → byte_edits ts (edits xs) ≡ []
unfolding source_words printed_words Swaps edits byte_edits
no_edits [] xs h e = refl
no_edits (t ∷ ts) [] h e = refl
no_edits (t ∷ ts) (Kept w ∷ xs) h e =
    let rest : printed_words xs ≡ source_words xs = same_rest w w (printed_words xs) (source_words xs) e in
    ap₂ (λ (r : List New) (l : List Edit). run_edit r t ++ l) (no_run xs rest) (no_edits ts xs h rest)
no_edits (t ∷ ts) (Replaced w n ∷ xs) h e = no_swap w n h.0 h.1 (same_first n.word w (printed_words xs) (source_words xs) e)
no_edits (t ∷ ts) (Put n ∷ xs) h e = no_put n xs e

pub nothing_put : NothingPut
nothing_put ts numbers marks s e =
    let m = source_mends marks numbers s in
    no_edits ts (source_pieces numbers marks s) m.swaps (m.makes.printed ∙ ap spell_source e ∙ sym m.makes.source)
