-- The texts of the edits of a mended source can be put between tokens.
use Rattle.std.proofs.Common.{◌≡◌, ℕ, ◌+◌, true, List, [], ◌∷◌, ◌++◌, Some, refl, sym, ◌∙◌, ap, subst, arith, append_assoc}
use Rattle.std.specs.List.{All}
use Rattle.std.proofs.lemmas.List.Elements.{All-nil, All-cons, All-append, All-from_recursion}
use Rattle.rr_syntax.specs.Words.{mark_equals}
use Rattle.rr_directive.specs.Pieces.{TextUnit, units}
use Rattle.rr_edit.specs.Edits.{Edit, IsPut, is_single}
use Rattle.rr_lex.specs.Tokens.{Lexeme}
use Rattle.rr_lex.specs.Patch.{New, new_mark, run_end, run_text, token_text}
use Rattle.rr_patch.specs.Edits.{replaced_edit, run_edit, byte_edits}
use Rattle.rr_put_laws.proofs.Calm.{Calm, Singles, blank, end}
use Rattle.rr_put_laws.proofs.Texts.{mark_calm}
use Rattle.rr_respell.specs.Pieces.{Piece, Kept, Replaced, Put, run_of, edits}
use Rattle.rr_respell.proofs.Makes.{AllowedAll}
use Rattle.rr_respell.proofs.SourceParts.{Free}
use Rattle.rr_lint_print.specs.Laws.{NewsArePut}
use Rattle.rr_lint_print.specs.Pieces.{source_pieces}
use Rattle.rr_lint_print.proofs.Mends.{Swaps, source_mends}
use Rattle.rr_lint_print.proofs.Fits.{Fits}
use Rattle.rr_lint_print.proofs.MendedTree.{tree_fits}

-- what the text of a new token is, and that of an edit
abbrev IsCalm : New → Type 0
IsCalm n = Calm n.text

abbrev EditPut : Edit → Type 0
EditPut e = IsPut e.text

-- a run of new tokens, with its blanks
run_units : (ns : List New) → AllowedAll IsCalm ns → (at : ℕ) → Singles (units at 0 (run_end ns))
run_units [] h at = end at
run_units (n ∷ ns) h at = blank at (n.text ++ run_end ns) (by_rest ns (run_units ns h.1))
  where
    by_rest : (ms : List New) → ((place : ℕ) → Singles (units place 0 (run_end ms))) → Singles (units (at + 1) 0 (n.text ++ run_end ms))
    by_rest [] f = h.0.units (at + 1) [] f
    by_rest (m ∷ ms) f = h.0.units (at + 1) (m.text ++ run_end ms) f

run_front : List New → List ℕ
run_front [] = []
run_front (n ∷ ns) = 32 ∷ (n.text ++ run_front ns)

run_last : (ns : List New) → run_end ns ≡ run_front ns ++ (32 ∷ [])
unfolding run_front
run_last [] = refl
run_last (n ∷ ns) = ap (λ (l : List ℕ). 32 ∷ (n.text ++ l)) (run_last ns) ∙ ap (λ (l : List ℕ). 32 ∷ l) (sym (append_assoc n.text (run_front ns) (32 ∷ [])))

run_put : (n : New) (ns : List New) → AllowedAll IsCalm (n ∷ ns) → IsPut (run_text (n ∷ ns))
run_put n ns h = record {
  first = refl;
  front = run_front (n ∷ ns);
  last = run_last (n ∷ ns);
  units = All-from_recursion (λ (u : TextUnit). is_single u.piece.kind ≡ true) (units 0 0 (run_end (n ∷ ns))) (run_units (n ∷ ns) h 0);
}

run_edits : (ns : List New) (t : Lexeme) → AllowedAll IsCalm ns → All EditPut (run_edit ns t)
run_edits [] t h = All-nil EditPut
run_edits (n ∷ ns) t h = All-cons EditPut (record { from = t.end; to = t.end; text = run_text (n ∷ ns) }) [] (run_put n ns h) (All-nil EditPut)

run_calm : (xs : List Piece) → Fits xs → AllowedAll IsCalm (run_of xs)
unfolding Fits run_of
run_calm [] h = tt
run_calm (Kept w ∷ xs) h = tt
run_calm (Replaced w n ∷ xs) h = tt
run_calm (Put n ∷ xs) h = (h.1, run_calm xs h.3)

-- `=` in the place of a token is written as a run of one
over_edits : (n : New) (t : Lexeme) → n ≡ new_mark mark_equals → All EditPut (replaced_edit (Some n) t)
over_edits n t e =
    All-cons EditPut (record { from = t.start; to = t.end; text = token_text (Some n) [] }) [] (run_put n [] (subst IsCalm (sym e) (mark_calm mark_equals (omega arith)), tt)) (All-nil EditPut)

pieces_put : (ts : List Lexeme) (xs : List Piece) → Swaps Free xs → Fits xs → All EditPut (byte_edits ts (edits xs))
unfolding Swaps Fits edits byte_edits
pieces_put [] xs s h = All-nil EditPut
pieces_put (t ∷ ts) [] s h = All-nil EditPut
pieces_put (t ∷ ts) (Kept w ∷ xs) s h = All-append EditPut (run_edit (run_of xs) t) (byte_edits ts (edits xs)) (run_edits (run_of xs) t (run_calm xs h)) (pieces_put ts xs s h)
pieces_put (t ∷ ts) (Replaced w n ∷ xs) s h =
    All-append EditPut (replaced_edit (Some n) t) (run_edit (run_of xs) t ++ byte_edits ts (edits xs)) (over_edits n t s.1)
    (All-append EditPut (run_edit (run_of xs) t) (byte_edits ts (edits xs)) (run_edits (run_of xs) t (run_calm xs h)) (pieces_put ts xs s.2 h))
pieces_put (t ∷ ts) (Put n ∷ xs) s h = pieces_put (t ∷ ts) xs s.1 h.3

pub news_are_put : NewsArePut
news_are_put bytes s tree numbers marks = pieces_put tree.tokens (source_pieces numbers marks s) (source_mends marks numbers s).swaps (tree_fits bytes s tree numbers marks)
