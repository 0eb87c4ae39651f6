-- The source's bytes in the mended text.
use Rattle.std.proofs.Common.{◌≡◌, ℕ, ◌+◌, ◌-◌, List, [], ◌∷◌, ◌++◌, take, drop, map, length, Option, Some, None, refl, sym, ◌∙◌, ap, ap₂, arith, append-nil}
use Rattle.std.specs.List.{All}
use Rattle.std.proofs.lemmas.List.{take-append-drop, drop-drop}
use Rattle.std.proofs.lemmas.List.Elements.{All-nil, All-cons}
use Rattle.rr_syntax.specs.Words.{Marked, mark_less_or_equal}
use Rattle.rr_lex.specs.Tokens.{Lexeme, words_of, Rise}
use Rattle.rr_lex.specs.Patch.{New, Edit, token_text, run_text, patched}
use Rattle.rr_lex.proofs.Steps.{lex_rise}
use Rattle.rr_respell.specs.Pieces.{Piece, Kept, Replaced, Put, source_words, edits}
use Rattle.rr_respell.specs.Stretches.{Stretch, Stays, Gone, Added, source_bytes, printed_bytes, gone, replaced_if, replaced, token_bytes}
use Rattle.rr_respell.proofs.PrintedTree.{same_first, same_rest}
use Rattle.rr_respell.proofs.SourceParts.{Free}
use Rattle.rr_lint_print.specs.Laws.{KeepsBytes}
use Rattle.rr_lint_print.specs.Pieces.{source_pieces, lint_edits}
use Rattle.rr_lint_print.proofs.Mends.{Swaps, source_mends}

-- the stretches of a token, and of a text from a place on
token_stretches : Option New → List ℕ → List Stretch → List Stretch
token_stretches None old rest = Stays old ∷ rest
token_stretches (Some n) old rest = Gone old ∷ (Added (32 ∷ (n.text ++ (32 ∷ []))) ∷ rest)

stretches : ℕ → List ℕ → List Lexeme → List Edit → List Stretch
stretches at bs [] es = Stays bs ∷ []
stretches at bs (t ∷ ts) [] = Stays bs ∷ []
stretches at bs (t ∷ ts) (e ∷ es) =
    Stays (take (t.start - at) bs) ∷ token_stretches e.text (take (t.end - t.start) (drop (t.start - at) bs)) (Added (run_text e.run) ∷ stretches t.end (drop (t.end - at) bs) ts es)

token_source : (n : Option New) (old : List ℕ) (rest : List Stretch) → source_bytes (token_stretches n old rest) ≡ old ++ source_bytes rest
unfolding source_bytes token_stretches
token_source None old rest = refl
token_source (Some n) old rest = refl

token_printed : (n : Option New) (old : List ℕ) (rest : List Stretch) → printed_bytes (token_stretches n old rest) ≡ token_text n old ++ printed_bytes rest
unfolding printed_bytes token_stretches
token_printed None old rest = refl
token_printed (Some n) old rest = refl

token_gone : (n : Option New) (bytes old : List ℕ) (rest : List Stretch) (t : Lexeme) (ts : List Lexeme) → old ≡ token_bytes bytes t → gone rest ≡ map (token_bytes bytes) ts →
    gone (token_stretches n old rest) ≡ map (token_bytes bytes) (replaced_if n t ts)
unfolding gone token_stretches
token_gone None bytes old rest t ts e h = h
token_gone (Some n) bytes old rest t ts e h = ap₂ (λ (x : List ℕ) (l : List (List ℕ)). x ∷ l) e h

whole : (at end : ℕ) (bs : List ℕ) (ts : List Lexeme) (es : List Edit) → Rise at end ts → source_bytes (stretches at bs ts es) ≡ bs
unfolding source_bytes stretches
whole at end bs [] es h = append-nil bs
whole at end bs (t ∷ ts) [] h = append-nil bs
whole at end bs (t ∷ ts) (e ∷ es) h =
    let a : ℕ = t.start - at in
    let b : ℕ = t.end - t.start in
    let sum : t.end - at ≡ a + b = omega (arith, h.0, h.1) in
    let rest : source_bytes (stretches t.end (drop (t.end - at) bs) ts es) ≡ drop b (drop a bs) =
    whole t.end end (drop (t.end - at) bs) ts es h.2 ∙ ap (λ n. drop n bs) sum ∙ sym (drop-drop b a bs) in
    ap (λ (l : List ℕ). take a bs ++ l)
    (token_source e.text (take b (drop a bs)) (Added (run_text e.run) ∷ stretches t.end (drop (t.end - at) bs) ts es)
    ∙ ap (λ (l : List ℕ). take b (drop a bs) ++ l) rest ∙ take-append-drop b (drop a bs))
    ∙ take-append-drop a bs

prints : (at : ℕ) (bs : List ℕ) (ts : List Lexeme) (es : List Edit) → printed_bytes (stretches at bs ts es) ≡ patched at bs ts es
unfolding printed_bytes stretches
prints at bs [] es = append-nil bs
prints at bs (t ∷ ts) [] = append-nil bs
prints at bs (t ∷ ts) (e ∷ es) =
    ap (λ (l : List ℕ). take (t.start - at) bs ++ l)
    (token_printed e.text (take (t.end - t.start) (drop (t.start - at) bs)) (Added (run_text e.run) ∷ stretches t.end (drop (t.end - at) bs) ts es)
    ∙ ap (λ (l : List ℕ). token_text e.text (take (t.end - t.start) (drop (t.start - at) bs)) ++ (run_text e.run ++ l)) (prints t.end (drop (t.end - at) bs) ts es))

goes : (bytes : List ℕ) (at end : ℕ) (bs : List ℕ) (ts : List Lexeme) (es : List Edit) → Rise at end ts → bs ≡ drop at bytes → gone (stretches at bs ts es) ≡ map (token_bytes bytes) (replaced ts es)
unfolding gone stretches replaced
goes bytes at end bs [] es h q = refl
goes bytes at end bs (t ∷ ts) [] h q = refl
goes bytes at end bs (t ∷ ts) (e ∷ es) h q =
    let start : at + (t.start - at) ≡ t.start = omega (arith, h.0) in
    let stop : at + (t.end - at) ≡ t.end = omega (arith, h.0, h.1) in
    let own : drop (t.start - at) bs ≡ drop t.start bytes = ap (drop (t.start - at)) q ∙ drop-drop (t.start - at) at bytes ∙ ap (λ n. drop n bytes) start in
    let next : drop (t.end - at) bs ≡ drop t.end bytes = ap (drop (t.end - at)) q ∙ drop-drop (t.end - at) at bytes ∙ ap (λ n. drop n bytes) stop in
    token_gone e.text bytes (take (t.end - t.start) (drop (t.start - at) bs)) (Added (run_text e.run) ∷ stretches t.end (drop (t.end - at) bs) ts es) t (replaced ts es)
    (ap (take (t.end - t.start)) own) (goes bytes t.end end (drop (t.end - at) bs) ts es h.2 next)

-- what is replaced
abbrev IsLessOrEqual : Lexeme → Type 0
IsLessOrEqual t = t.word ≡ Marked mark_less_or_equal

are_marks : (xs : List Piece) (ts : List Lexeme) → words_of ts ≡ source_words xs → Swaps Free xs → All IsLessOrEqual (replaced ts (edits xs))
unfolding source_words edits Swaps replaced
are_marks [] [] e h = All-nil IsLessOrEqual
are_marks [] (t ∷ ts) e h = All-nil IsLessOrEqual
are_marks (Kept w ∷ xs) [] e h = All-nil IsLessOrEqual
are_marks (Kept w ∷ xs) (t ∷ ts) e h = are_marks xs ts (same_rest t.word w (words_of ts) (source_words xs) e) h
are_marks (Replaced w n ∷ xs) [] e h = All-nil IsLessOrEqual
are_marks (Replaced w n ∷ xs) (t ∷ ts) e h =
    All-cons IsLessOrEqual t (replaced ts (edits xs)) (same_first t.word w (words_of ts) (source_words xs) e ∙ h.0) (are_marks xs ts (same_rest t.word w (words_of ts) (source_words xs) e) h.2)
are_marks (Put n ∷ xs) ts e h = are_marks xs ts e h.1

pub keeps_bytes : KeepsBytes
keeps_bytes bytes s tree numbers marks =
    let rise : Rise 0 (length bytes) tree.tokens = lex_rise bytes tree.tokens tree.are in
    let m = source_mends marks numbers s in
    record {
      stretches = stretches 0 bytes tree.tokens (lint_edits numbers marks s);
      source = whole 0 (length bytes) bytes tree.tokens (lint_edits numbers marks s) rise;
      printed = prints 0 bytes tree.tokens (lint_edits numbers marks s);
      gone_are = goes bytes 0 (length bytes) bytes tree.tokens (lint_edits numbers marks s) rise refl;
      marks = are_marks (source_pieces numbers marks s) tree.tokens (sym tree.spells.spelled ∙ sym m.makes.source) m.swaps;
    }
