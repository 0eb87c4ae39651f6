-- The source's bytes in what is printed.
use Rattle.std.proofs.Common.{◌≡◌, ℕ, ◌+◌, ◌-◌, Bool, true, false, List, [], ◌∷◌, ◌++◌, take, drop, map, length, Option, Some, None, refl, sym, ◌∙◌, ap, ap₂, arith, append-nil}
use Rattle.std.specs.List.{All}
use Rattle.std.proofs.lemmas.List.{take-append-drop, drop-drop}
use Rattle.std.proofs.lemmas.List.Elements.{All-nil, All-cons}
use Rattle.rr_syntax.specs.Words.{Word, Named, System, Digits, Reserved, Marked}
use Rattle.rr_lex.specs.Tokens.{Lexeme, words_of, Rise}
use Rattle.rr_lex.specs.Patch.{New, Edit, token_text, run_text, patched}
use Rattle.rr_lex.proofs.Steps.{lex_rise}
use Rattle.rr_respell.specs.Pieces.{Piece, Kept, Replaced, Put, source_words, edits}
use Rattle.rr_respell.specs.Printing.{source_pieces, edits_of}
use Rattle.rr_respell.specs.Stretches.{Stretch, Stays, Gone, Added, source_bytes, printed_bytes, gone, replaced_if, replaced, token_bytes, IsLiteral}
use Rattle.rr_respell.specs.Laws.{KeepsBytes}
use Rattle.rr_respell.proofs.Calm.{is_star, is_literal, Calm}
use Rattle.rr_respell.proofs.SourceParts.{spells}
use Rattle.rr_respell.proofs.SourceCalm.{source_quiet}
use Rattle.rr_respell.proofs.PrintedTree.{same_first, same_rest, calm_whole}

token_stretches : Option New → List ℕ → List Stretch → List Stretch
token_stretches None old rest = Stays old ∷ rest
token_stretches (Some n) old rest = Gone old ∷ (Added (32 ∷ (n.text ++ (32 ∷ []))) ∷ rest)

stretches : ℕ → List ℕ → List Lexeme → List Edit → List Stretch
stretches at bs [] es = Stays bs ∷ []
stretches at bs (t ∷ ts) [] = Stays bs ∷ []
stretches at bs (t ∷ ts) (e ∷ es) =
    Stays (take (t.start - at) bs) ∷ token_stretches e.text (take (t.end - t.start) (drop (t.start - at) bs)) (Added (run_text e.run) ∷ stretches t.end (drop (t.end - at) bs) ts es)

token_source : (n : Option New) (old : List ℕ) (rest : List Stretch) → source_bytes (token_stretches n old rest) ≡ old ++ source_bytes rest
unfolding source_bytes token_stretches
token_source None old rest = refl
token_source (Some n) old rest = refl

token_printed : (n : Option New) (old : List ℕ) (rest : List Stretch) → printed_bytes (token_stretches n old rest) ≡ token_text n old ++ printed_bytes rest
unfolding printed_bytes token_stretches
token_printed None old rest = refl
token_printed (Some n) old rest = refl

token_gone : (n : Option New) (bytes old : List ℕ) (rest : List Stretch) (t : Lexeme) (ts : List Lexeme) → old ≡ token_bytes bytes t → gone rest ≡ map (token_bytes bytes) ts →
    gone (token_stretches n old rest) ≡ map (token_bytes bytes) (replaced_if n t ts)
unfolding gone token_stretches
token_gone None bytes old rest t ts e h = h
token_gone (Some n) bytes old rest t ts e h = ap₂ (λ (x : List ℕ) (l : List (List ℕ)). x ∷ l) e h

whole : (at end : ℕ) (bs : List ℕ) (ts : List Lexeme) (es : List Edit) → Rise at end ts → source_bytes (stretches at bs ts es) ≡ bs
unfolding source_bytes stretches
whole at end bs [] es h = append-nil bs
whole at end bs (t ∷ ts) [] h = append-nil bs
whole at end bs (t ∷ ts) (e ∷ es) h =
    let a : ℕ = t.start - at in
    let b : ℕ = t.end - t.start in
    let sum : t.end - at ≡ a + b = omega (arith, h.0, h.1) in
    let rest : source_bytes (stretches t.end (drop (t.end - at) bs) ts es) ≡ drop b (drop a bs) =
    whole t.end end (drop (t.end - at) bs) ts es h.2 ∙ ap (λ n. drop n bs) sum ∙ sym (drop-drop b a bs) in
    ap (λ (l : List ℕ). take a bs ++ l)
    (token_source e.text (take b (drop a bs)) (Added (run_text e.run) ∷ stretches t.end (drop (t.end - at) bs) ts es)
    ∙ ap (λ (l : List ℕ). take b (drop a bs) ++ l) rest ∙ take-append-drop b (drop a bs))
    ∙ take-append-drop a bs

prints : (at : ℕ) (bs : List ℕ) (ts : List Lexeme) (es : List Edit) → printed_bytes (stretches at bs ts es) ≡ patched at bs ts es
unfolding printed_bytes stretches
prints at bs [] es = append-nil bs
prints at bs (t ∷ ts) [] = append-nil bs
prints at bs (t ∷ ts) (e ∷ es) =
    ap (λ (l : List ℕ). take (t.start - at) bs ++ l)
    (token_printed e.text (take (t.end - t.start) (drop (t.start - at) bs)) (Added (run_text e.run) ∷ stretches t.end (drop (t.end - at) bs) ts es)
    ∙ ap (λ (l : List ℕ). token_text e.text (take (t.end - t.start) (drop (t.start - at) bs)) ++ (run_text e.run ++ l)) (prints t.end (drop (t.end - at) bs) ts es))

goes : (bytes : List ℕ) (at end : ℕ) (bs : List ℕ) (ts : List Lexeme) (es : List Edit) → Rise at end ts → bs ≡ drop at bytes → gone (stretches at bs ts es) ≡ map (token_bytes bytes) (replaced ts es)
unfolding gone stretches replaced
goes bytes at end bs [] es h q = refl
goes bytes at end bs (t ∷ ts) [] h q = refl
goes bytes at end bs (t ∷ ts) (e ∷ es) h q =
    let start : at + (t.start - at) ≡ t.start = omega (arith, h.0) in
    let stop : at + (t.end - at) ≡ t.end = omega (arith, h.0, h.1) in
    let own : drop (t.start - at) bs ≡ drop t.start bytes = ap (drop (t.start - at)) q ∙ drop-drop (t.start - at) at bytes ∙ ap (λ n. drop n bytes) start in
    let next : drop (t.end - at) bs ≡ drop t.end bytes = ap (drop (t.end - at)) q ∙ drop-drop (t.end - at) at bytes ∙ ap (λ n. drop n bytes) stop in
    token_gone e.text bytes (take (t.end - t.start) (drop (t.start - at) bs)) (Added (run_text e.run) ∷ stretches t.end (drop (t.end - at) bs) ts es) t (replaced ts es)
    (ap (take (t.end - t.start)) own) (goes bytes t.end end (drop (t.end - at) bs) ts es h.2 next)

is_digits : (t : Lexeme) (w : Word) → t.word ≡ w → is_literal w ≡ true → IsLiteral t
is_digits t (Named x) q h = absurd (let bad : false ≡ true = h in cc)
is_digits t (System x) q h = absurd (let bad : false ≡ true = h in cc)
is_digits t (Digits n) q h = (n, q)
is_digits t (Reserved k) q h = absurd (let bad : false ≡ true = h in cc)
is_digits t (Marked m) q h = absurd (let bad : false ≡ true = h in cc)

are_literals : (xs : List Piece) (ts : List Lexeme) (star : Bool) → words_of ts ≡ source_words xs → Calm star xs → All IsLiteral (replaced ts (edits xs))
unfolding source_words edits Calm replaced
are_literals [] [] star e h = All-nil IsLiteral
are_literals [] (t ∷ ts) star e h = All-nil IsLiteral
are_literals (Kept w ∷ xs) [] star e h = All-nil IsLiteral
are_literals (Kept w ∷ xs) (t ∷ ts) star e h = are_literals xs ts (is_star w) (same_rest t.word w (words_of ts) (source_words xs) e) h
are_literals (Replaced w n ∷ xs) [] star e h = All-nil IsLiteral
are_literals (Replaced w n ∷ xs) (t ∷ ts) star e h =
    All-cons IsLiteral t (replaced ts (edits xs)) (is_digits t w (same_first t.word w (words_of ts) (source_words xs) e) h.0)
    (are_literals xs ts (is_star w) (same_rest t.word w (words_of ts) (source_words xs) e) h.1)
are_literals (Put n ∷ xs) ts star e h = are_literals xs ts star e h.1

pub keeps_bytes : KeepsBytes
keeps_bytes bytes s tree ss ps =
    let rise : Rise 0 (length bytes) tree.tokens = lex_rise bytes tree.tokens tree.are in
    record {
      stretches = stretches 0 bytes tree.tokens (edits_of ss ps s);
      source = whole 0 (length bytes) bytes tree.tokens (edits_of ss ps s) rise;
      printed = prints 0 bytes tree.tokens (edits_of ss ps s);
      gone_are = goes bytes 0 (length bytes) bytes tree.tokens (edits_of ss ps s) rise refl;
      literals = are_literals (source_pieces ss ps s) tree.tokens false (sym tree.spells.spelled ∙ sym (spells.source ss ps s)) (calm_whole (source_pieces ss ps s) (source_quiet ss ps s tree.spells.well));
    }
