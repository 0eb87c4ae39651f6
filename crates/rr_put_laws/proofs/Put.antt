-- The texts of the edits of a choice can be put between tokens.
use Rattle.std.proofs.Common.{◌≡◌, ℕ, ◌+◌, ◌%◌, ◌^◌, true, false, List, [], ◌∷◌, ◌++◌, Some, refl, sym, ◌∙◌, ap, append_assoc}
use Rattle.std.specs.List.{All}
use Rattle.std.proofs.lemmas.List.Elements.{All-nil, All-cons, All-append, All-head, All-tail, All-contains, All-from_recursion}
use Rattle.rr_directive.specs.Pieces.{TextUnit, units}
use Rattle.rr_edit.specs.Edits.{Edit, IsPut, is_single}
use Rattle.rr_lex.specs.Tokens.{Lexeme}
use Rattle.rr_lex.specs.Patch.{New, IsNameText, run_end, run_text, token_text}
use Rattle.rr_choice.specs.Sites as sites
use Rattle.rr_choice.specs.Sites.{SiteKind, Site, FitWidths}
use Rattle.rr_respell.specs.Pieces.{Piece, Kept, Replaced, Put, run_of, edits}
use Rattle.rr_respell.specs.Printing.{source_pieces}
use Rattle.rr_respell.specs.Laws.{IsNamed, AreNamed}
use Rattle.rr_respell.proofs.Makes.{Allowed, AllowedAll, AllowsNames, AllowsKind, AllowsSites, Allows}
use Rattle.rr_respell.proofs.SourceParts.{source_makes}
use Rattle.rr_patch.specs.Edits.{replaced_edit, run_edit, byte_edits}
use Rattle.rr_put_laws.specs.Laws.{NewsArePut}
use Rattle.rr_put_laws.proofs.Calm.{Calm, Singles, blank, end}
use Rattle.rr_put_laws.proofs.Texts.{keyword_calm, mark_calm, name_calm, literal_calm}
use Rattle.rr_put_laws.proofs.Over.{Over, source_over}

abbrev IsCalm : New → Type 0
IsCalm n = Calm n.text

-- a run of new tokens, with its blanks
run_units : (ns : List New) → AllowedAll IsCalm ns → (at : ℕ) → Singles (units at 0 (run_end ns))
run_units [] h at = end at
run_units (n ∷ ns) h at = blank at (n.text ++ run_end ns) (by_rest ns (run_units ns h.1))
  where
    by_rest : (ms : List New) → ((place : ℕ) → Singles (units place 0 (run_end ms))) → Singles (units (at + 1) 0 (n.text ++ run_end ms))
    by_rest [] f = h.0.units (at + 1) [] f
    by_rest (m ∷ ms) f = h.0.units (at + 1) (m.text ++ run_end ms) f

run_front : List New → List ℕ
run_front [] = []
run_front (n ∷ ns) = 32 ∷ (n.text ++ run_front ns)

run_last : (ns : List New) → run_end ns ≡ run_front ns ++ (32 ∷ [])
unfolding run_front
run_last [] = refl
run_last (n ∷ ns) = ap (λ (l : List ℕ). 32 ∷ (n.text ++ l)) (run_last ns) ∙ ap (λ (l : List ℕ). 32 ∷ l) (sym (append_assoc n.text (run_front ns) (32 ∷ [])))

run_put : (n : New) (ns : List New) → AllowedAll IsCalm (n ∷ ns) → IsPut (run_text (n ∷ ns))
run_put n ns h = record {
  first = refl;
  front = run_front (n ∷ ns);
  last = run_last (n ∷ ns);
  units = All-from_recursion (λ (u : TextUnit). is_single u.piece.kind ≡ true) (units 0 0 (run_end (n ∷ ns))) (run_units (n ∷ ns) h 0);
}

run_edits : (ns : List New) (t : Lexeme) → AllowedAll IsCalm ns → All (λ (e : Edit). IsPut e.text) (run_edit ns t)
run_edits [] t h = All-nil (λ (e : Edit). IsPut e.text)
run_edits (n ∷ ns) t h = All-cons (λ (e : Edit). IsPut e.text) (record { from = t.end; to = t.end; text = run_text (n ∷ ns) }) [] (run_put n ns h) (All-nil (λ (e : Edit). IsPut e.text))

run_calm : (xs : List Piece) → Allowed IsCalm xs → AllowedAll IsCalm (run_of xs)
unfolding Allowed run_of
run_calm [] h = tt
run_calm (Kept w ∷ xs) h = tt
run_calm (Replaced w n ∷ xs) h = tt
run_calm (Put n ∷ xs) h = (h.0, run_calm xs h.1)

-- a token in the place of another is written as a run of one
over_edits : (n : New) (t : Lexeme) → IsCalm n → All (λ (e : Edit). IsPut e.text) (replaced_edit (Some n) t)
over_edits n t h = All-cons (λ (e : Edit). IsPut e.text) (record { from = t.start; to = t.end; text = token_text (Some n) [] }) [] (run_put n [] (h, tt)) (All-nil (λ (e : Edit). IsPut e.text))

pieces_put : (ts : List Lexeme) (xs : List Piece) → Allowed IsCalm xs → Over IsCalm xs → All (λ (e : Edit). IsPut e.text) (byte_edits ts (edits xs))
unfolding Allowed Over edits byte_edits
pieces_put [] xs a o = All-nil (λ (e : Edit). IsPut e.text)
pieces_put (t ∷ ts) [] a o = All-nil (λ (e : Edit). IsPut e.text)
pieces_put (t ∷ ts) (Kept w ∷ xs) a o =
    All-append (λ (e : Edit). IsPut e.text) (run_edit (run_of xs) t) (byte_edits ts (edits xs)) (run_edits (run_of xs) t (run_calm xs a)) (pieces_put ts xs a o)
pieces_put (t ∷ ts) (Replaced w n ∷ xs) a o =
    All-append (λ (e : Edit). IsPut e.text) (replaced_edit (Some n) t) (run_edit (run_of xs) t ++ byte_edits ts (edits xs)) (over_edits n t o.0)
    (All-append (λ (e : Edit). IsPut e.text) (run_edit (run_of xs) t) (byte_edits ts (edits xs)) (run_edits (run_of xs) t (run_calm xs a.1)) (pieces_put ts xs a.1 o.1))
pieces_put (t ∷ ts) (Put n ∷ xs) a o = pieces_put (t ∷ ts) xs a.1 o

-- what sites may bring
names_calm : (names : List (List ℕ)) → All IsNameText names → AllowsNames IsCalm names
names_calm names h name c = name_calm name (All-contains IsNameText names name h c)

kind_calm : (k : SiteKind) → IsNamed k → AllowsKind IsCalm k
kind_calm (sites.Literal width signed) h = tt
kind_calm (sites.Guard owner extent names) h = names_calm names h
kind_calm (sites.Overwrite owner target width now names) h = (names_calm names h.0, name_calm target h.1, λ v. literal_calm width false (v % 2 ^ width))

sites_calm : (ss : List Site) → AreNamed ss → AllowsSites IsCalm ss
unfolding AllowsSites
sites_calm [] h = tt
sites_calm (s ∷ ss) h = (kind_calm s.kind (All-head (λ (x : Site). IsNamed x.kind) s ss h), sites_calm ss (All-tail (λ (x : Site). IsNamed x.kind) s ss h))

calm_allowed : (ss : List Site) → AreNamed ss → Allows IsCalm ss
calm_allowed ss h = record { marks = mark_calm; keywords = keyword_calm; literals = λ w signed v l m n. literal_calm w signed v; sites = sites_calm ss h }

pub news_are_put : NewsArePut
news_are_put ts source ss ps w n = pieces_put ts (source_pieces ss ps source) (source_makes IsCalm ss (calm_allowed ss n) ps source).allowed (source_over IsCalm literal_calm ss ps source)
