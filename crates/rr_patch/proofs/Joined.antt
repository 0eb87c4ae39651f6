-- The changes of a source's pieces print it, and the code can write them.
use Rattle.std.proofs.Common.{◌≡◌, ℕ, ◌+◌, ◌<◌, ◌≤◌, ◌^◌, List, [], ◌∷◌, sym, ◌∙◌, ap, subst}
use Rattle.std.specs.List.{AllByRecursion}
use Rattle.std.proofs.lemmas.List.Elements.{All-head, All-tail, All-from_recursion, recursion_from_All}
use Rattle.std.proofs.lemmas.Nat.{mod_below, pow_pos}
use Rattle.rr_syntax.specs.Words.{Word, Named, System, Digits, Reserved, Marked}
use Rattle.rr_lex.specs.Tokens.{Lexeme, IsSound, AreTokens, words_of}
use Rattle.rr_lex.specs.Patch.{New}
use Rattle.rr_lex.proofs.Sound.{words_sound}
use Rattle.rr_edit.specs.Edits.{edited}
use Rattle.rr_choice.specs.Sites as sites
use Rattle.rr_choice.specs.Sites.{SiteKind, Site, HasFitWidth, FitWidths}
use Rattle.rr_patch.specs.declared.change.Change.{Change as Made}
use Rattle.rr_patch.specs.declared.change.Added.{Added}
use Rattle.rr_patch.specs.declared.change.Added.TheVariants as added
use Rattle.rr_respell.specs.Pieces.{Piece, Kept, Replaced, Put, source_words}
use Rattle.rr_respell.specs.Printing.{source_pieces, edits_of}
use Rattle.rr_patch.specs.Changes.{Change, changes, plain_added, plain_changes, IsFitAdded, AreFit}
use Rattle.rr_patch.specs.Laws.{ChangesEdit, ChangesPrint, ChangesAreFit}
use Rattle.rr_respell.proofs.Makes.{Allowed, AllowsKind, AllowsSites, Allows}
use Rattle.rr_respell.proofs.SourceParts.{source_makes, spells}
use Rattle.rr_respell.proofs.PrintedTree.{no_run}
use Rattle.rr_patch.proofs.Changed.{made_is}
use Rattle.rr_patch.proofs.Stood.{edits_patch}

pub changes_edit : ChangesEdit
changes_edit bytes s tree ss ps = made_is 0 tree.tokens (source_pieces ss ps s) (no_run ss ps s) (sym tree.spells.spelled ∙ sym (spells.source ss ps s))

pub changes_print : ChangesPrint
changes_print bytes s tree ss ps = ap (edited 0 bytes) (changes_edit bytes s tree ss ps) ∙ edits_patch bytes tree.tokens (edits_of ss ps s) tree.are

-- a literal of 1 to 128 bits whose value has no more
abbrev pub FitWord : Word → Type 0
FitWord (Named x) = Unit {0}
FitWord (System x) = Unit {0}
FitWord (Digits n) = (1 ≤ n.width) × (n.width ≤ 128) × (n.value < 2 ^ n.width)
FitWord (Reserved k) = Unit {0}
FitWord (Marked m) = Unit {0}

abbrev pub FitNew : New → Type 0
FitNew n = FitWord n.word

fit_kind : (k : SiteKind) → HasFitWidth k → AllowsKind FitNew k
fit_kind (sites.Literal width signed) h = tt
fit_kind (sites.Guard owner extent names) h = λ name c. tt
fit_kind (sites.Overwrite owner target width now names) h = (λ name c. tt, tt, λ v. (h.0, h.1, mod_below v (2 ^ width) (pow_pos width)))

fit_sites : (ss : List Site) → FitWidths ss → AllowsSites FitNew ss
unfolding AllowsSites
fit_sites [] h = tt
fit_sites (s ∷ ss) h = (fit_kind s.kind (All-head (λ (x : Site). HasFitWidth x.kind) s ss h), fit_sites ss (All-tail (λ (x : Site). HasFitWidth x.kind) s ss h))

fit_allows : (ss : List Site) → FitWidths ss → Allows FitNew ss
fit_allows ss h = record { marks = λ m l. tt; keywords = λ k l. tt; literals = λ w signed v a b c. (a, b, c); sites = fit_sites ss h }

fit_changes : (k : ℕ) (xs : List Piece) → AllByRecursion IsSound (source_words xs) → Allowed FitNew xs → AllByRecursion (λ (c : Change). FitNew c.new) (changes k xs)
unfolding changes source_words Allowed
fit_changes k [] s a = tt
fit_changes k (Kept w ∷ xs) s a = fit_changes (k + 1) xs s.1 a
fit_changes k (Replaced w n ∷ xs) s a = (a.0 s.0, fit_changes (k + 1) xs s.1 a.1)
fit_changes k (Put n ∷ xs) s a = (a.0, fit_changes k xs s a.1)

fit_added : (a : Added) → FitNew (plain_added a) → IsFitAdded a
fit_added (added.Fixed f) h = tt
fit_added (added.Name name) h = tt
fit_added (added.Literal width signed value) h = h

fit_made : (cs : List Made) → AllByRecursion (λ (c : Change). FitNew c.new) (plain_changes cs) → AllByRecursion (λ (c : Made). IsFitAdded c.new) cs
fit_made [] h = tt
fit_made (c ∷ cs) h = (fit_added c.new h.0, fit_made cs h.1)

-- the changes of any pieces of a text whose new tokens are such
pub pieces_fit : (bytes : List ℕ) (ts : List Lexeme) (xs : List Piece) → AreTokens bytes ts → words_of ts ≡ source_words xs → Allowed FitNew xs → (cs : List Made) → plain_changes cs ≡ changes 0 xs → AreFit cs
pieces_fit bytes ts xs are same a cs e =
    let words = subst (AllByRecursion IsSound) same (recursion_from_All IsSound _ (words_sound bytes ts are)) in
    All-from_recursion (λ (c : Made). IsFitAdded c.new) cs (fit_made cs (subst (AllByRecursion (λ (c : Change). FitNew c.new)) (sym e) (fit_changes 0 xs words a)))

pub changes_are_fit : ChangesAreFit
changes_are_fit bytes s tree ss ps cs w e =
    pieces_fit bytes tree.tokens (source_pieces ss ps s) tree.are (sym tree.spells.spelled ∙ sym (spells.source ss ps s)) (source_makes FitNew ss (fit_allows ss w) ps s).allowed cs e
