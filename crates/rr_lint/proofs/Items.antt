-- The changes of bodies, items and modules, part by part.
use Rattle.std.proofs.Common.{◌≡◌, ℕ, zero, suc, ◌+◌, ◌<◌, ◌≤◌, Bool, true, false, nat_eq, List, [], ◌∷◌, ◌++◌, length, map, take, get_or, if◌then◌else◌, Option, refl, sym, ◌∙◌, ap, subst, arith, append-nil}
use Rattle.std.specs.List.{list_any}
use Rattle.std.proofs.lemmas.List.{append_assoc, get_or_default, length-append, length-map, length-take, map-append, take_all, take_more}
use denote.Ref.{Bor}
use Rattle.rr_syntax.specs.declared.tree.Bounds.{Bounds}
use Rattle.rr_syntax.specs.declared.tree.Conns.{Conns}
use Rattle.rr_syntax.specs.declared.tree.Events.{Events}
use Rattle.rr_syntax.specs.declared.tree.Group.{Group}
use Rattle.rr_syntax.specs.declared.tree.Instance.{Instance}
use Rattle.rr_syntax.specs.declared.tree.Item.{Item}
use Rattle.rr_syntax.specs.declared.tree.Item.TheVariants as item
use Rattle.rr_syntax.specs.declared.tree.Module.{Module}
use Rattle.rr_syntax.specs.declared.tree.Named.{Named}
use Rattle.rr_syntax.specs.declared.tree.Declarator.{Declarator}
use Rattle.rr_syntax.specs.declared.tree.Pair.{Pair}
use Rattle.rr_syntax.specs.declared.tree.Params.{Params}
use Rattle.rr_syntax.specs.declared.tree.Source.{Source}
use Rattle.rr_syntax.specs.declared.tree.Stmt.{Stmt}
use Rattle.rr_syntax.specs.Tree.{Statement, EventControl, Star, Edges, Levels, ModuleItem, ModuleDeclaration, SourceText}
use Rattle.rr_syntax.specs.Words.{Word, Named as NamedWord, Marked, Reserved, keyword_always, keyword_begin, keyword_end, keyword_endmodule, keyword_module, mark_at, mark_equals, mark_semicolon}
use Rattle.rr_syntax.specs.Statements.{spell_statement}
use Rattle.rr_syntax.specs.Items.{spell_all, spell_events, spell_item, spell_module, spell_parameters, spell_ports, WellFormedItem, WellFormedModule, WellFormedSource, NumberedAll, NumberedItem, NumberedModule, NumberedSource}
use Rattle.rr_syntax.specs.View.{plain_events, plain_header, plain_item, plain_module, plain_parameter, plain_port, plain_source, plain_statement, texts}
use Rattle.rr_syntax.proofs.ItemLengths.{all_len}
use Rattle.rr_lex.specs.Patch.{New, new_decimal, new_keyword, new_mark, new_name}
use Rattle.rr_lex.specs.Tokens.{Lexeme, AreTokens, words_of}
use Rattle.rr_grammar.specs.Trees.{Spells}
use Rattle.rr_edit.specs.Edits.{Edit}
use Rattle.rr_respell.specs.Pieces.{Piece, kept, puts, run_of, source_words, edits}
use Rattle.rr_respell.specs.Printing.{all_pieces}
use Rattle.rr_patch.specs.declared.change.Change.{Change as Given}
use Rattle.rr_patch.specs.Changes.{Change, changes, made_edits, plain_changes, AreFit}
use Rattle.rr_patch.specs.Edits.{byte_edits}
use Rattle.rr_patch.specs.Walks.{Adds, ItemAt, ModuleAt}
use Rattle.rr_patch.proofs.Changed.{made_is}
use Rattle.rr_patch.proofs.Joined.{pieces_fit}
use Rattle.rr_patch.proofs.ListWalks.{all_both}
use Rattle.rr_patch.proofs.StatementWalks.{two, kept_first}
use Rattle.rr_patch.proofs.TreeWalks.{kept_last}
use Rattle.rr_patch.proofs.Walks.{changes_join, puts_after, puts_first, no_puts}
use Rattle.rr_lint_laws.specs.Mended.{Marks}
use Rattle.rr_lint_print.specs.Pieces.{immediate_pieces, cleared_news, defaulted_pieces, mended_pieces, body_pieces, item_pieces, module_pieces, modules_pieces, source_pieces}
use Rattle.rr_lint_names.specs.Edges.{waits_for_edges}
use Rattle.rr_lint.specs.Walks.{numbered_pieces}
use Rattle.rr_lint.proofs.Making.{size, statement_has, item_has, modules_have, source_has}
use Rattle.rr_lint.proofs.Walking.{stays}

-- new tokens `v = 0;`
abbrev pub clearing : List ℕ → List New
clearing name = new_name name ∷ (new_mark mark_equals ∷ (new_decimal (48 ∷ []) ∷ (new_mark mark_semicolon ∷ [])))

cleared_snoc : (names : List (Bor (List ℕ))) (n : Bor (List ℕ)) → cleared_news (texts (names ++ n ∷ [])) ≡ cleared_news (texts names) ++ clearing n.now
unfolding cleared_news
cleared_snoc [] n = refl
cleared_snoc (m ∷ names) n = ap (λ (l : List New). new_name m.now ∷ (new_mark mark_equals ∷ (new_decimal (48 ∷ []) ∷ (new_mark mark_semicolon ∷ l)))) (cleared_snoc names n)

pub cleared_start : (o : List Change) (k : ℕ) → o ≡ o ++ changes k (puts (cleared_news []))
unfolding cleared_news
cleared_start o k = no_puts o k

pub cleared_next : (o o1 o2 : List Change) (k : ℕ) (xs : List (Bor (List ℕ))) (i : ℕ) (d : Bor (List ℕ)) → i < length xs → o1 ≡ o ++ changes k (puts (cleared_news (texts (take i xs)))) → o2 ≡ o1 ++ changes k (puts (clearing (get_or xs i d).now)) →
    o2 ≡ o ++ changes k (puts (cleared_news (texts (take (i + 1) xs))))
cleared_next o o1 o2 k xs i d l a b =
    let x : Bor (List ℕ) = get_or xs i d in
    let up : take (i + 1) xs ≡ take i xs ++ x ∷ [] = take_more xs i x l ∙ ap (λ (y : Bor (List ℕ)). take i xs ++ y ∷ []) (sym (get_or_default xs i d x l)) in
    puts_after o o1 o2 k (cleared_news (texts (take i xs))) (clearing x.now) a b
    ∙ ap (λ (l : List New). o ++ changes k (puts l)) (sym (ap (λ (ys : List (Bor (List ℕ))). cleared_news (texts ys)) up ∙ cleared_snoc (take i xs) x))

pub cleared_full : (o o1 : List Change) (k : ℕ) (xs : List (Bor (List ℕ))) (i : ℕ) → length xs ≤ i → o1 ≡ o ++ changes k (puts (cleared_news (texts (take i xs)))) → o1 ≡ o ++ changes k (puts (cleared_news (texts xs)))
cleared_full o o1 k xs i l a = a ∙ ap (λ (ys : List (Bor (List ℕ))). o ++ changes k (puts (cleared_news (texts ys)))) (take_all i xs l)

-- a body with what it clears
pub defaulted_none : (o o' : List Change) (k : ℕ) (names : List (Bor (List ℕ))) (xs : List Piece) → length names ≡ 0 → o' ≡ o ++ changes k xs → o' ≡ o ++ changes k (defaulted_pieces (texts names) xs)
defaulted_none o o' k [] xs e h = h
defaulted_none o o' k (n ∷ names) xs e h = absurd (omega (arith, e))

pub defaulted_some : (o o1 o2 o3 o4 : List Change) (k next : ℕ) (names : List (Bor (List ℕ))) (t : Statement) → (length names ≡ 0 → ⊥) → o1 ≡ o ++ changes k (puts (new_keyword keyword_begin ∷ [])) → o2 ≡ o1 ++ changes k (puts (cleared_news (texts names))) →
    o3 ≡ o2 ++ changes k (immediate_pieces t) → next ≡ k + length (spell_statement t) → o4 ≡ o3 ++ changes next (puts (new_keyword keyword_end ∷ [])) → o4 ≡ o ++ changes k (defaulted_pieces (texts names) (immediate_pieces t))
defaulted_some o o1 o2 o3 o4 k next [] t e a b c n d = absurd (e refl)
defaulted_some o o1 o2 o3 o4 k next (m ∷ names) t e a b c n d =
    let ns : List New = cleared_news (texts (m ∷ names)) in
    let X : List Piece = immediate_pieces t in
    let E : List Piece = puts (new_keyword keyword_end ∷ []) in
    let w : length (source_words X) ≡ length (spell_statement t) = size X (spell_statement t) (statement_has t) in
    two o o2 o4 (changes k (puts (new_keyword keyword_begin ∷ ns))) (changes k (X ++ E)) _ (puts_after o o1 o2 k (new_keyword keyword_begin ∷ []) ns a b)
    (two o2 o3 o4 (changes k X) (changes next E) _ c d (changes_join k X E ∙ ap (λ (j : ℕ). changes k X ++ changes j E) (ap (λ (j : ℕ). k + j) w ∙ sym n)))
    (puts_first k (new_keyword keyword_begin ∷ ns) (X ++ E))

module _ (marks : Marks) where
  pub item_size : (x : ModuleItem) → length (source_words (item_pieces marks x)) ≡ length (spell_item x)
  item_size x = size (item_pieces marks x) (spell_item x) (item_has marks x)

  abbrev AddsItem : List Change → List Change → Item → Type 0
  AddsItem o o' i = Adds o o' (ItemAt (plain_item i)) (item_pieces marks (plain_item i))

  with_item : (o o' : List Change) (i j : Item) → i ≡ j → AddsItem o o' j → AddsItem o o' i
  with_item o o' i j q h = subst (AddsItem o o') (sym q) h

  pub Ports_adds : (o : List Change) (i : Item) (g : Group) → i ≡ item.Ports g → AddsItem o o i
  unfolding item_pieces plain_item
  Ports_adds o i g q = with_item o o i (item.Ports g) q (λ at w. stays o at (spell_item (plain_item (item.Ports g))))

  pub Nets_adds : (o : List Change) (i : Item) (signed : Bool) (range : Option Bounds) (names : Bor (List Declarator)) → i ≡ item.Nets signed range names → AddsItem o o i
  unfolding item_pieces plain_item
  Nets_adds o i signed range names q = with_item o o i (item.Nets signed range names) q (λ at w. stays o at (spell_item (plain_item (item.Nets signed range names))))

  pub Variables_adds : (o : List Change) (i : Item) (signed : Bool) (range : Option Bounds) (names : Bor (List Declarator)) → i ≡ item.Variables signed range names → AddsItem o o i
  unfolding item_pieces plain_item
  Variables_adds o i signed range names q = with_item o o i (item.Variables signed range names) q (λ at w. stays o at (spell_item (plain_item (item.Variables signed range names))))

  pub Integers_adds : (o : List Change) (i : Item) (names : Bor (List Named)) → i ≡ item.Integers names → AddsItem o o i
  unfolding item_pieces plain_item
  Integers_adds o i names q = with_item o o i (item.Integers names) q (λ at w. stays o at (spell_item (plain_item (item.Integers names))))

  pub Parameters_adds : (o : List Change) (i : Item) (p : Params) → i ≡ item.Parameters p → AddsItem o o i
  unfolding item_pieces plain_item
  Parameters_adds o i p q = with_item o o i (item.Parameters p) q (λ at w. stays o at (spell_item (plain_item (item.Parameters p))))

  pub Assigns_adds : (o : List Change) (i : Item) (pairs : Bor (List Pair)) → i ≡ item.Assigns pairs → AddsItem o o i
  unfolding item_pieces plain_item
  Assigns_adds o i pairs q = with_item o o i (item.Assigns pairs) q (λ at w. stays o at (spell_item (plain_item (item.Assigns pairs))))

  pub Initial_adds : (o : List Change) (i : Item) (t : Bor Stmt) (token : ℕ) → i ≡ item.Initial t token → AddsItem o o i
  unfolding item_pieces plain_item
  Initial_adds o i t token q = with_item o o i (item.Initial t token) q (λ at w. stays o at (spell_item (plain_item (item.Initial t token))))

  pub Instances_adds : (o : List Change) (i : Item) (m : Bor (List ℕ)) (token : ℕ) (u : Option Conns) (list : Bor (List Instance)) → i ≡ item.Instances m token u list → AddsItem o o i
  unfolding item_pieces plain_item
  Instances_adds o i m token u list q = with_item o o i (item.Instances m token u list) q (λ at w. stays o at (spell_item (plain_item (item.Instances m token u list))))

  -- the body of an `always`
  body_kept : (e : EventControl) (t : Statement) (token : ℕ) → waits_for_edges e ≡ true → body_pieces marks e t token ≡ kept (spell_statement t)
  body_kept (Star brackets) t token h = absurd (let bad : false ≡ true = h in cc)
  body_kept (Edges list commas) t token h = refl
  body_kept (Levels list commas) t token h = absurd (let bad : false ≡ true = h in cc)

  body_mended : (e : EventControl) (t : Statement) (token : ℕ) → waits_for_edges e ≡ false → body_pieces marks e t token ≡ mended_pieces marks token t
  body_mended (Star brackets) t token h = refl
  body_mended (Edges list commas) t token h = absurd (let bad : true ≡ false = h in cc)
  body_mended (Levels list commas) t token h = refl

  pub Always_stays : (o : List Change) (i : Item) (e : Events) (s : Bor Stmt) (token : ℕ) → i ≡ item.Always e s token → waits_for_edges (plain_events e) ≡ true → AddsItem o o i
  unfolding item_pieces plain_item
  Always_stays o i e s token q h =
      let W : List Word = Reserved keyword_always ∷ (Marked mark_at ∷ spell_events (plain_events e)) in
      with_item o o i (item.Always e s token) q
      (λ at w.
      stays o at W ∙ ap (λ (l : List Change). o ++ l) (sym (kept_last at (kept W) (spell_statement (plain_statement s.now))))
      ∙ ap (λ (l : List Piece). o ++ changes at (kept W ++ l)) (sym (body_kept (plain_events e) (plain_statement s.now) token h)))

  pub Always_adds : (o o' : List Change) (k : ℕ) (i : Item) (e : Events) (s : Bor Stmt) (token : ℕ) → i ≡ item.Always e s token → waits_for_edges (plain_events e) ≡ false → k ≡ token + 2 + length (spell_events (plain_events e)) →
      o' ≡ o ++ changes k (mended_pieces marks token (plain_statement s.now)) → AddsItem o o' i
  unfolding item_pieces plain_item NumberedItem
  Always_adds o o' k i e s token q f m h =
      let W : List Word = Reserved keyword_always ∷ (Marked mark_at ∷ spell_events (plain_events e)) in
      let B : List Piece = body_pieces marks (plain_events e) (plain_statement s.now) token in
      with_item o o' i (item.Always e s token) q
      (λ at w.
      let a = w.1.0 in
      h ∙ ap (λ (l : List Piece). o ++ changes k l) (sym (body_mended (plain_events e) (plain_statement s.now) token f))
      ∙ ap (λ (j : ℕ). o ++ changes j B) (omega (arith, m, a)) ∙ ap (λ (l : List Change). o ++ l) (sym (kept_first at W B)))

  -- a module with its items
  pub module_adds : (o o' : List Change) (m : Module) → Adds o o' (NumberedAll spell_item ItemAt (map plain_item m.items.now)) (all_pieces (item_pieces marks) (map plain_item m.items.now)) → Adds o o' (ModuleAt (plain_module m)) (module_pieces marks (plain_module m))
  unfolding NumberedModule WellFormedModule plain_module module_pieces
  module_adds o o' m h at w =
      let P : List Word = spell_parameters (map plain_parameter m.params.now) in
      let Q : List Word = spell_ports (plain_header m.header) (map plain_port m.groups.now) in
      let first : ℕ = at + (3 + length P + length Q) in
      let A : List Piece = all_pieces (item_pieces marks) (map plain_item m.items.now) in
      let E : List Piece = A ++ kept (Reserved keyword_endmodule ∷ []) in
      let head : List Word = Reserved keyword_module ∷ (NamedWord m.name.now ∷ (P ++ (Q ++ (Marked mark_semicolon ∷ [])))) in
      let a = length-append P (Q ++ (Marked mark_semicolon ∷ [])) in
      let b = length-append Q (Marked mark_semicolon ∷ []) in
      let n = subst (NumberedAll spell_item NumberedItem (map plain_item m.items.now)) (omega arith) w.1.3 in
      h first (all_both spell_item WellFormedItem NumberedItem (map plain_item m.items.now) first w.0.3 n)
      ∙ ap (λ (l : List Change). o ++ l)
      (sym (kept_first at head E ∙ ap (λ (j : ℕ). changes j E) (let e : at + length head ≡ first = omega (arith, a, b) in e) ∙ kept_last first A (Reserved keyword_endmodule ∷ [])))

  module _ (numbers : List ℕ) where
    pub numbered_in : (o o' : List Change) (k : ℕ) (m : Module) → list_any (nat_eq k) numbers ≡ true → Adds o o' (ModuleAt (plain_module m)) (module_pieces marks (plain_module m)) → Adds o o' (ModuleAt (plain_module m)) (numbered_pieces numbers marks k (plain_module m))
    numbered_in o o' k m e h at w = h at w ∙ ap (λ (b : Bool). o ++ changes at (if b then module_pieces marks (plain_module m) else kept (spell_module (plain_module m)))) (sym e)

    pub numbered_out : (o : List Change) (k : ℕ) (m : Module) → list_any (nat_eq k) numbers ≡ false → Adds o o (ModuleAt (plain_module m)) (numbered_pieces numbers marks k (plain_module m))
    numbered_out o k m e at w = stays o at (spell_module (plain_module m)) ∙ ap (λ (b : Bool). o ++ changes at (if b then module_pieces marks (plain_module m) else kept (spell_module (plain_module m)))) (sym e)

    abbrev first_pieces : List Module → List Piece
    first_pieces ms = modules_pieces numbers marks 0 (map plain_module ms)

    modules_snoc : (k j : ℕ) (ms : List ModuleDeclaration) (m : ModuleDeclaration) → j ≡ k + length ms → modules_pieces numbers marks k (ms ++ m ∷ []) ≡ modules_pieces numbers marks k ms ++ numbered_pieces numbers marks j m
    unfolding modules_pieces
    modules_snoc k j [] m e = append-nil (numbered_pieces numbers marks k m) ∙ ap (λ (i : ℕ). numbered_pieces numbers marks i m) (let q : k ≡ j = omega (arith, e) in q)
    modules_snoc k j (x ∷ ms) m e =
        ap (λ (l : List Piece). numbered_pieces numbers marks k x ++ l) (modules_snoc (k + 1) j ms m (omega (arith, e)))
        ∙ sym (append_assoc (numbered_pieces numbers marks k x) (modules_pieces numbers marks (k + 1) ms) (numbered_pieces numbers marks j m))

    all_at : (ms : List Module) (i : ℕ) (d : Module) (at : ℕ) → i < length ms → NumberedAll spell_module ModuleAt (map plain_module ms) at → ModuleAt (plain_module (get_or ms i d)) (at + all_len spell_module plain_module (take i ms))
    unfolding NumberedAll spell_all
    all_at [] i d at l n = absurd (omega (arith, l))
    all_at (x ∷ ms) zero d at l n = subst (ModuleAt (plain_module x)) (omega arith) n.0
    all_at (x ∷ ms) (suc i) d at l n =
        let a = length-append (spell_module (plain_module x)) (spell_all spell_module (map plain_module (take i ms))) in
        subst (ModuleAt (plain_module (get_or ms i d))) (omega (arith, a)) (all_at ms i d (at + length (spell_module (plain_module x))) (omega (arith, l)) n.1)

    abbrev pub ModulesTo : List Change → List Change → List Module → ℕ → Type 0
    ModulesTo o o' ms i = Adds o o' (NumberedAll spell_module ModuleAt (map plain_module ms)) (first_pieces (take i ms))

    pub modules_none : (o : List Change) (ms : List Module) → ModulesTo o o ms 0
    unfolding modules_pieces
    modules_none o ms at n = no_puts o at

    pub modules_more : (o o1 o2 : List Change) (ms : List Module) (i : ℕ) (d : Module) → i < length ms → ModulesTo o o1 ms i → Adds o1 o2 (ModuleAt (plain_module (get_or ms i d))) (numbered_pieces numbers marks i (plain_module (get_or ms i d))) → ModulesTo o o2 ms (i + 1)
    modules_more o o1 o2 ms i d l a b at n =
        let x : Module = get_or ms i d in
        let M : List Piece = first_pieces (take i ms) in
        let X : List Piece = numbered_pieces numbers marks i (plain_module x) in
        let next : ℕ = at + all_len spell_module plain_module (take i ms) in
        let up : take (i + 1) ms ≡ take i ms ++ x ∷ [] = take_more ms i x l ∙ ap (λ (y : Module). take i ms ++ y ∷ []) (sym (get_or_default ms i d x l)) in
        let count : i ≡ 0 + length (map plain_module (take i ms)) = (let p = length-map (take i ms) plain_module in let q = length-take i ms in omega (arith, l, p, q)) in
        let w : length (source_words M) ≡ all_len spell_module plain_module (take i ms) = size M _ (modules_have marks numbers 0 (map plain_module (take i ms))) in
        two o o1 o2 (changes at M) (changes next X) _ (a at n) (b next (all_at ms i d at l n))
        (ap (λ (ys : List Module). changes at (first_pieces ys)) up ∙ ap (λ (ys : List ModuleDeclaration). changes at (modules_pieces numbers marks 0 ys)) (map-append plain_module (take i ms) (x ∷ []))
        ∙ ap (changes at) (modules_snoc 0 i (map plain_module (take i ms)) (plain_module x) count) ∙ changes_join at M X ∙ ap (λ (j : ℕ). changes at M ++ changes (at + j) X) w)

    pub modules_full : (o o' : List Change) (ms : List Module) (i : ℕ) → length ms ≤ i → ModulesTo o o' ms i → Adds o o' (NumberedAll spell_module ModuleAt (map plain_module ms)) (first_pieces ms)
    modules_full o o' ms i l a at n = a at n ∙ ap (λ (ys : List Module). o ++ changes at (first_pieces ys)) (take_all i ms l)

    -- a whole source, whose first token is number 0
    pub of_source : (s : Source) (ws : List Word) (o o' : List Given) → Spells ws (plain_source s) → NumberedSource (plain_source s) → o ≡ [] →
        Adds (plain_changes o) (plain_changes o') (NumberedAll spell_module ModuleAt (map plain_module s.modules.now)) (first_pieces s.modules.now) → plain_changes o' ≡ changes 0 (source_pieces numbers marks (plain_source s))
    unfolding source_pieces plain_source NumberedSource WellFormedSource
    of_source s ws o o' spells n e h =
        h 0 (all_both spell_module WellFormedModule NumberedModule (map plain_module s.modules.now) 0 spells.well n) ∙ ap (λ (l : List Given). plain_changes l ++ changes 0 (first_pieces s.modules.now)) e

    no_run : (s : SourceText) → run_of (source_pieces numbers marks s) ≡ []
    unfolding source_pieces modules_pieces module_pieces spell_module run_of
    no_run s = by_modules s.modules
      where
        by_test : (b : Bool) (m : ModuleDeclaration) (rest : List Piece) → run_of ((if b then module_pieces marks m else kept (spell_module m)) ++ rest) ≡ []
        by_test true m rest = refl
        by_test false m rest = refl

        by_modules : (ms : List ModuleDeclaration) → run_of (modules_pieces numbers marks 0 ms) ≡ []
        by_modules [] = refl
        by_modules (m ∷ ms) = by_test (list_any (nat_eq 0) numbers) m (modules_pieces numbers marks (0 + 1) ms)

    module _ (bytes : List ℕ) (ts : List Lexeme) (s : SourceText) (are : AreTokens bytes ts) (spells : Spells (words_of ts) s) (cs : List Given) (e : plain_changes cs ≡ changes 0 (source_pieces numbers marks s)) where
      same : words_of ts ≡ source_words (source_pieces numbers marks s)
      same = sym spells.spelled ∙ sym (source_has marks numbers s).makes.source

      pub made_fit : AreFit cs
      made_fit = pieces_fit bytes ts (source_pieces numbers marks s) are same (source_has marks numbers s).makes.allowed cs e

      pub made_are : (out : List Edit) → out ≡ made_edits 0 ts (plain_changes cs) → out ≡ byte_edits ts (edits (source_pieces numbers marks s))
      made_are out h = h ∙ ap (made_edits 0 ts) e ∙ made_is 0 ts (source_pieces numbers marks s) (no_run s) same
