-- The edits that mend a text are told by which names the blocks clear.
use Rattle.std.proofs.Common.{◌≡◌, ◌∙◌, ℕ, ◌+◌, Bool, true, false, List, [], ◌∷◌, ◌++◌, refl, sym, ap, ap₂, nat_eq, filter, if◌then◌else◌}
use Rattle.std.specs.List.{list_any}
use Rattle.rr_syntax.specs.Words.{Reserved, Marked, keyword_always, mark_at}
use Rattle.rr_syntax.specs.Tree.{Statement, EventControl, Star, Edges, Levels, ModuleItem, Ports, Nets, Variables, Integers, Parameters, Assigns, Always, Initial, Instances, ModuleDeclaration, SourceText}
use Rattle.rr_syntax.specs.Items.{spell_events, spell_module}
use Rattle.rr_lex.specs.Patch.{Edit as TokenEdit}
use Rattle.rr_lex.specs.Tokens.{Lexeme}
use Rattle.rr_flat.specs.Plain.{Flat}
use Rattle.rr_edit.specs.Edits.{Edit}
use Rattle.rr_patch.specs.Edits.{byte_edits}
use Rattle.rr_respell.specs.Pieces.{Piece, edits, kept}
use Rattle.rr_respell.specs.Printing.{all_pieces}
use Rattle.rr_lint_laws.specs.Ever.{ever_names}
use Rattle.rr_lint_laws.specs.Mended.{Marks, cleared_by, each_once}
use Rattle.rr_lint_print.specs.Pieces.{body_pieces, defaulted_pieces, immediate_pieces, item_pieces, lint_edits, mended_pieces, module_pieces, modules_pieces, source_pieces}
use Rattle.rr_lint.specs.Edited.{AreLintEdits}

filter_same : {A : Type 0} (p q : A → Bool) → ((x : A) → p x ≡ q x) → (xs : List A) → filter p xs ≡ filter q xs
filter_same p q h [] = refl
filter_same p q h (x ∷ xs) = ap₂ (λ (b : Bool) (l : _). if b then x ∷ l else l) (h x) (filter_same p q h xs)

module _ (m n : Marks) (h : (token : ℕ) (name : List ℕ) → m token name ≡ n token name) where
  cleared_same : (token : ℕ) (body : Statement) → cleared_by m token body ≡ cleared_by n token body
  cleared_same token body = filter_same (m token) (n token) (h token) (each_once (ever_names body))

  mended_same : (token : ℕ) (body : Statement) → mended_pieces m token body ≡ mended_pieces n token body
  mended_same token body = ap (λ (names : List (List ℕ)). defaulted_pieces names (immediate_pieces body)) (cleared_same token body)

  body_same : (events : EventControl) (body : Statement) (token : ℕ) → body_pieces m events body token ≡ body_pieces n events body token
  body_same (Star brackets) body token = mended_same token body
  body_same (Edges list commas) body token = refl
  body_same (Levels list commas) body token = mended_same token body

  item_same : (x : ModuleItem) → item_pieces m x ≡ item_pieces n x
  unfolding item_pieces
  item_same (Ports p) = refl
  item_same (Nets signed range list) = refl
  item_same (Variables signed range list) = refl
  item_same (Integers list) = refl
  item_same (Parameters p) = refl
  item_same (Assigns pairs) = refl
  item_same (Always events body token) = ap (λ (ps : List Piece). kept (Reserved keyword_always ∷ (Marked mark_at ∷ spell_events events)) ++ ps) (body_same events body token)
  item_same (Initial body token) = refl
  item_same (Instances i token overrides list) = refl

  items_same : (xs : List ModuleItem) → all_pieces (item_pieces m) xs ≡ all_pieces (item_pieces n) xs
  unfolding all_pieces
  items_same [] = refl
  items_same (x ∷ xs) = ap₂ (λ (a b : List Piece). a ++ b) (item_same x) (items_same xs)

  module_same : (x : ModuleDeclaration) → module_pieces m x ≡ module_pieces n x
  unfolding module_pieces
  module_same x = rw (items_same x.items) refl

  modules_same : (numbers : List ℕ) (k : ℕ) (xs : List ModuleDeclaration) → modules_pieces numbers m k xs ≡ modules_pieces numbers n k xs
  unfolding modules_pieces
  modules_same numbers k [] = refl
  modules_same numbers k (x ∷ xs) =
      ap₂ (λ (a b : List Piece). (if list_any (nat_eq k) numbers then a else kept (spell_module x)) ++ b) (module_same x) (modules_same numbers (k + 1) xs)

  edits_same : (numbers : List ℕ) (s : SourceText) → lint_edits numbers m s ≡ lint_edits numbers n s
  unfolding source_pieces
  edits_same numbers s = ap edits (modules_same numbers 0 s.modules)

both_ways : (a b : Bool) → (a ≡ true → b ≡ true) → (b ≡ true → a ≡ true) → a ≡ b
both_ways true b f g = sym (f refl)
both_ways false true f g = g refl
both_ways false false f g = refl

-- a text is mended by one list of edits
pub one_edits : (tokens : List Lexeme) (source : SourceText) (flat : Flat) (es os : List Edit) → AreLintEdits tokens source flat es → AreLintEdits tokens source flat os → es ≡ os
one_edits tokens source flat es os a b =
    let same = edits_same a.marks b.marks (λ token name. both_ways (a.marks token name) (b.marks token name)
    (λ e. b.latched.all token name (a.latched.right token name e)) (λ e. a.latched.all token name (b.latched.right token name e))) flat.reached source in
    a.are ∙ (ap (λ (l : List TokenEdit). byte_edits tokens l) same ∙ sym b.are)
