-- The new tokens before a condition or a body, and after it; and the changes of parts of items, by the numbers of their tokens.
use Rattle.std.specs.Prelude.{◌≡◌, ℕ, ◌==◌, ◌%◌, ◌^◌, ◌&&◌, false, if◌then◌else◌, List, [], ◌∷◌, ◌++◌, Option, None, Some}
use Rattle.rr_syntax.specs.Words.{keyword_begin, mark_open_parenthesis, mark_close_parenthesis, mark_not, mark_logical_and, mark_logical_or}
use Rattle.rr_lex.specs.Patch.{New, new_keyword, new_literal, new_mark, new_name}
use Rattle.rr_syntax.specs.Tree.{DeclaredName, NetAssignment, ModuleItem, ModuleDeclaration}
use Rattle.rr_syntax.specs.Items.{HasNoWords, WellFormedPair, WellFormedItem, WellFormedModule, NumberedDeclarator, NumberedPair, NumberedItem, NumberedModule}
use Rattle.rr_choice.specs.declared.pick.Pick.{Pick}
use Rattle.rr_choice.specs.Sites.{SiteKind, Site, Literal, Guard, Overwrite, guard_names}
use Rattle.rr_choice.specs.Choices.{picked_form, picked_name}
use Rattle.rr_choice.specs.Places.{is_overwrite_at}
use Rattle.rr_respell.specs.Printing.{gate_words, last_assignment, negated_name}
use Rattle.rr_respell.specs.Pieces.{Piece}
use Rattle.rr_patch.specs.Changes.{Change, changes}
use Rattle.rr_patch.specs.declared.body.Side.{Side}
use Rattle.rr_patch.specs.declared.body.Side.TheVariants.{Before, After}

abbrev pub opened_form : ℕ → List New
opened_form form = if form == 0 then new_mark mark_not ∷ (new_mark mark_open_parenthesis ∷ []) else new_mark mark_open_parenthesis ∷ []

abbrev pub opened : Option (Site × Pick) → List New
opened None = []
opened (Some (s, p)) = if p.on then opened_form (picked_form (guard_names s.kind) p.form) else []

abbrev pub closed_form : ℕ → List ℕ → List New
closed_form form name =
    if form == 0 then new_mark mark_close_parenthesis ∷ []
    else if form == 1 then new_mark mark_close_parenthesis ∷ (new_mark mark_logical_and ∷ (new_name name ∷ []))
    else if form == 2 then new_mark mark_close_parenthesis ∷ (new_mark mark_logical_and ∷ negated_name name)
    else if form == 3 then new_mark mark_close_parenthesis ∷ (new_mark mark_logical_or ∷ (new_name name ∷ []))
    else new_mark mark_close_parenthesis ∷ (new_mark mark_logical_or ∷ negated_name name)

abbrev pub closed : Option (Site × Pick) → List New
closed None = []
closed (Some (s, p)) = if p.on then closed_form (picked_form (guard_names s.kind) p.form) (picked_name (guard_names s.kind) p.name) else []

-- of a site that is on, before a body or after it: `begin`, and `if (g) v <= C; end`
abbrev pub round_of : Side → SiteKind → Pick → List New
round_of side (Literal width signed) p = []
round_of side (Guard owner extent names) p = []
round_of Before (Overwrite owner target width now names) p = new_keyword keyword_begin ∷ []
round_of After (Overwrite owner target width now names) p =
    last_assignment (gate_words (picked_form names p.form) (picked_name names p.name)) target now (new_literal width false (p.value % 2 ^ width))

abbrev pub round_at : Side → ℕ → Site → Pick → List New
round_at side token s p = if is_overwrite_at token s && p.on then round_of side s.kind p else []

-- of all sites at a body with that first token
unfoldable pub rounds : Side → ℕ → List Site → List Pick → List New
rounds side token [] ps = []
rounds side token (s ∷ ss) [] = []
rounds side token (s ∷ ss) (p ∷ ps) = round_at side token s p ++ rounds side token ss ps

-- the changes of pieces have come to others, whatever number the first token of their part has by the numbers in the part
abbrev pub Adds : List Change → List Change → (ℕ → Type 0) → List Piece → Type 0
Adds old new IsAt xs = (at : ℕ) → IsAt at → new ≡ old ++ changes at xs

-- a net whose first token has that number, and each leaf and name the number of its token; it is no memory
abbrev pub NetAt : DeclaredName → ℕ → Type 0
NetAt n at = HasNoWords n × NumberedDeclarator n at

-- a well-formed part whose first token has that number, and each leaf and name the number of its token
abbrev pub PairAt : NetAssignment → ℕ → Type 0
PairAt p at = WellFormedPair p × NumberedPair p at

abbrev pub ItemAt : ModuleItem → ℕ → Type 0
ItemAt i at = WellFormedItem i × NumberedItem i at

abbrev pub ModuleAt : ModuleDeclaration → ℕ → Type 0
ModuleAt m at = WellFormedModule m × NumberedModule m at
