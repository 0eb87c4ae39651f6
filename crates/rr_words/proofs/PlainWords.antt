-- Plain words are the command that they spell.
use Rattle.std.proofs.Common.{◌≡◌, ◌∙◌, ◌++◌, false, List, [], ◌∷◌, Some, refl, sym, ap, ap₂, is_some}
use Rattle.std.specs.Prelude.{fold, find, option_map}
use Rattle.std.specs.Option.{option_map_or}
use Rattle.clap.specs.Walk.{Names, Rule, Text, Walk, answers_to, finished, nothing_held, rows_after, settled, walk_from, walked}
use Rattle.clap.specs.Simple.{Shape, built, entered, label_of, names_of, rows_at, subcommand_of}
use Rattle.clap.specs.Faults.{check_fault, defaults_fault, entered_fault, fault_of, level_fault, settle_fault, turn_fault, walk_fault}
use Rattle.clap.specs.Kinds.{or_else}
use Rattle.clap.proofs.FaultLemmas.{stopped_fault}
use Rattle.clap.proofs.OnLiterals.{clap_on_literals}
use Rattle.rr_words.specs.Line.{tool}

abbrev pub root : Shape
root = (built tool).top

abbrev pub commands : Names
commands = names_of (built tool)

-- a word that names a command of this shape
pub record IsCommand (word : Text) (s : Shape) : Type 0 where
  pub first : walked root.rules commands (walk_from nothing_held) word ≡ record (walk_from nothing_held) { stopped = Some (word, []) }
  pub first_fault : turn_fault root commands (walk_from nothing_held) word ≡ []
  pub found : find (λ x. answers_to word (label_of x)) (built tool).subs ≡ Some s

nothing_more : {X : Type 0} (xs : List X) → xs ++ [] ≡ xs
nothing_more [] = refl
nothing_more (x ∷ xs) = ap (λ ys. x ∷ ys) (nothing_more xs)

snoc_append : {X : Type 0} (xs : List X) (y : X) (ys : List X) → (xs ++ y ∷ []) ++ ys ≡ xs ++ y ∷ ys
snoc_append [] y ys = refl
snoc_append (x ∷ xs) y ys = ap (λ zs. x ∷ zs) (snoc_append xs y ys)

-- a walk that has stopped takes the rest of the words
stops : (c : List Rule) (names : Names) (w : Walk) (n : Text) (taken words : List Text) → fold (walked c names) (record w { stopped = Some (n, taken) }) words ≡ record w { stopped = Some (n, taken ++ words) }
unfolding walked
stops c names w n taken [] = ap (λ xs. record w { stopped = Some (n, xs) }) (sym (nothing_more taken))
stops c names w n taken (x ∷ xs) = stops c names w n (taken ++ x ∷ []) xs ∙ ap (λ ys. record w { stopped = Some (n, ys) }) (snoc_append taken x xs)

walk_end : (word : Text) (s : Shape) (rest : List Text) → IsCommand word s → fold (walked root.rules commands) (walk_from nothing_held) (word ∷ rest) ≡ record (walk_from nothing_held) { stopped = Some (word, rest) }
walk_end word s rest is = ap (λ w. fold (walked root.rules commands) w rest) is.first ∙ stops root.rules commands (walk_from nothing_held) word [] rest

pub command_rows : (word prog : Text) (s : Shape) (rest : List Text) → IsCommand word s → subcommand_of tool (prog ∷ word ∷ rest) ≡ Some (s.name, rows_after s.rules [] rest)
command_rows word prog s rest is =
    ap (λ w. entered (built tool) w.stopped) (walk_end word s rest is) ∙ ap (option_map (λ x. rows_at x rest)) is.found

walk_free : (word : Text) (s : Shape) (rest : List Text) → IsCommand word s → walk_fault root commands (walk_from nothing_held) (word ∷ rest) ≡ []
unfolding walk_fault
walk_free word s rest is = ap₂ or_else is.first_fault (ap (λ w. walk_fault root commands w rest) is.first ∙ stopped_fault root commands (walk_from nothing_held) (word, []) rest)

pub command_passes : (word prog : Text) (s : Shape) (rest : List Text) → IsCommand word s → level_fault s [] nothing_held rest false [] ≡ [] → fault_of tool (prog ∷ word ∷ rest) ≡ []
unfolding clap_on_literals
command_passes word prog s rest is below =
    ap₂ or_else (walk_free word s rest is)
    (ap (λ w. or_else (entered_fault (built tool) w.stopped) (or_else (settle_fault root.rules root.args_override_self w.held) (or_else (defaults_fault (settled root.rules w.held).rows root.rules) (check_fault root (finished root.rules w.held) (is_some (entered (built tool) w.stopped)))))) (walk_end word s rest is)
    ∙ (ap (λ o. or_else (option_map_or (λ x. level_fault x [] nothing_held rest false []) o []) (or_else [] (or_else [] (check_fault root [] (is_some (option_map (λ x. rows_at x rest) o)))))) is.found
    ∙ ap (λ k. or_else k []) below))
