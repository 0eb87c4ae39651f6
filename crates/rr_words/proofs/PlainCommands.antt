-- Plain words are the command that they spell.
use Rattle.std.proofs.Common.{◌≡◌, ◌∙◌, ◌≤◌, ◌⊎◌, ◌∷◌, ℕ, false, not, List, [], length, map, Some, None, refl, sym, ap, ap₂, inl, inr, arith, Result, Ok, Err, MatchResult}
use Rattle.std.specs.Prelude.{codes, option_and_then, slice_get, unwrap_or}
use Rattle.std.specs.Str.{bytes_eq}
use Rattle.clap.specs.Walk.{Row, Text, first_of, nothing_held}
use Rattle.clap.specs.Simple.{Shape, built, subcommand_of}
use Rattle.clap.specs.Faults.{fault_of}
use Rattle.clap.proofs.OnLiterals.{clap_on_literals}
use Rattle.rr_words.specs.Line.{tool}
use Rattle.rr_words.specs.Plan.{Plan, command_of, lint, make, plan_of, most_seed, number_of, number_or, read_of, repair, run, sites, where_taken}
use Rattle.rr_words.specs.Plan.{check}
use Rattle.rr_words.specs.declared.read.Command.{Command}
use Rattle.rr_words.specs.declared.read.WordsFault.{WordsFault}
use Rattle.rr_words.specs.declared.read.WordsFault.TheVariants.{Memory}
use Rattle.rr_words.specs.Plain.{ArePlain, IsAmongIds, IsPlain, Part, apart, design_options, given, joined, name, names_in, repair_options, top_option, words_of}
use Rattle.rr_words.proofs.Walks.{Holds, TakesNames, TakesOption, pair_row, pairs, walk_all}
use Rattle.rr_words.proofs.Leaves.{AllGiven, AreApart, Distinct, HasNames, IsLeaf, first_value, fresh_all, is_given_value, leaf_passes, leaf_rows, name_value, option_value, value_of, zipped}
use Rattle.rr_words.proofs.PlainWords.{IsCommand, command_passes, command_rows, root}

pub has_names : (ns : List Text) (parts : List Part) → length (names_in parts) ≤ length ns → HasNames ns parts
has_names ns [] few = tt
has_names [] (name v ∷ ps) few = absurd (omega arith)
has_names (n ∷ ns) (name v ∷ ps) few = has_names ns ps (omega arith)
has_names ns (apart id v ∷ ps) few = has_names ns ps few
has_names ns (joined id v ∷ ps) few = has_names ns ps few

-- what a command is made of
pub record IsMade (word : Text) (s : Shape) (ids ns : List Text) : Type 0 where
  pub command : IsCommand word s
  pub leaf : IsLeaf s
  pub names : TakesNames s 1 ns
  pub options : (id : Text) → IsAmongIds id ids → TakesOption s id
  pub distinct : Distinct ns
  pub away : AreApart ns ids

pub found_rows : (word program : Text) (s : Shape) (ids ns : List Text) (parts : List Part) → IsMade word s ids ns → HasNames ns parts → ArePlain ids parts → AllGiven (map pair_row (pairs ns parts)) s.rules
    → (fault_of tool (program ∷ word ∷ words_of parts) ≡ []) × (subcommand_of tool (program ∷ word ∷ words_of parts) ≡ Some (s.name, map pair_row (pairs ns parts)))
found_rows word program s ids ns parts made enough plain all =
    let fresh = fresh_all ids (λ id a. (made.options id a).itself) ns [] parts enough made.distinct made.away (λ n a. refl) (λ id a. inl refl) plain in
    let start : Holds s nothing_held [] = record { rows_are = refl; no_fault = refl } in
    let ends = walk_all s ids made.options ns 1 nothing_held [] parts made.names start plain fresh in (
      command_passes word program s (words_of parts) made.command (leaf_passes s (words_of parts) (map pair_row (pairs ns parts)) ends made.leaf all),
      command_rows word program s (words_of parts) made.command ∙ ap (λ r. Some (s.name, r)) (leaf_rows s (words_of parts) (map pair_row (pairs ns parts)) ends made.leaf),
    )

pub plan_is : (words : List Text) (n : Text) (rows : List Row) → (fault_of tool words ≡ []) × (subcommand_of tool words ≡ Some (n, rows)) → command_of words ≡ read_of n rows
plan_is words n rows found = ap₂ where_taken found.0 (ap (option_and_then (λ p. read_of p.0 p.1)) found.1)

-- ---- repair

abbrev pub shape : ℕ → Shape
shape i = unwrap_or (slice_get (built tool).subs i) root

abbrev pub repair_names : List Text
repair_names = codes "design" ∷ codes "table" ∷ codes "cert" ∷ []

repair_option : (id : Text) → (id ≡ codes "top") ⊎ ((id ≡ codes "clock") ⊎ ((id ≡ codes "budget") ⊎ ((id ≡ codes "members") ⊎ ⊥))) → TakesOption (shape 0) id
unfolding clap_on_literals
repair_option id (inl e) = rw e (record { by_long = refl; by_id = refl; alone = refl; with_equals = λ v. refl; no_end = refl; no_end_with = λ v. refl; itself = refl })
repair_option id (inr (inl e)) = rw e (record { by_long = refl; by_id = refl; alone = refl; with_equals = λ v. refl; no_end = refl; no_end_with = λ v. refl; itself = refl })
repair_option id (inr (inr (inl e))) = rw e (record { by_long = refl; by_id = refl; alone = refl; with_equals = λ v. refl; no_end = refl; no_end_with = λ v. refl; itself = refl })
repair_option id (inr (inr (inr (inl e)))) = rw e (record { by_long = refl; by_id = refl; alone = refl; with_equals = λ v. refl; no_end = refl; no_end_with = λ v. refl; itself = refl })
repair_option id (inr (inr (inr (inr none)))) = absurd none

repair_command : IsCommand (codes "repair") (shape 0)
unfolding clap_on_literals
repair_command = record { first = refl; first_fault = refl; found = refl }

repair_leaf : IsLeaf (shape 0)
repair_leaf = record { no_help = refl; no_subcommand = refl; no_negation = refl; no_defaults = (refl, (refl, (refl, (refl, (refl, (refl, (refl, tt))))))) }

repair_distinct : Distinct repair_names
repair_distinct = (
  (λ m a. elim a [ inl e ↦ rw e refl | inr b ↦ elim b [ inl e ↦ rw e refl | inr c ↦ absurd c ] ]),
  ((λ m a. elim a [ inl e ↦ rw e refl | inr b ↦ absurd b ]), ((λ m a. absurd a), tt)),
)

-- no option is named as a name
away_from : (n id : Text) → (bytes_eq n (codes "top") ≡ false) × (bytes_eq n (codes "clock") ≡ false) × (bytes_eq n (codes "budget") ≡ false) × (bytes_eq n (codes "members") ≡ false)
    → (bytes_eq (codes "top") n ≡ false) × (bytes_eq (codes "clock") n ≡ false) × (bytes_eq (codes "budget") n ≡ false) × (bytes_eq (codes "members") n ≡ false)
    → IsAmongIds id repair_options → (bytes_eq n id ≡ false) × (bytes_eq id n ≡ false)
away_from n id there back a = elim a [
  | inl e ↦ rw e (there.0, back.0)
  | inr b ↦ elim b [
    | inl e ↦ rw e (there.1, back.1)
    | inr c ↦ elim c [
      | inl e ↦ rw e (there.2, back.2)
      | inr d ↦ elim d [ inl e ↦ rw e (there.3, back.3) | inr none ↦ absurd none ]
    ]
  ]
]

repair_away : AreApart repair_names repair_options
repair_away n id a b = elim a [
  | inl e ↦ rw e (away_from (codes "design") id (refl, refl, refl, refl) (refl, refl, refl, refl) b)
  | inr c ↦ elim c [
    | inl e ↦ rw e (away_from (codes "table") id (refl, refl, refl, refl) (refl, refl, refl, refl) b)
    | inr d ↦ elim d [
      | inl e ↦ rw e (away_from (codes "cert") id (refl, refl, refl, refl) (refl, refl, refl, refl) b)
      | inr none ↦ absurd none
    ]
  ]
]

repair_made : IsMade (codes "repair") (shape 0) repair_options repair_names
repair_made = record {
  command = repair_command;
  leaf = repair_leaf;
  names = ((refl, refl, refl, (refl, refl, refl, (refl, refl, refl, tt))));
  options = repair_option;
  distinct = repair_distinct;
  away = repair_away;
}

other_names : (id n : Text) → bytes_eq (codes "design") id ≡ false → bytes_eq (codes "table") id ≡ false → bytes_eq (codes "cert") id ≡ false → IsAmongIds n repair_names → bytes_eq n id ≡ false
other_names id n d t c a = elim a [
  | inl e ↦ rw e d
  | inr b ↦ elim b [ inl e ↦ rw e t | inr f ↦ elim f [ inl e ↦ rw e c | inr none ↦ absurd none ] ]
]

pub repair_plain : (program design table cert : Text) (budget members : ℕ) (parts : List Part) → ArePlain repair_options parts → names_in parts ≡ design ∷ table ∷ cert ∷ []
    → number_or 20000 1 1000000 (given (codes "budget") parts) ≡ Some budget → number_or 4 1 8 (given (codes "members") parts) ≡ Some members
    → command_of (program ∷ codes "repair" ∷ words_of parts) ≡ Some (repair design table cert (given (codes "top") parts) (given (codes "clock") parts) budget members)
repair_plain program design table cert budget members parts plain names b m =
    let few : length (names_in parts) ≤ 3 = rw names (omega arith) in
    let enough = has_names repair_names parts few in
    let ps = pairs repair_names parts in
    let named : (id x : Text) → ((o : Text) → IsAmongIds o repair_options → bytes_eq o id ≡ false) → value_of id (zipped repair_names (design ∷ table ∷ cert ∷ [])) ≡ Some x → value_of id ps ≡ Some x =
    λ id x other at. name_value repair_options id repair_names parts enough plain other ∙ (ap (λ vs. value_of id (zipped repair_names vs)) names ∙ at) in
    let d = named (codes "design") design (λ o a. (repair_away (codes "design") o (inl refl) a).1) refl in
    let t = named (codes "table") table (λ o a. (repair_away (codes "table") o (inr (inl refl)) a).1) refl in
    let c = named (codes "cert") cert (λ o a. (repair_away (codes "cert") o (inr (inr (inl refl))) a).1) refl in
    let all : AllGiven (map pair_row ps) (shape 0).rules = (
      ap not (is_given_value (codes "design") design ps d),
      (ap not (is_given_value (codes "table") table ps t), (ap not (is_given_value (codes "cert") cert ps c), (refl, (refl, (refl, (refl, tt)))))),
    ) in
    let found = found_rows (codes "repair") program (shape 0) repair_options repair_names parts repair_made enough plain all in
    let top = first_value (codes "top") ps ∙ option_value (codes "top") repair_names parts enough (λ n a. other_names (codes "top") n refl refl refl a) in
    let clock = first_value (codes "clock") ps ∙ option_value (codes "clock") repair_names parts enough (λ n a. other_names (codes "clock") n refl refl refl a) in
    let budget_text = first_value (codes "budget") ps ∙ option_value (codes "budget") repair_names parts enough (λ n a. other_names (codes "budget") n refl refl refl a) in
    let members_text = first_value (codes "members") ps ∙ option_value (codes "members") repair_names parts enough (λ n a. other_names (codes "members") n refl refl refl a) in
    plan_is (program ∷ codes "repair" ∷ words_of parts) (codes "repair") (map pair_row ps) found
    ∙ read (map pair_row ps) (first_value (codes "design") ps ∙ d) (first_value (codes "table") ps ∙ t) (first_value (codes "cert") ps ∙ c) top clock (ap (number_or 20000 1 1000000) budget_text ∙ b) (ap (number_or 4 1 8) members_text ∙ m)
  where
    read : (rows : List Row) → first_of (codes "design") rows ≡ Some design → first_of (codes "table") rows ≡ Some table → first_of (codes "cert") rows ≡ Some cert
        → first_of (codes "top") rows ≡ given (codes "top") parts → first_of (codes "clock") rows ≡ given (codes "clock") parts
        → number_or 20000 1 1000000 (first_of (codes "budget") rows) ≡ Some budget → number_or 4 1 8 (first_of (codes "members") rows) ≡ Some members
        → read_of (codes "repair") rows ≡ Some (repair design table cert (given (codes "top") parts) (given (codes "clock") parts) budget members)
    read rows d t c top clock b m = rw (d, t, c, b, m, top, clock) refl

-- ---- run

abbrev pub run_names : List Text
run_names = codes "design" ∷ codes "table" ∷ []

run_command : IsCommand (codes "run") (shape 1)
unfolding clap_on_literals
run_command = record { first = refl; first_fault = refl; found = refl }

run_leaf : IsLeaf (shape 1)
run_leaf = record { no_help = refl; no_subcommand = refl; no_negation = refl; no_defaults = (refl, (refl, (refl, (refl, tt)))) }

run_option : (id : Text) → (id ≡ codes "top") ⊎ ((id ≡ codes "clock") ⊎ ⊥) → TakesOption (shape 1) id
unfolding clap_on_literals
run_option id (inl e) = rw e (record { by_long = refl; by_id = refl; alone = refl; with_equals = λ v. refl; no_end = refl; no_end_with = λ v. refl; itself = refl })
run_option id (inr (inl e)) = rw e (record { by_long = refl; by_id = refl; alone = refl; with_equals = λ v. refl; no_end = refl; no_end_with = λ v. refl; itself = refl })
run_option id (inr (inr none)) = absurd none

run_distinct : Distinct run_names
run_distinct = ((λ m a. elim a [ inl e ↦ rw e refl | inr b0 ↦ absurd b0 ]), ((λ m a. absurd a), tt))

run_design_away : (id : Text) → IsAmongIds id design_options → (bytes_eq (codes "design") id ≡ false) × (bytes_eq id (codes "design") ≡ false)
run_design_away id b = elim b [ inl f ↦ rw f (refl, refl) | inr y0 ↦ elim y0 [ inl f ↦ rw f (refl, refl) | inr y1 ↦ absurd y1 ] ]

run_table_away : (id : Text) → IsAmongIds id design_options → (bytes_eq (codes "table") id ≡ false) × (bytes_eq id (codes "table") ≡ false)
run_table_away id b = elim b [ inl f ↦ rw f (refl, refl) | inr y0 ↦ elim y0 [ inl f ↦ rw f (refl, refl) | inr y1 ↦ absurd y1 ] ]

run_away : AreApart run_names design_options
run_away n id a b = elim a [ inl e ↦ rw e (run_design_away id b) | inr x0 ↦ elim x0 [ inl e ↦ rw e (run_table_away id b) | inr x1 ↦ absurd x1 ] ]

run_made : IsMade (codes "run") (shape 1) design_options run_names
run_made = record { command = run_command; leaf = run_leaf; names = (refl, refl, refl, (refl, refl, refl, tt)); options = run_option; distinct = run_distinct; away = run_away }

-- ---- sites

abbrev pub sites_names : List Text
sites_names = codes "design" ∷ []

sites_command : IsCommand (codes "sites") (shape 2)
unfolding clap_on_literals
sites_command = record { first = refl; first_fault = refl; found = refl }

sites_leaf : IsLeaf (shape 2)
sites_leaf = record { no_help = refl; no_subcommand = refl; no_negation = refl; no_defaults = (refl, (refl, (refl, tt))) }

sites_option : (id : Text) → (id ≡ codes "top") ⊎ ((id ≡ codes "clock") ⊎ ⊥) → TakesOption (shape 2) id
unfolding clap_on_literals
sites_option id (inl e) = rw e (record { by_long = refl; by_id = refl; alone = refl; with_equals = λ v. refl; no_end = refl; no_end_with = λ v. refl; itself = refl })
sites_option id (inr (inl e)) = rw e (record { by_long = refl; by_id = refl; alone = refl; with_equals = λ v. refl; no_end = refl; no_end_with = λ v. refl; itself = refl })
sites_option id (inr (inr none)) = absurd none

sites_distinct : Distinct sites_names
sites_distinct = ((λ m a. absurd a), tt)

sites_design_away : (id : Text) → IsAmongIds id design_options → (bytes_eq (codes "design") id ≡ false) × (bytes_eq id (codes "design") ≡ false)
sites_design_away id b = elim b [ inl f ↦ rw f (refl, refl) | inr y0 ↦ elim y0 [ inl f ↦ rw f (refl, refl) | inr y1 ↦ absurd y1 ] ]

sites_away : AreApart sites_names design_options
sites_away n id a b = elim a [ inl e ↦ rw e (sites_design_away id b) | inr x0 ↦ absurd x0 ]

sites_made : IsMade (codes "sites") (shape 2) design_options sites_names
sites_made = record { command = sites_command; leaf = sites_leaf; names = (refl, refl, refl, tt); options = sites_option; distinct = sites_distinct; away = sites_away }

-- ---- check

abbrev pub check_names : List Text
check_names = codes "circuit" ∷ codes "proof" ∷ []

check_command : IsCommand (codes "check") (shape 3)
unfolding clap_on_literals
check_command = record { first = refl; first_fault = refl; found = refl }

check_leaf : IsLeaf (shape 3)
check_leaf = record { no_help = refl; no_subcommand = refl; no_negation = refl; no_defaults = (refl, (refl, tt)) }

check_distinct : Distinct check_names
check_distinct = ((λ m a. elim a [ inl e ↦ rw e refl | inr b0 ↦ absurd b0 ]), ((λ m a. absurd a), tt))

check_away : AreApart check_names []
check_away n id a b = absurd b

check_made : IsMade (codes "check") (shape 3) [] check_names
check_made = record { command = check_command; leaf = check_leaf; names = (refl, refl, refl, (refl, refl, refl, tt)); options = (λ id a. absurd a); distinct = check_distinct; away = check_away }

-- ---- make

abbrev pub make_names : List Text
make_names = codes "seed" ∷ codes "cert" ∷ []

make_command : IsCommand (codes "make") (shape 4)
unfolding clap_on_literals
make_command = record { first = refl; first_fault = refl; found = refl }

make_leaf : IsLeaf (shape 4)
make_leaf = record { no_help = refl; no_subcommand = refl; no_negation = refl; no_defaults = (refl, (refl, tt)) }

make_distinct : Distinct make_names
make_distinct = ((λ m a. elim a [ inl e ↦ rw e refl | inr b0 ↦ absurd b0 ]), ((λ m a. absurd a), tt))

make_away : AreApart make_names []
make_away n id a b = absurd b

make_made : IsMade (codes "make") (shape 4) [] make_names
make_made = record { command = make_command; leaf = make_leaf; names = (refl, refl, refl, (refl, refl, refl, tt)); options = (λ id a. absurd a); distinct = make_distinct; away = make_away }

-- ---- lint

lint_command : IsCommand (codes "lint") (shape 5)
unfolding clap_on_literals
lint_command = record { first = refl; first_fault = refl; found = refl }

lint_leaf : IsLeaf (shape 5)
lint_leaf = record { no_help = refl; no_subcommand = refl; no_negation = refl; no_defaults = (refl, (refl, tt)) }

lint_option : (id : Text) → (id ≡ codes "top") ⊎ ⊥ → TakesOption (shape 5) id
unfolding clap_on_literals
lint_option id (inl e) = rw e (record { by_long = refl; by_id = refl; alone = refl; with_equals = λ v. refl; no_end = refl; no_end_with = λ v. refl; itself = refl })
lint_option id (inr none) = absurd none

lint_design_away : (id : Text) → IsAmongIds id top_option → (bytes_eq (codes "design") id ≡ false) × (bytes_eq id (codes "design") ≡ false)
lint_design_away id b = elim b [ inl f ↦ rw f (refl, refl) | inr y0 ↦ absurd y0 ]

lint_away : AreApart sites_names top_option
lint_away n id a b = elim a [ inl e ↦ rw e (lint_design_away id b) | inr x0 ↦ absurd x0 ]

lint_made : IsMade (codes "lint") (shape 5) top_option sites_names
lint_made = record { command = lint_command; leaf = lint_leaf; names = (refl, refl, refl, tt); options = lint_option; distinct = sites_distinct; away = lint_away }

named_value : (ids ns vs : List Text) (parts : List Part) → HasNames ns parts → ArePlain ids parts → names_in parts ≡ vs → (id x : Text) → ((o : Text) → IsAmongIds o ids → bytes_eq o id ≡ false) → value_of id (zipped ns vs) ≡ Some x
    → value_of id (pairs ns parts) ≡ Some x
named_value ids ns vs parts enough plain names id x other at = name_value ids id ns parts enough plain other ∙ (ap (λ ws. value_of id (zipped ns ws)) names ∙ at)

pub run_plain : (program design table : Text) (parts : List Part) → ArePlain design_options parts → names_in parts ≡ design ∷ table ∷ []
    → command_of (program ∷ codes "run" ∷ words_of parts) ≡ Some (run design table (given (codes "top") parts) (given (codes "clock") parts))
run_plain program design table parts plain names =
    let few : length (names_in parts) ≤ 2 = rw names (omega arith) in
    let enough = has_names run_names parts few in
    let ps = pairs run_names parts in
    let d = named_value design_options run_names (design ∷ table ∷ []) parts enough plain names (codes "design") design (λ o a. (run_design_away o a).1) refl in
    let t = named_value design_options run_names (design ∷ table ∷ []) parts enough plain names (codes "table") table (λ o a. (run_table_away o a).1) refl in
    let all : AllGiven (map pair_row ps) (shape 1).rules = (ap not (is_given_value (codes "design") design ps d), (ap not (is_given_value (codes "table") table ps t), (refl, (refl, tt)))) in
    let found = found_rows (codes "run") program (shape 1) design_options run_names parts run_made enough plain all in
    let top = first_value (codes "top") ps ∙ option_value (codes "top") run_names parts enough (λ n a. (run_away n (codes "top") a (inl refl)).0) in
    let clock = first_value (codes "clock") ps ∙ option_value (codes "clock") run_names parts enough (λ n a. (run_away n (codes "clock") a (inr (inl refl))).0) in
    plan_is (program ∷ codes "run" ∷ words_of parts) (codes "run") (map pair_row ps) found ∙ read (map pair_row ps) (first_value (codes "design") ps ∙ d) (first_value (codes "table") ps ∙ t) top clock
  where
    read : (rows : List Row) → first_of (codes "design") rows ≡ Some design → first_of (codes "table") rows ≡ Some table
        → first_of (codes "top") rows ≡ given (codes "top") parts → first_of (codes "clock") rows ≡ given (codes "clock") parts
        → read_of (codes "run") rows ≡ Some (run design table (given (codes "top") parts) (given (codes "clock") parts))
    read rows d t top clock = rw (d, t, top, clock) refl

pub sites_plain : (program design : Text) (parts : List Part) → ArePlain design_options parts → names_in parts ≡ design ∷ []
    → command_of (program ∷ codes "sites" ∷ words_of parts) ≡ Some (sites design (given (codes "top") parts) (given (codes "clock") parts))
sites_plain program design parts plain names =
    let few : length (names_in parts) ≤ 1 = rw names (omega arith) in
    let enough = has_names sites_names parts few in
    let ps = pairs sites_names parts in
    let d = named_value design_options sites_names (design ∷ []) parts enough plain names (codes "design") design (λ o a. (sites_design_away o a).1) refl in
    let all : AllGiven (map pair_row ps) (shape 2).rules = (ap not (is_given_value (codes "design") design ps d), (refl, (refl, tt))) in
    let found = found_rows (codes "sites") program (shape 2) design_options sites_names parts sites_made enough plain all in
    let top = first_value (codes "top") ps ∙ option_value (codes "top") sites_names parts enough (λ n a. (sites_away n (codes "top") a (inl refl)).0) in
    let clock = first_value (codes "clock") ps ∙ option_value (codes "clock") sites_names parts enough (λ n a. (sites_away n (codes "clock") a (inr (inl refl))).0) in
    plan_is (program ∷ codes "sites" ∷ words_of parts) (codes "sites") (map pair_row ps) found ∙ read (map pair_row ps) (first_value (codes "design") ps ∙ d) top clock
  where
    read : (rows : List Row) → first_of (codes "design") rows ≡ Some design
        → first_of (codes "top") rows ≡ given (codes "top") parts → first_of (codes "clock") rows ≡ given (codes "clock") parts
        → read_of (codes "sites") rows ≡ Some (sites design (given (codes "top") parts) (given (codes "clock") parts))
    read rows d top clock = rw (d, top, clock) refl

pub check_plain : (program circuit proof : Text) (parts : List Part) → ArePlain [] parts → names_in parts ≡ circuit ∷ proof ∷ []
    → command_of (program ∷ codes "check" ∷ words_of parts) ≡ Some (check circuit proof)
check_plain program circuit proof parts plain names =
    let few : length (names_in parts) ≤ 2 = rw names (omega arith) in
    let enough = has_names check_names parts few in
    let ps = pairs check_names parts in
    let c = named_value [] check_names (circuit ∷ proof ∷ []) parts enough plain names (codes "circuit") circuit (λ o a. absurd a) refl in
    let p = named_value [] check_names (circuit ∷ proof ∷ []) parts enough plain names (codes "proof") proof (λ o a. absurd a) refl in
    let all : AllGiven (map pair_row ps) (shape 3).rules = (ap not (is_given_value (codes "circuit") circuit ps c), (ap not (is_given_value (codes "proof") proof ps p), tt)) in
    let found = found_rows (codes "check") program (shape 3) [] check_names parts check_made enough plain all in
    plan_is (program ∷ codes "check" ∷ words_of parts) (codes "check") (map pair_row ps) found ∙ read (map pair_row ps) (first_value (codes "circuit") ps ∙ c) (first_value (codes "proof") ps ∙ p)
  where
    read : (rows : List Row) → first_of (codes "circuit") rows ≡ Some circuit → first_of (codes "proof") rows ≡ Some proof → read_of (codes "check") rows ≡ Some (check circuit proof)
    read rows c p = rw (c, p) refl

pub make_plain : (program text cert : Text) (seed : ℕ) (parts : List Part) → ArePlain [] parts → names_in parts ≡ text ∷ cert ∷ [] → number_of 0 most_seed text ≡ Some seed
    → command_of (program ∷ codes "make" ∷ words_of parts) ≡ Some (make seed cert)
make_plain program text cert seed parts plain names number =
    let few : length (names_in parts) ≤ 2 = rw names (omega arith) in
    let enough = has_names make_names parts few in
    let ps = pairs make_names parts in
    let t = named_value [] make_names (text ∷ cert ∷ []) parts enough plain names (codes "seed") text (λ o a. absurd a) refl in
    let c = named_value [] make_names (text ∷ cert ∷ []) parts enough plain names (codes "cert") cert (λ o a. absurd a) refl in
    let all : AllGiven (map pair_row ps) (shape 4).rules = (ap not (is_given_value (codes "seed") text ps t), (ap not (is_given_value (codes "cert") cert ps c), tt)) in
    let found = found_rows (codes "make") program (shape 4) [] make_names parts make_made enough plain all in
    plan_is (program ∷ codes "make" ∷ words_of parts) (codes "make") (map pair_row ps) found ∙ read (map pair_row ps) (first_value (codes "seed") ps ∙ t) (first_value (codes "cert") ps ∙ c)
  where
    read : (rows : List Row) → first_of (codes "seed") rows ≡ Some text → first_of (codes "cert") rows ≡ Some cert → read_of (codes "make") rows ≡ Some (make seed cert)
    read rows t c = rw (t, c, number) refl

pub lint_plain : (program design : Text) (parts : List Part) → ArePlain top_option parts → names_in parts ≡ design ∷ []
    → command_of (program ∷ codes "lint" ∷ words_of parts) ≡ Some (lint design (given (codes "top") parts))
lint_plain program design parts plain names =
    let few : length (names_in parts) ≤ 1 = rw names (omega arith) in
    let enough = has_names sites_names parts few in
    let ps = pairs sites_names parts in
    let d = named_value top_option sites_names (design ∷ []) parts enough plain names (codes "design") design (λ o a. (lint_design_away o a).1) refl in
    let all : AllGiven (map pair_row ps) (shape 5).rules = (ap not (is_given_value (codes "design") design ps d), (refl, tt)) in
    let found = found_rows (codes "lint") program (shape 5) top_option sites_names parts lint_made enough plain all in
    let top = first_value (codes "top") ps ∙ option_value (codes "top") sites_names parts enough (λ n a. (lint_away n (codes "top") a (inl refl)).0) in
    plan_is (program ∷ codes "lint" ∷ words_of parts) (codes "lint") (map pair_row ps) found ∙ read (map pair_row ps) (first_value (codes "design") ps ∙ d) top
  where
    read : (rows : List Row) → first_of (codes "design") rows ≡ Some design → first_of (codes "top") rows ≡ given (codes "top") parts
        → read_of (codes "lint") rows ≡ Some (lint design (given (codes "top") parts))
    read rows d top = rw (d, top) refl

-- plain words are the command that they spell
pub plain_command : (words : List Text) (p : Plan) → IsPlain words p → command_of words ≡ Some p
plain_command words (repair design table cert top clock budget members) (parts, spells, t, c, b, m) =
    ap command_of spells.1 ∙ (repair_plain spells.0 design table cert budget members parts spells.2 spells.3 b m ∙ ap₂ (λ x y. Some (repair design table cert x y budget members)) t c)
plain_command words (run design table top clock) (parts, spells, t, c) =
    ap command_of spells.1 ∙ (run_plain spells.0 design table parts spells.2 spells.3 ∙ ap₂ (λ x y. Some (run design table x y)) t c)
plain_command words (sites design top clock) (parts, spells, t, c) =
    ap command_of spells.1 ∙ (sites_plain spells.0 design parts spells.2 spells.3 ∙ ap₂ (λ x y. Some (sites design x y)) t c)
plain_command words (check circuit proof) (parts, spells) = ap command_of spells.1 ∙ check_plain spells.0 circuit proof parts spells.2 spells.3
plain_command words (make seed cert) (parts, text, spells, number) = ap command_of spells.1 ∙ make_plain spells.0 text cert seed parts spells.2 spells.3 number
plain_command words (lint design top) (parts, spells, t) = ap command_of spells.1 ∙ (lint_plain spells.0 design parts spells.2 spells.3 ∙ ap (λ x. Some (lint design x)) t)

pub plain_plan : (words : List Text) (p q : Plan) → IsPlain words p → command_of words ≡ Some q → q ≡ p
plain_plan words p q plain is = let same : Some q ≡ Some p = sym is ∙ plain_command words p plain in cc

pub plain_taken : {X : Type 0} (words : List Text) (p : Plan) → IsPlain words p → command_of words ≡ None → X
plain_taken words p plain none = let no : None ≡ Some p = sym none ∙ plain_command words p plain in cc

-- a result that is the command of plain words is the plan that they spell, or memory ran out
pub plain_result : (words : List Text) (r : Result Command WordsFault) → MatchResult r (λ c. command_of words ≡ Some (plan_of c)) (λ e. (e ≡ Memory) ⊎ (command_of words ≡ None)) → (p : Plan) → IsPlain words p
    → MatchResult r (λ c. plan_of c ≡ p) (λ e. e ≡ Memory)
plain_result words (Ok c) is p plain = plain_plan words p (plan_of c) plain is
plain_result words (Err e) (inl memory) p plain = memory
plain_result words (Err e) (inr none) p plain = plain_taken words p plain none

-- plain words exist
pub plain_example : IsPlain (codes "p" ∷ codes "sites" ∷ codes "--top=m" ∷ codes "d" ∷ codes "--clock" ∷ codes "c" ∷ []) (sites (codes "d") (Some (codes "m")) (Some (codes "c")))
plain_example = (
  joined (codes "top") (codes "m") ∷ name (codes "d") ∷ apart (codes "clock") (codes "c") ∷ [],
  (codes "p", refl, (refl, inl refl, refl, (refl, (refl, inr (inl refl), refl, tt))), refl),
  refl,
  refl,
)
