-- How `clap` walks over plain words.
use Rattle.std.proofs.Common.{◌≡◌, ◌∙◌, ◌+◌, ◌++◌, ◌&&◌, ℕ, Bool, true, false, not, List, [], ◌∷◌, map, Some, None, cond, refl, sym, ap, ap₂, subst}
use Rattle.std.specs.Prelude.{fold, nat_lt, min, ⊤}
use Rattle.std.specs.Str.{bytes_eq}
use Rattle.clap.specs.Lexer.{long_of, short_of, usize_max}
use Rattle.clap.specs.Walk.{Held, Row, Rule, Text, Walk, Waiting, after_flag, after_step, arg_by_id, arg_by_index, arg_by_long, at_row, has_row, idle, is_pending, long_met, long_or_other, more_values, next, option, option_word, plain_word, pushed, settled, short_or_plain, subcommand_or_other, to_positional, trailing, used, used_by_id, walked, with_values, without}
use Rattle.clap.specs.Simple.{Shape, filled, with_index}
use Rattle.clap.specs.Faults.{bundle_fault, flag_word_fault, long_fault, other_fault, positional_fault, settle_fault, step_fault, stray_fault, turn_fault, use_fault, walk_fault}
use Rattle.clap.specs.Kinds.{or_else}
use Rattle.clap.specs.declared.error.kind.ErrorKind.TheVariants.{ArgumentConflict}
use Rattle.std.specs.Option.{option_map_or}
use Rattle.clap.specs.declared.builder.value_parser.Reading.TheVariants as reading
use Rattle.clap.specs.declared.parser.matches.ValueSource.TheVariants.{CommandLine}
use Rattle.rr_words.specs.Line.{name_rule, option_rule}
use Rattle.rr_words.specs.Plain.{ArePlain, IsAmongIds, IsPlainText, Part, apart, dashes, joined, name, words_of}

-- the rules of a name and of an option, once the command is built
abbrev pub name_built : ℕ → Text → Rule
name_built k id = with_index k (filled (name_rule id))

abbrev pub option_built : Text → Rule
option_built id = filled (option_rule id)

-- what one value of an argument leaves
abbrev pub row : Text → Text → Row
row id v = record { id = id; values = v ∷ []; count = None; source = Some CommandLine; reading = reading.AsWritten }

-- the walk between two parts
abbrev pub at : Held → ℕ → Walk
at h k = record { held = h; waiting = idle; position = k; is_trailing = false; stopped = None }

and_false : (b : Bool) → (b && false) ≡ false
and_false true = refl
and_false false = refl

-- a plain text is no flag
pub not_dashes : (v : Text) → IsPlainText v → bytes_eq v (45 ∷ 45 ∷ []) ≡ false
not_dashes [] p = absurd p
not_dashes (b ∷ bs) p = rw p refl

pub no_long : (v : Text) → IsPlainText v → long_of v ≡ None
no_long [] p = absurd p
no_long (b ∷ bs) p = rw p refl

pub no_short : (v : Text) → IsPlainText v → short_of v ≡ None
no_short [] p = absurd p
no_short (b ∷ bs) p = rw p refl

-- ---- rows

pub absent_without : (id : Text) (change : Row → List Row) (missing rows : List Row) → has_row id rows ≡ false → at_row id change missing rows ≡ rows ++ missing
absent_without id change missing [] none = refl
absent_without id change missing (r ∷ rs) none = go (bytes_eq r.id id) refl (absent_without id change missing rs)
  where
    go : (b : Bool) → bytes_eq r.id id ≡ b → (has_row id rs ≡ false → at_row id change missing rs ≡ rs ++ missing) → at_row id change missing (r ∷ rs) ≡ (r ∷ rs) ++ missing
    go true e rec = let no : true ≡ false = rw e at none in cc
    go false e rec = rw e (ap (λ xs. r ∷ xs) (rec (rw e at none)))

append_nothing : (rows : List Row) → rows ++ [] ≡ rows
append_nothing [] = refl
append_nothing (r ∷ rs) = ap (λ xs. r ∷ xs) (append_nothing rs)

pub used_name : (k : ℕ) (id v : Text) (rows : List Row) → has_row id rows ≡ false → used (name_built k id) (v ∷ []) rows ≡ rows ++ row id v ∷ []
used_name k id v rows none =
    let gone : without id rows ≡ rows = absent_without id (λ _. []) [] rows none ∙ append_nothing rows in
    ap (with_values id reading.AsWritten CommandLine (v ∷ [])) gone ∙ absent_without id (more_values CommandLine (v ∷ [])) (row id v ∷ []) rows none

pub used_option : (id v : Text) (rows : List Row) → has_row id rows ≡ false → used (option_built id) (v ∷ []) rows ≡ rows ++ row id v ∷ []
used_option id v rows none = used_name 0 id v rows none

-- ---- one part

-- between two parts, the rows once what is pending is used, which has no fault
pub record Holds (s : Shape) (h : Held) (rows : List Row) : Type 0 where
  pub rows_are : (settled s.rules h).rows ≡ rows
  pub no_fault : settle_fault s.rules s.args_override_self h ≡ []

-- the same with a value that waits for its use
abbrev pub with_value : Shape → Held → Text → Text → Held
with_value s h id v = record (settled s.rules h) { pending = Some (id, v ∷ []) }

flag_free : (c : List Rule) (w : Waiting) (v : Text) (h : Held) → IsPlainText v → long_or_other c w v (long_of v) h ≡ plain_word c w v h
flag_free c w v h p = ap (λ o. long_or_other c w v o h) (no_long v p) ∙ ap (λ o. short_or_plain c w v o h) (no_short v p)

plain_met : (c : List Rule) (w : Waiting) (k : ℕ) (v : Text) (h : Held) → IsPlainText v → subcommand_or_other c None w k v h ≡ plain_word c w v h
plain_met c w k v h p = ap (λ b. cond b (h, trailing k) (long_or_other c w v (long_of v) h)) (not_dashes v p) ∙ flag_free c w v h p

plain_fault : (s : Shape) (v : Text) (h : Held) → IsPlainText v → other_fault s None v h ≡ []
plain_fault s v h p =
    ap (λ b. cond b [] (flag_word_fault s.rules s.args_override_self (long_of v) v h)) (not_dashes v p)
    ∙ (ap (λ o. flag_word_fault s.rules s.args_override_self o v h) (no_long v p)
    ∙ ap (λ o. option_map_or (λ flags. bundle_fault s.rules s.args_override_self flags h) o []) (no_short v p))

-- a value that waits is used, as the one row more
holds_value : (s : Shape) (h : Held) (rows : List Row) (a : Rule) (v : Text) → Holds s h rows → arg_by_id s.rules a.id ≡ Some a
    → used a (v ∷ []) rows ≡ rows ++ row a.id v ∷ [] → use_fault s.args_override_self a (v ∷ []) rows ≡ [] → Holds s (with_value s h a.id v) (rows ++ row a.id v ∷ [])
holds_value s h rows a v was by_id used_is fault = record {
  rows_are = ap (λ o. used_by_id o (v ∷ []) (settled s.rules h).rows) by_id ∙ (ap (used a (v ∷ [])) was.rows_are ∙ used_is);
  no_fault = ap (λ o. option_map_or (λ x. use_fault s.args_override_self x (v ∷ []) (settled s.rules h).rows) o []) by_id
      ∙ (ap (use_fault s.args_override_self a (v ∷ [])) was.rows_are ∙ fault);
}

first_use : (again : Bool) (k : ℕ) (id v : Text) (rows : List Row) → has_row id rows ≡ false → use_fault again (name_built k id) (v ∷ []) rows ≡ []
first_use again k id v rows none = ap (λ b. or_else (cond (b && not again) (ArgumentConflict ∷ []) []) []) none

first_option_use : (again : Bool) (id v : Text) (rows : List Row) → has_row id rows ≡ false → use_fault again (option_built id) (v ∷ []) rows ≡ []
first_option_use again id v rows none = ap (λ b. or_else (cond (b && not again) (ArgumentConflict ∷ []) []) []) none

-- a name
pub name_walk : (s : Shape) (h : Held) (k : ℕ) (id v : Text) → arg_by_index s.rules k ≡ Some (name_built k id) → min (k + 1) usize_max ≡ k + 1 → IsPlainText v
    → walked s.rules [] (at h k) v ≡ at (with_value s h id v) (k + 1)
unfolding walked
name_walk s h k id v at_index small p =
    ap (λ met. after_step s.rules v (at h k) met.0 met.1) (plain_met s.rules idle k v h p)
    ∙ (ap (λ o. to_positional s.rules o v (at h k) h) at_index
    ∙ ap₂ (λ b n. at (pushed id v (cond b h (settled s.rules h))) n) (and_false (is_pending (name_built k id) h.pending)) small)

pub name_fault : (s : Shape) (h : Held) (k : ℕ) (id v : Text) (rows : List Row) → arg_by_index s.rules k ≡ Some (name_built k id) → IsPlainText v → Holds s h rows → turn_fault s [] (at h k) v ≡ []
name_fault s h k id v rows at_index p was =
    ap₂ or_else (plain_fault s v h p)
    (ap (λ met. step_fault s k met.0 met.1) (plain_met s.rules idle k v h p)
    ∙ (ap (λ o. option_map_or (λ a. positional_fault s.rules s.args_override_self a h) o (stray_fault s)) at_index
    ∙ (ap (λ b. cond b [] (settle_fault s.rules s.args_override_self h)) (and_false (is_pending (name_built k id) h.pending)) ∙ was.no_fault)))

-- an option whose value is in the next word
abbrev pub waits_for : Held → ℕ → Text → Walk
waits_for h k id = record (at h k) { waiting = option id }

-- what a command owes of an option
pub record TakesOption (s : Shape) (id : Text) : Type 0 where
  pub by_long : arg_by_long s.rules id ≡ Some (option_built id)
  pub by_id : arg_by_id s.rules id ≡ Some (option_built id)
  pub alone : long_of (dashes id) ≡ Some (id, None)
  pub with_equals : (v : Text) → long_of (dashes id ++ 61 ∷ v) ≡ Some (id, Some v)
  pub no_end : bytes_eq (dashes id) (45 ∷ 45 ∷ []) ≡ false
  pub no_end_with : (v : Text) → bytes_eq (dashes id ++ 61 ∷ v) (45 ∷ 45 ∷ []) ≡ false
  pub itself : bytes_eq id id ≡ true

abbrev pub begun : Shape → Held → Text → Held
begun s h id = record (settled s.rules h) { pending = Some (id, []) }

pub option_walk : (s : Shape) (h : Held) (k : ℕ) (id : Text) → TakesOption s id → walked s.rules [] (at h k) (dashes id) ≡ waits_for (begun s h id) k id
unfolding walked
option_walk s h k id has =
    ap (λ met. after_step s.rules (dashes id) (at h k) met.0 met.1)
    (ap (λ b. cond b (h, trailing k) (long_or_other s.rules idle (dashes id) (long_of (dashes id)) h)) has.no_end
    ∙ (ap (λ o. long_or_other s.rules idle (dashes id) o h) has.alone
    ∙ ap (λ o. after_flag s.rules idle (dashes id) (long_met s.rules o None h).0 (long_met s.rules o None h).1) has.by_long))

pub value_walk : (s : Shape) (h : Held) (k : ℕ) (id v : Text) → TakesOption s id → IsPlainText v → walked s.rules [] (waits_for (begun s h id) k id) v ≡ at (with_value s h id v) k
unfolding walked
value_walk s h k id v has p =
    ap (λ met. after_step s.rules v (waits_for (begun s h id) k id) met.0 met.1)
    (plain_met s.rules (option id) k v (begun s h id) p
    ∙ ap (λ o. ((option_word o id v (begun s h id)).0, next (option_word o id v (begun s h id)).1)) has.by_id)
    ∙ ap (λ b. record (at (with_value s h id v) k) { waiting = cond (nat_lt (cond b 1 0) 1) (option id) idle }) has.itself

option_met_is : (s : Shape) (h : Held) (k : ℕ) (id : Text) → TakesOption s id → subcommand_or_other s.rules None idle k (dashes id) h ≡ (record (settled s.rules h) { pending = Some (id, []) }, next (option id))
option_met_is s h k id has =
    ap (λ b. cond b (h, trailing k) (long_or_other s.rules idle (dashes id) (long_of (dashes id)) h)) has.no_end
    ∙ (ap (λ o. long_or_other s.rules idle (dashes id) o h) has.alone
    ∙ ap (λ o. after_flag s.rules idle (dashes id) (long_met s.rules o None h).0 (long_met s.rules o None h).1) has.by_long)

pub option_fault_none : (s : Shape) (h : Held) (k : ℕ) (id : Text) (rows : List Row) → TakesOption s id → Holds s h rows → turn_fault s [] (at h k) (dashes id) ≡ []
option_fault_none s h k id rows has was =
    ap₂ or_else
    (ap (λ b. cond b [] (flag_word_fault s.rules s.args_override_self (long_of (dashes id)) (dashes id) h)) has.no_end
    ∙ (ap (λ o. flag_word_fault s.rules s.args_override_self o (dashes id) h) has.alone
    ∙ (ap (λ o. long_fault s.rules s.args_override_self o None h) has.by_long ∙ was.no_fault)))
    (ap (λ met. step_fault s k met.0 met.1) (option_met_is s h k id has))

pub value_fault_none : (s : Shape) (h : Held) (k : ℕ) (id v : Text) → TakesOption s id → IsPlainText v → turn_fault s [] (waits_for (begun s h id) k id) v ≡ []
value_fault_none s h k id v has p =
    ap₂ or_else (plain_fault s v (begun s h id) p)
    (ap (λ met. step_fault s k met.0 met.1)
    (plain_met s.rules (option id) k v (begun s h id) p
    ∙ ap (λ o. ((option_word o id v (begun s h id)).0, next (option_word o id v (begun s h id)).1)) has.by_id))

-- an option with its value after `=`
abbrev pub equals : Text → Text → Text
equals id v = dashes id ++ 61 ∷ v

abbrev pub with_used : Shape → Held → Text → Text → Held
with_used s h id v = record h { rows = used (option_built id) (v ∷ []) (settled s.rules h).rows; pending = None }

joined_met_is : (s : Shape) (h : Held) (k : ℕ) (id v : Text) → TakesOption s id → subcommand_or_other s.rules None idle k (equals id v) h ≡ (with_used s h id v, next idle)
joined_met_is s h k id v has =
    ap (λ b. cond b (h, trailing k) (long_or_other s.rules idle (equals id v) (long_of (equals id v)) h)) (has.no_end_with v)
    ∙ (ap (λ o. long_or_other s.rules idle (equals id v) o h) (has.with_equals v)
    ∙ ap (λ o. after_flag s.rules idle (equals id v) (long_met s.rules o (Some v) h).0 (long_met s.rules o (Some v) h).1) has.by_long)

pub joined_walk : (s : Shape) (h : Held) (k : ℕ) (id v : Text) → TakesOption s id → walked s.rules [] (at h k) (equals id v) ≡ at (with_used s h id v) k
unfolding walked
joined_walk s h k id v has = ap (λ met. after_step s.rules (equals id v) (at h k) met.0 met.1) (joined_met_is s h k id v has)

pub joined_fault_none : (s : Shape) (h : Held) (k : ℕ) (id v : Text) (rows : List Row) → TakesOption s id → Holds s h rows → has_row id rows ≡ false → turn_fault s [] (at h k) (equals id v) ≡ []
joined_fault_none s h k id v rows has was none =
    ap₂ or_else
    (ap (λ b. cond b [] (flag_word_fault s.rules s.args_override_self (long_of (equals id v)) (equals id v) h)) (has.no_end_with v)
    ∙ (ap (λ o. flag_word_fault s.rules s.args_override_self o (equals id v) h) (has.with_equals v)
    ∙ (ap (λ o. long_fault s.rules s.args_override_self o (Some v) h) has.by_long
    ∙ ap₂ or_else was.no_fault (ap (use_fault s.args_override_self (option_built id) (v ∷ [])) was.rows_are ∙ first_option_use s.args_override_self id v rows none))))
    (ap (λ met. step_fault s k met.0 met.1) (joined_met_is s h k id v has))

pub joined_holds : (s : Shape) (h : Held) (id v : Text) (rows : List Row) → Holds s h rows → has_row id rows ≡ false → Holds s (with_used s h id v) (rows ++ row id v ∷ [])
joined_holds s h id v rows was none = record {
  rows_are = ap (used (option_built id) (v ∷ [])) was.rows_are ∙ used_option id v rows none;
  no_fault = refl;
}

-- ---- all parts

abbrev pub pair_row : Text × Text → Row
pair_row p = row p.0 p.1

-- each value with the name or the option that it is for
abbrev pub pairs : List Text → List Part → List (Text × Text)
pairs ns [] = []
pairs [] (name v ∷ ps) = []
pairs (n ∷ ns) (name v ∷ ps) = (n, v) ∷ pairs ns ps
pairs ns (apart id v ∷ ps) = (id, v) ∷ pairs ns ps
pairs ns (joined id v ∷ ps) = (id, v) ∷ pairs ns ps

-- there is a name for each, and none of them has a row before
abbrev pub Fresh : List Row → List Text → List Part → Type 0
Fresh rows ns [] = ⊤
Fresh rows [] (name v ∷ ps) = ⊥
Fresh rows (n ∷ ns) (name v ∷ ps) = (has_row n rows ≡ false) × Fresh (rows ++ row n v ∷ []) ns ps
Fresh rows ns (apart id v ∷ ps) = (has_row id rows ≡ false) × Fresh (rows ++ row id v ∷ []) ns ps
Fresh rows ns (joined id v ∷ ps) = (has_row id rows ≡ false) × Fresh (rows ++ row id v ∷ []) ns ps

-- the names of a command, from a position on
abbrev pub TakesNames : Shape → ℕ → List Text → Type 0
TakesNames s k [] = ⊤
TakesNames s k (n ∷ ns) = (arg_by_index s.rules k ≡ Some (name_built k n)) × (arg_by_id s.rules n ≡ Some (name_built k n)) × (min (k + 1) usize_max ≡ k + 1) × TakesNames s (k + 1) ns

snoc_append : {X : Type 0} (xs : List X) (y : X) (ys : List X) → (xs ++ y ∷ []) ++ ys ≡ xs ++ y ∷ ys
snoc_append [] y ys = refl
snoc_append (x ∷ xs) y ys = ap (λ zs. x ∷ zs) (snoc_append xs y ys)

-- where a walk over plain parts ends
pub record Ends (s : Shape) (from : Walk) (words : List Text) (rows : List Row) : Type 0 where
  pub held : Held
  pub position : ℕ
  pub walk_is : fold (walked s.rules []) from words ≡ at held position
  pub holds : Holds s held rows
  pub fault_free : walk_fault s [] from words ≡ []

one_more : (s : Shape) (from after : Walk) (word : Text) (words : List Text) (rows : List Row) → walked s.rules [] from word ≡ after → turn_fault s [] from word ≡ []
    → Ends s after words rows → Ends s from (word ∷ words) rows
unfolding walk_fault
one_more s from after word words rows step none e = record {
  held = e.held;
  position = e.position;
  walk_is = ap (λ w. fold (walked s.rules []) w words) step ∙ e.walk_is;
  holds = e.holds;
  fault_free = ap₂ or_else none (ap (λ w. walk_fault s [] w words) step ∙ e.fault_free);
}

pub walk_all : (s : Shape) (ids : List Text) → ((id : Text) → IsAmongIds id ids → TakesOption s id) → (ns : List Text) (k : ℕ) (h : Held) (rows : List Row) (parts : List Part) → TakesNames s k ns
    → Holds s h rows → ArePlain ids parts → Fresh rows ns parts → Ends s (at h k) (words_of parts) (rows ++ map pair_row (pairs ns parts))
unfolding walk_fault
walk_all s ids opts ns k h rows [] names was plain fresh = record { held = h; position = k; walk_is = refl; holds = subst (Holds s h) (sym (append_nothing rows)) was; fault_free = refl }
walk_all s ids opts [] k h rows (name v ∷ ps) names was plain fresh = absurd fresh
walk_all s ids opts (n ∷ ns) k h rows (name v ∷ ps) names was plain fresh =
    let holds = holds_value s h rows (name_built k n) v was names.1 (used_name k n v rows fresh.0) (first_use s.args_override_self k n v rows fresh.0) in
    let rest = walk_all s ids opts ns (k + 1) (with_value s h n v) (rows ++ row n v ∷ []) ps names.3 holds plain.1 fresh.1 in
    one_more s (at h k) (at (with_value s h n v) (k + 1)) v (words_of ps) _ (name_walk s h k n v names.0 names.2 plain.0) (name_fault s h k n v rows names.0 plain.0 was)
    (subst (Ends s (at (with_value s h n v) (k + 1)) (words_of ps)) (snoc_append rows (row n v) (map pair_row (pairs ns ps))) rest)
walk_all s ids opts ns k h rows (apart id v ∷ ps) names was plain fresh =
    let has = opts id plain.1 in
    let holds = holds_value s h rows (option_built id) v was has.by_id (used_option id v rows fresh.0) (first_option_use s.args_override_self id v rows fresh.0) in
    let rest = walk_all s ids opts ns k (with_value s h id v) (rows ++ row id v ∷ []) ps names holds plain.3 fresh.1 in
    one_more s (at h k) (waits_for (begun s h id) k id) (dashes id) (v ∷ words_of ps) _ (option_walk s h k id has) (option_fault_none s h k id rows has was)
    (one_more s (waits_for (begun s h id) k id) (at (with_value s h id v) k) v (words_of ps) _ (value_walk s h k id v has plain.0) (value_fault_none s h k id v has plain.0)
    (subst (Ends s (at (with_value s h id v) k) (words_of ps)) (snoc_append rows (row id v) (map pair_row (pairs ns ps))) rest))
walk_all s ids opts ns k h rows (joined id v ∷ ps) names was plain fresh =
    let has = opts id plain.1 in
    let rest = walk_all s ids opts ns k (with_used s h id v) (rows ++ row id v ∷ []) ps names (joined_holds s h id v rows was fresh.0) plain.3 fresh.1 in
    one_more s (at h k) (at (with_used s h id v) k) (equals id v) (words_of ps) _ (joined_walk s h k id v has) (joined_fault_none s h k id v rows has was fresh.0)
    (subst (Ends s (at (with_used s h id v) k) (words_of ps)) (snoc_append rows (row id v) (map pair_row (pairs ns ps))) rest)
