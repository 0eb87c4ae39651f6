-- What `clap` finds in the plain words of a command.
use Rattle.std.proofs.Common.{◌≡◌, ◌∙◌, ◌⊎◌, ◌++◌, ◌&&◌, ◌||◌, Bool, true, false, not, List, [], ◌∷◌, map, Option, Some, None, cond, refl, sym, ap, ap₂, subst, inl, inr}
use Rattle.std.specs.Prelude.{fold, find, option_and_then, slice_get, ⊤}
use Rattle.std.specs.Str.{bytes_eq}
use Rattle.std.specs.List.{list_any}
use Rattle.std.proofs.lemmas.Slice.Eq.{bytes_eq-Decides}
use Rattle.clap.specs.Facts.{explicit_source}
use Rattle.clap.specs.Walk.{Row, Rule, Text, default_rows, first_of, has_row, nothing_held, reading_by, rows_after, settled, walk_from, with_default}
use Rattle.clap.specs.Simple.{Shape}
use Rattle.clap.specs.Takes.{is_given}
use Rattle.clap.specs.Faults.{check_fault, default_fault, defaults_fault, given_default_fault, level_fault, settle_fault}
use Rattle.clap.specs.Walk.{is_empty, finished}
use Rattle.clap.specs.Kinds.{check_kinds, or_else}
use Rattle.rr_words.specs.Plain.{ArePlain, IsAmongIds, Part, apart, given, joined, name, names_in, value_if}
use Rattle.rr_words.proofs.Walks.{Ends, Fresh, pair_row, pairs, row}

either_same : {X : Type 0} (b : Bool) (x : X) → cond b x x ≡ x
either_same true x = refl
either_same false x = refl

or_true : (b : Bool) → (b || true) ≡ true
or_true true = refl
or_true false = refl

-- ---- the last steps

abbrev pub NoDefaults : List Rule → Type 0
NoDefaults [] = ⊤
NoDefaults (a ∷ more) = (a.defaults ≡ []) × NoDefaults more

no_default : (rows : List Row) (a : Rule) → a.defaults ≡ [] → with_default rows a ≡ rows
no_default rows a e = ap (λ d. cond (has_row a.id rows) rows (default_rows a.id (reading_by a) d rows)) e ∙ either_same (has_row a.id rows) rows

no_default_fault : (rows : List Row) (a : Rule) → a.defaults ≡ [] → default_fault rows a ≡ []
no_default_fault rows a e = ap (λ d. cond (has_row a.id rows || is_empty d) [] (given_default_fault a d)) e ∙ ap (λ b. cond b [] (given_default_fault a [])) (or_true (has_row a.id rows))

same_rows : (rows : List Row) (c : List Rule) → NoDefaults c → fold with_default rows c ≡ rows
same_rows rows [] none = refl
same_rows rows (a ∷ more) none = ap (λ r. fold with_default r more) (no_default rows a none.0) ∙ same_rows rows more none.1

no_defaults_fault : (rows : List Row) (c : List Rule) → NoDefaults c → defaults_fault rows c ≡ []
unfolding defaults_fault
no_defaults_fault rows [] none = refl
no_defaults_fault rows (a ∷ more) none = ap₂ or_else (no_default_fault rows a none.0) (ap (λ r. defaults_fault r more) (no_default rows a none.0) ∙ no_defaults_fault rows more none.1)

-- each argument that is required is there
abbrev pub AllGiven : List Row → List Rule → Type 0
AllGiven rows [] = ⊤
AllGiven rows (a ∷ more) = ((a.required && not (is_given a.id rows)) ≡ false) × AllGiven rows more

none_missing : (rows : List Row) (c : List Rule) → AllGiven rows c → list_any (λ a. a.required && not (is_given a.id rows)) c ≡ false
none_missing rows [] all = refl
none_missing rows (a ∷ more) all = ap₂ (λ x y. x || y) all.0 (none_missing rows more all.1)

-- the settings of a command with no subcommand
pub record IsLeaf (s : Shape) : Type 0 where
  pub no_help : s.arg_required_else_help ≡ false
  pub no_subcommand : s.subcommand_required ≡ false
  pub no_negation : s.subcommand_negates_reqs ≡ false
  pub no_defaults : NoDefaults s.rules

passes_check : (s : Shape) (rows : List Row) → IsLeaf s → AllGiven rows s.rules → check_fault s rows false ≡ []
passes_check s rows leaf all =
    ap (λ b. check_kinds (true && (b && not (list_any (λ r. explicit_source r.source) rows))) (true && s.subcommand_required) (not (s.subcommand_negates_reqs && false) && list_any (λ a. a.required && not (is_given a.id rows)) s.rules)) leaf.no_help
    ∙ (ap (λ b. check_kinds false (true && b) (not (s.subcommand_negates_reqs && false) && list_any (λ a. a.required && not (is_given a.id rows)) s.rules)) leaf.no_subcommand
    ∙ (ap (λ b. check_kinds false false (not (b && false) && list_any (λ a. a.required && not (is_given a.id rows)) s.rules)) leaf.no_negation
    ∙ ap (λ b. check_kinds false false b) (none_missing rows s.rules all)))

ends_rows : (s : Shape) (words : List Text) (rows : List Row) → Ends s (walk_from nothing_held) words rows → IsLeaf s → rows_after s.rules [] words ≡ rows
ends_rows s words rows e leaf =
    ap (λ w. finished s.rules w.held) e.walk_is ∙ (ap (λ r. fold with_default r s.rules) e.holds.rows_are ∙ same_rows rows s.rules leaf.no_defaults)

pub leaf_rows : (s : Shape) (words : List Text) (rows : List Row) → Ends s (walk_from nothing_held) words rows → IsLeaf s → rows_after s.rules [] words ≡ rows
leaf_rows s words rows e leaf = ends_rows s words rows e leaf

pub leaf_passes : (s : Shape) (words : List Text) (rows : List Row) → Ends s (walk_from nothing_held) words rows → IsLeaf s → AllGiven rows s.rules → level_fault s [] nothing_held words false [] ≡ []
leaf_passes s words rows e leaf all =
    ap₂ or_else e.fault_free
    (ap (λ w. or_else (settle_fault s.rules s.args_override_self w.held) (or_else (defaults_fault (settled s.rules w.held).rows s.rules) (check_fault s (finished s.rules w.held) false))) e.walk_is
    ∙ ap₂ or_else e.holds.no_fault
    (ap₂ or_else (ap (λ r. defaults_fault r s.rules) e.holds.rows_are ∙ no_defaults_fault rows s.rules leaf.no_defaults)
    (ap (λ r. check_fault s r false) (ap (λ r. fold with_default r s.rules) e.holds.rows_are ∙ same_rows rows s.rules leaf.no_defaults)
    ∙ passes_check s rows leaf all)))

-- ---- no name and no option twice

abbrev pub Distinct : List Text → Type 0
Distinct [] = ⊤
Distinct (n ∷ ns) = ((m : Text) → IsAmongIds m ns → bytes_eq n m ≡ false) × Distinct ns

abbrev pub AreApart : List Text → List Text → Type 0
AreApart ns ids = (n id : Text) → IsAmongIds n ns → IsAmongIds id ids → (bytes_eq n id ≡ false) × (bytes_eq id n ≡ false)

abbrev pub HasNames : List Text → List Part → Type 0
HasNames ns [] = ⊤
HasNames [] (name v ∷ ps) = ⊥
HasNames (n ∷ ns) (name v ∷ ps) = HasNames ns ps
HasNames ns (apart id v ∷ ps) = HasNames ns ps
HasNames ns (joined id v ∷ ps) = HasNames ns ps

has_row_more : (y x v : Text) (rows : List Row) → has_row y rows ≡ false → bytes_eq x y ≡ false → has_row y (rows ++ row x v ∷ []) ≡ false
has_row_more y x v [] none other = rw other refl
has_row_more y x v (r ∷ rs) none other = go (bytes_eq r.id y) refl (λ h. has_row_more y x v rs h other)
  where
    go : (b : Bool) → bytes_eq r.id y ≡ b → (has_row y rs ≡ false → has_row y (rs ++ row x v ∷ []) ≡ false) → has_row y ((r ∷ rs) ++ row x v ∷ []) ≡ false
    go true e rec = let no : true ≡ false = rw e at none in cc
    go false e rec = rw e (rec (rw e at none))

-- what is still to come has no row yet
abbrev Unused : List Row → List Text → List Part → Type 0
Unused rows ids parts = (id : Text) → IsAmongIds id ids → (has_row id rows ≡ false) ⊎ (given id parts ≡ None)

after_option : (rows : List Row) (ids : List Text) (id v : Text) (ps : List Part) → given id ps ≡ None
    → ((y : Text) → IsAmongIds y ids → (has_row y rows ≡ false) ⊎ (value_if (bytes_eq id y) v (given y ps) ≡ None)) → Unused (rows ++ row id v ∷ []) ids ps
after_option rows ids id v ps once unused y among = go (bytes_eq id y) refl (unused y among)
  where
    go : (b : Bool) → bytes_eq id y ≡ b → (has_row y rows ≡ false) ⊎ (value_if (bytes_eq id y) v (given y ps) ≡ None) → (has_row y (rows ++ row id v ∷ []) ≡ false) ⊎ (given y ps ≡ None)
    go true e h = let same : id ≡ y = (bytes_eq-Decides id y).0 e in inr (subst (λ z. given z ps ≡ None) same once)
    go false e (inl none) = inl (has_row_more y id v rows none e)
    go false e (inr none) = inr (rw e at none)

pub fresh_all : (ids : List Text) → ((id : Text) → IsAmongIds id ids → bytes_eq id id ≡ true) → (ns : List Text) (rows : List Row) (parts : List Part) → HasNames ns parts → Distinct ns → AreApart ns ids
    → ((n : Text) → IsAmongIds n ns → has_row n rows ≡ false) → Unused rows ids parts → ArePlain ids parts → Fresh rows ns parts
fresh_all ids self ns rows [] enough distinct away free unused plain = tt
fresh_all ids self [] rows (name v ∷ ps) enough distinct away free unused plain = absurd enough
fresh_all ids self (n ∷ ns) rows (name v ∷ ps) enough distinct away free unused plain = (
  free n (inl refl),
  fresh_all ids self ns (rows ++ row n v ∷ []) ps enough distinct.1 (λ m id a b. away m id (inr a) b)
      (λ m a. has_row_more m n v rows (free m (inr a)) (distinct.0 m a))
      (λ id a. elim (unused id a) [ inl none ↦ inl (has_row_more id n v rows none (away n id (inl refl) a).0) | inr none ↦ inr none ])
      plain.1,
)
fresh_all ids self ns rows (apart id v ∷ ps) enough distinct away free unused plain = (
  elim (unused id plain.1) [ inl none ↦ none | inr none ↦ (let no : Some v ≡ None = rw (self id plain.1) at none in cc) ],
  fresh_all ids self ns (rows ++ row id v ∷ []) ps enough distinct away
      (λ m a. has_row_more m id v rows (free m a) (away m id a plain.1).1)
      (after_option rows ids id v ps plain.2 unused)
      plain.3,
)
fresh_all ids self ns rows (joined id v ∷ ps) enough distinct away free unused plain = (
  elim (unused id plain.1) [ inl none ↦ none | inr none ↦ (let no : Some v ≡ None = rw (self id plain.1) at none in cc) ],
  fresh_all ids self ns (rows ++ row id v ∷ []) ps enough distinct away
      (λ m a. has_row_more m id v rows (free m a) (away m id a plain.1).1)
      (after_option rows ids id v ps plain.2 unused)
      plain.3,
)

-- ---- what is looked up

abbrev pub value_of : Text → List (Text × Text) → Option Text
value_of id [] = None
value_of id (p ∷ ps) = value_if (bytes_eq p.0 id) p.1 (value_of id ps)

pub first_value : (id : Text) (ps : List (Text × Text)) → first_of id (map pair_row ps) ≡ value_of id ps
first_value id [] = refl
first_value id (p ∷ ps) = go (bytes_eq p.0 id) (first_value id ps)
  where
    go : (b : Bool) → first_of id (map pair_row ps) ≡ value_of id ps
        → option_and_then (λ r. slice_get r.values 0) (cond b (Some (pair_row p)) (find (λ r. bytes_eq r.id id) (map pair_row ps))) ≡ value_if b p.1 (value_of id ps)
    go true rec = refl
    go false rec = rec

pub is_given_value : (id x : Text) (ps : List (Text × Text)) → value_of id ps ≡ Some x → is_given id (map pair_row ps) ≡ true
is_given_value id x [] e = let no : None ≡ Some x = e in cc
is_given_value id x (p ∷ ps) e = go (bytes_eq p.0 id) refl (is_given_value id x ps)
  where
    go : (b : Bool) → bytes_eq p.0 id ≡ b → (value_of id ps ≡ Some x → is_given id (map pair_row ps) ≡ true) → is_given id (map pair_row (p ∷ ps)) ≡ true
    go true h rec = rw h refl
    go false h rec = rw h (rec (rw h at e))

pub option_value : (id : Text) (ns : List Text) (parts : List Part) → HasNames ns parts → ((n : Text) → IsAmongIds n ns → bytes_eq n id ≡ false) → value_of id (pairs ns parts) ≡ given id parts
option_value id ns [] enough other = refl
option_value id [] (name v ∷ ps) enough other = absurd enough
option_value id (n ∷ ns) (name v ∷ ps) enough other = ap (λ b. value_if b v (value_of id (pairs ns ps))) (other n (inl refl)) ∙ option_value id ns ps enough (λ m a. other m (inr a))
option_value id ns (apart o v ∷ ps) enough other = ap (λ r. value_if (bytes_eq o id) v r) (option_value id ns ps enough other)
option_value id ns (joined o v ∷ ps) enough other = ap (λ r. value_if (bytes_eq o id) v r) (option_value id ns ps enough other)

abbrev pub zipped : List Text → List Text → List (Text × Text)
zipped [] vs = []
zipped (n ∷ ns) [] = []
zipped (n ∷ ns) (v ∷ vs) = (n, v) ∷ zipped ns vs

zipped_none : (id : Text) (ns : List Text) → value_of id (zipped ns []) ≡ None
zipped_none id [] = refl
zipped_none id (n ∷ ns) = refl

pub name_value : (ids : List Text) (id : Text) (ns : List Text) (parts : List Part) → HasNames ns parts → ArePlain ids parts → ((o : Text) → IsAmongIds o ids → bytes_eq o id ≡ false) → value_of id (pairs ns parts) ≡ value_of id (zipped ns (names_in parts))
name_value ids id ns [] enough plain other = sym (zipped_none id ns)
name_value ids id [] (name v ∷ ps) enough plain other = absurd enough
name_value ids id (n ∷ ns) (name v ∷ ps) enough plain other = ap (λ r. value_if (bytes_eq n id) v r) (name_value ids id ns ps enough plain.1 other)
name_value ids id ns (apart o v ∷ ps) enough plain other = ap (λ b. value_if b v (value_of id (pairs ns ps))) (other o plain.1) ∙ name_value ids id ns ps enough plain.3 other
name_value ids id ns (joined o v ∷ ps) enough plain other = ap (λ b. value_if b v (value_of id (pairs ns ps))) (other o plain.1) ∙ name_value ids id ns ps enough plain.3 other

pub enough_names : (ns : List Text) (parts : List Part) → HasNames ns parts ≡ HasNames ns parts
enough_names ns parts = refl
