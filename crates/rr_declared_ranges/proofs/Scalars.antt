-- In each instance the names that its module declares as scalars are scalars.
use Rattle.std.proofs.Common.{◌≡◌, ◌⊎◌, inl, inr, ℕ, zero, suc, ◌+◌, ◌-◌, ◌<◌, Bool, true, false, if◌then◌else◌, is_some, is_none, List, [], ◌∷◌, ◌++◌, length, fold, get_or, Option, Some, None, Result, Ok, refl, sym, subst, ap, ◌∙◌, arith}
use Rattle.std.specs.Prelude.{slice_get, option_to_list, nat_lt}
use Rattle.std.specs.List.{AllByRecursion}
use Rattle.std.proofs.lemmas.Bool.{both_ways}
use Rattle.rr_syntax.specs.Tree.{Identifier, DeclaredName, PortDeclaration, ModuleDeclaration}
use Rattle.rr_expr.specs.Scopes.{Names, lookup, meant, or_instance, range_width}
use Rattle.rr_expr.specs.declared.types.Entity.{Entity}
use Rattle.rr_expr.specs.declared.types.Entity.TheVariants as entity
use Rattle.rr_flat.specs.declared.fault.FlatFault.{FlatFault}
use Rattle.rr_flat.specs.declared.fault.FlatFault.TheVariants.{TooMany}
use Rattle.rr_flat.specs.declared.fault.Limit.TheVariants.{FlatBits}
use Rattle.rr_declarations.specs.Declarations.{Declared, Declarations, is_port, declared_at, known, know, know_declarator, know_ports, know_port_item, plain_names, add_plain_name, brackets, declarations}
use Rattle.rr_flat.specs.Faults.{fault_if, first_of, and_then, each}
use Rattle.rr_memory_words.specs.Words.{word_count, words_entity}
use Rattle.rr_declarations.specs.Heads.{Head, head, declared, declared_in_order, entity_of, joined, named_declared, with_port, with_identifier, with_declarator, with_ports, with_inner, with_signals, numbered}
use Rattle.rr_flat.specs.Signals.{with_name, Text, Signal}
use Rattle.rr_declarations.specs.Parameters.{parameters}
use Rattle.rr_flat.specs.Plain.{Flat}
use Rattle.rr_flatten.specs.Walk.{module_at}
use Rattle.rr_flat.specs.Writers.{scope_at}
use Rattle.rr_flat.proofs.Alike.{Alike}
use Rattle.rr_flatten.proofs.HeadOf.{ok_is, first_ok, settled_is, fold_keeps, fold_over, all_append, all_got, Entries, NoSignal, constants}
use Rattle.rr_declared_ranges.specs.Ranges.{IsMade, AllBy}
use Rattle.rr_declared_ranges.specs.Laws.{NamesHaveRanges}
use Rattle.rr_declared_ranges.proofs.Declared.{name_at, range_at, words_at, port_at, Right, Has, all_later, all_declared, lookup_kept, lookup_new, lookup_with}
use Rattle.rr_declared_ranges.proofs.Members.{Somewhere, all_weaken}
use Rattle.rr_declared_ranges.proofs.Once.{Each, each_with, found}
use Rattle.rr_declared_ranges.proofs.Tops.{Headed, heads}

some_is : {X : Type 0} (a b : X) → Some a ≡ Some b → a ≡ b
some_is a b e = cc

none_some : {X : Type 0} (a : X) → None ≡ Some a → ⊥
none_some a e = cc

-- Elements that are somewhere

some_left : {X : Type 0} (P : X → Type 0) (xs ys : List X) → Somewhere P xs → Somewhere P (xs ++ ys)
unfolding Somewhere
some_left P [] ys h = absurd h
some_left P (x ∷ xs) ys (inl h) = inl h
some_left P (x ∷ xs) ys (inr h) = inr (some_left P xs ys h)

some_right : {X : Type 0} (P : X → Type 0) (xs ys : List X) → Somewhere P ys → Somewhere P (xs ++ ys)
unfolding Somewhere
some_right P [] ys h = h
some_right P (x ∷ xs) ys h = inr (some_right P xs ys h)

-- a fold meets an element that makes a fact, which stays
fold_hits : {X S : Type 0} (Q : X → Type 0) (P : S → Type 0) (step : S → X → S) → ((x : X) (s : S) → P s → P (step s x)) → ((x : X) (s : S) → Q x → P (step s x)) → (xs : List X) (s : S) → Somewhere Q xs → P (fold step s xs)
unfolding Somewhere
fold_hits Q P step stays hits [] s h = absurd h
fold_hits Q P step stays hits (x ∷ xs) s (inl h) = fold_keeps P step stays xs (step s x) (hits x s h)
fold_hits Q P step stays hits (x ∷ xs) s (inr h) = fold_hits Q P step stays hits xs (step s x) h

-- each of a list is somewhere in it
self_in : {X : Type 0} (R : X → X → Type 0) → ((x : X) → R x x) → (xs : List X) → AllByRecursion (λ x. Somewhere (R x) xs) xs
unfolding Somewhere
self_in R same [] = tt
self_in R same (x ∷ xs) = (inl (same x), all_weaken (λ y. Somewhere (R y) xs) xs (λ y h. inr h) (self_in R same xs))

-- The port brackets

abbrev IsNamed : Text → Identifier → Type 0
IsNamed name i = i.text ≡ name

abbrev IsDeclaredAs : Text → DeclaredName → Type 0
IsDeclaredAs name n = n.text ≡ name

abbrev IsPortNamed : Text → PortDeclaration → Type 0
IsPortNamed name p = Somewhere (IsDeclaredAs name) p.names

-- a name stands among the plain names or in a group
abbrev InBrackets : ModuleDeclaration → Text → Type 0
InBrackets m name = Somewhere (IsNamed name) (plain_names m.header) ⊎ Somewhere (IsPortNamed name) m.groups

module _ (m : ModuleDeclaration) where
  abbrev P : Text → Entity → Type 0
  P name e = InBrackets m name

  plain_step : (directed : Names) (i : Identifier) (s t : Names) → Somewhere (λ j. j.text ≡ i.text) (plain_names m.header) → Each P s → add_plain_name directed i s ≡ Ok t → Each P t
  unfolding add_plain_name
  plain_step directed i s t h p q = subst (Each P) (settled_is _ (know s i.text) t q) (each_with P s i.text (entity.Signal 0 None false) p (inl h))

  each_over : {X S : Type 0} (B : X → Type 0) (P : S → Type 0) (step : X → S → Result S FlatFault) → ((x : X) (s t : S) → B x → P s → step x s ≡ Ok t → P t) →
      (xs : List X) (s t : S) → AllByRecursion B xs → P s → each step xs s ≡ Ok t → P t
  unfolding each
  each_over B P step k [] s t b p h = subst P (ok_is s t h) p
  each_over B P step k (x ∷ xs) s t b p h = let r = first_ok (step x s) (each step xs) t h in each_over B P step k xs r.0 t b.1 (k x s r.0 b.0 p r.1.0) r.1.1

  names_known : (p : PortDeclaration) (s : Names) → AllByRecursion (λ (n : DeclaredName). InBrackets m n.text) p.names → Each P s → Each P (know_ports s p)
  unfolding know_ports
  names_known p s h q = fold_over (λ (n : DeclaredName). InBrackets m n.text) (Each P) know_declarator (λ n s h q. each_with P s n.text (entity.Signal 0 None false) q h) p.names s h q

  in_group : (p : PortDeclaration) (gs : List PortDeclaration) (name : Text) → Somewhere (λ g. g ≡ p) gs → Somewhere (IsDeclaredAs name) p.names → Somewhere (IsPortNamed name) gs
  unfolding Somewhere
  in_group p [] name h n = absurd h
  in_group p (g ∷ gs) name (inl e) n = inl (subst (IsPortNamed name) (sym e) n)
  in_group p (g ∷ gs) name (inr h) n = inr (in_group p gs name h n)

  bracketed_in : (bracketed : Names) → brackets m ≡ Ok bracketed → Each P bracketed
  unfolding brackets
  bracketed_in bracketed e =
      let directed = fold know_port_item [] m.items in
      let r = first_ok (each (add_plain_name directed) (plain_names m.header) []) (λ names. Ok (fold know_ports names m.groups)) bracketed e in
      let a = each_over (λ (i : Identifier). Somewhere (λ j. j.text ≡ i.text) (plain_names m.header)) (Each P) (add_plain_name directed) (λ i s t h p q. plain_step directed i s t h p q) (plain_names m.header) [] r.0
      (self_in (λ (i j : Identifier). j.text ≡ i.text) (λ i. refl) (plain_names m.header)) tt r.1.0 in
      subst (Each P) (ok_is (fold know_ports r.0 m.groups) bracketed r.1.1)
      (fold_over (λ p. Somewhere (λ g. g ≡ p) m.groups) (Each P) know_ports
      (λ p s h q. names_known p s (all_weaken (λ (i : DeclaredName). Somewhere (λ j. j.text ≡ i.text) p.names) p.names (λ i n. inr (in_group p m.groups i.text h n)) (self_in (λ (i j : DeclaredName). j.text ≡ i.text) (λ i. refl) p.names)) q)
      m.groups r.0 (self_in (λ (p g : PortDeclaration). g ≡ p) (λ p. refl) m.groups) a)

  bracket_found : (bracketed : Names) (name : Text) → brackets m ≡ Ok bracketed → is_none (lookup name bracketed) ≡ false → InBrackets m name
  bracket_found bracketed name e h = by (lookup name bracketed) refl h
    where
      by : (o : Option Entity) → lookup name bracketed ≡ o → is_none o ≡ false → InBrackets m name
      by None q h = absurd (both_ways true h refl)
      by (Some x) q h = found P bracketed name x (bracketed_in bracketed e) q

-- The declarations in order

module _ (d : Declarations) where
  -- what holds of each declaration holds of each in order
  module _ (Q : Declared → Type 0) (all : AllByRecursion Q d.list) where
    found_one : (o : Option Entity) → AllByRecursion Q (option_to_list (named_declared d.list o))
    found_one None = tt
    found_one (Some (entity.Constant bits signed)) = tt
    found_one (Some (entity.Signal id range signed)) = by (slice_get d.list id) refl
      where
        by : (o : Option Declared) → slice_get d.list id ≡ o → AllByRecursion Q (option_to_list o)
        by None q = tt
        by (Some x) q = (all_got Q d.list id x all q, tt)
    found_one (Some (entity.Memory first low words range signed)) = tt
    found_one (Some entity.Instance) = tt

    with_one : (name : Text) (s : List Declared) → AllByRecursion Q s → AllByRecursion Q (with_port d s name)
    unfolding with_port
    with_one name s q = all_append Q s (option_to_list (named_declared d.list (lookup name d.names))) q (found_one (lookup name d.names))

    inner_one : (x : Declared) (s : List Declared) → Q x → AllByRecursion Q s → AllByRecursion Q (with_inner s x)
    unfolding with_inner
    inner_one x s m q = by (is_port x.signal.port)
      where
        by : (b : Bool) → AllByRecursion Q (if b then s else s ++ x ∷ [])
        by true = q
        by false = all_append Q s (x ∷ []) q (m, tt)

    pub all_in_order : (m : ModuleDeclaration) → AllByRecursion Q (declared_in_order m d)
    unfolding declared_in_order with_ports
    all_in_order m =
        fold_over Q (AllByRecursion Q) with_inner (λ x s q p. inner_one x s q p) d.list (fold (with_ports d) (fold (with_identifier d) [] (plain_names m.header)) m.groups) all
        (fold_keeps (AllByRecursion Q) (with_ports d) (λ p s q. fold_keeps (AllByRecursion Q) (with_declarator d) (λ n s q. with_one n.text s q) p.names s q) m.groups (fold (with_identifier d) [] (plain_names m.header))
        (fold_keeps (AllByRecursion Q) (with_identifier d) (λ n s q. with_one n.text s q) (plain_names m.header) [] tt))

  -- one of them is there
  module _ (p : ℕ) (there : p < length d.list) (is : lookup (name_at d.list p) d.names ≡ Some (entity.Signal p None false)) where
    abbrev itself : Text
    itself = name_at d.list p

    abbrev Here : List Declared → Type 0
    Here xs = Somewhere (λ (x : Declared). x.signal.name ≡ itself) xs

    got : (xs : List Declared) (p : ℕ) → p < length xs → slice_get xs p ≡ Some (declared_at xs p)
    got [] p l = absurd (omega (arith, l))
    got (x ∷ xs) zero l = refl
    got (x ∷ xs) (suc p) l = got xs p (omega (arith, l))

    port_stays : (name : Text) (s : List Declared) → Here s → Here (with_port d s name)
    unfolding with_port
    port_stays name s h = some_left (λ (x : Declared). x.signal.name ≡ itself) s (option_to_list (named_declared d.list (lookup name d.names))) h

    port_hits : (name : Text) (s : List Declared) → name ≡ itself → Here (with_port d s name)
    unfolding with_port Somewhere
    port_hits name s e =
        let l : named_declared d.list (lookup name d.names) ≡ Some (declared_at d.list p) =
        ap (λ x. named_declared d.list (lookup x d.names)) e ∙ ap (named_declared d.list) is ∙ got d.list p there in
        some_right (λ (x : Declared). x.signal.name ≡ itself) s (option_to_list (named_declared d.list (lookup name d.names))) (subst (λ o. Here (option_to_list o)) (sym l) (inl refl))

    ports_stay : (q : PortDeclaration) (s : List Declared) → Here s → Here (with_ports d s q)
    unfolding with_ports
    ports_stay q s h = fold_keeps Here (with_declarator d) (λ n s h. port_stays n.text s h) q.names s h

    ports_hit : (q : PortDeclaration) (s : List Declared) → IsPortNamed itself q → Here (with_ports d s q)
    unfolding with_ports
    ports_hit q s h = fold_hits (IsDeclaredAs itself) Here (with_declarator d) (λ n s h. port_stays n.text s h) (λ n s e. port_hits n.text s e) q.names s h

    inner_stays : (x : Declared) (s : List Declared) → Here s → Here (with_inner s x)
    unfolding with_inner
    inner_stays x s h = by (is_port x.signal.port)
      where
        by : (b : Bool) → Here (if b then s else s ++ x ∷ [])
        by true = h
        by false = some_left (λ (y : Declared). y.signal.name ≡ itself) s (x ∷ []) h

    inner_hits : (x : Declared) (s : List Declared) → (x.signal.name ≡ itself) × (is_port x.signal.port ≡ false) → Here (with_inner s x)
    unfolding with_inner Somewhere
    inner_hits x s (e, h) = subst (λ b. Here (if b then s else s ++ x ∷ [])) (sym h) (some_right (λ (y : Declared). y.signal.name ≡ itself) s (x ∷ []) (inl e))

    inner_there : (xs : List Declared) (p : ℕ) (name : Text) → p < length xs → (declared_at xs p).signal.name ≡ name → is_port (declared_at xs p).signal.port ≡ false →
        Somewhere (λ (x : Declared). (x.signal.name ≡ name) × (is_port x.signal.port ≡ false)) xs
    unfolding Somewhere
    inner_there [] p name l e h = absurd (omega (arith, l))
    inner_there (x ∷ xs) zero name l e h = inl (e, h)
    inner_there (x ∷ xs) (suc p) name l e h = inr (inner_there xs p name (omega (arith, l)) e h)

    in_order : (m : ModuleDeclaration) → (is_port (port_at d.list p) ≡ true → InBrackets m itself) → Here (declared_in_order m d)
    unfolding declared_in_order
    in_order m b = by (is_port (port_at d.list p)) refl
      where
        groups : List Declared
        groups = fold (with_ports d) (fold (with_identifier d) [] (plain_names m.header)) m.groups

        ported : InBrackets m itself → Here (fold with_inner groups d.list)
        ported (inl h) =
            fold_keeps Here with_inner inner_stays d.list groups
            (fold_keeps Here (with_ports d) ports_stay m.groups (fold (with_identifier d) [] (plain_names m.header)) (fold_hits (IsNamed itself) Here (with_identifier d) (λ i s h. port_stays i.text s h) (λ i s e. port_hits i.text s e) (plain_names m.header) [] h))
        ported (inr h) = fold_keeps Here with_inner inner_stays d.list groups (fold_hits (IsPortNamed itself) Here (with_ports d) ports_stay ports_hit m.groups (fold (with_identifier d) [] (plain_names m.header)) h)

        by : (c : Bool) → is_port (port_at d.list p) ≡ c → Here (fold with_inner groups d.list)
        by true h = ported (b h)
        by false h = fold_hits (λ (x : Declared). (x.signal.name ≡ itself) × (is_port x.signal.port ≡ false)) Here with_inner inner_stays inner_hits d.list groups (inner_there d.list p itself there refl h)

-- The names of a head

numbers_stay : (k : ℕ) (xs : List Declared) (names : Names) (name : Text) (e : Entity) → lookup name names ≡ Some e → lookup name (with_signals k xs names) ≡ Some e
unfolding with_signals
numbers_stay k [] names name e h = h
numbers_stay k (x ∷ xs) names name e h = numbers_stay (k + word_count x.words) xs (with_name names x.signal.name (entity_of k x)) name e (lookup_kept name x.signal.name names (entity_of k x) e h)

-- a new name of one declaration alone stands for its signals
module _ (one : Declared) where
  abbrev its_name : Text
  its_name = one.signal.name

  abbrev IsNumbered : Names → Type 0
  IsNumbered scope = (k : ℕ) × (lookup its_name scope ≡ Some (entity_of k one))

  abbrev IsAlone : Declared → Type 0
  IsAlone x = x.signal.name ≡ its_name → x ≡ one

  numbers_there : (k : ℕ) (xs : List Declared) (names : Names) → AllByRecursion IsAlone xs → Somewhere (λ (x : Declared). x.signal.name ≡ its_name) xs → lookup its_name names ≡ None → IsNumbered (with_signals k xs names)
  unfolding with_signals Somewhere
  numbers_there k [] names a h n = absurd h
  numbers_there k (x ∷ xs) names a (inl e) n =
      let new : Entity = entity_of k x in
      let got : lookup its_name (with_name names x.signal.name new) ≡ Some new =
      subst (λ y. lookup y (with_name names x.signal.name new) ≡ Some new) e (lookup_new x.signal.name names new (ap (λ y. is_some (lookup y names)) e ∙ ap is_some n)) in
      (k, numbers_stay (k + word_count x.words) xs (with_name names x.signal.name new) its_name new got ∙ ap (λ (y : Declared). Some (entity_of k y)) (a.0 e))
  numbers_there k (x ∷ xs) names a (inr h) n = by (lookup its_name (with_name names x.signal.name (entity_of k x))) refl (numbers_there (k + word_count x.words) xs (with_name names x.signal.name (entity_of k x)) a.1 h)
    where
      by : (o : Option Entity) → lookup its_name (with_name names x.signal.name (entity_of k x)) ≡ o →
          (lookup its_name (with_name names x.signal.name (entity_of k x)) ≡ None → IsNumbered (with_signals (k + word_count x.words) xs (with_name names x.signal.name (entity_of k x)))) →
          IsNumbered (with_signals (k + word_count x.words) xs (with_name names x.signal.name (entity_of k x)))
      by None q r = r q
      by (Some y) q r = elim (lookup_with its_name x.signal.name names (entity_of k x) y q) [
        | inl b ↦ absurd (none_some y (sym n ∙ b))
        | inr b ↦ (
          k,
          numbers_stay (k + word_count x.words) xs (with_name names x.signal.name (entity_of k x)) its_name (entity_of k x) (q ∙ ap Some (sym b.1)) ∙ ap (λ (y : Declared). Some (entity_of k y)) (a.0 (sym b.0)),
        )
      ]

made_as : (scope : Names) (name : Text) (k : ℕ) (s : Signal) (words : Option (ℕ × ℕ)) → lookup name scope ≡ Some (words_entity k s words) → nat_lt 128 (range_width s.range) ≡ false → nat_lt 256 (word_count words) ≡ false → IsMade scope name s.range words
unfolding meant
made_as scope name k s None e n f = record { id = k; signed = s.signed; means = ap or_instance e; narrow = n }
made_as scope name k s (Some w) e n f = record { first = k; signed = s.signed; means = ap or_instance e; narrow = n; few = f }

pub all_by_index : (P : Declared → Type 0) (xs : List Declared) → ((q : ℕ) → q < length xs → P (declared_at xs q)) → AllByRecursion P xs
all_by_index P [] h = tt
all_by_index P (x ∷ xs) h = (h 0 (omega arith), all_by_index P xs (λ q l. h (suc q) (omega (arith, l))))

signal_is : (p q : ℕ) (r s : Option (ℕ × ℕ)) (a b : Bool) → Some (entity.Signal p r a) ≡ Some (entity.Signal q s b) → p ≡ q
signal_is p q r s a b h = cc

never : (p : ℕ) (r : Option (ℕ × ℕ)) (s : Bool) (e : Entity) → NoSignal e → e ≡ entity.Signal p r s → ⊥
never p r s (entity.Constant bits signed) n h = cc
never p r s (entity.Signal id range signed) n h = n
never p r s (entity.Memory first low words range signed) n h = n
never p r s entity.Instance n h = cc

-- with constants for parameters, a name that is declared is made in the scope
module _ (m : ModuleDeclaration) (base : ℕ) (bracketed params : Names) (bracketed_is : brackets m ≡ Ok bracketed) (constant : Entries NoSignal params) (d : Declarations) (right : Right bracketed params d.names d.list) where
  no_constant : (name : Text) (p : ℕ) → p < length d.list → name_at d.list p ≡ name → lookup name params ≡ None
  no_constant name p l n = by (lookup name params) refl
    where
      by : (o : Option Entity) → lookup name params ≡ o → o ≡ None
      by None q = refl
      by (Some e) q =
          let there : lookup name d.names ≡ Some (entity.Signal p None false) = subst (λ x. lookup x d.names ≡ Some (entity.Signal p None false)) n (right.there p l) in
          absurd (never p None false e (found (λ x e. NoSignal e) params name e constant q) (some_is e (entity.Signal p None false) (sym (right.kept name e q) ∙ there)))

  place_made : (p : ℕ) → p < length d.list → IsMade (with_signals base (declared_in_order m d) params) (name_at d.list p) (range_at d.list p) (words_at d.list p)
  place_made p l =
      let list = declared_in_order m d in
      let it : Declared = declared_at d.list p in
      let alone : (q : ℕ) → q < length d.list → name_at d.list q ≡ name_at d.list p → declared_at d.list q ≡ it = λ q k e.
      ap (λ (i : ℕ). declared_at d.list i) (signal_is q p None None false false (sym (right.there q k) ∙ ap (λ x. lookup x d.names) e ∙ right.there p l)) in
      let is = numbers_there it base list params (all_in_order d (IsAlone it) (all_by_index (IsAlone it) d.list alone) m)
      (in_order d p l (right.there p l) m (λ h. bracket_found m bracketed (name_at d.list p) bracketed_is (right.ports p l h))) (no_constant (name_at d.list p) p l refl) in
      made_as (with_signals base list params) (name_at d.list p) is.0 it.signal it.words is.1 (right.narrow p l) (right.few p l)

  signal_in : (name : Text) (range words : Option (ℕ × ℕ)) → Has bracketed params d name range words → IsMade (with_signals base (declared_in_order m d) params) name range words
  signal_in name range words (p, (l, (n, (r, w)))) =
      let scope : Names = with_signals base (declared_in_order m d) params in
      subst (λ (v : Option (ℕ × ℕ)). IsMade scope name range v) w
      (subst (λ (v : Option (ℕ × ℕ)). IsMade scope name v (words_at d.list p)) r (subst (λ (x : Text). IsMade scope x (range_at d.list p) (words_at d.list p)) n (place_made p l)))

pub nothing_right : (bracketed params : Names) → Entries NoSignal params → Right bracketed params params []
nothing_right bracketed params c = record {
  there = λ p l. absurd (omega (arith, l));
  back = λ x p r s h. absurd (never p r s (entity.Signal p r s) (found (λ y e. NoSignal e) params x (entity.Signal p r s) c h) refl);
  kept = λ x e h. h;
  ports = λ p l h. absurd (omega (arith, l));
  narrow = λ p l. absurd (omega (arith, l));
  few = λ p l. absurd (omega (arith, l));
  single = λ p l. absurd (omega (arith, l));
}

-- each name that a module declares stands for a signal, or a memory, in the head of an instance, with the declared range
pub head_by : (i base bits : ℕ) (given : Names) (m : ModuleDeclaration) (h : Head) → head i base bits given m ≡ Ok h → (seen : Names) × AllBy (IsMade h.scope) seen m
unfolding head numbered declared
head_by i base bits given m h e =
    let r = first_ok (parameters given m) (λ names. and_then (declared i bits m names) (λ d. numbered i base d.bits (declared_in_order m d) names)) h e in
    let s = first_ok (declared i bits m r.0) (λ d. numbered i base d.bits (declared_in_order m d) r.0) h r.1.1 in
    let d = s.0 in
    let first : Declarations = record { instance = i; names = r.0; list = []; bits = bits } in
    let b = first_ok (brackets m) (λ bracketed. declarations bracketed (known m r.0) m first) d s.1.0 in
    let c = constants given m r.0 r.1.0 in
    let a = all_declared b.0 r.0 (known m r.0) m first d (nothing_right b.0 r.0 c) b.1.1 in
    let list = declared_in_order m d in
    let signals = joined list in
    let made : Head = record { instance = i; base = base; bits = d.bits; signals = signals; scope = with_signals base list r.0 } in
    let is : made ≡ h = settled_is (first_of (fault_if (nat_lt 65536 (base + length signals)) (TooMany FlatBits (base + length signals)))) made h s.1.1 in
    subst (λ (h : Head). (seen : Names) × AllBy (IsMade h.scope) seen m) is
    (known m r.0, all_later (Has b.0 r.0 d) (IsMade made.scope) (known m r.0) (λ name range words p. signal_in m base b.0 r.0 b.1.0 c d a.0 name range words p) m a.1)

made_alike : (a b : Names) (name : Text) (range words : Option (ℕ × ℕ)) → Alike a b → IsMade a name range words → IsMade b name range words
made_alike a b name range None h s = record { id = s.id; signed = s.signed; means = sym (h name) ∙ s.means; narrow = s.narrow }
made_alike a b name range (Some w) h s = record { first = s.first; signed = s.signed; means = sym (h name) ∙ s.means; narrow = s.narrow; few = s.few }

-- and so in the instance
pub scope_by : (ms : List ModuleDeclaration) (flat : Flat) → Headed ms flat.scopes flat.owners flat.signals → (i : ℕ) → i < length flat.scopes → (seen : Names) × AllBy (IsMade (scope_at flat i)) seen (module_at ms (get_or flat.owners i 0))
scope_by ms flat h i l =
    let f = h.each i l in
    let m = module_at ms (get_or flat.owners i 0) in
    let b = head_by i f.base f.bits f.given m f.top f.is in
    (b.0, all_later (IsMade f.top.scope) (IsMade (scope_at flat i)) b.0 (λ name r w s. made_alike f.top.scope (scope_at flat i) name r w f.alike s) m b.1)

pub names_of_source : NamesHaveRanges
names_of_source source top flat e i l = scope_by source.modules flat (heads source top flat e) i l
