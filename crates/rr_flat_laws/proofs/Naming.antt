-- Names and signals of the instances of a walk.
use Rattle.std.proofs.Common.{◌≡◌, ◌∙◌, sym, ap, inl, inr, ℕ, zero, suc, ◌+◌, ◌-◌, ◌<◌, ◌≤◌, Bool, true, false, List, [], ◌∷◌, ◌++◌, length, get_or, Option, Some, None, Ok, refl, subst, arith, length-append, is_some}
use Rattle.std.specs.Prelude.{slice_set}
use Rattle.std.specs.List.{Contains}
use Rattle.std.proofs.lemmas.Bool.{cases_lt, cases_eq, both_ways}
use Rattle.std.proofs.lemmas.List.{get_or_append_left, get_or-append_right, length-set, get_or-set_same, get_or-set_other}
use Rattle.rr_syntax.specs.Tree.{PortDeclaration, Connections, ModuleInstance, ModuleItem, Ports, Nets, Variables, Integers, Parameters, Assigns, Always, Initial, Instances, ModuleDeclaration, SourceText}
use Rattle.rr_expr.specs.Scopes.{Names, lookup}
use Rattle.rr_expr.specs.declared.types.Entity.{Entity}
use Rattle.rr_expr.specs.declared.types.Entity.TheVariants as entity
use Rattle.rr_flat.specs.declared.signal.Port.{Port}
use Rattle.rr_flat.specs.declared.signal.Port.TheVariants.{Inner, Input, Output}
use Rattle.rr_flat.specs.Faults.{and_then, each}
use Rattle.rr_flat.specs.Plain.{Flat}
use Rattle.rr_flat.specs.Signals.{Text, Signal, signal_at, no_signal, with_name}
use Rattle.rr_flat.specs.Sound.{IsWord}
use Rattle.rr_flat.proofs.Lists.{all_index}
use Rattle.rr_memory_words.specs.Words.{word_count, indexed_word, words_entity}
use Rattle.rr_declarations.specs.Declarations.{Declared, is_port}
use Rattle.rr_declarations.specs.Heads.{Head, entity_of}
use Rattle.rr_loop_rules.specs.Rules.{loop_names}
use Rattle.rr_flatten.specs.Tables.{place_of, add_module}
use Rattle.rr_flatten.specs.Walk.{Walked, Enter, scope_at, module_at, net, assign, with_instance, joined, instance_of, item, opened, enter_by, enter, nothing, finished, top_place, enter_top, flat_by, flat_of}
use Rattle.rr_flatten.proofs.HeadOf.{ok_is, not_ok, first_ok, each_keeps}
use Rattle.rr_flat_laws.specs.Declared.{ports_by, HasDeclaration, way_of, DeclaresAs, ports_of}
use Rattle.rr_flat_laws.specs.Names.{IsSignalOf, IsOneMemory, NamesAre}
use Rattle.rr_flat_laws.proofs.Growing.{Same, each_same, assign_same, net_same, always_same, initial_same, joined_same, began, inside, entered}
use Rattle.rr_flat_laws.proofs.Opening.{IsOne, Standing, Opened, opened_head}
use Rattle.rr_flat_laws.proofs.Texts.{none_some, Distinct, with_stays, is_none_of}
use Rattle.rr_flat_laws.proofs.Windows.{placed_word, Covered}
use Rattle.rr_flat_laws.proofs.Words.{WordsFit}

-- What names stand for

-- a signal by its number is one of instance i, with a name
abbrev pub Is : List Signal → ℕ → Text → ℕ → Type 0
Is ss i n id = (id < length ss) × (((signal_at ss id).instance ≡ i) × ((signal_at ss id).name ≡ n))

-- the words of a memory, from a number on
pub record AreWordsOf (ss : List Signal) (i : ℕ) (n : Text) (first low words : ℕ) (range : Option (ℕ × ℕ)) (signed : Bool) : Type 0 where
  pub is : (k : ℕ) → k < words → Is ss i n (first + k)
  pub word : (k : ℕ) → k < words → IsWord low range signed k (signal_at ss (first + k))

-- a name of instance i stands for a signal: for it alone, or for a memory of which it is a word
abbrev pub StandsFor : List Signal → ℕ → Text → Entity → ℕ → Type 0
StandsFor ss i n (entity.Constant bits signed) id = ⊥
StandsFor ss i n (entity.Signal k range signed) id = (id ≡ k) × ((signal_at ss id).range ≡ range) × ((signal_at ss id).signed ≡ signed) × ((signal_at ss id).word ≡ None)
StandsFor ss i n (entity.Memory first low words range signed) id = (first ≤ id) × (id < first + words) × AreWordsOf ss i n first low words range signed
StandsFor ss i n entity.Instance id = ⊥

stands_more : (ss more : List Signal) (i : ℕ) (n : Text) (e : Entity) (id : ℕ) → id < length ss → StandsFor ss i n e id → StandsFor (ss ++ more) i n e id
stands_more ss more i n (entity.Constant bits signed) id l h = h
stands_more ss more i n (entity.Signal k range signed) id l h =
    let e : signal_at (ss ++ more) id ≡ signal_at ss id = get_or_append_left ss more no_signal id l in
    (h.0, ap (λ (s : Signal). s.range) e ∙ h.1, ap (λ (s : Signal). s.signed) e ∙ h.2, ap (λ (s : Signal). s.word) e ∙ h.3)
stands_more ss more i n (entity.Memory first low words range signed) id l h =
    let long = length-append ss more in
    let same : (k : ℕ) → k < words → signal_at (ss ++ more) (first + k) ≡ signal_at ss (first + k) = λ k m. get_or_append_left ss more no_signal (first + k) (h.2.is k m).0 in (
      h.0,
      h.1,
      record {
        is = λ k m. let o = h.2.is k m in (omega (arith, o.0, long), (ap (λ (s : Signal). s.instance) (same k m) ∙ o.1.0, ap (λ (s : Signal). s.name) (same k m) ∙ o.1.1));
        word = λ k m. subst (λ (s : Signal). IsWord low range signed k s) (sym (same k m)) (h.2.word k m);
      },
    )
stands_more ss more i n entity.Instance id l h = h

-- what a name of an instance stands for
pub record Named (ss : List Signal) (i : ℕ) (n : Text) (scope : Names) (id : ℕ) : Type 0 where
  pub meaning : Entity
  pub found : lookup n scope ≡ Some meaning
  pub stands : StandsFor ss i n meaning id

-- one that stands for a signal that is no word, or for one that is
stands_alone : (ss : List Signal) (i : ℕ) (n : Text) (e : Entity) (id : ℕ) → StandsFor ss i n e id → (signal_at ss id).word ≡ None → e ≡ entity.Signal id (signal_at ss id).range (signal_at ss id).signed
stands_alone ss i n (entity.Constant bits signed) id h w = absurd h
stands_alone ss i n (entity.Signal k range signed) id h w = λ j. entity.Signal (sym h.0 j) (sym h.1 j) (sym h.2 j)
stands_alone ss i n (entity.Memory first low words range signed) id h w =
    let a = h.0 in
    let b = h.1 in
    let k : first + (id - first) ≡ id = omega (arith, a) in
    let word : (signal_at ss id).word ≡ Some (low + (id - first)) = subst (λ (j : ℕ). (signal_at ss j).word ≡ Some (low + (id - first))) k (h.2.word (id - first) (omega (arith, a, b))).word in
    absurd (none_some (low + (id - first)) (sym w ∙ word))
stands_alone ss i n entity.Instance id h w = absurd h

module _ (ms : List ModuleDeclaration) where
  -- a signal by its number is one of an instance, where its name stands for it
  pub record Placed (ss : List Signal) (ns : List Names) (os : List ℕ) (id : ℕ) (s : Signal) : Type 0 where
    pub there : s.instance < length ns
    pub named : Named ss s.instance s.name (get_or ns s.instance []) id
    pub declared : DeclaresAs (module_at ms (get_or os s.instance 0)) (is_some s.word) s.name
    pub listed : is_port s.port ≡ true → Contains (ports_of (module_at ms (get_or os s.instance 0))) s.name
    pub whole : is_port s.port ≡ true → s.word ≡ None

  -- what the names of an instance of module m have
  pub record Filled (ss : List Signal) (i : ℕ) (m : ModuleDeclaration) : Type 0 where
    pub has : (n : Text) (memory : Bool) → DeclaresAs m memory n → (id : ℕ) × (Is ss i n id × (is_some (signal_at ss id).word ≡ memory))
    pub port : (n : Text) → Contains (ports_of m) n → (id : ℕ) × (Is ss i n id × (is_port (signal_at ss id).port ≡ true))
    pub way : (p : PortDeclaration) (n : Text) → HasDeclaration m p → Contains (ports_by p) n → (id : ℕ) × (Is ss i n id × ((signal_at ss id).port ≡ way_of p.dir))
    pub apart : Distinct (ports_of m)

  pub record Fine (ss : List Signal) (ns : List Names) (os : List ℕ) : Type 0 where
    pub even : length os ≡ length ns
    pub one : (id : ℕ) → id < length ss → Placed ss ns os id (signal_at ss id)
    pub filled : (i : ℕ) → i < length ns → Filled ss i (module_at ms (get_or os i 0))

  abbrev pub FineWalk : Walked → Type 0
  FineWalk w = Fine w.flat.signals w.flat.scopes w.flat.owners

  pub fine_same : (w v : Walked) → Same w v → FineWalk w → FineWalk v
  fine_same w v s f = subst (Fine v.flat.signals v.flat.scopes) s.owners (subst (λ ns. Fine v.flat.signals ns w.flat.owners) s.scopes (subst (λ ss. Fine ss w.flat.scopes w.flat.owners) s.signals f))

  -- what a name of an instance stands for
  pub named_as : (ss : List Signal) (ns : List Names) (os : List ℕ) (i : ℕ) (n : Text) (id : ℕ) → Fine ss ns os → Is ss i n id → Named ss i n (get_or ns i []) id
  named_as ss ns os i n id f (l, (a, b)) =
      subst (λ (z : Text). Named ss i z (get_or ns i []) id) b (subst (λ (k : ℕ). Named ss k (signal_at ss id).name (get_or ns k []) id) a (f.one id l).named)

  pub named_found : (ss : List Signal) (ns : List Names) (os : List ℕ) (i : ℕ) (n : Text) (id : ℕ) → Fine ss ns os → Is ss i n id → (signal_at ss id).word ≡ None →
      lookup n (get_or ns i []) ≡ Some (entity.Signal id (signal_at ss id).range (signal_at ss id).signed)
  named_found ss ns os i n id f h w =
      let q = named_as ss ns os i n id f h in
      q.found ∙ ap (λ (e : Entity). Some e) (stands_alone ss i n q.meaning id q.stands w)

  -- one more instance

  filled_more : (ss more : List Signal) (i : ℕ) (m : ModuleDeclaration) → Filled ss i m → Filled (ss ++ more) i m
  filled_more ss more i m f = record {
    has = λ n memory c. let h = f.has n memory c in (h.0, (later n h.0 h.1.0, ap (λ (s : Signal). is_some s.word) (get_or_append_left ss more no_signal h.0 h.1.0.0) ∙ h.1.1));
    port = λ n c. let h = f.port n c in (h.0, (later n h.0 h.1.0, ap (λ (s : Signal). is_port s.port) (get_or_append_left ss more no_signal h.0 h.1.0.0) ∙ h.1.1));
    way = λ p n c k. let h = f.way p n c k in (h.0, (later n h.0 h.1.0, ap (λ (s : Signal). s.port) (get_or_append_left ss more no_signal h.0 h.1.0.0) ∙ h.1.1));
    apart = f.apart;
  }
    where
      later : (n : Text) (id : ℕ) → Is ss i n id → Is (ss ++ more) i n id
      later n id (l, (a, b)) =
          let e : signal_at (ss ++ more) id ≡ signal_at ss id = get_or_append_left ss more no_signal id l in
          (omega (arith, l, length-append ss more), (ap (λ (s : Signal). s.instance) e ∙ a, ap (λ (s : Signal). s.name) e ∙ b))

  -- a name that is declared so has a first signal
  module _ (ss : List Signal) (i : ℕ) (m : ModuleDeclaration) (h : Head) (o : Opened m i (length ss) h) (n : Text) (E : Declared → Type 0) (q : Standing m (length ss) h n E) where
    abbrev new_id : ℕ
    new_id = length ss + q.start

    some_words : (s : Signal) (words : Option (ℕ × ℕ)) → WordsFit s words → 0 < word_count words
    some_words s None f = omega arith
    some_words s (Some w) f = let l = f.0 in omega (arith, l)

    some_word : 0 < word_count q.item.words
    some_word = some_words q.item.signal q.item.words q.one.2.1

    new_there : q.start < length h.signals
    new_there = let l = some_word in let r = q.window.room in omega (arith, l, r)

    new_is : signal_at (ss ++ h.signals) new_id ≡ placed_word q.item.signal q.item.words 0
    new_is =
        let z : length ss + q.start - length ss ≡ q.start + 0 = omega arith in
        get_or-append_right ss h.signals (length ss) new_id no_signal refl (omega arith) ∙ (ap (λ (k : ℕ). signal_at h.signals k) z ∙ q.window.are 0 some_word)

    -- all words of a declaration have its name and its port
    same_name : (s : Signal) (words : Option (ℕ × ℕ)) (t : ℕ) → (placed_word s words t).name ≡ s.name
    same_name s None t = refl
    same_name s (Some w) t = refl

    same_port : (s : Signal) (words : Option (ℕ × ℕ)) (t : ℕ) → (placed_word s words t).port ≡ s.port
    same_port s None t = refl
    same_port s (Some w) t = refl

    same_word : (s : Signal) (words : Option (ℕ × ℕ)) (t : ℕ) → s.word ≡ None → is_some (placed_word s words t).word ≡ is_some words
    same_word s None t e = ap (λ (o : Option ℕ). is_some o) e
    same_word s (Some w) t e = refl

    new_instance : (signal_at (ss ++ h.signals) new_id).instance ≡ i
    new_instance =
        let z : length ss + q.start - length ss ≡ q.start = omega arith in
        ap (λ (s : Signal). s.instance) (get_or-append_right ss h.signals (length ss) new_id no_signal refl (omega arith) ∙ ap (λ (k : ℕ). signal_at h.signals k) z)
        ∙ all_index (λ (s : Signal). s.instance ≡ i) h.signals q.start no_signal o.own new_there

    new_named : Is (ss ++ h.signals) i n new_id
    new_named = (
      omega (arith, new_there, length-append ss h.signals),
      (new_instance, ap (λ (s : Signal). s.name) new_is ∙ (same_name q.item.signal q.item.words 0 ∙ q.named)),
    )

    new_port : (signal_at (ss ++ h.signals) new_id).port ≡ q.item.signal.port
    new_port = ap (λ (s : Signal). s.port) new_is ∙ same_port q.item.signal q.item.words 0

    new_word : is_some (signal_at (ss ++ h.signals) new_id).word ≡ is_some q.item.words
    new_word = ap (λ (s : Signal). is_some s.word) new_is ∙ same_word q.item.signal q.item.words 0 q.one.2.0

  filled_new : (ss : List Signal) (i : ℕ) (m : ModuleDeclaration) (h : Head) → Opened m i (length ss) h → Filled (ss ++ h.signals) i m
  filled_new ss i m h o = record {
    has = λ n memory c.
        let E : Declared → Type 0 = λ x. is_some x.words ≡ memory in
        let q = o.has n memory c in
        (length ss + q.start, (new_named ss i m h o n E q, new_word ss i m h o n E q ∙ q.so));
    port = λ n c.
        let E : Declared → Type 0 = λ x. is_port x.signal.port ≡ true in
        let q = o.port n c in
        (length ss + q.start, (new_named ss i m h o n E q, ap is_port (new_port ss i m h o n E q) ∙ q.so));
    way = λ p n c k.
        let E : Declared → Type 0 = λ x. x.signal.port ≡ way_of p.dir in
        let q = o.way p n c k in
        (length ss + q.start, (new_named ss i m h o n E q, new_port ss i m h o n E q ∙ q.so));
    apart = o.apart;
  }

  -- what an entry is after one more
  pub last_entry : {X : Type 0} (xs : List X) (x d : X) (i : ℕ) → i ≡ length xs → get_or (xs ++ x ∷ []) i d ≡ x
  last_entry xs x d i e =
      let z : i - length xs ≡ 0 = omega (arith, e) in
      get_or-append_right xs (x ∷ []) (length xs) i d refl (omega (arith, e)) ∙ ap (λ (k : ℕ). get_or (x ∷ []) k d) z

  placed_more : (ss more : List Signal) (ns : List Names) (scope : Names) (os : List ℕ) (k id : ℕ) (s : Signal) → length os ≡ length ns → id < length ss → Placed ss ns os id s → Placed (ss ++ more) (ns ++ scope ∷ []) (os ++ k ∷ []) id s
  placed_more ss more ns scope os k id s even inside p =
      let l = p.there in
      let a : get_or (ns ++ scope ∷ []) s.instance [] ≡ get_or ns s.instance [] = get_or_append_left ns (scope ∷ []) [] s.instance l in
      let b : get_or (os ++ k ∷ []) s.instance 0 ≡ get_or os s.instance 0 = get_or_append_left os (k ∷ []) 0 s.instance (omega (arith, l, even)) in
      record {
        there = omega (arith, l, length-append ns (scope ∷ []));
        named = record { meaning = p.named.meaning; found = ap (λ (z : Names). lookup s.name z) a ∙ p.named.found; stands = stands_more ss more s.instance s.name p.named.meaning id inside p.named.stands };
        declared = subst (λ (z : ℕ). DeclaresAs (module_at ms z) (is_some s.word) s.name) (sym b) p.declared;
        listed = subst (λ (z : ℕ). is_port s.port ≡ true → Contains (ports_of (module_at ms z)) s.name) (sym b) p.listed;
        whole = p.whole;
      }

  -- a signal of a head is one of those for which its name stands
  module _ (ss : List Signal) (m : ModuleDeclaration) (i : ℕ) (h : Head) (o : Opened m i (length ss) h) (j : ℕ) (l : j < length h.signals) (c : Covered (IsOne m) h.signals h.scope (length ss) j) where
    abbrev all : List Signal
    all = ss ++ h.signals

    old_is : (k : ℕ) → signal_at all (length ss + k) ≡ signal_at h.signals k
    old_is k =
        let z : length ss + k - length ss ≡ k = omega arith in
        get_or-append_right ss h.signals (length ss) (length ss + k) no_signal refl (omega arith) ∙ ap (λ (n : ℕ). signal_at h.signals n) z

    own_at : (k : ℕ) → k < length h.signals → (signal_at all (length ss + k)).instance ≡ i
    own_at k m = ap (λ (s : Signal). s.instance) (old_is k) ∙ all_index (λ (s : Signal). s.instance ≡ i) h.signals k no_signal o.own m

    -- by the words of its declaration
    stands_new : (s : Signal) (words : Option (ℕ × ℕ)) → s.word ≡ None → WordsFit s words → c.start + word_count words ≤ length h.signals → c.place < word_count words →
        ((t : ℕ) → t < word_count words → signal_at h.signals (c.start + t) ≡ placed_word s words t) → StandsFor all i s.name (words_entity (length ss + c.start) s words) (length ss + j)
    stands_new s None e f room inside are =
        let z : c.place ≡ 0 = omega (arith, inside) in
        let is = c.is in
        let n : j ≡ c.start + 0 = omega (arith, is, z) in
        let same : signal_at all (length ss + j) ≡ s = old_is j ∙ (ap (λ (k : ℕ). signal_at h.signals k) n ∙ are 0 (omega arith)) in
        (omega (arith, is, z), ap (λ (x : Signal). x.range) same, ap (λ (x : Signal). x.signed) same, ap (λ (x : Signal). x.word) same ∙ e)
    stands_new s (Some w) e f room inside are =
        let is = c.is in
        let same : (k : ℕ) → k < w.1 → signal_at all (length ss + c.start + k) ≡ indexed_word s w.0 k =
        λ k m. let y : length ss + c.start + k ≡ length ss + (c.start + k) = omega arith in ap (λ (n : ℕ). signal_at all n) y ∙ (old_is (c.start + k) ∙ are k m) in (
          omega (arith, is),
          omega (arith, is, inside),
          record {
            is = λ k m.
                let y : length ss + c.start + k ≡ length ss + (c.start + k) = omega arith in (
                  omega (arith, m, room, length-append ss h.signals),
                  (ap (λ (n : ℕ). (signal_at all n).instance) y ∙ own_at (c.start + k) (omega (arith, m, room)), ap (λ (x : Signal). x.name) (same k m)),
                );
            word = λ k m. record {
              range = ap (λ (x : Signal). x.range) (same k m);
              signed = ap (λ (x : Signal). x.signed) (same k m);
              word = ap (λ (x : Signal). x.word) (same k m);
              variable = ap (λ (x : Signal). x.variable) (same k m) ∙ f.1;
              port = ap (λ (x : Signal). x.port) (same k m) ∙ f.2;
            };
          },
        )

    here_is : signal_at h.signals j ≡ placed_word c.item.signal c.item.words c.place
    here_is = ap (λ (k : ℕ). signal_at h.signals k) c.is ∙ c.window.are c.place c.inside

    here_name : (signal_at h.signals j).name ≡ c.item.signal.name
    here_name = ap (λ (s : Signal). s.name) here_is ∙ by c.item.words
      where
        by : (words : Option (ℕ × ℕ)) → (placed_word c.item.signal words c.place).name ≡ c.item.signal.name
        by None = refl
        by (Some w) = refl

    here_port : (signal_at h.signals j).port ≡ c.item.signal.port
    here_port = ap (λ (s : Signal). s.port) here_is ∙ by c.item.words
      where
        by : (words : Option (ℕ × ℕ)) → (placed_word c.item.signal words c.place).port ≡ c.item.signal.port
        by None = refl
        by (Some w) = refl

    here_word : is_some (signal_at h.signals j).word ≡ is_some c.item.words
    here_word = ap (λ (s : Signal). is_some s.word) here_is ∙ by c.item.words
      where
        by : (words : Option (ℕ × ℕ)) → is_some (placed_word c.item.signal words c.place).word ≡ is_some words
        by None = ap (λ (o : Option ℕ). is_some o) c.has.2.0
        by (Some w) = refl

    here_named : Named all i (signal_at h.signals j).name h.scope (length ss + j)
    here_named =
        subst (λ (n : Text). Named all i n h.scope (length ss + j)) (sym here_name)
        (record { meaning = entity_of (length ss + c.start) c.item; found = c.window.found; stands = stands_new c.item.signal c.item.words c.has.2.0 c.has.2.1 c.window.room c.inside c.window.are })

    here_declared : DeclaresAs m (is_some (signal_at h.signals j).word) (signal_at h.signals j).name
    here_declared =
        subst (λ (n : Text). DeclaresAs m (is_some (signal_at h.signals j).word) n) (sym here_name) (subst (λ (b : Bool). DeclaresAs m b c.item.signal.name) (sym here_word) c.has.0)

    here_listed : is_port (signal_at h.signals j).port ≡ true → Contains (ports_of m) (signal_at h.signals j).name
    here_listed p = subst (Contains (ports_of m)) (sym here_name) (c.has.1 (sym (ap is_port here_port) ∙ p))

    -- a port has no words
    here_whole : is_port (signal_at h.signals j).port ≡ true → (signal_at h.signals j).word ≡ None
    here_whole p = by c.item.words refl c.has.2.1
      where
        by : (words : Option (ℕ × ℕ)) → c.item.words ≡ words → WordsFit c.item.signal words → (signal_at h.signals j).word ≡ None
        by None q f = is_none_of (signal_at h.signals j).word (here_word ∙ ap (λ (o : Option (ℕ × ℕ)). is_some o) q)
        by (Some w) q f = absurd (both_ways (is_port Inner) refl (sym (ap is_port (here_port ∙ f.2)) ∙ p))

  placed_new : (ss : List Signal) (ns : List Names) (os : List ℕ) (k : ℕ) (h : Head) → length os ≡ length ns → Opened (module_at ms k) (length ns) (length ss) h → (j : ℕ) → j < length h.signals →
      Placed (ss ++ h.signals) (ns ++ h.scope ∷ []) (os ++ k ∷ []) (length ss + j) (signal_at h.signals j)
  placed_new ss ns os k h even o j l =
      let m : ModuleDeclaration = module_at ms k in
      let s : Signal = signal_at h.signals j in
      let c = o.covered j l in
      let e : s.instance ≡ length ns = all_index (λ (z : Signal). z.instance ≡ length ns) h.signals j no_signal o.own l in
      let a : get_or (ns ++ h.scope ∷ []) s.instance [] ≡ h.scope = last_entry ns h.scope [] s.instance e in
      let b : get_or (os ++ k ∷ []) s.instance 0 ≡ k = last_entry os k 0 s.instance (e ∙ sym even) in
      record {
        there = omega (arith, e, length-append ns (h.scope ∷ []));
        named = subst (λ (z : Names). Named (ss ++ h.signals) s.instance s.name z (length ss + j)) (sym a)
            (subst (λ (z : ℕ). Named (ss ++ h.signals) z s.name h.scope (length ss + j)) (sym e) (here_named ss m (length ns) h o j l c));
        declared = subst (λ (z : ℕ). DeclaresAs (module_at ms z) (is_some s.word) s.name) (sym b) (here_declared ss m (length ns) h o j l c);
        listed = subst (λ (z : ℕ). is_port s.port ≡ true → Contains (ports_of (module_at ms z)) s.name) (sym b) (here_listed ss m (length ns) h o j l c);
        whole = here_whole ss m (length ns) h o j l c;
      }

  pub fine_opened : (k : ℕ) (h : Head) (w : Walked) → FineWalk w → Opened (module_at ms k) (length w.flat.scopes) (length w.flat.signals) h → FineWalk (opened k h (loop_names (module_at ms k)) w)
  fine_opened k h w f o =
      let ss = w.flat.signals in
      let ns = w.flat.scopes in
      let os = w.flat.owners in
      record {
        even = length-append os (k ∷ []) ∙ (ap (λ (n : ℕ). n + 1) f.even ∙ sym (length-append ns (h.scope ∷ [])));
        one = λ id l. elim (cases_lt id (length ss)) [
          | inl m ↦
              subst (Placed (ss ++ h.signals) (ns ++ h.scope ∷ []) (os ++ k ∷ []) id) (sym (get_or_append_left ss h.signals no_signal id m)) (placed_more ss h.signals ns h.scope os k id (signal_at ss id) f.even m (f.one id m))
          | inr m ↦
              let j : ℕ = id - length ss in
              let z : length ss + j ≡ id = omega (arith, m) in
              let e : signal_at (ss ++ h.signals) id ≡ signal_at h.signals j = get_or-append_right ss h.signals (length ss) id no_signal refl m in
              subst (Placed (ss ++ h.signals) (ns ++ h.scope ∷ []) (os ++ k ∷ []) id) (sym e)
              (subst (λ (i : ℕ). Placed (ss ++ h.signals) (ns ++ h.scope ∷ []) (os ++ k ∷ []) i (signal_at h.signals j)) z (placed_new ss ns os k h f.even o j (omega (arith, l, m, length-append ss h.signals))))
        ];
        filled = λ i l. elim (cases_lt i (length ns)) [
          | inl m ↦
              let b : get_or (os ++ k ∷ []) i 0 ≡ get_or os i 0 = get_or_append_left os (k ∷ []) 0 i (let e = f.even in omega (arith, m, e)) in
              subst (λ (z : ℕ). Filled (ss ++ h.signals) i (module_at ms z)) (sym b) (filled_more ss h.signals i (module_at ms (get_or os i 0)) (f.filled i m))
          | inr m ↦
              let e : i ≡ length ns = omega (arith, l, m, length-append ns (h.scope ∷ [])) in
              let b : get_or (os ++ k ∷ []) i 0 ≡ k = last_entry os k 0 i (e ∙ sym f.even) in
              subst (λ (z : ℕ). Filled (ss ++ h.signals) i (module_at ms z)) (sym b) (subst (λ (z : ℕ). Filled (ss ++ h.signals) z (module_at ms k)) (sym e) (filled_new ss (length ns) (module_at ms k) h o))
        ];
      }

  -- the name of an instance

  still_found : (ns : List Names) (i : ℕ) (name : Text) (k : ℕ) (n : Text) (x : Entity) → lookup n (get_or ns k []) ≡ Some x → k < length ns → lookup n (get_or (slice_set ns i (with_name (get_or ns i []) name entity.Instance)) k []) ≡ Some x
  still_found ns i name k n x h l = elim (cases_eq k i) [
    | inl e ↦
        let m : i < length ns = omega (arith, l, e) in
        ap (λ (z : ℕ). lookup n (get_or (slice_set ns i (with_name (get_or ns i []) name entity.Instance)) z [])) e
        ∙ (ap (λ (z : Names). lookup n z) (get_or-set_same ns i (with_name (get_or ns i []) name entity.Instance) [] m) ∙ with_stays (get_or ns i []) name n x entity.Instance (ap (λ (z : ℕ). lookup n (get_or ns z [])) (sym e) ∙ h))
    | inr differs ↦ ap (λ (z : Names). lookup n z) (get_or-set_other ns i k (with_name (get_or ns i []) name entity.Instance) [] differs) ∙ h
  ]

  pub fine_named : (i : ℕ) (name : Text) (w : Walked) → FineWalk w → FineWalk (with_instance i name w)
  fine_named i name w f =
      let e = length-set w.flat.scopes i (with_name (scope_at w i) name entity.Instance) in
      record {
        even = f.even ∙ sym e;
        one = λ id l. let p = f.one id l in
            let s : Signal = signal_at w.flat.signals id in
            let t = p.there in
            record {
              there = omega (arith, t, e);
              named = record { meaning = p.named.meaning; found = still_found w.flat.scopes i name s.instance s.name p.named.meaning p.named.found t; stands = p.named.stands };
              declared = p.declared;
              listed = p.listed;
              whole = p.whole;
            };
        filled = λ k l. f.filled k (omega (arith, l, e));
      }

  -- The walk

  abbrev pub Enters : Enter → Type 0
  Enters sub = (k : ℕ) (given : Names) (w t : Walked) → FineWalk w → sub k given w ≡ Ok t → FineWalk t

  pub after_instance : (above : List ℕ) (i : ℕ) (sub : Enter) (at : ℕ) (over : Option Connections) (o : Option ℕ) → Enters sub → (x : ModuleInstance) (w t : Walked) → FineWalk w → instance_of ms above i sub at over o x w ≡ Ok t → FineWalk t
  unfolding instance_of
  after_instance above i sub at over None s x w t f e = absurd (not_ok _ t e)
  after_instance above i sub at over (Some k) s x w t f e =
      let r = inside ms above i sub at over k x w t e in
      let j = joined_same i (length w.flat.scopes) (module_at ms k) x.connections r.mid in
      subst FineWalk r.is (fine_same r.mid (joined i (length w.flat.scopes) (module_at ms k) x.connections r.mid) j (s k r.given (with_instance i x.text w) r.mid (fine_named i x.text w f) r.walked))

  pub after_item : (table : Names) (above : List ℕ) (i : ℕ) (sub : Enter) → Enters sub → (x : ModuleItem) (w t : Walked) → FineWalk w → item ms table above i sub x w ≡ Ok t → FineWalk t
  unfolding item
  after_item table above i sub s (Ports p) w t f e = subst FineWalk (ok_is w t e) f
  after_item table above i sub s (Nets signed range list) w t f e = fine_same w t (each_same (net i) (net_same i) list w t e) f
  after_item table above i sub s (Variables signed range list) w t f e = subst FineWalk (ok_is w t e) f
  after_item table above i sub s (Integers list) w t f e = subst FineWalk (ok_is w t e) f
  after_item table above i sub s (Parameters p) w t f e = subst FineWalk (ok_is w t e) f
  after_item table above i sub s (Assigns pairs) w t f e = fine_same w t (each_same (assign i) (assign_same i) pairs w t e) f
  after_item table above i sub s (Always events body at) w t f e = fine_same w t (always_same i events body at w t e) f
  after_item table above i sub s (Initial body at) w t f e = fine_same w t (initial_same i body at w t e) f
  after_item table above i sub s (Instances m at over list) w t f e =
      each_keeps FineWalk (instance_of ms above i sub at over (place_of (lookup m table))) (λ x a b h q. after_instance above i sub at over (place_of (lookup m table)) s x a b h q) list w t f e

  after_enter_by : (table : Names) (sub : List ℕ → Enter) → ((above : List ℕ) → Enters (sub above)) → (above : List ℕ) → Enters (enter_by ms table sub above)
  after_enter_by table sub s above k given w t f e =
      let r = entered ms table sub above k given w t e in
      let b = began ms k given w r.mid r.began in
      let o = opened_head (length w.flat.scopes) (length w.flat.signals) w.bits given (module_at ms k) b.top b.found in
      each_keeps FineWalk (item ms table (above ++ k ∷ []) (length w.flat.scopes) (sub (above ++ k ∷ []))) (λ x a c h q. after_item table (above ++ k ∷ []) (length w.flat.scopes) (sub (above ++ k ∷ [])) (s (above ++ k ∷ [])) x a c h q)
      (module_at ms k).items r.mid t (subst FineWalk b.is (fine_opened k b.top w f o)) r.walked

  pub after_enter : (table : Names) (levels : ℕ) (above : List ℕ) → Enters (enter ms table levels above)
  unfolding enter
  after_enter table zero above k given w t f e = absurd (not_ok _ t e)
  after_enter table (suc levels) above k given w t f e = after_enter_by table (enter ms table levels) (after_enter table levels) above k given w t f e

  pub fine_nothing : (at : ℕ) → FineWalk (nothing None at)
  fine_nothing at = record { even = refl; one = λ id l. absurd (omega (arith, l)); filled = λ i l. absurd (omega (arith, l)) }

  pub after_top : (table : Names) (o : Option ℕ) (w : Walked) → enter_top None ms table o ≡ Ok w → FineWalk w
  after_top table None w e = absurd (not_ok _ w e)
  after_top table (Some k) w e = after_enter table 16 [] k [] (nothing None (module_at ms k).token) w (fine_nothing (module_at ms k).token) e

-- the walk of a source
pub record Walking (source : SourceText) (top : Option Text) (flat : Flat) : Type 0 where
  pub table : Names
  pub tabled : each add_module source.modules [] ≡ Ok table
  pub end : Walked
  pub walked : enter_top None source.modules table (top_place source.modules table top) ≡ Ok end
  pub is : finished source.modules end.flat ≡ flat

pub walking : (source : SourceText) (top : Option Text) (flat : Flat) → flat_of source top ≡ Ok flat → Walking source top flat
unfolding flat_by
walking source top flat e =
    let r = first_ok (each add_module source.modules []) (λ table. and_then (enter_top None source.modules table (top_place source.modules table top)) (λ w. Ok (finished source.modules w.flat))) flat e in
    let s = first_ok (enter_top None source.modules r.0 (top_place source.modules r.0 top)) (λ w. Ok (finished source.modules w.flat)) flat r.1.1 in
    record { table = r.0; tabled = r.1.0; end = s.0; walked = s.1.0; is = ok_is (finished source.modules s.0.flat) flat s.1.1 }

-- inputs and outputs
is_way : (p : Port) → (p ≡ Inner → ⊥) → is_port p ≡ true
is_way Inner h = absurd (h refl)
is_way Input h = refl
is_way Output h = refl

pub way_is : (p : Port) → is_port p ≡ true → p ≡ Inner → ⊥
way_is p h e = let n : is_port p ≡ false = ap is_port e in cc

pub fine_design : (source : SourceText) (top : Option Text) (flat : Flat) → flat_of source top ≡ Ok flat → Fine source.modules flat.signals flat.scopes flat.owners
fine_design source top flat e =
    let w = walking source top flat e in
    subst (λ (f : Flat). Fine source.modules f.signals f.scopes f.owners) w.is (after_top source.modules w.table (top_place source.modules w.table top) w.end w.walked)

same_entity : (e x : Entity) → Some e ≡ Some x → e ≡ x
same_entity e x h = cc

-- what else a name stands for
other_is : (ss : List Signal) (i : ℕ) (n : Text) (scope : Names) (other : ℕ) (e : Entity) → lookup n scope ≡ Some e → Named ss i n scope other → StandsFor ss i n e other
other_is ss i n scope other e f q = subst (λ (x : Entity). StandsFor ss i n x other) (same_entity q.meaning e (sym q.found ∙ f)) q.stands

memory_of : (flat : Flat) (i : ℕ) (n : Text) (id : ℕ) (e : Entity) → lookup n (get_or flat.scopes i []) ≡ Some e → StandsFor flat.signals i n e id → is_some (signal_at flat.signals id).word ≡ true →
    ((other : ℕ) → IsSignalOf flat i n other → Named flat.signals i n (get_or flat.scopes i []) other) → IsOneMemory flat i n
memory_of flat i n id (entity.Constant bits signed) f h w all = absurd h
memory_of flat i n id (entity.Signal k range signed) f h w all = absurd (both_ways (is_some (signal_at flat.signals id).word) (ap (λ (o : Option ℕ). is_some o) h.3) w)
memory_of flat i n id (entity.Memory first low words range signed) f h w all =
    let a = h.0 in
    let b = h.1 in
    record {
      first = first;
      low = low;
      words = words;
      range = range;
      signed = signed;
      some = omega (arith, a, b);
      is = λ k l. let o = h.2.is k l in record { there = o.0; instance = o.1.0; named = o.1.1 };
      word = h.2.word;
      alone = λ other s. let q = other_is flat.signals i n (get_or flat.scopes i []) other (entity.Memory first low words range signed) f (all other s) in (q.0, q.1);
      found = f;
    }
memory_of flat i n id entity.Instance f h w all = absurd h

pub names_of_design : (source : SourceText) (top : Option Text) (flat : Flat) → flat_of source top ≡ Ok flat → NamesAre source flat
names_of_design source top flat e =
    let f = fine_design source top flat e in
    let ev = f.even in
    let ss = flat.signals in
    let all : (i : ℕ) (n : Text) (other : ℕ) → IsSignalOf flat i n other → Named ss i n (get_or flat.scopes i []) other = λ i n other s. named_as source.modules ss flat.scopes flat.owners i n other f (s.there, (s.instance, s.named)) in
    record {
      one = λ i n l c.
          let h = (f.filled i (omega (arith, l, ev))).has n false c in
          let whole : (signal_at ss h.0).word ≡ None = is_none_of (signal_at ss h.0).word h.1.1 in
          let found = named_found source.modules ss flat.scopes flat.owners i n h.0 f h.1.0 whole in
          record {
            id = h.0;
            is = record { there = h.1.0.0; instance = h.1.0.1.0; named = h.1.0.1.1 };
            alone = λ other s. (other_is ss i n (get_or flat.scopes i []) other (entity.Signal h.0 (signal_at ss h.0).range (signal_at ss h.0).signed) found (all i n other s)).0;
            found = found;
            whole = whole;
          };
      memory = λ i n l c.
          let h = (f.filled i (omega (arith, l, ev))).has n true c in
          let q = named_as source.modules ss flat.scopes flat.owners i n h.0 f h.1.0 in
          memory_of flat i n h.0 q.meaning q.found q.stands h.1.1 (all i n);
      named = λ id l. let p = f.one id l in let t = p.there in record { there = omega (arith, t, ev); declared = p.declared; whole = λ q. p.whole (is_way (signal_at ss id).port q) };
      ports = λ i n l c.
          let h = (f.filled i (omega (arith, l, ev))).port n c in
          record { id = h.0; is = record { there = h.1.0.0; instance = h.1.0.1.0; named = h.1.0.1.1 }; port = way_is (signal_at ss h.0).port h.1.1 };
      ways = λ i p n l c k.
          let h = (f.filled i (omega (arith, l, ev))).way p n c k in
          record { id = h.0; is = record { there = h.1.0.0; instance = h.1.0.1.0; named = h.1.0.1.1 }; goes = h.1.1 };
      listed = λ id l p. (f.one id l).listed (is_way (signal_at ss id).port p);
    }
