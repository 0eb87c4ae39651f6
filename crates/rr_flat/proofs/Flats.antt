-- What a flat design keeps as it grows.
use Rattle.std.proofs.Common.{◌≡◌, ◌∙◌, sym, ap, ℕ, zero, suc, ◌+◌, ◌-◌, ◌^◌, ◌<◌, ◌≤◌, List, [], ◌∷◌, ◌++◌, length, map, All, Bool, true, false, cond, nat_lt, get_or, is_some, subst, refl, arith, length-append}
use Rattle.std.proofs.Math.Dec.{eqb}
use Rattle.std.proofs.lemmas.Bool.Decides.{nat_tests}
use Rattle.std.proofs.Math.ListN.{get_or-append, set}
use Rattle.std.proofs.lemmas.Bool.{eqb-true, eqb-false}
use Rattle.std.proofs.lemmas.List.{length-map, map-append, length-set, get_or-set_same, get_or-set_other, get_or-append-add}
use Rattle.std.proofs.lemmas.List.Elements.{All-head, All-tail, All-push, All-weaker, All-append, All-set, All-get_or}
use Rattle.rr_syntax.specs.Tree.{Connections}
use Rattle.rr_syntax.specs.View.{plain, plain_statement}
use Rattle.rr_expr.specs.Scopes.{Names, lookup, meant}
use Rattle.rr_expr.specs.declared.types.Entity.{Entity}
use Rattle.rr_expr.specs.declared.types.Entity.TheVariants as entity
use Rattle.rr_flat.specs.declared.signal.Signal.{Signal}
use Rattle.rr_flat.specs.Signals.{with_name}
use Rattle.rr_flat.specs.Signals as plain_signals
use Rattle.rr_flat.specs.Signals.{signal_at, no_signal}
use Rattle.rr_flat.specs.View.{plain_signal}
use Rattle.rr_flat.specs.Sound.{IsWord, IsNamed, AreNamed, IsOwn, IsHead}
use Rattle.rr_flat.specs.declared.design.Side as declared_side
use Rattle.rr_flat.specs.declared.design.Side.TheVariants as side
use Rattle.rr_flat.specs.declared.design.Driver.{Driver}
use Rattle.rr_flat.specs.declared.design.Block.{Block}
use Rattle.rr_flat.specs.declared.design.Initial.{Initial}
use Rattle.rr_flat.specs.declared.design.Part as design
use Rattle.rr_flat.specs.Sound.{IsSignal, IsScope, names_at, IsSide, IsDriver, IsBlock, IsInitial, AreStarts, AreConnected, IsFlat}
use Rattle.rr_flat.proofs.Alike.{Alike, alike_named, expression_alike, statement_alike, connected_alike}

-- scopes that are as they were for each name, and perhaps more
abbrev AsBefore : List Names → List Names → Type 0
AsBefore before after = (length before ≤ length after) × ((j : ℕ) → j < length before → Alike (names_at before j) (names_at after j))

side_later : (signals more : List Signal) (before after : List Names) (s : declared_side.Side) → length signals ≤ length more → AsBefore before after → IsSide signals before s → IsSide more after s
side_later signals more before after (side.Text e scope) le h i = (omega (arith, h.0, i.0), expression_alike (names_at before scope) (names_at after scope) (plain e.now) (h.1 scope i.0) i.1)
side_later signals more before after (side.Whole id) le h i = omega (arith, le, i)

driver_later : (signals more : List Signal) (before after : List Names) (d : Driver) → length signals ≤ length more → AsBefore before after → IsDriver signals before d → IsDriver more after d
driver_later signals more before after d le h i = record {
  target = side_later signals more before after d.target le h i.target;
  value = side_later signals more before after d.value le h i.value;
}

block_later : (before after : List Names) (b : Block) → AsBefore before after → IsBlock before b → IsBlock after b
block_later before after b h i = record {
  there = omega (arith, h.0, i.there);
  body = statement_alike (names_at before b.scope) (names_at after b.scope) (plain_statement b.body.now) (h.1 b.scope i.there) i.body;
}

initial_later : (before after : List Names) (x : Initial) → AsBefore before after → IsInitial before x → IsInitial after x
initial_later before after x h i = record {
  there = omega (arith, h.0, i.there);
  body = statement_alike (names_at before x.scope) (names_at after x.scope) (plain_statement x.body.now) (h.1 x.scope i.there) i.body;
}

signal_later : (j k : ℕ) (s : Signal) → j ≤ k → IsSignal j s → IsSignal k s
signal_later j k s le h = record { instance = omega (arith, le, h.instance); width = h.width; low = h.low; high = h.high; start = h.start }

signal_of : (i k : ℕ) (s : Signal) → i < k → IsOwn i s → IsSignal k s
signal_of i k s lt h = record { instance = rw h.instance lt; width = h.width; low = h.low; high = h.high; start = h.start }

-- the first signals stay where they are, and those of a head come after them

entity_first : (signals more : List plain_signals.Signal) (e : Entity) → IsNamed 0 signals e → IsNamed 0 (signals ++ more) e
entity_first signals more (entity.Constant bits signed) h = tt
entity_first signals more (entity.Signal id range signed) h =
    let lt : id - 0 < length signals = omega (arith, h.1) in
    let at : signal_at (signals ++ more) (id - 0) ≡ signal_at signals (id - 0) = get_or-append signals more no_signal (id - 0) lt in
    (omega arith, omega (arith, h.1, length-append signals more), ap (λ s. s.range) at ∙ h.2, ap (λ s. s.signed) at ∙ h.3)
entity_first signals more (entity.Memory first low words range signed) h = (
  omega arith,
  omega (arith, h.1, length-append signals more),
  h.2,
  λ k lt. subst (λ (z : plain_signals.Signal). IsWord low range signed k z) (sym (get_or-append signals more no_signal (first + k - 0) (omega (arith, h.1, lt)))) (h.3 k lt),
)
entity_first signals more entity.Instance h = tt

entity_of_head : (base : ℕ) (signals more : List plain_signals.Signal) (e : Entity) → base ≡ length signals → IsNamed base more e → IsNamed 0 (signals ++ more) e
entity_of_head base signals more (entity.Constant bits signed) b h = tt
entity_of_head base signals more (entity.Signal id range signed) b h =
    let n : id - 0 ≡ length signals + (id - base) = omega (arith, b, h.0) in
    let at : signal_at (signals ++ more) (id - 0) ≡ signal_at more (id - base) = rw n (get_or-append-add signals more (id - base) no_signal) in
    (omega arith, omega (arith, b, h.1, length-append signals more), ap (λ s. s.range) at ∙ h.2, ap (λ s. s.signed) at ∙ h.3)
entity_of_head base signals more (entity.Memory first low words range signed) b h =
    (omega arith, omega (arith, b, h.1, length-append signals more), h.2, λ k lt. subst (λ (z : plain_signals.Signal). IsWord low range signed k z) (sym (at k)) (h.3 k lt))
  where
    at : (k : ℕ) → signal_at (signals ++ more) (first + k - 0) ≡ signal_at more (first + k - base)
    at k =
        let n : first + k - 0 ≡ length signals + (first + k - base) = omega (arith, b, h.0) in
        rw n (get_or-append-add signals more (first + k - base) no_signal)
entity_of_head base signals more entity.Instance b h = tt

scope_first : (signals more : List Signal) (names : Names) → IsScope signals names → IsScope (signals ++ more) names
scope_first signals more names h =
    rw (map-append plain_signal signals more) (All-weaker (λ e. IsNamed 0 (map plain_signal signals) e.1) (λ e. IsNamed 0 (map plain_signal signals ++ map plain_signal more) e.1) (λ e. entity_first (map plain_signal signals) (map plain_signal more) e.1) names h)

scope_of_head : (base : ℕ) (signals more : List Signal) (names : Names) → base ≡ length signals → AreNamed base (map plain_signal more) names → IsScope (signals ++ more) names
scope_of_head base signals more names b h =
    let n : base ≡ length (map plain_signal signals) = b ∙ sym (length-map signals plain_signal) in
    rw (map-append plain_signal signals more) (All-weaker (λ e. IsNamed base (map plain_signal more) e.1) (λ e. IsNamed 0 (map plain_signal signals ++ map plain_signal more) e.1) (λ e. entity_of_head base (map plain_signal signals) (map plain_signal more) e.1 n) names h)

-- one more instance

as_opened : (scopes : List Names) (scope : Names) → AsBefore scopes (scopes ++ scope ∷ [])
as_opened scopes scope = (omega (arith, length-append scopes (scope ∷ [])), λ j lt n. ap (λ s. meant s n) (sym (get_or-append scopes (scope ∷ []) [] j lt)))

-- the starting values of declarations come after those that are there

starts_opened : (i : ℕ) (signals more : List Signal) (starts : List ℕ) → AreStarts signals starts → All (λ s. IsOwn i s) more → AreStarts (signals ++ more) (starts ++ map (λ s. s.start) more)
starts_opened i signals more starts a own = record {
  all = omega (arith, length-append signals more, length-append starts (map (λ s. s.start) more), length-map more (λ (s : Signal). s.start), a.all);
  fit = λ id lt. rw (map-append plain_signal signals more) (fits id (nat_lt id (length signals)) refl lt);
}
  where
    first : (id : ℕ) → id < length signals → get_or (starts ++ map (λ s. s.start) more) id 0 < 2 ^ (signal_at (map plain_signal signals ++ map plain_signal more) id).width
    first id lt =
        rw (get_or-append starts (map (λ s. s.start) more) 0 id (omega (arith, lt, a.all)), get_or-append (map plain_signal signals) (map plain_signal more) no_signal id (omega (arith, lt, length-map signals plain_signal))) (a.fit id lt)

    start_is : (xs : List Signal) (k : ℕ) → k < length xs → get_or (map (λ s. s.start) xs) k 0 ≡ (signal_at (map plain_signal xs) k).start
    start_is [] k lt = absurd (omega (arith, lt))
    start_is (x ∷ xs) zero lt = refl
    start_is (x ∷ xs) (suc k) lt = start_is xs k (omega (arith, lt))

    own_fit : (xs : List Signal) (k : ℕ) → All (λ s. IsOwn i s) xs → k < length xs → (signal_at (map plain_signal xs) k).start < 2 ^ (signal_at (map plain_signal xs) k).width
    own_fit [] k h lt = absurd (omega (arith, lt))
    own_fit (x ∷ xs) zero h lt = (All-head (λ s. IsOwn i s) x xs h).start
    own_fit (x ∷ xs) (suc k) h lt = own_fit xs k (All-tail (λ s. IsOwn i s) x xs h) (omega (arith, lt))

    second : (id k : ℕ) → id ≡ length signals + k → k < length more → get_or (starts ++ map (λ s. s.start) more) id 0 < 2 ^ (signal_at (map plain_signal signals ++ map plain_signal more) id).width
    second id k e lt =
        let at : id ≡ length starts + k = omega (arith, e, a.all) in
        let here : get_or (starts ++ map (λ s. s.start) more) id 0 ≡ get_or (map (λ s. s.start) more) k 0 = rw at (get_or-append-add starts (map (λ s. s.start) more) k 0) in
        let place : id ≡ length (map plain_signal signals) + k = omega (arith, e, length-map signals plain_signal) in
        let there : signal_at (map plain_signal signals ++ map plain_signal more) id ≡ signal_at (map plain_signal more) k = rw place (get_or-append-add (map plain_signal signals) (map plain_signal more) k no_signal) in
        rw (here, there, start_is more k lt) (own_fit more k own lt)

    fits : (id : ℕ) (b : Bool) → nat_lt id (length signals) ≡ b → id < length (signals ++ more) → get_or (starts ++ map (λ s. s.start) more) id 0 < 2 ^ (signal_at (map plain_signal signals ++ map plain_signal more) id).width
    fits id true e lt = first id (grind (arith, nat_tests))
    fits id false e lt = second id (id - length signals) (grind (arith, nat_tests)) (grind (arith, nat_tests, length-append signals more))

-- another starting value of a signal

pub flat_started : (signals : List Signal) (scopes : List Names) (drivers : List Driver) (clocked combinational : List Block) (walk : List design.Part) (inputs outputs owners starts : List ℕ) (initials : List Initial) (id v : ℕ)
    → IsFlat signals scopes drivers clocked combinational walk inputs outputs owners starts initials → id < length signals → v < 2 ^ (signal_at (map plain_signal signals) id).width
    → IsFlat signals scopes drivers clocked combinational walk inputs outputs owners (set starts id v) initials
flat_started signals scopes drivers clocked combinational walk inputs outputs owners starts initials id v f lt fit = record {
  signals_in = f.signals_in;
  starts_in = record { all = length-set starts id v ∙ f.starts_in.all; fit = λ j there. go j (eqb j id) refl there };
  scopes_in = f.scopes_in;
  drivers_in = f.drivers_in;
  clocked_in = f.clocked_in;
  combinational_in = f.combinational_in;
  initials_in = f.initials_in;
  walked = f.walked;
  inputs_in = f.inputs_in;
  outputs_in = f.outputs_in;
  owned = f.owned;
  numbers = f.numbers;
  instances = f.instances;
}
  where
    same : (j : ℕ) → j ≡ id → get_or (set starts id v) j 0 < 2 ^ (signal_at (map plain_signal signals) j).width
    same j e = rw (e, get_or-set_same starts id v 0 (omega (arith, lt, f.starts_in.all))) fit

    go : (j : ℕ) (b : Bool) → eqb j id ≡ b → j < length signals → get_or (set starts id v) j 0 < 2 ^ (signal_at (map plain_signal signals) j).width
    go j true e there = same j (eqb-true j id e)
    go j false e there = rw (get_or-set_other starts id j v 0 (eqb-false j id e)) (f.starts_in.fit j there)

pub flat_opened : (signals more : List Signal) (scopes : List Names) (scope : Names) (drivers : List Driver) (clocked combinational : List Block) (walk : List design.Part) (inputs outputs owners starts : List ℕ) (initials : List Initial) (i base bits owner : ℕ)
    → IsFlat signals scopes drivers clocked combinational walk inputs outputs owners starts initials → IsHead i base bits more scope → i ≡ length scopes → base ≡ length signals → length scopes < 256
    → IsFlat (signals ++ more) (scopes ++ scope ∷ []) drivers clocked combinational walk inputs outputs (owners ++ owner ∷ []) (starts ++ map (λ s. s.start) more) initials
flat_opened signals more scopes scope drivers clocked combinational walk inputs outputs owners starts initials i base bits owner f h here there few =
    let n : length (scopes ++ scope ∷ []) ≡ length scopes + 1 = length-append scopes (scope ∷ []) in
    let m : length (signals ++ more) ≡ length signals + length more = length-append signals more in
    let k : length (owners ++ owner ∷ []) ≡ length owners + 1 = length-append owners (owner ∷ []) in
    let later = as_opened scopes scope in
    record {
      signals_in = All-append (λ s. IsSignal (length (scopes ++ scope ∷ [])) s) signals more
          (All-weaker (λ s. IsSignal (length scopes) s) (λ s. IsSignal (length (scopes ++ scope ∷ [])) s) (λ s. signal_later _ _ s (omega (arith, n))) signals f.signals_in)
          (All-weaker (λ s. IsOwn i s) (λ s. IsSignal (length (scopes ++ scope ∷ [])) s) (λ s. signal_of i _ s (omega (arith, n, here))) more h.signals_in);
      starts_in = starts_opened i signals more starts f.starts_in h.signals_in;
      scopes_in = All-push (λ s. IsScope (signals ++ more) s) scopes scope
          (All-weaker (λ s. IsScope signals s) (λ s. IsScope (signals ++ more) s) (λ s. scope_first signals more s) scopes f.scopes_in)
          (scope_of_head base signals more scope there h.scope_in);
      drivers_in = All-weaker (λ d. IsDriver signals scopes d) (λ d. IsDriver (signals ++ more) (scopes ++ scope ∷ []) d) (λ d. driver_later signals (signals ++ more) scopes (scopes ++ scope ∷ []) d (omega (arith, m)) later) drivers f.drivers_in;
      clocked_in = All-weaker (λ b. IsBlock scopes b) (λ b. IsBlock (scopes ++ scope ∷ []) b) (λ b. block_later scopes (scopes ++ scope ∷ []) b later) clocked f.clocked_in;
      combinational_in = All-weaker (λ b. IsBlock scopes b) (λ b. IsBlock (scopes ++ scope ∷ []) b) (λ b. block_later scopes (scopes ++ scope ∷ []) b later) combinational f.combinational_in;
      initials_in = All-weaker (λ b. IsInitial scopes b) (λ b. IsInitial (scopes ++ scope ∷ []) b) (λ b. initial_later scopes (scopes ++ scope ∷ []) b later) initials f.initials_in;
      walked = f.walked;
      inputs_in = All-weaker (λ id. id < length signals) (λ id. id < length (signals ++ more)) (λ id lt. omega (arith, m, lt)) inputs f.inputs_in;
      outputs_in = All-weaker (λ id. id < length signals) (λ id. id < length (signals ++ more)) (λ id lt. omega (arith, m, lt)) outputs f.outputs_in;
      owned = omega (arith, n, k, f.owned);
      numbers = omega (arith, m, there, h.numbers);
      instances = omega (arith, n, few);
    }

-- a name of an instance in instance i

as_named : (scopes : List Names) (i : ℕ) (name : List ℕ) → i < length scopes → AsBefore scopes (set scopes i (with_name (names_at scopes i) name entity.Instance))
as_named scopes i name lt = (omega (arith, length-set scopes i (with_name (names_at scopes i) name entity.Instance)), λ j le. go j (eqb j i) refl)
  where
    here : (j : ℕ) → j ≡ i → Alike (names_at scopes j) (names_at (set scopes i (with_name (names_at scopes i) name entity.Instance)) j)
    here j e n = rw (e, get_or-set_same scopes i (with_name (names_at scopes i) name entity.Instance) [] lt) (sym (alike_named (names_at scopes i) name n))

    go : (j : ℕ) (b : Bool) → eqb j i ≡ b → Alike (names_at scopes j) (names_at (set scopes i (with_name (names_at scopes i) name entity.Instance)) j)
    go j true e = here j (eqb-true j i e)
    go j false e = λ n. ap (λ s. meant s n) (sym (get_or-set_other scopes i j _ [] (eqb-false j i e)))

named_scope : (signals : List Signal) (names : Names) (name : List ℕ) → IsScope signals names → IsScope signals (with_name names name entity.Instance)
named_scope signals names name h = go (is_some (lookup name names))
  where
    go : (b : Bool) → IsScope signals (cond b names (names ++ (name, entity.Instance) ∷ []))
    go true = h
    go false = All-push (λ x. IsNamed 0 (map plain_signal signals) x.1) names (name, entity.Instance) h tt

pub flat_named : (signals : List Signal) (scopes : List Names) (drivers : List Driver) (clocked combinational : List Block) (walk : List design.Part) (inputs outputs owners starts : List ℕ) (initials : List Initial) (i : ℕ) (name : List ℕ)
    → IsFlat signals scopes drivers clocked combinational walk inputs outputs owners starts initials → i < length scopes
    → IsFlat signals (set scopes i (with_name (names_at scopes i) name entity.Instance)) drivers clocked combinational walk inputs outputs owners starts initials
flat_named signals scopes drivers clocked combinational walk inputs outputs owners starts initials i name f lt =
    let n : length (set scopes i (with_name (names_at scopes i) name entity.Instance)) ≡ length scopes = length-set scopes i _ in
    let later = as_named scopes i name lt in
    record {
      signals_in = All-weaker (λ s. IsSignal (length scopes) s) (λ s. IsSignal (length (set scopes i (with_name (names_at scopes i) name entity.Instance))) s) (λ s. signal_later _ _ s (omega (arith, n))) signals f.signals_in;
      starts_in = f.starts_in;
      scopes_in = All-set (λ s. IsScope signals s) scopes i _ (named_scope signals (names_at scopes i) name (All-get_or (λ s. IsScope signals s) scopes i [] lt f.scopes_in)) f.scopes_in;
      drivers_in = All-weaker (λ d. IsDriver signals scopes d) (λ d. IsDriver signals (set scopes i (with_name (names_at scopes i) name entity.Instance)) d) (λ d. driver_later signals signals scopes _ d (omega arith) later) drivers f.drivers_in;
      clocked_in = All-weaker (λ b. IsBlock scopes b) (λ b. IsBlock (set scopes i (with_name (names_at scopes i) name entity.Instance)) b) (λ b. block_later scopes _ b later) clocked f.clocked_in;
      combinational_in = All-weaker (λ b. IsBlock scopes b) (λ b. IsBlock (set scopes i (with_name (names_at scopes i) name entity.Instance)) b) (λ b. block_later scopes _ b later) combinational f.combinational_in;
      initials_in = All-weaker (λ b. IsInitial scopes b) (λ b. IsInitial (set scopes i (with_name (names_at scopes i) name entity.Instance)) b) (λ b. initial_later scopes _ b later) initials f.initials_in;
      walked = f.walked;
      inputs_in = f.inputs_in;
      outputs_in = f.outputs_in;
      owned = omega (arith, n, f.owned);
      numbers = f.numbers;
      instances = omega (arith, n, f.instances);
    }

pub flat_named_at : (signals : List Signal) (scopes : List Names) (drivers : List Driver) (clocked combinational : List Block) (walk : List design.Part) (inputs outputs owners starts : List ℕ) (initials : List Initial) (i : ℕ) (name : List ℕ) (old new : Names)
    → IsFlat signals scopes drivers clocked combinational walk inputs outputs owners starts initials → i < length scopes → old ≡ names_at scopes i → new ≡ with_name old name entity.Instance
    → IsFlat signals (set scopes i new) drivers clocked combinational walk inputs outputs owners starts initials
flat_named_at signals scopes drivers clocked combinational walk inputs outputs owners starts initials i name old new f lt o e =
    let same : new ≡ with_name (names_at scopes i) name entity.Instance = e ∙ ap (λ s. with_name s name entity.Instance) o in
    rw same (flat_named signals scopes drivers clocked combinational walk inputs outputs owners starts initials i name f lt)

-- the name of an instance in the walk

pub connected_named : (scopes next : List Names) (i : ℕ) (name : List ℕ) (c : Connections) → i < length scopes → next ≡ set scopes i (with_name (names_at scopes i) name entity.Instance)
    → AreConnected (names_at scopes i) c → AreConnected (names_at next i) c
connected_named scopes next i name c lt e h =
    let at : names_at next i ≡ with_name (names_at scopes i) name entity.Instance = ap (λ s. names_at s i) e ∙ get_or-set_same scopes i (with_name (names_at scopes i) name entity.Instance) [] lt in
    subst (λ s. AreConnected s c) (sym at) (connected_alike (names_at scopes i) (with_name (names_at scopes i) name entity.Instance) c (λ n. sym (alike_named (names_at scopes i) name n)) h)
