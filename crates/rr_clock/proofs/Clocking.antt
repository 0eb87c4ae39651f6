-- The clock that is found is the one clock, and where none is found there is none.
use Rattle.std.proofs.Common.{◌≡◌, ◌∙◌, sym, ap, subst, ℕ, zero, suc, ◌+◌, ◌<◌, ◌≤◌, ◌⊎◌, inl, inr, Bool, true, false, not, cond, ◌&&◌, ◌||◌, List, [], ◌∷◌, ◌++◌, length, map, get_or, take, Option, None, Some, is_some, is_none, refl, arith}
use Rattle.std.specs.Prelude.{flat_map, nat_eq}
use Rattle.std.specs.List.{list_any}
use Rattle.std.specs.Str.{bytes_eq}
use Rattle.std.proofs.lemmas.Bool.{cases_lt, eqb-true, eqb-false, eq-eqb, and_parts, and_from, and_cases, or_parts}
use Rattle.rr_syntax.specs.Tree.{EdgeEvent, Statement}
use Rattle.rr_expr.specs.Scopes.{Names, lookup, meant}
use Rattle.rr_flat.specs.Signals.{Text, signal_at}
use Rattle.rr_flat.specs.Clocks.{IsScalarInput, IsInputNamed, Leads, itself, NameLeads, EdgeLeads, IsChosen, IsDecided, IsDirection, FirstEdge, RunsOn, AllRun, OneClock, no_edge, is_among, free_edge, or_first, deciding_edge}
use Rattle.rr_flat.specs.Plain.{Block, Flat}
use Rattle.rr_flat.specs.Reads.{names_of}
use Rattle.rr_flat.specs.Writers.{scope_at, block_at, no_block}
use Rattle.rr_clock.specs.Clock.{AreSources, ClockFails, undecided, unclocked, IsNamed, IsOne, IsFirst, IsClockInput, HasInput, TellsLeads, source_named}
use Rattle.rr_text_names.specs.Firsts.{earliest}
use Rattle.rr_clock.specs.Found.{any_runs, by_all, by_clock, by_direction, deciding_source, first_rising, found, free_among, leads_by, or_deciding, or_free, runs_by, same_direction, unclocked_block}
use Rattle.rr_text_names.specs.Names.{is_the, scalar_of, scalar_named}
use Rattle.rr_clock.specs.declared.clock.Found.{Found}
use Rattle.rr_clock.specs.declared.clock.Found.TheVariants.{Clock, Nowhere}
use Rattle.rr_clock.proofs.Leading.{some_same, same_number, none_is, scalar_is, is_scalar_of, one_source, source_leads, leads_source}

pub is_the_yes : (clock : ℕ) (o : Option ℕ) → is_the clock o ≡ true → o ≡ Some clock
is_the_yes clock None h = cc
is_the_yes clock (Some c) h = ap Some (eqb-true c clock h)

pub is_the_no : (clock : ℕ) (o : Option ℕ) → is_the clock o ≡ false → o ≡ Some clock → ⊥
is_the_no clock None h e = cc
is_the_no clock (Some c) h e = eqb-false c clock h (some_same c clock e)

-- an input by its name

abbrev is_input_of : Flat → ℕ → Bool
is_input_of flat id = list_any (λ x. nat_eq x id) flat.inputs

listed : (xs : List ℕ) (id : ℕ) → list_any (λ x. nat_eq x id) xs ≡ true → (k : ℕ) × ((k < length xs) × (get_or xs k 0 ≡ id))
listed [] id h = cc
listed (x ∷ xs) id h = go (nat_eq x id) refl h (listed xs id)
  where
    go : (b : Bool) → nat_eq x id ≡ b → (b || list_any (λ x. nat_eq x id) xs) ≡ true → (list_any (λ x. nat_eq x id) xs ≡ true → (k : ℕ) × ((k < length xs) × (get_or xs k 0 ≡ id)))
        → (k : ℕ) × ((k < length (x ∷ xs)) × (get_or (x ∷ xs) k 0 ≡ id))
    go true q r rec = (0, (omega arith, eqb-true x id q))
    go false q r rec = let s = rec r in let l = s.1.0 in (suc s.0, (omega (arith, l), s.1.1))

is_listed : (xs : List ℕ) (id k : ℕ) → k < length xs → get_or xs k 0 ≡ id → list_any (λ x. nat_eq x id) xs ≡ true
is_listed [] id k l h = absurd (omega (arith, l))
is_listed (x ∷ xs) id zero l h = rw (eq-eqb x id h) refl
is_listed (x ∷ xs) id (suc k) l h = go (nat_eq x id) (is_listed xs id k (omega (arith, l)) h)
  where
    go : (b : Bool) → list_any (λ x. nat_eq x id) xs ≡ true → (b || list_any (λ x. nat_eq x id) xs) ≡ true
    go true r = refl
    go false r = r

pub input_is_named : (flat : Flat) (name : Text) (id : ℕ) → scalar_named flat 0 name ≡ Some id → is_input_of flat id ≡ true → is_none (signal_at flat.signals id).range ≡ true
    → IsInputNamed flat name id
input_is_named flat name id h e r = ((listed flat.inputs id e, none_is (signal_at flat.signals id).range r), scalar_is (meant (scope_at flat 0) name) id h)

named_input : (flat : Flat) (name : Text) (id : ℕ) → IsInputNamed flat name id
    → (scalar_named flat 0 name ≡ Some id) × ((is_input_of flat id ≡ true) × (is_none (signal_at flat.signals id).range ≡ true))
named_input flat name id n = (is_scalar_of (meant (scope_at flat 0) name) id n.1.0 n.1.1, (is_listed flat.inputs id n.0.0.0 n.0.0.1.0 n.0.0.1.1, ap is_none n.0.1))

pub not_input : (flat : Flat) (name : Text) (x : ℕ) → scalar_named flat 0 name ≡ Some x → (is_input_of flat x && is_none (signal_at flat.signals x).range) ≡ false
    → (id : ℕ) → IsInputNamed flat name id → ⊥
not_input flat name x h e id n =
    let k = named_input flat name id n in
    let same : id ≡ x = some_same id x (sym k.0 ∙ h) in
    let both : (is_input_of flat x && is_none (signal_at flat.signals x).range) ≡ true =
    and_from (is_input_of flat x) (is_none (signal_at flat.signals x).range) (subst (λ z. is_input_of flat z ≡ true) same k.1.0) (subst (λ z. is_none (signal_at flat.signals z).range ≡ true) same k.1.1) in
    let bad : true ≡ false = sym both ∙ e in cc

pub no_input : (flat : Flat) (name : Text) → scalar_named flat 0 name ≡ None → (id : ℕ) → IsInputNamed flat name id → ⊥
no_input flat name h id n = let k = named_input flat name id n in let bad : Some id ≡ None = sym k.0 ∙ h in cc

one_named : (flat : Flat) (name : Text) (a b : ℕ) → IsInputNamed flat name a → IsInputNamed flat name b → a ≡ b
one_named flat name a b m n = some_same a b (sym (is_scalar_of (meant (scope_at flat 0) name) a m.1.0 m.1.1) ∙ is_scalar_of (meant (scope_at flat 0) name) b n.1.0 n.1.1)

-- names and edges that lead to the clock

pub leads_yes : (flat : Flat) (table : ℕ → Option ℕ) (clock i : ℕ) (name : Text) → AreSources flat table → leads_by flat table clock i name ≡ true → NameLeads flat clock i name
leads_yes flat table clock i name t h = (source_leads flat table i clock name t (is_the_yes clock (source_named flat table i name) h)).1

pub leads_no : (flat : Flat) (table : ℕ → Option ℕ) (clock i : ℕ) (name : Text) → AreSources flat table → IsScalarInput flat clock → leads_by flat table clock i name ≡ false
    → NameLeads flat clock i name → ⊥
leads_no flat table clock i name t hc h l = is_the_no clock (source_named flat table i name) h (leads_source flat table i clock name t hc l)

-- a first edge, by recursion
pub record FirstOf (flat : Flat) (clock i : ℕ) (es : List EdgeEvent) (rising : Bool) : Type 0 where
  pub place : ℕ
  pub inside : place < length es
  pub leads : NameLeads flat clock i (get_or es place no_edge).text
  pub direction : (get_or es place no_edge).rising ≡ rising
  pub first : (j : ℕ) → j < place → NameLeads flat clock i (get_or es j no_edge).text → ⊥

first_later : (flat : Flat) (clock i : ℕ) (e : EdgeEvent) (es : List EdgeEvent) (rising : Bool) → (NameLeads flat clock i e.text → ⊥) → FirstOf flat clock i es rising → FirstOf flat clock i (e ∷ es) rising
first_later flat clock i e es rising nay f = record {
  place = suc f.place;
  inside = let h = f.inside in omega (arith, h);
  leads = f.leads;
  direction = f.direction;
  first = first;
}
  where
    first : (j : ℕ) → j < suc f.place → NameLeads flat clock i (get_or (e ∷ es) j no_edge).text → ⊥
    first zero l h = nay h
    first (suc j) l h = f.first j (omega (arith, l)) h

pub rising_first : (flat : Flat) (table : ℕ → Option ℕ) (clock i : ℕ) (es : List EdgeEvent) (rising : Bool) → AreSources flat table → IsScalarInput flat clock
    → first_rising flat table clock i es ≡ Some rising → FirstOf flat clock i es rising
unfolding first_rising
rising_first flat table clock i [] rising t hc h = cc
rising_first flat table clock i (e ∷ es) rising t hc h = go (leads_by flat table clock i e.text) refl h (λ q. rising_first flat table clock i es rising t hc q)
  where
    or_false : Option Bool → Bool
    or_false None = false
    or_false (Some b) = b

    go : (b : Bool) → leads_by flat table clock i e.text ≡ b → cond b (Some e.rising) (first_rising flat table clock i es) ≡ Some rising
        → (first_rising flat table clock i es ≡ Some rising → FirstOf flat clock i es rising) → FirstOf flat clock i (e ∷ es) rising
    go true p q rec = record {
      place = 0;
      inside = omega arith;
      leads = leads_yes flat table clock i e.text t p;
      direction = ap (λ o. or_false o) q;
      first = λ j l n. absurd (omega (arith, l));
    }
    go false p q rec = first_later flat clock i e es rising (leads_no flat table clock i e.text t hc p) (rec q)

pub rising_none : (flat : Flat) (table : ℕ → Option ℕ) (clock i : ℕ) (es : List EdgeEvent) → AreSources flat table → IsScalarInput flat clock
    → first_rising flat table clock i es ≡ None → (j : ℕ) → j < length es → NameLeads flat clock i (get_or es j no_edge).text → ⊥
unfolding first_rising
rising_none flat table clock i [] t hc h j l n = absurd (omega (arith, l))
rising_none flat table clock i (e ∷ es) t hc h j l n = go (leads_by flat table clock i e.text) refl h j l n (λ q j l n. rising_none flat table clock i es t hc q j l n)
  where
    go : (b : Bool) → leads_by flat table clock i e.text ≡ b → cond b (Some e.rising) (first_rising flat table clock i es) ≡ None
        → (j : ℕ) → j < length (e ∷ es) → NameLeads flat clock i (get_or (e ∷ es) j no_edge).text
        → (first_rising flat table clock i es ≡ None → (j : ℕ) → j < length es → NameLeads flat clock i (get_or es j no_edge).text → ⊥) → ⊥
    go true p q j l n rec = cc
    go false p q zero l n rec = leads_no flat table clock i e.text t hc p n
    go false p q (suc j) l n rec = rec q j (omega (arith, l)) n

-- an edge on which a block runs
abbrev RunsIn : Flat → ℕ → Bool → ℕ → List EdgeEvent → Type 0
RunsIn flat clock rising i es = (j : ℕ) × ((j < length es) × ((get_or es j no_edge).rising ≡ rising) × NameLeads flat clock i (get_or es j no_edge).text)

same_yes : (a b : Bool) → same_direction a b ≡ true → a ≡ b
same_yes true true h = refl
same_yes true false h = cc
same_yes false true h = cc
same_yes false false h = refl

same_no : (a b : Bool) → same_direction a b ≡ false → a ≡ b → ⊥
same_no true b h e = let bad : true ≡ false = e ∙ h in cc
same_no false true h e = cc
same_no false false h e = cc

pub runs_yes : (flat : Flat) (table : ℕ → Option ℕ) (clock : ℕ) (rising : Bool) (i : ℕ) (es : List EdgeEvent) → AreSources flat table
    → any_runs flat table clock rising i es ≡ true → RunsIn flat clock rising i es
unfolding any_runs
runs_yes flat table clock rising i [] t h = cc
runs_yes flat table clock rising i (e ∷ es) t h = go (same_direction e.rising rising) refl (leads_by flat table clock i e.text) refl h (λ r. runs_yes flat table clock rising i es t r)
  where
    later : RunsIn flat clock rising i es → RunsIn flat clock rising i (e ∷ es)
    later r = (suc r.0, (let h = r.1.0 in omega (arith, h), r.1.1, r.1.2))

    go : (a : Bool) → same_direction e.rising rising ≡ a → (b : Bool) → leads_by flat table clock i e.text ≡ b → ((a && b) || any_runs flat table clock rising i es) ≡ true
        → (any_runs flat table clock rising i es ≡ true → RunsIn flat clock rising i es) → RunsIn flat clock rising i (e ∷ es)
    go true p true q r rec = (0, (omega arith, same_yes e.rising rising p, leads_yes flat table clock i e.text t q))
    go true p false q r rec = later (rec r)
    go false p b q r rec = later (rec r)

pub runs_no : (flat : Flat) (table : ℕ → Option ℕ) (clock : ℕ) (rising : Bool) (i : ℕ) (es : List EdgeEvent) → AreSources flat table → IsScalarInput flat clock
    → any_runs flat table clock rising i es ≡ false → RunsIn flat clock rising i es → ⊥
unfolding any_runs
runs_no flat table clock rising i [] t hc h r = let l = r.1.0 in absurd (omega (arith, l))
runs_no flat table clock rising i (e ∷ es) t hc h r = go (and_cases (same_direction e.rising rising) (leads_by flat table clock i e.text) parts.0) r.0 r.1.0 r.1.1 r.1.2 (λ s. runs_no flat table clock rising i es t hc parts.1 s)
  where
    parts : ((same_direction e.rising rising && leads_by flat table clock i e.text) ≡ false) × (any_runs flat table clock rising i es ≡ false)
    parts = or_parts (same_direction e.rising rising && leads_by flat table clock i e.text) (any_runs flat table clock rising i es) h

    go : (same_direction e.rising rising ≡ false) ⊎ (leads_by flat table clock i e.text ≡ false) → (j : ℕ) → j < length (e ∷ es)
        → (get_or (e ∷ es) j no_edge).rising ≡ rising → NameLeads flat clock i (get_or (e ∷ es) j no_edge).text → (RunsIn flat clock rising i es → ⊥) → ⊥
    go (inl p) zero l d n rec = same_no e.rising rising p d
    go (inr p) zero l d n rec = leads_no flat table clock i e.text t hc p n
    go p (suc j) l d n rec = rec (j, (omega (arith, l), d, n))

-- the blocks

pub record FirstUnclocked (flat : Flat) (clock : ℕ) (rising : Bool) (bs : List Block) (at : ℕ) : Type 0 where
  pub place : ℕ
  pub inside : place < length bs
  pub token : at ≡ (block_at bs place).token
  pub fails : RunsOn flat clock rising (block_at bs place) → ⊥
  pub before : (j : ℕ) → j < place → RunsOn flat clock rising (block_at bs j)

unclocked_later : (flat : Flat) (clock : ℕ) (rising : Bool) (b : Block) (bs : List Block) (at : ℕ) → RunsOn flat clock rising b → FirstUnclocked flat clock rising bs at
    → FirstUnclocked flat clock rising (b ∷ bs) at
unclocked_later flat clock rising b bs at r f = record {
  place = suc f.place;
  inside = let h = f.inside in omega (arith, h);
  token = f.token;
  fails = f.fails;
  before = before;
}
  where
    before : (j : ℕ) → j < suc f.place → RunsOn flat clock rising (block_at (b ∷ bs) j)
    before zero l = r
    before (suc j) l = f.before j (omega (arith, l))

pub first_unclocked : (flat : Flat) (table : ℕ → Option ℕ) (clock : ℕ) (rising : Bool) (bs : List Block) (at : ℕ) → AreSources flat table → IsScalarInput flat clock
    → earliest (flat_map (unclocked_block flat table clock rising) bs) ≡ Some at → FirstUnclocked flat clock rising bs at
unfolding earliest
first_unclocked flat table clock rising [] at t hc h = cc
first_unclocked flat table clock rising (b ∷ bs) at t hc h = go (any_runs flat table clock rising b.scope b.edges) refl h (λ q. first_unclocked flat table clock rising bs at t hc q)
  where
    go : (r : Bool) → any_runs flat table clock rising b.scope b.edges ≡ r → earliest (cond r [] (b.token ∷ []) ++ flat_map (unclocked_block flat table clock rising) bs) ≡ Some at
        → (earliest (flat_map (unclocked_block flat table clock rising) bs) ≡ Some at → FirstUnclocked flat clock rising bs at) → FirstUnclocked flat clock rising (b ∷ bs) at
    go true p q rec = unclocked_later flat clock rising b bs at (runs_yes flat table clock rising b.scope b.edges t p) (rec q)
    go false p q rec = record {
      place = 0;
      inside = omega arith;
      token = sym (some_same b.token at q);
      fails = runs_no flat table clock rising b.scope b.edges t hc p;
      before = λ j l. absurd (omega (arith, l));
    }

pub all_run : (flat : Flat) (table : ℕ → Option ℕ) (clock : ℕ) (rising : Bool) (bs : List Block) → AreSources flat table
    → earliest (flat_map (unclocked_block flat table clock rising) bs) ≡ None → (k : ℕ) → k < length bs → RunsOn flat clock rising (block_at bs k)
unfolding earliest
all_run flat table clock rising [] t h k l = absurd (omega (arith, l))
all_run flat table clock rising (b ∷ bs) t h k l = go (any_runs flat table clock rising b.scope b.edges) refl h k l (λ q k l. all_run flat table clock rising bs t q k l)
  where
    go : (r : Bool) → any_runs flat table clock rising b.scope b.edges ≡ r → earliest (cond r [] (b.token ∷ []) ++ flat_map (unclocked_block flat table clock rising) bs) ≡ None
        → (k : ℕ) → k < length (b ∷ bs)
        → (earliest (flat_map (unclocked_block flat table clock rising) bs) ≡ None → (k : ℕ) → k < length bs → RunsOn flat clock rising (block_at bs k))
        → RunsOn flat clock rising (block_at (b ∷ bs) k)
    go true p q zero l rec = runs_yes flat table clock rising b.scope b.edges t p
    go true p q (suc k) l rec = rec q k (omega (arith, l))
    go false p q k l rec = cc

-- the deciding edge

pub free_same : (s : Names) (body : Statement) (es : List EdgeEvent) → ((name : Text) → is_some (lookup name s) ≡ is_among name (names_of body)) → free_among s es ≡ free_edge body es
unfolding free_among free_edge
free_same s body [] h = refl
free_same s body (e ∷ es) h = rw (h e.text, free_same s body es h) refl

pub free_or_first : (o : Option EdgeEvent) (e : EdgeEvent) (es : List EdgeEvent) → or_free e o ≡ or_first o (e ∷ es)
free_or_first None e es = refl
free_or_first (Some f) e es = refl

-- the clock that is found

decided_source : (flat : Flat) (table : ℕ → Option ℕ) (b : Block) (es : List EdgeEvent) (clock : ℕ) → AreSources flat table → deciding_source flat table b es ≡ Some clock
    → IsScalarInput flat clock × EdgeLeads flat clock b (deciding_edge b)
decided_source flat table b [] clock t h = cc
decided_source flat table b (e ∷ es) clock t h = source_leads flat table b.scope clock (deciding_edge b).text t h

some_source : (flat : Flat) (table : ℕ → Option ℕ) (b : Block) (xs : List EdgeEvent) (e : EdgeEvent) (es : List EdgeEvent) → xs ≡ e ∷ es → deciding_source flat table b xs ≡ source_named flat table b.scope (deciding_edge b).text
some_source flat table b xs e es h = rw h refl

-- every clock that may be chosen is the one that is found, where the first block has an edge
chosen_is : (flat : Flat) (table : ℕ → Option ℕ) (word : Option Text) (named : Option ℕ) (b : Block) (bs : List Block) (e : EdgeEvent) (es : List EdgeEvent) (clock : ℕ) → AreSources flat table
    → IsNamed flat word named → flat.clocked ≡ b ∷ bs → b.edges ≡ e ∷ es → IsChosen flat word (Some clock) → or_deciding flat table b named ≡ Some clock
chosen_is flat table None named b bs e es clock t n is ed c =
    let d : IsDecided flat (b ∷ bs) (Some clock) = subst (λ z. IsDecided flat z (Some clock)) is c in
    rw n (some_source flat table b b.edges e es ed ∙ leads_source flat table b.scope clock (deciding_edge b).text t d.0 d.1)
chosen_is flat table (Some name) None b bs e es clock t n is ed c = absurd n
chosen_is flat table (Some name) (Some id) b bs e es clock t n is ed c = ap Some (one_named flat name id clock n c)

is_chosen : (flat : Flat) (table : ℕ → Option ℕ) (word : Option Text) (named : Option ℕ) (b : Block) (bs : List Block) (clock : ℕ) → AreSources flat table
    → IsNamed flat word named → flat.clocked ≡ b ∷ bs → or_deciding flat table b named ≡ Some clock → IsChosen flat word (Some clock) × IsScalarInput flat clock
is_chosen flat table None None b bs clock t n is h =
    let d = decided_source flat table b b.edges clock t h in
    (subst (λ z. IsDecided flat z (Some clock)) (sym is) d, d.0)
is_chosen flat table None (Some id) b bs clock t n is h = cc
is_chosen flat table (Some name) None b bs clock t n is h = absurd n
is_chosen flat table (Some name) (Some id) b bs clock t n is h = let same = some_same id clock h in (subst (IsInputNamed flat name) same n, subst (IsScalarInput flat) same n.0)

-- a first block runs on its clock, if at all, by its first edge that leads there
direction_of : (flat : Flat) (b : Block) (bs : List Block) (clock : ℕ) (rising : Bool) → flat.clocked ≡ b ∷ bs → FirstOf flat clock b.scope b.edges rising → IsDirection flat flat.clocked (Some clock) rising
direction_of flat b bs clock rising is f =
    subst (λ z. IsDirection flat z (Some clock) rising) (sym is) (record { place = f.place; inside = f.inside; leads = f.leads; direction = f.direction; first = f.first })

no_direction : (flat : Flat) (b : Block) (bs : List Block) (clock : Option ℕ) (rising : Bool) → flat.clocked ≡ b ∷ bs → IsDirection flat flat.clocked clock rising
    → ((c : ℕ) → clock ≡ Some c → (j : ℕ) → j < length b.edges → NameLeads flat c b.scope (get_or b.edges j no_edge).text → ⊥) → ⊥
no_direction flat b bs None rising is d nay = let h : IsDirection flat (b ∷ bs) None rising = subst (λ z. IsDirection flat z None rising) is d in h
no_direction flat b bs (Some c) rising is d nay =
    let h : FirstEdge flat c b rising = subst (λ z. IsDirection flat z (Some c) rising) is d in
    nay c refl h.place h.inside h.leads

at_first : (flat : Flat) (b : Block) (bs : List Block) → flat.clocked ≡ b ∷ bs → (0 < length flat.clocked) × (b.token ≡ (block_at flat.clocked 0).token)
at_first flat b bs is = (subst (λ z. 0 < length z) (sym is) (omega arith), ap (λ z. (block_at z 0).token) (sym is))

-- no edge of the first block leads to any clock that may be chosen
fails_at_first : (flat : Flat) (word : Option Text) (b : Block) (bs : List Block) → flat.clocked ≡ b ∷ bs
    → ((c : ℕ) → IsChosen flat word (Some c) → (j : ℕ) → j < length b.edges → NameLeads flat c b.scope (get_or b.edges j no_edge).text → ⊥) → ClockFails flat word b.token
fails_at_first flat word b bs is nay =
    let at = at_first flat b bs is in
    undecided at.0 at.1 (λ clock rising chosen direction. no_direction flat b bs clock rising is direction (λ c e. nay c (subst (IsChosen flat word) e chosen)))

-- what is found is right
abbrev pub IsRight : Flat → Option Text → Found → Type 0
IsRight flat word (Clock clock rising) = OneClock flat word clock rising
IsRight flat word (Nowhere at) = ClockFails flat word at

by_all_right : (flat : Flat) (table : ℕ → Option ℕ) (word : Option Text) (clock : ℕ) (rising : Bool) → AreSources flat table → IsScalarInput flat clock
    → IsChosen flat word (Some clock) → IsDirection flat flat.clocked (Some clock) rising
    → IsRight flat word (by_all clock rising (earliest (flat_map (unclocked_block flat table clock rising) flat.clocked)))
by_all_right flat table word clock rising t hc c d = go (earliest (flat_map (unclocked_block flat table clock rising) flat.clocked)) refl
  where
    go : (o : Option ℕ) → earliest (flat_map (unclocked_block flat table clock rising) flat.clocked) ≡ o → IsRight flat word (by_all clock rising o)
    go None h = record { chosen = c; direction = d; all = all_run flat table clock rising flat.clocked t h }
    go (Some at) h = let f = first_unclocked flat table clock rising flat.clocked at t hc h in unclocked clock rising f.place c d f.inside f.token f.fails f.before

by_clock_right : (flat : Flat) (table : ℕ → Option ℕ) (word : Option Text) (named : Option ℕ) (b : Block) (bs : List Block) → AreSources flat table → IsNamed flat word named → flat.clocked ≡ b ∷ bs
    → IsRight flat word (by_clock flat table b flat.clocked (or_deciding flat table b named))
by_clock_right flat table word named b bs t n is = go (or_deciding flat table b named) refl
  where
    unchosen : (o : Option ℕ) → or_deciding flat table b named ≡ o → (c : ℕ) → IsChosen flat word (Some c) → (j : ℕ) → j < length b.edges → o ≡ Some c
    unchosen o h c chosen j l = some (b.edges) refl
      where
        some : (es : List EdgeEvent) → b.edges ≡ es → o ≡ Some c
        some [] e = let none : length b.edges ≡ 0 = ap length e in absurd (omega (arith, l, none))
        some (e ∷ es) q = sym h ∙ chosen_is flat table word named b bs e es c t n is q chosen

    by : (clock : ℕ) → or_deciding flat table b named ≡ Some clock → (r : Option Bool) → first_rising flat table clock b.scope b.edges ≡ r → IsRight flat word (by_direction flat table flat.clocked b.token clock r)
    by clock h None q =
        let c = is_chosen flat table word named b bs clock t n is h in
        fails_at_first flat word b bs is (λ d chosen j l leads.
        let same : clock ≡ d = some_same clock d (unchosen (Some clock) h d chosen j l) in
        rising_none flat table clock b.scope b.edges t c.1 q j l (subst (λ z. NameLeads flat z b.scope (get_or b.edges j no_edge).text) (sym same) leads))
    by clock h (Some rising) q =
        let c = is_chosen flat table word named b bs clock t n is h in
        by_all_right flat table word clock rising t c.1 c.0 (direction_of flat b bs clock rising is (rising_first flat table clock b.scope b.edges rising t c.1 q))

    go : (o : Option ℕ) → or_deciding flat table b named ≡ o → IsRight flat word (by_clock flat table b flat.clocked o)
    go None h = fails_at_first flat word b bs is (λ d chosen j l leads. let bad : None ≡ Some d = unchosen None h d chosen j l in cc)
    go (Some clock) h = by clock h (first_rising flat table clock b.scope b.edges) refl

pub found_right : (flat : Flat) (table : ℕ → Option ℕ) (word : Option Text) (named : Option ℕ) → AreSources flat table → IsNamed flat word named → IsRight flat word (found flat table named flat.clocked)
found_right flat table word named t n = go flat.clocked refl
  where
    none : (word : Option Text) (named : Option ℕ) → IsNamed flat word named → flat.clocked ≡ [] → OneClock flat word named true
    none None named n is = record {
      chosen = subst (λ z. IsDecided flat z named) (sym is) n;
      direction = subst (λ z. IsDirection flat z named true) (sym is) refl;
      all = subst (λ z. AllRun flat z true) (sym n) tt;
    }
    none (Some name) None n is = absurd n
    none (Some name) (Some id) n is = record {
      chosen = n;
      direction = subst (λ z. IsDirection flat z (Some id) true) (sym is) refl;
      all = λ k l. let size : length flat.clocked ≡ 0 = ap length is in absurd (omega (arith, l, size));
    }

    go : (bs : List Block) → flat.clocked ≡ bs → IsRight flat word (found flat table named flat.clocked)
    go [] is = subst (λ z. IsRight flat word (found flat table named z)) (sym is) (none word named n is)
    go (b ∷ bs) is = subst (λ z. IsRight flat word (found flat table named z)) (sym is) (subst (λ z. IsRight flat word (by_clock flat table b z (or_deciding flat table b named))) is (by_clock_right flat table word named b bs t n is))

-- the set of signals that lead to the clock

pub tells : (flat : Flat) (table : ℕ → Option ℕ) (clock : ℕ) → AreSources flat table → IsScalarInput flat clock → TellsLeads flat clock (λ x. is_the clock (table x))
tells flat table clock t hc = record {
  sound = λ x h. t.leads x clock (is_the_yes clock (table x) h);
  all = λ x l. rw (t.all x clock hc l) (eq-eqb clock clock refl);
}

-- there is one clock at most, in one direction

leads_same : (flat : Flat) (c d i : ℕ) (name : Text) → IsScalarInput flat c → IsScalarInput flat d → NameLeads flat c i name → NameLeads flat d i name → c ≡ d
leads_same flat c d i name hc hd l m =
    let same : l.0 ≡ m.0 = some_same l.0 m.0 (sym (is_scalar_of (meant (scope_at flat i) name) l.0 l.1.0 l.1.1.0) ∙ is_scalar_of (meant (scope_at flat i) name) m.0 m.1.0 m.1.1.0) in
    one_source flat c d hc hd (subst (Leads flat c) same l.1.1.1) m.1.1.1

pub chosen_same : (flat : Flat) (word : Option Text) (c d : ℕ) → IsChosen flat word (Some c) → IsChosen flat word (Some d) → c ≡ d
chosen_same flat None c d h k = go flat.clocked h k
  where
    go : (bs : List Block) → IsDecided flat bs (Some c) → IsDecided flat bs (Some d) → c ≡ d
    go [] p q = cc
    go (b ∷ bs) p q = leads_same flat c d b.scope (deciding_edge b).text p.0 q.0 p.1 q.1
chosen_same flat (Some name) c d h k = one_named flat name c d h k

place_same : (flat : Flat) (c : ℕ) (b : Block) (r q : Bool) → (f : FirstEdge flat c b r) → (g : FirstEdge flat c b q) → f.place ≡ g.place
place_same flat c b r q f g = same_number f.place g.place (λ l. g.first f.place l f.leads) (λ l. f.first g.place l g.leads)

edge_same : (flat : Flat) (c : ℕ) (b : Block) (r q : Bool) → FirstEdge flat c b r → FirstEdge flat c b q → r ≡ q
edge_same flat c b r q f g = sym f.direction ∙ (ap (λ k. (get_or b.edges k no_edge).rising) (place_same flat c b r q f g) ∙ g.direction)

direction_same : (flat : Flat) (k : ℕ) (c : ℕ) (r q : Bool) → k < length flat.clocked → IsDirection flat flat.clocked (Some c) r → IsDirection flat flat.clocked (Some c) q → r ≡ q
direction_same flat k c r q l h m = go flat.clocked l h m
  where
    go : (bs : List Block) → k < length bs → IsDirection flat bs (Some c) r → IsDirection flat bs (Some c) q → r ≡ q
    go [] l p s = absurd (omega (arith, l))
    go (b ∷ bs) l p s = edge_same flat c b r q p s

none_chosen : (flat : Flat) (word : Option Text) (k : ℕ) → k < length flat.clocked → IsChosen flat word None → ⊥
none_chosen flat None k l h = go flat.clocked l h
  where
    go : (bs : List Block) → k < length bs → IsDecided flat bs None → ⊥
    go [] l p = absurd (omega (arith, l))
    go (b ∷ bs) l p = p
none_chosen flat (Some name) k l h = h

pub fails_none : (flat : Flat) (word : Option Text) (at : ℕ) → ClockFails flat word at → (clock : Option ℕ) (rising : Bool) → OneClock flat word clock rising → ⊥
fails_none flat word at (undecided l t nay) clock rising o = nay clock rising o.chosen o.direction
fails_none flat word at (unclocked c r k chosen direction l t fails before) None rising o = none_chosen flat word k l o.chosen
fails_none flat word at (unclocked c r k chosen direction l t fails before) (Some d) rising o =
    let same : d ≡ c = chosen_same flat word d c o.chosen chosen in
    let way : rising ≡ r = direction_same flat k c rising r l (subst (λ z. IsDirection flat flat.clocked (Some z) rising) same o.direction) direction in
    fails (subst (λ z. RunsOn flat c z (block_at flat.clocked k)) way (subst (λ z. RunsOn flat z rising (block_at flat.clocked k)) same (o.all k l)))

input_chosen : (flat : Flat) (word : Option Text) (clock : Option ℕ) → IsChosen flat word clock → IsClockInput flat clock
input_chosen flat word None h = tt
input_chosen flat None (Some c) h = go flat.clocked h
  where
    go : (bs : List Block) → IsDecided flat bs (Some c) → IsScalarInput flat c
    go [] p = cc
    go (b ∷ bs) p = p.0
input_chosen flat (Some name) (Some c) h = h.0

-- what the search answers

pub right_one : (flat : Flat) (word : Option Text) (f : Found) → IsRight flat word f → IsOne flat word f
right_one flat word (Clock clock rising) h = h
right_one flat word (Nowhere at) h = fails_none flat word at h

pub right_first : (flat : Flat) (word : Option Text) (f : Found) → IsRight flat word f → IsFirst flat word f
right_first flat word (Clock clock rising) h = tt
right_first flat word (Nowhere at) h = h

pub right_input : (flat : Flat) (word : Option Text) (f : Found) → IsRight flat word f → HasInput flat f
right_input flat word (Clock clock rising) h = input_chosen flat word clock h.chosen
right_input flat word (Nowhere at) h = tt
