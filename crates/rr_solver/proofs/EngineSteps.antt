-- how the state of a search changes
use Rattle.std.proofs.Common.{◌≡◌, ◌⊎◌, inl, inr, ℕ, suc, zero, ◌+◌, ◌<◌, ◌≤◌, Bool, true, false, not, ◌||◌, List, [], ◌∷◌, ◌++◌, length, get_or, map, take, drop, refl, sym, ◌∙◌, ap, subst, arith}
use Rattle.std.specs.Prelude.{All, Contains, None, Ok, Err, IfOk, Result}
use Rattle.std.specs.List.{list_any}
use Rattle.std.proofs.Math.Seq.{take-append_seam}
use Rattle.std.proofs.lemmas.List.{get_or-take, length_push, length-map, length-take-le, take-append-le, map_push, take-append-drop, take_all, get_or-map}
use Rattle.std.proofs.lemmas.List.Elements.{All-contains, All-get_or, All-map, All-push, All-take, All-weaker, Contains-append_left, Contains-push_cases, Contains-get_or}
use Rattle.std.proofs.lemmas.Bool.{cases_lt, cases_Bool, false≢true}
use Rattle.std.specs.declared.alloc.AllocError.{AllocError}
use Rattle.rr_cnf.specs.Clauses.{Literal, Clauses, negated, IsWithin, AreWithin, Satisfies, literal_true, clause_true}
use Rattle.rr_cnf.specs.Partial.{Determined, IsAssigned, IsFalse, IsQuiet, IsUnit}
use Rattle.rr_derive.specs.Derive.{Leads, Passes, Proof, Step}
use Rattle.rr_derive.specs.Fresh.{Handed, Hinted, NamesAtHand, hand_of}
use Rattle.rr_trail.specs.Trails.{AreForced, Decision, Entry, Grown, IsTrail, entry, lits}
use Rattle.rr_watch.specs.Watches.{AreHeld, IsBack, MayAdd, Named, State, bare}
use Rattle.rr_watch_lists.specs.Numbers.{Numbered, numbered_from}
use Rattle.rr_watch_lists.proofs.NumberLaws.{numbered_below}
use Rattle.rr_trail.proofs.EntryLaws.{AreForced-more, holds_at, take_take, entry_old, entry_new, take_old, place_cases}
use Rattle.rr_analysis.specs.Analysis.{AreNamed, Greatest, Learns}
use Rattle.rr_solver.specs.Searches.{Adds, HaveOwnIds, IsFreshAfter, IsLog, IsModel, IsNewId, NamesAll, PassesAfter, Same, Search, SteppedIs, given}
use Rattle.rr_solver.specs.Engines.{Agrees, AllStand, IsEngine, IsHand, Moves, all_handed, question, search_of}
use Rattle.rr_solver.specs.declared.engine.Engine.{Engine}
use Rattle.rr_solver.specs.declared.engine.Stepped.{Stepped}
use Rattle.rr_solver.specs.declared.engine.Stepped.TheVariants.{Learned as HasLearned, Model as HasModel, Refuted as HasRefuted}
use Rattle.rr_solver.specs.declared.engine.Status.{Status}
use Rattle.rr_solver.specs.declared.engine.Status.TheVariants.{Running, Model, Refuted, Failed}
use Rattle.rr_solver.proofs.FreshSteps.{before_decision, has_decision, is_fresh, may_add, stays_quiet}
use Rattle.rr_solver.proofs.LogSteps.{IsHand-learn, IsHand-import, IsHand-start, IsLog-fail, IsLog-import, IsLog-learn, IsLog-model, IsLog-none, IsLog-refute, OwnIds-import, OwnIds-learn, OwnIds-none, all_handed_new, all_handed_old, at_hand, bare_numbered, handed_ids, length_numbered}

-- decisions that stand, under a trail that grows and shrinks
module _ (hand : List (List Literal)) (inputs : ℕ) where
  pub AllStand-none : AllStand hand inputs []
  AllStand-none k h r = absurd (omega arith)

  pub AllStand-grown : (old new : List Entry) → Grown old new → AllStand hand inputs old → AllStand hand inputs new
  AllStand-grown old new g a k h r = elim (cases_lt k (length old)) [
    | inl i ↦ (let e : entry new k ≡ entry old k = sym (get_or-take (length old) new k _ i) ∙ ap (λ t. entry t k) g.same in
        let t : take k new ≡ take k old = sym (take_take k (length old) new (omega arith)) ∙ ap (take k) g.same in
        let s = a k i (ap (λ x. x.reason) (sym e) ∙ r) in
        record { input = subst (λ x. x.lit.var ≤ inputs) (sym e) s.input; quiet = subst (λ u. IsQuiet hand (lits u)) (sym t) s.quiet })
    | inr i ↦ absurd (g.forced k i h r)
  ]

  pub AllStand-decided : (t : List Entry) (e : Entry) → e.lit.var ≤ inputs → IsQuiet hand (lits t) → AllStand hand inputs t → AllStand hand inputs (t ++ e ∷ [])
  AllStand-decided t e low q a k h r = elim (place_cases t e k h) [
    | inl i ↦ (let x = entry_old t e k i in
        let u = take_old t e k (omega arith) in
        let s = a k i (ap (λ x. x.reason) (sym x) ∙ r) in
        record { input = subst (λ x. x.lit.var ≤ inputs) (sym x) s.input; quiet = subst (λ u. IsQuiet hand (lits u)) (sym u) s.quiet })
    | inr i ↦ (let x : entry (t ++ e ∷ []) k ≡ e = ap (entry (t ++ e ∷ [])) i ∙ entry_new t e in
        let u : take k (t ++ e ∷ []) ≡ t = ap (λ n. take n (t ++ e ∷ [])) i ∙ take-append_seam t (e ∷ []) in
        record { input = subst (λ x. x.lit.var ≤ inputs) (sym x) low; quiet = subst (λ u. IsQuiet hand (lits u)) (sym u) q })
  ]

  pub AllStand-take : (t : List Entry) (n : ℕ) → n ≤ length t → AllStand hand inputs t → AllStand hand inputs (take n t)
  AllStand-take t n h a k b r =
      let i : k < n = omega (arith, length-take-le n t h) in
      let x : entry (take n t) k ≡ entry t k = get_or-take n t k _ i in
      let u : take k (take n t) ≡ take k t = take_take k n t (omega arith) in
      let s = a k (omega arith) (ap (λ x. x.reason) (sym x) ∙ r) in
      record { input = subst (λ x. x.lit.var ≤ inputs) (sym x) s.input; quiet = subst (λ u. IsQuiet hand (lits u)) (sym u) s.quiet }

  -- with no level there is no decision
  pub AllStand-flat : (t : List Entry) (d : ℕ) → IsTrail t d → d ≡ 0 → AllStand hand inputs t
  AllStand-flat t d tr z k h r = absurd (let w = (tr.opened k h r).0 in let b = tr.below k h in omega (arith, w, b, z))

  pub AllStand-learn : (t : List Entry) (d : ℕ) (tr : IsTrail t d) (q : Decision t d) (clause : List Literal) → Contains clause (negated (entry t q.place).lit) → (level : ℕ) → Greatest t d clause level → level < d → (n : ℕ) → n ≤ length t → ((k : ℕ) → k < n → (entry t k).level ≤ level) → AllStand hand inputs t → AllStand (hand ++ clause ∷ []) inputs (take n t)
  AllStand-learn t d tr q clause has level g less n h low a k b r =
      let i : k < n = omega (arith, length-take-le n t h) in
      let ht : k < length t = omega arith in
      let x : entry (take n t) k ≡ entry t k = get_or-take n t k _ i in
      let u : take k (take n t) ≡ take k t = take_take k n t (omega arith) in
      let rr : (entry t k).reason ≡ None = ap (λ x. x.reason) (sym x) ∙ r in
      let s = a k ht rr in
      let lk = low k i in
      let w = stays_quiet t d tr q clause has level g k (before_decision t d tr q k ht (omega arith)) rr lk in
      record {
        input = subst (λ x. x.lit.var ≤ inputs) (sym x) s.input;
        quiet = subst (λ u. IsQuiet (hand ++ clause ∷ []) (lits u)) (sym u) (λ c m. elim (Contains-push_cases hand clause c m) [
          | inl o ↦ s.quiet c o
          | inr e ↦ subst (λ c. (IsFalse (lits (take k t)) c → ⊥) × ((v : Literal) → IsUnit (lits (take k t)) c v → ⊥)) e w
        ]);
      }

-- names
pub Leads-more : (named more : ℕ → List Literal → Type 0) → ((id : ℕ) (c : List Literal) → named id c → more id c) → (hints : List ℕ) (held : List Literal) → Leads named held hints → Leads more held hints
Leads-more named more up [] held l = l
Leads-more named more up (h ∷ hs) held l = (l.0, (up h l.0 l.1.0, elim l.1.1 [ inl f ↦ inl f | inr w ↦ inr (w.0, (w.1.0, Leads-more named more up hs (held ++ w.0 ∷ []) w.1.1)) ]))

pub Hinted-more : (named more : ℕ → List Literal → Type 0) → ((id : ℕ) (c : List Literal) → named id c → more id c) → (hints : List ℕ) (held : List Literal) (m : Literal) → Hinted named held hints m → Hinted more held hints m
Hinted-more named more up [] held m l = l
Hinted-more named more up (h ∷ hs) held m l = (l.0, (up h l.0 l.1.0, elim l.1.1 [ inl f ↦ inl f | inr w ↦ inr (w.0, (w.1.0, Hinted-more named more up hs (held ++ w.0 ∷ []) m w.1.1)) ]))

-- the values of the trail satisfy the formula
any_from : (p : Literal → Bool) (c : List Literal) (k : ℕ) (d : Literal) → k < length c → p (get_or c k d) ≡ true → list_any p c ≡ true
any_from p [] k d h e = absurd (omega arith)
any_from p (x ∷ c) zero d h e = ap (λ b. b || list_any p c) e
any_from p (x ∷ c) (suc k) d h e = ap (λ b. p x || b) (any_from p c k d (omega arith) e) ∙ or_true (p x)
  where
    or_true : (b : Bool) → (b || true) ≡ true
    or_true true = refl
    or_true false = refl

assigned_lit : (held : List Literal) (l : Literal) → IsAssigned held l.var → Contains held l ⊎ Contains held (negated l)
assigned_lit held l a = by_sign l.negative a
  where
    by_sign : (b : Bool) → IsAssigned held l.var → Contains held (record { var = l.var; negative = b }) ⊎ Contains held (record { var = l.var; negative = not b })
    by_sign true (inl x) = inr x
    by_sign true (inr x) = inl x
    by_sign false (inl x) = inl x
    by_sign false (inr x) = inr x

pub model_satisfies : (bits : List Bool) (held : List Literal) (n : ℕ) (formula : List (List Literal)) → Agrees bits n held → ((v : ℕ) → 1 ≤ v → v ≤ n → IsAssigned held v) → IsQuiet formula held → AreWithin n formula → Satisfies (given bits) formula
model_satisfies bits held n formula agrees all quiet within k d h = by_cases (cases_Bool (clause_true (given bits) (get_or formula k d)))
  where
    inside : All (IsWithin n) (get_or formula k d)
    inside = All-get_or (λ c. All (IsWithin n) c) formula k d h within

    by_cases : ((clause_true (given bits) (get_or formula k d) ≡ true) ⊎ (clause_true (given bits) (get_or formula k d) ≡ false)) → clause_true (given bits) (get_or formula k d) ≡ true
    by_cases (inl t) = t
    by_cases (inr f) = absurd ((quiet (get_or formula k d) (Contains-get_or formula k d h)).0 (λ j e i.
        let l = get_or (get_or formula k d) j e in
        let w = inside j e i in
        elim (assigned_lit held l (all l.var w.0 w.1)) [
          | inl y ↦ absurd (false≢true (sym f ∙ any_from (literal_true (given bits)) (get_or formula k d) j e i (agrees l w y)))
          | inr y ↦ y
        ]))

quiet_less : (hand : List (List Literal)) (n : ℕ) (held : List Literal) → IsQuiet hand held → IsQuiet (take n hand) held
quiet_less hand n held q c m = q c (subst (λ ys. Contains ys c) (take-append-drop n hand) (Contains-append_left (take n hand) (drop n hand) c m))

-- records by their fields
pub state_is : (s : State) (v d : ℕ) (cs : List Numbered) (t : List Entry) → s.vars ≡ v → s.clauses ≡ cs → s.trail ≡ t → s.depth ≡ d → s ≡ record { vars = v; clauses = cs; trail = t; depth = d }
state_is s v d cs t a b e f =
    ap (λ x. record { vars = x; clauses = s.clauses; trail = s.trail; depth = s.depth }) a
    ∙ ap (λ x. record { vars = v; clauses = x; trail = s.trail; depth = s.depth }) b
    ∙ ap (λ x. record { vars = v; clauses = cs; trail = x; depth = s.depth }) e
    ∙ ap (λ x. record { vars = v; clauses = cs; trail = t; depth = x }) f

abbrev clauses_of : ℕ → List (List Literal) → Clauses
clauses_of v cs = record { vars = v; clauses = cs }

pub clauses_is : (v w : ℕ) (cs ds : List (List Literal)) → v ≡ w → cs ≡ ds → clauses_of v cs ≡ clauses_of w ds
clauses_is v w cs ds a b = ap (λ x. clauses_of x cs) a ∙ ap (clauses_of w) b

pub search_is : (s : Search) (f : Clauses) (hs : List Handed) (d : ℕ) → s.formula ≡ f → s.handed ≡ hs → s.depth ≡ d → s ≡ record { formula = f; inputs = s.inputs; lines = s.lines; handed = hs; depth = d; status = s.status; bits = s.bits }
search_is s f hs d a b e =
    ap (λ x. record { formula = x; inputs = s.inputs; lines = s.lines; handed = s.handed; depth = s.depth; status = s.status; bits = s.bits }) a
    ∙ ap (λ x. record { formula = f; inputs = s.inputs; lines = s.lines; handed = x; depth = s.depth; status = s.status; bits = s.bits }) b
    ∙ ap (λ x. record { formula = f; inputs = s.inputs; lines = s.lines; handed = hs; depth = x; status = s.status; bits = s.bits }) e

-- one clause more leaves the question
pub question_hold : (w u : State) (count : ℕ) (n : Numbered) → count ≤ length w.clauses → u.vars ≡ w.vars → u.clauses ≡ w.clauses ++ n ∷ [] → question u count ≡ question w count
question_hold w u count n h v c =
    let pushed : bare u.clauses ≡ bare w.clauses ++ n.clause ∷ [] = ap bare c ∙ map_push (λ n. n.clause) w.clauses n in
    clauses_is u.vars w.vars (take count (bare u.clauses)) (take count (bare w.clauses)) v
    (ap (take count) pushed ∙ take-append-le count (bare w.clauses) (n.clause ∷ []) (omega (arith, length-map w.clauses (λ (n : Numbered). n.clause))))

pub question_same : (w u : State) (count : ℕ) → u.vars ≡ w.vars → u.clauses ≡ w.clauses → question u count ≡ question w count
question_same w u count v c = clauses_is u.vars w.vars (take count (bare u.clauses)) (take count (bare w.clauses)) v (ap (λ x. take count (bare x)) c)

named_bare : (clauses : List Numbered) (id : ℕ) (c : List Literal) → Named clauses id c → Contains (bare clauses) c
named_bare clauses id c m = (m.0, omega (arith, m.1, length-map clauses (λ (n : Numbered). n.clause)), get_or-map (λ n. n.clause) clauses m.0 (record { id = id; clause = c }) c m.1 ∙ ap (λ (n : Numbered). n.clause) m.2)

-- a clause at hand has no id 0
positive : (f : Clauses) (lines : List Step) (hs : List Handed) → HaveOwnIds f lines hs → (h : ℕ) (c : List Literal) → NamesAtHand f.clauses lines hs h c → 1 ≤ h
positive f lines hs own h c (inl (inl a)) = a.0
positive f lines hs own h c (inl (inr x)) = let w = All-contains (λ (s : Step). length f.clauses < s.id) lines x.0 own.lines_above x.1.0 in omega (arith, w, x.1.1)
positive f lines hs own h c (inr x) = let w = All-contains (λ (y : Handed). length f.clauses < y.id) hs x.0 own.handed_above x.1.0 in omega (arith, w, x.1.1)

-- the trail alone changes
pub Engine-trail : (w : State) (inputs count last : ℕ) (j : Proof) (places : List ℕ) (status : Status) (bits : List Bool) → IsEngine w inputs count last j places status bits → (u : State) → u.vars ≡ w.vars → u.clauses ≡ w.clauses → AllStand (bare w.clauses) inputs u.trail → IsEngine u inputs count last j places status bits
Engine-trail w inputs count last j places status bits s u v c a = subst (λ x. IsEngine x inputs count last j places status bits) (sym (state_is u w.vars u.depth w.clauses u.trail v c refl refl)) (record {
  room = s.room;
  few = s.few;
  counted = s.counted;
  beginning = s.beginning;
  counted_ids = s.counted_ids;
  ids = s.ids;
  line_ids = s.line_ids;
  own_ids = s.own_ids;
  placed = s.placed;
  determined = s.determined;
  stands = a;
  at_hand = s.at_hand;
  log = s.log;
})

-- the whole state
module _ (w : State) (inputs count last : ℕ) (j : Proof) (places : List ℕ) where
  module _ (status : Status) (bits : List Bool) (s : IsEngine w inputs count last j places status bits) where
    -- the search ends
    pub Engine-end : (now : Status) (new : List Bool) (more : ℕ) (k : Proof) → (now ≡ Running → ⊥) → last ≤ more → k.first ≡ j.first → All (λ x. x.id ≤ more) k.lines → HaveOwnIds (question w count) k.lines (all_handed w.clauses places) → IsLog (question w count) inputs (all_handed w.clauses places) k.lines now new → IsEngine w inputs count more k places now new
    Engine-end now new more k n up first low own log = record {
      room = s.room;
      few = s.few;
      counted = s.counted;
      beginning = first ∙ s.beginning;
      counted_ids = omega (arith, s.counted_ids);
      ids = All-weaker (λ (n : Numbered). n.id ≤ last) (λ (n : Numbered). n.id ≤ more) (λ n h. omega arith) w.clauses s.ids;
      line_ids = low;
      own_ids = own;
      placed = s.placed;
      determined = s.determined;
      stands = s.stands;
      at_hand = λ r. absurd (n r);
      log = log;
    }

    pub Engine-fail : (status ≡ Refuted → ⊥) → (more : ℕ) → last ≤ more → IsEngine w inputs count more j places Failed bits
    Engine-fail n more up = Engine-end Failed bits more j (λ r. let z : Failed ≡ Running = r in cc) up refl (All-weaker (λ (x : Step). x.id ≤ last) (λ (x : Step). x.id ≤ more) (λ x h. omega arith) j.lines s.line_ids) s.own_ids
        (IsLog-fail (question w count) inputs (all_handed w.clauses places) j.lines status bits bits n s.log)

    -- one clause more
    pub Engine-hold : (n : Numbered) (u : State) (more : List ℕ) (k : Proof) (now : Status) → last < n.id → u.vars ≡ w.vars → u.clauses ≡ w.clauses ++ n ∷ [] → AllStand (bare w.clauses ++ n.clause ∷ []) inputs u.trail → k.first ≡ j.first → All (λ x. x.id ≤ n.id) k.lines → All (λ p. p < length w.clauses + 1) more
        → (now ≡ Running → IsHand (take count (bare w.clauses)) k.lines (all_handed (w.clauses ++ n ∷ []) more) (w.clauses ++ n ∷ []))
        → HaveOwnIds (question w count) k.lines (all_handed (w.clauses ++ n ∷ []) more)
        → IsLog (question w count) inputs (all_handed (w.clauses ++ n ∷ []) more) k.lines now bits
        → IsEngine u inputs count n.id k more now bits
    Engine-hold n u more k now up v c a first low placed hand own log =
        let q = question_hold w u count n s.counted v c in
        let long : length u.clauses ≡ length w.clauses + 1 = ap length c ∙ length_push w.clauses n in
        let q_clauses : take count (bare u.clauses) ≡ take count (bare w.clauses) = ap (λ f. f.clauses) q in
        record {
          room = subst (λ x. x < 4294967295) (sym v) s.room;
          few = subst (λ x. inputs ≤ x) (sym v) s.few;
          counted = omega (arith, s.counted, long);
          beginning = first ∙ s.beginning;
          counted_ids = omega (arith, s.counted_ids);
          ids = subst (All (λ (x : Numbered). x.id ≤ n.id)) (sym c) (All-push (λ (x : Numbered). x.id ≤ n.id) w.clauses n (All-weaker (λ (x : Numbered). x.id ≤ last) (λ (x : Numbered). x.id ≤ n.id) (λ x h. omega arith) w.clauses s.ids) (omega arith));
          line_ids = low;
          own_ids = subst (λ f. HaveOwnIds f k.lines (all_handed u.clauses more)) (sym q) (subst (λ cs. HaveOwnIds (question w count) k.lines (all_handed cs more)) (sym c) own);
          placed = subst (λ m. All (λ p. p < m) more) (sym long) placed;
          determined = subst (λ f. Determined f inputs) (sym q) s.determined;
          stands = subst (λ x. AllStand x inputs u.trail) (sym (ap bare c ∙ map_push (λ n. n.clause) w.clauses n)) a;
          at_hand = λ r. subst (λ x. IsHand x k.lines (all_handed u.clauses more) u.clauses) (sym q_clauses) (subst (λ cs. IsHand (take count (bare w.clauses)) k.lines (all_handed cs more) cs) (sym c) (hand r));
          log = subst (λ f. IsLog f inputs (all_handed u.clauses more) k.lines now bits) (sym q) (subst (λ cs. IsLog (question w count) inputs (all_handed cs more) k.lines now bits) (sym c) log);
        }

    pub new_id : (id : ℕ) → last < id → IsNewId (question w count) j.lines (all_handed w.clauses places) id
    new_id id h = record {
      formula = omega (arith, length-take-le count (bare w.clauses) (omega (arith, s.counted, length-map w.clauses (λ (n : Numbered). n.clause))), s.counted_ids);
      lines = All-weaker (λ (x : Step). x.id ≤ last) (λ (x : Step). x.id < id) (λ x y. omega arith) j.lines s.line_ids;
      handed = All-weaker (λ (x : Handed). x.id < last + 1) (λ (x : Handed). x.id < id) (λ x y. omega arith) (all_handed w.clauses places) (handed_ids w.clauses places last s.ids s.placed);
    }

    -- a clause is handed over
    pub Engine-import : (n : Numbered) (u : State) (place : ℕ) → last < n.id → All (λ x. x.id < n.id) j.lines → u.vars ≡ w.vars → u.clauses ≡ w.clauses ++ n ∷ [] → AllStand (bare w.clauses ++ n.clause ∷ []) inputs u.trail → place ≡ length w.clauses → IsEngine u inputs count n.id j (places ++ place ∷ []) status bits
    Engine-import n u place up above v c a e =
        let is : all_handed (w.clauses ++ n ∷ []) (places ++ place ∷ []) ≡ all_handed w.clauses places ++ record { id = n.id; clause = n.clause } ∷ [] = all_handed_new w.clauses n places place e s.placed in
        Engine-hold n u (places ++ place ∷ []) j status up v c a refl
        (All-weaker (λ (x : Step). x.id < n.id) (λ (x : Step). x.id ≤ n.id) (λ x h. omega arith) j.lines above)
        (All-push (λ p. p < length w.clauses + 1) places place (All-weaker (λ p. p < length w.clauses) (λ p. p < length w.clauses + 1) (λ p h. omega arith) places s.placed) (omega (arith, e)))
        (λ r. subst (λ x. IsHand (take count (bare w.clauses)) j.lines x (w.clauses ++ n ∷ [])) (sym is) (IsHand-import (take count (bare w.clauses)) j.lines (all_handed w.clauses places) w.clauses (s.at_hand r) (record { id = n.id; clause = n.clause })))
        (subst (HaveOwnIds (question w count) j.lines) (sym is) (OwnIds-import (question w count) j.lines (all_handed w.clauses places) s.own_ids (record { id = n.id; clause = n.clause }) (new_id n.id up)))
        (subst (λ x. IsLog (question w count) inputs x j.lines status bits) (sym is) (IsLog-import (question w count) inputs (all_handed w.clauses places) j.lines status bits (record { id = n.id; clause = n.clause }) above s.log))

  module _ (bits : List Bool) (s : IsEngine w inputs count last j places Running bits) where
    hand : IsHand (take count (bare w.clauses)) j.lines (all_handed w.clauses places) w.clauses
    hand = s.at_hand refl

    -- all inputs have values, and nothing is false or unit
    pub model_of : (new : List Bool) → length new ≡ w.vars + 1 → Agrees new w.vars (lits w.trail) → IsQuiet (bare w.clauses) (lits w.trail) → ((v : ℕ) → 1 ≤ v → v ≤ inputs → IsAssigned (lits w.trail) v) → AreHeld w.vars w.clauses → IsModel (question w count) new
    model_of new long g q a held = record {
      long = long;
      satisfies = model_satisfies new (lits w.trail) w.vars (take count (bare w.clauses)) g
          (s.determined (lits w.trail) (quiet_less (bare w.clauses) count (lits w.trail) q) a)
          (quiet_less (bare w.clauses) count (lits w.trail) q)
          (All-take (λ c. All (IsWithin w.vars) c) count (bare w.clauses) (All-map (λ c. All (IsWithin w.vars) c) (λ (n : Numbered). n.clause) w.clauses held.within));
    }

    pub Engine-model : (new : List Bool) → IsModel (question w count) new → IsEngine w inputs count last j places Model new
    Engine-model new m = Engine-end Running bits s Model new last j (λ r. let z : Model ≡ Running = r in cc) (omega arith) refl s.line_ids s.own_ids
        (IsLog-model (question w count) inputs (all_handed w.clauses places) j.lines bits s.log new m)

    lead_names : (hints : List ℕ) (held : List Literal) → Leads (Named w.clauses) held hints → Leads (NamesAtHand (take count (bare w.clauses)) j.lines (all_handed w.clauses places)) held hints
    lead_names hints held = Leads-more (Named w.clauses) (NamesAtHand (take count (bare w.clauses)) j.lines (all_handed w.clauses places)) hand.named hints held

    pub passes_empty : (id : ℕ) (clause : List Literal) (hints : List ℕ) → clause ≡ [] → Passes (Named w.clauses) [] hints → PassesAfter (question w count) j.lines (all_handed w.clauses places) (record { id = id; clause = clause; hints = hints })
    passes_empty id clause hints e p = subst (λ c. PassesAfter (question w count) j.lines (all_handed w.clauses places) (record { id = id; clause = c; hints = hints })) (sym e) (p.0, lead_names hints (map negated []) p.1)

    pub names_all : (id : ℕ) (clause : List Literal) (hints : List ℕ) → AreNamed (Named w.clauses) hints → NamesAll (question w count) j.lines (all_handed w.clauses places) (record { id = id; clause = clause; hints = hints })
    names_all id clause hints n = All-weaker (λ h. (c : List Literal) × Named w.clauses h c) (λ h. (1 ≤ h) × ((c : List Literal) × NamesAtHand (take count (bare w.clauses)) j.lines (all_handed w.clauses places) h c))
        (λ h e. let m = hand.named h e.0 e.1 in (positive (question w count) j.lines (all_handed w.clauses places) s.own_ids h e.0 m, (e.0, m))) hints n

    -- the empty clause ends it
    pub Engine-refute : (clause : List Literal) (hints : List ℕ) → clause ≡ [] → Passes (Named w.clauses) [] hints → AreNamed (Named w.clauses) hints → IsEngine w inputs count (last + 1) (record { first = j.first; lines = j.lines ++ record { id = last + 1; clause = clause; hints = hints } ∷ [] }) places Refuted bits
    Engine-refute clause hints e p n =
        let x : Step = record { id = last + 1; clause = clause; hints = hints } in
        let within : All (IsWithin w.vars) clause = λ k d h. absurd (omega (arith, ap length e)) in
        Engine-end Running bits s Refuted bits (last + 1) (record { first = j.first; lines = j.lines ++ x ∷ [] }) (λ r. let z : Refuted ≡ Running = r in cc) (omega arith) refl
        (All-push (λ (x : Step). x.id ≤ last + 1) j.lines x (All-weaker (λ (x : Step). x.id ≤ last) (λ (x : Step). x.id ≤ last + 1) (λ x h. omega arith) j.lines s.line_ids) (omega arith))
        (OwnIds-learn (question w count) j.lines (all_handed w.clauses places) s.own_ids x (new_id Running bits s (last + 1) (omega arith)))
        (IsLog-refute (question w count) inputs (all_handed w.clauses places) j.lines bits s.log x (new_id Running bits s (last + 1) (omega arith)) within (passes_empty (last + 1) clause hints e p) (names_all (last + 1) clause hints n) e)

    -- what is learned
    module _ (tr : IsTrail w.trail w.depth) (forced : AreForced (Named w.clauses) w.trail) (trail_within : All (IsWithin w.vars) (lits w.trail)) (clause : List Literal) (hints : List ℕ) (level : ℕ) (l : Learns w clause hints level) (some : 0 < length clause) (false_id : ℕ) (false_clause : List Literal) (is_named : Named w.clauses false_id false_clause) (is_false : IsFalse (lits w.trail) false_clause) where
      decision : Decision w.trail w.depth
      decision =
          let m = l.kept (get_or clause 0 (record { var = 0; negative = false })) (Contains-get_or clause 0 _ some) in
          tr.begun w.depth (let b = tr.below m.place m.inside in let c = m.level in omega (arith, b, c)) (omega arith)

      quiet_before : IsQuiet (bare w.clauses) (lits (take decision.place w.trail))
      quiet_before = (s.stands decision.place decision.inside decision.decided).quiet

      has : Contains clause (negated (entry w.trail decision.place).lit)
      has = has_decision w.trail w.depth tr decision (Named w.clauses) (bare w.clauses) (named_bare w.clauses) quiet_before clause hints l.kept l.passes.1

      low : (k : ℕ) → k < length w.trail → 1 ≤ (entry w.trail k).lit.var
      low k h = (All-contains (IsWithin w.vars) (lits w.trail) (entry w.trail k).lit trail_within (holds_at w.trail k h)).0

      pub fresh : (id : ℕ) → IsFreshAfter (question w count) inputs j.lines (all_handed w.clauses places) (record { id = id; clause = clause; hints = hints })
      fresh id = is_fresh w.trail w.depth tr decision (NamesAtHand (take count (bare w.clauses)) j.lines (all_handed w.clauses places)) (hand_of (take count (bare w.clauses)) j.lines (all_handed w.clauses places))
          (at_hand (take count (bare w.clauses)) j.lines (all_handed w.clauses places))
          (λ c m. quiet_before c (hand.all c m))
          clause hints l.kept (lead_names hints (map negated clause) l.passes.1) inputs
          (AreForced-more (Named w.clauses) (NamesAtHand (take count (bare w.clauses)) j.lines (all_handed w.clauses places)) hand.named w.trail forced)
          low (λ k h r. (s.stands k h r).input) false_clause
          (at_hand (take count (bare w.clauses)) j.lines (all_handed w.clauses places) false_id false_clause (hand.named false_id false_clause is_named))
          is_false
          (λ m h. Hinted-more (Named w.clauses) (NamesAtHand (take count (bare w.clauses)) j.lines (all_handed w.clauses places)) hand.named hints (map negated clause) m (l.hinted m h))

      pub passes : (id : ℕ) → PassesAfter (question w count) j.lines (all_handed w.clauses places) (record { id = id; clause = clause; hints = hints })
      passes id = (l.passes.0, lead_names hints (map negated clause) l.passes.1)

      pub less : level < w.depth
      less = elim l.greatest.is [
        | inl z ↦ (let x = (tr.opened decision.place decision.inside decision.decided).0 in omega (arith, x, decision.level))
        | inr x ↦ x.1.1.1.3
      ]

      -- after going back
      module _ (b : State) (back : IsBack w b level) (kept : IsTrail b.trail b.depth) where
        shown : (k : ℕ) → k < length b.trail → entry b.trail k ≡ entry w.trail k
        shown k h = ap (λ t. entry t k) back.cut.front ∙ get_or-take (length b.trail) w.trail k _ h

        low_level : (k : ℕ) → k < length b.trail → (entry w.trail k).level ≤ level
        low_level k h = let z = kept.below k h in let e = ap (λ (x : Entry). x.level) (shown k h) in omega (arith, z, e, back.depth)

        pub may_hold : MayAdd b.trail b.depth clause
        may_hold = may_add w.trail w.depth tr decision clause has level l.greatest (length b.trail) back.cut.shorter low_level back.cut.undone less l.kept b.trail b.depth back.cut.front back.depth shown refl

        stands_more : (u : State) → u.trail ≡ b.trail → AllStand (bare w.clauses ++ clause ∷ []) inputs u.trail
        stands_more u e = subst (AllStand (bare w.clauses ++ clause ∷ []) inputs) (sym (e ∙ back.cut.front)) (AllStand-learn (bare w.clauses) inputs w.trail w.depth tr decision clause has level l.greatest less (length b.trail) back.cut.shorter low_level s.stands)

        pub Engine-back : IsEngine b inputs count (last + 1) j places Failed bits
        Engine-back = Engine-trail w inputs count (last + 1) j places Failed bits (Engine-fail Running bits s (λ q. let z : Running ≡ Refuted = q in cc) (last + 1) (omega arith)) b back.vars back.clauses
            (subst (AllStand (bare w.clauses) inputs) (sym back.cut.front) (AllStand-take (bare w.clauses) inputs w.trail (length b.trail) back.cut.shorter s.stands))

        module _ (u : State) (added : u ≡ record { vars = b.vars; clauses = b.clauses ++ record { id = last + 1; clause = clause } ∷ []; trail = b.trail; depth = b.depth }) where
          u_vars : u.vars ≡ w.vars
          u_vars = ap (λ x. x.vars) added ∙ back.vars

          u_clauses : u.clauses ≡ w.clauses ++ record { id = last + 1; clause = clause } ∷ []
          u_clauses = ap (λ x. x.clauses) added ∙ ap (λ cs. cs ++ record { id = last + 1; clause = clause } ∷ []) back.clauses

          same_handed : all_handed (w.clauses ++ record { id = last + 1; clause = clause } ∷ []) places ≡ all_handed w.clauses places
          same_handed = all_handed_old w.clauses (record { id = last + 1; clause = clause }) places s.placed

          more_places : All (λ p. p < length w.clauses + 1) places
          more_places = All-weaker (λ p. p < length w.clauses) (λ p. p < length w.clauses + 1) (λ p h. omega arith) places s.placed

          more_lines : All (λ (x : Step). x.id ≤ last + 1) j.lines
          more_lines = All-weaker (λ (x : Step). x.id ≤ last) (λ (x : Step). x.id ≤ last + 1) (λ x h. omega arith) j.lines s.line_ids

          pub same_question : question u count ≡ question w count
          same_question = question_hold w u count (record { id = last + 1; clause = clause }) s.counted u_vars u_clauses

          pub same_all_handed : all_handed u.clauses places ≡ all_handed w.clauses places
          same_all_handed = ap (λ cs. all_handed cs places) u_clauses ∙ same_handed

          pub Engine-held : IsEngine u inputs count (last + 1) j places Failed bits
          Engine-held = Engine-hold Running bits s (record { id = last + 1; clause = clause }) u places j Failed (omega arith) u_vars u_clauses (stands_more u (ap (λ x. x.trail) added)) refl more_lines more_places
              (λ r. absurd (let z : Failed ≡ Running = r in cc))
              (subst (HaveOwnIds (question w count) j.lines) (sym same_handed) s.own_ids)
              (subst (λ x. IsLog (question w count) inputs x j.lines Failed bits) (sym same_handed) (IsLog-fail (question w count) inputs (all_handed w.clauses places) j.lines Running bits bits (λ q. let z : Running ≡ Refuted = q in cc) s.log))

          pub Engine-learn : IsEngine u inputs count (last + 1) (record { first = j.first; lines = j.lines ++ record { id = last + 1; clause = clause; hints = hints } ∷ [] }) places Running bits
          Engine-learn =
              let x : Step = record { id = last + 1; clause = clause; hints = hints } in
              Engine-hold Running bits s (record { id = last + 1; clause = clause }) u places (record { first = j.first; lines = j.lines ++ x ∷ [] }) Running (omega arith) u_vars u_clauses (stands_more u (ap (λ x. x.trail) added)) refl
              (All-push (λ (x : Step). x.id ≤ last + 1) j.lines x more_lines (omega arith)) more_places
              (λ r. subst (λ y. IsHand (take count (bare w.clauses)) (j.lines ++ x ∷ []) y (w.clauses ++ record { id = last + 1; clause = clause } ∷ [])) (sym same_handed) (IsHand-learn (take count (bare w.clauses)) j.lines (all_handed w.clauses places) w.clauses hand x))
              (subst (HaveOwnIds (question w count) (j.lines ++ x ∷ [])) (sym same_handed) (OwnIds-learn (question w count) j.lines (all_handed w.clauses places) s.own_ids x (new_id Running bits s (last + 1) (omega arith))))
              (subst (λ y. IsLog (question w count) inputs y (j.lines ++ x ∷ []) Running bits) (sym same_handed) (IsLog-learn (question w count) inputs (all_handed w.clauses places) j.lines bits s.log x (new_id Running bits s (last + 1) (omega arith)) l.within (passes (last + 1)) (names_all (last + 1) clause hints l.named) (fresh (last + 1))))

-- a search at its start
pub question_new : (f : Clauses) (count : ℕ) (w : State) → count ≡ length f.clauses → w ≡ record { vars = f.vars; clauses = numbered_from 1 f.clauses; trail = []; depth = 0 } → question w count ≡ f
question_new f count w c e =
    let whole : take count (bare w.clauses) ≡ f.clauses = ap (λ x. take count (bare x.clauses)) e ∙ ap (take count) (bare_numbered 1 f.clauses) ∙ take_all count f.clauses (omega (arith, c)) in
    clauses_is w.vars f.vars (take count (bare w.clauses)) f.clauses (ap (λ x. x.vars) e) whole

abbrev search_at : Clauses → ℕ → List Step → List Handed → ℕ → Status → List Bool → Search
search_at f i ls hs d st bits = record { formula = f; inputs = i; lines = ls; handed = hs; depth = d; status = st; bits = bits }

pub search_new : (f : Clauses) (inputs count : ℕ) (w : State) (j : Proof) (places : List ℕ) (bits : List Bool) → count ≡ length f.clauses → w ≡ record { vars = f.vars; clauses = numbered_from 1 f.clauses; trail = []; depth = 0 } → j ≡ record { first = count + 1; lines = [] } → places ≡ [] → bits ≡ []
    → search_at (question w count) inputs j.lines (all_handed w.clauses places) w.depth Running bits ≡ search_at f inputs [] [] 0 Running []
search_new f inputs count w j places bits c e g p b =
    ap (λ x. search_at x inputs j.lines (all_handed w.clauses places) w.depth Running bits) (question_new f count w c e)
    ∙ ap (λ x. search_at f inputs x.lines (all_handed w.clauses places) w.depth Running bits) g
    ∙ ap (λ x. search_at f inputs [] (all_handed w.clauses x) w.depth Running bits) p
    ∙ ap (λ x. search_at f inputs [] [] x.depth Running bits) e
    ∙ ap (search_at f inputs [] [] 0 Running) b

pub Engine-new : (f : Clauses) (inputs count : ℕ) (w : State) (j : Proof) (places : List ℕ) (bits : List Bool) → f.vars < 4294967295 → inputs ≤ f.vars → Determined f inputs → count ≡ length f.clauses → w ≡ record { vars = f.vars; clauses = numbered_from 1 f.clauses; trail = []; depth = 0 } → j ≡ record { first = count + 1; lines = [] } → places ≡ [] → IsEngine w inputs count count j places Running bits
Engine-new f inputs count w j places bits room few det c e g p =
    let whole : take count (bare (numbered_from 1 f.clauses)) ≡ f.clauses = ap (take count) (bare_numbered 1 f.clauses) ∙ take_all count f.clauses (omega (arith, c)) in
    let is : clauses_of f.vars (take count (bare (numbered_from 1 f.clauses))) ≡ f = clauses_is f.vars f.vars (take count (bare (numbered_from 1 f.clauses))) f.clauses refl whole in
    subst (λ x. IsEngine x inputs count count j places Running bits) (sym e) (subst (λ x. IsEngine (record { vars = f.vars; clauses = numbered_from 1 f.clauses; trail = []; depth = 0 }) inputs count count x places Running bits) (sym g) (subst (λ x. IsEngine (record { vars = f.vars; clauses = numbered_from 1 f.clauses; trail = []; depth = 0 }) inputs count count (record { first = count + 1; lines = [] }) x Running bits) (sym p) (record {
      room = room;
      few = few;
      counted = omega (arith, c, length_numbered 1 f.clauses);
      beginning = refl;
      counted_ids = omega arith;
      ids = numbered_ids f.clauses count c;
      line_ids = λ k d h. absurd (omega arith);
      own_ids = OwnIds-none (record { vars = f.vars; clauses = take count (bare (numbered_from 1 f.clauses)) });
      placed = λ k d h. absurd (omega arith);
      determined = subst (λ x. Determined x inputs) (sym is) det;
      stands = λ k h. absurd (omega arith);
      at_hand = λ r. subst (λ x. IsHand x [] [] (numbered_from 1 f.clauses)) (sym whole) (IsHand-start f.clauses);
      log = IsLog-none (record { vars = f.vars; clauses = take count (bare (numbered_from 1 f.clauses)) }) inputs [] [] bits refl;
    })))
  where
    numbered_ids : (cs : List (List Literal)) (n : ℕ) → n ≡ length cs → All (λ x. x.id ≤ n) (numbered_from 1 cs)
    numbered_ids cs n e = All-weaker (λ (x : Numbered). x.id < n + 1) (λ (x : Numbered). x.id ≤ n) (λ x h. omega arith) (numbered_from 1 cs) (numbered_below 1 (n + 1) cs (omega (arith, e)))

-- only the trail changed before the step
module _ (a b : Engine) (m : Moves a b) where
  moved_question : question b.watch b.count ≡ question a.watch a.count
  moved_question = question_same a.watch b.watch b.count m.vars m.clauses ∙ ap (question a.watch) m.count

  moved_lines : b.journal.lines ≡ a.journal.lines
  moved_lines = ap (λ j. j.lines) m.journal

  moved_handed : all_handed b.watch.clauses b.handed.items ≡ all_handed a.watch.clauses a.handed.items
  moved_handed = ap (λ cs. all_handed cs b.handed.items) m.clauses ∙ ap (all_handed a.watch.clauses) m.places

  pub same_after : (c : Engine) → Same (search_of b) (search_of c) → Same (search_of a) (search_of c)
  same_after c s = record { formula = s.formula ∙ moved_question; inputs = s.inputs ∙ m.inputs; handed = s.handed ∙ moved_handed }

  pub stepped_after : (c : Engine) (r : Stepped) → SteppedIs (search_of b) (search_of c) r → SteppedIs (search_of a) (search_of c) r
  stepped_after c HasLearned p =
      let P : Clauses → ℕ → List Step → List Handed → Type 0 = λ f i ls hs. (x : Adds f ls hs c.journal.lines) × IsFreshAfter f i ls hs x.added in (
        p.0,
        subst (λ f. P f a.inputs a.journal.lines (all_handed a.watch.clauses a.handed.items)) moved_question
            (subst (λ i. P (question b.watch b.count) i a.journal.lines (all_handed a.watch.clauses a.handed.items)) m.inputs
            (subst (λ ls. P (question b.watch b.count) b.inputs ls (all_handed a.watch.clauses a.handed.items)) moved_lines
            (subst (λ hs. P (question b.watch b.count) b.inputs b.journal.lines hs) moved_handed p.1))),
      )
  stepped_after c HasModel p = (p.0, p.1 ∙ moved_lines, subst (λ f. IsModel f c.assignment.items) moved_question p.2)
  stepped_after c HasRefuted p =
      let P : Clauses → List Step → List Handed → Type 0 = λ f ls hs. (x : Adds f ls hs c.journal.lines) × (x.added.clause ≡ []) in (
        p.0,
        subst (λ f. P f a.journal.lines (all_handed a.watch.clauses a.handed.items)) moved_question
            (subst (λ ls. P (question b.watch b.count) ls (all_handed a.watch.clauses a.handed.items)) moved_lines
            (subst (λ hs. P (question b.watch b.count) b.journal.lines hs) moved_handed p.1)),
      )

  pub ok_after : (c : Engine) (r : Result Stepped AllocError) → IfOk r (SteppedIs (search_of b) (search_of c)) → IfOk r (SteppedIs (search_of a) (search_of c))
  ok_after c (Ok x) p = stepped_after c x p
  ok_after c (Err e) p = p

pub moves_after : (a b c : Engine) → Moves a b → Moves b c → Moves a c
moves_after a b c m n = record {
  vars = n.vars ∙ m.vars;
  clauses = n.clauses ∙ m.clauses;
  inputs = n.inputs ∙ m.inputs;
  count = n.count ∙ m.count;
  last = n.last ∙ m.last;
  journal = n.journal ∙ m.journal;
  places = n.places ∙ m.places;
  status = n.status ∙ m.status;
  bits = n.bits ∙ m.bits;
  ready = λ r. n.ready (m.ready r);
}
