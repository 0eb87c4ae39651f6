-- how the lines and the clauses at hand grow
use Rattle.std.proofs.Common.{◌≡◌, inl, inr, ℕ, suc, zero, ◌+◌, ◌-◌, ◌<◌, ◌≤◌, Bool, true, cond, List, [], ◌∷◌, ◌++◌, length, get_or, map, take, refl, sym, ◌∙◌, ap, subst, arith}
use Rattle.std.specs.Prelude.{All, Contains, Some, nat_lt, slice_get}
use Rattle.std.proofs.Math.Seq.{get_or-append_seam, take-append_seam}
use Rattle.std.proofs.lemmas.List.{length_push, length-map, take-append-le, get_or_append_left, get_or-map, map_push, append-nil}
use Rattle.std.proofs.lemmas.List.Elements.{All-contains, All-get_or, All-filter, All-push, All-head, All-tail, All-contains_itself, All-cons, filter-append, Contains-append_left, Contains-append_right, Contains-append_cases, Contains-push, Contains-push_cases, Contains-get_or}
use Rattle.std.proofs.lemmas.Bool.{cases_lt, lt-ltb, le-ltb}
use Rattle.std.proofs.lemmas.Option.{slice_get_within, slice_get-get_or, get_or_from_slice_get}
use Rattle.rr_cnf.specs.Clauses.{Literal, Clauses, IsWithin}
use Rattle.rr_derive.specs.Derive.{Step}
use Rattle.rr_derive.specs.Fresh.{Handed, NamesAtHand, hand_of}
use Rattle.rr_watch.specs.Watches.{bare}
use Rattle.rr_watch_lists.specs.Numbers.{Numbered, numbered_from}
use Rattle.rr_watch_lists.proofs.HandLaws.{numbered_at}
use Rattle.rr_solver.specs.Searches.{HaveOwnIds, IsFreshAfter, IsLog, IsModel, IsNewId, NamesAll, PassesAfter, before, line}
use Rattle.rr_solver.specs.Engines.{IsHand, all_handed, handed_at}
use Rattle.rr_solver.specs.declared.engine.Status.{Status}
use Rattle.rr_solver.specs.declared.engine.Status.TheVariants.{Running, Model, Refuted, Failed}

-- what was handed over before a line
pub before_all : (n : ℕ) (hs : List Handed) → All (λ h. h.id < n) hs → before n hs ≡ hs
before_all n [] a = refl
before_all n (h ∷ hs) a =
    let first : nat_lt h.id n ≡ true = lt-ltb h.id n (All-head (λ h. h.id < n) h hs a) in
    ap (λ b. cond b (h ∷ before n hs) (before n hs)) first ∙ ap (λ x. h ∷ x) (before_all n hs (All-tail (λ h. h.id < n) h hs a))

pub before_push : (n : ℕ) (hs : List Handed) (h : Handed) → n ≤ h.id → before n (hs ++ h ∷ []) ≡ before n hs
before_push n hs h le =
    let last : before n (h ∷ []) ≡ [] = ap (λ b. cond b (h ∷ []) []) (le-ltb h.id n le) in
    filter-append (λ h. nat_lt h.id n) hs (h ∷ []) ∙ ap (λ x. before n hs ++ x) last ∙ append-nil (before n hs)

pub from_before : (n : ℕ) (hs : List Handed) (h : Handed) → Contains (before n hs) h → Contains hs h
from_before n hs h c = All-contains (Contains hs) (before n hs) h (All-filter (λ h. nat_lt h.id n) (Contains hs) hs (All-contains_itself hs)) c

-- a relation of each line to the lines before it and what was handed over before it
module _ (P : List Step → List Handed → Step → Type 0) (hs : List Handed) (lines : List Step) where
  pub at_old : (s : Step) (k : ℕ) → k < length lines → P (take k lines) (before (line lines k).id hs) (line lines k) → P (take k (lines ++ s ∷ [])) (before (line (lines ++ s ∷ []) k).id hs) (line (lines ++ s ∷ []) k)
  at_old s k i p =
      subst (λ x. P (take k (lines ++ s ∷ [])) (before x.id hs) x) (sym (get_or_append_left lines (s ∷ []) _ k i))
      (subst (λ ls. P ls (before (line lines k).id hs) (line lines k)) (sym (take-append-le k lines (s ∷ []) (omega arith))) p)

  pub at_new : (s : Step) (k : ℕ) → k ≡ length lines → All (λ h. h.id < s.id) hs → P lines hs s → P (take k (lines ++ s ∷ [])) (before (line (lines ++ s ∷ []) k).id hs) (line (lines ++ s ∷ []) k)
  at_new s k e a p =
      subst (λ n. P (take n (lines ++ s ∷ [])) (before (line (lines ++ s ∷ []) n).id hs) (line (lines ++ s ∷ []) n)) (sym e)
      (subst (λ ls. P ls (before (line (lines ++ s ∷ []) (length lines)).id hs) (line (lines ++ s ∷ []) (length lines))) (sym (take-append_seam lines (s ∷ [])))
      (subst (λ x. P lines (before x.id hs) x) (sym (get_or-append_seam lines s [] _)) (subst (λ b. P lines b s) (sym (before_all s.id hs a)) p)))

  pub at_more : (h : Handed) (k : ℕ) → k < length lines → (line lines k).id ≤ h.id → P (take k lines) (before (line lines k).id hs) (line lines k) → P (take k lines) (before (line lines k).id (hs ++ h ∷ [])) (line lines k)
  at_more h k i le p = subst (λ b. P (take k lines) b (line lines k)) (sym (before_push (line lines k).id hs h le)) p

module _ (f : Clauses) (inputs : ℕ) (hs : List Handed) (lines : List Step) where
  pub IsLog-none : (bits : List Bool) → lines ≡ [] → IsLog f inputs hs lines Running bits
  IsLog-none bits e = record {
    above = λ k d h. absurd (omega (arith, ap length e));
    within = λ k d h. absurd (omega (arith, ap length e));
    passes = λ k h. absurd (omega (arith, ap length e));
    hints = λ k h. absurd (omega (arith, ap length e));
    fresh = λ k h. absurd (omega (arith, ap length e));
    refuted = λ q. absurd (let z : Running ≡ Refuted = q in cc);
    model = λ q. absurd (let z : Running ≡ Model = q in cc);
  }

  -- the search is out of memory
  pub IsLog-fail : (status : Status) (bits more : List Bool) → (status ≡ Refuted → ⊥) → IsLog f inputs hs lines status bits → IsLog f inputs hs lines Failed more
  IsLog-fail status bits more n log = record {
    above = log.above;
    within = log.within;
    passes = log.passes;
    hints = log.hints;
    fresh = λ k h e. log.fresh k h (λ q. absurd (n q));
    refuted = λ q. absurd (let z : Failed ≡ Refuted = q in cc);
    model = λ q. absurd (let z : Failed ≡ Model = q in cc);
  }

  module _ (bits : List Bool) (log : IsLog f inputs hs lines Running bits) where
    pub IsLog-model : (new : List Bool) → IsModel f new → IsLog f inputs hs lines Model new
    IsLog-model new m = record {
      above = log.above;
      within = log.within;
      passes = log.passes;
      hints = log.hints;
      fresh = λ k h e. log.fresh k h (λ q. absurd (let z : Running ≡ Refuted = q in cc));
      refuted = λ q. absurd (let z : Model ≡ Refuted = q in cc);
      model = λ q. m;
    }

    module _ (s : Step) (id : IsNewId f lines hs s.id) (within : All (IsWithin f.vars) s.clause) (passes : PassesAfter f lines hs s) (hints : NamesAll f lines hs s) where
      all_pass : (k : ℕ) → k < length (lines ++ s ∷ []) → PassesAfter f (take k (lines ++ s ∷ [])) (before (line (lines ++ s ∷ []) k).id hs) (line (lines ++ s ∷ []) k)
      all_pass k h = elim (cases_lt k (length lines)) [
        | inl i ↦ at_old (PassesAfter f) hs lines s k i (log.passes k i)
        | inr i ↦ at_new (PassesAfter f) hs lines s k (omega (arith, length_push lines s)) id.handed passes
      ]

      all_named : (k : ℕ) → k < length (lines ++ s ∷ []) → NamesAll f (take k (lines ++ s ∷ [])) (before (line (lines ++ s ∷ []) k).id hs) (line (lines ++ s ∷ []) k)
      all_named k h = elim (cases_lt k (length lines)) [
        | inl i ↦ at_old (NamesAll f) hs lines s k i (log.hints k i)
        | inr i ↦ at_new (NamesAll f) hs lines s k (omega (arith, length_push lines s)) id.handed hints
      ]

      old_fresh : (k : ℕ) → k < length lines → IsFreshAfter f inputs (take k (lines ++ s ∷ [])) (before (line (lines ++ s ∷ []) k).id hs) (line (lines ++ s ∷ []) k)
      old_fresh k i = at_old (IsFreshAfter f inputs) hs lines s k i (log.fresh k i (λ q. absurd (let z : Running ≡ Refuted = q in cc)))

      pub IsLog-learn : IsFreshAfter f inputs lines hs s → IsLog f inputs hs (lines ++ s ∷ []) Running bits
      IsLog-learn fresh = record {
        above = All-push (λ s. length f.clauses < s.id) lines s log.above id.formula;
        within = All-push (λ s. All (IsWithin f.vars) s.clause) lines s log.within within;
        passes = all_pass;
        hints = all_named;
        fresh = λ k h e. elim (cases_lt k (length lines)) [
          | inl i ↦ old_fresh k i
          | inr i ↦ at_new (IsFreshAfter f inputs) hs lines s k (omega (arith, length_push lines s)) id.handed fresh
        ];
        refuted = λ q. absurd (let z : Running ≡ Refuted = q in cc);
        model = λ q. absurd (let z : Running ≡ Model = q in cc);
      }

      pub IsLog-refute : s.clause ≡ [] → IsLog f inputs hs (lines ++ s ∷ []) Refuted bits
      IsLog-refute n = record {
        above = All-push (λ s. length f.clauses < s.id) lines s log.above id.formula;
        within = All-push (λ s. All (IsWithin f.vars) s.clause) lines s log.within within;
        passes = all_pass;
        hints = all_named;
        fresh = λ k h e. old_fresh k (let w = e refl in omega (arith, w, length_push lines s));
        refuted = λ q. (
          omega (arith, length_push lines s),
          (let z : length (lines ++ s ∷ []) - 1 ≡ length lines = omega (arith, length_push lines s) in ap (λ n. (line (lines ++ s ∷ []) n).clause) z ∙ ap (λ x. x.clause) (get_or-append_seam lines s [] _) ∙ n),
        );
        model = λ q. absurd (let z : Refuted ≡ Model = q in cc);
      }

  pub IsLog-import : (status : Status) (bits : List Bool) (h : Handed) → All (λ s. s.id < h.id) lines → IsLog f inputs hs lines status bits → IsLog f inputs (hs ++ h ∷ []) lines status bits
  IsLog-import status bits h above log = record {
    above = log.above;
    within = log.within;
    passes = λ k i. at_more (PassesAfter f) hs lines h k i (low k i) (log.passes k i);
    hints = λ k i. at_more (NamesAll f) hs lines h k i (low k i) (log.hints k i);
    fresh = λ k i e. at_more (IsFreshAfter f inputs) hs lines h k i (low k i) (log.fresh k i e);
    refuted = log.refuted;
    model = log.model;
  }
    where
      low : (k : ℕ) → k < length lines → (line lines k).id ≤ h.id
      low k i = let w = All-get_or (λ s. s.id < h.id) lines k (record { id = 0; clause = []; hints = [] }) i above in omega (arith, w)

-- ids of lines and of what was handed over
abbrev no_line : Step
no_line = record { id = 0; clause = []; hints = [] }

abbrev no_handed : Handed
no_handed = record { id = 0; clause = [] }

rise_push : {X : Type 0} (xs : List X) (x : X) (id : X → ℕ) (d : X) → ((j k : ℕ) → j < k → k < length xs → id (get_or xs j d) < id (get_or xs k d)) → All (λ y. id y < id x) xs → (j k : ℕ) → j < k → k < length (xs ++ x ∷ []) → id (get_or (xs ++ x ∷ []) j d) < id (get_or (xs ++ x ∷ []) k d)
rise_push xs x id d rise low j k a h =
    let size = length_push xs x in
    let inside : j < length xs = omega (arith, size) in
    subst (λ y. id y < id (get_or (xs ++ x ∷ []) k d)) (sym (get_or_append_left xs (x ∷ []) d j inside)) (elim (cases_lt k (length xs)) [
      | inl i ↦ subst (λ y. id (get_or xs j d) < id y) (sym (get_or_append_left xs (x ∷ []) d k i)) (rise j k a i)
      | inr i ↦ (let last : k ≡ length xs = omega (arith, size) in
          subst (λ y. id (get_or xs j d) < id y) (sym (ap (λ n. get_or (xs ++ x ∷ []) n d) last ∙ get_or-append_seam xs x [] d)) (All-get_or (λ y. id y < id x) xs j d inside low))
    ])

module _ (f : Clauses) where
  pub OwnIds-none : HaveOwnIds f [] []
  OwnIds-none = record {
    lines_above = λ k d h. absurd (omega arith);
    handed_above = λ k d h. absurd (omega arith);
    lines_rise = λ j k a h. absurd (omega arith);
    handed_rise = λ j k a h. absurd (omega arith);
    differ = λ s h a b e. absurd (omega (arith, a.1));
  }

  module _ (lines : List Step) (hs : List Handed) (own : HaveOwnIds f lines hs) where
    pub OwnIds-learn : (s : Step) → IsNewId f lines hs s.id → HaveOwnIds f (lines ++ s ∷ []) hs
    OwnIds-learn s new = record {
      lines_above = All-push (λ x. length f.clauses < x.id) lines s own.lines_above new.formula;
      handed_above = own.handed_above;
      lines_rise = rise_push lines s (λ x. x.id) no_line own.lines_rise new.lines;
      handed_rise = own.handed_rise;
      differ = λ x h a b e. elim (Contains-push_cases lines s x a) [
        | inl i ↦ own.differ x h i b e
        | inr i ↦ (let low = All-contains (λ (y : Handed). y.id < s.id) hs h new.handed b in omega (arith, low, e, ap (λ (y : Step). y.id) i))
      ];
    }

    pub OwnIds-import : (h : Handed) → IsNewId f lines hs h.id → HaveOwnIds f lines (hs ++ h ∷ [])
    OwnIds-import h new = record {
      lines_above = own.lines_above;
      handed_above = All-push (λ x. length f.clauses < x.id) hs h own.handed_above new.formula;
      lines_rise = own.lines_rise;
      handed_rise = rise_push hs h (λ x. x.id) no_handed own.handed_rise new.handed;
      differ = λ x y a b e. elim (Contains-push_cases hs h y b) [
        | inl i ↦ own.differ x y a i e
        | inr i ↦ (let low = All-contains (λ (z : Step). z.id < h.id) lines x new.lines a in omega (arith, low, e, ap (λ (z : Handed). z.id) i))
      ];
    }

-- names at hand
Contains-map : {X Y : Type 0} (g : X → Y) (xs : List X) (x : X) → Contains xs x → Contains (map g xs) (g x)
Contains-map g xs x c = (c.0, omega (arith, c.1, length-map xs g), get_or-map g xs c.0 x (g x) c.1 ∙ ap g (value_at c))
  where
    value_at : (c : Contains xs x) → get_or xs c.0 x ≡ x
    value_at c = c.2

map-Contains : {X Y : Type 0} (g : X → Y) (xs : List X) (d : X) (y : Y) → Contains (map g xs) y → (x : X) × (Contains xs x × (g x ≡ y))
map-Contains g xs d y c =
    let h : c.0 < length xs = omega (arith, c.1, length-map xs g) in
    (get_or xs c.0 d, (Contains-get_or xs c.0 d h, sym (get_or-map g xs c.0 d y h) ∙ c.2))

pub at_hand : (f : List (List Literal)) (lines : List Step) (hs : List Handed) (id : ℕ) (c : List Literal) → NamesAtHand f lines hs id c → Contains (hand_of f lines hs) c
at_hand f lines hs id c n = elim n [
  | inl a ↦ elim a [
    | inl x ↦ Contains-append_left f _ c (in_formula x.0 x.1)
    | inr x ↦ Contains-append_right f _ c (Contains-append_left (map (λ s. s.clause) lines) _ c (subst (Contains (map (λ s. s.clause) lines)) x.1.2 (Contains-map (λ s. s.clause) lines x.0 x.1.0)))
  ]
  | inr x ↦ Contains-append_right f _ c (Contains-append_right (map (λ s. s.clause) lines) _ c (subst (Contains (map (λ h. h.clause) hs)) x.1.2 (Contains-map (λ h. h.clause) hs x.0 x.1.0)))
]
  where
    in_formula : 1 ≤ id → slice_get f (id - 1) ≡ Some c → Contains f c
    in_formula low e = (id - 1, slice_get_within f (id - 1) c e, get_or_from_slice_get f (id - 1) c c e)

module _ (f : List (List Literal)) (lines : List Step) (hs : List Handed) (clauses : List Numbered) (h : IsHand f lines hs clauses) where
  -- a line joins
  pub IsHand-learn : (s : Step) → IsHand f (lines ++ s ∷ []) hs (clauses ++ record { id = s.id; clause = s.clause } ∷ [])
  IsHand-learn s = record {
    named = λ id c n. elim (Contains-push_cases clauses (record { id = s.id; clause = s.clause }) (record { id = id; clause = c }) n) [
      | inl a ↦ elim (h.named id c a) [
        | inl x ↦ elim x [
          | inl y ↦ inl (inl y)
          | inr y ↦ inl (inr (y.0, (Contains-append_left lines (s ∷ []) y.0 y.1.0, y.1.1, y.1.2)))
        ]
        | inr x ↦ inr x
      ]
      | inr e ↦ inl (inr (s, (Contains-push lines s, ap (λ n. n.id) e, ap (λ n. n.clause) e)))
    ];
    all = λ c m. subst (λ cs. Contains cs c) (sym (map_push (λ n. n.clause) clauses (record { id = s.id; clause = s.clause }))) (elim (Contains-append_cases f _ c m) [
      | inl a ↦ old c (Contains-append_left f _ c a)
      | inr a ↦ elim (Contains-append_cases (map (λ s. s.clause) (lines ++ s ∷ [])) _ c a) [
        | inl b ↦ elim (Contains-push_cases (map (λ s. s.clause) lines) s.clause c (subst (λ cs. Contains cs c) (map_push (λ s. s.clause) lines s) b)) [
          | inl x ↦ old c (Contains-append_right f _ c (Contains-append_left (map (λ s. s.clause) lines) _ c x))
          | inr e ↦ subst (Contains (bare clauses ++ s.clause ∷ [])) e (Contains-push (bare clauses) s.clause)
        ]
        | inr b ↦ old c (Contains-append_right f _ c (Contains-append_right (map (λ s. s.clause) lines) _ c b))
      ]
    ]);
  }
    where
      old : (c : List Literal) → Contains (hand_of f lines hs) c → Contains (bare clauses ++ s.clause ∷ []) c
      old c m = Contains-append_left (bare clauses) (s.clause ∷ []) c (h.all c m)

  -- a clause is handed over
  pub IsHand-import : (n : Handed) → IsHand f lines (hs ++ n ∷ []) (clauses ++ record { id = n.id; clause = n.clause } ∷ [])
  IsHand-import n = record {
    named = λ id c m. elim (Contains-push_cases clauses (record { id = n.id; clause = n.clause }) (record { id = id; clause = c }) m) [
      | inl a ↦ elim (h.named id c a) [
        | inl x ↦ inl x
        | inr x ↦ inr (x.0, (Contains-append_left hs (n ∷ []) x.0 x.1.0, x.1.1, x.1.2))
      ]
      | inr e ↦ inr (n, (Contains-push hs n, ap (λ n. n.id) e, ap (λ n. n.clause) e))
    ];
    all = λ c m. subst (λ cs. Contains cs c) (sym (map_push (λ n. n.clause) clauses (record { id = n.id; clause = n.clause }))) (elim (Contains-append_cases f _ c m) [
      | inl a ↦ old c (Contains-append_left f _ c a)
      | inr a ↦ elim (Contains-append_cases (map (λ s. s.clause) lines) _ c a) [
        | inl b ↦ old c (Contains-append_right f _ c (Contains-append_left (map (λ s. s.clause) lines) _ c b))
        | inr b ↦ elim (Contains-push_cases (map (λ h. h.clause) hs) n.clause c (subst (λ cs. Contains cs c) (map_push (λ h. h.clause) hs n) b)) [
          | inl x ↦ old c (Contains-append_right f _ c (Contains-append_right (map (λ s. s.clause) lines) _ c x))
          | inr e ↦ subst (Contains (bare clauses ++ n.clause ∷ [])) e (Contains-push (bare clauses) n.clause)
        ]
      ]
    ]);
  }
    where
      old : (c : List Literal) → Contains (hand_of f lines hs) c → Contains (bare clauses ++ n.clause ∷ []) c
      old c m = Contains-append_left (bare clauses) (n.clause ∷ []) c (h.all c m)

-- the formula alone
pub bare_numbered : (n : ℕ) (cs : List (List Literal)) → bare (numbered_from n cs) ≡ cs
bare_numbered n [] = refl
bare_numbered n (c ∷ cs) = ap (λ x. c ∷ x) (bare_numbered (n + 1) cs)

pub length_numbered : (n : ℕ) (cs : List (List Literal)) → length (numbered_from n cs) ≡ length cs
length_numbered n [] = refl
length_numbered n (c ∷ cs) = ap suc (length_numbered (n + 1) cs)

pub IsHand-start : (cs : List (List Literal)) → IsHand cs [] [] (numbered_from 1 cs)
IsHand-start cs = record {
  named = λ id c m.
      let h : m.0 < length cs = omega (arith, m.1, length_numbered 1 cs) in
      let is : record { id = 1 + m.0; clause = get_or cs m.0 c } ≡ record { id = id; clause = c } = sym (numbered_at 1 cs m.0 (record { id = id; clause = c }) c h) ∙ m.2 in
      let at : id - 1 ≡ m.0 = omega (arith, ap (λ (n : Numbered). n.id) is) in
      inl (inl (omega (arith, ap (λ (n : Numbered). n.id) is), ap (slice_get cs) at ∙ slice_get-get_or cs m.0 c h ∙ ap Some (ap (λ (n : Numbered). n.clause) is)));
  all = λ c m. subst (λ x. Contains x c) (append-nil cs ∙ sym (bare_numbered 1 cs)) m;
}

-- the places of what was handed over
pub all_handed_old : (clauses : List Numbered) (n : Numbered) (places : List ℕ) → All (λ p. p < length clauses) places → all_handed (clauses ++ n ∷ []) places ≡ all_handed clauses places
all_handed_old clauses n [] a = refl
all_handed_old clauses n (p ∷ ps) a =
    let h = All-head (λ p. p < length clauses) p ps a in
    let e : get_or (clauses ++ n ∷ []) p (record { id = 0; clause = [] }) ≡ get_or clauses p (record { id = 0; clause = [] }) = get_or_append_left clauses (n ∷ []) _ p h in
    ap (λ (x : Numbered). record { id = x.id; clause = x.clause } ∷ all_handed (clauses ++ n ∷ []) ps) e ∙ ap (λ x. handed_at clauses p ∷ x) (all_handed_old clauses n ps (All-tail (λ p. p < length clauses) p ps a))

pub all_handed_new : (clauses : List Numbered) (n : Numbered) (places : List ℕ) (place : ℕ) → place ≡ length clauses → All (λ p. p < length clauses) places → all_handed (clauses ++ n ∷ []) (places ++ place ∷ []) ≡ all_handed clauses places ++ record { id = n.id; clause = n.clause } ∷ []
all_handed_new clauses n places place e a =
    let last : handed_at (clauses ++ n ∷ []) place ≡ record { id = n.id; clause = n.clause } = ap (handed_at (clauses ++ n ∷ [])) e ∙ ap (λ (x : Numbered). record { id = x.id; clause = x.clause }) (get_or-append_seam clauses n [] _) in
    map_push (handed_at (clauses ++ n ∷ [])) places place ∙ ap (λ x. x ++ handed_at (clauses ++ n ∷ []) place ∷ []) (all_handed_old clauses n places a) ∙ ap (λ x. all_handed clauses places ++ x ∷ []) last

-- ids of what was handed over
pub handed_ids : (clauses : List Numbered) (places : List ℕ) (last : ℕ) → All (λ n. n.id ≤ last) clauses → All (λ p. p < length clauses) places → All (λ h. h.id < last + 1) (all_handed clauses places)
handed_ids clauses [] last a b = λ k d h. absurd (omega arith)
handed_ids clauses (p ∷ ps) last a b =
    let h = All-head (λ p. p < length clauses) p ps b in
    let w = All-get_or (λ (n : Numbered). n.id ≤ last) clauses p (record { id = 0; clause = [] }) h a in
    All-cons (λ h. h.id < last + 1) (handed_at clauses p) (all_handed clauses ps) (omega (arith, w)) (handed_ids clauses ps last a (All-tail (λ p. p < length clauses) p ps b))
