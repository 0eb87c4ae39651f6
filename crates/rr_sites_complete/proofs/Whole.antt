-- The variables that a statement assigns as a whole outside its loops, each once, at its first target.
use Rattle.std.proofs.Common.{◌≡◌, inl, inr, ℕ, ◌+◌, ◌<◌, ◌≤◌, Bool, true, false, not, if◌then◌else◌, List, [], ◌∷◌, ◌++◌, length, map, filter, flat_map, Contains, refl, sym, subst, ap, ◌∙◌, arith, append_assoc}
use Rattle.std.specs.List.{AllByRecursion}
use Rattle.std.specs.Str.{bytes_eq}
use Rattle.std.proofs.lemmas.Bool.{both_ways, not-true, not_from_false, false_from_ne_true}
use Rattle.std.proofs.lemmas.Grind.{flat_map-append}
use Rattle.std.proofs.lemmas.Slice.Eq.{bytes_eq-Decides}
use Rattle.rr_syntax.specs.Expressions.{spell, spell_more, Numbered, NumberedMore}
use Rattle.rr_syntax.specs.Statements.{spell_label, spell_labels, spell_statement, spell_statements, spell_arm, spell_arms, NumberedStatement, NumberedStatements, NumberedArm, NumberedArms}
use Rattle.rr_syntax.specs.Tree.{Tree, Trees, Name, Literal, Bit, Part, Indexed, Unary, Binary, Cond, Concat, Repeat, Cast, Paren, End, More, Statement, Statements, Arm, Arms, Null, Block, If, IfElse, Case, Assign, For, Done, Then, CaseItem, NoArms, MoreArms}
use Rattle.rr_flat.specs.Reads.{Assigned, assigned_parts, assigned_by, assigned_by_all, assigned_by_arm, assigned_by_arms}
use Rattle.rr_flat.specs.Signals.{Text}
use Rattle.rr_flat.specs.Targets.{target_parts, targets_parts}
use Rattle.rr_flat_instance.proofs.Spans as span
use Rattle.rr_guard.specs.Names.{whole_name}
use Rattle.rr_overwrite.specs.Overwrites.{Target, target_if, whole_target, first_targets, targets_of}
use Rattle.rr_sites_complete.specs.GuardNames.{Rising}
use Rattle.rr_sites_complete.specs.Order.{Ordered}
use Rattle.rr_sites_complete.specs.Targets.{IsAssigned, IsFirstTarget}
use Rattle.rr_sites_complete.proofs.Assigned.{assigned_from, assigned_in}
use Rattle.rr_sites_complete.proofs.Lists.{head_in, tail_in, none_in, all_in, every_in, cases_in, flat_in, flat_from, filter_in, filter_from}
use Rattle.rr_sites_complete.proofs.Rises.{Spread, spread_wider, spread_none, spread_one, spread_join}

-- with the token at which it stands
record At : Type 0 where
  token : ℕ
  text : Text
  now : Bool

abbrev at_of : Tree → Bool → List At
at_of (Name token x) now = (record { token = token; text = x; now = now }) ∷ []
at_of (Literal token n) now = []
at_of (Bit token x i) now = []
at_of (Part token x l r) now = []
at_of (Indexed token x f n up) now = []
at_of (Unary op t) now = []
at_of (Binary op l r) now = []
at_of (Cond a b c) now = []
at_of (Concat ts) now = []
at_of (Repeat n ts) now = []
at_of (Cast signed t) now = []
at_of (Paren t) now = []

abbrev whole_at : Assigned → List At
whole_at a = at_of a.part a.now

abbrev key : At → ℕ
key t = t.token

abbrev forget : At → Target
forget t = record { text = t.text; now = t.now }

unfoldable ats : Statement → List At
ats s = flat_map whole_at (assigned_by s)

-- Their tokens rise

abbrev In : ℕ → ℕ → List At → Type 0
In low high xs = Spread key low high xs

unfoldable given : Bool → List Tree → List At
given now ts = flat_map whole_at (assigned_parts now ts)

given-append : (now : Bool) (xs ys : List Tree) → given now (xs ++ ys) ≡ given now xs ++ given now ys
unfolding given assigned_parts
given-append now [] ys = refl
given-append now (x ∷ xs) ys = ap (λ l. at_of x now ++ l) (given-append now xs ys) ∙ sym (append_assoc (at_of x now) (given now xs) (given now ys))

spell-one : (token : ℕ) (x : Text) → length (spell (Name token x)) ≡ 1
unfolding spell
spell-one token x = refl

mutual
  unfolding target_parts Numbered given assigned_parts

  parts_rise : (now : Bool) (t : Tree) (at : ℕ) → Numbered t at → In at (at + length (spell t)) (given now (target_parts t))
  parts_rise now (Name token x) at n = let e = spell-one token x in spread_one key at (at + length (spell (Name token x))) (record { token = token; text = x; now = now }) (omega (arith, n)) (omega (arith, n, e))
  parts_rise now (Literal token d) at n = spread_none key at (at + length (spell (Literal token d)))
  parts_rise now (Bit token x i) at n = spread_none key at (at + length (spell (Bit token x i)))
  parts_rise now (Part token x l r) at n = spread_none key at (at + length (spell (Part token x l r)))
  parts_rise now (Indexed token x f w up) at n = spread_none key at (at + length (spell (Indexed token x f w up)))
  parts_rise now (Unary op t) at n = spread_none key at (at + length (spell (Unary op t)))
  parts_rise now (Binary op l r) at n = spread_none key at (at + length (spell (Binary op l r)))
  parts_rise now (Cond a b c) at n = spread_none key at (at + length (spell (Cond a b c)))
  parts_rise now (Concat End) at n = spread_none key at (at + length (spell (Concat End)))
  parts_rise now (Concat (More t ts)) at n =
      let e = span.long-Concat (More t ts) in let g = span.long-parts t ts in let k = span.long-More t ts in
      spread_wider key at (at + length (spell_more (More t ts))) at (at + length (spell (Concat (More t ts)))) (given now (targets_parts (More t ts))) (omega arith) (omega (arith, e, g, k)) (braced_rise now (More t ts) at n)
  parts_rise now (Repeat m ts) at n = spread_none key at (at + length (spell (Repeat m ts)))
  parts_rise now (Cast signed t) at n = spread_none key at (at + length (spell (Cast signed t)))
  parts_rise now (Paren t) at n = spread_none key at (at + length (spell (Paren t)))

  -- `at` is the number of the mark before the first
  braced_rise : (now : Bool) (ts : Trees) (at : ℕ) → NumberedMore ts at → In at (at + length (spell_more ts)) (given now (targets_parts ts))
  braced_rise now End at n = spread_none key at (at + length (spell_more End))
  braced_rise now (More t ts) at n =
      let e = span.long-More t ts in
      let mid = at + 1 + length (spell t) in
      let high = at + length (spell_more (More t ts)) in
      subst (In at high) (sym (given-append now (target_parts t) (targets_parts ts)))
      (spread_join key at mid high (given now (target_parts t)) (given now (targets_parts ts)) (omega arith) (omega (arith, e))
      (spread_wider key (at + 1) mid at mid (given now (target_parts t)) (omega arith) (omega arith) (parts_rise now t (at + 1) n.0))
      (spread_wider key mid (mid + length (spell_more ts)) mid high (given now (targets_parts ts)) (omega arith) (omega (arith, e)) (braced_rise now ts mid n.1)))

assignment_rises : (t : Tree) (now : Bool) (at : ℕ) → Numbered t at → In at (at + length (spell t)) (flat_map whole_at (assigned_parts now (target_parts t)))
unfolding given
assignment_rises t now at n = parts_rise now t at n

abbrev all_at : List Assigned → List At
all_at xs = flat_map whole_at xs

both_in : (low mid high : ℕ) (xs ys : List Assigned) → low ≤ mid → mid ≤ high → In low mid (all_at xs) → In mid high (all_at ys) → In low high (all_at (xs ++ ys))
both_in low mid high xs ys p q a b = subst (In low high) (sym (flat_map-append whole_at xs ys)) (spread_join key low mid high (all_at xs) (all_at ys) p q a b)

fit : (low high a b : ℕ) (xs : List Assigned) → a ≤ low → high ≤ b → In low high (all_at xs) → In a b (all_at xs)
fit low high a b xs p q h = spread_wider key low high a b (all_at xs) p q h

mutual
  unfolding assigned_by NumberedStatement

  statement_rises : (t : Statement) (at : ℕ) → NumberedStatement t at → In at (at + length (spell_statement t)) (all_at (assigned_by t))
  statement_rises Null at n = spread_none key at (at + length (spell_statement Null))
  statement_rises (Block label ts) at n =
      let e = span.long-Block label ts in
      let mid = at + 1 + length (spell_label label) in
      fit mid (mid + length (spell_statements ts)) at (at + length (spell_statement (Block label ts))) (assigned_by_all ts) (omega arith) (omega (arith, e)) (statements_rise ts mid n.1)
  statement_rises (If c t) at n =
      let e = span.long-If c t in
      let mid = at + 2 + length (spell c) + 1 in
      fit mid (mid + length (spell_statement t)) at (at + length (spell_statement (If c t))) (assigned_by t) (omega arith) (omega (arith, e)) (statement_rises t mid n.1)
  statement_rises (IfElse c t u) at n =
      let e = span.long-IfElse c t u in
      let mid = at + 2 + length (spell c) + 1 in
      let past = mid + length (spell_statement t) in
      let high = at + length (spell_statement (IfElse c t u)) in
      both_in at past high (assigned_by t) (assigned_by u) (omega arith) (omega (arith, e)) (fit mid past at past (assigned_by t) (omega arith) (omega arith) (statement_rises t mid n.1))
      (fit (past + 1) (past + 1 + length (spell_statement u)) past high (assigned_by u) (omega arith) (omega (arith, e)) (statement_rises u (past + 1) n.2))
  statement_rises (Case kind on arms) at n =
      let e = span.long-Case kind on arms in
      let mid = at + 2 + length (spell on) + 1 in
      fit mid (mid + length (spell_arms arms)) at (at + length (spell_statement (Case kind on arms))) (assigned_by_arms arms) (omega arith) (omega (arith, e)) (arms_rise arms mid n.1)
  statement_rises (Assign t now v) at n =
      let e = span.long-Assign t now v in
      fit at (at + length (spell t)) at (at + length (spell_statement (Assign t now v))) (assigned_parts now (target_parts t)) (omega arith) (omega (arith, e)) (assignment_rises t now at n.0)
  statement_rises (For head t) at n = spread_none key at (at + length (spell_statement (For head t)))

  statements_rise : (ts : Statements) (at : ℕ) → NumberedStatements ts at → In at (at + length (spell_statements ts)) (all_at (assigned_by_all ts))
  statements_rise Done at n = spread_none key at (at + length (spell_statements Done))
  statements_rise (Then t ts) at n =
      let e = span.long-Then t ts in
      let mid = at + length (spell_statement t) in
      both_in at mid (at + length (spell_statements (Then t ts))) (assigned_by t) (assigned_by_all ts) (omega arith) (omega (arith, e)) (statement_rises t at n.0)
      (fit mid (mid + length (spell_statements ts)) mid (at + length (spell_statements (Then t ts))) (assigned_by_all ts) (omega arith) (omega (arith, e)) (statements_rise ts mid n.1))

  arm_rises : (a : Arm) (at : ℕ) → NumberedArm a at → In at (at + length (spell_arm a)) (all_at (assigned_by_arm a))
  arm_rises (CaseItem labels colon t) at n =
      let e = span.long-CaseItem labels colon t in
      let mid = at + length (spell_labels labels colon) in
      fit mid (mid + length (spell_statement t)) at (at + length (spell_arm (CaseItem labels colon t))) (assigned_by t) (omega arith) (omega (arith, e)) (statement_rises t mid n.1)

  arms_rise : (arms : Arms) (at : ℕ) → NumberedArms arms at → In at (at + length (spell_arms arms)) (all_at (assigned_by_arms arms))
  arms_rise NoArms at n = spread_none key at (at + length (spell_arms NoArms))
  arms_rise (MoreArms a rest) at n =
      let e = span.long-MoreArms a rest in
      let mid = at + length (spell_arm a) in
      both_in at mid (at + length (spell_arms (MoreArms a rest))) (assigned_by_arm a) (assigned_by_arms rest) (omega arith) (omega (arith, e)) (arm_rises a at n.0)
      (fit mid (mid + length (spell_arms rest)) mid (at + length (spell_arms (MoreArms a rest))) (assigned_by_arms rest) (omega arith) (omega (arith, e)) (arms_rise rest mid n.1))

-- Each variable once

abbrev IsLeast : List At → At → Type 0
IsLeast ts t = (u : At) → Contains ts u → u.text ≡ t.text → t.token ≤ u.token

record IsFirst (ts : List At) (t : At) : Type 0 where
  there : Contains ts t
  least : IsLeast ts t

abbrev differs : Target → Target → Bool
differs x y = not (bytes_eq y.text x.text)

other_text : (x : At) (r : Target) → differs (forget x) r ≡ true → r.text ≡ x.text → ⊥
other_text x r e s = both_ways (bytes_eq r.text x.text) (not-true (bytes_eq r.text x.text) e) ((bytes_eq-Decides r.text x.text).1 s)

text_other : (x : At) (r : Target) → (r.text ≡ x.text → ⊥) → differs (forget x) r ≡ true
text_other x r n = not_from_false (bytes_eq r.text x.text) (false_from_ne_true (bytes_eq r.text x.text) (λ e. n ((bytes_eq-Decides r.text x.text).0 e)))

head_first : (x : At) (xs : List At) → Rising key (x ∷ xs) → IsFirst (x ∷ xs) x
unfolding Rising
head_first x xs r = record {
  there = head_in x xs;
  least = λ u c e. elim (cases_in x xs u c) [
    | inl q ↦ subst (λ (w : At). x.token ≤ w.token) q (omega arith)
    | inr d ↦ let l = all_in (λ (y : At). x.token < y.token) xs u r.0 d in omega (arith, l)
  ];
}

tail_first : (x t : At) (xs : List At) → (t.text ≡ x.text → ⊥) → IsFirst xs t → IsFirst (x ∷ xs) t
tail_first x t xs n f = record {
  there = tail_in x xs t f.there;
  least = λ u c e. elim (cases_in x xs u c) [
    | inl q ↦ absurd (n (sym (subst (λ (w : At). w.text ≡ t.text) (sym q) e)))
    | inr d ↦ f.least u d e
  ];
}

-- another one than the head
not_head : (x t : At) (xs : List At) → (t.text ≡ x.text → ⊥) → IsFirst (x ∷ xs) t → IsFirst xs t
not_head x t xs n f = record {
  there = elim (cases_in x xs t f.there) [
    | inl q ↦ absurd (n (sym (ap (λ (w : At). w.text) q)))
    | inr d ↦ d
  ];
  least = λ u c e. f.least u (tail_in x xs u c) e;
}

firsts_from : (ts : List At) (r : Target) → Rising key ts → Contains (first_targets (map forget ts)) r → (t : At) × IsFirst ts t × (forget t ≡ r)
unfolding first_targets Rising
firsts_from [] r h c = absurd (none_in r c)
firsts_from (x ∷ xs) r h c = elim (cases_in (forget x) (filter (differs (forget x)) (first_targets (map forget xs))) r c) [
  | inl e ↦ (x, head_first x xs h, e)
  | inr d ↦
      let f = filter_from (differs (forget x)) (first_targets (map forget xs)) r d in
      let k = firsts_from xs r h.1 f.0 in
      (k.0, tail_first x k.0 xs (λ s. other_text x r f.1 (subst (λ (w : Target). w.text ≡ x.text) k.2 s)) k.1, k.2)
]

firsts_in : (ts : List At) (t : At) → Rising key ts → IsFirst ts t → Contains (first_targets (map forget ts)) (forget t)
unfolding first_targets Rising
firsts_in [] t h f = absurd (none_in t f.there)
firsts_in (x ∷ xs) t h f = elim (cases_in x xs t f.there) [
  | inl e ↦ subst (λ (w : At). Contains (forget x ∷ filter (differs (forget x)) (first_targets (map forget xs))) (forget w)) e (head_in (forget x) (filter (differs (forget x)) (first_targets (map forget xs))))
  | inr d ↦
      let l = all_in (λ (y : At). x.token < y.token) xs t h.0 d in
      let n : t.text ≡ x.text → ⊥ = λ e. let b = f.least x (head_in x xs) (sym e) in omega (arith, b, l) in
      tail_in (forget x) (filter (differs (forget x)) (first_targets (map forget xs))) (forget t) (filter_in (differs (forget x)) (first_targets (map forget xs)) (forget t) (firsts_in xs t h.1 (not_head x t xs n f)) (text_other x (forget t) n))
]

-- in the order of their tokens
abbrev Follows : List At → Target → Target → Type 0
Follows ts r s = (t u : At) → IsFirst ts t → IsFirst ts u → forget t ≡ r → forget u ≡ s → t.token < u.token

pub ordered_filter : {X : Type 0} (R : X → X → Type 0) (t : X → Bool) (xs : List X) → Ordered R xs → Ordered R (filter t xs)
unfolding Ordered
ordered_filter R t [] h = tt
ordered_filter R t (x ∷ xs) h = by (t x) (ordered_filter R t xs h.1) (every_in (R x) (filter t xs) (λ y c. all_in (R x) xs y h.0 (filter_from t xs y c).0))
  where
    by : (b : Bool) → Ordered R (filter t xs) → AllByRecursion (R x) (filter t xs) → Ordered R (if b then x ∷ filter t xs else filter t xs)
    by true r l = (l, r)
    by false r l = r

-- of elements that are there
pub ordered_weaken : {X : Type 0} (R S : X → X → Type 0) (xs : List X) → ((x y : X) → Contains xs x → Contains xs y → R x y → S x y) → Ordered R xs → Ordered S xs
unfolding Ordered
ordered_weaken R S [] k h = tt
ordered_weaken R S (x ∷ xs) k h = (
  every_in (S x) xs (λ y c. k x y (head_in x xs) (tail_in x xs y c) (all_in (R x) xs y h.0 c)),
  ordered_weaken R S xs (λ y z c d. k y z (tail_in x xs y c) (tail_in x xs z d)) h.1,
)

head_follows : (x : At) (xs : List At) → Rising key (x ∷ xs) → (s : Target) → differs (forget x) s ≡ true → Follows (x ∷ xs) (forget x) s
unfolding Rising
head_follows x xs h s d t u f g e q =
    let a : t.token ≤ x.token = f.least x (head_in x xs) (sym (ap (λ (w : Target). w.text) e)) in
    let b = not_head x u xs (λ k. other_text x s d (subst (λ (w : Target). w.text ≡ x.text) q k)) g in
    let l = all_in (λ (y : At). x.token < y.token) xs u h.0 b.there in
    omega (arith, a, l)

tail_follows : (x : At) (xs : List At) (r s : Target) → differs (forget x) r ≡ true → differs (forget x) s ≡ true → Follows xs r s → Follows (x ∷ xs) r s
tail_follows x xs r s d b k t u f g e q =
    k t u (not_head x t xs (λ z. other_text x r d (subst (λ (w : Target). w.text ≡ x.text) e z)) f) (not_head x u xs (λ z. other_text x s b (subst (λ (w : Target). w.text ≡ x.text) q z)) g) e q

firsts_follow : (ts : List At) → Rising key ts → Ordered (Follows ts) (first_targets (map forget ts))
unfolding first_targets Rising Ordered
firsts_follow [] h = tt
firsts_follow (x ∷ xs) h =
    let rest = filter (differs (forget x)) (first_targets (map forget xs)) in
    let passes = λ (r : Target) (c : Contains rest r). (filter_from (differs (forget x)) (first_targets (map forget xs)) r c).1 in (
      every_in (Follows (x ∷ xs) (forget x)) rest (λ s c. head_follows x xs h s (passes s c)),
      ordered_weaken (Follows xs) (Follows (x ∷ xs)) rest (λ r s c d k. tail_follows x xs r s (passes r c) (passes s d) k) (ordered_filter (Follows xs) (differs (forget x)) (first_targets (map forget xs)) (firsts_follow xs h.1)),
    )

-- of a statement

forgotten : (xs : List Assigned) → flat_map whole_target xs ≡ map forget (flat_map whole_at xs)
forgotten [] = refl
forgotten (a ∷ rest) = by a.part a.now (forgotten rest)
  where
    by : (t : Tree) (now : Bool) → flat_map whole_target rest ≡ map forget (flat_map whole_at rest) → target_if (whole_name t) now ++ flat_map whole_target rest ≡ map forget (at_of t now ++ flat_map whole_at rest)
    by (Name token x) now e = ap (λ l. (record { text = x; now = now }) ∷ l) e
    by (Literal token n) now e = e
    by (Bit token x i) now e = e
    by (Part token x l r) now e = e
    by (Indexed token x f n up) now e = e
    by (Unary op t) now e = e
    by (Binary op l r) now e = e
    by (Cond a b c) now e = e
    by (Concat ts) now e = e
    by (Repeat n ts) now e = e
    by (Cast signed t) now e = e
    by (Paren t) now e = e

ats_from : (body : Statement) (t : At) → Contains (ats body) t → IsAssigned body (Name t.token t.text) t.now
unfolding ats
ats_from body t c = let r = flat_from whole_at (assigned_by body) t c in by r.0.part r.0.now (assigned_from body r.0 r.1).0 r.2
  where
    by : (p : Tree) (now : Bool) → IsAssigned body p now → Contains (at_of p now) t → IsAssigned body (Name t.token t.text) t.now
    by (Name token x) now h c = elim (cases_in (record { token = token; text = x; now = now }) [] t c) [
      | inl e ↦ subst (λ (w : At). IsAssigned body (Name w.token w.text) w.now) e h
      | inr d ↦ absurd (none_in t d)
    ]
    by (Literal token n) now h c = absurd (none_in t c)
    by (Bit token x i) now h c = absurd (none_in t c)
    by (Part token x l r) now h c = absurd (none_in t c)
    by (Indexed token x f n up) now h c = absurd (none_in t c)
    by (Unary op u) now h c = absurd (none_in t c)
    by (Binary op l r) now h c = absurd (none_in t c)
    by (Cond a b d) now h c = absurd (none_in t c)
    by (Concat ts) now h c = absurd (none_in t c)
    by (Repeat n ts) now h c = absurd (none_in t c)
    by (Cast signed u) now h c = absurd (none_in t c)
    by (Paren u) now h c = absurd (none_in t c)

ats_in : (body : Statement) (token : ℕ) (name : Text) (now : Bool) → IsAssigned body (Name token name) now → Contains (ats body) (record { token = token; text = name; now = now })
unfolding ats
ats_in body token name now h =
    flat_in whole_at (assigned_by body) (record { part = Name token name; now = now }) (record { token = token; text = name; now = now }) (assigned_in body (Name token name) now h tt)
    (head_in (record { token = token; text = name; now = now }) [])

is_first : (body : Statement) (t : At) → IsFirst (ats body) t → IsFirstTarget body t.text t.token t.now
is_first body t f = record { assigned = ats_from body t f.there; first = λ other kind h. f.least (record { token = other; text = t.text; now = kind }) (ats_in body other t.text kind h) refl }

first_is : (body : Statement) (name : Text) (token : ℕ) (now : Bool) → IsFirstTarget body name token now → IsFirst (ats body) (record { token = token; text = name; now = now })
first_is body name token now h = record {
  there = ats_in body token name now h.assigned;
  least = λ u c e. h.first u.token u.now (subst (λ w. IsAssigned body (Name u.token w) u.now) e (ats_from body u c));
}

module _ (body : Statement) (at : ℕ) (n : NumberedStatement body at) where
  ats_rise : Rising key (ats body)
  unfolding ats
  ats_rise = (statement_rises body at n).rising

  targets_are : targets_of body ≡ first_targets (map forget (ats body))
  unfolding targets_of ats
  targets_are = ap first_targets (forgotten (assigned_by body))

  pub targets_from : (r : Target) → Contains (targets_of body) r → (token : ℕ) × IsFirstTarget body r.text token r.now
  targets_from r c =
      let k = firsts_from (ats body) r ats_rise (subst (λ l. Contains l r) targets_are c) in
      (k.0.token, subst (λ (w : Target). IsFirstTarget body w.text k.0.token w.now) k.2 (is_first body k.0 k.1))

  pub targets_in : (name : Text) (token : ℕ) (now : Bool) → IsFirstTarget body name token now → Contains (targets_of body) (record { text = name; now = now })
  targets_in name token now h = subst (λ l. Contains l (record { text = name; now = now })) (sym targets_are) (firsts_in (ats body) (record { token = token; text = name; now = now }) ats_rise (first_is body name token now h))

  -- the first target of one comes before that of another
  abbrev pub AreApart : Target → Target → Type 0
  AreApart r s = (i j : ℕ) → IsFirstTarget body r.text i r.now → IsFirstTarget body s.text j s.now → i < j

  pub targets_follow : Ordered AreApart (targets_of body)
  targets_follow =
      subst (Ordered AreApart) (sym targets_are)
      (ordered_weaken (Follows (ats body)) AreApart (first_targets (map forget (ats body)))
      (λ r s c d k i j f g. k (record { token = i; text = r.text; now = r.now }) (record { token = j; text = s.text; now = s.now }) (first_is body r.text i r.now f) (first_is body s.text j s.now g) refl refl) (firsts_follow (ats body) ats_rise))
