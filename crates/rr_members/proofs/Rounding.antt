-- what a round is for all members
use Rattle.std.proofs.Common.{◌≡◌, inl, inr, ℕ, suc, zero, ◌+◌, ◌-◌, ◌^◌, ◌<◌, ◌≤◌, Bool, List, [], ◌∷◌, length, get_or, map, replicate, refl, sym, ◌∙◌, ap, subst, arith}
use Rattle.std.specs.Prelude.{All, Some, None, IsSome, slice_index_or}
use Rattle.std.proofs.Math.Seq.{get_or-append_seam}
use Rattle.std.proofs.lemmas.Bool.{cases_lt, false≢true}
use Rattle.std.proofs.lemmas.List.{get_or-map, get_or_append_left, length-map, length_push, length-replicate, get_or-replicate}
use Rattle.std.proofs.lemmas.List.Elements.{All-map, All-push}
use Rattle.rr_cnf.specs.Clauses.{Clauses, IsWithin}
use Rattle.rr_derive.specs.Derive.{Step}
use Rattle.rr_derive.specs.Lrat.{AreHinted, AreWritable}
use Rattle.rr_solver.specs.Searches.{IsModel, Search, line}
use Rattle.rr_solver.specs.declared.engine.Status.TheVariants.{Running, Model, Refuted, Failed}
use Rattle.rr_rounds.specs.declared.place.Place.{Place}
use Rattle.rr_rounds.specs.States.{Ending, emptied, solved, Learned, Member, State, line_of, member, nothing, steps}
use Rattle.rr_rounds.specs.Joined.{in_order, joined, joined_step, joined_with, last_step}
use Rattle.rr_rounds.specs.Rounds.{HandsOver, HasMade, IsRound, Reached, begun, by_hand, moved_all, start}
use Rattle.rr_member.specs.Seats.{Seated, ending_by, member_of, new_seat}
use Rattle.rr_member.specs.Sharing.{AllTook, MayTake, all_shorts, nobody, seat, state_of}
use Rattle.rr_members.specs.Groups.{Asked, EachRan, Group, IsFirst, IsFirstEnded, IsGroup, NoneEnded, formula_of, group_of, inputs_of}
use Rattle.rr_rounds.proofs.Joining.{joined_hinted, joined_with_hinted}
use Rattle.rr_rounds.proofs.Lawful.{no_step}
use Rattle.rr_rounds.proofs.Ordered.{lists_all}
use Rattle.rr_rounds.proofs.Reaching.{lawful}
use Rattle.rr_rounds.proofs.Standing.{standing}
use Rattle.rr_members.proofs.Playing.{Reached-moves, played, played_are, played_made, played_moved}
use Rattle.rr_member.proofs.Handing.{hands_over, may_take, seat_at}

module _ (steps round count : ℕ) (old mid : List Seated) (w : IsGroup old round count) (ran : EachRan steps round old mid) where
  f : Clauses
  f = formula_of old

  i : ℕ
  i = inputs_of old

  asked : (k : ℕ) → k < length old → ((seat old k).search.formula ≡ f) × ((seat old k).search.inputs ≡ i)
  unfolding f i
  asked k h = let a = w.asked k h in (a.question, a.decided)

  asked_mid : (k : ℕ) → k < length mid → (seat mid k).search.formula ≡ f
  asked_mid k h = let l : k < length old = omega (arith, h, ran.count) in (ran.each k l).is.same.formula ∙ (asked k l).0

  reached_played : Reached f i (length old) (moved_all (state_of round old) (played f i steps round old mid asked ran))
  unfolding f i
  reached_played = Reached-moves f i (length old) (state_of round old) (played f i steps round old mid asked ran) w.reached (played_are f i steps round old mid asked ran)

  pub reached_mid : Reached (formula_of old) (inputs_of old) (length old) (state_of round mid)
  unfolding f i
  reached_mid = subst (Reached f i (length old)) (played_moved f i steps round old mid asked ran) reached_played

  -- what is handed over has the formula's variables
  pub within_mid : MayTake (all_shorts round mid) mid
  unfolding f
  within_mid = may_take round mid f (inputs_of old) (length old) asked_mid reached_mid

  module _ (new : List Seated) (took : AllTook (all_shorts round mid) mid new) where
    handed : HandsOver f (state_of round mid) (state_of (round + 1) new)
    handed = hands_over round mid f new asked_mid took

    handed_played : HandsOver f (moved_all (state_of round old) (played f i steps round old mid asked ran)) (state_of (round + 1) new)
    handed_played = subst (λ s. HandsOver f s (state_of (round + 1) new)) (sym (played_moved f i steps round old mid asked ran)) handed

    pub is_round : IsRound (formula_of old) (inputs_of old) steps (state_of round old) (state_of (round + 1) new)
    unfolding f i
    is_round = record {
      moves = played f i steps round old mid asked ran;
      are = played_are f i steps round old mid asked ran;
      made = λ m h. subst (λ s. HasMade steps (played f i steps round old mid asked ran) s m) (sym (played_moved f i steps round old mid asked ran)) (played_made f i steps round old mid asked ran m (omega (arith, h, length-map old member_of)));
      handed = handed_played;
    }

    long : length new ≡ length old
    long = took.count ∙ ran.count

    asked_new : (k : ℕ) → k < length new → Asked f i (seat new k)
    unfolding f i
    asked_new k h =
        let m : k < length mid = omega (arith, h, took.count) in
        let l : k < length old = omega (arith, h, long) in
        let t = took.each k m in
        let r = (ran.each k l).is in
        record {
          question = ap (λ (s : Search). s.formula) t.search ∙ asked_mid k m;
          decided = ap (λ (s : Search). s.inputs) t.search ∙ r.same.inputs ∙ (asked k l).1;
          sound = λ q. r.sound (sym (ap (λ (s : Search). s.status) t.search) ∙ q);
        }

    first : 0 < length new
    first = let a = w.some in omega (arith, a, long)

    pub same_formula : formula_of new ≡ formula_of old
    unfolding f
    same_formula = (asked_new 0 first).question

    pub same_inputs : inputs_of new ≡ inputs_of old
    unfolding i
    same_inputs = (asked_new 0 first).decided

    pub is_group : round + 1 < 2 ^ 63 → IsGroup new (round + 1) count
    unfolding f i
    is_group h = record {
      some = first;
      bounded = h;
      few = let a = w.few in omega (arith, a, long);
      counted = w.counted ∙ ap (λ (g : Clauses). length g.clauses) (sym same_formula);
      asked = λ k l. subst (λ g. Asked g (inputs_of new) (seat new k)) (sym same_formula) (subst (λ n. Asked f n (seat new k)) (sym same_inputs) (asked_new k l));
      reached = subst (λ g. Reached g (inputs_of new) (length new) (state_of (round + 1) new)) (sym same_formula)
          (subst (λ n. Reached f n (length new) (state_of (round + 1) new)) (sym same_inputs)
          (subst (λ n. Reached f i n (state_of (round + 1) new)) (sym long) (by_hand reached_played handed_played)));
    }

-- members that have done nothing
replicate-map : (n : ℕ) (x : Seated) → map member_of (replicate n x) ≡ replicate n (member_of x)
replicate-map zero x = refl
replicate-map (suc n) x = ap (λ ms. member_of x ∷ ms) (replicate-map n x)

module _ (g : Clauses) (inputs n : ℕ) (some : 1 ≤ n) where
  at_new : (k : ℕ) → k < n → seat (replicate n (new_seat g inputs)) k ≡ new_seat g inputs
  at_new k h = get_or-replicate n k (new_seat g inputs) nobody h

  pub start_state : state_of 0 (replicate n (new_seat g inputs)) ≡ start n
  start_state = ap (λ ms. record { round = 0; members = ms }) (replicate-map n (new_seat g inputs))

  pub new_formula : formula_of (replicate n (new_seat g inputs)) ≡ g
  new_formula = ap (λ s. s.search.formula) (at_new 0 (omega arith))

  pub new_inputs : inputs_of (replicate n (new_seat g inputs)) ≡ inputs
  new_inputs = ap (λ s. s.search.inputs) (at_new 0 (omega arith))

  pub new_group : n ≤ 8 → (count : ℕ) → count ≡ length g.clauses → IsGroup (replicate n (new_seat g inputs)) 0 count
  new_group few count c =
      let seats = replicate n (new_seat g inputs) in
      let size = length-replicate n (new_seat g inputs) in
      record {
        some = omega (arith, size);
        bounded = omega arith;
        few = omega (arith, size);
        counted = c ∙ ap (λ (x : Clauses). length x.clauses) (sym new_formula);
        asked = λ k h.
            let e = at_new k (omega (arith, h, size)) in
            record {
              question = ap (λ s. s.search.formula) e ∙ sym new_formula;
              decided = ap (λ s. s.search.inputs) e ∙ sym new_inputs;
              sound = λ q. let z : Running ≡ Failed = sym (ap (λ s. s.search.status) e) ∙ q in cc;
            };
        reached = subst (λ x. Reached x (inputs_of seats) (length seats) (state_of 0 seats)) (sym new_formula)
            (subst (λ x. Reached g x (length seats) (state_of 0 seats)) (sym new_inputs)
            (subst (λ x. Reached g inputs x (state_of 0 seats)) (sym size)
            (subst (Reached g inputs n) (sym start_state) begun)));
      }

-- the lines of the joined journal
module _ (g : Clauses) (inputs count : ℕ) (s : State) (r : Reached g inputs count s) where
  line_within : (p : ℕ) (d : Place) → p < length (in_order s) → All (IsWithin g.vars) (line_of s (slice_index_or (in_order s) p d)).step.clause
  line_within p d h =
      let a = standing s p h in
      let m = member s a.place.member in
      let k = a.place.line in
      let all = (lawful g inputs count s r a.place.member).log.within in
      let inside : k < length (steps m) = let b = a.at.inside in omega (arith, b, length-map m.lines (λ (y : Learned). y.step)) in
      let one = all k no_step inside in
      subst (λ p. All (IsWithin g.vars) (line_of s p).step.clause) (sym (a.is d)) (subst (λ (x : Step). All (IsWithin g.vars) x.clause) (get_or-map (λ (y : Learned). y.step) m.lines k nothing no_step a.at.inside) one)

  ids : (k : ℕ) (d : Step) → k < length (joined g s) → (get_or (joined g s) k d).id ≡ length g.clauses + 1 + k
  ids k d h = (lists_all g inputs count s r).2 k d (omega (arith, h, length-map (in_order s) (joined_step g s)))

  -- lines whose ids go on behind the formula
  by_ids : (lines : List Step) → ((k : ℕ) (d : Step) → k < length lines → (get_or lines k d).id ≡ length g.clauses + 1 + k) → length g.clauses + length lines < 2 ^ 62 → All (λ x. All (IsWithin g.vars) x.clause) lines → AreHinted g.clauses lines → AreWritable g lines
  by_ids lines id small within hinted = record {
    rising = λ j k d e a h. let x = id j d (omega arith) in let y = id k e h in omega (arith, x, y);
    above = λ k d h. let x = id k d h in omega (arith, x);
    numbers = λ k d h. let x = id k d h in omega (arith, x, small);
    within = within;
    hinted = hinted;
  }

  all_within : All (λ (x : Step). All (IsWithin g.vars) x.clause) (joined g s)
  all_within = All-map (λ (x : Step). All (IsWithin g.vars) x.clause) (joined_step g s) (in_order s) line_within

  module _ (small : length g.clauses + 1 + length (in_order s) < 2 ^ 62) where
    pub joined_lines : AreWritable g (joined g s)
    joined_lines = by_ids (joined g s) ids (omega (arith, small, length-map (in_order s) (joined_step g s))) all_within (joined_hinted g inputs count s r)

    module _ (m : ℕ) (e : Step) (is : (member s m).ending ≡ Some (emptied e)) where
      ids_with : (k : ℕ) (d : Step) → k < length (joined_with g s m e) → (get_or (joined_with g s m e) k d).id ≡ length g.clauses + 1 + k
      ids_with k d h =
          let size = length-map (in_order s) (joined_step g s) in
          elim (cases_lt k (length (joined g s))) [
            | inl i ↦ ap (λ (x : Step). x.id) (get_or_append_left (joined g s) (last_step g s m e ∷ []) d k i) ∙ ids k d i
            | inr i ↦
                (let last : k ≡ length (joined g s) = omega (arith, length_push (joined g s) (last_step g s m e)) in
                ap (λ n. (get_or (joined_with g s m e) n d).id) last
                ∙ ap (λ (x : Step). x.id) (get_or-append_seam (joined g s) (last_step g s m e) [] d)
                ∙ ap (λ n. length g.clauses + 1 + n) (sym (last ∙ size)))
          ]

      pub all_lines : AreWritable g (joined_with g s m e)
      all_lines =
          let empty = ((lawful g inputs count s r m).ending e is).1.1 in
          by_ids (joined_with g s m e) ids_with (omega (arith, small, length_push (joined g s) (last_step g s m e), length-map (in_order s) (joined_step g s)))
          (All-push (λ (x : Step). All (IsWithin g.vars) x.clause) (joined g s) (last_step g s m e) all_within (λ k d h. absurd (omega (arith, h, ap length empty))))
          (joined_with_hinted g inputs count s r m e is)

-- the first that has ended
module _ (v : Group) (round : ℕ) (seats : List Seated) (failed : Bool) (is : group_of round seats failed ≡ v) where
  pub none_ended : ((k : ℕ) → k < length seats → (member_of (seat seats k)).ending ≡ None) → NoneEnded v.state
  none_ended none = subst (λ x. NoneEnded x.state) is (λ m h.
      let l : m < length seats = omega (arith, h, length-map seats member_of) in
      ap (λ (x : Member). x.ending) (seat_at seats m l) ∙ none m l)

  pub some_ended : (k : ℕ) → IsFirstEnded seats k → NoneEnded v.state → ⊥
  some_ended k first none =
      let old = subst (λ x. NoneEnded x.state) (sym is) none in
      let e : (member_of (seat seats k)).ending ≡ None = ap (λ (x : Member). x.ending) (sym (seat_at seats k first.low)) ∙ old k (omega (arith, first.low, length-map seats member_of)) in
      false≢true (subst IsSome e first.ended)

  pub is_first : (k : ℕ) (e : Ending) → IsFirstEnded seats k → (member_of (seat seats k)).ending ≡ Some e → IsFirst v.state k e
  is_first k e first ended = subst (λ x. IsFirst x.state k e) is (record {
    low = let a = first.low in omega (arith, a, length-map seats member_of);
    ended = ap (λ (x : Member). x.ending) (seat_at seats k first.low) ∙ ended;
    first = λ j h. ap (λ (x : Member). x.ending) (seat_at seats j (let a = first.low in omega arith)) ∙ first.first j h;
  })

  pub first_as : (k : ℕ) (e : Ending) → IsFirstEnded seats k → (member v.state k).ending ≡ Some e → IsFirst v.state k e
  first_as k e first ended = is_first k e first
      (ap (λ (x : Member). x.ending) (sym (seat_at seats k first.low)) ∙ ap (λ x. (member x.state k).ending) is ∙ ended)

  pub model_of : (count k : ℕ) (bits : List Bool) → IsGroup seats round count → k < length seats → IsModel (seat seats k).search.formula bits → IsModel v.formula bits
  model_of count k bits w h m = subst (λ g. IsModel g bits) ((w.asked k h).question ∙ ap (λ x. x.formula) is) m

pub solved_ending : (s : Search) (bits : List Bool) → s.status ≡ Model → bits ≡ s.bits → ending_by s.status s.bits s.lines ≡ Some (solved bits)
solved_ending s bits e b = ap (λ x. ending_by x s.bits s.lines) e ∙ ap (λ x. Some (solved x)) (sym b)

pub emptied_ending : (s : Search) → s.status ≡ Refuted → ending_by s.status s.bits s.lines ≡ Some (emptied (line s.lines (length s.lines - 1)))
emptied_ending s e = ap (λ x. ending_by x s.bits s.lines) e

pub same_group : {f g : Clauses} {i j : ℕ} {s t : State} {b : Bool} → f ≡ g → i ≡ j → s ≡ t → ◌≡◌ {A = Group} (record { formula = f; inputs = i; state = s; failed = b }) (record { formula = g; inputs = j; state = t; failed = b })
same_group {g = g} {i = i} {j = j} {s = s} {b = b} p q r =
    ap (λ x. record { formula = x; inputs = i; state = s; failed = b }) p
    ∙ ap (λ x. record { formula = g; inputs = x; state = s; failed = b }) q
    ∙ ap (λ x. record { formula = g; inputs = j; state = x; failed = b }) r
