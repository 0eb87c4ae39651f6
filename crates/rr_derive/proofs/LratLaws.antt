-- bytes have one proof or one first bad line
use Rattle.std.proofs.Common.{ℕ, ◌≡◌, ◌∙◌, ◌⊎◌, inl, inr, ◌+◌, ◌<◌, ◌≤◌, List, [], ◌∷◌, ◌++◌, codes, refl, sym, ap, ap₂, subst, arith}
use Rattle.std.specs.Prelude.{All, Contains, Err, IfErr, IfOk, Ok, Result}
use Rattle.std.specs.List.{AllByRecursion, flat_map}
use Rattle.std.proofs.lemmas.List.{append_assoc}
use Rattle.std.proofs.lemmas.List.Elements.{All-contains, All-from_recursion}
use Rattle.rr_cnf.specs.Clauses.{IsWithin, Literal, negated}
use Rattle.rr_derive.specs.Derive.{Proof, Step}
use Rattle.rr_derive.specs.Lrat.{AreKept, AreSigned, BreaksRule, IsAddition, IsBad, IsCause, IsDeletion, IsFirstBad, IsProofText, IsRat, IsReadable, Keeps, Read, added, deleted, here, lrat, step_line}
use Rattle.rr_derive.specs.Reading.{ReadsAs}
use Rattle.rr_derive.specs.declared.read.ProofFault.{ProofFault}
use Rattle.rr_derive.specs.declared.read.ProofFault.TheVariants.{BadProof, RatLine, Memory}
use Rattle.rr_derive.proofs.LratLines.{addition_or_deletion, addition_or_rat, deletion_or_rat, one_addition, one_deletion}
use Rattle.rr_derive.proofs.LratText.{line_short}

-- the text does not go on with a line that is taken
record Stops (vars last : ℕ) (text : List ℕ) : Type 0 where
  pub no_addition : (s : Step) (r : List ℕ) → IsAddition text s r → Keeps last vars s → ⊥
  pub no_deletion : (r : List ℕ) → IsDeletion text r → ⊥

stop_end : (vars last : ℕ) → Stops vars last []
stop_end vars last = record {
  no_addition = λ s r a k. let h = line_short [] _ r a.starts in omega (arith, h);
  no_deletion = λ r d. let h = line_short [] _ r d.starts in omega (arith, h);
}

breaks_none : (last vars : ℕ) (s : Step) → Keeps last vars s → BreaksRule last vars s → ⊥
breaks_none last vars s k (inl low) = omega (arith, k.above, low)
breaks_none last vars s k (inr (inl above)) =
    let within = All-contains (λ l. l.var ≤ vars) s.clause above.0 (All-from_recursion (λ l. l.var ≤ vars) s.clause k.within) above.1.0 in
    omega (arith, within, above.1.1)
breaks_none last vars s k (inr (inr both)) = All-contains (λ l. Contains s.clause (negated l) → ⊥) s.clause both.0 k.no_tautology both.1.0 both.1.1

stop_bad : (vars last : ℕ) (text : List ℕ) → IsBad vars last text → Stops vars last text
stop_bad vars last text (inl none) = record { no_addition = λ s r a k. none.no_addition s r a; no_deletion = none.no_deletion }
stop_bad vars last text (inr b) = record {
  no_addition = λ s r a k. breaks_none last vars s k (subst (BreaksRule last vars) (one_addition text b.0 s b.1.0 r b.1.1.0 a).0 b.1.1.1);
  no_deletion = λ r d. addition_or_deletion text b.0 b.1.0 r b.1.1.0 d;
}

stop_rat : (vars last : ℕ) (text : List ℕ) → IsRat text → Stops vars last text
stop_rat vars last text t = record { no_addition = λ s r a k. addition_or_rat text s r a t; no_deletion = λ r d. deletion_or_rat text r d t }

record Alike (n m : ℕ) (rest other : List ℕ) (a b : List Step) : Type 0 where
  pub count : n ≡ m
  pub text : rest ≡ other
  pub steps : a ≡ b

-- two readings that stop are one
module _ (vars e n f m : ℕ) (rest other : List ℕ) (stop : Stops vars e rest) (halt : Stops vars f other) where
  alike : {last k : ℕ} {text : List ℕ} {a b : List Step} → Read vars e n rest last k text a → Read vars f m other last k text b → Alike n m rest other a b
  alike (here l1 c1 t1 p q r) (here l2 c2 t2 u v w) = record { count = sym q ∙ v; text = sym r ∙ w; steps = refl }
  alike (here l1 c1 t1 p q r) (deleted l2 c2 t2 a2 s2 d2 y) = absurd (stop.no_deletion a2 (subst (λ x. IsDeletion x a2) r d2))
  alike (here l1 c1 t1 p q r) (added l2 c2 t2 a2 z2 s2 d2 k2 y) = absurd (stop.no_addition z2 a2 (subst (λ x. IsAddition x z2 a2) r d2) (subst (λ x. Keeps x vars z2) p k2))
  alike (deleted l1 c1 t1 a1 s1 d1 x) (here l2 c2 t2 u v w) = absurd (halt.no_deletion a1 (subst (λ x. IsDeletion x a1) w d1))
  alike (added l1 c1 t1 a1 z1 s1 d1 k1 x) (here l2 c2 t2 u v w) = absurd (halt.no_addition z1 a1 (subst (λ x. IsAddition x z1 a1) w d1) (subst (λ x. Keeps x vars z1) u k1))
  alike (deleted l1 c1 t1 a1 s1 d1 x) (deleted l2 c2 t2 a2 s2 d2 y) =
      let g : a2 ≡ a1 = one_deletion t1 a2 a1 d2 d1 in
      alike x (subst (λ t. Read vars f m other l1 (c1 + 1) t s2) g y)
  alike (deleted l1 c1 t1 a1 s1 d1 x) (added l2 c2 t2 a2 z2 s2 d2 k2 y) = absurd (addition_or_deletion t1 z2 a2 a1 d2 d1)
  alike (added l1 c1 t1 a1 z1 s1 d1 k1 x) (deleted l2 c2 t2 a2 s2 d2 y) = absurd (addition_or_deletion t1 z1 a1 a2 d1 d2)
  alike (added l1 c1 t1 a1 z1 s1 d1 k1 x) (added l2 c2 t2 a2 z2 s2 d2 k2 y) =
      let g = one_addition t1 z2 z1 a2 a1 d2 d1 in
      let h = alike x (subst (λ t. Read vars f m other z1.id (c1 + 1) t s2) g.1 (subst (λ z. Read vars f m other z.id (c1 + 1) a2 s2) g.0 y)) in
      record { count = h.count; text = h.text; steps = ap₂ (λ z zs. z ∷ zs) (sym g.0) h.steps }

pub one_proof_text : (clauses vars : ℕ) (bytes : List ℕ) (a b : List Step) → IsProofText clauses vars bytes a → IsProofText clauses vars bytes b → a ≡ b
one_proof_text clauses vars bytes a b x y = (alike vars x.last x.count y.last y.count [] [] (stop_end vars x.last) (stop_end vars y.last) x.read y.read).steps

stopped : (clauses vars : ℕ) (bytes : List ℕ) (k : ℕ) (bad : ℕ → List ℕ → Type 0) (steps : List Step) → IsProofText clauses vars bytes steps → (x : IsFirstBad clauses vars bytes k bad) → Stops vars x.last x.rest → ⊥
stopped clauses vars bytes k bad steps y x s = x.more (sym (alike vars y.last y.count x.last x.count [] x.rest (stop_end vars y.last) s y.read x.read).text)

pub proof_or_cause : (clauses vars : ℕ) (bytes : List ℕ) (steps : List Step) (f : ProofFault) → IsProofText clauses vars bytes steps → IsCause clauses vars bytes f → f ≡ Memory
proof_or_cause clauses vars bytes steps (BadProof k) y x = absurd (stopped clauses vars bytes k (IsBad vars) steps y x (stop_bad vars x.last x.rest x.bad_line))
proof_or_cause clauses vars bytes steps (RatLine k) y x = absurd (stopped clauses vars bytes k (λ last. IsRat) steps y x (stop_rat vars x.last x.rest x.bad_line))
proof_or_cause clauses vars bytes steps Memory y x = refl

bad_or_rat : (vars last : ℕ) (text : List ℕ) → IsBad vars last text → IsRat text → ⊥
bad_or_rat vars last text (inl none) r = none.no_rat r
bad_or_rat vars last text (inr b) r = addition_or_rat text b.0 b.1.0 b.1.1.0 r

module _ (clauses vars : ℕ) (bytes : List ℕ) where
  same_place : (j k : ℕ) (bad ill : ℕ → List ℕ → Type 0) (x : IsFirstBad clauses vars bytes j bad) (y : IsFirstBad clauses vars bytes k ill) → Stops vars x.last x.rest → Stops vars y.last y.rest → (j ≡ k) × (x.rest ≡ y.rest)
  same_place j k bad ill x y s t =
      let h = alike vars x.last x.count y.last y.count x.rest y.rest s t x.read y.read in
      (x.place ∙ ap (λ c. c + 1) h.count ∙ sym y.place, h.text)

  pub one_cause : (f g : ProofFault) → IsCause clauses vars bytes f → IsCause clauses vars bytes g → (f ≡ g) ⊎ ((f ≡ Memory) ⊎ (g ≡ Memory))
  one_cause Memory g x y = inr (inl refl)
  one_cause (BadProof j) Memory x y = inr (inr refl)
  one_cause (RatLine j) Memory x y = inr (inr refl)
  one_cause (BadProof j) (BadProof k) x y = inl (ap BadProof (same_place j k (IsBad vars) (IsBad vars) x y (stop_bad vars x.last x.rest x.bad_line) (stop_bad vars y.last y.rest y.bad_line)).0)
  one_cause (RatLine j) (RatLine k) x y = inl (ap RatLine (same_place j k (λ last. IsRat) (λ last. IsRat) x y (stop_rat vars x.last x.rest x.bad_line) (stop_rat vars y.last y.rest y.bad_line)).0)
  one_cause (BadProof j) (RatLine k) x y =
      let h = (same_place j k (IsBad vars) (λ last. IsRat) x y (stop_bad vars x.last x.rest x.bad_line) (stop_rat vars y.last y.rest y.bad_line)).1 in
      absurd (bad_or_rat vars x.last x.rest x.bad_line (subst IsRat (sym h) y.bad_line))
  one_cause (RatLine j) (BadProof k) x y =
      let h = (same_place j k (λ last. IsRat) (IsBad vars) x y (stop_rat vars x.last x.rest x.bad_line) (stop_bad vars y.last y.rest y.bad_line)).1 in
      absurd (bad_or_rat vars y.last y.rest y.bad_line (subst IsRat h x.bad_line))

-- what was written is read
pub record Whole (vars last count : ℕ) (text : List ℕ) (steps : List Step) : Type 0 where
  pub end : ℕ
  pub lines : ℕ
  pub read : Read vars end lines [] last count text steps

pub written : (vars last count : ℕ) (steps : List Step) → AreKept last vars steps → Whole vars last count (flat_map (λ s. step_line s ++ codes "\n") steps) steps
written vars last count [] k = record { end = last; lines = count; read = here last count [] refl refl refl }
written vars last count (s ∷ ss) k =
    let rest = flat_map (λ s. step_line s ++ codes "\n") ss in
    let w = written vars s.id (count + 1) ss k.1.1.1.1 in
    record {
      end = w.end;
      lines = w.lines;
      read = added last count ((step_line s ++ codes "\n") ++ rest) rest s ss
          (record { id = k.0; literals = k.1.0; hints = k.1.1.0; starts = append_assoc (step_line s) (codes "\n") rest })
          k.1.1.1.0 w.read;
    }

pub reads_back : (clauses vars : ℕ) (bytes : List ℕ) (r : Result Proof ProofFault) → IfOk r (λ j. j.first ≡ clauses + 1) → IfOk r (λ j. IsProofText clauses vars bytes j.lines) → IfErr r (IsCause clauses vars bytes)
    → (p : Proof) → IsReadable clauses vars p → bytes ≡ lrat p → ReadsAs r p
reads_back clauses vars bytes r first proof cause p h e =
    let w = written vars clauses 0 p.lines h.kept in
    let text : IsProofText clauses vars bytes p.lines = record { last = w.end; count = w.lines; read = subst (λ t. Read vars w.end w.lines [] clauses 0 t p.lines) (sym e) w.read } in
    by_result r first proof cause text
  where
    by_result : (r : Result Proof ProofFault) → IfOk r (λ j. j.first ≡ clauses + 1) → IfOk r (λ j. IsProofText clauses vars bytes j.lines) → IfErr r (IsCause clauses vars bytes) → IsProofText clauses vars bytes p.lines → ReadsAs r p
    by_result (Ok j) first proof cause text =
        let made : ℕ → List Step → Proof = λ f ls. record { first = f; lines = ls } in
        ap₂ made (first ∙ sym h.first) (one_proof_text clauses vars bytes j.lines p.lines proof text)
    by_result (Err f) first proof cause text = proof_or_cause clauses vars bytes p.lines f text cause

-- what is read lies above and within the formula
above_all : {vars e n : ℕ} {rest : List ℕ} {last k : ℕ} {text : List ℕ} {a : List Step} → Read vars e n rest last k text a → (c : ℕ) → c ≤ last → AllByRecursion (λ s. c < s.id) a
above_all (here l1 c1 t1 p q r) c h = tt
above_all (deleted l1 c1 t1 a1 s1 d1 x) c h = above_all x c h
above_all (added l1 c1 t1 a1 z1 s1 d1 k1 x) c h = (omega (arith, k1.above, h), above_all x c (omega (arith, k1.above, h)))

within_vars : (vars : ℕ) (ls : List Literal) → AreSigned ls → AllByRecursion (λ l. l.var ≤ vars) ls → AllByRecursion (IsWithin vars) ls
within_vars vars [] s w = tt
within_vars vars (l ∷ ls) s w = ((s.0.0, w.0), within_vars vars ls s.1 w.1)

within_all : {vars e n : ℕ} {rest : List ℕ} {last k : ℕ} {text : List ℕ} {a : List Step} → Read vars e n rest last k text a → AllByRecursion (λ s. All (IsWithin vars) s.clause) a
within_all (here l1 c1 t1 p q r) = tt
within_all (deleted l1 c1 t1 a1 s1 d1 x) = within_all x
within_all {vars} (added l1 c1 t1 a1 z1 s1 d1 k1 x) = (All-from_recursion (IsWithin vars) z1.clause (within_vars vars z1.clause d1.literals k1.within), within_all x)

pub ids_above : (clauses vars : ℕ) (bytes : List ℕ) (steps : List Step) → IsProofText clauses vars bytes steps → All (λ s. clauses < s.id) steps
ids_above clauses vars bytes steps h = All-from_recursion (λ s. clauses < s.id) steps (above_all h.read clauses (omega arith))

pub literals_within : (clauses vars : ℕ) (bytes : List ℕ) (steps : List Step) → IsProofText clauses vars bytes steps → All (λ s. All (IsWithin vars) s.clause) steps
literals_within clauses vars bytes steps h = All-from_recursion (λ s. All (IsWithin vars) s.clause) steps (within_all h.read)
