-- What two texts of a certificate decide, they decide once, and what an accepted proof means.
use Rattle.std.proofs.Common.{◌≡◌, ◌∙◌, ◌⊎◌, inl, inr, ◌+◌, ◌-◌, ◌<◌, ◌≤◌, ℕ, zero, suc, List, [], ◌∷◌, ◌++◌, length, take, drop, refl, sym, ap, subst, arith, append_assoc}
use Rattle.std.specs.Prelude.{Result, Ok, Err, IfOk, MatchResult}
use Rattle.std.proofs.lemmas.Bool.{cases_lt}
use Rattle.std.proofs.lemmas.List.{append-nil, length-take, take-append-drop}
use Rattle.rr_cnf.specs.Clauses.{Clauses, IsSatisfiable}
use Rattle.rr_circuit.specs.Values.{OutputNetlist}
use Rattle.rr_circuit.specs.Aag.{aag, AreLines, Begins, IsBadLine, IsCircuit, text_of}
use Rattle.rr_circuit.proofs.AagLaws.{text_of-append}
use Rattle.rr_circuit.proofs.AagWhole.{reads_back, text_of_circuit}
use Rattle.rr_tseitin.specs.Tseitin.{formula_of}
use Rattle.rr_tseitin.proofs.TseitinLaws.{satisfiable-iff}
use Rattle.rr_derive.specs.Derive.{Proof, Refutes, Step}
use Rattle.rr_derive.specs.Lrat.{AreWritable, IsCause, lrat}
use Rattle.rr_derive.specs.declared.read.ProofFault.{ProofFault}
use Rattle.rr_derive.specs.declared.read.ProofFault.TheVariants.{BadProof, RatLine, Memory}
use Rattle.rr_derive.proofs.LratLaws.{one_cause, one_proof_text, proof_or_cause}
use Rattle.rr_derive.proofs.Soundness.{unsatisfiable}
use Rattle.rr_derive.proofs.WrittenLaws.{written_is_read}
use Rattle.rr_check.specs.declared.verdict.Verdict.{Verdict}
use Rattle.rr_check.specs.declared.verdict.Verdict.TheVariants as found
use Rattle.rr_check.specs.declared.verdict.Verdict.TheVariants.{Accepted}
use Rattle.rr_check.specs.Verdicts.{VerdictIs}
use Rattle.rr_check.proofs.Whole.{one}
use Rattle.rr_check_certificate.specs.declared.fault.Flaw.{Flaw}
use Rattle.rr_check_certificate.specs.declared.fault.Flaw.TheVariants as flaw
use Rattle.rr_check_certificate.specs.declared.fault.CertificateFault.{CertificateFault}
use Rattle.rr_check_certificate.specs.Certificates.{IsFlawed, IsCircuitOf, IsFormulaOf, IsNoProof, IsProofOver, FlawIs, IsJudged, IsNeverTrue}

-- ---- one first bad line of a circuit
lines_front : (bytes : List ℕ) (count : ℕ) (b : Begins bytes count) (n k : ℕ) (xs : List (List ℕ)) → AreLines b.counts n xs → AreLines b.counts n (take k xs)
lines_front bytes count b n zero xs a = tt
lines_front bytes count b n (suc k) [] a = tt
lines_front bytes count b n (suc k) (x ∷ xs) a = (a.0, lines_front bytes count b (n + 1) k xs a.1)

begins_front : (bytes : List ℕ) (n m : ℕ) → m ≤ n → Begins bytes n → Begins bytes m
begins_front bytes n m low b = record {
  counts = b.counts;
  bounds = b.bounds;
  lines = take m b.lines;
  count = let l = length-take m b.lines in let c = b.count in omega arith;
  grammar = lines_front bytes n b 0 m b.lines b.grammar;
  rest = text_of (drop m b.lines) ++ b.rest;
  text = b.text ∙ ap (λ (xs : List (List ℕ)). text_of xs ++ b.rest) (sym (take-append-drop m b.lines))
      ∙ ap (λ (t : List ℕ). t ++ b.rest) (text_of-append (take m b.lines) (drop m b.lines))
      ∙ append_assoc (text_of (take m b.lines)) (text_of (drop m b.lines)) b.rest;
}

not_later : (bytes : List ℕ) (n m : ℕ) → IsBadLine bytes n → IsBadLine bytes m → n < m → ⊥
not_later bytes n m p q less = p.here (begins_front bytes (m - 1) n (omega arith) q.before)

pub one_bad_line : (bytes : List ℕ) (n m : ℕ) → IsBadLine bytes n → IsBadLine bytes m → n ≡ m
one_bad_line bytes n m p q = by_cases (cases_lt n m) (cases_lt m n)
  where
    by_cases : ((n < m) ⊎ (m ≤ n)) → ((m < n) ⊎ (n ≤ m)) → n ≡ m
    by_cases (inl l) r = absurd (not_later bytes n m p q l)
    by_cases (inr l) (inl r) = absurd (not_later bytes m n q p r)
    by_cases (inr l) (inr r) = omega arith

-- ---- one circuit and one formula
one_circuit : (bytes : List ℕ) (c d : OutputNetlist) → IsCircuitOf bytes c → IsCircuitOf bytes d → c ≡ d
one_circuit bytes c d p q = reads_back bytes (Ok c) p.text p.circuit tt d q.circuit q.text

one_formula : (bytes : List ℕ) (f g : Clauses) → IsFormulaOf bytes f → IsFormulaOf bytes g → f ≡ g
one_formula bytes f g p q = p.is ∙ ap formula_of (one_circuit bytes p.netlist q.netlist p.read q.read) ∙ sym q.is

formula_or_flaw : {X : Type 0} (bytes : List ℕ) (f : Clauses) (n : ℕ) → IsFormulaOf bytes f → IsBadLine bytes n → X
formula_or_flaw bytes f n p bad = absurd (bad.no_text (text_of_circuit bytes p.netlist p.read.circuit p.read.text))

-- ---- what two texts decide
pub record SameFlaw (f g : Flaw) (n m : ℕ) : Type 0 where
  pub flaw : f ≡ g
  pub line : n ≡ m

not_memory_proof : (n : ℕ) → BadProof n ≡ Memory → ⊥
not_memory_proof n e = cc

not_memory_rat : (n : ℕ) → RatLine n ≡ Memory → ⊥
not_memory_rat n e = cc

module _ (circuit proof : List ℕ) where
  same_fault : (a b : ProofFault) → IsNoProof circuit proof a → IsNoProof circuit proof b → (a ≡ Memory → ⊥) → (b ≡ Memory → ⊥) → a ≡ b
  same_fault a b p q na nb =
      let same = one_formula circuit q.formula p.formula q.read p.read in
      elim (one_cause (length p.formula.clauses) p.formula.vars proof a b p.cause (subst (λ (f : Clauses). IsCause (length f.clauses) f.vars proof b) same q.cause)) [
        | inl e ↦ e
        | inr m ↦ elim m [ inl e ↦ absurd (na e) | inr e ↦ absurd (nb e) ]
      ]

  proof_or_fault : (a : ProofFault) (w : Verdict) → IsNoProof circuit proof a → (a ≡ Memory → ⊥) → IsJudged circuit proof w → ⊥
  proof_or_fault a w p na j =
      let same = one_formula circuit p.formula j.formula p.read j.circuit_read in
      na (proof_or_cause (length j.formula.clauses) j.formula.vars proof j.steps a j.proof_read (subst (λ (f : Clauses). IsCause (length f.clauses) f.vars proof a) same p.cause))

  pub same_verdict : (v w : Verdict) → IsJudged circuit proof v → IsJudged circuit proof w → v ≡ w
  same_verdict v w p q =
      let formula = one_formula circuit q.formula p.formula q.circuit_read p.circuit_read in
      let read : IsProofOver p.formula proof q.steps = subst (λ (f : Clauses). IsProofOver f proof q.steps) formula q.proof_read in
      let steps = one_proof_text (length p.formula.clauses) p.formula.vars proof q.steps p.steps read p.proof_read in
      let judged : VerdictIs p.formula.clauses q.steps w = subst (λ (f : Clauses). VerdictIs f.clauses q.steps w) formula q.judged in
      one p.formula.clauses p.steps v w p.judged (subst (λ (s : List Step). VerdictIs p.formula.clauses s w) steps judged)

  pub verdict_or_flaw : (v : Verdict) (f : Flaw) (n : ℕ) → IsJudged circuit proof v → FlawIs circuit proof f n → ⊥
  verdict_or_flaw v flaw.Circuit n j is = formula_or_flaw circuit j.formula n j.circuit_read is
  verdict_or_flaw v flaw.Proof n j is = proof_or_fault (BadProof n) v is (not_memory_proof n) j
  verdict_or_flaw v flaw.Rat n j is = proof_or_fault (RatLine n) v is (not_memory_rat n) j

  same_line : (n m : ℕ) (f : Flaw) → n ≡ m → SameFlaw f f n m
  same_line n m f is = record { flaw = refl; line = is }

  pub same_flaw : (f g : Flaw) (n m : ℕ) → FlawIs circuit proof f n → FlawIs circuit proof g m → SameFlaw f g n m
  same_flaw flaw.Circuit flaw.Circuit n m p q = same_line n m flaw.Circuit (one_bad_line circuit n m p q)
  same_flaw flaw.Circuit flaw.Proof n m p q = formula_or_flaw circuit q.formula n q.read p
  same_flaw flaw.Circuit flaw.Rat n m p q = formula_or_flaw circuit q.formula n q.read p
  same_flaw flaw.Proof flaw.Circuit n m p q = formula_or_flaw circuit p.formula m p.read q
  same_flaw flaw.Proof flaw.Proof n m p q =
      let same = same_fault (BadProof n) (BadProof m) p q (not_memory_proof n) (not_memory_proof m) in
      same_line n m flaw.Proof (cc)
  same_flaw flaw.Proof flaw.Rat n m p q = let same = same_fault (BadProof n) (RatLine m) p q (not_memory_proof n) (not_memory_rat m) in absurd (cc)
  same_flaw flaw.Rat flaw.Circuit n m p q = formula_or_flaw circuit p.formula m p.read q
  same_flaw flaw.Rat flaw.Proof n m p q = let same = same_fault (RatLine n) (BadProof m) p q (not_memory_rat n) (not_memory_proof m) in absurd (cc)
  same_flaw flaw.Rat flaw.Rat n m p q =
      let same = same_fault (RatLine n) (RatLine m) p q (not_memory_rat n) (not_memory_rat m) in
      same_line n m flaw.Rat (cc)

  -- an accepted proof: no input makes every output true
  pub never_true : IsJudged circuit proof found.Accepted → IsNeverTrue circuit
  never_true j =
      let f = j.circuit_read in
      let refuted = unsatisfiable j.formula.clauses j.steps j.judged in
      record {
        netlist = f.netlist;
        read = f.read;
        never = λ can.
            let model : IsSatisfiable (formula_of f.netlist).clauses = (satisfiable-iff f.netlist f.read.circuit.gates f.read.circuit.outputs).1 can in
            let here : IsSatisfiable j.formula.clauses = subst (λ (g : Clauses). IsSatisfiable g.clauses) (sym f.is) model in
            refuted here.0 here.1;
      }

  pub sound : (v : Verdict) → IsJudged circuit proof v → v ≡ found.Accepted → IsNeverTrue circuit
  sound v j is = never_true (subst (λ (w : Verdict). IsJudged circuit proof w) is j)

  pub sound_of : (r : Result Verdict CertificateFault) → MatchResult r (λ v. IsJudged circuit proof v) (λ fault. IsFlawed circuit proof fault)
      → IfOk r (λ v. v ≡ found.Accepted → IsNeverTrue circuit)
  sound_of (Ok v) j = λ is. sound v j is
  sound_of (Err fault) j = tt

-- the written texts of a circuit and of lines that refute its formula
pub written_accepted : (c : OutputNetlist) (p : Proof) → IsCircuit c → Refutes (formula_of c).clauses p.lines → AreWritable (formula_of c) p.lines → IsJudged (aag c) (lrat p) Accepted
written_accepted c p w r a = record {
  formula = formula_of c;
  steps = p.lines;
  circuit_read = record {
    netlist = c;
    read = record { text = record { rest = []; text = sym (append-nil (aag c)); unread = tt }; circuit = w };
    is = refl;
  };
  proof_read = written_is_read (formula_of c) p w.bounds.0 r.0 a;
  judged = r;
}
