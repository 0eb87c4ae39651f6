-- From what `clap` says of its matches to what the program's definitions say.
use Rattle.std.proofs.Common.{◌≡◌, ◌≢◌, ◌⊎◌, true, List, [], ◌∷◌, Option, None, refl, subst, inl, inr}
use Rattle.clap.specs.Words.{App, HasKind, IsAmong, Kinds, Text, fault_of, is_simple, is_simple_and_free, kind_of}
use Rattle.clap.specs.declared.error.Error.{Error}
use Rattle.clap.specs.declared.error.kind.ErrorKind.{ErrorKind}
use Rattle.clap.specs.declared.error.kind.ErrorKind.TheVariants.{OutOfMemory}
use Rattle.clap.proofs.OnLiterals.{clap_on_literals}
use Rattle.rr_words.specs.Line.{tool}
use Rattle.rr_words.specs.Plan.{Plan, command_of, where_taken}
use Rattle.rr_words.specs.declared.read.WordsFault.{WordsFault}
use Rattle.rr_words.specs.declared.read.WordsFault.TheVariants.{Memory}

pub tool_simple : is_simple tool ≡ true
unfolding clap_on_literals
tool_simple = refl

pub tool_free : is_simple_and_free tool ≡ true
unfolding clap_on_literals
tool_free = refl

pub among_some : (k : ErrorKind) (ks : Kinds) → IsAmong k ks → ks ≢ []
among_some k [] h = absurd h
among_some k (x ∷ ks) h = λ e. cc

pub not_taken : (ks : Kinds) (p : Option Plan) → ks ≢ [] → where_taken ks p ≡ None
not_taken [] p some = absurd (some refl)
not_taken (k ∷ ks) p some = refl

pub refused : (words : List Text) (e : WordsFault) → (e ≡ Memory) ⊎ (fault_of tool words ≢ []) → (e ≡ Memory) ⊎ (command_of words ≡ None)
refused words e (inl memory) = inl memory
refused words e (inr some) = inr (not_taken (fault_of tool words) _ some)

pub refuses : (a : App) (words : List Text) (e : Error) → a ≡ tool → (is_simple_and_free a ≡ true → HasKind (fault_of a words) e) → (kind_of e ≡ OutOfMemory) ⊎ (fault_of tool words ≢ [])
refuses a words e is kinds = elim (kinds' tool_free) [
  | inl memory ↦ inl memory
  | inr among ↦ inr (among_some (kind_of e) (fault_of tool words) among)
]
  where
    kinds' : is_simple_and_free tool ≡ true → HasKind (fault_of tool words) e
    kinds' = subst (λ (x : App). is_simple_and_free x ≡ true → HasKind (fault_of x words) e) is kinds
