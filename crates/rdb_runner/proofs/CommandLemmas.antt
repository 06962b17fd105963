-- How a command ends is how the words end that ask for it.
use Rattle.std.proofs.Common.{◌≡◌, ◌==◌, ℕ, Bool, true, false, inl, inr, List, [], ◌∷◌, length, Bor, get_or, refl, sym, ◌∙◌, subst, arith}
use Rattle.std.specs.Bool.{OnTrue, OnFalse}
use Rattle.std.proofs.lemmas.Bool.{eqb-true, false≢true}
use Rattle.rdb_runner.specs.declared.command_line.Settings.{Settings}
use Rattle.rdb_runner.specs.declared.status.Status.{Status}
use Rattle.rdb_runner.specs.declared.status.Status.TheVariants.{Usage, CutOff, NoMemory, NotBuilt}
use Rattle.rdb_runner.specs.Command.{IsNoCommandLine, usage_line, not_built_line, Task, unbuilt, task_of, files_of_task, SeesNothing, UsageOwes, UnbuiltOwes, IsBuilt, CommandEnds, TaskEnds, WordsEnd}
use Rattle.rdb_words.specs.Grammar.{Word, texts}
use Rattle.rdb_runner.specs.CommandLine.{Command, replay, IsCommandLine}
use Rattle.rdb_runner.specs.Ending.{Ends}
use Rattle.rdb_runner.specs.Reading.{Sight}
use Rattle.rdb_runner.specs.Statuses.{number_of}
use Rattle.rdb_runner.specs.Telling.{Ink, Tells, IsSilent}
use Rattle.rdb_runner.proofs.CommandLineMeaning.{one_line}
use Rattle.rdb_runner.proofs.EndingLemmas.{one_status, told_by, asks_none}

-- a replay without exactly one client isn't built
pub not_one_client : (settings : Settings) (schema schedule : List ℕ) (clients : List (Bor Word)) → (length clients ≡ 1 → ⊥) → task_of (replay settings schema schedule (texts clients)) ≡ unbuilt
not_one_client settings schema schedule [] other = refl
not_one_client settings schema schedule (c ∷ []) other = absurd (other refl)
not_one_client settings schema schedule (c ∷ d ∷ clients) other = refl

-- an answer of a line that needs no file
abbrev pub Answers : Status → List ℕ → Ink → ℕ → Type 0
Answers own line ink answer = (status : Status) × (answer ≡ number_of status) × Tells ink own line status

-- the usage is told
pub usage_ends : (sight : Sight) (ink : Ink) (answer : ℕ) → SeesNothing sight → Answers Usage usage_line ink answer → Ends [] (UsageOwes sight) sight ink answer
usage_ends sight ink answer sees (status, is, tells) = record {
  status = status;
  number = is;
  told = told_by (UsageOwes sight) ink Usage usage_line status (refl, sees) (λ h. h) tells;
  asked = asks_none [] sight sees.0;
}

-- a command that isn't built tells so
pub unbuilt_ends : (command : Command) (sight : Sight) (ink : Ink) (answer : ℕ) → task_of command ≡ unbuilt → SeesNothing sight
    → Answers NotBuilt (not_built_line command) ink answer → CommandEnds command sight ink answer
unbuilt_ends command sight ink answer none sees (status, is, tells) =
    subst (λ (t : Task). TaskEnds command t sight ink answer) (sym none) (record {
      status = status;
      number = is;
      told = told_by (UnbuiltOwes command sight) ink NotBuilt (not_built_line command) status (refl, sees) (λ h. h) tells;
      asked = asks_none [] sight sees.0;
    })

-- a command for whose reading memory is wanting, before anything was seen or written
pub unread_ends : (command : Command) (sight : Sight) (ink : Ink) (answer : ℕ) → answer ≡ number_of NoMemory → SeesNothing sight → IsSilent ink → CommandEnds command sight ink answer
unread_ends command sight ink answer is sees silent = record {
  status = NoMemory;
  number = is;
  told = silent;
  asked = asks_none (files_of_task (task_of command)) sight sees.0;
}

-- a fact of `true`, or of `false`, and back
pub when_true : (b : Bool) (P : Type 0) → (b ≡ true → P) → OnTrue b P
when_true true P f = f refl
when_true false P f = tt

pub when_false : (b : Bool) (P : Type 0) → (b ≡ false → P) → OnFalse b P
when_false true P f = tt
when_false false P f = f refl

pub is_true : (b : Bool) (P : Type 0) → OnTrue b P → b ≡ true → P
is_true true P fact e = fact
is_true false P fact e = absurd (false≢true e)

-- a replay of one client is built, and no other is
pub one_client_is_built : (settings : Settings) (schema schedule : List ℕ) (clients : List (Bor Word)) → (length clients == 1) ≡ true → IsBuilt (task_of (replay settings schema schedule (texts clients)))
one_client_is_built settings schema schedule [] one = absurd (omega (arith, eqb-true 0 1 one))
one_client_is_built settings schema schedule (c ∷ []) one = tt
one_client_is_built settings schema schedule (c ∷ d ∷ clients) one = let is = eqb-true (length (c ∷ d ∷ clients)) 1 one in absurd (omega arith)

pub others_are_unbuilt : (settings : Settings) (schema schedule : List ℕ) (clients : List (Bor Word)) → (length clients == 1) ≡ false → task_of (replay settings schema schedule (texts clients)) ≡ unbuilt
others_are_unbuilt settings schema schedule [] other = refl
others_are_unbuilt settings schema schedule (c ∷ []) other = absurd (false≢true (sym other))
others_are_unbuilt settings schema schedule (c ∷ d ∷ clients) other = refl

-- such a line takes no memory
pub answers_without_memory : (own : Status) (line : List ℕ) (ink : Ink) (answer : ℕ) → (own ≡ NoMemory → ⊥) → Answers own line ink answer → answer ≡ number_of NoMemory → ⊥
answers_without_memory own line ink answer other (status, is, inl (same, writes)) wants = other (sym same ∙ one_status status NoMemory answer is wants)
answers_without_memory own line ink answer other (status, is, inr (same, cut)) wants =
    let both : CutOff ≡ NoMemory = sym same ∙ one_status status NoMemory answer is wants in
    cc

-- what isn't built takes no memory
pub unbuilt_is_no_want : (line : List ℕ) (ink : Ink) (answer : ℕ) → Answers NotBuilt line ink answer → answer ≡ number_of NoMemory → ⊥
unbuilt_is_no_want line ink answer answers wants = answers_without_memory NotBuilt line ink answer other answers wants
  where
    other : NotBuilt ≡ NoMemory → ⊥
    other both = cc

-- words end as the command that they ask for
pub words_end : (words : List Word) (command : Command) (sight : Sight) (ink : Ink) (answer : ℕ) → IsCommandLine words command
    → CommandEnds command sight ink answer → (answer ≡ number_of NoMemory → IsBuilt (task_of command)) → WordsEnd words sight ink answer
words_end words command sight ink answer is ends memory = record {
  usage = λ bad. absurd (bad command is);
  command = λ other asked. subst (λ (c : Command). CommandEnds c sight ink answer) (one_line words command other is asked) ends;
  either = inr (command, is);
  memory = λ wants. (command, is, memory wants);
}

-- words that are no command line end with the usage
pub no_words_end : (words : List Word) (sight : Sight) (ink : Ink) (answer : ℕ) → IsNoCommandLine words → SeesNothing sight
    → Answers Usage usage_line ink answer → WordsEnd words sight ink answer
no_words_end words sight ink answer bad sees answers = record {
  usage = λ still. usage_ends sight ink answer sees answers;
  command = λ other asked. absurd (bad other asked);
  either = inl bad;
  memory = λ wants. absurd (answers_without_memory Usage usage_line ink answer usage_is_no_want answers wants);
}
  where
    usage_is_no_want : Usage ≡ NoMemory → ⊥
    usage_is_no_want both = cc

-- one client, lent
pub one_lent : (clients : List (Bor Word)) (d : Bor Word) → length clients ≡ 1 → texts clients ≡ (get_or clients 0 d).now ∷ []
one_lent [] d one = absurd (omega arith)
one_lent (c ∷ []) d one = refl
one_lent (c ∷ e ∷ clients) d one = absurd (omega arith)
