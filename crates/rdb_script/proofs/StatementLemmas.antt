-- What a line may say, once its words are read.
use Rattle.std.proofs.Common.{◌≡◌, ℕ, Bool, true, false, List, Option, Some, None, Result, Ok, Err, IfOk, IfSome, refl, sym, ap, ◌∙◌, subst}
use Rattle.rdb_schema.specs.declared.schema.Schema.{Schema}
use Rattle.rdb_script.specs.declared.statement.Call.{Call}
use Rattle.rdb_script.specs.declared.statement.Keyword.{Keyword}
use Rattle.rdb_script.specs.declared.statement.Statement.{Statement}
use Rattle.rdb_script.specs.declared.statement.Statement.TheVariants as saying
use Rattle.rdb_script.specs.declared.statement.Verb.{Verb}
use Rattle.rdb_script.specs.declared.unit.ScriptLine.{ScriptLine}
use Rattle.rdb_script.specs.Lines.{word, behind}
use Rattle.rdb_script.specs.Statements.{Known, IsCall, IsAssignment, IsAsked, IsPlain, IsSaidBy, is_silent, is_assignment, keyword_of, verb_of, assigns}
use Rattle.rdb_script.proofs.FoundLemmas.{same_found, is_found, moved, some_is}

-- what is said by tests that came out so
pub said_as : (schema : Schema) (known : Known) (line : List ℕ) (says : Statement) (silent assigning : Bool) → is_silent line ≡ silent → is_assignment line ≡ assigning → IsSaidBy silent assigning schema known line says → IsSaidBy (is_silent line) (is_assignment line) schema known line says
said_as schema known line says silent assigning s a h = moved (λ (x y : Bool). IsSaidBy x y schema known line says) silent (is_silent line) assigning (is_assignment line) (sym s) (sym a) h

pub as_said : (schema : Schema) (known : Known) (line : List ℕ) (says : Statement) (silent assigning : Bool) → is_silent line ≡ silent → is_assignment line ≡ assigning → IsSaidBy (is_silent line) (is_assignment line) schema known line says → IsSaidBy silent assigning schema known line says
as_said schema known line says silent assigning s a h = moved (λ (x y : Bool). IsSaidBy x y schema known line says) (is_silent line) silent (is_assignment line) assigning s a h

-- a fact beside what was found
pub found_more : {X E : Type 0} (A : Type 0) (P : X → Type 0) (r : Result (Option X) E) → A → IfOk r (λ o. IfSome o P) → IfOk r (λ o. IfSome o (λ x. A × P x))
found_more A P (Err e) a h = tt
found_more A P (Ok None) a h = tt
found_more A P (Ok (Some x)) a h = (a, h)

abbrev line_of : List ℕ → Call → ScriptLine
line_of w call = record { name = Some w; from = call.from; op = call.op }

-- what the words of an assignment leave to be found
pub assignment_exact : (schema : Schema) (known : Known) (line w r s v t : List ℕ) (asked : Verb) (o : Option Call) (l : ScriptLine) → w ≡ word line → r ≡ behind line → s ≡ behind r → v ≡ word s → t ≡ behind s
    → ((other : Verb) → verb_of v ≡ Some other → assigns other ≡ true → Some asked ≡ Some other) → ((call : Call) → IsCall schema known asked t call → o ≡ Some call) → IsAssignment schema known line l
    → (call : Call) × (o ≡ Some call) × (l ≡ record { name = Some w; from = call.from; op = call.op })
assignment_exact schema known line w r s v t asked o l we re se ve te verb_exact exact h =
    let place : s ≡ behind (behind line) = se ∙ ap behind re in
    let verb_is : verb_of v ≡ Some h.asked = ap verb_of (ve ∙ ap word place) ∙ h.verb_is in
    let same : h.asked ≡ asked = sym (some_is asked h.asked (verb_exact h.asked verb_is h.may)) in (
      h.call,
      exact h.call (moved (λ (y : Verb) (x : List ℕ). IsCall schema known y x h.call) h.asked asked (behind (behind (behind line))) t same (sym (te ∙ ap behind place)) h.written),
      h.is ∙ ap (λ (x : List ℕ). line_of x h.call) (sym we),
    )

pub asked_exact : (schema : Schema) (known : Known) (line w r : List ℕ) (k : Keyword) (says : Statement) → w ≡ word line → r ≡ behind line → Some k ≡ keyword_of w → IsSaidBy false false schema known line says → IsAsked schema known k r says
asked_exact schema known line w r k says we re ke h =
    let same : h.0 ≡ k = sym (same_found keyword_of w (word line) k h.0 we ke h.1) in
    moved (λ (y : Keyword) (x : List ℕ). IsAsked schema known y x says) h.0 k (behind line) r same (sym re) h.2

pub asked_found : (schema : Schema) (known : Known) (line w r : List ℕ) (k : Keyword) (says : Statement) → w ≡ word line → r ≡ behind line → Some k ≡ keyword_of w → IsAsked schema known k r says → IsSaidBy false false schema known line says
asked_found schema known line w r k says we re ke h = (k, is_found keyword_of w (word line) k we ke, subst (λ (x : List ℕ). IsAsked schema known k x says) re h)
