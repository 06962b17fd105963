-- What follows from how a command ends, whatever it owes.
use Rattle.std.proofs.Common.{◌≡◌, ℕ, zero, suc, take, length, ◌≤◌, inl, inr, List, [], ◌++◌, Option, Some, None, refl, sym, ap, ◌∙◌, subst, arith}
use Rattle.std.specs.Option.{option_map}
use Rattle.std.proofs.lemmas.List.{append-nil}
use Rattle.std.specs.Prelude.{◌==◌, if◌then◌else◌}
use Rattle.rdb_runner.specs.declared.status.Status.{Status}
use Rattle.rdb_runner.specs.declared.status.Status.TheVariants.{Done, Usage, Unreadable, BadSchema, BadScript, BadSchedule, CutOff, NoMemory, BadReport, NotBuilt}
use Rattle.rdb_runner.specs.Ending.{Told, Ends}
use Rattle.rdb_runner.specs.Reading.{Sight, AsksFirst}
use Rattle.rdb_runner.specs.Statuses.{number_of}
use Rattle.rdb_runner.specs.Telling.{Ink, Shows, Tells, MayTell}

-- the status of a number
abbrev status_at : ℕ → Status
status_at n =
    if n == 0 then Done
    else if n == 2 then Usage
    else if n == 3 then Unreadable
    else if n == 4 then BadSchema
    else if n == 5 then BadScript
    else if n == 6 then BadSchedule
    else if n == 7 then CutOff
    else if n == 8 then NoMemory
    else if n == 9 then BadReport
    else NotBuilt

at_number : (s : Status) → status_at (number_of s) ≡ s
at_number Done = refl
at_number Usage = refl
at_number Unreadable = refl
at_number BadSchema = refl
at_number BadScript = refl
at_number BadSchedule = refl
at_number CutOff = refl
at_number NoMemory = refl
at_number BadReport = refl
at_number NotBuilt = refl

-- each number is that of one status
pub one_status : (a b : Status) (answer : ℕ) → answer ≡ number_of a → answer ≡ number_of b → a ≡ b
one_status a b answer first second = sym (at_number a) ∙ ap status_at (sym first ∙ second) ∙ at_number b

module _ (files : List (List ℕ)) (owes : Status → List ℕ → Type 0) (sight : Sight) (ink : Ink) (answer : ℕ) (end : Ends files owes sight ink answer) where
  -- what the status of an answer tells
  pub told_as : (s : Status) → answer ≡ number_of s → Told owes ink s
  told_as s is = subst (Told owes ink) (one_status end.status s answer end.number is) end.told

-- a text that is due is told
pub told_by : (owes : Status → List ℕ → Type 0) (ink : Ink) (own : Status) (text : List ℕ) (status : Status) → owes own text
    → (Shows ink (owes own) → Told owes ink own) → Tells ink own text status → Told owes ink status
told_by owes ink own text status due whole (inl (is, writes)) = subst (Told owes ink) (sym is) (whole (text, due, writes))
told_by owes ink own text status due whole (inr (is, cut)) = subst (Told owes ink) (sym is) (own, text, due, cut)

-- a text that is due is told, or memory is wanting
pub may_be_told_by : (owes : Status → List ℕ → Type 0) (ink : Ink) (own : Status) (text : List ℕ) (status : Status) → owes own text
    → (Shows ink (owes own) → Told owes ink own) → MayTell ink own text status → Told owes ink status
may_be_told_by owes ink own text status due whole (inl tells) = told_by owes ink own text status due whole tells
may_be_told_by owes ink own text status due whole (inr (is, silent)) = subst (Told owes ink) (sym is) silent

added_none : (asked : Option (List (List ℕ))) → asked ≡ option_map (λ before. before ++ []) asked
added_none None = refl
added_none (Some all) = ap Some (sym (append-nil all))

-- where no file is asked, the first none of these are
pub asks_none : (files : List (List ℕ)) (sight : Sight) → sight.asked_then ≡ sight.asked → AsksFirst sight files
asks_none files sight same =
    let least : 0 ≤ length files = omega arith in
    (0, least, same ∙ added_none sight.asked)

take_none : (n : ℕ) → ◌≡◌ {A = List (List ℕ)} (take n []) []
take_none zero = refl
take_none (suc n) = refl

-- where the first of no files are asked, none is
pub none_asked : (sight : Sight) → AsksFirst sight [] → sight.asked_then ≡ sight.asked
none_asked sight (n, most, is) = is ∙ ap (λ (names : List (List ℕ)). option_map (λ before. before ++ names) sight.asked) (take_none n) ∙ sym (added_none sight.asked)
