-- What is given means one command.
use Rattle.std.proofs.Common.{◌≡◌, ℕ, ◌≤◌, ◌<◌, List, [], ◌∷◌, length, Option, Some, None, slice_index, refl, sym, ap, ◌∙◌, subst, arith}
use Rattle.std.specs.Char.{digit_value}
use Rattle.std.specs.Str.Parse.{IsNumeral}
use Rattle.rdb_base.specs.declared.identity.Manager.{Manager}
use Rattle.rdb_base.specs.declared.identity.Manager.TheVariants.{Mursiw, Mvcc}
use Rattle.rdb_words.specs.Grammar.{Word, Given, Gives}
use Rattle.rdb_words.specs.SimpleCommand.{IsPlainValue, IsReadable}
use Rattle.rdb_words.proofs.OneMeaning.{one_given}
use Rattle.rdb_words.proofs.Parts.{same_head, same_tail}
use Rattle.rdb_runner.specs.declared.command_line.Settings.{Settings}
use Rattle.rdb_runner.specs.CommandLine.{Command, replay, run, audit, check, job, word_of, Asks, AsksBy, IsCommandLine, IsWithinLimits, HasSettings, IsManagerOf, ArePagesOf, word_of_manager}

-- a command takes 18 names at most
pub few_names : (command : Command) (given : Given) → Asks command given → length given.names ≤ 18
few_names (replay settings schema schedule clients) given (_, _, e, few) = omega (arith, ap length e)
few_names (run settings schema clients) given (_, _, e, few) = omega (arith, ap length e)
few_names (audit schema report) given (_, _, e) = omega (arith, ap length e)
few_names (check schema) given (_, _, e) = omega (arith, ap length e)
few_names (job seed with_threads) given (_, _, word, e, _, _) = omega (arith, ap length e)

-- a value that names a manager begins with no hyphen
plain_manager : (o : Option Word) (chosen : Manager) → IsManagerOf o chosen → IsPlainValue o
plain_manager None chosen is = tt
plain_manager (Some v) Mursiw is = λ hyphen. let first : slice_index v 0 ≡ 109 = ap (λ w. slice_index w 0) is in omega arith
plain_manager (Some v) Mvcc is = λ hyphen. let first : slice_index v 0 ≡ 109 = ap (λ w. slice_index w 0) is in omega arith

-- nor does a number
plain_number : (word : Word) → IsNumeral 10 word → slice_index word 0 ≡ 45 → ⊥
plain_number [] numeral hyphen = let some = numeral.0 in omega arith
plain_number (d ∷ ds) numeral hyphen =
    let digit : digit_value 45 < 10 = subst (λ (c : ℕ). digit_value c < 10) hyphen numeral.1.0 in
    omega arith

plain_pages : (o : Option Word) (n : ℕ) → ArePagesOf o n → IsPlainValue o
plain_pages None n is = tt
plain_pages (Some v) n is = λ hyphen. plain_number v is.0.0 hyphen

no_value : (o : Option Word) → o ≡ None → IsPlainValue o
no_value o none = subst IsPlainValue (sym none) tt

-- no value that is right for a command begins with a hyphen
plain_values : (command : Command) (given : Given) → Asks command given → IsPlainValue given.manager_value × IsPlainValue given.pages_value
plain_values (replay settings schema schedule clients) given asks = (plain_manager given.manager_value settings.manager asks.0.0, plain_pages given.pages_value settings.pages asks.0.1)
plain_values (run settings schema clients) given asks = (plain_manager given.manager_value settings.manager asks.0.0, plain_pages given.pages_value settings.pages asks.0.1)
plain_values (audit schema report) given asks = (no_value given.manager_value asks.0.0, no_value given.pages_value asks.0.1)
plain_values (check schema) given asks = (no_value given.manager_value asks.0.0, no_value given.pages_value asks.0.1)
plain_values (job seed with_threads) given asks = (no_value given.manager_value asks.0.0, no_value given.pages_value asks.0.1)

-- what stands behind the command's word gives what the command line gives
behind_gives : (words behind : List Word) (first : Word) (command : Command) (line : IsCommandLine words command) → words ≡ first ∷ behind → Gives behind line.given
behind_gives words behind first command line e = subst (λ (ws : List Word). Gives ws line.given) (same_tail (sym line.begins ∙ e)) line.gives

-- the words behind the command's word can be read
pub readable : (words behind : List Word) (first : Word) (command : Command) → IsCommandLine words command → words ≡ first ∷ behind → IsReadable behind
readable words behind first command line e = record {
  given = line.given;
  gives = behind_gives words behind first command line e;
  manager_plain = (plain_values command line.given line.asks).0;
  pages_plain = (plain_values command line.given line.asks).1;
  few = few_names command line.given line.asks;
}

-- what is read of a command line asks for its command
pub record AsksAgain (behind : List Word) (first : Word) (command : Command) (read : Given) : Type 0 where
  pub gives : Gives behind read
  pub asks : AsksBy first read command

pub asks_again : (words behind : List Word) (first : Word) (command : Command) (read : Given) → IsCommandLine words command → words ≡ first ∷ behind
    → ((given : Given) → Gives behind given → IsPlainValue given.manager_value → IsPlainValue given.pages_value → read ≡ given)
    → AsksAgain behind first command read
asks_again words behind first command read line e is =
    let gives : Gives behind line.given = behind_gives words behind first command line e in
    let plain : IsPlainValue line.given.manager_value × IsPlainValue line.given.pages_value = plain_values command line.given line.asks in
    let same : read ≡ line.given = is line.given gives plain.0 plain.1 in
    let P : Given → Type 0 = λ g. Gives behind g in
    let Q : Given → Type 0 = λ g. Asks command g in
    record {
      gives = subst P (sym same) gives;
      asks = (same_head (sym e ∙ line.begins), subst Q (sym same) line.asks);
    }

-- words that begin so, with what they give, are a command line
pub line_of : (words behind : List Word) (first : Word) (given : Given) (command : Command) → words ≡ first ∷ behind → Gives behind given → AsksBy first given command → IsCommandLine words command
line_of words behind first given command e gives asks = record {
  given = given;
  behind = behind;
  begins = e ∙ ap (λ w. w ∷ behind) asks.0;
  gives = gives;
  asks = asks.1;
}

pages_within : (o : Option Word) (n : ℕ) → ArePagesOf o n → (1 ≤ n) × (n ≤ 16384)
pages_within None n is = (omega arith, omega arith)
pages_within (Some v) n (_, least, most) = (least, most)

-- what is right for a command is within its limits
pub within_limits : (command : Command) (given : Given) → Asks command given → IsWithinLimits command
within_limits (replay settings schema schedule clients) given (has, _, _, few) =
    let pages = pages_within given.pages_value settings.pages has.1 in (pages.0, pages.1, few)
within_limits (run settings schema clients) given (has, _, _, few) =
    let pages = pages_within given.pages_value settings.pages has.1 in (pages.0, pages.1, few)
within_limits (audit schema report) given asks = tt
within_limits (check schema) given asks = tt
within_limits (job seed with_threads) given asks = tt

-- a command line has a word
pub some_word : (words : List Word) (command : Command) → IsCommandLine words command → words ≡ [] → ⊥
some_word words command line none = let never : word_of command ∷ line.behind ≡ [] = sym line.begins ∙ none in absurd (omega (arith, ap length never))

same_manager_word : (m n : Manager) → word_of_manager m ≡ word_of_manager n → m ≡ n
same_manager_word Mursiw Mursiw e = refl
same_manager_word Mvcc Mvcc e = refl
same_manager_word Mursiw Mvcc e = absurd (omega (arith, ap length e))
same_manager_word Mvcc Mursiw e = absurd (omega (arith, ap length e))

one_manager : (o : Option Word) (m n : Manager) → IsManagerOf o m → IsManagerOf o n → m ≡ n
one_manager None m n a b = a ∙ sym b
one_manager (Some v) m n a b = same_manager_word m n (sym a ∙ b)

one_count : (o : Option Word) (m n : ℕ) → ArePagesOf o m → ArePagesOf o n → m ≡ n
one_count None m n a b = a ∙ sym b
one_count (Some v) m n ((_, a), _, _) ((_, b), _, _) = sym a ∙ b

-- settings of their two parts
settings_from : Manager → ℕ → Settings
settings_from m p = record { manager = m; pages = p }

one_settings : (s t : Settings) (given : Given) → HasSettings s given → HasSettings t given → s ≡ t
unfolding settings_from
one_settings s t given (a, b) (c, d) =
    let m : s.manager ≡ t.manager = one_manager given.manager_value s.manager t.manager a c in
    let p : s.pages ≡ t.pages = one_count given.pages_value s.pages t.pages b d in
    ap (λ x. settings_from x s.pages) m ∙ ap (λ x. settings_from t.manager x) p

-- what is given asks for one command
asks_one : (c d : Command) (given : Given) → slice_index (word_of c) 2 ≡ slice_index (word_of d) 2
    → Asks c given → Asks d given → c ≡ d
asks_one (replay s a b cs) (replay t a' b' cs') given e (x, _, f, _) (y, _, g, _) =
    let h : s ≡ t = one_settings s t given x y in
    let n : a ∷ b ∷ cs ≡ a' ∷ b' ∷ cs' = sym f ∙ g in cc
asks_one (run s a cs) (run t a' cs') given e (x, _, f, _) (y, _, g, _) =
    let h : s ≡ t = one_settings s t given x y in
    let n : a ∷ cs ≡ a' ∷ cs' = sym f ∙ g in cc
asks_one (audit a b) (audit a' b') given e (_, _, f) (_, _, g) =
    let n : a ∷ b ∷ [] ≡ a' ∷ b' ∷ [] = sym f ∙ g in cc
asks_one (check a) (check a') given e (_, _, f) (_, _, g) =
    let n : a ∷ [] ≡ a' ∷ [] = sym f ∙ g in cc
asks_one (job m t) (job n u) given e (_, a, v, f, (_, x), _) (_, b, w, g, (_, y), _) =
    let h : v ∷ [] ≡ w ∷ [] = sym f ∙ g in
    let s : v ≡ w = same_head h in cc
asks_one c d given e a b = absurd (omega arith)

-- the words of a command line ask for one command
pub one_line : (words : List Word) (c d : Command) → IsCommandLine words c → IsCommandLine words d → c ≡ d
one_line words c d x y =
    let heads : word_of c ∷ x.behind ≡ word_of d ∷ y.behind = sym x.begins ∙ y.begins in
    let P : List Word → Type 0 = λ ws. Gives ws x.given in
    let same : x.given ≡ y.given = one_given y.behind x.given y.given (subst P (same_tail heads) x.gives) y.gives in
    let Q : Given → Type 0 = λ g. Asks c g in
    asks_one c d y.given (ap (λ w. slice_index w 2) (same_head heads)) (subst Q same x.asks) y.asks

-- no command line where nothing is given
pub no_given : (words behind : List Word) (first : Word) → words ≡ first ∷ behind
    → ((given : Given) → Gives behind given → length given.names ≤ 18 → ⊥)
    → (command : Command) → IsCommandLine words command → ⊥
no_given words behind first e none command line =
    let P : List Word → Type 0 = λ ws. Gives ws line.given in
    none line.given (subst P (same_tail (sym line.begins ∙ e)) line.gives) (few_names command line.given line.asks)

-- nor where what is given asks for nothing
pub no_command : (words behind : List Word) (first : Word) (given : Given) → words ≡ first ∷ behind
    → Gives behind given → ((command : Command) → AsksBy first given command → ⊥)
    → (command : Command) → IsCommandLine words command → ⊥
no_command words behind first given e gives none command line =
    let P : List Word → Type 0 = λ ws. Gives ws line.given in
    let same : line.given ≡ given =
    one_given behind line.given given (subst P (same_tail (sym line.begins ∙ e)) line.gives) gives in
    let Q : Given → Type 0 = λ g. Asks command g in
    none command (same_head (sym e ∙ line.begins), subst Q same line.asks)
