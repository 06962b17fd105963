-- What clap makes of the words of a command line: it takes them, and has what they give.
use Rattle.std.proofs.Common.{◌≡◌, ◌&&◌, ◌||◌, Bool, true, false, cond, List, [], ◌∷◌, ◌++◌, map, Option, Some, None, inl, inr, refl, sym, ap, ap₂, ◌∙◌, subst, codes, append_assoc}
use Rattle.std.specs.Prelude.{fold, option_map, slice_get, if◌then◌else◌, is_some}
use Rattle.std.specs.List.{list_all}
use Rattle.std.specs.Option.{option_and_then}
use Rattle.std.specs.Str.{bytes_eq}
use Rattle.std.proofs.lemmas.List.{append-nil}
use Rattle.clap.specs.declared.parser.matches.ValueSource.TheVariants.{DefaultValue}
use Rattle.clap.specs.Simple.{built, matches_of, entered}
use Rattle.clap.specs.Takes.{takes, walk_passes, turn_passes, settle_passes, default_passes, is_valid, entered_passes}
use Rattle.clap.specs.Walk.{Row, Rule, Text, Walk, idle, positional, nothing_held, walk_from, finished, settled_rows, used, walked, with_default, with_values, more_values, stronger, has_row, first_of, one_of, all_of, row_text, reading_by}
use Rattle.rdb_words.specs.Grammar.{Word, name, IsEnd, Given, Gives}
use Rattle.rdb_words.specs.SimpleCommand.{manager_arg, pages_arg, threads_arg, name_arg, the_app, the_shape, rules, state, applied, Stands, IsPlainValue, flag_text, names_given, Reads}
use Rattle.rdb_words.proofs.Holding.{Holds, row_of, names_row, holds_name, all_parts}
use Rattle.rdb_words.proofs.Rows.{row_at, no_row, new_row, other_row}
use Rattle.rdb_words.proofs.Steps.{trailing_walks, trailing_turns, dashes_walk, dashes_turn}
use Rattle.rdb_words.proofs.Walks.{one_walks, one_passes, parts_go}

-- ---- the names behind `--`

-- the walk over these words passes and comes to stand so
pub record Comes (behind : Bool) (w : Walk) (words : List Word) (rows : List Row) : Type 0 where
  pub next : Walk
  pub walks : fold (walked rules []) w words ≡ next
  pub tests : walk_passes the_shape [] w words ≡ true
  pub stands : Stands behind next rows

nothing_comes : (behind : Bool) (w : Walk) (rows : List Row) → Stands behind w rows → Comes behind w [] rows
unfolding walk_passes
nothing_comes behind w rows s = record { next = w; walks = refl; tests = refl; stands = s }

one_comes : (behind : Bool) (w next : Walk) (word : Word) (words : List Word) (rows : List Row) → walked rules [] w word ≡ next → turn_passes the_shape [] w word ≡ true → Comes behind next words rows
    → Comes behind w (word ∷ words) rows
one_comes behind w next word words rows walks turns c = record {
  next = c.next;
  walks = one_walks w next word words walks ∙ c.walks;
  tests = one_passes w next word words walks turns ∙ c.tests;
  stands = c.stands;
}

names_come : (names : List Word) (w : Walk) (rows : List Row) → Stands true w rows → Comes true w names (applied rows (map name names))
names_come [] w rows s = nothing_comes true w rows s
names_come (word ∷ names) w rows s =
    subst (λ (v : Walk). Comes true v (word ∷ names) (applied rows (map name (word ∷ names)))) (sym s.is)
    (one_comes true (state s.before s.pending s.waiting true) (state (settled_rows rules s.pending s.before) (Some (codes "name", word ∷ [])) positional true) word names _
    (trailing_walks s.before s.pending s.waiting word) (trailing_turns s.before s.pending s.waiting word s.passes)
    (names_come names _ (used name_arg (word ∷ []) rows) (record {
      before = settled_rows rules s.pending s.before;
      pending = Some (codes "name", word ∷ []);
      waiting = positional;
      is = refl;
      free = tt;
      settles = ap (used name_arg (word ∷ [])) s.settles;
      passes = refl;
    })))

end_comes : (words names : List Word) (w : Walk) (rows : List Row) → IsEnd words names → Stands false w rows → (behind : Bool) × Comes behind w words (applied rows (map name names))
end_comes words names w rows (inl (none, no_names)) s = (
  false,
  subst (λ (ws : List Word). Comes false w ws (applied rows (map name names))) (sym none)
      (subst (λ (ns : List Word). Comes false w [] (applied rows (map name ns))) (sym no_names) (nothing_comes false w rows s)),
)
end_comes words names w rows (inr dashes) s = (
  true,
  subst (λ (ws : List Word). Comes true w ws (applied rows (map name names))) (sym dashes)
      (subst (λ (v : Walk). Comes true v (codes "--" ∷ names) (applied rows (map name names))) (sym s.is)
      (one_comes true (state s.before s.pending s.waiting false) (state s.before s.pending s.waiting true) (codes "--") names _
      (dashes_walk s.before s.pending s.waiting s.free) (dashes_turn s.before s.pending s.waiting s.free)
      (names_come names _ rows (record {
        before = s.before;
        pending = s.pending;
        waiting = s.waiting;
        is = refl;
        free = s.free;
        settles = s.settles;
        passes = s.passes;
      })))),
)

-- ---- defaults

same_either : (b : Bool) (rows : List Row) → (if b then rows else rows) ≡ rows
same_either true rows = refl
same_either false rows = refl

-- only the flag has one
one_default : (rows : List Row) → fold with_default rows rules ≡ with_default rows threads_arg
one_default rows =
    ap (λ (x : List Row). with_default (with_default (with_default x pages_arg) threads_arg) name_arg) (same_either (has_row (codes "manager") rows) rows)
    ∙ ap (λ (x : List Row). with_default (with_default x threads_arg) name_arg) (same_either (has_row (codes "pages") rows) rows)
    ∙ same_either (has_row (codes "name") (with_default rows threads_arg)) (with_default rows threads_arg)

some_row : (id : Text) (rows : List Row) (r : Row) → row_at id rows ≡ Some r → has_row id rows ≡ true
some_row id [] r is = let never : None ≡ Some r = is in absurd (cc)
some_row id (x ∷ xs) r is = by_test (bytes_eq x.id id) refl is (some_row id xs r)
  where
    by_test : (b : Bool) → bytes_eq x.id id ≡ b → cond b (Some x) (row_at id xs) ≡ Some r → (row_at id xs ≡ Some r → has_row id xs ≡ true) → (bytes_eq x.id id || has_row id xs) ≡ true
    by_test true e h rest = ap (λ (y : Bool). y || has_row id xs) e
    by_test false e h rest = ap (λ (y : Bool). y || has_row id xs) e ∙ rest h

-- what the getters read
record Found (rows : List Row) (m p : Option Word) (t : Bool) (ns : List Word) : Type 0 where
  pub manager_is : first_of (codes "manager") rows ≡ m
  pub pages_is : first_of (codes "pages") rows ≡ p
  pub threads_is : one_of (codes "threads") rows ≡ Some (flag_text t)
  pub names_is : all_of (codes "name") rows ≡ names_given ns

first_value : (a : Rule) (m : Option Word) → option_and_then (λ (r : Row). slice_get r.values 0) (option_map (λ v. row_of a (v ∷ [])) m) ≡ m
first_value a None = refl
first_value a (Some v) = refl

names_values : (ns : List Word) → option_map (λ (r : Row). r.values) (names_row ns) ≡ names_given ns
names_values [] = refl
names_values (n ∷ ns) = refl

abbrev unset : List Text
unset = codes "false" ∷ []

abbrev default_row : Row
default_row = record { id = codes "threads"; values = unset; count = None; source = Some DefaultValue; reading = reading_by threads_arg }

abbrev default_more : Row → Row
default_more r = record r { values = r.values ++ unset; source = Some (stronger r.source DefaultValue) }

module _ (rows : List Row) (m p : Option Word) (ns : List Word) where
  found : (t : Bool) → Holds rows m p t ns → Found (with_default rows threads_arg) m p t ns
  found true holds =
      let same : with_default rows threads_arg ≡ rows = ap (λ (b : Bool). if b then rows else with_values (codes "threads") (reading_by threads_arg) DefaultValue unset rows)
      (some_row (codes "threads") rows _ holds.threads_row) in
      record {
        manager_is = ap (first_of (codes "manager")) same ∙ ap (option_and_then (λ (r : Row). slice_get r.values 0)) holds.manager_row ∙ first_value manager_arg m;
        pages_is = ap (first_of (codes "pages")) same ∙ ap (option_and_then (λ (r : Row). slice_get r.values 0)) holds.pages_row ∙ first_value pages_arg p;
        threads_is = ap (one_of (codes "threads")) same ∙ ap (option_and_then row_text) holds.threads_row;
        names_is = ap (all_of (codes "name")) same ∙ ap (option_map (λ (r : Row). r.values)) holds.names_row_is ∙ names_values ns;
      }
  found false holds =
      let same : with_default rows threads_arg ≡ with_values (codes "threads") (reading_by threads_arg) DefaultValue unset rows =
      ap (λ (b : Bool). if b then rows else with_values (codes "threads") (reading_by threads_arg) DefaultValue unset rows) (no_row (codes "threads") rows holds.threads_row) in
      let away = λ (id : Text) (e : bytes_eq (codes "threads") id ≡ false). other_row (codes "threads") id default_more default_row rows e e (λ r. refl) in
      record {
        manager_is = ap (first_of (codes "manager")) same ∙ ap (option_and_then (λ (r : Row). slice_get r.values 0)) (away (codes "manager") refl ∙ holds.manager_row) ∙ first_value manager_arg m;
        pages_is = ap (first_of (codes "pages")) same ∙ ap (option_and_then (λ (r : Row). slice_get r.values 0)) (away (codes "pages") refl ∙ holds.pages_row) ∙ first_value pages_arg p;
        threads_is = ap (one_of (codes "threads")) same ∙ ap (option_and_then row_text) (new_row (codes "threads") (more_values DefaultValue unset) default_row rows holds.threads_row refl);
        names_is = ap (all_of (codes "name")) same ∙ ap (option_map (λ (r : Row). r.values)) (away (codes "name") refl ∙ holds.names_row_is) ∙ names_values ns;
      }

-- ---- the whole

names_hold : (names : List Word) (rows : List Row) (m p : Option Word) (t : Bool) (ns : List Word) → Holds rows m p t ns → Holds (applied rows (map name names)) m p t (ns ++ names)
names_hold [] rows m p t ns holds = subst (Holds rows m p t) (sym (append-nil ns)) holds
names_hold (word ∷ names) rows m p t ns holds =
    subst (Holds (applied rows (map name (word ∷ names))) m p t) (append_assoc ns (word ∷ []) names)
    (names_hold names (used name_arg (word ∷ []) rows) m p t (ns ++ word ∷ []) (holds_name rows m p t ns holds word))

begins : Stands false (walk_from nothing_held) []
begins = record { before = []; pending = None; waiting = idle; is = refl; free = tt; settles = refl; passes = refl }

at_end : (w : Walk) (behind : Bool) (rows : List Row) → Stands behind w rows → (settled_rows rules w.held.pending w.held.rows ≡ rows) × (settle_passes rules false w.held ≡ true) × (w.stopped ≡ None)
at_end w behind rows s =
    let same = sym s.is in (
      subst (λ (v : Walk). settled_rows rules v.held.pending v.held.rows ≡ rows) same s.settles,
      subst (λ (v : Walk). settle_passes rules false v.held ≡ true) same s.passes,
      subst (λ (v : Walk). v.stopped ≡ None) same refl,
    )

-- the words are taken where the walk passes, what is pending passes, and no subcommand was met
taken : (words : List Word) (w : Walk) → fold (walked rules []) (walk_from nothing_held) words ≡ w → walk_passes the_shape [] (walk_from nothing_held) words ≡ true
    → settle_passes rules false w.held ≡ true → w.stopped ≡ None → takes the_app words ≡ true
taken words w walks tests settles stop =
    ap (λ (v : Walk). entered_passes (built the_app) v.stopped && (walk_passes the_shape [] (walk_from nothing_held) words && (settle_passes rules false v.held
    && (list_all default_passes rules && is_valid the_shape (finished rules v.held) (is_some (entered (built the_app) v.stopped)))))) walks
    ∙ ap (λ (o : Option (Text × List Text)). entered_passes (built the_app) o && (walk_passes the_shape [] (walk_from nothing_held) words && (settle_passes rules false w.held
    && (list_all default_passes rules && is_valid the_shape (finished rules w.held) (is_some (entered (built the_app) o)))))) stop
    ∙ ap₂ (λ (a b : Bool). a && (b && true)) tests settles

pub read_by_clap : (words : List Word) (given : Given) → Gives words given → IsPlainValue given.manager_value → IsPlainValue given.pages_value → Reads words given
read_by_clap words given g pm pp =
    let done = all_parts g.parts [] None None false [] given pm pp (record { manager_row = refl; pages_row = refl; threads_row = refl; names_row_is = refl })
    (record { manager_left = g.manager_once; pages_left = g.pages_once; threads_left = g.threads_once }) in
    let goes = parts_go g.parts words g.rest (walk_from nothing_held) [] g.split begins done.fit in
    let comes = end_comes g.rest g.last_names goes.next (applied [] g.parts) g.end goes.stands in
    let c = comes.1 in
    let end = at_end c.next comes.0 _ c.stands in
    let walks = goes.walks ∙ c.walks in
    let holds = subst (λ (ns : List Word). Holds (applied (applied [] g.parts) (map name g.last_names)) given.manager_value given.pages_value given.with_threads ns) g.all_names
    (names_hold g.last_names (applied [] g.parts) given.manager_value given.pages_value given.with_threads _ done.holds) in
    let rows_are : matches_of the_app words ≡ with_default (applied (applied [] g.parts) (map name g.last_names)) threads_arg =
    ap (λ (v : Walk). finished rules v.held) walks ∙ ap (λ (rs : List Row). fold with_default rs rules) end.0 ∙ one_default (applied (applied [] g.parts) (map name g.last_names)) in
    let f = found (applied (applied [] g.parts) (map name g.last_names)) given.manager_value given.pages_value given.names given.with_threads holds in
    record {
      taken = taken words c.next walks (goes.tests ∙ c.tests) end.1 end.2;
      manager_is = ap (first_of (codes "manager")) rows_are ∙ f.manager_is;
      pages_is = ap (first_of (codes "pages")) rows_are ∙ f.pages_is;
      threads_is = ap (one_of (codes "threads")) rows_are ∙ f.threads_is;
      names_is = ap (all_of (codes "name")) rows_are ∙ f.names_is;
    }
