-- The walk over the parts of a command line.
use Rattle.std.proofs.Common.{◌≡◌, ◌&&◌, not, ◌||◌, Bool, true, false, List, [], ◌∷◌, ◌++◌, Option, Some, None, inl, inr, refl, sym, ap, ap₂, ◌∙◌, subst, codes}
use Rattle.std.specs.Prelude.{fold}
use Rattle.clap.specs.Walk.{Row, Text, Walk, Waiting, idle, option, positional, used, settled_rows, walked, has_row}
use Rattle.clap.specs.Takes.{turn_passes, walk_passes, settle_passes}
use Rattle.rdb_words.specs.Grammar.{Word, Part, manager, pages, threads, name, IsPlain, BeginsWith, BeginsWithAll}
use Rattle.rdb_words.specs.SimpleCommand.{the_shape, rules, manager_arg, pages_arg, threads_arg, name_arg, kept, state, IsFree, use_of, applied, Fits, AllFit, Stands, Goes}
use Rattle.rdb_words.proofs.Steps.{name_walks, name_turns, manager_walks, manager_turns, manager_value_walks, manager_value_turns, manager_is_walks, manager_is_turns, pages_walks, pages_turns, pages_value_walks, pages_value_turns, pages_is_walks, pages_is_turns, threads_walks, threads_turns}

-- one word more passes
pub one_passes : (w next : Walk) (word : Word) (rest : List Word) → walked rules [] w word ≡ next → turn_passes the_shape [] w word ≡ true
    → walk_passes the_shape [] w (word ∷ rest) ≡ walk_passes the_shape [] next rest
unfolding walk_passes
one_passes w next word rest walks turns = ap₂ (λ (b : Bool) (n : Walk). b && walk_passes the_shape [] n rest) turns walks

pub one_walks : (w next : Walk) (word : Word) (rest : List Word) → walked rules [] w word ≡ next → fold (walked rules []) w (word ∷ rest) ≡ fold (walked rules []) next rest
one_walks w next word rest walks = ap (λ (n : Walk). fold (walked rules []) n rest) walks

-- a value that is used now passes later
fresh_passes : (c : Bool) → c ≡ false → ((not c || false) && true) ≡ true
fresh_passes c e = ap (λ (x : Bool). (not x || false) && true) e

module _ (before : List Row) (pending : Option (Text × List Text)) (waiting : Waiting) (free : IsFree waiting) (rows : List Row) (settles : settled_rows rules pending before ≡ rows)
    (passes : settle_passes rules false (kept before pending) ≡ true) (rest : List Word) where
  abbrev w : Walk
  w = state before pending waiting false

  goes_by : (next : Walk) (word : Word) (left : List Word) (later : List Row) → walked rules [] w word ≡ next → turn_passes the_shape [] w word ≡ true → Stands false next later
      → Goes false w (word ∷ left) left later
  goes_by next word left later walks turns stands = record {
    next = next;
    walks = one_walks w next word left walks;
    tests = one_passes w next word left walks turns;
    stands = stands;
  }

  name_goes : (word : Word) → IsPlain word → Goes false w (word ∷ rest) rest (used name_arg (word ∷ []) rows)
  name_goes word plain = goes_by _ word rest _ (name_walks before pending waiting word free plain) (name_turns before pending waiting word free plain passes) (record {
    before = settled_rows rules pending before;
    pending = Some (codes "name", word ∷ []);
    waiting = positional;
    is = refl;
    free = tt;
    settles = ap (used name_arg (word ∷ [])) settles;
    passes = refl;
  })

  threads_goes : has_row (codes "threads") rows ≡ false → Goes false w (codes "--threads" ∷ rest) rest (used threads_arg [] rows)
  threads_goes fresh = goes_by _ (codes "--threads") rest _ (threads_walks before pending waiting free)
      (threads_turns before pending waiting free passes (subst (λ (r : List Row). has_row (codes "threads") r ≡ false) (sym settles) fresh)) (record {
        before = used threads_arg [] (settled_rows rules pending before);
        pending = None;
        waiting = idle;
        is = refl;
        free = tt;
        settles = ap (used threads_arg []) settles;
        passes = refl;
      })

  manager_is_goes : (word : Word) → has_row (codes "manager") rows ≡ false → Goes false w ((codes "--manager" ++ codes "=" ++ word) ∷ rest) rest (used manager_arg (word ∷ []) rows)
  manager_is_goes word fresh = goes_by _ (codes "--manager" ++ codes "=" ++ word) rest _ (manager_is_walks before pending waiting word free)
      (manager_is_turns before pending waiting word free passes (subst (λ (r : List Row). has_row (codes "manager") r ≡ false) (sym settles) fresh)) (record {
        before = used manager_arg (word ∷ []) (settled_rows rules pending before);
        pending = None;
        waiting = idle;
        is = refl;
        free = tt;
        settles = ap (used manager_arg (word ∷ [])) settles;
        passes = refl;
      })

  manager_goes : (word : Word) → IsPlain word → has_row (codes "manager") rows ≡ false → Goes false w (codes "--manager" ∷ word ∷ rest) rest (used manager_arg (word ∷ []) rows)
  manager_goes word plain fresh =
      let between = state (settled_rows rules pending before) (Some (codes "manager", [])) (option (codes "manager")) false in
      let next = state (settled_rows rules pending before) (Some (codes "manager", word ∷ [])) idle false in
      let first = manager_walks before pending waiting free in
      let second = manager_value_walks (settled_rows rules pending before) word plain in
      record {
        next = next;
        walks = one_walks w between (codes "--manager") (word ∷ rest) first ∙ one_walks between next word rest second;
        tests = one_passes w between (codes "--manager") (word ∷ rest) first (manager_turns before pending waiting free passes)
            ∙ one_passes between next word rest second (manager_value_turns (settled_rows rules pending before) word plain);
        stands = record {
          before = settled_rows rules pending before;
          pending = Some (codes "manager", word ∷ []);
          waiting = idle;
          is = refl;
          free = tt;
          settles = ap (used manager_arg (word ∷ [])) settles;
          passes = fresh_passes (has_row (codes "manager") (settled_rows rules pending before)) (subst (λ (r : List Row). has_row (codes "manager") r ≡ false) (sym settles) fresh);
        };
      }

  pages_is_goes : (word : Word) → has_row (codes "pages") rows ≡ false → Goes false w ((codes "--pages" ++ codes "=" ++ word) ∷ rest) rest (used pages_arg (word ∷ []) rows)
  pages_is_goes word fresh = goes_by _ (codes "--pages" ++ codes "=" ++ word) rest _ (pages_is_walks before pending waiting word free)
      (pages_is_turns before pending waiting word free passes (subst (λ (r : List Row). has_row (codes "pages") r ≡ false) (sym settles) fresh)) (record {
        before = used pages_arg (word ∷ []) (settled_rows rules pending before);
        pending = None;
        waiting = idle;
        is = refl;
        free = tt;
        settles = ap (used pages_arg (word ∷ [])) settles;
        passes = refl;
      })

  pages_goes : (word : Word) → IsPlain word → has_row (codes "pages") rows ≡ false → Goes false w (codes "--pages" ∷ word ∷ rest) rest (used pages_arg (word ∷ []) rows)
  pages_goes word plain fresh =
      let between = state (settled_rows rules pending before) (Some (codes "pages", [])) (option (codes "pages")) false in
      let next = state (settled_rows rules pending before) (Some (codes "pages", word ∷ [])) idle false in
      let first = pages_walks before pending waiting free in
      let second = pages_value_walks (settled_rows rules pending before) word plain in
      record {
        next = next;
        walks = one_walks w between (codes "--pages") (word ∷ rest) first ∙ one_walks between next word rest second;
        tests = one_passes w between (codes "--pages") (word ∷ rest) first (pages_turns before pending waiting free passes)
            ∙ one_passes between next word rest second (pages_value_turns (settled_rows rules pending before) word plain);
        stands = record {
          before = settled_rows rules pending before;
          pending = Some (codes "pages", word ∷ []);
          waiting = idle;
          is = refl;
          free = tt;
          settles = ap (used pages_arg (word ∷ [])) settles;
          passes = fresh_passes (has_row (codes "pages") (settled_rows rules pending before)) (subst (λ (r : List Row). has_row (codes "pages") r ≡ false) (sym settles) fresh);
        };
      }

  -- one part
  at_state : (part : Part) (words : List Word) → BeginsWith part words rest → Fits part rows → Goes false w words rest (use_of part rows)
  at_state (manager value) words (inl is) (fresh, plain) = subst (λ (ws : List Word). Goes false w ws rest (used manager_arg (value ∷ []) rows)) (sym is) (manager_goes value plain fresh)
  at_state (manager value) words (inr is) (fresh, plain) = subst (λ (ws : List Word). Goes false w ws rest (used manager_arg (value ∷ []) rows)) (sym is) (manager_is_goes value fresh)
  at_state (pages value) words (inl is) (fresh, plain) = subst (λ (ws : List Word). Goes false w ws rest (used pages_arg (value ∷ []) rows)) (sym is) (pages_goes value plain fresh)
  at_state (pages value) words (inr is) (fresh, plain) = subst (λ (ws : List Word). Goes false w ws rest (used pages_arg (value ∷ []) rows)) (sym is) (pages_is_goes value fresh)
  at_state threads words is fresh = subst (λ (ws : List Word). Goes false w ws rest (used threads_arg [] rows)) (sym is) (threads_goes fresh)
  at_state (name word) words (is, plain) fits = subst (λ (ws : List Word). Goes false w ws rest (used name_arg (word ∷ []) rows)) (sym is) (name_goes word plain)

part_goes : (part : Part) (words rest : List Word) (w : Walk) (rows : List Row) → BeginsWith part words rest → Stands false w rows → Fits part rows → Goes false w words rest (use_of part rows)
part_goes part words rest w rows begins s fits =
    subst (λ (v : Walk). Goes false v words rest (use_of part rows)) (sym s.is)
    (at_state s.before s.pending s.waiting s.free rows s.settles s.passes rest part words begins fits)

pub parts_go : (parts : List Part) (words rest : List Word) (w : Walk) (rows : List Row) → BeginsWithAll parts words rest → Stands false w rows → AllFit parts rows → Goes false w words rest (applied rows parts)
parts_go [] words rest w rows is s fits = record {
  next = w;
  walks = ap (fold (walked rules []) w) is;
  tests = ap (walk_passes the_shape [] w) is;
  stands = s;
}
parts_go (part ∷ parts) words rest w rows (between, first, others) s (fit, fits) =
    let one = part_goes part words between w rows first s fit in
    let more = parts_go parts between rest one.next (use_of part rows) others one.stands fits in
    record { next = more.next; walks = one.walks ∙ more.walks; tests = one.tests ∙ more.tests; stands = more.stands }
