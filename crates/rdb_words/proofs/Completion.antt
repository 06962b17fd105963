-- What the reader of the arguments keeps, and that words mean one command.
use Rattle.std.proofs.Common.{◌≡◌, ◌+◌, ◌≤◌, ◌<◌, Bool, true, false, List, [], ◌∷◌, ◌++◌, length, Option, Some, None, codes, refl, sym, ap, ◌∙◌, inl, inr, subst, arith, length-append}
use Rattle.std.specs.List.{flat_map}
use Rattle.std.specs.Option.{option_to_list}
use Rattle.rdb_words.specs.Grammar.{Word, Part, manager, pages, threads, name, Given, Gives, Adds, BeginsWith, BeginsWithAll, IsEnd, name_in, flag_to_list, with_names}
use Rattle.std.proofs.lemmas.List.{append-nil}
use Rattle.rdb_words.proofs.Parts.{Completes, Goes, goes, step, step_back, no_part, same_head, same_tail}

-- nothing is given yet
abbrev pub nothing : Given
nothing = record { manager_value = None; pages_value = None; with_threads = false; names = [] }

pub starts : (words : List Word) (given : Given) → Gives words given → Completes nothing words given
starts words given g = record {
  parts = g.parts;
  rest = g.rest;
  last_names = g.last_names;
  split = g.split;
  end = g.end;
  managers = g.manager_once;
  pages_values = g.pages_once;
  flags = g.threads_once;
  all_names = g.all_names;
}

pub starts_back : (words : List Word) (given : Given) → Completes nothing words given → Gives words given
starts_back words given c = record {
  parts = c.parts;
  rest = c.rest;
  last_names = c.last_names;
  split = c.split;
  end = c.end;
  manager_once = c.managers;
  pages_once = c.pages_values;
  threads_once = c.flags;
  all_names = c.all_names;
}

-- the words give just what completes what was read with the words that are left
pub record Reads (words : List Word) (so_far : Given) (left : List Word) : Type 0 where
  pub sound : (given : Given) → Completes so_far left given → Gives words given
  pub complete : (given : Given) → Gives words given → Completes so_far left given

pub reads_none : (words : List Word) → Reads words nothing words
reads_none words = record { sound = λ given c. starts_back words given c; complete = λ given g. starts words given g }

pub reads_more : (words left after : List Word) (old new : Given) (part : Part) → Reads words old left
    → BeginsWith part left after → Adds part old new → Reads words new after
reads_more words left after old new part r b a = record {
  sound = λ given c. r.sound given (step_back old new given part left after b a c);
  complete = λ given g. step old new given part left after b a (r.complete given g);
}

-- at the end of the words, all is read
pub completed : (given : Given) → Completes given [] given
completed given = record {
  parts = [];
  rest = [];
  last_names = [];
  split = refl;
  end = inl (refl, refl);
  managers = append-nil _;
  pages_values = append-nil _;
  flags = append-nil _;
  all_names = append-nil _;
}

pub reads_all : (words left : List Word) (given : Given) → Reads words given left → left ≡ [] → Gives words given
reads_all words left given r e =
    let P : List Word → Type 0 = λ ws. Completes given ws given in r.sound given (subst P (sym e) (completed given))

-- at `--`, the names behind it are left
pub completed_by_names : (given : Given) (behind : List Word) → Completes given (codes "--" ∷ behind) (with_names given behind)
completed_by_names given behind = record {
  parts = [];
  rest = codes "--" ∷ behind;
  last_names = behind;
  split = refl;
  end = inr refl;
  managers = append-nil _;
  pages_values = append-nil _;
  flags = append-nil _;
  all_names = refl;
}

pub reads_names : (words left behind : List Word) (first : Word) (so_far new : Given) → Reads words so_far left
    → left ≡ first ∷ behind → first ≡ codes "--" → new ≡ with_names so_far behind → Gives words new
reads_names words left behind first so_far new r e dashes added =
    let P : List Word → Type 0 = λ ws. Completes so_far ws (with_names so_far behind) in
    let Q : Given → Type 0 = λ g. Gives words g in
    subst Q (sym added) (r.sound (with_names so_far behind)
    (subst P (sym (e ∙ ap (λ w. w ∷ behind) dashes)) (completed_by_names so_far behind)))

names_at_end : (so_far given : Given) (behind : List Word) (parts : List Part) (rest last_names : List Word)
    → BeginsWithAll parts (codes "--" ∷ behind) rest → IsEnd rest last_names
    → so_far.names ++ (flat_map name_in parts ++ last_names) ≡ given.names
    → given.names ≡ so_far.names ++ behind
names_at_end so_far given behind [] rest last_names e (inl (end, _)) n =
    let h : codes "--" ∷ behind ≡ [] = e ∙ end in absurd (omega (arith, ap length h))
names_at_end so_far given behind [] rest last_names e (inr end) n =
    sym n ∙ ap (λ x. so_far.names ++ x) (sym (same_tail (e ∙ end)))
names_at_end so_far given behind (part ∷ parts) rest last_names (between, b, _) end n =
    absurd (no_part part (codes "--" ∷ behind) between behind b (inr refl))

pub names_behind : (so_far given : Given) (behind : List Word) → Completes so_far (codes "--" ∷ behind) given
    → given.names ≡ so_far.names ++ behind
names_behind so_far given behind c = names_at_end so_far given behind c.parts c.rest c.last_names c.split c.end c.all_names

-- where there isn't room for them, the words give too many names
pub too_many : (words left behind : List Word) (first : Word) (so_far : Given) → Reads words so_far left
    → left ≡ first ∷ behind → first ≡ codes "--" → 18 < length so_far.names + length behind
    → (given : Given) → Gives words given → length given.names ≤ 18 → ⊥
too_many words left behind first so_far r e dashes many given g few =
    let P : List Word → Type 0 = λ ws. Completes so_far ws given in
    let h : given.names ≡ so_far.names ++ behind =
    names_behind so_far given behind (subst P (e ∙ ap (λ w. w ∷ behind) dashes) (r.complete given g)) in
    omega (arith, ap length h, length-append {A = Word})

-- words that are left begin with a part or are an end
no_more : (words after : List Word) (first : Word) (parts : List Part) (rest last_names : List Word)
    → BeginsWithAll parts words rest → IsEnd rest last_names → words ≡ first ∷ after
    → (first ≡ codes "--" → ⊥) → ((part : Part) (between : List Word) → BeginsWith part words between → ⊥) → ⊥
no_more words after first [] rest last_names e (inl (end, _)) whole a b =
    let h : first ∷ after ≡ [] = sym whole ∙ e ∙ end in absurd (omega (arith, ap length h))
no_more words after first [] rest last_names e (inr end) whole a b = a (same_head (sym whole ∙ e ∙ end))
no_more words after first (part ∷ parts) rest last_names (between, f, _) end whole a b = b part between f

pub reads_no_more : (words left after : List Word) (first : Word) (so_far : Given) → Reads words so_far left
    → left ≡ first ∷ after → (first ≡ codes "--" → ⊥)
    → ((part : Part) (between : List Word) → BeginsWith part left between → ⊥)
    → (given : Given) → Gives words given → length given.names ≤ 18 → ⊥
reads_no_more words left after first so_far r whole a b given g few =
    let c : Completes so_far left given = r.complete given g in
    no_more left after first c.parts c.rest c.last_names c.split c.end whole a b

-- at most one value
once : (o p : Option Word) (v : Word) (more : List Word) → option_to_list o ++ (v ∷ more) ≡ option_to_list p → o ≡ None
once None p v more e = refl
once (Some u) None v more e = absurd (omega (arith, ap length e))
once (Some u) (Some w) v more e = let h : v ∷ more ≡ [] = same_tail e in absurd (omega (arith, ap length h))

once_flag : (o p : Bool) (v : Bool) (more : List Bool) → flag_to_list o ++ (v ∷ more) ≡ flag_to_list p → o ≡ false
once_flag false p v more e = refl
once_flag true true v more e = absurd (omega (arith, ap length e))
once_flag true false v more e = absurd (omega (arith, ap length e))

-- the next part can be added where the words give few enough names
can_add : (so_far given : Given) (part : Part) (words : List Word) → Goes so_far part words given
    → length given.names ≤ 18 → ((new : Given) → Adds part so_far new → length new.names ≤ 18 → ⊥) → ⊥
can_add so_far given (manager v) words g few cannot =
    let free : so_far.manager_value ≡ None = once so_far.manager_value given.manager_value v _ g.managers in
    cannot (record so_far { manager_value = Some v }) (record {
      manager_added = ap (λ o. option_to_list o ++ v ∷ []) (sym free);
      pages_added = sym (append-nil _);
      threads_added = sym (append-nil _);
      names_added = sym (append-nil _);
    })
    (omega (arith, ap length g.all_names, length-append {A = Word}))
can_add so_far given (pages v) words g few cannot =
    let free : so_far.pages_value ≡ None = once so_far.pages_value given.pages_value v _ g.pages_values in
    cannot (record so_far { pages_value = Some v }) (record {
      pages_added = ap (λ o. option_to_list o ++ v ∷ []) (sym free);
      manager_added = sym (append-nil _);
      threads_added = sym (append-nil _);
      names_added = sym (append-nil _);
    })
    (omega (arith, ap length g.all_names, length-append {A = Word}))
can_add so_far given threads words g few cannot =
    let free : so_far.with_threads ≡ false = once_flag so_far.with_threads given.with_threads true _ g.flags in
    cannot (record so_far { with_threads = true }) (record {
      threads_added = ap (λ o. flag_to_list o ++ true ∷ []) (sym free);
      manager_added = sym (append-nil _);
      pages_added = sym (append-nil _);
      names_added = sym (append-nil _);
    })
    (omega (arith, ap length g.all_names, length-append {A = Word}))
can_add so_far given (name w) words g few cannot =
    cannot (record so_far { names = so_far.names ++ w ∷ [] }) (record {
      manager_added = sym (append-nil _);
      pages_added = sym (append-nil _);
      threads_added = sym (append-nil _);
      names_added = refl;
    })
    (omega (arith, ap length g.all_names, length-append {A = Word}))

pub reads_no_room : (words left after : List Word) (so_far : Given) (part : Part) → Reads words so_far left
    → BeginsWith part left after
    → ((new : Given) → Adds part so_far new → length new.names ≤ 18 → ⊥)
    → (given : Given) → Gives words given → length given.names ≤ 18 → ⊥
reads_no_room words left after so_far part r b cannot given g few =
    can_add so_far given part after (goes so_far given part left after b (r.complete given g)) few cannot

-- a part takes a word at least
pub shorter : (part : Part) (words rest : List Word) → BeginsWith part words rest → length rest < length words
shorter (manager v) words rest (inl e) = omega (arith, ap length e)
shorter (manager v) words rest (inr e) = omega (arith, ap length e)
shorter (pages v) words rest (inl e) = omega (arith, ap length e)
shorter (pages v) words rest (inr e) = omega (arith, ap length e)
shorter threads words rest e = omega (arith, ap length e)
shorter (name w) words rest (e, _) = omega (arith, ap length e)
