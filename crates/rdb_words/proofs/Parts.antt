-- Words begin with one part at most, and their parts are told apart from each other and from `--`.
use Rattle.std.proofs.Common.{◌≡◌, ◌≢◌, ℕ, ◌+◌, ◌<◌, List, [], ◌∷◌, ◌++◌, map, length, Option, Some, None, codes, slice_index, IfNone, ◌==◌, if◌then◌else◌, refl, sym, ap, ◌∙◌, inl, inr, subst, arith, append_assoc, length-append}
use Rattle.std.proofs.lemmas.List.{append_cancel_left, append-nil, length-map}
use Rattle.std.specs.List.{flat_map}
use Rattle.std.specs.Option.{option_to_list}
use Rattle.rdb_words.specs.Grammar.{Word, Part, manager, pages, threads, name, Given, Adds, BeginsWithOption, BeginsWith, BeginsWithAll, IsEnd, manager_in, pages_in, threads_in, name_in, flag_to_list}

-- what holds anyhow holds of `None`
pub if_none : {A : Type 0} {P : Type 0} (r : Option A) → P → IfNone r P
if_none None p = p
if_none (Some x) p = tt

-- what follows from a fact of `None`
pub if_none_then : {A : Type 0} {P Q : Type 0} (r : Option A) → IfNone r P → (P → Q) → IfNone r Q
if_none_then None p f = f p
if_none_then (Some x) p f = tt

-- lists have as many elements after a `map`
pub more_mapped : {A C : Type 0} (f : A → Word) (g : C → Word) (xs : List A) (ys : List C) (n : ℕ)
    → n < length xs + length ys → n < length (map f xs) + length (map g ys)
more_mapped f g xs ys n h = simp length-map h

pub none_mapped : {A : Type 0} (f : A → Word) (xs : List A) → length xs ≡ 0 → map f xs ≡ []
none_mapped f [] e = refl
none_mapped f (x ∷ xs) e = absurd (omega arith)

-- the first words of equal lists are equal, and so is what follows them
pub same_head : {a b : Word} {x y : List Word} → a ∷ x ≡ b ∷ y → a ≡ b
same_head e = cc

pub same_tail : {a b : Word} {x y : List Word} → a ∷ x ≡ b ∷ y → x ≡ y
same_tail e = cc

-- the words don't begin with an option that no front of the first word is
pub no_option : (option first : Word) (words after : List Word) → words ≡ first ∷ after
    → ((more : Word) → first ≡ option ++ more → ⊥)
    → (value : Word) (rest : List Word) → BeginsWithOption option value words rest → ⊥
no_option option first words after e lacks value rest (inl b) =
    lacks [] (same_head (sym e ∙ b) ∙ sym (append-nil option))
no_option option first words after e lacks value rest (inr b) =
    lacks (codes "=" ++ value) (same_head (sym e ∙ b) ∙ append_assoc option (codes "=") value)

-- nor with one that something other than `=` follows
pub no_equals : (option first tail : Word) (words after : List Word) → words ≡ first ∷ after
    → first ≡ option ++ tail → (tail ≡ [] → ⊥) → ((more : Word) → tail ≡ 61 ∷ more → ⊥)
    → (value : Word) (rest : List Word) → BeginsWithOption option value words rest → ⊥
no_equals option first tail words after e front filled lacks value rest (inl b) =
    filled (append_cancel_left option tail []
    (sym front ∙ same_head (sym e ∙ b) ∙ sym (append-nil option)))
no_equals option first tail words after e front filled lacks value rest (inr b) =
    lacks value (append_cancel_left option tail (codes "=" ++ value)
    (sym front ∙ same_head (sym e ∙ b) ∙ append_assoc option (codes "=") value))

-- an option has one value there
pub one_value : (option v w : Word) (words x y : List Word)
    → BeginsWithOption option v words x → BeginsWithOption option w words y → (v ≡ w) × (x ≡ y)
one_value option v w words x y (inl a) (inl b) =
    let e : v ∷ x ≡ w ∷ y = same_tail (sym a ∙ b) in (same_head e, same_tail e)
one_value option v w words x y (inl a) (inr b) =
    let e : option ≡ option ++ codes "=" ++ w = same_head (sym a ∙ b) in
    absurd (omega (arith, ap length e, length-append {A = ℕ}))
one_value option v w words x y (inr a) (inl b) =
    let e : option ++ codes "=" ++ v ≡ option = same_head (sym a ∙ b) in
    absurd (omega (arith, ap length e, length-append {A = ℕ}))
one_value option v w words x y (inr a) (inr b) =
    (append_cancel_left (option ++ codes "=") v w (same_head (sym a ∙ b)), same_tail (sym a ∙ b))

-- a number that tells what words begin with
abbrev pub mark_of : List Word → ℕ
mark_of [] = 2
mark_of (word ∷ words) = if slice_index word 0 == 45 then slice_index word 2 else 1

abbrev pub mark : Part → ℕ
mark (manager value) = 109
mark (pages value) = 112
mark threads = 116
mark (name word) = 1

not_dash : (b n : ℕ) → b ≢ 45 → (if b == 45 then n else 1) ≡ 1
not_dash b n plain = grind arith

not_two : (part : Part) → mark part ≡ 2 → ⊥
not_two (manager value) e = omega arith
not_two (pages value) e = omega arith
not_two threads e = omega arith
not_two (name word) e = omega arith

not_zero : (part : Part) → mark part ≡ 0 → ⊥
not_zero (manager value) e = omega arith
not_zero (pages value) e = omega arith
not_zero threads e = omega arith
not_zero (name word) e = omega arith

pub marked : (part : Part) (words rest : List Word) → BeginsWith part words rest → mark_of words ≡ mark part
marked (manager value) words rest (inl e) = ap mark_of e
marked (manager value) words rest (inr e) = ap mark_of e
marked (pages value) words rest (inl e) = ap mark_of e
marked (pages value) words rest (inr e) = ap mark_of e
marked threads words rest e = ap mark_of e
marked (name word) words rest (e, plain) = ap mark_of e ∙ not_dash (slice_index word 0) (slice_index word 2) plain

-- words begin with one part at most
pub one_part : (p q : Part) (words x y : List Word) → BeginsWith p words x → BeginsWith q words y
    → mark p ≡ mark q → (p ≡ q) × (x ≡ y)
one_part (manager v) (manager w) words x y a b e =
    let same : (v ≡ w) × (x ≡ y) = one_value (codes "--manager") v w words x y a b in (ap manager same.0, same.1)
one_part (pages v) (pages w) words x y a b e =
    let same : (v ≡ w) × (x ≡ y) = one_value (codes "--pages") v w words x y a b in (ap pages same.0, same.1)
one_part threads threads words x y a b e = (refl, same_tail (sym a ∙ b))
one_part (name v) (name w) words x y (a, _) (b, _) e = (ap name (same_head (sym a ∙ b)), same_tail (sym a ∙ b))
one_part p q words x y a b e = absurd (omega arith)

-- no part begins at the end of the words, nor at `--`
pub no_part : (part : Part) (words rest last : List Word) → BeginsWith part words rest → IsEnd words last → ⊥
no_part part words rest last b (inl (e, _)) = not_two part (sym (marked part words rest b) ∙ ap mark_of e)
no_part part words rest last b (inr e) = not_zero part (sym (marked part words rest b) ∙ ap mark_of e)

-- a word that begins with `-` and is no option is no part
pub no_first : (words after : List Word) (first : Word) → words ≡ first ∷ after
    → ((value : Word) (rest : List Word) → BeginsWithOption (codes "--manager") value words rest → ⊥)
    → ((value : Word) (rest : List Word) → BeginsWithOption (codes "--pages") value words rest → ⊥)
    → (first ≡ codes "--threads" → ⊥) → slice_index first 0 ≡ 45
    → (part : Part) (rest : List Word) → BeginsWith part words rest → ⊥
no_first words after first e m p t dash (manager v) rest b = m v rest b
no_first words after first e m p t dash (pages v) rest b = p v rest b
no_first words after first e m p t dash threads rest b = t (same_head (sym e ∙ b))
no_first words after first e m p t dash (name w) rest (b, plain) =
    plain (ap (λ v. slice_index v 0) (same_head (sym b ∙ e)) ∙ dash)

-- the words end with what is missing from `so_far` in `given`
pub record Completes (so_far : Given) (words : List Word) (given : Given) : Type 0 where
  pub parts : List Part
  pub rest : List Word
  pub last_names : List Word
  pub split : BeginsWithAll parts words rest
  pub end : IsEnd rest last_names
  pub managers : option_to_list so_far.manager_value ++ flat_map manager_in parts ≡ option_to_list given.manager_value
  pub pages_values : option_to_list so_far.pages_value ++ flat_map pages_in parts ≡ option_to_list given.pages_value
  pub flags : flag_to_list so_far.with_threads ++ flat_map threads_in parts ≡ flag_to_list given.with_threads
  pub all_names : so_far.names ++ (flat_map name_in parts ++ last_names) ≡ given.names

-- the same, where the next part is known
pub record Goes (so_far : Given) (part : Part) (words : List Word) (given : Given) : Type 0 where
  pub parts : List Part
  pub rest : List Word
  pub last_names : List Word
  pub split : BeginsWithAll parts words rest
  pub end : IsEnd rest last_names
  pub managers : option_to_list so_far.manager_value ++ (manager_in part ++ flat_map manager_in parts) ≡ option_to_list given.manager_value
  pub pages_values : option_to_list so_far.pages_value ++ (pages_in part ++ flat_map pages_in parts) ≡ option_to_list given.pages_value
  pub flags : flag_to_list so_far.with_threads ++ (threads_in part ++ flat_map threads_in parts) ≡ flag_to_list given.with_threads
  pub all_names : so_far.names ++ (name_in part ++ flat_map name_in parts ++ last_names) ≡ given.names

goes_by : (so_far given : Given) (part : Part) (words after : List Word) → BeginsWith part words after
    → (parts : List Part) (rest last_names : List Word) → BeginsWithAll parts words rest → IsEnd rest last_names
    → option_to_list so_far.manager_value ++ flat_map manager_in parts ≡ option_to_list given.manager_value
    → option_to_list so_far.pages_value ++ flat_map pages_in parts ≡ option_to_list given.pages_value
    → flag_to_list so_far.with_threads ++ flat_map threads_in parts ≡ flag_to_list given.with_threads
    → so_far.names ++ (flat_map name_in parts ++ last_names) ≡ given.names
    → Goes so_far part after given
goes_by so_far given part words after b [] rest last_names e end m p t n =
    absurd (no_part part words after last_names b (let P : List Word → Type 0 = λ ws. IsEnd ws last_names in subst P (sym e) end))
goes_by so_far given part words after b (q ∷ qs) rest last_names (between, first, others) end m p t n =
    let same : (q ≡ part) × (between ≡ after) =
    one_part q part words between after first b (sym (marked q words between first) ∙ marked part words after b) in
    let P : Part → Type 0 = λ x. Goes so_far x after given in
    let Q : List Word → Type 0 = λ ws. BeginsWithAll qs ws rest in
    subst P same.0 (record {
      parts = qs;
      rest = rest;
      last_names = last_names;
      split = subst Q same.1 others;
      end = end;
      managers = m;
      pages_values = p;
      flags = t;
      all_names = n;
    })

-- the next part is the one that the words begin with
pub goes : (so_far given : Given) (part : Part) (words after : List Word) → BeginsWith part words after
    → Completes so_far words given → Goes so_far part after given
goes so_far given part words after b c =
    goes_by so_far given part words after b c.parts c.rest c.last_names c.split c.end c.managers c.pages_values c.flags c.all_names

-- joined thrice: the middle goes to the front
pub regroup : {A : Type 0} (old new one more whole : List A) → new ≡ old ++ one → old ++ (one ++ more) ≡ whole → new ++ more ≡ whole
regroup old new one more whole e h = ap (λ x. x ++ more) e ∙ append_assoc old one more ∙ h

-- and back
pub ungroup : {A : Type 0} (old new one more whole : List A) → new ≡ old ++ one → new ++ more ≡ whole → old ++ (one ++ more) ≡ whole
ungroup old new one more whole e h = sym (append_assoc old one more) ∙ ap (λ x. x ++ more) (sym e) ∙ h

-- once a part is added, what is missing comes behind it
pub step : (old new given : Given) (part : Part) (words after : List Word) → BeginsWith part words after
    → Adds part old new → Completes old words given → Completes new after given
step old new given part words after b a c =
    let g : Goes old part after given = goes old given part words after b c in
    record {
      parts = g.parts;
      rest = g.rest;
      last_names = g.last_names;
      split = g.split;
      end = g.end;
      managers = regroup _ _ _ _ _ a.manager_added g.managers;
      pages_values = regroup _ _ _ _ _ a.pages_added g.pages_values;
      flags = regroup _ _ _ _ _ a.threads_added g.flags;
      all_names = regroup _ _ _ _ _ a.names_added (ap (λ x. old.names ++ x) (sym (append_assoc (name_in part) (flat_map name_in g.parts) g.last_names)) ∙ g.all_names);
    }

-- and with the part before it
pub step_back : (old new given : Given) (part : Part) (words after : List Word) → BeginsWith part words after
    → Adds part old new → Completes new after given → Completes old words given
step_back old new given part words after b a c =
    record {
      parts = part ∷ c.parts;
      rest = c.rest;
      last_names = c.last_names;
      split = (after, b, c.split);
      end = c.end;
      managers = ungroup _ _ _ _ _ a.manager_added c.managers;
      pages_values = ungroup _ _ _ _ _ a.pages_added c.pages_values;
      flags = ungroup _ _ _ _ _ a.threads_added c.flags;
      all_names = ap (λ x. old.names ++ x) (append_assoc (name_in part) (flat_map name_in c.parts) c.last_names)
          ∙ ungroup _ _ _ _ _ a.names_added c.all_names;
    }
