-- Where the stories of a journal stand in serial order.
use Rattle.std.proofs.Common.{◌≡◌, ℕ, zero, suc, ◌+◌, ◌<◌, ◌≤◌, List, [], ◌∷◌, ◌++◌, length, take, slice_get, filter_map, Option, Some, None, refl, sym, ap, subst, ◌∙◌, arith}
use Rattle.std.specs.List.{cons_option}
use Rattle.rdb_base.specs.declared.journal.Story.{Story}
use Rattle.rdb_base.specs.declared.journal.Entry.{Entry}
use Rattle.rdb_base.specs.declared.journal.Entry.TheVariants as entry
use Rattle.rdb_model.specs.Journal.{commits}
use Rattle.rdb_model.specs.Serial.{read_at, committed_stories, interleaved}

-- an element that is there, and one that stands before another
abbrev pub IsIn : {X : Type 0} → List X → X → Type 0
IsIn xs x = (i : ℕ) × (slice_get xs i ≡ Some x)

abbrev pub StandsBefore : {X : Type 0} → List X → X → X → Type 0
StandsBefore xs x y = (i j : ℕ) × (i < j) × (slice_get xs i ≡ Some x) × (slice_get xs j ≡ Some y)

get_left : {X : Type 0} (xs ys : List X) (i : ℕ) (x : X) → slice_get xs i ≡ Some x → slice_get (xs ++ ys) i ≡ Some x
get_left [] ys i x e = (cc)
get_left (a ∷ xs) ys zero x e = e
get_left (a ∷ xs) ys (suc i) x e = get_left xs ys i x e

get_right : {X : Type 0} (xs ys : List X) (i : ℕ) (x : X) → slice_get ys i ≡ Some x → slice_get (xs ++ ys) (length xs + i) ≡ Some x
get_right [] ys i x e = let same : 0 + i ≡ i = omega arith in ap (slice_get ys) same ∙ e
get_right (a ∷ xs) ys i x e = let next : suc (length xs) + i ≡ suc (length xs + i) = omega arith in ap (slice_get (a ∷ (xs ++ ys))) next ∙ get_right xs ys i x e

get_within : {X : Type 0} (xs : List X) (i : ℕ) (x : X) → slice_get xs i ≡ Some x → i < length xs
get_within [] i x e = (cc)
get_within (a ∷ xs) zero x e = omega arith
get_within (a ∷ xs) (suc i) x e = let lt = get_within xs i x e in omega arith

in_left : {X : Type 0} (xs ys : List X) (x : X) → IsIn xs x → IsIn (xs ++ ys) x
in_left xs ys x here = (here.0, get_left xs ys here.0 x here.1)

in_right : {X : Type 0} (xs ys : List X) (x : X) → IsIn ys x → IsIn (xs ++ ys) x
in_right xs ys x here = (length xs + here.0, get_right xs ys here.0 x here.1)

before_left : {X : Type 0} (xs ys : List X) (x y : X) → StandsBefore xs x y → StandsBefore (xs ++ ys) x y
before_left xs ys x y b = (b.0, b.1, b.2, get_left xs ys b.0 x b.3, get_left xs ys b.1 y b.4)

before_right : {X : Type 0} (xs ys : List X) (x y : X) → StandsBefore ys x y → StandsBefore (xs ++ ys) x y
before_right xs ys x y b = (length xs + b.0, length xs + b.1, omega (arith, b.2), get_right xs ys b.0 x b.3, get_right xs ys b.1 y b.4)

before_across : {X : Type 0} (xs ys : List X) (x y : X) → IsIn xs x → IsIn ys y → StandsBefore (xs ++ ys) x y
before_across xs ys x y first second =
    let lt = get_within xs first.0 x first.1 in
    (first.0, length xs + second.0, omega arith, get_left xs ys first.0 x first.1, get_right xs ys second.0 y second.1)

-- the place of a filtered element is the number of those before it
pub get_filtered : {X Y : Type 0} (f : X → Option Y) (xs : List X) (i : ℕ) (x : X) (y : Y) → slice_get xs i ≡ Some x → f x ≡ Some y → slice_get (filter_map f xs) (length (filter_map f (take i xs))) ≡ Some y
get_filtered f [] i x y e g = (cc)
get_filtered f (a ∷ xs) zero x y e g =
    let same : f a ≡ Some y = (cc) in
    ap (λ o. slice_get (cons_option o (filter_map f xs)) 0) same
get_filtered {Y = Y} f (a ∷ xs) (suc i) x y e g = go (f a) (get_filtered f xs i x y e g)
  where
    go : (o : Option Y) → slice_get (filter_map f xs) (length (filter_map f (take i xs))) ≡ Some y → slice_get (cons_option o (filter_map f xs)) (length (cons_option o (filter_map f (take i xs)))) ≡ Some y
    go None rest = rest
    go (Some b) rest = rest

-- more elements, more that pass
pub filtered_grows : {X Y : Type 0} (f : X → Option Y) (xs : List X) (i j : ℕ) → i ≤ j → length (filter_map f (take i xs)) ≤ length (filter_map f (take j xs))
filtered_grows f [] zero j le = omega arith
filtered_grows f [] (suc i) j le = omega arith
filtered_grows f (a ∷ xs) zero j le = omega arith
filtered_grows f (a ∷ xs) (suc i) zero le = absurd (omega arith)
filtered_grows {Y = Y} f (a ∷ xs) (suc i) (suc j) le = go (f a) (filtered_grows f xs i j (omega arith))
  where
    go : (o : Option Y) → length (filter_map f (take i xs)) ≤ length (filter_map f (take j xs)) → length (cons_option o (filter_map f (take i xs))) ≤ length (cons_option o (filter_map f (take j xs)))
    go None rest = rest
    go (Some b) rest = omega arith

pub filtered_more : {X Y : Type 0} (f : X → Option Y) (xs : List X) (i j : ℕ) (x : X) (y : Y) → slice_get xs i ≡ Some x → f x ≡ Some y → i < j → length (filter_map f (take i xs)) < length (filter_map f (take j xs))
filtered_more f [] i j x y e g lt = (cc)
filtered_more f (a ∷ xs) i zero x y e g lt = absurd (omega arith)
filtered_more f (a ∷ xs) zero (suc j) x y e g lt =
    let same : f a ≡ Some y = (cc) in
    subst (λ o. 0 < length (cons_option o (filter_map f (take j xs)))) (sym same) (omega arith)
filtered_more {Y = Y} f (a ∷ xs) (suc i) (suc j) x y e g lt = go (f a) (filtered_more f xs i j x y e g (omega arith))
  where
    go : (o : Option Y) → length (filter_map f (take i xs)) < length (filter_map f (take j xs)) → length (cons_option o (filter_map f (take i xs))) < length (cons_option o (filter_map f (take j xs)))
    go None rest = rest
    go (Some b) rest = omega arith

-- the story of a commit
abbrev pub commit_story : Entry → Option Story
commit_story (entry.Commit story commit) = Some story
commit_story _ = None

pub stories_filtered : (es : List Entry) → committed_stories es ≡ filter_map commit_story es
stories_filtered [] = refl
stories_filtered (entry.Commit story commit ∷ es) = ap (λ l. story ∷ l) (stories_filtered es)
stories_filtered (entry.Read story ∷ es) = stories_filtered es
stories_filtered (entry.Abort story cause ∷ es) = stories_filtered es
stories_filtered (entry.Handled client by at finished ∷ es) = stories_filtered es
stories_filtered (entry.Closed client ∷ es) = stories_filtered es

pub commits_filtered : (es : List Entry) → commits es ≡ length (filter_map commit_story es)
commits_filtered [] = refl
commits_filtered (entry.Commit story commit ∷ es) = ap suc (commits_filtered es)
commits_filtered (entry.Read story ∷ es) = commits_filtered es
commits_filtered (entry.Abort story cause ∷ es) = commits_filtered es
commits_filtered (entry.Handled client by at finished ∷ es) = commits_filtered es
commits_filtered (entry.Closed client ∷ es) = commits_filtered es

module _ (journal : List Entry) where
  -- the reads that see n commits
  abbrev pub block : ℕ → List Story
  block n = filter_map (read_at n) journal

  -- a read stands among those that see what it sees, a commit's story after those that see what came before it
  in_block : (stories : List Story) (n m : ℕ) (x : Story) → m ≤ length stories → IsIn (block (n + m)) x → IsIn (interleaved journal n stories) x
  in_block [] n m x le here = let same : n + m ≡ n = omega arith in subst (λ k. IsIn (block k) x) same here
  in_block (s ∷ ss) n zero x le here = let same : n + 0 ≡ n = omega arith in in_left (block n) (s ∷ interleaved journal (n + 1) ss) x (subst (λ k. IsIn (block k) x) same here)
  in_block (s ∷ ss) n (suc m) x le here =
      let same : n + suc m ≡ n + 1 + m = omega arith in
      in_right (block n) (s ∷ interleaved journal (n + 1) ss) x (in_right (s ∷ []) (interleaved journal (n + 1) ss) x (in_block ss (n + 1) m x (omega arith) (subst (λ k. IsIn (block k) x) same here)))

  in_stories : (stories : List Story) (n m : ℕ) (x : Story) → slice_get stories m ≡ Some x → IsIn (interleaved journal n stories) x
  in_stories [] n m x e = (cc)
  in_stories (s ∷ ss) n zero x e = in_right (block n) (s ∷ interleaved journal (n + 1) ss) x (0, e)
  in_stories (s ∷ ss) n (suc m) x e = in_right (block n) (s ∷ interleaved journal (n + 1) ss) x (in_right (s ∷ []) (interleaved journal (n + 1) ss) x (in_stories ss (n + 1) m x e))

  -- what stands before what
  pub read_read : (stories : List Story) (n m k : ℕ) (x y : Story) → m < k → k ≤ length stories → IsIn (block (n + m)) x → IsIn (block (n + k)) y → StandsBefore (interleaved journal n stories) x y
  read_read [] n m k x y lt le first second = absurd (omega arith)
  read_read (s ∷ ss) n m zero x y lt le first second = absurd (omega arith)
  read_read (s ∷ ss) n zero (suc k) x y lt le first second =
      let same : n + 0 ≡ n = omega arith in
      let next : n + suc k ≡ n + 1 + k = omega arith in
      before_across (block n) (s ∷ interleaved journal (n + 1) ss) x y (subst (λ k. IsIn (block k) x) same first)
      (in_right (s ∷ []) (interleaved journal (n + 1) ss) y (in_block ss (n + 1) k y (omega arith) (subst (λ k. IsIn (block k) y) next second)))
  read_read (s ∷ ss) n (suc m) (suc k) x y lt le first second =
      let same : n + suc m ≡ n + 1 + m = omega arith in
      let next : n + suc k ≡ n + 1 + k = omega arith in
      before_right (block n) (s ∷ interleaved journal (n + 1) ss) x y (before_right (s ∷ []) (interleaved journal (n + 1) ss) x y
      (read_read ss (n + 1) m k x y (omega arith) (omega arith) (subst (λ k. IsIn (block k) x) same first) (subst (λ k. IsIn (block k) y) next second)))

  pub same_block : (stories : List Story) (n m : ℕ) (x y : Story) → m ≤ length stories → StandsBefore (block (n + m)) x y → StandsBefore (interleaved journal n stories) x y
  same_block [] n m x y le b = let same : n + m ≡ n = omega arith in subst (λ k. StandsBefore (block k) x y) same b
  same_block (s ∷ ss) n zero x y le b = let same : n + 0 ≡ n = omega arith in before_left (block n) (s ∷ interleaved journal (n + 1) ss) x y (subst (λ k. StandsBefore (block k) x y) same b)
  same_block (s ∷ ss) n (suc m) x y le b =
      let same : n + suc m ≡ n + 1 + m = omega arith in
      before_right (block n) (s ∷ interleaved journal (n + 1) ss) x y (before_right (s ∷ []) (interleaved journal (n + 1) ss) x y (same_block ss (n + 1) m x y (omega arith) (subst (λ k. StandsBefore (block k) x y) same b)))

  pub read_commit : (stories : List Story) (n m k : ℕ) (x y : Story) → m ≤ k → IsIn (block (n + m)) x → slice_get stories k ≡ Some y → StandsBefore (interleaved journal n stories) x y
  read_commit [] n m k x y le first second = (cc)
  read_commit (s ∷ ss) n zero k x y le first second =
      let same : n + 0 ≡ n = omega arith in
      before_across (block n) (s ∷ interleaved journal (n + 1) ss) x y (subst (λ k. IsIn (block k) x) same first) (in_rest k second)
    where
      in_rest : (k : ℕ) → slice_get (s ∷ ss) k ≡ Some y → IsIn (s ∷ interleaved journal (n + 1) ss) y
      in_rest zero e = (0, e)
      in_rest (suc k) e = in_right (s ∷ []) (interleaved journal (n + 1) ss) y (in_stories ss (n + 1) k y e)
  read_commit (s ∷ ss) n (suc m) zero x y le first second = absurd (omega arith)
  read_commit (s ∷ ss) n (suc m) (suc k) x y le first second =
      let same : n + suc m ≡ n + 1 + m = omega arith in
      before_right (block n) (s ∷ interleaved journal (n + 1) ss) x y (before_right (s ∷ []) (interleaved journal (n + 1) ss) x y
      (read_commit ss (n + 1) m k x y (omega arith) (subst (λ k. IsIn (block k) x) same first) second))

  pub commit_read : (stories : List Story) (n m k : ℕ) (x y : Story) → m < k → k ≤ length stories → slice_get stories m ≡ Some x → IsIn (block (n + k)) y → StandsBefore (interleaved journal n stories) x y
  commit_read [] n m k x y lt le first second = absurd (omega arith)
  commit_read (s ∷ ss) n m zero x y lt le first second = absurd (omega arith)
  commit_read (s ∷ ss) n zero (suc k) x y lt le first second =
      let next : n + suc k ≡ n + 1 + k = omega arith in
      before_right (block n) (s ∷ interleaved journal (n + 1) ss) x y (before_across (s ∷ []) (interleaved journal (n + 1) ss) x y (0, first) (in_block ss (n + 1) k y (omega arith) (subst (λ k. IsIn (block k) y) next second)))
  commit_read (s ∷ ss) n (suc m) (suc k) x y lt le first second =
      let next : n + suc k ≡ n + 1 + k = omega arith in
      before_right (block n) (s ∷ interleaved journal (n + 1) ss) x y (before_right (s ∷ []) (interleaved journal (n + 1) ss) x y
      (commit_read ss (n + 1) m k x y (omega arith) (omega arith) first (subst (λ k. IsIn (block k) y) next second)))

  pub commit_commit : (stories : List Story) (n m k : ℕ) (x y : Story) → m < k → slice_get stories m ≡ Some x → slice_get stories k ≡ Some y → StandsBefore (interleaved journal n stories) x y
  commit_commit [] n m k x y lt first second = (cc)
  commit_commit (s ∷ ss) n m zero x y lt first second = absurd (omega arith)
  commit_commit (s ∷ ss) n zero (suc k) x y lt first second =
      before_right (block n) (s ∷ interleaved journal (n + 1) ss) x y (before_across (s ∷ []) (interleaved journal (n + 1) ss) x y (0, first) (in_stories ss (n + 1) k y second))
  commit_commit (s ∷ ss) n (suc m) (suc k) x y lt first second =
      before_right (block n) (s ∷ interleaved journal (n + 1) ss) x y (before_right (s ∷ []) (interleaved journal (n + 1) ss) x y (commit_commit ss (n + 1) m k x y (omega arith) first second))
