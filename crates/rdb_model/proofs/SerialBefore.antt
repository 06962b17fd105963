-- What had ended when a transaction of a legal journal began comes before it in serial order.
use Rattle.std.proofs.Common.{◌≡◌, ℕ, ◌+◌, ◌<◌, ◌≤◌, Bool, true, false, ◌&&◌, ◌⊎◌, inl, inr, not, List, length, take, slice_get, filter_map, Some, nat_eq, nat_le, refl, sym, ap, subst, ◌∙◌, arith, take-take, take_all, length-take}
use Rattle.std.proofs.lemmas.Bool.{cases_lt}
use Rattle.std.proofs.lemmas.Bool.Decides.{nat_tests}
use Rattle.rdb_base.specs.declared.journal.Story.{Story}
use Rattle.rdb_base.specs.declared.journal.Entry.{Entry}
use Rattle.rdb_base.specs.declared.journal.Entry.TheVariants as entry
use Rattle.rdb_model.specs.Journal.{commits, is_placed}
use Rattle.rdb_model.specs.Parts.{IsWellPlaced}
use Rattle.rdb_model.specs.Serial.{read_at, committed_stories, serial_order}
use Rattle.rdb_model.specs.SerialRun.{ordered_story, ComesBefore}
use Rattle.rdb_model.proofs.SerialPlaces.{IsIn, StandsBefore, get_filtered, filtered_grows, filtered_more, commit_story, stories_filtered, commits_filtered, block, read_read, same_block, read_commit, commit_read, commit_commit}

-- the parts of a place
record IsPlaced (earlier : List Entry) (story : Story) : Type 0 where
  began : story.begun ≤ length earlier
  sees_enough : commits (take story.begun earlier) ≤ story.snapshot
  sees_past : story.snapshot ≤ commits earlier

placed_from : (earlier : List Entry) (story : Story) → not (is_placed earlier story) ≡ false → IsPlaced earlier story
placed_from earlier story placed = go (nat_le story.begun (length earlier)) (nat_le (commits (take story.begun earlier)) story.snapshot) (nat_le story.snapshot (commits earlier)) refl refl refl placed
  where
    at_most : (m n : ℕ) → nat_le m n ≡ true → m ≤ n
    at_most m n e = grind (arith, nat_tests)

    go : (a b c : Bool) → nat_le story.begun (length earlier) ≡ a → nat_le (commits (take story.begun earlier)) story.snapshot ≡ b → nat_le story.snapshot (commits earlier) ≡ c → not (a && (b && c)) ≡ false → IsPlaced earlier story
    go true true true e f g p = record {
      began = at_most story.begun (length earlier) e;
      sees_enough = at_most (commits (take story.begun earlier)) story.snapshot f;
      sees_past = at_most story.snapshot (commits earlier) g;
    }
    go true true false e f g p = (cc)
    go true false c e f g p = (cc)
    go false b c e f g p = (cc)

module _ (journal : List Entry) where
  -- how many commits stand before a place
  abbrev before : ℕ → ℕ
  before i = commits (take i journal)

  before_grows : (i j : ℕ) → i ≤ j → before i ≤ before j
  before_grows i j le = omega (arith, filtered_grows commit_story journal i j le, commits_filtered (take i journal), commits_filtered (take j journal))

  before_more : (i j : ℕ) (e : Entry) (story : Story) → slice_get journal i ≡ Some e → commit_story e ≡ Some story → i < j → before i < before j
  before_more i j e story is has lt = omega (arith, filtered_more commit_story journal i j e story is has lt, commits_filtered (take i journal), commits_filtered (take j journal))

  before_all : (j : ℕ) → before j ≤ length (committed_stories journal)
  before_all j =
      let grows : length (filter_map commit_story (take j journal)) ≤ length (filter_map commit_story (take (length journal + j) journal)) = filtered_grows commit_story journal j (length journal + j) (omega arith) in
      let whole : length (filter_map commit_story (take (length journal + j) journal)) ≡ length (committed_stories journal) = ap (λ l. length (filter_map commit_story l)) (take_all (length journal + j) journal (omega arith)) ∙ sym (ap length (stories_filtered journal)) in
      omega (arith, commits_filtered (take j journal))

  -- the place of a commit's story, and of a read's
  commit_place : (i : ℕ) (e : Entry) (story : Story) → slice_get journal i ≡ Some e → commit_story e ≡ Some story → slice_get (committed_stories journal) (before i) ≡ Some story
  commit_place i e story is has =
      ap (slice_get (committed_stories journal)) (commits_filtered (take i journal))
      ∙ ap (λ l. slice_get l (length (filter_map commit_story (take i journal)))) (stories_filtered journal)
      ∙ get_filtered commit_story journal i e story is has

  sees_itself : (story : Story) → read_at story.snapshot (entry.Read story) ≡ Some story
  sees_itself story = let same : nat_eq story.snapshot story.snapshot ≡ true = grind (arith, nat_tests) in rw same refl

  read_place : (i : ℕ) (story : Story) → slice_get journal i ≡ Some (entry.Read story) → IsIn (block journal (0 + story.snapshot)) story
  read_place i story is =
      let same : 0 + story.snapshot ≡ story.snapshot = omega arith in
      subst (λ n. IsIn (block journal n) story) (sym same) (length (filter_map (read_at story.snapshot) (take i journal)), get_filtered (read_at story.snapshot) journal i (entry.Read story) story is (sees_itself story))

  -- two reads of the same commits, in the journal's order
  reads_in_turn : (i j : ℕ) (s t : Story) → slice_get journal i ≡ Some (entry.Read s) → slice_get journal j ≡ Some (entry.Read t) → i < j → s.snapshot ≡ t.snapshot → StandsBefore (block journal (0 + s.snapshot)) s t
  reads_in_turn i j s t is_s is_t lt same =
      let here : 0 + s.snapshot ≡ s.snapshot = omega arith in
      let also : read_at s.snapshot (entry.Read t) ≡ Some t = ap (λ n. read_at n (entry.Read t)) same ∙ sees_itself t in
      subst (λ n. StandsBefore (block journal n) s t) (sym here) (
        length (filter_map (read_at s.snapshot) (take i journal)),
        length (filter_map (read_at s.snapshot) (take j journal)),
        filtered_more (read_at s.snapshot) journal i j (entry.Read s) s is_s (sees_itself s) lt,
        get_filtered (read_at s.snapshot) journal i (entry.Read s) s is_s (sees_itself s),
        get_filtered (read_at s.snapshot) journal j (entry.Read t) t is_t also,
      )

  -- the place of a story in a well placed journal, by the whole of it
  record StandsAt (j : ℕ) (story : Story) : Type 0 where
    began : story.begun ≤ j
    sees_enough : before story.begun ≤ story.snapshot
    sees_past : story.snapshot ≤ before j

  stands_at : (j : ℕ) (story : Story) → IsPlaced (take j journal) story → StandsAt j story
  stands_at j story p =
      let began : story.begun ≤ j = omega (arith, p.began, length-take j journal) in
      record {
        began = began;
        sees_enough = subst (λ l. commits l ≤ story.snapshot) (take-take story.begun j journal began) p.sees_enough;
        sees_past = p.sees_past;
      }

  module _ (placed : IsWellPlaced journal) where
    commit_stands : (j : ℕ) (story : Story) (commit : ℕ) → slice_get journal j ≡ Some (entry.Commit story commit) → StandsAt j story
    commit_stands j story commit is = stands_at j story (placed_from (take j journal) story (placed j (entry.Commit story commit) is))

    read_stands : (j : ℕ) (story : Story) → slice_get journal j ≡ Some (entry.Read story) → StandsAt j story
    read_stands j story is = stands_at j story (placed_from (take j journal) story (placed j (entry.Read story) is))

    commits_in_turn : (i j : ℕ) (s t : Story) (c d : ℕ) → slice_get journal i ≡ Some (entry.Commit s c) → slice_get journal j ≡ Some (entry.Commit t d) → i < t.begun → ComesBefore (serial_order journal) s t
    commits_in_turn i j s t c d is_s is_t lt =
        let p : StandsAt j t = commit_stands j t d is_t in
        commit_commit journal (committed_stories journal) 0 (before i) (before j) s t (before_more i j (entry.Commit s c) s is_s refl (omega (arith, p.began))) (commit_place i (entry.Commit s c) s is_s refl) (commit_place j (entry.Commit t d) t is_t refl)

    read_after : (i j : ℕ) (s t : Story) (c : ℕ) → slice_get journal i ≡ Some (entry.Commit s c) → slice_get journal j ≡ Some (entry.Read t) → i < t.begun → ComesBefore (serial_order journal) s t
    read_after i j s t c is_s is_t lt =
        let p : StandsAt j t = read_stands j t is_t in
        let seen = before_more i t.begun (entry.Commit s c) s is_s refl lt in
        commit_read journal (committed_stories journal) 0 (before i) t.snapshot s t (omega (arith, p.sees_enough, seen)) (omega (arith, p.sees_past, before_all j)) (commit_place i (entry.Commit s c) s is_s refl) (read_place j t is_t)

    commit_after : (i j : ℕ) (s t : Story) (d : ℕ) → slice_get journal i ≡ Some (entry.Read s) → slice_get journal j ≡ Some (entry.Commit t d) → i < t.begun → ComesBefore (serial_order journal) s t
    commit_after i j s t d is_s is_t lt =
        let p : StandsAt j t = commit_stands j t d is_t in
        let q : StandsAt i s = read_stands i s is_s in
        let grows : before i ≤ before j = before_grows i j (omega (arith, p.began)) in
        read_commit journal (committed_stories journal) 0 s.snapshot (before j) s t (omega (arith, q.sees_past)) (read_place i s is_s) (commit_place j (entry.Commit t d) t is_t refl)

    reads_before : (i j : ℕ) (s t : Story) → slice_get journal i ≡ Some (entry.Read s) → slice_get journal j ≡ Some (entry.Read t) → i < t.begun → ComesBefore (serial_order journal) s t
    reads_before i j s t is_s is_t lt = go (cases_lt s.snapshot t.snapshot) (read_stands j t is_t) (read_stands i s is_s)
      where
        go : (s.snapshot < t.snapshot) ⊎ (t.snapshot ≤ s.snapshot) → StandsAt j t → StandsAt i s → ComesBefore (serial_order journal) s t
        go (inl below) p q = read_read journal (committed_stories journal) 0 s.snapshot t.snapshot s t below (omega (arith, p.sees_past, before_all j)) (read_place i s is_s) (read_place j t is_t)
        go (inr above) p q =
            let grows : before i ≤ before t.begun = before_grows i t.begun (omega arith) in
            let same : s.snapshot ≡ t.snapshot = omega (arith, p.sees_enough, q.sees_past) in
            same_block journal (committed_stories journal) 0 s.snapshot s t (omega (arith, q.sees_past, before_all i)) (reads_in_turn i j s t is_s is_t (omega (arith, p.began)) same)

    -- of commits and reads alike
    any_before : (i j : ℕ) (a b : Entry) (first second : Story) → slice_get journal i ≡ Some a → slice_get journal j ≡ Some b → ordered_story a ≡ Some first → ordered_story b ≡ Some second → i < second.begun → ComesBefore (serial_order journal) first second
    any_before i j (entry.Commit s c) (entry.Commit t d) first second is_a is_b has_a has_b lt =
        let same_a : s ≡ first = (cc) in
        let same_b : t ≡ second = (cc) in
        subst (λ x. ComesBefore (serial_order journal) x second) same_a (subst (λ y. ComesBefore (serial_order journal) s y) same_b (commits_in_turn i j s t c d is_a is_b (subst (λ y. i < y.begun) (sym same_b) lt)))
    any_before i j (entry.Commit s c) (entry.Read t) first second is_a is_b has_a has_b lt =
        let same_a : s ≡ first = (cc) in
        let same_b : t ≡ second = (cc) in
        subst (λ x. ComesBefore (serial_order journal) x second) same_a (subst (λ y. ComesBefore (serial_order journal) s y) same_b (read_after i j s t c is_a is_b (subst (λ y. i < y.begun) (sym same_b) lt)))
    any_before i j (entry.Read s) (entry.Commit t d) first second is_a is_b has_a has_b lt =
        let same_a : s ≡ first = (cc) in
        let same_b : t ≡ second = (cc) in
        subst (λ x. ComesBefore (serial_order journal) x second) same_a (subst (λ y. ComesBefore (serial_order journal) s y) same_b (commit_after i j s t d is_a is_b (subst (λ y. i < y.begun) (sym same_b) lt)))
    any_before i j (entry.Read s) (entry.Read t) first second is_a is_b has_a has_b lt =
        let same_a : s ≡ first = (cc) in
        let same_b : t ≡ second = (cc) in
        subst (λ x. ComesBefore (serial_order journal) x second) same_a (subst (λ y. ComesBefore (serial_order journal) s y) same_b (reads_before i j s t is_a is_b (subst (λ y. i < y.begun) (sym same_b) lt)))
    any_before i j _ _ first second is_a is_b has_a has_b lt = (cc)

pub ended_before : (journal : List Entry) (i j : ℕ) (a b : Entry) (first second : Story) → IsWellPlaced journal → slice_get journal i ≡ Some a → slice_get journal j ≡ Some b → ordered_story a ≡ Some first → ordered_story b ≡ Some second → i < second.begun → ComesBefore (serial_order journal) first second
ended_before journal i j a b first second placed = any_before journal placed i j a b first second
