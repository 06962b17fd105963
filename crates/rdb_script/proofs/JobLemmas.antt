-- How far the writers of the generated job have come.
use Rattle.std.proofs.Common.{◌≡◌, ℕ, suc, ◌+◌, ◌-◌, ◌<◌, ◌≤◌, List, [], ◌++◌, sym, ap, ◌∙◌, arith, append_assoc}
use Rattle.std.specs.Prelude.{codes, decimal}
use Rattle.std.proofs.lemmas.List.{append-nil}
use Rattle.rdb_script.specs.declared.transaction.Transaction.{Transaction}
use Rattle.rdb_base.specs.Memory.{Named, MemoryOfFiles}
use Rattle.std.specs.FinMap.{insert, empty}
use Rattle.rdb_script.specs.Stream.{next_state, draw}
use Rattle.rdb_script.specs.JobScripts.{drawn_at, transaction_lines, transactions, job_script}
use Rattle.rdb_script.specs.Job.{turn_line, turns, rounds, scripts, folder_of, job, job_schema, job_schedule}

-- a text that grows by the first part of what is left
pub grown : (longer before part rest whole : List ℕ) → longer ≡ before ++ part → before ++ (part ++ rest) ≡ whole → longer ++ rest ≡ whole
grown longer before part rest whole e h = ap (λ (t : List ℕ). t ++ rest) e ∙ append_assoc before part rest ∙ h

pub transaction_more : (longer before : List ℕ) (k n state after : ℕ) (transaction : Transaction) (whole : List ℕ) → n < 201 → transaction ≡ (drawn_at state).transaction → after ≡ (drawn_at state).state → longer ≡ before ++ transaction_lines k n transaction
    → before ++ transactions (201 - n) k n state ≡ whole → longer ++ transactions (201 - (n + 1)) k (n + 1) after ≡ whole
unfolding transactions
transaction_more longer before k n state after transaction whole lt drawn goes e h =
    let left : 201 - n ≡ suc (201 - (n + 1)) = omega arith in
    let split : transactions (201 - n) k n state ≡ transaction_lines k n (drawn_at state).transaction ++ transactions (201 - (n + 1)) k (n + 1) (drawn_at state).state = ap (λ (m : ℕ). transactions m k n state) left in
    let same : transactions (201 - (n + 1)) k (n + 1) after ≡ transactions (201 - (n + 1)) k (n + 1) (drawn_at state).state = ap (transactions (201 - (n + 1)) k (n + 1)) goes in
    ap (λ (t : List ℕ). longer ++ t) same ∙ grown longer before (transaction_lines k n (drawn_at state).transaction) _ whole (e ∙ ap (λ (x : Transaction). before ++ transaction_lines k n x) drawn) (ap (λ (t : List ℕ). before ++ t) (sym split) ∙ h)

pub transactions_all : (text : List ℕ) (k n state : ℕ) (whole : List ℕ) → 201 ≤ n → text ++ transactions (201 - n) k n state ≡ whole → text ≡ whole
unfolding transactions
transactions_all text k n state whole le h =
    let none : 201 - n ≡ 0 = omega arith in
    sym (append-nil text) ∙ ap (λ (m : ℕ). text ++ transactions m k n state) (sym none) ∙ h

pub turn_more : (longer before : List ℕ) (n state after client number : ℕ) (whole : List ℕ) → n < 4000 → client ≡ 1 + draw 8 state → number ≡ draw 4 (next_state state) → after ≡ next_state (next_state state) → longer ≡ before ++ turn_line client number
    → before ++ turns (4000 - n) state ≡ whole → longer ++ turns (4000 - (n + 1)) after ≡ whole
unfolding turns
turn_more longer before n state after client number whole lt who what goes e h =
    let left : 4000 - n ≡ suc (4000 - (n + 1)) = omega arith in
    let split : turns (4000 - n) state ≡ turn_line (1 + draw 8 state) (draw 4 (next_state state)) ++ turns (4000 - (n + 1)) (next_state (next_state state)) = ap (λ (m : ℕ). turns m state) left in
    let line : longer ≡ before ++ turn_line (1 + draw 8 state) (draw 4 (next_state state)) = e ∙ (λ i. before ++ turn_line (who i) (what i)) in
    ap (λ (s : ℕ). longer ++ turns (4000 - (n + 1)) s) goes ∙ grown longer before (turn_line (1 + draw 8 state) (draw 4 (next_state state))) _ whole line (ap (λ (t : List ℕ). before ++ t) (sym split) ∙ h)

pub turns_all : (text : List ℕ) (n state : ℕ) (whole : List ℕ) → 4000 ≤ n → text ++ turns (4000 - n) state ≡ whole → text ≡ whole
unfolding turns
turns_all text n state whole le h =
    let none : 4000 - n ≡ 0 = omega arith in
    sym (append-nil text) ∙ ap (λ (m : ℕ). text ++ turns m state) (sym none) ∙ h

pub round_more : (longer before : List ℕ) (n : ℕ) (whole : List ℕ) → n < 1100 → longer ≡ before ++ codes "1* 2* 3* 4* 5* 6* 7* 8*\n" → before ++ rounds (1100 - n) ≡ whole → longer ++ rounds (1100 - (n + 1)) ≡ whole
unfolding rounds
round_more longer before n whole lt e h =
    let left : 1100 - n ≡ suc (1100 - (n + 1)) = omega arith in
    grown longer before (codes "1* 2* 3* 4* 5* 6* 7* 8*\n") (rounds (1100 - (n + 1))) whole e (ap (λ (m : ℕ). before ++ rounds m) (sym left) ∙ h)

pub rounds_all : (text : List ℕ) (n : ℕ) (whole : List ℕ) → 1100 ≤ n → text ++ rounds (1100 - n) ≡ whole → text ≡ whole
unfolding rounds
rounds_all text n whole le h =
    let none : 1100 - n ≡ 0 = omega arith in
    sym (append-nil text) ∙ ap (λ (m : ℕ). text ++ rounds m) (sym none) ∙ h

-- the files, once the scripts from client k on are put into them
abbrev pub with_scripts : MemoryOfFiles → ℕ → ℕ → MemoryOfFiles
with_scripts files k seed = record files { held = folder_of files.held (scripts (9 - k) k seed) }

pub script_more : (later files whole : MemoryOfFiles) (k seed : ℕ) → k < 9 → later ≡ record files { held = insert files.held (codes "client" ++ decimal k) (job_script seed k) }
    → with_scripts files k seed ≡ whole → with_scripts later (k + 1) seed ≡ whole
unfolding scripts
script_more later files whole k seed lt e h =
    let left : 9 - k ≡ suc (9 - (k + 1)) = omega arith in
    ap (λ (f : MemoryOfFiles). with_scripts f (k + 1) seed) e
    ∙ ap (λ (m : ℕ). record files { held = folder_of files.held (scripts m k seed) }) (sym left) ∙ h

pub scripts_all : (files whole : MemoryOfFiles) (k seed : ℕ) → 9 ≤ k → with_scripts files k seed ≡ whole → files ≡ whole
unfolding scripts
scripts_all files whole k seed le h =
    let none : 9 - k ≡ 0 = omega arith in
    ap (λ (m : ℕ). record files { held = folder_of files.held (scripts m k seed) }) (sym none) ∙ h

-- files of these bytes, of which none was read
abbrev pub fresh : Named → MemoryOfFiles
fresh held = record { held = held; failing = []; reads = 0; asked = []; faults = 0 }

pub starts : (none first second : MemoryOfFiles) (failing schema schedule : List ℕ) (seed : ℕ) → none ≡ record { held = empty; failing = failing; reads = 0; asked = []; faults = 0 } → failing ≡ [] → first ≡ record none { held = insert none.held (codes "schema") schema } → second ≡ record first { held = insert first.held (codes "schedule") schedule }
    → schema ≡ job_schema → schedule ≡ job_schedule seed → with_scripts second 1 seed ≡ fresh (folder_of empty (job seed))
starts none first second failing schema schedule seed made sure f s a b =
    let n : none ≡ fresh empty = made ∙ ap (λ (numbers : List ℕ). record { held = empty; failing = numbers; reads = 0; asked = []; faults = 0 }) sure in
    let one : first ≡ fresh (insert empty (codes "schema") job_schema) = f ∙ (λ i. record (n i) { held = insert (n i).held (codes "schema") (a i) }) in
    let two : second ≡ fresh (insert (insert empty (codes "schema") job_schema) (codes "schedule") (job_schedule seed)) = s ∙ (λ i. record (one i) { held = insert (one i).held (codes "schedule") (b i) }) in
    ap (λ (x : MemoryOfFiles). with_scripts x 1 seed) two
