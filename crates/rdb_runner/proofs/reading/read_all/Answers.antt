use Rattle.std.proofs.Common.{◌≡◌, ℕ, ◌+◌, ◌<◌, List, [], ◌++◌, length, map, get_or, Bor, ap, sym, ◌∙◌, arith, Some}
use Rattle.std.specs.Prelude.{slice_get}
use Rattle.std.proofs.lemmas.Result.{err_from_is_err_and}
use Rattle.std.proofs.lemmas.List.{length-map}
use Rattle.std.proofs.lemmas.Option.{slice_get-map, slice_get-get_or}
use Rattle.std.specs.Option.{option_map}
use Rattle.rdb_runner.specs.Reading.{sight_of}
use Rattle.rdb_runner.proofs.ReadingLemmas.{AreBytesOf-snoc, IsBytesOf-told, asked_on, take_map_more, read_stops}
use Rattle.rdb_runner.proofs.reading.read_all.Goals as goal

-- no name
abbrev nobody : Bor (List ℕ)
nobody = record { ref_ptr = (0, 0); now = [] }

named : (xs : List (Bor (List ℕ))) (i : ℕ) → i < length xs → slice_get (map (λ (n : Bor (List ℕ)). n.now) xs) i ≡ Some (get_or xs i nobody).now
named xs i h = slice_get-map (λ (n : Bor (List ℕ)). n.now) xs i ∙ ap (option_map (λ (n : Bor (List ℕ)). n.now)) (slice_get-get_or xs i nobody h)

pub returns-in_err-bytes-clause-answer : goal.returns-in_err-bytes-clause-answer
returns-in_err-bytes-clause-answer g c =
    let p = err_from_is_err_and c.from_residual.result c.from_residual.ensures.1 in
    let names = c.args.names.now in
    let i = c.loop-place.place in
    let within : i < length names = omega arith in
    let all : List (List ℕ) = map (λ (n : Bor (List ℕ)). n.now) names in
    rw (p.1, p.2) (read_stops (sight_of g.F.Files.told g.F.Files.asked g.F.Files.faults c.loop-place.files c.read_one.new.files) (g.F.Files.told c.args.files.now) (g.F.Files.asked c.args.files.now) (g.F.Files.faults c.args.files.now) all c.loop-place.texts i (get_or names i nobody).now
    (record {
      told_same = c.loop-place.invariant.told;
      texts_read = c.loop-place.invariant.texts;
      asked_so_far = c.loop-place.invariant.asked;
      faults_same = c.loop-place.invariant.faults;
      there = named names i within;
      inside = rw length-map within;
      next = take_map_more (λ (n : Bor (List ℕ)). n.now) names i nobody within;
    }) c.in_err-bytes.field-0.0 c.in_err-bytes.ensures.answer)

pub returns-in_err-push-clause-answer : goal.returns-in_err-push-clause-answer
returns-in_err-push-clause-answer g c =
    let p = err_from_is_err_and c.from_residual-in_err-push.result c.from_residual-in_err-push.ensures.1 in
    let h = c.in_ok-bytes.ensures in
    let names = c.args.names.now in
    let i = c.loop-place.place in
    let within : i < length names = omega arith in
    rw (p.1, p.2) (i + 1, rw length-map (omega arith), asked_on _ _ _ _ _ c.loop-place.invariant.asked h.answer.1 ∙ ap (λ (ns : List (List ℕ)). option_map (λ before. before ++ ns) (g.F.Files.asked c.args.files.now)) (sym (take_map_more (λ (n : Bor (List ℕ)). n.now) names i nobody within)), h.answer.2 ∙ c.loop-place.invariant.faults)

pub loop-place-preserved : goal.loop-place-preserved
loop-place-preserved g c =
    let h = c.in_ok-bytes.ensures in
    let names = c.args.names.now in
    let i = c.loop-place.place in
    let within : i < length names = omega arith in
    let next = take_map_more (λ (n : Bor (List ℕ)). n.now) names i nobody within in
    let one = IsBytesOf-told (g.F.Files.told c.loop-place.files) (g.F.Files.told c.args.files.now) (get_or names i nobody).now c.in_ok-bytes.bytes (c.loop-place.invariant.told _) h.answer.0 in
    record {
      texts = rw (next, c.in_ok-push.ensures.ok) (AreBytesOf-snoc _ _ _ _ _ c.loop-place.invariant.texts one);
      asked = rw next (asked_on _ _ _ _ _ c.loop-place.invariant.asked h.answer.1);
      faults = h.answer.2 ∙ c.loop-place.invariant.faults;
      told = λ name. h.stays name ∙ c.loop-place.invariant.told name;
    }
