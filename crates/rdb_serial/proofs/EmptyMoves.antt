-- Before anything is done.
use Rattle.std.proofs.Common.{◌≡◌, inl, ℕ, List, [], length, replicate, Some, None, refl, sym, subst, arith}
use Rattle.std.proofs.lemmas.List.{length-replicate}
use Rattle.std.proofs.lemmas.Option.{slice_get_within}
use Rattle.rdb_base.specs.declared.identity.Manager.{Manager}
use Rattle.rdb_schema.specs.declared.schema.Schema.{Schema}
use Rattle.rdb_sight.specs.Versions.{Object}
use Rattle.rdb_model.specs.declared.legality.Span.TheVariants as span
use Rattle.rdb_model.proofs.PartLemmas.{law_from}
use Rattle.rdb_shown.proofs.NothingLemmas.{shows_nothing, nothing_kept}
use Rattle.rdb_serial.specs.Progress.{marks_of}
use Rattle.rdb_serial.specs.Histories.{History, scene_of}
use Rattle.rdb_serial.specs.Serial.{IsScene, IsSerial}
use Rattle.rdb_serial.specs.Moves.{IsEmpty}

-- the history of so many classes
abbrev empty_history : ℕ → List ℕ → History
empty_history classes drawn = record { journal = []; course = λ slot. None; drawn = drawn; settled = replicate classes []; aimed = replicate classes [] }

empty_scene : (schema : Schema) (drawn : List ℕ) → IsScene schema (scene_of (empty_history (length schema.classes) drawn))
empty_scene schema drawn = record {
  law = law_from span.Stretch schema [] refl;
  aborts = λ place e at. let within = slice_get_within [] place e at in absurd (omega (arith, within));
  reads = λ story stands. let within = stands.1 in absurd (omega (arith, within));
  drawn = λ class id made. absurd (cc);
  settled = nothing_kept (length schema.classes) [] (marks_of (λ slot. None));
  aimed = nothing_kept (length schema.classes) [] (marks_of (λ slot. None));
  classes = length-replicate {A = List Object} (length schema.classes) [];
  classes_aimed = length-replicate {A = List Object} (length schema.classes) [];
  current = shows_nothing (length schema.classes) 0 (marks_of (λ slot. None)) None;
}

empty_is : (schema : Schema) (manager : Manager) (drawn : List ℕ) → IsSerial schema manager (empty_history (length schema.classes) drawn)
empty_is schema manager drawn = record {
  scene = empty_scene schema drawn;
  slots = λ slot number. refl;
  apart = λ i j p q differs there. absurd (let none : None ≡ Some p = there in (cc));
  agrees = λ many class. inl refl;
}

pub empty : (schema : Schema) (manager : Manager) (h : History) → IsEmpty (length schema.classes) h → IsSerial schema manager h
empty schema manager h is = subst (IsSerial schema manager) (sym one) (empty_is schema manager h.drawn)
  where
    one : h ≡ empty_history (length schema.classes) h.drawn
    one = λ i. record {
      journal = is.journal i;
      course = λ slot. is.course slot i;
      drawn = h.drawn;
      settled = is.settled i;
      aimed = is.aimed i;
    }
