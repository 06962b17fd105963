-- What is aimed at changes in classes of one connection: what stays so of all others.
use Rattle.std.proofs.Common.{◌≡◌, ◌≢◌, ℕ, ◌≤◌, Bool, true, false, List, [], length, slice_index, Some, None, refl, sym, ap, subst, ◌∙◌, append-nil}
use Rattle.rdb_base.specs.declared.identity.Manager.{Manager}
use Rattle.rdb_schema.specs.declared.schema.Schema.{Schema}
use Rattle.rdb_sight.specs.Versions.{Versions, shown}
use Rattle.rdb_model.specs.Journal.{commits}
use Rattle.rdb_shown.specs.Kept.{AreVersions, IsWork}
use Rattle.rdb_serial.specs.Progress.{Progress, Course, tx_of, holds, so_far}
use Rattle.rdb_serial.specs.Histories.{Scene, view, AreSameIn, AreHeldOnce}
use Rattle.rdb_serial.specs.Serial.{IsScene}
use Rattle.rdb_serial.proofs.ViewLemmas.{views_are_one}
use Rattle.rdb_serial.proofs.CarryLemmas.{Carries, drawn_more}

-- a connection that sees the same where others are aimed at otherwise, and where more ids are drawn
pub carries_aims : (schema : Schema) (manager : Manager) (s : Scene) (slot : ℕ) (p : Progress) (drawn : List ℕ) (aimed : Versions) → view p.latches s.settled aimed ≡ view p.latches s.settled s.aimed →
    ((class : ℕ) → slice_index s.drawn class ≤ slice_index drawn class) → Carries schema manager s (record s { drawn = drawn; aimed = aimed }) slot p
carries_aims schema manager s slot p drawn aimed same grows = record {
  more = [];
  journal = sym (append-nil s.journal);
  shows = λ t open_one begun. refl;
  mine = λ t open_one begun unmarked live. ap (shown s.marks t.snapshot (Some (tx_of p t))) same;
  work = λ t open_one begun unmarked live work. subst (λ (vs : Versions). IsWork s.marks vs (tx_of p t) t.snapshot (so_far p)) (sym same) work;
  sees_all = λ t open_one begun unmarked live sees single writes. let all = sees single writes in (all.0, ap (shown s.marks (commits s.journal) None) same ∙ all.1);
  anew = λ anew. anew;
  drawn = grows;
  ended = λ number is. is;
}

-- the scene, where what is aimed at is kept
pub scene_aims : (schema : Schema) (s : Scene) (drawn : List ℕ) (aimed : Versions) → IsScene schema s → ((class : ℕ) → slice_index s.drawn class ≤ slice_index drawn class) → AreVersions s.journal s.marks aimed → length aimed ≡ length s.aimed →
    IsScene schema (record s { drawn = drawn; aimed = aimed })
scene_aims schema s drawn aimed is grows kept many = record {
  law = is.law;
  aborts = is.aborts;
  reads = is.reads;
  drawn = drawn_more s.drawn drawn _ grows is.drawn;
  settled = is.settled;
  aimed = kept;
  classes = is.classes;
  classes_aimed = many ∙ is.classes_aimed;
  current = is.current;
}

-- another connection doesn't see what is aimed at in the classes of one
pub others_see_the_same : (course : Course) (settled aimed now : Versions) (slot other : ℕ) (was p : Progress) → AreHeldOnce course → course slot ≡ Some was → course other ≡ Some p → other ≢ slot → length aimed ≡ length settled → length now ≡ length aimed →
    ((class : ℕ) → holds was.latches class ≡ false → AreSameIn class now aimed) → view p.latches settled now ≡ view p.latches settled aimed
others_see_the_same course settled aimed now slot other was p once there there_other differs many many_now same =
    views_are_one p.latches settled aimed settled now many (many_now ∙ many) refl (λ class held. same class (apart class held (holds was.latches class) refl)) (λ class free. refl)
  where
    apart : (class : ℕ) → holds p.latches class ≡ true → (b : Bool) → holds was.latches class ≡ b → holds was.latches class ≡ false
    apart class held true e = absurd (differs (once class other slot p was there_other there held e))
    apart class held false e = e
