-- What calls keep of a shelf, one after another.
use Rattle.std.proofs.Common.{refl, ◌∙◌}
use Rattle.edge_io.proofs.Counting.{grows-same, grows-then}
use Rattle.shelf_calls.specs.Told.{ShelfTold, Keeps}

-- no call
pub keeps-same : (s : ShelfTold) → Keeps s s
keeps-same s = record { same_files = refl; same_names = refl; same_telling = refl; taken_grows = grows-same s.taken; faults_grow = grows-same s.faults }

-- one call after another
pub keeps-then : {s t u : ShelfTold} → Keeps s t → Keeps t u → Keeps s u
keeps-then {s} {t} {u} h k = record {
  same_files = k.same_files ∙ h.same_files;
  same_names = k.same_names ∙ h.same_names;
  same_telling = k.same_telling ∙ h.same_telling;
  taken_grows = grows-then s.taken t.taken u.taken h.taken_grows k.taken_grows;
  faults_grow = grows-then s.faults t.faults u.faults h.faults_grow k.faults_grow;
}
