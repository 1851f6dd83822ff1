-- A write that takes a part of what it was handed.
use Rattle.std.proofs.Common.{◌≡◌, ℕ, ◌+◌, ◌-◌, ◌≤◌, min, List, length, take, drop, sym, ◌∙◌, ap, arith, length-take}
use Rattle.std.proofs.lemmas.List.{drop-drop}
use Rattle.disk_calls.specs.Disks.{Torn, LeavesBy}
use Rattle.disk_model.specs.MemDisks.{told_of}
use Rattle.disk_model.specs.declared.mem_disk.MemDisk.{MemDisk}

-- what a shorter write leaves a longer one may leave
torn-wider : (at n m : ℕ) (old new : List ℕ) → n ≤ m → Torn at n old new → Torn at m old new
torn-wider at n m old new le torn = record {
  before = torn.before;
  after = sym (further new) ∙ ap (drop (m - n)) torn.after ∙ further old;
  no_shorter = torn.no_shorter;
  no_longer = omega (arith, torn.no_longer, le);
}
  where
    further : (l : List ℕ) → drop (m - n) (drop (at + n) l) ≡ drop (at + m) l
    further l = let is : at + n + (m - n) ≡ at + m = omega (arith, le) in drop-drop (m - n) (at + n) l ∙ ap (λ (k : ℕ). drop k l) is

pub leaves-wider : (at n : ℕ) (bytes : List ℕ) (old new : MemDisk) → LeavesBy (Torn at (length (take n bytes))) (told_of old) (told_of new)
    → LeavesBy (Torn at (length bytes)) (told_of old) (told_of new)
leaves-wider at n bytes old new torn c left =
    let from = torn c left in
    (from.0, from.1, torn-wider at (length (take n bytes)) (length bytes) from.0 c (omega (arith, length-take n bytes)) from.2)
