-- A call of a disk in memory, and its count.
use Rattle.std.proofs.Common.{◌≡◌, inl, inr, ℕ, List, Vec, map, length, refl, sym, ◌∙◌, ap, subst}
use Rattle.std.specs.declared.alloc.Global.{Global}
use Rattle.edge_io.specs.Counts.{Grows}
use Rattle.disk_calls.specs.Disks.{Elapses, GoesOn, LeavesBy, LeavesNothingNew}
use Rattle.disk_model.specs.Images.{Lasts, only-now, time-stays}
use Rattle.disk_model.specs.Steps.{held, LeftSince, LeftUntil}
use Rattle.disk_model.specs.MemDisks.{told_of, bytes_of, IsSameFile}
use Rattle.disk_model.specs.declared.mem_disk.MemDisk.{MemDisk}

-- a call that changes counts alone
pub quiet_crash : (old new : MemDisk) → IsSameFile old new → LeavesNothingNew (told_of old) (told_of new)
quiet_crash old new same c left =
    only-now old.start.items old.steps.items c
    (subst (λ s. LeftSince old.start.items s (length old.steps.items) c) same.steps
    (subst (λ (s : List ℕ). LeftSince s new.steps.items (length old.steps.items) c) same.start left))

pub quiet_time : (old new : MemDisk) → IsSameFile old new → Elapses (told_of old) (told_of new)
quiet_time old new same = record {
  later = lasts.later;
  nothing_else = λ t c le left. elim (lasts.nothing_else t c le (was_since t c left)) [ inl past ↦ inl past | inr now ↦ inr (is_since (length old.steps.items) c now) ];
  keeps = λ t c le left. is_since t c (lasts.keeps t c le left);
  nothing_earlier = λ t c left. elim (lasts.nothing_earlier t c (subst (λ (s : List ℕ). LeftUntil s new.steps.items t c) same.start left)) [
    | inl past ↦ inl past
    | inr now ↦ inr (now.0, is_since (length old.steps.items) c now.1)
  ];
  keeps_past = λ t c left. subst (λ (s : List ℕ). LeftUntil s new.steps.items t c) (sym same.start) (lasts.keeps_past t c left);
}
  where
    lasts : Lasts old.start.items old.steps.items new.steps.items
    lasts = time-stays old.start.items old.steps.items new.steps.items same.steps

    was_since : (t : ℕ) (c : List ℕ) → LeftSince new.start.items new.steps.items t c → LeftSince old.start.items new.steps.items t c
    was_since t c left = subst (λ (s : List ℕ). LeftSince s new.steps.items t c) same.start left

    is_since : (t : ℕ) (c : List ℕ) → LeftSince old.start.items new.steps.items t c → LeftSince new.start.items new.steps.items t c
    is_since t c left = subst (λ (s : List ℕ). LeftSince s new.steps.items t c) (sym same.start) left

pub quiet_goes : (old new : MemDisk) → IsSameFile old new → Grows old.faults new.faults → new.found ≡ old.found → GoesOn (told_of old) (told_of new)
quiet_goes old new same grows found = record {
  time = quiet_time old new same;
  same_disk = record {
    device = record { faults_grow = grows; same_telling = refl; same_names = refl };
    same_attached = ap (λ (v : Vec (Vec ℕ Global) Global). map (λ (w : Vec ℕ Global). w.items) v.items) found;
  };
}

pub same_file-then : (old mid new : MemDisk) → IsSameFile old mid → IsSameFile mid new → IsSameFile old new
same_file-then old mid new first second = record { start = second.start ∙ first.start; steps = second.steps ∙ first.steps; changed = second.changed ∙ first.changed }

pub same_bytes : (old new : MemDisk) → IsSameFile old new → bytes_of new ≡ bytes_of old
same_bytes old new same = ap (λ (s : List ℕ). held s new.changed) same.start ∙ ap (held old.start.items) same.changed

-- a step that leaves each image as it is
pub among-same : (old new : MemDisk) → LeavesBy (λ i c. c ≡ i) (told_of old) (told_of new) → LeavesNothingNew (told_of old) (told_of new)
among-same old new follows c left = let from = follows c left in subst (told_of old).may_leave (sym from.2) from.1
