-- Versions of a map from keys to numbers, and the blocks of eight numbers that they share.
use Rattle.std.specs.Prelude.{◌≡◌, ℕ, zero, suc, ◌+◌, ◌*◌, ◌/◌, ◌%◌, ◌<◌, List, [], length, get_or, ◌==◌, if◌then◌else◌}

-- the blocks, and of each version its block on the first level
pub record Versions : Type 0 where
  pub blocks : List (List ℕ)
  pub tops : List ℕ

-- keys are below this
abbrev pub most_keys : ℕ
most_keys = 512

-- what is found at a key through so many levels of blocks: its last digit in base 8 chooses in the first block, and so on
abbrev pub found : List (List ℕ) → ℕ → ℕ → ℕ → ℕ
found blocks zero block key = block
found blocks (suc levels) block key = found blocks levels (get_or (get_or blocks block []) (key % 8) 0) (key / 8)

-- how many versions there are
abbrev pub count : Versions → ℕ
count m = length m.tops

-- the number that a version has at a key
abbrev pub number_at : Versions → ℕ → ℕ → ℕ
number_at m version key = found m.blocks 3 (get_or m.tops version 0) key

-- There is one version more behind the others, which are as they were. It is an earlier one with another number at one key.
pub record IsChanged (old new : Versions) (version key number : ℕ) : Type 0 where
  pub more : count new ≡ count old + 1
  pub kept : (v k : ℕ) → v < count old → number_at new v k ≡ number_at old v k
  pub changed : key < most_keys → (k : ℕ) → k < most_keys → number_at new (count old) k ≡ (if k == key then number else number_at old version k)

-- each block that is reached from this one through so many levels is there
abbrev pub IsThere : List (List ℕ) → ℕ → ℕ → Type 0
IsThere blocks zero block = Unit {0}
IsThere blocks (suc levels) block = (block < length blocks) × ((digit : ℕ) → digit < 8 → IsThere blocks levels (get_or (get_or blocks block []) digit 0))

-- three blocks for each version but the first, which has one, and each version's blocks are there
pub record AreShared (m : Versions) : Type 0 where
  pub some : 0 < length m.tops
  pub sized : length m.blocks + 2 ≡ 3 * length m.tops
  pub wide : (block : ℕ) → block < length m.blocks → length (get_or m.blocks block []) ≡ 8
  pub there : (version : ℕ) → version < length m.tops → IsThere m.blocks 3 (get_or m.tops version 0)
