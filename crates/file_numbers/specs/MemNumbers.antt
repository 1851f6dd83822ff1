-- Numbers of files in memory.
use Rattle.std.specs.Prelude.{ℕ, Bool, false, get_or}
use Rattle.file_numbers.specs.declared.mem_numbers.MemNumbers.{MemNumbers}

-- whether a number is in use
abbrev pub used_in : MemNumbers → ℕ → Bool
used_in s n = get_or s.used.items n false

-- how many opens failed
abbrev pub faults_of : MemNumbers → ℕ
faults_of s = s.faults
