-- The numbers that a system gives to open files.
use Rattle.std.specs.Prelude.{◌≡◌, ◌≢◌, ℕ, ◌<◌, Bool, false, IsTrue}

-- a file is opened: its number is the lowest that was free, and the others stay as they were
pub record TakesLowest (before after : ℕ → Bool) : Type 0 where
  pub number : ℕ
  pub free : before number ≡ false
  pub lowest : (n : ℕ) → n < number → IsTrue (before n)
  pub taken : IsTrue (after number)
  pub others : (n : ℕ) → n ≢ number → after n ≡ before n

-- each of the first so many numbers is in use
abbrev pub AreUsed : ℕ → (ℕ → Bool) → Type 0
AreUsed count used = (n : ℕ) → n < count → IsTrue (used n)

-- each number of a standard stream is in use: 0, 1 and 2
abbrev pub AreHeld : (ℕ → Bool) → Type 0
AreHeld used = AreUsed 3 used

-- a number that is in use stays so
abbrev pub KeepsUsed : (before after : ℕ → Bool) → Type 0
KeepsUsed before after = (n : ℕ) → IsTrue (before n) → IsTrue (after n)
