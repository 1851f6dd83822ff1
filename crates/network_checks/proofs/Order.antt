-- The order of the faults: which differ in a number, and which in a kind and a number, and what is the first.
use Rattle.std.proofs.Common.{◌≡◌, ℕ, suc, ◌<◌, refl, arith}
use Rattle.faults.specs.First.{IsFirstOf}
use Rattle.faults.proofs.First.{IsNumbered, IsKinded, clear-next, lone-first, numbered-first, numbered-next, kinded-first, kinded-next}
use Rattle.pool_model.specs.Rows.{Rows}
use Rattle.network_parts.specs.FirstFault.{Holds, number, kind_number, about, IsFirstFault, LacksEarlier}
use Rattle.network_parts.specs.Faults.{IsFaultless}
use Rattle.network_parts.specs.declared.fault.Kind.{Kind}
use Rattle.network_parts.specs.declared.fault.Kind.TheVariants.{Source, Pool, Product, Quality, Arc}
use Rattle.network_parts.specs.declared.fault.NetFault.{NetFault}
use Rattle.network_parts.specs.declared.fault.NetFault.TheVariants.{TooMany, BadName, DuplicateName, UnknownName, ArcBackwards, PoolToPool, DuplicateArc}
use Rattle.network_parts.specs.declared.fault.NetFault.TheVariants.{PoolWithoutInput, PoolWithoutOutput, TooManyPaths, OutOfRange, LeastAboveMost, Memory}

-- a search that stopped at a number found the first
pub told : (make : ℕ → NetFault) (P : ℕ → Type 0) (n : ℕ) → P n → ((m : ℕ) → m < n → ¬ P m) → IsFirstOf make P (make n)
told make P n here none = record { at = n; is = refl; has = here; first = none }

-- want of memory may come at any time
pub memory_first : (r : Rows) → IsFirstFault r Memory
memory_first r = λ other. absurd (other refl)

-- ---- causes with a number

only_unknown : (g : NetFault) → number g ≡ 4 → (n : ℕ) × (g ≡ UnknownName n)
only_unknown (UnknownName n) e = (n, refl)
only_unknown g e = absurd (omega (arith, e))

pub unknown : IsNumbered number about UnknownName
unknown = record { cause = λ n. refl; value = λ n. refl; only = only_unknown }

only_backwards : (g : NetFault) → number g ≡ 5 → (n : ℕ) × (g ≡ ArcBackwards n)
only_backwards (ArcBackwards n) e = (n, refl)
only_backwards g e = absurd (omega (arith, e))

pub backwards : IsNumbered number about ArcBackwards
backwards = record { cause = λ n. refl; value = λ n. refl; only = only_backwards }

only_pool_to_pool : (g : NetFault) → number g ≡ 6 → (n : ℕ) × (g ≡ PoolToPool n)
only_pool_to_pool (PoolToPool n) e = (n, refl)
only_pool_to_pool g e = absurd (omega (arith, e))

pub pool_to_pool : IsNumbered number about PoolToPool
pool_to_pool = record { cause = λ n. refl; value = λ n. refl; only = only_pool_to_pool }

only_duplicate : (g : NetFault) → number g ≡ 7 → (n : ℕ) × (g ≡ DuplicateArc n)
only_duplicate (DuplicateArc n) e = (n, refl)
only_duplicate g e = absurd (omega (arith, e))

pub duplicate : IsNumbered number about DuplicateArc
duplicate = record { cause = λ n. refl; value = λ n. refl; only = only_duplicate }

only_without_input : (g : NetFault) → number g ≡ 8 → (n : ℕ) × (g ≡ PoolWithoutInput n)
only_without_input (PoolWithoutInput n) e = (n, refl)
only_without_input g e = absurd (omega (arith, e))

pub without_input : IsNumbered number about PoolWithoutInput
without_input = record { cause = λ n. refl; value = λ n. refl; only = only_without_input }

only_without_output : (g : NetFault) → number g ≡ 9 → (n : ℕ) × (g ≡ PoolWithoutOutput n)
only_without_output (PoolWithoutOutput n) e = (n, refl)
only_without_output g e = absurd (omega (arith, e))

pub without_output : IsNumbered number about PoolWithoutOutput
without_output = record { cause = λ n. refl; value = λ n. refl; only = only_without_output }

only_least_above_most : (g : NetFault) → number g ≡ 12 → (n : ℕ) × (g ≡ LeastAboveMost n)
only_least_above_most (LeastAboveMost n) e = (n, refl)
only_least_above_most g e = absurd (omega (arith, e))

pub least_above_most : IsNumbered number about LeastAboveMost
least_above_most = record { cause = λ n. refl; value = λ n. refl; only = only_least_above_most }

-- the fault of the first number, of which none of an earlier cause holds
pub numbered_first : (make : ℕ → NetFault) → IsNumbered number about make → (r : Rows) (P : ℕ → Type 0) (f : NetFault) → LacksEarlier r (make 0) → ((n : ℕ) → P n → Holds r (make n))
    → ((n : ℕ) → Holds r (make n) → P n) → IsFirstOf make P f → IsFirstFault r f
numbered_first make is r P f clear to from found = λ _. numbered-first is record { none = clear } to from f found

pub numbered_next : (make : ℕ → NetFault) → IsNumbered number about make → (r : Rows) (h : NetFault) → LacksEarlier r (make 0) → ((n : ℕ) → ¬ Holds r (make n))
    → number h ≡ suc (number (make 0)) → LacksEarlier r h
numbered_next make is r h clear none next = λ g less. (numbered-next is record { none = clear } none).none g (omega (arith, less, next))

-- ---- causes with a kind and a number

same_kind : (a b : Kind) → kind_number a ≡ kind_number b → a ≡ b
same_kind Source Source e = refl
same_kind Pool Pool e = refl
same_kind Product Product e = refl
same_kind Quality Quality e = refl
same_kind Arc Arc e = refl
same_kind a b e = absurd (omega (arith, e))

only_bad_name : (g : NetFault) → number g ≡ 2 → (kind : Kind) × (n : ℕ) × (g ≡ BadName kind n)
only_bad_name (BadName kind n) e = (kind, n, refl)
only_bad_name g e = absurd (omega (arith, e))

pub bad_name : IsKinded number about kind_number BadName
bad_name = record { cause = λ k l i j. refl; values = λ kind n. refl; only = λ g kind n e. only_bad_name g e; same = same_kind }

only_duplicate_name : (g : NetFault) → number g ≡ 3 → (kind : Kind) × (n : ℕ) × (g ≡ DuplicateName kind n)
only_duplicate_name (DuplicateName kind n) e = (kind, n, refl)
only_duplicate_name g e = absurd (omega (arith, e))

pub duplicate_name : IsKinded number about kind_number DuplicateName
duplicate_name = record { cause = λ k l i j. refl; values = λ kind n. refl; only = λ g kind n e. only_duplicate_name g e; same = same_kind }

only_out_of_range : (g : NetFault) → number g ≡ 11 → (kind : Kind) × (n : ℕ) × (g ≡ OutOfRange kind n)
only_out_of_range (OutOfRange kind n) e = (kind, n, refl)
only_out_of_range g e = absurd (omega (arith, e))

pub out_of_range : IsKinded number about kind_number OutOfRange
out_of_range = record { cause = λ k l i j. refl; values = λ kind n. refl; only = λ g kind n e. only_out_of_range g e; same = same_kind }

-- none holds of the kinds before this one
abbrev pub LacksKinds : Rows → (Kind → ℕ → NetFault) → Kind → Type 0
LacksKinds r make kind = (earlier : Kind) → kind_number earlier < kind_number kind → (n : ℕ) → ¬ Holds r (make earlier n)

-- the fault of the first number of a kind, of which none of an earlier cause or kind holds
pub kinded_first : (make : Kind → ℕ → NetFault) → IsKinded number about kind_number make
    → (r : Rows) (kind : Kind) (P : ℕ → Type 0) (f : NetFault) → LacksEarlier r (make Source 0) → LacksKinds r make kind
    → ((n : ℕ) → P n → Holds r (make kind n)) → ((n : ℕ) → Holds r (make kind n) → P n) → IsFirstOf (make kind) P f → IsFirstFault r f
kinded_first make is r kind P f clear lacks to from found = λ _.
    kinded-first is kind record { none = λ g less. clear g (omega (arith, less, is.cause Source kind 0 0)) } lacks to from f found

pub kinded_next : (make : Kind → ℕ → NetFault) → IsKinded number about kind_number make → (r : Rows) (h : NetFault) → LacksEarlier r (make Source 0) → ((kind : Kind) (n : ℕ) → ¬ Holds r (make kind n))
    → number h ≡ suc (number (make Source 0)) → LacksEarlier r h
kinded_next make is r h clear none next = λ g less. (kinded-next is Source record { none = clear } none).none g (omega (arith, less, next))

-- ---- too many paths

paths_only : (r : Rows) → ¬ Holds r TooManyPaths → (g : NetFault) → number g ≡ 10 → ¬ Holds r g
paths_only r none TooManyPaths e = none
paths_only r none g e = absurd (omega (arith, e))

pub paths_first : (r : Rows) → Holds r TooManyPaths → LacksEarlier r TooManyPaths → IsFirstFault r TooManyPaths
paths_first r holds clear = λ _. lone-first TooManyPaths refl holds record { none = clear }

pub paths_next : (r : Rows) (h : NetFault) → ¬ Holds r TooManyPaths → LacksEarlier r TooManyPaths → number h ≡ 11 → LacksEarlier r h
paths_next r h none clear next = λ g less. (clear-next 10 record { none = clear } (paths_only r none)).none g (omega (arith, less, next))

-- ---- all of them

-- no fault of an earlier cause than want of memory: none at all
pub faultless_from : (r : Rows) → LacksEarlier r Memory → IsFaultless r
faultless_from r none = record {
  counts = λ kind. none (TooMany kind) (omega arith);
  names = λ kind n. none (BadName kind n) (omega arith);
  distinct = λ kind n. none (DuplicateName kind n) (omega arith);
  known = λ n. none (UnknownName n) (omega arith);
  forward = λ n. none (ArcBackwards n) (omega arith);
  single = λ n. none (PoolToPool n) (omega arith);
  once = λ n. none (DuplicateArc n) (omega arith);
  inputs = λ l. none (PoolWithoutInput l) (omega arith);
  outputs = λ l. none (PoolWithoutOutput l) (omega arith);
  paths = none TooManyPaths (omega arith);
  ranges = λ kind n. none (OutOfRange kind n) (omega arith);
  orderly = λ n. none (LeastAboveMost n) (omega arith);
}
