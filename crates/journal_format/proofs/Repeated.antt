-- Reading so many of the same, one after another, as a loop does.
use Rattle.std.proofs.Common.{◌≡◌, ℕ, zero, suc, ◌-◌, ◌+◌, ◌≤◌, ◌<◌, List, [], ◌∷◌, ◌++◌, Option, Some, None, refl, sym, ap, ◌∙◌, append_assoc, arith}
use Rattle.std.proofs.lemmas.List.{append-nil}
use Rattle.journal_format.specs.declared.fault.EntryUnread.{EntryUnread}
use Rattle.journal_format.specs.declared.fault.EntryUnread.TheVariants.{Malformed, Memory}
use Rattle.journal_format.specs.Fields.{number_at}
use Rattle.journal_format.specs.Reading.{◌>>=◌, part_at, parts_at, numbers_at}
use Rattle.journal_format.specs.Gives.{Fails}
use Rattle.row_model.specs.Multipliers.{Part}

-- what was read before, and what is still read
abbrev pub with_front : {A : Type 0} → List A → Option (List A × List ℕ) → Option (List A × List ℕ)
with_front front read = read >>= λ x. Some (front ++ x.0, x.1)

regroup : {A : Type 0} (front : List A) (x : A) (read : Option (List A × List ℕ)) → with_front front (read >>= λ y. Some (x ∷ y.0, y.1)) ≡ with_front (front ++ x ∷ []) read
regroup front x (Some y) = ap (λ xs. Some (xs, y.1)) (sym (append_assoc front (x ∷ []) y.0))
regroup front x None = refl

module _ {A : Type 0} (one : List ℕ → Option (A × List ℕ)) (many : ℕ → List ℕ → Option (List A × List ℕ))
    (none : (bytes : List ℕ) → many zero bytes ≡ Some ([], bytes))
    (more : (n : ℕ) (bytes : List ℕ) → many (suc n) bytes ≡ (one bytes >>= λ first. many n first.1 >>= λ others. Some (first.0 ∷ others.0, others.1))) where
  goes_on : (front : List A) (count i : ℕ) (bytes : List ℕ) (x : A) (behind : List ℕ) (total : Option (List A × List ℕ)) → i < count → one bytes ≡ Some (x, behind)
      → with_front front (many (count - i) bytes) ≡ total → with_front (front ++ x ∷ []) (many (count - (i + 1)) behind) ≡ total
  goes_on front count i bytes x behind total lt h so_far =
      let k : count - i ≡ suc (count - (i + 1)) = omega arith in
      let step : many (suc (count - (i + 1))) bytes ≡ (many (count - (i + 1)) behind >>= λ others. Some (x ∷ others.0, others.1)) =
      more (count - (i + 1)) bytes ∙ ap (λ o. o >>= λ first. many (count - (i + 1)) first.1 >>= λ others. Some (first.0 ∷ others.0, others.1)) h in
      sym (ap (λ n. with_front front (many n bytes)) k ∙ ap (with_front front) step ∙ regroup front x (many (count - (i + 1)) behind)) ∙ so_far

  ends : (e : EntryUnread) (front : List A) (count i : ℕ) (bytes : List ℕ) (total : Option (List A × List ℕ)) → i < count → Fails e (one bytes)
      → with_front front (many (count - i) bytes) ≡ total → Fails e total
  ends Memory front count i bytes total lt h so_far = tt
  ends Malformed front count i bytes total lt h so_far =
      let k : count - i ≡ suc (count - (i + 1)) = omega arith in
      let step : many (suc (count - (i + 1))) bytes ≡ None =
      more (count - (i + 1)) bytes ∙ ap (λ o. o >>= λ first. many (count - (i + 1)) first.1 >>= λ others. Some (first.0 ∷ others.0, others.1)) h in
      sym so_far ∙ ap (λ n. with_front front (many n bytes)) k ∙ ap (with_front front) step

  is_done : (front : List A) (count i : ℕ) (bytes : List ℕ) (total : Option (List A × List ℕ)) → count ≤ i → with_front front (many (count - i) bytes) ≡ total → total ≡ Some (front, bytes)
  is_done front count i bytes total le so_far =
      let k : count - i ≡ 0 = omega arith in
      sym so_far ∙ ap (λ n. with_front front (many n bytes)) k ∙ ap (with_front front) (none bytes) ∙ ap (λ xs. Some (xs, bytes)) (append-nil front)

-- ---- parts

parts-none : (bytes : List ℕ) → parts_at zero bytes ≡ Some ([], bytes)
unfolding parts_at
parts-none bytes = refl

parts-more : (n : ℕ) (bytes : List ℕ) → parts_at (suc n) bytes ≡ (part_at bytes >>= λ first. parts_at n first.1 >>= λ others. Some (first.0 ∷ others.0, others.1))
unfolding parts_at
parts-more n bytes = refl

pub parts-goes_on : (front : List Part) (count i : ℕ) (bytes : List ℕ) (x : Part) (behind : List ℕ) (total : Option (List Part × List ℕ)) → i < count → part_at bytes ≡ Some (x, behind)
    → with_front front (parts_at (count - i) bytes) ≡ total → with_front (front ++ x ∷ []) (parts_at (count - (i + 1)) behind) ≡ total
parts-goes_on = goes_on part_at parts_at parts-none parts-more

pub parts-ends : (e : EntryUnread) (front : List Part) (count i : ℕ) (bytes : List ℕ) (total : Option (List Part × List ℕ)) → i < count → Fails e (part_at bytes)
    → with_front front (parts_at (count - i) bytes) ≡ total → Fails e total
parts-ends = ends part_at parts_at parts-none parts-more

pub parts-done : (front : List Part) (count i : ℕ) (bytes : List ℕ) (total : Option (List Part × List ℕ)) → count ≤ i →
    with_front front (parts_at (count - i) bytes) ≡ total → total ≡ Some (front, bytes)
parts-done = is_done part_at parts_at parts-none parts-more

-- ---- numbers

numbers-none : (width : ℕ) (bytes : List ℕ) → numbers_at width zero bytes ≡ Some ([], bytes)
unfolding numbers_at
numbers-none width bytes = refl

numbers-more : (width n : ℕ) (bytes : List ℕ) → numbers_at width (suc n) bytes ≡ (number_at width bytes >>= λ first. numbers_at width n first.1 >>= λ others. Some (first.0 ∷ others.0, others.1))
unfolding numbers_at
numbers-more width n bytes = refl

pub numbers-goes_on : (width : ℕ) (front : List ℕ) (count i : ℕ) (bytes : List ℕ) (x : ℕ) (behind : List ℕ) (total : Option (List ℕ × List ℕ)) → i < count → number_at width bytes ≡ Some (x, behind)
    → with_front front (numbers_at width (count - i) bytes) ≡ total → with_front (front ++ x ∷ []) (numbers_at width (count - (i + 1)) behind) ≡ total
numbers-goes_on width = goes_on (number_at width) (numbers_at width) (numbers-none width) (numbers-more width)

pub numbers-ends : (width : ℕ) (e : EntryUnread) (front : List ℕ) (count i : ℕ) (bytes : List ℕ) (total : Option (List ℕ × List ℕ)) → i < count → Fails e (number_at width bytes)
    → with_front front (numbers_at width (count - i) bytes) ≡ total → Fails e total
numbers-ends width = ends (number_at width) (numbers_at width) (numbers-none width) (numbers-more width)

pub numbers-done : (width : ℕ) (front : List ℕ) (count i : ℕ) (bytes : List ℕ) (total : Option (List ℕ × List ℕ)) → count ≤ i →
    with_front front (numbers_at width (count - i) bytes) ≡ total → total ≡ Some (front, bytes)
numbers-done width = is_done (number_at width) (numbers_at width) (numbers-none width) (numbers-more width)
