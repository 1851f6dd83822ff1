-- Lines of a text, one behind another.
use Rattle.std.proofs.Common.{◌≡◌, ℕ, zero, suc, ◌+◌, ◌<◌, ◌≤◌, Bool, true, false, cond, eqb, List, [], ◌∷◌, ◌++◌, refl, sym, ap, zero-add, add_comm, add-one, arith}
use Rattle.cert_text.specs.Lines.{line_feeds, first_line, first_lines}

pub line_feeds-append : (xs ys : List ℕ) → line_feeds (xs ++ ys) ≡ line_feeds xs + line_feeds ys
line_feeds-append [] ys = sym (zero-add (line_feeds ys))
line_feeds-append (x ∷ xs) ys = omega (arith, line_feeds-append xs ys)

cons_same : (c : ℕ) (xs ys : List ℕ) → xs ≡ ys → c ∷ xs ≡ c ∷ ys
cons_same c xs ys e = ap (λ (z : List ℕ). c ∷ z) e

-- one line is the first line
pub first_lines-one : (bs : List ℕ) → first_lines 1 bs ≡ first_line bs
first_lines-one [] = refl
first_lines-one (c ∷ cs) = cons_same c _ _ (elim (eqb c 10) as (λ b. first_lines (cond b 0 1) cs ≡ cond b [] (first_line cs)) [ true ↦ refl | false ↦ first_lines-one cs ])

-- the lines of the good part and the first line behind it
pub first_lines-past : (good rest : List ℕ) → first_lines (suc (line_feeds good)) (good ++ rest) ≡ good ++ first_line rest
first_lines-past [] rest = first_lines-one rest
first_lines-past (c ∷ cs) rest = cons_same c _ _ (by_end (eqb c 10) (first_lines-past cs rest))
  where
    by_end : (b : Bool) → first_lines (suc (line_feeds cs)) (cs ++ rest) ≡ cs ++ first_line rest
        → first_lines (cond b (cond b 1 0 + line_feeds cs) (suc (cond b 1 0 + line_feeds cs))) (cs ++ rest) ≡ cs ++ first_line rest
    by_end true h = rw (add_comm 1 (line_feeds cs), add-one) h
    by_end false h = rw zero-add h

-- the first lines of a text begin it
pub first_lines-front : (k : ℕ) (good rest : List ℕ) → k ≤ line_feeds good → (more : List ℕ) × (good ≡ first_lines k (good ++ rest) ++ more)
first_lines-front zero good rest le = (good, refl)
first_lines-front (suc k) [] rest le = absurd (omega arith)
first_lines-front (suc k) (c ∷ cs) rest le = by_end (eqb c 10) le (first_lines-front k cs rest) (first_lines-front (suc k) cs rest)
  where
    by_end : (b : Bool) → suc k ≤ cond b 1 0 + line_feeds cs
        → (k ≤ line_feeds cs → (more : List ℕ) × (cs ≡ first_lines k (cs ++ rest) ++ more))
        → (suc k ≤ line_feeds cs → (more : List ℕ) × (cs ≡ first_lines (suc k) (cs ++ rest) ++ more))
        → (more : List ℕ) × (c ∷ cs ≡ (c ∷ first_lines (cond b k (suc k)) (cs ++ rest)) ++ more)
    by_end true le2 h g = let r = h (omega arith) in (r.0, cons_same c _ _ r.1)
    by_end false le2 h g = let r = g (omega arith) in (r.0, cons_same c _ _ r.1)

-- a whole line hides what follows it
pub first_line-again : (rest more : List ℕ) → 0 < line_feeds rest → first_line (first_line rest ++ more) ≡ first_line rest
first_line-again [] more lt = absurd (omega arith)
first_line-again (c ∷ cs) more lt = cons_same c _ _ (by_end (eqb c 10) lt (first_line-again cs more))
  where
    by_end : (b : Bool) → 0 < cond b 1 0 + line_feeds cs → (0 < line_feeds cs → first_line (first_line cs ++ more) ≡ first_line cs)
        → cond b [] (first_line (cond b [] (first_line cs) ++ more)) ≡ cond b [] (first_line cs)
    by_end true lt2 h = refl
    by_end false lt2 h = h (omega arith)
