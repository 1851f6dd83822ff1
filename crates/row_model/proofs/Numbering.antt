-- Coordinates and variables by their numbers.
use Rattle.std.proofs.Common.{◌≡◌, ℕ, ◌+◌, ◌-◌, ◌*◌, ◌/◌, ◌%◌, ◌<◌, ◌≤◌, nat_lt, Bool, true, false, if◌then◌else◌, ℤ, pos, ◌*ℤ◌, ◌≤ℤ◌, arith, refl, ap, subst, ◌∙◌}
use Rattle.std.proofs.lemmas.Bool.Decides.{nat_tests}
use Rattle.std.proofs.lemmas.Nat.{div-mul-add, mod-mul-add}
use Rattle.integers.specs.Sums.{int_sum_below, piece}
use Rattle.integers.proofs.Ring.{additive}
use Rattle.integers.proofs.ByIndex.{int_sum_below-same, int_sum_below-piece, int_sum_below-grid}
use Rattle.pool_model.specs.Network.{Net}
use Rattle.pool_model.specs.Plan.{Plan}
use Rattle.row_model.specs.Boxes.{Coord, prop, qual, flow, coords, prop_number, qual_number, flow_number, coord_at, Box, LiesIn, place, place_base}
use Rattle.row_model.specs.Variables.{PerVariable, path_count, variables, by_number, dot}
use Rattle.integers.proofs.Grids.{grid-below, grid-row, grid-column}

-- ---- coordinates
-- what holds of each proportion, quality and flow holds of each coordinate
pub at_coord : (n : Net) (P : Coord → Type 0)
    → ((e : ℕ) → e < n.feeds → P (prop e))
    → ((l k : ℕ) → l < n.pools → k < n.qualities → P (qual l k))
    → ((o : ℕ) → o < n.outs → P (flow o))
    → (c : ℕ) → c < coords n → P (coord_at n c)
at_coord n P at_prop at_qual at_flow c h = cases (nat_lt c n.feeds) (nat_lt (c - n.feeds) (n.pools * n.qualities)) refl refl
  where
    cases : (first second : Bool) → nat_lt c n.feeds ≡ first → nat_lt (c - n.feeds) (n.pools * n.qualities) ≡ second
        → P (if first then prop c else (if second then qual ((c - n.feeds) / n.qualities) ((c - n.feeds) % n.qualities) else flow (c - n.feeds - n.pools * n.qualities)))
    cases true second a b = at_prop c (grind (arith, nat_tests))
    cases false true a b =
        let inside : c - n.feeds < n.pools * n.qualities = grind (arith, nat_tests) in
        at_qual ((c - n.feeds) / n.qualities) ((c - n.feeds) % n.qualities) (grid-row n.pools n.qualities (c - n.feeds) inside) (grid-column n.pools n.qualities (c - n.feeds) inside)
    cases false false a b =
        let past : n.feeds ≤ c = grind (arith, nat_tests) in
        let behind : n.pools * n.qualities ≤ c - n.feeds = grind (arith, nat_tests) in
        at_flow (c - n.feeds - n.pools * n.qualities) (omega arith)

pub coord_at-prop : (n : Net) (e : ℕ) → e < n.feeds → coord_at n (prop_number n e) ≡ prop e
coord_at-prop n e h = let first : nat_lt e n.feeds ≡ true = grind (arith, nat_tests) in rw first refl

pub coord_at-qual : (n : Net) (l k : ℕ) → l < n.pools → k < n.qualities → coord_at n (qual_number n l k) ≡ qual l k
coord_at-qual n l k hl hk =
    let i = l * n.qualities + k in
    let inside : i < n.pools * n.qualities = grid-below n.pools n.qualities l k hl hk in
    let past : nat_lt (n.feeds + i) n.feeds ≡ false = grind (arith, nat_tests) in
    let from : n.feeds + i - n.feeds ≡ i = omega arith in
    let second : nat_lt i (n.pools * n.qualities) ≡ true = grind (arith, nat_tests) in
    let row : i / n.qualities ≡ l = div-mul-add l n.qualities k hk in
    let column : i % n.qualities ≡ k = mod-mul-add l n.qualities k hk in
    rw (past, from, second, row, column) refl

pub coord_at-flow : (n : Net) (o : ℕ) → o < n.outs → coord_at n (flow_number n o) ≡ flow o
coord_at-flow n o h =
    let i = n.pools * n.qualities + o in
    let past : nat_lt (n.feeds + i) n.feeds ≡ false = grind (arith, nat_tests) in
    let from : n.feeds + i - n.feeds ≡ i = omega arith in
    let behind : nat_lt i (n.pools * n.qualities) ≡ false = grind (arith, nat_tests) in
    let last : i - n.pools * n.qualities ≡ o = omega arith in
    rw (past, from, behind, last) refl

-- a plan's place on a coordinate lies between the ends of a number
pub record IsBetween (n : Net) (p : Plan) (b : Box) (number : ℕ) (c : Coord) : Type 0 where
  pub low : (b.low number *ℤ pos (place_base n p c)) ≤ℤ place n p c
  pub high : place n p c ≤ℤ (b.high number *ℤ pos (place_base n p c))

lies-at : (n : Net) (p : Plan) (b : Box) (number : ℕ) (c : Coord) → LiesIn n p b → number < coords n → coord_at n number ≡ c → IsBetween n p b number c
lies-at n p b number c h lt e =
    subst (λ (x : Coord). IsBetween n p b number x) e (record { low = h.low number lt; high = h.high number lt })

pub lies-prop : (n : Net) (p : Plan) (b : Box) (e : ℕ) → LiesIn n p b → e < n.feeds → IsBetween n p b (prop_number n e) (prop e)
lies-prop n p b e h lt = lies-at n p b (prop_number n e) (prop e) h (omega arith) (coord_at-prop n e lt)

pub lies-qual : (n : Net) (p : Plan) (b : Box) (l k : ℕ) → LiesIn n p b → l < n.pools → k < n.qualities → IsBetween n p b (qual_number n l k) (qual l k)
lies-qual n p b l k h hl hk = lies-at n p b (qual_number n l k) (qual l k) h (omega (arith, grid-below n.pools n.qualities l k hl hk)) (coord_at-qual n l k hl hk)

pub lies-flow : (n : Net) (p : Plan) (b : Box) (o : ℕ) → LiesIn n p b → o < n.outs → IsBetween n p b (flow_number n o) (flow o)
lies-flow n p b o h lt = lies-at n p b (flow_number n o) (flow o) h (omega arith) (coord_at-flow n o lt)

-- ---- variables
grid : (a v : ℕ → ℕ → ℤ) (m n : ℕ) → int_sum_below (λ i. a (i / n) (i % n) *ℤ v (i / n) (i % n)) (m * n) ≡ int_sum_below (λ l. int_sum_below (λ k. a l k *ℤ v l k) n) m
grid a v m n =
    int_sum_below-grid (λ i. a (i / n) (i % n) *ℤ v (i / n) (i % n)) m n
    ∙ int_sum_below-same (λ l. int_sum_below (λ k. a ((l * n + k) / n) ((l * n + k) % n) *ℤ v ((l * n + k) / n) ((l * n + k) % n)) n) (λ l. int_sum_below (λ k. a l k *ℤ v l k) n) m
    (λ l ll. int_sum_below-same (λ k. a ((l * n + k) / n) ((l * n + k) % n) *ℤ v ((l * n + k) / n) ((l * n + k) % n)) (λ k. a l k *ℤ v l k) n
    (λ k lk. ap (λ q. a q ((l * n + k) % n) *ℤ v q ((l * n + k) % n)) (div-mul-add l n k lk) ∙ ap (λ r. a l r *ℤ v l r) (mod-mul-add l n k lk)))

-- a sum over the variables by number is the sum kind by kind
pub by_number-dot : (n : Net) (a v : PerVariable) → int_sum_below (λ i. by_number n a i *ℤ by_number n v i) (variables n) ≡ dot n a v
by_number-dot n a v =
    let in_grid = λ (m : ℕ → ℕ → ℤ) (i : ℕ). m (i / n.qualities) (i % n.qualities) in
    let last = λ (u : PerVariable). piece (n.pools * n.qualities) (in_grid u.quality) (in_grid u.mixed) in
    let props = λ (u : PerVariable). piece n.feeds u.proportion (last u) in
    let ws = λ (u : PerVariable). piece (path_count n) u.w (props u) in
    let zs = λ (u : PerVariable). piece n.directs u.z (ws u) in
    let ys = λ (u : PerVariable). piece n.outs u.y (zs u) in
    let pools = n.pools * n.qualities in
    let outs = n.outs * n.qualities in
    omega (
      arith,
      additive,
      int_sum_below-piece n.feeds (n.outs + (n.directs + (path_count n + (n.feeds + (pools + outs))))) a.x (ys a) v.x (ys v),
      int_sum_below-piece n.outs (n.directs + (path_count n + (n.feeds + (pools + outs)))) a.y (zs a) v.y (zs v),
      int_sum_below-piece n.directs (path_count n + (n.feeds + (pools + outs))) a.z (ws a) v.z (ws v),
      int_sum_below-piece (path_count n) (n.feeds + (pools + outs)) a.w (props a) v.w (props v),
      int_sum_below-piece n.feeds (pools + outs) a.proportion (last a) v.proportion (last v),
      int_sum_below-piece pools outs (in_grid a.quality) (in_grid a.mixed) (in_grid v.quality) (in_grid v.mixed),
      grid a.quality v.quality n.pools n.qualities,
      grid a.mixed v.mixed n.outs n.qualities,
    )

-- what holds of two vectors on both pieces holds of them throughout
pub both_pieces : (m k : ℕ) (R : ℤ → ℤ → Type 0) (f g a b : ℕ → ℤ) → ((i : ℕ) → i < m → R (f i) (a i)) → ((i : ℕ) → i < k → R (g i) (b i))
    → (i : ℕ) → i < m + k → R (piece m f g i) (piece m a b i)
both_pieces m k R f g a b first rest i h = cases (nat_lt i m) refl
  where
    cases : (test : Bool) → nat_lt i m ≡ test → R (if test then f i else g (i - m)) (if test then a i else b (i - m))
    cases true e = first i (grind (arith, nat_tests))
    cases false e = let past : m ≤ i = grind (arith, nat_tests) in rest (i - m) (omega arith)

-- what holds of two numbers for each variable, kind by kind
pub record HoldsByKind (n : Net) (R : ℤ → ℤ → Type 0) (a v : PerVariable) : Type 0 where
  pub x : (e : ℕ) → e < n.feeds → R (a.x e) (v.x e)
  pub y : (o : ℕ) → o < n.outs → R (a.y o) (v.y o)
  pub z : (e : ℕ) → e < n.directs → R (a.z e) (v.z e)
  pub w : (q : ℕ) → q < path_count n → R (a.w q) (v.w q)
  pub proportion : (e : ℕ) → e < n.feeds → R (a.proportion e) (v.proportion e)
  pub quality : (l k : ℕ) → l < n.pools → k < n.qualities → R (a.quality l k) (v.quality l k)
  pub mixed : (o k : ℕ) → o < n.outs → k < n.qualities → R (a.mixed o k) (v.mixed o k)

-- holds of them by number
pub by_number-each : (n : Net) (R : ℤ → ℤ → Type 0) (a v : PerVariable) → HoldsByKind n R a v
    → (i : ℕ) → i < variables n → R (by_number n a i) (by_number n v i)
by_number-each n R a v h =
    let in_grid = λ (m : ℕ → ℕ → ℤ) (i : ℕ). m (i / n.qualities) (i % n.qualities) in
    let last = λ (u : PerVariable). piece (n.pools * n.qualities) (in_grid u.quality) (in_grid u.mixed) in
    let props = λ (u : PerVariable). piece n.feeds u.proportion (last u) in
    let ws = λ (u : PerVariable). piece (path_count n) u.w (props u) in
    let zs = λ (u : PerVariable). piece n.directs u.z (ws u) in
    let ys = λ (u : PerVariable). piece n.outs u.y (zs u) in
    let pools = n.pools * n.qualities in
    let outs = n.outs * n.qualities in
    both_pieces n.feeds (n.outs + (n.directs + (path_count n + (n.feeds + (pools + outs))))) R a.x (ys a) v.x (ys v) h.x
    (both_pieces n.outs (n.directs + (path_count n + (n.feeds + (pools + outs)))) R a.y (zs a) v.y (zs v) h.y
    (both_pieces n.directs (path_count n + (n.feeds + (pools + outs))) R a.z (ws a) v.z (ws v) h.z
    (both_pieces (path_count n) (n.feeds + (pools + outs)) R a.w (props a) v.w (props v) h.w
    (both_pieces n.feeds (pools + outs) R a.proportion (last a) v.proportion (last v) h.proportion
    (both_pieces pools outs R (in_grid a.quality) (in_grid a.mixed) (in_grid v.quality) (in_grid v.mixed)
    (λ i lt. h.quality (i / n.qualities) (i % n.qualities) (grid-row n.pools n.qualities i lt) (grid-column n.pools n.qualities i lt))
    (λ i lt. h.mixed (i / n.qualities) (i % n.qualities) (grid-row n.outs n.qualities i lt) (grid-column n.outs n.qualities i lt)))))))
