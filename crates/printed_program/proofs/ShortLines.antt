-- The numbers of a printed program are short: all are below 10^64 in size.
use Rattle.std.proofs.Common.{refl, All, ◌≡◌, ℕ, ◌+◌, ◌*◌, ◌/◌, ◌%◌, ◌^◌, ◌<◌, ◌≤◌, Bool, true, false, ◌==◌, if◌then◌else◌, [], ◌∷◌, ◌++◌, Option, ℤ, pos, neg_ℤ, ◌+ℤ◌, ◌-ℤ◌, ◌*ℤ◌, unsigned_abs}
use Rattle.std.proofs.Common.{arith, sym, ap, subst}
use Rattle.std.specs.Int.{int_min, int_max}
use Rattle.std.proofs.lemmas.Int.{ints, clamps}
use Rattle.std.proofs.lemmas.List.Elements.{All-nil, All-cons, All-append}
use Rattle.std.proofs.Math.Nat.{mul-le-mul}
use Rattle.integers.specs.Numbers.{tabulate}
use Rattle.integers.proofs.Order.{abs-mul-le}
use Rattle.integers.proofs.Grids.{grid-below, grid-row, grid-column}
use Rattle.integers.proofs.Tabulate.{All-tabulate}
use Rattle.pool_model.specs.Network.{Net, IsLimited, IsWithin as IsOfSize, capped}
use Rattle.pool_model.proofs.Capped.{capped-le}
use Rattle.row_model.specs.Boxes.{root, qual_number, flow_number, prop_number}
use Rattle.row_model.specs.Variables.{variables, by_number, costs, lows, highs, path_count, path_feed, path_out, least_product, greatest_product}
use Rattle.row_model.specs.Catalogue.{Kind, at_least, equal, Row, row_count, rows, row_at, HoldsOfEach}
use Rattle.row_model.proofs.Numbering.{by_number-each}
use Rattle.row_model.proofs.PathSums.{path_feed-below, path_out-below}
use Rattle.row_model.proofs.RootBox.{root-proper}
use Rattle.row_book.specs.declared.catalogue.Group.{Group}
use Rattle.row_book.specs.declared.catalogue.Group.TheVariants as groups
use Rattle.row_book.specs.Exact.{first_of, exact_count}
use Rattle.row_book.specs.PartRows.{coef_at, constant_at}
use Rattle.row_model.proofs.Families.{each_row, row_count-append}
use Rattle.row_book.proofs.Placing.{rows_is, row-written}
use Rattle.row_book.proofs.RowCount.{few-rows}
use Rattle.row_book.specs.Groups.{row_by}
use Rattle.box_space.specs.Lines.{Line, terms_from}
use Rattle.box_space.specs.Views.{shown_kind}
use Rattle.box_space.specs.Written.{IsLineOf}
use Rattle.box_space.specs.declared.rows.RowKind.{RowKind}
use Rattle.box_space.specs.declared.rows.RowKind.TheVariants.{AtLeast, Equal}
use Rattle.row_book.proofs.NearEnds.{AreNear, root-near}
use Rattle.box_space.specs.declared.coordinates.Form.{Form}
use Rattle.box_space.specs.declared.coordinates.Form.TheVariants.{P, Q, Pq}
use Rattle.program_model.specs.Rows.{exact_p_families, exact_q_families}
use Rattle.program_text.specs.Names.{name_of, has_symbol}
use Rattle.program_text.specs.declared.names.Name.{Name}
use Rattle.printed_program.specs.ProgramLines.{of_form, least, ends, finish, IsShortName, IsShortNumber, IsShortTerm, IsShort}
use Rattle.printed_program.specs.Printed.{named_term, named_terms, variable_line, variable_lines, catalogue_row, group_rows, mixed_product, path_product, form_rows, program_lines}
use Rattle.printed_program.proofs.Lists.{All-lists_below, All-optional}
use Rattle.printed_program.proofs.VariableKinds.{each_variable}
use Rattle.printed_program.proofs.Terms.{name-feed, name-out, name-direct, name-path, name-proportion, name-quality, name-mixed}
use Rattle.printed_program.proofs.Groups.{exact_families, exact_count-is, exact-row, families-p, families-q, last_p, last_q}

-- ---- sizes

-- a least and a greatest product of four ends that are at most 10^12 in size
least-short : (a b c d : ℤ) → unsigned_abs a ≤ 10 ^ 12 → unsigned_abs b ≤ 10 ^ 12 → unsigned_abs c ≤ 10 ^ 12 → unsigned_abs d ≤ 10 ^ 12 → IsShortNumber (least_product a b c d)
least-short a b c d ha hb hc hd =
    four (a *ℤ c) (a *ℤ d) (b *ℤ c) (b *ℤ d) (abs-mul-le a c (10 ^ 12) (10 ^ 12) ha hc) (abs-mul-le a d (10 ^ 12) (10 ^ 12) ha hd)
    (abs-mul-le b c (10 ^ 12) (10 ^ 12) hb hc) (abs-mul-le b d (10 ^ 12) (10 ^ 12) hb hd)
  where
    four : (p q r s : ℤ) → unsigned_abs p ≤ 10 ^ 12 * 10 ^ 12 → unsigned_abs q ≤ 10 ^ 12 * 10 ^ 12 → unsigned_abs r ≤ 10 ^ 12 * 10 ^ 12 → unsigned_abs s ≤ 10 ^ 12 * 10 ^ 12
        → IsShortNumber (int_min (int_min p q) (int_min r s))
    four p q r s hp hq hr hs = omega (arith, ints, clamps)

greatest-short : (a b c d : ℤ) → unsigned_abs a ≤ 10 ^ 12 → unsigned_abs b ≤ 10 ^ 12 → unsigned_abs c ≤ 10 ^ 12 → unsigned_abs d ≤ 10 ^ 12 → IsShortNumber (greatest_product a b c d)
greatest-short a b c d ha hb hc hd =
    four (a *ℤ c) (a *ℤ d) (b *ℤ c) (b *ℤ d) (abs-mul-le a c (10 ^ 12) (10 ^ 12) ha hc) (abs-mul-le a d (10 ^ 12) (10 ^ 12) ha hd)
    (abs-mul-le b c (10 ^ 12) (10 ^ 12) hb hc) (abs-mul-le b d (10 ^ 12) (10 ^ 12) hb hd)
  where
    four : (p q r s : ℤ) → unsigned_abs p ≤ 10 ^ 12 * 10 ^ 12 → unsigned_abs q ≤ 10 ^ 12 * 10 ^ 12 → unsigned_abs r ≤ 10 ^ 12 * 10 ^ 12 → unsigned_abs s ≤ 10 ^ 12 * 10 ^ 12
        → IsShortNumber (int_max (int_max p q) (int_max r s))
    four p q r s hp hq hr hs = omega (arith, ints, clamps)

near : (z : ℤ) → unsigned_abs z ≤ 10 ^ 12 → IsShortNumber z
near z h = omega (arith, h)

both : (a b : ℤ) → IsOfSize (10 ^ 12) a → IsOfSize (10 ^ 12) b → IsShortNumber (a +ℤ b)
both a b (low, high) (under, over) = omega (arith, ints)

less : (a b : ℤ) → IsOfSize (10 ^ 12) a → IsOfSize (10 ^ 12) b → IsShortNumber (a -ℤ b)
less a b (low, high) (under, over) = omega (arith, ints)

both-less : (a b c : ℤ) → IsOfSize (10 ^ 12) a → IsOfSize (10 ^ 12) b → IsOfSize (10 ^ 12) c → IsShortNumber (a +ℤ b -ℤ c)
both-less a b c (low, high) (under, over) (below, above) = omega (arith, ints)

-- an end that a maximum caps
capped-short : (o : Option ℕ) (amount m : ℕ) → amount ≤ m → m ≤ 10 ^ 14 → IsShortNumber (pos (capped o amount))
capped-short o amount m h k = omega (arith, capped-le o amount)

lesser : (o : Option ℕ) (m : ℕ) (z : ℤ) → m ≤ 10 ^ 14 → unsigned_abs z ≤ 10 ^ 12 → IsShortNumber (int_min (pos (capped o m)) z)
lesser o m z h k = omega (arith, ints, clamps, capped-le o m)

module _ (n : Net) (lim : IsLimited n) (few : path_count n ≤ 512) where
  -- ---- names

  renamed : (x name : Name) → x ≡ name → IsShortName name → IsShortName x
  renamed x name e h = subst IsShortName (sym e) h

  cells-few : (m i : ℕ) → m ≤ 256 → i < m * n.qualities → i < 10 ^ 64
  cells-few m i h lt = let most : m * n.qualities ≤ 256 * 8 = mul-le-mul h lim.qualities in omega (arith, most, lt)

  names-short : (v : ℕ) → v < variables n → IsShortName (name_of n v)
  names-short = each_variable n (λ v. IsShortName (name_of n v)) record {
    feed = λ e lt. renamed _ _ (name-feed n e lt) (omega (arith, lt, lim.feeds));
    out = λ o lt. renamed _ _ (name-out n o lt) (omega (arith, lt, lim.outs));
    direct = λ e lt. renamed _ _ (name-direct n e lt) (omega (arith, lt, lim.directs));
    path = λ a lt. renamed _ _ (name-path n a lt) (omega (arith, lt, few));
    proportion = λ e lt. renamed _ _ (name-proportion n e lt) (omega (arith, lt, lim.feeds));
    quality = λ i lt. renamed _ _ (name-quality n i lt) (cells-few n.pools i (omega (arith, lim.pools)) lt);
    mixed = λ i lt. renamed _ _ (name-mixed n i) (cells-few n.outs i lim.outs lt);
  }

  -- ---- terms

  terms-short : (c : ℕ → ℤ) → ((v : ℕ) → v < variables n → IsShortNumber (c v)) → All IsShortTerm (named_terms n c)
  terms-short c h =
      All-lists_below IsShortTerm (λ v. named_term n v (c v)) (variables n) (λ v lt. either (unsigned_abs (c v) == 0) v (names-short v lt, h v lt))
    where
      either : (test : Bool) (v : ℕ) → IsShortTerm record { name = name_of n v; coef = c v } → All IsShortTerm (if test then [] else record { name = name_of n v; coef = c v } ∷ [])
      either true v t = All-nil IsShortTerm
      either false v t = All-cons IsShortTerm record { name = name_of n v; coef = c v } [] t (All-nil IsShortTerm)

  costs-short : (v : ℕ) → v < variables n → IsShortNumber (by_number n (costs n) v)
  costs-short = by_number-each n (λ a b. IsShortNumber a) (costs n) (costs n) record {
    x = λ e lt. both (n.source_cost (n.feed_source e)) (n.feed_cost e) (lim.source_costs (n.feed_source e) (lim.feed_sources e lt)) (lim.feed_costs e lt);
    y = λ o lt. less (n.out_cost o) (n.price (n.out_product o)) (lim.out_costs o lt) (lim.prices (n.out_product o) (lim.out_products o lt));
    z = λ e lt. both-less (n.source_cost (n.direct_source e)) (n.direct_cost e) (n.price (n.direct_product e))
        (lim.source_costs (n.direct_source e) (lim.direct_sources e lt)) (lim.direct_costs e lt) (lim.prices (n.direct_product e) (lim.direct_products e lt));
    w = λ a lt. omega arith;
    proportion = λ e lt. omega arith;
    quality = λ l k lt lk. omega arith;
    mixed = λ o k lt lk. omega arith;
  }

  -- ---- ends

  flow-near : (o : ℕ) → o < n.outs → AreNear ((root n).low (flow_number n o)) ((root n).high (flow_number n o))
  flow-near o lt = root-near n lim (flow_number n o) (omega arith)

  quality-near : (l k : ℕ) → l < n.pools → k < n.qualities → AreNear ((root n).low (qual_number n l k)) ((root n).high (qual_number n l k))
  quality-near l k lt lk = root-near n lim (qual_number n l k) (omega (arith, grid-below n.pools n.qualities l k lt lk))

  proportion-near : (e : ℕ) → e < n.feeds → AreNear ((root n).low (prop_number n e)) ((root n).high (prop_number n e))
  proportion-near e lt = root-near n lim (prop_number n e) (omega arith)

  lows-short : (v : ℕ) → v < variables n → IsShortNumber (by_number n (lows n (root n)) v)
  lows-short = by_number-each n (λ a b. IsShortNumber a) (lows n (root n)) (lows n (root n)) record {
    x = λ e lt. omega arith;
    y = λ o lt. near ((root n).low (flow_number n o)) (flow-near o lt).low;
    z = λ e lt. omega arith;
    w = λ a lt. omega arith;
    proportion = λ e lt. near ((root n).low (prop_number n e)) (proportion-near e lt).low;
    quality = λ l k lt lk. near ((root n).low (qual_number n l k)) (quality-near l k lt lk).low;
    mixed = λ o k lt lk.
        let p = quality-near (n.out_pool o) k (lim.out_pools o lt) lk in
        let y = flow-near o lt in
        least-short ((root n).low (qual_number n (n.out_pool o) k)) ((root n).high (qual_number n (n.out_pool o) k)) ((root n).low (flow_number n o)) ((root n).high (flow_number n o))
        p.low p.high y.low y.high;
  }

  highs-short : (v : ℕ) → v < variables n → IsShortNumber (by_number n (highs n (root n)) v)
  highs-short = by_number-each n (λ a b. IsShortNumber a) (highs n (root n)) (highs n (root n)) record {
    x = λ e lt. capped-short (n.feed_max e) _ (n.source_max (n.feed_source e)) (omega arith) (lim.source_maxima (n.feed_source e) (lim.feed_sources e lt));
    y = λ o lt. near ((root n).high (flow_number n o)) (flow-near o lt).high;
    z = λ e lt. capped-short (n.direct_max e) _ (n.source_max (n.direct_source e)) (omega arith) (lim.source_maxima (n.direct_source e) (lim.direct_sources e lt));
    w = λ a lt. lesser (n.feed_max (path_feed n a)) (n.source_max (n.feed_source (path_feed n a))) ((root n).high (flow_number n (path_out n a)))
        (lim.source_maxima (n.feed_source (path_feed n a)) (lim.feed_sources (path_feed n a) (path_feed-below n a lt))) (flow-near (path_out n a) (path_out-below n a lt)).high;
    proportion = λ e lt. near ((root n).high (prop_number n e)) (proportion-near e lt).high;
    quality = λ l k lt lk. near ((root n).high (qual_number n l k)) (quality-near l k lt lk).high;
    mixed = λ o k lt lk.
        let p = quality-near (n.out_pool o) k (lim.out_pools o lt) lk in
        let y = flow-near o lt in
        greatest-short ((root n).low (qual_number n (n.out_pool o) k)) ((root n).high (qual_number n (n.out_pool o) k)) ((root n).low (flow_number n o)) ((root n).high (flow_number n o))
        p.low p.high y.low y.high;
  }

  variables-short : (form : Form) → All IsShort (variable_lines n form)
  variables-short form =
      All-lists_below IsShort (variable_line n form) (variables n)
      (λ v lt. All-optional IsShort (has_symbol form (name_of n v).symbol) (ends (name_of n v) (by_number n (lows n (root n)) v) (by_number n (highs n (root n)) v))
      (λ has. (names-short v lt, lows-short v lt, highs-short v lt)))

  -- ---- rows

  numbers-below : (group : Group) (i : ℕ) → i < exact_count n group → first_of n group + i < rows n
  numbers-below groups.Network i lt = omega (arith, rows_is n, lt)
  numbers-below groups.P i lt = omega (arith, rows_is n, lt, exact_count-is n groups.P, ap row_count (families-p n), row_count-append (exact_p_families n) (last_p n))
  numbers-below groups.Q i lt = omega (arith, rows_is n, lt, exact_count-is n groups.Q, ap row_count (families-q n), row_count-append (exact_q_families n) (last_q n))
  numbers-below groups.Further i lt = omega (arith, rows_is n, lt)

  constants-short : (group : Group) → HoldsOfEach (λ r. IsShortNumber r.constant) (exact_families n group)
  constants-short groups.Network = (
    λ i lt. omega (arith, lim.source_maxima i lt),
    (
      λ l lt. omega arith,
      (
        λ l lt. omega (arith, lim.pool_maxima l lt),
        (λ j lt. omega (arith, lim.product_maxima j lt), (λ j lt. minus (n.product_min j) (omega (arith, lim.product_minima j lt, lim.product_maxima j lt)), tt)),
      ),
    ),
  )
    where
      minus : (m : ℕ) → m ≤ 10 ^ 12 → IsShortNumber (neg_ℤ (pos m))
      minus m h = omega (arith, ints)
  constants-short groups.P = (λ i lt. omega arith, (λ i lt. omega arith, (λ i lt. omega arith, tt)))
  constants-short groups.Q = (λ l lt. omega arith, (λ e lt. omega arith, (λ i lt. omega arith, (λ i lt. omega arith, tt))))
  constants-short groups.Further = (λ o lt. omega arith, (λ e lt. omega arith, tt))

  -- the row of a number as it is kept, whose coefficients are small
  kept : (id : ℕ) → Line
  kept id = record { terms = terms_from 0 (by_number n (row_at n (root n) id).coefs) (variables n); constant = (row_at n (root n) id).constant }

  said : Kind → RowKind
  said at_least = AtLeast
  said equal = Equal

  kept-line : (id : ℕ) → IsLineOf n (row_by n (root n) id) (kept id) (said (row_at n (root n) id).kind)
  unfolding row_by kept said
  kept-line id = record { terms = refl; constant = refl; kind = same (row_at n (root n) id).kind }
    where
      same : (kind : Kind) → shown_kind (said kind) ≡ kind
      same at_least = refl
      same equal = refl

  coef-short : (id v : ℕ) → id < rows n → v < variables n → IsShortNumber (coef_at n (root n) id v)
  coef-short id v lt lv =
      wide (coef_at n (root n) id v) ((row-written n (root n) id (kept id) (said (row_at n (root n) id).kind) lim (root-proper n lim) lt (kept-line id)).small v lv)
    where
      wide : (z : ℤ) → unsigned_abs z < 2 ^ 48 → IsShortNumber z
      wide z h = omega (arith, h)

  row-short : (id : ℕ) → id < rows n → IsShortNumber (row_at n (root n) id).constant → IsShort (catalogue_row n id)
  unfolding constant_at
  row-short id lt constant = (
    omega (arith, lt, few-rows n lim few),
    constant,
    terms-short (coef_at n (root n) id) (λ v lv. coef-short id v lt lv),
  )

  group-short : (group : Group) → All IsShort (group_rows n group)
  group-short group =
      All-tabulate IsShort (λ i. catalogue_row n (first_of n group + i)) (exact_count n group)
      (λ i lt. let inside : i < row_count (exact_families n group) = omega (arith, lt, exact_count-is n group) in
      row-short (first_of n group + i) (numbers-below group i lt)
      (subst (λ (r : Row). IsShortNumber r.constant) (sym (exact-row n group i inside)) (each_row (λ r. IsShortNumber r.constant) (exact_families n group) (constants-short group) i inside)))

  -- ---- products

  mixed-short : All IsShort (tabulate (mixed_product n) (n.outs * n.qualities))
  mixed-short =
      All-tabulate IsShort (mixed_product n) (n.outs * n.qualities)
      (λ i lt. let o = i / n.qualities in
      let k = i % n.qualities in
      let lo = grid-row n.outs n.qualities i lt in (
        cells-few n.outs i lim.outs lt,
        cells-few n.pools (n.out_pool o * n.qualities + k) (omega (arith, lim.pools)) (grid-below n.pools n.qualities (n.out_pool o) k (lim.out_pools o lo) (grid-column n.outs n.qualities i lt)),
        omega (arith, lo, lim.outs),
        omega arith,
      ))

  paths-short : All IsShort (tabulate (path_product n) (path_count n))
  paths-short =
      All-tabulate IsShort (path_product n) (path_count n)
      (λ a lt. (omega (arith, lt, few), omega (arith, path_feed-below n a lt, lim.feeds), omega (arith, path_out-below n a lt, lim.outs), omega arith))

  -- ---- programs

  q-short : All IsShort (group_rows n groups.Q ++ tabulate (path_product n) (path_count n))
  q-short = All-append IsShort (group_rows n groups.Q) (tabulate (path_product n) (path_count n)) (group-short groups.Q) paths-short

  form-short : (form : Form) → All IsShort (form_rows n form)
  form-short P = All-append IsShort (group_rows n groups.P) (tabulate (mixed_product n) (n.outs * n.qualities)) (group-short groups.P) mixed-short
  form-short Q = q-short
  form-short Pq = All-append IsShort (group_rows n groups.Q ++ tabulate (path_product n) (path_count n)) (group_rows n groups.Further) q-short (group-short groups.Further)

  pub program-short : (form : Form) → All IsShort (program_lines n form)
  program-short form =
      let own = form_rows n form ++ finish ∷ [] in
      let rest = group_rows n groups.Network ++ own in
      let body = variable_lines n form ++ rest in
      let cost = least (named_terms n (by_number n (costs n))) in
      All-cons IsShort (of_form form) (cost ∷ body) tt
      (All-cons IsShort cost body (terms-short (by_number n (costs n)) costs-short)
      (All-append IsShort (variable_lines n form) rest (variables-short form)
      (All-append IsShort (group_rows n groups.Network) own (group-short groups.Network)
      (All-append IsShort (form_rows n form) (finish ∷ []) (form-short form) (All-cons IsShort finish [] tt (All-nil IsShort))))))
