-- The rows of a group in the text are those of its families in the catalogue, but the envelopes.
use Rattle.std.proofs.Common.{All, ◌≡◌, ℕ, ◌+◌, ◌-◌, ◌*◌, ◌/◌, ◌%◌, ◌<◌, Bool, if◌then◌else◌, List, [], ◌∷◌, ◌++◌, arith, refl, sym, ap, subst, ◌∙◌, zero-add}
use Rattle.integers.proofs.Tabulate.{All-tabulate}
use Rattle.pool_model.specs.Network.{Net}
use Rattle.row_model.specs.Boxes.{root}
use Rattle.row_model.specs.Variables.{PerVariable, path_count}
use Rattle.row_model.specs.Catalogue.{Row, Family, network_families, p_families, q_families, pq_families, row_count, row_in, row_at, quality_envelope_row, proportion_envelope_row, HoldsOfEach}
use Rattle.row_model.specs.Lift.{MeetsRow}
use Rattle.row_book.specs.declared.catalogue.Group.{Group}
use Rattle.row_book.specs.declared.catalogue.Group.TheVariants as groups
use Rattle.row_book.specs.Exact.{first_of, exact_count}
use Rattle.row_model.proofs.Families.{test_true, test_false, row_count-append, row_in-front, row_in-behind, each_row}
use Rattle.program_model.specs.Rows.{exact_p_families, exact_q_families}
use Rattle.printed_program.specs.Numbers.{Numbers, Keeps}
use Rattle.printed_program.specs.Printed.{catalogue_row, group_rows}
use Rattle.printed_program.proofs.Lists.{at-tabulate}
use Rattle.printed_program.proofs.Terms.{AreNamed, row-meets, row-keeps}

-- ---- rows of families

-- what holds of each row by its number
pub of_each : (P : Row → Type 0) (fs : List Family) → ((i : ℕ) → i < row_count fs → P (row_in fs i)) → HoldsOfEach P fs
of_each P [] h = tt
of_each P (f ∷ fs) h = (
  λ i lt. subst P (ap (λ (test : Bool). if test then f.row i else row_in fs (i - f.count)) (test_true i f.count lt)) (h i (omega arith)),
  of_each P fs (λ i lt. subst P (behind f fs i) (h (f.count + i) (omega arith))),
)
  where
    behind : (f : Family) (fs : List Family) (i : ℕ) → row_in (f ∷ fs) (f.count + i) ≡ row_in fs i
    behind f fs i =
        ap (λ (test : Bool). if test then f.row (f.count + i) else row_in fs (f.count + i - f.count)) (test_false (f.count + i) f.count (omega arith))
        ∙ ap (row_in fs) (place f.count i)
      where
        place : (m i : ℕ) → m + i - m ≡ i
        place m i = omega arith

-- a row in the second, the third and the fourth of four lists of families
row_in-second : (a b c d : List Family) (i : ℕ) → i < row_count b → row_in (a ++ (b ++ (c ++ d))) (row_count a + i) ≡ row_in b i
row_in-second a b c d i lt =
    row_in-behind a (b ++ (c ++ d)) (row_count a + i) (omega arith) ∙ ap (row_in (b ++ (c ++ d))) (left (row_count a) i) ∙ row_in-front b (c ++ d) i lt
  where
    left : (x i : ℕ) → x + i - x ≡ i
    left x i = omega arith

row_in-third : (a b c d : List Family) (i : ℕ) → i < row_count c → row_in (a ++ (b ++ (c ++ d))) (row_count a + row_count b + i) ≡ row_in c i
row_in-third a b c d i lt =
    row_in-behind a (b ++ (c ++ d)) (row_count a + row_count b + i) (omega arith)
    ∙ row_in-behind b (c ++ d) (row_count a + row_count b + i - row_count a) (omega arith)
    ∙ ap (row_in (c ++ d)) (left (row_count a) (row_count b) i)
    ∙ row_in-front c d i lt
  where
    left : (x y i : ℕ) → x + y + i - x - y ≡ i
    left x y i = omega arith

row_in-fourth : (a b c d : List Family) (i : ℕ) → row_in (a ++ (b ++ (c ++ d))) (row_count a + row_count b + row_count c + i) ≡ row_in d i
row_in-fourth a b c d i =
    row_in-behind a (b ++ (c ++ d)) (row_count a + row_count b + row_count c + i) (omega arith)
    ∙ row_in-behind b (c ++ d) (row_count a + row_count b + row_count c + i - row_count a) (omega arith)
    ∙ row_in-behind c d (row_count a + row_count b + row_count c + i - row_count a - row_count b) (omega arith)
    ∙ ap (row_in d) (left (row_count a) (row_count b) (row_count c) i)
  where
    left : (x y z i : ℕ) → x + y + z + i - x - y - z ≡ i
    left x y z i = omega arith

-- ---- groups

-- the families of a group but its envelopes
abbrev pub exact_families : Net → Group → List Family
exact_families n groups.Network = network_families n
exact_families n groups.P = exact_p_families n
exact_families n groups.Q = exact_q_families n
exact_families n groups.Further = pq_families n

pub exact_count-is : (n : Net) (group : Group) → exact_count n group ≡ row_count (exact_families n group)
exact_count-is n groups.Network = refl
exact_count-is n groups.P = omega arith
exact_count-is n groups.Q = omega arith
exact_count-is n groups.Further = refl

-- the envelopes, which stand last
pub last_p : Net → List Family
last_p n = record { count = n.outs * (n.qualities * 4); row = λ i. quality_envelope_row n (root n) (i / (n.qualities * 4)) (i % (n.qualities * 4) / 4) (i % 4 + 1) } ∷ []

pub last_q : Net → List Family
last_q n = record { count = path_count n * 4; row = λ i. proportion_envelope_row n (root n) (i / 4) (i % 4 + 1) } ∷ []

pub families-p : (n : Net) → p_families n (root n) ≡ exact_p_families n ++ last_p n
unfolding last_p
families-p n = refl

pub families-q : (n : Net) → q_families n (root n) ≡ exact_q_families n ++ last_q n
unfolding last_q
families-q n = refl

pub exact-row : (n : Net) (group : Group) (i : ℕ) → i < row_count (exact_families n group) → row_at n (root n) (first_of n group + i) ≡ row_in (exact_families n group) i
exact-row n groups.Network i lt =
    ap (row_at n (root n)) (zero-add i) ∙ row_in-front (network_families n) (p_families n (root n) ++ (q_families n (root n) ++ pq_families n)) i lt
exact-row n groups.P i lt =
    row_in-second (network_families n) (p_families n (root n)) (q_families n (root n)) (pq_families n) i
    (omega (arith, lt, ap row_count (families-p n), row_count-append (exact_p_families n) (last_p n)))
    ∙ ap (λ (fs : List Family). row_in fs i) (families-p n) ∙ row_in-front (exact_p_families n) (last_p n) i lt
exact-row n groups.Q i lt =
    row_in-third (network_families n) (p_families n (root n)) (q_families n (root n)) (pq_families n) i
    (omega (arith, lt, ap row_count (families-q n), row_count-append (exact_q_families n) (last_q n)))
    ∙ ap (λ (fs : List Family). row_in fs i) (families-q n) ∙ row_in-front (exact_q_families n) (last_q n) i lt
exact-row n groups.Further i lt = row_in-fourth (network_families n) (p_families n (root n)) (q_families n (root n)) (pq_families n) i

-- ---- both ways

pub group-meets : (n : Net) (q : Numbers) (a : PerVariable) (group : Group) → AreNamed n q.value a → All (Keeps q) (group_rows n group)
    → HoldsOfEach (MeetsRow n a q.base) (exact_families n group)
group-meets n q a group h kept =
    of_each (MeetsRow n a q.base) (exact_families n group)
    (λ i lt. subst (MeetsRow n a q.base) (exact-row n group i lt)
    (row-meets n q a (first_of n group + i) h (at-tabulate (Keeps q) (λ j. catalogue_row n (first_of n group + j)) (exact_count n group) i kept (omega (arith, exact_count-is n group)))))

pub group-keeps : (n : Net) (q : Numbers) (a : PerVariable) (group : Group) → AreNamed n q.value a → HoldsOfEach (MeetsRow n a q.base) (exact_families n group)
    → All (Keeps q) (group_rows n group)
group-keeps n q a group h met =
    All-tabulate (Keeps q) (λ i. catalogue_row n (first_of n group + i)) (exact_count n group)
    (λ i lt. let inside : i < row_count (exact_families n group) = omega (arith, exact_count-is n group) in
    row-keeps n q a (first_of n group + i) h (subst (MeetsRow n a q.base) (sym (exact-row n group i inside)) (each_row (MeetsRow n a q.base) (exact_families n group) met i inside)))
