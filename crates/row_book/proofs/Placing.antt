-- The group of a row and its number there.
use Rattle.std.proofs.Common.{◌≡◌, ℕ, ◌+◌, ◌-◌, ◌<◌, ◌≤◌, ◌++◌, refl, arith, sym, ap, subst, ◌∙◌}
use Rattle.pool_model.specs.Network.{Net, IsLimited}
use Rattle.row_model.specs.Boxes.{Box, root, IsProper}
use Rattle.row_model.specs.Catalogue.{Row, network_families, p_families, q_families, pq_families, row_count, row_in, rows}
use Rattle.row_book.specs.declared.catalogue.Group.TheVariants.{Network, P, Q, Further}
use Rattle.row_book.specs.Groups.{group_by, row_by, row_in_group, IsPlaced}
use Rattle.row_book.specs.PartRows.{kind_at, coef_at, constant_at, IsRow}
use Rattle.row_book.proofs.RowSizes.{coef-small}
use Rattle.box_space.specs.Lines.{Line}
use Rattle.box_space.specs.Views.{shown_kind}
use Rattle.box_space.specs.Written.{IsLineOf}
use Rattle.box_space.specs.declared.rows.RowKind.{RowKind}
use Rattle.row_model.proofs.Families.{test_true, test_false, row_count-append, row_in-front, row_in-behind}

-- how many rows there are, group by group
pub rows_is : (n : Net) → rows n ≡ row_count (network_families n) + (row_count (p_families n (root n)) + (row_count (q_families n (root n)) + row_count (pq_families n)))
rows_is n =
    row_count-append (network_families n) (p_families n (root n) ++ (q_families n (root n) ++ pq_families n))
    ∙ ap (λ (z : ℕ). row_count (network_families n) + z) (row_count-append (p_families n (root n)) (q_families n (root n) ++ pq_families n)
    ∙ ap (λ (z : ℕ). row_count (p_families n (root n)) + z) (row_count-append (q_families n (root n)) (pq_families n)))

group-network : (a b d id : ℕ) → id < a → Network ≡ group_by a b d id
group-network a b d id h = rw (test_true id a h) refl

group-p : (a b d id : ℕ) → a ≤ id → id - a < b → P ≡ group_by a b d id
group-p a b d id h k = rw (test_false id a h, test_true (id - a) b k) refl

group-q : (a b d id : ℕ) → a ≤ id → b ≤ id - a → id - a - b < d → Q ≡ group_by a b d id
group-q a b d id h k l = rw (test_false id a h, test_false (id - a) b k, test_true (id - a - b) d l) refl

group-further : (a b d id : ℕ) → a ≤ id → b ≤ id - a → d ≤ id - a - b → Further ≡ group_by a b d id
group-further a b d id h k l = rw (test_false id a h, test_false (id - a) b k, test_false (id - a - b) d l) refl

pub placed-network : (n : Net) (id : ℕ) → id < row_count (network_families n) → IsPlaced n id Network id
unfolding row_by row_in_group
placed-network n id h = record {
  grouped = group-network (row_count (network_families n)) (row_count (p_families n (root n))) (row_count (q_families n (root n))) id h;
  among = h;
  same = λ b. row_in-front (network_families n) (p_families n b ++ (q_families n b ++ pq_families n)) id h;
}

pub placed-p : (n : Net) (id a : ℕ) → a ≡ row_count (network_families n) → a ≤ id → id - a < row_count (p_families n (root n)) → IsPlaced n id P (id - a)
unfolding row_by row_in_group
placed-p n id a e h k =
    let first = row_count (network_families n) in
    let past : first ≤ id = omega (arith, e) in
    let number = ap (λ (z : ℕ). id - z) (sym e) in
    let inside : id - first < row_count (p_families n (root n)) = omega (arith, e, k) in
    subst (λ (z : ℕ). IsPlaced n id P z) number record {
      grouped = group-p first (row_count (p_families n (root n))) (row_count (q_families n (root n))) id past inside;
      among = inside;
      same = λ b. row_in-behind (network_families n) (p_families n b ++ (q_families n b ++ pq_families n)) id past
          ∙ row_in-front (p_families n b) (q_families n b ++ pq_families n) (id - first) inside;
    }

pub placed-q : (n : Net) (id a d : ℕ) → a ≡ row_count (network_families n) → d ≡ row_count (p_families n (root n)) → a ≤ id → d ≤ id - a
    → id - a - d < row_count (q_families n (root n)) → IsPlaced n id Q (id - a - d)
unfolding row_by row_in_group
placed-q n id a d e f h k l =
    let first = row_count (network_families n) in
    let second = row_count (p_families n (root n)) in
    let past : first ≤ id = omega (arith, e) in
    let behind : second ≤ id - first = omega (arith, e, f, k) in
    let number : id - first - second ≡ id - a - d = omega (arith, e, f) in
    let inside : id - first - second < row_count (q_families n (root n)) = omega (arith, e, f, l) in
    subst (λ (z : ℕ). IsPlaced n id Q z) number record {
      grouped = group-q first second (row_count (q_families n (root n))) id past behind inside;
      among = inside;
      same = λ b. row_in-behind (network_families n) (p_families n b ++ (q_families n b ++ pq_families n)) id past
          ∙ row_in-behind (p_families n b) (q_families n b ++ pq_families n) (id - first) behind
          ∙ row_in-front (q_families n b) (pq_families n) (id - first - second) inside;
    }

pub placed-further : (n : Net) (id a d f : ℕ) → a ≡ row_count (network_families n) → d ≡ row_count (p_families n (root n)) → f ≡ row_count (q_families n (root n))
    → a ≤ id → d ≤ id - a → f ≤ id - a - d → id < rows n → IsPlaced n id Further (id - a - d - f)
unfolding row_by row_in_group
placed-further n id a d f e g m h k l lt =
    let first = row_count (network_families n) in
    let second = row_count (p_families n (root n)) in
    let third = row_count (q_families n (root n)) in
    let past : first ≤ id = omega (arith, e) in
    let behind : second ≤ id - first = omega (arith, e, g, k) in
    let after : third ≤ id - first - second = omega (arith, e, g, m, l) in
    let number : id - first - second - third ≡ id - a - d - f = omega (arith, e, g, m) in
    let inside : id - first - second - third < row_count (pq_families n) = omega (arith, rows_is n, lt, past, behind, after) in
    subst (λ (z : ℕ). IsPlaced n id Further z) number record {
      grouped = group-further first second third id past behind after;
      among = inside;
      same = λ b. row_in-behind (network_families n) (p_families n b ++ (q_families n b ++ pq_families n)) id past
          ∙ row_in-behind (p_families n b) (q_families n b ++ pq_families n) (id - first) behind
          ∙ row_in-behind (q_families n b) (pq_families n) (id - first - second) after;
    }

-- ---- the row of a number, where it is a row of a group

pub line-network : (n : Net) (b : Box) (id number : ℕ) (row : Row) (line : Line) (said : RowKind) → row_by n b id ≡ row_in_group n b Network number
    → row ≡ row_in (network_families n) number → IsLineOf n row line said → IsLineOf n (row_by n b id) line said
unfolding row_in_group
line-network n b id number row line said same is h = subst (λ (r : Row). IsLineOf n r line said) (is ∙ sym same) h

pub line-p : (n : Net) (b : Box) (id number : ℕ) (line : Line) (said : RowKind) → row_by n b id ≡ row_in_group n b P number
    → IsLineOf n (row_in (p_families n b) number) line said → IsLineOf n (row_by n b id) line said
unfolding row_in_group
line-p n b id number line said same h = subst (λ (r : Row). IsLineOf n r line said) (sym same) h

pub line-q : (n : Net) (b : Box) (id number : ℕ) (line : Line) (said : RowKind) → row_by n b id ≡ row_in_group n b Q number
    → IsLineOf n (row_in (q_families n b) number) line said → IsLineOf n (row_by n b id) line said
unfolding row_in_group
line-q n b id number line said same h = subst (λ (r : Row). IsLineOf n r line said) (sym same) h

pub line-further : (n : Net) (b : Box) (id number : ℕ) (line : Line) (said : RowKind) → row_by n b id ≡ row_in_group n b Further number
    → IsLineOf n (row_in (pq_families n) number) line said → IsLineOf n (row_by n b id) line said
unfolding row_in_group
line-further n b id number line said same h = subst (λ (r : Row). IsLineOf n r line said) (sym same) h

-- the line of a row, sealed
pub row-written : (n : Net) (b : Box) (id : ℕ) (line : Line) (said : RowKind) → IsLimited n → IsProper n b → id < rows n
    → IsLineOf n (row_by n b id) line said → IsRow n b id line
unfolding row_by coef_at constant_at
row-written n b id line said limited proper lt h = record { terms = h.terms; constant = h.constant; small = coef-small n b id limited proper lt }

pub kind-written : (n : Net) (b : Box) (id : ℕ) (line : Line) (said : RowKind) → IsLineOf n (row_by n b id) line said → shown_kind said ≡ kind_at n b id
unfolding row_by kind_at
kind-written n b id line said h = h.kind
