-- Groups of rows, and which forms have them.
use Rattle.std.specs.Prelude.{◌≡◌, ℕ, ◌-◌, ◌<◌, nat_lt, if◌then◌else◌, Bool, true, false, List}
use Rattle.pool_model.specs.Network.{Net}
use Rattle.row_model.specs.Boxes.{Box, root}
use Rattle.row_model.specs.Catalogue.{Family, Row, network_families, p_families, q_families, pq_families, row_count, row_in, row_at}
use Rattle.box_space.specs.declared.coordinates.Form as form
use Rattle.box_space.specs.declared.coordinates.Form.TheVariants as forms
use Rattle.row_book.specs.declared.catalogue.Group.{Group}
use Rattle.row_book.specs.declared.catalogue.Group.TheVariants.{Network, P, Q, Further}

-- the group of a row, by how many rows the first three groups have
abbrev pub group_by : (network by_quality by_proportion id : ℕ) → Group
group_by network by_quality by_proportion id =
    if nat_lt id network then Network
    else (if nat_lt (id - network) by_quality then P
    else (if nat_lt (id - network - by_quality) by_proportion then Q else Further))

-- the group of a row: the network's rows first, then those of P, of Q, and the further ones of PQ
abbrev pub group_of : Net → ℕ → Group
group_of n id = group_by (row_count (network_families n)) (row_count (p_families n (root n))) (row_count (q_families n (root n))) id

-- P has the network's rows and its own; Q likewise; PQ has those of Q too
abbrev pub takes : form.Form → Group → Bool
takes forms.P Network = true
takes forms.P P = true
takes forms.P Q = false
takes forms.P Further = false
takes forms.Q Network = true
takes forms.Q P = false
takes forms.Q Q = true
takes forms.Q Further = false
takes forms.Pq Network = true
takes forms.Pq P = false
takes forms.Pq Q = true
takes forms.Pq Further = true

-- the families of a group
abbrev pub families_of : Net → Box → Group → List Family
families_of n b Network = network_families n
families_of n b P = p_families n b
families_of n b Q = q_families n b
families_of n b Further = pq_families n

-- how many rows a group has: in every box as many
abbrev pub group_count : Net → Group → ℕ
group_count n group = row_count (families_of n (root n) group)

-- a row of a group and a row of the catalogue, sealed: a proof that speaks of them does not open them
unfoldable pub row_in_group : Net → Box → Group → ℕ → Row
row_in_group n b group number = row_in (families_of n b group) number

unfoldable pub row_by : Net → Box → ℕ → Row
row_by n b id = row_at n b id

-- a row of the catalogue has this number in this group
pub record IsPlaced (n : Net) (id : ℕ) (group : Group) (number : ℕ) : Type 0 where
  pub grouped : group ≡ group_of n id
  pub among : number < group_count n group
  pub same : (b : Box) → row_by n b id ≡ row_in_group n b group number
