-- The network that a number makes. All its numbers are drawn, one after another.
use Rattle.std.specs.Prelude.{ℕ, ◌+◌, ◌*◌, ◌%◌, ◌==◌, ◌||◌, List, [], ◌∷◌, ◌++◌, map, filter, Bool, Some, None, pos, codes}
use Rattle.std.specs.List.{flat_map}
use Rattle.integers.specs.Numbers.{tabulate}
use Rattle.pool_model.specs.Network.{Source, Pool, Product, Arc, Network}
use Rattle.drawn_numbers.specs.Draws.{state_after, draw}

-- whole units, and tenths of a unit, in millionths
abbrev pub in_units : ℕ → ℕ
in_units n = n * 1000000

abbrev pub in_tenths : ℕ → ℕ
in_tenths n = n * 100000

-- the numbers from 0 up to a count
abbrev pub below : ℕ → List ℕ
below n = tabulate (λ i. i) n

-- ---- nodes, with what is drawn for them from the state that they find

-- a letter and a digit
abbrev pub named : List ℕ → ℕ → List ℕ
named letter n = letter ++ (48 + n) ∷ []

abbrev pub named_source : ℕ → List ℕ
named_source i = named (codes "S") i

abbrev pub named_pool : ℕ → List ℕ
named_pool l = named (codes "P") l

abbrev pub named_product : ℕ → List ℕ
named_product j = named (codes "X") j

abbrev pub named_quality : ℕ → List ℕ
named_quality k = named (codes "K") k

-- four draws: the cost, each quality, the maximum
abbrev pub drawn_source : ℕ → ℕ → Source
drawn_source s i = record {
  name = named_source i;
  cost = pos (in_units (5 + draw s 0 20));
  max = in_units (50 + draw s 3 151);
  quality = pos (in_tenths (10 + draw s 1 41)) ∷ pos (in_tenths (10 + draw s 2 41)) ∷ [];
}

-- one draw: the maximum. A made pool removes nothing.
abbrev pub drawn_pool : ℕ → ℕ → Pool
drawn_pool s l = record { name = named_pool l; max = in_units (100 + draw s 0 201); ratio = 1000 ∷ 1000 ∷ [] }

-- four draws: the price, the maximum, the most of each quality
abbrev pub drawn_product : ℕ → ℕ → Product
drawn_product s j = record {
  name = named_product j;
  price = pos (in_units (15 + draw s 0 20));
  min = 0;
  max = in_units (50 + draw s 1 101);
  least = None ∷ None ∷ [];
  most = Some (pos (in_tenths (15 + draw s 2 21))) ∷ Some (pos (in_tenths (15 + draw s 3 21))) ∷ [];
}

-- ---- arcs

-- a made arc costs nothing and has no maximum
abbrev pub arc : ℕ → ℕ → Arc
arc from to = record { from = from; to = to; cost = pos 0; max = None }

-- a source feeds the pool that is the rest of its number by three, and that of the number behind it
abbrev pub feeds_pool : ℕ → ℕ → Bool
feeds_pool i l = (i % 3 == l) || ((i + 1) % 3 == l)

-- the pools that a source feeds
abbrev pub fed_pools : ℕ → List ℕ
fed_pools i = filter (feeds_pool i) (below 3)

-- ---- the network

-- the sources take the first 40 draws, the pools the next three, the products the last 24
unfoldable pub generated : ℕ → Network
generated seed = record {
  qualities = tabulate named_quality 2;
  sources = tabulate (λ i. drawn_source (state_after seed (4 * i)) i) 10;
  pools = tabulate (λ l. drawn_pool (state_after seed (40 + l)) l) 3;
  products = tabulate (λ j. drawn_product (state_after seed (43 + 4 * j)) j) 6;
  feeds = flat_map (λ i. map (arc i) (fed_pools i)) (below 10);
  outs = flat_map (λ l. map (arc l) (below 6)) (below 3);
  directs = map (λ i. arc i i) (below 6);
}
